use Rattle.std.proofs.Common.{◌≡◌}
use Rattle.negotiate.specs.Choices.{chosen_format, best_format, formats}
use Rattle.negotiate.proofs.choosing.choose.Goals as goal

pub returns-in-Some : goal.returns-in-Some
unfolding chosen_format
returns-in-Some c = let h : c.best_format.result ≡ best_format c.in-Some.field.now formats = c.best_format.ensures in rw c.in-Some.is h
