use Rattle.std.proofs.Common.{◌≡◌, length, All}
use Rattle.left_right.specs.Sides.{view}
use Rattle.publication.specs.Histories.{values, ended_in}
use Rattle.publication.specs.Views.{IsNewDesk}
use Rattle.publication.proofs.making.desks_of.Given as goal

abbrev pub invariant-loop : goal.invariant-loop
invariant-loop g l = (view l.stage.desk.place ≡ view l.fn.stage.desk.place) × (length l.made.items ≡ l.counter)
    × All (λ d. IsNewDesk l.fn.edition.prefix.book (values l.fn.edition.prefix.log) (ended_in l.fn.edition.prefix.log) d) l.made.items
