use Rattle.std.proofs.Common.{inl, inr, refl}
use Rattle.plain_commands.proofs.answering.serve_last.Goals as goal

pub returns-in-Ok : goal.returns-in-Ok
returns-in-Ok g c = inl (c.serve-end.result, c.status_of.ensures, rw c.in-Ok.ensures.0 at c.serve-end.ensures)

pub returns-in-Err : goal.returns-in-Err
returns-in-Err g c = inr (refl, (refl, refl))
