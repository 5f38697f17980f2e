use Rattle.std.proofs.Common.{refl}
use Rattle.release_manifest.proofs.ReadingLemmas.{bytes_read, value_refused}
use Rattle.release_manifest.proofs.reading.read_value.Goals as goal

pub returns-in-Ok : goal.returns-in-Ok
returns-in-Ok c = bytes_read _ _ _ c.in-Ok.ensures.cases.1 (rw c.in-Ok.ensures.cases.0 at c.read_document.ensures)

pub returns-in-Err : goal.returns-in-Err
returns-in-Err c = λ n. (refl, value_refused _ (λ utf8. absurd (c.in-Err.ensures.cases.0 utf8)))
