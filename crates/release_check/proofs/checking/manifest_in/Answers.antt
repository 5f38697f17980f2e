use Rattle.std.proofs.Common.{◌∙◌, ap, sym}
use Rattle.release_manifest.specs.Reading.{manifest_text_fault}
use Rattle.release_check.proofs.Folders.{refused_text}
use Rattle.release_check.proofs.checking.manifest_in.Goals as goal

pub returns-in-Err-clause-fault : goal.returns-in-Err-clause-fault
returns-in-Err-clause-fault c =
    rw c.of_manifest.ensures (refused_text c.args.text.now c.in-Err.fault (λ ne. ap manifest_text_fault (sym c.as_slice.ensures) ∙ c.in-Err.ensures.fault ne))
