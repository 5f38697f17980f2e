use Rattle.std.proofs.Common.{◌≢◌, Err, ap, refl}
use Rattle.json.specs.declared.error.Error.TheVariants as unread
use Rattle.release_manifest.proofs.ReadingLemmas.{whole_read, more_left, none_read}
use Rattle.release_manifest.proofs.reading.read_document.Goals as goal

pub returns-in-Err-read : goal.returns-in-Err-read
returns-in-Err-read c = λ n.
    let memory : c.in-Err-read.error ≢ unread.OutOfMemory = λ m. n (c.refusal.ensures.memory m) in (
      c.refusal.ensures.syntax memory,
      none_read _ _ memory (λ h. c.in-Err-read.ensures.never_too_long (ap Err h)) (λ h. c.in-Err-read.ensures.never_duplicate (ap Err h))
          (λ h. rw c.in-Ok.ensures.ok at (c.in-Err-read.ensures.invalid (ap Err h))),
    )

pub returns-in-Some : goal.returns-in-Some
returns-in-Some c = λ n. (refl, more_left _ _ _ _ _ (rw c.in-Ok.ensures.ok at c.in-Ok-read.ensures.ok) c.in-Some.ensures.value)

pub returns : goal.returns
returns c = whole_read _ _ _ (rw c.in-Ok.ensures.ok at c.in-Ok-read.ensures.ok) c.in-None.ensures.value.0
