-- What was read of a source up to a limit is a prefix of all that it tells.
use Rattle.std.proofs.Common.{◌≡◌, ℕ, ◌<◌, ◌≤◌, List, [], ◌++◌, length, take, Option, None, Some, IfSome, ⊎_elim, ap, sym, ◌∙◌, append-nil}
use Rattle.std.proofs.lemmas.Bool.Decides.{leb_tells}
use Rattle.std.proofs.lemmas.List.{take_all, take-append-le}
use Rattle.td_base.specs.Transfer.{IsWhole}

-- of a whole so much was read, or all
prefix_of : (most : ℕ) (bytes rest : List ℕ) → length bytes ≤ most → (length bytes < most → rest ≡ [])
    → take most (bytes ++ rest) ≡ bytes
prefix_of most bytes rest within ended = ⊎_elim
    (λ long. take-append-le most bytes rest long.1 ∙ take_all most bytes within)
    (λ short. ap (λ r. take most (bytes ++ r)) (ended short.1) ∙ (ap (take most) (append-nil bytes) ∙ take_all most bytes within))
    (leb_tells most (length bytes))

pub prefix_read : (most : ℕ) (old new : Option (List ℕ)) (bytes : List ℕ) → IsWhole most old new bytes
    → IfSome old (λ whole. bytes ≡ take most whole)
prefix_read most None new bytes reads = tt
prefix_read most (Some whole) None bytes reads = absurd reads.taken
prefix_read most (Some whole) (Some rest) bytes reads =
    sym (ap (take most) reads.taken ∙ prefix_of most bytes rest reads.within reads.ended)
