-- Faults that are looked for one after another.
use Rattle.std.proofs.Common.{◌≡◌, ◌≢◌, ℕ, List, [], Option, None, Some, length, refl, ap, ◌∙◌}
use Rattle.release_manifest.specs.declared.manifest_type.Manifest.{Manifest}
use Rattle.td_base.specs.FirstFault.{◌or_else◌}
use Rattle.release_check.specs.Before.{Before, stamp_fault, drop_fault, place_fault}
use Rattle.release_check.specs.Faults.{names_in, limit_fault, identifier_fault, duplicate_fault}
use Rattle.release_check.specs.Faults.{manifest_fault}
use Rattle.release_check.specs.declared.check_fault.CheckFault.{CheckFault}
use Rattle.release_check.specs.declared.check_fault.CheckFault.TheVariants as fault

-- the searches, over the names and the numbers that were found
pub searches : (before : Before) (m : Manifest) (names : List (List ℕ)) (zones count : ℕ) → names ≡ names_in m.zones → zones ≡ length m.zones
    → count ≡ length names
    → manifest_fault before m
    ≡ (limit_fault zones count or_else (stamp_fault before.last m.stamp or_else (identifier_fault 0 m.zones
    or_else (duplicate_fault [] names or_else (drop_fault before.last names or_else place_fault before.count)))))
unfolding manifest_fault
searches before m names zones count n z k = rw (k, z, n) refl

-- the fault of the first search that finds one is that of the whole
pub judged_first : (a rest all : Option CheckFault) (e : CheckFault) → all ≡ (a or_else rest) → (e ≢ fault.NoMemory → a ≡ Some e) → e ≢ fault.NoMemory
    → all ≡ Some e
judged_first a rest all e is h n = is ∙ ap (λ x. x or_else rest) (h n)

-- a search that finds none leaves it to those after it
pub judged_later : (a rest all : Option CheckFault) → all ≡ (a or_else rest) → a ≡ None → all ≡ rest
judged_later a rest all is h = is ∙ ap (λ x. x or_else rest) h
