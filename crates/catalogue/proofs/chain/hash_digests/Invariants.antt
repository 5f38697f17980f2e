use Rattle.std.proofs.Common.{◌≡◌, ℕ, ◌++◌, List, length, drop, map}
use Rattle.std.specs.Int.{to_be_bytes, w32}
use Rattle.std.specs.List.{concat}
use Rattle.sha2.specs.Hashers.{Holds256}
use Rattle.catalogue.specs.HeldZones.{held_digest}
use Rattle.catalogue.proofs.chain.hash_digests.Given as goal

abbrev pub invariant-loop-one : goal.invariant-loop-one
invariant-loop-one g l = (m : List ℕ) → Holds256 l.fn.hasher m → (done : List ℕ)
    × Holds256 l.hasher done × (done ++ concat (map held_digest (drop l.one-index l.held)) ≡ (m ++ to_be_bytes w32 (length l.held))
    ++ concat (map held_digest l.held))
