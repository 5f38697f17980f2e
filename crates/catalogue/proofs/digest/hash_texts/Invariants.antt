use Rattle.std.proofs.Common.{◌≡◌, ℕ, ◌<◌, ◌^◌, ◌++◌, List, length, drop, map}
use Rattle.std.specs.Int.{to_be_bytes, w32}
use Rattle.std.specs.List.{AllByRecursion, concat}
use Rattle.sha2.specs.Hashers.{Holds256}
use Rattle.td_base.specs.Sized.{sized}
use Rattle.catalogue.proofs.digest.hash_texts.Given as goal

abbrev pub invariant-loop-text : goal.invariant-loop-text
invariant-loop-text l = record {
  hashed : (m : List ℕ) → Holds256 l.fn.hasher m → (done : List ℕ)
      × Holds256 l.hasher done
      × (done ++ concat (map sized (drop l.text-index l.texts)) ≡ (m ++ to_be_bytes w32 (length l.texts)) ++ concat (map sized l.texts));
  texts : AllByRecursion (λ a. length a < 2 ^ 32) (drop l.text-index l.texts);
}
