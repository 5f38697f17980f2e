-- The exchange that adds to the history keeps its rule.
use Rattle.std.proofs.Common.{◌≡◌, ℕ, ◌+◌, ◌<◌, ◌==◌, Bool, true, false, List, [], ◌∷◌, ◌++◌, map, length, refl, ap, sym, subst, arith, inl}
use Rattle.std.proofs.Common.{length-append, Option, Some, None, IfSome}
use Rattle.std.proofs.lemmas.List.{append-nil}
use Rattle.std.proofs.lemmas.Bool.Decides.{nat_tests}
use mathlib.Core.List.{IsPrefix}
use prog.Atomic.{either}
use Rattle.logbook.specs.Pages.{Cell, cell, keeps, no_nib, step, Moves, Goes}
use Rattle.publication.specs.Histories.{Stand, Sealed, values, ended_in}
use Rattle.publication.specs.HistoryRule.{HistoryHolds, Adds}
use Rattle.td_base.proofs.lemmas.Beginnings.{prefix_whole}
use Rattle.publication.proofs.Beginnings.{stand_snoc, values_more, values_marked, sealed_more}

module _ {V E : Type 0} (last : V → E) (stands : V → List E → Type 0) where
  -- e may be added to what was seen
  abbrev May : List (Option V) → Option V → Type 0
  May v e = (Stand last stands (values v) → Stand last stands (values (v ++ e ∷ []))) × (Sealed v → Sealed (v ++ e ∷ []))

  adds_goes : (log v : List (Option V)) (e : Option V) (old new : ℕ) → length v ≡ old → new ≡ old + 1 → May v e → IsPrefix v log
      → Stand last stands (values log) → Sealed log
      → (b : Bool) → (length log == old) ≡ b
      → Goes (HistoryHolds last stands) (λ log. []) (λ xs ys n. Unit {0}) 0 (v, (no_nib, None)) (λ n. either (n == old) new n)
      (Adds (step 0 old new e) (v, (no_nib, None))) ((length log, true) ∷ (0, true) ∷ []) log
  adds_goes log v e old new len next may pre stand seal true is =
      let here : length log ≡ old = grind (arith, nat_tests) in
      let same : v ≡ log = prefix_whole v log pre (omega arith) in
      let n : either (length log == old) new (length log) ≡ length (log ++ e ∷ []) = rw is (omega (arith, length-append log (e ∷ []))) in
      let both : Stand last stands (values (log ++ e ∷ [])) × Sealed (log ++ e ∷ []) =
      subst (λ (l : List (Option V)). Stand last stands (values (l ++ e ∷ [])) × Sealed (l ++ e ∷ [])) same
      (may.0 (rw same stand), may.1 (rw same seal)) in (
        keeps,
        e ∷ [],
        None,
        tt,
        record { words = ap (λ (k : ℕ). (k, true) ∷ (0, true) ∷ []) n; stand = both.0; seal = both.1 },
        inl (refl, refl),
        rw is (ap (λ w. w ++ e ∷ []) (sym same)),
      )
  adds_goes log v e old new len next may pre stand seal false is =
      let all : log ++ [] ≡ log = append-nil log in
      let n : either (length log == old) new (length log) ≡ length (log ++ []) = rw is (ap length (sym all)) in (
        keeps,
        [],
        None,
        tt,
        record {
          words = ap (λ (k : ℕ). (k, true) ∷ (0, true) ∷ []) n;
          stand =
              subst (λ (l : List (Option V)). Stand last stands (values l)) (sym all) stand;
          seal =
              subst (λ (l : List (Option V)). Sealed l) (sym all) seal;
        },
        inl (refl, refl),
        rw is (ap length all),
      )

  adds_moves : (v : List (Option V)) (e : Option V) (old new : ℕ) → length v ≡ old → new ≡ old + 1 → May v e
      → Moves (HistoryHolds last stands) (λ log. []) (λ xs ys n. Unit {0}) 0 (v, (no_nib, None)) (λ n. either (n == old) new n)
      (Adds (step 0 old new e) (v, (no_nib, None)))
  adds_moves v e old new len next may cs log kept pre away =
      let P : List Cell → Type 0 = λ c. (0 < length c) × ((cell c 0).1 ≡ true) × Goes (HistoryHolds last stands) (λ log. []) (λ xs ys n. Unit {0}) 0
      (v, (no_nib, None)) (λ n. either (n == old) new n) (Adds (step 0 old new e) (v, (no_nib, None))) c log in
      subst P (sym kept.words) (omega arith, refl, adds_goes log v e old new len next may pre kept.stand kept.seal (length log == old) refl)

  value_moves : (v : List (Option V)) (x : V) (old new : ℕ) → length v ≡ old → new ≡ old + 1 → ended_in v ≡ false
      → stands x (map last (values v ++ x ∷ []))
      → Moves (HistoryHolds last stands) (λ log. []) (λ xs ys n. Unit {0}) 0 (v, (no_nib, None)) (λ n. either (n == old) new n)
      (Adds (step 0 old new (Some x)) (v, (no_nib, None)))
  value_moves v x old new len next going fits = adds_moves v (Some x) old new len next (
    (λ (h : Stand last stands (values v)). subst (Stand last stands) (sym (values_more v (Some x ∷ [])))
        (stand_snoc last stands [] (values v) x h fits)),
    (λ (h : Sealed v). sealed_more v (Some x ∷ []) going tt),
  )

  mark_moves : (v : List (Option V)) (old new : ℕ) → length v ≡ old → new ≡ old + 1 → ended_in v ≡ false
      → Moves (HistoryHolds last stands) (λ log. []) (λ xs ys n. Unit {0}) 0 (v, (no_nib, None)) (λ n. either (n == old) new n)
      (Adds (step 0 old new None) (v, (no_nib, None)))
  mark_moves v old new len next going = adds_moves v None old new len next (
    (λ (h : Stand last stands (values v)). subst (Stand last stands) (sym (values_marked v)) h),
    (λ (h : Sealed v). sealed_more v (None ∷ []) going refl),
  )

  pub entry_moves : (v : List (Option V)) (entry : Option V) (old new : ℕ) → length v ≡ old → new ≡ old + 1 → ended_in v ≡ false
      → IfSome entry (λ x. stands x (map last (values v ++ x ∷ [])))
      → Moves (HistoryHolds last stands) (λ log. []) (λ xs ys n. Unit {0}) 0 (v, (no_nib, None)) (λ n. either (n == old) new n)
      (Adds (step 0 old new entry) (v, (no_nib, None)))
  entry_moves v (Some x) old new len next going fits = value_moves v x old new len next going fits
  entry_moves v None old new len next going fits = mark_moves v old new len next going
