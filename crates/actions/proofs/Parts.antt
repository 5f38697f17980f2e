-- The observances of a range, written part by part and period by period.
use Rattle.std.proofs.Common.{◌≡◌, ℕ, ◌+◌, List, [], ◌∷◌, ◌++◌, map, length, drop, get_or, ◌<◌, ◌-◌, refl, sym, ap, ap₂, subst, ◌∙◌, append_assoc, append-nil, arith}
use Rattle.std.proofs.Common.{ℤ, pos, ◌+ℤ◌, ◌-ℤ◌, ◌≤ℤ◌, ◌<ℤ◌}
use Rattle.std.proofs.lemmas.List.{map-append}
use Rattle.std.specs.List.{AllByRecursion}
use Rattle.jiff_core.proofs.SignedLemmas.{signed_arith}
use Rattle.td_civil.specs.Cycles.{RepeatsFrom, observance_later}
use Rattle.td_civil.specs.declared.moment_type.TheConstants.{CYCLE, HI}
use Rattle.td_civil.specs.declared.local_time.Local.{Local}
use Rattle.td_civil.specs.declared.local_time.Observance.{Observance}
use Rattle.json_forms.specs.Begun.{Appends, IsExpansionBegun, TextSoFar}
use Rattle.json_forms.specs.PlainTexts.{IsPlainObservance}
use Rattle.zone_meaning.specs.Observed.{changes_between, observed, IsRange}
use Rattle.zone_meaning.specs.Sound.{IsSoundFile}
use Rattle.zone_meaning.specs.State.{zone_state}
use Rattle.zone_meaning.proofs.lemmas.Periods.{between_later, between_split, between_of, observed_split}
use Rattle.actions.proofs.Expansions.{plain_observances}

-- ---- parts

pub nothing : (w : TextSoFar) → Appends w w []
nothing w before until done h = subst (λ os. IsExpansionBegun before until os w) (sym (append-nil done)) h

-- two parts, one after the other, are appended
pub both : (old mid new : TextSoFar) (xs ys : List Observance) → Appends old mid xs → Appends mid new ys → Appends old new (xs ++ ys)
both old mid new xs ys first second before until done h =
    subst (λ os. IsExpansionBegun before until os new) (append_assoc done xs ys) (second before until (done ++ xs) (first before until done h))

pub appends_same : (old new : TextSoFar) (xs ys : List Observance) → xs ≡ ys → Appends old new xs → Appends old new ys
appends_same old new xs ys same h = subst (λ os. Appends old new os) same h

-- these are written, and the others of the list are left
pub record IsPut (all done rest : List Observance) (old new : TextSoFar) : Type 0 where
  pub put : Appends old new done
  pub whole : all ≡ done ++ rest
  pub plain : AllByRecursion IsPlainObservance rest

pub none_put : (all : List Observance) (w : TextSoFar) → AllByRecursion IsPlainObservance all → IsPut all [] all w w
none_put all w plain = record { put = nothing w; whole = refl; plain = plain }

pub one_put : (all done rest left : List Observance) (o : Observance) (old mid new : TextSoFar) → rest ≡ o ∷ left → IsPut all done rest old mid
    → Appends mid new (o ∷ []) → IsPut all (done ++ o ∷ []) left old new
one_put all done rest left o old mid new is h put = record {
  put = both old mid new done (o ∷ []) h.put put;
  whole = h.whole ∙ (ap (λ xs. done ++ xs) is ∙ sym (append_assoc done (o ∷ []) left));
  plain = (subst (AllByRecursion IsPlainObservance) is h.plain).1;
}

pub all_put : (all done rest : List Observance) (old new : TextSoFar) → rest ≡ [] → IsPut all done rest old new → done ≡ all
all_put all done rest old new none h = sym (h.whole ∙ ap (λ xs. done ++ xs) none ∙ append-nil done)

-- ---- a period again

-- of the period these were written a period later, and the others are still to come
pub record IsAgain (all kept done rest : List Observance) (old new : TextSoFar) : Type 0 where
  pub kept_is : kept ≡ rest ++ map observance_later done
  pub whole : all ≡ done ++ rest
  pub put : Appends old new (map observance_later done)
  pub here : AllByRecursion IsPlainObservance rest
  pub later : AllByRecursion IsPlainObservance (map observance_later rest)

pub one_again : (all kept done rest : List Observance) (o : Observance) (old mid new : TextSoFar) → IsAgain all kept done (o ∷ rest) old mid
    → Appends mid new (observance_later o ∷ [])
    → IsAgain all ((rest ++ map observance_later done) ++ observance_later o ∷ []) (done ++ o ∷ []) rest old new
one_again all kept done rest o old mid new h put =
    let more : map observance_later done ++ observance_later o ∷ [] ≡ map observance_later (done ++ o ∷ []) = sym (map-append observance_later done (o ∷ [])) in
    record {
      kept_is = append_assoc rest (map observance_later done) (observance_later o ∷ []) ∙ ap (λ xs. rest ++ xs) more;
      whole = h.whole ∙ sym (append_assoc done (o ∷ []) rest);
      put = appends_same old new _ _ more (both old mid new (map observance_later done) (observance_later o ∷ []) h.put put);
      here = h.here.1;
      later = h.later.1;
    }

pub step_again : (all kept done rest popped : List Observance) (o : Observance) (old mid new : TextSoFar) (left : ℕ) → IsAgain all kept done rest old mid
    → left ≡ length rest → 0 < left → kept ≡ o ∷ popped → Appends mid new (observance_later o ∷ [])
    → (d r : List Observance) × IsAgain all (popped ++ observance_later o ∷ []) d r old new × (left - 1 ≡ length r)
step_again all kept done [] popped o old mid new left h count more is put = absurd (omega (arith, count, more))
step_again all kept done (p ∷ rest) popped o old mid new left h count more is put =
    let same : p ∷ (rest ++ map observance_later done) ≡ o ∷ popped = sym h.kept_is ∙ is in
    let front : p ≡ o = ap (λ xs. get_or xs 0 p) same in
    let others : rest ++ map observance_later done ≡ popped = ap (drop 1) same in
    let P : Observance → Type 0 = λ x. Appends mid new (observance_later x ∷ []) in
    let Q : Observance → Type 0 = λ x. IsAgain all (popped ++ observance_later x ∷ []) (done ++ p ∷ []) rest old new in
    let R : List Observance → Type 0 = λ xs. IsAgain all (xs ++ observance_later p ∷ []) (done ++ p ∷ []) rest old new in
    (done ++ p ∷ [], rest, subst Q front (subst R others (one_again all kept done rest p old mid new h (subst P (sym front) put))), omega (arith, count))

-- ---- periods

pub plain_between : (file : List ℕ) (a b : ℤ) → IsSoundFile file → IsRange a b → AllByRecursion IsPlainObservance (changes_between (zone_state file) a b)
plain_between file a b sound range = (subst (AllByRecursion IsPlainObservance) (between_of (zone_state file) a b) (plain_observances file a b sound range)).1

-- the changes are written up to an end, and those of its last period are kept
pub record IsWrittenTo (state : ℤ → Local) (start until end : ℤ) (kept : List Observance) (old new : TextSoFar) : Type 0 where
  pub first : (start +ℤ CYCLE) ≤ℤ end
  pub before : end <ℤ until
  pub kept_is : kept ≡ changes_between state (end -ℤ CYCLE) (end +ℤ pos 1)
  pub put : Appends old new (changes_between state start (end +ℤ pos 1))

-- what a period of a zone is a period later
pub period_is : (state : ℤ → Local) (start end : ℤ) → RepeatsFrom state start → (start +ℤ CYCLE) ≤ℤ end → (end +ℤ CYCLE) <ℤ HI
    → changes_between state end ((end +ℤ CYCLE) +ℤ pos 1) ≡ map observance_later (changes_between state (end -ℤ CYCLE) (end +ℤ pos 1))
period_is state start end repeats first last =
    between_later state (end -ℤ CYCLE) end (end +ℤ pos 1) ((end +ℤ CYCLE) +ℤ pos 1)
    (λ v low. repeats v (omega (arith, signed_arith)))
    (omega (arith, signed_arith, cycle_is)) (omega (arith, signed_arith)) (omega (arith, signed_arith)) (omega (arith, signed_arith))
  where
    cycle_is : CYCLE ≡ pos 12622780800
    cycle_is = refl

pub one_period : (state : ℤ → Local) (start until end : ℤ) (kept : List Observance) (old mid new : TextSoFar) → RepeatsFrom state start
    → until ≤ℤ HI → (end +ℤ CYCLE) <ℤ until → IsWrittenTo state start until end kept old mid → Appends mid new (map observance_later kept)
    → IsWrittenTo state start until (end +ℤ CYCLE) (map observance_later kept) old new
one_period state start until end kept old mid new repeats last more h put =
    let cycle_is : CYCLE ≡ pos 12622780800 = refl in
    let again = period_is state start end repeats h.first (omega (arith, signed_arith)) in
    let kept_later : map observance_later kept ≡ changes_between state end ((end +ℤ CYCLE) +ℤ pos 1) = ap (map observance_later) h.kept_is ∙ sym again in
    let back : (end +ℤ CYCLE) -ℤ CYCLE ≡ end = omega (arith, signed_arith) in
    record {
      first = omega (arith, signed_arith, h.first, cycle_is);
      before = more;
      kept_is = kept_later ∙ ap (λ k. changes_between state k ((end +ℤ CYCLE) +ℤ pos 1)) (sym back);
      put = appends_same old new _ _
          (ap (λ xs. changes_between state start (end +ℤ pos 1) ++ xs) kept_later
          ∙ sym (between_split state start end ((end +ℤ CYCLE) +ℤ pos 1) (omega (arith, signed_arith, h.first, cycle_is)) (omega (arith, signed_arith, cycle_is))))
          (both old mid new (changes_between state start (end +ℤ pos 1)) (map observance_later kept) h.put put);
    }

-- a range in its three parts: up to a start, up to an end, and after that
pub all_parts : (state : ℤ → Local) (from start end until after : ℤ) (a b c d : TextSoFar) (first last : List Observance)
    → from ≤ℤ start → start ≤ℤ end → end <ℤ until → after ≡ start +ℤ pos 1 → first ≡ observed state from after → last ≡ changes_between state end until
    → Appends a b first → Appends b c (changes_between state start (end +ℤ pos 1)) → Appends c d last → Appends a d (observed state from until)
all_parts state from start end until after a b c d first last low mid high after_is first_is last_is one two three =
    let middle = changes_between state start (end +ℤ pos 1) in
    let whole = both a b d first (middle ++ last) one (both b c d middle last two three) in
    appends_same a d _ _
    (ap₂ (λ xs ys. xs ++ (middle ++ ys)) (first_is ∙ ap (observed state from) after_is) last_is
    ∙ ap (λ ys. observed state from (start +ℤ pos 1) ++ ys) (sym (between_split state start end until mid high))
    ∙ sym (observed_split state from start until low (omega (arith, signed_arith))))
    whole
