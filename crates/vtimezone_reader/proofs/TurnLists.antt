-- Lists that grow by turns.
use Rattle.std.proofs.Common.{◌≡◌, ◌⊎◌, inl, inr, ℕ, zero, suc, ◌+◌, ◌≤◌, ◌<◌, Bool, true, false, ◌&&◌, ◌||◌, refl, sym, ap, ◌∙◌, subst, arith, append_assoc}
use Rattle.std.proofs.Common.{append-nil}
use Rattle.std.proofs.Common.{ℤ, pos, ◌+ℤ◌, ◌≤ℤ◌, ◌<ℤ◌, int_lt, None, Some, List, [], ◌∷◌, ◌++◌, length, take, get_or}
use Rattle.std.specs.Int.{int_max}
use Rattle.std.specs.List.{Contains}
use Rattle.std.specs.List.Sorted.{IsPermutation}
use Rattle.std.specs.Ordering.{int_eq}
use Rattle.std.proofs.lemmas.Bool.{and_from, and_parts}
use Rattle.std.proofs.lemmas.Int.{ints, by_lt_z}
use Rattle.std.proofs.lemmas.List.{get_or_default}
use Rattle.std.proofs.lemmas.List.Elements.{Contains-append_left, Contains-append_right, Contains-append_cases}
use Rattle.std.proofs.lemmas.List.Folds.{list_any_more}
use Rattle.std.proofs.lemmas.List.Sorted.{Contains-permutation, IsPermutation-sym}
use Rattle.jiff_core.proofs.SignedLemmas.{signed_arith}
use Rattle.td_civil.specs.declared.moment_type.Moment.{Moment}
use Rattle.zone_meaning.proofs.lemmas.Members.{no_member}
use Rattle.recurrence.specs.declared.part_types.Part.{Part}
use Rattle.recurrence.specs.declared.rule_types.Rule.{Rule}
use Rattle.vtimezone_reader.specs.declared.turns.PartOnset.{PartOnset}
use Rattle.vtimezone_reader.specs.Observing.{NoneBetween, IsNextAt}
use Rattle.vtimezone_reader.specs.Onsets.{is_among, is_rule_onset, is_onset_of, has_onset}
use Rattle.vtimezone_reader.specs.Turns.{turn_at, IsTurnOf, AddsTurns, falls_later, AreTurns}
use Rattle.vtimezone_reader.proofs.Tests.{not_true, either_is, or_left, or_right, int_same, int_eq_of, lt_is, lt_of, not_lt}

abbrev either : (ℤ → Bool) → (ℤ → Bool) → ℤ → Bool
either f g v = f v || g v

pub by_lt_n : {P : Type 0} (i j : ℕ) → (i < j → P) → (j ≤ i → P) → P
by_lt_n zero zero f g = g (omega arith)
by_lt_n zero (suc j) f g = f (omega arith)
by_lt_n (suc i) zero f g = g (omega arith)
by_lt_n (suc i) (suc j) f g = by_lt_n i j (λ lt. f (omega (arith, lt))) (λ le. g (omega (arith, le)))

only_member : (x y : PartOnset) → Contains (y ∷ []) x → x ≡ y
only_member x y h = at h.0 h.1 h.2
  where
    at : (k : ℕ) → k < 1 → get_or (y ∷ []) k x ≡ x → x ≡ y
    at zero lt e = sym e
    at (suc k) lt e = absurd (omega arith)

here : (x : PartOnset) → Contains (x ∷ []) x
here x = (0, omega arith, refl)

pub adds_none : (test : ℤ → Bool) (place : ℕ) (t end : ℤ) (xs : List PartOnset) → NoneBetween test t end → AddsTurns test place t end xs xs
adds_none test place t end xs none = record {
  added = [];
  is = sym (append-nil xs);
  each = λ x there. absurd (no_member x there);
  every = λ v low high e. let not = none v low high in absurd (cc);
}

pub adds_one : (test : ℤ → Bool) (place : ℕ) (t end m : ℤ) (xs : List PartOnset) → t <ℤ m → m <ℤ end → test m ≡ true → ((v : ℤ) → test v ≡ true → v ≡ m)
    → AddsTurns test place t end xs (xs ++ turn_at m place ∷ [])
adds_one test place t end m xs low high passes only = record {
  added = turn_at m place ∷ [];
  is = refl;
  each = λ x there.
      let same : turn_at m place ≡ x = sym (only_member x (turn_at m place) there) in
      let P : PartOnset → Type 0 = λ y. IsTurnOf test place t end y in
      subst P same (record { part_is = refl; passes = passes; after = low; before = high });
  every = λ v lower higher e.
      let P : ℤ → Type 0 = λ w. Contains (turn_at m place ∷ []) (turn_at w place) in
      subst P (sym (only v e)) (here (turn_at m place));
}

pub adds_both : (f g : ℤ → Bool) (place : ℕ) (t end : ℤ) (xs ys zs : List PartOnset) → AddsTurns f place t end xs ys → AddsTurns g place t end ys zs
    → AddsTurns (either f g) place t end xs zs
adds_both f g place t end xs ys zs a b = record {
  added = a.added ++ b.added;
  is = b.is ∙ ap (λ l. l ++ b.added) a.is ∙ append_assoc xs a.added b.added;
  each = λ x there. elim (Contains-append_cases a.added b.added x there) [
    | inl one ↦ let is = a.each x one in record
        { part_is = is.part_is; passes = or_left (f x.onset.seconds) (g x.onset.seconds) is.passes; after = is.after; before = is.before }
    | inr two ↦ let is = b.each x two in record
        { part_is = is.part_is; passes = or_right (f x.onset.seconds) (g x.onset.seconds) is.passes; after = is.after; before = is.before }
  ];
  every = λ v low high e. elim (either_is (f v) (g v) e) [
    | inl one ↦ Contains-append_left a.added b.added (turn_at v place) (a.every v low high one)
    | inr two ↦ Contains-append_right a.added b.added (turn_at v place) (b.every v low high two)
  ];
}

pub adds_same : (f g : ℤ → Bool) (place : ℕ) (t end : ℤ) (xs ys : List PartOnset) → ((v : ℤ) → g v ≡ f v) → AddsTurns f place t end xs ys
    → AddsTurns g place t end xs ys
adds_same f g place t end xs ys same a = record {
  added = a.added;
  is = a.is;
  each = λ x there. let is = a.each x there in record { part_is = is.part_is; passes = same x.onset.seconds ∙ is.passes; after = is.after; before = is.before };
  every = λ v low high e. a.every v low high (sym (same v) ∙ e);
}

-- ---- one moment

pub adds_early : (m t end : ℤ) (place : ℕ) (xs : List PartOnset) → int_lt t m ≡ false → AddsTurns (λ v. int_eq m v) place t end xs xs
adds_early m t end place xs e =
    adds_none (λ v. int_eq m v) place t end xs (λ v low high. not_true (int_eq m v) (λ on.
    let by = not_lt t m e in let same = int_same m v on in omega (arith, signed_arith, by, same, low)))

pub adds_late : (m t end : ℤ) (place : ℕ) (xs : List PartOnset) → int_lt m end ≡ false → AddsTurns (λ v. int_eq m v) place t end xs xs
adds_late m t end place xs e =
    adds_none (λ v. int_eq m v) place t end xs (λ v low high. not_true (int_eq m v) (λ on.
    let by = not_lt m end e in let same = int_same m v on in omega (arith, signed_arith, by, same, high)))

pub adds_moment : (m : Moment) (t end : ℤ) (place : ℕ) (xs : List PartOnset) → int_lt t m.seconds ≡ true → int_lt m.seconds end ≡ true
    → AddsTurns (λ v. int_eq m.seconds v) place t end xs (xs ++ record { onset = m; part = place } ∷ [])
adds_moment m t end place xs low high =
    adds_one (λ v. int_eq m.seconds v) place t end m.seconds xs (lt_is t m.seconds low) (lt_is m.seconds end high) (int_eq_of m.seconds m.seconds refl)
    (λ v on. sym (int_same m.seconds v on))

-- ---- dates

pub adds_date : (dates : List Moment) (i : ℕ) (e : Moment) (place : ℕ) (t end : ℤ) (xs ys zs : List PartOnset) → i < length dates
    → AddsTurns (is_among (take i dates)) place t end xs ys → AddsTurns (λ v. int_eq (get_or dates i e).seconds v) place t end ys zs
    → AddsTurns (is_among (take (i + 1) dates)) place t end xs zs
adds_date dates i e place t end xs ys zs lt a b =
    adds_same (either (is_among (take i dates)) (λ v. int_eq (get_or dates i e).seconds v)) (is_among (take (i + 1) dates)) place t end xs zs
    (λ v. list_any_more (λ (d : Moment). int_eq d.seconds v) dates i e lt)
    (adds_both (is_among (take i dates)) (λ v. int_eq (get_or dates i e).seconds v) place t end xs ys zs a b)

-- ---- onsets of a rule, one after another

pub adds_next : (test : ℤ → Bool) (place : ℕ) (from at end m : ℤ) (xs ys : List PartOnset) → from ≤ℤ at → IsNextAt test at end m
    → AddsTurns test place from (at +ℤ pos 1) xs ys → AddsTurns test place from (m +ℤ pos 1) xs (ys ++ turn_at m place ∷ [])
adds_next test place from at end m xs ys begun next a =
    let later = next.later in
    record {
      added = a.added ++ turn_at m place ∷ [];
      is = ap (λ l. l ++ turn_at m place ∷ []) a.is ∙ append_assoc xs a.added (turn_at m place ∷ []);
      each = λ x there. elim (Contains-append_cases a.added (turn_at m place ∷ []) x there) [
        | inl one ↦
            let is = a.each x one in
            let before = is.before in
            record { part_is = is.part_is; passes = is.passes; after = is.after; before = omega (arith, signed_arith, before, later) }
        | inr two ↦
            let same : turn_at m place ≡ x = sym (only_member x (turn_at m place) two) in
            let P : PartOnset → Type 0 = λ y. IsTurnOf test place from (m +ℤ pos 1) y in
            subst P same (record {
              part_is = refl;
              passes = next.passes;
              after = omega (arith, signed_arith, begun, later);
              before = omega
                  (arith, signed_arith);
            })
      ];
      every = λ v low high e.
          by_lt_z v (at +ℤ pos 1)
          (λ lt. Contains-append_left a.added (turn_at m place ∷ []) (turn_at v place) (a.every v low lt e))
          (λ ge. by_lt_z v m
          (λ lt. let not = next.none v (omega (arith, signed_arith, ge)) lt in absurd (cc))
          (λ on. let is : m ≡ v = omega (arith, signed_arith, on, high) in
          let P : ℤ → Type 0 = λ w. Contains (a.added ++ turn_at m place ∷ []) (turn_at w place) in
          subst P is (Contains-append_right a.added (turn_at m place ∷ []) (turn_at m place) (here (turn_at m place)))));
    }

pub adds_end : (test : ℤ → Bool) (place : ℕ) (from at end : ℤ) (xs ys : List PartOnset) → at <ℤ end → NoneBetween test at end
    → AddsTurns test place from (at +ℤ pos 1) xs ys → AddsTurns test place from end xs ys
adds_end test place from at end xs ys before none a = record {
  added = a.added;
  is = a.is;
  each = λ x there.
      let is = a.each x there in
      let by = is.before in
      record { part_is = is.part_is; passes = is.passes; after = is.after; before = omega (arith, signed_arith, by, before) };
  every = λ v low high e.
      by_lt_z v (at +ℤ pos 1) (λ lt. a.every v low lt e)
      (λ ge. let not = none v (omega (arith, signed_arith, ge)) high in absurd (cc));
}

max_is : (a b : ℤ) → ((int_max a b ≡ a) × (b ≤ℤ a)) ⊎ ((int_max a b ≡ b) × (a <ℤ b))
max_is a b = by_lt_z a b (λ lt. inr (grind (arith, ints), lt)) (λ ge. inl (grind (arith, ints), ge))

max_low : (a b m : ℤ) → m ≡ int_max a b → (a ≤ℤ m) × (b ≤ℤ m)
max_low a b m e = elim (max_is a b) [
  | inl x ↦ let is = x.0 in let by = x.1 in (omega (arith, signed_arith, e, is), omega (arith, signed_arith, e, is, by))
  | inr x ↦ let is = x.0 in let by = x.1 in (omega (arith, signed_arith, e, is, by), omega (arith, signed_arith, e, is))
]

max_below : (a b m v : ℤ) → m ≡ int_max a b → a <ℤ v → b <ℤ v → m <ℤ v
max_below a b m v e x y = elim (max_is a b) [
  | inl z ↦ let is = z.0 in omega (arith, signed_arith, e, is, x)
  | inr z ↦ let is = z.0 in omega (arith, signed_arith, e, is, y)
]

-- those of a rule after a moment that is not before the start are all after both
pub adds_later : (p : Part) (rule : Rule) (place : ℕ) (t end from : ℤ) (xs ys : List PartOnset) → p.rule ≡ Some rule → from ≡ int_max t p.start.seconds
    → AddsTurns (is_rule_onset p rule) place from end xs ys → AddsTurns (falls_later p) place t end xs ys
adds_later p rule place t end from xs ys has is a =
    let by = max_low t p.start.seconds from is in
    let begun = by.0 in
    let start = by.1 in
    let rules : (v : ℤ) → is_onset_of p.rule p v ≡ is_rule_onset p rule v = λ v. ap (λ r. is_onset_of r p v) has in
    record {
      added = a.added;
      is = a.is;
      each = λ x there.
          let x_is = a.each x there in
          let after = x_is.after in
          record {
            part_is = x_is.part_is;
            passes = and_from _ _ (lt_of p.start.seconds x.onset.seconds (omega (arith, signed_arith, after, start))) (rules x.onset.seconds ∙ x_is.passes);
            after = omega (arith, signed_arith, after, begun);
            before = x_is.before;
          };
      every = λ v low high e.
          let both = and_parts (int_lt p.start.seconds v) (is_onset_of p.rule p v) e in
          a.every v (max_below t p.start.seconds from v is low (lt_is p.start.seconds v both.0)) high (sym (rules v) ∙ both.1);
    }

and_none : (a b : Bool) → b ≡ false → (a && b) ≡ false
and_none true b e = e
and_none false b e = refl

pub none_ruled : (p : Part) (t end : ℤ) → p.rule ≡ None → NoneBetween (falls_later p) t end
none_ruled p t end none v low high = and_none (int_lt p.start.seconds v) (is_onset_of p.rule p v) (ap (λ r. is_onset_of r p v) none)

pub none_later : (p : Part) (t end from : ℤ) → from ≡ int_max t p.start.seconds → int_lt from end ≡ false → NoneBetween (falls_later p) t end
none_later p t end from is late v low high =
    let past = not_lt from end late in
    not_true (falls_later p v) (λ e.
    let both = and_parts (int_lt p.start.seconds v) (is_onset_of p.rule p v) e in
    let before = max_below t p.start.seconds from v is low (lt_is p.start.seconds v both.0) in
    omega (arith, signed_arith, before, past, high))

-- ---- a part

onset_same : (p : Part) (v : ℤ) → (is_onset_of p.rule p v ≡ true → p.start.seconds ≤ℤ v)
    → has_onset p v ≡ either (either (λ w. int_eq p.start.seconds w) (is_among p.dates)) (falls_later p) v
unfolding has_onset
onset_same p v from = by_cases (int_eq p.start.seconds v) (is_among p.dates v) (is_onset_of p.rule p v) (int_lt p.start.seconds v)
    (λ on. by_lt_z p.start.seconds v (λ lt. inr (lt_of p.start.seconds v lt))
    (λ ge. let start = from on in inl (int_eq_of p.start.seconds v (omega (arith, signed_arith, ge, start)))))
  where
    by_cases : (e d r l : Bool) → (r ≡ true → (e ≡ true) ⊎ (l ≡ true)) → (e || d || r) ≡ ((e || d) || (l && r))
    by_cases true d r l h = refl
    by_cases false true r l h = refl
    by_cases false false false l h = sym (and_none l false refl)
    by_cases false false true l h = elim (h refl) [
      | inl x ↦ absurd (cc)
      | inr x ↦ rw x refl
    ]

pub adds_part : (p : Part) (place : ℕ) (t end : ℤ) (xs ys zs ws : List PartOnset) → ((v : ℤ) → is_onset_of p.rule p v ≡ true → p.start.seconds ≤ℤ v)
    → AddsTurns (λ v. int_eq p.start.seconds v) place t end xs ys → AddsTurns (is_among p.dates) place t end ys zs → AddsTurns (falls_later p) place t end zs ws
    → AddsTurns (has_onset p) place t end xs ws
adds_part p place t end xs ys zs ws from a b c =
    adds_same _ (has_onset p) place t end xs ws (λ v. onset_same p v (from v))
    (adds_both _ (falls_later p) place t end xs zs ws (adds_both _ (is_among p.dates) place t end xs ys zs a b) c)

-- ---- all parts

pub are_more : (parts : List Part) (n : ℕ) (p : Part) (t end : ℤ) (xs ys : List PartOnset) → n < length parts → p ≡ get_or parts n p
    → AreTurns parts n t end xs → AddsTurns (has_onset p) n t end xs ys → AreTurns parts (n + 1) t end ys
are_more parts n p t end xs ys lt is a b =
    let at : (d : Part) → get_or parts n d ≡ p = λ d. get_or_default parts n d p lt ∙ sym is in
    let whole : List PartOnset → Type 0 = λ l. AreTurns parts (n + 1) t end l in
    subst whole (sym b.is) (record {
      each = λ x there. elim (Contains-append_cases xs b.added x there) [
        | inl one ↦
            let x_is = a.each x one in
            let inside = x_is.inside in
            record { inside = omega (arith, inside); passes = x_is.passes; after = x_is.after; before = x_is.before }
        | inr two ↦
            let x_is = b.each x two in
            let place = x_is.part_is in
            record {
              inside = omega (arith, place);
              passes = λ d. ap (λ k. has_onset (get_or parts k d) x.onset.seconds) place ∙ ap (λ q. has_onset q x.onset.seconds) (at d) ∙ x_is.passes;
              after = x_is.after;
              before = x_is.before;
            }
      ];
      every = λ place v inside low high e.
          by_place place v inside low high e (at p);
    })
  where
    by_place : (place : ℕ) (v : ℤ) → place < n + 1 → t <ℤ v → v <ℤ end → ((d : Part) → has_onset (get_or parts place d) v ≡ true) → get_or parts n p ≡ p
        → Contains (xs ++ b.added) (turn_at v place)
    by_place place v inside low high e at = by_lt_n place n
        (λ lt. Contains-append_left xs b.added (turn_at v place) (a.every place v lt low high e))
        (λ ge. let same : n ≡ place = omega (arith, ge, inside) in
        let P : ℕ → Type 0 = λ k. Contains (xs ++ b.added) (turn_at v k) in
        let here_is : has_onset p v ≡ true = ap (λ q. has_onset q v) (sym at) ∙ ap (λ k. has_onset (get_or parts k p) v) same ∙ e p in
        subst P same (Contains-append_right xs b.added (turn_at v n) (b.every v low high here_is)))

pub are_sorted : (parts : List Part) (n : ℕ) (t end : ℤ) (xs ys : List PartOnset) → IsPermutation xs ys → AreTurns parts n t end xs → AreTurns parts n t end ys
are_sorted parts n t end xs ys same a = record {
  each = λ x there. a.each x (Contains-permutation ys xs x (IsPermutation-sym xs ys same) there);
  every = λ place v lt low high e. Contains-permutation xs ys (turn_at v place) same (a.every place v lt low high e);
}
