-- Beginnings of one list.
use Rattle.std.proofs.Common.{ℕ, ◌≡◌, ◌≤◌, true, false, List, [], ◌∷◌, ◌++◌, map, length, Option, Some, None, refl, ap, sym, subst, ◌∙◌, arith}
use Rattle.std.proofs.Common.{append_assoc, length-append}
use Rattle.std.proofs.lemmas.List.{append-nil, length-map}
use Rattle.std.specs.List.{last_or}
use mathlib.Core.List.{IsPrefix}
use Rattle.td_base.proofs.lemmas.Beginnings.{prefix_length, prefix_shorter}
use Rattle.publication.specs.Histories.{values, ended_in, Sealed, StandFrom, Stand}

no_items : {A : Type 0} (xs : List A) → length xs ≡ 0 → xs ≡ []
no_items [] e = refl
no_items (x ∷ xs) e = absurd (omega (arith, e))

module _ {A : Type 0} where
  last_added : (o : Option A) (xs : List A) (x : A) → last_or o (xs ++ x ∷ []) ≡ Some x
  last_added o [] x = refl
  last_added o (y ∷ ys) x = last_added (Some y) ys x

  pub values_more : (log more : List (Option A)) → values (log ++ more) ≡ values log ++ values more
  values_more [] more = refl
  values_more (Some x ∷ log) more = ap (λ l. x ∷ l) (values_more log more)
  values_more (None ∷ log) more = values_more log more

  pub values_prefix : (xs ys : List (Option A)) → IsPrefix xs ys → IsPrefix (values xs) (values ys)
  values_prefix xs ys p = (values p.0, sym (values_more xs p.0) ∙ ap values p.1)

  pub ended_more : (log : List (Option A)) (x : A) → ended_in log ≡ false → ended_in (log ++ Some x ∷ []) ≡ false
  ended_more [] x h = refl
  ended_more (Some y ∷ log) x h = ended_more log x h
  ended_more (None ∷ log) x h = absurd (cc h)

  pub ended_marked : (log : List (Option A)) → ended_in (log ++ None ∷ []) ≡ true
  ended_marked [] = refl
  ended_marked (Some y ∷ log) = ended_marked log
  ended_marked (None ∷ log) = refl

  pub values_marked : (log : List (Option A)) → values (log ++ None ∷ []) ≡ values log
  values_marked log = values_more log (None ∷ []) ∙ append-nil (values log)

  -- what is not ended may go on
  pub sealed_more : (log more : List (Option A)) → ended_in log ≡ false → Sealed more → Sealed (log ++ more)
  sealed_more [] more h s = s
  sealed_more (Some x ∷ log) more h s = sealed_more log more h s
  sealed_more (None ∷ log) more h s = absurd (cc h)

  -- what has ended is the whole
  pub ended_whole : (prefix log : List (Option A)) → IsPrefix prefix log → Sealed log → ended_in prefix ≡ true → prefix ≡ log
  ended_whole [] log p s h = absurd (cc h)
  ended_whole (x ∷ prefix) [] p s h = absurd (cc (p.1))
  ended_whole (Some x ∷ prefix) (Some y ∷ log) p s h =
      let heads : x ≡ y = cc (p.1) in
      let rest = ended_whole prefix log (p.0, cc (p.1)) s h in
      cc (heads, rest)
  ended_whole (None ∷ prefix) (None ∷ log) p s h =
      let tail : prefix ++ p.0 ≡ log = cc (p.1) in
      let n = ap length (tail ∙ s) in
      let none : prefix ≡ [] = no_items prefix (omega (arith, n, length-append prefix p.0)) in
      ap (λ (l : List (Option A)). None ∷ l) (none ∙ sym s)
  ended_whole (Some x ∷ prefix) (None ∷ log) p s h = absurd (cc (p.1))
  ended_whole (None ∷ prefix) (Some y ∷ log) p s h = absurd (cc (p.1))

  -- of two beginnings of one history, the one with fewer values
  pub fewer : (xs ys log : List (Option A)) → IsPrefix xs log → IsPrefix ys log → length (values xs) ≤ length (values ys)
      → IsPrefix (values xs) (values ys)
  fewer xs ys log p q le = prefix_shorter (values xs) (values ys) (values log) (values_prefix xs log p) (values_prefix ys log q) le

  -- what has ended has all values
  pub ended_has_all : (xs ys log : List (Option A)) → IsPrefix xs log → IsPrefix ys log → Sealed log → ended_in ys ≡ true
      → IsPrefix (values xs) (values ys)
  ended_has_all xs ys log p q s h =
      subst (λ (l : List (Option A)). IsPrefix (values xs) (values l)) (sym (ended_whole ys log q s h)) (values_prefix xs log p)

  pub both_whole : (xs ys log : List (Option A)) → IsPrefix xs log → IsPrefix ys log → Sealed log → ended_in xs ≡ true → ended_in ys ≡ true
      → values ys ≡ values xs
  both_whole xs ys log p q s h k = ap values (ended_whole ys log q s k ∙ sym (ended_whole xs log p s h))

  pub no_longer : (xs ys log : List (Option A)) → IsPrefix xs log → IsPrefix ys log → Sealed log → ended_in xs ≡ true
      → length (values ys) ≤ length (values xs)
  no_longer xs ys log p q s h = prefix_length (values ys) (values xs) (ended_has_all ys xs log q p s h)

  -- what the history has once a value was added
  pub added_values : (log : List (Option A)) (x : A) (new : List (Option A)) → new ≡ log ++ Some x ∷ [] → values new ≡ values log ++ x ∷ []
  added_values log x new is = ap values is ∙ values_more log (Some x ∷ [])

  pub added_list : (log new : List (Option A)) (list : List A) (x y : A) → new ≡ log ++ Some x ∷ [] → values log ≡ list → x ≡ y
      → values new ≡ list ++ y ∷ []
  added_list log new list x y is old same = added_values log x new is ∙ (ap (λ l. l ++ x ∷ []) old ∙ ap (λ z. list ++ z ∷ []) same)

  pub added_last : (log : List (Option A)) (x : A) (new : List (Option A)) → new ≡ log ++ Some x ∷ [] → last_or None (values new) ≡ Some x
  added_last log x new is = ap (last_or None) (added_values log x new is) ∙ last_added None (values log) x

  pub added_going : (log : List (Option A)) (x : A) (new : List (Option A)) → new ≡ log ++ Some x ∷ [] → ended_in log ≡ false → ended_in new ≡ false
  added_going log x new is h = ap ended_in is ∙ ended_more log x h

  pub added_mark : (log new : List (Option A)) → new ≡ log ++ None ∷ [] → (ended_in new ≡ true) × (values new ≡ values log)
  added_mark log new is = (ap ended_in is ∙ ended_marked log, ap values is ∙ values_marked log)

-- where a value is added that stands for so many elements, the history has so many values
pub added_count : {V E : Type 0} (last : V → E) (log new : List (Option V)) (list : List V) (x y : V) (n : ℕ) → new ≡ log ++ Some x ∷ []
    → values log ≡ list → x ≡ y → length (map last (list ++ y ∷ [])) ≡ n → n ≡ length (values new)
added_count last log new list x y n is old same count =
    sym count ∙ (length-map (list ++ y ∷ []) last ∙ ap length (sym (added_list log new list x y is old same)))

module _ {V E : Type 0} (last : V → E) (stands : V → List E → Type 0) where
  pub stand_snoc : (before xs : List V) (x : V) → StandFrom last stands before xs → stands x (map last ((before ++ xs) ++ x ∷ []))
      → StandFrom last stands before (xs ++ x ∷ [])
  stand_snoc before [] x h new = (subst (λ (w : List V). stands x (map last (w ++ x ∷ []))) (append-nil before) new, tt)
  stand_snoc before (y ∷ ys) x h new =
      let e : (before ++ y ∷ []) ++ ys ≡ before ++ y ∷ ys = append_assoc before (y ∷ []) ys in
      (h.0, stand_snoc (before ++ y ∷ []) ys x h.1 (subst (λ (w : List V). stands x (map last (w ++ x ∷ []))) (sym e) new))

  stand_from_last : (before xs : List V) (x : V) → StandFrom last stands before xs → last_or None xs ≡ Some x → stands x (map last (before ++ xs))
  stand_from_last before [] x h is = absurd (cc is)
  stand_from_last before (y ∷ []) x h is = let e : y ≡ x = cc is in subst (λ (z : V). stands z (map last (before ++ y ∷ []))) e h.0
  stand_from_last before (y ∷ z ∷ zs) x h is =
      subst (λ (l : List V). stands x (map last l)) (append_assoc before (y ∷ []) (z ∷ zs)) (stand_from_last (before ++ y ∷ []) (z ∷ zs) x h.1 is)

  stand_from_prefix : (before xs rest : List V) → StandFrom last stands before (xs ++ rest) → StandFrom last stands before xs
  stand_from_prefix before [] rest h = tt
  stand_from_prefix before (x ∷ xs) rest h = (h.0, stand_from_prefix (before ++ x ∷ []) xs rest h.1)

  -- the last value of a beginning of the history stands for it
  pub last_stands : (prefix log : List (Option V)) (x : V) → IsPrefix prefix log → Stand last stands (values log) → last_or None (values prefix) ≡ Some x
      → stands x (map last (values prefix))
  last_stands prefix log x p h is =
      let q = values_prefix prefix log p in
      stand_from_last [] (values prefix) x (stand_from_prefix [] (values prefix) q.0 (subst (Stand last stands) (sym q.1) h)) is
