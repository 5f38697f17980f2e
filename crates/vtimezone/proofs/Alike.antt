-- Changes that are alike, and the first ones of each set of them.
use Rattle.std.proofs.Common.{◌≡◌, inl, inr, Bool, true, false, true≢false, not, refl, sym, subst, ap, ◌∙◌, arith, ℤ, List, [], ◌∷◌, filter, drop, cond}
use Rattle.std.specs.List.{Contains}
use Rattle.std.specs.Ordering.{int_eq}
use Rattle.std.proofs.lemmas.Bool.{cond-true, cond-false, and_from, and_parts}
use Rattle.std.proofs.lemmas.Int.{ints}
use Rattle.td_civil.specs.SameLocal.{same_local}
use Rattle.td_civil.specs.declared.local_time.Observance.{Observance}
use Rattle.td_civil.proofs.lemmas.SameStates.{same_local_is, same_local_of}
use Rattle.zone_meaning.specs.RangeLaws.{state_told}
use Rattle.zone_meaning.proofs.lemmas.Members.{member_first, member_later, member_cases, no_member}
use Rattle.vtimezone.specs.Grouping.{is_alike, first_ones}

-- the offset before and the state after are the same
abbrev pub AreAlike : Observance → Observance → Type 0
AreAlike o p = (o.from ≡ p.from) × (state_told o ≡ state_told p)

same_offset : (a b : ℤ) → int_eq a b ≡ true → a ≡ b
same_offset a b e = grind (arith, ints)

offset_same : (a : ℤ) → int_eq a a ≡ true
offset_same a = grind (arith, ints)

pub alike_is : (o p : Observance) → is_alike o p ≡ true → AreAlike o p
alike_is o p h =
    let both = and_parts (int_eq o.from p.from) (same_local (state_told o) (state_told p)) h in
    (same_offset o.from p.from both.0, same_local_is (state_told o) (state_told p) both.1)

pub alike_of : (o p : Observance) → AreAlike o p → is_alike o p ≡ true
alike_of o p h =
    let P : ℤ → Type 0 = λ z. int_eq o.from z ≡ true in
    and_from (int_eq o.from p.from) (same_local (state_told o) (state_told p)) (subst P h.0 (offset_same o.from))
    (same_local_of (state_told o) (state_told p) h.1)

pub alike_back : (o p : Observance) → AreAlike o p → AreAlike p o
alike_back o p h = (sym h.0, sym h.1)

pub alike_on : (o p q : Observance) → AreAlike o p → AreAlike p q → AreAlike o q
alike_on o p q h k = (h.0 ∙ k.0, h.1 ∙ k.1)

pub is_itself : (o p : Observance) → o ≡ p → AreAlike o p
is_itself o p e = (ap (λ (q : Observance). q.from) e, ap state_told e)

-- where two are not alike, they are not the other way round
pub unlike_back : (o p : Observance) → is_alike o p ≡ false → is_alike p o ≡ false
unlike_back o p h = elim (is_alike p o) as (λ b. is_alike p o ≡ b → b ≡ false) [
  | true ↦ λ e. absurd (true≢false (sym (alike_of o p (alike_back p o (alike_is p o e))) ∙ h))
  | false ↦ λ e. refl
] refl

-- what is not alike one of two that are alike is not alike the other
pub unlike_on : (o p q : Observance) → AreAlike o q → is_alike o p ≡ false → is_alike p q ≡ false
unlike_on o p q same h = elim (is_alike p q) as (λ b. is_alike p q ≡ b → b ≡ false) [
  | true ↦ λ e. absurd (true≢false (sym (alike_of o p (alike_on o q p same (alike_back p q (alike_is p q e)))) ∙ h))
  | false ↦ λ e. refl
] refl

pub no_other : (b : Bool) → not b ≡ true → b ≡ false
no_other true e = sym e
no_other false e = refl

an_other : (b : Bool) → b ≡ false → not b ≡ true
an_other b e = ap not e

-- ---- members of what is kept of a list

pub kept_member : {X : Type 0} (p : X → Bool) (xs : List X) (x : X) → Contains (filter p xs) x → Contains xs x × (p x ≡ true)
kept_member p [] x h = absurd (no_member x h)
kept_member {X} p (y ∷ ys) x h =
    let Says : List X → Type 0 = λ l. Contains l x → Contains (y ∷ ys) x × (p x ≡ true) in
    let further : Contains (filter p ys) x → Contains (y ∷ ys) x × (p x ≡ true) =
    λ there. let rest = kept_member p ys x there in (member_later y x ys rest.0, rest.1) in
    elim (p y) as (λ b. p y ≡ b → Says (cond b (y ∷ filter p ys) (filter p ys))) [
      | true ↦ λ passes there. elim (member_cases y x (filter p ys) there) [
        | inl is ↦ let P : X → Type 0 = λ z. Contains (y ∷ ys) z × (p z ≡ true) in subst P is (member_first y ys, passes)
        | inr later ↦ further later
      ]
      | false ↦ λ fails there. further there
    ] refl h

pub member_kept : {X : Type 0} (p : X → Bool) (xs : List X) (x : X) → Contains xs x → p x ≡ true → Contains (filter p xs) x
member_kept p [] x h passes = absurd (no_member x h)
member_kept {X} p (y ∷ ys) x h passes =
    elim (member_cases y x ys h) [
      | inl is ↦
          let P : X → Type 0 = λ z. Contains (cond (p y) (y ∷ filter p ys) (filter p ys)) z in
          let Q : List X → Type 0 = λ l. Contains l y in
          subst P is (subst Q (sym (cond-true (p y) (y ∷ filter p ys) (filter p ys) (ap p is ∙ passes))) (member_first y (filter p ys)))
      | inr later ↦
          let rest = member_kept p ys x later passes in
          elim (p y) as (λ b. Contains (cond b (y ∷ filter p ys) (filter p ys)) x) [
            | true ↦ member_later y x (filter p ys) rest
            | false ↦ rest
          ]
    ]

-- ---- the first ones

pub first_there : (os : List Observance) (f : Observance) → Contains (first_ones os) f → Contains os f
unfolding first_ones
first_there [] f h = absurd (no_member f h)
first_there (o ∷ os) f h = elim (member_cases o f (filter (λ p. not (is_alike o p)) (first_ones os)) h) [
  | inl is ↦ let P : Observance → Type 0 = λ z. Contains (o ∷ os) z in subst P is (member_first o os)
  | inr later ↦ member_later o f os (first_there os f ((kept_member (λ p. not (is_alike o p)) (first_ones os) f later).0))
]

-- those alike a first one begin with it
pub first_leads : (os : List Observance) (f : Observance) → Contains (first_ones os) f → filter (is_alike f) os ≡ f ∷ drop 1 (filter (is_alike f) os)
unfolding first_ones
first_leads [] f h = absurd (no_member f h)
first_leads (o ∷ os) f h = elim (member_cases o f (filter (λ p. not (is_alike o p)) (first_ones os)) h) [
  | inl is ↦
      let P : Observance → Type 0 = λ z. filter (is_alike z) (o ∷ os) ≡ z ∷ drop 1 (filter (is_alike z) (o ∷ os)) in
      let kept = cond-true (is_alike o o) (o ∷ filter (is_alike o) os) (filter (is_alike o) os) (alike_of o o (is_itself o o refl)) in
      subst P is (kept ∙ ap (λ l. o ∷ drop 1 l) (sym kept))
  | inr later ↦
      let kept = kept_member (λ p. not (is_alike o p)) (first_ones os) f later in
      let unlike : is_alike f o ≡ false = unlike_back o f (no_other (is_alike o f) kept.1) in
      let left = cond-false (is_alike f o) (o ∷ filter (is_alike f) os) (filter (is_alike f) os) unlike in
      left ∙ first_leads os f kept.0 ∙ ap (λ l. f ∷ drop 1 l) (sym left)
]

-- each one is alike a first one
pub first_of : (os : List Observance) (o : Observance) → Contains os o → (f : Observance) × (Contains (first_ones os) f × AreAlike f o)
unfolding first_ones
first_of [] o h = absurd (no_member o h)
first_of (x ∷ xs) o h =
    let rest = filter (λ p. not (is_alike x p)) (first_ones xs) in
    elim (member_cases x o xs h) [
      | inl is ↦ (x, (member_first x rest, is_itself x o is))
      | inr later ↦
          let found = first_of xs o later in
          let Found : Type 0 = (f : Observance) × (Contains (x ∷ rest) f × AreAlike f o) in
          elim (is_alike x found.0) as (λ b. is_alike x found.0 ≡ b → Found) [
            | true ↦ λ same. (x, (member_first x rest, alike_on x found.0 o (alike_is x found.0 same) found.1.1))
            | false ↦ λ other. (
              found.0,
              (
                member_later x found.0 rest (member_kept (λ p. not (is_alike x p)) (first_ones xs) found.0 found.1.0 (an_other (is_alike x found.0) other)),
                found.1.1,
              ),
            )
          ] refl
    ]

-- two first ones that are alike are one
pub one_first : (os : List Observance) (f g : Observance) → Contains (first_ones os) f → Contains (first_ones os) g → AreAlike f g → f ≡ g
unfolding first_ones
one_first [] f g there also same = absurd (no_member f there)
one_first (o ∷ os) f g there also same =
    let keeps : Observance → Bool = λ p. not (is_alike o p) in
    let rest = filter keeps (first_ones os) in
    elim (member_cases o f rest there) [
      | inl is ↦ elim (member_cases o g rest also) [
        | inl too ↦ sym is ∙ too
        | inr later ↦
            let kept = kept_member keeps (first_ones os) g later in
            absurd (true≢false (sym (alike_of o g (alike_on o f g (is_itself o f is) same)) ∙ no_other (is_alike o g) kept.1))
      ]
      | inr later ↦ elim (member_cases o g rest also) [
        | inl too ↦
            let kept = kept_member keeps (first_ones os) f later in
            absurd (true≢false (sym (alike_of o f (alike_on o g f (is_itself o g too) (alike_back f g same))) ∙ no_other (is_alike o f) kept.1))
        | inr too ↦
            one_first os f g ((kept_member keeps (first_ones os) f later).0) ((kept_member keeps (first_ones os) g too).0) same
      ]
    ]
