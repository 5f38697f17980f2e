-- A part of many changes is in force where the part of one of them would be.
use Rattle.std.proofs.Common.{◌≡◌, ◌⊎◌, inl, inr, refl, sym, subst, ap, ◌∙◌, ℤ, ◌≤ℤ◌, ◌<ℤ◌, List, [], ◌∷◌, ◌++◌, filter, drop, map}
use Rattle.std.specs.List.{Contains}
use Rattle.std.proofs.lemmas.List.Elements.{Contains-append_left, Contains-append_right, Contains-append_cases}
use Rattle.td_civil.specs.declared.moment_type.Moment.{Moment}
use Rattle.td_civil.specs.declared.local_time.Local.{Local}
use Rattle.td_civil.specs.declared.local_time.Observance.{Observance}
use Rattle.recurrence.specs.declared.part_types.Part.{Part}
use Rattle.recurrence.specs.InForce.{state_of_part, IsListed, IsOnset, IsInForce, GivesState}
use Rattle.vtimezone.specs.Grouping.{is_alike, first_ones, dates_among, part_among, grouped}
use Rattle.vtimezone.proofs.Alike.{AreAlike, alike_is, alike_of, alike_back, alike_on, kept_member, member_kept, first_leads, first_of, one_first}
use Rattle.vtimezone.proofs.Ruled.{HaveRules}
use Rattle.vtimezone.proofs.Singles.{single_of, single_onset_is, single_starts, member_mapped, mapped_member}

dropped : {X Y : Type 0} (f : X → Y) (xs : List X) → drop 1 (map f xs) ≡ map f (drop 1 xs)
dropped f [] = refl
dropped f (x ∷ xs) = refl

-- what the part of a first one lists is the onsets of those alike it
lists_onsets : (os : List Observance) (f : Observance) → Contains (first_ones os) f
    → f.onset ∷ dates_among os f ≡ map (λ (o : Observance). o.onset) (filter (is_alike f) os)
lists_onsets os f h =
    let onset = λ (o : Observance). o.onset in
    ap (λ ms. f.onset ∷ ms) (dropped onset (filter (is_alike f) os))
    ∙ sym (ap (map onset) (first_leads os f h))

-- a moment that the part of a first one lists is the onset of a change alike it
record IsOnsetOf (os : List Observance) (f : Observance) (m : ℤ) : Type 0 where
  change : Observance
  there : Contains os change
  alike : AreAlike f change
  onset : change.onset.seconds ≡ m

listed_gives : (os : List Observance) (f : Observance) (m : ℤ) → Contains (first_ones os) f → IsListed (part_among os f) m → IsOnsetOf os f m
listed_gives os f m h listed =
    let onset = λ (o : Observance). o.onset in
    let P : List Moment → Type 0 = λ ms. Contains ms (record { seconds = m }) in
    let found = member_mapped onset (filter (is_alike f) os) (record { seconds = m }) (subst P (lists_onsets os f h) listed) in
    let kept = kept_member (is_alike f) os found.0 found.1.0 in
    record {
      change = found.0;
      there = kept.0;
      alike = alike_is f found.0 kept.1;
      onset = ap (λ (t : Moment). t.seconds) found.1.1;
    }

listed_from : (os : List Observance) (f o : Observance) → Contains (first_ones os) f → Contains os o → AreAlike f o
    → IsListed (part_among os f) o.onset.seconds
listed_from os f o h there same =
    let onset = λ (q : Observance). q.onset in
    let P : List Moment → Type 0 = λ ms. Contains ms o.onset in
    subst P (sym (lists_onsets os f h)) (mapped_member onset (filter (is_alike f) os) o (member_kept (is_alike f) os o there (alike_of f o same)))

-- singles with one state and offset before it are alike
singles_alike : (o p : Observance) → single_of o ≡ single_of p → AreAlike o p
singles_alike o p e = (ap (λ (q : Part). q.from) e, ap state_of_part e)

module _ (os : List Observance) (ruled : List Part) (rules : HaveRules ruled) (t : ℤ) where
  abbrev Singly : Part → Type 0
  Singly = Contains (map single_of os ++ ruled)

  -- the single part of a change
  single_there : (o : Observance) → Contains os o → Singly (single_of o)
  single_there o there = Contains-append_left (map single_of os) ruled (single_of o) (mapped_member single_of os o there)

  no_single : (o : Observance) (p : Part) → Contains ruled p → single_of o ≡ p → ⊥
  no_single o p there same = rules p there (sym (ap (λ (q : Part). q.rule) same))

  -- of all parts, where the single part of a change alike a first one is in force
  first_greatest : (f o : Observance) (force : IsInForce Singly t (single_of o)) → Contains (first_ones os) f → AreAlike f o
      → (other : Part) (m : ℤ) → Contains (grouped os ++ ruled) other → IsOnset other m → m ≤ℤ t
      → (m <ℤ force.onset) ⊎ ((m ≡ force.onset) × (other ≡ part_among os f))
  unfolding grouped
  first_greatest f o force first same other m there onset begun = elim (Contains-append_cases (map (part_among os) (first_ones os)) ruled other there) [
    | inl group ↦
        let found = member_mapped (part_among os) (first_ones os) other group in
        let P : Part → Type 0 = λ q. IsOnset q m in
        let seen = listed_gives os found.0 m found.1.0 (subst P (sym found.1.1) onset) in
        let single : IsOnset (single_of seen.change) m = single_starts seen.change m (sym seen.onset) in
        elim (force.greatest (single_of seen.change) m (single_there seen.change seen.there) single begun) [
          | inl lt ↦ inl lt
          | inr at ↦
              let alike = alike_on found.0 seen.change f seen.alike
              (alike_on seen.change o f (singles_alike seen.change o at.1) (alike_back f o same)) in
              inr (at.0, sym found.1.1 ∙ ap (part_among os) (one_first os found.0 f found.1.0 first alike))
        ]
    | inr rule ↦
        elim (force.greatest other m (Contains-append_right (map single_of os) ruled other rule) onset begun) [
          | inl lt ↦ inl lt
          | inr at ↦ absurd (no_single o other rule (sym at.1))
        ]
  ]

  ruled_greatest : (p : Part) (force : IsInForce Singly t p) → Contains ruled p
      → (other : Part) (m : ℤ) → Contains (grouped os ++ ruled) other → IsOnset other m → m ≤ℤ t
      → (m <ℤ force.onset) ⊎ ((m ≡ force.onset) × (other ≡ p))
  unfolding grouped
  ruled_greatest p force rule other m there onset begun = elim (Contains-append_cases (map (part_among os) (first_ones os)) ruled other there) [
    | inl group ↦
        let found = member_mapped (part_among os) (first_ones os) other group in
        let P : Part → Type 0 = λ q. IsOnset q m in
        let seen = listed_gives os found.0 m found.1.0 (subst P (sym found.1.1) onset) in
        let single : IsOnset (single_of seen.change) m = single_starts seen.change m (sym seen.onset) in
        elim (force.greatest (single_of seen.change) m (single_there seen.change seen.there) single begun) [
          | inl lt ↦ inl lt
          | inr at ↦ absurd (no_single seen.change p rule at.1)
        ]
    | inr too ↦ force.greatest other m (Contains-append_right (map single_of os) ruled other too) onset begun
  ]

  by_single : (o : Observance) (state : Local) → Contains os o → IsInForce Singly t (single_of o) → state_of_part (single_of o) ≡ state
      → GivesState (grouped os ++ ruled) t state
  unfolding grouped
  by_single o state there force is =
      let first = first_of os o there in
      let f = first.0 in
      let p = part_among os f in
      let at : force.onset ≡ o.onset.seconds = single_onset_is o force.onset force.is in
      let P : ℤ → Type 0 = λ m. IsListed p m in (
        p,
        (
          record {
            there = Contains-append_left (map (part_among os) (first_ones os)) ruled p (mapped_member (part_among os) (first_ones os) f first.1.0);
            onset = force.onset;
            is = subst P (sym at) (listed_from os f o first.1.0 there first.1.1);
            begun = force.begun;
            greatest = first_greatest f o force first.1.0 first.1.1;
          },
          first.1.1.1 ∙ is,
        ),
      )

  by_rule : (p : Part) (state : Local) → Contains ruled p → IsInForce Singly t p → state_of_part p ≡ state → GivesState (grouped os ++ ruled) t state
  by_rule p state there force is = (
    p,
    (
      record {
        there = Contains-append_right (grouped os) ruled p there;
        onset = force.onset;
        is = force.is;
        begun = force.begun;
        greatest = ruled_greatest p force there;
      },
      is,
    ),
  )

  -- the parts of sets of changes give the state that those of single changes give
  pub grouped_gives : (state : Local) → GivesState (map single_of os ++ ruled) t state → GivesState (grouped os ++ ruled) t state
  grouped_gives state given =
      let force = given.1.0 in
      elim (Contains-append_cases (map single_of os) ruled given.0 force.there) [
        | inl single ↦
            let found = member_mapped single_of os given.0 single in
            let P : Part → Type 0 = λ q. IsInForce Singly t q × (state_of_part q ≡ state) in
            let both = subst P (sym found.1.1) given.1 in
            by_single found.0 state found.1.0 both.0 both.1
        | inr rule ↦ by_rule given.0 state rule force given.1.1
      ]
