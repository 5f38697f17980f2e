-- The single parts of a range, one for each of its observances.
use Rattle.std.proofs.Common.{◌≡◌, ◌≢◌, ◌⊎◌, true, false, inl, inr, refl, sym, subst, ap, ◌∙◌, ℤ, pos, ◌-ℤ◌, ◌<ℤ◌, None, List, [], ◌∷◌, map}
use Rattle.std.specs.List.{Contains}
use Rattle.td_civil.specs.SameLocal.{same_local}
use Rattle.td_civil.specs.declared.moment_type.Moment.{Moment}
use Rattle.td_civil.specs.declared.local_time.Local.{Local}
use Rattle.td_civil.specs.declared.local_time.Observance.{Observance}
use Rattle.td_civil.proofs.lemmas.SameStates.{same_local_is, other_local}
use Rattle.zone_meaning.specs.Observed.{change_at, first_at, observed}
use Rattle.zone_meaning.specs.RangeLaws.{IsChangeBetween, state_told}
use Rattle.zone_meaning.proofs.lemmas.Members.{member_first, member_later, member_cases, no_member}
use Rattle.zone_meaning.proofs.lemmas.RangeLemmas.{change_onset, first_onset, change_told, first_told, one_onset, are_observed}
use Rattle.recurrence.specs.declared.part_types.Part.{Part}
use Rattle.recurrence.specs.InForce.{state_of_part, IsOnset}
use Rattle.vtimezone.proofs.lemmas.Whole.{AreSingles}

-- the part of one change alone
abbrev pub single_of : Observance → Part
single_of o = record {
  dst = o.dst;
  start = o.onset;
  from = o.from;
  to = o.to;
  name = o.name;
  rule = None;
  until = None;
  dates = [];
}

-- a start without dates lists itself alone
pub one_listed : (start : Moment) (m : ℤ) → Contains (start ∷ []) (record { seconds = m }) → m ≡ start.seconds
one_listed start m h = elim (member_cases start (record { seconds = m }) [] h) [
  | inl is ↦ sym (ap (λ (t : Moment). t.seconds) is)
  | inr later ↦ absurd (no_member (record { seconds = m }) later)
]

pub single_onset_is : (o : Observance) (m : ℤ) → IsOnset (single_of o) m → m ≡ o.onset.seconds
single_onset_is o m h = one_listed o.onset m h

pub single_starts : (o : Observance) (m : ℤ) → m ≡ o.onset.seconds → IsOnset (single_of o) m
single_starts o m is =
    let P : ℤ → Type 0 = λ t. IsOnset (single_of o) t in
    subst P (sym is) (member_first o.onset [])

pub member_mapped : {X Y : Type 0} (f : X → Y) (xs : List X) (y : Y) → Contains (map f xs) y → (x : X) × (Contains xs x × (f x ≡ y))
member_mapped f [] y h = absurd (no_member y h)
member_mapped f (x ∷ xs) y h = elim (member_cases (f x) y (map f xs) h) [
  | inl is ↦ (x, (member_first x xs, is))
  | inr later ↦ let found = member_mapped f xs y later in (found.0, (member_later x found.0 xs found.1.0, found.1.1))
]

pub mapped_member : {X Y : Type 0} (f : X → Y) (xs : List X) (x : X) → Contains xs x → Contains (map f xs) (f x)
mapped_member f [] x h = absurd (no_member x h)
mapped_member f (y ∷ ys) x h = elim (member_cases y x ys h) [
  | inl is ↦ subst (λ z. Contains (f y ∷ map f ys) (f z)) is (member_first (f y) (map f ys))
  | inr later ↦ member_later (f y) (f x) (map f ys) (mapped_member f ys x later)
]

-- what an observance of a range tells
record IsTold (state : ℤ → Local) (a e : ℤ) (o : Observance) : Type 0 where
  before : o.onset.seconds <ℤ e
  told : state_told o ≡ state o.onset.seconds
  changes : (o.onset.seconds ≡ a) ⊎ ((a <ℤ o.onset.seconds) × (state o.onset.seconds ≢ state (o.onset.seconds -ℤ pos 1)))

first_is_told : (state : ℤ → Local) (a e : ℤ) → a <ℤ e → IsTold state a e (first_at state a)
first_is_told state a e lt =
    let P : ℤ → Type 0 = λ t. (t <ℤ e) × (state_told (first_at state a) ≡ state t) × (t ≡ a) in
    let all : P (first_at state a).onset.seconds = subst P (sym (first_onset state a)) (lt, first_told state a, refl) in
    record { before = all.0; told = all.1; changes = inl all.2 }

change_is_told : (state : ℤ → Local) (a e t : ℤ) → a <ℤ t → t <ℤ e → state t ≢ state (t -ℤ pos 1) → IsTold state a e (change_at state t)
change_is_told state a e t after before changes =
    let P : ℤ → Type 0 = λ u. (u <ℤ e) × (state_told (change_at state t) ≡ state u) × (a <ℤ u) × (state u ≢ state (u -ℤ pos 1)) in
    let all : P (change_at state t).onset.seconds = subst P (sym (change_onset state t)) (before, change_told state t, after, changes) in
    record { before = all.0; told = all.1; changes = inr (all.2, all.3) }

each_told : (state : ℤ → Local) (a e : ℤ) (o : Observance) → a <ℤ e → (o ≡ first_at state a) ⊎ IsChangeBetween state a e o → IsTold state a e o
each_told state a e o lt (inl first) = subst (IsTold state a e) (sym first) (first_is_told state a e lt)
each_told state a e o lt (inr change) =
    subst (IsTold state a e) (sym change.change_is) (change_is_told state a e change.moment change.after change.before change.changes)

pub are_singles : (state : ℤ → Local) (a e : ℤ) → a <ℤ e → AreSingles state a e (Contains (map single_of (observed state a e)))
are_singles state a e lt =
    let os = observed state a e in
    let is = are_observed state a e lt in
    record {
      first = (single_of (first_at state a), (mapped_member single_of os (first_at state a) is.first, first_onset state a));
      each_is = λ p there.
          let found = member_mapped single_of os p there in
          let told = each_told state a e found.0 lt (is.each found.0 found.1.0) in
          let P : Part → Type 0 =
          λ q. (q.rule ≡ None) × (q.start.seconds <ℤ e) × (state_of_part q ≡ state q.start.seconds) × (q.dates ≡ []) in
          subst P found.1.1 (refl, told.before, told.told, refl);
      each_changes = λ p there.
          let found = member_mapped single_of os p there in
          let told = each_told state a e found.0 lt (is.each found.0 found.1.0) in
          let P : Part → Type 0 = λ q. (q.start.seconds ≡ a) ⊎ ((a <ℤ q.start.seconds) × (state q.start.seconds ≢ state (q.start.seconds -ℤ pos 1))) in
          subst P found.1.1 told.changes;
      some = λ t after before.
          let Says : Type 0 = (state t ≡ state (t -ℤ pos 1)) ⊎ ((p : Part) × (Contains (map single_of os) p × (p.start.seconds ≡ t))) in
          elim (same_local (state t) (state (t -ℤ pos 1))) as (λ b. same_local (state t) (state (t -ℤ pos 1)) ≡ b → Says) [
            | true ↦ λ same. inl (same_local_is (state t) (state (t -ℤ pos 1)) same)
            | false ↦ λ other.
                let there = is.every t after before (other_local (state t) (state (t -ℤ pos 1)) other) in
                inr (single_of (change_at state t), (mapped_member single_of os (change_at state t) there, change_onset state t))
          ] refl;
      one = λ p q p_there q_there same.
          let o = member_mapped single_of os p p_there in
          let u = member_mapped single_of os q q_there in
          let onsets : o.0.onset.seconds ≡ u.0.onset.seconds =
          ap (λ (r : Part). r.start.seconds) o.1.1 ∙ same ∙ sym (ap (λ (r : Part). r.start.seconds) u.1.1) in
          let equal = one_onset (a -ℤ pos 1) os o.0 u.0 is.rising o.1.0 u.1.0 onsets in
          sym o.1.1 ∙ ap single_of equal ∙ u.1.1;
    }
