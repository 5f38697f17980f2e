-- The observances of a sound zone are plain, and how far a document of them is written.
use Rattle.std.proofs.Common.{◌≡◌, ℕ, List, [], ◌∷◌, true, refl, ap, sym, subst, ◌∙◌, arith, ◌⊎◌, inl, inr}
use Rattle.std.proofs.lemmas.Bool.{and_parts}
use Rattle.std.proofs.lemmas.Bool.Decides.{nat_tests}
use Rattle.std.proofs.lemmas.Int.{ints}
use Rattle.std.specs.Prelude.{ℤ, ◌≤ℤ◌, ◌<ℤ◌}
use Rattle.std.specs.List.{AllByRecursion, Contains, list_all}
use Rattle.td_base.specs.Names.{IsPlain, is_printable}
use Rattle.td_civil.specs.Bounds.{IsWithinBounds}
use Rattle.td_civil.specs.declared.moment_type.TheConstants.{LO, HI}
use Rattle.td_civil.specs.declared.local_time.Local.{Local}
use Rattle.td_civil.specs.declared.local_time.Observance.{Observance}
use Rattle.json_forms.specs.PlainTexts.{IsPlainObservance}
use Rattle.posix_footer.specs.Items.{is_designation_byte}
use Rattle.zone_meaning.specs.Names.{is_printable_name}
use Rattle.zone_meaning.specs.Observed.{IsRange, first_at, observed}
use Rattle.zone_meaning.specs.RangeLaws.{IsChangeBetween}
use Rattle.zone_meaning.specs.Sound.{IsSoundFile}
use Rattle.zone_meaning.specs.State.{zone_state}
use Rattle.zone_meaning.proofs.lemmas.Members.{member_first, member_later}
use Rattle.zone_meaning.proofs.lemmas.NameLemmas.{observance_name}
use Rattle.zone_meaning.proofs.lemmas.RangeLemmas.{are_observed, change_onset, first_onset}

-- what holds of each member holds of each item
each_of : {X : Type 0} (P : X → Type 0) (xs : List X) → ((x : X) → Contains xs x → P x) → AllByRecursion P xs
each_of P [] h = tt
each_of P (x ∷ xs) h = (h x (member_first x xs), each_of P xs (λ y there. h y (member_later x y xs there)))

-- ---- names

byte_is_plain : (b : ℕ) → is_designation_byte b ≡ true → is_printable b ≡ true
byte_is_plain b name = grind (arith, nat_tests)

bytes_are_plain : (bs : List ℕ) → list_all is_designation_byte bs ≡ true → IsPlain bs
bytes_are_plain [] names = refl
bytes_are_plain (b ∷ bs) names =
    let parts = and_parts (is_designation_byte b) (list_all is_designation_byte bs) names in
    rw (byte_is_plain b parts.0, bytes_are_plain bs parts.1)

name_is_plain : (name : List ℕ) → is_printable_name name ≡ true → IsPlain name
name_is_plain [] printable = refl
name_is_plain (b ∷ bs) printable = bytes_are_plain (b ∷ bs) printable

-- ---- onsets

onset_within : (state : ℤ → Local) (a b : ℤ) (o : Observance) → IsRange a b → (o ≡ first_at state a) ⊎ IsChangeBetween state a b o
    → IsWithinBounds o.onset.seconds
onset_within state a b o range (inl first) =
    let low : LO ≤ℤ a = range.0 in
    let mid : a <ℤ b = range.1 in
    let high : b ≤ℤ HI = range.2 in
    let same : o.onset.seconds ≡ a = ap (λ (x : Observance). x.onset.seconds) first ∙ first_onset state a in
    let within : IsWithinBounds a = (low, omega (arith, ints)) in
    subst IsWithinBounds (sym same) within
onset_within state a b o range (inr change) =
    let low : LO ≤ℤ a = range.0 in
    let high : b ≤ℤ HI = range.2 in
    let after : a <ℤ change.moment = change.after in
    let before : change.moment <ℤ b = change.before in
    let same : o.onset.seconds ≡ change.moment = ap (λ (x : Observance). x.onset.seconds) change.change_is ∙ change_onset state change.moment in
    let within : IsWithinBounds change.moment = (omega (arith, ints), omega (arith, ints)) in
    subst IsWithinBounds (sym same) within

-- ---- observances

pub plain_observances : (file : List ℕ) (a b : ℤ) → IsSoundFile file → IsRange a b → AllByRecursion IsPlainObservance (observed (zone_state file) a b)
plain_observances file a b sound range =
    each_of IsPlainObservance (observed (zone_state file) a b)
    (λ o there. record {
      name = name_is_plain o.name (observance_name file a b o sound.no_fault sound.names range.1 there);
      onset = onset_within (zone_state file) a b o range ((are_observed (zone_state file) a b range.1).each o there);
    })
