-- Before a transition that two files have alike, with all before it, their states are one.
use Rattle.std.proofs.Common.{◌≡◌, ◌≢◌, ℕ, zero, suc, ◌+◌, ◌-◌, ◌<◌, List, length, Option, None, Some, inl, inr, refl, sym, subst, ap, ◌∙◌, arith}
use Rattle.std.proofs.Common.{ℤ, pos, ◌≤ℤ◌, ◌<ℤ◌, get_or}
use Rattle.std.proofs.lemmas.Bool.{cases_lt}
use Rattle.std.proofs.lemmas.Int.{by_lt_z}
use Rattle.std.specs.Prelude.{slice_get}
use Rattle.std.proofs.lemmas.List.{get_or_default}
use Rattle.std.proofs.lemmas.Option.{get_or_from_slice_get}
use Rattle.jiff_core.proofs.SignedLemmas.{signed_arith}
use Rattle.td_civil.specs.declared.moment_type.Moment.{Moment}
use Rattle.td_civil.specs.declared.moment_type.TheConstants.{LO}
use Rattle.td_civil.specs.declared.local_time.Local.{Local}
use Rattle.tzif_reader.specs.declared.zone_file.ZoneFile.{ZoneFile}
use Rattle.posix_footer.specs.declared.rule_types.Footer.{Footer}
use Rattle.zone_meaning.specs.Alike.{AreAlikeUpTo, IsAlikeAt}
use Rattle.zone_meaning.specs.Difference.{lists_state, AreAlike, IsFirstDifference}
use Rattle.zone_meaning.specs.Kept.{HasTypes, IsReadFrom}
use Rattle.zone_meaning.specs.State.{footer_meant, state_at, zone_state}
use Rattle.zone_meaning.specs.Walks.{HaveBegun}
use Rattle.zone_meaning.proofs.Walking.{begun_is, early}
use Rattle.zone_meaning.proofs.lemmas.Types.{kept_state}

abbrev pub nothing : Moment
nothing = record { seconds = pos 0 }

-- so many transitions have come by t
come : (ms : List Moment) (t : ℤ) (n : ℕ) → n < length ms → ((k : ℕ) → suc k ≡ n → (get_or ms k nothing).seconds ≤ℤ t) → t <ℤ (get_or ms n nothing).seconds
    → HaveBegun ms t n
come ms t n inside last next = record {
  bound = omega arith;
  last = λ k d e.
      let lt : k < length ms = omega arith in
      subst (λ (m : Moment). m.seconds ≤ℤ t) (get_or_default ms k nothing d lt) (last k e);
  next = λ d lt. subst (λ (m : Moment). t <ℤ m.seconds) (get_or_default ms n nothing d lt) next;
}

-- between the transitions before a place and the one of that place the state is that before it, of
-- both files
before_place : (one two : ZoneFile) (f g : Option Footer) (n : ℕ) (t : ℤ) → HasTypes one → HasTypes two → IsAlikeAt one two n
    → ((k : ℕ) → suc k ≡ n → (get_or one.moments k nothing).seconds ≤ℤ t) → ((k : ℕ) → suc k ≡ n → (get_or two.moments k nothing).seconds ≤ℤ t)
    → t <ℤ (get_or one.moments n nothing).seconds → state_at one f t ≡ state_at two g t
before_place one two f g n t first second is last other next =
    let there : t <ℤ (get_or two.moments n nothing).seconds = subst (λ (k : ℤ). t <ℤ k) (is.moment nothing) next in
    let ones = begun_is one.moments t n first.rising (come one.moments t n is.inside last next) in
    let twos = begun_is two.moments t n second.rising (come two.moments t n is.other_inside other there) in
    early one f t n ones is.inside ∙ is.state ∙ sym (early two g t n twos is.other_inside)

-- and so everywhere before the last of those that are alike
pub alike_before : (one two : ZoneFile) (f g : Option Footer) (n : ℕ) (t : ℤ) → HasTypes one → HasTypes two → AreAlikeUpTo one two (suc n)
    → t <ℤ (get_or one.moments n nothing).seconds → state_at one f t ≡ state_at two g t
alike_before one two f g zero t first second alike next =
    before_place one two f g 0 t first second (alike 0 (omega arith)) (λ k e. absurd (omega arith)) (λ k e. absurd (omega arith)) next
alike_before one two f g (suc n) t first second alike next =
    by_lt_z t (get_or one.moments n nothing).seconds
    (λ before. alike_before one two f g n t first second (λ place lt. alike place (omega arith)) before)
    (λ late.
    let same = (alike n (omega arith)).moment nothing in
    let last : (k : ℕ) → suc k ≡ suc n → (get_or one.moments k nothing).seconds ≤ℤ t =
    λ k e. let at : n ≡ k = omega arith in subst (λ (i : ℕ). (get_or one.moments i nothing).seconds ≤ℤ t) at late in
    let other : (k : ℕ) → suc k ≡ suc n → (get_or two.moments k nothing).seconds ≤ℤ t =
    λ k e. let at : n ≡ k = omega arith in
    subst (λ (i : ℕ). (get_or two.moments i nothing).seconds ≤ℤ t) at (subst (λ (i : ℤ). i ≤ℤ t) same late) in
    before_place one two f g (suc n) t first second (alike (suc n) (omega arith)) last other next)

-- ---- as the code has it

-- one more transition
pub one_more_alike : (one two : ZoneFile) (n : ℕ) → AreAlikeUpTo one two n → IsAlikeAt one two n → AreAlikeUpTo one two (n + 1)
one_more_alike one two n alike is place lt = elim (cases_lt place n) [
  | inl before ↦ alike place before
  | inr late ↦ let at : n ≡ place = omega arith in subst (λ (k : ℕ). IsAlikeAt one two k) at is
]

-- the last of so many transitions
pub alike_until : (one two : ZoneFile) (n : ℕ) (m : Moment) → HasTypes one → HasTypes two → AreAlikeUpTo one two n → n ≢ 0
    → slice_get one.moments (n - 1) ≡ Some m → AreAlike (lists_state one) (lists_state two) LO m.seconds
alike_until one two zero m first second alike some is = absurd (some refl)
alike_until one two (suc n) m first second alike some is = λ t low high.
    let back : suc n - 1 ≡ n = omega arith in
    let there : get_or one.moments n nothing ≡ m =
    get_or_from_slice_get one.moments n m nothing (subst (λ (k : ℕ). slice_get one.moments k ≡ Some m) back is) in
    alike_before one two (footer_meant one.footer) (footer_meant two.footer) n t first second alike
    (subst (λ (x : Moment). t <ℤ x.seconds) (sym there) high)

-- what is kept of two zones gives the states of their files
pub alike_zones : (file other : List ℕ) (lists z : ZoneFile) (footer f : Option Footer) (b : ℤ) → IsReadFrom file lists footer → IsReadFrom other z f
    → AreAlike (lists_state lists) (lists_state z) LO b → AreAlike (zone_state file) (zone_state other) LO b
alike_zones file other lists z footer f b k h alike = λ t low high.
    let by_footer : Option Footer → Local = λ o. state_at lists o t in
    let other_by : Option Footer → Local = λ o. state_at z o t in
    sym (kept_state file lists footer t k) ∙ ap by_footer k.footer_is ∙ alike t low high ∙ sym (ap other_by h.footer_is) ∙ kept_state other z f t h

-- what comes first after moments that are alike comes first
pub first_after : (one two : ℤ → Local) (a b : ℤ) (r : Option Moment) → LO ≤ℤ a → AreAlike one two LO a → IsFirstDifference one two a b r
    → IsFirstDifference one two LO b r
first_after one two a b None le alike none = λ t low high. by_lt_z t a (λ early. alike t low early) (λ late. none t late high)
first_after one two a b (Some m) le alike least =
    let from = least.from in
    record {
      from = omega (arith, signed_arith);
      before_end = least.before_end;
      differ = least.differ;
      alike_before = λ t low high. by_lt_z t a (λ early. alike t low early) (λ late. least.alike_before t late high);
    }
