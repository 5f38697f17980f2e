-- The turns of a walk: the next transition, and after the last one the next onset of the footer.
use Rattle.std.proofs.Common.{◌≡◌, ◌≢◌, ℕ, suc, ◌+◌, ◌<◌, ◌≤◌, min, List, length, Option, Some, None, refl, sym, ap, ◌∙◌, subst, arith}
use Rattle.std.specs.Prelude.{ℤ, pos, ◌≤ℤ◌, ◌<ℤ◌, slice_index_or}
use Rattle.std.proofs.lemmas.Bool.{ne_eqb, eq-eqb}
use Rattle.jiff_core.proofs.SignedLemmas.{signed_arith}
use Rattle.std.specs.Option.{option_map, IfSome}
use Rattle.td_civil.specs.declared.local_time.Local.{Local}
use Rattle.td_civil.specs.declared.moment_type.Moment.{Moment}
use Rattle.tzif_reader.specs.declared.zone_file.ZoneFile.{ZoneFile}
use Rattle.tzif_reader.specs.Layout.{AreRising}
use Rattle.posix_footer.specs.declared.rule_types.Footer.{Footer}
use Rattle.posix_footer.specs.NextOnset.{IsNext, IsQuietIfAny}
use Rattle.posix_footer.specs.StateAt.{state_of}
use Rattle.posix_footer.proofs.lemmas.ChangeLemmas.{footer_stays}
use Rattle.posix_footer.proofs.lemmas.NextLemmas.{quiet_until, next_later}
use Rattle.zone_meaning.specs.Kept.{HasTypes}
use Rattle.zone_meaning.specs.State.{begun, after, state_at}
use Rattle.zone_meaning.specs.Turns.{IsKnown}
use Rattle.zone_meaning.specs.Walks.{HaveBegun, IsTurn, IsNextTurn}
use Rattle.zone_meaning.specs.declared.walk.StateTurn.{StateTurn}
use Rattle.zone_meaning.proofs.Counting.{begun_are}

-- while some transition has not begun
pub early : (z : ZoneFile) (footer : Option Footer) (t : ℤ) (n : ℕ) → begun t z.moments ≡ n → n < length z.moments → state_at z footer t ≡ after z n
early z None t n h lt = ap (after z) h
early z (Some footer) t n h lt =
    let other : n ≢ length z.moments = λ e. absurd (omega arith) in
    rw (h, ne_eqb n (length z.moments) other) refl

-- once all have
pub all_begun : (z : ZoneFile) (footer : Footer) (t : ℤ) → begun t z.moments ≡ length z.moments → state_at z (Some footer) t ≡ state_of footer t
all_begun z footer t h = rw (h, eq-eqb (length z.moments) (length z.moments) refl) refl

-- no onset of the footer comes between, if there is one
abbrev pub IsQuietFooter : Option Footer → ℤ → ℤ → Type 0
IsQuietFooter None t u = Unit {0}
IsQuietFooter (Some footer) t u = IsQuietIfAny footer.dst footer.std.offset t u

late_stays : (z : ZoneFile) (footer : Option Footer) (t u : ℤ) → t ≤ℤ u → begun t z.moments ≡ length z.moments → begun u z.moments ≡ length z.moments
    → IsQuietFooter footer t u → state_at z footer t ≡ state_at z footer u
late_stays z None t u h one two quiet = ap (after z) (one ∙ sym two)
late_stays z (Some footer) t u h one two quiet =
    all_begun z footer t one ∙ footer_stays footer t u h quiet ∙ sym (all_begun z footer u two)

-- the count is as it stands
pub begun_is : (ms : List Moment) (t : ℤ) (n : ℕ) → AreRising ms → HaveBegun ms t n → begun t ms ≡ n
begun_is ms t n up h =
    begun_are ms t n (record { seconds = pos 0 }) up h.bound (λ k e. h.last k _ e) (h.next _)

-- and stands so later, before the next transition
pub still_begun : (ms : List Moment) (t u : ℤ) (n : ℕ) → t ≤ℤ u → HaveBegun ms t n → ((d : Moment) → n < length ms → u <ℤ (slice_index_or ms n d).seconds)
    → HaveBegun ms u n
still_begun ms t u n le h next = record {
  bound = h.bound;
  last = λ k d e. let before = h.last k d e in omega (arith, signed_arith);
  next = next;
}

-- at the next transition one more has come
one_more : (ms : List Moment) (t : ℤ) (n : ℕ) (m : Moment) → AreRising ms → HaveBegun ms t n → n < length ms → ((d : Moment) → slice_index_or ms n d ≡ m)
    → HaveBegun ms m.seconds (min (n + 1) (length ms))
one_more ms t n m up h lt is =
    let count : min (n + 1) (length ms) ≡ suc n = omega arith in
    let P : ℕ → Type 0 = λ k. HaveBegun ms m.seconds k in
    let there : HaveBegun ms m.seconds (suc n) = record {
      bound = omega arith;
      last = λ k d e.
          let same : k ≡ n = omega arith in
          let Q : ℕ → Type 0 = λ j. (slice_index_or ms j d).seconds ≤ℤ m.seconds in
          let R : Moment → Type 0 = λ x. x.seconds ≤ℤ m.seconds in
          subst Q (sym same) (subst R (sym (is d)) (omega (arith, signed_arith)));
      next = λ d more.
          let R : Moment → Type 0 = λ x. x.seconds <ℤ (slice_index_or ms (suc n) d).seconds in
          subst R (is d) (up n d more);
    } in
    subst P (sym count) there

-- a transition to come is the next turn
pub transition_turn : (z : ZoneFile) (footer : Option Footer) (t : ℤ) (n : ℕ) (m : Moment) → HasTypes z → HaveBegun z.moments t n → n < length z.moments
    → ((d : Moment) → slice_index_or z.moments n d ≡ m) → IsTurn z footer t n m.seconds
transition_turn z footer t n m types h lt is =
    let before : t <ℤ m.seconds = (let R : Moment → Type 0 = λ x. t <ℤ x.seconds in subst R (is m) (h.next m lt)) in
    record {
      later = before;
      stays = λ v low high.
          let there = still_begun z.moments t v n low h (λ d more. let R : Moment → Type 0 = λ x. v <ℤ x.seconds in subst R (sym (is d)) high) in
          early z footer v n (begun_is z.moments v n types.rising there) lt ∙ sym (early z footer t n (begun_is z.moments t n types.rising h) lt);
      begun = one_more z.moments t n m types.rising h lt is;
    }

all_still : (z : ZoneFile) (t v : ℤ) (n : ℕ) → HasTypes z → HaveBegun z.moments t n → length z.moments ≤ n → t ≤ℤ v → begun v z.moments ≡ length z.moments
all_still z t v n types h all low =
    begun_is z.moments v n types.rising (still_begun z.moments t v n low h (λ d more. absurd (omega arith))) ∙ (let bound = h.bound in omega arith)

-- without a footer nothing comes after the last transition
pub no_turn : (z : ZoneFile) (t : ℤ) (n : ℕ) → HasTypes z → HaveBegun z.moments t n → length z.moments ≤ n → IsNextTurn z None t n None
no_turn z t n types h all = λ v low.
    ap (after z) (all_still z t v n types h all low ∙ sym (all_still z t t n types h all (omega (arith, signed_arith))))

-- and with one the next onset does
pub onset_turn : (z : ZoneFile) (footer : Footer) (t : ℤ) (n : ℕ) (next : Option Moment) → HasTypes z → HaveBegun z.moments t n → length z.moments ≤ n
    → IsNext footer.dst footer.std.offset t next → IsNextTurn z (Some footer) t n next
onset_turn z footer t n None types h all is = λ v low.
    sym (late_stays z (Some footer) t v low (all_still z t t n types h all (omega (arith, signed_arith))) (all_still z t v n types h all low)
    (quiet_until footer.dst footer.std.offset t v None is tt))
onset_turn z footer t n (Some m) types h all is =
    let later = next_later footer.dst footer.std.offset t m is in
    let same : n ≡ min (n + 1) (length z.moments) = (let bound = h.bound in omega arith) in
    let P : ℕ → Type 0 = λ k. HaveBegun z.moments m.seconds k in
    record {
      later = later;
      stays = λ v low high.
          sym (late_stays z (Some footer) t v low (all_still z t t n types h all (omega (arith, signed_arith))) (all_still z t v n types h all low)
          (quiet_until footer.dst footer.std.offset t v (Some m) is high));
      begun = subst P same (still_begun z.moments t m.seconds n (omega (arith, signed_arith)) h (λ d more. absurd (omega arith)));
    }

-- what the footer gives then is the zone's state
pub onset_known : (z : ZoneFile) (footer : Footer) (t : ℤ) (n : ℕ) (next : Option StateTurn) → HasTypes z → HaveBegun z.moments t n → length z.moments ≤ n
    → IsNext footer.dst footer.std.offset t (option_map (λ (turn : StateTurn). turn.at) next)
    → IfSome next (λ (turn : StateTurn). turn.state ≡ Some (state_of footer turn.at.seconds)) → IfSome next (IsKnown z (Some footer))
onset_known z footer t n None types h all is known = tt
onset_known z footer t n (Some turn) types h all is known =
    let later = next_later footer.dst footer.std.offset t turn.at is in
    let there = all_still z t turn.at.seconds n types h all (omega (arith, signed_arith)) in
    let P : Option Local → Type 0 = λ state. IfSome state (λ s. s ≡ state_at z (Some footer) turn.at.seconds) in
    subst P (sym known) (sym (all_begun z footer turn.at.seconds there))
