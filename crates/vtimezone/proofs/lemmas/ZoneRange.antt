-- A zone's state goes on from its last transition.
use Rattle.std.proofs.Common.{◌≡◌, ℕ, suc, ◌-◌, List, [], ◌∷◌, length, refl, sym, subst, ap, ◌∙◌, arith, ℤ, pos, ◌+ℤ◌, ◌*ℤ◌, ◌≤ℤ◌, ◌<ℤ◌, Option, None, Some}
use Rattle.std.proofs.Common.{Result, Ok, Err}
use Rattle.std.specs.Prelude.{slice_index, slice_index_or, slice_get}
use Rattle.std.specs.Option.{IfSome}
use Rattle.std.proofs.lemmas.Option.{slice_get-get_or}
use Rattle.td_civil.specs.declared.moment_type.TheConstants.{LO, HI}
use Rattle.tzif_reader.proofs.lemmas.Whole.{zone_file_of}
use Rattle.zone_meaning.specs.FaultLemmas.{file_clear}
use Rattle.std.proofs.lemmas.Int.{int_max_is}
use Rattle.jiff_core.specs.Calendar.{days_from_civil}
use Rattle.jiff_core.proofs.SignedLemmas.{signed_arith}
use Rattle.std.proofs.lemmas.Int.{by_lt_z}
use Rattle.td_civil.proofs.lemmas.Years.{year_is_long}
use Rattle.td_civil.specs.Bounds.{HasMeaning}
use Rattle.td_civil.specs.Calendar.{stamp_of}
use Rattle.td_civil.proofs.lemmas.Shown.{shown_year, bounds_text}
use Rattle.td_civil.specs.declared.moment_type.Moment.{Moment}
use Rattle.td_civil.specs.declared.local_time.Local.{Local}
use Rattle.tzif_reader.specs.declared.zone_file.ZoneFile.{ZoneFile}
use Rattle.tzif_reader.specs.Cut.{lists_of}
use Rattle.posix_footer.specs.declared.rule_types.Footer.{Footer}
use Rattle.posix_footer.specs.Carried.{IsCarriedIfAny}
use Rattle.posix_footer.proofs.lemmas.YearLemmas.{year_in_range}
use Rattle.zone_meaning.specs.Faults.{zone_fault}
use Rattle.zone_meaning.specs.State.{zone_state, footer_meant}
use Rattle.zone_meaning.specs.Rules.{FollowsRules, by_footer_or}
use Rattle.zone_meaning.proofs.lemmas.RuleLemmas.{zone_follows}
use Rattle.recurrence.specs.InForce.{GivesState}
use Rattle.recurrence.specs.declared.part_types.Range.{Range}
use Rattle.vtimezone.specs.Ranges.{IsEndOf, IsAmong, end_in}
use Rattle.vtimezone.proofs.lemmas.Whole.{IsRange, IsLawfulAndCarried, goes_on}
use Rattle.recurrence.proofs.lemmas.AllYear.{year_9999}
use Rattle.posix_footer.specs.Grammar.{footer_in}
use Rattle.posix_footer.specs.declared.footer_fault.FooterFault.{FooterFault}
use Rattle.posix_footer.proofs.lemmas.Lawfulness.{read_lawful}
use Rattle.std.specs.Result.{result_ok}
use Rattle.vtimezone.proofs.PartsMean.{parts_from_mean}
use Rattle.vtimezone.specs.ZoneParts.{latest, rule_year, range_parts}

-- where one type or the footer gives the state from a moment on, it goes on from there
by_one : (state : ℤ → Local) (z : ZoneFile) (footer : Option Footer) (last : ℤ) (number : ℕ)
    → ((t : ℤ) → last ≤ℤ t → state t ≡ by_footer_or z footer t number) → (t : ℤ) → last ≤ℤ t → state t ≡ goes_on state footer last t
by_one state z None last number by t le = by t le ∙ sym (by last (omega (arith, signed_arith)))
by_one state z (Some footer) last number by t le = by t le

zone_goes_on : (state : ℤ → Local) (z : ZoneFile) (footer : Option Footer) (a : ℤ) (ms : List Moment) → z.moments ≡ ms
    → ((t : ℤ) → FollowsRules z footer t (state t)) → (t : ℤ) → latest a ms ≤ℤ t → state t ≡ goes_on state footer (latest a ms) t
zone_goes_on state z footer a [] e follows t le =
    by_one state z footer a 0 (λ u from. (follows u).alone e) t le
zone_goes_on state z footer a (m ∷ ms) e follows t le =
    let i = length (m ∷ ms) - 1 in
    let last = latest a (m ∷ ms) in
    by_one state z footer last (slice_index z.numbers i)
    (λ u from.
    let P : List Moment → Type 0 = λ l. (slice_index_or l i (record { seconds = pos 0 })).seconds ≤ℤ u in
    let late : (slice_index_or (m ∷ ms) i (record { seconds = pos 0 })).seconds ≤ℤ u = omega
    (arith, signed_arith, int_max_is a (slice_index_or (m ∷ ms) i (record { seconds = pos 0 })).seconds) in
    let count : length (m ∷ ms) ≡ length z.moments = sym (ap length e) in
    let long : suc i ≡ length z.moments = omega (arith, count) in
    (follows u).from_last i long (subst P (sym e) late)) t le

latest_from : (a : ℤ) (ms : List Moment) → a ≤ℤ latest a ms
latest_from a [] = omega (arith, signed_arith)
latest_from a (m ∷ ms) = omega (arith, signed_arith, int_max_is a (slice_index_or (m ∷ ms) (length (m ∷ ms) - 1) (record { seconds = pos 0 })).seconds)

-- the last transition of a file without fault comes before the end
last_before_end : (bytes : List ℕ) (ms : List Moment) (i : ℕ) (d : Moment) → zone_fault bytes ≡ None → (lists_of bytes).moments ≡ ms → suc i ≡ length ms
    → (slice_index_or ms i d).seconds <ℤ HI
last_before_end bytes ms i d h e long =
    let ends = (zone_file_of bytes (file_clear bytes h)).second_block_is.ends in
    let P : List Moment → Type 0 = λ l. IfSome (slice_get l (length l - 1)) (λ m. m.seconds <ℤ HI) in
    let here = subst P e ends in
    let at : length ms - 1 ≡ i = omega arith in
    let is : slice_get ms (length ms - 1) ≡ Some (slice_index_or ms i d) = ap (slice_get ms) at ∙ slice_get-get_or ms i d (omega arith) in
    subst (λ (o : Option Moment). IfSome o (λ m. m.seconds <ℤ HI)) is here

pub latest_meant : (bytes : List ℕ) (a : ℤ) (ms : List Moment) → zone_fault bytes ≡ None → (lists_of bytes).moments ≡ ms → HasMeaning a
    → HasMeaning (latest a ms)
latest_meant bytes a [] h e meaning = meaning
latest_meant bytes a (m ∷ ms) h e meaning =
    let z = (slice_index_or (m ∷ ms) (length (m ∷ ms) - 1) (record { seconds = pos 0 })).seconds in
    let last : z <ℤ HI = last_before_end bytes (m ∷ ms) (length (m ∷ ms) - 1) (record { seconds = pos 0 }) h e (omega arith) in
    let low : LO ≤ℤ a = meaning.0 in
    let high : a <ℤ HI = meaning.1 in
    (omega (arith, signed_arith, int_max_is a z, low), omega (arith, signed_arith, int_max_is a z, last, high))

pub zone_range : (bytes : List ℕ) (a : ℤ) (b : Option ℤ) → zone_fault bytes ≡ None → HasMeaning a → IsEndOf a b
    → IsRange (zone_state bytes) (footer_meant (lists_of bytes).footer) a (latest a (lists_of bytes).moments) (rule_year bytes a) b
unfolding rule_year
zone_range bytes a b h meaning end =
    let z = lists_of bytes in
    let last = latest a z.moments in
    let meant = latest_meant bytes a z.moments h refl meaning in
    let year = pos (stamp_of last).year in
    let shown = shown_year last (bounds_text last (meant.0, let lt = meant.1 in omega (arith, signed_arith))) in
    let range = year_in_range year last (omega (arith, signed_arith)) meant shown.0 shown.1 in
    record {
      start = meaning;
      from = latest_from a z.moments;
      year0 = (omega (arith, signed_arith, range), omega (arith, signed_arith, range));
      turn = shown.1;
      end = end;
      goes_on = zone_goes_on (zone_state bytes) z (footer_meant z.footer) a z.moments refl (λ t. zone_follows bytes t (zone_state bytes t) h refl);
    }

-- the footer that a text means is lawful
lawful_result : (text : List ℕ) (r : Result Footer FooterFault) → footer_in text ≡ r → IsCarriedIfAny (result_ok r) → IsLawfulAndCarried (result_ok r)
lawful_result text (Ok footer) is carried = (read_lawful text footer is, carried)
lawful_result text (Err fault) is carried = tt

pub lawful_footer : (text : List ℕ) → IsCarriedIfAny (footer_meant text) → IsLawfulAndCarried (footer_meant text)
lawful_footer [] carried = tt
lawful_footer (b ∷ bs) carried = lawful_result (b ∷ bs) (footer_in (b ∷ bs)) refl carried

pub zone_parts_mean : (file : List ℕ) (range : Range) → zone_fault file ≡ None → IsCarriedIfAny (footer_meant (lists_of file).footer)
    → HasMeaning range.from.seconds → IsEndOf range.from.seconds (end_in range) → (t : ℤ) → IsAmong range.from.seconds (end_in range) t
    → GivesState (range_parts file range) t (zone_state file t)
unfolding range_parts
zone_parts_mean file range h carried meaning end t among =
    let a = range.from.seconds in
    let b = end_in range in
    let before_hi : t <ℤ pos 253370764800 = among.meant.1 in
    parts_from_mean (zone_state file) (footer_meant (lists_of file).footer) a (latest a (lists_of file).moments) (rule_year file a) b
    (zone_range file a b h meaning end) (lawful_footer (lists_of file).footer carried) t among.from (omega (arith, signed_arith, year_9999)) among.before

-- the first year of the rules, from the year of the last transition or of the start
pub record IsRuleYear (file : List ℕ) (a year : ℤ) : Type 0 where
  pub is : year +ℤ pos 1 ≡ rule_year file a
  pub low : pos 1801 ≤ℤ (year +ℤ pos 1)
  pub high : (year +ℤ pos 1) ≤ℤ pos 9999
  pub after : a <ℤ (days_from_civil (year +ℤ pos 1) 1 1 *ℤ pos 86400)

pub rule_year_is : (file : List ℕ) (a year : ℤ) → zone_fault file ≡ None → HasMeaning a
    → year ≡ pos (stamp_of (latest a (lists_of file).moments)).year → IsRuleYear file a year
unfolding rule_year
rule_year_is file a year h meaning e =
    let range = zone_range file a None h meaning tt in
    let first = range.year0 in
    let from = range.from in
    let P : ℤ → Type 0 = λ y. latest a (lists_of file).moments <ℤ (days_from_civil y 1 1 *ℤ pos 86400) in
    let is : year +ℤ pos 1 ≡ rule_year file a = ap (λ y. y +ℤ pos 1) e in
    let turn = subst P (sym is) range.turn in
    record {
      is = is;
      low = omega (arith, signed_arith, is, first);
      high = omega (arith, signed_arith, is, first);
      after = omega (arith, signed_arith, from, turn);
    }

-- no year that has a meaning begins after the end of meaning
pub begin_most : (y : ℤ) → pos 1801 ≤ℤ y → y ≤ℤ pos 9999 → (days_from_civil y 1 1 *ℤ pos 86400) ≤ℤ HI
begin_most y low high =
    by_lt_z y (pos 9999)
    (λ lt. let long = year_is_long y (pos 9999) (omega (arith, signed_arith), omega (arith, signed_arith)) lt in
    let most : (days_from_civil y 1 1 *ℤ pos 86400) ≤ℤ pos 253370764800 = omega (arith, signed_arith, long, year_9999) in most)
    (λ ge. let same : pos 9999 ≡ y = omega (arith, signed_arith) in
    let P : ℤ → Type 0 = λ k. (days_from_civil k 1 1 *ℤ pos 86400) ≤ℤ pos 253370764800 in
    let most : P y = subst P same (omega (arith, signed_arith, year_9999)) in most)
