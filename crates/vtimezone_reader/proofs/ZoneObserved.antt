-- The observances that the parts of a zone tell are those of the zone.
use Rattle.std.proofs.Common.{◌≡◌, ℕ, zero, suc, ◌-◌, List, refl, arith, ℤ, pos, ◌+ℤ◌, ◌-ℤ◌, ◌≤ℤ◌, ◌<ℤ◌, unsigned_abs, None}
use Rattle.std.specs.List.{All, AllByRecursion}
use Rattle.jiff_core.proofs.SignedLemmas.{signed_arith, one_part}
use Rattle.td_civil.specs.Bounds.{HasMeaning}
use Rattle.td_civil.specs.Calendar.{stamp_of}
use Rattle.td_civil.specs.declared.moment_type.Moment.{Moment}
use Rattle.td_civil.specs.declared.moment_type.TheConstants.{LO, HI}
use Rattle.td_civil.specs.declared.local_time.Local.{Local}
use Rattle.tzif_reader.specs.Cut.{lists_of}
use Rattle.posix_footer.specs.Carried.{IsCarriedIfAny}
use Rattle.zone_meaning.specs.Observed.{change_at, first_at, changes_after, changes_between, observed}
use Rattle.zone_meaning.specs.State.{zone_state, footer_meant}
use Rattle.recurrence.specs.InForce.{GivesState}
use Rattle.recurrence.specs.Spellable.{IsSpellable}
use Rattle.vtimezone.specs.Ranges.{IsAmong}
use Rattle.vtimezone.specs.ZoneParts.{latest, rule_year, range_parts}
use Rattle.vtimezone_reader.specs.Observing.{calendar_observed}
use Rattle.vtimezone_reader.specs.Onsets.{calendar_state}
use Rattle.vtimezone_reader.proofs.ZoneStates.{IsPlain, KeepOnsets, from_plain, gives}

changes_same : (one two : ℤ → Local) (n : ℕ) (t : ℤ) → ((v : ℤ) → t ≤ℤ v → v ≤ℤ (t +ℤ pos n) → one v ≡ two v) → changes_after one t n ≡ changes_after two t n
unfolding changes_after change_at
changes_same one two zero t same = refl
changes_same one two (suc n) t same =
    let next = t +ℤ pos 1 in
    let now = same next (omega (arith, signed_arith)) (omega (arith, signed_arith)) in
    let before = same (next -ℤ pos 1) (omega (arith, signed_arith)) (omega (arith, signed_arith)) in
    let rest = changes_same one two n next (λ v low high. same v (omega (arith, signed_arith, low)) (omega (arith, signed_arith, high))) in
    rw (now, before, rest) refl

-- two states that are the same in a range have the same observances there
observed_same : (one two : ℤ → Local) (a b : ℤ) → a <ℤ b → ((v : ℤ) → a ≤ℤ v → v <ℤ b → one v ≡ two v) → observed one a b ≡ observed two a b
unfolding observed first_at changes_between
observed_same one two a b range same =
    let n = unsigned_abs (b -ℤ a) - 1 in
    let is = one_part (b -ℤ a) in
    let first = same a (omega (arith, signed_arith)) range in
    let rest = changes_same one two n a (λ v low high. same v low (omega (arith, signed_arith, is, range, high))) in
    rw (first, rest) refl

whole_plain : KeepOnsets → (file : List ℕ) (from : Moment) → IsCarriedIfAny (footer_meant (lists_of file).footer)
    → AllByRecursion IsPlain (range_parts file (record { from = from; until = None }))
unfolding range_parts rule_year
whole_plain keeps file from carried =
    from_plain keeps (zone_state file) (lists_of file).footer from.seconds (stamp_of (latest from.seconds (lists_of file).moments)).year carried

pub zone_observed : KeepOnsets → (file : List ℕ) (from : Moment) (a b : ℤ) → IsCarriedIfAny (footer_meant (lists_of file).footer)
    → HasMeaning from.seconds → from.seconds ≤ℤ a → a <ℤ b → b ≤ℤ HI → All IsSpellable (range_parts file (record { from = from; until = None }))
    → ((t : ℤ) → IsAmong from.seconds None t → GivesState (range_parts file (record { from = from; until = None })) t (zone_state file t))
    → calendar_observed (range_parts file (record { from = from; until = None })) a b ≡ observed (zone_state file) a b
zone_observed keeps file from a b carried meaning low range high spelled means =
    let parts = range_parts file (record { from = from; until = None }) in
    let first : LO ≤ℤ from.seconds = meaning.0 in
    observed_same (calendar_state parts) (zone_state file) a b range (λ v later before.
    let meant : HasMeaning v = (omega (arith, signed_arith, first, low, later), omega (arith, signed_arith, before, high)) in
    gives parts v (zone_state file v) (whole_plain keeps file from carried) spelled meant
    (means v (record { from = omega (arith, signed_arith, low, later); before = tt; meant = meant })))
