-- The calendar of a zone, written whole, reads as one that tells the zone.
use Rattle.std.proofs.Common.{◌≡◌, ◌≤◌, ℕ, true, Option, None, Ok, List, length, refl, ap, ◌∙◌, ℤ}
use Rattle.std.proofs.Common.{◌≤ℤ◌, ◌<ℤ◌, arith}
use Rattle.std.specs.Int.{int_max}
use Rattle.std.specs.Option.{IfSome}
use Rattle.std.proofs.lemmas.Int.{int_max_is, ints}
use Rattle.jiff_core.proofs.SignedLemmas.{signed_arith}
use Rattle.td_base.specs.Names.{is_identifier}
use Rattle.td_civil.specs.Bounds.{HasMeaning}
use Rattle.td_civil.specs.declared.moment_type.Moment.{Moment}
use Rattle.td_civil.specs.declared.moment_type.TheConstants.{LO, HI}
use Rattle.zone_meaning.specs.Observed.{first_at, observed}
use Rattle.zone_meaning.specs.Sound.{IsSoundFile}
use Rattle.zone_meaning.specs.State.{zone_state}
use Rattle.vtimezone.specs.CalendarText.{calendar}
use Rattle.vtimezone.specs.Grouping.{first_ones, grouped}
use Rattle.vtimezone.specs.PartsOf.{parts_from}
use Rattle.vtimezone.specs.ZoneParts.{range_parts}
use Rattle.vtimezone_reader.specs.Observing.{IsFirstOnset, any_onset, calendar_observed}
use Rattle.vtimezone_reader.specs.Onsets.{has_onset}
use Rattle.vtimezone_reader.specs.ReadLines.{calendar_in}
use Rattle.vtimezone_reader.specs.Written.{parts_after, written_calendar}
use Rattle.vtimezone_reader.specs.declared.calendar_type.TheConstants.{MOST_BYTES}
use Rattle.calendar_world.specs.Reading.{IsZoneCalendar}

-- the laws of the reader
abbrev pub IsRead : Type 0
IsRead =
    (file : List ℕ) (from : Moment) (tzid : List ℕ) (alias_of : Option (List ℕ)) → IsSoundFile file → HasMeaning from.seconds → is_identifier tzid ≡ true
    → IfSome alias_of (λ t. is_identifier t ≡ true) → length (calendar tzid alias_of (parts_after file from) None) ≤ MOST_BYTES
    → calendar_in (calendar tzid alias_of (parts_after file from) None) ≡ Ok (written_calendar tzid alias_of (parts_after file from) None)

abbrev pub IsTold : Type 0
IsTold =
    (file : List ℕ) (from : Moment) (a b : ℤ) → IsSoundFile file → HasMeaning from.seconds → from.seconds ≤ℤ a → a <ℤ b → b ≤ℤ HI
    → calendar_observed (parts_after file from) a b ≡ observed (zone_state file) a b

-- and how long the calendar of a zone is
abbrev pub Fits : Type 0
Fits =
    (file : List ℕ) (from : Moment) (tzid : List ℕ) (alias_of : Option (List ℕ)) → IsSoundFile file → HasMeaning from.seconds → is_identifier tzid ≡ true
    → IfSome alias_of (λ t. is_identifier t ≡ true) → length (calendar tzid alias_of (parts_after file from) None) ≤ MOST_BYTES

abbrev pub lowest : Moment
lowest = record { seconds = LO }

-- the parts of a zone begin where meaning does
begins : (file : List ℕ) → any_onset (parts_after file lowest) LO ≡ true
unfolding range_parts parts_from grouped first_ones observed first_at has_onset
begins file = refl

meant : HasMeaning LO
meant = (omega (arith, ints), omega (arith, ints))

-- so a range is not cut at their first onset
whole_range : (file : List ℕ) (first a : ℤ) → IsFirstOnset (parts_after file lowest) first → LO ≤ℤ a → int_max a first ≡ a
whole_range file first a is low =
    let early = is.least LO (begins file) in
    omega (arith, signed_arith, early, low, int_max_is a first)

pub reads_so : Fits → IsRead → IsTold → (file name : List ℕ) (alias_of : Option (List ℕ)) → IsSoundFile file → is_identifier name ≡ true
    → IfSome alias_of (λ t. is_identifier t ≡ true) → IsZoneCalendar name file (calendar name alias_of (parts_after file lowest) None)
reads_so fits read told file name alias_of sound is also = record {
  calendar = written_calendar name alias_of (parts_after file lowest) None;
  reads = read file lowest name alias_of sound meant is also (fits file lowest name alias_of sound meant is also);
  is_named = refl;
  endless = refl;
  tells = λ first a b is_first range.
      ap (λ (t : ℤ). calendar_observed (parts_after file lowest) t b) (whole_range file first a is_first range.0)
      ∙ told file lowest a b sound meant range.0 range.1 range.2;
}
