-- The table of leap seconds (RFC 7808, section 6.4) as JSON.
use Rattle.std.specs.Prelude.{ℕ, ℤ, pos, ◌*ℤ◌, List, map, take, codes, FitsSigned}
use Rattle.std.specs.Int.{w32}
use Rattle.std.specs.List.{AllByRecursion}
use Rattle.serde_json.specs.Data.{Data, number, string, array, object, no_members, member}
use Rattle.serde_json.specs.Find.{of_integer}
use Rattle.serde_json.specs.View.{items_of}
use Rattle.serde_json.specs.Written.{compact_text}
use Rattle.td_base.specs.Names.{IsPlain}
use Rattle.td_civil.specs.Bounds.{IsWithinBounds}
use Rattle.td_civil.specs.Calendar.{text_of}
use Rattle.catalogue.specs.declared.release.Leaps.{Leaps}
use Rattle.catalogue.specs.declared.release.LeapStep.{LeapStep}

-- the first moment of a day that is counted from 1970-01-01
abbrev pub start_of_day : ℤ → ℤ
start_of_day day = day *ℤ pos 86400

-- the date of the day, YYYY-MM-DD
abbrev pub date_text_of : ℤ → List ℕ
date_text_of day = take 10 (text_of (start_of_day day))

-- a step: the difference of TAI and UTC in seconds, from this date on
unfoldable pub step_data : LeapStep → Data
step_data step =
    object (member (codes "onset") (string (date_text_of step.day))
    (member (codes "utc-offset") (number (of_integer step.offset)) no_members))

-- the table, with the release that it is of
unfoldable pub leap_data : Leaps → List ℕ → List ℕ → Data
leap_data leaps publisher version =
    object (member (codes "expires") (string leaps.expires)
    (member (codes "leapseconds") (array (items_of (map step_data leaps.steps)))
    (member (codes "publisher") (string publisher)
    (member (codes "version") (string version) no_members))))

-- its text
unfoldable pub leap_document : Leaps → List ℕ → List ℕ → List ℕ
leap_document leaps publisher version = compact_text (leap_data leaps publisher version)

-- the start of the day has a text
abbrev pub IsDatedStep : LeapStep → Type 0
IsDatedStep step = IsWithinBounds (start_of_day step.day)

-- the date of expiry is plain, and the start of each step's day has a text
pub record IsPlainTable (leaps : Leaps) : Type 0 where
  pub expires : IsPlain leaps.expires
  pub steps : AllByRecursion IsDatedStep leaps.steps

-- the offset is an integer of 32 bits
abbrev pub HasOffset : LeapStep → Type 0
HasOffset step = FitsSigned w32 step.offset
