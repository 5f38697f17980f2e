-- The observances of a time zone in a range of time (RFC 7808, section 6.3) as JSON.
use Rattle.std.specs.Prelude.{ℕ, ℤ, List, map, codes, FitsSigned}
use Rattle.std.specs.Int.{w32}
use Rattle.serde_json.specs.Data.{Data, number, string, array, object, no_members, member}
use Rattle.serde_json.specs.Find.{of_integer}
use Rattle.serde_json.specs.View.{items_of}
use Rattle.serde_json.specs.Written.{compact_text}
use Rattle.td_civil.specs.Calendar.{text_of}
use Rattle.td_civil.specs.declared.local_time.Observance.{Observance}

-- an observance, with its offsets in seconds east of UTC
unfoldable pub observance_data : Observance → Data
observance_data o =
    object (member (codes "name") (string o.name)
    (member (codes "onset") (string (text_of o.onset.seconds))
    (member (codes "utc-offset-from") (number (of_integer o.from))
    (member (codes "utc-offset-to") (number (of_integer o.to)) no_members))))

-- the zone's observances from one moment to another, under the name that was asked for
unfoldable pub expansion_data : List ℕ → ℤ → ℤ → List Observance → Data
expansion_data tzid from until observances =
    object (member (codes "end") (string (text_of until))
    (member (codes "observances") (array (items_of (map observance_data observances)))
    (member (codes "start") (string (text_of from))
    (member (codes "tzid") (string tzid) no_members))))

-- its text
unfoldable pub expansion_document : List ℕ → ℤ → ℤ → List Observance → List ℕ
expansion_document tzid from until observances =
    compact_text (expansion_data tzid from until observances)

-- the offsets are integers of 32 bits
pub record HasOffsets (o : Observance) : Type 0 where
  pub from : FitsSigned w32 o.from
  pub to : FitsSigned w32 o.to
