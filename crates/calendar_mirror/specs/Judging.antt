-- What an answer's bytes are to what was asked, where a zone is asked for as a calendar.
use Rattle.std.specs.Prelude.{◌≡◌, ℕ, List, if◌then◌else◌, Result, Ok, Err}
use Rattle.std.specs.Str.{bytes_eq}
use Rattle.td_base.specs.declared.report.Ask.{Ask}
use Rattle.td_base.specs.declared.report.Ask.TheVariants as ask
use Rattle.sync_core.specs.declared.heard_type.Heard.{Heard}
use Rattle.sync_core.specs.declared.heard_type.Heard.TheVariants as heard
use Rattle.mirror.specs.Understanding.{Means}
use Rattle.mirror.specs.declared.understood_type.Understood.{Understood}
use Rattle.mirror.specs.declared.understood_type.Understood.TheVariants as understood
use Rattle.vtimezone_reader.specs.ReadLines.{calendar_in}
use Rattle.vtimezone_reader.specs.declared.calendar_fault.CalendarFault.{CalendarFault}
use Rattle.vtimezone_reader.specs.declared.calendar_type.Calendar.{Calendar}
use Rattle.calendar_mirror.specs.declared.judged_type.Judged.{Judged}
use Rattle.calendar_mirror.specs.declared.judged_type.Judged.TheVariants as judged

-- what is said to any mirror
abbrev pub hears : Heard → Judged
hears h = judged.Sound (understood.Hears h)

-- a text, by what it reads as, has to be the calendar of the zone with this name, to the byte
abbrev pub judged_calendar : List ℕ → List ℕ → Result Calendar CalendarFault → Judged
judged_calendar name text (Ok calendar) =
    if bytes_eq calendar.tzid name then hears (heard.Zone text) else judged.WrongName
judged_calendar name text (Err fault) = judged.BadCalendar fault

abbrev pub judged_text : List ℕ → List ℕ → Judged
judged_text name text = judged_calendar name text (calendar_in text)

-- what is heard where the zone with this name was asked for
abbrev pub judged_data : List ℕ → Heard → Judged
judged_data name (heard.Zone text) = judged_text name text
judged_data name (heard.List doc) = hears (heard.List doc)
judged_data name heard.BadToken = hears heard.BadToken

-- only the data of a zone are judged
abbrev pub judged_heard : Ask → Heard → Judged
judged_heard (ask.Get name) h = judged_data name h
judged_heard (ask.List token) h = hears h

abbrev pub judged_by : Ask → Understood → Judged
judged_by a (understood.Hears h) = judged_heard a h
judged_by a (understood.Unreadable place) = judged.Sound (understood.Unreadable place)
judged_by a (understood.Refuses status) = judged.Sound (understood.Refuses status)

-- what the bytes of an answer are, by what they are to any mirror
abbrev pub IsJudged : Ask → List ℕ → Judged → Type 0
IsJudged a answer j = (u : Understood) × Means a answer u × (j ≡ judged_by a u)

-- what they mean, where they are not refused as a calendar
abbrev pub MeansSound : Ask → List ℕ → Understood → Type 0
MeansSound a answer u = IsJudged a answer (judged.Sound u)
