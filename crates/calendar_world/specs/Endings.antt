-- The exchanges of a mirror of calendars with a primary, and how a sync does not end over these.
use Rattle.std.specs.Prelude.{ℕ, ◌<◌, List, [], ◌∷◌, length, take, Result, Ok, Err, ⊤}
use Rattle.td_base.specs.declared.report.Ask.{Ask}
use Rattle.td_base.specs.declared.upstream.Exchange.{Exchange}
use Rattle.catalogue.specs.Histories.{IsHistory}
use Rattle.catalogue.specs.Releases.{ReleaseData}
use Rattle.zone_meaning.specs.Sound.{IsSound}
use Rattle.sync_core.specs.Mirrors.{MirrorState}
use Rattle.negotiate.specs.declared.choosing.Format.TheVariants.{Calendar}
use Rattle.mirror.specs.declared.limits.TheConstants.{MOST_ANSWER}
use Rattle.mirror.specs.declared.sync_fault.SyncFault.TheVariants as sync
use Rattle.calendar_mirror.specs.declared.sync_fault.CalendarSyncFault.{CalendarSyncFault}
use Rattle.calendar_mirror.specs.declared.sync_fault.CalendarSyncFault.TheVariants as fault
use Rattle.sync_world.specs.Calendars.{HoldsCalendars, calendar_service}
use Rattle.sync_world.specs.Primaries.{IsPlace}
use Rattle.sync_world.specs.Worlds.{Sent, SyncWorld}
use Rattle.mirror_world.specs.Answers.{IsAnswered, IsDataAnsweredOver}
use Rattle.mirror_world.specs.Runs.{LastIsOver}

-- the exchange is one with a primary with the history, where zones are asked for as calendars
abbrev pub IsCalendarAnsweredOver : List ReleaseData → Ask → Exchange → Type 0
IsCalendarAnsweredOver G a x = IsDataAnsweredOver Calendar G a x

-- each of the exchanges answers what is outstanding in a world, and is not cut
abbrev pub AreCalendarsAnswered : SyncWorld → List Exchange → Type 0
AreCalendarsAnswered w [] = ⊤
AreCalendarsAnswered w (x ∷ xs) =
    (n : ℕ) × (sent : Sent) × IsAnswered IsCalendarAnsweredOver w n sent x
    × (length x.answer < MOST_ANSWER) × AreCalendarsAnswered w xs

-- a sync of calendars did not end with a fault of an answer
abbrev pub IsCalendarUnderstood : Result (Unit {0}) CalendarSyncFault → Type 0
IsCalendarUnderstood (Err (fault.Sync (sync.BadAnswer exchange place answer))) = ⊥
IsCalendarUnderstood (Err (fault.Sync (sync.Refused exchange status))) = ⊥
IsCalendarUnderstood (Err (fault.BadCalendar exchange why)) = ⊥
IsCalendarUnderstood (Err (fault.WrongName exchange)) = ⊥
IsCalendarUnderstood result = ⊤

-- a sync of calendars ended well, or for the network or for memory alone
abbrev pub IsSettled : Result (Unit {0}) CalendarSyncFault → Type 0
IsSettled (Ok done) = ⊤
IsSettled (Err (fault.Sync sync.UpstreamFault)) = ⊤
IsSettled (Err (fault.Sync sync.NoMemory)) = ⊤
IsSettled result = ⊥

-- a sync that took the answers of these exchanges ended well over the first n releases of a
-- primary: the last was answered over these, and the mirror holds exactly the calendars of the last
-- of them
pub record HoldsAt (H : List ReleaseData) (n : ℕ) (taken : List Exchange) (t : MirrorState)
    : Type 0 where
  pub is_place : IsPlace H n
  pub history : IsHistory IsSound (take n H)
  pub answered : LastIsOver IsCalendarAnsweredOver calendar_service (take n H) taken
  pub holds : HoldsCalendars t (take n H)
