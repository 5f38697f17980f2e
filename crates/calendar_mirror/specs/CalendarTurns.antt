-- One exchange of a sync of calendars: words of its inner functions.
use Rattle.std.specs.Prelude.{◌≡◌, ℕ, List, [], ◌∷◌, Result, Ok, Err}
use Rattle.td_base.specs.Upstreams.{TellsMore, UpstreamView}
use Rattle.td_base.specs.declared.report.Ask.{Ask}
use Rattle.td_base.specs.declared.upstream.Exchange.{Exchange}
use Rattle.sync_core.specs.Mirrors.{MirrorState, ask_of}
use Rattle.mirror.specs.Turns.{Takes, TurnsOn}
use Rattle.mirror.specs.declared.limits.TheConstants.{MOST_ANSWER}
use Rattle.mirror.specs.declared.taken_type.Taken.{Taken}
use Rattle.calendar_mirror.specs.Judging.{IsJudged, MeansSound}
use Rattle.calendar_mirror.specs.declared.sync_fault.CalendarSyncFault.{CalendarSyncFault}
use Rattle.calendar_mirror.specs.declared.sync_fault.CalendarSyncFault.TheVariants as fault
use Rattle.calendar_mirror.specs.declared.judged_type.Judged.{Judged}
use Rattle.calendar_mirror.specs.declared.judged_type.Judged.TheVariants as judged

-- what becomes of the answer, which is of this number, to what was asked, in a state
abbrev pub TakesCalendar : Ask → MirrorState → MirrorState → List ℕ → ℕ
    → Result Taken CalendarSyncFault → Type 0
TakesCalendar a s t answer number (Ok taken) = Takes MeansSound a s t answer number (Ok taken)
TakesCalendar a s t answer number (Err (fault.Sync f)) =
    Takes MeansSound a s t answer number (Err f)
TakesCalendar a s t answer number (Err (fault.BadCalendar exchange f)) =
    IsJudged a answer (judged.BadCalendar f) × (exchange ≡ number) × (t ≡ s)
TakesCalendar a s t answer number (Err (fault.WrongName exchange)) =
    IsJudged a answer judged.WrongName × (exchange ≡ number) × (t ≡ s)

-- the answer of an exchange is judged so, and not taken
pub record TurnsAway (written : Ask → List ℕ) (s t : MirrorState) (old new : UpstreamView)
    (j : Judged) : Type 0 where
  pub exchange : Exchange
  pub request : exchange.request ≡ written (ask_of s)
  pub most : exchange.most ≡ MOST_ANSWER
  pub is_judged : IsJudged (ask_of s) exchange.answer j
  pub state : t ≡ s
  pub told : TellsMore old.told new.told (exchange ∷ [])
  pub steady : new.faults ≡ old.faults

-- the exchange of this number, if there was one, and what became of it
abbrev pub CalendarTurn : (Ask → List ℕ) → MirrorState → MirrorState → UpstreamView → UpstreamView
    → ℕ → Result Taken CalendarSyncFault → Type 0
CalendarTurn written s t old new number (Ok taken) =
    TurnsOn written MeansSound s t old new number (Ok taken)
CalendarTurn written s t old new number (Err (fault.Sync f)) =
    TurnsOn written MeansSound s t old new number (Err f)
CalendarTurn written s t old new number (Err (fault.BadCalendar exchange f)) =
    TurnsAway written s t old new (judged.BadCalendar f) × (exchange ≡ number)
CalendarTurn written s t old new number (Err (fault.WrongName exchange)) =
    TurnsAway written s t old new judged.WrongName × (exchange ≡ number)
