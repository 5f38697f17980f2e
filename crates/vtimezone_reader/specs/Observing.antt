-- The observances of a calendar in a range, and where its onsets come next.
use Rattle.std.specs.Prelude.{◌≡◌, ◌⊎◌, ℕ, List, [], ◌∷◌, Bool, true, false, if◌then◌else◌, int_lt}
use Rattle.std.specs.Prelude.{ℤ, pos}
use Rattle.std.specs.Prelude.{◌<◌, length, slice_index_or, ◌+ℤ◌, ◌≤ℤ◌, ◌<ℤ◌, Option, None, Some}
use Rattle.std.specs.List.{list_any}
use Rattle.std.specs.Option.{IfSome}
use Rattle.td_civil.specs.declared.moment_type.Moment.{Moment}
use Rattle.td_civil.specs.declared.local_time.Local.{Local}
use Rattle.td_civil.specs.declared.local_time.Observance.{Observance}
use Rattle.td_civil.specs.SameLocal.{same_local}
use Rattle.zone_meaning.specs.Observed.{observance, observed}
use Rattle.jiff_core.specs.Calendar.{days_from_civil}
use Rattle.recurrence.specs.declared.part_types.Part.{Part}
use Rattle.recurrence.specs.declared.rule_types.Rule.{Rule}
use Rattle.recurrence.specs.Occurs.{IsOccurrence, moment_of}
use Rattle.vtimezone_reader.specs.Onsets.{day_shown, is_not_after, is_rule_onset, has_onset}
use Rattle.vtimezone_reader.specs.Onsets.{begun_at}
use Rattle.vtimezone_reader.specs.Onsets.{calendar_state}

-- the observances from a to before b
abbrev pub calendar_observed : List Part → ℤ → ℤ → List Observance
calendar_observed parts a b = observed (calendar_state parts) a b

-- no moment between two passes the test
abbrev pub NoneBetween : (ℤ → Bool) → ℤ → ℤ → Type 0
NoneBetween test t u = (v : ℤ) → t <ℤ v → v <ℤ u → test v ≡ false

-- a moment is the next one after t and before the end that passes a test
pub record IsNextAt (test : ℤ → Bool) (t end m : ℤ) : Type 0 where
  pub later : t <ℤ m
  pub before : m <ℤ end
  pub passes : test m ≡ true
  pub none : NoneBetween test t m

-- the next such moment, or none
abbrev pub IsNextWhere : (ℤ → Bool) → ℤ → ℤ → Option Moment → Type 0
IsNextWhere test t end None = NoneBetween test t end
IsNextWhere test t end (Some m) = IsNextAt test t end m.seconds

abbrev pub any_onset : List Part → ℤ → Bool
any_onset parts t = list_any (λ p. has_onset p t) parts

-- the next onset of the parts, with the place of the later part that has it
pub record IsTurnAt (parts : List Part) (t end m : ℤ) (place : ℕ) : Type 0 where
  pub next : IsNextAt (any_onset parts) t end m
  pub inside : place < length parts
  pub part : (d : Part) → begun_at parts m ≡ Some (slice_index_or parts place d)

-- a moment passes the test, and none before it does
pub record IsLeast (test : ℤ → Bool) (m : ℤ) : Type 0 where
  pub is : test m ≡ true
  pub least : (v : ℤ) → test v ≡ true → m ≤ℤ v

-- some part has this onset, and none an earlier one
abbrev pub IsFirstOnset : List Part → ℤ → Type 0
IsFirstOnset parts m = IsLeast (any_onset parts) m

-- the rule's one day of a year gives this moment
pub record IsOnsetIn (rule : Rule) (offset y m : ℤ) : Type 0 where
  pub day : ℤ
  pub occurs : IsOccurrence rule.form y day
  pub moment_is : m ≡ moment_of rule offset day

-- the year that clocks show, or 1800 before it
pub record IsYearShown (offset t y : ℤ) : Type 0 where
  pub low : pos 1800 ≤ℤ y
  pub high : y ≤ℤ pos 9999
  pub before : (day_shown offset t) <ℤ days_from_civil (y +ℤ pos 1) 1 1
  pub begun : (days_from_civil y 1 1 ≤ℤ day_shown offset t)
      ⊎ ((y ≡ pos 1800) × (day_shown offset t <ℤ days_from_civil (pos 1800) 1 1))

-- the moment, if it comes before the end and not after the last one
abbrev pub kept_until : Option Moment → Moment → Option Moment
kept_until None m = Some m
kept_until (Some last) m = if int_lt last.seconds m.seconds then None else Some m

abbrev pub kept : Moment → Option Moment → ℤ → Option Moment
kept m until end = if int_lt m.seconds end then kept_until until m else None

abbrev pub kept_if : Option Moment → Option Moment → ℤ → Option Moment
kept_if None until end = None
kept_if (Some m) until end = kept m until end

-- the first of two that is later
abbrev pub later : ℤ → Moment → Option Moment → Option Moment
later t this after = if int_lt t this.seconds then Some this else after

-- the moment of the year after this one, up to the year 9999
abbrev pub IsOnsetAfter : Rule → ℤ → ℤ → Option Moment → Type 0
IsOnsetAfter rule offset y None = pos 9999 ≤ℤ y
IsOnsetAfter rule offset y (Some m) = (y <ℤ pos 9999) × IsOnsetIn rule offset (y +ℤ pos 1) m.seconds

-- the moment, or the end of a rule where that comes first
pub record IsLastOnsetBy (until : Option Moment) (t last : ℤ) : Type 0 where
  pub by : last ≤ℤ t
  pub within : (v : ℤ) → v ≤ℤ last → is_not_after until v ≡ true
  pub one : (last ≡ t) ⊎ IfSome until (λ m. last ≡ m.seconds)

-- an onset of a rule that is not after t
pub record IsLate (p : Part) (rule : Rule) (t m : ℤ) : Type 0 where
  pub onset : is_rule_onset p rule m ≡ true
  pub by : m ≤ℤ t

-- a moment from a first one to a last one
pub record IsFromTo (moment first last m : ℤ) : Type 0 where
  pub same : m ≡ moment
  pub from : first ≤ℤ m
  pub to : m ≤ℤ last

-- the change from one state to another, if they differ
abbrev pub change_if : Moment → Local → Local → List Observance
change_if onset before now =
    if same_local now before then [] else observance onset.seconds before.offset now ∷ []
