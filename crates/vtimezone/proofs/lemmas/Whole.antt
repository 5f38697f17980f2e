-- What the parts of a range are: those of the changes, and those of the rules.
use Rattle.std.proofs.Common.{◌≡◌, ◌≢◌, ◌⊎◌, ℤ, pos, ◌-ℤ◌, ◌*ℤ◌, true, false, ◌≤ℤ◌, ◌<ℤ◌, Option, None, Some, List, []}
use Rattle.jiff_core.specs.Calendar.{days_from_civil, IsYear, IsBetween}
use Rattle.td_civil.specs.Bounds.{HasMeaning}
use Rattle.td_civil.specs.declared.moment_type.Moment.{Moment}
use Rattle.td_civil.specs.declared.local_time.Local.{Local}
use Rattle.posix_footer.specs.declared.rule_types.Edge.{Edge}
use Rattle.posix_footer.specs.declared.rule_types.DstRule.{DstRule}
use Rattle.posix_footer.specs.declared.rule_types.Footer.{Footer}
use Rattle.posix_footer.specs.Carried.{is_carried_rule, beyond}
use Rattle.posix_footer.specs.Lawful.{IsLawfulRule, IsLawful}
use Rattle.posix_footer.specs.Onset.{onset_of}
use Rattle.posix_footer.specs.StateAt.{state_after, state_by, state_of}
use Rattle.recurrence.specs.declared.part_types.Part.{Part}
use Rattle.recurrence.specs.InForce.{state_of_part, GivesState}
use Rattle.recurrence.specs.RuleOfDate.{rule_of}
use Rattle.vtimezone.specs.PartsOf.{offset_before, date_of_edge}
use Rattle.vtimezone.specs.Ranges.{IsBeforeEnd, IsEndOf}

-- the last of a change's onsets, from a year on, that comes before b
pub record IsLastBefore (rule : DstRule) (std : ℤ) (at : Edge) (y0 b u : ℤ) : Type 0 where
  pub before : u <ℤ b
  pub greatest : (y : ℤ) → IsYear y → y0 ≤ℤ y → onset_of rule std y at <ℤ b → onset_of rule std y at ≤ℤ u

abbrev pub IsUntil : DstRule → ℤ → Edge → ℤ → Option ℤ → Option Moment → Type 0
IsUntil rule std at y0 None until = until ≡ None
IsUntil rule std at y0 (Some b) until = (u : Moment) × (until ≡ Some u) × IsLastBefore rule std at y0 b u.seconds

-- the part of a change of each year, from the year y0 on
pub record IsRulePart (std : Local) (rule : DstRule) (y0 : ℤ) (b : Option ℤ) (at : Edge) (p : Part) : Type 0 where
  pub rule_is : p.rule ≡ Some (rule_of (date_of_edge rule at))
  pub from_is : p.from ≡ offset_before std rule at
  pub start_is : p.start.seconds ≡ onset_of rule std.offset y0 at
  pub state_is : state_of_part p ≡ state_after std rule at
  pub until_is : IsUntil rule std.offset at y0 b p.until

-- the parts of both changes, where they have an onset before the end
pub record AreRuleParts (std : Local) (rule : DstRule) (y0 : ℤ) (b : Option ℤ) (In : Part → Type 0) : Type 0 where
  pub each : (p : Part) → In p → (at : Edge) × IsRulePart std rule y0 b at p
  pub some : (at : Edge) → IsBeforeEnd b (onset_of rule std.offset y0 at) → (p : Part) × (In p × IsRulePart std rule y0 b at p)
  pub one : (p q : Part) (at : Edge) → In p → In q → IsRulePart std rule y0 b at p → IsRulePart std rule y0 b at q → p ≡ q

-- a part at each change of a state from a on and before e, with the state after it; the state at a
-- counts as one
pub record AreSingles (state : ℤ → Local) (a e : ℤ) (In : Part → Type 0) : Type 0 where
  pub first : (p : Part) × (In p × (p.start.seconds ≡ a))
  pub each_is : (p : Part) → In p → (p.rule ≡ None) × (p.start.seconds <ℤ e) × (state_of_part p ≡ state p.start.seconds) × (p.dates ≡ [])
  pub each_changes : (p : Part) → In p → (p.start.seconds ≡ a) ⊎ ((a <ℤ p.start.seconds) × (state p.start.seconds ≢ state (p.start.seconds -ℤ pos 1)))
  pub some : (t : ℤ) → a <ℤ t → t <ℤ e → (state t ≡ state (t -ℤ pos 1)) ⊎ ((p : Part) × (In p × (p.start.seconds ≡ t)))
  pub one : (p q : Part) → In p → In q → p.start.seconds ≡ q.start.seconds → p ≡ q

-- the whole: single parts up to e, and rule parts from the year y0 on
pub record IsWhole (state : ℤ → Local) (std : Local) (rule : DstRule) (a e y0 : ℤ) (b : Option ℤ) (Single Ruled : Part → Type 0) : Type 0 where
  pub lawful : IsLawfulRule std.offset rule
  pub carried : is_carried_rule rule ≡ true
  pub year0 : IsBetween (pos 1799) (pos 9998) y0
  pub singles : AreSingles state a e Single
  pub rules : AreRuleParts std rule y0 b Ruled
  pub begin : a <ℤ (days_from_civil y0 1 1 *ℤ pos 86400)
  pub end : e ≤ℤ (days_from_civil y0 1 1 *ℤ pos 86400)
  pub reach : (t : ℤ) → IsBeforeEnd b t → t <ℤ (days_from_civil y0 1 1 *ℤ pos 86400) → t <ℤ e
  pub full : (t : ℤ) → IsBeforeEnd b t → (days_from_civil y0 1 1 *ℤ pos 86400) ≤ℤ t → e ≡ (days_from_civil y0 1 1 *ℤ pos 86400)
  pub footer : (t : ℤ) → ((days_from_civil y0 1 1 *ℤ pos 86400) -ℤ pos 1) ≤ℤ t → state t ≡ state_by std (Some rule) t

-- from the last transition on a footer decides, or the state goes on
abbrev pub goes_on : (ℤ → Local) → Option Footer → ℤ → ℤ → Local
goes_on state None last t = state last
goes_on state (Some footer) last t = state_of footer t

-- a range whose last transition, or start, lies in the year before y0
pub record IsRange (state : ℤ → Local) (footer : Option Footer) (a last y0 : ℤ) (b : Option ℤ) : Type 0 where
  pub start : HasMeaning a
  pub from : a ≤ℤ last
  pub year0 : IsBetween (pos 1801) (pos 9999) y0
  pub turn : last <ℤ (days_from_civil y0 1 1 *ℤ pos 86400)
  pub end : IsEndOf a b
  pub goes_on : (t : ℤ) → last ≤ℤ t → state t ≡ goes_on state footer last t

-- the footer, if there is one, is lawful and can be carried
abbrev pub IsLawfulAndCarried : Option Footer → Type 0
IsLawfulAndCarried None = Unit {0}
IsLawfulAndCarried (Some footer) = IsLawful footer × (beyond footer ≡ false)

-- what is shown of a moment
abbrev pub Means : List Part → (ℤ → Local) → ℤ → Type 0
Means parts state t = GivesState parts t (state t)
