-- What each kind of rule allows, and which of some chosen rules is the first that refuses.
use Rattle.std.specs.Prelude.{◌≡◌, ℕ, ◌<◌, ◌^◌, List, length, Bool, true, false, not, ℤ, pos}
use Rattle.std.specs.Prelude.{int_le, Option, None, Some}
use Rattle.std.specs.List.{list_all, list_any, position_from}
use Rattle.td_civil.specs.declared.moment_type.Moment.{Moment}
use Rattle.admission.specs.declared.delta.Delta.{Delta}
use Rattle.admission.specs.declared.rules.Chosen.{Chosen}
use Rattle.admission.specs.declared.rules.RuleKind.{RuleKind}
use Rattle.admission.specs.declared.rules.RuleKind.TheVariants as kind

-- a change that begins at this moment, if at any, leaves what is before t
abbrev pub is_from : ℤ → Option Moment → Bool
is_from t None = true
is_from t (Some m) = int_le t m.seconds

-- at most n zones changed, or no change begins before the moment
abbrev pub allows : RuleKind → ℤ → Delta → Bool
allows kind.MaxChanged n delta = int_le (pos (length delta.changed)) n
allows kind.NoPastChange t delta = list_all (λ c. is_from t c.first) delta.changed

abbrev pub refuses : Delta → Chosen → Bool
refuses delta rule = not (allows rule.kind rule.number delta)

-- the position of the first rule that refuses, counted from 1
unfoldable pub first_refusing : List Chosen → Delta → Option ℕ
first_refusing chosen delta = position_from (refuses delta) 1 chosen

-- whether two kinds are one
abbrev pub same_kind : RuleKind → RuleKind → Bool
same_kind kind.MaxChanged kind.MaxChanged = true
same_kind kind.NoPastChange kind.NoPastChange = true
same_kind one two = false

-- whether a kind is one of these
abbrev pub is_kept : List RuleKind → RuleKind → Bool
is_kept kinds kind = list_any (same_kind kind) kinds

-- each kind is one of these
abbrev pub KeepsAll : List RuleKind → Type 0
KeepsAll kinds = (kind : RuleKind) → is_kept kinds kind ≡ true

-- each rule's kind is one of these, which have a test, and the rules can be numbered
abbrev pub AreKept : List RuleKind → List Chosen → Type 0
AreKept kinds chosen =
    (list_all (λ rule. is_kept kinds rule.kind) chosen ≡ true) × (length chosen < 2 ^ 32)
