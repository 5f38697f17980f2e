-- The parts that a text can spell.
use Rattle.std.specs.Prelude.{◌≡◌, true, ℕ, ◌==◌, nat_le, List, pos, ◌+ℤ◌, Option, None, Some, Bool}
use Rattle.std.specs.Prelude.{not, ◌&&◌, ◌||◌}
use Rattle.std.specs.Int.{int_rem_euclid}
use Rattle.std.specs.List.{All, list_all}
use Rattle.std.specs.Option.{IfSome}
use Rattle.jiff_core.specs.Calendar.{IsWithin}
use Rattle.td_civil.specs.Bounds.{IsWithinBounds}
use Rattle.recurrence.specs.declared.part_types.Part.{Part}
use Rattle.recurrence.specs.declared.rule_types.Rule.{Rule}
use Rattle.recurrence.specs.Valid.{IsValidForm}

-- a byte of ASCII that stands for itself in a text of a calendar (RFC 5545, section 3.3.11): no
-- control but the tab, and no semicolon, comma or backslash
abbrev pub is_safe : ℕ → Bool
is_safe b =
    (nat_le 32 b && nat_le b 126 || b == 9) && not (b == 44) && not (b == 59) && not (b == 92)

-- a text in which each byte stands for itself
abbrev pub IsSafe : List ℕ → Type 0
IsSafe text = list_all is_safe text ≡ true

-- the moments and offsets of a part have texts, and its rule has days in each year
pub record IsWritable (p : Part) : Type 0 where
  pub start : IsWithinBounds p.start.seconds
  pub from : IsWithin 86399 p.from
  pub to : IsWithin 86399 p.to
  pub rule : IfSome p.rule (λ r. IsValidForm r.form)
  pub until : IfSome p.until (λ m. IsWithinBounds m.seconds)
  pub dates : All (λ d. IsWithinBounds d.seconds) p.dates

-- a rule's time of day is that of the first onset, by the clocks before it; a part without a rule
-- has no last onset
abbrev pub HasTime : Part → Option Rule → Type 0
HasTime p None = p.until ≡ None
HasTime p (Some rule) =
    pos rule.second ≡ int_rem_euclid (p.start.seconds +ℤ p.from) (pos 86400)

pub record IsSpellable (p : Part) : Type 0 where
  pub writable : IsWritable p
  pub name : IsSafe p.name
  pub time : HasTime p p.rule
