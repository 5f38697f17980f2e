-- The parts of a calendar that was read, and the lines of its text.
use Rattle.std.specs.Prelude.{◌≡◌, ℕ, List, [], ◌∷◌, ◌++◌, codes, Bool, Some, Ok, true}
use Rattle.std.specs.List.{Contains}
use Rattle.ical_lines.specs.Unfolding.{unfolded}
use Rattle.recurrence.specs.declared.part_types.Part.{Part}
use Rattle.vtimezone.specs.CalendarText.{kind_of}
use Rattle.vtimezone.specs.Cutting.{Named}
use Rattle.vtimezone_reader.specs.ContentLines.{is_word, name_of, value_of}
use Rattle.vtimezone_reader.specs.PartLines.{begun_part, part_of}
use Rattle.vtimezone_reader.specs.declared.calendar_type.Calendar.{Calendar}
use Rattle.vtimezone_reader.specs.declared.part_lines.OpenPart.{OpenPart}
use Rattle.reader_laws.specs.Lines.{HasLines, LinesRead}

-- the names and values of lines, in order
abbrev pub AreLines : List (List ℕ) → List Named → Type 0
AreLines [] [] = Unit {0}
AreLines (text ∷ texts) (l ∷ ls) =
    (name_of text ≡ l.name) × (value_of text ≡ Some l.value) × AreLines texts ls
AreLines texts lines = ⊥

-- a line at which STANDARD or DAYLIGHT begins or ends
pub record IsMark (word : List ℕ) (dst : Bool) (l : Named) : Type 0 where
  pub name : is_word l.name word ≡ true
  pub value : is_word l.value (kind_of dst) ≡ true

-- the part is that of the lines between a BEGIN and an END
pub record IsReadOf (lines : List Named) (part : Part) : Type 0 where
  pub before : List Named
  pub begin : Named
  pub body : List Named
  pub end : Named
  pub after : List Named
  pub are : lines ≡ before ++ begin ∷ (body ++ end ∷ after)
  pub dst : Bool
  pub begins : IsMark (codes "BEGIN") dst begin
  pub open_part : OpenPart
  pub read : LinesRead (begun_part dst) body open_part
  pub has : HasLines body open_part
  pub ends : IsMark (codes "END") open_part.dst end
  pub is : part_of open_part ≡ Ok part

-- each part of the calendar is that of some lines of the text, unfolded (RFC 5545, section 3.1)
pub record HasParts (text : List ℕ) (c : Calendar) : Type 0 where
  pub unfolded_lines : List (List ℕ)
  pub unfolds : unfolded text ≡ Ok unfolded_lines
  pub lines : List Named
  pub are : AreLines unfolded_lines lines
  pub parts : (p : Part) → Contains c.parts p → IsReadOf lines p
