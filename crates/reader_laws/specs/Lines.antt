-- What a part has of its lines.
use Rattle.std.specs.Prelude.{◌≡◌, ℕ, ◌≤◌, List, [], ◌∷◌, ◌++◌, length, codes, filter, Option, None}
use Rattle.std.specs.Prelude.{Some, Ok, true}
use Rattle.std.specs.List.{AllByRecursion, Contains, flat_map}
use Rattle.vtimezone.specs.Cutting.{Named, cut_at}
use Rattle.vtimezone_reader.specs.ContentLines.{is_word}
use Rattle.vtimezone_reader.specs.PartLines.{part_line}
use Rattle.vtimezone_reader.specs.declared.part_lines.OpenPart.{OpenPart}

-- the lines are read one after another, from one part to another
abbrev pub LinesRead : OpenPart → List Named → OpenPart → Type 0
LinesRead p [] now = p ≡ now
LinesRead p (l ∷ ls) now =
    (next : OpenPart) × (part_line p l.name l.value ≡ Ok next) × LinesRead next ls now

-- a line with a name that is at most 32 visible bytes
pub record IsNameLine (l : Named) : Type 0 where
  pub word : is_word l.name (codes "TZNAME") ≡ true
  pub short : length l.value ≤ 32
  pub visible : AllByRecursion (λ b. (33 ≤ b) × (b ≤ 126)) l.value

abbrev pub HasNoName : List Named → Type 0
HasNoName lines = (l : Named) → Contains lines l → IsNameLine l → ⊥

-- the first such line has this name
pub record IsFirstName (lines : List Named) (name : List ℕ) : Type 0 where
  pub before : List Named
  pub line : Named
  pub after : List Named
  pub are : lines ≡ before ++ line ∷ after
  pub is_name : IsNameLine line
  pub name_is : line.value ≡ name
  pub none_before : HasNoName before

abbrev pub HasFirstName : List Named → Option (List ℕ) → Type 0
HasFirstName lines None = HasNoName lines
HasFirstName lines (Some name) = IsFirstName lines name

-- the texts between the commas of all lines with dates
abbrev pub dates_of : List Named → List (List ℕ)
dates_of lines =
    flat_map (λ l. cut_at 44 l.value) (filter (λ l. is_word l.name (codes "RDATE")) lines)

pub record HasLines (lines : List Named) (p : OpenPart) : Type 0 where
  pub name : HasFirstName lines p.name
  pub dates : p.dates ≡ dates_of lines
