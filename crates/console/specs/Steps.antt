-- What one call gives of the bytes that are held, and what that is of all the bytes fed.
use Rattle.std.specs.Prelude.{◌≡◌, ℕ, ◌+◌, ◌<◌, ◌≤◌, List, [], ◌∷◌, ◌++◌, length, take, false}
use Rattle.std.specs.Prelude.{IsTrue, Option, Some, None, ⊤}
use Rattle.std.specs.List.{before_first, after_first}
use Rattle.console.specs.Lines.{is_feed_byte, has_feed, line_of, lines_of, HasWishText}
use Rattle.console.specs.declared.line.Line.{Line}
use Rattle.console.specs.declared.line.TheConstants.{MOST_BYTES}

-- how many bytes stay where no line feed is held: of a longer line these show that it is too long
abbrev pub most_held : ℕ
most_held = MOST_BYTES + 1

-- what the first line of the bytes asks for
abbrev pub first_line : List ℕ → Line
first_line held = line_of (before_first is_feed_byte held)

-- what a call answers of the bytes held, and which it leaves
abbrev pub StepsLine : List ℕ → Option Line → List ℕ → Type 0
StepsLine old (Some line) new =
    IsTrue (has_feed old) × (line ≡ line_of (before_first is_feed_byte old))
    × (new ≡ after_first is_feed_byte old)
StepsLine old None new = (has_feed old ≡ false) × (new ≡ take most_held old)

-- the first line of the bytes held has a text of its own
abbrev pub FirstHasText : List ℕ → Type 0
FirstHasText held = IsTrue (has_feed held) × HasWishText (line_of (before_first is_feed_byte held))

-- whatever more is fed, the lines of all bytes are those given, followed by those of what is held
-- and of what is fed then
abbrev pub GivesLines : List ℕ → List Line → List ℕ → Type 0
GivesLines all given held =
    (more : List ℕ) → lines_of (all ++ more) ≡ given ++ lines_of (held ++ more)

-- what the next call answers after these lines were given: one more, or that they are the lines of
-- all bytes
abbrev pub ContinuesLines : List ℕ → List Line → Option Line → List ℕ → Type 0
ContinuesLines all given (Some line) held = GivesLines all (given ++ line ∷ []) held
ContinuesLines all given None held = GivesLines all given held × (lines_of all ≡ given)

-- a line takes bytes, so that asking again and again ends
abbrev pub LineTakesBytes : List ℕ → List ℕ → Option Line → Type 0
LineTakesBytes old new (Some line) = length new < length old
LineTakesBytes old new None = length new ≤ length old

-- where there is no line, few bytes are held
abbrev pub LeavesFew : List ℕ → Option Line → Type 0
LeavesFew new None = length new ≤ most_held
LeavesFew new (Some line) = ⊤
