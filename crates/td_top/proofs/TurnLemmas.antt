-- What one turn of a talk takes of the bytes that are held.
use Rattle.std.proofs.Common.{◌≡◌, ℕ, List, [], ◌∷◌, ◌++◌, true, refl, sym, subst}
use Rattle.std.proofs.lemmas.Bool.{true≢false}
use Rattle.console.specs.Lines.{HasWishText}
use Rattle.console.specs.Steps.{FirstHasText, GivesLines, first_line}
use Rattle.console.specs.declared.line.Line.{Line}
use Rattle.console.specs.declared.line.Line.TheVariants as line
use Rattle.run_ends.specs.Operator.{KeepsTalking, TakesMemory, is_quit}
use Rattle.td_top.specs.TalkingSteps.{IsNextLine}

-- the line that was passed over has a text of its own
pub is_passed : (old held new : List ℕ) → held ≡ old → FirstHasText old
    → ((all : List ℕ) (given : List Line) → GivesLines all given held → GivesLines all (given ++ first_line held ∷ []) new)
    → (next : Line) × HasWishText next × IsNextLine old new next
is_passed old held new same has over = (
  first_line old,
  has.1,
  subst (λ (h : List ℕ). (all : List ℕ) (given : List Line) → GivesLines all given h → GivesLines all (given ++ first_line h ∷ []) new) same over,
)

-- such a line takes memory, and the talk goes on after it
pub takes_memory : (next : Line) → HasWishText next → TakesMemory next
takes_memory line.Quit has = has
takes_memory other has = search has

pub keeps_talking : (next : Line) → HasWishText next → KeepsTalking next
keeps_talking line.Quit has = absurd has
keeps_talking other has = refl

-- the line that ends a talk
pub is_last : (held new : List ℕ) (next : Line) → is_quit next ≡ true → IsNextLine held new next → IsNextLine held new line.Quit
is_last held new line.Quit is next = next
is_last held new other is next = absurd (true≢false (sym is))
