-- One call, and what it is of all the bytes that were fed.
use Rattle.std.proofs.Common.{◌≡◌, OnErr, true, false, ◌<◌, ◌+◌, ℕ, Result, Ok, Err, IfOk, Option, Some, None, List, [], ◌∷◌, ◌++◌, length, sym, ap, ◌∙◌, arith}
use Rattle.std.proofs.Common.{append_assoc, length-drop}
use Rattle.std.specs.List.{before_first, after_first, position_or_len}
use Rattle.std.proofs.lemmas.List.{append-nil, length-take}
use Rattle.td_base.specs.declared.no_memory.NoMemory.{NoMemory}
use Rattle.console.specs.declared.line.Line.{Line}
use Rattle.console.specs.Lines.{is_feed_byte, has_feed, line_of, lines_of}
use Rattle.console.specs.Steps.{StepsLine, GivesLines, ContinuesLines, FirstHasText, LineTakesBytes, LeavesFew, most_held}
use Rattle.console.proofs.LineLemmas.{lines_none, first_line, all_begun, first_stand}

-- a list in which no line ends has no lines
no_lines : (bytes : List ℕ) → has_feed bytes ≡ false → lines_of bytes ≡ []
no_lines bytes e = ap lines_of (sym (append-nil bytes)) ∙ (all_begun [] bytes [] e ∙ lines_none bytes)

-- nothing more is fed
pub given_all : (all : List ℕ) (given : List Line) (held : List ℕ) → GivesLines all given held → lines_of all ≡ given ++ lines_of held
given_all all given held g = ap lines_of (sym (append-nil all)) ∙ (g [] ∙ ap (λ l. given ++ lines_of l) (append-nil held))

pub continues : (old : List ℕ) (o : Option Line) (new : List ℕ) → StepsLine old o new
    → (all : List ℕ) (given : List Line) → GivesLines all given old → ContinuesLines all given o new
continues old (Some line) new s all given g = λ more.
    rw (s.1, s.2)
    (g more ∙ (ap (λ l. given ++ l) (first_line [] old more s.0)
    ∙ sym (append_assoc given (line_of (before_first is_feed_byte old) ∷ []) (lines_of (after_first is_feed_byte old ++ more)))))
continues old None new s all given g = (
  λ more. g more ∙ (ap (λ l. given ++ l) (first_stand old more s.0) ∙ ap (λ l. given ++ lines_of (l ++ more)) (sym s.1)),
  given_all all given old g ∙ (ap (λ l. given ++ l) (no_lines old s.0) ∙ append-nil given),
)

pub continues_ok : (old new : List ℕ) (r : Result (Option Line) NoMemory) → IfOk r (λ o. StepsLine old o new)
    → IfOk r (λ o. (all : List ℕ) (given : List Line) → GivesLines all given old → ContinuesLines all given o new)
continues_ok old new (Ok o) s = continues old o new s
continues_ok old new (Err e) s = tt

fewer_after : (bytes : List ℕ) → has_feed bytes ≡ true → length (after_first is_feed_byte bytes) < length bytes
fewer_after [] e = absurd (cc e)
fewer_after (b ∷ bs) e = omega (arith, length-drop (position_or_len is_feed_byte (b ∷ bs) + 1) (b ∷ bs))

pub fewer : (old new : List ℕ) (r : Result (Option Line) NoMemory) → IfOk r (λ o. StepsLine old o new) → IfOk r (LineTakesBytes old new)
fewer old new (Ok (Some line)) s = rw s.2 (fewer_after old s.0)
fewer old new (Ok None) s = omega (arith, ap length s.1, length-take most_held old)
fewer old new (Err e) s = tt

pub few : (old new : List ℕ) (r : Result (Option Line) NoMemory) → IfOk r (λ o. StepsLine old o new) → IfOk r (LeavesFew new)
few old new (Ok (Some line)) s = tt
few old new (Ok None) s = omega (arith, ap length s.1, length-take most_held old)
few old new (Err e) s = tt

pub err_text : {T : Type 0} (old : List ℕ) (r : Result T NoMemory) → FirstHasText old → OnErr r (FirstHasText old)
err_text old (Ok v) h = tt
err_text old (Err e) h = h
