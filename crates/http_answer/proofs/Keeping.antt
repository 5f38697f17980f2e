-- What stands at the beginning of a list that grows at its end.
use Rattle.std.proofs.Common.{◌≡◌, ℕ, ◌≤◌, List, ◌++◌, length, take, drop, Result, Ok, Err, OnOk, OnErr, sym, ap, ◌∙◌, subst, arith, take-append-drop}
use Rattle.std.proofs.lemmas.List.{take_all, take-append-le, length-take}
use Rattle.td_base.specs.declared.no_memory.NoMemory.{NoMemory}
use Rattle.http_answer.specs.Parts.{Keeps}

pub keeps_itself : (list : List ℕ) → Keeps list list
unfolding Keeps
keeps_itself list = take_all (length list) list (omega arith)

keeps_longer : (old text : List ℕ) → Keeps old (old ++ text)
unfolding Keeps
keeps_longer old text = take-append-le (length old) old text (omega arith) ∙ take_all (length old) old (omega arith)

pub keeps_append : (old new text : List ℕ) (r : Result (Unit {0}) NoMemory) → OnOk r (new ≡ old ++ text) → OnErr r (new ≡ old) → Keeps old new
keeps_append old new text (Ok u) e f = subst (Keeps old) (sym e) (keeps_longer old text)
keeps_append old new text (Err n) e f = subst (Keeps old) (sym f) (keeps_itself old)

within : (old new : List ℕ) → take (length old) new ≡ old → length old ≤ length new
within old new k = omega (arith, ap length k, length-take (length old) new)

pub keeps_both : (old mid new : List ℕ) → Keeps old mid → Keeps mid new → Keeps old new
unfolding Keeps
keeps_both old mid new k l =
    ap (take (length old)) (sym (take-append-drop (length mid) new) ∙ ap (λ m. m ++ drop (length mid) new) l)
    ∙ (take-append-le (length old) mid (drop (length mid) new) (within old mid k) ∙ k)

-- cut to their length, what is there still is what was there
pub cut_back : (old new : List ℕ) → Keeps old new → take (length old) new ≡ old
unfolding Keeps
cut_back old new k = k
