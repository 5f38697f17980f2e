-- Checks one after another.
use Rattle.std.proofs.Common.{◌≡◌, ◌≢◌, ◌<◌, ℕ, ◌+◌, true, false, List, [], ◌∷◌, ◌++◌, length, drop, get_or, refl, sym, ap, ◌∙◌, append_assoc, add-one}
use Rattle.std.proofs.Common.{drop-cons, cond, ◌≤◌, Option, None, Some, Result, Ok, Err, IsErrAnd}
use Rattle.std.proofs.lemmas.List.{append-nil, drop_all}
use Rattle.std.specs.Option.{option_or}
use Rattle.json.specs.Json.{Json, Items, item}
use Rattle.json.specs.Value.{value_view, items_view}
use Rattle.json.specs.declared.value.Value.{Value}
use Rattle.json.specs.Find.{as_array}
use Rattle.release_manifest.specs.declared.manifest_fault.Path.TheVariants as path
use Rattle.release_manifest.specs.Checks.{Check, first_failing, each_checks, text_checks, alias_checks}
use Rattle.release_manifest.specs.Meaning.{AllAre}
use Rattle.release_manifest.specs.Reading.{JudgesChecks}
use Rattle.release_manifest.specs.declared.manifest_fault.ManifestFault.{ManifestFault}
use Rattle.release_manifest.specs.declared.manifest_fault.ManifestFault.TheVariants as fault

pub first_failing-append : (a b : List Check) → first_failing (a ++ b) ≡ option_or (first_failing a) (first_failing b)
first_failing-append [] b = refl
first_failing-append (c ∷ cs) b =
    elim c.passes as (λ p. cond p (first_failing (cs ++ b)) (Some c.fault) ≡ option_or (cond p (first_failing cs) (Some c.fault)) (first_failing b))
    [ true ↦ first_failing-append cs b | false ↦ refl ]

-- the next of the values of a list
next_of : {A : Type 0} (vs : List (Value A)) (i : ℕ) (v : Value A) → i < length vs → drop i vs ≡ get_or vs i v ∷ drop (i + 1) vs
next_of vs i v h = rw (add-one, drop-cons vs i v)

pub next_value : {A : Type 0} (vs : List (Value A)) (i : ℕ) (v : Value A) → i < length vs → v ≡ get_or vs i v
    → items_view (drop i vs) ≡ item (value_view v) (items_view (drop (i + 1) vs))
next_value vs i v h e =
    ap items_view (next_of vs i v h) ∙ ap (λ x. item (value_view x) (items_view (drop (i + 1) vs))) (sym e)

-- The checks of the values from one on, of which that one passes.
pub next_passes : {A : Type 0} (checks : ℕ → Json → List Check) (vs : List (Value A)) (i : ℕ) (v : Value A) → i < length vs → v ≡ get_or vs i v
    → first_failing (checks i (value_view v)) ≡ None
    → first_failing (each_checks checks i (items_view (drop i vs))) ≡ first_failing (each_checks checks (i + 1) (items_view (drop (i + 1) vs)))
unfolding each_checks
next_passes checks vs i v h e passes =
    ap (λ ds. first_failing (each_checks checks i ds)) (next_value vs i v h e)
    ∙ first_failing-append (checks i (value_view v)) _ ∙ rw passes

-- The same where it does not.
pub next_fails : {A : Type 0} (checks : ℕ → Json → List Check) (vs : List (Value A)) (i : ℕ) (v : Value A) (f : ManifestFault)
    → i < length vs → v ≡ get_or vs i v
    → first_failing (checks i (value_view v)) ≡ Some f
    → first_failing (each_checks checks i (items_view (drop i vs))) ≡ Some f
unfolding each_checks
next_fails checks vs i v f h e fails =
    ap (λ ds. first_failing (each_checks checks i ds)) (next_value vs i v h e)
    ∙ first_failing-append (checks i (value_view v)) _ ∙ rw fails

-- one more of the values
pub next_is : {A X : Type 0} (Is : Json → X → Type 0) (vs : List (Value A)) (i : ℕ) (v : Value A) (found : List X) (x : X) → i < length vs → v ≡ get_or vs i v
    → ((rest : List X) → AllAre Is (items_view (drop i vs)) rest → AllAre Is (items_view vs) (found ++ rest))
    → Is (value_view v) x
    → (rest : List X) → AllAre Is (items_view (drop (i + 1) vs)) rest → AllAre Is (items_view vs) ((found ++ x ∷ []) ++ rest)
next_is Is vs i v found x h e so_far is rest all =
    rw append_assoc (so_far (x ∷ rest) (rw (next_value vs i v h e) (is, all)))

-- no more of the values
pub all_are : {A X : Type 0} (Is : Json → X → Type 0) (vs : List (Value A)) (i : ℕ) (found : List X) → length vs ≤ i
    → ((rest : List X) → AllAre Is (items_view (drop i vs)) rest → AllAre Is (items_view vs) (found ++ rest))
    → AllAre Is (items_view vs) found
all_are Is vs i found end so_far =
    rw append-nil at (so_far [] (rw (drop_all i vs end) tt))

-- the checks of no values
pub none_fails : {A : Type 0} (checks : ℕ → Json → List Check) (vs : List (Value A)) (i : ℕ) → length vs ≤ i
    → first_failing (each_checks checks i (items_view (drop i vs))) ≡ None
unfolding each_checks
none_fails checks vs i end = rw (drop_all i vs end)

-- a check that passes, before others
pub judges_after : {T : Type 0} (r : Result T ManifestFault) (c : Check) (cs : List Check) → c.passes ≡ true → JudgesChecks r cs
    → JudgesChecks r (c ∷ cs)
judges_after (Ok x) c cs passes judged = rw passes judged
judges_after (Err e) c cs passes judged = λ n. rw passes (judged n)

-- the aliases where there is a list of them
pub judges_aliases : {T : Type 0} (r : Result T ManifestFault) (zone : ℕ) (member : Option Json) (d : Json) (items : Items)
    → Some d ≡ member → Some items ≡ as_array d
    → JudgesChecks r (each_checks (λ n alias. text_checks (path.Alias zone n) (Some alias)) 0 items) → JudgesChecks r (alias_checks zone member)
unfolding alias_checks
judges_aliases r zone member d items there list judged = rw (← there) (rw (← list) (judges_after r _ _ refl judged))

-- an error that is handed on
pub judges_err : {T : Type 0} (r : Result T ManifestFault) (e : ManifestFault) (cs : List Check) → IsErrAnd r (λ y. y ≡ e)
    → (e ≢ fault.NoMemory → first_failing cs ≡ Some e) → JudgesChecks r cs
judges_err (Ok x) e cs handed fails = absurd handed
judges_err (Err y) e cs handed fails = rw handed fails
