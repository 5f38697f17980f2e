-- Runs and numbers, read and spelled.
use Rattle.std.proofs.Common.{◌≡◌, ℕ, suc, ◌+◌, ◌≤◌, List, [], ◌∷◌, ◌++◌, length, take, drop, Bool, true, false, cond, ◌&&◌, Option, None, Some, refl, ap, sym}
use Rattle.std.proofs.Common.{◌∙◌, subst, arith, nat_le}
use Rattle.std.specs.List.{prefix_len, list_all}
use Rattle.std.specs.Char.{is_ascii_digit}
use Rattle.std.proofs.lemmas.Bool.Decides.{nat_tests}
use Rattle.std.proofs.lemmas.Option.{cond_some}
use Rattle.std.proofs.lemmas.List.{take-append-drop, take_at, drop_at}
use Rattle.std.proofs.lemmas.List.Folds.{length-prefix_len}
use Rattle.posix_footer.specs.Items.{◌>>=◌, begins_as, run_at, number_at, number_of_digits}
use Rattle.posix_footer.specs.Spelling.{IsRun, IsNumber}

-- what stands at the beginning of a text spells a value, and the rest stands after it
pub record Reads {A : Type 0} (Is : List ℕ → A → Type 0) (text : List ℕ) (read : A × List ℕ) : Type 0 where
  pub prefix : List ℕ
  pub text_is : text ≡ prefix ++ read.1
  pub spells : Is prefix read.0

-- a run that stands for itself
pub record IsRunOf (kind : ℕ → Bool) (fewest most : ℕ) (prefix run : List ℕ) : Type 0 where
  pub same : prefix ≡ run
  pub bytes : IsRun kind fewest most prefix

-- the value in between
pub record Between {A B : Type 0} (first : Option A) (then : A → Option B) (last : B) : Type 0 where
  pub value : A
  pub first_is : first ≡ Some value
  pub then_is : then value ≡ Some last

pub between : {A B : Type 0} (first : Option A) (then : A → Option B) (last : B) → (first >>= then) ≡ Some last → Between first then last
between None then last h = absurd (cc)
between (Some x) then last h = record { value = x; first_is = refl; then_is = h }

one_more : (n : ℕ) → 1 + n ≡ suc n
one_more n = omega arith

prefix_step : (kind : ℕ → Bool) (b : ℕ) (bs : List ℕ) (v : Bool) → kind b ≡ v → list_all kind (take (prefix_len kind bs) bs) ≡ true →
    list_all kind (take (cond v (1 + prefix_len kind bs) 0) (b ∷ bs)) ≡ true
prefix_step kind b bs true e rest = rw (one_more (prefix_len kind bs)) (rw e rest)
prefix_step kind b bs false e rest = refl

prefix_passes : (kind : ℕ → Bool) (text : List ℕ) → list_all kind (take (prefix_len kind text) text) ≡ true
prefix_passes kind [] = refl
prefix_passes kind (b ∷ bs) = prefix_step kind b bs (kind b) refl (prefix_passes kind bs)

run_parts : (kind : ℕ → Bool) (fewest most count : ℕ) (text : List ℕ) (x : List ℕ × List ℕ) →
    cond (nat_le fewest count && nat_le count most) (Some (take count text, drop count text)) None ≡ Some x →
    (fewest ≤ count) × (count ≤ most) × (take count text ≡ x.0) × (drop count text ≡ x.1)
run_parts kind fewest most count text x h =
    let parts = cond_some _ _ _ h in
    (grind (arith, nat_tests), grind (arith, nat_tests), ap (λ p. p.0) parts.1, ap (λ p. p.1) parts.1)

pub run_found : (kind : ℕ → Bool) (fewest most : ℕ) (text : List ℕ) (x : List ℕ × List ℕ) →
    run_at kind fewest most text ≡ Some x → Reads (IsRunOf kind fewest most) text x
unfolding run_at
run_found kind fewest most text x h =
    let parts = run_parts kind fewest most (prefix_len kind text) text x h in
    let size : length x.0 ≡ prefix_len kind text = ap length (sym parts.2) ∙ length-prefix_len kind text in
    record {
      prefix = x.0;
      text_is = rw (sym parts.2, sym parts.3) (sym (take-append-drop (prefix_len kind text) text));
      spells = record {
        same = refl;
        bytes = record {
          all = rw (sym parts.2) (prefix_passes kind text);
          at_least = rw size parts.0;
          at_most = rw size parts.1;
        };
      };
    }

run_end : (kind : ℕ → Bool) (rest : List ℕ) → begins_as kind rest ≡ false → prefix_len kind rest ≡ 0
run_end kind [] end = refl
run_end kind (b ∷ bs) end = rw end refl

run_step : (kind : ℕ → Bool) (b : ℕ) (others : Bool) (n m : ℕ) → (kind b && others) ≡ true → (others ≡ true → n ≡ m) →
    cond (kind b) (1 + n) 0 ≡ suc m
run_step kind b others n m all same = elim (kind b) as (λ v. (v && others) ≡ true → cond v (1 + n) 0 ≡ suc m) [
  | true ↦ λ h. rw (same h) (omega arith)
  | false ↦ λ h. absurd (cc)
] all

pub run_length : (kind : ℕ → Bool) (run rest : List ℕ) → list_all kind run ≡ true → begins_as kind rest ≡ false →
    prefix_len kind (run ++ rest) ≡ length run
run_length kind [] rest all end = run_end kind rest end
run_length kind (b ∷ bs) rest all end =
    run_step kind b (list_all kind bs) (prefix_len kind (bs ++ rest)) (length bs) all (λ others. run_length kind bs rest others end)

pub run_again : (kind : ℕ → Bool) (fewest most : ℕ) (run rest : List ℕ) → IsRun kind fewest most run →
    begins_as kind rest ≡ false → run_at kind fewest most (run ++ rest) ≡ Some (run, rest)
unfolding run_at
run_again kind fewest most run rest is end =
    let size = run_length kind run rest is.all end in
    let least : nat_le fewest (length run) ≡ true = grind (arith, nat_tests) in
    let greatest : nat_le (length run) most ≡ true = grind (arith, nat_tests) in
    rw (size, least, greatest, take_at run rest (length run) refl, drop_at run rest (length run) refl) refl

pub run_along : (kind : ℕ → Bool) (fewest most : ℕ) (a b : List ℕ) → a ≡ b → IsRun kind fewest most a → IsRun kind fewest most b
run_along kind fewest most a b e h = let P : List ℕ → Type 0 = λ run. IsRun kind fewest most run in subst P e h

number_from : (fewest most low high : ℕ) (text prefix : List ℕ) (digits : List ℕ × List ℕ) (x : ℕ × List ℕ) → text ≡ prefix ++ digits.1 →
    IsRunOf is_ascii_digit fewest most prefix digits.0 →
    cond (nat_le low (number_of_digits digits.0) && nat_le (number_of_digits digits.0) high) (Some (number_of_digits digits.0, digits.1)) None ≡ Some x →
    Reads (IsNumber fewest most low high) text x
number_from fewest most low high text prefix digits x text_is run h =
    let parts = cond_some _ _ _ h in
    let n_is : number_of_digits digits.0 ≡ x.0 = ap (λ p. p.0) parts.1 in
    let rest_is : digits.1 ≡ x.1 = ap (λ p. p.1) parts.1 in
    let least : low ≤ number_of_digits digits.0 = grind (arith, nat_tests) in
    let greatest : number_of_digits digits.0 ≤ high = grind (arith, nat_tests) in
    record {
      prefix = prefix;
      text_is = text_is ∙ ap (λ rest. prefix ++ rest) rest_is;
      spells = record {
        digits = run.bytes;
        value = sym n_is ∙ ap number_of_digits (sym run.same);
        at_least = omega (arith, n_is, least);
        at_most = omega (arith, n_is, greatest);
      };
    }

pub number_found : (fewest most low high : ℕ) (text : List ℕ) (x : ℕ × List ℕ) →
    number_at fewest most low high text ≡ Some x → Reads (IsNumber fewest most low high) text x
unfolding number_at
number_found fewest most low high text x h =
    let digits = between (run_at is_ascii_digit fewest most text) _ x h in
    let read = run_found is_ascii_digit fewest most text digits.value digits.first_is in
    number_from fewest most low high text read.prefix digits.value x read.text_is read.spells digits.then_is

pub number_again : (fewest most low high : ℕ) (text : List ℕ) (n : ℕ) (rest : List ℕ) → IsNumber fewest most low high text n →
    begins_as is_ascii_digit rest ≡ false → number_at fewest most low high (text ++ rest) ≡ Some (n, rest)
unfolding number_at
number_again fewest most low high text n rest is end =
    let run = run_again is_ascii_digit fewest most text rest is.digits end in
    let same : number_of_digits text ≡ n = sym is.value in
    let least : nat_le low n ≡ true = grind (arith, nat_tests) in
    let greatest : nat_le n high ≡ true = grind (arith, nat_tests) in
    rw (run, same, least, greatest) refl
