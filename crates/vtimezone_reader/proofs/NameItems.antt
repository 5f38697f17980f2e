-- A name that begins a TZ string has 32 bytes at most.
use Rattle.std.proofs.Common.{◌≡◌, ◌⊎◌, inl, inr, ℕ, ◌≤◌, min, nat_le, Bool, true, false, ◌&&◌, if◌then◌else◌, refl, sym, ap, ◌∙◌, arith, Option, None, Some}
use Rattle.std.proofs.Common.{List, length, take, drop}
use Rattle.std.specs.List.{prefix_len}
use Rattle.std.specs.Char.{is_ascii_alphabetic}
use Rattle.std.proofs.lemmas.Bool.{and_parts}
use Rattle.std.proofs.lemmas.Bool.Decides.{nat_tests}
use Rattle.std.proofs.lemmas.List.{length-take}
use Rattle.posix_footer.specs.Items.{◌>>=◌, is_designation_byte, begins, after_byte, run_at, quoted_at, name_at}

some_if : {A : Type 0} (test : Bool) (x y : A) → (if test then Some x else None) ≡ Some y → (test ≡ true) × (x ≡ y)
some_if true x y e = (refl, cc)
some_if false x y e = absurd (cc)

either_of : {A : Type 0} (b : Bool) (x y z : A) → (if b then x else y) ≡ z → (x ≡ z) ⊎ (y ≡ z)
either_of true x y z e = inl e
either_of false x y z e = inr e

-- both steps of two, one after the other, gave something
record IsBound {A B : Type 0} (o : Option A) (f : A → Option B) (y : B) : Type 0 where
  value : A
  is : o ≡ Some value
  gives : f value ≡ Some y

bound : {A B : Type 0} (o : Option A) (f : A → Option B) (y : B) → (o >>= f) ≡ Some y → IsBound o f y
bound None f y e = absurd (cc)
bound (Some x) f y e = record { value = x; is = refl; gives = e }

at_most : (a b : ℕ) → nat_le a b ≡ true → a ≤ b
at_most a b e = grind (arith, nat_tests)

some_same : {A : Type 0} (x y : A) → ◌≡◌ {A = Option A} (Some x) (Some y) → x ≡ y
some_same x y e = cc

run_short : (kind : ℕ → Bool) (fewest most : ℕ) (text : List ℕ) (r : List ℕ × List ℕ) → run_at kind fewest most text ≡ Some r → length r.0 ≤ most
unfolding run_at
run_short kind fewest most text r e =
    let count = prefix_len kind text in
    let both = some_if (nat_le fewest count && nat_le count most) (take count text, drop count text) r e in
    let test = (and_parts (nat_le fewest count) (nat_le count most) both.0).1 in
    let front : take count text ≡ r.0 = ap (λ (p : List ℕ × List ℕ). p.0) both.1 in
    let le : count ≤ most = at_most count most test in
    let long : length r.0 ≡ min count (length text) = ap length (sym front) ∙ length-take count text in
    omega (arith, le, long)

quoted_short : (text : List ℕ) (r : List ℕ × List ℕ) → quoted_at text ≡ Some r → length r.0 ≤ 32
unfolding quoted_at
quoted_short text r e =
    let one = bound (run_at is_designation_byte 3 32 text) (λ name. after_byte 62 name.1 >>= λ rest. Some (name.0, rest)) r e in
    let two = bound (after_byte 62 one.value.1) (λ rest. Some (one.value.0, rest)) r one.gives in
    let same : one.value.0 ≡ r.0 = ap (λ (p : List ℕ × List ℕ). p.0) (some_same (one.value.0, two.value) r two.gives) in
    let short = run_short is_designation_byte 3 32 text one.value one.is in
    let long : length one.value.0 ≡ length r.0 = ap length same in
    omega (arith, short, long)

pub name_short : (text : List ℕ) (r : List ℕ × List ℕ) → name_at text ≡ Some r → length r.0 ≤ 32
unfolding name_at
name_short text r e =
    elim (either_of (begins 60 text) (quoted_at (drop 1 text)) (run_at is_ascii_alphabetic 3 32 text) (Some r) e) [
      | inl quoted ↦ quoted_short (drop 1 text) r quoted
      | inr plain ↦ run_short is_ascii_alphabetic 3 32 text r plain
    ]
