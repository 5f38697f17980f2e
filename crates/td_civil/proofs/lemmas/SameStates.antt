-- The test of equal states says that they are equal.
use Rattle.std.proofs.Common.{◌≡◌, ◌≢◌, Bool, true, false, true≢false, ◌&&◌, refl, sym, subst, ◌∙◌, arith, ℤ}
use Rattle.std.specs.Ordering.{int_eq}
use Rattle.std.specs.Bool.{beq}
use Rattle.std.specs.Str.{bytes_eq}
use Rattle.std.proofs.lemmas.Bool.{and_parts, and_from}
use Rattle.std.proofs.lemmas.Int.{ints}
use Rattle.td_base.specs.declared.short_text.ShortText.{ShortText}
use Rattle.td_civil.specs.declared.local_time.Local.{Local}
use Rattle.td_civil.specs.SameLocal.{same_local}
use Rattle.td_civil.proofs.lemmas.Spelled.{same_text, text_same}

made : ℤ → Bool → ShortText 32 → Local
made offset dst name = record { offset = offset; dst = dst; name = name }

made_same : (o p : ℤ) (d e : Bool) (n m : ShortText 32) → o ≡ p → d ≡ e → n ≡ m → made o d n ≡ made p e m
made_same o p d e n m offset dst name = rw (offset, dst, name) refl

-- a state is its three parts
pub local_is : (x y : Local) → x.offset ≡ y.offset → x.dst ≡ y.dst → x.name ≡ y.name → x ≡ y
unfolding made
local_is x y offset dst name = made_same x.offset y.offset x.dst y.dst x.name y.name offset dst name

same_flag : (x y : Bool) → beq x y ≡ true → x ≡ y
same_flag true true e = refl
same_flag true false e = sym e
same_flag false true e = e
same_flag false false e = refl

flag_same : (x : Bool) → beq x x ≡ true
flag_same true = refl
flag_same false = refl

same_offset : (a b : ℤ) → int_eq a b ≡ true → a ≡ b
same_offset a b e = grind (arith, ints)

offset_same : (a : ℤ) → int_eq a a ≡ true
offset_same a = grind (arith, ints)

pub same_local_is : (x y : Local) → same_local x y ≡ true → x ≡ y
unfolding same_local
same_local_is x y e =
    let first = and_parts (int_eq x.offset y.offset) (beq x.dst y.dst && bytes_eq x.name y.name) e in
    let both = and_parts (beq x.dst y.dst) (bytes_eq x.name y.name) first.1 in
    local_is x y (same_offset x.offset y.offset first.0) (same_flag x.dst y.dst both.0) (same_text x.name y.name both.1)

local_same : (x : Local) → same_local x x ≡ true
unfolding same_local
local_same x =
    and_from (int_eq x.offset x.offset) (beq x.dst x.dst && bytes_eq x.name x.name) (offset_same x.offset)
    (and_from (beq x.dst x.dst) (bytes_eq x.name x.name) (flag_same x.dst) (text_same x.name x.name refl))

pub same_local_of : (x y : Local) → x ≡ y → same_local x y ≡ true
same_local_of x y e =
    let P : Local → Type 0 = λ z. same_local x z ≡ true in
    subst P e (local_same x)

pub other_local : (x y : Local) → same_local x y ≡ false → x ≢ y
other_local x y e same = true≢false (sym (same_local_of x y same) ∙ e)

pub local_other : (x y : Local) → x ≢ y → same_local x y ≡ false
local_other x y h = elim (same_local x y) as (λ b. same_local x y ≡ b → b ≡ false) [
  | true ↦ λ e. absurd (h (same_local_is x y e))
  | false ↦ λ e. refl
] refl
