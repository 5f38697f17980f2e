-- The first fault that a reader or a checker meets. The type of faults is any, with one of them for
-- 'out of memory'.
use Rattle.std.specs.Prelude.{◌≡◌, ◌≢◌, ℕ, Bool, Option, None, Some, Result, Ok, Err, find}
use Rattle.std.specs.Prelude.{if◌then◌else◌}
use Rattle.std.specs.Option.{option_or}
use Rattle.std.specs.List.{range_with_len}

-- the fault, where the test holds
abbrev pub when : {F : Type 0} → Bool → F → Option F
when test fault = if test then Some fault else None

-- the first that there is
infixr 4 ◌or_else◌
abbrev pub ◌or_else◌ : {A : Type 0} → Option A → Option A → Option A
a or_else b = option_or a b

-- the second step, where the first gave a value
infixl 10 ◌>>=◌
abbrev pub ◌>>=◌ : {A B F : Type 0} → Result A F → (A → Result B F) → Result B F
(Ok x) >>= f = f x
(Err e) >>= f = Err e

-- the least number below n with a property
abbrev pub least : ℕ → (ℕ → Bool) → Option ℕ
least n test = find test (range_with_len 0 n)

-- a value where there is no first fault, and else that fault; it may also be 'out of memory',
-- whatever the faults are
abbrev pub IsFirstFault : {T F : Type 0} → F → Option F → Result T F → Type 0
IsFirstFault no_memory first (Ok _) = first ≡ None
IsFirstFault no_memory first (Err e) = e ≢ no_memory → first ≡ Some e
