-- Faults that are looked for one after another.
use Rattle.std.proofs.Common.{◌≡◌, Option, None, Some, refl}
use Rattle.std.specs.Option.{option_map}
use Rattle.td_base.specs.FirstFault.{◌or_else◌}

-- the first comes before a later one
pub sooner : {A : Type 0} (a b : Option A) (e : A) → a ≡ Some e → (a or_else b) ≡ Some e
sooner a b e h = rw h refl

-- a later one comes where there is none before it
pub later : {A : Type 0} (a b : Option A) (e : A) → a ≡ None → b ≡ Some e → (a or_else b) ≡ Some e
later a b e h k = rw h k

pub neither : {A : Type 0} (a b : Option A) → a ≡ None → b ≡ None → (a or_else b) ≡ None
neither a b h k = rw h k

-- where none of several comes, neither the first nor a later one does
pub first : {A : Type 0} (a b : Option A) → (a or_else b) ≡ None → a ≡ None
first None b h = refl
first (Some e) b h = h

pub second : {A : Type 0} (a b : Option A) → (a or_else b) ≡ None → b ≡ None
second None b h = h
second (Some e) b h = absurd cc

pub unmapped : {A B : Type 0} (f : A → B) (a : Option A) → option_map f a ≡ None → a ≡ None
unmapped f None h = refl
unmapped f (Some x) h = absurd cc

pub mapped : {A B : Type 0} (f : A → B) (a : Option A) → a ≡ None → option_map f a ≡ None
mapped f a h = rw h refl
