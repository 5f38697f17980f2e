-- Lists of texts or values of which each is read.
use Rattle.std.specs.Prelude.{List, [], ◌∷◌, Option, None, Some}

abbrev pub put_before : {A : Type 0} → Option A → Option (List A) → Option (List A)
put_before (Some x) (Some xs) = Some (x ∷ xs)
put_before x xs = None

-- what is read of each, if each can be read
abbrev pub all_read : {A B : Type 0} → (A → Option B) → List A → Option (List B)
all_read read [] = Some []
all_read read (x ∷ xs) = put_before (read x) (all_read read xs)
