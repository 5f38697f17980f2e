-- Lists of octets, cut at separators.
use Rattle.std.specs.Prelude.{ℕ, ◌==◌, List, [], ◌∷◌, Bool, false, if◌then◌else◌, Option, None}
use Rattle.std.specs.Prelude.{Some}
use Rattle.std.specs.List.{slice_split}
use Rattle.std.specs.Option.{option_map}
use Rattle.std.specs.Str.{bytes_eq}

-- the texts between separators
abbrev pub cut_at : ℕ → List ℕ → List (List ℕ)
cut_at separator text = slice_split (λ b. b == separator) text

-- what stands before the first separator of a text, and what stands after it
pub record Named : Type 0 where
  pub name : List ℕ
  pub value : List ℕ

abbrev pub begun_with : ℕ → Named → Named
begun_with b n = record { name = b ∷ n.name; value = n.value }

abbrev pub cut_first : ℕ → List ℕ → Option Named
cut_first separator [] = None
cut_first separator (b ∷ bs) =
    if b == separator then Some (record { name = []; value = bs })
    else option_map (begun_with b) (cut_first separator bs)

-- the values of that name
abbrev pub values_of : List ℕ → List Named → List (List ℕ)
values_of name [] = []
values_of name (n ∷ ns) =
    if bytes_eq n.name name then n.value ∷ values_of name ns else values_of name ns

-- what is read of the one value
abbrev pub one_read : {B : Type 0} → (List ℕ → Option B) → List (List ℕ) → Option B
one_read read (value ∷ []) = read value
one_read read values = None

-- what is read of the value, if there is one
abbrev pub one_if_any : {B : Type 0} → (List ℕ → Option B) → List (List ℕ) → Option (Option B)
one_if_any read [] = Some None
one_if_any read (value ∷ []) = option_map Some (read value)
one_if_any read values = None

-- whether there is one value, and it is this
abbrev pub only_is : List ℕ → List (List ℕ) → Bool
only_is text (value ∷ []) = bytes_eq value text
only_is text values = false
