-- The parameters of a query, which is read as a form is.
use Rattle.std.specs.Prelude.{ℕ, List, [], ◌∷◌, if◌then◌else◌, bytes_eq}
use Rattle.std.specs.Str.Lossy.{utf8_lossy}
use Rattle.form_urlencoded.specs.Form.{raw_pairs, decode}
use Rattle.target.specs.declared.asked_types.Param.{Param}
use Rattle.target.specs.declared.asked_types.Param.TheVariants as param

-- what a name or a value stands for, with U+FFFD for what is not UTF-8
unfoldable pub decoded_text : List ℕ → List ℕ
decoded_text bytes = utf8_lossy (decode bytes)

-- the values under this name
unfoldable pub parameter_values : List ℕ → List (List ℕ × List ℕ) → List (List ℕ)
parameter_values name [] = []
parameter_values name (pair ∷ pairs) =
    if bytes_eq (decoded_text pair.0) name then decoded_text pair.1 ∷ parameter_values name pairs
    else parameter_values name pairs

-- the parameter with these values
abbrev pub param_with : List (List ℕ) → Param
param_with [] = param.Absent
param_with (value ∷ []) = param.Once value
param_with (first ∷ second ∷ others) = param.Repeated

-- the parameter of this name in a query
unfoldable pub parameter : List ℕ → List ℕ → Param
parameter name query = param_with (parameter_values name (raw_pairs query))

-- the parameter with one more value
abbrev pub with_value : Param → List ℕ → Param
with_value param.Absent value = param.Once value
with_value (param.Once first) value = param.Repeated
with_value param.Repeated value = param.Repeated
