-- The values under a name, one by one.
use Rattle.std.proofs.Common.{◌≡◌, ℕ, List, [], ◌∷◌, refl}
use Rattle.target.specs.Parameters.{param_with, with_value}
use Rattle.target.specs.declared.asked_types.Param.{Param}
use Rattle.target.specs.declared.asked_types.Param.TheVariants as param

-- the parameter with these values too
abbrev pub with_values : Param → List (List ℕ) → Param
with_values found [] = found
with_values found (value ∷ values) = with_values (with_value found value) values

repeated : (values : List (List ℕ)) → with_values param.Repeated values ≡ param.Repeated
repeated [] = refl
repeated (value ∷ values) = repeated values

pub with_values-absent : (values : List (List ℕ)) → with_values param.Absent values ≡ param_with values
with_values-absent [] = refl
with_values-absent (value ∷ []) = refl
with_values-absent (first ∷ second ∷ others) = repeated others
