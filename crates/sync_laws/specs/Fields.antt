-- The fields of a head by their names, and what the length of a body says.
use Rattle.std.specs.Prelude.{◌≡◌, ℕ, ◌≤◌, List, [], length, map, codes, IsTrue, filter}
use Rattle.std.specs.Char.{is_ascii_digit}
use Rattle.std.specs.List.{AllByRecursion, list_all}
use Rattle.std.specs.Str.{str_eq_ignore_ascii_case}
use Rattle.std.specs.Str.Parse.{digits_value}
use Rattle.httparse.specs.Grammar.{Field}
use Rattle.httparse.specs.Spans.{name_and_value}

-- names and values of the fields with this name, in any case of its letters
abbrev pub fields_named : List ℕ → List Field → List (List ℕ × List ℕ)
fields_named name fields =
    filter (λ f. str_eq_ignore_ascii_case f.0 name) (map name_and_value fields)

-- the value is the number of the bytes of the body, in digits
pub record IsLengthOf (body value : List ℕ) : Type 0 where
  pub digits : IsTrue (list_all is_ascii_digit value)
  pub is : digits_value 10 value ≡ length body

-- there is at most one length, it is that of the body, and the body is not encoded
pub record HasLength (fields : List Field) (body : List ℕ) : Type 0 where
  pub one : length (fields_named (codes "content-length") fields) ≤ 1
  pub is :
      AllByRecursion (λ f. IsLengthOf body f.1) (fields_named (codes "content-length") fields)
  pub plain : fields_named (codes "transfer-encoding") fields ≡ []
