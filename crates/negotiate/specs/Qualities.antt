-- The quality that an Accept field gives to a range, in thousandths (RFC 9110, sections 12.4.2 and
-- 12.5.1).
use Rattle.std.specs.Prelude.{ℕ, ◌+◌, ◌-◌, ◌*◌, ◌/◌, max, List, [], ◌∷◌, length, drop, Bool}
use Rattle.std.specs.Prelude.{true, ◌&&◌, ◌||◌, ◌==◌, nat_le, if◌then◌else◌, Option, Some, None}
use Rattle.std.specs.Prelude.{codes}
use Rattle.std.specs.List.{list_all}
use Rattle.std.specs.Char.{is_ascii_digit}
use Rattle.std.specs.Str.{str_eq_ignore_ascii_case}
use Rattle.td_base.specs.TargetForm.{begins_any_case}
use Rattle.td_base.specs.Texts.{trim, pieces}
use Rattle.negotiate.specs.Marks.{comma, semicolon, full_stop, digit_zero, digit_one}

-- nothing, or a point and up to three digits
abbrev pub is_fraction : List ℕ → Bool
is_fraction [] = true
is_fraction (point ∷ digits) =
    point == full_stop && (nat_le (length digits) 3 && list_all is_ascii_digit digits)

-- the digits, of which the first counts so much
abbrev pub fraction : ℕ → List ℕ → ℕ
fraction unit [] = 0
fraction unit (digit ∷ digits) = unit * (digit - digit_zero) + fraction (unit / 10) digits

abbrev pub thousandths : ℕ → List ℕ → ℕ
thousandths whole rest = 1000 * (whole - digit_zero) + fraction 100 (drop 1 rest)

-- a quality is `0` or `1`, maybe with a fraction, and at most 1
unfoldable pub quality_value : List ℕ → Option ℕ
quality_value [] = None
quality_value (whole ∷ rest) =
    if ((whole == digit_zero || whole == digit_one) && is_fraction rest)
    && nat_le (thousandths whole rest) 1000
    then Some (thousandths whole rest)
    else None

abbrev pub is_quality : List ℕ → Bool
is_quality parameter = begins_any_case (codes "q=") parameter

-- the quality that the first parameter `q` gives; it is 1 where there is none
unfoldable pub quality_in : List (List ℕ) → Option ℕ
quality_in [] = Some 1000
quality_in (parameter ∷ parameters) =
    if is_quality (trim parameter)
    then quality_value (drop 2 (trim parameter))
    else quality_in parameters

-- the quality that the pieces of an element give to this range, if they name it and have a quality
abbrev pub quality_for : List ℕ → List (List ℕ) → Option ℕ
quality_for range [] = None
quality_for range (first ∷ parameters) =
    if str_eq_ignore_ascii_case (trim first) range then quality_in parameters else None

abbrev pub larger_quality : Option ℕ → Option ℕ → Option ℕ
larger_quality None b = b
larger_quality (Some a) None = Some a
larger_quality (Some a) (Some b) = Some (max a b)

-- the largest quality that the elements give to this range
unfoldable pub largest_for : List ℕ → List (List ℕ) → Option ℕ
largest_for range [] = None
largest_for range (element ∷ elements) =
    larger_quality (quality_for range (pieces semicolon element)) (largest_for range elements)

-- the largest quality that the field gives to this range
abbrev pub quality_of_range : List ℕ → List ℕ → Option ℕ
quality_of_range range field = largest_for range (pieces comma field)
