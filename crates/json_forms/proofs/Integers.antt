-- Integers are written in decimal, and read back.
use Rattle.std.proofs.Common.{◌≡◌, ◌<◌, ◌^◌, ℤ, pos, negsuc, refl, Some, arith, FitsSigned, w32}
use Rattle.std.specs.Fmt.{signed_decimal}
use Rattle.json.specs.Print.{IsNumber}
use Rattle.json.proofs.Printed.Decimals.{IsNumber-decimal, IsNumber-signed_decimal}
use Rattle.serde_json.specs.Find.{of_integer}
use Rattle.serde_json.specs.Read.{number_of}
use Rattle.serde_json.specs.Written.{number_text}
use Rattle.serde_json.proofs.Numbers.{number_of-decimal, number_of-negative}

pub integer_text : (z : ℤ) → number_text (of_integer z) ≡ signed_decimal z
integer_text (pos n) = refl
integer_text (negsuc n) = refl

pub integer_same : (z : ℤ) → FitsSigned w32 z → number_of (number_text (of_integer z)) ≡ Some (of_integer z)
integer_same (pos n) fits = let less : n < 2 ^ 31 = fits.sfits in number_of-decimal n (omega arith)
integer_same (negsuc n) fits = let less : n < 2 ^ 31 = fits.sfits in number_of-negative n (omega arith)

pub integer_is_number : (z : ℤ) → FitsSigned w32 z → IsNumber (number_text (of_integer z))
integer_is_number (pos n) fits = let less : n < 2 ^ 31 = fits.sfits in IsNumber-decimal n (omega arith)
integer_is_number (negsuc n) fits = let less : n < 2 ^ 31 = fits.sfits in IsNumber-signed_decimal (negsuc n) (omega arith)
