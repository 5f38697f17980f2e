-- Plain texts are ASCII, and so they are UTF-8.
use Rattle.std.proofs.Common.{ℕ, ◌<◌, List, [], ◌∷◌, IsTrue, IsUtf8, IsAscii, nat_le, arith}
use Rattle.std.proofs.lemmas.Bool.Decides.{nat_tests}
use Rattle.std.proofs.lemmas.Bool.{and_parts}
use Rattle.std.proofs.lemmas.Str.{IsUtf8-from_ascii}
use Rattle.std.proofs.lemmas.Str.Ascii.{IsAscii-nil, IsAscii-cons}
use Rattle.std.specs.List.{list_all}
use Rattle.td_base.specs.Names.{is_printable}
use Rattle.td_base.specs.Names.{IsPlain}

below_128 : (b : ℕ) → IsTrue (is_printable b) → b < 128
below_128 b plain =
    let most : IsTrue (nat_le b 126) = (and_parts (nat_le 32 b) (nat_le b 126) plain).1 in
    grind (arith, nat_tests)

IsAscii-plain : (text : List ℕ) → IsPlain text → IsAscii text
IsAscii-plain [] plain = IsAscii-nil
IsAscii-plain (b ∷ bs) plain =
    let parts = and_parts (is_printable b) (list_all is_printable bs) plain in
    IsAscii-cons b bs (below_128 b parts.0) (IsAscii-plain bs parts.1)

pub utf8_plain : (text : List ℕ) → IsPlain text → IsUtf8 text
utf8_plain text plain = IsUtf8-from_ascii text (IsAscii-plain text plain)
