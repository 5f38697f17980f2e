-- A network address is a plain text.
use Rattle.std.proofs.Common.{◌≡◌, ℕ, List, [], ◌∷◌, length, true, not, ◌&&◌, ◌==◌, nat_le, refl, arith}
use Rattle.std.proofs.lemmas.Bool.{and_parts}
use Rattle.std.proofs.lemmas.Bool.Decides.{nat_tests}
use Rattle.std.specs.List.{list_all}
use Rattle.td_base.specs.Names.{IsPlain, is_printable}
use Rattle.td_top.specs.Command.{is_address, is_address_byte}

byte_is_printable : (b : ℕ) → is_address_byte b ≡ true → is_printable b ≡ true
byte_is_printable b h = grind (arith, nat_tests)

bytes_are_plain : (text : List ℕ) → list_all is_address_byte text ≡ true → IsPlain text
bytes_are_plain [] h = refl
bytes_are_plain (b ∷ bs) h =
    let parts = and_parts (is_address_byte b) (list_all is_address_byte bs) h in
    rw (byte_is_printable b parts.0, bytes_are_plain bs parts.1) refl

pub address_is_plain : (text : List ℕ) → is_address text ≡ true → IsPlain text
address_is_plain [] h = refl
address_is_plain (b ∷ bs) h =
    bytes_are_plain (b ∷ bs) (and_parts (not (b == 45) && nat_le (length (b ∷ bs)) 255) (list_all is_address_byte (b ∷ bs)) h).1
