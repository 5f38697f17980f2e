-- What a reader answers and leaves, against the item with which what it read begins.
use Rattle.std.specs.Prelude.{◌≡◌, ℕ, Bool, List, Option, None, Some, Result, Ok, Err}
use Rattle.std.specs.Char.{is_ascii_alphabetic, is_ascii_digit}
use Rattle.posix_footer.specs.Items.{is_designation_byte, begins_offset}
use Rattle.posix_footer.specs.declared.footer_fault.FooterFault.{FooterFault}
use Rattle.posix_footer.specs.declared.parser.ByteKind.{ByteKind}
use Rattle.posix_footer.specs.declared.parser.ByteKind.TheVariants.{Letter, Digit, Quotable}
use Rattle.posix_footer.specs.declared.parser.ByteKind.TheVariants.{OffsetStart}

-- the bytes of a kind
abbrev pub test_of : ByteKind → ℕ → Bool
test_of Letter = is_ascii_alphabetic
test_of Digit = is_ascii_digit
test_of Quotable = is_designation_byte
test_of OffsetStart = begins_offset

-- seen by view, as what a reference points to
abbrev pub TakesAs : {A B : Type 0} → (A → B) → Option A → List ℕ → Option (B × List ℕ) → Type 0
TakesAs view None left item = item ≡ None
TakesAs view (Some x) left item = item ≡ Some (view x, left)

abbrev pub Takes : {A : Type 0} → Option A → List ℕ → Option (A × List ℕ) → Type 0
Takes None left item = item ≡ None
Takes (Some x) left item = item ≡ Some (x, left)

-- nothing is answered but that it stands there
abbrev pub Skips : Option Unit → List ℕ → Option (List ℕ) → Type 0
Skips None left item = item ≡ None
Skips (Some done) left item = item ≡ Some left

abbrev pub TakesOrFails : {A : Type 0} → Result A FooterFault → List ℕ
    → Result (A × List ℕ) FooterFault → Type 0
TakesOrFails (Err fault) left item = item ≡ Err fault
TakesOrFails (Ok x) left item = item ≡ Ok (x, left)

abbrev pub SkipsOrFails : Result Unit FooterFault → List ℕ → Result (List ℕ) FooterFault → Type 0
SkipsOrFails (Err fault) left item = item ≡ Err fault
SkipsOrFails (Ok done) left item = item ≡ Ok left
