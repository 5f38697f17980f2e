-- Trees whose text reads as the tree: those of which each object has its members in rising order.
use Rattle.std.proofs.Common.{◌≡◌, ℕ, ◌+◌, ◌<◌, ◌≤◌, ◌^◌, ℤ, pos, negsuc, FitsSigned, w32, List, [], ◌∷◌, Option, Some, option_and_then, refl, sym, ap, ◌∙◌, arith, append-nil}
use Rattle.std.specs.List.{AllByRecursion}
use Rattle.json.specs.Token.{Token}
use Rattle.json.specs.Json as json
use Rattle.json.specs.Print.{IsNumber}
use Rattle.json.specs.Tree as tree
use Rattle.json.specs.Tree.{HasNumbers, ItemsHaveNumbers, json_tokens}
use Rattle.json.proofs.Printed.Decimals.{IsNumber-decimal, IsNumber-signed_decimal}
use Rattle.json.proofs.Printed.Tokens.{tokens-print}
use Rattle.json.proofs.Printed.Trees.{value-json_tokens, ArePrintable-json_tokens}
use Rattle.serde_json.specs.Data.{Data, null, boolean, number, string, array, object, Items, no_items, item, Members, no_members, member, depth, items_depth}
use Rattle.serde_json.specs.Data.{members_depth}
use Rattle.serde_json.specs.Find.{of_integer}
use Rattle.serde_json.specs.Read.{read, of_json, of_items, max_depth, number_of}
use Rattle.serde_json.specs.View.{items_of}
use Rattle.serde_json.specs.Written.{outline, items_outline, members_outline, number_text, compact_text}
use Rattle.serde_json.proofs.Numbers.{number_of-decimal, number_of-negative}
use Rattle.serde_json.proofs.Texts.{print-outline}

-- the members of each object are in rising order, arrays and objects nest at most so deep, and the
-- numbers are integers of 64 bits
pub record IsReadable (most : ℕ) (d : Data) : Type 0 where
  pub same : of_json (outline d) ≡ Some d
  pub shallow : depth d ≤ most
  pub numbers : HasNumbers (outline d)

record AreReadable (most : ℕ) (ds : Items) : Type 0 where
  same : of_items (items_outline ds) ≡ Some ds
  shallow : items_depth ds ≤ most
  numbers : ItemsHaveNumbers (items_outline ds)

items_readable : (most : ℕ) (ds : List Data) → AllByRecursion (IsReadable most) ds → AreReadable most (items_of ds)
items_readable most [] all = record { same = refl; shallow = omega arith; numbers = tt }
items_readable most (d ∷ ds) all =
    let first = all.0 in
    let rest = items_readable most ds all.1 in
    record { same = rw (first.same, rest.same) refl; shallow = omega (arith, first.shallow, rest.shallow); numbers = (first.numbers, rest.numbers) }

-- an array of such trees
pub array_readable : (most : ℕ) (ds : List Data) → AllByRecursion (IsReadable most) ds → IsReadable (most + 1) (array (items_of ds))
array_readable most ds all =
    let items = items_readable most ds all in
    record { same = rw items.same refl; shallow = omega (arith, items.shallow); numbers = items.numbers }

pub string_readable : (most : ℕ) (text : List ℕ) → IsReadable most (string text)
string_readable most text = record { same = refl; shallow = omega arith; numbers = tt }

pub deeper : (most more : ℕ) (d : Data) → most ≤ more → IsReadable most d → IsReadable more d
deeper most more d le h = record { same = h.same; shallow = omega (arith, h.shallow); numbers = h.numbers }

-- ---- integers

pub integer_same : (z : ℤ) → FitsSigned w32 z → number_of (number_text (of_integer z)) ≡ Some (of_integer z)
integer_same (pos n) fits = let less : n < 2 ^ 31 = fits.sfits in number_of-decimal n (omega arith)
integer_same (negsuc n) fits = let less : n < 2 ^ 31 = fits.sfits in number_of-negative n (omega arith)

pub integer_is_number : (z : ℤ) → FitsSigned w32 z → IsNumber (number_text (of_integer z))
integer_is_number (pos n) fits = let less : n < 2 ^ 31 = fits.sfits in IsNumber-decimal n (omega arith)
integer_is_number (negsuc n) fits = let less : n < 2 ^ 31 = fits.sfits in IsNumber-signed_decimal (negsuc n) (omega arith)

pub integer_readable : (most : ℕ) (z : ℤ) → FitsSigned w32 z → IsReadable most (number (of_integer z))
integer_readable most z fits = record { same = rw (integer_same z fits) refl; shallow = omega arith; numbers = integer_is_number z fits }

-- ---- from text to tree

-- what `read` makes of what the grammar found
abbrev whole : Option (json.Json × List Token) → Option Data
whole o = option_and_then of_json (option_and_then (λ p. json.if_last p.0 p.1) o)

mutual
  same_depth : (d : Data) → tree.depth (outline d) ≡ depth d
  same_depth null = refl
  same_depth (boolean b) = refl
  same_depth (number n) = refl
  same_depth (string s) = refl
  same_depth (array ds) = rw (items_same_depth ds)
  same_depth (object ms) = rw (members_same_depth ms)

  items_same_depth : (ds : Items) → tree.items_depth (items_outline ds) ≡ items_depth ds
  items_same_depth no_items = refl
  items_same_depth (item d ds) = rw (same_depth d, items_same_depth ds)

  members_same_depth : (ms : Members) → tree.members_depth (members_outline ms) ≡ members_depth ms
  members_same_depth no_members = refl
  members_same_depth (member k d ms) = rw (same_depth d, members_same_depth ms)

pub read_back : (d : Data) → IsReadable max_depth d → read (compact_text d) ≡ Some d
read_back d h =
    ap read (sym (print-outline d))
    ∙ ap whole
    (ap (json.value max_depth) (tokens-print (json_tokens (outline d)) (ArePrintable-json_tokens (outline d) h.numbers) ∙ sym (append-nil _))
    ∙ value-json_tokens (outline d) max_depth [] (rw (same_depth d) h.shallow))
    ∙ h.same
