-- Trees whose text reads as the tree.
use Rattle.std.proofs.Common.{◌≡◌, ℕ, ◌≤◌, List, [], ◌∷◌, map, Option, Some, option_and_then, refl, sym, ap, ◌∙◌, arith, append-nil}
use Rattle.std.specs.List.{AllByRecursion}
use Rattle.json.specs.Token.{Token}
use Rattle.json.specs.Json as json
use Rattle.json.specs.Tree as tree
use Rattle.json.specs.Tree.{HasNumbers, ItemsHaveNumbers}
use Rattle.json.proofs.Printed.Tokens.{tokens-print}
use Rattle.json.proofs.Printed.Trees.{value-json_tokens, ArePrintable-json_tokens}
use Rattle.serde_json.specs.Data.{Data, null, boolean, number, string, array, object, Items, no_items, item, Members, no_members, member, depth, items_depth}
use Rattle.serde_json.specs.Data.{members_depth}
use Rattle.serde_json.specs.Read.{read, of_json, of_items, max_depth}
use Rattle.serde_json.specs.View.{items_of}
use Rattle.serde_json.specs.Written.{outline, items_outline, members_outline, compact_text}
use Rattle.serde_json.proofs.Texts.{print-outline}
use Rattle.json_forms.specs.TreeTokens.{tree_tokens}

-- the members of each object are in rising order, arrays and objects nest at most so deep, and the
-- numbers are integers of 64 bits
pub record IsReadable (most : ℕ) (d : Data) : Type 0 where
  pub same : of_json (outline d) ≡ Some d
  pub shallow : depth d ≤ most
  pub numbers : HasNumbers (outline d)

pub record AreReadable (most : ℕ) (ds : Items) : Type 0 where
  pub same : of_items (items_outline ds) ≡ Some ds
  pub shallow : items_depth ds ≤ most
  pub numbers : ItemsHaveNumbers (items_outline ds)

-- the items of an array of which each is made in one way
pub items_readable : {A : Type 0} (most : ℕ) (f : A → Data) (P : A → Type 0) → ((x : A) → P x → IsReadable most (f x))
    → (xs : List A) → AllByRecursion P xs → AreReadable most (items_of (map f xs))
items_readable most f P one [] all = record { same = refl; shallow = omega arith; numbers = tt }
items_readable most f P one (x ∷ xs) all =
    let first = one x all.0 in
    let rest = items_readable most f P one xs all.1 in
    record { same = rw (first.same, rest.same) refl; shallow = omega (arith, first.shallow, rest.shallow); numbers = (first.numbers, rest.numbers) }

-- what `read` makes of what the grammar found
abbrev whole : Option (json.Json × List Token) → Option Data
whole o = option_and_then of_json (option_and_then (λ p. json.if_last p.0 p.1) o)

mutual
  same_depth : (d : Data) → tree.depth (outline d) ≡ depth d
  same_depth null = refl
  same_depth (boolean b) = refl
  same_depth (number n) = refl
  same_depth (string s) = refl
  same_depth (array ds) = rw (items_same_depth ds)
  same_depth (object ms) = rw (members_same_depth ms)

  items_same_depth : (ds : Items) → tree.items_depth (items_outline ds) ≡ items_depth ds
  items_same_depth no_items = refl
  items_same_depth (item d ds) = rw (same_depth d, items_same_depth ds)

  members_same_depth : (ms : Members) → tree.members_depth (members_outline ms) ≡ members_depth ms
  members_same_depth no_members = refl
  members_same_depth (member k d ms) = rw (same_depth d, members_same_depth ms)

pub read_back : (d : Data) → IsReadable max_depth d → read (compact_text d) ≡ Some d
read_back d h =
    ap read (sym (print-outline d))
    ∙ ap whole
    (ap (json.value max_depth) (tokens-print (tree_tokens d) (ArePrintable-json_tokens (outline d) h.numbers) ∙ sym (append-nil _))
    ∙ value-json_tokens (outline d) max_depth [] (rw (same_depth d) h.shallow))
    ∙ h.same
