-- The tokens that a tree is written as.
use Rattle.std.specs.Prelude.{List}
use Rattle.json.specs.Token.{Token}
use Rattle.json.specs.Tree.{json_tokens, items_tokens}
use Rattle.serde_json.specs.Data.{Data}
use Rattle.serde_json.specs.View.{items_of}
use Rattle.serde_json.specs.Written.{outline, items_outline}

abbrev pub tree_tokens : Data → List Token
tree_tokens d = json_tokens (outline d)

-- those of the items of an array, with its end
abbrev pub rest_tokens : List Data → List Token
rest_tokens ds = items_tokens (items_outline (items_of ds))
