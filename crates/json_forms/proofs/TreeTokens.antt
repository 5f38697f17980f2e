-- What is printed for the tokens of a tree.
use Rattle.std.proofs.Common.{◌≡◌, ℕ, List, [], ◌∷◌, ◌++◌, flat_map, refl, ap, ap₂, ◌∙◌, append_assoc}
use Rattle.json.specs.Print.{print}
use Rattle.json.specs.Token as token
use Rattle.json.specs.Token.{Token}
use Rattle.json.specs.Tree.{members_tokens}
use Rattle.serde_json.specs.Data.{Data, Members}
use Rattle.serde_json.specs.Written.{members_outline, compact_text}
use Rattle.serde_json.proofs.Texts.{print-outline}
use Rattle.json_forms.specs.AliasTokens.{alias_tokens}
use Rattle.json_forms.specs.ListDocument.{with_aliases}
use Rattle.json_forms.specs.TreeTokens.{tree_tokens, rest_tokens}

pub aliases_written : (aliases : List (List ℕ)) (ms : Members)
    → members_tokens (members_outline (with_aliases aliases ms)) ≡ alias_tokens aliases ++ members_tokens (members_outline ms)
aliases_written [] ms = refl
aliases_written (alias ∷ aliases) ms = refl

-- the items of an array one after another, and its end
pub items_ended : (ds : List Data) (more : List Token) → flat_map tree_tokens ds ++ token.end_array ∷ more ≡ rest_tokens ds ++ more
items_ended [] more = refl
items_ended (d ∷ ds) more =
    append_assoc (tree_tokens d) (flat_map tree_tokens ds) _ ∙ ap (λ ts. tree_tokens d ++ ts) (items_ended ds more)
    ∙ rw (append_assoc (tree_tokens d) (rest_tokens ds) more) refl

-- a document that stands alone, from what is ensured where the writer is made, where the tree is
-- written, and at the end
pub text_of_tree : (d : Data) (held before after text whole : List ℕ) (ts us : List Token)
    → held ≡ [] → before ≡ held → ts ≡ [] → after ≡ before → us ≡ ts ++ tree_tokens d → text ≡ after ++ print us → whole ≡ text → whole ≡ compact_text d
text_of_tree d held before after text whole ts us nothing made none kept written printed same =
    same ∙ printed ∙ ap₂ (λ b xs. b ++ print xs) (kept ∙ made ∙ nothing) (written ∙ ap (λ xs. xs ++ tree_tokens d) none) ∙ print-outline d
