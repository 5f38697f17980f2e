-- The tokens of the member of the aliases, where there are any.
use Rattle.std.specs.Prelude.{ℕ, List, [], ◌∷◌, codes}
use Rattle.json.specs.Token as token
use Rattle.json.specs.Token.{Token}
use Rattle.json_forms.specs.ListDocument.{strings}
use Rattle.json_forms.specs.TreeTokens.{tree_tokens}

abbrev pub alias_tokens : List (List ℕ) → List Token
alias_tokens [] = []
alias_tokens (alias ∷ aliases) =
    token.key (codes "aliases") ∷ tree_tokens (strings (alias ∷ aliases))
