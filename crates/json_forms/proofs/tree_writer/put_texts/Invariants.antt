use Rattle.std.proofs.Common.{◌≡◌, ◌++◌, ◌∷◌, map, drop}
use Rattle.std.specs.List.{AllByRecursion}
use Rattle.json.specs.Token.{begin_array}
use Rattle.serde_json.specs.Data.{string}
use Rattle.td_base.specs.Names.{IsPlain}
use Rattle.json_forms.specs.TreeTokens.{rest_tokens}
use Rattle.json_forms.proofs.tree_writer.put_texts.Given as goal

abbrev pub invariant-loop-text : goal.invariant-loop-text
invariant-loop-text l = record {
  written : l.out.tokens ++ rest_tokens (map string (drop l.text-index l.texts)) ≡ l.fn.out.tokens ++ begin_array ∷ rest_tokens (map string l.fn.texts);
  plain : AllByRecursion IsPlain (drop l.text-index l.texts);
  before : l.out.before ≡ l.fn.out.before;
}
