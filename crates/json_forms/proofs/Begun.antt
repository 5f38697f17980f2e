-- A document that is written item by item.
use Rattle.std.proofs.Common.{◌≡◌, ℕ, List, [], ◌∷◌, ◌++◌, flat_map, map, sym, ap, ap₂, ◌∙◌, append_assoc}
use Rattle.std.proofs.lemmas.List.{map-append, flat_map_more}
use Rattle.json.specs.Print.{print}
use Rattle.json.specs.Token as token
use Rattle.json.specs.Token.{Token}
use Rattle.json.specs.Written.{Written}
use Rattle.serde_json.specs.Data.{Data}
use Rattle.serde_json.specs.Written.{compact_text}
use Rattle.serde_json.proofs.Texts.{print-outline}
use Rattle.json_forms.specs.Begun.{HasBegun}
use Rattle.json_forms.specs.TreeTokens.{tree_tokens, rest_tokens}
use Rattle.json_forms.proofs.TreeTokens.{items_ended}

pub begun_more : {A : Type 0} (f : A → Data) (before : List ℕ) (opening : List Token) (xs : List A) (x : A) (old new : Written)
    → HasBegun before opening (map f xs) old → new.tokens ≡ old.tokens ++ tree_tokens (f x) → new.before ≡ old.before
    → HasBegun before opening (map f (xs ++ x ∷ [])) new
begun_more f before opening xs x old new h written kept = record {
  after = kept ∙ h.after;
  so_far =
      written ∙ ap (λ ts. ts ++ tree_tokens (f x)) h.so_far
      ∙ flat_map_more tree_tokens opening (map f xs) (f x) ∙ ap (λ ds. opening ++ flat_map tree_tokens ds) (sym (map-append f xs (x ∷ [])));
}

-- the document at its end, from what is written after the items
pub begun_ended : (d : Data) (before : List ℕ) (opening closing : List Token) (items : List Data) (w : Written) (after text whole : List ℕ) (us : List Token)
    → tree_tokens d ≡ opening ++ (rest_tokens items ++ closing) → HasBegun before opening items w
    → us ≡ w.tokens ++ token.end_array ∷ closing → after ≡ w.before → text ≡ after ++ print us → whole ≡ text → whole ≡ before ++ compact_text d
begun_ended d before opening closing items w after text whole us parts h written kept printed same =
    let tokens_are : us ≡ tree_tokens d =
    written ∙ ap (λ ts. ts ++ token.end_array ∷ closing) h.so_far
    ∙ append_assoc opening _ _ ∙ ap (λ ts. opening ++ ts) (items_ended items closing) ∙ sym parts in
    same ∙ printed ∙ ap₂ (λ b ts. b ++ print ts) (kept ∙ h.after) tokens_are ∙ ap (λ s. before ++ s) (print-outline d)
