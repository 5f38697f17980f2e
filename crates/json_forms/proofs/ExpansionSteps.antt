-- The text of an expansion, observance by observance.
use Rattle.std.proofs.Common.{◌≡◌, ℕ, ℤ, Bool, true, false, List, [], ◌∷◌, ◌++◌, flat_map, map, fold, refl, sym, ap, ap₂, ◌∙◌, append_assoc}
use Rattle.std.proofs.lemmas.List.{map-append, flat_map_more}
use Rattle.json.specs.Print.{ends, ends_value, print, print_from}
use Rattle.json.specs.Token as token
use Rattle.json.specs.Token.{Token}
use Rattle.json.specs.Written.{Written}
use Rattle.json.proofs.Printed.Tokens.{print_from-append}
use Rattle.serde_json.specs.Data.{Data}
use Rattle.serde_json.specs.Written.{compact_text}
use Rattle.td_civil.specs.declared.local_time.Observance.{Observance}
use Rattle.json_forms.specs.Begun.{expansion_opening, expansion_tokens, IsExpansionBegun, TextSoFar}
use Rattle.json_forms.specs.ExpansionDocument.{observance_data}
use Rattle.json_forms.specs.TreeTokens.{tree_tokens, rest_tokens}
use Rattle.json_forms.proofs.Begun.{begun_ended}

ends-append : (c : Bool) (ts us : List Token) → fold (λ _ t. ends t) c (ts ++ us) ≡ fold (λ _ t. ends t) (fold (λ _ t. ends t) c ts) us
ends-append c [] us = refl
ends-append c (t ∷ ts) us = ends-append (ends t) ts us

-- the tokens of one more observance
tokens_more : (until : ℤ) (os : List Observance) (o : Observance)
    → expansion_tokens until os ++ tree_tokens (observance_data o) ≡ expansion_tokens until (os ++ o ∷ [])
tokens_more until os o =
    flat_map_more tree_tokens (expansion_opening until) (map observance_data os) (observance_data o)
    ∙ ap (λ ds. expansion_opening until ++ flat_map tree_tokens ds) (sym (map-append observance_data os (o ∷ [])))

-- it ends with a value
observance_ends : (c : Bool) (o : Observance) → true ≡ fold (λ _ t. ends t) c (tree_tokens (observance_data o))
unfolding observance_data
observance_ends c o = refl

pub expansion_more : (before : List ℕ) (until : ℤ) (os : List Observance) (o : Observance) (old : TextSoFar) (text : List ℕ)
    → IsExpansionBegun before until os old
    → text ≡ old.text ++ print_from old.after_value (tree_tokens (observance_data o))
    → IsExpansionBegun before until (os ++ o ∷ []) (record { text = text; after_value = true })
expansion_more before until os o old text h written =
    let ts = expansion_tokens until os in
    let us = tree_tokens (observance_data o) in
    record {
      so_far =
          written ∙ ap₂ (λ s b. s ++ print_from b us) h.so_far h.place
          ∙ append_assoc before (print ts) _
          ∙ ap (λ s. before ++ s) (sym (print_from-append false ts us) ∙ ap print (tokens_more until os o));
      place = observance_ends (ends_value ts) o ∙ sym (ends-append false ts us) ∙ ap ends_value (tokens_more until os o);
    }

-- a closing bracket has no comma before it
closes : (b : Bool) (ts : List Token) → print_from false (token.end_array ∷ ts) ≡ print_from b (token.end_array ∷ ts)
unfolding print_from
closes true ts = refl
closes false ts = refl

pub expansion_ended : (d : Data) (before : List ℕ) (until : ℤ) (os : List Observance) (w : TextSoFar) (closing : List Token) (text : List ℕ)
    → tree_tokens d ≡ expansion_opening until ++ (rest_tokens (map observance_data os) ++ closing)
    → IsExpansionBegun before until os w
    → text ≡ w.text ++ print (token.end_array ∷ closing)
    → text ≡ before ++ compact_text d
expansion_ended d before until os w closing text parts h written =
    let ts = expansion_tokens until os in
    let us = token.end_array ∷ closing in
    let so_far : Written = record { before = before; tokens = ts; spare = 0 } in
    let whole : text ≡ before ++ print (ts ++ us) =
    written ∙ ap₂ (λ s b. s ++ b) h.so_far (closes (ends_value ts) closing)
    ∙ append_assoc before (print ts) _ ∙ ap (λ s. before ++ s) (sym (print_from-append false ts us)) in
    begun_ended d before (expansion_opening until) closing (map observance_data os) so_far before text text (ts ++ us) parts
    (record { after = refl; so_far = refl }) refl refl whole refl
