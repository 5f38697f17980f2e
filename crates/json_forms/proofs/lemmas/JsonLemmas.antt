-- From bytes to a value.
use Rattle.std.proofs.Common.{◌≡◌, ℕ, Bool, true, false, cond, List, refl, Option, None, Some, IsUtf8}
use Rattle.std.proofs.lemmas.Str.{IsUtf8-from_is_utf8, is_utf8-from_IsUtf8}
use Rattle.serde_json.specs.Data.{Data}
use Rattle.serde_json.specs.Read.{read}
use Rattle.json_forms.specs.JsonTexts.{json_in}

pub value_read : (text : List ℕ) (d : Data) → IsUtf8 text → read text ≡ Some d → json_in text ≡ Some d
unfolding json_in
value_read text d utf8 reads = rw (is_utf8-from_IsUtf8 text utf8) reads

chosen_none : (b : Bool) (o : Option Data) → (b ≡ true → o ≡ None) → cond b o None ≡ None
chosen_none true o h = h refl
chosen_none false o h = refl

pub value_refused : (text : List ℕ) → (IsUtf8 text → read text ≡ None) → json_in text ≡ None
unfolding json_in
value_refused text refused = chosen_none _ _ (λ t. refused (IsUtf8-from_is_utf8 text t))
