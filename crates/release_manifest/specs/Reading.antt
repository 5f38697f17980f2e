-- The manifest of a text, and the fault of one that has none.
use Rattle.std.specs.Prelude.{◌≡◌, ℕ, ◌≤◌, List, length, nat_le, if◌then◌else◌, Option, None, Some}
use Rattle.std.specs.Prelude.{Result, Ok, Err, ◌≢◌}
use Rattle.std.specs.Option.{option_map_or, option_and_then}
use Rattle.std.specs.Str.{is_utf8}
use Rattle.json.specs.Json.{Json, if_last, value}
use Rattle.json.specs.Lex.{tokens}
use Rattle.release_manifest.specs.Checks.{Check, first_failing, document_fault}
use Rattle.release_manifest.specs.Meaning.{IsManifest}
use Rattle.release_manifest.specs.declared.manifest_fault.ManifestFault.{ManifestFault}
use Rattle.release_manifest.specs.declared.manifest_fault.ManifestFault.TheVariants as fault
use Rattle.release_manifest.specs.declared.manifest_type.Manifest.{Manifest}
use Rattle.release_manifest.specs.declared.manifest_type.TheConstants.{MOST_BYTES, MOST_DEPTH}

-- the JSON value that a text is, whose arrays and objects nest no deeper than they may
unfoldable pub document : List ℕ → Option Json
document text = option_and_then (λ p. if_last p.0 p.1) (value MOST_DEPTH (tokens text))

-- the JSON value that the bytes are, which have to be UTF-8
unfoldable pub value_in : List ℕ → Option Json
value_in text = if is_utf8 text then document text else None

-- why a text is no manifest: it is too long, it is no value, or its value has a fault
unfoldable pub manifest_text_fault : List ℕ → Option ManifestFault
manifest_text_fault text =
    if nat_le (length text) MOST_BYTES
    then option_map_or document_fault (value_in text) (Some fault.Syntax)
    else Some fault.Long

-- the text is this manifest
pub record IsManifestText (text : List ℕ) (m : Manifest) : Type 0 where
  pub fits : length text ≤ MOST_BYTES
  pub value : Json
  pub reads : value_in text ≡ Some value
  pub is : IsManifest value m

-- What a function judged of checks: where it gave a value each passes, and a fault is that of the
-- first that does not, unless memory ran out.
abbrev pub JudgesChecks : {T : Type 0} → Result T ManifestFault → List Check → Type 0
JudgesChecks (Ok x) checks = first_failing checks ≡ None
JudgesChecks (Err e) checks = e ≢ fault.NoMemory → first_failing checks ≡ Some e

-- A text was read as its value, or there is none, unless memory ran out.
abbrev pub ReadsDocument : {T : Type 0} → (T → Json) → List ℕ → Result T ManifestFault → Type 0
ReadsDocument view text (Ok v) = document text ≡ Some (view v)
ReadsDocument view text (Err e) = e ≢ fault.NoMemory → (e ≡ fault.Syntax) × (document text ≡ None)

-- Bytes were read as their value, or there is none, unless memory ran out.
abbrev pub ReadsValue : {T : Type 0} → (T → Json) → List ℕ → Result T ManifestFault → Type 0
ReadsValue view text (Ok v) = value_in text ≡ Some (view v)
ReadsValue view text (Err e) = e ≢ fault.NoMemory → (e ≡ fault.Syntax) × (value_in text ≡ None)
