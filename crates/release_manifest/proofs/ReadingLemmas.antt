-- From bytes to a manifest.
use Rattle.std.proofs.Common.{◌≡◌, ◌≢◌, ◌<◌, ◌≤◌, ℕ, Bool, true, false, cond, List, [], ◌∷◌, length, refl, sym, ap, ◌∙◌, Option, None, Some, Result, Ok, Err, IfOk}
use Rattle.std.proofs.Common.{IfErr, IsErrAnd, IsUtf8, nat_le, arith, subst, ◌⊎◌, inl, inr}
use Rattle.std.specs.Option.{option_map_or, option_and_then}
use Rattle.std.proofs.lemmas.Str.{IsUtf8-from_is_utf8, is_utf8-from_IsUtf8}
use Rattle.std.proofs.lemmas.Option.{same_Some}
use Rattle.json.specs.Json.{Json, if_last, value}
use Rattle.json.specs.Lex.{tokens}
use Rattle.json.specs.Token.{Token}
use Rattle.json.specs.declared.error.Error.{Error}
use Rattle.json.specs.declared.error.Error.TheVariants as unread
use Rattle.release_manifest.specs.Checks.{document_fault, manifest_checks}
use Rattle.release_manifest.specs.Reading.{document, value_in, manifest_text_fault, JudgesChecks, IsManifestText, ReadsDocument, ReadsValue}
use Rattle.release_manifest.specs.Meaning.{IsManifest}
use Rattle.release_manifest.specs.declared.manifest_type.Manifest.{Manifest}
use Rattle.release_manifest.specs.declared.manifest_type.TheConstants.{MOST_BYTES, MOST_DEPTH}
use Rattle.release_manifest.proofs.MeaningLemmas.{cond_none, no_fault, has_manifest, one_manifest}
use Rattle.release_manifest.specs.declared.manifest_fault.ManifestFault.{ManifestFault}
use Rattle.release_manifest.specs.declared.manifest_fault.ManifestFault.TheVariants as fault

-- ---- a document, from its tokens

-- one value, and nothing after it
pub whole_read : (text : List ℕ) (d : Json) (rest : List Token) → value MOST_DEPTH (tokens text) ≡ Some (d, rest) → rest ≡ []
    → document text ≡ Some d
unfolding document
whole_read text d rest reads none = rw (reads, none)

-- a value, and more after it
pub more_left : (text : List ℕ) (d : Json) (t : Token) (ts rest : List Token) → value MOST_DEPTH (tokens text) ≡ Some (d, rest)
    → rest ≡ t ∷ ts → document text ≡ None
unfolding document
more_left text d t ts rest reads more = rw (reads, more)

-- no value
no_document : (text : List ℕ) → value MOST_DEPTH (tokens text) ≡ None → document text ≡ None
unfolding document
no_document text none = rw none

-- An error of the reader that is not of memory, nor of a kind that never comes, is that of no value.
pub none_read : (text : List ℕ) (e : Error) → e ≢ unread.OutOfMemory → e ≢ unread.TooLong → e ≢ unread.DuplicateKey
    → (e ≡ unread.Invalid → value MOST_DEPTH (tokens text) ≡ None) → document text ≡ None
none_read text unread.Invalid memory long twice none = no_document text (none refl)
none_read text unread.OutOfMemory memory long twice none = absurd (memory refl)
none_read text unread.TooLong memory long twice none = absurd (long refl)
none_read text unread.DuplicateKey memory long twice none = absurd (twice refl)

-- ---- bytes

bytes_are : (text : List ℕ) → IsUtf8 text → value_in text ≡ document text
unfolding value_in
bytes_are text utf8 = rw (is_utf8-from_IsUtf8 text utf8)

-- bytes whose text was read
pub bytes_read : {T : Type 0} (view : T → Json) (text : List ℕ) (r : Result T ManifestFault) → IsUtf8 text → ReadsDocument view text r
    → ReadsValue view text r
bytes_read view text (Ok v) utf8 reads = bytes_are text utf8 ∙ reads
bytes_read view text (Err e) utf8 reads = λ n. let parts = reads n in (parts.0, bytes_are text utf8 ∙ parts.1)

chosen_none : (b : Bool) (o : Option Json) → (b ≡ true → o ≡ None) → cond b o None ≡ None
chosen_none true o h = h refl
chosen_none false o h = refl

pub value_refused : (text : List ℕ) → (IsUtf8 text → document text ≡ None) → value_in text ≡ None
unfolding value_in
value_refused text refused = chosen_none _ _ (λ t. refused (IsUtf8-from_is_utf8 text t))

pub too_long : (text : List ℕ) → MOST_BYTES < length text → manifest_text_fault text ≡ Some fault.Long
unfolding manifest_text_fault
too_long text h = grind arith

pub no_value : (text : List ℕ) → length text ≤ MOST_BYTES → value_in text ≡ None → manifest_text_fault text ≡ Some fault.Syntax
unfolding manifest_text_fault
no_value text h none = let e : nat_le (length text) MOST_BYTES ≡ true = grind arith in rw (e, none)

pub of_value : (text : List ℕ) (d : Json) → length text ≤ MOST_BYTES → value_in text ≡ Some d → manifest_text_fault text ≡ document_fault d
unfolding manifest_text_fault
of_value text d h some = let e : nat_le (length text) MOST_BYTES ≡ true = grind arith in rw (e, some)

-- an error that is handed on
pub handed_on : {T : Type 0} (P : ManifestFault → Type 0) (r : Result T ManifestFault) (e : ManifestFault) → IsErrAnd r (λ y. y ≡ e)
    → P e → IfErr r P
handed_on P (Ok x) e handed p = absurd handed
handed_on P (Err y) e handed p = subst P (sym handed) p

-- what an error of a text may be
abbrev pub IsFaultOf : List ℕ → ManifestFault → Type 0
IsFaultOf text e = e ≢ fault.NoMemory → manifest_text_fault text ≡ Some e

pub syntax_fault : (text : List ℕ) (e : ManifestFault) → length text ≤ MOST_BYTES
    → (e ≢ fault.NoMemory → (e ≡ fault.Syntax) × (value_in text ≡ None)) → IsFaultOf text e
syntax_fault text e fits refused n =
    let parts = refused n in
    no_value text fits parts.1 ∙ ap Some (sym parts.0)

pub member_fault : {T : Type 0} (text : List ℕ) (d : Json) (r : Result T ManifestFault) → length text ≤ MOST_BYTES
    → value_in text ≡ Some d → JudgesChecks r (manifest_checks d) → IfErr r (IsFaultOf text)
unfolding document_fault
member_fault text d (Ok x) fits some judged = tt
member_fault text d (Err e) fits some judged = λ n. of_value text d fits some ∙ judged n

pub manifest_found : (text : List ℕ) (d : Json) (r : Result Manifest ManifestFault) → length text ≤ MOST_BYTES
    → value_in text ≡ Some d → IfOk r (λ m. IsManifest d m) → IfOk r (IsManifestText text)
manifest_found text d (Ok m) fits some is = record { fits = fits; value = d; reads = some; is = is }
manifest_found text d (Err e) fits some is = tt

-- ---- laws of texts

pub text_no_fault : (text : List ℕ) (m : Manifest) → IsManifestText text m → manifest_text_fault text ≡ None
text_no_fault text m is = of_value text is.value is.fits is.reads ∙ no_fault is.value m is.is

pub one_text_manifest : (text : List ℕ) (m n : Manifest) → IsManifestText text m → IsManifestText text n → m ≡ n
one_text_manifest text m n p q =
    let same : p.value ≡ q.value = same_Some p.value q.value (sym p.reads ∙ q.reads) in
    one_manifest q.value m n (subst (λ d. IsManifest d m) same p.is) q.is

apart : (o : Option ManifestFault) (e : ManifestFault) → o ≡ None → o ≡ Some e → ⊥
apart o e p q = let h : None ≡ Some e = sym p ∙ q in cc

memory_or : (e : ManifestFault) → (e ≡ fault.NoMemory) ⊎ (e ≢ fault.NoMemory)
memory_or fault.NoMemory = inl refl
memory_or fault.Syntax = inr (λ h. cc)
memory_or (fault.Field at) = inr (λ h. cc)
memory_or (fault.Text at) = inr (λ h. cc)
memory_or fault.Long = inr (λ h. cc)

-- What has a manifest is read as it, unless memory runs out.
pub found_unless : (text : List ℕ) (r : Result Manifest ManifestFault) → IfOk r (IsManifestText text) → IfErr r (IsFaultOf text)
    → (m : Manifest) → IsManifestText text m → (r ≡ Ok m) ⊎ (r ≡ Err fault.NoMemory)
found_unless text (Ok x) ok err m is = inl (ap Ok (one_text_manifest text x m ok is))
found_unless text (Err e) ok err m is = elim (memory_or e) [
  | inl p ↦ inr (ap Err p)
  | inr n ↦ absurd (apart _ e (text_no_fault text m is) (err n))
]

-- What has a fault is refused with it, unless memory runs out.
pub refused_unless : (text : List ℕ) (r : Result Manifest ManifestFault) → IfOk r (IsManifestText text) → IfErr r (IsFaultOf text)
    → (f : ManifestFault) → manifest_text_fault text ≡ Some f → (r ≡ Err f) ⊎ (r ≡ Err fault.NoMemory)
refused_unless text (Ok x) ok err f has = absurd (apart _ f (text_no_fault text x ok) has)
refused_unless text (Err e) ok err f has = elim (memory_or e) [
  | inl p ↦ inr (ap Err p)
  | inr n ↦ inl (ap Err (same_Some e f (sym (err n) ∙ has)))
]

fault_free : (o : Option Json) → option_map_or document_fault o (Some fault.Syntax) ≡ None → (d : Json) × (o ≡ Some d) × (document_fault d ≡ None)
fault_free None h = cc
fault_free (Some d) h = (d, refl, h)

-- What has no fault has a manifest.
pub text_manifest : (text : List ℕ) → manifest_text_fault text ≡ None → (m : Manifest) × IsManifestText text m
unfolding manifest_text_fault
text_manifest text h =
    let parts = cond_none (nat_le (length text) MOST_BYTES) (option_map_or document_fault (value_in text) (Some fault.Syntax)) fault.Long h in
    let free = fault_free (value_in text) parts.1 in
    let found = has_manifest free.0 free.2 in
    (found.0, record { fits = grind (arith, parts.0); value = free.0; reads = free.1; is = found.1 })
