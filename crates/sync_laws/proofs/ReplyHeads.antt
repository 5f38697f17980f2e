-- The head that a reply is written with, and that it states the length of the body.
use Rattle.std.proofs.Common.{◌≡◌, ℕ, ◌+◌, ◌<◌, ◌^◌, ◌||◌, List, [], ◌∷◌, ◌++◌, length, map, Bool, true, false, cond, not, codes, Option, None, Some}
use Rattle.std.proofs.Common.{All, ap, arith, decimal, refl, ◌∙◌}
use Rattle.std.specs.Char.{is_ascii_digit}
use Rattle.std.specs.List.{AllByRecursion, list_all}
use Rattle.std.specs.Str.Parse.{digits_value}
use Rattle.std.proofs.lemmas.Fmt.{decimal_is_IsNumeral}
use Rattle.std.proofs.lemmas.List.Elements.{All-cons, All-nil}
use Rattle.std.proofs.lemmas.List.Sums.{AllPass-from_list_all}
use Rattle.http.specs.StatusCode.{code_digits}
use Rattle.httparse.specs.Grammar.{IsField, ReadsResponse, ResponseHead, is_token_byte, is_value_byte}
use Rattle.httparse.specs.Grammar.{trim_ows}
use Rattle.httparse.specs.Spans.{name_and_value}
use Rattle.http_answer.specs.Replies.{allow_lines, close_lines, fixed, is_unchanged, length_lines, location_lines, media_type, message, phrase}
use Rattle.http_answer.specs.Replies.{reply, status_line, tag_lines, type_lines}
use Rattle.http_answer.specs.declared.answer.Answer.{Answer}
use Rattle.http_answer.specs.declared.answer.Kind.{Kind}
use Rattle.http_answer.specs.declared.answer.Kind.TheVariants as kind
use Rattle.http_client.specs.Replies.{Sized, Unread, framed_by_size, framing}
use Rattle.mirror_world.proofs.Values.{digits_pass, number_digits, number_is, trimmed}
use Rattle.mirror_world.proofs.WrittenHeads.{Pair, close_token, field_of, head_of, length_token, line_of, media_passes, printed, tag_token, type_token, vary_token}
use Rattle.sync_laws.proofs.ReplySizes.{IsShortAnswer, IsShortTag, IsWrittenStatus}

-- ---- fields

-- a name of token bytes, and a value
record IsPair (pair : Pair) : Type 0 where
  some : 0 < length pair.0
  name : list_all is_token_byte pair.0 ≡ true
  value : list_all is_value_byte pair.1 ≡ true

pair_field : (pair : Pair) → IsPair pair → IsField (field_of pair)
pair_field pair is = record {
  name = (is.some, AllPass-from_list_all is_token_byte pair.0 is.name);
  raw = AllPass-from_list_all is_value_byte (32 ∷ pair.1) is.value;
}

pair_fields : (pairs : List Pair) → AllByRecursion IsPair pairs → All IsField (map field_of pairs)
pair_fields [] all = All-nil IsField
pair_fields (p ∷ ps) all = All-cons IsField (field_of p) (map field_of ps) (pair_field p all.0) (pair_fields ps all.1)

-- the bytes are a head, which states the length of the body, and the body
pub record HasSizedHead (bytes : List ℕ) (status : ℕ) (body : List ℕ) : Type 0 where
  pub head : ResponseHead
  pub reads : ReadsResponse bytes head body
  pub code : digits_value 10 head.digits ≡ status
  pub sized : framing (map name_and_value head.fields) ≡ Sized (length body)

with_head : (status : ℕ) (pairs : List Pair) (body bytes : List ℕ) → IsWrittenStatus status → AllByRecursion IsPair pairs
    → bytes ≡ message (status_line status ∷ map line_of pairs) body → framing (map name_and_value (map field_of pairs)) ≡ Sized (length body)
    → digits_value 10 (code_digits status) ≡ status
    → HasSizedHead bytes status body
with_head status pairs body bytes written all is sized code = record {
  head = head_of status pairs;
  reads = (
    record {
      minor = omega arith;
      digits = (written.three, AllPass-from_list_all is_ascii_digit (code_digits status) written.digits);
      reason = AllPass-from_list_all is_value_byte (phrase status) written.value;
      fields = pair_fields pairs all;
    },
    is ∙ printed status pairs body,
  );
  code = code;
  sized = sized;
}

-- ---- the names

named : (name value : List ℕ) → 0 < length name → list_all is_token_byte name ≡ true → list_all is_value_byte value ≡ true → IsPair (name, value)
named name value some token passes = record { some = some; name = token; value = passes }

allow_token : list_all is_token_byte (codes "Allow") ≡ true
unfolding is_token_byte
allow_token = refl

-- ---- an answer with a body

abbrev close_pairs : Bool → List Pair
close_pairs true = (codes "Connection", codes "close") ∷ []
close_pairs false = []

-- by the length, as a text
abbrev size_pairs : List ℕ → Bool → List Pair
size_pairs size close = (codes "Content-Length", size) ∷ close_pairs close

abbrev pairs_of : Kind → Option (List ℕ) → List ℕ → Bool → List Pair
pairs_of k None size close = (codes "Content-Type", media_type k) ∷ size_pairs size close
pairs_of k (Some tag) size close =
    (codes "Content-Type", media_type k) ∷ (codes "ETag", tag) ∷ (codes "Vary", codes "Accept") ∷ size_pairs size close

lines_are : (k : Kind) (tag : Option (List ℕ)) (body : List ℕ) (close : Bool)
    → type_lines (Some k) ++ (tag_lines tag ++ (location_lines false ++ (length_lines body ++ close_lines close)))
    ≡ map line_of (pairs_of k tag (decimal (length body)) close)
unfolding type_lines tag_lines location_lines length_lines close_lines
lines_are k None body true = refl
lines_are k None body false = refl
lines_are k (Some tag) body true = refl
lines_are k (Some tag) body false = refl

size_pass : (size : List ℕ) (close : Bool) → list_all is_value_byte size ≡ true → AllByRecursion IsPair (size_pairs size close)
size_pass size true s = (
  named (codes "Content-Length") size (omega arith) length_token s,
  (named (codes "Connection") (codes "close") (omega arith) close_token refl, tt),
)
size_pass size false s = (named (codes "Content-Length") size (omega arith) length_token s, tt)

pairs_pass : (k : Kind) (tag : Option (List ℕ)) (size : List ℕ) (close : Bool) → IsShortTag tag → list_all is_value_byte size ≡ true
    → AllByRecursion IsPair (pairs_of k tag size close)
pairs_pass k None size close t s =
    (named (codes "Content-Type") (media_type k) (omega arith) type_token (media_passes k), size_pass size close s)
pairs_pass k (Some tag) size close t s = (
  named (codes "Content-Type") (media_type k) (omega arith) type_token (media_passes k),
  (
    named (codes "ETag") tag (omega arith) tag_token t.1,
    (named (codes "Vary") (codes "Accept") (omega arith) vary_token refl, size_pass size close s),
  ),
)

framed : (k : Kind) (tag : Option (List ℕ)) (size : List ℕ) (close : Bool)
    → framing (map name_and_value (map field_of (pairs_of k tag size close))) ≡ framed_by_size (trim_ows (32 ∷ size))
unfolding framing
framed k None size true = refl
framed k None size false = refl
framed k (Some tag) size true = refl
framed k (Some tag) size false = refl

sized : (k : Kind) (tag : Option (List ℕ)) (n : ℕ) (close : Bool) → n < 2 ^ 64
    → framing (map name_and_value (map field_of (pairs_of k tag (decimal n) close))) ≡ Sized n
sized k tag n close small =
    framed k tag (decimal n) close ∙ ap framed_by_size (trimmed (decimal n) (number_digits n small))
    ∙ ap (λ t. cond t (Sized (digits_value 10 (decimal n))) Unread) (number_is n small) ∙ ap Sized (decimal_is_IsNumeral n small).1

-- the lines of an answer whose status is not 304
written_so : (a : Answer) (close : Bool) (k : Kind) → is_unchanged a.status ≡ false → a.kind ≡ Some k → a.moved ≡ false
    → reply a false close ≡ message (status_line a.status ∷ map line_of (pairs_of k a.tag (decimal (length a.body)) close)) a.body
unfolding reply
written_so a close k changed typed moved =
    let lines : Bool → Option Kind → Bool → List (List ℕ) =
    λ t o m. cond t [] (type_lines o) ++ (tag_lines a.tag ++ (location_lines m ++ (cond t [] (length_lines a.body) ++ close_lines close)))
    in
    ap (λ t. message (status_line a.status ∷ lines t a.kind a.moved) (cond (t || false) [] a.body)) changed
    ∙ ap (λ o. message (status_line a.status ∷ lines false o a.moved) a.body) typed
    ∙ ap (λ m. message (status_line a.status ∷ lines false (Some k) m) a.body) moved
    ∙ ap (λ ls. message (status_line a.status ∷ ls) a.body) (lines_are k a.tag a.body close)

pub reply_head : (a : Answer) (close : Bool) → IsShortAnswer a → digits_value 10 (code_digits a.status) ≡ a.status → HasSizedHead (reply a false close) a.status a.body
reply_head a close short code =
    let few = short.body in
    let small : length a.body < 2 ^ 64 = omega (arith, few) in
    let pairs = pairs_of short.media a.tag (decimal (length a.body)) close in
    with_head a.status pairs a.body (reply a false close) short.written
    (pairs_pass short.media a.tag (decimal (length a.body)) close short.tag (digits_pass (decimal (length a.body)) (number_digits (length a.body) small)))
    (written_so a close short.media short.written.changed short.typed short.moved) (sized short.media a.tag (length a.body) close small) code

-- ---- a refusal without a body

fixed_with : (status : ℕ) (pairs : List Pair) → IsWrittenStatus status → AllByRecursion IsPair pairs
    → allow_lines status ++ codes "Content-Length: 0" ∷ codes "Connection: close" ∷ [] ≡ map line_of pairs
    → framing (map name_and_value (map field_of pairs)) ≡ Sized 0 → digits_value 10 (code_digits status) ≡ status → HasSizedHead (fixed status) status []
unfolding fixed
fixed_with status pairs written all lines is code =
    with_head status pairs [] (fixed status) written all (ap (λ ls. message (status_line status ∷ ls) []) lines) is code

abbrev last_pairs : List Pair
last_pairs = (codes "Content-Length", codes "0") ∷ (codes "Connection", codes "close") ∷ []

last_pass : AllByRecursion IsPair last_pairs
last_pass = (
  named (codes "Content-Length") (codes "0") (omega arith) length_token refl,
  (named (codes "Connection") (codes "close") (omega arith) close_token refl, tt),
)

last_sized : framing (map name_and_value (map field_of last_pairs)) ≡ Sized 0
unfolding framing trim_ows
last_sized = refl

pub fixed_head : (status : ℕ) → IsWrittenStatus status → allow_lines status ≡ [] → digits_value 10 (code_digits status) ≡ status
    → HasSizedHead (fixed status) status []
fixed_head status written none code =
    fixed_with status last_pairs written last_pass (ap (λ ls. ls ++ codes "Content-Length: 0" ∷ codes "Connection: close" ∷ []) none) last_sized code

-- with the methods that are served
pub method_head : IsWrittenStatus 405 → HasSizedHead (fixed 405) 405 []
unfolding framing trim_ows
method_head written =
    fixed_with 405 ((codes "Allow", codes "GET, HEAD") ∷ last_pairs) written (named (codes "Allow") (codes "GET, HEAD") (omega arith) allow_token refl, last_pass)
    refl refl refl
