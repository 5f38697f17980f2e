-- A reply is read as the answer that it is written for.
use Rattle.std.proofs.Common.{◌≡◌, ℕ, ◌+◌, ◌<◌, ◌≤◌, ◌^◌, ◌⊎◌, inl, inr, List, [], ◌∷◌, ◌++◌, length, map, Bool, true, false, ◌||◌, cond, codes, Option, None}
use Rattle.std.proofs.Common.{Some, Ok, refl, sym}
use Rattle.std.proofs.Common.{ap, ◌∙◌, subst, arith, length-append, All}
use Rattle.std.specs.Prelude.{⊤, decimal}
use Rattle.std.specs.Char.{is_ascii_digit}
use Rattle.std.specs.List.{list_all}
use Rattle.std.specs.Str.Parse.{digits_value}
use Rattle.std.proofs.lemmas.Bool.{eq-eqb}
use Rattle.std.proofs.lemmas.Fmt.{decimal_is_IsNumeral}
use Rattle.std.proofs.lemmas.List.Elements.{All-cons, All-nil}
use Rattle.std.proofs.lemmas.List.Sums.{AllPass-from_list_all}
use Rattle.http.specs.StatusCode.{code_digits}
use Rattle.httparse.specs.Grammar.{Field, IsField, IsResponseHead, is_token_byte, is_value_byte, print_response, trim_ows}
use Rattle.httparse.specs.Spans.{name_and_value}
use Rattle.http_answer.specs.Replies.{close_lines, is_unchanged, length_lines, location_lines, media_type, message, phrase, reply, status_line}
use Rattle.http_answer.specs.Replies.{tag_lines, type_lines}
use Rattle.http_answer.specs.declared.answer.Answer.{Answer}
use Rattle.http_answer.specs.declared.answer.Kind.{Kind}
use Rattle.http_answer.specs.declared.answer.Kind.TheVariants as kind
use Rattle.http_client.specs.Replies.{IsReading, Sized, Unread, fault_place, framing, headed, reply_of, reply_unless, framed_by_size}
use Rattle.http_client.specs.declared.reply.Reply.{Reply}
use Rattle.mirror_world.proofs.WrittenHeads.{Pair, close_token, field_of, head_of, length_token, line_of, media_passes, printed, tag_token, type_token, vary_token}
use Rattle.mirror_world.proofs.Values.{digits_pass, number_digits, number_is, trimmed}

-- ---- answers with a body, and what their statuses are written as

abbrev pub IsPlainStatus : ℕ → Type 0
IsPlainStatus status = (status ≡ 200) ⊎ (status ≡ 400) ⊎ (status ≡ 404) ⊎ (status ≡ 406)

abbrev pub TagPasses : Option (List ℕ) → Type 0
TagPasses None = ⊤
TagPasses (Some tag) = list_all is_value_byte tag ≡ true

abbrev pub plain : ℕ → Kind → Option (List ℕ) → List ℕ → Answer
plain status k tag body = record { status = status; kind = Some k; tag = tag; moved = false; body = body }

record Facts (status : ℕ) : Type 0 where
  changed : is_unchanged status ≡ false
  three : length (code_digits status) ≡ 3
  digits : list_all is_ascii_digit (code_digits status) ≡ true
  phrase : list_all is_value_byte (phrase status) ≡ true
  value : digits_value 10 (code_digits status) ≡ status

facts_200 : Facts 200
unfolding phrase
facts_200 = record { changed = refl; three = refl; digits = refl; phrase = refl; value = refl }

facts_400 : Facts 400
unfolding phrase
facts_400 = record { changed = refl; three = refl; digits = refl; phrase = refl; value = refl }

facts_404 : Facts 404
unfolding phrase
facts_404 = record { changed = refl; three = refl; digits = refl; phrase = refl; value = refl }

facts_406 : Facts 406
unfolding phrase
facts_406 = record { changed = refl; three = refl; digits = refl; phrase = refl; value = refl }

facts : (status : ℕ) → IsPlainStatus status → Facts status
facts status (inl e) = subst Facts (sym e) facts_200
facts status (inr (inl e)) = subst Facts (sym e) facts_400
facts status (inr (inr (inl e))) = subst Facts (sym e) facts_404
facts status (inr (inr (inr e))) = subst Facts (sym e) facts_406

-- ---- the fields

-- by the media type and the length, as texts
abbrev pairs_of : List ℕ → Option (List ℕ) → List ℕ → Bool → List Pair
pairs_of media None size true =
    (codes "Content-Type", media) ∷ (codes "Content-Length", size) ∷ (codes "Connection", codes "close") ∷ []
pairs_of media None size false = (codes "Content-Type", media) ∷ (codes "Content-Length", size) ∷ []
pairs_of media (Some tag) size true =
    (codes "Content-Type", media) ∷ (codes "ETag", tag) ∷ (codes "Vary", codes "Accept") ∷ (codes "Content-Length", size) ∷ (codes "Connection", codes "close")
    ∷ []
pairs_of media (Some tag) size false =
    (codes "Content-Type", media) ∷ (codes "ETag", tag) ∷ (codes "Vary", codes "Accept") ∷ (codes "Content-Length", size) ∷ []

-- the lines that an answer has by whether it is unchanged
abbrev lines_by : Bool → Kind → Option (List ℕ) → List ℕ → Bool → List (List ℕ)
lines_by unchanged k tag body close =
    cond unchanged [] (type_lines (Some k)) ++ (tag_lines tag ++ (location_lines false ++ (cond unchanged [] (length_lines body) ++ close_lines close)))

lines_are : (k : Kind) (tag : Option (List ℕ)) (body : List ℕ) (close : Bool)
    → lines_by false k tag body close ≡ map line_of (pairs_of (media_type k) tag (decimal (length body)) close)
unfolding type_lines tag_lines location_lines length_lines close_lines
lines_are k None body true = refl
lines_are k None body false = refl
lines_are k (Some tag) body true = refl
lines_are k (Some tag) body false = refl

named : (name value : List ℕ) → 0 < length name → list_all is_token_byte name ≡ true → list_all is_value_byte value ≡ true → IsField (field_of (name, value))
named name value some token h =
    record { name = (some, AllPass-from_list_all is_token_byte name token); raw = AllPass-from_list_all is_value_byte (32 ∷ value) h }

module _ (media size : List ℕ) (m : list_all is_value_byte media ≡ true) (s : list_all is_value_byte size ≡ true) where
  abbrev type_pair : Pair
  type_pair = (codes "Content-Type", media)

  abbrev size_pair : Pair
  size_pair = (codes "Content-Length", size)

  abbrev close_pair : Pair
  close_pair = (codes "Connection", codes "close")

  type_field : IsField (field_of type_pair)
  type_field = named (codes "Content-Type") media (omega arith) type_token m

  size_field : IsField (field_of size_pair)
  size_field = named (codes "Content-Length") size (omega arith) length_token s

  close_field : IsField (field_of close_pair)
  close_field = named (codes "Connection") (codes "close") (omega arith) close_token refl

  last_fields : All IsField (map field_of (size_pair ∷ close_pair ∷ []))
  last_fields = All-cons IsField (field_of size_pair) (field_of close_pair ∷ []) size_field
      (All-cons IsField (field_of close_pair) [] close_field (All-nil IsField))

  last_field : All IsField (map field_of (size_pair ∷ []))
  last_field = All-cons IsField (field_of size_pair) [] size_field (All-nil IsField)

  tagged : (tag : List ℕ) (more : List Field) → list_all is_value_byte tag ≡ true → All IsField more
      → All IsField (field_of type_pair ∷ field_of (codes "ETag", tag) ∷ field_of (codes "Vary", codes "Accept") ∷ more)
  tagged tag more t h =
      All-cons IsField (field_of type_pair) (field_of (codes "ETag", tag) ∷ field_of (codes "Vary", codes "Accept") ∷ more) type_field
      (All-cons IsField (field_of (codes "ETag", tag)) (field_of (codes "Vary", codes "Accept") ∷ more) (named (codes "ETag") tag (omega arith) tag_token t)
      (All-cons IsField (field_of (codes "Vary", codes "Accept")) more (named (codes "Vary") (codes "Accept") (omega arith) vary_token refl) h))

  fields_pass : (tag : Option (List ℕ)) (close : Bool) → TagPasses tag → All IsField (map field_of (pairs_of media tag size close))
  fields_pass None true t = All-cons IsField (field_of type_pair) (map field_of (size_pair ∷ close_pair ∷ [])) type_field last_fields
  fields_pass None false t = All-cons IsField (field_of type_pair) (map field_of (size_pair ∷ [])) type_field last_field
  fields_pass (Some tag) true t = tagged tag (map field_of (size_pair ∷ close_pair ∷ [])) t last_fields
  fields_pass (Some tag) false t = tagged tag (map field_of (size_pair ∷ [])) t last_field

few : (media size : List ℕ) (tag : Option (List ℕ)) (close : Bool) → length (map field_of (pairs_of media tag size close)) ≤ 64
few media size None true = omega arith
few media size None false = omega arith
few media size (Some tag) true = omega arith
few media size (Some tag) false = omega arith

framed : (media size : List ℕ) (tag : Option (List ℕ)) (close : Bool)
    → framing (map name_and_value (map field_of (pairs_of media tag size close))) ≡ framed_by_size (trim_ows (32 ∷ size))
unfolding framing
framed media size None true = refl
framed media size None false = refl
framed media size (Some tag) true = refl
framed media size (Some tag) false = refl

-- ---- the reply

module _ (status : ℕ) (k : Kind) (tag : Option (List ℕ)) (body : List ℕ) (close : Bool) (is_plain : IsPlainStatus status) where
  abbrev pairs : List Pair
  pairs = pairs_of (media_type k) tag (decimal (length body)) close

  written : reply (plain status k tag body) false close ≡ print_response (head_of status pairs) ++ body
  unfolding reply
  written =
      let f = facts status is_plain in
      ap (λ t. message (status_line status ∷ lines_by t k tag body close) (cond (t || false) [] body)) f.changed
      ∙ ap (λ lines. message (status_line status ∷ lines) body) (lines_are k tag body close) ∙ printed status pairs body

  -- the body is no longer than the reply
  pub body_fits : length body ≤ length (reply (plain status k tag body) false close)
  body_fits =
      let is : length (reply (plain status k tag body) false close) ≡ length (print_response (head_of status pairs)) + length body =
      ap length written ∙ length-append (print_response (head_of status pairs)) body in
      omega (arith, is)

module _ (status : ℕ) (k : Kind) (tag : Option (List ℕ)) (body : List ℕ) (close : Bool) (is_plain : IsPlainStatus status) (passes : TagPasses tag)
    (small : length body < 2 ^ 64) where
  abbrev parts_of : List Pair
  parts_of = pairs_of (media_type k) tag (decimal (length body)) close

  is_head : IsResponseHead (head_of status parts_of)
  is_head =
      let f = facts status is_plain in
      record {
        minor = omega arith;
        digits = (f.three, AllPass-from_list_all is_ascii_digit (code_digits status) f.digits);
        reason = AllPass-from_list_all is_value_byte (phrase status) f.phrase;
        fields = fields_pass (media_type k) (decimal (length body)) (media_passes k)
            (digits_pass (decimal (length body)) (number_digits (length body) small)) tag close passes;
      }

  sized_is : framing (map name_and_value (map field_of parts_of)) ≡ Sized (length body)
  sized_is =
      framed (media_type k) (decimal (length body)) tag close ∙ ap framed_by_size (trimmed (decimal (length body)) (number_digits (length body) small))
      ∙ ap (λ t. cond t (Sized (digits_value 10 (decimal (length body)))) Unread) (number_is (length body) small)
      ∙ ap Sized (decimal_is_IsNumeral (length body) small).1

  abbrev read : Reply
  read = record { status = status; body = body }

  fits : (head : ℕ) → fault_place (Sized (length body)) head (length body) ≡ None
  fits head = ap (λ t. cond t None (Some head)) (eq-eqb (length body) (length body) refl)

  read_so : Ok read ≡ reply_of (head_of status parts_of) body
  read_so =
      let f = facts status is_plain in
      let head = length (print_response (head_of status parts_of)) in
      sym (ap (λ fr. reply_unless (fault_place fr head (length body)) (record { status = digits_value 10 (code_digits status); body = body })) sized_is
      ∙ ap (λ place. reply_unless place (record { status = digits_value 10 (code_digits status); body = body })) (fits head)
      ∙ ap (λ (code : ℕ). Ok (record { status = code; body = body })) f.value)

  pub is_read : IsReading (reply (plain status k tag body) false close) (Ok read)
  is_read =
      headed (head_of status parts_of) body ((is_head, written status k tag body close is_plain), few (media_type k) (decimal (length body)) tag close) read_so
