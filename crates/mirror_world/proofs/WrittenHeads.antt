-- The head of a written reply, as the fields that a reader of responses finds in it.
use Rattle.std.proofs.Common.{◌≡◌, ℕ, List, [], ◌∷◌, ◌++◌, map, true, codes, Some, refl, sym, ap, ◌∙◌, append_assoc}
use Rattle.std.specs.List.{flat_map, list_all}
use Rattle.std.proofs.lemmas.List.Concat.{flat_map-cons}
use Rattle.http.specs.StatusCode.{code_digits}
use Rattle.httparse.specs.Grammar.{Field, ResponseHead, crlf, is_token_byte, is_value_byte, print_field, print_response}
use Rattle.http_answer.specs.Replies.{ended, media_type, message, phrase, status_line}
use Rattle.http_answer.specs.declared.answer.Kind.{Kind}
use Rattle.http_answer.specs.declared.answer.Kind.TheVariants as kind

-- ---- fields

abbrev pub Pair : Type 0
Pair = List ℕ × List ℕ

abbrev pub line_of : Pair → List ℕ
line_of pair = pair.0 ++ (58 ∷ 32 ∷ pair.1)

abbrev pub field_of : Pair → Field
field_of pair = record { name = pair.0; raw = 32 ∷ pair.1; end = crlf }

pub lines_printed : (pairs : List Pair) → flat_map ended (map line_of pairs) ≡ flat_map print_field (map field_of pairs)
lines_printed [] = refl
lines_printed (pair ∷ pairs) =
    flat_map-cons ended (line_of pair) (map line_of pairs)
    ∙ ap (λ l. print_field (field_of pair) ++ l) (lines_printed pairs) ∙ sym (flat_map-cons print_field (field_of pair) (map field_of pairs))

-- ---- names and values

pub type_token : list_all is_token_byte (codes "Content-Type") ≡ true
unfolding is_token_byte
type_token = refl

pub length_token : list_all is_token_byte (codes "Content-Length") ≡ true
unfolding is_token_byte
length_token = refl

pub tag_token : list_all is_token_byte (codes "ETag") ≡ true
unfolding is_token_byte
tag_token = refl

pub vary_token : list_all is_token_byte (codes "Vary") ≡ true
unfolding is_token_byte
vary_token = refl

pub close_token : list_all is_token_byte (codes "Connection") ≡ true
unfolding is_token_byte
close_token = refl

pub media_passes : (k : Kind) → list_all is_value_byte (media_type k) ≡ true
media_passes kind.Json = refl
media_passes kind.Problem = refl
media_passes kind.Calendar = refl
media_passes kind.Tzif = refl
media_passes kind.CalendarJson = refl

-- ---- the head

abbrev pub head_of : ℕ → List Pair → ResponseHead
head_of status pairs = record {
  blank = [];
  minor = 1;
  digits = code_digits status;
  reason = Some (phrase status);
  line_end = crlf;
  fields = map field_of pairs;
  last = crlf;
}

parts : (l e F b : List ℕ) → ((l ++ e) ++ F) ++ (e ++ b) ≡ ((l ++ e) ++ (F ++ e)) ++ b
parts l e F b = simp append_assoc

pub printed : (status : ℕ) (pairs : List Pair) (body : List ℕ)
    → message (status_line status ∷ map line_of pairs) body ≡ print_response (head_of status pairs) ++ body
unfolding print_response status_line
printed status pairs body =
    ap (λ l. l ++ (codes "\r\n" ++ body)) (flat_map-cons ended (status_line status) (map line_of pairs))
    ∙ ap (λ F. (ended (status_line status) ++ F) ++ (codes "\r\n" ++ body)) (lines_printed pairs)
    ∙ parts (status_line status) (codes "\r\n") (flat_map print_field (map field_of pairs)) body
