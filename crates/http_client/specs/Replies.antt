-- What bytes are as a reply of HTTP/1.x (RFC 9112, sections 4 to 6): a status with a body, or none
-- from a place on.
use Rattle.std.specs.Prelude.{◌≡◌, ℕ, ◌≤◌, ◌==◌, ◌&&◌, not, List, [], ◌∷◌, length, map, Bool}
use Rattle.std.specs.Prelude.{if◌then◌else◌, codes, Option, None, Some, Result, Ok, Err}
use Rattle.std.specs.Char.{is_ascii_digit}
use Rattle.std.specs.List.{list_all}
use Rattle.std.specs.Str.Parse.{digits_value}
use Rattle.httparse.specs.Grammar.{ReadsResponse, ResponseHead, print_response, status_code}
use Rattle.httparse.specs.Spans.{name_and_value}
use Rattle.td_base.specs.Texts.{field_values}
use Rattle.http_client.specs.declared.limits.TheConstants.{MOST_FIELDS}
use Rattle.http_client.specs.declared.reply.BadReply.{BadReply}
use Rattle.http_client.specs.declared.reply.BadReply.TheVariants as bad
use Rattle.http_client.specs.declared.reply.Reply.{Reply}

-- how a head tells where the body ends: in no way that is read, with the bytes, or by its length
pub data Framing : Type 0 where
  Unread : Framing
  ToTheEnd : Framing
  Sized : ℕ → Framing

-- one or more digits
abbrev pub is_digit_text : List ℕ → Bool
is_digit_text value = not (length value == 0) && list_all is_ascii_digit value

abbrev pub framed_by_size : List ℕ → Framing
framed_by_size value = if is_digit_text value then Sized (digits_value 10 value) else Unread

-- by the values of Content-Length, of which there is one at the most
abbrev pub sized_by : List (List ℕ) → Framing
sized_by [] = ToTheEnd
sized_by (value ∷ []) = framed_by_size value
sized_by (value ∷ other ∷ values) = Unread

-- and no Transfer-Encoding is read
unfoldable pub framing : List (List ℕ × List ℕ) → Framing
framing pairs =
    if length (field_values (codes "transfer-encoding") pairs) == 0
    then sized_by (field_values (codes "content-length") pairs) else Unread

-- from where on a head of so many bytes with a body of so many is no reply: from the start, where
-- the head does not tell the body's end, and from the body on, where that has another length
abbrev pub fault_place : Framing → ℕ → ℕ → Option ℕ
fault_place Unread head body = Some 0
fault_place ToTheEnd head body = None
fault_place (Sized n) head body = if n == body then None else Some head

abbrev pub reply_unless : Option ℕ → Reply → Result Reply BadReply
reply_unless None reply = Ok reply
reply_unless (Some place) reply = Err (bad.BadReply place)

-- the reply that a head and all that follows it are
abbrev pub reply_of : ResponseHead → List ℕ → Result Reply BadReply
reply_of h body =
    reply_unless
    (fault_place (framing (map name_and_value h.fields)) (length (print_response h)) (length body))
    (record { status = status_code h; body = body })

-- the bytes are a head with few fields, and then the rest
abbrev pub HasReplyHead : List ℕ → ResponseHead → List ℕ → Type 0
HasReplyHead bytes h rest = ReadsResponse bytes h rest × (length h.fields ≤ MOST_FIELDS)

abbrev pub HasNoReplyHead : List ℕ → Type 0
HasNoReplyHead bytes = (h : ResponseHead) (rest : List ℕ) → ¬ (HasReplyHead bytes h rest)

-- what the bytes are: none from the start, where no head is there, or what a head and the rest are
pub data IsReading (bytes : List ℕ) (result : Result Reply BadReply) : Type 0 where
  headless : HasNoReplyHead bytes → result ≡ Err (bad.BadReply 0) → IsReading bytes result
  headed : (h : ResponseHead) (rest : List ℕ) → HasReplyHead bytes h rest → result ≡ reply_of h rest
      → IsReading bytes result
