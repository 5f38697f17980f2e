-- What is read of a head that was parsed, and of the bytes after it.
use Rattle.std.proofs.Common.{◌≡◌, ℕ, ◌≤◌, List, length, map, take, drop, Option, None, Some, Result, Ok, Err, IfErr, sym, ap, ◌∙◌, subst, arith}
use Rattle.std.proofs.lemmas.List.{length-map, length-take}
use Rattle.httparse.specs.Grammar.{ResponseHead, print_response}
use Rattle.httparse.specs.Spans.{IsResponseAt, IsResponseOf, header_bytes, name_and_value}
use Rattle.httparse.specs.declared.spans.HeaderSpan.{HeaderSpan}
use Rattle.httparse.specs.declared.spans.ResponseSpans.{ResponseSpans}
use Rattle.http_client.specs.Replies.{IsReading, headed, fault_place, framing, reply_of, reply_unless}
use Rattle.http_client.specs.declared.limits.TheConstants.{MOST_FIELDS}
use Rattle.http_client.specs.declared.reply.BadReply.{BadReply}
use Rattle.http_client.specs.declared.reply.BadReply.TheVariants as bad
use Rattle.http_client.specs.declared.reply.Reply.{Reply}

abbrev pub reply : ResponseSpans → List ℕ → Reply
reply spans body = record { status = spans.code; body = body }

-- where the head and the body are at fault, if they are
abbrev pub place_of : List ℕ → List HeaderSpan → ResponseSpans → ℕ → Option ℕ
place_of bytes room spans size = fault_place (framing (map (header_bytes bytes) (take spans.headers room))) spans.len size

module _ (bytes : List ℕ) (room : List HeaderSpan) (spans : ResponseSpans) (few : length room ≤ MOST_FIELDS) where
  has_few : (h : ResponseHead) → IsResponseAt bytes room spans h → length h.fields ≤ MOST_FIELDS
  has_few h at =
      let same : length (map (header_bytes bytes) (take spans.headers room)) ≡ length (map name_and_value h.fields) = ap length at.fields in
      let fields = length-map h.fields name_and_value in
      let spans_taken = length-map (take spans.headers room) (header_bytes bytes) in
      let taken = length-take spans.headers room in
      omega (arith, same, fields, spans_taken, taken, few)

  same_place : (h : ResponseHead) → IsResponseAt bytes room spans h → (size : ℕ)
      → place_of bytes room spans size ≡ fault_place (framing (map name_and_value h.fields)) (length (print_response h)) size
  same_place h at size =
      ap (λ fields. fault_place (framing fields) spans.len size) at.fields
      ∙ ap (λ len. fault_place (framing (map name_and_value h.fields)) len size) at.len

  reads : (body : List ℕ) (place : Option ℕ) → IsResponseOf bytes room spans → body ≡ drop spans.len bytes → place ≡ place_of bytes room spans (length body)
      → IsReading bytes (reply_unless place (reply spans body))
  reads body place head rest is =
      let h = head.0 in
      let at = head.1 in
      let whole : reply_unless place (reply spans body) ≡ reply_of h body =
      ap (λ p. reply_unless p (reply spans body)) (is ∙ same_place h at (length body))
      ∙ ap
      (λ code. reply_unless (fault_place (framing (map name_and_value h.fields)) (length (print_response h)) (length body))
      (record { status = code; body = body }))
      at.code in
      headed h (drop spans.len bytes) (at.reads, has_few h at) (whole ∙ ap (reply_of h) rest)

  pub reads_fault : (body : List ℕ) (place : ℕ) → IsResponseOf bytes room spans → body ≡ drop spans.len bytes
      → Some place ≡ place_of bytes room spans (length body) → IsReading bytes (Err (bad.BadReply place))
  reads_fault body place head rest is = reads body (Some place) head rest is

  pub reads_reply : (body : List ℕ) → IsResponseOf bytes room spans → body ≡ drop spans.len bytes
      → None ≡ place_of bytes room spans (length body) → IsReading bytes (Ok (reply spans body))
  reads_reply body head rest is = reads body None head rest is

  pub reads_copy : (copy body : List ℕ) → IsResponseOf bytes room spans → copy ≡ body → body ≡ drop spans.len bytes
      → None ≡ place_of bytes room spans (length body) → IsReading bytes (Ok (reply spans copy))
  reads_copy copy body head same rest is = subst (λ l. IsReading bytes (Ok (reply spans l))) (sym same) (reads_reply body head rest is)

  pub unread : (body : List ℕ) (r : Result Reply BadReply) → IsResponseOf bytes room spans → body ≡ drop spans.len bytes
      → None ≡ place_of bytes room spans (length body) → IfErr r (λ e. e ≡ bad.NoMemory → (x : Reply) × IsReading bytes (Ok x))
  unread body (Ok x) head rest is = tt
  unread body (Err e) head rest is = λ _. (reply spans body, reads_reply body head rest is)
