-- Bytes that begin as a reply with a length, and are not the whole of it, are no reply.
use Rattle.std.proofs.Common.{◌≡◌, ℕ, ◌==◌, ◌≤◌, List, [], ◌++◌, length, map, take, drop, Bool, true, false, cond, Option, None, Some, Ok, Err}
use Rattle.std.proofs.Common.{◌&&◌, inl, inr, take-append-drop, ap, append_assoc, arith, refl, subst, sym, ◌∙◌}
use Rattle.std.proofs.lemmas.Bool.{eqb-true}
use Rattle.std.proofs.lemmas.List.{take_at}
use Rattle.httparse.specs.Grammar.{ReadsResponse, ResponseHead, print_response, status_code}
use Rattle.httparse.specs.Spans.{name_and_value}
use Rattle.httparse.proofs.GrammarLemmas.{response_unique}
use Rattle.http_client.specs.Replies.{Framing, IsReading, Sized, fault_place, framing, headed, headless, reply_unless}
use Rattle.http_client.specs.declared.reply.Reply.{Reply}
use Rattle.std.specs.Str.{chars, is_utf8}
use Rattle.json.specs.Json.{value}
use Rattle.json.specs.Lex.{lex, punctuate}
use Rattle.td_base.specs.declared.report.Ask.{Ask}
use Rattle.td_base.specs.declared.report.Ask.TheVariants as ask
use Rattle.http_answer.specs.Replies.{IsFixedStatus, fixed, phrase, reply}
use Rattle.http_answer.specs.declared.answer.Answer.{Answer}
use Rattle.http_client.specs.declared.reply.BadReply.TheVariants as bad_reply
use Rattle.json_forms.specs.JsonTexts.{json_in}
use Rattle.json_forms.specs.ProblemDocument.{problem_in}
use Rattle.sync_core.specs.declared.heard_type.Heard.{Heard}
use Rattle.sync_core.specs.declared.heard_type.Heard.TheVariants as heard
use Rattle.mirror.specs.Understanding.{Means, names_changedsince, reply_heard, short, too_long}
use Rattle.mirror.specs.declared.understood_type.Understood.TheVariants as understood
use Rattle.td_base.specs.declared.report.Role.TheVariants.{Primary}
use Rattle.catalogue.specs.Histories.{IsHistory}
use Rattle.catalogue.specs.Releases.{ReleaseData}
use Rattle.http_request.specs.declared.head.Head.{Head}
use Rattle.negotiate.specs.declared.choosing.Format.{Format}
use Rattle.zone_meaning.specs.Sound.{IsSound}
use Rattle.actions.specs.Action.{action}
use Rattle.sync_world.specs.Hearing.{IsDataHeadOf, IsHeardIn}
use Rattle.mirror_world.specs.Answers.{reply_over}
use Rattle.sync_laws.proofs.ReplySizes.{answer_short, IsShortAnswer, IsWrittenStatus, written_400}
use Rattle.sync_laws.proofs.Lengths.{not_failed}
use Rattle.sync_laws.proofs.ReplyHeads.{HasSizedHead, fixed_head, method_head, reply_head}

same_size : (n place size : ℕ) → fault_place (Sized n) place size ≡ None → n ≡ size
same_size n place size e = by (n == size) refl e
  where
    by : (b : Bool) → (n == size) ≡ b → cond b None (Some place) ≡ None → n ≡ size
    by true is k = eqb-true n size is
    by false is k = absurd (cc)

-- of two lists with one beginning, parts of one length are the same
same_front : (xs ys cs ds : List ℕ) → xs ++ cs ≡ ys ++ ds → length xs ≡ length ys → xs ≡ ys
same_front xs ys cs ds e size =
    sym (take_at xs cs (length xs) refl) ∙ ap (take (length xs)) e ∙ take_at ys ds (length xs) (sym size)

abbrev made_of : ℕ → List ℕ → Reply
made_of status body = record { status = status; body = body }

ok_is : (place : Option ℕ) (reply made : Reply) → place ≡ None → Ok reply ≡ reply_unless place made → reply ≡ made
ok_is None reply made none e = cc
ok_is (Some place) reply made none e = absurd (cc)

-- the bytes and the reply are the beginnings of one list
pub record IsPartOf (whole bytes : List ℕ) : Type 0 where
  pub after : List ℕ
  pub more : List ℕ
  pub is : bytes ++ after ≡ whole ++ more

-- what is read is the whole reply
pub record IsWholeReading (whole bytes : List ℕ) (status : ℕ) (body : List ℕ) (reply : Reply) : Type 0 where
  pub is : bytes ≡ whole
  pub read : reply ≡ record { status = status; body = body }

pub whole_is_read : (whole bytes : List ℕ) (status : ℕ) (body : List ℕ) (reply : Reply) → HasSizedHead whole status body → IsPartOf whole bytes
    → IsReading bytes (Ok reply) → IsWholeReading whole bytes status body reply
whole_is_read whole bytes status body reply k part (headless none e) = absurd (cc)
whole_is_read whole bytes status body reply k part (headed g rest has e) =
    let of_bytes : ReadsResponse (bytes ++ part.after) g (rest ++ part.after) =
    (has.0.0, ap (λ l. l ++ part.after) has.0.1 ∙ append_assoc (print_response g) rest part.after)
    in
    let of_whole : ReadsResponse (bytes ++ part.after) k.head (body ++ part.more) =
    (k.reads.0, part.is ∙ ap (λ l. l ++ part.more) k.reads.1 ∙ append_assoc (print_response k.head) body part.more)
    in
    let both = response_unique (bytes ++ part.after) g k.head (rest ++ part.after) (body ++ part.more) of_bytes of_whole in
    let made = made_of (status_code g) rest in
    let ends = not_failed (fault_place (framing (map name_and_value g.fields)) (length (print_response g)) (length rest)) reply made e in
    let framed : framing (map name_and_value g.fields) ≡ Sized (length body) =
    ap (λ (x : ResponseHead). framing (map name_and_value x.fields)) both.0 ∙ k.sized
    in
    let so : fault_place (Sized (length body)) (length (print_response g)) (length rest) ≡ None =
    subst (λ (fr : Framing). fault_place fr (length (print_response g)) (length rest) ≡ None) framed ends
    in
    let size = same_size (length body) (length (print_response g)) (length rest) so in
    let same = same_front rest body part.after part.more both.1 (sym size) in
    let code : status_code g ≡ status = ap (λ (x : ResponseHead). status_code x) both.0 ∙ k.code in
    record {
      is = has.0.1 ∙ ap (λ (x : ResponseHead). print_response x ++ rest) both.0 ∙ ap (λ l. print_response k.head ++ l) same ∙ sym k.reads.1;
      read = ok_is (fault_place (framing (map name_and_value g.fields)) (length (print_response g)) (length rest)) reply made ends e
          ∙ ap (λ (n : ℕ). made_of n rest) code ∙ ap (λ l. made_of status l) same;
    }

-- ---- what is taken

-- from bytes that are a reply with this status and body, this is heard
pub heard_of : (a : Ask) (whole bytes : List ℕ) (status : ℕ) (body : List ℕ) (h : Heard) → HasSizedHead whole status body → IsPartOf whole bytes
    → Means a bytes (understood.Hears h) → (bytes ≡ whole) × (understood.Hears h ≡ reply_heard a (made_of status body))
heard_of a whole bytes status body h k part (too_long most e) = absurd (cc)
heard_of a whole bytes status body h k part (short (Ok reply) few reads e) =
    let is = whole_is_read whole bytes status body reply k part reads in
    (is.is, e ∙ ap (reply_heard a) is.read)
heard_of a whole bytes status body h k part (short (Err (bad_reply.BadReply place)) few reads e) = absurd (cc)
heard_of a whole bytes status body h k part (short (Err bad_reply.NoMemory) few reads e) = absurd (cc)

-- a part of a part
pub part_taken : (whole bytes : List ℕ) (n : ℕ) → IsPartOf whole bytes → IsPartOf whole (take n bytes)
part_taken whole bytes n part = record {
  after = drop n bytes ++ part.after;
  more = part.more;
  is = sym (append_assoc (take n bytes) (drop n bytes) part.after) ∙ ap (λ l. l ++ part.after) (take-append-drop n bytes) ∙ part.is;
}

-- ---- refusals without a body

no_problem : names_changedsince (problem_in []) ≡ false
unfolding problem_in json_in is_utf8 chars value punctuate lex
no_problem = refl

not_heard : (a : Ask) (status : ℕ) (h : Heard) → (status == 200) ≡ false → understood.Hears h ≡ reply_heard a (made_of status []) → ⊥
unfolding reply_heard
not_heard (ask.Get name) status h other e = let said : understood.Hears h ≡ understood.Refuses status = e ∙ rw other refl in absurd (cc)
not_heard (ask.List None) status h other e = let said : understood.Hears h ≡ understood.Refuses status = e ∙ rw other refl in absurd (cc)
not_heard (ask.List (Some token)) status h other e = by (status == 400) (e ∙ rw (other, no_problem) refl)
  where
    by : (b : Bool) → understood.Hears h ≡ cond (b && false) (understood.Hears heard.BadToken) (understood.Refuses status) → ⊥
    by true k = absurd (cc)
    by false k = absurd (cc)

written_405 : IsWrittenStatus 405
unfolding phrase
written_405 = record { changed = refl; three = refl; digits = refl; value = refl; few = omega arith; code = refl }

written_431 : IsWrittenStatus 431
unfolding phrase
written_431 = record { changed = refl; three = refl; digits = refl; value = refl; few = omega arith; code = refl }

written_503 : IsWrittenStatus 503
unfolding phrase
written_503 = record { changed = refl; three = refl; digits = refl; value = refl; few = omega arith; code = refl }

pub refusal_head : (status : ℕ) → IsFixedStatus status → HasSizedHead (fixed status) status [] × ((status == 200) ≡ false)
refusal_head status (inl e) =
    subst (λ n. HasSizedHead (fixed n) n [] × ((n == 200) ≡ false)) (sym e) (fixed_head 400 written_400 refl refl, refl)
refusal_head status (inr (inl e)) =
    subst (λ n. HasSizedHead (fixed n) n [] × ((n == 200) ≡ false)) (sym e) (method_head written_405, refl)
refusal_head status (inr (inr (inl e))) =
    subst (λ n. HasSizedHead (fixed n) n [] × ((n == 200) ≡ false)) (sym e) (fixed_head 431 written_431 refl refl, refl)
refusal_head status (inr (inr (inr e))) =
    subst (λ n. HasSizedHead (fixed n) n [] × ((n == 200) ≡ false)) (sym e) (fixed_head 503 written_503 refl refl, refl)

pub refusal_not_taken : (a : Ask) (status : ℕ) (bytes : List ℕ) (h : Heard) → IsFixedStatus status → IsPartOf (fixed status) bytes
    → Means a bytes (understood.Hears h) → ⊥
refusal_not_taken a status bytes h is part means_so =
    let k = refusal_head status is in
    not_heard a status h k.1 (heard_of a (fixed status) bytes status [] h k.0 part means_so).1

-- ---- replies to a mirror

pub reply_taken_whole : (a : Ask) (answer : Answer) (close : Bool) (bytes : List ℕ) (h : Heard) → IsShortAnswer answer
    → IsPartOf (reply answer false close) bytes → Means a bytes (understood.Hears h) → bytes ≡ reply answer false close
reply_taken_whole a answer close bytes h short_so part means_so =
    (heard_of a (reply answer false close) bytes answer.status answer.body h (reply_head answer close short_so short_so.written.code) part means_so).0

module _ (f : Format) (small : (G : List ReleaseData) (name : List ℕ) (head : Head) (bytes : List ℕ) → IsHistory IsSound G → 1 ≤ length G
    → IsDataHeadOf f (ask.Get name) head → IsHeardIn (ask.Get name) (action G Primary head) (heard.Zone bytes) → length bytes ≤ 5_000_000) where
  pub replies_taken_whole : (G : List ReleaseData) (a : Ask) (head : Head) (bytes after more : List ℕ) (h : Heard) → IsHistory IsSound G → 1 ≤ length G
      → IsDataHeadOf f a head → head.head_only ≡ false → bytes ++ after ≡ reply_over G head ++ more → Means a bytes (understood.Hears h)
      → bytes ≡ reply_over G head
  replies_taken_whole G a head bytes after more h history some k get begins means_so =
      let answer = action G Primary head in
      let same : reply answer false head.close ≡ reply_over G head = ap (λ b. reply answer b head.close) (sym get) in
      let part : IsPartOf (reply answer false head.close) bytes = record { after = after; more = more; is = begins ∙ ap (λ l. l ++ more) (sym same) } in
      reply_taken_whole a answer head.close bytes h (answer_short f small G a head history some k) part means_so ∙ same
