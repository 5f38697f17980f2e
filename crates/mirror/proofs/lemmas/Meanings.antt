-- An answer means one thing alone, and what is heard in it is of the kind that was asked for.
use Rattle.std.proofs.Common.{◌≡◌, ◌≢◌, ◌<◌, length, IfOk, OnOk, ℕ, ◌==◌, List, Bool, true, false, cond, Option, None, Some, Result, Ok, Err, refl, sym}
use Rattle.std.proofs.Common.{ap, ◌∙◌, subst, arith}
use Rattle.td_base.specs.declared.no_memory.NoMemory.{NoMemory}
use Rattle.td_base.specs.declared.report.Ask.{Ask}
use Rattle.td_base.specs.declared.report.Ask.TheVariants as ask
use Rattle.json_forms.specs.ListReading.{list_read}
use Rattle.json_forms.specs.declared.list_fault.BadList.{BadList}
use Rattle.json_forms.specs.declared.list_fault.BadList.TheVariants as bad_list
use Rattle.json_forms.specs.declared.zone_list.ListDoc.{ListDoc}
use Rattle.http_client.specs.Replies.{IsReading}
use Rattle.http_client.specs.declared.reply.BadReply.{BadReply}
use Rattle.http_client.specs.declared.reply.BadReply.TheVariants as bad_reply
use Rattle.http_client.specs.declared.reply.Reply.{Reply}
use Rattle.http_client.proofs.lemmas.Readings.{one_reading}
use Rattle.sync_core.specs.Steps.{IsAnswerTo}
use Rattle.sync_core.specs.declared.heard_type.Heard.{Heard}
use Rattle.sync_core.specs.declared.heard_type.Heard.TheVariants as heard
use Rattle.mirror.specs.Understanding.{Means, too_long, short, body_heard, fault_heard, list_heard, reading_heard, refuses_token, reply_heard}
use Rattle.mirror.specs.declared.limits.TheConstants.{MOST_ANSWER}
use Rattle.mirror.specs.declared.understood_type.Understood.{Understood}
use Rattle.mirror.specs.declared.understood_type.Understood.TheVariants as understood

pub one_meaning : (a : Ask) (answer : List ℕ) (u v : Understood) → Means a answer u → Means a answer v → u ≡ v
one_meaning a answer u v (too_long m p) (too_long n q) = p ∙ sym q
one_meaning a answer u v (too_long m p) (short r n k q) = absurd (omega arith)
one_meaning a answer u v (short r n k p) (too_long m q) = absurd (omega arith)
one_meaning a answer u v (short r m k p) (short s n l q) = p ∙ ap (reading_heard a) (one_reading answer r s k l) ∙ sym q

-- what is heard is of the kind that was asked for, and a list is one that was read
abbrev pub IsToldIn : Ask → Heard → Type 0
IsToldIn a (heard.List doc) = IsAnswerTo a (heard.List doc) × ((text : List ℕ) × (list_read text ≡ Ok doc))
IsToldIn a (heard.Zone bytes) = IsAnswerTo a (heard.Zone bytes)
IsToldIn a heard.BadToken = IsAnswerTo a heard.BadToken

-- so is all that is heard, by what answers mean
abbrev pub HearsInKind : (Ask → List ℕ → Understood → Type 0) → Type 0
HearsInKind means = (a : Ask) (answer : List ℕ) (h : Heard) → means a answer (understood.Hears h) → IsToldIn a h

same_heard : (h k : Heard) → understood.Hears h ≡ understood.Hears k → h ≡ k
same_heard h k e = cc

told_list : (token : Option (List ℕ)) (text : List ℕ) (h : Heard) (r : Result ListDoc BadList) → list_read text ≡ r → understood.Hears h ≡ list_heard r
    → IsToldIn (ask.List token) h
told_list token text h (Ok doc) is e = subst (IsToldIn (ask.List token)) (sym (same_heard h (heard.List doc) e)) (tt, (text, is))
told_list token text h (Err (bad_list.BadList place)) is e = absurd (cc)
told_list token text h (Err bad_list.NoMemory) is e = absurd (cc)

told_body : (a : Ask) (body : List ℕ) (h : Heard) → understood.Hears h ≡ body_heard a body → IsToldIn a h
told_body (ask.List token) body h e = told_list token body h (list_read body) refl e
told_body (ask.Get name) body h e = subst (IsToldIn (ask.Get name)) (sym (same_heard h (heard.Zone body) e)) tt

told_refusal : (a : Ask) (reply : Reply) (h : Heard) (b : Bool) → refuses_token a reply ≡ b
    → understood.Hears h ≡ cond b (understood.Hears heard.BadToken) (understood.Refuses reply.status) → IsToldIn a h
told_refusal a reply h false is e = absurd (cc)
told_refusal (ask.List (Some token)) reply h true is e =
    subst (IsToldIn (ask.List (Some token))) (sym (same_heard h heard.BadToken e)) tt
told_refusal (ask.List None) reply h true is e = absurd (cc)
told_refusal (ask.Get name) reply h true is e = absurd (cc)

told_reply : (a : Ask) (reply : Reply) (h : Heard) (b : Bool) → understood.Hears h ≡ cond b (body_heard a reply.body)
    (cond (refuses_token a reply) (understood.Hears heard.BadToken) (understood.Refuses reply.status)) → IsToldIn a h
told_reply a reply h true e = told_body a reply.body h e
told_reply a reply h false e = told_refusal a reply h (refuses_token a reply) refl e

told_reading : (a : Ask) (h : Heard) (r : Result Reply BadReply) → understood.Hears h ≡ reading_heard a r → IsToldIn a h
unfolding reply_heard
told_reading a h (Ok reply) e = told_reply a reply h (reply.status == 200) e
told_reading a h (Err (bad_reply.BadReply place)) e = absurd (cc)
told_reading a h (Err bad_reply.NoMemory) e = absurd (cc)

pub is_told : HearsInKind Means
is_told a answer h (too_long m e) = absurd (cc)
is_told a answer h (short r m k e) = told_reading a h r e

pub told_answers : (a : Ask) (h : Heard) → IsToldIn a h → IsAnswerTo a h
told_answers a (heard.List doc) t = t.0
told_answers a (heard.Zone bytes) t = t
told_answers a heard.BadToken t = t

pub answers : (a : Ask) (answer : List ℕ) (h : Heard) → Means a answer (understood.Hears h) → IsAnswerTo a h
answers a answer h m = told_answers a h (is_told a answer h m)

-- ---- what is heard in an answer that is not too long

pub heard_reply : (a : Ask) (answer : List ℕ) (reply : Reply) (r : Result Understood NoMemory) → length answer < MOST_ANSWER → IsReading answer (Ok reply)
    → IfOk r (λ u. u ≡ reply_heard a reply) → IfOk r (Means a answer)
heard_reply a answer reply (Ok u) m k e = short (Ok reply) m k e
heard_reply a answer reply (Err n) m k e = tt

pub heard_fault : (a : Ask) (answer : List ℕ) (e : BadReply) (r : Result Understood NoMemory) → length answer < MOST_ANSWER
    → (e ≢ bad_reply.NoMemory → IsReading answer (Err e)) → IfOk r (λ u. u ≡ fault_heard e) → OnOk r (e ≢ bad_reply.NoMemory) → IfOk r (Means a answer)
heard_fault a answer e (Ok u) m k is none = short (Err e) m (k none) is
heard_fault a answer e (Err n) m k is none = tt

pub meant : (a : Ask) (slice answer : List ℕ) (u v : Understood) → Means a slice u → slice ≡ answer → u ≡ v → Means a answer v
meant a slice answer u v m same is = subst (λ l. Means a l v) same (subst (Means a slice) is m)
