-- The status of a response that is taken.
use Rattle.std.proofs.Common.{◌≡◌, ◌⊎◌, inl, inr, ℕ, List, length, map, Bool, true, false, cond}
use Rattle.std.proofs.Common.{◌==◌, Option, None, Some, Result, Ok, Err, refl, sym, ap, subst, ◌∙◌}
use Rattle.std.proofs.lemmas.Bool.{eqb-true, and_parts}
use Rattle.httparse.specs.Grammar.{ReadsResponse, print_response, status_code}
use Rattle.httparse.specs.Spans.{name_and_value}
use Rattle.td_base.specs.declared.report.Ask.{Ask}
use Rattle.td_base.specs.declared.report.Ask.TheVariants as ask
use Rattle.json_forms.specs.ListReading.{list_read}
use Rattle.json_forms.specs.ProblemDocument.{problem_in}
use Rattle.json_forms.specs.declared.list_fault.BadList.{BadList}
use Rattle.json_forms.specs.declared.list_fault.BadList.TheVariants as bad_list
use Rattle.json_forms.specs.declared.problem_type.Problem.{Problem}
use Rattle.json_forms.specs.declared.problem_type.Problem.TheVariants as problem
use Rattle.json_forms.specs.declared.zone_list.ListDoc.{ListDoc}
use Rattle.http_client.specs.Replies.{IsReading, fault_place, framing, headed, headless, reply_unless}
use Rattle.http_client.specs.declared.reply.BadReply.TheVariants as bad_reply
use Rattle.http_client.specs.declared.reply.Reply.{Reply}
use Rattle.sync_core.specs.declared.heard_type.Heard.{Heard}
use Rattle.sync_core.specs.declared.heard_type.Heard.TheVariants as heard
use Rattle.mirror.specs.Understanding.{Means, body_heard, list_heard, names_changedsince, refuses_token, reply_heard, short, too_long}
use Rattle.mirror.specs.declared.understood_type.Understood.TheVariants as understood
use Rattle.sync_laws.specs.Responses.{HasReply, IsListResponse, IsTokenRefusal, IsZoneResponse}

-- bytes that are read as a reply have its status and its body
read_reply : (bytes : List ℕ) (reply : Reply) → IsReading bytes (Ok reply) → HasReply bytes reply.status reply.body
read_reply bytes reply (headless none e) = absurd (cc)
read_reply bytes reply (headed head rest has e) = by (fault_place (framing (map name_and_value head.fields)) (length (print_response head)) (length rest)) e
  where
    by : (place : Option ℕ) → Ok reply ≡ reply_unless place (record { status = status_code head; body = rest }) → HasReply bytes reply.status reply.body
    by None e =
        let status : reply.status ≡ status_code head = cc in
        let body : reply.body ≡ rest = cc in
        record { head = head; reads = subst (ReadsResponse bytes head) (sym body) has.0; status_is = sym status }
    by (Some place) e = absurd (cc)

-- what was taken is that of a reply
record IsOfReply (a : Ask) (bytes : List ℕ) (h : Heard) : Type 0 where
  reply : Reply
  has : HasReply bytes reply.status reply.body
  is : understood.Hears h ≡ reply_heard a reply

of_reply : (a : Ask) (bytes : List ℕ) (h : Heard) → Means a bytes (understood.Hears h) → IsOfReply a bytes h
of_reply a bytes h (too_long most e) = absurd (cc)
of_reply a bytes h (short (Ok reply) few reads e) = record { reply = reply; has = read_reply bytes reply reads; is = e }
of_reply a bytes h (short (Err (bad_reply.BadReply place)) few reads e) = absurd (cc)
of_reply a bytes h (short (Err bad_reply.NoMemory) few reads e) = absurd (cc)

-- with status 200 it is the body, and else a refused token
record IsBody (a : Ask) (reply : Reply) (h : Heard) : Type 0 where
  status : reply.status ≡ 200
  is : understood.Hears h ≡ body_heard a reply.body

record IsRefused (a : Ask) (reply : Reply) (h : Heard) : Type 0 where
  refused : refuses_token a reply ≡ true
  is : h ≡ heard.BadToken

by_status : (a : Ask) (reply : Reply) (h : Heard) → understood.Hears h ≡ reply_heard a reply → IsBody a reply h ⊎ IsRefused a reply h
unfolding reply_heard
by_status a reply h e = by (reply.status == 200) (refuses_token a reply) refl refl e
  where
    by : (good refused : Bool) → (reply.status == 200) ≡ good → refuses_token a reply ≡ refused
        → understood.Hears h ≡ cond good (body_heard a reply.body) (cond refused (understood.Hears heard.BadToken) (understood.Refuses reply.status))
        → IsBody a reply h ⊎ IsRefused a reply h
    by true refused is r e = inl (record { status = eqb-true reply.status 200 is; is = e })
    by false true is r e = let same : h ≡ heard.BadToken = cc in inr (record { refused = r; is = same })
    by false false is r e = absurd (cc)

with_status : (bytes : List ℕ) (status other : ℕ) (body : List ℕ) → status ≡ other → HasReply bytes status body → HasReply bytes other body
with_status bytes status other body same has = subst (λ (n : ℕ). HasReply bytes n body) same has

-- ---- lists

list_of_body : (a : Ask) (bytes : List ℕ) (reply : Reply) (doc : ListDoc) → HasReply bytes reply.status reply.body → IsBody a reply (heard.List doc)
    → IsListResponse a bytes doc
list_of_body (ask.Get name) bytes reply doc has body = let e = body.is in absurd (cc)
list_of_body (ask.List token) bytes reply doc has body = by (list_read reply.body) refl body.is
  where
    by : (r : Result ListDoc BadList) → list_read reply.body ≡ r → understood.Hears (heard.List doc) ≡ list_heard r → IsListResponse (ask.List token) bytes doc
    by (Ok other) reads e =
        let same : other ≡ doc = cc in
        record {
          token = token;
          asked = refl;
          body = reply.body;
          reply = with_status bytes reply.status 200 reply.body body.status has;
          reads = reads ∙ ap Ok same;
        }
    by (Err (bad_list.BadList place)) reads e = absurd (cc)
    by (Err bad_list.NoMemory) reads e = absurd (cc)

pub list_taken : (a : Ask) (bytes : List ℕ) (doc : ListDoc) → Means a bytes (understood.Hears (heard.List doc)) → IsListResponse a bytes doc
list_taken a bytes doc m =
    let o = of_reply a bytes (heard.List doc) m in
    elim (by_status a o.reply (heard.List doc) o.is) as (λ s. IsListResponse a bytes doc) [
      | inl body ↦ list_of_body a bytes o.reply doc o.has body
      | inr refused ↦ let e = refused.is in absurd (cc)
    ]

-- ---- zones

zone_of_body : (a : Ask) (bytes file : List ℕ) (reply : Reply) → HasReply bytes reply.status reply.body → IsBody a reply (heard.Zone file)
    → IsZoneResponse a bytes file
zone_of_body (ask.Get name) bytes file reply has body =
    let e = body.is in
    let same : reply.body ≡ file = cc in
    record { name = name; asked = refl; reply = with_status bytes reply.status 200 file body.status (subst (HasReply bytes reply.status) same has) }
zone_of_body (ask.List token) bytes file reply has body = by (list_read reply.body) body.is
  where
    by : (r : Result ListDoc BadList) → understood.Hears (heard.Zone file) ≡ list_heard r → IsZoneResponse (ask.List token) bytes file
    by (Ok other) e = absurd (cc)
    by (Err (bad_list.BadList place)) e = absurd (cc)
    by (Err bad_list.NoMemory) e = absurd (cc)

pub zone_taken : (a : Ask) (bytes file : List ℕ) → Means a bytes (understood.Hears (heard.Zone file)) → IsZoneResponse a bytes file
zone_taken a bytes file m =
    let o = of_reply a bytes (heard.Zone file) m in
    elim (by_status a o.reply (heard.Zone file) o.is) as (λ s. IsZoneResponse a bytes file) [
      | inl body ↦ zone_of_body a bytes file o.reply o.has body
      | inr refused ↦ let e = refused.is in absurd (cc)
    ]

-- ---- refused tokens

names_it : (o : Option Problem) → names_changedsince o ≡ true → o ≡ Some problem.InvalidChangedsince
names_it None e = absurd (cc)
names_it (Some problem.InvalidChangedsince) e = refl
names_it (Some other) e = absurd (cc)

refusal_of : (a : Ask) (bytes : List ℕ) (reply : Reply) → HasReply bytes reply.status reply.body → refuses_token a reply ≡ true → IsTokenRefusal a bytes
refusal_of (ask.Get name) bytes reply has e = absurd (cc)
refusal_of (ask.List None) bytes reply has e = absurd (cc)
refusal_of (ask.List (Some token)) bytes reply has e =
    let two = and_parts (reply.status == 400) (names_changedsince (problem_in reply.body)) e in
    record {
      token = token;
      asked = refl;
      body = reply.body;
      reply = with_status bytes reply.status 400 reply.body (eqb-true reply.status 400 two.0) has;
      reads = names_it (problem_in reply.body) two.1;
    }

never_a_body : (a : Ask) (body : List ℕ) → understood.Hears heard.BadToken ≡ body_heard a body → ⊥
never_a_body (ask.Get name) body e = absurd (cc)
never_a_body (ask.List token) body e = by (list_read body) e
  where
    by : (r : Result ListDoc BadList) → understood.Hears heard.BadToken ≡ list_heard r → ⊥
    by (Ok other) e = absurd (cc)
    by (Err (bad_list.BadList place)) e = absurd (cc)
    by (Err bad_list.NoMemory) e = absurd (cc)

pub refusal_taken : (a : Ask) (bytes : List ℕ) → Means a bytes (understood.Hears heard.BadToken) → IsTokenRefusal a bytes
refusal_taken a bytes m =
    let o = of_reply a bytes heard.BadToken m in
    elim (by_status a o.reply heard.BadToken o.is) as (λ s. IsTokenRefusal a bytes) [
      | inl body ↦ absurd (never_a_body a o.reply.body body.is)
      | inr refused ↦ refusal_of a bytes o.reply o.has refused.refused
    ]
