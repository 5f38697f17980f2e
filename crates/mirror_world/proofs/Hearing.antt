-- What an exchange with a primary means is what is heard in the answer of the action.
use Rattle.std.proofs.Common.{◌≡◌, ℕ, ◌<◌, ◌≤◌, ◌^◌, ◌⊎◌, inl, inr, ◌==◌, ◌&&◌, List, length, take, Bool, true, false, cond, Option, None, Some, Result, Ok}
use Rattle.std.proofs.Common.{Err, refl, sym, ap, ◌∙◌}
use Rattle.std.proofs.Common.{subst, arith}
use Rattle.std.proofs.lemmas.Bool.{cases_Bool, cases_lt, eqb-true}
use Rattle.std.proofs.lemmas.List.{length-take-le, take_all}
use Rattle.td_base.specs.declared.report.Ask.{Ask}
use Rattle.td_base.specs.declared.report.Ask.TheVariants as ask
use Rattle.td_base.specs.declared.report.Role.TheVariants.{Primary}
use Rattle.td_base.specs.declared.upstream.Exchange.{Exchange}
use Rattle.catalogue.specs.Releases.{ReleaseData}
use Rattle.json_forms.specs.ListReading.{list_read}
use Rattle.json_forms.specs.ProblemDocument.{problem_in}
use Rattle.json_forms.specs.declared.list_fault.BadList.{BadList}
use Rattle.json_forms.specs.declared.list_fault.BadList.TheVariants as bad_list
use Rattle.json_forms.specs.declared.problem_type.Problem.{Problem}
use Rattle.json_forms.specs.declared.problem_type.Problem.TheVariants as problem
use Rattle.json_forms.specs.declared.zone_list.ListDoc.{ListDoc}
use Rattle.http_answer.specs.Replies.{reply}
use Rattle.http_answer.specs.declared.answer.Answer.{Answer}
use Rattle.http_client.specs.Replies.{IsReading}
use Rattle.http_client.specs.declared.reply.Reply.{Reply}
use Rattle.http_client.proofs.lemmas.Readings.{one_reading}
use Rattle.actions.specs.Action.{action}
use Rattle.sync_core.specs.declared.heard_type.Heard.{Heard}
use Rattle.sync_core.specs.declared.heard_type.Heard.TheVariants as heard
use Rattle.mirror.specs.Understanding.{Means, too_long, short, body_heard, list_heard, names_changedsince, reading_heard, refuses_token, reply_heard}
use Rattle.mirror.specs.declared.limits.TheConstants.{MOST_ANSWER}
use Rattle.mirror.specs.declared.understood_type.Understood.{Understood}
use Rattle.mirror.specs.declared.understood_type.Understood.TheVariants as understood
use Rattle.negotiate.specs.declared.choosing.Format.{Format}
use Rattle.negotiate.specs.declared.choosing.Format.TheVariants.{Tzif}
use Rattle.sync_world.specs.Hearing.{IsDataHeardOver, IsHeardIn, IsHeardOver}
use Rattle.mirror_world.specs.Answers.{IsAnsweredOver, IsDataAnsweredOver, reply_over}
use Rattle.mirror_world.proofs.Replying.{body_fits, is_read, plain}
use Rattle.mirror_world.proofs.Shapes.{IsPlainAnswer, action_plain}

-- ---- what is heard in a reply

abbrev read_of : Answer → Reply
read_of answer = record { status = answer.status; body = answer.body }

same_heard : (h k : Heard) → understood.Hears h ≡ understood.Hears k → h ≡ k
same_heard h k e = cc

in_list : (since : Option (List ℕ)) (answer : Answer) (h : Heard) (r : Result ListDoc BadList) → answer.status ≡ 200 → list_read answer.body ≡ r
    → understood.Hears h ≡ list_heard r → IsHeardIn (ask.List since) answer h
in_list since answer h (Ok doc) ok is e = subst (IsHeardIn (ask.List since) answer) (sym (same_heard h (heard.List doc) e)) (ok, is)
in_list since answer h (Err (bad_list.BadList place)) ok is e = absurd (cc)
in_list since answer h (Err bad_list.NoMemory) ok is e = absurd (cc)

in_body : (a : Ask) (answer : Answer) (h : Heard) → answer.status ≡ 200 → understood.Hears h ≡ body_heard a answer.body → IsHeardIn a answer h
in_body (ask.List since) answer h ok e = in_list since answer h (list_read answer.body) ok refl e
in_body (ask.Get name) answer h ok e =
    subst (IsHeardIn (ask.Get name) answer) (sym (same_heard h (heard.Zone answer.body) e)) (ok, refl)

token_named : (o : Option Problem) → names_changedsince o ≡ true → o ≡ Some problem.InvalidChangedsince
token_named None e = absurd (cc)
token_named (Some problem.InvalidAction) e = absurd (cc)
token_named (Some problem.InvalidChangedsince) e = refl
token_named (Some problem.TzidNotFound) e = absurd (cc)
token_named (Some problem.InvalidFormat) e = absurd (cc)
token_named (Some problem.InvalidStart) e = absurd (cc)
token_named (Some problem.InvalidEnd) e = absurd (cc)
token_named (Some problem.InvalidPattern) e = absurd (cc)

halves : (s t : Bool) → (s && t) ≡ true → (s ≡ true) × (t ≡ true)
halves true t e = (refl, e)
halves false t e = absurd (cc)

in_refusal : (a : Ask) (answer : Answer) (h : Heard) (b : Bool) → refuses_token a (read_of answer) ≡ b
    → understood.Hears h ≡ cond b (understood.Hears heard.BadToken) (understood.Refuses answer.status) → IsHeardIn a answer h
in_refusal a answer h false is e = absurd (cc)
in_refusal (ask.List (Some token)) answer h true is e =
    let both = halves (answer.status == 400) (names_changedsince (problem_in answer.body)) is in
    subst (IsHeardIn (ask.List (Some token)) answer) (sym (same_heard h heard.BadToken e))
    (eqb-true answer.status 400 both.0, token_named (problem_in answer.body) both.1)
in_refusal (ask.List None) answer h true is e = absurd (cc)
in_refusal (ask.Get name) answer h true is e = absurd (cc)

-- what is heard where the status is not 200
abbrev otherwise : Ask → Answer → Understood
otherwise a answer = cond (refuses_token a (read_of answer)) (understood.Hears heard.BadToken) (understood.Refuses answer.status)

in_reply : (a : Ask) (answer : Answer) (h : Heard) → understood.Hears h ≡ reply_heard a (read_of answer) → IsHeardIn a answer h
unfolding reply_heard
in_reply a answer h e = by (cases_Bool (answer.status == 200))
  where
    by : ((answer.status == 200) ≡ true) ⊎ ((answer.status == 200) ≡ false) → IsHeardIn a answer h
    by (inl ok) = in_body a answer h (eqb-true answer.status 200 ok) (e ∙ ap (λ t. cond t (body_heard a answer.body) (otherwise a answer)) ok)
    by (inr other) =
        in_refusal a answer h (refuses_token a (read_of answer)) refl (e ∙ ap (λ t. cond t (body_heard a answer.body) (otherwise a answer)) other)

-- ---- and the other way round

abbrev chosen : ℕ → Understood → Understood → Understood
chosen status good other = cond (status == 200) good other

ok_heard : (a : Ask) (reply : Reply) (u : Understood) → reply.status ≡ 200 → body_heard a reply.body ≡ u → reply_heard a reply ≡ u
unfolding reply_heard
ok_heard a reply u ok is =
    ap (λ s. chosen s (body_heard a reply.body) (cond (refuses_token a reply) (understood.Hears heard.BadToken) (understood.Refuses reply.status))) ok ∙ is

token_heard : (token : List ℕ) (reply : Reply) → reply.status ≡ 400 → problem_in reply.body ≡ Some problem.InvalidChangedsince
    → reply_heard (ask.List (Some token)) reply ≡ understood.Hears heard.BadToken
unfolding reply_heard
token_heard token reply bad is =
    ap (λ s. chosen s (list_heard (list_read reply.body))
    (cond (s == 400 && names_changedsince (problem_in reply.body)) (understood.Hears heard.BadToken) (understood.Refuses reply.status))) bad
    ∙ ap (λ o. cond (names_changedsince o) (understood.Hears heard.BadToken) (understood.Refuses reply.status)) is

reply_so : (a : Ask) (answer : Answer) (h : Heard) → IsHeardIn a answer h → reply_heard a (read_of answer) ≡ understood.Hears h
reply_so (ask.List since) answer (heard.List doc) k = ok_heard (ask.List since) (read_of answer) (understood.Hears (heard.List doc)) k.0 (ap list_heard k.1)
reply_so (ask.List since) answer (heard.Zone bytes) k = absurd k
reply_so (ask.List None) answer heard.BadToken k = absurd k
reply_so (ask.List (Some token)) answer heard.BadToken k = token_heard token (read_of answer) k.0 k.1
reply_so (ask.Get name) answer (heard.List doc) k = absurd k
reply_so (ask.Get name) answer (heard.Zone bytes) k =
    ok_heard (ask.Get name) (read_of answer) (understood.Hears (heard.Zone bytes)) k.0 (ap (λ (b : List ℕ). understood.Hears (heard.Zone b)) k.1)
reply_so (ask.Get name) answer heard.BadToken k = absurd k

-- ---- the bytes

-- what is shorter than it may be is whole
whole : (n : ℕ) (text : List ℕ) → length (take n text) < n → take n text ≡ text
whole n text few = by (cases_lt (length text) n)
  where
    by : (length text < n) ⊎ (n ≤ length text) → take n text ≡ text
    by (inl lt) = take_all n text (omega arith)
    by (inr le) = let same = length-take-le n text le in absurd (omega (arith, same, few))

-- an answer that is not cut is the reply
reply_whole : (f : Format) (G : List ReleaseData) (a : Ask) (x : Exchange) (o : IsDataAnsweredOver f G a x) → length x.answer < MOST_ANSWER
    → x.answer ≡ reply_over G o.head
reply_whole f G a x o few =
    let cut : x.answer ≡ take MOST_ANSWER (reply_over G o.head) = o.is_answer ∙ ap (λ n. take n (reply_over G o.head)) o.most in
    cut ∙ whole MOST_ANSWER (reply_over G o.head) (subst (λ l. length l < MOST_ANSWER) cut few)

reply_read : (answer : Answer) (close : Bool) → IsPlainAnswer answer → length (reply answer false close) < MOST_ANSWER
    → IsReading (reply answer false close) (Ok (read_of answer))
reply_read answer close k few =
    let is : reply answer false close ≡ reply (plain k.status k.kind k.tag k.body) false close = ap (λ b. reply b false close) k.is in
    let fits = body_fits k.status k.kind k.tag k.body close k.is_plain in
    let fewer : length (reply (plain k.status k.kind k.tag k.body) false close) < MOST_ANSWER = subst (λ l. length l < MOST_ANSWER) is few in
    let small : length k.body < 2 ^ 64 = omega (arith, fits, fewer) in
    subst (λ b. IsReading (reply b false close) (Ok (read_of b))) (sym k.is) (is_read k.status k.kind k.tag k.body close k.is_plain k.passes small)

-- so it is read as the answer of the action
pub answer_read : (f : Format) (G : List ReleaseData) (a : Ask) (x : Exchange) (o : IsDataAnsweredOver f G a x) → length x.answer < MOST_ANSWER
    → IsReading x.answer (Ok (read_of (action G Primary o.head)))
answer_read f G a x o few =
    let answer = action G Primary o.head in
    let bytes : x.answer ≡ reply answer false o.head.close =
    reply_whole f G a x o few ∙ ap (λ head_only. reply answer head_only o.head.close) o.is_request.is_get in
    subst (λ l. IsReading l (Ok (read_of answer))) (sym bytes)
    (reply_read answer o.head.close (action_plain f G a o.head o.is_request.asks_so) (subst (λ l. length l < MOST_ANSWER) bytes few))

abbrev MeansHeard : Ask → List ℕ → Heard → Type 0
MeansHeard a answer h = Means a answer (understood.Hears h)

pub heard_in : (f : Format) (G : List ReleaseData) (a : Ask) (x : Exchange) (h : Heard) (o : IsDataAnsweredOver f G a x) → MeansHeard a x.answer h
    → IsHeardIn a (action G Primary o.head) h
heard_in f G a x h o (too_long m e) = absurd (cc)
heard_in f G a x h o (short r m k e) =
    in_reply a (action G Primary o.head) h
    (e ∙ ap (reading_heard a) (one_reading x.answer r (Ok (read_of (action G Primary o.head))) k (answer_read f G a x o m)))

pub data_heard : (f : Format) (G : List ReleaseData) (a : Ask) (x : Exchange) (h : Heard) → IsDataAnsweredOver f G a x
    → Means a x.answer (understood.Hears h) → IsDataHeardOver f G a h
data_heard f G a x h o means = record { head = o.head; asks_so = o.is_request.asks_so; hears = heard_in f G a x h o means }

pub data_means : (f : Format) (G : List ReleaseData) (a : Ask) (x : Exchange) (h : Heard) (o : IsDataAnsweredOver f G a x) → length x.answer < MOST_ANSWER
    → IsHeardIn a (action G Primary o.head) h → Means a x.answer (understood.Hears h)
data_means f G a x h o few k =
    short (Ok (read_of (action G Primary o.head))) few (answer_read f G a x o few) (sym (reply_so a (action G Primary o.head) h k))

-- the same of TZif files
pub heard_over : (G : List ReleaseData) (a : Ask) (x : Exchange) (h : Heard) → IsAnsweredOver G a x → Means a x.answer (understood.Hears h) → IsHeardOver G a h
heard_over G a x h o means = data_heard Tzif G a x h o means

pub means_so : (G : List ReleaseData) (a : Ask) (x : Exchange) (h : Heard) (o : IsAnsweredOver G a x) → length x.answer < MOST_ANSWER
    → IsHeardIn a (action G Primary o.head) h → Means a x.answer (understood.Hears h)
means_so G a x h o few k = data_means Tzif G a x h o few k
