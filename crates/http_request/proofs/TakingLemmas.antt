-- What one call of `next` answers and leaves.
use Rattle.std.proofs.Common.{◌≡◌, ℕ, inl, inr, ◌<◌, List, drop, length, length-drop, Bool, true, false, ◌&&◌, ◌==◌, not, cond, codes, nat_le, ◌||◌, Option}
use Rattle.std.proofs.Common.{Some, None, Result, Ok, Err, IfOk, OnErr, refl, sym, ap, ◌∙◌, subst, arith}
use Rattle.std.proofs.lemmas.Bool.Decides.{nat_tests}
use Rattle.std.proofs.lemmas.Option.{none-some, same_Some}
use Rattle.std.specs.List.{list_all}
use Rattle.httparse.specs.Grammar.{RequestHead, print_request}
use Rattle.td_base.specs.TargetForm.{has_form}
use Rattle.td_base.specs.declared.no_memory.NoMemory.{NoMemory}
use Rattle.http_request.specs.Ends.{feeds}
use Rattle.td_base.specs.Texts.{field_values}
use Rattle.http_request.specs.Judging.{refusal, refusal_of, asked_by, pairs_of, is_served, is_well_formed, has_hosts, is_host, is_zero}
use Rattle.http_request.specs.Steps.{Found, Whole, Malformed, TooLarge, NotYet, Finds, Taken, Refused, Waiting, outcome, verdict, IsStep, IsTaken, Steps}
use Rattle.http_request.specs.Taking.{HasForm, HasStatus, IsRefusalStatus, LeavesFewer, LeavesRoom}
use Rattle.http_request.specs.declared.head.Head.{Head}
use Rattle.http_request.specs.declared.head.Next.{Next}
use Rattle.http_request.specs.declared.head.Next.TheVariants as next
use Rattle.http_request.specs.declared.limits.TheConstants.{MOST_HEAD_BYTES, MOST_FEEDS}
use Rattle.http_request.proofs.lemmas.StepLemmas.{one_step, taken≢waiting, refused≢taken, refused≢waiting, same_status, same_head, taken_within, taken_some}
use Rattle.http_request.proofs.lemmas.StepLemmas.{verdict_waits}

-- where a refusal stands, nothing else is answered
pub only_bad : (old : List ℕ) (n : Next) (new : List ℕ) (status : ℕ) → Steps old n new → IsStep old (Refused status) → n ≡ next.Bad status
only_bad old (next.Request head) new status s b = absurd (refused≢taken status head s.0 (one_step old (Refused status) (Taken head s.0) b s.1))
only_bad old next.More new status s b = absurd (refused≢waiting status (one_step old (Refused status) Waiting b s.0))
only_bad old (next.Bad other) new status s b = ap next.Bad (same_status other status (one_step old (Refused other) (Refused status) s.0 b))

pub no_taken : (old : List ℕ) (status : ℕ) → IsTaken old → IsStep old (Refused status) → ⊥
no_taken old status t b = refused≢taken status t.0 t.1 (one_step old (Refused status) (Taken t.0 t.1) b t.2)

pub for_good : (old new : List ℕ) (r : Result Next NoMemory) (status : ℕ) → IfOk r (λ n. Steps old n new) → OnErr r (IsTaken old)
    → IsStep old (Refused status) → r ≡ Ok (next.Bad status)
for_good old new (Ok n) status s m b = ap Ok (only_bad old n new status s b)
for_good old new (Err e) status s m b = absurd (no_taken old status m b)

refusal_none : (method target : List ℕ) (minor : ℕ) (pairs : List (List ℕ × List ℕ)) → refusal method target minor pairs ≡ None → has_form target ≡ true
unfolding refusal
refusal_none method target minor pairs e =
    by_tests (is_served method) (has_hosts minor (length (field_values (codes "host") pairs)))
    (list_all is_host (field_values (codes "host") pairs)) (length (field_values (codes "transfer-encoding") pairs) == 0)
    (list_all is_zero (field_values (codes "content-length") pairs)) (has_form target) e
  where
    by_tests : (m a h b c f : Bool) → cond {A = Option ℕ} (not m) (Some 405) (cond {A = Option ℕ} (not (a && (h && (b && (c && f))))) (Some 400) None) ≡ None
        → f ≡ true
    by_tests true true true true true true e = refl
    by_tests true true true true true false e = absurd (none-some 400 (sym e))
    by_tests true true true true false f e = absurd (none-some 400 (sym e))
    by_tests true true true false c f e = absurd (none-some 400 (sym e))
    by_tests true true false b c f e = absurd (none-some 400 (sym e))
    by_tests true false h b c f e = absurd (none-some 400 (sym e))
    by_tests false a h b c f e = absurd (none-some 405 (sym e))

-- the target of a head that is taken is in one of the two forms
pub taken_form : (bytes : List ℕ) (head : Head) (n : ℕ) → IsStep bytes (Taken head n) → has_form head.target ≡ true
taken_form bytes head n x = by_found x.found x.is
  where
    by_refusal : (h : RequestHead) (r : Option ℕ) → refusal_of h ≡ r → Taken head n ≡ verdict h r → has_form head.target ≡ true
    by_refusal h (Some s) d e = absurd (refused≢taken s head n (sym e))
    by_refusal h None d e =
        ap (λ k. has_form k.target) (same_head head (asked_by h) n (length (print_request h)) e)
        ∙ refusal_none h.method h.target h.minor (pairs_of h) d

    by_found : (f : Found) → Taken head n ≡ outcome f → has_form head.target ≡ true
    by_found NotYet e = absurd (taken≢waiting head n e)
    by_found Malformed e = absurd (refused≢taken 400 head n (sym e))
    by_found TooLarge e = absurd (refused≢taken 431 head n (sym e))
    by_found (Whole h) e = by_refusal h (refusal_of h) refl e

pub step_form : (old new : List ℕ) (r : Result Next NoMemory) → IfOk r (λ n. Steps old n new) → IfOk r HasForm
step_form old new (Ok (next.Request head)) s = taken_form old head s.0 s.1
step_form old new (Ok next.More) s = tt
step_form old new (Ok (next.Bad status)) s = tt
step_form old new (Err e) s = tt

-- a head that is taken leaves less
pub less_left : (old new : List ℕ) (head : Head) (len : ℕ) → IsStep old (Taken head len) → new ≡ drop len old
    → length new < length old
less_left old new head len s e =
    omega (arith, ap length e, length-drop len old, taken_within old head len s, taken_some old head len s)

pub step_fewer : (old new : List ℕ) (r : Result Next NoMemory) → IfOk r (λ n. Steps old n new) → IfOk r (LeavesFewer old new)
step_fewer old new (Ok (next.Request head)) s = less_left old new head s.0 s.1 s.2
step_fewer old new (Ok next.More) s = tt
step_fewer old new (Ok (next.Bad status)) s = tt
step_fewer old new (Err e) s = tt

-- where nothing stands yet there is room for a head
has_room : (m n : ℕ) → (nat_le MOST_HEAD_BYTES m || nat_le MOST_FEEDS n) ≡ false → (m < MOST_HEAD_BYTES) × (n < MOST_FEEDS)
has_room m n e = (grind (arith, nat_tests), grind (arith, nat_tests))

pub waiting_room : (bytes : List ℕ) → IsStep bytes Waiting → (length bytes < MOST_HEAD_BYTES) × (feeds bytes < MOST_FEEDS)
waiting_room bytes x = by_found x.found x.finds x.is
  where
    by_found : (f : Found) → Finds bytes f → Waiting ≡ outcome f → (length bytes < MOST_HEAD_BYTES) × (feeds bytes < MOST_FEEDS)
    by_found NotYet y e = has_room (length bytes) (feeds bytes) y.1
    by_found Malformed y e = absurd (refused≢waiting 400 (sym e))
    by_found TooLarge y e = absurd (refused≢waiting 431 (sym e))
    by_found (Whole h) y e = absurd (verdict_waits h (refusal_of h) e)

pub step_room : (old new : List ℕ) (r : Result Next NoMemory) → IfOk r (λ n. Steps old n new) → IfOk r (LeavesRoom new)
step_room old new (Ok (next.Request head)) s = tt
step_room old new (Ok next.More) s = subst (λ l. (length l < MOST_HEAD_BYTES) × (feeds l < MOST_FEEDS)) (sym s.1) (waiting_room old s.0)
step_room old new (Ok (next.Bad status)) s = tt
step_room old new (Err e) s = tt

refusal_is : (method target : List ℕ) (minor : ℕ) (pairs : List (List ℕ × List ℕ)) (s : ℕ) → refusal method target minor pairs ≡ Some s → IsRefusalStatus s
unfolding refusal
refusal_is method target minor pairs s e = by_tests (is_served method) (is_well_formed minor target pairs) e
  where
    by_tests : (m w : Bool) → cond {A = Option ℕ} (not m) (Some 405) (cond {A = Option ℕ} (not w) (Some 400) None) ≡ Some s → IsRefusalStatus s
    by_tests true true x = absurd (none-some s x)
    by_tests true false x = inl (sym (same_Some 400 s x))
    by_tests false w x = inr (inl (sym (same_Some 405 s x)))

pub refused_status : (bytes : List ℕ) (s : ℕ) → IsStep bytes (Refused s) → IsRefusalStatus s
refused_status bytes s x = by_found x.found x.is
  where
    by_refusal : (h : RequestHead) (r : Option ℕ) → refusal_of h ≡ r → Refused s ≡ verdict h r → IsRefusalStatus s
    by_refusal h (Some t) d e = subst IsRefusalStatus (sym (same_status s t e)) (refusal_is h.method h.target h.minor (pairs_of h) t d)
    by_refusal h None d e = absurd (refused≢taken s (asked_by h) (length (print_request h)) e)

    by_found : (f : Found) → Refused s ≡ outcome f → IsRefusalStatus s
    by_found NotYet e = absurd (refused≢waiting s e)
    by_found Malformed e = inl (same_status s 400 e)
    by_found TooLarge e = inr (inr (same_status s 431 e))
    by_found (Whole h) e = by_refusal h (refusal_of h) refl e

pub step_status : (old new : List ℕ) (r : Result Next NoMemory) → IfOk r (λ n. Steps old n new) → IfOk r HasStatus
step_status old new (Ok (next.Request head)) s = tt
step_status old new (Ok next.More) s = tt
step_status old new (Ok (next.Bad status)) s = refused_status old status s.0
step_status old new (Err e) s = tt
