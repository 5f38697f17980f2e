-- One step is one answer, and stays what it is whatever follows.
use Rattle.std.proofs.Common.{◌≡◌, ◌≢◌, ℕ, ◌<◌, ◌≤◌, ◌⊎◌, inl, inr, List, [], ◌++◌, length, take, Bool, true, false, ◌&&◌, ◌||◌, Option, Some, None, refl, sym}
use Rattle.std.proofs.Common.{ap, ◌∙◌, subst, arith, option_and_then, nat_le, cond, drop, take-append-drop, length-take-le}
use Rattle.std.specs.Prelude.{⊤}
use Rattle.std.proofs.lemmas.Bool.{cases_Bool, true≢false}
use Rattle.std.proofs.lemmas.Bool.Decides.{nat_tests}
use Rattle.http_request.specs.declared.head.Head.{Head}
use Rattle.http_request.specs.Judging.{refusal_of, asked_by}
use Rattle.std.proofs.lemmas.Option.{none-some, same_Some}
use Rattle.std.proofs.lemmas.List.{take-append-le, length-append, length-take, append-nil}
use Rattle.httparse.specs.Grammar.{RequestHead, print_request, print_blank}
use Rattle.httparse.proofs.GrammarLemmas.{request_unique, print_request-append}
use Rattle.http_request.specs.Ends.{feeds, fits, window, is_full}
use Rattle.http_request.specs.Scans.{head_end}
use Rattle.http_request.specs.declared.limits.TheConstants.{MOST_HEAD_BYTES, MOST_FEEDS}
use Rattle.http_request.specs.Steps.{HeadOf, HasNoHead, Found, Whole, Malformed, TooLarge, NotYet, Finds, Outcome, Taken, Refused, Waiting, outcome, verdict}
use Rattle.http_request.specs.Steps.{IsStep}
use Rattle.http_request.proofs.EndLemmas.{same_end, ended, Ended, late, feeds-append}

-- the window, by the end and the limits
pub data Limits (bytes : List ℕ) : Type 0 where
  Within : (n : ℕ) → head_end bytes ≡ Some n → fits bytes n ≡ true → window bytes ≡ Some n → Limits bytes
  Past : (n : ℕ) → head_end bytes ≡ Some n → fits bytes n ≡ false → window bytes ≡ None → Limits bytes
  Nowhere : head_end bytes ≡ None → window bytes ≡ None → Limits bytes

limits_of : (bytes : List ℕ) (e : Option ℕ) → head_end bytes ≡ e → Limits bytes
limits_of bytes None e = Nowhere e (ap (option_and_then (λ n. cond (fits bytes n) (Some n) None)) (same_end bytes ∙ e))
limits_of bytes (Some n) e = by_fit (cases_Bool (fits bytes n))
  where
    window_is : window bytes ≡ cond (fits bytes n) (Some n) None
    window_is = ap (option_and_then (λ k. cond (fits bytes k) (Some k) None)) (same_end bytes ∙ e)

    by_fit : (fits bytes n ≡ true) ⊎ (fits bytes n ≡ false) → Limits bytes
    by_fit (inl f) = Within n e f (window_is ∙ ap (λ t. cond t (Some n) None) f)
    by_fit (inr f) = Past n e f (window_is ∙ ap (λ t. cond t (Some n) None) f)

pub limits : (bytes : List ℕ) → Limits bytes
limits bytes = limits_of bytes (head_end bytes) refl

-- an end lies within the list
pub end_within_list : (bytes : List ℕ) (n : ℕ) → head_end bytes ≡ Some n → n ≤ length bytes
end_within_list bytes n e =
    let x : Ended false [] 0 bytes n = ended false [] 0 bytes n e in
    omega (arith, x.place, x.within)

pub end_stays : (bytes next : List ℕ) (n : ℕ) → head_end bytes ≡ Some n → head_end (bytes ++ next) ≡ Some n
end_stays bytes next n e =
    let x : Ended false [] 0 bytes n = ended false [] 0 bytes n e in x.stays next

-- the bytes up to an end, alone, end there
pub end_alone : (bytes : List ℕ) (n : ℕ) → head_end bytes ≡ Some n → head_end (take n bytes) ≡ Some n
end_alone bytes n e = by_end (head_end (take n bytes)) refl
  where
    whole : head_end (take n bytes ++ drop n bytes) ≡ Some n
    whole = ap head_end (take-append-drop n bytes) ∙ e

    not_late : (m : ℕ) → m ≡ n → m < n → ⊥
    not_late m f h = omega (arith, f, h)

    by_end : (o : Option ℕ) → head_end (take n bytes) ≡ o → head_end (take n bytes) ≡ Some n
    by_end (Some m) f = f ∙ (sym (end_stays (take n bytes) (drop n bytes) m f) ∙ whole)
    by_end None f =
        let length_is : length (take n bytes) ≡ n = length-take-le n bytes (end_within_list bytes n e) in
        absurd (not_late (length (take n bytes)) length_is (late (take n bytes) (drop n bytes) n f whole).0)

fits_stays : (bytes next : List ℕ) (n : ℕ) → n ≤ length bytes → fits (bytes ++ next) n ≡ fits bytes n
fits_stays bytes next n h = ap (λ l. nat_le n MOST_HEAD_BYTES && nat_le (feeds l) MOST_FEEDS) (take-append-le n bytes next h)

pub no_end : (bytes : List ℕ) → head_end bytes ≡ None → window bytes ≡ None
no_end bytes e = ap (option_and_then (λ n. cond (fits bytes n) (Some n) None)) (same_end bytes ∙ e)

pub window_of : (bytes : List ℕ) (n : ℕ) → head_end bytes ≡ Some n → window bytes ≡ cond (fits bytes n) (Some n) None
window_of bytes n e = ap (option_and_then (λ k. cond (fits bytes k) (Some k) None)) (same_end bytes ∙ e)

-- a window stays
pub window_stays : (bytes next : List ℕ) (n : ℕ) → window bytes ≡ Some n → (n ≤ length bytes) × (window (bytes ++ next) ≡ Some n)
window_stays bytes next n w = by_limits (limits bytes)
  where
    by_limits : Limits bytes → (n ≤ length bytes) × (window (bytes ++ next) ≡ Some n)
    by_limits (Within k e f v) =
        let same : k ≡ n = same_Some k n (sym v ∙ w) in
        let h : k ≤ length bytes = end_within_list bytes k e in (
          omega (arith, same, h),
          window_of (bytes ++ next) k (end_stays bytes next k e)
              ∙ (ap (λ t. cond t (Some k) None) (fits_stays bytes next k h ∙ f) ∙ ap Some same),
        )
    by_limits (Past k e f v) = absurd (none-some n (sym v ∙ w))
    by_limits (Nowhere e v) = absurd (none-some n (sym v ∙ w))

full_by : (m n x y : ℕ) → m ≤ x → n ≤ y → (nat_le MOST_HEAD_BYTES m || nat_le MOST_FEEDS n) ≡ true → (nat_le MOST_HEAD_BYTES x || nat_le MOST_FEEDS y) ≡ true
full_by m n x y a b f = grind (arith, nat_tests)

full_stays : (bytes next : List ℕ) → is_full bytes ≡ true → is_full (bytes ++ next) ≡ true
full_stays bytes next f =
    full_by (length bytes) (feeds bytes) (length (bytes ++ next)) (feeds (bytes ++ next))
    (omega (arith, length-append bytes next)) (omega (arith, feeds-append bytes next)) f

-- what ends after a full list is past the limits
past_limits : (m n x y : ℕ) → m < x → n < y → (nat_le MOST_HEAD_BYTES m || nat_le MOST_FEEDS n) ≡ true
    → (nat_le x MOST_HEAD_BYTES && nat_le y MOST_FEEDS) ≡ true → ⊥
past_limits m n x y a b f g = grind (arith, nat_tests)

-- no window comes where there is no room for one
pub no_window_stays : (bytes next : List ℕ) → window bytes ≡ None → is_full bytes ≡ true → window (bytes ++ next) ≡ None
no_window_stays bytes next w f = by_limits (limits bytes) (limits (bytes ++ next))
  where
    by_limits : Limits bytes → Limits (bytes ++ next) → window (bytes ++ next) ≡ None
    by_limits (Within k e g v) l = absurd (none-some k (sym w ∙ v))
    by_limits (Past k e g v) l =
        window_of (bytes ++ next) k (end_stays bytes next k e)
        ∙ ap (λ t. cond t (Some k) None) (fits_stays bytes next k (end_within_list bytes k e) ∙ g)
    by_limits (Nowhere e v) (Nowhere e' v') = v'
    by_limits (Nowhere e v) (Past k e' g' v') = v'
    by_limits (Nowhere e v) (Within k e' g' v') =
        let l : (length bytes < k) × (feeds bytes < feeds (take k (bytes ++ next))) = late bytes next k e e' in
        absurd (past_limits (length bytes) (feeds bytes) k (feeds (take k (bytes ++ next))) l.0 l.1 f g')

-- a window that fits leaves no doubt about the list: what is found is found of the whole
abbrev pub IsDecided : Found → Type 0
IsDecided NotYet = ⊥
IsDecided (Whole h) = ⊤
IsDecided Malformed = ⊤
IsDecided TooLarge = ⊤

pub finds_stays : (bytes next : List ℕ) (f : Found) → IsDecided f → Finds bytes f → Finds (bytes ++ next) f
finds_stays bytes next NotYet d x = absurd d
finds_stays bytes next TooLarge d x = (no_window_stays bytes next x.0 x.1, full_stays bytes next x.1)
finds_stays bytes next Malformed d x =
    let s : (x.0 ≤ length bytes) × (window (bytes ++ next) ≡ Some x.0) = window_stays bytes next x.0 x.1 in
    (x.0, s.1, subst HasNoHead (sym (take-append-le x.0 bytes next s.0)) x.2)
finds_stays bytes next (Whole h) d x =
    let s : (x.0 ≤ length bytes) × (window (bytes ++ next) ≡ Some x.0) = window_stays bytes next x.0 x.1 in
    (x.0, s.1, subst (λ l. HeadOf l h) (sym (take-append-le x.0 bytes next s.0)) x.2)

-- one head alone is at the front
pub one_head : (text : List ℕ) (h k : RequestHead) → HeadOf text h → HeadOf text k → h ≡ k
one_head text h k x y = (request_unique text h k x.0 y.0 x.1 y.1).0

same_window : (bytes : List ℕ) (m n : ℕ) → window bytes ≡ Some m → window bytes ≡ Some n → m ≡ n
same_window bytes m n v w = same_Some m n (sym v ∙ w)

pub one_found : (bytes : List ℕ) (f g : Found) → Finds bytes f → Finds bytes g → f ≡ g
one_found bytes (Whole h) (Whole k) x y =
    ap Whole (one_head (take x.0 bytes) h k x.2 (subst (λ n. HeadOf (take n bytes) k) (same_window bytes y.0 x.0 y.1 x.1) y.2))
one_found bytes (Whole h) Malformed x y = absurd (y.2 h (subst (λ n. HeadOf (take n bytes) h) (same_window bytes x.0 y.0 x.1 y.1) x.2))
one_found bytes (Whole h) TooLarge x y = absurd (none-some x.0 (sym y.0 ∙ x.1))
one_found bytes (Whole h) NotYet x y = absurd (none-some x.0 (sym y.0 ∙ x.1))
one_found bytes Malformed (Whole h) x y = absurd (x.2 h (subst (λ n. HeadOf (take n bytes) h) (same_window bytes y.0 x.0 y.1 x.1) y.2))
one_found bytes Malformed Malformed x y = refl
one_found bytes Malformed TooLarge x y = absurd (none-some x.0 (sym y.0 ∙ x.1))
one_found bytes Malformed NotYet x y = absurd (none-some x.0 (sym y.0 ∙ x.1))
one_found bytes TooLarge (Whole h) x y = absurd (none-some y.0 (sym x.0 ∙ y.1))
one_found bytes TooLarge Malformed x y = absurd (none-some y.0 (sym x.0 ∙ y.1))
one_found bytes TooLarge TooLarge x y = refl
one_found bytes TooLarge NotYet x y = absurd (true≢false (sym x.1 ∙ y.1))
one_found bytes NotYet (Whole h) x y = absurd (none-some y.0 (sym x.0 ∙ y.1))
one_found bytes NotYet Malformed x y = absurd (none-some y.0 (sym x.0 ∙ y.1))
one_found bytes NotYet TooLarge x y = absurd (true≢false (sym y.1 ∙ x.1))
one_found bytes NotYet NotYet x y = refl

pub one_step : (bytes : List ℕ) (o p : Outcome) → IsStep bytes o → IsStep bytes p → o ≡ p
one_step bytes o p x y = x.is ∙ (ap outcome (one_found bytes x.found y.found x.finds y.finds) ∙ sym y.is)

-- no step is also a wait
abbrev is_waiting : Outcome → Bool
is_waiting (Taken head len) = false
is_waiting (Refused status) = false
is_waiting Waiting = true

pub step_stays : (bytes next : List ℕ) (o : Outcome) → o ≢ Waiting → IsStep bytes o → IsStep (bytes ++ next) o
step_stays bytes next o n x = by_found x.found x.finds x.is
  where
    by_found : (f : Found) → Finds bytes f → o ≡ outcome f → IsStep (bytes ++ next) o
    by_found NotYet y e = absurd (n e)
    by_found (Whole h) y e = record { found = Whole h; finds = finds_stays bytes next (Whole h) tt y; is = e }
    by_found Malformed y e = record { found = Malformed; finds = finds_stays bytes next Malformed tt y; is = e }
    by_found TooLarge y e = record { found = TooLarge; finds = finds_stays bytes next TooLarge tt y; is = e }

pub taken≢waiting : (head : Head) (len : ℕ) → Taken head len ≢ Waiting
taken≢waiting head len e = true≢false (sym (ap is_waiting e))

pub refused≢waiting : (status : ℕ) → Refused status ≢ Waiting
refused≢waiting status e = true≢false (sym (ap is_waiting e))

abbrev is_refused : Outcome → Bool
is_refused (Taken head len) = false
is_refused (Refused status) = true
is_refused Waiting = false

pub refused≢taken : (status : ℕ) (head : Head) (len : ℕ) → Refused status ≢ Taken head len
refused≢taken status head len e = true≢false (ap is_refused e)

abbrev status_of : Outcome → ℕ
status_of (Taken head len) = 0
status_of (Refused status) = status
status_of Waiting = 0

pub same_status : (s t : ℕ) → Refused s ≡ Refused t → s ≡ t
same_status s t e = ap status_of e

abbrev len_of : Outcome → ℕ
len_of (Taken head len) = len
len_of (Refused status) = 0
len_of Waiting = 0

pub same_len : (h k : Head) (m n : ℕ) → Taken h m ≡ Taken k n → m ≡ n
same_len h k m n e = ap len_of e

abbrev head_or : Head → Outcome → Head
head_or other (Taken head len) = head
head_or other (Refused status) = other
head_or other Waiting = other

pub same_head : (h k : Head) (m n : ℕ) → Taken h m ≡ Taken k n → h ≡ k
same_head h k m n e = ap (head_or h) e

verdict_len : (h : RequestHead) (r : Option ℕ) (head : Head) (n : ℕ) → Taken head n ≡ verdict h r → n ≡ length (print_request h)
verdict_len h None head n e = ap len_of e
verdict_len h (Some s) head n e = absurd (refused≢taken s head n (sym e))

print_within : (text : List ℕ) (h : RequestHead) → HeadOf text h → length (print_request h) ≤ length text
print_within text h x = omega (arith, ap length x.1.1, length-append (print_request h) x.0)

-- a head that is taken lies in the list
pub taken_within : (bytes : List ℕ) (head : Head) (n : ℕ) → IsStep bytes (Taken head n) → n ≤ length bytes
taken_within bytes head n x = by_found x.found x.finds x.is
  where
    by_found : (f : Found) → Finds bytes f → Taken head n ≡ outcome f → n ≤ length bytes
    by_found NotYet y e = absurd (taken≢waiting head n e)
    by_found Malformed y e = absurd (refused≢taken 400 head n (sym e))
    by_found TooLarge y e = absurd (refused≢taken 431 head n (sym e))
    by_found (Whole h) y e = omega (arith, verdict_len h (refusal_of h) head n e, print_within (take y.0 bytes) h y.2, length-take y.0 bytes)

some_between : (a b c : List ℕ) → 0 < length b → 0 < length (a ++ (b ++ c))
some_between a b c h = omega (arith, h, length-append a (b ++ c), length-append b c)

print_some : (text : List ℕ) (h : RequestHead) → HeadOf text h → 0 < length (print_request h)
print_some text h x =
    subst (λ l. 0 < length l) (sym (print_request-append h []) ∙ append-nil (print_request h))
    (some_between (print_blank h.blank) h.method _ x.1.0.method.0)

-- a head that is taken has bytes
pub taken_some : (bytes : List ℕ) (head : Head) (n : ℕ) → IsStep bytes (Taken head n) → 0 < n
taken_some bytes head n x = by_found x.found x.finds x.is
  where
    by_found : (f : Found) → Finds bytes f → Taken head n ≡ outcome f → 0 < n
    by_found NotYet y e = absurd (taken≢waiting head n e)
    by_found Malformed y e = absurd (refused≢taken 400 head n (sym e))
    by_found TooLarge y e = absurd (refused≢taken 431 head n (sym e))
    by_found (Whole h) y e = omega (arith, verdict_len h (refusal_of h) head n e, print_some (take y.0 bytes) h y.2)

pub refusal_stays : (bytes next : List ℕ) (status : ℕ) → IsStep bytes (Refused status) → IsStep (bytes ++ next) (Refused status)
refusal_stays bytes next status x = step_stays bytes next (Refused status) (refused≢waiting status) x

pub verdict_waits : (h : RequestHead) (r : Option ℕ) → Waiting ≡ verdict h r → ⊥
verdict_waits h None e = taken≢waiting (asked_by h) (length (print_request h)) (sym e)
verdict_waits h (Some s) e = refused≢waiting s (sym e)
