-- What the limits and the reading of a window say of the step.
use Rattle.std.proofs.Common.{◌≡◌, ℕ, ◌<◌, ◌≤◌, inl, inr, List, length, take, true, false, ◌&&◌, ◌||◌, nat_le, cond, Result, Ok, Err, OnErr, Option, Some, None}
use Rattle.std.proofs.Common.{refl, sym, ap, ◌∙◌, subst, arith}
use Rattle.std.proofs.lemmas.Bool.Decides.{nat_tests}
use Rattle.std.proofs.lemmas.List.{take_all}
use Rattle.httparse.specs.Grammar.{RequestHead, print_request}
use Rattle.http_request.specs.Ends.{feeds, fits, window, is_full}
use Rattle.http_request.specs.Judging.{refusal_of, asked_by}
use Rattle.http_request.specs.Steps.{HeadOf, Whole, Malformed, TooLarge, NotYet, Taken, Refused, Waiting, verdict, IsStep, IsTaken}
use Rattle.http_request.specs.Scans.{IsScanned, head_end}
use Rattle.http_request.specs.Readings.{ReadsHead, FindsStep, IsServedMethod}
use Rattle.http_request.specs.declared.scan.Scan.{Scan}
use Rattle.http_request.specs.declared.limits.TheConstants.{MOST_HEAD_BYTES, MOST_FEEDS}
use Rattle.http_request.specs.declared.step.Step.{Step}
use Rattle.http_request.specs.declared.step.Step.TheVariants as step
use Rattle.http_request.proofs.EndLemmas.{feeds-take}
use Rattle.http_request.proofs.ScanLemmas.{feeds-le-length, scan_open}
use Rattle.http_request.proofs.lemmas.StepLemmas.{end_within_list, window_of, no_end}

some_by : (m n : ℕ) → n ≤ m → (nat_le MOST_HEAD_BYTES m || nat_le MOST_FEEDS n) ≡ true → 0 < m
some_by m n h f = grind (arith, nat_tests)

pub full_some : (bytes : List ℕ) → is_full bytes ≡ true → 0 < length bytes
full_some bytes f = some_by (length bytes) (feeds bytes) (feeds-le-length bytes) f

-- nothing ends in the bytes
pub full_is : (bytes : List ℕ) (scan : Scan) → IsScanned bytes scan → scan.seen ≡ length bytes
    → is_full bytes ≡ (nat_le MOST_HEAD_BYTES (length bytes) || nat_le MOST_FEEDS scan.feeds)
full_is bytes scan s e =
    let whole : feeds (take scan.seen bytes) ≡ feeds bytes = ap feeds (take_all scan.seen bytes (omega (arith, e))) in
    ap (λ n. nat_le MOST_HEAD_BYTES (length bytes) || nat_le MOST_FEEDS n) (sym (s.feeds ∙ whole))

pub waits_full : (bytes : List ℕ) (scan : Scan) → IsScanned bytes scan → scan.seen ≡ length bytes
    → (nat_le MOST_HEAD_BYTES (length bytes) || nat_le MOST_FEEDS scan.feeds) ≡ true → IsStep bytes (Refused 431)
waits_full bytes scan s e f =
    record { found = TooLarge; finds = (no_end bytes (scan_open bytes scan s e), full_is bytes scan s e ∙ f); is = refl }

pub waits_more : (bytes : List ℕ) (scan : Scan) → IsScanned bytes scan → scan.seen ≡ length bytes
    → (nat_le MOST_HEAD_BYTES (length bytes) || nat_le MOST_FEEDS scan.feeds) ≡ false → IsStep bytes Waiting
waits_more bytes scan s e f =
    record { found = NotYet; finds = (no_end bytes (scan_open bytes scan s e), full_is bytes scan s e ∙ f); is = refl }

pub past_is_full : (n m x y : ℕ) → n ≤ m → x ≤ y
    → (nat_le n MOST_HEAD_BYTES && nat_le x MOST_FEEDS) ≡ false → (nat_le MOST_HEAD_BYTES m || nat_le MOST_FEEDS y) ≡ true
past_is_full n m x y a b f = grind (arith, nat_tests)

-- a head ends in the bytes: `count` is how many line feeds it has
pub ends_past : (bytes : List ℕ) (n count : ℕ) → head_end bytes ≡ Some n → count ≡ feeds (take n bytes)
    → (nat_le n MOST_HEAD_BYTES && nat_le count MOST_FEEDS) ≡ false → IsStep bytes (Refused 431)
ends_past bytes n count e c f =
    let g : fits bytes n ≡ false = ap (λ k. nat_le n MOST_HEAD_BYTES && nat_le k MOST_FEEDS) (sym c) ∙ f in
    record {
      found = TooLarge;
      finds = (
        window_of bytes n e ∙ ap (λ t. cond t (Some n) None) g,
        past_is_full n (length bytes) (feeds (take n bytes)) (feeds bytes) (end_within_list bytes n e) (feeds-take n bytes) g,
      );
      is = refl;
    }

within_is : (bytes : List ℕ) (n count : ℕ) → head_end bytes ≡ Some n → count ≡ feeds (take n bytes)
    → (nat_le n MOST_HEAD_BYTES && nat_le count MOST_FEEDS) ≡ true → window bytes ≡ Some n
within_is bytes n count e c f =
    window_of bytes n e ∙ ap (λ t. cond t (Some n) None) (ap (λ k. nat_le n MOST_HEAD_BYTES && nat_le k MOST_FEEDS) (sym c) ∙ f)

judged : (bytes : List ℕ) (n : ℕ) (h : RequestHead) (r : Option ℕ) → window bytes ≡ Some n → HeadOf (take n bytes) h
    → refusal_of h ≡ r → IsStep bytes (verdict h r)
judged bytes n h r w x e = record { found = Whole h; finds = (n, w, x); is = ap (verdict h) (sym e) }

pub ends_within : (bytes : List ℕ) (n count : ℕ) (r : Step) → head_end bytes ≡ Some n → count ≡ feeds (take n bytes)
    → (nat_le n MOST_HEAD_BYTES && nat_le count MOST_FEEDS) ≡ true → ReadsHead (take n bytes) r → FindsStep bytes r
ends_within bytes n count (step.Taken head len) e c f x =
    subst (λ o. IsStep bytes o) (ap (λ l. Taken l (length (print_request x.0))) (sym x.3) ∙ ap (Taken head) (sym x.4))
    (judged bytes n x.0 None (within_is bytes n count e c f) x.1 x.2)
ends_within bytes n count (step.Refused status) e c f (inl x) = judged bytes n x.0 (Some status) (within_is bytes n count e c f) x.1 x.2
ends_within bytes n count (step.Refused status) e c f (inr x) =
    record { found = Malformed; finds = (n, within_is bytes n count e c f, x.0); is = ap Refused x.1 }
ends_within bytes n count (step.Waiting scan) e c f x = absurd x

pub ends_taken : (bytes : List ℕ) (n count : ℕ) → head_end bytes ≡ Some n → count ≡ feeds (take n bytes)
    → (nat_le n MOST_HEAD_BYTES && nat_le count MOST_FEEDS) ≡ true → IsServedMethod (take n bytes) → IsTaken bytes
ends_taken bytes n count e c f x =
    (asked_by x.0, length (print_request x.0), judged bytes n x.0 None (within_is bytes n count e c f) x.1 x.2)

-- a fact that holds in any case
pub on_err_anyway : {A E : Type 0} (r : Result A E) (P : Type 0) → P → OnErr r P
on_err_anyway (Ok a) P p = tt
on_err_anyway (Err e) P p = p
