-- The search keeps what the definition needs.
use Rattle.std.proofs.Common.{◌≡◌, ◌≢◌, ℕ, zero, suc, ◌+◌, ◌-◌, ◌<◌, ◌≤◌, List, [], ◌∷◌, ◌++◌, ◌==◌, ◌⊎◌, inl, inr, length, take, drop, get_or, Bool, true, false, not, ◌&&◌}
use Rattle.std.proofs.Common.{◌||◌, Option, None, Some, refl, sym, ap, subst, ◌∙◌, arith, append_assoc, take-append-drop, length-take-le, length-drop, get_or-drop}
use Rattle.std.proofs.lemmas.Bool.{eq-eqb, eqb-true, cases_eq, ne_eqb, and_parts}
use Rattle.std.proofs.lemmas.List.{take_more, take_rest, drop_more, take_all, append-nil}
use Rattle.std.specs.Option.{unwrap_or}
use Rattle.memchr.specs.Find.{IsFirstByte, Nowhere, Passes, is_byte}
use Rattle.http_request.specs.Ends.{is_blank_line, feeds}
use Rattle.http_request.specs.Scans.{IsScanned, ends_with, past, line_kind, line_past, is_other, Searches, end_from, head_end}
use Rattle.http_request.specs.declared.scan.Scan.{Scan}
use Rattle.http_request.specs.declared.scan.ScannedLine.{ScannedLine}
use Rattle.http_request.specs.declared.scan.ScannedLine.TheVariants as line
use Rattle.http_request.specs.declared.scan.Search.TheVariants as search
use Rattle.http_request.proofs.EndLemmas.{end_last, end_line, end_within, end_none, feeds-append}

pub blank_kind : (line : List ℕ) → is_blank_line line ≡ not (is_other (line_kind line))
blank_kind [] = refl
blank_kind (b ∷ []) = grind arith
blank_kind (b ∷ c ∷ bs) = refl

pub kind_past : (line : List ℕ) (b : ℕ) → line_past (line_kind line) b ≡ line_kind (line ++ b ∷ [])
kind_past [] b = refl
kind_past (a ∷ []) b = grind arith
kind_past (a ∷ c ∷ bs) b = refl

pub feeds-le-length : (xs : List ℕ) → feeds xs ≤ length xs
feeds-le-length [] = omega arith
feeds-le-length (x ∷ xs) = grind (arith, feeds-le-length xs)

pub counted : (bytes : List ℕ) (scan : Scan) → IsScanned bytes scan → scan.feeds ≤ scan.seen
counted bytes scan s = omega (arith, s.feeds, feeds-le-length (take scan.seen bytes), length-take-le scan.seen bytes s.within)

-- one byte more
ends_split : (begun : Bool) (line : List ℕ) (b : ℕ) → (b == 10 && (begun && not (is_other (line_kind line)))) ≡ true
    → (b ≡ 10) × ((begun && is_blank_line line) ≡ true)
ends_split begun line b e = rw (blank_kind line) (eqb-true b 10 (and_parts (b == 10) _ e).0, (and_parts (b == 10) _ e).1)

feeds_more : (bytes : List ℕ) (i : ℕ) → i < length bytes → feeds (take (i + 1) bytes) ≡ feeds (take i bytes) + feeds (get_or bytes i 0 ∷ [])
feeds_more bytes i h = ap feeds (take_more bytes i 0 h) ∙ feeds-append (take i bytes) (get_or bytes i 0 ∷ [])

taken_more : (bytes next : List ℕ) (i : ℕ) → i < length bytes → take (i + 1) bytes ++ next ≡ take i bytes ++ get_or bytes i 0 ∷ next
taken_more bytes next i h = ap (λ l. l ++ next) (take_more bytes i 0 h) ∙ append_assoc (take i bytes) (get_or bytes i 0 ∷ []) next

past_feed : (scan : Scan) (b : ℕ) → b ≡ 10
    → past scan b ≡ record { seen = scan.seen + 1; feeds = scan.feeds + 1; begun = scan.begun || is_other scan.line; line = line.Nothing }
past_feed scan b e = rw e

past_within : (scan : Scan) (b : ℕ) → b ≢ 10
    → past scan b ≡ record { seen = scan.seen + 1; feeds = scan.feeds; begun = scan.begun; line = line_past scan.line b }
past_within scan b e = rw (ne_eqb b 10 e)

at_place : (bytes : List ℕ) (scan : Scan) (s : IsScanned bytes scan) → scan.seen < length bytes
    → head_end bytes ≡ end_from scan.begun s.line scan.seen (get_or bytes scan.seen 0 ∷ drop (scan.seen + 1) bytes)
at_place bytes scan s h =
    ap head_end (sym (take-append-drop scan.seen bytes)) ∙ s.goes_on (drop scan.seen bytes)
    ∙ ap (end_from scan.begun s.line scan.seen) (drop_more bytes scan.seen 0 h)

feed_counts : (b : ℕ) → b ≡ 10 → feeds (b ∷ []) ≡ 1
feed_counts b e = rw e

other_counts : (b : ℕ) → b ≢ 10 → feeds (b ∷ []) ≡ 0
other_counts b e = rw (ne_eqb b 10 e)

other_is : (scan : Scan) (line : List ℕ) → scan.line ≡ line_kind line → is_other scan.line ≡ not (is_blank_line line)
other_is scan line e = ap is_other e ∙ (sym (not_not (is_other (line_kind line))) ∙ ap not (sym (blank_kind line)))
  where
    not_not : (b : Bool) → not (not b) ≡ b
    not_not true = refl
    not_not false = refl

pub scan_ends : (bytes : List ℕ) (scan : Scan) → IsScanned bytes scan → scan.seen < length bytes
    → ends_with scan (get_or bytes scan.seen 0) ≡ true
    → Searches bytes (search.End (past scan (get_or bytes scan.seen 0)).seen (past scan (get_or bytes scan.seen 0)).feeds)
scan_ends bytes scan s h e =
    let b = get_or bytes scan.seen 0 in
    let parts : (b ≡ 10) × ((scan.begun && is_blank_line s.line) ≡ true) =
    ends_split scan.begun s.line b (ap (λ k. b == 10 && (scan.begun && not (is_other k))) (sym s.kind) ∙ e) in
    rw (past_feed scan b parts.0) (
      at_place bytes scan s h ∙ end_last scan.begun s.line scan.seen b (drop (scan.seen + 1) bytes) parts.0 parts.1,
      omega (arith, s.feeds, feeds_more bytes scan.seen h, feed_counts b parts.0),
      omega (arith, h),
    )

-- not the end
goes_on_at_feed : (begun other blank : Bool) → other ≡ not blank → (begun && not other) ≡ false → (begun && blank) ≡ false
goes_on_at_feed begun other true e f = rw e at f
goes_on_at_feed true other false e f = refl
goes_on_at_feed false other false e f = refl

pub scan_past : (bytes : List ℕ) (scan : Scan) → IsScanned bytes scan → scan.seen < length bytes
    → ends_with scan (get_or bytes scan.seen 0) ≡ false → IsScanned bytes (past scan (get_or bytes scan.seen 0))
scan_past bytes scan s h e = by_byte (cases_eq (get_or bytes scan.seen 0) 10)
  where
    by_byte : (get_or bytes scan.seen 0 ≡ 10) ⊎ (get_or bytes scan.seen 0 ≢ 10) → IsScanned bytes (past scan (get_or bytes scan.seen 0))
    by_byte (inl f) =
        let b = get_or bytes scan.seen 0 in
        let not_end : (scan.begun && is_blank_line s.line) ≡ false
        = goes_on_at_feed scan.begun (is_other scan.line) (is_blank_line s.line) (other_is scan s.line s.kind)
        (ap (λ t. t && (scan.begun && not (is_other scan.line))) (sym (eq-eqb b 10 f)) ∙ e) in
        rw (past_feed scan b f) (record {
          line = [];
          kind = refl;
          within = omega (arith, h);
          feeds = omega (arith, s.feeds, feeds_more bytes scan.seen h, feed_counts b f);
          goes_on = λ next. ap head_end (taken_more bytes next scan.seen h) ∙ (s.goes_on (b ∷ next) ∙ (end_line scan.begun s.line scan.seen b next f not_end
              ∙ ap (λ o. end_from (scan.begun || o) [] (scan.seen + 1) next) (sym (other_is scan s.line s.kind))));
        })
    by_byte (inr f) =
        let b = get_or bytes scan.seen 0 in
        rw (past_within scan b f) (record {
          line = s.line ++ b ∷ [];
          kind = ap (λ k. line_past k b) s.kind ∙ kind_past s.line b;
          within = omega (arith, h);
          feeds = omega (arith, s.feeds, feeds_more bytes scan.seen h, other_counts b f);
          goes_on = λ next. ap head_end (taken_more bytes next scan.seen h) ∙ (s.goes_on (b ∷ next) ∙ end_within scan.begun s.line scan.seen b next f);
        })

-- one more byte of a line that has other bytes, and that it does not end
pub scan_other : (bytes : List ℕ) (scan : Scan) → IsScanned bytes scan → scan.line ≡ line.Other → scan.seen < length bytes
    → get_or bytes scan.seen 0 ≢ 10 → IsScanned bytes (record scan { seen = scan.seen + 1 })
scan_other bytes scan s other h f =
    let b = get_or bytes scan.seen 0 in
    let is_past : past scan b ≡ record scan { seen = scan.seen + 1 } =
    past_within scan b f
    ∙ ap (λ (l : ScannedLine). record { seen = scan.seen + 1; feeds = scan.feeds; begun = scan.begun; line = l })
    (ap (λ l. line_past l b) other ∙ sym other) in
    subst (IsScanned bytes) is_past (scan_past bytes scan s h (ap (λ t. t && (scan.begun && not (is_other scan.line))) (ne_eqb b 10 f)))

-- at the end of the list
pub scan_open : (bytes : List ℕ) (scan : Scan) → IsScanned bytes scan → scan.seen ≡ length bytes → head_end bytes ≡ None
scan_open bytes scan s e =
    ap head_end (sym (append-nil (take scan.seen bytes) ∙ take_all scan.seen bytes (omega (arith, e)))) ∙ (s.goes_on [] ∙ end_none scan.begun s.line scan.seen)

-- so many bytes more of a line that has other bytes, none of which is a line feed
scan_others : (bytes : List ℕ) (scan : Scan) (n : ℕ) → IsScanned bytes scan → scan.line ≡ line.Other → scan.seen + n ≤ length bytes
    → ((k : ℕ) → k < n → get_or bytes (scan.seen + k) 0 ≢ 10) → IsScanned bytes (record scan { seen = scan.seen + n })
scan_others bytes scan zero s other h none =
    let from_start : scan.seen ≡ scan.seen + 0 = omega arith in
    subst (λ i. IsScanned bytes (record scan { seen = i })) from_start s
scan_others bytes scan (suc n) s other h none =
    let one_more : scan.seen + n + 1 ≡ scan.seen + suc n = omega arith in
    let before : IsScanned bytes (record scan { seen = scan.seen + n }) =
    scan_others bytes scan n s other (omega (arith, h)) (λ k below. none k (omega (arith, below))) in
    subst (λ i. IsScanned bytes (record scan { seen = i })) one_more
    (scan_other bytes (record scan { seen = scan.seen + n }) before other (omega (arith, h)) (none n (omega arith)))

-- what follows the searched bytes
abbrev after : List ℕ → Scan → List ℕ
after bytes scan = take (length bytes - scan.seen) (drop scan.seen bytes)

after_at : (bytes : List ℕ) (scan : Scan) (k : ℕ) → get_or (after bytes scan) k 0 ≡ get_or bytes (scan.seen + k) 0
after_at bytes scan k = ap (λ l. get_or l k 0) (take_rest bytes scan.seen) ∙ get_or-drop scan.seen bytes k 0

length_after : (bytes : List ℕ) (scan : Scan) → scan.seen ≤ length bytes → scan.seen + length (after bytes scan) ≡ length bytes
length_after bytes scan h = omega (arith, h, ap length (take_rest bytes scan.seen) ∙ length-drop scan.seen bytes)

not_feed : (bytes : List ℕ) (scan : Scan) (n : ℕ) → Nowhere (Passes (is_byte 10) (after bytes scan)) 0 n
    → (k : ℕ) → k < n → get_or bytes (scan.seen + k) 0 ≢ 10
not_feed bytes scan n none k below e = none k (omega arith) below (eq-eqb _ 10 (after_at bytes scan k ∙ e))

-- on to the next line feed
pub scan_to_feed : (bytes : List ℕ) (scan : Scan) (found : Option ℕ) → IsScanned bytes scan → scan.line ≡ line.Other
    → IsFirstByte (is_byte 10) (after bytes scan) found
    → IsScanned bytes (record scan { seen = scan.seen + unwrap_or found (length (after bytes scan)) })
scan_to_feed bytes scan None s other none =
    scan_others bytes scan (length (after bytes scan)) s other (omega (arith, length_after bytes scan s.within)) (not_feed bytes scan (length (after bytes scan)) none)
scan_to_feed bytes scan (Some n) s other some =
    scan_others bytes scan n s other (omega (arith, some.0.high, length_after bytes scan s.within)) (not_feed bytes scan n some.0.before)
