-- The lines of a request, and where its head ends.
use Rattle.std.proofs.Common.{◌≡◌, ℕ, ◌+◌, ◌*◌, ◌≤◌, ◌==◌, List, [], ◌∷◌, ◌++◌, length, take, Bool, true, false, ◌&&◌, not, cond, codes, nat_le, None, Some}
use Rattle.std.proofs.Common.{refl, sym, ap, ◌∙◌}
use Rattle.std.proofs.Common.{arith, append_assoc, append-nil, length-append, option_and_then, All}
use Rattle.std.specs.List.{list_all}
use Rattle.std.proofs.lemmas.Bool.Decides.{nat_tests}
use Rattle.std.proofs.lemmas.List.{take_all}
use Rattle.std.proofs.lemmas.List.Folds.{list_all-append}
use Rattle.std.proofs.lemmas.List.Sums.{list_all-from_AllPass}
use Rattle.std.proofs.lemmas.List.Elements.{All-weaker}
use Rattle.td_base.specs.declared.report.Ask.{Ask}
use Rattle.td_base.specs.declared.report.Ask.TheVariants as ask
use Rattle.http_client.specs.CalendarRequests.{calendar_accepted}
use Rattle.http_client.specs.Requests.{accepted, escaped, request_line, target_of, text_with}
use Rattle.http_request.specs.Ends.{end_among, feeds, fits, head_lines_from, window}
use Rattle.http_request.specs.Judging.{is_host, is_host_byte}
use Rattle.mirror_world.specs.Asking.{IsAskable, text_asked}
use Rattle.mirror_world.proofs.Escapes.{escaped_quiet, escaped_short, is_quiet}
use Rattle.mirror_world.proofs.Values.{both, first, second}

-- ---- lines, each with its end

-- no byte of the line is a line feed
abbrev pub is_line : List ℕ → Bool
is_line line = list_all (λ b. not (b == 10)) line

abbrev pub text_of : List (List ℕ) → List ℕ
text_of [] = []
text_of (line ∷ lines) = line ++ (10 ∷ text_of lines)

-- past a line
past : (start line rest : List ℕ) → is_line line ≡ true → head_lines_from start (line ++ (10 ∷ rest)) ≡ (start ++ line) ∷ head_lines_from [] rest
unfolding head_lines_from
past start [] rest h = ap (λ l. l ∷ head_lines_from [] rest) (sym (append-nil start))
past start (b ∷ bs) rest h = by (b == 10) h (λ k. past (start ++ b ∷ []) bs rest k)
  where
    by : (t : Bool) → (not t && is_line bs) ≡ true
        → (is_line bs ≡ true → head_lines_from (start ++ b ∷ []) (bs ++ (10 ∷ rest)) ≡ ((start ++ b ∷ []) ++ bs) ∷ head_lines_from [] rest)
        → cond t (start ∷ head_lines_from [] (bs ++ (10 ∷ rest))) (head_lines_from (start ++ b ∷ []) (bs ++ (10 ∷ rest)))
        ≡ (start ++ b ∷ bs) ∷ head_lines_from [] rest
    by true k again = absurd (cc)
    by false k again = again k ∙ ap (λ l. l ∷ head_lines_from [] rest) (append_assoc start (b ∷ []) bs)

pub lines_are : (lines : List (List ℕ)) → list_all is_line lines ≡ true → head_lines_from [] (text_of lines) ≡ lines
unfolding head_lines_from
lines_are [] h = refl
lines_are (line ∷ lines) h =
    past [] line (text_of lines) (first (is_line line) (list_all is_line lines) h)
    ∙ ap (λ l. line ∷ l) (lines_are lines (second (is_line line) (list_all is_line lines) h))

abbrev one_if : Bool → ℕ
one_if t = cond t 1 0

no_feed : (t : Bool) → not t ≡ true → one_if t ≡ 0
no_feed true h = absurd (cc)
no_feed false h = refl

line_feeds : (line rest : List ℕ) → is_line line ≡ true → feeds (line ++ (10 ∷ rest)) ≡ 1 + feeds rest
line_feeds [] rest h = refl
line_feeds (b ∷ bs) rest h =
    let none : one_if (b == 10) ≡ 0 = no_feed (b == 10) (first (not (b == 10)) (is_line bs) h) in
    let later = line_feeds bs rest (second (not (b == 10)) (is_line bs) h) in
    omega (arith, none, later)

pub all_feeds : (lines : List (List ℕ)) → list_all is_line lines ≡ true → feeds (text_of lines) ≡ length lines
all_feeds [] h = refl
all_feeds (line ∷ lines) h =
    let one = line_feeds line (text_of lines) (first (is_line line) (list_all is_line lines) h) in
    let later = all_feeds lines (second (is_line line) (list_all is_line lines) h) in
    omega (arith, one, later)

-- ---- the lines of a request

abbrev line_one : Ask → List ℕ
line_one a = codes "GET " ++ (target_of a ++ codes " HTTP/1.0\r")

abbrev line_two : List ℕ → List ℕ
line_two host = codes "Host: " ++ (host ++ codes "\r")

abbrev line_three : List ℕ → List ℕ
line_three media = codes "Accept: " ++ (media ++ codes "\r")

abbrev pub lines_of : List ℕ → List ℕ → Ask → List (List ℕ)
lines_of media host a = line_one a ∷ line_two host ∷ line_three media ∷ codes "Connection: close\r" ∷ codes "\r" ∷ []

joined : (get target version host_name host media_name media return rest : List ℕ)
    → (get ++ (target ++ (version ++ (10 ∷ [])))) ++ ((host_name ++ (host ++ (return ++ (10 ∷ [])))) ++ (media_name ++ (media ++ (return ++ (10 ∷ rest)))))
    ≡ (get ++ (target ++ version)) ++ (10 ∷ ((host_name ++ (host ++ return)) ++ (10 ∷ ((media_name ++ (media ++ return)) ++ (10 ∷ rest)))))
joined get target version host_name host media_name media return rest = simp append_assoc

pub is_written : (media host : List ℕ) (a : Ask) → text_with media host a ≡ text_of (lines_of media host a)
unfolding request_line
is_written media host a =
    joined (codes "GET ") (target_of a) (codes " HTTP/1.0\r") (codes "Host: ") host (codes "Accept: ") media (codes "\r")
    (codes "Connection: close\r\n\r\n")

quiet_line : (text : List ℕ) → All (λ b. is_quiet b ≡ true) text → is_line text ≡ true
quiet_line text h = list_all-from_AllPass (λ b. not (b == 10)) text (All-weaker (λ b. is_quiet b ≡ true) (λ b. not (b == 10) ≡ true) quiet text h)
  where
    quiet : (b : ℕ) → is_quiet b ≡ true → not (b == 10) ≡ true
    quiet b k = first (not (b == 10)) (not (b == 38) && not (b == 43)) k

append_line : (xs ys : List ℕ) → is_line xs ≡ true → is_line ys ≡ true → is_line (xs ++ ys) ≡ true
append_line xs ys h k = list_all-append (λ b. not (b == 10)) xs ys ∙ both (is_line xs) (is_line ys) h k

target_line : (a : Ask) → is_line (target_of a) ≡ true
unfolding target_of
target_line (ask.List None) = refl
target_line (ask.List (Some token)) = append_line (codes "/tzdist/zones?changedsince=") (escaped token) refl (quiet_line (escaped token) (escaped_quiet token))
target_line (ask.Get name) = append_line (codes "/tzdist/zones/") (escaped name) refl (quiet_line (escaped name) (escaped_quiet name))

host_byte_line : (b : ℕ) → is_host_byte b ≡ true → not (b == 10) ≡ true
host_byte_line b h = grind (arith, nat_tests)

host_line : (host : List ℕ) → is_host host ≡ true → is_line host ≡ true
host_line [] h = refl
host_line (b ∷ bs) h =
    both (not (b == 10)) (is_line bs) (host_byte_line b (first (is_host_byte b) (is_host bs) h)) (host_line bs (second (is_host_byte b) (is_host bs) h))

framed_line : (front text end : List ℕ) → is_line front ≡ true → is_line text ≡ true → is_line end ≡ true → is_line (front ++ (text ++ end)) ≡ true
framed_line front text end f t e = append_line front (text ++ end) f (append_line text end t e)

pub all_lines : (media host : List ℕ) (a : Ask) → is_line media ≡ true → is_host host ≡ true → list_all is_line (lines_of media host a) ≡ true
all_lines media host a m h =
    both (is_line (line_one a)) _ (framed_line (codes "GET ") (target_of a) (codes " HTTP/1.0\r") refl (target_line a) refl)
    (both (is_line (line_two host)) _ (framed_line (codes "Host: ") host (codes "\r") refl (host_line host h) refl)
    (both (is_line (line_three media)) _ (framed_line (codes "Accept: ") media (codes "\r") refl m refl) refl))

-- ---- where the head ends

last_place : (l₁ l₂ l₃ : List ℕ) (n : ℕ)
    → n ≡ length (text_of (l₁ ∷ l₂ ∷ l₃ ∷ codes "Connection: close\r" ∷ codes "\r" ∷ []))
    → 0 + length l₁ + 1 + length l₂ + 1 + length l₃ + 1 + 18 + 1 + 1 + 1 ≡ n
last_place l₁ l₂ l₃ n is =
    let three = length-append l₃ (10 ∷ codes "Connection: close\r\n\r\n") in
    let two = length-append l₂ (10 ∷ (l₃ ++ (10 ∷ codes "Connection: close\r\n\r\n"))) in
    let one = length-append l₁ (10 ∷ (l₂ ++ (10 ∷ (l₃ ++ (10 ∷ codes "Connection: close\r\n\r\n"))))) in
    omega (arith, is, one, two, three)

end_is : (media host : List ℕ) (a : Ask) → end_among false 0 (lines_of media host a) ≡ Some (length (text_of (lines_of media host a)))
unfolding end_among
end_is media host a = ap Some (last_place (line_one a) (line_two host) (line_three media) (length (text_of (lines_of media host a))) refl)

target_short : (a : Ask) → length (target_of a) ≤ 27 + 3 * length (text_asked a)
unfolding target_of
target_short (ask.List None) = omega arith
target_short (ask.List (Some token)) =
    omega (arith, escaped_short token, length-append (codes "/tzdist/zones?changedsince=") (escaped token))
target_short (ask.Get name) = omega (arith, escaped_short name, length-append (codes "/tzdist/zones/") (escaped name))

text_short : (media host : List ℕ) (a : Ask) → length media ≤ 16 → length host + 3 * length (text_asked a) ≤ 16000
    → length (text_of (lines_of media host a)) ≤ 16384
text_short media host a m k =
    let t = target_short a in
    let line₁ = length-append (codes "GET ") (target_of a ++ codes " HTTP/1.0\r") in
    let end₁ = length-append (target_of a) (codes " HTTP/1.0\r") in
    let line₂ = length-append (codes "Host: ") (host ++ codes "\r") in
    let end₂ = length-append host (codes "\r") in
    let line₃ = length-append (codes "Accept: ") (media ++ codes "\r") in
    let end₃ = length-append media (codes "\r") in
    let whole = last_place (line_one a) (line_two host) (line_three media) (length (text_of (lines_of media host a))) refl in
    omega (arith, k, t, m, line₁, end₁, line₂, end₂, line₃, end₃, whole)

le_test : (m n : ℕ) → m ≤ n → nat_le m n ≡ true
le_test m n le = grind (arith, nat_tests)

-- a media type that fits in a line of a request
pub record FitsInLine (media : List ℕ) : Type 0 where
  pub line : is_line media ≡ true
  pub short : length media ≤ 16

pub accepted_fits : (a : Ask) → FitsInLine (accepted a)
unfolding accepted
accepted_fits (ask.List token) = record { line = refl; short = omega arith }
accepted_fits (ask.Get name) = record { line = refl; short = omega arith }

pub calendar_accepted_fits : (a : Ask) → FitsInLine (calendar_accepted a)
unfolding calendar_accepted
calendar_accepted_fits (ask.List token) = record { line = refl; short = omega arith }
calendar_accepted_fits (ask.Get name) = record { line = refl; short = omega arith }

module _ (media host : List ℕ) (a : Ask) (media_fits : FitsInLine media) (askable : IsAskable host a) where
  abbrev text : List ℕ
  text = text_of (lines_of media host a)

  lines_so : list_all is_line (lines_of media host a) ≡ true
  lines_so = all_lines media host a media_fits.line askable.is_host

  fits_so : fits text (length text) ≡ true
  fits_so =
      let count : feeds (take (length text) text) ≡ 5 =
      ap feeds (take_all (length text) text (omega arith)) ∙ all_feeds (lines_of media host a) lines_so in
      both (nat_le (length text) 16384) (nat_le (feeds (take (length text) text)) 66)
      (le_test (length text) 16384 (text_short media host a media_fits.short askable.fits))
      (le_test (feeds (take (length text) text)) 66 (omega (arith, count)))

  pub window_is : window text ≡ Some (length text)
  window_is =
      ap (λ lines. option_and_then (λ n. cond (fits text n) (Some n) None) (end_among false 0 lines))
      (lines_are (lines_of media host a) lines_so)
      ∙ ap (λ o. option_and_then (λ n. cond (fits text n) (Some n) None) o) (end_is media host a) ∙ ap (λ t. cond t (Some (length text)) None) fits_so
