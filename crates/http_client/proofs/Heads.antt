-- The request is a head of the grammar of heads.
use Rattle.std.proofs.Common.{◌≡◌, ℕ, ◌<◌, List, [], ◌∷◌, ◌++◌, length, map, reverse, Bool, true, false, ◌&&◌, not, cond, codes, None, Some, refl, sym, ap}
use Rattle.std.proofs.Common.{◌∙◌, subst, arith, append_assoc, append-nil, All}
use Rattle.std.specs.List.{list_all}
use Rattle.std.proofs.lemmas.Bool.{true≢false}
use Rattle.std.proofs.lemmas.Bool.Decides.{nat_tests}
use Rattle.std.proofs.lemmas.List.{reverse-append}
use Rattle.std.proofs.lemmas.List.Elements.{All-append, All-cons, All-nil, All-weaker}
use Rattle.std.proofs.lemmas.List.Folds.{list_all-append}
use Rattle.std.proofs.lemmas.List.Sums.{AllPass-from_list_all}
use Rattle.std.proofs.lemmas.Str.{IsUtf8-from_ascii}
use Rattle.std.proofs.lemmas.Str.Ascii.{IsAscii-from_all}
use Rattle.httparse.specs.Grammar.{Field, IsField, IsRequestHead, RequestHead, crlf, is_ows, is_token_byte, is_uri_byte, is_value_byte}
use Rattle.httparse.specs.Grammar.{print_request, skip_ows, trim_ows}
use Rattle.httparse.specs.Spans.{name_and_value}
use Rattle.httparse.proofs.TrimLemmas.{trim_ows_space}
use Rattle.percent_encoding.specs.AsciiSet.{should_percent_encode}
use Rattle.percent_encoding.proofs.PercentLemmas.{All-percent_encode, IsEscapeByte}
use Rattle.td_base.specs.declared.report.Ask.{Ask}
use Rattle.td_base.specs.declared.report.Ask.TheVariants as ask
use Rattle.http_client.specs.CalendarRequests.{calendar_accepted, calendar_request_text}
use Rattle.http_client.specs.Requests.{accepted, escaped, is_unreserved, request_line, request_text, target_of, text_with}
use Rattle.http_client.specs.SentHeads.{IsSentCalendarHead, IsSentHead, IsSentHeadOf, is_visible_byte, is_visible_text}
use Rattle.http_client.specs.declared.requesting.TheConstants.{ESCAPED}
use Rattle.http_client.proofs.Escapes.{escapes, text_escaped}

-- ---- visible bytes

abbrev IsVisible : ℕ → Type 0
IsVisible b = is_visible_byte b ≡ true

no_blank : (b : ℕ) → is_visible_byte b ≡ true → is_ows b ≡ false
no_blank b v = grind (arith, nat_tests)

of_value : (b : ℕ) → is_visible_byte b ≡ true → is_value_byte b ≡ true
of_value b v = grind (arith, nat_tests)

of_target : (b : ℕ) → is_visible_byte b ≡ true → is_uri_byte b ≡ true
of_target b v = grind (arith, nat_tests)

of_ascii : (b : ℕ) → is_visible_byte b ≡ true → b < 128
of_ascii b v = grind (arith, nat_tests)

unreserved_visible : (b : ℕ) → is_unreserved b ≡ true → is_visible_byte b ≡ true
unreserved_visible b u = grind (arith, nat_tests)

escape_visible : (b : ℕ) → IsEscapeByte b → is_visible_byte b ≡ true
escape_visible b e = grind (arith, nat_tests)

kept_visible : (b : ℕ) → should_percent_encode ESCAPED b ≡ false → is_visible_byte b ≡ true
kept_visible b kept = by_test (is_unreserved b) refl
  where
    by_test : (t : Bool) → is_unreserved b ≡ t → is_visible_byte b ≡ true
    by_test true u = unreserved_visible b u
    by_test false u = absurd (true≢false (sym (escapes b ∙ ap not u) ∙ kept))

first : (s t : Bool) → (s && t) ≡ true → s ≡ true
first true t e = refl
first false t e = e

-- ---- values

skips_none : (v : List ℕ) → is_visible_text v ≡ true → skip_ows v ≡ v
skips_none [] h = refl
skips_none (b ∷ bs) h = ap (λ t. cond t (skip_ows bs) (b ∷ bs)) (no_blank b (first (is_visible_byte b) (is_visible_text bs) h))

turned : (v : List ℕ) → is_visible_text v ≡ true → is_visible_text (reverse v) ≡ true
turned [] h = refl
turned (b ∷ bs) h =
    ap is_visible_text (reverse-append (b ∷ []) bs) ∙ list_all-append is_visible_byte (reverse bs) (b ∷ [])
    ∙ both (is_visible_byte b) (is_visible_text bs) (is_visible_text (reverse bs)) h (turned bs)
  where
    both : (s t r : Bool) → (s && t) ≡ true → (t ≡ true → r ≡ true) → (r && (s && true)) ≡ true
    both true t r e f = rw (f e) refl
    both false t r e f = absurd (true≢false (sym e))

trimmed : (v : List ℕ) → is_visible_text v ≡ true → trim_ows (32 ∷ v) ≡ v
trimmed v h = trim_ows_space v (skips_none v h) (skips_none (reverse v) (turned v h))

-- ---- the head

abbrev field_with : List ℕ → List ℕ → Field
field_with name value = record { name = name; raw = 32 ∷ value; end = crlf }

abbrev pub head_with : List ℕ → List ℕ → List ℕ → RequestHead
head_with target host media = record {
  blank = [];
  method = codes "GET";
  target = target;
  minor = 0;
  line_end = crlf;
  fields = field_with (codes "Host") host ∷ field_with (codes "Accept") media ∷ field_with (codes "Connection") (codes "close") ∷ [];
  last = crlf;
}

-- parts that are joined one way are those that are joined the other way
joined : (get target version end host_name host media_name media close last : List ℕ) → last ≡ end ++ (close ++ end)
    → (get ++ (target ++ (version ++ end))) ++ ((host_name ++ (host ++ end)) ++ (media_name ++ (media ++ last)))
    ≡ get ++ ((((target ++ version) ++ end) ++ (host_name ++ (((host ++ end) ++ (media_name ++ ((media ++ end) ++ close))) ++ end))) ++ [])
joined get target version end host_name host media_name media close last is = rw is (simp (append_assoc, append-nil))

printed : (target host media : List ℕ)
    → (codes "GET " ++ (target ++ codes " HTTP/1.0\r\n")) ++ ((codes "Host: " ++ (host ++ codes "\r\n")) ++
    (codes "Accept: " ++ (media ++ codes "\r\nConnection: close\r\n\r\n"))) ≡ print_request (head_with target host media) ++ []
unfolding print_request
printed target host media =
    joined (codes "GET ") target (codes " HTTP/1.0") (codes "\r\n") (codes "Host: ") host (codes "Accept: ") media (codes "Connection: close\r\n")
    (codes "\r\nConnection: close\r\n\r\n") refl

is_written : (media host : List ℕ) (a : Ask) → text_with media host a ≡ print_request (head_with (target_of a) host media) ++ []
unfolding request_line
is_written media host a = printed (target_of a) host media

value_passes : (v : List ℕ) → is_visible_text v ≡ true → All (λ b. is_value_byte b ≡ true) (32 ∷ v)
value_passes v h =
    All-cons (λ b. is_value_byte b ≡ true) 32 v refl
    (All-weaker IsVisible (λ b. is_value_byte b ≡ true) of_value v (AllPass-from_list_all is_visible_byte v h))

named : (name value : List ℕ) → 0 < length name → list_all is_token_byte name ≡ true → is_visible_text value ≡ true → IsField (field_with name value)
named name value some token h =
    record { name = (some, AllPass-from_list_all is_token_byte name token); raw = value_passes value h }

host_token : list_all is_token_byte (codes "Host") ≡ true
unfolding is_token_byte
host_token = refl

accept_token : list_all is_token_byte (codes "Accept") ≡ true
unfolding is_token_byte
accept_token = refl

connection_token : list_all is_token_byte (codes "Connection") ≡ true
unfolding is_token_byte
connection_token = refl

method_token : list_all is_token_byte (codes "GET") ≡ true
unfolding is_token_byte
method_token = refl

media_visible : (a : Ask) → is_visible_text (accepted a) ≡ true
unfolding accepted
media_visible (ask.List token) = refl
media_visible (ask.Get name) = refl

calendar_media_visible : (a : Ask) → is_visible_text (calendar_accepted a) ≡ true
unfolding calendar_accepted
calendar_media_visible (ask.List token) = refl
calendar_media_visible (ask.Get name) = refl

escaped_visible : (text : List ℕ) → All IsVisible (escaped text)
escaped_visible text = subst (All IsVisible) (text_escaped text) (All-percent_encode IsVisible ESCAPED text kept_visible escape_visible)

path_visible : (path text : List ℕ) → is_visible_text path ≡ true → All IsVisible (path ++ escaped text)
path_visible path text h = All-append IsVisible path (escaped text) (AllPass-from_list_all is_visible_byte path h) (escaped_visible text)

target_visible : (a : Ask) → (0 < length (target_of a)) × All IsVisible (target_of a)
unfolding target_of
target_visible (ask.List None) = (omega arith, AllPass-from_list_all is_visible_byte (codes "/tzdist/zones") refl)
target_visible (ask.List (Some token)) = (omega arith, path_visible (codes "/tzdist/zones?changedsince=") token refl)
target_visible (ask.Get name) = (omega arith, path_visible (codes "/tzdist/zones/") name refl)

is_head : (media host : List ℕ) (a : Ask) → is_visible_text media ≡ true → is_visible_text host ≡ true → IsRequestHead (head_with (target_of a) host media)
is_head media host a m h =
    let target = target_visible a in
    let small = All-weaker IsVisible (λ b. b < 128) of_ascii (target_of a) target.1 in
    let close : is_visible_text (codes "close") ≡ true = refl in
    let one = field_with (codes "Host") host in
    let two = field_with (codes "Accept") media in
    let three = field_with (codes "Connection") (codes "close") in
    record {
      method = (omega arith, AllPass-from_list_all is_token_byte (codes "GET") method_token);
      target = (target.0, All-weaker IsVisible (λ b. is_uri_byte b ≡ true) of_target (target_of a) target.1);
      target_text = IsUtf8-from_ascii (target_of a) (IsAscii-from_all (target_of a) small);
      minor = omega arith;
      fields = All-cons IsField one (two ∷ three ∷ []) (named (codes "Host") host (omega arith) host_token h)
          (All-cons IsField two (three ∷ []) (named (codes "Accept") media (omega arith) accept_token m)
          (All-cons IsField three [] (named (codes "Connection") (codes "close") (omega arith) connection_token close) (All-nil IsField)));
    }

fields_are : (host media : List ℕ) → is_visible_text host ≡ true → is_visible_text media ≡ true
    → map name_and_value (head_with [] host media).fields ≡ (codes "Host", host) ∷ (codes "Accept", media) ∷ (codes "Connection", codes "close") ∷ []
fields_are host media h m = rw (trimmed host h, trimmed media m, trimmed (codes "close") refl) refl

head_of : (text media host : List ℕ) (a : Ask) → text ≡ text_with media host a → is_visible_text media ≡ true → is_visible_text host ≡ true
    → (h : RequestHead) × IsSentHeadOf text media host a h
head_of text media host a is m h = (
  head_with (target_of a) host media,
  record {
    reads = (is_head media host a m h, is ∙ is_written media host a);
    method = refl;
    target = refl;
    minor = refl;
    fields = fields_are host media h m;
  },
)

pub sent_head : (host : List ℕ) (a : Ask) → is_visible_text host ≡ true → (h : RequestHead) × IsSentHead host a h
unfolding request_text
sent_head host a h = head_of (request_text host a) (accepted a) host a refl (media_visible a) h

pub sent_calendar_head : (host : List ℕ) (a : Ask) → is_visible_text host ≡ true → (h : RequestHead) × IsSentCalendarHead host a h
unfolding calendar_request_text
sent_calendar_head host a h = head_of (calendar_request_text host a) (calendar_accepted a) host a refl (calendar_media_visible a) h
