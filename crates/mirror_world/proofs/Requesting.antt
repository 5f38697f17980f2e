-- A request that a mirror writes is one head, which asks what the mirror asks.
use Rattle.std.proofs.Common.{◌≡◌, ℕ, ◌≤◌, List, [], ◌∷◌, length, map, take, drop, true, codes, None, Some, refl, sym, ap, ◌∙◌, subst}
use Rattle.std.proofs.Common.{arith, append-nil}
use Rattle.std.proofs.lemmas.Bool.Decides.{nat_tests}
use Rattle.std.proofs.lemmas.List.{drop_all, length-map, take_all}
use Rattle.httparse.specs.Grammar.{ReadsRequest, RequestHead, print_request}
use Rattle.httparse.specs.Spans.{name_and_value}
use Rattle.td_base.specs.TargetForm.{has_form}
use Rattle.td_base.specs.declared.report.Ask.{Ask}
use Rattle.td_base.specs.declared.report.Ask.TheVariants as ask
use Rattle.http_client.specs.CalendarRequests.{calendar_accepted, calendar_request_text}
use Rattle.http_client.specs.Requests.{accepted, request_text, target_of, text_with}
use Rattle.http_client.specs.SentHeads.{IsSentCalendarHead, IsSentHead, IsSentHeadOf, fields_sent, is_visible_byte, is_visible_text}
use Rattle.http_request.specs.Asks.{Asks, Rest}
use Rattle.http_request.specs.Ends.{end_among, head_lines_from, window}
use Rattle.http_request.specs.Judging.{asked, asked_by, is_host, is_host_byte, refusal, refusal_of}
use Rattle.http_request.specs.Steps.{IsStep, NotYet, Taken, Waiting, Whole, verdict}
use Rattle.http_request.specs.declared.head.Head.{Head}
use Rattle.negotiate.specs.declared.choosing.Format.{Format}
use Rattle.negotiate.specs.declared.choosing.Format.TheVariants.{Calendar, Tzif}
use Rattle.sync_world.specs.Hearing.{IsDataHeadOf, data_accepted}
use Rattle.mirror_world.specs.Answers.{IsDataRequestFor, IsRequestFor}
use Rattle.mirror_world.specs.Asking.{IsAskable}
use Rattle.mirror_world.proofs.Lines.{FitsInLine, accepted_fits, calendar_accepted_fits, is_written, window_is}
use Rattle.mirror_world.proofs.Targets.{AsksByName, target_asks}
use Rattle.mirror_world.proofs.Values.{both, first, second}

host_byte_visible : (b : ℕ) → is_host_byte b ≡ true → is_visible_byte b ≡ true
host_byte_visible b h = grind (arith, nat_tests)

pub host_visible : (host : List ℕ) → is_host host ≡ true → is_visible_text host ≡ true
host_visible [] h = refl
host_visible (b ∷ bs) h =
    both (is_visible_byte b) (is_visible_text bs) (host_byte_visible b (first (is_host_byte b) (is_host bs) h))
    (host_visible bs (second (is_host_byte b) (is_host bs) h))

form_so : (a : Ask) → has_form (target_of a) ≡ true
unfolding has_form target_of
form_so (ask.List None) = refl
form_so (ask.List (Some token)) = refl
form_so (ask.Get name) = refl

not_refused : (media host : List ℕ) (a : Ask) → is_host host ≡ true → refusal (codes "GET") (target_of a) 0 (fields_sent media host) ≡ None
unfolding refusal
not_refused media host a h = rw (h, form_so a) refl

accepted_is : (a : Ask) → accepted a ≡ data_accepted Tzif a
unfolding accepted
accepted_is (ask.List token) = refl
accepted_is (ask.Get name) = refl

calendar_accepted_is : (a : Ask) → calendar_accepted a ≡ data_accepted Calendar a
unfolding calendar_accepted
calendar_accepted_is (ask.List token) = refl
calendar_accepted_is (ask.Get name) = refl

-- a text of a request at a host, for zones in a format
record IsDataRequest (f : Format) (text media host : List ℕ) (a : Ask) : Type 0 where
  is : text ≡ text_with media host a
  fits : FitsInLine media
  asks_for : media ≡ data_accepted f a
  askable : IsAskable host a

module _ (f : Format) (request media host : List ℕ) (a : Ask) (so : IsDataRequest f request media host a)
    (h : RequestHead) (sent : IsSentHeadOf request media host a h)
  where
    served : refusal_of h ≡ None
    served =
        ap (λ method. refusal method h.target h.minor (map name_and_value h.fields)) sent.method
        ∙ ap (λ target. refusal (codes "GET") target h.minor (map name_and_value h.fields)) sent.target
        ∙ ap (λ minor. refusal (codes "GET") (target_of a) minor (map name_and_value h.fields)) sent.minor
        ∙ ap (refusal (codes "GET") (target_of a) 0) sent.fields ∙ not_refused media host a so.askable.is_host

    head_is : asked_by h ≡ asked (codes "GET") (target_of a) 0 (fields_sent media host)
    head_is =
        ap (λ method. asked method h.target h.minor (map name_and_value h.fields)) sent.method
        ∙ ap (λ target. asked (codes "GET") target h.minor (map name_and_value h.fields)) sent.target
        ∙ ap (λ minor. asked (codes "GET") (target_of a) minor (map name_and_value h.fields)) sent.minor
        ∙ ap (asked (codes "GET") (target_of a) 0) sent.fields

    whole : take (length request) request ≡ request
    whole = take_all (length request) request (omega arith)

    window_so : window request ≡ Some (length request)
    window_so = subst (λ text. window text ≡ Some (length text)) (sym (so.is ∙ is_written media host a)) (window_is media host a so.fits so.askable)

    few : length h.fields ≤ 66
    few =
        let same : length (map name_and_value h.fields) ≡ 3 = ap length sent.fields in
        omega (arith, same, length-map h.fields name_and_value)

    takes : IsStep request (Taken (asked_by h) (length (print_request h)))
    takes = record {
      found = Whole h;
      finds = (length request, window_so, ([], subst (λ text. ReadsRequest text h []) (sym whole) sent.reads, few));
      is = ap (verdict h) (sym served);
    }

    rest_is : drop (length (print_request h)) request ≡ []
    rest_is =
        ap (drop (length (print_request h))) ((sent.reads).1 ∙ append-nil (print_request h)) ∙ drop_all (length (print_request h)) (print_request h) (omega arith)

    nothing : IsStep [] Waiting
    unfolding head_lines_from end_among
    nothing = record { found = NotYet; finds = (refl, refl); is = refl }

    reads : Asks request (asked_by h ∷ []) (Rest [])
    reads = (length (print_request h), takes, (subst (λ l. IsStep l Waiting) (sym rest_is) nothing, rest_is))

    module _ (law : AsksByName) where
      asks_so : IsDataHeadOf f a (asked (codes "GET") (target_of a) 0 (fields_sent media host))
      asks_so = record {
        target = target_asks law host a so.askable;
        accept = ap Some (append-nil media ∙ so.asks_for);
        none_match = refl;
      }

      is_request : IsDataRequestFor f a request (asked_by h)
      is_request = record {
        reads = reads;
        is_get = ap (λ (x : Head). x.head_only) head_is;
        asks_so = subst (IsDataHeadOf f a) (sym head_is) asks_so;
      }

-- that a request at a host of visible bytes is a head
abbrev pub RequestsAreHeads : Type 0
RequestsAreHeads = (host : List ℕ) (a : Ask) → is_visible_text host ≡ true → (h : RequestHead) × IsSentHead host a h

abbrev pub CalendarRequestsAreHeads : Type 0
CalendarRequestsAreHeads = (host : List ℕ) (a : Ask) → is_visible_text host ≡ true → (h : RequestHead) × IsSentCalendarHead host a h

pub request_asks : (heads : RequestsAreHeads) (law : AsksByName) (host : List ℕ) (a : Ask) → IsAskable host a
    → (head : Head) × IsRequestFor a (request_text host a) head
unfolding request_text
request_asks heads law host a askable =
    let sent = heads host a (host_visible host askable.is_host) in
    let so : IsDataRequest Tzif (request_text host a) (accepted a) host a =
    record { is = refl; fits = accepted_fits a; asks_for = accepted_is a; askable = askable } in
    (asked_by sent.0, is_request Tzif (request_text host a) (accepted a) host a so sent.0 sent.1 law)

pub calendar_request_asks : (heads : CalendarRequestsAreHeads) (law : AsksByName) (host : List ℕ) (a : Ask) → IsAskable host a
    → (head : Head) × IsDataRequestFor Calendar a (calendar_request_text host a) head
unfolding calendar_request_text
calendar_request_asks heads law host a askable =
    let sent = heads host a (host_visible host askable.is_host) in
    let so : IsDataRequest Calendar (calendar_request_text host a) (calendar_accepted a) host a =
    record { is = refl; fits = calendar_accepted_fits a; asks_for = calendar_accepted_is a; askable = askable } in
    (asked_by sent.0, is_request Calendar (calendar_request_text host a) (calendar_accepted a) host a so sent.0 sent.1 law)
