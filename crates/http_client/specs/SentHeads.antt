-- What the head of a request says.
use Rattle.std.specs.Prelude.{◌≡◌, ℕ, List, [], ◌∷◌, map, Bool, ◌&&◌, nat_le, codes}
use Rattle.std.specs.List.{list_all}
use Rattle.httparse.specs.Grammar.{RequestHead, ReadsRequest}
use Rattle.httparse.specs.Spans.{name_and_value}
use Rattle.td_base.specs.declared.report.Ask.{Ask}
use Rattle.http_client.specs.CalendarRequests.{calendar_accepted, calendar_request_text}
use Rattle.http_client.specs.Requests.{accepted, request_text, target_of}

-- visible bytes of ASCII, as those of a host and a port are
abbrev pub is_visible_byte : ℕ → Bool
is_visible_byte b = nat_le 33 b && nat_le b 126

abbrev pub is_visible_text : List ℕ → Bool
is_visible_text text = list_all is_visible_byte text

-- the fields, by name and value
abbrev pub fields_sent : List ℕ → List ℕ → List (List ℕ × List ℕ)
fields_sent media host =
    (codes "Host", host) ∷ (codes "Accept", media) ∷ (codes "Connection", codes "close") ∷ []

-- the text is this head and nothing after it: a GET of the target, with these fields
pub record IsSentHeadOf (text media host : List ℕ) (a : Ask) (h : RequestHead) : Type 0 where
  pub reads : ReadsRequest text h []
  pub method : h.method ≡ codes "GET"
  pub target : h.target ≡ target_of a
  pub minor : h.minor ≡ 0
  pub fields : map name_and_value h.fields ≡ fields_sent media host

-- the head of a request, and of one of a mirror that keeps calendars
abbrev pub IsSentHead : List ℕ → Ask → RequestHead → Type 0
IsSentHead host a h = IsSentHeadOf (request_text host a) (accepted a) host a h

abbrev pub IsSentCalendarHead : List ℕ → Ask → RequestHead → Type 0
IsSentCalendarHead host a h =
    IsSentHeadOf (calendar_request_text host a) (calendar_accepted a) host a h
