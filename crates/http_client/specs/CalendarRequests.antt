-- What a request is written as of a mirror that keeps calendars (RFC 7808, section 5.3).
use Rattle.std.specs.Prelude.{ℕ, List, codes}
use Rattle.td_base.specs.declared.report.Ask.{Ask}
use Rattle.td_base.specs.declared.report.Ask.TheVariants as ask
use Rattle.http_client.specs.Requests.{text_with}

-- lists are JSON, and zones calendars (RFC 5545, section 8.1)
unfoldable pub calendar_accepted : Ask → List ℕ
calendar_accepted (ask.List token) = codes "application/json"
calendar_accepted (ask.Get name) = codes "text/calendar"

unfoldable pub calendar_request_text : List ℕ → Ask → List ℕ
calendar_request_text host a = text_with (calendar_accepted a) host a
