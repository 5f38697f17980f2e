-- What a request of HTTP/1.0 is written as (RFC 9112, section 3; RFC 7808, sections 5.2 and 5.3).
use Rattle.std.specs.Prelude.{ℕ, List, [], ◌∷◌, ◌++◌, Bool, ◌||◌, nat_eq, if◌then◌else◌, codes}
use Rattle.std.specs.Prelude.{Option, None, Some}
use Rattle.std.specs.Char.{is_ascii_alphanumeric}
use Rattle.std.specs.List.{flat_map, list_any}
use Rattle.percent_encoding.specs.Percent.{percent_encode_byte}
use Rattle.td_base.specs.declared.report.Ask.{Ask}
use Rattle.td_base.specs.declared.report.Ask.TheVariants as ask

-- the bytes that stand for themselves wherever they are (RFC 3986, section 2.3)
abbrev pub is_unreserved : ℕ → Bool
is_unreserved b = is_ascii_alphanumeric b || list_any (nat_eq b) (codes "-._~")

abbrev pub escaped_byte : ℕ → List ℕ
escaped_byte b = if is_unreserved b then b ∷ [] else percent_encode_byte b

-- a text in which any other byte is `%` and its two hexadecimal digits, which are capital
unfoldable pub escaped : List ℕ → List ℕ
escaped text = flat_map escaped_byte text

abbrev pub list_target : Option (List ℕ) → List ℕ
list_target None = codes "/tzdist/zones"
list_target (Some token) = codes "/tzdist/zones?changedsince=" ++ escaped token

-- the list, after a token where there is one, or the zone of a name
unfoldable pub target_of : Ask → List ℕ
target_of (ask.List token) = list_target token
target_of (ask.Get name) = codes "/tzdist/zones/" ++ escaped name

-- lists are JSON, and zones TZif files (RFC 9636, section 9)
unfoldable pub accepted : Ask → List ℕ
accepted (ask.List token) = codes "application/json"
accepted (ask.Get name) = codes "application/tzif"

-- a beginning, what follows it, and an end
abbrev pub enclosed : List ℕ → List ℕ → List ℕ → List ℕ
enclosed front text end = front ++ (text ++ end)

unfoldable pub request_line : Ask → List ℕ
request_line a = enclosed (codes "GET ") (target_of a) (codes " HTTP/1.0\r\n")

-- the head of a request at a host for a media type, after whose answer the connection closes
abbrev pub text_with : List ℕ → List ℕ → Ask → List ℕ
text_with media host a =
    request_line a
    ++ (enclosed (codes "Host: ") host (codes "\r\n")
    ++ enclosed (codes "Accept: ") media (codes "\r\nConnection: close\r\n\r\n"))

unfoldable pub request_text : List ℕ → Ask → List ℕ
request_text host a = text_with (accepted a) host a
