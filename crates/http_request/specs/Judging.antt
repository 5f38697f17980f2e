-- Whether a request head is served (RFC 9112, sections 2.3, 3.2, 6 and 9.3; RFC 9110, sections
-- 5.3 and 9.3), and what it asks for.
use Rattle.std.specs.Prelude.{ℕ, List, [], ◌∷◌, ◌++◌, length, map, Bool, not, ◌&&◌, ◌||◌}
use Rattle.std.specs.Prelude.{◌==◌, if◌then◌else◌, Option, Some, None, codes, flat_map, nat_eq}
use Rattle.std.specs.Char.{is_ascii_alphanumeric}
use Rattle.std.specs.List.{list_all, list_any}
use Rattle.std.specs.Str.{bytes_eq, str_eq_ignore_ascii_case}
use Rattle.httparse.specs.Grammar.{RequestHead}
use Rattle.httparse.specs.Spans.{name_and_value}
use Rattle.td_base.specs.TargetForm.{has_form}
use Rattle.td_base.specs.Texts.{field_values, pieces, trim}
use Rattle.http_request.specs.declared.head.Head.{Head}

-- several fields with one name, joined to one value
abbrev pub joined_values : List (List ℕ) → Option (List ℕ)
joined_values [] = None
joined_values (v ∷ vs) = Some (v ++ flat_map (λ w. codes ", " ++ w) vs)

-- one Host field with HTTP/1.1, and at most one with HTTP/1.0
abbrev pub has_hosts : ℕ → ℕ → Bool
has_hosts minor hosts = hosts == 1 || (minor == 0 && hosts == 0)

-- the bytes of a host and a port (RFC 3986, sections 3.2.2 and 3.2.3)
abbrev pub is_host_byte : ℕ → Bool
is_host_byte b = is_ascii_alphanumeric b || list_any (nat_eq b) (codes "-._~!$&'()*+,;=%:[]")

-- a Host field has no other bytes; it may be empty
abbrev pub is_host : List ℕ → Bool
is_host value = list_all is_host_byte value

-- one or more zeros: the request has no content
abbrev pub is_zero : List ℕ → Bool
is_zero value = not (length value == 0) && list_all (λ b. b == 48) value

-- the hosts are as they have to be, there is no content, and the target has one of the two forms
abbrev pub is_well_formed : ℕ → List ℕ → List (List ℕ × List ℕ) → Bool
is_well_formed minor target pairs =
    has_hosts minor (length (field_values (codes "host") pairs))
    && (list_all is_host (field_values (codes "host") pairs)
    && (length (field_values (codes "transfer-encoding") pairs) == 0
    && (list_all is_zero (field_values (codes "content-length") pairs)
    && has_form target)))

-- a member of a comma list, whatever the case of its letters
abbrev pub has_member : List ℕ → List ℕ → Bool
has_member member list =
    list_any (λ m. str_eq_ignore_ascii_case (trim m) member) (pieces 44 list)

-- HTTP/1.0, or a Connection field with the member `close`
abbrev pub closes : ℕ → List (List ℕ × List ℕ) → Bool
closes minor pairs =
    minor == 0 || list_any (has_member (codes "close")) (field_values (codes "connection") pairs)

-- the methods that are served, GET and HEAD
abbrev pub is_served : List ℕ → Bool
is_served method = bytes_eq method (codes "GET") || bytes_eq method (codes "HEAD")

-- the status with which a head is refused, by the first that applies
unfoldable pub refusal : List ℕ → List ℕ → ℕ → List (List ℕ × List ℕ) → Option ℕ
refusal method target minor pairs =
    if not (is_served method) then Some 405
    else if not (is_well_formed minor target pairs) then Some 400
    else None

-- what a head that is served asks for
abbrev pub asked : List ℕ → List ℕ → ℕ → List (List ℕ × List ℕ) → Head
asked method target minor pairs = record {
  head_only = bytes_eq method (codes "HEAD");
  target = target;
  accept = joined_values (field_values (codes "accept") pairs);
  none_match = joined_values (field_values (codes "if-none-match") pairs);
  close = closes minor pairs;
}

-- the name and the value of each field
abbrev pub pairs_of : RequestHead → List (List ℕ × List ℕ)
pairs_of h = map name_and_value h.fields

abbrev pub refusal_of : RequestHead → Option ℕ
refusal_of h = refusal h.method h.target h.minor (pairs_of h)

abbrev pub asked_by : RequestHead → Head
asked_by h = asked h.method h.target h.minor (pairs_of h)
