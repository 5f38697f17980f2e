-- The requests that are served after a release (RFC 9112, section 3; RFC 7808, section 5): the
-- list, the list since the release before, the file of the zone that moved, its observances of a
-- year, and that file again with its entity tag.
use Rattle.std.specs.Prelude.{ℕ, ◌-◌, ◌%◌, ◌==◌, List, [], ◌++◌, length, codes, Option, None, Some}
use Rattle.std.specs.Prelude.{if◌then◌else◌, option_and_then}
use Rattle.std.specs.List.{slice_get}
use Rattle.std.specs.Option.{option_map}
use Rattle.percent_encoding.specs.Percent.{percent_encode}
use Rattle.catalogue.specs.Histories.{meta, token_of}
use Rattle.catalogue.specs.Lookups.{place_named}
use Rattle.catalogue.specs.Releases.{ReleaseData}
use Rattle.http_client.specs.declared.requesting.TheConstants.{ESCAPED}
use Rattle.made_load.specs.Releases.{tzid_of}

-- the head of a GET of a target, with further lines
unfoldable pub head_text : List ℕ → List ℕ → List ℕ
head_text target lines =
    codes "GET " ++ (target ++ (codes " HTTP/1.1\r\nHost: x\r\n" ++ (lines ++ codes "\r\n")))

-- ---- targets

abbrev pub made_list_target : List ℕ
made_list_target = codes "/tzdist/zones"

unfoldable pub since_target : List ℕ → List ℕ
since_target token = codes "/tzdist/zones?changedsince=" ++ percent_encode ESCAPED token

unfoldable pub made_zone_target : List ℕ → List ℕ
made_zone_target tzid = codes "/tzdist/zones/" ++ percent_encode ESCAPED tzid

unfoldable pub year_target : List ℕ → List ℕ
year_target tzid =
    made_zone_target tzid ++ codes "/observances?start=2020-01-01T00:00:00Z&end=2021-01-01T00:00:00Z"

-- ---- lines

-- a TZif file is wanted
unfoldable pub accept_line : List ℕ
accept_line = codes "Accept: application/tzif\r\n"

-- the file is held that has this tag, by the tag of its content (RFC 9110, section 13.1.2)
abbrev pub held_line : Option (List ℕ) → List ℕ
held_line None = []
held_line (Some tag) = codes "If-None-Match: \"" ++ (tag ++ codes ".t\"\r\n")

-- ---- the requests after the last release of a history

-- the zone that moved last
abbrev pub moved_zone : List ReleaseData → List ℕ
moved_zone H = tzid_of (length H % 50)

-- the tag of the content of the zone that has a name
unfoldable pub tag_named : List ReleaseData → List ℕ → Option (List ℕ)
tag_named H name =
    option_and_then (λ i. option_map (λ e. e.tag) (slice_get (meta H) i)) (place_named H name)

-- the place before this one, where there is one
abbrev pub place_before : ℕ → ℕ
place_before place = if place == 1 then 1 else place - 1

-- the token of the place before the last
abbrev pub token_before : List ReleaseData → List ℕ
token_before H = token_of H (place_before (length H))

-- those for lists, by a token
unfoldable pub list_requests : List ℕ → List ℕ
list_requests token = head_text made_list_target [] ++ head_text (since_target token) []

-- those for a zone, by its identifier and the line that tells that its file is held
unfoldable pub zone_requests : List ℕ → List ℕ → List ℕ
zone_requests tzid held =
    head_text (made_zone_target tzid) accept_line
    ++ (head_text (year_target tzid) [] ++ head_text (made_zone_target tzid) (accept_line ++ held))

unfoldable pub requests_with : List ℕ → List ℕ → List ℕ → List ℕ
requests_with token tzid held = list_requests token ++ zone_requests tzid held

abbrev pub made_requests : List ReleaseData → List ℕ
made_requests H =
    requests_with (token_before H) (moved_zone H) (held_line (tag_named H (moved_zone H)))
