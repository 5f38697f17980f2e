-- An answer with a list of zones.
use Rattle.std.specs.Prelude.{◌≡◌, ◌⊎◌, ℕ, ◌+◌, ◌≤◌, List, length, Option, None, Some}
use Rattle.std.specs.List.{Contains, slice_get}
use Rattle.serde_json.specs.Read.{read}
use Rattle.catalogue.specs.Digests.{tag_of}
use Rattle.catalogue.specs.Histories.{token_of}
use Rattle.catalogue.specs.Lookups.{zones_of}
use Rattle.catalogue.specs.Releases.{ContentData, ReleaseData}
use Rattle.http_answer.specs.declared.answer.Answer.{Answer}
use Rattle.json_forms.specs.ListDocument.{list_data}
use Rattle.json_forms.specs.declared.zone_list.ListZone.{ListZone}
use Rattle.target.specs.declared.asked_types.Param.{Param}
use Rattle.target.specs.declared.asked_types.Param.TheVariants as param

-- a list shows the zone by its names and the tag of its content
pub record IsShownAs (zone : ContentData) (shown : ListZone) : Type 0 where
  pub tzid : shown.tzid ≡ zone.tzid
  pub aliases : shown.aliases ≡ zone.aliases
  pub tag : shown.etag ≡ tag_of zone

-- each release from a place on has the content; places count from 1
abbrev pub IsKeptFrom : List ReleaseData → ℕ → ContentData → Type 0
IsKeptFrom H place zone =
    (k : ℕ) (r : ReleaseData) → place ≤ k + 1 → slice_get H k ≡ Some r → Contains r.contents zone

-- it did so from the place since which changes are requested, if there is such a place
abbrev pub IsUnchanged : List ReleaseData → Option ℕ → ContentData → Type 0
IsUnchanged H None zone = ⊥
IsUnchanged H (Some place) zone = IsKeptFrom H place zone

-- the place whose token the request has, or none
abbrev pub IsSince : List ReleaseData → Param → Option ℕ → Type 0
IsSince H param.Absent None = Unit {0}
IsSince H (param.Once token) (Some place) =
    (1 ≤ place) × (place ≤ length H) × (token_of H place ≡ token)
IsSince H since place = ⊥

-- The body reads as the list with the token of the last release. It shows zones of that release
-- which changed, and each zone that it leaves out did not.
pub record IsListOf (H : List ReleaseData) (since : Param) (answer : Answer) : Type 0 where
  pub zones : List ListZone
  pub reads : read answer.body ≡ Some (list_data (token_of H (length H)) zones)
  pub place : Option ℕ
  pub since_is : IsSince H since place
  pub each : (z : ListZone) → Contains zones z
      → (c : ContentData) × Contains (zones_of H) c × IsShownAs c z × (IsUnchanged H place c → ⊥)
  pub all : (c : ContentData) → Contains (zones_of H) c
      → IsUnchanged H place c ⊎ ((z : ListZone) × Contains zones z × IsShownAs c z)
