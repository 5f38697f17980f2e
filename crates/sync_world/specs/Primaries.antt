-- What a primary tells of its releases (RFC 7808, sections 5.2 and 5.3).
use Rattle.std.specs.Prelude.{ℕ, ◌<◌, ◌+◌, ◌≤◌, List, length, take, map, Option, None, Some}
use Rattle.std.specs.Prelude.{option_map, ◌≡◌, ◌≢◌, ◌⊎◌}
use Rattle.td_base.specs.declared.report.Ask.{Ask}
use Rattle.td_base.specs.declared.report.Ask.TheVariants as ask
use Rattle.catalogue.specs.Histories.{IsHistory, meta, token_of}
use Rattle.catalogue.specs.Lookups.{delta, named, zones_of}
use Rattle.catalogue.specs.Releases.{ContentData, ReleaseData}
use Rattle.json_forms.specs.declared.zone_list.ListZone.{ListZone}
use Rattle.actions.specs.Listing.{list_zone}
use Rattle.sync_core.specs.declared.heard_type.Heard.{Heard}
use Rattle.sync_core.specs.declared.heard_type.Heard.TheVariants as heard

-- a place of a history, counted from 1
abbrev pub IsPlace : List ReleaseData → ℕ → Type 0
IsPlace H n = (1 ≤ n) × (n ≤ length H)

-- the zones of the last release as a list shows them, and those whose content last changed after a
-- place
unfoldable pub list_told : List ReleaseData → List ListZone
list_told H = map list_zone (meta H)

unfoldable pub changes_of : List ReleaseData → ℕ → List ListZone
changes_of H n = map list_zone (delta H n)

-- what differs from primary to primary: of how many of the last places the tokens are known for
-- certain, the place that a token is found to be of, and the file that a zone has under a name
pub record Service : Type 0 where
  pub kept : ℕ
  pub place : List ReleaseData → List ℕ → Option ℕ
  pub served : List ℕ → ContentData → List ℕ

-- the file under a name, if a zone has the name
abbrev pub served_for : Service → List ℕ → Option ContentData → Option (List ℕ)
served_for P name zone = option_map (P.served name) zone

-- a list with the token of the last place
abbrev pub list_at : List ReleaseData → List ListZone → Heard
list_at H zones = heard.List (record { token = token_of H (length H); zones = zones })

abbrev pub changes_at : List ReleaseData → Option ℕ → Heard
changes_at H None = heard.BadToken
changes_at H (Some n) = list_at H (changes_of H n)

abbrev pub file_told : List ℕ → Heard
file_told bytes = heard.Zone bytes

-- what is told over a history: nothing where no zone has the name of a file that is asked for
abbrev pub told_by : Service → List ReleaseData → Ask → Option Heard
told_by P H (ask.List None) = Some (list_at H (list_told H))
told_by P H (ask.List (Some token)) = Some (changes_at H (P.place H token))
told_by P H (ask.Get name) = option_map file_told (served_for P name (named (zones_of H) name))

-- the token of a place, at a later time, finds that place while it is one of the last, and
-- otherwise finds it or none
abbrev pub FindsPlaces : (ReleaseData → Type 0) → Service → Type 0
FindsPlaces sound P = (H : List ReleaseData) (m n : ℕ) → IsHistory sound H → IsPlace H m → m ≤ n
    → n ≤ length H → n < m + P.kept → P.place (take n H) (token_of H m) ≡ Some m

abbrev pub FindsNoOther : (ReleaseData → Type 0) → Service → Type 0
FindsNoOther sound P = (H : List ReleaseData) (m n : ℕ) → IsHistory sound H → IsPlace H m → m ≤ n
    → n ≤ length H → (P.place (take n H) (token_of H m) ≡ Some m)
    ⊎ (P.place (take n H) (token_of H m) ≡ None)

-- the ask is for a list since the token of one of the last of the first n places, which is known
-- for certain
abbrev pub AsksSinceKept : Service → List ReleaseData → ℕ → Ask → Type 0
AsksSinceKept P H n a = (m : ℕ) × (1 ≤ m) × (m ≤ n) × (n < m + P.kept)
    × (a ≡ ask.List (Some (token_of H m)))

-- what is heard over a history of sound releases is what there is to be told
abbrev pub HeardIsTold : (ReleaseData → Type 0) → (List ReleaseData → Ask → Heard → Type 0)
    → Service → Type 0
HeardIsTold sound hears P = (H : List ReleaseData) (a : Ask) (h : Heard) → IsHistory sound H
    → 1 ≤ length H → hears H a h → told_by P H a ≡ Some h

-- a primary serves so
pub record ServesSo (sound : ReleaseData → Type 0) (hears : List ReleaseData → Ask → Heard → Type 0)
    (P : Service) : Type 0 where
  pub heard_is_told : HeardIsTold sound hears P
  pub finds : FindsPlaces sound P
  pub finds_no_other : FindsNoOther sound P

-- the token is that of a place that there was by then, and from then on it is refused only once the
-- place is none of the last ones whose tokens are known for certain
pub record IsTokenOf (P : Service) (H : List ReleaseData) (since : ℕ) (token : List ℕ)
    : Type 0 where
  pub place : ℕ
  pub is_place : IsPlace H place
  pub by_then : place ≤ since
  pub is : token ≡ token_of H place
  pub known : (n : ℕ) → since ≤ n → n ≤ length H → n < place + P.kept
      → told_by P (take n H) (ask.List (Some token)) ≢ Some heard.BadToken
