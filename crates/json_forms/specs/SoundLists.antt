-- What a list of time zones has to be so that it is read back from its text.
use Rattle.std.specs.Prelude.{ℕ, ◌+◌, ◌≤◌, List, [], ◌∷◌, length, IsTrue}
use Rattle.std.specs.List.{AllByRecursion, list_all}
use Rattle.std.specs.Str.{IsUtf8}
use Rattle.td_base.specs.Names.{is_identifier, is_label}
use Rattle.td_civil.specs.Bounds.{HasText}
use Rattle.catalogue.specs.Plain.{is_token}
use Rattle.catalogue.specs.declared.limits.TheConstants.{MOST_ZONES, MOST_NAMES}
use Rattle.json_forms.specs.declared.zone_list.ListDoc.{ListDoc}
use Rattle.json_forms.specs.declared.zone_list.ListZone.{ListZone}

-- the names are identifiers, publisher and version labels, the tag is a text, and the stamp has one
pub record IsSoundZone (z : ListZone) : Type 0 where
  pub tzid : IsTrue (is_identifier z.tzid)
  pub etag : IsUtf8 z.etag
  pub stamp : HasText z.stamp.seconds
  pub publisher : IsTrue (is_label z.publisher)
  pub version : IsTrue (is_label z.version)
  pub aliases : IsTrue (list_all is_identifier z.aliases)

-- how many names the zones have
abbrev pub names_listed : List ListZone → ℕ
names_listed [] = 0
names_listed (z ∷ zs) = 1 + length z.aliases + names_listed zs

-- the token is one, so are the zones, and they are within the limits of a release
pub record IsSoundList (list : ListDoc) : Type 0 where
  pub token : IsTrue (is_token list.token)
  pub zones : AllByRecursion IsSoundZone list.zones
  pub few_zones : length list.zones ≤ MOST_ZONES
  pub few_names : names_listed list.zones ≤ MOST_NAMES
