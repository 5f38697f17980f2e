-- What is checked of a manifest, in the order in which its members are judged, and the first fault.
use Rattle.std.specs.Prelude.{ℕ, ◌+◌, List, [], ◌∷◌, ◌++◌, codes, Bool, false, if◌then◌else◌}
use Rattle.std.specs.Prelude.{Option, None, Some, is_some, unwrap_or, option_and_then}
use Rattle.std.specs.Option.{option_map_or}
use Rattle.json.specs.Json.{Json, Items, no_items, item}
use Rattle.json.specs.Find.{get, as_str, as_array, as_object}
use Rattle.td_base.specs.Names.{is_label, is_file_name}
use Rattle.td_civil.specs.Reading.{moment_in, is_date_text}
use Rattle.td_civil.specs.Bounds.{has_meaning}
use Rattle.release_manifest.specs.declared.manifest_fault.Path.{Path}
use Rattle.release_manifest.specs.declared.manifest_fault.Path.TheVariants as path
use Rattle.release_manifest.specs.declared.manifest_fault.ManifestFault.{ManifestFault}
use Rattle.release_manifest.specs.declared.manifest_fault.ManifestFault.TheVariants as fault

-- a fault, and whether the manifest is free of it
pub record Check : Type 0 where
  pub fault : ManifestFault
  pub passes : Bool

-- the fault of the first check that does not pass
abbrev pub first_failing : List Check → Option ManifestFault
first_failing [] = None
first_failing (c ∷ cs) = if c.passes then first_failing cs else Some c.fault

-- whether a text spells such a moment
unfoldable pub is_stamp_text : List ℕ → Bool
is_stamp_text text = option_map_or has_meaning (moment_in text) false

-- a value that is to be an object
unfoldable pub object_checks : Path → Json → List Check
object_checks at d = record { fault = fault.Field at; passes = is_some (as_object d) } ∷ []

-- a member that is to be a text
unfoldable pub text_checks : Path → Option Json → List Check
text_checks at member =
    record { fault = fault.Field at; passes = is_some (option_and_then as_str member) } ∷ []

-- a member that is to be a text of some form
unfoldable pub form_checks : (List ℕ → Bool) → Path → Option Json → List Check
form_checks form at member =
    record { fault = fault.Field at; passes = is_some (option_and_then as_str member) }
    ∷ record {
      fault = fault.Text at;
      passes = form (unwrap_or (option_and_then as_str member) []);
    } ∷ []

-- each of the items, by its number
unfoldable pub each_checks : (ℕ → Json → List Check) → ℕ → Items → List Check
each_checks checks n no_items = []
each_checks checks n (item d ds) = checks n d ++ each_checks checks (n + 1) ds

-- the aliases of a zone, which may be left out
unfoldable pub alias_checks : ℕ → Option Json → List Check
alias_checks zone None = []
alias_checks zone (Some d) =
    record { fault = fault.Field (path.Aliases zone); passes = is_some (as_array d) }
    ∷ each_checks (λ n alias. text_checks (path.Alias zone n) (Some alias)) 0
    (unwrap_or (as_array d) no_items)

-- a zone
unfoldable pub zone_checks : ℕ → Json → List Check
zone_checks zone d =
    object_checks (path.Zone zone) d
    ++ text_checks (path.Tzid zone) (get (codes "tzid") d)
    ++ form_checks is_file_name (path.File zone) (get (codes "file") d)
    ++ alias_checks zone (get (codes "aliases") d)

-- the list of zones
unfoldable pub zones_checks : Option Json → List Check
zones_checks member =
    record { fault = fault.Field path.Zones; passes = is_some (option_and_then as_array member) }
    ∷ each_checks zone_checks 0 (unwrap_or (option_and_then as_array member) no_items)

-- the leap seconds, which may be left out
unfoldable pub leap_checks : Option Json → List Check
leap_checks None = []
leap_checks (Some d) =
    object_checks path.Leaps d
    ++ form_checks is_file_name path.LeapFile (get (codes "file") d)
    ++ form_checks is_date_text path.Expires (get (codes "expires") d)

-- all of them
unfoldable pub manifest_checks : Json → List Check
manifest_checks d =
    object_checks path.Whole d
    ++ form_checks is_label path.Publisher (get (codes "publisher") d)
    ++ form_checks is_label path.Version (get (codes "version") d)
    ++ form_checks is_stamp_text path.Stamp (get (codes "stamp") d)
    ++ zones_checks (get (codes "zones") d)
    ++ leap_checks (get (codes "leapseconds") d)

-- the first fault of a value, as a manifest
unfoldable pub document_fault : Json → Option ManifestFault
document_fault d = first_failing (manifest_checks d)
