-- The release that a mirror serves, as a manifest and a store of its files.
use Rattle.std.specs.Prelude.{ℕ, List, map, codes, Bool, Option, None, Some, option_map, find}
use Rattle.std.specs.Prelude.{int_le, ◌≡◌}
use Rattle.std.specs.List.{list_all}
use Rattle.td_base.specs.Views.{File, file_at}
use Rattle.td_civil.specs.declared.moment_type.TheConstants.{LO}
use Rattle.json_forms.specs.declared.zone_list.ListZone.{ListZone}
use Rattle.release_manifest.specs.declared.manifest_type.Manifest.{Manifest}
use Rattle.release_manifest.specs.declared.manifest_type.ManifestZone.{ManifestZone}
use Rattle.sync_core.specs.Mirrors.{MirrorState, ZoneFile, file_name}
use Rattle.sync_core.specs.Names.{at_text}

-- no entry has a later stamp
abbrev pub is_latest : List ListZone → ListZone → Bool
is_latest zones z = list_all (λ y. int_le y.stamp.seconds z.stamp.seconds) zones

-- the first of the entries with the latest stamp
abbrev pub newest : List ListZone → Option ListZone
newest zones = find (is_latest zones) zones

-- a zone's file is named by its identifier
abbrev pub manifest_zone : ListZone → ManifestZone
manifest_zone z = record { tzid = z.tzid; file = z.tzid; aliases = z.aliases }

-- the stamp, publisher and version of a release are those of its newest zone
abbrev pub manifest_with : Option ListZone → List ListZone → Manifest
manifest_with None zones = record {
  publisher = codes "-";
  version = codes "-";
  stamp = record { seconds = LO };
  zones = map manifest_zone zones;
  leaps = None;
}
manifest_with (Some z) zones = record {
  publisher = z.publisher;
  version = z.version;
  stamp = z.stamp;
  zones = map manifest_zone zones;
  leaps = None;
}

abbrev pub manifest_of : MirrorState → Manifest
manifest_of s = manifest_with (newest s.entries) s.entries

abbrev pub bytes_of : ZoneFile → List ℕ
bytes_of f = f.bytes

-- the bytes of the file with a name
abbrev pub file_bytes : List ZoneFile → List ℕ → Option (List ℕ)
file_bytes files tzid = option_map bytes_of (at_text file_name files tzid)

-- a file of a mirror as one of a store, under the identifier of its zone
abbrev pub stored_file : ZoneFile → File
stored_file f = record { path = f.tzid; bytes = f.bytes }

-- the store has the files by their names, and no others
abbrev pub HasFiles : List File → List ZoneFile → Type 0
HasFiles stored files = (path : List ℕ) → file_at stored path ≡ file_bytes files path
