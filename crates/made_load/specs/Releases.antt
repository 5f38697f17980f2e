-- The releases of the load, by their numbers from 1: fifty zones, each at a whole hour east of UTC.
-- From one release to the next, one of them moves on by an hour.
use Rattle.std.specs.Prelude.{◌≡◌, ℕ, ◌+◌, ◌-◌, ◌*◌, ◌/◌, ◌%◌, ◌==◌, List, [], ◌∷◌, ◌++◌, length}
use Rattle.std.specs.Prelude.{map}
use Rattle.std.specs.Prelude.{codes, decimal, pos, None}
use Rattle.std.specs.List.{filter, range_with_len}
use Rattle.td_base.specs.Views.{File, file_at}
use Rattle.tzif_reader.specs.Slim.{PlanLists, slim_of}
use Rattle.release_manifest.specs.declared.manifest_type.Manifest.{Manifest}
use Rattle.release_manifest.specs.declared.manifest_type.ManifestZone.{ManifestZone}

-- ---- zones

-- the zones, by their numbers
unfoldable pub zone_numbers : List ℕ
zone_numbers = range_with_len 0 50

abbrev pub two_digit_text : ℕ → List ℕ
two_digit_text n = (48 + n / 10) ∷ (48 + n % 10) ∷ []

unfoldable pub tzid_of : ℕ → List ℕ
tzid_of z = codes "Load/Z" ++ two_digit_text z

-- in how many of the releases after the first, up to this one, a zone moved
unfoldable pub moves : ℕ → ℕ → ℕ
moves r z = length (filter (λ k. k % 50 == z) (range_with_len 2 (r - 1)))

-- the hours east of UTC at which a zone is in a release
abbrev pub hour_of : ℕ → ℕ → ℕ
hour_of r z = (z + moves r z) % 24

-- ---- files

abbrev pub hour_name : ℕ → List ℕ
hour_name h = 43 ∷ two_digit_text h

-- the TZ string of an hour: the name between angle brackets, and the hours with the sign of POSIX
unfoldable pub hour_footer : ℕ → List ℕ
hour_footer h = codes "<" ++ (hour_name h ++ (codes ">-" ++ decimal h))

-- one type, which is standard time, and no transition
abbrev pub hour_plan : ℕ → PlanLists
hour_plan h = record {
  times = [];
  numbers = [];
  types = (pos (3600 * h), 0, 0) ∷ [];
  designations = hour_name h ++ 0 ∷ [];
  leaps = [];
  standard = [];
  ut = [];
  footer = hour_footer h;
}

unfoldable pub hour_file : ℕ → List ℕ
hour_file h = slim_of (hour_plan h)

-- a zone's file has the zone's identifier as its name
abbrev pub made_file : ℕ → ℕ → File
made_file r z = record { path = tzid_of z; bytes = hour_file (hour_of r z) }

abbrev pub made_files : ℕ → List File
made_files r = map (made_file r) zone_numbers

-- files among which those of a release are found, and no other
abbrev pub HasMadeFiles : ℕ → List File → Type 0
HasMadeFiles r files = (path : List ℕ) → file_at files path ≡ file_at (made_files r) path

-- ---- the manifest

abbrev pub made_zone : ℕ → ManifestZone
made_zone z = record { tzid = tzid_of z; file = tzid_of z; aliases = [] }

-- a release a day, from 2020-01-02 on
abbrev pub made_manifest : ℕ → Manifest
made_manifest r = record {
  publisher = codes "Load";
  version = decimal r;
  stamp = record { seconds = pos (1_577_836_800 + 86_400 * r) };
  zones = map made_zone zone_numbers;
  leaps = None;
}
