-- The contents that a mirror's files and entries state, and what its manifest may follow.
use Rattle.std.specs.Prelude.{◌≡◌, ℕ, List, [], ◌∷◌, Option, None, Some, option_map}
use Rattle.catalogue.specs.Order.{rising_by}
use Rattle.catalogue.specs.Releases.{ContentData}
use Rattle.json_forms.specs.declared.zone_list.ListZone.{ListZone}
use Rattle.release_check.specs.Before.{Before, drop_fault, place_fault, stamp_fault}
use Rattle.release_check.specs.Faults.{names_in}
use Rattle.release_manifest.specs.declared.manifest_type.Manifest.{Manifest}
use Rattle.sync_core.specs.Mirrors.{MirrorState, ZoneFile, file_name}
use Rattle.sync_core.specs.Names.{at_text}
use Rattle.sync_core.specs.Published.{bytes_of}

-- the zone of an entry over its file, its aliases in rising order; none where the file is missing
abbrev pub content_with : ListZone → List ℕ → ContentData
content_with z file =
    record { tzid = z.tzid; aliases = rising_by (λ a. a) z.aliases; file = file }

abbrev pub content_stated : List ZoneFile → ListZone → Option ContentData
content_stated files z =
    option_map (content_with z) (option_map bytes_of (at_text file_name files z.tzid))

abbrev pub joined_contents : Option ContentData → Option (List ContentData)
    → Option (List ContentData)
joined_contents (Some c) (Some cs) = Some (c ∷ cs)
joined_contents c cs = None

-- the zones that are stated, each over its file, if all have one
abbrev pub contents_stated : List ZoneFile → List ListZone → Option (List ContentData)
contents_stated files [] = Some []
contents_stated files (z ∷ zs) = joined_contents (content_stated files z) (contents_stated files zs)

-- the zones of the release that a mirror states
abbrev pub contents_of_state : MirrorState → Option (List ContentData)
contents_of_state s = contents_stated s.files s.entries

-- the stamp of a manifest is not earlier than that of the last release that came before, it drops
-- none of the names of that release, and there is room for one more
pub record MayFollow (before : Before) (m : Manifest) : Type 0 where
  pub stamp : stamp_fault before.last m.stamp ≡ None
  pub kept : drop_fault before.last (names_in m.zones) ≡ None
  pub room : place_fault before.count ≡ None
