-- The release in which a zone last changed, and what a manifest states of it.
use Rattle.std.specs.Prelude.{◌≡◌, ◌-◌, List, Some, ◌≤ℤ◌}
use Rattle.std.specs.List.{Contains, slice_get}
use Rattle.catalogue.specs.Histories.{last_change}
use Rattle.catalogue.specs.Lookups.{zones_of}
use Rattle.catalogue.specs.Releases.{ContentData, ReleaseData}
use Rattle.release_manifest.specs.declared.manifest_type.Manifest.{Manifest}
use Rattle.sync_core.specs.Mirrors.{MirrorState}
use Rattle.sync_core.specs.Published.{manifest_of}

-- a zone of the last release last changed in this release; places count from 1
pub record IsOfLastChange (G : List ReleaseData) (c : ContentData) (r : ReleaseData) : Type 0 where
  pub zone : Contains (zones_of G) c
  pub release : slice_get G (last_change G c - 1) ≡ Some r

-- the labels are those of the release in which a zone last changed, and no zone changed in one with
-- a later stamp
pub record StatesLastChange (G : List ReleaseData) (m : Manifest) : Type 0 where
  pub zone : ContentData
  pub release : ReleaseData
  pub changed : IsOfLastChange G zone release
  pub stamp : m.stamp.seconds ≡ release.stamp
  pub publisher : m.publisher ≡ release.publisher
  pub version : m.version ≡ release.version
  pub latest : (c : ContentData) (r : ReleaseData) → IsOfLastChange G c r → r.stamp ≤ℤ release.stamp

-- the release has the stamp that the mirror states and the zones that it holds
pub record IsServedAs (s : MirrorState) (G : List ReleaseData) (r : ReleaseData) : Type 0 where
  pub stamp : r.stamp ≡ (manifest_of s).stamp.seconds
  pub zones : r.contents ≡ zones_of G
