-- What a mirror confirms as served is what its primary had.
use Rattle.std.proofs.Common.{◌≡◌, ℕ, List, [], ◌∷◌, Option, None, Some, refl, sym, ap, ◌∙◌, map}
use Rattle.std.proofs.Common.{option_map}
use Rattle.std.specs.Option.{IsSomeAnd, option_and_then}
use Rattle.td_base.specs.Views.{File}
use Rattle.catalogue.specs.Histories.{IsHistory, last_release}
use Rattle.catalogue.specs.Lookups.{contents_of, zones_of}
use Rattle.catalogue.specs.Order.{rising_by}
use Rattle.catalogue.specs.Releases.{ContentData, ReleaseData}
use Rattle.catalogue.proofs.lemmas.LastRelease.{last_of}
use Rattle.installer.specs.Serving.{IsStated, stated_content, stated_contents}
use Rattle.json_forms.specs.declared.zone_list.ListZone.{ListZone}
use Rattle.mirror_world.specs.Contents.{content_stated, content_with, contents_of_state, contents_stated, joined_contents}
use Rattle.mirror_world.proofs.lemmas.Rising.{stays}
use Rattle.release_check.specs.Folder.{release_with}
use Rattle.sync_core.specs.Mirrors.{MirrorState, ZoneFile}
use Rattle.sync_core.specs.Published.{HasFiles, manifest_of, manifest_with, manifest_zone, newest}
use Rattle.run_ends.specs.Following.{StatesLast}
use Rattle.zone_meaning.specs.Sound.{IsSound}

abbrev tzid_of : ContentData → List ℕ
tzid_of c = c.tzid

zones_rise : (G : List ReleaseData) → IsHistory IsSound G → rising_by tzid_of (zones_of G) ≡ zones_of G
zones_rise G history = by (last_release G) refl
  where
    by : (o : Option ReleaseData) → last_release G ≡ o → rising_by tzid_of (contents_of o) ≡ contents_of o
    by None e = refl
    by (Some last) e = let k = last_of IsSound G last history e in stays tzid_of last.contents k.release.in_order.contents

zones_are : (o : Option ListZone) (zs : List ListZone) → (manifest_with o zs).zones ≡ map manifest_zone zs
zones_are None zs = refl
zones_are (Some z) zs = refl

joins : (o : Option ContentData) (os : Option (List ContentData)) → option_and_then (λ c. option_map (λ cs. c ∷ cs) os) o ≡ joined_contents o os
joins None os = refl
joins (Some c) None = refl
joins (Some c) (Some cs) = refl

-- a manifest's zones over a store of the mirror's files are those of its entries
stated_alike : (files : List File) (kept : List ZoneFile) (zs : List ListZone) → HasFiles files kept
    → stated_contents files (map manifest_zone zs) ≡ contents_stated kept zs
stated_alike files kept [] has = refl
stated_alike files kept (z ∷ zs) has =
    ap (λ os. option_and_then (λ c. option_map (λ cs. c ∷ cs) os) (stated_content files (manifest_zone z))) (stated_alike files kept zs has)
    ∙ ap (λ o. option_and_then (λ c. option_map (λ cs. c ∷ cs) (contents_stated kept zs)) o) (ap (option_map (content_with z)) (has z.tzid))
    ∙ joins (content_stated kept z) (contents_stated kept zs)

-- the last of some releases, if a mirror states it that holds a primary's zones, has these zones
pub last_is_held : (G : List ReleaseData) (s : MirrorState) (H : List ReleaseData) → IsHistory IsSound G → contents_of_state s ≡ Some (zones_of G)
    → StatesLast H s → IsSomeAnd (last_release H) (λ r. r.contents ≡ zones_of G)
last_is_held G s H history held states = by (last_release H) states.2
  where
    by : (o : Option ReleaseData) → IsSomeAnd o (IsStated states.0 (manifest_of s)) → IsSomeAnd o (λ r. r.contents ≡ zones_of G)
    by None h = h
    by (Some r) h =
        let m = manifest_of s in
        let stated : stated_contents states.0 m.zones ≡ Some (zones_of G) =
        ap (stated_contents states.0) (zones_are (newest s.entries) s.entries) ∙ stated_alike states.0 s.files s.entries states.1 ∙ held in
        let whole : Some (release_with m (zones_of G) None) ≡ Some (record r { leaps = None }) =
        sym (ap (option_map (λ cs. release_with m cs None)) stated) ∙ h in
        let same : release_with m (zones_of G) None ≡ record r { leaps = None } = cc in
        sym (ap (λ (x : ReleaseData). x.contents) same) ∙ zones_rise G history
