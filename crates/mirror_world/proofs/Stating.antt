-- A mirror that holds a release exactly states the contents of it.
use Rattle.std.proofs.Common.{◌≡◌, ℕ, ◌+◌, Bool, true, false, cond, Option, None, Some, Result, Ok, Err, List, [], ◌∷◌, ◌++◌, refl, sym, ap, ◌∙◌, subst, map}
use Rattle.std.proofs.Common.{option_map, append_assoc}
use Rattle.std.specs.List.{AllByRecursion}
use Rattle.std.specs.Str.{bytes_eq}
use Rattle.td_base.specs.FirstFault.{◌>>=◌}
use Rattle.td_base.specs.Views.{File, file_at}
use Rattle.catalogue.specs.Histories.{IsHistory, entries_of, entry_of, last_release, meta}
use Rattle.catalogue.specs.Lookups.{contents_of, zones_of}
use Rattle.catalogue.specs.Order.{IsRising, is_before, rising_by}
use Rattle.catalogue.specs.Releases.{ContentData, IsInOrder, ReleaseData}
use Rattle.catalogue.specs.declared.release.Leaps.{Leaps}
use Rattle.catalogue.proofs.lemmas.LastRelease.{last_of}
use Rattle.catalogue.proofs.lemmas.Rising.{not_before_itself}
use Rattle.json_forms.specs.declared.zone_list.ListZone.{ListZone}
use Rattle.release_manifest.specs.declared.manifest_type.Manifest.{Manifest}
use Rattle.release_check.specs.Before.{Before}
use Rattle.release_check.specs.Faults.{file_fault, form_fault, manifest_fault}
use Rattle.release_check.specs.Folder.{content_from, content_in, contents_in, examined_in, release_in, release_with, table_in, unless}
use Rattle.release_check.specs.declared.check_fault.CheckFault.{CheckFault}
use Rattle.actions.specs.Listing.{list_zone}
use Rattle.sync_core.specs.Mirrors.{MirrorState, ZoneFile, file_name}
use Rattle.sync_core.specs.Names.{at_text}
use Rattle.sync_core.specs.Published.{HasFiles, bytes_of, manifest_of, manifest_with, manifest_zone, newest}
use Rattle.sync_core.proofs.lemmas.Puts.{bytes_same, same_bytes}
use Rattle.sync_world.specs.Hearing.{action_service}
use Rattle.sync_world.specs.Holding.{HoldsLast, file_of}
use Rattle.sync_world.specs.Primaries.{list_told}
use Rattle.mirror_world.proofs.lemmas.Rising.{stays}
use Rattle.mirror_world.specs.Contents.{content_stated, content_with, contents_of_state, contents_stated, joined_contents}

-- ---- order

not_same : (x y : List ℕ) → is_before x y ≡ true → bytes_eq y x ≡ false
not_same x y h = by (bytes_eq y x) refl
  where
    by : (b : Bool) → bytes_eq y x ≡ b → bytes_eq y x ≡ false
    by false e = e
    by true e =
        let same : y ≡ x = bytes_same y x e in
        let itself : is_before x x ≡ true = subst (λ z. is_before x z ≡ true) same h in
        let other = not_before_itself x x itself in
        absurd (cc)

map_same : (xs : List (List ℕ)) → map (λ x. x) xs ≡ xs
map_same [] = refl
map_same (x ∷ xs) = ap (λ ys. x ∷ ys) (map_same xs)

aliases_stay : (names : List (List ℕ)) → IsRising names → rising_by (λ a. a) names ≡ names
aliases_stay names h = stays (λ a. a) names (subst IsRising (sym (map_same names)) h)

-- ---- the file of each zone is found

abbrev tzid_of : ContentData → List ℕ
tzid_of c = c.tzid

abbrev files_of : List ContentData → List ZoneFile
files_of cs = map (file_of action_service) cs

before_middle : (x : List ℕ) (front : List ContentData) (c : ContentData) (after : List ContentData)
    → AllByRecursion (λ y. is_before x y ≡ true) (map tzid_of (front ++ c ∷ after)) → is_before x c.tzid ≡ true
before_middle x [] c after h = h.0
before_middle x (d ∷ front) c after h = before_middle x front c after h.1

found_after : (front : List ContentData) (c : ContentData) (after : List ContentData) → IsRising (map tzid_of (front ++ c ∷ after))
    → at_text file_name (files_of (front ++ c ∷ after)) c.tzid ≡ Some (file_of action_service c)
found_after [] c after h =
    ap (λ b. cond b (Some (file_of action_service c)) (at_text file_name (files_of after) c.tzid)) (same_bytes c.tzid)
found_after (d ∷ front) c after h =
    ap (λ b. cond b (Some (file_of action_service d)) (at_text file_name (files_of (front ++ c ∷ after)) c.tzid))
    (not_same d.tzid c.tzid (before_middle d.tzid front c after h.0))
    ∙ found_after front c after h.1

-- ---- what is stated

content_is : (files : List ZoneFile) (G : List ReleaseData) (last : ReleaseData) (c : ContentData) → IsRising c.aliases
    → at_text file_name files c.tzid ≡ Some (file_of action_service c) → content_stated files (list_zone (entry_of G last c)) ≡ Some c
content_is files G last c rises found =
    ap (λ o. option_map (content_with (list_zone (entry_of G last c))) (option_map bytes_of o)) found
    ∙ ap (λ (names : List (List ℕ)). Some (record { tzid = c.tzid; aliases = names; file = c.file })) (aliases_stay c.aliases rises)

each_stated : (G : List ReleaseData) (last : ReleaseData) (front cs : List ContentData) → IsRising (map tzid_of (front ++ cs))
    → AllByRecursion (λ c. IsRising c.aliases) cs
    → contents_stated (files_of (front ++ cs)) (map list_zone (map (entry_of G last) cs)) ≡ Some cs
each_stated G last front [] h rise = refl
each_stated G last front (c ∷ cs) h rise =
    let same : front ++ c ∷ cs ≡ (front ++ c ∷ []) ++ cs = sym (append_assoc front (c ∷ []) cs) in
    let rest =
    subst (λ all. contents_stated (files_of all) (map list_zone (map (entry_of G last) cs)) ≡ Some cs) (sym same)
    (each_stated G last (front ++ c ∷ []) cs (subst (λ all. IsRising (map tzid_of all)) same h) rise.1)
    in
    ap (λ o. joined_contents o (contents_stated (files_of (front ++ c ∷ cs)) (map list_zone (map (entry_of G last) cs))))
    (content_is (files_of (front ++ c ∷ cs)) G last c rise.0 (found_after front c cs h))
    ∙ ap (joined_contents (Some c)) rest

-- contents that are stated are those of the first and of the others
pub stated_parts : (o : Option ContentData) (os : Option (List ContentData)) (all : List ContentData) → joined_contents o os ≡ Some all
    → (c : ContentData) × (cs : List ContentData) × (o ≡ Some c) × (os ≡ Some cs) × (all ≡ c ∷ cs)
stated_parts None os all e = absurd (cc)
stated_parts (Some c) None all e = absurd (cc)
stated_parts (Some c) (Some cs) all e = let same : c ∷ cs ≡ all = cc in (c, cs, refl, refl, sym same)

module _ (sound : ReleaseData → Type 0) (G : List ReleaseData) (history : IsHistory sound G) where
  in_order : (last : ReleaseData) → last_release G ≡ Some last → IsInOrder last
  in_order last e = let k = last_of sound G last history e in k.release.in_order

  by_last : (o : Option ReleaseData) → last_release G ≡ o
      → contents_stated (files_of (contents_of o)) (map list_zone (entries_of G o)) ≡ Some (contents_of o)
  by_last None e = refl
  by_last (Some last) e = let order = in_order last e in each_stated G last [] last.contents order.contents order.aliases

  told_stated : contents_stated (files_of (zones_of G)) (list_told G) ≡ Some (zones_of G)
  unfolding list_told meta
  told_stated = by_last (last_release G) refl

  pub contents_held : (s : MirrorState) → HoldsLast action_service s G → contents_of_state s ≡ Some (zones_of G)
  contents_held s k = ap (λ files. contents_stated files s.entries) k.files ∙ ap (contents_stated (files_of (zones_of G))) k.entries ∙ told_stated

  by_order : (o : Option ReleaseData) → last_release G ≡ o → rising_by tzid_of (contents_of o) ≡ contents_of o
  by_order None e = refl
  by_order (Some last) e = let order = in_order last e in stays tzid_of last.contents order.contents

  zones_rise : rising_by tzid_of (zones_of G) ≡ zones_of G
  zones_rise = by_order (last_release G) refl

  -- ---- the release of a manifest over its files

  module _ (s : MirrorState) (files : List File) (has : HasFiles files s.files) where
    -- what is stated of a zone is what its check gives
    one_content : (n : ℕ) (z : ListZone) (c d : ContentData) (o : Option (List ℕ)) → file_at files z.tzid ≡ o
        → content_from n z.tzid (manifest_zone z) o ≡ Ok c → option_map (content_with z) o ≡ Some d → c ≡ d
    one_content n z c d None e f g = absurd (cc)
    one_content n z c d (Some bytes) e f g = by (file_fault n bytes) f
      where
        by : (fault : Option CheckFault) → unless fault (Ok (content_with z bytes)) ≡ Ok c → c ≡ d
        by (Some fault) k = absurd (cc)
        by None k = cc

    same_content : (n : ℕ) (z : ListZone) (c d : ContentData) → content_in files [] n (manifest_zone z) ≡ Ok c → content_stated s.files z ≡ Some d → c ≡ d
    unfolding content_in
    same_content n z c d f g =
        one_content n z c d (file_at files z.tzid) refl f (ap (option_map (content_with z)) (has z.tzid) ∙ g)

    record Parts (r : Result ContentData CheckFault) (rs : Result (List ContentData) CheckFault) (all : List ContentData) : Type 0 where
      first : ContentData
      rest : List ContentData
      one : r ≡ Ok first
      others : rs ≡ Ok rest
      whole : all ≡ first ∷ rest

    parts : (r : Result ContentData CheckFault) (rs : Result (List ContentData) CheckFault) (all : List ContentData)
        → (r >>= λ c. rs >>= λ cs. Ok (c ∷ cs)) ≡ Ok all → Parts r rs all
    parts (Err f) rs all e = absurd (cc)
    parts (Ok c) (Err f) all e = absurd (cc)
    parts (Ok c) (Ok cs) all e = let same : c ∷ cs ≡ all = cc in record { first = c; rest = cs; one = refl; others = refl; whole = sym same }

    same_contents : (zs : List ListZone) (n : ℕ) (cs ds : List ContentData) → contents_in files [] n (map manifest_zone zs) ≡ Ok cs
        → contents_stated s.files zs ≡ Some ds → cs ≡ ds
    same_contents [] n cs ds f g = let a : [] ≡ cs = cc in let b : [] ≡ ds = cc in sym a ∙ b
    same_contents (z ∷ zs) n cs ds f g =
        let p = parts (content_in files [] n (manifest_zone z)) (contents_in files [] (n + 1) (map manifest_zone zs)) cs f in
        let q = stated_parts (content_stated s.files z) (contents_stated s.files zs) ds g in
        let head : p.first ≡ q.0 = same_content n z p.first q.0 p.one q.2 in
        let tail : p.rest ≡ q.1 = same_contents zs (n + 1) p.rest q.1 p.others q.3 in
        p.whole ∙ ap (λ c. c ∷ p.rest) head ∙ ap (λ l. q.0 ∷ l) tail ∙ sym q.4

    zones_are : (o : Option ListZone) → (manifest_with o s.entries).zones ≡ map manifest_zone s.entries
    zones_are None = refl
    zones_are (Some z) = refl

    judged : (fault : Option CheckFault) (r : Result ReleaseData CheckFault) (x : ReleaseData) → unless fault r ≡ Ok x → r ≡ Ok x
    judged None r x e = e
    judged (Some f) r x e = absurd (cc)

    given : (m : Manifest) (rs : Result (List ContentData) CheckFault) (table : Result (Option Leaps) CheckFault) (r : ReleaseData)
        → (rs >>= λ cs. table >>= λ leaps. Ok (release_with m cs leaps)) ≡ Ok r
        → (cs : List ContentData) × (rs ≡ Ok cs) × (r.contents ≡ rising_by tzid_of cs)
    given m (Err f) table r e = absurd (cc)
    given m (Ok cs) (Err f) r e = absurd (cc)
    given m (Ok cs) (Ok leaps) r e =
        let same : release_with m cs leaps ≡ r = cc in (cs, refl, sym (ap (λ (x : ReleaseData). x.contents) same))

    pub release_held : (before : Before) (r : ReleaseData) → HoldsLast action_service s G → examined_in files [] before (manifest_of s) ≡ Ok r
        → r.contents ≡ zones_of G
    unfolding release_in
    release_held before r k e =
        let m = manifest_of s in
        let checked : release_in files [] before m ≡ Ok r = judged (form_fault m) (release_in files [] before m) r e in
        let whole =
        judged (manifest_fault before m)
        (contents_in files [] 0 m.zones >>= λ cs. table_in files [] m.leaps >>= λ leaps. Ok (release_with m cs leaps)) r checked in
        let g = given m (contents_in files [] 0 m.zones) (table_in files [] m.leaps) r whole in
        let read : contents_in files [] 0 (map manifest_zone s.entries) ≡ Ok g.0 =
        ap (contents_in files [] 0) (sym (zones_are (newest s.entries))) ∙ g.1 in
        let same : g.0 ≡ zones_of G = same_contents s.entries 0 g.0 (zones_of G) read (contents_held s k) in
        g.2 ∙ ap (rising_by tzid_of) same ∙ zones_rise
