-- The release of a mirror that holds one passes the check of a release.
use Rattle.std.proofs.Common.{◌≡◌, ℕ, zero, suc, ◌+◌, ◌-◌, ◌≤◌, Bool, true, false, ◌&&◌, ◌||◌, cond, Option, None, Some, Result, Ok, List, [], ◌∷◌, ◌++◌}
use Rattle.std.proofs.Common.{length, map, find}
use Rattle.std.proofs.Common.{refl, sym, ap, ◌∙◌, subst, arith, IsTrue, append_assoc, nat_lt, option_map}
use Rattle.std.specs.Prelude.{ℤ, ◌≤ℤ◌, ◌<ℤ◌}
use Rattle.std.specs.List.{AllByRecursion, IsDistinct, list_all, last_or, list_any, slice_index_or}
use Rattle.std.specs.Option.{option_map_or}
use Rattle.std.specs.Str.{bytes_eq}
use Rattle.std.proofs.lemmas.Bool.Decides.{nat_tests}
use Rattle.std.proofs.lemmas.Int.{ints}
use Rattle.std.proofs.lemmas.List.Folds.{list_all-append, list_any-append}
use Rattle.td_base.specs.FirstFault.{◌>>=◌, ◌or_else◌}
use Rattle.td_base.specs.Names.{is_identifier, is_label}
use Rattle.td_base.specs.Views.{File, file_at}
use Rattle.td_civil.specs.Bounds.{HasMeaning, has_meaning}
use Rattle.td_civil.specs.declared.moment_type.TheConstants.{LO, HI}
use Rattle.tzif_reader.specs.Cut.{lists_of}
use Rattle.tzif_reader.specs.Faults.{first_fault}
use Rattle.posix_footer.specs.Carried.{IsCarriedIfAny, beyond}
use Rattle.posix_footer.specs.declared.footer_fault.FooterFault.{FooterFault}
use Rattle.posix_footer.specs.declared.rule_types.Footer.{Footer}
use Rattle.catalogue.specs.Histories.{FitsAfter, IsHistory, IsRelease, entries_of, entry_of, last_change, last_release, meta}
use Rattle.catalogue.specs.Lookups.{contents_of, zones_of}
use Rattle.catalogue.specs.Releases.{ContentData, ReleaseData, names_of}
use Rattle.catalogue.specs.declared.limits.TheConstants.{MOST_NAMES, MOST_ZONES}
use Rattle.catalogue.proofs.lemmas.LastRelease.{last_of}
use Rattle.zone_meaning.specs.FaultLemmas.{file_clear}
use Rattle.zone_meaning.specs.Faults.{footer_text_fault, zone_fault}
use Rattle.zone_meaning.specs.Sound.{IsSound, IsSoundFile}
use Rattle.zone_meaning.specs.State.{footer_meant}
use Rattle.zone_meaning.specs.declared.zone_fault.ZoneFault.TheVariants as zone
use Rattle.json_forms.specs.declared.zone_list.ListZone.{ListZone}
use Rattle.release_manifest.specs.declared.manifest_type.Manifest.{Manifest}
use Rattle.release_manifest.specs.declared.manifest_type.ManifestZone.{ManifestZone}
use Rattle.release_check.specs.Before.{Before}
use Rattle.release_check.specs.Faults.{duplicate_fault, file_fault, form_fault, identifier_fault, limit_fault, manifest_fault, meaning_fault, names_in}
use Rattle.release_check.specs.Folder.{content_from, content_in, contents_in, examined_in, release_in, release_with, table_in, unless}
use Rattle.release_check.specs.declared.check_fault.CheckFault.{CheckFault}
use Rattle.release_check.specs.declared.check_fault.CheckFault.TheVariants as fault
use Rattle.actions.specs.Listing.{list_zone}
use Rattle.sync_core.specs.Mirrors.{MirrorState}
use Rattle.sync_core.specs.Published.{HasFiles, is_latest, manifest_of, manifest_with, manifest_zone, newest}
use Rattle.sync_core.proofs.lemmas.Puts.{bytes_same, same_bytes}
use Rattle.sync_world.specs.Hearing.{action_service}
use Rattle.sync_world.specs.Holding.{HoldsLast}
use Rattle.sync_world.specs.Primaries.{list_told}
use Rattle.mirror_world.specs.Contents.{MayFollow, content_stated, content_with, contents_stated}
use Rattle.mirror_world.proofs.Stating.{contents_held, stated_parts}
use Rattle.mirror_world.proofs.Values.{first, second}

-- ---- the file of a zone

no_rule : (footer : Option Footer) → IsCarriedIfAny footer → option_map_or beyond footer false ≡ false
no_rule None h = refl
no_rule (Some footer) h = h

no_footer : (o : Option FooterFault) → option_map zone.Footer o ≡ None → o ≡ None
no_footer None e = refl
no_footer (Some g) e = absurd (cc)

footer_clear : (bytes : List ℕ) → zone_fault bytes ≡ None → first_fault bytes ≡ None → footer_text_fault (lists_of bytes).footer ≡ None
unfolding zone_fault
footer_clear bytes none read =
    no_footer (footer_text_fault (lists_of bytes).footer)
    (sym (ap (λ o. option_map zone.Tzif o or_else option_map zone.Footer (footer_text_fault (lists_of bytes).footer)) read) ∙ none)

meaning_clear : (n : ℕ) (bytes : List ℕ) → IsSoundFile bytes → meaning_fault n bytes ≡ None
unfolding meaning_fault
meaning_clear n bytes s = rw (s.agrees, s.names, no_rule (footer_meant (lists_of bytes).footer) s.carried) refl

pub no_fault : (n : ℕ) (bytes : List ℕ) → IsSoundFile bytes → file_fault n bytes ≡ None
unfolding file_fault
no_fault n bytes s =
    let read = file_clear bytes s.no_fault in
    rw (read, s.no_leaps, footer_clear bytes s.no_fault read, meaning_clear n bytes s) refl

-- ---- the texts of the manifest

record IsLabelled (z : ListZone) : Type 0 where
  publisher : IsTrue (is_label z.publisher)
  version : IsTrue (is_label z.version)
  stamp : HasMeaning z.stamp.seconds

each_sound : (before rest : List ReleaseData) → IsHistory IsSound (before ++ rest) → AllByRecursion IsSound rest
each_sound before [] is = tt
each_sound before (r ∷ rest) is =
    let one : IsRelease IsSound before r = is before r rest refl in
    (one.is_sound, each_sound (before ++ r ∷ []) rest (subst (IsHistory IsSound) (sym (append_assoc before (r ∷ []) rest)) is))

release_at : (H : List ReleaseData) (i : ℕ) (r : ReleaseData) → AllByRecursion IsSound H → IsSound r → IsSound (slice_index_or H i r)
release_at [] i r all one = one
release_at (x ∷ xs) zero r all one = all.0
release_at (x ∷ xs) (suc i) r all one = release_at xs i r all.1 one

labelled : (G : List ReleaseData) (last : ReleaseData) (cs : List ContentData) → AllByRecursion IsSound G → IsSound last
    → AllByRecursion IsLabelled (map list_zone (map (entry_of G last) cs))
labelled G last [] all one = tt
labelled G last (c ∷ cs) all one =
    let changed = release_at G (last_change G c - 1) last all one in
    (record { publisher = changed.publisher; version = changed.version; stamp = changed.stamp }, labelled G last cs all one)

found_so : (P : ListZone → Type 0) (test : ListZone → Bool) (zs : List ListZone) (z : ListZone) → AllByRecursion P zs → find test zs ≡ Some z → P z
found_so P test [] z all e = absurd (cc)
found_so P test (y ∷ ys) z all e = by (test y) e (found_so P test ys z all.1)
  where
    by : (t : Bool) → cond t (Some y) (find test ys) ≡ Some z → (find test ys ≡ Some z → P z) → P z
    by true k again = let same : y ≡ z = cc in subst P same all.0
    by false k again = again k

meant : (m : ℤ) → HasMeaning m → has_meaning m ≡ true
meant m h = let low : LO ≤ℤ m = h.0 in let high : m <ℤ HI = h.1 in grind (arith, ints)

formed_with : (o : Option ListZone) (zs : List ListZone) → ((z : ListZone) → o ≡ Some z → IsLabelled z) → form_fault (manifest_with o zs) ≡ None
unfolding form_fault is_label
formed_with None zs h = refl
formed_with (Some z) zs h = let k = h z refl in rw (k.publisher, k.version, meant z.stamp.seconds k.stamp) refl

-- ---- its names

names_are : (G : List ReleaseData) (last : ReleaseData) (cs : List ContentData)
    → names_in (map manifest_zone (map list_zone (map (entry_of G last) cs))) ≡ names_of cs
names_are G last [] = refl
names_are G last (c ∷ cs) = ap (λ names. c.tzid ∷ c.aliases ++ names) (names_are G last cs)

as_many : (G : List ReleaseData) (last : ReleaseData) (cs : List ContentData)
    → length (map manifest_zone (map list_zone (map (entry_of G last) cs))) ≡ length cs
as_many G last [] = refl
as_many G last (c ∷ cs) = ap suc (as_many G last cs)

not_more : (most n : ℕ) → n ≤ most → nat_lt most n ≡ false
not_more most n le = grind (arith, nat_tests)

in_limits : (zones names : ℕ) → zones ≤ MOST_ZONES → names ≤ MOST_NAMES → limit_fault zones names ≡ None
in_limits zones names z n = rw (not_more MOST_ZONES zones z, not_more MOST_NAMES names n) refl

identified : (n : ℕ) (zs : List ManifestZone) → list_all is_identifier (names_in zs) ≡ true → identifier_fault n zs ≡ None
identified n [] h = refl
identified n (z ∷ zs) h =
    let parts : (list_all is_identifier (z.tzid ∷ z.aliases) && list_all is_identifier (names_in zs)) ≡ true =
    sym (list_all-append is_identifier (z.tzid ∷ z.aliases) (names_in zs)) ∙ h in
    ap (λ t. cond t (identifier_fault (n + 1) zs) (Some (fault.Identifier n)))
    (first (list_all is_identifier (z.tzid ∷ z.aliases)) (list_all is_identifier (names_in zs)) parts)
    ∙ identified (n + 1) zs (second (list_all is_identifier (z.tzid ∷ z.aliases)) (list_all is_identifier (names_in zs)) parts)

other_way : (x y : List ℕ) → bytes_eq x y ≡ false → bytes_eq y x ≡ false
other_way x y h = by (bytes_eq y x) refl
  where
    by : (b : Bool) → bytes_eq y x ≡ b → bytes_eq y x ≡ false
    by false e = e
    by true e =
        let same : y ≡ x = bytes_same y x e in
        let equal : bytes_eq x y ≡ true = subst (λ z. bytes_eq x z ≡ true) (sym same) (same_bytes x) in
        absurd (cc)

either : (s t : Bool) → s ≡ false → t ≡ false → (s || t) ≡ false
either s t h k = rw (h, k) refl

-- none of the names is the one that now comes before them, nor one of those before it
apart : (before : List (List ℕ)) (name : List ℕ) (names : List (List ℕ)) → AllByRecursion (λ n. list_any (bytes_eq n) before ≡ false) names
    → AllByRecursion (λ n. bytes_eq name n ≡ false) names → AllByRecursion (λ n. list_any (bytes_eq n) (before ++ name ∷ []) ≡ false) names
apart before name [] h k = tt
apart before name (n ∷ ns) h k = (
  list_any-append (bytes_eq n) before (name ∷ [])
      ∙ either (list_any (bytes_eq n) before) (bytes_eq n name || false) h.0 (either (bytes_eq n name) false (other_way name n k.0) refl),
  apart before name ns h.1 k.1,
)

distinct : (before names : List (List ℕ)) → AllByRecursion (λ n. list_any (bytes_eq n) before ≡ false) names → IsDistinct bytes_eq names
    → duplicate_fault before names ≡ None
unfolding IsDistinct
distinct before [] h d = refl
distinct before (name ∷ names) h d =
    ap (λ t. cond t (Some (fault.Duplicate name)) (duplicate_fault (before ++ name ∷ []) names)) h.0
    ∙ distinct (before ++ name ∷ []) names (apart before name names h.1 d.0) d.1

none_before : (names : List (List ℕ)) → AllByRecursion (λ n. list_any (bytes_eq n) [] ≡ false) names
none_before [] = tt
none_before (n ∷ ns) = (refl, none_before ns)

-- ---- all of it

abbrev zones_of_manifest : List ReleaseData → ReleaseData → List ManifestZone
zones_of_manifest G last = map manifest_zone (map list_zone (map (entry_of G last) last.contents))

judged : (G : List ReleaseData) (last : ReleaseData) (earlier : Option ReleaseData) (count : ℕ) (before : Before) (m : Manifest)
    → FitsAfter earlier count last → m.zones ≡ zones_of_manifest G last → MayFollow before m → manifest_fault before m ≡ None
unfolding manifest_fault
judged G last earlier count before m fits is may =
    let names : names_in m.zones ≡ names_of last.contents = ap names_in is ∙ names_are G last last.contents in
    let many : length m.zones ≡ length last.contents = ap length is ∙ as_many G last last.contents in
    let limits : limit_fault (length m.zones) (length (names_in m.zones)) ≡ None =
    in_limits (length m.zones) (length (names_in m.zones)) (subst (λ n. n ≤ MOST_ZONES) (sym many) fits.zones)
    (subst (λ l. length l ≤ MOST_NAMES) (sym names) fits.names) in
    let identifiers = identified 0 m.zones (subst (λ l. list_all is_identifier l ≡ true) (sym names) fits.identifiers) in
    let repeats = distinct [] (names_in m.zones) (none_before (names_in m.zones)) (subst (IsDistinct bytes_eq) (sym names) fits.distinct) in
    rw (limits, may.stamp, identifiers, repeats, may.kept, may.room) refl

module _ (s : MirrorState) (files : List File) (has : HasFiles files s.files) where
  one_given : (n : ℕ) (z : ListZone) (c : ContentData) (o : Option (List ℕ)) → option_map (content_with z) o ≡ Some c → IsSoundFile c.file
      → content_from n z.tzid (manifest_zone z) o ≡ Ok c
  one_given n z c None e sound = absurd (cc)
  one_given n z c (Some bytes) e sound =
      let same : content_with z bytes ≡ c = cc in
      let file : IsSoundFile bytes = subst (λ (d : ContentData). IsSoundFile d.file) (sym same) sound in
      ap (λ o. unless o (Ok (content_with z bytes))) (no_fault n bytes file) ∙ ap Ok same

  content_given : (n : ℕ) (z : ListZone) (c : ContentData) → content_stated s.files z ≡ Some c → IsSoundFile c.file
      → content_in files [] n (manifest_zone z) ≡ Ok c
  unfolding content_in
  content_given n z c e sound =
      one_given n z c (file_at files z.tzid) (ap (option_map (content_with z)) (has z.tzid) ∙ e) sound

  put_together : (r : Result ContentData CheckFault) (rs : Result (List ContentData) CheckFault) (c : ContentData) (cs : List ContentData) → r ≡ Ok c
      → rs ≡ Ok cs
      → (r >>= λ d. rs >>= λ ds. Ok (d ∷ ds)) ≡ Ok (c ∷ cs)
  put_together r rs c cs one others = rw (one, others) refl

  contents_given : (zs : List ListZone) (n : ℕ) (cs : List ContentData) → contents_stated s.files zs ≡ Some cs → AllByRecursion (λ c. IsSoundFile c.file) cs
      → contents_in files [] n (map manifest_zone zs) ≡ Ok cs
  contents_given [] n cs e sound = let same : [] ≡ cs = cc in ap Ok same
  contents_given (z ∷ zs) n cs e sound =
      let q = stated_parts (content_stated s.files z) (contents_stated s.files zs) cs e in
      let all : AllByRecursion (λ c. IsSoundFile c.file) (q.0 ∷ q.1) = subst (AllByRecursion (λ c. IsSoundFile c.file)) q.4 sound in
      put_together (content_in files [] n (manifest_zone z)) (contents_in files [] (n + 1) (map manifest_zone zs)) q.0 q.1 (content_given n z q.0 q.2 all.0)
      (contents_given zs (n + 1) q.1 q.3 all.1)
      ∙ ap Ok (sym q.4)

zones_with : (o : Option ListZone) (zs : List ListZone) → (manifest_with o zs).zones ≡ map manifest_zone zs
zones_with None zs = refl
zones_with (Some z) zs = refl

no_table : (files : List File) (o : Option ListZone) (zs : List ListZone) → table_in files [] (manifest_with o zs).leaps ≡ Ok None
no_table files None zs = refl
no_table files (Some z) zs = refl

passes_with : (files : List File) (before : Before) (m : Manifest) (cs : List ContentData) → form_fault m ≡ None → manifest_fault before m ≡ None
    → contents_in files [] 0 m.zones ≡ Ok cs → table_in files [] m.leaps ≡ Ok None → examined_in files [] before m ≡ Ok (release_with m cs None)
unfolding release_in
passes_with files before m cs form manifest contents table = rw (form, manifest, contents, table) refl

some_last : (o : Option ReleaseData) (x : ReleaseData) (xs : List ReleaseData) → last_or o (x ∷ xs) ≡ None → ⊥
some_last o x [] e = cc
some_last o x (y ∷ ys) e = some_last (Some x) y ys e

no_last : (H : List ReleaseData) → 1 ≤ length H → last_release H ≡ None → ⊥
no_last [] low none = omega (arith, low)
no_last (x ∷ xs) low none = some_last None x xs none

module _ (G : List ReleaseData) (history : IsHistory IsSound G) (s : MirrorState) (files : List File) (has : HasFiles files s.files) (before : Before)
    (holds : HoldsLast action_service s G) (may : MayFollow before (manifest_of s)) where
  by_last : (last : ReleaseData) → last_release G ≡ Some last → s.entries ≡ map list_zone (map (entry_of G last) last.contents)
      → zones_of G ≡ last.contents → (r : ReleaseData) × (examined_in files [] before (manifest_of s) ≡ Ok r)
  by_last last e entries zones =
      let k = last_of IsSound G last history e in
      let sound = k.release.is_sound in
      let labels : AllByRecursion IsLabelled s.entries =
      subst (AllByRecursion IsLabelled) (sym entries) (labelled G last last.contents (each_sound [] G history) sound) in
      let form = formed_with (newest s.entries) s.entries (λ z is. found_so IsLabelled (is_latest s.entries) s.entries z labels is) in
      let zones_are : (manifest_of s).zones ≡ zones_of_manifest G last = zones_with (newest s.entries) s.entries ∙ ap (map manifest_zone) entries in
      let manifest = judged G last (last_release k.before) (length k.before) before (manifest_of s) k.release.fits zones_are may in
      let given = contents_given s files has s.entries 0 (zones_of G) (contents_held IsSound G history s holds)
      (subst (AllByRecursion (λ c. IsSoundFile c.file)) (sym zones) sound.files) in
      let read : contents_in files [] 0 (manifest_of s).zones ≡ Ok (zones_of G) =
      ap (contents_in files [] 0) (zones_with (newest s.entries) s.entries) ∙ given in (
        release_with (manifest_of s) (zones_of G) None,
        passes_with files before (manifest_of s) (zones_of G) form manifest read (no_table files (newest s.entries) s.entries),
      )

  by_release : (o : Option ReleaseData) → last_release G ≡ o → s.entries ≡ map list_zone (entries_of G o) → zones_of G ≡ contents_of o
      → 1 ≤ length G → (r : ReleaseData) × (examined_in files [] before (manifest_of s) ≡ Ok r)
  by_release None e entries zones some = absurd (no_last G some e)
  by_release (Some last) e entries zones some = by_last last e entries zones

  pub passes : 1 ≤ length G → (r : ReleaseData) × (examined_in files [] before (manifest_of s) ≡ Ok r)
  unfolding list_told meta
  passes some = by_release (last_release G) refl holds.entries refl some
