-- The release of a manifest and of the zones that its files gave.
use Rattle.std.proofs.Common.{◌≡◌, ℕ, ◌+◌, ◌≤◌, ◌<◌, nat_lt, nat_le, ℤ, ◌≤ℤ◌, ◌<ℤ◌, IfSome, Bool}
use Rattle.std.proofs.Common.{true, false, not, ◌||◌, if◌then◌else◌, List, [], ◌∷◌, ◌++◌, length}
use Rattle.std.proofs.Common.{Option, None, Some, Result, Ok, Err, refl, ap, sym, ◌∙◌, subst, arith}
use Rattle.std.proofs.Common.{IsPermutation}
use Rattle.std.specs.List.{AllByRecursion, IsDistinct, list_all, list_any}
use Rattle.std.specs.Cmp.Lexicographic.{nat_list_eq_equiv}
use Rattle.std.specs.Str.{bytes_eq}
use Rattle.std.specs.Prelude.{int_le, int_lt}
use Rattle.std.proofs.lemmas.Bool.{ltb-false, leb-false, and_from, and_parts, or_parts}
use Rattle.std.proofs.lemmas.List.Folds.{list_all-append, list_any-append}
use Rattle.std.proofs.lemmas.List.Sorted.{list_any-IsPermutation, length_permutation}
use Rattle.std.proofs.lemmas.List.Sorted.{IsPermutation-trans}
use Rattle.std.proofs.lemmas.Map.Keys.{IsDistinct-IsPermutation}
use Rattle.td_base.specs.Views.{File}
use Rattle.td_base.specs.Names.{is_identifier, is_label}
use Rattle.catalogue.specs.Order.{rising_by}
use Rattle.catalogue.specs.Releases.{ContentData, ReleaseData, names_of}
use Rattle.td_civil.specs.Bounds.{HasMeaning, has_meaning}
use Rattle.td_civil.specs.declared.moment_type.Moment.{Moment}
use Rattle.td_civil.specs.declared.moment_type.TheConstants.{LO, HI}
use Rattle.catalogue.specs.Histories.{has_name}
use Rattle.catalogue.specs.declared.limits.TheConstants.{MOST_ZONES, MOST_NAMES, MOST_RELEASES}
use Rattle.catalogue.specs.declared.release.Leaps.{Leaps}
use Rattle.catalogue.proofs.lemmas.NameIndex.{each_unsorted}
use Rattle.std.proofs.lemmas.Int.{ints}
use Rattle.td_civil.specs.Reading.{is_date_text}
use Rattle.release_manifest.proofs.lemmas.Expiry.{expiry_is_date}
use Rattle.release_manifest.specs.declared.manifest_type.ManifestLeaps.{ManifestLeaps}
use Rattle.release_manifest.specs.declared.manifest_fault.Path.TheVariants as path
use Rattle.release_check.specs.Before.{Before, Follows, first_missing, stamp_fault, drop_fault}
use Rattle.release_check.specs.Before.{place_fault}
use Rattle.release_check.proofs.Missing.{there, gone}
use Rattle.catalogue.proofs.lemmas.Rising.{each_sorted}
use Rattle.release_manifest.specs.Reading.{IsManifestText}
use Rattle.release_manifest.specs.declared.manifest_type.Manifest.{Manifest}
use Rattle.release_manifest.specs.declared.manifest_type.ManifestZone.{ManifestZone}
use Rattle.zone_meaning.specs.Sound.{IsSound, IsSoundFile, IsSoundLeaps}
use Rattle.td_base.specs.FirstFault.{◌>>=◌, ◌or_else◌, when}
use Rattle.release_check.specs.Folder.{contents_in, release_with, release_in, table_in, unless}
use Rattle.release_check.specs.Found.{AreOf}
use Rattle.release_check.specs.Faults.{names_in, limit_fault, identifier_fault, duplicate_fault}
use Rattle.release_check.specs.Faults.{manifest_fault, form_text_fault, has_date, form_fault}
use Rattle.release_check.specs.Faults.{IsFormed}
use Rattle.release_check.specs.declared.check_fault.CheckFault.{CheckFault}
use Rattle.release_check.specs.declared.check_fault.CheckFault.TheVariants as fault
use Rattle.release_check.specs.declared.check_fault.Limited.TheVariants as limited
use Rattle.release_check.proofs.Names.{names_moved, names_rising, rising_moves, count_kept}
use Rattle.release_check.proofs.Names.{list_all_moved}

-- the release of the zones and the table, by what the manifest and the files give
abbrev from_parts : Manifest → Option CheckFault → Result (List ContentData) CheckFault → Result (Option Leaps) CheckFault → Result ReleaseData CheckFault
from_parts m f r t = unless f (r >>= λ cs. t >>= λ leaps. Ok (release_with m cs leaps))

pub release_told : (files : List File) (dir : List ℕ) (before : Before) (m : Manifest) (cs : List ContentData) (leaps : Option Leaps)
    → manifest_fault before m ≡ None → contents_in files dir 0 m.zones ≡ Ok cs → table_in files dir m.leaps ≡ Ok leaps
    → release_in files dir before m ≡ Ok (release_with m cs leaps)
unfolding release_in
release_told files dir before m cs leaps none is table =
    ap (λ f. from_parts m f (contents_in files dir 0 m.zones) (table_in files dir m.leaps)) none
    ∙ ap (λ r. from_parts m None r (table_in files dir m.leaps)) is
    ∙ ap (from_parts m None (Ok cs)) table

-- a fault of the manifest comes before those of the files
pub release_refused_early : (files : List File) (dir : List ℕ) (before : Before) (m : Manifest) (f : CheckFault)
    → manifest_fault before m ≡ Some f → release_in files dir before m ≡ Err f
unfolding release_in
release_refused_early files dir before m f some = ap (λ g. from_parts m g (contents_in files dir 0 m.zones) (table_in files dir m.leaps)) some

-- a fault of the zones of a manifest without one
pub release_refused_late : (files : List File) (dir : List ℕ) (before : Before) (m : Manifest) (f : CheckFault)
    → manifest_fault before m ≡ None → contents_in files dir 0 m.zones ≡ Err f → release_in files dir before m ≡ Err f
unfolding release_in
release_refused_late files dir before m f none is =
    ap (λ g. from_parts m g (contents_in files dir 0 m.zones) (table_in files dir m.leaps)) none
    ∙ ap (λ r. from_parts m None r (table_in files dir m.leaps)) is

-- and last a fault of the file of leap seconds
pub release_refused_last : (files : List File) (dir : List ℕ) (before : Before) (m : Manifest) (cs : List ContentData) (f : CheckFault)
    → manifest_fault before m ≡ None → contents_in files dir 0 m.zones ≡ Ok cs → table_in files dir m.leaps ≡ Err f
    → release_in files dir before m ≡ Err f
unfolding release_in
release_refused_last files dir before m cs f none is table =
    ap (λ g. from_parts m g (contents_in files dir 0 m.zones) (table_in files dir m.leaps)) none
    ∙ ap (λ r. from_parts m None r (table_in files dir m.leaps)) is
    ∙ ap (from_parts m None (Ok cs)) table

-- what gave a release
pub record Gave (files : List File) (dir : List ℕ) (before : Before) (m : Manifest) (r : ReleaseData) : Type 0 where
  pub contents : List ContentData
  pub leaps : Option Leaps
  pub none : manifest_fault before m ≡ None
  pub read : contents_in files dir 0 m.zones ≡ Ok contents
  pub table : table_in files dir m.leaps ≡ Ok leaps
  pub is : release_with m contents leaps ≡ r

pub gave : (files : List File) (dir : List ℕ) (before : Before) (m : Manifest) (r : ReleaseData) → release_in files dir before m ≡ Ok r
    → Gave files dir before m r
unfolding release_in
gave files dir before m r h = by (manifest_fault before m) (contents_in files dir 0 m.zones) (table_in files dir m.leaps) refl refl refl h
  where
    by : (f : Option CheckFault) (s : Result (List ContentData) CheckFault) (t : Result (Option Leaps) CheckFault) → manifest_fault before m ≡ f
        → contents_in files dir 0 m.zones ≡ s → table_in files dir m.leaps ≡ t → from_parts m f s t ≡ Ok r → Gave files dir before m r
    by (Some f) s t e k l h = absurd (cc)
    by None (Err f) t e k l h = absurd (cc)
    by None (Ok cs) (Err f) e k l h = absurd (cc)
    by None (Ok cs) (Ok leaps) e k l h =
        record { contents = cs; leaps = leaps; none = e; read = k; table = l; is = (let p : Ok (release_with m cs leaps) ≡ Ok r = h in cc) }

-- where two searches in turn find no fault, neither does
both_none : {A : Type 0} (a later : Option A) → (a or_else later) ≡ None → (a ≡ None) × (later ≡ None)
both_none None later h = (refl, h)
both_none (Some x) later h = absurd (cc)

-- a test that would have refused did not hold
passed_over : {A : Type 0} (b : Bool) (f : A) (later : Option A) → (if b then Some f else later) ≡ None → (b ≡ false) × (later ≡ None)
passed_over true f later h = absurd (cc)
passed_over false f later h = (refl, h)

-- a test that had to hold did
passed_on : {A : Type 0} (b : Bool) (f : A) (later : Option A) → (if b then later else Some f) ≡ None → (b ≡ true) × (later ≡ None)
passed_on true f later h = (refl, h)
passed_on false f later h = absurd (cc)

-- without such a fault the limits are kept
limits_kept : (zones names : ℕ) → limit_fault zones names ≡ None → (zones ≤ MOST_ZONES) × (names ≤ MOST_NAMES)
limits_kept zones names h =
    let both = both_none (when (nat_lt MOST_ZONES zones) (fault.Limit limited.Zones zones))
    (when (nat_lt MOST_NAMES names) (fault.Limit limited.Names names)) h in
    let first = passed_over (nat_lt MOST_ZONES zones) (fault.Limit limited.Zones zones) None both.0 in
    let second = passed_over (nat_lt MOST_NAMES names) (fault.Limit limited.Names names) None both.1 in
    (ltb-false MOST_ZONES zones first.0, ltb-false MOST_NAMES names second.0)

-- without such a fault each name is an identifier
all_identifiers : (n : ℕ) (zs : List ManifestZone) → identifier_fault n zs ≡ None → list_all is_identifier (names_in zs) ≡ true
all_identifiers n [] h = refl
all_identifiers n (z ∷ zs) h =
    let both = passed_on (list_all is_identifier (z.tzid ∷ z.aliases)) (fault.Identifier n) (identifier_fault (n + 1) zs) h in
    list_all-append is_identifier (z.tzid ∷ z.aliases) (names_in zs)
    ∙ and_from _ _ both.0 (all_identifiers (n + 1) zs both.1)

-- a name that is none of several is none of those before the last, nor the last
apart_from_last : (before : List (List ℕ)) (name : List ℕ) (names : List (List ℕ))
    → AllByRecursion (λ n. list_any (bytes_eq n) (before ++ name ∷ []) ≡ false) names
    → AllByRecursion (λ n. list_any (bytes_eq n) before ≡ false) names × AllByRecursion (λ n. bytes_eq name n ≡ false) names
apart_from_last before name [] h = (tt, tt)
apart_from_last before name (n ∷ ns) h =
    let later = apart_from_last before name ns h.1 in
    let both = or_parts (list_any (bytes_eq n) before) (bytes_eq n name || false) (sym (list_any-append (bytes_eq n) before (name ∷ [])) ∙ h.0) in
    let last = or_parts (bytes_eq n name) false both.1 in
    ((both.0, later.0), (nat_list_eq_equiv.symm name n ∙ last.0, later.1))

-- without such a fault the names are distinct, and apart from those before them
all_distinct : (before names : List (List ℕ)) → duplicate_fault before names ≡ None
    → AllByRecursion (λ n. list_any (bytes_eq n) before ≡ false) names × IsDistinct bytes_eq names
unfolding IsDistinct
all_distinct before [] h = (tt, tt)
all_distinct before (name ∷ names) h =
    let both = passed_over (list_any (bytes_eq name) before) (fault.Duplicate name) (duplicate_fault (before ++ name ∷ []) names) h in
    let later = all_distinct (before ++ name ∷ []) names both.1 in
    let apart = apart_from_last before name names later.0 in
    ((both.0, apart.0), (apart.1, later.1))

le_from : (x y : ℤ) → int_lt x y ≡ false → y ≤ℤ x
le_from x y h = grind (arith, ints)

-- without such a fault the stamp is not earlier
not_earlier : (last : Option ReleaseData) (stamp : Moment) → stamp_fault last stamp ≡ None → IfSome last (λ r. r.stamp ≤ℤ stamp.seconds)
not_earlier None stamp h = tt
not_earlier (Some r) stamp h =
    let both = passed_over (int_lt stamp.seconds r.stamp) (fault.StampBack (record { seconds = r.stamp }) stamp) None h in
    le_from stamp.seconds r.stamp both.0

-- without such a fault each name is there still
not_missing : (old new : List (List ℕ)) → first_missing old new ≡ None → AllByRecursion (λ name. list_any (bytes_eq name) new ≡ true) old
not_missing [] new h = tt
not_missing (x ∷ xs) new h = by (list_any (bytes_eq x) new) refl (λ rest. not_missing xs new rest)
  where
    by : (b : Bool) → list_any (bytes_eq x) new ≡ b → (first_missing xs new ≡ None → AllByRecursion (λ name. list_any (bytes_eq name) new ≡ true) xs)
        → AllByRecursion (λ name. list_any (bytes_eq name) new ≡ true) (x ∷ xs)
    by true e rest = (e, rest (sym (there new x xs e) ∙ h))
    by false e rest = absurd (let t : first_missing (x ∷ xs) new ≡ Some (fault.Drops x) = gone new x xs e in cc)

-- and each of them is one of the same names in another order
all_there : (old new moved : List (List ℕ)) → IsPermutation new moved → AllByRecursion (λ name. list_any (bytes_eq name) new ≡ true) old
    → list_all (λ name. list_any (bytes_eq name) moved) old ≡ true
all_there [] new moved p h = refl
all_there (x ∷ xs) new moved p h =
    and_from _ _ (sym (list_any-IsPermutation (bytes_eq x) new moved p) ∙ h.0) (all_there xs new moved p h.1)

none_dropped : (last : Option ReleaseData) (names : List (List ℕ)) (r : ReleaseData) → IsPermutation names (names_of r.contents) → drop_fault last names ≡ None
    → IfSome last (λ l. list_all (has_name r) (names_of l.contents) ≡ true)
none_dropped None names r p h = tt
none_dropped (Some l) names r p h =
    all_there (names_of l.contents) names (names_of r.contents) p
    (each_unsorted (λ (t : List ℕ). t) (λ name. list_any (bytes_eq name) names ≡ true) (names_of l.contents)
    (not_missing (rising_by (λ (t : List ℕ). t) (names_of l.contents)) names h))

room : (count : ℕ) → place_fault count ≡ None → count < MOST_RELEASES
room count h =
    let test = (passed_over (nat_le MOST_RELEASES count) fault.HistoryFull None h).0 in
    leb-false MOST_RELEASES count test

-- what a manifest without a fault keeps
record Kept (before : Before) (m : Manifest) : Type 0 where
  zones : length m.zones ≤ MOST_ZONES
  names : length (names_in m.zones) ≤ MOST_NAMES
  stamp : IfSome before.last (λ r. r.stamp ≤ℤ m.stamp.seconds)
  identifiers : list_all is_identifier (names_in m.zones) ≡ true
  distinct : IsDistinct bytes_eq (names_in m.zones)
  dropped : drop_fault before.last (names_in m.zones) ≡ None
  places : before.count < MOST_RELEASES

-- each search without a fault shows its part
kept : (before : Before) (m : Manifest) → manifest_fault before m ≡ None → Kept before m
unfolding manifest_fault
kept before m none =
    let names = names_in m.zones in
    let places = place_fault before.count in
    let drops = drop_fault before.last names in
    let repeats = duplicate_fault [] names in
    let identifiers = identifier_fault 0 m.zones in
    let stamp = stamp_fault before.last m.stamp in
    let first = both_none (limit_fault (length m.zones) (length names)) (stamp or_else identifiers or_else repeats or_else drops or_else places) none in
    let second = both_none stamp (identifiers or_else repeats or_else drops or_else places) first.1 in
    let third = both_none identifiers (repeats or_else drops or_else places) second.1 in
    let fourth = both_none repeats (drops or_else places) third.1 in
    let fifth = both_none drops places fourth.1 in
    let limits = limits_kept (length m.zones) (length names) first.0 in
    record {
      zones = limits.0;
      names = limits.1;
      stamp = not_earlier before.last m.stamp second.0;
      identifiers = all_identifiers 0 m.zones third.0;
      distinct = (all_distinct [] names fourth.0).1;
      dropped = fifth.0;
      places = room before.count fifth.1;
    }

-- the release of a manifest without a fault may follow what stands before it
pub follows : (before : Before) (m : Manifest) (cs : List ContentData) (leaps : Option Leaps) → manifest_fault before m ≡ None → AreOf m.zones cs
    → Follows before (release_with m cs leaps)
follows before m cs leaps none of =
    let k = kept before m none in
    let all = rising_by (λ (c : ContentData). c.tzid) cs in
    let moved : IsPermutation (names_in m.zones) (names_of all) =
    IsPermutation-trans (names_in m.zones) (names_of cs) (names_of all) (names_moved m.zones cs of) (names_rising cs) in
    let count : length m.zones ≡ length all = count_kept m.zones cs of ∙ sym (length_permutation cs all (rising_moves (λ c. c.tzid) cs)) in
    record {
      identifiers = list_all_moved is_identifier (names_in m.zones) (names_of all) moved k.identifiers;
      distinct = IsDistinct-IsPermutation bytes_eq nat_list_eq_equiv.symm (names_in m.zones) (names_of all) moved k.distinct;
      stamp = k.stamp;
      kept = none_dropped before.last (names_in m.zones) (release_with m cs leaps) moved k.dropped;
      zones = subst (λ n. n ≤ MOST_ZONES) count k.zones;
      names = subst (λ n. n ≤ MOST_NAMES) (sym (length_permutation (names_in m.zones) (names_of all) moved)) k.names;
      places = k.places;
    }

-- the files of zones that are sound
sound_files : (zs : List ManifestZone) (cs : List ContentData) → AreOf zs cs → AllByRecursion (λ c. IsSoundFile c.file) cs
sound_files [] [] of = tt
sound_files [] (c ∷ cs) of = absurd of
sound_files (z ∷ zs) [] of = absurd of
sound_files (z ∷ zs) (c ∷ cs) of = (of.0.file, sound_files zs cs of.1)

-- the release of a manifest whose texts have their forms is sound where its files are
pub sound_release : (m : Manifest) (cs : List ContentData) (leaps : Option Leaps) → IsFormed m → AreOf m.zones cs → IfSome leaps IsSoundLeaps
    → IsSound (release_with m cs leaps)
sound_release m cs leaps formed of table = record {
  publisher = formed.publisher;
  version = formed.version;
  stamp = formed.stamp;
  files = each_sorted (λ c. c.tzid) (λ c. IsSoundFile c.file) cs (sound_files m.zones cs of);
  leaps = table;
}

-- a manifest that was read has texts of their forms
has_date_if : (leaps : Option ManifestLeaps) → IfSome leaps (λ l. is_date_text l.expires ≡ true) → has_date leaps ≡ true
has_date_if None h = refl
has_date_if (Some l) h = h

pub formed_read : (text : List ℕ) (m : Manifest) → IsManifestText text m → IsFormed m
formed_read text m read = record {
  publisher = read.is.publisher.fits;
  version = read.is.version.fits;
  stamp = read.is.stamp.within;
  expires = has_date_if m.leaps (expiry_is_date _ m.leaps read.is.leaps);
}

-- and so has one whose texts have no fault
le_to : (x y : ℤ) → int_le x y ≡ true → x ≤ℤ y
le_to x y h = grind (arith, ints)

lt_to : (x y : ℤ) → int_lt x y ≡ true → x <ℤ y
lt_to x y h = grind (arith, ints)

meant_by : (m : ℤ) → has_meaning m ≡ true → HasMeaning m
meant_by m h =
    let both = and_parts (int_le LO m) (int_lt m HI) h in
    (le_to LO m both.0, lt_to m HI both.1)

-- a test that would have refused held
held : {A : Type 0} (b : Bool) (f : A) → when (not b) f ≡ None → b ≡ true
held true f h = refl
held false f h = absurd cc

pub formed_judged : (m : Manifest) → form_fault m ≡ None → IsFormed m
unfolding form_fault
formed_judged m none =
    let publisher = form_text_fault (is_label m.publisher) path.Publisher in
    let version = form_text_fault (is_label m.version) path.Version in
    let stamp = form_text_fault (has_meaning m.stamp.seconds) path.Stamp in
    let expires = form_text_fault (has_date m.leaps) path.Expires in
    let first = both_none publisher (version or_else stamp or_else expires) none in
    let second = both_none version (stamp or_else expires) first.1 in
    let third = both_none stamp expires second.1 in
    record {
      publisher = held _ _ first.0;
      version = held _ _ second.0;
      stamp = meant_by m.stamp.seconds (held _ _ third.0);
      expires = held _ _ third.1;
    }
