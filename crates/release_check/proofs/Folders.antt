-- What looking into a folder comes to.
use Rattle.std.proofs.Common.{◌≡◌, ◌≢◌, ℕ, List, map, take, Option, None, Some, Result, Ok, Err, ap}
use Rattle.std.proofs.Common.{sym, ◌∙◌, refl, subst}
use Rattle.std.specs.Option.{option_map}
use Rattle.td_base.specs.Views.{File, file_at}
use Rattle.catalogue.specs.declared.release.Leaps.{Leaps}
use Rattle.catalogue.specs.declared.release.Release.{Release}
use Rattle.catalogue.specs.Releases.{ReleaseData, content_data, release_data}
use Rattle.catalogue.specs.declared.release.Content.{Content}
use Rattle.release_manifest.specs.Reading.{IsManifestText, manifest_text_fault}
use Rattle.release_manifest.specs.declared.manifest_fault.ManifestFault.{ManifestFault}
use Rattle.release_manifest.specs.declared.manifest_fault.ManifestFault.TheVariants as manifest
use Rattle.release_manifest.specs.declared.manifest_type.Manifest.{Manifest}
use Rattle.zone_meaning.specs.Sound.{IsSound}
use Rattle.zone_meaning.specs.ZoneHistories.{zone_bytes}
use Rattle.release_check.specs.Before.{Before, Follows}
use Rattle.release_check.specs.Folder.{FolderGives, absent, refused, read, release_in, release_with}
use Rattle.release_check.specs.Folder.{unless, manifest_path}
use Rattle.release_check.specs.Found.{IsFile, IsManifestIn, AreZonesIn, IsTableIn, IsOfManifest}
use Rattle.release_check.specs.Found.{IsExaminedIn, IsReleaseIn}
use Rattle.release_check.specs.Judged.{of_manifest, RefusesText}
use Rattle.release_check.specs.Faults.{form_fault, manifest_fault}
use Rattle.release_check.specs.declared.files.TheConstants.{MANIFEST_ROOM}
use Rattle.release_check.specs.declared.check_fault.CheckFault.{CheckFault}
use Rattle.release_check.specs.declared.check_fault.CheckFault.TheVariants as fault
use Rattle.release_check.proofs.Contents.{zones_of_folder}
use Rattle.release_check.proofs.Fitting.{gave, follows, formed_read, release_told}
use Rattle.release_check.proofs.Fitting.{release_refused_early, release_refused_late}
use Rattle.release_check.proofs.Fitting.{release_refused_last, sound_release}
use Rattle.release_check.proofs.LeapFiles.{sound_table}
use Rattle.release_check.proofs.lemmas.Prefixes.{manifest_text_fault-prefix, manifest-prefix}

-- a fault of the manifest's text
pub refused_text : (text : List ℕ) (f : ManifestFault) → (f ≢ manifest.NoMemory → manifest_text_fault text ≡ Some f) → RefusesText text (of_manifest f)
refused_text text manifest.NoMemory h = (λ e. cc, λ ne. absurd (ne refl))
refused_text text f h = (λ e. cc, λ _. (_, h (λ e. cc), refl))

-- what a directory gives, by what it gives equally
gives : (files : List File) (dir : List ℕ) (before : Before) (a b : Result ReleaseData CheckFault) → a ≡ b → FolderGives files dir before a
    → FolderGives files dir before b
gives files dir before a b e h = subst (λ (r : Result ReleaseData CheckFault). FolderGives files dir before r) e h

-- no manifest
pub manifest_absent : (files : List File) (dir : List ℕ) (before : Before) (e : CheckFault) → IsFile (manifest_path dir) MANIFEST_ROOM (Err e) files
    → IsManifestIn dir before (Err e) files
manifest_absent files dir before e reads nm nr =
    let why = reads nm nr in
    gives files dir before _ _ (ap Err (sym why.0)) (absent why.1)

-- the whole file of its first bytes
whole_file : (found : Option (List ℕ)) (n : ℕ) (prefix : List ℕ) → option_map (take n) found ≡ Some prefix
    → (whole : List ℕ) × (found ≡ Some whole) × (take n whole ≡ prefix)
whole_file None n prefix e = cc
whole_file (Some whole) n prefix e = (whole, refl, cc)

-- a manifest that is refused
pub manifest_refused : (files : List File) (dir : List ℕ) (before : Before) (prefix : List ℕ) (e : CheckFault) → RefusesText prefix e
    → IsFile (manifest_path dir) MANIFEST_ROOM (Ok prefix) files → IsManifestIn dir before (Err e) files
manifest_refused files dir before prefix e refuses reads nm nr =
    let file = whole_file (file_at files (manifest_path dir)) MANIFEST_ROOM prefix reads in
    let why = refuses.1 nm in
    let of_whole : manifest_text_fault file.0 ≡ Some why.0 = sym (manifest_text_fault-prefix file.0) ∙ (ap manifest_text_fault file.2 ∙ why.1) in
    gives files dir before _ _ (ap Err (sym why.2)) (refused file.0 why.0 file.1 of_whole)

-- a manifest
pub manifest_read : (files : List File) (dir : List ℕ) (before : Before) (prefix : List ℕ) (m : Manifest) → IsManifestText prefix m
    → IsFile (manifest_path dir) MANIFEST_ROOM (Ok prefix) files → IsManifestIn dir before (Ok m) files
manifest_read files dir before prefix m is reads =
    let file = whole_file (file_at files (manifest_path dir)) MANIFEST_ROOM prefix reads in
    (file.0, file.1, manifest-prefix file.0 m (subst (λ (t : List ℕ). IsManifestText t m) (sym file.2) is))

-- the release of the parts
pub release_made : (m : Manifest) (contents : List (Content (List ℕ))) (leaps : Option Leaps) (r : Release (List ℕ)) → r.stamp ≡ m.stamp
    → r.publisher ≡ m.publisher
    → r.version ≡ m.version → r.zones ≡ contents → r.leaps ≡ leaps
    → release_data zone_bytes r ≡ release_with m (map (content_data zone_bytes) contents) leaps
release_made m contents leaps r s p v z l = rw (s, p, v, z, l) refl

-- what a manifest gives that was read is what the directory gives
pub folder_read : (files : List File) (dir : List ℕ) (before : Before) (m : Manifest) (r : Result (Release (List ℕ)) CheckFault)
    → IsManifestIn dir before (Ok m) files → IsOfManifest dir m before r files → IsReleaseIn dir before r files
folder_read files dir before m (Ok r) reads is = gives files dir before _ _ is (read reads.0 m reads.1 reads.2)
folder_read files dir before m (Err e) reads is = λ nm nr. gives files dir before _ _ (is nm nr) (read reads.0 m reads.1 reads.2)

-- a manifest that is judged
pub manifest_judged : (files : List File) (dir : List ℕ) (before : Before) (m : Manifest) (e : CheckFault) → (e ≢ fault.NoMemory
    → manifest_fault before m ≡ Some e)
    → IsOfManifest dir m before (Err e) files
manifest_judged files dir before m e judged nm nr = release_refused_early files dir before m e (judged nm)

-- a zone that is refused
pub zones_refused : (files : List File) (dir : List ℕ) (before : Before) (m : Manifest) (e : CheckFault) → manifest_fault before m ≡ None
    → AreZonesIn dir m.zones (Err e) files → IsOfManifest dir m before (Err e) files
zones_refused files dir before m e none zones nm nr = release_refused_late files dir before m e none (zones nm nr)

-- a file of leap seconds that is refused
pub leaps_refused : (files : List File) (dir : List ℕ) (before : Before) (m : Manifest) (contents : List (Content (List ℕ))) (e : CheckFault)
    → manifest_fault before m ≡ None
    → AreZonesIn dir m.zones (Ok contents) files → IsTableIn dir m.leaps (Err e) files → IsOfManifest dir m before (Err e) files
leaps_refused files dir before m contents e none zones table nm nr =
    release_refused_last files dir before m (map (content_data zone_bytes) contents) e none zones (table nm nr)

-- a release
pub release_found : (files : List File) (dir : List ℕ) (before : Before) (m : Manifest) (contents : List (Content (List ℕ))) (leaps : Option Leaps)
    (r : Release (List ℕ))
    → manifest_fault before m ≡ None → r.stamp ≡ m.stamp → r.publisher ≡ m.publisher → r.version ≡ m.version → r.zones ≡ contents → r.leaps ≡ leaps
    → AreZonesIn dir m.zones (Ok contents) files → IsTableIn dir m.leaps (Ok leaps) files → IsOfManifest dir m before (Ok r) files
release_found files dir before m contents leaps r none s p v z l zones table =
    release_told files dir before m (map (content_data zone_bytes) contents) leaps none zones table
    ∙ ap Ok (sym (release_made m contents leaps r s p v z l))

-- the release of a folder is sound, and may follow what stands before it
pub sound_folder : (files : List File) (dir : List ℕ) (before : Before) (r : ReleaseData) (s : Result ReleaseData CheckFault) → s ≡ Ok r
    → FolderGives files dir before s → IsSound r
sound_folder files dir before r _ e (absent h) = absurd (cc)
sound_folder files dir before r _ e (refused text f h is) = absurd (cc)
sound_folder files dir before r _ e (read text m h is) =
    let of = gave files dir before m r e in
    let formed = formed_read text m is in
    subst (λ (x : ReleaseData). IsSound x) of.is (sound_release m of.contents of.leaps formed (zones_of_folder files dir 0 m.zones of.contents of.read)
    (sound_table files dir m.leaps of.leaps formed.expires of.table))

pub following_folder : (files : List File) (dir : List ℕ) (before : Before) (r : ReleaseData) (s : Result ReleaseData CheckFault) → s ≡ Ok r
    → FolderGives files dir before s → Follows before r
following_folder files dir before r _ e (absent h) = absurd (cc)
following_folder files dir before r _ e (refused text f h is) = absurd (cc)
following_folder files dir before r _ e (read text m h is) =
    let of = gave files dir before m r e in
    subst (λ (x : ReleaseData). Follows before x) of.is (follows before m of.contents of.leaps of.none
    (zones_of_folder files dir 0 m.zones of.contents of.read))

-- a manifest value with a text that has not its form
pub form_refused : (files : List File) (dir : List ℕ) (before : Before) (m : Manifest) (e : CheckFault) → (e ≢ fault.NoMemory → form_fault m ≡ Some e)
    → IsExaminedIn dir m before (Err e) files
form_refused files dir before m e judged nm nr = ap (λ f. unless f (release_in files dir before m)) (judged nm)

-- and one without such a text
pub form_passed : (files : List File) (dir : List ℕ) (before : Before) (m : Manifest) (r : Result (Release (List ℕ)) CheckFault) → form_fault m ≡ None
    → IsOfManifest dir m before r files → IsExaminedIn dir m before r files
form_passed files dir before m (Ok r) none is = ap (λ f. unless f (release_in files dir before m)) none ∙ is
form_passed files dir before m (Err e) none is = λ nm nr. ap (λ f. unless f (release_in files dir before m)) none ∙ is nm nr
