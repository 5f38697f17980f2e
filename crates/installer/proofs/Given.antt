-- What a manifest gives is what it states.
use Rattle.std.proofs.Common.{◌≡◌, ℕ, ◌+◌, List, [], ◌∷◌, ◌++◌, Option, None, Some, Result, Ok, Err, option_map, option_and_then, refl, ap, subst}
use Rattle.td_base.specs.Views.{File, file_at}
use Rattle.td_base.specs.FirstFault.{◌>>=◌}
use Rattle.catalogue.proofs.lemmas.Growing.{last_added}
use Rattle.catalogue.specs.Order.{rising_by}
use Rattle.catalogue.specs.Releases.{ContentData, ReleaseData}
use Rattle.catalogue.specs.declared.release.Leaps.{Leaps}
use Rattle.release_manifest.specs.declared.manifest_type.Manifest.{Manifest}
use Rattle.release_manifest.specs.declared.manifest_type.ManifestZone.{ManifestZone}
use Rattle.release_check.specs.Before.{Before, before_of}
use Rattle.release_check.specs.Faults.{file_fault, form_fault, manifest_fault}
use Rattle.release_check.specs.Folder.{content_from, content_in, contents_in, examined_in, release_in, release_with, table_in, unless}
use Rattle.release_check.specs.declared.check_fault.CheckFault.{CheckFault}
use Rattle.installer.specs.Installing.{ManifestGives}
use Rattle.installer.specs.Serving.{IsServed, IsStated, stated_content, stated_contents}
use Rattle.installer.proofs.Stated.{content_with, served_as}

-- a result that there is no fault before
not_refused : {A : Type 0} (f : Option CheckFault) (r : Result A CheckFault) (a : A) → unless f r ≡ Ok a → r ≡ Ok a
not_refused None r a e = e
not_refused (Some f) r a e = absurd (cc)

from_file : (n : ℕ) (path : List ℕ) (z : ManifestZone) (c : ContentData) (o : Option (List ℕ)) → content_from n path z o ≡ Ok c → content_with z o ≡ Some c
from_file n path z c None e = absurd (cc)
from_file n path z c (Some bytes) e =
    let given = not_refused (file_fault n bytes) (Ok (record { tzid = z.tzid; aliases = rising_by (λ a. a) z.aliases; file = bytes })) c e in
    cc given

content_stated : (files : List File) (n : ℕ) (z : ManifestZone) (c : ContentData) → content_in files [] n z ≡ Ok c → stated_content files z ≡ Some c
unfolding content_in
content_stated files n z c e = from_file n z.file z c (file_at files z.file) e

joined : (a : Result ContentData CheckFault) (b : Result (List ContentData) CheckFault) (o : Option ContentData) (os : Option (List ContentData))
    (cs : List ContentData) → (a >>= λ c. b >>= λ ds. Ok (c ∷ ds)) ≡ Ok cs → ((c : ContentData) → a ≡ Ok c → o ≡ Some c)
    → ((ds : List ContentData) → b ≡ Ok ds → os ≡ Some ds) → option_and_then (λ c. option_map (λ ds. c ∷ ds) os) o ≡ Some cs
joined (Err f) b o os cs e one rest = absurd (cc)
joined (Ok c) (Err f) o os cs e one rest = absurd (cc)
joined (Ok c) (Ok ds) o os cs e one rest = let same : c ∷ ds ≡ cs = cc in rw (one c refl, rest ds refl) (ap Some same)

contents_stated : (files : List File) (n : ℕ) (zs : List ManifestZone) (cs : List ContentData) → contents_in files [] n zs ≡ Ok cs
    → stated_contents files zs ≡ Some cs
contents_stated files n [] cs e = cc e
contents_stated files n (z ∷ zs) cs e =
    joined (content_in files [] n z) (contents_in files [] (n + 1) zs) (stated_content files z) (stated_contents files zs) cs e
    (λ c h. content_stated files n z c h) (λ ds h. contents_stated files (n + 1) zs ds h)

release_stated : (files : List File) (m : Manifest) (r : ReleaseData) (a : Result (List ContentData) CheckFault) (b : Result (Option Leaps) CheckFault)
    → (a >>= λ cs. b >>= λ leaps. Ok (release_with m cs leaps)) ≡ Ok r
    → ((cs : List ContentData) → a ≡ Ok cs → stated_contents files m.zones ≡ Some cs) → IsStated files m r
release_stated files m r (Err f) b e all = absurd (cc)
release_stated files m r (Ok cs) (Err f) e all = absurd (cc)
release_stated files m r (Ok cs) (Ok leaps) e all =
    let same : release_with m cs leaps ≡ r = cc in
    subst (IsStated files m) same (ap (option_map (λ contents. release_with m contents None)) (all cs refl))

given_stated : (files : List File) (m : Manifest) (before : Before) (r : ReleaseData) → examined_in files [] before m ≡ Ok r → IsStated files m r
unfolding release_in
given_stated files m before r e =
    let judged = not_refused (form_fault m) (release_in files [] before m) r e in
    let given = not_refused (manifest_fault before m)
    (contents_in files [] 0 m.zones >>= λ cs. table_in files [] m.leaps >>= λ leaps. Ok (release_with m cs leaps)) r judged in
    release_stated files m r (contents_in files [] 0 m.zones) (table_in files [] m.leaps) given (λ cs h. contents_stated files 0 m.zones cs h)

pub given_served : (files : List File) (m : Manifest) (H : List ReleaseData) (r : ReleaseData) → ManifestGives m files (before_of H) (Ok r)
    → IsServed files m (H ++ r ∷ [])
given_served files m H r given = (served_as files m (H ++ r ∷ []) r (last_added None H r)).0 (given_stated files m (before_of H) r given)
