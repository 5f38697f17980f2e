-- What reading the zones of a manifest comes to, one after another.
use Rattle.std.proofs.Common.{◌≡◌, ◌≢◌, ℕ, ◌+◌, ◌<◌, List, [], ◌∷◌, ◌++◌, length, map, take, drop}
use Rattle.std.proofs.Common.{get_or, Option, None, Some, Result, Ok, Err, ap, sym, ◌∙◌, refl}
use Rattle.std.proofs.Common.{subst, append_assoc}
use Rattle.std.proofs.lemmas.List.{at_drop_more, map-append, take_more}
use Rattle.td_base.specs.Views.{File, file_at}
use Rattle.catalogue.specs.Releases.{ContentData, content_data}
use Rattle.catalogue.specs.declared.release.Content.{Content}
use Rattle.release_manifest.specs.declared.manifest_type.ManifestZone.{ManifestZone}
use Rattle.td_base.specs.FirstFault.{◌>>=◌}
use Rattle.release_check.specs.Folder.{content_from, content_in, contents_in, unless, path_in}
use Rattle.release_check.specs.Found.{IsFile, IsZoneIn, IsOf, AreOf}
use Rattle.release_check.specs.Faults.{file_fault}
use Rattle.release_check.specs.declared.files.TheConstants.{ZONE_ROOM}
use Rattle.release_check.specs.declared.check_fault.CheckFault.{CheckFault}
use Rattle.release_check.specs.declared.check_fault.CheckFault.TheVariants as fault
use Rattle.release_check.proofs.lemmas.Prefixes.{content_read, content_refused, content_absent, content_with}
use Rattle.release_check.proofs.ZoneFiles.{sound_file}

-- the zones read before, with those that the rest gives
abbrev pub after_these : List ContentData → Result (List ContentData) CheckFault → Result (List ContentData) CheckFault
after_these before r = r >>= λ cs. Ok (before ++ cs)

-- one more zone at the beginning of the rest is one more at the end of those before
one_more : (before : List ContentData) (c : ContentData) (r : Result (List ContentData) CheckFault)
    → after_these before (r >>= λ cs. Ok (c ∷ cs)) ≡ after_these (before ++ c ∷ []) r
one_more before c (Ok cs) = ap Ok (sym (append_assoc before (c ∷ []) cs))
one_more before c (Err f) = refl

-- what the zone and those after it give, by what the zone gives
abbrev from_zone : List File → List ℕ → List ContentData → ℕ → List ManifestZone → Result ContentData CheckFault → Result (List ContentData) CheckFault
from_zone files dir before n zs r = after_these before (r >>= λ c. contents_in files dir (n + 1) zs >>= λ cs. Ok (c ∷ cs))

-- a zone that was read stands with those before it
contents_step : (files : List File) (dir : List ℕ) (before : List ContentData) (n : ℕ) (z : ManifestZone) (zs : List ManifestZone) (c : ContentData)
    → content_in files dir n z ≡ Ok c
    → after_these before (contents_in files dir n (z ∷ zs)) ≡ after_these (before ++ c ∷ []) (contents_in files dir (n + 1) zs)
contents_step files dir before n z zs c is =
    ap (from_zone files dir before n zs) is ∙ one_more before c (contents_in files dir (n + 1) zs)

-- one zone
pub zone_absent : (files : List File) (dir : List ℕ) (n : ℕ) (z : ManifestZone) (name : List ℕ) (e : CheckFault) → name ≡ z.file
    → IsFile (path_in dir name) ZONE_ROOM (Err e) files → IsZoneIn dir n z (Err e) files
zone_absent files dir n z name e is reads nm nr =
    let read : IsFile (path_in dir z.file) ZONE_ROOM (Err e) files = subst (λ (x : List ℕ). IsFile (path_in dir x) ZONE_ROOM (Err e) files) is reads in
    let why = read nm nr in
    content_absent files dir n z why.1 ∙ ap Err (sym why.0)

pub zone_refused : (files : List File) (dir : List ℕ) (n : ℕ) (z : ManifestZone) (name prefix : List ℕ) (e : CheckFault) → name ≡ z.file
    → (e ≢ fault.NoMemory → file_fault n prefix ≡ Some e) → IsFile (path_in dir name) ZONE_ROOM (Ok prefix) files → IsZoneIn dir n z (Err e) files
zone_refused files dir n z name prefix e is judged reads nm nr =
    let read : IsFile (path_in dir z.file) ZONE_ROOM (Ok prefix) files = subst (λ (x : List ℕ). IsFile (path_in dir x) ZONE_ROOM (Ok prefix) files) is reads in
    content_refused files dir n z prefix e read (judged nm)

pub zone_read : (files : List File) (dir : List ℕ) (n : ℕ) (z : ManifestZone) (name prefix : List ℕ) (c : Content (List ℕ)) → name ≡ z.file
    → file_fault n prefix ≡ None → c.tzid ≡ z.tzid → c.aliases ≡ z.aliases → c.zone ≡ prefix → IsFile (path_in dir name) ZONE_ROOM (Ok prefix) files
    → IsZoneIn dir n z (Ok c) files
zone_read files dir n z name prefix c is none tzid aliases zone reads =
    let read : IsFile (path_in dir z.file) ZONE_ROOM (Ok prefix) files = subst (λ (x : List ℕ). IsFile (path_in dir x) ZONE_ROOM (Ok prefix) files) is reads in
    content_read files dir n z prefix c read none tzid aliases zone

-- the zones from one on
next_zone : (zones : List ManifestZone) (n : ℕ) (z : ManifestZone) → n < length zones → z ≡ get_or zones n z → drop n zones ≡ z ∷ drop (n + 1) zones
next_zone zones n z inside is = at_drop_more (λ (x : List ManifestZone). x) zones n z inside ∙ ap (λ x. x ∷ drop (n + 1) zones) (sym is)

-- what the zones so far and the rest give is what all give
abbrev pub SoFar : List File → List ℕ → List ManifestZone → List (Content (List ℕ)) → ℕ → Type 0
SoFar files dir zones contents n =
    after_these (map (content_data (λ b. b)) contents) (contents_in files dir n (drop n zones)) ≡ contents_in files dir 0 zones

pub so_far_more : (files : List File) (dir : List ℕ) (zones : List ManifestZone) (contents : List (Content (List ℕ))) (n : ℕ) (z : ManifestZone)
    (c : Content (List ℕ))
    → n < length zones → z ≡ get_or zones n z → SoFar files dir zones contents n → IsZoneIn dir n z (Ok c) files
    → SoFar files dir zones (contents ++ c ∷ []) (n + 1)
so_far_more files dir zones contents n z c inside is so_far read =
    ap (λ before. after_these before (contents_in files dir (n + 1) (drop (n + 1) zones))) (map-append (content_data (λ b. b)) contents (c ∷ []))
    ∙ sym (contents_step files dir (map (content_data (λ b. b)) contents) n z (drop (n + 1) zones) (content_data (λ b. b) c) read)
    ∙ ap (λ rest. after_these (map (content_data (λ b. b)) contents) (contents_in files dir n rest)) (sym (next_zone zones n z inside is))
    ∙ so_far

-- the contents so far are of the zones so far
of_more : (zs : List ManifestZone) (cs : List ContentData) (z : ManifestZone) (c : ContentData) → AreOf zs cs → IsOf z c → AreOf (zs ++ z ∷ []) (cs ++ c ∷ [])
of_more [] [] z c of one = (one, tt)
of_more [] (d ∷ cs) z c of one = absurd of
of_more (y ∷ zs) [] z c of one = absurd of
of_more (y ∷ zs) (d ∷ cs) z c of one = (of.0, of_more zs cs z c of.1 one)

pub of_next : (zones : List ManifestZone) (contents : List (Content (List ℕ))) (n : ℕ) (z : ManifestZone) (c : Content (List ℕ)) → n < length zones
    → z ≡ get_or zones n z → AreOf (take n zones) (map (content_data (λ b. b)) contents) → IsOf z (content_data (λ b. b) c)
    → AreOf (take (n + 1) zones) (map (content_data (λ b. b)) (contents ++ c ∷ []))
of_next zones contents n z c inside is of one =
    let next : take (n + 1) zones ≡ take n zones ++ z ∷ [] = take_more zones n z inside ∙ ap (λ x. take n zones ++ x ∷ []) (sym is) in
    rw (next, map-append (content_data (λ b. b)) contents (c ∷ []))
    (of_more (take n zones) (map (content_data (λ b. b)) contents) z (content_data (λ b. b) c) of one)

-- a zone that the files give is of the manifest's
content_of : (n : ℕ) (path : List ℕ) (z : ManifestZone) (found : Option (List ℕ)) (c : ContentData) → content_from n path z found ≡ Ok c → IsOf z c
content_of n path z None c h = absurd (cc)
content_of n path z (Some bytes) c h = by (file_fault n bytes) refl h
  where
    by : (f : Option CheckFault) → file_fault n bytes ≡ f → unless f (Ok (content_with z bytes)) ≡ Ok c → IsOf z c
    by (Some f) is e = absurd (cc)
    by None is e =
        let same : content_with z bytes ≡ c = cc in
        subst (λ (d : ContentData). IsOf z d) same (record { tzid = refl; aliases = refl; file = sound_file n bytes is })

pub zone_of_folder : (files : List File) (dir : List ℕ) (n : ℕ) (z : ManifestZone) (c : ContentData) → content_in files dir n z ≡ Ok c → IsOf z c
unfolding content_in
zone_of_folder files dir n z c h = content_of n (path_in dir z.file) z (file_at files (path_in dir z.file)) c h

-- and so are it and those after it
zones_by : (files : List File) (dir : List ℕ) (n : ℕ) (z : ManifestZone) (zs : List ManifestZone) (cs : List ContentData)
    (a : Result ContentData CheckFault) (b : Result (List ContentData) CheckFault) → content_in files dir n z ≡ a
    → (a >>= λ c. b >>= λ ds. Ok (c ∷ ds)) ≡ Ok cs → ((ds : List ContentData) → b ≡ Ok ds → AreOf zs ds) → AreOf (z ∷ zs) cs
zones_by files dir n z zs cs (Err e) b is h rest = absurd (cc)
zones_by files dir n z zs cs (Ok c) (Err e) is h rest = absurd (cc)
zones_by files dir n z zs cs (Ok c) (Ok ds) is h rest =
    let same : c ∷ ds ≡ cs = cc in
    subst (λ (x : List ContentData). AreOf (z ∷ zs) x) same (zone_of_folder files dir n z c is, rest ds refl)

-- and so are all of them
pub zones_of_folder : (files : List File) (dir : List ℕ) (n : ℕ) (zs : List ManifestZone) (cs : List ContentData) → contents_in files dir n zs ≡ Ok cs
    → AreOf zs cs
zones_of_folder files dir n [] [] h = tt
zones_of_folder files dir n [] (c ∷ cs) h = absurd (cc)
zones_of_folder files dir n (z ∷ zs) cs h =
    zones_by files dir n z zs cs (content_in files dir n z) (contents_in files dir (n + 1) zs) refl h (λ ds are. zones_of_folder files dir (n + 1) zs ds are)
