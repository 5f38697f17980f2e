-- The zone that has a name in a sound release: its names are identifiers, and its file is sound.
use Rattle.std.proofs.Common.{◌≡◌, ℕ, Bool, true, false, ◌||◌, cond, Option, None, Some, List, [], ◌∷◌, refl, sym, subst, ◌∙◌}
use Rattle.std.specs.List.{AllByRecursion, list_all, list_any}
use Rattle.std.specs.Str.{bytes_eq}
use Rattle.std.proofs.lemmas.Bool.{and_parts}
use Rattle.std.proofs.lemmas.List.Folds.{list_all-append}
use Rattle.td_base.specs.Names.{is_identifier}
use Rattle.catalogue.specs.Histories.{IsHistory, last_release}
use Rattle.catalogue.specs.Lookups.{contents_of, is_name_of, named, zone_at, zones_of}
use Rattle.catalogue.specs.Releases.{ContentData, ReleaseData, names_of}
use Rattle.catalogue.proofs.lemmas.LastRelease.{last_of}
use Rattle.zone_meaning.specs.Sound.{IsSound, IsSoundFile}
use Rattle.sync_core.proofs.lemmas.Puts.{bytes_same}

-- a name of a zone, and the zone
pub record IsNamed (name : List ℕ) (c : ContentData) : Type 0 where
  pub asked : is_identifier name ≡ true
  pub tzid : is_identifier c.tzid ≡ true
  pub file : IsSoundFile c.file

one_of : (name : List ℕ) (names : List (List ℕ)) → list_any (bytes_eq name) names ≡ true → list_all is_identifier names ≡ true → is_identifier name ≡ true
one_of name [] there all = absurd (cc)
one_of name (x ∷ xs) there all =
    let both = and_parts (is_identifier x) (list_all is_identifier xs) all in
    by both.0 (λ k. one_of name xs k both.1) (bytes_eq name x) refl there
  where
    by : is_identifier x ≡ true → (list_any (bytes_eq name) xs ≡ true → is_identifier name ≡ true) → (b : Bool) → bytes_eq name x ≡ b
        → (b || list_any (bytes_eq name) xs) ≡ true → is_identifier name ≡ true
    by first again true e k = subst (λ z. is_identifier z ≡ true) (sym (bytes_same name x e)) first
    by first again false e k = again k

-- the names of the first zone, and those of the others
own_names : (c : ContentData) (cs : List ContentData) → list_all is_identifier (names_of (c ∷ cs)) ≡ true
    → (list_all is_identifier (c.tzid ∷ c.aliases) ≡ true) × (list_all is_identifier (names_of cs) ≡ true)
own_names c cs all =
    and_parts (list_all is_identifier (c.tzid ∷ c.aliases)) (list_all is_identifier (names_of cs))
    (sym (list_all-append is_identifier (c.tzid ∷ c.aliases) (names_of cs)) ∙ all)

is_first : (name : List ℕ) (c : ContentData) → is_name_of name c ≡ true → list_all is_identifier (c.tzid ∷ c.aliases) ≡ true → IsSoundFile c.file
    → IsNamed name c
is_first name c there all file = record {
  asked = one_of name (c.tzid ∷ c.aliases) there all;
  tzid = (and_parts (is_identifier c.tzid) (list_all is_identifier c.aliases) all).0;
  file = file;
}

named_among : (name : List ℕ) (cs : List ContentData) (c : ContentData) → list_all is_identifier (names_of cs) ≡ true
    → AllByRecursion (λ z. IsSoundFile z.file) cs → named cs name ≡ Some c → IsNamed name c
named_among name [] c all files e = absurd (cc)
named_among name (x ∷ xs) c all files e =
    let own = own_names x xs all in
    by own.0 files.0 (λ k. named_among name xs c own.1 files.1 k) (is_name_of name x) refl e
  where
    by : list_all is_identifier (x.tzid ∷ x.aliases) ≡ true → IsSoundFile x.file → (named xs name ≡ Some c → IsNamed name c) → (b : Bool)
        → is_name_of name x ≡ b → cond b (Some x) (named xs name) ≡ Some c → IsNamed name c
    by own file again true there k = let same : x ≡ c = cc in subst (IsNamed name) same (is_first name x there own file)
    by own file again false other k = again k

-- the zone with an identifier has it as a name
own_name : (tzid : List ℕ) (cs : List ContentData) (c : ContentData) → zone_at cs tzid ≡ Some c → bytes_eq tzid c.tzid ≡ true
own_name tzid [] c e = absurd (cc)
own_name tzid (x ∷ xs) c e = by (λ k. own_name tzid xs c k) (bytes_eq tzid x.tzid) refl e
  where
    by : (zone_at xs tzid ≡ Some c → bytes_eq tzid c.tzid ≡ true) → (b : Bool) → bytes_eq tzid x.tzid ≡ b → cond b (Some x) (zone_at xs tzid) ≡ Some c
        → bytes_eq tzid c.tzid ≡ true
    by again true there k = let same : x ≡ c = cc in subst (λ z. bytes_eq tzid z.tzid ≡ true) same there
    by again false other k = again k

at_among : (tzid : List ℕ) (cs : List ContentData) (c : ContentData) → list_all is_identifier (names_of cs) ≡ true
    → AllByRecursion (λ z. IsSoundFile z.file) cs → zone_at cs tzid ≡ Some c → IsNamed tzid c
at_among tzid [] c all files e = absurd (cc)
at_among tzid (x ∷ xs) c all files e =
    let own = own_names x xs all in
    by own.0 files.0 (λ k. at_among tzid xs c own.1 files.1 k) (bytes_eq tzid x.tzid) refl e
  where
    by : list_all is_identifier (x.tzid ∷ x.aliases) ≡ true → IsSoundFile x.file → (zone_at xs tzid ≡ Some c → IsNamed tzid c) → (b : Bool)
        → bytes_eq tzid x.tzid ≡ b → cond b (Some x) (zone_at xs tzid) ≡ Some c → IsNamed tzid c
    by own file again true there k =
        let same : x ≡ c = cc in
        let first : is_name_of tzid x ≡ true = rw there refl in
        subst (IsNamed tzid) same (is_first tzid x first own file)
    by own file again false other k = again k

pub tzid_is : (tzid : List ℕ) (cs : List ContentData) (c : ContentData) → zone_at cs tzid ≡ Some c → tzid ≡ c.tzid
tzid_is tzid cs c e = bytes_same tzid c.tzid (own_name tzid cs c e)

-- ---- in the last release of a history

pub zone_named : (G : List ReleaseData) (name : List ℕ) (c : ContentData) → IsHistory IsSound G → named (zones_of G) name ≡ Some c → IsNamed name c
zone_named G name c history e = by (last_release G) refl e
  where
    by : (o : Option ReleaseData) → last_release G ≡ o → named (contents_of o) name ≡ Some c → IsNamed name c
    by None is k = absurd (cc)
    by (Some r) is k =
        let release = (last_of IsSound G r history is).release in
        named_among name r.contents c release.fits.identifiers release.is_sound.files k

pub zone_there : (G : List ReleaseData) (tzid : List ℕ) (c : ContentData) → IsHistory IsSound G → zone_at (zones_of G) tzid ≡ Some c → IsNamed tzid c
zone_there G tzid c history e = by (last_release G) refl e
  where
    by : (o : Option ReleaseData) → last_release G ≡ o → zone_at (contents_of o) tzid ≡ Some c → IsNamed tzid c
    by None is k = absurd (cc)
    by (Some r) is k =
        let release = (last_of IsSound G r history is).release in
        at_among tzid r.contents c release.fits.identifiers release.is_sound.files k
