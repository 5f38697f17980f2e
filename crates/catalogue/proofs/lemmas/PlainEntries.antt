-- The texts of entries are plain.
use Rattle.std.proofs.Common.{◌≡◌, ℕ, zero, suc, ◌-◌, ◌<◌, List, [], ◌∷◌, ◌++◌, length, map, Option, None, Some, IsTrue, ap}
use Rattle.std.proofs.Common.{sym, subst, ◌∙◌, refl, arith, get_or, append_assoc}
use Rattle.std.proofs.lemmas.Bool.{and_parts}
use Rattle.std.proofs.lemmas.List.Folds.{list_all-append}
use Rattle.std.specs.List.{AllByRecursion, last_or, list_all, slice_get, slice_index_or}
use Rattle.std.specs.Option.{IfSome}
use Rattle.td_base.specs.Names.{IsPlain, is_identifier}
use Rattle.td_base.proofs.lemmas.PlainLemmas.{identifier_is_plain}
use Rattle.td_civil.specs.Bounds.{HasMeaning}
use Rattle.catalogue.specs.Releases.{ContentData, ReleaseData, HasLengths, names_of}
use Rattle.catalogue.specs.Histories.{IsHistory, IsRelease, entries_of, entry_of, last_change, last_release, meta}
use Rattle.catalogue.specs.Plain.{HasPlainLabels, IsPlainEntry}
use Rattle.catalogue.proofs.lemmas.DigitTexts.{tag_plain}
pub use Rattle.catalogue.proofs.lemmas.DigitTexts.{token_plain}

-- ---- releases

-- the texts of a release, files aside, are plain
record IsPlainRelease (r : ReleaseData) : Type 0 where
  labels : HasPlainLabels r
  stamp : HasMeaning r.stamp
  names : IsTrue (list_all is_identifier (names_of r.contents))

-- what the law of a kind of zones says of its sound releases
abbrev pub IsLaw : (ReleaseData → Type 0) → (ReleaseData → Type 0) → Type 0
IsLaw sound P = (r : ReleaseData) → sound r → P r

each_plain : (sound : ReleaseData → Type 0) → IsLaw sound HasLengths → IsLaw sound HasPlainLabels
    → (before rest : List ReleaseData) → IsHistory sound (before ++ rest) → AllByRecursion IsPlainRelease rest
each_plain sound lengths labels before [] is = tt
each_plain sound lengths labels before (r ∷ rest) is =
    let one : IsRelease sound before r = is before r rest refl in (
      record { labels = labels r one.is_sound; stamp = (lengths r one.is_sound).stamp; names = one.fits.identifiers },
      each_plain sound lengths labels (before ++ r ∷ []) rest (subst (IsHistory sound) (sym (append_assoc before (r ∷ []) rest)) is),
    )

last_plain : (o : Option ReleaseData) (H : List ReleaseData) → IfSome o IsPlainRelease → AllByRecursion IsPlainRelease H → IfSome (last_or o H) IsPlainRelease
last_plain o [] one all = one
last_plain o (r ∷ rs) one all = last_plain (Some r) rs all.0 all.1

release_at : (H : List ReleaseData) (i : ℕ) (r : ReleaseData) → AllByRecursion IsPlainRelease H → IsPlainRelease r → IsPlainRelease (slice_index_or H i r)
release_at [] i r all one = one
release_at (x ∷ xs) zero r all one = all.0
release_at (x ∷ xs) (suc i) r all one = release_at xs i r all.1 one

-- ---- entries

aliases_plain : (texts : List (List ℕ)) → IsTrue (list_all is_identifier texts) → AllByRecursion IsPlain texts
aliases_plain [] names = tt
aliases_plain (text ∷ texts) names =
    let parts = and_parts (is_identifier text) (list_all is_identifier texts) names in
    (identifier_is_plain text parts.0, aliases_plain texts parts.1)

zones_plain : (H : List ReleaseData) (last : ReleaseData) (cs : List ContentData) → AllByRecursion IsPlainRelease H → IsPlainRelease last
    → IsTrue (list_all is_identifier (names_of cs)) → AllByRecursion IsPlainEntry (map (entry_of H last) cs)
zones_plain H last [] all one names = tt
zones_plain H last (c ∷ cs) all one names =
    let both = and_parts (is_identifier c.tzid) (list_all is_identifier (c.aliases ++ names_of cs)) names in
    let parts =
    and_parts (list_all is_identifier c.aliases) (list_all is_identifier (names_of cs))
    (sym (list_all-append is_identifier c.aliases (names_of cs)) ∙ both.1)
    in
    let changed = release_at H (last_change H c - 1) last all one in (
      record {
        tzid = identifier_is_plain c.tzid both.0;
        aliases = aliases_plain c.aliases parts.0;
        tag = tag_plain c;
        stamp = changed.stamp;
        publisher = changed.labels.publisher;
        version = changed.labels.version;
      },
      zones_plain H last cs all one parts.1,
    )

last_entries_plain : (H : List ReleaseData) (o : Option ReleaseData) → AllByRecursion IsPlainRelease H → IfSome o IsPlainRelease
    → AllByRecursion IsPlainEntry (entries_of H o)
last_entries_plain H None all one = tt
last_entries_plain H (Some last) all one = zones_plain H last last.contents all one one.names

pub entries_plain : (sound : ReleaseData → Type 0) → IsLaw sound HasLengths → IsLaw sound HasPlainLabels
    → (H : List ReleaseData) → IsHistory sound H → AllByRecursion IsPlainEntry (meta H)
unfolding meta
entries_plain sound lengths labels H is =
    let all = each_plain sound lengths labels [] H is in
    last_entries_plain H (last_release H) all (last_plain None H tt all)

pub each_at : {X : Type 0} (P : X → Type 0) (xs : List X) (i : ℕ) (x : X) → AllByRecursion P xs → slice_get xs i ≡ Some x → P x
each_at P [] i x all at = absurd (cc)
each_at P (y ∷ ys) zero x all at = let same : y ≡ x = cc in subst P same all.0
each_at P (y ∷ ys) (suc i) x all at = each_at P ys i x all.1 at

-- the item at a place, mapped
pub get_mapped : {X Y : Type 0} (f : X → Y) (xs : List X) (i : ℕ) (x : X) → i < length xs → x ≡ get_or xs i x → slice_get (map f xs) i ≡ Some (f x)
get_mapped f [] i x lt is = absurd (omega arith)
get_mapped f (y ∷ ys) zero x lt is = ap (λ z. Some (f z)) (sym is)
get_mapped f (y ∷ ys) (suc i) x lt is = get_mapped f ys i x (omega arith) is
