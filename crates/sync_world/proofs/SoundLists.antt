-- A list of zones of a sound history is read back from its text.
use Rattle.std.proofs.Common.{◌≡◌, ℕ, zero, suc, ◌-◌, ◌≤◌, Bool, true, false, cond, Option, None, Some, Ok, List, [], ◌∷◌, ◌++◌, length, refl, sym}
use Rattle.std.proofs.Common.{◌∙◌, subst, map, arith, IsTrue, append_assoc, length-append, filter}
use Rattle.std.proofs.lemmas.Bool.{and_parts}
use Rattle.std.proofs.lemmas.Int.{ints}
use Rattle.std.proofs.lemmas.List.Folds.{list_all-append}
use Rattle.std.specs.List.{AllByRecursion, list_all, slice_index_or}
use Rattle.std.specs.Prelude.{ℤ, ◌≤ℤ◌, ◌<ℤ◌}
use Rattle.td_base.specs.Names.{is_identifier}
use Rattle.td_civil.specs.Bounds.{HasMeaning, HasText}
use Rattle.td_civil.specs.declared.moment_type.TheConstants.{LO, HI}
use Rattle.catalogue.specs.Histories.{EntryData, IsHistory, IsRelease, entries_of, entry_of, last_change, last_release, meta, token_of}
use Rattle.catalogue.specs.Plain.{IsPlainEntry}
use Rattle.catalogue.specs.Releases.{ContentData, ReleaseData, names_of}
use Rattle.catalogue.specs.declared.limits.TheConstants.{MOST_NAMES, MOST_ZONES}
use Rattle.catalogue.proofs.lemmas.LastRelease.{last_of}
use Rattle.catalogue.proofs.lemmas.DigitTexts.{token_is}
use Rattle.catalogue.proofs.lemmas.PlainEntries.{entries_plain}
use Rattle.json_forms.specs.ListDocument.{list_document}
use Rattle.json_forms.specs.ListReading.{list_read}
use Rattle.json_forms.specs.SoundLists.{IsSoundList, IsSoundZone, names_listed}
use Rattle.json_forms.specs.declared.zone_list.ListDoc.{ListDoc}
use Rattle.json_forms.proofs.lemmas.ListFound.{list_back}
use Rattle.json_forms.proofs.lemmas.PlainUtf8.{utf8_plain}
use Rattle.zone_meaning.specs.Lengths.{sound_labels, sound_lengths}
use Rattle.zone_meaning.specs.Sound.{IsSound}
use Rattle.actions.specs.Listing.{list_zone}
use Rattle.sync_world.proofs.Tokens.{few_places}

meant_has_text : (m : ℤ) → HasMeaning m → HasText m
meant_has_text m h = let low : LO ≤ℤ m = h.0 in let high : m <ℤ HI = h.1 in (omega (arith, ints), omega (arith, ints))

-- ---- the zones of a history

each_sound : (before rest : List ReleaseData) → IsHistory IsSound (before ++ rest) → AllByRecursion IsSound rest
each_sound before [] is = tt
each_sound before (r ∷ rest) is =
    let one : IsRelease IsSound before r = is before r rest refl in
    (one.is_sound, each_sound (before ++ r ∷ []) rest (subst (IsHistory IsSound) (sym (append_assoc before (r ∷ []) rest)) is))

release_at : (H : List ReleaseData) (i : ℕ) (r : ReleaseData) → AllByRecursion IsSound H → IsSound r → IsSound (slice_index_or H i r)
release_at [] i r all one = one
release_at (x ∷ xs) zero r all one = all.0
release_at (x ∷ xs) (suc i) r all one = release_at xs i r all.1 one

zones_sound : (H : List ReleaseData) (last : ReleaseData) (cs : List ContentData) → AllByRecursion IsSound H → IsSound last
    → IsTrue (list_all is_identifier (names_of cs)) → AllByRecursion IsPlainEntry (map (entry_of H last) cs)
    → AllByRecursion (λ e. IsSoundZone (list_zone e)) (map (entry_of H last) cs)
zones_sound H last [] all one names plain = tt
zones_sound H last (c ∷ cs) all one names plain =
    let both = and_parts (is_identifier c.tzid) (list_all is_identifier (c.aliases ++ names_of cs)) names in
    let parts =
    and_parts (list_all is_identifier c.aliases) (list_all is_identifier (names_of cs))
    (sym (list_all-append is_identifier c.aliases (names_of cs)) ∙ both.1)
    in
    let changed = release_at H (last_change H c - 1) last all one in (
      record {
        tzid = both.0;
        etag = utf8_plain (entry_of H last c).tag (plain.0).tag;
        stamp = meant_has_text _ changed.stamp;
        publisher = changed.publisher;
        version = changed.version;
        aliases = parts.0;
      },
      zones_sound H last cs all one parts.1 plain.1,
    )

abbrev names_in : List EntryData → ℕ
names_in es = names_listed (map list_zone es)

zone_names : (H : List ReleaseData) (last : ReleaseData) (cs : List ContentData) → names_in (map (entry_of H last) cs) ≡ length (names_of cs)
zone_names H last [] = refl
zone_names H last (c ∷ cs) = let rest = zone_names H last cs in omega (arith, rest, length-append c.aliases (names_of cs))

zone_count : (H : List ReleaseData) (last : ReleaseData) (cs : List ContentData) → length (map (entry_of H last) cs) ≡ length cs
zone_count H last [] = refl
zone_count H last (c ∷ cs) = let rest = zone_count H last cs in omega (arith, rest)

-- what is listed is sound and keeps the limits
record AreSound (es : List EntryData) : Type 0 where
  zones : AllByRecursion (λ e. IsSoundZone (list_zone e)) es
  few_zones : length es ≤ MOST_ZONES
  few_names : names_in es ≤ MOST_NAMES

entries_sound : (H : List ReleaseData) (o : Option ReleaseData) → IsHistory IsSound H → last_release H ≡ o → AllByRecursion IsPlainEntry (entries_of H o)
    → AreSound (entries_of H o)
entries_sound H None history is plain = record { zones = tt; few_zones = omega arith; few_names = omega arith }
entries_sound H (Some last) history is plain =
    let one = last_of IsSound H last history is in
    let fits = one.release.fits in
    let zones : length last.contents ≤ MOST_ZONES = fits.zones in
    let names : length (names_of last.contents) ≤ MOST_NAMES = fits.names in
    record {
      zones = zones_sound H last last.contents (each_sound [] H history) one.release.is_sound fits.identifiers plain;
      few_zones = omega (arith, zone_count H last last.contents, zones);
      few_names = omega (arith, zone_names H last last.contents, names);
    }

meta_sound : (H : List ReleaseData) → IsHistory IsSound H → AreSound (meta H)
unfolding meta
meta_sound H history = entries_sound H (last_release H) history refl (entries_plain IsSound sound_lengths sound_labels H history)

-- ---- a part of them

record IsPart (xs es : List EntryData) : Type 0 where
  zones : AllByRecursion (λ e. IsSoundZone (list_zone e)) xs
  fewer : length xs ≤ length es
  fewer_names : names_in xs ≤ names_in es

part : (p : EntryData → Bool) (es : List EntryData) → AllByRecursion (λ e. IsSoundZone (list_zone e)) es → IsPart (filter p es) es
part p [] all = record { zones = tt; fewer = omega arith; fewer_names = omega arith }
part p (e ∷ es) all = by (p e) (part p es all.1)
  where
    by : (b : Bool) → IsPart (filter p es) es → IsPart (cond b (e ∷ filter p es) (filter p es)) (e ∷ es)
    by true k =
        let zones : length (filter p es) ≤ length es = k.fewer in
        let names : names_in (filter p es) ≤ names_in es = k.fewer_names in
        record { zones = (all.0, k.zones); fewer = omega arith; fewer_names = omega arith }
    by false k =
        let zones : length (filter p es) ≤ length es = k.fewer in
        let names : names_in (filter p es) ≤ names_in es = k.fewer_names in
        record { zones = k.zones; fewer = omega arith; fewer_names = omega arith }

each_listed : (es : List EntryData) → AllByRecursion (λ e. IsSoundZone (list_zone e)) es → AllByRecursion IsSoundZone (map list_zone es)
each_listed [] all = tt
each_listed (e ∷ es) all = (all.0, each_listed es all.1)

counted : (es : List EntryData) → length (map list_zone es) ≡ length es
counted [] = refl
counted (e ∷ es) = let rest = counted es in omega (arith, rest)

-- the list of the entries of the last release that pass a test, with the token of the last place
abbrev pub part_told : List ReleaseData → (EntryData → Bool) → ListDoc
part_told H p = record { token = token_of H (length H); zones = map list_zone (filter p (meta H)) }

part_is_sound : (H : List ReleaseData) (p : EntryData → Bool) → IsHistory IsSound H → 1 ≤ length H → IsSoundList (part_told H p)
part_is_sound H p history some =
    let es = filter p (meta H) in
    let all = meta_sound H history in
    let fewer = part p (meta H) all.zones in
    let few = few_places IsSound H history some in
    let zones : length es ≤ length (meta H) = fewer.fewer in
    let names : names_in es ≤ names_in (meta H) = fewer.fewer_names in
    let most : length (meta H) ≤ MOST_ZONES = all.few_zones in
    let most_names : names_in (meta H) ≤ MOST_NAMES = all.few_names in
    record {
      token = token_is H (length H) (omega (arith, few));
      zones = each_listed es fewer.zones;
      few_zones = omega (arith, counted es);
      few_names = omega arith;
    }

pub part_is_read : (H : List ReleaseData) (p : EntryData → Bool) → IsHistory IsSound H → 1 ≤ length H
    → list_read (list_document (token_of H (length H)) (map list_zone (filter p (meta H)))) ≡ Ok (part_told H p)
part_is_read H p history some = list_back (part_told H p) (part_is_sound H p history some)
