-- How long the text of a list is: a byte of a plain text takes two bytes at the most.
use Rattle.std.proofs.Common.{◌≡◌, ℕ, suc, ◌+◌, ◌-◌, ◌*◌, ◌≤◌, Bool, true, false, cond, Option, None, Some, List, [], ◌∷◌, ◌++◌, length, map, filter, codes}
use Rattle.std.proofs.Common.{◌&&◌, ℤ, refl, sym, ap, ◌∙◌, subst, arith, append_assoc, length-append, length-take, zero, decimal, nat_le, nat_lt}
use Rattle.std.proofs.lemmas.Bool.{and_parts, leb-true}
use Rattle.std.proofs.lemmas.Bool.Decides.{nat_tests}
use Rattle.std.proofs.lemmas.List.Concat.{flat_map-cons}
use Rattle.std.proofs.lemmas.List.Folds.{list_all-append}
use Rattle.std.specs.List.{AllByRecursion, list_all, slice_index_or}
use Rattle.json.specs.Print.{escape, escape_byte, escape_letter, quoted}
use Rattle.serde_json.specs.Data.{Data, Members, array, member, no_members, string}
use Rattle.serde_json.specs.View.{items_of}
use Rattle.serde_json.specs.Written.{comma_if, compact_text, items_text, members_text}
use Rattle.td_base.specs.Names.{IsPlain, is_identifier, is_label, is_path, is_printable, is_segment, segments}
use Rattle.td_base.proofs.lemmas.PlainLemmas.{identifier_is_plain, label_is_plain}
use Rattle.td_civil.specs.Calendar.{text_of}
use Rattle.hex.specs.Hex.{encode_lower}
use Rattle.catalogue.specs.Digests.{content_digest, tag_of}
use Rattle.catalogue.specs.Histories.{EntryData, IsHistory, IsRelease, entries_of, entry_of, last_change, last_release, meta, token_of}
use Rattle.catalogue.specs.Releases.{ContentData, ReleaseData, names_of}
use Rattle.catalogue.specs.declared.limits.TheConstants.{MOST_NAMES, MOST_RELEASES, MOST_ZONES}
use Rattle.catalogue.proofs.lemmas.DigitTexts.{tag_plain, token_form, token_plain}
use Rattle.catalogue.proofs.lemmas.LastRelease.{last_of}
use Rattle.json_forms.proofs.lemmas.PlainStamps.{stamp_is_plain}
use Rattle.json_forms.specs.ListDocument.{list_data, list_document, strings, with_aliases, zone_data, zone_members}
use Rattle.json_forms.specs.declared.zone_list.ListZone.{ListZone}
use Rattle.zone_meaning.specs.Sound.{IsSound}
use Rattle.actions.specs.Listing.{list_zone}
use Rattle.sync_world.proofs.Tokens.{few_places}

-- ---- texts

-- a plain text of so many bytes at the most
pub record IsShort (most : ℕ) (text : List ℕ) : Type 0 where
  pub plain : IsPlain text
  pub few : length text ≤ most

escaped_byte : (b : ℕ) → is_printable b ≡ true → length (escape_byte b) ≤ 2
unfolding escape_byte
escaped_byte b plain =
    let low : nat_le 32 b ≡ true = (and_parts (nat_le 32 b) (nat_le b 126) plain).0 in
    let test : nat_lt b 32 ≡ false = grind (arith, nat_tests) in
    rw test (by (nat_lt 0 (escape_letter b)))
  where
    by : (t : Bool) → length (cond t (92 ∷ escape_letter b ∷ []) (b ∷ [])) ≤ 2
    by true = omega arith
    by false = omega arith

escaped_size : (text : List ℕ) → IsPlain text → length (escape text) ≤ 2 * length text
escaped_size [] plain = omega arith
escaped_size (b ∷ bs) plain =
    let parts = and_parts (is_printable b) (list_all is_printable bs) plain in
    let one = escaped_byte b parts.0 in
    let rest = escaped_size bs parts.1 in
    let is : length (escape (b ∷ bs)) ≡ length (escape_byte b) + length (escape bs) =
    ap length (flat_map-cons escape_byte b bs) ∙ length-append (escape_byte b) (escape bs)
    in
    omega (arith, one, rest, is)

pub text_size : (most : ℕ) (text : List ℕ) → IsShort most text → length (quoted text) ≤ 2 * most + 2
text_size most text short =
    let size = escaped_size text short.plain in
    let few = short.few in
    omega (arith, size, few, length-append (escape text) (34 ∷ []))

date_length : (m : ℤ) → length (text_of m) ≡ 20
unfolding text_of
date_length m = refl

stamp_short : (m : ℤ) → IsShort 20 (text_of m)
stamp_short m = let is = date_length m in record { plain = stamp_is_plain (text_of m) m refl; few = omega (arith, is) }

short_identifier : (text : List ℕ) → is_identifier text ≡ true → IsShort 64 text
unfolding is_path
short_identifier text h = record {
  plain = identifier_is_plain text h;
  few = leb-true (length text) 64 (and_parts (nat_le (length text) 64) (list_all is_segment (segments text)) h).0;
}

short_label : (text : List ℕ) → is_label text ≡ true → IsShort 64 text
unfolding is_label
short_label text h =
    let sized = (and_parts (nat_le 1 (length text) && nat_le (length text) 64) (list_all is_printable text) h).0 in
    record { plain = label_is_plain text h; few = leb-true (length text) 64 (and_parts (nat_le 1 (length text)) (nat_le (length text) 64) sized).1 }

-- ---- zones

pub record IsShortZone (z : ListZone) : Type 0 where
  pub tzid : IsShort 64 z.tzid
  pub etag : IsShort 32 z.etag
  pub publisher : IsShort 64 z.publisher
  pub version : IsShort 64 z.version
  pub aliases : AllByRecursion (IsShort 64) z.aliases

comma_size : (later : Bool) → length (comma_if later) ≤ 1
comma_size true = omega arith
comma_size false = omega arith

pub member_size : (later : Bool) (k : List ℕ) (d : Data) (ms : Members)
    → length (members_text later (member k d ms)) ≤ length (quoted k) + length (compact_text d) + length (members_text true ms) + 2
member_size later k d ms =
    omega (
      arith,
      comma_size later,
      length-append (comma_if later) (quoted k ++ 58 ∷ (compact_text d ++ members_text true ms)),
      length-append (quoted k) (58 ∷ (compact_text d ++ members_text true ms)),
      length-append (compact_text d) (members_text true ms),
    )

texts_size : (later : Bool) (texts : List (List ℕ)) → AllByRecursion (IsShort 64) texts
    → length (items_text later (items_of (map string texts))) ≤ 131 * length texts + 1
texts_size later [] all = omega arith
texts_size later (text ∷ texts) all =
    let one = text_size 64 text all.0 in
    let rest = texts_size true texts all.1 in
    omega (
      arith,
      one,
      rest,
      comma_size later,
      length-append (comma_if later) (quoted text ++ items_text true (items_of (map string texts))),
      length-append (quoted text) (items_text true (items_of (map string texts))),
    )

strings_size : (texts : List (List ℕ)) → AllByRecursion (IsShort 64) texts → length (compact_text (strings texts)) ≤ 131 * length texts + 2
unfolding strings
strings_size texts all = let size = texts_size false texts all in omega (arith, size)

-- the length of a key in quotes
key_aliases : length (quoted (codes "aliases")) ≡ 9
unfolding escape_byte
key_aliases = refl

key_etag : length (quoted (codes "etag")) ≡ 6
unfolding escape_byte
key_etag = refl

key_modified : length (quoted (codes "last-modified")) ≡ 15
unfolding escape_byte
key_modified = refl

key_publisher : length (quoted (codes "publisher")) ≡ 11
unfolding escape_byte
key_publisher = refl

key_tzid : length (quoted (codes "tzid")) ≡ 6
unfolding escape_byte
key_tzid = refl

key_version : length (quoted (codes "version")) ≡ 9
unfolding escape_byte
key_version = refl

key_token : length (quoted (codes "synctoken")) ≡ 11
unfolding escape_byte
key_token = refl

key_zones : length (quoted (codes "timezones")) ≡ 11
unfolding escape_byte
key_zones = refl

aliases_size : (aliases : List (List ℕ)) (ms : Members) (most : ℕ) → AllByRecursion (IsShort 64) aliases
    → ((later : Bool) → length (members_text later ms) ≤ most) → length (members_text false (with_aliases aliases ms)) ≤ 131 * length aliases + most + 13
aliases_size [] ms most all rest = let few = rest false in omega (arith, few)
aliases_size (a ∷ more) ms most all rest =
    let few = rest true in
    let size = strings_size (a ∷ more) all in
    omega (arith, few, size, key_aliases, member_size false (codes "aliases") (strings (a ∷ more)) ms)

fields_size : (z : ListZone) → IsShortZone z → (later : Bool) → length (members_text later (zone_members z)) ≤ 600
fields_size z short later =
    let version = member (codes "version") (string z.version) no_members in
    let tzid = member (codes "tzid") (string z.tzid) version in
    let publisher = member (codes "publisher") (string z.publisher) tzid in
    let modified = member (codes "last-modified") (string (text_of z.stamp.seconds)) publisher in
    omega (
      arith,
      key_etag,
      key_modified,
      key_publisher,
      key_tzid,
      key_version,
      text_size 32 z.etag short.etag,
      text_size 20 (text_of z.stamp.seconds) (stamp_short z.stamp.seconds),
      text_size 64 z.publisher short.publisher,
      text_size 64 z.tzid short.tzid,
      text_size 64 z.version short.version,
      member_size later (codes "etag") (string z.etag) modified,
      member_size true (codes "last-modified") (string (text_of z.stamp.seconds)) publisher,
      member_size true (codes "publisher") (string z.publisher) tzid,
      member_size true (codes "tzid") (string z.tzid) version,
      member_size true (codes "version") (string z.version) no_members,
    )

zone_size : (z : ListZone) → IsShortZone z → length (compact_text (zone_data z)) ≤ 131 * length z.aliases + 614
unfolding zone_data
zone_size z short =
    let size = aliases_size z.aliases (zone_members z) 600 short.aliases (fields_size z short) in
    omega (arith, size)

-- ---- the zones of a list

-- what an entry takes at the most
abbrev pub cost : List EntryData → ℕ
cost [] = 0
cost (e ∷ es) = 131 * length e.content.aliases + 615 + cost es

abbrev pub AreShort : List EntryData → Type 0
AreShort es = AllByRecursion (λ e. IsShortZone (list_zone e)) es

-- the zones that pass a test
abbrev zones_text : Bool → (EntryData → Bool) → List EntryData → List ℕ
zones_text later p es = items_text later (items_of (map zone_data (map list_zone (filter p es))))

zones_size : (later : Bool) (p : EntryData → Bool) (es : List EntryData) → AreShort es → length (zones_text later p es) ≤ cost es + 1
zones_size later p [] all = omega arith
zones_size later p (e ∷ es) all = by (p e) (λ also. zones_size also p es all.1)
  where
    by : (b : Bool) → ((also : Bool) → length (zones_text also p es) ≤ cost es + 1)
        → length (items_text later (items_of (map zone_data (map list_zone (cond b (e ∷ filter p es) (filter p es)))))) ≤ cost (e ∷ es) + 1
    by true others =
        let one = zone_size (list_zone e) all.0 in
        let rest = others true in
        omega (
          arith,
          one,
          rest,
          comma_size later,
          length-append (comma_if later) (compact_text (zone_data (list_zone e)) ++ zones_text true p es),
          length-append (compact_text (zone_data (list_zone e))) (zones_text true p es),
        )
    by false others = let rest = others later in omega (arith, rest)

-- ---- the entries of a history

names_short : (names : List (List ℕ)) → list_all is_identifier names ≡ true → AllByRecursion (IsShort 64) names
names_short [] all = tt
names_short (name ∷ names) all =
    let both = and_parts (is_identifier name) (list_all is_identifier names) all in
    (short_identifier name both.0, names_short names both.1)

each_sound : (before rest : List ReleaseData) → IsHistory IsSound (before ++ rest) → AllByRecursion IsSound rest
each_sound before [] is = tt
each_sound before (r ∷ rest) is =
    let one : IsRelease IsSound before r = is before r rest refl in
    (one.is_sound, each_sound (before ++ r ∷ []) rest (subst (IsHistory IsSound) (sym (append_assoc before (r ∷ []) rest)) is))

release_at : (H : List ReleaseData) (i : ℕ) (r : ReleaseData) → AllByRecursion IsSound H → IsSound r → IsSound (slice_index_or H i r)
release_at [] i r all one = one
release_at (x ∷ xs) zero r all one = all.0
release_at (x ∷ xs) (suc i) r all one = release_at xs i r all.1 one

tag_short : (c : ContentData) → IsShort 32 (tag_of c)
unfolding tag_of
tag_short c = let is = length-take 32 (encode_lower (content_digest c)) in record { plain = tag_plain c; few = omega (arith, is) }

entries_short : (H : List ReleaseData) (last : ReleaseData) (cs : List ContentData) → AllByRecursion IsSound H → IsSound last
    → list_all is_identifier (names_of cs) ≡ true → AreShort (map (entry_of H last) cs)
entries_short H last [] all one names = tt
entries_short H last (c ∷ cs) all one names =
    let both = and_parts (is_identifier c.tzid) (list_all is_identifier (c.aliases ++ names_of cs)) names in
    let parts =
    and_parts (list_all is_identifier c.aliases) (list_all is_identifier (names_of cs))
    (sym (list_all-append is_identifier c.aliases (names_of cs)) ∙ both.1)
    in
    let changed = release_at H (last_change H c - 1) last all one in (
      record {
        tzid = short_identifier c.tzid both.0;
        etag = tag_short c;
        publisher = short_label _ changed.publisher;
        version = short_label _ changed.version;
        aliases = names_short c.aliases parts.0;
      },
      entries_short H last cs all one parts.1,
    )

entries_cost : (H : List ReleaseData) (last : ReleaseData) (cs : List ContentData)
    → cost (map (entry_of H last) cs) ≤ 131 * length (names_of cs) + 484 * length cs
entries_cost H last [] = omega arith
entries_cost H last (c ∷ cs) =
    let rest = entries_cost H last cs in
    omega (arith, rest, length-append c.aliases (names_of cs))

-- what all entries of the last release take together
pub record AreFew (es : List EntryData) : Type 0 where
  pub short : AreShort es
  pub few : cost es ≤ 4_500_000

few_entries : (H : List ReleaseData) (o : Option ReleaseData) → IsHistory IsSound H → last_release H ≡ o → AreFew (entries_of H o)
few_entries H None history is = record { short = tt; few = omega arith }
few_entries H (Some last) history is =
    let release = (last_of IsSound H last history is).release in
    let zones : length last.contents ≤ MOST_ZONES = release.fits.zones in
    let names : length (names_of last.contents) ≤ MOST_NAMES = release.fits.names in
    let size = entries_cost H last last.contents in
    record {
      short = entries_short H last last.contents (each_sound [] H history) release.is_sound release.fits.identifiers;
      few = omega (arith, zones, names, size);
    }

pub few_in_history : (H : List ReleaseData) → IsHistory IsSound H → AreFew (meta H)
unfolding meta
few_in_history H history = few_entries H (last_release H) history refl

-- ---- the list

short_token : (H : List ReleaseData) → IsHistory IsSound H → 1 ≤ length H → IsShort 64 (token_of H (length H))
short_token H history some =
    let places : length H ≤ MOST_RELEASES = few_places IsSound H history some in
    let form = token_form H (length H) (omega (arith, places)) in
    let sixteen = form.sixteen in
    let ten = form.ten in
    let is : length (token_of H (length H)) ≡ length (decimal (length H)) + suc (length form.digits) =
    ap length form.is ∙ length-append (decimal (length H)) (45 ∷ form.digits)
    in
    record { plain = token_plain H (length H) (omega (arith, places)); few = omega (arith, is, sixteen, ten) }

document_size : (token : List ℕ) (zones : List ListZone) (most : ℕ) → IsShort 64 token
    → length (items_text false (items_of (map zone_data zones))) ≤ most → length (list_document token zones) ≤ most + 200
unfolding list_document list_data
document_size token zones most short few =
    let listed = array (items_of (map zone_data zones)) in
    let last = member (codes "timezones") listed no_members in
    omega (
      arith,
      few,
      key_token,
      key_zones,
      text_size 64 token short,
      member_size false (codes "synctoken") (string token) last,
      member_size true (codes "timezones") listed no_members,
    )

-- the list of the zones of the last release that pass a test
pub list_size : (H : List ReleaseData) (p : EntryData → Bool) → IsHistory IsSound H → 1 ≤ length H
    → length (list_document (token_of H (length H)) (map list_zone (filter p (meta H)))) ≤ 5_000_000
list_size H p history some =
    let few = few_in_history H history in
    let size = zones_size false p (meta H) few.short in
    let most = few.few in
    let document = document_size (token_of H (length H)) (map list_zone (filter p (meta H))) 4_600_000 (short_token H history some) (omega (arith, size, most)) in
    omega (arith, document)
