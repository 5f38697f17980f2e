-- The text of a sound list is UTF-8.
use Rattle.std.proofs.Common.{◌≡◌, ℕ, Bool, true, false, ◌&&◌, List, [], ◌∷◌, length, nat_le, IsUtf8, refl, map, codes, arith}
use Rattle.std.proofs.lemmas.Str.{IsUtf8-append, IsUtf8-nil}
use Rattle.std.specs.List.{AllByRecursion}
use Rattle.json.specs.Print.{quoted}
use Rattle.json.proofs.Printed.Utf8.{IsUtf8-are_ascii, IsUtf8-quoted}
use Rattle.serde_json.specs.Data.{Data, Members, no_members, member, object, array, string}
use Rattle.serde_json.specs.View.{items_of}
use Rattle.serde_json.specs.Written.{comma_if, compact_text, items_text, members_text}
use Rattle.std.specs.List.{list_all}
use Rattle.std.specs.Prelude.{IsTrue}
use Rattle.std.proofs.lemmas.Bool.{and_parts}
use Rattle.std.proofs.lemmas.Bool.Decides.{nat_tests}
use Rattle.td_base.specs.Names.{IsPlain, is_identifier, is_label, is_printable}
use Rattle.td_base.proofs.lemmas.PlainLemmas.{identifier_is_plain, label_is_plain}
use Rattle.catalogue.specs.Plain.{is_token, is_token_byte}
use Rattle.td_civil.specs.Calendar.{text_of}
use Rattle.json_forms.specs.ListDocument.{strings, with_aliases, zone_members, zone_data, list_data}
use Rattle.json_forms.specs.ListDocument.{list_document}
use Rattle.json_forms.specs.SoundLists.{IsSoundZone, IsSoundList}
use Rattle.json_forms.specs.declared.zone_list.ListDoc.{ListDoc}
use Rattle.json_forms.specs.declared.zone_list.ListZone.{ListZone}
use Rattle.json_forms.proofs.lemmas.PlainStamps.{stamp_is_plain}
use Rattle.json_forms.proofs.lemmas.PlainUtf8.{utf8_plain}

comma_utf8 : (later : Bool) → IsUtf8 (comma_if later)
comma_utf8 true = IsUtf8-are_ascii (44 ∷ []) refl
comma_utf8 false = IsUtf8-nil

member_utf8 : (later : Bool) (k : List ℕ) (d : Data) (ms : Members) → IsUtf8 k → IsUtf8 (compact_text d) → IsUtf8 (members_text true ms)
    → IsUtf8 (members_text later (member k d ms))
member_utf8 later k d ms key value rest =
    IsUtf8-append (comma_if later) _ (comma_utf8 later)
    (IsUtf8-append (quoted k) _ (IsUtf8-quoted k key)
    (IsUtf8-append (58 ∷ []) _ (IsUtf8-are_ascii (58 ∷ []) refl) (IsUtf8-append (compact_text d) (members_text true ms) value rest)))

end_utf8 : IsUtf8 (members_text true no_members)
end_utf8 = IsUtf8-are_ascii (125 ∷ []) refl

object_utf8 : (ms : Members) → IsUtf8 (members_text false ms) → IsUtf8 (compact_text (object ms))
object_utf8 ms u = IsUtf8-append (123 ∷ []) (members_text false ms) (IsUtf8-are_ascii (123 ∷ []) refl) u

items_utf8 : {X : Type 0} (f : X → Data) (later : Bool) (xs : List X) → AllByRecursion (λ x. IsUtf8 (compact_text (f x))) xs
    → IsUtf8 (items_text later (items_of (map f xs)))
items_utf8 f later [] all = IsUtf8-are_ascii (93 ∷ []) refl
items_utf8 f later (x ∷ xs) all =
    IsUtf8-append (comma_if later) _ (comma_utf8 later)
    (IsUtf8-append (compact_text (f x)) (items_text true (items_of (map f xs))) all.0 (items_utf8 f true xs all.1))

array_utf8 : {X : Type 0} (f : X → Data) (xs : List X) → AllByRecursion (λ x. IsUtf8 (compact_text (f x))) xs
    → IsUtf8 (compact_text (array (items_of (map f xs))))
array_utf8 f xs all = IsUtf8-append (91 ∷ []) _ (IsUtf8-are_ascii (91 ∷ []) refl) (items_utf8 f false xs all)

identifier_utf8 : (text : List ℕ) → IsTrue (is_identifier text) → IsUtf8 text
identifier_utf8 text h = utf8_plain text (identifier_is_plain text h)

label_utf8 : (text : List ℕ) → IsTrue (is_label text) → IsUtf8 text
label_utf8 text h = utf8_plain text (label_is_plain text h)

stamp_utf8 : (z : ListZone) → IsUtf8 (text_of z.stamp.seconds)
stamp_utf8 z = utf8_plain (text_of z.stamp.seconds) (stamp_is_plain (text_of z.stamp.seconds) z.stamp.seconds refl)

each_string : (texts : List (List ℕ)) → IsTrue (list_all is_identifier texts) → AllByRecursion (λ x. IsUtf8 (compact_text (string x))) texts
each_string [] all = tt
each_string (t ∷ ts) all =
    let parts = and_parts (is_identifier t) (list_all is_identifier ts) all in
    (IsUtf8-quoted t (identifier_utf8 t parts.0), each_string ts parts.1)

members_utf8 : (later : Bool) (z : ListZone) → IsSoundZone z → IsUtf8 (members_text later (zone_members z))
members_utf8 later z sound =
    let version : Members = member (codes "version") (string z.version) no_members in
    let tzid : Members = member (codes "tzid") (string z.tzid) version in
    let publisher : Members = member (codes "publisher") (string z.publisher) tzid in
    let modified : Members = member (codes "last-modified") (string (text_of z.stamp.seconds)) publisher in
    member_utf8 later (codes "etag") (string z.etag) modified (IsUtf8-are_ascii (codes "etag") refl) (IsUtf8-quoted z.etag sound.etag)
    (member_utf8 true (codes "last-modified") (string (text_of z.stamp.seconds)) publisher (IsUtf8-are_ascii (codes "last-modified") refl)
    (IsUtf8-quoted (text_of z.stamp.seconds) (stamp_utf8 z))
    (member_utf8 true (codes "publisher") (string z.publisher) tzid (IsUtf8-are_ascii (codes "publisher") refl)
    (IsUtf8-quoted z.publisher (label_utf8 z.publisher sound.publisher))
    (member_utf8 true (codes "tzid") (string z.tzid) version (IsUtf8-are_ascii (codes "tzid") refl) (IsUtf8-quoted z.tzid (identifier_utf8 z.tzid sound.tzid))
    (member_utf8 true (codes "version") (string z.version) no_members (IsUtf8-are_ascii (codes "version") refl)
    (IsUtf8-quoted z.version (label_utf8 z.version sound.version)) end_utf8))))

with_utf8 : (aliases : List (List ℕ)) (z : ListZone) → IsTrue (list_all is_identifier aliases) → IsSoundZone z
    → IsUtf8 (compact_text (object (with_aliases aliases (zone_members z))))
unfolding strings
with_utf8 [] z all sound = object_utf8 (zone_members z) (members_utf8 false z sound)
with_utf8 (a ∷ more) z all sound =
    object_utf8 (member (codes "aliases") (array (items_of (map string (a ∷ more)))) (zone_members z))
    (member_utf8 false (codes "aliases") (array (items_of (map string (a ∷ more)))) (zone_members z) (IsUtf8-are_ascii (codes "aliases") refl)
    (array_utf8 string (a ∷ more) (each_string (a ∷ more) all)) (members_utf8 true z sound))

each_zone : (zones : List ListZone) → AllByRecursion IsSoundZone zones → AllByRecursion (λ z. IsUtf8 (compact_text (zone_data z))) zones
unfolding zone_data
each_zone [] all = tt
each_zone (z ∷ zs) all = (with_utf8 z.aliases z (all.0).aliases all.0, each_zone zs all.1)

printable_byte : (b : ℕ) → is_token_byte b ≡ true → is_printable b ≡ true
printable_byte b visible = grind (arith, nat_tests)

visible_is_plain : (text : List ℕ) → IsTrue (list_all is_token_byte text) → IsPlain text
visible_is_plain [] visible = refl
visible_is_plain (b ∷ bs) visible =
    let parts = and_parts (is_token_byte b) (list_all is_token_byte bs) visible in
    rw (printable_byte b parts.0, visible_is_plain bs parts.1)

token_utf8 : (text : List ℕ) → IsTrue (is_token text) → IsUtf8 text
token_utf8 text h =
    let bytes = and_parts (nat_le 1 (length text) && nat_le (length text) 64) (list_all is_token_byte text) h in
    utf8_plain text (visible_is_plain text bytes.1)

pub list_utf8 : (list : ListDoc) → IsSoundList list → IsUtf8 (list_document list.token list.zones)
unfolding list_document list_data
list_utf8 list sound =
    let zones = array (items_of (map zone_data list.zones)) in
    let listed : Members = member (codes "timezones") zones no_members in
    object_utf8 (member (codes "synctoken") (string list.token) listed)
    (member_utf8 false (codes "synctoken") (string list.token) listed (IsUtf8-are_ascii (codes "synctoken") refl)
    (IsUtf8-quoted list.token (token_utf8 list.token sound.token))
    (member_utf8 true (codes "timezones") zones no_members (IsUtf8-are_ascii (codes "timezones") refl)
    (array_utf8 zone_data list.zones (each_zone list.zones sound.zones)) end_utf8))
