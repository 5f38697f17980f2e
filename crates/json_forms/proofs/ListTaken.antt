-- A sound list is taken back from the tree that it is written as, where no fault is found.
use Rattle.std.proofs.Common.{◌≡◌, ℕ, ◌+◌, ℤ, true, ◌&&◌, Option, None, List, [], ◌∷◌, length, refl, ap, ◌∙◌, map, pos, arith, nat_le, IsTrue}
use Rattle.std.proofs.lemmas.Bool.{le-leb}
use Rattle.std.specs.List.{AllByRecursion, list_all}
use Rattle.std.specs.Option.{unwrap_or}
use Rattle.serde_json.specs.Data.{Data, string, object}
use Rattle.serde_json.specs.Events.{items_len}
use Rattle.serde_json.specs.View.{items_of}
use Rattle.td_base.specs.Names.{is_identifier}
use Rattle.td_civil.specs.Reading.{moment_in}
use Rattle.td_civil.specs.Calendar.{text_of}
use Rattle.td_civil.proofs.lemmas.Shown.{reads_back_lem}
use Rattle.catalogue.specs.declared.limits.TheConstants.{MOST_NAMES, MOST_ZONES}
use Rattle.json_forms.specs.ListDocument.{strings, with_aliases, zone_members, zone_data, list_data}
use Rattle.json_forms.specs.ListReading as reading
use Rattle.json_forms.specs.ListReading.{alias_count, are_identifiers, entry_fault, has_text, is_entry, is_list, list_fault, name_count, text_in, zone_in}
use Rattle.json_forms.specs.SoundLists.{IsSoundZone, IsSoundList, names_listed}
use Rattle.json_forms.specs.declared.zone_list.ListDoc.{ListDoc}
use Rattle.json_forms.specs.declared.zone_list.ListZone.{ListZone}

-- ---- what is taken

texts_back : (texts : List (List ℕ)) → reading.texts_of (items_of (map string texts)) ≡ texts
texts_back [] = refl
texts_back (t ∷ ts) = ap (λ xs. t ∷ xs) (texts_back ts)

abbrev zone : ListZone → ℤ → List (List ℕ) → ListZone
zone z stamp aliases =
    record { tzid = z.tzid; etag = z.etag; stamp = record { seconds = stamp }; publisher = z.publisher; version = z.version; aliases = aliases }

members_back : (aliases : List (List ℕ)) (z : ListZone)
    → zone_in (object (with_aliases aliases (zone_members z))) ≡ zone z (unwrap_or (moment_in (text_of z.stamp.seconds)) (pos 0)) aliases
unfolding zone_in text_in strings
members_back [] z = refl
members_back (a ∷ more) z = ap (λ (ts : List (List ℕ)). zone z (unwrap_or (moment_in (text_of z.stamp.seconds)) (pos 0)) (a ∷ ts)) (texts_back more)

zone_back : (z : ListZone) → IsSoundZone z → zone_in (zone_data z) ≡ z
unfolding zone_data
zone_back z sound =
    members_back z.aliases z
    ∙ ap (λ (o : Option ℤ). zone z (unwrap_or o (pos 0)) z.aliases) (reads_back_lem z.stamp.seconds sound.stamp)

zones_back : (zones : List ListZone) → AllByRecursion IsSoundZone zones → reading.zones_read (items_of (map zone_data zones)) ≡ zones
zones_back [] all = refl
zones_back (z ∷ zs) all =
    ap (λ (y : ListZone). y ∷ reading.zones_read (items_of (map zone_data zs))) (zone_back z all.0) ∙ ap (λ (ys : List ListZone). z ∷ ys) (zones_back zs all.1)

abbrev list_with : List ℕ → List ListZone → ListDoc
list_with token zones = record { token = token; zones = zones }

pub list_taken : (list : ListDoc) → IsSoundList list → reading.list_of (list_data list.token list.zones) ≡ list
unfolding reading.list_of list_data text_in
list_taken list sound = ap (list_with list.token) (zones_back list.zones sound.zones)

-- ---- that no entry is a fault

names_are : (texts : List (List ℕ)) → are_identifiers (items_of (map string texts)) ≡ list_all is_identifier texts
names_are [] = refl
names_are (t ∷ ts) = ap (λ b. is_identifier t && b) (names_are ts)

entry_with : (aliases : List (List ℕ)) (z : ListZone) → IsTrue (list_all is_identifier aliases) → IsSoundZone z
    → is_entry (object (with_aliases aliases (zone_members z))) ≡ true
unfolding is_entry has_text strings
entry_with [] z all k = rw (k.tzid, reads_back_lem z.stamp.seconds k.stamp, k.publisher, k.version) refl
entry_with (a ∷ more) z all k = rw (k.tzid, reads_back_lem z.stamp.seconds k.stamp, k.publisher, k.version) (names_are (a ∷ more) ∙ all)

entry_is : (z : ListZone) → IsSoundZone z → is_entry (zone_data z) ≡ true
unfolding zone_data
entry_is z sound = entry_with z.aliases z sound.aliases sound

no_entry_fault : (n : ℕ) (zones : List ListZone) → AllByRecursion IsSoundZone zones → entry_fault n (items_of (map zone_data zones)) ≡ None
no_entry_fault n [] all = refl
no_entry_fault n (z ∷ zs) all = rw (entry_is z all.0) (no_entry_fault (n + 1) zs all.1)

-- ---- how many zones and names there are

many : {X : Type 0} (f : X → Data) (xs : List X) → items_len (items_of (map f xs)) ≡ length xs
many f [] = refl
many f (x ∷ xs) = let rest = many f xs in omega (arith, rest)

aliases_with : (aliases : List (List ℕ)) (z : ListZone) → alias_count (object (with_aliases aliases (zone_members z))) ≡ length aliases
unfolding alias_count strings
aliases_with [] z = refl
aliases_with (a ∷ more) z = many string (a ∷ more)

aliases_are : (z : ListZone) → alias_count (zone_data z) ≡ length z.aliases
unfolding zone_data
aliases_are z = aliases_with z.aliases z

names_counted : (zones : List ListZone) → name_count (items_of (map zone_data zones)) ≡ names_listed zones
names_counted [] = refl
names_counted (z ∷ zs) = rw (aliases_are z, names_counted zs) refl

pub no_list_fault : (list : ListDoc) → IsSoundList list → list_fault (list_data list.token list.zones) ≡ None
unfolding list_fault is_list has_text list_data
no_list_fault list sound =
    let zone_test : nat_le (items_len (items_of (map zone_data list.zones))) MOST_ZONES ≡ true = rw (many zone_data list.zones) (le-leb _ _ sound.few_zones) in
    let name_test : nat_le (name_count (items_of (map zone_data list.zones))) MOST_NAMES ≡ true =
    rw (names_counted list.zones) (le-leb _ _ sound.few_names) in
    rw (sound.token, zone_test, name_test) (no_entry_fault 1 list.zones sound.zones)
