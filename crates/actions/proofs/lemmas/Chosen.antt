-- The zones that a list shows, entry after entry.
use Rattle.std.proofs.Common.{◌≡◌, ℕ, zero, suc, ◌+◌, List, [], ◌∷◌, ◌++◌, take, map, cond, Bool, true, false, Some, ap, sym, ◌∙◌, refl, add-one, arith}
use Rattle.std.specs.Prelude.{filter}
use Rattle.std.specs.List.{slice_get}
use Rattle.std.proofs.lemmas.Int.{ints}
use Rattle.std.specs.Prelude.{ℤ, ◌<ℤ◌}
use Rattle.td_civil.specs.Bounds.{HasMeaning, IsWithinBounds}
use Rattle.td_civil.specs.declared.moment_type.TheConstants.{HI}
use Rattle.catalogue.specs.Histories.{EntryData}
use Rattle.catalogue.specs.Plain.{IsPlainEntry}
use Rattle.json_forms.specs.PlainTexts.{IsPlainZone}
use Rattle.json_forms.specs.declared.zone_list.ListZone.{ListZone}
use Rattle.actions.specs.Listing.{list_zone, list_zone_if}

within_bounds : (m : ℤ) → HasMeaning m → IsWithinBounds m
within_bounds m h = let below : m <ℤ HI = h.1 in (h.0, omega (arith, ints))

-- the texts of an entry are those of its zone in a list
pub listed_is_plain : (e : EntryData) → IsPlainEntry e → IsPlainZone (list_zone e)
listed_is_plain e plain = record {
  tzid = plain.tzid;
  etag = plain.tag;
  stamp = within_bounds e.stamp plain.stamp;
  publisher = plain.publisher;
  version = plain.version;
  aliases = plain.aliases;
}

-- what one entry adds, where it is shown
pub one_shown : (shows : EntryData → Bool) (e : EntryData) (z : ListZone) → shows e ≡ true → z ≡ list_zone e → list_zone_if shows e ≡ z ∷ []
one_shown shows e z is same = rw (is, same) refl

-- the zones of the entries that are shown
abbrev pub shown_zones : (EntryData → Bool) → List EntryData → List ListZone
shown_zones shows es = map list_zone (filter shows es)

single : (b : Bool) (e : EntryData) → map list_zone (cond b (e ∷ []) []) ≡ cond b (list_zone e ∷ []) []
single true e = refl
single false e = refl

longer : (b : Bool) (e : EntryData) (a c : List EntryData) (more : List ListZone) → map list_zone a ≡ map list_zone c ++ more
    → map list_zone (cond b (e ∷ a) a) ≡ map list_zone (cond b (e ∷ c) c) ++ more
longer true e a c more h = ap (λ zs. list_zone e ∷ zs) h
longer false e a c more h = h

shown_more : (shows : EntryData → Bool) (es : List EntryData) (place : ℕ) (e : EntryData) → slice_get es place ≡ Some e
    → shown_zones shows (take (suc place) es) ≡ shown_zones shows (take place es) ++ list_zone_if shows e
shown_more shows [] place e at = absurd cc
shown_more shows (x ∷ es) zero e at =
    let same : x ≡ e = cc in
    single (shows x) x ∙ ap (list_zone_if shows) same
shown_more shows (x ∷ es) (suc place) e at =
    longer (shows x) x (filter shows (take (suc place) es)) (filter shows (take place es)) (list_zone_if shows e)
    (shown_more shows es place e at)

-- one more entry of a list
pub next_shown : (shows : EntryData → Bool) (es : List EntryData) (place : ℕ) (e : EntryData) → slice_get es place ≡ Some e
    → shown_zones shows (take place es) ++ list_zone_if shows e ≡ shown_zones shows (take (place + 1) es)
next_shown shows es place e at = rw (add-one place) (sym (shown_more shows es place e at))
