-- A name that finds a zone, and the identifier of the zone, are texts of calendars.
use Rattle.std.proofs.Common.{◌≡◌, ℕ, zero, suc, List, [], ◌∷◌, ◌++◌, map, true, Option, None, Some, refl, ap, sym, subst, ◌∙◌, ◌+◌, ◌⊎◌, inl, inr, arith}
use Rattle.std.proofs.lemmas.Bool.{and_parts}
use Rattle.std.proofs.lemmas.List.Folds.{list_all-append}
use Rattle.std.proofs.lemmas.Slice.Eq.{bytes_eq-Decides}
use Rattle.std.specs.List.{list_all, list_any, position_from, slice_get}
use Rattle.std.specs.Str.{bytes_eq}
use Rattle.td_base.specs.Names.{is_identifier}
use Rattle.catalogue.specs.Histories.{EntryData, IsHistory, entries_of, entry_of, last_release, meta}
use Rattle.catalogue.specs.Lookups.{is_name_of, place_named}
use Rattle.catalogue.specs.Releases.{ContentData, ReleaseData, names_of}
use Rattle.catalogue.proofs.lemmas.LastRelease.{last_of}
use Rattle.vtimezone.proofs.lemmas.Identifiers.{identifier_is_safe}
use Rattle.zone_meaning.specs.Sound.{IsSound}
use Rattle.actions.specs.Formats.{AreTexts}
use Rattle.actions.proofs.Named.{either, passes}

-- the names of a zone of a release are identifiers
names_at : (H : List ReleaseData) (last : ReleaseData) (cs : List ContentData) (place : ℕ) (e : EntryData) → list_all is_identifier (names_of cs) ≡ true
    → slice_get (map (entry_of H last) cs) place ≡ Some e → list_all is_identifier (e.content.tzid ∷ e.content.aliases) ≡ true
names_at H last [] place e all there = absurd cc
names_at H last (c ∷ cs) zero e all there =
    let same : entry_of H last c ≡ e = cc in
    let parts = and_parts (list_all is_identifier (c.tzid ∷ c.aliases)) (list_all is_identifier (names_of cs))
    (sym (list_all-append is_identifier (c.tzid ∷ c.aliases) (names_of cs)) ∙ all) in
    subst (λ (x : EntryData). list_all is_identifier (x.content.tzid ∷ x.content.aliases) ≡ true) same parts.0
names_at H last (c ∷ cs) (suc place) e all there =
    let parts = and_parts (list_all is_identifier (c.tzid ∷ c.aliases)) (list_all is_identifier (names_of cs))
    (sym (list_all-append is_identifier (c.tzid ∷ c.aliases) (names_of cs)) ∙ all) in
    names_at H last cs place e parts.1 there

names_in : (H : List ReleaseData) (o : Option ReleaseData) (place : ℕ) (e : EntryData) → IsHistory IsSound H → last_release H ≡ o
    → slice_get (entries_of H o) place ≡ Some e → list_all is_identifier (e.content.tzid ∷ e.content.aliases) ≡ true
names_in H None place e history is there = absurd cc
names_in H (Some last) place e history is there =
    names_at H last last.contents place e ((last_of IsSound H last history is).release.fits.identifiers) there

member_named : (name : List ℕ) (texts : List (List ℕ)) → list_all is_identifier texts ≡ true → list_any (bytes_eq name) texts ≡ true → is_identifier name ≡ true
member_named name [] all h = absurd cc
member_named name (text ∷ texts) all h =
    let parts = and_parts (is_identifier text) (list_all is_identifier texts) all in
    elim (either (bytes_eq name text) (list_any (bytes_eq name) texts) h) [
      | inl same ↦ subst (λ n. is_identifier n ≡ true) (sym ((bytes_eq-Decides name text).0 same)) parts.0
      | inr rest ↦ member_named name texts parts.1 rest
    ]

pub names_are_texts : (H : List ReleaseData) (name : List ℕ) (place : ℕ) (e : EntryData) → IsHistory IsSound H → Some place ≡ place_named H name
    → slice_get (meta H) place ≡ Some e → AreTexts name e.content.tzid
unfolding place_named meta
names_are_texts H name place e history found there =
    let all = names_in H (last_release H) place e history refl there in
    let is : position_from (λ x. is_name_of name x.content) 0 (meta H) ≡ Some (0 + place) = sym found ∙ ap Some (omega arith) in
    record {
      name = identifier_is_safe name
          (member_named name (e.content.tzid ∷ e.content.aliases) all (passes (λ x. is_name_of name x.content) 0 place (meta H) e is there));
      tzid = identifier_is_safe e.content.tzid ((and_parts (is_identifier e.content.tzid) (list_all is_identifier e.content.aliases) all).0);
    }
