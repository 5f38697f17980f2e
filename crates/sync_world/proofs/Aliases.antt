-- A list of changes leads from the entries of an earlier place to those of the history's end.
use Rattle.std.proofs.Common.{inl, inr, ◌≡◌, ℕ, ◌+◌, ◌-◌, ◌≤◌, Bool, true, false, ◌&&◌, Option, None, Some, List, [], ◌∷◌, ◌++◌, length, take, drop, refl, sym}
use Rattle.std.proofs.Common.{ap, ◌∙◌, subst, arith, nat_lt, append_assoc, length-append, length-take, length-drop}
use Rattle.std.specs.Prelude.{option_map}
use Rattle.std.specs.List.{list_all}
use Rattle.std.proofs.lemmas.List.{take-append-drop, take-append-le, take_all}
use Rattle.std.proofs.lemmas.Bool.{lt-ltb, le-ltb, cases_Bool}
use Rattle.catalogue.specs.Releases.{ContentData, ReleaseData, names_of}
use Rattle.catalogue.specs.Histories.{IsHistory, has_content, last_change}
use Rattle.json_forms.specs.declared.zone_list.ListZone.{ListZone}
use Rattle.sync_world.proofs.Looks.{known, joined, unless}
use Rattle.sync_core.specs.Steps.{is_alias}
use Rattle.std.specs.Option.{option_or}
use Rattle.sync_world.specs.Primaries.{list_told, changes_of, IsPlace}
use Rattle.catalogue.specs.Lookups.{zone_at}
use Rattle.sync_world.proofs.Zones.{has_text, aliased, absent, role, Role, a_zone, an_alias, no_name, IsZone, IsAlias, IsNone, among_at, among_alias, listed_by}
use Rattle.sync_world.proofs.Zones.{changed_by, known_none, known_some, alias_none, alias_some}
use Rattle.sync_world.proofs.Changes.{stays, changes, end, ends_distinct, starts_distinct, still_named, at_change, changes_are, known_is, same_listed}

unless_none : {X : Type 0} (b : Bool) → unless {X = X} b None ≡ None
unless_none true = refl
unless_none false = refl

pub head_true : {X : Type 0} (p : X → Bool) (x : X) (xs : List X) → list_all p (x ∷ xs) ≡ true → p x ≡ true
head_true p x xs h = by (p x) refl h
  where
    by : (b : Bool) → p x ≡ b → (b && list_all p xs) ≡ true → p x ≡ true
    by true e k = e
    by false e k = absurd (cc)

pub zone_named : (cs : List ContentData) (t : List ℕ) (c : ContentData) → zone_at cs t ≡ Some c → has_text (names_of cs) t ≡ true
zone_named cs t c h = by (has_text (names_of cs) t) refl
  where
    by : (b : Bool) → has_text (names_of cs) t ≡ b → has_text (names_of cs) t ≡ true
    by true e = e
    by false e = let none = (absent cs t e).at in absurd (cc)

module _ (sound : ReleaseData → Type 0) (A : List ReleaseData) (x : ReleaseData) (X : List ReleaseData) (h : IsHistory sound (A ++ x ∷ X)) where
  abbrev before : List ℕ → Option ListZone
  before = known (list_told (A ++ x ∷ []))

  abbrev releases : ContentData → ReleaseData
  releases = at_change (A ++ x ∷ X) (end x X)

  abbrev places : ContentData → ℕ
  places = last_change (A ++ x ∷ X)

  abbrev news : List ListZone
  news = changed_by releases places (length A + 1) (end x X).contents

  abbrev goal : List ℕ → Type 0
  goal t = option_or (known news t) (unless (is_alias news t) (before t)) ≡ option_map
      (listed_by (at_change (A ++ x ∷ X) (end x X)) (last_change (A ++ x ∷ X))) (zone_at (end x X).contents t)

  -- a content that stands in each release from the place on is the zone of its identifier there
  pub stays_at : (c : ContentData) → list_all (has_content c) (x ∷ X) ≡ true → zone_at x.contents c.tzid ≡ Some c
  stays_at c all = among_at x.contents c (starts_distinct sound A x X h) (head_true (has_content c) x X all)

  of_zone : (t : List ℕ) (c : ContentData) → IsZone (end x X).contents t c → goal t
  of_zone t c is = elim (cases_Bool (list_all (has_content c) (x ∷ X))) [
    | inl all ↦
        let s = stays A x X c all in
        let quiet : nat_lt (length A + 1) (last_change (A ++ x ∷ X) c) ≡ false = le-ltb _ _ s.before in
        let none : known news t ≡ None = known_some releases places (length A + 1) (end x X).contents t c (ends_distinct sound A x X h) is.at ∙ rw quiet in
        let no_alias : is_alias news t ≡ false = alias_none releases places (length A + 1) (end x X).contents t is.not_alias in
        let at : zone_at x.contents t ≡ Some c = subst (λ u. zone_at x.contents u ≡ Some c) (sym is.is) (stays_at c all) in
        let old : before t ≡ Some (listed_by (at_change (A ++ x ∷ X) (end x X)) (last_change (A ++ x ∷ X)) c) =
        known_is A x [] t ∙ rw at (ap Some (same_listed A x X c s)) in
        rw (none, no_alias, is.at) old
    | inr some ↦
        let loud : nat_lt (length A + 1) (last_change (A ++ x ∷ X) c) ≡ true = lt-ltb _ _ (changes A x X c some) in
        let here : known news t ≡ Some (listed_by (at_change (A ++ x ∷ X) (end x X)) (last_change (A ++ x ∷ X)) c) =
        known_some releases places (length A + 1) (end x X).contents t c (ends_distinct sound A x X h) is.at ∙ rw loud in
        rw (here, is.at)
  ]

  none_before : (t : List ℕ) → zone_at x.contents t ≡ None → before t ≡ None
  none_before t at = known_is A x [] t ∙ rw at

  of_alias : (t : List ℕ) (c : ContentData) → IsAlias (end x X).contents t c → goal t
  of_alias t c is =
      let none : known news t ≡ None = known_none releases places (length A + 1) (end x X).contents t is.at in
      let gone : unless (is_alias news t) (before t) ≡ None = elim (cases_Bool (list_all (has_content c) (x ∷ X))) [
        | inl all ↦
            let alias : aliased x.contents t ≡ true = among_alias x.contents c t (head_true (has_content c) x X all) is.has in
            let old : before t ≡ None = none_before t (quiet alias (role x.contents t (starts_distinct sound A x X h))) in
            rw old (unless_none (is_alias news t))
        | inr some ↦
            let loud : nat_lt (length A + 1) (last_change (A ++ x ∷ X) c) ≡ true = lt-ltb _ _ (changes A x X c some) in
            let alias : is_alias news t ≡ true = alias_some releases places (length A + 1) (end x X).contents t c is.there loud is.has in
            rw alias
      ] in
      rw (none, gone, is.at)
    where
      quiet : aliased x.contents t ≡ true → Role x.contents t → zone_at x.contents t ≡ None
      quiet alias (a_zone z at) = let no = at.not_alias in absurd (cc)
      quiet alias (an_alias z at) = at.at
      quiet alias (no_name at) = at.at

  of_none : (t : List ℕ) → IsNone (end x X).contents t → goal t
  of_none t is =
      let none : known news t ≡ None = known_none releases places (length A + 1) (end x X).contents t is.at in
      let old : before t ≡ None = none_before t (quiet (zone_at x.contents t) refl) in
      rw (none, old, is.at) (unless_none (is_alias news t))
    where
      quiet : (o : Option ContentData) → zone_at x.contents t ≡ o → zone_at x.contents t ≡ None
      quiet None e = e
      quiet (Some c) e =
          let name = still_named sound A x X h t (zone_named x.contents t c e) in
          let no = is.not_name in
          absurd (cc)

  by_role : (t : List ℕ) → Role (end x X).contents t → goal t
  by_role t (a_zone c is) = of_zone t c is
  by_role t (an_alias c is) = of_alias t c is
  by_role t (no_name is) = of_none t is

  pub joined_split : (t : List ℕ) → joined (known (list_told (A ++ x ∷ []))) (changes_of (A ++ x ∷ X) (length A + 1)) t ≡ known (list_told (A ++ x ∷ X)) t
  joined_split t =
      ap (λ zones. joined before zones t) (changes_are A x X (length A + 1))
      ∙ by_role t (role (end x X).contents t (ends_distinct sound A x X h)) ∙ sym (known_is A x X t)

-- a history cut at a place
pub record Cut (H : List ReleaseData) (m : ℕ) : Type 0 where
  pub A : List ReleaseData
  pub x : ReleaseData
  pub X : List ReleaseData
  pub whole : H ≡ A ++ x ∷ X
  pub front : take m H ≡ A ++ x ∷ []
  pub place : m ≡ length A + 1

front_is : (A : List ReleaseData) (x : ReleaseData) (X : List ReleaseData) → take (length A + 1) (A ++ x ∷ X) ≡ A ++ x ∷ []
front_is A x X =
    let long : length (A ++ x ∷ []) ≡ length A + 1 = omega (arith, length-append A (x ∷ [])) in
    ap (take (length A + 1)) (sym (append_assoc A (x ∷ []) X))
    ∙ take-append-le (length A + 1) (A ++ x ∷ []) X (omega arith)
    ∙ take_all (length A + 1) (A ++ x ∷ []) (omega arith)

pub cut : (H : List ReleaseData) (m : ℕ) → IsPlace H m → Cut H m
cut H m p = by (drop (m - 1) H) refl
  where
    by : (R : List ReleaseData) → drop (m - 1) H ≡ R → Cut H m
    by [] e = let low : 1 ≤ m = p.0 in let high : m ≤ length H = p.1 in absurd (omega (arith, length-drop (m - 1) H, ap length e))
    by (x ∷ X) e =
        let low : 1 ≤ m = p.0 in
        let high : m ≤ length H = p.1 in
        let whole : H ≡ take (m - 1) H ++ x ∷ X = sym (take-append-drop (m - 1) H) ∙ ap (λ R. take (m - 1) H ++ R) e in
        let place : m ≡ length (take (m - 1) H) + 1 = omega (arith, length-take (m - 1) H) in
        let front : take m H ≡ take (m - 1) H ++ x ∷ [] =
        ap (take m) whole ∙ ap (λ n. take n (take (m - 1) H ++ x ∷ X)) place ∙ front_is (take (m - 1) H) x X in
        record { A = take (m - 1) H; x = x; X = X; whole = whole; front = front; place = place }

joined_cut : (sound : ReleaseData → Type 0) (H T : List ReleaseData) (m : ℕ) (A : List ReleaseData) (x : ReleaseData) (X : List ReleaseData)
    → H ≡ A ++ x ∷ X → T ≡ A ++ x ∷ [] → m ≡ length A + 1 → IsHistory sound H
    → (t : List ℕ) → joined (known (list_told T)) (changes_of H m) t ≡ known (list_told H) t
joined_cut sound H T m A x X whole front place h t =
    let k = joined_split sound A x X (subst (IsHistory sound) whole h) t in
    rw (whole, front, place) k

pub joined_at : (sound : ReleaseData → Type 0) (H : List ReleaseData) (m : ℕ) → IsHistory sound H → IsPlace H m
    → (t : List ℕ) → joined (known (list_told (take m H))) (changes_of H m) t ≡ known (list_told H) t
joined_at sound H m h p t =
    let c = cut H m p in
    joined_cut sound H (take m H) m c.A c.x c.X c.whole c.front c.place h t
