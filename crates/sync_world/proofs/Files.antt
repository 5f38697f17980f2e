-- What a list of changes does to the files, and what a get of a file finds.
use Rattle.std.proofs.Common.{inl, inr, ◌⊎◌, ◌≡◌, ℕ, suc, ◌+◌, Bool, true, false, cond, ◌&&◌, ◌||◌, Option, None, Some, List, [], ◌∷◌, ◌++◌, ◌≤◌, filter}
use Rattle.std.proofs.Common.{length, take, drop, refl, sym, ap, ◌∙◌, subst, map, arith, nat_lt, append_assoc}
use Rattle.std.specs.Prelude.{is_some}
use Rattle.std.specs.List.{AllByRecursion, list_all}
use Rattle.std.specs.Str.{bytes_eq}
use Rattle.std.proofs.lemmas.List.{take-append-drop}
use Rattle.std.proofs.lemmas.List.Folds.{list_all-append}
use Rattle.std.proofs.lemmas.Bool.{lt-ltb}
use Rattle.sync_core.proofs.lemmas.Puts.{Rising, Before, put_itself, same_bytes}
use Rattle.catalogue.specs.Releases.{ContentData, ReleaseData}
use Rattle.catalogue.specs.Histories.{IsHistory, entry_from, has_content, last_change}
use Rattle.json_forms.specs.declared.zone_list.ListZone.{ListZone}
use Rattle.sync_world.proofs.Looks.{known, pending_of}
use Rattle.sync_core.specs.Mirrors.{entry_name}
use Rattle.sync_core.specs.Steps.{rising_zones}
use Rattle.actions.specs.Listing.{list_zone}
use Rattle.catalogue.specs.Order.{IsRising}
use Rattle.sync_world.specs.Primaries.{list_told}
use Rattle.sync_core.specs.Steps.{is_alias}
use Rattle.catalogue.specs.Lookups.{named, zone_at, zones_of, contents_of}
use Rattle.sync_world.proofs.Zones.{Distinct, has_text, aliased, role, Role, a_zone, an_alias, no_name, IsZone, IsAlias, IsNone, among_at, among_alias}
use Rattle.sync_world.proofs.Zones.{entries_by, listed_by, changed_by, known_some, alias_none, alias_some}
use Rattle.sync_world.proofs.Changes.{changes, end, last_is, end_passes, ends_distinct, starts_distinct, still_named, moved, list_is, at_change}
use Rattle.sync_world.proofs.Aliases.{zone_named, cut}

pub zones_are : (A : List ReleaseData) (x : ReleaseData) (X : List ReleaseData) → zones_of (A ++ x ∷ X) ≡ (end x X).contents
zones_are A x X = ap contents_of (last_is A None x X)

pub named_of_zone : (cs : List ContentData) (t : List ℕ) (c : ContentData) → Distinct cs → zone_at cs t ≡ Some c → named cs t ≡ Some c
named_of_zone cs t c d h = by (role cs t d)
  where
    by : Role cs t → named cs t ≡ Some c
    by (a_zone z is) = let at = is.at in let name = is.named in cc
    by (an_alias z is) = let at = is.at in absurd (cc)
    by (no_name is) = let at = is.at in absurd (cc)

pub history_front : (sound : ReleaseData → Type 0) (H : List ReleaseData) (n : ℕ) → IsHistory sound H → IsHistory sound (take n H)
history_front sound H n h before r after e =
    h before r (after ++ drop n H) (sym (take-append-drop n H) ∙ ap (λ G. G ++ drop n H) e ∙ append_assoc before (r ∷ after) (drop n H))

pub take_past : (A : List ReleaseData) (x : ReleaseData) (X : List ReleaseData) (k : ℕ) → take (length A + 1 + k) (A ++ x ∷ X) ≡ A ++ x ∷ take k X
take_past [] x X k = let e : length {A = ReleaseData} [] + 1 + k ≡ suc k = omega arith in ap (λ n. take n (x ∷ X)) e
take_past (a ∷ A) x X k =
    let e : length (a ∷ A) + 1 + k ≡ suc (length A + 1 + k) = omega arith in
    ap (λ n. take n (a ∷ A ++ x ∷ X)) e ∙ ap (λ T. a ∷ T) (take_past A x X k)

all_front : {X : Type 0} (p : X → Bool) (n : ℕ) (xs : List X) → list_all p xs ≡ true → list_all p (take n xs) ≡ true
all_front p n xs h = by (list_all p (take n xs)) refl (sym (list_all-append p (take n xs) (drop n xs)) ∙ ap (list_all p) (take-append-drop n xs) ∙ h)
  where
    by : (b : Bool) → list_all p (take n xs) ≡ b → (b && list_all p (drop n xs)) ≡ true → list_all p (take n xs) ≡ true
    by true e k = e
    by false e k = absurd (cc)

module _ (sound : ReleaseData → Type 0) (A : List ReleaseData) (x : ReleaseData) (X : List ReleaseData) (h : IsHistory sound (A ++ x ∷ X)) where
  abbrev releases : ContentData → ReleaseData
  releases = at_change (A ++ x ∷ X) (end x X)

  abbrev places : ContentData → ℕ
  places = last_change (A ++ x ∷ X)

  abbrev pub news : List ListZone
  news = changed_by releases places (length A + 1) (end x X).contents

  pub alias_goes : (t : List ℕ) (c : ContentData) → IsAlias (end x X).contents t c → (is_alias news t ≡ true) ⊎ (zone_at x.contents t ≡ None)
  alias_goes t c is = by (list_all (has_content c) (x ∷ X)) refl
    where
      quiet : aliased x.contents t ≡ true → Role x.contents t → zone_at x.contents t ≡ None
      quiet alias (a_zone z at) = let no = at.not_alias in absurd (cc)
      quiet alias (an_alias z at) = at.at
      quiet alias (no_name at) = at.at

      by : (b : Bool) → list_all (has_content c) (x ∷ X) ≡ b → (is_alias news t ≡ true) ⊎ (zone_at x.contents t ≡ None)
      by true all =
          let at = among_alias x.contents c t (end_passes (has_content c) x [] (all_front (has_content c) 1 (x ∷ X) all)) is.has in
          inr (quiet at (role x.contents t (starts_distinct sound A x X h)))
      by false some =
          let loud : nat_lt (length A + 1) (last_change (A ++ x ∷ X) c) ≡ true = lt-ltb _ _ (changes A x X c some) in
          inl (alias_some releases places (length A + 1) (end x X).contents t c is.there loud is.has)

  pub none_before : (t : List ℕ) → IsNone (end x X).contents t → zone_at x.contents t ≡ None
  none_before t is = by (zone_at x.contents t) refl
    where
      by : (o : Option ContentData) → zone_at x.contents t ≡ o → zone_at x.contents t ≡ None
      by None e = e
      by (Some c) e = let name = still_named sound A x X h t (zone_named x.contents t c e) in let no = is.not_name in absurd (cc)

  pub record IsKept (t : List ℕ) (c : ContentData) : Type 0 where
    pub not_alias : is_alias news t ≡ false
    pub all : list_all (has_content c) (x ∷ X) ≡ true

  pub zone_kept : (t : List ℕ) (c : ContentData) → IsZone (end x X).contents t c → (is_some (known news t) ≡ true) ⊎ IsKept t c
  zone_kept t c is = by (list_all (has_content c) (x ∷ X)) refl
    where
      by : (b : Bool) → list_all (has_content c) (x ∷ X) ≡ b → (is_some (known news t) ≡ true) ⊎ IsKept t c
      by true all = inr (record { not_alias = alias_none releases places (length A + 1) (end x X).contents t is.not_alias; all = all })
      by false some =
          let loud : nat_lt (length A + 1) (last_change (A ++ x ∷ X) c) ≡ true = lt-ltb _ _ (changes A x X c some) in
          let here : known news t ≡ Some (listed_by releases places c) =
          known_some releases places (length A + 1) (end x X).contents t c (ends_distinct sound A x X h) is.at ∙ rw loud in
          inl (rw here)

  -- a content that stays is what its identifier names at each place
  pub steady : (k : ℕ) (c : ContentData) → list_all (has_content c) (x ∷ X) ≡ true → named (zones_of (A ++ x ∷ take k X)) c.tzid ≡ Some c
  steady k c all =
      let front : IsHistory sound (A ++ x ∷ take k X) = subst (IsHistory sound) (take_past A x X k) (history_front sound (A ++ x ∷ X) (length A + 1 + k) h) in
      let there = end_passes (has_content c) x (take k X) (all_front (has_content c) (suc k) (x ∷ X) all) in
      let d = ends_distinct sound A x (take k X) front in
      rw (zones_are A x (take k X)) (named_of_zone (end x (take k X)).contents c.tzid c d (among_at (end x (take k X)).contents c d there))

-- what is pending after a list
known_listed : (zones : List ListZone) (t : List ℕ) → is_some (known zones t) ≡ true → has_text (map entry_name zones) t ≡ true
known_listed [] t h = absurd (cc)
known_listed (z ∷ zs) t h = by (known_listed zs t) (bytes_eq t z.tzid) h
  where
    by : (is_some (known zs t) ≡ true → has_text (map entry_name zs) t ≡ true) → (b : Bool) → is_some (cond b (Some z) (known zs t)) ≡ true
        → (b || has_text (map entry_name zs) t) ≡ true
    by again true k = refl
    by again false k = again k

-- what is found in a rising list is found in it put in order
pub known_put : (zones : List ListZone) (t : List ℕ) → Rising entry_name zones → known (rising_zones zones) t ≡ known zones t
known_put zones t r = ap (λ zs. known zs t) (put_itself entry_name zones r)

pub known_pending : (zones : List ListZone) (t : List ℕ) → Rising entry_name zones → is_some (known zones t) ≡ true → has_text (pending_of zones) t ≡ true
known_pending zones t r h = known_listed (rising_zones zones) t (ap is_some (known_put zones t r) ∙ h)

more_known : (zones more : List ListZone) (P : List ℕ → Type 0) → ((t : List ℕ) → is_some (known zones t) ≡ true → P t)
    → AllByRecursion (λ z. is_some (known zones z) ≡ true) (map entry_name more) → AllByRecursion P (map entry_name more)
more_known zones [] P f all = tt
more_known zones (z ∷ zs) P f all = (f z.tzid all.0, more_known zones zs P f all.1)

one_more : (z : ListZone) (zones more : List ListZone) → AllByRecursion (λ t. is_some (known zones t) ≡ true) (map entry_name more)
    → AllByRecursion (λ t. is_some (known (z ∷ zones) t) ≡ true) (map entry_name more)
one_more z zones [] all = tt
one_more z zones (y ∷ ys) all = (by (bytes_eq y.tzid z.tzid), one_more z zones ys all.1)
  where
    by : (b : Bool) → is_some (cond b (Some z) (known zones y.tzid)) ≡ true
    by true = refl
    by false = all.0

each_known : (zones : List ListZone) → AllByRecursion (λ t. is_some (known zones t) ≡ true) (map entry_name zones)
each_known [] = tt
each_known (z ∷ zs) = (rw (same_bytes z.tzid), one_more z zs zs (each_known zs))

-- what holds of each identifier that a list knows holds of all that is pending after it
pub each_pending : (zones : List ListZone) (P : List ℕ → Type 0) → Rising entry_name zones → ((t : List ℕ) → is_some (known zones t) ≡ true → P t)
    → AllByRecursion P (pending_of zones)
each_pending zones P r f =
    more_known (rising_zones zones) (rising_zones zones) P (λ t k. f t (sym (ap is_some (known_put zones t r)) ∙ k)) (each_known (rising_zones zones))

-- ---- lists rise

pub ends_rising : (sound : ReleaseData → Type 0) (A : List ReleaseData) (x : ReleaseData) (X : List ReleaseData) → IsHistory sound (A ++ x ∷ X)
    → IsRising (map (λ (c : ContentData). c.tzid) (end x X).contents)
ends_rising sound A x [] h = (h A x [] refl).in_order.contents
ends_rising sound A x (y ∷ Y) h = ends_rising sound (A ++ x ∷ []) y Y (moved sound A x y Y h)

listed_texts : (f : ContentData → ReleaseData) (g : ContentData → ℕ) (cs : List ContentData)
    → map entry_name (map list_zone (entries_by f g cs)) ≡ map (λ (c : ContentData). c.tzid) cs
listed_texts f g [] = refl
listed_texts f g (c ∷ cs) = ap (λ ts. c.tzid ∷ ts) (listed_texts f g cs)

pub list_rises : (sound : ReleaseData → Type 0) (G : List ReleaseData) → IsHistory sound G → 1 ≤ length G → Rising entry_name (list_told G)
list_rises sound G h long =
    let c = cut G (length G) (long, omega arith) in
    subst (λ F. Rising entry_name (list_told F)) (sym c.whole) (by c.A c.x c.X (subst (IsHistory sound) c.whole h))
  where
    by : (A : List ReleaseData) (x : ReleaseData) (X : List ReleaseData) → IsHistory sound (A ++ x ∷ X) → Rising entry_name (list_told (A ++ x ∷ X))
    by A x X h =
        subst (Rising entry_name) (sym (list_is A x X))
        (subst IsRising (sym (listed_texts (at_change (A ++ x ∷ X) (end x X)) (last_change (A ++ x ∷ X)) (end x X).contents)) (ends_rising sound A x X h))

-- a list of changes is a part of the list
before_changed : (f : ContentData → ReleaseData) (g : ContentData → ℕ) (n : ℕ) (t : List ℕ) (cs : List ContentData)
    → Before t (map (λ (c : ContentData). c.tzid) cs) → Before t (map entry_name (changed_by f g n cs))
before_changed f g n t [] all = tt
before_changed f g n t (c ∷ cs) all = by (nat_lt n (g c)) (before_changed f g n t cs all.1)
  where
    by : (b : Bool) → Before t (map entry_name (changed_by f g n cs))
        → Before t (map entry_name
        (map list_zone (cond b (entry_from (f c) (g c) c ∷ filter (λ e. nat_lt n e.changed) (entries_by f g cs))
        (filter (λ e. nat_lt n e.changed) (entries_by f g cs)))))
    by true rest = (all.0, rest)
    by false rest = rest

changed_rises : (f : ContentData → ReleaseData) (g : ContentData → ℕ) (n : ℕ) (cs : List ContentData) → IsRising (map (λ (c : ContentData). c.tzid) cs)
    → Rising entry_name (changed_by f g n cs)
changed_rises f g n [] r = tt
changed_rises f g n (c ∷ cs) r = by (nat_lt n (g c)) (changed_rises f g n cs r.1)
  where
    by : (b : Bool) → Rising entry_name (changed_by f g n cs)
        → Rising entry_name (map list_zone
        (cond b (entry_from (f c) (g c) c ∷ filter (λ e. nat_lt n e.changed) (entries_by f g cs)) (filter (λ e. nat_lt n e.changed) (entries_by f g cs))))
    by true rest = (before_changed f g n c.tzid cs r.0, rest)
    by false rest = rest

pub news_rises : (sound : ReleaseData → Type 0) (A : List ReleaseData) (x : ReleaseData) (X : List ReleaseData) (h : IsHistory sound (A ++ x ∷ X))
    → Rising entry_name (news sound A x X h)
news_rises sound A x X h =
    changed_rises (at_change (A ++ x ∷ X) (end x X)) (last_change (A ++ x ∷ X)) (length A + 1) (end x X).contents (ends_rising sound A x X h)
