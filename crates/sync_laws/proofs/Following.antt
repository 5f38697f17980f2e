-- What a mirror holds at a place may follow what it held at an earlier one.
use Rattle.std.proofs.Common.{◌≡◌, inl, inr, ℕ, zero, suc, ◌+◌, ◌-◌, ◌<◌, ◌≤◌, ℤ, Bool, true, false, ◌||◌, not, Option, None, Some}
use Rattle.std.proofs.Common.{IfSome, List, [], ◌∷◌, ◌++◌, length, map, take, find, get_or, option_map, refl}
use Rattle.std.proofs.Common.{sym, ap, ◌∙◌, subst, arith, length-append, length-take, append_assoc}
use Rattle.std.specs.Prelude.{◌≤ℤ◌, int_lt}
use Rattle.std.specs.List.{AllByRecursion, Contains, list_all, list_any}
use Rattle.std.specs.Str.{bytes_eq}
use Rattle.std.proofs.lemmas.Bool.{cases_Bool}
use Rattle.std.proofs.lemmas.Int.{by_lt_z, ints}
use Rattle.std.proofs.lemmas.List.{get_or_append_left, get_or_default, get_or-append-add}
use Rattle.std.proofs.lemmas.List.Folds.{list_any-append}
use Rattle.td_civil.specs.Bounds.{HasMeaning}
use Rattle.td_civil.specs.declared.moment_type.Moment.{Moment}
use Rattle.td_civil.specs.declared.moment_type.TheConstants.{LO}
use Rattle.catalogue.specs.Histories.{IsHistory, has_content, last_change, last_release}
use Rattle.catalogue.specs.Lookups.{zone_at, zones_of}
use Rattle.catalogue.specs.Order.{rising_by}
use Rattle.catalogue.specs.Releases.{ContentData, ReleaseData, names_of, same_content}
use Rattle.catalogue.proofs.lemmas.Rising.{each_sorted}
use Rattle.catalogue.proofs.lemmas.SameZones.{same_is}
use Rattle.zone_meaning.specs.Lengths.{sound_lengths}
use Rattle.zone_meaning.specs.Sound.{IsSound}
use Rattle.zone_meaning.proofs.lemmas.Members.{member_first, member_later, member_cases, no_member}
use Rattle.json_forms.specs.declared.zone_list.ListZone.{ListZone}
use Rattle.release_check.specs.Before.{drop_fault, stamp_fault}
use Rattle.release_check.specs.Faults.{names_in}
use Rattle.release_check.specs.declared.check_fault.CheckFault.TheVariants as fault
use Rattle.sync_core.specs.Mirrors.{MirrorState}
use Rattle.sync_core.proofs.lemmas.Puts.{same_bytes}
use Rattle.sync_core.specs.Published.{manifest_of, manifest_with, manifest_zone, newest}
use Rattle.sync_world.specs.Holding.{HoldsLast}
use Rattle.sync_world.specs.Primaries.{Service, list_told}
use Rattle.sync_world.proofs.Aliases.{cut, head_true, stays_at}
use Rattle.sync_world.proofs.Changes.{at_change, changes, end, ends_distinct, last_is, moved, same_release, starts_distinct, stays, still_named}
use Rattle.sync_world.proofs.Files.{history_front, zones_are}
use Rattle.sync_world.proofs.Zones.{IsAlias, IsZone, Role, a_zone, aliased, among, among_alias, among_at, an_alias, has_text, no_name, role}
use Rattle.sync_laws.specs.LastChange.{IsServedAs}
use Rattle.sync_laws.proofs.LastChanges.{change_within, each_among, entries, entries_are, entry, is_among, its_entry, of_zone}
use Rattle.sync_laws.proofs.Latest.{IsOfEntry, of_entry}

-- ---- members

weaker : {X : Type 0} (P Q : X → Type 0) → ((x : X) → P x → Q x) → (xs : List X) → AllByRecursion P xs → AllByRecursion Q xs
weaker P Q k [] all = tt
weaker P Q k (x ∷ xs) all = (k x all.0, weaker P Q k xs all.1)

at_member : {X : Type 0} (P : X → Type 0) (xs : List X) (x : X) → AllByRecursion P xs → Contains xs x → P x
at_member P [] x all there = absurd (no_member x there)
at_member P (y ∷ ys) x all there =
    elim (member_cases y x ys there) [
      | inl same ↦ subst P same all.0
      | inr later ↦ at_member P ys x all.1 later
    ]

some_entry : (zs : List ListZone) (z : ListZone) → Contains zs z → 0 < length zs
some_entry [] z there = absurd (no_member z there)
some_entry (y ∷ ys) z there = omega arith

or_true : (b : Bool) → (b || true) ≡ true
or_true true = refl
or_true false = refl

each_has : (names : List (List ℕ)) → AllByRecursion (λ name. has_text names name ≡ true) names
each_has [] = tt
each_has (y ∷ ys) = (
  rw (same_bytes y) refl,
  weaker (λ name. has_text ys name ≡ true) (λ name. has_text (y ∷ ys) name ≡ true) (λ name e. rw e (or_true (bytes_eq name y))) ys (each_has ys),
)

front_or : (a b : Bool) → a ≡ true → (a || b) ≡ true
front_or true b h = refl
front_or false b h = absurd (cc)

zone_has_name : (cs : List ContentData) (c : ContentData) → Contains cs c → has_text (names_of cs) c.tzid ≡ true
zone_has_name [] c there = absurd (no_member c there)
zone_has_name (d ∷ cs) c there =
    elim (member_cases d c cs there) as (λ s. has_text (names_of (d ∷ cs)) c.tzid ≡ true) [
      | inl same ↦
          subst (λ (y : ContentData). has_text (names_of (d ∷ cs)) y.tzid ≡ true) same
          (front_or (bytes_eq d.tzid d.tzid) (has_text (d.aliases ++ names_of cs) d.tzid) (same_bytes d.tzid))
      | inr later ↦
          let rest : (has_text d.aliases c.tzid || has_text (names_of cs) c.tzid) ≡ true =
          rw (zone_has_name cs c later) (or_true (has_text d.aliases c.tzid)) in
          let whole : has_text (d.aliases ++ names_of cs) c.tzid ≡ true = list_any-append (bytes_eq c.tzid) d.aliases (names_of cs) ∙ rest in
          rw whole (or_true (bytes_eq c.tzid d.tzid))
    ]

-- ---- stamps never go back along a history

beyond : (a b c : ℤ) → a ≤ℤ b → b ≤ℤ c → a ≤ℤ c
beyond a b c h k = grind (arith, ints)

itself : (a : ℤ) → a ≤ℤ a
itself a = grind (arith, ints)

abbrev NotBefore : ReleaseData → ReleaseData → Type 0
NotBefore x y = x.stamp ≤ℤ y.stamp

each_beyond : (x y : ReleaseData) (zs : List ReleaseData) → NotBefore x y → AllByRecursion (NotBefore y) zs → AllByRecursion (NotBefore x) zs
each_beyond x y [] le all = tt
each_beyond x y (z ∷ zs) le all = (beyond x.stamp y.stamp z.stamp le all.0, each_beyond x y zs le all.1)

next_later : (A : List ReleaseData) (x y : ReleaseData) (Y : List ReleaseData) → IsHistory IsSound ((A ++ x ∷ []) ++ y ∷ Y) → NotBefore x y
next_later A x y Y h =
    let stamp : IfSome (last_release (A ++ x ∷ [])) (λ last. last.stamp ≤ℤ y.stamp) = (h (A ++ x ∷ []) y Y refl).fits.stamp in
    subst (λ o. IfSome o (λ (last : ReleaseData). last.stamp ≤ℤ y.stamp)) (last_is A None x []) stamp

each_later : (A : List ReleaseData) (x : ReleaseData) (X : List ReleaseData) → IsHistory IsSound (A ++ x ∷ X) → AllByRecursion (NotBefore x) X
each_later A x [] h = tt
each_later A x (y ∷ Y) h =
    let on = moved IsSound A x y Y h in
    let le = next_later A x y Y on in
    (le, each_beyond x y Y le (each_later (A ++ x ∷ []) y Y on))

at_place : {X : Type 0} (Q : X → Type 0) (xs : List X) (k : ℕ) (d : X) → AllByRecursion Q xs → k < length xs → Q (get_or xs k d)
at_place Q [] k d all lt = absurd (omega (arith, lt))
at_place Q (x ∷ xs) zero d all lt = all.0
at_place Q (x ∷ xs) (suc k) d all lt = at_place Q xs k d all.1 (omega (arith, lt))

-- after the release that stands after so many
after_it : (A : List ReleaseData) (x : ReleaseData) (X : List ReleaseData) (k : ℕ) (d : ReleaseData) → IsHistory IsSound (A ++ x ∷ X) → k < length X
    → NotBefore x (get_or (A ++ x ∷ X) (length A + suc k) d)
after_it A x X k d h lt =
    subst (NotBefore x) (sym (get_or-append-add A (x ∷ X) (suc k) d)) (at_place (NotBefore x) X k d (each_later A x X h) lt)

pub rises : (H : List ReleaseData) (p q : ℕ) (d : ReleaseData) → IsHistory IsSound H → p < q → q < length H → NotBefore (get_or H p d) (get_or H q d)
rises H p q d h lt within =
    let c = cut H (p + 1) (omega arith, omega (arith, lt, within)) in
    by c.A c.x c.X c.whole c.place
  where
    by : (A : List ReleaseData) (x : ReleaseData) (X : List ReleaseData) → H ≡ A ++ x ∷ X → p + 1 ≡ length A + 1 → NotBefore (get_or H p d) (get_or H q d)
    by A x X whole place =
        let long : length H ≡ length A + length (x ∷ X) = ap length whole ∙ length-append A (x ∷ X) in
        let at : q ≡ length A + suc (q - (length A + 1)) = omega (arith, place, lt) in
        let few : q - (length A + 1) < length X = omega (arith, place, lt, within, long) in
        let history : IsHistory IsSound (A ++ x ∷ X) = subst (IsHistory IsSound) whole h in
        let here : get_or H p d ≡ x =
        ap (λ (G : List ReleaseData). get_or G p d) whole ∙ ap (λ n. get_or (A ++ x ∷ X) n d) (let same : p ≡ length A + 0 = omega (arith, place) in same)
        ∙ get_or-append-add A (x ∷ X) 0 d in
        let there : get_or H q d ≡ get_or (A ++ x ∷ X) (length A + suc (q - (length A + 1))) d =
        ap (λ (G : List ReleaseData). get_or G q d) whole ∙ ap (λ n. get_or (A ++ x ∷ X) n d) at in
        subst (λ y. NotBefore y (get_or H q d)) (sym here) (subst (NotBefore x) (sym there) (after_it A x X (q - (length A + 1)) d history few))

-- ---- a zone of an earlier place, and one of the last that changed no earlier

pub record IsNoEarlier (A : List ReleaseData) (x : ReleaseData) (X : List ReleaseData) (c : ContentData) : Type 0 where
  zone : ContentData
  there : among zone (end x X).contents ≡ true
  stamp : NotBefore (at_change (A ++ x ∷ []) x c) (at_change (A ++ x ∷ X) (end x X) zone)

module _ (A : List ReleaseData) (x : ReleaseData) (X : List ReleaseData) (h : IsHistory IsSound (A ++ x ∷ X)) (c : ContentData)
    (there : among c x.contents ≡ true) where
  at : zone_at x.contents c.tzid ≡ Some c
  at = among_at x.contents c (starts_distinct IsSound A x X h) there

  -- a zone that changed after the place
  changed_later : (d : ContentData) → among d (end x X).contents ≡ true → list_all (has_content d) (x ∷ X) ≡ false
      → last_change (A ++ x ∷ X) d ≤ length (A ++ x ∷ X) → IsNoEarlier A x X c
  changed_later d is some high =
      let own : list_all (has_content c) (x ∷ []) ≡ true = rw there refl in
      let k = stays A x [] c own in
      let p : ℕ = last_change (A ++ x ∷ []) c - 1 in
      let q : ℕ = last_change (A ++ x ∷ X) d - 1 in
      let later = changes A x X d some in
      let short : length (A ++ x ∷ []) ≡ length A + 1 = length-append A (x ∷ []) in
      let inside : last_change (A ++ x ∷ []) c - 1 < length (A ++ x ∷ []) = omega (arith, k.before, k.after, short) in
      let lt : last_change (A ++ x ∷ []) c - 1 < last_change (A ++ x ∷ X) d - 1 = omega (arith, k.before, k.after, later) in
      let within : last_change (A ++ x ∷ X) d - 1 < length (A ++ x ∷ X) = omega (arith, later, high) in
      let same : get_or (A ++ x ∷ []) p x ≡ get_or (A ++ x ∷ X) p (end x X) =
      get_or_default (A ++ x ∷ []) p x (end x X) inside ∙ sym (get_or_append_left (A ++ x ∷ []) X (end x X) p inside)
      ∙ ap (λ (H : List ReleaseData). get_or H p (end x X)) (append_assoc A (x ∷ []) X) in
      record {
        zone = d;
        there = is;
        stamp = subst (λ y. NotBefore y (get_or (A ++ x ∷ X) q (end x X))) (sym same) (rises (A ++ x ∷ X) p q (end x X) h lt within);
      }

  -- the same zone, as it was
  unchanged : list_all (has_content c) (x ∷ X) ≡ true → among c (end x X).contents ≡ true → IsNoEarlier A x X c
  unchanged all is = record {
    zone = c;
    there = is;
    stamp = subst (λ y. NotBefore (at_change (A ++ x ∷ []) x c) y) (same_release A x X c (stays A x X c all)) (itself (at_change (A ++ x ∷ []) x c).stamp);
  }

  of_zone_there : (d : ContentData) → IsZone (end x X).contents c.tzid d → last_change (A ++ x ∷ X) d ≤ length (A ++ x ∷ X) → IsNoEarlier A x X c
  of_zone_there d is high = elim (cases_Bool (list_all (has_content d) (x ∷ X))) [
    | inl all ↦
        let old : zone_at x.contents d.tzid ≡ Some d = stays_at IsSound A x X h d all in
        let found : zone_at x.contents c.tzid ≡ Some d = subst (λ t. zone_at x.contents t ≡ Some d) (sym is.is) old in
        let same : d ≡ c = (let both : Some d ≡ Some c = sym found ∙ at in cc) in
        unchanged (subst (λ (y : ContentData). list_all (has_content y) (x ∷ X) ≡ true) same all)
        (subst (λ (y : ContentData). among y (end x X).contents ≡ true) same is.there)
    | inr some ↦ changed_later d is.there some high
  ]

  never_alias : aliased x.contents c.tzid ≡ true → Role x.contents c.tzid → ⊥
  never_alias alias (a_zone z is) = let no = is.not_alias in cc
  never_alias alias (an_alias z is) = let no = is.at in let yes = at in cc
  never_alias alias (no_name is) = let no = is.at in let yes = at in cc

  of_alias_there : (d : ContentData) → IsAlias (end x X).contents c.tzid d → last_change (A ++ x ∷ X) d ≤ length (A ++ x ∷ X) → IsNoEarlier A x X c
  of_alias_there d is high = elim (cases_Bool (list_all (has_content d) (x ∷ X))) [
    | inl all ↦
        let alias : aliased x.contents c.tzid ≡ true = among_alias x.contents d c.tzid (head_true (has_content d) x X all) is.has in
        absurd (never_alias alias (role x.contents c.tzid (starts_distinct IsSound A x X h)))
    | inr some ↦ changed_later d is.there some high
  ]

  pub no_earlier : has_text (names_of x.contents) c.tzid ≡ true
      → ((d : ContentData) → among d (end x X).contents ≡ true → last_change (A ++ x ∷ X) d ≤ length (A ++ x ∷ X)) → IsNoEarlier A x X c
  no_earlier name high = by (role (end x X).contents c.tzid (ends_distinct IsSound A x X h))
    where
      by : Role (end x X).contents c.tzid → IsNoEarlier A x X c
      by (a_zone d is) = of_zone_there d is (high d is.there)
      by (an_alias d is) = of_alias_there d is (high d is.there)
      by (no_name is) = let yes = still_named IsSound A x X h c.tzid name in let no = is.not_name in absurd (cc)

-- ---- the stamps that two manifests state

contained : (cs : List ContentData) (c : ContentData) → among c cs ≡ true → Contains cs c
contained [] c is = absurd (cc)
contained (d ∷ cs) c is = by (contained cs c) (same_content c d) refl is
  where
    by : (among c cs ≡ true → Contains cs c) → (b : Bool) → same_content c d ≡ b → (b || among c cs) ≡ true → Contains (d ∷ cs) c
    by again true e k = subst (λ (y : ContentData). Contains (y ∷ cs) c) (same_is c d e) (member_first c cs)
    by again false e k = member_later d c cs (again k)

each_meant : (B R : List ReleaseData) → IsHistory IsSound (B ++ R) → AllByRecursion (λ (r : ReleaseData). LO ≤ℤ r.stamp) R
each_meant B [] h = tt
each_meant B (r ∷ rs) h =
    let meaning : HasMeaning r.stamp = (sound_lengths r (h B r rs refl).is_sound).stamp in
    (meaning.0, each_meant (B ++ r ∷ []) rs (subst (IsHistory IsSound) (sym (append_assoc B (r ∷ []) rs)) h))

abbrev top : List ListZone → ℤ
top zs = (manifest_with (newest zs) zs).stamp.seconds

module _ (A : List ReleaseData) (x : ReleaseData) (X : List ReleaseData) (h : IsHistory IsSound (A ++ x ∷ X)) where
  abbrev old : List ContentData → List ListZone
  old cs = entries (A ++ x ∷ []) x cs

  abbrev new : List ContentData → List ListZone
  new cs = entries (A ++ x ∷ X) (end x X) cs

  last_is_end : last_release (A ++ x ∷ X) ≡ Some (end x X)
  last_is_end = last_is A None x X

  high : (d : ContentData) → among d (end x X).contents ≡ true → last_change (A ++ x ∷ X) d ≤ length (A ++ x ∷ X)
  high d is = (change_within (A ++ x ∷ X) (end x X) d h last_is_end (contained (end x X).contents d is)).high

  meant : (cs : List ContentData) → AllByRecursion (λ c. among c (end x X).contents ≡ true) cs → LO ≤ℤ top (new cs)
  meant [] all = itself LO
  meant (c ∷ cs) all =
      let of = of_entry (new (c ∷ cs)) (omega arith) in
      let o = of_zone (A ++ x ∷ X) (end x X) (c ∷ cs) of.zone of.there in
      by of (o.zone) o.is (each_of (c ∷ cs) o.zone all o.there)
    where
      each_of : (cs : List ContentData) (d : ContentData) → AllByRecursion (λ c. among c (end x X).contents ≡ true) cs → Contains cs d
          → among d (end x X).contents ≡ true
      each_of cs d all there = at_member (λ (c : ContentData). among c (end x X).contents ≡ true) cs d all there

      by : (of : IsOfEntry (new (c ∷ cs)) (manifest_with (newest (new (c ∷ cs))) (new (c ∷ cs)))) (d : ContentData) → entry (A ++ x ∷ X) (end x X) d ≡ of.zone
          → among d (end x X).contents ≡ true → LO ≤ℤ top (new (c ∷ cs))
      by of d is there =
          let k = change_within (A ++ x ∷ X) (end x X) d h last_is_end (contained (end x X).contents d there) in
          let low : LO ≤ℤ (at_change (A ++ x ∷ X) (end x X) d).stamp =
          at_place (λ (r : ReleaseData). LO ≤ℤ r.stamp) (A ++ x ∷ X) (last_change (A ++ x ∷ X) d - 1) (end x X) (each_meant [] (A ++ x ∷ X) h)
          (omega (arith, k.low, k.high)) in
          let same : (at_change (A ++ x ∷ X) (end x X) d).stamp ≡ top (new (c ∷ cs)) = ap (λ (z : ListZone). z.stamp.seconds) is ∙ sym of.stamp in
          subst (λ (n : ℤ). LO ≤ℤ n) same low

  -- each entry of the earlier place is not later than the last manifest
  not_above : (c : ContentData) → Contains x.contents c → (entry (A ++ x ∷ []) x c).stamp.seconds ≤ℤ top (new (end x X).contents)
  not_above c there =
      let is = is_among x.contents c there in
      let d = no_earlier A x X h c is (zone_has_name x.contents c there) high in
      let inside : Contains (end x X).contents d.zone = contained (end x X).contents d.zone d.there in
      let its = its_entry (A ++ x ∷ X) (end x X) (end x X).contents d.zone inside in
      let of = of_entry (new (end x X).contents) (some_entry (new (end x X).contents) (entry (A ++ x ∷ X) (end x X) d.zone) its) in
      let le : (entry (A ++ x ∷ X) (end x X) d.zone).stamp.seconds ≤ℤ of.zone.stamp.seconds = of.latest (entry (A ++ x ∷ X) (end x X) d.zone) its in
      beyond (entry (A ++ x ∷ []) x c).stamp.seconds (entry (A ++ x ∷ X) (end x X) d.zone).stamp.seconds (top (new (end x X).contents)) d.stamp
      (subst (λ (n : ℤ). (entry (A ++ x ∷ X) (end x X) d.zone).stamp.seconds ≤ℤ n) (sym of.stamp) le)

  pub stamps_rise : top (old x.contents) ≤ℤ top (new (end x X).contents)
  stamps_rise = by x.contents refl
    where
      by : (cs : List ContentData) → x.contents ≡ cs → top (old cs) ≤ℤ top (new (end x X).contents)
      by [] is = meant (end x X).contents (each_among (end x X).contents)
      by (c ∷ cs) is =
          let of = of_entry (old (c ∷ cs)) (omega arith) in
          let o = of_zone (A ++ x ∷ []) x (c ∷ cs) of.zone of.there in
          let le = not_above o.zone (subst (λ ds. Contains ds o.zone) (sym is) o.there) in
          let same : (entry (A ++ x ∷ []) x o.zone).stamp.seconds ≡ top (old (c ∷ cs)) = ap (λ (z : ListZone). z.stamp.seconds) o.is ∙ sym of.stamp in
          subst (λ (n : ℤ). n ≤ℤ top (new (end x X).contents)) same le

  pub names_stay : AllByRecursion (λ name. has_text (names_of (end x X).contents) name ≡ true) (names_of x.contents)
  names_stay = weaker (λ name. has_text (names_of x.contents) name ≡ true) (λ name. has_text (names_of (end x X).contents) name ≡ true)
      (still_named IsSound A x X h) (names_of x.contents) (each_has (names_of x.contents))

-- ---- the law

not_back : (last : ReleaseData) (m : Moment) → last.stamp ≤ℤ m.seconds → stamp_fault (Some last) m ≡ None
not_back last m le =
    let no : int_lt m.seconds last.stamp ≡ false = by_lt_z m.seconds last.stamp (λ lt. absurd (grind (arith, ints))) (λ ge. grind (arith, ints)) in
    rw no refl

none_missing : (names new : List (List ℕ)) → AllByRecursion (λ name. has_text new name ≡ true) names
    → find (λ name. not (list_any (bytes_eq name) new)) names ≡ None
none_missing [] new all = refl
none_missing (name ∷ names) new all = rw all.0 (none_missing names new all.1)

not_dropped : (last : ReleaseData) (new : List (List ℕ)) → AllByRecursion (λ name. has_text new name ≡ true) (names_of last.contents)
    → drop_fault (Some last) new ≡ None
not_dropped last new all =
    ap (option_map fault.Drops)
    (none_missing (rising_by (λ name. name) (names_of last.contents)) new
    (each_sorted (λ (name : List ℕ). name) (λ (name : List ℕ). has_text new name ≡ true) (names_of last.contents) all))

names_are : (G : List ReleaseData) (last : ReleaseData) (cs : List ContentData) → names_in (map manifest_zone (entries G last cs)) ≡ names_of cs
names_are G last [] = refl
names_are G last (c ∷ cs) = ap (λ names. c.tzid ∷ c.aliases ++ names) (names_are G last cs)

zones_with : (o : Option ListZone) (zs : List ListZone) → (manifest_with o zs).zones ≡ map manifest_zone zs
zones_with None zs = refl
zones_with (Some z) zs = refl

taken_twice : {X : Type 0} (m n : ℕ) (xs : List X) → m ≤ n → take m (take n xs) ≡ take m xs
taken_twice zero n xs le = refl
taken_twice (suc m) zero xs le = absurd (omega (arith, le))
taken_twice (suc m) (suc n) [] le = refl
taken_twice (suc m) (suc n) (x ∷ xs) le = ap (λ ys. x ∷ ys) (taken_twice m n xs (omega (arith, le)))

pub record Fits (last : ReleaseData) (t : MirrorState) : Type 0 where
  pub stamp : stamp_fault (Some last) (manifest_of t).stamp ≡ None
  pub names : drop_fault (Some last) (names_in (manifest_of t).zones) ≡ None

module _ (P : Service) (G : List ReleaseData) (m n : ℕ) (s t : MirrorState) (last : ReleaseData) (history : IsHistory IsSound G) (low : 1 ≤ m) (le : m ≤ n)
    (within : n ≤ length G) (held : HoldsLast P s (take m G)) (holds : HoldsLast P t (take n G)) (served : IsServedAs s (take m G) last) where
  pub may_follow : Fits last t
  may_follow =
      let c = cut (take n G) m (low, omega (arith, le, within, length-take n G)) in
      by c.A c.x c.X c.whole (sym (taken_twice m n G le) ∙ c.front)
    where
      by : (A : List ReleaseData) (x : ReleaseData) (X : List ReleaseData) → take n G ≡ A ++ x ∷ X → take m G ≡ A ++ x ∷ [] → Fits last t
      by A x X whole front =
          let h : IsHistory IsSound (A ++ x ∷ X) = subst (IsHistory IsSound) whole (history_front IsSound G n history) in
          let before : s.entries ≡ entries (A ++ x ∷ []) x x.contents =
          held.entries ∙ ap list_told front ∙ entries_are (A ++ x ∷ []) x (last_is A None x []) in
          let after : t.entries ≡ entries (A ++ x ∷ X) (end x X) (end x X).contents =
          holds.entries ∙ ap list_told whole ∙ entries_are (A ++ x ∷ X) (end x X) (last_is A None x X) in
          let zones : last.contents ≡ x.contents = served.zones ∙ ap zones_of front ∙ zones_are A x [] in
          let stamp : last.stamp ≡ top (entries (A ++ x ∷ []) x x.contents) = served.stamp ∙ ap top before in
          let rise : last.stamp ≤ℤ (manifest_of t).stamp.seconds =
          subst (λ (a : ℤ). a ≤ℤ (manifest_of t).stamp.seconds) (sym stamp)
          (subst (λ (b : ℤ). top (entries (A ++ x ∷ []) x x.contents) ≤ℤ b) (sym (ap top after)) (stamps_rise A x X h)) in
          let names : names_in (manifest_of t).zones ≡ names_of (end x X).contents =
          ap names_in (zones_with (newest t.entries) t.entries) ∙ ap (λ zs. names_in (map manifest_zone zs)) after
          ∙ names_are (A ++ x ∷ X) (end x X) (end x X).contents in
          let all : AllByRecursion (λ name. has_text (names_in (manifest_of t).zones) name ≡ true) (names_of last.contents) =
          subst (λ (ns : List (List ℕ)). AllByRecursion (λ name. has_text ns name ≡ true) (names_of last.contents)) (sym names)
          (subst (λ (cs : List ContentData). AllByRecursion (λ name. has_text (names_of (end x X).contents) name ≡ true) (names_of cs)) (sym zones)
          (names_stay A x X h)) in
          record { stamp = not_back last (manifest_of t).stamp rise; names = not_dropped last (names_in (manifest_of t).zones) all }
