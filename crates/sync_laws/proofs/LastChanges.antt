-- The entries of a release that is held have the labels of the releases in which their zones last
-- changed.
use Rattle.std.proofs.Common.{◌≡◌, suc, inl, inr, ◌-◌, ◌<◌, ◌≤◌, true, Option, None, Some, List}
use Rattle.std.proofs.Common.{[], ◌∷◌, ◌++◌, length, map, get_or, refl, sym, ap, ◌∙◌, subst, arith, length-append}
use Rattle.std.specs.Prelude.{◌≤ℤ◌}
use Rattle.std.specs.List.{AllByRecursion, Contains, list_all, slice_get}
use Rattle.std.proofs.lemmas.Option.{get_or_from_slice_get, slice_get-get_or}
use Rattle.catalogue.specs.Histories.{IsHistory, entries_of, entry_of, has_content, last_change, last_release, meta}
use Rattle.catalogue.specs.Lookups.{contents_of, zones_of}
use Rattle.catalogue.specs.Releases.{ContentData, ReleaseData}
use Rattle.catalogue.proofs.lemmas.LastRelease.{last_of}
use Rattle.zone_meaning.specs.Sound.{IsSound}
use Rattle.zone_meaning.proofs.lemmas.Members.{member_first, member_later, member_cases, no_member}
use Rattle.json_forms.specs.declared.zone_list.ListZone.{ListZone}
use Rattle.actions.specs.Listing.{list_zone}
use Rattle.sync_core.specs.Mirrors.{MirrorState}
use Rattle.sync_core.specs.Published.{manifest_of, manifest_with, newest}
use Rattle.sync_world.specs.Holding.{HoldsLast}
use Rattle.sync_world.specs.Primaries.{Service, list_told}
use Rattle.sync_world.proofs.Changes.{stays}
use Rattle.sync_world.proofs.Zones.{among, more_there, same_itself}
use Rattle.sync_laws.specs.LastChange.{StatesLastChange}
use Rattle.sync_laws.proofs.Latest.{IsOfEntry, of_entry}

-- ---- members

pub record IsMapped {A B : Type 0} (f : A → B) (xs : List A) (y : B) : Type 0 where
  pub item : A
  pub there : Contains xs item
  pub is : f item ≡ y

pub of_mapped : {A B : Type 0} (f : A → B) (xs : List A) (y : B) → Contains (map f xs) y → IsMapped f xs y
of_mapped f [] y there = absurd (no_member y there)
of_mapped f (x ∷ xs) y there =
    elim (member_cases (f x) y (map f xs) there) [
      | inl same ↦ record { item = x; there = member_first x xs; is = same }
      | inr later ↦ let rest = of_mapped f xs y later in record { item = rest.item; there = member_later x rest.item xs rest.there; is = rest.is }
    ]

pub to_mapped : {A B : Type 0} (f : A → B) (xs : List A) (x : A) → Contains xs x → Contains (map f xs) (f x)
to_mapped f [] x there = absurd (no_member x there)
to_mapped f (y ∷ ys) x there =
    elim (member_cases y x ys there) [
      | inl same ↦ subst (λ z. Contains (f y ∷ map f ys) (f z)) same (member_first (f y) (map f ys))
      | inr later ↦ member_later (f y) (f x) (map f ys) (to_mapped f ys x later)
    ]

pub is_among : (cs : List ContentData) (c : ContentData) → Contains cs c → among c cs ≡ true
is_among [] c there = absurd (no_member c there)
is_among (d ∷ cs) c there =
    elim (member_cases d c cs there) [
      | inl same ↦ subst (λ (x : ContentData). among x (d ∷ cs) ≡ true) same (rw (same_itself d) refl)
      | inr later ↦ more_there c d cs (is_among cs c later)
    ]

more_among : (d : ContentData) (cs xs : List ContentData) → AllByRecursion (λ c. among c cs ≡ true) xs → AllByRecursion (λ c. among c (d ∷ cs) ≡ true) xs
more_among d cs [] all = tt
more_among d cs (x ∷ xs) all = (more_there x d cs all.0, more_among d cs xs all.1)

pub each_among : (cs : List ContentData) → AllByRecursion (λ c. among c cs ≡ true) cs
each_among [] = tt
each_among (c ∷ cs) = (rw (same_itself c) refl, more_among c cs cs (each_among cs))

-- ---- the entries

abbrev pub entry : List ReleaseData → ReleaseData → ContentData → ListZone
entry G last c = list_zone (entry_of G last c)

abbrev pub entries : List ReleaseData → ReleaseData → List ContentData → List ListZone
entries G last cs = map list_zone (map (entry_of G last) cs)

pub entries_are : (G : List ReleaseData) (last : ReleaseData) → last_release G ≡ Some last → list_told G ≡ entries G last last.contents
unfolding list_told meta
entries_are G last e = ap (λ o. map list_zone (entries_of G o)) e

pub as_many : (G : List ReleaseData) (last : ReleaseData) (cs : List ContentData) → length (entries G last cs) ≡ length cs
as_many G last [] = refl
as_many G last (c ∷ cs) = ap suc (as_many G last cs)

pub record IsEntryOf (G : List ReleaseData) (last : ReleaseData) (cs : List ContentData) (z : ListZone) : Type 0 where
  pub zone : ContentData
  pub there : Contains cs zone
  pub is : entry G last zone ≡ z

pub of_zone : (G : List ReleaseData) (last : ReleaseData) (cs : List ContentData) (z : ListZone) → Contains (entries G last cs) z → IsEntryOf G last cs z
of_zone G last cs z there =
    let outer = of_mapped list_zone (map (entry_of G last) cs) z there in
    let inner = of_mapped (entry_of G last) cs outer.item outer.there in
    record { zone = inner.item; there = inner.there; is = ap list_zone inner.is ∙ outer.is }

pub its_entry : (G : List ReleaseData) (last : ReleaseData) (cs : List ContentData) (c : ContentData) → Contains cs c
    → Contains (entries G last cs) (entry G last c)
its_entry G last cs c there = to_mapped list_zone (map (entry_of G last) cs) (entry_of G last c) (to_mapped (entry_of G last) cs c there)

-- ---- the release of the last change

pub record IsWithin (G : List ReleaseData) (c : ContentData) : Type 0 where
  pub low : 1 ≤ last_change G c
  pub high : last_change G c ≤ length G

within : (G before : List ReleaseData) (last : ReleaseData) (c : ContentData) → G ≡ before ++ last ∷ [] → among c last.contents ≡ true → IsWithin G c
within G before last c is there =
    let all : list_all (has_content c) (last ∷ []) ≡ true = rw there refl in
    let k = stays before last [] c all in
    let long = length-append before (last ∷ []) in
    subst (λ (H : List ReleaseData). IsWithin H c) (sym is) (record { low = k.after; high = omega (arith, k.before, long) })

pub change_within : (G : List ReleaseData) (last : ReleaseData) (c : ContentData) → IsHistory IsSound G → last_release G ≡ Some last
    → Contains last.contents c → IsWithin G c
change_within G last c history e there =
    let k = last_of IsSound G last history e in within G k.before last c k.is (is_among last.contents c there)

pub changed_in : (G : List ReleaseData) (last : ReleaseData) (c : ContentData) → IsWithin G c
    → slice_get G (last_change G c - 1) ≡ Some (get_or G (last_change G c - 1) last)
changed_in G last c k = slice_get-get_or G (last_change G c - 1) last (omega (arith, k.low, k.high))

-- ---- the law

module _ (P : Service) (G : List ReleaseData) (s : MirrorState) (history : IsHistory IsSound G) (holds : HoldsLast P s G) where
  by_entry : (last : ReleaseData) → last_release G ≡ Some last → IsOfEntry (entries G last last.contents) (manifest_of s) → StatesLastChange G (manifest_of s)
  by_entry last e of =
      let zones : zones_of G ≡ last.contents = ap contents_of e in
      let o = of_zone G last last.contents of.zone of.there in
      let k = change_within G last o.zone history e o.there in
      let release = get_or G (last_change G o.zone - 1) last in
      record {
        zone = o.zone;
        release = release;
        changed = record { zone = subst (λ cs. Contains cs o.zone) (sym zones) o.there; release = changed_in G last o.zone k };
        stamp = of.stamp ∙ sym (ap (λ (z : ListZone). z.stamp.seconds) o.is);
        publisher = of.publisher ∙ sym (ap (λ (z : ListZone). z.publisher) o.is);
        version = of.version ∙ sym (ap (λ (z : ListZone). z.version) o.is);
        latest = λ c r changed.
            let there : Contains last.contents c = subst (λ cs. Contains cs c) zones changed.zone in
            let is : get_or G (last_change G c - 1) last ≡ r = get_or_from_slice_get G (last_change G c - 1) r last changed.release in
            let le : (entry G last c).stamp.seconds ≤ℤ of.zone.stamp.seconds = of.latest (entry G last c) (its_entry G last last.contents c there) in
            subst (λ (x : ReleaseData). x.stamp ≤ℤ release.stamp) is
            (subst (λ (z : ListZone). (entry G last c).stamp.seconds ≤ℤ z.stamp.seconds) (sym o.is) le);
      }

  pub states_last_change : 0 < length (zones_of G) → StatesLastChange G (manifest_of s)
  states_last_change some = by (last_release G) refl
    where
      by : (o : Option ReleaseData) → last_release G ≡ o → StatesLastChange G (manifest_of s)
      by None e = let none = ap (λ o. length (contents_of o)) e in absurd (omega (arith, some, none))
      by (Some last) e =
          let told : s.entries ≡ entries G last last.contents = holds.entries ∙ entries_are G last e in
          let count : length (zones_of G) ≡ length last.contents = ap (λ o. length (contents_of o)) e in
          let fits : 0 < length (entries G last last.contents) = omega (arith, some, count, as_many G last last.contents) in
          by_entry last e
          (subst (λ zs. IsOfEntry (entries G last last.contents) (manifest_with (newest zs) zs)) (sym told)
          (of_entry (entries G last last.contents) fits))
