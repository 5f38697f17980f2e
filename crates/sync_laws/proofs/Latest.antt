-- The newest of the entries that a mirror knows, and the stamp of its manifest.
use Rattle.std.proofs.Common.{◌≡◌, inl, inr, ◌<◌, ℤ, Bool, true, false, ◌&&◌, cond}
use Rattle.std.proofs.Common.{Option, None, Some, List, [], ◌∷◌, length, find, refl, subst, arith, int_le}
use Rattle.std.specs.Prelude.{◌≤ℤ◌}
use Rattle.std.specs.List.{Contains, list_all}
use Rattle.std.proofs.lemmas.Int.{by_lt_z, ints}
use Rattle.json_forms.specs.declared.zone_list.ListZone.{ListZone}
use Rattle.release_manifest.specs.declared.manifest_type.Manifest.{Manifest}
use Rattle.zone_meaning.proofs.lemmas.Members.{member_first, member_later, member_cases, no_member}
use Rattle.sync_core.specs.Published.{is_latest, manifest_with, newest}

-- ---- what is found in a list

pub record IsFound {X : Type 0} (p : X → Bool) (xs : List X) (x : X) : Type 0 where
  pub there : Contains xs x
  pub passes : p x ≡ true

pub found : {X : Type 0} (p : X → Bool) (xs : List X) (x : X) → find p xs ≡ Some x → IsFound p xs x
found p [] x e = absurd (cc)
found p (y ∷ ys) x e = by (found p ys x) (p y) refl e
  where
    by : (find p ys ≡ Some x → IsFound p ys x) → (b : Bool) → p y ≡ b → cond b (Some y) (find p ys) ≡ Some x → IsFound p (y ∷ ys) x
    by again true is k =
        let same : y ≡ x = cc in
        record { there = subst (λ z. Contains (y ∷ ys) z) same (member_first y ys); passes = subst (λ z. p z ≡ true) same is }
    by again false is k = let rest = again k in record { there = member_later y x ys rest.there; passes = rest.passes }

pub never_none : {X : Type 0} (p : X → Bool) (xs : List X) (x : X) → Contains xs x → p x ≡ true → find p xs ≡ None → ⊥
never_none p [] x there is e = no_member x there
never_none p (y ∷ ys) x there is e = by (λ later k. never_none p ys x later is k) (p y) refl e
  where
    by : (Contains ys x → find p ys ≡ None → ⊥) → (b : Bool) → p y ≡ b → cond b (Some y) (find p ys) ≡ None → ⊥
    by again true at k = absurd (cc)
    by again false at k =
        elim (member_cases y x ys there) as (λ s. ⊥) [
          | inl same ↦ let no : p x ≡ false = subst (λ z. p z ≡ false) same at in cc
          | inr later ↦ again later k
        ]

pub all_at : {X : Type 0} (p : X → Bool) (xs : List X) (x : X) → list_all p xs ≡ true → Contains xs x → p x ≡ true
all_at p [] x all there = absurd (no_member x there)
all_at p (y ∷ ys) x all there = by (λ k later. all_at p ys x k later) (p y) refl all
  where
    by : (list_all p ys ≡ true → Contains ys x → p x ≡ true) → (b : Bool) → p y ≡ b → (b && list_all p ys) ≡ true → p x ≡ true
    by again true is k =
        elim (member_cases y x ys there) as (λ s. p x ≡ true) [
          | inl same ↦ subst (λ z. p z ≡ true) same is
          | inr later ↦ again k later
        ]
    by again false is k = absurd (cc)

-- ---- the latest of some entries

abbrev pub stamp : ListZone → ℤ
stamp z = z.stamp.seconds

to_le : (x y : ℤ) → int_le x y ≡ true → x ≤ℤ y
to_le x y h = grind (arith, ints)

itself : (a : ℤ) → int_le a a ≡ true
itself a = by_lt_z a a (λ lt. absurd (grind (arith, ints))) (λ le. grind (arith, ints))

beyond : (a b c : ℤ) → int_le a b ≡ true → int_le b c ≡ true → int_le a c ≡ true
beyond a b c h k = by_lt_z c a (λ lt. absurd (grind (arith, ints))) (λ le. grind (arith, ints))

other : (a b : ℤ) → int_le a b ≡ false → int_le b a ≡ true
other a b h = by_lt_z a b (λ lt. absurd (grind (arith, ints))) (λ le. grind (arith, ints))

abbrev none_after : ℤ → List ListZone → Bool
none_after a zs = list_all (λ y. int_le (stamp y) a) zs

all_beyond : (a b : ℤ) (zs : List ListZone) → int_le a b ≡ true → none_after a zs ≡ true → none_after b zs ≡ true
all_beyond a b [] le all = refl
all_beyond a b (z ∷ zs) le all = by (all_beyond a b zs le) (int_le (stamp z) a) refl all
  where
    by : (none_after a zs ≡ true → none_after b zs ≡ true) → (t : Bool) → int_le (stamp z) a ≡ t → (t && none_after a zs) ≡ true
        → (int_le (stamp z) b && none_after b zs) ≡ true
    by again true is k = rw (beyond (stamp z) a b is le) (again k)
    by again false is k = absurd (cc)

record HasLatest (zs : List ListZone) : Type 0 where
  zone : ListZone
  there : Contains zs zone
  latest : is_latest zs zone ≡ true

latest_of : (z : ListZone) (zs : List ListZone) → HasLatest (z ∷ zs)
latest_of z [] = record { zone = z; there = member_first z []; latest = rw (itself (stamp z)) refl }
latest_of z (y ∷ ys) = by (latest_of y ys)
  where
    choose : (l : HasLatest (y ∷ ys)) → (t : Bool) → int_le (stamp z) (stamp l.zone) ≡ t → HasLatest (z ∷ y ∷ ys)
    choose l true is = record { zone = l.zone; there = member_later z l.zone (y ∷ ys) l.there; latest = rw is l.latest }
    choose l false is = record {
      zone = z;
      there = member_first z (y ∷ ys);
      latest = rw (itself (stamp z)) (all_beyond (stamp l.zone) (stamp z) (y ∷ ys) (other (stamp z) (stamp l.zone) is) l.latest);
    }

    by : HasLatest (y ∷ ys) → HasLatest (z ∷ y ∷ ys)
    by l = choose l (int_le (stamp z) (stamp l.zone)) refl

-- ---- the labels of a manifest

-- they are those of an entry, and no entry has a later stamp
pub record IsOfEntry (zs : List ListZone) (m : Manifest) : Type 0 where
  pub zone : ListZone
  pub there : Contains zs zone
  pub stamp : m.stamp.seconds ≡ zone.stamp.seconds
  pub publisher : m.publisher ≡ zone.publisher
  pub version : m.version ≡ zone.version
  pub latest : (y : ListZone) → Contains zs y → y.stamp.seconds ≤ℤ zone.stamp.seconds

pub of_entry : (zs : List ListZone) → 0 < length zs → IsOfEntry zs (manifest_with (newest zs) zs)
of_entry [] some = absurd (omega (arith, some))
of_entry (z ∷ zs) some = by (newest (z ∷ zs)) refl
  where
    by : (o : Option ListZone) → newest (z ∷ zs) ≡ o → IsOfEntry (z ∷ zs) (manifest_with o (z ∷ zs))
    by None e =
        let l = latest_of z zs in
        absurd (never_none (is_latest (z ∷ zs)) (z ∷ zs) l.zone l.there l.latest e)
    by (Some y) e =
        let f = found (is_latest (z ∷ zs)) (z ∷ zs) y e in
        record {
          zone = y;
          there = f.there;
          stamp = refl;
          publisher = refl;
          version = refl;
          latest = λ x there. to_le (stamp x) (stamp y) (all_at (λ (x : ListZone). int_le (stamp x) (stamp y)) (z ∷ zs) x f.passes there);
        }
