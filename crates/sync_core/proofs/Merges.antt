-- Two rising lists that are merged, an item at a time.
use Rattle.std.proofs.Common.{Less, Equal, Greater, ◌≡◌, ℕ, List, [], ◌∷◌, refl, sym, ap, ◌∙◌, map, subst, Option, None, Some, IsSome, MatchOption, ◌<◌, length}
use Rattle.std.proofs.Common.{drop, slice_index_or, arith}
use Rattle.std.specs.Ordering.{nat_cmp, is_lt}
use Rattle.std.specs.Cmp.Lexicographic.{slice_cmp}
use Rattle.catalogue.specs.Order.{IsRising}
use Rattle.json_forms.specs.declared.zone_list.ListZone.{ListZone}
use Rattle.sync_core.specs.Keeping.{order_of}
use Rattle.sync_core.specs.Mirrors.{entry_name}
use Rattle.sync_core.specs.Names.{put_all}
use Rattle.sync_core.proofs.lemmas.Puts.{Rising, before_all, put_by, front_stays}

module _ {X : Type 0} (text : X → List ℕ) where
  -- nothing is known
  pub none_known : (z : X) (zs : List X) → Rising text (z ∷ zs) → put_all text (z ∷ zs) [] ≡ z ∷ put_all text zs []
  none_known z zs r = front_stays text z zs [] r.0

  pub known_first : (x : X) (xs : List X) (z : X) (zs : List X) → Rising text (z ∷ zs) → slice_cmp nat_cmp (text x) (text z) ≡ Less
      → put_all text (z ∷ zs) (x ∷ xs) ≡ x ∷ put_all text (z ∷ zs) xs
  known_first x xs z zs r e = front_stays text x (z ∷ zs) xs (ap is_lt e, before_all (text x) (text z) (map text zs) (ap is_lt e) r.0)

  pub both : (x : X) (xs : List X) (z : X) (zs : List X) → Rising text (z ∷ zs) → slice_cmp nat_cmp (text x) (text z) ≡ Equal
      → put_all text (z ∷ zs) (x ∷ xs) ≡ z ∷ put_all text zs xs
  both x xs z zs r e = ap (put_all text zs) (put_by text z x xs Equal e) ∙ front_stays text z zs xs r.0

  pub listed_first : (x : X) (xs : List X) (z : X) (zs : List X) → Rising text (z ∷ zs) → slice_cmp nat_cmp (text x) (text z) ≡ Greater
      → put_all text (z ∷ zs) (x ∷ xs) ≡ z ∷ put_all text zs (x ∷ xs)
  listed_first x xs z zs r e = ap (put_all text zs) (put_by text z x xs Greater e) ∙ front_stays text z zs (x ∷ xs) r.0

-- ---- the zone that comes first

abbrev merge : List ListZone → List ListZone → List ListZone
merge listed known = put_all entry_name listed known

abbrev First : List ListZone → Option ListZone → List ListZone → Type 0
First whole taken rest = MatchOption taken (whole ≡ []) (λ z. whole ≡ z ∷ rest)

taken_first : (whole rest xs : List ListZone) (x : ListZone) (taken : Option ListZone) → whole ≡ x ∷ xs → taken ≡ Some x → rest ≡ xs → First whole taken rest
taken_first whole rest xs x taken is first others = subst (λ o. First whole o rest) (sym first) (is ∙ ap (λ l. x ∷ l) (sym others))

-- what is taken of a list that has a first item
abbrev Takes : List ListZone → Option ListZone → Type 0
Takes xs taken = (d : ListZone) → 0 < length xs → taken ≡ Some (slice_index_or xs 0 d)

pub takes_known : (known listed rest : List ListZone) (taken : Option ListZone) → IsRising (map entry_name listed) → order_of known listed ≡ Less
    → Takes known taken → rest ≡ drop 1 known → First (merge listed known) taken (merge listed rest)
takes_known [] listed rest taken r less takes is = absurd (cc)
takes_known (x ∷ xs) [] rest taken r less takes is = taken_first (x ∷ xs) rest xs x taken refl (takes x (omega arith)) is
takes_known (x ∷ xs) (z ∷ zs) rest taken r less takes is =
    taken_first (merge (z ∷ zs) (x ∷ xs)) (merge (z ∷ zs) rest) (merge (z ∷ zs) xs) x taken (known_first entry_name x xs z zs r less)
    (takes x (omega arith)) (ap (merge (z ∷ zs)) is)

pub takes_both : (known listed others rest : List ListZone) (taken : Option ListZone) → IsRising (map entry_name listed) → order_of known listed ≡ Equal
    → Takes listed taken → others ≡ drop 1 known → rest ≡ drop 1 listed → First (merge listed known) taken (merge rest others)
takes_both [] listed others rest taken r equal takes past is = absurd (cc)
takes_both (x ∷ xs) [] others rest taken r equal takes past is = absurd (cc)
takes_both (x ∷ xs) (z ∷ zs) others rest taken r equal takes past is =
    taken_first (merge (z ∷ zs) (x ∷ xs)) (merge rest others) (merge zs xs) z taken (both entry_name x xs z zs r equal) (takes z (omega arith))
    (ap (λ l. merge l others) is ∙ ap (merge zs) past)

pub takes_listed : (known listed rest : List ListZone) (taken : Option ListZone) → IsRising (map entry_name listed) → order_of known listed ≡ Greater
    → Takes listed taken → (IsSome taken → 0 < length listed) → rest ≡ drop 1 listed → First (merge listed known) taken (merge rest known)
takes_listed [] [] rest (Some z) r greater takes some is = let wrong : 0 < 0 = some refl in absurd (omega arith)
takes_listed [] [] rest None r greater takes some is = refl
takes_listed (x ∷ xs) [] rest taken r greater takes some is = absurd (cc)
takes_listed [] (z ∷ zs) rest taken r greater takes some is =
    taken_first (merge (z ∷ zs) []) (merge rest []) (merge zs []) z taken (none_known entry_name z zs r) (takes z (omega arith)) (ap (λ l. merge l []) is)
takes_listed (x ∷ xs) (z ∷ zs) rest taken r greater takes some is =
    taken_first (merge (z ∷ zs) (x ∷ xs)) (merge rest (x ∷ xs)) (merge zs (x ∷ xs)) z taken (listed_first entry_name x xs z zs r greater)
    (takes z (omega arith)) (ap (λ l. merge l (x ∷ xs)) is)
