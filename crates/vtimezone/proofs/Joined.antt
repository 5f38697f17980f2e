-- The part that a change joins is found by its place.
use Rattle.std.proofs.Common.{◌≡◌, ℕ, zero, suc, ◌+◌, ◌<◌, ◌≤◌, true, false, refl, sym, ap, ◌∙◌, arith, None, Some, List, [], ◌∷◌, ◌++◌, length, get_or, cond}
use Rattle.std.proofs.Math.ListN.{set}
use Rattle.td_civil.specs.declared.moment_type.Moment.{Moment}
use Rattle.td_civil.specs.declared.local_time.Observance.{Observance}
use Rattle.recurrence.specs.declared.part_types.Part.{Part}
use Rattle.vtimezone.specs.Gathering.{is_of, place_from, part_alone, with_date, parts_joined}

some_is : (a b : ℕ) → Some a ≡ Some b → a ≡ b
some_is a b e = cc

-- a place is counted on from the number
place_low : (ps : List Part) (o : Observance) (at k : ℕ) → place_from at ps o ≡ Some k → at ≤ k
place_low [] o at k e = absurd (cc)
place_low (p ∷ ps) o at k e = elim (is_of p o) as (λ b. cond b (Some at) (place_from (at + 1) ps o) ≡ Some k → at ≤ k) [
  | true ↦ λ here. let is = some_is at k here in omega arith
  | false ↦ λ later. let low = place_low ps o (at + 1) k later in omega arith
] e

pub joined_there : (ps : List Part) (o : Observance) (at i : ℕ) (p new : Part) → place_from at ps o ≡ Some (at + i) → get_or ps i p ≡ p → i < length ps
    → new ≡ with_date p o.onset → parts_joined ps o ≡ set ps i new
unfolding parts_joined
joined_there [] o at i p new e is lt made = absurd (omega arith)
joined_there (q ∷ qs) o at zero p new e is lt made =
    elim (is_of q o) as (λ b. cond b (Some at) (place_from (at + 1) qs o) ≡ Some (at + 0) → cond b (with_date q o.onset ∷ qs) (q ∷ parts_joined qs o) ≡ new ∷ qs) [
      | true ↦ λ here. ap (λ r. r ∷ qs) (ap (λ r. with_date r o.onset) is ∙ sym made)
      | false ↦ λ later. let low = place_low qs o (at + 1) (at + 0) later in absurd (omega arith)
    ] e
joined_there (q ∷ qs) o at (suc i) p new e is lt made =
    elim (is_of q o) as (λ b. cond b (Some at) (place_from (at + 1) qs o) ≡ Some (at + suc i)
    → cond b (with_date q o.onset ∷ qs) (q ∷ parts_joined qs o) ≡ q ∷ set qs i new) [
      | true ↦ λ here. let same = some_is at (at + suc i) here in absurd (omega arith)
      | false ↦ λ later. ap (λ l. q ∷ l) (joined_there qs o (at + 1) i p new (later ∙ ap Some (next at i)) is (omega arith) made)
    ] e
  where
    next : (a j : ℕ) → a + suc j ≡ (a + 1) + j
    next a j = omega arith

pub joined_nowhere : (ps : List Part) (o : Observance) (at : ℕ) → place_from at ps o ≡ None → parts_joined ps o ≡ ps ++ part_alone o ∷ []
unfolding parts_joined
joined_nowhere [] o at e = refl
joined_nowhere (q ∷ qs) o at e =
    elim (is_of q o) as (λ b. cond b (Some at) (place_from (at + 1) qs o) ≡ None
    → cond b (with_date q o.onset ∷ qs) (q ∷ parts_joined qs o) ≡ q ∷ (qs ++ part_alone o ∷ [])) [
      | true ↦ λ here. absurd (cc)
      | false ↦ λ later. ap (λ l. q ∷ l) (joined_nowhere qs o (at + 1) later)
    ] e

more : (i : ℕ) → i ≡ 0 + i
more i = omega arith

pub joined_by : (ps : List Part) (o : Observance) (i : ℕ) (p : Part) (dates : List Moment) → Some i ≡ place_from 0 ps o → get_or ps i p ≡ p → i < length ps
    → dates ≡ p.dates ++ o.onset ∷ []
    → set ps i (record { dst = p.dst; start = p.start; from = p.from; to = p.to; name = p.name; rule = p.rule; until = p.until; dates = dates })
    ≡ parts_joined ps o
unfolding with_date
joined_by ps o i p dates e is lt same =
    let new : List Moment → Part =
    λ (ds : List Moment). record { dst = p.dst; start = p.start; from = p.from; to = p.to; name = p.name; rule = p.rule; until = p.until; dates = ds } in
    sym (joined_there ps o 0 i p (new dates) (sym e ∙ ap Some (more i)) is lt (ap new same))
