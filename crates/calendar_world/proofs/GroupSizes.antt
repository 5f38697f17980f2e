-- How long the parts of a zone's changes are together: each change adds a part or a date.
use Rattle.std.proofs.Common.{◌≡◌, ℕ, zero, suc, ◌+◌, ◌*◌, ◌≤◌, List, [], ◌∷◌, ◌++◌, length, sym, subst, arith, ℤ, pos, ◌+ℤ◌}
use Rattle.std.proofs.Common.{append-nil, append_assoc, length-append}
use Rattle.std.specs.List.{AllByRecursion, flat_map}
use Rattle.std.proofs.lemmas.Bool.{cond_both}
use Rattle.td_civil.specs.declared.local_time.Local.{Local}
use Rattle.td_civil.specs.declared.local_time.Observance.{Observance}
use Rattle.recurrence.specs.declared.part_types.Part.{Part}
use Rattle.zone_meaning.specs.Observed.{change_at, changes_after, changes_between, first_at, is_change, observed}
use Rattle.vtimezone.specs.CalendarText.{part_lines}
use Rattle.vtimezone.specs.Gathering.{is_of, parts_joined, part_alone, with_date}
use Rattle.vtimezone.specs.Grouping.{first_ones, grouped}
use Rattle.vtimezone.proofs.lemmas.Gathered.{grouped_push}
use Rattle.calendar_world.proofs.LineSizes.{cost, cost_both}
use Rattle.calendar_world.proofs.PartSizes.{IsShortPart, part_cost, part_size}

abbrev pub parts_cost : List Part → ℕ
parts_cost [] = 0
parts_cost (p ∷ ps) = part_cost p + parts_cost ps

pub costs_both : (xs ys : List Part) → parts_cost (xs ++ ys) ≡ parts_cost xs + parts_cost ys
costs_both [] ys = omega arith
costs_both (x ∷ xs) ys = let rest = costs_both xs ys in omega (arith, rest)

pub parts_size : (ps : List Part) → AllByRecursion IsShortPart ps → cost (flat_map part_lines ps) ≤ parts_cost ps
parts_size [] h = omega arith
parts_size (p ∷ ps) h =
    let one = part_size p h.0 in
    let rest = parts_size ps h.1 in
    omega (arith, one, rest, cost_both (part_lines p) (flat_map part_lines ps))

-- ---- one more change

abbrev pub IsNamedShort : Part → Type 0
IsNamedShort p = length p.name ≤ 32

abbrev IsToldShort : Observance → Type 0
IsToldShort o = length o.name ≤ 32

pub record AreFew (ps : List Part) (most : ℕ) : Type 0 where
  pub size : parts_cost ps ≤ most
  pub names : AllByRecursion IsNamedShort ps

pub fewer : (ps : List Part) (n m : ℕ) → n ≤ m → AreFew ps n → AreFew ps m
fewer ps n m le k = let size : parts_cost ps ≤ n = k.size in record { size = omega (arith, size, le); names = k.names }

-- it joins a part, as a date, or is a part of its own
join_few : (ps : List Part) (o : Observance) (most : ℕ) → IsToldShort o → AreFew ps most → AreFew (parts_joined ps o) (most + 10_978)
unfolding parts_joined part_alone with_date
join_few [] o most short k = record { size = omega arith; names = (short, tt) }
join_few (p ∷ ps) o most short k =
    let size : part_cost p + parts_cost ps ≤ most = k.size in
    cond_both (is_of p o) (with_date p o.onset ∷ ps) (p ∷ parts_joined ps o) (λ (qs : List Part). AreFew qs (most + 10_978))
    (λ same. record { size = omega (arith, size, length-append p.dates (o.onset ∷ [])); names = (k.names.0, k.names.1) })
    (λ other.
    let rest = join_few ps o (parts_cost ps) short (record { size = omega arith; names = k.names.1 }) in
    let more : parts_cost (parts_joined ps o) ≤ parts_cost ps + 10_978 = rest.size in
    record { size = omega (arith, size, more); names = (k.names.0, rest.names) })

groups_few : (before os : List Observance) (most : ℕ) → AllByRecursion IsToldShort os → AreFew (grouped before) most
    → AreFew (grouped (before ++ os)) (most + 10_978 * length os)
groups_few before [] most short k =
    let P : List Observance → Type 0 = λ xs. AreFew (grouped xs) (most + 10_978 * 0) in
    subst P (sym (append-nil before)) (fewer (grouped before) most (most + 10_978 * 0) (omega arith) k)
groups_few before (o ∷ os) most short k =
    let P : List Part → Type 0 = λ ps. AreFew ps (most + 10_978) in
    let next = subst P (sym (grouped_push before o)) (join_few (grouped before) o most short.0 k) in
    let all = groups_few (before ++ o ∷ []) os (most + 10_978) short.1 next in
    let Q : List Observance → Type 0 = λ xs. AreFew (grouped xs) (most + 10_978 * length (o ∷ os)) in
    subst Q (append_assoc before (o ∷ []) os)
    (fewer (grouped ((before ++ o ∷ []) ++ os)) (most + 10_978 + 10_978 * length os) (most + 10_978 * length (o ∷ os)) (omega arith) all)

-- ---- the changes of a state whose names are short

changes_short : (state : ℤ → Local) → ((t : ℤ) → length (state t).name ≤ 32) → (n : ℕ) (t : ℤ) → AllByRecursion IsToldShort (changes_after state t n)
unfolding changes_after change_at
changes_short state short zero t = tt
changes_short state short (suc n) t =
    let rest = changes_short state short n (t +ℤ pos 1) in
    cond_both (is_change state (t +ℤ pos 1)) (change_at state (t +ℤ pos 1) ∷ changes_after state (t +ℤ pos 1) n) (changes_after state (t +ℤ pos 1) n)
    (λ (os : List Observance). AllByRecursion IsToldShort os) (λ changes. (short (t +ℤ pos 1), rest)) (λ stays. rest)

pub few_parts : (state : ℤ → Local) (a b : ℤ) → ((t : ℤ) → length (state t).name ≤ 32)
    → AreFew (grouped (observed state a b)) (10_978 * length (observed state a b))
unfolding observed first_at changes_between grouped first_ones
few_parts state a b short =
    let os = observed state a b in
    let few = groups_few [] os 0 (short a, changes_short state short _ a) (record { size = omega arith; names = tt }) in
    fewer (grouped os) (0 + 10_978 * length os) (10_978 * length os) (omega arith) few
