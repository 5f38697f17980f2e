-- One more change joins the parts of those before it.
use Rattle.std.proofs.Common.{◌≡◌, inl, inr, Bool, true, false, true≢false, not, ◌||◌, refl, sym, subst, ap, ap₂, ◌∙◌, None, List, [], ◌∷◌, ◌++◌}
use Rattle.std.proofs.Common.{if◌then◌else◌, filter, drop, map, cond, append_assoc, append-nil}
use Rattle.std.specs.List.{Contains, list_any}
use Rattle.std.proofs.lemmas.Bool.{cond-true, cond-false}
use Rattle.std.proofs.lemmas.List.{map-append}
use Rattle.std.proofs.lemmas.List.Elements.{filter-append}
use Rattle.td_civil.specs.declared.moment_type.Moment.{Moment}
use Rattle.td_civil.specs.declared.local_time.Observance.{Observance}
use Rattle.zone_meaning.proofs.lemmas.Members.{member_first, member_later, member_cases, no_member}
use Rattle.recurrence.specs.declared.part_types.Part.{Part}
use Rattle.vtimezone.specs.Grouping.{is_alike, first_ones, part_among, grouped}
use Rattle.vtimezone.specs.Gathering.{is_of, part_alone, with_date, parts_joined}
use Rattle.vtimezone.proofs.Alike.{alike_is, alike_of, alike_on, is_itself, unlike_back, unlike_on, no_other, kept_member, first_there}
use Rattle.vtimezone.proofs.Alike.{first_leads, first_of}

-- ---- one more change at the end of a list

first_or_not : (b c : Bool) (x o : Observance) (f : Observance → Bool) (ys : List Observance) → f o ≡ not b
    → x ∷ filter f (if c then ys else ys ++ o ∷ []) ≡ (if b || c then x ∷ filter f ys else (x ∷ filter f ys) ++ o ∷ [])
first_or_not true true x o f ys e = refl
first_or_not false true x o f ys e = refl
first_or_not true false x o f ys e =
    ap (λ l. x ∷ l) (filter-append f ys (o ∷ []) ∙ ap (λ b. filter f ys ++ (if b then o ∷ [] else [])) e ∙ append-nil (filter f ys))
first_or_not false false x o f ys e = ap (λ l. x ∷ l) (filter-append f ys (o ∷ []) ∙ ap (λ b. filter f ys ++ (if b then o ∷ [] else [])) e)

-- it joins those alike it, or begins a set
pub first_ones-push : (os : List Observance) (o : Observance)
    → first_ones (os ++ o ∷ []) ≡ (if list_any (λ p. is_alike p o) os then first_ones os else first_ones os ++ o ∷ [])
unfolding first_ones
first_ones-push [] o = refl
first_ones-push (x ∷ xs) o =
    ap (λ l. x ∷ filter (λ p. not (is_alike x p)) l) (first_ones-push xs o)
    ∙ first_or_not (is_alike x o) (list_any (λ p. is_alike p o) xs) x o (λ p. not (is_alike x p)) (first_ones xs) refl

neither : (a b : Bool) → (a || b) ≡ false → (a ≡ false) × (b ≡ false)
neither true b e = absurd (true≢false e)
neither false b e = (refl, e)

none_alike : (os : List Observance) (o : Observance) → list_any (λ p. is_alike p o) os ≡ false → (x : Observance) → Contains os x → is_alike x o ≡ false
none_alike [] o h x there = absurd (no_member x there)
none_alike (y ∷ ys) o h x there =
    let both = neither (is_alike y o) (list_any (λ p. is_alike p o) ys) h in
    elim (member_cases y x ys there) [
      | inl is ↦ let P : Observance → Type 0 = λ z. is_alike z o ≡ false in subst P is both.0
      | inr later ↦ none_alike ys o both.1 x later
    ]

some_alike : (os : List Observance) (o : Observance) → list_any (λ p. is_alike p o) os ≡ true → (x : Observance) × (Contains os x × (is_alike x o ≡ true))
some_alike [] o h = absurd (true≢false (sym h))
some_alike (y ∷ ys) o h =
    let Found : Type 0 = (x : Observance) × (Contains (y ∷ ys) x × (is_alike x o ≡ true)) in
    elim (is_alike y o) as (λ b. is_alike y o ≡ b → (b || list_any (λ p. is_alike p o) ys) ≡ true → Found) [
      | true ↦ λ alike e. (y, (member_first y ys, alike))
      | false ↦ λ unlike e. let found = some_alike ys o e in (found.0, (member_later y found.0 ys found.1.0, found.1.1))
    ] refl h

-- ---- what becomes of a part

none_kept : (os : List Observance) (o : Observance) → ((x : Observance) → Contains os x → is_alike x o ≡ false) → filter (is_alike o) os ≡ []
none_kept [] o h = refl
none_kept (x ∷ xs) o h =
    cond-false (is_alike o x) (x ∷ filter (is_alike o) xs) (filter (is_alike o) xs) (unlike_back x o (h x (member_first x xs)))
    ∙ none_kept xs o (λ y there. h y (member_later x y xs there))

kept_more : (os : List Observance) (f o : Observance) (b : Bool) → is_alike f o ≡ b
    → filter (is_alike f) (os ++ o ∷ []) ≡ filter (is_alike f) os ++ (if b then o ∷ [] else [])
kept_more os f o b e = filter-append (is_alike f) os (o ∷ []) ∙ ap (λ c. filter (is_alike f) os ++ (if c then o ∷ [] else [])) e

abbrev part_by : Observance → List Moment → Part
part_by f dates =
    record { dst = f.dst; start = f.onset; from = f.from; to = f.to; name = f.name; rule = None; until = None; dates = dates }

-- a part that the change does not join stays
same_part : (os : List Observance) (f o : Observance) → is_alike f o ≡ false → part_among (os ++ o ∷ []) f ≡ part_among os f
same_part os f o unlike =
    ap (λ (l : List Observance). part_by f (drop 1 (map (λ (p : Observance). p.onset) l))) (kept_more os f o false unlike ∙ append-nil (filter (is_alike f) os))

dates_more : (f o : Observance) (l rest : List Observance) → l ≡ f ∷ rest
    → drop 1 (map (λ (p : Observance). p.onset) (l ++ o ∷ [])) ≡ drop 1 (map (λ (p : Observance). p.onset) l) ++ o.onset ∷ []
dates_more f o l rest is =
    let P : List Observance → Type 0 =
    λ (k : List Observance). drop 1 (map (λ (p : Observance). p.onset) (k ++ o ∷ [])) ≡ drop 1 (map (λ (p : Observance). p.onset) k) ++ o.onset ∷ [] in
    subst P (sym is) (map-append (λ (p : Observance). p.onset) rest (o ∷ []))

-- one that it joins has one more date
more_part : (os : List Observance) (f o : Observance) → Contains (first_ones os) f → is_alike f o ≡ true
    → part_among (os ++ o ∷ []) f ≡ with_date (part_among os f) o.onset
unfolding with_date
more_part os f o there alike =
    let kept = filter (is_alike f) os in
    ap (λ (l : List Observance). part_by f (drop 1 (map (λ (p : Observance). p.onset) l))) (kept_more os f o true alike)
    ∙ ap (part_by f) (dates_more f o kept (drop 1 kept) (first_leads os f there))

alone_part : (os : List Observance) (o : Observance) → ((x : Observance) → Contains os x → is_alike x o ≡ false)
    → part_among (os ++ o ∷ []) o ≡ part_alone o
unfolding part_alone
alone_part os o none =
    ap (λ (l : List Observance). part_by o (drop 1 (map (λ (p : Observance). p.onset) l)))
    (kept_more os o o true (alike_of o o (is_itself o o refl)) ∙ ap (λ l. l ++ o ∷ []) (none_kept os o none))

-- the test of a part is that of its first change
test_of : (os : List Observance) (f o : Observance) (b : Bool) → is_alike f o ≡ b → is_of (part_among os f) o ≡ b
unfolding is_of
test_of os f o b e = e

-- ---- the parts of first ones that are apart

abbrev AreApart : List Observance → Type 0
AreApart [] = Unit {0}
AreApart (f ∷ fs) = ((g : Observance) → Contains fs g → is_alike f g ≡ false) × AreApart fs

none_joined : (os fs : List Observance) (o : Observance) → ((x : Observance) → Contains os x → is_alike x o ≡ false)
    → ((f : Observance) → Contains fs f → is_alike f o ≡ false)
    → map (part_among (os ++ o ∷ [])) (fs ++ o ∷ []) ≡ parts_joined (map (part_among os) fs) o
unfolding parts_joined
none_joined os [] o none each = ap (λ p. p ∷ []) (alone_part os o none)
none_joined os (f ∷ fs) o none each =
    let unlike = each f (member_first f fs) in
    ap₂ (λ p ps. p ∷ ps) (same_part os f o unlike) (none_joined os fs o none (λ g there. each g (member_later f g fs there)))
    ∙ sym (cond-false (is_of (part_among os f) o) (with_date (part_among os f) o.onset ∷ map (part_among os) fs)
    (part_among os f ∷ parts_joined (map (part_among os) fs) o) (test_of os f o false unlike))

all_stay : (os fs : List Observance) (o : Observance) → ((f : Observance) → Contains fs f → is_alike f o ≡ false)
    → map (part_among (os ++ o ∷ [])) fs ≡ map (part_among os) fs
all_stay os [] o each = refl
all_stay os (f ∷ fs) o each =
    ap₂ (λ p ps. p ∷ ps) (same_part os f o (each f (member_first f fs))) (all_stay os fs o (λ g there. each g (member_later f g fs there)))

one_joined : (os fs : List Observance) (o x : Observance) → AreApart fs → ((f : Observance) → Contains fs f → Contains (first_ones os) f)
    → Contains fs x → is_alike x o ≡ true
    → map (part_among (os ++ o ∷ [])) fs ≡ parts_joined (map (part_among os) fs) o
unfolding parts_joined
one_joined os [] o x apart first there same = absurd (no_member x there)
one_joined os (f ∷ fs) o x apart first there same =
    let p = part_among os f in
    let ps = map (part_among os) fs in
    let Says : Type 0 = map (part_among (os ++ o ∷ [])) (f ∷ fs) ≡ parts_joined (p ∷ ps) o in
    elim (is_alike f o) as (λ b. is_alike f o ≡ b → Says) [
      | true ↦ λ alike.
          ap₂ (λ q qs. q ∷ qs) (more_part os f o (first f (member_first f fs)) alike)
          (all_stay os fs o (λ g later. unlike_on f g o (alike_is f o alike) (apart.0 g later)))
          ∙ sym (cond-true (is_of p o) (with_date p o.onset ∷ ps) (p ∷ parts_joined ps o) (test_of os f o true alike))
      | false ↦ λ unlike.
          let later : Contains fs x = elim (member_cases f x fs there) [
            | inl is ↦
                let P : Observance → Type 0 = λ z. is_alike z o ≡ false in
                absurd (true≢false (sym same ∙ subst P is unlike))
            | inr rest ↦ rest
          ] in
          ap₂ (λ q qs. q ∷ qs) (same_part os f o unlike)
          (one_joined os fs o x apart.1 (λ g inside. first g (member_later f g fs inside)) later same)
          ∙ sym (cond-false (is_of p o) (with_date p o.onset ∷ ps) (p ∷ parts_joined ps o) (test_of os f o false unlike))
    ] refl

-- ---- first ones are apart

apart_kept : (p : Observance → Bool) (xs : List Observance) → AreApart xs → AreApart (filter p xs)
apart_kept p [] h = tt
apart_kept p (x ∷ xs) h =
    elim (p x) as (λ b. AreApart (cond b (x ∷ filter p xs) (filter p xs))) [
      | true ↦ ((λ g there. h.0 g ((kept_member p xs g there).0)), apart_kept p xs h.1)
      | false ↦ apart_kept p xs h.1
    ]

first_apart : (os : List Observance) → AreApart (first_ones os)
unfolding first_ones
first_apart [] = tt
first_apart (o ∷ os) =
    let keeps : Observance → Bool = λ p. not (is_alike o p) in
    ((λ g there. no_other (is_alike o g) ((kept_member keeps (first_ones os) g there).1)), apart_kept keeps (first_ones os) (first_apart os))

-- the parts of a list with one more change
pub grouped_push : (os : List Observance) (o : Observance) → grouped (os ++ o ∷ []) ≡ parts_joined (grouped os) o
unfolding grouped
grouped_push os o =
    let firsts = first_ones os in
    let parts = map (part_among (os ++ o ∷ [])) in
    let any = list_any (λ p. is_alike p o) os in
    ap parts (first_ones-push os o)
    ∙ elim any as (λ b. list_any (λ p. is_alike p o) os ≡ b
    → parts (if b then firsts else firsts ++ o ∷ []) ≡ parts_joined (map (part_among os) firsts) o) [
      | true ↦ λ some.
          let found = some_alike os o some in
          let first = first_of os found.0 found.1.0 in
          one_joined os firsts o first.0 (first_apart os) (λ f there. there) first.1.0
          (alike_of first.0 o (alike_on first.0 found.0 o first.1.1 (alike_is found.0 o found.1.1)))
      | false ↦ λ none.
          let each = none_alike os o none in
          none_joined os firsts o each (λ f there. each f (first_there os f there))
    ] refl

-- some of all changes are gathered in the parts, and the rest is left
pub record AreGathered (all : List Observance) (parts : List Part) (rest : List Observance) : Type 0 where
  pub seen : List Observance
  pub whole : seen ++ rest ≡ all
  pub parts_are : parts ≡ grouped seen

pub gathered_none : (all : List Observance) → AreGathered all [] all
unfolding grouped first_ones
gathered_none all = record { seen = []; whole = refl; parts_are = refl }

pub gathered_more : (all : List Observance) (parts more : List Part) (o : Observance) (rest : List Observance) → AreGathered all parts (o ∷ rest)
    → more ≡ parts_joined parts o → AreGathered all more rest
gathered_more all parts more o rest h is = record {
  seen = h.seen ++ o ∷ [];
  whole = append_assoc h.seen (o ∷ []) rest ∙ h.whole;
  parts_are = is ∙ ap (λ ps. parts_joined ps o) h.parts_are ∙ sym (grouped_push h.seen o);
}

pub gathered_all : (all : List Observance) (parts : List Part) → AreGathered all parts [] → parts ≡ grouped all
gathered_all all parts h = h.parts_are ∙ ap grouped (sym (append-nil h.seen) ∙ h.whole)

pub gathered_begin : (all rest : List Observance) (parts : List Part) → parts ≡ [] → rest ≡ all → AreGathered all parts rest
gathered_begin all rest parts none is =
    let P : List Part → Type 0 = λ ps. AreGathered all ps rest in
    let Q : List Observance → Type 0 = λ os. AreGathered all [] os in
    subst P (sym none) (subst Q (sym is) (gathered_none all))

pub gathered_next : (all rest left : List Observance) (parts more : List Part) (o : Observance) → AreGathered all parts rest → rest ≡ o ∷ left
    → more ≡ parts_joined parts o → AreGathered all more left
gathered_next all rest left parts more o h is joins =
    let P : List Observance → Type 0 = λ os. AreGathered all parts os in
    gathered_more all parts more o left (subst P is h) joins
