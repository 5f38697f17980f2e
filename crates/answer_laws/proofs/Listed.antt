-- An answer with a list shows the zones that changed.
use Rattle.std.proofs.Common.{◌≡◌, ◌⊎◌, ℕ, zero, suc, ◌+◌, ◌-◌, ◌<◌, ◌≤◌, List, [], ◌∷◌, length, take, map, get_or, Bool, true, false, cond, ◌||◌, Option, None, Some, inl, inr, refl, sym, ap, subst, ◌∙◌, arith}
use Rattle.std.specs.Prelude.{filter, nat_lt}
use Rattle.std.specs.List.{Contains, find, list_any, range_with_len, slice_get, suffix_len}
use Rattle.std.specs.Cmp.Lexicographic.{pointwise_decides}
use Rattle.std.specs.Str.{bytes_eq}
use Rattle.std.proofs.lemmas.Bool.{cases_lt}
use Rattle.std.proofs.lemmas.Bool.Decides.{nat_tests}
use Rattle.std.proofs.lemmas.Cmp.{nat_list_eq_equiv}
use Rattle.std.proofs.lemmas.List.Sums.{suffix_len-take_no, suffix_len-take_yes}
use Rattle.std.proofs.lemmas.Option.{get_or_from_slice_get, slice_get-get_or}
use Rattle.std.proofs.lemmas.Slice.Eq.{bytes_eq-Decides}
use Rattle.serde_json.specs.Read.{read}
use Rattle.td_base.specs.declared.report.Role.{Role}
use Rattle.catalogue.specs.Histories.{EntryData, entries_of, entry_of, has_content, last_change, last_release, meta, retired, token_of}
use Rattle.catalogue.specs.Lookups.{contents_of, delta, place_of, zones_of}
use Rattle.catalogue.specs.Releases.{ContentData, ReleaseData, same_content}
use Rattle.catalogue.proofs.lemmas.SameZones.{same_is}
use Rattle.http_answer.specs.declared.answer.Answer.{Answer}
use Rattle.http_request.specs.declared.head.Head.{Head}
use Rattle.json_forms.specs.ListDocument.{list_data, list_document}
use Rattle.json_forms.specs.declared.problem_type.Problem.TheVariants as problem
use Rattle.json_forms.specs.declared.zone_list.ListZone.{ListZone}
use Rattle.target.specs.Actions.{asks}
use Rattle.target.specs.declared.asked_types.Asked.{Asked}
use Rattle.target.specs.declared.asked_types.Asked.TheVariants as ask
use Rattle.target.specs.declared.asked_types.Param.{Param}
use Rattle.target.specs.declared.asked_types.Param.TheVariants as param
use Rattle.zone_meaning.proofs.lemmas.Members.{member_first, member_later, member_cases, no_member}
use Rattle.actions.specs.Action.{action, answer_for}
use Rattle.actions.specs.Listing.{change_list, changes_since, list_answer, list_body, list_zone}
use Rattle.answer_laws.specs.Lists.{IsKeptFrom, IsListOf, IsShownAs, IsSince, IsUnchanged}
use Rattle.answer_laws.proofs.Got.{no_success}

-- ---- members of lists that are made of others

mapped : {A B : Type 0} (f : A → B) (xs : List A) (x : A) → Contains xs x → Contains (map f xs) (f x)
mapped f [] x there = absurd (no_member x there)
mapped f (y ∷ ys) x there =
    elim (member_cases y x ys there) [
      | inl same ↦ subst (λ z. Contains (f y ∷ map f ys) (f z)) same (member_first (f y) (map f ys))
      | inr later ↦ member_later (f y) (f x) (map f ys) (mapped f ys x later)
    ]

record IsMapped {A B : Type 0} (f : A → B) (xs : List A) (y : B) : Type 0 where
  item : A
  there : Contains xs item
  is : f item ≡ y

of_mapped : {A B : Type 0} (f : A → B) (xs : List A) (y : B) → Contains (map f xs) y → IsMapped f xs y
of_mapped f [] y there = absurd (no_member y there)
of_mapped f (x ∷ xs) y there =
    elim (member_cases (f x) y (map f xs) there) [
      | inl same ↦ record { item = x; there = member_first x xs; is = same }
      | inr later ↦ let rest = of_mapped f xs y later in record { item = rest.item; there = member_later x rest.item xs rest.there; is = rest.is }
    ]

kept_member : {A : Type 0} (p : A → Bool) (xs : List A) (x : A) → Contains xs x → p x ≡ true → Contains (filter p xs) x
kept_member p [] x there passes = absurd (no_member x there)
kept_member p (y ∷ ys) x there passes =
    elim (member_cases y x ys there) as (λ h. Contains (cond (p y) (y ∷ filter p ys) (filter p ys)) x) [
      | inl same ↦ let here : p y ≡ true = ap p same ∙ passes in rw here (subst (λ z. Contains (y ∷ filter p ys) z) same (member_first y (filter p ys)))
      | inr later ↦ more (p y) y (filter p ys) x (kept_member p ys x later passes)
    ]
  where
    more : {A : Type 0} (b : Bool) (y : A) (zs : List A) (x : A) → Contains zs x → Contains (cond b (y ∷ zs) zs) x
    more true y zs x there = member_later y x zs there
    more false y zs x there = there

of_kept : {A : Type 0} (p : A → Bool) (xs : List A) (x : A) → Contains (filter p xs) x → Contains xs x × (p x ≡ true)
of_kept p [] x there = absurd (no_member x there)
of_kept p (y ∷ ys) x there = by (of_kept p ys x) (p y) refl there
  where
    by : (Contains (filter p ys) x → Contains ys x × (p x ≡ true)) → (b : Bool) → p y ≡ b → Contains (cond b (y ∷ filter p ys) (filter p ys)) x
        → Contains (y ∷ ys) x × (p x ≡ true)
    by again true passes there =
        elim (member_cases y x (filter p ys) there) [
          | inl same ↦ (subst (λ z. Contains (y ∷ ys) z) same (member_first y ys), ap p (sym same) ∙ passes)
          | inr later ↦ let rest = again later in (member_later y x ys rest.0, rest.1)
        ]
    by again false passes there = let rest = again there in (member_later y x ys rest.0, rest.1)

-- ---- contents of a release

same_itself : (c : ContentData) → same_content c c ≡ true
same_itself c = rw (nat_list_eq_equiv.refl c.tzid, nat_list_eq_equiv.refl c.file, (pointwise_decides bytes_eq-Decides c.aliases c.aliases).1 refl) refl

either : (a b : Bool) → (a || b) ≡ true → (a ≡ true) ⊎ (b ≡ true)
either true b h = inl refl
either false b h = inr h

right_or : (a b : Bool) → b ≡ true → (a || b) ≡ true
right_or true b h = refl
right_or false b h = h

has_member : (c : ContentData) (cs : List ContentData) → list_any (same_content c) cs ≡ true → Contains cs c
has_member c [] h = absurd cc
has_member c (d ∷ ds) h =
    elim (either (same_content c d) (list_any (same_content c) ds) h) [
      | inl same ↦ subst (λ (x : ContentData). Contains (d ∷ ds) x) (sym (same_is c d same)) (member_first d ds)
      | inr later ↦ member_later d c ds (has_member c ds later)
    ]

member_has : (c : ContentData) (cs : List ContentData) → Contains cs c → list_any (same_content c) cs ≡ true
member_has c [] there = absurd (no_member c there)
member_has c (d ∷ ds) there =
    elim (member_cases d c ds there) [
      | inl same ↦
          let here : same_content c d ≡ true = subst (λ (x : ContentData). same_content c x ≡ true) (sym same) (same_itself c) in
          rw here refl
      | inr later ↦ right_or (same_content c d) (list_any (same_content c) ds) (member_has c ds later)
    ]

-- ---- how many of the last items pass a test

record IsLastRun {A : Type 0} (p : A → Bool) (xs : List A) (n : ℕ) : Type 0 where
  few : suffix_len p (take n xs) ≤ n
  pass : (k : ℕ) (d : A) → n ≤ k + suffix_len p (take n xs) → k < n → p (get_or xs k d) ≡ true
  fails : (k : ℕ) (d : A) → k + 1 + suffix_len p (take n xs) ≡ n → p (get_or xs k d) ≡ false

same_item : {A : Type 0} (xs : List A) (n : ℕ) (e d : A) → n < length xs → get_or xs n e ≡ get_or xs n d
same_item xs n e d lt =
    let one : Some (get_or xs n e) ≡ Some (get_or xs n d) = sym (slice_get-get_or xs n e lt) ∙ slice_get-get_or xs n d lt in
    cc

run_on : {A : Type 0} (p : A → Bool) (xs : List A) (e : A) (n : ℕ) (b : Bool) → suc n ≤ length xs → IsLastRun p xs n → p (get_or xs n e) ≡ b → IsLastRun p xs (suc n)
run_on p xs e n true le before passes =
    let back : suc n - 1 ≡ n = omega arith in
    let here : p (get_or xs (suc n - 1) e) ≡ true = ap (λ i. p (get_or xs i e)) back ∙ passes in
    let more : suffix_len p (take (suc n) xs) ≡ 1 + suffix_len p (take n xs) =
    suffix_len-take_yes p xs (suc n) e (omega arith) le here ∙ ap (λ i. 1 + suffix_len p (take i xs)) back in
    let few = before.few in
    record {
      few = omega arith;
      pass = λ k d from lt. elim (cases_lt k n) [
        | inl earlier ↦ before.pass k d (omega (arith, more)) earlier
        | inr last ↦ let is : k ≡ n = omega arith in ap (λ i. p (get_or xs i d)) is ∙ ap p (sym (same_item xs n e d (omega arith))) ∙ passes
      ];
      fails = λ k d is. before.fails k d (omega (arith, more));
    }
run_on p xs e n false le before stops =
    let back : suc n - 1 ≡ n = omega arith in
    let here : p (get_or xs (suc n - 1) e) ≡ false = ap (λ i. p (get_or xs i e)) back ∙ stops in
    let none : suffix_len p (take (suc n) xs) ≡ 0 = suffix_len-take_no p xs (suc n) e (omega arith) le here in
    record {
      few = omega arith;
      pass = λ k d from lt. absurd (omega (arith, none));
      fails = λ k d is. let last : k ≡ n = omega (arith, none) in ap (λ i. p (get_or xs i d)) last ∙ ap p (sym (same_item xs n e d (omega arith))) ∙ stops;
    }

run : {A : Type 0} (p : A → Bool) (xs : List A) (e : A) (n : ℕ) → n ≤ length xs → IsLastRun p xs n
run p xs e zero le = record {
  few = omega arith;
  pass = λ k d from before. absurd (omega arith);
  fails = λ k d is. absurd (omega arith);
}
run p xs e (suc n) le = run_on p xs e n (p (get_or xs n e)) le (run p xs e n (omega arith)) refl

take_all : {A : Type 0} (xs : List A) → take (length xs) xs ≡ xs
take_all [] = refl
take_all (x ∷ xs) = ap (λ ys. x ∷ ys) (take_all xs)

-- ---- since which place a content is there

changed_is : (H : List ReleaseData) (c : ContentData) → last_change H c ≡ length H - suffix_len (has_content c) H + 1
unfolding last_change
changed_is H c = refl

module _ (H : List ReleaseData) (e : ReleaseData) (c : ContentData) (n : ℕ) (first : 1 ≤ n) (inside : n ≤ length H) where
  last_run : IsLastRun (has_content c) H (length H)
  last_run = run (has_content c) H e (length H) (omega arith)

  whole : suffix_len (has_content c) (take (length H) H) ≡ suffix_len (has_content c) H
  whole = ap (suffix_len (has_content c)) (take_all H)

  unchanged : last_change H c ≤ n → IsKeptFrom H n c
  unchanged le k r from there =
      let lt : k < length H = within k r there in
      let is = changed_is H c in
      let passes : has_content c (get_or H k r) ≡ true = last_run.pass k r (omega (arith, whole)) lt in
      has_member c r.contents (ap (has_content c) (sym (get_or_from_slice_get H k r r there)) ∙ passes)
    where
      within : (k : ℕ) (r : ReleaseData) → slice_get H k ≡ Some r → k < length H
      within k r there = inside_of H k r there
        where
          inside_of : (xs : List ReleaseData) (k : ℕ) (r : ReleaseData) → slice_get xs k ≡ Some r → k < length xs
          inside_of [] k r there = absurd cc
          inside_of (x ∷ xs) zero r there = omega arith
          inside_of (x ∷ xs) (suc k) r there = let rest = inside_of xs k r there in omega arith

  changed : n < last_change H c → IsKeptFrom H n c → ⊥
  changed lt kept =
      let is = changed_is H c in
      let few = last_run.few in
      let k : ℕ = length H - suffix_len (has_content c) H - 1 in
      let low : k < length H = omega (arith, whole) in
      let there = slice_get-get_or H k e low in
      let has = member_has c (get_or H k e).contents (kept k (get_or H k e) (omega (arith, whole)) there) in
      let fails : has_content c (get_or H k e) ≡ false = last_run.fails k e (omega (arith, whole)) in
      let both : true ≡ false = sym has ∙ fails in
      absurd cc

-- ---- the entries of the last release

record IsEntry (H : List ReleaseData) (e : EntryData) : Type 0 where
  last : ReleaseData
  there : Contains (zones_of H) e.content
  is : e ≡ entry_of H last e.content

entry_in : (H : List ReleaseData) (o : Option ReleaseData) (e : EntryData) → contents_of o ≡ zones_of H → Contains (entries_of H o) e → IsEntry H e
entry_in H None e same there = absurd (no_member e there)
entry_in H (Some last) e same there =
    let found = of_mapped (entry_of H last) last.contents e there in
    let content : found.item ≡ e.content = ap (λ (x : EntryData). x.content) found.is in
    record {
      last = last;
      there = subst (λ (cs : List ContentData). Contains cs e.content) same (subst (λ (x : ContentData). Contains last.contents x) content found.there);
      is = sym found.is ∙ ap (entry_of H last) content;
    }

entry_there : (H : List ReleaseData) (o : Option ReleaseData) (c : ContentData) → Contains (contents_of o) c
    → (last : ReleaseData) × (o ≡ Some last) × Contains (entries_of H o) (entry_of H last c)
entry_there H None c there = absurd (no_member c there)
entry_there H (Some last) c there = (last, refl, mapped (entry_of H last) last.contents c there)

entry_of_meta : (H : List ReleaseData) (e : EntryData) → Contains (meta H) e → IsEntry H e
unfolding meta
entry_of_meta H e there = entry_in H (last_release H) e refl there

meta_there : (H : List ReleaseData) (c : ContentData) → Contains (zones_of H) c → (last : ReleaseData) × Contains (meta H) (entry_of H last c)
unfolding meta
meta_there H c there = let found = entry_there H (last_release H) c there in (found.0, found.2)

shown_as : (H : List ReleaseData) (last : ReleaseData) (c : ContentData) → IsShownAs c (list_zone (entry_of H last c))
shown_as H last c = record { tzid = refl; aliases = refl; tag = refl }

-- ---- which entries are shown

-- a test of entries that says which content changed
record Shows (H : List ReleaseData) (place : Option ℕ) (shows : EntryData → Bool) : Type 0 where
  shown : (last : ReleaseData) (c : ContentData) → shows (entry_of H last c) ≡ true → IsUnchanged H place c → ⊥
  hidden : (last : ReleaseData) (c : ContentData) → shows (entry_of H last c) ≡ false → IsUnchanged H place c

abbrev ReadsLists : Type 0
ReadsLists = (token : List ℕ) (zones : List ListZone) → read (list_document token zones) ≡ Some (list_data token zones)

listed : ReadsLists → (H : List ReleaseData) (since : Param) (place : Option ℕ) (shows : EntryData → Bool) (a : Answer) → IsSince H since place
    → Shows H place shows → a.body ≡ list_document (token_of H (length H)) (map list_zone (filter shows (meta H))) → IsListOf H since a
listed reads H since place shows a is by body = record {
  zones = map list_zone (filter shows (meta H));
  reads = ap read body ∙ reads (token_of H (length H)) (map list_zone (filter shows (meta H)));
  place = place;
  since_is = is;
  each = λ z there.
      let found = of_mapped list_zone (filter shows (meta H)) z there in
      let kept = of_kept shows (meta H) found.item found.there in
      let entry = entry_of_meta H found.item kept.0 in
      let c = found.item.content in
      let shown_entry : shows (entry_of H entry.last c) ≡ true = ap shows (sym entry.is) ∙ kept.1 in
      let same : list_zone (entry_of H entry.last c) ≡ z = ap list_zone (sym entry.is) ∙ found.is in
      (c, entry.there, subst (IsShownAs c) same (shown_as H entry.last c), by.shown entry.last c shown_entry);
  all = λ c there.
      let found = meta_there H c there in
      let e = entry_of H found.0 c in
      elim (shows e) as (λ b. shows e ≡ b → IsUnchanged H place c ⊎ ((z : ListZone) × Contains (map list_zone (filter shows (meta H))) z × IsShownAs c z)) [
        | true ↦ λ passes. inr (list_zone e, mapped list_zone (filter shows (meta H)) e (kept_member shows (meta H) e found.1 passes), shown_as H found.0 c)
        | false ↦ λ stops. inl (by.hidden found.0 c stops)
      ] refl;
}

all_shown : (H : List ReleaseData) → Shows H None (λ _. true)
all_shown H = record { shown = λ last c passes none. none; hidden = λ last c stops. absurd (let both : true ≡ false = stops in cc) }

less : (a b : ℕ) → nat_lt a b ≡ true → a < b
less a b h = grind (arith, nat_tests)

not_less : (a b : ℕ) → nat_lt a b ≡ false → b ≤ a
not_less a b h = grind (arith, nat_tests)

changed_shown : (H : List ReleaseData) (n : ℕ) → 1 ≤ n → n ≤ length H → Shows H (Some n) (λ e. nat_lt n e.changed)
changed_shown H n first inside = record {
  shown = λ last c passes. changed H last c n first inside (less n (last_change H c) passes);
  hidden = λ last c stops. unchanged H last c n first inside (not_less n (last_change H c) stops);
}

-- ---- the place of a token

record IsPlaceIn (H : List ReleaseData) (text : List ℕ) (low high n : ℕ) : Type 0 where
  from : low ≤ n
  to : n < high
  token : token_of H n ≡ text

found_in : (H : List ReleaseData) (text : List ℕ) (count a n : ℕ) → find (λ k. bytes_eq (token_of H k) text) (range_with_len a count) ≡ Some n
    → IsPlaceIn H text a (a + count) n
found_in H text zero a n e = absurd cc
found_in H text (suc count) a n e = by (found_in H text count (a + 1) n) (bytes_eq (token_of H a) text) refl e
  where
    by : (find (λ k. bytes_eq (token_of H k) text) (range_with_len (a + 1) count) ≡ Some n → IsPlaceIn H text (a + 1) (a + 1 + count) n) → (b : Bool)
        → bytes_eq (token_of H a) text ≡ b → cond b (Some a) (find (λ k. bytes_eq (token_of H k) text) (range_with_len (a + 1) count)) ≡ Some n
        → IsPlaceIn H text a (a + suc count) n
    by again true is e =
        let same : a ≡ n = cc in
        record { from = omega arith; to = omega arith; token = ap (token_of H) (sym same) ∙ (bytes_eq-Decides (token_of H a) text).0 is }
    by again false is e =
        let rest = again e in
        let low = rest.from in
        let high = rest.to in
        record { from = omega arith; to = omega arith; token = rest.token }

place_since : (H : List ReleaseData) (token : List ℕ) (n : ℕ) → place_of H token ≡ Some n → IsSince H (param.Once token) (Some n)
unfolding place_of
place_since H token n e =
    let found = found_in H token (length H - retired (length H)) (retired (length H) + 1) n e in
    let low = found.from in
    let high = found.to in
    (omega arith, omega arith, found.token)

-- ---- the answer

body_all : (H : List ReleaseData) → list_body H (λ _. true) ≡ list_document (token_of H (length H)) (map list_zone (filter (λ _. true) (meta H)))
unfolding list_body
body_all H = refl

body_changed : (H : List ReleaseData) (n : ℕ) → change_list H n ≡ list_document (token_of H (length H)) (map list_zone (filter (λ e. nat_lt n e.changed) (meta H)))
unfolding change_list delta
body_changed H n = refl

told_since : ReadsLists → (H : List ReleaseData) (token : List ℕ) (o : Option ℕ) → place_of H token ≡ o → (changes_since H o).status ≡ 200
    → IsListOf H (param.Once token) (changes_since H o)
told_since reads H token None is status = absurd (no_success problem.InvalidChangedsince status)
told_since reads H token (Some n) is status =
    let since = place_since H token n is in
    listed reads H (param.Once token) (Some n) (λ e. nat_lt n e.changed) (changes_since H (Some n)) since (changed_shown H n since.0 since.1) (body_changed H n)

told : ReadsLists → (H : List ReleaseData) (since : Param) → (list_answer H since).status ≡ 200 → IsListOf H since (list_answer H since)
unfolding list_answer
told reads H param.Absent status = listed reads H param.Absent None (λ _. true) _ tt (all_shown H) (body_all H)
told reads H (param.Once token) status = told_since reads H token (place_of H token) refl status
told reads H param.Repeated status = absurd (no_success problem.InvalidChangedsince status)

told_for : ReadsLists → (H : List ReleaseData) (role : Role) (head : Head) (since : Param) (asked : Asked) → asked ≡ ask.List since
    → (answer_for H role head asked).status ≡ 200 → IsListOf H since (answer_for H role head asked)
told_for reads H role head since asked e status =
    let P : Asked → Type 0 = λ x. (answer_for H role head x).status ≡ 200 → IsListOf H since (answer_for H role head x) in
    subst P (sym e) (told reads H since) status

pub tells_the_list : ReadsLists → (H : List ReleaseData) (role : Role) (head : Head) (since : Param) → asks head.target ≡ ask.List since
    → (action H role head).status ≡ 200 → IsListOf H since (action H role head)
unfolding action
tells_the_list reads H role head since e status = told_for reads H role head since (asks head.target) e status
