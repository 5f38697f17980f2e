-- The zone that a name finds.
use Rattle.std.proofs.Common.{◌≡◌, ℕ, zero, suc, ◌+◌, ◌≤◌, List, [], ◌∷◌, map, Bool, true, false, ◌||◌, Option, None, Some, Result, Ok, Err, IfOk, cond, refl}
use Rattle.std.proofs.Common.{ap, sym, subst, ◌∙◌, arith, ◌⊎◌, inl, inr}
use Rattle.std.proofs.lemmas.Slice.Eq.{bytes_eq-Decides}
use Rattle.std.specs.List.{AllByRecursion, list_any, position_from, slice_get}
use Rattle.std.specs.Str.{bytes_eq}
use Rattle.td_base.specs.Names.{IsPlain}
use Rattle.td_base.specs.declared.no_memory.NoMemory.{NoMemory}
use Rattle.catalogue.specs.Histories.{EntryData, IsHistory, entries_of, entry_of, last_release, meta}
use Rattle.catalogue.specs.Lookups.{is_name_of, place_named}
use Rattle.catalogue.specs.Plain.{IsPlainEntry}
use Rattle.catalogue.specs.Releases.{ContentData, ReleaseData}
use Rattle.catalogue.proofs.lemmas.LastRelease.{last_of}
use Rattle.http_answer.specs.declared.answer.Answer.{Answer}
use Rattle.json_forms.specs.declared.problem_type.Problem.TheVariants as problem
use Rattle.target.specs.declared.asked_types.Param.{Param}
use Rattle.zone_meaning.specs.Sound.{IsSound, IsSoundFile}
use Rattle.actions.specs.declared.bounds.BoundRule.TheVariants as rule
use Rattle.actions.specs.Bounds.{bounds_in}
use Rattle.actions.specs.Documents.{with_problem}
use Rattle.actions.specs.Expanding.{expansion_between, expand_answer}
use Rattle.actions.specs.Getting.{zone_answer, get_answer}

-- the first position at which a test passes, or a later one
split : (b : Bool) (at : ℕ) (later : Option ℕ) (n : ℕ) → cond b (Some at) later ≡ Some n → ((b ≡ true) × (at ≡ n)) ⊎ (later ≡ Some n)
split true at later n h = inl (refl, cc)
split false at later n h = inr h

at_least : {A : Type 0} (p : A → Bool) (at : ℕ) (xs : List A) (n : ℕ) → position_from p at xs ≡ Some n → at ≤ n
at_least p at [] n h = absurd cc
at_least p at (x ∷ xs) n h =
    elim (split (p x) at (position_from p (at + 1) xs) n h) [
      | inl here ↦ let same : at ≡ n = here.1 in omega arith
      | inr rest ↦ let more : at + 1 ≤ n = at_least p (at + 1) xs n rest in omega arith
    ]

-- what stands there passes the test
pub passes : {A : Type 0} (p : A → Bool) (at k : ℕ) (xs : List A) (x : A) → position_from p at xs ≡ Some (at + k) → slice_get xs k ≡ Some x → p x ≡ true
passes p at k [] x h there = absurd cc
passes p at zero (y ∷ ys) x h there =
    elim (split (p y) at (position_from p (at + 1) ys) (at + zero) h) [
      | inl here ↦ let same : y ≡ x = cc in subst (λ z. p z ≡ true) same here.0
      | inr rest ↦ let more : at + 1 ≤ at + zero = at_least p (at + 1) ys (at + zero) rest in absurd (omega arith)
    ]
passes p at (suc k) (y ∷ ys) x h there =
    elim (split (p y) at (position_from p (at + 1) ys) (at + suc k) h) [
      | inl here ↦ let same : at ≡ at + suc k = here.1 in absurd (omega arith)
      | inr rest ↦ let moved : at + suc k ≡ (at + 1) + k = omega arith in passes p (at + 1) k ys x (rest ∙ ap Some moved) there
    ]

-- ---- the name is plain

pub either : (a b : Bool) → (a || b) ≡ true → (a ≡ true) ⊎ (b ≡ true)
either true b h = inl refl
either false b h = inr h

member_is_plain : (name : List ℕ) (texts : List (List ℕ)) → AllByRecursion IsPlain texts → list_any (bytes_eq name) texts ≡ true → IsPlain name
member_is_plain name [] all h = absurd cc
member_is_plain name (text ∷ texts) all h =
    elim (either (bytes_eq name text) (list_any (bytes_eq name) texts) h) [
      | inl same ↦ subst IsPlain (sym ((bytes_eq-Decides name text).0 same)) all.0
      | inr rest ↦ member_is_plain name texts all.1 rest
    ]

pub name_is_plain : (H : List ReleaseData) (name : List ℕ) (place : ℕ) (e : EntryData) → Some place ≡ place_named H name → slice_get (meta H) place ≡ Some e
    → IsPlainEntry e → IsPlain name
unfolding place_named
name_is_plain H name place e found there plain =
    let is : position_from (λ x. is_name_of name x.content) 0 (meta H) ≡ Some (0 + place) = sym found ∙ ap Some (omega arith) in
    member_is_plain name (e.content.tzid ∷ e.content.aliases) (plain.tzid, plain.aliases)
    (passes (λ x. is_name_of name x.content) 0 place (meta H) e is there)

-- ---- the file is sound

file_at_is_sound : (H : List ReleaseData) (last : ReleaseData) (cs : List ContentData) (place : ℕ) (e : EntryData) → AllByRecursion (λ c. IsSoundFile c.file) cs
    → slice_get (map (entry_of H last) cs) place ≡ Some e → IsSoundFile e.content.file
file_at_is_sound H last [] place e all there = absurd cc
file_at_is_sound H last (c ∷ cs) zero e all there =
    let same : entry_of H last c ≡ e = cc in subst (λ (x : EntryData). IsSoundFile x.content.file) same all.0
file_at_is_sound H last (c ∷ cs) (suc place) e all there = file_at_is_sound H last cs place e all.1 there

sound_of : (H : List ReleaseData) (o : Option ReleaseData) (place : ℕ) (e : EntryData) → IsHistory IsSound H → last_release H ≡ o
    → slice_get (entries_of H o) place ≡ Some e → IsSoundFile e.content.file
sound_of H None place e history is there = absurd cc
sound_of H (Some last) place e history is there =
    file_at_is_sound H last last.contents place e (last_of IsSound H last history is).release.is_sound.files there

pub file_is_sound : (H : List ReleaseData) (place : ℕ) (e : EntryData) → IsHistory IsSound H → slice_get (meta H) place ≡ Some e → IsSoundFile e.content.file
unfolding meta
file_is_sound H place e history there = sound_of H (last_release H) place e history refl there

-- ---- the answer

pub found_is : (H : List ReleaseData) (name : List ℕ) (place : ℕ) (e : EntryData) (start end : Param) → Some place ≡ place_named H name
    → slice_get (meta H) place ≡ Some e → expansion_between name e.content.file (bounds_in rule.Required start end) ≡ expand_answer H name start end
unfolding expand_answer
found_is H name place e start end found there = rw (sym found, there) refl

pub missing_is : (H : List ReleaseData) (name : List ℕ) (start end : Param) → None ≡ place_named H name
    → with_problem problem.TzidNotFound ≡ expand_answer H name start end
unfolding expand_answer
missing_is H name start end found = rw (sym found) refl

pub data_is : (H : List ReleaseData) (accept field : Option (List ℕ)) (name : List ℕ) (place : ℕ) (e : EntryData) (start end : Param)
    → Some place ≡ place_named H name → slice_get (meta H) place ≡ Some e
    → zone_answer name (Some e) accept field start end ≡ get_answer H accept field name start end
unfolding get_answer
data_is H accept field name place e start end found there = rw (sym found, there) refl

pub no_data_is : (H : List ReleaseData) (accept field : Option (List ℕ)) (name : List ℕ) (start end : Param) → None ≡ place_named H name
    → with_problem problem.TzidNotFound ≡ get_answer H accept field name start end
unfolding get_answer
no_data_is H accept field name start end found = rw (sym found) refl

-- an answer that is one thing is what that is
pub answered : (r : Result Answer NoMemory) (a b : Answer) → IfOk r (λ x. x ≡ a) → a ≡ b → IfOk r (λ x. x ≡ b)
answered (Ok x) a b is same = is ∙ same
answered (Err e) a b is same = tt
