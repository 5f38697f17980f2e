-- What an answer with the data of a zone, or with its observances, was made of.
use Rattle.std.proofs.Common.{◌≡◌, ◌≢◌, ◌⊎◌, ℕ, List, Bool, true, false, Option, None, Some, Result, Ok, Err, inl, inr, refl, sym, subst, ◌∙◌, arith, cond}
use Rattle.std.specs.List.{slice_get}
use Rattle.std.specs.Prelude.{option_and_then}
use Rattle.td_base.specs.declared.report.Role.{Role}
use Rattle.catalogue.specs.Histories.{EntryData, last_release, meta}
use Rattle.catalogue.specs.Lookups.{place_named, place_of}
use Rattle.catalogue.specs.Releases.{ReleaseData}
use Rattle.catalogue.specs.declared.release.Leaps.{Leaps}
use Rattle.find_pattern.specs.Patterns.{pattern as pattern_in}
use Rattle.find_pattern.specs.declared.pattern_type.Pattern.{Pattern}
use Rattle.find_pattern.specs.declared.pattern_fault.BadPattern.{BadPattern}
use Rattle.http_answer.specs.declared.answer.Answer.{Answer}
use Rattle.http_answer.specs.declared.answer.Kind.{Kind}
use Rattle.http_answer.specs.declared.answer.Kind.TheVariants as kind
use Rattle.http_request.specs.declared.head.Head.{Head}
use Rattle.json_forms.specs.ProblemDocument.{status_of}
use Rattle.json_forms.specs.declared.problem_type.Problem.{Problem}
use Rattle.json_forms.specs.declared.problem_type.Problem.TheVariants as problem
use Rattle.negotiate.specs.Choices.{chosen_format}
use Rattle.negotiate.specs.declared.choosing.Format.{Format}
use Rattle.target.specs.Actions.{asks}
use Rattle.target.specs.declared.asked_types.Asked.{Asked}
use Rattle.target.specs.declared.asked_types.Asked.TheVariants as ask
use Rattle.target.specs.declared.asked_types.Param.{Param}
use Rattle.target.specs.declared.asked_types.Param.TheVariants as param
use Rattle.actions.specs.Action.{action, answer_for}
use Rattle.actions.specs.Bounds.{begin_of, bounds_in, finish_of}
use Rattle.actions.specs.Describing.{capabilities_of, capabilities_answer}
use Rattle.actions.specs.Documents.{with_data, not_modified}
use Rattle.actions.specs.Expanding.{expand_answer, expansion, expansion_answer, expansion_between}
use Rattle.actions.specs.Finding.{find_answer, found_by}
use Rattle.actions.specs.Formats.{format_data}
use Rattle.actions.specs.Getting.{form_answer, format_answer, get_answer, is_held, zone_answer}
use Rattle.actions.specs.LeapSeconds.{leap_answer, leaps_told, table_told}
use Rattle.actions.specs.Listing.{changes_since, list_answer}
use Rattle.actions.specs.Tags.{data_tag}
use Rattle.actions.specs.declared.bounds.Bounds.{Bounds}
use Rattle.actions.specs.declared.bounds.BoundRule.TheVariants as rule

-- ---- answers that are no data of a zone

abbrev IsDocument : Answer → Type 0
IsDocument a = (a.kind ≡ Some kind.Json) ⊎ ((a.kind ≡ Some kind.Problem) ⊎ (a.kind ≡ None))

described : (role : Role) (o : Option ReleaseData) → IsDocument (capabilities_of role o)
described role None = inr (inl refl)
described role (Some r) = inl refl

capabilities_documented : (H : List ReleaseData) (role : Role) → IsDocument (capabilities_answer H role)
unfolding capabilities_answer
capabilities_documented H role = described role (last_release H)

changes_documented : (H : List ReleaseData) (o : Option ℕ) → IsDocument (changes_since H o)
changes_documented H None = inr (inl refl)
changes_documented H (Some n) = inl refl

list_documented : (H : List ReleaseData) (p : Param) → IsDocument (list_answer H p)
unfolding list_answer
list_documented H param.Absent = inl refl
list_documented H (param.Once token) = changes_documented H (place_of H token)
list_documented H param.Repeated = inr (inl refl)

found_documented : (H : List ReleaseData) (r : Result Pattern BadPattern) → IsDocument (found_by H r)
found_documented H (Ok p) = inl refl
found_documented H (Err e) = inr (inl refl)

find_documented : (H : List ReleaseData) (p : Param) → IsDocument (find_answer H p)
unfolding find_answer
find_documented H param.Absent = inr (inl refl)
find_documented H (param.Once text) = found_documented H (pattern_in text)
find_documented H param.Repeated = inr (inl refl)

between_documented : (name file : List ℕ) (r : Result Bounds Problem) → IsDocument (expansion_between name file r)
between_documented name file (Ok bounds) = inl refl
between_documented name file (Err refused) = inr (inl refl)

zone_documented : (name : List ℕ) (o : Option EntryData) (start end : Param) → IsDocument (expansion_answer name o start end)
zone_documented name None start end = inr (inl refl)
zone_documented name (Some e) start end = between_documented name e.content.file (bounds_in rule.Required start end)

expand_documented : (H : List ReleaseData) (name : List ℕ) (start end : Param) → IsDocument (expand_answer H name start end)
unfolding expand_answer
expand_documented H name start end = zone_documented name (option_and_then (slice_get (meta H)) (place_named H name)) start end

table_documented : (r : ReleaseData) (o : Option Leaps) → IsDocument (table_told r o)
table_documented r None = inr (inl refl)
table_documented r (Some leaps) = inl refl

leaps_documented : (o : Option ReleaseData) → IsDocument (leaps_told o)
leaps_documented None = inr (inl refl)
leaps_documented (Some r) = table_documented r r.leaps

leap_documented : (H : List ReleaseData) → IsDocument (leap_answer H)
unfolding leap_answer
leap_documented H = leaps_documented (last_release H)

-- a kind of data, which documents have not
pub record IsOfData (k : Kind) : Type 0 where
  pub json : k ≢ kind.Json
  pub problem : k ≢ kind.Problem

no_document : (a : Answer) (k : Kind) → IsDocument a → IsOfData k → a.kind ≡ Some k → ⊥
no_document a k (inl is) of_data e = of_data.json (let same : Some k ≡ Some kind.Json = sym e ∙ is in cc)
no_document a k (inr (inl is)) of_data e = of_data.problem (let same : Some k ≡ Some kind.Problem = sym e ∙ is in cc)
no_document a k (inr (inr is)) of_data e = let none : Some k ≡ None = sym e ∙ is in cc

-- ---- answers with data

-- the zone, the format, the bounds, and what the answer has of them
pub record IsGot (H : List ReleaseData) (name : List ℕ) (start end : Param) (k : Kind) (a : Answer) : Type 0 where
  pub entry : EntryData
  pub format : Format
  pub bounds : Bounds
  pub found : option_and_then (slice_get (meta H)) (place_named H name) ≡ Some entry
  pub bounded : bounds_in (format_data format).bounds start end ≡ Ok bounds
  pub kind_is : (format_data format).kind ≡ k
  pub status : a.status ≡ 200
  pub body : a.body ≡ (format_data format).text name entry.content bounds

module _ (H : List ReleaseData) (name : List ℕ) (held : Option (List ℕ)) (start end : Param) (k : Kind) (of_data : IsOfData k) where
  given : (e : EntryData) (format : Format) (bounds : Bounds) (tag : List ℕ) (b : Bool)
      → option_and_then (slice_get (meta H)) (place_named H name) ≡ Some e → bounds_in (format_data format).bounds start end ≡ Ok bounds
      → (cond b (not_modified tag) (with_data (format_data format).kind tag ((format_data format).text name e.content bounds))).kind ≡ Some k
      → IsGot H name start end k (cond b (not_modified tag) (with_data (format_data format).kind tag ((format_data format).text name e.content bounds)))
  given e format bounds tag true found bounded is = absurd cc
  given e format bounds tag false found bounded is =
      record { entry = e; format = format; bounds = bounds; found = found; bounded = bounded; kind_is = (let same : (format_data format).kind ≡ k = cc in same); status = refl; body = refl }

  formed : (e : EntryData) (format : Format) (r : Result Bounds Problem) → option_and_then (slice_get (meta H)) (place_named H name) ≡ Some e
      → bounds_in (format_data format).bounds start end ≡ r → (form_answer (format_data format) name e held r).kind ≡ Some k
      → IsGot H name start end k (form_answer (format_data format) name e held r)
  formed e format (Err refused) found bounded is = absurd (of_data.problem (let same : Some kind.Problem ≡ Some k = is in sym (let one : kind.Problem ≡ k = cc in one)))
  formed e format (Ok bounds) found bounded is =
      given e format bounds (data_tag e.tag (format_data format).mark bounds) (is_held held (data_tag e.tag (format_data format).mark bounds)) found bounded is

  chosen : (e : EntryData) (o : Option Format) → option_and_then (slice_get (meta H)) (place_named H name) ≡ Some e
      → (format_answer o name e held start end).kind ≡ Some k → IsGot H name start end k (format_answer o name e held start end)
  chosen e None found is = absurd (of_data.problem (let same : Some kind.Problem ≡ Some k = is in sym (let one : kind.Problem ≡ k = cc in one)))
  chosen e (Some format) found is = formed e format (bounds_in (format_data format).bounds start end) found refl is

  of_zone : (accept : Option (List ℕ)) (o : Option EntryData) → option_and_then (slice_get (meta H)) (place_named H name) ≡ o
      → (zone_answer name o accept held start end).kind ≡ Some k → IsGot H name start end k (zone_answer name o accept held start end)
  of_zone accept None found is = absurd (of_data.problem (let same : Some kind.Problem ≡ Some k = is in sym (let one : kind.Problem ≡ k = cc in one)))
  of_zone accept (Some e) found is = chosen e (chosen_format accept) found is

  got : (accept : Option (List ℕ)) → (get_answer H accept held name start end).kind ≡ Some k → IsGot H name start end k (get_answer H accept held name start end)
  unfolding get_answer
  got accept is = of_zone accept (option_and_then (slice_get (meta H)) (place_named H name)) refl is

-- the same of what a head requests
pub record IsGotBy (H : List ReleaseData) (asked : Asked) (k : Kind) (a : Answer) : Type 0 where
  pub name : List ℕ
  pub start : Param
  pub end : Param
  pub requested : asked ≡ ask.Get name start end
  pub got : IsGot H name start end k a

got_for : (H : List ReleaseData) (role : Role) (head : Head) (k : Kind) (asked : Asked) → IsOfData k → (answer_for H role head asked).kind ≡ Some k
    → IsGotBy H asked k (answer_for H role head asked)
got_for H role head k ask.Capabilities of_data is = absurd (no_document (capabilities_answer H role) k (capabilities_documented H role) of_data is)
got_for H role head k (ask.List since) of_data is = absurd (no_document (list_answer H since) k (list_documented H since) of_data is)
got_for H role head k (ask.Find pattern) of_data is = absurd (no_document (find_answer H pattern) k (find_documented H pattern) of_data is)
got_for H role head k (ask.Get name start end) of_data is =
    record { name = name; start = start; end = end; requested = refl; got = got H name head.none_match start end k of_data head.accept is }
got_for H role head k (ask.Expand name start end) of_data is = absurd (no_document (expand_answer H name start end) k (expand_documented H name start end) of_data is)
got_for H role head k ask.LeapSeconds of_data is = absurd (no_document (leap_answer H) k (leap_documented H) of_data is)
got_for H role head k ask.WellKnown of_data is = absurd (let none : None ≡ Some k = is in cc)
got_for H role head k ask.Unknown of_data is = absurd (of_data.problem (let same : Some kind.Problem ≡ Some k = is in sym (let one : kind.Problem ≡ k = cc in one)))

pub got_by : (H : List ReleaseData) (role : Role) (head : Head) (k : Kind) → IsOfData k → (action H role head).kind ≡ Some k
    → IsGotBy H (asks head.target) k (action H role head)
unfolding action
got_by H role head k of_data is = got_for H role head k (asks head.target) of_data is

-- ---- answers with observances

pub record IsExpanded (H : List ReleaseData) (name : List ℕ) (start end : Param) (a : Answer) : Type 0 where
  pub entry : EntryData
  pub bounds : Bounds
  pub found : option_and_then (slice_get (meta H)) (place_named H name) ≡ Some entry
  pub bounded : bounds_in rule.Required start end ≡ Ok bounds
  pub body : a.body ≡ expansion name entry.content.file (begin_of bounds.start).seconds (finish_of bounds.end).seconds

-- no problem has status 200
pub no_success : (p : Problem) → status_of p ≡ 200 → ⊥
no_success problem.InvalidAction is = omega (arith, is)
no_success problem.InvalidChangedsince is = omega (arith, is)
no_success problem.TzidNotFound is = omega (arith, is)
no_success problem.InvalidFormat is = omega (arith, is)
no_success problem.InvalidStart is = omega (arith, is)
no_success problem.InvalidEnd is = omega (arith, is)
no_success problem.InvalidPattern is = omega (arith, is)

expanded_between : (H : List ReleaseData) (name : List ℕ) (start end : Param) (e : EntryData) (r : Result Bounds Problem)
    → option_and_then (slice_get (meta H)) (place_named H name) ≡ Some e → bounds_in rule.Required start end ≡ r
    → (expansion_between name e.content.file r).status ≡ 200 → IsExpanded H name start end (expansion_between name e.content.file r)
expanded_between H name start end e (Err refused) found bounded is = absurd (no_success refused is)
expanded_between H name start end e (Ok bounds) found bounded is = record { entry = e; bounds = bounds; found = found; bounded = bounded; body = refl }

expanded_zone : (H : List ReleaseData) (name : List ℕ) (start end : Param) (o : Option EntryData)
    → option_and_then (slice_get (meta H)) (place_named H name) ≡ o
    → (expansion_answer name o start end).status ≡ 200 → IsExpanded H name start end (expansion_answer name o start end)
expanded_zone H name start end None found is = absurd (no_success problem.TzidNotFound is)
expanded_zone H name start end (Some e) found is = expanded_between H name start end e (bounds_in rule.Required start end) found refl is

expanded : (H : List ReleaseData) (name : List ℕ) (start end : Param) → (expand_answer H name start end).status ≡ 200
    → IsExpanded H name start end (expand_answer H name start end)
unfolding expand_answer
expanded H name start end is = expanded_zone H name start end (option_and_then (slice_get (meta H)) (place_named H name)) refl is

expanded_for : (H : List ReleaseData) (role : Role) (head : Head) (name : List ℕ) (start end : Param) (asked : Asked) → asked ≡ ask.Expand name start end
    → (answer_for H role head asked).status ≡ 200 → IsExpanded H name start end (answer_for H role head asked)
expanded_for H role head name start end asked e is =
    let P : Asked → Type 0 = λ x. (answer_for H role head x).status ≡ 200 → IsExpanded H name start end (answer_for H role head x) in
    subst P (sym e) (expanded H name start end) is

pub expanded_by : (H : List ReleaseData) (role : Role) (head : Head) (name : List ℕ) (start end : Param) → asks head.target ≡ ask.Expand name start end
    → (action H role head).status ≡ 200 → IsExpanded H name start end (action H role head)
unfolding action
expanded_by H role head name start end e is = expanded_for H role head name start end (asks head.target) e is
