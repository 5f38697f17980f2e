-- What the actions answer to the requests of a mirror: a body, with a status and a tag that are
-- written as they stand.
use Rattle.std.proofs.Common.{◌≡◌, ℕ, zero, suc, inl, inr, List, [], ◌∷◌, ◌++◌, map, true, codes, Option, None, Some, refl, sym, ◌∙◌, subst}
use Rattle.std.proofs.Common.{option_and_then, arith}
use Rattle.std.specs.List.{list_all, slice_get}
use Rattle.std.proofs.lemmas.Bool.Decides.{nat_tests}
use Rattle.std.proofs.lemmas.List.Folds.{list_all-append}
use Rattle.td_base.specs.Names.{IsPlain, is_printable}
use Rattle.td_base.specs.declared.report.Ask.{Ask}
use Rattle.td_base.specs.declared.report.Ask.TheVariants as ask
use Rattle.td_base.specs.declared.report.Role.TheVariants.{Primary}
use Rattle.catalogue.specs.Digests.{tag_of}
use Rattle.catalogue.specs.Histories.{EntryData, entries_of, entry_of, last_release, meta}
use Rattle.catalogue.specs.Lookups.{place_named, place_of}
use Rattle.catalogue.specs.Releases.{ContentData, ReleaseData}
use Rattle.catalogue.proofs.lemmas.DigitTexts.{tag_plain}
use Rattle.httparse.specs.Grammar.{is_value_byte}
use Rattle.http_answer.specs.declared.answer.Answer.{Answer}
use Rattle.http_answer.specs.declared.answer.Kind.{Kind}
use Rattle.http_answer.specs.declared.answer.Kind.TheVariants as kind
use Rattle.http_request.specs.declared.head.Head.{Head}
use Rattle.json_forms.specs.ProblemDocument.{problem_document, status_of}
use Rattle.json_forms.specs.declared.problem_type.Problem.{Problem}
use Rattle.json_forms.specs.declared.problem_type.Problem.TheVariants as problem
use Rattle.negotiate.specs.Choices.{chosen_format, quality_of}
use Rattle.negotiate.specs.Qualities.{largest_for, quality_in, quality_value}
use Rattle.negotiate.specs.declared.choosing.Format.{Format}
use Rattle.negotiate.specs.declared.choosing.Format.TheVariants as format
use Rattle.td_base.specs.Texts.{pieces, trim}
use Rattle.target.specs.declared.asked_types.Param.TheVariants as param
use Rattle.actions.specs.Action.{action, answer_for}
use Rattle.actions.specs.Bounds.{bounds_in, end_bound, start_bound}
use Rattle.actions.specs.Documents.{with_document, with_problem}
use Rattle.actions.specs.Getting.{format_answer, get_answer, zone_answer}
use Rattle.actions.specs.Listing.{changes_since, change_list, list_answer, list_body}
use Rattle.sync_world.specs.Hearing.{IsDataHeadOf, action_asked, type_of_format, whole_data}
use Rattle.mirror_world.proofs.Replying.{IsPlainStatus, TagPasses, plain}
use Rattle.mirror_world.proofs.Values.{both, first, second}

pub record IsPlainAnswer (a : Answer) : Type 0 where
  pub status : ℕ
  pub kind : Kind
  pub tag : Option (List ℕ)
  pub body : List ℕ
  pub is : a ≡ plain status kind tag body
  pub is_plain : IsPlainStatus status
  pub passes : TagPasses tag

-- ---- documents and problems

document : (body : List ℕ) → IsPlainAnswer (with_document body)
document body = record { status = 200; kind = kind.Json; tag = None; body = body; is = refl; is_plain = inl refl; passes = tt }

problem_status : (p : Problem) → IsPlainStatus (status_of p)
problem_status problem.InvalidAction = inr (inl refl)
problem_status problem.InvalidChangedsince = inr (inl refl)
problem_status problem.TzidNotFound = inr (inr (inl refl))
problem_status problem.InvalidFormat = inr (inr (inr refl))
problem_status problem.InvalidStart = inr (inl refl)
problem_status problem.InvalidEnd = inr (inl refl)
problem_status problem.InvalidPattern = inr (inl refl)

refusal : (p : Problem) → IsPlainAnswer (with_problem p)
refusal p = record {
  status = status_of p;
  kind = kind.Problem;
  tag = None;
  body = problem_document p;
  is = refl;
  is_plain = problem_status p;
  passes = tt;
}

-- ---- tags

printable_value : (b : ℕ) → is_printable b ≡ true → is_value_byte b ≡ true
printable_value b h = grind (arith, nat_tests)

plain_passes : (text : List ℕ) → IsPlain text → list_all is_value_byte text ≡ true
plain_passes [] h = refl
plain_passes (b ∷ bs) h =
    both (is_value_byte b) (list_all is_value_byte bs) (printable_value b (first (is_printable b) (list_all is_printable bs) h))
    (plain_passes bs (second (is_printable b) (list_all is_printable bs) h))

joined_pass : (xs ys : List ℕ) → list_all is_value_byte xs ≡ true → list_all is_value_byte ys ≡ true → list_all is_value_byte (xs ++ ys) ≡ true
joined_pass xs ys h k =
    list_all-append is_value_byte xs ys ∙ both (list_all is_value_byte xs) (list_all is_value_byte ys) h k

quoted_passes : (tag mark : List ℕ) → IsPlain tag → list_all is_value_byte mark ≡ true
    → list_all is_value_byte (codes "\"" ++ tag ++ codes "." ++ mark ++ [] ++ codes "\"") ≡ true
quoted_passes tag mark h k =
    joined_pass (codes "\"" ++ tag ++ codes "." ++ mark ++ []) (codes "\"")
    (joined_pass (codes "\"" ++ tag ++ codes "." ++ mark) []
    (joined_pass (codes "\"" ++ tag ++ codes ".") mark
    (joined_pass (codes "\"" ++ tag) (codes ".") (joined_pass (codes "\"") tag refl (plain_passes tag h)) refl) k) refl) refl

-- an entry at any place has the tag of its content
tag_at : (H : List ReleaseData) (last : ReleaseData) (cs : List ContentData) (i : ℕ) (e : EntryData) → slice_get (map (entry_of H last) cs) i ≡ Some e
    → e.tag ≡ tag_of e.content
tag_at H last [] i e h = absurd (cc)
tag_at H last (c ∷ cs) zero e h =
    let same : entry_of H last c ≡ e = cc in subst (λ (x : EntryData). x.tag ≡ tag_of x.content) same refl
tag_at H last (c ∷ cs) (suc i) e h = tag_at H last cs i e h

tag_in : (H : List ReleaseData) (o : Option ReleaseData) (place : Option ℕ) (e : EntryData) → option_and_then (slice_get (entries_of H o)) place ≡ Some e
    → e.tag ≡ tag_of e.content
tag_in H o None e h = absurd (cc)
tag_in H None (Some i) e h = absurd (cc)
tag_in H (Some last) (Some i) e h = tag_at H last last.contents i e h

tag_found : (H : List ReleaseData) (name : List ℕ) (e : EntryData) → option_and_then (slice_get (meta H)) (place_named H name) ≡ Some e → IsPlain e.tag
unfolding meta
tag_found H name e h = subst IsPlain (sym (tag_in H (last_release H) (place_named H name) e h)) (tag_plain e.content)

-- ---- lists

changes_plain : (H : List ReleaseData) (o : Option ℕ) → IsPlainAnswer (changes_since H o)
changes_plain H (Some n) = document (change_list H n)
changes_plain H None = refusal problem.InvalidChangedsince

list_plain : (H : List ReleaseData) (head : Head) (since : Option (List ℕ)) → IsPlainAnswer (answer_for H Primary head (action_asked (ask.List since)))
unfolding list_answer
list_plain H head None = document (list_body H (λ _. true))
list_plain H head (Some since) = changes_plain H (place_of H since)

-- ---- the data of zones

format_chosen : (f : Format) → chosen_format (Some (type_of_format f)) ≡ Some f
unfolding chosen_format quality_of largest_for pieces trim quality_in quality_value
format_chosen format.Calendar = refl
format_chosen format.Tzif = refl
format_chosen format.CalendarJson = refl

data_plain : (f : Format) (name : List ℕ) (e : EntryData) → IsPlain e.tag → IsPlainAnswer (format_answer (Some f) name e None param.Absent param.Absent)
unfolding bounds_in start_bound end_bound Rattle.actions.specs.Tags.data_tag
data_plain format.Calendar name e tag = record {
  status = 200;
  kind = kind.Calendar;
  tag = Some (codes "\"" ++ e.tag ++ codes "." ++ codes "c2" ++ [] ++ codes "\"");
  body = whole_data format.Calendar name e.content;
  is = refl;
  is_plain = inl refl;
  passes = quoted_passes e.tag (codes "c2") tag refl;
}
data_plain format.Tzif name e tag = record {
  status = 200;
  kind = kind.Tzif;
  tag = Some (codes "\"" ++ e.tag ++ codes "." ++ codes "t" ++ [] ++ codes "\"");
  body = e.content.file;
  is = refl;
  is_plain = inl refl;
  passes = quoted_passes e.tag (codes "t") tag refl;
}
data_plain format.CalendarJson name e tag = record {
  status = 200;
  kind = kind.CalendarJson;
  tag = Some (codes "\"" ++ e.tag ++ codes "." ++ codes "j" ++ [] ++ codes "\"");
  body = whole_data format.CalendarJson name e.content;
  is = refl;
  is_plain = inl refl;
  passes = quoted_passes e.tag (codes "j") tag refl;
}

zone_plain : (f : Format) (name : List ℕ) (o : Option EntryData) → ((e : EntryData) → o ≡ Some e → IsPlain e.tag)
    → IsPlainAnswer (zone_answer name o (Some (type_of_format f)) None param.Absent param.Absent)
zone_plain f name None tags = refusal problem.TzidNotFound
zone_plain f name (Some e) tags =
    subst (λ (g : Option Format). IsPlainAnswer (format_answer g name e None param.Absent param.Absent)) (sym (format_chosen f))
    (data_plain f name e (tags e refl))

got_plain : (f : Format) (H : List ReleaseData) (head : Head) (name : List ℕ) → head.accept ≡ Some (type_of_format f) → head.none_match ≡ None
    → IsPlainAnswer (answer_for H Primary head (action_asked (ask.Get name)))
unfolding get_answer
got_plain f H head name accept held =
    let o = option_and_then (slice_get (meta H)) (place_named H name) in
    let two = zone_plain f name o (tag_found H name) in
    let one = subst (λ l. IsPlainAnswer (zone_answer name o (Some (type_of_format f)) l param.Absent param.Absent)) (sym held) two in
    subst (λ a. IsPlainAnswer (zone_answer name o a head.none_match param.Absent param.Absent)) (sym accept) one

answer_plain : (f : Format) (H : List ReleaseData) (a : Ask) (head : Head) → IsDataHeadOf f a head
    → IsPlainAnswer (answer_for H Primary head (action_asked a))
answer_plain f H (ask.List since) head k = list_plain H head since
answer_plain f H (ask.Get name) head k = got_plain f H head name k.accept k.none_match

pub action_plain : (f : Format) (H : List ReleaseData) (a : Ask) (head : Head) → IsDataHeadOf f a head → IsPlainAnswer (action H Primary head)
unfolding action
action_plain f H a head k = subst (λ asked. IsPlainAnswer (answer_for H Primary head asked)) (sym k.target) (answer_plain f H a head k)
