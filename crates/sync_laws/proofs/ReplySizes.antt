-- How long a reply to a mirror is: its head is short, and so is its body.
use Rattle.std.proofs.Common.{◌≡◌, ◌↔◌, ◌<◌, ◌≤◌, ◌+◌, ◌||◌, ◌++◌, ℕ, Bool, true, false, cond, Option, None, Some, List, [], ◌∷◌, length}
use Rattle.std.proofs.Common.{refl, sym, ap, ◌∙◌, subst, arith, codes, length-append, decimal, option_map, option_and_then, Ok, Err, nat_lt}
use Rattle.std.specs.Prelude.{⊤}
use Rattle.std.proofs.lemmas.Bool.{and_parts, ltb-false}
use Rattle.std.proofs.lemmas.Bool.Decides.{nat_tests}
use Rattle.std.proofs.lemmas.List.Folds.{list_all-append}
use Rattle.std.specs.Char.{is_ascii_digit}
use Rattle.std.specs.Str.Parse.{digits_value}
use Rattle.httparse.specs.Grammar.{is_value_byte}
use Rattle.td_base.specs.Names.{IsPlain, is_printable}
use Rattle.std.proofs.lemmas.Fmt.{length-decimal-le}
use Rattle.std.proofs.lemmas.Grind.{flat_map-append}
use Rattle.std.proofs.lemmas.List.Concat.{flat_map-cons}
use Rattle.std.specs.List.{AllByRecursion, flat_map, list_all, slice_get}
use Rattle.http.specs.StatusCode.{code_digits}
use Rattle.td_base.specs.declared.report.Ask.{Ask}
use Rattle.td_base.specs.declared.report.Ask.TheVariants as ask
use Rattle.td_base.specs.declared.report.Role.TheVariants.{Primary}
use Rattle.catalogue.specs.Histories.{EntryData, IsHistory, last_release, meta}
use Rattle.catalogue.specs.Lookups.{contents_of, delta, is_name_of, named, place_named, place_of, zones_of}
use Rattle.catalogue.specs.Releases.{ContentData, ReleaseData}
use Rattle.catalogue.proofs.lemmas.LastRelease.{last_of}
use Rattle.catalogue.proofs.lemmas.PlainEntries.{each_at}
use Rattle.serde_json.specs.Data.{member, no_members, number, string, unsigned}
use Rattle.http_request.specs.declared.head.Head.{Head}
use Rattle.json_forms.specs.ProblemDocument.{problem_data, problem_document, status_of, title_of, type_of}
use Rattle.json_forms.specs.declared.problem_type.Problem.{Problem}
use Rattle.json_forms.specs.declared.problem_type.Problem.TheVariants as problem
use Rattle.negotiate.specs.declared.choosing.Format.{Format}
use Rattle.negotiate.specs.declared.choosing.Format.TheVariants as format
use Rattle.target.specs.declared.asked_types.Param.TheVariants as param
use Rattle.tzif_reader.proofs.lemmas.Whole.{zone_file_of}
use Rattle.zone_meaning.specs.FaultLemmas.{file_clear}
use Rattle.zone_meaning.specs.Sound.{IsSound, IsSoundFile}
use Rattle.actions.specs.Action.{action, answer_for}
use Rattle.actions.specs.Documents.{with_document, with_problem}
use Rattle.actions.specs.Getting.{get_answer, zone_answer}
use Rattle.actions.specs.Listing.{change_list, changes_since, list_answer, list_body, list_zone}
use Rattle.actions.specs.Tags.{data_tag}
use Rattle.ical_lines.specs.Unfolding.{unfolded}
use Rattle.vtimezone_reader.specs.ReadLines.{calendar_in, of_lines}
use Rattle.vtimezone_reader.specs.declared.calendar_type.Calendar.{Calendar}
use Rattle.vtimezone_reader.specs.declared.calendar_type.TheConstants.{MOST_BYTES}
use Rattle.vtimezone_reader.specs.declared.calendar_fault.CalendarFault.TheVariants as refused
use Rattle.sync_core.specs.declared.heard_type.Heard.{Heard}
use Rattle.sync_core.specs.declared.heard_type.Heard.TheVariants as heard
use Rattle.mirror.specs.declared.limits.TheConstants.{MOST_ANSWER}
use Rattle.sync_world.specs.Calendars.{IsCalendarHeardOver}
use Rattle.sync_world.specs.Hearing.{IsDataHeadOf, IsHeadOf, IsHeardIn, action_asked, action_service, told_file, type_of_format, whole_data}
use Rattle.sync_world.specs.Primaries.{file_told, told_by}
use Rattle.sync_world.proofs.Telling.{whole_answer, zone_told}
use Rattle.mirror_world.specs.Answers.{reply_over}
use Rattle.calendar_world.specs.Reading.{IsCalendarAnswer}
use Rattle.sync_laws.proofs.ListSizes.{AreShort, IsShort, IsShortZone, few_in_history, list_size, member_size, text_size}
use Rattle.http_answer.specs.Replies.{body_sent, close_lines, ended, fields, is_unchanged, length_lines, location_lines, media_type, phrase}
use Rattle.http_answer.specs.Replies.{reply, status_line, tag_lines, type_lines, unless_unchanged}
use Rattle.http_answer.specs.declared.answer.Answer.{Answer}
use Rattle.http_answer.specs.declared.answer.Kind.{Kind}
use Rattle.http_answer.specs.declared.answer.Kind.TheVariants as kind

-- ---- lines

abbrev lines_size : List (List ℕ) → ℕ
lines_size lines = length (flat_map ended lines)

size_both : (xs ys : List (List ℕ)) → lines_size (xs ++ ys) ≡ lines_size xs + lines_size ys
size_both xs ys = ap length (flat_map-append ended xs ys) ∙ length-append (flat_map ended xs) (flat_map ended ys)

size_first : (x : List ℕ) (xs : List (List ℕ)) → lines_size (x ∷ xs) ≡ length x + 2 + lines_size xs
size_first x xs =
    let is : lines_size (x ∷ xs) ≡ length (ended x) + lines_size xs =
    ap length (flat_map-cons ended x xs) ∙ length-append (ended x) (flat_map ended xs)
    in
    omega (arith, is, length-append x (codes "\r\n"))

-- ---- fields

media_size : (k : Kind) → length (media_type k) ≤ 40
media_size kind.Json = omega arith
media_size kind.Problem = omega arith
media_size kind.Calendar = omega arith
media_size kind.Tzif = omega arith
media_size kind.CalendarJson = omega arith

type_size : (k : Option Kind) → lines_size (type_lines k) ≤ 60
unfolding type_lines
type_size None = omega arith
type_size (Some k) =
    omega (arith, media_size k, size_first (codes "Content-Type: " ++ media_type k) [], length-append (codes "Content-Type: ") (media_type k))

abbrev pub IsShortTag : Option (List ℕ) → Type 0
IsShortTag None = ⊤
IsShortTag (Some tag) = (length tag ≤ 100) × (list_all is_value_byte tag ≡ true)

tag_size : (tag : Option (List ℕ)) → IsShortTag tag → lines_size (tag_lines tag) ≤ 130
unfolding tag_lines
tag_size None short = omega arith
tag_size (Some tag) short =
    omega (
      arith,
      short.0,
      size_first (codes "ETag: " ++ tag) (codes "Vary: Accept" ∷ []),
      length-append (codes "ETag: ") tag,
      size_first (codes "Vary: Accept") [],
    )

location_size : (moved : Bool) → lines_size (location_lines moved) ≤ 30
unfolding location_lines
location_size true = omega arith
location_size false = omega arith

close_size : (close : Bool) → lines_size (close_lines close) ≤ 30
unfolding close_lines
close_size true = omega arith
close_size false = omega arith

length_size : (body : List ℕ) → length body ≤ 5_000_000 → lines_size (length_lines body) ≤ 40
unfolding length_lines
length_size body few =
    omega (
      arith,
      length-decimal-le 7 (length body) (omega arith) (omega (arith, few)) (omega (arith, few)),
      size_first (codes "Content-Length: " ++ decimal (length body)) [],
      length-append (codes "Content-Length: ") (decimal (length body)),
    )

unless_size : (status most : ℕ) (lines : List (List ℕ)) → lines_size lines ≤ most → lines_size (unless_unchanged status lines) ≤ most
unless_size status most lines few = by (is_unchanged status)
  where
    by : (b : Bool) → lines_size (cond b [] lines) ≤ most
    by true = omega arith
    by false = few

-- ---- the reply

-- what a status is written as
pub record IsWrittenStatus (status : ℕ) : Type 0 where
  pub changed : is_unchanged status ≡ false
  pub three : length (code_digits status) ≡ 3
  pub digits : list_all is_ascii_digit (code_digits status) ≡ true
  pub value : list_all is_value_byte (phrase status) ≡ true
  pub few : length (phrase status) ≤ 40
  pub code : digits_value 10 (code_digits status) ≡ status

-- an answer with a type, and nothing moved
pub record IsShortAnswer (a : Answer) : Type 0 where
  pub written : IsWrittenStatus a.status
  pub media : Kind
  pub typed : a.kind ≡ Some media
  pub moved : a.moved ≡ false
  pub tag : IsShortTag a.tag
  pub body : length a.body ≤ 5_000_000

sent_size : (a : Answer) (head_only : Bool) → length (body_sent a head_only) ≤ length a.body
sent_size a head_only = by (is_unchanged a.status || head_only)
  where
    by : (b : Bool) → length (cond b [] a.body) ≤ length a.body
    by true = omega arith
    by false = omega arith

status_size : (status : ℕ) → length (phrase status) ≤ 40 → length (status_line status) ≤ 60
unfolding status_line
status_size status few =
    omega (
      arith,
      few,
      length-append (codes "HTTP/1.1 ") (code_digits status ++ (codes " " ++ phrase status)),
      length-append (code_digits status) (codes " " ++ phrase status),
      length-append (codes " ") (phrase status),
    )

fields_size : (a : Answer) (close : Bool) → IsShortAnswer a → lines_size (fields a close) ≤ 290
fields_size a close short =
    let typed = unless_unchanged a.status (type_lines a.kind) in
    let sized = unless_unchanged a.status (length_lines a.body) in
    omega (
      arith,
      unless_size a.status 60 (type_lines a.kind) (type_size a.kind),
      tag_size a.tag short.tag,
      location_size a.moved,
      unless_size a.status 40 (length_lines a.body) (length_size a.body short.body),
      close_size close,
      size_both typed (tag_lines a.tag ++ (location_lines a.moved ++ (sized ++ close_lines close))),
      size_both (tag_lines a.tag) (location_lines a.moved ++ (sized ++ close_lines close)),
      size_both (location_lines a.moved) (sized ++ close_lines close),
      size_both sized (close_lines close),
    )

pub reply_size : (a : Answer) (head_only close : Bool) → IsShortAnswer a → length (reply a head_only close) ≤ 5_000_400
unfolding reply
reply_size a head_only close short =
    let few = short.body in
    let lines = status_line a.status ∷ fields a close in
    omega (
      arith,
      few,
      sent_size a head_only,
      status_size a.status short.written.few,
      fields_size a close short,
      size_first (status_line a.status) (fields a close),
      length-append (flat_map ended lines) (codes "\r\n" ++ body_sent a head_only),
      length-append (codes "\r\n") (body_sent a head_only),
    )

-- ---- the answers to a mirror

written_200 : IsWrittenStatus 200
unfolding phrase
written_200 = record { changed = refl; three = refl; digits = refl; value = refl; few = omega arith; code = refl }

pub written_400 : IsWrittenStatus 400
unfolding phrase
written_400 = record { changed = refl; three = refl; digits = refl; value = refl; few = omega arith; code = refl }

written_404 : IsWrittenStatus 404
unfolding phrase
written_404 = record { changed = refl; three = refl; digits = refl; value = refl; few = omega arith; code = refl }

document_short : (body : List ℕ) → length body ≤ 5_000_000 → IsShortAnswer (with_document body)
document_short body few = record { written = written_200; media = kind.Json; typed = refl; moved = refl; tag = tt; body = few }

title_short : (p : Problem) → IsShort 40 (title_of p)
title_short problem.InvalidAction = record { plain = refl; few = omega arith }
title_short problem.InvalidChangedsince = record { plain = refl; few = omega arith }
title_short problem.TzidNotFound = record { plain = refl; few = omega arith }
title_short problem.InvalidFormat = record { plain = refl; few = omega arith }
title_short problem.InvalidStart = record { plain = refl; few = omega arith }
title_short problem.InvalidEnd = record { plain = refl; few = omega arith }
title_short problem.InvalidPattern = record { plain = refl; few = omega arith }

type_short : (p : Problem) → IsShort 60 (type_of p)
type_short problem.InvalidAction = record { plain = refl; few = omega arith }
type_short problem.InvalidChangedsince = record { plain = refl; few = omega arith }
type_short problem.TzidNotFound = record { plain = refl; few = omega arith }
type_short problem.InvalidFormat = record { plain = refl; few = omega arith }
type_short problem.InvalidStart = record { plain = refl; few = omega arith }
type_short problem.InvalidEnd = record { plain = refl; few = omega arith }
type_short problem.InvalidPattern = record { plain = refl; few = omega arith }

short_status : (p : Problem) → status_of p < 1000
short_status problem.InvalidAction = omega arith
short_status problem.InvalidChangedsince = omega arith
short_status problem.TzidNotFound = omega arith
short_status problem.InvalidFormat = omega arith
short_status problem.InvalidStart = omega arith
short_status problem.InvalidEnd = omega arith
short_status problem.InvalidPattern = omega arith

problem_size : (p : Problem) → length (problem_document p) ≤ 5_000_000
unfolding problem_document problem_data
problem_size p =
    let status = number (unsigned (status_of p)) in
    let last = member (codes "type") (string (type_of p)) no_members in
    let more = member (codes "title") (string (title_of p)) last in
    let digits = length-decimal-le 3 (status_of p) (omega arith) (short_status p) (let few = short_status p in omega (arith, few)) in
    omega (
      arith,
      digits,
      text_size 40 (title_of p) (title_short p),
      text_size 60 (type_of p) (type_short p),
      text_size 6 (codes "status") (record { plain = refl; few = omega arith }),
      text_size 5 (codes "title") (record { plain = refl; few = omega arith }),
      text_size 4 (codes "type") (record { plain = refl; few = omega arith }),
      member_size false (codes "status") status more,
      member_size true (codes "title") (string (title_of p)) last,
      member_size true (codes "type") (string (type_of p)) no_members,
    )

problem_short : (p : Problem) → IsWrittenStatus (status_of p) → IsShortAnswer (with_problem p)
problem_short p written = record { written = written; media = kind.Problem; typed = refl; moved = refl; tag = tt; body = problem_size p }

token_problem : IsShortAnswer (with_problem problem.InvalidChangedsince)
token_problem = problem_short problem.InvalidChangedsince written_400

zone_problem : IsShortAnswer (with_problem problem.TzidNotFound)
zone_problem = problem_short problem.TzidNotFound written_404

changes_short : (G : List ReleaseData) (o : Option ℕ) → IsHistory IsSound G → 1 ≤ length G → IsShortAnswer (changes_since G o)
unfolding change_list delta
changes_short G (Some n) history some = document_short (change_list G n) (list_size G (λ e. nat_lt n e.changed) history some)
changes_short G None history some = token_problem

list_short : (G : List ReleaseData) (head : Head) (token : Option (List ℕ)) → IsHistory IsSound G → 1 ≤ length G
    → IsShortAnswer (answer_for G Primary head (action_asked (ask.List token)))
unfolding list_answer list_body
list_short G head None history some = document_short (list_body G (λ _. true)) (list_size G (λ _. true) history some)
list_short G head (Some token) history some = changes_short G (place_of G token) history some

-- ---- the data of zones

value_byte : (b : ℕ) → is_printable b ≡ true → is_value_byte b ≡ true
value_byte b h = grind (arith, nat_tests)

plain_passes : (text : List ℕ) → IsPlain text → list_all is_value_byte text ≡ true
plain_passes [] h = refl
plain_passes (b ∷ bs) h =
    let parts = and_parts (is_printable b) (list_all is_printable bs) h in
    rw (value_byte b parts.0, plain_passes bs parts.1) refl

-- a tag of an entry, with the mark of a format
abbrev marked : List ℕ → List ℕ → List ℕ
marked tag mark = codes "\"" ++ tag ++ codes "." ++ mark ++ [] ++ codes "\""

marked_plain : (tag mark : List ℕ) → IsPlain tag → IsPlain mark → IsPlain (marked tag mark)
marked_plain tag mark h k =
    list_all-append is_printable (codes "\"" ++ tag ++ codes "." ++ mark ++ []) (codes "\"")
    ∙ rw (list_all-append is_printable (codes "\"" ++ tag ++ codes "." ++ mark) [])
    (rw (list_all-append is_printable (codes "\"" ++ tag ++ codes ".") mark)
    (rw (list_all-append is_printable (codes "\"" ++ tag) (codes ".")) (rw (list_all-append is_printable (codes "\"") tag) (rw (h, k) refl))))

tag_fits : (tag mark : List ℕ) → IsShort 32 tag → IsShort 2 mark → IsShortTag (Some (marked tag mark))
tag_fits tag mark short few =
    let one = short.few in
    let two = few.few in (
      omega (
        arith,
        one,
        two,
        length-append (codes "\"" ++ tag ++ codes "." ++ mark ++ []) (codes "\""),
        length-append (codes "\"" ++ tag ++ codes "." ++ mark) [],
        length-append (codes "\"" ++ tag ++ codes ".") mark,
        length-append (codes "\"" ++ tag) (codes "."),
        length-append (codes "\"") tag,
      ),
      plain_passes (marked tag mark) (marked_plain tag mark short.plain few.plain),
    )

data_short : (f : Format) (name : List ℕ) (e : EntryData) → IsShort 32 e.tag → length (whole_data f name e.content) ≤ 5_000_000
    → IsShortAnswer (whole_answer f name e)
unfolding data_tag
data_short format.Calendar name e tag body = record {
  written = written_200;
  media = kind.Calendar;
  typed = refl;
  moved = refl;
  tag = tag_fits e.tag (codes "c2") tag (record { plain = refl; few = omega arith });
  body = body;
}
data_short format.Tzif name e tag body = record {
  written = written_200;
  media = kind.Tzif;
  typed = refl;
  moved = refl;
  tag = tag_fits e.tag (codes "t") tag (record { plain = refl; few = omega arith });
  body = body;
}
data_short format.CalendarJson name e tag body = record {
  written = written_200;
  media = kind.CalendarJson;
  typed = refl;
  moved = refl;
  tag = tag_fits e.tag (codes "j") tag (record { plain = refl; few = omega arith });
  body = body;
}

-- the entry of the zone that has the name
abbrev entry_named : List ReleaseData → List ℕ → Option EntryData
entry_named G name = option_and_then (slice_get (meta G)) (place_named G name)

got_is : (f : Format) (G : List ReleaseData) (head : Head) (name : List ℕ) → IsDataHeadOf f (ask.Get name) head
    → action G Primary head ≡ zone_answer name (entry_named G name) (Some (type_of_format f)) None param.Absent param.Absent
unfolding action get_answer
got_is f G head name k =
    let o = entry_named G name in
    ap (answer_for G Primary head) k.target ∙ ap (λ a. zone_answer name o a head.none_match param.Absent param.Absent) k.accept
    ∙ ap (λ l. zone_answer name o (Some (type_of_format f)) l param.Absent param.Absent) k.none_match

tag_found : (es : List EntryData) (place : Option ℕ) (e : EntryData) → AreShort es → option_and_then (slice_get es) place ≡ Some e → IsShort 32 e.tag
tag_found es None e all h = absurd (cc)
tag_found es (Some i) e all h = (each_at (λ (x : EntryData). IsShortZone (list_zone x)) es i e all h).etag

-- by how long the data of a zone are
module _ (f : Format) (small : (G : List ReleaseData) (name : List ℕ) (head : Head) (bytes : List ℕ) → IsHistory IsSound G → 1 ≤ length G
    → IsDataHeadOf f (ask.Get name) head → IsHeardIn (ask.Get name) (action G Primary head) (heard.Zone bytes) → length bytes ≤ 5_000_000) where
  got_short : (G : List ReleaseData) (head : Head) (name : List ℕ) → IsHistory IsSound G → 1 ≤ length G → IsDataHeadOf f (ask.Get name) head
      → IsShortAnswer (action G Primary head)
  got_short G head name history some k = by (entry_named G name) refl (got_is f G head name k)
    where
      by : (o : Option EntryData) → entry_named G name ≡ o
          → action G Primary head ≡ zone_answer name o (Some (type_of_format f)) None param.Absent param.Absent → IsShortAnswer (action G Primary head)
      by None found is = subst IsShortAnswer (sym is) zone_problem
      by (Some e) found is =
          let whole : action G Primary head ≡ whole_answer f name e = is ∙ zone_told f name e in
          let tag = tag_found (meta G) (place_named G name) e (few_in_history G history).short found in
          let body =
          small G name head (whole_data f name e.content) history some k (ap (λ (a : Answer). a.status) whole, ap (λ (a : Answer). a.body) whole)
          in
          subst IsShortAnswer (sym whole) (data_short f name e tag body)

  pub answer_short : (G : List ReleaseData) (a : Ask) (head : Head) → IsHistory IsSound G → 1 ≤ length G → IsDataHeadOf f a head
      → IsShortAnswer (action G Primary head)
  unfolding action
  answer_short G (ask.List token) head history some k =
      subst (λ asked. IsShortAnswer (answer_for G Primary head asked)) (sym k.target) (list_short G head token history some)
  answer_short G (ask.Get name) head history some k = got_short G head name history some k

  pub replies_short : (G : List ReleaseData) (a : Ask) (head : Head) → IsHistory IsSound G → 1 ≤ length G → IsDataHeadOf f a head
      → length (reply_over G head) < MOST_ANSWER
  replies_short G a head history some k =
      let size = reply_size (action G Primary head) head.head_only head.close (answer_short G a head history some k) in
      omega (arith, size)

-- ---- files and calendars

file_short : (file : List ℕ) → IsSoundFile file → length file ≤ 5_000_000
file_short file sound =
    let most : length file ≤ 65536 = (zone_file_of file (file_clear file sound.no_fault)).size in
    omega (arith, most)

named_sound : (cs : List ContentData) (name : List ℕ) (c : ContentData) → AllByRecursion (λ z. IsSoundFile z.file) cs → named cs name ≡ Some c
    → IsSoundFile c.file
named_sound [] name c files e = absurd (cc)
named_sound (x ∷ xs) name c files e = by (is_name_of name x) (named_sound xs name c files.1) e
  where
    by : (b : Bool) → (named xs name ≡ Some c → IsSoundFile c.file) → cond b (Some x) (named xs name) ≡ Some c → IsSoundFile c.file
    by true later k = let same : x ≡ c = cc in subst (λ (z : ContentData). IsSoundFile z.file) same files.0
    by false later k = later k

sound_zone : (G : List ReleaseData) (name : List ℕ) (c : ContentData) → IsHistory IsSound G → named (zones_of G) name ≡ Some c → IsSoundFile c.file
sound_zone G name c history e = by (last_release G) refl e
  where
    by : (o : Option ReleaseData) → last_release G ≡ o → named (contents_of o) name ≡ Some c → IsSoundFile c.file
    by None is k = absurd (cc)
    by (Some r) is k = named_sound r.contents name c (last_of IsSound G r history is).release.is_sound.files k

-- what is heard is what there is to be told
abbrev pub AreHeard : Type 0
AreHeard =
    (H : List ReleaseData) (a : Ask) (head : Head) (h : Heard) → IsHistory IsSound H → 1 ≤ length H → IsHeadOf a head
    → (told_by action_service H a ≡ Some h) ↔ IsHeardIn a (action H Primary head) h

pub files_small : AreHeard → (G : List ReleaseData) (name : List ℕ) (head : Head) (bytes : List ℕ) → IsHistory IsSound G → 1 ≤ length G
    → IsDataHeadOf format.Tzif (ask.Get name) head → IsHeardIn (ask.Get name) (action G Primary head) (heard.Zone bytes) → length bytes ≤ 5_000_000
files_small heard_so G name head bytes history some k h =
    by (named (zones_of G) name) refl ((heard_so G (ask.Get name) head (heard.Zone bytes) history some k).1 h)
  where
    by : (o : Option ContentData) → named (zones_of G) name ≡ o → option_map file_told (option_map (told_file name) o) ≡ Some (heard.Zone bytes)
        → length bytes ≤ 5_000_000
    by None is e = absurd (cc)
    by (Some c) is e = let same : c.file ≡ bytes = cc in subst (λ l. length l ≤ 5_000_000) same (file_short c.file (sound_zone G name c history is))

-- a calendar that is read is short
read_short : (text : List ℕ) (c : Calendar) → calendar_in text ≡ Ok c → length text ≤ 5_000_000
unfolding calendar_in
read_short text c e = by (nat_lt MOST_BYTES (length text)) refl e
  where
    by : (b : Bool) → nat_lt MOST_BYTES (length text) ≡ b → cond b (Err refused.TooLarge) (of_lines (unfolded text)) ≡ Ok c → length text ≤ 5_000_000
    by true is k = absurd (cc)
    by false is k = let most = ltb-false MOST_BYTES (length text) is in omega (arith, most)

abbrev pub AreRead : Type 0
AreRead =
    (G : List ReleaseData) (name : List ℕ) (h : Heard) → IsHistory IsSound G → 1 ≤ length G → IsCalendarHeardOver G (ask.Get name) h
    → IsCalendarAnswer G name h

pub calendars_small : AreRead → (G : List ReleaseData) (name : List ℕ) (head : Head) (bytes : List ℕ) → IsHistory IsSound G → 1 ≤ length G
    → IsDataHeadOf format.Calendar (ask.Get name) head → IsHeardIn (ask.Get name) (action G Primary head) (heard.Zone bytes) → length bytes ≤ 5_000_000
calendars_small read_so G name head bytes history some k h =
    let is = read_so G name (heard.Zone bytes) history some (record { head = head; asks_so = k; hears = h }) in
    let same : is.text ≡ bytes = let e = is.is_heard in cc in
    subst (λ l. length l ≤ 5_000_000) same (read_short is.text is.is_calendar.calendar is.is_calendar.reads)
