-- The lines of a calendar that was written lead to the calendar.
use Rattle.std.proofs.Common.{◌≡◌, ℕ, ◌<◌, ◌≤◌, nat_le, nat_lt, Bool, true, false, not, ◌&&◌, if◌then◌else◌, List, [], ◌∷◌, ◌++◌, length}
use Rattle.std.proofs.Common.{codes, refl, sym, ap, ◌∙◌, subst, arith, append_assoc, append-nil, Option, None, Some, Ok}
use Rattle.std.specs.List.{AllByRecursion, flat_map, list_all}
use Rattle.std.specs.Option.{IfSome}
use Rattle.std.proofs.lemmas.Bool.{cond-true, cond-false, and_from, and_parts, lt-ltb}
use Rattle.std.proofs.lemmas.Bool.Decides.{nat_tests}
use Rattle.td_base.specs.Names.{is_identifier, is_printable}
use Rattle.td_base.proofs.lemmas.PlainLemmas.{identifier_is_plain}
use Rattle.td_civil.specs.declared.moment_type.Moment.{Moment}
use Rattle.td_civil.specs.Bounds.{IsWithinBounds}
use Rattle.td_civil.proofs.lemmas.Shown.{bounds_text}
use Rattle.ical_lines.specs.Unfolding.{is_feed, unfolded}
use Rattle.recurrence.specs.declared.part_types.Part.{Part}
use Rattle.vtimezone_reader.specs.declared.calendar_type.Calendar.{Calendar}
use Rattle.vtimezone_reader.specs.declared.calendar_type.TheConstants.{MOST_BYTES}
use Rattle.vtimezone_reader.specs.declared.zone_lines.OpenZone.{OpenZone}
use Rattle.vtimezone_reader.specs.declared.standing.Standing.TheVariants as at
use Rattle.vtimezone.specs.CalendarText.{IsLineText, IsReadable, line, part_lines, head_lines, alias_lines, end_lines, tail_lines, calendar_lines, calendar}
use Rattle.vtimezone_reader.specs.ContentLines.{is_word}
use Rattle.vtimezone_reader.specs.PartLines.{is_visible, name_in}
use Rattle.vtimezone_reader.specs.ReadLines.{begun_zone, identifier_in, zone_line, with_part, has_part, calendar_of, in_zone, step}
use Rattle.vtimezone_reader.specs.ReadLines.{lines_read, of_lines, calendar_in}
use Rattle.vtimezone.specs.ReadValues.{utc_in}
use Rattle.vtimezone.specs.Values.{utc_basic}
use Rattle.vtimezone_reader.specs.Written.{IsWrittenPart, written_calendar}
use Rattle.vtimezone.proofs.lemmas.ValuesBack.{utc_back}
use Rattle.vtimezone_reader.proofs.Leading.{Leads, leads_nothing, leads_on, leads_line}
use Rattle.vtimezone_reader.proofs.PartsBack.{part_leads, valid_rule}

abbrev with_parts : OpenZone → List Part → OpenZone
with_parts z ps = record z { parts = z.parts ++ ps }

parts_leads : (z : OpenZone) (ps : List Part) → AllByRecursion IsWrittenPart ps → Leads (at.InZone z) (flat_map part_lines ps) (at.InZone (with_parts z ps))
parts_leads z [] h =
    let To : List Part → Type 0 = λ qs. Leads (at.InZone z) [] (at.InZone (record z { parts = qs })) in
    subst To (sym (append-nil z.parts)) (leads_nothing (at.InZone z))
parts_leads z (p ∷ ps) h =
    let To : List Part → Type 0 = λ qs. Leads (at.InZone z) (part_lines p ++ flat_map part_lines ps) (at.InZone (record z { parts = qs })) in
    subst To (append_assoc z.parts (p ∷ []) ps)
    (leads_on (at.InZone z) (at.InZone (with_part z p)) (at.InZone (with_parts (with_part z p) ps)) (part_lines p) (flat_map part_lines ps)
    (part_leads z p h.0) (parts_leads (with_part z p) ps h.1))

outside_step : step at.Outside (codes "BEGIN") (codes "VCALENDAR") ≡ Ok at.InCalendar
unfolding step is_word
outside_step = refl

version_step : step at.InCalendar (codes "VERSION") (codes "2.0") ≡ Ok at.InCalendar
unfolding step is_word
version_step = refl

product_step : step at.InCalendar (codes "PRODID") (codes "-//tzdistd//RFC 7808//EN") ≡ Ok at.InCalendar
unfolding step is_word
product_step = refl

zone_step : step at.InCalendar (codes "BEGIN") (codes "VTIMEZONE") ≡ Ok (at.InZone begun_zone)
unfolding step is_word
zone_step = refl

identified : (text : List ℕ) → is_identifier text ≡ true → identifier_in text ≡ Some text
identified text e = cond-true (is_identifier text) (Some text) None e

tzid_step : (z : OpenZone) (text : List ℕ) → z.tzid ≡ None → identifier_in text ≡ Some text
    → step (at.InZone z) (codes "TZID") text ≡ Ok (at.InZone (record z { tzid = Some text }))
unfolding step in_zone zone_line is_word
tzid_step z text none e = rw (none, e) refl

alias_step : (z : OpenZone) (text : List ℕ) → z.alias_of ≡ None → identifier_in text ≡ Some text
    → step (at.InZone z) (codes "TZID-ALIAS-OF") text ≡ Ok (at.InZone (record z { alias_of = Some text }))
unfolding step in_zone zone_line is_word
alias_step z text none e = rw (none, e) refl

until_step : (z : OpenZone) (text : List ℕ) (m : Moment) → z.until ≡ None → utc_in text ≡ Some m
    → step (at.InZone z) (codes "TZUNTIL") text ≡ Ok (at.InZone (record z { until = Some m }))
unfolding step in_zone zone_line is_word
until_step z text m none e = rw (none, e) refl

end_zone_step : (z : OpenZone) (c : Calendar) → has_part z ≡ true → calendar_of z ≡ Ok c
    → step (at.InZone z) (codes "END") (codes "VTIMEZONE") ≡ Ok (at.AfterZone c)
unfolding step in_zone is_word
end_zone_step z c some e = rw (some, e) refl

end_step_of : (c : Calendar) → step (at.AfterZone c) (codes "END") (codes "VCALENDAR") ≡ Ok (at.Ended c)
unfolding step is_word
end_step_of c = refl

abbrev zone_named : List ℕ → OpenZone
zone_named tzid = record begun_zone { tzid = Some tzid }

head_leads : (tzid : List ℕ) → is_identifier tzid ≡ true → Leads at.Outside (head_lines tzid) (at.InZone (zone_named tzid))
unfolding head_lines
head_leads tzid e =
    let a = at.InCalendar in
    let z = at.InZone begun_zone in
    let now = at.InZone (zone_named tzid) in
    let l1 = line (codes "BEGIN") (codes "VCALENDAR") in
    let l2 = line (codes "VERSION") (codes "2.0") in
    let l3 = line (codes "PRODID") (codes "-//tzdistd//RFC 7808//EN") in
    let l4 = line (codes "BEGIN") (codes "VTIMEZONE") in
    let l5 = line (codes "TZID") tzid in
    leads_on at.Outside a now (l1 ∷ []) (l2 ∷ l3 ∷ l4 ∷ l5 ∷ []) (leads_line at.Outside a (codes "BEGIN") (codes "VCALENDAR") refl outside_step)
    (leads_on a a now (l2 ∷ []) (l3 ∷ l4 ∷ l5 ∷ []) (leads_line a a (codes "VERSION") (codes "2.0") refl version_step)
    (leads_on a a now (l3 ∷ []) (l4 ∷ l5 ∷ []) (leads_line a a (codes "PRODID") (codes "-//tzdistd//RFC 7808//EN") refl product_step)
    (leads_on a z now (l4 ∷ []) (l5 ∷ []) (leads_line a z (codes "BEGIN") (codes "VTIMEZONE") refl zone_step)
    (leads_line z now (codes "TZID") tzid refl (tzid_step begun_zone tzid refl (identified tzid e))))))

alias_leads : (z : OpenZone) (alias_of : Option (List ℕ)) → z.alias_of ≡ None → IfSome alias_of (λ t. is_identifier t ≡ true)
    → Leads (at.InZone z) (alias_lines alias_of) (at.InZone (record z { alias_of = alias_of }))
unfolding alias_lines
alias_leads z None none h =
    let same : record z { alias_of = None } ≡ z = rw (sym none) refl in
    let To : OpenZone → Type 0 = λ q. Leads (at.InZone z) [] (at.InZone q) in
    subst To (sym same) (leads_nothing (at.InZone z))
alias_leads z (Some tzid) none h =
    leads_line (at.InZone z) (at.InZone (record z { alias_of = Some tzid })) (codes "TZID-ALIAS-OF") tzid refl (alias_step z tzid none (identified tzid h))

until_leads : (z : OpenZone) (until : Option Moment) → z.until ≡ None → IfSome until (λ m. IsWithinBounds m.seconds)
    → Leads (at.InZone z) (end_lines until) (at.InZone (record z { until = until }))
unfolding end_lines
until_leads z None none h =
    let same : record z { until = None } ≡ z = rw (sym none) refl in
    let To : OpenZone → Type 0 = λ q. Leads (at.InZone z) [] (at.InZone q) in
    subst To (sym same) (leads_nothing (at.InZone z))
until_leads z (Some end) none h =
    leads_line (at.InZone z) (at.InZone (record z { until = Some end })) (codes "TZUNTIL") (utc_basic end.seconds) refl
    (until_step z (utc_basic end.seconds) end none (utc_back end (bounds_text end.seconds h)))

tail_leads : (z : OpenZone) (c : Calendar) → has_part z ≡ true → calendar_of z ≡ Ok c → Leads (at.InZone z) tail_lines (at.Ended c)
unfolding tail_lines
tail_leads z c some e =
    leads_on (at.InZone z) (at.AfterZone c) (at.Ended c) (line (codes "END") (codes "VTIMEZONE") ∷ []) (line (codes "END") (codes "VCALENDAR") ∷ [])
    (leads_line (at.InZone z) (at.AfterZone c) (codes "END") (codes "VTIMEZONE") refl (end_zone_step z c some e))
    (leads_line (at.AfterZone c) (at.Ended c) (codes "END") (codes "VCALENDAR") refl (end_step_of c))

ended : (n : ℕ) (c : Calendar) → lines_read n (at.Ended c) [] ≡ Ok c
unfolding lines_read
ended n c = refl

lines_back : (tzid : List ℕ) (alias_of : Option (List ℕ)) (parts : List Part) (until : Option Moment) → is_identifier tzid ≡ true
    → IfSome alias_of (λ t. is_identifier t ≡ true) → 0 < length parts → AllByRecursion IsWrittenPart parts → IfSome until (λ m. IsWithinBounds m.seconds)
    → lines_read 0 at.Outside (calendar_lines tzid alias_of parts until) ≡ Ok (written_calendar tzid alias_of parts until)
unfolding calendar_lines
lines_back tzid alias_of parts until named also some each end =
    let first = head_lines tzid ++ alias_lines alias_of in
    let second = first ++ end_lines until in
    let third = second ++ flat_map part_lines parts in
    let a = zone_named tzid in
    let b = record a { alias_of = alias_of } in
    let c = record b { until = until } in
    let d = with_parts c parts in
    let whole = written_calendar tzid alias_of parts until in
    let leads = leads_on at.Outside (at.InZone d) (at.Ended whole) third tail_lines
    (leads_on at.Outside (at.InZone c) (at.InZone d) second (flat_map part_lines parts)
    (leads_on at.Outside (at.InZone b) (at.InZone c) first (end_lines until)
    (leads_on at.Outside (at.InZone a) (at.InZone b) (head_lines tzid) (alias_lines alias_of) (head_leads tzid named) (alias_leads a alias_of refl also))
    (until_leads b until refl end))
    (parts_leads c parts each))
    (tail_leads d whole (lt-ltb _ _ some) refl) in
    let read = leads 0 [] in
    ap (lines_read 0 at.Outside) (sym (append-nil (third ++ tail_lines))) ∙ read.1 ∙ ended read.0 whole

printable_is_no_feed : (b : ℕ) → is_printable b ≡ true → not (is_feed b) ≡ true
printable_is_no_feed b e = grind (arith, nat_tests)

plain_line : (text : List ℕ) → list_all is_printable text ≡ true → IsLineText text
plain_line [] e = refl
plain_line (b ∷ bs) e =
    let both = and_parts (is_printable b) (list_all is_printable bs) e in
    and_from (not (is_feed b)) (list_all (λ c. not (is_feed c)) bs) (printable_is_no_feed b both.0) (plain_line bs both.1)

pub line_text : (text : List ℕ) → is_identifier text ≡ true → IsLineText text
line_text text e = plain_line text (identifier_is_plain text e)

pub alias_line : (o : Option (List ℕ)) → IfSome o (λ t. is_identifier t ≡ true) → IfSome o IsLineText
alias_line None h = tt
alias_line (Some t) h = line_text t h

visible_is_no_feed : (b : ℕ) → is_visible b ≡ true → not (is_feed b) ≡ true
visible_is_no_feed b e = grind (arith, nat_tests)

all_visible : (text : List ℕ) → list_all is_visible text ≡ true → IsLineText text
all_visible [] e = refl
all_visible (b ∷ bs) e =
    let both = and_parts (is_visible b) (list_all is_visible bs) e in
    and_from (not (is_feed b)) (list_all (λ c. not (is_feed c)) bs) (visible_is_no_feed b both.0) (all_visible bs both.1)

passes_if : {A : Type 0} (test : Bool) (x : A) (y : Option A) → (if test then Some x else None) ≡ y → y ≡ Some x → test ≡ true
passes_if true x y e is = refl
passes_if false x y e is = absurd (cc)

visible_line : (text : List ℕ) → name_in text ≡ Some text → IsLineText text
visible_line text e =
    let test = passes_if (nat_le (length text) 32 && list_all is_visible text) text (name_in text) refl e in
    all_visible text ((and_parts (nat_le (length text) 32) (list_all is_visible text) test).1)

pub readable : (ps : List Part) → AllByRecursion IsWrittenPart ps → AllByRecursion IsReadable ps
readable [] h = tt
readable (p ∷ ps) h = (record { name = visible_line p.name h.0.name; rule = valid_rule p p.rule h.0.sound.rule }, readable ps h.1)

-- the text that was written is read as the calendar
pub text_back : (tzid : List ℕ) (alias_of : Option (List ℕ)) (parts : List Part) (until : Option Moment) → is_identifier tzid ≡ true
    → IfSome alias_of (λ t. is_identifier t ≡ true) → 0 < length parts → AllByRecursion IsWrittenPart parts → IfSome until (λ m. IsWithinBounds m.seconds)
    → length (calendar tzid alias_of parts until) ≤ MOST_BYTES
    → unfolded (calendar tzid alias_of parts until) ≡ Ok (calendar_lines tzid alias_of parts until)
    → calendar_in (calendar tzid alias_of parts until) ≡ Ok (written_calendar tzid alias_of parts until)
unfolding calendar_in
text_back tzid alias_of parts until named also some each end short lines =
    let text = calendar tzid alias_of parts until in
    cond-false (nat_lt MOST_BYTES (length text)) _ (of_lines (unfolded text)) (not_over MOST_BYTES (length text) short)
    ∙ ap of_lines lines
    ∙ lines_back tzid alias_of parts until named also some each end
  where
    not_over : (most n : ℕ) → n ≤ most → nat_lt most n ≡ false
    not_over most n h = grind (arith, nat_tests)
