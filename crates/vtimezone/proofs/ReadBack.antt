-- The text of a calendar is read as its lines.
use Rattle.std.proofs.Common.{◌≡◌, inl, inr, ℕ, ◌%◌, ◌/◌, ◌==◌, Bool, true, not, refl, ◌∙◌, ℤ, pos, int_lt, unsigned_abs, Option, None, Some, Ok, List, []}
use Rattle.std.proofs.Common.{◌∷◌, ◌++◌, codes}
use Rattle.std.specs.List.{list_all, flat_map, AllByRecursion}
use Rattle.std.specs.Option.{IfSome}
use Rattle.std.proofs.lemmas.Bool.{cond_both, and_from}
use Rattle.std.proofs.lemmas.List.Folds.{list_all-append}
use Rattle.td_civil.specs.declared.moment_type.Moment.{Moment}
use Rattle.td_civil.specs.Calendar.{local_text_of}
use Rattle.td_civil.specs.Stamp.{two_digits}
use Rattle.ical_lines.specs.Unfolding.{begins_blank, is_plain, unfolded}
use Rattle.ical_lines.proofs.lemmas.LawLemmas.{reads_back}
use Rattle.recurrence.specs.declared.part_types.Part.{Part}
use Rattle.recurrence.specs.declared.rule_types.Rule.{Rule}
use Rattle.recurrence.specs.Valid.{IsValidForm}
use Rattle.vtimezone.specs.CalendarText.{line, kind_of, start_line, change_lines, date_lines, rule_lines}
use Rattle.vtimezone.specs.CalendarText.{part_lines, head_lines, alias_lines, end_lines, tail_lines}
use Rattle.vtimezone.specs.CalendarText.{calendar_lines, calendar, IsLineText, IsReadable}
use Rattle.vtimezone.specs.Values.{sign_of, seconds_text, dates_text, offset_text, utc_basic, rule_text}
use Rattle.vtimezone.proofs.lemmas.NumbersBack.{uncut, uncut-append, IsSeparator, two_uncut, local_uncut, dates_uncut, utc_uncut}
use Rattle.vtimezone.proofs.RulesBack.{rule_on_a_line}

sign_uncut : (z : ℤ) → not (sign_of z == 10) ≡ true
sign_uncut z = cond_both (int_lt z (pos 0)) 45 43 (λ b. not (b == 10) ≡ true) (λ _. refl) (λ _. refl)

offset_uncut : (z : ℤ) → uncut 10 (offset_text z) ≡ true
unfolding offset_text
offset_uncut z =
    let size = unsigned_abs z in
    let feed : IsSeparator 10 = inr (inl refl) in
    let hours = sign_of z ∷ two_digits (size / 3600) in
    let both = hours ++ two_digits (size % 3600 / 60) in
    uncut-append 10 both (seconds_text (size % 60))
    (uncut-append 10 hours (two_digits (size % 3600 / 60))
    (and_from (not (sign_of z == 10)) (uncut 10 (two_digits (size / 3600))) (sign_uncut z) (two_uncut 10 (size / 3600) feed))
    (two_uncut 10 (size % 3600 / 60) feed))
    (cond_both (size % 60 == 0) [] (two_digits (size % 60)) (λ t. uncut 10 t ≡ true) (λ _. refl) (λ _. two_uncut 10 (size % 60) feed))

kind_uncut : (dst : Bool) → uncut 10 (kind_of dst) ≡ true
kind_uncut dst = cond_both dst (codes "DAYLIGHT") (codes "STANDARD") (λ t. uncut 10 t ≡ true) (λ _. refl) (λ _. refl)

-- a line whose name is a word
line_plain : (name value : List ℕ) → uncut 10 name ≡ true → not (begins_blank (line name value)) ≡ true → uncut 10 value ≡ true
    → is_plain (line name value) ≡ true
line_plain name value named begins h =
    and_from (uncut 10 (line name value)) (not (begins_blank (line name value))) (uncut-append 10 name (58 ∷ value) named h) begins

abbrev plain : List (List ℕ) → Bool
plain lines = list_all is_plain lines

plain-append : (a b : List (List ℕ)) → plain a ≡ true → plain b ≡ true → plain (a ++ b) ≡ true
plain-append a b x y = list_all-append is_plain a b ∙ and_from (plain a) (plain b) x y

plain-cons : (l : List ℕ) (ls : List (List ℕ)) → is_plain l ≡ true → plain ls ≡ true → plain (l ∷ ls) ≡ true
plain-cons l ls x y = and_from (is_plain l) (plain ls) x y

change_plain : (p : Part) → IsLineText p.name → plain (change_lines p) ≡ true
unfolding change_lines start_line
change_plain p name =
    let start = line (codes "DTSTART") (local_text_of p.start.seconds p.from) in
    let from = line (codes "TZOFFSETFROM") (offset_text p.from) in
    let to = line (codes "TZOFFSETTO") (offset_text p.to) in
    let named = line (codes "TZNAME") p.name in
    plain-cons start (from ∷ to ∷ named ∷ [])
    (line_plain (codes "DTSTART") (local_text_of p.start.seconds p.from) refl refl (local_uncut 10 p.start.seconds p.from (inr (inl refl))))
    (plain-cons from (to ∷ named ∷ []) (line_plain (codes "TZOFFSETFROM") (offset_text p.from) refl refl (offset_uncut p.from))
    (plain-cons to (named ∷ []) (line_plain (codes "TZOFFSETTO") (offset_text p.to) refl refl (offset_uncut p.to))
    (plain-cons named [] (line_plain (codes "TZNAME") p.name refl refl name) refl)))

date_plain : (dates : List Moment) (offset : ℤ) → plain (date_lines dates offset) ≡ true
unfolding date_lines
date_plain [] offset = refl
date_plain (first ∷ dates) offset = plain-cons (line (codes "RDATE") (dates_text first dates offset)) []
    (line_plain (codes "RDATE") (dates_text first dates offset) refl refl (dates_uncut first dates offset)) refl

rule_plain : (rule : Option Rule) (until : Option Moment) → IfSome rule (λ r. IsValidForm r.form) → plain (rule_lines rule until) ≡ true
unfolding rule_lines
rule_plain None until h = refl
rule_plain (Some rule) until h = plain-cons (line (codes "RRULE") (rule_text rule until)) []
    (line_plain (codes "RRULE") (rule_text rule until) refl refl (rule_on_a_line rule until h)) refl

part_plain : (p : Part) → IsReadable p → plain (part_lines p) ≡ true
unfolding part_lines
part_plain p h =
    let begin = line (codes "BEGIN") (kind_of p.dst) in
    let end = line (codes "END") (kind_of p.dst) in
    let change = begin ∷ change_lines p in
    let dated = change ++ date_lines p.dates p.from in
    plain-append (dated ++ rule_lines p.rule p.until) (end ∷ [])
    (plain-append dated (rule_lines p.rule p.until)
    (plain-append change (date_lines p.dates p.from)
    (plain-cons begin (change_lines p) (line_plain (codes "BEGIN") (kind_of p.dst) refl refl (kind_uncut p.dst)) (change_plain p h.name))
    (date_plain p.dates p.from))
    (rule_plain p.rule p.until h.rule))
    (plain-cons end [] (line_plain (codes "END") (kind_of p.dst) refl refl (kind_uncut p.dst)) refl)

parts_plain : (ps : List Part) → AllByRecursion IsReadable ps → plain (flat_map part_lines ps) ≡ true
parts_plain [] h = refl
parts_plain (p ∷ ps) h = plain-append (part_lines p) (flat_map part_lines ps) (part_plain p h.0) (parts_plain ps h.1)

alias_plain : (alias_of : Option (List ℕ)) → IfSome alias_of IsLineText → plain (alias_lines alias_of) ≡ true
unfolding alias_lines
alias_plain None h = refl
alias_plain (Some tzid) h = plain-cons (line (codes "TZID-ALIAS-OF") tzid) [] (line_plain (codes "TZID-ALIAS-OF") tzid refl refl h) refl

end_plain : (until : Option Moment) → plain (end_lines until) ≡ true
unfolding end_lines
end_plain None = refl
end_plain (Some end) = plain-cons (line (codes "TZUNTIL") (utc_basic end.seconds)) []
    (line_plain (codes "TZUNTIL") (utc_basic end.seconds) refl refl (utc_uncut 10 end.seconds (inr (inl refl)))) refl

head_plain : (tzid : List ℕ) → IsLineText tzid → plain (head_lines tzid) ≡ true
unfolding head_lines
head_plain tzid h = plain-cons (line (codes "TZID") tzid) [] (line_plain (codes "TZID") tzid refl refl h) refl

tail_plain : plain tail_lines ≡ true
unfolding tail_lines
tail_plain = refl

pub calendar_read_back : (tzid : List ℕ) (alias_of : Option (List ℕ)) (parts : List Part) (until : Option Moment)
    → IsLineText tzid → IfSome alias_of IsLineText → AllByRecursion IsReadable parts
    → unfolded (calendar tzid alias_of parts until) ≡ Ok (calendar_lines tzid alias_of parts until)
unfolding calendar_lines
calendar_read_back tzid alias_of parts until h also each =
    let first = head_lines tzid ++ alias_lines alias_of in
    let second = first ++ end_lines until in
    let third = second ++ flat_map part_lines parts in
    let first_plain = plain-append (head_lines tzid) (alias_lines alias_of) (head_plain tzid h) (alias_plain alias_of also) in
    let second_plain = plain-append first (end_lines until) first_plain (end_plain until) in
    let third_plain = plain-append second (flat_map part_lines parts) second_plain (parts_plain parts each) in
    reads_back (third ++ tail_lines) (plain-append third tail_lines third_plain tail_plain)
