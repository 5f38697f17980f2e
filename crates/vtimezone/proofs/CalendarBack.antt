-- The text of a calendar spells what was written.
use Rattle.std.proofs.Common.{◌≡◌, ℕ, suc, ◌<◌, ◌-◌, Bool, true, false, not, ◌&&◌, refl, sym, ap, ◌∙◌, append_assoc, append-nil, arith}
use Rattle.std.proofs.Common.{ℤ, Option, None, Some, List, [], ◌∷◌, ◌++◌, codes, length, map, take, drop}
use Rattle.std.specs.List.{All, list_all, flat_map, AllByRecursion}
use Rattle.std.specs.Option.{IfSome, option_map, option_and_then}
use Rattle.std.specs.Result.{result_ok}
use Rattle.std.specs.Str.{bytes_eq}
use Rattle.std.proofs.lemmas.Bool.{cond-true, and_from, and_parts}
use Rattle.std.proofs.lemmas.Bool.Decides.{nat_tests}
use Rattle.std.proofs.Math.Seq.{drop-append_seam}
use Rattle.std.proofs.lemmas.List.{length-append, take_at, drop_at}
use Rattle.jiff_core.specs.Calendar.{IsWithin}
use Rattle.td_civil.specs.declared.moment_type.Moment.{Moment}
use Rattle.td_civil.specs.Bounds.{IsWithinBounds}
use Rattle.td_civil.specs.Calendar.{local_text_of}
use Rattle.td_civil.proofs.lemmas.Shown.{bounds_text, local_bounds_text}
use Rattle.ical_lines.specs.Unfolding.{is_feed}
use Rattle.recurrence.specs.declared.part_types.Part.{Part}
use Rattle.recurrence.specs.declared.rule_types.Rule.{Rule}
use Rattle.recurrence.specs.AllRead.{all_read, put_before}
use Rattle.recurrence.specs.PartFields.{Recur, part_with_fields}
use Rattle.recurrence.specs.Spellable.{is_safe, IsSafe, IsSpellable}
use Rattle.recurrence.specs.Spelling.{spelling_with}
use Rattle.recurrence.specs.Valid.{IsValidForm}
use Rattle.recurrence.proofs.lemmas.AllRead.{read_more, read_append}
use Rattle.recurrence.proofs.lemmas.PartFields.{local_at, recur_for, part_back}
use Rattle.vtimezone.specs.CalendarText.{line, kind_of, start_line, change_lines, date_lines, rule_lines}
use Rattle.vtimezone.specs.CalendarText.{part_lines, head_lines, alias_lines, end_lines, tail_lines}
use Rattle.vtimezone.specs.CalendarText.{calendar_lines, calendar, IsLineText, IsReadable}
use Rattle.vtimezone.specs.Cutting.{Named, cut_first}
use Rattle.vtimezone.specs.ReadRules.{recur_in_value}
use Rattle.vtimezone.specs.ReadValues.{local_in, locals_in, offset_in, text_value}
use Rattle.vtimezone.specs.Spelled.{dates_in, part_of_lines, is_end_line}
use Rattle.vtimezone.specs.Spelled.{parts_among, inside, zone_spelled}
use Rattle.vtimezone.specs.Spelled.{calendar_spelled, spelled_by, spelled}
use Rattle.vtimezone.specs.Values.{dates_text, offset_text, utc_basic, rule_text}
use Rattle.vtimezone.proofs.lemmas.NumbersBack.{local_texts, dates_cut}
use Rattle.vtimezone.proofs.ReadBack.{calendar_read_back}
use Rattle.vtimezone.proofs.RulesBack.{recur_back}
use Rattle.vtimezone.proofs.lemmas.ValuesBack.{local_back, utc_back, offset_back, text_back}

abbrev pub named : List ℕ → List ℕ → Named
named name value = record { name = name; value = value }

-- ---- the lines of a part, cut at their colons

abbrev pub change_named : Part → List Named
change_named p =
    named (codes "DTSTART") (local_text_of p.start.seconds p.from) ∷ named (codes "TZOFFSETFROM") (offset_text p.from)
    ∷ named (codes "TZOFFSETTO") (offset_text p.to) ∷ named (codes "TZNAME") p.name ∷ []

abbrev pub dates_named : List Moment → ℤ → List Named
dates_named [] offset = []
dates_named (first ∷ dates) offset = named (codes "RDATE") (dates_text first dates offset) ∷ []

abbrev pub rule_named : Option Rule → Option Moment → List Named
rule_named None until = []
rule_named (Some rule) until = named (codes "RRULE") (rule_text rule until) ∷ []

abbrev pub content_named : Part → List Moment → Option Rule → List Named
content_named p dates rule = change_named p ++ dates_named dates p.from ++ rule_named rule p.until

abbrev pub group_named : Part → Bool → List Moment → Option Rule → List Named
group_named p dst dates rule =
    named (codes "BEGIN") (kind_of dst) ∷ change_named p ++ dates_named dates p.from ++ rule_named rule p.until
    ++ named (codes "END") (kind_of dst) ∷ []

abbrev pub part_named : Part → List Named
part_named p = group_named p p.dst p.dates p.rule

dates_are_cut : (dates : List Moment) (offset : ℤ) → all_read (cut_first 58) (date_lines dates offset) ≡ Some (dates_named dates offset)
unfolding date_lines
dates_are_cut [] offset = refl
dates_are_cut (first ∷ dates) offset = refl

rule_cut : (rule : Option Rule) (until : Option Moment) → all_read (cut_first 58) (rule_lines rule until) ≡ Some (rule_named rule until)
unfolding rule_lines
rule_cut None until = refl
rule_cut (Some rule) until = refl

part_cut : (p : Part) → all_read (cut_first 58) (part_lines p) ≡ Some (part_named p)
unfolding part_lines change_lines start_line
part_cut p =
    let f = cut_first 58 in
    let first = line (codes "BEGIN") (kind_of p.dst) ∷ change_lines p in
    let begin = named (codes "BEGIN") (kind_of p.dst) ∷ change_named p in
    let dates = date_lines p.dates p.from in
    let rule = rule_lines p.rule p.until in
    read_append f ((first ++ dates) ++ rule) (line (codes "END") (kind_of p.dst) ∷ [])
    ((begin ++ dates_named p.dates p.from) ++ rule_named p.rule p.until) (named (codes "END") (kind_of p.dst) ∷ [])
    (read_append f (first ++ dates) rule (begin ++ dates_named p.dates p.from) (rule_named p.rule p.until)
    (read_append f first dates begin (dates_named p.dates p.from) refl (dates_are_cut p.dates p.from)) (rule_cut p.rule p.until)) refl

parts_cut : (ps : List Part) → all_read (cut_first 58) (flat_map part_lines ps) ≡ Some (flat_map part_named ps)
parts_cut [] = refl
parts_cut (p ∷ ps) = read_append (cut_first 58) (part_lines p) (flat_map part_lines ps) (part_named p) (flat_map part_named ps) (part_cut p) (parts_cut ps)

-- ---- the lines of a group give its part

abbrev dates_read : List Moment → ℤ → Option (List ℤ)
dates_read [] offset = dates_in []
dates_read (first ∷ dates) offset = dates_in (dates_text first dates offset ∷ [])

abbrev rule_read : Option Rule → Option Moment → Option (Option Recur)
rule_read None until = Some None
rule_read (Some rule) until = option_map Some (recur_in_value (rule_text rule until))

texts_back : (dates : List Moment) (offset : ℤ) → AllByRecursion (λ d. IsWithinBounds d.seconds) dates → IsWithin 86399 offset
    → all_read local_in (local_texts dates offset) ≡ Some (map (local_at offset) dates)
texts_back [] offset h within = refl
texts_back (d ∷ ds) offset h within =
    read_more local_in (local_text_of d.seconds offset) (local_texts ds offset) (local_at offset d) (map (local_at offset) ds)
    (local_back d.seconds offset (local_bounds_text d.seconds offset h.0 within)) (texts_back ds offset h.1 within)

dates_given : (dates : List Moment) (offset : ℤ) → AllByRecursion (λ d. IsWithinBounds d.seconds) dates → IsWithin 86399 offset
    → dates_read dates offset ≡ Some (map (local_at offset) dates)
unfolding locals_in
dates_given [] offset h within = refl
dates_given (first ∷ dates) offset h within =
    let all = map (local_at offset) (first ∷ dates) in
    ap (λ ts. option_map (flat_map (λ (l : List ℤ). l)) (put_before (all_read local_in ts) (Some []))) (dates_cut first dates offset)
    ∙ ap (λ o. option_map (flat_map (λ (l : List ℤ). l)) (put_before o (Some []))) (texts_back (first ∷ dates) offset h within)
    ∙ ap Some (append-nil all)

rule_given : (rule : Option Rule) (until : Option Moment) → IfSome rule (λ r. IsValidForm r.form) → IfSome until (λ m. IsWithinBounds m.seconds)
    → rule_read rule until ≡ Some (recur_for rule until)
rule_given None until h within = refl
rule_given (Some rule) until h within = ap (option_map Some) (recur_back rule until h within)

content_read : (p : Part) (dates : List Moment) (rule : Option Rule)
    → part_of_lines p.dst (content_named p dates rule)
    ≡ part_with_fields p.dst (local_in (local_text_of p.start.seconds p.from)) (offset_in (offset_text p.from)) (offset_in (offset_text p.to))
    (text_value p.name) (dates_read dates p.from) (rule_read rule p.until)
unfolding part_of_lines
content_read p [] None = refl
content_read p [] (Some rule) = refl
content_read p (first ∷ dates) None = refl
content_read p (first ∷ dates) (Some rule) = refl

each_within : (ds : List Moment) → All (λ d. IsWithinBounds d.seconds) ds → AllByRecursion (λ d. IsWithinBounds d.seconds) ds
each_within [] h = tt
each_within (d ∷ ds) h = (h 0 d (omega arith), each_within ds (λ i e lt. h (suc i) e (omega arith)))

part_with_same : (dst : Bool) (s s₂ f f₂ t t₂ : Option ℤ) (n n₂ : Option (List ℕ)) (d d₂ : Option (List ℤ)) (r r₂ : Option (Option Recur))
    → s ≡ s₂ → f ≡ f₂ → t ≡ t₂ → n ≡ n₂ → d ≡ d₂ → r ≡ r₂ → part_with_fields dst s f t n d r ≡ part_with_fields dst s₂ f₂ t₂ n₂ d₂ r₂
part_with_same dst s s₂ f f₂ t t₂ n n₂ d d₂ r r₂ start from to name dates recur = rw (start, from, to, name, dates, recur) refl

content_back : (p : Part) → IsSpellable p → part_of_lines p.dst (content_named p p.dates p.rule) ≡ Some p
content_back p h =
    let w = h.writable in
    content_read p p.dates p.rule
    ∙ part_with_same p.dst _ _ _ _ _ _ _ _ _ _ _ _
    (local_back p.start.seconds p.from (local_bounds_text p.start.seconds p.from w.start w.from))
    (offset_back p.from w.from)
    (offset_back p.to w.to)
    (text_back p.name h.name)
    (dates_given p.dates p.from (each_within p.dates w.dates) w.from)
    (rule_given p.rule p.until w.rule w.until)
    ∙ part_back p h.time

group_read : (p : Part) (dst : Bool) (dates : List Moment) (rule : Option Rule) (rest : List Named)
    → parts_among None [] (group_named p dst dates rule ++ rest)
    ≡ put_before (part_of_lines dst (content_named p dates rule)) (parts_among None [] rest)
unfolding parts_among
group_read p true [] None rest = refl
group_read p true [] (Some rule) rest = refl
group_read p true (first ∷ dates) None rest = refl
group_read p true (first ∷ dates) (Some rule) rest = refl
group_read p false [] None rest = refl
group_read p false [] (Some rule) rest = refl
group_read p false (first ∷ dates) None rest = refl
group_read p false (first ∷ dates) (Some rule) rest = refl

no_parts : parts_among None [] [] ≡ Some []
unfolding parts_among
no_parts = refl

parts_read : (ps : List Part) → AllByRecursion IsSpellable ps → parts_among None [] (flat_map part_named ps) ≡ Some ps
parts_read [] h = no_parts
parts_read (p ∷ ps) h =
    group_read p p.dst p.dates p.rule (flat_map part_named ps)
    ∙ ap (λ o. put_before o (parts_among None [] (flat_map part_named ps))) (content_back p h.0)
    ∙ ap (put_before (Some p)) (parts_read ps h.1)

-- ---- the lines around the parts

abbrev pub head_named : List ℕ → List Named
head_named tzid =
    named (codes "BEGIN") (codes "VCALENDAR") ∷ named (codes "VERSION") (codes "2.0") ∷ named (codes "PRODID") (codes "-//tzdistd//RFC 7808//EN")
    ∷ named (codes "BEGIN") (codes "VTIMEZONE") ∷ named (codes "TZID") tzid ∷ []

abbrev pub alias_named : Option (List ℕ) → List Named
alias_named None = []
alias_named (Some tzid) = named (codes "TZID-ALIAS-OF") tzid ∷ []

abbrev pub end_named : Option Moment → List Named
end_named None = []
end_named (Some end) = named (codes "TZUNTIL") (utc_basic end.seconds) ∷ []

abbrev pub tail_named : List Named
tail_named = named (codes "END") (codes "VTIMEZONE") ∷ named (codes "END") (codes "VCALENDAR") ∷ []

abbrev pub all_named : List ℕ → Option (List ℕ) → List Part → Option Moment → List Named
all_named tzid alias_of ps until =
    head_named tzid ++ alias_named alias_of ++ end_named until ++ flat_map part_named ps ++ tail_named

alias_cut : (alias_of : Option (List ℕ)) → all_read (cut_first 58) (alias_lines alias_of) ≡ Some (alias_named alias_of)
unfolding alias_lines
alias_cut None = refl
alias_cut (Some tzid) = refl

end_cut : (until : Option Moment) → all_read (cut_first 58) (end_lines until) ≡ Some (end_named until)
unfolding end_lines
end_cut None = refl
end_cut (Some end) = refl

head_cut : (tzid : List ℕ) → all_read (cut_first 58) (head_lines tzid) ≡ Some (head_named tzid)
unfolding head_lines
head_cut tzid = refl

tail_cut : all_read (cut_first 58) tail_lines ≡ Some tail_named
unfolding tail_lines
tail_cut = refl

lines_cut : (tzid : List ℕ) (alias_of : Option (List ℕ)) (ps : List Part) (until : Option Moment)
    → all_read (cut_first 58) (calendar_lines tzid alias_of ps until) ≡ Some (all_named tzid alias_of ps until)
unfolding calendar_lines
lines_cut tzid alias_of ps until =
    let f = cut_first 58 in
    let one = head_lines tzid ++ alias_lines alias_of in
    let two = one ++ end_lines until in
    let three = two ++ flat_map part_lines ps in
    let one_named = head_named tzid ++ alias_named alias_of in
    let two_named = one_named ++ end_named until in
    let three_named = two_named ++ flat_map part_named ps in
    read_append f three tail_lines three_named tail_named
    (read_append f two (flat_map part_lines ps) two_named (flat_map part_named ps)
    (read_append f one (end_lines until) one_named (end_named until)
    (read_append f (head_lines tzid) (alias_lines alias_of) (head_named tzid) (alias_named alias_of) (head_cut tzid) (alias_cut alias_of)) (end_cut until))
    (parts_cut ps)) tail_cut

-- ---- components

inside_whole : (component : List ℕ) (xs : List Named) → bytes_eq component component ≡ true
    → inside component (named (codes "BEGIN") component ∷ (xs ++ named (codes "END") component ∷ [])) ≡ Some xs
unfolding inside
inside_whole component xs same =
    let end = named (codes "END") component ∷ [] in
    let long = length-append xs end in
    let last : drop (length (xs ++ end) - 1) (xs ++ end) ≡ end = drop_at xs end (length (xs ++ end) - 1) (omega arith) in
    let front : take (length (xs ++ end) - 1) (xs ++ end) ≡ xs = take_at xs end (length (xs ++ end) - 1) (omega arith) in
    cond-true (bytes_eq component component && is_end_line component (drop (length (xs ++ end) - 1) (xs ++ end)))
    (Some (take (length (xs ++ end) - 1) (xs ++ end))) None
    (and_from _ _ same (ap (is_end_line component) last ∙ same))
    ∙ ap Some front

-- the lines of the time zone
abbrev zone_named : List ℕ → Option (List ℕ) → Option Moment → List Part → List Named
zone_named tzid alias_of until ps = named (codes "TZID") tzid ∷ alias_named alias_of ++ end_named until ++ flat_map part_named ps

abbrev body_named : List ℕ → Option (List ℕ) → Option Moment → List Part → List Named
body_named tzid alias_of until ps =
    named (codes "VERSION") (codes "2.0") ∷ named (codes "PRODID") (codes "-//tzdistd//RFC 7808//EN")
    ∷ named (codes "BEGIN") (codes "VTIMEZONE") ∷ zone_named tzid alias_of until ps ++ named (codes "END") (codes "VTIMEZONE") ∷ []

calendar_inside : (tzid : List ℕ) (alias_of : Option (List ℕ)) (ps : List Part) (until : Option Moment)
    → inside (codes "VCALENDAR") (all_named tzid alias_of ps until) ≡ Some (body_named tzid alias_of until ps)
calendar_inside tzid alias_of ps until =
    let zone = zone_named tzid alias_of until ps in
    let ends = named (codes "END") (codes "VTIMEZONE") ∷ [] in
    ap (λ ls. inside (codes "VCALENDAR") (named (codes "BEGIN") (codes "VCALENDAR") ∷ named (codes "VERSION") (codes "2.0")
    ∷ named (codes "PRODID") (codes "-//tzdistd//RFC 7808//EN") ∷ named (codes "BEGIN") (codes "VTIMEZONE") ∷ ls))
    (sym (append_assoc zone ends (named (codes "END") (codes "VCALENDAR") ∷ [])))
    ∙ inside_whole (codes "VCALENDAR") (body_named tzid alias_of until ps) refl

-- what its lines give, where they have a part
lines_with : (tzid : List ℕ) (alias_of : Option (List ℕ)) (until : Option Moment) (p : Part) (ps : List Part) → IsSafe tzid → IfSome alias_of IsSafe
    → IfSome until (λ m. IsWithinBounds m.seconds)
    → zone_spelled (zone_named tzid alias_of until (p ∷ ps))
    ≡ spelling_with (Some tzid) (Some alias_of) (Some until) (parts_among None [] (flat_map part_named (p ∷ ps)))
unfolding zone_spelled
lines_with tzid None None p ps id also within = rw (text_back tzid id) refl
lines_with tzid None (Some end) p ps id also within = rw (text_back tzid id, utc_back end (bounds_text end.seconds within)) refl
lines_with tzid (Some alias_of) None p ps id also within = rw (text_back tzid id, text_back alias_of also) refl
lines_with tzid (Some alias_of) (Some end) p ps id also within =
    rw (text_back tzid id, text_back alias_of also, utc_back end (bounds_text end.seconds within)) refl

lines_spell : (tzid : List ℕ) (alias_of : Option (List ℕ)) (p : Part) (ps : List Part) (until : Option Moment) → IsSafe tzid → IfSome alias_of IsSafe
    → IfSome until (λ m. IsWithinBounds m.seconds) → AllByRecursion IsSpellable (p ∷ ps)
    → spelled_by (calendar_lines tzid alias_of (p ∷ ps) until)
    ≡ Some (record { tzid = tzid; alias_of = alias_of; until = until; parts = p ∷ ps })
unfolding spelled_by calendar_spelled
lines_spell tzid alias_of p ps until id also within h =
    let zone = zone_named tzid alias_of until (p ∷ ps) in
    ap (λ o. option_and_then calendar_spelled (option_and_then (inside (codes "VCALENDAR")) o)) (lines_cut tzid alias_of (p ∷ ps) until)
    ∙ ap (option_and_then calendar_spelled) (calendar_inside tzid alias_of (p ∷ ps) until)
    ∙ ap (option_and_then zone_spelled) (inside_whole (codes "VTIMEZONE") zone refl)
    ∙ lines_with tzid alias_of until p ps id also within
    ∙ ap (spelling_with (Some tzid) (Some alias_of) (Some until)) (parts_read (p ∷ ps) h)

-- ---- the text

safe_byte : (b : ℕ) → is_safe b ≡ true → not (is_feed b) ≡ true
safe_byte b h = grind (arith, nat_tests)

safe_line : (t : List ℕ) → IsSafe t → IsLineText t
safe_line [] h = refl
safe_line (b ∷ bs) h =
    let both = and_parts (is_safe b) (list_all is_safe bs) h in
    and_from (not (is_feed b)) (list_all (λ b. not (is_feed b)) bs) (safe_byte b both.0) (safe_line bs both.1)

safe_lines : (t : Option (List ℕ)) → IfSome t IsSafe → IfSome t IsLineText
safe_lines None h = tt
safe_lines (Some text) h = safe_line text h

readable : (ps : List Part) → AllByRecursion IsSpellable ps → AllByRecursion IsReadable ps
readable [] h = tt
readable (p ∷ ps) h = (record { name = safe_line p.name h.0.name; rule = h.0.writable.rule }, readable ps h.1)

each_spellable : (ps : List Part) → All IsSpellable ps → AllByRecursion IsSpellable ps
each_spellable [] h = tt
each_spellable (p ∷ ps) h = (h 0 p (omega arith), each_spellable ps (λ i d lt. h (suc i) d (omega arith)))

pub calendar_back : (tzid : List ℕ) (alias_of : Option (List ℕ)) (ps : List Part) (until : Option Moment) → IsSafe tzid → IfSome alias_of IsSafe
    → IfSome until (λ m. IsWithinBounds m.seconds) → 0 < length ps → All IsSpellable ps
    → spelled (calendar tzid alias_of ps until) ≡ Some (record { tzid = tzid; alias_of = alias_of; until = until; parts = ps })
calendar_back tzid alias_of [] until id also within some all = absurd (omega arith)
calendar_back tzid alias_of (p ∷ ps) until id also within some all =
    let each = each_spellable (p ∷ ps) all in
    ap (λ o. option_and_then spelled_by (result_ok o))
    (calendar_read_back tzid alias_of (p ∷ ps) until (safe_line tzid id) (safe_lines alias_of also) (readable (p ∷ ps) each))
    ∙ lines_spell tzid alias_of p ps until id also within each

-- and so does what is appended
pub appended_back : (old new tzid : List ℕ) (alias_of : Option (List ℕ)) (ps : List Part) (until : Option Moment) → IsSafe tzid → IfSome alias_of IsSafe
    → IfSome until (λ m. IsWithinBounds m.seconds) → 0 < length ps → All IsSpellable ps → new ≡ old ++ calendar tzid alias_of ps until
    → spelled (drop (length old) new) ≡ Some (record { tzid = tzid; alias_of = alias_of; until = until; parts = ps })
appended_back old new tzid alias_of ps until id also within some all e =
    ap (λ t. spelled (drop (length old) t)) e
    ∙ ap spelled (drop-append_seam old (calendar tzid alias_of ps until))
    ∙ calendar_back tzid alias_of ps until id also within some all
