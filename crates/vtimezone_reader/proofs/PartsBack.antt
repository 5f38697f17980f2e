-- The lines of a part that was written lead to the part.
use Rattle.std.proofs.Common.{◌≡◌, ℕ, Bool, true, false, List, [], ◌∷◌, ◌++◌}
use Rattle.std.proofs.Common.{codes, refl, sym, ap, ◌∙◌, subst, arith, ℤ, ◌+ℤ◌, ◌-ℤ◌, unsigned_abs, Option, None, Some, Ok}
use Rattle.std.specs.List.{AllByRecursion}
use Rattle.std.specs.Option.{IfSome, option_map, option_and_then}
use Rattle.std.proofs.lemmas.Bool.{cond-true, and_from}
use Rattle.jiff_core.specs.Calendar.{IsWithin}
use Rattle.jiff_core.proofs.SignedLemmas.{signed_arith}
use Rattle.td_base.specs.FirstFault.{◌>>=◌}
use Rattle.td_civil.specs.declared.moment_type.Moment.{Moment}
use Rattle.td_civil.specs.Bounds.{HasMeaning, has_meaning}
use Rattle.td_civil.specs.Calendar.{local_text_of}
use Rattle.td_civil.proofs.lemmas.Shown.{local_bounds_text}
use Rattle.recurrence.specs.declared.part_types.Part.{Part}
use Rattle.recurrence.specs.declared.rule_types.Rule.{Rule}
use Rattle.recurrence.specs.Valid.{IsValidForm}
use Rattle.vtimezone_reader.proofs.Validity.{is_valid_of}
use Rattle.vtimezone_reader.specs.declared.part_lines.OpenPart.{OpenPart}
use Rattle.vtimezone_reader.specs.declared.rule_words.Recur.{Recur}
use Rattle.vtimezone_reader.specs.declared.zone_lines.OpenZone.{OpenZone}
use Rattle.vtimezone_reader.specs.declared.standing.Standing.TheVariants as at
use Rattle.vtimezone.specs.CalendarText.{line, kind_of, start_line, change_lines, date_lines, rule_lines, part_lines}
use Rattle.vtimezone_reader.specs.ContentLines.{is_word}
use Rattle.vtimezone_reader.specs.PartLines.{begun_part, name_in, more_line, part_line, rule_at, part_with, part_of}
use Rattle.vtimezone_reader.specs.ReadLines.{with_part, ends, in_zone, in_part, step}
use Rattle.vtimezone_reader.specs.RuleWords.{recur_in}
use Rattle.vtimezone_reader.specs.Sound.{IsMeant, HasStartTime}
use Rattle.vtimezone_reader.specs.TimeTexts.{moment_within, moment_by, moments_by}
use Rattle.vtimezone.specs.Cutting.{cut_at}
use Rattle.vtimezone.specs.ReadValues.{offset_in}
use Rattle.vtimezone.specs.Values.{dates_text, offset_text, rule_text}
use Rattle.vtimezone_reader.specs.Written.{HasLast, IsWrittenPart}
use Rattle.vtimezone.proofs.lemmas.ValuesBack.{local_back, offset_back}
use Rattle.vtimezone_reader.proofs.RulesBack.{recur_back, meant_back}
use Rattle.vtimezone_reader.proofs.Leading.{Leads, leads_nothing, leads_on, leads_line}
use Rattle.vtimezone.proofs.lemmas.NumbersBack.{local_texts, dates_cut}

-- ---- the lines of a part

begin_step : (z : OpenZone) (dst : Bool) → step (at.InZone z) (codes "BEGIN") (kind_of dst) ≡ Ok (at.InPart z (begun_part dst))
unfolding step in_zone is_word
begin_step z true = refl
begin_step z false = refl

start_step : (z : OpenZone) (p : OpenPart) (value : List ℕ) → p.start ≡ None
    → step (at.InPart z p) (codes "DTSTART") value ≡ Ok (at.InPart z (record p { start = Some value }))
unfolding step in_part part_line is_word
start_step z p value none = rw none refl

from_step : (z : OpenZone) (p : OpenPart) (value : List ℕ) (x : ℤ) → p.from ≡ None → offset_in value ≡ Some x
    → step (at.InPart z p) (codes "TZOFFSETFROM") value ≡ Ok (at.InPart z (record p { from = Some x }))
unfolding step in_part part_line is_word
from_step z p value x none e = rw (none, e) refl

to_step : (z : OpenZone) (p : OpenPart) (value : List ℕ) (x : ℤ) → p.to ≡ None → offset_in value ≡ Some x
    → step (at.InPart z p) (codes "TZOFFSETTO") value ≡ Ok (at.InPart z (record p { to = Some x }))
unfolding step in_part part_line is_word
to_step z p value x none e = rw (none, e) refl

name_step : (z : OpenZone) (p : OpenPart) (value : List ℕ) → p.name ≡ None → name_in value ≡ Some value
    → step (at.InPart z p) (codes "TZNAME") value ≡ Ok (at.InPart z (record p { name = Some value }))
unfolding step in_part part_line more_line is_word
name_step z p value none e = rw (none, e) refl

dates_step : (z : OpenZone) (p : OpenPart) (value : List ℕ) (texts : List (List ℕ)) → p.dates ≡ [] → cut_at 44 value ≡ texts
    → step (at.InPart z p) (codes "RDATE") value ≡ Ok (at.InPart z (record p { dates = texts }))
unfolding step in_part part_line more_line is_word
dates_step z p value texts none e = rw (none, e) refl

rule_step : (z : OpenZone) (p : OpenPart) (value : List ℕ) (x : Recur) → p.recur ≡ None → recur_in value ≡ Some x
    → step (at.InPart z p) (codes "RRULE") value ≡ Ok (at.InPart z (record p { recur = Some x }))
unfolding step in_part part_line more_line is_word
rule_step z p value x none e = rw (none, e) refl

end_is_end : is_word (codes "END") (codes "END") ≡ true
unfolding is_word
end_is_end = refl

same_kind : (dst : Bool) → is_word (kind_of dst) (kind_of dst) ≡ true
unfolding is_word
same_kind true = refl
same_kind false = refl

in_part_end : (z : OpenZone) (p : OpenPart) (part : Part) → part_of p ≡ Ok part → in_part z p (codes "END") (kind_of p.dst) ≡ Ok (at.InZone (with_part z part))
unfolding in_part
in_part_end z p part e =
    cond-true (ends (codes "END") (kind_of p.dst) (kind_of p.dst)) (part_of p >>= λ q. Ok (at.InZone (with_part z q))) _
    (and_from _ _ end_is_end (same_kind p.dst))
    ∙ ap (λ r. r >>= λ q. Ok (at.InZone (with_part z q))) e

end_step : (z : OpenZone) (p : OpenPart) (part : Part) → part_of p ≡ Ok part
    → step (at.InPart z p) (codes "END") (kind_of p.dst) ≡ Ok (at.InZone (with_part z part))
unfolding step
end_step z p part e = in_part_end z p part e

-- ---- values

back_and_on : (m o : ℤ) → (m +ℤ o) -ℤ o ≡ m
back_and_on m o = omega (arith, signed_arith)

moment_back : (m : Moment) (o : ℤ) → IsWithin 86399 o → HasMeaning m.seconds → moment_by o (local_text_of m.seconds o) ≡ Some m
moment_back m o within h =
    let text = local_bounds_text m.seconds o (h.0, omega (arith, signed_arith, h.1)) within in
    ap (option_and_then (λ shown. moment_within (shown -ℤ o))) (local_back m.seconds o text)
    ∙ ap moment_within (back_and_on m.seconds o)
    ∙ cond-true (has_meaning m.seconds) (Some m) None (meant_back m.seconds h)

moments_back : (ms : List Moment) (o : ℤ) → IsWithin 86399 o → AllByRecursion IsMeant ms → moments_by o (local_texts ms o) ≡ Some ms
unfolding moments_by
moments_back [] o within h = refl
moments_back (m ∷ ms) o within h =
    ap (option_and_then (λ d. option_map (λ ds. d ∷ ds) (moments_by o (local_texts ms o)))) (moment_back m o within h.0)
    ∙ ap (option_map (λ ds. m ∷ ds)) (moments_back ms o within h.1)

-- ---- a part

-- what the lines of a part say
abbrev started : Part → OpenPart
started p = record (begun_part p.dst) { start = Some (local_text_of p.start.seconds p.from) }

abbrev changed : Part → OpenPart
changed p = record (started p) { from = Some p.from; to = Some p.to; name = Some p.name }

abbrev recur_of_part : Option Rule → Option Moment → Option Recur
recur_of_part None until = None
recur_of_part (Some rule) until = Some (record { form = rule.form; until = until })

abbrev dated : Part → OpenPart
dated p = record (changed p) { dates = local_texts p.dates p.from }

abbrev ruled : Part → OpenPart
ruled p = record (dated p) { recur = recur_of_part p.rule p.until }

change_leads : (z : OpenZone) (p : Part) → IsWrittenPart p → Leads (at.InPart z (begun_part p.dst)) (change_lines p) (at.InPart z (changed p))
unfolding change_lines start_line
change_leads z p h =
    let none = begun_part p.dst in
    let one = started p in
    let two = record one { from = Some p.from } in
    let three = record two { to = Some p.to } in
    let l1 = line (codes "DTSTART") (local_text_of p.start.seconds p.from) in
    let l2 = line (codes "TZOFFSETFROM") (offset_text p.from) in
    let l3 = line (codes "TZOFFSETTO") (offset_text p.to) in
    let l4 = line (codes "TZNAME") p.name in
    leads_on (at.InPart z none) (at.InPart z one) (at.InPart z (changed p)) (l1 ∷ []) (l2 ∷ l3 ∷ l4 ∷ [])
    (leads_line (at.InPart z none) (at.InPart z one) (codes "DTSTART") (local_text_of p.start.seconds p.from) refl (start_step z none _ refl))
    (leads_on (at.InPart z one) (at.InPart z two) (at.InPart z (changed p)) (l2 ∷ []) (l3 ∷ l4 ∷ [])
    (leads_line (at.InPart z one) (at.InPart z two) (codes "TZOFFSETFROM") (offset_text p.from) refl
    (from_step z one _ p.from refl (offset_back p.from h.sound.from)))
    (leads_on (at.InPart z two) (at.InPart z three) (at.InPart z (changed p)) (l3 ∷ []) (l4 ∷ [])
    (leads_line (at.InPart z two) (at.InPart z three) (codes "TZOFFSETTO") (offset_text p.to) refl (to_step z two _ p.to refl (offset_back p.to h.sound.to)))
    (leads_line (at.InPart z three) (at.InPart z (changed p)) (codes "TZNAME") p.name refl (name_step z three p.name refl h.name))))

date_leads : (z : OpenZone) (p : OpenPart) (ms : List Moment) (o : ℤ) → p.dates ≡ []
    → Leads (at.InPart z p) (date_lines ms o) (at.InPart z (record p { dates = local_texts ms o }))
unfolding date_lines
date_leads z p [] o none =
    let same : record p { dates = [] } ≡ p = rw (sym none) refl in
    let To : OpenPart → Type 0 = λ q. Leads (at.InPart z p) [] (at.InPart z q) in
    subst To (sym same) (leads_nothing (at.InPart z p))
date_leads z p (m ∷ ms) o none =
    leads_line (at.InPart z p) (at.InPart z (record p { dates = local_texts (m ∷ ms) o })) (codes "RDATE") (dates_text m ms o) refl
    (dates_step z p _ (local_texts (m ∷ ms) o) none (dates_cut m ms o))

rule_leads : (z : OpenZone) (p : OpenPart) (rule : Option Rule) (until : Option Moment) → p.recur ≡ None → IfSome rule (λ r. IsValidForm r.form)
    → HasLast rule until
    → Leads (at.InPart z p) (rule_lines rule until) (at.InPart z (record p { recur = recur_of_part rule until }))
unfolding rule_lines
rule_leads z p None until none h last =
    let same : record p { recur = None } ≡ p = rw (sym none) refl in
    let To : OpenPart → Type 0 = λ q. Leads (at.InPart z p) [] (at.InPart z q) in
    subst To (sym same) (leads_nothing (at.InPart z p))
rule_leads z p (Some rule) until none h last =
    leads_line (at.InPart z p) (at.InPart z (record p { recur = Some (record { form = rule.form; until = until }) })) (codes "RRULE") (rule_text rule until)
    refl
    (rule_step z p _ (record { form = rule.form; until = until }) none (recur_back rule until h (is_valid_of rule.form h) last))

rule_again : (p : Part) (rule : Option Rule) → HasStartTime p rule → option_map (rule_at (p.start.seconds +ℤ p.from)) (recur_of_part rule p.until) ≡ rule
rule_again p None h = refl
rule_again p (Some rule) h = ap (λ n. Some (record { form = rule.form; second = n })) (sym (ap unsigned_abs h.1))

until_again : (rule : Option Rule) (until : Option Moment) → HasLast rule until → option_and_then (λ (r : Recur). r.until) (recur_of_part rule until) ≡ until
until_again None until h = sym h
until_again (Some rule) until h = refl

part_is : (p : Part) (r : Option Rule) (u : Option Moment) → r ≡ p.rule → u ≡ p.until
    → record { dst = p.dst; start = p.start; from = p.from; to = p.to; name = p.name; rule = r; until = u; dates = p.dates } ≡ p
part_is p r u a b = rw (a, b) refl

part_again : (p : Part) → IsWrittenPart p → part_of (ruled p) ≡ Ok p
unfolding part_of
part_again p h =
    ap (λ o. part_with (ruled p) p.from p.to o (moments_by p.from (local_texts p.dates p.from))) (moment_back p.start p.from h.sound.from h.sound.start)
    ∙ ap (part_with (ruled p) p.from p.to (Some p.start)) (moments_back p.dates p.from h.sound.from h.sound.dates)
    ∙ ap (λ (q : Part). Ok q) (part_is p (option_map (rule_at (p.start.seconds +ℤ p.from)) (recur_of_part p.rule p.until))
    (option_and_then (λ (r : Recur). r.until) (recur_of_part p.rule p.until)) (rule_again p p.rule h.sound.rule) (until_again p.rule p.until h.until))

pub valid_rule : (p : Part) (rule : Option Rule) → HasStartTime p rule → IfSome rule (λ r. IsValidForm r.form)
valid_rule p None h = tt
valid_rule p (Some rule) h = h.0

pub part_leads : (z : OpenZone) (p : Part) → IsWrittenPart p → Leads (at.InZone z) (part_lines p) (at.InZone (with_part z p))
unfolding part_lines
part_leads z p h =
    let a = at.InZone z in
    let b = at.InPart z (begun_part p.dst) in
    let c = at.InPart z (changed p) in
    let d = at.InPart z (dated p) in
    let e = at.InPart z (ruled p) in
    let end = at.InZone (with_part z p) in
    let begin = line (codes "BEGIN") (kind_of p.dst) ∷ [] in
    let first = begin ++ change_lines p in
    let second = first ++ date_lines p.dates p.from in
    let third = second ++ rule_lines p.rule p.until in
    leads_on a e end third (line (codes "END") (kind_of p.dst) ∷ [])
    (leads_on a d e second (rule_lines p.rule p.until)
    (leads_on a c d first (date_lines p.dates p.from)
    (leads_on a b c begin (change_lines p) (leads_line a b (codes "BEGIN") (kind_of p.dst) refl (begin_step z p.dst)) (change_leads z p h))
    (date_leads z (changed p) p.dates p.from refl))
    (rule_leads z (dated p) p.rule p.until refl (valid_rule p p.rule h.sound.rule) h.until))
    (leads_line e end (codes "END") (kind_of p.dst) refl (end_step z (ruled p) p (part_again p h)))
