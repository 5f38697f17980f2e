-- The properties of a part, read, give the part.
use Rattle.std.proofs.Common.{◌≡◌, ℕ, refl, sym, ap, ◌∙◌, arith, ℤ, pos, ◌+ℤ◌, ◌-ℤ◌, Option, None, Some, List, [], ◌∷◌, map}
use Rattle.std.specs.Int.{int_rem_euclid}
use Rattle.std.specs.Option.{option_map, option_and_then}
use Rattle.jiff_core.proofs.SignedLemmas.{signed_arith}
use Rattle.td_civil.specs.declared.moment_type.Moment.{Moment}
use Rattle.recurrence.specs.declared.part_types.Part.{Part}
use Rattle.recurrence.specs.declared.rule_types.Rule.{Rule}
use Rattle.recurrence.specs.PartFields.{Recur, shown_at, rule_at_offset, part_with_fields}
use Rattle.recurrence.specs.RuleOfDate.{second_in_day}
use Rattle.recurrence.specs.Spellable.{HasTime}

-- what clocks show at a moment
abbrev pub local_at : ℤ → Moment → ℤ
local_at offset m = m.seconds +ℤ offset

abbrev pub recur_for : Option Rule → Option Moment → Option Recur
recur_for None until = None
recur_for (Some rule) until = Some (record { form = rule.form; until = until })

pub shown_back : (offset : ℤ) (m : Moment) → shown_at offset (local_at offset m) ≡ m
shown_back offset m =
    let same : (m.seconds +ℤ offset) -ℤ offset ≡ m.seconds = omega (arith, signed_arith) in
    ap (λ (t : ℤ). record { seconds = t }) same

pub dates_back : (offset : ℤ) (ms : List Moment) → map (shown_at offset) (map (local_at offset) ms) ≡ ms
dates_back offset [] = refl
dates_back offset (m ∷ ms) =
    ap (λ d. d ∷ map (shown_at offset) (map (local_at offset) ms)) (shown_back offset m)
    ∙ ap (λ ds. m ∷ ds) (dates_back offset ms)

second_back : (second : ℕ) (start : ℤ) → pos second ≡ int_rem_euclid start (pos 86400) → second_in_day start ≡ second
second_back second start h = omega (arith, signed_arith, h)

rule_back : (p : Part) (rule : Option Rule) → HasTime p rule → option_map (rule_at_offset (p.start.seconds +ℤ p.from)) (recur_for rule p.until) ≡ rule
rule_back p None h = refl
rule_back p (Some rule) h =
    ap (λ (n : ℕ). Some (record { form = rule.form; second = n })) (second_back rule.second (p.start.seconds +ℤ p.from) h)

until_back : (p : Part) (rule : Option Rule) → HasTime p rule → option_and_then (λ r. r.until) (recur_for rule p.until) ≡ p.until
until_back p None h = sym h
until_back p (Some rule) h = refl

abbrev part_by : Part → Moment → Option Rule → Option Moment → List Moment → Part
part_by p start rule until dates =
    record { dst = p.dst; start = start; from = p.from; to = p.to; name = p.name; rule = rule; until = until; dates = dates }

pub part_back : (p : Part) → HasTime p p.rule
    → part_with_fields p.dst (Some (local_at p.from p.start)) (Some p.from) (Some p.to) (Some p.name) (Some (map (local_at p.from) p.dates))
    (Some (recur_for p.rule p.until)) ≡ Some p
part_back p h =
    let start = local_at p.from p.start in
    let recur = recur_for p.rule p.until in
    let rule = option_map (rule_at_offset start) recur in
    let until = option_and_then (λ (r : Recur). r.until) recur in
    let dates = map (shown_at p.from) (map (local_at p.from) p.dates) in
    ap (λ s. Some (part_by p s rule until dates)) (shown_back p.from p.start)
    ∙ ap (λ r. Some (part_by p p.start r until dates)) (rule_back p p.rule h)
    ∙ ap (λ u. Some (part_by p p.start p.rule u dates)) (until_back p p.rule h)
    ∙ ap (λ ds. Some (part_by p p.start p.rule p.until ds)) (dates_back p.from p.dates)
