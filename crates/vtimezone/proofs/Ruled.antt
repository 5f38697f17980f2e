-- Each part of a footer's rules has a rule.
use Rattle.std.proofs.Common.{◌≢◌, inl, inr, subst, ℤ, pos, ◌-ℤ◌, int_lt, unsigned_abs, Option, None, Some, List, [], ◌∷◌, ◌++◌}
use Rattle.std.specs.List.{Contains}
use Rattle.std.proofs.lemmas.Bool.{cond_both}
use Rattle.std.proofs.lemmas.List.Elements.{Contains-append_cases}
use Rattle.td_civil.specs.declared.moment_type.Moment.{Moment}
use Rattle.td_civil.specs.declared.local_time.Local.{Local}
use Rattle.posix_footer.specs.declared.rule_types.Edge.{Edge}
use Rattle.posix_footer.specs.declared.rule_types.Edge.TheVariants as edge
use Rattle.posix_footer.specs.declared.rule_types.DstRule.{DstRule}
use Rattle.posix_footer.specs.declared.rule_types.Footer.{Footer}
use Rattle.posix_footer.specs.Carried.{is_all_year}
use Rattle.posix_footer.specs.Onset.{onset_of}
use Rattle.zone_meaning.proofs.lemmas.Members.{member_cases, no_member}
use Rattle.recurrence.specs.declared.part_types.Part.{Part}
use Rattle.vtimezone.specs.PartsOf.{last_before, rule_part, part_until, rule_part_if, rule_parts, rules_if_any, rules_of}

abbrev pub HaveRules : List Part → Type 0
HaveRules parts = (p : Part) → Contains parts p → p.rule ≢ None

none_have : HaveRules []
none_have p there = absurd (no_member p there)

both_have : (xs ys : List Part) → HaveRules xs → HaveRules ys → HaveRules (xs ++ ys)
both_have xs ys left right p there = elim (Contains-append_cases xs ys p there) [ inl here ↦ left p here | inr here ↦ right p here ]

rule_has : (std : Local) (rule : DstRule) (y0 : ℤ) (at : Edge) (until : Option Moment) → (rule_part std rule y0 at until).rule ≢ None
unfolding rule_part
rule_has std rule y0 at until e = absurd (cc)

one_has : (std : Local) (rule : DstRule) (y0 : ℤ) (at : Edge) (until : Option Moment) → HaveRules (rule_part std rule y0 at until ∷ [])
one_has std rule y0 at until p there = elim (member_cases (rule_part std rule y0 at until) p [] there) [
  | inl is ↦ let P : Part → Type 0 = λ q. q.rule ≢ None in subst P is (rule_has std rule y0 at until)
  | inr later ↦ absurd (no_member p later)
]

until_has : (std : Local) (rule : DstRule) (y0 : ℤ) (at : Edge) (last : Option Moment) → HaveRules (part_until std rule y0 at last)
until_has std rule y0 at None = none_have
until_has std rule y0 at (Some last) = one_has std rule y0 at (Some last)

if_has : (std : Local) (rule : DstRule) (y0 : ℤ) (b : Option ℤ) (at : Edge) → HaveRules (rule_part_if std rule y0 b at)
if_has std rule y0 None at = one_has std rule y0 at None
if_has std rule y0 (Some b) at = until_has std rule y0 at (last_before rule std.offset at y0 b (unsigned_abs (pos 9999 -ℤ y0)))

parts_have : (std : Local) (rule : DstRule) (y0 : ℤ) (b : Option ℤ) → HaveRules (rule_parts std rule y0 b)
unfolding rule_parts
parts_have std rule y0 b =
    let start = rule_part_if std rule y0 b edge.Start in
    let end = rule_part_if std rule y0 b edge.End in
    cond_both (int_lt (onset_of rule std.offset y0 edge.Start) (onset_of rule std.offset y0 edge.End)) (start ++ end) (end ++ start) HaveRules
    (λ _. both_have start end (if_has std rule y0 b edge.Start) (if_has std rule y0 b edge.End))
    (λ _. both_have end start (if_has std rule y0 b edge.End) (if_has std rule y0 b edge.Start))

any_have : (std : Local) (dst : Option DstRule) (y0 : ℤ) (b : Option ℤ) → HaveRules (rules_if_any std dst y0 b)
any_have std None y0 b = none_have
any_have std (Some rule) y0 b =
    cond_both (is_all_year std.offset rule) [] _ HaveRules
    (λ _. none_have)
    (λ _. cond_both (int_lt y0 (pos 9999)) (rule_parts std rule y0 b) [] HaveRules (λ _. parts_have std rule y0 b) (λ _. none_have))

pub rules_have_rules : (footer : Option Footer) (y0 : ℤ) (b : Option ℤ) → HaveRules (rules_of footer y0 b)
rules_have_rules None y0 b = none_have
rules_have_rules (Some footer) y0 b = any_have footer.std footer.dst y0 b
