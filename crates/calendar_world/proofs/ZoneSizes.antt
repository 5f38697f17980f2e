-- How long the calendar of a zone is, from a moment on, without an end.
use Rattle.std.proofs.Common.{◌≡◌, ℕ, suc, ◌+◌, ◌*◌, ◌≤◌, nat_le, true, List, [], ◌∷◌, ◌++◌, length, refl, arith, ℤ, pos, int_lt}
use Rattle.std.proofs.Common.{Option, None, Some}
use Rattle.std.specs.List.{All, AllByRecursion, flat_map, list_all}
use Rattle.std.specs.Option.{IfSome}
use Rattle.std.proofs.lemmas.Bool.{and_parts, cond_both, leb-true}
use Rattle.td_base.specs.Names.{is_identifier, is_path, is_segment, segments}
use Rattle.td_civil.specs.Bounds.{HasMeaning}
use Rattle.td_civil.specs.declared.moment_type.Moment.{Moment}
use Rattle.td_civil.specs.declared.local_time.Local.{Local}
use Rattle.tzif_reader.specs.Cut.{lists_of}
use Rattle.posix_footer.specs.Carried.{is_all_year}
use Rattle.posix_footer.specs.Onset.{onset_of}
use Rattle.posix_footer.specs.declared.rule_types.DstRule.{DstRule}
use Rattle.posix_footer.specs.declared.rule_types.Edge.{Edge}
use Rattle.posix_footer.specs.declared.rule_types.Edge.TheVariants as edge
use Rattle.posix_footer.specs.declared.rule_types.Footer.{Footer}
use Rattle.recurrence.specs.Spellable.{IsSpellable}
use Rattle.recurrence.specs.declared.part_types.Part.{Part}
use Rattle.zone_meaning.specs.Observed.{observed}
use Rattle.zone_meaning.specs.Sound.{IsSoundFile}
use Rattle.zone_meaning.specs.State.{footer_meant, zone_state}
use Rattle.vtimezone.specs.CalendarText.{alias_lines, calendar, calendar_lines, end_lines, head_lines, part_lines, tail_lines}
use Rattle.vtimezone.specs.Grouping.{grouped}
use Rattle.vtimezone.specs.PartsOf.{parts_from, rule_part, rule_parts, rules_if_any, rules_of, year_begin}
use Rattle.vtimezone.specs.ZoneParts.{range_parts, rule_year}
use Rattle.vtimezone_reader.specs.Written.{parts_after}
use Rattle.vtimezone_reader.specs.declared.calendar_type.TheConstants.{MOST_BYTES}
use Rattle.vtimezone_reader.proofs.lemmas.FooterNames.{HasShortNames}
use Rattle.vtimezone_reader.proofs.lemmas.ZoneNames.{meant_short, zone_short}
use Rattle.calendar_world.proofs.ChangeMoments.{few_told}
use Rattle.calendar_world.proofs.GroupSizes.{AreFew, IsNamedShort, costs_both, few_parts, fewer, parts_cost, parts_size}
use Rattle.calendar_world.proofs.LineSizes.{cost, cost_both, written_size}
use Rattle.calendar_world.proofs.PartSizes.{IsShortPart}

-- ---- the parts of rules

-- two parts with a rule, at the most
abbrev rules_most : ℕ
rules_most = 43_528

few_both : (xs ys : List Part) (n m : ℕ) → AreFew xs n → AreFew ys m → AreFew (xs ++ ys) (n + m)
few_both xs ys n m one two =
    let a : parts_cost xs ≤ n = one.size in
    let b : parts_cost ys ≤ m = two.size in
    record { size = omega (arith, a, b, costs_both xs ys); names = names_both xs ys one.names two.names }
  where
    names_both : (xs ys : List Part) → AllByRecursion IsNamedShort xs → AllByRecursion IsNamedShort ys → AllByRecursion IsNamedShort (xs ++ ys)
    names_both [] ys a b = b
    names_both (x ∷ xs) ys a b = (a.0, names_both xs ys a.1 b)

no_parts : AreFew [] rules_most
no_parts = record { size = omega arith; names = tt }

module _ (std : Local) (rule : DstRule) (y0 : ℤ) (std_short : length std.name ≤ 32) (dst_short : length rule.dst.name ≤ 32) where
  one_rule : (at : Edge) → AreFew (rule_part std rule y0 at None ∷ []) 21_764
  unfolding rule_part
  one_rule edge.Start = record { size = omega arith; names = (dst_short, tt) }
  one_rule edge.End = record { size = omega arith; names = (std_short, tt) }

  two_rules : AreFew (rule_parts std rule y0 None) rules_most
  unfolding rule_parts
  two_rules =
      let start = one_rule edge.Start in
      let end = one_rule edge.End in
      cond_both (int_lt (onset_of rule std.offset y0 edge.Start) (onset_of rule std.offset y0 edge.End)) _ _ (λ (ps : List Part). AreFew ps rules_most)
      (λ first. few_both _ _ 21_764 21_764 start end) (λ second. few_both _ _ 21_764 21_764 end start)

  if_rules : AreFew (rules_if_any std (Some rule) y0 None) rules_most
  if_rules =
      cond_both (is_all_year std.offset rule) [] _ (λ (ps : List Part). AreFew ps rules_most) (λ all. no_parts)
      (λ some. cond_both (int_lt y0 (pos 9999)) (rule_parts std rule y0 None) [] (λ (ps : List Part). AreFew ps rules_most) (λ lt. two_rules) (λ ge. no_parts))

any_rules : (std : Local) (dst : Option DstRule) (y0 : ℤ) → length std.name ≤ 32 → IfSome dst (λ r. length r.dst.name ≤ 32)
    → AreFew (rules_if_any std dst y0 None) rules_most
any_rules std None y0 short also = no_parts
any_rules std (Some rule) y0 short also = if_rules std rule y0 short also

few_rules : (footer : Option Footer) (y0 : ℤ) → IfSome footer HasShortNames → AreFew (rules_of footer y0 None) rules_most
few_rules None y0 short = no_parts
few_rules (Some footer) y0 short = any_rules footer.std footer.dst y0 short.std short.dst

-- ---- the parts of a zone

abbrev zone_most : ℕ
zone_most = 10_978 * 4_099 + 43_528

few_in_zone : (file : List ℕ) (from : Moment) → IsSoundFile file → HasMeaning from.seconds → AreFew (parts_after file from) zone_most
unfolding range_parts parts_from
few_in_zone file from sound meaning =
    let state = zone_state file in
    let y0 = rule_year file from.seconds in
    let os = observed state from.seconds (year_begin y0) in
    let told = few_told file from.seconds sound.no_fault sound.carried meaning in
    let changes = few_parts state from.seconds (year_begin y0) (λ t. zone_short file t sound.no_fault) in
    let most : 10_978 * length os ≤ 10_978 * 4_099 = omega (arith, told) in
    few_both (grouped os) (rules_of (footer_meant (lists_of file).footer) y0 None) (10_978 * 4_099) rules_most
    (fewer (grouped os) (10_978 * length os) (10_978 * 4_099) most changes)
    (few_rules (footer_meant (lists_of file).footer) y0 (meant_short (lists_of file).footer))

short_parts : (ps : List Part) → All IsSpellable ps → AllByRecursion IsNamedShort ps → AllByRecursion IsShortPart ps
short_parts [] spelled names = tt
short_parts (p ∷ ps) spelled names = (
  record { name = names.0; rule = (spelled 0 p (omega arith)).writable.rule },
  short_parts ps (λ i d lt. spelled (suc i) d (omega (arith, lt))) names.1,
)

-- ---- the calendar

identifier_size : (text : List ℕ) → is_identifier text ≡ true → length text ≤ 64
unfolding is_path
identifier_size text is = leb-true (length text) 64 (and_parts (nat_le (length text) 64) (list_all is_segment (segments text)) is).0

head_cost : (tzid : List ℕ) → length tzid ≤ 64 → cost (head_lines tzid) ≤ 20_000
unfolding head_lines
head_cost tzid short = omega (arith, short)

alias_cost : (alias_of : Option (List ℕ)) → IfSome alias_of (λ t. is_identifier t ≡ true) → cost (alias_lines alias_of) ≤ 10_000
unfolding alias_lines
alias_cost None also = omega arith
alias_cost (Some tzid) also = let short = identifier_size tzid also in omega (arith, short)

end_cost : cost (end_lines None) ≡ 0
unfolding end_lines
end_cost = refl

tail_cost : cost tail_lines ≤ 10_000
unfolding tail_lines
tail_cost = omega arith

lines_cost : (tzid : List ℕ) (alias_of : Option (List ℕ)) (parts : List Part) → is_identifier tzid ≡ true → IfSome alias_of (λ t. is_identifier t ≡ true)
    → cost (flat_map part_lines parts) ≤ zone_most → cost (calendar_lines tzid alias_of parts None) ≤ zone_most + 40_000
unfolding calendar_lines
lines_cost tzid alias_of parts is also few =
    let head = head_cost tzid (identifier_size tzid is) in
    let alias = alias_cost alias_of also in
    let tail = tail_cost in
    let body = flat_map part_lines parts in
    omega (
      arith,
      few,
      head,
      alias,
      end_cost,
      tail,
      cost_both (head_lines tzid) (alias_lines alias_of),
      cost_both (head_lines tzid ++ alias_lines alias_of) (end_lines None),
      cost_both (head_lines tzid ++ alias_lines alias_of ++ end_lines None) body,
      cost_both (head_lines tzid ++ alias_lines alias_of ++ end_lines None ++ body) tail_lines,
    )

pub calendar_fits : (file : List ℕ) (from : Moment) (tzid : List ℕ) (alias_of : Option (List ℕ)) → IsSoundFile file → HasMeaning from.seconds
    → is_identifier tzid ≡ true → IfSome alias_of (λ t. is_identifier t ≡ true) → All IsSpellable (parts_after file from)
    → length (calendar tzid alias_of (parts_after file from) None) ≤ MOST_BYTES
calendar_fits file from tzid alias_of sound meaning is also spelled =
    let parts = parts_after file from in
    let few = few_in_zone file from sound meaning in
    let size : parts_cost parts ≤ zone_most = few.size in
    let body = parts_size parts (short_parts parts spelled few.names) in
    let lines = lines_cost tzid alias_of parts is also (omega (arith, size, body)) in
    let text = written_size (calendar_lines tzid alias_of parts None) in
    omega (arith, lines, text)
