-- The parts of a range mean the state.
use Rattle.std.proofs.Common.{◌≡◌, Bool, true, false, true≢false, not, ◌&&◌, refl, sym, subst, ap, ◌∙◌, arith, ℤ, pos, neg_ℤ, ◌-ℤ◌, ◌*ℤ◌, ◌≤ℤ◌, ◌<ℤ◌}
use Rattle.std.proofs.Common.{int_lt, Option, None, Some, List, [], ◌++◌, map}
use Rattle.std.specs.List.{Contains}
use Rattle.std.proofs.lemmas.Bool.{cond_both}
use Rattle.std.proofs.lemmas.List.{append-nil}
use Rattle.std.proofs.lemmas.Int.{by_lt_z}
use Rattle.jiff_core.specs.Calendar.{days_from_civil, IsBetween}
use Rattle.jiff_core.proofs.SignedLemmas.{signed_arith}
use Rattle.td_civil.specs.Bounds.{HasMeaning}
use Rattle.td_civil.specs.declared.local_time.Local.{Local}
use Rattle.posix_footer.specs.declared.rule_types.DstRule.{DstRule}
use Rattle.posix_footer.specs.declared.rule_types.Footer.{Footer}
use Rattle.posix_footer.specs.Lawful.{IsLawfulRule, IsLawfulIfAny}
use Rattle.posix_footer.specs.StateAt.{state_by}
use Rattle.recurrence.specs.declared.part_types.Part.{Part}
use Rattle.posix_footer.specs.Carried.{is_carried_rule, is_all_year, beyond_if_any}
use Rattle.vtimezone.proofs.lemmas.Whole.{AreSingles, IsWhole, IsRange, IsLawfulAndCarried, Means}
use Rattle.vtimezone.specs.Ranges.{IsBeforeEnd, IsEndOf}
use Rattle.vtimezone.specs.PartsOf.{rule_parts, changes_end, rules_if_any, rules_of, parts_from}
use Rattle.recurrence.proofs.lemmas.AllYear.{all_year_daylight, year_9999}
use Rattle.vtimezone.proofs.Meaning.{singles_mean, singles_stay, listed_parts_mean}
use Rattle.vtimezone.proofs.RuleParts.{are_rule_parts, IsMeant}
use Rattle.zone_meaning.specs.Observed.{observed}
use Rattle.vtimezone.proofs.Singles.{single_of, are_singles}
use Rattle.vtimezone.proofs.Grouped.{grouped_gives}
use Rattle.vtimezone.proofs.Ruled.{rules_have_rules}

pub end_after : (turn a : ℤ) (b : Option ℤ) → a <ℤ turn → IsEndOf a b → a <ℤ changes_end turn b
end_after turn a None lt end = lt
end_after turn a (Some b) lt end = cond_both (int_lt b turn) b turn (λ e. a <ℤ e) (λ _. end.0) (λ _. lt)

pub end_most : (turn : ℤ) (b : Option ℤ) → changes_end turn b ≤ℤ turn
end_most turn None = omega (arith, signed_arith)
end_most turn (Some b) =
    cond_both (int_lt b turn) b turn (λ e. e ≤ℤ turn) (λ lt. omega (arith, signed_arith)) (λ _. omega (arith, signed_arith))

end_reach : (turn : ℤ) (b : Option ℤ) (t : ℤ) → IsBeforeEnd b t → t <ℤ turn → t <ℤ changes_end turn b
end_reach turn None t before lt = lt
end_reach turn (Some b) t before lt = cond_both (int_lt b turn) b turn (λ e. t <ℤ e) (λ _. before) (λ _. lt)

end_full : (turn : ℤ) (b : Option ℤ) (t : ℤ) → IsBeforeEnd b t → turn ≤ℤ t → changes_end turn b ≡ turn
end_full turn None t before late = refl
end_full turn (Some b) t before late =
    cond_both (int_lt b turn) b turn (λ e. e ≡ turn) (λ lt. absurd (omega (arith, signed_arith))) (λ _. refl)

meant_end : (std : Local) (rule : DstRule) (y0 a : ℤ) (b : Option ℤ) (h : IsLawfulRule std.offset rule) (carried : is_carried_rule rule ≡ true)
    (year0 : IsBetween (pos 1799) (pos 9998) y0) → IsEndOf a b → IsMeant std rule y0 h carried year0 b
meant_end std rule y0 a None h carried year0 end = tt
meant_end std rule y0 a (Some b) h carried year0 end = let le : b ≤ℤ pos 253370764800 = end.1 in omega (arith, signed_arith, year_9999)

-- a rule that is not beyond, and not of all the year, is carried
pub not_beyond : (x y : Bool) → (not x && not y) ≡ false → x ≡ false → y ≡ true
not_beyond true y e f = absurd (true≢false f)
not_beyond false true e f = refl
not_beyond false false e f = absurd (true≢false e)

module _ (state : ℤ → Local) (footer : Option Footer) (a last y0 : ℤ) (b : Option ℤ) (range : IsRange state footer a last y0 b) where
  are : AreSingles state a (changes_end (days_from_civil y0 1 1 *ℤ pos 86400) b)
      (Contains (map single_of (observed state a (changes_end (days_from_civil y0 1 1 *ℤ pos 86400) b))))
  are =
      let turn = days_from_civil y0 1 1 *ℤ pos 86400 in
      let before = range.turn in
      let from = range.from in
      are_singles state a (changes_end turn b) (end_after turn a b (omega (arith, signed_arith)) range.end)

  -- where no rule is wanted, single parts do
  alone : (t : ℤ) → a ≤ℤ t → IsBeforeEnd b t
      → ((days_from_civil y0 1 1 *ℤ pos 86400) ≤ℤ t → state t ≡ state ((days_from_civil y0 1 1 *ℤ pos 86400) -ℤ pos 1))
      → Means (map single_of (observed state a (changes_end (days_from_civil y0 1 1 *ℤ pos 86400) b)) ++ []) state t
  alone t from before stays =
      let xs = map single_of (observed state a (changes_end (days_from_civil y0 1 1 *ℤ pos 86400) b)) in
      let Shown : List Part → Type 0 = λ ps. Means ps state t in
      subst Shown (sym (append-nil xs))
      (by_lt_z t (days_from_civil y0 1 1 *ℤ pos 86400)
      (λ early. singles_mean state a _ (Contains xs) are t from (end_reach (days_from_civil y0 1 1 *ℤ pos 86400) b t before early))
      (λ late.
      let full = end_full (days_from_civil y0 1 1 *ℤ pos 86400) b t before late in
      let begin = range.turn in
      let first = range.from in
      singles_stay state a _ (Contains xs) are t (omega (arith, signed_arith, full)) (omega (arith, signed_arith, full))
      (stays late ∙ ap (λ e. state (e -ℤ pos 1)) (sym full))))

  by_rules : (std : Local) (rule : DstRule) → IsLawfulRule std.offset rule → is_carried_rule rule ≡ true → y0 <ℤ pos 9999
      → ((t : ℤ) → last ≤ℤ t → state t ≡ state_by std (Some rule) t)
      → (t : ℤ) → a ≤ℤ t → t <ℤ (days_from_civil (pos 9999) 1 1 *ℤ pos 86400) → IsBeforeEnd b t
      → Means (map single_of (observed state a (changes_end (days_from_civil y0 1 1 *ℤ pos 86400) b)) ++ rule_parts std rule y0 b) state t
  by_rules std rule h carried less goes t from meant before =
      let turn = days_from_civil y0 1 1 *ℤ pos 86400 in
      let years = range.year0 in
      let year0 : IsBetween (pos 1799) (pos 9998) y0 = (omega (arith, signed_arith), omega (arith, signed_arith)) in
      let begin = range.turn in
      let first = range.from in
      let xs = map single_of (observed state a (changes_end (days_from_civil y0 1 1 *ℤ pos 86400) b)) in
      let whole : IsWhole state std rule a (changes_end turn b) y0 b (Contains xs) (Contains (rule_parts std rule y0 b)) = record {
        lawful = h;
        carried = carried;
        year0 = year0;
        singles = are;
        rules = are_rule_parts std rule y0 h carried year0 b (meant_end std rule y0 a b h carried year0 range.end);
        begin = omega (arith, signed_arith);
        end = end_most turn b;
        reach = λ u u_before early. end_reach turn b u u_before early;
        full = λ u u_before late. end_full turn b u u_before late;
        footer = λ u late. goes u (omega (arith, signed_arith));
      } in
      listed_parts_mean state std rule a (changes_end turn b) y0 b xs (rule_parts std rule y0 b) whole t from meant before

  -- with a footer's standard state and its rule, if it has one
  by_footer : (std : Local) (dst : Option DstRule) → IsLawfulIfAny std.offset dst → beyond_if_any std.offset dst ≡ false
      → ((t : ℤ) → last ≤ℤ t → state t ≡ state_by std dst t)
      → (t : ℤ) → a ≤ℤ t → t <ℤ (days_from_civil (pos 9999) 1 1 *ℤ pos 86400) → IsBeforeEnd b t
      → Means (map single_of (observed state a (changes_end (days_from_civil y0 1 1 *ℤ pos 86400) b)) ++ rules_if_any std dst y0 b) state t
  by_footer std None h e goes t from meant before =
      let begin = range.turn in
      alone t from before (λ late. goes t (omega (arith, signed_arith)) ∙ sym
      (goes ((days_from_civil y0 1 1 *ℤ pos 86400) -ℤ pos 1) (omega (arith, signed_arith))))
  by_footer std (Some rule) h e goes t from meant before =
      let turn = days_from_civil y0 1 1 *ℤ pos 86400 in
      let xs = map single_of (observed state a (changes_end (days_from_civil y0 1 1 *ℤ pos 86400) b)) in
      let begin = range.turn in
      let first = range.from in
      let start = range.start in
      let years = range.year0 in
      cond_both (is_all_year std.offset rule) [] _ (λ ps. Means (xs ++ ps) state t)
      (λ all.
      let low : neg_ℤ (pos 5364662400) ≤ℤ a = start.0 in
      let meaning : HasMeaning t = (omega (arith, signed_arith, low), omega (arith, signed_arith, year_9999)) in
      alone t from before (λ late.
      let end : HasMeaning (turn -ℤ pos 1) = (omega (arith, signed_arith, low), omega (arith, signed_arith, year_9999, late)) in
      goes t (omega (arith, signed_arith)) ∙ all_year_daylight std rule t h all meaning
      ∙ sym (goes (turn -ℤ pos 1) (omega (arith, signed_arith)) ∙ all_year_daylight std rule (turn -ℤ pos 1) h all end)))
      (λ some_year.
      let carried = not_beyond (is_all_year std.offset rule) (is_carried_rule rule) e some_year in
      cond_both (int_lt y0 (pos 9999)) (rule_parts std rule y0 b) [] (λ ps. Means (xs ++ ps) state t)
      (λ lt. by_rules std rule h carried (omega (arith, signed_arith)) goes t from meant before)
      (λ ge.
      let same : pos 9999 ≡ y0 = omega (arith, signed_arith) in
      let P : ℤ → Type 0 = λ y. t <ℤ (days_from_civil y 1 1 *ℤ pos 86400) in
      let early = subst P same meant in
      alone t from before (λ late. absurd (omega (arith, signed_arith, early, late)))))

singly_mean : (state : ℤ → Local) (footer : Option Footer) (a last y0 : ℤ) (b : Option ℤ) → IsRange state footer a last y0 b → IsLawfulAndCarried footer
    → (t : ℤ) → a ≤ℤ t → t <ℤ (days_from_civil (pos 9999) 1 1 *ℤ pos 86400) → IsBeforeEnd b t
    → Means (map single_of (observed state a (changes_end (days_from_civil y0 1 1 *ℤ pos 86400) b)) ++ rules_of footer y0 b) state t
singly_mean state None a last y0 b range carried t from meant before =
    let begin = range.turn in
    alone state None a last y0 b range t from before (λ late. range.goes_on t (omega (arith, signed_arith))
    ∙ sym (range.goes_on ((days_from_civil y0 1 1 *ℤ pos 86400) -ℤ pos 1) (omega (arith, signed_arith))))
singly_mean state (Some footer) a last y0 b range carried t from meant before =
    by_footer state (Some footer) a last y0 b range footer.std footer.dst carried.0.rule carried.1 range.goes_on t from meant before

-- the part in force has the state of its moment, from the start of the range to its end
pub parts_from_mean : (state : ℤ → Local) (footer : Option Footer) (a last y0 : ℤ) (b : Option ℤ) → IsRange state footer a last y0 b
    → IsLawfulAndCarried footer → (t : ℤ) → a ≤ℤ t → t <ℤ (days_from_civil (pos 9999) 1 1 *ℤ pos 86400) → IsBeforeEnd b t
    → Means (parts_from state footer a b y0) state t
unfolding parts_from
parts_from_mean state footer a last y0 b range carried t from meant before =
    grouped_gives (observed state a (changes_end (days_from_civil y0 1 1 *ℤ pos 86400) b)) (rules_of footer y0 b) (rules_have_rules footer y0 b) t (state t)
    (singly_mean state footer a last y0 b range carried t from meant before)
