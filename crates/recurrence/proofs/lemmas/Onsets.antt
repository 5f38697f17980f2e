-- The rules of a carried footer fall on its onsets.
use Rattle.std.proofs.Common.{◌≡◌, ◌<◌, true, arith, ℤ, pos, ◌+ℤ◌, ◌*ℤ◌}
use Rattle.jiff_core.specs.Calendar.{IsYear}
use Rattle.jiff_core.proofs.SignedLemmas.{signed_arith}
use Rattle.posix_footer.specs.declared.rule_types.Date.{Date}
use Rattle.posix_footer.specs.declared.rule_types.DstRule.{DstRule}
use Rattle.posix_footer.specs.Lawful.{IsLawfulDate, IsLawfulRule}
use Rattle.posix_footer.specs.Onset.{day_number, moment_on}
use Rattle.posix_footer.specs.Carried.{moved_by, is_steady, is_carried_rule, are_apart}
use Rattle.recurrence.specs.RuleOfDate.{second_in_day, rule_of}
use Rattle.recurrence.specs.Occurs.{FallsAt, AreRulesOf}
use Rattle.recurrence.specs.Valid.{IsValid}
use Rattle.recurrence.proofs.Steady.{steady_is, three}
use Rattle.recurrence.proofs.Carrying.{IsRuleDay, moved_is, rule_day}
use Rattle.recurrence.proofs.Windows.{falls_once}

pub second_below : (time : ℤ) → second_in_day time < 86400
second_below time = omega (arith, signed_arith)

pub time_is : (time : ℤ) → (moved_by time *ℤ pos 86400) +ℤ pos (second_in_day time) ≡ time
time_is time = omega (arith, signed_arith)

date_day : (date : Date) (y : ℤ) → IsLawfulDate date → IsYear y → is_steady date ≡ true
    → IsRuleDay (rule_of date).form y (day_number date.day y +ℤ moved_by date.time)
date_day date y h year e =
    let steady = steady_is date e in
    rule_day date.day (moved_by date.time) y h.day year steady.not_by_number (moved_is date y h.day steady)

pub rule_valid : (date : Date) → IsLawfulDate date → is_steady date ≡ true → IsValid (rule_of date)
rule_valid date h e = record {
  form = (date_day date (pos 2001) h (omega (arith, signed_arith), omega (arith, signed_arith)) e).valid;
  second = second_below date.time;
}

pub falls_at : (date : Date) (offset y : ℤ) → IsLawfulDate date → IsYear y → is_steady date ≡ true
    → FallsAt (rule_of date) offset y (moment_on date offset y)
falls_at date offset y h year e =
    let there = date_day date y h year e in
    record {
      day = day_number date.day y +ℤ moved_by date.time;
      occurs = record {
        within = there.within;
        falls = there.falls;
        only = λ other within falls. falls_once (rule_of date).form y other
            (day_number date.day y +ℤ moved_by date.time) year there.valid within there.within falls there.falls;
      };
      moment_is = omega (arith, signed_arith, time_is date.time);
    }

pub carried_parts : (rule : DstRule) → is_carried_rule rule ≡ true
    → (is_steady rule.start ≡ true) × (is_steady rule.end ≡ true) × (are_apart rule.start rule.end ≡ true)
unfolding is_carried_rule
carried_parts rule e = three (is_steady rule.start) (is_steady rule.end) (are_apart rule.start rule.end) e

-- the rules of the dates of a carried rule fall on its changes
pub keeps_onsets : (rule : DstRule) (std : ℤ) → IsLawfulRule std rule → is_carried_rule rule ≡ true
    → AreRulesOf std rule (rule_of rule.start) (rule_of rule.end)
keeps_onsets rule std h e =
    let parts = carried_parts rule e in
    record {
      start_valid = rule_valid rule.start h.start parts.0;
      end_valid = rule_valid rule.end h.end parts.1;
      each_year = λ y year. record {
        start_falls = falls_at rule.start std y h.start year parts.0;
        end_falls = falls_at rule.end rule.dst.offset y h.end year parts.1;
      };
    }
