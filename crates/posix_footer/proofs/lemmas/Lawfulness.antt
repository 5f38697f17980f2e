-- What a text spells keeps its ranges.
use Rattle.std.proofs.Common.{◌≡◌, ℕ, ◌+◌, ◌*◌, ◌<◌, ◌⊎◌, inl, inr, List, Option, None, Some, Ok, arith, ℤ, unsigned_abs}
use Rattle.jiff_core.specs.Calendar.{IsWithin}
use Rattle.jiff_core.proofs.SignedLemmas.{signed_arith}
use Rattle.posix_footer.specs.declared.rule_types.DayForm.{DayForm}
use Rattle.posix_footer.specs.declared.rule_types.DayForm.TheVariants as day
use Rattle.posix_footer.specs.declared.rule_types.Date.{Date}
use Rattle.posix_footer.specs.declared.rule_types.DstRule.{DstRule}
use Rattle.posix_footer.specs.declared.rule_types.Footer.{Footer}
use Rattle.posix_footer.specs.Grammar.{footer_in}
use Rattle.posix_footer.specs.Lawful.{IsLawfulDay, IsLawfulDate, IsLawfulOffset, IsLawfulRule, IsLawfulIfAny, IsLawful}
use Rattle.posix_footer.specs.Spelling.{IsAfterHours, IsClock, HasSign, IsSignedNumber, IsOffset, IsHourAhead, IsDay, IsTime, IsTwo, IsDate, IsRule}
use Rattle.posix_footer.specs.Spelling.{IsRuleIfAny, SpellsFooter}
use Rattle.posix_footer.proofs.FoundWhole.{footer_found}

after_hours_bound : (text : List ℕ) (seconds : ℕ) → IsAfterHours text seconds → seconds < 3600
after_hours_bound text seconds (inl none) = omega (arith, none.value)
after_hours_bound text seconds (inr (inl minutes)) = omega (arith, minutes.value, minutes.part.number.at_most)
after_hours_bound text seconds (inr (inr both)) =
    omega (arith, both.value, both.minute_part.number.at_most, both.second_part.number.at_most)

clock_bound : (digits greatest : ℕ) (text : List ℕ) (seconds : ℕ) → IsClock digits greatest text seconds → seconds < 3600 * greatest + 3600
clock_bound digits greatest text seconds is =
    omega (arith, is.value, is.hours.at_most, after_hours_bound is.after_text is.after_hours is.parts)

sign_keeps : (sign : List ℕ) (n : ℕ) (z : ℤ) → HasSign sign n z → unsigned_abs z ≡ n
sign_keeps sign n z (inl same) = omega (arith, signed_arith, same.value)
sign_keeps sign n z (inr turned) = omega (arith, signed_arith, turned.value)

time_within : (text : List ℕ) (z : ℤ) → IsSignedNumber 3 167 text z → IsWithin 604799 z
time_within text z is =
    let same = sign_keeps is.sign is.seconds z is.signed in
    let bound = clock_bound 3 167 is.clock_text is.seconds is.clock in
    (omega (arith, signed_arith, same, bound), omega (arith, signed_arith, same, bound))

offset_within : (text : List ℕ) (z : ℤ) → IsOffset text z → IsLawfulOffset z
offset_within text z is =
    let within = is.within in
    (omega (arith, signed_arith, is.value), omega (arith, signed_arith, is.value))

daylight_within : (std : ℤ) (text : List ℕ) (z : ℤ) → IsLawfulOffset std → IsOffset text z ⊎ IsHourAhead std text z → IsLawfulOffset z
daylight_within std text z h (inl written) = offset_within text z written
daylight_within std text z h (inr ahead) =
    let within = ahead.within in
    (omega (arith, signed_arith, ahead.value, h), omega (arith, signed_arith, ahead.value, h))

lawful_day : (text : List ℕ) (form : DayForm) → IsDay text form → IsLawfulDay form
lawful_day text (day.Julian n) is = (is.number.at_least, is.number.at_most)
lawful_day text (day.YearDay n) is = is.at_most
lawful_day text (day.Week month week weekday) is =
    (is.months.at_least, is.months.at_most, is.weeks.at_least, is.weeks.at_most, is.weekdays.at_most)

time_lawful : (text : List ℕ) (z : ℤ) → IsTime text z ⊎ IsTwo text z → IsWithin 604799 z
time_lawful text z (inl written) = time_within written.time_text z written.signed
time_lawful text z (inr two) = (omega (arith, signed_arith, two.value), omega (arith, signed_arith, two.value))

lawful_date : (text : List ℕ) (date : Date) → IsDate text date → IsLawfulDate date
lawful_date text date is = record {
  day = lawful_day is.day_text date.day is.day;
  time = time_lawful is.time_text date.time is.time;
}

lawful_rule : (std : ℤ) (text : List ℕ) (rule : DstRule) → IsLawfulOffset std → IsRule std text rule → IsLawfulRule std rule
lawful_rule std text rule h is = record {
  offset = h;
  daylight_offset = daylight_within std is.dst.offset_text rule.dst.offset h is.dst.offset;
  daylight = is.dst.daylight;
  start = lawful_date is.start_text rule.start is.start;
  end = lawful_date is.end_text rule.end is.end;
}

lawful_if_any : (std : ℤ) (text : List ℕ) (rule : Option DstRule) → IsLawfulOffset std → IsRuleIfAny std text rule → IsLawfulIfAny std rule
lawful_if_any std text None h is = tt
lawful_if_any std text (Some rule) h is = lawful_rule std text rule h is

pub spelled_lawful : (text : List ℕ) (footer : Footer) → SpellsFooter text footer → IsLawful footer
spelled_lawful text footer is =
    let offset = offset_within is.std.offset_text footer.std.offset is.std.offset in
    record {
      standard = is.std.standard;
      offset = offset;
      rule = lawful_if_any footer.std.offset is.rule_text footer.dst offset is.rule;
    }

pub read_lawful : (text : List ℕ) (footer : Footer) → footer_in text ≡ Ok footer → IsLawful footer
read_lawful text footer h = spelled_lawful text footer (footer_found text footer h)
