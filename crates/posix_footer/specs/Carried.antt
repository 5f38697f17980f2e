-- Which footers yearly rules of a calendar can say (RFC 5545, section 3.3.10): those whose dates
-- are the same in every year, after their times have moved them. The years 2001 and 2004 stand for
-- years without and with 29 February.
use Rattle.std.specs.Prelude.{◌≡◌, ℕ, Bool, true, false, not, ◌&&◌, ◌||◌, ◌==◌, ℤ, pos, ◌+ℤ◌, ◌-ℤ◌}
use Rattle.std.specs.Prelude.{int_le, Option, None, Some, ⊤}
use Rattle.std.specs.Ordering.{int_eq}
use Rattle.std.specs.Int.{int_div_euclid}
use Rattle.posix_footer.specs.declared.rule_types.DayForm.{DayForm}
use Rattle.posix_footer.specs.declared.rule_types.DayForm.TheVariants as day
use Rattle.posix_footer.specs.declared.rule_types.Date.{Date}
use Rattle.posix_footer.specs.declared.rule_types.DstRule.{DstRule}
use Rattle.posix_footer.specs.declared.rule_types.Footer.{Footer}
use Rattle.posix_footer.specs.Onset.{first_place, more_places}

-- the whole days by which a time moves its date: a time below 0 moves it back, one from 24 hours on
-- forward
abbrev pub moved_by : ℤ → ℤ
moved_by time = int_div_euclid time (pos 86400)

-- A row of days has the same dates in every year if it lies in January and February before the
-- 29th, at one place from the year's start, or in March to December, at one place from its end.
-- `common` and `leap` are the places of its first day in a year without and with 29 February
unfoldable pub keeps_early : ℤ → ℤ → ℕ → Bool
keeps_early common leap further =
    int_eq leap common && int_le (pos 0) common && int_le (common +ℤ pos further) (pos 58)

unfoldable pub keeps_late : ℤ → ℤ → ℕ → Bool
keeps_late common leap further =
    int_eq leap (common +ℤ pos 1) && int_le (pos 59) common
    && int_le (common +ℤ pos further) (pos 364)

-- the first of a date's days in a year, after its time has moved it, and the last
abbrev pub moved_first : Date → ℤ → ℤ
moved_first date y = pos (first_place date.day y) +ℤ moved_by date.time

abbrev pub moved_last : Date → ℤ → ℤ
moved_last date y = moved_first date y +ℤ pos (more_places date.day)

-- the same dates before and after the move, all in January and February, and then from 3 January on
unfoldable pub is_early : Date → Bool
is_early date =
    let first = pos (first_place date.day (pos 2001)) in
    keeps_early first (pos (first_place date.day (pos 2004))) (more_places date.day)
    && keeps_early (moved_first date (pos 2001)) (moved_first date (pos 2004))
    (more_places date.day)
    && int_le (pos 2) (moved_first date (pos 2001))

-- or all from March on, and then up to 29 December
unfoldable pub is_late_date : Date → Bool
is_late_date date =
    let first = pos (first_place date.day (pos 2001)) in
    keeps_late first (pos (first_place date.day (pos 2004))) (more_places date.day)
    && keeps_late (moved_first date (pos 2001)) (moved_first date (pos 2004))
    (more_places date.day)
    && int_le (moved_last date (pos 2001)) (pos 362)

-- days by number count 29 February
abbrev pub is_by_number : DayForm → Bool
is_by_number (day.YearDay n) = true
is_by_number other = false

unfoldable pub is_steady : Date → Bool
is_steady date = not (is_by_number date.day) && (is_early date || is_late_date date)

-- the second row begins three days after the first ends, or later
abbrev pub is_sooner_date : Date → Date → ℤ → Bool
is_sooner_date a b y = int_le (moved_last a y +ℤ pos 3) (moved_first b y)

unfoldable pub date_comes_before : Date → Date → Bool
date_comes_before a b = is_sooner_date a b (pos 2001) && is_sooner_date a b (pos 2004)

unfoldable pub are_apart : Date → Date → Bool
are_apart a b = date_comes_before a b || date_comes_before b a

unfoldable pub is_carried_rule : DstRule → Bool
is_carried_rule rule = is_steady rule.start && is_steady rule.end && are_apart rule.start rule.end

-- Daylight saving time all year: from 1 January, 00:00:00, by standard time, to the end of 31
-- December by the same clocks, whose time the clocks of daylight saving time show as 24:00:00 and
-- the difference of the offsets
abbrev pub is_year_start : DayForm → Bool
is_year_start (day.Julian n) = n == 1
is_year_start (day.YearDay n) = n == 0
is_year_start other = false

abbrev pub is_year_end : DayForm → Bool
is_year_end (day.Julian n) = n == 365
is_year_end other = false

unfoldable pub starts_year : Date → Bool
starts_year date = is_year_start date.day && int_eq date.time (pos 0)

unfoldable pub ends_year : Date → ℤ → Bool
ends_year date time = is_year_end date.day && int_eq date.time time

unfoldable pub is_all_year : ℤ → DstRule → Bool
is_all_year std rule =
    starts_year rule.start && ends_year rule.end ((pos 86400 +ℤ rule.dst.offset) -ℤ std)

-- a rule, if there is one, that is neither
abbrev pub beyond_if_any : ℤ → Option DstRule → Bool
beyond_if_any std None = false
beyond_if_any std (Some rule) = not (is_all_year std rule) && not (is_carried_rule rule)

-- no yearly rules say what the footer says
abbrev pub beyond : Footer → Bool
beyond footer = beyond_if_any footer.std.offset footer.dst

-- yearly rules say what the footer says, if there is one
abbrev pub IsCarriedIfAny : Option Footer → Type 0
IsCarriedIfAny None = ⊤
IsCarriedIfAny (Some footer) = beyond footer ≡ false
