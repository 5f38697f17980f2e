-- How long the lines of a part are, at the most.
use Rattle.std.proofs.Common.{◌≡◌, ℕ, zero, suc, ◌+◌, ◌*◌, ◌%◌, ◌==◌, ◌≤◌, ◌||◌, Bool, true, false, List, [], ◌∷◌, ◌++◌, codes, length, refl, arith, ℤ}
use Rattle.std.proofs.Common.{length-append, Option, None, Some, pos, negsuc, neg_ℤ, ◌+ℤ◌, ◌≤ℤ◌, unsigned_abs}
use Rattle.std.specs.Fmt.{signed_decimal}
use Rattle.std.specs.Option.{IfSome}
use Rattle.std.proofs.lemmas.Bool.{cond_both}
use Rattle.std.proofs.lemmas.Fmt.{length_signed_le}
use Rattle.jiff_core.proofs.SignedLemmas.{signed_arith}
use Rattle.jiff_core.specs.Calendar.{days_in_month}
use Rattle.td_civil.specs.Calendar.{local_text_of}
use Rattle.td_civil.specs.declared.moment_type.Moment.{Moment}
use Rattle.recurrence.specs.Valid.{IsFirstDay, IsOrdinal, IsValidForm}
use Rattle.recurrence.specs.Weekdays.{weekday_name}
use Rattle.recurrence.specs.declared.part_types.Part.{Part}
use Rattle.recurrence.specs.declared.rule_types.Form.{Form}
use Rattle.recurrence.specs.declared.rule_types.Form.TheVariants as form
use Rattle.recurrence.specs.declared.rule_types.Rule.{Rule}
use Rattle.vtimezone.specs.CalendarText.{change_lines, date_lines, kind_of, line, part_lines, rule_lines, start_line}
use Rattle.vtimezone.specs.Values.{by_month, by_month_day, by_month_days, by_nth_weekday, by_weekday, by_year_days, dates_text, form_text, more_dates}
use Rattle.vtimezone.specs.Values.{next_number, offset_text}
use Rattle.vtimezone.specs.Values.{rule_text, seconds_text, seven_numbers, until_text, utc_basic}
use Rattle.calendar_world.proofs.LineSizes.{cost, cost_both}

-- ---- values

local_size : (m offset : ℤ) → length (local_text_of m offset) ≡ 15
unfolding local_text_of
local_size m offset = refl

two_at_most : (seconds : ℕ) → length (seconds_text seconds) ≤ 2
two_at_most seconds = cond_both (seconds == 0) [] _ (λ (xs : List ℕ). length xs ≤ 2) (λ none. omega arith) (λ some. omega arith)

offset_size : (offset : ℤ) → length (offset_text offset) ≤ 7
unfolding offset_text
offset_size offset = let last = two_at_most (unsigned_abs offset % 60) in omega (arith, last)

more_size : (dates : List Moment) (offset : ℤ) → length (more_dates dates offset) ≡ 16 * length dates
more_size [] offset = refl
more_size (d ∷ dates) offset =
    let rest = more_size dates offset in
    let one = local_size d.seconds offset in
    omega (arith, rest, one, length-append (codes "," ++ local_text_of d.seconds offset) (more_dates dates offset))

dates_size : (first : Moment) (dates : List Moment) (offset : ℤ) → length (dates_text first dates offset) ≡ 15 + 16 * length dates
unfolding dates_text
dates_size first dates offset =
    let rest = more_size dates offset in
    let one = local_size first.seconds offset in
    omega (arith, rest, one, length-append (local_text_of first.seconds offset) (more_dates dates offset))

-- ---- rules

abbrev IsSmall : ℤ → Type 0
IsSmall z = (neg_ℤ (pos 1000) ≤ℤ z) × (z ≤ℤ pos 1000)

number_size : (z : ℤ) → IsSmall z → length (signed_decimal z) ≤ 5
number_size (pos n) h = length_signed_le 4 (pos n) (let high = h.1 in omega (arith, signed_arith, high)) (let high = h.1 in omega (arith, signed_arith, high))
number_size (negsuc n) h = length_signed_le 4 (negsuc n) (let low = h.0 in omega (arith, signed_arith, low)) (let low = h.0 in omega (arith, signed_arith, low))

next_size : (first : ℤ) (more : ℕ) → IsSmall (first +ℤ pos more) → length (next_number first more) ≤ 6
unfolding next_number
next_size first more h = let size = number_size (first +ℤ pos more) h in omega (arith, size)

seven_size : (first : ℤ) → (neg_ℤ (pos 900) ≤ℤ first) → (first ≤ℤ pos 900) → length (seven_numbers first) ≤ 41
unfolding seven_numbers
seven_size first low high =
    let small : (n : ℕ) → n ≤ 6 → IsSmall (first +ℤ pos n) = λ n few. (omega (arith, signed_arith, low, few), omega (arith, signed_arith, high, few)) in
    let one = number_size first (omega (arith, signed_arith, low), omega (arith, signed_arith, high)) in
    let a = next_size first 1 (small 1 (omega arith)) in
    let b = next_size first 2 (small 2 (omega arith)) in
    let c = next_size first 3 (small 3 (omega arith)) in
    let d = next_size first 4 (small 4 (omega arith)) in
    let e = next_size first 5 (small 5 (omega arith)) in
    let f = next_size first 6 (small 6 (omega arith)) in
    simp length-append (omega (arith, one, a, b, c, d, e, f))

weekday_size : (w : ℕ) → w ≤ 6 → length (weekday_name w) ≡ 2
unfolding weekday_name
weekday_size zero h = refl
weekday_size (suc zero) h = refl
weekday_size (suc (suc zero)) h = refl
weekday_size (suc (suc (suc zero))) h = refl
weekday_size (suc (suc (suc (suc zero)))) h = refl
weekday_size (suc (suc (suc (suc (suc zero))))) h = refl
weekday_size (suc (suc (suc (suc (suc (suc zero)))))) h = refl
weekday_size (suc (suc (suc (suc (suc (suc (suc w))))))) h = absurd (omega arith)

month_size : (month : ℕ) → month ≤ 12 → length (by_month month) ≤ 14
unfolding by_month
month_size month h =
    let size = number_size (pos month) (omega (arith, signed_arith), omega (arith, signed_arith, h)) in
    simp length-append (omega (arith, size))

by_weekday_size : (w : ℕ) → w ≤ 6 → length (by_weekday w) ≤ 9
unfolding by_weekday
by_weekday_size w h = let size = weekday_size w h in simp length-append (omega (arith, size))

nth_small : (nth : ℤ) → IsOrdinal nth → IsSmall nth
nth_small (pos n) h = (omega (arith, signed_arith), let most = h.1 in omega (arith, signed_arith, most))
nth_small (negsuc n) h = (omega (arith, signed_arith, h), omega (arith, signed_arith))

nth_size : (nth : ℤ) (w : ℕ) → IsOrdinal nth → w ≤ 6 → length (by_nth_weekday nth w) ≤ 14
unfolding by_nth_weekday
nth_size nth w h k =
    let number = number_size nth (nth_small nth h) in
    let size = weekday_size w k in
    simp length-append (omega (arith, number, size))

month_days : (month : ℕ) → days_in_month (pos 2001) month ≤ 31
month_days month =
    cond_both (month == 2) 28 _ (λ (n : ℕ). n ≤ 31) (λ two. omega arith)
    (λ other. cond_both (month == 4 || month == 6 || month == 9 || month == 11) 30 31 (λ (n : ℕ). n ≤ 31) (λ short. omega arith) (λ long. omega arith))

days_size : (first : ℕ) → first ≤ 31 → length (by_month_days first) ≤ 53
unfolding by_month_days
days_size first h =
    let seven = seven_size (pos first) (omega (arith, signed_arith)) (omega (arith, signed_arith, h)) in
    simp length-append (omega (arith, seven))

day_size : (day : ℕ) → day ≤ 31 → length (by_month_day day) ≤ 17
unfolding by_month_day
day_size day h =
    let size = number_size (pos day) (omega (arith, signed_arith), omega (arith, signed_arith, h)) in
    simp length-append (omega (arith, size))

first_day : (first : ℤ) → IsFirstDay first → (neg_ℤ (pos 900) ≤ℤ first) × (first ≤ℤ pos 900)
first_day (pos n) h = (omega (arith, signed_arith), let most = h.1 in omega (arith, signed_arith, most))
first_day (negsuc n) h = (let most = h.1 in omega (arith, signed_arith, most), omega (arith, signed_arith))

year_size : (first : ℤ) → IsFirstDay first → length (by_year_days first) ≤ 52
unfolding by_year_days
year_size first h =
    let day = first_day first h in
    let seven = seven_size first day.0 day.1 in
    simp length-append (omega (arith, seven))

form_size : (f : Form) → IsValidForm f → length (form_text f) ≤ 100
form_size (form.NthDay month nth weekday) h =
    let a = month_size month h.0.1 in
    let b = nth_size nth weekday h.1 h.2 in
    omega (arith, a, b, length-append (by_month month) (by_nth_weekday nth weekday))
form_size (form.MonthDays month first weekday) h =
    let most = month_days month in
    let within = h.1.1 in
    let a = month_size month h.0.1 in
    let b = days_size first (omega (arith, most, within)) in
    let c = by_weekday_size weekday h.2 in
    simp length-append (omega (arith, a, b, c))
form_size (form.YearDays first weekday) h =
    let a = year_size first h.0 in
    let b = by_weekday_size weekday h.1 in
    omega (arith, a, b, length-append (by_year_days first) (by_weekday weekday))
form_size (form.FixedDate month day) h =
    let most = month_days month in
    let within = h.1.1 in
    let a = month_size month h.0.1 in
    let b = day_size day (omega (arith, most, within)) in
    omega (arith, a, b, length-append (by_month month) (by_month_day day))

until_size : (until : Option Moment) → length (until_text until) ≤ 23
unfolding until_text utc_basic
until_size None = omega arith
until_size (Some last) = let size = local_size last.seconds (pos 0) in simp length-append (omega (arith, size))

rule_size : (rule : Rule) (until : Option Moment) → IsValidForm rule.form → length (rule_text rule until) ≤ 134
unfolding rule_text
rule_size rule until h =
    let form = form_size rule.form h in
    let end = until_size until in
    simp length-append (omega (arith, form, end))

-- ---- lines

kind_size : (dst : Bool) → length (kind_of dst) ≡ 8
kind_size true = refl
kind_size false = refl

-- a line by its name and its value
line_sum : (name value : List ℕ) → length (line name value) ≡ length name + 1 + length value
line_sum name value = omega (arith, length-append name (58 ∷ value))

start_size : (start : Moment) (offset : ℤ) → length (start_line start offset) ≡ 23
unfolding start_line
start_size start offset = let size = local_size start.seconds offset in omega (arith, size, line_sum (codes "DTSTART") (local_text_of start.seconds offset))

change_cost : (p : Part) → length p.name ≤ 32 → cost (change_lines p) ≤ 8184
unfolding change_lines
change_cost p short =
    let start = start_size p.start p.from in
    let from = offset_size p.from in
    let to = offset_size p.to in
    omega (
      arith,
      start,
      from,
      to,
      short,
      line_sum (codes "TZOFFSETFROM") (offset_text p.from),
      line_sum (codes "TZOFFSETTO") (offset_text p.to),
      line_sum (codes "TZNAME") p.name,
    )

date_cost : (dates : List Moment) (offset : ℤ) → cost (date_lines dates offset) ≤ 526 + 1216 * length dates
unfolding date_lines
date_cost [] offset = omega arith
date_cost (first ∷ dates) offset =
    let size = dates_size first dates offset in
    omega (arith, size, line_sum (codes "RDATE") (dates_text first dates offset))

-- what the rule of a part adds
abbrev pub rule_cost : Option Rule → ℕ
rule_cost None = 0
rule_cost (Some rule) = 10_786

rule_lines_cost : (rule : Option Rule) (until : Option Moment) → IfSome rule (λ r. IsValidForm r.form) → cost (rule_lines rule until) ≤ rule_cost rule
unfolding rule_lines
rule_lines_cost None until h = omega arith
rule_lines_cost (Some rule) until h =
    let size = rule_size rule until h in
    omega (arith, size, line_sum (codes "RRULE") (rule_text rule until))

-- a part whose name is short, and whose rule has a text
pub record IsShortPart (p : Part) : Type 0 where
  pub name : length p.name ≤ 32
  pub rule : IfSome p.rule (λ r. IsValidForm r.form)

-- its lines, each of its dates, and its rule
abbrev pub part_cost : Part → ℕ
part_cost p = 10_978 + 1216 * length p.dates + rule_cost p.rule

pub part_size : (p : Part) → IsShortPart p → cost (part_lines p) ≤ part_cost p
unfolding part_lines
part_size p h =
    let changes = change_cost p h.name in
    let dates = date_cost p.dates p.from in
    let rule = rule_lines_cost p.rule p.until h.rule in
    omega (
      arith,
      changes,
      dates,
      rule,
      kind_size p.dst,
      line_sum (codes "BEGIN") (kind_of p.dst),
      line_sum (codes "END") (kind_of p.dst),
      cost_both (change_lines p) (date_lines p.dates p.from),
      cost_both (change_lines p ++ date_lines p.dates p.from) (rule_lines p.rule p.until),
      cost_both (change_lines p ++ date_lines p.dates p.from ++ rule_lines p.rule p.until) (line (codes "END") (kind_of p.dst) ∷ []),
    )
