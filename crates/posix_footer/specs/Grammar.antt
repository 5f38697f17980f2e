-- TZ strings: `std offset`, or `std offset dst [offset] , date [/time] , date [/time]` (POSIX,
-- section 8.3; RFC 9636, section 3.3.2). A text is read from the left. Its first fault is named,
-- with its place: that of the item which is faulty or missing.
use Rattle.std.specs.Prelude.{ℕ, ◌-◌, List, length, drop, true, false, ◌==◌, if◌then◌else◌, ℤ, pos}
use Rattle.std.specs.Prelude.{None, Some, Result, Ok, Err, ok_or}
use Rattle.td_base.specs.FirstFault.{◌>>=◌}
use Rattle.td_civil.specs.declared.local_time.Local.{Local}
use Rattle.posix_footer.specs.declared.rule_types.Date.{Date}
use Rattle.posix_footer.specs.declared.rule_types.DstRule.{DstRule}
use Rattle.posix_footer.specs.declared.rule_types.Footer.{Footer}
use Rattle.posix_footer.specs.declared.footer_fault.FooterFault.{FooterFault}
use Rattle.posix_footer.specs.declared.footer_fault.FooterFault.TheVariants as fault
use Rattle.posix_footer.specs.Items.{begins, after_byte, name_at, offset_at}
use Rattle.posix_footer.specs.Items.{daylight_offset_at, day_at}
use Rattle.posix_footer.specs.Items.{time_at}

-- where the rest of a text of so many bytes begins
abbrev pub place : ℕ → List ℕ → ℕ
place size rest = size - length rest

-- the time after a day: two o'clock where no `/` stands
unfoldable pub time_after : ℕ → List ℕ → Result (ℤ × List ℕ) FooterFault
time_after size rest =
    if begins 47 rest then ok_or (time_at (drop 1 rest)) (fault.Time (place size (drop 1 rest)))
    else Ok (pos 7200, rest)

-- a day, and perhaps a time
unfoldable pub date_at : ℕ → List ℕ → Result (Date × List ℕ) FooterFault
date_at size rest = do
  day ← ok_or (day_at rest) (fault.Date (place size rest))
  time ← time_after size day.1
  Ok (record { day = day.0; time = time.0 }, time.1)

-- a state: its name and its offset
unfoldable pub standard_at : ℕ → List ℕ → Result (Local × List ℕ) FooterFault
standard_at size rest = do
  name ← ok_or (name_at rest) (fault.Name (place size rest))
  offset ← ok_or (offset_at name.1) (fault.Offset (place size name.1))
  Ok (record { offset = offset.0; dst = false; name = name.0 }, offset.1)

unfoldable pub daylight_at : ℕ → ℤ → List ℕ → Result (Local × List ℕ) FooterFault
daylight_at size std rest = do
  name ← ok_or (name_at rest) (fault.Name (place size rest))
  offset ← ok_or (daylight_offset_at std name.1) (fault.Offset (place size name.1))
  Ok (record { offset = offset.0; dst = true; name = name.0 }, offset.1)

-- the text of the dates, after the `,` that stands before them
unfoldable pub dates_after : ℕ → List ℕ → Result (List ℕ) FooterFault
dates_after size rest =
    if length rest == 0
    then Err fault.NoRule
    else ok_or (after_byte 44 rest) (fault.Rest (place size rest))

-- two dates with `,` between them, and nothing after them
unfoldable pub rule_read_at : ℕ → Local → List ℕ → Result DstRule FooterFault
rule_read_at size dst rest = do
  start ← date_at size rest
  second ← ok_or (after_byte 44 start.1) (fault.Date (place size start.1))
  end ← date_at size second
  if length end.1 == 0 then Ok (record { dst = dst; start = start.0; end = end.0 })
      else Err (fault.Rest (place size end.1))

-- daylight saving time, where the text goes on after the standard state
unfoldable pub rule_in : ℕ → Local → List ℕ → Result Footer FooterFault
rule_in size std rest = do
  dst ← daylight_at size std.offset rest
  dates ← dates_after size dst.1
  rule ← rule_read_at size dst.0 dates
  Ok (record { std = std; dst = Some rule })

unfoldable pub footer_at : ℕ → List ℕ → Result Footer FooterFault
footer_at size text = do
  std ← standard_at size text
  if length std.1 == 0 then Ok (record { std = std.0; dst = None }) else rule_in size std.0 std.1

-- the footer that a whole text spells, or the text's first fault
abbrev pub footer_in : List ℕ → Result Footer FooterFault
footer_in text = footer_at (length text) text
