use Rattle.std.proofs.Common.{◌≡◌, ℕ, ◌++◌, List, length, take, drop}
use Rattle.ical_lines.specs.Lines.{folded}
use Rattle.vtimezone.specs.Values.{more_dates}
use Rattle.vtimezone.proofs.calendar_text.append_more_dates.Given as goal

-- what is written, with the dates that are left and whatever follows them, is the whole
abbrev pub invariant-loop-date : goal.invariant-loop-date
invariant-loop-date l = record {
  whole : (rest : List ℕ) → l.out ++ folded l.room (more_dates (drop l.date-index l.dates) l.offset ++ rest)
      ≡ l.fn.out ++ folded l.fn.room (more_dates l.dates l.offset ++ rest);
  kept : take (length l.fn.out) l.out ≡ l.fn.out;
}
