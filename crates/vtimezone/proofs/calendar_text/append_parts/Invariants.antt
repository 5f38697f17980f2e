use Rattle.std.proofs.Common.{◌≡◌, ◌++◌, length, take, drop}
use Rattle.std.specs.List.{flat_map}
use Rattle.ical_lines.specs.Lines.{lines_written}
use Rattle.vtimezone.specs.CalendarText.{part_lines}
use Rattle.vtimezone.proofs.calendar_text.append_parts.Given as goal

-- what is written, with the lines of the parts that are left, is the whole
abbrev pub invariant-loop-part : goal.invariant-loop-part
invariant-loop-part l = record {
  whole : l.out ++ lines_written (flat_map part_lines (drop l.part-index l.parts)) ≡ l.initial.out ++ lines_written (flat_map part_lines l.parts);
  kept : take (length l.initial.out) l.out ≡ l.initial.out;
}
