use Rattle.std.proofs.Common.{◌≡◌, ◌≤◌, ◌<◌}
use Rattle.std.specs.Option.{option_copied}
use Rattle.vtimezone_reader.specs.Pieces.{pieces}
use Rattle.vtimezone_reader.specs.RuleWords.{days_after, days_in}
use Rattle.vtimezone_reader.proofs.Counted.{count_of}
use Rattle.vtimezone_reader.proofs.day_words.days_in.Given as goal

abbrev pub invariant-numbers : goal.invariant-numbers
invariant-numbers l = record {
  some : 0 < l.count;
  few : l.count ≤ 7;
  read : days_after l.places l.first l.count (pieces 44 (option_copied l.left)) ≡ days_in l.places l.fn.text;
}

abbrev pub decreases-numbers : goal.decreases-numbers
decreases-numbers l = count_of (option_copied l.left)
