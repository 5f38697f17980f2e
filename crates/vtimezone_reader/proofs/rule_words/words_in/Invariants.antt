use Rattle.std.proofs.Common.{◌≡◌}
use Rattle.std.specs.Option.{option_copied}
use Rattle.vtimezone.specs.Cutting.{cut_at}
use Rattle.vtimezone_reader.specs.Pieces.{pieces}
use Rattle.vtimezone_reader.specs.RuleWords.{words_read, no_words}
use Rattle.vtimezone_reader.proofs.Counted.{count_of}
use Rattle.vtimezone_reader.proofs.rule_words.words_in.Given as goal

abbrev pub invariant-words : goal.invariant-words
invariant-words l = words_read l.read (pieces 59 (option_copied l.left)) ≡ words_read no_words (cut_at 59 l.text)

abbrev pub decreases-words : goal.decreases-words
decreases-words l = count_of (option_copied l.left)
