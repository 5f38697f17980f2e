use Rattle.std.proofs.Common.{rules, length}
use Rattle.std.proofs.lemmas.List.Sorted.{IsNonDecreasingBy-from_sort_by_key}
use Rattle.vtimezone_reader.specs.Turns.{since}
use Rattle.vtimezone_reader.proofs.TurnLists.{are_sorted}
use Rattle.vtimezone_reader.proofs.turns.turns_between.Goals as goal

pub returns-clause-all : goal.returns-clause-all
returns-clause-all c =
    are_sorted c.args.parts.now (length c.args.parts.now) c.args.t.seconds c.args.end.seconds c.in_ok-turns.turns.items c.sort_by_key.new.self.items
    c.in_ok-sort_by_key.ensures.permutation c.in_ok-turns.ensures

pub returns-clause-rising : goal.returns-clause-rising
returns-clause-rising c =
    IsNonDecreasingBy-from_sort_by_key since c.sort_by_key.new.self.items c.in_ok-sort_by_key.ensures.sorted (λ a r f' called. search rules)
