use Rattle.std.proofs.Common.{◌<◌, ◌≤◌, length, rules}
use Rattle.vtimezone_reader.proofs.TurnWalk.{list_begins, list_inside, list_goes_on, list_ends}
use Rattle.vtimezone_reader.proofs.expanding.append_changes.Goals as goal

pub turns-init : goal.turns-init
turns-init c =
    list_begins c.args.parts.now c.args.t.seconds c.args.end.seconds c.in_ok-turns.turns.items c.args.state c.args.out.now c.requires.low c.requires.range
    c.in_ok-turns.ensures.all c.in_ok-turns.ensures.rising c.requires.state

pub part_at-requires : goal.part_at-requires
part_at-requires c =
    let lt : c.turns.next < length c.in_ok-turns.turns.items = search rules in
    list_inside c.args.parts.now c.args.t.seconds c.args.end.seconds c.in_ok-turns.turns.items c.turns.next c.together-part.result.1 c.together-part.result.0
    c.turns.before c.turns.out _ c.turns.invariant lt (rw c.as_slice-in-turns.ensures.value at c.together-part.ensures.turns)

pub turns-preserved : goal.turns-preserved
turns-preserved c =
    let lt : c.turns.next < length c.in_ok-turns.turns.items = search rules in
    list_goes_on c.args.parts.now c.args.t.seconds c.args.end.seconds c.in_ok-turns.turns.items c.turns.next c.together-part.result.1 c.together-part.result.0
    c.turns.before c.state_of-now.result c.part_at.result.now c.nth-turn.result c.turns.out c.append_change.new.out _ c.turns.invariant lt
    (rw c.as_slice.ensures.value at c.nth-turn.ensures) (rw c.as_slice-in-turns.ensures.value at c.together-part.ensures.turns) c.part_at.ensures
    c.state_of-now.ensures c.in_ok-append_change.ensures

pub returns : goal.returns
returns c =
    let all : length c.in_ok-turns.turns.items ≤ c.turns.next = search rules in
    list_ends c.args.parts.now c.args.t.seconds c.args.end.seconds c.in_ok-turns.turns.items c.turns.next c.turns.before c.turns.out _ c.turns.invariant all
