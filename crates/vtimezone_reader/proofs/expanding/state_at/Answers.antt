use Rattle.std.proofs.Common.{◌<◌, ◌≤◌, length, rules}
use Rattle.vtimezone_reader.proofs.TurnWalk.{walk_begins, walk_inside, walk_goes_on, walk_ends}
use Rattle.vtimezone_reader.proofs.expanding.state_at.Goals as goal

pub turns-init : goal.turns-init
turns-init c =
    rw c.new.ensures
    (walk_begins c.args.parts.now c.args.t.seconds c.before_onset.result.seconds c.second_after.result.seconds c.in_ok-turns.turns.items c.requires.low
    c.before_onset.ensures c.second_after.ensures c.in_ok-turns.ensures.all c.in_ok-turns.ensures.rising)

pub part_at-requires : goal.part_at-requires
part_at-requires c =
    let lt : c.turns.next < length c.in_ok-turns.turns.items = search rules in
    walk_inside c.args.parts.now c.args.t.seconds c.in_ok-turns.turns.items c.turns.next c.together-part.result.1 c.together-part.result.0 c.turns.state
    c.turns.invariant lt (rw c.as_slice.ensures.value at c.together-part.ensures.turns)

pub turns-preserved : goal.turns-preserved
turns-preserved c =
    let lt : c.turns.next < length c.in_ok-turns.turns.items = search rules in
    walk_goes_on c.args.parts.now c.args.t.seconds c.in_ok-turns.turns.items c.turns.next c.together-part.result.1 c.together-part.result.0 c.turns.state
    c.state_of-state.result c.part_at.result.now c.turns.invariant lt (rw c.as_slice.ensures.value at c.together-part.ensures.turns) c.part_at.ensures
    c.state_of-state.ensures

pub returns : goal.returns
returns c =
    let all : length c.in_ok-turns.turns.items ≤ c.turns.next = search rules in
    walk_ends c.args.parts.now c.args.t.seconds c.in_ok-turns.turns.items c.turns.next c.turns.state c.turns.invariant all
