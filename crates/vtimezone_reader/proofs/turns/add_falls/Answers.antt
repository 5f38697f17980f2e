use Rattle.std.proofs.Common.{arith}
use Rattle.jiff_core.proofs.SignedLemmas.{signed_arith}
use Rattle.vtimezone_reader.specs.Onsets.{is_rule_onset}
use Rattle.vtimezone_reader.proofs.TurnLists.{adds_next, adds_end}
use Rattle.vtimezone_reader.proofs.turns.add_falls.Goals as goal

pub onsets-preserved : goal.onsets-preserved
onsets-preserved c =
    let test = is_rule_onset c.args.part.now c.args.rule.now in
    let begun = c.onsets.invariant.begun in
    let next = c.in-Some.ensures in
    let later = next.later in
    record {
      begun = omega (arith, signed_arith, begun, later);
      ahead = next.before;
      adds = rw c.in_ok-push.ensures.items
          (adds_next test c.args.place c.args.from.seconds c.onsets.at.seconds c.args.end.seconds c.in-Some.next.seconds c.args.turns.now.items
          c.onsets.turns.items begun next c.onsets.invariant.adds);
    }

pub returns : goal.returns
returns c =
    adds_end (is_rule_onset c.args.part.now c.args.rule.now) c.args.place c.args.from.seconds c.onsets.at.seconds c.args.end.seconds c.args.turns.now.items
    c.onsets.turns.items c.onsets.invariant.ahead (rw c.in_default.is at c.next_of_rule.ensures) c.onsets.invariant.adds
