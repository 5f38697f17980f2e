use Rattle.std.proofs.Common.{◌≡◌, [], ◌≤◌, length}
use Rattle.td_top.specs.ConsoleBeside.{scene_of, steady}
use Rattle.run_ends.specs.Talking.{IsAt, Scene}
use Rattle.td_top.specs.TalkingSteps.{most_waiting}
use Rattle.td_top.proofs.talking.answer_lines.Given as goal

abbrev pub invariant-loop : goal.invariant-loop
invariant-loop g l = let at = scene_of (λ a. a.rules.chosen) g.G.ReleaseFeed.seen g.C.Source.seen g.K.Sink.seen in record {
  at : (start : Scene) → IsAt start (at l.fn.console) [] → IsAt start (at l.console) l.lines;
  steady : steady l.console ≡ steady l.fn.console;
  held : length l.lines ≤ most_waiting;
}
