use Rattle.std.proofs.Common.{sym, ◌∙◌}
use Rattle.td_top.proofs.LineLemmas.{is_quit, said_as, starved}
use Rattle.td_top.proofs.TalkLemmas.{line_turn, quit_turn, read_turn}
use Rattle.td_top.proofs.TurnLemmas.{is_last, keeps_talking, takes_memory}
use Rattle.td_top.proofs.talking.take_turn.Goals as goal

pub returns-in-None-clause-turns : goal.returns-in-None-clause-turns
returns-in-None-clause-turns g c = λ start at.
    read_turn start _ _ _ _ _ c.args.lines.now c.take_line.new.lines c.feed.new.lines c.feed.result at c.in-None.ensures.takes c.feed.ensures.later
    c.feed.ensures.told

pub returns-in-Unread-clause-turns : goal.returns-in-Unread-clause-turns
returns-in-Unread-clause-turns g c = λ start at.
    let next = c.in-Unread.ensures.takes in
    line_turn start _ _ _ _ _ _ _ c.args.lines.now c.take_line.new.lines next.0 c.as_slice.result.now c.say.result (keeps_talking next.0 next.1) at next.2
    (said_as _ _ _ _ _ _ _ (c.as_slice.ensures.value ∙ c.short.ensures) (starved _ c.args.console.now.session.now next.0 (takes_memory next.0 next.1)))
    c.say.ensures

pub returns-then-is_quit-clause-turns : goal.returns-then-is_quit-clause-turns
returns-then-is_quit-clause-turns g c = λ start at.
    quit_turn start _ _ _ _ _ c.args.lines.now c.take_line.new.lines c.quit.result at
    (is_last c.args.lines.now c.take_line.new.lines c.in-Line.line (sym c.is_quit.ensures ∙ c.if-is_quit.true) c.in-Line.ensures.takes) (is_quit _ _)
    c.quit.ensures

pub returns-else-is_quit-clause-turns : goal.returns-else-is_quit-clause-turns
returns-else-is_quit-clause-turns g c = λ start at.
    line_turn start _ _ _ _ _ _ _ c.args.lines.now c.take_line.new.lines c.in-Line.line c.as_slice-in-Line.result.now c.say-in-Line.result
    (sym c.is_quit.ensures ∙ c.if-is_quit.false) at
    c.in-Line.ensures.takes
    (said_as _ _ _ _ _ _ _ c.as_slice-in-Line.ensures c.answer_line-reply.ensures.answers)
    c.say-in-Line.ensures
