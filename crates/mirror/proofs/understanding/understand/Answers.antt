use Rattle.mirror.proofs.lemmas.Meanings.{heard_fault, heard_reply}
use Rattle.mirror.proofs.understanding.understand.Goals as goal

pub returns-in-Ok : goal.returns-in-Ok
returns-in-Ok c =
    heard_reply c.args.ask.now c.args.answer.now c.in-Ok.reply c.hear_reply.result c.if-answer-ge-MOST_ANSWER.false c.in-Ok.ensures.found c.hear_reply.ensures

pub returns-in-Err : goal.returns-in-Err
returns-in-Err c =
    heard_fault c.args.ask.now c.args.answer.now c.in-Err.fault c.unreadable.result c.if-answer-ge-MOST_ANSWER.false
    c.in-Err.ensures.fault c.unreadable.ensures.heard
    c.unreadable.ensures.memory
