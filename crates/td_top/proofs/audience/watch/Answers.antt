use Rattle.std.proofs.Common.{Err, ap, refl}
use Rattle.console.specs.declared.line.Line.TheVariants as line
use Rattle.td_top.proofs.AudienceLemmas.{is_full, is_starved, is_watched}
use Rattle.td_top.proofs.audience.watch.Goals as goal

pub returns-in-Ok-subscribe : goal.returns-in-Ok-subscribe
returns-in-Ok-subscribe c = λ feed asked same. rw same (
    is_watched feed c.args.session.now _ c.args.wish.now c.in-Ok-subscribe.number _ (rw c.in-Ok.ensures at c.in-Ok-subscribe.ensures.ok) refl
    c.in-Ok-subscribe.ensures.number (λ many. absurd (cc (c.in-Ok-subscribe.ensures.full.1 many))) c.brief-in-Ok-subscribe.ensures)

pub returns-in-Err-NoMemory : goal.returns-in-Err-NoMemory
returns-in-Err-NoMemory c = λ feed asked same. rw same (
    is_starved feed c.args.session.now _ (line.Watch c.args.wish.now) _ c.in-Err-NoMemory.ensures.err refl tt c.brief-in-Err-NoMemory.ensures)

pub returns-in-Err-WatchFull : goal.returns-in-Err-WatchFull
returns-in-Err-WatchFull c = λ feed asked same. rw same (
    is_full feed c.args.session.now _ c.args.wish.now _ c.in-Err-WatchFull.ensures.err refl
    (c.in-Err-WatchFull.ensures.full.0 (ap Err c.in-Err-WatchFull.field-0-is)) c.shown_refusal.ensures)

pub returns-in_default : goal.returns-in_default
returns-in_default c = λ feed asked same. rw same (is_starved feed c.args.session.now _ (line.Watch c.args.wish.now) _ refl refl tt c.brief.ensures)
