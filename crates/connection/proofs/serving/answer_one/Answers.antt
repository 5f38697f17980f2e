use Rattle.std.proofs.Common.{ap, length, refl}
use Rattle.std.proofs.lemmas.Result.{err_from_is_err_and}
use Rattle.connection.proofs.ComputingLemmas as computing
use Rattle.connection.proofs.KeepingLemmas as keeping
use Rattle.connection.proofs.ServingLemmas as serving
use Rattle.connection.proofs.serving.answer_one.Goals as goal

pub reply_to-requires-clause-kept : goal.reply_to-requires-clause-kept
reply_to-requires-clause-kept g c = keeping.grown _ _ _ _ c.enter.ensures.seen c.requires.kept

pub returns-in_err-enter-clause-kept : goal.returns-in_err-enter-clause-kept
returns-in_err-enter-clause-kept g c = keeping.grown _ _ _ _ c.enter.ensures.seen c.requires.kept

pub returns-in-Whole-clause-answers : goal.returns-in-Whole-clause-answers
returns-in-Whole-clause-answers g c =
    serving.whole _ _ _ _ _ _ _ _ _ _ c.in_ok-enter.ensures.ok c.enter.ensures.pair c.enter.ensures.seen c.enter.ensures.ended refl
    c.in_ok-enter.ensures.placed.1 c.in_ok-enter.ensures.placed.0 c.is_last-close.ensures _ c.in_ok-reply_to.ensures.sends c.in-Whole.is _ c.ended_by.ensures

pub returns-in-Cut-clause-answers : goal.returns-in-Cut-clause-answers
returns-in-Cut-clause-answers g c =
    serving.in_part _ _ _ _ _ _ _ _ _ _ c.in_ok-enter.ensures.ok c.enter.ensures.pair c.enter.ensures.seen c.enter.ensures.ended refl
    c.in_ok-enter.ensures.placed.1 c.in_ok-enter.ensures.placed.0 c.is_last-close.ensures _ c.in_ok-reply_to.ensures.sends c.in-Cut.is

pub returns-in_err-reply_to-clause-answers : goal.returns-in_err-reply_to-clause-answers
returns-in_err-reply_to-clause-answers g c =
    let p = err_from_is_err_and c.from_residual-in_err-reply_to.result c.from_residual-in_err-reply_to.ensures.1 in
    rw p.1
    (serving.without_reply _ _ _ _ _ _ _ _ _ c.is_last-close.result c.in_ok-enter.ensures.ok c.enter.ensures.pair c.enter.ensures.seen
    c.enter.ensures.ended refl c.in_ok-enter.ensures.placed.1 c.in_ok-enter.ensures.placed.0 c.in_err-reply_to.ensures.none)

pub returns-in_err-enter-clause-first : goal.returns-in_err-enter-clause-first
returns-in_err-enter-clause-first g c = computing.none_added _ _ _ _ (ap length c.in_err-enter.ensures.unplaced)

pub returns-in-Whole-clause-first : goal.returns-in-Whole-clause-first
returns-in-Whole-clause-first g c = computing.replied _ _ _ _ _ c.reply_to.ensures.unless_kept

pub returns-in-Cut-clause-first : goal.returns-in-Cut-clause-first
returns-in-Cut-clause-first g c = computing.replied _ _ _ _ _ c.reply_to.ensures.unless_kept

pub returns-in_err-reply_to-clause-first : goal.returns-in_err-reply_to-clause-first
returns-in_err-reply_to-clause-first g c = computing.replied _ _ _ _ _ c.reply_to.ensures.unless_kept
