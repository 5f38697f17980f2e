use Rattle.connection.proofs.KeepingLemmas as keeping
use Rattle.connection.proofs.replying.reply_to.Goals as goal

pub returns-clause-sends : goal.returns-clause-sends
returns-clause-sends g c =
    keeping.replied_if _ _ _ _ _ c.place_of.ensures.is c.key_of-key.ensures _ _ _ c.reply_by_key.result c.reply_by_key.ensures.sends
