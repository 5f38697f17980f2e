use Rattle.connection.proofs.KeepingLemmas as keeping
use Rattle.connection.proofs.replying.send_new.Goals as goal

pub returns-in_err-ready-clause-kept : goal.returns-in_err-ready-clause-kept
returns-in_err-ready-clause-kept g c = record { many = c.requires.kept.many; large = c.requires.kept.large }

pub returns-in_err-written-clause-kept : goal.returns-in_err-written-clause-kept
returns-in_err-written-clause-kept g c = record { many = c.requires.kept.many; large = c.requires.kept.large }

pub returns-clause-sends : goal.returns-clause-sends
returns-clause-sends g c =
    keeping.sent_now _ _ _ _ _ _ c.in_ok-ready.ensures.is _ _ _ c.in_ok-written.ensures.sends

pub returns-clause-kept : goal.returns-clause-kept
returns-clause-kept g c =
    keeping.added _ _ _ _ _ _ c.keep.ensures c.in_ok-ready.ensures.is (record { many = c.requires.kept.many; large = c.requires.kept.large })
