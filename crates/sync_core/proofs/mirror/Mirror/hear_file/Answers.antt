use Rattle.std.proofs.Common.{refl, arith}
use Rattle.sync_core.proofs.Kept.{file_heard}
use Rattle.sync_core.proofs.mirror.Mirror.hear_file.Goals as goal

pub returns-clause-ok : goal.returns-clause-ok
returns-clause-ok c =
    let own = c.self.inside in
    let fits = own.pending.ok.0 in
    let some = c.in-Some.ensures.variant.0 refl in
    rw (← c.self.view_is)
    (file_heard own.token own.coming own.entries.items own.files.entries c.insert.new.self.entries own.pending.items c.pop_front.new.self.items
    c.in-Some.first.now c.in_ok-tzid.tzid c.args.bytes
    c.in-Some.ensures.lookup c.in_ok-tzid.ensures (omega (arith, some, fits)) c.pop_front.ensures.rest c.in_ok-insert.ensures.entries)
