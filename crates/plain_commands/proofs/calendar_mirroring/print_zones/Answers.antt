use Rattle.std.proofs.lemmas.List.{take_all}
use Rattle.plain_commands.proofs.CalendarLemmas.{printed_all, printed_more, printed_none, printed_part}
use Rattle.plain_commands.proofs.KeptCalendars.{kept_next}
use Rattle.plain_commands.proofs.calendar_mirroring.print_zones.Goals as goal

pub loop-zone-init : goal.loop-zone-init
loop-zone-init g c = record { printed = printed_none c.args.mirror.now _ _ _; kept = c.requires.kept }

pub returns-in-Err : goal.returns-in-Err
returns-in-Err g c =
    printed_part c.args.mirror.now _ _ c.args.zones.now c.loop-zone.zone-index c.zone-item.result _ _ _ c.in-Err.status c.requires.known
    c.loop-zone-test.true c.zone-item.is c.loop-zone.invariant.printed c.in-Err.ensures

pub loop-zone-preserved : goal.loop-zone-preserved
loop-zone-preserved g c = record {
  printed = printed_more c.args.mirror.now _ _ c.args.zones.now c.loop-zone.zone-index c.zone-item.result _ _ _ c.loop-zone-test.true c.zone-item.is
      c.loop-zone.invariant.printed c.in-Ok.ensures;
  kept = kept_next _ c.args.zones.now c.loop-zone.zone-index c.zone-item.result c.loop-zone-test.true c.zone-item.is c.loop-zone.invariant.kept;
}

pub returns : goal.returns
returns g c =
    printed_all c.args.mirror.now _ _ c.args.zones.now _ _ _ c.requires.known (take_all _ c.args.zones.now c.loop-zone-test.false) c.requires.rising
    c.loop-zone.invariant.printed
