use Rattle.std.proofs.Common.{◌≡◌, Some, rules}
use Rattle.sync_core.specs.Published.{file_bytes}
use Rattle.plain_commands.proofs.CalendarLemmas.{zone_told}
use Rattle.plain_commands.proofs.calendar_mirroring.zone_text.text_of_zone.Goals as goal

pub returns : goal.returns
returns c =
    let kept : Some c.unwrap-text.result.now ≡ file_bytes c.args.mirror.now.files c.args.zone.now.tzid = search rules in
    zone_told _ _ _ c.in_ok-calendar.calendar _ _ _ _ _ c.requires.kept kept c.in_ok-calendar.ensures.reads c.new-lines.ensures
    c.in_ok-put_zone.ensures c.in_ok-put_calendar.ensures
