use Rattle.std.proofs.Common.{append_assoc}
use Rattle.json_forms.specs.ListDocument.{zone_data, zone_members}
use Rattle.json_forms.specs.ToldZone.{told_zone}
use Rattle.json_forms.proofs.TreeTokens.{aliases_written}
use Rattle.json_forms.proofs.list_writer.put_zone.Goals as goal

pub returns-clause-tokens : goal.returns-clause-tokens
unfolding zone_data
returns-clause-tokens c =
    rw (
      c.in_ok-end_object.ensures.ok,
      c.in_ok-put_member-4.ensures.tokens,
      c.in_ok-put_member-3.ensures.tokens,
      c.in_ok-put_member-2.ensures.tokens,
      c.in_ok-put_moment.ensures.tokens,
      c.in_ok-put_member.ensures.tokens,
      c.in_ok-put_aliases.ensures.tokens,
      c.in_ok-begin_object.ensures.ok,
      aliases_written c.args.zone.now.aliases.now (zone_members (told_zone c.args.zone.now)),
    )
    (simp append_assoc)
