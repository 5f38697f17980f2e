use Rattle.std.proofs.Common.{append_assoc}
use Rattle.json_forms.specs.LeapDocument.{leap_data}
use Rattle.json_forms.proofs.leap_writer.put_table.Goals as goal

pub returns-clause-tokens : goal.returns-clause-tokens
unfolding leap_data
returns-clause-tokens c =
    rw (
      c.in_ok-end_object.ensures.ok,
      c.in_ok-put_member-3.ensures.tokens,
      c.in_ok-put_member-2.ensures.tokens,
      c.in_ok-put_steps.ensures.tokens,
      c.in_ok-key.ensures.ok,
      c.in_ok-put_member.ensures.tokens,
      c.in_ok-begin_object.ensures.ok,
      c.as_slice-2.ensures,
      c.as_slice.ensures,
    )
    (simp append_assoc)
