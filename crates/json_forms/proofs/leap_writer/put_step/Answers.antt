use Rattle.std.proofs.Common.{rules, FitsSigned, w32, w64, to_z-of_z, append_assoc}
use Rattle.json_forms.specs.LeapDocument.{step_data}
use Rattle.json_forms.proofs.leap_writer.put_step.Goals as goal

pub returns-clause-tokens : goal.returns-clause-tokens
unfolding step_data
returns-clause-tokens c =
    let day : FitsSigned w64 c.args.step.day = search rules in
    let offset : FitsSigned w32 c.args.step.offset = search rules in
    rw (
      c.in_ok-end_object.ensures.ok,
      c.in_ok-put_integer.ensures.tokens,
      c.in_ok-put_date.ensures.tokens,
      c.in_ok-begin_object.ensures.ok,
      to_z-of_z day,
      to_z-of_z offset,
    )
    (simp append_assoc)
