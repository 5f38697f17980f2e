use Rattle.vtimezone_reader.proofs.Validity.{valid_kept, invalid_left}
use Rattle.vtimezone_reader.proofs.forms.valid_only.Goals as goal

pub returns-then-valid-clause-exact : goal.returns-then-valid-clause-exact
returns-then-valid-clause-exact c = valid_kept c.args.form c.valid.result c.valid.ensures c.if-valid.true

pub returns-else-valid-clause-exact : goal.returns-else-valid-clause-exact
returns-else-valid-clause-exact c = invalid_left c.args.form c.valid.result c.valid.ensures c.if-valid.false
