use Rattle.console.proofs.StepLemmas.{continues_ok, fewer, few}
use Rattle.console.proofs.lines.Lines.next.Goals as goal

pub returns-clause-cutting : goal.returns-clause-cutting
returns-clause-cutting c = continues_ok c.args.self.now c.step.new.self c.step.result c.step.ensures.steps

pub returns-clause-fewer : goal.returns-clause-fewer
returns-clause-fewer c = fewer c.args.self.now c.step.new.self c.step.result c.step.ensures.steps

pub returns-clause-few : goal.returns-clause-few
returns-clause-few c = few c.args.self.now c.step.new.self c.step.result c.step.ensures.steps
