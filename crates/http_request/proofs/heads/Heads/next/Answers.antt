use Rattle.http_request.proofs.AskLemmas.{continues_ok}
use Rattle.http_request.proofs.TakingLemmas as taking
use Rattle.http_request.proofs.heads.Heads.next.Goals as goal

pub returns-clause-for_good : goal.returns-clause-for_good
returns-clause-for_good c = λ status b.
    taking.for_good c.args.self.now.rest c.step.new.self.rest c.step.result status c.step.ensures.steps c.step.ensures.memory b

pub returns-clause-cutting : goal.returns-clause-cutting
returns-clause-cutting c = continues_ok c.args.self.now.rest c.step.new.self.rest c.step.result c.step.ensures.steps

pub returns-clause-form : goal.returns-clause-form
returns-clause-form c = taking.step_form c.args.self.now.rest c.step.new.self.rest c.step.result c.step.ensures.steps

pub returns-clause-fewer : goal.returns-clause-fewer
returns-clause-fewer c = taking.step_fewer c.args.self.now.rest c.step.new.self.rest c.step.result c.step.ensures.steps

pub returns-clause-room : goal.returns-clause-room
returns-clause-room c = taking.step_room c.args.self.now.rest c.step.new.self.rest c.step.result c.step.ensures.steps

pub returns-clause-status : goal.returns-clause-status
returns-clause-status c = taking.step_status c.args.self.now.rest c.step.new.self.rest c.step.result c.step.ensures.steps
