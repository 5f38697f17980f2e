use Rattle.std.proofs.Common.{◌≡◌, codes, subst, IfOk}
use Rattle.serde_json.specs.View.{view}
use Rattle.json_forms.specs.CapabilitiesDocument.{action_data, find_action}
use Rattle.json_forms.proofs.capabilities_writer.find_action.Goals as goal

pub returns : goal.returns
unfolding find_action
returns c =
    subst (λ parameters. IfOk c.action.result (λ v. view v ≡ action_data (codes "find") parameters (codes "/tzdist/zones{?pattern}")))
    c.in_ok-parameters.ensures c.action.ensures
