use Rattle.installer.proofs.Given.{given_served}
use Rattle.installer.proofs.laws.given_is_served.Goals as goal

pub returns : goal.returns
returns c = given_served
