use Rattle.sync_world.proofs.Retired.{token_is_of}
use Rattle.sync_world.proofs.laws.tokens_are_refused_late.Goals as goal

pub returns : goal.returns
returns g c = λ H steps w since token serves.
    token_is_of g.P.Primary.service g.P.Primary.sound g.P.Primary.hears serves.heard_is_told serves.finds serves.finds_no_other H steps w since token
