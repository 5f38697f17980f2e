use Rattle.sync_world.proofs.Answered.{answered}
use Rattle.sync_world.proofs.laws.asks_are_answered.Goals as goal

pub returns : goal.returns
returns g c = λ H steps w sent n serves.
    answered g.P.Primary.service g.P.Primary.sound g.P.Primary.hears serves.heard_is_told serves.finds serves.finds_no_other H steps w sent n
