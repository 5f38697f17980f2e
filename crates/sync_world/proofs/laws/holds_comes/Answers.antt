use Rattle.sync_world.proofs.Reaching.{holding_comes}
use Rattle.sync_world.proofs.laws.holds_comes.Goals as goal

pub returns : goal.returns
returns g c = λ H steps w serves told kept.
    holding_comes g.P.Primary.service g.P.Primary.sound g.P.Primary.hears serves.heard_is_told serves.finds serves.finds_no_other told kept H steps w
