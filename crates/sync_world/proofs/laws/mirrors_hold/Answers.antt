use Rattle.sync_world.proofs.Law.{law}
use Rattle.sync_world.proofs.laws.mirrors_hold.Goals as goal

pub returns : goal.returns
returns g c = λ H steps w v n sent h serves.
    law g.P.Primary.service g.P.Primary.sound g.P.Primary.hears serves.heard_is_told serves.finds serves.finds_no_other H steps w v n sent h
