use Rattle.std.proofs.Common.{◌<◌, length, refl, rules}
use Rattle.admission.specs.Rules.{first_refusing, is_kept}
use Rattle.admission.proofs.Asked.{one_kept}
use Rattle.admission.proofs.asking.ask.Goals as goal

pub loop-at-init : goal.loop-at-init
unfolding first_refusing
loop-at-init g c = refl

pub is_allowed-requires : goal.is_allowed-requires
is_allowed-requires g c =
    let less : c.loop-at.at < length c.args.chosen.now = search rules in
    one_kept (λ rule. is_kept _ rule.kind) c.args.chosen.now c.loop-at.at _ less c.requires.0
