use Rattle.std.proofs.Common.{◌++◌, ◌∷◌, [], ap, ◌∙◌, rules}
use Rattle.made_load.proofs.ZoneLemmas.{all_named, named_on}
use Rattle.made_load.proofs.zones.manifest_zones.Goals as goal

pub loop-zone-preserved : goal.loop-zone-preserved
loop-zone-preserved c =
    named_on c.loop-zone.zones c.push.new.self c.loop-zone.zone (search rules)
    (c.in_ok-push.ensures.ok ∙ ap (λ m. c.loop-zone.zones ++ m ∷ []) c.in_ok-made_zone.ensures) c.loop-zone.invariant

pub returns : goal.returns
returns c = all_named c.loop-zone.zones c.loop-zone.zone (search rules) c.loop-zone.invariant
