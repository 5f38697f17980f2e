use Rattle.std.proofs.Common.{◌≡◌, ◌∙◌, refl, sym, subst, ap}
use Rattle.td_civil.specs.Bounds.{HasMeaning}
use Rattle.tzif_reader.specs.declared.zone_file.ZoneFile.{ZoneFile}
use Rattle.tzif_reader.specs.Cut.{lists_of}
use Rattle.vtimezone.specs.ZoneParts.{latest}
use Rattle.vtimezone.proofs.lemmas.ZoneRange.{latest_meant}
use Rattle.vtimezone.proofs.zone_parts.last_moment.Goals as goal

pub returns-clause-meaning : goal.returns-clause-meaning
returns-clause-meaning c =
    let moments = (lists_of c.args.zone.now).moments in
    let is : c.latest.result.seconds ≡ latest c.args.from.seconds moments =
    c.latest.ensures ∙ ap (latest c.args.from.seconds) (ap (λ (z : ZoneFile). z.moments) c.lists.ensures.lists) in
    subst HasMeaning (sym is) (latest_meant c.args.zone.now c.args.from.seconds moments c.lists.ensures.no_fault refl c.requires)
