use Rattle.std.proofs.Common.{ap, ◌∙◌}
use Rattle.catalogue.specs.Histories.{token_of}
use Rattle.made_load.specs.Requests.{place_before}
use Rattle.made_load.proofs.asking.token_before.Goals as goal

pub returns : goal.returns
returns c = λ H stands.
    c.token.ensures.token H stands ∙ ap (token_of H) (c.place_before.ensures.before ∙ ap place_before (c.count.ensures.count H stands))
