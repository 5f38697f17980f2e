use Rattle.std.proofs.Common.{Some, sym, ◌∙◌, refl}
use Rattle.console.proofs.PlaceLemmas.{at_feed, some_place}
use Rattle.console.proofs.StepLemmas.{continues}
use Rattle.console.proofs.lines.Lines.pass_over.Goals as goal

pub unwrap-len-requires : goal.unwrap-len-requires
unwrap-len-requires c = some_place c.args.self.now c.first_feed.result c.first_feed.ensures.place c.requires

pub returns-clause-cutting : goal.returns-clause-cutting
returns-clause-cutting c =
    let place = at_feed c.args.self.now c.unwrap-len.result (sym c.first_feed.ensures.place ∙ c.unwrap-len.ensures) in
    continues c.args.self.now (Some _) c.take_line.new.self (place.0, refl, c.take_line.ensures ∙ place.2)
