use Rattle.std.proofs.Common.{[], ◌∷◌, length, length-append, ap, ◌∙◌, arith}
use Rattle.std.proofs.lemmas.List.Elements.{All-push}
use Rattle.publication.specs.Histories.{values, ended_in}
use Rattle.publication.specs.Views.{IsNewDesk}
use Rattle.publication.proofs.making.desks_of.Goals as goal

pub loop-preserved : goal.loop-preserved
loop-preserved g c =
    let kept = c.loop.invariant in
    let more = c.in-Ok.ensures.items in (
      c.desk_of.ensures.stage ∙ kept.0,
      omega (arith, ap length more, length-append c.loop.made.items (c.in_ok-desk.desk ∷ []), kept.1),
      rw more (All-push (λ d. IsNewDesk c.args.edition.now.prefix.book (values c.args.edition.now.prefix.log) (ended_in c.args.edition.now.prefix.log) d)
          c.loop.made.items c.in_ok-desk.desk kept.2 c.in_ok-desk.ensures.desk),
    )
