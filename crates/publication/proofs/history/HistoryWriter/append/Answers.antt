use Rattle.std.proofs.Common.{sym, ◌∙◌, ap}
use Rattle.publication.proofs.AddingLemmas.{entry_moves}
use Rattle.publication.proofs.history.HistoryWriter.append.Goals as goal

pub compare_exchange-found-requires : goal.compare_exchange-found-requires
compare_exchange-found-requires g c =
    let h = c.args.self.now.head_is in
    let offer = c.plain-offer.ensures in
    let pen = c.no_pen-pen.ensures in (
      ap (λ w. w.tracked) h,
      sym (ap (λ w. w.book) h),
      pen.0 ∙ sym (ap (λ w. w.book) h),
      offer.0,
      rw (ap (λ w. w.key) h, pen.1, offer.1, offer.3 ∙ c.requires.waits)
          (entry_moves _ _ c.args.self.now.prefix.log (g.M.Plain.ask c.args.about.now) c.args.self.now.count _ (sym c.args.self.now.counted)
          c.in-Some.ensures.1 c.requires.going c.requires.stands),
    )
