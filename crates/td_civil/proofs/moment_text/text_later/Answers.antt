use Rattle.std.proofs.Common.{◌≡◌, ap, ◌+◌, ◌∙◌, List}
use Rattle.td_civil.specs.Reading.{two_at}
use Rattle.td_civil.proofs.lemmas.CalendarAgain.{later_made}
use Rattle.td_civil.proofs.moment_text.text_later.Goals as goal

pub returns : goal.returns
returns c m here later is =
    let text = c.args.text.now in
    later_made text _ _ _ m here later is
    (ap (λ k. k + 4) (c.two_at-century.ensures.value ∙ ap (λ (l : List _). two_at l 0) c.as_slice.ensures)) c.digit.ensures c.digit-2.ensures
