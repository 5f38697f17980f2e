use Rattle.std.proofs.Common.{◌<◌, length, refl, sym, ap, ◌∙◌, rules}
use Rattle.std.proofs.lemmas.Result.{err_from_is_err_and}
use Rattle.subscribers.specs.Views.{given_up, prepared}
use Rattle.subscribers.proofs.Lists.{written_more, written_unseen}
use Rattle.subscribers.proofs.subscriber_list.prepare_each.Goals as goal

pub returns-in_err-prepare-clause-err : goal.returns-in_err-prepare-clause-err
returns-in_err-prepare-clause-err g c =
    let less : c.loop-subscriber.subscriber-index < length c.args.list.now = search rules in
    let p = err_from_is_err_and c.from_residual.result c.from_residual.ensures.1 in
    rw p.1
    (written_unseen (prepared c.args.place c.args.delta.now) given_up (λ z. refl) c.args.list.now c.loop-subscriber.list c.loop-subscriber.subscriber-index
    c.subscriber-item.result c.prepare.new.self c.loop-subscriber.invariant less c.subscriber-item.is (c.in_err-prepare.ensures.err ∙ sym c.subscriber-item.is))

pub loop-subscriber-preserved : goal.loop-subscriber-preserved
loop-subscriber-preserved g c =
    let less : c.loop-subscriber.subscriber-index < length c.args.list.now = search rules in
    written_more (prepared c.args.place c.args.delta.now) c.args.list.now c.loop-subscriber.list c.loop-subscriber.subscriber-index c.subscriber-item.result
    c.prepare.new.self c.loop-subscriber.invariant less c.subscriber-item.is (c.in_ok-prepare.ensures.ok ∙ ap (prepared c.args.place c.args.delta.now) (sym c.subscriber-item.is))
