use Rattle.std.proofs.Common.{ℕ, Some, refl, subst}
use Rattle.td_base.specs.Views.{SinkView, SourceView, StoreView}
use Rattle.td_base.proofs.lemmas.LaterLemmas.{sink_refl, source_refl, store_refl}
use Rattle.run_ends.specs.Commands.{load}
use Rattle.run_ends.specs.Outside.{outside}
use Rattle.run_ends.specs.Printing.{Printed}
use Rattle.run_ends.specs.Running.{RunsAlone}
use Rattle.run_ends.specs.Running.Loading.{LoadEnds, out_of_memory, told}
use Rattle.run_ends.specs.declared.status.Status.{Status}
use Rattle.run_ends.specs.declared.status.Status.TheVariants as status
use Rattle.run_ends.proofs.lemmas.Endings.{EndsLater, ends_printed}
use Rattle.run_ends.proofs.lemmas.Runs.{runs_alone}
use Rattle.plain_commands.proofs.loading.load.Goals as goal

loaded : (number : ℕ) (store : StoreView) (input : SourceView) (old new : SinkView) (end : Status)
    → EndsLater (LoadEnds number) (outside store input old) (outside store input new) end
    → RunsAlone (Some (load number)) (outside store input old) (outside store input new) end
loaded number store input old new end =
    runs_alone (LoadEnds number) (Some (load number)) (outside store input old) (outside store input new) end (λ n r ends nobody. (ends, refl, nobody))

pub returns-in-Ok : goal.returns-in-Ok
returns-in-Ok g c = λ store input.
    let printed = subst (λ text. Printed status.Done text (g.K.Sink.seen c.args.output.now) (g.K.Sink.seen c.print.new.output) c.print.result)
    c.as_slice.ensures c.print.ensures in
    loaded c.args.plan.now.number store input _ _ _
    (ends_printed (LoadEnds c.args.plan.now.number) store store input _ _ status.Done c.in-Ok.line _ (store_refl store)
    (told c.in-Ok.line _ c.in-Ok.ensures printed refl) printed)

pub returns-in-Err : goal.returns-in-Err
returns-in-Err g c = λ store input. loaded c.args.plan.now.number store input _ _ _ (record {
  ends = out_of_memory (refl, refl);
  later = record { store = store_refl store; input = source_refl input; output = sink_refl _ };
})
