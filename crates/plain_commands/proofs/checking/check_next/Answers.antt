use Rattle.std.proofs.Common.{refl}
use Rattle.plain_commands.specs.CheckingSteps.{grown}
use Rattle.plain_commands.proofs.Checked.{comes_refused, comes_told, some_history}
use Rattle.run_ends.proofs.lemmas.Installing.{gives, no_refusal}
use Rattle.plain_commands.proofs.checking.check_next.Goals as goal

pub tell-requires : goal.tell-requires
tell-requires g c =
    let some = some_history c.args.last.now c.requires in
    (grown some.0 c.in-Ok.next, c.in-Ok.ensures.stands some.0 some.1)

pub returns-in-Ok : goal.returns-in-Ok
returns-in-Ok g c = λ H stands.
    let found = c.in-Ok.ensures.found H stands in
    comes_told H c.args.folder.now _ _ _ _ c.in-Ok.next _ found.later (c.in-Ok.ensures.stands H stands)
    (gives _ _ c.args.folder.now _ H (grown H) c.in-Ok.next _ refl (no_refusal H _) found) c.tell.ensures

pub returns-in-Err : goal.returns-in-Err
returns-in-Err g c = λ H stands.
    comes_refused H c.args.folder.now _ _ _ _ (grown H) c.in-Err.fault _ (c.in-Err.ensures.found H stands) c.refuse_install.ensures
