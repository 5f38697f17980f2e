use Rattle.std.proofs.Common.{ap, sym, ◌∙◌}
use Rattle.td_base.specs.Views.{file_at}
use Rattle.sync_core.proofs.Kept.{IsFound, all_first, all_rest, next_found, same_name}
use Rattle.sync_core.proofs.mirror_files.MirrorFiles.take_next.Goals as goal

pub invariant_of-self-then-ne : goal.invariant_of-self-then-ne
invariant_of-self-then-ne c = all_rest (IsFound c.self.inside.files.now) _ _ _ c.in_ok-next.ensures.steps c.self.invariant

pub invariant_of-self-2 : goal.invariant_of-self-2
invariant_of-self-2 c = all_rest (IsFound c.self.inside.files.now) _ _ _ c.in_ok-next.ensures.steps c.self.invariant

pub returns-clause-found : goal.returns-clause-found
returns-clause-found c =
    let same = sym c.as_slice.ensures ∙ same_name _ _ c.ne.result c.ne.ensures c.if-ne.false in
    ap (λ fs. file_at fs c.args.name.now) (sym c.self.view_is)
    ∙ next_found c.self.inside.files.now _ _ c.args.name.now (all_first (IsFound c.self.inside.files.now) _ _ _ c.in_ok-next.ensures.steps c.self.invariant) same
