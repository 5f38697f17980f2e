use Rattle.std.proofs.Common.{sym, ap, ◌∙◌, nat_lt}
use Rattle.std.specs.List.{filter}
use Rattle.change_index.specs.Keeping.{kept_of}
use Rattle.change_index.specs.declared.placed.Placed.{Placed}
use Rattle.change_index.proofs.Cutting.{end_of, suffix_of}
use Rattle.change_index.proofs.kept.ChangeIndex.after.Goals as goal

pub returns-clause-above : goal.returns-clause-above
returns-clause-above c =
    end_of c.as_slice-kept.result.now c.first_above.result ∙ sym c.first_above.ensures.above
    ∙ ap (filter (λ (p : Placed). nat_lt c.args.n p.change)) (c.as_slice-kept.ensures.value ∙ c.self.invariant ∙ ap kept_of c.self.view_is)

pub returns-clause-suffix : goal.returns-clause-suffix
returns-clause-suffix c =
    suffix_of _ c.as_slice-kept.result.now (kept_of c.args.self.now) c.first_above.result (end_of c.as_slice-kept.result.now c.first_above.result)
    (c.as_slice-kept.ensures.value ∙ c.self.invariant ∙ ap kept_of c.self.view_is) c.first_above.ensures.within
