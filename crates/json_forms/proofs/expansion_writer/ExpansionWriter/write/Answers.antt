use Rattle.std.proofs.Common.{subst, sym}
use Rattle.json_forms.specs.Begun.{IsExpansionBegun}
use Rattle.json_forms.proofs.ExpansionSteps.{expansion_more}
use Rattle.json_forms.proofs.expansion_writer.ExpansionWriter.write.Goals as goal

pub returns : goal.returns
returns c =
    λ before until observances h.
    expansion_more before until observances c.args.observance.now _ _ (subst (IsExpansionBegun before until observances) (sym c.self.view_is) h)
    c.in_ok-put.ensures
