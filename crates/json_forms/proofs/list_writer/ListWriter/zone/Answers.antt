use Rattle.std.proofs.Common.{subst, sym}
use Rattle.json_forms.specs.Begun.{IsListBegun, list_opening}
use Rattle.json_forms.specs.ListDocument.{zone_data}
use Rattle.json_forms.specs.ToldZone.{told_zone}
use Rattle.json_forms.proofs.Begun.{begun_more}
use Rattle.json_forms.proofs.list_writer.ListWriter.zone.Goals as goal

pub returns : goal.returns
returns c =
    λ before token zones h.
    begun_more zone_data before (list_opening token) zones (told_zone c.args.zone.now) _ _
    (subst (IsListBegun before token zones) (sym c.self.view_is) h)
    c.in_ok-put_zone.ensures.tokens c.in_ok-put_zone.ensures.before
