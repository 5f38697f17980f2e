use Rattle.std.proofs.Common.{◌∷◌, [], ◌++◌, ◌∙◌, ap, map, refl, subst, sym, append_assoc}
use Rattle.json.specs.Token.{end_array, end_object}
use Rattle.json_forms.specs.Begun.{IsListBegun, list_opening}
use Rattle.json_forms.specs.ListDocument.{zone_data, list_data, list_document}
use Rattle.json_forms.proofs.Begun.{begun_ended}
use Rattle.json_forms.proofs.list_writer.ListWriter.end.Goals as goal

pub returns : goal.returns
unfolding list_data list_document
returns c =
    λ before token zones h.
    let written =
    c.in_ok-end_object.ensures.ok ∙ ap (λ ts. ts ++ end_object ∷ []) c.in_ok-end_array.ensures.ok
    ∙ append_assoc _ (end_array ∷ []) (end_object ∷ []) in
    begun_ended (list_data token zones) before (list_opening token) (end_object ∷ []) (map zone_data zones) _ _ _ _ _ refl
    (subst (IsListBegun before token zones) (sym c.self.view_is) h) written
    (c.in_ok-end_object.ensures.room.0 ∙ c.in_ok-end_array.ensures.room.0) c.into_inner.ensures.items c.from.ensures
