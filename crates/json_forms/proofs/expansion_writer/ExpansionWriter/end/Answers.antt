use Rattle.std.proofs.Common.{◌≡◌, ◌++◌, ◌∷◌, [], codes, refl, subst, sym, ap₂, ◌∙◌, List, append_assoc}
use Rattle.json.specs.Print.{print}
use Rattle.json.specs.Token as token
use Rattle.json.specs.Token.{Token}
use Rattle.td_civil.specs.Calendar.{text_of}
use Rattle.json_forms.specs.Begun.{IsExpansionBegun}
use Rattle.json_forms.specs.ExpansionDocument.{expansion_data, expansion_document}
use Rattle.json_forms.proofs.ExpansionSteps.{expansion_ended}
use Rattle.json_forms.proofs.expansion_writer.ExpansionWriter.end.Goals as goal

pub returns : goal.returns
unfolding expansion_data expansion_document
returns c =
    λ before until observances h.
    let closing : List Token =
    token.key (codes "start") ∷ token.string (text_of c.args.from.seconds) ∷ token.key (codes "tzid") ∷ token.string c.args.tzid.now ∷ token.end_object ∷ [] in
    let kept : c.end_object.new.self.before ≡ c.self.inside.out =
    c.in_ok-end_object.ensures.room.0 ∙ c.in_ok-put_member.ensures.before ∙ c.in_ok-put_moment.ensures.before ∙ c.in_ok-end_array.ensures.room.0
    ∙ c.new-out.ensures.before ∙ c.into_vec.ensures in
    let written : c.end_object.new.self.tokens ≡ token.end_array ∷ closing =
    rw (c.in_ok-end_object.ensures.ok, c.in_ok-put_member.ensures.tokens, c.in_ok-put_moment.ensures.tokens, c.in_ok-end_array.ensures.ok, c.new-out.ensures.tokens)
    (simp append_assoc) in
    expansion_ended (expansion_data c.args.tzid.now c.args.from.seconds until observances) before until observances _ closing _ refl
    (subst (IsExpansionBegun before until observances) (sym c.self.view_is) h)
    (c.from.ensures ∙ c.into_inner.ensures.items ∙ ap₂ (λ s ts. s ++ print ts) kept written)
