use Rattle.std.proofs.Common.{◌≡◌, ◌++◌, ap₂, refl, ◌∙◌, append_assoc}
use Rattle.json.specs.Print.{print}
use Rattle.json_forms.specs.Begun.{expansion_opening}
use Rattle.json_forms.proofs.expansion_writer.ExpansionWriter.begin.Goals as goal

pub returns : goal.returns
returns c =
    let kept : c.begin_array.new.self.before ≡ c.args.before =
    c.in_ok-begin_array.ensures.room.0 ∙ c.in_ok-key.ensures.room.0 ∙ c.in_ok-put_moment.ensures.before ∙ c.in_ok-begin_object.ensures.room.0
    ∙ c.new-out.ensures.before ∙ c.into_vec.ensures in
    let written : c.begin_array.new.self.tokens ≡ expansion_opening c.args.until.seconds =
    rw (c.in_ok-begin_array.ensures.ok, c.in_ok-key.ensures.ok, c.in_ok-put_moment.ensures.tokens, c.in_ok-begin_object.ensures.ok, c.new-out.ensures.tokens)
    (simp append_assoc) in
    record {
      so_far = c.from.ensures ∙ c.into_inner.ensures.items ∙ ap₂ (λ s ts. s ++ print ts) kept written;
      place = refl;
    }
