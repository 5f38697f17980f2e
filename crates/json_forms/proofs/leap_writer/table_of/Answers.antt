use Rattle.json_forms.specs.LeapDocument.{leap_data, leap_document}
use Rattle.json_forms.proofs.TreeTokens.{text_of_tree}
use Rattle.json_forms.proofs.leap_writer.table_of.Goals as goal

pub returns : goal.returns
unfolding leap_document
returns c =
    text_of_tree (leap_data c.args.leaps.now c.args.publisher.now c.args.version.now) _ _ _ _ _ _ _
    c.new.ensures.items c.new-out.ensures.before c.new-out.ensures.tokens c.in_ok-put_table.ensures.before c.in_ok-put_table.ensures.tokens
    c.into_inner.ensures.items c.from.ensures
