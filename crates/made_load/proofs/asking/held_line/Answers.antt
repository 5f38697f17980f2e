use Rattle.std.proofs.Common.{◌∙◌, ap, sym}
use Rattle.made_load.specs.Requests.{held_line}
use Rattle.made_load.proofs.AskLemmas.{tag_absent, tag_found}
use Rattle.made_load.proofs.asking.held_line.Goals as goal

pub returns-in-Some : goal.returns-in-Some
returns-in-Some c = λ H stands.
    let at = rw c.as_slice.ensures at c.in-Some.ensures.place H stands in
    rw (tag_found H c.args.tzid.now c.in-Some.place _ at (c.entry.ensures.entry H stands)) c.tag_line.ensures

pub returns-in-None : goal.returns-in-None
returns-in-None c = λ H stands.
    let at = rw c.as_slice.ensures at c.in-None.ensures.place H stands in
    c.new.ensures ∙ sym (ap held_line (tag_absent H c.args.tzid.now at))
