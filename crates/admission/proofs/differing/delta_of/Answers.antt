use Rattle.std.proofs.Common.{ap, ◌∙◌, ℕ, List}
use Rattle.catalogue.specs.Order.{rising_by}
use Rattle.catalogue.specs.declared.release.Content.{Content}
use Rattle.admission.proofs.Changes.{delta_is}
use Rattle.admission.proofs.differing.delta_of.Goals as goal

pub returns : goal.returns
returns c = λ H s.
    delta_is (λ z. z.now) H c.in_ok-zones.zones.items c.args.next.now c.in_ok-changed.changed
    (c.in_ok-zones.ensures ∙ ap (rising_by (λ (z : Content (List ℕ)). z.tzid)) c.as_slice.ensures)
    (rw c.as_slice-2.ensures.value at (c.in_ok-changed.ensures H s))
