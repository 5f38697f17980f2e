use Rattle.std.proofs.Common.{◌≡◌, ◌∷◌, ap, sym, ◌∙◌}
use Rattle.std.proofs.lemmas.Slice.Eq.{bytes_eq-Decides, slice_eq-Decides}
use Rattle.catalogue.proofs.names.has_same_names.Goals as goal

pub returns-then-eq : goal.returns-then-eq
returns-then-eq g c = λ same.
    let zone = c.args.zone.now in
    let other = c.args.other.now in
    let tzids : zone.tzid ≡ other.tzid = (bytes_eq-Decides zone.tzid other.tzid).0 (sym (c.if-eq.ensures)) in
    let aliases : zone.aliases ≡ other.aliases =
    sym c.as_slice.ensures ∙ (slice_eq-Decides bytes_eq-Decides _ _ _ c.eq-then-eq.ensures).0 same ∙ c.as_slice-then-eq.ensures in
    ap (λ t. t ∷ zone.aliases) tzids ∙ ap (λ l. other.tzid ∷ l) aliases
