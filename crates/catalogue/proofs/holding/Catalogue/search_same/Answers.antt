use Rattle.std.proofs.Common.{◌≡◌, ap, sym, ◌∙◌, get_or, false}
use Rattle.catalogue.specs.Releases.{content_as_is, same_content}
use Rattle.catalogue.specs.HeldZones.{held_content}
use Rattle.catalogue.specs.Lookups.{place_named}
use Rattle.catalogue.proofs.lemmas.SameZones.{none_held, other_held}
use Rattle.catalogue.proofs.holding.Catalogue.search_same.Goals as goal

pub returns-in_err-at-clause-none : goal.returns-in_err-at-clause-none
returns-in_err-at-clause-none g c = λ _ H s.
    none_held g.Z.ZoneData.bytes g.Z.ZoneData.sound c.args.self.now H s (content_as_is g.Z.ZoneData.bytes c.args.content.now)
    (c.in_err-at.ensures.place H s ∙ ap (place_named H) c.as_slice.ensures)

pub returns-else-is_same-clause-none : goal.returns-else-is_same-clause-none
returns-else-is_same-clause-none g c = λ _ H s.
    let bytes = g.Z.ZoneData.bytes in
    let h = c.index-as_slice-at.result in
    let other : same_content (content_as_is bytes c.args.content.now) (held_content bytes h) ≡ false =
    ap (λ v. same_content (content_as_is bytes c.args.content.now) (content_as_is bytes v.entry.content)) (sym c.deref.ensures) ∙ sym c.is_same.ensures
    ∙ c.if-is_same.false in
    other_held bytes g.Z.ZoneData.sound c.args.self.now H s (content_as_is bytes c.args.content.now) c.in_ok-at.at h
    (c.in_ok-at.ensures.place H s ∙ ap (place_named H) c.as_slice.ensures)
    c.in_ok-at.ensures.within
    (c.index-as_slice-at.is ∙ ap (λ hs. get_or hs c.in_ok-at.at h) c.as_slice-2.ensures)
    other
