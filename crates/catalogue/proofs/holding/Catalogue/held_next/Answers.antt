use Rattle.std.proofs.Common.{◌≡◌, ap, ◌∙◌, get_or, true, []}
use Rattle.catalogue.specs.Releases.{content_as_is, same_content}
use Rattle.catalogue.specs.HeldZones.{entry_data, held_content}
use Rattle.catalogue.specs.Holdings.{release_of}
use Rattle.catalogue.proofs.lemmas.SameZones.{kept_entry, kept_digest}
use Rattle.catalogue.proofs.holding.Catalogue.held_next.Goals as goal

pub returns-in_ok-held-in-Some-clause-entry : goal.returns-in_ok-held-in-Some-clause-entry
returns-in_ok-held-in-Some-clause-entry g c = λ H s.
    let bytes = g.Z.ZoneData.bytes in
    let h = c.index-as_slice-at.result in
    let is = c.index-as_slice-at.is ∙ ap (λ hs. get_or hs c.in-Some.at h) c.as_slice.ensures in
    let same : same_content (content_as_is bytes c.args.content) (held_content bytes h) ≡ true =
    ap (λ z. same_content (content_as_is bytes c.args.content) (held_content bytes z)) is ∙ c.in-Some.ensures.same h in
    ap (λ v. entry_data bytes v.entry) c.in_ok-held-in-Some.ensures
    ∙ kept_entry bytes g.Z.ZoneData.sound c.args.self.now H s (content_as_is bytes c.args.content) (release_of c.args.head.now []) c.args.place c.in-Some.at h
    c.in-Some.ensures.within is same

pub returns-in_ok-held-in-Some-clause-digest : goal.returns-in_ok-held-in-Some-clause-digest
returns-in_ok-held-in-Some-clause-digest g c = λ H s.
    let bytes = g.Z.ZoneData.bytes in
    let h = c.index-as_slice-at.result in
    let is = c.index-as_slice-at.is ∙ ap (λ hs. get_or hs c.in-Some.at h) c.as_slice.ensures in
    let same : same_content (content_as_is bytes c.args.content) (held_content bytes h) ≡ true =
    ap (λ z. same_content (content_as_is bytes c.args.content) (held_content bytes z)) is ∙ c.in-Some.ensures.same h in
    ap (λ v. v.digest) c.in_ok-held-in-Some.ensures
    ∙ kept_digest bytes g.Z.ZoneData.sound c.args.self.now H s (content_as_is bytes c.args.content) c.in-Some.at h c.in-Some.ensures.within is same
