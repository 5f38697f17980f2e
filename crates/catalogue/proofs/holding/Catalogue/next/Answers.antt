use Rattle.std.proofs.Common.{◌≡◌, [], ◌∷◌, ◌+◌, ◌++◌, ap, sym, ◌∙◌, map, length, arith}
use Rattle.std.proofs.lemmas.List.{length-map}
use Rattle.std.specs.List.{AllByRecursion}
use Rattle.catalogue.specs.Releases.{ContentData, IsShort, content_as_is, content_data, release_data}
use Rattle.catalogue.specs.Digests.{content_digest, linked, token_text}
use Rattle.catalogue.specs.Growing.{entry_next}
use Rattle.catalogue.specs.HeldZones.{held_digest, held_entry}
use Rattle.catalogue.specs.Holdings.{place_count, release_held, release_of}
use Rattle.catalogue.specs.Order.{rising_by}
use Rattle.catalogue.proofs.lemmas.Growing.{stands_next}
use Rattle.catalogue.proofs.Lengths.{short_contents, each_mapped}
use Rattle.catalogue.proofs.lemmas.Rising.{in_order}
use Rattle.catalogue.proofs.holding.Catalogue.next.Goals as goal

pub all_next-requires : goal.all_next-requires
all_next-requires g c =
    let bytes = g.Z.ZoneData.bytes in
    let r = release_data bytes c.args.release in
    let lengths = g.met.Z.ZoneData.lengths r c.requires.sound in
    let short : AllByRecursion IsShort r.contents =
    short_contents r.contents c.requires.fits.identifiers c.requires.fits.names lengths.files in
    let sorted : map (content_as_is bytes) c.in_ok-contents.contents ≡ r.contents =
    c.in_ok-contents.ensures ∙ ap (λ zs. rising_by (λ (d : ContentData). d.tzid) (map (content_data bytes) zs)) c.parted-head.ensures.zones in
    each_mapped (content_as_is bytes) IsShort c.in_ok-contents.contents (rw sorted short)

pub closed-requires-clause-zones : goal.closed-requires-clause-zones
closed-requires-clause-zones g c =
    let bytes = g.Z.ZoneData.bytes in
    let r = release_data bytes c.args.release in
    let sorted : map (content_as_is bytes) c.in_ok-contents.contents ≡ r.contents =
    c.in_ok-contents.ensures ∙ ap (λ zs. rising_by (λ (d : ContentData). d.tzid) (map (content_data bytes) zs)) c.parted-head.ensures.zones in
    let count : length c.in_ok-held.held ≡ length r.contents =
    c.in_ok-held.ensures.count ∙ sym (length-map c.in_ok-contents.contents (content_as_is bytes)) ∙ ap length sorted in
    rw count (omega (arith, c.requires.fits.zones))

pub returns : goal.returns
returns g c = λ H s.
    let bytes = g.Z.ZoneData.bytes in
    let r = release_data bytes c.args.release in
    let old = c.args.self.now in
    let made = c.in_ok-catalogue.ensures in
    let head = c.parted-head.ensures.head in
    let sorted : map (content_as_is bytes) c.in_ok-contents.contents ≡ r.contents =
    c.in_ok-contents.ensures ∙ ap (λ zs. rising_by (λ (d : ContentData). d.tzid) (map (content_data bytes) zs)) c.parted-head.ensures.zones in
    let entries : map (held_entry bytes) c.in_ok-held.held ≡ map (entry_next H (release_held bytes old) r (place_count old + 1)) r.contents =
    c.in_ok-held.ensures.entries H s
    ∙ ap (λ h. map (entry_next H (release_held bytes old) (release_of h []) (place_count old + 1)) (map (content_as_is bytes) c.in_ok-contents.contents)) head
    ∙ ap (map (entry_next H (release_held bytes old) r (place_count old + 1))) sorted in
    let digests : map held_digest c.in_ok-held.held ≡ map content_digest r.contents =
    c.in_ok-held.ensures.digests H s ∙ ap (map content_digest) sorted in
    stands_next bytes g.Z.ZoneData.sound old c.in_ok-catalogue.catalogue H r s (in_order bytes c.args.release c.requires.fits.distinct)
    c.requires.sound c.requires.fits
    (ap (λ h. release_of h r.contents) (made.held.0 ∙ head))
    (ap (map (held_entry bytes)) made.held.1 ∙ entries)
    (ap (map held_digest) made.held.1 ∙ digests)
    (made.chain r.contents digests ∙ ap (λ h. linked old.chain (release_of h r.contents)) head)
    made.count
    (made.tokens ∙ ap (λ ts. ts ++ token_text (place_count old + 1) c.in_ok-catalogue.catalogue.chain ∷ []) c.in_ok-tokens.ensures)
