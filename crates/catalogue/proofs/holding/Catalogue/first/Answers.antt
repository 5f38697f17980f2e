use Rattle.std.proofs.Common.{◌≡◌, [], ◌∷◌, ◌++◌, ap, sym, ◌∙◌, map, length, arith}
use Rattle.std.proofs.lemmas.List.{length-map}
use Rattle.std.specs.Prelude.{replicate}
use Rattle.std.specs.List.{AllByRecursion}
use Rattle.catalogue.specs.Releases.{ContentData, IsShort, content_as_is, content_data, release_data}
use Rattle.catalogue.specs.Digests.{content_digest, linked, token_text}
use Rattle.catalogue.specs.Histories.{entry_from}
use Rattle.catalogue.specs.HeldZones.{held_digest, held_entry}
use Rattle.catalogue.specs.Holdings.{release_of}
use Rattle.catalogue.specs.Order.{rising_by}
use Rattle.catalogue.proofs.Lengths.{short_contents, each_mapped}
use Rattle.catalogue.proofs.lemmas.Rising.{in_order}
use Rattle.catalogue.proofs.Standing.{stands_first}
use Rattle.catalogue.proofs.holding.Catalogue.first.Goals as goal

pub all_changed-requires : goal.all_changed-requires
all_changed-requires g c =
    let bytes = g.Z.ZoneData.bytes in
    let r = release_data bytes c.args.release in
    let lengths = g.met.Z.ZoneData.lengths r c.requires.sound in
    let short : AllByRecursion IsShort r.contents =
    short_contents r.contents c.requires.fits.identifiers c.requires.fits.names lengths.files in
    let sorted : map (content_as_is bytes) c.in_ok-contents.contents ≡ r.contents =
    c.in_ok-contents.ensures ∙ ap (λ zs. rising_by (λ (d : ContentData). d.tzid) (map (content_data bytes) zs)) c.parted-head.ensures.zones in
    each_mapped (content_as_is bytes) IsShort c.in_ok-contents.contents (rw sorted short)

pub closed-requires-clause-lengths : goal.closed-requires-clause-lengths
closed-requires-clause-lengths g c =
    let lengths = g.met.Z.ZoneData.lengths (release_data g.Z.ZoneData.bytes c.args.release) c.requires.sound in
    rw c.parted-head.ensures.head (record {
      stamp = lengths.stamp;
      publisher = lengths.publisher;
      version = lengths.version;
      files = tt;
      leap_file = lengths.leap_file;
      leap_expiry = lengths.leap_expiry;
    })

pub closed-requires-clause-zones : goal.closed-requires-clause-zones
closed-requires-clause-zones g c =
    let bytes = g.Z.ZoneData.bytes in
    let r = release_data bytes c.args.release in
    let sorted : map (content_as_is bytes) c.in_ok-contents.contents ≡ r.contents =
    c.in_ok-contents.ensures ∙ ap (λ zs. rising_by (λ (d : ContentData). d.tzid) (map (content_data bytes) zs)) c.parted-head.ensures.zones in
    let digests : map held_digest c.in_ok-held.held ≡ map content_digest r.contents =
    c.in_ok-held.ensures.digests ∙ ap (map content_digest) sorted in
    let count : length c.in_ok-held.held ≡ length r.contents =
    sym (length-map c.in_ok-held.held held_digest) ∙ ap length digests ∙ length-map r.contents content_digest in
    rw count (omega (arith, c.requires.fits.zones))

pub returns : goal.returns
returns g c =
    let bytes = g.Z.ZoneData.bytes in
    let r = release_data bytes c.args.release in
    let made = c.in_ok-catalogue.ensures in
    let head = c.parted-head.ensures.head in
    let sorted : map (content_as_is bytes) c.in_ok-contents.contents ≡ r.contents =
    c.in_ok-contents.ensures ∙ ap (λ zs. rising_by (λ (d : ContentData). d.tzid) (map (content_data bytes) zs)) c.parted-head.ensures.zones in
    let entries : map (held_entry bytes) c.in_ok-held.held ≡ map (entry_from r 1) r.contents =
    c.in_ok-held.ensures.entries
    ∙ ap (λ h. map (entry_from (release_of h []) 1) (map (content_as_is bytes) c.in_ok-contents.contents)) head
    ∙ ap (map (entry_from r 1)) sorted in
    let digests : map held_digest c.in_ok-held.held ≡ map content_digest r.contents =
    c.in_ok-held.ensures.digests ∙ ap (map content_digest) sorted in
    stands_first bytes g.Z.ZoneData.sound c.in_ok-catalogue.catalogue r
    (record { in_order = in_order bytes c.args.release c.requires.fits.distinct; is_sound = c.requires.sound; fits = c.requires.fits })
    (ap (λ h. release_of h r.contents) (made.held.0 ∙ head))
    (ap (map (held_entry bytes)) made.held.1 ∙ entries)
    (ap (map held_digest) made.held.1 ∙ digests)
    made.count
    (made.chain r.contents digests ∙ ap (λ h. linked (replicate 32 0) (release_of h r.contents)) head)
    (made.tokens ∙ ap (λ ts. ts ++ token_text 1 c.in_ok-catalogue.catalogue.chain ∷ []) c.new.ensures)
