use Rattle.std.proofs.Common.{ap, sym, ◌∙◌, length}
use Rattle.std.proofs.lemmas.List.{length-map}
use Rattle.sha2.specs.Sha256.{sha256}
use Rattle.catalogue.specs.Digests.{content_digest, linked, link_bytes}
use Rattle.catalogue.specs.HeldZones.{held_digest}
use Rattle.catalogue.proofs.chain.link.Goals as goal

pub returns : goal.returns
unfolding linked link_bytes
returns g c = λ contents same.
    let count = sym (length-map c.args.held.now held_digest) ∙ ap length same ∙ length-map contents content_digest in
    c.finalize.ensures _ (c.hash_digests.ensures _ (c.hash_leaps.ensures _ (c.hash_labels.ensures _ (c.update.ensures _ c.new-hasher.ensures))))
    ∙ ap sha256 (rw (c.as_slice.ensures, count, same))
