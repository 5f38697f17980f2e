use Rattle.std.proofs.Common.{ap, ◌∙◌}
use Rattle.sha2.specs.Sha256.{sha256}
use Rattle.catalogue.specs.Digests.{content_digest, content_bytes}
use Rattle.catalogue.proofs.digest.content_digest.Goals as goal

pub returns : goal.returns
unfolding content_digest content_bytes
returns g c =
    c.finalize.ensures _ (c.hash_sized-2.ensures _ (c.hash_texts.ensures _ (c.hash_sized.ensures _ c.new-hasher.ensures)))
    ∙ ap sha256 (rw (c.as_slice.ensures, c.file_bytes.ensures))
