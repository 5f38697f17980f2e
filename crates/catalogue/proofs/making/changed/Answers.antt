use Rattle.catalogue.specs.Digests.{tag_of}
use Rattle.catalogue.proofs.making.changed.Goals as goal

pub returns-clause-entry : goal.returns-clause-entry
unfolding tag_of
returns-clause-entry g c = rw (
  c.in_ok-held.ensures.ok,
  c.tag.ensures,
  c.content_digest-digest.ensures,
  c.in_ok-from_slice.ensures,
  c.in_ok-from_slice-2.ensures,
  c.as_slice.ensures,
  c.as_slice-2.ensures,
)
