use Rattle.std.proofs.Common.{append_assoc}
use Rattle.catalogue.specs.Digests.{token_text}
use Rattle.catalogue.proofs.digest.token.Goals as goal

pub returns : goal.returns
unfolding token_text
returns c = rw (
  c.append-3.ensures,
  c.append-2.ensures,
  c.append.ensures,
  c.new-token.ensures,
  c.as_bytes.ensures.value,
  c.format.ensures.text,
  c.hex_digits-digits.ensures,
) (simp append_assoc)
