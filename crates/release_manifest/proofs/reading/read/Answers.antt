use Rattle.std.proofs.Common.{rules}
use Rattle.release_manifest.proofs.ReadingLemmas.{too_long, handed_on, syntax_fault, member_fault, manifest_found, found_unless, refused_unless}
use Rattle.release_manifest.proofs.reading.read.Goals as goal

pub returns-then-bytes-gt-MOST_BYTES-clause-fault : goal.returns-then-bytes-gt-MOST_BYTES-clause-fault
returns-then-bytes-gt-MOST_BYTES-clause-fault c = λ n. too_long c.args.bytes.now c.if-bytes-gt-MOST_BYTES.true

pub returns-then-bytes-gt-MOST_BYTES-clause-refused : goal.returns-then-bytes-gt-MOST_BYTES-clause-refused
returns-then-bytes-gt-MOST_BYTES-clause-refused c =
    refused_unless _ _ tt (λ n. too_long c.args.bytes.now c.if-bytes-gt-MOST_BYTES.true)

pub returns-in_err-value-clause-fault : goal.returns-in_err-value-clause-fault
returns-in_err-value-clause-fault c =
    handed_on _ _ _ c.from_residual.ensures.1 (syntax_fault _ _ c.if-bytes-gt-MOST_BYTES.false c.in_err-value.ensures)

pub returns-in_err-value-clause-refused : goal.returns-in_err-value-clause-refused
returns-in_err-value-clause-refused c =
    refused_unless _ _ (search rules)
    (handed_on _ _ _ c.from_residual.ensures.1 (syntax_fault _ _ c.if-bytes-gt-MOST_BYTES.false c.in_err-value.ensures))

pub returns-clause-fault : goal.returns-clause-fault
returns-clause-fault c = member_fault _ _ _ c.if-bytes-gt-MOST_BYTES.false c.in_ok-value.ensures c.read_manifest.ensures.judged

pub returns-clause-only : goal.returns-clause-only
returns-clause-only c =
    found_unless _ _ (manifest_found _ _ _ c.if-bytes-gt-MOST_BYTES.false c.in_ok-value.ensures c.read_manifest.ensures.found)
    (member_fault _ _ _ c.if-bytes-gt-MOST_BYTES.false c.in_ok-value.ensures c.read_manifest.ensures.judged)

pub returns-clause-refused : goal.returns-clause-refused
returns-clause-refused c =
    refused_unless _ _ (manifest_found _ _ _ c.if-bytes-gt-MOST_BYTES.false c.in_ok-value.ensures c.read_manifest.ensures.found)
    (member_fault _ _ _ c.if-bytes-gt-MOST_BYTES.false c.in_ok-value.ensures c.read_manifest.ensures.judged)
