use Rattle.std.proofs.Common.{◌+◌, subst, sym}
use Rattle.http_request.specs.Scans.{IsScanned}
use Rattle.http_request.proofs.ScanLemmas.{scan_to_feed}
use Rattle.http_request.proofs.scan.to_line_feed.Goals as goal

pub returns-clause-scanned : goal.returns-clause-scanned
returns-clause-scanned c =
    subst (λ n. IsScanned c.args.bytes.now (record c.args.from { seen = c.args.from.seen + n })) (sym c.unwrap_or-skipped.ensures)
    (scan_to_feed c.args.bytes.now c.args.from c.memchr.result c.requires.scanned c.requires.other c.memchr.ensures)
