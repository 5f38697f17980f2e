use Rattle.std.proofs.Common.{[], arith, length, take, false}
use Rattle.http_request.proofs.EndLemmas.{ended, feeds-take}
use Rattle.http_request.proofs.HeldLemmas.{scanned_feed}
use Rattle.http_request.proofs.LookLemmas.{full_is, full_some, past_is_full}
use Rattle.http_request.proofs.ScanLemmas.{scan_open}
use Rattle.http_request.specs.Ends.{feeds}
use Rattle.http_request.proofs.lemmas.StepLemmas.{end_within_list, no_end, window_of}
use Rattle.http_request.proofs.laws.searches.Goals as goal

pub returns-clause-stays : goal.returns-clause-stays
returns-clause-stays c = scanned_feed

pub returns-clause-end : goal.returns-clause-end
returns-clause-end c = λ bytes n e.
    let x = ended false [] 0 bytes n e in (omega (arith, x.place), end_within_list bytes n e, window_of bytes n e)

pub returns-clause-full : goal.returns-clause-full
returns-clause-full c = λ bytes n h f. past_is_full n (length bytes) (feeds (take n bytes)) (feeds bytes) h (feeds-take n bytes) f

pub returns-clause-some : goal.returns-clause-some
returns-clause-some c = full_some

pub returns-clause-open : goal.returns-clause-open
returns-clause-open c = λ bytes scan s e. (no_end bytes (scan_open bytes scan s e), full_is bytes scan s e)
