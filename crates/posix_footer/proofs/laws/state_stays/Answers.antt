use Rattle.posix_footer.proofs.lemmas.ChangeLemmas.{footer_stays}
use Rattle.posix_footer.proofs.lemmas.NextLemmas.{quiet_until}
use Rattle.posix_footer.proofs.laws.state_stays.Goals as goal

pub returns-clause-quiet : goal.returns-clause-quiet
returns-clause-quiet c = footer_stays

pub returns-clause-until_next : goal.returns-clause-until_next
returns-clause-until_next c footer t u next le is after =
    footer_stays footer t u le (quiet_until footer.dst footer.std.offset t u next is after)
