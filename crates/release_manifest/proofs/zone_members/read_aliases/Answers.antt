use Rattle.release_manifest.proofs.CheckLemmas.{judges_aliases}
use Rattle.release_manifest.proofs.zone_members.read_aliases.Goals as goal

pub returns-in-Some-items-clause-judged : goal.returns-in-Some-items-clause-judged
returns-in-Some-items-clause-judged c =
    judges_aliases _ _ _ _ _ c.in-Some.ensures c.in-Some-items.ensures c.read_each_alias.ensures.judged
