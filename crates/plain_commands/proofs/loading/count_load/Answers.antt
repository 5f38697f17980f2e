use Rattle.std.proofs.Common.{[], refl}
use Rattle.plain_commands.proofs.LoadLemmas.{joins_made}
use Rattle.plain_commands.proofs.loading.count_load.Goals as goal

pub count_opened-requires-clause-first : goal.count_opened-requires-clause-first
count_opened-requires-clause-first g c =
    joins_made [] [] c.in-Ok.installer.list c.in-Ok.installer.list c.in_ok-manifest.store c.in_ok-manifest.manifest 1 refl refl
    c.in_ok-manifest.ensures.manifest c.in_ok-manifest.ensures.files c.in-Ok.ensures.found.told
