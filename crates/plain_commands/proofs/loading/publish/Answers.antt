use Rattle.plain_commands.proofs.LoadLemmas.{joins_longer, joins_made, learnt_all}
use Rattle.plain_commands.proofs.loading.publish.Goals as goal

pub returns-in-Ok-clause-joins : goal.returns-in-Ok-clause-joins
returns-in-Ok-clause-joins g c =
    joins_made _ c.args.installer.now.list c.in-Ok.receipt.list c.install_manifest.new.self.list c.in_ok-manifest.store c.in_ok-manifest.manifest c.args.made
    c.in-Ok.ensures.receipt.1 c.requires.next c.in_ok-manifest.ensures.manifest c.in_ok-manifest.ensures.files c.in-Ok.ensures.found.told

pub returns-in-Ok-clause-longer : goal.returns-in-Ok-clause-longer
returns-in-Ok-clause-longer g c =
    joins_longer c.args.installer.now.list c.install_manifest.new.self.list
    (joins_made _ c.args.installer.now.list c.in-Ok.receipt.list c.install_manifest.new.self.list c.in_ok-manifest.store c.in_ok-manifest.manifest c.args.made
    c.in-Ok.ensures.receipt.1 c.requires.next c.in_ok-manifest.ensures.manifest c.in_ok-manifest.ensures.files c.in-Ok.ensures.found.told)

pub returns-in-Ok-clause-seen : goal.returns-in-Ok-clause-seen
returns-in-Ok-clause-seen g c =
    learnt_all c.args.desk.now.seen c.learn.new.self.seen c.args.installer.now.list c.in-Ok.receipt.list c.install_manifest.new.self.list
    c.learn.ensures.told c.learn.ensures.larger c.requires.seen c.in-Ok.ensures.longer c.in-Ok.ensures.receipt.1
