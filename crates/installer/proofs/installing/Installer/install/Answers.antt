use Rattle.std.proofs.Common.{[], ◌∷◌, sym, ap, ◌∙◌}
use Rattle.catalogue.specs.Holdings.{history_of}
use Rattle.release_check.specs.Folder.{FolderGives}
use Rattle.installer.proofs.Hearers.{made_out_seen}
use Rattle.installer.proofs.InstallLemmas.{grows, history_more, seen_as}
use Rattle.installer.proofs.installing.Installer.install.Goals as goal

pub publish-requires-clause-stands : goal.publish-requires-clause-stands
publish-requires-clause-stands g c =
    rw (← c.self.view_is) (c.in_ok-admitted.ensures.stands (history_of c.self.inside.publisher.list) c.last-last.ensures.stands)

pub publish-requires-clause-made_out : goal.publish-requires-clause-made_out
publish-requires-clause-made_out g c =
    rw (← c.self.view_is)
    (made_out_seen (λ p. p.subscriber) c.self.inside.subscribers c.in_ok-admitted.admitted.delta (history_of c.self.inside.publisher.list) _
    (c.in_ok-admitted.ensures.made_out (history_of c.self.inside.publisher.list) c.last-last.ensures.stands))

pub returns-clause-found : goal.returns-clause-found
returns-clause-found g c =
    let listed = rw (← c.self.view_is) at c.in_ok-receipt.ensures.ok.0 in
    rw (← c.self.view_is)
    (seen_as (λ files. FolderGives files c.args.dir.now) c.args.asked.now.rules.chosen _ _ (history_of c.self.inside.publisher.list) _ _ c.in_ok-admitted.admitted _
    (c.in_ok-admitted.ensures.found (history_of c.self.inside.publisher.list) c.last-last.ensures.stands)
    (ap history_of listed ∙ history_more c.self.inside.publisher.list c.in_ok-admitted.admitted.catalogue))

pub returns-clause-grown : goal.returns-clause-grown
returns-clause-grown g c =
    let listed = rw (← c.self.view_is) at c.in_ok-receipt.ensures.ok.0 in
    rw (← c.self.view_is)
    (grows c.args.asked.now.rules.chosen c.in_ok-admitted.admitted.catalogue (history_of c.self.inside.publisher.list) _
    (c.in_ok-admitted.ensures.stands (history_of c.self.inside.publisher.list) c.last-last.ensures.stands)
    (c.in_ok-admitted.ensures.allowed (history_of c.self.inside.publisher.list) c.last-last.ensures.stands)
    (ap history_of listed ∙ history_more c.self.inside.publisher.list c.in_ok-admitted.admitted.catalogue))

pub returns-clause-longer : goal.returns-clause-longer
returns-clause-longer g c =
    (c.in_ok-admitted.admitted.catalogue ∷ [], sym c.in_ok-receipt.ensures.ok.0)
