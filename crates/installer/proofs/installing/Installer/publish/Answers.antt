use Rattle.std.proofs.Common.{[], ◌∷◌, ◌++◌, ap, ◌∙◌}
use Rattle.catalogue.specs.Holdings.{history_of, release_held}
use Rattle.subscribers.proofs.lemmas.Preparing.{idle_committed, idle_given_up}
use Rattle.zone_meaning.specs.ZoneHistories.{zone_bytes}
use Rattle.installer.proofs.Hearers.{all_heard, made_out_of_seen, none_heard}
use Rattle.installer.proofs.InstallLemmas.{history_more, published_stands}
use Rattle.installer.proofs.installing.Installer.publish.Goals as goal

pub publish-requires : goal.publish-requires
publish-requires g c = published_stands c.self.inside.publisher.list c.args.next.catalogue (rw (← c.self.view_is) at c.requires.stands)

pub invariant_of-self-in-Ok : goal.invariant_of-self-in-Ok
invariant_of-self-in-Ok g c = rw c.commit.ensures (idle_committed _)

pub invariant_of-self-in-Err : goal.invariant_of-self-in-Err
invariant_of-self-in-Err g c = rw c.give_up.ensures (idle_given_up _)

pub returns-in-Ok-clause-heard : goal.returns-in-Ok-clause-heard
returns-in-Ok-clause-heard g c =
    let H = history_of c.self.inside.publisher.list in
    let r = release_held zone_bytes c.args.next.catalogue in
    let made = made_out_of_seen (λ p. p.subscriber) c.self.inside.subscribers c.args.next.delta H r (rw (← c.self.view_is) at c.requires.made_out) in
    rw (← c.self.view_is)
    (all_heard H (history_of c.publish.new.self.list) r c.count-place.result c.self.inside.subscribers c.prepare.new.subscribers c.commit.new.self
    (c.in_ok-prepare.ensures.ok H r made) c.commit.ensures (c.count-place.ensures.count (H ++ r ∷ []) (rw (← c.self.view_is) at c.requires.stands))
    (ap history_of (c.in-Ok.ensures.ok.3 ∙ c.in-Ok.ensures.ok.1) ∙ history_more c.self.inside.publisher.list c.args.next.catalogue))

pub returns-clause-unheard : goal.returns-clause-unheard
returns-clause-unheard g c =
    let H = history_of c.self.inside.publisher.list in
    let r = release_held zone_bytes c.args.next.catalogue in
    let made = made_out_of_seen (λ p. p.subscriber) c.self.inside.subscribers c.args.next.delta H r (rw (← c.self.view_is) at c.requires.made_out) in
    rw (← c.self.view_is)
    (none_heard H r c.count-place.result c.self.inside.subscribers c.prepare.new.subscribers c.give_up.new.self (c.in_ok-prepare.ensures.ok H r made)
    c.give_up.ensures)
