use Rattle.std.proofs.Common.{rules, ap, sym, subst, ◌≡◌, ◌∙◌, [], Some}
use Rattle.td_top.specs.ServerSteps.{Concludes}
use Rattle.td_top.specs.Works.{HasWorks}
use Rattle.td_top.specs.ConsoleBeside.{beside_of}
use Rattle.td_top.proofs.BesideLemmas.{beside_done, beside_left, beside_starved, beside_unstarted, pairs_now}
use Rattle.td_top.proofs.ServerLemmas.{came, same_rules}
use Rattle.td_top.proofs.server.serve_beside.Goals as goal

pub run_beside-pool-requires-clause-flag : goal.run_beside-pool-requires-clause-flag
run_beside-pool-requires-clause-flag g c = λ κs alive k w less.
    ap (λ s. s.flag) (c.requires.signs k w less) ∙ ap (λ o. o.flag.flag) (sym c.new-console.ensures.over_now)

pub conclude-requires : goal.conclude-requires
conclude-requires g c =
    let told = c.in-All.ensures.beside in
    let names = (came _ _ _ told.1 told.2).1 in
    let pairs = pairs_now g.D.Door.seen _ _ _ c.args.staff.works.items c.in-All.dones.items told.1 told.2
    (subst (λ s. HasWorks s.installer.pair c.args.staff.works.items) (sym c.new-console.ensures.session_now) c.requires.works)
    c.in-All.ensures.results in
    λ k d less. search (pairs k d less, ap (λ l. l.0) names, rules)

pub returns-in-Some : goal.returns-in-Some
returns-in-Some g c =
    let told = c.in-All.ensures.beside in
    let names = (came _ _ _ told.1 told.2).1 in
    let ended : c.run_beside-pool.new.beside.over.now.end ≡ Some c.in-Some.end = search (c.in-Some.is, ap (λ l. l.4) names, rules) in
    let concluded : Concludes c.run_beside-pool.new.beside.session.now c.in-All.dones.items c.in-Some.end c.conclude.result.doors.items
    c.conclude.result.status =
    search (c.conclude.ensures, ap (λ l. l.0) names, rules) in
    let nobody = subst (λ s. s.installer.subscribers ≡ []) (sym c.new-console.ensures.session_now) c.requires.nobody in
    let done = beside_done g.D.Door.seen _ _ _ c.in-Some.end c.args.staff.works.items c.in-All.dones.items _ _ _ _ told.1 told.2 ended
    c.run_beside-pool.ensures.later c.in-All.ensures.counts c.in-All.ensures.results concluded nobody in
    search (done, same_rules _ _ _ told.1 told.2, ap (λ l. l.1) names, ap (λ l. l.2) names, ap (λ l. l.3) names, ap (λ l. l.0) names, rules)

pub returns-in-All : goal.returns-in-All
returns-in-All g c =
    let told = c.in-All.ensures.beside in
    let names = (came _ _ _ told.1 told.2).1 in
    let starved = beside_starved g.D.Door.seen _ _ _ c.args.staff.works.items _ _ _ _ told.1 told.2 c.run_beside-pool.ensures.later c.give_up.ensures.status
    c.give_up.ensures.doors in
    search (starved, same_rules _ _ _ told.1 told.2, ap (λ l. l.1) names, ap (λ l. l.2) names, ap (λ l. l.3) names, ap (λ l. l.0) names, rules)

pub returns-in-NotStarted : goal.returns-in-NotStarted
returns-in-NotStarted g c =
    let halted = c.in-NotStarted.ensures.beside in
    let unstarted = beside_unstarted g.D.Door.seen _ _ c.args.staff.works.items _ _ _ _ halted c.in-NotStarted.ensures.refusal c.run_beside-pool.ensures.later
    c.give_up-in-NotStarted.ensures.status c.give_up-in-NotStarted.ensures.doors in
    search (
      unstarted,
      ap (λ v. v.rules) halted,
      ap (λ v. v.lent.1) halted,
      ap (λ v. v.lent.2) halted,
      ap (λ v. v.lent.3) halted,
      ap (λ v. v.lent.0)
          halted,
      rules,
    )

pub returns : goal.returns
returns g c =
    let same = ap (beside_of (λ a. a.rules.chosen) g.G.ReleaseFeed.seen g.C.Source.seen g.K.Sink.seen) c.in-NoMemory.ensures.beside in
    let left = beside_left g.D.Door.seen _ _ c.args.staff.works.items _ _ _ _ same c.run_beside-pool.ensures.later c.give_up-in-NoMemory.ensures.status
    c.give_up-in-NoMemory.ensures.doors in
    search (left, ap (λ v. v.rules) same, ap (λ v. v.lent.1) same, ap (λ v. v.lent.2) same, ap (λ v. v.lent.3) same, ap (λ v. v.lent.0) same, rules)
