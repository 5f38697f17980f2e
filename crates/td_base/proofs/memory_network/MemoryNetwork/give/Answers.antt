use Rattle.std.proofs.Common.{◌≡◌, [], ◌∷◌, ◌++◌, take, drop, map, refl, rules}
use Rattle.std.proofs.lemmas.List.{drop-map, map-append}
use Rattle.td_base.proofs.NetworkLemmas.{first_tell}
use Rattle.td_base.specs.DoorViews.{Opening}
use Rattle.td_base.specs.MemoryNetworks.{opening_of}
use Rattle.td_base.proofs.memory_network.MemoryNetwork.give.Goals as goal

pub returns-clause-tells : goal.returns-clause-tells
returns-clause-tells g c =
    let rest : c.replace-given.new.dest.items ≡ drop c.args.number c.self.inside.doors.items = search rules in
    let given : c.replace-given.result.items ≡ take c.args.number c.self.inside.doors.items = search rules in
    let opened : map opening_of c.push_reserved.new.self.items
    ≡ map opening_of c.self.inside.opened.items ++ record { address = c.args.address.now; doors = c.args.number } ∷ [] =
    search (rules, map-append) in
    rw (← c.self.view_is, rest, given) (
      rw (drop-map, opened) refl,
      first_tell g.D.Door.seen c.args.number c.self.inside.doors.items c.self.invariant.0,
    )
