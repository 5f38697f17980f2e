use Rattle.std.proofs.Common.{◌<◌, ◌≤◌, sym, subst, arith, length, Option, None}
use Rattle.std.specs.Option.{option_map, IfSome}
use Rattle.std.proofs.lemmas.Option.{get_or_from_slice_get}
use Rattle.posix_footer.specs.declared.rule_types.Footer.{Footer}
use Rattle.zone_meaning.specs.Turns.{IsKnown, KnowsAhead}
use Rattle.zone_meaning.specs.Walks.{IsKnownAhead, IsNextTurn}
use Rattle.zone_meaning.specs.declared.walk.StateTurn.{StateTurn}
use Rattle.zone_meaning.proofs.Walking.{transition_turn, no_turn, onset_turn, onset_known}
use Rattle.zone_meaning.proofs.walk.next_turn.Goals as goal

pub returns-then-begun-len-clause-turn : goal.returns-then-begun-len-clause-turn
returns-then-begun-len-clause-turn c =
    let inside : c.args.begun < length c.args.lists.now.moments = omega (arith, c.len.ensures.moments) in
    transition_turn c.args.lists.now c.args.footer.now c.args.t.seconds c.args.begun c.moment.result c.requires.types
    c.requires.begun inside (λ d. get_or_from_slice_get c.args.lists.now.moments c.args.begun c.moment.result d c.moment.ensures)

pub returns-in-Some-clause-turn : goal.returns-in-Some-clause-turn
returns-in-Some-clause-turn c =
    let all : length c.args.lists.now.moments ≤ c.args.begun = omega (arith, c.len.ensures.moments) in
    let next = option_map (λ (x : StateTurn). x.at) c.next_turn_of.result in
    let P : Option Footer → Type 0 = λ footer. IsNextTurn c.args.lists.now footer c.args.t.seconds c.args.begun next in
    subst P (sym c.in-Some.is) (onset_turn c.args.lists.now c.in-Some.footer c.args.t.seconds c.args.begun next c.requires.types
    c.requires.begun all c.next_turn_of.ensures.next)

pub returns-in-Some-clause-state : goal.returns-in-Some-clause-state
returns-in-Some-clause-state c =
    let all : length c.args.lists.now.moments ≤ c.args.begun = omega (arith, c.len.ensures.moments) in
    let P : Option Footer → Type 0 = λ footer. IfSome c.next_turn_of.result (IsKnown c.args.lists.now footer) in
    subst P (sym c.in-Some.is) (onset_known c.args.lists.now c.in-Some.footer c.args.t.seconds c.args.begun c.next_turn_of.result c.requires.types
    c.requires.begun all c.next_turn_of.ensures.next c.next_turn_of.ensures.state)

pub returns-in-None-clause-turn : goal.returns-in-None-clause-turn
returns-in-None-clause-turn c =
    let all : length c.args.lists.now.moments ≤ c.args.begun = omega (arith, c.len.ensures.moments) in
    let P : Option Footer → Type 0 = λ footer. IsNextTurn c.args.lists.now footer c.args.t.seconds c.args.begun None in
    subst P (sym c.in-None.is) (no_turn c.args.lists.now c.args.t.seconds c.args.begun c.requires.types c.requires.begun all)

pub next_turn_of-requires-clause-known : goal.next_turn_of-requires-clause-known
next_turn_of-requires-clause-known c =
    let P : Option Footer → Type 0 = λ footer. IsKnownAhead footer c.args.t.seconds c.args.known.now in
    subst P c.in-Some.is c.requires.known

pub returns-in-Some-clause-ahead : goal.returns-in-Some-clause-ahead
returns-in-Some-clause-ahead c =
    let P : Option Footer → Type 0 = λ footer. IfSome c.next_turn_of.result (KnowsAhead footer) in
    subst P (sym c.in-Some.is) c.next_turn_of.ensures.ahead
