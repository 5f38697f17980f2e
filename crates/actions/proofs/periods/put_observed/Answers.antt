use Rattle.std.proofs.Common.{ℤ, pos, neg_ℤ, ◌≤ℤ◌, ◌<ℤ◌, arith}
use Rattle.jiff_core.proofs.SignedLemmas.{signed_arith}
use Rattle.td_civil.specs.Bounds.{HasMeaning}
use Rattle.td_civil.specs.declared.moment_type.TheConstants.{HI}
use Rattle.zone_meaning.specs.Observed.{IsRange}
use Rattle.actions.proofs.Expansions.{plain_observances}
use Rattle.actions.proofs.periods.put_observed.Goals as goal

meant : (from until : ℤ) → IsRange from until → HasMeaning from
meant from until range =
    let before : from <ℤ until = range.1 in
    let end : until ≤ℤ HI = range.2 in
    (range.0, omega (arith, signed_arith, before, end))

pub put_in_parts-requires-clause-meaning : goal.put_in_parts-requires-clause-meaning
put_in_parts-requires-clause-meaning c = c.later-start.ensures.meaning (meant _ _ c.requires.range) c.repeats_from.ensures.meaning

pub put_in_parts-requires-clause-period : goal.put_in_parts-requires-clause-period
put_in_parts-requires-clause-period c =
    let start = c.later-start.result.seconds in
    let meaning = c.later-start.ensures.meaning (meant _ _ c.requires.range) c.repeats_from.ensures.meaning in
    let first : neg_ℤ (pos 5364662400) ≤ℤ start = meaning.0 in
    let last : start <ℤ pos 253370764800 = meaning.1 in
    omega (arith, signed_arith, c.if-start-until.true, first, last)

pub put_in_parts-requires-clause-repeats : goal.put_in_parts-requires-clause-repeats
put_in_parts-requires-clause-repeats c v low before =
    c.repeats_from.ensures.repeats v (omega (arith, signed_arith, c.later-start.ensures.second, low)) before

pub put_changes-requires : goal.put_changes-requires
put_changes-requires c =
    rw (c.new.ensures) (plain_observances c.args.zone.now c.args.from.seconds c.args.until.seconds c.requires.sound c.requires.range)

pub returns : goal.returns
returns c = rw (← c.new.ensures) c.put_changes.ensures
