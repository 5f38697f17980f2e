use Rattle.std.proofs.Common.{◌≡◌, ℤ, ◌+ℤ◌, ◌≤ℤ◌, ◌<ℤ◌, pos, arith}
use Rattle.jiff_core.proofs.SignedLemmas.{signed_arith}
use Rattle.td_civil.specs.Bounds.{HasMeaning}
use Rattle.td_civil.specs.declared.moment_type.TheConstants.{LO, HI}
use Rattle.zone_meaning.specs.Observed.{IsRange}
use Rattle.zone_meaning.specs.State.{zone_state}
use Rattle.actions.proofs.Expansions.{plain_observances}
use Rattle.actions.proofs.Parts.{all_parts, plain_between}
use Rattle.actions.proofs.periods.put_in_parts.Goals as goal

-- from a moment to the second after a start that is not before it
to_start : (from until start after : ℤ) → IsRange from until → from ≤ℤ start → HasMeaning start → after ≡ start +ℤ pos 1 → IsRange from after
to_start from until start after range low meaning is =
    let before : start <ℤ HI = meaning.1 in
    (range.0, omega (arith, signed_arith, is, low), omega (arith, signed_arith, is, before))

pub new-requires : goal.new-requires
new-requires c = to_start _ _ _ _ c.requires.range c.requires.low c.requires.meaning c.second_after.ensures

pub put_changes-requires : goal.put_changes-requires
put_changes-requires c =
    rw (c.new.ensures)
    (plain_observances c.args.zone.now c.args.from.seconds c.second_after.result.seconds c.requires.sound
    (to_start _ _ _ _ c.requires.range c.requires.low c.requires.meaning c.second_after.ensures))

pub put_changes-requires-2 : goal.put_changes-requires-2
put_changes-requires-2 c =
    let put = c.in_ok-end.ensures in
    let first : LO ≤ℤ c.args.start.seconds = c.requires.meaning.0 in
    rw (c.after.ensures)
    (plain_between c.args.zone.now c.in_ok-end.end.seconds c.args.until.seconds c.requires.sound
    (omega (arith, signed_arith, first, put.after), put.before, c.requires.range.2))

pub returns : goal.returns
returns c =
    let put = c.in_ok-end.ensures in
    all_parts (zone_state c.args.zone.now) c.args.from.seconds c.args.start.seconds c.in_ok-end.end.seconds c.args.until.seconds
    c.second_after.result.seconds _ _ _ _ _ _ c.requires.low put.after put.before c.second_after.ensures c.new.ensures c.after.ensures
    c.in_ok-put_changes.ensures put.put c.in_ok-put_changes-2.ensures
