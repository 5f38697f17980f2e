use Rattle.std.proofs.Common.{◌<◌, length, sym, subst, List}
use Rattle.std.specs.List.{All}
use Rattle.recurrence.specs.declared.part_types.Part.{Part}
use Rattle.recurrence.specs.InForce.{GivesState}
use Rattle.zone_meaning.specs.State.{zone_state}
use Rattle.recurrence.specs.Spellable.{IsSpellable}
use Rattle.vtimezone.proofs.Spellable.{some_parts, parts_spellable}
use Rattle.vtimezone.proofs.lemmas.ZoneRange.{zone_parts_mean}
use Rattle.vtimezone.proofs.zone_parts.parts.Goals as goal

pub returns-clause-means : goal.returns-clause-means
returns-clause-means c = λ t among.
    let P : List Part → Type 0 = λ ps. GivesState ps t (zone_state c.args.zone.now t) in
    subst P (sym c.in_ok-parts.ensures.exact)
    (zone_parts_mean c.args.zone.now c.args.range c.in_ok-parts.ensures.no_fault c.requires.carried c.requires.from c.requires.until t among)

pub returns-clause-some : goal.returns-clause-some
returns-clause-some c =
    let P : List Part → Type 0 = λ ps. 0 < length ps in
    subst P (sym c.in_ok-parts.ensures.exact) (some_parts c.args.zone.now c.args.range)

pub returns-clause-spellable : goal.returns-clause-spellable
returns-clause-spellable c = λ names.
    subst (All IsSpellable) (sym c.in_ok-parts.ensures.exact)
    (parts_spellable c.args.zone.now c.args.range c.in_ok-parts.ensures.no_fault names c.requires.carried c.requires.from c.requires.until)
