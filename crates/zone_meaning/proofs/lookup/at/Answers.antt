use Rattle.std.proofs.Common.{sym, subst}
use Rattle.td_civil.specs.declared.local_time.Local.{Local}
use Rattle.posix_footer.specs.Lawful.{IsLawfulOffset}
use Rattle.zone_meaning.proofs.lemmas.Types.{kept_types, state_offset}
use Rattle.zone_meaning.proofs.lookup.at.Goals as goal

pub state_at-requires-clause-types : goal.state_at-requires-clause-types
state_at-requires-clause-types c = kept_types _ _ _ c.lists_of_parts.ensures

pub returns-clause-offset : goal.returns-clause-offset
returns-clause-offset c =
    subst (λ (s : Local). IsLawfulOffset s.offset) (sym c.state_at.ensures)
    (state_offset c.lists_of_parts.result c.parts_of-parts.result.now.footer c.args.t.seconds (kept_types _ _ _ c.lists_of_parts.ensures) c.lists_of_parts.ensures.lawful)
