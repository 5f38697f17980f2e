use Rattle.std.proofs.Common.{◌≡◌, ap, ◌∙◌, List}
use Rattle.std.specs.Prelude.{ℤ}
use Rattle.td_civil.specs.declared.local_time.Local.{Local}
use Rattle.zone_meaning.specs.Observed.{changes_between}
use Rattle.zone_meaning.specs.State.{state_at, zone_state}
use Rattle.zone_meaning.proofs.lemmas.Types.{kept_types, kept_state, kept_states}
use Rattle.zone_meaning.proofs.observing.walk_from.Goals as goal

pub begun-begun-requires : goal.begun-begun-requires
begun-begun-requires c = kept_types _ _ _ c.lists_of_parts-lists.ensures

pub state_when-state-requires-clause-types : goal.state_when-state-requires-clause-types
state_when-state-requires-clause-types c = kept_types _ _ _ c.lists_of_parts-lists.ensures

pub returns-clause-sound : goal.returns-clause-sound
returns-clause-sound c = record {
  types = kept_types _ _ _ c.lists_of_parts-lists.ensures;
  lawful = c.lists_of_parts-lists.ensures.lawful;
  from = c.requires.0;
  before_end = c.requires.1;
  end_in = c.requires.2;
  begun = c.begun-begun.ensures.place;
  state_is = c.state_when-state.ensures;
  ahead = tt;
}

pub returns-clause-state : goal.returns-clause-state
returns-clause-state c =
    c.state_when-state.ensures
    ∙ kept_state c.parts_of-parts.result.now.file c.lists_of_parts-lists.result c.parts_of-parts.result.now.footer c.args.a.seconds c.lists_of_parts-lists.ensures
    ∙ ap (λ (file : List _). zone_state file c.args.a.seconds) c.parts_of-parts.ensures.file

pub returns-clause-left : goal.returns-clause-left
returns-clause-left c =
    let a = c.args.a.seconds in
    let b = c.args.b.seconds in
    ap (λ (f : ℤ → Local). changes_between f a b)
    (kept_states c.parts_of-parts.result.now.file c.lists_of_parts-lists.result c.parts_of-parts.result.now.footer c.lists_of_parts-lists.ensures)
    ∙ ap (λ (file : List _). changes_between (zone_state file) a b) c.parts_of-parts.ensures.file
