use Rattle.std.proofs.Common.{◌≡◌, ◌++◌, ◌∷◌, [], List, ap, ◌∙◌}
use Rattle.td_civil.specs.declared.local_time.Local.{Local}
use Rattle.td_civil.specs.declared.local_time.Observance.{Observance}
use Rattle.recurrence.specs.declared.part_types.Part.{Part}
use Rattle.zone_meaning.specs.Observed.{observance, changes_between}
use Rattle.vtimezone_reader.specs.Onsets.{calendar_state}
use Rattle.vtimezone_reader.proofs.Walk.{observed_is}
use Rattle.vtimezone_reader.proofs.expanding.expand.Goals as goal

pub returns : goal.returns
returns c =
    let a = c.args.a.seconds in
    let b = c.args.b.seconds in
    let parts = c.args.calendar.now.parts in
    let same : c.as_slice-parts.result.now ≡ parts = c.as_slice-parts.ensures in
    let state : c.in_ok-state.state ≡ calendar_state parts a = c.in_ok-state.ensures ∙ ap (λ (ps : List Part). calendar_state ps a) same in
    let first = c.first_at.ensures ∙ ap (λ (s : Local). observance a s.offset s) state in
    c.in_ok-append_changes.ensures
    ∙ ap (λ (l : List Observance). l ++ changes_between (calendar_state c.as_slice-parts.result.now) a b)
    (c.in_ok-push.ensures.ok ∙ ap (λ (l : List Observance). l ++ c.first_at.result ∷ []) c.new-list.ensures)
    ∙ ap (λ (o : Observance). o ∷ changes_between (calendar_state c.as_slice-parts.result.now) a b) first
    ∙ ap (λ (ps : List Part). observance a (calendar_state parts a).offset (calendar_state parts a) ∷ changes_between (calendar_state ps) a b) same
    ∙ observed_is (calendar_state parts) a b
