use Rattle.std.proofs.Common.{rules, ◌≡◌}
use Rattle.std.proofs.lemmas.Result.{err_from_is_err_and}
use Rattle.td_base.specs.Views.{one_more}
use Rattle.mirror.proofs.lemmas.Walks.{file_smaller, leaves_at, list_smaller}
use Rattle.calendar_mirror.proofs.Judgements.{hears_in_kind}
use Rattle.calendar_mirror.proofs.Walks.{fault_syncs, syncs_at, unsettled}
use Rattle.calendar_mirror.proofs.syncing.sync.Goals as goal

pub returns-in_err-turn-clause-syncs : goal.returns-in_err-turn-clause-syncs
returns-in_err-turn-clause-syncs g c =
    let p = err_from_is_err_and c.from_residual.result c.from_residual.ensures.1 in
    let next : c.saturating_add-asked.result ≡ one_more c.asking.asked = search rules in
    rw (p.1, p.2) (fault_syncs _ _ _ _ _ _ _ _ _ _ c.asking.invariant c.asking-test.true next c.in_err-turn.field-0.0 c.in_err-turn.ensures)

pub returns-in-Settled-clause-syncs : goal.returns-in-Settled-clause-syncs
returns-in-Settled-clause-syncs g c =
    let next : c.saturating_add-asked.result ≡ one_more c.asking.asked = search rules in
    syncs_at _ _ _ _ _ _ _ _ _ _ c.asking.invariant c.asking-test.true next _ c.in_ok-turn.ensures c.in-Settled.is

pub returns-in-Settled-clause-settled : goal.returns-in-Settled-clause-settled
returns-in-Settled-clause-settled g c =
    let next : c.saturating_add-asked.result ≡ one_more c.asking.asked = search rules in
    leaves_at _ _ _ _ _ _ _ _ _ _ _ c.asking.invariant c.asking-test.true next hears_in_kind _ c.in_ok-turn.ensures c.in-Settled.is

pub asking-smaller-in-List : goal.asking-smaller-in-List
asking-smaller-in-List g c =
    let next : c.saturating_add-asked.result ≡ one_more c.asking.asked = search rules in
    list_smaller _ _ _ _ _ _ _ _ _ _ _ c.asking.invariant c.asking-test.true next hears_in_kind _ c.in_ok-turn.ensures c.in-List.is

pub asking-smaller : goal.asking-smaller
asking-smaller g c =
    let next : c.saturating_add-asked.result ≡ one_more c.asking.asked = search rules in
    file_smaller _ _ _ _ _ _ _ _ _ _ _ c.asking.invariant c.asking-test.true next hears_in_kind _ c.in_ok-turn.ensures c.in-File.is

pub returns-clause-syncs : goal.returns-clause-syncs
returns-clause-syncs g c = unsettled _ _ _ _ _ _ _ c.asking.invariant c.asking-test.false
