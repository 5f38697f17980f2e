use Rattle.std.proofs.Common.{◌∙◌, refl, sym, subst, option_copied}
use Rattle.std.proofs.lemmas.Result.{err_from_is_err_and}
use Rattle.catalogue.specs.Releases.{ReleaseData}
use Rattle.zone_meaning.specs.Sound.{IsSound}
use Rattle.release_check.specs.Before.{Follows, before_held}
use Rattle.release_check.proofs.Fitting.{follows, sound_release}
use Rattle.release_check.proofs.Folders.{manifest_judged, zones_refused, leaps_refused, release_found, release_made}
use Rattle.release_check.proofs.Looking.{finds_none, finds_as, finds_then, same_err, err_is, ok_is_no_err}
use Rattle.release_check.proofs.checking.release_of.Goals as goal

pub returns-in_err-judge-clause-found : goal.returns-in_err-judge-clause-found
returns-in_err-judge-clause-found g c =
    let p = err_from_is_err_and c.from_residual.result c.from_residual.ensures.1 in
    rw (p.1, p.2) (finds_none _ _ _
    (λ files. manifest_judged files c.args.dir.now (before_held (option_copied c.args.last)) c.args.manifest.now _ c.in_err-judge.ensures.1)
    (λ e. c.in_err-judge.ensures.0 (err_is _ _ e)))

pub returns-in_err-zones-clause-found : goal.returns-in_err-zones-clause-found
returns-in_err-zones-clause-found g c =
    let p = err_from_is_err_and c.from_residual-in_err-zones.result c.from_residual-in_err-zones.ensures.1 in
    rw (p.1, p.2) (finds_as _ _ _ _ _ _
    (λ files. zones_refused files c.args.dir.now (before_held (option_copied c.args.last)) c.args.manifest.now _ c.in_ok-judge.ensures)
    (same_err _ _) (rw c.as_slice.ensures at c.in_err-zones.ensures.found))

pub returns-in_err-leaps-clause-found : goal.returns-in_err-leaps-clause-found
returns-in_err-leaps-clause-found g c =
    let p = err_from_is_err_and c.from_residual-in_err-leaps.result c.from_residual-in_err-leaps.ensures.1 in
    rw (p.1, p.2) (finds_then _ _ _ _ _ _ _ _ _
    (λ files. leaps_refused files c.args.dir.now (before_held (option_copied c.args.last)) c.args.manifest.now c.in_ok-zones.zones _ c.in_ok-judge.ensures)
    (same_err _ _) (rw c.as_slice.ensures at c.in_ok-zones.ensures.found) c.in_err-leaps.ensures.found)

pub returns-clause-found : goal.returns-clause-found
returns-clause-found g c =
    finds_then _ _ _ _ _ _ _ _ _
    (λ files. release_found files c.args.dir.now (before_held (option_copied c.args.last)) c.args.manifest.now c.in_ok-zones.zones c.in_ok-leaps.leaps _
    c.in_ok-judge.ensures
    refl (c.in_ok-from_slice.ensures ∙ c.as_slice-2.ensures) (c.in_ok-from_slice-2.ensures ∙ c.as_slice-3.ensures) refl refl)
    (λ e. absurd (ok_is_no_err _ _ e)) (rw c.as_slice.ensures at c.in_ok-zones.ensures.found) c.in_ok-leaps.ensures.found

pub returns-clause-sound : goal.returns-clause-sound
returns-clause-sound g c =
    subst (λ (r : ReleaseData). IsSound r)
    (sym (release_made c.args.manifest.now c.in_ok-zones.zones c.in_ok-leaps.leaps _ refl (c.in_ok-from_slice.ensures
    ∙ c.as_slice-2.ensures) (c.in_ok-from_slice-2.ensures ∙ c.as_slice-3.ensures) refl refl))
    (sound_release c.args.manifest.now _ c.in_ok-leaps.leaps c.requires (rw c.as_slice.ensures at c.in_ok-zones.ensures.of) c.in_ok-leaps.ensures.sound)

pub returns-clause-follows : goal.returns-clause-follows
returns-clause-follows g c =
    subst (λ (r : ReleaseData). Follows (before_held (option_copied c.args.last)) r)
    (sym (release_made c.args.manifest.now c.in_ok-zones.zones c.in_ok-leaps.leaps _ refl (c.in_ok-from_slice.ensures
    ∙ c.as_slice-2.ensures) (c.in_ok-from_slice-2.ensures ∙ c.as_slice-3.ensures) refl refl))
    (follows (before_held (option_copied c.args.last)) c.args.manifest.now _ c.in_ok-leaps.leaps c.in_ok-judge.ensures
    (rw c.as_slice.ensures at c.in_ok-zones.ensures.of))
