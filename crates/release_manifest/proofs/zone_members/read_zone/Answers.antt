use Rattle.release_manifest.proofs.CheckLemmas.{first_failing-append, judges_err}
use Rattle.release_manifest.specs.Checks.{zone_checks}
use Rattle.release_manifest.proofs.zone_members.read_zone.Goals as goal

pub returns-in_err-check_object-clause-judged : goal.returns-in_err-check_object-clause-judged
unfolding zone_checks
returns-in_err-check_object-clause-judged c =
    judges_err _ _ _ c.from_residual.ensures.1 (λ n. let h = c.in_err-check_object.ensures n in simp (first_failing-append, h))

pub returns-in_err-tzid-clause-judged : goal.returns-in_err-tzid-clause-judged
unfolding zone_checks
returns-in_err-tzid-clause-judged c =
    judges_err _ _ _ c.from_residual-in_err-tzid.ensures.1
    (λ n. let h = c.in_err-tzid.ensures.judged n in simp (first_failing-append, c.in_ok-check_object.ensures, h))

pub returns-in_err-file-clause-judged : goal.returns-in_err-file-clause-judged
unfolding zone_checks
returns-in_err-file-clause-judged c =
    judges_err _ _ _ c.from_residual-in_err-file.ensures.1
    (λ n. let h = c.in_err-file.ensures.judged n in
    simp (first_failing-append, c.in_ok-check_object.ensures, c.in_ok-tzid.ensures.judged, h))

pub returns-in_err-aliases-clause-judged : goal.returns-in_err-aliases-clause-judged
unfolding zone_checks
returns-in_err-aliases-clause-judged c =
    judges_err _ _ _ c.from_residual-in_err-aliases.ensures.1
    (λ n. let h = c.in_err-aliases.ensures.judged n in
    simp (first_failing-append, c.in_ok-check_object.ensures, c.in_ok-tzid.ensures.judged, c.in_ok-file.ensures.judged, h))

pub returns-clause-judged : goal.returns-clause-judged
unfolding zone_checks
returns-clause-judged c =
    simp (first_failing-append, c.in_ok-check_object.ensures, c.in_ok-tzid.ensures.judged, c.in_ok-file.ensures.judged, c.in_ok-aliases.ensures.judged)
