use Rattle.release_manifest.proofs.CheckLemmas.{first_failing-append, judges_err}
use Rattle.release_manifest.specs.Checks.{leap_checks}
use Rattle.release_manifest.proofs.reading.read_leap_members.Goals as goal

pub returns-in_err-check_object-clause-judged : goal.returns-in_err-check_object-clause-judged
unfolding leap_checks
returns-in_err-check_object-clause-judged c =
    judges_err _ _ _ c.from_residual.ensures.1
    (λ n. let h = c.in_err-check_object.ensures n in
    simp (first_failing-append, h))

pub returns-in_err-file-clause-judged : goal.returns-in_err-file-clause-judged
unfolding leap_checks
returns-in_err-file-clause-judged c =
    judges_err _ _ _ c.from_residual-in_err-file.ensures.1
    (λ n. let h = c.in_err-file.ensures.judged n in
    simp (first_failing-append, c.in_ok-check_object.ensures, h))

pub returns-in_err-expires-clause-judged : goal.returns-in_err-expires-clause-judged
unfolding leap_checks
returns-in_err-expires-clause-judged c =
    judges_err _ _ _ c.from_residual-in_err-expires.ensures.1
    (λ n. let h = c.in_err-expires.ensures.judged n in
    simp (first_failing-append, c.in_ok-check_object.ensures, c.in_ok-file.ensures.judged, h))

pub returns-clause-judged : goal.returns-clause-judged
unfolding leap_checks
returns-clause-judged c =
    simp (first_failing-append, c.in_ok-check_object.ensures, c.in_ok-file.ensures.judged, c.in_ok-expires.ensures.judged)
