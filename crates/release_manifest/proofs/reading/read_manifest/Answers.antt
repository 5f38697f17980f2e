use Rattle.release_manifest.proofs.CheckLemmas.{first_failing-append, judges_err}
use Rattle.release_manifest.specs.Checks.{manifest_checks}
use Rattle.release_manifest.proofs.reading.read_manifest.Goals as goal

pub returns-in_err-check_object-clause-judged : goal.returns-in_err-check_object-clause-judged
unfolding manifest_checks
returns-in_err-check_object-clause-judged c =
    judges_err _ _ _ c.from_residual.ensures.1
    (λ n. let h = c.in_err-check_object.ensures n in
    simp (first_failing-append, h))

pub returns-in_err-publisher-clause-judged : goal.returns-in_err-publisher-clause-judged
unfolding manifest_checks
returns-in_err-publisher-clause-judged c =
    judges_err _ _ _ c.from_residual-in_err-publisher.ensures.1
    (λ n. let h = c.in_err-publisher.ensures.judged n in
    simp (first_failing-append, c.in_ok-check_object.ensures, h))

pub returns-in_err-version-clause-judged : goal.returns-in_err-version-clause-judged
unfolding manifest_checks
returns-in_err-version-clause-judged c =
    judges_err _ _ _ c.from_residual-in_err-version.ensures.1
    (λ n. let h = c.in_err-version.ensures.judged n in
    simp (first_failing-append, c.in_ok-check_object.ensures, c.in_ok-publisher.ensures.judged, h))

pub returns-in_err-stamp-clause-judged : goal.returns-in_err-stamp-clause-judged
unfolding manifest_checks
returns-in_err-stamp-clause-judged c =
    judges_err _ _ _ c.from_residual-in_err-stamp.ensures.1
    (λ n. let h = c.in_err-stamp.ensures.judged n in
    simp (first_failing-append, c.in_ok-check_object.ensures, c.in_ok-publisher.ensures.judged, c.in_ok-version.ensures.judged, h))

pub returns-in_err-zones-clause-judged : goal.returns-in_err-zones-clause-judged
unfolding manifest_checks
returns-in_err-zones-clause-judged c =
    judges_err _ _ _ c.from_residual-in_err-zones.ensures.1
    (λ n. let h = c.in_err-zones.ensures.judged n in
    simp (
      first_failing-append,
      c.in_ok-check_object.ensures,
      c.in_ok-publisher.ensures.judged,
      c.in_ok-version.ensures.judged,
      c.in_ok-stamp.ensures.judged,
      h,
    ))

pub returns-in_err-leaps-clause-judged : goal.returns-in_err-leaps-clause-judged
unfolding manifest_checks
returns-in_err-leaps-clause-judged c =
    judges_err _ _ _ c.from_residual-in_err-leaps.ensures.1
    (λ n. let h = c.in_err-leaps.ensures.judged n in
    simp (
      first_failing-append,
      c.in_ok-check_object.ensures,
      c.in_ok-publisher.ensures.judged,
      c.in_ok-version.ensures.judged,
      c.in_ok-stamp.ensures.judged,
      c.in_ok-zones.ensures.judged,
      h,
    ))

pub returns-clause-judged : goal.returns-clause-judged
unfolding manifest_checks
returns-clause-judged c =
    simp (
      first_failing-append,
      c.in_ok-check_object.ensures,
      c.in_ok-publisher.ensures.judged,
      c.in_ok-version.ensures.judged,
      c.in_ok-stamp.ensures.judged,
      c.in_ok-zones.ensures.judged,
      c.in_ok-leaps.ensures.judged,
    )
