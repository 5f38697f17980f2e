use Rattle.std.proofs.Common.{◌≡◌, ◌∙◌, sym, ap, ℕ, List, length, map, [], rules, option_copied}
use Rattle.std.proofs.lemmas.Result.{err_from_is_err_and}
use Rattle.std.proofs.lemmas.List.{length-map}
use Rattle.std.specs.List.{list_any}
use Rattle.std.specs.Str.{bytes_eq}
use Rattle.release_check.specs.Before.{before_held}
use Rattle.release_check.specs.Faults.{names_in, identifier_fault, duplicate_fault}
use Rattle.release_check.proofs.Judgement.{searches, judged_first, judged_later}
use Rattle.release_check.proofs.manifest_judging.judge.Goals as goal

pub returns-in_err-judge_limits : goal.returns-in_err-judge_limits
returns-in_err-judge_limits c =
    let p = err_from_is_err_and c.from_residual-in_err-judge_limits.result c.from_residual-in_err-judge_limits.ensures.1 in
    let all = searches (before_held (option_copied c.args.last)) c.args.manifest.now (map (λ n. n.now) c.in_ok-names.names.items)
    (length c.as_slice-zones.result.now) c.len.result (c.in_ok-names.ensures
    ∙ ap names_in c.as_slice-zones.ensures) (ap length c.as_slice-zones.ensures) (simp length-map (search rules)) in
    rw (p.1, p.2) (c.in_err-judge_limits.ensures.0, judged_first _ _ _ _ all c.in_err-judge_limits.ensures.1)

pub returns-in_err-judge_stamp : goal.returns-in_err-judge_stamp
returns-in_err-judge_stamp c =
    let p = err_from_is_err_and c.from_residual-in_err-judge_stamp.result c.from_residual-in_err-judge_stamp.ensures.1 in
    let all = searches (before_held (option_copied c.args.last)) c.args.manifest.now (map (λ n. n.now) c.in_ok-names.names.items)
    (length c.as_slice-zones.result.now) c.len.result (c.in_ok-names.ensures
    ∙ ap names_in c.as_slice-zones.ensures) (ap length c.as_slice-zones.ensures) (simp length-map (search rules)) in
    rw (p.1, p.2) (
      c.in_err-judge_stamp.ensures.judged.0,
      judged_first _ _ _ _ (judged_later _ _ _ all c.in_ok-judge_limits.ensures) c.in_err-judge_stamp.ensures.judged.1,
    )

pub returns-in_err-judge_identifiers : goal.returns-in_err-judge_identifiers
returns-in_err-judge_identifiers c =
    let p = err_from_is_err_and c.from_residual-in_err-judge_identifiers.result c.from_residual-in_err-judge_identifiers.ensures.1 in
    let all = searches (before_held (option_copied c.args.last)) c.args.manifest.now (map (λ n. n.now) c.in_ok-names.names.items)
    (length c.as_slice-zones.result.now) c.len.result (c.in_ok-names.ensures
    ∙ ap names_in c.as_slice-zones.ensures) (ap length c.as_slice-zones.ensures) (simp length-map (search rules)) in
    rw (p.1, p.2) (
      c.in_err-judge_identifiers.ensures.0,
      judged_first _ _ _ _
          (judged_later _ _ _ (judged_later _ _ _ all c.in_ok-judge_limits.ensures) c.in_ok-judge_stamp.ensures.judged)
          (λ n. sym (ap (identifier_fault 0) c.as_slice-zones.ensures) ∙ c.in_err-judge_identifiers.ensures.1 n),
    )

pub returns-in_err-kept : goal.returns-in_err-kept
returns-in_err-kept c =
    let p = err_from_is_err_and c.from_residual-in_err-kept.result c.from_residual-in_err-kept.ensures.1 in
    let all = searches (before_held (option_copied c.args.last)) c.args.manifest.now (map (λ n. n.now) c.in_ok-names.names.items)
    (length c.as_slice-zones.result.now) c.len.result (c.in_ok-names.ensures
    ∙ ap names_in c.as_slice-zones.ensures) (ap length c.as_slice-zones.ensures) (simp length-map (search rules)) in
    rw (p.1, p.2) (
      c.in_err-kept.ensures.first.0,
      judged_first _ _ _ _ (judged_later _ _ _
          (judged_later _ _ _ (judged_later _ _ _ all c.in_ok-judge_limits.ensures) c.in_ok-judge_stamp.ensures.judged)
          (sym (ap (identifier_fault 0) c.as_slice-zones.ensures) ∙ c.in_ok-judge_identifiers.ensures))
          (λ n. sym (ap (λ xs. duplicate_fault [] (map (λ n. n.now) xs)) c.as_slice.ensures.value) ∙ c.in_err-kept.ensures.first.1 n),
    )

pub returns-in_err-judge_drops : goal.returns-in_err-judge_drops
returns-in_err-judge_drops c =
    let p = err_from_is_err_and c.from_residual-in_err-judge_drops.result c.from_residual-in_err-judge_drops.ensures.1 in
    let all = searches (before_held (option_copied c.args.last)) c.args.manifest.now (map (λ n. n.now) c.in_ok-names.names.items)
    (length c.as_slice-zones.result.now) c.len.result (c.in_ok-names.ensures
    ∙ ap names_in c.as_slice-zones.ensures) (ap length c.as_slice-zones.ensures) (simp length-map (search rules)) in
    let same : (text : List ℕ) → list_any (bytes_eq text) (map (λ n. n.now) c.in_ok-kept.kept.keys) ≡ list_any (bytes_eq text)
    (map (λ n. n.now) c.in_ok-names.names.items) =
    λ text. c.in_ok-kept.ensures.kept text ∙ ap (λ xs. list_any (bytes_eq text) (map (λ n. n.now) xs)) c.as_slice.ensures.value in
    rw (p.1, p.2) (
      (c.in_err-judge_drops.ensures (map (λ n. n.now) c.in_ok-names.names.items) same).0,
      judged_first _ _ _ _
          (judged_later _ _ _ (judged_later _ _ _ (judged_later _ _ _ (judged_later _ _ _ all c.in_ok-judge_limits.ensures) c.in_ok-judge_stamp.ensures.judged)
          (sym (ap (identifier_fault 0) c.as_slice-zones.ensures) ∙ c.in_ok-judge_identifiers.ensures))
          (sym (ap (λ xs. duplicate_fault [] (map (λ n. n.now) xs)) c.as_slice.ensures.value)
          ∙ c.in_ok-kept.ensures.first)) (c.in_err-judge_drops.ensures (map (λ n. n.now) c.in_ok-names.names.items) same).1,
    )

pub returns-in_err-judge_places : goal.returns-in_err-judge_places
returns-in_err-judge_places c =
    let p = err_from_is_err_and c.from_residual-in_err-judge_places.result c.from_residual-in_err-judge_places.ensures.1 in
    let all = searches (before_held (option_copied c.args.last)) c.args.manifest.now (map (λ n. n.now) c.in_ok-names.names.items)
    (length c.as_slice-zones.result.now) c.len.result (c.in_ok-names.ensures
    ∙ ap names_in c.as_slice-zones.ensures) (ap length c.as_slice-zones.ensures) (simp length-map (search rules)) in
    let same : (text : List ℕ) → list_any (bytes_eq text) (map (λ n. n.now) c.in_ok-kept.kept.keys) ≡ list_any (bytes_eq text)
    (map (λ n. n.now) c.in_ok-names.names.items) =
    λ text. c.in_ok-kept.ensures.kept text ∙ ap (λ xs. list_any (bytes_eq text) (map (λ n. n.now) xs)) c.as_slice.ensures.value in
    rw (p.1, p.2) (
      c.in_err-judge_places.ensures.judged.0,
      λ n. (judged_later _ _ _
          (judged_later _ _ _ (judged_later _ _ _ (judged_later _ _ _ (judged_later _ _ _ all c.in_ok-judge_limits.ensures) c.in_ok-judge_stamp.ensures.judged)
          (sym (ap (identifier_fault 0) c.as_slice-zones.ensures) ∙ c.in_ok-judge_identifiers.ensures))
          (sym (ap (λ xs. duplicate_fault [] (map (λ n. n.now) xs)) c.as_slice.ensures.value)
          ∙ c.in_ok-kept.ensures.first)) (c.in_ok-judge_drops.ensures (map (λ n. n.now) c.in_ok-names.names.items) same))
          ∙ c.in_err-judge_places.ensures.judged.1 n,
    )

pub returns : goal.returns
returns c =
    let all = searches (before_held (option_copied c.args.last)) c.args.manifest.now (map (λ n. n.now) c.in_ok-names.names.items)
    (length c.as_slice-zones.result.now) c.len.result (c.in_ok-names.ensures
    ∙ ap names_in c.as_slice-zones.ensures) (ap length c.as_slice-zones.ensures) (simp length-map (search rules)) in
    let same : (text : List ℕ) → list_any (bytes_eq text) (map (λ n. n.now) c.in_ok-kept.kept.keys) ≡ list_any (bytes_eq text)
    (map (λ n. n.now) c.in_ok-names.names.items) =
    λ text. c.in_ok-kept.ensures.kept text ∙ ap (λ xs. list_any (bytes_eq text) (map (λ n. n.now) xs)) c.as_slice.ensures.value in
    (judged_later _ _ _ (judged_later _ _ _ (judged_later _ _ _ (judged_later _ _ _ (judged_later _ _ _ all c.in_ok-judge_limits.ensures)
    c.in_ok-judge_stamp.ensures.judged) (sym (ap (identifier_fault 0) c.as_slice-zones.ensures)
    ∙ c.in_ok-judge_identifiers.ensures)) (sym (ap (λ xs. duplicate_fault [] (map (λ n. n.now) xs)) c.as_slice.ensures.value)
    ∙ c.in_ok-kept.ensures.first)) (c.in_ok-judge_drops.ensures (map (λ n. n.now) c.in_ok-names.names.items) same)) ∙ c.in_ok-judge_places.ensures.judged
