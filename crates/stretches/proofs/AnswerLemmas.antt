-- What is ready is answered, where nothing is ready a server waits, and what is ready stays.
use Rattle.std.proofs.Common.{◌≡◌, ℕ, ◌<◌, ◌≤◌, ◌⊎◌, inl, inr, List, ◌++◌, length, take, true, false, ◌&&◌, nat_le, cond, Some, None}
use Rattle.std.proofs.Common.{refl, sym, ap, ◌∙◌, subst, arith, length-take-le}
use Rattle.std.proofs.lemmas.Bool.{cases_Bool, true≢false}
use Rattle.std.proofs.lemmas.List.{take_all}
use Rattle.std.proofs.lemmas.Option.{none-some}
use Rattle.http_request.specs.Ends.{feeds, fits, window, is_full}
use Rattle.http_request.specs.Scans.{head_end}
use Rattle.http_request.specs.Steps.{Found, Whole, Malformed, TooLarge, NotYet, Finds, Waiting, IsStep, outcome}
use Rattle.http_request.specs.declared.limits.TheConstants.{MOST_HEAD_BYTES, MOST_FEEDS}
use Rattle.http_request.specs.Judging.{refusal_of}
use Rattle.http_request.proofs.lemmas.StepLemmas.{Limits, Within, Past, Nowhere, end_alone, end_within_list, finds_stays, limits}
use Rattle.http_request.proofs.lemmas.StepLemmas.{refused≢waiting, verdict_waits, window_of, window_stays}
use Rattle.stretches.specs.Fronts.{front_by, front_length}
use Rattle.stretches.proofs.FrontLemmas.{front_full, front_none}

-- of the laws of the search
abbrev pub FullSome : Type 0
FullSome = (bytes : List ℕ) → is_full bytes ≡ true → 0 < length bytes

abbrev pub EndSome : Type 0
EndSome = (bytes : List ℕ) (n : ℕ) → head_end bytes ≡ Some n → (0 < n) × (n ≤ length bytes) × (window bytes ≡ cond (fits bytes n) (Some n) None)

none_below : (n : ℕ) → n ≡ 0 → 0 < n → ⊥
none_below n e h = omega arith

pub waits : FullSome → EndSome → (bytes : List ℕ) → front_length bytes ≡ 0 → IsStep bytes Waiting
waits some end bytes z = by_limits (limits bytes)
  where
    by_room : window bytes ≡ None → (is_full bytes ≡ true) ⊎ (is_full bytes ≡ false) → IsStep bytes Waiting
    by_room w (inl g) = absurd (none_below (length bytes) (sym (front_full bytes w g) ∙ z) (some bytes g))
    by_room w (inr g) = record { found = NotYet; finds = (w, g); is = refl }

    by_limits : Limits bytes → IsStep bytes Waiting
    by_limits (Within n e f w) = absurd (none_below n (sym (ap (front_by bytes) w) ∙ z) (end bytes n e).0)
    by_limits (Past n e f w) = by_room w (cases_Bool (is_full bytes))
    by_limits (Nowhere e w) = by_room w (cases_Bool (is_full bytes))

-- a server waits only where there is no window, and room for one
step_waits : (bytes : List ℕ) → IsStep bytes Waiting → Finds bytes NotYet
step_waits bytes s = by_found s.found s.finds s.is
  where
    by_found : (f : Found) → Finds bytes f → Waiting ≡ outcome f → Finds bytes NotYet
    by_found (Whole h) x e = absurd (verdict_waits h (refusal_of h) e)
    by_found Malformed x e = absurd (refused≢waiting 400 (sym e))
    by_found TooLarge x e = absurd (refused≢waiting 431 (sym e))
    by_found NotYet x e = x

-- a head stands alone as it stands before others
pub window_alone : (bytes : List ℕ) (n : ℕ) → head_end bytes ≡ Some n → fits bytes n ≡ true → window (take n bytes) ≡ Some n
window_alone bytes n e f =
    let same : take n (take n bytes) ≡ take n bytes = take_all n (take n bytes) (omega (arith, length-take-le n bytes (end_within_list bytes n e))) in
    window_of (take n bytes) n (end_alone bytes n e)
    ∙ ap (λ t. cond t (Some n) None) (ap (λ l. nat_le n MOST_HEAD_BYTES && nat_le (feeds l) MOST_FEEDS) same ∙ f)

pub answers : (bytes : List ℕ) → 0 < front_length bytes → IsStep (take (front_length bytes) bytes) Waiting → ⊥
answers bytes h s = by_limits (limits bytes)
  where
    by_room : window bytes ≡ None → (is_full bytes ≡ true) ⊎ (is_full bytes ≡ false) → ⊥
    by_room w (inl g) =
        let same : take (front_length bytes) bytes ≡ bytes = ap (λ n. take n bytes) (front_full bytes w g) ∙ take_all (length bytes) bytes (omega arith) in
        true≢false (sym g ∙ (step_waits bytes (subst (λ (l : List ℕ). IsStep l Waiting) same s)).1)
    by_room w (inr g) = none_below (front_length bytes) (front_none bytes w g) h

    by_limits : Limits bytes → ⊥
    by_limits (Within n e f w) =
        let step : IsStep (take n bytes) Waiting = subst (λ (k : ℕ). IsStep (take k bytes) Waiting) (ap (front_by bytes) w) s in
        none-some n (sym (step_waits (take n bytes) step).0 ∙ window_alone bytes n e f)
    by_limits (Past n e f w) = by_room w (cases_Bool (is_full bytes))
    by_limits (Nowhere e w) = by_room w (cases_Bool (is_full bytes))

pub whole_stays : (bytes next : List ℕ) (n : ℕ) → window bytes ≡ Some n → front_length (bytes ++ next) ≡ n
whole_stays bytes next n w = ap (front_by (bytes ++ next)) (window_stays bytes next n w).1

pub ready_stays : FullSome → EndSome → (bytes next : List ℕ) → 0 < front_length bytes → 0 < front_length (bytes ++ next)
ready_stays some end bytes next h = by_limits (limits bytes)
  where
    by_room : window bytes ≡ None → (is_full bytes ≡ true) ⊎ (is_full bytes ≡ false) → 0 < front_length (bytes ++ next)
    by_room w (inl g) =
        let stays = finds_stays bytes next TooLarge tt (w, g) in
        subst (λ (k : ℕ). 0 < k) (sym (front_full (bytes ++ next) stays.0 stays.1)) (some (bytes ++ next) stays.1)
    by_room w (inr g) = absurd (none_below (front_length bytes) (front_none bytes w g) h)

    by_limits : Limits bytes → 0 < front_length (bytes ++ next)
    by_limits (Within n e f w) = subst (λ (k : ℕ). 0 < k) (sym (whole_stays bytes next n w)) (end bytes n e).0
    by_limits (Past n e f w) = by_room w (cases_Bool (is_full bytes))
    by_limits (Nowhere e w) = by_room w (cases_Bool (is_full bytes))
