-- What stays true of an intake through any calls.
use Rattle.std.proofs.Common.{◌≡◌, ℕ, ◌<◌, ◌≤◌, ◌+◌, ◌==◌, ◌⊎◌, inl, inr, List, [], ◌∷◌, ◌++◌, length, take, true, false, cond, None}
use Rattle.std.proofs.Common.{refl, sym, ap, ◌∙◌, subst, arith, append-nil, length-take-le, length-append}
use Rattle.std.proofs.lemmas.Bool.{cases_Bool, eqb-true}
use Rattle.std.proofs.lemmas.List.{append_assoc, take_all, take-append-le}
use Rattle.std.proofs.lemmas.List.Elements.{All-nil, All-push}
use Rattle.std.proofs.lemmas.Grind.{flat_map-append}
use Rattle.std.proofs.Math.Nat.{eq-zero-or-pos}
use Rattle.std.proofs.Math.Seq.{take-append-add}
use Rattle.http_request.specs.Ends.{is_full, window}
use Rattle.http_request.proofs.lemmas.StepLemmas.{Limits, Within, Past, Nowhere, end_within_list, limits}
use Rattle.stretches.specs.Fronts.{front_by, front_length}
use Rattle.stretches.specs.Intakes.{Came, Gives, ready_after}
use Rattle.stretches.specs.Calls.{AreFronts, Call, append, look, give, DoesAll, IsFront, all_come, all_given, nothing}
use Rattle.stretches.proofs.AnswerLemmas.{window_alone}
use Rattle.stretches.proofs.FrontLemmas.{front_full, front_none}

-- ---- nothing is lost, and nothing is given twice

kept_from : (calls : List Call) (old now : Came) → DoesAll old calls now → all_given calls ++ now.bytes ≡ old.bytes ++ all_come calls
kept_from [] old now d = ap (λ (c : Came). c.bytes) d ∙ sym (append-nil old.bytes)
kept_from (append piece ∷ calls) old now d =
    kept_from calls d.0 now d.2 ∙ (ap (λ (c : Came). c.bytes ++ all_come calls) d.1 ∙ append_assoc old.bytes piece (all_come calls))
kept_from (look ∷ calls) old now d = kept_from calls d.0 now d.2 ∙ ap (λ (c : Came). c.bytes ++ all_come calls) d.1
kept_from (give room count ∷ calls) old now d =
    append_assoc (take count room) (all_given calls) now.bytes
    ∙ (ap (λ l. take count room ++ l) (kept_from calls d.0 now d.2)
    ∙ (sym (append_assoc (take count room) d.0.bytes (all_come calls)) ∙ ap (λ l. l ++ all_come calls) d.1.given))

pub kept : (calls : List Call) (now : Came) → DoesAll nothing calls now → all_given calls ++ now.bytes ≡ all_come calls
kept calls now d = kept_from calls nothing now d

-- ---- what is given is cut at ends of fronts

front_within : (bytes : List ℕ) → front_length bytes ≤ length bytes
front_within bytes = by_limits (limits bytes)
  where
    by_room : window bytes ≡ None → (is_full bytes ≡ true) ⊎ (is_full bytes ≡ false) → front_length bytes ≤ length bytes
    by_room w (inl g) = omega (arith, front_full bytes w g)
    by_room w (inr g) = omega (arith, front_none bytes w g)

    by_limits : Limits bytes → front_length bytes ≤ length bytes
    by_limits (Within n e f w) = omega (arith, ap (front_by bytes) w, end_within_list bytes n e)
    by_limits (Past n e f w) = by_room w (cases_Bool (is_full bytes))
    by_limits (Nowhere e w) = by_room w (cases_Bool (is_full bytes))

-- a front is a front also without what stands behind it
front_alone : (bytes : List ℕ) → 0 < front_length bytes → front_length (take (front_length bytes) bytes) ≡ front_length bytes
front_alone bytes h = by_limits (limits bytes)
  where
    by_room : window bytes ≡ None → (is_full bytes ≡ true) ⊎ (is_full bytes ≡ false) → front_length (take (front_length bytes) bytes) ≡ front_length bytes
    by_room w (inl g) = ap front_length (take_all (front_length bytes) bytes (omega (arith, front_full bytes w g)))
    by_room w (inr g) = absurd (none (front_length bytes) (front_none bytes w g) h)
      where
        none : (n : ℕ) → n ≡ 0 → 0 < n → ⊥
        none n e p = omega arith

    by_limits : Limits bytes → front_length (take (front_length bytes) bytes) ≡ front_length bytes
    by_limits (Within n e f w) =
        let same : front_length bytes ≡ n = ap (front_by bytes) w in
        ap (λ k. front_length (take k bytes)) same ∙ (ap (front_by (take n bytes)) (window_alone bytes n e f) ∙ sym same)
    by_limits (Past n e f w) = by_room w (cases_Bool (is_full bytes))
    by_limits (Nowhere e w) = by_room w (cases_Bool (is_full bytes))

is_front : (bytes : List ℕ) → 0 < front_length bytes → IsFront (take (front_length bytes) bytes)
is_front bytes h =
    let same = front_alone bytes h in
    (subst (λ (k : ℕ). 0 < k) (sym same) h, same ∙ sym (length-take-le (front_length bytes) bytes (front_within bytes)))

add_front : (before bytes : List ℕ) → AreFronts before → AreFronts (before ++ take (front_length bytes) bytes)
add_front before bytes a = by_length (eq-zero-or-pos (front_length bytes))
  where
    front : List ℕ
    front = take (front_length bytes) bytes

    by_length : (front_length bytes ≡ 0) ⊎ (0 < front_length bytes) → AreFronts (before ++ front)
    by_length (inl z) = subst AreFronts (sym (ap (λ k. before ++ take k bytes) z ∙ append-nil before)) a
    by_length (inr h) = (
      a.0 ++ front ∷ [],
      All-push IsFront a.0 front a.1 (is_front bytes h),
      flat_map-append (λ f. f) a.0 (front ∷ []) ∙ (ap (λ l. l ++ (front ++ [])) a.2 ∙ ap (λ l. before ++ l) (append-nil front)),
    )

-- what was given before, with what may still be given, are fronts
record Cut (old : Came) (before : List ℕ) : Type 0 where
  ready : old.ready ≤ length old.bytes
  fronts : AreFronts (before ++ take old.ready old.bytes)

cut_append : (old : Came) (before piece : List ℕ) → Cut old before → Cut (record old { bytes = old.bytes ++ piece }) before
cut_append old before piece c = record {
  ready = omega (arith, c.ready, length-append old.bytes piece);
  fronts = subst (λ l. AreFronts (before ++ l)) (sym (take-append-le old.ready old.bytes piece c.ready)) c.fronts;
}

cut_look : (old : Came) (before : List ℕ) → Cut old before → Cut (record old { ready = ready_after old }) before
cut_look old before c = by_ready (cases_Bool (old.ready == 0))
  where
    by_ready : ((old.ready == 0) ≡ true) ⊎ ((old.ready == 0) ≡ false) → Cut (record old { ready = ready_after old }) before
    by_ready (inl z) =
        let same : front_length old.bytes ≡ ready_after old = sym (ap (λ t. cond t (front_length old.bytes) old.ready) z) in
        let fronts : AreFronts before =
        subst AreFronts (ap (λ k. before ++ take k old.bytes) (eqb-true old.ready 0 z) ∙ append-nil before) c.fronts in
        subst (λ k. Cut (record old { ready = k }) before) same
        (record { ready = front_within old.bytes; fronts = add_front before old.bytes fronts })
    by_ready (inr p) =
        let same : old.ready ≡ ready_after old = sym (ap (λ t. cond t (front_length old.bytes) old.ready) p) in
        subst (λ k. Cut (record old { ready = k }) before) same (record { ready = c.ready; fronts = c.fronts })

cut_give : (old next : Came) (before room : List ℕ) (count : ℕ) → Cut old before → Gives old next room count → Cut next (before ++ take count room)
cut_give old next before room count c g =
    let piece : List ℕ = take count room in
    let len : length piece ≡ count = length-take-le count room (omega (arith, g.count_is)) in
    let whole : length old.bytes ≡ length piece + length next.bytes = ap length (sym g.given) ∙ length-append piece next.bytes in
    let ready : old.ready ≡ length piece + next.ready = omega (arith, g.count_is, g.ready, len) in
    let parted : take old.ready old.bytes ≡ piece ++ take next.ready next.bytes =
    ap (λ k. take k old.bytes) ready ∙ (ap (λ l. take (length piece + next.ready) l) (sym g.given) ∙ take-append-add piece next.bytes next.ready) in
    record {
      ready = omega (arith, c.ready, whole, ready);
      fronts = subst AreFronts (ap (λ l. before ++ l) parted ∙ sym (append_assoc before piece (take next.ready next.bytes))) c.fronts;
    }

cut_from : (calls : List Call) (old now : Came) (before : List ℕ) → Cut old before → DoesAll old calls now
    → AreFronts (before ++ all_given calls ++ take now.ready now.bytes)
cut_from [] old now before c d =
    subst (λ (n : Came). AreFronts (before ++ [] ++ take n.ready n.bytes)) (sym d)
    (subst (λ l. AreFronts (l ++ take old.ready old.bytes)) (sym (append-nil before)) c.fronts)
cut_from (append piece ∷ calls) old now before c d =
    cut_from calls d.0 now before (subst (λ (n : Came). Cut n before) (sym d.1) (cut_append old before piece c)) d.2
cut_from (look ∷ calls) old now before c d =
    cut_from calls d.0 now before (subst (λ (n : Came). Cut n before) (sym d.1) (cut_look old before c)) d.2
cut_from (give room count ∷ calls) old now before c d =
    subst (λ l. AreFronts (l ++ take now.ready now.bytes)) (append_assoc before (take count room) (all_given calls))
    (cut_from calls d.0 now (before ++ take count room) (cut_give old d.0 before room count c d.1) d.2)

pub cut : (calls : List Call) (now : Came) → DoesAll nothing calls now → AreFronts (all_given calls ++ take now.ready now.bytes)
cut calls now d = cut_from calls nothing now [] (record { ready = omega arith; fronts = ([], All-nil IsFront, refl) }) d
