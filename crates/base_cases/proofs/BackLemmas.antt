-- Doors that have back what they gave.
use Rattle.std.proofs.Common.{◌≡◌, ◌+◌, ◌≤◌, [], ◌∷◌, length, length-append, Option, Some, None, IfSome, ap, arith, subst, sym}
use Rattle.td_base.specs.DoorViews.{DoorContent, DoorView}
use Rattle.td_base.specs.Doors.{AcceptTold, Accepts, FinishTold, Finishes, HasOut}
use Rattle.td_base.specs.Views.{ConnView}
use Rattle.td_base.specs.declared.door.Accepted.TheVariants as accepted
use Rattle.td_base.specs.declared.report.Report.{Report}
use Rattle.base_cases.specs.Settled.{IsDoorSettled}

module _ {C : Type 0} (seen : C → ConnView) where
  out_after : (o n : Option DoorContent) (conn : C) → IfSome o (λ c. length c.finished ≡ length c.given)
      → AcceptTold seen o n (accepted.Given conn) → IfSome n (λ c. length c.finished + 1 ≡ length c.given)
  out_after (Some a) (Some b) conn e h =
      omega (arith, e, ap length h.given, length-append a.given (h.input ∷ []), ap length h.finished)
  out_after (Some a) None conn e h = absurd h
  out_after None (Some b) conn e h = absurd h
  out_after None None conn e h = tt

  at_most : (o : Option DoorContent) → IfSome o (λ c. length c.finished + 1 ≡ length c.given)
      → IfSome o (λ c. length c.finished + 1 ≤ length c.given)
  at_most (Some a) e = omega (arith, e)
  at_most None e = tt

  back_after : (o n : Option DoorContent) (conn : ConnView) (report : Report) → IfSome o (λ c. length c.finished + 1 ≡ length c.given)
      → FinishTold o n conn report → IfSome n (λ c. length c.finished ≡ length c.given)
  back_after (Some a) (Some b) conn report e h = subst (λ (c : DoorContent). length c.finished ≡ length c.given) (sym h)
      (omega (arith, e, length-append a.finished (record { conn = conn; report = report } ∷ [])))
  back_after (Some a) None conn report e h = absurd h
  back_after None (Some b) conn report e h = absurd h
  back_after None None conn report e h = tt

  same_after : (o n : Option DoorContent) → IfSome o (λ c. length c.finished ≡ length c.given) → AcceptTold seen o n accepted.Idle
      → IfSome n (λ c. length c.finished ≡ length c.given)
  same_after (Some a) (Some b) e h = subst (λ (c : DoorContent). length c.finished ≡ length c.given) (sym h) e
  same_after (Some a) None e h = absurd h
  same_after None (Some b) e h = absurd h
  same_after None None e h = tt

  ended_after : (o n : Option DoorContent) → IfSome o (λ c. length c.finished ≡ length c.given) → AcceptTold seen o n accepted.Ended
      → IfSome n (λ c. length c.finished ≡ length c.given)
  ended_after (Some a) (Some b) e h = same_after (Some a) (Some b) e h.0
  ended_after (Some a) None e h = absurd h
  ended_after None (Some b) e h = absurd h
  ended_after None None e h = tt

  failed_after : (o n : Option DoorContent) → IfSome o (λ c. length c.finished ≡ length c.given) → AcceptTold seen o n accepted.Failed
      → IfSome n (λ c. length c.finished ≡ length c.given)
  failed_after (Some a) (Some b) e h = same_after (Some a) (Some b) e h
  failed_after (Some a) None e h = absurd h
  failed_after None (Some b) e h = absurd h
  failed_after None None e h = tt

  -- a connection that was given can be handed back
  pub is_out : (a b : DoorView) (conn : C) → IsDoorSettled a → Accepts seen a b (accepted.Given conn) → HasOut b
  is_out a b conn e h = at_most b.content (out_after a.content b.content conn e h.told)

  -- and where it was, all are back
  pub is_back : (a b c : DoorView) (conn : C) (now : ConnView) (report : Report) → IsDoorSettled a
      → Accepts seen a b (accepted.Given conn) → Finishes b c now report → IsDoorSettled c
  is_back a b c conn now report e h f =
      back_after b.content c.content now report (out_after a.content b.content conn e h.told) f.told

  pub is_idle : (a b : DoorView) → IsDoorSettled a → Accepts seen a b accepted.Idle → IsDoorSettled b
  is_idle a b e h = same_after a.content b.content e h.told

  pub is_ended : (a b : DoorView) → IsDoorSettled a → Accepts seen a b accepted.Ended → IsDoorSettled b
  is_ended a b e h = ended_after a.content b.content e h.told

  pub is_failed : (a b : DoorView) → IsDoorSettled a → Accepts seen a b accepted.Failed → IsDoorSettled b
  is_failed a b e h = failed_after a.content b.content e h.told
