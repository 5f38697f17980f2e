-- The answers that a world brings to its mirror.
use Rattle.std.proofs.Common.{◌≡◌, ℕ, ◌≤◌, Some, List, [], ◌∷◌, ◌++◌, length, take, refl, sym, ap, ◌∙◌, subst, arith, length-append}
use Rattle.std.proofs.lemmas.List.{take-append-le}
use Rattle.td_base.specs.declared.report.Ask.{Ask}
use Rattle.td_base.specs.declared.upstream.Exchange.{Exchange}
use Rattle.catalogue.specs.Releases.{ReleaseData}
use Rattle.sync_core.specs.Mirrors.{MirrorState, ask_of}
use Rattle.sync_core.specs.Steps.{sync_step}
use Rattle.sync_core.specs.declared.heard_type.Heard.{Heard}
use Rattle.sync_core.specs.declared.heard_type.Heard.TheVariants as heard
use Rattle.mirror.specs.declared.understood_type.Understood.{Understood}
use Rattle.mirror.specs.declared.understood_type.Understood.TheVariants as understood
use Rattle.sync_world.specs.Holding.{HoldsLast, SaysHolds}
use Rattle.sync_world.specs.Primaries.{Service}
use Rattle.sync_world.specs.Worlds as world
use Rattle.sync_world.specs.Worlds.{IsAnswer, Leads, Sent, SyncWorld, WorldStep, world_begun}
use Rattle.mirror_world.specs.Follows.{FollowsFrom, HearsAt}
use Rattle.mirror_world.specs.Logs.{Brings, Logs, Reaches, RefusesToken}
use Rattle.mirror_world.proofs.lemmas.Worlds.{IsLonger, SentStands, Stands, answer_of, begins, grows, leads_on, rests, step_led, stood}

no_hold : (s : MirrorState) → SaysHolds s heard.BadToken → ⊥
no_hold s says = absurd (cc)

module _ (sound : ReleaseData → Type 0) (over : List ReleaseData → Ask → Exchange → Type 0) (means : Ask → List ℕ → Understood → Type 0)
    (hears : List ReleaseData → Ask → Heard → Type 0) (P : Service)
    (heard_so : (G : List ReleaseData) (a : Ask) (x : Exchange) (h : Heard) → over G a x → means a x.answer (understood.Hears h) → hears G a h)
    (H : List ReleaseData)
    (law : (steps : List WorldStep) (w u : SyncWorld) (n : ℕ) (sent : Sent) (h : Heard) → Leads sound hears (world_begun H) steps w
    → IsAnswer hears w n u sent h → SaysHolds w.mirror h → HoldsLast P u.mirror (take n w.history)) where
  -- a world from which a later one comes
  module _ (made : List WorldStep) (w u : SyncWorld) (least : ℕ) (G : List ReleaseData) (leads : Leads sound hears (world_begun H) made w)
      (k : Stands least w) (longer : IsLonger w.history G) where
    front : (n : ℕ) → n ≤ length w.history → take n w.history ≡ take n G
    front n upto = sym (ap (take n) longer.is ∙ take-append-le n w.history longer.more upto)

    within : (n : ℕ) → n ≤ length w.history → n ≤ length G
    within n upto = omega (arith, ap length longer.is ∙ length-append w.history longer.more, upto)

    asked : (sent : Sent) → w.sent ≡ Some sent → (sent.ask ≡ ask_of w.mirror) × (least ≤ sent.since)
    asked sent out = subst (SentStands least w.mirror) out k.sent

    answered : (n : ℕ) (x : Exchange) (r : Reaches sound over means w n x u) → HearsAt over means P G n w.mirror x r.heard
    answered n x r =
        let state : u.mirror ≡ sync_step w.mirror r.heard = ap (λ z. z.mirror) r.is_taken in record {
          is_meant = subst (λ a. means a x.answer (understood.Hears r.heard)) (asked r.sent r.answered.outstanding).0 r.is_meant;
          is_over = λ says.
              subst (λ F. over F (ask_of w.mirror) x) (front n r.answered.upto)
              (subst (λ a. over (take n w.history) a x) (asked r.sent r.answered.outstanding).0 r.answered.is_over);
          holds = λ says.
              subst (HoldsLast P (sync_step w.mirror r.heard)) (front n r.answered.upto)
              (subst (λ m. HoldsLast P m (take n w.history)) state
              (law made w u n r.sent r.heard leads (answer_of sound over means hears heard_so w n x u r) says));
        }

    from_least : (n : ℕ) (x : Exchange) (r : Reaches sound over means w n x u) → least ≤ n
    from_least n x r =
        let since : least ≤ r.sent.since = (asked r.sent r.answered.outstanding).1 in
        let from : r.sent.since ≤ n = r.answered.from in
        omega (arith, since, from)

    refused : (n : ℕ) (x : Exchange) (r : RefusesToken sound over means w x u) → HearsAt over means P G n w.mirror x heard.BadToken
    refused n x r = record {
      is_meant = subst (λ a. means a x.answer (understood.Hears heard.BadToken)) (asked _ r.is_refused.outstanding).0 r.is_meant;
      is_over = λ says. absurd (no_hold w.mirror says);
      holds = λ says. absurd (no_hold w.mirror says);
    }

  -- a step that brings nothing
  quiet : (least : ℕ) (G : List ReleaseData) (w u : SyncWorld) (now later xs : List Exchange) (t : MirrorState) → now ≡ [] → xs ≡ now ++ later
      → u.mirror ≡ w.mirror → FollowsFrom over means P G least u.mirror later t → FollowsFrom over means P G least w.mirror xs t
  quiet least G w u now later xs t none parts same rest =
      subst (λ l. FollowsFrom over means P G least w.mirror l t) (sym (parts ∙ ap (λ l. l ++ later) none))
      (subst (λ m. FollowsFrom over means P G least m later t) same rest)

  -- a step that brings an exchange
  brought : (least n : ℕ) (G : List ReleaseData) (w u : SyncWorld) (now later xs : List Exchange) (t : MirrorState) (x : Exchange) (h : Heard)
      → now ≡ x ∷ [] → xs ≡ now ++ later → least ≤ n → n ≤ length G → HearsAt over means P G n w.mirror x h → u.mirror ≡ sync_step w.mirror h
      → FollowsFrom over means P G n u.mirror later t → FollowsFrom over means P G least w.mirror xs t
  brought least n G w u now later xs t x h one parts from upto hears_at state rest =
      subst (λ l. FollowsFrom over means P G least w.mirror l t) (sym (parts ∙ ap (λ l. l ++ later) one))
      (n, h, from, upto, hears_at, subst (λ m. FollowsFrom over means P G n m later t) state rest)

  led_on : (made : List WorldStep) (w : SyncWorld) (step : WorldStep) (now : List Exchange) (u : SyncWorld) → Leads sound hears (world_begun H) made w
      → Brings sound over means w step now u → Leads sound hears (world_begun H) (made ++ step ∷ []) u
  led_on made w step now u leads brings =
      leads_on sound hears (world_begun H) made w step u leads (step_led sound over means hears heard_so w step now u brings)

  stands_on : (least : ℕ) (w : SyncWorld) (step : WorldStep) (now : List Exchange) (u : SyncWorld) → Stands least w → Brings sound over means w step now u
      → Stands least u
  stands_on least w step now u k brings = stood sound hears least w step u (step_led sound over means hears heard_so w step now u brings) k

  -- the history at the end begins with the one before a step
  longer_on : (w : SyncWorld) (step : WorldStep) (steps : List WorldStep) (now later : List Exchange) (u v : SyncWorld) → Brings sound over means w step now u
      → Logs sound over means u steps later v → IsLonger w.history v.history
  longer_on w step steps now later u v brings logs = grows sound over means w (step ∷ steps) (now ++ later) v (u, now, later, refl, brings, logs)

  follow : (steps made : List WorldStep) (w : SyncWorld) (xs : List Exchange) (v : SyncWorld) (least : ℕ) → Leads sound hears (world_begun H) made w
      → Stands least w → Logs sound over means w steps xs v → FollowsFrom over means P v.history least w.mirror xs v.mirror
  follow [] made w xs v least leads k is =
      subst (λ l. FollowsFrom over means P v.history least w.mirror l v.mirror) (sym is.0) (ap (λ z. z.mirror) is.1)
  follow (world.install r ∷ steps) made w xs v least leads k is =
      quiet least v.history w is.0 is.1 is.2 xs v.mirror (is.4).0 is.3 (ap (λ z. z.mirror) (((is.4).1).1))
      (follow steps (made ++ world.install r ∷ []) is.0 is.2 v least (led_on made w (world.install r) is.1 is.0 leads is.4)
      (stands_on least w (world.install r) is.1 is.0 k is.4) is.5)
  follow (world.asks ∷ steps) made w xs v least leads k is =
      quiet least v.history w is.0 is.1 is.2 xs v.mirror (is.4).0 is.3 (ap (λ z. z.mirror) (is.4).1)
      (follow steps (made ++ world.asks ∷ []) is.0 is.2 v least (led_on made w world.asks is.1 is.0 leads is.4)
      (stands_on least w world.asks is.1 is.0 k is.4) is.5)
  follow (world.answer n ∷ steps) made w xs v least leads k is =
      let x = (is.4).0 in
      let r = (is.4).2 in
      let longer = longer_on w (world.answer n) steps is.1 is.2 is.0 v is.4 is.5 in
      let state : (is.0).mirror ≡ sync_step w.mirror r.heard = ap (λ z. z.mirror) r.is_taken in
      brought least n v.history w is.0 is.1 is.2 xs v.mirror x r.heard (is.4).1 is.3 (from_least made w is.0 least v.history leads k longer n x r)
      (within made w is.0 least v.history leads k longer n r.answered.upto) (answered made w is.0 least v.history leads k longer n x r) state
      (follow steps (made ++ world.answer n ∷ []) is.0 is.2 v n (led_on made w (world.answer n) is.1 is.0 leads is.4)
      (rests n is.0 w.history _ r.is_taken r.answered.upto) is.5)
  follow (world.refuse_token ∷ steps) made w xs v least leads k is =
      let x = (is.4).0 in
      let r = (is.4).2 in
      let longer = longer_on w world.refuse_token steps is.1 is.2 is.0 v is.4 is.5 in
      let state : (is.0).mirror ≡ sync_step w.mirror heard.BadToken = ap (λ z. z.mirror) r.is_refused.is_taken in
      brought least least v.history w is.0 is.1 is.2 xs v.mirror x heard.BadToken (is.4).1 is.3 (omega arith)
      (within made w is.0 least v.history leads k longer least k.long) (refused made w is.0 least v.history leads k longer least x r) state
      (follow steps (made ++ world.refuse_token ∷ []) is.0 is.2 v least (led_on made w world.refuse_token is.1 is.0 leads is.4)
      (stands_on least w world.refuse_token is.1 is.0 k is.4) is.5)
  follow (world.lose ∷ steps) made w xs v least leads k is =
      quiet least v.history w is.0 is.1 is.2 xs v.mirror (is.4).0 is.3 (ap (λ z. z.mirror) (is.4).1)
      (follow steps (made ++ world.lose ∷ []) is.0 is.2 v least (led_on made w world.lose is.1 is.0 leads is.4)
      (stands_on least w world.lose is.1 is.0 k is.4) is.5)
  follow (world.restart ∷ steps) made w xs v least leads k is =
      quiet least v.history w is.0 is.1 is.2 xs v.mirror (is.4).0 is.3 (ap (λ z. z.mirror) (is.4).1)
      (follow steps (made ++ world.restart ∷ []) is.0 is.2 v least (led_on made w world.restart is.1 is.0 leads is.4)
      (stands_on least w world.restart is.1 is.0 k is.4) is.5)
  follow (world.restart_empty ∷ steps) made w xs v least leads k is = absurd is.4

  pub followed : (steps : List WorldStep) (xs : List Exchange) (v : SyncWorld) → Logs sound over means (world_begun H) steps xs v
      → FollowsFrom over means P v.history (length H) (world_begun H).mirror xs v.mirror
  followed steps xs v is = follow steps [] (world_begun H) xs v (length H) refl (begins H) is
