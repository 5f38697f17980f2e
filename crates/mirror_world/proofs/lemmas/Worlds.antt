-- What holds of a world wherever steps lead: what is outstanding is what the mirror asks.
use Rattle.std.proofs.Common.{◌≡◌, ℕ, ◌≤◌, Option, None, Some, List, [], ◌∷◌, ◌++◌, length, refl, sym, ap, ◌∙◌, subst, arith, append_assoc, append-nil}
use Rattle.std.proofs.Common.{length-append}
use Rattle.std.specs.Prelude.{⊤}
use Rattle.td_base.specs.declared.report.Ask.{Ask}
use Rattle.td_base.specs.declared.upstream.Exchange.{Exchange}
use Rattle.catalogue.specs.Releases.{ReleaseData}
use Rattle.sync_core.specs.Mirrors.{MirrorState, ask_of, empty_mirror}
use Rattle.sync_core.specs.declared.heard_type.Heard.{Heard}
use Rattle.mirror.specs.declared.understood_type.Understood.{Understood}
use Rattle.mirror.specs.declared.understood_type.Understood.TheVariants as understood
use Rattle.sync_world.specs.Worlds as world
use Rattle.sync_world.specs.Worlds.{IsAnswer, Leads, LeadsTo, Sent, SyncWorld, WorldStep, sent_then, world_begun}
use Rattle.mirror_world.specs.Logs.{Brings, Logs, Reaches}

-- what is outstanding is what the mirror asks, and was first sent when the history had so many
-- releases
abbrev pub SentStands : ℕ → MirrorState → Option Sent → Type 0
SentStands least mirror None = ⊤
SentStands least mirror (Some sent) = (sent.ask ≡ ask_of mirror) × (least ≤ sent.since)

pub record Stands (least : ℕ) (w : SyncWorld) : Type 0 where
  pub long : least ≤ length w.history
  pub sent : SentStands least w.mirror w.sent

pub begins : (H : List ReleaseData) → Stands (length H) (world_begun H)
begins H = record { long = omega arith; sent = tt }

asked : (least : ℕ) (mirror : MirrorState) (sent : Option Sent) (n : ℕ) → least ≤ n → SentStands least mirror sent
    → SentStands least mirror (Some (sent_then sent mirror n))
asked least mirror None n le k = (refl, le)
asked least mirror (Some sent) n le k = k

-- nothing is outstanding, and the history is as it was
pub rests : (least : ℕ) (w : SyncWorld) (H : List ReleaseData) (mirror : MirrorState) → w ≡ record { history = H; mirror = mirror; sent = None }
    → least ≤ length H → Stands least w
rests least w H mirror is long = subst (Stands least) (sym is) (record { long = long; sent = tt })

module _ (sound : ReleaseData → Type 0) (hears : List ReleaseData → Ask → Heard → Type 0) (least : ℕ) where
  pub stood : (w : SyncWorld) (step : WorldStep) (u : SyncWorld) → LeadsTo sound hears w step u → Stands least w → Stands least u
  stood w (world.install r) u is k =
      let long : least ≤ length w.history = k.long in
      subst (Stands least) (sym is.1) (record { long = omega (arith, length-append w.history (r ∷ []), long); sent = k.sent })
  stood w world.asks u is k =
      subst (Stands least) (sym is) (record { long = k.long; sent = asked least w.mirror w.sent (length w.history) k.long k.sent })
  stood w (world.answer n) u is k = rests least u w.history _ (is.2).is_taken k.long
  stood w world.refuse_token u is k = rests least u w.history _ (is.2).is_taken k.long
  stood w world.lose u is k = subst (Stands least) (sym is) k
  stood w world.restart u is k = rests least u w.history w.mirror is k.long
  stood w world.restart_empty u is k = rests least u w.history empty_mirror is k.long

  pub stood_on : (w : SyncWorld) (steps : List WorldStep) (v : SyncWorld) → Leads sound hears w steps v → Stands least w → Stands least v
  stood_on w [] v is k = subst (Stands least) (sym is) k
  stood_on w (step ∷ steps) v is k = stood_on is.0 steps v is.2 (stood w step is.0 is.1 k)

-- one step more
pub leads_on : (sound : ReleaseData → Type 0) (hears : List ReleaseData → Ask → Heard → Type 0) (w : SyncWorld) (made : List WorldStep) (u : SyncWorld)
    (step : WorldStep) (v : SyncWorld) → Leads sound hears w made u → LeadsTo sound hears u step v → Leads sound hears w (made ++ step ∷ []) v
leads_on sound hears w [] u step v is last = (v, subst (λ z. LeadsTo sound hears z step v) is last, refl)
leads_on sound hears w (first ∷ made) u step v is last = (is.0, is.1, leads_on sound hears is.0 made u step v is.2 last)

-- ---- a longer history

pub record IsLonger (H G : List ReleaseData) : Type 0 where
  pub more : List ReleaseData
  pub is : G ≡ H ++ more

pub same_history : (H G : List ReleaseData) → G ≡ H → IsLonger H G
same_history H G is = record { more = []; is = is ∙ sym (append-nil H) }

pub longer_still : (F G H : List ReleaseData) → IsLonger F G → IsLonger G H → IsLonger F H
longer_still F G H a b = record { more = a.more ++ b.more; is = b.is ∙ ap (λ l. l ++ b.more) a.is ∙ append_assoc F a.more b.more }

module _ (sound : ReleaseData → Type 0) (over : List ReleaseData → Ask → Exchange → Type 0) (means : Ask → List ℕ → Understood → Type 0) where
  step_grows : (w : SyncWorld) (step : WorldStep) (xs : List Exchange) (u : SyncWorld) → Brings sound over means w step xs u → IsLonger w.history u.history
  step_grows w (world.install r) xs u is = record { more = r ∷ []; is = ap (λ z. z.history) (is.1).1 }
  step_grows w world.asks xs u is = same_history w.history u.history (ap (λ z. z.history) is.1)
  step_grows w (world.answer n) xs u is = same_history w.history u.history (ap (λ z. z.history) (is.2).is_taken)
  step_grows w world.refuse_token xs u is = same_history w.history u.history (ap (λ z. z.history) (is.2).is_refused.is_taken)
  step_grows w world.lose xs u is = same_history w.history u.history (ap (λ z. z.history) is.1)
  step_grows w world.restart xs u is = same_history w.history u.history (ap (λ z. z.history) is.1)
  step_grows w world.restart_empty xs u is = absurd is

  pub grows : (w : SyncWorld) (steps : List WorldStep) (xs : List Exchange) (v : SyncWorld) → Logs sound over means w steps xs v → IsLonger w.history v.history
  grows w [] xs v is = same_history w.history v.history (ap (λ z. z.history) is.1)
  grows w (step ∷ steps) xs v is =
      longer_still w.history (is.0).history v.history (step_grows w step is.1 is.0 is.4) (grows is.0 steps is.2 v is.5)

  -- ---- the steps that bring exchanges lead on, whatever is heard in these

  module _ (hears : List ReleaseData → Ask → Heard → Type 0)
      (heard_so : (G : List ReleaseData) (a : Ask) (x : Exchange) (h : Heard) → over G a x → means a x.answer (understood.Hears h) → hears G a h) where
    pub answer_of : (w : SyncWorld) (n : ℕ) (x : Exchange) (u : SyncWorld) (r : Reaches sound over means w n x u) → IsAnswer hears w n u r.sent r.heard
    answer_of w n x u r = record {
      outstanding = r.answered.outstanding;
      from = r.answered.from;
      upto = r.answered.upto;
      is_heard = heard_so _ r.sent.ask x r.heard r.answered.is_over r.is_meant;
      is_taken = r.is_taken;
    }

    pub step_led : (w : SyncWorld) (step : WorldStep) (xs : List Exchange) (u : SyncWorld) → Brings sound over means w step xs u
        → LeadsTo sound hears w step u
    step_led w (world.install r) xs u is = is.1
    step_led w world.asks xs u is = is.1
    step_led w (world.answer n) xs u is = ((is.2).sent, (is.2).heard, answer_of w n is.0 u is.2)
    step_led w world.refuse_token xs u is = ((is.2).since, (is.2).token, (is.2).is_refused)
    step_led w world.lose xs u is = is.1
    step_led w world.restart xs u is = is.1
    step_led w world.restart_empty xs u is = absurd is

    pub led : (w : SyncWorld) (steps : List WorldStep) (xs : List Exchange) (v : SyncWorld) → Logs sound over means w steps xs v → Leads sound hears w steps v
    led w [] xs v is = is.1
    led w (step ∷ steps) xs v is = (is.0, step_led w step is.1 is.0 is.4, led is.0 steps is.2 v is.5)
