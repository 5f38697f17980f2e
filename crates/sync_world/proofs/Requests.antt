-- Each request for what is outstanding is answered.
use Rattle.std.proofs.Common.{◌≡◌, ℕ, ◌≤◌, ◌↔◌, Option, None, Some, List, length, take, refl, subst, sym, ap, ◌∙◌, arith, length-take}
use Rattle.std.specs.Option.{IsSomeAnd}
use Rattle.td_base.specs.declared.report.Ask.{Ask}
use Rattle.td_base.specs.declared.report.Role.TheVariants.{Primary}
use Rattle.catalogue.specs.Histories.{IsHistory}
use Rattle.catalogue.specs.Releases.{ReleaseData}
use Rattle.http_request.specs.declared.head.Head.{Head}
use Rattle.negotiate.specs.declared.choosing.Format.{Format}
use Rattle.zone_meaning.specs.Sound.{IsSound}
use Rattle.actions.specs.Action.{action}
use Rattle.sync_core.specs.declared.heard_type.Heard.{Heard}
use Rattle.sync_core.specs.declared.heard_type.Heard.TheVariants as heard
use Rattle.sync_world.specs.Hearing.{IsDataHeadOf, IsDataHeardOver, IsHeardIn, data_service}
use Rattle.sync_world.specs.Primaries.{AsksSinceKept, changes_at, told_by}
use Rattle.sync_world.specs.Worlds.{Leads, Sent, WorldStep, SyncWorld, world_begun}
use Rattle.sync_world.proofs.Answered.{answered}
use Rattle.sync_world.proofs.Answering.{told_is_heard}
use Rattle.sync_world.proofs.Files.{history_front}
use Rattle.sync_world.proofs.Looks.{looked_up}
use Rattle.sync_world.proofs.Runs.{SentStands, always}
use Rattle.sync_world.proofs.Telling.{tells_so}
use Rattle.sync_world.proofs.Tokens.{finds, finds_no_other}

pub heard_exactly : (f : Format) (H : List ReleaseData) (a : Ask) (head : Head) (h : Heard) → IsHistory IsSound H → 1 ≤ length H → IsDataHeadOf f a head
    → (told_by (data_service f) H a ≡ Some h) ↔ IsHeardIn a (action H Primary head) h
heard_exactly f H a head h history some k =
    (told_is_heard f H a head h history some k, λ hears. tells_so f H a h history some (record { head = head; asks_so = k; hears = hears }))

some_of : {X : Type 0} (Q : X → Type 0) (o : Option X) → IsSomeAnd o Q → (x : X) × (o ≡ Some x) × Q x
some_of Q None k = absurd k
some_of Q (Some x) k = (x, refl, k)

module _ (f : Format) where
  -- over the first places, the token of one of the last of them is not refused
  not_refused : (H : List ReleaseData) (n : ℕ) (a : Ask) (h : Heard) → IsHistory IsSound H → n ≤ length H → told_by (data_service f) (take n H) a ≡ Some h
      → AsksSinceKept (data_service f) H n a → h ≡ heard.BadToken → ⊥
  not_refused H n a h history upto told k bad =
      let m = k.0 in
      let within : m ≤ n = k.2 in
      let found = finds H m n history (k.1, omega (arith, within, upto)) within upto k.3 in
      let list : Some (changes_at (take n H) (Some m)) ≡ Some heard.BadToken =
      sym (ap (told_by (data_service f) (take n H)) k.4 ∙ ap (λ o. Some (changes_at (take n H) o)) found) ∙ told ∙ ap Some bad in
      absurd (cc)

  pub requested : (H : List ReleaseData) (xs : List WorldStep) (w : SyncWorld) (sent : Sent) (n : ℕ) (head : Head) → IsHistory IsSound H → 1 ≤ length H
      → Leads IsSound (IsDataHeardOver f) (world_begun H) xs w
      → w.sent ≡ Some sent → sent.since ≤ n → n ≤ length w.history → IsDataHeadOf f sent.ask head
      → (h : Heard) × IsHeardIn sent.ask (action (take n w.history) Primary head) h
      × (AsksSinceKept (data_service f) w.history n sent.ask → h ≡ heard.BadToken → ⊥)
  requested H xs w sent n head h some leads out from upto k =
      let P = data_service f in
      let i = always P IsSound (IsDataHeardOver f) (tells_so f) finds finds_no_other H xs w h some leads in
      let stands = subst (SentStands P w.history (looked_up w.mirror)) out i.state in
      let low : 1 ≤ sent.since = stands.1 in
      let answer = some_of _ (told_by P (take n w.history) sent.ask)
      (answered P IsSound (IsDataHeardOver f) (tells_so f) finds finds_no_other H xs w sent n h some leads out from upto) in (
        answer.0,
        told_is_heard f (take n w.history) sent.ask head answer.0 (history_front IsSound w.history n i.history) (omega (arith, length-take n w.history)) k
            answer.1,
        not_refused w.history n sent.ask answer.0 i.history upto answer.1,
      )
