-- What is heard in a world is heard over the first releases of a history.
use Rattle.std.proofs.Common.{◌≤◌, ℕ, List, length, take, subst, arith, length-take}
use Rattle.td_base.specs.declared.report.Ask.{Ask}
use Rattle.catalogue.specs.Histories.{IsHistory}
use Rattle.catalogue.specs.Releases.{ReleaseData}
use Rattle.zone_meaning.specs.Sound.{IsSound}
use Rattle.sync_core.specs.declared.heard_type.Heard.{Heard}
use Rattle.sync_world.specs.Worlds.{IsAnswer, Leads, Sent, SyncWorld, WorldStep, world_begun}
use Rattle.mirror_world.proofs.lemmas.Histories.{front_history, stays_history}
use Rattle.mirror_world.proofs.lemmas.Worlds.{SentStands, begins, stood_on}

pub record IsOverHistory (G : List ReleaseData) : Type 0 where
  pub history : IsHistory IsSound G
  pub some : 1 ≤ length G

module _ (hears : List ReleaseData → Ask → Heard → Type 0) (H : List ReleaseData) (steps : List WorldStep) (w : SyncWorld) (history : IsHistory IsSound H)
    (some : 1 ≤ length H) (leads : Leads IsSound hears (world_begun H) steps w) where
  pub over_first : (n : ℕ) → 1 ≤ n → n ≤ length w.history → IsOverHistory (take n w.history)
  over_first n low upto = record {
    history = front_history w.history n (stays_history hears (world_begun H) steps w leads history);
    some = omega (arith, low, upto, length-take n w.history);
  }

  pub answered_over : (v : SyncWorld) (n : ℕ) (sent : Sent) (h : Heard) → IsAnswer hears w n v sent h → IsOverHistory (take n w.history)
  answered_over v n sent h is =
      let stands = stood_on IsSound hears (length H) (world_begun H) steps w leads (begins H) in
      let least = (subst (SentStands (length H) w.mirror) is.outstanding stands.sent).1 in
      let from : sent.since ≤ n = is.from in
      over_first n (omega (arith, some, least, from)) is.upto
