-- An ask that is outstanding has an answer at each later place.
use Rattle.std.proofs.Common.{◌≡◌, ℕ, ◌≤◌, Some, List, length, take, sym, ap, ◌∙◌, subst, arith}
use Rattle.std.specs.Option.{IsSomeAnd}
use Rattle.td_base.specs.declared.report.Ask.{Ask}
use Rattle.catalogue.specs.Histories.{IsHistory}
use Rattle.catalogue.specs.Releases.{ReleaseData}
use Rattle.sync_core.specs.declared.heard_type.Heard.{Heard}
use Rattle.sync_core.specs.declared.heard_type.Heard.TheVariants as heard
use Rattle.sync_world.specs.Primaries.{HeardIsTold, FindsNoOther, FindsPlaces, Service, told_by}
use Rattle.sync_world.specs.Worlds.{Leads, Sent, WorldStep, SyncWorld, world_begun}
use Rattle.sync_world.proofs.Looks.{looked_up}
use Rattle.sync_world.proofs.Runs.{SentStands, always}
use Rattle.sync_world.proofs.Steps.{good}

module _ (P : Service) (sound : ReleaseData → Type 0) (hears : List ReleaseData → Ask → Heard → Type 0) (so : HeardIsTold sound hears P)
    (finds : FindsPlaces sound P) (no_other : FindsNoOther sound P) where
  pub answered : (H : List ReleaseData) (xs : List WorldStep) (w : SyncWorld) (sent : Sent) (n : ℕ) → IsHistory sound H → 1 ≤ length H
      → Leads sound hears (world_begun H) xs w
      → w.sent ≡ Some sent → sent.since ≤ n → n ≤ length w.history
      → IsSomeAnd (told_by P (take n w.history) sent.ask) (λ h. length w.history ≤ P.kept → h ≡ heard.BadToken → ⊥)
  answered H xs w sent n h some leads out from upto =
      let i = always P sound hears so finds no_other H xs w h some leads in
      let k = subst (SentStands P w.history (looked_up w.mirror)) out i.state in
      let low : 1 ≤ sent.since = k.1 in
      let g = good P sound finds no_other w.history sent.since n i.history (omega arith, upto) from (looked_up w.mirror) k.3 in
      let is : told_by P (take n w.history) sent.ask ≡ Some g.said = ap (told_by P (take n w.history)) k.0 ∙ g.is in
      subst (λ o. IsSomeAnd o (λ h. length w.history ≤ P.kept → h ≡ heard.BadToken → ⊥)) (sym is) g.known_token
