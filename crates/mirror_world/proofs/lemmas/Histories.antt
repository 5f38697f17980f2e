-- The history of a world stays one, wherever steps lead.
use Rattle.std.proofs.Common.{ℕ, List, [], ◌∷◌, ◌++◌, take, drop, sym, ap, ◌∙◌, subst, append_assoc, take-append-drop}
use Rattle.td_base.specs.declared.report.Ask.{Ask}
use Rattle.catalogue.specs.Histories.{IsHistory}
use Rattle.catalogue.specs.Releases.{ReleaseData}
use Rattle.catalogue.proofs.lemmas.Growing.{history_grown}
use Rattle.zone_meaning.specs.Sound.{IsSound}
use Rattle.sync_core.specs.declared.heard_type.Heard.{Heard}
use Rattle.sync_world.specs.Worlds as world
use Rattle.sync_world.specs.Worlds.{Leads, LeadsTo, SyncWorld, WorldStep}

module _ (hears : List ReleaseData → Ask → Heard → Type 0) where
  step_history : (w : SyncWorld) (step : WorldStep) (u : SyncWorld) → LeadsTo IsSound hears w step u → IsHistory IsSound w.history → IsHistory IsSound u.history
  step_history w (world.install r) u is h = subst (λ (z : SyncWorld). IsHistory IsSound z.history) (sym is.1) (history_grown IsSound w.history r h is.0)
  step_history w world.asks u is h = subst (λ (z : SyncWorld). IsHistory IsSound z.history) (sym is) h
  step_history w (world.answer n) u is h = subst (λ (z : SyncWorld). IsHistory IsSound z.history) (sym (is.2).is_taken) h
  step_history w world.refuse_token u is h = subst (λ (z : SyncWorld). IsHistory IsSound z.history) (sym (is.2).is_taken) h
  step_history w world.lose u is h = subst (λ (z : SyncWorld). IsHistory IsSound z.history) (sym is) h
  step_history w world.restart u is h = subst (λ (z : SyncWorld). IsHistory IsSound z.history) (sym is) h
  step_history w world.restart_empty u is h = subst (λ (z : SyncWorld). IsHistory IsSound z.history) (sym is) h

  pub stays_history : (w : SyncWorld) (steps : List WorldStep) (v : SyncWorld) → Leads IsSound hears w steps v → IsHistory IsSound w.history
      → IsHistory IsSound v.history
  stays_history w [] v is h = subst (λ (z : SyncWorld). IsHistory IsSound z.history) (sym is) h
  stays_history w (step ∷ steps) v is h = stays_history is.0 steps v is.2 (step_history w step is.0 is.1 h)

-- so do its first releases
pub front_history : (H : List ReleaseData) (n : ℕ) → IsHistory IsSound H → IsHistory IsSound (take n H)
front_history H n h before r after e =
    h before r (after ++ drop n H) (sym (take-append-drop n H) ∙ ap (λ G. G ++ drop n H) e ∙ append_assoc before (r ∷ after) (drop n H))
