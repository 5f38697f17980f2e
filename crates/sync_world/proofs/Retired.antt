-- The token of an outstanding ask is that of a place, and only a retired one is refused.
use Rattle.std.proofs.Common.{◌≡◌, ℕ, ◌≤◌, None, Some, List, [], ◌∷◌, length, take, refl, sym, ap, ◌∙◌, subst, arith}
use Rattle.td_base.specs.declared.report.Ask.{Ask}
use Rattle.td_base.specs.declared.report.Ask.TheVariants as ask
use Rattle.catalogue.specs.Histories.{IsHistory, token_of}
use Rattle.catalogue.specs.Releases.{ReleaseData}
use Rattle.sync_core.specs.Mirrors.{ask_for}
use Rattle.sync_core.specs.declared.heard_type.Heard.{Heard}
use Rattle.sync_core.specs.declared.heard_type.Heard.TheVariants as heard
use Rattle.sync_world.specs.Primaries.{FindsNoOther, FindsPlaces, HeardIsTold, IsTokenOf, Service, changes_at}
use Rattle.sync_world.specs.Worlds.{Leads, WorldStep, SyncWorld, world_begun}
use Rattle.sync_world.proofs.Looks.{StateData, looked_up, state_ask}
use Rattle.sync_world.proofs.Runs.{SentStands, always}
use Rattle.sync_world.proofs.Standing.{Invariant, TokensStand, fresh, stands}

module _ (P : Service) (sound : ReleaseData → Type 0) (finds : FindsPlaces sound P) (H : List ReleaseData) (h : IsHistory sound H) (s : StateData) (since : ℕ)
    (token : List ℕ) (asked : ask.List (Some token) ≡ state_ask s) where
  of_place : Invariant P H since s → IsTokenOf P H since token
  of_place (fresh f) =
      let other : ask.List (Some token) ≡ ask.List None = asked ∙ ap (λ p. ask_for p s.token) f.pending ∙ ap ask.List f.token in
      absurd (cc)
  of_place (stands m k) = by s.pending refl
    where
      by : (p : List (List ℕ)) → s.pending ≡ p → IsTokenOf P H since token
      by (t ∷ ts) e =
          let other : ask.List (Some token) ≡ ask.Get t = asked ∙ ap (λ p. ask_for p s.token) e in
          absurd (cc)
      by [] none =
          let tokens : TokensStand H m [] s.token s.coming = subst (λ p. TokensStand H m p s.token s.coming) none k.tokens in
          let listed : ask.List (Some token) ≡ ask.List (Some (token_of H m)) = asked ∙ ap (λ p. ask_for p s.token) none ∙ ap ask.List tokens.0 in
          let same : token ≡ token_of H m = cc in
          let within : m ≤ since = k.within in
          let high : since ≤ length H = k.high in
          record {
            place = m;
            is_place = (k.low, omega arith);
            by_then = k.within;
            is = same;
            known = λ n from upto late refused.
                let found = ap (P.place (take n H)) same ∙ finds H m n h (k.low, omega arith) (omega arith) upto late in
                let list : Some (changes_at (take n H) (Some m)) ≡ Some heard.BadToken = sym (ap (λ o. Some (changes_at (take n H) o)) found) ∙ refused in
                absurd (cc);
          }

module _ (P : Service) (sound : ReleaseData → Type 0) (hears : List ReleaseData → Ask → Heard → Type 0) (so : HeardIsTold sound hears P)
    (finds : FindsPlaces sound P)
    (no_other : FindsNoOther sound P) where
  pub token_is_of : (H : List ReleaseData) (xs : List WorldStep) (w : SyncWorld) (since : ℕ) (token : List ℕ) → IsHistory sound H → 1 ≤ length H
      → Leads sound hears (world_begun H) xs w
      → w.sent ≡ Some (record { ask = ask.List (Some token); since = since }) → IsTokenOf P w.history since token
  token_is_of H xs w since token h some leads out =
      let i = always P sound hears so finds no_other H xs w h some leads in
      let k = subst (SentStands P w.history (looked_up w.mirror)) out i.state in
      of_place P sound finds w.history i.history (looked_up w.mirror) since token k.0 k.3
