-- The syncs before one of several, and that one.
use Rattle.std.proofs.Common.{ℕ, List, [], ◌∷◌, ◌++◌, refl, subst, sym}
use Rattle.td_base.specs.declared.report.Ask.{Ask}
use Rattle.mirror.specs.Shares.{SyncEnds}
use Rattle.mirror.specs.declared.understood_type.Understood.{Understood}
use Rattle.mirror_world.specs.Runs.{Share, SyncsInTurn}
use Rattle.sync_core.specs.Mirrors.{MirrorState}

module _ (written : Ask → List ℕ) (means : Ask → List ℕ → Understood → Type 0) where
  -- the state at which one of several syncs begins
  pub record ComesTo (s : MirrorState) (before : List Share) (share : Share) : Type 0 where
    pub state : MirrorState
    pub syncs : SyncsInTurn written means s before state
    pub ends : SyncEnds written means state share.after share.taken share.untaken share.result

  pub comes_to : (before : List Share) (s t : MirrorState) (share : Share) (after : List Share)
      → SyncsInTurn written means s (before ++ share ∷ after) t → ComesTo s before share
  comes_to [] s t share after syncs = record { state = s; syncs = refl; ends = syncs.0 }
  comes_to (first ∷ before) s t share after syncs =
      let rest = comes_to before first.after t share after syncs.1 in
      record { state = rest.state; syncs = (syncs.0, rest.syncs); ends = rest.ends }

  -- the first of several
  pub front : (shares : List Share) (s t : MirrorState) (after : List Share) → SyncsInTurn written means s (shares ++ after) t
      → (u : MirrorState) × SyncsInTurn written means s shares u
  front [] s t after syncs = (s, refl)
  front (share ∷ shares) s t after syncs = let rest = front shares share.after t after syncs.1 in (rest.0, (syncs.0, rest.1))

  -- and the others, from where they come to
  pub back : (shares : List Share) (s t u : MirrorState) (after : List Share) → SyncsInTurn written means s (shares ++ after) t
      → SyncsInTurn written means s shares u → SyncsInTurn written means u after t
  back [] s t u after syncs reaches = subst (λ m. SyncsInTurn written means m after t) (sym reaches) syncs
  back (share ∷ shares) s t u after syncs reaches = back shares share.after t u after syncs.1 reaches.1
