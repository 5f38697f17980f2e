-- What the syncs of a stretch published was the primary's.
use Rattle.std.proofs.Common.{◌≡◌, ℕ, ◌≤◌, List, [], ◌∷◌, ◌++◌, length, take, Ok, arith, length-take, subst}
use Rattle.td_base.specs.Views.{File}
use Rattle.catalogue.specs.Histories.{IsHistory}
use Rattle.catalogue.specs.Lookups.{zones_of}
use Rattle.catalogue.specs.Releases.{ReleaseData}
use Rattle.zone_meaning.specs.Sound.{IsSound}
use Rattle.release_check.specs.Before.{Before}
use Rattle.release_check.specs.Folder.{examined_in}
use Rattle.sync_core.specs.Mirrors.{MirrorState}
use Rattle.sync_core.specs.Published.{HasFiles, manifest_of}
use Rattle.sync_world.specs.Hearing.{action_service}
use Rattle.sync_world.specs.Holding.{HoldsLast}
use Rattle.mirror_world.specs.Answers.{IsAnsweredOver}
use Rattle.mirror_world.specs.Runs.{HoldInTurn, HoldsAt, Share}
use Rattle.run_laws.specs.Runs.{IsOfPrimary, IsStatedByShare}
use Rattle.run_laws.specs.Stretches.{ServeItsReleases}

-- what a mirror that holds a release states passes as that release
abbrev pub AreHeld : Type 0
AreHeld =
    (G : List ReleaseData) (s : MirrorState) (files : List File) (before : Before) (r : ReleaseData) → IsHistory IsSound G → 1 ≤ length G
    → HoldsLast action_service s G → HasFiles files s.files → examined_in files [] before (manifest_of s) ≡ Ok r → r.contents ≡ zones_of G

module _ (held : AreHeld) (G : List ReleaseData) (history : (n : ℕ) → IsHistory IsSound (take n G)) where
  one_served : (least n : ℕ) (share : Share) (served : List ReleaseData) (r : ReleaseData) → 1 ≤ least
      → HoldsAt IsAnsweredOver action_service G least n share.taken share.after share.result → IsStatedByShare served share r → IsOfPrimary G n share r
  one_served least n share served r positive at stated =
      let from = at.from in
      let upto = at.upto in
      let low : 1 ≤ n = omega (arith, positive, from) in
      let states = stated.1 in
      record {
        is_place = (low, upto);
        answered = at.answered stated.0;
        contents = held (take n G) share.after states.0 _ r (history n) (omega (arith, low, upto, length-take n G)) (at.holds stated.0) states.1 states.2;
      }

  pub all_served : (least : ℕ) (shares : List Share) → 1 ≤ least → HoldInTurn IsAnsweredOver action_service G least shares → ServeItsReleases G shares
  all_served least [] positive h = tt
  all_served least (share ∷ shares) positive h =
      let from = h.1.from in (
        λ served r stated. (h.0, one_served least h.0 share served r positive h.1 stated),
        all_served h.0 shares (omega (arith, positive, from)) h.2,
      )
