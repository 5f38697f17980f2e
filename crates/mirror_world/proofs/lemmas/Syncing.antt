-- Syncs over answers of a primary.
use Rattle.std.proofs.Common.{◌≡◌, ℕ, ◌+◌, ◌≤◌, List, [], ◌∷◌, ◌++◌, length, take, Result, Ok, Err, sym, ap, ◌∙◌, subst, arith, append_assoc, append-nil}
use Rattle.td_base.specs.declared.report.Ask.{Ask}
use Rattle.td_base.specs.declared.upstream.Exchange.{Exchange}
use Rattle.catalogue.specs.Releases.{ReleaseData}
use Rattle.sync_core.specs.Mirrors.{MirrorState, ask_of}
use Rattle.sync_core.specs.Steps.{sync_step}
use Rattle.sync_core.specs.declared.heard_type.Heard.{Heard}
use Rattle.mirror.specs.Shares.{AsksOn, IsFor, SyncEnds, WalksOn, failed, lists_in, not_settled, refused, settled, starved, unreadable}
use Rattle.mirror.specs.declared.limits.TheConstants.{MOST_LISTS}
use Rattle.mirror.specs.declared.sync_fault.SyncFault.{SyncFault}
use Rattle.mirror.specs.declared.understood_type.Understood.{Understood}
use Rattle.mirror.specs.declared.understood_type.Understood.TheVariants as understood
use Rattle.sync_world.specs.Holding.{HoldsLast, SaysHolds}
use Rattle.sync_world.specs.Primaries.{IsPlace, Service}
use Rattle.mirror_world.specs.Follows.{FollowsFrom}
use Rattle.mirror_world.specs.Runs.{HoldInTurn, HoldsAt, IsUnderstood, Share, SyncsInTurn, all_taken}

-- an answer means one thing
abbrev pub OneMeaning : (Ask → List ℕ → Understood → Type 0) → Type 0
OneMeaning means = (a : Ask) (answer : List ℕ) (u v : Understood) → means a answer u → means a answer v → u ≡ v

module _ (written : Ask → List ℕ) (over : List ReleaseData → Ask → Exchange → Type 0) (means : Ask → List ℕ → Understood → Type 0) (one : OneMeaning means)
    (P : Service) (G : List ReleaseData) where
  same_heard : (a : Ask) (x : Exchange) (h k : Heard) → means a x.answer (understood.Hears h) → means a x.answer (understood.Hears k) → h ≡ k
  same_heard a x h k p q =
      let is : understood.Hears h ≡ understood.Hears k = one a x.answer (understood.Hears h) (understood.Hears k) p q in
      cc

  -- where a walk over the first of the answers ends, the others follow
  pub record Reached (least : ℕ) (t : MirrorState) (more : List Exchange) (v : MirrorState) : Type 0 where
    pub place : ℕ
    pub from : least ≤ place
    pub upto : place ≤ length G
    pub follows : FollowsFrom over means P G place t more v

  earlier : (low least : ℕ) (t : MirrorState) (more : List Exchange) (v : MirrorState) → low ≤ least → Reached least t more v → Reached low t more v
  earlier low least t more v le r =
      let from : least ≤ r.place = r.from in
      record { place = r.place; from = omega (arith, le, from); upto = r.upto; follows = r.follows }

  pub walked : (taken more : List Exchange) (least before lists : ℕ) (s t v : MirrorState) → least ≤ length G
      → FollowsFrom over means P G least s (taken ++ more) v → WalksOn written means s taken before lists t → Reached least t more v
  walked [] more least before lists s t v long follows walks = record {
    place = least;
    from = omega arith;
    upto = long;
    follows = subst (λ m. FollowsFrom over means P G least m more v) (sym walks.0) follows;
  }
  walked (x ∷ taken) more least before lists s t v long follows walks =
      let same : walks.0 ≡ follows.1 = same_heard (ask_of s) x walks.0 follows.1 (walks.1).is_meant (follows.4).is_meant in
      let later : FollowsFrom over means P G follows.0 (sync_step s walks.0) (taken ++ more) v =
      subst (λ h. FollowsFrom over means P G follows.0 (sync_step s h) (taken ++ more) v) (sym same) follows.5 in
      earlier least follows.0 t more v follows.2
      (walked taken more follows.0 (before + lists_in (ask_of s)) lists (sync_step s walks.0) t v follows.3 later walks.4)

  -- ---- one sync

  pub record Synced (least : ℕ) (taken : List Exchange) (t : MirrorState) (result : Result (Unit {0}) SyncFault) (more : List Exchange)
      (v : MirrorState) : Type 0 where
    pub place : ℕ
    pub holds : HoldsAt over P G least place taken t result
    pub follows : FollowsFrom over means P G place t more v

  not_ok : (result : Result (Unit {0}) SyncFault) (f : SyncFault) → result ≡ Err f → result ≡ Ok tt → ⊥
  not_ok result f is ok = let wrong : Err f ≡ Ok tt = sym is ∙ ok in cc

  faulted : (least : ℕ) (taken : List Exchange) (t : MirrorState) (result : Result (Unit {0}) SyncFault) (f : SyncFault) (more : List Exchange)
      (v : MirrorState) → result ≡ Err f
      → Reached least t more v → Synced least taken t result more v
  faulted least taken t result f more v is r =
      let wrong : result ≡ Ok tt → ⊥ = not_ok result f is in record {
        place = r.place;
        holds = record { from = r.from; upto = r.upto; answered = λ ok. absurd (wrong ok); holds = λ ok. absurd (wrong ok) };
        follows = r.follows;
      }

  ended : (least : ℕ) (s u t : MirrorState) (result : Result (Unit {0}) SyncFault) (first taken : List Exchange) (last : Exchange) (h : Heard)
      (more : List Exchange) (v : MirrorState) → least ≤ length G → taken ≡ first ++ last ∷ [] → FollowsFrom over means P G least s (taken ++ more) v
      → AsksOn written means s u first last (understood.Hears h) → SaysHolds u h → t ≡ sync_step u h → Synced least taken t result more v
  ended least s u t result first taken last h more v long parts follows asks says is =
      let whole : FollowsFrom over means P G least s (first ++ (last ∷ more)) v =
      subst (λ l. FollowsFrom over means P G least s l v) (ap (λ l. l ++ more) parts ∙ append_assoc first (last ∷ []) more) follows in
      let r = walked first (last ∷ more) least 0 asks.lists s u v long whole asks.walks in
      let f = r.follows in
      let same : f.1 ≡ h = same_heard (ask_of u) last f.1 h (f.4).is_meant asks.is_for.is_meant in
      let state : sync_step u f.1 ≡ t = ap (sync_step u) same ∙ sym is in
      let settles_so : SaysHolds u f.1 = subst (SaysHolds u) (sym same) says in
      let from : least ≤ r.place = r.from in
      let on : r.place ≤ f.0 = f.2 in record {
        place = f.0;
        holds = record {
          from = omega (arith, from, on);
          upto = f.3;
          answered = λ ok. record { first = first; last = last; asked = ask_of u; parts = parts; is_over = (f.4).is_over settles_so };
          holds = λ ok. subst (λ m. HoldsLast P m (take f.0 G)) state ((f.4).holds settles_so);
        };
        follows = subst (λ m. FollowsFrom over means P G f.0 m more v) state f.5;
      }

  pub synced : (least : ℕ) (s t : MirrorState) (taken untaken : List Exchange) (result : Result (Unit {0}) SyncFault) (more : List Exchange) (v : MirrorState)
      → least ≤ length G → FollowsFrom over means P G least s (taken ++ more) v → SyncEnds written means s t taken untaken result
      → Synced least taken t result more v
  synced least s t taken untaken result more v long follows (settled first last u h asks says is parts none ok) =
      ended least s u t result first taken last h more v long parts follows asks says is
  synced least s t taken untaken result more v long follows (unreadable x place asks parts is) =
      faulted least taken t result _ more v is (walked taken more least 0 asks.lists s t v long follows asks.walks)
  synced least s t taken untaken result more v long follows (refused x status asks parts is) =
      faulted least taken t result _ more v is (walked taken more least 0 asks.lists s t v long follows asks.walks)
  synced least s t taken untaken result more v long follows (not_settled walks none is) =
      faulted least taken t result _ more v is (walked taken more least 0 MOST_LISTS s t v long follows walks)
  synced least s t taken untaken result more v long follows (failed lists walks few none is) =
      faulted least taken t result _ more v is (walked taken more least 0 lists s t v long follows walks)
  synced least s t taken untaken result more v long follows (starved lists walks few parts is) =
      faulted least taken t result _ more v is (walked taken more least 0 lists s t v long follows walks)

  pub share_holds : (least : ℕ) (s t v : MirrorState) (taken untaken more : List Exchange) (result : Result (Unit {0}) SyncFault)
      → least ≤ length G → FollowsFrom over means P G least s (taken ++ more) v → SyncEnds written means s t taken untaken result
      → (n : ℕ) × HoldsAt over P G least n taken t result × FollowsFrom over means P G n t more v
  share_holds least s t v taken untaken more result long follows ends =
      let k = synced least s t taken untaken result more v long follows ends in
      (k.place, k.holds, k.follows)

  -- ---- syncs in turn

  pub in_turn : (shares : List Share) (least : ℕ) (s t v : MirrorState) → least ≤ length G → FollowsFrom over means P G least s (all_taken shares) v
      → SyncsInTurn written means s shares t → HoldInTurn over P G least shares
  in_turn [] least s t v long follows syncs = tt
  in_turn (share ∷ shares) least s t v long follows syncs =
      let k = synced least s share.after share.taken share.untaken share.result (all_taken shares) v long follows syncs.0 in
      (k.place, k.holds, in_turn shares k.place share.after t v k.holds.upto k.follows syncs.1)

  -- where the syncs have come to, the other answers follow
  pub after_all : (shares : List Share) (more : List Exchange) (least : ℕ) (s t v : MirrorState) → least ≤ length G
      → FollowsFrom over means P G least s (all_taken shares ++ more) v → SyncsInTurn written means s shares t → Reached least t more v
  after_all [] more least s t v long follows syncs = record {
    place = least;
    from = omega arith;
    upto = long;
    follows = subst (λ m. FollowsFrom over means P G least m more v) (sym syncs) follows;
  }
  after_all (share ∷ shares) more least s t v long follows syncs =
      let parts : (share.taken ++ all_taken shares) ++ more ≡ share.taken ++ (all_taken shares ++ more) = append_assoc share.taken (all_taken shares) more in
      let whole = subst (λ l. FollowsFrom over means P G least s l v) parts follows in
      let k = synced least s share.after share.taken share.untaken share.result (all_taken shares ++ more) v long whole syncs.0 in
      earlier least k.place t more v k.holds.from (after_all shares more k.place share.after t v k.holds.upto k.follows syncs.1)

  -- the state that a walk over all answers comes to
  pub ends_at : (taken : List Exchange) (least lists : ℕ) (s t v : MirrorState) → least ≤ length G → FollowsFrom over means P G least s taken v
      → WalksOn written means s taken 0 lists t → v ≡ t
  ends_at taken least lists s t v long follows walks =
      (walked taken [] least 0 lists s t v long (subst (λ l. FollowsFrom over means P G least s l v) (sym (append-nil taken)) follows) walks).follows

  -- ---- an exchange whose answer was not taken means something that is heard

  abbrev IsHeard : MirrorState → List Exchange → Type 0
  IsHeard v xs = (x : Exchange) → xs ≡ x ∷ [] → (h : Heard) × means (ask_of v) x.answer (understood.Hears h)

  not_unreadable : (h : Heard) (place : ℕ) → understood.Hears h ≡ understood.Unreadable place → ⊥
  not_unreadable h place e = absurd (cc)

  not_refused : (h : Heard) (status : ℕ) → understood.Hears h ≡ understood.Refuses status → ⊥
  not_refused h status e = absurd (cc)

  other : (v t : MirrorState) (x : Exchange) (u : Understood) (heard : (h : Heard) × means (ask_of v) x.answer (understood.Hears h)) → v ≡ t
      → means (ask_of t) x.answer u → understood.Hears heard.0 ≡ u
  other v t x u heard same meant =
      one (ask_of t) x.answer (understood.Hears heard.0) u (subst (λ m. means (ask_of m) x.answer (understood.Hears heard.0)) same heard.1) meant

  pub is_understood : (least : ℕ) (s t v : MirrorState) (taken untaken : List Exchange) (result : Result (Unit {0}) SyncFault) → least ≤ length G
      → FollowsFrom over means P G least s taken v → SyncEnds written means s t taken untaken result → IsHeard v untaken → IsUnderstood result
  is_understood least s t v taken untaken result long follows (settled first last u h asks says is parts none ok) heard =
      subst IsUnderstood (sym ok) tt
  is_understood least s t v taken untaken result long follows (unreadable x place asks parts is) heard =
      let found = heard x parts in
      let same = ends_at taken least asks.lists s t v long follows asks.walks in
      absurd (not_unreadable found.0 place (other v t x (understood.Unreadable place) found same asks.is_for.is_meant))
  is_understood least s t v taken untaken result long follows (refused x status asks parts is) heard =
      let found = heard x parts in
      let same = ends_at taken least asks.lists s t v long follows asks.walks in
      absurd (not_refused found.0 status (other v t x (understood.Refuses status) found same asks.is_for.is_meant))
  is_understood least s t v taken untaken result long follows (not_settled walks none is) heard = subst IsUnderstood (sym is) tt
  is_understood least s t v taken untaken result long follows (failed lists walks few none is) heard = subst IsUnderstood (sym is) tt
  is_understood least s t v taken untaken result long follows (starved lists walks few parts is) heard = subst IsUnderstood (sym is) tt

  -- ---- one walk

  pub walk_holds : (least lists : ℕ) (xs : List Exchange) (x : Exchange) (s t v : MirrorState) (h : Heard) → 1 ≤ least → least ≤ length G
      → FollowsFrom over means P G least s (xs ++ x ∷ []) v → WalksOn written means s xs 0 lists t → IsFor written means t x (understood.Hears h)
      → SaysHolds t h
      → (n : ℕ) × IsPlace G n × HoldsLast P (sync_step t h) (take n G)
  walk_holds least lists xs x s t v h some long follows walks is_for says =
      let r = walked xs (x ∷ []) least 0 lists s t v long follows walks in
      let f = r.follows in
      let same : f.1 ≡ h = same_heard (ask_of t) x f.1 h (f.4).is_meant is_for.is_meant in
      let from : least ≤ r.place = r.from in
      let on : r.place ≤ f.0 = f.2 in
      let low : 1 ≤ f.0 = omega (arith, some, from, on) in (
        f.0,
        (low, f.3),
        subst (λ k. HoldsLast P (sync_step t k) (take f.0 G)) same ((f.4).holds (subst (SaysHolds t) (sym same) says)),
      )
