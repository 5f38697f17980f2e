-- A mirror that asks for a list without a token follows what answers it as an empty one does.
use Rattle.std.proofs.Common.{◌≡◌, ℕ, ◌+◌, ◌≤◌, Option, None, Some, List, [], ◌∷◌, ◌++◌, length, take, Result, Ok, Err, refl, sym, ap, ◌∙◌, subst, arith}
use Rattle.std.proofs.Common.{append_assoc}
use Rattle.td_base.specs.declared.report.Ask.{Ask}
use Rattle.td_base.specs.declared.report.Ask.TheVariants as ask
use Rattle.td_base.specs.declared.upstream.Exchange.{Exchange}
use Rattle.catalogue.specs.Releases.{ReleaseData}
use Rattle.json_forms.specs.declared.zone_list.ListDoc.{ListDoc}
use Rattle.sync_core.specs.Mirrors.{MirrorState, ask_for, ask_of, empty_mirror}
use Rattle.sync_core.specs.Steps.{IsAnswerTo, after_full, after_list, list_settles, settled as settled_state, settles, sync_step}
use Rattle.sync_core.specs.declared.heard_type.Heard.{Heard}
use Rattle.sync_core.specs.declared.heard_type.Heard.TheVariants as heard
use Rattle.sync_core.specs.declared.heard_type.Settled.TheVariants.{Holds, More}
use Rattle.mirror.specs.Shares.{SyncEnds, WalksOn, failed, lists_in, not_settled, refused, settled, starved, unreadable}
use Rattle.mirror.specs.declared.limits.TheConstants.{MOST_LISTS}
use Rattle.mirror.specs.declared.sync_fault.SyncFault.{SyncFault}
use Rattle.mirror.specs.declared.understood_type.Understood.{Understood}
use Rattle.mirror.specs.declared.understood_type.Understood.TheVariants as understood
use Rattle.sync_world.specs.Holding.{HoldsLast, SaysHolds}
use Rattle.sync_world.specs.Primaries.{Service}
use Rattle.mirror_world.specs.Follows.{FollowsFrom, HearsAt}
use Rattle.mirror_world.specs.Runs.{HoldInTurn, HoldsAt, LastIsOver, Share, SyncsInTurn, all_taken}
use Rattle.mirror_world.proofs.lemmas.Syncing.{OneMeaning, in_turn, walked}

-- ---- a state that asks for a list without a token

record IsFresh (s : MirrorState) : Type 0 where
  pending : s.pending ≡ []
  token : s.token ≡ None

fresh : (s : MirrorState) → ask_of s ≡ ask.List None → IsFresh s
fresh s e = by s.pending s.token refl refl e
  where
    by : (pending : List (List ℕ)) (token : Option (List ℕ)) → s.pending ≡ pending → s.token ≡ token → ask_for pending token ≡ ask.List None → IsFresh s
    by [] None p t e = record { pending = p; token = t }
    by [] (Some token) p t e = absurd (cc)
    by (name ∷ names) token p t e = absurd (cc)

-- a full list leaves nothing of what the state was
forgets : (s : MirrorState) (doc : ListDoc) → s.token ≡ None → sync_step s (heard.List doc) ≡ sync_step empty_mirror (heard.List doc)
unfolding sync_step
forgets s doc none =
    ap (λ token. settled_state (after_list token s doc)) none ∙ ap (λ token. settled_state (record (after_full empty_mirror doc) { token = token })) none

no_hold : (s : MirrorState) (h : Heard) → s.token ≡ None → SaysHolds s h → ⊥
no_hold s (heard.List doc) none says =
    let e : list_settles None doc.zones ≡ Holds = subst (λ token. list_settles token doc.zones ≡ Holds) none says in absurd (cc)
no_hold s (heard.Zone bytes) none says = absurd (cc)
no_hold s heard.BadToken none says = absurd (cc)

module _ (written : Ask → List ℕ) (over : List ReleaseData → Ask → Exchange → Type 0) (means : Ask → List ℕ → Understood → Type 0) (one : OneMeaning means)
    (answers : (a : Ask) (answer : List ℕ) (h : Heard) → means a answer (understood.Hears h) → IsAnswerTo a h) (P : Service) (G : List ReleaseData) where
  -- what answers an empty mirror answers such a state, and leads to the same
  pub follows_so : (xs : List Exchange) (least : ℕ) (s t : MirrorState) → ask_of s ≡ ask.List None → FollowsFrom over means P G least empty_mirror xs t
      → (v : MirrorState) × FollowsFrom over means P G least s xs v
  follows_so [] least s t asks follows = (s, refl)
  follows_so (x ∷ xs) least s t asks follows =
      let h = follows.1 in
      let at = follows.4 in
      let is = fresh s asks in
      let same = same_step h (answers (ask.List None) x.answer h at.is_meant) is.token in
      let hears : HearsAt over means P G follows.0 s x h = record {
        is_meant = subst (λ a. means a x.answer (understood.Hears h)) (sym asks) at.is_meant;
        is_over = λ says. absurd (no_hold s h is.token says);
        holds = λ says. absurd (no_hold s h is.token says);
      }
      in
      (t, (follows.0, h, follows.2, follows.3, hears, subst (λ m. FollowsFrom over means P G follows.0 m xs t) (sym same) follows.5))
    where
      same_step : (h : Heard) → IsAnswerTo (ask.List None) h → s.token ≡ None → sync_step s h ≡ sync_step empty_mirror h
      same_step (heard.List doc) answer none = forgets s doc none
      same_step (heard.Zone bytes) answer none = absurd (answer)
      same_step heard.BadToken answer none = absurd (answer)

  -- ---- the end of a sync, seen from within it

  -- some exchanges lead from a state to a state; the last of them settles the mirror, or the sync
  -- did not end well
  data EndsFrom (s t : MirrorState) (xs : List Exchange) (before : ℕ) (result : Result (Unit {0}) SyncFault) : Type 0 where
    well : (first : List Exchange) (last : Exchange) (u : MirrorState) (h : Heard) (lists : ℕ) → xs ≡ first ++ last ∷ []
        → WalksOn written means s first before lists u → means (ask_of u) last.answer (understood.Hears h) → SaysHolds u h → t ≡ sync_step u h
        → EndsFrom s t xs before result
    ill : (lists : ℕ) → WalksOn written means s xs before lists t → (result ≡ Ok tt → ⊥) → EndsFrom s t xs before result

  not_ok : (result : Result (Unit {0}) SyncFault) (f : SyncFault) → result ≡ Err f → result ≡ Ok tt → ⊥
  not_ok result f is ok = let wrong : Err f ≡ Ok tt = sym is ∙ ok in cc

  ends_from : (s t : MirrorState) (taken untaken : List Exchange) (result : Result (Unit {0}) SyncFault)
      → SyncEnds written means s t taken untaken result → EndsFrom s t taken 0 result
  ends_from s t taken untaken result (settled first last u h asks says is parts none ok) =
      well first last u h asks.lists parts asks.walks asks.is_for.is_meant says is
  ends_from s t taken untaken result (unreadable x place asks parts is) = ill asks.lists asks.walks (not_ok result _ is)
  ends_from s t taken untaken result (refused x status asks parts is) = ill asks.lists asks.walks (not_ok result _ is)
  ends_from s t taken untaken result (not_settled walks none is) = ill MOST_LISTS walks (not_ok result _ is)
  ends_from s t taken untaken result (failed lists walks few none is) = ill lists walks (not_ok result _ is)
  ends_from s t taken untaken result (starved lists walks few parts is) = ill lists walks (not_ok result _ is)

  same_heard : (a : Ask) (x : Exchange) (h k : Heard) → means a x.answer (understood.Hears h) → means a x.answer (understood.Hears k) → h ≡ k
  same_heard a x h k p q =
      let is : understood.Hears h ≡ understood.Hears k = one a x.answer (understood.Hears h) (understood.Hears k) p q in
      cc

  both_settle : (s : MirrorState) (h : Heard) → settles s h ≡ More → settles s h ≡ Holds → ⊥
  both_settle s h more holds = let wrong : More ≡ Holds = sym more ∙ holds in cc

  -- after one of the exchanges
  after_one : (s t : MirrorState) (x : Exchange) (xs : List Exchange) (before : ℕ) (result : Result (Unit {0}) SyncFault) (h : Heard)
      → means (ask_of s) x.answer (understood.Hears h) → settles s h ≡ More → EndsFrom s t (x ∷ xs) before result
      → EndsFrom (sync_step s h) t xs (before + lists_in (ask_of s)) result
  after_one s t x xs before result h meant more (well [] last u k lists parts walks means_so says is) =
      let state : u ≡ s = walks.0 in
      let same : x ≡ last = cc in
      let at_s = subst (λ (m : MirrorState). means (ask_of m) last.answer (understood.Hears k)) state means_so in
      let of_x = subst (λ (y : Exchange). means (ask_of s) y.answer (understood.Hears k)) (sym same) at_s in
      let heard_so : k ≡ h = same_heard (ask_of s) x k h of_x meant in
      let holds = subst (λ (m : MirrorState). settles m k ≡ Holds) state says in
      absurd (both_settle s h more (subst (λ (j : Heard). settles s j ≡ Holds) heard_so holds))
  after_one s t x xs before result h meant more (well (y ∷ first) last u k lists parts walks means_so says is) =
      let same : x ≡ y = cc in
      let rest : xs ≡ first ++ last ∷ [] = cc in
      let of_x = subst (λ (z : Exchange). means (ask_of s) z.answer (understood.Hears walks.0)) (sym same) (walks.1).is_meant in
      let heard_so : walks.0 ≡ h = same_heard (ask_of s) x walks.0 h of_x meant in
      let on = subst (λ (j : Heard). WalksOn written means (sync_step s j) first (before + lists_in (ask_of s)) lists u) heard_so walks.4 in
      well first last u k lists rest on means_so says is
  after_one s t x xs before result h meant more (ill lists walks wrong) =
      let same : walks.0 ≡ h = same_heard (ask_of s) x walks.0 h (walks.1).is_meant meant in
      ill lists (subst (λ (j : Heard). WalksOn written means (sync_step s j) xs (before + lists_in (ask_of s)) lists t) same walks.4) wrong

  -- after some of them
  after_some : (first rest : List Exchange) (s u t : MirrorState) (before lists : ℕ) (result : Result (Unit {0}) SyncFault)
      → WalksOn written means s first before lists u → EndsFrom s t (first ++ rest) before result → EndsFrom u t rest lists result
  after_some [] rest s u t before lists result walks ends =
      subst (λ (m : MirrorState). EndsFrom m t rest lists result) (sym walks.0) (subst (λ n. EndsFrom s t rest n result) (sym walks.1) ends)
  after_some (x ∷ first) rest s u t before lists result walks ends =
      after_some first rest (sync_step s walks.0) u t (before + lists_in (ask_of s)) lists result walks.4
      (after_one s t x (first ++ rest) before result walks.0 (walks.1).is_meant walks.2 ends)

  -- ---- so what answers the others is held at the end

  record Held (least : ℕ) (xs : List Exchange) (t : MirrorState) (result : Result (Unit {0}) SyncFault) (more : List Exchange) (v : MirrorState)
      : Type 0 where
    place : ℕ
    holds : HoldsAt over P G least place xs t result
    follows : FollowsFrom over means P G place t more v

  held : (least before : ℕ) (s t v : MirrorState) (xs more : List Exchange) (result : Result (Unit {0}) SyncFault) → least ≤ length G
      → FollowsFrom over means P G least s (xs ++ more) v → EndsFrom s t xs before result → Held least xs t result more v
  held least before s t v xs more result long follows (well first last u h lists parts walks meant says is) =
      let whole : FollowsFrom over means P G least s (first ++ (last ∷ more)) v =
      subst (λ l. FollowsFrom over means P G least s l v) (ap (λ l. l ++ more) parts ∙ append_assoc first (last ∷ []) more) follows in
      let r = walked written over means one P G first (last ∷ more) least before lists s u v long whole walks in
      let f = r.follows in
      let same : f.1 ≡ h = same_heard (ask_of u) last f.1 h (f.4).is_meant meant in
      let state : sync_step u f.1 ≡ t = ap (sync_step u) same ∙ sym is in
      let settles_so : SaysHolds u f.1 = subst (SaysHolds u) (sym same) says in
      let from : least ≤ r.place = r.from in
      let on : r.place ≤ f.0 = f.2 in record {
        place = f.0;
        holds = record {
          from = omega (arith, from, on);
          upto = f.3;
          answered = λ ok. record { first = first; last = last; asked = ask_of u; parts = parts; is_over = (f.4).is_over settles_so };
          holds = λ ok. subst (λ m. HoldsLast P m (take f.0 G)) state ((f.4).holds settles_so);
        };
        follows = subst (λ m. FollowsFrom over means P G f.0 m more v) state f.5;
      }
  held least before s t v xs more result long follows (ill lists walks wrong) =
      let r = walked written over means one P G xs more least before lists s t v long follows walks in record {
        place = r.place;
        holds = record { from = r.from; upto = r.upto; answered = λ ok. absurd (wrong ok); holds = λ ok. absurd (wrong ok) };
        follows = r.follows;
      }

  -- the last exchange of some is the last of all
  last_of_all : (n : ℕ) (all first rest : List Exchange) → all ≡ first ++ rest → LastIsOver over P (take n G) rest → LastIsOver over P (take n G) all
  last_of_all n all first rest parts l = record {
    first = first ++ l.first;
    last = l.last;
    asked = l.asked;
    parts = parts ∙ ap (λ xs. first ++ xs) l.parts ∙ sym (append_assoc first l.first (l.last ∷ []));
    is_over = l.is_over;
  }

  pub stretch_holds : (least lists : ℕ) (s u t w : MirrorState) (first rest : List Exchange) (share : Share) (shares : List Share) → least ≤ length G
      → share.taken ≡ first ++ rest → WalksOn written means s first 0 lists u → ask_of u ≡ ask.List None
      → FollowsFrom over means P G least empty_mirror (rest ++ all_taken shares) w → SyncsInTurn written means s (share ∷ shares) t
      → HoldInTurn over P G least (share ∷ shares)
  stretch_holds least lists s u t w first rest share shares long parts walks asks follows syncs =
      let on = follows_so (rest ++ all_taken shares) least u w asks follows in
      let whole = subst (λ xs. EndsFrom s share.after xs 0 share.result) parts (ends_from s share.after share.taken share.untaken share.result syncs.0) in
      let ends = after_some first rest s u share.after 0 lists share.result walks whole in
      let k = held least lists u share.after on.0 rest (all_taken shares) share.result long on.1 ends in
      let holds = k.holds in (
        k.place,
        record {
          from = holds.from;
          upto = holds.upto;
          answered = λ ok. last_of_all k.place share.taken first rest parts (holds.answered ok);
          holds = holds.holds;
        },
        in_turn written over means one P G shares k.place share.after t on.0 holds.upto k.follows syncs.1,
      )
