-- A worker's rounds, one after the other.
use Rattle.std.proofs.Common.{◌≡◌, ℕ, ◌+◌, ◌<◌, ◌≤◌, ◌⊎◌, inl, inr, List, [], ◌∷◌, length, length-append}
use Rattle.std.proofs.Common.{true, false, Option, Some, None, IfSome, refl, sym, ap, ◌∙◌, subst}
use Rattle.std.proofs.Common.{arith}
use Rattle.std.specs.List.{AllByRecursion}
use Rattle.catalogue.specs.declared.holding.Catalogue.{Catalogue}
use Rattle.desk_pool.specs.Flag.{Sight}
use Rattle.publication.specs.Views.{DeskView}
use Rattle.td_base.specs.Views.{ConnView}
use Rattle.td_base.specs.DoorViews.{DoorContent, DoorView}
use Rattle.td_base.specs.Doors.{AcceptTold, Accepts, FinishTold, Finishes, HasOut, IsUnfailed}
use Rattle.td_base.specs.declared.door.Accepted.TheVariants as accepted
use Rattle.td_base.specs.declared.report.Report.{Report}
use Rattle.td_base.specs.declared.report.Role.{Role}
use Rattle.connection.specs.DoorWorks.{DoesDoor, NoneOut, ServesTold, at_end, at_flag, by_faults}
use Rattle.connection.specs.Entering.{GoesOn, HasCounted}
use Rattle.connection.specs.Serving.{ServesConn}
use Rattle.connection.specs.FaultCounts.{RoseTimes}
use Rattle.connection.specs.Rounds.{HasServed, RoundTells, ServesNext}
use Rattle.connection.specs.declared.door_work.TheConstants.{MOST_FAILURES}
use Rattle.connection.specs.declared.round.Round.{Round}
use Rattle.connection.specs.declared.round.Round.TheVariants as round
use Rattle.connection.proofs.DoorLemmas as door
use Rattle.connection.proofs.EnteringLemmas.{goes_on_both, goes_on_same}

-- ---- the count of failures

pub rose_none : (a : ℕ) → RoseTimes 0 a a
rose_none a = record { later = omega arith; least = omega arith; most = omega arith }

pub rose_same : (n a b c : ℕ) → RoseTimes n a b → c ≡ b → RoseTimes n a c
rose_same n a b c p e = subst (RoseTimes n a) (sym e) p

pub rose_more : (n a b c : ℕ) → RoseTimes n a b → RoseTimes 1 b c → RoseTimes (n + 1) a c
rose_more n a b c p q = record {
  later = omega (arith, p.later, q.later);
  least = omega (arith, p.least, p.most, q.least, q.most, p.later, q.later);
  most = omega (arith, p.most, q.most);
}

-- ---- what a door tells of one call

module _ {C : Type 0} (seen : C → ConnView) where
  idle_keeps : (o n : Option DoorContent) → AcceptTold seen o n accepted.Idle → n ≡ o
  idle_keeps (Some a) (Some b) h = ap Some h
  idle_keeps (Some a) None h = absurd h
  idle_keeps None (Some b) h = absurd h
  idle_keeps None None h = refl

  failed_keeps : (o n : Option DoorContent) → AcceptTold seen o n accepted.Failed → n ≡ o
  failed_keeps (Some a) (Some b) h = ap Some h
  failed_keeps (Some a) None h = absurd h
  failed_keeps None (Some b) h = absurd h
  failed_keeps None None h = refl

  ended_keeps : (o n : Option DoorContent) → AcceptTold seen o n accepted.Ended → (n ≡ o) × IfSome n (λ c. c.coming ≡ [])
  ended_keeps (Some a) (Some b) h = (ap Some h.0, ap (λ (c : DoorContent). c.coming) h.0 ∙ h.1)
  ended_keeps (Some a) None h = absurd h
  ended_keeps None (Some b) h = absurd h
  ended_keeps None None h = (refl, tt)

  -- what was given is out
  out_after : (o n : Option DoorContent) (conn : C) → IfSome o (λ c. length c.finished ≡ length c.given)
      → AcceptTold seen o n (accepted.Given conn) → IfSome n (λ c. length c.finished + 1 ≤ length c.given)
  out_after (Some a) (Some b) conn e h =
      omega (arith, e, ap length h.given, length-append a.given (h.input ∷ []), ap length h.finished)
  out_after (Some a) None conn e h = absurd h
  out_after None (Some b) conn e h = absurd h
  out_after None None conn e h = tt

  pub is_out : (a b : DoorView) (conn : C) → NoneOut a → Accepts seen a b (accepted.Given conn) → HasOut b
  is_out a b conn e h = out_after a.content b.content conn e h.told

module _ (role : Role) where
  none_out_then : (o n : Option DoorContent) (x y : DeskView (Catalogue (List ℕ))) → IfSome o (λ c. length c.finished ≡ length c.given)
      → ServesTold role o n x y → IfSome n (λ c. length c.finished ≡ length c.given)
  none_out_then (Some a) (Some b) x y e p = door.balanced role a b x y p e
  none_out_then (Some a) None x y e p = absurd p
  none_out_then None (Some b) x y e p = absurd p
  none_out_then None None x y e p = tt

  pub still_none_out : (a b : DoorView) (x y : DeskView (Catalogue (List ℕ))) → NoneOut a → HasServed role a b x y → NoneOut b
  still_none_out a b x y e p = none_out_then a.content b.content x y e p.serves

  -- ---- rounds before and after

  pub starts : (a : DoorView) (x : DeskView (Catalogue (List ℕ))) → HasServed role a a x x
  starts a x = record { serves = of_content a.content; desk_goes_on = goes_on_same x x refl }
    where
      of_content : (o : Option DoorContent) → ServesTold role o o x x
      of_content None = tt
      of_content (Some c) = door.none role c x

  told_both : (o n m : Option DoorContent) (x y z : DeskView (Catalogue (List ℕ))) → GoesOn x y → GoesOn y z → ServesTold role o n x y
      → ServesTold role n m y z → ServesTold role o m x z
  told_both (Some a) (Some b) (Some c) x y z g h p q = door.both role a b c x y z g h p q
  told_both (Some a) (Some b) None x y z g h p q = absurd q
  told_both (Some a) None m x y z g h p q = absurd p
  told_both None (Some b) m x y z g h p q = absurd p
  told_both None None (Some c) x y z g h p q = absurd q
  told_both None None None x y z g h p q = tt

  pub goes_on : (a b c : DoorView) (x y z : DeskView (Catalogue (List ℕ))) → HasServed role a b x y → HasServed role b c y z
      → HasServed role a c x z
  goes_on a b c x y z p q = record {
    serves = told_both a.content b.content c.content x y z p.desk_goes_on q.desk_goes_on p.serves q.serves;
    desk_goes_on = goes_on_both x y z p.desk_goes_on q.desk_goes_on;
  }

  -- ---- one round

  -- the door tells what it told
  kept : (a b : DoorView) (x : DeskView (Catalogue (List ℕ))) → b.content ≡ a.content → HasServed role a b x x
  kept a b x e = record {
    serves = subst (λ o. ServesTold role a.content o x x) (sym e) (starts a x).serves;
    desk_goes_on = goes_on_same x x refl;
  }

  module _ {C : Type 0} (seen : C → ConnView) where
    -- none waited, and the sign was looked at
    pub idle : (a b : DoorView) (x : DeskView (Catalogue (List ℕ))) (s t : Sight) (r : Round) → Accepts seen a b accepted.Idle → t.flag ≡ s.flag
        → RoundTells a b t.raised r → ServesNext role a b x x s t r
    idle a b x s t r h flag tells = record { served = kept a b x (idle_keeps seen a.content b.content h.told); tells = tells; flag = flag }

    pub failed : (a b : DoorView) (x : DeskView (Catalogue (List ℕ))) (s : Sight) → Accepts seen a b accepted.Failed
        → ServesNext role a b x x s s round.Failed
    failed a b x s h = record {
      served = kept a b x (failed_keeps seen a.content b.content h.told);
      tells = (h.last, record { later = h.later; least = h.failed refl; most = h.once });
      flag = refl;
    }

    pub ended : (a b : DoorView) (x : DeskView (Catalogue (List ℕ))) (s : Sight) → Accepts seen a b accepted.Ended
        → ServesNext role a b x x s s round.Ended
    ended a b x s h =
        let same = ended_keeps seen a.content b.content h.told in
        record { served = kept a b x same.0; tells = (h.last, same.1, h.steady refl); flag = refl }

    told_one : (o n m : Option DoorContent) (conn : C) (now : ConnView) (report : Report) (x y : DeskView (Catalogue (List ℕ)))
        → AcceptTold seen o n (accepted.Given conn) → IsUnfailed (seen conn) → ServesConn y role (seen conn) now report.places report.end
        → AllByRecursion (λ p. length x.seen ≤ p) report.places → HasCounted x.enters report.places y.enters report.end
        → FinishTold n m now report → ServesTold role o m x y
    told_one (Some a) (Some b) (Some c) conn now report x y h u s first enters f =
        door.one role a b c (seen conn) now report x y h u s first enters f
    told_one (Some a) (Some b) None conn now report x y h u s first enters f = absurd f
    told_one (Some a) None m conn now report x y h u s first enters f = absurd h
    told_one None (Some b) m conn now report x y h u s first enters f = absurd h
    told_one None None (Some c) conn now report x y h u s first enters f = absurd f
    told_one None None None conn now report x y h u s first enters f = tt

    -- a connection was given, served and handed back
    pub given : (a b c : DoorView) (conn : C) (now : ConnView) (report : Report) (x y : DeskView (Catalogue (List ℕ))) (s : Sight)
        → Accepts seen a b (accepted.Given conn) → ServesConn y role (seen conn) now report.places report.end → GoesOn x y
        → AllByRecursion (λ p. length x.seen ≤ p) report.places → HasCounted x.enters report.places y.enters report.end
        → Finishes b c now report → ServesNext role a c x y s s round.GoesOn
    given a b c conn now report x y s h serves longer first enters f = record {
      served = record {
        serves = told_one a.content b.content c.content conn now report x y h.told h.unfailed serves first enters f.told;
        desk_goes_on = longer;
      };
      tells = (inl (f.last ∙ h.last), f.faults ∙ h.steady refl);
      flag = refl;
    }

  -- ---- the last round

  -- of the rounds before, in each of which the door failed or was served, `n` failed
  module _ (a b c : DoorView) (x y z : DeskView (Catalogue (List ℕ))) (s t u : Sight) (n : ℕ) (p : HasServed role a b x y) (flag : t.flag ≡ s.flag)
      (rose : RoseTimes n a.faults b.faults) where
    by_end : n < MOST_FAILURES → ServesNext role b c y z t u round.Ended → DoesDoor role a c x z s u false
    by_end few q =
        let r = goes_on a b c x y z p q.served in
        record {
          serves = r.serves;
          stops = at_end q.tells.0 q.tells.1 (n, few, rose_same n a.faults b.faults c.faults rose q.tells.2) refl;
          desk_goes_on = r.desk_goes_on;
          flag = q.flag ∙ flag;
        }

    by_flag : n < MOST_FAILURES → ServesNext role b c y z t u round.Stopped → DoesDoor role a c x z s u false
    by_flag few q =
        let r = goes_on a b c x y z p q.served in
        record {
          serves = r.serves;
          stops = at_flag q.tells.0 q.tells.1 (n, few, rose_same n a.faults b.faults c.faults rose q.tells.2) refl;
          desk_goes_on = r.desk_goes_on;
          flag = q.flag ∙ flag;
        }

    pub last : (r : Round) → n < MOST_FAILURES → ServesNext role b c y z t u r → (r ≡ round.Ended) ⊎ (r ≡ round.Stopped)
        → DoesDoor role a c x z s u false
    last r few q (inl e) = by_end few (subst (ServesNext role b c y z t u) e q)
    last r few q (inr e) = by_flag few (subst (ServesNext role b c y z t u) e q)

    pub worn : n + 1 ≡ MOST_FAILURES → ServesNext role b c y z t u round.Failed → DoesDoor role a c x z s u true
    worn e q =
        let r = goes_on a b c x y z p q.served in
        record {
          serves = r.serves;
          stops =
              by_faults q.tells.0
              (subst (λ m. RoseTimes m a.faults c.faults) e (rose_more n a.faults b.faults c.faults rose q.tells.1)) refl;
          desk_goes_on = r.desk_goes_on;
          flag = q.flag ∙ flag;
        }
