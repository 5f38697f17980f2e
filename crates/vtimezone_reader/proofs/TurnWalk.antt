-- A walk over the turns of a range.
use Rattle.std.proofs.Common.{◌≡◌, ◌≢◌, ◌⊎◌, inl, inr, ℕ, zero, suc, ◌+◌, ◌≤◌, ◌<◌, true, false, refl, sym, ap, ◌∙◌, subst, arith, max}
use Rattle.std.proofs.Common.{if◌then◌else◌}
use Rattle.std.proofs.Common.{ℤ, pos, ◌+ℤ◌, ◌-ℤ◌, ◌≤ℤ◌, ◌<ℤ◌, unsigned_abs, None, Some, List, [], ◌∷◌, ◌++◌, length, get_or}
use Rattle.std.specs.List.{Contains}
use Rattle.std.specs.List.Sorted.{IsNonDecreasingBy}
use Rattle.std.specs.Option.{option_or}
use Rattle.std.proofs.lemmas.Bool.{cond-true}
use Rattle.std.specs.Ordering.{int_eq}
use Rattle.std.proofs.lemmas.Int.{ints, by_lt_z}
use Rattle.std.proofs.lemmas.List.{get_or_default}
use Rattle.std.proofs.lemmas.List.Folds.{list_any_at}
use Rattle.jiff_core.proofs.SignedLemmas.{signed_arith, one_part}
use Rattle.td_civil.specs.declared.moment_type.TheConstants.{LO}
use Rattle.td_civil.specs.declared.local_time.Local.{Local}
use Rattle.recurrence.specs.declared.part_types.Part.{Part}
use Rattle.vtimezone_reader.specs.declared.turns.PartOnset.{PartOnset}
use Rattle.td_civil.specs.declared.local_time.Observance.{Observance}
use Rattle.recurrence.specs.InForce.{state_of_part}
use Rattle.zone_meaning.specs.Observed.{changes_between}
use Rattle.vtimezone_reader.specs.Observing.{NoneBetween, IsTurnAt, any_onset, change_if}
use Rattle.vtimezone_reader.specs.Onsets.{has_onset, begun_at, no_state, calendar_state}
use Rattle.vtimezone_reader.specs.Turns.{turn_at, AreTurns, since, HaveCome, AreAt, AreTogether, IsBeforeOnset, IsStateOr}
use Rattle.vtimezone_reader.proofs.States.{none_begun, no_state_before}
use Rattle.vtimezone_reader.proofs.TurnLists.{by_lt_n}
use Rattle.vtimezone_reader.proofs.Walk.{turn_state, listed_more, listed_all, still_state}
use Rattle.vtimezone_reader.proofs.Tests.{not_true, either_is, int_same}

-- ---- where an onset is

pub record HasPlace (parts : List Part) (v : ℤ) : Type 0 where
  pub place : ℕ
  pub inside : place < length parts
  pub has : (d : Part) → has_onset (get_or parts place d) v ≡ true

pub any_place : (parts : List Part) (v : ℤ) → any_onset parts v ≡ true → HasPlace parts v
any_place [] v e = absurd (cc)
any_place (p ∷ ps) v e = elim (either_is (has_onset p v) (any_onset ps v) e) [
  | inl x ↦ record { place = 0; inside = omega arith; has = λ d. x }
  | inr x ↦
      let there = any_place ps v x in
      let inside = there.inside in
      record { place = suc there.place; inside = omega (arith, inside); has = there.has }
]

pub place_any : (parts : List Part) (v : ℤ) (k : ℕ) → k < length parts → ((d : Part) → has_onset (get_or parts k d) v ≡ true) → any_onset parts v ≡ true
place_any [] v k lt h = absurd (omega arith)
place_any (p ∷ ps) v k lt h = list_any_at (λ q. has_onset q v) (p ∷ ps) k p lt (h p)

-- of the parts with an onset at m, the last one is that which has begun
begun_is : (parts : List Part) (m : ℤ) (k : ℕ) → k < length parts → ((d : Part) → has_onset (get_or parts k d) m ≡ true)
    → ((j : ℕ) → k < j → j < length parts → ((d : Part) → has_onset (get_or parts j d) m ≡ true) → ⊥) → (d : Part) → begun_at parts m ≡ Some (get_or parts k d)
unfolding begun_at
begun_is [] m k lt h last d = absurd (omega arith)
begun_is (p ∷ ps) m zero lt h last d =
    let none : begun_at ps m ≡ None = none_begun ps m (not_true (any_onset ps m) (λ e.
    let there = any_place ps m e in
    let inside = there.inside in
    last (suc there.place) (omega arith) (omega (arith, inside)) there.has)) in
    ap (λ o. option_or o (if has_onset p m then Some p else None)) none ∙ cond-true (has_onset p m) (Some p) None (h d)
begun_is (p ∷ ps) m (suc k) lt h last d =
    ap (λ o. option_or o (if has_onset p m then Some p else None))
    (begun_is ps m k (omega arith) h (λ j later inside has. last (suc j) (omega (arith, later)) (omega (arith, inside)) has) d)

-- ---- turns in rising order

pub in_list : (turns : List PartOnset) (k : ℕ) (d : PartOnset) → k < length turns → Contains turns (get_or turns k d)
in_list turns k d lt = (k, lt, get_or_default turns k (get_or turns k d) d lt)

nearer_is : (x y : ℤ) → LO ≤ℤ x → LO ≤ℤ y → unsigned_abs (x -ℤ LO) ≤ unsigned_abs (y -ℤ LO) → x ≤ℤ y
nearer_is x y low also le =
    let one = one_part (x -ℤ LO) in
    let two = one_part (y -ℤ LO) in
    omega (arith, signed_arith, one, two, low, also, le)

rises : (parts : List Part) (n : ℕ) (t end : ℤ) (turns : List PartOnset) → (LO -ℤ pos 1) ≤ℤ t → AreTurns parts n t end turns → IsNonDecreasingBy since turns
    → (i j : ℕ) (d : PartOnset) → i ≤ j → j < length turns → (get_or turns i d).onset.seconds ≤ℤ (get_or turns j d).onset.seconds
rises parts n t end turns low are rising i j d le lt =
    let one = (are.each (get_or turns i d) (in_list turns i d (omega arith))).after in
    let two = (are.each (get_or turns j d) (in_list turns j d lt)).after in
    nearer_is (get_or turns i d).onset.seconds (get_or turns j d).onset.seconds (omega (arith, signed_arith, low, one)) (omega (arith, signed_arith, low, two))
    (rising i j d le lt)

-- before the next turn no part has an onset
none_ahead : (parts : List Part) (t end at u : ℤ) (n : ℕ) (turns : List PartOnset) → AreTurns parts (length parts) t end turns → HaveCome turns at n → t ≤ℤ at
    → u ≤ℤ end
    → ((k : ℕ) (d : PartOnset) → n ≤ k → k < length turns → u ≤ℤ (get_or turns k d).onset.seconds) → NoneBetween (any_onset parts) at u
none_ahead parts t end at u n turns are come begun by ahead v later before =
    not_true (any_onset parts v) (λ e.
    let there = any_place parts v e in
    let turn = are.every there.place v there.inside (omega (arith, signed_arith, begun, later)) (omega (arith, signed_arith, by, before)) there.has in
    let x = turn_at v there.place in
    let on : (get_or turns turn.0 x).onset.seconds ≡ v = ap (λ (y : PartOnset). y.onset.seconds) turn.2 in
    by_lt_n turn.0 n
    (λ lt. let past = come.past turn.0 x lt in omega (arith, signed_arith, on, past, later))
    (λ ge. let next = ahead turn.0 x ge turn.1 in omega (arith, signed_arith, on, next, before)))

-- ---- turns at one moment

pub at_begin : (turns : List PartOnset) (from : ℕ) (d : PartOnset) → from < length turns
    → AreAt turns from (from + 1) (get_or turns from d).onset.seconds (get_or turns from d).part
at_begin turns from d lt = record {
  after = omega arith;
  bound = omega arith;
  same = λ k e low high. ap (λ (x : PartOnset). x.onset.seconds) (same k e low high);
  most = λ k e low high. let is = ap (λ (x : PartOnset). x.part) (same k e low high) in omega (arith, is);
  one = in_list turns from d lt;
}
  where
    same : (k : ℕ) (e : PartOnset) → from ≤ k → k < from + 1 → get_or turns k e ≡ get_or turns from d
    same k e low high =
        let is : k ≡ from = omega (arith, low, high) in
        ap (λ j. get_or turns j e) is ∙ get_or_default turns from e d lt

max_parts : (a b : ℕ) → ((max a b ≡ a) × (b ≤ a)) ⊎ ((max a b ≡ b) × (a ≤ b))
max_parts a b = by_lt_n a b (λ lt. inr (omega (arith, lt), omega (arith, lt))) (λ ge. inl (omega (arith, ge), omega (arith, ge)))

pub at_more : (turns : List PartOnset) (from to : ℕ) (m : ℤ) (part most : ℕ) (d : PartOnset) → AreAt turns from to m part → to < length turns
    → (get_or turns to d).onset.seconds ≡ m → most ≡ max part (get_or turns to d).part → AreAt turns from (to + 1) m most
at_more turns from to m part most d a lt on is =
    let x = get_or turns to d in
    let after = a.after in
    record {
      after = omega (arith, after);
      bound = omega (arith, lt);
      same = λ k e low high. by_lt_n k to (λ before. a.same k e low before)
          (λ ge. ap (λ (y : PartOnset). y.onset.seconds) (this k e ge high) ∙ on);
      most = λ k e low high. by_lt_n k to
          (λ before. let by = a.most k e low before in omega (arith, by, is))
          (λ ge. let here = ap (λ (y : PartOnset). y.part) (this k e ge high) in omega (arith, here, is));
      one = elim (max_parts part x.part) [
        | inl y ↦
            let P : ℕ → Type 0 = λ k. Contains turns (turn_at m k) in
            subst P (sym (is ∙ y.0)) a.one
        | inr y ↦
            let P : ℕ → Type 0 = λ k. Contains turns (turn_at m k) in
            let Q : ℤ → Type 0 = λ v. Contains turns (turn_at v x.part) in
            subst P (sym (is ∙ y.0)) (subst Q on (in_list turns to d lt))
      ];
    }
  where
    this : (k : ℕ) (e : PartOnset) → to ≤ k → k < to + 1 → get_or turns k e ≡ get_or turns to d
    this k e low high =
        let same : k ≡ to = omega (arith, low, high) in
        ap (λ j. get_or turns j e) same ∙ get_or_default turns to e d lt

-- ---- the walk

-- what a walk rests on
pub record IsWalked (parts : List Part) (t end at : ℤ) (n : ℕ) (turns : List PartOnset) : Type 0 where
  pub low : (LO -ℤ pos 1) ≤ℤ t
  pub are : AreTurns parts (length parts) t end turns
  pub rising : IsNonDecreasingBy since turns
  pub begun : t ≤ℤ at
  pub come : HaveCome turns at n

pub come_first : (parts : List Part) (t end : ℤ) (turns : List PartOnset) → AreTurns parts (length parts) t end turns → HaveCome turns t 0
come_first parts t end turns are = record {
  bound = omega arith;
  past = λ k d lt. absurd (omega (arith, lt));
  ahead = λ k d low lt. (are.each (get_or turns k d) (in_list turns k d lt)).after;
}

-- the turns at the next moment have come with it
pub come_next : (parts : List Part) (t end at m : ℤ) (n to part : ℕ) (turns : List PartOnset) → IsWalked parts t end at n turns → n < length turns
    → AreTogether turns n to m part → HaveCome turns m to
come_next parts t end at m n to part turns w lt both =
    let a = both.at in
    let bound = a.bound in
    let after = a.after in
    record {
      bound = bound;
      past = λ k d before. by_lt_n k n
          (λ sooner. let past = w.come.past k d sooner in let ahead = w.come.ahead n d (omega arith) lt in let on = a.same n d (omega arith) after in
          omega (arith, signed_arith, past, ahead, on))
          (λ ge. let on = a.same k d ge before in omega (arith, signed_arith, on));
      ahead = λ k d low high.
          let rise = rises parts (length parts) t end turns w.low w.are w.rising n to d (omega (arith, after)) (omega (arith, low, high)) in
          let more = rises parts (length parts) t end turns w.low w.are w.rising to k d low high in
          let on = a.same n d (omega arith) after in
          let other = both.ended d (omega (arith, low, high)) in
          above m (get_or turns to d).onset.seconds (get_or turns k d).onset.seconds (omega (arith, signed_arith, on, rise)) more other;
    }
  where
    above : (m x y : ℤ) → m ≤ℤ x → x ≤ℤ y → x ≢ m → m <ℤ y
    above m x y le more other = by_lt_z m x (λ lt. omega (arith, signed_arith, lt, more)) (λ ge. absurd (other (omega (arith, signed_arith, le, ge))))

-- and tell the next onset of the parts
pub turn_next : (parts : List Part) (t end at m : ℤ) (n to part : ℕ) (turns : List PartOnset) → IsWalked parts t end at n turns → n < length turns
    → AreTogether turns n to m part → IsTurnAt parts at end m part
turn_next parts t end at m n to part turns w lt both =
    let a = both.at in
    let x = turn_at m part in
    let there = w.are.each x a.one in
    let after = a.after in
    let begun = w.begun in
    let come = come_next parts t end at m n to part turns w lt both in
    let first : (d : PartOnset) → (get_or turns n d).onset.seconds ≡ m = λ d. a.same n d (omega arith) after in
    let later : at <ℤ m = (let ahead = w.come.ahead n x (omega arith) lt in let on = first x in omega (arith, signed_arith, ahead, on)) in
    let before = there.before in
    let inside = there.inside in
    record {
      next = record {
        later = later;
        before = before;
        passes = place_any parts m part inside there.passes;
        none = none_ahead parts t end at m n turns w.are w.come begun (omega (arith, signed_arith, before))
            (λ k d low high. let on = first d in let rise = rises parts (length parts) t end turns w.low w.are w.rising n k d low high in omega
            (arith, signed_arith, on, rise));
      };
      inside = inside;
      part = λ d. begun_is parts m part inside there.passes (λ j more within_parts has.
          let turn = w.are.every j m within_parts (omega (arith, signed_arith, begun, later)) before has in
          let y = turn_at m j in
          let on : (get_or turns turn.0 y).onset.seconds ≡ m = ap (λ (z : PartOnset). z.onset.seconds) turn.2 in
          let of : (get_or turns turn.0 y).part ≡ j = ap (λ (z : PartOnset). z.part) turn.2 in
          by_lt_n turn.0 n
          (λ sooner. let past = w.come.past turn.0 y sooner in omega (arith, signed_arith, past, on, later))
          (λ ge. by_lt_n turn.0 to
          (λ within. let most = a.most turn.0 y ge within in omega (arith, most, of, more))
          (λ beyond. let ahead = come.ahead turn.0 y beyond turn.1 in omega (arith, signed_arith, ahead, on)))) d;
    }

-- no turn is left before u
pub none_left : (parts : List Part) (t end at u : ℤ) (n : ℕ) (turns : List PartOnset) → IsWalked parts t end at n turns → u ≤ℤ end
    → ((d : PartOnset) → n < length turns → u ≤ℤ (get_or turns n d).onset.seconds) → NoneBetween (any_onset parts) at u
none_left parts t end at u n turns w by next =
    none_ahead parts t end at u n turns w.are w.come w.begun by
    (λ k d low high.
    let first = next d (omega (arith, low, high)) in
    let rise = rises parts (length parts) t end turns w.low w.are w.rising n k d low high in
    omega (arith, signed_arith, first, rise))

-- ---- a walk to the state at a moment

-- how far the walk has come, with the state that the turns so far tell
pub record IsWalkedTo (parts : List Part) (t : ℤ) (turns : List PartOnset) (n : ℕ) (state : Local) : Type 0 where
  pub from : ℤ
  pub at : ℤ
  pub walked : IsWalked parts from (t +ℤ pos 1) at n turns
  pub by : at ≤ℤ t
  pub state_is : IsStateOr parts t at state

pub walk_begins : (parts : List Part) (t from end : ℤ) (turns : List PartOnset) → LO ≤ℤ t → IsBeforeOnset parts t from → end ≡ t +ℤ pos 1
    → AreTurns parts (length parts) from end turns → IsNonDecreasingBy since turns → IsWalkedTo parts t turns 0 no_state
walk_begins parts t from end turns low before is are rising =
    let Turns : ℤ → Type 0 = λ e. AreTurns parts (length parts) from e turns in
    let all : AreTurns parts (length parts) from (t +ℤ pos 1) turns = subst Turns is are in
    let range = bounds before in
    record {
      from = from;
      at = from;
      walked = record { low = range.0; are = all; rising = rising; begun = omega (arith, signed_arith); come = come_first parts from (t +ℤ pos 1) turns all };
      by = range.1;
      state_is = known before;
    }
  where
    bounds : IsBeforeOnset parts t from → ((LO -ℤ pos 1) ≤ℤ from) × (from ≤ℤ t)
    bounds (inl same) = (omega (arith, signed_arith, same), omega (arith, signed_arith, same, low))
    bounds (inr more) = let l = more.low in let b = more.by in (omega (arith, signed_arith, l), omega (arith, signed_arith, b))

    known : IsBeforeOnset parts t from → IsStateOr parts t from no_state
    known (inl same) = inl (sym (ap (calendar_state parts) same ∙ no_state_before parts))
    known (inr more) = inr more

pub walk_inside : (parts : List Part) (t : ℤ) (turns : List PartOnset) (n to part : ℕ) (state : Local) → IsWalkedTo parts t turns n state → n < length turns
    → ((d : PartOnset) → AreTogether turns n to (get_or turns n d).onset.seconds part) → part < length parts
walk_inside parts t turns n to part state w lt both =
    let d = turn_at (pos 0) 0 in
    (turn_next parts w.from (t +ℤ pos 1) w.at (get_or turns n d).onset.seconds n to part turns w.walked lt (both d)).inside

pub walk_goes_on : (parts : List Part) (t : ℤ) (turns : List PartOnset) (n to part : ℕ) (state now : Local) (p : Part) → IsWalkedTo parts t turns n state
    → n < length turns
    → ((d : PartOnset) → AreTogether turns n to (get_or turns n d).onset.seconds part) → p ≡ get_or parts part p → now ≡ state_of_part p
    → IsWalkedTo parts t turns to now
walk_goes_on parts t turns n to part state now p w lt both is told =
    let d = turn_at (pos 0) 0 in
    let m = (get_or turns n d).onset.seconds in
    let turn = turn_next parts w.from (t +ℤ pos 1) w.at m n to part turns w.walked lt (both d) in
    let come = come_next parts w.from (t +ℤ pos 1) w.at m n to part turns w.walked lt (both d) in
    let later = turn.next.later in
    let before = turn.next.before in
    let low = w.walked.low in
    let begun = w.walked.begun in
    record {
      from = w.from;
      at = m;
      walked = record { low = low; are = w.walked.are; rising = w.walked.rising; begun = omega (arith, signed_arith, begun, later); come = come };
      by = omega (arith, signed_arith, before);
      state_is = inl (turn_state parts w.at (t +ℤ pos 1) m part p now (omega (arith, signed_arith, low, begun)) turn is told);
    }

pub walk_ends : (parts : List Part) (t : ℤ) (turns : List PartOnset) (n : ℕ) (state : Local) → IsWalkedTo parts t turns n state → length turns ≤ n
    → state ≡ calendar_state parts t
walk_ends parts t turns n state w all =
    let low = w.walked.low in
    let begun = w.walked.begun in
    let by = w.by in
    let none = none_left parts w.from (t +ℤ pos 1) w.at (t +ℤ pos 1) n turns w.walked (omega (arith, signed_arith)) (λ d lt. absurd (omega (arith, lt, all))) in
    elim w.state_is [
      | inl is ↦ still_state parts w.at t (t +ℤ pos 1) state (omega (arith, signed_arith, low, begun)) (omega (arith, signed_arith, by)) refl none is
      | inr more ↦
          let there = more.by in
          let not = none (w.at +ℤ pos 1) (omega (arith, signed_arith)) (omega (arith, signed_arith, there)) in
          let is = more.onset in
          absurd (cc)
    ]

-- ---- a walk over the changes of a range

-- how far the walk has come: what is listed, with the changes that are left, is all
pub record IsListedTo (parts : List Part) (t end : ℤ) (turns : List PartOnset) (n : ℕ) (before : Local) (out all : List Observance) : Type 0 where
  pub at : ℤ
  pub walked : IsWalked parts t end at n turns
  pub ahead : at <ℤ end
  pub state_is : before ≡ calendar_state parts at
  pub listed : out ++ changes_between (calendar_state parts) at end ≡ all

pub list_begins : (parts : List Part) (t end : ℤ) (turns : List PartOnset) (state : Local) (out : List Observance) → LO ≤ℤ t → t <ℤ end
    → AreTurns parts (length parts) t end turns → IsNonDecreasingBy since turns → state ≡ calendar_state parts t
    → IsListedTo parts t end turns 0 state out (out ++ changes_between (calendar_state parts) t end)
list_begins parts t end turns state out low range are rising is = record {
  at = t;
  walked = record {
    low = omega (arith, signed_arith, low);
    are = are;
    rising = rising;
    begun = omega (arith, signed_arith);
    come = come_first parts t end
        turns are;
  };
  ahead = range;
  state_is = is;
  listed = refl;
}

pub list_inside : (parts : List Part) (t end : ℤ) (turns : List PartOnset) (n to part : ℕ) (before : Local) (out all : List Observance)
    → IsListedTo parts t end turns n before out all → n < length turns → ((d : PartOnset) → AreTogether turns n to (get_or turns n d).onset.seconds part)
    → part < length parts
list_inside parts t end turns n to part before out all w lt both =
    let d = turn_at (pos 0) 0 in
    (turn_next parts t end w.at (get_or turns n d).onset.seconds n to part turns w.walked lt (both d)).inside

pub list_goes_on : (parts : List Part) (t end : ℤ) (turns : List PartOnset) (n to part : ℕ) (before now : Local) (p : Part) (x : PartOnset)
    (out more all : List Observance)
    → IsListedTo parts t end turns n before out all → n < length turns → x ≡ get_or turns n x
    → ((d : PartOnset) → AreTogether turns n to (get_or turns n d).onset.seconds part) → p ≡ get_or parts part p → now ≡ state_of_part p
    → more ≡ out ++ change_if x.onset before now → IsListedTo parts t end turns to now more all
list_goes_on parts t end turns n to part before now p x out more all w lt on both is told added =
    let m = x.onset.seconds in
    let same : (get_or turns n x).onset.seconds ≡ m = ap (λ (y : PartOnset). y.onset.seconds) (sym on) in
    let Together : ℤ → Type 0 = λ v. AreTogether turns n to v part in
    let here : AreTogether turns n to m part = subst Together same (both x) in
    let turn = turn_next parts t end w.at m n to part turns w.walked lt here in
    let come = come_next parts t end w.at m n to part turns w.walked lt here in
    let later = turn.next.later in
    let low = w.walked.low in
    let begun = w.walked.begun in
    let from : (LO -ℤ pos 1) ≤ℤ w.at = omega (arith, signed_arith, low, begun) in
    let state = turn_state parts w.at end m part p now from turn is told in
    record {
      at = m;
      walked = record { low = low; are = w.walked.are; rising = w.walked.rising; begun = omega (arith, signed_arith, begun, later); come = come };
      ahead = turn.next.before;
      state_is = state;
      listed = listed_more parts out more all w.at end x.onset part before now from turn w.state_is state added w.listed;
    }

pub list_ends : (parts : List Part) (t end : ℤ) (turns : List PartOnset) (n : ℕ) (before : Local) (out all : List Observance)
    → IsListedTo parts t end turns n before out all → length turns ≤ n → out ≡ all
list_ends parts t end turns n before out all w done =
    let low = w.walked.low in
    let begun = w.walked.begun in
    let none = none_left parts t end w.at end n turns w.walked (omega (arith, signed_arith)) (λ d lt. absurd (omega (arith, lt, done))) in
    listed_all parts out all w.at end (omega (arith, signed_arith, low, begun)) w.ahead none w.listed

-- ---- what a loop over the turns at one moment gives

pub at_first : (turns : List PartOnset) (from : ℕ) (first : PartOnset) → from < length turns → first ≡ get_or turns from first
    → AreAt turns from (from + 1) first.onset.seconds first.part
at_first turns from first lt is =
    let P : PartOnset → Type 0 = λ x. AreAt turns from (from + 1) x.onset.seconds x.part in
    subst P (sym is) (at_begin turns from first lt)

int_other : (a b : ℤ) → int_eq a b ≡ false → a ≢ b
int_other a b e = λ same. let yes : int_eq a b ≡ true = grind (arith, ints) in cc

pub at_next : (turns : List PartOnset) (from to part most : ℕ) (first x : PartOnset) → AreAt turns from to first.onset.seconds part → to < length turns
    → x ≡ get_or turns to x → true ≡ int_eq x.onset.seconds first.onset.seconds → most ≡ max part x.part
    → AreAt turns from (to + 1) first.onset.seconds most
at_next turns from to part most first x a lt is on e =
    let onset = ap (λ (y : PartOnset). y.onset.seconds) (sym is) ∙ int_same x.onset.seconds first.onset.seconds (sym on) in
    at_more turns from to first.onset.seconds part most x a lt onset (e ∙ ap (λ (y : PartOnset). max part y.part) is)

are_together : (turns : List PartOnset) (from to part : ℕ) (first : PartOnset) → from < length turns → first ≡ get_or turns from first
    → AreAt turns from to first.onset.seconds part → ((d : PartOnset) → to < length turns → (get_or turns to d).onset.seconds ≢ first.onset.seconds)
    → (d : PartOnset) → AreTogether turns from to (get_or turns from d).onset.seconds part
are_together turns from to part first lt is a ended d =
    let same : first.onset.seconds ≡ (get_or turns from d).onset.seconds =
    ap (λ (x : PartOnset). x.onset.seconds) (is ∙ get_or_default turns from first d lt) in
    let P : ℤ → Type 0 = λ m. AreTogether turns from to m part in
    subst P same (record { at = a; ended = ended })

pub together_early : (turns : List PartOnset) (from to part : ℕ) (first x : PartOnset) → from < length turns → first ≡ get_or turns from first
    → AreAt turns from to first.onset.seconds part → x ≡ get_or turns to x → false ≡ int_eq x.onset.seconds first.onset.seconds
    → (d : PartOnset) → AreTogether turns from to (get_or turns from d).onset.seconds part
together_early turns from to part first x lt is a at off =
    are_together turns from to part first lt is a (λ d inside same.
    int_other x.onset.seconds first.onset.seconds (sym off)
    (ap (λ (y : PartOnset). y.onset.seconds) (at ∙ get_or_default turns to x d inside) ∙ same))

pub together_all : (turns : List PartOnset) (from to part : ℕ) (first : PartOnset) → from < length turns → first ≡ get_or turns from first
    → AreAt turns from to first.onset.seconds part → length turns ≤ to → (d : PartOnset) → AreTogether turns from to (get_or turns from d).onset.seconds part
together_all turns from to part first lt is a all =
    are_together turns from to part first lt is a (λ d inside. absurd (omega (arith, all, inside)))
