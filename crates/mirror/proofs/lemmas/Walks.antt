-- One more exchange after those that were taken, and how a sync ends there.
use Rattle.std.proofs.Common.{◌≡◌, ◌⊎◌, inl, inr, ℕ, ◌+◌, ◌-◌, ◌*◌, ◌<◌, ◌≤◌, List, [], ◌∷◌, ◌++◌, length, Result, Ok, Err, refl, sym}
use Rattle.std.proofs.Common.{ap, ◌∙◌, subst, arith, append-nil, length-append}
use Rattle.td_base.specs.Upstreams.{Exchanges, TellsMore, UpstreamView}
use Rattle.td_base.specs.Views.{Rose, one_more}
use Rattle.td_base.specs.declared.report.Ask.{Ask}
use Rattle.td_base.specs.declared.report.Ask.TheVariants as ask
use Rattle.td_base.specs.declared.upstream.Exchange.{Exchange}
use Rattle.td_base.specs.declared.upstream.Exchanged.TheVariants as exchanged
use Rattle.catalogue.specs.declared.limits.TheConstants.{MOST_ZONES}
use Rattle.sync_core.specs.Mirrors.{MirrorState, ask_of}
use Rattle.sync_core.specs.Steps.{settles, sync_step}
use Rattle.sync_core.specs.declared.heard_type.Heard.{Heard}
use Rattle.sync_core.specs.declared.heard_type.Settled.{Settled}
use Rattle.sync_core.specs.declared.heard_type.Settled.TheVariants.{Holds, More}
use Rattle.mirror.specs.Shares.{AsksOn, IsFor, SyncEnds, Syncs, WalksOn, failed, lists_in, not_settled, number_after, refused, settled, starved, unreadable}
use Rattle.mirror.specs.Turns.{HasWalked, Takes, Turn, TurnsOn, asked_none, asked_one, taken_by}
use Rattle.mirror.specs.declared.limits.TheConstants.{MOST_ANSWER, MOST_LISTS}
use Rattle.mirror.specs.declared.sync_fault.SyncFault.{SyncFault}
use Rattle.mirror.specs.declared.sync_fault.SyncFault.TheVariants as fault
use Rattle.mirror.specs.declared.taken_type.Taken.{Taken}
use Rattle.mirror.specs.declared.taken_type.Taken.TheVariants as took
use Rattle.mirror.specs.declared.understood_type.Understood.{Understood}
use Rattle.mirror.specs.declared.understood_type.Understood.TheVariants as understood
use Rattle.mirror.proofs.lemmas.Meanings.{HearsInKind}
use Rattle.mirror.proofs.lemmas.Told.{tells_none, tells_on}
use Rattle.mirror.proofs.Counts.{Pends, got, listed, pends, settled_leaves_none}

-- ---- counts

rose_on : (a b c : ℕ) → a ≤ b → Rose b c → Rose a c
rose_on a b c l r = omega (arith, l, r)

-- ---- walks

walks_on : (written : Ask → List ℕ) (means : Ask → List ℕ → Understood → Type 0)
    (s t : MirrorState) (taken : List Exchange) (before lists : ℕ) (x : Exchange) (h : Heard)
    → WalksOn written means s taken before lists t → IsFor written means t x (understood.Hears h) → settles t h ≡ More → lists < MOST_LISTS
    → WalksOn written means s (taken ++ x ∷ []) before (lists + lists_in (ask_of t)) (sync_step t h)
walks_on written means s t [] before lists x h w f m few = (
  h,
  subst (λ u. IsFor written means u x (understood.Hears h)) w.0 f,
  ap (λ u. settles u h) (sym w.0) ∙ m,
  subst (λ n. n < MOST_LISTS) w.1 few,
  (ap (λ u. sync_step u h) w.0, ap (λ n. n + lists_in (ask_of t)) w.1 ∙ ap (λ u. before + lists_in (ask_of u)) w.0),
)
walks_on written means s t (y ∷ ys) before lists x h w f m few =
    (w.0, w.1, w.2, w.3, walks_on written means (sync_step s w.0) t ys (before + lists_in (ask_of s)) lists x h w.4 f m few)

-- ---- what is left

abbrev pub left : ℕ → ℕ → ℕ
left lists pending = (MOST_LISTS - lists) * (MOST_ZONES + 1) + pending

list_left : (lists p q : ℕ) → lists < MOST_LISTS → p ≡ 0 → q ≤ MOST_ZONES → left (lists + 1) q < left lists p
list_left lists p q few none small = omega (arith, few, none, small)

file_left : (lists p q : ℕ) → q + 1 ≡ p → left lists q < left lists p
file_left lists p q fewer = omega (arith, fewer)

lists_are : (a : Ask) → lists_in a ≤ 1
lists_are (ask.List token) = omega arith
lists_are (ask.Get name) = omega arith

-- ---- what was taken

settled_by : (a : Ask) (k : Settled) → took.Settled ≡ taken_by a k → k ≡ Holds
settled_by a Holds e = refl
settled_by (ask.List token) More e = absurd (cc)
settled_by (ask.Get name) More e = absurd (cc)

listed_by : (a : Ask) (k : Settled) → took.List ≡ taken_by a k → (k ≡ More) × (lists_in a ≡ 1)
listed_by a Holds e = absurd (cc)
listed_by (ask.List token) More e = (refl, refl)
listed_by (ask.Get name) More e = absurd (cc)

got_by : (a : Ask) (k : Settled) → took.File ≡ taken_by a k → (k ≡ More) × (lists_in a ≡ 0)
got_by a Holds e = absurd (cc)
got_by (ask.List token) More e = absurd (cc)
got_by (ask.Get name) More e = (refl, refl)

-- ---- ends

module _ (written : Ask → List ℕ) (means : Ask → List ℕ → Understood → Type 0)
    (s t u : MirrorState) (old now new : UpstreamView) (lists asked number : ℕ)
    (w : HasWalked written means s t old now lists asked) (few : lists < MOST_LISTS) (next : number ≡ one_more asked) where
  told_on : (xs : List Exchange) → TellsMore now.told new.told xs → TellsMore old.told new.told (w.taken ++ xs)
  told_on xs told = tells_on old.told now.told new.told w.taken xs w.told told

  walks_to : u ≡ t → WalksOn written means s w.taken 0 lists u
  walks_to same = subst (λ v. WalksOn written means s w.taken 0 lists v) (sym same) w.walks

  asks_on : (x : Exchange) (m : Understood) → x.request ≡ written (ask_of t) → x.most ≡ MOST_ANSWER → means (ask_of t) x.answer m
      → AsksOn written means s t w.taken x m
  asks_on x m request most is_meant =
      record { lists = lists; walks = w.walks; few = few; is_for = record { request = request; most = most; is_meant = is_meant } }

  asks_to : (x : Exchange) (m : Understood) → u ≡ t → x.request ≡ written (ask_of t) → x.most ≡ MOST_ANSWER → means (ask_of t) x.answer m
      → AsksOn written means s u w.taken x m
  asks_to x m same request most is_meant = subst (λ v. AsksOn written means s v w.taken x m) (sym same) (asks_on x m request most is_meant)

  pub number_is : number ≡ number_after w.taken
  number_is = omega (arith, next, w.count)

  none_ends : (e : SyncFault) (r : Result Taken SyncFault) (xs : List Exchange) → r ≡ Err e → xs ≡ [] → u ≡ t
      → (r ≡ Err fault.UpstreamFault) ⊎ (r ≡ Err fault.NoMemory) → SyncEnds written means s u w.taken xs (Err e)
  none_ends e r xs says is same (inl f) =
      let cause : e ≡ fault.UpstreamFault = cc in failed lists (walks_to same) few is (ap Err cause)
  none_ends e r xs says is same (inr f) =
      let cause : e ≡ fault.NoMemory = cc in starved lists (walks_to same) few (inl is) (ap Err cause)

  one_ends : (e : SyncFault) (xs : List Exchange) (x : Exchange) → xs ≡ x ∷ [] → x.request ≡ written (ask_of t) → x.most ≡ MOST_ANSWER
      → Takes means (ask_of t) t u x.answer number (Err e) → SyncEnds written means s u w.taken xs (Err e)
  one_ends fault.NoMemory xs x is request most same =
      starved lists (walks_to same) few (inr (x, is, request ∙ ap (λ v. written (ask_of v)) (sym same), most)) refl
  one_ends fault.UpstreamFault xs x is request most takes = absurd takes
  one_ends (fault.BadAnswer n place kept) xs x is request most takes =
      unreadable x place (asks_to x (understood.Unreadable place) takes.3 request most takes.0) is
      (ap (λ m. Err (fault.BadAnswer m place kept)) (takes.1 ∙ number_is) ∙ ap (λ k. Err (fault.BadAnswer (number_after w.taken) place k)) takes.2)
  one_ends (fault.Refused n status) xs x is request most takes =
      refused x status (asks_to x (understood.Refuses status) takes.2 request most takes.0) is
      (ap (λ m. Err (fault.Refused m status)) (takes.1 ∙ number_is))
  one_ends (fault.NotSettled n) xs x is request most takes = absurd takes

  fault_ends : (e : SyncFault) (xs : List Exchange) → Turn written means t u xs number (Err e) → SyncEnds written means s u w.taken xs (Err e)
  fault_ends e xs (asked_none is k) = none_ends e (Err e) xs refl is k.0 k.1
  fault_ends e xs (asked_one x is request most takes) = one_ends e xs x is request most takes

  same_cause : (e : SyncFault) (r : Result (Unit {0}) SyncFault) → r ≡ Err e → r ≡ Err fault.UpstreamFault → e ≡ fault.UpstreamFault
  same_cause e r says f = cc

  cause_of : (e : SyncFault) (r : Result Taken SyncFault) → r ≡ Err e → r ≡ Err fault.UpstreamFault → e ≡ fault.UpstreamFault
  cause_of e r says f = cc

  pub fault_syncs : (e : SyncFault) → TurnsOn written means t u now new number (Err e) → Syncs written means s u old new (Err e)
  fault_syncs e o = record {
    taken = w.taken;
    untaken = o.exchanges;
    ends = fault_ends e o.exchanges o.turn;
    told = told_on o.exchanges o.told;
    later = omega (arith, w.steady, o.later);
    failed = λ f. rose_on old.faults now.faults new.faults (omega (arith, w.steady)) (o.failed (ap Err (same_cause e (Err e) refl f)));
    steady = λ not. o.steady (λ f. not (ap Err (cause_of e (Err e) refl f))) ∙ w.steady;
  }

  -- an answer that was taken
  record IsTaken (xs : List Exchange) (k : Taken) : Type 0 where
    x : Exchange
    h : Heard
    is : xs ≡ x ∷ []
    request : x.request ≡ written (ask_of t)
    most : x.most ≡ MOST_ANSWER
    is_meant : means (ask_of t) x.answer (understood.Hears h)
    state : u ≡ sync_step t h
    by : k ≡ taken_by (ask_of t) (settles t h)

  not_failed : (k : Taken) (r : Result Taken SyncFault) → r ≡ Ok k → (r ≡ Err fault.UpstreamFault) ⊎ (r ≡ Err fault.NoMemory) → ⊥
  not_failed k r says (inl e) = cc
  not_failed k r says (inr e) = cc

  no_fault : (k : Taken) (r : Result Taken SyncFault) → r ≡ Ok k → r ≡ Err fault.UpstreamFault → ⊥
  no_fault k r says e = cc

  is_taken : (k : Taken) (xs : List Exchange) → Turn written means t u xs number (Ok k) → IsTaken xs k
  is_taken k xs (asked_none is pair) = absurd (not_failed k (Ok k) refl pair.1)
  is_taken k xs (asked_one x is request most takes) =
      record { x = x; h = takes.0; is = is; request = request; most = most; is_meant = takes.1; state = takes.2; by = takes.3 }

  pub settled_leaves : HearsInKind means → TurnsOn written means t u now new number (Ok took.Settled) → u.pending ≡ []
  settled_leaves kind o =
      let k = is_taken took.Settled o.exchanges o.turn in
      ap (λ (v : MirrorState). v.pending) k.state
      ∙ settled_leaves_none t k.h (kind (ask_of t) k.x.answer k.h k.is_meant) (settled_by (ask_of t) (settles t k.h) k.by)

  pub settled_syncs : TurnsOn written means t u now new number (Ok took.Settled) → Syncs written means s u old new (Ok tt)
  settled_syncs o =
      let k = is_taken took.Settled o.exchanges o.turn in
      record {
        taken = w.taken ++ o.exchanges;
        untaken = [];
        ends = settled w.taken k.x t k.h (asks_on k.x (understood.Hears k.h) k.request k.most k.is_meant)
            (settled_by (ask_of t) (settles t k.h) k.by) k.state (ap (λ l. w.taken ++ l) k.is) refl refl;
        told = subst (TellsMore old.told new.told) (sym (append-nil (w.taken ++ o.exchanges))) (told_on o.exchanges o.told);
        later = omega (arith, w.steady, o.later);
        failed = λ f. absurd (cc);
        steady = λ not. o.steady (no_fault took.Settled (Ok took.Settled) refl) ∙ w.steady;
      }

  goes_on : (k : Taken) (o : TurnsOn written means t u now new number (Ok k)) (i : IsTaken o.exchanges k) → settles t i.h ≡ More
      → HasWalked written means s u old new (lists + lists_in (ask_of t)) number
  goes_on k o i more =
      let longer : length (w.taken ++ o.exchanges) ≡ length w.taken + 1 =
      ap (λ l. length (w.taken ++ l)) i.is ∙ length-append w.taken (i.x ∷ []) in
      let few_in = lists_are (ask_of t) in
      let walks = walks_on written means s t w.taken 0 lists i.x i.h w.walks (record { request = i.request; most = i.most; is_meant = i.is_meant }) more few in
      record {
        taken = w.taken ++ o.exchanges;
        walks = subst (λ v. WalksOn written means s (w.taken ++ o.exchanges) 0 (lists + lists_in (ask_of t)) v) (sym i.state)
            (subst (λ l. WalksOn written means s (w.taken ++ l) 0 (lists + lists_in (ask_of t)) (sync_step t i.h)) (sym i.is) walks);
        count = omega (arith, next, w.count, longer);
        told = told_on o.exchanges o.told;
        steady = o.steady (no_fault k (Ok k) refl) ∙ w.steady;
        few_lists = omega (arith, few, few_in);
      }

  pub list_goes_on : TurnsOn written means t u now new number (Ok took.List) → HasWalked written means s u old new (lists + 1) number
  list_goes_on o =
      let i = is_taken took.List o.exchanges o.turn in
      let by = listed_by (ask_of t) (settles t i.h) i.by in
      subst (λ n. HasWalked written means s u old new (lists + n) number) by.1 (goes_on took.List o i by.0)

  pub file_goes_on : TurnsOn written means t u now new number (Ok took.File) → HasWalked written means s u old new lists number
  file_goes_on o =
      let i = is_taken took.File o.exchanges o.turn in
      let by = got_by (ask_of t) (settles t i.h) i.by in
      let same : lists + 0 ≡ lists = omega arith in
      subst (λ n. HasWalked written means s u old new n number) (ap (λ n. lists + n) by.1 ∙ same) (goes_on took.File o i by.0)

  list_pends : (h : Heard) → u ≡ sync_step t h → lists_in (ask_of t) ≡ 1 → Pends t (sync_step t h)
      → left (lists + 1) (length u.pending) < left lists (length t.pending)
  list_pends h state is (listed none one small) =
      subst (λ (v : MirrorState). left (lists + 1) (length v.pending) < left lists (length t.pending)) (sym state)
      (list_left lists (length t.pending) (length (sync_step t h).pending) few (ap length none) small)
  list_pends h state is (got zero fewer) = absurd (cc (is, zero))

  file_pends : (h : Heard) → u ≡ sync_step t h → lists_in (ask_of t) ≡ 0 → Pends t (sync_step t h)
      → left lists (length u.pending) < left lists (length t.pending)
  file_pends h state is (listed none one small) = absurd (cc (is, one))
  file_pends h state is (got zero fewer) =
      subst (λ (v : MirrorState). left lists (length v.pending) < left lists (length t.pending)) (sym state)
      (file_left lists (length t.pending) (length (sync_step t h).pending) fewer)

  pub list_leaves : HearsInKind means → TurnsOn written means t u now new number (Ok took.List)
      → left (lists + 1) (length u.pending) < left lists (length t.pending)
  list_leaves kind o =
      let i = is_taken took.List o.exchanges o.turn in
      list_pends i.h i.state (listed_by (ask_of t) (settles t i.h) i.by).1 (pends t i.h (kind (ask_of t) i.x.answer i.h i.is_meant))

  pub file_leaves : HearsInKind means → TurnsOn written means t u now new number (Ok took.File)
      → left lists (length u.pending) < left lists (length t.pending)
  file_leaves kind o =
      let i = is_taken took.File o.exchanges o.turn in
      file_pends i.h i.state (got_by (ask_of t) (settles t i.h) i.by).1 (pends t i.h (kind (ask_of t) i.x.answer i.h i.is_meant))

  -- the same, of what was taken as a name says
  taken_as : (k j : Taken) → k ≡ j → TurnsOn written means t u now new number (Ok k) → TurnsOn written means t u now new number (Ok j)
  taken_as k j is o = subst (λ i. TurnsOn written means t u now new number (Ok i)) is o

  pub syncs_at : (k : Taken) → TurnsOn written means t u now new number (Ok k) → k ≡ took.Settled → Syncs written means s u old new (Ok tt)
  syncs_at k o is = settled_syncs (taken_as k took.Settled is o)

  pub leaves_at : HearsInKind means → (k : Taken) → TurnsOn written means t u now new number (Ok k) → k ≡ took.Settled → u.pending ≡ []
  leaves_at kind k o is = settled_leaves kind (taken_as k took.Settled is o)

  pub list_smaller : HearsInKind means → (k : Taken) → TurnsOn written means t u now new number (Ok k) → k ≡ took.List
      → left (lists + 1) (length u.pending) < left lists (length t.pending)
  list_smaller kind k o is = list_leaves kind (taken_as k took.List is o)

  pub file_smaller : HearsInKind means → (k : Taken) → TurnsOn written means t u now new number (Ok k) → k ≡ took.File
      → left lists (length u.pending) < left lists (length t.pending)
  file_smaller kind k o is = file_leaves kind (taken_as k took.File is o)

-- ---- the first and the last

pub begins : (written : Ask → List ℕ) (means : Ask → List ℕ → Understood → Type 0)
    (s : MirrorState) (old : UpstreamView) → HasWalked written means s s old old 0 0
begins written means s old = record {
  taken = [];
  walks = (refl, refl);
  count = omega arith;
  told = tells_none old.told;
  steady = refl;
  few_lists = omega arith;
}

pub unsettled : (written : Ask → List ℕ) (means : Ask → List ℕ → Understood → Type 0)
    (s t : MirrorState) (old now : UpstreamView) (lists asked : ℕ) → HasWalked written means s t old now lists asked
    → MOST_LISTS ≤ lists → Syncs written means s t old now (Err (fault.NotSettled MOST_LISTS))
unsettled written means s t old now lists asked w all = record {
  taken = w.taken;
  untaken = [];
  ends = not_settled (subst (λ n. WalksOn written means s w.taken 0 n t) full w.walks) refl refl;
  told = subst (TellsMore old.told now.told) (sym (append-nil w.taken)) w.told;
  later = omega (arith, w.steady);
  failed = λ f. absurd (cc);
  steady = λ not. w.steady;
}
  where
    full : lists ≡ MOST_LISTS
    full = omega (arith, all, w.few_lists)

-- ---- one exchange

never_upstream : (means : Ask → List ℕ → Understood → Type 0)
    (a : Ask) (s t : MirrorState) (answer : List ℕ) (number : ℕ) (r : Result Taken SyncFault) → Takes means a s t answer number r
    → r ≡ Err fault.UpstreamFault → ⊥
never_upstream means a s t answer number (Ok k) takes e = cc
never_upstream means a s t answer number (Err fault.NoMemory) takes e = cc
never_upstream means a s t answer number (Err fault.UpstreamFault) takes e = takes
never_upstream means a s t answer number (Err (fault.BadAnswer n place kept)) takes e = cc
never_upstream means a s t answer number (Err (fault.Refused n status)) takes e = cc
never_upstream means a s t answer number (Err (fault.NotSettled n)) takes e = takes

pub got_turn : (written : Ask → List ℕ) (means : Ask → List ℕ → Understood → Type 0)
    (s t : MirrorState) (old new : UpstreamView) (a : Ask) (request answer : List ℕ) (number : ℕ)
    (r : Result Taken SyncFault)
    → a ≡ ask_of s → request ≡ written a → Exchanges old new request MOST_ANSWER (exchanged.Got answer) → Takes means a s t answer number r
    → TurnsOn written means s t old new number r
got_turn written means s t old new a request answer number r same is e takes =
    let x : Exchange = record { request = request; most = MOST_ANSWER; answer = answer } in
    record {
      exchanges = x ∷ [];
      turn = asked_one x refl (is ∙ ap written same) refl (subst (λ b. Takes means b s t answer number r) same takes);
      told = e.told;
      later = e.later;
      failed = λ f. absurd (never_upstream means a s t answer number r takes f);
      steady = λ not. e.steady refl;
    }

pub failed_turn : (written : Ask → List ℕ) (means : Ask → List ℕ → Understood → Type 0)
    (s : MirrorState) (old new : UpstreamView) (request : List ℕ) (number : ℕ)
    → Exchanges old new request MOST_ANSWER exchanged.Failed → TurnsOn written means s s old new number (Err fault.UpstreamFault)
failed_turn written means s old new request number e =
    record { exchanges = []; turn = asked_none refl (refl, inl refl); told = e.told; later = e.later; failed = λ f. e.failed refl; steady = λ not. absurd (not refl) }

pub starved_turn : (written : Ask → List ℕ) (means : Ask → List ℕ → Understood → Type 0)
    (s : MirrorState) (old new : UpstreamView) (request : List ℕ) (number : ℕ)
    → Exchanges old new request MOST_ANSWER exchanged.NoMemory → TurnsOn written means s s old new number (Err fault.NoMemory)
starved_turn written means s old new request number e =
    record { exchanges = []; turn = asked_none refl (refl, inr refl); told = e.told; later = e.later; failed = λ f. absurd (cc); steady = λ not. e.steady refl }

pub no_turn : (written : Ask → List ℕ) (means : Ask → List ℕ → Understood → Type 0)
    (s : MirrorState) (old : UpstreamView) (number : ℕ) → TurnsOn written means s s old old number (Err fault.NoMemory)
no_turn written means s old number =
    record { exchanges = []; turn = asked_none refl (refl, inr refl); told = tells_none old.told; later = omega arith; failed = λ f. absurd (cc); steady = λ not. refl }
