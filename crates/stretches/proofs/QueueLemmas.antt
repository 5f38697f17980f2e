-- A queue in which one waits is passed over only so often.
use Rattle.std.proofs.Common.{◌≡◌, ◌≢◌, ℕ, ◌<◌, ◌≤◌, ◌+◌, ◌-◌, ◌^◌, min, max, List, [], ◌∷◌, length, Bool, true, false}
use Rattle.std.proofs.Common.{refl, sym, ap, subst, ◌∙◌, arith}
use Rattle.std.proofs.lemmas.Bool.{true≢false}
use Rattle.stretches.specs.declared.queues.Queue.{Queue}
use Rattle.stretches.specs.declared.queues.Queue.TheVariants as queue
use Rattle.stretches.specs.declared.queues.Shared.{Shared}
use Rattle.stretches.specs.declared.queues.Waiting.{Waiting}
use Rattle.stretches.specs.Queues.{AllAtLeast, PassOver, Served, after_turn, charged, more, most_before, raised, raised_one}
use Rattle.stretches.specs.Queues.{spent_on, waits_in}

-- what was spent on a queue in which one waits stays, and on any other it does not fall
stays : (waits : Bool) (spent served : ℕ) → waits ≡ true → raised_one waits spent served ≡ spent
stays true spent served w = refl
stays false spent served w = absurd (true≢false (sym w))

rises : (waits : Bool) (spent served : ℕ) → spent ≤ raised_one waits spent served
rises true spent served = omega arith
rises false spent served = omega arith

-- a turn adds a microsecond at least, where the count is not at its end
adds : (spent micros : ℕ) → spent + 1 < 2 ^ 64 → 0 < micros → spent + 1 ≤ more spent micros
adds spent micros small some = omega (arith, small, some)

-- what was spent on the queue that is passed over stays as it is
same : (q j : Queue) (s : Shared) (w : Waiting) (m : ℕ) → waits_in w q ≡ true → j ≢ q → spent_on (charged (raised s j w) j m) q ≡ spent_on s q
same queue.Fresh queue.Fresh s w m h n = absurd (n refl)
same queue.Fresh queue.Light s w m h n = stays w.fresh s.fresh s.light h
same queue.Fresh queue.Heavy s w m h n = stays w.fresh s.fresh s.heavy h
same queue.Light queue.Fresh s w m h n = stays w.light s.light s.fresh h
same queue.Light queue.Light s w m h n = absurd (n refl)
same queue.Light queue.Heavy s w m h n = stays w.light s.light s.heavy h
same queue.Heavy queue.Fresh s w m h n = stays w.heavy s.heavy s.fresh h
same queue.Heavy queue.Light s w m h n = stays w.heavy s.heavy s.light h
same queue.Heavy queue.Heavy s w m h n = absurd (n refl)

-- the numbers of one turn: of the queue that waits, of the one that is served, and of the third
turn_by : (n own one other kept next later : ℕ) (w third : Bool) (m : ℕ) → kept ≡ own → own + 1 < 2 ^ 64 → w ≡ true → one ≤ own → 0 < m
    → next ≡ more (raised_one w one one) m → later ≡ raised_one third other one
    → n < (kept + 1 - kept) + ((kept + 1 - next) + (kept + 1 - later)) → n + 1 < (own + 1 - own) + ((own + 1 - one) + (own + 1 - other))
turn_by n own one other kept next later w third m k small waits le some a b less =
    let up = rises third other one in
    let at = ap (λ t. more t m) (stays w one one waits) in
    let more' = adds one m (omega (arith, small, le)) some in
    let next' : one + 1 ≤ next = subst (λ t. one + 1 ≤ t) (sym (a ∙ at)) more' in
    let later' : other ≤ later = subst (λ t. other ≤ t) (sym b) up in
    omega (arith, k, le, next', later', less)

first : (q j : Queue) (s : Shared) (w : Waiting) (m n : ℕ) → spent_on s q + 1 < 2 ^ 64 → waits_in w j ≡ true → AllAtLeast s w j → waits_in w q ≡ true
    → j ≢ q → 0 < m → n < most_before (charged (raised s j w) j m) q → n + 1 < most_before s q
first queue.Fresh queue.Fresh s w m n small wj all wq apart some less = absurd (apart refl)
first queue.Fresh queue.Light s w m n small wj all wq apart some less =
    let d = same queue.Fresh queue.Light s w m wq apart in
    omega (arith, turn_by n s.fresh s.light s.heavy _ _ _ w.light w.heavy m d small wj (all.0 wq) some refl refl (omega (arith, less)))
first queue.Fresh queue.Heavy s w m n small wj all wq apart some less =
    let d = same queue.Fresh queue.Heavy s w m wq apart in
    omega (arith, turn_by n s.fresh s.heavy s.light _ _ _ w.heavy w.light m d small wj (all.0 wq) some refl refl (omega (arith, less)))
first queue.Light queue.Fresh s w m n small wj all wq apart some less =
    let d = same queue.Light queue.Fresh s w m wq apart in
    omega (arith, turn_by n s.light s.fresh s.heavy _ _ _ w.fresh w.heavy m d small wj (all.1 wq) some refl refl (omega (arith, less)))
first queue.Light queue.Light s w m n small wj all wq apart some less = absurd (apart refl)
first queue.Light queue.Heavy s w m n small wj all wq apart some less =
    let d = same queue.Light queue.Heavy s w m wq apart in
    omega (arith, turn_by n s.light s.heavy s.fresh _ _ _ w.heavy w.fresh m d small wj (all.1 wq) some refl refl (omega (arith, less)))
first queue.Heavy queue.Fresh s w m n small wj all wq apart some less =
    let d = same queue.Heavy queue.Fresh s w m wq apart in
    omega (arith, turn_by n s.heavy s.fresh s.light _ _ _ w.fresh w.light m d small wj (all.2 wq) some refl refl (omega (arith, less)))
first queue.Heavy queue.Light s w m n small wj all wq apart some less =
    let d = same queue.Heavy queue.Light s w m wq apart in
    omega (arith, turn_by n s.heavy s.light s.fresh _ _ _ w.light w.fresh m d small wj (all.2 wq) some refl refl (omega (arith, less)))
first queue.Heavy queue.Heavy s w m n small wj all wq apart some less = absurd (apart refl)

-- one is always left over: the queue's own term
none_before : (q : Queue) (s : Shared) → 0 < most_before s q
none_before queue.Fresh s = omega arith
none_before queue.Light s = omega arith
none_before queue.Heavy s = omega arith

pub passed_over : (q : Queue) (s : Shared) (turns : List Served) → spent_on s q + 1 < 2 ^ 64 → PassOver q s turns → length turns < most_before s q
passed_over q s [] small p = none_before q s
passed_over q s (turn ∷ turns) small p =
    let kept = same q turn.queue s turn.waiting turn.micros p.1 p.2 in
    let rest = passed_over q (after_turn s turn) turns (subst (λ t. t + 1 < 2 ^ 64) (sym kept) small) p.4 in
    omega (arith, first q turn.queue s turn.waiting turn.micros (length turns) small p.0.0 p.0.1 p.1 p.2 p.3 rest)
