-- A connection that was served so far, and how each of its ends follows. `answer` is any way to
-- answer a request at a place of a history of `count` releases.
use Rattle.std.proofs.Common.{◌≡◌, ◌≢◌, lit<, lit≤, ℕ, ◌+◌, ◌<◌, ◌≤◌, List, [], ◌∷◌, ◌++◌, length, length-append, take, Bool, true, false, ◌||◌, ◌==◌}
use Rattle.std.proofs.Common.{Option, inl, inr, refl, sym, ap, ◌∙◌, arith, append_assoc, append-nil}
use Rattle.std.specs.List.{AllByRecursion, list_any}
use Rattle.std.specs.Io.KnownBytes.{IsAtEnd}
use Rattle.std.proofs.lemmas.Bool.{true≢false, eq-eqb}
use Rattle.std.proofs.lemmas.List.Folds.{list_any-append}
use Rattle.http_answer.specs.Replies.{fixed}
use Rattle.http_answer.specs.declared.answer.Answer.{Answer}
use Rattle.http_request.specs.Asks.{Asks, Bad, Gives, Rest}
use Rattle.http_request.specs.Ends.{end_among, head_lines_from}
use Rattle.http_request.specs.Steps.{IsStep, NotYet, Waiting}
use Rattle.http_request.specs.declared.head.Head.{Head}
use Rattle.td_base.specs.declared.report.End.{End}
use Rattle.td_base.specs.declared.report.End.TheVariants as end
use Rattle.td_base.specs.declared.report.TheConstants.{MOST_PLACES}
use Rattle.connection.specs.Answering.{HasReplied}
use Rattle.connection.specs.Replies.{IsOpen, is_last, replies, replies_after, reply_at}
use Rattle.connection.specs.FaultCounts.{AreLater, FaultCounts, ReadFailed, WriteFailed}
use Rattle.connection.specs.Served.{ArePlaces, ByInput, ByRefusal, ByRequest, IsNeeded, IsStarved, IsTold, NeverFall, Served, Transcript}

-- ---- places

all_more : (P : ℕ → Type 0) (ps : List ℕ) (p : ℕ) → AllByRecursion P ps → P p → AllByRecursion P (ps ++ p ∷ [])
all_more P [] p a x = (x, tt)
all_more P (q ∷ qs) p a x = (a.0, all_more P qs p a.1 x)

all_wider : (n m : ℕ) (ps : List ℕ) → n ≤ m → AllByRecursion (λ p. (1 ≤ p) × (p ≤ n)) ps → AllByRecursion (λ p. (1 ≤ p) × (p ≤ m)) ps
all_wider n m [] le a = tt
all_wider n m (p ∷ ps) le a = ((a.0.0, omega (arith, a.0.1, le)), all_wider n m ps le a.1)

never_more : (n place : ℕ) (ps : List ℕ) → AllByRecursion (λ p. (1 ≤ p) × (p ≤ n)) ps → n ≤ place → NeverFall ps → NeverFall (ps ++ place ∷ [])
never_more n place [] a le r = (tt, tt)
never_more n place (p ∷ ps) a le r = (all_more (λ q. p ≤ q) ps place r.0 (omega (arith, a.0.1, le)), never_more n place ps a.1 le r.1)

pub places_none : (n : ℕ) → ArePlaces n []
places_none n = record { within = tt; rising = tt }

-- places of a history are places of a longer one
pub wider : (n m : ℕ) (ps : List ℕ) → n ≤ m → ArePlaces n ps → ArePlaces m ps
wider n m ps le a = record { within = all_wider n m ps le a.within; rising = a.rising }

-- one more place, which is the last
pub places_more : (n place : ℕ) (ps : List ℕ) → place ≡ n → 1 ≤ place → ArePlaces n ps → ArePlaces n (ps ++ place ∷ [])
places_more n place ps e some a = record {
  within = all_more (λ p. (1 ≤ p) × (p ≤ n)) ps place a.within (some, omega (arith, e));
  rising = never_more n place ps a.within (omega (arith, e)) a.rising;
}

-- ---- one more reply

replies_more : (answer : ℕ → Head → Answer) (before : ℕ) (heads : List Head) (head : Head) (places : List ℕ) (place : ℕ)
    → length places ≡ length heads
    → replies_after answer before (heads ++ head ∷ []) (places ++ place ∷ [])
    ≡ replies_after answer before heads places ++ reply_at answer (before + length heads) head place
unfolding replies_after
replies_more answer before [] head [] place e =
    append-nil (reply_at answer before head place) ∙ ap (λ n. reply_at answer n head place) (omega arith)
replies_more answer before [] head (q ∷ qs) place e = absurd (omega (arith, e))
replies_more answer before (h ∷ hs) head [] place e = absurd (omega (arith, e))
replies_more answer before (h ∷ hs) head (q ∷ qs) place e =
    ap (λ l. reply_at answer before h q ++ l) (replies_more answer (before + 1) hs head qs place (omega (arith, e)))
    ∙ (ap (λ n. reply_at answer before h q ++ (replies_after answer (before + 1) hs qs ++ reply_at answer n head place)) (omega arith)
    ∙ sym (append_assoc (reply_at answer before h q) (replies_after answer (before + 1) hs qs)
    (reply_at answer (before + length (h ∷ hs)) head place)))

replies_next : (answer : ℕ → Head → Answer) (heads : List Head) (head : Head) (places : List ℕ) (place : ℕ) → length places ≡ length heads
    → replies answer (heads ++ head ∷ []) (places ++ place ∷ []) ≡ replies answer heads places ++ reply_at answer (length heads) head place
replies_next answer heads head places place e =
    replies_more answer 0 heads head places place e
    ∙ ap (λ n. replies answer heads places ++ reply_at answer n head place) (omega arith)

one_longer : {A : Type 0} (xs : List A) (x : A) → length (xs ++ x ∷ []) ≡ length xs + 1
one_longer xs x = length-append xs (x ∷ [])

pub both_longer : (places : List ℕ) (place : ℕ) (heads : List Head) (head : Head) → length places ≡ length heads
    → length (places ++ place ∷ []) ≡ length (heads ++ head ∷ [])
both_longer places place heads head e = omega (arith, e, one_longer places place, one_longer heads head)

pub replied_more : (answer : ℕ → Head → Answer) (given : List Head) (places written : List ℕ) (head : Head) (place : ℕ) (reply : List ℕ)
    → HasReplied answer given places written → reply ≡ reply_at answer (length given) head place
    → HasReplied answer (given ++ head ∷ []) (places ++ place ∷ []) (written ++ reply)
replied_more answer given places written head place reply h r = record {
  placed = both_longer places place given head h.placed;
  told = ap (λ w. w ++ reply) h.told
      ∙ (ap (λ l. replies answer given places ++ l) r ∙ sym (replies_next answer given head places place h.placed));
}

-- ---- whether the connection is open

any_more : (heads : List Head) (head : Head) → list_any (λ h. h.close) heads ≡ false → head.close ≡ false
    → list_any (λ h. h.close) (heads ++ head ∷ []) ≡ false
any_more heads head a e = list_any-append (λ h. h.close) heads (head ∷ []) ∙ rw (a, e) refl

pub both_false : (a b : Bool) → (a || b) ≡ false → (a ≡ false) × (b ≡ false)
both_false true b e = absurd (true≢false e)
both_false false b e = (refl, e)

not_equal : (n m : ℕ) → (n == m) ≡ false → n ≢ m
not_equal n m e = λ f. true≢false (sym (eq-eqb n m f) ∙ e)

few_more : (n : ℕ) → n < MOST_PLACES → n + 1 ≢ MOST_PLACES → n + 1 < MOST_PLACES
few_more n a b = omega (arith, a, b)

pub open_more : (heads : List Head) (head : Head) → IsOpen heads → is_last (length heads) head ≡ false → IsOpen (heads ++ head ∷ [])
open_more heads head o e =
    let parts : (head.close ≡ false) × ((length heads + 1 == MOST_PLACES) ≡ false) = both_false head.close (length heads + 1 == MOST_PLACES) e in
    record {
      kept = any_more heads head o.kept parts.0;
      few = rw (one_longer heads head) (few_more (length heads) o.few (not_equal (length heads + 1) MOST_PLACES parts.1));
    }

pub open_none : IsOpen []
open_none = record { kept = refl; few = lit< tt }

pub replied_none : (answer : ℕ → Head → Answer) → HasReplied answer [] [] []
unfolding replies_after
replied_none answer = record { placed = refl; told = refl }

-- ---- the ends

module _ (answer : ℕ → Head → Answer) (count : ℕ) (read : List ℕ) (left : Option (List ℕ)) (a b : FaultCounts) (need : IsNeeded read) where
  pub closed_by_request : (written places : List ℕ) (before : List Head) (last : Head) (held : List ℕ)
      → ArePlaces count places → HasReplied answer (before ++ last ∷ []) places written → Gives read (before ++ last ∷ []) held → IsOpen before
      → is_last (length before) last ≡ true → b ≡ a
      → Served answer count (record { read = read; left = left; written = written; places = places }) a b end.Closed
  closed_by_request written places before last held are h g o l steady = record {
    needed = need;
    places = are;
    ends = record {
      heads = before ++ last ∷ [];
      finish = ByRequest;
      finishes = record {
        before = before;
        last = last;
        held = held;
        heads_are = refl;
        gives = g;
        open_before = o;
        closes = l;
      };
      placed = h.placed;
      written = h.told ∙ sym (append-nil (replies answer (before ++ last ∷ []) places));
      steady = steady;
    };
  }

  pub closed_by_refusal : (written places : List ℕ) (heads : List Head) (status : ℕ)
      → ArePlaces count places → HasReplied answer heads places written → Asks read heads (Bad status) → IsOpen heads → b ≡ a
      → Served answer count (record { read = read; left = left; written = written ++ fixed status; places = places }) a b end.Closed
  closed_by_refusal written places heads status are h asks o steady = record {
    needed = need;
    places = are;
    ends = record {
      heads = heads;
      finish = ByRefusal status;
      finishes = (asks, o);
      placed = h.placed;
      written = ap (λ w. w ++ fixed status) h.told;
      steady = steady;
    };
  }

  pub closed_by_input : (written places : List ℕ) (heads : List Head) (held : List ℕ)
      → ArePlaces count places → HasReplied answer heads places written → Asks read heads (Rest held) → IsOpen heads → IsAtEnd left → b ≡ a
      → Served answer count (record { read = read; left = left; written = written; places = places }) a b end.Closed
  closed_by_input written places heads held are h asks o e steady = record {
    needed = need;
    places = are;
    ends = record {
      heads = heads;
      finish = ByInput;
      finishes = (held, asks, o, e);
      placed = h.placed;
      written = h.told ∙ sym (append-nil (replies answer heads places));
      steady = steady;
    };
  }

  pub read_failed : (written places : List ℕ) (heads : List Head) (held : List ℕ)
      → ArePlaces count places → HasReplied answer heads places written → Asks read heads (Rest held) → IsOpen heads → ReadFailed a b
      → Served answer count (record { read = read; left = left; written = written; places = places }) a b end.ReadFault
  read_failed written places heads held are h asks o f = record {
    needed = need;
    places = are;
    ends = record { heads = heads; held = held; asks = asks; open_after = o; placed = h.placed; written = h.told; cause = f };
  }

  pub reply_cut : (written places : List ℕ) (before : List Head) (last : Head) (held : List ℕ) (place : ℕ) (reply : List ℕ) (sent : ℕ)
      → ArePlaces count (places ++ place ∷ []) → HasReplied answer before places written → Gives read (before ++ last ∷ []) held → IsOpen before
      → reply ≡ reply_at answer (length before) last place → WriteFailed a b
      → Served answer count (record { read = read; left = left; written = written ++ take sent reply; places = places ++ place ∷ [] }) a b
      end.WriteFault
  reply_cut written places before last held place reply sent are h g o r f = record {
    needed = need;
    places = are;
    ends = record {
      cut = inl (record {
        before = before;
        last = last;
        held = held;
        gives = g;
        open_before = o;
        places = places;
        place = place;
        placed = (h.placed, refl);
        sent = sent;
        written = ap (λ w. w ++ take sent reply) h.told ∙ ap (λ l. replies answer before places ++ take sent l) r;
      });
      cause = f;
    };
  }

  pub refusal_cut : (written places : List ℕ) (heads : List Head) (status sent : ℕ)
      → ArePlaces count places → HasReplied answer heads places written → Asks read heads (Bad status) → IsOpen heads → WriteFailed a b
      → Served answer count (record { read = read; left = left; written = written ++ take sent (fixed status); places = places }) a b end.WriteFault
  refusal_cut written places heads status sent are h asks o f = record {
    needed = need;
    places = are;
    ends = record {
      cut = inr (record {
        heads = heads;
        status = status;
        asks = asks;
        open_after = o;
        placed = h.placed;
        sent = sent;
        written = ap (λ w. w ++ take sent (fixed status)) h.told;
      });
      cause = f;
    };
  }

  -- memory ran out, and that was told
  pub out_of_memory : (replied written places : List ℕ) → ArePlaces count places
      → IsStarved answer (record { read = read; left = left; written = replied; places = places }) → IsTold replied written a b
      → Served answer count (record { read = read; left = left; written = written; places = places }) a b end.NoMemory
  out_of_memory replied written places are s t = record { needed = need; places = are; ends = record { replied = replied; starved = s; told = t } }

-- ---- where memory ran out

module _ (answer : ℕ → Head → Answer) (read : List ℕ) (left : Option (List ℕ)) (written places : List ℕ) (heads : List Head) where
  -- before a request was begun
  pub starved : (held : List ℕ) → HasReplied answer heads places written → Gives read heads held → IsOpen heads
      → IsStarved answer (record { read = read; left = left; written = written; places = places })
  starved held h g o = record {
    heads = heads;
    places = places;
    begun = [];
    begins = (held, g);
    open_after = o;
    placed = (h.placed, sym (append-nil places));
    written = h.told;
  }

  -- and after
  pub starved_begun : (next : Head) (held : List ℕ) (place : ℕ) → HasReplied answer heads places written → Gives read (heads ++ next ∷ []) held
      → IsOpen heads → IsStarved answer (record { read = read; left = left; written = written; places = places ++ place ∷ [] })
  starved_begun next held place h g o = record {
    heads = heads;
    places = places;
    begun = place ∷ [];
    begins = (next, held, g);
    open_after = o;
    placed = (h.placed, refl);
    written = h.told;
  }

-- ---- counts

same_later : (a b : FaultCounts) → b ≡ a → AreLater a b
same_later a b e = rw e (record { reads = omega arith; writes = omega arith })

read_later : (a b : FaultCounts) → ReadFailed a b → AreLater a b
read_later a b f = record { reads = f.once.later; writes = omega (arith, f.writes) }

write_later : (a b : FaultCounts) → WriteFailed a b → AreLater a b
write_later a b f = record { reads = omega (arith, f.reads); writes = f.once.later }

told_later : (replied written : List ℕ) (a b : FaultCounts) → IsTold replied written a b → AreLater a b
told_later replied written a b (inl t) = same_later a b t.1
told_later replied written a b (inr t) = write_later a b t.2

-- whatever the end, no count fell
pub later : (answer : ℕ → Head → Answer) (count : ℕ) (s : Transcript) (a b : FaultCounts) (e : End) → Served answer count s a b e → AreLater a b
later answer count s a b end.Closed h = same_later a b h.ends.steady
later answer count s a b end.ReadFault h = read_later a b h.ends.cause
later answer count s a b end.WriteFault h = write_later a b h.ends.cause
later answer count s a b end.NoMemory h = told_later h.ends.replied s.written a b h.ends.told

nothing_waits : IsStep [] Waiting
unfolding head_lines_from end_among
nothing_waits = record { found = NotYet; finds = (refl, refl); is = refl }

pub needed_none : IsNeeded []
needed_none = record {
  earlier = [];
  piece = [];
  read_is = refl;
  small = lit≤ tt;
  heads = [];
  held = [];
  asks = (nothing_waits, refl);
  open_after = open_none;
}
