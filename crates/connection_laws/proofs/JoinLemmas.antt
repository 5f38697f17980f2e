-- One stretch after another.
use Rattle.std.proofs.Common.{◌≡◌, ℕ, ◌+◌, ◌<◌, List, [], ◌∷◌, ◌++◌, length, map, flat_map, drop, Bool, true, false, ◌||◌, refl, sym, ap, ◌∙◌, subst, arith}
use Rattle.std.proofs.Common.{append_assoc, suc}
use Rattle.std.specs.List.{AllByRecursion, list_any}
use Rattle.std.proofs.lemmas.List.{length-append, map-append}
use Rattle.std.proofs.lemmas.Bool.{ne_eqb}
use Rattle.http_answer.specs.declared.answer.Answer.{Answer}
use Rattle.http_request.specs.Asks.{Asks, Ending, Gives, Rest}
use Rattle.http_request.specs.declared.head.Head.{Head}
use Rattle.td_base.specs.declared.report.End.{End}
use Rattle.td_base.specs.declared.report.TheConstants.{MOST_PLACES}
use Rattle.connection.specs.FaultCounts.{FaultCounts}
use Rattle.connection.specs.Replies.{IsOpen, is_last, replies, replies_after, reply_at}
use Rattle.connection.specs.Served.{NeverFall, Served, Transcript}
use Rattle.connection_laws.specs.Joined.{AllGoOn, GoesOn, IsServedWhole, LeavesOpen, Request, joined_transcripts, numbered_requests, replies_to}

-- ---- heads

-- what is given stays given, whatever follows
abbrev pub Feeds : Type 0
Feeds =
    (bytes piece : List ℕ) (heads : List Head) (held : List ℕ) → Gives bytes heads held → Gives (bytes ++ piece) heads (held ++ piece)

gives_of : (bytes : List ℕ) (heads : List Head) (held : List ℕ) → Asks bytes heads (Rest held) → Gives bytes heads held
gives_of bytes [] held asks = asks.1
gives_of bytes (head ∷ heads) held asks = (asks.0, asks.1, gives_of (drop asks.0 bytes) heads held asks.2)

asks_after : (bytes : List ℕ) (heads : List Head) (held : List ℕ) (more : List Head) (end : Ending) → Gives bytes heads held → Asks held more end
    → Asks bytes (heads ++ more) end
asks_after bytes [] held more end gives asks = subst (λ l. Asks l more end) (sym gives) asks
asks_after bytes (head ∷ heads) held more end gives asks =
    (gives.0, gives.1, asks_after (drop gives.0 bytes) heads held more end gives.2 asks)

asks_on : Feeds → (bytes next : List ℕ) (heads more : List Head) (end : Ending) → Asks bytes heads (Rest []) → Asks next more end
    → Asks (bytes ++ next) (heads ++ more) end
asks_on feeds bytes next heads more end asks following =
    asks_after (bytes ++ next) heads next more end (feeds bytes next heads [] (gives_of bytes heads [] asks)) following

-- ---- requests of one stretch

heads_of : (n : ℕ) (heads : List Head) → map (λ (r : Request). r.head) (numbered_requests n heads) ≡ heads
heads_of n [] = refl
heads_of n (head ∷ heads) = ap (λ l. head ∷ l) (heads_of (n + 1) heads)

as_many : (n : ℕ) (heads : List Head) → length (numbered_requests n heads) ≡ length heads
as_many n [] = refl
as_many n (head ∷ heads) = ap suc (as_many (n + 1) heads)

replies_are : (answer : ℕ → Head → Answer) (n : ℕ) (heads : List Head) (places : List ℕ)
    → replies_after answer n heads places ≡ replies_to answer (numbered_requests n heads) places
unfolding replies_after
replies_are answer n [] places = refl
replies_are answer n (head ∷ heads) [] = refl
replies_are answer n (head ∷ heads) (place ∷ places) =
    ap (λ l. reply_at answer n head place ++ l) (replies_are answer (n + 1) heads places)

or_left : (a b : Bool) → (a || b) ≡ false → a ≡ false
or_left false b e = refl
or_left true b e = e

or_right : (a b : Bool) → (a || b) ≡ false → b ≡ false
or_right false b e = e
or_right true b e = absurd (cc)

both_false : (a b : Bool) → a ≡ false → b ≡ false → (a || b) ≡ false
both_false false b e f = f
both_false true b e f = absurd (cc)

all_open : (n : ℕ) (heads : List Head) → list_any (λ h. h.close) heads ≡ false → n + length heads < MOST_PLACES
    → AllByRecursion LeavesOpen (numbered_requests n heads)
all_open n [] kept few = tt
all_open n (head ∷ heads) kept few = (
  both_false head.close _ (or_left head.close _ kept) (ne_eqb (n + 1) MOST_PLACES (λ e. omega (arith, e, few))),
  all_open (n + 1) heads (or_right head.close _ kept) (omega (arith, few)),
)

-- ---- and of those after it

all_both : (xs ys : List Request) → AllByRecursion LeavesOpen xs → AllByRecursion LeavesOpen ys → AllByRecursion LeavesOpen (xs ++ ys)
all_both [] ys a b = b
all_both (x ∷ xs) ys a b = (a.0, all_both xs ys a.1 b)

replies_both : (answer : ℕ → Head → Answer) (xs ys : List Request) (ps qs : List ℕ) → length ps ≡ length xs
    → replies_to answer (xs ++ ys) (ps ++ qs) ≡ replies_to answer xs ps ++ replies_to answer ys qs
replies_both answer [] ys [] qs e = refl
replies_both answer [] ys (p ∷ ps) qs e = absurd (omega (arith, e))
replies_both answer (x ∷ xs) ys [] qs e = absurd (omega (arith, e))
replies_both answer (x ∷ xs) ys (p ∷ ps) qs e =
    ap (λ l. reply_at answer x.before x.head p ++ l) (replies_both answer xs ys ps qs (omega (arith, e)))
    ∙ sym (append_assoc (reply_at answer x.before x.head p) (replies_to answer xs ps) (replies_to answer ys qs))

-- what the stretches before the last come to
record Earlier (answer : ℕ → Head → Answer) (read written places : List ℕ) : Type 0 where
  requests : List Request
  open_after : AllByRecursion LeavesOpen requests
  written_is : written ≡ replies_to answer requests places
  placed : length places ≡ length requests
  heads : (next : List ℕ) (more : List Head) (end : Ending) → Asks next more end → Asks (read ++ next) (map (λ r. r.head) requests ++ more) end

earlier : Feeds → (answer : ℕ → Head → Answer) (stretches : List Transcript) → AllGoOn answer stretches
    → Earlier answer (flat_map (λ s. s.read) stretches) (flat_map (λ s. s.written) stretches) (flat_map (λ s. s.places) stretches)
earlier feeds answer [] all = record { requests = []; open_after = tt; written_is = refl; placed = refl; heads = λ next more end asks. asks }
earlier feeds answer (s ∷ stretches) all =
    let one = all.0 in
    let rest = earlier feeds answer stretches all.1 in
    let first = numbered_requests 0 one.heads in
    let count : length s.places ≡ length first = one.placed ∙ sym (as_many 0 one.heads) in
    let read = flat_map (λ (t : Transcript). t.read) stretches in
    let places = flat_map (λ (t : Transcript). t.places) stretches in
    record {
      requests = first ++ rest.requests;
      open_after = all_both first rest.requests (all_open 0 one.heads one.open_after.kept (omega (arith, one.open_after.few))) rest.open_after;
      written_is = ap (λ l. l ++ flat_map (λ (t : Transcript). t.written) stretches) (one.written ∙ replies_are answer 0 one.heads s.places)
          ∙ (ap (λ l. replies_to answer first s.places ++ l) rest.written_is ∙ sym (replies_both answer first rest.requests s.places places count));
      placed = length-append s.places places
          ∙ (ap (λ n. n + length places) count ∙ (ap (λ n. length first + n) rest.placed ∙ sym (length-append first rest.requests)));
      heads = λ next more end asks.
          subst (λ bytes. Asks bytes (map (λ r. r.head) (first ++ rest.requests) ++ more) end) (sym (append_assoc s.read read next))
          (subst (λ heads. Asks (s.read ++ (read ++ next)) heads end)
          (ap (λ l. l ++ (map (λ r. r.head) rest.requests ++ more)) (sym (heads_of 0 one.heads))
          ∙ (sym (append_assoc (map (λ r. r.head) first) (map (λ r. r.head) rest.requests) more)
          ∙ ap (λ l. l ++ more) (sym (map-append (λ r. r.head) first rest.requests))))
          (asks_on feeds s.read (read ++ next) one.heads (map (λ r. r.head) rest.requests ++ more) end one.asks (rest.heads next more end asks)));
    }

pub join : Feeds → (answer : ℕ → Head → Answer) (count : ℕ) (stretches : List Transcript) (last : Transcript) (before now : FaultCounts) (end : End)
    → AllGoOn answer stretches → Served answer count last before now end → NeverFall (joined_transcripts stretches last).places
    → IsServedWhole answer count (joined_transcripts stretches last) before now end
join feeds answer count stretches last before now end all served rising =
    let first = earlier feeds answer stretches all in
    record {
      requests = first.requests;
      earlier = record {
        read = flat_map (λ s. s.read) stretches;
        left = last.left;
        written = flat_map (λ s. s.written) stretches;
        places = flat_map (λ s. s.places) stretches;
      };
      last = last;
      open_after = first.open_after;
      read = refl;
      left = refl;
      written = ap (λ l. l ++ last.written) first.written_is;
      places = refl;
      placed = first.placed;
      rising = rising;
      heads = λ heads e asks. first.heads last.read heads e asks;
      served = served;
    }
