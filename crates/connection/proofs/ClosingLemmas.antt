-- A connection is closed in one way: by cases on each request, of which so many came before.
use Rattle.std.proofs.Common.{◌≡◌, ℕ, ◌+◌, ◌<◌, ◌⊎◌, inl, inr, List, [], ◌∷◌, ◌++◌, length, drop, true, false, refl, sym, ap, ◌∙◌, subst, arith}
use Rattle.std.specs.List.{list_any}
use Rattle.std.proofs.lemmas.Bool.{true≢false, ne_eqb}
use Rattle.http_answer.specs.declared.answer.Answer.{Answer}
use Rattle.http_request.specs.Asks.{Asks, Bad, Gives, Rest}
use Rattle.http_request.specs.Steps.{IsStep, Refused, Taken, Waiting}
use Rattle.http_request.specs.declared.head.Head.{Head}
use Rattle.http_request.proofs.lemmas.StepLemmas.{one_step, refused≢taken, refused≢waiting, same_head, same_len, same_status, taken≢waiting}
use Rattle.connection.proofs.ServedLemmas.{both_false}
use Rattle.td_base.specs.declared.report.TheConstants.{MOST_PLACES}
use Rattle.connection.specs.FaultCounts.{FaultCounts}
use Rattle.connection.specs.Replies.{is_last, replies}
use Rattle.connection.specs.Served.{ByInput, ByRefusal, ByRequest, Finish, FinishesBy, IsClosed, Transcript, farewell}

-- the requests, each of which closes the connection or leaves it open, and what comes after them;
-- so many came before
abbrev pub Goes : ℕ → List ℕ → List Head → Finish → Type 0
Goes n read [] ByRequest = ⊥
Goes n read [] (ByRefusal status) = IsStep read (Refused status)
Goes n read [] ByInput = IsStep read Waiting
Goes n read (h ∷ hs) f =
    (len : ℕ) × IsStep read (Taken h len)
    × (((is_last n h ≡ true) × (hs ≡ []) × (f ≡ ByRequest)) ⊎ ((is_last n h ≡ false) × Goes (n + 1) (drop len read) hs f))

-- ---- they go in one way

one_head : (n : ℕ) (read : List ℕ) (h k : Head) (hs ks : List Head) (f g : Finish)
    → ((len : ℕ) → Goes (n + 1) (drop len read) hs f → Goes (n + 1) (drop len read) ks g → (hs ≡ ks) × (f ≡ g))
    → Goes n read (h ∷ hs) f → Goes n read (k ∷ ks) g → ((h ∷ hs) ≡ (k ∷ ks)) × (f ≡ g)
one_head n read h k hs ks f g rest x y =
    by_last x.2 y.2
  where
    same : Taken h x.0 ≡ Taken k y.0
    same = one_step read (Taken h x.0) (Taken k y.0) x.1 y.1

    heads : h ≡ k
    heads = same_head h k x.0 y.0 same

    lens : x.0 ≡ y.0
    lens = same_len h k x.0 y.0 same

    by_last : ((is_last n h ≡ true) × (hs ≡ []) × (f ≡ ByRequest)) ⊎ ((is_last n h ≡ false) × Goes (n + 1) (drop x.0 read) hs f)
        → ((is_last n k ≡ true) × (ks ≡ []) × (g ≡ ByRequest)) ⊎ ((is_last n k ≡ false) × Goes (n + 1) (drop y.0 read) ks g)
        → ((h ∷ hs) ≡ (k ∷ ks)) × (f ≡ g)
    by_last (inl a) (inl b) = (ap (λ l. l ∷ hs) heads ∙ ap (λ l. k ∷ l) (a.1 ∙ sym b.1), a.2 ∙ sym b.2)
    by_last (inl a) (inr b) = absurd (true≢false (sym a.0 ∙ (ap (is_last n) heads ∙ b.0)))
    by_last (inr a) (inl b) = absurd (true≢false (sym b.0 ∙ (ap (is_last n) (sym heads) ∙ a.0)))
    by_last (inr a) (inr b) =
        let r : (hs ≡ ks) × (f ≡ g) = rest x.0 a.1 (subst (λ l. Goes (n + 1) (drop l read) ks g) (sym lens) b.1) in
        (ap (λ l. l ∷ hs) heads ∙ ap (λ l. k ∷ l) r.0, r.1)

one_way : (n : ℕ) (read : List ℕ) (hs ks : List Head) (f g : Finish) → Goes n read hs f → Goes n read ks g → (hs ≡ ks) × (f ≡ g)
one_way n read [] ks ByRequest g x y = absurd x
one_way n read hs [] f ByRequest x y = absurd y
one_way n read [] [] (ByRefusal s) (ByRefusal t) x y = (refl, ap ByRefusal (same_status s t (one_step read (Refused s) (Refused t) x y)))
one_way n read [] [] (ByRefusal s) ByInput x y = absurd (refused≢waiting s (one_step read (Refused s) Waiting x y))
one_way n read [] [] ByInput (ByRefusal t) x y = absurd (refused≢waiting t (one_step read (Refused t) Waiting y x))
one_way n read [] [] ByInput ByInput x y = (refl, refl)
one_way n read [] (k ∷ ks) (ByRefusal s) g x y = absurd (refused≢taken s k y.0 (one_step read (Refused s) (Taken k y.0) x y.1))
one_way n read [] (k ∷ ks) ByInput g x y = absurd (taken≢waiting k y.0 (one_step read (Taken k y.0) Waiting y.1 x))
one_way n read (h ∷ hs) [] f (ByRefusal t) x y = absurd (refused≢taken t h x.0 (one_step read (Refused t) (Taken h x.0) y x.1))
one_way n read (h ∷ hs) [] f ByInput x y = absurd (taken≢waiting h x.0 (one_step read (Taken h x.0) Waiting x.1 y))
one_way n read (h ∷ hs) (k ∷ ks) f g x y =
    one_head n read h k hs ks f g (λ len a b. one_way (n + 1) (drop len read) hs ks f g a b) x y

-- ---- a connection that was closed goes so

not_last : (n : ℕ) (h : Head) (hs : List Head) → list_any (λ k. k.close) (h ∷ hs) ≡ false → n + length (h ∷ hs) < MOST_PLACES → is_last n h ≡ false
not_last n h hs a few = rw ((both_false h.close (list_any (λ k. k.close) hs) a).0, ne_eqb (n + 1) MOST_PLACES (λ e. absurd (omega (arith, e, few)))) refl

goes_request : (n : ℕ) (read : List ℕ) (before : List Head) (last : Head) (held : List ℕ) → Gives read (before ++ last ∷ []) held
    → list_any (λ k. k.close) before ≡ false → n + length before < MOST_PLACES → is_last (n + length before) last ≡ true
    → Goes n read (before ++ last ∷ []) ByRequest
goes_request n read [] last held g a few l = (g.0, g.1, inl (ap (λ k. is_last k last) (omega arith) ∙ l, refl, refl))
goes_request n read (h ∷ hs) last held g a few l = (
  g.0,
  g.1,
  inr (
    not_last n h hs a few,
    goes_request (n + 1) (drop g.0 read) hs last held g.2 (both_false h.close (list_any (λ k. k.close) hs) a).1 (omega (arith, few))
        (ap (λ k. is_last k last) (omega arith) ∙ l),
  ),
)

goes_refusal : (n : ℕ) (read : List ℕ) (heads : List Head) (status : ℕ) → Asks read heads (Bad status)
    → list_any (λ k. k.close) heads ≡ false → n + length heads < MOST_PLACES → Goes n read heads (ByRefusal status)
goes_refusal n read [] status g a few = g
goes_refusal n read (h ∷ hs) status g a few = (
  g.0,
  g.1,
  inr (
    not_last n h hs a few,
    goes_refusal (n + 1) (drop g.0 read) hs status g.2 (both_false h.close (list_any (λ k. k.close) hs) a).1 (omega (arith, few)),
  ),
)

goes_input : (n : ℕ) (read : List ℕ) (heads : List Head) (held : List ℕ) → Asks read heads (Rest held)
    → list_any (λ k. k.close) heads ≡ false → n + length heads < MOST_PLACES → Goes n read heads ByInput
goes_input n read [] held g a few = g.0
goes_input n read (h ∷ hs) held g a few = (
  g.0,
  g.1,
  inr (
    not_last n h hs a few,
    goes_input (n + 1) (drop g.0 read) hs held g.2 (both_false h.close (list_any (λ k. k.close) hs) a).1 (omega (arith, few)),
  ),
)

goes : (s : Transcript) (heads : List Head) (f : Finish) → FinishesBy s heads f → Goes 0 s.read heads f
goes s heads ByRequest c =
    subst (λ l. Goes 0 s.read l ByRequest) (sym c.heads_are)
    (goes_request 0 s.read c.before c.last c.held (subst (λ l. Gives s.read l c.held) c.heads_are c.gives) c.open_before.kept
    (omega (arith, c.open_before.few)) (ap (λ k. is_last k c.last) (omega arith) ∙ c.closes))
goes s heads (ByRefusal status) c = goes_refusal 0 s.read heads status c.0 c.1.kept (omega (arith, c.1.few))
goes s heads ByInput c = goes_input 0 s.read heads c.0 c.1 c.2.kept (omega (arith, c.2.few))

pub one_closing_lem : (answer : ℕ → Head → Answer) (s t : Transcript) (m n m' n' : FaultCounts) → s.read ≡ t.read → s.places ≡ t.places
    → IsClosed answer s m n → IsClosed answer t m' n' → s.written ≡ t.written
one_closing_lem answer s t m n m' n' e p a b =
    let r : (a.heads ≡ b.heads) × (a.finish ≡ b.finish) =
    one_way 0 s.read a.heads b.heads a.finish b.finish (goes s a.heads a.finish a.finishes)
    (subst (λ l. Goes 0 l b.heads b.finish) (sym e) (goes t b.heads b.finish b.finishes)) in
    a.written
    ∙ (ap (λ l. replies answer l s.places ++ farewell a.finish) r.0
    ∙ (ap (λ l. replies answer b.heads l ++ farewell a.finish) p
    ∙ (ap (λ f. replies answer b.heads t.places ++ farewell f) r.1 ∙ sym b.written)))
