-- The heads of a list that comes in pieces.
use Rattle.std.proofs.Common.{Result, Ok, Err, IfOk, ◌≡◌, ℕ, List, [], ◌∷◌, ◌++◌, drop, refl, sym, ap, ◌∙◌, subst}
use Rattle.std.proofs.lemmas.List.{drop-append-le}
use Rattle.http_request.specs.declared.head.Head.{Head}
use Rattle.td_base.specs.declared.no_memory.NoMemory.{NoMemory}
use Rattle.http_request.specs.declared.head.Next.{Next}
use Rattle.http_request.specs.declared.head.Next.TheVariants as next
use Rattle.http_request.specs.Steps.{Taken, Refused, Waiting, IsStep, Steps}
use Rattle.http_request.specs.Asks.{Ending, Bad, Rest, Asks, Gives, IsPrefixOf, Continues}
use Rattle.http_request.proofs.lemmas.StepLemmas.{one_step, step_stays, taken≢waiting, refused≢waiting, refused≢taken, same_status, same_len, same_head}
use Rattle.http_request.proofs.lemmas.StepLemmas.{taken_within}

-- the list grows
pub gives_feed : (bytes piece : List ℕ) (heads : List Head) (held : List ℕ) → Gives bytes heads held → Gives (bytes ++ piece) heads (held ++ piece)
gives_feed bytes piece [] held g = ap (λ l. l ++ piece) g
gives_feed bytes piece (head ∷ heads) held g = (
  g.0,
  step_stays bytes piece (Taken head g.0) (taken≢waiting head g.0) g.1,
  subst (λ l. Gives l heads (held ++ piece)) (sym (drop-append-le g.0 bytes piece (taken_within bytes head g.0 g.1)))
      (gives_feed (drop g.0 bytes) piece heads held g.2),
)

-- a head is taken
pub gives_take : (bytes : List ℕ) (heads : List Head) (held : List ℕ) (head : Head) (len : ℕ)
    → Gives bytes heads held → IsStep held (Taken head len) → Gives bytes (heads ++ head ∷ []) (drop len held)
gives_take bytes [] held head len g s = (len, subst (λ l. IsStep l (Taken head len)) (sym g) s, ap (drop len) g)
gives_take bytes (first ∷ heads) held head len g s = (g.0, g.1, gives_take (drop g.0 bytes) heads held head len g.2 s)

-- a refusal
pub gives_bad : (bytes : List ℕ) (heads : List Head) (held : List ℕ) (status : ℕ)
    → Gives bytes heads held → IsStep held (Refused status) → Asks bytes heads (Bad status)
gives_bad bytes [] held status g s = subst (λ l. IsStep l (Refused status)) (sym g) s
gives_bad bytes (first ∷ heads) held status g s = (g.0, g.1, gives_bad (drop g.0 bytes) heads held status g.2 s)

-- nothing more
pub gives_rest : (bytes : List ℕ) (heads : List Head) (held : List ℕ)
    → Gives bytes heads held → IsStep held Waiting → Asks bytes heads (Rest held)
gives_rest bytes [] held g s = (subst (λ l. IsStep l Waiting) (sym g) s, g)
gives_rest bytes (first ∷ heads) held g s = (g.0, g.1, gives_rest (drop g.0 bytes) heads held g.2 s)

bad_stays : (bytes next : List ℕ) (status : ℕ) → IsStep bytes (Refused status) → IsStep (bytes ++ next) (Refused status)
bad_stays bytes next status x = step_stays bytes next (Refused status) (refused≢waiting status) x

taken_stays : (bytes next : List ℕ) (head : Head) (len : ℕ) → IsStep bytes (Taken head len) → IsStep (bytes ++ next) (Taken head len)
taken_stays bytes next head len x = step_stays bytes next (Taken head len) (taken≢waiting head len) x

-- the heads of a prefix are a prefix of the heads of the whole
pub prefix : (bytes next : List ℕ) (heads : List Head) (end : Ending) (all : List Head) (all_end : Ending)
    → Asks bytes heads end → Asks (bytes ++ next) all all_end → IsPrefixOf heads end all all_end
prefix bytes next [] (Rest left) all all_end x y = record { later = all; all_is = refl; bad = tt }
prefix bytes next [] (Bad status) [] (Rest left) x y =
    absurd (refused≢waiting status (one_step (bytes ++ next) (Refused status) Waiting (bad_stays bytes next status x) y.0))
prefix bytes next [] (Bad status) [] (Bad other) x y = record {
  later = [];
  all_is = refl;
  bad = (refl, ap Bad (sym (same_status status other (one_step (bytes ++ next) (Refused status) (Refused other) (bad_stays bytes next status x) y))));
}
prefix bytes next [] (Bad status) (k ∷ ks) all_end x y =
    absurd (refused≢taken status k y.0 (one_step (bytes ++ next) (Refused status) (Taken k y.0) (bad_stays bytes next status x) y.1))
prefix bytes next (h ∷ hs) end [] (Rest left) x y =
    absurd (taken≢waiting h x.0 (one_step (bytes ++ next) (Taken h x.0) Waiting (taken_stays bytes next h x.0 x.1) y.0))
prefix bytes next (h ∷ hs) end [] (Bad status) x y =
    absurd (refused≢taken status h x.0 (one_step (bytes ++ next) (Refused status) (Taken h x.0) y (taken_stays bytes next h x.0 x.1)))
prefix bytes next (h ∷ hs) end (k ∷ ks) all_end x y =
    let same : Taken h x.0 ≡ Taken k y.0 = one_step (bytes ++ next) (Taken h x.0) (Taken k y.0) (taken_stays bytes next h x.0 x.1) y.1 in
    let at : drop y.0 (bytes ++ next) ≡ drop x.0 bytes ++ next =
    ap (λ n. drop n (bytes ++ next)) (sym (same_len h k x.0 y.0 same)) ∙ drop-append-le x.0 bytes next (taken_within bytes h x.0 x.1) in
    let rest : IsPrefixOf hs end ks all_end = prefix (drop x.0 bytes) next hs end ks all_end x.2 (subst (λ l. Asks l ks all_end) at y.2) in
    record {
      later = rest.later;
      all_is = ap (λ l. k ∷ l) rest.all_is ∙ ap (λ l. l ∷ (hs ++ rest.later)) (sym (same_head h k x.0 y.0 same));
      bad = rest.bad;
    }

pub continues : (all : List ℕ) (given : List Head) (old : List ℕ) (n : Next) (new : List ℕ) → Gives all given old → Steps old n new → Continues all given n new
continues all given old (next.Request head) new g s =
    subst (λ l. Gives all (given ++ head ∷ []) l) (sym s.2) (gives_take all given old head s.0 g s.1)
continues all given old next.More new g s = subst (λ l. Asks all given (Rest l)) (sym s.1) (gives_rest all given old g s.0)
continues all given old (next.Bad status) new g s = gives_bad all given old status g s.0

pub continues_ok : (old new : List ℕ) (r : Result Next NoMemory) → IfOk r (λ n. Steps old n new)
    → IfOk r (λ n. (all : List ℕ) (given : List Head) → Gives all given old → Continues all given n new)
continues_ok old new (Ok n) s = λ all given g. continues all given old n new g s
continues_ok old new (Err e) s = tt
