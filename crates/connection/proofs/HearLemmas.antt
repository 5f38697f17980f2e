-- What was heard while pieces were read.
use Rattle.std.proofs.Common.{◌≡◌, ◌<◌, ◌≤◌, ℕ, List, [], ◌∷◌, ◌++◌, length, append_assoc, append-nil, sym, ap, ◌∙◌, subst, Err}
use Rattle.std.proofs.lemmas.List.Concat.{flat_map-append}
use Rattle.td_base.specs.Views.{ConnView}
use Rattle.td_base.specs.declared.no_memory.NoMemory.{NoMemory}
use Rattle.http_request.specs.Asks.{Asks, Gives, Rest}
use Rattle.http_request.specs.Steps.{IsStep, Waiting}
use Rattle.http_request.specs.declared.head.Head.{Head}
use Rattle.connection.specs.Replies.{IsOpen}
use Rattle.connection.specs.Served.{IsNeeded}
use Rattle.connection.specs.Traffic.{Passes}
use Rattle.connection.specs.Hearing.{Hears, IsFed, IsLost, NeedsEach, joined_reads}
use Rattle.connection.specs.declared.hearing.TheConstants.{PIECE}
use Rattle.connection.proofs.TrafficLemmas.{passes_none, passes_read}

-- pieces were read and are held
pub record Listens (before now : ConnView) (held new : List ℕ) : Type 0 where
  pub pieces : List (List ℕ)
  pub passes : Passes before now (joined_reads pieces) []
  pub needs : NeedsEach held pieces
  pub rest_is : new ≡ held ++ joined_reads pieces
  pub gives : (all : List ℕ) (given : List Head) → Gives all given held → Gives (all ++ joined_reads pieces) given new
  pub needed : (all : List ℕ) (given : List Head) → Gives all given held → IsOpen given → IsNeeded all → IsNeeded (all ++ joined_reads pieces)

pub listens_none : (a : ConnView) (held : List ℕ) → Listens a a held held
listens_none a held = record {
  pieces = [];
  passes = passes_none a;
  needs = tt;
  rest_is = sym (append-nil held);
  gives = λ all given g. subst (λ r. Gives r given held) (sym (append-nil all)) g;
  needed = λ all given g o n. subst IsNeeded (sym (append-nil all)) n;
}

joined_more : (pieces : List (List ℕ)) (p : List ℕ) → joined_reads (pieces ++ p ∷ []) ≡ joined_reads pieces ++ p
joined_more pieces p = flat_map-append (λ q. q) pieces (p ∷ []) ∙ ap (λ l. joined_reads pieces ++ l) (append-nil p)

needs_more : (held : List ℕ) (pieces : List (List ℕ)) (p : List ℕ) → NeedsEach held pieces → IsStep (held ++ joined_reads pieces) Waiting
    → 0 < length p → length p ≤ PIECE → NeedsEach held (pieces ++ p ∷ [])
needs_more held [] p n w some small = (subst (λ l. IsStep l Waiting) (append-nil held) w, some, small, tt)
needs_more held (q ∷ qs) p n w some small = (
  n.0,
  n.1,
  n.2,
  needs_more (held ++ q) qs p n.3 (subst (λ l. IsStep l Waiting) (sym (append_assoc held q (joined_reads qs))) w) some small,
)

-- where no whole head stands in what is held, one more piece is needed
one_needed : (all read piece : List ℕ) (given : List Head) (mid : List ℕ) → Asks (all ++ read) given (Rest mid) → IsOpen given
    → length piece ≤ PIECE → IsNeeded (all ++ (read ++ piece))
one_needed all read piece given mid a o small = record {
  earlier = all ++ read;
  piece = piece;
  read_is = sym (append_assoc all read piece);
  small = small;
  heads = given;
  held = mid;
  asks = a;
  open_after = o;
}

-- what a call of `next` that asks for more says of all that was fed
abbrev pub AsksMore : List ℕ → List ℕ → Type 0
AsksMore held kept = (all : List ℕ) (given : List Head) → Gives all given held → Asks all given (Rest kept)

-- one more piece was read where nothing stood yet
module _ (a b : ConnView) (held mid kept : List ℕ) (l : Listens a b held mid) (same : kept ≡ mid) (waits : IsStep mid Waiting) (more : AsksMore mid kept) where
  more_needs : (p : List ℕ) → 0 < length p → length p ≤ PIECE → NeedsEach held (l.pieces ++ p ∷ [])
  more_needs p some small = needs_more held l.pieces p l.needs (subst (λ r. IsStep r Waiting) l.rest_is waits) some small

  more_needed : (p : List ℕ) → length p ≤ PIECE → (all : List ℕ) (given : List Head) → Gives all given held → IsOpen given
      → IsNeeded (all ++ joined_reads (l.pieces ++ p ∷ []))
  more_needed p small all given g o =
      subst (λ r. IsNeeded (all ++ r)) (sym (joined_more l.pieces p))
      (one_needed all (joined_reads l.pieces) p given kept (more (all ++ joined_reads l.pieces) given (l.gives all given g)) o small)

  more_passes : (c : ConnView) (p : List ℕ) → Passes b c p [] → Passes a c (joined_reads (l.pieces ++ p ∷ [])) []
  more_passes c p q =
      subst (λ r. Passes a c r []) (sym (joined_more l.pieces p)) (passes_read a b c (joined_reads l.pieces) p [] l.passes q)

  more_gives : (p new : List ℕ) → ((all : List ℕ) (given : List Head) → Gives all given kept → Gives (all ++ p) given new)
      → (all : List ℕ) (given : List Head) → Gives all given held → Gives (all ++ joined_reads (l.pieces ++ p ∷ [])) given new
  more_gives p new f all given g =
      subst (λ r. Gives r given new) (append_assoc all (joined_reads l.pieces) p ∙ ap (λ r. all ++ r) (sym (joined_more l.pieces p)))
      (f (all ++ joined_reads l.pieces) given (subst (Gives (all ++ joined_reads l.pieces) given) (sym same) (l.gives all given g)))

  -- it is held
  pub fed_more : (c : ConnView) (new : List ℕ) → IsFed b c kept new → Listens a c held new
  fed_more c new f = record {
    pieces = l.pieces ++ f.bytes ∷ [];
    passes = more_passes c f.bytes f.passes;
    needs = more_needs f.bytes f.some f.small;
    rest_is = f.held_is ∙ (ap (λ r. r ++ f.bytes) (same ∙ l.rest_is) ∙ (append_assoc held (joined_reads l.pieces) f.bytes
        ∙ ap (λ r. held ++ r) (sym (joined_more l.pieces f.bytes))));
    gives = more_gives f.bytes new f.gives;
    needed = λ all given g o n. more_needed f.bytes f.small all given g o;
  }

  -- it is lost
  pub lost : (c : ConnView) (new : List ℕ) (fault : NoMemory) → IsLost b c kept → Hears a c held new (Err fault)
  lost c new fault f = record {
    pieces = l.pieces ++ f.bytes ∷ [];
    traffic = (more_passes c f.bytes f.passes).traffic;
    needs = more_needs f.bytes f.some f.small;
    comes = λ all given g. (kept ++ f.bytes, more_gives f.bytes (kept ++ f.bytes) f.gives all given g);
    needed = λ all given g o n. more_needed f.bytes f.small all given g o;
    fails = (more_passes c f.bytes f.passes).steady;
    fit = tt;
  }
