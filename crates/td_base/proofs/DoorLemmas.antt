-- What becomes of a door in memory where a step is added to its script, and where one is taken off.
use Rattle.std.proofs.Common.{◌≡◌, ◌≤◌, ◌+◌, ◌-◌, ◌∙◌, ℕ, List, [], ◌∷◌, ◌++◌, length, take, drop, Some, refl, sym, ap, arith, suc}
use Rattle.std.proofs.Common.{subst}
use Rattle.std.proofs.lemmas.List.{append-nil, drop-append-le, drop-drop, length-drop}
use Rattle.std.proofs.Math.Seq.{take-add}
use Rattle.td_base.specs.Doors.{Accepts}
use Rattle.td_base.specs.Memory.{FaultyConnState}
use Rattle.td_base.specs.MemoryDoors.{AreFresh, IsFresh, MemoryDoorState, after_accept, door_conn, inputs_of, memory_door}
use Rattle.td_base.specs.declared.door.Accepted.TheVariants as accepted
use Rattle.td_base.specs.declared.memory_conn.MemoryConn.{MemoryConn}
use Rattle.td_base.specs.declared.memory_door.DoorStep.{DoorStep}
use Rattle.td_base.specs.declared.memory_door.DoorStep.TheVariants as step

pub inputs_of-append : (a b : List DoorStep) → inputs_of (a ++ b) ≡ inputs_of a ++ inputs_of b
inputs_of-append [] b = refl
inputs_of-append (step.Conn conn ∷ a) b = ap (λ l. conn.inner.source.left ∷ l) (inputs_of-append a b)
inputs_of-append (step.Idle ∷ a) b = inputs_of-append a b

pub AreFresh-append : (a b : List DoorStep) → AreFresh a → AreFresh b → AreFresh (a ++ b)
AreFresh-append [] b h k = k
AreFresh-append (step.Conn conn ∷ a) b h k = (h.0, AreFresh-append a b h.1 k)
AreFresh-append (step.Idle ∷ a) b h k = AreFresh-append a b h k

within_by : (r n m : ℕ) → suc r ≡ m - n → n + 1 ≤ m
within_by r n m e = omega (arith, e)

-- the inputs that are kept stay those of the script where a connection and its input are added
pub pushed_inputs : (n : ℕ) (inputs : List (List ℕ)) (old : List DoorStep) (conn : FaultyConnState MemoryConn) → n ≤ length inputs
    → inputs_of old ≡ drop n inputs → inputs_of (old ++ step.Conn conn ∷ []) ≡ drop n (inputs ++ conn.inner.source.left ∷ [])
pushed_inputs n inputs old conn within same =
    inputs_of-append old (step.Conn conn ∷ []) ∙ ap (λ l. l ++ conn.inner.source.left ∷ []) same
    ∙ sym (drop-append-le n inputs (conn.inner.source.left ∷ []) within)

pub idle_inputs : (old : List DoorStep) (inputs : List (List ℕ)) → inputs_of old ≡ inputs → inputs_of (old ++ step.Idle ∷ []) ≡ inputs
idle_inputs old inputs same = inputs_of-append old (step.Idle ∷ []) ∙ append-nil (inputs_of old) ∙ same

-- the input of a connection that is given is the next of those that are kept
pub next_same : (n : ℕ) (inputs : List (List ℕ)) (old rest : List DoorStep) (conn : FaultyConnState MemoryConn) → old ≡ step.Conn conn ∷ rest
    → inputs_of old ≡ drop n inputs → conn.inner.source.left ∷ inputs_of rest ≡ drop n inputs
next_same n inputs old rest conn e same = ap inputs_of (sym e) ∙ same

pub next_inputs : (n : ℕ) (inputs rest : List (List ℕ)) (input : List ℕ) → input ∷ rest ≡ drop n inputs → rest ≡ drop (n + 1) inputs
next_inputs n inputs rest input e = ap (drop 1) e ∙ drop-drop 1 n inputs

pub next_within : (n : ℕ) (inputs rest : List (List ℕ)) (input : List ℕ) → input ∷ rest ≡ drop n inputs → n + 1 ≤ length inputs
next_within n inputs rest input e = within_by (length rest) n (length inputs) (ap length e ∙ length-drop n inputs)

pub next_taken : (n : ℕ) (inputs rest : List (List ℕ)) (input : List ℕ) → input ∷ rest ≡ drop n inputs
    → take (n + 1) inputs ≡ take n inputs ++ input ∷ []
next_taken n inputs rest input e = take-add n 1 inputs ∙ ap (λ l. take n inputs ++ take 1 l) (sym e)

pub next_fresh : (old rest : List DoorStep) (conn : FaultyConnState MemoryConn) → old ≡ step.Conn conn ∷ rest → AreFresh old
    → IsFresh conn × AreFresh rest
next_fresh old rest conn e h = subst AreFresh e h

-- a door whose next step is a connection, and the same door after that was given
pub gives_conn : (old new : MemoryDoorState) (conn : FaultyConnState MemoryConn) (rest : List DoorStep) → old.script ≡ step.Conn conn ∷ rest
    → IsFresh conn → new ≡ after_accept old → Accepts door_conn (memory_door old) (memory_door new) (accepted.Given conn)
gives_conn old new conn rest e fresh after = rw (after, e) record {
  told = record {
    input = conn.inner.source.left;
    coming = refl;
    given = refl;
    finished = refl;
    conn_is = record { given = ap Some fresh.given; left = refl; taken = ap Some fresh.taken };
  };
  unfailed = record { reads = fresh.reads; writes = fresh.writes };
  last = refl;
  later = omega arith;
  once = omega arith;
  steady = λ _. refl;
  failed = λ h. absurd cc h;
}
