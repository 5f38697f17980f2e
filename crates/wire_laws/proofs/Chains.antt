-- One call after another.
use Rattle.std.proofs.Common.{◌≡◌, ℕ, Option, None, Some, List, [], ◌∷◌, ◌++◌, take, refl, sym, ap, ◌∙◌, subst, append_assoc, append-nil}
use Rattle.td_base.specs.Outside.{WriteTells}
use Rattle.td_base.specs.declared.outside.ReadStep.{ReadStep}
use Rattle.td_base.specs.declared.outside.ReadStep.TheVariants as read
use Rattle.td_base.specs.declared.outside.WriteStep.{WriteStep}
use Rattle.td_base.specs.declared.outside.WriteStep.TheVariants as write
use Rattle.devices.specs.Flows.{GivesStep}
use Rattle.wire_laws.specs.Calls.{HasGiven, ReadCall, Reads, WriteCall, Writes, given_by, given_bytes, is_sound, taken_by, taken_bytes}

-- one read before others
read_before : (bytes room : List ℕ) (step : ReadStep) (call : ReadCall) (calls : List ReadCall) (next now : Option (List ℕ)) → call.step ≡ step
    → call.room ≡ room → GivesStep (Some bytes) next step room → ((left : List ℕ) → next ≡ Some left → HasGiven left calls now)
    → HasGiven bytes (call ∷ calls) now
read_before bytes room (read.Got n) call calls None now step_is room_is gives later = absurd gives
read_before bytes room (read.Got n) call calls (Some left) now step_is room_is gives later =
    let k = later left refl in record {
      rest = k.rest;
      parts = gives ∙ ap (λ l. take n room ++ l) k.parts ∙ sym (append_assoc (take n room) (given_bytes calls) k.rest)
          ∙ sym (ap (λ l. l ++ k.rest) (ap (λ s. given_by s call.room (given_bytes calls)) step_is ∙ ap (λ r. take n r ++ given_bytes calls) room_is));
      left = λ sound. k.left sound.1;
    }
read_before bytes room read.End call calls None now step_is room_is gives later = absurd gives
read_before bytes room read.End call calls (Some left) now step_is room_is gives later =
    let k = later left refl in record {
      rest = k.rest;
      parts = sym gives ∙ k.parts ∙ sym (ap (λ l. l ++ k.rest) (ap (λ s. given_by s call.room (given_bytes calls)) step_is));
      left = λ sound. k.left sound.1;
    }
read_before bytes room read.Failed call calls next now step_is room_is gives later = record {
  rest = bytes;
  parts = sym (ap (λ l. l ++ bytes) (ap (λ s. given_by s call.room (given_bytes calls)) step_is));
  left = λ sound. absurd (subst is_sound step_is sound.0);
}

pub given : (bytes : List ℕ) (calls : List ReadCall) (now : Option (List ℕ)) → Reads (Some bytes) calls now → HasGiven bytes calls now
given bytes [] now reads = record { rest = bytes; parts = refl; left = λ sound. reads }
given bytes (call ∷ calls) now reads =
    read_before bytes call.room call.step call calls reads.0 now refl refl reads.1
    (λ left is. given left calls now (subst (λ o. Reads o calls now) is reads.2))

write_tells : (bytes piece : List ℕ) (step : WriteStep) (next : Option (List ℕ)) → WriteTells (Some bytes) next step piece
    → next ≡ Some (bytes ++ taken_by step piece)
write_tells bytes piece (write.Took n) None tells = absurd tells
write_tells bytes piece (write.Took n) (Some now) tells = ap Some tells
write_tells bytes piece write.Failed None tells = absurd tells
write_tells bytes piece write.Failed (Some now) tells = ap Some (tells ∙ sym (append-nil bytes))

pub taken : (bytes : List ℕ) (calls : List WriteCall) (now : Option (List ℕ)) → Writes (Some bytes) calls now → now ≡ Some (bytes ++ taken_bytes calls)
taken bytes [] now writes = writes ∙ ap Some (sym (append-nil bytes))
taken bytes (call ∷ calls) now writes =
    let one = write_tells bytes call.piece call.step writes.0 writes.1 in
    let added = taken_by call.step call.piece in
    taken (bytes ++ added) calls now (subst (λ o. Writes o calls now) one writes.2) ∙ ap Some (append_assoc bytes added (taken_bytes calls))
