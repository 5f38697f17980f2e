use Rattle.std.proofs.Common.{◌<◌, length, drop, Ok, sym, ap, ◌∙◌, arith, length-drop}
use Rattle.std.proofs.lemmas.List.{take_rest}
use Rattle.find_pattern.specs.Pieces.{first_piece}
use Rattle.find_pattern.proofs.PieceLemmas.{past_byte, at_last_star, at_fault, at_end, inside}
use Rattle.find_pattern.proofs.reading.read_from.Goals as goal

pub pieces-preserved : goal.pieces-preserved
pieces-preserved c =
    let text = c.args.text.now in
    let more : 0 < length (drop c.pieces.at text) = rw length-drop (omega arith) in
    record {
      inside = inside text c.pieces.at c.in-Byte.len c.pieces.invariant.inside c.in-Byte.ensures.len.1;
      so_far = rw c.in_ok-push-in-Byte.ensures.ok
          (past_byte text c.pieces.literal c.pieces.at _ c.pieces.invariant.so_far more c.in-Byte.byte c.in-Byte.len
          (c.in-Byte.ensures.piece ∙ ap first_piece (take_rest text c.pieces.at)));
    }

pub returns-in-LastStar-clause-found : goal.returns-in-LastStar-clause-found
returns-in-LastStar-clause-found c =
    let text = c.args.text.now in
    let more : 0 < length (drop c.pieces.at text) = rw length-drop (omega arith) in
    at_last_star text c.pieces.literal c.pieces.at _ c.pieces.invariant.so_far more
    (c.in-LastStar.ensures.piece ∙ ap first_piece (take_rest text c.pieces.at)) ∙ ap Ok (sym c.without_lead.ensures)

pub returns-in-Fault-clause-fault : goal.returns-in-Fault-clause-fault
returns-in-Fault-clause-fault c =
    let text = c.args.text.now in
    let more : 0 < length (drop c.pieces.at text) = rw length-drop (omega arith) in
    λ _. at_fault text c.pieces.literal c.pieces.at _ c.pieces.invariant.so_far more (c.in-Fault.ensures.piece ∙ ap first_piece (take_rest text c.pieces.at))

pub returns-clause-found : goal.returns-clause-found
returns-clause-found c =
    at_end c.args.text.now c.pieces.literal c.pieces.at _ c.pieces.invariant.so_far (omega arith) ∙ ap Ok (sym c.without_lead-2.ensures)
