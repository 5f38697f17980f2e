use Rattle.std.proofs.Common.{rules, tests, arith, drop, sym, ◌∙◌}
use Rattle.std.proofs.lemmas.Iterator.Splits.{YieldsList-from_slice_split}
use Rattle.std.proofs.lemmas.Iterator.Consumers.{YieldsList-turn, YieldsList-end}
use Rattle.std.proofs.lemmas.List.{length_push}
use Rattle.target.specs.Paths.{is_slash, raw_segments}
use Rattle.target.proofs.SegmentLemmas.{past_segment, at_no_text, past_all}
use Rattle.target.proofs.segments.decode_path.Goals as goal

pub returns-in_default : goal.returns-in_default
returns-in_default c =
    let turn = YieldsList-turn
    (YieldsList-from_slice_split _ is_slash (drop 1 c.args.path.now) (cc) (cc) (cc) (λ x r q k. search (rules, tests)))
    c.loop-raw.yielded _ c.loop-raw.yielded_by _ _ c.in-Some.raw c.in-Some.is c.next.ensures.steps in
    at_no_text (raw_segments c.args.path.now) _ c.loop-raw.segments c.in-Some.raw.now turn.0 turn.1
    (sym c.in_default.is ∙ c.in_ok-segment.ensures) c.loop-raw.invariant.so_far

pub loop-raw-preserved : goal.loop-raw-preserved
loop-raw-preserved c =
    let turn = YieldsList-turn
    (YieldsList-from_slice_split _ is_slash (drop 1 c.args.path.now) (cc) (cc) (cc) (λ x r q k. search (rules, tests)))
    c.loop-raw.yielded _ c.loop-raw.yielded_by _ _ c.in-Some.raw c.in-Some.is c.next.ensures.steps in
    record {
      can_next = search rules;
      is_finite = search rules;
      so_far = rw (length_push, c.in_ok-push.ensures.ok)
          (past_segment (raw_segments c.args.path.now) _ c.loop-raw.segments c.in-Some.raw.now c.in-Some-2.segment turn.0 turn.1
          (sym c.in-Some-2.is ∙ c.in_ok-segment.ensures) c.loop-raw.invariant.so_far);
    }

pub returns : goal.returns
returns c =
    let end = YieldsList-end
    (YieldsList-from_slice_split _ is_slash (drop 1 c.args.path.now) (cc) (cc) (cc) (λ x r q k. search (rules, tests)))
    c.loop-raw.yielded _ c.loop-raw.yielded_by _ _ c.in-None.is c.next.ensures.steps in
    past_all (raw_segments c.args.path.now) _ c.loop-raw.segments (omega arith) c.loop-raw.invariant.so_far
