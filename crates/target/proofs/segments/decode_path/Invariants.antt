use Rattle.std.proofs.Common.{◌≡◌, drop, length}
use Rattle.target.specs.Paths.{raw_segments, decode_segments}
use Rattle.target.proofs.SegmentLemmas.{with_before}
use Rattle.target.proofs.segments.decode_path.Given as goal

abbrev pub invariant-loop-raw : goal.invariant-loop-raw
invariant-loop-raw l = record {
  can_next : (goal.iterator-loop-raw).can_next l.raw-iterator;
  is_finite : (goal.iterator-loop-raw).is_finite l.raw-iterator;
  so_far : with_before l.segments (decode_segments (drop (length l.yielded) (raw_segments l.path))) ≡ decode_segments (raw_segments l.path);
}
