use Rattle.std.proofs.Common.{rules, nat_le}
use Rattle.std.proofs.lemmas.List.Sorted.{IsPartitionPoint-from_clause}
use Rattle.std.specs.List.Sorted.{IsPartitionedBy}
use Rattle.change_index.specs.Keeping.{numbers_of}
use Rattle.change_index.specs.declared.placed.Placed.{Placed}
use Rattle.change_index.proofs.Cutting.{cut_above, searchable}
use Rattle.change_index.proofs.kept.first_above.Goals as goal

pub returns-clause-above : goal.returns-clause-above
returns-clause-above c =
    let kept = c.args.kept.now in
    let parted : IsPartitionedBy (λ (p : Placed). nat_le p.change c.args.n) kept =
    rw c.requires (searchable (numbers_of kept) c.args.n) in
    cut_above kept c.args.n c.partition_point.result
    (IsPartitionPoint-from_clause (λ (p : Placed). nat_le p.change c.args.n) _ _ c.partition_point.ensures.partitioned parted (λ a r q k. search rules))
    c.partition_point.ensures.bound
