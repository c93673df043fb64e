use Rattle.std.proofs.Common.{rules}
use Rattle.std.proofs.lemmas.List.Sorted.{IsPartitionPoint-from_clause}
use Rattle.ags_links.specs.Lookups.{comes_before}
use Rattle.ags_links.proofs.ByText.{parted, boundary_here}
use Rattle.ags_links.proofs.lookup.boundary.Goals as goal

pub returns-then-may_begin : goal.returns-then-may_begin
returns-then-may_begin c = boundary_here c.args.pairs.now c.args.text.now c.requires c.args.upto c.args.near (search rules) (c.may_end.ensures c.if-may_end.true) (c.may_begin.ensures c.if-may_begin.true)

pub returns-else-near-pairs : goal.returns-else-near-pairs
returns-else-near-pairs c = (
  c.partition_point.ensures.bound,
  IsPartitionPoint-from_clause (comes_before c.args.upto c.args.text.now) _ _ c.partition_point.ensures.partitioned (parted c.args.pairs.now c.args.text.now c.requires c.args.upto) (λ a r q k. search rules),
)
