use Rattle.nr_shifttable.proofs.Common.{◌≡◌, ◌==◌, true, false, rules, IsPartitionPoint}
use Rattle.nr_shifttable.proofs.KeptItemFacts.{said-ascend, kept-ones-first, ones-are, twos-are}
use Rattle.std.proofs.lemmas.List.Sorted.{IsPartitionPoint-from_clause}
use Rattle.nr_shifttable.proofs.listed.ones_in.Goals as goal

-- The entries ascend, so those of base graph 1 come first, and the partition point is where they end.
pub returns : goal.returns
returns c =
    let point : IsPartitionPoint (λ e. (e.graph == 1) ≡ true)
    (λ e. (e.graph == 1) ≡ false) c.args.entries.now c.partition_point.result
    = IsPartitionPoint-from_clause (λ e. e.graph == 1) _ _ c.partition_point.ensures.partitioned
    (kept-ones-first c.args.entries.now (said-ascend 1 0 c.args.entries.now c.requires)) (λ a r f k. search rules) in
    record {
      bound = c.partition_point.ensures.bound;
      ones = ones-are c.args.entries.now c.partition_point.result c.partition_point.ensures.bound point;
      twos = twos-are c.args.entries.now c.partition_point.result c.partition_point.ensures.bound point;
    }
