use Rattle.std.proofs.Common.{ltb, rules}
use Rattle.std.proofs.lemmas.List.Sorted.{IsPartitionPoint-from_clause, IsPartitionedBy-ltb}
use Rattle.em_record.specs.declared.record.Record.{Record}
use Rattle.em_segment.proofs.LeafFirst.{stands_from, values_rise}
use Rattle.em_segment.proofs.leaf.first_from.Goals as goal

pub returns : goal.returns
returns c =
    let parted = IsPartitionedBy-ltb (λ (x : Record). x.a) c.args.load.now c.args.low
    (values_rise c.args.load.now c.requires.ascends) in
    let point = IsPartitionPoint-from_clause (λ (x : Record). ltb x.a c.args.low) _ _
    c.partition_point.ensures.partitioned parted (λ a r q k. search rules) in
    stands_from c.args.low c.args.load.now c.partition_point.result c.partition_point.ensures.bound point
