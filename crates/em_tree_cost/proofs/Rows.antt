-- Worked rows: shares, rooms, fees, events and outlines. All were worked out by hand.
use Rattle.std.proofs.Common.{◌≡◌, ◌+◌, ◌*◌, refl}
use Rattle.em_record.specs.Cost.{cost, room}
use Rattle.em_record.specs.Shape.{ShapeNumbers}
use Rattle.em_tree_cost.specs.Books.{count_drain, count_push, count_settle, no_counts}
use Rattle.em_tree_cost.specs.Counters.{Counters, no_counters, parts_of, parts_since}
use Rattle.em_tree_cost.specs.Fusing.{without_leaf, without_settled}
use Rattle.em_tree_cost.specs.Effects.{after_draining, after_loading, after_lowering, after_owning, after_pushing, after_removing, after_settling, after_splitting, after_taking}
use Rattle.em_tree_cost.specs.ExtQueue.{ExtQueueCounts, after_heap_pop, after_heap_push, after_last_item, after_last_refill, after_refill, after_spill, after_tree_push, no_calls}
use Rattle.em_tree_cost.specs.Fees.{fee, toll}
use Rattle.em_tree_cost.specs.Outline.{Outline, inner_of, join_outlines, sums_of}
use Rattle.em_tree_cost.specs.Outline.Outline.{end, entry, leaf}
use Rattle.em_tree_cost.specs.Parts.{filled_debt, full_moves, leave_debt, load_moves, settle_debt, split_moves, thin_moves, visit_debt}
use Rattle.em_tree_cost.specs.Shares.{batch_share, chain_share, cost_unit, floors_of, levels_of, queue_share, stab_room, stab_share, tree_room, tree_share}
use Rattle.em_tree_cost.specs.Spots.{level_at_spot, put_at_spot}
use Rattle.em_tree_cost.specs.Spots.Spot.{here, past, under}

-- the smallest shape: fan-out 16, 8 frames in an area, 127 records of payload
abbrev smallest : ShapeNumbers
smallest = record { block = 128; frames = 64 }

-- the default shape
abbrev usual : ShapeNumbers
usual = record { block = 1024; frames = 256 }

-- 20000 commands fill 157 blocks, with 2 levels: 248 * 158 * 3
batch_row : batch_share smallest 20000 ≡ 117552
batch_row = refl

-- 2048 * 158 * 3, and 96 * 158 + 128 * 5
cost_row : cost smallest 20001 ≡ 970752
cost_row = refl

room_row : room smallest 20001 ≡ 15808
room_row = refl

-- 1563 blocks with 3 levels: 2048 * 1564 * 4
long_cost_row : cost smallest 200000 ≡ 12812288
long_cost_row = refl

-- The levels are those of k: 240 * 158 * 3, and 240 * 158 * 1 if the queue is empty again after 100
-- calls.
queue_row : queue_share smallest 20000 20000 ≡ 113760
queue_row = refl

queue_emptied_row : queue_share smallest 20000 100 ≡ 37920
queue_emptied_row = refl

-- 1000 operations fill 8 blocks, with one level: (160 * 158 + 64 * 2 + 64 * 1 * 9) * 2
tree_row : tree_share smallest 20000 1000 2 1 ≡ 51968
tree_row = refl

-- 10,003 commands and 10,001 pairs fill 157 blocks: 1920 * 158 * 3
stab_row : stab_share smallest 20004 ≡ 910080
stab_row = refl

-- 10 full blocks, and one record more: 4 * 11, and 4 * 12
chain_row : chain_share smallest 1270 ≡ 44
chain_row = refl

longer_chain_row : chain_share smallest 1271 ≡ 48
longer_chain_row = refl

-- 12 * 158 + 64 * 4, and 32 * 158 + 64 * 4
tree_room_row : tree_room smallest 20000 ≡ 2152
tree_room_row = refl

stab_room_row : stab_room smallest 20004 ≡ 5312
stab_room_row = refl

-- One block has no level, and two blocks have one; a tree has one at least.
floors_row : floors_of smallest 128 ≡ 1
floors_row = refl

more_floors_row : floors_of smallest 129 ≡ 2
more_floors_row = refl

levels_row : levels_of smallest 128 ≡ 1
levels_row = refl

more_levels_row : levels_of smallest 2049 ≡ 2
more_levels_row = refl

-- A circuit of size 10 with 4 steps and 2 passes: 8 times 4096.
unit_row : cost_unit usual 10 ≡ 2
unit_row = refl

eval_row : (4 + 2 + 2) * cost usual (2 * 10) ≡ 32768
eval_row = refl

-- The parts of a call at the smallest shape and one level. A full buffer of 2048 records is 17
-- blocks, a load of 1024 is 9, a leaf of 4096 is 33, and 3072 records are 25.
full_row : full_moves 8 1 17 ≡ 217
full_row = refl

thin_row : thin_moves 8 17 ≡ 211
thin_row = refl

load_row : load_moves 1 9 33 ≡ 239
load_row = refl

split_row : split_moves 8 1 25 ≡ 263
split_row = refl

visit_row : visit_debt 8 1 ≡ 396
visit_row = refl

leave_row : leave_debt 8 1 ≡ 391
leave_row = refl

filled_row : filled_debt 8 1 ≡ 523
filled_row = refl

settle_row : settle_debt 2 10 3 ≡ 574
settle_row = refl

-- a tree of 20000 operations
abbrev some_counters : Counters
some_counters = record {
  n = 20000;
  k = 9000;
  since = 8000;
  z = 2;
  y = 3;
  lowered = 30000;
  loaded = 15000;
  splits = 7;
  splits_since = 4;
  removed_since = 3;
  visits_before = 4;
  taken = 100;
  left = 50;
  taken_since = 60;
  adopted = 7000;
  old = 5;
  brought = 5;
  settled = 1;
  settled_since = 1;
}

-- 60000 + 570000 + 540000 + 26 * 14336 + 71 * 7168 + 144 * 50 + 1800
fee_row : fee 8 128 2 some_counters ≡ 2060664
fee_row = refl

-- 100 for each of 2 resets, and 1000 for each of 3 calls of `settle_all` and `finish`
toll_row : toll 100 9 some_counters ≡ 3200
toll_row = refl

-- an operation is pushed, goes down a level and into a leaf
pushed_row : after_loading 1 (after_lowering 1 (after_pushing some_counters))
    ≡ record some_counters { n = 20001; k = 9000; since = 8001; lowered = 30001; loaded = 15001 }
pushed_row = refl

-- k rises only if there were as many operations since the reset
first_row : after_pushing no_counters ≡ record no_counters { n = 1; k = 1; since = 1 }
first_row = refl

-- a leaf is split, another taken away, and 5 records handed out, of which the call took 30
split_leaf_row : after_taking 5 30 (after_removing (after_splitting some_counters))
    ≡ record some_counters {
      splits = 8;
      splits_since = 5;
      removed_since = 4;
      taken = 105;
      left = 80;
      taken_since = 65;
    }
split_leaf_row = refl

-- Since the reset 5 leaves are there that came with the tree, and 5 splits: 15 parts.
parts_row : parts_since some_counters ≡ 15
parts_row = refl

-- A fused leaf undoes a settling's split, or one of the 5.
undone_settled_row : parts_of (without_settled some_counters) ≡ 19
undone_settled_row = refl

undone_leaf_row : parts_since (without_leaf some_counters) ≡ 14
undone_leaf_row = refl

-- The splits of a settling are still parts, and operations don't pay for them.
owned_row : after_owning some_counters
    ≡ record some_counters { splits = 3; splits_since = 0; settled = 5; settled_since = 5 }
owned_row = refl

-- A reset: 15 parts pay for 15 visits.
reset_row : after_draining (after_settling some_counters)
    ≡ record some_counters {
      since = 0;
      z = 3;
      y = 4;
      visits_before = 19;
      splits_since = 0;
      removed_since = 0;
      taken_since = 0;
      brought = 0;
      settled_since = 0;
    }
reset_row = refl

-- the numbers that code carries, over two pushes, of which the first began a block, a reset and
-- `finish`
counts_row : count_settle 7 (count_drain 5 (count_push 0 (count_push 2 no_counts)))
    ≡ record { n = 2; k = 2; since = 0; spent = 14; z = 1; y = 1; adopted = 0; counted = 0 }
counts_row = refl

-- Two leaves under a root. 5 operations wait over the first leaf, and 7 in the root's buffer. Of
-- 300 records 100 are above 200.
abbrev two_leaves : Outline
two_leaves = entry 5 (leaf 300) (entry 0 (leaf 100) end)

leaves_row : sums_of 200 1 two_leaves 7 1
    ≡ record {
      level = 1;
      waiting = 12;
      weight = 7;
      stored = 400;
      excess = 100;
      leaves = 2;
      root = 7;
      blocks = 1;
    }
leaves_row = refl

-- Two nodes like that under a root, with 4 and 6 operations over them, which have a level to go; 3
-- in the root's buffer have two.
abbrev two_nodes : Outline
two_nodes = entry 4 two_leaves (entry 6 two_leaves end)

nodes_row : sums_of 200 2 two_nodes 3 1
    ≡ record {
      level = 2;
      waiting = 23;
      weight = 16;
      stored = 800;
      excess = 200;
      leaves = 4;
      root = 3;
      blocks = 1;
    }
nodes_row = refl

inner_row : inner_of two_nodes ≡ 2
inner_row = refl

joined_row : join_outlines two_leaves two_leaves
    ≡ entry 5 (leaf 300) (entry 0 (leaf 100) two_leaves)
joined_row = refl

-- the second node's place
spot_row : put_at_spot (past 4 two_leaves (under 6 end here)) two_leaves ≡ two_nodes
spot_row = refl

spot_level_row : level_at_spot (past 4 two_leaves (under 6 end here)) 2 ≡ 1
spot_level_row = refl

-- A heap of 4 items: four pushes fill it; half goes to the tree; of two more pushes one goes into
-- the heap and one into the tree.
abbrev after_six : ExtQueueCounts
after_six = after_tree_push (after_heap_push (after_spill 2
    (after_heap_push (after_heap_push (after_heap_push (after_heap_push no_calls))))))

six_row : after_six
    ≡ record {
      n = 6;
      k = 6;
      since = 6;
      heap = 3;
      tree_len = 3;
      tree_n = 3;
      tree_k = 3;
      tree_since = 3;
      z = 0;
      pushed_since = 3;
      spills = 1;
    }
six_row = refl

-- Three pops empty the heap, the tree gives its three items, and three pops empty the queue.
abbrev after_twelve : ExtQueueCounts
after_twelve = after_last_item (after_heap_pop (after_heap_pop (after_heap_pop (after_last_refill 3
    (after_heap_pop (after_heap_pop (after_heap_pop after_six)))))))

twelve_row : after_twelve
    ≡ record {
      n = 12;
      k = 12;
      since = 0;
      heap = 0;
      tree_len = 0;
      tree_n = 3;
      tree_k = 3;
      tree_since = 0;
      z = 1;
      pushed_since = 0;
      spills = 1;
    }
twelve_row = refl

-- The tree gives two of three items.
refill_row : after_refill 2 (record after_six { heap = 0 })
    ≡ record after_six { heap = 2; tree_len = 1 }
refill_row = refl
