-- Worked rows: a tree of five blocks, and what is read of it. All were worked out by hand.
use Rattle.std.specs.Prelude.{◌≡◌, ℕ, true, false, List, [], ◌∷◌}
use Rattle.std.proofs.Common.{refl}
use base.Fml.{GName}
use Rattle.em_record.specs.declared.record.Record.{Record}
use Rattle.em_frames.specs.Device.{zero_record}
use Rattle.em_space.specs.Rig.{RigState}
use Rattle.em_tree_model.specs.Tree.Tree.{leaf, end, entry}
use Rattle.em_tree_model.specs.Places.Place.{here, under, past}
use Rattle.em_tree_blocks.specs.Reading.{tree_at, tree_blocks, stored_chain}
use Rattle.em_tree_blocks.specs.Paths.{node_on, level_on, place_on, blocks_with}

abbrev rec : ℕ → ℕ → ℕ → ℕ → Record
rec a b c d = record { a = a; b = b; c = c; d = d }

-- the header of a chain block that leads to no other, with n records
abbrev last_block : ℕ → Record
last_block n = rec 0 n 1 0

-- Block 0 is a node of level 1 with two entries. The first has its buffer in block 3, and leads to
-- the leaf block 1, whose records are in block 4. The second has nothing in its buffer, and leads to
-- the leaf block 2, which has no records.
abbrev node_block : List Record
node_block = rec 1 2 2 0 ∷ zero_record
    ∷ rec 0 0 0 0 ∷ rec 2 4 0 4 ∷ rec 1 1 0 0
    ∷ rec 5 0 0 0 ∷ rec 3 0 0 0 ∷ rec 0 0 0 0 ∷ []

abbrev blocks : List (List Record)
blocks = node_block
    ∷ (last_block 1 ∷ rec 5 0 5 2 ∷ [])
    ∷ (last_block 1 ∷ rec 0 0 0 0 ∷ [])
    ∷ (last_block 1 ∷ rec 2 1 0 20 ∷ [])
    ∷ (last_block 2 ∷ rec 1 0 0 10 ∷ rec 3 0 0 30 ∷ []) ∷ []

abbrev five : GName → RigState
five name = record {
  name = name;
  device = record { told = true; contents = blocks; blocks = 5; block = 128; faults = 0; moves = 0 };
  pool = record {
    shape = record { block = 128; frames = 64 };
    free = 0;
    free_areas = 0;
    rack_out = false;
    peak = 64;
  };
  blocks = 5;
  head = 0;
  spare = [];
  used = 5;
  most = 5;
  moves = 0;
}

-- what is read from block 0 on
five_tree : (name : GName) → tree_at 1 (five name) 0
    ≡ entry (rec 0 0 0 0) (rec 2 1 0 20 ∷ []) (leaf (rec 1 0 0 10 ∷ rec 3 0 0 30 ∷ []))
    (entry (rec 5 0 0 0) [] (leaf []) end)
five_tree name = refl

-- its blocks: each entry's buffer before its child
five_blocks : (name : GName) → tree_blocks 1 (five name) 0 ≡ 0 ∷ 3 ∷ 1 ∷ 4 ∷ 2 ∷ []
five_blocks name = refl

-- the way to the second leaf: through place 1 of the node
second_leaf : (name : GName) → node_on (1 ∷ []) 1 (five name) 0 ≡ 2
second_leaf name = refl

second_level : level_on (1 ∷ []) 1 ≡ 0
second_level = refl

second_place : (name : GName) → place_on (1 ∷ []) 1 (five name) 0
    ≡ past (rec 0 0 0 0) (rec 2 1 0 20 ∷ []) (leaf (rec 1 0 0 10 ∷ rec 3 0 0 30 ∷ []))
    (under (rec 5 0 0 0) [] end here)
second_place name = refl

-- the blocks of all others
second_others : (name : GName) → blocks_with (1 ∷ []) 1 (five name) 0 [] ≡ 0 ∷ 3 ∷ 1 ∷ 4 ∷ []
second_others name = refl

-- the five words of a leaf's chain, of which the blocks follow from the records: two fit one block
first_words : (name : GName) → stored_chain (five name) 1
    ≡ record { head = 5; skip = 0; tail = 5; count = 2; blocks = 1 }
first_words name = refl
