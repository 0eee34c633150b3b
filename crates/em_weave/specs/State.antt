-- A weave: two readers that take their chains, each one record ahead.
use Rattle.std.specs.Prelude.{◌≡◌, ℕ, ◌+◌, List, ◌++◌, length, IsTrue}
use Rattle.em_record.specs.declared.record.Record.{Record}
use Rattle.em_frames.specs.Pool.{HasFrames}
use Rattle.em_space.specs.Held.{Apart}
use Rattle.em_space.specs.Ledger.{Account}
use Rattle.em_space.specs.Rig.{RigState}
use Rattle.em_chain.specs.Reader.{owed}
use Rattle.em_weave.specs.Peek.{IsPeek, peek_items, peek_count, peek_blocks}
use Rattle.em_weave.specs.Woven.{woven}
use Rattle.em_weave.specs.declared.side.Side.{Side}
use Rattle.em_weave.specs.declared.weave.Weave.{Weave}

-- what is left of each side
abbrev pub left_items : RigState → Weave → List Record
left_items s w = peek_items s w.left

abbrev pub right_items : RigState → Weave → List Record
right_items s w = peek_items s w.right

-- what `next` gives, one after another
abbrev pub weave_items : RigState → Weave → List Side
weave_items s w = woven (left_items s w) (right_items s w)

-- how many records are left
abbrev pub weave_count : Weave → ℕ
weave_count w = peek_count w.left + peek_count w.right

-- the blocks that it holds, and how many they are
abbrev pub weave_blocks : RigState → Weave → List ℕ
weave_blocks s w = peek_blocks s w.left ++ peek_blocks s w.right

abbrev pub weave_held : Weave → ℕ
weave_held w = w.left.reader.blocks + w.right.reader.blocks

-- Two moves more than the readers may make are owed: each list that was begun may cost one more to
-- be released.
abbrev pub weave_account : Weave → Account
weave_account w = record {
  blocks = weave_held w;
  unstored = 0;
  paid = 0;
  owed = owed w.left.reader + owed w.right.reader + 2;
}

-- Both frames are the pool's: what is left to ask after a fault.
pub record WeaveHasFrames (s : RigState) (w : Weave) : Type 0 where
  pub left : HasFrames 2 (length w.left.reader.frame) s.pool
  pub right : HasFrames 2 (length w.right.reader.frame) s.pool

-- Both readers take their chains, which have no block in common.
pub record IsWeave (s : RigState) (w : Weave) : Type 0 where
  pub left : IsPeek s w.left
  pub right : IsPeek s w.right
  pub apart : IsTrue s.device.told → Apart (peek_blocks s w.left) (peek_blocks s w.right)
  pub frames : WeaveHasFrames s w

-- A call left the blocks of a weave alone.
pub record WeaveStays (s t : RigState) (w : Weave) : Type 0 where
  pub is : IsWeave t w
  pub left : IsTrue s.device.told → left_items t w ≡ left_items s w
  pub right : IsTrue s.device.told → right_items t w ≡ right_items s w
  pub items : IsTrue s.device.told → weave_items t w ≡ weave_items s w
  pub blocks : IsTrue s.device.told → weave_blocks t w ≡ weave_blocks s w
