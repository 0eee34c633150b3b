-- What the calls of a weave do.
use Rattle.std.specs.Prelude.{◌≡◌, ◌+◌, ◌*◌, ◌≤◌, List, [], ◌++◌, length, IsTrue, Option, None, option_to_list, Result, Ok, Err}
use Rattle.em_record.specs.declared.record.Record.{Record}
use Rattle.em_space.specs.Ledger.{Costs, Runs, Stops}
use Rattle.em_space.specs.Rig.{RigState}
use Rattle.em_space.specs.declared.fault.EmFault.{EmFault}
use Rattle.em_chain.specs.Chain.{ChainStays, chain_blocks, chain_items}
use Rattle.em_chain.specs.Reader.{rest_of}
use Rattle.em_chain.specs.declared.chain.Chain.{Chain}
use Rattle.em_weave.specs.Peek.{peek_count}
use Rattle.em_weave.specs.State.{IsWeave, left_items, right_items, weave_items, weave_count, weave_blocks, weave_held, weave_account}
use Rattle.em_weave.specs.Woven.{woven, lefts, rights}
use Rattle.em_weave.specs.declared.side.Side.{Side}
use Rattle.em_weave.specs.declared.weave.Weave.{Weave}

-- A weave of two chains, from their first records.
pub record OpensBoth (s t : RigState) (left right : Chain) (w : Weave) : Type 0 where
  pub is : IsWeave t w
  pub left_items : IsTrue s.device.told → left_items t w ≡ chain_items s left
  pub right_items : IsTrue s.device.told → right_items t w ≡ chain_items s right
  pub blocks : IsTrue s.device.told
      → weave_blocks t w ≡ chain_blocks s left ++ chain_blocks s right
  pub left_count : peek_count w.left ≡ left.count
  pub right_count : peek_count w.right ≡ right.count
  pub held_is : weave_held w ≡ left.blocks + right.blocks
  pub owed_is : (weave_account w).owed ≡ 2 * left.blocks + 2 * right.blocks + 2

-- These records were given, by calls one after another, between which others may have come.
pub record Wove (s t : RigState) (w v : Weave) (xs : List Side) : Type 0 where
  pub told : t.device.told ≡ s.device.told
  pub is : IsWeave t v
  pub items : IsTrue s.device.told → weave_items s w ≡ xs ++ weave_items t v
  pub left_count : peek_count v.left + length (lefts xs) ≡ peek_count w.left
  pub right_count : peek_count v.right + length (rights xs) ≡ peek_count w.right
  pub fewer : weave_held v ≤ weave_held w

-- The same, with what it cost.
pub record Weaves (s t : RigState) (w v : Weave) (xs : List Side) : Type 0 where
  pub runs : Runs (weave_held w) (weave_blocks s w) (weave_blocks t v) (weave_account w)
      (weave_account v) s t
  pub wove : Wove s t w v xs

-- A call gave up. What was read ahead is lost.
abbrev pub StopsWeaving : RigState → RigState → Weave → EmFault → Type 0
StopsWeaving s t w fault = Stops (weave_held w) 0 0 (weave_blocks s w) (weave_account w) s t fault

-- Nothing is left, and nothing was done.
pub record AtBothEnds (s t : RigState) (w v : Weave) : Type 0 where
  pub count : weave_count w ≡ 0
  pub same : v ≡ w
  pub rig : t ≡ s

-- Of each side a record is ahead, if one is left, and none was given.
pub record BothAhead (s t : RigState) (w v : Weave) : Type 0 where
  pub weaves : Weaves s t w v []
  pub left_none : v.left.front ≡ None → v.left.reader.count ≡ 0
  pub right_none : v.right.front ≡ None → v.right.reader.count ≡ 0
  pub none : v.left.front ≡ None → v.right.front ≡ None → AtBothEnds s t w v

-- The same, or what a fault left.
abbrev pub BothAheadTo : RigState → RigState → Weave → Weave → Result (Unit {0}) EmFault → Type 0
BothAheadTo s t w v (Ok done) = BothAhead s t w v
BothAheadTo s t w v (Err fault) = StopsWeaving s t w fault

-- The first of the records that are ahead was taken.
pub record TakesFront (w v : Weave) (o : Option Side) : Type 0 where
  pub left_reader : v.left.reader ≡ w.left.reader
  pub right_reader : v.right.reader ≡ w.right.reader
  pub items : (ls rs : List Record) → (w.left.front ≡ None → ls ≡ [])
      → (w.right.front ≡ None → rs ≡ [])
      → woven (option_to_list w.left.front ++ ls) (option_to_list w.right.front ++ rs)
      ≡ option_to_list o
      ++ woven (option_to_list v.left.front ++ ls) (option_to_list v.right.front ++ rs)
  pub left_count : length (option_to_list v.left.front) + length (lefts (option_to_list o))
      ≡ length (option_to_list w.left.front)
  pub right_count : length (option_to_list v.right.front) + length (rights (option_to_list o))
      ≡ length (option_to_list w.right.front)
  pub none : o ≡ None → (w.left.front ≡ None) × (w.right.front ≡ None) × (v ≡ w)

-- These are the chains that are left, and what each holds stayed.
pub record GivesChains (s t : RigState) (w : Weave) (left right : Chain) : Type 0 where
  pub left_is : left ≡ rest_of w.left.reader
  pub right_is : right ≡ rest_of w.right.reader
  pub left_stays : ChainStays s t left
  pub right_stays : ChainStays s t right

-- All blocks that are left were released, or what a fault left of them. A value of no blocks is left.
abbrev pub EndCosts : {T : Type 0} → RigState → RigState → Weave → Result T EmFault → Type 0
EndCosts s t w result = Costs (weave_held w) 0 0 (weave_account w)
    (record { blocks = 0; unstored = 0; paid = 0; owed = 0 }) s t result
