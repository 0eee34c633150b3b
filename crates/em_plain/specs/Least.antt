-- All records of a list but the least one are written anew.
use Rattle.std.specs.Prelude.{◌≡◌, ℕ, ◌+◌, ◌*◌, ◌≤◌, max, min, List, [], ◌∷◌, ◌++◌, length, Option, option_to_list, IsTrue, IfNone, Result, Ok, Err}
use Rattle.std.specs.Ordering.{ord_max, ord_min}
use Rattle.em_record.specs.Order.{record_cmp, in_order}
use Rattle.em_record.specs.declared.record.Record.{Record}
use Rattle.em_space.specs.Held.{Within}
use Rattle.em_space.specs.Ledger.{Stops}
use Rattle.em_space.specs.Queue.{Pays}
use Rattle.em_space.specs.Rig.{RigState, Owes}
use Rattle.em_space.specs.declared.fault.EmFault.{EmFault}
use Rattle.em_chain.specs.Parts.{BeginsPart, pair_more}
use Rattle.em_chain.specs.Session.{Pairs, pair_blocks, pair_account, one_more}
use Rattle.em_chain.specs.Writer.{IsWriter, IsPackedSoFar, writer_items, writer_blocks, filled}
use Rattle.em_chain.specs.declared.reader.Reader.{Reader}
use Rattle.em_chain.specs.declared.writer.Writer.{Writer}

-- A reader of this many records that takes their chain, and a writer with no record.
pub record BeginsAnew (s : RigState) (r : Reader) (w : Writer) (count : ℕ) : Type 0 where
  pub begins : BeginsPart s r w
  pub count_is : r.count ≡ count
  pub none_left : r.count ≡ 0 → r.blocks ≡ 0

-- Records were read, and all of them but the least were written.
pub record Passes (s t : RigState) (r q : Reader) (w v : Writer) (least : Record) : Type 0 where
  pub read : List Record
  pub written : List Record
  pub pairs : Pairs (r.blocks + 1) s t r q w v read written
  pub held : length read ≡ length written + 1
  pub order : in_order read ≡ least ∷ in_order written

-- One record more was read; it or the least one was written, and the lesser stays.
abbrev pub PassesOne : RigState → RigState → Reader → Reader → Writer → Writer → Record
    → Result Record EmFault → Type 0
PassesOne s t r q w v least (Ok y) = (x : Record) × (y ≡ ord_min record_cmp x least)
    × Pairs (pair_more s r w) s t r q w v (x ∷ []) (ord_max record_cmp x least ∷ [])
PassesOne s t r q w v least (Err fault) =
    Stops (pair_more s r w) (2 * one_more s w) 1 (pair_blocks s r w) (pair_account r w) s t fault

-- All records but the least were written.
pub record Passed (s t : RigState) (r q : Reader) (w v : Writer) (item : Option Record) : Type 0 where
  pub read : List Record
  pub written : List Record
  pub pairs : Pairs (r.blocks + 1) s t r q w v read written
  pub held : length read ≡ length written + length (option_to_list item)
  pub order : in_order read ≡ option_to_list item ++ in_order written
  pub all_read : q.count ≡ 0
  pub none : IfNone item (r.count ≡ 0)

-- One block more was in use at once, at most, and one at most isn't stored.
pub record PassCosts (s t : RigState) : Type 0 where
  pub most : t.most ≤ max s.most (s.used + 1)
  pub owes : Owes 1 s t

-- A list of which every block but the last is full.
pub record IsFull (s : RigState) (w : Writer) : Type 0 where
  pub is : IsWriter s w
  pub packed : IsTrue s.device.told → IsPackedSoFar s w
  pub filled_is : filled s w ≡ w.count

-- The least record was taken out of a list.
pub record TakesLeast (s t : RigState) (w v : Writer) (item : Option Record) : Type 0 where
  pub is_full : IsFull t v
  pub items : IsTrue s.device.told → in_order (writer_items s w)
      ≡ option_to_list item ++ in_order (writer_items t v)
  pub count : v.count + length (option_to_list item) ≡ w.count
  pub none : IfNone item (w.count ≡ 0)
  pub within : Within s (writer_blocks s w) (writer_blocks t v)
  pub used : t.used + w.blocks ≡ s.used + v.blocks
  pub pays : Pays (min w.blocks 1) (min v.blocks 1) s t
