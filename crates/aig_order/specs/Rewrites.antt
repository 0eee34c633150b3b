-- What a pass by bits does: a list is read, and then read again, released and written anew.
use Rattle.std.specs.Prelude.{◌≡◌, ℕ, ◌+◌, ◌≤◌, List, ◌++◌, length, IsTrue, Result, Ok, Err}
use Rattle.em_record.specs.declared.record.Record.{Record}
use Rattle.em_space.specs.Ledger.{Runs, Stops}
use Rattle.em_space.specs.Rig.{RigState}
use Rattle.em_space.specs.declared.fault.EmFault.{EmFault}
use Rattle.em_chain.specs.Chain.{IsChain, chain_blocks, chain_items, payload_in}
use Rattle.em_chain.specs.Counts.{ceiling}
use Rattle.em_chain.specs.Session.{Pairs}
use Rattle.em_chain.specs.declared.chain.Chain.{Chain}
use Rattle.em_chain.specs.declared.reader.Reader.{Reader}
use Rattle.em_chain.specs.declared.writer.Writer.{Writer}
use Rattle.aig_edges.specs.Accounts.{stored_account}
use Rattle.aig_edges.specs.Copies.{StopsWritingAnew}
use Rattle.aig_edges.specs.Sorts.{sorting_moves}
use Rattle.aig_order.specs.declared.passing.Swept.{Swept}
use Rattle.aig_order.specs.declared.standing.Standing.{Standing}
use Rattle.aig_order.specs.declared.standing.Sweep.TheVariants.{Find}
use Rattle.aig_order.specs.Marks.{IsMarked, Leads, after_marks, mark_all}
use Rattle.aig_order.specs.Passes.{sweeping_moves}
use Rattle.aig_order.specs.Sweeps.{Moment}

-- n records were read, and as many written: these led on from one standing and row to another.
pub record RewritesOn (last n : ℕ) (s t : RigState) (r q : Reader) (w v : Writer) (p j : Standing)
    (old new : List Record) : Type 0 where
  pub items : List Record
  pub written : List Record
  pub count_is : length items ≡ n
  pub same : length written ≡ n
  pub pairs : Pairs (r.blocks + v.blocks) s t r q w v items written
  pub grows : w.blocks ≤ v.blocks
  pub leads : Leads last Find items written p j old new

-- what reading n records and writing them did, by the result
abbrev pub RewritesNext : {T : Type 0} → ℕ → ℕ → RigState → RigState → Reader → Reader → Writer → Writer
    → Standing → Standing → List Record → List Record → Result T EmFault → Type 0
RewritesNext last n s t r q w v p j old new (Ok done) = RewritesOn last n s t r q w v p j old new
RewritesNext last n s t r q w v p j old new (Err fault) =
    StopsWritingAnew (w.count + r.count) s t r w fault

-- from each moment with this standing and row the second sweep over these records ends at another standing, and
-- writes this
abbrev pub Becomes : ℕ → List Record → List Record → Standing → Standing → List Record → Type 0
Becomes last rs ws p j old = (n : ℕ) (m : Moment) → IsMarked last m p old
    → ((mark_all last Find n rs m).standing ≡ j)
    × ((mark_all last Find n rs m).written ≡ m.written ++ ws)

-- A packed list of what the records become, in blocks that the list had, or that weren't in use.
pub record RewritesList (last : ℕ) (s t : RigState) (c d : Chain) (p j : Standing) (old : List Record)
    : Type 0 where
  pub is : IsChain t d
  pub count_is : d.count ≡ c.count
  pub blocks_is : d.blocks ≡ ceiling c.count (payload_in s)
  pub items : IsTrue s.device.told → Becomes last (chain_items s c) (chain_items t d) p j old
  pub runs : Runs (c.blocks + ceiling c.count (payload_in s)) (chain_blocks s c) (chain_blocks t d)
      (stored_account c.blocks (sorting_moves s c)) (stored_account d.blocks 0) s t

-- A call on a list gave up before it was made.
abbrev pub StopsRewriting : RigState → RigState → Chain → EmFault → Type 0
StopsRewriting s t c fault = Stops (c.blocks + ceiling c.count (payload_in s)) 0 1 (chain_blocks s c)
    (stored_account c.blocks (sorting_moves s c)) s t fault

-- what writing it did, by the result
abbrev pub RewritesTo : ℕ → RigState → RigState → Chain → Standing → Standing → List Record
    → Result Chain EmFault → Type 0
RewritesTo last s t c p j old (Ok d) = RewritesList last s t c d p j old
RewritesTo last s t c p j old (Err fault) = StopsRewriting s t c fault

-- Both sweeps were made: the list that they write, and the next rank.
pub record MarksList (last next : ℕ) (s t : RigState) (c : Chain) (d : Swept) : Type 0 where
  pub is : IsChain t d.list
  pub count_is : d.list.count ≡ c.count
  pub blocks_is : d.list.blocks ≡ ceiling c.count (payload_in s)
  pub items : IsTrue s.device.told
      → chain_items t d.list ≡ (after_marks last next (chain_items s c)).written
  pub next_is : IsTrue s.device.told
      → d.next ≡ (after_marks last next (chain_items s c)).standing.next
  pub runs : Runs (c.blocks + d.list.blocks) (chain_blocks s c) (chain_blocks t d.list)
      (stored_account c.blocks (sweeping_moves c.blocks d.list.blocks))
      (stored_account d.list.blocks 0) s t

-- what they did, by the result: a call on a list may have been refused
abbrev pub MarksTo : ℕ → ℕ → RigState → RigState → Chain → Result Swept EmFault → Type 0
MarksTo last next s t c (Ok d) = MarksList last next s t c d
MarksTo last next s t c (Err fault) =
    Stops (c.blocks + ceiling c.count (payload_in s)) 0 1 (chain_blocks s c)
    (stored_account c.blocks (sweeping_moves c.blocks (ceiling c.count (payload_in s)))) s t fault
