-- What the steps of comparing definitions and edges do.
use Rattle.std.specs.Prelude.{◌≡◌, ℕ, ◌+◌, ◌-◌, ◌*◌, ◌<◌, ◌≤◌, ◌^◌, List, [], ◌∷◌, ◌++◌, filter, length, map, IsTrue, Result, Ok, Err}
use Rattle.em_record.specs.declared.record.Record.{Record}
use Rattle.em_space.specs.Held.{Holds}
use Rattle.em_frames.specs.Pool.{GivenFrames, LentFrames, singles_of}
use Rattle.em_space.specs.Ledger.{Account, both, Halts, Runs, Session, Spends, Stops}
use Rattle.em_space.specs.Rig.{RigState, Sound, Touches, Cause}
use Rattle.em_space.specs.declared.fault.EmFault.{EmFault}
use Rattle.em_chain.specs.Chain.{IsChain, IsPacked, chain_blocks, chain_items, payload_in}
use Rattle.em_chain.specs.Counts.{ceiling}
use Rattle.em_chain.specs.Effects.{Unmoved}
use Rattle.em_chain.specs.Session.{Wrote, writer_account}
use Rattle.em_chain.specs.Writer.{IsPackedSoFar, IsWriter, WriterHasFrame, filled, writer_blocks, writer_items}
use Rattle.em_chain.specs.declared.chain.Chain.{Chain}
use Rattle.em_chain.specs.declared.writer.Writer.{Writer}
use Rattle.em_weave.specs.State.{IsWeave, WeaveHasFrames, left_items, right_items, weave_account, weave_blocks, weave_count, weave_held, weave_items}
use Rattle.em_weave.specs.Peek.{peek_count}
use Rattle.em_weave.specs.Weaves.{Wove}
use Rattle.em_weave.specs.Woven.{lefts, rights}
use Rattle.em_weave.specs.declared.side.Side.{Side}
use Rattle.aig_defs.specs.declared.fault.AigKind.{AigKind}
use Rattle.aig_defs.specs.declared.fault.AigKind.TheVariants as kind
use Rattle.aig_defs.specs.Circuit.{Circuit}
use Rattle.aig_defs.specs.Faults.{IsFaultOf, IsTwice, Nowhere}
use Rattle.aig_defs.specs.Sorted.{constant_def, is_source, plain_def}
use Rattle.aig_text.specs.declared.stop.AigStop.{AigStop}
use Rattle.aig_text.specs.declared.stop.AigStop.TheVariants as stop
use Rattle.aig_edges.specs.Compared.{ComparesSome}
use Rattle.aig_edges.specs.declared.comparing.Compared.{Compared}
use Rattle.aig_edges.specs.declared.comparing.Comparison.{Comparison}

-- the blocks that the lists hold, and what they have
abbrev pub lists_blocks : RigState → Comparison → List ℕ
lists_blocks s k = weave_blocks s k.weave ++ (writer_blocks s k.sources ++ writer_blocks s k.edges)

abbrev pub lists_account : Comparison → Account
lists_account k = both (weave_account k.weave) (both (writer_account k.sources) (writer_account k.edges))

-- The frames of all lists are the pool's.
pub record HasFramesOf (s : RigState) (k : Comparison) : Type 0 where
  pub weave : WeaveHasFrames s k.weave
  pub sources : WriterHasFrame s k.sources
  pub edges : WriterHasFrame s k.edges

-- All lists stand on the rig, which has a frame free. What is written has few records, and no gaps.
pub record AreLists (s : RigState) (k : Comparison) : Type 0 where
  pub sound : Sound s
  pub free : 0 < s.pool.free
  pub weave : IsWeave s k.weave
  pub sources : IsWriter s k.sources
  pub edges : IsWriter s k.edges
  pub holds : IsTrue s.device.told → Holds s (lists_blocks s k)
  pub sources_filled : filled s k.sources ≡ k.sources.count
  pub edges_filled : filled s k.edges ≡ k.edges.count
  pub sources_few : k.sources.count < 2 ^ 44
  pub edges_few : k.edges.count < 2 ^ 44

-- some definitions without numbers, those of sources alone
abbrev pub sources_in : List Record → List Record
sources_in defs = map plain_def (filter is_source defs)

-- how many sources are left to be given
abbrev pub sources_left : RigState → Comparison → ℕ
sources_left s k = length (filter is_source (left_items s k.weave))

-- how many edges there are in all
abbrev pub edges_due : Comparison → ℕ
edges_due k = k.edges.count + peek_count k.weave.right

-- What a step asks: at most n sources were written, and if the device tells there are n in all.
pub record CanStep (n : ℕ) (s : RigState) (k : Comparison) : Type 0 where
  pub are : AreLists s k
  pub most : k.sources.count ≤ n
  pub defs_few : k.sources.count + peek_count k.weave.left ≤ 2 ^ 42
  pub edges_few : edges_due k ≤ 2 ^ 43
  pub left : IsTrue s.device.told → k.sources.count + sources_left s k ≡ n

-- These definitions and edges were given, these sources written, and these edges.
pub record Advances (s t : RigState) (k j : Comparison) (xs : List Side) (ys zs : List Record)
    : Type 0 where
  pub runs : Runs (weave_held k.weave + (j.sources.blocks + j.edges.blocks)) (lists_blocks s k)
      (lists_blocks t j) (lists_account k) (lists_account j) s t
  pub wove : Wove s t k.weave j.weave xs
  pub sources : Wrote s t k.sources j.sources ys
  pub edges : Wrote s t k.edges j.edges zs
  pub sources_grow : k.sources.blocks ≤ j.sources.blocks
  pub edges_grow : k.edges.blocks ≤ j.edges.blocks

-- Calls on the lists gave up, of which n sources and m edges were to be written at most.
abbrev pub StopsLists : ℕ → ℕ → RigState → RigState → Comparison → EmFault → Type 0
StopsLists n m s t k fault =
    Stops (weave_held k.weave + (ceiling n (payload_in s) + ceiling m (payload_in s)))
    (2 * (ceiling n (payload_in s) + ceiling m (payload_in s))) 2 (lists_blocks s k)
    (lists_account k) s t fault

-- A definition was kept, and its source was written if it has one.
pub record Keeps (n : ℕ) (s t : RigState) (k j : Comparison) (def : Record) : Type 0 where
  pub advances : Advances s t k j [] (sources_in (def ∷ [])) []
  pub most : j.sources.count ≤ n
  pub weave_is : j.weave ≡ k.weave
  pub last_is : j.last ≡ def

abbrev pub KeepsDef : ℕ → RigState → RigState → Comparison → Comparison → Record
    → Result (Unit {0}) EmFault → Type 0
KeepsDef n s t k j def (Ok x) = Keeps n s t k j def
KeepsDef n s t k j def (Err fault) = StopsLists n k.edges.count s t k fault

-- An edge from the variable that was defined last was written.
pub record Meets (s t : RigState) (k j : Comparison) (e : Record) : Type 0 where
  pub advances : Advances s t k j [] [] (e ∷ [])
  pub met : k.last.a ≡ e.a
  pub weave_is : j.weave ≡ k.weave
  pub last_is : j.last ≡ k.last

-- It is from another one: nothing was done.
pub record Unmet (s t : RigState) (k j : Comparison) (e : Record) (fault : AigKind) (place : ℕ)
    : Type 0 where
  pub kind_is : fault ≡ kind.Undefined
  pub place_is : place ≡ e.a
  pub unmet : k.last.a ≡ e.a → ⊥
  pub rig : t ≡ s
  pub same : j ≡ k

abbrev pub MeetsEdge : RigState → RigState → Comparison → Comparison → Record
    → Result (Unit {0}) AigStop → Type 0
MeetsEdge s t k j e (Ok x) = Meets s t k j e
MeetsEdge s t k j e (Err (stop.Fault fault place)) = Unmet s t k j e fault place
MeetsEdge s t k j e (Err stop.Read) = ⊥
MeetsEdge s t k j e (Err (stop.Em fault)) =
    StopsLists k.sources.count (k.edges.count + 1) s t k fault

-- Some definitions and edges were compared, and what they say was written.
pub record ComparesOn (n : ℕ) (s t : RigState) (k j : Comparison) : Type 0 where
  pub sides : List Side
  pub advances : Advances s t k j sides (sources_in (lefts sides)) (rights sides)
  pub most : j.sources.count ≤ n
  pub follows : IsTrue s.device.told → (c : Circuit) (before : List Side)
      → ComparesSome c before (weave_items s k.weave) k.last
      → ComparesSome c (before ++ sides) (weave_items t j.weave) j.last

-- The same in one step: one record fewer is left, if there was one.
pub record StepsOne (n : ℕ) (s t : RigState) (k j : Comparison) : Type 0 where
  pub compares : ComparesOn n s t k j
  pub fewer : weave_count j.weave ≡ weave_count k.weave - 1

-- Some were compared, and the next edge comes from a variable that isn't defined.
pub record FindsUnmet (n : ℕ) (s t : RigState) (k j : Comparison) (fault : AigKind) (place : ℕ)
    : Type 0 where
  pub sides : List Side
  pub ys : List Record
  pub zs : List Record
  pub advances : Advances s t k j sides ys zs
  pub most : j.sources.count ≤ n
  pub edges_most : j.edges.count ≤ edges_due k
  pub kind_is : fault ≡ kind.Undefined
  pub found : IsTrue s.device.told → (c : Circuit) (before : List Side) → Nowhere (IsTwice c)
      → ComparesSome c before (weave_items s k.weave) k.last
      → IsFaultOf c fault place

abbrev pub StepsTo : ℕ → RigState → RigState → Comparison → Comparison
    → Result (Unit {0}) AigStop → Type 0
StepsTo n s t k j (Ok x) = StepsOne n s t k j
StepsTo n s t k j (Err (stop.Fault fault place)) = FindsUnmet n s t k j fault place
StepsTo n s t k j (Err stop.Read) = ⊥
StepsTo n s t k j (Err (stop.Em fault)) = StopsLists n (edges_due k) s t k fault

-- The same in some steps, of at most as many as there are records.
pub record ComparesFor (i total n : ℕ) (s t : RigState) (k j : Comparison) : Type 0 where
  pub compares : ComparesOn n s t k j
  pub left : weave_count j.weave + i ≤ total

-- All were compared.
pub record ComparesAll (n : ℕ) (s t : RigState) (k j : Comparison) : Type 0 where
  pub compares : ComparesOn n s t k j
  pub none : weave_count j.weave ≡ 0

abbrev pub AllTo : ℕ → RigState → RigState → Comparison → Comparison
    → Result (Unit {0}) AigStop → Type 0
AllTo n s t k j (Ok x) = ComparesAll n s t k j
AllTo n s t k j (Err (stop.Fault fault place)) = FindsUnmet n s t k j fault place
AllTo n s t k j (Err stop.Read) = ⊥
AllTo n s t k j (Err (stop.Em fault)) = StopsLists n (edges_due k) s t k fault

-- A list that is written has no record and no block yet.
pub record IsBegun (s : RigState) (w : Writer) : Type 0 where
  pub is : IsWriter s w
  pub items : IsTrue s.device.told → writer_items s w ≡ []
  pub held : IsTrue s.device.told → writer_blocks s w ≡ []
  pub packed : IsTrue s.device.told → IsPackedSoFar s w
  pub count : w.count ≡ 0
  pub blocks : w.blocks ≡ 0
  pub filled_is : filled s w ≡ 0

-- Two lists were opened to be compared, and two were begun. Four frames were lent.
pub record OpensLists (s t : RigState) (defs edges : Chain) (k : Comparison) : Type 0 where
  pub sound : Sound t
  pub touches : Touches [] s t
  pub frames : LentFrames 4 s.pool t.pool
  pub within : s.pool.free ≤ singles_of s.pool.shape
  pub unmoved : Unmoved s t
  pub weave : IsWeave t k.weave
  pub sources_begun : IsBegun t k.sources
  pub edges_begun : IsBegun t k.edges
  pub defs_are : IsTrue s.device.told → left_items t k.weave ≡ chain_items s defs
  pub edges_are : IsTrue s.device.told → right_items t k.weave ≡ chain_items s edges
  pub blocks : IsTrue s.device.told
      → weave_blocks t k.weave ≡ chain_blocks s defs ++ chain_blocks s edges
  pub left_count : peek_count k.weave.left ≡ defs.count
  pub right_count : peek_count k.weave.right ≡ edges.count
  pub held_is : weave_held k.weave ≡ defs.blocks + edges.blocks
  pub owed_is : (weave_account k.weave).owed ≡ 2 * defs.blocks + 2 * edges.blocks + 2
  pub last_is : k.last ≡ constant_def

-- Four frames came back, and only these blocks may have changed.
pub record GivesFour (held : List ℕ) (s t : RigState) : Type 0 where
  pub sound : Sound t
  pub touches : Touches held s t
  pub frames : GivenFrames 4 s.pool t.pool

-- The blocks of the lists.
abbrev pub lists_held : Comparison → ℕ
lists_held k = weave_held k.weave + (k.sources.blocks + k.edges.blocks)

-- A list that was finished.
pub record IsFinished (s t : RigState) (w : Writer) (c : Chain) : Type 0 where
  pub is : IsChain t c
  pub items : IsTrue s.device.told → chain_items t c ≡ writer_items s w
  pub packed : IsTrue s.device.told → IsPackedSoFar s w → IsPacked t c
  pub count_is : c.count ≡ w.count
  pub blocks_is : c.blocks ≡ w.blocks

-- The lists that were compared were ended, and the others finished.
pub record Finished (s t : RigState) (k : Comparison) (r : Compared) : Type 0 where
  pub frames : GivenFrames 4 s.pool t.pool
  pub session : Session (lists_blocks s k) s t (chain_blocks t r.sources ++ chain_blocks t r.edges)
  pub spends : Spends (lists_held k) (lists_account k) (record {
    blocks = r.sources.blocks + r.edges.blocks;
    unstored = 0;
    paid = 2 * (r.sources.blocks + r.edges.blocks) + 2;
    owed = 0;
  }) s t
  pub sources : IsFinished s t k.sources r.sources
  pub edges : IsFinished s t k.edges r.edges

-- A call on them gave up.
pub record Unfinished (s t : RigState) (k : Comparison) (fault : EmFault) : Type 0 where
  pub gives : GivesFour (lists_blocks s k) s t
  pub halts : Halts (lists_held k) (2 * (k.sources.blocks + k.edges.blocks) + 2) 2 (lists_account k)
      s t fault
  pub cause : Cause s t fault

abbrev pub FinishesTo : RigState → RigState → Comparison → Result Compared EmFault → Type 0
FinishesTo s t k (Ok r) = Finished s t k r
FinishesTo s t k (Err fault) = Unfinished s t k fault
