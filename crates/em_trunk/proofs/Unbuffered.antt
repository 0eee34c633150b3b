-- A tree in which nothing waits: its buffers hold no block, and its blocks can be released.
use Rattle.std.proofs.Common.{◌≡◌, ℕ, zero, suc, ◌-◌, ◌*◌, ◌≤◌, List, [], ◌∷◌, ◌++◌, length, refl, ap, arith, IsTrue}
use Rattle.std.specs.Prelude.{Option}
use Rattle.em_record.specs.Shape.{wide_of}
use Rattle.em_record.specs.declared.record.Record.{Record}
use Rattle.em_space.specs.Free.{linked_from}
use Rattle.em_space.specs.Rig.{RigState}
use Rattle.em_space.proofs.Lists.{distinct_left, in_use_left}
use Rattle.em_chain.specs.Chain.{IsChain, chain_blocks, chain_items}
use Rattle.em_chain.specs.Writer.{writer_blocks}
use Rattle.em_chain.specs.declared.chain.Chain.{Chain}
use Rattle.em_chain.proofs.Readers.{length_items, none_left}
use Rattle.em_chain.proofs.Views.{view_of}
use Rattle.em_node.specs.declared.entry.Entry.{Entry}
use Rattle.em_tree_blocks.specs.Node.{buffer_of, linked_block}
use Rattle.em_tree_blocks.specs.Reading.{AreStored, IsTreeAt, entries_at, row_of, stored_chain, tree_at, tree_blocks}
use Rattle.em_tree_cost.specs.Outline.{waiting_of}
use Rattle.em_tree_model.specs.Tree.{Tree}
use Rattle.em_tree_model.specs.Tree.Tree.{end, entry, leaf}
use Rattle.em_tree_outline.specs.Outline.{outline_of}
use Rattle.em_tree_load.specs.Releases.{CanRelease, HoldNone, IsUnbuffered}
use Rattle.em_trunk.specs.Buffers.{NoneFrom}
use Rattle.em_trunk.specs.Spots.{EachRead}
use Rattle.em_trunk.specs.Entries.{EachEntry}
use Rattle.em_trunk.specs.Works.{IsDrained}
use Rattle.em_trunk.specs.Sized.{LeavesUpTo, leaf_limit}
use Rattle.em_trunk.specs.Trunk.{IsRunning, IsTrunk, root_of}
use Rattle.em_trunk.specs.declared.trunk.Trunk.{Trunk}
use Rattle.em_trunk.proofs.RootLeads.{root_leads}

-- a chain with no record holds no block
pub no_block : (s : RigState) (c : Chain) → IsTrue s.device.told → IsChain s c → chain_items s c ≡ []
    → chain_blocks s c ≡ []
no_block s c told i e =
    let n = length_items s c i told in
    let z = ap length e in
    let none = none_left s c (view_of s c i) told (omega (arith, n, z)) in
    ap (λ m. linked_from m s.device.contents c.head) none

row_unbuffered : (l : ℕ) (s : RigState) → IsTrue s.device.told
    → ((k m : ℕ) (lo : Record) (hi : Option Record) → IsTreeAt l s k
    → EachEntry (NoneFrom 0) m lo hi (tree_at l s k)
    → LeavesUpTo (leaf_limit s.pool.shape) (outline_of (tree_at l s k)) → IsUnbuffered l s k)
    → (es : List Entry) (m : ℕ) (lo : Record) (hi : Option Record) → AreStored (IsTreeAt l s) s es
    → EachEntry (NoneFrom 0) m lo hi (row_of (tree_at l s) s es)
    → LeavesUpTo (leaf_limit s.pool.shape) (outline_of (row_of (tree_at l s) s es))
    → HoldNone s (IsUnbuffered l s) es
row_unbuffered l s told child [] m lo hi a e f = tt
row_unbuffered l s told child (x ∷ es) m lo hi a e f = (
  no_block s (buffer_of x) told a.0 (e.0 (omega arith)),
  child (linked_block x.child) _ _ _ a.1 e.1 f.0,
  row_unbuffered l s told child es _ _ _ a.2 e.2 f.1,
)

-- no buffer holds a block where nothing waits
pub unbuffered : (l : ℕ) (s : RigState) → IsTrue s.device.told → (k m : ℕ) (lo : Record)
    (hi : Option Record) → IsTreeAt l s k → EachEntry (NoneFrom 0) m lo hi (tree_at l s k)
    → LeavesUpTo (leaf_limit s.pool.shape) (outline_of (tree_at l s k)) → IsUnbuffered l s k
unbuffered zero s told k m lo hi i e f =
    let c = stored_chain s k in
    let n = length_items s c i.stored told in
    let few : length (chain_items s c) ≤ leaf_limit s.pool.shape = f in
    let w = wide_of s.pool.shape in
    let most : c.count ≤ 4 * w * s.pool.shape.block = omega (arith, n, few) in
    let same : 4 * w * s.pool.shape.block ≡ 4 * (w * s.pool.shape.block) = omega arith in
    omega (arith, most, same)
unbuffered (suc l) s told k m lo hi i e f =
    row_unbuffered l s told (unbuffered l s told) (entries_at s k) m lo hi i.1 e f

module _ (key : Record → Record) (IsOp IsKept : Record → Type 0) {s : RigState} {v : Trunk}
    (run : IsRunning key IsOp IsKept s v) where
  -- The blocks of nodes and leaves can be released, where nothing waits.
  pub can_release : (IsTrue s.device.told → EachRead (NoneFrom 0) s v) → CanRelease s v.level v.root
  can_release none = record {
    leads = root_leads key IsOp IsKept s v run;
    told = λ z. (let st = run.stands z in
        let tree = tree_blocks v.level s v.root in
        let lists = writer_blocks s v.buffer ++ writer_blocks s v.answers in
        record {
          none = unbuffered v.level s z v.root v.level _ _ st.stored (none z) st.sized.leaves.0;
          holds = record {
            in_use = in_use_left s tree lists st.holds.in_use;
            distinct = λ y. distinct_left tree lists (st.holds.distinct y);
          };
        });
  }

none_in : (b : List Record) → length b ≡ 0 → b ≡ []
none_in [] e = refl
none_in (x ∷ xs) e = absurd (omega (arith, e))

-- where no operation waits, each buffer is empty
none_from : (t : Tree) (m : ℕ) (lo : Record) (hi : Option Record) → waiting_of (outline_of t) ≡ 0
    → EachEntry (NoneFrom 0) m lo hi t
none_from (leaf xs) m lo hi e = tt
none_from end m lo hi e = tt
none_from (entry low b c r) m lo hi e =
    let n : length b ≡ 0 = omega (arith, e) in
    let below : waiting_of (outline_of c) ≡ 0 = omega (arith, e) in
    let after : waiting_of (outline_of r) ≡ 0 = omega (arith, e) in (
      λ h. none_in b n,
      none_from c (m - 1) _ _ below,
      none_from r m _ _ after,
    )

-- Before the first push nothing waits.
pub none_unused : {key : Record → Record} {IsOp IsKept : Record → Type 0} {s : RigState} {v : Trunk}
    → IsTrunk key IsOp IsKept s v → v.longest ≡ 0 → IsTrue s.device.told → EachRead (NoneFrom 0) s v
none_unused {s = s} {v = v} i unused told =
    let b = (i.books told).books in
    let few = b.paid.fits.sums.since_pushed in
    let most = b.paid.fits.sums.since_most in
    let k = b.k in
    none_from (root_of s v) v.level _ _ (omega (arith, few, most, k, unused))

-- nor is a block in the root's buffer
pub drained_unused : {key : Record → Record} {IsOp IsKept : Record → Type 0} {s : RigState} {v : Trunk}
    → IsTrunk key IsOp IsKept s v → v.longest ≡ 0 → IsDrained v
drained_unused i unused =
    let none = i.unused unused in
    record { empty = i.running.buffer.last.none_count none; unwritten = none }
