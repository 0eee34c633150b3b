-- A tree to which nothing was pushed, ever or since the last reset: it has one leaf with no record, and if it is
-- no reset's, it answered nothing.
use Rattle.std.proofs.Common.{◌≡◌, ℕ, zero, suc, ◌+◌, ◌*◌, ◌≤◌, List, [], ◌∷◌, ◌++◌, length, sym, ap, ◌∙◌, subst, arith, length-append, ⊎_elim, IsTrue}
use Rattle.std.proofs.Math.Nat.{mul-le-mul_right}
use Rattle.std.proofs.lemmas.List.{length-drop, nil_from_length}
use Rattle.std.proofs.lemmas.List.Sorted.{length_permutation}
use Rattle.std.specs.List.Sorted.{IsPermutation}
use Rattle.std.specs.Prelude.{None, Option}
use Rattle.em_record.specs.Shape.{IsShape, ShapeNumbers, payload_of, wide_of}
use Rattle.em_record.specs.declared.record.Record.{Record}
use Rattle.em_space.specs.Rig.{RigState}
use Rattle.em_chain.specs.Chain.{chain_blocks, chain_items, payload_in}
use Rattle.em_chain.specs.List.{IsList, Words, items_in, payload}
use Rattle.em_chain.specs.Writer.{IsWriter, writer_blocks, writer_contents, writer_items, writer_words}
use Rattle.em_chain.specs.declared.writer.Writer.{Writer}
use Rattle.em_chain.proofs.Readers.{length_payload}
use Rattle.em_node.specs.declared.entry.Entry.{Entry}
use Rattle.em_settle.specs.declared.step.Step.{Step}
use Rattle.em_tree_blocks.specs.Node.{buffer_of, linked_block}
use Rattle.em_tree_blocks.specs.Reading.{AreStored, IsTreeAt, entries_at, row_blocks, row_of, stored_chain, tree_at, tree_blocks}
use Rattle.em_tree_blocks.proofs.Entries.{tree_level}
use Rattle.em_tree_cost.specs.Books.{KeepsBooks, TreeCounts}
use Rattle.em_tree_cost.specs.Counters.{Sums, parts_since}
use Rattle.em_tree_cost.specs.Outline.{IsLevel, Outline, inner_of, leaves_of, node_of, stored_of}
use Rattle.em_tree_cost.proofs.Outlines.{inner_most}
use Rattle.em_tree_model.specs.Meaning.{tree_answers, tree_contents}
use Rattle.em_tree_model.specs.Ranges.{least_record}
use Rattle.em_tree_model.specs.Tree.{waiting_in}
use Rattle.em_tree_model.proofs.Least.{all_given}
use Rattle.em_tree_outline.specs.Outline.{outline_of}
use Rattle.em_tree_outline.proofs.Outlines.{outline_level}
use Rattle.em_trunk.specs.Buffers.{NoneFrom}
use Rattle.em_trunk.specs.Spots.{EachRead}
use Rattle.em_trunk.specs.Entries.{EachEntry}
use Rattle.em_trunk.specs.Trunk.{IsRunning, IsTrunk, given_by, model_of, root_of, sums_in}
use Rattle.em_trunk.specs.declared.trunk.Trunk.{Trunk}
use Rattle.em_trunk.proofs.HeldBlocks.{leaf_packed, row_node}
use Rattle.em_trunk.proofs.LeafSizes.{ceil_few}
use Rattle.em_trunk.proofs.Meaning.{represents_itself}
use Rattle.em_tree.proofs.Settled.{none_waiting}
use Rattle.em_trunk.proofs.Unbuffered.{no_block, none_unused}
use Rattle.em_trunk.proofs.TrunkLists.{no_items}

-- One leaf is there, on one level, and no record.
pub record IsOneLeaf (t : Sums) : Type 0 where
  pub level : t.level ≡ 1
  pub leaves : t.leaves ≡ 1
  pub stored : t.stored ≡ 0

-- So it is while nothing was pushed since the last reset.
pub one_leaf : {shape : ShapeNumbers} {c : TreeCounts} {more : ℕ} {t : Sums} → IsShape shape
    → KeepsBooks shape c more t → c.since ≡ 0 → IsOneLeaf t
one_leaf {shape = shape} {t = t} is b none =
    let f = b.paid.fits in
    let cs = b.counters in
    let since : cs.since ≡ 0 = b.since ∙ none in
    let wide : 1 ≤ wide_of shape = omega (arith, is.frames_low, is.frames_multiple) in
    let size : 1 * shape.block ≤ wide_of shape * shape.block = mul-le-mul_right shape.block wide in
    let low = is.block_low in
    let each : 1 * parts_since cs ≤ wide_of shape * shape.block * parts_since cs =
    mul-le-mul_right (parts_since cs) (omega (arith, size, low)) in
    let parts : parts_since cs ≡ 0 = omega (arith, each, f.sums.parts_since_most, since) in
    record {
      level = ⊎_elim (λ (one : t.level ≡ 1). one)
          (λ (some : 2 ≤ parts_since cs). (let e : t.level ≡ 1 = absurd (omega (arith, some, parts)) in e))
          f.root.level_parts;
      leaves = omega (arith, f.sums.leaves_are, f.sums.leaves_some, parts);
      stored = omega (arith, f.sums.since_pushed, since);
    }

-- what a tree holds at most in which nothing waits: its nodes and leaves, and a block for each record
abbrev all_of : Outline → ℕ
all_of o = node_of o + inner_of o + leaves_of o + stored_of o

-- Of a leaf:
leaf_few : (s : RigState) (k : ℕ) → IsShape s.pool.shape → IsTrue s.device.told → IsTreeAt 0 s k
    → length (tree_blocks 0 s k) ≤ 1 + length (chain_items s (stored_chain s k))
leaf_few s k is told i =
    let low = is.block_low in
    let few = ceil_few (length (chain_blocks s (stored_chain s k))) (payload_of s.pool.shape)
    (length (chain_items s (stored_chain s k))) (omega (arith, low)) (leaf_packed s k is told i) in
    omega (arith, few)

-- of a row,
row_few : (l : ℕ) (s : RigState) → IsTrue s.device.told
    → ((k m : ℕ) (lo : Record) (hi : Option Record) → IsTreeAt l s k
    → EachEntry (NoneFrom 0) m lo hi (tree_at l s k)
    → length (tree_blocks l s k) ≤ all_of (outline_of (tree_at l s k)))
    → (es : List Entry) (m : ℕ) (lo : Record) (hi : Option Record) → AreStored (IsTreeAt l s) s es
    → EachEntry (NoneFrom 0) m lo hi (row_of (tree_at l s) s es)
    → (let o = outline_of (row_of (tree_at l s) s es) in
    length (row_blocks (tree_blocks l s) s es) ≤ inner_of o + leaves_of o + stored_of o)
row_few l s told child [] m lo hi a e = omega arith
row_few l s told child (x ∷ es) m lo hi a e =
    let none = ap length (no_block s (buffer_of x) told a.0 (e.0 (omega arith))) in
    let below = tree_blocks l s (linked_block x.child) in
    let rest = row_blocks (tree_blocks l s) s es in
    let n = length-append (chain_blocks s (buffer_of x)) (below ++ rest) in
    let k = length-append below rest in
    let one = child (linked_block x.child) _ _ _ a.1 e.1 in
    let more = row_few l s told child es _ _ _ a.2 e.2 in
    omega (arith, none, n, k, one, more)

-- and of a node.
tree_few : (l : ℕ) (s : RigState) → IsShape s.pool.shape → IsTrue s.device.told → (k m : ℕ) (lo : Record)
    (hi : Option Record) → IsTreeAt l s k → EachEntry (NoneFrom 0) m lo hi (tree_at l s k)
    → length (tree_blocks l s k) ≤ all_of (outline_of (tree_at l s k))
tree_few zero s is told k m lo hi i e = leaf_few s k is told i
tree_few (suc l) s is told k m lo hi i e =
    let row = row_few l s told (tree_few l s is told) (entries_at s k) m lo hi i.1 e in
    let one = row_node (tree_at l s) s (entries_at s k) in
    omega (arith, row, one)

-- A tree of one level in which nothing waits holds its root, its leaves, and at most a block for each record.
pub few_blocks : (key : Record → Record) (IsOp IsKept : Record → Type 0) (s : RigState) (v : Trunk)
    → IsRunning key IsOp IsKept s v → IsShape s.pool.shape → IsTrue s.device.told → EachRead (NoneFrom 0) s v
    → v.level ≡ 1
    → length (tree_blocks v.level s v.root) ≤ 1 + (sums_in s v).leaves + (sums_in s v).stored
few_blocks key IsOp IsKept s v run is told none one =
    let st = run.stands told in
    let o = outline_of (root_of s v) in
    let all = tree_few v.level s is told v.root v.level least_record None st.stored none in
    let N : ℕ → Type 0 = λ n. node_of (outline_of (tree_at n s v.root)) ≡ 1 in
    let node : node_of o ≡ 1 = subst N (sym one) (row_node (tree_at 0 s) s (entries_at s v.root)) in
    let P : ℕ → Type 0 = IsLevel o in
    let even = subst P one (outline_level key (root_of s v) v.level _ _ st.is.2 (tree_level v.level s v.root)) in
    let inner = inner_most o 0 even in
    omega (arith, all, node, inner)

-- a list with no record has no block
none_listed : (p : ℕ) (w : Words) (ks : List ℕ) (cs : List (List Record)) → IsList p w ks cs → w.count ≡ 0
    → w.blocks ≡ 0
none_listed p w [] cs l e = (let n = l.blocks_is in omega (arith, n))
none_listed p w (k ∷ ks) [] l e = absurd l.run
none_listed p w (k ∷ ks) (c ∷ cs) l e =
    let lp = length_payload p c l.run.1 in
    let la = length-append (payload c) (items_in cs) in
    let ci = l.count_is in
    let sk = l.skip_fits in
    absurd (omega (arith, lp, la, ci, sk, e))

-- nor has one that is being written
pub none_written : (s : RigState) (w : Writer) → IsWriter s w → IsTrue s.device.told → writer_items s w ≡ []
    → w.blocks ≡ 0
none_written s w i told e =
    let h = (i.told told).list in
    let n = length-drop w.skip (items_in (writer_contents s w)) in
    let z = ap length e in
    let c = h.count_is in
    none_listed (payload_in s) (writer_words w) (writer_blocks s w) (writer_contents s w) h
    (omega (arith, n, z, c))

module _ (key : Record → Record) (step : Option Record → Record → Step) (IsOp IsKept : Record → Type 0)
    {s : RigState} {v : Trunk} (is : IsTrunk key IsOp IsKept s v) (told : IsTrue s.device.told)
    (unused : v.longest ≡ 0) where
  -- Before the first push nothing waits,
  pub none_waits : waiting_in (model_of s v) ≡ []
  none_waits =
      let below = none_waiting (root_of s v) v.level least_record None (none_unused is unused told) in
      let own = no_items s v.buffer is.running.buffer (is.unused unused) in
      ap (λ xs. (xs ++ writer_items s v.buffer) ++ []) below ∙ ap (λ xs. xs ++ []) own

  -- and no answer is owed.
  owes_none : IsPermutation (tree_answers key step (given_by s v) (model_of s v)) []
  owes_none =
      let st = is.running.stands told in
      let answers = tree_answers key step (given_by s v) (model_of s v) in
      let P : List Record → Type 0 = IsPermutation answers in
      subst P (is.silent told unused) (all_given key step IsOp IsKept (tree_contents key step (model_of s v))
      answers (given_by s v) (model_of s v) none_waits
      (represents_itself key step IsOp IsKept (given_by s v) (model_of s v) st.is st.turn))

  -- After a call that pushes nothing no answer was given,
  pub silent_all : (gives : List Record)
      → IsPermutation (tree_answers key step (given_by s v) (model_of s v)) gives → gives ≡ []
  silent_all gives p =
      let answers = tree_answers key step (given_by s v) (model_of s v) in
      let a = length_permutation answers [] owes_none in
      let b = length_permutation answers gives p in
      nil_from_length gives (omega (arith, a, b))

  -- whatever is owed then.
  pub silent_on : (gives owes : List Record)
      → IsPermutation (tree_answers key step (given_by s v) (model_of s v)) (gives ++ owes) → gives ≡ []
  silent_on gives owes p =
      let n = ap length (silent_all (gives ++ owes) p) in
      let l = length-append gives owes in
      nil_from_length gives (omega (arith, n, l))

  -- It holds its root and one leaf.
  pub unused_blocks : IsShape s.pool.shape → length (tree_blocks v.level s v.root) ≤ 2
  unused_blocks shape =
      let n = is.running.numbers in
      let one = one_leaf shape (is.books told).books (omega (arith, n.since_most, unused)) in
      let few = few_blocks key IsOp IsKept s v is.running shape told (none_unused is unused told) one.level in
      omega (arith, few, one.leaves, one.stored)
