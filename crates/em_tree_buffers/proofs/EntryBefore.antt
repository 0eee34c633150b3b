-- An entry over a node, before its buffer is emptied: what is known of it, and what its moves cost.
use Rattle.std.proofs.Common.{◌≡◌, ℕ, zero, suc, ◌+◌, ◌*◌, ◌<◌, ◌≤◌, List, [], ◌∷◌, ◌++◌, length, get_or, take, drop, refl, sym, ap, ◌∙◌, subst, arith, IsTrue}
use Rattle.std.specs.Prelude.{Option, None}
use Rattle.em_record.specs.Shape.{fan_of, payload_of, wide_of}
use Rattle.em_record.specs.declared.record.Record.{Record}
use Rattle.em_space.specs.Free.{Off}
use Rattle.em_space.specs.Held.{Holds}
use Rattle.em_space.specs.Rig.{RigState}
use Rattle.em_space.proofs.Apart.{off_left, off_right}
use Rattle.em_space.proofs.Lists.{distinct_left, distinct_right, in_use_left, in_use_right}
use Rattle.em_chain.specs.Chain.{IsChain, IsPacked, chain_items, payload_in}
use Rattle.em_chain.specs.Counts.{ceiling}
use Rattle.em_chain.specs.Writer.{writer_blocks}
use Rattle.em_chain.proofs.Counts.{packed_blocks}
use Rattle.em_chain.proofs.Readers.{length_items}
use Rattle.em_node.specs.Node.{no_entry}
use Rattle.em_node.specs.declared.entry.Entry.{Entry}
use Rattle.em_tree_model.specs.Places.{put_at}
use Rattle.em_tree_model.specs.Pouring.{pour}
use Rattle.em_tree_model.specs.Ranges.{InRange, IsTree, least_record, next_low}
use Rattle.em_tree_model.specs.Tree.{HasEntry, IsChild, IsRow, Tree}
use Rattle.em_tree_model.specs.Tree.Tree.{end, entry, leaf}
use Rattle.em_tree_model.proofs.Events.{placed}
use Rattle.em_tree_blocks.specs.Effects.{entry_at_place, entry_on, row_from}
use Rattle.em_tree_blocks.specs.Node.{buffer_of, linked_block}
use Rattle.em_tree_blocks.specs.Paths.{IsPath, child_at, level_on, node_on}
use Rattle.em_tree_blocks.specs.Reading.{IsTreeAt, entries_at, row_of, tree_at, tree_blocks}
use Rattle.em_tree_blocks.proofs.Entries.{row_is}
use Rattle.em_tree_blocks.proofs.Paths.{around, blocks_on}
use Rattle.em_tree_blocks.proofs.Whole.{entry_reads, stored_on}
use Rattle.em_tree_cost.specs.Counters.{Sums}
use Rattle.em_tree_cost.specs.Effects.{SumsLower}
use Rattle.em_tree_cost.specs.Outline.{Outline, count_of, sums_of}
use Rattle.em_tree_cost.specs.Parts.{full_moves}
use Rattle.em_tree_cost.specs.Sizes.{IsCeil}
use Rattle.em_tree_cost.specs.Spots.{Spot, put_at_spot}
use Rattle.em_tree_cost.specs.Spots.Spot.{here as here_spot, past as past_spot, under as under_spot}
use Rattle.em_tree_cost.proofs.Ceilings.{ceiling_is}
use Rattle.em_tree_cost.proofs.Levels.{fan_wide}
use Rattle.em_tree_outline.specs.Outline.{outline_of, spot_of}
use Rattle.em_trunk.specs.Events.{Charges}
use Rattle.em_tree_buffers.specs.Emptying.{CanEmptyEntry, lower_debt}
use Rattle.em_tree_walk.specs.Forms.{AreFormed}
use Rattle.em_trunk.specs.Sized.{NodesUnder}
use Rattle.em_trunk.specs.Trunk.{IsStanding, full_limit, root_of, sums_in, trunk_blocks}
use Rattle.em_trunk.specs.declared.trunk.Trunk.{Trunk}
use Rattle.em_trunk.proofs.Charges.{charges_full_deep, charges_thin_few, charges_within}
use Rattle.em_trunk.proofs.Clear.{place_level_most}
use Rattle.em_trunk.proofs.Entries.{each_map}
use Rattle.em_trunk.proofs.Events.{entry_emptied_sums, outline_at}
use Rattle.em_tree_buffers.proofs.Lowered.{buffer_stored, changed_blocks, form_buffer, form_child, parts_at, spot_mixes}
use Rattle.em_trunk.proofs.Mixed.{mixes_off_left}
use Rattle.em_trunk.proofs.Places.{level_entry}
use Rattle.em_trunk.proofs.Spots.{placed_high, placed_low, spot_end, spot_level, spot_start}
use Rattle.em_trunk.specs.Works.{CanWork, deepest}
use Rattle.em_trunk.specs.Spots.{EachRead, IsSpot, spot_high, spot_low, spot_ops}

-- a node that an entry leads to has an entry
pub child_has : (c : Tree) → IsRow c → IsChild c → HasEntry c
child_has (leaf xs) row i = absurd row
child_has end row i = absurd i
child_has (entry low b c r) row i = tt

-- What holds of a whole tree's blocks holds of those of a node's.
pub holds_on : (path : List ℕ) (top : ℕ) (s : RigState) (root : ℕ) → IsPath path top s root
    → Holds s (tree_blocks top s root)
    → Holds s (tree_blocks (level_on path top) s (node_on path top s root))
holds_on path top s root n h =
    let inner = tree_blocks (level_on path top) s (node_on path top s root) in
    let r = around path top s root in
    let H : List ℕ → Type 0 = Holds s in
    let g = subst H (blocks_on path top s root n ∙ r.all inner) h in
    record {
      in_use = in_use_left s inner r.back (in_use_right s r.front (inner ++ r.back) g.in_use);
      distinct = λ z. distinct_left inner r.back (distinct_right r.front (inner ++ r.back) (g.distinct z));
    }

-- the forms of a node's buffers, in a tree
pub forms_on : (is : List ℕ) (l : ℕ) (s : RigState) (k : ℕ) → IsPath is l s k → AreFormed l s k
    → AreFormed (level_on is l) s (node_on is l s k)
forms_on [] l s k n f = f
forms_on (i ∷ is) zero s k n f = absurd n
forms_on (i ∷ []) (suc zero) s k n f = tt
forms_on (i ∷ j ∷ is) (suc zero) s k n f = absurd n.1
forms_on (i ∷ is) (suc (suc l)) s k n f =
    let es = entries_at s k in
    forms_on is (suc l) s (child_at i es) n.1
    (form_child (IsPacked s) (AreFormed (suc l) s) es i n.0 f)

-- sizes of nodes at a place
pub nodes_at : (n : ℕ) (p : Spot) (t : Outline) → NodesUnder n (put_at_spot p t) → NodesUnder n t
nodes_at n here_spot t h = h
nodes_at n (under_spot b r p) t h = nodes_at n p t h.1
nodes_at n (past_spot b c p) t h = nodes_at n p t h.2

pub row_count : (child : ℕ → Tree) (s : RigState) (es : List Entry)
    → count_of (outline_of (row_of child s es)) ≡ length es
row_count child s [] = refl
row_count child s (e ∷ es) = let i = row_count child s es in omega (arith, i)

module _ (key : Record → Record) (IsOp IsKept : Record → Type 0) (l node at : ℕ) (s : RigState)
    (v : Trunk) (can : CanWork key IsOp IsKept s v) (spot : CanEmptyEntry (suc l) node at s v)
    (told : IsTrue s.device.told) where
  pub st : IsStanding key IsOp IsKept s v
  st = can.running.stands told

  pub sp : IsSpot (suc l) node at s v spot.spot.path
  sp = spot.spot.told told

  pub node_stored : IsTreeAt (suc (suc l)) s (node_on spot.spot.path v.level s v.root)
  node_stored =
      let P : ℕ → Type 0 = λ n. IsTreeAt n s (node_on spot.spot.path v.level s v.root) in
      subst P sp.on.level (stored_on spot.spot.path v.level s v.root sp.on.on_path st.stored)

  pub tree_held : Holds s (tree_blocks v.level s v.root)
  tree_held =
      let tree = tree_blocks v.level s v.root in
      let lists = writer_blocks s v.buffer ++ writer_blocks s v.answers in
      record {
        in_use = in_use_left s tree lists st.holds.in_use;
        distinct = λ z. distinct_left tree lists (st.holds.distinct z);
      }

  pub node_held : Holds s (tree_blocks (suc (suc l)) s (node_on spot.spot.path v.level s v.root))
  node_held =
      let P : ℕ → Type 0 = λ n. Holds s (tree_blocks n s (node_on spot.spot.path v.level s v.root)) in
      subst P sp.on.level (holds_on spot.spot.path v.level s v.root sp.on.on_path tree_held)

  pub old_is : (let path = spot.spot.path in let e = entry_on v.level s v.root path at in
      root_of s v ≡ put_at (entry_at_place v.level s v.root path (suc l) at)
      (entry e.low (chain_items s (buffer_of e)) (tree_at (suc l) s (linked_block e.child))
      (row_from (suc l) s (node_on path v.level s v.root) (suc at))))
  old_is = entry_reads v.level s v.root spot.spot.path (suc l) at sp.on

  pub is_old : (let path = spot.spot.path in let e = entry_on v.level s v.root path at in
      IsTree key (put_at (entry_at_place v.level s v.root path (suc l) at)
      (entry e.low (chain_items s (buffer_of e)) (tree_at (suc l) s (linked_block e.child))
      (row_from (suc l) s (node_on path v.level s v.root) (suc at)))) least_record None)
  is_old =
      let P : Tree → Type 0 = λ x. IsTree key x least_record None in
      subst P old_is st.is.2

  pub child_row : (let e = entry_on v.level s v.root spot.spot.path at in
      IsRow (tree_at (suc l) s (linked_block e.child)))
  child_row =
      let e = entry_on v.level s v.root spot.spot.path at in
      row_is (tree_at l s) s (entries_at s (linked_block e.child))

  pub some : (let e = entry_on v.level s v.root spot.spot.path at in
      HasEntry (tree_at (suc l) s (linked_block e.child)))
  some =
      let path = spot.spot.path in
      let e = entry_on v.level s v.root path at in
      let x = entry e.low (chain_items s (buffer_of e)) (tree_at (suc l) s (linked_block e.child))
      (row_from (suc l) s (node_on path v.level s v.root) (suc at)) in
      let p = placed key (entry_at_place v.level s v.root path (suc l) at) x least_record None is_old in
      child_has (tree_at (suc l) s (linked_block e.child)) child_row p.is.0

  -- its blocks are the tree's
  pub off_changed : (j : ℕ) → Off j (trunk_blocks s v)
      → Off j (changed_blocks s (node_on spot.spot.path v.level s v.root)
      (entry_on v.level s v.root spot.spot.path at))
  off_changed j o =
      let path = spot.spot.path in
      let k = node_on path v.level s v.root in
      let es = entries_at s k in
      let e = get_or es at no_entry in
      let tree = tree_blocks v.level s v.root in
      let lists = writer_blocks s v.buffer ++ writer_blocks s v.answers in
      let r = around path v.level s v.root in
      let P : ℕ → Type 0 = λ n. Off j (r.front ++ (tree_blocks n s k ++ r.back)) in
      let O : List ℕ → Type 0 = Off j in
      let all = subst O (blocks_on path v.level s v.root sp.on.on_path
      ∙ r.all (tree_blocks (level_on path v.level) s k)) (off_left j tree lists o) in
      let mid = subst P sp.on.level all in
      let inner = tree_blocks (suc (suc l)) s k in
      mixes_off_left j (spot_mixes l s k (take at es) e (drop (suc at) es) (parts_at es at sp.on.one))
      (off_left j inner r.back (off_right j r.front (inner ++ r.back) mid))

  -- The range of the entry, as it is read and as it is placed.
  pub low_is : (let path = spot.spot.path in let e = entry_on v.level s v.root path at in
      (placed key (entry_at_place v.level s v.root path (suc l) at)
      (entry e.low (chain_items s (buffer_of e)) (tree_at (suc l) s (linked_block e.child))
      (row_from (suc l) s (node_on path v.level s v.root) (suc at))) least_record None is_old).low
      ≡ spot_low at s v path)
  low_is =
      let path = spot.spot.path in
      let e = entry_on v.level s v.root path at in
      let b = chain_items s (buffer_of e) in
      let c = tree_at (suc l) s (linked_block e.child) in
      let r = row_from (suc l) s (node_on path v.level s v.root) (suc at) in
      placed_low key (entry_at_place v.level s v.root path (suc l) at) (entry e.low b c r) least_record
      None is_old ∙ spot_start v.level s v.root path (suc l) at least_record b c r sp.on

  pub high_is : (let path = spot.spot.path in let e = entry_on v.level s v.root path at in
      let r = row_from (suc l) s (node_on path v.level s v.root) (suc at) in
      next_low (placed key (entry_at_place v.level s v.root path (suc l) at)
      (entry e.low (chain_items s (buffer_of e)) (tree_at (suc l) s (linked_block e.child)) r)
      least_record None is_old).high r ≡ spot_high at s v path)
  high_is =
      let path = spot.spot.path in
      let e = entry_on v.level s v.root path at in
      let b = chain_items s (buffer_of e) in
      let c = tree_at (suc l) s (linked_block e.child) in
      let r = row_from (suc l) s (node_on path v.level s v.root) (suc at) in
      ap (λ (h : Option Record). next_low h r)
      (placed_high key (entry_at_place v.level s v.root path (suc l) at) (entry e.low b c r) least_record
      None is_old) ∙ spot_end v.level s v.root path (suc l) at None

  -- below it no buffer of its range is full
  pub thin_placed : (let path = spot.spot.path in let e = entry_on v.level s v.root path at in
      let r = row_from (suc l) s (node_on path v.level s v.root) (suc at) in
      let x = placed key (entry_at_place v.level s v.root path (suc l) at)
      (entry e.low (chain_items s (buffer_of e)) (tree_at (suc l) s (linked_block e.child)) r)
      least_record None is_old in
      EachRead (λ n k top y. n < suc (suc l) → InRange x.low (next_low x.high r) k
      → length y < full_limit s.pool.shape) s v)
  thin_placed =
      let path = spot.spot.path in
      let e = entry_on v.level s v.root path at in
      let r = row_from (suc l) s (node_on path v.level s v.root) (suc at) in
      let x = placed key (entry_at_place v.level s v.root path (suc l) at)
      (entry e.low (chain_items s (buffer_of e)) (tree_at (suc l) s (linked_block e.child)) r)
      least_record None is_old in
      let limit = full_limit s.pool.shape in
      each_map
      (λ n k top y. n < suc (suc l) → InRange (spot_low at s v path) (spot_high at s v path) k
      → length y < limit)
      (λ n k top y. n < suc (suc l) → InRange x.low (next_low x.high r) k → length y < limit)
      (λ n k top y g lt i.
      let A : Record → Type 0 = λ lo. InRange lo (next_low x.high r) k in
      let B : Option Record → Type 0 = λ hi. InRange (spot_low at s v path) hi k in
      g lt (subst B high_is (subst A low_is i)))
      v.level least_record None (root_of s v) (spot.thin told)

  pub level_few : suc (suc l) ≤ v.level
  level_few =
      let p = entry_at_place v.level s v.root spot.spot.path (suc l) at in
      let most = place_level_most p v.level in
      let is = spot_level v.level s v.root spot.spot.path (suc l) at sp.on in
      omega (arith, most, is)

  -- its child has fewer entries than twice the fan-out
  pub child_few : (let e = entry_on v.level s v.root spot.spot.path at in
      length (entries_at s (linked_block e.child)) < 2 * fan_of s.pool.shape)
  child_few =
      let path = spot.spot.path in
      let e = entry_on v.level s v.root path at in
      let k = linked_block e.child in
      let r = row_from (suc l) s (node_on path v.level s v.root) (suc at) in
      let p = entry_at_place v.level s v.root path (suc l) at in
      let x = entry e.low (chain_items s (buffer_of e)) (tree_at (suc l) s k) r in
      let n = 2 * fan_of s.pool.shape in
      let N : Outline → Type 0 = NodesUnder n in
      let h = nodes_at n (spot_of p) (outline_of x)
      (subst N (outline_at (root_of s v) p x old_is) st.sized.nodes.1) in
      let c = row_count (tree_at l s) s (entries_at s k) in
      omega (arith, h.0, c)

  -- the blocks of its buffer, which is packed
  pub buffer_chain : IsChain s (buffer_of (entry_on v.level s v.root spot.spot.path at))
  buffer_chain = buffer_stored (IsTreeAt (suc l) s) s
      (entries_at s (node_on spot.spot.path v.level s v.root)) at sp.on.one node_stored.1

  pub buffer_blocks_are : (let c = buffer_of (entry_on v.level s v.root spot.spot.path at) in
      c.blocks ≡ ceiling c.count (payload_in s))
  buffer_blocks_are =
      let path = spot.spot.path in
      let j = node_on path v.level s v.root in
      let es = entries_at s j in
      let c = buffer_of (entry_on v.level s v.root path at) in
      let F : ℕ → Type 0 = λ n. AreFormed n s j in
      let f = subst F sp.on.level (forms_on path v.level s v.root sp.on.on_path st.formed) in
      packed_blocks s c can.sound.shape.block_low buffer_chain told
      (form_buffer (IsPacked s) (AreFormed (suc l) s) es at sp.on.one f)

  -- the sums that the tree has afterwards
  abbrev pub sums_after : Sums
  sums_after =
      let path = spot.spot.path in
      let e = entry_on v.level s v.root path at in
      sums_of (2 * wide_of s.pool.shape * s.pool.shape.block) v.level
      (outline_of (put_at (entry_at_place v.level s v.root path (suc l) at) (entry e.low []
      (pour key (tree_at (suc l) s (linked_block e.child)) (chain_items s (buffer_of e)))
      (row_from (suc l) s (node_on path v.level s v.root) (suc at))))) v.buffer.count v.buffer.blocks

  pub lowers_sums : (let e = entry_on v.level s v.root spot.spot.path at in
      SumsLower (length (chain_items s (buffer_of e))) (sums_in s v) sums_after)
  lowers_sums =
      let path = spot.spot.path in
      let e = entry_on v.level s v.root path at in
      let b = chain_items s (buffer_of e) in
      let c = tree_at (suc l) s (linked_block e.child) in
      let r = row_from (suc l) s (node_on path v.level s v.root) (suc at) in
      let p = entry_at_place v.level s v.root path (suc l) at in
      entry_emptied_sums (2 * wide_of s.pool.shape * s.pool.shape.block) v.level v.buffer.count
      v.buffer.blocks (root_of s v) (put_at p (entry e.low [] (pour key c b) r)) p key l e.low b c r
      (level_entry v.level s v.root path (suc l) at sp.on) child_row some old_is refl

  -- the moves that emptying it makes at most
  abbrev pub moves_most : ℕ
  moves_most =
      let e = entry_on v.level s v.root spot.spot.path at in
      let c = buffer_of e in
      4 * ceiling c.count (payload_in s) + (4 * length (entries_at s (linked_block e.child)) + 4)

  ceil_of : (let c = buffer_of (entry_on v.level s v.root spot.spot.path at) in
      IsCeil (ceiling c.count (payload_in s)) (payload_of s.pool.shape) (length (chain_items s c)))
  ceil_of =
      let c = buffer_of (entry_on v.level s v.root spot.spot.path at) in
      let P : ℕ → Type 0 = IsCeil (ceiling c.count (payload_in s)) (payload_of s.pool.shape) in
      let low = can.sound.shape.block_low in
      subst P (sym (length_items s c buffer_chain told))
      (ceiling_is c.count (payload_of s.pool.shape) (omega (arith, low)))

  -- They are paid for by a full buffer, with three descents,
  pub full_charged : (p m : ℕ) → m ≤ moves_most
      → full_limit s.pool.shape ≤ length (spot_ops at s v spot.spot.path)
      → Charges s.pool.shape v.longest p m (p + 18 + 3 * deepest s v) 0 (sums_in s v) sums_after
  full_charged p m few big =
      let e = entry_on v.level s v.root spot.spot.path at in
      let c = buffer_of e in
      let n = length (entries_at s (linked_block e.child)) in
      let d = ceiling c.count (payload_in s) in
      let w = wide_of s.pool.shape in
      let twice = fan_wide s.pool.shape can.sound.shape in
      let F : ℕ → Type 0 = λ f. f * s.pool.shape.block ≤ length (chain_items s c) in
      let wide : 2 * w * s.pool.shape.block ≤ length (chain_items s c) = subst F twice big in
      let under = child_few in
      let entries : 4 * n + 4 ≤ 16 * w = omega (arith, under, twice) in
      charges_full_deep p m (p + 18 + 3 * deepest s v) (full_moves w (deepest s v) d) (sums_in s v)
      sums_after can.sound.shape (omega (arith, few, entries)) (length (chain_items s c)) d lowers_sums
      (record { root = refl; blocks = refl }) ceil_of wide (omega arith)

  -- or by any buffer, with a descent and a debt.
  pub thin_charged : (p m : ℕ) → m ≤ moves_most
      → Charges s.pool.shape v.longest p m (p + deepest s v)
      (s.pool.shape.block * lower_debt at s v spot.spot.path) (sums_in s v) sums_after
  thin_charged p m few =
      let e = entry_on v.level s v.root spot.spot.path at in
      let c = buffer_of e in
      let n = 4 * length (entries_at s (linked_block e.child)) + 4 + deepest s v in
      let d = ceiling c.count (payload_in s) in
      let B = s.pool.shape.block in
      let q = p + deepest s v in
      charges_within p m q (B * (n + 4)) m q (B * lower_debt at s v spot.spot.path) (omega arith)
      (omega arith) (charges_thin_few p m q (4 * d + n) (sums_in s v) sums_after can.sound.shape
      (omega (arith, few)) n (length (chain_items s c)) d lowers_sums
      (record { root = refl; blocks = refl }) ceil_of (omega arith))
