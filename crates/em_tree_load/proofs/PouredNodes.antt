-- Operations poured into a node over leaves: the blocks that this asks, and what is left.
use Rattle.std.proofs.Common.{◌≡◌, Bool, true, false, ℕ, zero, ◌+◌, ◌*◌, ◌≤◌, min, List, [], ◌∷◌, ◌++◌, length, refl, sym, ap, ◌∙◌, subst, arith, IsTrue}
use Rattle.std.specs.Prelude.{Option}
use Rattle.em_record.specs.Shape.{fan_of}
use Rattle.em_record.specs.declared.record.Record.{Record}
use Rattle.em_space.specs.Held.{Apart, Holds}
use Rattle.em_space.specs.Rig.{RigState, Touches}
use Rattle.em_space.proofs.Lists.{apart_left, apart_right, apart_sym, distinct_apart}
use Rattle.em_chain.specs.Chain.{chain_blocks, chain_items}
use Rattle.em_chain.specs.Writer.{writer_blocks}
use Rattle.em_chain.specs.declared.chain.Chain.{Chain}
use Rattle.em_chain.specs.declared.writer.Writer.{Writer}
use Rattle.em_node.specs.declared.entry.Entry.{Entry}
use Rattle.em_tree_model.specs.Pouring.{pour}
use Rattle.em_tree_blocks.specs.Node.{buffer_of, linked_block}
use Rattle.em_tree_blocks.specs.Reading.{IsLeafAt, SameChildren, entries_at, row_blocks, tree_at, tree_blocks}
use Rattle.em_tree_blocks.proofs.Emptied.{row_emptied}
use Rattle.em_tree_blocks.proofs.Frames.{tree_stays}
use Rattle.em_empty.specs.Effects.{EmptiedAt, reached}
use Rattle.em_empty.specs.Node.{AreBuffers, IsOver, KeepForms, SameLinks, buffer_blocks, given_blocks, node_blocks}
use Rattle.em_empty.proofs.Emptied.{links_len}
use Rattle.em_tree_load.specs.LeafLoads.{loading_over}
use Rattle.em_tree_walk.proofs.Kept.{EachOf, EntryStands, NodeStands}
use Rattle.em_tree_walk.proofs.Regions.{SameTally, distinct_same, held_first, holds_same, tally, tally_append}

-- the blocks of the leaves of these entries
abbrev pub leaves_blocks : RigState → List Entry → List ℕ
leaves_blocks s [] = []
leaves_blocks s (e ∷ es) = tree_blocks zero s (linked_block e.child) ++ leaves_blocks s es

entry_tally : (j : ℕ) (b c r bs ls : List ℕ) → tally j r ≡ tally j bs + tally j ls
    → tally j (b ++ (c ++ r)) ≡ tally j (b ++ bs) + tally j (c ++ ls)
entry_tally j b c r bs ls h =
    let e1 = tally_append j b (c ++ r) in
    let e2 = tally_append j c r in
    let e3 = tally_append j b bs in
    let e4 = tally_append j c ls in
    omega (arith, h, e1, e2, e3, e4)

-- A row has the blocks of its buffers and those of its leaves.
row_tally : (s : RigState) (es : List Entry) (j : ℕ) → tally j (row_blocks (tree_blocks zero s) s es)
    ≡ tally j (buffer_blocks s es) + tally j (leaves_blocks s es)
row_tally s [] j = refl
row_tally s (e ∷ es) j = entry_tally j (chain_blocks s (buffer_of e))
    (tree_blocks zero s (linked_block e.child)) (row_blocks (tree_blocks zero s) s es)
    (buffer_blocks s es) (leaves_blocks s es) (row_tally s es j)

first_given : (n : ℕ) (r row w bs ls : List ℕ) → ((j : ℕ) → tally j row ≡ tally j bs + tally j ls)
    → SameTally (r ++ ((n ∷ row) ++ w)) ((n ∷ (r ++ bs)) ++ (ls ++ w))
first_given n r row w bs ls h j =
    let e = h j in
    let e1 = tally_append j r ((n ∷ row) ++ w) in
    let e2 = tally_append j (n ∷ row) w in
    let e3 = tally_append j (n ∷ (r ++ bs)) (ls ++ w) in
    let e4 = tally_append j r bs in
    let e5 = tally_append j ls w in
    omega (arith, e, e1, e2, e3, e4, e5)

last_given : (n : ℕ) (row w bs ls : List ℕ) → ((j : ℕ) → tally j row ≡ tally j bs + tally j ls)
    → SameTally ((n ∷ bs) ++ (ls ++ w)) ((n ∷ row) ++ w)
last_given n row w bs ls h j =
    let e = h j in
    let e1 = tally_append j (n ∷ bs) (ls ++ w) in
    let e2 = tally_append j (n ∷ row) w in
    let e3 = tally_append j ls w in
    omega (arith, e, e1, e2, e3)

-- what a pour leaves alone
abbrev pub beside_pour : RigState → ℕ → Writer → List ℕ
beside_pour s node v = leaves_blocks s (entries_at s node) ++ writer_blocks s v

-- The blocks that it changes come first,
pub pouring_first : (s : RigState) (node : ℕ) (c : Chain) (v : Writer)
    → SameTally (chain_blocks s c ++ loading_over s node v)
    (given_blocks s node c ++ beside_pour s node v)
pouring_first s node c v =
    let es = entries_at s node in
    first_given node (chain_blocks s c) (row_blocks (tree_blocks zero s) s es) (writer_blocks s v)
    (buffer_blocks s es) (leaves_blocks s es) (row_tally s es)

-- and those that are left of them.
pouring_last : (s : RigState) (node : ℕ) (v : Writer)
    → SameTally (node_blocks s node ++ beside_pour s node v) (loading_over s node v)
pouring_last s node v =
    let es = entries_at s node in
    last_given node (row_blocks (tree_blocks zero s) s es) (writer_blocks s v) (buffer_blocks s es)
    (leaves_blocks s es) (row_tally s es)

each_buffers : (s : RigState) (es : List Entry) → EachOf (EntryStands zero s) es → AreBuffers s es
each_buffers s [] a = tt
each_buffers s (e ∷ es) a = (a.0.chain, each_buffers s es a.1)

-- A chain can be poured into such a node.
pub over_leaves : (s : RigState) (node : ℕ) (c : Chain) (v : Writer) → NodeStands zero s node
    → Holds s (chain_blocks s c ++ loading_over s node v) → IsOver s node c
over_leaves s node c v n h = record {
  block = n.node.block;
  some = n.some;
  buffers = each_buffers s (entries_at s node) n.each;
  holds = held_first (given_blocks s node c) (beside_pour s node v)
      (holds_same (chain_blocks s c ++ loading_over s node v)
      (given_blocks s node c ++ beside_pour s node v) (pouring_first s node c v) h);
}

-- Leaves over a call that leaves their blocks alone, whatever it gives to the buffers.
record LeavesStay (s t : RigState) (es fs : List Entry) : Type 0 where
  pub same : SameChildren (tree_at zero s) (tree_at zero t) es fs
  pub blocks : leaves_blocks t fs ≡ leaves_blocks s es
  pub each : EachOf (EntryStands zero t) fs

leaves_stay : (held : List ℕ) (s t : RigState) (es fs : List Entry) → Touches held s t
    → IsTrue s.device.told → Apart (leaves_blocks s es) held → EachOf (EntryStands zero s) es
    → SameLinks es fs → AreBuffers t fs → KeepForms s t es fs → LeavesStay s t es fs
leaves_stay held s t [] [] h z a o links b forms = record { same = tt; blocks = refl; each = tt }
leaves_stay held s t [] (f ∷ fs) h z a o links b forms = absurd links
leaves_stay held s t (e ∷ es) [] h z a o links b forms = absurd links
leaves_stay held s t (e ∷ es) (f ∷ fs) h z a o links b forms =
    let k = linked_block e.child in
    let link : linked_block f.child ≡ k = ap linked_block links.1 in
    let rest = leaves_blocks s es in
    let own = tree_blocks zero s k in
    let x = tree_stays held s t h z zero k (apart_left own rest held a) o.0.child in
    let n = leaves_stay held s t es fs h z (apart_right own rest held a) o.1 links.2 b.1 forms.1 in
    let P : ℕ → Type 0 = λ (j : ℕ). IsLeafAt t j in
    record {
      same = (links.0, ap (tree_at zero t) link ∙ x.tree, n.same);
      blocks = ap (λ (j : ℕ). tree_blocks zero t j ++ leaves_blocks t fs) link
          ∙ (ap (λ (ks : List ℕ). ks ++ leaves_blocks t fs) x.blocks
          ∙ ap (λ (ks : List ℕ). own ++ ks) n.blocks);
      each = (
        record {
          chain = b.0;
          child = subst P (sym link) x.is;
          rows = tt;
          form = forms.0.tight z o.0.form;
          formed = tt;
        },
        n.each,
      );
    }

-- A node over leaves after a pour.
pub record PoursNode (key : Record → Record) (s t : RigState) (node : ℕ) (c : Chain) : Type 0 where
  pub reads : tree_at 1 t node ≡ pour key (tree_at 1 s node) (chain_items s c)
  pub stands : NodeStands zero t node
  pub leaves : leaves_blocks t (entries_at t node) ≡ leaves_blocks s (entries_at s node)

module _ {key : Record → Record} {s t : RigState} {node : ℕ} {c : Chain} {least : Option ℕ}
    (v : Writer) (z : IsTrue s.device.told) (n : NodeStands zero s node)
    (h : Holds s (chain_blocks s c ++ loading_over s node v))
    (done : EmptiedAt key s t node c least) where
  -- What the pour changed is apart from the rest.
  pub pour_apart : Apart (beside_pour s node v) (given_blocks s node c)
  pour_apart =
      let given = given_blocks s node c in
      let rest = beside_pour s node v in
      apart_sym given rest (distinct_apart given rest (distinct_same
      (chain_blocks s c ++ loading_over s node v) (given ++ rest) (pouring_first s node c v)
      (h.distinct z)))

  pub node_poured : PoursNode key s t node c
  node_poured =
      let es = entries_at s node in
      let fs = entries_at t node in
      let given = given_blocks s node c in
      let r = (done.emptied z).receives in
      let x = leaves_stay given s t es fs done.session.touches z
      (apart_left (leaves_blocks s es) (writer_blocks s v) given pour_apart) n.each r.links r.buffers
      r.forms in
      record {
        reads = row_emptied key (tree_at zero s) (tree_at zero t) s t es fs (chain_items s c) x.same
            r.items;
        stands = record {
          node = record {
            in_use = (done.session.holds z).in_use.0;
            block = r.block;
            level = r.level ∙ n.node.level;
          };
          some = (let some = n.some in let len = links_len es fs r.links in
              omega (arith, some, len));
          each = x.each;
        };
        leaves = x.blocks;
      }

  -- the blocks that are held then
  pub poured_last : writer_blocks t v ≡ writer_blocks s v
      → SameTally (node_blocks t node ++ beside_pour s node v) (loading_over t node v)
  poured_last same =
      let whole = loading_over t node v in
      let P : List ℕ → Type 0 = λ ls.
      SameTally (node_blocks t node ++ (ls ++ writer_blocks s v)) whole in
      let Q : List ℕ → Type 0 = λ ws.
      SameTally (node_blocks t node ++ (leaves_blocks t (entries_at t node) ++ ws)) whole in
      subst P node_poured.leaves (subst Q same (pouring_last t node v))

least_grows : (a b c : ℕ) → b ≤ c → min a b ≤ min a c
least_grows a b c h = omega (arith, h)

-- how many buffers get an operation, at most
pub reached_most : (s : RigState) (node : ℕ) (c : Chain) (b : Bool) → s.device.told ≡ b
    → (IsTrue s.device.told → IsOver s node c)
    → reached s node c ≤ min c.count (2 * fan_of s.pool.shape)
reached_most s node c true e o =
    let few = (o e).block.few in
    rw e (least_grows c.count (length (entries_at s node)) (2 * fan_of s.pool.shape) few)
reached_most s node c false e o =
    rw e (least_grows c.count (2 * fan_of s.pool.shape) (2 * fan_of s.pool.shape) (omega arith))
