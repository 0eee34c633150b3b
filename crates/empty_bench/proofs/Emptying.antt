-- A chain that is emptied into a new node of 64 places.
use Rattle.std.proofs.Common.{◌≡◌, ℕ, ◌+◌, ◌*◌, List, [], ◌∷◌, ◌++◌, length, replicate, ap, sym, ◌∙◌, subst, arith, IsTrue, Option}
use Rattle.std.proofs.lemmas.List.{append-nil}
use Rattle.em_record.specs.Shape.{ShapeNumbers, fan_of}
use Rattle.em_record.specs.declared.record.Record.{Record}
use Rattle.em_frames.specs.Device.{block_at}
use Rattle.em_space.specs.Free.{Off}
use Rattle.em_space.specs.Held.{Apart, Holds}
use Rattle.em_space.specs.Ledger.{Session}
use Rattle.em_space.specs.Rig.{RigState, InUse, Goes}
use Rattle.em_space.proofs.Apart.{apart_new}
use Rattle.em_space.proofs.Held.{apart_none, in_use_below}
use Rattle.em_space.proofs.Lists.{apart_sym}
use Rattle.em_space.proofs.Steps.{goes_trans}
use Rattle.em_space.proofs.Within.{goes_wider}
use Rattle.em_chain.specs.Chain.{ChainStays, chain_blocks, chain_items}
use Rattle.em_chain.specs.declared.chain.Chain.{Chain}
use Rattle.em_chain.proofs.Laws.{chain_stays}
use Rattle.em_settle.specs.Bag.{bag_key_of}
use Rattle.em_node.specs.declared.entry.Entry.{Entry}
use Rattle.em_node.specs.Node.{AreLinked, IsNodeBlock, place_of}
use Rattle.em_node.proofs.Seams.{entries_is, node_is}
use Rattle.em_tree_model.specs.Pouring.{given_out}
use Rattle.em_tree_model.proofs.Buffers.{given_same}
use Rattle.em_tree_blocks.specs.Reading.{buffer_items, entries_at}
use Rattle.em_empty.specs.Node.{AreBuffers, CanEmpty, IsOver, buffer_blocks, given_blocks, node_blocks}
use Rattle.em_empty.specs.Effects.{Emptied}
use Rattle.bench_runs.specs.Bench.{StartsWith}
use Rattle.bench_runs.specs.Numbered.{records_below}
use Rattle.empty_bench.specs.Places.{bare_entries, place_in_node}
use Rattle.empty_bench.specs.Steps.{HasRecords, MakesNode}
use Rattle.empty_bench.proofs.Entries.{bare_blocks, bare_buffers, bare_items, bare_length, bare_linked}
use Rattle.empty_bench.proofs.Ranges.{place_is}
use Rattle.empty_bench.proofs.Weights.{list_weight, weight_all, weight_is}

-- `s` is before the node is made, `t` is after it, and `u` is after the chain is emptied.
module _ (s t : RigState) (chain : Chain) (count node : ℕ) (st : StartsWith s chain count)
    (g : Goes [] s t) (m : MakesNode s t node) where
  -- the entries of the new node
  bare_is : IsTrue s.device.told → entries_at t node ≡ bare_entries (node + 1) 0 64
  bare_is z = entries_is (block_at t.device node) 1 _ (m.is z)

  -- the chain stays beside the node,
  stays : ChainStays s t chain
  stays = chain_stays [] s t chain g.touches (λ z. apart_none (chain_blocks s chain)) st.is

  -- and has no block in common with it.
  chain_apart : IsTrue s.device.told → Apart (chain_blocks t chain) (node ∷ [])
  chain_apart z = subst (λ (ks : List ℕ). Apart ks (node ∷ [])) (sym (stays.blocks z))
      (apart_new s (chain_blocks s chain) (node ∷ []) (st.is.told z).holds.in_use (m.fresh z, tt))

  -- the blocks that the emptying gets
  given_is : IsTrue s.device.told → given_blocks t node chain ≡ node ∷ chain_blocks t chain
  given_is z =
      let none = ap (λ es. buffer_blocks t es) (bare_is z) ∙ bare_blocks t (node + 1) 0 64 in
      let ks = chain_blocks t chain in
      ap (λ js. node ∷ (ks ++ js)) none ∙ ap (λ js. node ∷ js) (append-nil ks)

  block_is : IsTrue s.device.told
      → IsNodeBlock (2 * fan_of t.pool.shape) t.blocks (block_at t.device node)
  block_is z =
      let shape = ap (λ (x : ShapeNumbers). 2 * fan_of x) (g.touches.shape ∙ st.shape) in
      let len = ap length (bare_is z) ∙ bare_length (node + 1) 0 64 in
      let below = in_use_below t node g.sound m.in_use in
      record {
        node = node_is (block_at t.device node) 1 _ (m.is z);
        few = omega (arith, len, shape);
        linked =
            subst (λ (es : List Entry). AreLinked t.blocks es) (sym (bare_is z))
            (bare_linked t.blocks (node + 1) 0 64 (omega arith) (omega (arith, below)));
      }

  given_held : IsTrue s.device.told → Holds t (node ∷ chain_blocks t chain)
  given_held z =
      let y : IsTrue t.device.told = g.touches.told ∙ z in
      let held = (stays.is.told y).holds in
      let off = (apart_sym (chain_blocks t chain) (node ∷ []) (chain_apart z)).0 in
      record {
        in_use = (m.in_use, held.in_use);
        distinct = λ x. (off, held.distinct y);
      }

  over_is : IsTrue s.device.told → IsOver t node chain
  over_is z =
      let len = ap length (bare_is z) ∙ bare_length (node + 1) 0 64 in
      record {
        block = block_is z;
        some = omega (arith, len);
        buffers =
            subst (λ (es : List Entry). AreBuffers t es) (sym (bare_is z))
            (bare_buffers t (node + 1) 0 64);
        holds = subst (λ (ks : List ℕ). Holds t ks) (sym (given_is z)) (given_held z);
      }

  -- The chain can be emptied into the node.
  pub can_empty : CanEmpty t node chain
  can_empty = record {
    in_use = m.in_use;
    chain = stays.is;
    told = λ y. over_is (sym g.touches.told ∙ y);
  }

  -- All in all no block was changed but those of the chain.
  pub emptied_goes : (u : RigState) → Goes (given_blocks t node chain) t u
      → Goes (chain_blocks s chain) s u
  emptied_goes u h =
      goes_trans (chain_blocks s chain) (given_blocks t node chain) s t u
      (goes_wider (chain_blocks s chain) [] s t (record { off = λ z j v o. tt }) g) h
      (λ z k v o.
      subst (λ (ks : List ℕ). Off k ks) (sym (given_is z ∙ ap (λ ks. node ∷ ks) (stays.blocks z)))
      ((λ e. m.fresh z (subst (λ (i : ℕ). InUse s i) e v)), o))

  module _ (u : RigState) (least : Option ℕ)
      (e : IsTrue t.device.told → Emptied bag_key_of t u node chain least)
      (x : Session (given_blocks t node chain) t u (node_blocks u node)) where
    -- The records are in the buffers of their places.
    items_are : IsTrue s.device.told → buffer_items u (entries_at u node)
        ≡ given_out place_in_node (replicate 64 []) (records_below count)
    items_are z =
        let y : IsTrue t.device.told = g.touches.told ∙ z in
        let places : List Entry → Record → ℕ = λ es op. place_of (bag_key_of op) es in
        (e y).receives.items
        ∙ (ap (λ es. given_out (places es) (buffer_items t es) (chain_items t chain)) (bare_is z)
        ∙ (given_same (places (bare_entries (node + 1) 0 64)) place_in_node
        (buffer_items t (bare_entries (node + 1) 0 64)) (chain_items t chain) (place_is (node + 1))
        ∙ (ap (λ bs. given_out place_in_node bs (chain_items t chain))
        (bare_items t (node + 1) 0 64)
        ∙ ap (λ xs. given_out place_in_node (replicate 64 []) xs) (stays.items z ∙ st.items z))))

    pub emptied_has : IsTrue s.device.told → HasRecords u node count
    emptied_has z =
        let y : IsTrue t.device.told = g.touches.told ∙ z in
        let items = items_are z in
        record {
          items = items;
          weight =
              weight_is u 1 (entries_at u node) (x.touches.told ∙ y) (e y).receives.buffers
              ∙ (ap (λ bs. list_weight 1 bs) items ∙ weight_all count);
        }
