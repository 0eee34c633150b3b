-- A leaf that was listed, as an entry leads to it.
use Rattle.std.proofs.Common.{◌≡◌, ℕ, ◌<◌, List, [], ◌∷◌, ◌++◌, sym, ap, ◌∙◌, subst, IsTrue}
use Rattle.std.proofs.lemmas.List.{append-nil}
use Rattle.em_record.specs.declared.record.Record.{Record}
use Rattle.em_space.specs.Held.{Apart}
use Rattle.em_space.specs.Rig.{RigState, Sound}
use Rattle.em_chain.specs.Chain.{ChainStays, chain_blocks, chain_items}
use Rattle.em_chain.specs.Session.{Wrote}
use Rattle.em_chain.specs.Writer.{writer_blocks}
use Rattle.em_chain.specs.declared.chain.Chain.{Chain}
use Rattle.em_chain.specs.declared.writer.Writer.{Writer}
use Rattle.em_chain.proofs.Laws.{chain_stays}
use Rattle.em_leaf.specs.Leaf.{IsLeafChain}
use Rattle.em_balance.specs.Node.{entry_to}
use Rattle.em_balance.proofs.Nodes.{fresh_entry, linked_back}
use Rattle.em_node.specs.declared.entry.Entry.{Entry}
use Rattle.em_tree_blocks.specs.Node.{linked_block}
use Rattle.em_tree_blocks.specs.Reading.{IsLeafAt, stored_chain, tree_blocks}
use Rattle.em_tree_load.specs.LeafChanges.{IsLeafOf}
use Rattle.em_tree_raise.specs.Listing.{block_record, listed}
use Rattle.em_tree_trim.specs.Leaves.{LeadToLeaves, leaf_blocks}
use Rattle.em_tree_trim.specs.Listed.{ListedLeaf}
use Rattle.em_tree_trim.specs.Rows.{parts_at}
use Rattle.em_tree_trim.proofs.Runs.{leaf_stays}
use Rattle.em_tree_trim.proofs.Sizes.{leaf_exact}

module _ {a t : RigState} {w v : Writer} {low : Record} {c : Chain} (sound : Sound a) (i : IsLeafChain a c)
    (apart : IsTrue a.device.told → Apart (chain_blocks a c) (writer_blocks a w)) (l : ListedLeaf a t w v low c) where
  -- the entry
  abbrev pub listed_entry : Entry
  listed_entry = entry_to low l.block

  entry_leaf : IsTrue a.device.told → IsLeafOf t l.block c
  entry_leaf y = l.leaf y (leaf_exact sound y i)

  entry_stays : ChainStays a t c
  entry_stays = chain_stays (writer_blocks a w) a t c l.runs.session.touches apart i.chain

  -- It leads to the leaf,
  pub entry_leads : IsTrue a.device.told → LeadToLeaves t (listed_entry ∷ [])
  entry_leads y =
      let f = entry_leaf y in
      let C : Chain → Type 0 = IsLeafChain t in
      let later : IsLeafChain t c = leaf_stays l.runs.session.touches apart i in
      let own : IsLeafChain t (stored_chain t l.block) = subst C (sym f.chain) later in
      let at : IsLeafAt t l.block = record {
        in_use = f.in_use;
        head = f.head;
        stored = own.chain;
        packed = own.packed;
      } in
      let back = sym (linked_back l.block) in
      let below : l.block < t.blocks = subst (λ (n : ℕ). l.block < n) (sym l.runs.session.touches.blocks) l.below in
      let there : IsLeafChain t (stored_chain t (linked_block listed_entry.child)) =
      subst (λ (b : ℕ). IsLeafChain t (stored_chain t b)) back own in (
        record {
          fresh = fresh_entry low l.block t.blocks below;
          leaf = subst (λ (b : ℕ). IsLeafAt t b) back at;
          few = there.most;
        },
        tt,
      )

  -- which holds its block and its chain's,
  pub entry_blocks : IsTrue a.device.told → leaf_blocks t (listed_entry ∷ []) ≡ l.block ∷ chain_blocks a c
  entry_blocks y =
      let P : ℕ → List ℕ = λ b. tree_blocks 0 t b ++ [] in
      ap P (linked_back l.block)
      ∙ (append-nil (l.block ∷ chain_blocks t (stored_chain t l.block))
      ∙ (ap (λ (d : Chain). l.block ∷ chain_blocks t d) (entry_leaf y).chain
      ∙ ap (λ (ks : List ℕ). l.block ∷ ks) (entry_stays.blocks y)))

  -- and has its records.
  pub entry_parts : IsTrue a.device.told → parts_at t (listed_entry ∷ []) ≡ (low, chain_items a c) ∷ []
  entry_parts y =
      let P : List Record → List (Record × List Record) = λ xs. (low, xs) ∷ [] in
      ap P (ap (λ (b : ℕ). chain_items t (stored_chain t b)) (linked_back l.block)
      ∙ (ap (chain_items t) (entry_leaf y).chain ∙ entry_stays.items y))

  -- Its two records were written.
  pub entry_wrote : Wrote a t w v (listed (listed_entry ∷ []))
  entry_wrote = subst (λ (b : ℕ). Wrote a t w v (low ∷ block_record b ∷ [])) (sym (linked_back l.block)) l.wrote
