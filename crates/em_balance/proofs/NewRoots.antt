-- What a tree above reads of a new root: it is laid out, and holds its block and those of both
-- parts.
use Rattle.std.proofs.Common.{◌≡◌, ℕ, suc, List, [], ◌∷◌, ◌++◌, refl, sym, ap, ◌∙◌, subst, arith, IsTrue}
use Rattle.em_frames.specs.Device.{block_at}
use Rattle.em_space.specs.Rig.{RigState, Touches}
use Rattle.em_space.proofs.Held.{apart_none}
use Rattle.em_chain.specs.Chain.{IsChain, chain_blocks, empty_chain}
use Rattle.em_node.specs.declared.entry.Entry.{Entry}
use Rattle.em_node.proofs.Seams.{entries_is}
use Rattle.em_tree_blocks.specs.Node.{buffer_of, chain_of, linked_block}
use Rattle.em_tree_blocks.specs.Reading.{AreStored, IsTreeAt, entries_at, row_blocks, tree_blocks}
use Rattle.em_tree_blocks.proofs.Frames.{tree_stays}
use Rattle.em_balance.specs.Node.{IsFreshEntry, level_at}
use Rattle.em_balance.specs.Effects.{GrowsOver, root_entry}
use Rattle.em_balance.proofs.Nodes.{fresh_links, linked_back}

-- A chain with no block is a chain on any device,
none_is : (s : RigState) → IsChain s empty_chain
none_is s = record {
  count_most = omega arith;
  blocks_most = omega arith;
  told = λ z. record {
    holds = record { in_use = tt; distinct = λ y. tt };
    list = record {
      run = refl;
      blocks_is = refl;
      tail_is = refl;
      count_is = refl;
      skip_fits = refl;
    };
  };
}

-- and so is the buffer of a new entry.
pub fresh_chain : {blocks : ℕ} {e : Entry} (s : RigState) → IsFreshEntry blocks e
    → IsChain s (buffer_of e)
fresh_chain {blocks} {e} s h =
    subst (λ (ws : List ℕ). IsChain s (chain_of ws)) (sym h.empty) (none_is s)

pub record StandsOver (l : ℕ) (t u : RigState) (root new : ℕ) (upper : Entry) : Type 0 where
  pub is : IsTreeAt (suc (suc l)) u new
  pub blocks : tree_blocks (suc (suc l)) u new ≡ new
      ∷ tree_blocks (suc l) t root ++ (tree_blocks (suc l) t (linked_block upper.child) ++ [])

pub stands_over : {l : ℕ} {t u : RigState} {root new : ℕ} {upper : Entry} → IsTrue t.device.told
    → IsTreeAt (suc l) t root → IsTreeAt (suc l) t (linked_block upper.child)
    → IsFreshEntry t.blocks upper → GrowsOver t u root upper new → Touches [] t u
    → StandsOver l t u root new upper
stands_over {l} {t} {u} {root} {new} {upper} told i j fresh g h =
    let k = linked_block upper.child in
    let lower = tree_stays [] t u h told (suc l) root (apart_none (tree_blocks (suc l) t root)) i in
    let others = tree_stays [] t u h told (suc l) k (apart_none (tree_blocks (suc l) t k)) j in
    let two : List Entry = root_entry t root ∷ upper ∷ [] in
    let back = linked_back root in
    let es : entries_at u new ≡ two =
    entries_is (block_at u.device new) (suc (level_at t root)) two g.is in
    let node = g.node (fresh_links fresh) in
    let P : ℕ → Type 0 = IsTreeAt (suc l) u in
    let Q : List Entry → Type 0 = AreStored P u in
    let ks = tree_blocks (suc l) u k ++ [] in
    record {
      is = (
        record {
          in_use = node.in_use;
          block = node.block;
          level = node.level ∙ ap suc i.0.level;
        },
        subst Q (sym es)
            (none_is u, subst P (sym back) lower.is, (fresh_chain u fresh, others.is, tt)),
      );
      blocks = ap (λ (fs : List Entry). new ∷ row_blocks (tree_blocks (suc l) u) u fs) es
          ∙ (ap (λ (b : ℕ). new ∷ tree_blocks (suc l) u b ++ (chain_blocks u (buffer_of upper) ++ ks))
          back
          ∙ (ap (λ (ws : List ℕ). new ∷ tree_blocks (suc l) u root
          ++ (chain_blocks u (chain_of ws) ++ ks)) fresh.empty
          ∙ (ap (λ (xs : List ℕ). new ∷ xs ++ ks) lower.blocks
          ∙ ap (λ (xs : List ℕ). new ∷ tree_blocks (suc l) t root ++ (xs ++ [])) others.blocks)));
    }
