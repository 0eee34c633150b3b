-- Leaves that are listed, over calls that leave their blocks alone, and with more of them.
use Rattle.std.proofs.Common.{◌≡◌, ℕ, ◌*◌, List, [], ◌∷◌, ◌++◌, length, refl, sym, ap, ◌∙◌, subst, arith, append_assoc, IsTrue}
use Rattle.em_record.specs.declared.record.Record.{Record}
use Rattle.em_space.specs.Held.{Apart}
use Rattle.em_space.specs.Rig.{RigState, Touches}
use Rattle.em_space.proofs.Lists.{apart_left, apart_right}
use Rattle.em_chain.specs.Chain.{chain_blocks}
use Rattle.em_node.specs.declared.entry.Entry.{Entry}
use Rattle.em_balance.specs.Node.{IsFreshEntry}
use Rattle.em_tree_model.specs.Tree.{first_leaf}
use Rattle.em_tree_blocks.specs.Node.{buffer_of, linked_block}
use Rattle.em_tree_blocks.specs.Reading.{leaf_items, tree_blocks}
use Rattle.em_tree_blocks.proofs.Frames.{tree_stays}
use Rattle.em_tree_raise.specs.Listing.{block_record, listed}
use Rattle.em_tree_trim.specs.Leaves.{LeadToLeaves, leaf_blocks}
use Rattle.em_tree_trim.specs.Rows.{parts_at}
use Rattle.em_tree_trim.proofs.RowsUp.{fresh_blocks}
use Rattle.em_tree_trim.proofs.Stays.{unbuffered_stays}

-- They are the same, in the same blocks.
pub record LeavesStay (s t : RigState) (es : List Entry) : Type 0 where
  pub leads : LeadToLeaves t es
  pub blocks : leaf_blocks t es ≡ leaf_blocks s es
  pub parts : parts_at t es ≡ parts_at s es

pub leaves_stay : {held : List ℕ} {s t : RigState} (es : List Entry) → Touches held s t → IsTrue s.device.told
    → Apart (leaf_blocks s es) held → LeadToLeaves s es → LeavesStay s t es
leaves_stay [] h z a l = record { leads = tt; blocks = refl; parts = refl }
leaves_stay {held} {s} {t} (e ∷ es) h z a l =
    let k = linked_block e.child in
    let own = chain_blocks s (buffer_of e) in
    let mine = tree_blocks 0 s k in
    let others = leaf_blocks s es in
    let inner = apart_right own (mine ++ others) held a in
    let under = apart_left mine others held inner in
    let x = tree_stays held s t h z 0 k under l.0.leaf in
    let rest = leaves_stay es h z (apart_right mine others held inner) l.1 in
    let F : ℕ → Type 0 = λ n. IsFreshEntry n e in
    let buffers : chain_blocks t (buffer_of e) ≡ own = fresh_blocks t l.0.fresh ∙ sym (fresh_blocks s l.0.fresh) in
    let items : leaf_items t e ≡ leaf_items s e = ap first_leaf x.tree in
    let P : List Record → List (Record × List Record) = λ xs. (e.low, xs) ∷ parts_at t es in
    let Q : List (Record × List Record) → List (Record × List Record) = λ ps. (e.low, leaf_items s e) ∷ ps in
    record {
      leads = (
        record {
          fresh = subst F (sym h.blocks) l.0.fresh;
          leaf = x.is;
          few = unbuffered_stays held s t h z 0 k under l.0.leaf l.0.few;
        },
        rest.leads,
      );
      blocks = ap (λ (ks : List ℕ). ks ++ (tree_blocks 0 t k ++ leaf_blocks t es)) buffers
          ∙ (ap (λ (ks : List ℕ). own ++ (ks ++ leaf_blocks t es)) x.blocks
          ∙ ap (λ (ks : List ℕ). own ++ (mine ++ ks)) rest.blocks);
      parts = ap P items ∙ ap Q rest.parts;
    }

pub leaf_blocks_append : (t : RigState) (xs ys : List Entry)
    → leaf_blocks t (xs ++ ys) ≡ leaf_blocks t xs ++ leaf_blocks t ys
leaf_blocks_append t [] ys = refl
leaf_blocks_append t (x ∷ xs) ys =
    let b = chain_blocks t (buffer_of x) in
    let c = tree_blocks 0 t (linked_block x.child) in
    let r = leaf_blocks t xs in
    let u = leaf_blocks t ys in
    ap (λ (ks : List ℕ). b ++ (c ++ ks)) (leaf_blocks_append t xs ys)
    ∙ (ap (λ (ks : List ℕ). b ++ ks) (sym (append_assoc c r u)) ∙ sym (append_assoc b (c ++ r) u))

pub leads_append : (t : RigState) (xs ys : List Entry) → LeadToLeaves t xs → LeadToLeaves t ys
    → LeadToLeaves t (xs ++ ys)
leads_append t [] ys a b = b
leads_append t (x ∷ xs) ys a b = (a.0, leads_append t xs ys a.1 b)

pub listed_append : (xs ys : List Entry) → listed (xs ++ ys) ≡ listed xs ++ listed ys
listed_append [] ys = refl
listed_append (x ∷ xs) ys =
    ap (λ (rs : List Record). x.low ∷ block_record (linked_block x.child) ∷ rs) (listed_append xs ys)

pub listed_length : (es : List Entry) → length (listed es) ≡ 2 * length es
listed_length [] = refl
listed_length (e ∷ es) = let h = listed_length es in omega (arith, h)
