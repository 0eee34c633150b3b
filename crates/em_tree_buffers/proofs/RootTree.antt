-- The laws of a whole tree, over the emptying of the root's buffer into the root.
use Rattle.std.specs.Prelude.{◌≡◌, ◌⊎◌, ℕ, ◌+◌, ◌-◌, ◌*◌, ◌<◌, ◌≤◌, List, [], ◌∷◌, length, Option}
use Rattle.std.proofs.Common.{refl, arith, inl, inr, ⊎_elim}
use Rattle.std.proofs.Math.Nat.{mul-le-mul_right}
use Rattle.std.proofs.lemmas.List.{length-append}
use Rattle.em_record.specs.Shape.{ShapeNumbers, fan_of}
use Rattle.em_record.specs.declared.record.Record.{Record}
use Rattle.em_tree_model.specs.Pouring.{pour}
use Rattle.em_tree_model.specs.Tree.{HasEntry, IsRow, Tree}
use Rattle.em_tree_model.specs.Tree.Tree.{end, entry}
use Rattle.em_tree_cost.specs.Outline.Outline.{end as no_part}
use Rattle.em_tree_cost.specs.Spots.Spot.{here as here_spot}
use Rattle.em_tree_outline.specs.Outline.{outline_of}
use Rattle.em_tree_outline.proofs.Pouring.{outline_pours}
use Rattle.em_trunk.specs.Buffers.{IsBounded, IsThin}
use Rattle.em_trunk.specs.Entries.{EachEntry}
use Rattle.em_trunk.specs.Sized.{IsSized, leaf_limit}
use Rattle.em_trunk.proofs.Entries.{each_both, each_level, each_map, each_pour_count}
use Rattle.em_trunk.proofs.Sized.{count_pour, fat_emptied, leaves_pour, nodes_pour}

-- sizes stay: no node gets an entry
pub root_sized : (key : Record → Record) (shape : ShapeNumbers) (first : Record) (ops : List Record)
    (root : Tree) → IsRow root → HasEntry root → IsSized shape (outline_of (entry first ops root end))
    → (more : List Record) → IsSized shape (outline_of (entry first more (pour key root ops) end))
root_sized key shape first ops root row some h more =
    let c = outline_of root in
    let d = outline_of (pour key root ops) in
    let pours = outline_pours key root ops row some in
    let same = count_pour (length ops) c d pours in
    let few = h.nodes.0 in
    let fat = fat_emptied (fan_of shape) (length ops) (length ops) here_spot c d no_part pours h.fat in
    record {
      leaves = (leaves_pour (leaf_limit shape) (length ops) c d pours h.leaves.0, tt);
      nodes = (omega (arith, few, same), nodes_pour (2 * fan_of shape) (length ops) c d pours h.nodes.1, tt);
      fat = (fat.0, fat.1);
    }

-- the bound of the root's buffers, and of those below
bounded_root : (limit level l n x : ℕ) → n ≤ limit → (l ≡ level → x < limit + n)
    → (x < limit) ⊎ (l ≡ level) → l ≤ level → x < (level + 2 - l) * limit
bounded_root limit level l n x few row other le = ⊎_elim
    (λ (thin : x < limit).
    let m : 1 * limit ≤ (level + 2 - l) * limit = mul-le-mul_right limit (omega (arith, le)) in
    omega (arith, m, thin))
    (λ (e : l ≡ level).
    let a = row e in
    let d : level + 2 - l ≡ 2 = omega (arith, e) in
    rw d (omega (arith, a, few)))
    other

-- No more operations than those of a full buffer are poured over a row of thin buffers.
pub root_bounded : (key : Record → Record) (limit : ℕ) (c : Tree) (ops : List Record) (level : ℕ)
    (lo : Record) (hi : Option Record) → length ops ≤ limit → EachEntry (IsThin limit) level lo hi c
    → EachEntry (IsBounded level limit) level lo hi (pour key c ops)
root_bounded key limit c ops level lo hi few h =
    let C : ℕ → ℕ → Record → Option Record → List Record → Type 0 = λ x l k t b.
    (l ≡ level → length b < x) × (length b < limit ⊎ (l ≡ level)) × (l ≤ level) in
    let old : EachEntry (C limit) level lo hi c =
    each_map (λ l k t b. IsThin limit l k t b × (l ≤ level)) (C limit)
    (λ l k t b m. (λ (e : l ≡ level). m.0, inl m.0, m.1)) level lo hi c
    (each_both (IsThin limit) (λ l k t b. l ≤ level) level lo hi c h (each_level level lo hi c)) in
    let new : EachEntry (C (limit + length ops)) level lo hi (pour key c ops) =
    each_pour_count C level
    (λ x l k t b m. (λ (e : l ≡ level). (let a = m.0 e in omega (arith, a)), m.1, m.2))
    (λ x k t b op m. (
      λ (e : level ≡ level). (let a = m.0 refl in let n = length-append b (op ∷ []) in omega (arith, a, n)),
      inr refl,
      m.2,
    )) key limit (limit + length ops) c ops lo hi refl old in
    each_map (C (limit + length ops)) (IsBounded level limit)
    (λ l k t b m. bounded_root limit level l (length ops) (length b) few m.0 m.1 m.2)
    level lo hi (pour key c ops) new
