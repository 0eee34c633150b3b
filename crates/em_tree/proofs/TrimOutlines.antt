-- What the outline of a trim tree says, and what a tree is whose buffers hold no block.
use Rattle.std.proofs.Common.{◌≡◌, ℕ, zero, suc, ◌+◌, ◌-◌, ◌*◌, ◌^◌, ◌<◌, ◌≤◌, List, [], ◌∷◌, length, refl, ap, ◌∙◌, subst, arith, IsTrue, ◌⊎◌, inl, inr, ⊎_elim}
use Rattle.std.proofs.Math.Nat.{le_of_mul-le-mul_right, mul-le-mul_left, mul-le-mul_right}
use Rattle.std.proofs.Math.Seq.{drop-nil}
use Rattle.std.specs.Prelude.{Option}
use Rattle.em_record.specs.Cost.{blocks_of, room}
use Rattle.em_record.specs.Shape.{ShapeNumbers, IsShape, fan_of, wide_of}
use Rattle.em_record.specs.declared.record.Record.{Record}
use Rattle.em_frames.specs.Pool.{load_of}
use Rattle.em_space.specs.Held.{contents_of}
use Rattle.em_space.specs.Rig.{RigState}
use Rattle.em_chain.specs.Chain.{chain_blocks, chain_items, words_of}
use Rattle.em_chain.specs.List.{items_of}
use Rattle.em_chain.specs.declared.chain.Chain.{Chain}
use Rattle.em_chain.proofs.Readers.{length_items}
use Rattle.em_node.specs.declared.entry.Entry.{Entry}
use Rattle.em_tree_blocks.specs.Node.{buffer_of, linked_block}
use Rattle.em_tree_blocks.specs.Reading.{AreStored, IsTreeAt, entries_at, row_of, stored_chain, tree_at}
use Rattle.em_tree_cost.specs.Fat.{AllFat, LeftFat}
use Rattle.em_tree_cost.specs.Fusing.{LeavesFrom}
use Rattle.em_tree_cost.specs.Outline.{IsLevel, Outline, count_of, leaves_of, stored_of, waiting_of, weight_of}
use Rattle.em_tree_cost.specs.Outline.Outline.{end as no_part, entry as part, leaf as leaf_part}
use Rattle.em_tree_cost.specs.Shares.{levels_of}
use Rattle.em_tree_cost.proofs.Ceilings.{blocks_ceil}
use Rattle.em_tree_cost.proofs.Fatness.{all_fat_left}
use Rattle.em_tree_cost.proofs.Fusing.{fused_height, fused_stored}
use Rattle.em_tree_cost.proofs.Levels.{fan_wide, size_is}
use Rattle.em_tree_cost.proofs.Outlines.{some_leaf}
use Rattle.em_tree_load.specs.Releases.{HoldNone, IsUnbuffered}
use Rattle.em_tree_model.specs.Tree.{IsChild, Tree}
use Rattle.em_tree_outline.specs.Outline.{outline_of}
use Rattle.em_tree_walk.specs.Stands.{HasRows}
use Rattle.em_tree_trim.specs.Trim.{IsTrim}
use Rattle.em_trunk.specs.Buffers.{IsBounded, NoneFrom}
use Rattle.em_trunk.specs.Entries.{EachEntry}
use Rattle.em_trunk.specs.Sized.{LeavesUpTo, leaf_limit}
use Rattle.em_trunk.proofs.Entries.{each_both, each_level, each_map}

-- a chain with no block has no record
no_block_items : (s : RigState) (c : Chain) → chain_blocks s c ≡ [] → chain_items s c ≡ []
no_block_items s c none = ap (λ ks. items_of (words_of c) (contents_of s ks)) none ∙ drop-nil c.skip

row_none : (l : ℕ) (s : RigState) → ((k m : ℕ) (lo : Record) (hi : Option Record) → IsUnbuffered l s k
    → EachEntry (NoneFrom 0) m lo hi (tree_at l s k))
    → (es : List Entry) (m : ℕ) (lo : Record) (hi : Option Record) → HoldNone s (IsUnbuffered l s) es
    → EachEntry (NoneFrom 0) m lo hi (row_of (tree_at l s) s es)
row_none l s child [] m lo hi h = tt
row_none l s child (e ∷ es) m lo hi h = (
  λ x. no_block_items s (buffer_of e) h.0,
  child (linked_block e.child) _ _ _ h.1,
  row_none l s child es _ _ _ h.2,
)

-- Where the buffers hold no block, nothing waits,
pub none_unbuffered : (l : ℕ) (s : RigState) (k m : ℕ) (lo : Record) (hi : Option Record) → IsUnbuffered l s k
    → EachEntry (NoneFrom 0) m lo hi (tree_at l s k)
none_unbuffered zero s k m lo hi h = tt
none_unbuffered (suc l) s k m lo hi h = row_none l s (none_unbuffered l s) (entries_at s k) m lo hi h

row_up_to : (l : ℕ) (s : RigState) → ((k : ℕ) → IsTreeAt l s k → IsUnbuffered l s k
    → LeavesUpTo (leaf_limit s.pool.shape) (outline_of (tree_at l s k)))
    → (es : List Entry) → AreStored (IsTreeAt l s) s es → HoldNone s (IsUnbuffered l s) es
    → LeavesUpTo (leaf_limit s.pool.shape) (outline_of (row_of (tree_at l s) s es))
row_up_to l s child [] a h = tt
row_up_to l s child (e ∷ es) a h = (child (linked_block e.child) a.1 h.1, row_up_to l s child es a.2 h.2)

-- and each leaf has at most 4 · w · B records.
pub leaves_unbuffered : (l : ℕ) (s : RigState) → IsTrue s.device.told → (k : ℕ) → IsTreeAt l s k
    → IsUnbuffered l s k → LeavesUpTo (leaf_limit s.pool.shape) (outline_of (tree_at l s k))
leaves_unbuffered zero s told k i h =
    let c = stored_chain s k in
    let n = length_items s c i.stored told in
    let w = wide_of s.pool.shape in
    let same : 4 * w * s.pool.shape.block ≡ 4 * (w * s.pool.shape.block) = omega arith in
    let few : length (chain_items s c) ≤ leaf_limit s.pool.shape = omega (arith, n, h, same) in
    few
leaves_unbuffered (suc l) s told k i h = row_up_to l s (leaves_unbuffered l s told) (entries_at s k) i.1 h

-- a node with an entry
row_child : (child : ℕ → Tree) (s : RigState) (es : List Entry) → 0 < length es → IsChild (row_of child s es)
row_child child s [] h = absurd (omega (arith, h))
row_child child s (e ∷ es) h = tt

pub root_child : (level : ℕ) (s : RigState) (k : ℕ) → HasRows level s.device.contents k
    → IsChild (tree_at level s k)
root_child zero s k h = tt
root_child (suc l) s k h = row_child (tree_at l s) s (entries_at s k) h.0

-- where nothing waits, no buffer is long
pub none_bounded : (level limit : ℕ) → 0 < limit → (lo : Record) (hi : Option Record) (t : Tree)
    → EachEntry (NoneFrom 0) level lo hi t → EachEntry (IsBounded level limit) level lo hi t
none_bounded level limit some lo hi t h = each_map
    (λ l k top b. NoneFrom 0 l k top b × (l ≤ level)) (IsBounded level limit)
    (λ l k top b x.
    (let none = ap length (x.0 (omega arith)) in
    let low = x.1 in
    let m : 1 * limit ≤ (level + 2 - l) * limit = mul-le-mul_right limit (omega (arith, low)) in
    let few : length b < (level + 2 - l) * limit = omega (arith, none, m, some) in
    few))
    level lo hi t (each_both (NoneFrom 0) (λ l k top b. l ≤ level) level lo hi t h (each_level level lo hi t))

-- no operation has a level to go down
pub weight_none : (level : ℕ) (t : Outline) → waiting_of t ≡ 0 → weight_of level t ≡ 0
weight_none level (leaf_part n) h = refl
weight_none level no_part h = refl
weight_none zero (part b c r) h =
    let own = weight_none zero c (omega (arith, h)) in
    let rest = weight_none zero r (omega (arith, h)) in
    omega (arith, own, rest)
weight_none (suc level) (part b c r) h =
    let own = weight_none level c (omega (arith, h)) in
    let rest = weight_none (suc level) r (omega (arith, h)) in
    let none : b ≡ 0 = omega (arith, h) in
    let e : level * b ≡ level * 0 = ap (λ n. level * n) none in
    omega (arith, own, rest, e)

-- a row has no more entries than leaves,
pub count_leaves : (t : Outline) (level : ℕ) → IsLevel t (suc level) → count_of t ≤ leaves_of t
count_leaves (leaf_part n) level h = absurd h
count_leaves no_part level h = omega arith
count_leaves (part b c r) level h =
    let one = some_leaf c level h.1 h.0 in
    let rest = count_leaves r level h.2 in
    omega (arith, one, rest)

-- and over leaves as many.
pub leaves_count : (t : Outline) → IsLevel t 1 → leaves_of t ≡ count_of t
leaves_count (leaf_part n) h = absurd h
leaves_count no_part h = refl
leaves_count (part b (leaf_part n) r) h = let rest = leaves_count r h.2 in omega (arith, rest)
leaves_count (part b no_part r) h = absurd h.0
leaves_count (part b (part d e g) r) h = absurd h.1

-- leaves that each have n records
leaves_stored : (n : ℕ) (t : Outline) → LeavesFrom n t → leaves_of t * n ≤ stored_of t
leaves_stored n (leaf_part m) h = omega (arith, h)
leaves_stored n no_part h = omega arith
leaves_stored n (part b c r) h =
    let own = leaves_stored n c h.0 in
    let rest = leaves_stored n r h.1 in
    omega (arith, own, rest)

-- The root's level is 1, or so many records are stored, and two leaves are there.
pub trim_stored : (shape : ShapeNumbers) (t : Outline) (level : ℕ) → IsShape shape → 1 ≤ level → IsLevel t level
    → IsTrim shape level t
    → (level ≡ 1) ⊎ (1 ≤ level) × (shape.block * (2 * wide_of shape) ^ level ≤ stored_of t) × (2 ≤ leaves_of t)
trim_stored shape t zero is some h trim = absurd (omega (arith, some))
trim_stored shape t (suc l) is some h trim = ⊎_elim
    (λ (x : (suc l ≡ 1) × (count_of t ≡ 1)). inl x.0)
    (λ (x : (1 < count_of t) × LeavesFrom (load_of shape) t × AllFat (fan_of shape) t).
    let F : ℕ → Type 0 = λ f. AllFat f t in
    let fat = subst F (fan_wide shape is) x.2 in
    let two = x.0 in
    let leaves = count_leaves t l h in
    inr (omega arith, fused_stored (wide_of shape) shape.block t l h fat x.1 (omega (arith, two)), omega (arith, two, leaves)))
    trim

-- The level is at most `lev` of the blocks of what is stored, or 1.
pub trim_low : (shape : ShapeNumbers) (t : Outline) (level : ℕ) → IsShape shape → IsLevel t level
    → IsTrim shape level t → level ≤ levels_of shape (stored_of t)
trim_low shape t level is h trim = ⊎_elim
    (λ (x : (level ≡ 1) × (count_of t ≡ 1)). let one = x.0 in omega (arith, one))
    (λ (x : (1 < count_of t) × LeavesFrom (load_of shape) t × AllFat (fan_of shape) t).
    let F : ℕ → Type 0 = λ f. AllFat f t in
    let two = x.0 in
    fused_height shape t level is h (subst F (fan_wide shape is) x.2) x.1 (inr (omega (arith, two))))
    trim

-- One leaf is there, or one for eight of the blocks that the records fill, or fewer.
trim_leaves : (shape : ShapeNumbers) (t : Outline) (level : ℕ) → IsShape shape → IsLevel t level
    → IsTrim shape level t → ((level ≡ 1) × (leaves_of t ≡ 1)) ⊎ (8 * leaves_of t ≤ blocks_of shape (stored_of t))
trim_leaves shape t level is h trim = ⊎_elim
    (λ (x : (level ≡ 1) × (count_of t ≡ 1)).
    let L : ℕ → Type 0 = IsLevel t in
    let same = leaves_count t (subst L x.0 h) in
    inl (x.0, same ∙ x.1))
    (λ (x : (1 < count_of t) × LeavesFrom (load_of shape) t × AllFat (fan_of shape) t).
    let n = leaves_of t in
    let w = wide_of shape in
    let B = shape.block in
    let most = leaves_stored (w * B) t x.1 in
    let c = blocks_ceil shape (stored_of t) is in
    let full = c.holds in
    let wide = (size_is shape is).wide in
    let eight : 8 * n * B ≤ w * n * B = mul-le-mul_right B (mul-le-mul_right n wide) in
    let e : n * (w * B) ≡ w * n * B = grind arith in
    let all : 8 * n * B ≤ blocks_of shape (stored_of t) * B = omega (arith, most, full, eight, e) in
    let low = is.block_low in
    inr (le_of_mul-le-mul_right all (omega (arith, low))))
    trim

-- What a trim tree may hold is within the room of its records.
pub trim_held : (shape : ShapeNumbers) (t : Outline) (level held : ℕ) → IsShape shape → IsLevel t level
    → IsTrim shape level t → level ≤ 24
    → held ≤ 1 + leaves_of t * (level + 1) + 2 * blocks_of shape (stored_of t)
    → held ≤ room shape (stored_of t)
trim_held shape t level held is h trim low few = ⊎_elim
    (λ (x : (level ≡ 1) × (leaves_of t ≡ 1)).
    let P : ℕ → ℕ → Type 0 = λ n l. held ≤ 1 + n * (l + 1) + 2 * blocks_of shape (stored_of t) in
    let one = subst (λ (n : ℕ). P n 1) x.1 (subst (λ (l : ℕ). P (leaves_of t) l) x.0 few) in
    omega (arith, one))
    (λ (x : 8 * leaves_of t ≤ blocks_of shape (stored_of t)).
    let m : leaves_of t * (level + 1) ≤ leaves_of t * 25 = mul-le-mul_left (leaves_of t) (omega (arith, low)) in
    omega (arith, few, m, x))
    (trim_leaves shape t level is h trim)

-- a node over one leaf
one_fat : (f : ℕ) (t : Outline) → IsLevel t 1 → count_of t ≡ 1 → LeftFat f t
one_fat f (leaf_part n) h e = absurd h
one_fat f no_part h e = tt
one_fat f (part b (leaf_part n) (leaf_part m)) h e = absurd h.2
one_fat f (part b (leaf_part n) no_part) h e = (tt, tt)
one_fat f (part b (leaf_part n) (part d c r)) h e = absurd (omega (arith, e))
one_fat f (part b no_part r) h e = absurd h.0
one_fat f (part b (part d g i) r) h e = absurd h.1

-- In a trim tree all nodes off the leftmost path are fat.
pub left_fat : (shape : ShapeNumbers) (t : Outline) (level : ℕ) → IsLevel t level → IsTrim shape level t
    → LeftFat (fan_of shape) t
left_fat shape t level h trim = ⊎_elim
    (λ (x : (level ≡ 1) × (count_of t ≡ 1)).
    let L : ℕ → Type 0 = IsLevel t in
    one_fat (fan_of shape) t (subst L x.0 h) x.1)
    (λ (x : (1 < count_of t) × LeavesFrom (load_of shape) t × AllFat (fan_of shape) t).
    all_fat_left (fan_of shape) t x.2)
    trim
