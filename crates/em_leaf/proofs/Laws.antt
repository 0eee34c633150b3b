-- What a tree above takes from a load: leaves stay leaves, and what a load costs at most.
use Rattle.std.proofs.Common.{◌≡◌, ℕ, ◌+◌, ◌-◌, ◌*◌, ◌<◌, ◌≤◌, List, [], ◌∷◌, ◌++◌, sym, subst, arith, IsTrue, Option, Some, None, IfSome}
use Rattle.std.proofs.Math.Nat.{mul-le-mul_right, mul_assoc}
use Rattle.std.proofs.lemmas.Nat.{div_below}
use Rattle.em_record.specs.Shape.{IsShape, ShapeNumbers, payload_of, wide_of}
use Rattle.em_record.specs.declared.record.Record.{Record}
use Rattle.em_frames.specs.Pool.{load_of}
use Rattle.em_space.specs.Rig.{RigState}
use Rattle.em_chain.specs.Chain.{chain_items}
use Rattle.em_chain.specs.Counts.{ceiling}
use Rattle.em_chain.specs.declared.chain.Chain.{Chain}
use Rattle.em_chain.proofs.Counts.{ceiling_more}
use Rattle.em_settle.specs.Rising.{KeysAbove, RisesByKey}
use Rattle.em_settle.specs.declared.step.Step.{Step}
use Rattle.em_settle.proofs.Lists.{list_rises_after}
use Rattle.em_leaf.specs.Effects.{SettlesLeaf}
use Rattle.em_leaf.specs.Leaf.{AreLeafChains, IsHighChain, IsLeafList, high_items, leaf_most}
use Rattle.em_leaf.specs.declared.change.LeafChange.{LeafChange}

module _ (key : Record → Record) where
  above_left : (k : Record) (xs ys : List Record) → KeysAbove key k (xs ++ ys) → KeysAbove key k xs
  above_left k [] ys a = tt
  above_left k (x ∷ xs) ys a = (a.0, above_left k xs ys a.1)

  -- each of two lists that rise together rises
  pub rises_left : (xs ys : List Record) → RisesByKey key (xs ++ ys) → RisesByKey key xs
  rises_left [] ys r = tt
  rises_left (x ∷ xs) ys r = (above_left (key x) xs ys r.0, rises_left xs ys r.1)

  pub rises_right : (xs ys : List Record) → RisesByKey key (xs ++ ys) → RisesByKey key ys
  rises_right [] ys r = r
  rises_right (x ∷ xs) ys r = rises_right xs ys r.1

  -- the high part is the list of a leaf, if there is one
  abbrev pub IsHighList : RigState → Option (Record × Chain) → Type 0
  IsHighList t None = Unit {0}
  IsHighList t (Some p) = IsLeafList key t p.1

  high_list : (t : RigState) (o : Option (Record × Chain)) → IsTrue t.device.told → IsHighChain t o
      → RisesByKey key (high_items t o) → IsHighList t o
  high_list t None z h r = tt
  high_list t (Some p) z h r = record { packed = h.packed z; rises = r }

  -- Both parts are lists of leaves, over which another load can be settled.
  pub leaves_again : (step : Option Record → Record → Step)
      (keeps_key : (old : Option Record) (op new : Record) → IfSome old (λ r. key r ≡ key op)
      → (step old op).stored ≡ Some new → key new ≡ key op)
      (s t : RigState) (c : Chain) (ops : List Record) (change : LeafChange)
      → IsTrue t.device.told → RisesByKey key (chain_items s c)
      → SettlesLeaf key step s t c ops change → AreLeafChains t change
      → IsLeafList key t change.low × IsHighList t change.high
  leaves_again step keeps_key s t c ops change z r h l =
      let P : List Record → Type 0 = RisesByKey key in
      let all = subst P (sym h.items) (list_rises_after key step keeps_key
      (chain_items s c) ops r) in
      let lows = chain_items t change.low in
      let highs = high_items t change.high in (
        record { packed = l.low.packed z; rises = rises_left lows highs all },
        high_list t change.high z l.high (rises_right lows highs all),
      )

-- n records take at most this many blocks, if they fit
fits_in : (n p b : ℕ) → 0 < p → n ≤ b * p → ceiling n p ≤ b
fits_in n p b pos h =
    let m : (b + 1) * p ≡ b * p + p = omega arith in
    let d = div_below (n + p - 1) p (b + 1) pos (omega (arith, m, h)) in
    omega (arith, d)

-- k loads of w·B records take at most k·w + 1 blocks of B - 1
loads_fit : (k w block : ℕ) → k ≤ 4 → 16 * w ≤ block → 128 ≤ block
    → ceiling (k * (w * block)) (block - 1) ≤ k * w + 1
loads_fit k w block few wide low =
    let kw : k * w ≤ 4 * w = mul-le-mul_right w few in
    let p = block - 1 in
    let b : block ≡ p + 1 = omega arith in
    let a = mul_assoc k w block in
    let m : (k * w) * block ≡ (k * w) * p + k * w =
    subst (λ (x : ℕ). (k * w) * x ≡ (k * w) * p + k * w) (sym b) (omega arith) in
    let n : (k * w + 1) * p ≡ (k * w) * p + p = omega arith in
    fits_in (k * (w * block)) p (k * w + 1) (omega arith) (omega arith)

-- The moves of a load of at most w·B operations over a packed leaf are at most 28·w.
pub apply_most : (shape : ShapeNumbers) (records n : ℕ) → IsShape shape → records ≤ leaf_most shape
    → n ≤ load_of shape
    → 5 * ceiling records (payload_of shape) + 4 * ceiling n (payload_of shape) + 12
    ≤ 28 * wide_of shape
apply_most shape records n i r l =
    let low = i.block_low in
    let frames = i.frames_low in
    let within = i.frames_within in
    let wide : 16 * wide_of shape ≤ shape.block = omega arith in
    let some : 8 ≤ wide_of shape = omega arith in
    let four = loads_fit 4 (wide_of shape) shape.block (omega arith) wide low in
    let one = loads_fit 1 (wide_of shape) shape.block (omega arith) wide low in
    let a = ceiling_more records (4 * load_of shape) (payload_of shape) (omega arith) r in
    let b = ceiling_more n (1 * load_of shape) (payload_of shape) (omega arith) (omega arith) in
    omega arith
