-- The numbers of a tree that is drained, and its share of moves.
use Rattle.std.specs.Prelude.{◌≡◌, ◌⊎◌, ℕ, ◌+◌, ◌*◌, ◌<◌, ◌≤◌}
use Rattle.std.specs.Int.{div_ceil}
use Rattle.std.proofs.Common.{ap, ◌∙◌, refl, inl, inr, ⊎_elim, arith}
use Rattle.std.proofs.Math.Nat.{mul-le-mul_left}
use Rattle.em_record.specs.Cost.{blocks_of}
use Rattle.em_record.specs.Shape.{IsShape, ShapeNumbers, payload_of}
use Rattle.em_space.specs.Rig.{RigState}
use Rattle.em_chain.specs.Counts.{ceiling}
use Rattle.em_tree_cost.specs.Books.{TreeCounts, count_all, count_drain}
use Rattle.em_tree_cost.specs.Shares.{chain_share, floors_of, tree_share}
use Rattle.em_tree_cost.proofs.Rising.{div_ceil_rises}
use Rattle.em_tree_cost.proofs.Ceilings.{ceil_is, ceil_mono, ceiling_is}
use Rattle.em_trunk.specs.Trunk.{counts_of}
use Rattle.em_trunk.specs.declared.trunk.Trunk.{Trunk}
use Rattle.em_tree.specs.Calls.{CountsCall, KeepsShare}
use Rattle.em_bulk.specs.Draining.{DrainsTo, drain_share}

-- Nothing happened.
pub drains_none : (v : Trunk) → DrainsTo v v
drains_none v = record {
  pushed = refl;
  longest = refl;
  settled = refl;
  adopted = refl;
  resets = inl (refl, refl);
}

-- One call after another: after a reset nothing counts as pushed, so there is no other one.
pub drains_then : {u v w : Trunk} → DrainsTo u v → DrainsTo v w → DrainsTo u w
drains_then {u} {v} {w} a b = record {
  pushed = b.pushed ∙ a.pushed;
  longest = b.longest ∙ a.longest;
  settled = b.settled ∙ a.settled;
  adopted = b.adopted ∙ a.adopted;
  resets = ⊎_elim
      (λ (i : (v.since ≡ u.since) × (v.resets ≡ u.resets)). ⊎_elim
      (λ (j : (w.since ≡ v.since) × (w.resets ≡ v.resets)). inl (j.0 ∙ i.0, j.1 ∙ i.1))
      (λ (j : (0 < v.since) × (w.since ≡ 0) × (w.resets ≡ v.resets + 1)).
      inr (omega (arith, i, j), j.1, omega (arith, i, j)))
      b.resets)
      (λ (i : (0 < u.since) × (v.since ≡ 0) × (v.resets ≡ u.resets + 1)). ⊎_elim
      (λ (j : (w.since ≡ v.since) × (w.resets ≡ v.resets)). inr (i.0, j.0 ∙ i.1, j.1 ∙ i.2))
      (λ (j : (0 < v.since) × (w.since ≡ 0) × (w.resets ≡ v.resets + 1)). absurd (omega (arith, i, j)))
      b.resets)
      a.resets;
}

-- `take_first` was called on a tree that wasn't fresh.
pub drains_take : (s t : RigState) (v w : Trunk) → 0 < v.since
    → CountsCall count_all s t v w ⊎ CountsCall (λ c. count_drain 0 (count_all c)) s t v w → DrainsTo v w
drains_take s t v w some counts = ⊎_elim
    (λ (c : CountsCall count_all s t v w). record {
      pushed = ap (λ (x : TreeCounts). x.n) c.counts;
      longest = ap (λ (x : TreeCounts). x.k) c.counts;
      settled = ap (λ (x : TreeCounts). x.y) c.counts;
      adopted = ap (λ (x : TreeCounts). x.adopted) c.counts;
      resets = inl (ap (λ (x : TreeCounts). x.since) c.counts, ap (λ (x : TreeCounts). x.z) c.counts);
    })
    (λ (c : CountsCall (λ c. count_drain 0 (count_all c)) s t v w). record {
      pushed = ap (λ (x : TreeCounts). x.n) c.counts;
      longest = ap (λ (x : TreeCounts). x.k) c.counts;
      settled = ap (λ (x : TreeCounts). x.y) c.counts;
      adopted = ap (λ (x : TreeCounts). x.adopted) c.counts;
      resets = inr (some, ap (λ (x : TreeCounts). x.since) c.counts, ap (λ (x : TreeCounts). x.z) c.counts);
    })
    counts

-- its resets rose by one at most
pub resets_most : {v w : Trunk} → DrainsTo v w → w.resets ≤ v.resets + 1
resets_most {v} {w} d = ⊎_elim
    (λ (i : (w.since ≡ v.since) × (w.resets ≡ v.resets)). omega (arith, i))
    (λ (i : (0 < v.since) × (w.since ≡ 0) × (w.resets ≡ v.resets + 1)). omega (arith, i))
    d.resets

-- More records, resets and settlings never make the share less.
pub tree_share_rises : (shape : ShapeNumbers) (m n k a b c d : ℕ) → m ≤ n → a ≤ b → c ≤ d
    → tree_share shape m k a c ≤ tree_share shape n k b d
tree_share_rises shape m n k a b c d many more later =
    let q = blocks_of shape k + 1 in
    let blocks = div_ceil_rises shape.block m n many in
    let x = mul-le-mul_left q later in
    let y = mul-le-mul_left (floors_of shape k) (sum_rises (160 * (blocks_of shape m + 1)) (160 * (blocks_of shape n + 1))
    (64 * a) (64 * b) (64 * c * q) (64 * d * q) (omega (arith, blocks)) (omega (arith, more)) (omega (arith, x))) in
    omega (arith, y)
  where
    sum_rises : (m n a b c d : ℕ) → m ≤ n → a ≤ b → c ≤ d → m + a + c ≤ n + b + d
    sum_rises m n a b c d e f g = omega (arith, e, f, g)

-- The moves so far of a tree that is drained, by its numbers at first.
pub drained_within : (shape : ShapeNumbers) {v w : Trunk} (answers : ℕ) → DrainsTo v w → KeepsShare shape (counts_of w)
    → w.counted ≤ w.adopted → w.spent ≤ drain_share shape v answers
drained_within shape {v} {w} answers d share counted =
    let here : w.spent ≤ tree_share shape (v.pushed + w.counted) v.longest w.resets v.settled =
    rw (d.pushed, d.longest, d.settled) at share.within in
    let more = tree_share_rises shape (v.pushed + w.counted) (v.pushed + v.adopted) v.longest w.resets (v.resets + 1)
    v.settled (v.settled + 1) (omega (arith, counted, d.adopted)) (resets_most d) (omega arith) in
    omega (arith, here, more)

-- If it wasn't adopted and had given or owed no more answers than operations were pushed, this is within the shares of a tree that is reset twice
-- and settled, and of a chain.
pub drain_share_most : (shape : ShapeNumbers) (v : Trunk) (answers : ℕ) → IsShape shape → v.adopted ≡ 0
    → answers ≤ v.pushed → drain_share shape v answers
    ≤ tree_share shape v.pushed v.longest (v.resets + 2) (v.settled + 1) + chain_share shape v.pushed
drain_share_most shape v answers is none few =
    let P = payload_of shape in
    let low : 0 < P = (let b = is.block_low in omega (arith, b)) in
    let blocks = ceil_mono (ceiling answers P) (div_ceil v.pushed P) P answers v.pushed (ceiling_is answers P low)
    (ceil_is v.pushed P low) few in
    let more = tree_share_rises shape (v.pushed + v.adopted) v.pushed v.longest (v.resets + 1) (v.resets + 2)
    (v.settled + 1) (v.settled + 1) (omega (arith, none)) (omega arith) (omega arith) in
    omega (arith, blocks, more)
