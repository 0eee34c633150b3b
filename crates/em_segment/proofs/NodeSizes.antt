-- How many blocks and records the chains of a node have, over a device that tells.
use Rattle.std.proofs.Common.{◌≡◌, ℕ, ◌+◌, ◌*◌, ◌≤◌, List, [], ◌∷◌, length, map, refl, ap, ◌∙◌, arith, IsTrue, length-append}
use Rattle.std.proofs.Math.Nat.{mul-le-mul}
use Rattle.std.proofs.lemmas.List.Sums.{sum_by-cons}
use Rattle.std.specs.List.{flat_map, sum_by}
use Rattle.std.specs.Prelude.{filter}
use Rattle.em_record.specs.Order.{IsAscending}
use Rattle.em_record.specs.declared.record.Record.{Record}
use Rattle.em_space.specs.Rig.{RigState, Sound}
use Rattle.em_chain.specs.Chain.{chain_items, payload_in}
use Rattle.em_chain.specs.Counts.{ceiling}
use Rattle.em_chain.specs.declared.chain.Chain.{Chain}
use Rattle.em_chain.proofs.Readers.{length_items}
use Rattle.em_segment_model.specs.Places.{places_of}
use Rattle.em_segment_model.specs.Points.{joined}
use Rattle.em_segment_model.specs.Reports.{slab_lists}
use Rattle.em_segment_model.specs.Sizes.{fan_root}
use Rattle.em_segment_model.specs.Slabs.{slabs_from}
use Rattle.em_segment_model.specs.Spans.{AllSome, down_lists, ends_of, takes_piece, value_span}
use Rattle.em_segment_model.specs.declared.strip.Span.{Span}
use Rattle.em_segment_model.proofs.Cost.{ListBlocks, StripBlocks}
use Rattle.em_segment_model.proofs.Dealing.{sent_few}
use Rattle.em_segment_model.proofs.Nodes.{node_down, node_lists, pieces_weigh}
use Rattle.em_segment_model.proofs.Places.{slabs_from-length}
use Rattle.em_segment_parts.specs.Chains.{AreChains, IsPackedChain, chains_count, chains_held, chains_lists}
use Rattle.em_segment_parts.specs.Deals.{lists_of, sent_all, sent_places}
use Rattle.em_segment_parts.specs.Splits.{AreCut}
use Rattle.em_segment.proofs.CallSizes.{chain_filled}
use Rattle.em_segment_parts.proofs.Fronts.{ceiling_below}
use Rattle.em_segment_parts.proofs.Sending as sending

-- Each of several chains has less than a block more than its records fill.
pub chains_fill : (s : RigState) (cs : List Chain) → Sound s → IsTrue s.device.told → AreChains s cs
    → chains_held cs * payload_in s ≤ chains_count cs + length cs * payload_in s
chains_fill s [] h z i = omega arith
chains_fill s (c ∷ cs) h z (one, rest) =
    let a = chain_filled h one z in
    let b = chains_fill s cs h z rest in
    omega (arith, a, b)

-- the records of chains, and those of their lists
pub chains_total : (s : RigState) (cs : List Chain) → IsTrue s.device.told → AreChains s cs
    → chains_count cs ≡ sum_by (λ (xs : List Record). length xs) (chains_lists s cs)
chains_total s [] z i = refl
chains_total s (c ∷ cs) z (one, rest) =
    let a = length_items s c one.is z in
    let b = chains_total s cs z rest in
    let d = sum_by-cons (λ (xs : List Record). length xs) (chain_items s c) (chains_lists s cs) in
    omega (arith, a, b, d)

-- each strip has a point
pub cut_some : (most : ℕ) (s : RigState) (cs : List Chain) → IsTrue s.device.told → AreChains s cs
    → AreCut most cs → AllSome (chains_lists s cs)
cut_some most s [] z i c = tt
cut_some most s (c ∷ cs) z (one, rest) (here, others) =
    let a = length_items s c one.is z in
    let some = here.0 in
    (omega (arith, a, some), cut_some most s cs z rest others)

-- as many records are sent as pieces have places
sent_length : (zs : List Span) (pieces : List Record)
    → length (sent_all zs pieces) ≡ length (flat_map (places_of zs) pieces)
sent_length zs [] = refl
sent_length zs (r ∷ pieces) =
    let a = length-append (sent_places r (places_of zs r)) (sent_all zs pieces) in
    let b = length-append (places_of zs r) (flat_map (places_of zs) pieces) in
    let c = sending.sent_length r (places_of zs r) in
    let d = sent_length zs pieces in
    omega (arith, a, b, c, d)

down_sum : (zs : List Span) (pieces : List Record)
    → sum_by (λ (xs : List Record). length xs) (down_lists zs pieces)
    ≡ sum_by (λ (z : Span). length (filter (takes_piece z) pieces)) zs
down_sum [] pieces = refl
down_sum (z ∷ zs) pieces =
    let r = down_sum zs pieces in
    let a = sum_by-cons (λ (xs : List Record). length xs) (filter (takes_piece z) pieces)
    (down_lists zs pieces) in
    let b = sum_by-cons (λ (y : Span). length (filter (takes_piece y) pieces)) z zs in
    omega (arith, r, a, b)

-- no more than the pieces, and those that go down
pub sent_most : (zs : List Span) (pieces : List Record)
    → length (sent_all zs pieces)
    ≤ length pieces + sum_by (λ (xs : List Record). length xs) (down_lists zs pieces)
sent_most zs pieces =
    let a = sent_length zs pieces in
    let b = sent_few zs pieces in
    let c = down_sum zs pieces in
    omega (arith, a, b, c)

-- the lists of a node of z strips, of at most s
pub lists_most : (s z : ℕ) → z ≤ s → 2 * lists_of z ≤ s * s + 3 * s
lists_most s z h =
    let n = slabs_from-length 0 z in
    let m : z * z ≤ s * s = mul-le-mul h h in
    omega (arith, n, m, h)

-- The numbers of a node's points and strips.
pub strip_blocks : (s t : RigState) (points : Chain) (cs : List Chain) → Sound s → Sound t
    → payload_in t ≡ payload_in s → IsTrue s.device.told → IsTrue t.device.told
    → IsPackedChain s points → AreChains t cs → chains_count cs ≡ points.count
    → length cs ≤ fan_root s.pool.shape
    → StripBlocks (fan_root s.pool.shape) (payload_in s) points.count points.blocks (chains_held cs)
    (length cs)
strip_blocks s t points cs h g p z y i are count few = record {
  few = few;
  points = chain_filled h i z;
  strips = let a = rw p at (chains_fill t cs g y are) in omega (arith, a, count);
}

-- Those of its pieces, and of so many blocks of lists as they may need.
pub list_blocks : (s : RigState) (pieces : Chain) (pss : List (List Record)) (room z : ℕ) → Sound s
    → IsTrue s.device.told → IsPackedChain s pieces → AllSome pss → IsAscending (joined pss)
    → z ≡ length pss → z ≤ fan_root s.pool.shape
    → room ≤ ceiling (length (sent_all (map value_span pss) (chain_items s pieces))) (payload_in s)
    + lists_of z
    → ListBlocks (fan_root s.pool.shape) (payload_in s) pieces.count
    (sum_by (λ (xs : List Record). length xs) (down_lists (map value_span pss) (chain_items s pieces)))
    (ends_of (joined pss) (chain_items s pieces)) pieces.blocks room (lists_of z)
list_blocks s pieces pss room z h told i some a long few most =
    let low = h.shape.block_low in
    let P = payload_in s in
    let items = chain_items s pieces in
    let zs = map value_span pss in
    let len = length_items s pieces i.is told in
    let y = pieces_weigh (joined pss) items in
    let sent = sent_most zs items in
    let t = ceiling_below (length (sent_all zs items)) P (omega (arith, low)) in
    let m : room * P ≤ (ceiling (length (sent_all zs items)) P + lists_of z) * P =
    mul-le-mul most (same P) in
    record {
      few = lists_most (fan_root s.pool.shape) z few;
      pieces_most = omega (arith, len, y);
      down_most = node_down pss items some a;
      pieces = chain_filled h i told;
      lists = omega (arith, m, t, sent, len);
    }
  where
    same : (n : ℕ) → n ≤ n
    same n = omega arith

-- The lists that were written have no more than that.
pub lists_full : (s u : RigState) (pieces : Chain) (pss : List (List Record)) (down slabs : List Chain)
    (z : ℕ) → Sound s → Sound u → payload_in u ≡ payload_in s → IsTrue s.device.told
    → IsTrue u.device.told → IsPackedChain s pieces → AreChains u down → AreChains u slabs
    → chains_lists u down ≡ down_lists (map value_span pss) (chain_items s pieces)
    → chains_lists u slabs ≡ slab_lists (map value_span pss) (chain_items s pieces)
    → length down ≡ z → length slabs ≡ length (slabs_from 0 z)
    → (chains_held down + chains_held slabs) * payload_in s
    ≤ pieces.count
    + sum_by (λ (xs : List Record). length xs) (down_lists (map value_span pss) (chain_items s pieces))
    + lists_of z * payload_in s
lists_full s u pieces pss down slabs z h g p told y i are slabs_are d l long wide =
    let sum = λ (xss : List (List Record)). sum_by (λ (xs : List Record). length xs) xss in
    let len = length_items s pieces i.is told in
    let a = rw (p, long) at (chains_fill u down g y are) in
    let b = rw (p, wide) at (chains_fill u slabs g y slabs_are) in
    let c = chains_total u down y are ∙ ap sum d in
    let e = chains_total u slabs y slabs_are ∙ ap sum l in
    let n = node_lists (map value_span pss) (chain_items s pieces) in
    omega (arith, len, a, b, c, e, n)
