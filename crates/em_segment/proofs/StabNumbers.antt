-- What the end of an interval list moves and holds, over a device that tells, in numbers.
use Rattle.std.proofs.Common.{◌≡◌, ℕ, ◌+◌, ◌*◌, ◌≤◌, ◌<◌, max, List, length, IsTrue, ap, subst, sym, ◌∙◌, arith}
use Rattle.std.proofs.Math.Nat.{le_of_mul-le-mul_right, mul-le-mul_left}
use Rattle.em_record.specs.Cost.{blocks_of, lev}
use Rattle.em_record.specs.Shape.{IsShape, ShapeNumbers, payload_of}
use Rattle.em_record.specs.declared.record.Record.{Record}
use Rattle.em_model.specs.StabAnswers.{stab_pairs}
use Rattle.em_model.specs.declared.command.Command.{Command}
use Rattle.em_space.specs.Rig.{RigState, Sound}
use Rattle.em_chain.specs.Chain.{chain_items, payload_in}
use Rattle.em_chain.specs.Counts.{ceiling}
use Rattle.em_chain.specs.declared.chain.Chain.{Chain}
use Rattle.em_chain.proofs.Counts.{ceiling_more, packed_blocks, writer_blocks_are}
use Rattle.em_chain.proofs.Readers.{length_items}
use Rattle.em_sorting.specs.Sorts.{sorting_moves}
use Rattle.em_tree_cost.specs.Shares.{stab_room}
use Rattle.em_tree_cost.proofs.Ceilings.{blocks_ceil, ceiling_is}
use Rattle.em_segment_model.specs.Bounds.{holds, pays}
use Rattle.em_segment_model.specs.Points.{pairs_due}
use Rattle.em_segment_model.specs.Sizes.{fan_root, strip_levels}
use Rattle.em_segment_model.specs.Spans.{ends_of}
use Rattle.em_segment_model.proofs.Cost.{leaf_pays, own_within, pays_rise}
use Rattle.em_segment_model.proofs.Levels.{root_levels}
use Rattle.em_segment_model.proofs.Nodes.{root_weighs}
use Rattle.em_segment_model.proofs.Room.{holds_rise, room_within}
use Rattle.em_segment.specs.Answers.{WithinCall, due}
use Rattle.em_segment.specs.Finishes.{ReportsAll, own_share}
use Rattle.em_segment.specs.Stabs.{HasCommands, IsStab, stab_size}
use Rattle.em_segment.specs.declared.stab.Stab.{Stab}
use Rattle.em_segment.proofs.AllReported.{alike_length}
use Rattle.em_segment.proofs.StabCalls.{pairs_size}
use Rattle.em_segment.proofs.StabReported.{due_length}
use Rattle.em_segment.proofs.StabSorted.{HasSorted}

-- Blocks of I intervals, J points and K pairs: one more at most than their records fill.
pub record StabBlocks (shape : ShapeNumbers) (I J K bi bj bk : ℕ) : Type 0 where
  pub intervals : bi * payload_of shape ≤ I + payload_of shape
  pub points : bj * payload_of shape ≤ J + payload_of shape
  pub pairs : bk * payload_of shape ≤ K + payload_of shape

-- all moves but the queue's
pub moves_within : (shape : ShapeNumbers) (I J K bi bj bk answer own : ℕ) → IsShape shape
    → StabBlocks shape I J K bi bj bk
    → answer * payload_of shape
    ≤ pays (payload_of shape) (3 * lev shape (blocks_of shape (I + J + K))) J (2 * I) K
    → own ≤ answer + (2 * bi + 6 * bj + 6 * bk + 10) → own ≤ own_share shape (I + J + K)
moves_within shape I J K bi bj bk answer own is b a m = own_within shape I J K answer own is (record {
  bi = bi;
  bj = bj;
  bk = bk;
  bi_most = b.intervals;
  bj_most = b.points;
  bk_most = b.pairs;
  answer_most = a;
  own_most = omega (arith, m);
})

-- the blocks of the lists while they are put in order
pub lists_within : (shape : ShapeNumbers) (I J K bi bj bk : ℕ) → IsShape shape
    → StabBlocks shape I J K bi bj bk → bi + 2 * bj + 2 * bk ≤ stab_room shape (I + J + K)
lists_within shape I J K bi bj bk is b =
    let few = by_numbers (payload_of shape) shape.block I J K (blocks_of shape (I + J + K)) bi bj bk
    (omega (arith, is.block_low)) (omega (arith, is.block_low))
    (blocks_ceil shape (I + J + K) is).holds b.intervals b.points b.pairs in
    omega (arith, few)
  where
    by_numbers : (P B I J K q bi bj bk : ℕ) → 0 < P → B ≤ 2 * P → I + J + K ≤ q * B → bi * P ≤ I + P
        → bj * P ≤ J + P → bk * P ≤ K + P → bi + 2 * bj + 2 * bk ≤ 4 * q + 5
    by_numbers P B I J K q bi bj bk some b n x y z =
        let qb : q * B ≤ q * (2 * P) = mul-le-mul_left q b in
        let t : (bi + 2 * bj + 2 * bk) * P ≤ (4 * q + 5) * P = omega (arith, x, y, z, n, qb) in
        le_of_mul-le-mul_right t some

-- The bounds of a call, at the root.
pub record RootBounds (shape : ShapeNumbers) (I J K peak extra : ℕ) : Type 0 where
  pub moves : extra * payload_of shape
      ≤ pays (payload_of shape) (3 * lev shape (blocks_of shape (I + J + K))) J (2 * I) K
  pub room : peak * payload_of shape
      ≤ holds (fan_root shape) (payload_of shape) (3 * lev shape (blocks_of shape (I + J + K))) J (2 * I)

root_bounds : (shape : ShapeNumbers) (points pieces : List Record) (J peak extra : ℕ) → IsShape shape
    → extra * payload_of shape ≤ pays (payload_of shape) (strip_levels shape J) J (ends_of points pieces)
    (length (pairs_due points pieces))
    → peak * payload_of shape
    ≤ holds (fan_root shape) (payload_of shape) (strip_levels shape J) J (ends_of points pieces)
    → RootBounds shape (length pieces) J (length (pairs_due points pieces)) peak extra
root_bounds shape points pieces J peak extra is m r =
    let I = length pieces in
    let K = length (pairs_due points pieces) in
    let l = 3 * lev shape (blocks_of shape (I + J + K)) in
    let levels = root_levels shape J (I + J + K) is (omega arith) in
    let weighs = root_weighs points pieces in
    let p = pays_rise (payload_of shape) (strip_levels shape J) l J J (ends_of points pieces) (2 * I) K K
    levels (omega arith) weighs (omega arith) in
    let h = holds_rise (fan_root shape) (payload_of shape) (strip_levels shape J) l J J
    (ends_of points pieces) (2 * I) levels (omega arith) weighs in
    record { moves = omega (arith, m, p); room = omega (arith, r, h) }

pub call_bounds : {s u : RigState} {v : Stab} {d pieces : Chain} {peak extra : ℕ} → Sound s
    → HasSorted s u v d pieces → u.pool.shape ≡ s.pool.shape → IsTrue u.device.told
    → WithinCall u d pieces peak extra → (K : ℕ) → length (due u d pieces) ≡ K
    → RootBounds s.pool.shape v.intervals.count v.stabs.count K peak extra
call_bounds {s} {u} {v} {d} {pieces} {peak} {extra} h o shape z w k e =
    let xs = chain_items u d in
    let ys = chain_items u pieces in
    let all = root_bounds s.pool.shape xs ys d.count peak extra h.shape
    (subst (λ (g : ShapeNumbers). extra * payload_of g ≤ pays (payload_of g) (strip_levels g d.count)
    d.count (ends_of xs ys) (length (pairs_due xs ys))) shape w.moves)
    (subst (λ (g : ShapeNumbers). peak * payload_of g ≤ holds (fan_root g) (payload_of g)
    (strip_levels g d.count) d.count (ends_of xs ys)) shape w.room) in
    let many = length_items u pieces o.pieces_are.is z ∙ o.pieces_count in
    subst (λ (i : ℕ). RootBounds s.pool.shape i v.stabs.count k peak extra) many
    (subst (λ (j : ℕ). RootBounds s.pool.shape (length ys) j k peak extra) o.points_count
    (subst (λ (i : ℕ). RootBounds s.pool.shape (length ys) d.count i peak extra) e all))

-- What all exits are within.
pub record StabWithin (s : RigState) (v : Stab) (cs : List Command) (peak moved calls longest : ℕ)
    : Type 0 where
  pub peak_most : peak ≤ stab_room s.pool.shape (stab_size v cs)
  pub moved_most : moved ≤ own_share s.pool.shape (stab_size v cs)
  pub calls_most : calls ≤ 2 * (v.stabs.count + length (stab_pairs cs))
  pub longest_most : longest ≤ 2 * max v.stabs.count (length (stab_pairs cs))

-- the blocks of intervals, points and K pairs
pub stab_blocks_are : {s : RigState} {v : Stab} → Sound s → IsStab s v → (K : ℕ)
    → StabBlocks s.pool.shape v.intervals.count v.stabs.count K v.intervals.blocks v.stabs.blocks
    (ceiling K (payload_in s))
stab_blocks_are {s} {v} h is k =
    let low = h.shape.block_low in
    let c = ceiling_is k (payload_in s) (omega (arith, low)) in
    let t = c.tight in
    record {
      intervals = pairs_size is.intervals;
      points = pairs_size is.stabs;
      pairs = omega (arith, t);
    }

-- as many blocks as the points fill
pub points_fill : {s : RigState} {v : Stab} → Sound s → IsStab s v
    → v.stabs.blocks ≡ ceiling v.stabs.count (payload_in s)
points_fill {s} {v} h is = writer_blocks_are s v.stabs h.shape.block_low is.stabs.writer
    ∙ ap (λ (n : ℕ). ceiling n (payload_in s)) is.stabs.filled_is

-- no call of the recursion came
none_answered : (shape : ShapeNumbers) (I J K : ℕ)
    → 0 * payload_of shape
    ≤ pays (payload_of shape) (3 * lev shape (blocks_of shape (I + J + K))) J (2 * I) K
none_answered shape I J K = omega arith

-- Before the points are put in order, or while they are,
pub within_lists : {s : RigState} {v : Stab} (cs : List Command) {p m n l : ℕ} → Sound s → IsStab s v
    → p ≤ v.intervals.blocks + 2 * v.stabs.blocks
    → m ≤ 2 * v.intervals.blocks + 6 * v.stabs.blocks + 3 → n ≤ 2 * v.stabs.count
    → l ≤ 2 * v.stabs.count → StabWithin s v cs p m n l
within_lists {s} {v} cs h is a b c d =
    let K = length (stab_pairs cs) in
    let blocks = stab_blocks_are h is K in
    let bk = ceiling K (payload_in s) in
    let lists = lists_within s.pool.shape v.intervals.count v.stabs.count K v.intervals.blocks
    v.stabs.blocks bk h.shape blocks in
    record {
      peak_most = omega (arith, a, lists);
      moved_most = moves_within s.pool.shape v.intervals.count v.stabs.count K v.intervals.blocks
          v.stabs.blocks bk 0 _ h.shape blocks
          (none_answered s.pool.shape v.intervals.count v.stabs.count K) (omega (arith, b));
      calls_most = omega (arith, c);
      longest_most = omega (arith, d);
    }

-- or where they are released with the intervals,
pub within_released : {s : RigState} {v : Stab} (cs : List Command) {p m n l : ℕ} → Sound s → IsStab s v
    → p ≤ v.intervals.blocks + v.stabs.blocks → m ≤ 4 * (v.intervals.blocks + v.stabs.blocks) + 2
    → n ≡ 0 → l ≡ 0 → StabWithin s v cs p m n l
within_released {s} {v} cs h is a b c d =
    let I = v.intervals.count in
    let J = v.stabs.count in
    let K = length (stab_pairs cs) in
    let bi = v.intervals.blocks in
    let bj = v.stabs.blocks in
    let bk = ceiling K (payload_in s) in
    let P = payload_of s.pool.shape in
    let blocks = stab_blocks_are h is K in
    let lists = lists_within s.pool.shape I J K bi bj bk h.shape blocks in
    let answer : (2 * bj + 2 * bi) * P ≤ pays P (3 * lev s.pool.shape (blocks_of s.pool.shape (I + J + K))) J
    (2 * I) K =
    leaf_pays P (3 * lev s.pool.shape (blocks_of s.pool.shape (I + J + K))) J I (2 * I) K bj bi
    (2 * bj + 2 * bi) blocks.points blocks.intervals (omega arith) (omega arith) in
    record {
      peak_most = omega (arith, a, lists);
      moved_most = moves_within s.pool.shape I J K bi bj bk (2 * bj + 2 * bi) _ h.shape blocks answer
          (omega (arith, b));
      calls_most = omega (arith, c);
      longest_most = omega (arith, d);
    }

-- while the pairs are found,
pub within_found : {s u : RigState} {v : Stab} {d pieces : Chain} (cs : List Command)
    {p m n l peak extra tried : ℕ} → Sound s → IsStab s v → HasSorted s u v d pieces
    → u.pool.shape ≡ s.pool.shape → IsTrue u.device.told → IsTrue s.device.told → HasCommands s v cs
    → WithinCall u d pieces peak extra → tried ≤ length (due u d pieces)
    → p ≤ v.intervals.blocks + 2 * v.stabs.blocks
    → m ≤ 2 * v.intervals.blocks + 6 * v.stabs.blocks + 3 → n ≤ 2 * v.stabs.count
    → l ≤ 2 * v.stabs.count
    → StabWithin s v cs (max p (peak + ceiling tried (payload_in u)))
    (m + (0 + (2 * ceiling tried (payload_in u) + extra + 1))) (n + 0) (max l 0)
within_found {s} {u} {v} {d} {pieces} cs {p} {m} {n} {l} {peak} {extra} {tried} h is o shape now z has w
    few a b c e =
    let K = length (stab_pairs cs) in
    let same = due_length o cs has z in
    let blocks = stab_blocks_are h is K in
    let bk = ceiling K (payload_in s) in
    let bounds = call_bounds h o shape now w K same in
    let low = h.shape.block_low in
    let size : ceiling tried (payload_in u) ≡ ceiling tried (payload_in s) =
    ap (λ (g : ShapeNumbers). ceiling tried (payload_of g)) shape in
    let rise = ceiling_more tried K (payload_in s) (omega (arith, low)) (omega (arith, few, same)) in
    let lists = lists_within s.pool.shape v.intervals.count v.stabs.count K v.intervals.blocks
    v.stabs.blocks bk h.shape blocks in
    let room = room_within s.pool.shape v.intervals.count v.stabs.count K bk peak h.shape blocks.pairs
    bounds.room in
    record {
      peak_most = omega (arith, a, lists, room, size, rise);
      moved_most = moves_within s.pool.shape v.intervals.count v.stabs.count K v.intervals.blocks
          v.stabs.blocks bk extra _ h.shape blocks bounds.moves (omega (arith, b, size, rise));
      calls_most = omega (arith, c);
      longest_most = omega (arith, e);
    }

-- and to the end.
pub within_pairs : {s u t : RigState} {v : Stab} {d pieces k : Chain} (cs : List Command)
    {p m n l : ℕ} → Sound s → IsStab s v → HasSorted s u v d pieces → u.pool.shape ≡ s.pool.shape
    → t.pool.shape ≡ s.pool.shape → Sound t → IsTrue u.device.told → IsTrue t.device.told
    → IsTrue s.device.told → HasCommands s v cs → (r : ReportsAll u t d pieces k)
    → p ≤ v.intervals.blocks + 2 * v.stabs.blocks
    → m ≤ 2 * v.intervals.blocks + 6 * v.stabs.blocks + 3 → n ≤ 2 * v.stabs.count
    → l ≤ 2 * v.stabs.count
    → StabWithin s v cs (max (max p (r.peak + k.blocks)) (k.blocks + ceiling k.count (payload_in t)))
    (m + (0 + (2 * k.blocks + 1 + r.extra)) + (sorting_moves t k + 0)) (n + 0 + 2 * k.count)
    (max (max l 0) (2 * k.count))
within_pairs {s} {u} {t} {v} {d} {pieces} {k} cs {p} {m} {n} {l} h is o shape last ok now then z has r
    a b c e =
    let K = length (stab_pairs cs) in
    let same = due_length o cs has z in
    let count : k.count ≡ K =
    sym (length_items t k r.is then) ∙ alike_length (r.alike now) ∙ same in
    let size : ceiling k.count (payload_in t) ≡ ceiling K (payload_in s) =
    ap (λ (g : ShapeNumbers). ceiling k.count (payload_of g)) last
    ∙ ap (λ (i : ℕ). ceiling i (payload_in s)) count in
    let full = packed_blocks t k ok.shape.block_low r.is then (r.packed now) ∙ size in
    let blocks = stab_blocks_are h is K in
    let bk = ceiling K (payload_in s) in
    let bounds = call_bounds h o shape now (r.within now) K same in
    let lists = lists_within s.pool.shape v.intervals.count v.stabs.count K v.intervals.blocks
    v.stabs.blocks bk h.shape blocks in
    let room = room_within s.pool.shape v.intervals.count v.stabs.count K bk r.peak h.shape blocks.pairs
    bounds.room in
    record {
      peak_most = omega (arith, a, lists, room, size, full);
      moved_most = moves_within s.pool.shape v.intervals.count v.stabs.count K v.intervals.blocks
          v.stabs.blocks bk r.extra _ h.shape blocks bounds.moves (omega (arith, b, size, full));
      calls_most = omega (arith, c, count);
      longest_most = omega (arith, e, count);
    }
