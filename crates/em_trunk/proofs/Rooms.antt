-- The blocks of a tree at each moment of a call: of one step, and of several.
use Rattle.std.proofs.Common.{◌≡◌, ℕ, suc, ◌+◌, ◌-◌, ◌*◌, ◌^◌, ◌<◌, ◌≤◌, ◌++◌, length, refl, sym, ap, ◌∙◌, subst, arith, length-append, IsTrue}
use Rattle.std.proofs.Math.Nat.{mul-le-mul_left, mul-le-mul_right}
use Rattle.std.specs.Prelude.{Option}
use Rattle.em_record.specs.Cost.{blocks_of, lev}
use Rattle.em_record.specs.Shape.{IsShape, ShapeNumbers, fan_of, payload_of, wide_of}
use Rattle.em_record.specs.declared.record.Record.{Record}
use Rattle.em_space.specs.Rig.{Cause, IfFull, RigState}
use Rattle.em_space.specs.declared.fault.EmFault.{EmFault}
use Rattle.em_space.specs.declared.fault.EmFault.TheVariants.{DeviceFault, Full, Damaged}
use Rattle.em_chain.specs.Counts.{ceiling}
use Rattle.em_chain.specs.Writer.{filled, writer_blocks}
use Rattle.em_chain.proofs.Counts.{writer_blocks_are}
use Rattle.em_chain.proofs.Tight.{tight_filled}
use Rattle.em_leaf.proofs.Numbers.{ceiling_add}
use Rattle.em_settle.specs.declared.step.Step.{Step}
use Rattle.em_tree_blocks.specs.Reading.{entries_at, tree_at, tree_blocks}
use Rattle.em_tree_blocks.proofs.Entries.{tree_level}
use Rattle.em_tree_cost.specs.Books.{InCall, TreeCounts, count_moves}
use Rattle.em_tree_cost.specs.Counters.{Counters, Sums}
use Rattle.em_tree_cost.specs.Outline.{IsLevel, inner_of, leaves_of, node_of}
use Rattle.em_tree_cost.specs.Shares.{levels_of, tree_room}
use Rattle.std.specs.Int.{div_ceil}
use Rattle.em_tree_cost.proofs.Ceilings.{ceil_is, blocks_ceil, ceil_mono, ceil_most, ceiling_is}
use Rattle.em_tree_cost.proofs.Heights.{root_levels}
use Rattle.em_tree_cost.proofs.Held.{held_whole}
use Rattle.em_tree_cost.proofs.Outlines.{inner_most}
use Rattle.em_tree_cost.proofs.Room.{at_rest}
use Rattle.em_tree_load.specs.Peaks.{Peaks}
use Rattle.em_tree_walk.proofs.Losses.{writer_length}
use Rattle.em_tree_outline.specs.Outline.{outline_of}
use Rattle.em_tree_outline.proofs.Outlines.{outline_level}
use Rattle.em_trunk.specs.Events.{Charges}
use Rattle.em_trunk.specs.Room.{HasCounters, KeepsIn, MayHold, StopsIn, most_held}
use Rattle.em_trunk.specs.Trunk.{IsRunning, root_of, trunk_blocks}
use Rattle.em_trunk.specs.Works.{Works}
use Rattle.em_trunk.specs.declared.trunk.Trunk.{Trunk}
use Rattle.em_trunk.proofs.HeldBlocks.{row_node}
use Rattle.em_trunk.proofs.HeldTrees.{tree_below}

-- the numbers of counters, with no move made
abbrev pub counted : Counters → TreeCounts
counted cs = record {
  n = cs.n;
  k = cs.k;
  since = cs.since;
  spent = 0;
  z = cs.z;
  y = cs.y;
  adopted = cs.adopted;
  counted = 0;
}

-- Counters are books of a call in which p moves were made, if so many are owed.
pub books_of : {shape : ShapeNumbers} {k r : ℕ} {t : Sums} (p : ℕ) → (h : HasCounters shape k r t)
    → InCall shape (count_moves p (counted h.counters)) (shape.block * p + 3 * t.root) 0 r t
books_of {shape = shape} {t = t} p h =
    let cs = h.counters in
    let left = h.fits.sums.left_most in
    record {
      books = record {
        counters = cs;
        n = refl;
        k = refl;
        since = refl;
        z = refl;
        y = refl;
        adopted = refl;
        few = h.few;
        few_adopted = h.few_adopted;
        paid = record {
          fits = h.fits;
          covers = record { covered = omega arith };
          root = h.root;
        };
      };
      taken = omega (arith, left);
      taken_since = omega arith;
      parts = h.parts;
    }

-- And such books have counters.
pub counters_of : {shape : ShapeNumbers} {c : TreeCounts} {more h r : ℕ} {t : Sums} (k : ℕ) → c.k ≡ k
    → InCall shape c more h r t → HasCounters shape k r t
counters_of k same b =
    let x = b.books in
    let F : ℕ → Type 0 = λ n. n < 2 ^ 101 in
    let G : ℕ → Type 0 = λ n. n ≤ 2 ^ 100 in
    record {
      counters = x.counters;
      k_is = x.k ∙ same;
      few = subst F (sym x.n) x.few;
      few_adopted = subst G (sym x.adopted) x.few_adopted;
      fits = x.paid.fits;
      root = x.paid.root;
      parts = b.parts;
    }

-- Counters are there after what the books are kept over.
pub counters_on : {shape : ShapeNumbers} {k p m q d r : ℕ} {t u : Sums} → Charges shape k p m q d t u
    → HasCounters shape k r t → HasCounters shape k r u
counters_on {shape = shape} {k = k} {p = p} {r = r} {t = t} a h =
    let c = counted h.counters in
    counters_of k h.k_is (a.books c (shape.block * p + 3 * t.root) 0 r h.k_is (books_of p h)).call

-- the same by another shape and number that are equal
pub counters_as : {shape : ShapeNumbers} {k r : ℕ} {t : Sums} (other : ShapeNumbers) (j : ℕ)
    → other ≡ shape → j ≡ k → HasCounters shape k r t → HasCounters other j r t
counters_as {shape = shape} {r = r} {t = t} other j e f h =
    let S : ShapeNumbers → Type 0 = λ z. HasCounters z j r t in
    let K : ℕ → Type 0 = λ n. HasCounters shape n r t in
    subst S (sym e) (subst K (sym f) h)

module _ {key : Record → Record} {step : Option Record → Record → Step}
    {IsOp IsKept : Record → Type 0} {p q d n : ℕ} {s t : RigState} {v w : Trunk}
    (a : Works key step IsOp IsKept p q d n s t v w) (told : IsTrue s.device.told) where
  -- A step leaves what it begins with.
  pub hold_works : {g r : ℕ} → MayHold g r s v → MayHold g r t w
  hold_works h =
      let gives = a.gives told in
      let few = h.answers in
      record {
        counters = counters_as t.pool.shape w.longest a.session.touches.shape a.numbers.longest
            (counters_on (a.charges told) h.counters);
        answers = omega (arith, gives, few);
      }

-- With less that is known of splits.
pub hold_any : {g r : ℕ} {s : RigState} {v : Trunk} → MayHold g r s v → MayHold g 0 s v
hold_any h =
    let c = h.counters in
    record {
      counters = record {
        counters = c.counters;
        k_is = c.k_is;
        few = c.few;
        few_adopted = c.few_adopted;
        fits = c.fits;
        root = c.root;
        parts = omega arith;
      };
      answers = h.answers;
    }

-- two frames' blocks for each frame are more than a part of a call needs
pub peak_fits : {shape : ShapeNumbers} → IsShape shape → 3 * fan_of shape + 40 ≤ 2 * shape.frames
peak_fits is = omega (arith, is.frames_low)

module _ {key : Record → Record} {IsOp IsKept : Record → Type 0} {s : RigState} {v : Trunk}
    (run : IsRunning key IsOp IsKept s v) (is : IsShape s.pool.shape) (told : IsTrue s.device.told) where
  -- the blocks of the answers
  pub answers_blocks : v.answers.blocks ≡ ceiling v.answers.count (payload_of s.pool.shape)
  answers_blocks =
      let P = payload_of s.pool.shape in
      let low = is.block_low in
      let st = run.stands told in
      let all = writer_blocks_are s v.answers low run.answers in
      let tight = tight_filled s v.answers run.answers told (record { full = st.answers_packed.is.full }) in
      let skip = st.answers_packed.is.skip_is in
      let same : filled s v.answers ≡ v.answers.count = omega (arith, tight, skip) in
      all ∙ ap (λ (x : ℕ). ceiling x P) same

  given_blocks : {n r : ℕ} → MayHold n r s v
      → v.answers.blocks ≤ ceiling n (payload_of s.pool.shape)
  given_blocks {n = n} h =
      let P = payload_of s.pool.shape in
      let low = is.block_low in
      let some : 0 < P = omega (arith, low) in
      let blocks = answers_blocks in
      let few = h.answers in
      let rises = ceil_mono (ceiling v.answers.count P) (ceiling n P) P v.answers.count n
      (ceiling_is v.answers.count P some) (ceiling_is n P some) (omega (arith, few)) in
      omega (arith, blocks, rises)

  -- What a tree holds, with two blocks for each frame beside.
  pub room_here : {n r : ℕ} → MayHold n r s v
      → length (trunk_blocks s v) + 2 * s.pool.shape.frames ≤ most_held s.pool.shape v.longest n
  room_here {n = n} {r = r} h =
      let sh = s.pool.shape in
      let P = payload_of sh in
      let st = run.stands told in
      let c = h.counters in
      let cs = c.counters in
      let L = levels_of sh cs.k in
      let some = run.numbers.level_some in
      let l = v.level - 1 in
      let up : v.level ≡ suc l = omega (arith, some) in
      let o = outline_of (root_of s v) in
      let below = tree_below s is told v.level v.root st.stored st.formed in
      let N : ℕ → Type 0 = λ j. node_of (outline_of (tree_at j s v.root)) ≡ 1 in
      let one : node_of o ≡ 1 = subst N (sym up) (row_node (tree_at l s) s (entries_at s v.root)) in
      let E : ℕ → Type 0 = IsLevel o in
      let even = subst E up (outline_level key (root_of s v) v.level _ _ st.is.2 (tree_level v.level s v.root)) in
      let inner = inner_most o l even in
      let root = root_levels is c.fits in
      let rows : suc l * leaves_of o ≤ L * leaves_of o =
      mul-le-mul_right (leaves_of o) (omega (arith, root, up)) in
      let leaves = c.fits.sums.leaves_some in
      let nodes : 1 + inner_of o ≤ L * leaves_of o = omega (arith, inner, rows, leaves) in
      let whole = held_whole P (2 * wide_of sh * sh.block) v.level v.buffer.count v.buffer.blocks below.count o
      below.held c.root in
      let most = c.fits.sums.k_most in
      let few = c.few in
      let adopted = c.few_adopted in
      let top : cs.k ≤ 2 ^ 103 = omega (arith, most, few, adopted) in
      let rest = at_rest (1 + below.count + v.buffer.blocks) (1 + inner_of o) is c.fits top whole nodes in
      let eighths : 8 * (1 + below.count + v.buffer.blocks)
      ≤ 85 * blocks_of sh v.longest + 8 * (5 + 3 * levels_of sh v.longest) = rw (c.k_is) at rest in
      let up8 = (ceil_is (85 * blocks_of sh v.longest) 8 (omega arith)).holds in
      let here : 1 + below.count + v.buffer.blocks
      ≤ div_ceil (85 * blocks_of sh v.longest) 8 + 5 + 3 * levels_of sh v.longest = omega (arith, eighths, up8) in
      let b = writer_blocks s v.buffer in
      let x = writer_blocks s v.answers in
      let t = tree_blocks v.level s v.root in
      let n1 = length-append t (b ++ x) in
      let n2 = length-append b x in
      let lb = writer_length run.buffer told in
      let lx = writer_length run.answers told in
      let all = below.all in
      let given = given_blocks h in
      omega (arith, here, n1, n2, lb, lx, all, one, given)

  -- A part of a call that needs few blocks more.
  pub keeps_by : {t : RigState} {e : ℕ} → Peaks e s t → e ≤ 2 * s.pool.shape.frames
      → (n : ℕ) → MayHold n 0 s v → KeepsIn n s t v
  keeps_by a few n h =
      let most = a.most in
      let room = room_here h in
      record { most = omega (arith, most, few, room) }

  full_by_used : {t : RigState} {e : ℕ} (n : ℕ) (fault : EmFault) → Peaks e s t
      → e + 1 ≤ 2 * s.pool.shape.frames → t.blocks ≡ s.blocks → Cause s t fault → MayHold n 0 s v
      → IfFull fault (λ _. s.blocks + length (trunk_blocks s v)
      < s.used + most_held s.pool.shape v.longest n)
  full_by_used n DeviceFault a few blocks cause h = tt
  full_by_used n (Damaged k) a few blocks cause h = tt
  full_by_used n (Full k) a few blocks cause h =
      let used = a.used in
      let all = cause.1 in
      let room = room_here h in
      omega (arith, used, all, room, few, blocks)

  -- One that gave up.
  pub stops_by_peaks : {t : RigState} {e : ℕ} {fault : EmFault} → Peaks e s t
      → e + 1 ≤ 2 * s.pool.shape.frames → t.blocks ≡ s.blocks → Cause s t fault
      → (n : ℕ) → MayHold n 0 s v → StopsIn n s t v fault
  stops_by_peaks {fault = fault} a few blocks cause n h =
      let k = keeps_by a (omega (arith, few)) n h in
      record { most = k.most; full = full_by_used n fault a few blocks cause h }

-- Nothing was done.
pub keeps_none : (n : ℕ) (s : RigState) (v : Trunk) → KeepsIn n s s v
keeps_none n s v = record { most = omega arith }

-- the same number by equal ones
held_same : {shape other : ShapeNumbers} {k j : ℕ} (n : ℕ) → other ≡ shape → j ≡ k
    → most_held other j n ≡ most_held shape k n
held_same {shape = shape} {j = j} n e f =
    ap (λ (z : ShapeNumbers). most_held z j n) e ∙ ap (λ (i : ℕ). most_held shape i n) f

full_then : (n : ℕ) (s t : RigState) (v w : Trunk) → w.longest ≡ v.longest
    → t.pool.shape ≡ s.pool.shape
    → t.used + length (trunk_blocks s v) ≡ s.used + length (trunk_blocks t w) → (fault : EmFault)
    → t.blocks ≡ s.blocks
    → IfFull fault (λ _. t.blocks + length (trunk_blocks t w)
    < t.used + most_held t.pool.shape w.longest n)
    → IfFull fault (λ _. s.blocks + length (trunk_blocks s v)
    < s.used + most_held s.pool.shape v.longest n)
full_then n s t v w longest shape loses DeviceFault blocks f = tt
full_then n s t v w longest shape loses (Damaged k) blocks f = tt
full_then n s t v w longest shape loses (Full k) blocks f =
    let same = held_same n shape longest in
    omega (arith, f, same, loses, blocks)

module _ {n : ℕ} {s t u : RigState} {v w : Trunk} (longest : w.longest ≡ v.longest)
    (shape : t.pool.shape ≡ s.pool.shape)
    (loses : t.used + length (trunk_blocks s v) ≡ s.used + length (trunk_blocks t w))
    (a : KeepsIn n s t v) where
  -- One part after another,
  pub keeps_then : KeepsIn n t u w → KeepsIn n s u v
  keeps_then b =
      let same = held_same n shape longest in
      let x = a.most in
      let y = b.most in
      record { most = omega (arith, x, y, same, loses) }

  -- or one that gave up.
  pub stops_then : {fault : EmFault} → t.blocks ≡ s.blocks → StopsIn n t u w fault → StopsIn n s u v fault
  stops_then {fault = fault} blocks b =
      let same = held_same n shape longest in
      let x = a.most in
      let y = b.most in
      record { most = omega (arith, x, y, same, loses); full = full_then n s t v w longest shape loses fault blocks b.full }

-- What a tree holds at most in a call is within its room and the blocks of c answers, if x operations wait or
-- come.
pub room_most : (shape : ShapeNumbers) (k c x : ℕ) → IsShape shape → x ≤ k
    → most_held shape k (c + x) ≤ tree_room shape k + ceiling c (payload_of shape)
room_most shape k c x is few =
    let P = payload_of shape in
    let q = blocks_of shape k in
    let low = is.block_low in
    let some : 0 < P = omega (arith, low) in
    let sum = ceiling_add c x P some in
    let whole = blocks_ceil shape k is in
    let holds = whole.holds in
    let y = div_ceil (9 * q) 8 in
    let nine = ceil_is (9 * q) 8 (omega arith) in
    let own = ceil_is (85 * q) 8 (omega arith) in
    let eighths : q * (8 * shape.block) ≤ q * (9 * P) = mul-le-mul_left q (omega (arith, low)) in
    let up : P * (9 * q) ≤ P * (y * 8) = mul-le-mul_left P nine.holds in
    let fits : x ≤ y * P = omega (arith, few, holds, eighths, up) in
    let part = ceil_most (ceiling x P) P x y (ceiling_is x P some) fits in
    let v = lev shape q in
    let m : 64 * v ≤ shape.frames * v = mul-le-mul_right v is.frames_low in
    omega (arith, sum, part, m, nine.tight, own.tight)
