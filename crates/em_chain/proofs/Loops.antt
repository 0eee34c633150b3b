-- What loops cost: records that are written, appended to a list, or read.
use Rattle.std.proofs.Common.{◌≡◌, ℕ, ◌+◌, ◌*◌, ◌/◌, ◌<◌, ◌≤◌, List, [], length, refl, sym, ap, ◌∙◌, arith, IsTrue, true, false, Ok}
use Rattle.em_record.specs.Shape.{ShapeNumbers}
use Rattle.em_record.specs.declared.record.Record.{Record}
use Rattle.em_space.specs.Ledger.{Spends, Halts}
use Rattle.em_space.specs.Rig.{RigState, Goes}
use Rattle.em_space.specs.declared.fault.EmFault.{EmFault}
use Rattle.em_space.proofs.Paying.{pays_kept}
use Rattle.em_chain.specs.Chain.{IsTight, payload_in}
use Rattle.em_chain.specs.Counts.{ceiling}
use Rattle.em_chain.specs.Effects.{LendsFrame, Unmoved, OnlyMoves}
use Rattle.em_chain.specs.Reader.{reader_blocks, owed}
use Rattle.em_chain.specs.Reads.{Opens, ReadCosts}
use Rattle.em_chain.specs.Session.{Took, Writes, writer_account, taking_account, over_account, one_more}
use Rattle.em_chain.specs.Writer.{writer_blocks, filled}
use Rattle.em_chain.specs.Writes.{Begins, Finishes, Resumes}
use Rattle.em_chain.specs.declared.chain.Chain.{Chain}
use Rattle.em_chain.specs.declared.reader.Reader.{Reader}
use Rattle.em_chain.specs.declared.writer.Writer.{Writer}
use Rattle.em_chain.proofs.Counts.{ceiling_sum, filled_most, writer_blocks_are}
use Rattle.em_chain.proofs.Keeps.{payload_kept}
use Rattle.em_chain.proofs.Tight.{part_blocks, part_cost}

-- how many blocks a list needs that has as many records more as were written and some
places_after : {s t : RigState} {w v : Writer} {xs : List Record} (n : ℕ) → Writes s t w v xs
    → ceiling (filled t v + n) (payload_in t) ≡ ceiling (filled s w + (length xs + n)) (payload_in s)
places_after {s} {t} {w} {v} {xs} n h =
    let e : filled t v + n ≡ filled s w + (length xs + n) = omega (arith, h.wrote.filled_is) in
    rw (e, payload_kept (writer_blocks s w) s t h.runs.session.touches) refl

blocks_after : {s t : RigState} {w v : Writer} {xs : List Record} → Writes s t w v xs
    → v.blocks ≡ ceiling (filled s w + length xs) (payload_in s)
blocks_after {s} {t} {w} {v} {xs} h =
    let e = writer_blocks_are t v h.runs.session.sound.shape.block_low h.wrote.is in
    let f = rw (h.wrote.filled_is, payload_kept (writer_blocks s w) s t h.runs.session.touches) at e in
    f

-- how many blocks records take that are written from the start
pub writing_blocks : {s a t : RigState} {w v : Writer} {xs : List Record} → LendsFrame s a
    → Begins a w → Writes a t w v xs → v.blocks ≡ ceiling (length xs) (payload_in s)
writing_blocks {s = s} {a = a} {w = w} {xs = xs} l b h =
    let e : filled a w + length xs ≡ length xs = omega (arith, b.filled_is) in
    rw (e, payload_kept [] s a l.touches) at (blocks_after h)

-- Records are written from the start, and the writer is finished.
pub writing_cost : {s a t : RigState} {w v : Writer} {xs : List Record} (u : RigState) → LendsFrame s a
    → Unmoved s a → Begins a w → (h : Writes a t w v xs) → u.moves ≤ t.moves + 1
    → u.moves ≤ s.moves + 2 * ceiling (length xs) (payload_in s) + 1 + h.extra
writing_cost u l m b h k =
    omega (arith, writing_blocks l b h, h.runs.spends.moves, m.moves, b.blocks)

-- Then they are read, as their blocks are released.
pub round_moves : {s a t u o d : RigState} {w v : Writer} {c : Chain} {xs : List Record} {p : ℕ}
    (r q : Reader) → LendsFrame s a → Unmoved s a → Begins a w
    → (h : Writes a t w v xs) → u.moves ≤ t.moves + 1 → Finishes t u v c → Unmoved u o
    → Opens u o c true r → Spends p (taking_account r) (taking_account q) o d
    → d.moves ≤ s.moves + 4 * (ceiling (length xs) (payload_in s) + 1) + h.extra
round_moves {u = u} r q l m b h k f n o g =
    omega (
      arith,
      writing_cost u l m b h k,
      writing_blocks l b h,
      f.blocks_is,
      n.moves,
      o.owed_is,
      g.moves,
    )

-- how many blocks a list needs that goes on with some records more
pub extending_blocks : {s a : RigState} {c : Chain} {w : Writer} (n : ℕ) → 128 ≤ s.pool.shape.block
    → LendsFrame s a → Resumes s a c w
    → ceiling (filled a w + n) (payload_in a) ≤ c.blocks + ceiling n (payload_in s)
extending_blocks {s} {a} {c} {w} n low l r =
    let pa : payload_in a ≡ payload_in s = payload_kept [] s a l.touches in
    let e = ceiling_sum (payload_in a) w.blocks (filled a w) n
    (rw pa (omega arith)) (filled_most a w r.is) in
    let f = rw pa at e in
    rw (pa, sym r.blocks_is) f

-- A list is resumed, records are appended, and it is finished.
pub extending_cost : {s a t : RigState} {c : Chain} {w v : Writer} {xs : List Record} (u : RigState)
    → 128 ≤ s.pool.shape.block → LendsFrame s a → OnlyMoves 1 s a → Resumes s a c w
    → (h : Writes a t w v xs) → u.moves ≤ t.moves + 1
    → u.moves ≤ s.moves + (2 + 2 * ceiling (length xs) (payload_in s)) + h.extra
extending_cost {xs = xs} u low l m r h k =
    omega (
      arith,
      extending_blocks (length xs) low l r,
      blocks_after h,
      r.blocks_is,
      m.moves,
      h.runs.spends.moves,
    )

-- The same if the append of one record more gave up.
pub refused_cost : {s a t u : RigState} {c : Chain} {w v : Writer} {xs : List Record} {p f : ℕ}
    {e : EmFault} → 128 ≤ s.pool.shape.block → LendsFrame s a → OnlyMoves 1 s a → Resumes s a c w
    → (h : Writes a t w v xs) → Halts p (2 * one_more t v) f (writer_account v) t u e
    → u.moves ≤ s.moves + (2 + 2 * ceiling (length xs + 1) (payload_in s)) + h.extra
refused_cost {xs = xs} low l m r h k =
    omega (
      arith,
      extending_blocks (length xs + 1) low l r,
      places_after 1 h,
      r.blocks_is,
      m.moves,
      h.runs.spends.moves,
      k.moves,
    )

-- Reading by taking makes two moves a block at most,
pub taking_cost : {s a t : RigState} {c : Chain} {p : ℕ} (r q : Reader) → Unmoved s a
    → Opens s a c true r → Spends p (taking_account r) (taking_account q) a t
    → t.moves + owed q ≤ s.moves + 2 * c.blocks
taking_cost r q m o g = omega (arith, m.moves, o.owed_is, g.moves)

-- and reading over a list one.
pub over_cost : {s a t : RigState} {c : Chain} {p : ℕ} (r q : Reader) → Unmoved s a
    → Opens s a c false r → Spends p (over_account r) (over_account q) a t
    → t.moves + owed q ≤ s.moves + c.blocks
over_cost r q m o g = omega (arith, m.moves, o.owed_is, g.moves)

-- A call on a reader over a list spends what it says today.
pub over_spends : {T : Type 0} {s t : RigState} {r q : Reader} (y : T) → r.taking ≡ false
    → Goes (reader_blocks s r) s t → ReadCosts s t r q (Ok y)
    → Spends 0 (over_account r) (over_account q) s t
over_spends y e g k = record {
  held = omega arith;
  used = omega (arith, k.used_over e);
  most = omega (arith, k.most);
  moves = omega (arith, k.moves);
  later = g.touches.moves;
  pays = pays_kept 0 (omega (arith, k.used_over e)) g.touches.moves;
}

-- What is left of a tight list if records of it were read by taking and some are left: its blocks,
-- and the moves that it took.
pub part_left : {s a t : RigState} {c : Chain} {r q : Reader} {xs : List Record} {p : ℕ}
    → 128 ≤ s.pool.shape.block → LendsFrame s a → Unmoved s a → Opens s a c true r
    → Took a t r q xs → Spends p (taking_account r) (taking_account q) a t
    → IsTrue s.device.told → IsTight s c → c.skip < payload_in s → 0 < q.count
    → (q.blocks + (c.skip + length xs) / payload_in s ≡ c.blocks)
    × (t.moves ≤ s.moves + 2 * ceiling (length xs) (payload_in s) + 1)
part_left {s} {a} {t} {c} {r} {q} {xs} low l m o k g z tight fits some =
    let pa : payload_in a ≡ payload_in s = payload_kept [] s a l.touches in
    let low2 : 128 ≤ a.pool.shape.block = rw (ap (λ (n : ShapeNumbers). n.block) l.touches.shape) low in
    let za : IsTrue a.device.told = l.touches.told ∙ z in
    let ta = o.tight z tight in
    let skip = ap (λ (d : Chain). d.skip) o.words in
    let blocks = ap (λ (d : Chain). d.blocks) o.words in
    let f : r.skip < payload_in a = rw (pa, skip) fits in
    let left = part_blocks xs low2 k za ta f some in
    let cost = part_cost xs low2 k za ta f some o.taking_is (omega (arith, g.moves)) in
    let moves : t.moves ≤ s.moves + 2 * ceiling (length xs) (payload_in a) + 1 =
    omega (arith, cost, m.moves) in
    (rw (pa, skip, blocks) at left, rw pa at moves)
