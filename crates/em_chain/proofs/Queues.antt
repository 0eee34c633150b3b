-- Chains, readers and writers beside a queue.
use Rattle.std.proofs.Common.{◌≡◌, ℕ, ◌+◌, ◌≤◌, List, length, ap, sym, ◌∙◌, arith, IsTrue}
use Rattle.em_record.specs.Shape.{ShapeNumbers}
use Rattle.em_frames.specs.Pool.{HasFrames, PoolCounts, singles_of}
use Rattle.em_space.specs.Held.{AllInUse, Apart, Within}
use Rattle.em_space.specs.Queue.{QueueCounts, Serves, Shares}
use Rattle.em_space.specs.Rig.{RigState}
use Rattle.em_space.proofs.Within.{within_apart}
use Rattle.em_space.proofs.Lists.{apart_sym}
use Rattle.em_chain.specs.Chain.{ChainStays, IsChain, chain_blocks}
use Rattle.em_chain.specs.Reader.{IsReader, ReaderStays, rest_of}
use Rattle.em_chain.specs.Within.{Grows}
use Rattle.em_chain.specs.Writer.{IsWriter, WriterStays, writer_blocks}
use Rattle.em_chain.specs.declared.chain.Chain.{Chain}
use Rattle.em_chain.specs.declared.reader.Reader.{Reader}
use Rattle.em_chain.specs.declared.writer.Writer.{Writer}
use Rattle.em_chain.proofs.Laws.{chain_stays, writer_stays}
use Rattle.em_chain.proofs.Readers.{reader_stays}
use Rattle.em_chain.proofs.Withins.{within_grows}

-- Frames are out after a call of a queue that holds as many frames as before it,
pub frame_beside : (n len : ℕ) (c d : QueueCounts) (p q : PoolCounts) → HasFrames n len p
    → Shares c d p q → d.frames ≡ c.frames → HasFrames n len q
frame_beside n len c d p q h x same = record {
  len_is = h.len_is ∙ ap (λ (s : ShapeNumbers). s.block) (sym x.shape);
  out =
      let shape = ap singles_of x.shape in let free = x.free in let out = h.out in
      omega (arith, shape, free, out, same);
}

-- and after any call of a queue whose frames were out beside them.
pub frame_left : (n len : ℕ) (c d : QueueCounts) (p q : PoolCounts) → HasFrames n len p
    → Shares c d p q → p.free + c.frames + n ≤ singles_of p.shape → HasFrames n len q
frame_left n len c d p q h x out = record {
  len_is = h.len_is ∙ ap (λ (s : ShapeNumbers). s.block) (sym x.shape);
  out = let shape = ap singles_of x.shape in let free = x.free in omega (arith, shape, free, out);
}

-- A chain stays as it is over any call of a queue,
pub chain_beside : (s t : RigState) (c : Chain) (ks : List ℕ) (x y : QueueCounts) → IsChain s c
    → Serves ks x y s t → (IsTrue s.device.told → Apart ks (chain_blocks s c)) → ChainStays s t c
chain_beside s t c ks x y i v a =
    chain_stays ks s t c v.touches (λ z. apart_sym ks (chain_blocks s c) (a z)) i

-- a reader and a writer over one after which it holds as many frames as before.
pub reader_beside : (s t : RigState) (r : Reader) (ks : List ℕ) (x y : QueueCounts) → IsReader s r
    → Serves ks x y s t → y.frames ≡ x.frames
    → (IsTrue s.device.told → Apart ks (chain_blocks s (rest_of r))) → ReaderStays s t r
reader_beside s t r ks x y i v same a =
    reader_stays ks s t r v.touches (λ z. apart_sym ks (chain_blocks s (rest_of r)) (a z))
    (frame_beside 1 (length r.frame) x y s.pool t.pool i.frame v.frames same) i

pub writer_beside : (s t : RigState) (w : Writer) (ks : List ℕ) (x y : QueueCounts) → IsWriter s w
    → Serves ks x y s t → y.frames ≡ x.frames
    → (IsTrue s.device.told → Apart ks (writer_blocks s w)) → WriterStays s t w
writer_beside s t w ks x y i v same a =
    writer_stays ks s t w v.touches (λ z. apart_sym ks (writer_blocks s w) (a z))
    (frame_beside 1 (length w.frame) x y s.pool t.pool i.frame v.frames same) i

-- After a call the queue's blocks are none of those that others held,
pub apart_beside : (s : RigState) (ks js ls : List ℕ) → IsTrue s.device.told → Within s ks js
    → AllInUse s ls → Apart ks ls → Apart js ls
apart_beside s ks js ls z w i a =
    apart_sym ls js (within_apart s ks js ls z w i (apart_sym ks ls a))

-- nor of those that a list has grown by.
pub apart_grown : (s : RigState) (js ls ms : List ℕ) → IsTrue s.device.told → AllInUse s js
    → Apart js ls → Grows s ls ms → Apart js ms
apart_grown s js ls ms z i a g =
    within_apart s ls ms js z (within_grows s ls ms (λ _. g)) i a
