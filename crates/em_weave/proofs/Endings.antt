-- A weave is ended: its frames come back one after the other, and its lists stay.
use Rattle.std.proofs.Common.{◌≡◌, ℕ, ◌+◌, List, ◌++◌, [], refl, ap, sym, ◌∙◌, arith, length, IsTrue, Result, Ok, Err, IfErr}
use Rattle.em_record.specs.Shape.{ShapeNumbers}
use Rattle.em_frames.specs.Pool.{GivenFrames, HasFrames, LentFrames, PoolCounts, SameFrames, singles_of}
use Rattle.em_space.specs.Ledger.{Session}
use Rattle.em_space.specs.Rig.{RigState, Touches, Goes, BlockCause}
use Rattle.em_space.specs.declared.fault.EmFault.{EmFault}
use Rattle.em_space.proofs.Held.{apart_none}
use Rattle.em_space.proofs.Ledgers.{full_never}
use Rattle.em_space.proofs.Paying.{pays_kept}
use Rattle.em_space.proofs.Within.{touches_within, within_kept, within_none, within_same}
use Rattle.em_chain.specs.Chain.{ChainStays, chain_blocks}
use Rattle.em_chain.specs.Effects.{GivesFrame, Unmoved}
use Rattle.em_chain.specs.Reader.{IsReader, rest_of}
use Rattle.em_chain.specs.Row.{Frees}
use Rattle.em_chain.specs.declared.chain.Chain.{Chain}
use Rattle.em_chain.specs.declared.reader.Reader.{Reader}
use Rattle.em_chain.proofs.Keeps.{touches_none}
use Rattle.em_chain.proofs.Laws.{chain_stays}
use Rattle.em_chain.proofs.Readers.{reader_stays}
use Rattle.em_chain.proofs.Sessions.{owed_least}
use Rattle.em_weave.specs.Effects.{GivesTwo}
use Rattle.em_weave.specs.Peek.{IsPeek}
use Rattle.em_weave.specs.State.{IsWeave, weave_blocks}
use Rattle.em_weave.specs.Weaves.{EndCosts, GivesChains}
use Rattle.em_weave.specs.declared.peek.PeekReader.{PeekReader}
use Rattle.em_weave.specs.declared.weave.Weave.{Weave}

-- one of two frames is still out
frame_left : (len : ℕ) (p q : PoolCounts) → HasFrames 2 len p → GivenFrames 1 p q
    → HasFrames 1 len q
frame_left len p q h g = record {
  len_is = h.len_is ∙ ap (λ (n : ShapeNumbers). n.block) (sym g.shape);
  out =
      let singles = ap singles_of g.shape in let free = g.free in let out = h.out in
      omega (arith, singles, free, out);
}

-- The second reader stays where the first one's frame came back,
pub reader_given : {s t : RigState} (p : PeekReader) (r : Reader) → r ≡ p.reader → IsPeek s p
    → HasFrames 2 (length p.reader.frame) s.pool → GivesFrame [] s t → IsReader t r
reader_given {s} {t} p r e i f g = rw e (reader_stays [] s t p.reader g.touches
    (λ _. apart_none (chain_blocks s (rest_of p.reader)))
    (frame_left (length p.reader.frame) s.pool t.pool f g.frames) i.is).is

-- and a chain of it where both frames did.
pub chain_given : {s t : RigState} (p : PeekReader) (r : Reader) (c : Chain) → c ≡ rest_of r
    → r ≡ p.reader → IsPeek s p → Touches [] s t → (c ≡ rest_of p.reader) × ChainStays s t c
chain_given {s} {t} p r c d e i h =
    let same : c ≡ rest_of p.reader = d ∙ ap (λ (x : Reader). rest_of x) e in (
      same,
      rw same (chain_stays [] s t (rest_of p.reader) h
          (λ _. apart_none (chain_blocks s (rest_of p.reader))) (i.is.closed i.taking)),
    )

-- The lists were discarded after that: what that leaves,
pub gives_discarded : {s t u : RigState} {w : Weave} {left right : Chain} → GivesTwo [] s t
    → GivesChains s t w left right → Goes (chain_blocks t left ++ chain_blocks t right) t u
    → GivesTwo (weave_blocks s w) s u
gives_discarded {s} {t} {u} {w} {left} {right} g p h =
    let ks = weave_blocks s w in
    let js = chain_blocks t left ++ chain_blocks t right in
    let same = λ (z : IsTrue s.device.told).
    let d : js ≡ chain_blocks s left ++ chain_blocks s right =
    rw (p.left_stays.blocks z, p.right_stays.blocks z) refl in
    let e : js ≡ ks = d ∙ rw (p.left_is, p.right_is) refl in e in
    record {
      sound = h.sound;
      touches = touches_within s t u ks js (touches_none ks s t g.touches)
          (within_kept s ks ks js (within_same s ks) same) h.touches;
      frames = record {
        shape = h.frames.shape ∙ g.frames.shape;
        free = omega (arith, h.frames.free, g.frames.free);
        rack = h.frames.rack ∙ g.frames.rack;
        free_areas = h.frames.free_areas ∙ g.frames.free_areas;
        peak = omega (arith, h.frames.peak, g.frames.peak);
      };
    }

-- and what it costs.
pub costs_discarded : {s t u : RigState} {w : Weave} {left right : Chain}
    (result : Result (Unit {0}) EmFault) → IsWeave s w → Unmoved s t → GivesChains s t w left right
    → Touches (chain_blocks t left ++ chain_blocks t right) t u
    → Frees (left.blocks + right.blocks) t u result → IfErr result (BlockCause t u)
    → EndCosts s u w result
costs_discarded {s} {t} {u} {w} (Ok done) i y p g f c =
    let l = ap (λ (z : Chain). z.blocks) p.left_is in
    let r = ap (λ (z : Chain). z.blocks) p.right_is in
    let a = owed_least w.left.reader i.left.taking in
    let b = owed_least w.right.reader i.right.taking in
    let m = y.moves in
    let n = g.moves in
    record {
      held = omega arith;
      used = omega (arith, f.used, y.same.used, l, r);
      most = omega (arith, f.most, y.same.most);
      moves = omega (arith, f.moves, m, l, r, a, b);
      later = omega (arith, m, n);
      pays = pays_kept 0 (omega (arith, f.used_most, y.same.used)) (omega (arith, m, n));
    }
costs_discarded {s} {t} {u} {w} (Err fault) i y p g f c =
    let l = ap (λ (z : Chain). z.blocks) p.left_is in
    let r = ap (λ (z : Chain). z.blocks) p.right_is in
    let a = owed_least w.left.reader i.left.taking in
    let b = owed_least w.right.reader i.right.taking in
    let m = y.moves in
    let n = g.moves in
    record {
      used = omega (arith, f.used_most, y.same.used);
      full = full_never t u fault _ c;
      most = omega (arith, f.most, y.same.most);
      moves = omega (arith, f.moves, m, l, r, a, b);
      later = omega (arith, m, n);
      pays = pays_kept 0 (omega (arith, f.used_most, y.same.used)) (omega (arith, m, n));
    }

-- What the end of a weave is beside other values: it holds no block any more,
pub ends_session : {ks : List ℕ} {s t : RigState} → GivesTwo ks s t → Session ks s t []
ends_session {ks} {s} {t} g = record {
  sound = g.sound;
  touches = g.touches;
  within = within_none s ks [] (λ z. refl);
  holds = λ z. record { in_use = tt; distinct = λ y. tt };
}

-- and the two frames that were lent at its beginning are back.
pub two_back : {p q r o : PoolCounts} → LentFrames 2 p q → SameFrames q r → GivenFrames 2 r o
    → SameFrames p o
two_back l h g = record {
  shape = g.shape ∙ h.shape ∙ l.shape;
  free = omega (arith, g.free, h.free, l.free);
  rack = g.rack ∙ h.rack ∙ l.rack;
  free_areas = g.free_areas ∙ h.free_areas ∙ l.free_areas;
  peak = omega (arith, g.peak, h.peak, l.peak);
}
