-- Two leaves' chains that were joined, before what results is written anew.
use Rattle.std.proofs.Common.{◌≡◌, ℕ, ◌+◌, ◌-◌, ◌*◌, ◌<◌, ◌≤◌, List, ◌++◌, length, refl, sym, ap, ◌∙◌, arith, subst, IsTrue, ⊎_elim, Result, Ok, Err, IsErrAnd}
use Rattle.std.specs.Prelude.{IfErr, IfOk}
use Rattle.em_record.specs.Shape.{ShapeNumbers, wide_of}
use Rattle.em_record.specs.declared.record.Record.{Record}
use Rattle.em_frames.specs.Pool.{load_of}
use Rattle.em_space.specs.Free.{Off}
use Rattle.em_space.specs.Ledger.{Session}
use Rattle.em_space.specs.Rig.{RigState, BlockCause, Goes, Sound}
use Rattle.em_space.specs.declared.fault.EmFault.{EmFault}
use Rattle.em_space.specs.declared.fault.EmFault.TheVariants.{DeviceFault, Full, Damaged}
use Rattle.em_space.proofs.Ledgers.{full_by, full_never}
use Rattle.em_space.proofs.Paying.{pays_kept, pays_more, pays_then}
use Rattle.em_space.proofs.Sessions.{session_trans}
use Rattle.em_space.proofs.Steps.{block_cause, both_told, cause_after, same_frames_then, touches_trans}
use Rattle.em_chain.specs.Chain.{chain_blocks, chain_items, payload_in}
use Rattle.em_chain.specs.Counts.{ceiling}
use Rattle.em_chain.specs.Effects.{Completes, OnlyMoves}
use Rattle.em_chain.specs.Joins.{Joins}
use Rattle.em_chain.specs.declared.chain.Chain.{Chain}
use Rattle.em_chain.proofs.Counts.{ceiling_more, ceiling_sum, packed_blocks}
use Rattle.em_settle.specs.Rising.{RisesByKey}
use Rattle.em_leaf.specs.Fusing.{CanFuse, CanRewrite, FewMoves, FillsParts, LacksParts, RunsFuse, RunsRewrite, fusing_blocks, fusing_room}
use Rattle.em_leaf.specs.Leaf.{leaf_most, low_count}
use Rattle.em_leaf.specs.Needs.{parts_blocks}
use Rattle.em_leaf.specs.declared.change.LeafChange.{LeafChange}
use Rattle.em_leaf.proofs.Numbers.{ceiling_few}

-- A chain of both lists, which has no more records than two leaves, of which one is short.
pub can_rewrite : {key : Record → Record} {s l : RigState} {f g c : Chain} → CanFuse key s f g
    → Goes (fusing_blocks s f g) s l → Joins s l f g c → CanRewrite key l c
can_rewrite {key} {s} {l} {f} {g} {c} can goes j =
    let back = λ (z : IsTrue l.device.told). sym goes.touches.told ∙ z in
    let P : List Record → Type 0 = RisesByKey key in
    let e = ap (λ (sh : ShapeNumbers). leaf_most sh + load_of sh) goes.touches.shape in
    let a = can.low_most in
    let b = can.high_most in
    let n = j.count_most in
    record {
      chain = j.is;
      most = ⊎_elim (λ (m : f.count < load_of s.pool.shape). omega arith)
          (λ (m : g.count < load_of s.pool.shape). omega arith) can.short;
      rises = λ z. subst P (sym (j.items (back z))) (can.lists (back z)).rises;
    }

joined : {s l : RigState} {f g c : Chain} → Goes (fusing_blocks s f g) s l → Joins s l f g c
    → Session (fusing_blocks s f g) s l (chain_blocks l c)
joined {s} {l} {f} {g} {c} goes j = record {
  sound = goes.sound;
  touches = goes.touches;
  within = record {
    off = λ z k i o. let P : List ℕ → Type 0 = Off k in subst P (sym (j.blocks z)) o;
  };
  holds = λ z. (j.is.told (goes.touches.told ∙ z)).holds;
}

pub fuse_runs : {s l : RigState} (t : RigState) (m : ℕ) {f g c : Chain} (result : Result LeafChange EmFault)
    → Goes (fusing_blocks s f g) s l → OnlyMoves m s l → m ≤ 4 → Joins s l f g c
    → RunsRewrite l t c result → RunsFuse s t f g result
fuse_runs {s} {l} t m {f} {g} {c} (Ok change) goes o few j h =
    let b = j.blocks_is in
    let k = h.spends in
    let u = o.same.used in
    let v = o.same.most in
    let x = o.moves in
    let y = goes.touches.moves in
    record {
      session = session_trans (joined goes j) h.session;
      frames = same_frames_then s.pool l.pool t.pool goes.frames h.frames;
      spends = record {
        held = omega (arith, k.held);
        used = omega (arith, k.used);
        most = omega (arith, k.most);
        moves = omega (arith, k.moves);
        later = omega (arith, k.later);
        pays = pays_then (pays_kept 0 (omega arith) (omega arith)) k.pays k.later;
      };
    }
fuse_runs {s} {l} t m {f} {g} {c} (Err e) goes o few j h =
    let b = j.blocks_is in
    let k = h.halts in
    let u = o.same.used in
    let v = o.same.most in
    let x = o.moves in
    let y = goes.touches.moves in
    let js = joined goes j in
    record {
      goes = record {
        sound = h.goes.sound;
        touches = touches_trans (fusing_blocks s f g) (chain_blocks l c) s l t goes.touches h.goes.touches
            (λ z i q n. js.within.off z i q n);
        frames = same_frames_then s.pool l.pool t.pool goes.frames h.goes.frames;
      };
      halts = record {
        used = omega (arith, k.used);
        full = full_by e (t.used + c.blocks < l.used + (c.blocks + fusing_room))
            (t.used + (f.blocks + g.blocks) < s.used + (f.blocks + g.blocks + fusing_room))
            (λ n. omega arith) k.full;
        most = omega (arith, k.most);
        moves = omega (arith, k.moves);
        later = omega (arith, k.later);
        pays = pays_then (pays_kept 0 (omega arith) (omega arith)) k.pays k.later;
      };
      cause = cause_after (fusing_blocks s f g) s l t e goes.touches h.cause;
    }

-- The chains couldn't be joined.
pub join_stops : {s l : RigState} (m : ℕ) (f g : Chain) (e : EmFault) → Goes (fusing_blocks s f g) s l
    → OnlyMoves m s l → m ≤ 4 → BlockCause s l e → RunsFuse s l f g (Err e)
join_stops {s} {l} m f g e goes o few cause =
    let u = o.same.used in
    let v = o.same.most in
    let x = o.moves in
    let y = goes.touches.moves in
    record {
      goes = goes;
      halts = record {
        used = omega arith;
        full = full_never s l e (l.used + (f.blocks + g.blocks) < s.used + (f.blocks + g.blocks + fusing_room))
            cause;
        most = omega arith;
        moves = omega arith;
        later = omega arith;
        pays = pays_more (pays_kept 0 (omega arith) (omega arith)) (omega arith);
      };
      cause = block_cause s l e cause;
    }

-- what a refusal left
pub fuses_of : (s t : RigState) (f g : Chain) (result : Result LeafChange EmFault) (e : EmFault)
    → IsErrAnd result (λ m. m ≡ e) → RunsFuse s t f g (Err e) → RunsFuse s t f g result
fuses_of s t f g (Ok x) e h k = absurd h
fuses_of s t f g (Err m) e h k =
    subst (λ (n : EmFault). RunsFuse s t f g (Err n)) (sym h) k

-- The blocks of a leaf's packed chain, and of a short one.
most_ceiling : (n b p : ℕ) → 0 < p → n ≤ p * b → ceiling n p ≤ b
most_ceiling n b p pos h =
    let a = ceiling_more n (p * b) p pos h in
    let c = ceiling_sum p b (p * b) 0 pos (omega arith) in
    let d = ceiling_few 0 p pos in
    let e = ap (λ k. ceiling k p) (let z : p * b + 0 ≡ p * b = omega arith in z) in
    omega arith

leaf_ceiling : (n w p : ℕ) → 0 < p → 4 * w ≤ p → n ≤ 4 * (w * (p + 1)) → ceiling n p ≤ 4 * w + 1
leaf_ceiling n w p pos h k =
    let a : w * (p + 1) ≡ w * p + w = grind arith in
    let b : p * (4 * w + 1) ≡ 4 * (w * p) + p = grind arith in
    most_ceiling n (4 * w + 1) p pos (omega arith)

short_ceiling : (n w p : ℕ) → 0 < p → 4 * w ≤ p → n < w * (p + 1) → ceiling n p ≤ w + 1
short_ceiling n w p pos h k =
    let a : w * (p + 1) ≡ w * p + w = grind arith in
    let b : p * (w + 1) ≡ w * p + p = grind arith in
    most_ceiling n (w + 1) p pos (omega arith)

-- So a fusing makes at most 24·w moves.
few_blocks : {key : Record → Record} {s : RigState} {f g : Chain} → Sound s → CanFuse key s f g
    → IsTrue s.device.told → 4 * (f.blocks + g.blocks) + 16 ≤ 24 * wide_of s.pool.shape
few_blocks {key} {s} {f} {g} so can z =
    let sh = s.pool.shape in
    let is = so.shape in
    let low = is.block_low in
    let wide : 8 ≤ wide_of sh = let l = is.frames_low in omega arith in
    let narrow : 4 * wide_of sh ≤ payload_in s = let h = is.frames_high in omega arith in
    let p : payload_in s + 1 ≡ sh.block = omega arith in
    let pos : 0 < payload_in s = omega arith in
    let load : wide_of sh * (payload_in s + 1) ≡ load_of sh = ap (λ b. wide_of sh * b) p in
    let l = can.lists z in
    let a = packed_blocks s f low can.low_chain z l.low_packed in
    let b = packed_blocks s g low can.high_chain z l.high_packed in
    let c = leaf_ceiling f.count (wide_of sh) (payload_in s) pos narrow (let m = can.low_most in omega arith) in
    let d = leaf_ceiling g.count (wide_of sh) (payload_in s) pos narrow (let m = can.high_most in omega arith) in
    ⊎_elim (λ (m : f.count < load_of sh).
    let e = short_ceiling f.count (wide_of sh) (payload_in s) pos narrow (omega arith) in
    omega (arith, a, b, d, e, wide))
    (λ (m : g.count < load_of sh).
    let e = short_ceiling g.count (wide_of sh) (payload_in s) pos narrow (omega arith) in
    omega (arith, a, b, c, e, wide)) can.short

pub few_moves : {key : Record → Record} {s : RigState} (t : RigState) {f g : Chain}
    (result : Result LeafChange EmFault) → Sound s → CanFuse key s f g → RunsFuse s t f g result
    → FewMoves s t
few_moves t (Ok x) so can h = λ z. let k = few_blocks so can z in let m = h.spends.moves in omega arith
few_moves t (Err e) so can h = λ z. let k = few_blocks so can z in let m = h.halts.moves in omega arith

-- It goes well if three blocks are free.
pub fuse_completes : (s t : RigState) (f g : Chain) (result : Result LeafChange EmFault)
    → RunsFuse s t f g result → s.used + fusing_room ≤ s.blocks → Completes s t result
fuse_completes s t f g (Ok x) h l = λ z r. refl
fuse_completes s t f g (Err DeviceFault) h l = λ z r. absurd (r h.cause)
fuse_completes s t a b (Err (Full k)) h l = λ z r.
    let f = h.halts.full in
    let n = h.goes.touches.blocks in
    let u = h.cause.1 in
    absurd (omega arith)
fuse_completes s t f g (Err (Damaged k)) h l = λ z r.
    absurd (both_told t.device.told (h.goes.touches.told ∙ z) h.cause.0)

-- What the joined chain's records come to is what both lists' records come to.
pub fuse_parts : (key : Record → Record) {s l : RigState} (t : RigState) {f g c : Chain}
    (result : Result LeafChange EmFault) → Goes (fusing_blocks s f g) s l → Joins s l f g c
    → IfOk result (λ change. IsTrue l.device.told → FillsParts key t (chain_items l c) change)
    → IfOk result (λ change. IsTrue s.device.told
    → FillsParts key t (chain_items s f ++ chain_items s g) change)
fuse_parts key t (Err e) goes j h = tt
fuse_parts key t (Ok change) goes j h = λ z.
    let P : List Record → Type 0 = λ zs. FillsParts key t zs change in
    subst P (j.items z) (h (goes.touches.told ∙ z))

pub fuse_needs : {s l : RigState} (m : ℕ) {f g c : Chain} (result : Result LeafChange EmFault)
    → Goes (fusing_blocks s f g) s l → OnlyMoves m s l → Joins s l f g c
    → IfErr result (LacksParts l (chain_items l c))
    → IfErr result (LacksParts s (chain_items s f ++ chain_items s g))
fuse_needs m (Ok x) goes o j h = tt
fuse_needs m (Err DeviceFault) goes o j h = tt
fuse_needs m (Err (Damaged k)) goes o j h = tt
fuse_needs {s} {l} m {f} {g} {c} (Err (Full k)) goes o j h = λ z.
    let x = h (goes.touches.told ∙ z) in
    let n = length (chain_items s f ++ chain_items s g) in
    let i = ap (λ (zs : List Record). parts_blocks l (length zs)) (j.items z) in
    let p : parts_blocks l n ≡ parts_blocks s n =
    ap (λ (sh : ShapeNumbers). let q = low_count (leaf_most sh) n in
    ceiling q (sh.block - 1) + ceiling (n - q) (sh.block - 1)) goes.touches.shape in
    let b1 = o.same.used in
    let b2 = goes.touches.blocks in
    omega (arith, x, i, p, b1, b2)
