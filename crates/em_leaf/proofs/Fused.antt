-- Two leaves fused: their chains are joined, and what results is written anew.
use Rattle.std.proofs.Common.{◌≡◌, ℕ, ◌+◌, ◌-◌, ◌<◌, ◌≤◌, min, List, [], ◌++◌, length, refl, sym, ap, ◌∙◌, arith, subst, IsTrue, Option, Some, None, Result, Ok, Err}
use Rattle.std.specs.Prelude.{IfErr, IfOk}
use Rattle.std.proofs.lemmas.List.{append-nil}
use Rattle.em_record.specs.Shape.{ShapeNumbers}
use Rattle.em_record.specs.declared.record.Record.{Record}
use Rattle.em_frames.specs.Pool.{load_of}
use Rattle.em_space.specs.Free.{Off}
use Rattle.em_space.specs.Ledger.{Session}
use Rattle.em_space.specs.Rig.{RigState, Sound}
use Rattle.em_space.specs.declared.fault.EmFault.{EmFault}
use Rattle.em_space.specs.declared.fault.EmFault.TheVariants.{DeviceFault, Full, Damaged}
use Rattle.em_space.proofs.Held.{apart_none}
use Rattle.em_space.proofs.Ledgers.{full_by}
use Rattle.em_space.proofs.Paying.{pays_kept, pays_more, pays_then}
use Rattle.em_space.proofs.Sessions.{session_as, session_still, session_trans}
use Rattle.em_space.proofs.Steps.{cause_after, touches_then, touches_trans}
use Rattle.em_chain.specs.Chain.{chain_blocks, chain_items, payload_in}
use Rattle.em_chain.specs.Counts.{ceiling}
use Rattle.em_chain.specs.Effects.{GivesFrame, LendsFrame, Unmoved}
use Rattle.em_chain.specs.Session.{Wrote}
use Rattle.em_chain.specs.Writer.{filled, writer_blocks}
use Rattle.em_chain.specs.Writes.{Begins}
use Rattle.em_chain.specs.declared.chain.Chain.{Chain}
use Rattle.em_chain.specs.declared.writer.Writer.{Writer}
use Rattle.em_chain.proofs.Counts.{writer_blocks_are}
use Rattle.em_chain.proofs.Keeps.{lent_given, lent_same, touches_none}
use Rattle.em_chain.proofs.Laws.{chain_stays}
use Rattle.em_chain.proofs.Writings.{cause_still}
use Rattle.em_settle.specs.Rising.{RisesByKey}
use Rattle.em_settle.specs.declared.step.Step.{Step}
use Rattle.em_leaf.specs.Effects.{IsSplit, loaded_blocks, loading_blocks, loading_room}
use Rattle.em_leaf.specs.Fusing.{CanRewrite, FillsParts, LacksParts, RewritesBeside, RunsRewrite, fused_blocks, fusing_room}
use Rattle.em_leaf.specs.Leaf.{AreLeafChains, IsHighChain, high_blocks, high_items, leaf_most, low_count}
use Rattle.em_leaf.specs.Needs.{LacksBlocks, parts_blocks}
use Rattle.em_leaf.specs.Settling.{CanSettle, SettlesOpsTo}
use Rattle.em_leaf.specs.declared.change.LeafChange.{LeafChange}
use Rattle.em_leaf.proofs.Numbers.{ceiling_few}

-- A writer of answers was begun.
pub can_beside : {key : Record → Record} {s a : RigState} {c : Chain} {w : Writer} → CanRewrite key s c
    → LendsFrame s a → Begins a w → CanSettle key a c 0 w
can_beside {key} {s} {a} {c} {w} can l b =
    let st = chain_stays [] s a c l.touches (λ z. apart_none (chain_blocks s c)) can.chain in
    let back = λ (z : IsTrue a.device.told). sym l.touches.told ∙ z in
    let P : List Record → Type 0 = RisesByKey key in
    let e = ap (λ (sh : ShapeNumbers). leaf_most sh + load_of sh) l.frames.shape in
    let most = can.most in
    let n = b.count in
    let k = b.blocks in
    record {
      chain = st.is;
      most = omega arith;
      rises = λ z. subst P (sym (st.items (back z))) (can.rises (back z));
      few = omega arith;
      writer = b.is;
      grow = record { count = omega arith; blocks = omega arith };
      apart = λ z. rw b.held tt;
    }

-- a writer that wrote nothing holds no block
pub none_written : {s t : RigState} {w v : Writer} (xs : List Record) → 128 ≤ t.pool.shape.block
    → Begins s w → Wrote s t w v xs → length xs ≤ 0 → v.blocks ≡ 0
none_written {s} {t} {w} {v} xs low b h few =
    let e = writer_blocks_are t v low h.is in
    let f : filled t v ≡ 0 = omega (arith, h.filled_is, b.filled_is) in
    let c = ceiling_few 0 (payload_in t) (omega arith) in
    let g = ap (λ n. ceiling n (payload_in t)) f in
    omega arith

no_blocks : (t : RigState) (v : Writer) → v.blocks ≡ 0 → v.tail ≡ 0 → writer_blocks t v ≡ []
no_blocks t v e f = rw (e, f) refl

-- the high part over a frame that came back
high_back : (b t : RigState) (o : Option (Record × Chain)) → GivesFrame [] b t → IsHighChain b o
    → IsHighChain t o × (IsTrue b.device.told → high_blocks t o ≡ high_blocks b o)
    × (IsTrue b.device.told → high_items t o ≡ high_items b o)
high_back b t None x h = (tt, λ z. refl, λ z. refl)
high_back b t (Some p) x h =
    let st = chain_stays [] b t p.1 x.touches (λ z. apart_none (chain_blocks b p.1)) h.chain in
    let back = λ (z : IsTrue t.device.told). sym x.touches.told ∙ z in
    let m = h.most in
    let e = ap leaf_most x.touches.shape in (
      record { chain = st.is; packed = λ z. st.packed (back z) (h.packed (back z)); most = omega arith },
      st.blocks,
      st.items,
    )

module _ (key : Record → Record) (step : Option Record → Record → Step) where
  pub leaves_back : (a b t : RigState) (c : Chain) (w v : Writer)
      (result : Result LeafChange EmFault) → SettlesOpsTo key step a b c [] w v result → GivesFrame [] b t
      → IfOk result (AreLeafChains t)
  leaves_back a b t c w v (Err e) h x = tt
  leaves_back a b t c w v (Ok change) h x =
      let st = chain_stays [] b t change.low x.touches (λ z. apart_none (chain_blocks b change.low))
      h.leaves.low.chain in
      let back = λ (z : IsTrue t.device.told). sym x.touches.told ∙ z in
      let m = h.leaves.low.most in
      let e = ap leaf_most x.touches.shape in
      record {
        low = record { chain = st.is; packed = λ z. st.packed (back z) (h.leaves.low.packed (back z)); most = omega arith };
        high = (high_back b t change.high x h.leaves.high).0;
      }

  split_back : (b t : RigState) (all : List Record) (low : Chain) (o : Option (Record × Chain))
      → t.pool.shape ≡ b.pool.shape → chain_items t low ≡ chain_items b low → high_items t o ≡ high_items b o
      → IsSplit key b all low o → IsSplit key t all low o
  split_back b t all low None e i j h = let m = ap leaf_most e in omega (arith, h, m)
  split_back b t all low (Some p) e i j h =
      let m = ap leaf_most e in
      let l = ap load_of e in
      let f = ap length i in
      let g = ap length j in
      let k = h.1 in
      let a1 = k.low_least in
      let a2 = k.high_least in (
        omega (arith, h.0, m),
        record {
          first = k.first;
          others = k.others;
          high_is = j ∙ k.high_is;
          key_is = k.key_is;
          low_least = omega (arith, a1, l, f);
          high_least = omega (arith, a2, l, g);
        },
      )

  pub parts_back : (s a b t : RigState) (c : Chain) (w v : Writer)
      (result : Result LeafChange EmFault) → CanRewrite key s c → LendsFrame s a
      → SettlesOpsTo key step a b c [] w v result → GivesFrame [] b t
      → IfOk result (λ change. IsTrue s.device.told → FillsParts key t (chain_items s c) change)
  parts_back s a b t c w v (Err e) can l h x = tt
  parts_back s a b t c w v (Ok change) can l h x = λ z.
      let za : IsTrue a.device.told = l.touches.told ∙ z in
      let zb : IsTrue b.device.told = h.answers.wrote.told ∙ za in
      let st = chain_stays [] b t change.low x.touches (λ y. apart_none (chain_blocks b change.low))
      h.leaves.low.chain in
      let sc = chain_stays [] s a c l.touches (λ y. apart_none (chain_blocks s c)) can.chain in
      let hb = (high_back b t change.high x h.leaves.high).2 zb in
      let o = h.settles za in
      let i = st.items zb in
      let j = sc.items z in
      let all = chain_items s c in
      let m = ap leaf_most x.touches.shape in
      let P : List Record → Type 0 = λ zs. IsSplit key b zs change.low change.high in
      record {
        items = ap (λ zs. zs ++ high_items t change.high) i ∙ (ap (λ zs. chain_items b change.low ++ zs) hb
            ∙ (o.items ∙ j));
        low_len = ap length i ∙ (o.low_len ∙ (ap (λ n. low_count n (length (chain_items a c))) (sym m)
            ∙ ap (λ (zs : List Record). low_count (leaf_most t.pool.shape) (length zs)) j));
        split = split_back b t all change.low change.high x.touches.shape i hb (subst P j o.split);
      }

  pub runs_back : {s a b t : RigState} {c : Chain} {w : Writer} (v : Writer)
      (result : Result LeafChange EmFault) → Sound s → CanRewrite key s c → LendsFrame s a → Unmoved s a
      → Begins a w → RewritesBeside a b c w v result → SettlesOpsTo key step a b c [] w v result
      → GivesFrame [] b t → Unmoved b t → RunsRewrite s t c result
  runs_back {s} {a} {b} {t} {c} {w} v (Ok change) so can l u n h k x y =
      let low = h.session.sound.shape.block_low in
      let first = so.shape.block_low in
      let sc = chain_stays [] s a c l.touches (λ z. apart_none (chain_blocks s c)) can.chain in
      let st = chain_stays [] b t change.low x.touches (λ z. apart_none (chain_blocks b change.low))
      k.leaves.low.chain in
      let hb = high_back b t change.high x k.leaves.high in
      let nv = none_written k.answers.given low n k.answers.wrote k.answers.few in
      let none = no_blocks b v nv (k.answers.wrote.is.last.none nv) in
      let nw = n.blocks in
      let told = h.session.touches.told ∙ l.touches.told in
      let begun : Session (chain_blocks s c) s a (loading_blocks a c w) =
      session_as (loading_blocks a c w) (session_still (chain_blocks s c) l.sound l.touches
      (λ z. (can.chain.told z).holds)) (λ z. rw (n.held, sc.blocks z) refl) in
      let second = session_trans begun h.session in
      let still = session_still (loaded_blocks b change v) x.sound x.touches
      (λ z. second.holds (sym told ∙ z)) in
      let same = λ (z : IsTrue s.device.told).
      let e : fused_blocks t change ≡ loaded_blocks b change v =
      rw (st.blocks (told ∙ z), hb.1 (told ∙ z), none, append-nil (high_blocks b change.high)) refl in e in
      let j = h.spends in
      let m1 = u.moves in
      let m2 = u.same.used in
      let m3 = u.same.most in
      let y1 = y.same.used in
      let y2 = y.same.most in
      let y3 = y.moves in
      let z0 = (let e = l.frames.shape in ceiling_few 0 (payload_in a) (rw e (omega arith))) in
      record {
        session = session_as (fused_blocks t change) (session_trans second still) same;
        frames = lent_given s.pool b.pool t.pool (lent_same 1 s.pool a.pool b.pool l.frames h.frames) x.frames;
        spends = record {
          held = omega (arith, j.held);
          used = omega (arith, j.used);
          most = omega (arith, j.most);
          moves = omega (arith, j.moves);
          later = omega (arith, j.later);
          pays = pays_more (pays_then (pays_kept (min w.blocks 1 + 0) (omega arith) (omega arith))
              (pays_then j.pays (pays_kept (0 + min v.blocks 1) (omega arith) (omega arith)) (omega arith))
              (omega (arith, j.later))) (omega arith);
        };
      }
  runs_back {s} {a} {b} {t} {c} {w} v (Err e) so can l u n h k x y =
      let first = so.shape.block_low in
      let sc = chain_stays [] s a c l.touches (λ z. apart_none (chain_blocks s c)) can.chain in
      let o = h.goes in
      let j = h.halts in
      let ks = chain_blocks s c in
      let nw = n.blocks in
      let m1 = u.moves in
      let m2 = u.same.used in
      let m3 = u.same.most in
      let y1 = y.same.used in
      let y2 = y.same.most in
      let y3 = y.moves in
      let z0 = (let e = l.frames.shape in ceiling_few 0 (payload_in a) (rw e (omega arith))) in
      record {
        goes = record {
          sound = x.sound;
          touches = touches_then ks s b t (touches_trans ks (loading_blocks a c w) s a b
              (touches_none ks s a l.touches) o.touches
              (λ z i q m. let e : loading_blocks a c w ≡ ks = rw (n.held, sc.blocks z) refl in
              let P : List ℕ → Type 0 = Off i in subst P (sym e) m)) x.touches;
          frames = lent_given s.pool b.pool t.pool (lent_same 1 s.pool a.pool b.pool l.frames o.frames) x.frames;
        };
        halts = record {
          used = omega (arith, j.used);
          full = full_by e (b.used + (w.blocks + c.blocks) < a.used + (w.blocks + c.blocks + loading_room a 0))
              (t.used + c.blocks < s.used + (c.blocks + fusing_room)) (λ m. omega arith) j.full;
          most = omega (arith, j.most);
          moves = omega (arith, j.moves);
          later = omega (arith, j.later);
          pays = pays_more (pays_then (pays_kept (min w.blocks 1 + 0) (omega arith) (omega arith))
              (pays_then j.pays (pays_kept 2 (omega arith) (omega arith)) (omega arith))
              (omega (arith, j.later))) (omega arith);
        };
        cause = cause_still s b t e y x.touches (cause_after [] s a b e l.touches h.cause);
      }

  pub needs_back : {s a : RigState} {c : Chain} {w : Writer} (result : Result LeafChange EmFault) → Sound s
      → CanRewrite key s c → LendsFrame s a → Unmoved s a → Begins a w
      → IfErr result (LacksBlocks key step a c [] w) → IfErr result (LacksParts s (chain_items s c))
  needs_back (Ok x) so can l u n h = tt
  needs_back (Err DeviceFault) so can l u n h = tt
  needs_back (Err (Damaged j)) so can l u n h = tt
  needs_back {s} {a} {c} {w} (Err (Full j)) so can l u n h = λ z.
      let sc = chain_stays [] s a c l.touches (λ y. apart_none (chain_blocks s c)) can.chain in
      let first = so.shape.block_low in
      let f = h (l.touches.told ∙ z) in
      let i = ap (λ (zs : List Record). parts_blocks a (length zs)) (sc.items z) in
      let p : parts_blocks a (length (chain_items s c)) ≡ parts_blocks s (length (chain_items s c)) =
      ap (λ (sh : ShapeNumbers). let m = length (chain_items s c) in let k = low_count (leaf_most sh) m in
      ceiling k (sh.block - 1) + ceiling (m - k) (sh.block - 1)) l.frames.shape in
      let z0 = (let e = l.frames.shape in ceiling_few 0 (payload_in a) (rw e (omega arith))) in
      let e : filled a w + 0 ≡ 0 = omega (arith, n.filled_is) in
      let g = ap (λ m. ceiling m (payload_in a)) e in
      let b1 = u.same.used in
      let b2 = l.touches.blocks in
      omega (arith, f, i, p, z0, g, b1, b2, n.blocks)
