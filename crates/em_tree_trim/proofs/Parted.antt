-- Two neighbouring leaves, fused if one of them is short.
use Rattle.std.proofs.Common.{◌≡◌, ◌↔◌, ◌⊎◌, Bool, false, ℕ, ◌+◌, ◌<◌, ◌≤◌, List, [], ◌++◌, length, refl, sym, ap, ◌∙◌, subst, arith, inl, inr, ⊎_elim, IsTrue, Option, Some, None, Result, Ok, Err, IsErrAnd, IfOk}
use Rattle.std.proofs.lemmas.Bool.{cases_lt, false≢true}
use Rattle.std.proofs.lemmas.List.{length-append}
use Rattle.em_record.specs.Shape.{ShapeNumbers}
use Rattle.em_record.specs.declared.record.Record.{Record}
use Rattle.em_frames.specs.Pool.{load_of}
use Rattle.em_space.specs.Rig.{RigState, Sound}
use Rattle.em_space.specs.declared.fault.EmFault.{EmFault}
use Rattle.em_space.specs.declared.fault.EmFault.TheVariants.{Damaged}
use Rattle.em_space.proofs.Held.{apart_none}
use Rattle.em_space.proofs.Ledgers.{full_by, full_never}
use Rattle.em_space.proofs.Lists.{distinct_apart}
use Rattle.em_space.proofs.Steps.{block_cause, goes_nothing, untold_by}
use Rattle.em_chain.specs.Chain.{chain_blocks, chain_items, payload_in}
use Rattle.em_chain.specs.Counts.{ceiling}
use Rattle.em_chain.specs.declared.chain.Chain.{Chain}
use Rattle.em_chain.proofs.Counts.{ceiling_two}
use Rattle.em_chain.proofs.Keeps.{payload_kept}
use Rattle.em_chain.proofs.Laws.{chain_stays}
use Rattle.em_chain.proofs.Readers.{length_items}
use Rattle.em_leaf.specs.Effects.{loaded_account}
use Rattle.em_leaf.specs.Fusing.{CanFuse, FewMoves, FillsParts, RunsFuse, fused_blocks, fusing_account, fusing_blocks, fusing_room}
use Rattle.em_leaf.specs.Leaf.{AreLeafChains, IsHighChain, high_blocks, high_count, high_items}
use Rattle.em_leaf.specs.declared.change.LeafChange.{LeafChange}
use Rattle.em_leaf.proofs.Numbers.{ceiling_add}
use Rattle.em_leaf.proofs.Parts.{fuses_whole, shares_halves}
use Rattle.em_space.specs.Ledger.{Runs, Stops}
use Rattle.em_tree_walk.proofs.Losses.{chain_length, loses_runs}
use Rattle.em_tree_load.proofs.LeafBlocks.{leaf_few}
use Rattle.em_tree_load.proofs.Payments.{paid_still, still_stops}
use Rattle.em_tree_trim.specs.Listed.{CanPart, KeyRead, PartedLeaves, PartsInto, PartsLeaves, StopsKey, StopsParting}
use Rattle.em_tree_trim.proofs.Runs.{full_all, leaf_stays, paid_as}
use Rattle.em_tree_trim.proofs.Sizes.{ceiling_fits, leaf_ceiling, leaf_dense, leaf_short}

-- one of two leaves is short, or neither is
short_by : (n a b : ℕ) → ((n ≤ a) × (n ≤ b) → ⊥) → (a < n) ⊎ (b < n)
short_by n a b h = ⊎_elim (λ (l : a < n). inl l)
    (λ (l : n ≤ a). ⊎_elim (λ (m : b < n). inr m) (λ (m : n ≤ b). absurd (h (l, m))) (cases_lt b n))
    (cases_lt a n)

module _ {key : Record → Record} {s : RigState} {low high : Chain} (sound : Sound s) (i : CanPart key s low high) where
  -- They can be fused.
  pub can_fuse : low.blocks + high.blocks ≤ low.count + high.count
      → ((load_of s.pool.shape ≤ low.count) × (load_of s.pool.shape ≤ high.count) → ⊥) → CanFuse key s low high
  can_fuse dense short =
      let few = leaf_few s.pool.shape sound.shape in
      let a = i.low_leaf.most in
      let b = i.high_leaf.most in
      record {
        low_chain = i.low_leaf.chain;
        high_chain = i.high_leaf.chain;
        low_most = a;
        high_most = b;
        room = record { count = omega (arith, few, a, b); blocks = omega (arith, few, a, b, dense) };
        short = short_by (load_of s.pool.shape) low.count high.count short;
        lists = λ z. record {
          low_packed = i.low_leaf.packed z;
          high_packed = i.high_leaf.packed z;
          rises = i.rises z;
          apart = distinct_apart (chain_blocks s low) (chain_blocks s high) ((i.holds z).distinct z);
        };
      }

  -- the same by a test
  pub can_fuse_by : (found : Bool) (sh : ShapeNumbers) → low.blocks + high.blocks ≤ low.count + high.count
      → sh ≡ s.pool.shape → IsTrue found ↔ (load_of sh ≤ low.count) × (load_of sh ≤ high.count) → found ≡ false
      → CanFuse key s low high
  can_fuse_by found sh dense e test no_long =
      let P : ShapeNumbers → Type 0 = λ p. (load_of p ≤ low.count) × (load_of p ≤ high.count) in
      can_fuse dense (λ long. false≢true (sym no_long ∙ test.1 (subst P (sym e) long)))

  -- Chains of more blocks than records are those of a device that doesn't tell.
  pub parts_damaged : low.count + high.count < low.blocks + high.blocks → PartsLeaves key s s low high (Err (Damaged 0))
  parts_damaged h =
      let some = sound.numbers.blocks_low in
      let dense : IsTrue s.device.told → ⊥ = λ z.
      let a = leaf_dense sound z i.low_leaf in
      let b = leaf_dense sound z i.high_leaf in
      omega (arith, a, b, h) in
      record {
        stops = still_stops (fusing_blocks s low high) 0 2 (omega arith) (goes_nothing s sound) refl
            (untold_by s.device.told dense, some);
        full = λ z. tt;
        peaks = λ z. record { used = omega arith; most = omega arith };
        moves = λ z. omega arith;
      }

  -- Neither is short: the key of the second one was read,
  pub parts_long : {t : RigState} {k : Record} → load_of s.pool.shape ≤ low.count → load_of s.pool.shape ≤ high.count
      → KeyRead key s t high k
      → PartedLeaves key s t low high (record { low = low; high = Some (k, high) })
  parts_long {t} {k} la lb r =
      let g = r.reads.goes in
      let h = g.touches in
      let x = chain_stays [] s t low h (λ z. apart_none (chain_blocks s low)) i.low_leaf.chain in
      let y = chain_stays [] s t high h (λ z. apart_none (chain_blocks s high)) i.high_leaf.chain in
      let change : LeafChange = record { low = low; high = Some (k, high) } in
      let used = r.reads.used in
      let most = r.reads.most in
      let moves = r.reads.moves in
      record {
        runs = paid_as (fused_blocks t change) (paid_still (fusing_blocks s low high) 0 g used i.holds)
            (λ z. ap (λ (ks : List ℕ). ks ++ chain_blocks t high) (x.blocks z)
            ∙ ap (λ (ks : List ℕ). chain_blocks s low ++ ks) (y.blocks z));
        leaves = record {
          low = leaf_stays h (λ z. apart_none (chain_blocks s low)) i.low_leaf;
          high = leaf_stays h (λ z. apart_none (chain_blocks s high)) i.high_leaf;
        };
        parts = λ z.
            let f = r.is z in
            let xs = x.items z in
            let ys = y.items z in
            let a = ap length xs in
            let b = ap length ys in
            let c = length_items s low i.low_leaf.chain z in
            let d = length_items s high i.high_leaf.chain z in
            let p = ap (λ (n : ℕ). ceiling n (payload_in s)) a in
            let q = ap (λ (n : ℕ). ceiling n (payload_in s)) b in
            record {
              all_are = ap (λ (zs : List Record). zs ++ chain_items t high) xs
                  ∙ ap (λ (zs : List Record). chain_items s low ++ zs) ys;
              first = f.first;
              others = f.others;
              high_is = ys ∙ f.items;
              key_is = f.key_is;
              low_least = omega (arith, a, c, la);
              high_least = omega (arith, b, d, lb);
              excess = omega (arith, a, b);
              blocks = omega (arith, p, q);
            };
        used = λ z. omega (arith, used);
        peaks = λ z. record { used = omega (arith, used); most = omega (arith, most) };
        moves = λ z. let few = leaf_short sound z i.high_leaf in omega (arith, moves, few);
      }

  -- or couldn't be.
  pub parts_unread : {t : RigState} {e : EmFault} → StopsKey s t high e → StopsParting s t low high e
  parts_unread {t} {e} r =
      let used = r.reads.used in
      let most = r.reads.most in
      let moves = r.reads.moves in
      record {
        stops = still_stops (fusing_blocks s low high) 0 2 (omega arith) r.reads.goes used (block_cause s t e r.cause);
        full = λ z. full_never s t e (s.blocks < s.used + 3) r.cause;
        peaks = λ z. record { used = omega (arith, used); most = omega (arith, most) };
        moves = λ z. let few = leaf_short sound z i.high_leaf in omega (arith, moves, few);
      }

  pub parts_of : {t : RigState} (result : Result LeafChange EmFault) (e : EmFault) → IsErrAnd result (λ m. m ≡ e)
      → StopsKey s t high e → PartsLeaves key s t low high result
  parts_of (Ok x) e h y = absurd h
  parts_of {t} (Err m) e h y = subst (λ (f : EmFault). StopsParting s t low high f) (sym h) (parts_unread y)

  high_length : (t : RigState) (o : Option (Record × Chain)) → IsHighChain t o → IsTrue t.device.told
      → length (high_blocks t o) ≡ high_count o
  high_length t None h z = refl
  high_length t (Some p) h z = chain_length h.chain z

  -- how many blocks the parts have
  high_ceiling : (t : RigState) (o : Option (Record × Chain)) → Sound t → IsTrue t.device.told → IsHighChain t o
      → high_count o ≡ ceiling (length (high_items t o)) (payload_in t)
  high_ceiling t None h z c = let f = ceiling_none t h in f
    where
      ceiling_none : (w : RigState) → Sound w → 0 ≡ ceiling 0 (payload_in w)
      ceiling_none w k =
          let low_block = k.shape.block_low in
          let f = ceiling_fits 0 0 (payload_in w) (omega (arith, low_block)) (omega arith) in
          omega (arith, f)
  high_ceiling t (Some p) h z c = sym (leaf_ceiling h z c)

  -- They were fused.
  module _ {t : RigState} (change : LeafChange) (can : CanFuse key s low high)
      (fills : IsTrue s.device.told → FillsParts key t (chain_items s low ++ chain_items s high) change)
      (leaves : AreLeafChains t change)
      (runs : Runs (low.blocks + high.blocks + fusing_room) (fusing_blocks s low high) (fused_blocks t change)
      (fusing_account low high) (loaded_account change) s t) (few : FewMoves s t) where
    fused_told : IsTrue s.device.told → IsTrue t.device.told
    fused_told z = runs.session.touches.told ∙ z

    -- one block more at most
    fused_used : IsTrue s.device.told → t.used ≤ s.used + 1
    fused_used z =
        let xs = chain_items s low in
        let ys = chain_items s high in
        let p = payload_in s in
        let f = fills z in
        let y = fused_told z in
        let pos = sound.shape.block_low in
        let used = runs.spends.used in
        let a = leaf_ceiling sound z i.low_leaf in
        let b = leaf_ceiling sound z i.high_leaf in
        let k = payload_kept (fusing_blocks s low high) s t runs.session.touches in
        let c = leaf_ceiling runs.session.sound y leaves.low in
        let d = high_ceiling t change.high runs.session.sound y leaves.high in
        let c2 = ap (λ (q : ℕ). ceiling (length (chain_items t change.low)) q) k in
        let d2 = ap (λ (q : ℕ). ceiling (length (high_items t change.high)) q) k in
        let n = ap length f.items in
        let n1 = length-append (chain_items t change.low) (high_items t change.high) in
        let n2 = length-append xs ys in
        let m : length (chain_items t change.low) + length (high_items t change.high) ≡ length xs + length ys =
        omega (arith, n, n1, n2) in
        let m2 = ap (λ (q : ℕ). ceiling q p) m in
        let two = ceiling_two (length (chain_items t change.low)) (length (high_items t change.high)) p
        (omega (arith, pos)) in
        let one = ceiling_add (length xs) (length ys) p (omega (arith, pos)) in
        omega (arith, used, a, b, c, d, c2, d2, m2, two, one)

    fused_parts : (z : IsTrue s.device.told) (o : Option (Record × Chain)) → change.high ≡ o
        → PartsInto key (load_of s.pool.shape) (payload_in s) (chain_items s low) (chain_items s high) t change.low o
    fused_parts z None e =
        let all = chain_items s low ++ chain_items s high in
        let a = length_items s low i.low_leaf.chain z in
        let b = length_items s high i.high_leaf.chain z in
        record {
          all_are = fuses_whole key t all change e (fills z);
          short = ⊎_elim (λ (h : low.count < load_of s.pool.shape). inl (omega (arith, h, a)))
              (λ (h : high.count < load_of s.pool.shape). inr (omega (arith, h, b))) can.short;
        }
    fused_parts z (Some q) e =
        let xs = chain_items s low in
        let ys = chain_items s high in
        let all = xs ++ ys in
        let f = fills z in
        let h = shares_halves key t all change q e f in
        let n = load_of s.pool.shape in
        let same : load_of t.pool.shape ≡ n = ap load_of runs.session.touches.shape in
        let parts : chain_items t change.low ++ chain_items t q.1 ≡ all =
        ap (λ (o : Option (Record × Chain)). chain_items t change.low ++ high_items t o) (sym e) ∙ f.items in
        let la = h.low_least in
        let lb = h.high_least in
        let a = length_items s low i.low_leaf.chain z in
        let b = length_items s high i.high_leaf.chain z in
        let l1 = ap length parts in
        let l2 = length-append (chain_items t change.low) (chain_items t q.1) in
        let l3 = length-append xs ys in
        let m : length (chain_items t change.low) + length (chain_items t q.1) ≡ length xs + length ys =
        omega (arith, l1, l2, l3) in
        let p = payload_in s in
        let pos = sound.shape.block_low in
        let m2 = ap (λ (c : ℕ). ceiling c p) m in
        let two = ceiling_two (length (chain_items t change.low)) (length (chain_items t q.1)) p (omega (arith, pos)) in
        let one = ceiling_add (length xs) (length ys) p (omega (arith, pos)) in
        record {
          all_are = parts;
          first = h.first;
          others = h.others;
          high_is = h.high_is;
          key_is = h.key_is;
          low_least = omega (arith, la, same);
          high_least = omega (arith, lb, same);
          excess = ⊎_elim (λ (c : low.count < n). omega (arith, c, a, m, la, lb, same))
              (λ (c : high.count < n). omega (arith, c, b, m, la, lb, same)) can.short;
          blocks = omega (arith, m2, two, one);
        }

    pub parts_fused : PartedLeaves key s t low high change
    parts_fused =
        let c = runs.spends in
        let held = c.held in
        let used = c.used in
        let most = c.most in
        record {
          runs = record {
            session = runs.session;
            frames = runs.frames;
            pays = c.pays;
            loses = loses_runs runs
                (λ z. let n = length-append (chain_blocks s low) (chain_blocks s high) in
                let a = chain_length i.low_leaf.chain z in
                let b = chain_length i.high_leaf.chain z in
                omega (arith, n, a, b))
                (λ z. let n = length-append (chain_blocks t change.low) (high_blocks t change.high) in
                let a = chain_length leaves.low.chain (fused_told z) in
                let b = high_length t change.high leaves.high (fused_told z) in
                omega (arith, n, a, b));
          };
          leaves = leaves;
          parts = λ z. fused_parts z change.high refl;
          used = fused_used;
          peaks = λ z. record { used = omega (arith, held, used); most = omega (arith, held, used, most) };
          moves = few;
        }

  fused_stops : {t : RigState} {e : EmFault} → Stops (low.blocks + high.blocks + fusing_room) 0 2
      (fusing_blocks s low high) (fusing_account low high) s t e → FewMoves s t → StopsParting s t low high e
  fused_stops {t} {e} x few =
      let c = x.halts in
      let used = c.used in
      let most = c.most in
      let full = full_all s t e (low.blocks + high.blocks) (s.used + (low.blocks + high.blocks + fusing_room)) x.cause
      x.goes.touches.blocks c.full in
      record {
        stops = record { goes = x.goes; pays = c.pays; cause = x.cause };
        full = λ z. full_by e
            (s.blocks + (low.blocks + high.blocks) < s.used + (low.blocks + high.blocks + fusing_room))
            (s.blocks < s.used + 3) (λ h. omega (arith, h)) full;
        peaks = λ z. record { used = omega (arith, used); most = omega (arith, used, most) };
        moves = few;
      }

  -- By the result.
  pub fused_by : (t : RigState) (result : Result LeafChange EmFault) → CanFuse key s low high
      → IfOk result (λ change. IsTrue s.device.told
      → FillsParts key t (chain_items s low ++ chain_items s high) change)
      → IfOk result (AreLeafChains t) → RunsFuse s t low high result → FewMoves s t
      → PartsLeaves key s t low high result
  fused_by t (Ok change) can f l r m = parts_fused change can f l r m
  fused_by t (Err e) can f l r m = fused_stops r m
