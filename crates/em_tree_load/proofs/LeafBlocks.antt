-- The block of a leaf that is read.
use Rattle.std.proofs.Common.{◌≡◌, ℕ, zero, ◌*◌, ◌<◌, ◌≤◌, ◌^◌, List, [], ◌∷◌, get_or, length, set, refl, sym, ap, ◌∙◌, subst, arith, IsTrue, Result, Ok, Err, IfOk, OnOk, IfErr}
use Rattle.std.proofs.Math.Nat.{mul-le-mul_right}
use Rattle.em_record.specs.Shape.{IsShape, ShapeNumbers, payload_of, wide_of}
use Rattle.em_record.specs.declared.record.Record.{Record}
use Rattle.em_frames.specs.Device.{block_at, zero_record}
use Rattle.em_frames.specs.Pool.{given, lent}
use Rattle.em_space.specs.Free.{header}
use Rattle.em_space.specs.Rig.{RigState, Sound, DeviceCause, Goes, InUse, Transfers}
use Rattle.em_space.specs.declared.fault.EmFault.{EmFault}
use Rattle.em_space.proofs.Held.{apart_none, in_use_kept}
use Rattle.em_space.proofs.Steps.{device_block_cause, goes_with_frame, touches_pool}
use Rattle.em_chain.specs.Chain.{IsPacked, IsStored, chain_blocks, payload_in}
use Rattle.em_chain.specs.Counts.{ceiling}
use Rattle.em_chain.specs.List.{block_header}
use Rattle.em_chain.specs.declared.chain.Chain.{Chain}
use Rattle.em_chain.proofs.Laws.{chain_stays}
use Rattle.em_leaf.specs.Leaf.{IsLeafChain, leaf_most}
use Rattle.em_leaf.proofs.Numbers.{ceiling_few}
use Rattle.em_tree_blocks.specs.Node.{chain_of, leaf_chain}
use Rattle.em_tree_blocks.specs.Reading.{stored_chain, tree_blocks}
use Rattle.em_tree_blocks.proofs.Frames.{tree_stays}
use Rattle.em_balance.proofs.Stored.{stored_at}
use Rattle.em_tree_load.specs.Leaves.{IsLeafBlock, IsSmallLeaf, LeadsToLeaf, ReadLeaf, ReadsLeaf, StoredLeaf, StoresLeaf, leaf_record, with_leaf}
use Rattle.em_tree_walk.specs.Reads.{ReadsPassing, ReadsTested}
use Rattle.em_tree_walk.proofs.Readings.{cause_framed, reads_framed, stops_framed}

-- A leaf between two loads passes the test.
pub leaf_passes : {s : RigState} {k : ℕ} → IsTrue s.device.told → IsSmallLeaf s k
    → IsLeafBlock s.pool.shape (block_at s.device k)
leaf_passes z o = record {
  head = o.is.head;
  skip = (o.is.packed z).is.skip_is;
  few = o.few;
}

-- its records are few enough for any chain
pub leaf_few : (shape : ShapeNumbers) → IsShape shape → leaf_most shape ≤ 2 ^ 26
leaf_few shape i =
    let high = i.block_high in
    let frames = i.frames_high in
    let wide : wide_of shape ≤ 128 = omega arith in
    let m : wide_of shape * shape.block ≤ 128 * shape.block =
    mul-le-mul_right shape.block wide in
    omega arith

-- Its chain was read.
leaf_read : {s t : RigState} {k : ℕ} {b : List Record} {c : Chain} → Sound s → LeadsToLeaf s k
    → ReadsPassing (IsLeafBlock s.pool.shape) s t k b → c ≡ leaf_chain (payload_in s) b
    → ReadLeaf s t k c
leaf_read {s} {t} {k} {b} {c} h i r e =
    let most = leaf_few s.pool.shape h.shape in
    let few = r.is.few in
    let low = h.shape.block_low in
    let n = (get_or b 1 zero_record).d in
    let fewer : ceiling n (payload_in s) ≤ n = ceiling_few n (payload_in s) (omega arith) in
    let count_is : c.count ≡ n = ap (λ (x : Chain). x.count) e in
    let blocks_is : c.blocks ≡ ceiling n (payload_in s) = ap (λ (x : Chain). x.blocks) e in
    let touches = r.reads.goes.touches in
    let same : IsTrue s.device.told → c ≡ stored_chain s k =
    λ z. e ∙ ap (leaf_chain (payload_in s)) (r.loaded z) in
    let there : IsTrue t.device.told → IsTrue s.device.told = λ y. sym touches.told ∙ y in
    let stays = λ (z : IsTrue s.device.told). chain_stays [] s t (stored_chain s k) touches
    (λ y. apart_none (chain_blocks s (stored_chain s k))) (i.told z).is.stored in
    let P : ShapeNumbers → Type 0 = λ sh. c.count ≤ leaf_most sh in
    let Q : Chain → Type 0 = IsStored t in
    let R : Chain → Type 0 = IsPacked t in
    record {
      reads = r.reads;
      chain = record {
        chain = record {
          count_most = omega arith;
          blocks_most = omega arith;
          told = λ y. let z = there y in subst Q (sym (same z)) ((stays z).is.told y);
        };
        packed = λ y. let z = there y in
            subst R (sym (same z)) ((stays z).packed z ((i.told z).is.packed z));
        most = subst P (sym touches.shape) (omega arith);
      };
      is = same;
    }

leaf_by : {s : RigState} {k : ℕ} (t : RigState) (b : List Record) (result : Result Chain EmFault)
    → Sound s
    → LeadsToLeaf s k → ReadsTested (IsLeafBlock s.pool.shape) s t k b result
    → IfOk result (λ c. c ≡ leaf_chain (payload_in s) b) → ReadsLeaf s t k result
leaf_by t b (Ok c) h i r e = leaf_read h i r e
leaf_by t b (Err fault) h i r e = r

-- A leaf of a rig whose pool has lent a frame, or was given one.
leaf_lent : {s : RigState} {k : ℕ} → LeadsToLeaf s k
    → LeadsToLeaf (record s { pool = lent s.pool }) k
leaf_lent {s} {k} i =
    let a = record s { pool = lent s.pool } in
    let h = touches_pool s (lent s.pool) refl in
    record {
      in_use = in_use_kept [] s a k h (λ z. tt) i.in_use;
      told = λ z. let o = i.told z in record {
        is = (tree_stays [] s a h z zero k (apart_none (tree_blocks zero s k)) o.is).is;
        few = o.few;
      };
    }

pub leads_lent : {s a : RigState} {k : ℕ} → a ≡ record s { pool = lent s.pool }
    → LeadsToLeaf s k → LeadsToLeaf a k
leads_lent {s} {a} {k} e i =
    subst (λ (w : RigState). LeadsToLeaf w k) (sym e) (leaf_lent i)

chain_given : {t : RigState} {c : Chain} → IsLeafChain t c
    → IsLeafChain (record t { pool = given t.pool }) c
chain_given {t} {c} i =
    let u = record t { pool = given t.pool } in
    let x = chain_stays [] t u c (touches_pool t (given t.pool) refl)
    (λ z. apart_none (chain_blocks t c)) i.chain in
    record { chain = x.is; packed = λ z. x.packed z (i.packed z); most = i.most }

-- A leaf that was read with a frame that was lent and given back.
pub leaf_framed : {s a u : RigState} {k : ℕ} (b : List Record) (t : RigState)
    (result : Result Chain EmFault) → Sound s → 0 < s.pool.free → Sound a
    → a ≡ record s { pool = lent s.pool } → LeadsToLeaf s k
    → ReadsTested (IsLeafBlock a.pool.shape) a t k b result
    → IfOk result (λ c. c ≡ leaf_chain (payload_in a) b)
    → u ≡ record t { pool = given t.pool } → ReadsLeaf s u k result
leaf_framed {s} {a} {u} {k} b t result sound free sound_a e i r is f =
    let x = leaf_by t b result sound_a (leads_lent e i) r is in
    subst (λ (w : RigState). ReadsLeaf s w k result) (sym f)
    (by_result result (subst (λ (w : RigState). ReadsLeaf w t k result) e x))
  where
    by_result : (y : Result Chain EmFault) → ReadsLeaf (record s { pool = lent s.pool }) t k y
        → ReadsLeaf s (record t { pool = given t.pool }) k y
    by_result (Ok c) x = record {
      reads = reads_framed sound free x.reads;
      chain = chain_given x.chain;
      is = x.is;
    }
    by_result (Err fault) x = record {
      stops = stops_framed sound free x.stops;
      damaged = x.damaged;
    }

-- What a block reads as that was made one of a leaf.
leaf_head : (b : List Record) (c : Chain) → 1 < length b → header (with_leaf b c) ≡ block_header 0 1
leaf_head [] c h = absurd (omega arith)
leaf_head (x ∷ []) c h = absurd (omega arith)
leaf_head (x ∷ y ∷ rs) c h = refl

leaf_words : (b : List Record) (c : Chain) → 1 < length b
    → get_or (with_leaf b c) 1 zero_record ≡ leaf_record c
leaf_words [] c h = absurd (omega arith)
leaf_words (x ∷ []) c h = absurd (omega arith)
leaf_words (x ∷ y ∷ rs) c h = refl

-- the chain of these words and this number of blocks
chain_again : (c : Chain) (n : ℕ) → c.blocks ≡ n
    → chain_of (c.head ∷ c.skip ∷ c.tail ∷ c.count ∷ n ∷ []) ≡ c
chain_again c n e =
    ap (λ (m : ℕ). chain_of (c.head ∷ c.skip ∷ c.tail ∷ c.count ∷ m ∷ [])) (sym e)

leaf_again : (p : ℕ) (b : List Record) (c : Chain) → 1 < length b → c.blocks ≡ ceiling c.count p
    → leaf_chain p (with_leaf b c) ≡ c
leaf_again p b c h e =
    ap (λ (r : Record). chain_of (r.a ∷ r.b ∷ r.c ∷ r.d ∷ ceiling r.d p ∷ [])) (leaf_words b c h)
    ∙ chain_again c (ceiling c.count p) e

-- The block of a leaf was stored with a frame that was lent and given back,
leaf_kept : {s t : RigState} {k : ℕ} {c : Chain} {d : List Record} (b : List Record) → Sound s
    → 0 < s.pool.free → InUse s k → 1 < length b → d ≡ with_leaf b c
    → Goes (k ∷ []) (record s { pool = lent s.pool }) t
    → Transfers (record s { pool = lent s.pool }) t
    → t.device.contents ≡ set s.device.contents k d → InUse t k
    → StoredLeaf s (record t { pool = given t.pool }) k c
leaf_kept {s} {t} {k} {c} {d} b sound free u some is g x kept v =
    let moves = x.moves in
    let w = record t { pool = given t.pool } in
    let block : IsTrue s.device.told → block_at t.device k ≡ with_leaf b c =
    λ z. stored_at t sound z u kept ∙ is in
    let payload : payload_in w ≡ payload_in s = ap payload_of g.touches.shape in
    record {
      moves = record {
        goes = goes_with_frame (k ∷ []) s t sound free g;
        same = record { head = x.blocks.head; used = x.blocks.used; most = x.blocks.most };
        moves = omega arith;
        moved = moves;
      };
      in_use = record { told = v.told; untold = v.untold };
      head = λ z. ap header (block z) ∙ leaf_head b c some;
      is = λ z e. ap (λ (p : ℕ). leaf_chain p (block_at t.device k)) payload
          ∙ (ap (leaf_chain (payload_in s)) (block z) ∙ leaf_again (payload_in s) b c some e);
    }

-- or couldn't be.
pub leaf_stored : {T : Type 0} {s a u : RigState} {k : ℕ} {d : List Record} (c : Chain)
    (b : List Record) (t : RigState) (result : Result T EmFault) → Sound s → 0 < s.pool.free → InUse s k
    → a ≡ record s { pool = lent s.pool } → 1 < length b → d ≡ with_leaf b c
    → Goes (k ∷ []) a t → Transfers a t
    → OnOk result (t.device.contents ≡ set a.device.contents k d) → InUse t k
    → IfErr result (DeviceCause a t) → u ≡ record t { pool = given t.pool }
    → StoresLeaf s u k c result
leaf_stored {T} {s} {a} {u} {k} {d} c b t result sound free v e some is g x kept w cause f =
    let P : RigState → Type 0 = λ r. Goes (k ∷ []) r t in
    let Q : RigState → Type 0 = λ r. Transfers r t in
    let R : RigState → Type 0 = λ r. OnOk result (t.device.contents ≡ set r.device.contents k d) in
    let C : RigState → Type 0 = λ r. IfErr result (DeviceCause r t) in
    subst (λ (r : RigState). StoresLeaf s r k c result) (sym f)
    (by_result result (subst P e g) (subst Q e x) (subst R e kept) (subst C e cause))
  where
    by_result : (y : Result T EmFault) → Goes (k ∷ []) (record s { pool = lent s.pool }) t
        → Transfers (record s { pool = lent s.pool }) t
        → OnOk y (t.device.contents ≡ set s.device.contents k d)
        → IfErr y (DeviceCause (record s { pool = lent s.pool }) t)
        → StoresLeaf s (record t { pool = given t.pool }) k c y
    by_result (Ok y) h m n o = leaf_kept b sound free v some is h m n w
    by_result (Err fault) h m n o =
        let moves = m.moves in
        record {
          moves = record {
            goes = goes_with_frame (k ∷ []) s t sound free h;
            same = record { head = m.blocks.head; used = m.blocks.used; most = m.blocks.most };
            moves = omega arith;
            moved = moves;
          };
          cause = cause_framed s t fault (device_block_cause _ t fault o);
        }
