-- The blocks of a new tree are those of one node over one leaf, with nothing in either.
use Rattle.std.proofs.Common.{◌≡◌, ℕ, ◌+◌, ◌<◌, ◌≤◌, List, [], ◌∷◌, ◌++◌, length, set, refl, sym, ap, ◌∙◌, subst, arith, IsTrue, IsErrAnd, Result, Ok, Err}
use Rattle.std.proofs.lemmas.List.{get_or-set_other, get_or-set_same, length-set}
use Rattle.em_record.specs.Shape.{IsShape, payload_of}
use Rattle.em_record.specs.declared.record.Record.{Record}
use Rattle.em_frames.specs.Device.{block_at, zero_record}
use Rattle.em_frames.specs.Pool.{given, lent}
use Rattle.em_space.specs.Free.{Off, header}
use Rattle.em_space.specs.Held.{Holds}
use Rattle.em_space.specs.Ledger.{Session}
use Rattle.em_space.specs.Rig.{Cause, InUse, RigState, Sound}
use Rattle.em_space.specs.declared.fault.EmFault.{EmFault}
use Rattle.em_space.specs.declared.fault.EmFault.TheVariants.{DeviceFault, Full, Damaged}
use Rattle.em_space.proofs.Framed.{in_use_given, in_use_lent}
use Rattle.em_space.proofs.Held.{apart_none, holds_kept}
use Rattle.em_space.proofs.Paying.{pays_then}
use Rattle.em_space.proofs.Sessions.{session_as, session_beside, session_trans}
use Rattle.em_space.proofs.Steps.{goes_with_frame, same_frames_then, touches_pool}
use Rattle.em_chain.specs.Chain.{IsChain, IsPacked, IsTight, chain_blocks, chain_items, empty_chain, payload_in}
use Rattle.em_chain.specs.Counts.{ceiling}
use Rattle.em_chain.specs.List.{block_header}
use Rattle.em_chain.specs.declared.chain.Chain.{Chain}
use Rattle.em_node.specs.declared.entry.Entry.{Entry}
use Rattle.em_node.specs.Node.{AreLinked, Is}
use Rattle.em_node.proofs.Seams.{entries_is, level_is, node_is}
use Rattle.em_tree_model.specs.Ranges.{least_record}
use Rattle.em_tree_model.specs.Tree.Tree.{end, entry, leaf}
use Rattle.em_tree_blocks.specs.Node.{chain_of, leaf_chain, linked_block}
use Rattle.em_tree_blocks.specs.Reading.{AreStored, IsLeafAt, IsTreeAt, entries_at, row_blocks, row_of, stored_chain, tree_at, tree_blocks}
use Rattle.em_tree_blocks.proofs.Frames.{tree_stays}
use Rattle.em_balance.specs.Node.{entry_to}
use Rattle.em_balance.specs.Stored.{StopsStoring, StoresFrame, StoresNew}
use Rattle.em_tree_cost.proofs.Ceilings.{ceiling_is}
use Rattle.em_tree_walk.specs.Forms.{AreFormed, HaveForms}
use Rattle.em_tree_load.specs.Leaves.{leaf_record, with_leaf}
use Rattle.em_tree_walk.proofs.Losses.{loses_as}
use Rattle.em_tree_walk.proofs.Takes.{runs_take, stops_beside, stops_take, stops_then, stops_wider}
use Rattle.em_trunk.specs.Planting.{Planted, Plants, StopsPlanting, fresh_root}
use Rattle.em_trunk.proofs.LeafSizes.{ceil_few}
use Rattle.em_trunk.proofs.Regrown.{fan_some}
use Rattle.em_trunk.proofs.Stays.{forms_stay}

-- A chain with no block is one on any device, packed and tight.
none_is : (s : RigState) → IsChain s empty_chain
none_is s = record {
  count_most = omega arith;
  blocks_most = omega arith;
  told = λ z. record {
    holds = record { in_use = tt; distinct = λ y. tt };
    list = record {
      run = refl;
      blocks_is = refl;
      tail_is = refl;
      count_is = refl;
      skip_fits = refl;
    };
  };
}

none_packed : (s : RigState) → IsPacked s empty_chain
none_packed s = record { is = record { skip_is = refl; full = tt } }

none_tight : (s : RigState) → IsTight s empty_chain
none_tight s = record { full = tt }

-- what is read of the block of a leaf with no record
leaf_reads : (P : ℕ) (b : List Record) → 0 < P → 1 < length b
    → leaf_chain P (with_leaf b empty_chain) ≡ empty_chain
leaf_reads P b some long =
    let first = set b 0 (block_header 0 1) in
    let n = length-set b 0 (block_header 0 1) in
    let e = get_or-set_same first 1 (leaf_record empty_chain) zero_record (omega (arith, n, long)) in
    let F : Record → Chain = λ r. chain_of (r.a ∷ r.b ∷ r.c ∷ r.d ∷ ceiling r.d P ∷ []) in
    let few = ceil_few (ceiling 0 P) P 0 some (ceiling_is 0 P some) in
    let none : ceiling 0 P ≡ 0 = omega (arith, few) in
    ap F e ∙ ap (λ c. chain_of (0 ∷ 0 ∷ 0 ∷ 0 ∷ c ∷ [])) none

leaf_header : (b : List Record) → 1 < length b → header (with_leaf b empty_chain) ≡ block_header 0 1
leaf_header b long =
    get_or-set_other (set b 0 (block_header 0 1)) 1 0 (leaf_record empty_chain) zero_record
    (λ (e : 0 ≡ 1). omega (arith, e))
    ∙ get_or-set_same b 0 (block_header 0 1) zero_record (omega (arith, long))

module _ {s m t : RigState} {f1 f2 : List Record} {leaf1 root : ℕ} (b : List Record)
    (shape : IsShape t.pool.shape)
    (long : 1 < length b) (first : StoresFrame s m f1 leaf1) (made : f1 ≡ with_leaf b empty_chain)
    (last : StoresFrame m t f2 root) (node : Is f2 1 (entry_to least_record leaf1 ∷ [])) where
  abbrev only : Entry
  only = entry_to least_record leaf1

  plant_session : Session [] s t (root ∷ leaf1 ∷ [])
  plant_session =
      let g = first.runs.session in
      session_trans g (session_beside [] [] (root ∷ []) (leaf1 ∷ [])
      (λ z. g.holds (sym g.touches.told ∙ z)) last.runs.session)

  plant_leaf : IsTrue s.device.told → block_at t.device leaf1 ≡ with_leaf b empty_chain
  plant_leaf z =
      let g = first.runs.session in
      let mid = g.touches.told ∙ z in
      (last.runs.session.touches.others mid leaf1 (g.holds z).in_use.0 tt).contents
      ∙ (first.stored z ∙ made)

  plant_chain : IsTrue s.device.told → stored_chain t leaf1 ≡ empty_chain
  plant_chain z =
      let some : 0 < payload_of t.pool.shape = omega (arith, shape.block_low) in
      ap (leaf_chain (payload_in t)) (plant_leaf z) ∙ leaf_reads (payload_in t) b some long

  plant_is : IsTrue s.device.told → IsLeafAt t leaf1
  plant_is z =
      let C : Chain → Type 0 = IsChain t in
      let K : Chain → Type 0 = IsPacked t in
      record {
        in_use = (plant_session.holds z).in_use.1.0;
        head = ap header (plant_leaf z) ∙ leaf_header b long;
        stored = subst C (sym (plant_chain z)) (none_is t);
        packed = λ y. subst K (sym (plant_chain z)) (none_packed t);
      }

  plant_node : IsTrue s.device.told → Is (block_at t.device root) 1 (only ∷ [])
  plant_node z =
      let N : List Record → Type 0 = λ x. Is x 1 (only ∷ []) in
      subst N (sym (last.stored (first.runs.session.touches.told ∙ z))) node

  plant_entries : IsTrue s.device.told → entries_at t root ≡ only ∷ []
  plant_entries z = entries_is (block_at t.device root) 1 (only ∷ []) (plant_node z)

  back : linked_block only.child ≡ leaf1
  back = omega arith

  plant_blocks : IsTrue s.device.told → tree_blocks 1 t root ≡ root ∷ leaf1 ∷ []
  plant_blocks z =
      ap (λ (es : List Entry). root ∷ row_blocks (tree_blocks 0 t) t es) (plant_entries z)
      ∙ (ap (λ (k : ℕ). root ∷ (tree_blocks 0 t k ++ [])) back
      ∙ ap (λ (c : Chain). root ∷ leaf1 ∷ (chain_blocks t c ++ [])) (plant_chain z))

  plant_reads : IsTrue s.device.told → tree_at 1 t root ≡ fresh_root
  plant_reads z =
      ap (λ (es : List Entry). row_of (tree_at 0 t) t es) (plant_entries z)
      ∙ (ap (λ (k : ℕ). entry least_record [] (tree_at 0 t k) end) back
      ∙ ap (λ (c : Chain). entry least_record [] (leaf (chain_items t c)) end) (plant_chain z))

  plant_stored : IsTrue s.device.told → IsTreeAt 1 t root
  plant_stored z =
      let n = plant_node z in
      let es = plant_entries z in
      let h = last.runs.session.touches in
      let g = first.runs.session.touches in
      let L : List Entry → Type 0 = AreLinked t.blocks in
      let A : List Entry → Type 0 = AreStored (IsTreeAt 0 t) t in
      let I : ℕ → Type 0 = IsTreeAt 0 t in
      let below = first.below in
      let few : leaf1 + 1 ≤ t.blocks = omega (arith, below, g.blocks, h.blocks) in
      let count = ap length es in
      let some = fan_some shape in (
        record {
          in_use = (plant_session.holds z).in_use.0;
          block = record {
            node = node_is (block_at t.device root) 1 (only ∷ []) n;
            few = omega (arith, count, some);
            linked = subst L (sym es) (
              record {
                child_some = omega arith;
                child_most = few;
                head_most = omega arith;
                tail_most = omega arith;
              },
              tt,
            );
          };
          level = level_is (block_at t.device root) 1 (only ∷ []) n;
        },
        subst A (sym es) (none_is t, subst I (sym back) (plant_is z), tt),
      )

  plant_formed : IsTrue s.device.told → AreFormed 1 t root
  plant_formed z =
      let F : List Entry → Type 0 = HaveForms (IsTight t) (λ (k : ℕ). Unit {0}) in
      subst F (sym (plant_entries z)) (none_tight t, tt, tt)

  plant_root : InUse t root
  plant_root =
      let g = last.runs.session in
      let below = last.below in
      record {
        told = λ z. (g.holds (sym g.touches.told ∙ z)).in_use.0.told z;
        untold = λ z. omega (arith, below, g.touches.blocks);
      }

  -- Both blocks are those of a new tree.
  pub planted : Planted s t root
  planted =
      let a = first.runs in
      let c = last.runs in
      let one = a.spends.used in
      let other = c.spends.used in
      let high = a.spends.most in
      let higher = c.spends.most in
      record {
        session = session_as (tree_blocks 1 t root) plant_session plant_blocks;
        frames = same_frames_then s.pool m.pool t.pool a.frames c.frames;
        pays = pays_then a.spends.pays c.spends.pays c.session.touches.moves;
        used = omega (arith, one, other);
        most = omega (arith, one, high, higher);
        loses = loses_as [] (root ∷ leaf1 ∷ []) (tree_blocks 1 t root) s t
            (λ z. omega (arith, one, other)) plant_blocks;
        moves = omega (arith, a.spends.moves, c.spends.moves);
        in_use = plant_root;
        reads = plant_reads;
        stored = plant_stored;
        formed = plant_formed;
      }

-- The first of two blocks wasn't stored,
pub plants_first : {s t : RigState} (fault : EmFault) → StopsStoring s t fault → StopsPlanting s t fault
plants_first fault x = stops_wider 2 4 (omega arith) (omega arith) (stops_take {n = 0} x.stops)

-- or the second.
pub plants_second : {s m t : RigState} {f1 : List Record} {leaf1 : ℕ} (fault : EmFault)
    → StoresFrame s m f1 leaf1 → StopsStoring m t fault → StopsPlanting s t fault
plants_second {leaf1 = leaf1} fault a x = stops_then (runs_take {n = 0} a.runs refl refl)
    (stops_beside [] [] (leaf1 ∷ []) (stops_take {n = 0} x.stops))

-- The same with a frame that was lent around it.
module _ {s : RigState} (u : RigState) (sound : Sound s) (free : 0 < s.pool.free) where
  framed_one : {root : ℕ} → Planted (record s { pool = lent s.pool }) u root
      → Planted s (record u { pool = given u.pool }) root
  framed_one {root} p =
      let t = record u { pool = given u.pool } in
      let h = touches_pool u (given u.pool) refl in
      let w = goes_with_frame [] s u sound free
      (record { sound = p.session.sound; touches = p.session.touches; frames = p.frames }) in
      let ks = tree_blocks 1 u root in
      let stays = λ (z : IsTrue s.device.told). tree_stays [] u t h (p.session.touches.told ∙ z) 1 root
      (apart_none ks) (p.stored z) in
      record {
        session = record {
          sound = w.sound;
          touches = w.touches;
          within = record {
            off = λ z j i o. (let O : List ℕ → Type 0 = Off j in
                subst O (sym (stays z).blocks) (p.session.within.off z j (in_use_lent i) o));
          };
          holds = λ z. (let H : List ℕ → Type 0 = Holds t in
              subst H (sym (stays z).blocks) (holds_kept [] u t ks h (λ y. apart_none ks) (p.session.holds z)));
        };
        frames = w.frames;
        pays = record { is = p.pays.is };
        used = p.used;
        most = p.most;
        loses = loses_as [] ks (tree_blocks 1 t root) s t (λ z. p.loses z) (λ z. (stays z).blocks);
        moves = p.moves;
        in_use = in_use_given p.in_use;
        reads = λ z. (stays z).tree ∙ p.reads z;
        stored = λ z. (stays z).is;
        formed = λ z. forms_stay [] u t h (p.session.touches.told ∙ z) 1 root (apart_none ks) (p.stored z)
            (p.formed z);
      }

  framed_cause : (e : EmFault) → Cause (record s { pool = lent s.pool }) u e
      → Cause s (record u { pool = given u.pool }) e
  framed_cause DeviceFault c = c
  framed_cause (Full used) c = c
  framed_cause (Damaged block) c = c

  framed_none : {fault : EmFault} → StopsPlanting (record s { pool = lent s.pool }) u fault
      → StopsPlanting s (record u { pool = given u.pool }) fault
  framed_none {fault} p = record {
    goes = goes_with_frame [] s u sound free p.goes;
    used = p.used;
    most = p.most;
    moves = p.moves;
    pays = record { is = p.pays.is };
    full = p.full;
    cause = framed_cause fault p.cause;
  }

  framed_both : (result : Result ℕ EmFault) → Plants (record s { pool = lent s.pool }) u result
      → Plants s (record u { pool = given u.pool }) result
  framed_both (Ok root) p = framed_one p
  framed_both (Err fault) p = framed_none p

pub plants_framed : {s a t : RigState} (u : RigState) (result : Result ℕ EmFault) → Sound s → 0 < s.pool.free
    → a ≡ record s { pool = lent s.pool } → Plants a u result → t ≡ record u { pool = given u.pool }
    → Plants s t result
plants_framed {s} {a} {t} u result sound free before p after =
    let A : RigState → Type 0 = λ x. Plants x u result in
    let B : RigState → Type 0 = λ x. Plants s x result in
    subst B (sym after) (framed_both u sound free result (subst A before p))

-- by the result of the first call,
pub plants_err : {s t : RigState} (result : Result ℕ EmFault) (fault : EmFault)
    → IsErrAnd result (λ f. f ≡ fault) → StopsStoring s t fault → Plants s t result
plants_err (Ok x) fault i h = absurd i
plants_err {s} {t} (Err f) fault i h =
    let P : EmFault → Type 0 = StopsPlanting s t in subst P (sym i) (plants_first fault h)

-- and of the last one
pub plants_last : {s m : RigState} (t : RigState) {f1 f2 : List Record} (b : List Record)
    {leaf1 : ℕ} {stored : Chain} (result : Result ℕ EmFault) → 1 < length b → StoresFrame s m f1 leaf1
    → f1 ≡ with_leaf b stored → stored ≡ empty_chain
    → Is f2 1 (entry_to least_record leaf1 ∷ []) → StoresNew m t f2 result → Plants s t result
plants_last t b (Ok root) long first made none node x =
    planted b x.runs.session.sound.shape long first (made ∙ ap (with_leaf b) none) x node
plants_last t b (Err fault) long first made none node x = plants_second fault first x
