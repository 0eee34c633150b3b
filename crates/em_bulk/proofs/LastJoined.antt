-- A full leaf and the last one, joined.
use Rattle.std.proofs.Common.{◌≡◌, ◌+◌, ◌<◌, ◌≤◌, ◌++◌, sym, ap, ◌∙◌, subst, arith, IsTrue, Option, Some, None, Result, Ok, Err, IsErrAnd}
use Rattle.std.proofs.lemmas.List.{append-nil, length-append}
use Rattle.em_record.specs.declared.record.Record.{Record}
use Rattle.em_frames.specs.Pool.{load_of}
use Rattle.em_settle.specs.Map.{map_key_of}
use Rattle.em_space.specs.Ledger.{Runs, Stops}
use Rattle.em_space.specs.Rig.{RigState, Sound}
use Rattle.em_space.specs.declared.fault.EmFault.{EmFault}
use Rattle.em_space.specs.declared.fault.EmFault.TheVariants.{Damaged}
use Rattle.em_space.proofs.Ledgers.{full_by}
use Rattle.em_space.proofs.Paying.{pays_more}
use Rattle.em_space.proofs.Steps.{untold_by}
use Rattle.em_chain.specs.Chain.{chain_blocks, chain_items, payload_in}
use Rattle.em_chain.specs.declared.chain.Chain.{Chain}
use Rattle.em_chain.proofs.Readers.{length_items}
use Rattle.em_leaf.specs.Effects.{IsSplit, loaded_account}
use Rattle.em_leaf.specs.Fusing.{CanFuse, FewMoves, FillsParts, fused_blocks, fusing_account, fusing_blocks, fusing_room}
use Rattle.em_leaf.specs.Leaf.{AreLeafChains, high_blocks}
use Rattle.em_leaf.specs.declared.change.LeafChange.{LeafChange}
use Rattle.em_leaf.proofs.Numbers.{ceiling_few}
use Rattle.em_leaf.proofs.Parts.{fuses_whole}
use Rattle.em_tree_load.proofs.Payments.{paid_goes}
use Rattle.em_tree_trim.specs.Listed.{CanPart, PartedLeaves}
use Rattle.em_tree_trim.proofs.Parted.{can_fuse, parts_fused}
use Rattle.em_tree_trim.proofs.Runs.{full_all, paid_as}
use Rattle.em_bulk.specs.Ended.{CanJoinLast, JoinedLast, JoinsLast, StopsJoiningLast}

module _ {s : RigState} {c d : Chain} (sound : Sound s) (j : CanJoinLast s c d) (short : d.count < load_of s.pool.shape) where
  part_of : CanPart map_key_of s c d
  part_of = record { low_leaf = j.first.leaf; high_leaf = j.second.leaf; holds = j.holds; rises = j.rises }

  dense : c.blocks + d.blocks ≤ c.count + d.count
  dense =
      let low = sound.shape.block_low in
      let a = ceiling_few c.count (payload_in s) (omega (arith, low)) in
      let b = ceiling_few d.count (payload_in s) (omega (arith, low)) in
      let e = j.first.exact in
      let f = j.second.exact in
      omega (arith, a, b, e, f)

  pub fuse_can : CanFuse map_key_of s c d
  fuse_can = can_fuse sound part_of dense
      (λ (long : (load_of s.pool.shape ≤ c.count) × (load_of s.pool.shape ≤ d.count)).
      let l = long.1 in omega (arith, short, l))

  module _ {t : RigState} {change : LeafChange}
      (fills : IsTrue s.device.told → FillsParts map_key_of t (chain_items s c ++ chain_items s d) change)
      (leaves : AreLeafChains t change)
      (runs : Runs (c.blocks + d.blocks + fusing_room) (fusing_blocks s c d) (fused_blocks t change)
      (fusing_account c d) (loaded_account change) s t) (few : FewMoves s t) where
    parts : PartedLeaves map_key_of s t c d change
    parts = parts_fused sound part_of change fuse_can fills leaves runs few

    -- All records are in one leaf.
    pub joined_last : change.high ≡ None → JoinedLast s t c d change.low
    joined_last e =
        let p = runs.spends in
        let held = p.held in
        let used = p.used in
        let most = p.most in
        let moves = p.moves in
        record {
          runs = paid_as (chain_blocks t change.low) parts.runs
              (λ z. sym (ap (λ (o : Option (Record × Chain)). chain_blocks t change.low ++ high_blocks t o) e
              ∙ append-nil (chain_blocks t change.low)));
          leaf = leaves.low;
          items = λ z. fuses_whole map_key_of t (chain_items s c ++ chain_items s d) change e (fills z);
          moves = omega (arith, moves);
          peaks = record { used = omega (arith, held, used); most = omega (arith, held, used, most) };
        }

    -- There can't be two.
    never_two : {q : Record × Chain} → change.high ≡ Some q → IsTrue s.device.told → ⊥
    never_two {q} e z =
        let xs = chain_items s c in
        let ys = chain_items s d in
        let S : Option (Record × Chain) → Type 0 = λ o. IsSplit map_key_of t (xs ++ ys) change.low o in
        let over = (subst S e (fills z).split).0 in
        let a = length_items s c j.first.leaf.chain z in
        let b = length_items s d j.second.leaf.chain z in
        let n = length-append xs ys in
        let same = ap load_of runs.session.touches.shape in
        let m = j.first_size in
        omega (arith, over, a, b, n, same, m, short)

    pub damaged_last : {q : Record × Chain} → change.high ≡ Some q → StopsJoiningLast s t c d (Damaged 0)
    damaged_last {q} e =
        let p = runs.spends in
        let held = p.held in
        let used = p.used in
        let most = p.most in
        let moves = p.moves in
        let blocks = runs.session.touches.blocks in
        let some = sound.numbers.blocks_low in
        record {
          stops = record {
            goes = paid_goes parts.runs;
            pays = pays_more parts.runs.pays (omega arith);
            cause = (
              untold_by t.device.told (λ y. never_two e (sym runs.session.touches.told ∙ y)),
              omega (arith, blocks, some),
            );
          };
          full = tt;
          moves = omega (arith, moves);
          peaks = record { used = omega (arith, held, used); most = omega (arith, held, used, most) };
        }

-- They couldn't be fused.
unjoined_last : {s t : RigState} {c d : Chain} {e : EmFault} → Stops (c.blocks + d.blocks + fusing_room) 0 2
    (fusing_blocks s c d) (fusing_account c d) s t e → StopsJoiningLast s t c d e
unjoined_last {s} {t} {c} {d} {e} x =
    let h = x.halts in
    let used = h.used in
    let most = h.most in
    let moves = h.moves in
    let full = full_all s t e (c.blocks + d.blocks) (s.used + (c.blocks + d.blocks + fusing_room)) x.cause
    x.goes.touches.blocks h.full in
    record {
      stops = record { goes = x.goes; pays = h.pays; cause = x.cause };
      full = full_by e (s.blocks + (c.blocks + d.blocks) < s.used + (c.blocks + d.blocks + fusing_room))
          (s.blocks < s.used + 3) (λ k. omega (arith, k)) full;
      moves = omega (arith, moves);
      peaks = record { used = omega (arith, used); most = omega (arith, used, most) };
    }

pub joins_last_err : (s t : RigState) (c d : Chain) (result : Result Chain EmFault) (e : EmFault)
    → IsErrAnd result (λ m. m ≡ e) → Stops (c.blocks + d.blocks + fusing_room) 0 2 (fusing_blocks s c d)
    (fusing_account c d) s t e → JoinsLast s t c d result
joins_last_err s t c d (Ok x) e h y = absurd h
joins_last_err s t c d (Err m) e h y =
    subst (λ (f : EmFault). StopsJoiningLast s t c d f) (sym h) (unjoined_last y)
