-- A batch over calls that change the pool alone: an area that is lent, or comes back.
use Rattle.std.specs.Prelude.{◌≡◌, Bool, ℕ, ◌-◌, List, [], length, IsTrue}
use Rattle.std.proofs.Common.{sym, ap, subst, ◌∙◌, arith}
use Rattle.em_record.specs.declared.record.Record.{Record}
use Rattle.em_record.specs.Shape.{ShapeNumbers}
use Rattle.em_model.specs.Map.{Combiner}
use Rattle.em_model.specs.declared.command.Command.{Command}
use Rattle.em_settle.specs.Add.{IsAddOp}
use Rattle.em_settle.specs.Map.{IsMapKept, map_key_of}
use Rattle.em_frames.specs.Pool.{singles_of}
use Rattle.em_space.specs.Ledger.{Session}
use Rattle.em_space.specs.Queue.{Pays}
use Rattle.em_space.specs.Rig.{RigState, Sound, Touches}
use Rattle.em_space.proofs.Held.{apart_none}
use Rattle.em_space.proofs.Paying.{pays_kept}
use Rattle.em_space.proofs.Sessions.{session_as, session_still}
use Rattle.em_tree_model.specs.Tree.{Tree}
use Rattle.em_trunk.specs.Trunk.{IsTrunk, TrunkHasFrames, trunk_blocks}
use Rattle.em_trunk.specs.declared.trunk.Trunk.{Trunk}
use Rattle.em_trunk.proofs.Stays.{TrunkStays, trunk_stays}
use Rattle.em_map.specs.Batch.{TreeHas, rule_of, trunk_of}
use Rattle.em_map.specs.Contents.{WaitsUpTo}
use Rattle.em_map.specs.Loading.{answers_in}
use Rattle.em_map.specs.declared.batch.Batch.{Batch}
use Rattle.em_map.proofs.Stands.{Stands, answers_alike}
use Rattle.em_map.proofs.Trees.{tree_stays}

-- Only the pool is another, and as many single frames are free.
pub record MovesPool (s t : RigState) : Type 0 where
  pub sound : Sound t
  pub touches : Touches [] s t
  pub free : t.pool.free ≡ s.pool.free
  pub same : t ≡ record s { pool = t.pool }

module _ (s t : RigState) (v : Trunk) (m : MovesPool s t) (i : IsTrunk map_key_of IsAddOp IsMapKept s v) where
  pub frames_lent : TrunkHasFrames t v
  frames_lent =
      let f = i.running.frames in
      let block : t.pool.shape.block ≡ s.pool.shape.block = ap (λ (p : ShapeNumbers). p.block) m.touches.shape in
      let singles : singles_of t.pool.shape ≡ singles_of s.pool.shape = ap singles_of m.touches.shape in
      record {
        buffer = f.buffer ∙ sym block;
        answers = f.answers ∙ sym block;
        out = omega (arith, f.out, m.free, singles);
      }

  pub trunk_lent : TrunkStays map_key_of IsAddOp IsMapKept s t v
  trunk_lent = trunk_stays map_key_of IsAddOp IsMapKept [] s t v m.touches frames_lent i
      (λ told. apart_none (trunk_blocks s v))

  -- what a tree has
  pub tree_lent : (apply : Combiner) (before cs : List Command) → TreeHas apply s v before cs → TreeHas apply t v before cs
  tree_lent apply before cs h = tree_stays apply s t v m.touches.told (λ told. (trunk_lent.reads told).model)
      (λ told. (trunk_lent.reads told).given) before cs h

  -- its blocks
  pub session_lent : Session (trunk_blocks s v) s t (trunk_blocks t v)
  session_lent = session_as (trunk_blocks t v)
      (session_still (trunk_blocks s v) m.sound m.touches (λ told. (i.running.stands told).holds))
      (λ told. (trunk_lent.reads told).blocks)

  pub used_lent : t.used ≡ s.used
  used_lent = ap (λ (x : RigState). x.used) m.same

  pub moves_lent : t.moves ≡ s.moves
  moves_lent = ap (λ (x : RigState). x.moves) m.same

  pub most_lent : t.most ≡ s.most
  most_lent = ap (λ (x : RigState). x.most) m.same

  pub blocks_lent : IsTrue s.device.told → length (trunk_blocks t v) ≡ length (trunk_blocks s v)
  blocks_lent told = ap (λ (ks : List ℕ). length ks) (trunk_lent.reads told).blocks

  pub pays_lent : (n : ℕ) → Pays n n s t
  pays_lent n = pays_kept n (omega (arith, used_lent)) (omega (arith, moves_lent))

-- A batch stands as before.
pub stands_lent : {F : Type 0} (s t : RigState) (b : Batch F) (ops : List Record) → MovesPool s t → Stands s b ops
    → Stands t b ops
stands_lent s t b ops m i =
    let v = trunk_of b in
    let stays = trunk_lent s t v m i.is in
    let back : IsTrue t.device.told → IsTrue s.device.told = λ told.
    subst (λ (z : Bool). IsTrue z) m.touches.told told in
    record {
      is = stays.is;
      entries = i.entries;
      longest = i.longest;
      few = i.few;
      few_adopted = i.few_adopted;
      settled = i.settled;
      unreset = i.unreset;
      uncounted = i.uncounted;
      waits = λ told. subst (λ (x : Tree). WaitsUpTo (b.calls - length ops) x)
          (sym (stays.reads (back told)).model) (i.waits (back told));
      answers = λ told.
          let r = stays.reads (back told) in
          let same : answers_in (rule_of b) t v ≡ answers_in (rule_of b) s v = answers_alike (rule_of b) s t v r.model r.given in
          let few = i.answers (back told) in omega (arith, same, few);
    }
