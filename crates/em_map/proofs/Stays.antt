-- A batch stays, with its commands, over calls that leave its tree as it is.
use Rattle.std.specs.Prelude.{◌≡◌, ◌+◌, ◌<◌, ◌≤◌, ◌++◌, ℕ, Bool, List, IsTrue, Option, None, Some, IfSome}
use Rattle.std.proofs.Common.{sym, ap, subst, ◌∙◌, arith}
use Rattle.em_record.specs.Shape.{ShapeNumbers}
use Rattle.em_model.specs.declared.command.Command.{Command}
use Rattle.em_settle.specs.Add.{IsAddOp}
use Rattle.em_settle.specs.Map.{IsMapKept, map_key_of}
use Rattle.em_frames.specs.Pool.{load_of, singles_of}
use Rattle.em_space.specs.Held.{Apart}
use Rattle.em_space.specs.Rig.{RigState, Touches}
use Rattle.em_tree_model.specs.Tree.{Tree}
use Rattle.em_trunk.specs.Trunk.{TrunkHasFrames, given_by, model_of}
use Rattle.em_trunk.proofs.Stays.{TrunkStays, trunk_stays}
use Rattle.em_combine.specs.Gather.{GatherState}
use Rattle.em_map.specs.Batch.{BatchHasFrames, HasArea, HasCommands, IsBatch, IsLoad, areas_in, areas_of, batch_blocks, entered_of, rule_of, trunk_of}
use Rattle.em_map.specs.Contents.{WaitsUpTo}
use Rattle.em_map.specs.Early.{gathered_after, joined_size}
use Rattle.em_map.specs.declared.batch.Batch.{Batch}
use Rattle.em_map.proofs.Stands.{answers_alike}
use Rattle.em_map.proofs.Trees.{tree_stays}

-- the area of a load stays out
area_stays : (s t : RigState) (load : Option GatherState) → t.pool.shape ≡ s.pool.shape
    → (0 < areas_in load → t.pool.free_areas + areas_in load ≤ 2) → IfSome load (HasArea s) → IfSome load (HasArea t)
area_stays s t None shape out h = tt
area_stays s t (Some load) shape out h = record {
  capacity = h.capacity ∙ sym (ap load_of shape);
  out = let o = out (omega arith) in omega (arith, o);
}

-- its operations don't look at the rig
load_stays : (s t : RigState) (n : ℕ) (load : Option GatherState) → IfSome load (IsLoad s n) → IfSome load (IsLoad t n)
load_stays s t n None h = tt
load_stays s t n (Some load) h = record { few = h.few; ops = h.ops; follow = h.follow }

-- A call on other values leaves a batch as it is.
pub record BatchStays {F : Type 0} (s t : RigState) (b : Batch F) : Type 0 where
  pub is : IsBatch t b
  pub blocks : IsTrue s.device.told → batch_blocks t b ≡ batch_blocks s b
  pub commands : (before cs : List Command) → HasCommands s b before cs → HasCommands t b before cs

module _ {F : Type 0} (held : List ℕ) (s t : RigState) (b : Batch F) (touches : Touches held s t)
    (out : t.pool.free + 2 ≤ singles_of t.pool.shape)
    (area : 0 < areas_of b → t.pool.free_areas + areas_of b ≤ 2) where
  frames_are : TrunkHasFrames s (trunk_of b) → TrunkHasFrames t (trunk_of b)
  frames_are f = record {
    buffer = f.buffer ∙ sym (ap (λ (p : ShapeNumbers). p.block) touches.shape);
    answers = f.answers ∙ sym (ap (λ (p : ShapeNumbers). p.block) touches.shape);
    out = out;
  }

  -- what a fault leaves of it stays too
  pub batch_frames_stay : BatchHasFrames s b → BatchHasFrames t b
  batch_frames_stay f = record {
    tree = frames_are f.tree;
    area = area_stays s t b.load touches.shape area f.area;
  }

  -- while its frames and its area are out
  pub batch_beside : IsBatch s b → (IsTrue s.device.told → Apart (batch_blocks s b) held)
      → BatchStays s t b
  batch_beside i apart =
      let stays : TrunkStays map_key_of IsAddOp IsMapKept s t (trunk_of b) =
      trunk_stays map_key_of IsAddOp IsMapKept held s t (trunk_of b) touches (frames_are i.is.running.frames) i.is apart in
      let model : IsTrue s.device.told → model_of t (trunk_of b) ≡ model_of s (trunk_of b) =
      λ told. (stays.reads told).model in
      let given : IsTrue s.device.told → given_by t (trunk_of b) ≡ given_by s (trunk_of b) =
      λ told. (stays.reads told).given in
      let back : IsTrue t.device.told → IsTrue s.device.told =
      λ told. subst (λ (z : Bool). IsTrue z) touches.told told in
      record {
        is = record {
          is = stays.is;
          plain = i.plain;
          alone = i.alone;
          area = area_stays s t b.load touches.shape area i.area;
          load = load_stays s t (entered_of b) b.load i.load;
          entries = i.entries;
          longest = i.longest;
          few = i.few;
          few_adopted = i.few_adopted;
          settled = i.settled;
          unreset = i.unreset;
          uncounted = i.uncounted;
          waits = λ told. subst (λ (x : Tree). WaitsUpTo (entered_of b) x) (sym (model (back told))) (i.waits (back told));
          answers = λ told.
              let same = answers_alike (rule_of b) s t (trunk_of b) (model (back told)) (given (back told)) in
              let few = i.answers (back told) in omega (arith, same, few);
        };
        blocks = λ told. (stays.reads told).blocks;
        commands = λ before cs h. record {
          calls = h.calls;
          syncs = h.syncs;
          base = h.base;
          closed = h.closed;
          unclosed = h.unclosed;
          parts = h.parts;
          gathered = h.gathered;
          tree = tree_stays (rule_of b) s t (trunk_of b) touches.told model given before h.closed h.tree;
          loads = h.loads ∙ ap (λ (p : ShapeNumbers). gathered_after b.early (load_of p) (before ++ cs)) (sym touches.shape);
          size = h.size ∙ ap (λ (p : ShapeNumbers). joined_size b.early (load_of p) (before ++ cs)) (sym touches.shape);
        };
      }
