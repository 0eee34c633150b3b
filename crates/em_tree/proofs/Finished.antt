-- The release of a tree's nodes and leaves.
use Rattle.std.proofs.Common.{◌≡◌, ℕ, ◌+◌, ◌-◌, min, List, [], ◌++◌, length, sym, ap, ◌∙◌, subst, arith, length-append}
use Rattle.std.proofs.Math.Nat.{min-le_left}
use Rattle.em_record.specs.declared.record.Record.{Record}
use Rattle.em_frames.specs.Pool.{SameFrames}
use Rattle.em_space.specs.Free.{linked_from}
use Rattle.em_space.specs.Held.{Holds}
use Rattle.em_space.specs.Ledger.{Session}
use Rattle.em_space.specs.Rig.{RigState, Touches}
use Rattle.em_space.specs.declared.fault.EmFault.{EmFault}
use Rattle.em_space.proofs.Apart.{off_left}
use Rattle.em_space.proofs.Ledgers.{full_never}
use Rattle.em_space.proofs.Lists.{apart_sym, distinct_apart}
use Rattle.em_space.proofs.Paying.{pays_kept, pays_more}
use Rattle.em_space.proofs.Sessions.{session_as, session_beside}
use Rattle.em_space.proofs.Steps.{block_cause, touches_wider}
use Rattle.em_chain.specs.Writer.{IsWriter, WriterStays, linked, writer_blocks}
use Rattle.em_chain.specs.declared.writer.Writer.{Writer}
use Rattle.em_chain.proofs.Laws.{writer_stays}
use Rattle.em_tree_blocks.specs.Reading.{tree_blocks}
use Rattle.em_tree_load.specs.Releases.{ReleasedTree, StopsReleasing}
use Rattle.em_tree.specs.Finishing.{ReleasedTrunk, StopsRelease}
use Rattle.em_trunk.specs.Works.{IsDrained}
use Rattle.em_trunk.specs.Trunk.{IsRunning, TrunkHasFrames, trunk_blocks, trunk_unstored}
use Rattle.em_trunk.specs.declared.trunk.Trunk.{Trunk}
use Rattle.em_trunk.proofs.StepWorks.{frames_same}

-- a writer with no block
no_blocks : (s : RigState) (w : Writer) → IsWriter s w → w.blocks ≡ 0 → writer_blocks s w ≡ []
no_blocks s w i e =
    let tail = i.last.none e in
    ap (λ n. linked_from (n - 1) s.device.contents w.head ++ linked w.tail) e ∙ ap linked tail

module _ (key : Record → Record) (IsOp IsKept : Record → Type 0) {s : RigState} {v : Trunk}
    (run : IsRunning key IsOp IsKept s v) (drained : IsDrained v) where
  -- the blocks of the tree, and then those of its answers
  blocks_are : trunk_blocks s v ≡ tree_blocks v.level s v.root ++ writer_blocks s v.answers
  blocks_are = ap (λ ks. tree_blocks v.level s v.root ++ (ks ++ writer_blocks s v.answers))
      (no_blocks s v.buffer run.buffer drained.unwritten)

  -- a release that gave up or not leaves the answers alone
  answers_stay : {t : RigState} → Touches (tree_blocks v.level s v.root) s t
      → SameFrames s.pool t.pool → WriterStays s t v.answers
  answers_stay {t = t} h same =
      let tree = tree_blocks v.level s v.root in
      let an = writer_blocks s v.answers in
      let H : List ℕ → Type 0 = Holds s in
      let f : TrunkHasFrames t v = frames_same same run.frames in
      writer_stays tree s t v.answers h
      (λ z. apart_sym tree an (distinct_apart tree an
      ((subst H blocks_are (run.stands z).holds).distinct z)))
      (record { len_is = f.answers; out = omega (arith, f.out) }) run.answers

  -- The nodes and leaves were released: the answers stay.
  pub trunk_released : {t : RigState} → ReleasedTree s t v.level v.root → ReleasedTrunk s t v
  trunk_released {t = t} x =
      let tree = tree_blocks v.level s v.root in
      let an = writer_blocks s v.answers in
      let H : List ℕ → Type 0 = Holds s in
      let S : List ℕ → Type 0 = λ ks. Session ks s t an in
      let kept = answers_stay x.session.touches x.frames in
      let few = min-le_left v.buffer.blocks 1 in
      let session : Session (tree ++ an) s t an =
      session_beside [] tree [] an (λ z. subst H blocks_are (run.stands z).holds) x.session in
      record {
        session = session_as (writer_blocks t v.answers) (subst S (sym blocks_are) session) kept.blocks;
        same_frames = x.frames;
        frames = frames_same x.frames run.frames;
        answers = kept.is;
        pays = pays_more (pays_kept (min v.answers.blocks 1) x.frees.used x.session.touches.moves)
            (omega (arith, few, drained.unwritten));
        moves = x.frees.moves;
        used = λ z.
            let n = ap length blocks_are ∙ length-append tree an in
            let m = (run.answers.told z).list.blocks_is in
            let a = x.all z in
            omega (arith, n, m, a);
        given = kept.items;
        most = x.frees.most;
        packed = λ z. kept.packed z (run.stands z).answers_packed;
      }

  -- They weren't.
  pub trunk_left : {t : RigState} {fault : EmFault} → StopsReleasing s t v.level v.root fault
      → StopsRelease s t v fault
  trunk_left {t = t} {fault = fault} x = record {
    goes = record {
      sound = x.goes.sound;
      touches = touches_wider (trunk_blocks s v) (tree_blocks v.level s v.root) s t x.goes.touches
          (λ z k u o. off_left k (tree_blocks v.level s v.root)
          (writer_blocks s v.buffer ++ writer_blocks s v.answers) o);
      frames = x.goes.frames;
    };
    frames = frames_same x.goes.frames run.frames;
    pays = pays_kept (trunk_unstored v) x.frees.used x.goes.touches.moves;
    moves = x.frees.moves;
    most = x.frees.most;
    full = full_never s t fault ⊥ x.cause;
    cause = block_cause s t fault x.cause;
  }
