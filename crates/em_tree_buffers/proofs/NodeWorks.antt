-- A call on what stands from a node of level 1 on, and on the answers: what is left of the whole tree.
use Rattle.std.proofs.Common.{◌≡◌, ℕ, List, [], ◌++◌, sym, ap, ◌∙◌, subst, IsTrue, arith}
use Rattle.em_record.specs.declared.record.Record.{Record}
use Rattle.em_space.specs.Free.{Off}
use Rattle.em_frames.specs.Pool.{SameFrames}
use Rattle.em_space.specs.Held.{Apart, Holds}
use Rattle.em_space.specs.Ledger.{Session}
use Rattle.em_space.specs.Rig.{RigState, Touches}
use Rattle.em_space.proofs.Apart.{off_append, off_left, off_right}
use Rattle.em_space.proofs.Lists.{apart_append, apart_left, apart_right, apart_sym, distinct_apart, distinct_left, distinct_right}
use Rattle.em_space.proofs.Steps.{touches_wider}
use Rattle.em_chain.specs.Writer.{WriterStays, writer_blocks}
use Rattle.em_chain.specs.declared.writer.Writer.{Writer}
use Rattle.em_chain.proofs.Laws.{writer_stays}
use Rattle.em_tree_model.specs.Places.{put_at}
use Rattle.em_tree_blocks.specs.Paths.{IsPath, blocks_with, level_on, node_on, place_on}
use Rattle.em_tree_blocks.specs.Reading.{IsTreeAt, tree_at, tree_blocks}
use Rattle.em_tree_blocks.proofs.Paths.{around, blocks_on, changed_on, others_apart, path_stays}
use Rattle.em_tree_walk.specs.Forms.{AreFormed}
use Rattle.em_tree_walk.specs.Paid.{LosesNone}
use Rattle.em_tree_walk.proofs.Losses.{loses_as, loses_from}
use Rattle.em_trunk.specs.Trunk.{IsRunning, IsStanding, trunk_blocks}
use Rattle.em_trunk.specs.declared.trunk.Trunk.{Trunk}
use Rattle.em_trunk.proofs.Subtrees.{forms_after, loses_among, session_among}

-- A session that over a device that tells is one of more blocks.
pub session_if : {held ks js ls : List ℕ} {s t : RigState} → Session ks s t js
    → (IsTrue s.device.told → (k : ℕ) → Off k held → Off k ks)
    → (IsTrue s.device.told → Session held s t ls) → Session held s t ls
session_if {held = held} {ks = ks} {s = s} {t = t} g off whole = record {
  sound = g.sound;
  touches = touches_wider held ks s t g.touches (λ z k i o. off z k o);
  within = record { off = λ z. (whole z).within.off z };
  holds = λ z. (whole z).holds z;
}

-- What is left of a tree after a call from a node on its path on, and on the list of its answers.
pub record NodeWorked (s t : RigState) (v w : Trunk) (path : List ℕ) : Type 0 where
  pub off : (k : ℕ) → Off k (trunk_blocks s v)
      → Off k (tree_blocks (level_on path v.level) s (node_on path v.level s v.root)
      ++ writer_blocks s v.answers)
  pub session : Session (trunk_blocks s v) s t (trunk_blocks t w)
  pub loses : LosesNone (trunk_blocks s v) (trunk_blocks t w) s t
  pub reads : tree_at v.level t v.root ≡ put_at (place_on path v.level s v.root)
      (tree_at (level_on path v.level) t (node_on path v.level s v.root))
  pub stored : IsTreeAt (level_on path v.level) t (node_on path v.level s v.root)
      → IsTreeAt v.level t v.root
  pub formed : AreFormed (level_on path v.level) t (node_on path v.level s v.root)
      → AreFormed v.level t v.root

module _ (key : Record → Record) (IsOp IsKept : Record → Type 0) (s t : RigState) (v : Trunk)
    (new : Writer) (st : IsStanding key IsOp IsKept s v) (told : IsTrue s.device.told)
    (path : List ℕ) (n : IsPath path v.level s v.root) where
  abbrev inner_before : List ℕ
  inner_before = tree_blocks (level_on path v.level) s (node_on path v.level s v.root)

  abbrev inner_after : List ℕ
  inner_after = tree_blocks (level_on path v.level) t (node_on path v.level s v.root)

  abbrev others_before : List ℕ
  others_before = blocks_with path v.level s v.root []

  -- the whole tree's blocks are apart from those of the two lists
  tree_apart : Apart (tree_blocks v.level s v.root)
      (writer_blocks s v.buffer ++ writer_blocks s v.answers)
  tree_apart = distinct_apart (tree_blocks v.level s v.root)
      (writer_blocks s v.buffer ++ writer_blocks s v.answers) (st.holds.distinct told)

  pub inner_whole : (let r = around path v.level s v.root in
      tree_blocks v.level s v.root ≡ r.front ++ (inner_before ++ r.back))
  inner_whole = let r = around path v.level s v.root in
      blocks_on path v.level s v.root n ∙ r.all inner_before

  -- the node's blocks and those beside are apart from the lists
  pub parts_apart : (let r = around path v.level s v.root in
      Apart inner_before (writer_blocks s v.buffer ++ writer_blocks s v.answers)
      × Apart (r.front ++ r.back) (writer_blocks s v.buffer ++ writer_blocks s v.answers))
  parts_apart =
      let r = around path v.level s v.root in
      let lists = writer_blocks s v.buffer ++ writer_blocks s v.answers in
      let A : List ℕ → Type 0 = λ ks. Apart ks lists in
      let a = subst A inner_whole tree_apart in
      let rest = apart_right r.front (inner_before ++ r.back) lists a in (
        apart_left inner_before r.back lists rest,
        apart_append r.front r.back lists (apart_left r.front (inner_before ++ r.back) lists a)
            (apart_right inner_before r.back lists rest),
      )

  others_off : Apart others_before (inner_before ++ writer_blocks s v.answers)
  others_off =
      let r = around path v.level s v.root in
      let bu = writer_blocks s v.buffer in
      let an = writer_blocks s v.answers in
      let A : List ℕ → Type 0 = λ ks. Apart ks (bu ++ an) in
      let lists : Apart others_before (bu ++ an) = subst A (sym (r.all [])) parts_apart.1 in
      let d = distinct_left (tree_blocks v.level s v.root) (bu ++ an) (st.holds.distinct told) in
      let own = others_apart path v.level s v.root n d in
      apart_sym (inner_before ++ an) others_before (apart_append inner_before an others_before
      (apart_sym others_before inner_before own)
      (apart_right bu an others_before (apart_sym others_before (bu ++ an) lists)))

  buffer_off : Apart (writer_blocks s v.buffer) (inner_before ++ writer_blocks s v.answers)
  buffer_off =
      let bu = writer_blocks s v.buffer in
      let an = writer_blocks s v.answers in
      let d = distinct_right (tree_blocks v.level s v.root) (bu ++ an) (st.holds.distinct told) in
      apart_sym (inner_before ++ an) bu (apart_append inner_before an bu
      (apart_sym bu inner_before (apart_left bu an inner_before
      (apart_sym inner_before (bu ++ an) parts_apart.0)))
      (apart_sym bu an (distinct_apart bu an d)))

  pub held_off : (k : ℕ) → Off k (trunk_blocks s v) → Off k (inner_before ++ writer_blocks s v.answers)
  held_off k o =
      let r = around path v.level s v.root in
      let bu = writer_blocks s v.buffer in
      let an = writer_blocks s v.answers in
      let all = tree_blocks v.level s v.root in
      let O : List ℕ → Type 0 = Off k in
      let tree = subst O inner_whole (off_left k all (bu ++ an) o) in
      off_append k inner_before an
      (off_left k inner_before r.back (off_right k r.front (inner_before ++ r.back) tree))
      (off_right k bu an (off_right k all (bu ++ an) o))

  -- The whole tree after such a call.
  pub node_worked : Session (inner_before ++ writer_blocks s v.answers) s t
      (inner_after ++ writer_blocks t new)
      → LosesNone (inner_before ++ writer_blocks s v.answers) (inner_after ++ writer_blocks t new) s t
      → WriterStays s t v.buffer → NodeWorked s t v (record v { answers = new }) path
  node_worked g x stays =
      let h = g.touches in
      let bu = writer_blocks s v.buffer in
      let an = writer_blocks s v.answers in
      let r = around path v.level s v.root in
      let held = inner_before ++ an in
      let m = path_stays held s t h told path v.level v.root n st.stored others_off in
      let after : tree_blocks v.level t v.root ≡ r.front ++ (inner_after ++ r.back) =
      blocks_on path v.level t v.root m.path
      ∙ (ap (λ j. blocks_with path v.level t v.root (tree_blocks (level_on path v.level) t j)) m.node
      ∙ (m.blocks inner_after ∙ r.all inner_after)) in
      let H : List ℕ → Type 0 = λ ks. Holds s (ks ++ (bu ++ an)) in
      let mid = session_among r.front inner_before inner_after r.back bu an (writer_blocks t new)
      (λ z. subst H inner_whole st.holds) g in
      let old = (r.front ++ (inner_before ++ r.back)) ++ (bu ++ an) in
      let next = (r.front ++ (inner_after ++ r.back)) ++ (bu ++ writer_blocks t new) in
      let whole = trunk_blocks t (record v { answers = new }) in
      let P : List ℕ → Type 0 = λ ks. Session (ks ++ (bu ++ an)) s t
      ((r.front ++ (inner_after ++ r.back)) ++ (bu ++ writer_blocks t new)) in
      let Q : List ℕ → Type 0 = λ ks. Session (tree_blocks v.level s v.root ++ (bu ++ an)) s t
      (ks ++ (bu ++ writer_blocks t new)) in
      let R : List ℕ → Type 0 = λ ks. Session (tree_blocks v.level s v.root ++ (bu ++ an)) s t
      (tree_blocks v.level t v.root ++ (ks ++ writer_blocks t new)) in
      record {
        off = held_off;
        session = subst R (sym (stays.blocks told)) (subst Q (sym after) (subst P (sym inner_whole) mid));
        loses = loses_from old (trunk_blocks s v) whole s t (loses_as old next whole s t
            (loses_among r.front inner_before inner_after r.back bu an (writer_blocks t new) s t x)
            (λ z. ap (λ ks. ks ++ (writer_blocks t v.buffer ++ writer_blocks t new)) after
            ∙ ap (λ ks. (r.front ++ (inner_after ++ r.back)) ++ (ks ++ writer_blocks t new)) (stays.blocks z)))
            (λ z. ap (λ ks. ks ++ (bu ++ an)) inner_whole);
        reads = changed_on held s t h told path v.level v.root n st.stored others_off;
        stored = m.stored;
        formed = forms_after held s t h told path v.level v.root n st.stored others_off st.formed;
      }

-- The buffer of the root stays over such a call.
pub root_buffer_stays : (key : Record → Record) (IsOp IsKept : Record → Type 0) (s t : RigState)
    (v : Trunk) (path : List ℕ) → (held : List ℕ) → Touches held s t → SameFrames s.pool t.pool
    → IsRunning key IsOp IsKept s v
    → (IsTrue s.device.told → (held ≡ tree_blocks (level_on path v.level) s (node_on path v.level s v.root)
    ++ writer_blocks s v.answers) × IsPath path v.level s v.root)
    → WriterStays s t v.buffer
root_buffer_stays key IsOp IsKept s t v path held h same run on =
    writer_stays held s t v.buffer h
    (λ z. (let e = on z in
    let A : List ℕ → Type 0 = Apart (writer_blocks s v.buffer) in
    subst A (sym e.0) (buffer_off key IsOp IsKept s t v v.answers (run.stands z) z path e.1)))
    (record {
      len_is = run.frames.buffer ∙ ap (λ p. p.block) (sym h.shape);
      out = rw (same.shape, same.free) (omega (arith, run.frames.out));
    }) run.buffer
