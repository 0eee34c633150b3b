-- The root's buffer is emptied into the root: a step of a call.
use Rattle.std.proofs.Common.{◌≡◌, ℕ, suc, List, ◌∷◌, ◌++◌, sym, ap, ◌∙◌, subst, IsTrue, append_assoc}
use Rattle.std.specs.Prelude.{Option}
use Rattle.std.proofs.lemmas.List.{append-nil}
use Rattle.em_record.specs.declared.record.Record.{Record}
use Rattle.em_space.specs.Held.{Apart, Holds}
use Rattle.em_space.specs.Ledger.{Session}
use Rattle.em_space.specs.Rig.{RigState}
use Rattle.em_space.proofs.Lists.{distinct_apart, distinct_left, in_use_left}
use Rattle.em_space.proofs.Sessions.{session_last, session_none, session_trans}
use Rattle.em_space.proofs.Within.{within_same}
use Rattle.em_chain.specs.Chain.{chain_blocks}
use Rattle.em_chain.specs.Writer.{writer_blocks}
use Rattle.em_chain.specs.declared.chain.Chain.{Chain}
use Rattle.em_tree_blocks.specs.Reading.{IsTreeAt, entries_at, row_blocks, tree_blocks}
use Rattle.em_tree_blocks.proofs.Frames.{TreeStays, tree_stays}
use Rattle.em_tree_walk.specs.Paid.{LosesNone}
use Rattle.em_tree_walk.proofs.Losses.{loses_as, loses_still, loses_then}
use Rattle.em_empty.specs.Effects.{EmptiedAt}
use Rattle.em_trunk.specs.Lists.{TookAll}
use Rattle.em_trunk.specs.Works.{CanWork}
use Rattle.em_trunk.specs.Trunk.{IsStanding}
use Rattle.em_trunk.specs.declared.trunk.Trunk.{Trunk}
use Rattle.em_trunk.proofs.Mixed.{Mixes, all_left, all_right, holds_mixed, left, loses_held, mixes_append, session_held}
use Rattle.em_tree_buffers.proofs.RootLowered.{RootLowered, root_lowered}

-- one list before another
mixes_front : (xs ys : List ℕ) → Mixes xs ys (xs ++ ys)
mixes_front xs ys =
    let P : List ℕ → Type 0 = λ zs. Mixes zs ys (xs ++ ys) in
    subst P (append-nil xs) (mixes_append (all_left xs) (all_right ys))

-- and after it
mixes_back : (xs ys : List ℕ) → Mixes xs ys (ys ++ xs)
mixes_back xs ys =
    let P : List ℕ → Type 0 = λ zs. Mixes xs zs (ys ++ xs) in
    subst P (append-nil ys) (mixes_append (all_right ys) (all_left xs))

-- The blocks of the tree and of its buffer, over the first call, and over both.
module _ (key : Record → Record) (IsOp IsKept : Record → Type 0) (l : ℕ) (s a : RigState) (v w : Trunk)
    (c : Chain) (level : v.level ≡ suc l) (can : CanWork key IsOp IsKept s v) (took : TookAll s a v w c)
    (told : IsTrue s.device.told) where
  st : IsStanding key IsOp IsKept s v
  st = can.running.stands told

  told_a : IsTrue a.device.told
  told_a = took.goes.touches.told ∙ told

  stored : IsTreeAt (suc l) s v.root
  stored =
      let P : ℕ → Type 0 = λ n. IsTreeAt n s v.root in
      subst P level st.stored

  blocks_level : tree_blocks v.level s v.root ≡ tree_blocks (suc l) s v.root
  blocks_level = ap (λ n. tree_blocks n s v.root) level

  both_hold : Holds s (tree_blocks (suc l) s v.root ++ writer_blocks s v.buffer)
  both_hold =
      let tree = tree_blocks v.level s v.root in
      let b = writer_blocks s v.buffer in
      let x = writer_blocks s v.answers in
      let P : List ℕ → Type 0 = λ ks. Holds s ks in
      let Q : List ℕ → Type 0 = λ ks. Holds s (ks ++ b) in
      let h = subst P (sym (append_assoc tree b x)) st.holds in
      subst Q blocks_level (record {
        in_use = in_use_left s (tree ++ b) x h.in_use;
        distinct = λ z. distinct_left (tree ++ b) x (h.distinct z);
      })

  pub tree_apart : Apart (tree_blocks (suc l) s v.root) (writer_blocks s v.buffer)
  tree_apart = distinct_apart (tree_blocks (suc l) s v.root) (writer_blocks s v.buffer)
      (both_hold.distinct told)

  pub tree_kept : TreeStays (suc l) s a v.root
  tree_kept = tree_stays (writer_blocks s v.buffer) s a took.goes.touches told (suc l) v.root tree_apart
      stored

  chain_session : Session (writer_blocks s v.buffer) s a (chain_blocks a c)
  chain_session =
      let b = writer_blocks s v.buffer in
      let same = took.finishes.blocks told in
      let P : List ℕ → Type 0 = λ ks. Session b s a ks in
      let H : List ℕ → Type 0 = Holds a in
      subst P (sym same) (record {
        sound = took.goes.sound;
        touches = took.goes.touches;
        within = within_same s b;
        holds = λ z. subst H same (took.finishes.is.told told_a).holds;
      })

  pub first_session : Session (tree_blocks (suc l) s v.root ++ writer_blocks s v.buffer) s a
      (tree_blocks (suc l) a v.root ++ chain_blocks a c)
  first_session =
      let tree = tree_blocks (suc l) s v.root in
      let b = writer_blocks s v.buffer in
      let P : List ℕ → Type 0 = λ ks. Session (tree ++ b) s a (ks ++ chain_blocks a c) in
      subst P (sym tree_kept.blocks)
      (session_last tree b (chain_blocks a c) (session_none s (tree ++ b) can.sound (λ z. both_hold))
      chain_session)

  pub poured_hold : Holds a (v.root ∷ (chain_blocks a c
      ++ row_blocks (tree_blocks l a) a (entries_at a v.root)))
  poured_hold = holds_mixed (left v.root (mixes_back (row_blocks (tree_blocks l a) a (entries_at a v.root))
      (chain_blocks a c))) (first_session.holds told)

  module _ (t : RigState) (least : Option ℕ) (done : EmptiedAt key a t v.root c least) where
    pub lowered : RootLowered key l a t v.root c
    lowered = root_lowered key l a t v.root c least told_a tree_kept.is poured_hold done
        took.finishes.is

    pub both_session : Session (tree_blocks (suc l) s v.root ++ writer_blocks s v.buffer) s t
        (tree_blocks (suc l) t v.root)
    both_session =
        let row = row_blocks (tree_blocks l a) a (entries_at a v.root) in
        let chain = chain_blocks a c in
        session_trans first_session
        (session_held (left v.root (mixes_back row chain)) (mixes_front (v.root ∷ row) chain) lowered.session)

    pub both_loses : LosesNone (tree_blocks (suc l) s v.root ++ writer_blocks s v.buffer)
        (tree_blocks (suc l) t v.root) s t
    both_loses =
        let row = row_blocks (tree_blocks l a) a (entries_at a v.root) in
        let chain = chain_blocks a c in
        let tree = tree_blocks (suc l) s v.root in
        let held = tree ++ writer_blocks s v.buffer in
        let mid = tree_blocks (suc l) a v.root ++ chain in
        let first = loses_as held held mid s a (loses_still held s a took.same.used)
        (λ z. ap (λ (ks : List ℕ). ks ++ chain) tree_kept.blocks
        ∙ ap (λ (ks : List ℕ). tree ++ ks) (took.finishes.blocks z)) in
        loses_then held mid (tree_blocks (suc l) t v.root) s a t took.goes.touches.told first
        (loses_held (tree_blocks (suc l) t v.root) a t (left v.root (mixes_back row chain))
        (mixes_front (v.root ∷ row) chain) lowered.loses)
