-- A call that changes the nodes of a tree, and leaves the two lists that are being written alone.
use Rattle.std.proofs.Common.{◌≡◌, ℕ, ◌+◌, ◌≤◌, List, [], ◌++◌, length, ap, ◌∙◌, IsTrue, arith, ◌-◌, drop}
use Rattle.em_record.specs.declared.record.Record.{Record}
use Rattle.em_frames.specs.Pool.{SameFrames, singles_of}
use Rattle.em_space.specs.Held.{Apart, contents_of}
use Rattle.em_space.specs.Ledger.{Session}
use Rattle.em_space.specs.Rig.{RigState, Sound, Touches}
use Rattle.em_space.proofs.Lists.{apart_left, apart_right, apart_sym, distinct_apart}
use Rattle.em_space.proofs.Sessions.{session_as, session_beside}
use Rattle.em_space.specs.Free.{linked_from}
use Rattle.em_chain.specs.Writer.{WriterStays, writer_blocks, IsWriter, pending, writer_items}
use Rattle.em_chain.proofs.Laws.{writer_stays}
use Rattle.em_chain.specs.List.{items_in}
use Rattle.em_chain.specs.declared.writer.Writer.{Writer}
use Rattle.em_tree_blocks.specs.Reading.{tree_blocks}
use Rattle.em_tree_walk.specs.Paid.{LosesNone}
use Rattle.em_tree_walk.proofs.Losses.{loses_as, loses_beside}
use Rattle.em_trunk.specs.Trunk.{AreTrunkNumbers, IsRunning, TrunkHasFrames, trunk_blocks}
use Rattle.em_trunk.specs.declared.trunk.Trunk.{Trunk}

-- One call after another, of which the blocks that both touched are told of a device that tells alone.
pub touches_told : {xs ys held : List ℕ} {s a t : RigState} → Touches xs s a → Touches ys a t
    → (IsTrue s.device.told → Touches held s t) → Touches held s t
touches_told h g f = record {
  name = g.name ∙ h.name;
  told = g.told ∙ h.told;
  blocks = g.blocks ∙ h.blocks;
  shape = g.shape ∙ h.shape;
  faults = omega (arith, h.faults, g.faults);
  most = omega (arith, h.most, g.most);
  moves = omega (arith, h.moves, g.moves);
  others = λ z. (f z).others z;
}

-- the two lists after the call
pub record ListsStay (s t : RigState) (v : Trunk) : Type 0 where
  pub session : Session (trunk_blocks s v) s t (trunk_blocks t v)
  pub loses : LosesNone (trunk_blocks s v) (trunk_blocks t v) s t
  pub buffer : WriterStays s t v.buffer
  pub answers : WriterStays s t v.answers
  pub frames : TrunkHasFrames t v
  pub numbers : AreTrunkNumbers t v

pub lists_stay_by : {key : Record → Record} {IsOp IsKept : Record → Type 0} {s t : RigState} {v : Trunk}
    → IsRunning key IsOp IsKept s v → Sound t → SameFrames s.pool t.pool
    → Touches (tree_blocks v.level s v.root) s t
    → (IsTrue s.device.told
    → Session (tree_blocks v.level s v.root) s t (tree_blocks v.level t v.root))
    → LosesNone (tree_blocks v.level s v.root) (tree_blocks v.level t v.root) s t → ListsStay s t v
lists_stay_by {s = s} {t = t} {v = v} i sound f h g x =
    let tree = tree_blocks v.level s v.root in
    let b = writer_blocks s v.buffer in
    let a = writer_blocks s v.answers in
    let off = λ (z : IsTrue s.device.told).
    (let x : Apart (b ++ a) tree = apart_sym tree (b ++ a)
    (distinct_apart tree (b ++ a) ((i.stands z).holds.distinct z)) in x) in
    let out : t.pool.free + 2 ≤ singles_of t.pool.shape = rw (f.free, f.shape) i.frames.out in
    let len_b : length v.buffer.frame ≡ t.pool.shape.block = rw (f.shape) i.frames.buffer in
    let len_a : length v.answers.frame ≡ t.pool.shape.block = rw (f.shape) i.frames.answers in
    let buffer = writer_stays tree s t v.buffer h (λ z. apart_left b a tree (off z))
    (record { len_is = len_b; out = omega (arith, out) }) i.buffer in
    let answers = writer_stays tree s t v.answers h (λ z. apart_right b a tree (off z))
    (record { len_is = len_a; out = omega (arith, out) }) i.answers in
    let new = tree_blocks v.level t v.root in
    let same = λ (y : IsTrue s.device.told).
    (let e : trunk_blocks t v ≡ new ++ (b ++ a) =
    ap (λ ks. new ++ (ks ++ writer_blocks t v.answers)) (buffer.blocks y)
    ∙ ap (λ ks. new ++ (b ++ ks)) (answers.blocks y) in e) in
    let told = λ (z : IsTrue s.device.told).
    (let w : Session (trunk_blocks s v) s t (trunk_blocks t v) =
    session_as (trunk_blocks t v) (session_beside [] tree new (b ++ a) (λ y. (i.stands y).holds) (g z))
    same in w) in
    let n = i.numbers in
    record {
      session = record {
        sound = sound;
        touches = record {
          name = h.name;
          told = h.told;
          blocks = h.blocks;
          shape = h.shape;
          faults = h.faults;
          most = h.most;
          moves = h.moves;
          others = λ z. (told z).touches.others z;
        };
        within = record { off = λ z. (told z).within.off z };
        holds = λ z. (told z).holds z;
      };
      loses = loses_as (trunk_blocks s v) (new ++ (b ++ a)) (trunk_blocks t v) s t
          (loses_beside [] tree new (b ++ a) s t x) same;
      buffer = buffer;
      answers = answers;
      frames = record { buffer = len_b; answers = len_a; out = out };
      numbers = record {
        level_some = n.level_some;
        level_most = n.level_most;
        since_most = n.since_most;
        longest_most = n.longest_most;
        pushed_most = n.pushed_most;
        settled_most = n.settled_most;
        resets_most = n.resets_most;
        adopted_most = n.adopted_most;
        counted_most = n.counted_most;
        spent_most = omega (arith, n.spent_most, h.moves);
        root_below = rw (h.blocks) n.root_below;
      };
    }

-- a writer with no block has no record
pub no_items : (s : RigState) (w : Writer) → IsWriter s w → w.blocks ≡ 0 → writer_items s w ≡ []
no_items s w i e =
    let f : ℕ → ℕ → ℕ → List Record = λ skip blocks tail.
    drop skip (items_in (contents_of s (linked_from (blocks - 1) s.device.contents w.head)
    ++ pending tail w.frame)) in
    ap (λ n. f n w.blocks w.tail) (i.last.none_skip e)
    ∙ (ap (λ n. f 0 n w.tail) e ∙ ap (f 0 0) (i.last.none e))
