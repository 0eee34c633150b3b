-- A new tree, from its blocks and its two lists.
use Rattle.std.proofs.Common.{◌≡◌, ℕ, ◌+◌, ◌-◌, ◌≤◌, List, [], ◌++◌, refl, sym, ap, ◌∙◌, subst, arith, IsTrue}
use Rattle.std.proofs.lemmas.List.{append-nil}
use Rattle.em_space.specs.Free.{Off}
use Rattle.em_space.specs.Held.{Holds}
use Rattle.em_space.specs.Queue.{Pays}
use Rattle.em_space.specs.Rig.{RigState, Touches}
use Rattle.em_space.proofs.Held.{apart_none, holds_kept, in_use_kept}
use Rattle.em_space.proofs.Steps.{touches_both, touches_trans}
use Rattle.em_chain.specs.Effects.{LendsFrame, Unmoved}
use Rattle.em_chain.specs.Writer.{writer_blocks}
use Rattle.em_chain.specs.Writes.{Begins}
use Rattle.em_chain.specs.declared.writer.Writer.{Writer}
use Rattle.em_chain.proofs.Laws.{writer_stays}
use Rattle.em_frames.specs.Pool.{singles_of}
use Rattle.em_tree_blocks.specs.Reading.{tree_blocks}
use Rattle.em_tree_blocks.proofs.Frames.{tree_stays}
use Rattle.em_tree_cost.specs.Books.{count_moves, no_counts}
use Rattle.em_tree_walk.proofs.Losses.{loses_as}
use Rattle.em_trunk.specs.Planting.{IsFreshTrunk, Planted}
use Rattle.em_trunk.specs.Trunk.{trunk_blocks}
use Rattle.em_trunk.specs.declared.trunk.Trunk.{Trunk}
use Rattle.em_trunk.proofs.Stays.{forms_stay}

-- a tree with nothing counted
abbrev pub fresh_trunk : ℕ → Writer → Writer → ℕ → Trunk
fresh_trunk root buffer answers spent = record {
  root = root;
  level = 1;
  buffer = buffer;
  answers = answers;
  pushed = 0;
  longest = 0;
  since = 0;
  settled = 0;
  resets = 0;
  adopted = 0;
  counted = 0;
  spent = spent;
  steps = 0;
}

-- the numbers of a tree of which nothing was asked
fresh_counts : (n : ℕ) → record no_counts { spent = n } ≡ count_moves n no_counts
fresh_counts n =
    let e : n ≡ 0 + n = omega arith in
    ap (λ (x : ℕ). record no_counts { spent = x }) e

-- the same numbers, paid for as they were
fresh_pays : (s m t : RigState) → Pays 0 0 s m → t.moves ≡ m.moves → t.used ≡ m.used → Pays 0 0 s t
fresh_pays s m t p moves used = record {
  is = rw (moves, used) (p.is);
}

module _ {s m a t : RigState} {root : ℕ} {buffer answers : Writer} (p : Planted s m root)
    (l : LendsFrame m a) (x : Unmoved m a) (b : Begins a buffer) (k : LendsFrame a t)
    (y : Unmoved a t) (c : Begins t answers) where
  -- both frames were lent after the blocks were stored
  both_lent : Touches [] m t
  both_lent = touches_both [] m a t l.touches k.touches

  pub fresh_made : IsFreshTrunk s t (fresh_trunk root buffer answers (m.moves - s.moves))
  fresh_made =
      let h = both_lent in
      let f = l.frames in
      let g = k.frames in
      let e = p.frames in
      let ks = tree_blocks 1 m root in
      let stays = λ (z : IsTrue s.device.told). tree_stays [] m t h (p.session.touches.told ∙ z) 1 root
      (apart_none ks) (p.stored z) in
      let out : t.pool.free + 2 ≤ singles_of t.pool.shape =
      (let w = l.within in let n = ap singles_of (g.shape ∙ f.shape) in
      omega (arith, w, n, f.free, g.free)) in
      let w = writer_stays [] a t buffer k.touches (λ z. apart_none (writer_blocks a buffer))
      (record { len_is = b.is.frame.len_is ∙ ap (λ q. q.block) (sym g.shape); out = omega (arith, out) })
      b.is in
      let moves : t.moves ≡ m.moves = y.moves ∙ x.moves in
      let used : t.used ≡ m.used = y.same.used ∙ x.same.used in
      let later = p.session.touches.moves in
      let all = λ (z : IsTrue s.device.told). (
      let told = l.touches.told ∙ (p.session.touches.told ∙ z) in
      let blocks : trunk_blocks t (fresh_trunk root buffer answers (m.moves - s.moves)) ≡ ks =
      ap (λ (xs : List ℕ). xs ++ (writer_blocks t buffer ++ writer_blocks t answers)) (stays z).blocks
      ∙ (ap (λ (xs : List ℕ). ks ++ (xs ++ writer_blocks t answers)) (w.blocks told ∙ b.held)
      ∙ (ap (λ (xs : List ℕ). ks ++ xs) c.held ∙ append-nil ks)) in
      blocks) in
      record {
        session = record {
          sound = k.sound;
          touches = touches_trans [] [] s m t p.session.touches h (λ z j i o. tt);
          within = record {
            off = λ z j i o. (let O : List ℕ → Type 0 = Off j in
                subst O (sym (all z)) (p.session.within.off z j i o));
          };
          holds = λ z. (let H : List ℕ → Type 0 = Holds t in
              subst H (sym (all z)) (holds_kept [] m t ks h (λ q. apart_none ks) (p.session.holds z)));
        };
        frames = record {
          shape = g.shape ∙ (f.shape ∙ e.shape);
          free = omega (arith, f.free, g.free, e.free);
          rack = g.rack ∙ (f.rack ∙ e.rack);
          free_areas = g.free_areas ∙ (f.free_areas ∙ e.free_areas);
          peak = omega (arith, f.peak, g.peak, e.peak);
        };
        within = out;
        pays = fresh_pays s m t p.pays moves used;
        used = used ∙ p.used;
        most = (let e = y.same.most ∙ x.same.most in let b = p.most in omega (arith, e, b));
        loses = loses_as [] ks (trunk_blocks t (fresh_trunk root buffer answers (m.moves - s.moves))) s t
            (λ z. (let e = p.loses z in omega (arith, e, used))) (λ z. all z);
        counts = fresh_counts (m.moves - s.moves);
        spent = omega (arith, moves, later);
        moves = omega (arith, moves, p.moves);
        level = refl;
        buffer = w.is;
        answers = c.is;
        none = b.count;
        no_block = b.blocks;
        no_answer = c.blocks;
        in_use = in_use_kept [] m t root h (λ z. tt) p.in_use;
        told = λ z. (let told = l.touches.told ∙ (p.session.touches.told ∙ z) in record {
          reads = (stays z).tree ∙ p.reads z;
          stored = (stays z).is;
          formed = forms_stay [] m t h (p.session.touches.told ∙ z) 1 root (apart_none ks) (p.stored z)
              (p.formed z);
          items = w.items told ∙ b.items;
          packed = w.packed told b.packed;
          given = c.items;
          answers_packed = c.packed;
        });
      }

  -- with its moves as they were counted
  pub fresh_counted : (after before : ℕ) → after ≡ m.moves → before ≡ s.moves
      → IsFreshTrunk s t (fresh_trunk root buffer answers (after - before))
  fresh_counted after before e f =
      let P : ℕ → Type 0 = λ n. IsFreshTrunk s t (fresh_trunk root buffer answers n) in
      let same : m.moves - s.moves ≡ after - before = rw (e, f) refl in
      subst P same fresh_made
