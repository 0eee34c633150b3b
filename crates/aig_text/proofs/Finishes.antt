-- The lists are finished, one after another.
use Rattle.std.proofs.Common.{◌≡◌, ℕ, ◌+◌, ◌≤◌, min, List, [], ◌++◌, length, refl, sym, ap, ◌∙◌, arith, IsTrue, Ok}
use Rattle.em_frames.specs.Pool.{HasFrames}
use Rattle.em_space.specs.Held.{Apart}
use Rattle.em_space.specs.Queue.{Pays}
use Rattle.em_space.specs.Rig.{RigState, Sound, Touches}
use Rattle.em_space.proofs.Apart.{off_left, off_right}
use Rattle.em_space.proofs.Held.{apart_none}
use Rattle.em_space.proofs.Lists.{distinct_apart, in_use_append}
use Rattle.em_space.proofs.Paying.{pays_more, pays_then}
use Rattle.em_space.proofs.Steps.{touches_both, touches_pool, touches_wider}
use Rattle.em_space.proofs.Within.{within_kept, within_same}
use Rattle.em_chain.specs.Chain.{IsChain, ChainStays, chain_blocks, payload_in}
use Rattle.em_chain.specs.Counts.{ceiling}
use Rattle.em_chain.specs.Effects.{GivesFrame}
use Rattle.em_chain.specs.Writer.{IsWriter, WriterStays, writer_blocks}
use Rattle.em_chain.specs.Writes.{FinishCosts, Finishes}
use Rattle.em_chain.specs.declared.chain.Chain.{Chain}
use Rattle.em_chain.specs.declared.writer.Writer.{Writer}
use Rattle.em_chain.proofs.Keeps.{payload_kept}
use Rattle.em_chain.proofs.Laws.{chain_stays, writer_stays}
use Rattle.em_chain.proofs.Paying.{finish_pays}
use Rattle.aig_text.specs.Draft.{FinishesDraft, FinishesPacked, GivesFrames, IsDraft, IsPackedWriter, chains_blocks, four_blocks, draft_account, draft_blocks}
use Rattle.aig_text.specs.declared.draft.Draft.{Draft}
use Rattle.aig_text.proofs.Drafts.{draft_apart, holds_lists, packed_blocks_are}
use Rattle.aig_text.proofs.Frames.{fewer_out, given_then, has_given}

-- A writer stays over two calls.
stays_then : {s a b : RigState} {w : Writer} → a.device.told ≡ s.device.told → WriterStays s a w
    → WriterStays a b w → WriterStays s b w
stays_then e x y = record {
  is = y.is;
  items = λ z. y.items (e ∙ z) ∙ x.items z;
  blocks = λ z. y.blocks (e ∙ z) ∙ x.blocks z;
  packed = λ z p. y.packed (e ∙ z) (x.packed z p);
  tight = λ z p. y.tight (e ∙ z) (x.tight z p);
  filled_is = y.filled_is ∙ x.filled_is;
}

-- A writer stays as another one is finished, whose blocks aren't its own.
stays_beside : {s a : RigState} {v : Writer} (w : Writer) (k : ℕ) → GivesFrame (writer_blocks s w) s a
    → (IsTrue s.device.told → Apart (writer_blocks s v) (writer_blocks s w))
    → HasFrames (k + 1 + 1) (length v.frame) s.pool → IsWriter s v → WriterStays s a v
stays_beside {s} {a} {v} w k x apart f i =
    writer_stays (writer_blocks s w) s a v x.touches apart
    (fewer_out (k + 1) 1 (length v.frame) (omega arith)
    (has_given 1 (k + 1) (length v.frame) x.frames f)) i

-- The others stay as the first one is finished, that of the resets,
pub defs_stay : {s m : RigState} {d : Draft} → IsDraft s d
    → GivesFrame (writer_blocks s d.resets) s m → WriterStays s m d.defs
defs_stay {d = d} i r = stays_beside d.resets 2 r (λ z. (draft_apart i z).xw) i.frames.defs i.defs.is

gates_kept : {s m : RigState} {d : Draft} → IsDraft s d
    → GivesFrame (writer_blocks s d.resets) s m → WriterStays s m d.gates
gates_kept {d = d} i r = stays_beside d.resets 2 r (λ z. (draft_apart i z).yw) i.frames.gates i.gates.is

uses_kept : {s m : RigState} {d : Draft} → IsDraft s d
    → GivesFrame (writer_blocks s d.resets) s m → WriterStays s m d.uses
uses_kept {d = d} i r = stays_beside d.resets 2 r (λ z. (draft_apart i z).zw) i.frames.uses i.uses.is

-- the next two as that of the definitions is,
pub second_stays : {s m a : RigState} {d : Draft} → IsDraft s d
    → GivesFrame (writer_blocks s d.resets) s m → GivesFrame (writer_blocks m d.defs) m a
    → WriterStays s a d.gates
second_stays {s} {m} {a} {d} i r x =
    let n = length d.gates.frame in
    let k = gates_kept i r in
    stays_then r.touches.told k (stays_beside d.defs 1 x
    (λ u. let z : IsTrue s.device.told = sym r.touches.told ∙ u in
    rw ((defs_stay i r).blocks z, k.blocks z) (draft_apart i z).three.yx)
    (has_given 1 3 n r.frames i.frames.gates) k.is)

uses_stay : {s m a : RigState} {d : Draft} → IsDraft s d
    → GivesFrame (writer_blocks s d.resets) s m → GivesFrame (writer_blocks m d.defs) m a
    → WriterStays s a d.uses
uses_stay {s} {m} {a} {d} i r x =
    let n = length d.uses.frame in
    let k = uses_kept i r in
    stays_then r.touches.told k (stays_beside d.defs 1 x
    (λ u. let z : IsTrue s.device.told = sym r.touches.told ∙ u in
    rw ((defs_stay i r).blocks z, k.blocks z) (draft_apart i z).three.zx)
    (has_given 1 3 n r.frames i.frames.uses) k.is)

-- and the last one as that of the gates is.
pub third_stays : {s m a b : RigState} {d : Draft} → IsDraft s d
    → GivesFrame (writer_blocks s d.resets) s m → GivesFrame (writer_blocks m d.defs) m a
    → GivesFrame (writer_blocks a d.gates) a b → WriterStays s b d.uses
third_stays {s} {m} {a} {b} {d} i r x y =
    let n = length d.uses.frame in
    let k = uses_stay i r x in
    let told : a.device.told ≡ s.device.told = x.touches.told ∙ r.touches.told in
    stays_then told k (stays_beside d.gates 0 y
    (λ u. let z : IsTrue s.device.told = sym told ∙ u in
    rw ((second_stays i r x).blocks z, k.blocks z) (draft_apart i z).three.zy)
    (has_given 1 2 n x.frames (has_given 1 3 n r.frames i.frames.uses)) k.is)

-- What the calls may have changed: the blocks of the gates and the uses,
last_touches : {s m a b t : RigState} {d : Draft} → IsDraft s d
    → GivesFrame (writer_blocks s d.resets) s m → GivesFrame (writer_blocks m d.defs) m a
    → GivesFrame (writer_blocks a d.gates) a b → GivesFrame (writer_blocks b d.uses) b t
    → Touches (writer_blocks s d.gates ++ writer_blocks s d.uses) a t
last_touches {s} {m} {a} {b} {t} {d} i r x y w =
    let ys = writer_blocks s d.gates in
    let zs = writer_blocks s d.uses in
    let told : a.device.told ≡ s.device.told = x.touches.told ∙ r.touches.told in
    touches_both (ys ++ zs) a b t
    (touches_wider (ys ++ zs) (writer_blocks a d.gates) a b y.touches
    (λ u k j o. rw ((second_stays i r x).blocks (sym told ∙ u)) (off_left k ys zs o)))
    (touches_wider (ys ++ zs) (writer_blocks b d.uses) b t w.touches
    (λ u k j o. rw ((third_stays i r x y).blocks (sym told ∙ sym y.touches.told ∙ u))
    (off_right k ys zs o)))

-- of the definitions too,
later_touches : {s m a b t : RigState} {d : Draft} → IsDraft s d
    → GivesFrame (writer_blocks s d.resets) s m → GivesFrame (writer_blocks m d.defs) m a
    → GivesFrame (writer_blocks a d.gates) a b → GivesFrame (writer_blocks b d.uses) b t
    → Touches (writer_blocks s d.defs ++ (writer_blocks s d.gates ++ writer_blocks s d.uses)) m t
later_touches {s} {m} {a} {b} {t} {d} i r x y w =
    let xs = writer_blocks s d.defs in
    let ys = writer_blocks s d.gates ++ writer_blocks s d.uses in
    touches_both (xs ++ ys) m a t
    (touches_wider (xs ++ ys) (writer_blocks m d.defs) m a x.touches
    (λ u k j o. rw ((defs_stay i r).blocks (sym r.touches.told ∙ u)) (off_left k xs ys o)))
    (touches_wider (xs ++ ys) ys a t (last_touches i r x y w) (λ u k j o. off_right k xs ys o))

-- and of all.
pub finish_gives : {s m a b t : RigState} {d : Draft} → IsDraft s d
    → GivesFrame (writer_blocks s d.resets) s m → GivesFrame (writer_blocks m d.defs) m a
    → GivesFrame (writer_blocks a d.gates) a b → GivesFrame (writer_blocks b d.uses) b t
    → GivesFrames 4 (draft_blocks s d) s t
finish_gives {s} {m} {a} {b} {t} {d} i r x y w =
    let ws = writer_blocks s d.resets in
    let xs = writer_blocks s d.defs ++ (writer_blocks s d.gates ++ writer_blocks s d.uses) in
    record {
      sound = w.sound;
      touches = touches_both (ws ++ xs) s m t
          (touches_wider (ws ++ xs) ws s m r.touches (λ u k j o. off_left k ws xs o))
          (touches_wider (ws ++ xs) xs m t (later_touches i r x y w)
          (λ u k j o. off_right k ws xs o));
      frames = given_then 3 1 (given_then 2 1 (given_then 1 1 r.frames x.frames) y.frames) w.frames;
    }

-- A writer stayed, was finished, and its chain stayed.
finishes_between : {s a b t : RigState} {w : Writer} {c : Chain} → a.device.told ≡ s.device.told
    → b.device.told ≡ a.device.told → WriterStays s a w → Finishes a b w c → ChainStays b t c
    → Finishes s t w c
finishes_between e f x h y = record {
  is = y.is;
  items = λ z. y.items (f ∙ e ∙ z) ∙ h.items (e ∙ z) ∙ x.items z;
  blocks = λ z. y.blocks (f ∙ e ∙ z) ∙ h.blocks (e ∙ z) ∙ x.blocks z;
  packed = λ z p. y.packed (f ∙ e ∙ z) (h.packed (e ∙ z) (x.packed z p));
  tight = λ z p. y.tight (f ∙ e ∙ z) (h.tight (e ∙ z) (x.tight z p));
  skip_is = h.skip_is;
  count_is = h.count_is;
  blocks_is = h.blocks_is;
}

writer_same : {s : RigState} {w : Writer} → IsWriter s w → WriterStays s s w
writer_same {s} {w} i = writer_stays [] s s w (touches_pool s s.pool refl)
    (λ z. apart_none (writer_blocks s w)) i.frame i

chain_same : {s : RigState} {c : Chain} → IsChain s c → ChainStays s s c
chain_same {s} {c} i = chain_stays [] s s c (touches_pool s s.pool refl)
    (λ z. apart_none (chain_blocks s c)) i

-- The chain of a packed list is packed.
finishes_packed : {s t : RigState} {w : Writer} {c : Chain} (held : List ℕ) → Sound s
    → Touches held s t → IsPackedWriter s w → Finishes s t w c → FinishesPacked s t w c
finishes_packed {s} {t} {w} {c} held h k i f = record {
  finishes = f;
  packed = λ z. f.packed z (i.packed z);
  blocks_are = f.blocks_is ∙ packed_blocks_are h.shape.block_low i
      ∙ ap (λ (n : ℕ). ceiling n (payload_in s)) (sym f.count_is)
      ∙ ap (λ (p : ℕ). ceiling c.count p) (sym (payload_kept held s t k));
}

-- The blocks of all lists are stored.
finish_pays_all : {s m a b t : RigState} (d : Draft) {f g h k : Chain}
    → FinishCosts s m d.resets (Ok k) → FinishCosts m a d.defs (Ok f)
    → FinishCosts a b d.gates (Ok g) → FinishCosts b t d.uses (Ok h)
    → s.moves ≤ m.moves → m.moves ≤ a.moves → a.moves ≤ b.moves → b.moves ≤ t.moves
    → Pays (draft_account d).unstored 0 s t
finish_pays_all {s} {m} {a} {b} {t} d {f} {g} {h} {k} r x y z o l p n =
    let last = min d.gates.blocks 1 + min d.uses.blocks 1 in
    let later = min d.defs.blocks 1 + last in
    let zeroth : Pays (draft_account d).unstored later s m =
    pays_more (finish_pays s m d.resets k r o) (omega arith) in
    let first : Pays later last m a = pays_more (finish_pays m a d.defs f x l) (omega arith) in
    let second : Pays last (min d.uses.blocks 1) a b =
    pays_more (finish_pays a b d.gates g y p) (omega arith) in
    pays_then zeroth (pays_then first (pays_then second (finish_pays b t d.uses h z n) n)
    (omega arith)) (omega arith)

-- All were finished.
pub finishes_draft : {s m a b t : RigState} {d : Draft} {f g h k : Chain} → Sound s → IsDraft s d
    → GivesFrame (writer_blocks s d.resets) s m → GivesFrame (writer_blocks m d.defs) m a
    → GivesFrame (writer_blocks a d.gates) a b → GivesFrame (writer_blocks b d.uses) b t
    → Finishes s m d.resets k → Finishes m a d.defs f → Finishes a b d.gates g
    → Finishes b t d.uses h → FinishCosts s m d.resets (Ok k) → FinishCosts m a d.defs (Ok f)
    → FinishCosts a b d.gates (Ok g) → FinishCosts b t d.uses (Ok h) → FinishesDraft s t d f g h k
finishes_draft {s} {m} {a} {b} {t} {d} {f} {g} {h} {k} so i r x y w rf df gf uf rc dc gc uc =
    let ws = writer_blocks s d.resets in
    let xs = writer_blocks s d.defs in
    let ys = writer_blocks s d.gates in
    let zs = writer_blocks s d.uses in
    let tr = r.touches.told in
    let te : a.device.told ≡ s.device.told = x.touches.told ∙ tr in
    let tf : b.device.told ≡ a.device.told = y.touches.told in
    let sd = defs_stay i r in
    let sy = second_stays i r x in
    let sz = third_stays i r x y in
    let rk = chain_stays (xs ++ (ys ++ zs)) m t k (later_touches i r x y w)
    (λ u. let z : IsTrue s.device.told = sym tr ∙ u in
    rw (rf.blocks z) (distinct_apart ws (xs ++ (ys ++ zs)) ((i.holds z).distinct z))) rf.is in
    let dk = chain_stays (ys ++ zs) a t f (last_touches i r x y w)
    (λ u. let z : IsTrue s.device.told = sym te ∙ u in
    rw (df.blocks (tr ∙ z), sd.blocks z) (distinct_apart xs (ys ++ zs)
    ((holds_lists i z).distinct z))) df.is in
    let gk = chain_stays (writer_blocks b d.uses) b t g w.touches
    (λ u. let z : IsTrue s.device.told = sym te ∙ sym tf ∙ u in
    rw (gf.blocks (te ∙ z), sy.blocks z, sz.blocks z) (draft_apart i z).three.yz) gf.is in
    let r1 = finishes_between refl tr (writer_same i.resets.is) rf rk in
    let d1 = finishes_between tr x.touches.told sd df dk in
    let g1 = finishes_between te tf sy gf gk in
    let u1 = finishes_between (tf ∙ te) w.touches.told sz uf (chain_same uf.is) in
    let v = finish_gives i r x y w in
    let e = λ (z : IsTrue s.device.told). chains_are z r1 d1 g1 u1 in
    record {
      defs = finishes_packed (draft_blocks s d) so v.touches i.defs d1;
      gates = finishes_packed (draft_blocks s d) so v.touches i.gates g1;
      uses = finishes_packed (draft_blocks s d) so v.touches i.uses u1;
      resets = finishes_packed (draft_blocks s d) so v.touches i.resets r1;
      session = record {
        sound = w.sound;
        touches = v.touches;
        within = within_kept s (draft_blocks s d) (draft_blocks s d) (four_blocks t f g h k)
            (within_same s (draft_blocks s d)) e;
        holds = λ z.
            let u : IsTrue t.device.told = v.touches.told ∙ z in
            record {
              in_use = in_use_append t (chain_blocks t k) (chains_blocks t f g h)
                  (r1.is.told u).holds.in_use
                  (in_use_append t (chain_blocks t f) (chain_blocks t g ++ chain_blocks t h)
                  (d1.is.told u).holds.in_use
                  (in_use_append t (chain_blocks t g) (chain_blocks t h)
                  (g1.is.told u).holds.in_use (u1.is.told u).holds.in_use));
              distinct = λ v. rw (e z) ((i.holds z).distinct z);
            };
      };
      pays = finish_pays_all d rc dc gc uc r.touches.moves x.touches.moves y.touches.moves
          w.touches.moves;
    }
  where
    chains_are : IsTrue s.device.told → Finishes s t d.resets k → Finishes s t d.defs f
        → Finishes s t d.gates g → Finishes s t d.uses h
        → four_blocks t f g h k ≡ draft_blocks s d
    chains_are z n p q r = rw (n.blocks z, p.blocks z, q.blocks z, r.blocks z) refl
