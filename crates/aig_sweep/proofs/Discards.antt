-- Three lists are discarded, one after another.
use Rattle.std.proofs.Common.{◌≡◌, ℕ, ◌+◌, ◌*◌, ◌<◌, ◌≤◌, List, [], ◌++◌, refl, sym, ◌∙◌, subst, arith, IsTrue, Result, Ok, Err, IfErr}
use Rattle.std.proofs.lemmas.List.{append-nil}
use Rattle.std.specs.Result.{IsErrAnd}
use Rattle.em_space.specs.Ledger.{Runs, Stops, Session}
use Rattle.em_space.specs.Rig.{RigState, Sound, Goes, BlockCause}
use Rattle.em_space.specs.declared.fault.EmFault.{EmFault}
use Rattle.em_space.proofs.Apart.{off_left}
use Rattle.em_space.proofs.Ledgers.{full_never}
use Rattle.em_space.proofs.Lists.{apart_left, apart_right, apart_sym, distinct_apart}
use Rattle.em_space.proofs.Paying.{pays_kept}
use Rattle.em_space.proofs.Sessions.{session_as, session_none, session_then}
use Rattle.em_space.proofs.Steps.{block_cause, cause_after, same_frames, same_frames_then}
use Rattle.em_space.proofs.Within.{goes_within}
use Rattle.em_chain.specs.Chain.{ChainStays, chain_blocks}
use Rattle.em_chain.specs.Row.{Frees}
use Rattle.em_chain.specs.declared.chain.Chain.{Chain}
use Rattle.em_chain.proofs.Laws.{chain_stays}
use Rattle.em_frames.specs.Pool.{SameFrames}
use Rattle.aig_text.specs.Draft.{chains_blocks}
use Rattle.aig_sweep.specs.Lists.{AreLists, DiscardsTo, lists_account, sizes}

-- Some of the lists were discarded, with `gone` blocks, and these are left.
pub record Left (gone : ℕ) (held ks : List ℕ) (s t : RigState) : Type 0 where
  pub session : Session held s t ks
  pub frames : SameFrames s.pool t.pool
  pub used : t.used + gone ≡ s.used
  pub most : t.most ≡ s.most
  pub moves : t.moves ≤ s.moves + 2 * gone
  pub later : s.moves ≤ t.moves

pub left_all : {s : RigState} {a b c : Chain} → Sound s → AreLists s a b c
    → Left 0 (chains_blocks s a b c) (chains_blocks s a b c) s s
left_all {s} {a} {b} {c} h l = record {
  session = session_none s (chains_blocks s a b c) h l.holds;
  frames = same_frames s.pool;
  used = omega arith;
  most = refl;
  moves = omega arith;
  later = omega arith;
}

-- The first list that is left was discarded.
pub left_less : {T : Type 0} {x : T} {n : ℕ} {held ys zs : List ℕ} {s t u : RigState} (c : Chain)
    → Left n held (chain_blocks t c ++ ys) s t → Goes (chain_blocks t c) t u
    → Frees c.blocks t u (Ok x) → (IsTrue s.device.told → zs ≡ ys) → Left (n + c.blocks) held zs s u
left_less {n = n} {held = held} {ys = ys} {zs = zs} {s = s} {t = t} {u = u} c h g f e =
    record {
      session = session_as zs (session_then (chain_blocks t c) [] ys h.session (record {
        sound = g.sound;
        touches = g.touches;
        within = record { off = λ z j i o. tt };
        holds = λ z. record { in_use = tt; distinct = λ y. tt };
      })) e;
      frames = same_frames_then s.pool t.pool u.pool h.frames g.frames;
      used = omega (arith, h.used, f.used);
      most = f.most ∙ h.most;
      moves = omega (arith, h.moves, f.moves);
      later = omega (arith, h.later, g.touches.moves);
    }

module _ {s t : RigState} {a b c : Chain} (h : Sound s) (l : AreLists s a b c)
    {T : Type 0} {x : T} (g : Goes (chain_blocks s a) s t) (f : Frees a.blocks s t (Ok x)) where
  -- The first list was discarded: the others stay.
  pub left_first : Left (0 + a.blocks) (chains_blocks s a b c)
      (chain_blocks t b ++ chain_blocks t c) s t × (ChainStays s t b × ChainStays s t c)
  left_first =
      let xs = chain_blocks s a in
      let ys = chain_blocks s b ++ chain_blocks s c in
      let off = λ (z : IsTrue s.device.told). apart_sym xs ys (distinct_apart xs ys
      ((l.holds z).distinct z)) in
      let bk : ChainStays s t b = chain_stays xs s t b g.touches
      (λ z. apart_left (chain_blocks s b) (chain_blocks s c) xs (off z)) l.given_is in
      let ck : ChainStays s t c = chain_stays xs s t c g.touches
      (λ z. apart_right (chain_blocks s b) (chain_blocks s c) xs (off z)) l.gates_is in
      (left_less a (left_all h l) g f (λ z. rw (bk.blocks z, ck.blocks z) refl), (bk, ck))

  -- The second one was discarded too.
  pub left_second : {u : RigState} → Goes (chain_blocks t b) t u → Frees b.blocks t u (Ok x)
      → Left (0 + a.blocks + b.blocks) (chains_blocks s a b c) (chain_blocks u c) s u
      × ChainStays t u c
  left_second {u} gb fb =
      let k = left_first in
      let ks = chain_blocks t b in
      let js = chain_blocks t c in
      let off = λ (z : IsTrue s.device.told). apart_sym ks js (distinct_apart ks js
      ((k.0.session.holds z).distinct (g.touches.told ∙ z))) in
      let ck : ChainStays t u c = chain_stays ks t u c gb.touches
      (λ z. off (sym g.touches.told ∙ z)) k.1.1.is in
      (left_less b k.0 gb fb (λ z. ck.blocks (g.touches.told ∙ z)), ck)

-- the last list, with none after it
left_same : {n : ℕ} {held ks : List ℕ} {s t : RigState} → Left n held ks s t
    → Left n held (ks ++ []) s t
left_same {ks = ks} h = rw (append-nil ks) h

-- All were discarded,
pub left_none : {s t : RigState} (a b c : Chain) → Left (sizes a b c) (chains_blocks s a b c) [] s t
    → Runs (sizes a b c) (chains_blocks s a b c) [] (lists_account (sizes a b c) (2 * sizes a b c))
    (lists_account 0 0) s t
left_none a b c h = record {
  session = h.session;
  frames = h.frames;
  spends = record {
    held = omega arith;
    used = omega (arith, h.used);
    most = omega (arith, h.most);
    moves = omega (arith, h.moves);
    later = h.later;
    pays = pays_kept 0 (omega (arith, h.used)) h.later;
  };
}

-- or the next one couldn't be.
pub left_stops : {T : Type 0} {n : ℕ} {held : List ℕ} {s t u : RigState} (ys : List ℕ) (c : Chain)
    (m : ℕ) (r : Result T EmFault) (e : EmFault) → n + c.blocks ≤ m
    → Left n held (chain_blocks t c ++ ys) s t
    → Goes (chain_blocks t c) t u → Frees c.blocks t u r → BlockCause t u e
    → Stops m 0 0 held (lists_account m (2 * m)) s u e
left_stops {n = n} {held = held} {s = s} {t = t} {u = u} ys c m r e l h g f k = record {
  goes = goes_within held (chain_blocks t c) s t u
      (record { sound = h.session.sound; touches = h.session.touches; frames = h.frames })
      (record { off = λ z j i o. off_left j (chain_blocks t c) ys (h.session.within.off z j i o) })
      g;
  halts = record {
    used = omega (arith, h.used, f.used_most);
    full = full_never t u e (u.used + m < s.used + m) k;
    most = omega (arith, h.most, f.most);
    moves = omega (arith, h.moves, f.moves, l);
    later = omega (arith, h.later, g.touches.moves);
    pays = pays_kept 0 (omega (arith, h.used, f.used_most)) (omega (
      arith,
      h.later,
      g.touches.moves,
    ));
  };
  cause = cause_after held s t u e h.session.touches (block_cause t u e k);
}

-- the last list by the result
pub discards_to : {s u t : RigState} (a b c : Chain) (r : Result (Unit {0}) EmFault)
    → Left (0 + a.blocks + b.blocks) (chains_blocks s a b c) (chain_blocks u c) s u
    → Goes (chain_blocks u c) u t → Frees c.blocks u t r → IfErr r (BlockCause u t)
    → DiscardsTo s t a b c r
discards_to a b c (Ok x) h g f k =
    let l = left_less {ys = []} {zs = []} c (left_same h) g f (λ z. refl) in
    left_none a b c (record {
      session = l.session;
      frames = l.frames;
      used = omega (arith, l.used);
      most = l.most;
      moves = omega (arith, l.moves);
      later = l.later;
    })
discards_to a b c (Err e) h g f k =
    left_stops [] c (sizes a b c) (Err e) e (omega arith) (left_same h) g f k

-- the same by the result
pub discards_err : (s t : RigState) (a b c : Chain) (r : Result (Unit {0}) EmFault) (e : EmFault)
    → IsErrAnd r (λ f. f ≡ e)
    → Stops (sizes a b c) 0 0 (chains_blocks s a b c)
    (lists_account (sizes a b c) (2 * sizes a b c)) s t e → DiscardsTo s t a b c r
discards_err s t a b c (Ok x) e h k = absurd h
discards_err s t a b c (Err f) e h k = subst (λ (x : EmFault). Stops (sizes a b c) 0 0
    (chains_blocks s a b c) (lists_account (sizes a b c) (2 * sizes a b c)) s t x) (sym h) k
