-- A draft from before it was made until its frames are back.
use Rattle.std.proofs.Common.{◌≡◌, ℕ, ◌+◌, ◌*◌, ◌<◌, ◌≤◌, max, List, [], ◌++◌, length, refl, sym, ap, ◌∙◌, subst, arith, IsTrue}
use Rattle.em_record.specs.Count.{Rose}
use Rattle.em_record.specs.declared.record.Record.{Record}
use Rattle.em_frames.specs.Pool.{LentFrames}
use Rattle.em_space.specs.Ledger.{Session}
use Rattle.em_space.specs.Queue.{Pays}
use Rattle.em_space.specs.Rig.{RigState, Touches, Goes, Cause, DeviceCause, IfFull, Owes}
use Rattle.em_space.specs.declared.fault.EmFault.{EmFault}
use Rattle.em_space.specs.declared.fault.EmFault.TheVariants.{DeviceFault, Full, Damaged}
use Rattle.em_space.proofs.Ledgers.{full_by}
use Rattle.em_space.proofs.Paying.{owes_of_pays, pays_kept, pays_then}
use Rattle.em_space.proofs.Sessions.{session_still, session_trans}
use Rattle.em_space.proofs.Steps.{cause_after, device_cause, both_told, same_frames, touches_then}
use Rattle.em_space.proofs.Within.{touches_within}
use Rattle.em_chain.specs.Chain.{payload_in}
use Rattle.em_chain.specs.Counts.{ceiling}
use Rattle.em_chain.specs.Effects.{OnlyMoves, Unmoved}
use Rattle.em_chain.specs.Session.{Wrote}
use Rattle.em_chain.specs.Writes.{Begins}
use Rattle.em_chain.specs.declared.chain.Chain.{Chain}
use Rattle.em_chain.specs.declared.writer.Writer.{Writer}
use Rattle.em_chain.proofs.Keeps.{lent_same, payload_kept, touches_none}
use Rattle.em_chain.proofs.Writings.{cause_still}
use Rattle.aig_text.specs.Draft.{BeginsDraft, Drafted, FinishesDraft, FinishesPacked, GivesFrames, GivesUpDraft, IsPackedChain, LeavesDraft, LendsFrames, StopsDraft, WritesFour, draft_account, draft_blocks, draft_len, draft_room}
use Rattle.aig_text.specs.declared.draft.Draft.{Draft}
use Rattle.aig_text.proofs.Drafts.{draft_within, drafted_is, drafted_len}
use Rattle.aig_text.proofs.Frames.{frames_back}

-- a new draft holds no block,
begins_blocks : {s : RigState} {d : Draft} → BeginsDraft s d → draft_blocks s d ≡ []
begins_blocks b = rw (b.defs.held, b.gates.held, b.uses.held, b.resets.held) refl

-- and has no record
begins_len : {s : RigState} {d : Draft} → BeginsDraft s d → draft_len d ≡ 0
begins_len b = omega (arith, b.defs.count, b.gates.count, b.uses.count, b.resets.count)

-- as many records take as many blocks after a call
room_kept : {s a : RigState} (held : List ℕ) (n m : ℕ) → Touches held s a → n ≡ m
    → draft_room a n ≡ draft_room s m
room_kept {s} {a} held n m h e = ap (λ (k : ℕ). draft_room a k) e
    ∙ ap (λ (p : ℕ). ceiling m p + 3) (payload_kept held s a h)

-- A draft was made and n records were written.
record Grown (s b : RigState) (e : Draft) (n : ℕ) : Type 0 where
  pub session : Session [] s b (draft_blocks b e)
  pub frames : LentFrames 4 s.pool b.pool
  pub used : b.used ≡ s.used + (draft_account e).blocks
  pub most : b.most ≤ max s.most b.used
  pub moves : b.moves ≤ s.moves + 2 * (draft_account e).blocks
  pub pays : Pays 0 (draft_account e).unstored s b
  pub room : (draft_account e).blocks ≤ draft_room s n

grown : {s a b : RigState} {d e : Draft} {xs ys zs ws : List Record} → LendsFrames 4 s a
    → Unmoved s a → BeginsDraft a d → Drafted a b d e xs ys zs ws
    → Grown s b e (length xs + length ys + length zs + length ws)
grown {s} {a} {b} {d} {e} {xs} {ys} {zs} {ws} l u g h =
    let n = length xs + length ys + length zs + length ws in
    let first : Session [] s a [] = session_still [] l.sound l.touches
    (λ z. record { in_use = tt; distinct = λ y. tt }) in
    let held : Session [] a b (draft_blocks b e) =
    subst (λ (ks : List ℕ). Session ks a b (draft_blocks b e)) (begins_blocks g) h.runs.session in
    let whole = session_trans first held in
    let k = h.runs.spends in
    let x = g.defs.blocks in
    let y = g.gates.blocks in
    let z = g.uses.blocks in
    let w = g.resets.blocks in
    let i = drafted_is g.is h in
    let len : draft_len e + 0 ≡ n = omega (arith, drafted_len h, begins_len g) in
    let room = room_kept [] (draft_len e + 0) n whole.touches len in
    let within = draft_within 0 whole.sound.shape.block_low i in
    record {
      session = whole;
      frames = lent_same 4 s.pool a.pool b.pool l.frames h.runs.frames;
      used = omega (arith, k.used, u.same.used);
      most = omega (arith, k.used, k.most, u.same.used, u.same.most);
      moves = omega (arith, k.moves, u.moves);
      pays = grown_pays (omega arith) u k.pays k.later;
      room = omega (arith, room, within);
    }
  where
    grown_pays : {m n : ℕ} {s a b : RigState} → m ≡ 0 → Unmoved s a → Pays m n a b
        → a.moves ≤ b.moves → Pays 0 n s b
    grown_pays {m} {n} {s} {a} {b} e u p l =
        pays_then (pays_kept 0 (omega (arith, u.same.used)) (omega (arith, u.moves)))
        (subst (λ (j : ℕ). Pays j n a b) e p) l

-- The frames came back, and of the blocks only those of the lists may have changed.
grown_goes : {s b t : RigState} {e : Draft} {n : ℕ} → Grown s b e n
    → GivesFrames 4 (draft_blocks b e) b t → Goes [] s t
grown_goes {s} {b} {t} {e} h g = record {
  sound = g.sound;
  touches = touches_within s b t [] (draft_blocks b e) h.session.touches h.session.within g.touches;
  frames = frames_back 4 h.frames (same_frames b.pool) g.frames;
}

-- The same if nothing but the last blocks was stored since.
grown_leaves : {s b t : RigState} {e : Draft} {n : ℕ} → Grown s b e n
    → GivesFrames 4 (draft_blocks b e) b t → OnlyMoves 4 b t → LeavesDraft s t n
grown_leaves {s} {b} {t} {e} h g o =
    let m = h.room in
    let n = (draft_account e).unstored in
    let last : Pays n n b t = pays_kept n (omega (arith, o.same.used)) g.touches.moves in
    record {
      goes = grown_goes h g;
      used = omega (arith, h.used, o.same.used);
      most = omega (arith, h.most, h.used, o.same.most);
      moves = omega (arith, h.moves, o.moves);
      owes = owes_of_pays 0 n 4 (pays_then h.pays last g.touches.moves) (omega arith);
    }

gives_wider : {n : ℕ} {b t : RigState} (held : List ℕ) → GivesFrames n [] b t
    → GivesFrames n held b t
gives_wider {n} {b} {t} held g = record {
  sound = g.sound;
  touches = touches_none held b t g.touches;
  frames = g.frames;
}

only_unmoved : {b t : RigState} (n : ℕ) → Unmoved b t → OnlyMoves n b t
only_unmoved n u = record { same = u.same; moves = omega (arith, u.moves) }

only_more : {b t : RigState} {m : ℕ} (n : ℕ) → m ≤ n → OnlyMoves m b t → OnlyMoves n b t
only_more n l o = record { same = o.same; moves = omega (arith, o.moves) }

-- A draft was made, records were written, and it was abandoned.
pub drafted_left : {s a b t : RigState} {d e : Draft} {xs ys zs ws : List Record} → LendsFrames 4 s a
    → Unmoved s a → BeginsDraft a d → Drafted a b d e xs ys zs ws → GivesFrames 4 [] b t
    → Unmoved b t → LeavesDraft s t (length xs + length ys + length zs + length ws)
drafted_left {b = b} {e = e} l u i h g v =
    grown_leaves (grown l u i h) (gives_wider (draft_blocks b e) g) (only_unmoved 4 v)

full_not : (e : EmFault) (P : Type 0) → e ≡ DeviceFault → IfFull e (λ _. P)
full_not e P is = subst (λ (f : EmFault). IfFull f (λ _. P)) (sym is) tt

-- It was finished, which gave up.
pub drafted_refused : {s a b t : RigState} {d e : Draft} {xs ys zs ws : List Record} {fault : EmFault}
    → LendsFrames 4 s a → Unmoved s a → BeginsDraft a d → Drafted a b d e xs ys zs ws
    → GivesFrames 4 (draft_blocks b e) b t → OnlyMoves (draft_account e).unstored b t
    → DeviceCause b t fault → GivesUpDraft s t (length xs + length ys + length zs + length ws) fault
drafted_refused {s} {a} {b} {t} {d} {e} {xs} {ys} {zs} {ws} {fault} l u i h g o c =
    let k = grown l u i h in
    record {
      leaves = grown_leaves k g (only_more 4 (omega arith) o);
      full = full_not fault
          (s.blocks < s.used + draft_room s (length xs + length ys + length zs + length ws)) c.is;
      cause = cause_after [] s b t fault k.session.touches (device_cause b t fault c);
    }

-- The device was full, and had fewer blocks free at first than were wanted.
full_at : (s b t : RigState) (e : EmFault) (m n : ℕ) → m ≤ n → t.blocks ≡ s.blocks
    → b.used ≡ t.used → IfFull e (λ _. b.used < s.used + m) → Cause s t e
    → IfFull e (λ _. s.blocks < s.used + n)
full_at s b t DeviceFault m n l x y h c = tt
full_at s b t (Full k) m n l x y h c = omega (arith, c.0, c.1)
full_at s b t (Damaged k) m n l x y h c = tt

-- A call gave up, and the draft was abandoned.
pub drafted_stopped : {s a b t : RigState} {d : Draft} {n : ℕ} {fault : EmFault}
    → LendsFrames 4 s a → Unmoved s a → BeginsDraft a d → StopsDraft a b d n fault
    → GivesFrames 4 [] b t → Unmoved b t → GivesUpDraft s t n fault
drafted_stopped {s} {a} {b} {t} {d} {n} {fault} l u i h g v =
    let k = h.stops.halts in
    let o : Goes [] a b =
    subst (λ (ks : List ℕ). Goes ks a b) (begins_blocks i) h.stops.goes in
    let len : draft_len d + n ≡ n = omega (arith, begins_len i) in
    let room = room_kept [] (draft_len d + n) n l.touches len in
    let x = i.defs.blocks in
    let y = i.gates.blocks in
    let z = i.uses.blocks in
    let w = i.resets.blocks in
    let first = cause_after [] s a b fault l.touches h.stops.cause in
    let c = cause_still s b t fault v g.touches first in
    let touches = touches_then [] s b t (touches_then [] s a b l.touches o.touches) g.touches in
    record {
      leaves = record {
        goes = record {
          sound = g.sound;
          touches = touches;
          frames = frames_back 4 l.frames o.frames g.frames;
        };
        used = omega (arith, k.used, room, u.same.used, v.same.used);
        most = omega (arith, k.most, room, u.same.used, u.same.most, v.same.most);
        moves = omega (arith, k.moves, room, u.moves, v.moves);
        owes = stopped_owes (omega arith) u k.pays v k.later;
      };
      full = full_at s b t fault (draft_room a (draft_len d + n)) (draft_room s n) (omega (arith, room))
          touches.blocks (sym v.same.used) (stopped_full s a b (draft_account d).blocks
          (draft_room a (draft_len d + n)) fault u (omega arith) k.full) c;
      cause = c;
    }
  where
    stopped_owes : {m : ℕ} {s a b t : RigState} → m ≡ 0 → Unmoved s a → Pays m 4 a b
        → Unmoved b t → a.moves ≤ b.moves → Owes 4 s t
    stopped_owes {m} {s} {a} {b} {t} e u p v later =
        let q = subst (λ (j : ℕ). Pays j 4 a b) e p in
        let before : Pays 0 0 s a = pays_kept 0 (omega (arith, u.same.used)) (omega (arith, u.moves)) in
        let after : Pays 4 4 b t = pays_kept 4 (omega (arith, v.same.used)) (omega (arith, v.moves)) in
        owes_of_pays 0 4 4 (pays_then before (pays_then q after (omega (arith, v.moves)))
        (omega (arith, later, v.moves))) (omega arith)

    stopped_full : (s a b : RigState) (m p : ℕ) (e : EmFault) → Unmoved s a → m ≡ 0
        → IfFull e (λ _. b.used + m < a.used + p) → IfFull e (λ _. b.used < s.used + p)
    stopped_full s a b m p e u z h = full_by e (b.used + m < a.used + p)
        (b.used < s.used + p) (λ k. omega (arith, k, u.same.used)) h

-- A list of a draft became a chain of its records.
list_chain : {s a b t : RigState} {w v : Writer} {c : Chain} {xs : List Record} → Touches [] s a
    → Begins a w → Wrote a b w v xs → Touches [] s t → FinishesPacked b t v c
    → IsPackedChain t c xs
list_chain {s} {a} {b} {t} {w} {v} {c} {xs} l i h k f = record {
  is = f.finishes.is;
  items = λ z.
      let y : IsTrue a.device.told = l.told ∙ sym k.told ∙ z in
      f.finishes.items (h.told ∙ y) ∙ h.items y ∙ ap (λ (ys : List Record). ys ++ xs) i.items;
  packed = λ z. f.packed (h.told ∙ l.told ∙ sym k.told ∙ z);
  count_is = omega (arith, f.finishes.count_is, h.count_is, i.count);
  blocks_is =
      let n : c.count ≡ length xs = omega (arith, f.finishes.count_is, h.count_is, i.count) in
      f.blocks_are ∙ ap (λ (m : ℕ). ceiling m (payload_in t)) n;
}

-- A draft was made, records were written, and it was finished.
pub drafted_whole : {s a b t : RigState} {d e : Draft} {f g h m : Chain} {xs ys zs ws : List Record}
    → LendsFrames 4 s a → Unmoved s a → BeginsDraft a d → Drafted a b d e xs ys zs ws
    → GivesFrames 4 (draft_blocks b e) b t → FinishesDraft b t e f g h m
    → OnlyMoves (draft_account e).unstored b t → WritesFour s t f g h m xs ys zs ws
drafted_whole {s} {a} {b} {t} {d} {e} {f} {g} {h} {m} {xs} {ys} {zs} {ws} l u i k j c o =
    let n = grown l u i k in
    let whole = session_trans n.session c.session in
    let x = c.defs.finishes.blocks_is in
    let y = c.gates.finishes.blocks_is in
    let z = c.uses.finishes.blocks_is in
    let w = c.resets.finishes.blocks_is in
    let used = n.used in
    let same = o.same.used in
    record {
      goes = grown_goes n j;
      session = whole;
      defs = list_chain l.touches i.defs k.defs whole.touches c.defs;
      gates = list_chain l.touches i.gates k.gates whole.touches c.gates;
      uses = list_chain l.touches i.uses k.uses whole.touches c.uses;
      resets = list_chain l.touches i.resets k.resets whole.touches c.resets;
      used = omega arith;
      most = omega (
        arith,
        n.most,
        o.same.most,
        whole.touches.most,
        whole.sound.numbers.used_most,
      );
      moves = omega (arith, n.moves, o.moves);
      owes = owes_of_pays 0 0 0 (pays_then n.pays c.pays j.touches.moves) (omega arith);
    }

never_by : (s t : RigState) (n : ℕ) (e : EmFault) → t.device.told ≡ s.device.told
    → IfFull e (λ _. s.blocks < s.used + n) → Cause s t e → IsTrue s.device.told
    → (Rose s.device.faults t.device.faults → ⊥) → s.used + n ≤ s.blocks → ⊥
never_by s t n DeviceFault same f c z r l = r c
never_by s t n (Full k) same f c z r l = omega arith
never_by s t n (Damaged k) same f c z r l = both_told _ (same ∙ z) c.0

-- Over a device that tells what it holds and counts no fault, nothing gives up if there is room.
pub never_gives_up : {s t : RigState} {n : ℕ} {fault : EmFault} → GivesUpDraft s t n fault
    → IsTrue s.device.told → (Rose s.device.faults t.device.faults → ⊥)
    → s.used + draft_room s n ≤ s.blocks → ⊥
never_gives_up {s} {t} {n} {fault} g z r l =
    never_by s t (draft_room s n) fault g.leaves.goes.touches.told g.full g.cause z r l
