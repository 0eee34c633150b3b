-- A frame that was stored in a new block.
use Rattle.std.proofs.Common.{◌≡◌, ℕ, ◌+◌, ◌-◌, ◌^◌, ◌<◌, ◌≤◌, List, [], ◌∷◌, get_or, set, max, sym, ap, ◌∙◌, subst, arith, IsTrue, inl, inr, ⊎_elim, Result, Ok, Err, IsErrAnd}
use Rattle.std.proofs.lemmas.Bool.{cases_lt}
use Rattle.std.proofs.lemmas.List.{get_or-set_same}
use Rattle.em_record.specs.declared.record.Record.{Record}
use Rattle.em_frames.specs.Device.{block_at}
use Rattle.em_space.specs.Rig.{RigState, Sound, Goes, InUse, Allocates, DeviceCause, MovesToAlloc, Owes, Transfers}
use Rattle.em_space.specs.declared.fault.EmFault.{EmFault}
use Rattle.em_space.proofs.Held.{in_use_below}
use Rattle.em_space.proofs.Ledgers.{full_never}
use Rattle.em_space.proofs.Sessions.{session_allocates}
use Rattle.em_space.proofs.Steps.{cause_after, device_block_cause, device_cause, same_frames_then, touches_trans}
use Rattle.em_balance.specs.Stored.{StopsStoring, StoresFrame, StoresNew}
use Rattle.em_balance.proofs.Moves.{alloc_moves, none_damaged}

-- The block that was written holds what was written.
pub stored_at : {s : RigState} {k : ℕ} {d : List Record} (t : RigState) → Sound s
    → IsTrue s.device.told → InUse s k → t.device.contents ≡ set s.device.contents k d
    → block_at t.device k ≡ d
stored_at {s} {k} {d} t h z u e =
    let n = (h.told z).length_is in
    let l = in_use_below s k h u in
    ap (λ (cs : List (List Record)). get_or cs k []) e
    ∙ get_or-set_same s.device.contents k d [] (omega arith)

-- What `alloc` says of a block that came into use.
pub record Allots (s t : RigState) (k : ℕ) : Type 0 where
  pub goes : Goes [] s t
  pub given : Allocates s t k
  pub most : t.most ≡ max s.most t.used
  pub moves : MovesToAlloc s t
  pub owes : Owes 1 s t

-- That block couldn't be written.
stops_stored : {s t u : RigState} {k : ℕ} {e : EmFault} → Allots s t k → Goes (k ∷ []) t u
    → Transfers t u → DeviceCause t u e → StopsStoring s u e
stops_stored {s} {t} {u} {k} {e} a g x c =
    let used = a.given.used in
    let same = x.used in
    let most = a.most in
    let kept = x.blocks.most in
    let first = alloc_moves s t a.moves in
    let moves = x.moves in
    let before = a.goes.touches.moves in
    let later = g.touches.moves in
    let w = session_allocates k a.goes a.given in
    record {
      stops = record {
        goes = record {
          sound = g.sound;
          touches = touches_trans [] (k ∷ []) s t u a.goes.touches g.touches
              (λ z j i o. w.within.off z j i o);
          frames = same_frames_then s.pool t.pool u.pool a.goes.frames g.frames;
        };
        halts = record {
          used = omega arith;
          full = full_never t u e (u.used + 0 < s.used + 1) (device_block_cause t u e c);
          most = omega arith;
          moves = omega arith;
          later = omega arith;
          pays = record {
            is = ⊎_elim (λ (b : 2 ^ 64 - 1 ≤ t.moves). inl (omega arith))
                (λ (b : t.used + s.moves ≤ s.used + t.moves + 1). inr (omega arith)) a.owes.is;
          };
        };
        cause = cause_after [] s t u e a.goes.touches (device_cause t u e c);
      };
      damaged = none_damaged e (λ b. s.head ≡ b + 1) c;
    }

-- the result of such a call
pub stored_stops : {s t u : RigState} {k : ℕ} (block : List Record) (result : Result ℕ EmFault)
    (e : EmFault) → IsErrAnd result (λ f. f ≡ e) → Allots s t k → Goes (k ∷ []) t u
    → Transfers t u → DeviceCause t u e → StoresNew s u block result
stored_stops block (Ok x) e i a g m c = absurd i
stored_stops {s} {t} {u} block (Err f) e i a g x c =
    subst (λ (y : EmFault). StopsStoring s u y) (sym i) (stops_stored a g x c)

-- That block was written.
pub stored_new : {s t u : RigState} {k : ℕ} (block : List Record) → Allots s t k
    → Goes (k ∷ []) t u → Transfers t u → u.device.contents ≡ set t.device.contents k block
    → InUse u k → StoresFrame s u block k
stored_new {s} {t} {u} {k} block a g x is held =
    let used = a.given.used in
    let same = x.used in
    let most = a.most in
    let kept = x.blocks.most in
    let first = alloc_moves s t a.moves in
    let moves = x.moves in
    let before = a.goes.touches.moves in
    let later = g.touches.moves in
    let blocks = a.goes.touches.blocks in
    let below = a.given.below in
    let w = session_allocates k a.goes a.given in
    record {
      runs = record {
        session = record {
          sound = g.sound;
          touches = touches_trans [] (k ∷ []) s t u a.goes.touches g.touches
              (λ z j i o. w.within.off z j i o);
          within = w.within;
          holds = λ z. record { in_use = (held, tt); distinct = λ y. (tt, tt) };
        };
        frames = same_frames_then s.pool t.pool u.pool a.goes.frames g.frames;
        spends = record {
          held = omega arith;
          used = omega arith;
          most = omega arith;
          moves = omega arith;
          later = omega arith;
          pays = record {
            is = ⊎_elim (λ (b : 2 ^ 64 - 1 ≤ t.moves). inl (omega arith))
                (λ (b : t.used + s.moves ≤ s.used + t.moves + 1).
                ⊎_elim (λ (c : t.moves < 2 ^ 64 - 1). inr (omega arith))
                (λ (c : 2 ^ 64 - 1 ≤ t.moves). inl (omega arith)) (cases_lt t.moves (2 ^ 64 - 1)))
                a.owes.is;
          };
        };
      };
      below = omega arith;
      unused = a.given.fresh;
      stored = λ z. stored_at u a.goes.sound (a.goes.touches.told ∙ z) a.given.in_use is;
    }
