-- A look at a tree, and what is made of it after that.
use Rattle.std.proofs.Common.{◌≡◌, ℕ, ◌+◌, ◌-◌, ◌≤◌, List, [], refl, sym, ap, ◌∙◌, subst, arith, Bool, IsFalse, IsTrue}
use Rattle.std.specs.Prelude.{None, Option, Result, Ok, Err}
use Rattle.em_record.specs.Shape.{ShapeNumbers, wide_of}
use Rattle.em_record.specs.declared.record.Record.{Record}
use Rattle.em_settle.specs.declared.step.Step.{Step}
use Rattle.em_space.specs.Free.{Off}
use Rattle.em_space.specs.Rig.{BlockCause, Goes, IfFull, RigState, SameBlocks, Sound}
use Rattle.em_space.specs.declared.fault.EmFault.{EmFault}
use Rattle.em_space.specs.declared.fault.EmFault.TheVariants.{Damaged, DeviceFault, Full}
use Rattle.em_space.proofs.Ledgers.{full_never}
use Rattle.em_space.proofs.Paying.{pays_kept, pays_more, pays_then}
use Rattle.em_space.proofs.Sessions.{session_trans}
use Rattle.em_space.proofs.Steps.{block_cause, both_told, cause_after, goes_trans, same_frames_then}
use Rattle.em_space.proofs.Within.{goes_wider}
use Rattle.em_tree_blocks.proofs.Entries.{tree_level}
use Rattle.em_tree_cost.specs.Counters.{Sums}
use Rattle.em_tree_cost.proofs.Outlines.{some_leaf}
use Rattle.em_tree_load.proofs.Peaks.{peaks_same}
use Rattle.em_tree_model.specs.Ranges.{least_record}
use Rattle.em_tree_model.specs.Tree.{Tree}
use Rattle.em_tree_outline.specs.Outline.{outline_of}
use Rattle.em_tree_outline.proofs.Outlines.{outline_child, outline_level}
use Rattle.em_tree_trim.specs.Looking.{Looked}
use Rattle.em_tree_trim.specs.Trim.{IsTrim}
use Rattle.em_tree_trim.specs.Trimming.{trim_moves}
use Rattle.em_tree_walk.proofs.Losses.{loses_then}
use Rattle.em_trunk.specs.Buffers.{NoneFrom}
use Rattle.em_trunk.specs.Entries.{EachEntry}
use Rattle.em_trunk.specs.Room.{HasCounters, MayHold}
use Rattle.em_trunk.specs.Spots.{EachRead}
use Rattle.em_trunk.specs.Trunk.{IsRunning, given_by, model_of, root_of, sums_in, trunk_blocks, trunk_unstored}
use Rattle.em_trunk.specs.Works.{SameNumbers}
use Rattle.em_trunk.specs.declared.trunk.Trunk.{Trunk}
use Rattle.em_trunk.proofs.Continues.{continues_then}
use Rattle.em_trunk.proofs.Rooms.{counters_as, keeps_by, keeps_then, stops_by_peaks, stops_then}
use Rattle.em_trunk.proofs.StepWorks.{still_continues, still_frames, still_loses, still_reads, still_running, still_session, still_sums}
use Rattle.em_tree.specs.Trimmed.{CanTrimTrunk, IsTrimTrunk, MadeTrim, MakesTrim, StopsMaking, StopsTrimmingTrunk, SumsJoin, TrimmedTrunk, TrimsTrunk, looking_moves, making_moves, root_at}

-- the numbers that stay
same_numbers : (v : Trunk) → SameNumbers v v
same_numbers v = record { pushed = refl; longest = refl; since = refl; settled = refl; resets = refl; spent = refl; adopted = refl; counted = refl }

-- no leaf is gone
none_gone : (w B : ℕ) (t : Sums) → 1 ≤ t.leaves → SumsJoin w B (t.leaves - t.leaves) t t
none_gone w B t some = record {
  leaves = omega arith;
  some = some;
  waiting = omega arith;
  weight = omega arith;
  stored = omega arith;
  excess = omega arith;
}

-- the most moves of making a tree trim, by its numbers
making_same : (g h : ShapeNumbers) (t u : Sums) (level : ℕ) → h ≡ g → u ≡ t
    → trim_moves (wide_of h) level u.leaves ≡ trim_moves (wide_of g) level t.leaves
making_same g h t u level e f =
    ap (λ (z : ShapeNumbers). trim_moves (wide_of z) level u.leaves) e
    ∙ ap (λ (x : Sums). trim_moves (wide_of g) level x.leaves) f

-- a tree has a leaf
pub root_leaf : {key : Record → Record} {IsOp IsKept : Record → Type 0} {s : RigState} {v : Trunk}
    → IsRunning key IsOp IsKept s v → IsTrue s.device.told → 1 ≤ (sums_in s v).leaves
root_leaf {key = key} {s = s} {v = v} run told =
    let is = (run.stands told).is in
    some_leaf (outline_of (root_of s v)) v.level
    (outline_level key (root_of s v) v.level _ _ is.2 (tree_level v.level s v.root)) (outline_child (root_of s v) is.0)

module _ {key : Record → Record} {IsOp IsKept : Record → Type 0} {s m : RigState} {v : Trunk} (sound : Sound s)
    (run : IsRunning key IsOp IsKept s v) (can : CanTrimTrunk s v) (g : Goes [] s m) (same : SameBlocks s m)
    (few : IsTrue s.device.told → m.moves ≤ s.moves + looking_moves s v) where
  same_trim : IsTrue s.device.told → IsTrimTrunk s v → IsTrimTrunk m v
  same_trim told h =
      let T : Tree → Type 0 = λ x. IsTrim s.pool.shape v.level (outline_of x) in
      let S : ShapeNumbers → Type 0 = λ z. IsTrim z v.level (outline_of (root_of m v)) in
      subst S (sym g.touches.shape) (subst T (sym (still_reads run g told).root) h)

  none_still : IsTrue s.device.told → EachRead (NoneFrom 0) m v
  none_still told =
      let E : Tree → Type 0 = λ x. EachEntry (NoneFrom 0) v.level least_record None x in
      subst E (sym (still_reads run g told).root) (can.none told)

  -- It can be made trim after the look,
  pub can_still : CanTrimTrunk m v
  can_still = record {
    none = λ z. none_still (sym g.touches.told ∙ z);
    drained = can.drained;
  }

  pub run_still : IsRunning key IsOp IsKept m v
  run_still = still_running run g

  hold_still : IsTrue s.device.told → (n : ℕ) → MayHold n 0 s v → MayHold n 0 m v
  hold_still told n h =
      let e = still_sums run g told in
      let C : Sums → Type 0 = HasCounters m.pool.shape v.longest 0 in
      let w = ap (λ (x : Sums). x.waiting) e in
      let few = h.answers in
      record {
        counters = subst C (sym e) (counters_as m.pool.shape v.longest g.touches.shape refl h.counters);
        answers = omega (arith, few, w);
      }

  making_still : IsTrue s.device.told → making_moves m v ≡ making_moves s v
  making_still told =
      making_same s.pool.shape m.pool.shape (sums_in s v) (sums_in m v) v.level g.touches.shape
      (still_sums run g told)

  module _ (step : Option Record → Record → Step) where
    -- and it was: nothing was done,
    pub was_trim : (IsTrue s.device.told → IsTrimTrunk s v) → TrimmedTrunk key step IsOp IsKept s m v v
    was_trim trim = record {
      made = record {
        session = still_session run g;
        frames = g.frames;
        pays = (let e = same.used in pays_kept (trunk_unstored v) (omega (arith, e)) g.touches.moves);
        loses = still_loses run g same.used;
        numbers = same_numbers v;
        drained = can.drained;
        answers = refl;
        running = run_still;
        told = λ z. record {
          continues = still_continues run g step z;
          none = none_still z;
          trim = same_trim z (trim z);
          joins =
              let w = wide_of s.pool.shape in
              let B = s.pool.shape.block in
              let t = sums_in s v in
              let J : Sums → Type 0 = λ u. SumsJoin w B (t.leaves - u.leaves) t u in
              subst J (sym (still_sums run g z)) (none_gone w B t (root_leaf run z));
        };
        moves = λ z. (let m = few z in omega (arith, m));
        room = λ z n h. keeps_by run sound.shape z (peaks_same 0 same) (omega arith) n h;
      };
      quiet = λ z t. (ap (λ (x : Sums). x.leaves) (still_sums run g z), few z);
    }

    -- or it was made so,
    pub made_after : {t : RigState} {w : Trunk} → (IsTrue s.device.told → IsTrimTrunk s v → ⊥)
        → MadeTrim key step IsOp IsKept (making_moves m v) m t v w → TrimmedTrunk key step IsOp IsKept s t v w
    made_after {t = t} {w = w} never h =
        let over = λ (z : IsTrue s.device.told). (let y : IsTrue m.device.told = g.touches.told ∙ z in y) in
        let first = still_session run g in
        record {
          made = record {
            session = session_trans first h.session;
            frames = same_frames_then s.pool m.pool t.pool g.frames h.frames;
            pays = (let e = same.used in pays_then (pays_kept (trunk_unstored v) (omega (arith, e)) g.touches.moves)
                h.pays h.session.touches.moves);
            loses = loses_then (trunk_blocks s v) (trunk_blocks m v) (trunk_blocks t w) s m t g.touches.told
                (still_loses run g same.used) h.loses;
            numbers = h.numbers;
            drained = h.drained;
            answers = h.answers;
            running = h.running;
            told = λ z.
                let x = h.told (over z) in
                let u = sums_in t w in
                let J : ShapeNumbers → Sums → Type 0 =
                λ p a. SumsJoin (wide_of p) p.block (a.leaves - u.leaves) a u in
                record {
                  continues = continues_then key step IsOp IsKept (given_by s v) (given_by m v) (given_by t w)
                      (model_of s v) (model_of m v) (model_of t w) (still_continues run g step z) x.continues;
                  none = x.none;
                  trim = x.trim;
                  joins = subst (λ (a : Sums). J s.pool.shape a) (still_sums run g z)
                      (subst (λ (p : ShapeNumbers). J p (sums_in m v)) g.touches.shape x.joins);
                };
            moves = λ z.
                let a = few z in
                let b = h.moves (over z) in
                let c = making_still z in
                omega (arith, a, b, c);
            room = λ z n k.
                let a = keeps_by run sound.shape z (peaks_same 0 same) (omega arith) n k in
                keeps_then refl g.touches.shape (still_loses run g same.used z) a
                (h.room (over z) n (hold_still z n k));
          };
          quiet = λ z trim. absurd (never z trim);
        }

  -- or wasn't.
  pub unmade_after : {t : RigState} {w : Trunk} {fault : EmFault} → (IsTrue s.device.told → IsTrimTrunk s v → ⊥)
      → StopsMaking (making_moves m v) m t v w fault → StopsTrimmingTrunk s t v w fault
  unmade_after {t = t} {w = w} {fault = fault} never h =
      let over = λ (z : IsTrue s.device.told). (let y : IsTrue m.device.told = g.touches.told ∙ z in y) in
      let first = goes_wider (trunk_blocks s v) [] s m (record { off = λ z j u o. tt }) g in
      record {
        stops = record {
          goes = goes_trans (trunk_blocks s v) (trunk_blocks m v) s m t first h.goes
              (λ z k u o. (let P : List ℕ → Type 0 = Off k in subst P (sym (still_reads run g z).blocks) o));
          frames = h.frames;
          pays = (let e = same.used in pays_then (pays_kept (trunk_unstored v) (omega (arith, e)) g.touches.moves)
              h.pays h.goes.touches.moves);
          numbers = h.numbers;
          cause = cause_after [] s m t fault g.touches h.cause;
          moves = λ z.
              let a = few z in
              let b = h.moves (over z) in
              let c = making_still z in
              omega (arith, a, b, c);
          room = λ z n k.
              let a = keeps_by run sound.shape z (peaks_same 0 same) (omega arith) n k in
              stops_then refl g.touches.shape (still_loses run g same.used z) a g.touches.blocks
              (h.room (over z) n (hold_still z n k));
        };
        needs = full_as fault never;
        quiet = λ z trim. absurd (never z trim);
      }
    where
      full_as : (f : EmFault) → (IsTrue s.device.told → IsTrimTrunk s v → ⊥)
          → IfFull f (λ _. IsTrue s.device.told → IsTrimTrunk s v → ⊥)
      full_as DeviceFault n = tt
      full_as (Full used) n = n
      full_as (Damaged block) n = tt

  -- The look gave up: it needs no block.
  pub look_stops : {fault : EmFault} → BlockCause s m fault → StopsTrimmingTrunk s m v v fault
  look_stops {fault = fault} cause = record {
    stops = record {
      goes = goes_wider (trunk_blocks s v) [] s m (record { off = λ z j u o. tt }) g;
      frames = still_frames run g;
      pays = (let e = same.used in pays_more (pays_kept (trunk_unstored v) (omega (arith, e)) g.touches.moves)
          (omega arith));
      numbers = same_numbers v;
      cause = block_cause s m fault cause;
      moves = λ z. (let m = few z in omega (arith, m));
      room = λ z n h. stops_by_peaks run sound.shape z (peaks_same 0 same)
          (let l = sound.shape.frames_low in omega (arith, l)) g.touches.blocks (block_cause s m fault cause) n h;
    };
    needs = full_never s m fault (IsTrue s.device.told → IsTrimTrunk s v → ⊥) cause;
    quiet = λ z trim. few z;
  }

module _ (key : Record → Record) (step : Option Record → Record → Step) (IsOp IsKept : Record → Type 0)
    (s m : RigState) (v : Trunk) (sound : Sound s) (run : IsRunning key IsOp IsKept s v) (can : CanTrimTrunk s v)
    (b : Bool) (h : Looked s m (root_at v) b) where
  -- The look found it trim,
  pub found_trim : IsTrue b → TrimmedTrunk key step IsOp IsKept s m v v
  found_trim found = was_trim sound run can h.looks.goes h.looks.same h.looks.moves step
      (λ z. (h.is z).0 found)

  -- or not: it can be made so,
  pub found_can : CanTrimTrunk m v
  found_can = can_still sound run can h.looks.goes h.looks.same h.looks.moves

  -- and was or wasn't.
  pub found_other : {T : Type 0} (t : RigState) (w : Trunk) (r : Result T EmFault) → IsFalse b
      → MakesTrim key step IsOp IsKept m t v w r → TrimsTrunk key step IsOp IsKept s t v w r
  found_other t w (Ok x) other k = made_after sound run can h.looks.goes h.looks.same h.looks.moves step
      (λ z trim. both_told b ((h.is z).1 trim) other) k
  found_other t w (Err fault) other k = unmade_after sound run can h.looks.goes h.looks.same h.looks.moves
      (λ z trim. both_told b ((h.is z).1 trim) other) k
