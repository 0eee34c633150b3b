-- The first operations of a list were pushed: none, one more, and all; and the push after them that gave up.
use Rattle.std.specs.Prelude.{◌≡◌, ℕ, ◌+◌, ◌<◌, ◌≤◌, max, List, [], ◌∷◌, length, take, drop, get_or, IsTrue, Result, Ok, Err}
use Rattle.std.proofs.Common.{sym, ap, subst, ◌∙◌, refl, arith, length-take-le}
use Rattle.std.proofs.Math.Seq.{take-length}
use Rattle.std.specs.Result.{IsErrAnd}
use Rattle.em_record.specs.Shape.{ShapeNumbers, payload_of}
use Rattle.em_record.specs.declared.record.Record.{Record}
use Rattle.em_model.specs.Map.{Combiner}
use Rattle.em_settle.specs.Add.{IsAddOp, add_step_of}
use Rattle.em_settle.specs.Map.{IsMapKept, map_key_of}
use Rattle.em_frames.specs.Device.{zero_record}
use Rattle.em_space.specs.Rig.{RigState, Sound}
use Rattle.em_space.specs.declared.fault.EmFault.{EmFault}
use Rattle.em_chain.specs.Counts.{ceiling}
use Rattle.em_chain.proofs.Sessions.{ceiling_rises}
use Rattle.em_tree_cost.specs.Books.{TreeCounts, count_push}
use Rattle.em_tree.specs.Calls.{ChangesTrunk, CountsCall, StopsTrunk}
use Rattle.em_trunk.specs.Meaning.{IsLater}
use Rattle.em_trunk.specs.Room.{FullOverRoom, WithinRoom}
use Rattle.em_trunk.specs.Trunk.{IsTrunk, model_of}
use Rattle.em_trunk.specs.declared.trunk.Trunk.{Trunk}
use Rattle.em_map.specs.Loading.{ComeLater, CountsPushes, LoadOver, LoadWithin, PushedAll, PushedSome, PushesAll, answers_in}
use Rattle.em_map.proofs.Later.{first_later, others_later}
use Rattle.em_map.proofs.Pushing.{changes_none, changes_then, counts_none, counts_then, counts_wider, given_most, next_dropped, next_taken, over_then, stops_after, within_then}

-- None was pushed.
pub pushed_none : (apply : Combiner) (ops : List Record) (s : RigState) (v : Trunk) → Sound s
    → IsTrunk map_key_of IsAddOp IsMapKept s v → (IsTrue s.device.told → ComeLater (model_of s v) ops)
    → PushedSome apply ops 0 s s v v
pushed_none apply ops s v sound is later = record {
  within = omega arith;
  changes = changes_none map_key_of (add_step_of apply) IsAddOp IsMapKept s v sound is;
  pushed = omega arith;
  since = omega arith;
  counts = counts_none s v sound is;
  later = later;
  room = λ told. record { most = omega arith };
  idle = λ e. (refl, refl);
}

-- Some were pushed, and the next one comes.
module _ (apply : Combiner) (ops : List Record) (n : ℕ) (s m : RigState) (v x : Trunk) (sound : Sound s)
    (below : n < length ops) (p : PushedSome apply ops n s m v x) where
  told_then : IsTrue s.device.told → IsTrue m.device.told
  told_then told = p.changes.session.touches.told ∙ told

  told_first : IsTrue m.device.told → IsTrue s.device.told
  told_first told = sym p.changes.session.touches.told ∙ told

  -- It is above all that waits for its key.
  pub next_is_later : IsTrue m.device.told → IsLater map_key_of (model_of m x) (get_or ops n zero_record)
  next_is_later told = first_later (model_of m x) (get_or ops n zero_record) (drop (n + 1) ops)
      (subst (ComeLater (model_of m x)) (next_dropped ops n below) (p.later (told_first told)))

  -- the blocks of answers before it
  given_then : IsTrue s.device.told → (h : ℕ) → answers_in apply s v + n ≤ h
      → x.answers.blocks ≤ ceiling h (payload_of s.pool.shape)
  given_then told h more =
      let most = given_most apply (take n ops) s m v x told p.changes in
      let count = length-take-le n ops p.within in
      let low = sound.shape.block_low in
      let some = answers_in apply s v + length (take n ops) in
      let same : ceiling some (payload_of m.pool.shape) ≡ ceiling some (payload_of s.pool.shape) =
      ap (λ (g : ShapeNumbers). ceiling some (payload_of g)) p.changes.session.touches.shape in
      let rises = ceiling_rises some h (payload_of s.pool.shape) (omega (arith, low)) (omega (arith, count, more)) in
      omega (arith, most, same, rises)

  -- the tree's number with it
  far_then : (l : ℕ) → max v.longest (v.since + (n + 1)) ≤ l → max x.longest (x.since + 1) ≤ l
  far_then l far = omega (arith, far, p.since, p.counts.longest)

  module _ (t : RigState) (w : Trunk) where
    -- Its push, whether it gave up or not, has the numbers of at most so many pushes,
    pub counts_next : CountsCall (count_push 0) m t x w → CountsPushes (n + 1) s t v w
    counts_next c = counts_then n s m t v x w p.since p.changes.session.touches.shape
        p.changes.session.touches.told p.counts c

    -- and keeps within their room.
    pub within_next : (l h : ℕ) → max v.longest (v.since + (n + 1)) ≤ l → answers_in apply s v + n ≤ h
        → IsTrue s.device.told → (IsTrue m.device.told → WithinRoom (max x.longest (x.since + 1)) m t x)
        → LoadWithin l h s t v
    within_next l h far more told r =
        let first : max v.longest (v.since + n) ≤ l = omega (arith, far) in
        within_then (max v.longest (v.since + n)) (max x.longest (x.since + 1)) l (answers_in apply s v + n) h s m t v x
        sound.shape p.changes.session.touches.shape (p.changes.loses told) (given_then told h more)
        (far_then l far) first more (p.room told) (r (told_then told))

    -- It went well, by rules that join values alike.
    pub pushed_more : (used : Combiner) → used ≡ apply
        → ChangesTrunk map_key_of (add_step_of used) IsAddOp IsMapKept (get_or ops n zero_record ∷ []) m t x w
        → CountsCall (count_push 0) m t x w
        → (IsTrue m.device.told → WithinRoom (max x.longest (x.since + 1)) m t x)
        → PushedSome apply ops (n + 1) s t v w
    pushed_more used alike by_used c r =
        let op = get_or ops n zero_record in
        let a = subst (λ (f : Combiner). ChangesTrunk map_key_of (add_step_of f) IsAddOp IsMapKept (op ∷ []) m t x w)
        alike by_used in
        let more : w.pushed ≡ x.pushed + 1 = ap (λ (z : TreeCounts). z.n) c.counts in
        let since : w.since ≡ x.since + 1 = ap (λ (z : TreeCounts). z.since) c.counts in
        record {
          within = omega (arith, below);
          changes = subst (λ (zs : List Record). ChangesTrunk map_key_of (add_step_of apply) IsAddOp IsMapKept zs s t v w)
              (sym (next_taken ops n below))
              (changes_then map_key_of (add_step_of apply) IsAddOp IsMapKept (take n ops) (op ∷ []) s m t v x w p.changes a);
          pushed = omega (arith, more, p.pushed);
          since = omega (arith, since, p.since);
          counts = counts_next c;
          later = λ told. others_later apply op (drop (n + 1) ops) (model_of m x) (model_of t w)
              (a.meaning (told_then told)).advances
              (subst (ComeLater (model_of m x)) (next_dropped ops n below) (p.later told));
          room = λ told. within_next (max v.longest (v.since + (n + 1))) (answers_in apply s v + (n + 1)) (omega arith)
              (omega arith) told r;
          idle = λ e. absurd (omega (arith, e));
        }

    -- It gave up.
    pub stops_next : (fault : EmFault) → StopsTrunk m t x w fault → StopsTrunk s t v w fault
    stops_next fault h = stops_after map_key_of (add_step_of apply) IsAddOp IsMapKept (take n ops) s m t v x w fault
        p.changes h

    pub counts_last : CountsCall (count_push 0) m t x w → CountsPushes (length ops) s t v w
    counts_last c = counts_wider (n + 1) (length ops) s t v w (omega (arith, below)) (counts_next c)

    pub within_last : IsTrue s.device.told → (IsTrue m.device.told → WithinRoom (max x.longest (x.since + 1)) m t x)
        → LoadWithin (max v.longest (v.since + length ops)) (answers_in apply s v + length ops) s t v
    within_last told r = within_next (max v.longest (v.since + length ops)) (answers_in apply s v + length ops)
        (omega (arith, below)) (omega (arith, below)) told r

  pub over_last : (fault : EmFault) → (IsTrue m.device.told → FullOverRoom (max x.longest (x.since + 1)) m x fault)
      → IsTrue s.device.told
      → LoadOver (max v.longest (v.since + length ops)) (answers_in apply s v + length ops) s v fault
  over_last fault o told =
      let l = max v.longest (v.since + length ops) in
      let h = answers_in apply s v + length ops in
      over_then 0 (max x.longest (x.since + 1)) l 0 h s m m v x sound.shape p.changes.session.touches.shape
      (p.changes.loses told) (given_then told h (omega (arith, below))) (far_then l (omega (arith, below)))
      p.changes.session.touches.blocks fault (o (told_then told))

-- All were pushed.
module _ (apply : Combiner) (ops : List Record) (n : ℕ) (s t : RigState) (v w : Trunk) (end : length ops ≤ n)
    (p : PushedSome apply ops n s t v w) where
  all : n ≡ length ops
  all = omega (arith, end, p.within)

  pub pushed_all : PushedAll apply ops s t v w
  pushed_all =
      let e = all in
      record {
        changes = subst (λ (zs : List Record). ChangesTrunk map_key_of (add_step_of apply) IsAddOp IsMapKept zs s t v w)
            (ap (λ (i : ℕ). take i ops) e ∙ take-length ops) p.changes;
        pushed = omega (arith, p.pushed, e);
        idle = λ z. p.idle (omega (arith, z, e));
      }

  pub counts_all : CountsPushes (length ops) s t v w
  counts_all = subst (λ (i : ℕ). CountsPushes i s t v w) all p.counts

  pub within_all : IsTrue s.device.told
      → LoadWithin (max v.longest (v.since + length ops)) (answers_in apply s v + length ops) s t v
  within_all told =
      subst (λ (i : ℕ). LoadWithin (max v.longest (v.since + i)) (answers_in apply s v + i) s t v) all (p.room told)

-- what the fault of a push says of the result
pub pushes_err : {T : Type 0} (apply : Combiner) (ops : List Record) (s t : RigState) (v w : Trunk)
    (result : Result T EmFault) (e : EmFault) → IsErrAnd result (λ f. f ≡ e) → StopsTrunk s t v w e
    → PushesAll apply ops s t v w result
pushes_err apply ops s t v w (Ok x) e h k = absurd h
pushes_err apply ops s t v w (Err f) e h k = subst (λ (g : EmFault). StopsTrunk s t v w g) (sym h) k
