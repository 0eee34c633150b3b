-- What a push asks of the calls that it makes, and what it left when one of them ended it.
use Rattle.std.proofs.Common.{◌≡◌, ℕ, ◌+◌, ◌*◌, ◌<◌, ◌≤◌, ◌++◌, refl, sym, ap, ◌∙◌, subst, arith, inl}
use Rattle.std.specs.Prelude.{IsErrAnd, Option, Result, Ok, Err}
use Rattle.std.proofs.Math.Nat.{mul-le-mul_right}
use Rattle.em_record.specs.Shape.{ShapeNumbers, fan_of}
use Rattle.em_record.specs.declared.record.Record.{Record}
use Rattle.em_settle.specs.declared.step.Step.{Step}
use Rattle.em_space.specs.Free.{Off}
use Rattle.em_space.specs.Rig.{Cause, Goes, RigState}
use Rattle.em_space.specs.declared.fault.EmFault.{EmFault}
use Rattle.em_space.proofs.Apart.{off_left, off_right}
use Rattle.em_space.proofs.Paying.{pays_of_owes}
use Rattle.em_space.proofs.Within.{goes_wider}
use Rattle.em_chain.specs.Writer.{CanGrow, WriterHasFrame, writer_blocks}
use Rattle.em_chain.specs.Writes.{AppendCosts, Appends}
use Rattle.em_chain.specs.declared.writer.Writer.{Writer}
use Rattle.em_tree_blocks.specs.Reading.{tree_blocks}
use Rattle.em_tree_buffers.specs.Draining.{CanDrain, DrainedRoot, StopsDraining}
use Rattle.em_tree_buffers.specs.Loops.{CanClearFull, ClearsTo}
use Rattle.em_tree.specs.Pushing.{Appended, CanPushOp, PushedOp, PushesTo, StopsPush}
use Rattle.em_trunk.specs.Trunk.{IsRunning, full_limit, trunk_blocks, trunk_unstored}
use Rattle.em_trunk.specs.Works.{StopsWorking, CanWork, deepest}
use Rattle.em_trunk.specs.declared.trunk.Trunk.{Trunk}
use Rattle.em_tree.proofs.Appends.{appended, appended_running, done}
use Rattle.em_tree_buffers.proofs.DrainedTrees.{all_of}
use Rattle.em_tree.proofs.Pushed.{clear_pushed, drain_after, first, paid_is, pushed_full}
use Rattle.em_tree.proofs.PushStops.{if_full, push_stopped, pushed_few}
use Rattle.em_trunk.proofs.Works.{stops_after, can_after}
use Rattle.em_trunk.proofs.Rooms.{peak_fits, stops_by_peaks}
use Rattle.em_tree_load.specs.Peaks.{Peaks}

-- a fault that a call gave
abbrev pub gave_up : EmFault → Result (Unit {0}) EmFault
gave_up fault = Err fault

-- a full buffer, by the numbers that the call computed
limit_by : (f b : ℕ) (shape g : ShapeNumbers) → f ≡ fan_of shape → b ≡ shape.block → shape ≡ g
    → f * b ≡ full_limit g
limit_by f b shape g fan block same =
    ap (λ (x : ℕ). x * b) fan ∙ (ap (λ (x : ℕ). fan_of shape * x) block ∙ ap full_limit same)

pub room_by : (n f b count : ℕ) (shape g : ShapeNumbers) → n ≡ count → f ≡ fan_of shape
    → b ≡ shape.block → shape ≡ g → n < f * b → count < full_limit g
room_by n f b count shape g len fan block same h =
    let e = limit_by f b shape g fan block same in
    let P : ℕ → Type 0 = λ x. count < x in
    let Q : ℕ → Type 0 = λ x. x < f * b in
    subst P e (subst Q len h)

pub full_by : (n f b count : ℕ) (shape g : ShapeNumbers) → n ≡ count → f ≡ fan_of shape
    → b ≡ shape.block → shape ≡ g → f * b ≤ n → full_limit g ≤ count
full_by n f b count shape g len fan block same h =
    let e = limit_by f b shape g fan block same in
    let P : ℕ → Type 0 = λ x. x ≤ count in
    let Q : ℕ → Type 0 = λ x. f * b ≤ x in
    subst P e (subst Q len h)

-- the result that a fault is handed on as
pub pushes_err : {T : Type 0} (key : Record → Record) (step : Option Record → Record → Step)
    (IsOp IsKept : Record → Type 0) (op : Record) (s t : RigState) (v w : Trunk) (r : Result T EmFault)
    (fault : EmFault) → IsErrAnd r (λ f. f ≡ fault) → StopsPush op s t v w fault
    → PushesTo key step IsOp IsKept op s t v w r
pushes_err key step IsOp IsKept op s t v w (Ok x) fault e h = absurd e
pushes_err key step IsOp IsKept op s t v w (Err f) fault e h =
    let P : EmFault → Type 0 = λ g. StopsPush op s t v w g in
    subst P (sym e) h

module _ (key : Record → Record) (IsOp IsKept : Record → Type 0) (op : Record) (s : RigState)
    (v : Trunk) (can : CanWork key IsOp IsKept s v) (push : CanPushOp key IsOp IsKept op s v) where
  -- There is room in the root's buffer.
  pub can_append : CanGrow v.buffer
  can_append =
      let is = can.sound.shape in
      let few = push.few in
      let blocks = push.blocks in
      let fan : fan_of s.pool.shape ≤ 256 = omega (arith, is.frames_high) in
      let most : fan_of s.pool.shape * s.pool.shape.block ≤ 256 * s.pool.shape.block =
      mul-le-mul_right s.pool.shape.block fan in
      record {
        count = omega (arith, few, most, is.block_high);
        blocks = omega (arith, few, blocks, most, is.block_high);
      }

  -- the buffer's blocks are the tree's
  buffer_off : (j : ℕ) → Off j (trunk_blocks s v) → Off j (writer_blocks s v.buffer)
  buffer_off j o =
      let b = writer_blocks s v.buffer in
      let x = writer_blocks s v.answers in
      off_left j b x (off_right j (tree_blocks v.level s v.root) (b ++ x) o)

  module _ (m : RigState) (b : Writer) (goes : Goes (writer_blocks s v.buffer) s m)
      (frame : WriterHasFrame m b) where
    -- The append gave up.
    pub append_stopped : (fault : EmFault) → AppendCosts s m v.buffer b (gave_up fault) → Cause s m fault
        → StopsPush op s m v (record v { buffer = b }) fault
    append_stopped fault costs cause =
        let f = can.running.frames in
        record {
          goes = goes_wider (trunk_blocks s v) (writer_blocks s v.buffer) s m
              (record { off = λ z j u o. buffer_off j o }) goes;
          frames = record {
            buffer = frame.len_is;
            answers = rw (goes.frames.shape) f.answers;
            out = rw (goes.frames.free, goes.frames.shape) f.out;
          };
          numbers = record { pushed = refl; longest = refl; since = refl; settled = refl; resets = refl; spent = refl; adopted = refl; counted = refl };
          pays = pays_of_owes 0 (trunk_unstored v) (2 * fan_of s.pool.shape + 3) costs.owes_err
              (omega arith);
          cause = cause;
          needs = if_full fault _ (inl costs.needs);
          charges = λ told. inl costs.moves_err;
          room = λ told g k after.
              let used : m.used ≤ s.used + 1 = costs.used_err in
              let most = costs.most in
              let peaks : Peaks 1 s m = record { used = used; most = omega (arith, used, most) } in
              stops_by_peaks can.running can.sound.shape told peaks
              (let p = peak_fits can.sound.shape in omega (arith, p)) goes.touches.blocks cause g k;
        }

module _ (key : Record → Record) (step : Option Record → Record → Step) (IsOp IsKept : Record → Type 0)
    (op : Record) (s : RigState) (v : Trunk) (can : CanWork key IsOp IsKept s v)
    (push : CanPushOp key IsOp IsKept op s v) (m : RigState) (b : Writer)
    (goes : Goes (writer_blocks s v.buffer) s m) (frame : WriterHasFrame m b)
    (appends : Appends s m v.buffer b op) (costs : AppendCosts s m v.buffer b done) where
  abbrev pub after : Trunk
  after = record v { buffer = b }

  pub was_appended : Appended op s m v after
  was_appended = appended key IsOp IsKept op s m v b can.running goes frame appends costs

  after_runs : IsRunning key IsOp IsKept m after
  after_runs = appended_running key IsOp IsKept op s m v b can.running goes frame appends costs push

  -- The root's buffer can be emptied,
  pub can_work : CanWork key IsOp IsKept m after
  can_work = record {
    sound = goes.sound;
    running = after_runs;
    free = rw (goes.frames.shape, goes.frames.free) can.free;
    areas = rw (goes.frames.free_areas) can.areas;
    rack = goes.frames.rack ∙ can.rack;
  }

  pub can_drain : CanDrain m after
  can_drain = drain_after key step IsOp IsKept op s m v after was_appended push

  -- or isn't full.
  pub not_full : after.buffer.count < full_limit m.pool.shape
      → PushedOp key step IsOp IsKept op s m v after
  not_full few = pushed_few key step IsOp IsKept op s m v after was_appended push goes.sound
      after_runs few

  module _ (big : full_limit m.pool.shape ≤ after.buffer.count) (u : RigState) (x : Trunk) where
    -- Emptying it gave up.
    pub drain_stopped : (fault : EmFault) → StopsDraining m u after x fault
        → StopsPush op s u v x fault
    drain_stopped fault h = push_stopped key step IsOp IsKept op s m v after was_appended push can.running
        can.sound.shape big u x fault
        (h.stops 0 big)

    module _ (root : DrainedRoot key step IsOp IsKept m u after x) where
      -- What is full below it can be emptied,
      pub clear_can : CanWork key IsOp IsKept u x
      clear_can = can_after key step IsOp IsKept 0 (0 + 18 + 3 * deepest m after) 0 0 m u after x
          can_work (first key step IsOp IsKept op s m v after was_appended push u x big root)

      pub clear_full : CanClearFull (all_of x.level) u x
      clear_full = clear_pushed key step IsOp IsKept op s m v after was_appended push u x big root

      -- and was, or not.
      pub cleared : {T : Type 0} (t : RigState) (y : Trunk) (r : Result T EmFault)
          → ClearsTo key step IsOp IsKept (all_of x.level) u t x y r
          → PushesTo key step IsOp IsKept op s t v y r
      cleared t y (Ok z) h =
          pushed_full key step IsOp IsKept op s m v after was_appended push u x big root t y h.0 h.1
      cleared t y (Err fault) h =
          let d = deepest u x in
          let S : ℕ → Type 0 = λ n. StopsWorking n 0 (2 * fan_of u.pool.shape + 3) u t x y fault in
          let one = first key step IsOp IsKept op s m v after was_appended push u x big root in
          let paid = paid_is key step IsOp IsKept op s m v after was_appended push u x big root in
          let stops = subst S (sym paid) (h (18 + 2 * d)) in
          let N : ℕ → Type 0 = λ f. StopsWorking 0 0 (2 * f + 3) m t after y fault in
          push_stopped key step IsOp IsKept op s m v after was_appended push can.running
          can.sound.shape big t y fault
          (subst N (ap fan_of one.session.touches.shape) (stops_after one stops))
