-- A run whose moves are within the transfer cost for its kind, and its blocks within the room.
use Rattle.std.proofs.Common.{◌≡◌, ℕ, ◌+◌, ◌-◌, ◌*◌, ◌<◌, ◌≤◌, ◌^◌, ◌⊎◌, Bool, List, [], Some, IsTrue, IsFalse, ap, subst, ◌∙◌, refl, arith, inl, inr, ⊎_elim}
use Rattle.em_record.specs.Cost.{blocks_of, cost, lev, room}
use Rattle.em_record.specs.Count.{Rose}
use Rattle.em_record.specs.Shape.{ShapeNumbers, IsShape}
use Rattle.em_io.specs.Sink.{IsRule}
use Rattle.em_io.specs.declared.shelf.Shelf.{Ghosts as ShelfGhosts}
use Rattle.em_io.specs.declared.shelf.Slot.TheVariants.{First}
use Rattle.em_io.specs.declared.sink.Sink.{Ghosts as SinkGhosts}
use Rattle.em_io.proofs.Sent.{part-of, sent-nothing}
use Rattle.em_frames.specs.Device.{DeviceState}
use Rattle.em_space.specs.Queue.{CanServe}
use Rattle.em_space.specs.Rig.{RigState, Cause, Goes, Sound, Touches}
use Rattle.em_space.specs.declared.fault.EmFault.{EmFault}
use Rattle.em_space.specs.declared.fault.EmFault.TheVariants as em
use Rattle.em_tree_cost.specs.Shares.{queue_share, tree_room}
use Rattle.em_tree_cost.proofs.Services.{queue_cost, queue_run_room}
use Rattle.em_tree.specs.Calls.{StopsNewTrunk}
use Rattle.em_pqueue.specs.Calls.{IsNewQueue}
use Rattle.em_pqueue.specs.ExtQueue.{counts_of as ext_counts}
use Rattle.em_pqueue.specs.contracts.queue.ExtQueueQueue.TheImpl.{ghosts as ext}
use Rattle.em_pqueue.specs.declared.queue.ExtQueue.{ExtQueue}
use Rattle.std.proofs.Math.Nat.{mul-le-mul_left}
use Rattle.em_answers.specs.Limits.{Limits, asked_by, asked_of_file, cost_for, moves_size, queue_limits, syncs_in}
use Rattle.em_answers.specs.FileDue.{output_text}
use Rattle.em_ready.specs.Queues.{FailsToMake}
use Rattle.em_answers.specs.Serve.{GivesUp, WithinCalls, IsAlone}
use Rattle.em_ends.specs.Ended.{Ended, Outside, outside}
use Rattle.em_ready.specs.Ready.{IsReady, IsUnused}
use Rattle.em_answers.specs.FileRun.{Runs, RunsWithin}
use Rattle.em_ends.specs.Stop.{em_status, IfStopsFull, fault_counts}
use Rattle.em_lines.specs.RunSize.{commands_taken, run_size}
use Rattle.em_ends.specs.RunStop.{FillsRun}
use Rattle.em_ends.specs.Status.{IfEndsDamaged, IfEndsFull, OnDone, OnNoMemory, OnUsage}
use Rattle.em_ends.specs.declared.status.Status.{Status}
use Rattle.em_ends.specs.declared.status.Status.TheVariants.{Done, Malformed, NoMemory, ReadFault, WriteFault, DeviceFault, Full, Damaged}
use Rattle.em_ends.specs.declared.status.Status.TheVariants as status
use Rattle.em_ends.specs.declared.stop.Stop.TheVariants.{Em}
use Rattle.em_lines.specs.declared.text.FileKind.{FileKind}
use Rattle.em_lines.specs.declared.text.FileKind.TheVariants.{Queue}
use Rattle.em_ends.proofs.EndLaws.{ended_stop}
use Rattle.em_ready.proofs.Queues.{can_serve, fails_ext, makes_ext, most_ext}
use Rattle.em_ready.proofs.RoomLaws.{more_times, room_some}
use Rattle.em_answers.proofs.Running.{alone_new, goes_given_up}
use Rattle.em_model.specs.Map.{Combiner}

-- a number of blocks that a full device has fewer of, for a lesser one
if_less : (s : Status) (few many : ℕ) → few ≤ many → IfEndsFull s (λ used. used < few)
    → IfEndsFull s (λ used. used < many)
if_less (Full used) few many wide h = omega (arith, wide, h)
if_less Done few many wide h = tt
if_less (status.Usage kind word) few many wide h = tt
if_less (Malformed kind place) few many wide h = tt
if_less ReadFault few many wide h = tt
if_less WriteFault few many wide h = tt
if_less DeviceFault few many wide h = tt
if_less NoMemory few many wide h = tt
if_less (Damaged block) few many wide h = tt

-- the limits with these numbers
abbrev pub held_to : (ShapeNumbers → ℕ → ℕ) → (ShapeNumbers → ℕ → ℕ) → Limits
held_to moves most = record { moves = Some moves; room = Some most }

-- A run within numbers that are at most the transfer cost for its kind and the room is within these, on a device that
-- moved none before.
pub ended_by_cost : {took : List ℕ → List ℕ → List ℕ} (apply : Combiner) (early : Bool)
    (size : ShapeNumbers → (text left : List ℕ) → ℕ) (tells : Bool) (kind : FileKind)
    (text : List ℕ) (f most : ShapeNumbers → ℕ → ℕ) (shape : ShapeNumbers)
    (blocks : ℕ) (old new : Outside) (s : Status)
    → Ended tells took (asked_by apply size (held_to f most) kind text) shape blocks old new s
    → ((left : List ℕ) → size shape text left ≡ moves_size kind early shape text left)
    → ((n : ℕ) → f shape n ≤ cost_for kind shape n) → ((n : ℕ) → most shape n ≤ room shape n)
    → old.device.moves ≡ 0
    → Ended tells took (asked_of_file apply early kind text) shape blocks old new s
ended_by_cost apply early size tells kind text f most shape blocks old new s e same few small none =
    let left = (new.stand.slot First).left in
    let n = moves_size kind early shape text left in
    let run = run_size kind text left in
    let y = syncs_in kind text left in
    let within : (y + 1) * f shape n ≤ (y + 1) * cost_for kind shape n = mul-le-mul_left (y + 1) (few n) in
    let kept : IsTrue tells → IsTrue old.device.told → new.device.moves ≤ (y + 1) * cost_for kind shape n =
    λ t d. let m : new.device.moves ≤ old.device.moves + (y + 1) * f shape n =
    subst (λ (k : ℕ). new.device.moves ≤ old.device.moves + (y + 1) * f shape k) (same left) (e.moves t d) in
    omega (arith, m, within, none) in
    record {
      answers = e.answers;
      due = e.due;
      prefix = e.prefix;
      full = e.full;
      paid = e.paid;
      room = λ t d. if_less s (most shape run) (room shape run) (small run) (e.room t d);
      moves = λ t d. let m = kept t d in omega (arith, m);
      damaged = e.damaged;
    }

module _ (apply : Combiner) {H W : Type 0} {h : ShelfGhosts H} {w : SinkGhosts W} where
  -- So is the run of a command file.
  pub runs_by_cost : (early : Bool) (size : ShapeNumbers → (text left : List ℕ) → ℕ) (kind : FileKind)
      (f most : ShapeNumbers → ℕ → ℕ) (s t : RigState)
      (shelf : H) (out : W) (shelf_after : H) (out_after : W) (end : Status)
      → RunsWithin apply size h w (held_to f most) kind s t shelf out shelf_after out_after end
      → ((text left : List ℕ) → size s.pool.shape text left ≡ moves_size kind early s.pool.shape text left)
      → ((n : ℕ) → f s.pool.shape n ≤ cost_for kind s.pool.shape n)
      → ((n : ℕ) → most s.pool.shape n ≤ room s.pool.shape n)
      → ((n : ℕ) → most t.pool.shape n ≤ room t.pool.shape n)
      → s.device.moves ≡ 0
      → Runs apply early h w kind s t shelf out shelf_after out_after end
  runs_by_cost early size kind f most s t shelf out shelf_after out_after end r same few small last none = record {
    ended = ended_by_cost apply early size h.tells kind ((h.stand shelf).slot First).left f most s.pool.shape s.blocks
        (outside h w s.device shelf out) (outside h w t.device shelf_after out_after) end r.ended
        (same ((h.stand shelf).slot First).left) few small none;
    caused = r.caused;
    most = λ z d.
        let within = r.most z d in
        let wide =
        last (run_size kind ((h.stand shelf).slot First).left ((h.stand shelf_after).slot First).left) in
        omega (arith, within, wide);
    reads = r.reads;
    all_read = r.all_read;
    no_usage = r.no_usage;
    no_memory = r.no_memory;
  }

  -- The run of a queue, as seen from before the queue was made: it began at `r`, was made at `s`, and its
  -- moves were counted from the first on.
  pub runs_before : (kind : FileKind) (f most : ShapeNumbers → ℕ → ℕ) (r s t : RigState)
      (shelf : H) (out : W) (shelf_after : H) (out_after : W) (end : Status) → Touches [] r s
      → RunsWithin apply (λ shape. run_size kind) h w (queue_limits (Some most)) kind s t shelf out shelf_after out_after end
      → (IsTrue h.tells → IsTrue s.device.told
      → t.device.moves ≤ f s.pool.shape (run_size kind ((h.stand shelf).slot First).left
      ((h.stand shelf_after).slot First).left))
      → RunsWithin apply (λ shape. run_size kind) h w (held_to f most) kind r t shelf out shelf_after out_after end
  runs_before kind f most r s t shelf out shelf_after out_after end a x m = record {
    ended = record {
      answers = λ z d. x.ended.answers z (a.told ∙ d);
      due = λ z d. x.ended.due z d;
      prefix = λ z d. x.ended.prefix z (a.told ∙ d);
      full = subst (λ (n : ℕ). IfEndsFull end (λ used. used ≡ n)) a.blocks x.ended.full;
      paid = subst (λ (p : ShapeNumbers). IfEndsFull end (λ used. (2 ^ 64 - 1 ≤ t.device.moves)
          ⊎ (used ≤ t.device.moves + 2 * p.frames))) a.shape x.ended.paid;
      room = λ z d. subst (λ (p : ShapeNumbers). IfEndsFull end (λ used. used < most p (run_size kind
          ((h.stand shelf).slot First).left ((h.stand shelf_after).slot First).left))) a.shape
          (x.ended.room z (a.told ∙ d));
      moves = λ z d.
          let n = run_size kind ((h.stand shelf).slot First).left
          ((h.stand shelf_after).slot First).left in
          let few : t.device.moves ≤ f r.pool.shape n =
          subst (λ (p : ShapeNumbers). t.device.moves ≤ f p n) a.shape (m z (a.told ∙ d)) in
          let y = syncs_in kind ((h.stand shelf).slot First).left ((h.stand shelf_after).slot First).left in
          let more = more_times (f r.pool.shape n) y in
          omega (arith, few, more);
      damaged = subst (λ (n : ℕ). IfEndsDamaged end (λ at. IsFalse r.device.told × (at < n))) a.blocks
          (subst (λ (b : Bool). IfEndsDamaged end (λ at. IsFalse b × (at < s.blocks))) a.told
          x.ended.damaged);
    };
    caused = record {
      goes_on = record {
        told = x.caused.goes_on.told ∙ a.told;
        read = x.caused.goes_on.read;
        write = x.caused.goes_on.write;
        device = let v = x.caused.goes_on.device in omega (arith, v, a.faults);
      };
      read = x.caused.read;
      write = x.caused.write;
      device = λ e. let v = x.caused.device e in omega (arith, v, a.faults);
    };
    most = x.most;
    reads = x.reads;
    all_read = x.all_read;
    no_usage = x.no_usage;
    no_memory = x.no_memory;
  }

-- a queue's share is within the transfer cost of its commands
pub queue_few : (shape : ShapeNumbers) → IsShape shape → (n : ℕ)
    → queue_share shape n n ≤ cost shape n
queue_few shape is n = queue_cost shape n n (queue_share shape n n) is (omega arith) (omega arith)

-- a transfer cost is at least four moves
pub cost_some : (shape : ShapeNumbers) (n : ℕ) → 4 ≤ cost shape n
cost_some shape n =
    let more = more_times (2048 * (blocks_of shape n + 1)) (lev shape (blocks_of shape n)) in
    omega (arith, more)

-- what a device says that is full before a queue was made
new_fills : (apply : Combiner) (early : Bool) (tells : Bool) (text : List ℕ) (old : Outside) (s t : RigState) (fault : EmFault)
    → FailsToMake s t fault → IsShape s.pool.shape → t.pool.shape ≡ s.pool.shape → s.used ≡ 0 → s.moves ≡ 0
    → IfStopsFull (Em fault) (FillsRun tells (asked_of_file apply early Queue text) old.stand.slot t)
new_fills apply early tells text old s t em.DeviceFault f is same used none = tt
new_fills apply early tells text old s t (em.Damaged block) f is same used none = tt
new_fills apply early tells text old s t (em.Full n) f is same used none =
    let frames = ap (λ (p : ShapeNumbers). p.frames) same in
    let cause = f.cause in
    let few = f.used in
    let low = is.frames_low in
    record {
      paid = ⊎_elim
          (λ (h : 2 ^ 64 - 1 ≤ t.moves). inl h)
          (λ (h : t.used + s.moves + 0 ≤ s.used + t.moves + 1).
          inr (omega (arith, h, cause.0, cause.1, used, none, frames, low)))
          f.pays.is;
      room = λ z d.
          let n = run_size Queue text (old.stand.slot First).left in
          let wide = room_some t.pool.shape n in
          omega (arith, few, cause.0, cause.1, used, wide);
    }

-- No queue was made.
pub ended_unmade : (apply : Combiner) (early : Bool) {IsState : List ℕ → Type 0} {took : List ℕ → List ℕ → List ℕ}
    (rule : IsRule IsState took) (tells : Bool) (text : List ℕ) (old new : Outside)
    (s t : RigState) (fault : EmFault) → IsState old.output → new.output ≡ old.output
    → old.device ≡ s.device → new.device ≡ t.device → Sound s → FailsToMake s t fault
    → s.used ≡ 0 → s.moves ≡ 0
    → Ended tells took (asked_of_file apply early Queue text) s.pool.shape s.blocks old new (em_status fault)
ended_unmade apply early rule tells text old new s t fault ok same before after sound f used none =
    let asked = asked_of_file apply early Queue text in
    let first : old.device.moves ≡ s.moves =
    ap (λ (d : DeviceState). d.moves) before ∙ sound.moves_is in
    let last : new.device.moves ≡ t.moves =
    ap (λ (d : DeviceState). d.moves) after ∙ f.goes.sound.moves_is in
    let few = f.moves in
    ended_stop tells asked old new s t f.goes.touches f.goes.sound before after
    (λ z d. let some = cost_some s.pool.shape (run_size Queue text (new.stand.slot First).left) in
    omega (arith, some, first, last, few)) (Em fault) (fault_counts 0 0) (fault_counts 0 0) f.cause
    (new_fills apply early tells text new s t fault f sound.shape f.goes.touches.shape used none) (record {
      fault = λ z d. tt;
      part = λ z d. part-of (sent-nothing rule ok (output_text apply Queue text) same);
    })

-- A new queue on a rig of which no block is or was in use: it is alone,
pub queue_alone : {s t : RigState} {q : ExtQueue} → IsUnused s → s.moves ≡ 0 → IsNewQueue s t q
    → IsAlone t (ext_counts q)
queue_alone u none n = alone_new (makes_ext n) (most_ext u.none_ever u.used n) u.used none

-- its frames leave enough for its calls,
pub queue_serves : {s t : RigState} {q : ExtQueue} → IsReady s.pool → IsNewQueue s t q
    → CanServe t.pool
queue_serves {q = q} ready n = can_serve (ext_counts q) ready n.frames (omega arith) (omega arith)

-- when it was given up, they are back,
pub queue_goes : {s t u : RigState} {q : ExtQueue} → IsNewQueue s t q → GivesUp ext q t u
    → Goes [] s u
queue_goes n x = goes_given_up (makes_ext n) x

-- and its run is within the transfer cost and the room.
pub queue_runs : (apply : Combiner) (early : Bool) {H W : Type 0} {h : ShelfGhosts H} {w : SinkGhosts W} {s t u : RigState}
    {q : ExtQueue} {shelf : H} {out : W} {shelf_after : H} {out_after : W} {end : Status}
    → IsUnused s → s.moves ≡ 0 → IsNewQueue s t q → GivesUp ext q t u
    → RunsWithin apply (λ shape. run_size Queue) h w (queue_limits (Some tree_room)) Queue t u shelf out shelf_after out_after end
    → (IsTrue h.tells → IsTrue t.device.told → WithinCalls (Some queue_share) t.pool.shape
    (commands_taken Queue ((h.stand shelf).slot First).left ((h.stand shelf_after).slot First).left)
    u.moves)
    → Runs apply early h w Queue s u shelf out shelf_after out_after end
queue_runs apply early {s = s} {t = t} {u = u} {shelf = shelf} {out = out} {shelf_after = shelf_after}
    {out_after = out_after} {end = end} unused none n x r within =
    let sound = unused.sound in
    let f : ShapeNumbers → ℕ → ℕ = λ shape size. queue_share shape size size in
    let fits : (p : ShapeNumbers) → IsShape p → (n : ℕ) → tree_room p n ≤ room p n =
    λ p is n. queue_run_room p n n (tree_room p n) is (omega arith) (omega arith) in
    runs_by_cost apply early (λ shape. run_size Queue) Queue f tree_room s u shelf out shelf_after out_after end
    (runs_before apply Queue f tree_room s t u shelf out shelf_after out_after end n.session.touches r
    (λ z d. let m = within z d in let e = x.sound.moves_is in omega (arith, m, e)))
    (λ text left. refl) (queue_few s.pool.shape sound.shape)
    (fits s.pool.shape sound.shape) (fits u.pool.shape x.sound.shape)
    (sound.moves_is ∙ none)

-- a run that ended as the rig gave up isn't done
unmade_open : (fault : EmFault) (P : Type 0) → OnDone (em_status fault) P
unmade_open em.DeviceFault P = tt
unmade_open (em.Full n) P = tt
unmade_open (em.Damaged block) P = tt

unmade_usage : (fault : EmFault) → OnUsage (em_status fault) ⊥
unmade_usage em.DeviceFault = tt
unmade_usage (em.Full n) = tt
unmade_usage (em.Damaged block) = tt

unmade_memory : (fault : EmFault) → OnNoMemory (em_status fault) ⊥
unmade_memory em.DeviceFault = tt
unmade_memory (em.Full n) = tt
unmade_memory (em.Damaged block) = tt

-- and it failed by the device, if its status says so
unmade_device : (s t : RigState) (fault : EmFault) → Cause s t fault → em_status fault ≡ DeviceFault
    → Rose s.device.faults t.device.faults
unmade_device s t em.DeviceFault cause e = cause
unmade_device s t (em.Full n) cause e = cc
unmade_device s t (em.Damaged block) cause e = cc

unmade_read : (fault : EmFault) (P : Type 0) → em_status fault ≡ ReadFault → P
unmade_read em.DeviceFault P e = cc
unmade_read (em.Full n) P e = cc
unmade_read (em.Damaged block) P e = cc

unmade_write : (fault : EmFault) (P : Type 0) → em_status fault ≡ WriteFault → P
unmade_write em.DeviceFault P e = cc
unmade_write (em.Full n) P e = cc
unmade_write (em.Damaged block) P e = cc

-- So is the run if no queue was made.
pub unmade_runs : (apply : Combiner) (early : Bool) {H W : Type 0} {h : ShelfGhosts H} {w : SinkGhosts W}
    {IsState : List ℕ → Type 0} {s t : RigState} {shelf : H} {out : W} {fault : EmFault}
    → IsRule IsState w.took → IsState (w.state out) → IsUnused s → s.moves ≡ 0
    → StopsNewTrunk s t fault
    → Runs apply early h w Queue s t shelf out shelf out (em_status fault)
unmade_runs apply early {h = h} {w = w} {s = s} {t = t} {shelf = shelf} {out = out} {fault = fault} rule ok
    unused none x =
    let a = x.goes.touches in
    record {
      ended = ended_unmade apply early rule h.tells ((h.stand shelf).slot First).left
          (outside h w s.device shelf out) (outside h w t.device shelf out) s t fault ok refl refl refl
          unused.sound (fails_ext x) unused.used none;
      caused = record {
        goes_on = record {
          told = a.told;
          read = omega arith;
          write = omega arith;
          device = a.faults;
        };
        read = λ e. unmade_read fault _ e;
        write = λ e. unmade_write fault _ e;
        device = λ e. unmade_device s t fault x.cause e;
      };
      most = λ z d.
          let few = (fails_ext x).most in
          let wide = room_some t.pool.shape
          (run_size Queue ((h.stand shelf).slot First).left ((h.stand shelf).slot First).left) in
          omega (arith, few, wide, unused.used, unused.none_ever);
      reads = record {
        leaves = record { text = refl; others = λ other n. refl };
        lost = λ z. refl;
      };
      all_read = unmade_open fault _;
      no_usage = unmade_usage fault;
      no_memory = unmade_memory fault;
    }
