-- From a circuit's text to its graph: what is made, and a queue beside it, is all that is on the rig.
use Rattle.std.proofs.Common.{◌≡◌, ℕ, ◌+◌, ◌-◌, ◌*◌, ◌≤◌, ◌^◌, ◌⊎◌, inl, inr, ⊎_elim, Bool, List, [], ◌++◌, ap, sym, subst, ◌∙◌, arith, IsTrue, max, Result, Ok, Err, Option, ◌<◌}
use Rattle.em_record.specs.Shape.{ShapeNumbers, payload_of}
use Rattle.em_io.specs.declared.shelf.Slot.TheVariants.{First}
use Rattle.em_space.specs.Ledger.{Session}
use Rattle.em_space.specs.Queue.{Pays, QueueCounts, Shares}
use Rattle.em_space.specs.Rig.{Cause, Goes, IfFull, Owes, RigState, Sound, Touches}
use Rattle.em_space.specs.declared.fault.EmFault.{EmFault}
use Rattle.em_space.specs.declared.fault.EmFault.TheVariants as em
use Rattle.em_space.specs.declared.queue.Queue.{Ghosts as QueueGhosts}
use Rattle.em_space.proofs.Held.{apart_none}
use Rattle.em_space.proofs.Paying.{owes_of_pays, pays_of_owes, pays_then}
use Rattle.em_space.proofs.Sessions.{session_trans}
use Rattle.em_space.proofs.Steps.{cause_after}
use Rattle.em_space.proofs.Within.{touches_within}
use Rattle.em_pqueue.specs.contracts.queue.ExtQueueQueue.TheImpl.{ghosts as ext}
use Rattle.em_pqueue.specs.declared.queue.ExtQueue.{ExtQueue}
use Rattle.em_tree_cost.specs.Shares.{tree_room}
use Rattle.em_chain.specs.Chain.{payload_in}
use Rattle.em_chain.specs.Counts.{ceiling}
use Rattle.aig_defs.specs.declared.circuit.Header.{Header}
use Rattle.aig_defs.specs.Begun.{circuit_size, text_size}
use Rattle.aig_defs.specs.Circuit.{Circuit, columns}
use Rattle.aig_defs.specs.Items.{Reads, Fails}
use Rattle.aig_defs.specs.Faults.{IsDefined}
use Rattle.aig_defs.specs.TextFault.{either_text}
use Rattle.aig_defs.proofs.EitherText.{text_breaks, text_faulty}
use Rattle.aig_text.specs.Ascii.{ArePartsOf, IfEm, TakesAtMost}
use Rattle.aig_text.specs.Parts.{IsParts, parts_blocks}
use Rattle.aig_text.specs.Source.{Source, left}
use Rattle.aig_text.specs.declared.parts.Parts.{Parts}
use Rattle.aig_text.specs.declared.stop.AigStop.{AigStop}
use Rattle.aig_text.specs.declared.stop.AigStop.TheVariants as stop
use Rattle.aig_text.proofs.PartsLaws.{parts_of, parts_stay}
use Rattle.aig_edges.specs.Build.{UsesUp, parts_size}
use Rattle.aig_edges.specs.BuildGraph.{BuildsGraph, StopsBuilding, StoresSorted}
use Rattle.aig_edges.specs.Graph.{IsGraph, IsGraphOf, edge_count, graph_blocks, graph_size}
use Rattle.aig_edges.specs.Room.{BuildsInRoom, FullInRoom, IsInRoom, IsTreeRoom}
use Rattle.aig_edges.specs.declared.graph.Graph.{Graph}
use Rattle.aig_edges.proofs.GraphLaws.{GraphStays, graph_stays}
use Rattle.aig_edges.proofs.Room.{em_by}
use Rattle.aig_sweep.specs.Sweeper.{without_frames}
use Rattle.aig_order.specs.OrderGraph.{OfDefinedCircuit}
use Rattle.aig_bin.specs.EitherForm.{ReadsEither, SpellsEither}
use Rattle.em_eval.specs.EvalSize.{eval_room, given_of}
use Rattle.em_eval.specs.Evaluation.{CircuitCause, FillsEval}
use Rattle.em_ready.specs.Queues.{FailsToMake, MakesQueue}
use Rattle.em_ready.specs.Ready.{IsUnused}
use Rattle.em_ends.specs.Stop.{IfStopsFull, circuit_stop, fault_counts}
use Rattle.em_ends.specs.declared.stop.Stop.{Stop}
use Rattle.em_ends.specs.declared.stop.Stop.TheVariants.{Em}
use Rattle.em_eval.proofs.Circuit.{ReadsFrom, given_least, left_first, read_of, text_of}
use Rattle.em_eval.proofs.CircuitCosts.{GraphFills, PartsFill}
use Rattle.em_eval.proofs.EvalRoom.{full_less, graph_beside, graph_small, makes_within, packed_short, room_after, room_as, text_beside, text_small}
use Rattle.em_ready.proofs.Queues.{frames_back, frames_lent, session_made}
use Rattle.em_chain.specs.declared.chain.Chain.{Chain}

-- If shelf and device tell, the device is full only if it has fewer blocks than the room of what was read.
abbrev pub RoomAt : Option ℕ → Bool → Source → Source → RigState → Stop → Type 0
RoomAt start tells a d s stop = IsTrue tells → IsTrue s.device.told
    → IfStopsFull stop (λ used. used < eval_room s.pool.shape (read_of start a d))

-- If they tell, at no moment more blocks were in use than that.
abbrev pub MostAt : Option ℕ → Bool → Source → Source → RigState → RigState → Type 0
MostAt start tells a d s t = IsTrue tells → IsTrue s.device.told
    → t.most ≤ eval_room s.pool.shape (read_of start a d)

-- No edges were made, by the text at first and at the end.
pub record StopsAt (start : Option ℕ) (tells : Bool) (a d : Source) (s t : RigState) (stop : Stop) : Type 0 where
  pub cause : CircuitCause start tells (text_of a) (fault_counts a.faults 0) (fault_counts d.faults 0) s t
      stop
  pub full : IfStopsFull stop (FillsEval t)
  pub room : RoomAt start tells a d s stop

-- a full rig on which few blocks weren't stored
fills_paid : {s t : RigState} (n used : ℕ) → IsUnused s → Owes n s t → used ≡ t.used
    → n ≤ 2 * t.pool.shape.frames
    → (2 ^ 64 - 1 ≤ t.moves) ⊎ (used ≤ t.moves + 2 * t.pool.shape.frames)
fills_paid {s} {t} n used unused owes same few =
    let none = unused.used in
    ⊎_elim (λ (x : 2 ^ 64 - 1 ≤ t.moves). inl x)
    (λ (x : t.used + s.moves ≤ s.used + t.moves + n). inr (omega (arith, x, none, same, few))) owes.is

-- a call on the rig gave up, on a rig of which no block was in use at first
pub stops_em : {start : Option ℕ} {tells : Bool} {a d : Source} {s t : RigState} (n : ℕ) (fault : EmFault)
    → IsUnused s → Sound t → Cause s t fault → Owes n s t → n ≤ t.pool.shape.frames + 2
    → RoomAt start tells a d s (Em fault) → StopsAt start tells a d s t (Em fault)
stops_em n em.DeviceFault unused sound cause owes few room =
    record { cause = cause; full = tt; room = room }
stops_em {t = t} n (em.Full used) unused sound cause owes few room = record {
  cause = cause;
  room = room;
  full =
      let all = cause.0 in
      let full = cause.1 in
      let low = sound.shape.frames_low in
      record {
        paid = fills_paid n used unused owes (omega (arith, all, full)) (omega (arith, few, low));
      };
}
stops_em n (em.Damaged block) unused sound cause owes few room =
    record { cause = cause; full = tt; room = room }

-- no queue was made beside what was made so far, and two blocks more are within the room
pub unmade_stops : {start : Option ℕ} {tells : Bool} {a d : Source} {s t u : RigState} (fault : EmFault) → IsUnused s
    → Goes [] s t → Pays 0 0 s t → FailsToMake t u fault
    → (IsTrue tells → t.used + 2 < eval_room s.pool.shape (read_of start a d))
    → StopsAt start tells a d s u (Em fault)
unmade_stops {start = start} {a = a} {d = d} {s = s} {t = t} {u = u} fault unused goes pays stops small =
    let all = pays_then pays stops.pays stops.goes.touches.moves in
    let low = stops.goes.sound.shape.frames_low in
    stops_em 1 fault unused stops.goes.sound
    (cause_after [] s t u fault goes.touches stops.cause) (owes_of_pays 0 1 1 all (omega arith))
    (omega (arith, low))
    (λ z told. full_less t u fault (eval_room s.pool.shape (read_of start a d)) stops.cause
    (let used = stops.used in let room = small z in omega (arith, used, room)))

-- what was taken, by the size of what was read of the first slot
pub takes_first : (start : Option ℕ) {tells : Bool} {a d : Source} {s t : RigState} → ReadsFrom tells a d
    → (IsTrue tells → (given : ℕ) → d.feed.place ≤ given
    → TakesAtMost (text_size start given (left a)) s t)
    → IsTrue tells → TakesAtMost (read_of start a d) s t
takes_first start {a = a} {d = d} {s = s} {t = t} r takes z =
    let given = given_of (d.stand.slot First) (text_of a) in
    subst (λ (x : List ℕ). TakesAtMost (text_size start given x) s t) (left_first r)
    (takes z given (given_least r z))

-- What was read takes fewer blocks than its room, and two.
pub text_few : (start : Option ℕ) {tells : Bool} {a d : Source} {s t : RigState} → IsUnused s → ReadsFrom tells a d
    → (IsTrue tells → (given : ℕ) → d.feed.place ≤ given
    → TakesAtMost (text_size start given (left a)) s t)
    → IsTrue tells → t.used + 2 < eval_room s.pool.shape (read_of start a d)
text_few start {a = a} {d = d} {s = s} unused r takes z =
    let few = (takes_first start r takes z).used in
    let small = text_small s.pool.shape (read_of start a d) unused.sound.shape in
    omega (arith, few, small, unused.used)

-- At no moment it took more.
pub text_most : (start : Option ℕ) {tells : Bool} {a d : Source} {s t : RigState} → IsUnused s → ReadsFrom tells a d
    → (IsTrue tells → (given : ℕ) → d.feed.place ≤ given
    → TakesAtMost (text_size start given (left a)) s t)
    → MostAt start tells a d s t
text_most start {a = a} {d = d} {s = s} unused r takes z told =
    let few = (takes_first start r takes z).most in
    let small = text_small s.pool.shape (read_of start a d) unused.sound.shape in
    omega (arith, few, small, unused.used, unused.none_ever)

-- Nor was more in use where no queue was made beside few blocks,
pub refused_most : (start : Option ℕ) {tells : Bool} {a d : Source} {s t u : RigState} {fault : EmFault} → IsUnused s
    → ReadsFrom tells a d → MostAt start tells a d s t → FailsToMake t u fault
    → (IsTrue tells → t.used + 2 < eval_room s.pool.shape (read_of start a d)) → MostAt start tells a d s u
refused_most start unused r before f small z told =
    let first = before z told in
    let few = small z in
    omega (arith, first, few, f.most)

-- or where one was made beside blocks that leave it its room.
queue_most : (start : Option ℕ) {tells : Bool} {a d : Source} {s t u : RigState} {q : ExtQueue} → IsUnused s
    → ReadsFrom tells a d → Touches [] s t → MostAt start tells a d s t → MakesQueue ext t u q
    → (IsTrue tells → tree_room s.pool.shape 0 + t.used ≤ eval_room s.pool.shape (read_of start a d))
    → MostAt start tells a d s u
queue_most start {a = a} {d = d} {s = s} {t = t} {u = u} unused r touches before makes small z told =
    let room = eval_room s.pool.shape (read_of start a d) in
    both_within t.most u.most room (before z told) (makes_within room makes (touches.told ∙ told)
    (subst (λ (x : ShapeNumbers). tree_room x 0 + t.used ≤ room) (sym touches.shape) (small z)))
  where
    both_within : (m n most : ℕ) → m ≤ most → n ≤ max m most → n ≤ most
    both_within m n most a b = omega (arith, a, b)

-- The text was read, and a queue was made.
pub parts_most : (start : Option ℕ) {tells : Bool} {a d : Source} {s t u : RigState} {p : Parts} {q : ExtQueue}
    → IsUnused s → ReadsFrom tells a d → ReadsEither tells start a d s t (Ok p) → MakesQueue ext t u q
    → MostAt start tells a d s u
parts_most start {a = a} {d = d} {s = s} {t = t} unused r h makes =
    queue_most start unused r h.goes.touches (text_most start {t = t} unused r h.takes) makes (λ z.
    let few = (takes_first start r h.takes z).used in
    let small = text_beside s.pool.shape (read_of start a d) unused.sound.shape in
    omega (arith, few, small, unused.used))

-- the parts weren't read
pub text_stops : {start : Option ℕ} {tells : Bool} {a d : Source} {s t : RigState} (e : AigStop) → IsUnused s
    → ReadsFrom tells a d → ReadsEither tells start a d s t (Err e) → StopsAt start tells a d s t (circuit_stop e)
text_stops {start} {tells} {a} {d} (stop.Fault kind place) unused r h = record {
  cause = λ z told. text_breaks start (text_of a) kind place
      (subst (λ (x : List ℕ). either_text start 0 x ≡ Fails kind place) (left_first r) (h.gives z));
  full = tt;
  room = λ z told. tt;
}
text_stops stop.Read unused r h = record { cause = h.read; full = tt; room = λ z told. tt }
text_stops {start} {tells} {a} {d} {s} {t} (stop.Em fault) unused r h =
    let low = h.goes.sound.shape.frames_low in
    stops_em 4 fault unused h.goes.sound h.cause h.owes (omega (arith, low))
    (λ z told. full_less s t fault (eval_room s.pool.shape (read_of start a d)) h.cause
    (let few = text_few start {t = t} unused r h.takes z in omega (arith, few)))

-- The text spells a circuit, which has the parts' header. If the device tells, they are its parts.
pub record SpellsParts (start : Option ℕ) (told : Bool) (text : List ℕ) (u : RigState) (p : Parts) : Type 0 where
  pub circuit : Circuit
  pub place : ℕ
  pub reads : either_text start 0 text ≡ Reads circuit place []
  pub header : circuit.header ≡ p.header
  pub are : IsTrue told → ArePartsOf u p circuit

-- The parts were read from the whole text, and a queue with these numbers and blocks was made. Its blocks
-- and theirs are all that is in use.
pub record HasParts (start : Option ℕ) (tells : Bool) (a d : Source) (s u : RigState) (p : Parts) (c : QueueCounts)
    (ks : List ℕ) : Type 0 where
  pub sound : Sound u
  pub is : IsParts u p
  pub fill : PartsFill u p
  pub session : Session [] s u (ks ++ parts_blocks u p)
  pub frames : Shares (without_frames c) c s.pool u.pool
  pub used : u.used ≡ c.blocks + parts_size p + p.resets.blocks
  pub pays : Pays 0 c.unstored s u
  pub spells : IsTrue tells → SpellsParts start s.device.told (text_of a) u p
  pub size : IsTrue tells → read_of start a d ≡ circuit_size p.header

module _ {start : Option ℕ} {tells : Bool} {a d : Source} {s t u : RigState} (p : Parts) (unused : IsUnused s)
    (r : ReadsFrom tells a d) (h : ReadsEither tells start a d s t (Ok p)) (touches : Touches [] t u) where
  -- a block has as many records as before
  same_payload : payload_in t ≡ payload_in u
  same_payload = ap (λ (x : ShapeNumbers). payload_of x) (sym touches.shape)

  -- what the first slot's text spells
  spells_first : IsTrue tells → SpellsEither start (text_of a) d t p
  spells_first z = subst (λ (x : List ℕ). SpellsEither start x d t p) (left_first r) (h.gives z)

  -- the size of the text is the circuit's
  read_whole : IsTrue tells → read_of start a d ≡ circuit_size p.header
  read_whole z =
      (spells_first z).size (given_of (d.stand.slot First) (text_of a)) (given_least r z)

  -- the parts are those of the circuit that the text spells
  parts_spelled : IsTrue tells → SpellsParts start s.device.told (text_of a) u p
  parts_spelled z =
      let g = spells_first z in
      let kept = parts_stay [] t u p touches (λ w. apart_none (parts_blocks t p))
      (parts_of h.parts) in
      record {
        circuit = g.circuit;
        place = d.feed.place;
        reads = g.reads;
        header = g.header;
        are = λ told.
            let still : IsTrue t.device.told = h.goes.touches.told ∙ told in
            kept.are still g.circuit (g.are still);
      }

  -- The parts were read, and a queue was made.
  pub has_parts : {Q : Type 0} {queue : QueueGhosts Q} {q : Q} → MakesQueue queue t u q
      → HasParts start tells a d s u p (queue.counts q) (queue.blocks q u)
  has_parts {queue = queue} {q = q} m =
      let g = h.parts in
      let kept = parts_stay [] t u p touches (λ w. apart_none (parts_blocks t p)) (parts_of g) in
      let told = g.blocks.touches.told in
      record {
        sound = m.session.sound;
        is = kept.is;
        fill = record {
          defs = g.defs.blocks_is
              ∙ ap (λ (k : ℕ). ceiling (p.header.inputs + p.header.latches + p.header.gates) k)
              same_payload;
          gates = g.gates.blocks_is ∙ ap (λ (k : ℕ). ceiling p.header.gates k) same_payload;
          uses = g.uses.blocks_is
              ∙ ap (λ (k : ℕ). ceiling (p.header.latches + columns p.header) k) same_payload;
        };
        session = session_made (queue.blocks q u) (parts_blocks t p) (parts_blocks u p) g.blocks
            m.session (λ z. kept.blocks (told ∙ z));
        frames = frames_lent (queue.counts q) s.pool t.pool u.pool h.goes.frames m.frames;
        used = omega (arith, m.used, g.used, unused.used);
        pays = pays_then (pays_of_owes 0 0 0 h.owes (omega arith)) m.pays m.session.touches.moves;
        spells = parts_spelled;
        size = read_whole;
      }

-- A queue that was made was used up: all frames are back, and no block that was in use at first was
-- changed.
pub ends_goes : {s u v : RigState} (c : QueueCounts) (held : List ℕ) → Session [] s u held
    → Shares (without_frames c) c s.pool u.pool → UsesUp held c u v → Goes [] s v
ends_goes {s} {u} {v} c held session lent up = record {
  sound = up.sound;
  touches = touches_within s u v [] held session.touches session.within up.touches;
  frames = frames_back c s.pool u.pool v.pool lent up.frames;
}

-- a call that used a queue up gave up on the rig
pub used_up_stops : {start : Option ℕ} {tells : Bool} {a d : Source} {s u v : RigState} {held : List ℕ} (c : QueueCounts)
    (fault : EmFault) → IsUnused s → Touches [] s u → Pays 0 c.unstored s u
    → UsesUp held c u v → Cause u v fault → Pays c.unstored (u.pool.shape.frames + 2) u v
    → RoomAt start tells a d s (Em fault) → StopsAt start tells a d s v (Em fault)
used_up_stops {s = s} {u = u} {v = v} c fault unused touches first up cause pays room =
    let all = pays_then first pays up.touches.moves in
    let frames : v.pool.shape.frames ≡ u.pool.shape.frames =
    ap (λ (x : ShapeNumbers). x.frames) up.touches.shape in
    stops_em (u.pool.shape.frames + 2) fault unused up.sound (cause_after [] s u v fault touches cause)
    (owes_of_pays 0 (u.pool.shape.frames + 2) (u.pool.shape.frames + 2) all (omega arith))
    (omega (arith, frames)) room

-- The parts and a queue that was never called stand alone, and the parts' lists are short: so making the graph keeps
-- to the circuit's room,
build_both : {Q : Type 0} {q : QueueGhosts Q} {start : Option ℕ} {tells : Bool} {a d : Source}
    {s u v : RigState} {p : Parts} {c : QueueCounts} {ks : List ℕ} (result : Result Graph AigStop)
    → HasParts start tells a d s u p c ks → IsTreeRoom q.room u.pool.shape → c.k ≡ 0
    → BuildsInRoom q c u v p result → IsTrue s.device.told
    → IsInRoom p.header u v × IfEm result (FullInRoom p.header u)
build_both {u = u} {p = p} result h tree none b told = b.alone (record {
  told = h.session.touches.told ∙ told;
  room_is = tree;
  few = omega (arith, none);
  used = omega (arith, h.used);
})
    (record {
      defs = packed_short u p.defs _ h.is.defs.count_is (omega (arith, h.fill.defs));
      gates = packed_short u p.gates _ h.is.gates.count_is (omega (arith, h.fill.gates));
      uses = packed_short u p.uses _ h.is.uses.count_is (omega (arith, h.fill.uses));
    })

pub build_most : {Q : Type 0} {q : QueueGhosts Q} {start : Option ℕ} {tells : Bool} {a d : Source}
    {s u v : RigState} {p : Parts} {c : QueueCounts} {ks : List ℕ} (result : Result Graph AigStop)
    → HasParts start tells a d s u p c ks → IsTreeRoom q.room u.pool.shape → c.k ≡ 0
    → BuildsInRoom q c u v p result → MostAt start tells a d s u → MostAt start tells a d s v
build_most {start = start} {a = a} {d = d} {s = s} {u = u} {v = v} {p = p} result h tree none b before z told =
    let size = h.size z in
    room_after s u v p.header (read_of start a d) h.session.touches.shape (omega (arith, size)) (before z told)
    (build_both result h tree none b told).0

-- and is full only over it.
pub build_room : {Q : Type 0} {q : QueueGhosts Q} {start : Option ℕ} {tells : Bool} {a d : Source}
    {s u v : RigState} {p : Parts} {c : QueueCounts} {ks : List ℕ} (result : Result Graph AigStop)
    → HasParts start tells a d s u p c ks → IsTreeRoom q.room u.pool.shape → c.k ≡ 0
    → BuildsInRoom q c u v p result → IsTrue tells → IsTrue s.device.told
    → IfEm result (λ fault. IfFull fault (λ used. used < eval_room s.pool.shape (read_of start a d)))
build_room {start = start} {a = a} {d = d} {s = s} {u = u} {p = p} result h tree none b z told =
    let alone = build_both result h tree none b told in
    em_by result {P = FullInRoom p.header u}
    {Q = λ (fault : EmFault). IfFull fault (λ used. used < eval_room s.pool.shape (read_of start a d))}
    (λ fault full. room_as fault h.session.touches.shape (sym (h.size z)) full.is) alone.1

-- no graph was made
pub build_stops : {start : Option ℕ} {tells : Bool} {a d : Source} {s u v : RigState} {p : Parts} {held : List ℕ}
    {ks : List ℕ} (c : QueueCounts) (e : AigStop) → IsUnused s → HasParts start tells a d s u p c ks
    → UsesUp held c u v → StopsBuilding u p (Err e)
    → IfEm {A = Graph} (Err e) (Cause u v) → Pays c.unstored (u.pool.shape.frames + 2) u v
    → (IsTrue tells → IsTrue s.device.told → IfEm {A = Graph} (Err e)
    (λ fault. IfFull fault (λ used. used < eval_room s.pool.shape (read_of start a d))))
    → StopsAt start tells a d s v (circuit_stop e)
build_stops {start = start} {a = a} {u = u} {p = p} c (stop.Fault kind place) unused h up stops cause pays room =
    record {
      cause = λ z told.
          let sp = h.spells z in
          text_faulty start (text_of a) sp.circuit sp.place [] kind place sp.reads
          (stops.found (h.session.touches.told ∙ told) sp.circuit (sp.are told));
      full = tt;
      room = λ z told. tt;
    }
build_stops c stop.Read unused h up stops cause pays room = absurd stops
build_stops c (stop.Em fault) unused h up stops cause pays room =
    used_up_stops c fault unused h.session.touches h.pays up cause pays room

-- The text spells a circuit, which has the graph's header. If the device tells, nothing in it is defined
-- twice or used undefined, and the graph is its own.
pub record SpellsGraph (start : Option ℕ) (told : Bool) (text : List ℕ) (w : RigState) (g : Graph) : Type 0 where
  pub circuit : Circuit
  pub place : ℕ
  pub reads : either_text start 0 text ≡ Reads circuit place []
  pub header : circuit.header ≡ g.header
  pub defined : IsTrue told → IsDefined circuit
  pub is : IsTrue told → IsGraphOf w g circuit

-- The graph was made, and then a queue with these numbers and blocks. Their blocks are all that is in use.
pub record HasGraph (start : Option ℕ) (tells : Bool) (a d : Source) (s w : RigState) (g : Graph) (c : QueueCounts)
    (ks : List ℕ) : Type 0 where
  pub sound : Sound w
  pub is : IsGraph w g
  pub fill : GraphFills w g
  pub session : Session [] s w (ks ++ graph_blocks w g)
  pub frames : Shares (without_frames c) c s.pool w.pool
  pub used : w.used ≡ c.blocks + graph_size g + g.resets.blocks
  pub pays : Pays 0 c.unstored s w
  pub spells : IsTrue tells → SpellsGraph start s.device.told (text_of a) w g
  pub defined : IsTrue w.device.told → OfDefinedCircuit w g
  pub size : IsTrue tells → read_of start a d ≡ circuit_size g.header

-- The graph's blocks are fewer than its circuit's room, and two.
pub graph_few : {start : Option ℕ} {tells : Bool} {a d : Source} {s u v : RigState} {p : Parts} {ks : List ℕ}
    (c : QueueCounts) (g : Graph) → HasParts start tells a d s u p c ks
    → BuildsGraph (ks ++ parts_blocks u p) u v p g → StoresSorted c u v p (Ok g) → IsTrue tells
    → v.used + 2 < eval_room s.pool.shape (read_of start a d)
graph_few {start = start} {a = a} {d = d} {s = s} {u = u} {v = v} {p = p} c g h builds stores z =
    let used = stores.0 in
    let small = graph_small u.pool.shape p.header h.sound.shape in
    let here : v.used + 2 < eval_room u.pool.shape (circuit_size p.header) =
    omega (
      arith,
      used,
      h.used,
      builds.gates,
      builds.edges,
      builds.sources,
      h.is.resets.blocks_is,
      small,
    ) in
    subst (λ (n : ℕ). v.used + 2 < eval_room s.pool.shape n) (sym (h.size z))
    (subst (λ (x : ShapeNumbers). v.used + 2 < eval_room x (circuit_size p.header))
    h.session.touches.shape here)

-- With the room of a queue that was never called they are within it.
graph_leaves : {start : Option ℕ} {tells : Bool} {a d : Source} {s u v : RigState} {p : Parts} {ks : List ℕ}
    (c : QueueCounts) (g : Graph) → HasParts start tells a d s u p c ks
    → BuildsGraph (ks ++ parts_blocks u p) u v p g → StoresSorted c u v p (Ok g) → IsTrue tells
    → tree_room s.pool.shape 0 + v.used ≤ eval_room s.pool.shape (read_of start a d)
graph_leaves {start = start} {a = a} {d = d} {s = s} {u = u} {v = v} {p = p} c g h builds stores z =
    let used = stores.0 in
    let small = graph_beside u.pool.shape p.header h.sound.shape in
    let here : tree_room u.pool.shape 0 + v.used ≤ eval_room u.pool.shape (circuit_size p.header) =
    omega (
      arith,
      used,
      h.used,
      builds.gates,
      builds.edges,
      builds.sources,
      h.is.resets.blocks_is,
      small,
    ) in
    subst (λ (n : ℕ). tree_room s.pool.shape 0 + v.used ≤ eval_room s.pool.shape n) (sym (h.size z))
    (subst (λ (x : ShapeNumbers). tree_room x 0 + v.used ≤ eval_room x (circuit_size p.header))
    h.session.touches.shape here)

-- The queue was used up: all frames are back, and no block that was in use at first was changed.
pub graph_goes : {start : Option ℕ} {tells : Bool} {a d : Source} {s u v : RigState} {p : Parts} (c : QueueCounts)
    (ks : List ℕ) → HasParts start tells a d s u p c ks → UsesUp (ks ++ parts_blocks u p) c u v
    → Goes [] s v
graph_goes {u = u} {p = p} c ks h up = ends_goes c (ks ++ parts_blocks u p) h.session h.frames up

-- The graph was made, and another queue.
pub graph_most : {start : Option ℕ} {tells : Bool} {a d : Source} {s u v w : RigState} {p : Parts} {ks : List ℕ}
    {q : ExtQueue} (c : QueueCounts) (g : Graph) → IsUnused s → ReadsFrom tells a d
    → HasParts start tells a d s u p c ks → UsesUp (ks ++ parts_blocks u p) c u v
    → BuildsGraph (ks ++ parts_blocks u p) u v p g → StoresSorted c u v p (Ok g) → MostAt start tells a d s v
    → MakesQueue ext v w q → MostAt start tells a d s w
graph_most {start = start} {ks = ks} c g unused r h up builds stores before makes =
    queue_most start unused r (graph_goes c ks h up).touches before makes (graph_leaves c g h builds stores)

module _ {start : Option ℕ} {tells : Bool} {a d : Source} {s u v w : RigState} {p : Parts} (c : QueueCounts)
    (ks : List ℕ) (g : Graph) (h : HasParts start tells a d s u p c ks)
    (up : UsesUp (ks ++ parts_blocks u p) c u v)
    (builds : BuildsGraph (ks ++ parts_blocks u p) u v p g) (touches : Touches [] v w) where
  -- a block has as many records as before
  graph_payload : payload_in u ≡ payload_in w
  graph_payload =
      ap (λ (x : ShapeNumbers). payload_of x) (sym (touches.shape ∙ up.touches.shape))

  -- its blocks weren't in use at first
  graph_session : Session [] s v (graph_blocks v g)
  graph_session = session_trans h.session builds.blocks

  -- it stays while another queue is made
  graph_kept : GraphStays v w g
  graph_kept = graph_stays [] v w g touches (λ z. apart_none (graph_blocks v g)) builds.is

  -- its lists are packed
  graph_fills : GraphFills w g
  graph_fills = record {
    gates = builds.gates
        ∙ ap (λ (k : Header). ceiling k.gates (payload_in u)) (sym builds.header)
        ∙ ap (λ (n : ℕ). ceiling g.header.gates n) graph_payload;
    edges = builds.edges
        ∙ ap (λ (k : Header). ceiling (edge_count k) (payload_in u)) (sym builds.header)
        ∙ ap (λ (n : ℕ). ceiling (edge_count g.header) n) graph_payload;
    sources = builds.sources
        ∙ ap (λ (k : Header). ceiling (k.inputs + k.latches) (payload_in u)) (sym builds.header)
        ∙ ap (λ (n : ℕ). ceiling (g.header.inputs + g.header.latches) n) graph_payload;
  }

  -- the graph is that of the circuit that the text spells
  graph_spelled : IsTrue tells → SpellsGraph start s.device.told (text_of a) w g
  graph_spelled z =
      let sp = h.spells z in
      record {
        circuit = sp.circuit;
        place = sp.place;
        reads = sp.reads;
        header = sp.header ∙ sym builds.header;
        defined = λ told. (builds.stands (h.session.touches.told ∙ told)).defined sp.circuit
            (sp.are told);
        is = λ told.
            let before : IsTrue u.device.told = h.session.touches.told ∙ told in
            graph_kept.of (up.touches.told ∙ before) sp.circuit
            ((builds.stands before).is sp.circuit (sp.are told));
      }

  -- in that circuit nothing is defined twice or used undefined
  graph_defined : IsTrue w.device.told → OfDefinedCircuit w g
  graph_defined told =
      let then : IsTrue v.device.told = sym touches.told ∙ told in
      let before : IsTrue u.device.told = sym up.touches.told ∙ then in
      let some = h.is.stands before in
      let stands = builds.stands before in
      record {
        circuit = some.circuit;
        is = graph_kept.of then some.circuit (stands.is some.circuit some.are);
        defined = stands.defined some.circuit some.are;
      }

  -- The graph was made, and then another queue.
  pub has_graph : {Q : Type 0} {queue : QueueGhosts Q} {q : Q} → MakesQueue queue v w q
      → StoresSorted c u v p (Ok g)
      → HasGraph start tells a d s w g (queue.counts q) (queue.blocks q w)
  has_graph {queue = queue} {q = q} m stores =
      let used = stores.0 in
      let resets = ap (λ (k : Chain). k.blocks) builds.resets in
      let goes = graph_goes c ks h up in
      let told = graph_session.touches.told in
      record {
        sound = m.session.sound;
        is = graph_kept.is;
        fill = graph_fills;
        session = session_made (queue.blocks q w) (graph_blocks v g) (graph_blocks w g) graph_session
            m.session (λ z. graph_kept.blocks (told ∙ z));
        frames = frames_lent (queue.counts q) s.pool v.pool w.pool goes.frames m.frames;
        used = omega (arith, used, h.used, m.used, resets);
        pays = pays_then (pays_then h.pays stores.1 up.touches.moves) m.pays m.session.touches.moves;
        spells = graph_spelled;
        defined = graph_defined;
        size = λ z. h.size z ∙ ap (λ (k : Header). circuit_size k) (sym builds.header);
      }
