-- When making a graph is full, and that it keeps to the circuit's room if nothing else is in use.
use Rattle.std.proofs.Common.{◌≡◌, ◌+◌, ◌*◌, ◌≤◌, max, IfSome, Result, refl, arith}
use Rattle.em_record.specs.Shape.{payload_of}
use Rattle.em_space.specs.Queue.{IsRisingRoom, LacksBlocks}
use Rattle.em_space.specs.Rig.{IfFull, RigState, Sound}
use Rattle.em_space.specs.declared.fault.EmFault.{EmFault}
use Rattle.em_space.specs.declared.queue.Queue.{Ghosts as QueueGhosts}
use Rattle.em_queued.specs.Room.{FullBeside}
use Rattle.em_queued.proofs.Room.{full_queue, full_rises, full_then}
use Rattle.aig_defs.specs.Begun.{circuit_size}
use Rattle.aig_defs.specs.Circuit.{columns}
use Rattle.aig_text.specs.Ascii.{IfEm, IfEmStop}
use Rattle.aig_text.specs.Parts.{IsParts}
use Rattle.aig_text.specs.declared.parts.Parts.{Parts}
use Rattle.aig_text.specs.declared.stop.AigStop.{AigStop}
use Rattle.aig_edges.specs.Build.{parts_size}
use Rattle.aig_edges.specs.BuildGraph.{def_count, sort_peak, sort_run}
use Rattle.aig_edges.specs.Graph.{edge_count, graph_size}
use Rattle.aig_edges.specs.Making.{BuildsBeside, BuildsNone}
use Rattle.aig_edges.specs.Room.{AreShortParts, BuildsInRoom}
use Rattle.aig_edges.specs.declared.graph.Graph.{Graph}
use Rattle.aig_edges.proofs.Ended.{GraphCosts}
use Rattle.aig_edges.proofs.Room.{AreFew, alone_full, alone_in_room, alone_run, em_by, fits_circuit, list_blocks, short_list, stop_by}

-- when it is full
abbrev pub FullBuilding : {Q : Type 0} → QueueGhosts Q → Q → RigState → Parts → EmFault → Type 0
FullBuilding q x s p fault = FullBeside q.room (parts_size p) (sort_peak s p) (q.counts x)
    (max (q.counts x).k ((q.counts x).since + sort_run p.header)) s fault

-- A step of it was refused,
pub left_full : {Q : Type 0} (q : QueueGhosts Q) (x y : Q) {s u : RigState} {p : Parts} (e : AigStop)
    → BuildsNone q x y s u p e → IfSome q.room IsRisingRoom → IfEmStop e (FullBuilding q x s p)
left_full q x y e b rising = stop_by e (λ f z. full_rises rising b.done.called.k z) b.full

-- or the queue's end.
pub end_full : {Q : Type 0} (q : QueueGhosts Q) (x y : Q) {s u : RigState} {p : Parts} {m : Graph}
    (fault : EmFault) → BuildsBeside q x y s u p m → IfSome q.room IsRisingRoom
    → IfFull fault (LacksBlocks q.enough q.room (q.counts y) (q.counts y).k u)
    → FullBuilding q x s p fault
end_full q x y {s} {p = p} {m} fault b rising lacks =
    let least : graph_size m ≤ sort_peak s p = omega (arith, b.edges, b.gates, b.sources) in
    full_rises rising b.in_runs.k (full_then b.runs least (full_queue q.enough (graph_size m) fault lacks))

-- The chains are few, if those of the parts are short.
parts_few : {s : RigState} {p : Parts} → Sound s → IsParts s p → AreShortParts s p
    → AreFew s.pool.shape p.header (p.resets.blocks + sort_peak s p)
parts_few {s} {p} sound is short =
    let h = p.header in
    let shape = s.pool.shape in
    let size = circuit_size h in
    let pay = payload_of shape in
    let d = list_blocks shape (def_count h) size sound.shape (omega arith) in
    let a = list_blocks shape h.gates size sound.shape (omega arith) in
    let u = list_blocks shape (h.latches + columns h) size sound.shape (omega arith) in
    let r = list_blocks shape h.latches size sound.shape (omega arith) in
    let e = list_blocks shape (edge_count h) size sound.shape (omega arith) in
    let o = list_blocks shape (h.inputs + h.latches) size sound.shape (omega arith) in
    let defs = short_list p.defs.count (def_count h) pay p.defs.blocks _ is.defs.count_is short.defs d in
    let gates = short_list p.gates.count h.gates pay p.gates.blocks _ is.gates.count_is short.gates a in
    let uses = short_list p.uses.count (h.latches + columns h) pay p.uses.blocks _ is.uses.count_is
    short.uses u in
    omega (arith, d, a, r, e, o, defs, gates, uses, is.resets.blocks_is)

pub builds_in_room : {Q : Type 0} (q : QueueGhosts Q) (x : Q) {s t : RigState} (p : Parts)
    (result : Result Graph AigStop) → Sound s → IsParts s p → (q.counts x).since ≡ 0
    → GraphCosts q x s t p
    → IfEm result (FullBuilding q x s p) → BuildsInRoom q (q.counts x) s t p result
builds_in_room q x {s} {t} p result sound is since costs full =
    let h = p.header in
    let c = q.counts x in
    record {
      full = full;
      alone = λ a short.
          let others = p.resets.blocks in
          let size = others + parts_size p in
          let peak = sort_peak s p in
          let top = max c.k (c.since + sort_run h) in
          let calls = 2 * circuit_size h in
          let run = alone_run c (sort_run h) (circuit_size h) a.few since (omega arith) in
          let fits = fits_circuit s.pool.shape h top (others + peak) sound.shape run
          (parts_few sound is short) in (
            alone_in_room q.room h t others (parts_size p) size peak top calls a refl fits
                (costs.room a.told),
            em_by result (λ f z. alone_full q.room h others (parts_size p) size peak top calls f a refl
                fits z) full,
          );
    }
