-- A step by a table, between the lending of the columns' frame and its return.
use Rattle.std.proofs.Common.{◌≡◌, ℕ, [], ◌++◌, refl, sym, ap, ◌∙◌, arith, IsTrue, Result, Ok, Err, IfOk, OnOk}
use Rattle.em_record.specs.Shape.{fan_of}
use Rattle.em_frames.specs.Pool.{load_of}
use Rattle.em_space.specs.Held.{Holds}
use Rattle.em_space.specs.Queue.{Shares}
use Rattle.em_space.specs.Rig.{RigState}
use Rattle.em_space.specs.declared.fault.EmFault.{EmFault}
use Rattle.em_space.specs.declared.queue.Queue.{Ghosts as QueueGhosts}
use Rattle.em_space.proofs.Held.{apart_none}
use Rattle.em_space.proofs.Sessions.{session_as, session_still}
use Rattle.em_chain.specs.Chain.{ChainStays, chain_blocks, chain_items}
use Rattle.em_chain.specs.Effects.{GivesFrame, LendsFrame, Unmoved}
use Rattle.em_chain.specs.declared.chain.Chain.{Chain}
use Rattle.em_chain.proofs.Keeps.{payload_kept}
use Rattle.em_chain.proofs.Laws.{chain_stays}
use Rattle.em_chain.specs.Counts.{ceiling}
use Rattle.em_queued.proofs.Queued.{shares_frames, stops_wider}
use Rattle.aig_defs.specs.declared.circuit.Header.{Header}
use Rattle.aig_sweep.specs.Bits.{bits_of}
use Rattle.aig_sweep.specs.Evaluates.{CanEvaluate, EvaluatesTo}
use Rattle.aig_sweep.specs.Lists.{latch_room}
use Rattle.aig_sweep.specs.QueueState.{queue_state}
use Rattle.aig_sweep.proofs.Bits.{holds_front}
use Rattle.aig_sweep.proofs.Lent.{beside_lent, stops_lent}
use Rattle.aig_words.specs.Words.{lane}
use Rattle.aig_table.specs.Steps.{CanTabulate}
use Rattle.aig_table.specs.Sweeps.{SweepsFor}

module _ {Q : Type 0} (q : QueueGhosts Q) (x : Q) {h : Header} {given gates bits : Chain} {s m : RigState}
    (can : CanTabulate h given gates bits (queue_state q x s)) (l : LendsFrame s m) (u : Unmoved s m)
    (items : IsTrue s.device.told → q.items x m ≡ q.items x s)
    (blocks : IsTrue s.device.told → q.blocks x m ≡ q.blocks x s) where
  given_lent : ChainStays s m given
  given_lent = chain_stays [] s m given l.touches (λ z. apart_none (chain_blocks s given)) can.chains.given_is

  gates_lent : ChainStays s m gates
  gates_lent = chain_stays [] s m gates l.touches (λ z. apart_none (chain_blocks s gates)) can.chains.gates_is

  bits_lent : ChainStays s m bits
  bits_lent = chain_stays [] s m bits l.touches (λ z. apart_none (chain_blocks s bits)) can.chains.bits_is

  front : IsTrue s.device.told → Holds s (q.blocks x s ++ chain_blocks s bits)
  front z = holds_front (q.blocks x s) (chain_blocks s bits) (chain_blocks s given ++ chain_blocks s gates)
      (can.chains.holds z)

  room : latch_room h m ≡ latch_room h s
  room = ap (λ (p : ℕ). ceiling h.latches p) (payload_kept [] s m l.touches)

  framed_holds : IsTrue m.device.told → Holds m (q.blocks x m ++ (chain_blocks m bits
      ++ (chain_blocks m given ++ chain_blocks m gates)))
  framed_holds z =
      let y : IsTrue s.device.told = sym l.touches.told ∙ z in
      (session_as (q.blocks x m ++ (chain_blocks m bits ++ (chain_blocks m given ++ chain_blocks m gates)))
      (session_still (q.blocks x s ++ (chain_blocks s bits ++ (chain_blocks s given ++ chain_blocks s gates)))
      l.sound l.touches can.chains.holds)
      (λ k. rw (blocks k, bits_lent.blocks k, given_lent.blocks k, gates_lent.blocks k) refl)).holds y

  -- The step may begin,
  pub framed_can : CanEvaluate s.pool → CanTabulate h given gates bits (queue_state q x m)
  framed_can f =
      let free = l.frames.free in
      let fan = ap fan_of l.frames.shape in
      let single = f.singles in
      let k = can.chains in
      let load = ap load_of l.frames.shape in
      let area = can.area in
      record {
        sound = l.sound;
        free = record {
          singles = omega (arith, free, fan, single);
          areas = let a = l.frames.free_areas in let b = f.areas in omega (arith, a, b);
          rack = l.frames.rack ∙ f.rack;
        };
        header = can.header;
        few = can.few;
        empty = can.empty;
        chains = record {
          given_is = given_lent.is;
          gates_is = gates_lent.is;
          bits_is = bits_lent.is;
          edges = k.edges;
          long = k.long;
          holds = λ z. framed_holds z;
        };
        area = omega (arith, area, load);
      }

  module _ (K : Type 0) (y : Q) {n t : RigState} (g : GivesFrame [] n t) (v : Unmoved n t) where
    -- and what it did is what the whole did.
    pub framed : (result : Result Chain EmFault)
        → OnOk result (K × (IsTrue n.device.told → q.items y t ≡ q.items y n)
        × (IsTrue n.device.told → q.blocks y t ≡ q.blocks y n))
        → EvaluatesTo h given gates bits (queue_state q x m) (queue_state q y n) result
        → EvaluatesTo h given gates bits (queue_state q x s) (queue_state q y t) result
    framed (Ok next) a w =
        let k = chain_stays [] n t next g.touches (λ z. apart_none (chain_blocks n next)) w.is in
        let told : IsTrue s.device.told → IsTrue n.device.told =
        λ z. w.runs.runs.session.touches.told ∙ l.touches.told ∙ z in
        record {
          runs = beside_lent (q.blocks x s ++ chain_blocks s bits) (q.blocks y t ++ chain_blocks t next) front l u
              (λ z. rw (blocks z, bits_lent.blocks z) refl) w.runs g v
              (λ z. rw (a.2 z, k.blocks z) refl);
          is = k.is;
          packed = λ z. k.packed (told z) (w.packed (l.touches.told ∙ z));
          count_is = w.count_is;
          blocks_is = w.blocks_is ∙ room;
          left = w.left;
        }
    framed (Err e) a w =
        stops_wider (omega arith) (omega (arith, room)) (omega (arith, room)) (omega arith)
        (stops_lent (q.blocks x s ++ chain_blocks s bits) l u (λ z. rw (blocks z, bits_lent.blocks z) refl) w g v)

    pub framed_for : (r : Result Chain EmFault)
        → OnOk r (K × (IsTrue n.device.told → q.items y t ≡ q.items y n)
        × (IsTrue n.device.told → q.blocks y t ≡ q.blocks y n))
        → EvaluatesTo h given gates bits (queue_state q x m) (queue_state q y n) r
        → IfOk r (λ next. IsTrue m.device.told → SweepsFor h (chain_items m given) (chain_items m gates)
        (lane 0 (chain_items m bits)) (bits_of (lane 0 (chain_items n next))) (bits_of (lane 0 (q.items y n))))
        → IfOk r (λ next. IsTrue s.device.told → SweepsFor h (chain_items s given) (chain_items s gates)
        (lane 0 (chain_items s bits)) (bits_of (lane 0 (chain_items t next))) (bits_of (lane 0 (q.items y t))))
    framed_for (Ok next) a w f = λ z.
        let k = chain_stays [] n t next g.touches (λ i. apart_none (chain_blocks n next)) w.is in
        let on : IsTrue n.device.told = w.runs.runs.session.touches.told ∙ l.touches.told ∙ z in
        rw (sym (given_lent.items z), sym (gates_lent.items z), sym (bits_lent.items z), k.items on, a.1 on)
        (f (l.touches.told ∙ z))
    framed_for (Err e) a w f = tt

-- The queue and the pool share the frames, whatever came of a step.
pub evaluates_shares : {Q : Type 0} (q : QueueGhosts Q) (x y : Q) (h : Header) (given gates bits : Chain)
    (m n : RigState) (result : Result Chain EmFault)
    → EvaluatesTo h given gates bits (queue_state q x m) (queue_state q y n) result
    → Shares (q.counts x) (q.counts y) m.pool n.pool
evaluates_shares q x y h given gates bits m n (Ok next) w =
    shares_frames w.runs.runs.frames w.runs.calls_on.frames w.runs.calls_on.areas
evaluates_shares q x y h given gates bits m n (Err e) w = w.frames

-- what holds on Ok, from what did before
pub if_ok : {T E : Type 0} (P R : T → Type 0) (result : Result T E) → IfOk result P → ((x : T) → P x → R x)
    → IfOk result R
if_ok P R (Ok x) p f = f x p
if_ok P R (Err e) p f = tt
