-- A sweep: a table is filled, and its bits at the ends become a list and a row.
use Rattle.std.proofs.Common.{◌≡◌, ℕ, ◌+◌, ◌-◌, ◌*◌, ◌<◌, Bool, List, [], length, sym, ap, subst, ◌∙◌, arith, IsTrue, Result, Ok, Err, IfOk}
use Rattle.em_record.specs.declared.record.Record.{Record}
use Rattle.em_frames.specs.Pool.{SameFrames}
use Rattle.em_space.specs.Ledger.{Runs, Stops}
use Rattle.em_space.specs.Rig.{RigState}
use Rattle.em_space.specs.declared.fault.EmFault.{EmFault}
use Rattle.em_space.proofs.Held.{apart_none}
use Rattle.em_space.proofs.Runs.{runs_then, runs_wider, stops_after, stops_wider}
use Rattle.em_chain.specs.Chain.{ChainStays, chain_blocks, chain_items, payload_in}
use Rattle.em_chain.specs.Counts.{ceiling}
use Rattle.em_chain.specs.declared.chain.Chain.{Chain}
use Rattle.em_chain.proofs.Keeps.{payload_kept}
use Rattle.em_chain.proofs.Laws.{chain_stays}
use Rattle.aig_defs.specs.Circuit.{columns}
use Rattle.aig_defs.specs.Ranks.{ordered_edges, rank_value}
use Rattle.aig_defs.specs.declared.circuit.Header.{Header}
use Rattle.aig_sweep.specs.Bits.{bits_of}
use Rattle.aig_sweep.specs.Evaluates.{bits_account}
use Rattle.aig_sweep.specs.Lists.{latch_room, lists_account}
use Rattle.aig_sweep.specs.Spreads.{base_of}
use Rattle.aig_words.specs.Words.{lane}
use Rattle.aig_table.specs.Keeps.{KeepsListTo}
use Rattle.aig_table.specs.Sweeps.{CanFill, HasEdgesOf, SweepsFor, SweepsTo}
use Rattle.aig_table.specs.Tables.{IsTable, bits_at, ranks_of}
use Rattle.aig_table.proofs.Around.{IsStill, runs_around, stops_around}
use Rattle.aig_table.proofs.Ends.{column_bits, has_edges, next_bits}

-- The bits at the ends are those of each circuit that the edges stand for.
pub swept_for : {h : Header} {G H W table : List Record} (row : List Record)
    → ((value : ℕ → Bool) (all : List Record) → HasEdgesOf value all h G H W
    → IsTable value (base_of h) (ranks_of h - 1) all table)
    → bits_at row 0 (columns h) ≡ bits_at table (1 + h.inputs + h.latches + h.gates + h.latches) (columns h)
    → SweepsFor h G H W (bits_at table (1 + h.inputs + h.latches + h.gates) h.latches)
    (bits_at row 0 (columns h))
swept_for row f e c order s i r =
    let t = f (rank_value c order s i) (ordered_edges c order) (has_edges r) in
    (next_bits r t, e ∙ column_bits r t)

-- They were kept in a list, by the result.
pub sweep_for : {h : Header} {G H W : List Record} {bits outs : List Bool} (s t u : RigState)
    (result : Result Chain EmFault) → t.device.told ≡ s.device.told → KeepsListTo t u bits result
    → (IsTrue s.device.told → SweepsFor h G H W bits outs)
    → IfOk result (λ next. IsTrue s.device.told
    → SweepsFor h G H W (bits_of (lane 0 (chain_items u next))) outs)
sweep_for {h} {G} {H} {W} {outs = outs} s t u (Ok c) e k f = λ z.
    subst (λ (l : List Bool). SweepsFor h G H W l outs) (sym (k.bits_are (e ∙ z))) (f z)
sweep_for s t u (Err x) e k f = tt

-- The table wasn't filled,
pub sweep_unfilled : (h : Header) (given gates words : Chain) {s t : RigState} {e : EmFault}
    → Stops words.blocks 0 0 (chain_blocks s words) (bits_account given gates words) s t e
    → Stops (words.blocks + latch_room h s) (2 * latch_room h s + 1) 1 (chain_blocks s words)
    (bits_account given gates words) s t e
sweep_unfilled h given gates words k = stops_wider (omega arith) (omega arith) (omega arith) k

-- or it was, and the result tells whether the list was made.
pub sweep_kept : (h : Header) (given gates words : Chain) {s t : RigState} (u : RigState)
    (bits : List Bool) (result : Result Chain EmFault) → length bits ≡ h.latches
    → Runs words.blocks (chain_blocks s words) [] (bits_account given gates words) (lists_account 0 0) s t
    → KeepsListTo t u bits result → SweepsTo h given gates words s u result
sweep_kept h given gates words {s} {t} u bits (Ok c) e r k =
    let room : ceiling (length bits) (payload_in t) ≡ latch_room h s =
    ap (λ (n : ℕ). ceiling n (payload_in t)) e
    ∙ ap (λ (p : ℕ). ceiling h.latches p) (payload_kept (chain_blocks s words) s t r.session.touches) in
    record {
      runs = runs_wider (omega arith) (runs_then r k.runs);
      is = k.is;
      packed = λ z. k.packed (r.session.touches.told ∙ z);
      count_is = k.count_is ∙ e;
      blocks_is = k.blocks_is ∙ room;
    }
sweep_kept h given gates words {s} {t} u bits (Err x) e r k =
    let room : ceiling (length bits) (payload_in t) ≡ latch_room h s =
    ap (λ (n : ℕ). ceiling n (payload_in t)) e
    ∙ ap (λ (p : ℕ). ceiling h.latches p) (payload_kept (chain_blocks s words) s t r.session.touches) in
    stops_wider (omega (arith, room)) (omega (arith, room)) (omega arith) (stops_after r k)

-- All frames are back after a sweep.
pub sweep_frames : (h : Header) (given gates words : Chain) (s t : RigState) (result : Result Chain EmFault)
    → SweepsTo h given gates words s t result → SameFrames s.pool t.pool
sweep_frames h given gates words s t (Ok next) w = w.runs.frames
sweep_frames h given gates words s t (Err e) w = w.goes.frames

-- Frames were lent before the sweep, and came back after it.
module _ {h : Header} {given gates words : Chain} {bits : ℕ} {s a : RigState}
    (can : CanFill h given gates words bits s) (l : IsStill s a) where
  given_still : ChainStays s a given
  given_still = chain_stays [] s a given l.touches (λ z. apart_none (chain_blocks s given)) can.given_is

  gates_still : ChainStays s a gates
  gates_still = chain_stays [] s a gates l.touches (λ z. apart_none (chain_blocks s gates)) can.gates_is

  words_still : ChainStays s a words
  words_still = chain_stays [] s a words l.touches (λ z. apart_none (chain_blocks s words)) can.words_is

  pub can_still : 1 < a.pool.free → CanFill h given gates words bits a
  can_still free = record {
    sound = l.sound;
    header = can.header;
    given_is = given_still.is;
    gates_is = gates_still.is;
    words_is = words_still.is;
    long = can.long;
    apart = λ z.
        let y : IsTrue s.device.told = sym l.touches.told ∙ z in
        rw (given_still.blocks y, gates_still.blocks y, words_still.blocks y) (can.apart y);
    fits = can.fits;
    free = free;
  }

  pub sweep_still : (b t : RigState) (result : Result Chain EmFault) → SweepsTo h given gates words a b result
      → IsStill b t → SameFrames s.pool t.pool → SweepsTo h given gates words s t result
  sweep_still b t (Ok next) w g f =
      let k = chain_stays [] b t next g.touches (λ z. apart_none (chain_blocks b next)) w.is in
      let on : IsTrue s.device.told → IsTrue b.device.told =
      λ z. w.runs.session.touches.told ∙ l.touches.told ∙ z in
      record {
        runs = runs_around (chain_blocks s words) (chain_blocks t next) (λ z. (can.words_is.told z).holds) l
            words_still.blocks w.runs g k.blocks f;
        is = k.is;
        packed = λ z. k.packed (on z) (w.packed (l.touches.told ∙ z));
        count_is = w.count_is;
        blocks_is = w.blocks_is ∙ ap (λ (p : ℕ). ceiling h.latches p) (payload_kept [] s a l.touches);
      }
  sweep_still b t (Err e) w g f =
      let room : latch_room h a ≡ latch_room h s =
      ap (λ (p : ℕ). ceiling h.latches p) (payload_kept [] s a l.touches) in
      stops_wider (omega (arith, room)) (omega (arith, room)) (omega arith)
      (stops_around (chain_blocks s words) l words_still.blocks w g f)

  pub sweep_for_still : (b t : RigState) {outs now : List Bool} (result : Result Chain EmFault)
      → SweepsTo h given gates words a b result → IsStill b t → now ≡ outs
      → IfOk result (λ next. IsTrue a.device.told → SweepsFor h (chain_items a given) (chain_items a gates)
      (lane 0 (chain_items a words)) (bits_of (lane 0 (chain_items b next))) outs)
      → IfOk result (λ next. IsTrue s.device.told → SweepsFor h (chain_items s given) (chain_items s gates)
      (lane 0 (chain_items s words)) (bits_of (lane 0 (chain_items t next))) now)
  sweep_for_still b t {outs} {now} (Ok next) w g e f = λ z.
      let k = chain_stays [] b t next g.touches (λ y. apart_none (chain_blocks b next)) w.is in
      let on : IsTrue b.device.told = w.runs.session.touches.told ∙ l.touches.told ∙ z in
      rw (e, sym (given_still.items z), sym (gates_still.items z), sym (words_still.items z), k.items on)
      (f (l.touches.told ∙ z))
  sweep_for_still b t (Err x) w g e f = tt
