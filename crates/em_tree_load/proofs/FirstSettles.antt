-- The first operations of a buffer, settled over a leaf's chain.
use Rattle.std.proofs.Common.{◌≡◌, ℕ, ◌+◌, ◌*◌, ◌≤◌, min, List, [], ◌++◌, length, take, refl, sym, ap, ◌∙◌, subst, arith, IsTrue, Option, Result, Ok, Err, IsErrAnd}
use Rattle.std.proofs.lemmas.List.{length-take-le}
use Rattle.em_record.specs.Order.{in_order}
use Rattle.em_record.specs.Shape.{ShapeNumbers}
use Rattle.em_record.specs.declared.record.Record.{Record}
use Rattle.em_frames.specs.Pool.{load_of}
use Rattle.em_space.specs.Held.{Apart}
use Rattle.em_space.specs.Rig.{RigState, Sound}
use Rattle.em_space.specs.declared.fault.EmFault.{EmFault}
use Rattle.em_space.proofs.Lists.{apart_left, apart_right, apart_sym, distinct_apart, distinct_right}
use Rattle.em_space.proofs.Paying.{pays_more}
use Rattle.em_chain.specs.Chain.{ChainStays, chain_blocks, chain_items, payload_in}
use Rattle.em_chain.specs.Counts.{ceiling}
use Rattle.em_chain.specs.Session.{Wrote}
use Rattle.em_chain.specs.Writer.{WriterHasFrame, WriterStays, writer_blocks}
use Rattle.em_chain.specs.declared.chain.Chain.{Chain}
use Rattle.em_chain.specs.declared.writer.Writer.{Writer}
use Rattle.em_chain.proofs.Keeps.{has_kept, payload_kept}
use Rattle.em_chain.proofs.Laws.{chain_stays, writer_stays}
use Rattle.em_chain.proofs.Sessions.{wrote_stays, wrote_then}
use Rattle.em_settle.specs.Keys.{record_at}
use Rattle.em_settle.specs.Lists.{list_with_ops}
use Rattle.em_settle.specs.Rising.{RisesByKey}
use Rattle.em_settle.specs.States.{answers_to}
use Rattle.em_settle.specs.declared.step.Step.{Step}
use Rattle.em_leaf.specs.Effects.{AnswersLoad, IsSplit, RunsLoad, SettlesLeaf, load_moves_most, loaded_blocks, loading_blocks}
use Rattle.em_leaf.specs.Leaf.{AreLeafChains, CanGrowBy, CanLoad, leaf_most, low_count}
use Rattle.em_leaf.specs.declared.change.LeafChange.{LeafChange}
use Rattle.em_tree_load.specs.AreaFills.{FilledArea, StopsAreaFill}
use Rattle.em_tree_load.specs.LeafSettles.{CanSettleOver, SettledFirst, SettlesOver, StopsSettling, load_count, settling_blocks, settling_moves}
use Rattle.em_tree_walk.specs.Paid.{RunsPaid, StopsPaid}
use Rattle.em_tree_walk.proofs.Losses.{loses_runs}
use Rattle.em_tree_load.proofs.Payments.{paid_none, paid_part, paid_same, paid_stops, stops_paid_more}
use Rattle.em_tree_walk.proofs.Regions.{SameTally, tally_append}
use Rattle.em_tree_load.proofs.LeafLosses.{loaded_length, loading_length}

-- two lists, one after the other
pub swap_two : (xs ys : List ℕ) → SameTally (xs ++ ys) (ys ++ xs)
swap_two xs ys j =
    let a = tally_append j xs ys in
    let b = tally_append j ys xs in
    omega (arith, a, b)

pub tally_refl : (xs : List ℕ) → SameTally xs xs
tally_refl xs j = refl

-- Records that result of the same stored ones.
pub settles_again : {s t u : RigState} {c d : Chain} (key : Record → Record)
    (step : Option Record → Record → Step) (ops : List Record) (change : LeafChange)
    → chain_items t d ≡ chain_items s c → SettlesLeaf key step t u d ops change
    → SettlesLeaf key step s u c ops change
settles_again {s} {t} {u} {c} {d} key step ops change e h =
    let all = ap (λ (xs : List Record). list_with_ops key step xs ops) e in
    let P : List Record → Type 0 = λ xs. IsSplit key u xs change.low change.high in
    record {
      items = h.items ∙ all;
      low_len = h.low_len ∙ ap (λ (xs : List Record). low_count (leaf_most u.pool.shape) (length xs)) all;
      split = subst P all h.split;
    }

module _ {key : Record → Record} {s t : RigState} {stored buffer rest : Chain} {w : Writer}
    {area : List Record} {n : ℕ} (can : CanSettleOver key s stored buffer w)
    (f : FilledArea s t buffer area n rest) where
  -- the leaf's chain and the answers are apart from the buffer
  others_apart : IsTrue s.device.told → Apart (loading_blocks s stored w) (chain_blocks s buffer)
  others_apart z =
      let d = (can.told z).holds.distinct z in
      apart_sym (chain_blocks s buffer) (loading_blocks s stored w)
      (distinct_apart (chain_blocks s buffer) (loading_blocks s stored w) d)

  pub after_chain : ChainStays s t stored
  after_chain = chain_stays (chain_blocks s buffer) s t stored f.runs.session.touches
      (λ z. apart_right (writer_blocks s w) (chain_blocks s stored) (chain_blocks s buffer)
      (others_apart z)) can.chain.chain

  pub after_writer : WriterStays s t w
  after_writer = writer_stays (chain_blocks s buffer) s t w f.runs.session.touches
      (λ z. apart_left (writer_blocks s w) (chain_blocks s stored) (chain_blocks s buffer)
      (others_apart z))
      (has_kept 1 (length w.frame) s.pool t.pool f.runs.frames can.writer.frame) can.writer

  -- the same blocks of both
  after_blocks : IsTrue s.device.told → loading_blocks t stored w ≡ loading_blocks s stored w
  after_blocks z =
      ap (λ (ks : List ℕ). ks ++ chain_blocks t stored) (after_writer.blocks z)
      ∙ ap (λ (ks : List ℕ). writer_blocks s w ++ ks) (after_chain.blocks z)

  -- The load can be settled.
  pub filled_can : n ≡ load_count s buffer → CanGrowBy n w → length area ≡ load_of s.pool.shape
      → CanLoad key t stored area n w
  filled_can e grow len =
      let g = f.runs.session.touches in
      let shape = g.shape in
      let L : ShapeNumbers → Type 0 = λ p. length area ≡ load_of p in
      let F : ShapeNumbers → Type 0 = λ p. n ≤ load_of p in
      let M : ShapeNumbers → Type 0 = λ p. stored.count ≤ leaf_most p in
      let R : List Record → Type 0 = RisesByKey key in
      let back : IsTrue t.device.told → IsTrue s.device.told = λ z. sym g.told ∙ z in
      record {
        chain = after_chain.is;
        most = subst M (sym shape) can.chain.most;
        list = λ z. let y = back z in record {
          packed = after_chain.packed y (can.chain.packed y);
          rises = subst R (sym (after_chain.items y)) (can.told y).rises;
        };
        area = subst L (sym shape) len;
        few = subst F (sym shape) (omega (arith, e));
        writer = after_writer.is;
        grow = grow;
        apart = λ z.
            let y = back z in
            let d = (can.told y).holds.distinct y in
            let both_apart = distinct_apart (writer_blocks s w) (chain_blocks s stored)
            (distinct_right (chain_blocks s buffer) (loading_blocks s stored w) d) in
            let A : List ℕ → Type 0 = λ ks. Apart ks (chain_blocks t stored) in
            let B : List ℕ → Type 0 = λ ks. Apart (writer_blocks s w) ks in
            subst A (sym (after_writer.blocks y)) (subst B (sym (after_chain.blocks y)) both_apart);
      }

  -- what was done so far
  filled_runs : Sound s → RunsPaid (settling_blocks s stored buffer w)
      (chain_blocks t rest ++ loading_blocks s stored w) (min w.blocks 1) (0 + min w.blocks 1) s t
  filled_runs sound =
      let whole = settling_blocks s stored buffer w in
      paid_part (chain_blocks s buffer) (chain_blocks t rest) (loading_blocks s stored w)
      (min w.blocks 1) (omega arith)
      (paid_none s whole (min w.blocks 1) sound (λ z. (can.told z).holds)) (λ z. tally_refl whole)
      f.runs

  -- then the leaf's blocks and those of the answers come first
  filled_turn : IsTrue s.device.told → SameTally (chain_blocks t rest ++ loading_blocks s stored w)
      (loading_blocks t stored w ++ chain_blocks t rest)
  filled_turn z =
      let P : List ℕ → Type 0 =
      λ ks. SameTally (chain_blocks t rest ++ loading_blocks s stored w) (ks ++ chain_blocks t rest) in
      subst P (sym (after_blocks z)) (swap_two (chain_blocks t rest) (loading_blocks s stored w))

  -- The moves of settling over the state before.
  moves_before : {m : ℕ} → m ≤ t.moves + load_moves_most t stored n
      → (t.moves ≤ s.moves + 2 * ceiling n (payload_in s) + 2)
      → n ≡ load_count s buffer
      → m ≤ s.moves + 0 + settling_moves s stored (load_count s buffer)
  moves_before {m} a b e =
      let p = payload_kept (chain_blocks s buffer) s t f.runs.session.touches in
      let P : ℕ → Type 0 = λ k. m ≤ s.moves + 0 + settling_moves s stored k in
      let x : m ≤ t.moves + (5 * stored.blocks + 4 * ceiling n (payload_in s) + 12) = rw p at a in
      subst P e (omega (arith, x, b))

  -- The load was settled.
  pub settled_first : {u : RigState} {v : Writer} (step : Option Record → Record → Step)
      (change : LeafChange) → Sound s → n ≡ load_count s buffer → n ≤ length area
      → (IsTrue t.device.told → SettlesLeaf key step t u stored (in_order (take n area)) change)
      → AreLeafChains u change
      → AnswersLoad key step t u stored (in_order (take n area)) w v
      → RunsLoad t u stored n w v (Ok change) → u.moves ≤ t.moves + load_moves_most t stored n
      → SettledFirst key step s u stored buffer w v change rest 0
  settled_first {u} {v} step change sound e len h leaves answers runs moves =
      let there : IsTrue s.device.told → IsTrue t.device.told =
      λ z. f.runs.session.touches.told ∙ z in
      let first = filled_runs sound in
      let inner : RunsPaid (loading_blocks t stored w) (loaded_blocks u change v) (min w.blocks 1)
      (min v.blocks 1) t u = record {
        session = runs.session;
        frames = runs.frames;
        pays = pays_more runs.spends.pays (omega arith);
        loses = loses_runs runs (λ z. loading_length after_chain.is after_writer.is z)
            (λ z. loaded_length leaves answers.wrote.is (runs.session.touches.told ∙ z));
      } in
      let all = paid_part (loading_blocks t stored w) (loaded_blocks u change v) (chain_blocks t rest)
      0 (omega arith) first filled_turn inner in
      let apart : IsTrue t.device.told → Apart (chain_blocks t rest) (loading_blocks t stored w) =
      λ z.
      let y : IsTrue s.device.told = sym f.runs.session.touches.told ∙ z in
      let A : List ℕ → Type 0 = λ ks. Apart (chain_blocks t rest) ks in
      subst A (sym (after_blocks y)) (distinct_apart (chain_blocks t rest) (loading_blocks s stored w)
      ((first.session.holds y).distinct z)) in
      let st = chain_stays (loading_blocks t stored w) t u rest runs.session.touches apart f.chain in
      let turned : IsTrue s.device.told → SameTally (loaded_blocks u change v ++ chain_blocks t rest)
      (chain_blocks u rest ++ loaded_blocks u change v) =
      λ z.
      let P : List ℕ → Type 0 =
      λ ks. SameTally (loaded_blocks u change v ++ ks) (chain_blocks u rest ++ loaded_blocks u change v) in
      subst P (st.blocks (there z)) (swap_two (loaded_blocks u change v) (chain_blocks u rest)) in
      let done = paid_same (chain_blocks u rest ++ loaded_blocks u change v) all turned in
      let wrote_first : Wrote s t w w [] = wrote_stays f.runs.session.touches.told after_writer in
      record {
        load = take n area;
        given = answers.given;
        runs = record {
          session = done.session;
          frames = done.frames;
          pays = pays_more done.pays (omega arith);
          loses = done.loses;
        };
        chain = st.is;
        leaves = leaves;
        wrote = wrote_then [] answers.given wrote_first answers.wrote;
        told = λ z. record {
          items = f.items z ∙ ap (λ (xs : List Record). take n area ++ xs) (sym (st.items (there z)));
          taken = length-take-le n area len ∙ e;
          tight = st.tight (there z) (f.tight z (can.told z).tight);
          settles = settles_again key step (in_order (take n area)) change (after_chain.items z)
              (h (there z));
          given_is = answers.given_is (there z)
              ∙ ap (λ (xs : List Record). answers_to key step (record_at key xs) (in_order (take n area)))
              (after_chain.items z);
        };
        moves = λ z. moves_before moves (f.moves z (can.told z).tight) e;
      }

  -- Settling gave up.
  pub settled_stops : {u : RigState} {fault : EmFault} (v : Writer) → Sound s
      → n ≡ load_count s buffer → RunsLoad t u stored n w v (Err fault)
      → u.moves ≤ t.moves + load_moves_most t stored n
      → StopsSettling s u stored buffer w 0 fault
  settled_stops {u} {fault} v sound e runs moves =
      let inner : StopsPaid (loading_blocks t stored w) (min w.blocks 1) 2 t u fault = record {
        goes = runs.goes;
        pays = pays_more runs.halts.pays (omega arith);
        cause = runs.cause;
      } in
      let all = paid_stops (loading_blocks t stored w) (chain_blocks t rest) 0 (omega arith)
      (filled_runs sound) filled_turn inner in
      record {
        stops = stops_paid_more (settling_blocks s stored buffer w) 2 (omega arith) all
            (λ z. tally_refl (settling_blocks s stored buffer w));
        moves = λ z.
            let x = moves_before moves (f.moves z (can.told z).tight) e in
            omega (arith, x);
      }

-- The buffer couldn't be read.
pub filling_stops : {key : Record → Record} {s t : RigState} {stored buffer : Chain} {w : Writer}
    {fault : EmFault} → CanSettleOver key s stored buffer w → Sound s
    → StopsAreaFill s t buffer fault → StopsSettling s t stored buffer w 0 fault
filling_stops {key} {s} {t} {stored} {buffer} {w} {fault} can sound f =
    let whole = settling_blocks s stored buffer w in
    let all = paid_stops (chain_blocks s buffer) (loading_blocks s stored w) (min w.blocks 1)
    (omega arith) (paid_none s whole (min w.blocks 1) sound (λ z. (can.told z).holds))
    (λ z. tally_refl whole) f.stops in
    let moves = f.moves in
    record {
      stops = stops_paid_more whole 2 (omega arith) all (λ z. tally_refl whole);
      moves = λ z. omega (arith, moves);
    }

-- the writer's frame is still the pool's
pub filling_frame : {key : Record → Record} {s t : RigState} {stored buffer : Chain} {w : Writer}
    {fault : EmFault} → CanSettleOver key s stored buffer w → StopsAreaFill s t buffer fault
    → WriterHasFrame t w
filling_frame {s = s} {t = t} {w = w} can f =
    has_kept 1 (length w.frame) s.pool t.pool f.stops.goes.frames can.writer.frame

pub settles_of : (key : Record → Record) (step : Option Record → Record → Step) (s t : RigState)
    (stored buffer : Chain) (w v : Writer) (more : ℕ)
    (result : Result (LeafChange × Chain) EmFault) (e : EmFault) → IsErrAnd result (λ m. m ≡ e)
    → StopsSettling s t stored buffer w more e → SettlesOver key step s t stored buffer w v more result
settles_of key step s t stored buffer w v more (Ok p) e h x = absurd h
settles_of key step s t stored buffer w v more (Err m) e h x =
    subst (λ (f : EmFault). StopsSettling s t stored buffer w more f) (sym h) x
