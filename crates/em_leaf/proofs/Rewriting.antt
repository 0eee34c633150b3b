-- A leaf's records that are written anew, with no operation: what results, and what it costs.
use Rattle.std.proofs.Common.{◌≡◌, ℕ, ◌+◌, ◌*◌, ◌≤◌, [], length, sym, ap, ◌∙◌, arith, true, Option, Result, Ok, Err}
use Rattle.em_record.specs.declared.record.Record.{Record}
use Rattle.em_frames.specs.Pool.{load_of}
use Rattle.em_space.specs.Ledger.{Runs, Stops, both}
use Rattle.em_space.specs.Rig.{RigState, Sound}
use Rattle.em_space.specs.declared.fault.EmFault.{EmFault}
use Rattle.em_space.specs.declared.fault.EmFault.TheVariants.{Damaged}
use Rattle.em_space.proofs.Paying.{pays_kept}
use Rattle.em_space.proofs.Sessions.{session_none}
use Rattle.em_space.proofs.Steps.{same_frames}
use Rattle.em_chain.specs.Chain.{IsChain, payload_in}
use Rattle.em_chain.specs.Counts.{ceiling}
use Rattle.em_chain.specs.Effects.{GivesFrame, LendsFrame, Unmoved}
use Rattle.em_chain.specs.Reads.{Opens}
use Rattle.em_chain.specs.Session.{pair_account, pair_blocks, writer_account}
use Rattle.em_chain.specs.Writer.{IsWriter}
use Rattle.em_chain.specs.declared.chain.Chain.{Chain}
use Rattle.em_chain.specs.declared.reader.Reader.{Reader}
use Rattle.em_chain.specs.declared.writer.Writer.{Writer}
use Rattle.em_chain.proofs.Readers.{length_items}
use Rattle.em_chain.proofs.Sessions.{owed_most, room_read}
use Rattle.em_settle.specs.declared.step.Step.{Step}
use Rattle.em_leaf.specs.Counting.{LimitsLow, counted_account, counting_account, low_limit_of}
use Rattle.em_leaf.specs.Effects.{loading_blocks, loading_room}
use Rattle.em_leaf.specs.Fusing.{RewritesBeside, rewriting_account}
use Rattle.em_leaf.specs.Settling.{CanSettle}
use Rattle.em_leaf.specs.Writing.{WritesLeaf, leaf_peak}
use Rattle.em_leaf.specs.declared.change.LeafChange.{LeafChange}
use Rattle.em_leaf.proofs.Loading.{Begun, begun_by, high_fields, limit_room, load_damaged, write_stops}
use Rattle.em_leaf.proofs.Numbers.{ceiling_few}
use Rattle.em_leaf.proofs.Settling.{blocks_fit, high_blocks_are, runs_load}

-- nothing was read for a count
pub no_count : {s : RigState} (c : Chain) → Sound s → Runs 0 [] [] (counting_account c) counted_account s s
no_count {s} c so = record {
  session = session_none s [] so (λ z. record { in_use = tt; distinct = λ d. tt });
  frames = same_frames s.pool;
  spends = record {
    held = omega arith;
    used = omega arith;
    most = omega arith;
    moves = omega arith;
    later = omega arith;
    pays = pays_kept 0 (omega arith) (omega arith);
  };
}

-- all records fit into a limit and a leaf
pub whole_limits : {key : Record → Record} {s : RigState} {c : Chain} {w : Writer} (n m limit most : ℕ)
    → CanSettle key s c 0 w → most ≡ 4 * load_of s.pool.shape → n ≡ c.count → m ≡ c.count
    → limit ≡ low_limit_of most m → n + 0 ≤ limit + most
whole_limits {key} {s} {c} n m limit most can e f g h =
    let cm = can.most in
    let room = limit_room c.count c.count 0 most (load_of s.pool.shape) e (omega arith) (omega arith) in
    let k : limit ≡ low_limit_of most c.count = h ∙ ap (low_limit_of most) g in
    omega (arith, room, k, f)

pub begun_whole : {key : Record → Record} {s a : RigState} {c : Chain} {r : Reader} {w : Writer}
    → Sound s → CanSettle key s c 0 w → LendsFrame s a → Unmoved s a → Opens s a c true r
    → Begun s a c r w 0
begun_whole {key} {s} {a} {c} so can le u o = begun_by so can (no_count c so) le u o

-- the limit is that of the chain's records
pub limits_whole : (key : Record → Record) (step : Option Record → Record → Step) {s : RigState} {c : Chain} {w : Writer}
    (limit most : ℕ) → Sound s → CanSettle key s c 0 w → limit ≡ low_limit_of most c.count
    → LimitsLow most key step [] s s c limit
limits_whole key step {s} {c} {w} limit most so can e = record {
  total = c.count;
  runs = no_count c so;
  few = omega arith;
  limit_is = e;
  exact = λ z r. e ∙ ap (low_limit_of most) (sym (length_items s c can.chain z));
}

-- the chain's words broke what a chain with no record must have
pub rewrite_damaged : {s : RigState} {c : Chain} (w : Writer) → Sound s → IsChain s c
    → ((c.count ≡ 0 → c.blocks ≡ 0) → ⊥)
    → Stops (w.blocks + c.blocks + loading_room s 0) (2 * (w.blocks + ceiling 0 (payload_in s))) 2
    (loading_blocks s c w) (both (writer_account w) (rewriting_account c)) s s (Damaged 0)
rewrite_damaged {s} {c} w so i broken =
    let h = load_damaged w 0 so i broken in
    record {
      goes = h.goes;
      halts = record {
        used = h.halts.used;
        full = h.halts.full;
        most = h.halts.most;
        moves = omega arith;
        later = h.halts.later;
        pays = h.halts.pays;
      };
      cause = h.cause;
    }

-- the writing gave up
pub rewrite_stops : {s a b t : RigState} {c : Chain} {r : Reader} {w : Writer} {e : EmFault}
    → Sound s → Unmoved s a → Begun s a c r w 0
    → Stops (leaf_peak a r w 0) (2 * leaf_peak a r w 0 + 2) 2 (pair_blocks a r w) (pair_account r w) a b e
    → GivesFrame [] b t → Unmoved b t
    → Stops (w.blocks + c.blocks + loading_room s 0) (2 * (w.blocks + ceiling 0 (payload_in s))) 2
    (loading_blocks s c w) (both (writer_account w) (rewriting_account c)) s t e
rewrite_stops {s} {a} {b} {t} {c} {r} {w} {e} so u d h x y =
    let low = so.shape.block_low in
    let z = ceiling_few 0 (payload_in s) (omega arith) in
    let o = write_stops d h x y in
    let k = h.halts in
    let om = owed_most r d.can.pair.taking in
    let m1 = u.moves in
    let m5 = d.taken_most in
    let m6 = d.peak in
    let y3 = y.moves in
    record {
      goes = o.goes;
      halts = record {
        used = o.halts.used;
        full = o.halts.full;
        most = o.halts.most;
        moves = omega (arith, k.moves, z, m6);
        later = o.halts.later;
        pays = o.halts.pays;
      };
      cause = o.cause;
    }

module _ (key : Record → Record) (step : Option Record → Record → Step) where
  pub rewrite_runs : {s a b t : RigState} {c : Chain} {r : Reader} {w : Writer} (q : Reader) (v : Writer)
      (limit most : ℕ) (result : Result LeafChange EmFault) → Sound s → (c.count ≡ 0 → c.blocks ≡ 0)
      → Unmoved s a → Begun s a c r w 0 → WritesLeaf limit most key step [] a b r q w v result
      → GivesFrame [] b t → Unmoved b t → IsWriter s w → RewritesBeside s t c w v result
  rewrite_runs q v limit most (Err e) so whole u d h x y is = rewrite_stops so u d h x y
  rewrite_runs {s} {a} {b} {t} {c} {r} {w} q v limit most (Ok change) so whole u d h x y is =
      let o = runs_load key step [] limit most whole d h x y is in
      let low = h.runs.session.sound.shape.block_low in
      let few = so.shape.block_low in
      let z = ceiling_few 0 (payload_in s) (omega arith) in
      let cc = ap (λ (k : Chain). k.count) d.words in
      let cb = ap (λ (k : Chain). k.blocks) d.words in
      let none : q.blocks ≡ 0 = h.took.none_left (λ e. cb ∙ whole (sym cc ∙ e)) h.all_read in
      let k = h.runs.spends in
      let hf = high_fields change.high in
      let hb = high_blocks_are key step [] b change.high h.highs low h.high in
      let lb = h.low.blocks_are in
      let left = h.took.left_is in
      let n0 = h.all_read in
      let count = h.count in
      let pa = d.payload_is in
      let room = room_read h.xs (length h.xs) (omega arith) h.took (omega arith) in
      let fit = blocks_fit (length h.lows) (length h.highs) 0 (length h.xs) q.blocks r.blocks (payload_in a)
      (omega arith) (omega arith) room in
      let f1 = ap (λ (p : ℕ). ceiling (length h.lows) p) h.took.payload_is in
      let f2 = ap (λ (p : ℕ). ceiling (length h.highs) p) h.took.payload_is in
      let f3 = ap (λ (p : ℕ). ceiling 0 p) pa in
      let m1 = u.moves in
      let om = owed_most r d.can.pair.taking in
      let y3 = y.moves in
      let m5 = d.taken_most in
      record {
        session = o.session;
        frames = o.frames;
        spends = record {
          held = o.spends.held;
          used = o.spends.used;
          most = o.spends.most;
          moves = omega (arith, k.moves, hf.2, hf.3, hb, lb, fit, f1, f2, f3, om, z);
          later = o.spends.later;
          pays = o.spends.pays;
        };
      }
