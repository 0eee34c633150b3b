-- A reader that takes its chain, and a writer beside it.
use Rattle.std.proofs.Common.{◌≡◌, ℕ, zero, suc, ◌+◌, ◌-◌, ◌*◌, ◌<◌, ◌≤◌, min, max, List, [], ◌∷◌, ◌++◌, length, refl, sym, ap, ◌∙◌, arith, subst, IsTrue, Bool, true, if◌then◌else◌}
use Rattle.std.proofs.Math.Nat.{mul-le-mul_right}
use Rattle.em_record.specs.declared.record.Record.{Record}
use Rattle.em_space.specs.Held.{Holds}
use Rattle.em_space.specs.Ledger.{Spends, Halts, Runs, Stops}
use Rattle.em_space.specs.Rig.{RigState, Sound, Touches, Goes, Cause, BlockCause, IfFull}
use Rattle.em_space.specs.declared.fault.EmFault.{EmFault}
use Rattle.em_space.specs.declared.fault.EmFault.TheVariants.{DeviceFault, Full, Damaged}
use Rattle.em_space.proofs.Paying.{owes_of_pays, pays_more}
use Rattle.em_space.proofs.Lists.{apart_sym, distinct_apart, distinct_join, in_use_append}
use Rattle.em_space.proofs.Runs.{runs_none, runs_of, runs_as, runs_wider, runs_then, stops_after, stops_wider, runs_first, runs_second, stops_first, stops_second}
use Rattle.em_space.proofs.Steps.{block_cause}
use Rattle.em_space.proofs.Within.{goes_wider, within_none}
use Rattle.em_chain.specs.Chain.{payload_in, chain_blocks}
use Rattle.em_chain.specs.Counts.{ceiling}
use Rattle.em_chain.specs.Effects.{OnFull}
use Rattle.em_chain.specs.Parts.{IsPair, BeginsPart, GaveUp, pair_more}
use Rattle.em_chain.specs.Reader.{rest_of, reader_blocks}
use Rattle.em_chain.specs.Reads.{Peeks, Reads}
use Rattle.em_chain.specs.Session.{Took, Wrote, Pairs, writer_account, taking_account, one_more, pair_blocks, pair_account}
use Rattle.em_chain.specs.Writer.{CanGrow, writer_blocks, filled}
use Rattle.em_chain.specs.Writes.{Appends}
use Rattle.em_chain.specs.declared.reader.Reader.{Reader}
use Rattle.em_chain.specs.declared.writer.Writer.{Writer}
use Rattle.em_chain.proofs.Keeps.{has_kept}
use Rattle.em_chain.proofs.Laws.{writer_stays}
use Rattle.em_chain.proofs.Readers.{reader_stays}
use Rattle.em_chain.proofs.Sessions.{took_nothing, took_stays, took_none, took_one, took_then, wrote_none, wrote_stays, wrote_one, wrote_then, room_read, owed_most}
use Rattle.em_chain.proofs.Withins.{within_grows, within_ends}

pub pair_holds : {s : RigState} {r : Reader} {w : Writer} → IsPair s r w → IsTrue s.device.told
    → Holds s (pair_blocks s r w)
pair_holds {s} {r} {w} i z =
    let a = (i.writer.told z).holds in
    let b = (i.reader.chain.told z).holds in
    record {
      in_use = in_use_append s (writer_blocks s w) (chain_blocks s (rest_of r)) a.in_use b.in_use;
      distinct = λ y. distinct_join (writer_blocks s w) (chain_blocks s (rest_of r)) (a.distinct y)
          (b.distinct y) (i.apart z);
    }

-- the blocks of a reader that takes its chain
taking_goes : {s t : RigState} (r : Reader) → r.taking ≡ true → Goes (reader_blocks s r) s t
    → Goes (chain_blocks s (rest_of r)) s t
taking_goes {s} {t} r e g = subst (λ (b : Bool).
    Goes (if b then chain_blocks s (rest_of r) else []) s t) e g

goes_none : {s t : RigState} (ks : List ℕ) → Goes [] s t → Goes ks s t
goes_none {s} {t} ks g = goes_wider ks [] s t (within_none s ks [] (λ z. refl)) g

reader_runs : {s t : RigState} {r q : Reader} (xs : List Record)
    → Goes (chain_blocks s (rest_of r)) s t → Took s t r q xs
    → Spends r.blocks (taking_account r) (taking_account q) s t
    → Runs r.blocks (chain_blocks s (rest_of r)) (chain_blocks t (rest_of q)) (taking_account r)
    (taking_account q) s t
reader_runs {s} {t} {r} {q} xs g o k =
    let ks = chain_blocks s (rest_of r) in
    let js = chain_blocks t (rest_of q) in
    runs_of ks js g (within_ends s ks js o.blocks) (λ z. (o.is.chain.told z).holds) k

-- Calls on the reader alone,
pub pairs_reads : {p : ℕ} {s t : RigState} {r q : Reader} {w : Writer} (xs : List Record)
    → IsPair s r w
    → Runs p (chain_blocks s (rest_of r)) (chain_blocks t (rest_of q)) (taking_account r)
    (taking_account q) s t → Took s t r q xs → Pairs (w.blocks + p) s t r q w w xs []
pairs_reads {p} {s} {t} {r} {q} {w} xs i h k =
    let st = writer_stays (chain_blocks s (rest_of r)) s t w h.session.touches i.apart
    (has_kept 1 (length w.frame) s.pool t.pool h.frames i.writer.frame) i.writer in
    record {
      runs = runs_as (pair_blocks t q w)
          (runs_second (writer_blocks s w) (writer_account w) (pair_holds i) h)
          (λ z. rw (st.blocks z) refl);
      took = k;
      wrote = wrote_stays h.session.touches.told st;
    }

-- and on the writer alone.
pub pairs_writes : {p : ℕ} {s t : RigState} {r : Reader} {w v : Writer} (ys : List Record)
    → IsPair s r w
    → Runs p (writer_blocks s w) (writer_blocks t v) (writer_account w) (writer_account v) s t
    → Wrote s t w v ys → Pairs (p + r.blocks) s t r r w v [] ys
pairs_writes {p} {s} {t} {r} {w} {v} ys i h k =
    let ks = chain_blocks s (rest_of r) in
    let st = reader_stays (writer_blocks s w) s t r h.session.touches
    (λ z. apart_sym (writer_blocks s w) ks (i.apart z))
    (has_kept 1 (length r.frame) s.pool t.pool h.frames i.reader.frame) i.reader in
    record {
      runs = runs_as (pair_blocks t r v)
          (runs_first (chain_blocks s (rest_of r)) (taking_account r) (pair_holds i) h)
          (λ z. rw (st.blocks z) refl);
      took = took_stays (writer_blocks s w) h.session.touches st;
      wrote = k;
    }

pub pairs_then : {m n : ℕ} {s t u : RigState} {r q p : Reader} {w v k : Writer}
    (xs ys xs2 ys2 : List Record) → Pairs m s t r q w v xs ys → Pairs n t u q p v k xs2 ys2
    → Pairs (max m n) s u r p w k (xs ++ xs2) (ys ++ ys2)
pairs_then xs ys xs2 ys2 h g = record {
  runs = runs_then h.runs g.runs;
  took = took_then xs xs2 h.took g.took;
  wrote = wrote_then ys ys2 h.wrote g.wrote;
}

pub pairs_none : {s : RigState} {r : Reader} {w : Writer} → Sound s → IsPair s r w
    → Pairs (w.blocks + r.blocks) s s r r w w [] []
pairs_none {s} {r} {w} h i = record {
  runs = runs_none s (pair_blocks s r w) (pair_account r w) h (pair_holds i);
  took = took_nothing i.reader;
  wrote = wrote_none i.writer;
}

pub pairs_wider : {m n : ℕ} {s t : RigState} {r q : Reader} {w v : Writer} {xs ys : List Record}
    → m ≤ n → Pairs m s t r q w v xs ys → Pairs n s t r q w v xs ys
pairs_wider l h = record { runs = runs_wider l h.runs; took = h.took; wrote = h.wrote }

-- A call on them gave up.
pub pairs_stops : {m n l f : ℕ} {s t u : RigState} {r q : Reader} {w v : Writer}
    {xs ys : List Record} {e : EmFault} (m2 l2 f2 : ℕ) → m ≤ m2 → n ≤ m2 → l ≤ l2 → f ≤ f2
    → Pairs m s t r q w v xs ys → Stops n l f (pair_blocks t q v) (pair_account q v) t u e
    → Stops m2 l2 f2 (pair_blocks s r w) (pair_account r w) s u e
pairs_stops m2 l2 f2 a b c d h g = stops_wider (omega arith) c d (stops_after h.runs g)

-- They are a pair again.
pub pairs_is : {p : ℕ} {s t : RigState} {r q : Reader} {w v : Writer} {xs ys : List Record}
    → r.taking ≡ true → Pairs p s t r q w v xs ys → IsPair t q v
pairs_is {p} {s} {t} {r} {q} {w} {v} e h = record {
  reader = h.took.is;
  writer = h.wrote.is;
  taking = h.took.taking ∙ e;
  apart = λ y. distinct_apart (writer_blocks t v) (chain_blocks t (rest_of q))
      ((h.runs.session.holds (sym h.took.told ∙ y)).distinct y);
}

-- What one call does to the two, by what it says: a record was seen,
pub pairs_peeks : {s t : RigState} {r q : Reader} {w : Writer} {x : Record} → IsPair s r w
    → Goes [] s t → Peeks s t r q x
    → Spends r.blocks (taking_account r) (taking_account q) s t
    → Pairs (w.blocks + r.blocks) s t r q w w [] []
pairs_peeks {s} {t} {r} {q} {w} {x} i g h k =
    let o = took_none [] g.touches h.fetches in
    pairs_reads [] i (reader_runs [] (goes_none (chain_blocks s (rest_of r)) g) o k) o

-- one was written,
pub pairs_appends : {s t : RigState} {r : Reader} {w v : Writer} {x : Record} → IsPair s r w
    → Goes (writer_blocks s w) s t → Appends s t w v x
    → Spends (one_more s w) (writer_account w) (writer_account v) s t
    → Pairs (one_more s w + r.blocks) s t r r w v [] (x ∷ [])
pairs_appends {s} {t} {r} {w} {v} {x} i g a k = pairs_writes (x ∷ []) i
    (runs_of (writer_blocks s w) (writer_blocks t v) g
    (within_grows s (writer_blocks s w) (writer_blocks t v) a.grown) (λ z. (a.is.told z).holds) k)
    (wrote_one g.touches.told a)

-- and one was read.
pub pairs_next : {s t : RigState} {r q : Reader} {w : Writer} {x : Record} → IsPair s r w
    → Goes (reader_blocks s r) s t → Reads s t r q x
    → Spends r.blocks (taking_account r) (taking_account q) s t
    → Pairs (w.blocks + r.blocks) s t r q w w (x ∷ []) []
pairs_next {s} {t} {r} {q} {w} {x} i g h k =
    let d = taking_goes r i.taking g in
    let o = took_one (chain_blocks s (rest_of r)) d.touches h in
    pairs_reads (x ∷ []) i (reader_runs (x ∷ []) d o k) o

-- A call on one of them gave up.
pub pairs_stop_peek : {s t : RigState} (r : Reader) (w : Writer) {e : EmFault} → Goes [] s t
    → Halts r.blocks 0 0 (taking_account r) s t e → BlockCause s t e
    → Stops (w.blocks + r.blocks) (2 * w.blocks + 0) (min w.blocks 1 + 0) (pair_blocks s r w)
    (pair_account r w) s t e
pairs_stop_peek {s} {t} r w {e} g k c = stops_second (writer_blocks s w) (writer_account w)
    (record {
      goes = goes_none (chain_blocks s (rest_of r)) g;
      halts = k;
      cause = block_cause s t e c;
    })

pub pairs_stop_append : {s t : RigState} (r : Reader) (w : Writer) {e : EmFault}
    → Goes (writer_blocks s w) s t
    → Halts (one_more s w) (2 * one_more s w) (min w.blocks 1) (writer_account w) s t e
    → Cause s t e
    → Stops (one_more s w + r.blocks) (2 * one_more s w + 0) (min w.blocks 1 + 0)
    (pair_blocks s r w) (pair_account r w) s t e
pairs_stop_append {s} {t} r w {e} g k c =
    stops_first (chain_blocks s (rest_of r)) (taking_account r)
    (record { goes = g; halts = k; cause = c })

pub pairs_stop_next : {s t : RigState} (r : Reader) (w : Writer) {e : EmFault} → r.taking ≡ true
    → Goes (reader_blocks s r) s t → Halts r.blocks 0 0 (taking_account r) s t e
    → BlockCause s t e
    → Stops (w.blocks + r.blocks) (2 * w.blocks + 0) (min w.blocks 1 + 0) (pair_blocks s r w)
    (pair_account r w) s t e
pairs_stop_next {s} {t} r w {e} i g k c = stops_second (writer_blocks s w) (writer_account w)
    (record { goes = taking_goes r i g; halts = k; cause = block_cause s t e c })

-- The writer's blocks with one record more, after calls that wrote none.
pub more_same : {p : ℕ} {s t : RigState} {r q : Reader} {w v : Writer} {xs : List Record}
    → Pairs p s t r q w v xs [] → one_more t v ≡ one_more s w
more_same {p} {s} {t} {r} {q} {w} {v} {xs} h =
    let f = h.wrote.filled_is in
    let e : filled t v + 1 ≡ filled s w + 1 = omega arith in
    ap (λ (n : ℕ). ceiling n (payload_in t)) e
    ∙ ap (λ (k : ℕ). ceiling (filled s w + 1) k) h.took.payload_is

-- From a writer with no record: as many records written as read at most take one block more at most;
pub pairs_room : {p : ℕ} {s t : RigState} {r q : Reader} {w v : Writer} {xs ys : List Record}
    → 128 ≤ s.pool.shape.block → BeginsPart s r w → Pairs p s t r q w v xs ys
    → length ys ≤ length xs → pair_more t q v ≤ r.blocks + 1
pairs_room {p} {s} {t} {r} {q} {w} {v} {xs} {ys} d b h l =
    let n = h.wrote.filled_is in
    let f = b.filled_is in
    let m = room_read xs (filled t v) d h.took (omega arith) in
    subst (λ (p : ℕ). ceiling (filled t v + 1) p + q.blocks ≤ r.blocks + 1)
    (sym h.took.payload_is) m

pub blocks_least : (p b f : ℕ) → 0 < p → (0 < b → 1 ≤ f) → b ≤ p * (b - 1) + f
blocks_least p zero f pos o = omega arith
blocks_least p (suc c) f pos o =
    let low = o (omega arith) in
    let m : 1 * c ≤ p * c = mul-le-mul_right c (omega arith) in
    let q : suc c - 1 ≡ c = omega arith in
    rw q (omega arith)

-- while fewer were written than there were, there is room for one more;
pub pairs_grow : {p : ℕ} {s t : RigState} {r q : Reader} {w v : Writer} {xs ys : List Record}
    → BeginsPart s r w → Pairs p s t r q w v xs ys → length ys < r.count → CanGrow v
pairs_grow {p} {s} {t} {r} {q} {w} {v} {xs} {ys} b h some =
    let d = h.runs.session.sound.shape.block_low in
    let k = h.wrote in
    let f = k.filled_is in
    let m = b.pair.reader.chain.count_most in
    let l = k.is.last in
    let x = blocks_least (payload_in t) v.blocks v.fill (omega arith)
    (λ e. l.fill_low (l.some e)) in
    record {
      count = omega (arith, k.count_is, b.count);
      blocks = omega (arith, b.filled_is);
    }

-- The device was full at the start, where one block more at most was wanted.
full_at : {s t : RigState} {held : List ℕ} (m n : ℕ) → n ≤ m + 1 → Sound s → Touches held s t
    → (e : EmFault) → IfFull e (λ _. t.used + m < s.used + n) → Cause s t e
    → OnFull e (s.used ≡ s.blocks)
full_at m n l so g DeviceFault h c = tt
full_at {s} {t} m n l so g (Full k) h c =
    let b = g.blocks in
    let u = c.1 in
    let m1 = so.numbers.used_most in
    let m2 = so.numbers.most_high in
    omega arith
full_at m n l so g (Damaged k) h c = tt

-- and what is left where the next call gave up.
pub pairs_gave_up : {s t u : RigState} {r q : Reader} {w v : Writer} {xs ys : List Record}
    {e : EmFault} → Sound s → BeginsPart s r w → Pairs (r.blocks + 1) s t r q w v xs ys
    → length ys ≤ length xs
    → Stops (pair_more t q v) (2 * one_more t v) 1 (pair_blocks t q v) (pair_account q v) t u e
    → GaveUp s u r e
pairs_gave_up {s} {t} {u} {r} {q} {w} {v} {xs} {ys} {e} so b h l k =
    let m = pairs_room so.shape.block_low b h l in
    let g = pairs_stops (r.blocks + 1) (2 * r.blocks + 2) 1 (omega arith) m (omega arith)
    (omega arith) h k in
    let n = b.blocks in
    let o = owed_most r b.pair.taking in
    record {
      goes = rw b.held at g.goes;
      costs = record {
        used = omega (arith, g.halts.used);
        most = omega (arith, g.halts.most);
        moves = omega (arith, g.halts.moves);
        owes = owes_of_pays 0 1 1 (pays_more g.halts.pays (omega arith)) (omega arith);
      };
      full = full_at (w.blocks + r.blocks) (r.blocks + 1) (omega arith) so g.goes.touches e
          g.halts.full g.cause;
      cause = g.cause;
    }
