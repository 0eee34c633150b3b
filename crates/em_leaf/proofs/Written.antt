-- Records that result, written to a list of their own beside a pass.
use Rattle.std.proofs.Common.{◌≡◌, ℕ, ◌+◌, ◌-◌, ◌*◌, ◌≤◌, min, max, List, [], ◌∷◌, ◌++◌, length, refl, sym, ap, ◌∙◌, arith, subst, IsTrue, Option, Result, Ok, Err, IsErrAnd}
use Rattle.std.proofs.lemmas.List.{append-nil, length-append}
use Rattle.em_record.specs.declared.record.Record.{Record}
use Rattle.em_space.specs.Held.{Holds}
use Rattle.em_space.specs.Ledger.{Runs, Spends, Stops}
use Rattle.em_space.specs.Rig.{RigState, Sound, Goes}
use Rattle.em_space.specs.declared.fault.EmFault.{EmFault}
use Rattle.em_space.proofs.Lists.{apart_left, apart_right, apart_sym, distinct_apart, distinct_join, distinct_right, in_use_append}
use Rattle.em_space.proofs.Runs.{runs_as, runs_first, runs_none, runs_of, runs_second, runs_then, runs_wider, stops_after, stops_first, stops_second, stops_wider}
use Rattle.em_chain.specs.Chain.{payload_in, chain_blocks}
use Rattle.em_chain.specs.Counts.{ceiling}
use Rattle.em_chain.specs.Reader.{rest_of, reader_items}
use Rattle.em_chain.specs.Session.{one_more, pair_account, pair_blocks, writer_account}
use Rattle.em_chain.specs.Writer.{CanGrow, IsWriter, WriterStays, filled, writer_blocks}
use Rattle.em_chain.specs.Writes.{Appends}
use Rattle.em_chain.specs.declared.reader.Reader.{Reader}
use Rattle.em_chain.specs.declared.writer.Writer.{Writer}
use Rattle.em_chain.proofs.Counts.{ceiling_more, writer_blocks_are}
use Rattle.em_chain.proofs.Keeps.{has_kept}
use Rattle.em_chain.proofs.Laws.{writer_stays}
use Rattle.em_chain.proofs.Pairs.{pair_holds}
use Rattle.em_chain.proofs.Readers.{reader_stays}
use Rattle.em_chain.proofs.Sessions.{more_low, room_read, took_nothing, took_stays, took_then, wrote_none, wrote_one, wrote_stays, wrote_then}
use Rattle.em_chain.proofs.Withins.{within_grows}
use Rattle.em_settle.specs.declared.step.Step.{Step}
use Rattle.em_leaf.specs.Front.{MovesOn, in_hand}
use Rattle.em_leaf.specs.Passing.{Passing, answers_most}
use Rattle.em_leaf.specs.Writing.{CanWriteItems, WritesItemsTo, WritesNext, Writing, first_or, head_of, one_peak, writing_account, writing_blocks, writing_peak}
use Rattle.em_leaf.specs.declared.front.Front.{Front}
use Rattle.em_leaf.proofs.Fronts.{moves_none, moves_then}
use Rattle.em_leaf.proofs.Numbers.{room_with}
use Rattle.em_leaf.proofs.Passes.{blocks_more, has_answers}

-- a list, a reader and a writer hold their blocks
writing_holds : {s : RigState} {r : Reader} {w out : Writer} {f : Front} {n : ℕ}
    → CanWriteItems s r w out f n → IsTrue s.device.told → Holds s (writing_blocks s r w out)
writing_holds {s} {r} {w} {out} c z =
    let a = (c.out_is.told z).holds in
    let b = pair_holds c.can.pair z in
    record {
      in_use = in_use_append s (writer_blocks s out) (pair_blocks s r w) a.in_use b.in_use;
      distinct = λ y. distinct_join (writer_blocks s out) (pair_blocks s r w) (a.distinct y)
          (b.distinct y) (c.apart z);
    }

-- the list over calls on the two
out_stays : {p : ℕ} {s t : RigState} {r : Reader} {w out : Writer} {f : Front} {n : ℕ} (q : Reader)
    (v : Writer) → CanWriteItems s r w out f n
    → Runs p (pair_blocks s r w) (pair_blocks t q v) (pair_account r w) (pair_account q v) s t
    → WriterStays s t out
out_stays {p} {s} {t} {r} {w} {out} q v c h =
    writer_stays (pair_blocks s r w) s t out h.session.touches c.apart
    (has_kept 1 (length out.frame) s.pool t.pool h.frames c.out_is.frame) c.out_is

-- and calls on the two beside it
runs_pass : {p : ℕ} {s t : RigState} {r : Reader} {w out : Writer} {f : Front} {n : ℕ} (q : Reader)
    (v : Writer) → CanWriteItems s r w out f n
    → Runs p (pair_blocks s r w) (pair_blocks t q v) (pair_account r w) (pair_account q v) s t
    → Runs (out.blocks + p) (writing_blocks s r w out) (writing_blocks t q v out)
    (writing_account r w out) (writing_account q v out) s t
runs_pass {p} {s} {t} {r} {w} {out} q v c h =
    let st = out_stays q v c h in
    runs_as (writing_blocks t q v out)
    (runs_second (writer_blocks s out) (writer_account out) (writing_holds c) h)
    (λ z. rw (st.blocks z) refl)

module _ (key : Record → Record) (step : Option Record → Record → Step) (ops : List Record) where
  -- No record yet.
  pub writing_none : {s : RigState} {r : Reader} {w out : Writer} {f : Front} → Sound s
      → CanWriteItems s r w out f (length ops)
      → Writing (out.blocks + (w.blocks + r.blocks)) key step ops s s r r w w out out f f []
  writing_none {s} {r} {w} {out} {f} h c = record {
    xs = [];
    ys = [];
    runs = runs_none s (writing_blocks s r w out) (writing_account r w out) h (writing_holds c);
    took = took_nothing c.can.pair.reader;
    answered = wrote_none c.can.pair.writer;
    wrote = wrote_none c.out_is;
    moves_on = λ z i. moves_none key step ops f (reader_items s r) i;
    count = omega arith;
    few = omega arith;
    within = c.can.within;
  }

  -- Records after others.
  pub writing_then : {m n : ℕ} {s t u : RigState} {r q k : Reader} {w v x out new last : Writer}
      {f g j : Front} (items more : List Record)
      → Writing m key step ops s t r q w v out new f g items
      → Writing n key step ops t u q k v x new last g j more
      → Writing (max m n) key step ops s u r k w x out last f j (items ++ more)
  writing_then {m} {n} {s} {t} {u} {r} {q} {k} {w} {v} {x} {out} {new} {last} {f} {g} {j} items more
      h d =
      let told = h.took.told in
      let l = length-append items more in
      let y = length-append h.ys d.ys in
      record {
        xs = h.xs ++ d.xs;
        ys = h.ys ++ d.ys;
        runs = runs_then h.runs d.runs;
        took = took_then h.xs d.xs h.took d.took;
        answered = wrote_then h.ys d.ys h.answered d.answered;
        wrote = wrote_then items more h.wrote d.wrote;
        moves_on = λ z i.
            let b = h.moves_on z i in
            moves_then key step ops f g j (reader_items s r) (reader_items t q)
            (reader_items u k) items
            more h.ys d.ys b (d.moves_on (told ∙ z) b.front);
        count = let a = h.count in let b = d.count in omega arith;
        few = let a = h.few in let b = d.few in omega arith;
        within = d.within;
      }

  pub writing_wider : {m n : ℕ} {s t : RigState} {r q : Reader} {w v out new : Writer} {f g : Front}
      {items : List Record} → m ≤ n → Writing m key step ops s t r q w v out new f g items
      → Writing n key step ops s t r q w v out new f g items
  writing_wider l h = record {
    xs = h.xs;
    ys = h.ys;
    runs = runs_wider l h.runs;
    took = h.took;
    answered = h.answered;
    wrote = h.wrote;
    moves_on = h.moves_on;
    count = h.count;
    few = h.few;
    within = h.within;
  }

  -- No record is left to write.
  pub writing_end : {s t : RigState} {r q : Reader} {w v out : Writer} {f g : Front} → Sound s
      → CanWriteItems s r w out f (length ops)
      → Passing (answers_most s w (length ops - f.settled) + r.blocks) key step ops s t r q w v f g
      []
      → Writing (one_peak s r w out (length ops - f.settled)) key step ops s t r q w v out out f g
      []
  writing_end {s} {t} {r} {q} {w} {v} {out} {f} {g} so c h =
      let low = more_low s out so.shape.block_low c.out_is in
      record {
        xs = h.xs;
        ys = h.ys;
        runs = runs_wider (omega arith) (runs_pass q v c h.pairs.runs);
        took = h.pairs.took;
        answered = h.pairs.wrote;
        wrote = wrote_stays h.pairs.took.told (out_stays q v c h.pairs.runs);
        moves_on = h.moves_on;
        count = h.count;
        few = h.few;
        within = h.within;
      }

  -- The list can take the record that was found.
  pub out_grows : {p : ℕ} {s t : RigState} {r q : Reader} {w v out : Writer} {f g : Front}
      {x : Record}
      → CanWriteItems s r w out f (length ops)
      → Passing p key step ops s t r q w v f g (x ∷ []) → CanGrow out
  out_grows c h =
      let n = h.count in
      let a = c.room.count in
      let b = c.room.blocks in
      record { count = omega arith; blocks = omega arith }

  -- It is a writer still.
  pub out_is : {p : ℕ} {s t : RigState} {r q : Reader} {w v out : Writer} {f g : Front}
      {items : List Record} → CanWriteItems s r w out f (length ops)
      → Passing p key step ops s t r q w v f g items → IsWriter t out
  out_is {q = q} {v = v} c h = (out_stays q v c h.pairs.runs).is

  pub one_same : {p : ℕ} {s t : RigState} {r q : Reader} {w v out : Writer} {f g : Front}
      {items : List Record} → CanWriteItems s r w out f (length ops)
      → Passing p key step ops s t r q w v f g items → one_more t out ≡ one_more s out
  one_same {p} {s} {t} {r} {q} {w} {v} {out} c h =
      let st = out_stays q v c h.pairs.runs in
      ap (λ (n : ℕ). ceiling (n + 1) (payload_in t)) st.filled_is
      ∙ ap (λ (n : ℕ). ceiling (filled s out + 1) n) h.pairs.took.payload_is

  -- The record was written
  pub writing_one : {s t u : RigState} {r q : Reader} {w v out new : Writer} {f g : Front}
      {x : Record}
      → Sound s → CanWriteItems s r w out f (length ops)
      → Passing (answers_most s w (length ops - f.settled) + r.blocks) key step ops s t r q w v f g
      (x ∷ [])
      → Goes (writer_blocks t out) t u → Appends t u out new x
      → Spends (one_more t out) (writer_account out) (writer_account new) t u
      → Writing (one_peak s r w out (length ops - f.settled)) key step ops s u r q w v out new f g
      (x ∷ [])
  writing_one {s} {t} {u} {r} {q} {w} {v} {out} {new} {f} {g} {x} so c h go a k =
      let low = more_low s out so.shape.block_low c.out_is in
      let first = runs_pass q v c h.pairs.runs in
      let told = h.pairs.took.told in
      let ks = writer_blocks t out in
      let off = λ (z : IsTrue t.device.told). apart_sym ks (pair_blocks t q v)
      (distinct_apart ks (pair_blocks t q v) ((first.session.holds (sym told ∙ z)).distinct z)) in
      let rs = reader_stays ks t u q go.touches
      (λ z. apart_right (writer_blocks t v) (chain_blocks t (rest_of q)) ks (off z))
      (has_kept 1 (length q.frame) t.pool u.pool go.frames h.pairs.took.is.frame) h.pairs.took.is in
      let ws = writer_stays ks t u v go.touches
      (λ z. apart_left (writer_blocks t v) (chain_blocks t (rest_of q)) ks (off z))
      (has_kept 1 (length v.frame) t.pool u.pool go.frames h.pairs.wrote.is.frame) h.pairs.wrote.is
      in
      let js = writer_blocks u new in
      let appended : Runs (one_more t out) ks js (writer_account out) (writer_account new) t u =
      runs_of ks js go (within_grows t ks js a.grown) (λ z. (a.is.told z).holds) k in
      let second = runs_as (writing_blocks u q v new)
      (runs_first (pair_blocks t q v) (pair_account q v)
      (λ z. first.session.holds (sym told ∙ z)) appended)
      (λ z. rw (ws.blocks z, rs.blocks z) refl) in
      let took = took_then h.xs [] h.pairs.took (took_stays ks go.touches rs) in
      let answered = wrote_then h.ys [] h.pairs.wrote (wrote_stays go.touches.told ws) in
      let n = has_answers key step ops h in
      let fewer = h.pairs.took.fewer in
      let same = one_same c h in
      record {
        xs = h.xs ++ [];
        ys = h.ys;
        runs = runs_wider (omega arith) (runs_then first second);
        took = took;
        answered = rw (append-nil h.ys) at answered;
        wrote = wrote_then [] (x ∷ []) (wrote_stays told (out_stays q v c h.pairs.runs))
            (wrote_one go.touches.told a);
        moves_on = λ z i.
            let b = h.moves_on z i in
            let P : List Record → Type 0 = λ zs. MovesOn key step ops f g (reader_items s r) zs
            (x ∷ [])
            h.ys in
            subst P (sym (rs.items (told ∙ z))) b;
        count = h.count;
        few = h.few;
        within = h.within;
      }

  -- The search for a record gave up,
  pub writing_stops : {s t : RigState} {r : Reader} {w out : Writer} {f : Front} {e : EmFault}
      → Sound s → CanWriteItems s r w out f (length ops)
      → Stops (answers_most s w (length ops - f.settled) + r.blocks)
      (2 * answers_most s w (length ops - f.settled)) 1 (pair_blocks s r w) (pair_account r w) s t e
      → Stops (one_peak s r w out (length ops - f.settled))
      (2 * one_peak s r w out (length ops - f.settled)) 2 (writing_blocks s r w out)
      (writing_account r w out) s t e
  writing_stops {s} {t} {r} {w} {out} {f} {e} so c h =
      let low = more_low s out so.shape.block_low c.out_is in
      stops_wider (omega arith) (omega arith) (omega arith)
      (stops_second (writer_blocks s out) (writer_account out) h)

  -- or the record couldn't be written.
  pub append_stops : {s t u : RigState} {r q : Reader} {w v out : Writer} {f g : Front} {x : Record}
      {e : EmFault} → Sound s → CanWriteItems s r w out f (length ops)
      → Passing (answers_most s w (length ops - f.settled) + r.blocks) key step ops s t r q w v f g
      (x ∷ [])
      → Stops (one_more t out) (2 * one_more t out) (min out.blocks 1) (writer_blocks t out)
      (writer_account out) t u e
      → Stops (one_peak s r w out (length ops - f.settled))
      (2 * one_peak s r w out (length ops - f.settled)) 2 (writing_blocks s r w out)
      (writing_account r w out) s u e
  append_stops {s} {t} {u} {r} {q} {w} {v} {out} {f} {g} {x} {e} so c h k =
      let low = more_low s out so.shape.block_low c.out_is in
      let n = has_answers key step ops h in
      let fewer = h.pairs.took.fewer in
      let same = one_same c h in
      stops_wider (omega arith) (omega arith) (omega arith)
      (stops_after (runs_pass q v c h.pairs.runs)
      (stops_first (pair_blocks t q v) (pair_account q v) k))

  -- What a record more may need is within what all may.
  pub peak_fits : {p : ℕ} {s t : RigState} {r q : Reader} {w v out new : Writer} {f g : Front}
      {items : List Record} → Writing p key step ops s t r q w v out new f g items
      → one_peak t q v new (length ops - g.settled) ≤ writing_peak s r w out f (length ops)
  peak_fits {p} {s} {t} {r} {q} {w} {v} {out} {new} {f} {g} {items} h =
      let low = h.runs.session.sound.shape.block_low in
      let pt = h.took.payload_is in
      let a = h.few in
      let b = h.within in
      let n = h.count in
      let l = h.took.left_is in
      let wf = h.answered.filled_is in
      let of = h.wrote.filled_is in
      let m : ceiling (filled t v + (length ops - g.settled)) (payload_in s)
      ≤ answers_most s w (length ops - f.settled) =
      ceiling_more (filled t v + (length ops - g.settled)) (filled s w + (length ops - f.settled))
      (payload_in s) (omega arith) (omega arith) in
      let room = room_read h.xs (length h.xs) (omega arith) h.took (omega arith) in
      let k = room_with (filled s out) (in_hand f) (length ops - f.settled) (length h.xs)
      (length items)
      q.blocks r.blocks (payload_in s) (omega arith) (omega arith) room in
      let e : filled t new + 1 ≡ filled s out + length items + 1 = omega arith in
      let one : one_more t new ≡ ceiling (filled s out + length items + 1) (payload_in s) =
      ap (λ (n : ℕ). ceiling n (payload_in t)) e
      ∙ ap (λ (n : ℕ). ceiling (filled s out + length items + 1) n) pt in
      let two : answers_most t v (length ops - g.settled)
      ≡ ceiling (filled t v + (length ops - g.settled)) (payload_in s) =
      ap (λ (n : ℕ). ceiling (filled t v + (length ops - g.settled)) n) pt in
      omega arith

  -- After some records more can be written.
  pub can_write : {p : ℕ} {s t : RigState} {r q : Reader} {w v out new : Writer} {f g : Front}
      {items : List Record} → CanWriteItems s r w out f (length ops)
      → Writing p key step ops s t r q w v out new f g items
      → CanWriteItems t q v new g (length ops)
  can_write {p} {s} {t} {r} {q} {w} {v} {out} {new} {f} {g} {items} c h =
      let low = h.runs.session.sound.shape.block_low in
      let pt = h.took.payload_is in
      let a = h.few in
      let b = h.within in
      let n = h.count in
      let wc = h.answered.count_is in
      let oc = h.wrote.count_is in
      let wb = blocks_more low pt c.can.pair.writer h.answered in
      let ob = blocks_more low pt c.out_is h.wrote in
      let g1 = c.can.grow.count in
      let g2 = c.can.grow.blocks in
      let o1 = c.room.count in
      let o2 = c.room.blocks in
      let back = λ (z : IsTrue t.device.told). sym h.took.told ∙ z in
      record {
        can = record {
          pair = record {
            reader = h.took.is;
            writer = h.answered.is;
            taking = h.took.taking ∙ c.can.pair.taking;
            apart = λ z. distinct_apart (writer_blocks t v) (chain_blocks t (rest_of q))
                (distinct_right (writer_blocks t new) (pair_blocks t q v)
                ((h.runs.session.holds (back z)).distinct z));
          };
          within = h.within;
          grow = record { count = omega arith; blocks = omega arith };
        };
        out_is = h.wrote.is;
        apart = λ z. distinct_apart (writer_blocks t new) (pair_blocks t q v)
            ((h.runs.session.holds (back z)).distinct z);
        room = record { count = omega arith; blocks = omega arith };
      }

-- the first item of a list with one more
pub head_push : (items : List Record) (x : Record)
    → first_or (head_of items) x ≡ head_of (items ++ x ∷ [])
head_push [] x = refl
head_push (y ∷ items) x = refl

-- what a refusal left
pub next_of : (s t : RigState) (r q : Reader) (w v out new : Writer) (f g : Front)
    (key : Record → Record) (step : Option Record → Record → Step) (ops : List Record)
    (result : Result (Option Record) EmFault) (e : EmFault) → IsErrAnd result (λ n. n ≡ e)
    → WritesNext key step ops s t r q w v out new f g (Err e)
    → WritesNext key step ops s t r q w v out new f g result
next_of s t r q w v out new f g key step ops (Ok x) e h k = absurd h
next_of s t r q w v out new f g key step ops (Err n) e h k =
    subst (λ (m : EmFault). WritesNext key step ops s t r q w v out new f g (Err m)) (sym h) k

pub records_of : (limit : ℕ) (s t : RigState) (r q : Reader) (w v out new : Writer) (f g : Front)
    (key : Record → Record) (step : Option Record → Record → Step) (ops : List Record)
    (result : Result (Option Record) EmFault) (e : EmFault) → IsErrAnd result (λ n. n ≡ e)
    → WritesItemsTo limit key step ops s t r q w v out new f g (Err e)
    → WritesItemsTo limit key step ops s t r q w v out new f g result
records_of limit s t r q w v out new f g key step ops (Ok x) e h k = absurd h
records_of limit s t r q w v out new f g key step ops (Err n) e h k =
    subst (λ (m : EmFault). WritesItemsTo limit key step ops s t r q w v out new f g (Err m))
    (sym h) k

module _ (key : Record → Record) (step : Option Record → Record → Step) (ops : List Record) where
  -- Some records were written before one gave up.
  pub records_stop : {s t u : RigState} {r q : Reader} {w v out new : Writer} {f g : Front}
      {e : EmFault} (items : List Record)
      → Writing (writing_peak s r w out f (length ops)) key step ops s t r q w v out new f g items
      → Stops (one_peak t q v new (length ops - g.settled))
      (2 * one_peak t q v new (length ops - g.settled)) 2 (writing_blocks t q v new)
      (writing_account q v new) t u e
      → Stops (writing_peak s r w out f (length ops)) (2 * writing_peak s r w out f (length ops)) 2
      (writing_blocks s r w out) (writing_account r w out) s u e
  records_stop items h k =
      let p = peak_fits key step ops h in
      stops_wider (omega arith) (omega arith) (omega arith) (stops_after h.runs k)

  -- One more was written.
  pub records_then : {s t u : RigState} {r q k : Reader} {w v x out new last : Writer}
      {f g j : Front}
      (items more : List Record)
      → Writing (writing_peak s r w out f (length ops)) key step ops s t r q w v out new f g items
      → Writing (one_peak t q v new (length ops - g.settled)) key step ops t u q k v x new last g j
      more
      → Writing (writing_peak s r w out f (length ops)) key step ops s u r k w x out last f j
      (items ++ more)
  records_then items more h d =
      let p = peak_fits key step ops h in
      writing_wider key step ops (omega arith) (writing_then key step ops items more h d)

  -- None was yet.
  pub records_none : {s : RigState} {r : Reader} {w out : Writer} {f : Front} → Sound s
      → CanWriteItems s r w out f (length ops)
      → Writing (writing_peak s r w out f (length ops)) key step ops s s r r w w out out f f []
  records_none {s} {r} {w} {out} {f} so c =
      let n = writing_none key step ops so c in
      let p = peak_fits key step ops n in
      let a = writer_blocks_are s w so.shape.block_low c.can.pair.writer in
      let m = ceiling_more (filled s w) (filled s w + (length ops - f.settled)) (payload_in s)
      (let l = so.shape.block_low in omega arith) (omega arith) in
      let low = more_low s out so.shape.block_low c.out_is in
      writing_wider key step ops (omega arith) n
