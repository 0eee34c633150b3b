-- Bits that are read and written, one after another.
use mir.Val.{bool_byte}
use Rattle.std.proofs.Common.{◌≡◌, ℕ, suc, ◌+◌, ◌-◌, ◌*◌, ◌<◌, ◌≤◌, inl, inr, min, Bool, true, false, List, [], ◌∷◌, ◌++◌, length, map, refl, sym, ap, ◌∙◌, subst, arith, IsTrue, Result, Ok, Err, OnOk}
use Rattle.std.proofs.lemmas.List.{append-nil, length-append, length-map, map-append}
use Rattle.em_record.specs.declared.record.Record.{Record}
use Rattle.em_space.specs.Ledger.{Halts, Spends, Stops}
use Rattle.em_space.specs.Rig.{RigState, Sound, Goes, Cause}
use Rattle.em_space.specs.declared.fault.EmFault.{EmFault}
use Rattle.em_space.proofs.Runs.{runs_none, runs_of, runs_then, runs_wider, stops_after, stops_wider}
use Rattle.em_chain.specs.Chain.{payload_in}
use Rattle.em_chain.specs.Counts.{ceiling}
use Rattle.em_chain.specs.Session.{one_more, writer_account}
use Rattle.em_chain.specs.Writer.{CanGrow, IsWriter, WriterHasFrame, filled, writer_blocks}
use Rattle.em_chain.specs.Writes.{Appends}
use Rattle.em_chain.specs.declared.writer.Writer.{Writer}
use Rattle.em_chain.proofs.Counts.{writer_blocks_are}
use Rattle.em_chain.proofs.Keeps.{payload_kept}
use Rattle.em_chain.proofs.Pairs.{blocks_least}
use Rattle.em_chain.proofs.Sessions.{ceiling_rises, more_low, wrote_none, wrote_one, wrote_then}
use Rattle.em_chain.proofs.Withins.{within_grows}
use Rattle.aig_defs.specs.Items.{Reading, Reads, Item, and_then}
use Rattle.aig_defs.specs.Stimulus.{stimulus_bit, stimulus_end, stimulus_line}
use Rattle.aig_text.specs.Draft.{IsPackedWriter}
use Rattle.aig_text.specs.Reads.{Advances, ReadCause, ReadsItem, StopsAs}
use Rattle.aig_text.specs.Source.{Source, left}
use Rattle.aig_text.specs.declared.stop.AigStop.{AigStop}
use Rattle.aig_text.specs.declared.stop.AigStop.TheVariants as aig
use Rattle.aig_text.proofs.Drafts.{packed_blocks_are}
use Rattle.aig_text.proofs.Steadies.{advances_then, steady_none}
use Rattle.aig_edges.specs.declared.stop.StepStop.{StepStop}
use Rattle.aig_edges.specs.declared.stop.StepStop.TheVariants as stop
use Rattle.aig_forward.specs.BitList.{ListMoment, Added, AddedFront, AddedSome, CanAdd, FaultIs, ReadsToList, StopsAdding, one_bit, read_now}
use Rattle.aig_sweep.specs.Line.{after_bits}
use Rattle.aig_sweep.proofs.Lines.{after_after, after_none}
use Rattle.aig_forward.specs.Line.{MovesAfterByte, bit_blocks, bit_record, step_stop}
use Rattle.aig_forward.proofs.StimulusLines.{line_splits}

-- No bit yet,
pub added_none : {m : ListMoment} → Sound m.rig → IsWriter m.rig m.list → Added m m []
added_none {m} h i = record {
  runs = runs_none m.rig (writer_blocks m.rig m.list) (writer_account m.list) h
      (λ z. (i.told z).holds);
  wrote = wrote_none i;
  grows = omega arith;
}

-- one bit,
added_one : {old new : ListMoment} (bit : Bool) → Sound old.rig → IsWriter old.rig old.list
    → Goes (writer_blocks old.rig old.list) old.rig new.rig
    → Appends old.rig new.rig old.list new.list (bit_record bit)
    → Spends (one_more old.rig old.list) (writer_account old.list) (writer_account new.list) old.rig
    new.rig → Added old new (bit ∷ [])
added_one {old} {new} bit h i g a k =
    let s = old.rig in
    let t = new.rig in
    let w = old.list in
    let v = new.list in
    let m : v.blocks ≡ one_more s w = writer_blocks_are t v g.sound.shape.block_low a.is
    ∙ ap (λ (n : ℕ). ceiling n (payload_in t)) a.filled_is
    ∙ ap (λ (p : ℕ). ceiling (filled s w + 1) p) (payload_kept (writer_blocks s w) s t g.touches) in
    let low = more_low s w h.shape.block_low i in
    record {
      runs = runs_wider (omega (arith, m)) (runs_of (writer_blocks s w) (writer_blocks t v) g
          (within_grows s (writer_blocks s w) (writer_blocks t v) a.grown)
          (λ z. (a.is.told z).holds) k);
      wrote = wrote_one g.touches.told a;
      grows = omega (arith, m, low);
    }

-- and more of them.
pub added_then : {a b c : ListMoment} (xs ys : List Bool) → Added a b xs → Added b c ys
    → Added a c (xs ++ ys)
added_then {a} {b} {c} xs ys h g =
    let m = h.grows in
    let n = g.grows in
    record {
      runs = runs_wider (omega arith) (runs_then h.runs g.runs);
      wrote = rw (map-append bit_record xs ys)
          (wrote_then (map bit_record xs) (map bit_record ys) h.wrote g.wrote);
      grows = omega arith;
    }

-- A packed list to which bits were written is packed,
pub added_is : {old new : ListMoment} {bits : List Bool} → IsPackedWriter old.rig old.list
    → Added old new bits → IsPackedWriter new.rig new.list
added_is {old} {new} {bits} i h = record {
  is = h.wrote.is;
  packed = λ z. let y : IsTrue old.rig.device.told = sym h.wrote.told ∙ z in
      h.wrote.packed y (i.packed y);
  skip_is = h.wrote.skip_is ∙ i.skip_is;
  filled_is = omega (arith, h.wrote.filled_is, h.wrote.count_is, i.filled_is);
}

-- and has as many more.
pub added_count : {old new : ListMoment} {bits : List Bool} → Added old new bits
    → new.list.count ≡ old.list.count + length bits
added_count {old} {new} {bits} h = omega (arith, h.wrote.count_is, length-map bits bit_record)

-- A list of at most 2^43 bits can take one more.
pub can_grow : {n : ℕ} {m : ListMoment} → CanAdd (suc n) m → CanGrow m.list
can_grow {n} {m} c =
    let low = c.sound.shape.block_low in
    let l = c.list.is.last in
    let b = blocks_least (payload_in m.rig) m.list.blocks m.list.fill (omega arith)
    (λ e. l.fill_low (l.some e)) in
    record {
      count = omega (arith, c.room);
      blocks = omega (arith, b, c.list.filled_is, c.room);
    }

-- More can be read, and written.
pub can_add : {tells : Bool} {n k : ℕ} {old now : ListMoment} {bits : List Bool} → CanAdd n old
    → Advances tells old.text now.text → Added old now bits → length bits + k ≤ n → CanAdd k now
can_add {tells} {n} {k} {old} {now} {bits} c a h few = record {
  text = record {
    ready = subst (λ slot. (now.text.stand.slot slot).ready ≡ true) (sym a.steady.slot)
        (a.steady.ready ∙ c.text.ready);
    place = a.place;
  };
  sound = h.runs.session.sound;
  list = added_is c.list h;
  free = rw (h.runs.frames.free) (c.free);
  room = omega (arith, added_count h, c.room);
}

-- The blocks of a list are no more than those that n bits more may take.
blocks_within : (m : ListMoment) (n : ℕ) → Sound m.rig → IsPackedWriter m.rig m.list
    → m.list.blocks ≤ bit_blocks (m.list.count + n) m.rig
blocks_within m n h i =
    let low = h.shape.block_low in
    let b = packed_blocks_are low i in
    let r = ceiling_rises m.list.count (m.list.count + n) (payload_in m.rig) (omega arith)
    (omega arith) in
    omega (arith, b, r)

-- A call that was to write n bits more gave up, after others were written.
added_stops : {a b : ListMoment} (c : ListMoment) {fault : EmFault} (n : ℕ) (xs : List Bool)
    → IsPackedWriter a.rig a.list → Added a b xs
    → Stops (bit_blocks (b.list.count + n) b.rig) (2 * bit_blocks (b.list.count + n) b.rig) 1
    (writer_blocks b.rig b.list) (writer_account b.list) b.rig c.rig fault
    → Stops (bit_blocks (a.list.count + (length xs + n)) a.rig)
    (2 * bit_blocks (a.list.count + (length xs + n)) a.rig) 1
    (writer_blocks a.rig a.list) (writer_account a.list) a.rig c.rig fault
added_stops {a} {b} c {fault} n xs i h k =
    let len : b.list.count + n ≡ a.list.count + (length xs + n) = omega (arith, added_count h) in
    let room : bit_blocks (b.list.count + n) b.rig
    ≡ bit_blocks (a.list.count + (length xs + n)) a.rig =
    ap (λ (j : ℕ). bit_blocks j b.rig) len
    ∙ ap (λ (p : ℕ). ceiling (a.list.count + (length xs + n)) p)
    (payload_kept (writer_blocks a.rig a.list) a.rig b.rig h.runs.session.touches) in
    let low = blocks_within b n h.runs.session.sound (added_is i h) in
    stops_wider (omega (arith, low, room)) (omega (arith, room)) (omega arith) (stops_after h.runs k)

added_some : {a b c : ListMoment} (n : ℕ) (xs : List Bool) → Added a b xs → AddedSome n b c
    → AddedSome (length xs + n) a c
added_some n xs h g = record {
  bits = xs ++ g.bits;
  few = omega (arith, length-append xs g.bits, g.few);
  added = added_then xs g.bits h g.added;
}

stops_then : (a b c : ListMoment) (n : ℕ) (xs : List Bool) (e : StepStop)
    → IsPackedWriter a.rig a.list → a.text.faults ≤ b.text.faults → Added a b xs
    → StopsAdding n b c e → StopsAdding (length xs + n) a c e
stops_then a b c n xs (stop.Fault kind place) i later h g = added_some n xs h g
stops_then a b c n xs stop.Read i later h g = (added_some n xs h g.0, omega (arith, later, g.1))
stops_then a b c n xs stop.Write i later h g = g
stops_then a b c n xs (stop.Em fault) i later h g = added_stops c n xs i h g

-- Fewer were to be written.
stops_fewer : (a c : ListMoment) (m n : ℕ) (e : StepStop) → Sound a.rig → m ≤ n
    → StopsAdding m a c e → StopsAdding n a c e
stops_fewer a c m n (stop.Fault kind place) h l g =
    record { bits = g.bits; few = omega (arith, g.few); added = g.added }
stops_fewer a c m n stop.Read h l g =
    (record { bits = g.0.bits; few = omega (arith, g.0.few); added = g.0.added }, g.1)
stops_fewer a c m n stop.Write h l g = g
stops_fewer a c m n (stop.Em fault) h l g =
    let low = h.shape.block_low in
    let r = ceiling_rises (a.list.count + m) (a.list.count + n) (payload_in a.rig) (omega arith)
    (omega arith) in
    stops_wider (omega (arith, r)) (omega (arith, r)) (omega arith) g

-- an item that fails fails with what would come after it
fault_then : {A B : Type 0} (e : StepStop) (r : Reading A) (next : A → Item B) → FaultIs e r
    → FaultIs e (and_then r next)
fault_then (stop.Fault kind place) r next h = ap (λ k. and_then k next) h
fault_then stop.Read r next h = tt
fault_then stop.Write r next h = tt
fault_then (stop.Em fault) r next h = tt

fault_as : {A : Type 0} (e : StepStop) (r s : Reading A) → s ≡ r → FaultIs e r → FaultIs e s
fault_as e r s same h = subst (FaultIs e) (sym same) h

-- A reader's fault is that of a step.
fault_of : {A : Type 0} (e : AigStop) (r : Reading A) → StopsAs e r → FaultIs (step_stop e) r
fault_of (aig.Fault kind place) r h = h
fault_of aig.Read r h = tt
fault_of (aig.Em fault) r h = tt

-- A reader of the text stopped after these bits were written.
unread : {old mid : ListMoment} (text : Source) (n : ℕ) (bits : List Bool) (e : AigStop)
    → length bits ≤ n → Added old mid bits → old.text.faults ≤ mid.text.faults
    → ReadCause mid.text text e → StopsAdding n old (record mid { text = text }) (step_stop e)
unread text n bits (aig.Fault kind place) few h later c = record {
  bits = bits;
  few = few;
  added = record { runs = h.runs; wrote = h.wrote; grows = h.grows };
}
unread text n bits aig.Read few h later c = (
  record {
    bits = bits;
    few = few;
    added = record { runs = h.runs; wrote = h.wrote; grows = h.grows };
  },
  omega (arith, later, c),
)
unread text n bits (aig.Em fault) few h later c = absurd c

-- Blocks were moved only if a byte was taken, before a moment and after it.
pub idle_then : (s t u : RigState) (p q r : ℕ) → p ≤ q → q ≤ r → MovesAfterByte s t p q
    → MovesAfterByte t u q r → MovesAfterByte s u p r
idle_then s t u p q r l m (inl still) (inl quiet) = inl (omega (arith, still, quiet))
idle_then s t u p q r l m (inl still) (inr further) = inr (omega (arith, l, further))
idle_then s t u p q r l m (inr further) next = inr (omega (arith, m, further))

-- No block was moved.
pub idle_still : (s t : RigState) (p q : ℕ) → t.moves ≡ s.moves → MovesAfterByte s t p q
idle_still s t p q same = inl (omega (arith, same))

module _ {tells : Bool} {old : ListMoment} {text : Source} (can : CanAdd 1 old) where
  -- The bit wasn't read.
  pub bit_unread : (e : AigStop) (k : StepStop) → k ≡ step_stop e
      → ReadsItem {A = Bool} tells stimulus_bit old.text text (Err e)
      → ReadsToList tells 1 one_bit old (record old { text = text }) (Err k)
  bit_unread e k is h =
      subst (λ (j : StepStop). ReadsToList tells 1 one_bit old (record old { text = text }) (Err j))
      (sym is) (record {
        advances = h.advances;
        frame = can.list.is.frame;
        by = record {
          stops = unread text 1 [] e (omega arith) (added_none can.sound can.list.is) (omega arith)
              h.cause;
          idle = idle_still old.rig old.rig old.text.feed.place text.feed.place refl;
          reads = λ z. fault_then (step_stop e) _ _ (fault_of e _ (h.gives z));
        };
      })

  module _ {rig : RigState} {list : Writer} (bit : Bool)
      (read : ReadsItem {A = Bool} tells stimulus_bit old.text text (Ok bit))
      (frame : WriterHasFrame rig list) (goes : Goes (writer_blocks old.rig old.list) old.rig rig)
    where
      -- It was read, and its record wasn't written.
      pub bit_refused : (fault : EmFault) → old.text.feed.place < text.feed.place
          → Halts (one_more old.rig old.list) (2 * one_more old.rig old.list) (min old.list.blocks 1)
          (writer_account old.list) old.rig rig fault → Cause old.rig rig fault
          → ReadsToList tells 1 one_bit old (record { text = text; rig = rig; list = list })
          (Err (stop.Em fault))
      bit_refused fault further k c =
          let m : one_more old.rig old.list ≡ bit_blocks (old.list.count + 1) old.rig =
          ap (λ (n : ℕ). ceiling (n + 1) (payload_in old.rig)) can.list.filled_is in
          record {
            advances = read.advances;
            frame = frame;
            by = record {
              stops = stops_wider (omega (arith, m)) (omega (arith, m)) (omega arith)
                  (record { goes = goes; halts = k; cause = c });
              idle = inr further;
              reads = λ z. tt;
            };
          }

      -- It was read, and its record was written.
      pub bit_done : (x : Record) → old.text.feed.place < text.feed.place → x ≡ bit_record bit
          → Appends old.rig rig old.list list x
          → Spends (one_more old.rig old.list) (writer_account old.list) (writer_account list)
          old.rig rig
          → ReadsToList tells 1 one_bit old (record { text = text; rig = rig; list = list }) (Ok tt)
      bit_done x further is a k = record {
        advances = read.advances;
        frame = frame;
        by = record {
          bits = bit ∷ [];
          long = refl;
          added = added_one bit can.sound can.list.is goes
              (subst (λ (y : Record). Appends old.rig rig old.list list y) is a) k;
          further = omega (arith, further);
          reads = λ z. ap (λ r. and_then r (λ b. Reads (b ∷ []))) (read.gives z);
        };
      }

-- a bit as a number
pub bit_number : (bit : Bool)
    → ◌≡◌ {A = Record} (record { a = 0; b = 0; c = bool_byte bit; d = 0 }) (bit_record bit)
bit_number true = refl
bit_number false = refl

-- Nothing of a line was read yet.
pub front_none : {tells : Bool} {m : ListMoment} (inputs : ℕ) → CanAdd inputs m
    → AddedFront tells 0 (stimulus_line inputs) (stimulus_line (inputs - 0)) m m
front_none {tells} {m} inputs c =
    let all : inputs - 0 ≡ inputs = omega arith in
    subst (λ (n : ℕ). AddedFront tells 0 (stimulus_line inputs) (stimulus_line n) m m) (sym all)
    (record {
      bits = [];
      long = refl;
      added = added_none c.sound c.list.is;
      advances = record {
        steady = steady_none tells m.text;
        place = c.text.place;
        later = omega arith;
      };
      further = omega arith;
      idle = idle_still m.rig m.rig m.text.feed.place m.text.feed.place refl;
      reads = λ z. after_none (read_now (stimulus_line inputs) m);
    })

module _ {tells : Bool} {old mid : ListMoment} (inputs count : ℕ) (can : CanAdd inputs old)
    (s : AddedFront tells count (stimulus_line inputs) (stimulus_line (inputs - count)) old mid) where
  -- One bit more can be written.
  pub front_can : count < inputs → CanAdd 1 mid
  front_can l = can_add can s.advances s.added (omega (arith, l, s.long))

  -- what is left of the line is a bit, and then the rest
  front_splits : count < inputs → IsTrue tells → read_now (stimulus_line inputs) old
      ≡ and_then (and_then (read_now one_bit mid)
      (λ bits q y. and_then (stimulus_line (inputs - (count + 1)) q y) (after_bits bits)))
      (after_bits s.bits)
  front_splits l z =
      let e : inputs - count ≡ suc (inputs - (count + 1)) = omega (arith, l) in
      s.reads z ∙ ap (λ r. and_then r (after_bits s.bits))
      (ap (λ (n : ℕ). read_now (stimulus_line n) mid) e
      ∙ line_splits (inputs - (count + 1)) mid.text.feed.place (left mid.text))

  -- It was read and written.
  pub front_next : {now : ListMoment} → count < inputs
      → ReadsToList tells 1 one_bit mid now (Ok tt)
      → AddedFront tells (count + 1) (stimulus_line inputs) (stimulus_line (inputs - (count + 1)))
      old now
  front_next {now} l r = record {
    bits = s.bits ++ r.by.bits;
    long = omega (arith, length-append s.bits r.by.bits, s.long, r.by.long);
    added = added_then s.bits r.by.bits s.added r.by.added;
    advances = advances_then s.advances r.advances;
    further = omega (arith, s.further, r.by.further);
    idle = inr (omega (arith, s.further, r.by.further));
    reads = λ z. front_splits l z
        ∙ ap (λ k. and_then (and_then k (λ bits q y.
        and_then (stimulus_line (inputs - (count + 1)) q y) (after_bits bits))) (after_bits s.bits))
        (r.by.reads z)
        ∙ after_after s.bits r.by.bits (read_now (stimulus_line (inputs - (count + 1))) now);
  }

  -- It wasn't.
  pub front_stops : {now : ListMoment} (e : StepStop) → count < inputs
      → ReadsToList tells 1 one_bit mid now (Err e)
      → ReadsToList tells inputs (stimulus_line inputs) old now (Err e)
  front_stops {now} e l r = record {
    advances = advances_then s.advances r.advances;
    frame = r.frame;
    by = record {
      stops = stops_fewer old now (length s.bits + 1) inputs e can.sound (omega (arith, l, s.long))
          (stops_then old mid now 1 s.bits e can.list s.advances.later s.added r.by.stops);
      idle = idle_then old.rig mid.rig now.rig old.text.feed.place mid.text.feed.place
          now.text.feed.place s.advances.steady.forward r.advances.steady.forward s.idle r.by.idle;
      reads = λ z. fault_as e _ _ (front_splits l z)
          (fault_then e _ (after_bits s.bits)
          (fault_then e (read_now one_bit mid) (λ bits q y.
          and_then (stimulus_line (inputs - (count + 1)) q y) (after_bits bits)) (r.by.reads z)));
    };
  }

  -- with no bit left, the rest of a line is its end
  front_end : count ≡ inputs → IsTrue tells → read_now (stimulus_line inputs) old
      ≡ and_then (and_then (read_now stimulus_end mid) (λ _. Reads [])) (after_bits s.bits)
  front_end e z =
      let none : inputs - count ≡ 0 = omega (arith, e) in
      s.reads z ∙ ap (λ r. and_then r (after_bits s.bits))
      (ap (λ (n : ℕ). read_now (stimulus_line n) mid) none)

  -- The line ends here,
  pub front_done : {text : Source} (u : Unit {0}) → count ≡ inputs
      → ReadsItem tells stimulus_end mid.text text (Ok u)
      → ReadsToList tells inputs (stimulus_line inputs) old (record mid { text = text }) (Ok tt)
  front_done {text} u e r = record {
    advances = advances_then s.advances r.advances;
    frame = s.added.wrote.is.frame;
    by = record {
      bits = s.bits;
      long = s.long ∙ e;
      added = record { runs = s.added.runs; wrote = s.added.wrote; grows = s.added.grows };
      further = omega (arith, e, s.further, r.advances.steady.forward);
      reads = λ z. front_end e z
          ∙ ap (λ k. and_then (and_then k (λ _. Reads [])) (after_bits s.bits)) (r.gives z)
          ∙ ap (λ (l : List Bool). Reads l text.feed.place (left text)) (append-nil s.bits);
    };
  }

  -- or it doesn't.
  pub front_unended : {text : Source} (e : AigStop) (k : StepStop) → k ≡ step_stop e
      → count ≡ inputs → ReadsItem {A = Unit {0}} tells stimulus_end mid.text text (Err e)
      → ReadsToList tells inputs (stimulus_line inputs) old (record mid { text = text }) (Err k)
  front_unended {text} e k is all r =
      subst (λ (j : StepStop). ReadsToList tells inputs (stimulus_line inputs) old
      (record mid { text = text }) (Err j)) (sym is) (record {
        advances = advances_then s.advances r.advances;
        frame = s.added.wrote.is.frame;
        by = record {
          stops = unread text inputs s.bits e (omega (arith, s.long, all)) s.added s.advances.later
              r.cause;
          idle = idle_then old.rig mid.rig mid.rig old.text.feed.place mid.text.feed.place
              text.feed.place s.advances.steady.forward r.advances.steady.forward s.idle
              (idle_still mid.rig mid.rig mid.text.feed.place text.feed.place refl);
          reads = λ z. fault_as (step_stop e) _ _ (front_end all z)
              (fault_then (step_stop e) _ (after_bits s.bits)
              (fault_then (step_stop e) _ (λ _. Reads []) (fault_of e _ (r.gives z))));
        };
      })

-- Bits that were read took a byte or more.
pub bits_further : {tells : Bool} {n : ℕ} {item : Item (List Bool)} {old new : ListMoment}
    (result : Result (Unit {0}) StepStop) → 0 < n → ReadsToList tells n item old new result
    → OnOk result (old.text.feed.place < new.text.feed.place)
bits_further (Ok u) l r = omega (arith, l, r.by.further)
bits_further (Err e) l r = tt
