-- A line of the stimulus, from before its list was begun until the list's frame is back.
use Rattle.std.proofs.Common.{◌≡◌, ℕ, ◌+◌, ◌*◌, ◌<◌, ◌≤◌, min, Bool, List, [], ◌∷◌, ◌++◌, length, map, sym, ap, ◌∙◌, subst, arith, IsTrue, Option, Some, Result, Ok, Err, IfErr, inr, slice_get}
use Rattle.std.proofs.lemmas.List.{length-map}
use Rattle.em_io.specs.Feed.{Takes}
use Rattle.em_record.specs.declared.record.Record.{Record}
use Rattle.em_frames.specs.Pool.{LentFrames}
use Rattle.em_space.specs.Ledger.{Account, Halts, Session, Spends}
use Rattle.em_space.specs.Rig.{RigState, Sound, Goes, DeviceCause}
use Rattle.em_space.specs.declared.fault.EmFault.{EmFault}
use Rattle.em_space.proofs.Ledgers.{halts_after, halts_wider, spends_still, spends_then, spends_wider}
use Rattle.em_space.proofs.Paying.{owes_of_pays}
use Rattle.em_space.proofs.Sessions.{session_still, session_trans}
use Rattle.em_space.proofs.Steps.{cause_after, device_cause, touches_then}
use Rattle.em_space.proofs.Within.{touches_within, within_kept, within_same}
use Rattle.em_chain.specs.Chain.{chain_blocks, payload_in}
use Rattle.em_chain.specs.Counts.{ceiling}
use Rattle.em_chain.specs.Effects.{LendsFrame, GivesFrame, Unmoved}
use Rattle.em_chain.specs.Session.{FinishSpends, chain_account, writer_account}
use Rattle.em_chain.specs.Writer.{filled, writer_blocks}
use Rattle.em_chain.specs.Writes.{Begins, Finishes}
use Rattle.em_chain.specs.declared.chain.Chain.{Chain}
use Rattle.em_chain.specs.declared.writer.Writer.{Writer}
use Rattle.em_chain.proofs.Counts.{writer_blocks_are}
use Rattle.em_chain.proofs.Keeps.{lent_given, lent_same, payload_kept}
use Rattle.em_chain.proofs.Sessions.{ceiling_rises}
use Rattle.em_chain.proofs.Writings.{cause_still, halts_between}
use Rattle.em_queued.specs.Queued.{no_account}
use Rattle.aig_defs.specs.Stimulus.{stimulus_line}
use Rattle.aig_text.specs.Reads.{Advances}
use Rattle.aig_text.specs.Source.{CanRead, Source, left}
use Rattle.aig_text.proofs.Steadies.{advances_then, steady_takes}
use Rattle.aig_edges.specs.declared.stop.StepStop.{StepStop}
use Rattle.aig_edges.specs.declared.stop.StepStop.TheVariants as stop
use Rattle.aig_sweep.specs.Bits.{bits_of}
use Rattle.aig_words.specs.Words.{lane}
use Rattle.aig_forward.specs.BitList.{Added, FailsAdding, ReadsToList}
use Rattle.aig_forward.specs.Line.{AnswersLine, LineCause, LineCosts, MovesAfterByte, TakesBits, bit_blocks, bit_record, line_here}
use Rattle.aig_forward.proofs.BitLists.{idle_still, idle_then}
use Rattle.aig_forward.proofs.StimulusLines.{bits_of_records}

-- What a line that was asked for did, by its answer.
pub record LineDone (tells : Bool) (inputs : ℕ) (old new : Source) (s t : RigState)
    (result : Result (Option Chain) StepStop) : Type 0 where
  pub goes : Goes [] s t
  pub feed : Advances tells old new
  pub line : AnswersLine tells inputs old new t result
  pub costs : LineCosts inputs s t result
  pub takes : TakesBits inputs s t
  pub idle : MovesAfterByte s t old.feed.place new.feed.place
  pub cause : IfErr result (LineCause old new s t)

-- A byte is left, and none was taken.
pub record LooksOn (tells : Bool) (before old : Source) : Type 0 where
  pub advances : Advances tells before old
  pub place : old.feed.place ≡ before.feed.place
  pub same : IsTrue tells → left old ≡ left before
  pub some : IsTrue tells → 0 < length (left before)

some_left : (xs : List ℕ) (byte : ℕ) → Some byte ≡ slice_get xs 0 → 0 < length xs
some_left [] byte e = absurd (cc)
some_left (x ∷ xs) byte e = omega arith

pub looks_on : {tells : Bool} {before old : Source} {next : Option ℕ} (byte : ℕ)
    → next ≡ Some byte → CanRead before
    → Takes tells [] before.feed before.stand old.feed old.stand → before.faults ≤ old.faults
    → (IsTrue tells → next ≡ slice_get (left before) 0) → LooksOn tells before old
looks_on {tells} {before} {old} byte is c t later first = record {
  advances = record {
    steady = steady_takes t;
    place = omega (arith, t.place, c.place);
    later = later;
  };
  place = omega (arith, t.place);
  same = λ z. sym (t.left z);
  some = λ z. some_left (left before) byte (sym is ∙ first z);
}

-- no block was taken
takes_none : {s : RigState} (n : ℕ) → TakesBits n s s
takes_none n = record {
  used = omega arith;
  most = omega arith;
  moves = omega arith;
  owes = record { is = inr (omega arith) };
}

-- what calls that gave up took,
takes_halts : {n : ℕ} {s t : RigState} {e : EmFault}
    → Halts (bit_blocks n s) (2 * bit_blocks n s + 1) 1 no_account s t e → TakesBits n s t
takes_halts {n} {s} {t} {e} h = record {
  used = omega (arith, h.used);
  most = omega (arith, h.most);
  moves = omega (arith, h.moves);
  owes = owes_of_pays 0 1 1 h.pays (omega arith);
}

-- and others.
takes_spends : {n p : ℕ} {b : Account} {s t : RigState} → p ≤ bit_blocks n s
    → Spends p no_account b s t → b.paid ≤ 2 * bit_blocks n s + 1 → b.unstored ≤ 1
    → TakesBits n s t
takes_spends {n} {p} {b} {s} {t} l h paid last = record {
  used = omega (arith, h.used, h.held, l);
  most = omega (arith, h.most, l);
  moves = omega (arith, h.moves, paid);
  owes = owes_of_pays 0 b.unstored 1 h.pays last;
}

-- a list with no block has the account of none
begins_account : {s : RigState} {w : Writer} → Begins s w → writer_account w ≡ no_account
begins_account b = ap (λ (n : ℕ). record {
  blocks = n;
  unstored = min n 1;
  paid = 2 * n;
  owed = 0;
}) b.blocks

-- A list was begun, and n bits were written.
record Grown (s b : RigState) (v : Writer) (n : ℕ) : Type 0 where
  pub session : Session [] s b (writer_blocks b v)
  pub frames : LentFrames 1 s.pool b.pool
  pub spends : Spends v.blocks no_account (writer_account v) s b
  pub room : v.blocks ≡ bit_blocks n s

module _ {old new : Source} {s a b : RigState} {w v : Writer} (lends : LendsFrame s a)
    (unmoved : Unmoved s a) (begins : Begins a w) where
  grown : {bits : List Bool} → Added (record { text = old; rig = a; list = w })
      (record { text = new; rig = b; list = v }) bits → Grown s b v (length bits)
  grown {bits} h =
      let first : Session [] s a [] = session_still [] lends.sound lends.touches
      (λ z. record { in_use = tt; distinct = λ y. tt }) in
      let then : Session [] a b (writer_blocks b v) =
      subst (λ (ks : List ℕ). Session ks a b (writer_blocks b v)) begins.held h.runs.session in
      let whole = session_trans first then in
      let spent : Spends v.blocks no_account (writer_account v) a b =
      subst (λ (x : Account). Spends v.blocks x (writer_account v) a b) (begins_account begins)
      h.runs.spends in
      let still : Spends 0 no_account no_account s a =
      spends_still no_account unmoved.same.used unmoved.same.most unmoved.moves in
      let len : filled b v ≡ length bits =
      omega (arith, h.wrote.filled_is, begins.filled_is, length-map bits bit_record) in
      record {
        session = whole;
        frames = lent_same 1 s.pool a.pool b.pool lends.frames h.runs.frames;
        spends = spends_wider (omega arith) (spends_then still spent);
        room = writer_blocks_are b v whole.sound.shape.block_low h.wrote.is
            ∙ ap (λ (n : ℕ). ceiling n (payload_in b)) len
            ∙ ap (λ (p : ℕ). ceiling (length bits) p) (payload_kept [] s b whole.touches);
      }

-- The frame came back after the list was finished, whatever came of it.
grown_goes : {s b t : RigState} {v : Writer} {n : ℕ} → Grown s b v n
    → GivesFrame (writer_blocks b v) b t → Goes [] s t
grown_goes {s} {b} {t} {v} h g = record {
  sound = g.sound;
  touches = touches_within s b t [] (writer_blocks b v) h.session.touches h.session.within
      g.touches;
  frames = lent_given s.pool b.pool t.pool h.frames g.frames;
}

-- It came back, and the list was left.
grown_left : {s b t : RigState} {v : Writer} {n : ℕ} → Grown s b v n → GivesFrame [] b t
    → Goes [] s t
grown_left {s} {b} {t} {v} h g = record {
  sound = g.sound;
  touches = touches_then [] s b t h.session.touches g.touches;
  frames = lent_given s.pool b.pool t.pool h.frames g.frames;
}

grown_takes : {s b t : RigState} {v : Writer} {n : ℕ} (m : ℕ) → Sound s → n ≤ m → Grown s b v n
    → Unmoved b t → TakesBits m s t
grown_takes {s} {b} {t} {v} {n} m sound few h u =
    let low = sound.shape.block_low in
    let more = ceiling_rises n m (payload_in s) (omega arith) few in
    let room = h.room in
    takes_spends (omega (arith, room, more))
    (spends_then h.spends (spends_still (writer_account v) u.same.used u.same.most u.moves))
    (omega (arith, room, more)) (omega arith)

-- The session of a list that was finished.
finish_session : {b t : RigState} {v : Writer} {c : Chain} → GivesFrame (writer_blocks b v) b t
    → Finishes b t v c → Session (writer_blocks b v) b t (chain_blocks t c)
finish_session {b} {t} {v} {c} g f = record {
  sound = g.sound;
  touches = g.touches;
  within = within_kept b (writer_blocks b v) (writer_blocks b v) (chain_blocks t c)
      (within_same b (writer_blocks b v)) f.blocks;
  holds = λ z. (f.is.told (g.touches.told ∙ z)).holds;
}

-- One move was paid at most.
paid_one : {p : ℕ} {a : Account} {s t : RigState} (n : ℕ) (c : Chain) → n ≤ 1
    → Spends p a (chain_account n c) s t → Spends p a (chain_account 1 c) s t
paid_one {p} {a} {s} {t} n c l h = record {
  held = h.held;
  used = h.used;
  most = h.most;
  moves = omega (arith, h.moves, l);
  later = h.later;
  pays = h.pays;
}

-- the line that begins there, begins here
here : {tells : Bool} (inputs : ℕ) {before old : Source} → LooksOn tells before old → IsTrue tells
    → line_here inputs before ≡ line_here inputs old
here inputs {before} {old} looks z =
    ap (λ (p : ℕ). stimulus_line inputs p (left before)) (sym looks.place)
    ∙ ap (λ (x : List ℕ). stimulus_line inputs old.feed.place x) (sym (looks.same z))

-- Blocks were moved between a list's begin and its end only, and if a byte was taken.
idle_between : (s a b t : RigState) (p q r : ℕ) → Unmoved s a → q ≡ p → q ≤ r
    → MovesAfterByte a b q r → Unmoved b t → MovesAfterByte s t p r
idle_between s a b t p q r first same later idle last =
    idle_then s a t p q r (omega (arith, same)) later (idle_still s a p q first.moves)
    (idle_then a b t q r r later (omega arith) idle (idle_still b t r r last.moves))

module _ {tells : Bool} (inputs : ℕ) {before old new : Source} {s a b t : RigState}
    {w v : Writer} (sound : Sound s) (lends : LendsFrame s a) (unmoved : Unmoved s a)
    (begins : Begins a w) (looks : LooksOn tells before old) where
  -- The bits were read, and the list was finished,
  pub line_done : (u : Unit {0}) (c : Chain) → old.feed.place < new.feed.place
      → ReadsToList tells inputs (stimulus_line inputs) (record { text = old; rig = a; list = w })
      (record { text = new; rig = b; list = v }) (Ok u)
      → GivesFrame (writer_blocks b v) b t → Finishes b t v c → FinishSpends b t v (Ok c)
      → LineDone tells inputs before new s t (Ok (Some c))
  line_done u c further r g f k =
      let h = r.by.added in
      let q = grown lends unmoved begins h in
      let n = length r.by.bits in
      let low = sound.shape.block_low in
      let whole : Session [] s t (chain_blocks t c) = session_trans q.session (finish_session g f) in
      let spent = spends_then q.spends (paid_one (min v.blocks 1) c (omega arith) k) in
      let blocks = f.blocks_is in
      let room : v.blocks ≡ bit_blocks inputs s =
      q.room ∙ ap (λ (j : ℕ). bit_blocks j s) r.by.long in
      let count : c.count ≡ n =
      omega (arith, f.count_is, h.wrote.count_is, begins.count, length-map r.by.bits bit_record) in
      let goes = grown_goes q g in
      let on : IsTrue t.device.told → IsTrue b.device.told = λ z. sym g.touches.told ∙ z in
      let from : IsTrue t.device.told → IsTrue a.device.told = λ z. sym h.wrote.told ∙ on z in
      record {
        goes = goes;
        feed = advances_then looks.advances r.advances;
        line = record {
          bits = r.by.bits;
          chain = record {
            is = f.is;
            bits_are = λ z. ap (λ (xs : List Record). bits_of (lane 0 xs)) (f.items (on z) ∙ h.wrote.items (from z)
                ∙ ap (λ (xs : List Record). xs ++ map bit_record r.by.bits) begins.items)
                ∙ bits_of_records r.by.bits;
            packed = λ z. f.packed (on z) (h.wrote.packed (from z) begins.packed);
            count_is = count;
            blocks_is = blocks ∙ q.room
                ∙ ap (λ (p : ℕ). ceiling n p) (sym (payload_kept [] s t goes.touches));
          };
          long = r.by.long;
          further = omega (arith, further, looks.place);
          some = looks.some;
          reads = λ z. here inputs looks z ∙ r.by.reads z;
        };
        costs = record {
          session = whole;
          frames = goes.frames;
          spends = record {
            held = omega arith;
            used = spent.used;
            most = omega (arith, spent.most, blocks);
            moves = spent.moves;
            later = spent.later;
            pays = spent.pays;
          };
        };
        takes = takes_spends (omega (arith, room)) spent (omega (arith, room, blocks)) (omega arith);
        idle = inr (omega (arith, further, looks.place));
        cause = tt;
      }

  -- which gave up,
  pub line_refused : (u : Unit {0}) (fault : EmFault) → old.feed.place < new.feed.place
      → ReadsToList tells inputs (stimulus_line inputs) (record { text = old; rig = a; list = w })
      (record { text = new; rig = b; list = v }) (Ok u)
      → GivesFrame (writer_blocks b v) b t → FinishSpends b t v (Err fault)
      → DeviceCause b t fault
      → LineDone tells inputs before new s t (Err (stop.Em fault))
  line_refused u fault further r g k c =
      let q = grown lends unmoved begins r.by.added in
      let room : v.blocks ≡ bit_blocks inputs s =
      q.room ∙ ap (λ (j : ℕ). bit_blocks j s) r.by.long in
      let halts : Halts (bit_blocks inputs s) (2 * bit_blocks inputs s + 1) 1 no_account s t fault =
      halts_wider (omega (arith, room)) (omega (arith, room)) (omega arith)
      (halts_after q.spends k) in
      let cause = cause_after [] s b t fault q.session.touches (device_cause b t fault c) in
      record {
        goes = grown_goes q g;
        feed = advances_then looks.advances r.advances;
        line = tt;
        costs = record { goes = grown_goes q g; halts = halts; cause = cause };
        takes = takes_halts halts;
        idle = inr (omega (arith, further, looks.place));
        cause = cause;
      }

  -- or they stopped, and it was abandoned.
  line_left : (bits : List Bool) → length bits ≤ inputs
      → Added (record { text = old; rig = a; list = w }) (record { text = new; rig = b; list = v })
      bits → GivesFrame [] b t → Unmoved b t → Goes [] s t × TakesBits inputs s t
  line_left bits few h g u =
      let q = grown lends unmoved begins h in
      (grown_left q g, grown_takes inputs sound few q u)

  line_stopped : (e : StepStop)
      → FailsAdding tells inputs (stimulus_line inputs) (record { text = old; rig = a; list = w })
      (record { text = new; rig = b; list = v }) e → Advances tells old new → GivesFrame [] b t
      → Unmoved b t → LineDone tells inputs before new s t (Err e)
  line_stopped (stop.Fault kind place) f on g u =
      let x = line_left f.stops.bits f.stops.few f.stops.added g u in
      record {
        goes = x.0;
        feed = advances_then looks.advances on;
        line = record { some = looks.some; fails = λ z. here inputs looks z ∙ f.reads z };
        costs = tt;
        takes = x.1;
        idle = idle_between s a b t before.feed.place old.feed.place new.feed.place unmoved
            looks.place on.steady.forward f.idle u;
        cause = tt;
      }
  line_stopped stop.Read f on g u =
      let x = line_left f.stops.0.bits f.stops.0.few f.stops.0.added g u in
      record {
        goes = x.0;
        feed = advances_then looks.advances on;
        line = tt;
        costs = tt;
        takes = x.1;
        idle = idle_between s a b t before.feed.place old.feed.place new.feed.place unmoved
            looks.place on.steady.forward f.idle u;
        cause = omega (arith, looks.advances.later, f.stops.1);
      }
  line_stopped stop.Write f on g u = absurd f.stops
  line_stopped (stop.Em fault) f on g u =
      let k = f.stops in
      let none : writer_account w ≡ no_account = begins_account begins in
      let room : bit_blocks (w.count + inputs) a ≡ bit_blocks inputs s =
      ap (λ (n : ℕ). ceiling n (payload_in a)) (omega (arith, begins.count))
      ∙ ap (λ (p : ℕ). ceiling inputs p) (payload_kept [] s a lends.touches) in
      let between = halts_between unmoved k.halts u in
      let nothing : Halts (bit_blocks (w.count + inputs) a) (2 * bit_blocks (w.count + inputs) a) 1
      no_account s t fault =
      subst (λ (x : Account). Halts (bit_blocks (w.count + inputs) a)
      (2 * bit_blocks (w.count + inputs) a) 1 x s t fault) none between in
      let halts : Halts (bit_blocks inputs s) (2 * bit_blocks inputs s + 1) 1 no_account s t fault =
      halts_wider (omega (arith, room)) (omega (arith, room)) (omega arith) nothing in
      let o : Goes [] a b = subst (λ (ks : List ℕ). Goes ks a b) begins.held k.goes in
      let goes : Goes [] s t = record {
        sound = g.sound;
        touches = touches_then [] s b t (touches_then [] s a b lends.touches o.touches) g.touches;
        frames = lent_given s.pool b.pool t.pool
            (lent_same 1 s.pool a.pool b.pool lends.frames o.frames) g.frames;
      } in
      let cause = cause_still s b t fault u g.touches
      (cause_after [] s a b fault lends.touches k.cause) in
      record {
        goes = goes;
        feed = advances_then looks.advances on;
        line = tt;
        costs = record { goes = goes; halts = halts; cause = cause };
        takes = takes_halts halts;
        idle = idle_between s a b t before.feed.place old.feed.place new.feed.place unmoved
            looks.place on.steady.forward f.idle u;
        cause = cause;
      }

  pub line_abandoned : (e : StepStop)
      → ReadsToList tells inputs (stimulus_line inputs) (record { text = old; rig = a; list = w })
      (record { text = new; rig = b; list = v }) (Err e) → GivesFrame [] b t → Unmoved b t
      → LineDone tells inputs before new s t (Err e)
  line_abandoned e r g u = line_stopped e r.by r.advances g u
