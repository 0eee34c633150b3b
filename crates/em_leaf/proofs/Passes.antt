-- A pass from one record that results to the next: what reads and answers did together.
use Rattle.std.proofs.Common.{◌≡◌, ℕ, ◌+◌, ◌-◌, ◌*◌, ◌<◌, ◌≤◌, min, List, [], ◌∷◌, ◌++◌, length, refl, sym, ap, ◌∙◌, arith, subst, IsTrue, Bool, true, false, if◌then◌else◌, Option, Some, Result, Ok, Err, IsErrAnd}
use Rattle.std.specs.Prelude.{option_to_list, IfErr, OnOk}
use Rattle.std.proofs.lemmas.List.{length-append}
use Rattle.em_record.specs.declared.record.Record.{Record}
use Rattle.em_space.specs.Held.{Holds}
use Rattle.em_space.specs.Ledger.{Costs, Spends, Halts, Stops}
use Rattle.em_space.specs.Rig.{RigState, Sound, Goes, Cause, BlockCause}
use Rattle.em_space.specs.declared.fault.EmFault.{EmFault}
use Rattle.em_space.proofs.Ledgers.{full_never}
use Rattle.em_space.proofs.Paying.{pays_kept}
use Rattle.em_space.proofs.Runs.{runs_none, runs_of, stops_first, stops_second}
use Rattle.em_space.proofs.Steps.{block_cause}
use Rattle.em_space.proofs.Within.{within_none}
use Rattle.em_chain.specs.Chain.{payload_in, chain_blocks}
use Rattle.em_chain.specs.Counts.{ceiling}
use Rattle.em_chain.specs.Reader.{IsReader, rest_of, reader_blocks, reader_items}
use Rattle.em_chain.specs.Reads.{ReadCosts, Reads}
use Rattle.em_chain.specs.Session.{Pairs, Wrote, one_more, over_account, pair_account, pair_blocks, taking_account, writer_account}
use Rattle.em_chain.specs.Writer.{CanGrow, IsWriter, filled, writer_blocks}
use Rattle.em_chain.specs.Writes.{Appends}
use Rattle.em_chain.specs.declared.reader.Reader.{Reader}
use Rattle.em_chain.specs.declared.writer.Writer.{Writer}
use Rattle.em_chain.proofs.Counts.{ceiling_more, ceiling_sum, filled_most, writer_blocks_are}
use Rattle.em_chain.proofs.Loops.{over_spends}
use Rattle.em_chain.proofs.Pairs.{more_same, pairs_is, pairs_none, pairs_reads, pairs_stops, pairs_then, pairs_wider, pairs_writes}
use Rattle.em_chain.proofs.Readers.{length_left}
use Rattle.em_chain.proofs.Sessions.{took_nothing, took_one, wrote_one}
use Rattle.em_chain.proofs.Withins.{within_ends, within_grows}
use Rattle.em_settle.specs.declared.step.Step.{Step}
use Rattle.em_leaf.specs.Front.{MovesOn, finding_answers, finding_items, in_hand}
use Rattle.em_leaf.specs.Steps.{Consumes, HasFirst, StopsConsuming, Stepped}
use Rattle.em_leaf.specs.Passing.{CanPass, FindsNext, GivesAnswer, Passing, answers_most}
use Rattle.em_leaf.specs.declared.front.Finding.{Finding}
use Rattle.em_leaf.specs.declared.front.Finding.TheVariants.{Answer}
use Rattle.em_leaf.specs.declared.front.Front.{Front}
use Rattle.em_leaf.proofs.Fronts.{moves_none, moves_then}
use Rattle.em_leaf.proofs.Numbers.{ceiling_few}

-- the blocks of a reader that takes its chain,
taking_goes : {s t : RigState} (r : Reader) → r.taking ≡ true → Goes (reader_blocks s r) s t
    → Goes (chain_blocks s (rest_of r)) s t
taking_goes {s} {t} r e g = subst (λ (b : Bool).
    Goes (if b then chain_blocks s (rest_of r) else []) s t) e g

-- and of one that leaves it
over_goes : {s t : RigState} (r : Reader) → r.taking ≡ false → Goes (reader_blocks s r) s t
    → Goes [] s t
over_goes {s} {t} r e g = subst (λ (b : Bool).
    Goes (if b then chain_blocks s (rest_of r) else []) s t) e g

pub holds_none : (s : RigState) → Holds s []
holds_none s = record { in_use = tt; distinct = λ z. tt }

-- Nothing was read,
pub consumes_none : {s : RigState} {r : Reader} → Sound s → IsReader s r → Consumes s s r r []
consumes_none {s} {r} h i = record {
  took = took_nothing i;
  taking = λ e. runs_none s (chain_blocks s (rest_of r)) (taking_account r) h
      (λ z. (i.chain.told z).holds);
  over = λ e. runs_none s [] (over_account r) h (λ z. holds_none s);
}

-- one record was,
pub consumes_one : {s t : RigState} {r q : Reader} {x : Record} (o : Option Record)
    → Goes (reader_blocks s r) s t → Reads s t r q x → ReadCosts s t r q (Ok o)
    → (r.taking ≡ true → Spends r.blocks (taking_account r) (taking_account q) s t)
    → Consumes s t r q (x ∷ [])
consumes_one {s} {t} {r} {q} {x} o g h k spends =
    let took = took_one (reader_blocks s r) g.touches h in
    record {
      took = took;
      taking = λ e.
          let d = taking_goes r e g in
          let ks = chain_blocks s (rest_of r) in
          let js = chain_blocks t (rest_of q) in
          runs_of ks js d (within_ends s ks js took.blocks) (λ z. (took.is.chain.told z).holds)
          (spends e);
      over = λ e. runs_of [] [] (over_goes r e g) (within_none s [] [] (λ z. refl))
          (λ z. holds_none t) (over_spends o e g k);
    }

-- or the read gave up.
pub consumes_stops : {T : Type 0} {s t : RigState} {r q : Reader} {fault : EmFault}
    → Goes (reader_blocks s r) s t → ReadCosts {T = T} s t r q (Err fault)
    → (r.taking ≡ true → Halts r.blocks 0 0 (taking_account r) s t fault)
    → BlockCause s t fault → StopsConsuming s t r fault
consumes_stops {T} {s} {t} {r} {q} {fault} g k halts cause = record {
  taking = λ e. record {
    goes = taking_goes r e g;
    halts = halts e;
    cause = block_cause s t fault cause;
  };
  over = λ e.
      let used = k.used_over e in
      record {
        goes = over_goes r e g;
        halts = record {
          used = omega arith;
          full = full_never s t fault (t.used + 0 < s.used + 0) cause;
          most = omega (arith, k.most);
          moves = omega (arith, k.moves_err);
          later = g.touches.moves;
          pays = pays_kept 0 (omega arith) g.touches.moves;
        };
        cause = block_cause s t fault cause;
      };
}

-- A record is in hand already.
pub first_stands : {s : RigState} {r : Reader} (f : Front) → Sound s → IsReader s r
    → (in_hand f ≡ 0 → ⊥) → HasFirst s s r r f f
first_stands f h i some = record {
  xs = [];
  read = consumes_none h i;
  items = λ z. refl;
  hand = refl;
  settled = refl;
  count = refl;
  none = λ e. absurd (some e);
}

none_by : (xs : List Record) → length xs ≡ 0 → xs ≡ []
none_by [] e = refl
none_by (x ∷ xs) e = absurd (omega arith)

-- nothing is left to read
pub none_read : {s : RigState} {r : Reader} → IsReader s r → IsTrue s.device.told → r.count ≡ 0
    → reader_items s r ≡ []
none_read {s} {r} i z e = none_by (reader_items s r) (length_left s r i z ∙ e)

-- a writer has no more blocks more than records were written
pub blocks_more : {s t : RigState} {w v : Writer} {xs : List Record} → 128 ≤ t.pool.shape.block
    → payload_in t ≡ payload_in s → IsWriter s w → Wrote s t w v xs
    → v.blocks ≤ w.blocks + length xs
blocks_more {s} {t} {w} {v} {xs} low pt i h =
    let e = writer_blocks_are t v low h.is in
    let m : filled s w ≤ payload_in t * w.blocks = rw pt (filled_most s w i) in
    let c = ceiling_sum (payload_in t) w.blocks (filled s w) (length xs) (omega arith) m in
    let d = ceiling_few (length xs) (payload_in t) (omega arith) in
    let n = ap (λ (k : ℕ). ceiling k (payload_in t)) h.filled_is in
    omega arith

module _ (key : Record → Record) (step : Option Record → Record → Step) (ops : List Record) where
  -- what a pass may need of its answers' blocks
  pub most_answers : {p : ℕ} {s t : RigState} {r q : Reader} {w v : Writer} {f g : Front}
      {items : List Record} (m : ℕ) → Passing p key step ops s t r q w v f g items
      → m ≤ filled s w + (length ops - f.settled)
      → ceiling m (payload_in t) ≤ answers_most s w (length ops - f.settled)
  most_answers {p} {s} {t} {r} {q} {w} {v} {f} {g} {items} m h l =
      let low = h.pairs.runs.session.sound.shape.block_low in
      let pt = h.pairs.took.payload_is in
      let c = ceiling_more m (filled s w + (length ops - f.settled)) (payload_in s)
      (omega arith) l in
      rw pt c

  -- those it has are among them,
  pub has_answers : {p : ℕ} {s t : RigState} {r q : Reader} {w v : Writer} {f g : Front}
      {items : List Record} → Passing p key step ops s t r q w v f g items
      → v.blocks ≤ answers_most s w (length ops - f.settled)
  has_answers {p} {s} {t} {r} {q} {w} {v} {f} {g} {items} h =
      let e = writer_blocks_are t v h.pairs.runs.session.sound.shape.block_low h.pairs.wrote.is in
      let n = h.pairs.wrote.filled_is in
      let a = h.few in
      let b = h.within in
      let m = most_answers (filled t v) h (omega arith) in
      omega arith

  -- and one more, if an operation is left.
  pub one_answer : {p : ℕ} {s t : RigState} {r q : Reader} {w v : Writer} {f g : Front}
      {items : List Record} → Passing p key step ops s t r q w v f g items
      → g.settled < length ops → one_more t v ≤ answers_most s w (length ops - f.settled)
  one_answer {p} {s} {t} {r} {q} {w} {v} {f} {g} {items} h l =
      let n = h.pairs.wrote.filled_is in
      let a = h.few in
      most_answers (filled t v + 1) h (omega arith)

  -- There is room for another answer, if an operation is left.
  pub answers_grow : {p : ℕ} {s t : RigState} {r q : Reader} {w v : Writer} {f g : Front}
      {items : List Record} → CanPass s r w f (length ops)
      → Passing p key step ops s t r q w v f g items → g.settled < length ops → CanGrow v
  answers_grow {p} {s} {t} {r} {q} {w} {v} {f} {g} {items} c h l =
      let low = h.pairs.runs.session.sound.shape.block_low in
      let n = h.pairs.wrote.count_is in
      let b = blocks_more low h.pairs.took.payload_is c.pair.writer h.pairs.wrote in
      let a = h.few in
      let x = c.grow.count in
      let y = c.grow.blocks in
      record { count = omega arith; blocks = omega arith }

  -- No step yet.
  pub passing_none : {s : RigState} {r : Reader} {w : Writer} {f : Front} → Sound s
      → CanPass s r w f (length ops)
      → Passing (answers_most s w (length ops - f.settled) + r.blocks) key step ops s s r r w w f f
      []
  passing_none {s} {r} {w} {f} h c =
      let low = h.shape.block_low in
      let e = writer_blocks_are s w low c.pair.writer in
      let m = ceiling_more (filled s w) (filled s w + (length ops - f.settled)) (payload_in s)
      (omega arith) (omega arith) in
      record {
        xs = [];
        ys = [];
        pairs = pairs_wider (omega arith) (pairs_none h c.pair);
        moves_on = λ z i. moves_none key step ops f (reader_items s r) i;
        count = omega arith;
        few = omega arith;
        within = c.within;
      }

  -- what a step read
  pub step_reads : {p : ℕ} {s t u : RigState} {r q k : Reader} {w v : Writer} {f g j : Front}
      {e : Finding} → r.taking ≡ true → Passing p key step ops s t r q w v f g []
      → (d : Stepped key step ops t u q k g j e)
      → Pairs (v.blocks + q.blocks) t u q k v v d.xs []
  step_reads tk h d = pairs_reads d.xs (pairs_is tk h.pairs)
      (d.read.taking (h.pairs.took.taking ∙ tk)) d.read.took

  -- A step after others, whose answer was written.
  pub passing_on : {p n : ℕ} {s t u y : RigState} {r q k : Reader} {w v x : Writer} {f g j : Front}
      (e : Finding) → r.taking ≡ true → p ≡ answers_most s w (length ops - f.settled) + r.blocks
      → Passing p key step ops s t r q w v f g [] → Stepped key step ops t u q k g j e
      → Pairs n u y k k v x [] (finding_answers e) → n ≤ p
      → Passing p key step ops s y r k w x f j (finding_items e)
  passing_on {p} {n} {s} {t} {u} {y} {r} {q} {k} {w} {v} {x} {f} {g} {j} e tk pe h d m l =
      let a = has_answers h in
      let fewer = h.pairs.took.fewer in
      let told = h.pairs.took.told in
      let stays = m.took.items in
      let one = pairs_wider {n = p} (omega arith) (step_reads tk h d) in
      let two = pairs_wider {n = p} l m in
      let both = pairs_wider {n = p} (omega arith)
      (pairs_then d.xs [] [] (finding_answers e) one two) in
      record {
        xs = h.xs ++ (d.xs ++ []);
        ys = h.ys ++ finding_answers e;
        pairs = pairs_wider {n = p} (omega arith)
            (pairs_then h.xs h.ys (d.xs ++ []) (finding_answers e) h.pairs both);
        moves_on = λ z i.
            let b = h.moves_on z i in
            let c = d.moves_on (told ∙ z) b.front in
            let o = m.took.items (d.read.took.told ∙ (told ∙ z)) in
            let P : List Record → Type 0 = λ zs. MovesOn key step ops f j (reader_items s r) zs
            (finding_items e) (h.ys ++ finding_answers e) in
            subst P o (moves_then key step ops f g j (reader_items s r) (reader_items t q)
            (reader_items u k) [] (finding_items e) h.ys (finding_answers e) b c);
        count = let b = h.count in let c = d.count in omega arith;
        few =
            let b = h.few in
            let c = d.few in
            let o = length-append h.ys (finding_answers e) in
            omega arith;
        within = d.within;
      }

  -- a step that answers nothing
  pub passing_quiet : {p : ℕ} {s t u : RigState} {r q k : Reader} {w v : Writer} {f g j : Front}
      (e : Finding) → r.taking ≡ true → p ≡ answers_most s w (length ops - f.settled) + r.blocks
      → finding_answers e ≡ [] → Passing p key step ops s t r q w v f g []
      → Stepped key step ops t u q k g j e
      → Passing p key step ops s u r k w v f j (finding_items e)
  passing_quiet {p} {s} {t} {u} {r} {q} {k} {w} {v} {f} {g} {j} e tk pe quiet h d =
      let i = pairs_is (h.pairs.took.taking ∙ tk) (step_reads tk h d) in
      let a = has_answers h in
      let fewer = h.pairs.took.fewer in
      let less = d.read.took.fewer in
      let P : List Record → Type 0 = λ zs. Pairs (v.blocks + k.blocks) u u k k v v [] zs in
      passing_on e tk pe h d (subst P (sym quiet)
      (pairs_none (step_reads tk h d).runs.session.sound i)) (omega arith)

  -- a step whose answer was written, if there is one
  pub passing_answer : {T : Type 0} {p : ℕ} {s t u y : RigState} {r q k : Reader} {w v x : Writer}
      {f g j : Front} (o : Option Record) (z : T) → r.taking ≡ true
      → p ≡ answers_most s w (length ops - f.settled) + r.blocks
      → Passing p key step ops s t r q w v f g [] → Stepped key step ops t u q k g j (Answer o)
      → GivesAnswer u y v x o (Ok z) → Passing p key step ops s y r k w x f j []
  passing_answer {T} {p} {s} {t} {u} {y} {r} {q} {k} {w} {v} {x} {f} {g} {j} o z tk pe h d m =
      let c = step_reads tk h d in
      let i = pairs_is (h.pairs.took.taking ∙ tk) c in
      let less = d.read.took.fewer in
      let fewer = h.pairs.took.fewer in
      let one = one_answer h (let n = d.nears.1 in let b = d.within in omega arith) in
      let same = more_same c in
      passing_on (Answer o) tk pe h d (pairs_writes (option_to_list o) i m.0 m.1) (omega arith)

  -- A step gave up,
  pub passing_stops : {p : ℕ} {s t u : RigState} {r q : Reader} {w v : Writer} {f g : Front}
      {e : EmFault} → r.taking ≡ true → p ≡ answers_most s w (length ops - f.settled) + r.blocks
      → Passing p key step ops s t r q w v f g [] → StopsConsuming t u q e
      → Stops p (2 * answers_most s w (length ops - f.settled)) 1 (pair_blocks s r w)
      (pair_account r w) s u e
  passing_stops {p} {s} {t} {u} {r} {q} {w} {v} {f} {g} {e} tk pe h d =
      let a = has_answers h in
      let fewer = h.pairs.took.fewer in
      pairs_stops p (2 * answers_most s w (length ops - f.settled)) 1 (omega arith) (omega arith)
      (omega arith) (omega arith) h.pairs
      (stops_second (writer_blocks t v) (writer_account v) (d.taking (h.pairs.took.taking ∙ tk)))

  -- or the answer couldn't be written.
  pub answer_stops : {p : ℕ} {s t u y : RigState} {r q k : Reader} {w v : Writer}
      {f g j : Front} (x : Writer) (o : Option Record) {e : EmFault} → r.taking ≡ true
      → p ≡ answers_most s w (length ops - f.settled) + r.blocks
      → Passing p key step ops s t r q w v f g [] → Stepped key step ops t u q k g j (Answer o)
      → GivesAnswer {T = Unit {0}} u y v x o (Err e)
      → Stops p (2 * answers_most s w (length ops - f.settled)) 1 (pair_blocks s r w)
      (pair_account r w) s y e
  answer_stops {p} {s} {t} {u} {y} {r} {q} {k} {w} {v} {f} {g} {j} x o {e} tk pe h d m =
      let c = step_reads tk h d in
      let less = d.read.took.fewer in
      let fewer = h.pairs.took.fewer in
      let a = has_answers h in
      let one = one_answer h (let n = d.nears.1 in let b = d.within in omega arith) in
      let same = more_same c in
      let all = pairs_then h.xs h.ys d.xs [] h.pairs c in
      pairs_stops p (2 * answers_most s w (length ops - f.settled)) 1 (omega arith) (omega arith)
      (omega arith) (omega arith) all
      (stops_first (chain_blocks u (rest_of k)) (taking_account k) m)

-- what a refusal left
pub finds_of : (s t : RigState) (r q : Reader) (w v : Writer) (f g : Front) (key : Record → Record)
    (step : Option Record → Record → Step) (ops : List Record)
    (result : Result (Option Record) EmFault) (e : EmFault) → IsErrAnd result (λ n. n ≡ e)
    → FindsNext key step ops s t r q w v f g (Err e) → FindsNext key step ops s t r q w v f g result
finds_of s t r q w v f g key step ops (Ok x) e h k = absurd h
finds_of s t r q w v f g key step ops (Err n) e h k =
    subst (λ (m : EmFault). FindsNext key step ops s t r q w v f g (Err m)) (sym h) k

-- An answer was written, or that gave up.
pub gives_by : {T : Type 0} (s t : RigState) (w v : Writer) (x : Record) (result : Result T EmFault)
    → Goes (writer_blocks s w) s t → OnOk result (Appends s t w v x)
    → Costs (one_more s w) (2 * one_more s w) (min w.blocks 1) (writer_account w)
    (writer_account v) s t
    result
    → IfErr result (Cause s t) → GivesAnswer s t w v (Some x) result
gives_by s t w v x (Ok y) g a k c = (
  runs_of (writer_blocks s w) (writer_blocks t v) g
      (within_grows s (writer_blocks s w) (writer_blocks t v) a.grown) (λ z. (a.is.told z).holds) k,
  wrote_one g.touches.told a,
)
gives_by s t w v x (Err e) g a k c = record { goes = g; halts = k; cause = c }
