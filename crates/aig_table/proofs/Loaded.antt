-- Words are read one after another, and become bits of a table.
use Rattle.std.proofs.Common.{◌≡◌, ℕ, ◌+◌, ◌*◌, ◌<◌, ◌≤◌, max, Bool, true, List, [], ◌∷◌, length, refl, sym, ap, subst, ◌∙◌, arith, IsTrue, Result, Ok, Err, IfErr}
use Rattle.em_record.specs.declared.record.Record.{Record}
use Rattle.em_space.specs.Ledger.{Halts, Runs, Spends, Stops}
use Rattle.em_space.specs.Rig.{BlockCause, Goes, RigState, Sound}
use Rattle.em_space.specs.declared.fault.EmFault.{EmFault}
use Rattle.em_space.proofs.Ledgers.{full_by, full_never}
use Rattle.em_space.proofs.Paying.{pays_kept}
use Rattle.em_space.proofs.Runs.{runs_none, runs_of, runs_then, runs_wider, stops_after, stops_wider}
use Rattle.em_space.proofs.Steps.{block_cause}
use Rattle.em_space.proofs.Within.{within_none}
use Rattle.em_chain.specs.Chain.{ChainStays, IsChain, chain_blocks}
use Rattle.em_chain.specs.Effects.{GivesFrame, LendsFrame, Unmoved}
use Rattle.em_chain.specs.Reader.{IsReader, reader_blocks, reader_items, rest_of}
use Rattle.em_chain.specs.Reads.{Opens, Reads}
use Rattle.em_chain.specs.Row.{Frees}
use Rattle.em_chain.specs.Session.{taking_account}
use Rattle.em_chain.specs.declared.chain.Chain.{Chain}
use Rattle.em_chain.specs.declared.reader.Reader.{Reader}
use Rattle.em_chain.proofs.Withins.{within_ends}
use Rattle.em_bits.specs.Bits.{AndsIn}
use Rattle.aig_words.specs.Words.{lane, says}
use Rattle.aig_sweep.specs.Lists.{lists_account}
use Rattle.aig_sweep.specs.Messages.{HaveBits}
use Rattle.aig_sweep.proofs.Bits.{owed_end}
use Rattle.aig_sweep.proofs.Passes.{goes_taking}
use Rattle.aig_table.specs.Loads.{LoadsListTo, LoadsSome}
use Rattle.aig_table.specs.Tables.{IsTable}
use Rattle.aig_table.proofs.Around.{frame_frames, gives_still, lends_still, runs_around, stops_around}
use Rattle.aig_table.proofs.Tables.{table_next}

-- No word was read,
pub loads_none : {s : RigState} {r : Reader} (old : List Record) → Sound s → IsReader s r
    → r.taking ≡ true → LoadsSome 0 0 s s r r old old
loads_none {s} {r} old h i e = record {
  runs = runs_none s (chain_blocks s (rest_of r)) (taking_account r) h
      (λ z. ((i.closed e).told z).holds);
  is = i;
  taking = e;
  count = omega arith;
  fewer = omega arith;
  bits = λ z value last fits l t b. (t, b);
}

bits_one : {value : ℕ → Bool} {old new words later : List Record} (from last : ℕ) (x : Record) (bit : Bool)
    → bit ≡ says 0 x.c → last < 256 * length old → from + 1 ≤ last → IsTable value from last [] old
    → words ≡ x ∷ later → HaveBits value (from + 1) (lane 0 words) → AndsIn (from + 1) bit old new
    → IsTable value (from + 1) last [] new × HaveBits value (from + 1 + 1) (lane 0 later)
bits_one {value} {old} {new} {words} {later} from last x bit is fits l h e b a =
    let c : HaveBits value (from + 1) (lane 0 (x ∷ later)) =
    subst (λ (ws : List Record). HaveBits value (from + 1) (lane 0 ws)) e b in
    (table_next last from bit fits l (is ∙ c.0) h a, c.1)

-- one was,
pub loads_one : {s t : RigState} {r q : Reader} {x : Record} {old new : List Record} (from : ℕ)
    (bit : Bool) → bit ≡ says 0 x.c → r.taking ≡ true → Goes (reader_blocks s r) s t → Reads s t r q x
    → Spends r.blocks (taking_account r) (taking_account q) s t → AndsIn (from + 1) bit old new
    → LoadsSome from 1 s t r q old new
loads_one {s} {t} {r} {q} {x} {old} {new} from bit is e g h k a =
    let taking : q.taking ≡ true = h.taking ∙ e in
    let goes : Goes (chain_blocks s (rest_of r)) s t = goes_taking r e g in
    record {
      runs = runs_of (chain_blocks s (rest_of r)) (chain_blocks t (rest_of q)) goes
          (within_ends s (chain_blocks s (rest_of r)) (chain_blocks t (rest_of q)) h.blocks)
          (λ z. ((h.is.closed taking).told z).holds) k;
      is = h.is;
      taking = taking;
      count = h.count;
      fewer = h.fewer;
      bits = λ z value last fits l u b. bits_one from last x bit is fits l u (h.items z) b a;
    }

-- and one more.
pub loads_then : {s t u : RigState} {r q p : Reader} {old mid new : List Record} (n : ℕ)
    → length mid ≡ length old → LoadsSome 0 n s t r q old mid → LoadsSome n 1 t u q p mid new
    → LoadsSome 0 (n + 1) s u r p old new
loads_then {s} {t} {u} {r} {q} {p} {old} {mid} {new} n long h g =
    let few = h.fewer in
    record {
      runs = runs_wider (omega (arith, few)) (runs_then h.runs g.runs);
      is = g.is;
      taking = g.taking;
      count = let a = h.count in let b = g.count in omega (arith, a, b);
      fewer = let a = g.fewer in omega (arith, few, a);
      bits = λ z value last fits l k b.
          let two = h.bits z value last fits (omega (arith, l)) k b in
          let one = subst (λ (m : ℕ). IsTable value m last [] mid
          × HaveBits value (m + 1) (lane 0 (reader_items t q))) (omega arith) two in
          subst (λ (m : ℕ). IsTable value m last [] new
          × HaveBits value (m + 1) (lane 0 (reader_items u p))) (omega arith)
          (g.bits (h.runs.session.touches.told ∙ z) value last (omega (arith, fits, long))
          (omega (arith, l)) one.0 one.1);
    }

-- A read gave up,
pub loads_refused : {s t : RigState} {e : EmFault} (r : Reader) → r.taking ≡ true
    → Goes (reader_blocks s r) s t → Halts r.blocks 0 0 (taking_account r) s t e → BlockCause s t e
    → Stops r.blocks 0 0 (chain_blocks s (rest_of r)) (taking_account r) s t e
loads_refused {s} {t} {e} r taking g k c = record {
  goes = goes_taking r taking g;
  halts = k;
  cause = block_cause s t e c;
}

-- after others.
pub loads_stop : {s t u : RigState} {r q : Reader} {old mid : List Record} {e : EmFault} (n : ℕ)
    → LoadsSome 0 n s t r q old mid
    → Stops q.blocks 0 0 (chain_blocks t (rest_of q)) (taking_account q) t u e
    → Stops r.blocks 0 0 (chain_blocks s (rest_of r)) (taking_account r) s u e
loads_stop n h g =
    let few = h.fewer in
    stops_wider (omega (arith, few)) (omega arith) (omega arith) (stops_after h.runs g)

-- a reader that takes a list has its account
list_stops : {s m u : RigState} {c : Chain} {r : Reader} {p : ℕ} {e : EmFault} → Opens s m c true r
    → p ≤ r.blocks → Stops (max r.blocks p) 0 0 (chain_blocks s c) (taking_account r) s u e
    → Stops c.blocks 0 0 (chain_blocks s c) (lists_account c.blocks (2 * c.blocks)) s u e
list_stops {s} {m} {u} {c} {r} {p} {e} o l h =
    let words = ap (λ (d : Chain). d.blocks) o.words in
    let begun = o.owed_is in
    let k = h.halts in
    record {
      goes = h.goes;
      halts = record {
        used = let a = k.used in omega (arith, a, words, l);
        full = full_by e (u.used + r.blocks < s.used + max r.blocks p) (u.used + c.blocks < s.used + c.blocks)
            (λ a. omega (arith, a, words, l)) k.full;
        most = let a = k.most in omega (arith, a, words, l);
        moves = let a = k.moves in omega (arith, a, begun);
        later = k.later;
        pays = k.pays;
      };
      cause = h.cause;
    }

-- A read gave up, and the reader's frame came back.
pub loads_unread : {s m n t : RigState} {c : Chain} {r : Reader} {e : EmFault} → IsChain s c
    → LendsFrame s m → Unmoved s m → Opens s m c true r
    → Stops r.blocks 0 0 (chain_blocks m (rest_of r)) (taking_account r) m n e → GivesFrame [] n t
    → Unmoved n t → Stops c.blocks 0 0 (chain_blocks s c) (lists_account c.blocks (2 * c.blocks)) s t e
loads_unread {s} {m} {n} {t} {c} {r} {e} is l v o h g w =
    list_stops {p = 0} o (omega arith) (stops_wider (omega arith) (omega arith) (omega arith)
    (stops_around (chain_blocks s c) (lends_still l v) o.blocks h (gives_still g w)
    (frame_frames l h.goes.frames g)))

-- All words of a list were read, what was left of it was released, and the reader's frame came back; or its
-- release gave up.
pub loads_list : {T : Type 0} {s m n t u : RigState} {c : Chain} {r : Reader} {old new : List Record}
    (q : Reader) (rest : Chain) (result : Result T EmFault) → IsChain s c → LendsFrame s m → Unmoved s m
    → Opens s m c true r → LoadsSome 0 c.count m n r q old new → GivesFrame [] n t → Unmoved n t
    → rest ≡ rest_of q → ChainStays n t (rest_of q) → Goes (chain_blocks t rest) t u
    → Frees rest.blocks t u result → IfErr result (BlockCause t u) → LoadsListTo s u c old new result
loads_list {s = s} {m} {n} {t} {u} {c} {r} {old} {new} q rest (Ok x) is l v o h g w e st goes frees cause =
    let words = ap (λ (d : Chain). d.blocks) o.words in
    let count = ap (λ (d : Chain). d.count) o.words in
    let none : q.count ≡ 0 = let k = h.count in omega (arith, k, count) in
    let owed_is = owed_end h.taking h.is none in
    let begun = o.owed_is in
    let left = ap (λ (d : Chain). d.blocks) e in
    let few = h.fewer in
    let gone : Goes (chain_blocks t (rest_of q)) t u =
    subst (λ (d : Chain). Goes (chain_blocks t d) t u) e goes in
    let read = runs_around (chain_blocks s c) (chain_blocks t (rest_of q)) (λ z. (is.told z).holds)
    (lends_still l v) o.blocks h.runs (gives_still g w) st.blocks (frame_frames l h.runs.frames g) in
    let used = frees.used in
    let most = frees.most in
    let moves = frees.moves in
    let freed : Runs q.blocks (chain_blocks t (rest_of q)) [] (taking_account q) (lists_account 0 0) t u =
    runs_of (chain_blocks t (rest_of q)) [] gone (within_none t (chain_blocks t (rest_of q)) [] (λ z. refl))
    (λ z. record { in_use = tt; distinct = λ y. tt }) (record {
      held = omega arith;
      used = omega (arith, used, left);
      most = omega (arith, most);
      moves = omega (arith, moves, owed_is, left);
      later = gone.touches.moves;
      pays = pays_kept 0 frees.used_most gone.touches.moves;
    }) in
    let all = runs_then read freed in
    let spent = all.spends in
    record {
      runs = record {
        session = all.session;
        frames = all.frames;
        spends = record {
          held = omega arith;
          used = let a = spent.used in omega (arith, a, words);
          most = let a = spent.most in omega (arith, a, words, few);
          moves = let a = spent.moves in omega (arith, a, begun);
          later = spent.later;
          pays = spent.pays;
        };
      };
      bits = λ z value last fits k t b.
          let y : IsTrue m.device.told = l.touches.told ∙ z in (
            (h.bits y value last fits k t
                (subst (λ (ws : List Record). HaveBits value (0 + 1) (lane 0 ws)) (sym (o.items z)) b)).0,
            tt,
          );
    }
loads_list {s = s} {m} {n} {t} {u} {c} {r} {old} {new} q rest (Err x) is l v o h g w e st goes frees cause =
    let words = ap (λ (d : Chain). d.blocks) o.words in
    let count = ap (λ (d : Chain). d.count) o.words in
    let none : q.count ≡ 0 = let k = h.count in omega (arith, k, count) in
    let owed_is = owed_end h.taking h.is none in
    let begun = o.owed_is in
    let left = ap (λ (d : Chain). d.blocks) e in
    let few = h.fewer in
    let gone : Goes (chain_blocks t (rest_of q)) t u =
    subst (λ (d : Chain). Goes (chain_blocks t d) t u) e goes in
    let read = runs_around (chain_blocks s c) (chain_blocks t (rest_of q)) (λ z. (is.told z).holds)
    (lends_still l v) o.blocks h.runs (gives_still g w) st.blocks (frame_frames l h.runs.frames g) in
    let most = frees.most in
    let moves = frees.moves in
    let least = frees.used_most in
    let freed : Stops q.blocks 0 0 (chain_blocks t (rest_of q)) (taking_account q) t u x = record {
      goes = gone;
      halts = record {
        used = omega (arith, least);
        full = full_never t u x _ cause;
        most = omega (arith, most);
        moves = omega (arith, moves, owed_is, left);
        later = gone.touches.moves;
        pays = pays_kept 0 frees.used_most gone.touches.moves;
      };
      cause = block_cause t u x cause;
    } in
    list_stops o few (stops_after read freed)

-- the same number in other words
pub loads_as : {n m : ℕ} {s t : RigState} {r q : Reader} {old new : List Record} → n ≡ m
    → LoadsSome 0 n s t r q old new → LoadsSome 0 m s t r q old new
loads_as {n} {m} {s} {t} {r} {q} {old} {new} e h =
    subst (λ (i : ℕ). LoadsSome 0 i s t r q old new) e h
