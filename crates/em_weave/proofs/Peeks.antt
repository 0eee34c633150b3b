-- A reader that takes its chain, one record ahead.
use Rattle.std.proofs.Common.{◌≡◌, [], refl, sym, ◌∙◌, arith, subst, Bool, true, false, if◌then◌else◌, Option, Some, None, Result, Ok, Err, IsErrAnd, IfSome}
use Rattle.std.specs.Prelude.{is_some}
use Rattle.em_record.specs.declared.record.Record.{Record}
use Rattle.em_space.specs.Ledger.{Spends, Halts, Stops}
use Rattle.em_space.specs.Rig.{RigState, Sound, Goes, BlockCause}
use Rattle.em_space.specs.declared.fault.EmFault.{EmFault}
use Rattle.em_space.proofs.Runs.{runs_none, runs_of}
use Rattle.em_space.proofs.Steps.{block_cause}
use Rattle.em_chain.specs.Chain.{chain_blocks}
use Rattle.em_chain.specs.Reader.{rest_of, reader_blocks}
use Rattle.em_chain.specs.Reads.{Reads, AtEnd}
use Rattle.em_chain.specs.Session.{taking_account}
use Rattle.em_chain.specs.declared.reader.Reader.{Reader}
use Rattle.em_chain.proofs.Withins.{within_ends}
use Rattle.em_weave.specs.Peek.{IsPeek, ReadsAhead, ReadsAheadTo, peek_blocks}
use Rattle.em_weave.specs.declared.peek.PeekReader.{PeekReader}

-- the blocks of a reader that takes its chain
goes_taken : {s t : RigState} (r : Reader) → r.taking ≡ true → Goes (reader_blocks s r) s t
    → Goes (chain_blocks s (rest_of r)) s t
goes_taken {s} {t} r e g = subst (λ (b : Bool).
    Goes (if b then chain_blocks s (rest_of r) else []) s t) e g

-- A record is ahead already,
pub ahead_already : {s : RigState} {p : PeekReader} → Sound s → IsPeek s p → is_some p.front ≡ true
    → ReadsAhead s s p p
ahead_already {s} {p} h i e = record {
  runs = runs_none s (peek_blocks s p) (taking_account p.reader) h
      (λ z. (i.is.chain.told z).holds);
  is = i;
  items = λ z. refl;
  count_is = refl;
  fewer = omega arith;
  none = λ n. absurd (let d = rw n at e in cc);
}

-- one was read, or none was left,
pub ahead_next : {s t : RigState} {p : PeekReader} {q : Reader} (o : Option Record) → Sound s
    → IsPeek s p → p.front ≡ None → Goes (reader_blocks s p.reader) s t
    → IfSome o (λ x. Reads s t p.reader q x) → (o ≡ None → AtEnd s t p.reader q)
    → Spends p.reader.blocks (taking_account p.reader) (taking_account q) s t
    → ReadsAhead s t p (record { reader = q; front = o })
ahead_next {s} {t} {p} {q} None h i f g r a k =
    let d = a refl in
    rw (d.same, d.rig) (record {
      runs = runs_none s (peek_blocks s p) (taking_account p.reader) h
          (λ z. (i.is.chain.told z).holds);
      is = record { is = i.is; taking = i.taking };
      items = λ z. rw f refl;
      count_is = rw f refl;
      fewer = omega arith;
      none = λ n. record {
        count = rw f (omega (arith, d.count));
        same = λ j. record { reader = p.reader; front = sym f j };
        rig = refl;
      };
    })
ahead_next {s} {t} {p} {q} (Some x) h i f g r a k =
    let ks = peek_blocks s p in
    let js = chain_blocks t (rest_of q) in
    let n = r.count in
    record {
      runs = runs_of ks js (goes_taken p.reader i.taking g) (within_ends s ks js r.blocks)
          (λ z. (r.is.chain.told z).holds) k;
      is = record { is = r.is; taking = r.taking ∙ i.taking };
      items = λ z. rw f (sym (r.items z));
      count_is = rw f (omega arith);
      fewer = r.fewer;
      none = λ e. absurd cc;
    }

-- or the reader gave up.
pub ahead_stops : {s t : RigState} (p : PeekReader) {fault : EmFault} → p.reader.taking ≡ true
    → Goes (reader_blocks s p.reader) s t
    → Halts p.reader.blocks 0 0 (taking_account p.reader) s t fault → BlockCause s t fault
    → Stops p.reader.blocks 0 0 (peek_blocks s p) (taking_account p.reader) s t fault
ahead_stops {s} {t} p {fault} e g k c = record {
  goes = goes_taken p.reader e g;
  halts = k;
  cause = block_cause s t fault c;
}

-- what a refusal gives
pub ahead_err : (s t : RigState) (p q : PeekReader) (result : Result (Unit {0}) EmFault)
    (fault : EmFault) → IsErrAnd result (λ e. e ≡ fault)
    → Stops p.reader.blocks 0 0 (peek_blocks s p) (taking_account p.reader) s t fault
    → ReadsAheadTo s t p q result
ahead_err s t p q (Ok done) fault e h = absurd e
ahead_err s t p q (Err f) fault e h = subst (λ (n : EmFault).
    Stops p.reader.blocks 0 0 (peek_blocks s p) (taking_account p.reader) s t n) (sym e) h

pub not_some : (o : Option Record) → is_some o ≡ false → o ≡ None
not_some None e = refl
not_some (Some x) e = absurd cc
