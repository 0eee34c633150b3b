-- A line that is read, and its records that are written.
use Rattle.std.proofs.Common.{◌≡◌, ◌<◌, ◌≤◌, Bool, true, false, cond, List, ℕ, refl, sym, ap, subst, arith, Result, Ok, Err}
use Rattle.std.specs.Prelude.{IsErrAnd}
use Rattle.std.proofs.lemmas.Bool.{le-leb, lt-ltb}
use Rattle.em_space.specs.Rig.{RigState}
use Rattle.em_space.specs.declared.fault.EmFault.{EmFault}
use Rattle.aig_defs.specs.Items.{Reads, Item, and_then, ◌>>=◌}
use Rattle.aig_text.specs.Draft.{Drafted, HasDraftFrames, StopsDraft}
use Rattle.aig_text.specs.Listing.{Listing, no_records, record_count}
use Rattle.aig_text.specs.Moment.{Moment, AddsListing, CanFill, ReadsInto, StopsFilling}
use Rattle.aig_text.specs.Reads.{ReadCause, ReadsItem}
use Rattle.aig_text.specs.Sections.{line_begun}
use Rattle.aig_text.specs.Source.{Source, left}
use Rattle.aig_text.specs.declared.draft.Draft.{Draft}
use Rattle.aig_text.specs.declared.stop.AigStop.{AigStop}
use Rattle.aig_text.specs.declared.stop.AigStop.TheVariants as stop
use Rattle.aig_text.proofs.Fillings.{adds_none, stops_then}

-- the size of a line that adds w records
abbrev pub weight_begun : Bool → ℕ → ℕ → ℕ → List ℕ → ℕ
weight_begun bytes w given p x = cond (line_begun bytes given p) w 0

-- an error that was handed on
pub of_error : {T E : Type 0} (P : Result T E → Type 0) (r : Result T E) (e : E)
    → IsErrAnd r (λ f. f ≡ e) → P (Err e) → P r
of_error P (Ok x) e is h = absurd is
of_error P (Err f) e is h = subst (λ k. P (Err k)) (sym is) h

-- A reader of the text stopped after these records were written.
pub unread : {old mid : Moment} (text : Source) (lists : Listing) (e : AigStop)
    → AddsListing old mid lists
    → old.text.faults ≤ mid.text.faults → ReadCause mid.text text e
    → StopsFilling (record_count lists) old (record mid { text = text }) e
unread text lists (stop.Fault kind place) a later c =
    record { lists = lists; adds = record { drafted = a.drafted }; few = omega arith }
unread text lists stop.Read a later c = (
  record { lists = lists; adds = record { drafted = a.drafted }; few = omega arith },
  omega
      (arith, later, c),
)
unread text lists (stop.Em fault) a later c = absurd c

begun_by : (bytes : Bool) (p q given : ℕ) → (bytes ≡ true → p < q) → p ≤ q → q ≤ given
    → line_begun bytes given p ≡ true
begun_by true p q given forward on far = lt-ltb p given (omega (arith, forward refl, far))
begun_by false p q given forward on far = le-leb p given (omega (arith, on, far))

weighs : (bytes : Bool) (w p q given : ℕ) (x : List ℕ) → (bytes ≡ true → p < q) → p ≤ q
    → q ≤ given → weight_begun bytes w given p x ≡ w
weighs bytes w p q given x forward on far =
    ap (λ test. cond test w 0) (begun_by bytes p q given forward on far)

module _ {A : Type 0} {tells : Bool} {line : Item A} {k : ℕ} {old : Moment} {text : Source}
    (bytes : Bool) (w : ℕ)
    (write : A → Listing) (IsLike : Listing → Type 0) (can : CanFill k old) where
  -- The line wasn't read.
  pub line_unread : (e : AigStop) (r : Result (Unit {0}) AigStop) → IsErrAnd r (λ f. f ≡ e)
      → ReadsItem {A = A} tells line old.text text (Err e)
      → ReadsInto tells (line >>= λ v. Reads (write v)) (weight_begun bytes w) IsLike old
      (record old { text = text }) r
  line_unread e r is h = of_error (ReadsInto tells (line >>= λ v. Reads (write v)) (weight_begun bytes w)
      IsLike old (record old { text = text })) r e is (record {
        advances = h.advances;
        frames = can.draft.frames;
        fills = record {
          most = 0;
          stops = unread text no_records e (adds_none can) (omega arith) h.cause;
          reads = λ z. stops_then e _ _ (h.gives z);
          counted = λ z given far. omega arith;
        };
      })

  module _ {rig : RigState} {draft : Draft} (value : A) (read : ReadsItem tells line old.text text
      (Ok value))
      (forward : bytes ≡ true → old.text.feed.place < text.feed.place) (frames : HasDraftFrames rig draft) where
    -- It was read, and a record wasn't written.
    pub line_refused : (n : ℕ) (fault : EmFault) (r : Result (Unit {0}) AigStop)
        → IsErrAnd r (λ f. f ≡ stop.Em fault) → n ≤ w → StopsDraft old.rig rig old.draft n fault
        → ReadsInto tells (line >>= λ v. Reads (write v)) (weight_begun bytes w) IsLike old
        (record { text = text; rig = rig; draft = draft }) r
    line_refused n fault r is few h =
        of_error (ReadsInto tells (line >>= λ v. Reads (write v)) (weight_begun bytes w) IsLike old
        (record { text = text; rig = rig; draft = draft })) r (stop.Em fault) is (record {
          advances = read.advances;
          frames = frames;
          fills = record {
            most = n;
            stops = h;
            reads = λ z. tt;
            counted = λ z given far.
                omega (
                  arith,
                  weighs bytes w old.text.feed.place text.feed.place given (left old.text) forward
                      read.advances.steady.forward far,
                );
          };
        })

    -- It was read, and its records were written.
    pub line_done : Drafted old.rig rig old.draft draft (write value).defs (write value).gates
        (write value).uses (write value).resets
        → IsLike (write value) → record_count (write value) ≡ w
        → ReadsInto tells (line >>= λ v. Reads (write v)) (weight_begun bytes w) IsLike old
        (record { text = text; rig = rig; draft = draft }) (Ok tt)
    line_done h like count = record {
      advances = read.advances;
      frames = frames;
      fills = record {
        lists = write value;
        like = like;
        adds = record { drafted = h };
        reads = λ z. ap (λ r. and_then r (λ v. Reads (write v))) (read.gives z);
        counted = λ z given far.
            omega (
              arith,
              weighs bytes w old.text.feed.place text.feed.place given (left old.text) forward
                  read.advances.steady.forward far,
              count,
            );
      };
    }
