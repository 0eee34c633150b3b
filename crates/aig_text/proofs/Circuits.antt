-- A circuit that was read whole, or not.
use Rattle.std.proofs.Common.{◌≡◌, ◌+◌, ◌*◌, ◌<◌, ◌≤◌, Bool, ℕ, List, [], length, refl, sym, ap, ◌∙◌, subst, arith, inr, IsTrue, Result, Ok, Err, OnOk}
use Rattle.std.specs.Prelude.{IfOk, IsErrAnd}
use Rattle.em_record.specs.Count.{Rose}
use Rattle.em_record.specs.Shape.{ShapeNumbers}
use Rattle.em_record.specs.declared.record.Record.{Record}
use Rattle.em_space.specs.Rig.{RigState, Sound, Goes, Cause, IfFull}
use Rattle.em_space.specs.declared.fault.EmFault.{EmFault}
use Rattle.em_space.proofs.Ledgers.{full_by}
use Rattle.em_space.proofs.Steps.{goes_nothing}
use Rattle.em_chain.specs.Chain.{payload_in}
use Rattle.em_chain.specs.Counts.{ceiling}
use Rattle.em_chain.specs.declared.chain.Chain.{Chain}
use Rattle.em_chain.proofs.Keeps.{payload_kept}
use Rattle.em_chain.proofs.Sessions.{ceiling_rises}
use Rattle.aig_defs.specs.declared.circuit.Header.{Header}
use Rattle.aig_defs.specs.declared.form.Form.{Form}
use Rattle.aig_defs.specs.Begun.{circuit_size, counts_after, sections_size}
use Rattle.aig_defs.specs.Circuit.{Circuit, IsHeader}
use Rattle.aig_defs.specs.Items.{Reading, Reads, Fails, and_then}
use Rattle.aig_defs.specs.Order.{after_magic, header_line, sections}
use Rattle.aig_defs.proofs.Begun.{sections_all, size_most}
use Rattle.aig_defs.proofs.Order.{sections_end, sections_read}
use Rattle.aig_text.specs.Ascii.{ClimbIfSaid, CompletesReading, FullOnlyIf, GivesCircuit, GivesParts, IfEm, IfEmStop, IsPackedOf, OwesAfter, StraightIfSaid, TakesAtMost, enough_for, size_given}
use Rattle.aig_text.specs.Draft.{IsPackedChain, LeavesDraft, WritesFour, draft_room}
use Rattle.aig_text.specs.Listing.{Listing, listing_of, record_count}
use Rattle.aig_text.specs.Reads.{Advances, OnShelfFault, OnShelfStop, ReadCause, ReadsItem, StopsAs}
use Rattle.aig_text.specs.Sections.{listed_size, order}
use Rattle.aig_text.specs.Source.{Source, left}
use Rattle.aig_text.specs.Listed.{ReadsListing, LeavesListing, WritesListing}
use Rattle.aig_text.specs.declared.parts.Parts.{Parts}
use Rattle.aig_text.specs.declared.stop.AigStop.{AigStop}
use Rattle.aig_text.specs.declared.stop.AigStop.TheVariants as stop
use Rattle.aig_text.proofs.Ceilings.{ceiling_twice, room_by}
use Rattle.aig_text.proofs.Fillings.{stops_as, stops_then}
use Rattle.aig_text.proofs.Lines.{of_error}
use Rattle.aig_text.proofs.Listings.{listed_is, listed_most}
use Rattle.aig_text.proofs.SectionRows.{listed_rows}
use Rattle.aig_text.proofs.Steadies.{advances_then}
use Rattle.aig_text.proofs.Whole.{never_gives_up}

-- What the reader of a circuit promises.
pub record ReadsCircuit (form : Form) (tells : Bool) (old new : Source) (s t : RigState)
    (result : Result Parts AigStop)
    : Type 0 where
  pub goes : Goes [] s t
  pub parts : IfOk result (GivesParts s t)
  pub gives : IsTrue tells → GivesCircuit form old new t result
  pub end : IsTrue tells → OnOk result (left new ≡ [])
  pub feed : Advances tells old new
  pub read : OnShelfFault result (Rose old.faults new.faults)
  pub cause : IfEm result (Cause s t)
  pub takes : IsTrue tells → (given : ℕ) → new.feed.place ≤ given
      → TakesAtMost (size_given form old given) s t
  pub full : IsTrue tells → (given : ℕ) → new.feed.place ≤ given
      → FullOnlyIf (size_given form old given) s result
  pub complete : IsTrue tells → CompletesReading form old new s t result
  pub owes : OwesAfter s t result

-- a stop of a reader of the text has its cause there
read_by : (old new : Source) (e : AigStop) → ReadCause old new e
    → OnShelfStop e (Rose old.faults new.faults)
read_by old new (stop.Fault kind place) c = tt
read_by old new stop.Read c = c
read_by old new (stop.Em fault) c = absurd c

no_em : (old new : Source) (e : AigStop) (P : EmFault → Type 0) → ReadCause old new e → IfEmStop e P
no_em old new (stop.Fault kind place) P c = tt
no_em old new stop.Read P c = tt
no_em old new (stop.Em fault) P c = absurd c

never_fails : {A : Type 0} (old new : Source) (e : AigStop) (r : Reading A) (a : A) (q : ℕ)
    (y : List ℕ)
    → ReadCause old new e → StopsAs e r → (Rose old.faults new.faults → ⊥) → r ≡ Reads a q y → ⊥
never_fails old new (stop.Fault kind place) r a q y c h quiet is = let k = h in cc
never_fails old new stop.Read r a q y c h quiet is = quiet c
never_fails old new (stop.Em fault) r a q y c h quiet is = c

-- The header wasn't read.
-- the header of a form that is this one
pub as_form : {tells : Bool} {old new : Source} {r : Result Header AigStop} {f form : Form}
    → f ≡ form → ReadsItem tells (header_line f) old new r
    → ReadsItem tells (header_line form) old new r
as_form {tells} {old} {new} {r} same h =
    subst (λ k. ReadsItem tells (header_line k) old new r) same h

module _ (form : Form) {tells : Bool} {old new : Source} {s : RigState} where
  header_stops : (e : AigStop) → Sound s → ReadsItem {A = Header} tells (header_line form) old new
      (Err e)
      → ReadsCircuit form tells old new s s (Err e)
  header_stops e sound h = record {
    goes = goes_nothing s sound;
    parts = tt;
    gives = λ z. stops_then e _ (sections form) (h.gives z);
    end = λ z. tt;
    feed = h.advances;
    read = read_by old new e h.cause;
    cause = no_em old new e (Cause s s) h.cause;
    takes = λ z given far. record { moves = omega arith; used = omega arith; most = omega arith };
    full = λ z given far. no_em old new e _ h.cause;
    complete = λ z told calm quiet c q is room. absurd (never_fails old new e
        (after_magic form old.feed.place (left old)) c q []
        h.cause (stops_then e _ (sections form) (h.gives z)) quiet is);
    owes = record { is = inr (omega arith) };
  }

  pub header_unread : (e : AigStop) (result : Result Parts AigStop) → IsErrAnd result (λ k. k ≡ e)
      → Sound s
      → ReadsItem {A = Header} tells (header_line form) old new (Err e)
      → ReadsCircuit form tells old new s s result
  header_unread e result is sound h = of_error (ReadsCircuit form tells old new s s) result e is
      (header_stops e sound h)

-- The header was read, and the sections are read after it.
module _ (form : Form) {tells : Bool} {old mid : Source} {h : Header}
    (header : ReadsItem tells (header_line form) old mid (Ok h)) where
  after_header : IsTrue tells → after_magic form old.feed.place (left old)
      ≡ sections form h mid.feed.place (left mid)
  after_header z = ap (λ r. and_then r (sections form)) (header.gives z)

  given_after : IsTrue tells → (given : ℕ)
      → size_given form old given ≡ sections_size form given h mid.feed.place (left mid)
  given_after z given = ap (λ r. counts_after r (sections_size form given)) (header.gives z)

  size_after : IsTrue tells → (given : ℕ)
      → listed_size form order h given mid.feed.place (left mid) ≤ 2 * size_given form old given
  size_after z given =
      omega (arith, given_after z given, listed_most form h given mid.feed.place (left mid))

  -- A circuit that is spelled has this header, and no more was read than its size.
  size_within : IsTrue tells → (c : Circuit) (q given : ℕ)
      → after_magic form old.feed.place (left old) ≡ Reads c q []
      → size_given form old given ≤ circuit_size c.header
  size_within z c q given e =
      let r = sections_read form h mid.feed.place (left mid) c q [] (sym (after_header z) ∙ e) in
      let most = size_most form given old.feed.place (left old) h mid.feed.place (left mid)
      (header.gives z) in
      subst (λ k. size_given form old given ≤ circuit_size k) r.header most

-- what the sections fail with
unlisted : (e : AigStop) (r : Reading Circuit) → StopsAs e (and_then r (λ c. Reads (listing_of c)))
    → StopsAs e r
unlisted (stop.Fault kind place) (Reads c q y) h = cc
unlisted (stop.Fault kind place) (Fails k p) h = cc
unlisted stop.Read r h = tt
unlisted (stop.Em fault) r h = tt

-- a rig's blocks have payload records, as many after calls as before
payload_low : (s t : RigState) → Goes [] s t → 0 < payload_in s
payload_low s t g =
    let low : 128 ≤ s.pool.shape.block =
    subst (λ (k : ShapeNumbers). 128 ≤ k.block) g.touches.shape g.sound.shape.block_low in
    omega arith

-- Records that were to be written until the sections stopped are within the size of what was read.
left_takes : (s t : RigState) (n size : ℕ) → n ≤ 2 * size → LeavesDraft s t n
    → TakesAtMost size s t
left_takes s t n size few h =
    let p = payload_low s t h.goes in
    let r = ceiling_rises n (2 * size) (payload_in s) p few in
    record {
      moves = omega (arith, h.moves, r, ceiling_twice size (payload_in s) p);
      used = omega (arith, h.used, r);
      most = omega (arith, h.most, r);
    }

within_enough : (s t : RigState) (n size : ℕ) → n ≤ 2 * size → Goes [] s t
    → draft_room s n ≤ enough_for s size
within_enough s t n size few g =
    omega (arith, ceiling_rises n (2 * size) (payload_in s) (payload_low s t g) few)

-- what holds of every stop of the sections
left_by : (old new : Source) (s t : RigState) (n : ℕ) (e : AigStop) → LeavesListing n old new s t e
    → LeavesDraft s t n
left_by old new s t n (stop.Fault kind place) h = h
left_by old new s t n stop.Read h = h.0
left_by old new s t n (stop.Em fault) h = h.leaves

stop_read : (old mid new : Source) (s t : RigState) (n : ℕ) (e : AigStop) → old.faults ≤ mid.faults
    → LeavesListing n mid new s t e → OnShelfStop e (Rose old.faults new.faults)
stop_read old mid new s t n (stop.Fault kind place) later h = tt
stop_read old mid new s t n stop.Read later h = omega (arith, later, h.1)
stop_read old mid new s t n (stop.Em fault) later h = tt

stop_cause : (old new : Source) (s t : RigState) (n : ℕ) (e : AigStop)
    → LeavesListing n old new s t e
    → IfEmStop e (Cause s t)
stop_cause old new s t n (stop.Fault kind place) h = tt
stop_cause old new s t n stop.Read h = tt
stop_cause old new s t n (stop.Em fault) h = h.cause

stop_full : (old new : Source) (s t : RigState) (n size : ℕ) (e : AigStop) → n ≤ 2 * size
    → LeavesListing n old new s t e
    → IfEmStop e (λ fault. IfFull fault (λ _. s.blocks < s.used + enough_for s size))
stop_full old new s t n size (stop.Fault kind place) few h = tt
stop_full old new s t n size stop.Read few h = tt
stop_full old new s t n size (stop.Em fault) few h =
    full_by fault (s.blocks < s.used + draft_room s n) (s.blocks < s.used + enough_for s size)
    (λ k. omega (arith, k, within_enough s t n size few h.leaves.goes)) h.full

-- With room enough and no fault, nothing but a fault of the text stops the sections.
never_stops : {A : Type 0} (mid new : Source) (s t : RigState) (n : ℕ) (e : AigStop) (r : Reading A)
    (a : A) (q : ℕ)
    (y : List ℕ) → LeavesListing n mid new s t e → StopsAs e r → r ≡ Reads a q y
    → IsTrue s.device.told → (Rose s.device.faults t.device.faults → ⊥)
    → (Rose mid.faults new.faults → ⊥)
    → s.used + draft_room s n ≤ s.blocks → ⊥
never_stops mid new s t n (stop.Fault kind place) r a q y h k is told calm quiet room = cc
never_stops mid new s t n stop.Read r a q y h k is told calm quiet room = quiet h.1
never_stops mid new s t n (stop.Em fault) r a q y h k is told calm quiet room = never_gives_up h
    told calm room

module _ (form : Form) {tells : Bool} {old mid new : Source} {h : Header} {s t : RigState}
    (header : ReadsItem tells (header_line form) old mid (Ok h)) where
  sections_stop : (e : AigStop) → ReadsListing tells form h mid new s t (Err e)
      → ReadsCircuit form tells old new s t (Err e)
  sections_stop e r =
      let k = r.by in
      let l = left_by mid new s t k.written e k.stops in
      let few : IsTrue tells → (given : ℕ) → new.feed.place ≤ given
      → k.written ≤ 2 * size_given form old given =
      λ z given far. omega (arith, k.counted z given far, size_after form header z given) in
      let fails : IsTrue tells → StopsAs e (after_magic form old.feed.place (left old)) =
      λ z. stops_as e _ _ (after_header form header z)
      (unlisted e (sections form h mid.feed.place (left mid))
      (stops_as e _ _ (sym (listed_is form h mid.feed.place (left mid))) (k.reads z))) in
      record {
        goes = l.goes;
        parts = tt;
        gives = fails;
        end = λ z. tt;
        feed = advances_then header.advances r.advances;
        read = stop_read old mid new s t k.written e header.advances.later k.stops;
        cause = stop_cause mid new s t k.written e k.stops;
        takes = λ z given far. left_takes s t k.written (size_given form old given) (few z given far) l;
        full = λ z given far. stop_full mid new s t k.written (size_given form old given) e
            (few z given far) k.stops;
        complete = λ z told calm quiet c q is room.
            let size = size_within form header z c q new.feed.place is in
            let n = few z new.feed.place (omega arith) in
            absurd (never_stops mid new s t k.written e _ c q [] k.stops (fails z) is told calm
            (λ rose. quiet (omega (arith, rose, header.advances.later)))
            (omega (
              arith,
              room,
              within_enough s t k.written (circuit_size c.header) (omega arith)
                  l.goes,
            )));
        owes = l.owes;
      }

  pub sections_unread : (e : AigStop) (result : Result Parts AigStop) → IsErrAnd result (λ k. k ≡ e)
      → ReadsListing tells form h mid new s t (Err e) → ReadsCircuit form tells old new s t result
  sections_unread e result is r = of_error (ReadsCircuit form tells old new s t) result e is
      (sections_stop e r)

-- The circuit whose records were listed.
record ListedCircuit (r : Reading Circuit) (lists : Listing) (q : ℕ) (y : List ℕ) : Type 0 where
  circuit : Circuit
  reads : r ≡ Reads circuit q y
  is : listing_of circuit ≡ lists

listed_circuit : (r : Reading Circuit) (lists : Listing) (q : ℕ) (y : List ℕ)
    → and_then r (λ c. Reads (listing_of c)) ≡ Reads lists q y → ListedCircuit r lists q y
listed_circuit (Reads c p x) lists q y e = record { circuit = c; reads = cc; is = cc }
listed_circuit (Fails kind place) lists q y e = cc

-- a packed chain of records has as many records as these
packed_of : {t : RigState} {c : Chain} {xs : List Record} {n : ℕ} → length xs ≡ n
    → IsPackedChain t c xs
    → IsPackedOf t n c
packed_of {t} {c} {xs} {n} e k = record {
  is = k.is;
  packed = k.packed;
  count_is = k.count_is ∙ e;
  blocks_is = k.blocks_is ∙ ap (λ j. ceiling j (payload_in t)) e;
}

-- Records that were written are within the size that counts them.
written_takes : (s t : RigState) (f g k r : Chain) (a : Listing) (size : ℕ)
    → record_count a ≤ 2 * size → WritesFour s t f g k r a.defs a.gates a.uses a.resets
    → TakesAtMost size s t
written_takes s t f g k r a size few w =
    let p = payload_low s t w.goes in
    let kept = payload_kept [] s t w.goes.touches in
    let sum = room_by (length a.defs) (length a.gates) (length a.uses) (length a.resets) (2 * size)
    (payload_in s) p
    (w.defs.blocks_is ∙ ap (λ j. ceiling (length a.defs) j) kept)
    (w.gates.blocks_is ∙ ap (λ j. ceiling (length a.gates) j) kept)
    (w.uses.blocks_is ∙ ap (λ j. ceiling (length a.uses) j) kept)
    (w.resets.blocks_is ∙ ap (λ j. ceiling (length a.resets) j) kept) few in
    record {
      moves = omega (arith, w.moves, sum, ceiling_twice size (payload_in s) p);
      used = omega (arith, w.used, sum);
      most = omega (arith, w.most, w.used, sum);
    }

module _ (form : Form) {tells : Bool} {old mid new : Source} {h : Header} {s t : RigState}
    (header : ReadsItem tells (header_line form) old mid (Ok h)) (is : IsHeader h) where
  -- All was read.
  pub circuit_read : (f g k r : Chain) (up on_up : Bool) → Advances tells mid new
      → WritesListing tells form h mid new s t f g k r → ClimbIfSaid up t f
      → StraightIfSaid on_up t f g
      → ReadsCircuit form tells old new s t
      (Ok (record { header = h; defs = f; gates = g; uses = k; resets = r; climbs = up; straight = on_up }))
  circuit_read f g k r up on_up on w climb straight =
      let a = w.lists in
      let at : IsTrue tells → ListedCircuit (sections form h mid.feed.place (left mid)) a
      new.feed.place (left new) =
      λ z. listed_circuit (sections form h mid.feed.place (left mid)) a new.feed.place (left new)
      (sym (listed_is form h mid.feed.place (left mid)) ∙ w.reads z) in
      let all : IsTrue tells → (given : ℕ) → new.feed.place ≤ given
      → record_count a ≤ 2 * size_given form old given =
      λ z given far. omega (arith, size_after form header z given, w.counted z given far) in
      record {
        goes = w.writes.goes;
        parts = record {
          header = is;
          defs = packed_of (omega (arith, w.like.counts.defs)) w.writes.defs;
          gates = packed_of (omega (arith, w.like.counts.gates)) w.writes.gates;
          uses = packed_of (omega (arith, w.like.counts.uses)) w.writes.uses;
          resets = packed_of (omega (arith, w.like.counts.resets)) w.writes.resets;
          blocks = w.writes.session;
          used = w.writes.used;
          stands = λ told.
              let c = listed_rows h a is w.like.rows in
              record {
                circuit = c.circuit;
                are = record {
                  header = c.header;
                  is = c.is;
                  defs = w.writes.defs.items told ∙ ap (λ (l : Listing). l.defs) (sym c.lists);
                  gates = w.writes.gates.items told ∙ ap (λ (l : Listing). l.gates) (sym c.lists);
                  uses = w.writes.uses.items told ∙ ap (λ (l : Listing). l.uses) (sym c.lists);
                  resets = w.writes.resets.items told
                      ∙ ap (λ (l : Listing). l.resets) (sym c.lists);
                };
              };
          climb = climb;
          straight = straight;
        };
        gives = λ z.
            let c = at z in
            record {
              circuit = c.circuit;
              reads = after_header form header z ∙ c.reads;
              header = sym (sections_read form h mid.feed.place (left mid) c.circuit new.feed.place
                  (left new) c.reads).header;
              defs = λ told. w.writes.defs.items told ∙ ap (λ (l : Listing). l.defs) (sym c.is);
              gates = λ told. w.writes.gates.items told ∙ ap (λ (l : Listing). l.gates) (sym c.is);
              uses = λ told. w.writes.uses.items told ∙ ap (λ (l : Listing). l.uses) (sym c.is);
              resets = λ told. w.writes.resets.items told
                  ∙ ap (λ (l : Listing). l.resets) (sym c.is);
              counted = λ given far.
                  let whole = sections_all form given h mid.feed.place (left mid) c.circuit
                  new.feed.place (left new) (sections_read form h mid.feed.place (left mid) c.circuit
                  new.feed.place (left new) c.reads) far in
                  omega (
                    arith,
                    given_after form header z given,
                    whole,
                    w.like.counts.defs,
                    w.like.counts.gates,
                    w.like.counts.uses,
                    w.writes.defs.count_is,
                    w.writes.gates.count_is,
                    w.writes.uses.count_is,
                  );
            };
        end = λ z. let c = at z in sections_end form h mid.feed.place (left mid) c.circuit
            new.feed.place (left new) c.reads;
        feed = advances_then header.advances on;
        read = tt;
        cause = tt;
        takes = λ z given far. written_takes s t f g k r a (size_given form old given)
            (all z given far) w.writes;
        full = λ z given far. tt;
        complete = λ z told calm quiet c q e room. refl;
        owes = w.writes.owes;
      }
