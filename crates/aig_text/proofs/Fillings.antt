-- Items that are read into the four lists, one after another.
use Rattle.std.proofs.Common.{◌≡◌, ◌+◌, ◌≤◌, Bool, true, List, ℕ, length, refl, sym, ap, ◌∙◌, subst, arith, append_assoc}
use Rattle.std.proofs.lemmas.List.{append-nil, length-append}
use Rattle.em_record.specs.declared.record.Record.{Record}
use Rattle.em_space.specs.Rig.{RigState}
use Rattle.em_chain.specs.Writer.{CanGrow}
use Rattle.aig_defs.specs.Items.{Reading, Reads, Fails, Item, and_then}
use Rattle.aig_text.specs.Draft.{Drafted, IsDraft}
use Rattle.aig_text.specs.Listing.{Listing, no_records, appended, record_count}
use Rattle.aig_text.specs.Moment.{Moment, AddsListing, AddsSome, CanFill, Fills, FailsFilling, FillsSome, StopsFilling, onto, place_in, read_at}
use Rattle.aig_text.specs.Reads.{Advances, StopsAs}
use Rattle.aig_text.specs.Source.{Source, CanRead, left}
use Rattle.aig_text.specs.declared.draft.Draft.{Draft}
use Rattle.aig_text.specs.declared.stop.AigStop.{AigStop}
use Rattle.aig_text.specs.declared.stop.AigStop.TheVariants as stop
use Rattle.aig_text.proofs.Drafts.{draft_can_grow, drafted_is, drafted_len, drafted_none, drafted_stops, drafted_then}
use Rattle.aig_text.proofs.Steadies.{advances_then, steady_none}

-- Listing after lists.
pub appended_none : (a : Listing) → appended a no_records ≡ a
appended_none a =
    rw (append-nil a.defs, append-nil a.gates, append-nil a.uses, append-nil a.resets) refl

pub appended_assoc : (a b c : Listing) → appended (appended a b) c ≡ appended a (appended b c)
appended_assoc a b c =
    rw (
      append_assoc a.defs b.defs c.defs,
      append_assoc a.gates b.gates c.gates,
      append_assoc a.uses b.uses c.uses,
      append_assoc a.resets b.resets c.resets,
    ) refl

pub count_appended : (a b : Listing) → record_count (appended a b) ≡ record_count a + record_count b
count_appended a b = omega (
  arith,
  length-append a.defs b.defs,
  length-append a.gates b.gates,
  length-append a.uses b.uses,
  length-append a.resets b.resets,
)

-- Nothing was written,
pub adds_none : {n : ℕ} {m : Moment} → CanFill n m → AddsListing m m no_records
adds_none h = record { drafted = drafted_none h.sound h.draft }

-- or some records, and then more of them.
pub adds_then : {a b c : Moment} (x y : Listing) → AddsListing a b x → AddsListing b c y
    → AddsListing a c (appended x y)
adds_then x y h g = record {
  drafted = drafted_then x.defs x.gates x.uses x.resets y.defs y.gates y.uses y.resets h.drafted
      g.drafted;
}

-- More can be read,
can_read : {tells : Bool} {s t : Source} → CanRead s → Advances tells s t → CanRead t
can_read {tells} {s} {t} h a =
    let k = a.steady in
    record {
      ready = subst (λ slot. (t.stand.slot slot).ready ≡ true) (sym k.slot) (k.ready ∙ h.ready);
      place = a.place;
    }

-- and more can be written.
pub can_fill : {tells : Bool} {m n : ℕ} {old now : Moment} {lists : Listing} → CanFill m old
    → Advances tells old.text now.text → AddsListing old now lists
    → record_count lists + n ≤ m → CanFill n now
can_fill h on a few = record {
  text = can_read h.text on;
  sound = a.drafted.runs.session.sound;
  draft = drafted_is h.draft a.drafted;
  free = rw (a.drafted.runs.frames.free) (h.free);
  room = omega (arith, drafted_len a.drafted, h.room);
}

-- One record more can be written to each list.
pub can_add : {m : ℕ} {old : Moment} {s : RigState} {d : Draft} {xs ys zs ws : List Record}
    → CanFill m old → Drafted old.rig s old.draft d xs ys zs ws
    → length xs + length ys + length zs + length ws ≤ m
    → CanGrow d.defs × CanGrow d.gates × CanGrow d.uses × CanGrow d.resets
can_add h a few = draft_can_grow a.runs.session.sound (drafted_is h.draft a)
    (omega (arith, drafted_len a, h.room))

-- What was to be written of an item that stopped, after others were read.
pub adds_some : {a b c : Moment} (n : ℕ) (x : Listing) → AddsListing a b x → AddsSome n b c
    → AddsSome (record_count x + n) a c
adds_some n x h g = record {
  lists = appended x g.lists;
  adds = adds_then x g.lists h g.adds;
  few = omega (arith, count_appended x g.lists, g.few);
}

stops_after : (a b c : Moment) (n : ℕ) (x : Listing) (e : AigStop) → IsDraft a.rig a.draft
    → a.text.faults ≤ b.text.faults → AddsListing a b x → StopsFilling n b c e
    → StopsFilling (record_count x + n) a c e
stops_after a b c n x (stop.Fault kind place) i later h g = adds_some n x h g
stops_after a b c n x stop.Read i later h g = (adds_some n x h g.0, omega (arith, later, g.1))
stops_after a b c n x (stop.Em fault) i later h g = drafted_stops n i h.drafted g

-- an item that fails fails with what would come after it
pub stops_then : {A B : Type 0} (e : AigStop) (r : Reading A) (next : A → Item B) → StopsAs e r
    → StopsAs e (and_then r next)
stops_then (stop.Fault kind place) r next h = ap (λ k. and_then k next) h
stops_then stop.Read r next h = tt
stops_then (stop.Em fault) r next h = tt

pub stops_as : {A : Type 0} (e : AigStop) (r s : Reading A) → s ≡ r → StopsAs e r → StopsAs e s
stops_as e r s same h = subst (StopsAs e) (sym same) h

pub onto_onto : (x y : Listing) (r : Reading Listing)
    → and_then (and_then r (onto y)) (onto x) ≡ and_then r (onto (appended x y))
onto_onto x y (Reads z p t) = ap (λ l. Reads l p t) (sym (appended_assoc x y z))
onto_onto x y (Fails kind place) = refl

pub onto_none : (r : Reading Listing) → r ≡ and_then r (onto no_records)
onto_none (Reads z p t) = refl
onto_none (Fails kind place) = refl

-- Nothing of the item was read yet.
pub fills_none : {tells : Bool} {n : ℕ} {m : Moment} (item : Item Listing) (size : ℕ → ℕ → List ℕ
    → ℕ)
    (IsLike : Listing → Type 0) → CanFill n m → IsLike no_records
    → FillsSome tells item size item size IsLike m m
fills_none {tells} {n} {m} item size IsLike h like = record {
  lists = no_records;
  like = like;
  adds = adds_none h;
  advances = record {
    steady = steady_none tells m.text;
    place = h.text.place;
    later =
        omega arith;
  };
  reads = λ z. onto_none (read_at item m);
  counted = λ z given far. omega arith;
}

-- What is to be read of an item is one item, and then the rest.
pub record Splits (whole : Item Listing) (size : ℕ → ℕ → List ℕ → ℕ)
    (one : Item Listing) (one_size : ℕ → ℕ → List ℕ → ℕ)
    (rest : Item Listing) (rest_size : ℕ → ℕ → List ℕ → ℕ) (m : Moment) : Type 0 where
  pub reads : read_at whole m ≡ and_then (read_at one m) (λ x q y. and_then (rest q y) (onto x))
  pub least : (given : ℕ) → one_size given (place_in m) (left m.text) ≤ size given (place_in m)
      (left m.text)
  pub counted : (x : Listing) (q : ℕ) (y : List ℕ) → read_at one m ≡ Reads x q y
      → (given : ℕ) → q ≤ given → size given (place_in m) (left m.text)
      ≡ one_size given (place_in m) (left m.text) + rest_size given q y

module _ {tells : Bool} {item whole : Item Listing} {size whole_size : ℕ → ℕ → List ℕ → ℕ}
    {IsLike : Listing → Type 0} {old mid : Moment}
    (s : FillsSome tells item size whole whole_size IsLike old mid) where
  -- One item more was read.
  pub fills_next : {one rest : Item Listing} {one_size rest_size : ℕ → ℕ → List ℕ → ℕ}
      {Like : Listing → Type 0} {now : Moment} (More : Listing → Type 0)
      → Splits whole whole_size one one_size rest rest_size mid
      → Advances tells mid.text now.text → (f : Fills tells one one_size Like mid now)
      → More (appended s.lists f.lists)
      → FillsSome tells item size rest rest_size More old now
  fills_next {one} {rest} {one_size} {rest_size} {Like} {now} More k on f like = record {
    lists = appended s.lists f.lists;
    like = like;
    adds = adds_then s.lists f.lists s.adds f.adds;
    advances = advances_then s.advances on;
    reads = λ z. s.reads z ∙ ap (λ r. and_then r (onto s.lists)) (k.reads
        ∙ ap (λ r. and_then r (λ x q y. and_then (rest q y) (onto x))) (f.reads z))
        ∙ onto_onto s.lists f.lists (read_at rest now);
    counted = λ z given far.
        let a = s.counted z given (omega (arith, on.steady.forward)) in
        let b = k.counted f.lists (place_in now) (left now.text) (f.reads z) given far in
        let c = f.counted z given far in
        omega (arith, a, b, c, count_appended s.lists f.lists);
  }

  -- One item more stopped.
  pub fills_stops : {one rest : Item Listing} {one_size rest_size : ℕ → ℕ → List ℕ → ℕ}
      {now : Moment} {e : AigStop} → Splits whole whole_size one one_size rest rest_size mid
      → IsDraft old.rig old.draft → place_in mid ≤ place_in now
      → FailsFilling tells one one_size mid now e → FailsFilling tells item size old now e
  fills_stops {one} {rest} {one_size} {rest_size} {now} {e} k i forward f = record {
    most = record_count s.lists + f.most;
    stops = stops_after old mid now f.most s.lists e i s.advances.later s.adds f.stops;
    reads = λ z. stops_as e _ _ (s.reads z ∙ ap (λ r. and_then r (onto s.lists)) k.reads)
        (stops_then e _ (onto s.lists)
        (stops_then e (read_at one mid) (λ x q y. and_then (rest q y) (onto x)) (f.reads z)));
    counted = λ z given far.
        let a = s.counted z given (omega (arith, forward)) in
        let b = k.least given in
        let c = f.counted z given far in
        omega (arith, a, b, c);
  }

  -- Nothing is left to be read of it.
  pub fills_all : (read_at whole mid ≡ Reads no_records (place_in mid) (left mid.text))
      → ((given : ℕ) → whole_size given (place_in mid) (left mid.text) ≡ 0)
      → Fills tells item size IsLike old mid
  fills_all none zero = record {
    lists = s.lists;
    like = s.like;
    adds = s.adds;
    reads = λ z. s.reads z ∙ ap (λ r. and_then r (onto s.lists)) none
        ∙ ap (λ l. Reads l (place_in mid) (left mid.text)) (appended_none s.lists);
    counted = λ z given far. omega (arith, s.counted z given far, zero given);
  }
