-- Sections that were read, from before their draft was made until it is gone.
use Rattle.std.proofs.Common.{◌≡◌, ◌≤◌, Bool, true, ◌&&◌, ℕ, List, [], ap, ap₂, sym, subst, ◌∙◌, arith, Result, Ok, Err}
use Rattle.std.specs.Prelude.{IsErrAnd}
use Rattle.em_record.specs.declared.record.Record.{Record}
use Rattle.em_space.specs.Rig.{RigState, Sound, DeviceCause}
use Rattle.em_space.specs.declared.fault.EmFault.{EmFault}
use Rattle.em_chain.specs.Effects.{OnlyMoves, Unmoved}
use Rattle.em_chain.specs.Chain.{chain_items, payload_in}
use Rattle.em_chain.specs.declared.chain.Chain.{Chain}
use Rattle.em_chain.proofs.Sessions.{ceiling_rises}
use Rattle.aig_defs.specs.declared.circuit.Header.{Header}
use Rattle.aig_defs.specs.declared.form.Form.{Form}
use Rattle.aig_defs.specs.Sorted.{Climbs}
use Rattle.aig_defs.specs.Straight.{AreStraight}
use Rattle.aig_text.specs.Ascii.{ClimbIfSaid, StraightIfSaid}
use Rattle.aig_text.specs.Climbing.{at_foot, after_records, all_above_operands}
use Rattle.aig_text.specs.Draft.{BeginsDraft, Drafted, FinishesDraft, GivesFrames, LendsFrames, LeavesDraft, draft_account, draft_blocks}
use Rattle.aig_text.specs.Listing.{record_count}
use Rattle.aig_text.specs.Moment.{Moment, AddsSome, ReadsInto, StopsFilling}
use Rattle.aig_text.specs.Sections.{HasSections, listed, listed_size, order}
use Rattle.aig_text.specs.Source.{Source}
use Rattle.aig_text.specs.Listed.{ReadsListing, LeavesListing}
use Rattle.aig_text.specs.declared.climb.Climb.{Climb}
use Rattle.aig_text.specs.declared.draft.Draft.{Draft}
use Rattle.aig_text.specs.declared.stop.AigStop.{AigStop}
use Rattle.aig_text.specs.declared.stop.AigStop.TheVariants as stop
use Rattle.aig_text.proofs.Climbed.{are_straight, has_climbed}
use Rattle.aig_text.proofs.Lines.{of_error}
use Rattle.aig_text.proofs.Whole.{drafted_left, drafted_refused, drafted_stopped, drafted_whole}

-- All sections, read into a new draft.
abbrev ReadsAll : Bool → Form → Header → Source → Source → RigState → RigState → Draft → Draft
    → Result (Unit {0}) AigStop → Type 0
ReadsAll tells form h old new a b d e result = ReadsInto tells (listed form order h)
    (listed_size form order h)
    (HasSections order h) (record { text = old; rig = a; draft = d })
    (record { text = new; rig = b; draft = e }) result

-- The rig after a stop of the sections is sound.
pub filling_sound : (n : ℕ) (old new : Moment) (e : AigStop) → StopsFilling n old new e
    → Sound new.rig
filling_sound n old new (stop.Fault kind place) h = h.adds.drafted.runs.session.sound
filling_sound n old new stop.Read h = h.0.adds.drafted.runs.session.sound
filling_sound n old new (stop.Em fault) h = h.stops.goes.sound

-- More records may have been to be written.
leaves_wider : {s t : RigState} {m : ℕ} (n : ℕ) → Sound s → m ≤ n → LeavesDraft s t m
    → LeavesDraft s t n
leaves_wider {s} {t} {m} n sound few h =
    let low = sound.shape.block_low in
    let more = ceiling_rises m n (payload_in s) (omega arith) few in
    record {
      goes = h.goes;
      used = omega (arith, h.used, more);
      most = omega (arith, h.most, more);
      moves = omega (arith, h.moves, more);
      owes = h.owes;
    }

-- What was written until the sections stopped.
module _ (old new : Source) {s a b t : RigState} {d : Draft} (e : Draft) (sound : Sound s)
    (lends : LendsFrames 4 s a) (unmoved : Unmoved s a) (begins : BeginsDraft a d) where
  some_left : (n : ℕ) → AddsSome n (record { text = old; rig = a; draft = d })
      (record { text = new; rig = b; draft = e })
      → GivesFrames 4 [] b t → Unmoved b t → LeavesDraft s t n
  some_left n k g v =
      leaves_wider n sound k.few (drafted_left lends unmoved begins k.adds.drafted g v)

  stopped_by : (n : ℕ) (k : AigStop)
      → StopsFilling n (record { text = old; rig = a; draft = d })
      (record { text = new; rig = b; draft = e }) k
      → GivesFrames 4 [] b t → Unmoved b t → LeavesListing n old new s t k
  stopped_by n (stop.Fault kind place) k g v = some_left n k g v
  stopped_by n stop.Read k g v = (some_left n k.0 g v, k.1)
  stopped_by n (stop.Em fault) k g v = drafted_stopped lends unmoved begins k g v

-- A draft was made, its records were written, and it was finished: the list of definitions climbs, if it told so.
pub draft_climbs : {s a b t : RigState} {d e : Draft} {f g h m : Chain} {xs ys zs ws : List Record}
    (up : Bool) → LendsFrames 4 s a → Unmoved s a → BeginsDraft a d → Drafted a b d e xs ys zs ws
    → GivesFrames 4 (draft_blocks b e) b t → FinishesDraft b t e f g h m
    → OnlyMoves (draft_account e).unstored b t → up ≡ e.climb.climbs → ClimbIfSaid up t f
draft_climbs {xs = xs} up lends unmoved begins k j i o same = λ told said.
    let w = drafted_whole lends unmoved begins k j i o in
    let foot = k.climb_is ∙ ap (λ (z : Climb). after_records z xs) begins.climb_is in
    let end : (after_records at_foot xs).climbs ≡ true =
    ap (λ (z : Climb). z.climbs) (sym foot) ∙ sym same ∙ said in
    subst Climbs (sym (w.defs.items told)) (has_climbed at_foot xs end).all

-- The circuit is straight likewise.
pub draft_straight : {s a b t : RigState} {d e : Draft} {f g h m : Chain} {xs ys zs ws : List Record}
    (up : Bool) → LendsFrames 4 s a → Unmoved s a → BeginsDraft a d → Drafted a b d e xs ys zs ws
    → GivesFrames 4 (draft_blocks b e) b t → FinishesDraft b t e f g h m
    → OnlyMoves (draft_account e).unstored b t → up ≡ (e.climb.counts && e.rises)
    → StraightIfSaid up t f g
draft_straight {t = t} {g = g} {xs = xs} {ys = ys} up lends unmoved begins k j i o same = λ told said.
    let w = drafted_whole lends unmoved begins k j i o in
    let foot = k.climb_is ∙ ap (λ (z : Climb). after_records z xs) begins.climb_is in
    let up_is = k.rises_is ∙ ap (λ (z : Bool). all_above_operands z ys) begins.rises_is in
    let end : ((after_records at_foot xs).counts && all_above_operands true ys) ≡ true =
    sym (ap₂ (λ (z : Climb) (y : Bool). z.counts && y) foot up_is) ∙ sym same ∙ said in
    subst (λ (rs : List Record). AreStraight rs (chain_items t g)) (sym (w.defs.items told))
    (subst (λ (rs : List Record). AreStraight xs rs) (sym (w.gates.items told))
    (are_straight xs ys end))

module _ {tells : Bool} {form : Form} {h : Header} {old new : Source} {s a b t : RigState} {d e : Draft}
    (lends : LendsFrames 4 s a) (unmoved : Unmoved s a) (begins : BeginsDraft a d) where
  -- They were read, and the draft was finished,
  pub sections_written : (c : Chain × Chain × Chain × Chain) (u : Unit {0})
      → ReadsAll tells form h old new a b d e (Ok u)
      → GivesFrames 4 (draft_blocks b e) b t → FinishesDraft b t e c.0 c.1 c.2 c.3
      → OnlyMoves (draft_account e).unstored b t → ReadsListing tells form h old new s t (Ok c)
  sections_written c u r g f o = record {
    advances = r.advances;
    by = record {
      lists = r.fills.lists;
      like = r.fills.like;
      writes = drafted_whole lends unmoved begins r.fills.adds.drafted g f o;
      reads = r.fills.reads;
      counted = r.fills.counted;
    };
  }

  -- or which gave up,
  pub sections_refused : (fault : EmFault) (u : Unit {0})
      (result : Result (Chain × Chain × Chain × Chain) AigStop)
      → IsErrAnd result (λ k. k ≡ stop.Em fault) → ReadsAll tells form h old new a b d e (Ok u)
      → GivesFrames 4 (draft_blocks b e) b t → OnlyMoves (draft_account e).unstored b t
      → DeviceCause b t fault → ReadsListing tells form h old new s t result
  sections_refused fault u result is r g o c =
      of_error (ReadsListing tells form h old new s t) result (stop.Em fault) is (record {
        advances = r.advances;
        by = record {
          written = record_count r.fills.lists;
          stops = drafted_refused lends unmoved begins r.fills.adds.drafted g o c;
          reads = λ z. tt;
          counted = λ z given far. omega (arith, r.fills.counted z given far);
        };
      })

  -- or they stopped, and it was abandoned.
  pub sections_stopped : (k : AigStop) → Sound s → ReadsAll tells form h old new a b d e (Err k)
      → GivesFrames 4 [] b t → Unmoved b t
      → ReadsListing tells form h old new s t (Err k)
  sections_stopped k sound r g v = record {
    advances = r.advances;
    by = record {
      written = r.fills.most;
      stops = stopped_by old new e sound lends unmoved begins r.fills.most k r.fills.stops g v;
      reads = r.fills.reads;
      counted = r.fills.counted;
    };
  }
