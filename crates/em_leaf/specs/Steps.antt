-- What one step of a pass does.
use Rattle.std.specs.Prelude.{◌≡◌, ℕ, ◌+◌, ◌<◌, ◌≤◌, true, false, List, [], length, IsTrue, Option, Result, Ok, Err}
use Rattle.em_record.specs.declared.record.Record.{Record}
use Rattle.em_space.specs.Ledger.{Runs, Stops}
use Rattle.em_space.specs.Rig.{RigState}
use Rattle.em_space.specs.declared.fault.EmFault.{EmFault}
use Rattle.em_chain.specs.Chain.{chain_blocks}
use Rattle.em_chain.specs.Reader.{reader_items, rest_of}
use Rattle.em_chain.specs.Session.{Took, over_account, taking_account}
use Rattle.em_chain.specs.declared.reader.Reader.{Reader}
use Rattle.em_settle.specs.declared.step.Step.{Step}
use Rattle.em_leaf.specs.Front.{IsFront, MovesOn, finding_answers, finding_items, in_hand, items_left, most_left, some_count, pass_steps}
use Rattle.em_leaf.specs.declared.front.Finding.{Finding}
use Rattle.em_leaf.specs.declared.front.Finding.TheVariants.{End, Item, Answer}
use Rattle.em_leaf.specs.declared.front.Front.{Front}

-- These records were read, by a reader that takes its chain or leaves it.
pub record Consumes (s t : RigState) (r q : Reader) (xs : List Record) : Type 0 where
  pub took : Took s t r q xs
  pub taking : r.taking ≡ true → Runs r.blocks (chain_blocks s (rest_of r))
      (chain_blocks t (rest_of q))
      (taking_account r) (taking_account q) s t
  pub over : r.taking ≡ false → Runs 0 [] [] (over_account r) (over_account q) s t

-- A read gave up, of such a reader.
pub record StopsConsuming (s t : RigState) (r : Reader) (fault : EmFault) : Type 0 where
  pub taking : r.taking ≡ true → Stops r.blocks 0 0 (chain_blocks s (rest_of r))
      (taking_account r) s t
      fault
  pub over : r.taking ≡ false → Stops 0 0 0 [] (over_account r) s t fault

-- A record is in hand, or none is left. All are left that were.
pub record HasFirst (s t : RigState) (r q : Reader) (f g : Front) : Type 0 where
  pub xs : List Record
  pub read : Consumes s t r q xs
  pub items : IsTrue s.device.told → items_left g (reader_items t q) ≡ items_left f
      (reader_items s r)
  pub hand : g.hand ≡ f.hand
  pub settled : g.settled ≡ f.settled
  pub count : some_count g.ahead + q.count ≡ some_count f.ahead + r.count
  pub none : in_hand g ≡ 0 → q.count ≡ 0

-- the same by the result
abbrev pub ReadsFront : {T : Type 0} → RigState → RigState → Reader → Reader → Front → Front
    → Result T EmFault → Type 0
ReadsFront s t r q f g (Ok x) = HasFirst s t r q f g
ReadsFront s t r q f g (Err fault) = StopsConsuming s t r fault

-- At the end nothing is left; else fewer steps are, and after an answer fewer operations.
abbrev pub NearsEnd : Front → Front → ℕ → ℕ → ℕ → Finding → Type 0
NearsEnd f g left more n End = most_left g more n ≡ 0
NearsEnd f g left more n (Item x) = pass_steps g more n < pass_steps f left n
NearsEnd f g left more n (Answer o) = (pass_steps g more n < pass_steps f left n)
    × (f.settled < g.settled)

-- What a step did: the record that it found results, and the answer that it found is given.
pub record Stepped (key : Record → Record) (step : Option Record → Record → Step)
    (ops : List Record)
    (s t : RigState) (r q : Reader) (f g : Front) (finding : Finding) : Type 0 where
  pub xs : List Record
  pub read : Consumes s t r q xs
  pub moves_on : IsTrue s.device.told → IsFront key ops f (reader_items s r)
      → MovesOn key step ops f g (reader_items s r) (reader_items t q) (finding_items finding)
      (finding_answers finding)
  pub count : most_left g q.count (length ops) + length (finding_items finding)
      ≤ most_left f r.count (length ops)
  pub few : f.settled + length (finding_answers finding) ≤ g.settled
  pub within : g.settled ≤ length ops
  pub nears : NearsEnd f g r.count q.count (length ops) finding

-- the same by the result
abbrev pub TakesStep : (Record → Record) → (Option Record → Record → Step) → List Record → RigState
    → RigState → Reader → Reader → Front → Front → Result Finding EmFault → Type 0
TakesStep key step ops s t r q f g (Ok finding) = Stepped key step ops s t r q f g finding
TakesStep key step ops s t r q f g (Err fault) = StopsConsuming s t r fault
