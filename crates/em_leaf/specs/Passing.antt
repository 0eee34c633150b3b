-- What a pass does from one record that results to the next: records are read and answers are
-- written.
use Rattle.std.specs.Prelude.{◌≡◌, ℕ, ◌+◌, ◌-◌, ◌*◌, ◌≤◌, min, List, length, IsTrue, Option, None, option_to_list, Result, Ok, Err}
use Rattle.em_record.specs.declared.record.Record.{Record}
use Rattle.em_space.specs.Ledger.{Runs, Stops}
use Rattle.em_space.specs.Rig.{RigState}
use Rattle.em_space.specs.declared.fault.EmFault.{EmFault}
use Rattle.em_chain.specs.Chain.{payload_in}
use Rattle.em_chain.specs.Counts.{ceiling}
use Rattle.em_chain.specs.Parts.{IsPair}
use Rattle.em_chain.specs.Reader.{reader_items}
use Rattle.em_chain.specs.Session.{Pairs, Wrote, one_more, pair_account, pair_blocks, writer_account}
use Rattle.em_chain.specs.Writer.{filled, writer_blocks}
use Rattle.em_chain.specs.declared.reader.Reader.{Reader}
use Rattle.em_chain.specs.declared.writer.Writer.{Writer}
use Rattle.em_settle.specs.declared.step.Step.{Step}
use Rattle.em_leaf.specs.Front.{IsFront, MovesOn, most_left}
use Rattle.em_leaf.specs.Leaf.{CanGrowBy}
use Rattle.em_leaf.specs.declared.front.Front.{Front}

-- A reader that takes its chain and a writer that has places for the answers of n operations, of
-- which some were settled.
pub record CanPass (s : RigState) (r : Reader) (w : Writer) (f : Front) (n : ℕ) : Type 0 where
  pub pair : IsPair s r w
  pub within : f.settled ≤ n
  pub grow : CanGrowBy (n - f.settled) w

-- the blocks of the answers after n more, at most
abbrev pub answers_most : RigState → Writer → ℕ → ℕ
answers_most s w n = ceiling (filled s w + n) (payload_in s)

-- What writing an answer, if there is one, does to a list, by the result.
abbrev pub GivesAnswer : {T : Type 0} → RigState → RigState → Writer → Writer → Option Record
    → Result T EmFault → Type 0
GivesAnswer s t w v o (Ok x) =
    Runs (one_more s w) (writer_blocks s w) (writer_blocks t v) (writer_account w)
    (writer_account v) s t
    × Wrote s t w v (option_to_list o)
GivesAnswer s t w v o (Err fault) =
    Stops (one_more s w) (2 * one_more s w) (min w.blocks 1) (writer_blocks s w)
    (writer_account w) s t
    fault

-- Some records were read and some answers written, and these items result, which are in no list
-- yet.
pub record Passing (peak : ℕ) (key : Record → Record) (step : Option Record → Record → Step)
    (ops : List Record) (s t : RigState) (r q : Reader) (w v : Writer) (f g : Front)
    (items : List Record) : Type 0 where
  pub xs : List Record
  pub ys : List Record
  pub pairs : Pairs peak s t r q w v xs ys
  pub moves_on : IsTrue s.device.told → IsFront key ops f (reader_items s r)
      → MovesOn key step ops f g (reader_items s r) (reader_items t q) items ys
  pub count : most_left g q.count (length ops) + length items ≤ most_left f r.count (length ops)
  pub few : f.settled + length ys ≤ g.settled
  pub within : g.settled ≤ length ops

-- The next record that results was found, or none is left.
abbrev pub FindsNext : (Record → Record) → (Option Record → Record → Step) → List Record → RigState
    → RigState → Reader → Reader → Writer → Writer → Front → Front → Result (Option Record) EmFault
    → Type 0
FindsNext key step ops s t r q w v f g (Ok o) =
    Passing (answers_most s w (length ops - f.settled) + r.blocks) key step ops s t r q w v f g
    (option_to_list o) × (o ≡ None → most_left g q.count (length ops) ≡ 0)
FindsNext key step ops s t r q w v f g (Err fault) =
    Stops (answers_most s w (length ops - f.settled) + r.blocks)
    (2 * answers_most s w (length ops - f.settled)) 1 (pair_blocks s r w)
    (pair_account r w) s t fault
