-- Bytes and lines of the tail that were passed over.
use Rattle.std.specs.Prelude.{◌≡◌, ◌<◌, Bool, ℕ, length, IsTrue}
use Rattle.aig_defs.specs.declared.circuit.Header.{Header}
use Rattle.aig_defs.specs.Items.{Item}
use Rattle.aig_defs.specs.Tail.{tail, tail_lines}
use Rattle.aig_text.specs.Reads.{Advances}
use Rattle.aig_text.specs.Source.{Source, left}

-- Bytes of an item were passed over. What is left of it is the same item, read here.
pub record PassesSome {A : Type 0} (tells : Bool) (item : Item A) (old now : Source)
    : Type 0 where
  pub advances : Advances tells old now
  pub here : IsTrue tells
      → item old.feed.place (left old) ≡ item now.feed.place (left now)

-- Lines of the tail were passed over. At most n more are to be read here.
pub record PassesLines (tells : Bool) (h : Header) (old now : Source) : Type 0 where
  pub advances : Advances tells old now
  pub most : ℕ
  pub enough : IsTrue tells → length (left now) < most
  pub here : IsTrue tells
      → tail h old.feed.place (left old) ≡ tail_lines h most now.feed.place (left now)
