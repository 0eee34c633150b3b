-- A shelf in memory.
use Rattle.std.specs.Prelude.{◌≡◌, ℕ, List, [], ◌∷◌, Option, Some, None, bytes_eq, if◌then◌else◌, Result}
use Rattle.em_record.specs.Calls.{CallCounts, CountsCall}
use Rattle.em_io.specs.Shelf.{SlotState, Stand, by_slot}

-- a text and its name
pub record NamedText : Type 0 where
  pub name : List ℕ
  pub bytes : List ℕ

-- the texts, the two slots, the most bytes of one read, and the calls
pub record MemShelfState : Type 0 where
  pub texts : List NamedText
  pub first : SlotState
  pub second : SlotState
  pub piece : ℕ
  pub counts : CallCounts

-- the text under a name: the first one that has it
abbrev pub text_under : List NamedText → List ℕ → Option (List ℕ)
text_under [] name = None
text_under (text ∷ texts) name =
    if bytes_eq text.name name then Some text.bytes else text_under texts name

-- what stands on it: both slots have the same texts
abbrev pub stand_of : MemShelfState → Stand
stand_of state = record {
  text = λ _ name. text_under state.texts name;
  slot = by_slot state.first state.second;
}

-- the texts under all names, but that one under that name
abbrev pub with_text : (List ℕ → Option (List ℕ)) → List ℕ → List ℕ → List ℕ → Option (List ℕ)
with_text text_of name bytes other = if bytes_eq name other then Some bytes else text_of other

-- One call was made. It failed where its number is to fail or the other cause holds, and nowhere
-- else, and it needed no memory.
pub record IsShelfCall {T E : Type 0} (Other : Type 0) (old new : MemShelfState)
    (result : Result T E) : Type 0 where
  pub counts : CountsCall Other old.counts new.counts result
  pub refused : new.counts.refused ≡ old.counts.refused
  pub piece : new.piece ≡ old.piece
