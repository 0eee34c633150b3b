-- The bits and the end of a line of the stimulus.
use Rattle.std.specs.Prelude.{ℕ, Bool, List, ◌++◌, Result}
use Rattle.em_io.specs.Feed.{Fed}
use Rattle.em_io.specs.Shelf.{Stand}
use Rattle.aig_defs.specs.Items.{Item, Reads}
use Rattle.aig_defs.specs.Stimulus.{stimulus_end}
use Rattle.aig_text.specs.Reads.{ReadsItem}
use Rattle.aig_text.specs.Source.{Source}
use Rattle.aig_text.specs.declared.stop.AigStop.{AigStop}

-- bits, with those that are read after them
abbrev pub after_bits : List Bool → List Bool → Item (List Bool)
after_bits bits more = Reads (bits ++ more)

-- the text that a feed of this state reads from a shelf of this one
abbrev pub text_of : Fed → Stand → ℕ → Source
text_of feed stand faults = record { feed = feed; stand = stand; faults = faults }

-- The end of a line was read from the bytes ahead, whatever stands on the shelf.
abbrev pub ReadsEnd : Fed → Fed → Result (Unit {0}) AigStop → Type 0
ReadsEnd old new result = (tells : Bool) (stand : Stand) (faults : ℕ) →
    ReadsItem tells stimulus_end (text_of old stand faults) (text_of new stand faults) result
