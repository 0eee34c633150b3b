use Rattle.std.proofs.Common.{◌≡◌, drop}
use Rattle.em_io.specs.MemShelf.{text_under}
use Rattle.em_io.proofs.mem_texts.find.Given as goal

abbrev pub invariant-loop-at : goal.invariant-loop-at
invariant-loop-at l = text_under l.texts l.name ≡ text_under (drop l.at l.texts) l.name
