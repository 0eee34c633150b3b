use Rattle.std.proofs.Common.{true, refl}
use Rattle.aig_text.proofs.Beginnings.{begins_four}
use Rattle.aig_text.proofs.draft.Draft.new.Goals as goal

pub returns-clause-begins : goal.returns-clause-begins
returns-clause-begins g c =
    begins_four (record {
      defs = c.new.result;
      gates = c.new-2.result;
      uses = c.new-3.result;
      resets = c.new-4.result;
      climb = c.at_foot.result;
      rises = true;
    })
    c.new.ensures.lends c.new-2.ensures.lends c.new-3.ensures.lends c.new-4.ensures.lends
    c.new.ensures.begins c.new-2.ensures.begins c.new-3.ensures.begins c.new-4.ensures.begins
    c.at_foot.ensures refl
