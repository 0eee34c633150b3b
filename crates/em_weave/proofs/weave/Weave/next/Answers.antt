use Rattle.std.proofs.Common.{[]}
use Rattle.std.specs.Prelude.{option_to_list}
use Rattle.em_weave.proofs.Weavings.{weaves_take, weaves_then}
use Rattle.em_weave.proofs.weave.Weave.next.Goals as goal

pub returns-clause-weaves : goal.returns-clause-weaves
returns-clause-weaves g c =
    let h = c.in_ok-read_ahead.ensures.reads in
    weaves_then [] (option_to_list c.take.result) h.weaves
    (weaves_take c.take.result h.weaves.runs.session.sound h.weaves.wove.is h.left_none
    h.right_none c.take.ensures.takes)
