use Rattle.std.proofs.Common.{sym, ◌∙◌}
use Rattle.em_bulk.proofs.HeldNext.{keeps_first, keeps_next}
use Rattle.em_bulk.proofs.keeping.Leaves.keep.Goals as goal

pub returns-in-None-clause-keeps : goal.returns-in-None-clause-keeps
returns-in-None-clause-keeps g c =
    keeps_first c.args.low c.requires.sound c.requires.can _ c.replace.ensures.after
    (sym c.replace.ensures.value ∙ c.in-None.is)

pub returns-in-Some-clause-keeps : goal.returns-in-Some-clause-keeps
returns-in-Some-clause-keeps g c =
    keeps_next c.args.low c.requires.sound c.requires.can (sym c.replace.ensures.value ∙ c.in-Some.is) _ _ _
    c.list_leaf.result c.replace.ensures.after c.list_leaf.ensures.lists
