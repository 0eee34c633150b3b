use Rattle.std.proofs.Common.{sym, ◌∙◌}
use Rattle.em_bulk.proofs.AllListed.{can_two, ends_alone, ends_two}
use Rattle.em_bulk.proofs.keeping.Leaves.end.Goals as goal

pub returns-in-None-clause-ends : goal.returns-in-None-clause-ends
returns-in-None-clause-ends g c =
    ends_alone c.requires.sound c.requires.can (sym c.replace.ensures.value ∙ c.in-None.is) _ _ _ c.list_leaf.result
    c.list_leaf.ensures.lists

pub list_two-requires-clause-can : goal.list_two-requires-clause-can
list_two-requires-clause-can g c =
    can_two c.requires.sound c.requires.can (sym c.replace.ensures.value ∙ c.in-Some.is)

pub returns-in-Some-clause-ends : goal.returns-in-Some-clause-ends
returns-in-Some-clause-ends g c =
    ends_two c.requires.sound c.requires.can (sym c.replace.ensures.value ∙ c.in-Some.is) _ _ _ c.list_two.result
    c.list_two.ensures.lists
