use Rattle.em_balance.proofs.Grown.{grows_into}
use Rattle.em_balance.proofs.growing.grow_into.Goals as goal

pub returns-clause-grows : goal.returns-clause-grows
returns-clause-grows g c =
    grows_into _ c.store_new.result c.requires.sound c.requires.can c.in_ok-load_root.ensures.loads
    c.put_root.ensures.is c.store_new.ensures
