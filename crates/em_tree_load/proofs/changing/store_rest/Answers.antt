use Rattle.em_tree_load.proofs.Alterations.{rest_stored}
use Rattle.em_tree_load.proofs.changing.store_rest.Goals as goal

pub returns-clause-stores : goal.returns-clause-stores
returns-clause-stores g c =
    let e = c.store.ensures in
    rest_stored c.args.at c.args.rest.now _ c.store.result c.requires.sound c.requires.in_use
    c.requires.node c.requires.rest c.put_buffer.ensures.is e.goes e.moved e.stored e.in_use e.cause
