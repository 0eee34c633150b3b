-- The records in a tree of a bag.
use Rattle.std.specs.Prelude.{List}
use Rattle.em_record.specs.declared.record.Record.{Record}
use Rattle.em_settle.specs.Bag.{bag_key_of, bag_step_of}
use Rattle.em_settle.specs.Lists.{list_with_ops}
use Rattle.em_tree_model.specs.Tree.{Tree, stored_in, waiting_in}

-- those that are stored, with those that wait
abbrev pub tree_items : Tree → List Record
tree_items t = list_with_ops bag_key_of bag_step_of (stored_in t) (waiting_in t)
