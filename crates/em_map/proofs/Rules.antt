-- A batch whose rule is that of another has the commands that are said by that rule.
use Rattle.std.specs.Prelude.{◌≡◌, List}
use Rattle.std.proofs.Common.{sym, ap, subst}
use Rattle.em_model.specs.Map.{Combiner}
use Rattle.em_model.specs.declared.command.Command.{Command}
use Rattle.em_settle.specs.Add.{apply_of}
use Rattle.em_settle.specs.declared.add.AddSettle.{AddSettle}
use Rattle.em_space.specs.Rig.{RigState}
use Rattle.em_trunk.specs.declared.trunk.Trunk.{Trunk}
use Rattle.em_map.specs.Batch.{TreeHas, rule_of}
use Rattle.em_map.specs.declared.batch.Batch.{Batch}

-- The same rules join values alike,
pub same_rule : {F : Type 0} (b d : Batch F) → d.tree.settle ≡ b.tree.settle → rule_of d ≡ rule_of b
same_rule b d e = ap (λ (s : AddSettle _). apply_of s.kind) e

-- so that commands may be said by either.
pub tree_by : (apply other : Combiner) (t : RigState) (w : Trunk) (before cs : List Command) → other ≡ apply
    → TreeHas apply t w before cs → TreeHas other t w before cs
tree_by apply other t w before cs e h = subst (λ (f : Combiner). TreeHas f t w before cs) (sym e) h
