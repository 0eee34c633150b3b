use Rattle.std.proofs.Common.{ap, sym, ◌∙◌, subst, List}
use Rattle.em_record.specs.declared.record.Record.{Record}
use Rattle.em_frames.specs.Device.{zero_record}
use Rattle.std.specs.Prelude.{set, []}
use Rattle.em_node.specs.Node.{Is}
use Rattle.em_node.proofs.Nodes.{fresh_is}
use Rattle.em_node.proofs.node.fresh.Goals as goal

pub returns-clause-is : goal.returns-clause-is
returns-clause-is c =
    let P : List Record → Type 0 = λ b. Is b c.args.level [] in
    subst P (sym (c.put_record.ensures ∙ ap (λ rs. set rs 1 zero_record) c.put_header.ensures))
    (fresh_is c.args.frame.now c.args.level c.requires.room c.requires.level)
