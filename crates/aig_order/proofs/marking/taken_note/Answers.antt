use Rattle.std.proofs.Common.{ap, arith, min, ◌∙◌}
use Rattle.em_bits.specs.Bits.{has_bit}
use Rattle.aig_order.specs.Marks.{bit_note}
use Rattle.aig_order.proofs.marking.taken_note.Goals as goal

pub returns : goal.returns
returns c = record {
  is = λ notes h. c.bit_note.ensures.is
      ∙ ap bit_note (c.get.ensures.is ∙ ap (has_bit c.args.row.now) c.min.ensures
      ∙ h (min c.args.item.a c.args.last) (omega arith));
}
