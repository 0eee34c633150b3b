use Rattle.std.proofs.Common.{◌≡◌, ◌+◌, ◌-◌, ◌++◌, ◌∷◌, [], ap, ◌∙◌, arith}
use Rattle.em_segment_model.specs.Slabs.{slabs_at}
use Rattle.em_segment_model.proofs.Places.{slab_more, the_slab}
use Rattle.em_segment_model.proofs.strip.add_slabs.Goals as goal

pub loop-less-preserved : goal.loop-less-preserved
loop-less-preserved c =
    let k = c.args.first in
    let n = c.args.count - c.args.first in
    let less = c.loop-less.less in
    let old = c.loop-less.slabs.items in
    let pushed : c.push.new.self.items ≡ old ++ the_slab k (n - less) ∷ [] = c.push.ensures.items in
    record {
      is = ap (λ t. t ++ slabs_at k (n - (less + 1))) pushed
          ∙ slab_more old (c.args.slabs.now.items ++ slabs_at k n) k n less c.loop-less-test.true
          c.loop-less.invariant.is;
      len = omega (arith, c.push.ensures.len, c.loop-less.invariant.len);
    }
