use Rattle.std.proofs.Common.{◌≡◌, ◌+◌, ◌-◌, ◌*◌, length, ap, ◌∙◌, length-append}
use Rattle.em_segment_model.specs.Slabs.{slabs_at, slabs_from}
use Rattle.em_segment_model.proofs.Places.{slabs_at-length, slabs_more, slabs_room}
use Rattle.em_segment_model.proofs.strip.slabs_of.Goals as goal

pub loop-first-preserved : goal.loop-first-preserved
loop-first-preserved c =
    let n = c.args.count in
    let k = c.loop-first.first in
    let old = c.loop-first.slabs.items in
    let new = c.add_slabs.new.slabs.items in
    let more : length new ≡ length old + (n - k) =
    ap length c.add_slabs.ensures ∙ length-append old (slabs_at k (n - k))
    ∙ ap (λ j. length old + j) (slabs_at-length k (n - k)) in
    record {
      is = slabs_more old new (slabs_from 0 n) k n c.loop-first-test.true c.loop-first.invariant.is
          c.add_slabs.ensures;
      room = slabs_room (length old) (length new) k n (n * (n + 1)) c.loop-first-test.true more
          c.loop-first.invariant.room;
    }
