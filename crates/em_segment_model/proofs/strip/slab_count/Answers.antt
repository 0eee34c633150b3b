use Rattle.em_segment_model.proofs.Places.{half_is, slabs_from-length}
use Rattle.em_segment_model.specs.Slabs.{slabs_from}
use Rattle.std.proofs.Common.{length, ◌+◌, ◌*◌}
use Rattle.em_segment_model.proofs.strip.slab_count.Goals as goal

pub returns-clause-twice : goal.returns-clause-twice
returns-clause-twice c =
    half_is (length (slabs_from 0 c.args.count)) (c.args.count * (c.args.count + 1))
    (slabs_from-length 0 c.args.count)
