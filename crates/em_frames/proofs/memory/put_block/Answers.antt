use Rattle.std.proofs.Common.{◌∙◌, length, ◌<◌, refl}
use Rattle.em_frames.proofs.Kept.{all_blocks_set}
use Rattle.em_frames.proofs.memory.put_block.Goals as goal

pub returns-clause-blocks : goal.returns-clause-blocks
returns-clause-blocks c = λ block size.
    let e = c.copy_from_slice.ensures.items in
    let o = c.args.kept.now.ok in
    let l : c.args.at < length c.args.kept.now.items = rw (← o.0) c.requires.at in
    all_blocks_set block size c.args.kept.now.items c.args.at c.copy_from_slice.new.self l
    ∙ rw e refl
