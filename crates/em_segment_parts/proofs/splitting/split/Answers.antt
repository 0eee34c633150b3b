use Rattle.em_segment_parts.proofs.PointsSplit.{splits_all}
use Rattle.em_segment_parts.proofs.splitting.split.Goals as goal

pub returns : goal.returns
returns g c =
    let o = c.taking-reader.ensures in
    let e = c.abandon.ensures in
    record {
      splits = splits_all c.args.most c.split_all-strips.new.reader c.split_all-strips.result
          c.requires.points c.requires.some o.lends o.unmoved o.opens
          c.split_all-strips.ensures.splits e.gives e.unmoved;
    }
