use Rattle.std.proofs.Common.{◌≡◌, ◌*◌, length, refl, ◌∙◌, arith}
use Rattle.std.proofs.lemmas.List.{take_all, take_rest}
use Rattle.em_frames.specs.Device.{zero_record}
use Rattle.em_file.specs.Bytes.{record_bytes}
use Rattle.em_file.proofs.Steps.{write_more}
use Rattle.em_file.proofs.bytes.encode.Goals as goal

pub loop-at-preserved : goal.loop-at-preserved
loop-at-preserved c =
    let into = c.loop-at.into in
    let k = c.loop-at.at in
    write_more record_bytes 32 c.args.from.now zero_record into _ k
    (c.loop-at.auto.into ∙ c.requires.len) c.loop-at-test.true refl
    (rw (take_rest into (32 * k)) at c.encode_record.ensures) c.loop-at.invariant

pub returns : goal.returns
returns c =
    let from = c.args.from.now in
    let k = c.loop-at.at in
    let room = c.requires.len in
    let kept = c.loop-at.auto.into in
    let end : k ≡ length from = omega arith in
    record {
      bytes = rw (take_all k from (omega arith), take_all (32 * k) c.loop-at.into (omega arith))
          at c.loop-at.invariant;
    }
