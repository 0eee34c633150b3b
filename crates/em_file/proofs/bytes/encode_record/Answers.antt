use Rattle.std.proofs.Common.{◌++◌, refl}
use Rattle.std.proofs.lemmas.List.{take_rest}
use Rattle.byteorder.specs.Endian.{little_bytes}
use Rattle.em_file.proofs.Steps.{word_more}
use Rattle.em_file.proofs.bytes.encode_record.Goals as goal

pub returns : goal.returns
returns c =
    let old = c.args.into.now in
    let item = c.args.item in
    let a = little_bytes 8 item.a in
    let b = little_bytes 8 item.b in
    let d = little_bytes 8 item.c in
    let one = c.write_u64.ensures in
    let two = word_more 8 a b old _ c.write_u64-2.new.buf refl refl one
    (rw (take_rest c.write_u64.new.buf 8) at c.write_u64-2.ensures) in
    let three = word_more 16 (a ++ b) d old _ c.write_u64-3.new.buf refl refl two
    (rw (take_rest _ 16) at c.write_u64-3.ensures) in
    word_more 24 (a ++ b ++ d) (little_bytes 8 item.d) old _ c.write_u64-4.new.buf refl refl three
    (rw (take_rest _ 24) at c.write_u64-4.ensures)
