use Rattle.std.proofs.Common.{rules}
use Rattle.std.proofs.lemmas.List.{take_rest}
use Rattle.em_file.proofs.Words.{bytes_of_words}
use Rattle.em_file.proofs.bytes.decode_record.Goals as goal

pub returns : goal.returns
returns c =
    let xs = c.args.from.now in
    bytes_of_words xs _ _ _ _ c.requires (search rules) c.read_u64.ensures
    (rw (take_rest xs 8) at c.read_u64-2.ensures) (rw (take_rest xs 16) at c.read_u64-3.ensures)
    (rw (take_rest xs 24) at c.read_u64-4.ensures)
