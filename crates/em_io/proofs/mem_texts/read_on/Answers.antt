use Rattle.std.proofs.Common.{◌≤◌, ◌+◌, ◌-◌, length, arith}
use Rattle.em_io.proofs.Texts.{read-splits}
use Rattle.em_io.proofs.mem_texts.read_on.Goals as goal

pub returns-clause-bytes : goal.returns-clause-bytes
returns-clause-bytes c =
    let bytes = c.text_at-bytes.result.now in
    let at = c.args.mark.now.at in
    let count = c.min-count.result in
    let within : count ≤ length bytes - at = omega (arith, c.min-count.ensures) in
    let splits = read-splits bytes c.copy_from_slice.new.self c.args.into.now at count in
    rw (← c.text_at-bytes.ensures)
    (splits ((at + count) - at) (omega arith) c.copy_from_slice.ensures.after within)
