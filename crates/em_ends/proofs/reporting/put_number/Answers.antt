use Rattle.std.proofs.Common.{ℕ, ◌<◌, ◌≤◌, ◌^◌, length, arith, decimal, ap}
use Rattle.std.proofs.lemmas.List.{length-append}
use Rattle.std.proofs.lemmas.Fmt.{length-decimal-le}
use Rattle.em_ends.proofs.reporting.put_number.Goals as goal

-- a number of 64 bits has at most 20 digits
few_digits : (n : ℕ) → n < 2 ^ 64 → length (decimal n) ≤ 20
few_digits n h = length-decimal-le 20 n (omega arith) (omega arith) (omega arith)

pub returns-clause-quiet : goal.returns-clause-quiet
returns-clause-quiet g c =
    let few = few_digits c.args.number (omega arith) in
    c.add_number-fits.ensures.quiet_sink (omega arith)

pub returns-clause-pending : goal.returns-clause-pending
returns-clause-pending g c =
    let few = few_digits c.args.number (omega arith) in
    c.add_number-fits.ensures.quiet_pending (omega arith)

pub returns-clause-length : goal.returns-clause-length
returns-clause-length g c =
    let few = few_digits c.args.number (omega arith) in
    let pending = c.add_number-fits.ensures.quiet_pending (omega arith) in
    omega (arith, ap length pending, length-append c.args.printer.now (decimal c.args.number))
