use Rattle.std.proofs.Common.{rules, ◌≡◌, ℕ, suc, ◌+◌, ◌-◌, ◌*◌, Ok, arith, subst}
use Rattle.aig_defs.specs.Items.{delta_bytes}
use Rattle.aig_text.specs.Reads.{ReadsItem}
use Rattle.aig_text.specs.Source.{source}
use Rattle.aig_bin.proofs.Powers.{one_more, small, some}
use Rattle.aig_bin.proofs.delta.+delta_bytes.Goals as goal

pub returns-then-byte-lt128-clause-within : goal.returns-then-byte-lt128-clause-within
returns-then-byte-lt128-clause-within g t c = omega (
  arith,
  one_more c.args.most (omega arith),
  some (c.args.most - 1),
  c.if-byte-lt128.true,
)

pub overflow_mul-result : goal.overflow_mul-result
overflow_mul-result g t c = omega (
  arith,
  small (c.args.most - 1) (omega arith),
  c.in_ok-rest.ensures.within,
)

pub overflow_add-result : goal.overflow_add-result
overflow_add-result g t c = omega (
  arith,
  small (c.args.most - 1) (omega arith),
  c.in_ok-rest.ensures.within,
)

pub returns-clause-within : goal.returns-clause-within
returns-clause-within g t c =
    omega (arith, one_more c.args.most (omega arith), c.in_ok-rest.ensures.within)

pub returns-clause-reads : goal.returns-clause-reads
returns-clause-reads g t c =
    let e : suc (c.args.most - 1) ≡ c.args.most = omega (arith, c.if-most-eq0.false) in
    subst (λ (n : ℕ). ReadsItem {A = ℕ} g.H.Shelf.tells (delta_bytes c.args.first n)
    (source g.H.Shelf c.args.feed.now c.args.shelf.now)
    (source g.H.Shelf c.delta_bytes.new.feed c.delta_bytes.new.shelf)
    (Ok (c.in-Some.byte - 128 + 128 * c.in_ok-rest.rest))) e (search rules)

pub returns-in_err-rest-clause-reads : goal.returns-in_err-rest-clause-reads
returns-in_err-rest-clause-reads g t c =
    let e : suc (c.args.most - 1) ≡ c.args.most = omega (arith, c.if-most-eq0.false) in
    subst (λ (n : ℕ). ReadsItem {A = ℕ} g.H.Shelf.tells (delta_bytes c.args.first n)
    (source g.H.Shelf c.args.feed.now c.args.shelf.now)
    (source g.H.Shelf c.delta_bytes.new.feed c.delta_bytes.new.shelf)
    c.from_residual-in_err-rest.result) e (search rules)
