use Rattle.std.proofs.Common.{arith, min, sym, ◌∙◌}
use Rattle.em_space.specs.Seen.{seen}
use Rattle.em_space.proofs.Steps.{block_cause}
use Rattle.em_queued.proofs.Queued.{beside_apart}
use Rattle.aig_forward.proofs.Joined.{joined, joins_err, miscounted, unjoined}
use Rattle.aig_forward.proofs.lists.join_bits.Goals as goal

pub join-requires-clause-apart : goal.join-requires-clause-apart
join-requires-clause-apart g c = beside_apart _ _ c.requires.holds

pub returns-in_err-bits : goal.returns-in_err-bits
returns-in_err-bits g c =
    let e = c.in_err-bits.ensures in
    let s = seen g.D.Device.state c.args.rig.now in
    let t = seen g.D.Device.state c.join.new.rig in
    record {
      done = joins_err s t c.args.inputs c.args.state c.from_residual.result _
          c.from_residual.ensures.1
          (unjoined (min c.args.state.skip 1) (omega arith) c.requires.inputs c.requires.state e.goes
          e.moves e.cause (block_cause s t _ e.cause));
    }

pub returns-then-len-count : goal.returns-then-len-count
returns-then-len-count g c =
    let e = c.in_ok-bits.ensures in
    record {
      done = miscounted (min c.args.state.skip 1) (omega arith) c.requires.inputs c.requires.state
          e.goes e.moves e.joins c.args.count c.requires.count
          (λ k. c.if-len-count.true (c.len.ensures ∙ k));
    }

pub returns : goal.returns
returns g c =
    let e = c.in_ok-bits.ensures in
    record {
      done = joined (min c.args.state.skip 1) (omega arith) c.requires.inputs c.requires.state
          e.goes e.moves e.joins
          (c.requires.count ∙ sym c.if-len-count.false ∙ c.len.ensures);
    }
