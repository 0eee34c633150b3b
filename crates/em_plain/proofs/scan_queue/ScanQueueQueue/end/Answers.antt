use Rattle.std.proofs.Common.{arith, ◌∙◌}
use Rattle.em_space.specs.Seen.{seen}
use Rattle.em_space.proofs.Steps.{touches_trans}
use Rattle.em_chain.specs.Chain.{chain_blocks}
use Rattle.em_plain.specs.ScanQueue.{queue_blocks}
use Rattle.em_plain.proofs.scan_queue.ScanQueueQueue.end.Goals as goal

pub returns-clause-ends : goal.returns-clause-ends
returns-clause-ends g c =
    let s = seen g.D.Device.state c.args.rig.now in
    let t = seen g.D.Device.state c.finish.new.rig in
    let u = seen g.D.Device.state c.discard.new.rig in
    let f = c.in_ok-chain.ensures in
    let d = c.discard.ensures.goes in
    record {
      sound = d.sound;
      touches = touches_trans (queue_blocks s c.args.self) (chain_blocks t c.in_ok-chain.chain) s t u
          f.gives.touches d.touches (λ z k i o. rw (f.finishes.blocks z) o);
      frames = record {
        shape = d.frames.shape ∙ f.gives.frames.shape;
        free =
            let x = d.frames.free in let y = f.gives.frames.free in omega (arith, x, y);
        areas =
            let x = d.frames.free_areas in let y = f.gives.frames.free_areas in
            omega (arith, x, y);
        rack = d.frames.rack ∙ f.gives.frames.rack;
        peak = let x = d.frames.peak in let y = f.gives.frames.peak in omega (arith, x, y);
      };
      spent = λ told. tt;
      most =
          let x = f.costs.only.same.most in let y = c.discard.ensures.frees.most in
          omega (arith, x, y);
    }
