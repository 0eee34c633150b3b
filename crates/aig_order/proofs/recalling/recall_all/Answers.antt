use Rattle.std.proofs.Common.{◌≡◌, ◌∙◌, arith, refl, sym}
use Rattle.em_space.specs.Seen.{seen}
use Rattle.em_chain.specs.Reader.{owed, reader_items}
use Rattle.aig_edges.specs.Looks.{LooksAll}
use Rattle.aig_edges.proofs.Looks.{of_fault, past_end, past_looks, past_more, past_none, past_stops}
use Rattle.aig_order.specs.Marks.{Recalls}
use Rattle.aig_order.proofs.Marked.{recalled_end, recalled_next, recalled_none, recalls_one}
use Rattle.aig_order.proofs.recalling.recall_all.Goals as goal

pub loop-init : goal.loop-init
loop-init g c = record {
  past = past_none c.requires.sound c.requires.is c.requires.over;
  recalled = λ z. rw (c.at_constant-standing.ensures)
      (recalled_none c.args.last _ _ c.args.row.now);
  long = refl;
  most = omega arith;
}

pub loop-preserved : goal.loop-preserved
loop-preserved g c =
    let i = c.loop.invariant in
    let e = c.in_ok-item.ensures in
    let j = c.join_note.ensures in
    record {
      past = past_more i.past e.done;
      recalled = λ z. recalled_next c.in_ok-item.item (i.recalled z)
          (e.done.reads.items (i.past.goes.touches.told ∙ z))
          (recalls_one c.args.last j.joins c.standing_after-standing.ensures);
      long = j.long ∙ i.long;
      most = omega (arith, c.loop-test.true);
    }

pub returns-in_err-item-clause-recalls : goal.returns-in_err-item-clause-recalls
returns-in_err-item-clause-recalls g c =
    let s = seen g.D.Device.state c.args.rig.now in
    of_fault (λ r. LooksAll (owed c.args.reader.now) s (seen g.D.Device.state c.next_record.new.rig)
    (λ done. Recalls c.args.last c.args.next (reader_items s c.args.reader.now) c.args.row.now
    c.loop.row) r) _ _ c.from_residual.ensures.1
    (past_stops c.loop.invariant.past c.in_err-item.ensures.done)

pub returns-clause-recalls : goal.returns-clause-recalls
returns-clause-recalls g c =
    let i = c.loop.invariant in
    let n : c.loop.counter ≡ c.args.count = omega (arith, c.loop-test.false, i.most) in
    (past_looks i.past, λ z. recalled_end (i.recalled z) (past_end i.past (c.requires.count ∙ sym n) z))
