use Rattle.std.proofs.Common.{◌≡◌, ◌+◌, ◌-◌, ◌++◌, ap, ◌∙◌, arith, refl}
use Rattle.std.specs.Prelude.{option_to_list}
use Rattle.em_io.proofs.Sent.{sent-nothing}
use Rattle.em_space.specs.Seen.{seen}
use Rattle.em_chain.specs.Reader.{reader_items}
use Rattle.em_answers.specs.Answer.{numbers_line, stab_text}
use Rattle.em_answers.specs.Print.{groups_from, intervals_at, pairs_behind}
use Rattle.em_answers.proofs.Looking.{keeps_then}
use Rattle.em_answers.proofs.PairLaws.{groups_next}
use Rattle.em_ends.proofs.Printing.{sent_step}
use Rattle.em_answers.proofs.print.print_stabs.Goals as goal
use Rattle.em_answers.proofs.Pieces.{into_step, into_stopped}

pub returns-in_err-next-clause-prints : goal.returns-in_err-next-clause-prints
returns-in_err-next-clause-prints g c = λ told.
    into_stopped _ _ _ c.from_residual.ensures.0
    (sent-nothing g.met.W.Sink.rule (g.met.W.Sink.is_state c.args.out.now) _ refl)

pub returns-in_err-next-2-clause-prints : goal.returns-in_err-next-2-clause-prints
returns-in_err-next-2-clause-prints g c = λ told.
    let inv = c.loop-stab.invariant in
    let stab = c.loop-stab.stab in
    let before = seen g.D.Device.state c.loop-stab.rig in
    let items = option_to_list c.loop-stab.next ++ reader_items before c.loop-stab.reader in
    let step = groups_next stab (c.args.stabs - stab) items (omega arith) in
    into_step g.met.W.Sink.rule (g.met.W.Sink.is_state c.args.out.now) c.loop-stab.printer
    (numbers_line (intervals_at stab items))
    (stab_text (groups_from (stab + 1) (c.args.stabs - stab - 1) (pairs_behind stab items))) _ _
    c.from_residual-in_err-next-2.ensures.1 (inv.sent told) (ap (λ l. c.loop-stab.printer ++ l) step)
    (c.in_err-next-2.ensures.prints (inv.keeps.goes.touches.told ∙ told))

pub loop-stab-preserved : goal.loop-stab-preserved
loop-stab-preserved g c =
    let inv = c.loop-stab.invariant in
    let stab = c.loop-stab.stab in
    let before = seen g.D.Device.state c.loop-stab.rig in
    let after = seen g.D.Device.state c.print_stab.new.rig in
    let items = option_to_list c.loop-stab.next ++ reader_items before c.loop-stab.reader in
    let rest = option_to_list c.in_ok-next-2.next ++ reader_items after c.print_stab.new.reader in
    let l = c.in_ok-next-2.ensures in
    let step = groups_next stab (c.args.stabs - stab) items (omega arith) in
    record {
      keeps = keeps_then inv.keeps l.reads.keeps;
      reader = l.behind.reader;
      none = l.behind.none;
      sent = λ told.
          let z = inv.keeps.goes.touches.told ∙ told in
          let n : c.args.stabs - stab - 1 ≡ c.args.stabs - (stab + 1) = omega arith in
          sent_step g.met.W.Sink.rule (g.met.W.Sink.is_state c.args.out.now) c.loop-stab.printer
          (numbers_line (intervals_at stab items))
          (stab_text (groups_from (stab + 1) (c.args.stabs - (stab + 1)) rest)) (inv.sent told)
          (ap (λ k. c.loop-stab.printer ++ k) (rw (l.behind.items z) (rw n at step)))
          (l.prints z).all;
      later = omega (arith, inv.later, l.stops.later);
      moves = let m = l.moves.left in omega (arith, inv.moves, m);
    }
