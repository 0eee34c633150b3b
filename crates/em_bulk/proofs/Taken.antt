-- A list that is taken as a chain.
use Rattle.std.proofs.Common.{◌≡◌, min, [], sym, ◌∙◌, subst, arith, Result, Ok, Err, IfOk, IfErr}
use Rattle.em_space.specs.Rig.{DeviceCause, RigState}
use Rattle.em_space.specs.declared.fault.EmFault.{EmFault}
use Rattle.em_space.proofs.Ledgers.{full_never}
use Rattle.em_space.proofs.Paying.{pays_more, pays_then}
use Rattle.em_space.proofs.Steps.{cause_after, device_block_cause, device_cause}
use Rattle.em_space.proofs.Within.{within_kept, within_same}
use Rattle.em_chain.specs.Chain.{chain_blocks}
use Rattle.em_chain.specs.Effects.{GivesFrame, LendsFrame, Unmoved}
use Rattle.em_chain.specs.Session.{FinishSpends}
use Rattle.em_chain.specs.Writer.{IsWriter, filled, writer_blocks}
use Rattle.em_chain.specs.Writes.{Begins, FinishCosts, Finishes}
use Rattle.em_chain.specs.declared.chain.Chain.{Chain}
use Rattle.em_chain.specs.declared.writer.Writer.{Writer}
use Rattle.em_chain.proofs.Paying.{pays_unmoved}
use Rattle.em_tree_walk.proofs.Losses.{loses_still, loses_as}
use Rattle.em_trunk.proofs.ListTaken.{fresh_frame, is_fresh, list_finished, list_goes, list_moves, list_pays, list_same}
use Rattle.em_bulk.specs.Taken.{MovesUpTo, TakesList}

module _ (s m a : RigState) (list fresh : Writer) (is : IsWriter s list) (lends : LendsFrame s m)
    (unmoved : Unmoved s m) (begins : Begins m fresh) (gives : GivesFrame (writer_blocks m list) m a) where
  bounds_of : {T : Type 0} (r : Result T EmFault) → FinishCosts m a list r → MovesUpTo (min list.blocks 1) s a
  bounds_of r costs =
      let b = list_same s m a list fresh is lends unmoved begins gives r costs in
      record {
        used = b.used;
        most = b.most;
        moves = list_moves s m a list fresh is lends unmoved begins gives r costs;
      }

  takes : (r : Result Chain EmFault) → IfOk r (λ c. Finishes m a list c) → FinishCosts m a list r
      → FinishSpends m a list r → IfErr r (DeviceCause m a) → TakesList s a list fresh r
  takes (Ok c) finishes costs spends cause =
      let g = list_goes s m a list fresh is lends unmoved begins gives in
      let f = list_finished s m a list fresh is lends unmoved begins gives c finishes in
      let b = bounds_of (Ok c) costs in
      let n = is_fresh s m a list fresh is lends unmoved begins gives in
      let fill = n.is.last.fill_none (n.is.last.none n.blocks) in
      let none = n.blocks in
      record {
        runs = record {
          session = record {
            sound = g.sound;
            touches = g.touches;
            within = within_kept s (writer_blocks s list) (writer_blocks s list) (chain_blocks a c)
                (within_same s (writer_blocks s list)) f.blocks;
            holds = λ z. (f.is.told (g.touches.told ∙ z)).holds;
          };
          frames = g.frames;
          pays = list_pays s m a list fresh is lends unmoved begins gives c costs;
          loses = loses_as (writer_blocks s list) (writer_blocks s list) (chain_blocks a c) s a
              (loses_still (writer_blocks s list) s a b.used) f.blocks;
        };
        finishes = f;
        fresh = n;
        filled_is = empty_fill a fresh none fill;
        bounds = b;
      }
    where
      empty_fill : (a : RigState) (w : Writer) → w.blocks ≡ 0 → w.fill ≡ 0 → filled a w ≡ 0
      empty_fill a w none fill = rw (none, fill) (grind arith)
  takes (Err fault) finishes costs spends cause =
      let g = list_goes s m a list fresh is lends unmoved begins gives in
      let b = bounds_of (Err fault) costs in
      record {
        stops = record {
          goes = g;
          pays = pays_more (pays_then (pays_unmoved (min list.blocks 1) unmoved) spends.pays spends.later) (omega arith);
          cause = cause_after [] s m a fault lends.touches (device_cause m a fault cause);
        };
        frame = fresh_frame s m a list fresh is lends unmoved begins gives;
        full = full_never m a fault ⊥ (device_block_cause m a fault cause);
        bounds = b;
      }

-- The calls put a fresh list in its place, and finish what was there.
pub takes_list : (s m a : RigState) (list fresh next whole : Writer) → IsWriter s list → LendsFrame s m → Unmoved s m
    → Begins m fresh → next ≡ fresh → whole ≡ list → GivesFrame (writer_blocks m whole) m a
    → (r : Result Chain EmFault) → IfOk r (λ c. Finishes m a whole c) → FinishCosts m a whole r
    → FinishSpends m a whole r → IfErr r (DeviceCause m a) → TakesList s a list next r
takes_list s m a list fresh next whole is lends unmoved begins new was gives r finishes costs spends cause =
    let T : Writer → Type 0 = λ w. TakesList s a list w r in
    let G : Writer → Type 0 = λ w. GivesFrame (writer_blocks m w) m a in
    let F : Writer → Type 0 = λ w. IfOk r (λ c. Finishes m a w c) in
    let C : Writer → Type 0 = λ w. FinishCosts m a w r in
    let S : Writer → Type 0 = λ w. FinishSpends m a w r in
    subst T (sym new) (takes s m a list fresh is lends unmoved begins (subst G was gives) r (subst F was finishes)
    (subst C was costs) (subst S was spends) cause)
