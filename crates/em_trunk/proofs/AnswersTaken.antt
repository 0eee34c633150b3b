-- The answers are taken out as a chain, and a fresh list is in their place.
use Rattle.std.proofs.Common.{◌≡◌, [], refl, sym, subst, arith}
use Rattle.std.specs.Prelude.{IfErr, IfOk, Result, Ok, Err}
use Rattle.em_space.specs.Rig.{BlockCause, DeviceCause, RigState, Touches}
use Rattle.em_space.specs.declared.fault.EmFault.{EmFault}
use Rattle.em_space.specs.declared.fault.EmFault.TheVariants.{DeviceFault, Full, Damaged}
use Rattle.em_space.proofs.Steps.{device_block_cause}
use Rattle.em_chain.specs.Effects.{GivesFrame, LendsFrame, Unmoved}
use Rattle.em_chain.specs.Writer.{IsWriter, writer_blocks}
use Rattle.em_chain.specs.Writes.{Begins, FinishCosts, Finishes}
use Rattle.em_chain.specs.declared.chain.Chain.{Chain}
use Rattle.em_chain.specs.declared.writer.Writer.{Writer}
use Rattle.em_trunk.specs.declared.trunk.Trunk.{Trunk}
use Rattle.em_trunk.specs.Lists.{TakesAnswers}
use Rattle.em_trunk.proofs.ListTaken.{fresh_frame, is_fresh, list_finished, list_goes, list_moves, list_pays, list_same}

-- With a fresh list in place of the answers.
abbrev pub with_no_answers : Trunk → Writer → Trunk
with_no_answers v fresh = record v { answers = fresh }

-- the cause of the second call's fault is the cause of both
block_cause_after : (s m a : RigState) (fault : EmFault) → Touches [] s m → BlockCause m a fault
    → BlockCause s a fault
block_cause_after s m a DeviceFault h c = omega (arith, h.faults, c)
block_cause_after s m a (Full used) h c = c
block_cause_after s m a (Damaged block) h c = c

module _ (s m a : RigState) (v : Trunk) (fresh : Writer) (is : IsWriter s v.answers)
    (lends : LendsFrame s m) (unmoved : Unmoved s m) (begins : Begins m fresh)
    (gives : GivesFrame (writer_blocks m v.answers) m a) where
  takes_answers : (r : Result Chain EmFault) → IfOk r (λ c. Finishes m a v.answers c)
      → FinishCosts m a v.answers r → IfErr r (DeviceCause m a)
      → TakesAnswers s a v (with_no_answers v fresh) r
  takes_answers (Ok c) finishes costs cause = record {
    is = refl;
    goes = list_goes s m a v.answers fresh is lends unmoved begins gives;
    same = list_same s m a v.answers fresh is lends unmoved begins gives (Ok c) costs;
    moves = list_moves s m a v.answers fresh is lends unmoved begins gives (Ok c) costs;
    pays = list_pays s m a v.answers fresh is lends unmoved begins gives c costs;
    fresh = is_fresh s m a v.answers fresh is lends unmoved begins gives;
    finishes = list_finished s m a v.answers fresh is lends unmoved begins gives c finishes;
  }
  takes_answers (Err fault) finishes costs cause = record {
    is = refl;
    goes = list_goes s m a v.answers fresh is lends unmoved begins gives;
    same = list_same s m a v.answers fresh is lends unmoved begins gives (Err fault) costs;
    moves = list_moves s m a v.answers fresh is lends unmoved begins gives (Err fault) costs;
    frame = fresh_frame s m a v.answers fresh is lends unmoved begins gives;
    cause = block_cause_after s m a fault lends.touches (device_block_cause m a fault cause);
  }

-- The calls put the fresh list in the answers' place, and finish what was there.
pub takes_given : (s m a : RigState) (v : Trunk) (fresh next whole : Writer) → IsWriter s v.answers
    → LendsFrame s m → Unmoved s m → Begins m fresh → next ≡ fresh → whole ≡ v.answers
    → GivesFrame (writer_blocks m whole) m a → (r : Result Chain EmFault)
    → IfOk r (λ c. Finishes m a whole c) → FinishCosts m a whole r → IfErr r (DeviceCause m a)
    → TakesAnswers s a v (with_no_answers v next) r
takes_given s m a v fresh next whole is lends unmoved begins new was gives r finishes costs cause =
    let T : Writer → Type 0 = λ w. TakesAnswers s a v (with_no_answers v w) r in
    let G : Writer → Type 0 = λ w. GivesFrame (writer_blocks m w) m a in
    let F : Writer → Type 0 = λ w. IfOk r (λ c. Finishes m a w c) in
    let C : Writer → Type 0 = λ w. FinishCosts m a w r in
    subst T (sym new) (takes_answers s m a v fresh is lends unmoved begins (subst G was gives) r
    (subst F was finishes) (subst C was costs) cause)
