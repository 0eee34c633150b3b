-- The root's buffer is taken out as a chain, and a fresh list is in its place.
use Rattle.std.proofs.Common.{◌≡◌, [], refl, sym, subst, arith}
use Rattle.std.proofs.Math.Nat.{min-le_right}
use Rattle.std.specs.Prelude.{IfErr, IfOk, Result, Ok, Err}
use Rattle.em_space.specs.Rig.{DeviceCause, RigState}
use Rattle.em_space.specs.declared.fault.EmFault.{EmFault}
use Rattle.em_space.proofs.Steps.{cause_after, device_cause}
use Rattle.em_chain.specs.Effects.{GivesFrame, LendsFrame, Unmoved}
use Rattle.em_chain.specs.Writer.{IsWriter, writer_blocks}
use Rattle.em_chain.specs.Writes.{Begins, FinishCosts, Finishes}
use Rattle.em_chain.specs.declared.chain.Chain.{Chain}
use Rattle.em_chain.specs.declared.writer.Writer.{Writer}
use Rattle.em_trunk.specs.declared.trunk.Trunk.{Trunk}
use Rattle.em_trunk.specs.Lists.{TakesAll}
use Rattle.em_trunk.proofs.ListTaken.{fresh_frame, is_fresh, list_finished, list_goes, list_moves, list_pays, list_same}

-- With a fresh list in place of the buffer.
abbrev pub with_fresh : Trunk → Writer → Trunk
with_fresh v fresh = record v { buffer = fresh }

module _ (s m a : RigState) (v : Trunk) (fresh : Writer) (is : IsWriter s v.buffer)
    (lends : LendsFrame s m) (unmoved : Unmoved s m) (begins : Begins m fresh)
    (gives : GivesFrame (writer_blocks m v.buffer) m a) where
  takes_all : (r : Result Chain EmFault) → IfOk r (λ c. Finishes m a v.buffer c)
      → FinishCosts m a v.buffer r → IfErr r (DeviceCause m a)
      → TakesAll s a v (with_fresh v fresh) r
  takes_all (Ok c) finishes costs cause = record {
    is = refl;
    goes = list_goes s m a v.buffer fresh is lends unmoved begins gives;
    same = list_same s m a v.buffer fresh is lends unmoved begins gives (Ok c) costs;
    moves =
        let few = list_moves s m a v.buffer fresh is lends unmoved begins gives (Ok c) costs in
        let one = min-le_right v.buffer.blocks 1 in
        omega (arith, few, one);
    pays = list_pays s m a v.buffer fresh is lends unmoved begins gives c costs;
    fresh = is_fresh s m a v.buffer fresh is lends unmoved begins gives;
    finishes = list_finished s m a v.buffer fresh is lends unmoved begins gives c finishes;
  }
  takes_all (Err fault) finishes costs cause = record {
    is = refl;
    goes = list_goes s m a v.buffer fresh is lends unmoved begins gives;
    same = list_same s m a v.buffer fresh is lends unmoved begins gives (Err fault) costs;
    moves =
        let few = list_moves s m a v.buffer fresh is lends unmoved begins gives (Err fault) costs in
        let one = min-le_right v.buffer.blocks 1 in
        omega (arith, few, one);
    frame = fresh_frame s m a v.buffer fresh is lends unmoved begins gives;
    cause = cause_after [] s m a fault lends.touches (device_cause m a fault cause);
  }

-- The calls put the fresh list in the buffer's place, and finish what was there.
pub takes_whole : (s m a : RigState) (v : Trunk) (fresh next whole : Writer) → IsWriter s v.buffer
    → LendsFrame s m → Unmoved s m → Begins m fresh → next ≡ fresh → whole ≡ v.buffer
    → GivesFrame (writer_blocks m whole) m a → (r : Result Chain EmFault)
    → IfOk r (λ c. Finishes m a whole c) → FinishCosts m a whole r → IfErr r (DeviceCause m a)
    → TakesAll s a v (with_fresh v next) r
takes_whole s m a v fresh next whole is lends unmoved begins new was gives r finishes costs cause =
    let T : Writer → Type 0 = λ w. TakesAll s a v (with_fresh v w) r in
    let G : Writer → Type 0 = λ w. GivesFrame (writer_blocks m w) m a in
    let F : Writer → Type 0 = λ w. IfOk r (λ c. Finishes m a w c) in
    let C : Writer → Type 0 = λ w. FinishCosts m a w r in
    subst T (sym new) (takes_all s m a v fresh is lends unmoved begins (subst G was gives) r
    (subst F was finishes) (subst C was costs) cause)
