use Rattle.std.proofs.Common.{rules, ◌≡◌, ℕ, List, [], IsTrue, ◌∙◌, subst, arith}
use Rattle.em_space.specs.Rig.{RigState, Touches, Goes}
use Rattle.em_space.specs.Held.{NoneInUse}
use Rattle.em_space.proofs.Held.{apart_none}
use Rattle.em_space.proofs.Steps.{touches_both, goes_then, goes_both, cause_after, block_cause, owes_after}
use Rattle.em_cell.specs.Cell.{Keeps, blocks_of}
use Rattle.em_cell.specs.declared.cell.Cell.{Cell}
use Rattle.em_space.proofs.Apart.{goes_made}
use Rattle.em_cell.proofs.Laws.{number_stays, stays_beside}
use Rattle.em_cell.proofs.caller.beside.Goals as goal

-- The second cell is made, set and ended: no block that was in use before it is changed,
aside : (ks ls : List ℕ) (s t u v : RigState) → (IsTrue s.device.told → NoneInUse s ks)
    → Goes [] s t → Goes ks t u → ls ≡ ks → Goes ls u v → Goes [] s v
aside ks ls s t u v fresh made changed e ended =
    goes_made ks s t v fresh made
    (goes_both ks t u v changed (subst (λ (k : List ℕ). Goes k u v) e ended))

-- and the first cell keeps its number.
keeps_beside : (ks ls : List ℕ) (s t u v : RigState) (n : ℕ) (cell : Cell)
    → (IsTrue s.device.told → NoneInUse s ks) → Goes [] s t → Goes ks t u → ls ≡ ks
    → Goes ls u v → Keeps s n cell → Keeps v n cell
keeps_beside ks ls s t u v n cell fresh made changed e ended k =
    let x : Touches ks u v = subst (λ (j : List ℕ). Touches j u v) e ended.touches in
    stays_beside ks s t v n cell made.touches fresh (touches_both ks t u v changed.touches x) k

pub returns-in_err-second-clause-goes : goal.returns-in_err-second-clause-goes
returns-in_err-second-clause-goes g c = goes_then [] _ _ _ c.new.ensures.makes.goes c.new-2.ensures.makes.goes

pub returns-in_err-set-clause-goes : goal.returns-in_err-set-clause-goes
returns-in_err-set-clause-goes g c =
    goes_then [] _ _ _ c.new.ensures.makes.goes
    (goes_made _ _ _ _ c.in_ok-second.ensures.makes.made.fresh c.new-2.ensures.makes.goes c.set.ensures.goes)

pub returns-in_err-end-clause-goes : goal.returns-in_err-end-clause-goes
returns-in_err-end-clause-goes g c =
    goes_then [] _ _ _ c.new.ensures.makes.goes
    (aside _ _ _ _ _ _ c.in_ok-second.ensures.makes.made.fresh
    c.new-2.ensures.makes.goes c.set.ensures.goes c.set.ensures.blocks c.end.ensures.goes)

pub returns-in_err-end-clause-cause : goal.returns-in_err-end-clause-cause
returns-in_err-end-clause-cause g c =
    let e = goes_then [] _ _ _ c.new.ensures.makes.goes
    (goes_made _ _ _ _ c.in_ok-second.ensures.makes.made.fresh c.new-2.ensures.makes.goes c.set.ensures.goes) in
    let f = e.touches in
    search (rules, cause_after, block_cause)

pub returns-in_err-end-clause-owes : goal.returns-in_err-end-clause-owes
returns-in_err-end-clause-owes g c =
    owes_after 0 0 1 _ _ _ _
    (owes_after 0 0 0 _ _ _ _
    (owes_after 0 0 0 _ _ _ _ c.in_ok-first.ensures.makes.paid c.in_ok-second.ensures.makes.paid
    c.new-2.ensures.makes.goes.touches (omega arith))
    c.set.ensures.owes c.set.ensures.goes.touches (omega arith))
    c.end.ensures.owes c.end.ensures.goes.touches (omega arith)

pub get-requires-clause-is : goal.get-requires-clause-is
get-requires-clause-is g c =
    let k = keeps_beside _ _ _ _ _ _ _ _ c.in_ok-second.ensures.makes.made.fresh
    c.new-2.ensures.makes.goes c.set.ensures.goes c.set.ensures.blocks c.end.ensures.goes
    c.in_ok-first.ensures.makes.made.keeps in
    k.is

pub returns-in_err-kept-clause-goes : goal.returns-in_err-kept-clause-goes
returns-in_err-kept-clause-goes g c =
    goes_then [] _ _ _ c.new.ensures.makes.goes
    (goes_then [] _ _ _
    (aside _ _ _ _ _ _ c.in_ok-second.ensures.makes.made.fresh
    c.new-2.ensures.makes.goes c.set.ensures.goes c.set.ensures.blocks c.end.ensures.goes)
    c.get.ensures.goes)

pub returns-in_err-kept-clause-cause : goal.returns-in_err-kept-clause-cause
returns-in_err-kept-clause-cause g c =
    let e = goes_then [] _ _ _ c.new.ensures.makes.goes
    (aside _ _ _ _ _ _ c.in_ok-second.ensures.makes.made.fresh
    c.new-2.ensures.makes.goes c.set.ensures.goes c.set.ensures.blocks c.end.ensures.goes) in
    let f = e.touches in
    search (rules, cause_after, block_cause)

pub returns-clause-goes : goal.returns-clause-goes
returns-clause-goes g c =
    goes_then [] _ _ _ c.new.ensures.makes.goes
    (goes_then [] _ _ _
    (aside _ _ _ _ _ _ c.in_ok-second.ensures.makes.made.fresh
    c.new-2.ensures.makes.goes c.set.ensures.goes c.set.ensures.blocks c.end.ensures.goes)
    c.get.ensures.goes)

pub returns-clause-keeps : goal.returns-clause-keeps
returns-clause-keeps g c =
    number_stays [] _ _ _ _ c.get.ensures.goes.touches
    (λ y. apart_none (blocks_of c.in_ok-first.first))
    (keeps_beside _ _ _ _ _ _ _ _ c.in_ok-second.ensures.makes.made.fresh
    c.new-2.ensures.makes.goes c.set.ensures.goes c.set.ensures.blocks c.end.ensures.goes
    c.in_ok-first.ensures.makes.made.keeps)

pub returns-clause-read : goal.returns-clause-read
returns-clause-read g c = λ y.
    let e = goes_then [] _ _ _ c.new.ensures.makes.goes
    (aside _ _ _ _ _ _ c.in_ok-second.ensures.makes.made.fresh
    c.new-2.ensures.makes.goes c.set.ensures.goes c.set.ensures.blocks c.end.ensures.goes) in
    let k = keeps_beside _ _ _ _ _ _ _ _ c.in_ok-second.ensures.makes.made.fresh
    c.new-2.ensures.makes.goes c.set.ensures.goes c.set.ensures.blocks c.end.ensures.goes
    c.in_ok-first.ensures.makes.made.keeps in
    let z = e.touches.told ∙ y in
    c.in_ok-kept.ensures.number z ∙ k.value_is z

pub returns-clause-paid : goal.returns-clause-paid
returns-clause-paid g c =
    owes_after 0 0 0 _ _ _ _
    (owes_after 0 0 0 _ _ _ _
    (owes_after 0 0 0 _ _ _ _
    (owes_after 0 0 0 _ _ _ _ c.in_ok-first.ensures.makes.paid c.in_ok-second.ensures.makes.paid
    c.new-2.ensures.makes.goes.touches (omega arith))
    c.set.ensures.owes c.set.ensures.goes.touches (omega arith))
    c.end.ensures.owes c.end.ensures.goes.touches (omega arith))
    c.get.ensures.owes c.get.ensures.goes.touches (omega arith)
