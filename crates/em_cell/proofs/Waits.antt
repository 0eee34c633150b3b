-- A number that waits and is then stored: the effect is that of a cell that was made at once.
use Rattle.std.proofs.Common.{ℕ, ◌+◌, ◌≤◌, List, arith, sym, ◌∙◌, ap, subst}
use Rattle.em_record.specs.Count.{next_count}
use Rattle.em_space.specs.Rig.{RigState, MovesToAlloc}
use Rattle.em_space.specs.Held.{NoneInUse}
use Rattle.em_cell.specs.Calls.{Awaits, Finishes, MovesOne, Makes}
use Rattle.em_cell.specs.Cell.{Keeps}
use Rattle.em_cell.specs.declared.cell.Cell.{Cell}
use Rattle.em_cell.specs.declared.pending.Pending.{Pending}

pub makes_in_steps : (s t u : RigState) (n : ℕ) (p : Pending) (cell : Cell) → Awaits s t n p
    → MovesToAlloc s t → MovesOne t u → Finishes u p cell → Makes s u n cell
makes_in_steps s t u n p cell a m o f = record {
  keeps = subst (λ (k : ℕ). Keeps u k cell) a.number_is f.keeps;
  fresh = λ y. subst (λ (ks : List ℕ). NoneInUse s ks) (sym f.blocks) (a.fresh y);
  used = o.blocks.used ∙ a.used;
  none_freed = λ h. o.moves ∙ ap (λ (k : ℕ). next_count k) (m.none_freed h);
  some_freed = λ h. let e = m.some_freed h in omega (arith, o.moves);
}
