-- What calls on lists pay of the blocks that weren't stored.
use Rattle.std.proofs.Common.{ℕ, zero, suc, ◌+◌, ◌-◌, ◌^◌, ◌<◌, ◌≤◌, min, arith, inl, inr, ⊎_elim, Result, Ok}
use Rattle.em_space.specs.Queue.{Pays}
use Rattle.em_space.specs.Rig.{RigState}
use Rattle.em_space.specs.declared.fault.EmFault.{EmFault}
use Rattle.em_space.proofs.Paying.{pays_first, pays_kept, pays_more}
use Rattle.em_chain.specs.Effects.{Repays, Unmoved}
use Rattle.em_chain.specs.Writes.{AppendCosts, FinishCosts}
use Rattle.em_chain.specs.declared.writer.Writer.{Writer}

-- this many blocks were stored that weren't
pub pays_of_repays : {a b : RigState} (n before after : ℕ) → Repays n a b → before ≤ after + n
    → Pays before after a b
pays_of_repays {a} {b} n before after x most = record {
  is = ⊎_elim (λ (u : 2 ^ 64 - 1 ≤ b.moves). inl u)
      (λ (u : b.used + a.moves + n ≤ a.used + b.moves). inr (omega arith)) x.is;
}

-- nothing was done
pub pays_unmoved : {a b : RigState} (n : ℕ) → Unmoved a b → Pays n n a b
pays_unmoved {a} {b} n u =
    let used = u.same.used in let moves = u.moves in
    pays_kept n (omega arith) (omega arith)

-- A writer has one record more. Its last block isn't stored.
pub append_pays : {T : Type 0} (a b : RigState) (w v : Writer) (result : Result T EmFault)
    → AppendCosts a b w v result → 0 < v.blocks
    → Pays (min w.blocks 1) (min v.blocks 1) a b
append_pays a b w v result k some = pays_first w.blocks v.blocks k.owes_first k.owes some

-- A writer's last block was stored.
pub finish_pays : {T : Type 0} (a b : RigState) (w : Writer) (c : T) → FinishCosts a b w (Ok c)
    → a.moves ≤ b.moves → Pays (min w.blocks 1) 0 a b
finish_pays a b w c k later = finish_by w.blocks k.repays
  where
    finish_by : (n : ℕ) → (0 < n → Repays 1 a b) → Pays (min n 1) 0 a b
    finish_by zero stored =
        let used = k.only.same.used in
        pays_more (pays_kept 0 (omega arith) later) (omega arith)
    finish_by (suc n) stored = pays_of_repays 1 (min (suc n) 1) 0 (stored (omega arith)) (omega arith)
