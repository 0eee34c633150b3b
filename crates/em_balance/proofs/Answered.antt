-- What the clauses of both calls say of their results.
use Rattle.std.proofs.Common.{ℕ, IsTrue, Result, Ok, Err, IfOk}
use Rattle.em_space.specs.Rig.{RigState}
use Rattle.em_space.specs.declared.fault.EmFault.{EmFault}
use Rattle.em_node.specs.declared.entry.Entry.{Entry}
use Rattle.em_balance.specs.Effects.{GrowsInto, GrowsOver, HalvesNode, RunsGrowth, RunsSplit, SplitsInto}

-- The clauses on a split,
pub says_halves : (s t : RigState) (node : ℕ) (result : Result Entry EmFault)
    → SplitsInto s t node result
    → IfOk result (λ upper. IsTrue s.device.told → HalvesNode s t node upper)
says_halves s t node (Ok upper) x = x.halves
says_halves s t node (Err e) x = tt

pub says_split : (s t : RigState) (node : ℕ) (result : Result Entry EmFault)
    → SplitsInto s t node result → RunsSplit s t node result
says_split s t node (Ok upper) x = x.runs
says_split s t node (Err e) x = x.stops

-- and on a new root.
pub says_grows : (s t : RigState) (root : ℕ) (upper : Entry) (result : Result ℕ EmFault)
    → GrowsInto s t root upper result
    → IfOk result (λ new. IsTrue s.device.told → GrowsOver s t root upper new)
says_grows s t root upper (Ok new) x = x.grows
says_grows s t root upper (Err e) x = tt

pub says_growth : (s t : RigState) (root : ℕ) (upper : Entry) (result : Result ℕ EmFault)
    → GrowsInto s t root upper result → RunsGrowth s t result
says_growth s t root upper (Ok new) x = x.runs
says_growth s t root upper (Err e) x = x.stops
