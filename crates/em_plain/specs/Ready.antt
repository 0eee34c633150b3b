-- What calls that write beside a chain of commands ask.
use Rattle.std.specs.Prelude.{ℕ, ◌<◌, ◌≤◌}
use Rattle.em_space.specs.Rig.{RigState, Sound}
use Rattle.em_chain.specs.declared.chain.Chain.{Chain}
use Rattle.em_chain.specs.declared.writer.Writer.{Writer}
use Rattle.em_plain.specs.Adds.{AddsBeside}

-- A writer beside a chain of at least this many commands, and frames for two blocks more.
pub record ReadyBeside (number : ℕ) (s : RigState) (c : Chain) (w : Writer) : Type 0 where
  pub sound : Sound s
  pub beside : AddsBeside s c w
  pub free : 1 < s.pool.free
  pub few : number ≤ c.count
