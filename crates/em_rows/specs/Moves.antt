-- The moves of a service that takes rows, of which none is a sync.
use Rattle.std.specs.Prelude.{◌≡◌, ℕ, ◌+◌, ◌≤◌, ◌++◌, Bool, IsTrue, List, Option, IfSome}
use Rattle.em_record.specs.Shape.{ShapeNumbers}
use Rattle.em_space.specs.Rig.{RigState}
use Rattle.em_model.specs.declared.command.Command.{Command}
use Rattle.em_services.specs.Service.{ServiceCounts, size_of}
use Rattle.em_services.specs.declared.service.Service.{Ghosts as ServiceGhosts}

-- All moves after the first ones, of this number, are within an allowance for a size, if there is one and the device tells.
abbrev pub MovesTo : Option (ShapeNumbers → ℕ → ℕ) → (first size : ℕ) → RigState → Type 0
MovesTo allowance first size s = IsTrue s.device.told
    → IfSome allowance (λ f. s.moves ≤ first + f s.pool.shape size)

-- If a service states an allowance, no sync came, and all moves after the first ones, of this number, are its own; they are
-- within the allowance for the size of the commands that it took.
pub record MovesFrom (allowance : Option (ShapeNumbers → ℕ → ℕ)) (first size : ℕ) (c : ServiceCounts)
    (s : RigState) : Type 0 where
  pub none : IfSome allowance (λ f. c.syncs ≡ 0)
  pub spent : IfSome allowance (λ f. s.moves ≤ first + c.spent s.pool.shape)
  pub within : MovesTo allowance first size s

-- the same of a service that has these commands, by the size that it states
abbrev pub MovesOwn : {S R : Type 0} → ServiceGhosts S R → (first : ℕ) → List Command → S → RigState → Type 0
MovesOwn v first commands x s = MovesFrom v.allowance first (v.size x s.pool.shape commands) (v.counts x) s

-- A service has some commands after those that it had; they are these, if the shelf tells its text.
pub record TookRows {S R : Type 0} (v : ServiceGhosts S R) (tells : Bool) (commands : List Command) (first : ℕ)
    (before cs : List Command) (x : S) (s : RigState) : Type 0 where
  pub given : List Command
  pub told : IsTrue tells → given ≡ commands
  pub has : v.Has x s before (cs ++ given)
  pub moves : MovesOwn v first (before ++ (cs ++ given)) x s

-- A service, x before and y after a call, took rows, whatever it had before: its moves from then on are its own if they were
-- so before.
abbrev pub TakesRows : {S R : Type 0} → ServiceGhosts S R → Bool → List Command → S → S → RigState → RigState → Type 0
TakesRows v tells commands x y s t = (first : ℕ) (before cs : List Command) → v.Has x s before cs
    → MovesOwn v first (before ++ cs) x s → TookRows v tells commands first before cs y t

-- All moves are within its allowance for the size of what it had and of these commands, if they were its own before.
abbrev pub MovesWithRows : {S R : Type 0} → ServiceGhosts S R → List Command → S → RigState → RigState → Type 0
MovesWithRows v commands x s t = (first : ℕ) (before cs : List Command) → v.Has x s before cs
    → MovesOwn v first (before ++ cs) x s → MovesTo v.allowance first (size_of v.KIND (before ++ cs ++ commands)) t
