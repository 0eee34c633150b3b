-- The moves of a service that takes rows.
use Rattle.std.proofs.Common.{◌≡◌, ℕ, ◌+◌, ◌*◌, ◌≤◌, List, [], ◌∷◌, ◌++◌, ap, sym, subst, ◌∙◌, arith, Bool, IsTrue, Option, Some, None, IfSome}
use Rattle.em_record.specs.Shape.{IsShape, ShapeNumbers}
use Rattle.em_model.specs.declared.command.Command.{Command}
use Rattle.em_space.specs.Rig.{RigState, Touches}
use Rattle.em_chain.specs.Chain.{payload_in}
use Rattle.em_chain.specs.Counts.{ceiling}
use Rattle.em_lines.specs.declared.text.FileKind.{FileKind}
use Rattle.em_services.specs.Service.{MakesService, RisesBySize, ServiceCounts, TakesCommand, WithinAllowance, size_of}
use Rattle.em_rows.specs.Answered.{AnswersWithin, MovesBySize}
use Rattle.em_rows.specs.Moves.{MovesFrom, MovesTo}
use Rattle.em_lines.specs.Lines.{lines_of}
use Rattle.em_rows.specs.Rows.{rows_from, rows_in}
use Rattle.em_rows.specs.declared.kinds.RowKind.{RowKind}
use Rattle.em_rows.proofs.RowLaws.{RowsGiven}
use Rattle.em_rows.proofs.RowSizes.{rows_joined, rows_sized}

-- A service was made.
pub moves_made : (allowance room : Option (ShapeNumbers → ℕ → ℕ)) (frames : ℕ) (held : List ℕ)
    (c : ServiceCounts) (s t : RigState) (size : ℕ) → IfSome allowance RisesBySize → IsShape s.pool.shape
    → MakesService allowance room frames held c s t → WithinAllowance allowance 0 0 (λ shape. 0) s t
    → MovesFrom allowance s.moves size c t
moves_made None room frames held c s t size rises is m w =
    record { none = tt; spent = tt; within = λ told. tt }
moves_made (Some f) room frames held c s t size rises is m w = record {
  none = m.syncs;
  spent = rw (m.touches.shape) m.spent;
  within = λ told.
      let now = w (sym m.touches.told ∙ told) in
      let more = rises s.pool.shape 0 size is (omega arith) in
      rw (m.touches.shape) (omega (arith, now, more));
}

-- None was made.
pub moves_unmade : (allowance : Option (ShapeNumbers → ℕ → ℕ)) (kind : FileKind) (tells : Bool)
    (commands : List Command) (s t : RigState) → IfSome allowance RisesBySize → IsShape s.pool.shape
    → WithinAllowance allowance 0 0 (λ shape. 0) s t → MovesBySize allowance kind tells commands s t
moves_unmade None kind tells commands s t rises is w = λ z told. tt
moves_unmade (Some f) kind tells commands s t rises is w = λ z told.
    let now = w told in
    let more = rises s.pool.shape 0 (size_of kind commands) is (omega arith) in
    omega (arith, now, more)

-- All moves up to the end of a call on it,
pub moves_call : {had : ℕ} (allowance : Option (ShapeNumbers → ℕ → ℕ)) (first size : ℕ) (held : List ℕ)
    (c : ServiceCounts) (s t : RigState) → MovesFrom allowance first had c s → Touches held s t
    → WithinAllowance allowance size c.syncs c.spent s t → MovesTo allowance first size t
moves_call None first size held c s t m touches w = λ told. tt
moves_call (Some f) first size held c s t m touches w = λ told.
    let before = m.spent in
    let none : c.syncs ≡ 0 = m.none in
    let now : c.spent s.pool.shape + t.moves ≤ s.moves + (0 + 1) * f s.pool.shape size =
    rw none at (w (sym touches.told ∙ told)) in
    rw (touches.shape) (omega (arith, before, now))

-- and after a command that it took.
pub moves_next : {had : ℕ} (allowance room : Option (ShapeNumbers → ℕ → ℕ)) (first size : ℕ) (held now : List ℕ)
    (c d : ServiceCounts) (s t : RigState) → Touches held s t → TakesCommand allowance room 0 held now c d s t
    → WithinAllowance allowance size c.syncs c.spent s t → MovesFrom allowance first had c s
    → MovesFrom allowance first size d t
moves_next None room first size held now c d s t touches k w m =
    record { none = tt; spent = tt; within = λ told. tt }
moves_next (Some f) room first size held now c d s t touches k w m =
    let syncs = k.syncs in
    let none = m.none in
    let before = m.spent in
    let spent = k.spent (λ p. absurd (omega (arith, p))) in
    record {
      none = omega (arith, syncs, none);
      spent = rw (touches.shape) (omega (arith, before, spent));
      within = moves_call (Some f) first size held c s t m touches w;
    }

-- An equal size says the same.
pub moves_at : (allowance : Option (ShapeNumbers → ℕ → ℕ)) (first m n : ℕ) (c : ServiceCounts) (s : RigState) → m ≡ n
    → MovesFrom allowance first m c s → MovesFrom allowance first n c s
moves_at allowance first m n c s e h = subst (λ (size : ℕ). MovesFrom allowance first size c s) e h

-- They are within the allowance for more commands,
pub moves_more : (allowance : Option (ShapeNumbers → ℕ → ℕ)) (first size most : ℕ) (s : RigState)
    → IfSome allowance RisesBySize → IsShape s.pool.shape → size ≤ most → MovesTo allowance first size s
    → MovesTo allowance first most s
moves_more None first size most s rises is few m = λ told. tt
moves_more (Some f) first size most s rises is few m = λ told.
    let now = m told in
    let more = rises s.pool.shape size most is few in
    omega (arith, now, more)

-- up to the rows of a whole text, of which these were given,
pub moves_rows : (allowance : Option (ShapeNumbers → ℕ → ℕ)) (first size : ℕ) (files : FileKind) (kind : RowKind)
    (number : ℕ) (text left : List ℕ) (before cs rows : List Command) (s : RigState) → IfSome allowance RisesBySize
    → IsShape s.pool.shape → RowsGiven kind number text left rows → size ≤ size_of files (before ++ (cs ++ rows))
    → MovesTo allowance first size s → MovesTo allowance first (size_of files (before ++ cs ++ rows_in kind text)) s
moves_rows allowance first size files kind number text left before cs rows s rises is given few m =
    let front = rows_sized files before cs rows (rows_from kind number (lines_of left)).good (rows_in kind text)
    given.good in
    moves_more allowance first size (size_of files (before ++ cs ++ rows_in kind text)) s rises is
    (omega (arith, few, front)) m

-- also if the service refused one more,
pub moves_refused : (allowance : Option (ShapeNumbers → ℕ → ℕ)) (first size : ℕ) (files : FileKind) (kind : RowKind)
    (number : ℕ) (text left : List ℕ) (before cs rows : List Command) (row : Command) (s : RigState)
    → IfSome allowance RisesBySize → IsShape s.pool.shape → RowsGiven kind number text left (rows ++ row ∷ [])
    → size ≤ size_of files (before ++ (cs ++ rows) ++ row ∷ []) → MovesTo allowance first size s
    → MovesTo allowance first (size_of files (before ++ cs ++ rows_in kind text)) s
moves_refused allowance first size files kind number text left before cs rows row s rises is given few m =
    let same = ap (λ (xs : List Command). size_of files xs) (rows_joined before cs rows (row ∷ [])) in
    moves_rows allowance first size files kind number text left before cs (rows ++ row ∷ []) s rises is given
    (omega (arith, few, same)) m

-- and as they are after a call that moved nothing.
pub moves_unmoved : (allowance : Option (ShapeNumbers → ℕ → ℕ)) (first size : ℕ) (held : List ℕ) (s t : RigState)
    → Touches held s t → t.moves ≡ s.moves → MovesTo allowance first size s → MovesTo allowance first size t
moves_unmoved None first size held s t touches same m = λ told. tt
moves_unmoved (Some f) first size held s t touches same m = λ told.
    let now = m (sym touches.told ∙ told) in
    rw (touches.shape) (omega (arith, now, same))

-- Seen from the start, they are within the allowance for the size of the rows,
pub moves_by_size : (allowance : Option (ShapeNumbers → ℕ → ℕ)) (kind : FileKind) (tells : Bool)
    (commands : List Command) (s t : RigState) → t.device.told ≡ s.device.told → t.pool.shape ≡ s.pool.shape
    → (IsTrue tells → MovesTo allowance s.moves (size_of kind commands) t)
    → MovesBySize allowance kind tells commands s t
moves_by_size None kind tells commands s t told shape m = λ z here. tt
moves_by_size (Some f) kind tells commands s t told shape m = λ z here.
    let now = m z (told ∙ here) in
    rw (← shape) now

-- and with those of printing the answers within what is said of both.
pub moves_printed : (allowance : Option (ShapeNumbers → ℕ → ℕ)) (kind : FileKind) (tells : Bool)
    (commands : List Command) (s m t : RigState) → MovesBySize allowance kind tells commands s m
    → (IsTrue tells → IsTrue s.device.told
    → t.moves ≤ m.moves + ceiling (size_of kind commands) (payload_in s))
    → AnswersWithin allowance kind tells commands s t
moves_printed None kind tells commands s m t before more = λ z told. tt
moves_printed (Some f) kind tells commands s m t before more = λ z told.
    let now = before z told in
    let printed = more z told in
    omega (arith, now, printed)
