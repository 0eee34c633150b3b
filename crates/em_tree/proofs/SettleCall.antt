-- What `settle_all` did, by its result: its numbers are counted, and the books are kept over its moves.
use Rattle.std.proofs.Common.{◌≡◌, ℕ, ◌+◌, ◌-◌, ◌*◌, ◌≤◌, [], refl, sym, ap, ◌∙◌, subst, arith, inl, inr, IsTrue, Result, Ok, Err, IfErr}
use Rattle.std.proofs.Math.Nat.{min-le_right}
use Rattle.std.specs.Prelude.{Option}
use Rattle.em_record.specs.Shape.{ShapeNumbers}
use Rattle.em_record.specs.declared.record.Record.{Record}
use Rattle.em_settle.specs.declared.step.Step.{Step}
use Rattle.em_space.specs.Rig.{RigState, Sound}
use Rattle.em_space.specs.declared.fault.EmFault.{EmFault}
use Rattle.em_space.proofs.Ledgers.{full_by}
use Rattle.em_space.proofs.Paying.{pays_more, pays_then}
use Rattle.em_space.proofs.Steps.{cause_after}
use Rattle.em_space.proofs.Within.{goes_within}
use Rattle.em_tree_cost.specs.Books.{TreeCounts, count_settle}
use Rattle.em_tree_cost.proofs.Books.{books_share}
use Rattle.em_tree_model.specs.Tree.{Tree, waiting_in}
use Rattle.em_tree_outline.specs.Outline.{outline_of}
use Rattle.em_tree_trim.specs.Trim.{IsTrim}
use Rattle.em_trunk.specs.Counting.{counted_moves, counted_settling}
use Rattle.em_trunk.specs.Debts.{owing_all}
use Rattle.em_trunk.specs.Room.{FullOverRoom, WithinRoom}
use Rattle.em_trunk.specs.Trunk.{IsTrunk, counts_of, model_of, root_of, trunk_blocks}
use Rattle.em_trunk.specs.Works.{SameNumbers}
use Rattle.em_trunk.specs.declared.trunk.Trunk.{Trunk}
use Rattle.em_trunk.proofs.Ends.{stopped_settling}
use Rattle.em_tree.specs.Calls.{CountsCall, FullIfUntrim, KeepsShare, SettlesTrunk, StopsTrunk}
use Rattle.em_tree.specs.Settling.{StopsSettling}
use Rattle.em_tree.specs.Trimmed.{IsTrimTrunk, SettlesTrim, StopsSettledTrim}
use Rattle.em_tree.proofs.Counted.{counts_settled}
use Rattle.em_tree.proofs.Joins.{stopped_books}
use Rattle.em_tree.proofs.RoomCalls.{settling_room}
use Rattle.em_trunk.proofs.Works.{numbers_then}
use Rattle.em_tree.proofs.SettledTrims.{trim_books, trim_later, trim_numbers, trim_settled}
use Rattle.em_tree.proofs.SettlingTolls.{stopped_toll}
use Rattle.em_tree.proofs.TrimLooks.{root_leaf}
use Rattle.em_tree.proofs.TrimTolls.{trimmed_toll}

-- a debt with a fee of no leaf
no_fee : (d m f toll : ℕ) → d + m + 0 * f ≤ toll → d + m ≤ toll
no_fee d m f toll h = omega (arith, h)

module _ (key : Record → Record) (step : Option Record → Record → Step)
    (IsOp IsKept : Record → Type 0) (s t : RigState) (v w : Trunk) (sound : Sound s)
    (is : IsTrunk key IsOp IsKept s v) where
  abbrev begun : Trunk
  begun = counted_settling s.pool.shape v

  abbrev before : ℕ
  before = owing_all s begun

  -- It gave up after all buffers were emptied.
  module _ (fault : EmFault) (h : StopsSettledTrim key step IsOp IsKept before s t begun w fault) where
    abbrev m : RigState
    m = h.mid

    abbrev x : Trunk
    x = h.emptied

    late_numbers : SameNumbers begun w
    late_numbers = numbers_then h.settled.works.numbers h.stops.stops.numbers

    late_later : s.moves ≤ t.moves
    late_later =
        let a = h.settled.works.session.touches.moves in
        let b = h.stops.stops.goes.touches.moves in
        omega (arith, a, b)

    late_stops : StopsTrunk s t v (counted_moves (t.moves - s.moves) w) fault
    late_stops =
        let a = h.settled.works in
        let b = h.stops.stops in
        let f = b.frames in
        let wide = sound.shape.frames_low in
        let one = min-le_right x.buffer.blocks 1 in
        let other = min-le_right x.answers.blocks 1 in
        let first = a.session in
        record {
          goes = goes_within (trunk_blocks s v) (trunk_blocks m x) s m t
              (record { sound = first.sound; touches = first.touches; frames = a.frames }) first.within b.goes;
          frames = record { buffer = f.buffer; answers = f.answers; out = f.out };
          pays = pays_more (pays_then a.pays b.pays b.goes.touches.moves) (omega (arith, wide, one, other));
          cause = cause_after (trunk_blocks s v) s m t fault first.touches b.cause;
        }

    late_share : IsTrue s.device.told → KeepsShare s.pool.shape (counts_of (counted_moves (t.moves - s.moves) w))
    late_share told =
        let a = h.settled.works in
        let b = h.stops.stops in
        let mid : IsTrue m.device.told = a.session.touches.told ∙ told in
        let first = a.session.touches.moves in
        let last = b.goes.touches.moves in
        let moves = b.moves mid in
        let leaf = root_leaf a.running mid in
        let n = late_numbers in
        let toll = trimmed_toll key step IsOp IsKept s m v x sound is h.settled told (t.moves - m.moves) 0
        (omega (arith, moves)) (omega (arith, leaf))
        (λ trim. (let few = h.stops.quiet mid trim in (refl, omega (arith, few)))) in
        let few = stopped_books (counts_of v) (m.moves - s.moves) 0 h.settled.debt (t.moves - m.moves) sound.shape
        (is.books told) (a.charges told) (no_fee h.settled.debt (t.moves - m.moves) _ _ toll) in
        let c = counts_settled s.pool.shape (t.moves - s.moves) v w n in
        let P : TreeCounts → Type 0 = KeepsShare s.pool.shape in
        let spent = n.spent in
        subst P (sym c) (record { within = omega (arith, few, spent, first, last) })

    late_needs : FullIfUntrim s v fault
    late_needs =
        let a = h.settled.works in
        let P : Type 0 = IsTrue m.device.told → IsTrimTrunk m x → ⊥ in
        let Q : Type 0 = IsTrue s.device.told → waiting_in (model_of s v) ≡ [] → IsTrimTrunk s v → ⊥ in
        full_by fault P Q (λ (never : P) told none trim.
        let same = h.settled.quiet told none in
        let R : Tree → Type 0 = λ r. IsTrim s.pool.shape v.level (outline_of r) in
        let L : ℕ → Type 0 = λ l. IsTrim s.pool.shape l (outline_of (root_of m x)) in
        let S : ShapeNumbers → Type 0 = λ g. IsTrim g x.level (outline_of (root_of m x)) in
        never (a.session.touches.told ∙ told) (subst S (sym a.session.touches.shape)
        (subst L (sym same.level) (subst R (sym same.root) trim)))) h.stops.needs

  -- It gave up before that.
  early_stops : (fault : EmFault) → StopsSettling before s t begun w fault
      → StopsTrunk s t v (counted_moves (t.moves - s.moves) w) fault
  early_stops fault h =
      let x = h.stops in
      let f = x.frames in
      let wide = sound.shape.frames_low in
      record {
        goes = x.goes;
        frames = record { buffer = f.buffer; answers = f.answers; out = f.out };
        pays = pays_more x.pays (omega (arith, wide));
        cause = x.cause;
      }

  early_share : (fault : EmFault) → StopsSettling before s t begun w fault → IsTrue s.device.told
      → KeepsShare s.pool.shape (counts_of (counted_moves (t.moves - s.moves) w))
  early_share fault h told =
      let m = t.moves - s.moves in
      let n = h.stops.numbers in
      let c = counts_settled s.pool.shape m v w n in
      let P : TreeCounts → Type 0 = KeepsShare s.pool.shape in
      let few = stopped_settling (counts_of v) m h.debt sound.shape (is.books told) (h.stops.charges told)
      (stopped_toll key step IsOp IsKept s t v w sound is h told) in
      subst P (sym c) (record { within = omega (arith, few, n.spent) })

  early_needs : (fault : EmFault) → StopsSettling before s t begun w fault → FullIfUntrim s v fault
  early_needs fault h = full_by fault (IsTrue s.device.told → waiting_in (model_of s v) ≡ [] → ⊥)
      (IsTrue s.device.told → waiting_in (model_of s v) ≡ [] → IsTrimTrunk s v → ⊥)
      (λ never told none trim. never told none) h.stops.needs

  -- the numbers that stay
  settle_numbers : {T : Type 0} (r : Result T EmFault) → SettlesTrim key step IsOp IsKept before s t begun w r
      → SameNumbers begun w
  settle_numbers (Ok y) h = trim_numbers key step IsOp IsKept s t v w sound is h
  settle_numbers (Err fault) (inl h) = h.stops.numbers
  settle_numbers (Err fault) (inr h) = late_numbers fault h

  -- no move was taken back
  pub settling_later : {T : Type 0} (r : Result T EmFault) → SettlesTrim key step IsOp IsKept before s t begun w r
      → s.moves ≤ t.moves
  settling_later (Ok y) h = trim_later key step IsOp IsKept s t v w sound is h
  settling_later (Err fault) (inl h) = h.stops.goes.touches.moves
  settling_later (Err fault) (inr h) = late_later fault h

  -- those that were counted before are no more than were made before
  pub settling_spent : {T : Type 0} (r : Result T EmFault) → SettlesTrim key step IsOp IsKept before s t begun w r
      → w.spent ≤ s.moves
  settling_spent r h =
      let n = settle_numbers r h in
      omega (arith, n.spent, is.running.numbers.spent_most)

  -- What `settle_all` did,
  pub settles_trunk : (r : Result (Unit {0}) EmFault) → SettlesTrim key step IsOp IsKept before s t begun w r
      → SettlesTrunk key step IsOp IsKept s t v (counted_moves (t.moves - s.moves) w) r
  settles_trunk (Ok y) h = trim_settled key step IsOp IsKept s t v w sound is h
  settles_trunk (Err fault) (inl h) = early_stops fault h
  settles_trunk (Err fault) (inr h) = late_stops fault h

  -- the share of its moves,
  settling_share : (r : Result (Unit {0}) EmFault) → SettlesTrim key step IsOp IsKept before s t begun w r
      → IsTrue s.device.told
      → KeepsShare s.pool.shape (counts_of (counted_moves (t.moves - s.moves) w))
  settling_share (Ok y) h told =
      record { within = books_share sound.shape (trim_books key step IsOp IsKept s t v w sound is h told) }
  settling_share (Err fault) (inl h) told = early_share fault h told
  settling_share (Err fault) (inr h) told = late_share fault h told

  -- what it needed, if it was full,
  pub settling_needs : (r : Result (Unit {0}) EmFault) → SettlesTrim key step IsOp IsKept before s t begun w r
      → IfErr r (FullIfUntrim s v)
  settling_needs (Ok y) h = tt
  settling_needs (Err fault) (inl h) = early_needs fault h
  settling_needs (Err fault) (inr h) = late_needs fault h

  -- and its numbers.
  pub settling_counts : (r : Result (Unit {0}) EmFault) → SettlesTrim key step IsOp IsKept before s t begun w r
      → CountsCall (count_settle 0) s t v (counted_moves (t.moves - s.moves) w)
  settling_counts r h =
      let n = settle_numbers r h in
      let later = settling_later r h in
      record {
        counts = counts_settled s.pool.shape (t.moves - s.moves) v w n;
        spent = omega (arith, n.spent, later);
        share = settling_share r h;
      }

-- The whole call, by its parts.
module _ (key : Record → Record) (step : Option Record → Record → Step)
    (IsOp IsKept : Record → Type 0) (s t : RigState) (v x w y : Trunk) (before m : ℕ) (shape : ShapeNumbers)
    (same : shape ≡ s.pool.shape) (begun : x ≡ counted_settling shape v) (start : before ≡ s.moves)
    (sound : Sound s) (is : IsTrunk key IsOp IsKept s v) (r : Result (Unit {0}) EmFault)
    (h : SettlesTrim key step IsOp IsKept (owing_all s x) s t x w r) where
  begun_as : x ≡ counted_settling s.pool.shape v
  begun_as = begun ∙ ap (λ g. counted_settling g v) same

  from_begun : SettlesTrim key step IsOp IsKept (owing_all s (counted_settling s.pool.shape v)) s t
      (counted_settling s.pool.shape v) w r
  from_begun =
      let P : Trunk → Type 0 = λ z. SettlesTrim key step IsOp IsKept (owing_all s z) s t z w r in
      subst P begun_as h

  -- the moves can be counted,
  pub call_later : before ≤ t.moves
  call_later =
      let late = settling_later key step IsOp IsKept s t v w sound is r from_begun in
      omega (arith, late, start)

  pub call_spent : w.spent ≤ before
  call_spent =
      let spent = settling_spent key step IsOp IsKept s t v w sound is r from_begun in
      omega (arith, spent, start)

  -- and it leaves this.
  module _ (ended : y ≡ counted_moves m w) (made : m ≡ t.moves - before) where
    ended_as : y ≡ counted_moves (t.moves - s.moves) w
    ended_as = ended ∙ ap (λ n. counted_moves n w) (made ∙ ap (λ n. t.moves - n) start)

    pub call_settles : SettlesTrunk key step IsOp IsKept s t v y r
    call_settles =
        let P : Trunk → Type 0 = λ z. SettlesTrunk key step IsOp IsKept s t v z r in
        subst P (sym ended_as) (settles_trunk key step IsOp IsKept s t v w sound is r from_begun)

    pub call_needs : IfErr r (FullIfUntrim s v)
    call_needs = settling_needs key step IsOp IsKept s t v w sound is r from_begun

    pub call_counts : CountsCall (count_settle 0) s t v y
    call_counts =
        let P : Trunk → Type 0 = CountsCall (count_settle 0) s t v in
        subst P (sym ended_as) (settling_counts key step IsOp IsKept s t v w sound is r from_begun)

  -- It keeps within the room.
  pub call_room : IsTrue s.device.told → WithinRoom v.longest s t v × IfErr r (FullOverRoom v.longest s v)
  call_room told = settling_room sound is told step (owing_all s (counted_settling s.pool.shape v)) w r
      from_begun
