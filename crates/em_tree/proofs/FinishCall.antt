-- What `finish` leaves: the answers of a tree as a chain, or its two frames alone.
use Rattle.std.proofs.Common.{◌≡◌, ℕ, ◌+◌, ◌-◌, ◌*◌, ◌^◌, ◌<◌, ◌≤◌, min, length, inl, inr, refl, sym, ap, ◌∙◌, subst, arith, IsTrue, Result, Ok, Err, IfErr}
use Rattle.std.specs.Prelude.{Option}
use Rattle.std.proofs.Math.Nat.{min-le_left, min-le_right, mul-le-mul_left}
use Rattle.em_record.specs.Shape.{IsShape, ShapeNumbers}
use Rattle.em_record.specs.declared.record.Record.{Record}
use Rattle.em_frames.specs.Pool.{GivenFrames, PoolCounts, SameFrames}
use Rattle.em_settle.specs.declared.step.Step.{Step}
use Rattle.em_space.specs.Ledger.{Session}
use Rattle.em_space.specs.Queue.{Pays}
use Rattle.em_space.specs.Rig.{Cause, Goes, RigState, Sound}
use Rattle.em_space.specs.declared.fault.EmFault.{EmFault}
use Rattle.em_space.specs.declared.fault.EmFault.TheVariants.{Damaged, DeviceFault, Full}
use Rattle.em_space.proofs.Ledgers.{full_by}
use Rattle.em_space.proofs.Paying.{pays_kept, pays_more, pays_then}
use Rattle.em_space.proofs.Sessions.{session_trans}
use Rattle.em_space.proofs.Steps.{cause_after, goes_trans, same_frames_then, touches_then, touches_trans}
use Rattle.em_chain.specs.Writer.{writer_blocks}
use Rattle.em_chain.specs.declared.chain.Chain.{Chain}
use Rattle.em_tree_blocks.specs.Reading.{tree_blocks}
use Rattle.em_tree_cost.specs.Books.{Balanced, IsCounted, TreeCounts, count_moves, count_settle}
use Rattle.em_tree_cost.specs.Counters.{Counters, Sums}
use Rattle.em_tree_cost.specs.Effects.{SameRoot}
use Rattle.em_tree_cost.specs.Paid.{settle_rest, toll_of}
use Rattle.em_tree_cost.specs.Shares.{floors_of, tree_share}
use Rattle.em_tree_cost.proofs.Books.{books_counted, counted_then}
use Rattle.em_tree_cost.proofs.InCall.{call_begins, call_settle, charge_debt}
use Rattle.em_tree.specs.Calls.{FinishCosts, FinishesTrunk, StopsFinishing}
use Rattle.em_trunk.specs.Counting.{counted_settling}
use Rattle.em_trunk.specs.Debts.{owing_all}
use Rattle.em_trunk.specs.Events.{Charges}
use Rattle.em_tree.specs.Finishing.{FinishedBlocks, FinishesBlocks, FullIfUsed, ReleasesUnused, StopsAfterSettling}
use Rattle.em_tree.specs.Settling.{SettledAll, StopsSettling}
use Rattle.em_trunk.specs.Trunk.{IsTrunk, counts_of, trunk_blocks, trunk_unstored}
use Rattle.em_trunk.specs.declared.trunk.Trunk.{Trunk}
use Rattle.em_trunk.proofs.Charges.{books_less, charges_books}
use Rattle.em_trunk.proofs.Ends.{stopped_settling, sums_stay}
use Rattle.em_tree.proofs.Settled.{trunk_finished}
use Rattle.em_tree.proofs.SettlingBegins.{running_counted}
use Rattle.em_tree.proofs.SettlingTolls.{released_toll, stopped_toll}
use Rattle.em_tree.proofs.Unused.{none_written, unused_blocks}
use Rattle.em_tree.proofs.RoomCalls.{given_room, left_room}
use Rattle.em_trunk.specs.Room.{FullOverRoom, WithinRoom}
use Rattle.em_trunk.specs.Lists.{GivesAnswers, StopsAnswers, LeavesTrunk}

-- frames that stayed, and two that came back
given_after : (a b c : PoolCounts) → SameFrames a b → GivenFrames 2 b c → GivenFrames 2 a c
given_after a b c f g = record {
  shape = g.shape ∙ f.shape;
  free = omega (arith, f.free, g.free);
  rack = g.rack ∙ f.rack;
  free_areas = g.free_areas ∙ f.free_areas;
  peak = omega (arith, f.peak, g.peak);
}

-- a cause stands where only the pool changed
cause_pool : (s t : RigState) (p : PoolCounts) (fault : EmFault) → Cause s t fault
    → Cause s (record t { pool = p }) fault
cause_pool s t p DeviceFault c = c
cause_pool s t p (Full used) c = c
cause_pool s t p (Damaged block) c = c

-- A call that gave up, after which the frames came back.
stops_left : {s t u : RigState} {v : Trunk} (n : ℕ) (fault : EmFault) → Goes (trunk_blocks s v) s t
    → Pays (trunk_unstored v) n s t → Cause s t fault → LeavesTrunk t u → n ≤ s.pool.shape.frames
    → StopsFinishing s u v fault
stops_left {s = s} {t = t} {u = u} {v = v} n fault g p c l most =
    let C : RigState → Type 0 = λ z. Cause s z fault in
    let used : u.used ≡ t.used = ap (λ (z : RigState). z.used) l.same in
    record {
      sound = l.sound;
      touches = touches_then (trunk_blocks s v) s t u g.touches l.touches;
      frames = given_after s.pool t.pool u.pool g.frames l.frames;
      pays = pays_more (pays_then p (pays_kept n (omega (arith, used)) l.touches.moves) l.touches.moves)
          (omega (arith, most));
      cause = subst C (sym l.same) (cause_pool s t u.pool fault c);
    }

-- the moves of giving the answers, at each exit
given_moves : (t u : RigState) (w : Trunk) (r : Result Chain EmFault) → GivesAnswers t u w r
    → u.moves ≤ t.moves + min w.answers.blocks 1
given_moves t u w (Ok c) h = h.moves
given_moves t u w (Err fault) h = h.moves

given_later : (t u : RigState) (w : Trunk) (r : Result Chain EmFault) → GivesAnswers t u w r
    → t.moves ≤ u.moves
given_later t u w (Ok c) h = h.session.touches.moves
given_later t u w (Err fault) h = h.touches.moves

-- Moves after a settling are paid for: but for 64 of them, by what the settling is charged.
released_share : {shape : ShapeNumbers} {t u : Sums} (c : TreeCounts) (m r d : ℕ) → IsShape shape
    → Balanced shape c t → Charges shape c.k 0 m 0 (shape.block * d) t u
    → d + (r - 64) ≤ settle_rest shape c.k → c.spent + m + r ≤ tree_share shape (c.n + c.counted) c.k c.z (c.y + 1)
released_share {shape = shape} {t = t} {u = u} c m r d is b h most =
    let more = r - 64 in
    let rest = min r 64 in
    let B = shape.block in
    let few : rest ≤ 64 = min-le_right r 64 in
    let same : SameRoot u u = record { root = refl; blocks = refl } in
    let start = books_less c (count_moves 0 c) 0 0 refl refl refl refl refl refl (omega arith) (omega arith) b.books in
    let P : Counters → Type 0 = λ cs. IsCounted shape c cs t in
    let here = subst P (sym start.1) b.counted in
    let all = charges_books h c 0 refl start.0 in
    let sum : B * more + B * d ≤ B * (d + more) = omega arith in
    let e = call_settle more u is (call_begins all.call.books) start.0.counters t (d + more) same (sums_stay u)
    (omega (arith, sum)) most here all.only.still in
    let f = charge_debt rest u is (call_begins e.books) (B * rest) (sums_stay u) same (omega arith) in
    let now = count_settle more (count_moves (m + 0) c) in
    let known = counted_then shape now e.books.paid.fits f.0.books.paid.fits (omega (arith, f.0.books.n, e.books.n)) f.1
    (omega arith) e.counted in
    let k : B * rest ≤ B * (64 * floors_of shape c.k) = mul-le-mul_left B (omega (arith, few)) in
    let toll : B * rest ≤ toll_of shape c.k = omega (arith, k) in
    let within = books_counted f.0.books is known (omega (arith, toll)) in
    let split : more + rest ≡ r = omega arith in
    omega (arith, within, split)

module _ (key : Record → Record) (step : Option Record → Record → Step)
    (IsOp IsKept : Record → Type 0) (s t u : RigState) (v w : Trunk) (sound : Sound s)
    (few : v.settled < 2 ^ 100) (is : IsTrunk key IsOp IsKept s v) where
  -- The buffers weren't emptied.
  unsettled_left : (fault : EmFault) → StopsSettling (owing_all s (counted_settling s.pool.shape v)) s t
      (counted_settling s.pool.shape v) w fault
      → LeavesTrunk t u → StopsFinishing s u v fault
  unsettled_left fault x l =
      let wide = sound.shape.frames_low in
      stops_left _ fault x.stops.goes x.stops.pays x.stops.cause l (omega (arith, wide))

  -- They were, but the blocks weren't released.
  unreleased_left : (fault : EmFault)
      → StopsAfterSettling key step IsOp IsKept s t (counted_settling s.pool.shape v) w fault
      → LeavesTrunk t u → StopsFinishing s u v fault
  unreleased_left fault x l =
      let wide = sound.shape.frames_low in
      let a = x.settled.works in
      let b = x.stops in
      let one = min-le_right w.buffer.blocks 1 in
      let two = min-le_right w.answers.blocks 1 in
      let goes = goes_trans (trunk_blocks s v) (trunk_blocks x.mid w) s x.mid t
      (record { sound = a.session.sound; touches = a.session.touches; frames = a.frames }) b.goes
      (λ z k i o. a.session.within.off z k i o) in
      stops_left (trunk_unstored w) fault goes (pays_then a.pays b.pays b.goes.touches.moves)
      (cause_after (trunk_blocks s v) s x.mid t fault a.session.touches b.cause) l
      (omega (arith, wide, one, two))

  -- What `finish` did, of a tree whose blocks weren't released,
  finish_left : (fault : EmFault)
      → FinishesBlocks {T = Unit {0}} key step IsOp IsKept s t (counted_settling s.pool.shape v) w (Err fault)
      → LeavesTrunk t u → StopsFinishing s u v fault
  finish_left fault (inl x) l = unsettled_left fault x l
  finish_left fault (inr x) l = unreleased_left fault x l

  -- the answers weren't stored
  answers_left : (fault : EmFault)
      → FinishedBlocks key step IsOp IsKept s t (counted_settling s.pool.shape v) w
      → StopsAnswers t u w fault → StopsFinishing s u v fault
  answers_left fault x h =
      let a = x.settled.works in
      let b = x.released in
      let low = sound.shape.frames_low in
      let first : Session (trunk_blocks s v) s t (writer_blocks t w.answers) =
      session_trans a.session b.session in
      record {
        sound = h.sound;
        touches = touches_trans (trunk_blocks s v) (writer_blocks t w.answers) s t u first.touches
            h.touches (λ z k i o. first.within.off z k i o);
        frames = given_after s.pool t.pool u.pool
            (same_frames_then s.pool x.mid.pool t.pool a.frames b.same_frames) h.frames;
        pays = pays_more (pays_then a.pays
            (pays_then b.pays h.pays h.touches.moves) (omega (arith, b.session.touches.moves, h.touches.moves)))
            (omega (arith, low));
        cause = cause_after (trunk_blocks s v) s t u fault first.touches h.cause;
      }

  -- and of one whose blocks were.
  finish_given : (r : Result Chain EmFault)
      → FinishedBlocks key step IsOp IsKept s t (counted_settling s.pool.shape v) w
      → GivesAnswers t u w r → FinishesTrunk key step s u v r
  finish_given (Ok c) x h =
      let all = trunk_finished (running_counted few is.running) x.settled.works
      x.settled.none_waits x.settled.drained x.released h in
      record {
        chain = all.chain;
        packed = all.packed;
        session = all.session;
        frames = all.frames;
        pays = all.pays;
        loses = all.loses;
        answers = all.answers;
      }
  finish_given (Err fault) x h = answers_left fault x h

  -- A tree to which nothing was pushed releases two blocks,
  unused_left : (v.longest ≡ 0 → ReleasesUnused s t (counted_settling s.pool.shape v) w)
      → IsTrue s.device.told → v.longest ≡ 0 → t.moves ≤ s.moves + 4
  unused_left h told e =
      let m = (h e).moves told in
      let n = unused_blocks key step IsOp IsKept is told e sound.shape in
      omega (arith, m, n)

  -- and has no answer to store.
  unused_given : (v.longest ≡ 0 → ReleasesUnused s t (counted_settling s.pool.shape v) w)
      → (r : Result Chain EmFault) → GivesAnswers t u w r
      → IsTrue s.device.told → v.longest ≡ 0 → u.moves ≤ s.moves + 4
  unused_given h r g told e =
      let first = unused_left h told e in
      let none = none_written s v.answers is.running.answers told (is.silent told e) in
      let same : w.answers.blocks ≡ v.answers.blocks = ap (λ (z : Trunk). z.answers.blocks) (h e).same in
      let few = min-le_left w.answers.blocks 1 in
      let last = given_moves t u w r g in
      omega (arith, first, none, same, few, last)

  -- The moves after a settling that went well are paid for.
  settled_costs : (m : RigState) → SettledAll key step IsOp IsKept (owing_all s (counted_settling s.pool.shape v)) s m
      (counted_settling s.pool.shape v) w
      → m.moves ≤ u.moves
      → (IsTrue m.device.told → u.moves ≤ m.moves + 2 * length (tree_blocks w.level m w.root) + 1)
      → (IsTrue s.device.told → v.longest ≡ 0 → u.moves ≤ s.moves + 4) → FinishCosts s u v
  settled_costs m x later most none =
      let first = x.works.session.touches in
      record {
        later = omega (arith, first.moves, later);
        share = λ told.
            let over : IsTrue m.device.told = first.told ∙ told in
            let r = most over in
            let up = first.moves in
            let fits = released_toll key step IsOp IsKept s m v w sound is x told (u.moves - m.moves) (omega (arith, r)) in
            let all = released_share (counts_of v) (m.moves - s.moves) (u.moves - m.moves) x.debt
            sound.shape (is.books told) (x.works.charges told) fits in
            record { within = omega (arith, all, up, later) };
        unused = none;
      }

  -- The moves, at each exit: the buffers weren't emptied,
  unsettled_costs : (fault : EmFault) → StopsSettling (owing_all s (counted_settling s.pool.shape v)) s t
      (counted_settling s.pool.shape v) w fault
      → u.moves ≡ t.moves → (IsTrue s.device.told → v.longest ≡ 0 → u.moves ≤ s.moves + 4)
      → FinishCosts s u v
  unsettled_costs fault x same none =
      let up = x.stops.goes.touches.moves in
      record {
        later = omega (arith, up, same);
        share = λ told.
            let all = stopped_settling (counts_of v) (t.moves - s.moves) x.debt sound.shape (is.books told)
            (x.stops.charges told) (stopped_toll key step IsOp IsKept s t v w sound is x told) in
            record { within = omega (arith, all, up, same) };
        unused = none;
      }

  -- the blocks weren't released,
  left_costs : (fault : EmFault)
      → FinishesBlocks {T = Unit {0}} key step IsOp IsKept s t (counted_settling s.pool.shape v) w (Err fault)
      → LeavesTrunk t u → (v.longest ≡ 0 → ReleasesUnused s t (counted_settling s.pool.shape v) w)
      → FinishCosts s u v
  left_costs fault (inl x) l h =
      let same : u.moves ≡ t.moves = ap (λ (z : RigState). z.moves) l.same in
      unsettled_costs fault x same (λ told e. (let few = unused_left h told e in omega (arith, few, same)))
  left_costs fault (inr x) l h =
      let same : u.moves ≡ t.moves = ap (λ (z : RigState). z.moves) l.same in
      let up = x.stops.goes.touches.moves in
      settled_costs x.mid x.settled (omega (arith, up, same))
      (λ z. (let most = x.stops.moves z in omega (arith, most, same)))
      (λ told e. (let few = unused_left h told e in omega (arith, few, same)))

  -- or they were.
  given_costs : (r : Result Chain EmFault)
      → FinishedBlocks key step IsOp IsKept s t (counted_settling s.pool.shape v) w
      → GivesAnswers t u w r → (v.longest ≡ 0 → ReleasesUnused s t (counted_settling s.pool.shape v) w)
      → FinishCosts s u v
  given_costs r x g h =
      let up = x.released.session.touches.moves in
      let on = given_later t u w r g in
      let last = given_moves t u w r g in
      let one = min-le_right w.answers.blocks 1 in
      settled_costs x.mid x.settled (omega (arith, up, on))
      (λ z. (let most = x.released.moves z in omega (arith, most, last, one))) (unused_given h r g)

-- Giving the answers never needs a block.
answers_never : (t u : RigState) (w v : Trunk) (r : Result Chain EmFault) → GivesAnswers t u w r
    → FullIfUsed v r
answers_never t u w v (Ok c) h = tt
answers_never t u w v (Err fault) h = full_by fault ⊥ (v.longest ≡ 0 → ⊥) (λ x. absurd x) h.full

-- The whole call, by its parts.
module _ (key : Record → Record) (step : Option Record → Record → Step)
    (IsOp IsKept : Record → Type 0) (s t u : RigState) (v x w : Trunk) (shape : ShapeNumbers)
    (same : shape ≡ s.pool.shape) (begun : x ≡ counted_settling shape v) (sound : Sound s)
    (few : v.settled < 2 ^ 100) (is : IsTrunk key IsOp IsKept s v) where
  begun_as : x ≡ counted_settling s.pool.shape v
  begun_as = begun ∙ ap (λ g. counted_settling g v) same

  module _ (fault : EmFault)
      (h : FinishesBlocks {T = Unit {0}} key step IsOp IsKept s t x w (Err fault)) (l : LeavesTrunk t u) where
    stopped : FinishesBlocks {T = Unit {0}} key step IsOp IsKept s t (counted_settling s.pool.shape v) w
        (Err fault)
    stopped =
        let P : Trunk → Type 0 = λ z. FinishesBlocks {T = Unit {0}} key step IsOp IsKept s t z w (Err fault) in
        subst P begun_as h

    pub call_left_full : FullIfUsed {T = Unit {0}} x (Err fault) → FullIfUsed {T = Chain} v (Err fault)
    call_left_full h =
        let longest : x.longest ≡ v.longest = ap (λ (y : Trunk). y.longest) begun_as in
        full_by fault (x.longest ≡ 0 → ⊥) (v.longest ≡ 0 → ⊥) (λ f e. f (longest ∙ e)) h

    pub call_left : StopsFinishing s u v fault
    call_left = finish_left key step IsOp IsKept s t u v w sound few is fault stopped l

    pub call_left_room : IsTrue s.device.told
        → WithinRoom v.longest s u v × FullOverRoom v.longest s v fault
    call_left_room told = left_room sound is told fault stopped l

    pub call_left_costs : (x.longest ≡ 0 → ReleasesUnused s t x w) → FinishCosts s u v
    call_left_costs unused =
        let P : Trunk → Type 0 = λ z. z.longest ≡ 0 → ReleasesUnused s t z w in
        left_costs key step IsOp IsKept s t u v w sound few is fault stopped l (subst P begun_as unused)

  module _ (r : Result Chain EmFault) (h : FinishedBlocks key step IsOp IsKept s t x w)
      (g : GivesAnswers t u w r) where
    finished : FinishedBlocks key step IsOp IsKept s t (counted_settling s.pool.shape v) w
    finished =
        let P : Trunk → Type 0 = λ z. FinishedBlocks key step IsOp IsKept s t z w in
        subst P begun_as h

    pub call_given_full : FullIfUsed v r
    call_given_full = answers_never t u w v r g

    pub call_given : FinishesTrunk key step s u v r
    call_given = finish_given key step IsOp IsKept s t u v w sound few is r finished g

    pub call_given_room : IsTrue s.device.told
        → WithinRoom v.longest s u v × IfErr r (FullOverRoom v.longest s v)
    call_given_room told = given_room sound is told r finished g

    pub call_given_costs : (x.longest ≡ 0 → ReleasesUnused s t x w) → FinishCosts s u v
    call_given_costs unused =
        let P : Trunk → Type 0 = λ z. z.longest ≡ 0 → ReleasesUnused s t z w in
        given_costs key step IsOp IsKept s t u v w sound few is r finished g (subst P begun_as unused)
