-- A call that takes records out begins, and ends: its counts, its share, and what it leaves.
use Rattle.std.proofs.Common.{◌≡◌, true, false, Bool, ℕ, ◌+◌, ◌-◌, ◌^◌, ◌<◌, ◌≤◌, List, [], take, refl, sym, ap, ◌∙◌, subst, arith, IsTrue, inl, inr}
use Rattle.std.specs.Prelude.{Option, Result, Ok, Err, IsErrAnd, IfErr}
use Rattle.em_record.specs.Order.{IsAscending}
use Rattle.em_record.specs.Shape.{ShapeNumbers}
use Rattle.em_record.specs.declared.record.Record.{Record}
use Rattle.em_space.specs.Queue.{CanServe}
use Rattle.em_space.specs.Rig.{RigState, Sound}
use Rattle.em_space.specs.declared.fault.EmFault.{EmFault}
use Rattle.em_space.proofs.Paying.{pays_more}
use Rattle.em_settle.specs.Laws.{IsSettle}
use Rattle.em_settle.specs.declared.step.Step.{Step}
use Rattle.em_tree_model.specs.Owed.{owed}
use Rattle.em_tree_model.specs.Taking.{LeavesTaken}
use Rattle.em_tree_model.proofs.Taking.{leaves_taken, rising_ascends}
use Rattle.em_tree_cost.specs.Books.{Balanced, TreeCounts, count_all, count_drain, count_moves}
use Rattle.em_tree_cost.proofs.Books.{books_share}
use Rattle.em_tree_cost.proofs.InCall.{call_begins}
use Rattle.em_trunk.specs.Buffers.{IsThin}
use Rattle.em_tree.specs.Calls.{CountsCall, KeepsShare, StopsTrunk}
use Rattle.em_trunk.specs.Counting.{counted_moves, counted_reset, counted_all}
use Rattle.em_trunk.specs.Spots.{EachRead}
use Rattle.em_tree_visits.specs.FirstVisits.{CanTakeAll, EndsAs, EndsBooks, LeavesEmpty, LeavesMore, TakesAllFirst, TakesOn, TookAllFirst}
use Rattle.em_tree.specs.Taking.{CountsTake, TakesFirstTo, TookFirst}
use Rattle.em_trunk.specs.Trunk.{IsRunning, IsTrunk, counts_of, full_limit, given_by, model_of, sums_in}
use Rattle.em_tree_visits.specs.Visits.{StopsVisit, TakesSteps}
use Rattle.em_trunk.specs.declared.trunk.Trunk.{Trunk}
use Rattle.em_tree_visits.specs.declared.visiting.Taken.{Taken}
use Rattle.em_trunk.proofs.Bounded.{limit_some}
use Rattle.em_trunk.proofs.Charges.{books_less}
use Rattle.em_tree.proofs.Counted.{running_moved, same_counts}
use Rattle.em_trunk.proofs.Steps.{books_anew, since_call}
use Rattle.em_tree.proofs.Unused.{one_leaf, silent_on}
use Rattle.em_trunk.specs.Works.{FullIfWaits, CanWork}
use Rattle.em_tree.proofs.RoomCalls.{taking_room}
use Rattle.em_trunk.specs.Room.{FullOverRoom, WithinRoom}

-- what a call gave that went well
abbrev pub taken_ok : ℕ → Result ℕ EmFault
taken_ok n = Ok n

-- the tree once its moves are counted, and a reset
abbrev pub moved_on : RigState → RigState → Trunk → Trunk
moved_on s t w = counted_moves (t.moves - s.moves) w

abbrev pub reset_on : RigState → RigState → Trunk → Trunk
reset_on s t w = counted_reset (counted_moves (t.moves - s.moves) w)

module _ (key : Record → Record) (step : Option Record → Record → Step) (IsOp IsKept : Record → Type 0)
    {s : RigState} {v : Trunk} (sound : Sound s) (is : IsTrunk key IsOp IsKept s v) where
  abbrev begun : Trunk
  begun = counted_all s.pool.shape v

  running_all : IsRunning key IsOp IsKept s v → IsRunning key IsOp IsKept s begun
  running_all r =
      let n = r.numbers in
      record {
        frames = record { buffer = r.frames.buffer; answers = r.frames.answers; out = r.frames.out };
        numbers = record {
          level_some = n.level_some;
          level_most = n.level_most;
          since_most = n.since_most;
          longest_most = n.longest_most;
          pushed_most = n.pushed_most;
          settled_most = n.settled_most;
          resets_most = n.resets_most;
          adopted_most = n.adopted_most;
          counted_most = omega arith;
          spent_most = n.spent_most;
          root_below = n.root_below;
        };
        buffer = r.buffer;
        answers = r.answers;
        stands = λ told. (let st = r.stands told in record {
          holds = st.holds;
          stored = st.stored;
          formed = st.formed;
          is = st.is;
          turn = st.turn;
          lows = st.lows;
          sized = st.sized;
          bounded = st.bounded;
          packed = st.packed;
          answers_packed = st.answers_packed;
        });
      }

  -- The call can begin,
  pub begun_works : CanServe s.pool → CanWork key IsOp IsKept s begun
  begun_works free = record {
    sound = sound;
    running = running_all is.running;
    free = omega (arith, free.singles);
    areas = free.areas;
    rack = free.rack;
  }

  begun_few : v.longest ≤ 2 ^ 101
  begun_few = (let n = is.running.numbers in omega (arith, n.longest_most, n.pushed_most))

  -- and has its steps.
  pub begun_takes : CanTakeAll s begun
  begun_takes = record {
    drain = record { most = omega (arith, is.few); blocks = is.blocks; thin = is.thin };
    steps = λ told.
        let x : TakesSteps s begun = record {
          counts = since_call (counts_of v);
          owed = 0;
          handed = 0;
          split = 0;
          longest = refl;
          few = begun_few;
          none_taken = refl;
          none_settled = refl;
          books = call_begins (books_anew (omega arith) (is.books told).books);
          left = omega arith;
        } in
        (x, refl, refl, refl);
  }

  module _ (laws : IsSettle key step IsOp IsKept) {t : RigState} {w : Trunk} where
    -- It went well.
    module _ {area : List Record} {x : Taken} (h : TookAllFirst key step IsOp IsKept x area s t begun w) where
      abbrev m : ℕ
      m = t.moves - s.moves

      on : TakesOn key step IsOp IsKept (take x.count area) s t begun w
      on = h.takes

      back : IsTrue t.device.told → IsTrue s.device.told
      back z = sym on.session.touches.told ∙ z

      shape_is : t.pool.shape ≡ s.pool.shape
      shape_is = on.session.touches.shape

      spent_is : w.spent ≡ v.spent
      spent_is = on.numbers.spent

      spent_most : w.spent + m ≤ t.moves
      spent_most =
          let n = is.running.numbers.spent_most in
          let later = on.session.touches.moves in
          let e = spent_is in
          omega (arith, n, later, e)

      taken_as : IsTrue s.device.told
          → LeavesTaken key step (take x.count area) (given_by s v) (model_of s v) (given_by t w) (model_of t w)
      taken_as told =
          let st = is.running.stands told in
          leaves_taken key step IsOp IsKept (given_by s v) (model_of s v) (take x.count area) (given_by t w)
          (model_of t w) st.is st.turn (on.takes told)

      ascends_as : IsTrue s.device.told → IsAscending (take x.count area)
      ascends_as told =
          rising_ascends key (take x.count area) laws.in_order (taken_as told).out.rises

      silent_as : IsTrue t.device.told → w.longest ≡ 0 → given_by t w ≡ []
      silent_as z e = silent_on key step IsOp IsKept is (back z) (sym on.numbers.longest ∙ e) (given_by t w)
          (owed key step (model_of t w)) (taken_as (back z)).answers

      thin_as : IsTrue t.device.told → EachRead (IsThin (full_limit t.pool.shape)) t w
      thin_as z =
          let T : ℕ → Type 0 = λ n. EachRead (IsThin n) t w in
          subst T (sym (ap full_limit shape_is)) (on.thin (back z))

      -- Some are left.
      module _ (some : x.reset ≡ false) where
        more : IsTrue s.device.told → LeavesMore key step x.count t w
        more told = (let P : Bool → Type 0 = λ b. EndsAs b key step x.count t w in subst P some (h.ends told))

        more_books : IsTrue s.device.told
            → Balanced s.pool.shape (counts_of (moved_on s t w)) (sums_in t w)
        more_books told =
            let P : Bool → Type 0 = λ b. EndsBooks b s.pool.shape m (counts_of v) (sums_in t w) in
            let e = subst P some (h.books told (counts_of v) refl (is.books told).books) in
            let n = on.numbers in
            let spent = spent_is in
            let x = books_less (count_moves m (counts_of v)) (counts_of (moved_on s t w)) 0 0 n.pushed n.longest n.since
            n.resets n.settled n.adopted (omega (arith, spent)) (omega arith) e in
            record { books = x.0; counted = inl (n.counted ∙ sym n.adopted) }

        pub takes_more : TookFirst key step IsOp IsKept area x.count s t v (moved_on s t w)
        takes_more =
            let limit = limit_some on.session.sound.shape in
            let drained = on.drained in
            record {
              is = record {
                running = running_moved m spent_most on.running;
                few = (let z = drained.empty in omega (arith, z, limit));
                unused = λ e. drained.unwritten;
                silent = silent_as;
                blocks = (let z = drained.unwritten in omega (arith, z));
                thin = thin_as;
                books = λ z.
                    let P : ShapeNumbers → Type 0 = λ g. Balanced g (counts_of (moved_on s t w))
                    (sums_in t w) in
                    subst P (sym shape_is) (more_books (back z));
              };
              session = on.session;
              frames = on.frames;
              pays = on.pays;
              loses = on.loses;
              few = h.few;
              taken = taken_as;
              ascends = ascends_as;
              ends = λ told.
                  let e = more told in
                  inl (record { many = e.many; some = e.some; resets = on.numbers.resets });
            }

        pub counts_more : CountsCall count_all s t v (moved_on s t w)
        counts_more =
            let n = on.numbers in
            let spent = spent_is in
            let later = on.session.touches.moves in
            record {
              counts = same_counts (counts_of (moved_on s t w))
                  (count_all (record (counts_of v) { spent = (moved_on s t w).spent })) n.pushed n.longest n.since refl
                  n.resets n.settled n.adopted n.counted;
              spent = omega (arith, spent, later);
              share = λ told. record { within = books_share sound.shape (more_books told) };
            }

      -- Nothing is: a reset is counted.
      module _ (none : x.reset ≡ true) where
        empty : IsTrue s.device.told → LeavesEmpty key step t w
        empty told = (let P : Bool → Type 0 = λ b. EndsAs b key step x.count t w in subst P none (h.ends told))

        reset_books : IsTrue s.device.told
            → Balanced s.pool.shape (counts_of (reset_on s t w)) (sums_in t w)
        reset_books told =
            let P : Bool → Type 0 = λ b. EndsBooks b s.pool.shape m (counts_of v) (sums_in t w) in
            let e = subst P none (h.books told (counts_of v) refl (is.books told).books) in
            let n = on.numbers in
            let spent = spent_is in
            let resets = n.resets in
            let x = books_less (count_drain m (counts_of v)) (counts_of (reset_on s t w)) 0 0 n.pushed n.longest refl
            (omega (arith, resets)) n.settled n.adopted (omega (arith, spent)) (omega arith) e in
            record { books = x.0; counted = inl (n.counted ∙ sym n.adopted) }

        -- it stands as it did
        reset_runs : v.resets < 2 ^ 100 → IsRunning key IsOp IsKept t (reset_on s t w)
        reset_runs few =
            let r = on.running in
            let n = r.numbers in
            let spent = spent_most in
            let resets = on.numbers.resets in
            record {
              frames = record { buffer = r.frames.buffer; answers = r.frames.answers; out = r.frames.out };
              numbers = record {
                level_some = n.level_some;
                level_most = n.level_most;
                since_most = omega arith;
                longest_most = n.longest_most;
                pushed_most = n.pushed_most;
                settled_most = n.settled_most;
                resets_most = omega (arith, resets, few);
                adopted_most = n.adopted_most;
                counted_most = n.counted_most;
                spent_most = spent;
                root_below = n.root_below;
              };
              buffer = r.buffer;
              answers = r.answers;
              stands = λ told. (let st = r.stands told in record {
                holds = st.holds;
                stored = st.stored;
                formed = st.formed;
                is = st.is;
                turn = st.turn;
                lows = st.lows;
                sized = st.sized;
                bounded = st.bounded;
                packed = st.packed;
                answers_packed = st.answers_packed;
              });
            }

        pub takes_rest : v.resets < 2 ^ 100 → TookFirst key step IsOp IsKept area x.count s t v (reset_on s t w)
        takes_rest few =
            let limit = limit_some on.session.sound.shape in
            let drained = on.drained in
            record {
              is = record {
                running = reset_runs few;
                few = (let z = drained.empty in omega (arith, z, limit));
                unused = λ e. drained.unwritten;
                silent = silent_as;
                blocks = (let z = drained.unwritten in omega (arith, z));
                thin = thin_as;
                books = λ z.
                    let P : ShapeNumbers → Type 0 = λ g. Balanced g (counts_of (reset_on s t w))
                    (sums_in t w) in
                    subst P (sym shape_is) (reset_books (back z));
              };
              session = on.session;
              frames = on.frames;
              pays = on.pays;
              loses = on.loses;
              few = h.few;
              taken = taken_as;
              ascends = ascends_as;
              ends = λ told.
                  let e = empty told in
                  let r = on.numbers.resets in
                  inr (record {
                    contents = e.contents;
                    stored = e.stored;
                    waiting = e.waiting;
                    level = (one_leaf sound.shape (reset_books told).books refl).level;
                    resets = omega (arith, r);
                  });
            }

        pub counts_rest : CountsCall (λ c. count_drain 0 (count_all c)) s t v (reset_on s t w)
        counts_rest =
            let n = on.numbers in
            let spent = spent_is in
            let resets = n.resets in
            let later = on.session.touches.moves in
            record {
              counts = same_counts (counts_of (reset_on s t w))
                  (count_drain 0 (count_all (record (counts_of v) { spent = (reset_on s t w).spent }))) n.pushed n.longest
                  refl (omega arith) (omega (arith, resets)) n.settled n.adopted n.counted;
              spent = omega (arith, spent, later);
              share = λ told. record { within = books_share sound.shape (reset_books told) };
            }

    -- It gave up.
    module _ {fault : EmFault} (h : StopsVisit 0 0 s t begun w fault) where
      pub takes_stopped : StopsTrunk s t v (moved_on s t w) fault
      takes_stopped =
          let wide = sound.shape.frames_low in
          record {
            goes = h.goes;
            frames = record { buffer = h.frames.buffer; answers = h.frames.answers; out = h.frames.out };
            pays = pays_more h.pays (omega (arith, wide));
            cause = h.cause;
          }

      pub counts_stopped : CountsCall count_all s t v (moved_on s t w)
      counts_stopped =
          let n = h.numbers in
          let spent = n.spent in
          let later = h.goes.touches.moves in
          let same = same_counts (counts_of (moved_on s t w))
          (count_all (record (counts_of v) { spent = (moved_on s t w).spent })) n.pushed n.longest n.since refl n.resets
          n.settled n.adopted n.counted in
          let P : TreeCounts → Type 0 = KeepsShare s.pool.shape in
          record {
            counts = same;
            spent = omega (arith, spent, later);
            share = λ told. subst P (sym same) (record {
              within =
                  let all = h.share told (counts_of v) 0 refl (call_begins (is.books told).books) in
                  omega (arith, all, spent);
            });
          }

-- By the result of the visits: what the call leaves, and what it counts.
module _ (key : Record → Record) (step : Option Record → Record → Step) (IsOp IsKept : Record → Type 0)
    (s t : RigState) (v w : Trunk) (area : List Record) (sound : Sound s) (is : IsTrunk key IsOp IsKept s v)
    (laws : IsSettle key step IsOp IsKept) where
  -- no move was taken back
  pub taking_later : (r : Result Taken EmFault)
      → TakesAllFirst key step IsOp IsKept area s t (counted_all s.pool.shape v) w r → s.moves ≤ t.moves
  taking_later (Ok x) h = h.takes.session.touches.moves
  taking_later (Err fault) h = h.goes.touches.moves

  pub taking_spent : (r : Result Taken EmFault)
      → TakesAllFirst key step IsOp IsKept area s t (counted_all s.pool.shape v) w r → w.spent ≤ s.moves
  taking_spent (Ok x) h =
      let a = h.takes.numbers.spent in let b = is.running.numbers.spent_most in omega (arith, a, b)
  taking_spent (Err fault) h =
      let a = h.numbers.spent in let b = is.running.numbers.spent_most in omega (arith, a, b)

  pub taking_err : (r : Result ℕ EmFault) (fault : EmFault) → IsErrAnd r (λ f. f ≡ fault)
      → StopsVisit 0 0 s t (counted_all s.pool.shape v) w fault
      → TakesFirstTo key step IsOp IsKept area s t v (moved_on s t w) r
      × CountsTake s t v (moved_on s t w) r
  taking_err (Ok n) fault e h = absurd e
  taking_err (Err f) fault e h =
      let P : EmFault → Type 0 = λ z. StopsTrunk s t v (moved_on s t w) z × CountsCall count_all s t v
      (moved_on s t w) in
      subst P (sym e) (
        takes_stopped key step IsOp IsKept sound is laws h,
        counts_stopped key step IsOp IsKept sound is laws h,
      )

-- The whole call, by its parts.
module _ (key : Record → Record) (step : Option Record → Record → Step) (IsOp IsKept : Record → Type 0)
    {s : RigState} {v x : Trunk} (shape : ShapeNumbers) (same : shape ≡ s.pool.shape)
    (counted : x ≡ counted_all shape v) (sound : Sound s) (is : IsTrunk key IsOp IsKept s v) where
  begun_as : x ≡ counted_all s.pool.shape v
  begun_as = counted ∙ ap (λ g. counted_all g v) same

  pub take_works : CanServe s.pool → CanWork key IsOp IsKept s x
  take_works free =
      let P : Trunk → Type 0 = CanWork key IsOp IsKept s in
      subst P (sym begun_as) (begun_works key step IsOp IsKept sound is free)

  pub take_can : CanTakeAll s x
  take_can =
      let P : Trunk → Type 0 = CanTakeAll s in
      subst P (sym begun_as) (begun_takes key step IsOp IsKept sound is)

  -- What it needed, if it was full.
  pub take_needs : {t : RigState} {w : Trunk} (r : Result ℕ EmFault) (fault : EmFault)
      → IsErrAnd r (λ f. f ≡ fault) → StopsVisit 0 0 s t x w fault → IfErr r (FullIfWaits s v)
  take_needs (Ok n) fault e h = tt
  take_needs (Err f) fault e h =
      let P : Trunk → Type 0 = λ z. FullIfWaits s z fault in
      let Q : EmFault → Type 0 = FullIfWaits s v in
      subst Q (sym e) (subst P begun_as h.needs)

  -- It keeps within the room.
  pub take_room : (area : List Record) {t : RigState} (w : Trunk) (r : Result Taken EmFault)
      → TakesAllFirst key step IsOp IsKept area s t x w r → IsTrue s.device.told
      → WithinRoom v.longest s t v × IfErr r (FullOverRoom v.longest s v)
  take_room area {t} w r h told =
      let P : Trunk → Type 0 = λ z. TakesAllFirst key step IsOp IsKept area s t z w r in
      taking_room sound is told step area w r (subst P begun_as h)

  module _ (laws : IsSettle key step IsOp IsKept) (t : RigState) (w : Trunk) (area : List Record) {before : ℕ}
      (start : before ≡ s.moves) where
    from_begun : (r : Result Taken EmFault) → TakesAllFirst key step IsOp IsKept area s t x w r
        → TakesAllFirst key step IsOp IsKept area s t (counted_all s.pool.shape v) w r
    from_begun r h =
        let P : Trunk → Type 0 = λ z. TakesAllFirst key step IsOp IsKept area s t z w r in subst P begun_as h

    -- the moves can be counted
    pub take_later : (r : Result Taken EmFault) → TakesAllFirst key step IsOp IsKept area s t x w r
        → before ≤ t.moves
    take_later r h =
        let later = taking_later key step IsOp IsKept s t v w area sound is laws r (from_begun r h) in
        omega (arith, later, start)

    pub take_spent : (r : Result Taken EmFault) → TakesAllFirst key step IsOp IsKept area s t x w r
        → w.spent ≤ before
    take_spent r h =
        let spent = taking_spent key step IsOp IsKept s t v w area sound is laws r (from_begun r h) in
        omega (arith, spent, start)

    module _ {y : Trunk} {m : ℕ} (moved : y ≡ counted_moves m w) (made : m ≡ t.moves - before) where
      moved_as : y ≡ moved_on s t w
      moved_as = moved ∙ ap (λ n. counted_moves n w) (made ∙ ap (λ n. t.moves - n) start)

      -- It gave up,
      pub take_err : (r : Result ℕ EmFault) (fault : EmFault) → IsErrAnd r (λ f. f ≡ fault)
          → StopsVisit 0 0 s t x w fault
          → TakesFirstTo key step IsOp IsKept area s t v y r × CountsTake s t v y r
      take_err r fault e h =
          let P : Trunk → Type 0 = λ z. StopsVisit 0 0 s t z w fault in
          let Q : Trunk → Type 0 = λ z. TakesFirstTo key step IsOp IsKept area s t v z r × CountsTake s t v z r in
          subst Q (sym moved_as) (taking_err key step IsOp IsKept s t v w area sound is laws r fault e (subst P begun_as h))

      module _ (taken : Taken) (h : TookAllFirst key step IsOp IsKept taken area s t x w) where
        took : TookAllFirst key step IsOp IsKept taken area s t (counted_all s.pool.shape v) w
        took = (let P : Trunk → Type 0 = λ z. TookAllFirst key step IsOp IsKept taken area s t z w in
            subst P begun_as h)

        -- left some,
        pub take_some : taken.reset ≡ false
            → TookFirst key step IsOp IsKept area taken.count s t v y × CountsTake s t v y (taken_ok taken.count)
        take_some e =
            let P : Trunk → Type 0 = λ z. TookFirst key step IsOp IsKept area taken.count s t v z
            × CountsTake s t v z (taken_ok taken.count) in
            subst P (sym moved_as) (
              takes_more key step IsOp IsKept sound is laws took e,
              inl (counts_more key step IsOp IsKept sound is laws took e),
            )

        -- or nothing.
        module _ {z : Trunk} (counted_as : z ≡ counted_reset y) (none : taken.reset ≡ true) where
          reset_as : z ≡ reset_on s t w
          reset_as = counted_as ∙ ap counted_reset moved_as

          pub take_rest : v.resets < 2 ^ 100
              → TookFirst key step IsOp IsKept area taken.count s t v z × CountsTake s t v z (taken_ok taken.count)
          take_rest few =
              let P : Trunk → Type 0 = λ k. TookFirst key step IsOp IsKept area taken.count s t v k
              × CountsTake s t v k (taken_ok taken.count) in
              subst P (sym reset_as) (
                takes_rest key step IsOp IsKept sound is laws took none few,
                inr (counts_rest key step IsOp IsKept sound is laws took none),
              )
