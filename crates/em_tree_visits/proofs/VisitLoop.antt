-- The visits of a call that takes records out, one after another.
use Rattle.std.proofs.Common.{◌≡◌, true, false, Bool, ℕ, zero, suc, ◌+◌, ◌-◌, ◌*◌, ◌<◌, ◌≤◌, List, [], ◌∷◌, ◌++◌, drop, length, take, refl, sym, ap, ◌∙◌, subst, arith, IsTrue, ◌⊎◌, inl, inr, ⊎_elim}
use Rattle.std.specs.Prelude.{Option, Result, Ok, Err, IsErrAnd}
use Rattle.std.proofs.Math.Nat.{mul-le-mul_left}
use Rattle.std.proofs.lemmas.List.{length-append, length-take}
use Rattle.em_record.specs.Shape.{ShapeNumbers, fan_of}
use Rattle.em_record.specs.declared.record.Record.{Record}
use Rattle.em_frames.specs.Pool.{load_of}
use Rattle.em_space.specs.Queue.{Pays}
use Rattle.em_space.specs.Rig.{RigState}
use Rattle.em_space.specs.declared.fault.EmFault.{EmFault}
use Rattle.em_space.proofs.Paying.{pays_then}
use Rattle.em_space.proofs.Sessions.{session_trans}
use Rattle.em_space.proofs.Steps.{cause_after, goes_trans, same_frames_then}
use Rattle.em_settle.specs.declared.step.Step.{Step}
use Rattle.em_tree_model.specs.Taking.{TakesFirst}
use Rattle.em_tree_model.proofs.Taking.{takes_none, takes_then}
use Rattle.em_tree_cost.specs.Books.{InCall, TreeCounts, WasSplit, count_drain, count_moves}
use Rattle.em_tree_cost.specs.Counters.{Sums}
use Rattle.em_tree_cost.specs.Shares.{tree_share}
use Rattle.em_tree_cost.specs.Visits.{root_debt}
use Rattle.em_tree_cost.proofs.InCall.{call_begins, call_known}
use Rattle.em_tree_walk.proofs.Losses.{loses_then}
use Rattle.em_trunk.specs.Buffers.{IsThin}
use Rattle.em_trunk.specs.Spots.{EachRead}
use Rattle.em_trunk.specs.Events.{step_allowance}
use Rattle.em_tree_visits.specs.FirstVisits.{CanTakeAll, CanVisit, EmptiedTop, EndsBooks, IsSingle, OwesAt, OwesBefore, StopsOnWay, TakesAllFirst, TookAllFirst, VisitedLast, VisitedMore, Visiting}
use Rattle.em_trunk.specs.Trunk.{full_limit, given_by, model_of, sums_in, trunk_blocks, trunk_unstored}
use Rattle.em_tree_visits.specs.Visits.{ChargesTaking, StopsVisit, TakesSteps, WorksTaking}
use Rattle.em_trunk.specs.declared.trunk.Trunk.{Trunk}
use Rattle.em_tree_visits.specs.declared.visiting.Taken.{Taken}
use Rattle.em_trunk.proofs.Charges.{books_less, call_fewer}
use Rattle.em_tree_buffers.proofs.ClearSteps.{deepest_same}
use Rattle.em_tree_visits.proofs.VisitBooks.{single_or}
use Rattle.em_trunk.proofs.Works.{moves_then, numbers_then}
use Rattle.em_trunk.proofs.Waits.{none_taken_on, waits_after}
use Rattle.em_trunk.proofs.Rooms.{hold_any, keeps_then, stops_then}
use Rattle.em_tree_visits.proofs.RoomVisits.{hold_taking}
use Rattle.em_trunk.specs.Works.{CanWork, deepest}

abbrev no_record : List Record
no_record = []

take_nothing : (n : ℕ) → take n no_record ≡ no_record
take_nothing zero = refl
take_nothing (suc n) = refl

-- the first records of a list in two parts
pub take_parts : (a n : ℕ) (xs : List Record) → a ≤ n → take n xs ≡ take a xs ++ take (n - a) (drop a xs)
take_parts zero n xs h =
    let z : n ≡ n - 0 = omega arith in
    let P : ℕ → Type 0 = λ k. take n xs ≡ take k xs in
    subst P z refl
take_parts (suc a) zero xs h = absurd (omega (arith, h))
take_parts (suc a) (suc n) [] h =
    let z : n - a ≡ suc n - suc a = omega arith in
    let P : ℕ → Type 0 = λ k. no_record ≡ take k (drop (suc a) no_record) in
    subst P z (sym (take_nothing (n - a)))
take_parts (suc a) (suc n) (x ∷ xs) h =
    let z : n - a ≡ suc n - suc a = omega arith in
    let P : ℕ → Type 0 = λ k. x ∷ take n xs ≡ x ∷ (take a xs ++ take k (drop a xs)) in
    subst P z (ap (λ (ys : List Record). x ∷ ys) (take_parts a n xs (omega (arith, h))))

-- A call's end, over the counts that were moved on.
ends_as : (reset : Bool) (shape : ShapeNumbers) (m n total : ℕ) (c : TreeCounts) (u : Sums) → total ≤ m + n
    → EndsBooks reset shape n (count_moves m c) u → EndsBooks reset shape total c u
ends_as false shape m n total c u h b = (books_less (count_moves n (count_moves m c)) (count_moves total c) 0 0
    refl refl refl refl refl refl (omega (arith, h)) (omega arith) b).0
ends_as true shape m n total c u h b = (books_less (count_drain n (count_moves m c)) (count_drain total c) 0 0
    refl refl refl refl refl refl (omega (arith, h)) (omega arith) b).0

module _ (key : Record → Record) (step : Option Record → Record → Step) (IsOp IsKept : Record → Type 0)
    {s : RigState} {v : Trunk} (can : CanWork key IsOp IsKept s v) (take_all : CanTakeAll s v) where
  -- The loop begins.
  module _ {t : RigState} {w : Trunk} (top : EmptiedTop key step IsOp IsKept s t v w) where
    abbrev first_owed : ℕ
    first_owed = s.pool.shape.block * top.debt

    -- the books then, after so many moves or steps
    began : (m l : ℕ) (c : TreeCounts) (h : ℕ)
        → (InCall s.pool.shape (count_moves m c) first_owed h 0 (sums_in t w)
        → InCall s.pool.shape (count_moves m c) first_owed h l (sums_in t w))
        → (InCall s.pool.shape (count_moves 0 c) 0 h 0 (sums_in s v)
        → InCall s.pool.shape (count_moves (m + 0) c) (0 + first_owed) h 0 (sums_in t w))
        → InCall s.pool.shape c 0 h 0 (sums_in s v)
        → InCall s.pool.shape (count_moves m c) first_owed (h + 0) l (sums_in t w)
    began m l c h known through b =
        let P : ℕ → Type 0 = λ k. InCall s.pool.shape (count_moves m c) first_owed k l (sums_in t w) in
        let z : h ≡ h + 0 = omega arith in
        let start = call_fewer c (count_moves 0 c) 0 0 refl refl refl refl refl refl (omega arith) (omega arith) b in
        subst P z (known (call_fewer (count_moves (m + 0) c) (count_moves m c) (0 + first_owed) first_owed
        refl refl refl refl refl refl (omega arith) (omega arith) (through start)))

    visiting_by : (area : List Record) (l : ℕ)
        → ((c : TreeCounts) (h : ℕ) → InCall s.pool.shape c first_owed h 0 (sums_in t w)
        → InCall s.pool.shape c first_owed h l (sums_in t w))
        → (IsTrue s.device.told → OwesBefore first_owed l t w)
        → Visiting key step IsOp IsKept 0 area s t v w
    visiting_by area l known owes = record {
      steps = top.taken;
      owed = first_owed;
      split = l;
      few = omega arith;
      works = record {
        session = top.works.session;
        frames = top.works.frames;
        pays = top.works.pays;
        loses = top.works.loses;
        numbers = top.works.numbers;
        steps = top.works.steps;
        running = top.works.running;
        takes = λ told.
            let c = top.works.continues told in
            takes_none key step IsOp IsKept (given_by s v) (model_of s v) (given_by t w) (model_of t w)
            c.represents c.advances;
        charges = λ told. record {
          books = λ c h same b. began (t.moves - s.moves) l c h (known (count_moves (t.moves - s.moves) c) h)
              (λ x. ((top.works.charges told).books c 0 h 0 same x).call) b;
        };
        paces = λ told. record {
          books = λ c h same b. began top.taken l c h (known (count_moves top.taken c) h)
              (λ x. ((top.works.paces told).books c 0 h 0 same x).call) b;
        };
        gives = top.works.gives;
        room = top.works.room;
      };
      owes = owes;
      thin = top.thin;
      drained = top.drained;
    }

    same_deep : deepest t w ≡ deepest s v
    same_deep = deepest_same top.works

    same_shape : t.pool.shape ≡ s.pool.shape
    same_shape = top.works.session.touches.shape

    -- what is owed, by the numbers after it
    owes_by : (l : ℕ) → OwesAt s.pool.shape (root_debt s.pool.shape (deepest s v)) 0 (13 + deepest s v)
        first_owed l (sums_in t w) → OwesBefore first_owed l t w
    owes_by l o =
        let P : ℕ → Type 0 = λ n. OwesAt s.pool.shape (root_debt s.pool.shape n) 0 (13 + n) first_owed l
        (sums_in t w) in
        let Q : ShapeNumbers → Type 0 = λ h. OwesAt h (root_debt h (deepest t w)) 0 (13 + deepest t w) first_owed l
        (sums_in t w) in
        subst Q (sym same_shape) (subst P (sym same_deep) o)

    pub loop_begins : (area : List Record) → Visiting key step IsOp IsKept 0 area s t v w
    loop_begins area =
        let B = s.pool.shape.block in
        ⊎_elim
        (λ (i : IsSingle (sums_in t w)). visiting_by area 0 (λ c h b. b) (λ told. owes_by 0
        (let m : B * top.debt ≤ B * (13 + deepest s v) = mul-le-mul_left B (top.few told i) in
        record { either = inr (i, omega (arith, m)) })))
        (λ (n : (2 ≤ (sums_in t w).leaves) ⊎ (2 ≤ (sums_in t w).level)).
        (let known : WasSplit 0 (sums_in t w) = record { some = inr n } in
        visiting_by area 1 (λ c h b. call_known b known) (λ told. owes_by 1
        (let m : B * top.debt ≤ B * root_debt s.pool.shape (deepest s v) = mul-le-mul_left B (top.most told) in
        record { either = inl (omega arith, m) }))))
        (single_or (sums_in t w))

  module _ {t : RigState} {w : Trunk} {area : List Record} (taken : ℕ)
      (loop : Visiting key step IsOp IsKept taken area s t v w) where
    on : IsTrue s.device.told → IsTrue t.device.told
    on told = loop.works.session.touches.told ∙ told

    back : IsTrue t.device.told → IsTrue s.device.told
    back told = sym loop.works.session.touches.told ∙ told

    shape_now : t.pool.shape ≡ s.pool.shape
    shape_now = loop.works.session.touches.shape

    pub loop_can : CanWork key IsOp IsKept t w
    loop_can = record {
      sound = loop.works.session.sound;
      running = loop.works.running;
      free = rw (loop.works.frames.shape, loop.works.frames.free) can.free;
      areas = rw (loop.works.frames.free_areas) can.areas;
      rack = rw (loop.works.frames.rack) can.rack;
    }

    -- The call has its steps.
    loop_steps : IsTrue s.device.told → (x : TakesSteps t w) × (x.owed ≡ loop.owed) × (x.split ≡ loop.split)
    loop_steps told =
        let y = take_all.steps told in
        let q = y.0 in
        let c = q.counts in
        let shape = s.pool.shape in
        let O : ℕ → Type 0 = λ n. InCall shape c n q.handed q.split (sums_in s v) in
        let S : ℕ → Type 0 = λ n. InCall shape c 0 q.handed n (sums_in s v) in
        let start = subst S y.3 (subst O y.1 q.books) in
        let e = (loop.works.paces told).books c q.handed q.longest start in
        let h = q.handed + length (take taken area) in
        let K : ShapeNumbers → Type 0 = λ g. InCall g (count_moves loop.steps c) loop.owed h loop.split
        (sums_in t w) in
        let A : ShapeNumbers → Type 0 = λ g. w.steps + (c.spent + loop.steps) ≡ step_allowance g (c.n + c.k) c.k in
        let left = q.left in
        let st = loop.works.steps in
        let allowance : w.steps + (c.spent + loop.steps) ≡ step_allowance shape (c.n + c.k) c.k =
        omega (arith, left, st) in
        let x : TakesSteps t w = record {
          counts = count_moves loop.steps c;
          owed = loop.owed;
          handed = h;
          split = loop.split;
          longest = q.longest ∙ sym loop.works.numbers.longest;
          few = q.few;
          none_taken = q.none_taken;
          none_settled = q.none_settled;
          books = subst K (sym shape_now) e;
          left = subst A (sym shape_now) allowance;
        } in
        (x, refl, refl)

    -- Another visit can begin.
    pub loop_visit : CanVisit t w
    loop_visit = record {
      drained = loop.drained;
      thin = λ told.
          let T : ℕ → Type 0 = λ n. EachRead (IsThin n) t w in
          subst T (sym (ap full_limit shape_now)) (loop.thin (back told));
      may = λ told2.
          let told = back told2 in
          let x = loop_steps told in
          let P : ℕ → Type 0 = λ n. OwesBefore n x.0.split t w in
          let Q : ℕ → Type 0 = λ n. OwesBefore loop.owed n t w in
          (x.0, subst P (sym x.1) (subst Q (sym x.2) (loop.owes told)));
    }

    pub loop_area : length area ≡ load_of s.pool.shape → length area ≡ load_of t.pool.shape
    loop_area e = e ∙ sym (ap load_of shape_now)

    ys_length : length (take taken area) ≡ taken
    ys_length = (let n = length-take taken area in let few = loop.few in omega (arith, n, few))

    -- A visit more.
    module _ {u : RigState} {x : Trunk} {new : List Record} (n : ℕ)
        (more : VisitedMore key step IsOp IsKept taken n area new t u w x) where
      abbrev zs : List Record
      zs = take (n - taken) (drop taken new)

      all_taken : take n new ≡ take taken area ++ zs
      all_taken = take_parts taken n new more.later ∙ ap (λ (xs : List Record). xs ++ zs) more.kept

      next : WorksTaking key step IsOp IsKept zs loop.owed 0 loop.split 1 more.steps t u w x
      next = more.works loop.owed loop.split (λ told. loop.owes (back told))

      -- the books of both
      both_books : (m k total : ℕ) (c : TreeCounts) (h : ℕ) → total ≤ m + k
          → InCall s.pool.shape (count_moves m c) loop.owed (h + length (take taken area)) loop.split (sums_in t w)
          → (InCall s.pool.shape (count_moves m c) loop.owed (h + length (take taken area)) loop.split (sums_in t w)
          → InCall s.pool.shape (count_moves k (count_moves m c)) 0 (h + length (take taken area) + length zs) 1
          (sums_in u x))
          → InCall s.pool.shape (count_moves total c) 0 (h + length (take n new)) 1 (sums_in u x)
      both_books m k total c h most b through =
          let size = ap (λ (xs : List Record). length xs) all_taken ∙ length-append (take taken area) zs in
          let e : h + length (take taken area) + length zs ≡ h + length (take n new) = omega (arith, size) in
          let P : ℕ → Type 0 = λ j. InCall s.pool.shape (count_moves total c) 0 j 1 (sums_in u x) in
          subst P e (call_fewer (count_moves k (count_moves m c)) (count_moves total c) 0 0
          refl refl refl refl refl refl (omega (arith, most)) (omega arith) (through b))

      -- the visit's books, of the shape and the k that the call began with
      next_books : (k : ℕ) → (IsTrue s.device.told → ChargesTaking t.pool.shape w.longest loop.owed k 0
          (length zs) loop.split 1 (sums_in t w) (sums_in u x)) → IsTrue s.device.told
          → ChargesTaking s.pool.shape v.longest loop.owed k 0 (length zs) loop.split 1 (sums_in t w) (sums_in u x)
      next_books k f told =
          let S : ShapeNumbers → Type 0 = λ g. ChargesTaking g w.longest loop.owed k 0 (length zs) loop.split 1
          (sums_in t w) (sums_in u x) in
          let K : ℕ → Type 0 = λ j. ChargesTaking s.pool.shape j loop.owed k 0 (length zs) loop.split 1
          (sums_in t w) (sums_in u x) in
          subst K loop.works.numbers.longest (subst S shape_now (f told))

      both_works : WorksTaking key step IsOp IsKept (take n new) 0 0 0 1 (loop.steps + more.steps) s u v x
      both_works =
          let a = loop.works in
          let b = next in
          let later = b.session.touches.moves in
          let first = a.session.touches in
          record {
            session = session_trans a.session b.session;
            frames = same_frames_then s.pool t.pool u.pool a.frames b.frames;
            pays = pays_then a.pays b.pays later;
            loses = loses_then (trunk_blocks s v) (trunk_blocks t w) (trunk_blocks u x) s t u first.told a.loses
                b.loses;
            numbers = numbers_then a.numbers b.numbers;
            steps = (let p = a.steps in let q = b.steps in omega (arith, p, q));
            running = b.running;
            takes = λ told.
                let T : List Record → Type 0 = λ ys. TakesFirst key step IsOp IsKept (given_by s v) (model_of s v)
                ys (given_by u x) (model_of u x) in
                subst T (sym all_taken) (takes_then key step IsOp IsKept (given_by s v) (model_of s v)
                (take taken area) (given_by t w) (model_of t w) zs (given_by u x) (model_of u x) (a.takes told)
                (b.takes (on told)));
            charges = λ told. record {
              books = λ c h same bk.
                  let m = t.moves - s.moves in
                  let k = u.moves - t.moves in
                  let moves = moves_then s.moves t.moves u.moves first.moves later in
                  both_books m k (u.moves - s.moves) c h (omega (arith, moves))
                  ((a.charges told).books c h same bk)
                  ((next_books k (λ z. b.charges (on z)) told).books (count_moves m c)
                  (h + length (take taken area)) same);
            };
            paces = λ told. record {
              books = λ c h same bk. both_books loop.steps more.steps (loop.steps + more.steps) c h (omega arith)
                  ((a.paces told).books c h same bk)
                  ((next_books more.steps (λ z. b.paces (on z)) told).books (count_moves loop.steps c)
                  (h + length (take taken area)) same);
            };
            gives = λ told. (let e = a.gives told in let f = b.gives (on told) in omega (arith, e, f));
            room = λ told g h. keeps_then a.numbers.longest first.shape (a.loses told) (a.room told g h)
                (b.room (on told) g (hold_any (hold_taking a told h)));
          }

      pub loop_goes_on : Visiting key step IsOp IsKept n new s u v x
      loop_goes_on = record {
        steps = loop.steps + more.steps;
        owed = 0;
        split = 1;
        few = more.few;
        works = both_works;
        owes = λ told. record { either = inl (omega arith, omega arith) };
        thin = λ told.
            let T : ℕ → Type 0 = λ k. EachRead (IsThin k) u x in
            subst T (ap full_limit shape_now) (more.thin (on told));
        drained = more.drained;
      }

      -- It took a step at least.
      pub loop_shrinks : x.steps < w.steps
      loop_shrinks = (let a = next.steps in let b = more.some in omega (arith, a, b))

    -- The last visit.
    module _ {u : RigState} {y : Trunk} {new : List Record} (x : Taken)
        (last : VisitedLast key step IsOp IsKept taken x area new t u w y) where
      pub loop_ends : TookAllFirst key step IsOp IsKept x new s u v y
      loop_ends =
          let a = loop.works in
          let b = last.takes in
          let zs2 = take (x.count - taken) (drop taken new) in
          let all : take x.count new ≡ take taken area ++ zs2 =
          take_parts taken x.count new last.later ∙ ap (λ (xs : List Record). xs ++ zs2) last.kept in
          let first = a.session.touches in
          let later = b.session.touches.moves in
          record {
            few = last.few;
            takes = record {
              session = session_trans a.session b.session;
              frames = same_frames_then s.pool t.pool u.pool a.frames b.frames;
              pays = pays_then a.pays b.pays later;
              loses = loses_then (trunk_blocks s v) (trunk_blocks t w) (trunk_blocks u y) s t u first.told
                  a.loses b.loses;
              numbers = numbers_then a.numbers b.numbers;
              running = b.running;
              takes = λ told.
                  let T : List Record → Type 0 = λ ys. TakesFirst key step IsOp IsKept (given_by s v)
                  (model_of s v) ys (given_by u y) (model_of u y) in
                  subst T (sym all) (takes_then key step IsOp IsKept (given_by s v) (model_of s v)
                  (take taken area) (given_by t w) (model_of t w) zs2 (given_by u y) (model_of u y) (a.takes told)
                  (b.takes (on told)));
              thin = λ told.
                  let T : ℕ → Type 0 = λ k. EachRead (IsThin k) u y in
                  subst T (ap full_limit shape_now) (b.thin (on told));
              drained = b.drained;
              gives = λ told. (let e = a.gives told in let f = b.gives (on told) in omega (arith, e, f));
              room = λ told g h. keeps_then a.numbers.longest first.shape (a.loses told) (a.room told g h)
                  (b.room (on told) g (hold_any (hold_taking a told h)));
            };
            ends = λ told. last.ends (on told);
            books = λ told c same b0.
                let m = t.moves - s.moves in
                let k = u.moves - t.moves in
                let q = (a.charges told).books c 0 same (call_begins b0) in
                let size = ys_length in
                let e : 0 + length (take taken area) ≡ taken = omega (arith, size) in
                let H : ℕ → Type 0 = λ j. InCall s.pool.shape (count_moves m c) loop.owed j loop.split
                (sums_in t w) in
                let I : ShapeNumbers → Type 0 = λ g. InCall g (count_moves m c) loop.owed taken loop.split
                (sums_in t w) in
                let E : ShapeNumbers → Type 0 = λ g. EndsBooks x.reset g k (count_moves m c) (sums_in u y) in
                let moves = moves_then s.moves t.moves u.moves first.moves later in
                let z = last.books (on told) loop.owed loop.split (loop.owes told) (count_moves m c)
                (same ∙ sym a.numbers.longest) (subst I (sym shape_now) (subst H e q)) in
                ends_as x.reset s.pool.shape m k (u.moves - s.moves) c (sums_in u y) (omega (arith, moves))
                (subst E shape_now z);
          }

    -- A visit gave up.
    pub loop_stops : {u : RigState} {x : Trunk} {fault : EmFault} → StopsOnWay t u w x fault
        → StopsVisit 0 0 s u v x fault
    loop_stops {u} {x} {fault} h =
        let a = loop.works in
        let b = h loop.owed loop.split (λ told. loop.owes (back told)) in
        let first = a.session.touches in
        let later = b.goes.touches.moves in
        let N : ShapeNumbers → Type 0 = λ g. Pays (trunk_unstored v) (2 * fan_of g + 3) s u in
        record {
          goes = goes_trans (trunk_blocks s v) (trunk_blocks t w) s t u
              (record { sound = a.session.sound; touches = first; frames = a.frames }) b.goes
              (λ z j i k. a.session.within.off z j i k);
          frames = b.frames;
          numbers = numbers_then a.numbers b.numbers;
          pays = subst N first.shape (pays_then a.pays b.pays later);
          cause = cause_after (trunk_blocks s v) s t u fault first b.cause;
          needs = waits_after s t v w fault first.told
              (λ told. none_taken_on key step IsOp IsKept (can.running.stands told).is (can.running.stands told).turn
              (a.takes told)) b.needs;
          share = λ told c handed same bk.
              let m = t.moves - s.moves in
              let q = (a.charges told).books c handed same bk in
              let K : ShapeNumbers → Type 0 = λ g. InCall g (count_moves m c) loop.owed
              (handed + length (take taken area)) loop.split (sums_in t w) in
              let e = b.share (on told) (count_moves m c) (handed + length (take taken area))
              (same ∙ sym a.numbers.longest) (subst K (sym shape_now) q) in
              let S : ShapeNumbers → Type 0 =
              λ g. c.spent + m + (u.moves - t.moves) ≤ tree_share g (c.n + c.adopted) c.k c.z c.y in
              let all = subst S first.shape e in
              let moves = moves_then s.moves t.moves u.moves first.moves later in
              omega (arith, all, moves);
          room = λ told g k. stops_then a.numbers.longest first.shape (a.loses told) (a.room told g k)
              first.blocks (b.room (first.told ∙ told) g (hold_any (hold_taking a told k)));
        }

-- The result that a fault is handed on as.
pub takes_all_of : (key : Record → Record) (step : Option Record → Record → Step)
    (IsOp IsKept : Record → Type 0) (area : List Record) (s t : RigState) (v w : Trunk)
    (r : Result Taken EmFault) (fault : EmFault) → IsErrAnd r (λ f. f ≡ fault)
    → StopsVisit 0 0 s t v w fault → TakesAllFirst key step IsOp IsKept area s t v w r
takes_all_of key step IsOp IsKept area s t v w (Ok x) fault e h = absurd e
takes_all_of key step IsOp IsKept area s t v w (Err f) fault e h =
    let P : EmFault → Type 0 = StopsVisit 0 0 s t v w in subst P (sym e) h
