-- A visit, once it stands before the first leaf: what it leaves, by what was done with the leaf.
use Rattle.std.proofs.Common.{◌≡◌, true, false, ℕ, ◌+◌, ◌-◌, ◌*◌, ◌<◌, ◌≤◌, List, [], ◌++◌, drop, length, take, refl, sym, ap, ◌∙◌, subst, arith, IsTrue}
use Rattle.std.specs.Prelude.{Option, Result, Ok, Err, IsErrAnd}
use Rattle.std.proofs.lemmas.List.{length-take, length-drop}
use Rattle.em_record.specs.Shape.{ShapeNumbers, payload_of, wide_of}
use Rattle.em_record.specs.declared.record.Record.{Record}
use Rattle.em_frames.specs.Pool.{load_of}
use Rattle.em_space.specs.Rig.{RigState}
use Rattle.em_space.specs.declared.fault.EmFault.{EmFault}
use Rattle.em_space.proofs.Apart.{off_left}
use Rattle.em_space.proofs.Lists.{distinct_left, in_use_left}
use Rattle.em_space.proofs.Paying.{pays_more, pays_then}
use Rattle.em_space.proofs.Sessions.{session_trans}
use Rattle.em_space.proofs.Steps.{same_frames_then, touches_wider}
use Rattle.em_chain.specs.Chain.{payload_in}
use Rattle.em_chain.specs.Counts.{ceiling}
use Rattle.em_chain.specs.Writer.{writer_blocks}
use Rattle.em_chain.proofs.Counts.{packed_blocks}
use Rattle.em_leaf.specs.Leaf.{leaf_most}
use Rattle.em_settle.specs.Laws.{IsSettle}
use Rattle.em_settle.specs.declared.step.Step.{Step}
use Rattle.em_tree_model.specs.Taking.{TakesFirst}
use Rattle.em_tree_model.specs.Tree.{first_leaf, over_first, waiting_in}
use Rattle.em_tree_model.proofs.Taking.{takes_after, takes_none}
use Rattle.em_tree_blocks.specs.Reading.{tree_blocks}
use Rattle.em_tree_blocks.proofs.Entries.{tree_level}
use Rattle.em_tree_cost.specs.Books.{InCall, KeepsBooks, TreeCounts, count_drain, count_moves}
use Rattle.em_tree_cost.specs.Counters.{fresh_sums}
use Rattle.em_tree_cost.specs.Shares.{levels_of, tree_share}
use Rattle.em_tree_cost.specs.Sizes.{IsCeil, IsLevels}
use Rattle.em_tree_cost.specs.Visits.{arrival_debt, root_debt}
use Rattle.em_tree_cost.proofs.Ceilings.{ceil_most, ceiling_is}
use Rattle.em_tree_cost.proofs.Visits.{blocks_many}
use Rattle.em_tree_walk.proofs.Losses.{loses_then}
use Rattle.em_tree_load.specs.declared.seeking.FirstLeaf.{FirstLeaf}
use Rattle.em_trunk.specs.Spots.{EachRead}
use Rattle.em_tree_visits.specs.FirstVisits.{ArrivedAt, CanVisit, IsSingle, OwesAt, OwesBefore, StopsOnWay, TakesOn, VisitedLast, VisitedMore, VisitsTo, way_moves}
use Rattle.em_tree_visits.specs.Leavings.{CanLeave, EmptiedLeaf, KeptLeaf, PartLeaf, RemovedLeaf, StopsLeaving}
use Rattle.em_trunk.specs.Sized.{leaf_limit}
use Rattle.em_trunk.specs.Trunk.{IsRunning, full_limit, given_by, model_of, root_of, sums_in, trunk_blocks}
use Rattle.em_tree_visits.specs.Visits.{StopsVisit, WorksTaking}
use Rattle.em_trunk.specs.declared.trunk.Trunk.{Trunk}
use Rattle.em_tree_visits.specs.declared.visiting.Taken.{Taken}
use Rattle.em_tree_visits.specs.declared.visiting.Turn.{Turn}
use Rattle.em_trunk.proofs.Charges.{books_less, call_fewer, level_most}
use Rattle.em_tree_buffers.proofs.LeafWorks.{wide_small}
use Rattle.em_tree_visits.proofs.LeavingLifts.{gone_first, gone_on, gone_sums, leaf_has, part_has, part_on, part_sums, sums_out}
use Rattle.em_tree_visits.proofs.LeavingPlants.{lone_books, lone_empty, lone_first, lone_on, replanted}
use Rattle.em_tree_visits.proofs.LeavingSteps.{first_count}
use Rattle.em_tree_visits.proofs.OverFirst.{first_few}
use Rattle.em_trunk.proofs.Regrown.{fan_twice}
use Rattle.em_trunk.proofs.RootLeads.{root_leads}
use Rattle.em_tree_visits.proofs.SingleTrees.{alone_count, single_stored}
use Rattle.em_trunk.proofs.StepWorks.{frames_same}
use Rattle.em_tree_visits.proofs.VisitBooks.{OwesWay, StandsOwing, drain_ends, leaf_refused, leave_ends, owes_way, probe_ends, stage, visit_ends}
use Rattle.em_tree_visits.proofs.VisitSteps.{levels_fit, moves_stage, stops_stage}
use Rattle.em_trunk.proofs.Works.{moves_then, numbers_then}
use Rattle.em_space.proofs.Ledgers.{full_by}
use Rattle.em_trunk.proofs.Rooms.{hold_works, keeps_then, peak_fits, stops_by_peaks}
use Rattle.em_trunk.specs.Works.{CanWork, deepest}

-- a leaf's blocks
leaf_fits : (w P x : ℕ) → 4 * w ≤ P → x ≤ 4 * (w * (P + 1)) → x ≤ (4 * w + 1) * P
leaf_fits w P x few h = omega (arith, few, h)

-- a list's first records, none of them
none_between : (taken : ℕ) (xs : List Record) → take (taken - taken) (drop taken xs) ≡ []
none_between taken xs =
    let z : 0 ≡ taken - taken = omega arith in
    let P : ℕ → Type 0 = λ k. take k (drop taken xs) ≡ [] in
    subst P z refl

-- and this many of them
turns_between : (taken n : ℕ) → n ≡ taken + n - taken
turns_between taken n = omega arith

some_between : (taken n : ℕ) (xs : List Record) → taken + n ≤ length xs
    → length (take n (drop taken xs)) ≡ n
some_between taken n xs h =
    let a = length-take n (drop taken xs) in
    let b = length-drop taken xs in
    omega (arith, a, b, h)

size_taken : (taken n : ℕ) (old new : List Record) → length new ≡ length old → taken + n ≤ length old
    → length (take n (drop taken new)) ≡ n
size_taken taken n old new len few = some_between taken n new (omega (arith, few, len))

module _ (key : Record → Record) (step : Option Record → Record → Step) (IsOp IsKept : Record → Type 0)
    {s : RigState} {v : Trunk} (can : CanWork key IsOp IsKept s v) (visit : CanVisit s v) {t : RigState}
    {w : Trunk} {f : FirstLeaf} (a : ArrivedAt key step IsOp IsKept s t v w f) where
  abbrev L : ℕ
  L = deepest s v

  abbrev B : ℕ
  B = s.pool.shape.block

  abbrev root : ℕ
  root = root_debt s.pool.shape L

  run : IsRunning key IsOp IsKept t w
  run = a.works.running

  on : IsTrue s.device.told → IsTrue t.device.told
  on told = a.works.session.touches.told ∙ told

  back : IsTrue t.device.told → IsTrue s.device.told
  back told = sym a.works.session.touches.told ∙ told

  shape_then : t.pool.shape ≡ s.pool.shape
  shape_then = a.works.session.touches.shape

  levels : IsLevels L
  levels = levels_fit can

  -- The leaf can be left.
  pub leave_can : CanLeave t w.level w.root f
  leave_can =
      let some = run.numbers.level_some in
      record {
        above = omega (arith, some);
        leads = root_leads key IsOp IsKept t w run;
        in_use = a.in_use;
        chain = a.chain;
        fork_leads = a.fork_leads;
        told = λ told.
            let st = run.stands told in
            let tree = tree_blocks w.level t w.root in
            let lists = writer_blocks t w.buffer ++ writer_blocks t w.answers in
            record {
              found = a.found (back told);
              formed = st.formed;
              none_waits = a.none_waits (back told);
              holds = record {
                in_use = in_use_left t tree lists st.holds.in_use;
                distinct = λ y. distinct_left tree lists (st.holds.distinct y);
              };
            };
      }

  pub leave_free : w.level + 1 < t.pool.free
  leave_free =
      let is = can.sound.shape in
      let twice = fan_twice is in
      let wide : 8 ≤ wide_of s.pool.shape = omega (arith, is.frames_low, is.frames_multiple) in
      omega (arith, can.free, a.works.frames.free, run.numbers.level_most, twice, wide)

  thin_here : IsTrue t.device.told → EachRead (λ l k top b. length b < full_limit t.pool.shape) t w
  thin_here told =
      let T : ℕ → Type 0 = λ n. EachRead (λ l k top b. length b < n) t w in
      subst T (sym (ap full_limit shape_then)) (a.thin (back told))

  -- The way took nothing.
  way_takes : (ys : List Record) (u : RigState) (x : Trunk) → IsTrue s.device.told
      → TakesFirst key step IsOp IsKept (given_by t w) (model_of t w) ys (given_by u x) (model_of u x)
      → TakesFirst key step IsOp IsKept (given_by s v) (model_of s v) ys (given_by u x) (model_of u x)
  way_takes ys u x told b =
      let c = a.works.continues told in
      takes_after key step IsOp IsKept (given_by s v) (model_of s v) (given_by t w) (model_of t w) ys
      (given_by u x) (model_of u x) c.represents c.advances b

  takes_with : {ys : List Record} {u : RigState} {x : Trunk} → TakesOn key step IsOp IsKept ys t u w x
      → TakesOn key step IsOp IsKept ys s u v x
  takes_with {ys} {u} {x} b =
      let first = a.works.session.touches in
      let later = b.session.touches.moves in
      let T : ℕ → Type 0 = λ n. EachRead (λ l k top c. length c < n) u x in
      record {
        session = session_trans a.works.session b.session;
        frames = same_frames_then s.pool t.pool u.pool a.works.frames b.frames;
        pays = pays_then a.works.pays b.pays later;
        loses = loses_then (trunk_blocks s v) (trunk_blocks t w) (trunk_blocks u x) s t u first.told
            a.works.loses b.loses;
        numbers = numbers_then a.works.numbers b.numbers;
        running = b.running;
        takes = λ told. way_takes ys u x told (b.takes (on told));
        thin = λ told. subst T (ap full_limit shape_then) (b.thin (on told));
        drained = b.drained;
        gives = λ told. (let e = a.works.gives told in let f = b.gives (on told) in omega (arith, e, f));
        room = λ told g h. keeps_then a.works.numbers.longest first.shape (a.works.loses told)
            (a.works.room told g h) (b.room (on told) g (hold_works a.works told h));
      }

  -- What is owed before the leaf.
  few_root : 13 + L ≤ root
  few_root = omega arith

  fits : B * (13 + L) + (6 * (sums_in t w).stored + B * 34) ≤ 6 * (sums_in t w).stored + B * (47 + L)
  fits = (let e : B * (47 + L) ≡ B * (13 + L) + B * 34 = omega arith in omega (arith, e))

  stands_owing : IsTrue s.device.told → (owed r : ℕ) → OwesBefore owed r s v → (c : TreeCounts) (h : ℕ)
      → c.k ≡ v.longest → InCall s.pool.shape c owed h r (sums_in s v)
      → StandsOwing s.pool.shape (count_moves (t.moves - s.moves) c) (root + way_moves a.at s v)
      (sums_in t w).stored (47 + L) h (sums_in t w)
  stands_owing told owed r o c h same b = moves_stage key step IsOp IsKept root (way_moves a.at s v) (13 + L)
      (sums_in t w).stored (47 + L) (6 * (sums_in t w).stored + B * 34) a.steps few_root a.works a.one fits told
      owed r o c h same b

  -- the same by the call's steps
  stands_pacing : IsTrue s.device.told → (owed r : ℕ) → OwesBefore owed r s v → (c : TreeCounts) (h : ℕ)
      → c.k ≡ v.longest → InCall s.pool.shape c owed h r (sums_in s v)
      → StandsOwing s.pool.shape (count_moves a.steps c) (root + way_moves a.at s v)
      (sums_in t w).stored (47 + L) h (sums_in t w)
  stands_pacing told owed r o c h same b = stage root (way_moves a.at s v) (13 + L) (sums_in t w).stored (47 + L)
      (6 * (sums_in t w).stored + B * 34) few_root (a.works.paces told) (λ i. (a.one (λ z. i)).paces told) fits
      o c same b

  -- a leaf has no more records than fit
  stored_most : IsTrue s.device.told → IsSingle (sums_in t w)
      → (sums_in t w).stored ≡ length (first_leaf (root_of t w))
  stored_most told i =
      let st = run.stands (on told) in
      let some = run.numbers.level_some in
      let low = i.1 in
      single_stored (root_of t w) w.level st.is.0 (tree_level w.level t w.root) (omega (arith, some, low)) i.0

  over_here : IsTrue t.device.told → over_first (root_of t w) ≡ []
  over_here told = a.none_waits (back told)

  held_most : IsTrue s.device.told → IsSingle (sums_in t w)
      → (sums_in t w).stored ≤ 4 * wide_of s.pool.shape * B
  held_most told i =
      let few = first_few (leaf_limit t.pool.shape) (root_of t w) (run.stands (on told)).sized.leaves.0 in
      let same = stored_most told i in
      let P : ShapeNumbers → Type 0 = λ h. length (first_leaf (root_of t w)) ≤ leaf_limit h in
      let most = subst P shape_then few in
      omega (arith, same, most)

  -- what is owed at the leaf, by any counts of this k
  owes_there : (told : IsTrue s.device.told) {c : TreeCounts} {h : ℕ} → c.k ≡ v.longest
      → (q : StandsOwing s.pool.shape c (root + way_moves a.at s v) (sums_in t w).stored (47 + L) h (sums_in t w))
      → OwesWay s.pool.shape (levels_of s.pool.shape c.k) q.owed
  owes_there told same q =
      let P : ℕ → Type 0 = λ k. OwesWay s.pool.shape (levels_of s.pool.shape k) q.owed in
      subst P (sym same) (owes_way L a.at can.sound.shape levels (a.down told) (omega arith) (omega arith)
      (held_most told) q.owes)

  levels_by : (c : TreeCounts) → c.k ≡ v.longest → IsLevels (levels_of s.pool.shape c.k)
  levels_by c same = (let P : ℕ → Type 0 = λ k. IsLevels (levels_of s.pool.shape k) in subst P (sym same) levels)

  way_on : TakesOn key step IsOp IsKept [] s t v w
  way_on = record {
    session = a.works.session;
    frames = a.works.frames;
    pays = a.works.pays;
    loses = a.works.loses;
    numbers = a.works.numbers;
    running = run;
    takes = λ told.
        let c = a.works.continues told in
        takes_none key step IsOp IsKept (given_by s v) (model_of s v) (given_by t w) (model_of t w) c.represents
        c.advances;
    thin = a.thin;
    drained = a.drained;
    gives = a.works.gives;
    room = a.works.room;
  }

  ceil_of : (n : ℕ) → IsCeil (ceiling n (payload_in t)) (payload_of s.pool.shape) n
  ceil_of n =
      let low = can.sound.shape.block_low in
      let P : ShapeNumbers → Type 0 = λ h. IsCeil (ceiling n (payload_of h)) (payload_of s.pool.shape) n in
      subst P (sym shape_then) (ceiling_is n (payload_of s.pool.shape) (omega (arith, low)))

  -- The leaf stays: the call ends.
  module _ {old : List Record} (taken : ℕ) (area : length old ≡ load_of s.pool.shape)
      (inside : taken ≤ length old) where
    kept_here : length old < 2 * taken → (IsTrue t.device.told → 0 < length (first_leaf (root_of t w)))
        → VisitedLast key step IsOp IsKept taken (record { count = taken; reset = false }) old old s t v w
    kept_here many some = record {
      later = omega arith;
      few = inside;
      kept = refl;
      takes =
          let T : List Record → Type 0 = λ ys. TakesOn key step IsOp IsKept ys s t v w in
          subst T (sym (none_between taken old)) way_on;
      ends = λ told.
          let P : ShapeNumbers → Type 0 = λ h. load_of h < 2 * taken in
          record {
            many = subst P (sym shape_then) (omega (arith, many, area));
            some = leaf_has key step IsOp IsKept run a.drained over_here (on told) (some (on told));
          };
      books = λ told owed r o c same b.
          let q = stands_owing told owed r o c taken same b in
          probe_ends can.sound.shape (levels_by c same) q.books (owes_there told same q) (omega (arith, many, area));
    }

  module _ {old new : List Record} (taken : ℕ) (area : length old ≡ load_of s.pool.shape)
      (inside : taken ≤ length old) where
    pub kept_last : {u : RigState} → KeptLeaf t u w.level w.root old new taken
        → VisitedLast key step IsOp IsKept taken (record { count = taken; reset = false }) old new s u v w
    kept_last {u} k =
        let x : Taken = record { count = taken; reset = false } in
        let R : RigState → Type 0 = λ z. VisitedLast key step IsOp IsKept taken x old old s z v w in
        let A : List Record → Type 0 = λ z. VisitedLast key step IsOp IsKept taken x old z s u v w in
        subst A (sym k.area) (subst R (sym k.same) (kept_here taken area inside k.many k.some))

    module _ (len : length new ≡ length old) {u : RigState} (n : ℕ) where
      -- A part was taken: so does it.
      pub part_last : PartLeaf t u w.level w.root old new taken n → VisitedLast key step IsOp IsKept taken
          (record { count = taken + n; reset = false }) old new s u v w
      part_last p =
          let ys = take n (drop taken new) in
          let few = p.fills.few in
          let size = size_taken taken n old new len few in
          let b = part_on key step IsOp IsKept run a.drained over_here p.changes p.told thin_here in
          let payload : payload_in t ≡ payload_of s.pool.shape = ap payload_of shape_then in
          let all = p.many in
          let many : wide_of s.pool.shape * B < 2 * (taken + n) =
          blocks_many s.pool.shape taken (length old - taken) n can.sound.shape (omega (arith, area, inside))
          (omega (arith, all, inside, payload)) in
          let T : ℕ → Type 0 = λ k. TakesOn key step IsOp IsKept (take k (drop taken new)) s u v w in
          record {
            later = omega arith;
            few = omega (arith, few, len);
            kept = p.fills.kept;
            takes = subst T (turns_between taken n) (takes_with b);
            ends = λ told.
                let P : ShapeNumbers → Type 0 = λ h. load_of h < 2 * (taken + n) in
                record {
                  many = subst P (sym (p.changes.session.touches.shape ∙ shape_then)) many;
                  some = part_has key step IsOp IsKept run a.drained over_here p.changes p.told (on told);
                };
            books = λ told owed r o c same bk.
                let m = t.moves - s.moves in
                let m2 = u.moves - t.moves in
                let q = stands_owing told owed r o c taken same bk in
                let take_sums = part_sums key step IsOp IsKept run a.drained over_here p.changes p.told (on told) in
                let S : ℕ → Type 0 = λ g. IsCeil (ceiling n (payload_in t)) (payload_of s.pool.shape) g in
                let made = (p.told (on told)).moves in
                let e = leave_ends can.sound.shape (levels_by c same) q.books (owes_there told same q) (length ys)
                m2 (ceiling n (payload_in t)) take_sums (record { root = refl; blocks = refl })
                (omega (arith, many, size)) (subst S (sym size) (ceil_of n)) (omega (arith, made)) in
                let moves = moves_then s.moves t.moves u.moves a.works.session.touches.moves
                p.changes.session.touches.moves in
                (books_less (count_moves m2 (count_moves m c)) (count_moves (u.moves - s.moves) c) 0 0
                refl refl refl refl refl refl (omega (arith, moves)) (omega arith) e).0;
          }

      -- The leaf was removed: another visit may follow.
      module _ (laws : IsSettle key step IsOp IsKept) where
        module _ (p : RemovedLeaf t u w.level w.root old new taken n) where
          gone : TakesOn key step IsOp IsKept (take n (drop taken new)) t u w w
          gone = gone_on key step IsOp IsKept run a.drained over_here p.changes laws p.told thin_here

          -- the books, after so many moves or steps
          gone_books : (told : IsTrue s.device.told) (c : TreeCounts) (h r m total : ℕ) → c.k ≡ v.longest
              → total ≤ m + (2 * ceiling n (payload_in t) + 3) + (4 * w.level - 1)
              → StandsOwing s.pool.shape (count_moves m c) (root + way_moves a.at s v) (sums_in t w).stored
              (47 + L) h (sums_in t w)
              → InCall s.pool.shape (count_moves total c) 0 (h + length (take n (drop taken new))) 1 (sums_in u w)
          gone_books told c h r m total same most q =
              let ys = take n (drop taken new) in
              let size = size_taken taken n old new len p.fills.few in
              let S : ℕ → Type 0 = λ g. IsCeil (ceiling n (payload_in t)) (payload_of s.pool.shape) g in
              let m1 = 2 * ceiling n (payload_in t) + 3 in
              let m2 = 4 * w.level - 1 in
              let some = run.numbers.level_some in
              let low : w.level ≤ levels_of s.pool.shape c.k = level_most can.sound.shape q.books.books in
              let e = visit_ends can.sound.shape (levels_by c same) q.books (owes_there told same q) (length ys) m1
              m2 (ceiling n (payload_in t)) (sums_out key step IsOp IsKept run a.drained over_here)
              (gone_first key step IsOp IsKept run a.drained over_here p.changes laws p.told (on told))
              (record { root = refl; blocks = refl }) (subst S (sym size) (ceil_of n)) (omega arith)
              (gone_sums key step IsOp IsKept run a.drained over_here p.changes laws p.told (on told))
              (record { root = refl; blocks = refl }) (omega (arith, low, some)) in
              call_fewer (count_moves (m1 + m2) (count_moves m c)) (count_moves total c) 0 0
              refl refl refl refl refl refl (omega (arith, most)) (omega arith) e

          gone_works : (owed r : ℕ) → (IsTrue s.device.told → OwesBefore owed r s v)
              → WorksTaking key step IsOp IsKept (take n (drop taken new)) owed 0 r 1 a.steps s u v w
          gone_works owed r o =
              let b = takes_with gone in
              record {
                session = b.session;
                frames = b.frames;
                pays = b.pays;
                loses = b.loses;
                numbers = b.numbers;
                steps = a.works.steps;
                running = b.running;
                takes = b.takes;
                charges = λ told. record {
                  books = λ c h same bk.
                      let made = (p.told (on told)).moves in
                      let some = run.numbers.level_some in
                      let first = a.works.session.touches.moves in
                      gone_books told c h r (t.moves - s.moves) (u.moves - s.moves) same
                      (omega (arith, made, some, first)) (stands_owing told owed r (o told) c h same bk);
                };
                paces = λ told. record {
                  books = λ c h same bk. gone_books told c h r a.steps a.steps same (omega arith)
                      (stands_pacing told owed r (o told) c h same bk);
                };
                gives = b.gives;
                room = b.room;
              }

          pub removed_more : VisitedMore key step IsOp IsKept taken (taken + n) old new s u v w
          removed_more =
              let few = p.fills.few in
              record {
                steps = a.steps;
                some = a.some;
                later = omega arith;
                few = omega (arith, few, len);
                kept = p.fills.kept;
                works = λ owed r o.
                    let T : ℕ → Type 0 = λ k. WorksTaking key step IsOp IsKept (take k (drop taken new)) owed 0 r 1
                    a.steps s u v w in
                    subst T (turns_between taken n) (gone_works owed r o);
                thin = (takes_with gone).thin;
                drained = a.drained;
              }

        -- The tree was emptied: the call ends with a reset.
        module _ {block : ℕ} (p : EmptiedLeaf t u w.level w.root block old new taken n) where
          lone_takes : TakesOn key step IsOp IsKept (take n (drop taken new)) t u w (replanted w block)
          lone_takes = lone_on key step IsOp IsKept laws run a.drained over_here p.changes p.in_use p.told

          reset_books : (told : IsTrue s.device.told) (owed r : ℕ) → OwesBefore owed r s v
              → (c : TreeCounts) → c.k ≡ v.longest → InCall s.pool.shape c owed taken r (sums_in s v)
              → KeepsBooks s.pool.shape (count_drain (u.moves - s.moves) c) 0 (sums_in u (replanted w block))
          reset_books told owed r o c same bk =
              let ys = take n (drop taken new) in
              let size = size_taken taken n old new len p.fills.few in
              let l = p.told (on told) in
              let m = t.moves - s.moves in
              let m1 = 2 * ceiling n (payload_in t) + 3 in
              let m2 = 2 * w.level + 6 in
              let q = stands_owing told owed r o c taken same bk in
              let S : ℕ → Type 0 = λ g. IsCeil (ceiling n (payload_in t)) (payload_of s.pool.shape) g in
              let D : ℕ → Type 0 = λ k. a.at ≤ levels_of s.pool.shape k in
              let A : ℕ → Type 0 = λ k. root + way_moves a.at s v
              ≤ arrival_debt s.pool.shape (levels_of s.pool.shape k) a.at in
              let F : ℕ → Type 0 = λ k. 47 + L ≤ 47 + levels_of s.pool.shape k in
              let back_k = sym same in
              let e = drain_ends can.sound.shape (levels_by c same) q a.at (subst D back_k (a.down told))
              (subst A back_k (omega arith)) (subst F back_k (omega arith)) (length ys) m1 m2
              (ceiling n (payload_in t)) (sums_out key step IsOp IsKept run a.drained over_here)
              (lone_first key step IsOp IsKept laws run a.drained over_here p.changes p.in_use p.told (on told))
              (record { root = refl; blocks = refl }) (subst S (sym size) (ceil_of n)) (omega arith) a.drained.empty
              a.drained.unwritten (omega arith) (level_most can.sound.shape q.books.books)
              (alone_count (root_of t w) l.lone ∙ ap length l.stored) in
              let made = l.moves in
              let first = a.works.session.touches.moves in
              let Z : ShapeNumbers → Type 0 =
              λ h. KeepsBooks h (count_drain (m1 + m2) (count_moves m c)) 0 fresh_sums in
              let W : ShapeNumbers → Type 0 =
              λ h. KeepsBooks h (count_drain (m1 + m2) (count_moves m c)) 0 (sums_in u (replanted w block)) in
              let whole = subst W shape_then (lone_books key step IsOp IsKept laws run a.drained over_here
              p.changes p.in_use p.told (on told) (count_drain (m1 + m2) (count_moves m c))
              (subst Z (sym shape_then) e)) in
              (books_less (count_drain (m1 + m2) (count_moves m c)) (count_drain (u.moves - s.moves) c) 0 0
              refl refl refl refl refl refl (omega (arith, made, first)) (omega arith) whole).0

          pub emptied_last : VisitedLast key step IsOp IsKept taken (record { count = taken + n; reset = true })
              old new s u v (replanted w block)
          emptied_last =
              let few = p.fills.few in
              let T : ℕ → Type 0 = λ k. TakesOn key step IsOp IsKept (take k (drop taken new)) s u v
              (replanted w block) in
              record {
                later = omega arith;
                few = omega (arith, few, len);
                kept = p.fills.kept;
                takes = subst T (turns_between taken n) (takes_with lone_takes);
                ends = λ told. lone_empty key step IsOp IsKept laws run a.drained over_here p.changes p.in_use
                    p.told (on told);
                books = reset_books;
              }

  -- It gave up at the leaf.
  module _ {u : RigState} {fault : EmFault} (h : StopsLeaving t u w.level w.root f fault) where
    blocks_ceil : IsTrue s.device.told
        → IsCeil f.stored.blocks (payload_of s.pool.shape) (length (first_leaf (root_of t w)))
    blocks_ceil told =
        let low = can.sound.shape.block_low in
        let P = payload_of s.pool.shape in
        let some : 0 < P = omega (arith, low) in
        let B1 : ShapeNumbers → Type 0 = λ g. 128 ≤ g.block in
        let C : ShapeNumbers → Type 0 = λ g. IsCeil (ceiling f.stored.count (payload_of g)) P f.stored.count in
        let I : ℕ → Type 0 = λ k. IsCeil k P f.stored.count in
        let J : ℕ → Type 0 = λ k. IsCeil f.stored.blocks P k in
        let e = packed_blocks t f.stored (subst B1 (sym shape_then) (omega (arith, low))) a.chain.chain (on told)
        (a.chain.packed (on told)) in
        subst J (sym (first_count leave_can (on told))) (subst I (sym e)
        (subst C (sym shape_then) (ceiling_is f.stored.count P some)))

    blocks_few : IsTrue s.device.told → f.stored.blocks ≤ 4 * wide_of s.pool.shape + 1
    blocks_few told =
        let is = can.sound.shape in
        let P = payload_of s.pool.shape in
        let w1 = wide_of s.pool.shape in
        let count = first_count leave_can (on told) in
        let M : ShapeNumbers → Type 0 = λ g. f.stored.count ≤ leaf_most g in
        let most = subst M shape_then a.chain.most in
        let block : B ≡ P + 1 = omega (arith, is.block_low) in
        let N : ℕ → Type 0 = λ k. f.stored.count ≤ 4 * (w1 * k) in
        let few : length (first_leaf (root_of t w)) ≤ 4 * (w1 * (P + 1)) =
        (let g = subst N block most in omega (arith, g, count)) in
        ceil_most f.stored.blocks P (length (first_leaf (root_of t w))) (4 * w1 + 1) (blocks_ceil told)
        (leaf_fits w1 P (length (first_leaf (root_of t w))) (wide_small is) few)

    leave_inner : (owed r : ℕ) → (IsTrue t.device.told → OwesAt t.pool.shape (root + way_moves a.at s v)
        (sums_in t w).stored (47 + L) owed r (sums_in t w)) → StopsVisit owed r t u w w fault
    leave_inner owed r o =
        let tree = tree_blocks w.level t w.root in
        let lists = writer_blocks t w.buffer ++ writer_blocks t w.answers in
        let m = u.moves - t.moves in
        record {
          goes = record {
            sound = h.goes.sound;
            touches = touches_wider (trunk_blocks t w) tree t u h.goes.touches (λ z k i x. off_left k tree lists x);
            frames = h.goes.frames;
          };
          frames = frames_same h.goes.frames run.frames;
          numbers = record { pushed = refl; longest = refl; since = refl; settled = refl; resets = refl; spent = refl; adopted = refl; counted = refl };
          pays = pays_more h.pays (omega arith);
          cause = h.cause;
          needs = full_by fault (IsTrue t.device.told → ⊥)
              (IsTrue t.device.told → waiting_in (model_of t w) ≡ [] → ⊥) (λ never told2 none. never told2) h.full;
          share = λ told2 c handed same b.
              let told = back told2 in
              let k_is : c.k ≡ v.longest = same ∙ a.works.numbers.longest in
              let O : ShapeNumbers → Type 0 = λ g. OwesAt g (root + way_moves a.at s v) (sums_in t w).stored
              (47 + L) owed r (sums_in t w) in
              let C : ShapeNumbers → Type 0 = λ g. InCall g c owed handed r (sums_in t w)
              → c.spent + m ≤ tree_share g (c.n + c.adopted) c.k c.z c.y in
              let D : ℕ → Type 0 = λ k. a.at ≤ levels_of s.pool.shape k in
              let A : ℕ → Type 0 = λ k. root + way_moves a.at s v
              ≤ arrival_debt s.pool.shape (levels_of s.pool.shape k) a.at in
              let F : ℕ → Type 0 = λ k. 47 + L ≤ 47 + levels_of s.pool.shape k in
              let made = h.moves told2 in
              let g : C s.pool.shape = λ bk.
              (let q : StandsOwing s.pool.shape c (root + way_moves a.at s v) (sums_in t w).stored (47 + L) handed
              (sums_in t w) =
              record { owed = owed; split = r; books = bk; owes = subst O shape_then (o told2) } in
              leaf_refused can.sound.shape (levels_by c k_is) q a.at m (length (first_leaf (root_of t w)))
              f.stored.blocks (subst D (sym k_is) (a.down told)) (subst A (sym k_is) (omega arith))
              (subst F (sym k_is) (omega arith)) (stored_most told) (blocks_ceil told) (blocks_few told)
              (level_most can.sound.shape bk.books) (omega (arith, made))) in
              subst C (sym shape_then) g b;
          room = λ z n k. stops_by_peaks run a.works.session.sound.shape z h.peaks
              (let p = peak_fits a.works.session.sound.shape in omega (arith, p)) h.goes.touches.blocks h.cause n k;
        }

    pub leave_stopped : StopsOnWay s u v w fault
    leave_stopped owed r o = stops_stage key step IsOp IsKept root (way_moves a.at s v) (13 + L)
        (sums_in t w).stored (47 + L) (6 * (sums_in t w).stored + B * 34) a.steps few_root a.works a.one fits
        (λ owed2 r2 o2. leave_inner owed2 r2 o2) owed r o

-- The result that a fault is handed on as.
pub visits_of : (key : Record → Record) (step : Option Record → Record → Step) (IsOp IsKept : Record → Type 0)
    (taken : ℕ) (old new : List Record) (s t : RigState) (v w : Trunk) (r : Result Turn EmFault)
    (fault : EmFault) → IsErrAnd r (λ f. f ≡ fault) → StopsOnWay s t v w fault
    → VisitsTo key step IsOp IsKept taken old new s t v w r
visits_of key step IsOp IsKept taken old new s t v w (Ok x) fault e h = absurd e
visits_of key step IsOp IsKept taken old new s t v w (Err f) fault e h =
    let P : EmFault → Type 0 = StopsOnWay s t v w in subst P (sym e) h
