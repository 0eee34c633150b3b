-- The pairs of a map's tree stand in a list, and the tree is gone.
use Rattle.std.proofs.Common.{◌≡◌, ℕ, ◌+◌, ◌<◌, ◌≤◌, ◌^◌, List, [], length, length-append, ap, sym, subst, ◌∙◌, arith, IsTrue}
use Rattle.em_record.specs.Shape.{ShapeNumbers, fan_of, payload_of}
use Rattle.em_record.specs.declared.record.Record.{Record}
use Rattle.em_model.specs.Map.{Combiner}
use Rattle.em_settle.specs.Add.{IsAddOp, add_step_of}
use Rattle.em_settle.specs.Map.{IsMapKept, map_key_of}
use Rattle.em_frames.specs.Pool.{GivenFrames, PoolCounts, SameFrames, lent_area}
use Rattle.em_space.specs.Held.{Apart}
use Rattle.em_space.specs.Rig.{Cause, RigState, Sound, Touches}
use Rattle.em_space.specs.declared.fault.EmFault.{EmFault}
use Rattle.em_space.specs.declared.fault.EmFault.TheVariants.{DeviceFault, Full, Damaged}
use Rattle.em_space.proofs.Apart.{off_left}
use Rattle.em_space.proofs.Lists.{apart_sym, distinct_apart}
use Rattle.em_space.proofs.Paying.{pays_kept, pays_more, pays_then}
use Rattle.em_space.proofs.Sessions.{session_as, session_then, session_trans}
use Rattle.em_space.proofs.Steps.{cause_after, touches_then}
use Rattle.em_space.proofs.Within.{touches_within}
use Rattle.em_chain.specs.Chain.{ChainStays, chain_blocks}
use Rattle.em_chain.specs.Counts.{ceiling}
use Rattle.em_chain.specs.declared.chain.Chain.{Chain}
use Rattle.em_chain.proofs.Counts.{packed_blocks}
use Rattle.em_chain.proofs.Laws.{chain_stays}
use Rattle.em_chain.proofs.Readers.{length_items}
use Rattle.em_sorting.specs.Pushes.{CanServeBeside}
use Rattle.em_tree_model.specs.Meaning.{tree_answers}
use Rattle.em_tree_model.specs.Tree.{Tree}
use Rattle.em_tree_cost.specs.Shares.{tree_room}
use Rattle.em_tree_walk.proofs.Losses.{chain_length}
use Rattle.em_trunk.specs.Room.{FullOverRoom, WithinRoom}
use Rattle.em_trunk.specs.Trunk.{given_by, model_of, trunk_blocks, trunk_unstored}
use Rattle.em_trunk.specs.declared.trunk.Trunk.{Trunk}
use Rattle.em_bulk.specs.Draining.{BeginsDrain, EndCosts, EndedDrain, GivenDrain, LeavesDrain, UnendedDrain, drain_blocks, drain_share, drain_unstored, trunk_of}
use Rattle.em_bulk.proofs.DrainStays.{answers_most}
use Rattle.em_map.specs.Loading.{answers_in}
use Rattle.em_ready.proofs.RoomLaws.{over_used, when_full}
use Rattle.em_services.specs.Listing.{CanList, FullOverList, GivesFew, GivesPairs, HasFew, HasRecords, Listed, ListedPairs, ListsWithin, PairDrain, StopsListing, StopsPairs, listing_moves, listing_room}

-- The cause of a fault is the same after frames came back.
cause_left : (s u x : RigState) (fault : EmFault) → LeavesDrain u x → Cause s u fault → Cause s x fault
cause_left s u x DeviceFault l cause =
    let faults = ap (λ (r : RigState). r.device.faults) l.same in omega (arith, cause, faults)
cause_left s u x (Full used) l cause =
    let blocks = ap (λ (r : RigState). r.blocks) l.same in
    let same = ap (λ (r : RigState). r.used) l.same in
    (omega (arith, cause.0, blocks), omega (arith, cause.1, blocks, same))
cause_left s u x (Damaged block) l cause =
    let told = ap (λ (r : RigState). r.device.told) l.same in
    let blocks = ap (λ (r : RigState). r.blocks) l.same in
    (rw told cause.0, omega (arith, cause.1, blocks))

-- A drain began over a tree: an area was lent.
module _ {F : Type 0} (apply : Combiner) (s m : RigState) (v : Trunk) (d : PairDrain F)
    (begins : BeginsDrain map_key_of (add_step_of apply) IsAddOp IsMapKept s m v d) where
  used_same : m.used ≡ s.used
  used_same = ap (λ (r : RigState). r.used) begins.lent

  most_same : m.most ≡ s.most
  most_same = ap (λ (r : RigState). r.most) begins.lent

  moves_same : m.moves ≡ s.moves
  moves_same = ap (λ (r : RigState). r.moves) begins.lent

  told_m : IsTrue s.device.told → IsTrue m.device.told
  told_m z = begins.touches.told ∙ z

  answers_begun : IsTrue s.device.told → answers_in apply m (trunk_of d) ≡ answers_in apply s v
  answers_begun z =
      let step = add_step_of apply in
      ap (λ (t : Tree). length (tree_answers map_key_of step (given_by m (trunk_of d)) t)) (begins.model z)
      ∙ ap (λ (xs : List Record). length (tree_answers map_key_of step xs (model_of s v))) (begins.given z)

  -- The same room, and the same share of moves.
  room_begun : IsTrue s.device.told → (n : ℕ) → listing_room m.pool.shape (trunk_of d) (answers_in apply m (trunk_of d)) n
      ≡ listing_room s.pool.shape v (answers_in apply s v) n
  room_begun z n =
      ap (λ (p : ShapeNumbers). listing_room p (trunk_of d) (answers_in apply m (trunk_of d)) n) begins.touches.shape
      ∙ ap (λ (w : Trunk). listing_room s.pool.shape w (answers_in apply m (trunk_of d)) n) begins.trunk
      ∙ ap (λ (k : ℕ). listing_room s.pool.shape v k n) (answers_begun z)

  moves_begun : IsTrue s.device.told → (n : ℕ) → listing_moves m.pool.shape (trunk_of d) (answers_in apply m (trunk_of d)) n
      ≡ listing_moves s.pool.shape v (answers_in apply s v) n
  moves_begun z n =
      ap (λ (p : ShapeNumbers). listing_moves p (trunk_of d) (answers_in apply m (trunk_of d)) n) begins.touches.shape
      ∙ ap (λ (w : Trunk). listing_moves s.pool.shape w (answers_in apply m (trunk_of d)) n) begins.trunk
      ∙ ap (λ (k : ℕ). listing_moves s.pool.shape v k n) (answers_begun z)

  begun_gives : IsTrue s.device.told → (xs : List Record) → HasRecords apply s v xs → GivesPairs apply m d xs
  begun_gives z xs has = begins.gives z xs has.rises has.are

  within_begun : (x : RigState) (n : ℕ) → IsTrue s.device.told
      → ListsWithin apply (drain_blocks m d) m x (trunk_of d) n → ListsWithin apply (trunk_blocks s v) s x v n
  within_begun x n z w =
      let own = ap (λ (ks : List ℕ). length ks) (begins.blocks z) in
      let spent = ap (λ (t : Trunk). t.spent) begins.trunk in
      let room = room_begun z n in
      let moves = moves_begun z n in
      let most = w.room.is in
      let all = w.moves in
      record {
        room = record { is = omega (arith, own, room, most, used_same, most_same) };
        moves = omega (arith, all, spent, moves, moves_same);
      }

  full_begun : (n : ℕ) (fault : EmFault) → IsTrue s.device.told
      → FullOverList apply (drain_blocks m d) m (trunk_of d) n fault → FullOverList apply (trunk_blocks s v) s v n fault
  full_begun n fault z over =
      let own = ap (λ (ks : List ℕ). length ks) (begins.blocks z) in
      let room = room_begun z n in
      when_full fault
      (λ used. used + length (drain_blocks m d)
      < m.used + listing_room m.pool.shape (trunk_of d) (answers_in apply m (trunk_of d)) n)
      (λ used. used + length (trunk_blocks s v) < s.used + listing_room s.pool.shape v (answers_in apply s v) n)
      (λ used less. omega (arith, less, own, room, used_same)) over

  module _ (free : CanList s.pool) where
    -- The frames of the drain's calls are free beside the area, and one more.
    pool_is : m.pool ≡ lent_area s.pool
    pool_is = ap (λ (r : RigState). r.pool) begins.lent

    pub begun_free : CanServeBeside 1 m.pool
    begun_free =
        let fan = ap fan_of begins.touches.shape in
        let singles = ap (λ (p : PoolCounts). p.free) pool_is in
        let areas = ap (λ (p : PoolCounts). p.free_areas) pool_is in
        let both = free.areas in
        record {
          singles = omega (arith, free.free.singles, fan, singles);
          areas = omega (arith, both, areas);
          rack = ap (λ (p : PoolCounts). p.rack_out) pool_is ∙ free.free.rack;
        }

    -- After it all frames came back, and the tree's two.
    begun_frames : (u x : RigState) → SameFrames m.pool u.pool → GivenDrain u.pool x.pool → GivenFrames 2 s.pool x.pool
    begun_frames u x same back =
        let singles = ap (λ (p : PoolCounts). p.free) pool_is in
        let areas = ap (λ (p : PoolCounts). p.free_areas) pool_is in
        let peak = ap (λ (p : PoolCounts). p.peak) pool_is in
        let both = free.areas in
        record {
          shape = back.shape ∙ same.shape ∙ begins.touches.shape;
          free = omega (arith, back.free, same.free, singles);
          rack = back.rack ∙ same.rack ∙ ap (λ (p : PoolCounts). p.rack_out) pool_is;
          free_areas = omega (arith, back.free_areas, same.free_areas, areas, both);
          peak = omega (arith, back.peak, same.peak, peak);
        }

    pub begun_few : (IsTrue s.device.told → HasFew apply (2 ^ 40) s v) → IsTrue m.device.told → GivesFew apply (2 ^ 40) m d
    begun_few few z =
        let here : IsTrue s.device.told = sym begins.touches.told ∙ z in
        let list = few here in
        record { list = list.list; gives = begun_gives here list.list list.has; few = list.few }

    -- The list was written, and the tree's end came.
    module _ (u : RigState) (e : PairDrain F) (c : Chain) (h : Listed apply m u d e c) where
      told_u : IsTrue s.device.told → IsTrue u.device.told
      told_u z = h.runs.session.touches.told ∙ told_m z

      list_apart : IsTrue u.device.told → Apart (chain_blocks u c) (drain_blocks u e)
      list_apart z = apart_sym (drain_blocks u e) (chain_blocks u c) (distinct_apart (drain_blocks u e) (chain_blocks u c)
          ((h.runs.session.holds (sym h.runs.session.touches.told ∙ z)).distinct z))

      list_stays : (x : RigState) → Touches (drain_blocks u e) u x → ChainStays u x c
      list_stays x touches = chain_stays (drain_blocks u e) u x c touches list_apart h.chain

      touches_all : (x : RigState) → Touches (drain_blocks u e) u x → Touches (trunk_blocks s v) s x
      touches_all x touches =
          let all = session_trans begins.session h.runs.session in
          touches_within s u x (trunk_blocks s v) (drain_blocks u e) all.touches
          (record { off = λ z j i o. off_left j (drain_blocks u e) (chain_blocks u c) (all.within.off z j i o) }) touches

      -- As many records as the tree had,
      list_count : IsTrue s.device.told → (xs : List Record) → HasRecords apply s v xs → c.count ≡ length xs
      list_count z xs has =
          let items = ap (λ (ys : List Record). length ys) ((h.told (told_m z)).items xs (begun_gives z xs has)) in
          let count = length_items u c h.chain (told_u z) in
          omega (arith, items, count)

      list_used : IsTrue s.device.told → u.used + length (drain_blocks m d) ≡ m.used + (length (drain_blocks u e) + c.blocks)
      list_used z =
          let used = h.runs.loses (told_m z) in
          let both = length-append (drain_blocks u e) (chain_blocks u c) in
          let own = chain_length h.chain (told_u z) in
          omega (arith, used, both, own)

      list_blocks : IsTrue s.device.told → c.blocks ≡ ceiling c.count (payload_of m.pool.shape)
      list_blocks z = packed_blocks u c h.runs.session.sound.shape.block_low h.chain (told_u z) (h.told (told_m z)).packed
          ∙ ap (λ (p : ShapeNumbers). ceiling c.count (payload_of p)) h.runs.session.touches.shape

      -- the tree's room,
      tree_here : tree_room u.pool.shape (trunk_of e).longest ≡ tree_room m.pool.shape (trunk_of d).longest
      tree_here = ap (λ (p : ShapeNumbers). tree_room p (trunk_of e).longest) h.runs.session.touches.shape
          ∙ ap (λ (n : ℕ). tree_room m.pool.shape n) h.numbers.longest

      answers_here : IsTrue s.device.told
          → (trunk_of e).answers.blocks ≤ ceiling (answers_in apply m (trunk_of d)) (payload_of m.pool.shape)
      answers_here z =
          let most = answers_most h.runs.session.sound h.is (told_u z) in
          let same = ap (λ (n : ℕ). ceiling n (payload_of u.pool.shape)) (h.told (told_m z)).answers in
          let shape = ap (λ (p : ShapeNumbers). ceiling (answers_in apply m (trunk_of d)) (payload_of p))
          h.runs.session.touches.shape in
          omega (arith, most, same, shape)

      -- and at no moment more was held, or moved.
      pub ended_within : (x : RigState) → (IsTrue u.device.told → WithinRoom (trunk_of e).longest u x (trunk_of e))
          → EndCosts map_key_of (add_step_of apply) u x e → IsTrue s.device.told → (xs : List Record)
          → HasRecords apply s v xs → ListsWithin apply (trunk_blocks s v) s x v (length xs)
      ended_within x room costs z xs has =
          let now = h.told (told_m z) in
          let last = (room (told_u z)).most in
          let used = list_used z in
          let blocks = list_blocks z in
          let answers = answers_here z in
          let most = now.most in
          let moves = now.moves in
          let later = costs.later in
          let share = costs.share (told_u z) (trunk_of d) h.numbers in
          let shape = ap (λ (p : ShapeNumbers). drain_share p (trunk_of d) (answers_in apply u (trunk_of e)))
          h.runs.session.touches.shape in
          let due = ap (λ (n : ℕ). drain_share m.pool.shape (trunk_of d) n) now.answers in
          subst (λ (n : ℕ). ListsWithin apply (trunk_blocks s v) s x v n) (list_count z xs has)
          (within_begun x c.count z (record {
            room = record { is = omega (arith, last, used, blocks, answers, most, tree_here) };
            moves = omega (arith, moves, later, share, shape, due, blocks);
          }))

      pub ended : (x : RigState) → EndedDrain u x e → ListedPairs apply s x v c
      ended x g =
          let st = list_stays x g.session.touches in
          let all = session_trans begins.session h.runs.session in
          let last = session_then (drain_blocks u e) [] (chain_blocks u c) all g.session in
          let unstored = ap trunk_unstored begins.trunk in
          record {
            chain = st.is;
            packed = λ z. st.packed (told_u z) (h.told (told_m z)).packed;
            session = session_as (chain_blocks x c) last (λ z. st.blocks (told_u z));
            frames = begun_frames u x h.runs.frames g.frames;
            pays = pays_then (pays_more {p = trunk_unstored v} {q = drain_unstored d}
                (pays_kept 0 (omega (arith, used_same)) (omega (arith, moves_same))) (omega (arith, unstored)))
                (pays_then h.runs.pays g.pays g.session.touches.moves)
                (let first = h.runs.session.touches.moves in let then = g.session.touches.moves in omega (arith, first, then));
            loses = λ z.
                let used = list_used z in
                let own = ap (λ (ks : List ℕ). length ks) (begins.blocks z) in
                let gone = g.loses (told_u z) in
                let list = chain_length h.chain (told_u z) in
                let same = ap (λ (ks : List ℕ). length ks) (st.blocks (told_u z)) in
                omega (arith, used, own, gone, list, same, used_same);
            items = λ z xs has. st.items (told_u z) ∙ (h.told (told_m z)).items xs (begun_gives z xs has);
          }

      pub unended : (x : RigState) (fault : EmFault) → UnendedDrain u x e fault
          → (IsTrue u.device.told → FullOverRoom (trunk_of e).longest u (trunk_of e) fault) → Sound s
          → StopsPairs apply s x v fault
      unended x fault g over sound =
          let all = session_trans begins.session h.runs.session in
          let frames : u.pool.shape.frames ≡ s.pool.shape.frames =
          ap (λ (p : ShapeNumbers). p.frames) all.touches.shape in
          let unstored = ap trunk_unstored begins.trunk in
          record {
            sound = g.sound;
            touches = touches_all x g.touches;
            frames = begun_frames u x h.runs.frames g.frames;
            pays = pays_then (pays_more {p = trunk_unstored v} {q = drain_unstored d}
                (pays_kept 0 (omega (arith, used_same)) (omega (arith, moves_same))) (omega (arith, unstored)))
                (pays_then h.runs.pays (pays_more {p = drain_unstored e} {q = s.pool.shape.frames + 1} g.pays
                (omega (arith, frames))) g.touches.moves)
                (let first = h.runs.session.touches.moves in let then = g.touches.moves in omega (arith, first, then));
            cause = cause_after (trunk_blocks s v) s u x fault all.touches g.cause;
            full = λ z xs has.
                let used = list_used z in
                let blocks = list_blocks z in
                let answers = answers_here z in
                let room = tree_room u.pool.shape (trunk_of e).longest + (trunk_of e).answers.blocks in
                subst (λ (n : ℕ). FullOverList apply (trunk_blocks s v) s v n fault) (list_count z xs has)
                (full_begun c.count fault z
                (when_full fault (λ n. n + length (drain_blocks u e) < u.used + room)
                (λ n. n + length (drain_blocks m d)
                < m.used + listing_room m.pool.shape (trunk_of d) (answers_in apply m (trunk_of d)) c.count)
                (λ n less. omega (arith, less, used, blocks, answers, tree_here))
                (over_used fault (length (drain_blocks u e)) u.used room room u x (over (told_u z)).full g.cause
                g.touches.blocks (omega arith))));
          }

    -- Or listing gave up, and the drain was left.
    pub left_pairs : (u x : RigState) (e : PairDrain F) (fault : EmFault) → StopsListing apply m u d e fault
        → LeavesDrain u x → Sound s → StopsPairs apply s x v fault
    left_pairs u x e fault h l sound =
        let frames = ap (λ (p : ShapeNumbers). p.frames) begins.touches.shape in
        let unstored = ap trunk_unstored begins.trunk in
        let used = ap (λ (r : RigState). r.used) l.same in
        let moves = ap (λ (r : RigState). r.moves) l.same in
        record {
          sound = l.sound;
          touches = touches_then (trunk_blocks s v) s u x (touches_within s m u (trunk_blocks s v) (drain_blocks m d)
              begins.session.touches begins.session.within h.goes.touches) l.touches;
          frames = begun_frames u x h.goes.frames l.frames;
          pays = pays_then (pays_more {p = trunk_unstored v} {q = drain_unstored d}
              (pays_kept 0 (omega (arith, used_same)) (omega (arith, moves_same))) (omega (arith, unstored)))
              (pays_then h.pays (pays_more {p = m.pool.shape.frames + 1} {q = s.pool.shape.frames + 1}
              (pays_kept 0 (omega (arith, used)) (omega (arith, moves))) (omega (arith, frames))) (omega (arith, moves)))
              (let later = h.goes.touches.moves in omega (arith, later, moves));
          cause = cause_left s u x fault l (cause_after [] s m u fault begins.touches h.cause);
          full = λ z xs has. full_begun (length xs) fault z (h.full (told_m z) xs (begun_gives z xs has));
        }

    pub left_within : (u x : RigState) (e : PairDrain F) (fault : EmFault) → StopsListing apply m u d e fault
        → LeavesDrain u x → IsTrue s.device.told → (xs : List Record) → HasRecords apply s v xs
        → ListsWithin apply (trunk_blocks s v) s x v (length xs)
    left_within u x e fault h l z xs has =
        let w = h.within (told_m z) xs (begun_gives z xs has) in
        let most = w.room.is in
        let moves = w.moves in
        let more = ap (λ (r : RigState). r.most) l.same in
        let later = ap (λ (r : RigState). r.moves) l.same in
        within_begun x (length xs) z (record {
          room = record { is = omega (arith, most, more) };
          moves = omega (arith, moves, later);
        })
