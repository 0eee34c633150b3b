-- All that a drain gives stands in a list, and the drain's tree is given up.
use Rattle.std.proofs.Common.{◌≡◌, ℕ, ◌+◌, ◌*◌, ◌<◌, ◌≤◌, ◌^◌, max, min, List, [], ◌++◌, length, length-append, ap, sym, ◌∙◌, arith, IsTrue, Result, Ok, Err, IfOk, IfErr}
use Rattle.em_record.specs.Shape.{ShapeNumbers, fan_of}
use Rattle.em_model.specs.Map.{Combiner}
use Rattle.em_settle.specs.Add.{IsAddOp, add_step_of}
use Rattle.em_settle.specs.Map.{IsMapKept, map_key_of}
use Rattle.em_frames.specs.Pool.{GivenFrames, SameFrames, singles_of}
use Rattle.em_space.specs.Ledger.{Halts, Session, Spends}
use Rattle.em_space.specs.Queue.{CanServe}
use Rattle.em_space.specs.Rig.{DeviceCause, IfFull, RigState, Sound, Touches}
use Rattle.em_space.specs.declared.fault.EmFault.{EmFault}
use Rattle.em_space.specs.declared.fault.EmFault.TheVariants.{DeviceFault, Full, Damaged}
use Rattle.em_space.proofs.Apart.{off_right}
use Rattle.em_space.proofs.Held.{apart_none}
use Rattle.em_space.proofs.Paying.{pays_kept, pays_more, pays_then}
use Rattle.em_space.proofs.Sessions.{session_as, session_last, session_still, session_trans}
use Rattle.em_space.proofs.Steps.{cause_after, device_cause, touches_then}
use Rattle.em_space.proofs.Within.{touches_within, within_kept, within_same}
use Rattle.em_chain.specs.Chain.{chain_blocks}
use Rattle.em_chain.specs.Effects.{GivesFrame, LendsFrame, Unmoved}
use Rattle.em_chain.specs.Session.{FinishSpends, chain_account, writer_account}
use Rattle.em_chain.specs.Writer.{writer_blocks}
use Rattle.em_chain.specs.Writes.{Finishes}
use Rattle.em_chain.proofs.Writings.{cause_still}
use Rattle.em_chain.specs.declared.chain.Chain.{Chain}
use Rattle.em_chain.specs.declared.writer.Writer.{Writer}
use Rattle.em_sorting.specs.Pushes.{CanServeBeside}
use Rattle.em_tree_walk.proofs.Losses.{chain_length}
use Rattle.em_bulk.specs.Draining.{drain_blocks, drain_unstored, trunk_of}
use Rattle.em_bulk.proofs.DrainNumbers.{drained_within}
use Rattle.em_bulk.proofs.DrainStays.{DrainStays, drain_frames, drain_stays}
use Rattle.em_map.specs.Loading.{answers_in}
use Rattle.em_services.specs.Listing.{AppendedAll, GivesFew, IsPairDrain, Listed, ListsTo, ListsWithin, PairDrain, StopsListing, listing_moves, listing_room}
use Rattle.em_ready.proofs.RoomLaws.{when_full}
use Rattle.em_services.proofs.Appended.{answers_still, frames_still, given_few, list_apart, list_blocks, list_rises, list_share, list_used}

-- The device failed: it wasn't full.
never_full : (fault : EmFault) (P : ℕ → Type 0) → fault ≡ DeviceFault → IfFull fault P
never_full DeviceFault P e = tt
never_full (Full used) P e = absurd (cc)
never_full (Damaged block) P e = tt

-- A frame was lent to a list,
module _ {F : Type 0} (apply : Combiner) (s a : RigState) (d : PairDrain F) (sound : Sound s) (is : IsPairDrain apply s d)
    (lends : LendsFrame s a) where
  pub lent_drain : DrainStays map_key_of (add_step_of apply) IsAddOp IsMapKept s a d
  lent_drain = drain_stays map_key_of (add_step_of apply) IsAddOp IsMapKept [] s a d lends.touches
      (frames_still s a d lends.frames.shape
      (let out = is.is.running.frames.out in
      let shape = ap singles_of lends.frames.shape in
      omega (arith, out, lends.frames.free, shape))
      (let out = is.out in omega (arith, out, lends.frames.free_areas)) (drain_frames is)) is
      (λ z. apart_none (drain_blocks s d))

  lent_answers : IsTrue s.device.told → answers_in apply a (trunk_of d) ≡ answers_in apply s (trunk_of d)
  lent_answers z = answers_still apply s a (trunk_of d) (lent_drain.reads z)

  -- beside which the drain's calls have theirs,
  pub lent_serves : CanServeBeside 1 s.pool → CanServe a.pool
  lent_serves free = record {
    singles = let fan = ap fan_of lends.frames.shape in omega (arith, free.singles, lends.frames.free, fan);
    areas = omega (arith, free.areas, lends.frames.free_areas);
    rack = lends.frames.rack ∙ free.rack;
  }

  pub lent_few : (IsTrue s.device.told → GivesFew apply (2 ^ 40) s d) → IsTrue a.device.told → GivesFew apply (2 ^ 40) a d
  lent_few few z =
      let here : IsTrue s.device.told = sym lends.touches.told ∙ z in
      let list = few here in
      record { list = list.list; gives = lent_drain.gives here list.list list.gives; few = list.few }

  lent_session : Session (drain_blocks s d) s a (drain_blocks a d)
  lent_session = session_as (drain_blocks a d)
      (session_still (drain_blocks s d) lends.sound lends.touches (λ z. (is.is.running.stands z).holds)) (λ z. (lent_drain.reads z).blocks)

  -- and the same room,
  same_room : IsTrue s.device.told → (n : ℕ) → listing_room a.pool.shape (trunk_of d) (answers_in apply a (trunk_of d)) n
      ≡ listing_room s.pool.shape (trunk_of d) (answers_in apply s (trunk_of d)) n
  same_room z n = ap (λ (p : ShapeNumbers). listing_room p (trunk_of d) (answers_in apply a (trunk_of d)) n) lends.touches.shape
      ∙ ap (λ (k : ℕ). listing_room s.pool.shape (trunk_of d) k n) (lent_answers z)

  same_moves : IsTrue s.device.told → (n : ℕ) → listing_moves a.pool.shape (trunk_of d) (answers_in apply a (trunk_of d)) n
      ≡ listing_moves s.pool.shape (trunk_of d) (answers_in apply s (trunk_of d)) n
  same_moves z n = ap (λ (p : ShapeNumbers). listing_moves p (trunk_of d) (answers_in apply a (trunk_of d)) n) lends.touches.shape
      ∙ ap (λ (k : ℕ). listing_moves s.pool.shape (trunk_of d) k n) (lent_answers z)

  lent_within : (t : RigState) (n : ℕ) → IsTrue s.device.told → Unmoved s a
      → ListsWithin apply (drain_blocks a d) a t (trunk_of d) n → ListsWithin apply (drain_blocks s d) s t (trunk_of d) n
  lent_within t n z unmoved w =
      let own = ap (λ (ks : List ℕ). length ks) (lent_drain.reads z).blocks in
      let same = same_room z n in
      let moves = same_moves z n in
      let most = w.room.is in
      record {
        room = record { is = omega (arith, own, same, most, unmoved.same.used, unmoved.same.most) };
        moves = let all = w.moves in omega (arith, all, moves, unmoved.moves);
      }

  -- and after these it came back.
  lent_frames : (t u : RigState) → SameFrames a.pool t.pool → GivenFrames 1 t.pool u.pool → SameFrames s.pool u.pool
  lent_frames t u same back = record {
    shape = back.shape ∙ same.shape ∙ lends.frames.shape;
    free = omega (arith, back.free, same.free, lends.frames.free);
    rack = back.rack ∙ same.rack ∙ lends.frames.rack;
    free_areas = omega (arith, back.free_areas, same.free_areas, lends.frames.free_areas);
    peak = omega (arith, back.peak, same.peak, lends.frames.peak);
  }

  -- The list was finished,
  module _ (unmoved : Unmoved s a) (t u : RigState) (e : PairDrain F) (w : Writer) (all : AppendedAll apply a t d e w)
      (gives : GivesFrame (writer_blocks t w) t u) where
    frames_back : SameFrames s.pool u.pool
    frames_back = lent_frames t u all.lists.runs.frames gives.frames

    finished_drain : DrainStays map_key_of (add_step_of apply) IsAddOp IsMapKept t u e
    finished_drain = drain_stays map_key_of (add_step_of apply) IsAddOp IsMapKept (writer_blocks t w) t u e gives.touches
        (frames_still t u e gives.touches.shape
        (let out = is.is.running.frames.out in
        let shape = ap singles_of frames_back.shape in
        omega (arith, out, frames_back.free, shape))
        (let out = is.out in omega (arith, out, frames_back.free_areas)) (drain_frames all.lists.is)) all.lists.is
        (list_apart apply a t d e w [] all.lists)

    told_a : IsTrue s.device.told → IsTrue a.device.told
    told_a z = lends.touches.told ∙ z

    told_t : IsTrue s.device.told → IsTrue t.device.told
    told_t z = all.lists.runs.session.touches.told ∙ told_a z

    finished_touches : Touches (drain_blocks s d) s u
    finished_touches = touches_within s t u (drain_blocks s d) (writer_blocks t w)
        (session_trans lent_session all.lists.runs.session).touches
        (record {
          off = λ z j i o. off_right j (drain_blocks t e) (writer_blocks t w)
              ((session_trans lent_session all.lists.runs.session).within.off z j i o);
        })
        gives.touches

    finished_session : (c : Chain) → Finishes t u w c → Session (drain_blocks s d) s u (drain_blocks u e ++ chain_blocks u c)
    finished_session c f =
        let list : Session (writer_blocks t w) t u (chain_blocks u c) = record {
          sound = gives.sound;
          touches = gives.touches;
          within = within_kept t (writer_blocks t w) (writer_blocks t w) (chain_blocks u c) (within_same t (writer_blocks t w))
              f.blocks;
          holds = λ z. (f.is.told (gives.touches.told ∙ z)).holds;
        } in
        let both = session_last (drain_blocks t e) (writer_blocks t w) (chain_blocks u c)
        (session_trans lent_session all.lists.runs.session) list in
        session_as (drain_blocks u e ++ chain_blocks u c) both
        (λ z. ap (λ (ks : List ℕ). ks ++ chain_blocks u c) (finished_drain.reads (told_t z)).blocks)

    pub listed : (c : Chain) → Finishes t u w c
        → Spends w.blocks (writer_account w) (chain_account (min w.blocks 1) c) t u → Listed apply s u d e c
    listed c f spends =
        let h = all.lists in
        let st = finished_drain in
        record {
          is = st.is;
          chain = f.is;
          runs = record {
            session = finished_session c f;
            frames = frames_back;
            pays = pays_then (pays_kept (drain_unstored d) (omega (arith, unmoved.same.used)) (omega (arith, unmoved.moves)))
                (pays_then h.runs.pays (pays_more {p = drain_unstored e + min w.blocks 1} {q = drain_unstored e} spends.pays
                (omega arith)) spends.later)
                (let later = h.runs.session.touches.moves in omega (arith, later, spends.later));
            loses = λ z.
                let used = list_used apply a t d e w [] h (told_a z) in
                let own = ap (λ (ks : List ℕ). length ks) (lent_drain.reads z).blocks in
                let tree = ap (λ (ks : List ℕ). length ks) (st.reads (told_t z)).blocks in
                let list = chain_length f.is (gives.touches.told ∙ told_t z) in
                let both = length-append (drain_blocks u e) (chain_blocks u c) in
                omega (arith, used, own, tree, list, both, unmoved.same.used, spends.used);
          };
          numbers = h.numbers;
          told = λ z.
              let now = h.told (told_a z) in
              record {
                packed = f.packed (told_t z) now.packed;
                answers = answers_still apply t u (trunk_of e) (st.reads (told_t z)) ∙ now.answers ∙ lent_answers z;
                items = λ xs g. f.items (told_t z) ∙ all.all (told_a z) xs (lent_drain.gives z xs g);
                most = finished_most z c f spends;
                moves =
                    let moves = now.moves in
                    let blocks = f.blocks_is in
                    omega (arith, moves, blocks, unmoved.moves, spends.moves);
              };
        }
      where
        finished_most : IsTrue s.device.told → (c : Chain) → Finishes t u w c
            → Spends w.blocks (writer_account w) (chain_account (min w.blocks 1) c) t u
            → u.most + length (drain_blocks s d) ≤ max (s.most + length (drain_blocks s d))
            (s.used + listing_room s.pool.shape (trunk_of d) (answers_in apply s (trunk_of d)) c.count)
        finished_most z c f spends =
            let most = (all.lists.told (told_a z)).most in
            let own = ap (λ (ks : List ℕ). length ks) (lent_drain.reads z).blocks in
            let count = f.count_is in
            let same = same_room z w.count in
            let more = all.lists.runs.session.sound.numbers.used_most in
            let room = ap (λ (n : ℕ). listing_room s.pool.shape (trunk_of d) (answers_in apply s (trunk_of d)) n) count in
            omega (arith, most, own, same, room, more, unmoved.same.used, unmoved.same.most, spends.most)

    -- or the device failed.
    unfinished : (fault : EmFault)
        → Halts w.blocks (2 * w.blocks + min w.blocks 1) (min w.blocks 1) (writer_account w) t u fault → DeviceCause t u fault
        → StopsListing apply s u d e fault
    unfinished fault halts cause =
        let h = all.lists in
        let frames = ap (λ (p : ShapeNumbers). p.frames) lends.touches.shape in
        let low = sound.shape.frames_low in
        record {
          goes = record { sound = gives.sound; touches = finished_touches; frames = frames_back };
          drain = drain_frames finished_drain.is;
          pays = pays_then (pays_kept (drain_unstored d) (omega (arith, unmoved.same.used)) (omega (arith, unmoved.moves)))
              (pays_then h.runs.pays
              (pays_more {p = drain_unstored e + min w.blocks 1} {q = s.pool.shape.frames + 1} halts.pays (omega (arith, low)))
              halts.later)
              (let later = h.runs.session.touches.moves in omega (arith, later, halts.later));
          cause = cause_after (drain_blocks s d) s t u fault (session_trans lent_session h.runs.session).touches
              (device_cause t u fault cause);
          within = λ z xs gives.
              let now = h.told (told_a z) in
              let own = ap (λ (ks : List ℕ). length ks) (lent_drain.reads z).blocks in
              let few = given_few apply a t d e w [] h xs (told_a z) (lent_drain.gives z xs gives) in
              let blocks = list_blocks apply a t d e w [] h in
              let rises = list_rises apply a t d e w [] h w.count (length xs) (omega (arith, few)) in
              let most = now.most in
              let moves = now.moves in
              let more = h.runs.session.sound.numbers.used_most in
              let spent = drained_within a.pool.shape (answers_in apply a (trunk_of d)) h.numbers
              (list_share apply a t d e w [] h (told_a z)) h.is.is.running.numbers.counted_most in
              lent_within u (length xs) z unmoved (record {
                room = record { is = omega (arith, most, blocks, rises, more, halts.most) };
                moves = omega (arith, moves, blocks, rises, spent, halts.moves);
              });
          full = λ z xs gives. never_full fault (λ used. used + length (drain_blocks s d)
              < s.used + listing_room s.pool.shape (trunk_of d) (answers_in apply s (trunk_of d)) (length xs)) cause.is;
        }

    pub finish_lists : (result : Result Chain EmFault) → IfOk result (λ c. Finishes t u w c) → FinishSpends t u w result
        → IfErr result (DeviceCause t u) → ListsTo apply s u d e result
    finish_lists (Ok c) f spends cause = listed c f spends
    finish_lists (Err fault) f spends cause = unfinished fault spends cause

  -- Appending gave up, and the frame came back.
  pub left_lists : (unmoved : Unmoved s a) (t u : RigState) (e : PairDrain F) (fault : EmFault)
      → StopsListing apply a t d e fault → GivesFrame [] t u → Unmoved t u → StopsListing apply s u d e fault
  left_lists unmoved t u e fault x gives left =
      let back = lent_frames t u x.goes.frames gives.frames in
      let frames = ap (λ (p : ShapeNumbers). p.frames) lends.touches.shape in
      let later = x.goes.touches.moves in
      let first = touches_within s a t (drain_blocks s d) (drain_blocks a d) lent_session.touches lent_session.within
      x.goes.touches in
      record {
        goes = record {
          sound = gives.sound;
          touches = touches_then (drain_blocks s d) s t u first gives.touches;
          frames = back;
        };
        drain = frames_still t u e gives.touches.shape
            (let out = is.is.running.frames.out in
            let shape = ap singles_of back.shape in
            omega (arith, out, back.free, shape))
            (let out = is.out in omega (arith, out, back.free_areas)) x.drain;
        pays = pays_then (pays_kept (drain_unstored d) (omega (arith, unmoved.same.used)) (omega (arith, unmoved.moves)))
            (pays_then x.pays
            (pays_more {p = a.pool.shape.frames + 1} {q = s.pool.shape.frames + 1}
            (pays_kept 0 (omega (arith, left.same.used)) (omega (arith, left.moves))) (omega (arith, frames)))
            (omega (arith, left.moves)))
            (omega (arith, later, left.moves));
        cause = cause_still s t u fault left gives.touches (cause_after [] s a t fault lends.touches x.cause);
        within = λ z xs g.
            let all = x.within (lends.touches.told ∙ z) xs (lent_drain.gives z xs g) in
            let most = all.room.is in
            let moves = all.moves in
            lent_within u (length xs) z unmoved (record {
              room = record { is = omega (arith, most, left.same.most) };
              moves = omega (arith, moves, left.moves);
            });
        full = λ z xs g.
            let own = ap (λ (ks : List ℕ). length ks) (lent_drain.reads z).blocks in
            let same = same_room z (length xs) in
            when_full fault
            (λ n. n + length (drain_blocks a d)
            < a.used + listing_room a.pool.shape (trunk_of d) (answers_in apply a (trunk_of d)) (length xs))
            (λ n. n + length (drain_blocks s d)
            < s.used + listing_room s.pool.shape (trunk_of d) (answers_in apply s (trunk_of d)) (length xs))
            (λ n less. omega (arith, less, own, same, unmoved.same.used))
            (x.full (lends.touches.told ∙ z) xs (lent_drain.gives z xs g));
      }
