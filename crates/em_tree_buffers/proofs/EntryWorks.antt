-- The buffer of an entry over a node is emptied: a step of a call.
use Rattle.std.proofs.Common.{◌≡◌, Bool, true, false, ℕ, suc, ◌+◌, ◌-◌, ◌*◌, ◌≤◌, List, [], length, get_or, refl, sym, ap, ◌∙◌, subst, arith, IsTrue}
use Rattle.std.specs.Option.{is_some}
use Rattle.std.specs.Prelude.{Option, None}
use Rattle.std.proofs.lemmas.Bool.{false≢true}
use Rattle.em_record.specs.Shape.{ShapeNumbers, fan_of, payload_of, wide_of}
use Rattle.em_record.specs.declared.record.Record.{Record}
use Rattle.em_settle.specs.Laws.{IsSettle}
use Rattle.em_settle.specs.declared.step.Step.{Step}
use Rattle.em_frames.specs.Pool.{SameFrames}
use Rattle.em_space.specs.Ledger.{Session}
use Rattle.em_space.specs.Queue.{Pays}
use Rattle.em_space.specs.Rig.{RigState, Touches}
use Rattle.em_space.proofs.Paying.{pays_kept, pays_more, pays_then}
use Rattle.em_space.proofs.Steps.{same_frames_then}
use Rattle.em_chain.specs.Chain.{chain_items, payload_in}
use Rattle.em_chain.specs.Counts.{ceiling}
use Rattle.em_chain.specs.Writer.{writer_items}
use Rattle.em_chain.specs.declared.chain.Chain.{Chain}
use Rattle.em_node.specs.Node.{no_entry}
use Rattle.em_tree_model.specs.Meaning.{tree_answers, tree_contents}
use Rattle.em_tree_model.specs.Places.{put_at}
use Rattle.em_tree_model.specs.Pouring.{pour}
use Rattle.em_tree_model.specs.Ranges.{least_record}
use Rattle.em_tree_model.specs.Tree.{Tree}
use Rattle.em_tree_model.specs.Tree.Tree.{end, entry}
use Rattle.em_tree_model.proofs.RowPlaces.{put_in}
use Rattle.em_empty.specs.Effects.{EmptiedAt, reached}
use Rattle.em_tree_blocks.specs.Effects.{entry_at_place, entry_on, entry_place, row_from}
use Rattle.em_tree_blocks.specs.Node.{buffer_of, linked_block}
use Rattle.em_tree_blocks.specs.Paths.{child_at, node_on, place_on}
use Rattle.em_tree_blocks.specs.Reading.{IsTreeAt, entries_at, tree_at, tree_blocks}
use Rattle.em_tree_cost.specs.Counters.{Sums}
use Rattle.em_tree_cost.specs.Outline.{sums_of}
use Rattle.em_tree_outline.specs.Outline.{outline_of}
use Rattle.em_tree_walk.specs.Taken.{TakenAt, TookBuffer}
use Rattle.em_trunk.specs.Buffers.{IsBounded}
use Rattle.em_trunk.specs.Events.{Charges, Continues}
use Rattle.em_tree_buffers.specs.Emptying.{CanEmptyEntry, EmptiedEntry, RowThin, TellsFull, lower_debt}
use Rattle.em_tree_walk.specs.Forms.{AreFormed}
use Rattle.em_tree_walk.specs.Paid.{LosesNone}
use Rattle.em_trunk.specs.Sized.{IsSized}
use Rattle.em_trunk.specs.Trunk.{IsRunning, IsStanding, full_limit, given_by, model_of, root_of, sums_in, trunk_unstored}
use Rattle.em_trunk.specs.Works.{Works, CanWork, deepest}
use Rattle.em_trunk.specs.declared.trunk.Trunk.{Trunk}
use Rattle.em_tree_buffers.proofs.EntryBefore.{buffer_blocks_are, child_few, child_row, full_charged, is_old, level_few, lowers_sums, moves_most, node_held, node_stored, old_is, some, sp, st, sums_after, thin_charged, thin_placed, tree_held}
use Rattle.em_trunk.proofs.Events.{entry_emptied}
use Rattle.em_tree_buffers.proofs.Lifted.{TreeWorked, tree_worked}
use Rattle.em_tree_buffers.proofs.Lowered.{NodeLowered, child_entries, node_lowered}
use Rattle.em_tree_buffers.proofs.LoweredTree.{bounded_lowered, lows_lowered, sized_lowered}
use Rattle.em_trunk.proofs.Meaning.{represents_itself}
use Rattle.em_trunk.proofs.Spots.{spot_level}
use Rattle.em_empty.specs.FirstFull.{IsFirstFull}
use Rattle.em_tree_buffers.proofs.Tells.{none_full, some_full}
use Rattle.em_trunk.proofs.TrunkLists.{ListsStay, lists_stay_by, touches_told}
use Rattle.em_trunk.proofs.Waits.{none_on}
use Rattle.em_trunk.proofs.Rooms.{keeps_by, peak_fits}
use Rattle.em_trunk.specs.Spots.{EachRead}
use Rattle.em_tree_load.proofs.Peaks.{peaks_same, peaks_then}
use Rattle.em_tree_load.specs.Peaks.{Peaks}
use Rattle.em_tree_load.proofs.LoadPeaks.{pouring_peaks}

-- the moves of both calls, by those of each
pub few_moves : (s a t b x d r n m : ℕ) → a ≤ s + 2 → t ≤ a + (2 * b + 2 * x + 4 * r + 2) → r ≤ n
    → n ≡ m → b ≡ d → x ≡ d → t ≤ s + (4 * d + (4 * m + 4))
few_moves s a t b x d r n m i j k e g z = omega (arith, i, j, k, e, g, z)

-- as many buffers get a record as there are entries, at most
pub reached_told : (a : RigState) (k : ℕ) (c : Chain) (b : Bool) → a.device.told ≡ b
    → IsTrue a.device.told → reached a k c ≤ length (entries_at a k)
reached_told a k c true e z = rw e (omega arith)
reached_told a k c false e z = absurd (false≢true (sym e ∙ z))

module _ (key : Record → Record) (step : Option Record → Record → Step)
    (IsOp IsKept : Record → Type 0) (laws : IsSettle key step IsOp IsKept) (l node at child : ℕ)
    (s a t : RigState) (v : Trunk) (buffer : Chain) (least : Option ℕ)
    (can : CanWork key IsOp IsKept s v) (spot : CanEmptyEntry (suc l) node at s v)
    (took : TookBuffer s a (suc (suc l)) node at child buffer)
    (done : EmptiedAt key a t child buffer least) where
  module _ (told : IsTrue s.device.told) where
    took_here : TookBuffer s a (suc (suc l)) (node_on spot.spot.path v.level s v.root) at child buffer
    took_here =
        let P : ℕ → Type 0 = λ n. TookBuffer s a (suc (suc l)) n at child buffer in
        subst P (sym ((sp key IsOp IsKept l node at s v can spot told)).node_is) took

    taken : TakenAt s a (suc (suc l)) (node_on spot.spot.path v.level s v.root) at child buffer
    taken = took_here.told told

    done_here : (let es = entries_at s (node_on spot.spot.path v.level s v.root) in
        EmptiedAt key a t (child_at at es) (buffer_of (get_or es at no_entry)) least)
    done_here =
        let es = entries_at s (node_on spot.spot.path v.level s v.root) in
        let P : ℕ → Type 0 = λ k. EmptiedAt key a t k buffer least in
        let Q : Chain → Type 0 = λ c. EmptiedAt key a t (child_at at es) c least in
        subst Q taken.buffer_is (subst P taken.child_is done)

    lowered : NodeLowered key l s t (node_on spot.spot.path v.level s v.root) at
    lowered = node_lowered key l s a t (node_on spot.spot.path v.level s v.root) at least told
        (node_stored key IsOp IsKept l node at s v can spot told) ((sp key IsOp IsKept l node at s v can spot told)).on.one (node_held key IsOp IsKept l node at s v can spot told) took_here.stores.goes.touches took_here.stores.goes.sound
        taken.node_is taken.entries done_here took_here.stores.same.used

    worked : TreeWorked s t spot.spot.path v.level v.root
    worked =
        let j = node_on spot.spot.path v.level s v.root in
        let P : ℕ → Type 0 = λ n. Session (tree_blocks n s j) s t (tree_blocks n t j) in
        let R : ℕ → Type 0 = λ n. LosesNone (tree_blocks n s j) (tree_blocks n t j) s t in
        let Q : ℕ → Type 0 = λ n. IsTreeAt n t j in
        let level = ((sp key IsOp IsKept l node at s v can spot told)).on.level in
        tree_worked s t spot.spot.path v.level v.root told ((sp key IsOp IsKept l node at s v can spot told)).on.on_path ((st key IsOp IsKept l node at s v can spot told)).stored (tree_held key IsOp IsKept l node at s v can spot told)
        (subst P (sym level) lowered.session) (subst R (sym level) lowered.loses) (subst Q (sym level) lowered.is)

    -- what is read
    new_is : (let path = spot.spot.path in let e = entry_on v.level s v.root path at in
        root_of t v ≡ put_at (entry_at_place v.level s v.root path (suc l) at)
        (entry e.low [] (pour key (tree_at (suc l) s (linked_block e.child)) (chain_items s (buffer_of e)))
        (row_from (suc l) s (node_on path v.level s v.root) (suc at))))
    new_is =
        let path = spot.spot.path in
        let e = entry_on v.level s v.root path at in
        let j = node_on path v.level s v.root in
        let o = place_on path v.level s v.root in
        let x = entry e.low []
        (pour key (tree_at (suc l) s (linked_block e.child)) (chain_items s (buffer_of e)))
        (row_from (suc l) s j (suc at)) in
        worked.reads ∙ (ap (λ n. put_at o (tree_at n t j)) ((sp key IsOp IsKept l node at s v can spot told)).on.level
        ∙ (ap (put_at o) lowered.reads ∙ sym (put_in o (entry_place (suc l) s j at) x)))

    -- the moves of both calls
    moves_few : t.moves ≤ s.moves + (moves_most key IsOp IsKept l node at s v can spot told)
    moves_few =
        let path = spot.spot.path in
        let e = entry_on v.level s v.root path at in
        let k = linked_block e.child in
        let c = buffer_of e in
        let touches = took_here.stores.goes.touches in
        let same : payload_in a ≡ payload_in s = ap payload_of touches.shape in
        let entries = ap length (child_entries l s (node_on path v.level s v.root) at told
        (node_stored key IsOp IsKept l node at s v can spot told)
        ((sp key IsOp IsKept l node at s v can spot told)).on.one (node_held key IsOp IsKept l node at s v can spot told) a touches) in
        few_moves s.moves a.moves t.moves c.blocks (ceiling c.count (payload_in a))
        (ceiling c.count (payload_in s)) (reached a k c) (length (entries_at a k))
        (length (entries_at s k)) took_here.stores.moves done_here.costs.moves
        (reached_told a k c a.device.told refl (touches.told ∙ told)) entries
        (buffer_blocks_are key IsOp IsKept l node at s v can spot told) (ap (ceiling c.count) same)

    -- the blocks in use meanwhile
    peaks : Peaks (2 * fan_of s.pool.shape + 1) s t
    peaks =
        let path = spot.spot.path in
        let e = entry_on v.level s v.root path at in
        let k = linked_block e.child in
        let c = buffer_of e in
        let touches = took_here.stores.goes.touches in
        let entries = ap length (child_entries l s (node_on path v.level s v.root) at told
        (node_stored key IsOp IsKept l node at s v can spot told)
        ((sp key IsOp IsKept l node at s v can spot told)).on.one (node_held key IsOp IsKept l node at s v can spot told) a touches) in
        let r = reached_told a k c a.device.told refl (touches.told ∙ told) in
        let few = child_few key IsOp IsKept l node at s v can spot told in
        peaks_then (2 * fan_of s.pool.shape + 1) (peaks_same 0 took_here.stores.same)
        (pouring_peaks done_here.costs) (omega (arith, entries, r, few))

  base : Touches (tree_blocks v.level s v.root) s t
  base = touches_told took.stores.goes.touches done.session.touches (λ z. (worked z).session.touches)

  same_pool : SameFrames s.pool t.pool
  same_pool = same_frames_then s.pool a.pool t.pool took.stores.goes.frames done.frames

  lists : ListsStay s t v
  lists = lists_stay_by can.running done.session.sound same_pool base (λ z. (worked z).session)
      (λ z. (worked z).loses z)

  continued : IsTrue s.device.told → Continues key step IsOp IsKept (given_by s v) (model_of s v)
      (given_by t v) (model_of t v)
  continued told =
      let path = spot.spot.path in
      let e = entry_on v.level s v.root path at in
      let ops = writer_items s v.buffer in
      let next = root_of t v in
      let same = entry_emptied key step IsOp IsKept laws (given_by s v) least_record ops (root_of s v) next
      (entry_at_place v.level s v.root path (suc l) at) e.low (chain_items s (buffer_of e))
      (tree_at (suc l) s (linked_block e.child))
      (row_from (suc l) s (node_on path v.level s v.root) (suc at)) (some key IsOp IsKept l node at s v can spot told) (old_is key IsOp IsKept l node at s v can spot told) (new_is told) in
      let P : List Record → Type 0 = λ g. Continues key step IsOp IsKept (given_by s v) (model_of s v) g
      (entry least_record ops next end) in
      let Q : List Record → Type 0 = λ xs. Continues key step IsOp IsKept (given_by s v) (model_of s v)
      (given_by t v) (entry least_record xs next end) in
      subst Q (sym (lists.buffer.items told)) (subst P (sym (lists.answers.items told)) same)

  standing : IsTrue s.device.told → IsStanding key IsOp IsKept t v
  standing told =
      let path = spot.spot.path in
      let j = node_on path v.level s v.root in
      let e = entry_on v.level s v.root path at in
      let b = chain_items s (buffer_of e) in
      let c = tree_at (suc l) s (linked_block e.child) in
      let r = row_from (suc l) s j (suc at) in
      let p = entry_at_place v.level s v.root path (suc l) at in
      let shape = lists.session.touches.shape in
      let limit = full_limit s.pool.shape in
      let own = represents_itself key step IsOp IsKept (given_by s v) (model_of s v) ((st key IsOp IsKept l node at s v can spot told)).is ((st key IsOp IsKept l node at s v can spot told)).turn in
      let means = (continued told).represents (tree_contents key step (model_of s v))
      (tree_answers key step (given_by s v) (model_of s v)) own in
      let F : ℕ → Type 0 = λ n. AreFormed n s j → AreFormed n t j in
      let Z : ShapeNumbers → Type 0 = λ h. IsSized h (outline_of (model_of t v)) in
      let B : ShapeNumbers → Type 0 = λ h. EachRead (IsBounded v.level (full_limit h)) t v in
      record {
        holds = lists.session.holds told;
        stored = (worked told).is;
        formed = (worked told).formed (subst F (sym ((sp key IsOp IsKept l node at s v can spot told)).on.level) (lowered told).formed) ((st key IsOp IsKept l node at s v can spot told)).formed;
        is = means.is;
        turn = means.turn;
        lows = lows_lowered key p e.low b c r (root_of s v) (root_of t v) (old_is key IsOp IsKept l node at s v can spot told) (new_is told) least_record
            ((st key IsOp IsKept l node at s v can spot told)).lows;
        sized = subst Z (sym shape) (sized_lowered key p e.low b c r (root_of s v) (root_of t v) (old_is key IsOp IsKept l node at s v can spot told)
            (new_is told) s.pool.shape least_record (writer_items s v.buffer) (child_row key IsOp IsKept l node at s v can spot told) (some key IsOp IsKept l node at s v can spot told) ((st key IsOp IsKept l node at s v can spot told)).sized
            (writer_items t v.buffer));
        bounded = subst B (sym shape) (bounded_lowered key p e.low b c r (root_of s v) (root_of t v) (old_is key IsOp IsKept l node at s v can spot told)
            (new_is told) v.level limit v.level least_record None (suc (suc l))
            (spot_level v.level s v.root path (suc l) at ((sp key IsOp IsKept l node at s v can spot told)).on) (omega arith) (level_few key IsOp IsKept l node at s v can spot told) tt (is_old key IsOp IsKept l node at s v can spot told)
            (thin_placed key IsOp IsKept l node at s v can spot told) ((st key IsOp IsKept l node at s v can spot told)).bounded);
        packed = lists.buffer.packed told ((st key IsOp IsKept l node at s v can spot told)).packed;
        answers_packed = lists.answers.packed told ((st key IsOp IsKept l node at s v can spot told)).answers_packed;
      }

  running : IsRunning key IsOp IsKept t v
  running = record {
    frames = lists.frames;
    numbers = lists.numbers;
    buffer = lists.buffer.is;
    answers = lists.answers.is;
    stands = λ z. standing (sym lists.session.touches.told ∙ z);
  }

  pays : Pays (trunk_unstored v) (trunk_unstored v) s t
  pays =
      let n = trunk_unstored v in
      let used = took.stores.same.used in
      let first : Pays n n s a = pays_kept n (omega (arith, used)) took.stores.goes.touches.moves in
      pays_then first (pays_more done.frees.pays (omega arith)) done.session.touches.moves

  -- the sums that were charged are those of what is read
  sums_are : (told : IsTrue s.device.told) → sums_in t v ≡ (sums_after key IsOp IsKept l node at s v can spot told)
  sums_are told =
      let S : ShapeNumbers → Sums = λ h. sums_of (2 * wide_of h * h.block) v.level
      (outline_of (root_of t v)) v.buffer.count v.buffer.blocks in
      ap S lists.session.touches.shape
      ∙ ap (λ x. sums_of (2 * wide_of s.pool.shape * s.pool.shape.block) v.level (outline_of x)
      v.buffer.count v.buffer.blocks) (new_is told)

  -- A step, by what its moves are charged to.
  step_by : (p q d : ℕ)
      → ((told : IsTrue s.device.told) (m : ℕ) → m ≤ (moves_most key IsOp IsKept l node at s v can spot told)
      → Charges s.pool.shape v.longest p m q d (sums_in s v) (sums_after key IsOp IsKept l node at s v can spot told))
      → Works key step IsOp IsKept p q d 0 s t v v
  step_by p q d charge =
      let C : (told : IsTrue s.device.told) (m : ℕ) → m ≤ (moves_most key IsOp IsKept l node at s v can spot told)
      → Charges s.pool.shape v.longest p m q d (sums_in s v) (sums_in t v) = λ told m few.
      (let P : Sums → Type 0 = Charges s.pool.shape v.longest p m q d (sums_in s v) in
      subst P (sym (sums_are told)) (charge told m few)) in
      record {
        session = lists.session;
        frames = same_pool;
        pays = pays;
        loses = lists.loses;
        numbers = record {
          pushed = refl;
          longest = refl;
          since = refl;
          settled = refl;
          resets = refl;
          spent = refl;
          adopted = refl;
          counted = refl;
        };
        steps = omega arith;
        running = running;
        continues = continued;
        still = λ told. none_on key step IsOp IsKept (can.running.stands told).is (can.running.stands told).turn
            (continued told);
        charges = λ told. C told (t.moves - s.moves) (let h = moves_few told in omega (arith, h));
        paces = λ told. C told 0 (omega arith);
        gives = λ told.
            let e = ap (λ (x : Sums). x.waiting) (sums_are told) in
            let f = (lowers_sums key IsOp IsKept l node at s v can spot told).waiting in
            let g : v.answers.count + (sums_in t v).waiting ≤ v.answers.count + (sums_in s v).waiting =
            omega (arith, e, f) in
            g;
        room = λ told n h. keeps_by can.running can.sound.shape told (peaks told)
            (let p = peak_fits can.sound.shape in omega (arith, p)) n h;
      }

  -- whether a buffer of the child is full
  pub entry_tells : IsTrue s.device.told
      → TellsFull key (suc l) at s v spot.spot.path (is_some least)
  entry_tells told =
      let es = entries_at s (node_on spot.spot.path v.level s v.root) in
      let k = child_at at es in
      let touches = (took_here told).stores.goes.touches in
      let e = (done_here told).emptied (touches.told ∙ told) in
      let later : IsTrue t.device.told = done.session.touches.told ∙ (touches.told ∙ told) in
      let limit = full_limit s.pool.shape in
      let F : ShapeNumbers → Type 0 = λ z. IsFirstFull (full_limit z) (entries_at t k) least in
      let first = subst F touches.shape e.first_is in
      let T : Tree → Type 0 = λ x. is_some least ≡ false → RowThin limit x in
      let S : Tree → Type 0 = λ x. is_some least ≡ true → RowThin limit x → ⊥ in
      let same = (lowered told).child in
      record {
        thin = subst T same (none_full (tree_at l t) t later limit (entries_at t k) least
            e.receives.buffers first);
        some = subst S same (some_full (tree_at l t) t later limit (entries_at t k) least
            e.receives.buffers first);
      }

  pub entry_works : EmptiedEntry key step IsOp IsKept (suc l) at s t v v spot.spot.path
  entry_works = record {
    works = λ p big. step_by p (p + 18 + 3 * deepest s v) 0
        (λ told m few. full_charged key IsOp IsKept l node at s v can spot told p m few (big told));
    owes = λ p. step_by p (p + deepest s v) (s.pool.shape.block * lower_debt at s v spot.spot.path)
        (λ told m few. thin_charged key IsOp IsKept l node at s v can spot told p m few);
    lowers = λ told. record {
      new = new_is told;
      level = refl;
      leaves = ap (λ (x : Sums). x.leaves) (sums_are told)
          ∙ (lowers_sums key IsOp IsKept l node at s v can spot told).leaves;
    };
    keeps = record { buffer = refl; level = omega arith };
  }
