-- The buffer of an entry over a node wasn't emptied: a refused step of a call.
use Rattle.std.proofs.Common.{◌≡◌, Bool, true, false, ℕ, suc, ◌+◌, ◌-◌, ◌*◌, ◌<◌, ◌≤◌, List, [], ◌∷◌, length, get_or, refl, sym, ap, ◌∙◌, subst, arith, IsTrue}
use Rattle.em_record.specs.Shape.{fan_of, payload_of}
use Rattle.em_record.specs.declared.record.Record.{Record}
use Rattle.em_space.specs.Free.{Off}
use Rattle.em_space.specs.Held.{Apart}
use Rattle.em_space.specs.Queue.{Pays}
use Rattle.em_space.specs.Rig.{Cause, Goes, RigState}
use Rattle.em_space.specs.declared.fault.EmFault.{EmFault}
use Rattle.em_space.proofs.Apart.{off_append, off_left, off_right}
use Rattle.em_space.proofs.Held.{in_use_kept}
use Rattle.em_space.proofs.Lists.{apart_left}
use Rattle.em_space.proofs.Paying.{pays_kept, pays_more, pays_then}
use Rattle.em_space.proofs.Steps.{block_cause, cause_after, goes_trans}
use Rattle.em_space.proofs.Within.{goes_wider}
use Rattle.em_chain.specs.Chain.{chain_blocks, payload_in}
use Rattle.em_chain.specs.Counts.{ceiling}
use Rattle.em_chain.specs.declared.chain.Chain.{Chain}
use Rattle.em_chain.proofs.Laws.{chain_stays}
use Rattle.em_node.specs.Node.{no_entry}
use Rattle.em_node.specs.declared.entry.Entry.{Entry}
use Rattle.em_empty.specs.Effects.{EmptyingCosts, reached}
use Rattle.em_empty.specs.Node.{CanEmpty, IsOver, buffer_blocks, given_blocks}
use Rattle.em_tree_blocks.specs.Effects.{entry_on}
use Rattle.em_tree_blocks.specs.Node.{buffer_of, linked_block}
use Rattle.em_tree_blocks.specs.Paths.{node_on}
use Rattle.em_tree_model.specs.Tree.{HasEntry, Tree}
use Rattle.em_tree_blocks.specs.Reading.{entries_at, row_of, tree_at}
use Rattle.em_tree_walk.specs.Taken.{StopsTaking, TookBuffer}
use Rattle.em_tree_buffers.specs.Emptying.{CanEmptyEntry, StopsEntry, lower_debt}
use Rattle.em_trunk.specs.Trunk.{full_limit, trunk_blocks, trunk_unstored}
use Rattle.em_trunk.specs.declared.trunk.Trunk.{Trunk}
use Rattle.em_trunk.proofs.Charges.{charges_within}
use Rattle.em_tree_buffers.proofs.EntryBefore.{buffer_blocks_are, child_few, full_charged, moves_most, node_held, node_stored, off_changed, some, sp, sums_after, thin_charged}
use Rattle.em_tree_buffers.proofs.EntryWorks.{few_moves, reached_told}
use Rattle.em_tree_buffers.proofs.Lowered.{child_entries, given_apart, given_same, is_over}
use Rattle.em_trunk.proofs.StepWorks.{frames_same}
use Rattle.em_trunk.proofs.Bounded.{limit_some}
use Rattle.em_trunk.proofs.Waits.{spot_waits, waits_some}
use Rattle.em_trunk.proofs.Rooms.{peak_fits, stops_by_peaks}
use Rattle.em_tree_load.proofs.Peaks.{peaks_same, peaks_then}
use Rattle.em_tree_load.specs.Peaks.{Peaks}
use Rattle.em_trunk.specs.Room.{MayHold, StopsIn}
use Rattle.em_trunk.specs.Works.{CanWork, deepest, unstored_most}
use Rattle.em_tree_load.proofs.LoadPeaks.{pouring_peaks}

-- as many buffers get a record as a node may have entries
pub reached_any : (a : RigState) (k : ℕ) (c : Chain) (n : ℕ) (b : Bool) → a.device.told ≡ b
    → 2 * fan_of a.pool.shape ≤ n → (IsTrue a.device.told → length (entries_at a k) ≤ n)
    → reached a k c ≤ n
reached_any a k c n true e all few = let h = few e in rw e (omega (arith, h))
reached_any a k c n false e all few = rw e (omega (arith, all))

-- two moves are fewer than those of emptying a buffer
few_taken : (s t d n : ℕ) → t ≤ s + 2 → t ≤ s + (4 * d + (4 * n + 4))
few_taken s t d n few = omega (arith, few)

-- a row with an entry has one
has_length : (child : ℕ → Tree) (s : RigState) (es : List Entry) → HasEntry (row_of child s es)
    → 0 < length es
has_length child s [] h = absurd h
has_length child s (e ∷ es) h = omega arith

module _ (key : Record → Record) (IsOp IsKept : Record → Type 0) (l node at : ℕ) (s t : RigState)
    (v : Trunk) (fault : EmFault) (can : CanWork key IsOp IsKept s v)
    (spot : CanEmptyEntry (suc l) node at s v) where
  -- A refused step, by its moves.
  stops_by : Goes (trunk_blocks s v) s t → Pays (trunk_unstored v) (unstored_most s) s t
      → Cause s t fault → (IsTrue s.device.told → Peaks (2 * fan_of s.pool.shape + 1) s t)
      → ((told : IsTrue s.device.told) → t.moves ≤ s.moves + (moves_most key IsOp IsKept l node at s v can spot told))
      → StopsEntry (full_limit s.pool.shape) (s.pool.shape.block * lower_debt at s v spot.spot.path)
      at s t v v spot.spot.path fault
  stops_by g pays cause peaks few =
      let debt = s.pool.shape.block * lower_debt at s v spot.spot.path in
      let room : IsTrue s.device.told → (n : ℕ) → MayHold n 0 s v → StopsIn n s t v fault = λ told n h.
      stops_by_peaks can.running can.sound.shape told (peaks told)
      (let p = peak_fits can.sound.shape in omega (arith, p)) g.touches.blocks cause n h in
      record {
        stops = λ p big. record {
          goes = g;
          frames = frames_same g.frames can.running.frames;
          numbers = record { pushed = refl; longest = refl; since = refl; settled = refl; resets = refl; spent = refl; adopted = refl; counted = refl };
          pays = pays;
          cause = cause;
          needs = waits_some s v fault (λ told. spot_waits (spot.spot.told told)
              (let limit = limit_some can.sound.shape in let n = big told in omega (arith, limit, n)));
          charges = λ told. record {
            sums = (sums_after key IsOp IsKept l node at s v can spot told);
            charges = charges_within p (t.moves - s.moves) (p + 18 + 3 * deepest s v) 0
                (t.moves - s.moves) 0 0 (omega arith) (omega arith)
                (full_charged key IsOp IsKept l node at s v can spot told p (t.moves - s.moves)
                (let h = few told in omega (arith, h)) (big told));
          };
          room = room;
        };
        owes = λ p any. record {
          goes = g;
          frames = frames_same g.frames can.running.frames;
          numbers = record { pushed = refl; longest = refl; since = refl; settled = refl; resets = refl; spent = refl; adopted = refl; counted = refl };
          pays = pays;
          cause = cause;
          needs = waits_some s v fault (λ told. spot_waits (spot.spot.told told) (any told));
          charges = λ told. record {
            sums = (sums_after key IsOp IsKept l node at s v can spot told);
            charges = charges_within p (t.moves - s.moves) (p + deepest s v) debt (t.moves - s.moves) 0 debt
                (omega arith) (omega arith)
                (thin_charged key IsOp IsKept l node at s v can spot told p (t.moves - s.moves)
                (let h = few told in omega (arith, h)));
          };
          room = room;
        };
      }

  node_off : IsTrue s.device.told → (j : ℕ) → Off j (trunk_blocks s v) → Off j (node ∷ [])
  node_off told j o =
      let P : ℕ → Type 0 = λ n. Off j (n ∷ []) in
      subst P ((sp key IsOp IsKept l node at s v can spot told)).node_is (((off_changed key IsOp IsKept l node at s v can spot told j o).0, tt))

  -- The buffer wasn't taken out.
  pub entry_not_taken : StopsTaking s t node fault
      → StopsEntry (full_limit s.pool.shape) (s.pool.shape.block * lower_debt at s v spot.spot.path)
      at s t v v spot.spot.path fault
  entry_not_taken h =
      let used = h.stores.same.used in
      let moves = h.stores.moves in
      stops_by
      (goes_wider (trunk_blocks s v) (node ∷ []) s t (record { off = λ z j u o. node_off z j o })
      h.stores.goes)
      (pays_more (pays_kept (trunk_unstored v) (omega (arith, used)) h.stores.goes.touches.moves)
      (omega arith))
      (block_cause s t fault h.cause)
      (λ told. peaks_same (2 * fan_of s.pool.shape + 1) h.stores.same)
      (λ told. (let e = entry_on v.level s v.root spot.spot.path at in
      few_taken s.moves t.moves (ceiling (buffer_of e).count (payload_in s))
      (length (entries_at s (linked_block e.child))) moves))

  module _ (a : RigState) (child : ℕ) (buffer : Chain) (took : TookBuffer s a (suc (suc l)) node at child buffer)
    where
      took_there : IsTrue s.device.told
          → TookBuffer s a (suc (suc l)) (node_on spot.spot.path v.level s v.root) at child buffer
      took_there told =
          let P : ℕ → Type 0 = λ n. TookBuffer s a (suc (suc l)) n at child buffer in
          subst P (sym ((sp key IsOp IsKept l node at s v can spot told)).node_is) took

      -- what emptying it may have changed is the tree's
      given_off : IsTrue s.device.told → (j : ℕ) → Off j (trunk_blocks s v)
          → Off j (given_blocks a child buffer)
      given_off told j o =
          let h = took_there told in
          let taken = h.told told in
          let es = entries_at s (node_on spot.spot.path v.level s v.root) in
          let e = get_or es at no_entry in
          let k = linked_block e.child in
          let c = chain_blocks s (buffer_of e) in
          let b = buffer_blocks s (entries_at s k) in
          let off = (off_changed key IsOp IsKept l node at s v can spot told j o).1 in
          let rest = off_right j c (k ∷ b) off in
          let here : Off j (given_blocks s k (buffer_of e)) =
          (rest.0, off_append j c b (off_left j c (k ∷ b) off) rest.1) in
          let O : List ℕ → Type 0 = Off j in
          let there = subst O (sym (given_same l s (node_on spot.spot.path v.level s v.root) at told
          (node_stored key IsOp IsKept l node at s v can spot told) ((sp key IsOp IsKept l node at s v can spot told)).on.one (node_held key IsOp IsKept l node at s v can spot told) a h.stores.goes.touches)) here in
          let P : ℕ → Type 0 = λ n. Off j (given_blocks a n (buffer_of e)) in
          let Q : Chain → Type 0 = λ x. Off j (given_blocks a child x) in
          subst Q (sym taken.buffer_is) (subst P (sym taken.child_is) there)

      entries_few : IsTrue s.device.told → length (entries_at a child) < 2 * fan_of s.pool.shape
      entries_few told =
          let h = took_there told in
          let taken = h.told told in
          let N : List Entry → Type 0 = λ es. length es < 2 * fan_of s.pool.shape in
          let P : ℕ → Type 0 = λ n. length (entries_at a n) < 2 * fan_of s.pool.shape in
          subst P (sym taken.child_is) (subst N (sym (child_entries l s
          (node_on spot.spot.path v.level s v.root) at told (node_stored key IsOp IsKept l node at s v can spot told) ((sp key IsOp IsKept l node at s v can spot told)).on.one (node_held key IsOp IsKept l node at s v can spot told) a
          h.stores.goes.touches)) (child_few key IsOp IsKept l node at s v can spot told))

      entries_same : IsTrue s.device.told → length (entries_at a child)
          ≡ length (entries_at s (linked_block (entry_on v.level s v.root spot.spot.path at).child))
      entries_same told =
          let h = took_there told in
          let taken = h.told told in
          let k = linked_block (entry_on v.level s v.root spot.spot.path at).child in
          let P : ℕ → Type 0 = λ n. length (entries_at a n) ≡ length (entries_at s k) in
          subst P (sym taken.child_is) (ap length (child_entries l s
          (node_on spot.spot.path v.level s v.root) at told (node_stored key IsOp IsKept l node at s v can spot told) ((sp key IsOp IsKept l node at s v can spot told)).on.one (node_held key IsOp IsKept l node at s v can spot told) a
          h.stores.goes.touches))

      -- It was taken out, and not put into the child's buffers.
      pub entry_not_poured : Goes (given_blocks a child buffer) a t → EmptyingCosts a t child buffer
          → Cause a t fault
          → StopsEntry (full_limit s.pool.shape) (s.pool.shape.block * lower_debt at s v spot.spot.path)
          at s t v v spot.spot.path fault
      entry_not_poured g costs cause =
          let first : Goes (trunk_blocks s v) s a =
          goes_wider (trunk_blocks s v) (node ∷ []) s a (record { off = λ z j u o. node_off z j o })
          took.stores.goes in
          let n = trunk_unstored v in
          let used = took.stores.same.used in
          let taken_pays : Pays n n s a = pays_kept n (omega (arith, used)) took.stores.goes.touches.moves in
          let shape = took.stores.goes.touches.shape in
          let all : 2 * fan_of a.pool.shape ≤ 2 * fan_of s.pool.shape = rw shape (omega arith) in
          let back = took.stores.goes.touches.told in
          let most = reached_any a child buffer (2 * fan_of s.pool.shape) a.device.told refl all
          (λ z. (let h = entries_few (sym back ∙ z) in omega (arith, h))) in
          stops_by
          (goes_trans (trunk_blocks s v) (given_blocks a child buffer) s a t first g
          (λ z j u o. given_off z j o))
          (pays_then taken_pays (pays_more costs.pays (omega (arith, most))) g.touches.moves)
          (cause_after (trunk_blocks s v) s a t fault first.touches cause)
          (λ told. peaks_then (2 * fan_of s.pool.shape + 1) (peaks_same 0 took.stores.same)
          (pouring_peaks costs) (omega (arith, most)))
          (λ told.
          let h = took_there told in
          let taken = h.told told in
          let e2 = entry_on v.level s v.root spot.spot.path at in
          let c = buffer_of e2 in
          let same : payload_in a ≡ payload_in s = ap payload_of shape in
          let blocks : buffer.blocks ≡ c.blocks = ap (λ (x : Chain). x.blocks) taken.buffer_is in
          let count : buffer.count ≡ c.count = ap (λ (x : Chain). x.count) taken.buffer_is in
          let d : buffer.blocks ≡ ceiling c.count (payload_in s) = blocks ∙ (buffer_blocks_are key IsOp IsKept l node at s v can spot told) in
          let e : ceiling buffer.count (payload_in a) ≡ ceiling c.count (payload_in s) =
          ap (λ m. ceiling m (payload_in a)) count ∙ ap (ceiling c.count) same in
          few_moves s.moves a.moves t.moves buffer.blocks (ceiling buffer.count (payload_in a))
          (ceiling c.count (payload_in s)) (reached a child buffer) (length (entries_at a child))
          (length (entries_at s (linked_block e2.child))) took.stores.moves costs.moves
          (reached_told a child buffer a.device.told refl (back ∙ told)) (entries_same told) d e)

      -- Before that, it can be put there.
      pub entry_can : CanEmpty a child buffer
      entry_can =
          let h = took.stores.goes.touches in
          let apart = λ (told : IsTrue s.device.told).
          (let g = took_there told in
          let taken = g.told told in
          let es = entries_at s (node_on spot.spot.path v.level s v.root) in
          let e = get_or es at no_entry in
          let here = given_apart l s (node_on spot.spot.path v.level s v.root) at told (node_stored key IsOp IsKept l node at s v can spot told)
          ((sp key IsOp IsKept l node at s v can spot told)).on.one (node_held key IsOp IsKept l node at s v can spot told) in
          let N : ℕ → Type 0 = λ n. Apart (given_blocks s (linked_block e.child) (buffer_of e)) (n ∷ []) in
          let P : ℕ → Type 0 = λ n. Apart (given_blocks s n (buffer_of e)) (node ∷ []) in
          let Q : Chain → Type 0 = λ x. Apart (given_blocks s child x) (node ∷ []) in
          subst Q (sym taken.buffer_is) (subst P (sym taken.child_is) (subst N ((sp key IsOp IsKept l node at s v can spot told)).node_is here))) in
          record {
            in_use = in_use_kept (node ∷ []) s a child h (λ z. (apart z).0) took.child_in_use;
            chain = (chain_stays (node ∷ []) s a buffer h (λ z. apart_left (chain_blocks s buffer)
                (buffer_blocks s (entries_at s child)) (node ∷ []) (apart z).1) took.chain).is;
            told = λ y.
                let told : IsTrue s.device.told = sym h.told ∙ y in
                let g = took_there told in
                let taken = g.told told in
                let j = node_on spot.spot.path v.level s v.root in
                let e = get_or (entries_at s j) at no_entry in
                let n = has_length (tree_at l s) s (entries_at s (linked_block e.child)) (some key IsOp IsKept l node at s v can spot told) in
                let over = is_over l s j at told (node_stored key IsOp IsKept l node at s v can spot told) ((sp key IsOp IsKept l node at s v can spot told)).on.one (node_held key IsOp IsKept l node at s v can spot told) a g.stores.goes.touches
                n in
                let P : ℕ → Type 0 = λ k. IsOver a k (buffer_of e) in
                let Q : Chain → Type 0 = λ x. IsOver a child x in
                subst Q (sym taken.buffer_is) (subst P (sym taken.child_is) over);
          }
