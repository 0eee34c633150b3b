-- The root's buffer wasn't emptied: a call that gave up.
use Rattle.std.proofs.Common.{◌≡◌, ℕ, suc, ◌+◌, ◌-◌, ◌*◌, ◌<◌, ◌≤◌, min, List, [], ◌∷◌, ◌++◌, length, refl, sym, ap, ◌∙◌, subst, arith, IsTrue}
use Rattle.em_record.specs.Shape.{fan_of}
use Rattle.em_record.specs.declared.record.Record.{Record}
use Rattle.em_space.specs.Free.{Off}
use Rattle.em_space.specs.Queue.{Pays}
use Rattle.em_space.specs.Rig.{Cause, Goes, InUse, RigState}
use Rattle.em_space.specs.declared.fault.EmFault.{EmFault}
use Rattle.em_space.proofs.Apart.{off_append, off_left, off_right}
use Rattle.em_space.proofs.Held.{in_use_kept}
use Rattle.em_space.proofs.Lists.{distinct_left, in_use_left}
use Rattle.em_space.proofs.Paying.{pays_kept, pays_more, pays_then}
use Rattle.em_space.proofs.Steps.{cause_after, goes_trans}
use Rattle.em_space.proofs.Within.{goes_wider}
use Rattle.em_chain.specs.Chain.{chain_blocks, payload_in}
use Rattle.em_chain.specs.Counts.{ceiling}
use Rattle.em_chain.specs.Writer.{writer_blocks}
use Rattle.em_chain.specs.declared.chain.Chain.{Chain}
use Rattle.em_chain.specs.declared.writer.Writer.{Writer}
use Rattle.em_chain.proofs.Counts.{packed_blocks}
use Rattle.em_empty.specs.Effects.{EmptyingCosts, reached}
use Rattle.em_empty.specs.Node.{AreBuffers, CanEmpty, buffer_blocks, given_blocks}
use Rattle.em_node.specs.declared.entry.Entry.{Entry}
use Rattle.em_tree_model.specs.Tree.{HasEntry, Tree}
use Rattle.em_tree_blocks.specs.Reading.{AreStored, IsTreeAt, entries_at, row_of, tree_at, tree_blocks}
use Rattle.em_tree_blocks.proofs.Frames.{TreeStays}
use Rattle.em_tree_cost.specs.Outline.{count_of}
use Rattle.em_tree_outline.specs.Outline.{outline_of}
use Rattle.em_tree_buffers.specs.Draining.{StopsDraining, drain_debt}
use Rattle.em_trunk.specs.Trunk.{TrunkHasFrames, trunk_blocks, trunk_unstored}
use Rattle.em_trunk.specs.declared.trunk.Trunk.{Trunk}
use Rattle.em_trunk.proofs.Charges.{charges_within}
use Rattle.em_tree_buffers.proofs.EntryStops.{reached_any}
use Rattle.em_tree_buffers.proofs.EntryBefore.{row_count}
use Rattle.em_tree_buffers.proofs.EntryWorks.{reached_told}
use Rattle.em_trunk.proofs.Mixed.{all_left, children_blocks, holds_parts, left, mixes_append, mixes_off_left, row_mixes}
use Rattle.em_tree_buffers.proofs.RootBefore.{entries_few, full_charged, some, sums_after, thin_charged, count_is}
use Rattle.em_tree_buffers.proofs.RootSteps.{root_moves}
use Rattle.em_tree_buffers.proofs.RootWorks.{poured_hold, tree_apart, tree_kept}
use Rattle.em_trunk.proofs.Waits.{buffer_waits, waits_some}
use Rattle.em_trunk.proofs.Rooms.{peak_fits, stops_by_peaks}
use Rattle.em_tree_load.proofs.Peaks.{peaks_same, peaks_then}
use Rattle.em_tree_load.specs.Peaks.{Peaks}
use Rattle.em_trunk.specs.Room.{MayHold, StopsIn}
use Rattle.em_trunk.specs.Works.{CanWork, deepest, unstored_most}
use Rattle.em_trunk.specs.Lists.{StopsTakingAll, TookAll}
use Rattle.em_trunk.proofs.RootTaken.{with_fresh}
use Rattle.em_tree_load.proofs.LoadPeaks.{pouring_peaks}

module _ (key : Record → Record) (IsOp IsKept : Record → Type 0) (l : ℕ) (s t : RigState) (v : Trunk)
    (fresh : Writer) (fault : EmFault) (level : v.level ≡ suc l) (can : CanWork key IsOp IsKept s v) where
  -- A refused step, by its moves.
  stops_by : Goes (trunk_blocks s v) s t → length fresh.frame ≡ t.pool.shape.block
      → Pays (trunk_unstored v) (unstored_most s) s t → Cause s t fault
      → (IsTrue s.device.told → Peaks (2 * fan_of s.pool.shape + 1) s t) → 0 < v.buffer.count
      → ((told : IsTrue s.device.told)
      → t.moves ≤ s.moves + (4 * v.buffer.blocks + 4 * length (entries_at s v.root) + 3))
      → StopsDraining s t v (with_fresh v fresh) fault
  stops_by g frame pays cause peaks any few =
      let needs = waits_some s v fault (λ told. buffer_waits s v (let n = count_is key IsOp IsKept l s v level can told in
      omega (arith, n, any))) in
      let debt = s.pool.shape.block * drain_debt s v in
      let i = can.running.frames in
      let room : IsTrue s.device.told → (n : ℕ) → MayHold n 0 s v → StopsIn n s t v fault = λ told n h.
      stops_by_peaks can.running can.sound.shape told (peaks told)
      (let p = peak_fits can.sound.shape in omega (arith, p)) g.touches.blocks cause n h in
      let frames : TrunkHasFrames t (with_fresh v fresh) = record {
        buffer = frame;
        answers = rw (g.frames.shape) i.answers;
        out = rw (g.frames.free, g.frames.shape) i.out;
      } in
      record {
        stops = λ p big. record {
          goes = g;
          frames = frames;
          numbers = record { pushed = refl; longest = refl; since = refl; settled = refl; resets = refl; spent = refl; adopted = refl; counted = refl };
          pays = pays;
          cause = cause;
          needs = needs;
          charges = λ told. record {
            sums = sums_after key IsOp IsKept l s v level can told;
            charges = charges_within p (t.moves - s.moves) (p + 18 + 3 * deepest s v) 0
                (t.moves - s.moves) 0 0 (omega arith) (omega arith)
                (full_charged key IsOp IsKept l s v level can told p (t.moves - s.moves)
                (let h = few told in omega (arith, h)) big);
          };
          room = room;
        };
        owes = λ p. record {
          goes = g;
          frames = frames;
          numbers = record { pushed = refl; longest = refl; since = refl; settled = refl; resets = refl; spent = refl; adopted = refl; counted = refl };
          pays = pays;
          cause = cause;
          needs = needs;
          charges = λ told. record {
            sums = sums_after key IsOp IsKept l s v level can told;
            charges = charges_within p (t.moves - s.moves) p debt (t.moves - s.moves) 0 debt
                (omega arith) (omega arith)
                (thin_charged key IsOp IsKept l s v level can told p (t.moves - s.moves)
                (let h = few told in omega (arith, h)));
          };
          room = room;
        };
      }

  -- the buffer's blocks are the tree's
  buffer_off : (j : ℕ) → Off j (trunk_blocks s v) → Off j (writer_blocks s v.buffer)
  buffer_off j o =
      let b = writer_blocks s v.buffer in
      let x = writer_blocks s v.answers in
      off_left j b x (off_right j (tree_blocks v.level s v.root) (b ++ x) o)

  -- The buffer wasn't taken out.
  pub root_not_taken : 0 < v.buffer.count → StopsTakingAll s t v (with_fresh v fresh) fault
      → StopsDraining s t v (with_fresh v fresh) fault
  root_not_taken any h =
      let used = h.same.used in
      let moves = h.moves in
      stops_by
      (goes_wider (trunk_blocks s v) (writer_blocks s v.buffer) s t
      (record { off = λ z j u o. buffer_off j o }) h.goes)
      h.frame.len_is
      (pays_more (pays_kept (trunk_unstored v) (omega (arith, used)) h.goes.touches.moves) (omega arith))
      h.cause (λ told. peaks_same (2 * fan_of s.pool.shape + 1) h.same) any (λ told. omega (arith, moves))

row_some : (child : ℕ → Tree) (s : RigState) (es : List Entry) → HasEntry (row_of child s es)
    → 0 < length es
row_some child s [] h = absurd h
row_some child s (e ∷ es) h = omega arith

buffers_are : (Child : ℕ → Type 0) (s : RigState) (es : List Entry) → AreStored Child s es
    → AreBuffers s es
buffers_are Child s [] a = tt
buffers_are Child s (e ∷ es) a = (a.0, buffers_are Child s es a.2)

module _ (key : Record → Record) (IsOp IsKept : Record → Type 0) (l : ℕ) (s a : RigState) (v : Trunk)
    (fresh : Writer) (c : Chain) (level : v.level ≡ suc l) (can : CanWork key IsOp IsKept s v)
    (took : TookAll s a v (with_fresh v fresh) c) where
  kept : IsTrue s.device.told → TreeStays (suc l) s a v.root
  kept told = tree_kept key IsOp IsKept l s a v (with_fresh v fresh) c level can took told

  -- what pouring it may have changed is the tree's
  given_off : IsTrue s.device.told → (j : ℕ) → Off j (trunk_blocks s v)
      → Off j (given_blocks a v.root c)
  given_off told j o =
      let tree = tree_blocks v.level s v.root in
      let b = writer_blocks s v.buffer in
      let x = writer_blocks s v.answers in
      let P : ℕ → Type 0 = λ n. Off j (tree_blocks n s v.root) in
      let Q : List ℕ → Type 0 = λ ks. Off j ks in
      let inner = subst Q (sym (kept told).blocks) (subst P level (off_left j tree (b ++ x) o)) in
      let chain = subst Q (sym (took.finishes.blocks told))
      (off_left j b x (off_right j tree (b ++ x) o)) in (
        inner.0,
        off_append j (chain_blocks a c) (buffer_blocks a (entries_at a v.root)) chain
            (mixes_off_left j (row_mixes (tree_blocks l a) a (entries_at a v.root)) inner.1),
      )

  entries_same : IsTrue s.device.told
      → length (entries_at a v.root) ≡ length (entries_at s v.root)
  entries_same told =
      let O : Tree → ℕ = λ x. count_of (outline_of x) in
      let first = row_count (tree_at l a) a (entries_at a v.root) in
      let last = row_count (tree_at l s) s (entries_at s v.root) in
      let mid : O (tree_at (suc l) a v.root) ≡ O (tree_at (suc l) s v.root) = ap O (kept told).tree in
      sym first ∙ (mid ∙ last)

  -- The chain can be poured into the root.
  pub can_drain : CanEmpty a v.root c
  can_drain =
      let b = writer_blocks s v.buffer in
      let stored = λ (z : IsTrue s.device.told).
      (let P : ℕ → Type 0 = λ n. IsTreeAt n s v.root in subst P level (can.running.stands z).stored) in
      let first : InUse s v.root = record {
        told = λ z. (stored z).0.in_use.told z;
        untold = λ f. can.running.numbers.root_below;
      } in
      record {
        in_use = in_use_kept b s a v.root took.goes.touches
            (λ z. (tree_apart key IsOp IsKept l s a v (with_fresh v fresh) c level can took z).0) first;
        chain = took.finishes.is;
        told = λ y.
            let told : IsTrue s.device.told = sym took.goes.touches.told ∙ y in
            let es = entries_at a v.root in
            let H : Tree → Type 0 = HasEntry in
            let chain = chain_blocks a c in
            let children = children_blocks (tree_blocks l a) es in
            let m = left v.root (mixes_append (all_left chain) (row_mixes (tree_blocks l a) a es)) in
            let h = holds_parts m (poured_hold key IsOp IsKept l s a v (with_fresh v fresh) c level can took
            told) in
            let here : HasEntry (tree_at (suc l) a v.root) = subst H
            (ap (λ n. tree_at n s v.root) level ∙ sym (kept told).tree)
            (some key IsOp IsKept l s v level can told) in
            record {
              block = (kept told).is.0.block;
              some = row_some (tree_at l a) a es here;
              buffers = buffers_are (IsTreeAt l a) a es (kept told).is.1;
              holds = record {
                in_use = in_use_left a (given_blocks a v.root c) children h.in_use;
                distinct = λ z. distinct_left (given_blocks a v.root c) children (h.distinct z);
              };
            };
      }

  -- It was taken out, and not poured into the root.
  pub root_not_poured : 0 < v.buffer.count → (t : RigState) (fault : EmFault) → Goes (given_blocks a v.root c) a t
      → EmptyingCosts a t v.root c → Cause a t fault → StopsDraining s t v (with_fresh v fresh) fault
  root_not_poured any t fault g costs cause =
      let first : Goes (trunk_blocks s v) s a = goes_wider (trunk_blocks s v) (writer_blocks s v.buffer) s a
      (record { off = λ z j u o. buffer_off key IsOp IsKept l s a v fresh fault level can j o }) took.goes in
      let x = min v.answers.blocks 1 in
      let shape = took.goes.touches.shape in
      let all : 2 * fan_of a.pool.shape ≤ 2 * fan_of s.pool.shape = rw shape (omega arith) in
      let back = took.goes.touches.told in
      let most = reached_any a v.root c (2 * fan_of s.pool.shape) a.device.told refl all
      (λ z. (let told : IsTrue s.device.told = sym back ∙ z in
      let e = entries_same told in
      let n = entries_few key IsOp IsKept l s v level can told in omega (arith, e, n))) in
      let early : Pays (trunk_unstored v) x s a = pays_more took.pays (omega arith) in
      let later : Pays x (unstored_most s) a t = pays_more costs.pays (omega (arith, most)) in
      stops_by key IsOp IsKept l s t v fresh fault level can
      (goes_trans (trunk_blocks s v) (given_blocks a v.root c) s a t first g
      (λ z j u o. given_off z j o))
      (rw (g.frames.shape) took.fresh.is.frame.len_is)
      (pays_then early later g.touches.moves)
      (cause_after (trunk_blocks s v) s a t fault first.touches cause)
      (λ told. peaks_then (2 * fan_of s.pool.shape + 1) (peaks_same 0 took.same)
      (pouring_peaks costs) (omega (arith, most))) any
      (λ told.
      let z : IsTrue a.device.told = back ∙ told in
      let e = entries_same told in
      let r = reached_told a v.root c a.device.told refl z in
      let blocks = packed_blocks a c took.goes.sound.shape.block_low took.finishes.is z
      (took.finishes.packed told (can.running.stands told).packed) in
      root_moves s.moves a.moves t.moves c.blocks (ceiling c.count (payload_in a)) v.buffer.blocks
      (reached a v.root c) (length (entries_at s v.root)) took.moves costs.moves (omega (arith, r, e))
      took.finishes.blocks_is (sym blocks ∙ took.finishes.blocks_is))
