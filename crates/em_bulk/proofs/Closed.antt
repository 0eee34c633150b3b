-- All leaves of a builder are listed, in a chain.
use Rattle.std.proofs.Common.{◌≡◌, ℕ, ◌+◌, ◌*◌, ◌/◌, ◌<◌, ◌≤◌, min, List, ◌++◌, length, refl, sym, ap, ◌∙◌, subst, arith, ⊎_elim, IsTrue, Option, Some, None, Result, Ok, Err, IsErrAnd}
use Rattle.em_record.specs.Cost.{blocks_of}
use Rattle.em_record.specs.Shape.{ShapeNumbers, payload_of, wide_of}
use Rattle.em_record.specs.declared.record.Record.{Record}
use Rattle.em_frames.specs.Pool.{SameFrames, load_of, singles_of}
use Rattle.em_settle.specs.Map.{map_key_of}
use Rattle.em_settle.specs.Rising.{RisesByKey}
use Rattle.em_space.specs.Held.{Apart}
use Rattle.em_space.specs.Rig.{RigState, Sound}
use Rattle.em_space.specs.declared.fault.EmFault.{EmFault}
use Rattle.em_space.proofs.Ledgers.{full_by}
use Rattle.em_space.proofs.Lists.{distinct_apart}
use Rattle.em_space.proofs.Steps.{same_frames_then}
use Rattle.em_chain.specs.Chain.{chain_blocks, chain_items, payload_in}
use Rattle.em_chain.specs.Counts.{ceiling}
use Rattle.em_chain.specs.Writer.{writer_blocks}
use Rattle.em_chain.specs.declared.chain.Chain.{Chain}
use Rattle.em_chain.specs.declared.writer.Writer.{Writer}
use Rattle.em_chain.proofs.Counts.{writer_blocks_are}
use Rattle.em_chain.proofs.Readers.{length_items}
use Rattle.em_tree_model.specs.Ranges.{AllIn, least_record}
use Rattle.em_tree_cost.specs.Sizes.{IsCeil}
use Rattle.em_tree_cost.proofs.Ceilings.{blocks_ceil, ceiling_is}
use Rattle.em_tree_cost.proofs.Levels.{size_is}
use Rattle.em_tree_load.proofs.Payments.{paid_part, paid_then, paid_then_stops, paid_stops, stops_paid_more}
use Rattle.em_tree_walk.specs.Paid.{RunsPaid}
use Rattle.em_tree_walk.proofs.Regions.{tally, tally_append}
use Rattle.em_tree_trim.specs.Leaves.{leaf_blocks}
use Rattle.em_tree_trim.specs.Rows.{EachFrom, LeadUpTo, first_low, parts_at, records_in, rows_in}
use Rattle.em_tree_trim.proofs.LeavesStay.{LeavesStay, leaves_stay}
use Rattle.em_tree_trim.proofs.RowLists.{from_append, rows_append}
use Rattle.em_tree_trim.proofs.Runs.{paid_as}
use Rattle.em_bulk_plan.specs.Moves.{builder_share}
use Rattle.em_bulk.specs.Building.{BuilderHasFrames, ClosedList, Closes, IsBuilder, StopsClosing, builder_blocks, builder_unstored, held_spent, pairs_in, spent_by}
use Rattle.em_bulk.specs.Ended.{CanEnd, EndedLeaves, RisesAfter, StopsParts, ending_moves}
use Rattle.em_bulk.specs.Full.{IsHeld, IsLeaves, full_blocks, full_parts, held_count, held_parts, listed_leaves}
use Rattle.em_bulk.specs.Pairs.{AreLeaves, IsRun, key_record, lot_of}
use Rattle.em_bulk.specs.Taken.{StopsTakingList, TakesList, TookList}
use Rattle.em_bulk.specs.declared.builder.Builder.{Builder}
use Rattle.em_bulk.specs.declared.keeping.Leaves.{Leaves}
use Rattle.em_bulk.proofs.Keys.{are_leaves, lead_last, rises_both, within_from}
use Rattle.em_bulk.proofs.LeafTaken.{taken_exact, taken_full, taken_runs, taken_stops}
use Rattle.em_bulk.proofs.Shares.{none_share, some_share}

-- The keys rise through the leaf that is held and the one after it.
rises_after : (a : RigState) (o : Option (Record × Chain)) (low : Record) (d : Chain) (ps : List (Record × List Record))
    → LeadUpTo map_key_of low (ps ++ held_parts a o) → AllIn map_key_of low None (chain_items a d)
    → RisesByKey map_key_of (chain_items a d) → RisesAfter a o d
rises_after a None low d ps l r q = tt
rises_after a (Some p) low d ps l r q =
    let x = lead_last map_key_of low ps p.0 (chain_items a p.1) l in
    rises_both map_key_of p.0 low (chain_items a p.1) (chain_items a d) x.range x.rises r q

-- Each full leaf has 2·w·B records.
held_each : (s : RigState) (n : ℕ) (o : Option (Record × Chain)) → IsTrue s.device.told → IsHeld s n o
    → EachFrom (lot_of s.pool.shape) (rows_in (held_parts s o))
held_each s n None z i = tt
held_each s n (Some p) z i =
    let l = length_items s p.1 i.0.leaf.chain z in
    let m = i.1 in
    (omega (arith, l, m), tt)

full_each : (s : RigState) (h : Leaves) → IsTrue s.device.told → IsLeaves s h
    → EachFrom (lot_of s.pool.shape) (rows_in (full_parts s h))
full_each s h z i =
    let E : List (List Record) → Type 0 = EachFrom (lot_of s.pool.shape) in
    subst E (sym (rows_append (parts_at s (listed_leaves s h)) (held_parts s h.held)))
    (from_append (lot_of s.pool.shape) (rows_in (parts_at s (listed_leaves s h))) (rows_in (held_parts s h.held))
    (i.told z).least (held_each s h.list.count h.held z i.held))

-- All moves are within the share: q is the number of blocks that all pairs fill, c that of the last leaf.
close_share : (s : RigState) (o : Option (Record × Chain)) (sound : Sound s) (n r c x q : ℕ) (d : Chain) → IsHeld s n o
    → n ≡ 2 * x → d.blocks ≡ c → IsCeil c (payload_in s) r → 1 ≤ r
    → r + lot_of s.pool.shape * (x + held_count o) ≤ q * s.pool.shape.block
    → (2 * ceiling (lot_of s.pool.shape) (payload_of s.pool.shape) + 5) * x + held_spent o + 2 * c
    + (1 + ending_moves o d + 1) + (3 * (n + 4) + 2) ≤ 12 * (q + 1)
close_share s None sound n r c x q d i e b k some h =
    let z : x ≡ 0 = omega (arith, i, e) in
    let zero_more : (2 * ceiling (lot_of s.pool.shape) (payload_of s.pool.shape) + 5) * x ≡ 0 = rw z (grind arith) in
    let small = none_share (wide_of s.pool.shape) s.pool.shape.block (payload_in s) c r q (size_is s.pool.shape sound.shape)
    some k (omega (arith, h)) in
    omega (arith, small, zero_more, i)
close_share s (Some p) sound n r c x q d i e b k some h =
    let low = sound.shape.block_low in
    let E = ceiling (lot_of s.pool.shape) (payload_in s) in
    let full : p.1.blocks ≡ E = i.0.exact ∙ ap (λ (m : ℕ). ceiling m (payload_in s)) i.1 in
    let big = some_share (wide_of s.pool.shape) s.pool.shape.block (payload_in s) E c r x q
    (size_is s.pool.shape sound.shape) (ceiling_is (lot_of s.pool.shape) (payload_in s) (omega (arith, low))) k h in
    omega (arith, big, full, e, b)

-- The moves of the last leaf and of the list, with those of the nodes over a list of four records more, are within the share.
pub share_of : {s : RigState} {b : Builder} (sound : Sound s) (i : IsBuilder s b) (some : 0 < b.count) (c : Chain)
    → c.blocks ≡ b.leaf.blocks
    → spent_by s.pool.shape b + (1 + ending_moves b.full.held c + 1) + (3 * (b.full.list.count + 4) + 2)
    ≤ builder_share s.pool.shape b.count
share_of {s} {b} sound i some c blocks =
    let low = sound.shape.block_low in
    let o = i.below in
    let h = b.full.held in
    let X = b.full.list.count / 2 in
    let r = b.leaf.count in
    let e = writer_blocks_are s b.leaf low o.leaf in
    let f = o.filled_is in
    let ceil = ceiling_is r (payload_in s) (omega (arith, low)) in
    let same : b.leaf.blocks ≡ ceiling r (payload_in s) = e ∙ ap (λ (k : ℕ). ceiling k (payload_in s)) f in
    let q = blocks_ceil s.pool.shape b.count sound.shape in
    let holds = q.holds in
    let n = o.count in
    let one : 1 ≤ r = ⊎_elim (λ (k : (b.count ≡ 0) × (b.low ≡ 0)). let z = k.0 in absurd (omega (arith, z, some)))
    (λ (k : (0 < b.leaf.count) × (b.low ≤ b.last)). let z = k.0 in omega (arith, z)) i.some in
    let all = close_share s h sound b.full.list.count r (ceiling r (payload_in s)) X (blocks_of s.pool.shape b.count) c
    o.full.held o.full.even (blocks ∙ same) ceil one (omega (arith, holds, n)) in
    omega (arith, all, same)

-- The last leaf couldn't be taken.
pub unclosed : {s a : RigState} {b : Builder} {v : Writer} (sound : Sound s) (i : IsBuilder s b) (some : 0 < b.count)
    (result : Result Chain EmFault) (e : EmFault) → IsErrAnd result (λ m. m ≡ e) → StopsTakingList s a b.leaf v e
    → Closes s a b result
unclosed sound i some (Ok o) e h x = absurd h
unclosed {s} {a} {b} sound i some (Err m) e h x =
    let o = stops_paid_more (builder_blocks s b) 5 (omega arith) (taken_stops sound i.below x) (λ z j. refl) in
    let am = x.bounds.moves in
    let au = x.bounds.used in
    let ao = x.bounds.most in
    let all = share_of sound i some (record { head = 0; skip = 0; tail = 0; count = 0; blocks = b.leaf.blocks }) refl in
    subst (λ (f : EmFault). StopsClosing s a b f) (sym h) (record {
      stops = record {
        sound = o.goes.sound;
        touches = o.goes.touches;
        pays = o.pays;
        cause = o.cause;
        moves = omega (arith, am, all);
        peaks = record { used = omega (arith, au); most = omega (arith, au, ao) };
        full = full_by e ⊥ (s.blocks < s.used + 5) (λ f. absurd f) x.full;
      };
      frames = o.goes.frames;
    })

-- the frames of a builder whose lists have others, over calls that leave as many free
frames_both : {s t : RigState} {b : Builder} (d : Builder) → SameFrames s.pool t.pool → BuilderHasFrames s b
    → length d.leaf.frame ≡ t.pool.shape.block → length d.full.list.frame ≡ t.pool.shape.block → BuilderHasFrames t d
frames_both d e i f g =
    let free = e.free in
    let out = i.out in
    let singles = ap singles_of e.shape in
    record { leaf = f; list = g; out = omega (arith, free, out, singles) }

module _ {s a : RigState} {b : Builder} {v : Writer} {c : Chain} (sound : Sound s) (i : IsBuilder s b) (some : 0 < b.count)
    (x : TookList s a b.leaf v c) where
  told_taken : IsTrue s.device.told → IsTrue a.device.told
  told_taken z = x.runs.session.touches.told ∙ z

  back_taken : IsTrue a.device.told → IsTrue s.device.told
  back_taken y = sym x.runs.session.touches.told ∙ y

  taken_run : IsTrue s.device.told → IsRun b.low (b.last + 1) (chain_items a c)
  taken_run z =
      let R : List Record → Type 0 = λ xs. IsRun b.low (b.last + 1) xs in
      subst R (sym (x.finishes.items z)) (i.below.told z).run

  taken_lead : IsTrue s.device.told → LeadUpTo map_key_of (key_record b.low) (full_parts a b.full)
  taken_lead z =
      let L : List (Record × List Record) → Type 0 = LeadUpTo map_key_of (key_record b.low) in
      subst L (sym ((taken_full sound i.below x).parts z)) (i.below.told z).lead

  taken_range : IsTrue s.device.told → AllIn map_key_of (key_record b.low) None (chain_items a c)
  taken_range z = within_from b.low (b.last + 1) (chain_items a c) (taken_run z).within

  pub end_can : CanEnd a b.full (key_record b.low) c
  end_can =
      let n = x.finishes.count_is in
      let size = i.below.size in
      let same = ap lot_of x.runs.session.touches.shape in
      record {
        is = (taken_full sound i.below x).is;
        leaf = taken_exact sound i.below x;
        size = omega (arith, n, size, same);
        holds = λ y. (taken_runs sound i.below x).session.holds (back_taken y);
        rises = λ y.
            let z = back_taken y in
            rises_after a b.full.held (key_record b.low) c (parts_at a (listed_leaves a b.full)) (taken_lead z)
            (taken_range z) (taken_run z).rises;
      }

  share : spent_by s.pool.shape b + (1 + ending_moves b.full.held c + 1) + (3 * (b.full.list.count + 4) + 2)
      ≤ builder_share s.pool.shape b.count
  share = share_of sound i some c x.finishes.blocks_is

  -- They were listed,
  module _ {m : RigState} {g : Leaves} (k : EndedLeaves a m b.full g (key_record b.low) c) where
    ended_runs : RunsPaid (builder_blocks s b) (leaf_blocks m k.entries ++ writer_blocks m g.list) (builder_unstored b)
        (min g.list.blocks 1) s m
    ended_runs = paid_then (full_blocks a b.full ++ chain_blocks a c) (taken_runs sound i.below x) (λ z j. refl) k.runs

    told_ended : IsTrue s.device.told → IsTrue m.device.told
    told_ended z = ended_runs.session.touches.told ∙ z

    ended_swap : (j : ℕ) → tally j (leaf_blocks m k.entries ++ writer_blocks m g.list)
        ≡ tally j (writer_blocks m g.list ++ leaf_blocks m k.entries)
    ended_swap j =
        let p = tally_append j (leaf_blocks m k.entries) (writer_blocks m g.list) in
        let q = tally_append j (writer_blocks m g.list) (leaf_blocks m k.entries) in
        omega (arith, p, q)

    ended_are : IsTrue s.device.told → AreLeaves (load_of s.pool.shape) (parts_at m k.entries) (pairs_in s b)
    ended_are z =
        let y = told_taken z in
        let f = taken_full sound i.below x in
        let n = load_of a.pool.shape in
        let p = i.below.told z in
        let O : List (Record × List Record) → Type 0 = λ ps. first_low (key_record b.low) ps ≡ least_record in
        let S : ShapeNumbers → Type 0 = λ sh. AreLeaves (load_of sh) (parts_at m k.entries) (pairs_in s b) in
        let P : List Record → Type 0 = λ xs. AreLeaves n (parts_at m k.entries) xs in
        let all = are_leaves n (lot_of a.pool.shape) (full_parts a b.full) (key_record b.low) (chain_items a c)
        (omega arith) (taken_lead z) (subst O (sym (f.parts z)) p.first) (full_each a b.full y f.is) (taken_range z)
        (taken_run z).rises (parts_at m k.entries) (k.parts y) in
        let same : records_in (rows_in (full_parts a b.full)) ++ chain_items a c ≡ pairs_in s b =
        ap (λ (ps : List (Record × List Record)). records_in (rows_in ps) ++ chain_items a c) (f.parts z)
        ∙ ap (λ (xs : List Record). records_in (rows_in (full_parts s b.full)) ++ xs) (x.finishes.items z) in
        subst S x.runs.session.touches.shape (subst P same all)

    module _ {t : RigState} {u : Writer} {list : Chain} (y : TookList m t g.list u list) where
      list_apart : IsTrue m.device.told → Apart (leaf_blocks m k.entries) (writer_blocks m g.list)
      list_apart w = distinct_apart (leaf_blocks m k.entries) (writer_blocks m g.list)
          ((ended_runs.session.holds (sym ended_runs.session.touches.told ∙ w)).distinct w)

      leaves_stayed : IsTrue s.device.told → LeavesStay m t k.entries
      leaves_stayed z = leaves_stay k.entries y.runs.session.touches (told_ended z) (list_apart (told_ended z))
          (k.leaves (told_taken z))

      closed_runs : RunsPaid (builder_blocks s b) (chain_blocks t list ++ leaf_blocks t k.entries) (builder_unstored b) 0 s t
      closed_runs =
          let n = min g.list.blocks 1 in
          let more : n ≡ n + 0 = omega arith in
          let r = paid_part (writer_blocks m g.list) (chain_blocks t list) (leaf_blocks m k.entries) 0 more ended_runs
          (λ z. ended_swap) y.runs in
          paid_as (chain_blocks t list ++ leaf_blocks t k.entries) r
          (λ z. ap (λ (ks : List ℕ). chain_blocks t list ++ ks) (leaves_stayed z).blocks)

      closed : ClosedList s t b list
      closed =
          let am = x.bounds.moves in
          let km = k.moves in
          let ym = y.bounds.moves in
          let au = x.bounds.used in
          let ao = x.bounds.most in
          let ku = k.peaks.used in
          let ko = k.peaks.most in
          let yu = y.bounds.used in
          let yo = y.bounds.most in
          let few = k.few in
          let n = y.finishes.count_is in
          let all = share in
          let A : List (Record × List Record) → Type 0 = λ ps. AreLeaves (load_of s.pool.shape) ps (pairs_in s b) in
          record {
            lists = record {
              entries = k.entries;
              session = closed_runs.session;
              pays = closed_runs.pays;
              loses = closed_runs.loses;
              chain = y.finishes.is;
              few = omega (arith, few, n);
              items = λ z. y.finishes.items (told_ended z) ∙ k.items (told_taken z);
              leaves = λ z. (leaves_stayed z).leads;
              are = λ z. subst A (sym (leaves_stayed z).parts) (ended_are z);
              moves = omega (arith, am, km, ym, few, n, all);
              peaks = record { used = omega (arith, au, ku, yu); most = omega (arith, au, ao, ku, ko, yu, yo) };
            };
            frames = closed_runs.frames;
          }

    -- or the list couldn't be finished.
    unfinished : {t : RigState} {u : Writer} {e : EmFault} → StopsTakingList m t g.list u e → StopsClosing s t b e
    unfinished {t} {u} {e} y =
        let n = min g.list.blocks 1 in
        let more : n ≡ n + 0 = omega arith in
        let r = paid_stops (writer_blocks m g.list) (leaf_blocks m k.entries) 0 more ended_runs (λ z. ended_swap) y.stops in
        let o = stops_paid_more (builder_blocks s b) 5 (omega arith) r (λ z j. refl) in
        let am = x.bounds.moves in
        let km = k.moves in
        let ym = y.bounds.moves in
        let au = x.bounds.used in
        let ao = x.bounds.most in
        let ku = k.peaks.used in
        let ko = k.peaks.most in
        let yu = y.bounds.used in
        let yo = y.bounds.most in
        let all = share in
        record {
          stops = record {
            sound = o.goes.sound;
            touches = o.goes.touches;
            pays = o.pays;
            cause = o.cause;
            moves = omega (arith, am, km, ym, all);
            peaks = record { used = omega (arith, au, ku, yu); most = omega (arith, au, ao, ku, ko, yu, yo) };
            full = full_by e ⊥ (s.blocks < s.used + 5) (λ f. absurd f) y.full;
          };
          frames = o.goes.frames;
        }

    -- Both frames stay out.
    pub closed_frames : (t : RigState) (u : Writer) (o : Option (Record × Chain)) (low last count : ℕ)
        (result : Result Chain EmFault) → TakesList m t g.list u result
        → BuilderHasFrames t (record { full = record { held = o; list = u }; leaf = v; low = low; last = last; count = count })
    closed_frames t u o low last count (Ok list) y =
        let shape = y.runs.frames.shape ∙ k.runs.frames.shape in
        frames_both (record { full = record { held = o; list = u }; leaf = v; low = low; last = last; count = count })
        (same_frames_then s.pool m.pool t.pool ended_runs.frames y.runs.frames) i.below.frames
        (x.fresh.is.frame.len_is ∙ ap (λ (p : ShapeNumbers). p.block) (sym shape)) y.fresh.is.frame.len_is
    closed_frames t u o low last count (Err e) y =
        let shape = y.stops.goes.frames.shape ∙ k.runs.frames.shape in
        frames_both (record { full = record { held = o; list = u }; leaf = v; low = low; last = last; count = count })
        (same_frames_then s.pool m.pool t.pool ended_runs.frames y.stops.goes.frames) i.below.frames
        (x.fresh.is.frame.len_is ∙ ap (λ (p : ShapeNumbers). p.block) (sym shape)) y.frame.len_is

    pub closes : (t : RigState) (u : Writer) (result : Result Chain EmFault) → TakesList m t g.list u result
        → Closes s t b result
    closes t u (Ok list) y = closed y
    closes t u (Err e) y = unfinished y

  -- They couldn't be listed.
  unended : {t : RigState} {e : EmFault}
      → StopsParts a t b.full.list (full_blocks a b.full ++ chain_blocks a c) 5 (ending_moves b.full.held c) e
      → StopsClosing s t b e
  unended {t} {e} k =
      let r = paid_then_stops (full_blocks a b.full ++ chain_blocks a c) (taken_runs sound i.below x) (λ z j. refl) k.stops in
      let o = stops_paid_more (builder_blocks s b) 5 (omega arith) r (λ z j. refl) in
      let am = x.bounds.moves in
      let km = k.moves in
      let au = x.bounds.used in
      let ao = x.bounds.most in
      let ku = k.peaks.used in
      let ko = k.peaks.most in
      let blocks = x.runs.session.touches.blocks in
      let all = share in
      record {
        stops = record {
          sound = o.goes.sound;
          touches = o.goes.touches;
          pays = o.pays;
          cause = o.cause;
          moves = omega (arith, am, km, all);
          peaks = record { used = omega (arith, au, ku); most = omega (arith, au, ao, ku, ko) };
          full = full_by e (a.blocks < a.used + 5) (s.blocks < s.used + 5) (λ h. omega (arith, h, au, blocks)) k.full;
        };
        frames = o.goes.frames;
      }

  pub ends_err : (t : RigState) (result : Result Chain EmFault) (e : EmFault) → IsErrAnd result (λ m. m ≡ e)
      → StopsParts a t b.full.list (full_blocks a b.full ++ chain_blocks a c) 5 (ending_moves b.full.held c) e
      → Closes s t b result
  ends_err t (Ok o) e h k = absurd h
  ends_err t (Err m) e h k = subst (λ (f : EmFault). StopsClosing s t b f) (sym h) (unended k)
