-- The next leaf, joined to the one that is held.
use Rattle.std.proofs.Common.{◌≡◌, ℕ, ◌+◌, ◌<◌, min, List, [], ◌∷◌, ◌++◌, length, refl, sym, ap, ◌∙◌, subst, arith, IsTrue, Option, Some, None, Result, Ok, Err, IsErrAnd}
use Rattle.std.proofs.lemmas.List.{append-nil}
use Rattle.em_record.specs.declared.record.Record.{Record}
use Rattle.em_frames.specs.Pool.{load_of}
use Rattle.em_space.specs.Held.{Apart}
use Rattle.em_space.specs.Rig.{RigState, Sound}
use Rattle.em_space.specs.declared.fault.EmFault.{EmFault}
use Rattle.em_space.proofs.Ledgers.{full_by}
use Rattle.em_space.proofs.Lists.{apart_left, apart_right, apart_sym, distinct_apart}
use Rattle.em_chain.specs.Chain.{chain_blocks, chain_items, payload_in}
use Rattle.em_chain.specs.Writer.{IsWriter, WriterStays, writer_blocks}
use Rattle.em_chain.specs.declared.chain.Chain.{Chain}
use Rattle.em_chain.specs.declared.writer.Writer.{Writer}
use Rattle.em_chain.proofs.Keeps.{has_kept}
use Rattle.em_chain.proofs.Laws.{chain_stays, writer_stays}
use Rattle.em_chain.proofs.Sessions.{wrote_stays, wrote_then}
use Rattle.em_leaf.specs.Fusing.{fused_blocks, fusing_blocks}
use Rattle.em_leaf.specs.Leaf.{IsHighChain, IsLeafChain, high_blocks}
use Rattle.em_leaf.specs.declared.change.LeafChange.{LeafChange}
use Rattle.em_node.specs.declared.entry.Entry.{Entry}
use Rattle.em_tree_walk.specs.Paid.{RunsPaid}
use Rattle.em_tree_walk.proofs.Regions.{held_first, tally, tally_append}
use Rattle.em_tree_load.proofs.Payments.{paid_none, paid_part, paid_same, paid_stops, stops_paid_more}
use Rattle.em_tree_unload.specs.declared.unloading.Unloaded.{Unloaded}
use Rattle.em_tree_raise.specs.Listing.{listed}
use Rattle.em_tree_trim.specs.Joins.{TwoRows}
use Rattle.em_tree_trim.specs.Leaves.{leaf_blocks}
use Rattle.em_tree_trim.specs.Listed.{CanJoinNext, CanPart, JoinedNext, JoinsInto, JoinsNext, ListedLeaf, PartedLeaves, PartsInto, StopsJoining, StopsListing, StopsParting}
use Rattle.em_tree_trim.specs.Rows.{parts_at}
use Rattle.em_tree_trim.specs.declared.joining.Held.{Held}
use Rattle.em_tree_trim.proofs.ListedEntries.{entry_blocks, entry_leads, entry_parts, entry_wrote, listed_entry}
use Rattle.em_tree_trim.proofs.Runs.{leaf_stays, paid_as, paid_count}
use Rattle.em_tree_trim.proofs.Sizes.{leaf_items_most}

-- n + 0
zero_more : (n : ℕ) → 0 + n ≡ n
zero_more n = omega arith

more_zero : (n : ℕ) → n + 0 ≡ n
more_zero n = omega arith

module _ {key : Record → Record} {s : RigState} {held : Held} {next : Unloaded} {w : Writer} (sound : Sound s)
    (i : IsWriter s w) (j : CanJoinNext key s held next w) where
  -- the two leaves alone
  pub next_parts : CanPart key s held.stored next.stored
  next_parts = record {
    low_leaf = j.low_leaf;
    high_leaf = j.high_leaf;
    holds = λ z.
        let ks = fusing_blocks s held.stored next.stored in
        let h = j.holds z in
        held_first ks (writer_blocks s w) h;
    rises = j.rises;
  }

  -- The list over what was done to them.
  module _ {a : RigState} {change : LeafChange} (x : PartedLeaves key s a held.stored next.stored change) where
    part_apart : IsTrue s.device.told → Apart (writer_blocks s w) (fusing_blocks s held.stored next.stored)
    part_apart z =
        let ks = fusing_blocks s held.stored next.stored in
        apart_sym ks (writer_blocks s w) (distinct_apart ks (writer_blocks s w) ((j.holds z).distinct z))

    pub part_writer : WriterStays s a w
    part_writer = writer_stays (fusing_blocks s held.stored next.stored) s a w x.runs.session.touches part_apart
        (has_kept 1 (length w.frame) s.pool a.pool x.runs.frames i.frame) i

    -- all that is held then
    part_runs : RunsPaid (fusing_blocks s held.stored next.stored ++ writer_blocks s w)
        (fused_blocks a change ++ writer_blocks a w) (min w.blocks 1) (min w.blocks 1) s a
    part_runs =
        let ks = fusing_blocks s held.stored next.stored in
        let js = fused_blocks a change in
        let n = min w.blocks 1 in
        let first = paid_none s (ks ++ writer_blocks s w) n sound j.holds in
        let both = paid_part ks js (writer_blocks s w) n (sym (zero_more n)) first (λ z i. refl) x.runs in
        paid_as (js ++ writer_blocks a w) (paid_count n (0 + n) n n refl (zero_more n) both)
        (λ z. ap (λ (bs : List ℕ). js ++ bs) (part_writer.blocks z))

    -- All records are in one leaf.
    pub joined_whole : change.high ≡ None
        → JoinedNext key s a held next w w (record { low = held.low; stored = change.low; more = next.more })
    joined_whole e =
        let none : high_blocks a change.high ≡ [] = ap (high_blocks a) e in
        let st = part_writer in
        let P : Option (Record × Chain) → Type 0 = λ o. PartsInto key (load_of s.pool.shape) (payload_in s)
        (chain_items s held.stored) (chain_items s next.stored) a change.low o in
        record {
          entries = [];
          runs = paid_as (chain_blocks a change.low ++ ([] ++ writer_blocks a w)) part_runs
              (λ z. sym (ap (λ (bs : List ℕ). (chain_blocks a change.low ++ bs) ++ writer_blocks a w) none
              ∙ ap (λ (bs : List ℕ). bs ++ writer_blocks a w) (append-nil (chain_blocks a change.low))));
          wrote = wrote_stays x.runs.session.touches.told st;
          chain = x.leaves.low;
          few = omega arith;
          more_is = refl;
          leaves = λ z. tt;
          joins = λ z. (refl, subst P e (x.parts z));
          peaks = x.peaks;
          moves = λ z. let m = x.moves z in omega (arith, m);
        }

    -- Two are left, of which the first one was listed.
    module _ {t : RigState} {v : Writer} {k : Record} {upper : Chain} (e : change.high ≡ Some (k, upper))
        (l : ListedLeaf a t w v held.low change.low) where
      told_part : IsTrue s.device.told → IsTrue a.device.told
      told_part z = x.runs.session.touches.told ∙ z

      upper_leaf : IsLeafChain a upper
      upper_leaf =
          let P : Option (Record × Chain) → Type 0 = λ o. IsHighChain a o in
          subst P e x.leaves.high

      upper_blocks : high_blocks a change.high ≡ chain_blocks a upper
      upper_blocks = ap (high_blocks a) e

      -- the list is apart from both
      list_apart : IsTrue a.device.told → Apart (fused_blocks a change) (writer_blocks a w)
      list_apart y =
          let z : IsTrue s.device.told = sym x.runs.session.touches.told ∙ y in
          distinct_apart (fused_blocks a change) (writer_blocks a w) ((part_runs.session.holds z).distinct y)

      low_apart : IsTrue a.device.told → Apart (chain_blocks a change.low) (writer_blocks a w)
      low_apart y =
          apart_left (chain_blocks a change.low) (high_blocks a change.high) (writer_blocks a w) (list_apart y)

      upper_apart : IsTrue a.device.told → Apart (chain_blocks a upper) (writer_blocks a w)
      upper_apart y = subst (λ (bs : List ℕ). Apart bs (writer_blocks a w)) upper_blocks
          (apart_right (chain_blocks a change.low) (high_blocks a change.high) (writer_blocks a w) (list_apart y))

      sound_part : Sound a
      sound_part = x.runs.session.sound

      abbrev entry : Entry
      entry = listed_entry sound_part x.leaves.low low_apart l

      upper_same : IsTrue s.device.told → chain_blocks t upper ≡ chain_blocks a upper
      upper_same z = (chain_stays (writer_blocks a w) a t upper l.runs.session.touches upper_apart
          upper_leaf.chain).blocks (told_part z)

      upper_items : IsTrue s.device.told → chain_items t upper ≡ chain_items a upper
      upper_items z = (chain_stays (writer_blocks a w) a t upper l.runs.session.touches upper_apart
          upper_leaf.chain).items (told_part z)

      two_runs : RunsPaid (fusing_blocks s held.stored next.stored ++ writer_blocks s w)
          (chain_blocks t upper ++ (leaf_blocks t (entry ∷ []) ++ writer_blocks t v)) (min w.blocks 1)
          (min v.blocks 1) s t
      two_runs =
          let m = min w.blocks 1 in
          let n = min v.blocks 1 in
          let fused = fused_blocks a change in
          let new = l.block ∷ writer_blocks t v in
          let both = paid_part (writer_blocks a w) new fused 0 (sym (more_zero m)) part_runs
          (λ z i. let p = tally_append i fused (writer_blocks a w) in
          let q = tally_append i (writer_blocks a w) fused in omega (arith, p, q)) l.runs in
          paid_same (chain_blocks t upper ++ (leaf_blocks t (entry ∷ []) ++ writer_blocks t v))
          (paid_count m (n + 0) m n refl (more_zero n) both)
          (λ z i.
          let p = tally_append i new fused in
          let q = tally_append i (chain_blocks a change.low) (high_blocks a change.high) in
          let u = ap (tally i) upper_blocks in
          let o = tally_append i (chain_blocks t upper) (leaf_blocks t (entry ∷ []) ++ writer_blocks t v) in
          let r = tally_append i (leaf_blocks t (entry ∷ [])) (writer_blocks t v) in
          let b = ap (tally i) (entry_blocks sound_part x.leaves.low low_apart l (told_part z)) in
          let d = ap (tally i) (upper_same z) in
          omega (arith, p, q, u, o, r, b, d))

      two_joins : IsTrue s.device.told → JoinsInto key (load_of s.pool.shape) (payload_in s) held.low
          (chain_items s held.stored) (chain_items s next.stored) (parts_at t (entry ∷ [])) k (chain_items t upper)
      two_joins z =
          let n = load_of s.pool.shape in
          let p = payload_in s in
          let xs = chain_items s held.stored in
          let ys = chain_items s next.stored in
          let P : Option (Record × Chain) → Type 0 = λ o. PartsInto key n p xs ys a change.low o in
          let two = subst P e (x.parts z) in
          let B : List Record → Type 0 = λ zs. TwoRows key n p xs ys (chain_items a change.low) k zs in
          let J : List (Record × List Record) → Type 0 = λ ps. JoinsInto key n p held.low xs ys ps k (chain_items t upper) in
          let most = leaf_items_most (told_part z) x.leaves.low in
          let shape : load_of a.pool.shape ≡ n = ap load_of x.runs.session.touches.shape in
          subst J (sym (entry_parts sound_part x.leaves.low low_apart l (told_part z)))
          (refl, subst B (sym (upper_items z)) two, omega (arith, most, shape))

      pub joined_two : JoinedNext key s t held next w v (record { low = k; stored = upper; more = next.more })
      joined_two =
          let lm = l.moves in
          record {
            entries = entry ∷ [];
            runs = two_runs;
            wrote = wrote_then [] (listed (entry ∷ [])) (wrote_stays x.runs.session.touches.told part_writer)
                (entry_wrote sound_part x.leaves.low low_apart l);
            chain = leaf_stays l.runs.session.touches upper_apart upper_leaf;
            few = omega arith;
            more_is = refl;
            leaves = λ z. entry_leads sound_part x.leaves.low low_apart l (told_part z);
            joins = two_joins;
            peaks = λ z.
                let p = x.peaks z in
                let pm = p.most in
                let u = x.used z in
                let q = l.peaks in
                let qu = q.used in
                let qm = q.most in
                record { used = omega (arith, u, qu); most = omega (arith, pm, u, qm) };
            moves = λ z. let m = x.moves z in omega (arith, m, lm);
          }

    -- It couldn't be listed.
    pub unlisted_stops : {t : RigState} {fault : EmFault} → StopsListing a t w fault
        → StopsJoining s t held next w fault
    unlisted_stops {t} {fault} l =
        let m = min w.blocks 1 in
        let fused = fused_blocks a change in
        let ks = fusing_blocks s held.stored next.stored ++ writer_blocks s w in
        let lm = l.moves in
        let y = paid_stops (writer_blocks a w) fused 0 (sym (more_zero m)) part_runs
        (λ z i. let p = tally_append i fused (writer_blocks a w) in
        let q = tally_append i (writer_blocks a w) fused in omega (arith, p, q)) l.stops in
        let blocks = x.runs.session.touches.blocks in
        record {
          stops = stops_paid_more ks 3 (omega arith) y (λ z i. refl);
          full = λ z. let u = x.used z in
              full_by fault (a.blocks < a.used + 2) (s.blocks < s.used + 3) (λ h. omega (arith, h, u, blocks)) l.full;
          peaks = λ z.
              let p = x.peaks z in
              let pm = p.most in
              let u = x.used z in
              let q = l.peaks in
              let qu = q.used in
              let qm = q.most in
              record { used = omega (arith, u, qu); most = omega (arith, pm, u, qm) };
          moves = λ z. let n = x.moves z in omega (arith, n, lm);
        }

  -- They couldn't be parted.
  pub unparted_stops : {t : RigState} {fault : EmFault} → StopsParting s t held.stored next.stored fault
      → StopsJoining s t held next w fault
  unparted_stops {t} {fault} x =
      let n = min w.blocks 1 in
      let ks = fusing_blocks s held.stored next.stored in
      let first = paid_none s (ks ++ writer_blocks s w) n sound j.holds in
      let y = paid_stops ks (writer_blocks s w) n (sym (zero_more n)) first (λ z i. refl) x.stops in
      record {
        stops = stops_paid_more (ks ++ writer_blocks s w) 3 (omega arith) y (λ z i. refl);
        full = x.full;
        peaks = x.peaks;
        moves = λ z. let m = x.moves z in omega (arith, m);
      }

-- A fault that is handed on.
pub joins_of : (key : Record → Record) (s t : RigState) (held : Held) (next : Unloaded) (w v : Writer)
    (result : Result Held EmFault) (e : EmFault) → IsErrAnd result (λ m. m ≡ e) → StopsJoining s t held next w e
    → JoinsNext key s t held next w v result
joins_of key s t held next w v (Ok x) e h y = absurd h
joins_of key s t held next w v (Err m) e h y = subst (λ (f : EmFault). StopsJoining s t held next w f) (sym h) y
