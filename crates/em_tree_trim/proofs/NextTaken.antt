-- The next leaf, taken out of the tree and joined to the one that is held.
use Rattle.std.proofs.Common.{◌≡◌, ℕ, ◌+◌, ◌<◌, min, List, [], ◌∷◌, ◌++◌, length, refl, sym, ap, ◌∙◌, subst, arith, append_assoc, Bool, IsTrue, Result, Ok, Err, IsErrAnd}
use Rattle.em_record.specs.Shape.{wide_of}
use Rattle.em_record.specs.declared.record.Record.{Record}
use Rattle.em_frames.specs.Pool.{load_of}
use Rattle.em_settle.specs.Rising.{RisesByKey}
use Rattle.em_space.specs.Held.{Apart}
use Rattle.em_space.specs.Rig.{RigState, Sound}
use Rattle.em_space.specs.declared.fault.EmFault.{EmFault}
use Rattle.em_space.proofs.Ledgers.{full_by, full_never}
use Rattle.em_space.proofs.Lists.{apart_left, apart_right, apart_sym, distinct_apart}
use Rattle.em_space.proofs.Paying.{pays_more}
use Rattle.em_space.proofs.Steps.{block_cause}
use Rattle.em_space.proofs.Within.{goes_wider, within_left}
use Rattle.em_chain.specs.Chain.{ChainStays, chain_blocks, chain_items, payload_in}
use Rattle.em_chain.specs.Writer.{WriterStays, writer_blocks}
use Rattle.em_chain.specs.declared.writer.Writer.{Writer}
use Rattle.em_chain.proofs.Keeps.{has_kept, payload_kept}
use Rattle.em_chain.proofs.Laws.{chain_stays, writer_stays}
use Rattle.em_chain.proofs.Sessions.{wrote_stays, wrote_then}
use Rattle.em_leaf.specs.Fusing.{fusing_blocks}
use Rattle.em_tree_model.proofs.Splits.{rises_first}
use Rattle.em_tree_walk.specs.Paid.{RunsPaid}
use Rattle.em_tree_walk.specs.declared.splitting.Root.{Root}
use Rattle.em_tree_walk.proofs.Regions.{held_first, tally, tally_append}
use Rattle.em_tree_load.proofs.Payments.{paid_none, paid_part, paid_same, paid_stops, stops_paid_more}
use Rattle.em_tree_load.proofs.Peaks.{peaks_then, peaks_wider}
use Rattle.em_tree_unload.specs.Unloading.{StopsUnloading, UnloadedLeaf, left_blocks, left_rows}
use Rattle.em_tree_unload.specs.declared.unloading.Unloaded.{Unloaded}
use Rattle.em_tree_raise.specs.Listing.{listed}
use Rattle.em_tree_trim.specs.Leaves.{leaf_blocks}
use Rattle.em_tree_trim.specs.Listed.{CanJoinNext, JoinedNext, JoinsInto, JoinsNext, StopsJoining}
use Rattle.em_tree_trim.specs.Listings.{CanTakeNext, StopsTaking, TakesNext, TookNext, blocks_of}
use Rattle.em_tree_trim.specs.Rows.{parts_at, records_in}
use Rattle.em_tree_trim.specs.declared.joining.Held.{Held}
use Rattle.em_tree_trim.proofs.Runs.{leaf_stays, paid_count}
use Rattle.em_tree_trim.proofs.Stays.{LeftStays, left_stays}

zero_more : (n : ℕ) → 0 + n ≡ n
zero_more n = omega arith

more_zero : (n : ℕ) → n + 0 ≡ n
more_zero n = omega arith

module _ {key : Record → Record} {s : RigState} {root : Root} {held : Held} {w : Writer} (sound : Sound s)
    (j : CanTakeNext key s root held w) where
  abbrev others : List ℕ
  others = chain_blocks s held.stored ++ writer_blocks s w

  -- The leaf and the list are beside the tree.
  others_apart : IsTrue s.device.told → Apart others (blocks_of s root)
  others_apart z = apart_sym (blocks_of s root) others (distinct_apart (blocks_of s root) others ((j.holds z).distinct z))

  -- The next leaf was taken out.
  module _ {a : RigState} {next : Unloaded} (x : UnloadedLeaf s a root next) where
    take_told : IsTrue s.device.told → IsTrue a.device.told
    take_told z = x.session.touches.told ∙ z

    back_told : IsTrue a.device.told → IsTrue s.device.told
    back_told y = sym x.session.touches.told ∙ y

    pub take_writer : WriterStays s a w
    take_writer = writer_stays (blocks_of s root) s a w x.session.touches
        (λ z. apart_right (chain_blocks s held.stored) (writer_blocks s w) (blocks_of s root) (others_apart z))
        (has_kept 1 (length w.frame) s.pool a.pool x.frames j.writer.frame) j.writer

    held_stays : ChainStays s a held.stored
    held_stays = chain_stays (blocks_of s root) s a held.stored x.session.touches
        (λ z. apart_left (chain_blocks s held.stored) (writer_blocks s w) (blocks_of s root) (others_apart z))
        j.leaf.chain

    tree : RunsPaid (blocks_of s root) (chain_blocks a next.stored ++ left_blocks next.more a root) 0 0 s a
    tree = record { session = x.session; frames = x.frames; pays = x.pays; loses = x.loses }

    -- the two leaves and the list
    abbrev two : List ℕ
    two = fusing_blocks a held.stored next.stored ++ writer_blocks a w

    take_runs : RunsPaid (blocks_of s root ++ others) (two ++ left_blocks next.more a root) (min w.blocks 1)
        (min w.blocks 1) s a
    take_runs =
        let n = min w.blocks 1 in
        let ks = blocks_of s root in
        let own = chain_blocks a next.stored in
        let left = left_blocks next.more a root in
        let first = paid_none s (ks ++ others) n sound j.holds in
        let both = paid_part ks (own ++ left) others n (sym (zero_more n)) first (λ z i. refl) tree in
        paid_same (two ++ left) (paid_count n (0 + n) n n refl (zero_more n) both)
        (λ z i.
        let p = tally_append i (own ++ left) others in
        let q = tally_append i own left in
        let r = tally_append i (chain_blocks s held.stored) (writer_blocks s w) in
        let o = tally_append i two left in
        let u = tally_append i (fusing_blocks a held.stored next.stored) (writer_blocks a w) in
        let v = tally_append i (chain_blocks a held.stored) own in
        let b = ap (tally i) (held_stays.blocks z) in
        let c = ap (tally i) (take_writer.blocks z) in
        omega (arith, p, q, r, o, u, v, b, c))

    -- They can be joined.
    pub take_joins : CanJoinNext key a held next w
    take_joins = record {
      low_leaf = leaf_stays x.session.touches
          (λ z. apart_left (chain_blocks s held.stored) (writer_blocks s w) (blocks_of s root) (others_apart z)) j.leaf;
      high_leaf = x.chain;
      holds = λ y. held_first two (left_blocks next.more a root) (take_runs.session.holds (back_told y));
      rises = λ y.
          let z = back_told y in
          let xs = chain_items s held.stored in
          let ys = chain_items a next.stored in
          let rest = records_in (left_rows next.more a root) in
          let R : List Record → Type 0 = RisesByKey key in
          let rows = ap (λ (rs : List (List Record)). xs ++ records_in rs) (x.told z).rows in
          let all : RisesByKey key ((xs ++ ys) ++ rest) =
          subst R (rows ∙ sym (append_assoc xs ys rest)) (j.rises z) in
          subst R (ap (λ (zs : List Record). zs ++ ys) (sym (held_stays.items z))) (rises_first key (xs ++ ys) rest all);
    }

    -- They were.
    module _ {t : RigState} {v : Writer} {new : Held} (y : JoinedNext key a t held next w v new) where
      left_apart : IsTrue a.device.told → Apart (left_blocks next.more a root) two
      left_apart u = apart_sym two (left_blocks next.more a root)
          (distinct_apart two (left_blocks next.more a root) ((take_runs.session.holds (back_told u)).distinct u))

      left_later : LeftStays next.more a t root
      left_later = left_stays next.more root y.runs.session.touches left_apart x.leads
          (λ u e. (x.told (back_told u)).left e)

      took_runs : RunsPaid (blocks_of s root ++ others) (left_blocks next.more t root
          ++ (chain_blocks t new.stored ++ (leaf_blocks t y.entries ++ writer_blocks t v))) (min w.blocks 1)
          (min v.blocks 1) s t
      took_runs =
          let m = min w.blocks 1 in
          let n = min v.blocks 1 in
          let left = left_blocks next.more a root in
          let js = chain_blocks t new.stored ++ (leaf_blocks t y.entries ++ writer_blocks t v) in
          let both = paid_part two js left 0 (sym (more_zero m)) take_runs (λ z i. refl) y.runs in
          paid_same (left_blocks next.more t root ++ js) (paid_count m (n + 0) m n refl (more_zero n) both)
          (λ z i.
          let p = tally_append i js left in
          let q = tally_append i (left_blocks next.more t root) js in
          let b = ap (tally i) (left_later.blocks (take_told z)) in
          omega (arith, p, q, b))

      took_joins : IsTrue s.device.told → JoinsInto key (load_of s.pool.shape) (payload_in s) held.low
          (chain_items s held.stored) (chain_items a next.stored) (parts_at t y.entries) new.low
          (chain_items t new.stored)
      took_joins z =
          let ys = chain_items a next.stored in
          let ps = parts_at t y.entries in
          let zs = chain_items t new.stored in
          let N : ℕ → Type 0 =
          λ n. JoinsInto key n (payload_in s) held.low (chain_items s held.stored) ys ps new.low zs in
          let P : ℕ → Type 0 =
          λ p. JoinsInto key (load_of a.pool.shape) p held.low (chain_items s held.stored) ys ps new.low zs in
          let X : List Record → Type 0 =
          λ xs. JoinsInto key (load_of a.pool.shape) (payload_in a) held.low xs ys ps new.low zs in
          subst N (ap load_of x.session.touches.shape)
          (subst P (payload_kept (blocks_of s root) s a x.session.touches)
          (subst X (held_stays.items z) (y.joins (take_told z))))

      pub took_next : TookNext key s t root held w v new
      took_next =
          let M : Bool → Type 0 = λ b. RunsPaid (blocks_of s root ++ others) (left_blocks b t root
          ++ (chain_blocks t new.stored ++ (leaf_blocks t y.entries ++ writer_blocks t v))) (min w.blocks 1)
          (min v.blocks 1) s t in
          let same = y.more_is in
          let wide = ap wide_of x.session.touches.shape in
          record {
            entries = y.entries;
            runs = subst M (sym same) took_runs;
            wrote = wrote_then [] (listed y.entries) (wrote_stays x.session.touches.told take_writer) y.wrote;
            chain = y.chain;
            few = y.few;
            leads = λ e. left_later.leads (sym same ∙ e);
            left = λ z e. left_later.left (take_told z) (sym same ∙ e);
            leaves = λ z. y.leaves (take_told z);
            next = chain_items a next.stored;
            rows = λ z. (x.told z).rows ∙ ap (λ (rs : List (List Record)). chain_items a next.stored ∷ rs)
                (sym (left_later.rows (take_told z)) ∙ ap (λ (b : Bool). left_rows b t root) (sym same));
            joins = took_joins;
            peaks = λ z. peaks_then 3 x.peaks (y.peaks (take_told z)) (omega arith);
            moves = λ z.
                let p = (x.told z).moves in
                let q = y.moves (take_told z) in
                omega (arith, p, q, wide);
          }

    -- They couldn't be.
    unjoined : {t : RigState} {fault : EmFault} → StopsJoining a t held next w fault
        → StopsTaking s t root held w fault
    unjoined {t} {fault} y =
        let m = min w.blocks 1 in
        let left = left_blocks next.more a root in
        let z0 = paid_stops two left 0 (sym (more_zero m)) take_runs (λ z i. refl) y.stops in
        let wide = ap wide_of x.session.touches.shape in
        let blocks = x.session.touches.blocks in
        let few = x.peaks.used in
        record {
          stops = stops_paid_more (blocks_of s root ++ others) 3 (omega arith) z0 (λ z i. refl);
          full = λ z. full_by fault (a.blocks < a.used + 3) (s.blocks < s.used + 3)
              (λ h. omega (arith, h, few, blocks)) (y.full (take_told z));
          peaks = λ z. peaks_then 3 x.peaks (y.peaks (take_told z)) (omega arith);
          moves = λ z.
              let p = (x.told z).moves in
              let q = y.moves (take_told z) in
              omega (arith, p, q, wide);
        }

    pub takes_next : (t : RigState) (v : Writer) (result : Result Held EmFault) → JoinsNext key a t held next w v result
        → TakesNext key s t root held w v result
    takes_next t v (Ok new) y = took_next y
    takes_next t v (Err e) y = unjoined y

  -- It couldn't be taken out.
  untaken : {t : RigState} {fault : EmFault} → StopsUnloading s t root fault → StopsTaking s t root held w fault
  untaken {t} {fault} x = record {
    stops = record {
      goes = goes_wider (blocks_of s root ++ others) (blocks_of s root) s t (within_left s (blocks_of s root) others) x.goes;
      pays = pays_more x.pays (omega arith);
      cause = block_cause s t fault x.cause;
    };
    full = λ z. full_never s t fault (s.blocks < s.used + 3) x.cause;
    peaks = λ z. peaks_wider 3 (omega arith) x.peaks;
    moves = λ z. let m = x.moves z in omega (arith, m);
  }

  pub untakes_next : (t : RigState) (v : Writer) (result : Result Held EmFault) (e : EmFault)
      → IsErrAnd result (λ m. m ≡ e) → StopsUnloading s t root e → TakesNext key s t root held w v result
  untakes_next t v (Ok new) e h x = absurd h
  untakes_next t v (Err m) e h x = subst (λ (f : EmFault). StopsTaking s t root held w f) (sym h) (untaken x)
