-- The list of all leaves, begun and finished.
use Rattle.std.proofs.Common.{◌≡◌, ℕ, ◌+◌, ◌*◌, ◌<◌, ◌≤◌, min, List, [], ◌++◌, length, sym, ap, ◌∙◌, subst, arith, IsTrue, Result, Ok, Err, IfOk, IfErr}
use Rattle.std.proofs.Math.Nat.{mul-le-mul_left}
use Rattle.std.proofs.lemmas.List.{length-append}
use Rattle.em_record.specs.Shape.{wide_of}
use Rattle.em_record.specs.declared.record.Record.{Record}
use Rattle.em_frames.specs.Pool.{SameFrames, load_of}
use Rattle.em_settle.specs.Rising.{RisesByKey}
use Rattle.em_space.specs.Free.{Off}
use Rattle.em_space.specs.Held.{Apart}
use Rattle.em_space.specs.Ledger.{Halts, Session, Spends}
use Rattle.em_space.specs.Queue.{Pays}
use Rattle.em_space.specs.Rig.{RigState, DeviceCause}
use Rattle.em_space.specs.declared.fault.EmFault.{EmFault}
use Rattle.em_space.proofs.Apart.{off_right}
use Rattle.em_space.proofs.Held.{apart_none}
use Rattle.em_space.proofs.Ledgers.{full_by, full_never}
use Rattle.em_space.proofs.Lists.{distinct_apart}
use Rattle.em_space.proofs.Paying.{pays_kept, pays_more, pays_then}
use Rattle.em_space.proofs.Sessions.{session_as, session_last, session_still, session_trans}
use Rattle.em_space.proofs.Steps.{cause_after, device_block_cause, device_cause, touches_then, touches_trans, touches_wider}
use Rattle.em_space.proofs.Within.{within_kept, within_same}
use Rattle.em_chain.specs.Chain.{chain_blocks, payload_in}
use Rattle.em_chain.specs.Effects.{GivesFrame, LendsFrame, Unmoved}
use Rattle.em_chain.specs.Session.{FinishSpends, chain_account, writer_account}
use Rattle.em_chain.specs.Writer.{filled, writer_blocks}
use Rattle.em_chain.specs.Writes.{Begins, FinishCosts, Finishes}
use Rattle.em_chain.specs.declared.chain.Chain.{Chain}
use Rattle.em_chain.specs.declared.writer.Writer.{Writer}
use Rattle.em_chain.proofs.Counts.{writer_blocks_are}
use Rattle.em_chain.proofs.Keeps.{lent_given, lent_same, payload_kept}
use Rattle.em_chain.proofs.Writings.{cause_still}
use Rattle.em_tree_blocks.specs.Reading.{IsTreeAt}
use Rattle.em_tree_walk.specs.Paid.{LosesNone}
use Rattle.em_tree_walk.specs.declared.splitting.Root.{Root}
use Rattle.em_tree_walk.proofs.Regions.{session_same, tally, tally_append}
use Rattle.em_tree_load.specs.Peaks.{Peaks}
use Rattle.em_tree_raise.specs.Listing.{listed}
use Rattle.em_tree_trim.specs.Joins.{Joined}
use Rattle.em_tree_trim.specs.Leaves.{leaf_blocks}
use Rattle.em_tree_trim.specs.Listings.{CanList, ListedAll, ListedJoined, ListsJoined, StopsJoined, StopsListingAll, blocks_of, join_moves, rows_of}
use Rattle.em_tree_trim.specs.Rows.{parts_at, records_in}
use Rattle.em_tree_trim.specs.Trimming.{CanTrim, tree_of}
use Rattle.em_tree_trim.proofs.LeavesStay.{LeavesStay, leaves_stay, listed_length}
use Rattle.em_tree_trim.proofs.RowLists.{stored_rows}
use Rattle.em_tree_trim.proofs.Sizes.{ceiling_fits}
use Rattle.em_tree_trim.proofs.Stays.{leads_stays, same_blocks, same_rows, unloadable_stays}

-- A list was begun.
module _ {key : Record → Record} {s a : RigState} {root : Root} {w : Writer} (can : CanTrim key s root)
    (l : LendsFrame s a) (u : Unmoved s a) (b : Begins a w) where
  tree_is : IsTrue s.device.told → IsTreeAt root.level s root.block
  tree_is z = (can.can.leads.told z).is

  no_apart : IsTrue s.device.told → Apart (blocks_of s root) []
  no_apart z = apart_none (blocks_of s root)

  begun_blocks : IsTrue s.device.told → blocks_of a root ≡ blocks_of s root
  begun_blocks z = same_blocks root l.touches no_apart z (tree_is z)

  begun_rows : IsTrue s.device.told → rows_of a root ≡ rows_of s root
  begun_rows z = same_rows root l.touches no_apart z (tree_is z)

  begun_back : IsTrue a.device.told → IsTrue s.device.told
  begun_back y = sym l.touches.told ∙ y

  -- The leaves can be listed.
  pub begun_can : CanList key a root w
  begun_can = record {
    can = record {
      above = can.can.above;
      leads = leads_stays root l.touches no_apart can.can.leads;
      told = λ y. let z = begun_back y in
          unloadable_stays root l.touches no_apart z (tree_is z) (can.can.told z);
    };
    rises = λ y.
        let z = begun_back y in
        let R : List Record → Type 0 = RisesByKey key in
        subst R (stored_rows (tree_of s root) ∙ ap records_in (sym (begun_rows z))) (can.rises z);
    writer = b.is;
    none = b.count;
    no_block = b.blocks;
  }

  begun_session : Session (blocks_of s root) s a (blocks_of a root)
  begun_session = session_as (blocks_of a root)
      (session_still (blocks_of s root) l.sound l.touches (λ z. (can.can.told z).holds)) begun_blocks

  begun_load : load_of a.pool.shape ≡ load_of s.pool.shape
  begun_load = ap load_of l.frames.shape

  begun_payload : payload_in a ≡ payload_in s
  begun_payload = payload_kept [] s a l.touches

  begun_wide : wide_of a.pool.shape ≡ wide_of s.pool.shape
  begun_wide = ap wide_of l.frames.shape

  -- It was written,
  module _ {m : RigState} {v : Writer} (x : ListedAll key a m root w v) where
    told_mid : IsTrue s.device.told → IsTrue m.device.told
    told_mid z = x.runs.session.touches.told ∙ (l.touches.told ∙ z)

    mid_back : IsTrue m.device.told → IsTrue s.device.told
    mid_back y = begun_back (sym x.runs.session.touches.told ∙ y)

    written : Session (blocks_of s root) s m (leaf_blocks m x.entries ++ writer_blocks m v)
    written = session_trans begun_session x.runs.session

    list_apart : IsTrue m.device.told → Apart (leaf_blocks m x.entries) (writer_blocks m v)
    list_apart y = distinct_apart (leaf_blocks m x.entries) (writer_blocks m v) ((written.holds (mid_back y)).distinct y)

    written_pays : Pays 0 (min v.blocks 1) s m
    written_pays =
        let used = u.same.used in
        let moves = u.moves in
        let first : Pays 0 0 s a = pays_kept 0 (omega (arith, used)) (omega (arith, moves)) in
        pays_then first x.runs.pays x.runs.session.touches.moves

    written_peaks : IsTrue s.device.told → Peaks (3 * length (rows_of s root) + 3) s m
    written_peaks z =
        let p = x.peaks (l.touches.told ∙ z) in
        let n = ap length (begun_rows z) in
        let pu = p.used in
        let pm = p.most in
        let used = u.same.used in
        let most = u.same.most in
        record { used = omega (arith, pu, used, n); most = omega (arith, pm, used, most, n) }

    written_moves : IsTrue s.device.told
        → m.moves ≤ s.moves + join_moves (wide_of s.pool.shape) root.level (length (rows_of s root))
    written_moves z =
        let p = x.moves (l.touches.told ∙ z) in
        let moves = u.moves in
        let e = ap (λ (n : ℕ). join_moves n root.level (length (rows_of a root))) begun_wide in
        let f = ap (λ (rs : List (List Record)). join_moves (wide_of s.pool.shape) root.level (length rs)) (begun_rows z) in
        omega (arith, p, moves, e, f)

    -- and finished,
    module _ {t : RigState} {c : Chain} (g : GivesFrame (writer_blocks m v) m t) (f : Finishes m t v c)
        (q : FinishCosts {T = Chain} m t v (Ok c))
        (k : Spends v.blocks (writer_account v) (chain_account (min v.blocks 1) c) m t) where
      done_stay : IsTrue s.device.told → LeavesStay m t x.entries
      done_stay z = leaves_stay x.entries g.touches (told_mid z) (list_apart (told_mid z)) (x.leaves (l.touches.told ∙ z))

      done_session : Session (blocks_of s root) s t (chain_blocks t c ++ leaf_blocks t x.entries)
      done_session =
          let last : Session (writer_blocks m v) m t (chain_blocks t c) = record {
            sound = g.sound;
            touches = g.touches;
            within = within_kept m (writer_blocks m v) (writer_blocks m v) (chain_blocks t c)
                (within_same m (writer_blocks m v)) f.blocks;
            holds = λ y. (f.is.told (g.touches.told ∙ y)).holds;
          } in
          session_same (chain_blocks t c ++ leaf_blocks t x.entries)
          (session_last (leaf_blocks m x.entries) (writer_blocks m v) (chain_blocks t c) written last)
          (λ z i.
          let a1 = tally_append i (leaf_blocks m x.entries) (chain_blocks t c) in
          let a2 = tally_append i (chain_blocks t c) (leaf_blocks t x.entries) in
          let a3 = ap (tally i) (done_stay z).blocks in
          omega (arith, a1, a2, a3))

      done_frames : SameFrames s.pool t.pool
      done_frames = lent_given s.pool m.pool t.pool (lent_same 1 s.pool a.pool m.pool l.frames x.runs.frames) g.frames

      done_loses : LosesNone (blocks_of s root) (chain_blocks t c ++ leaf_blocks t x.entries) s t
      done_loses z =
          let y = l.touches.told ∙ z in
          let o = x.runs.loses y in
          let n1 = length-append (leaf_blocks m x.entries) (writer_blocks m v) in
          let n2 = length-append (chain_blocks t c) (leaf_blocks t x.entries) in
          let n3 = ap length (begun_blocks z) in
          let n4 = ap length (done_stay z).blocks in
          let n5 = ap length (f.blocks (told_mid z)) in
          let used = u.same.used in
          let last = q.only.same.used in
          omega (arith, o, n1, n2, n3, n4, n5, used, last)

      done_count : c.count ≡ 2 * length x.entries
      done_count =
          let n = x.wrote.count_is in
          let o = listed_length x.entries in
          let z = b.count in
          let e = f.count_is in
          omega (arith, n, o, z, e)

      done_blocks : c.blocks ≤ length x.entries
      done_blocks =
          let n = x.wrote.filled_is in
          let o = listed_length x.entries in
          let z = b.filled_is in
          let e = f.blocks_is in
          let low = x.runs.session.sound.shape.block_low in
          let w1 = writer_blocks_are m v low x.wrote.is in
          let all : filled m v ≡ 2 * length x.entries = omega (arith, n, o, z) in
          let pos : 2 ≤ payload_in m = omega (arith, low) in
          let r = mul-le-mul_left (length x.entries) pos in
          let d = ceiling_fits (filled m v) (length x.entries) (payload_in m) (omega (arith, low)) (omega (arith, all, r)) in
          omega (arith, w1, d, e)

      pub done : ListedJoined key s t root c
      done =
          let last = q.only.same in
          let lm = q.only.moves in
          let lu = last.used in
          let lo = last.most in
          record {
            entries = x.entries;
            runs = record {
              session = done_session;
              frames = done_frames;
              pays = pays_then written_pays k.pays k.later;
              loses = done_loses;
            };
            chain = f.is;
            count = done_count;
            blocks = done_blocks;
            items = λ z.
                f.items (told_mid z) ∙ (x.wrote.items (l.touches.told ∙ z)
                ∙ ap (λ (rs : List Record). rs ++ listed x.entries) b.items);
            leaves = λ z. (done_stay z).leads;
            joined = λ z.
                let j = x.joined (l.touches.told ∙ z) in
                let N : ℕ → Type 0 =
                λ n. Joined key n (payload_in a) (rows_of a root) (parts_at m x.entries) in
                let P : ℕ → Type 0 =
                λ p. Joined key (load_of s.pool.shape) p (rows_of a root) (parts_at m x.entries) in
                let R : List (List Record) → Type 0 =
                λ rs. Joined key (load_of s.pool.shape) (payload_in s) rs (parts_at m x.entries) in
                let Q : List (Record × List Record) → Type 0 =
                λ ps. Joined key (load_of s.pool.shape) (payload_in s) (rows_of s root) ps in
                subst Q (sym (done_stay z).parts)
                (subst R (begun_rows z) (subst P begun_payload (subst N begun_load j)));
            peaks = λ z.
                let p = written_peaks z in
                let pu = p.used in
                let pm = p.most in
                record { used = omega (arith, pu, lu); most = omega (arith, pm, lo) };
            moves = λ z. let p = written_moves z in omega (arith, p, lm);
          }

    -- or couldn't be.
    undone : {t : RigState} {e : EmFault} → GivesFrame (writer_blocks m v) m t → FinishCosts {T = Chain} m t v (Err e)
        → Halts v.blocks (2 * v.blocks + min v.blocks 1) (min v.blocks 1) (writer_account v) m t e → DeviceCause m t e
        → StopsJoined s t root e
    undone {t} {e} g q k c =
        let last = q.only.same in
        let lm = q.only.moves in
        let lu = last.used in
        let lo = last.most in
        record {
          stops = record {
            goes = record {
              sound = g.sound;
              touches = touches_trans (blocks_of s root) (writer_blocks m v) s m t written.touches g.touches
                  (λ z j i o. off_right j (leaf_blocks m x.entries) (writer_blocks m v) (written.within.off z j i o));
              frames = lent_given s.pool m.pool t.pool (lent_same 1 s.pool a.pool m.pool l.frames x.runs.frames) g.frames;
            };
            pays = pays_more (pays_then written_pays k.pays k.later) (omega arith);
            cause = cause_after (blocks_of s root) s m t e written.touches (device_cause m t e c);
          };
          full = λ z. full_never m t e (s.blocks < s.used + (3 * length (rows_of s root) + 3)) (device_block_cause m t e c);
          peaks = λ z.
              let p = written_peaks z in
              let pu = p.used in
              let pm = p.most in
              record { used = omega (arith, pu, lu); most = omega (arith, pm, lo) };
          moves = λ z. let p = written_moves z in omega (arith, p, lm);
        }

    pub finished : (t : RigState) (result : Result Chain EmFault) → GivesFrame (writer_blocks m v) m t
        → IfOk result (λ c. Finishes m t v c) → FinishCosts m t v result → FinishSpends m t v result
        → IfErr result (DeviceCause m t) → ListsJoined key s t root result
    finished t (Ok c) g f q k o = done g f q k
    finished t (Err e) g f q k o = undone g q k o

  -- It couldn't be written.
  pub unwritten : {m : RigState} {e : EmFault} (t : RigState) → StopsListingAll a m root e → GivesFrame [] m t
      → Unmoved m t → StopsJoined s t root e
  unwritten {m} {e} t x g v =
      let used = u.same.used in
      let most = u.same.most in
      let moves = u.moves in
      let lu = v.same.used in
      let lo = v.same.most in
      let lm = v.moves in
      let blocks = l.touches.blocks in
      let o = x.stops in
      let first : Pays 0 0 s a = pays_kept 0 (omega (arith, used)) (omega (arith, moves)) in
      let last : Pays 3 3 m t = pays_kept 3 (omega (arith, lu)) (omega (arith, lm)) in
      let e1 = ap (λ (n : ℕ). join_moves n root.level (length (rows_of a root))) begun_wide in
      record {
        stops = record {
          goes = record {
            sound = g.sound;
            touches = touches_then (blocks_of s root) s m t
                (touches_trans (blocks_of s root) (blocks_of a root) s a m
                (touches_wider (blocks_of s root) [] s a l.touches (λ z j i w. tt)) o.goes.touches
                (λ z j i w. subst (λ (ks : List ℕ). Off j ks) (sym (begun_blocks z)) w)) g.touches;
            frames = lent_given s.pool m.pool t.pool (lent_same 1 s.pool a.pool m.pool l.frames o.goes.frames) g.frames;
          };
          pays = pays_then (pays_then first o.pays o.goes.touches.moves) last g.touches.moves;
          cause = cause_still s m t e v g.touches (cause_after [] s a m e l.touches o.cause);
        };
        full = λ z.
            let n = ap length (begun_rows z) in
            full_by e (a.blocks < a.used + (3 * length (rows_of a root) + 3))
            (s.blocks < s.used + (3 * length (rows_of s root) + 3)) (λ h. omega (arith, h, n, blocks, used))
            (x.full (l.touches.told ∙ z));
        peaks = λ z.
            let p = x.peaks (l.touches.told ∙ z) in
            let n = ap length (begun_rows z) in
            let pu = p.used in
            let pm = p.most in
            record { used = omega (arith, pu, used, n, lu); most = omega (arith, pm, used, most, n, lo) };
        moves = λ z.
            let p = x.moves (l.touches.told ∙ z) in
            let f = ap (λ (rs : List (List Record)). join_moves (wide_of s.pool.shape) root.level (length rs)) (begun_rows z) in
            omega (arith, p, moves, e1, f, lm);
      }
