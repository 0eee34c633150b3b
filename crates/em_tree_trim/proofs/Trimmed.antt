-- A tree, made anew over the leaves that were listed.
use Rattle.std.proofs.Common.{◌≡◌, ◌⊎◌, ℕ, ◌+◌, ◌-◌, ◌*◌, ◌<◌, ◌≤◌, List, ◌++◌, length, refl, sym, ap, ◌∙◌, subst, arith, inl, inr, ⊎_elim, IsTrue, Result, Ok, Err, IsErrAnd}
use Rattle.std.proofs.lemmas.Bool.{cases_lt}
use Rattle.std.proofs.lemmas.List.{length-append}
use Rattle.em_record.specs.Shape.{ShapeNumbers, IsShape, fan_of, wide_of}
use Rattle.em_record.specs.declared.record.Record.{Record}
use Rattle.em_frames.specs.Pool.{load_of}
use Rattle.em_space.specs.Held.{Apart}
use Rattle.em_space.specs.Rig.{RigState, Sound}
use Rattle.em_space.specs.declared.fault.EmFault.{EmFault}
use Rattle.em_space.proofs.Ledgers.{full_by}
use Rattle.em_space.proofs.Lists.{apart_sym, distinct_apart}
use Rattle.em_chain.specs.Chain.{chain_blocks, payload_in}
use Rattle.em_chain.specs.declared.chain.Chain.{Chain}
use Rattle.em_chain.proofs.Keeps.{payload_kept}
use Rattle.em_tree_blocks.specs.Reading.{entries_at, tree_at}
use Rattle.em_tree_cost.specs.Outline.{count_of, leaves_of}
use Rattle.em_tree_outline.specs.Outline.{outline_of}
use Rattle.em_tree_walk.specs.Paid.{RunsPaid}
use Rattle.em_tree_walk.specs.declared.splitting.Root.{Root}
use Rattle.em_tree_walk.proofs.Losses.{chain_length}
use Rattle.em_tree_walk.proofs.Regions.{tally, tally_append}
use Rattle.em_tree_load.proofs.Payments.{paid_part, paid_same, paid_stops, stops_paid_more}
use Rattle.em_tree_raise.specs.Raising.{CanRaise, IsListing, IsRaisedOver, RaisedOver, Raises, StopsRaising, node_blocks}
use Rattle.em_tree_trim.specs.Joins.{Joined}
use Rattle.em_tree_trim.specs.Leaves.{leaf_blocks}
use Rattle.em_tree_trim.specs.Listings.{ListedJoined, StopsJoined, blocks_of, join_moves, rows_of}
use Rattle.em_tree_trim.specs.Rows.{EachFrom, chains_of, excess_in, parts_at, records_in, rows_in}
use Rattle.em_tree_trim.specs.Trim.{IsTrim}
use Rattle.em_tree_trim.specs.Trimming.{CanTrim, IsTrimmed, JoinsLeaves, StopsTrimming, TrimmedTree, Trims, outline_at, tree_of, trim_moves, trim_room}
use Rattle.em_tree_trim.proofs.Climbs.{StandsTrim, raised_count, raised_tree}
use Rattle.em_tree_trim.proofs.JoinMoves.{moves_all}
use Rattle.em_tree_trim.proofs.LeafForests.{leaves_forest, leaves_fresh, leaves_length, lows_rise, tree_least}
use Rattle.em_tree_trim.proofs.LeavesStay.{LeavesStay, leaves_stay}
use Rattle.em_tree_trim.proofs.RowLists.{excess_rows, leaves_from, leaves_rows, parts_length, rows_length, stored_rows}

-- a shape's fan-out
fan_some : (shape : ShapeNumbers) → IsShape shape → 1 ≤ fan_of shape
fan_some shape i = let frames = i.frames_low in omega (arith, frames)

-- A tree over leaves of which each has n records or more, or over one, is trim.
trim_by : {key : Record → Record} {t : RigState} {level k : ℕ} {rows : List (List Record)} {ks : List ℕ}
    → StandsTrim key t level k rows ks → 0 < length (entries_at t k)
    → (level ≡ 1) ⊎ (1 < length (entries_at t k)) → length (entries_at t k) ≤ length rows
    → (length rows ≡ 1) ⊎ EachFrom (load_of t.pool.shape) rows
    → IsTrim t.pool.shape level (outline_of (tree_at level t k))
trim_by {key} {t} {level} {k} {rows} {ks} x some several few least =
    let n = x.count in
    let o = outline_of (tree_at level t k) in
    ⊎_elim
    (λ (one : length (entries_at t k) < 2).
    let e : count_of o ≡ 1 = omega (arith, n, one, some) in
    ⊎_elim (λ (l : level ≡ 1). let r : IsTrim t.pool.shape level o = inl (l, e) in r)
    (λ (two : 1 < length (entries_at t k)). absurd (omega (arith, one, two))) several)
    (λ (two : 2 ≤ length (entries_at t k)).
    let m : 1 < count_of o = omega (arith, n, two) in
    ⊎_elim (λ (one : length rows ≡ 1). absurd (omega (arith, one, two, few)))
    (λ (each : EachFrom (load_of t.pool.shape) rows).
    let E : List (List Record) → Type 0 = EachFrom (load_of t.pool.shape) in
    let r : IsTrim t.pool.shape level o =
    inr (m, leaves_from (load_of t.pool.shape) (tree_at level t k) (subst E (sym x.rows_are) each), x.fat) in r) least)
    (cases_lt (length (entries_at t k)) 2)

module _ {key : Record → Record} {s m : RigState} {root : Root} {list : Chain} (sound : Sound s)
    (can : CanTrim key s root) (x : ListedJoined key s m root list) where
  told_mid : IsTrue s.device.told → IsTrue m.device.told
  told_mid z = x.runs.session.touches.told ∙ z

  mid_back : IsTrue m.device.told → IsTrue s.device.told
  mid_back y = sym x.runs.session.touches.told ∙ y

  some_entry : IsTrue s.device.told → 0 < length x.entries
  some_entry z =
      let a = (x.joined z).some in
      let b = parts_length m x.entries in
      omega (arith, a, b)

  list_is : IsTrue s.device.told → IsListing m list x.entries
  list_is z = record {
    some = some_entry z;
    items = x.items z;
    fresh = leaves_fresh m x.entries (x.leaves z);
    rises = lows_rise key m x.entries (x.joined z).ranges;
  }

  -- Nodes can be built over the list.
  pub list_can : CanRaise m list
  list_can = record {
    chain = x.chain;
    told = λ y. record { entries = x.entries; is = list_is (mid_back y) };
  }

  -- the leaves of the tree, and how many of them are left
  leaves_same : leaves_of (outline_at s root) ≡ length (rows_of s root)
  leaves_same = leaves_rows (tree_of s root)

  fewer_leaves : IsTrue s.device.told → length x.entries ≤ length (rows_of s root)
  fewer_leaves z =
      let a = (x.joined z).fewer in
      let b = parts_length m x.entries in
      omega (arith, a, b)

  -- the blocks in use before nodes are built
  few_used : IsTrue s.device.told → m.used ≤ s.used + 2 * length x.entries
  few_used z =
      let y = told_mid z in
      let p = payload_in s in
      let o = x.runs.loses z in
      let n1 = length-append (chain_blocks m list) (leaf_blocks m x.entries) in
      let n2 = chain_length x.chain y in
      let n3 = leaves_length m x.entries y (x.leaves z) in
      let e = ap (λ (q : ℕ). chains_of q (rows_in (parts_at m x.entries)))
      (payload_kept (blocks_of s root) s m x.runs.session.touches) in
      let j = (x.joined z).blocks in
      let least = tree_least root.level s z root.block (can.can.leads.told z).is in
      let few = x.blocks in
      omega (arith, o, n1, n2, n3, e, j, least, few)

  most_used : IsTrue s.device.told → m.used + list.count ≤ s.used + trim_room (leaves_of (outline_at s root))
  most_used z =
      let a = few_used z in
      let b = x.count in
      let c = fewer_leaves z in
      let d = leaves_same in
      omega (arith, a, b, c, d)

  few_moves : IsTrue s.device.told
      → join_moves (wide_of s.pool.shape) root.level (length (rows_of s root)) + 1 + (3 * list.count + 2)
      ≤ trim_moves (wide_of s.pool.shape) root.level (leaves_of (outline_at s root))
  few_moves z =
      let a = moves_all (wide_of s.pool.shape) root.level (length (rows_of s root)) (length x.entries) (fewer_leaves z) in
      let b = x.count in
      let d = ap (λ (n : ℕ). trim_moves (wide_of s.pool.shape) root.level n) leaves_same in
      omega (arith, a, b, d)

  -- They were built.
  module _ {t : RigState} {new : Root} (r : RaisedOver m t list new) where
    told_end : IsTrue s.device.told → IsTrue t.device.told
    told_end z = r.session.touches.told ∙ told_mid z

    leaves_apart : IsTrue s.device.told → Apart (leaf_blocks m x.entries) (chain_blocks m list)
    leaves_apart z = apart_sym (chain_blocks m list) (leaf_blocks m x.entries)
        (distinct_apart (chain_blocks m list) (leaf_blocks m x.entries)
        ((x.runs.session.holds z).distinct (told_mid z)))

    stay_end : IsTrue s.device.told → LeavesStay m t x.entries
    stay_end z = leaves_stay x.entries r.session.touches (told_mid z) (leaves_apart z) (x.leaves z)

    joined_end : IsTrue s.device.told
        → Joined key (load_of s.pool.shape) (payload_in s) (rows_of s root) (parts_at t x.entries)
    joined_end z =
        let Q : List (Record × List Record) → Type 0 =
        λ ps. Joined key (load_of s.pool.shape) (payload_in s) (rows_of s root) ps in
        subst Q (sym (stay_end z).parts) (x.joined z)

    raised : IsTrue s.device.told → IsRaisedOver t x.entries new
    raised z = r.told (told_mid z) x.entries (list_is z)

    shape_end : t.pool.shape ≡ s.pool.shape
    shape_end = r.session.touches.shape ∙ x.runs.session.touches.shape

    stands_end : IsTrue s.device.told → StandsTrim key t new.level new.block (rows_in (parts_at t x.entries))
        (node_blocks t new ++ leaf_blocks t x.entries)
    stands_end z =
        let fan = fan_some t.pool.shape r.session.sound.shape in
        let j = joined_end z in
        raised_tree key t fan new x.entries (rows_in (parts_at t x.entries)) (leaf_blocks t x.entries) r.level_some
        (raised z)
        (leaves_forest key t x.entries fan (some_entry z) (stay_end z).leads j.ranges j.first)

    trim_runs : RunsPaid (blocks_of s root) (blocks_of t new) 0 0 s t
    trim_runs =
        let nodes : RunsPaid (chain_blocks m list) (node_blocks t new) 0 0 m t =
        record { session = r.session; frames = r.frames; pays = r.pays; loses = r.loses } in
        let both = paid_part (chain_blocks m list) (node_blocks t new) (leaf_blocks m x.entries) 0 refl x.runs
        (λ z i. refl) nodes in
        paid_same (blocks_of t new) both
        (λ z i.
        let a = tally_append i (node_blocks t new) (leaf_blocks m x.entries) in
        let b = tally_append i (node_blocks t new) (leaf_blocks t x.entries) in
        let c = ap (tally i) (stay_end z).blocks in
        let d = (stands_end z).blocks i in
        omega (arith, a, b, c, d))

    rows_end : IsTrue s.device.told → rows_of t new ≡ rows_in (parts_at t x.entries)
    rows_end z = (stands_end z).rows_are

    trim_joins : IsTrue s.device.told
        → JoinsLeaves (wide_of s.pool.shape) s.pool.shape.block (outline_at s root) (outline_at t new)
    trim_joins z =
        let w = wide_of s.pool.shape in
        let b = s.pool.shape.block in
        let j = joined_end z in
        let rows = rows_in (parts_at t x.entries) in
        let old = leaves_rows (tree_of s root) in
        let now = leaves_rows (tree_of t new) in
        let n = ap length (rows_end z) in
        let l = rows_length (parts_at t x.entries) in
        let some = j.some in
        let few = j.fewer in
        let same : leaves_of (outline_at t new) ≡ length (parts_at t x.entries) = omega (arith, now, n, l) in
        let half : 2 * (w * b) ≡ 2 * w * b = grind arith in
        let e1 = excess_rows (2 * w * b) (tree_of s root) in
        let e2 = excess_rows (2 * w * b) (tree_of t new) in
        let e3 = ap (excess_in (2 * w * b)) (rows_end z) in
        let e4 = ap (λ (h : ℕ). excess_in h rows) half in
        let e5 = ap (λ (h : ℕ). excess_in h (rows_of s root)) half in
        let e6 : w * b * (length (rows_of s root) - length (parts_at t x.entries))
        ≡ w * b * (leaves_of (outline_at s root) - leaves_of (outline_at t new)) =
        ap (λ (d : ℕ). w * b * d)
        (let f : length (rows_of s root) - length (parts_at t x.entries)
        ≡ leaves_of (outline_at s root) - leaves_of (outline_at t new) = omega (arith, old, same) in f) in
        let more = j.excess in
        record {
          some = omega (arith, same, some);
          fewer = omega (arith, same, old, few);
          excess = omega (arith, e1, e2, e3, e4, e5, e6, more);
        }

    trim_told : IsTrue s.device.told → IsTrimmed key s t root new
    trim_told z =
        let v = stands_end z in
        let y = raised z in
        let j = joined_end z in
        let n = v.count in
        let few = y.few in
        let E : ShapeNumbers → Type 0 =
        λ p. (length (rows_in (parts_at t x.entries)) ≡ 1) ⊎ EachFrom (load_of p) (rows_in (parts_at t x.entries)) in
        let l = rows_length (parts_at t x.entries) in
        let pl = parts_length t x.entries in
        let below = raised_count key t (fan_some t.pool.shape r.session.sound.shape) new x.entries y in
        let least : (length (rows_in (parts_at t x.entries)) ≡ 1)
        ⊎ EachFrom (load_of s.pool.shape) (rows_in (parts_at t x.entries)) =
        ⊎_elim (λ (one : length (parts_at t x.entries) ≡ 1). inl (l ∙ one))
        (λ (each : EachFrom (load_of s.pool.shape) (rows_in (parts_at t x.entries))). inr each) j.least in
        record {
          can = record { formed = v.formed; none = v.none; holds = trim_runs.session.holds z };
          stored = stored_rows (tree_of t new)
              ∙ (ap records_in (rows_end z) ∙ (j.records ∙ sym (stored_rows (tree_of s root))));
          is = v.is;
          lows = v.lows;
          trim = trim_by v y.some y.several (omega (arith, below, l, pl)) (subst E (sym shape_end) least);
          few = omega (arith, n, few);
          nodes = v.under;
          joins = trim_joins z;
        }

    trimmed : TrimmedTree key s t root new
    trimmed = record {
      session = trim_runs.session;
      frames = trim_runs.frames;
      pays = trim_runs.pays;
      loses = trim_runs.loses;
      leads = record { in_use = r.in_use; told = λ y. (stands_end (mid_back (sym r.session.touches.told ∙ y))).stands };
      level_some = r.level_some;
      level_most = r.level_most;
      told = trim_told;
      moves = λ z.
          let a = x.moves z in
          let b = r.moves (told_mid z) in
          let c = few_moves z in
          omega (arith, a, b, c);
      most = λ z.
          let a = (x.peaks z).most in
          let b = r.most (told_mid z) in
          let c = most_used z in
          let d = leaves_same in
          omega (arith, a, b, c, d);
    }

  -- They couldn't be.
  unraised : {t : RigState} {e : EmFault} → StopsRaising m t list e → StopsTrimming s t root e
  unraised {t} {e} r =
      let y = paid_stops (chain_blocks m list) (leaf_blocks m x.entries) 0 refl x.runs (λ z i. refl)
      (record { goes = r.goes; pays = r.pays; cause = r.cause }) in
      let o = stops_paid_more (blocks_of s root) 4 (omega arith) y (λ z i. refl) in
      let blocks = x.runs.session.touches.blocks in
      record {
        goes = o.goes;
        pays = o.pays;
        cause = o.cause;
        moves = λ z.
            let a = x.moves z in
            let b = r.moves (told_mid z) in
            let c = few_moves z in
            omega (arith, a, b, c);
        most = λ z.
            let a = (x.peaks z).most in
            let b = r.most (told_mid z) in
            let c = most_used z in
            let d = leaves_same in
            omega (arith, a, b, c, d);
        full = λ z.
            let c = most_used z in
            full_by e (m.blocks < m.used + list.count)
            (s.blocks < s.used + trim_room (leaves_of (outline_at s root))) (λ h. omega (arith, h, c, blocks))
            (r.full (told_mid z));
      }

  pub trims : (t : RigState) (result : Result Root EmFault) → Raises m t list result → Trims key s t root result
  trims t (Ok new) r = trimmed r
  trims t (Err e) r = unraised r

-- The leaves couldn't be listed.
unlisted : {s t : RigState} {root : Root} {e : EmFault} → StopsJoined s t root e → StopsTrimming s t root e
unlisted {s} {t} {root} {e} x =
    let o = stops_paid_more (blocks_of s root) 4 (omega arith) x.stops (λ z i. refl) in
    let same = leaves_rows (tree_of s root) in
    let n = length (rows_of s root) in
    let few = moves_all (wide_of s.pool.shape) root.level n 0 (omega arith) in
    let d = ap (λ (k : ℕ). trim_moves (wide_of s.pool.shape) root.level k) same in
    record {
      goes = o.goes;
      pays = o.pays;
      cause = o.cause;
      moves = λ z. let a = x.moves z in omega (arith, a, few, d);
      most = λ z. let a = (x.peaks z).most in omega (arith, a, same);
      full = λ z. full_by e (s.blocks < s.used + (3 * n + 3))
          (s.blocks < s.used + trim_room (leaves_of (outline_at s root))) (λ h. omega (arith, h, same)) (x.full z);
    }

pub untrims : (key : Record → Record) (s t : RigState) (root : Root) (result : Result Root EmFault) (e : EmFault)
    → IsErrAnd result (λ m. m ≡ e) → StopsJoined s t root e → Trims key s t root result
untrims key s t root (Ok new) e h x = absurd h
untrims key s t root (Err m) e h x = subst (λ (f : EmFault). StopsTrimming s t root f) (sym h) (unlisted x)
