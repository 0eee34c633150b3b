-- The nodes of a tree, built over the leaves of a builder.
use Rattle.std.proofs.Common.{◌≡◌, ◌⊎◌, ℕ, ◌+◌, ◌<◌, ◌≤◌, List, [], ◌++◌, length, sym, ap, ◌∙◌, subst, arith, inl, inr, ⊎_elim, IsTrue, Result, Ok, Err}
use Rattle.std.proofs.lemmas.Bool.{cases_lt}
use Rattle.em_record.specs.Shape.{ShapeNumbers, IsShape, fan_of}
use Rattle.em_record.specs.declared.record.Record.{Record}
use Rattle.em_frames.specs.Pool.{GivenFrames, PoolCounts, SameFrames, load_of}
use Rattle.em_settle.specs.Map.{map_key_of}
use Rattle.em_space.specs.Held.{Apart}
use Rattle.em_space.specs.Ledger.{Session}
use Rattle.em_space.specs.Rig.{RigState, Touches}
use Rattle.em_space.specs.declared.fault.EmFault.{EmFault}
use Rattle.em_space.proofs.Apart.{off_left}
use Rattle.em_space.proofs.Ledgers.{full_by}
use Rattle.em_space.proofs.Lists.{apart_sym, distinct_apart}
use Rattle.em_space.proofs.Paying.{pays_more, pays_then}
use Rattle.em_space.proofs.Sessions.{session_then}
use Rattle.em_space.proofs.Steps.{cause_after}
use Rattle.em_space.proofs.Within.{touches_within}
use Rattle.em_chain.specs.Chain.{chain_blocks}
use Rattle.em_chain.specs.declared.chain.Chain.{Chain}
use Rattle.em_tree_blocks.specs.Reading.{entries_at, tree_at, tree_blocks}
use Rattle.em_tree_cost.specs.Outline.{count_of}
use Rattle.em_tree_outline.specs.Outline.{outline_of}
use Rattle.em_tree_walk.specs.Paid.{LosesNone}
use Rattle.em_tree_walk.specs.declared.splitting.Root.{Root}
use Rattle.em_tree_walk.proofs.Losses.{loses_beside, loses_same, loses_then}
use Rattle.em_tree_walk.proofs.Regions.{SameTally, session_same, tally, tally_append}
use Rattle.em_tree_raise.specs.Raising.{CanRaise, IsListing, IsRaisedOver, RaisedOver, Raises, StopsRaising, node_blocks}
use Rattle.em_tree_trim.specs.Leaves.{leaf_blocks}
use Rattle.em_tree_trim.specs.Rows.{EachFrom, parts_at, records_in, rows_in}
use Rattle.em_tree_trim.specs.Trim.{IsTrim}
use Rattle.em_tree_trim.specs.Trimming.{tree_of}
use Rattle.em_tree_trim.proofs.Climbs.{StandsTrim, raised_count, raised_tree}
use Rattle.em_tree_trim.proofs.LeafForests.{leaves_forest, leaves_fresh, lows_rise}
use Rattle.em_tree_trim.proofs.LeavesStay.{LeavesStay, leaves_stay}
use Rattle.em_tree_trim.proofs.RowLists.{leaves_from, parts_length, rows_length, stored_rows}
use Rattle.em_bulk.specs.Building.{BuildsTree, BuiltTree, GivenList, IsBuiltOf, StopsBuilding, builder_blocks, finish_room, pairs_in}
use Rattle.em_bulk.specs.Pairs.{AreLeaves}
use Rattle.em_bulk.specs.declared.builder.Builder.{Builder}

-- a shape's fan-out
fan_some : (shape : ShapeNumbers) → IsShape shape → 1 ≤ fan_of shape
fan_some shape i = let frames = i.frames_low in omega (arith, frames)

-- A tree over leaves of which each has n records or more, or over one, is trim.
trim_by : {key : Record → Record} {t : RigState} {level k : ℕ} {rows : List (List Record)} {ks : List ℕ}
    → StandsTrim key t level k rows ks → 0 < length (entries_at t k)
    → (level ≡ 1) ⊎ (1 < length (entries_at t k)) → length (entries_at t k) ≤ length rows
    → (length rows ≡ 1) ⊎ EachFrom (load_of t.pool.shape) rows
    → IsTrim t.pool.shape level (outline_of (tree_at level t k))
trim_by {key} {t} {level} {k} {rows} {ks} x some several few least =
    let n = x.count in
    let o = outline_of (tree_at level t k) in
    ⊎_elim
    (λ (one : length (entries_at t k) < 2).
    let e : count_of o ≡ 1 = omega (arith, n, one, some) in
    ⊎_elim (λ (l : level ≡ 1). let r : IsTrim t.pool.shape level o = inl (l, e) in r)
    (λ (two : 1 < length (entries_at t k)). absurd (omega (arith, one, two))) several)
    (λ (two : 2 ≤ length (entries_at t k)).
    let m : 1 < count_of o = omega (arith, n, two) in
    ⊎_elim (λ (one : length rows ≡ 1). absurd (omega (arith, one, two, few)))
    (λ (each : EachFrom (load_of t.pool.shape) rows).
    let E : List (List Record) → Type 0 = EachFrom (load_of t.pool.shape) in
    let r : IsTrim t.pool.shape level o =
    inr (m, leaves_from (load_of t.pool.shape) (tree_at level t k) (subst E (sym x.rows_are) each), x.fat) in r) least)
    (cases_lt (length (entries_at t k)) 2)

-- frames that were given, over calls that leave as many free
pub given_same : {n : ℕ} {p q r : PoolCounts} → GivenFrames n p q → SameFrames q r → GivenFrames n p r
given_same x y =
    let a = x.peak in
    let b = y.peak in
    record {
      shape = y.shape ∙ x.shape;
      free = y.free ∙ x.free;
      rack = y.rack ∙ x.rack;
      free_areas = y.free_areas ∙ x.free_areas;
      peak = omega (arith, a, b);
    }

-- A call on the first of the blocks that are held.
touches_part : {held : List ℕ} {s m t : RigState} (ks rest : List ℕ) → Session held s m (ks ++ rest) → Touches ks m t
    → Touches held s t
touches_part {held} {s} {m} {t} ks rest x h = touches_within s m t held ks x.touches
    (record { off = λ z j i o. off_left j ks rest (x.within.off z j i o) }) h

module _ {s m : RigState} {b : Builder} {list : Chain} (x : GivenList s m b list) where
  told_mid : IsTrue s.device.told → IsTrue m.device.told
  told_mid z = x.lists.session.touches.told ∙ z

  mid_back : IsTrue m.device.told → IsTrue s.device.told
  mid_back y = sym x.lists.session.touches.told ∙ y

  list_is : IsTrue s.device.told → IsListing m list x.lists.entries
  list_is z =
      let a = (x.lists.are z).some in
      let p = parts_length m x.lists.entries in
      record {
        some = omega (arith, a, p);
        items = x.lists.items z;
        fresh = leaves_fresh m x.lists.entries (x.lists.leaves z);
        rises = lows_rise map_key_of m x.lists.entries (x.lists.are z).ranges;
      }

  -- Nodes can be built over the list.
  pub list_can : CanRaise m list
  list_can = record {
    chain = x.lists.chain;
    told = λ y. record { entries = x.lists.entries; is = list_is (mid_back y) };
  }

  -- They were built.
  module _ {t : RigState} {new : Root} (r : RaisedOver m t list new) where
    leaves_apart : IsTrue s.device.told → Apart (leaf_blocks m x.lists.entries) (chain_blocks m list)
    leaves_apart z = apart_sym (chain_blocks m list) (leaf_blocks m x.lists.entries)
        (distinct_apart (chain_blocks m list) (leaf_blocks m x.lists.entries)
        ((x.lists.session.holds z).distinct (told_mid z)))

    stay_end : IsTrue s.device.told → LeavesStay m t x.lists.entries
    stay_end z = leaves_stay x.lists.entries r.session.touches (told_mid z) (leaves_apart z) (x.lists.leaves z)

    are_end : IsTrue s.device.told → AreLeaves (load_of s.pool.shape) (parts_at t x.lists.entries) (pairs_in s b)
    are_end z =
        let Q : List (Record × List Record) → Type 0 = λ ps. AreLeaves (load_of s.pool.shape) ps (pairs_in s b) in
        subst Q (sym (stay_end z).parts) (x.lists.are z)

    raised : IsTrue s.device.told → IsRaisedOver t x.lists.entries new
    raised z = r.told (told_mid z) x.lists.entries (list_is z)

    shape_end : t.pool.shape ≡ s.pool.shape
    shape_end = r.session.touches.shape ∙ x.lists.session.touches.shape

    stands_end : IsTrue s.device.told → StandsTrim map_key_of t new.level new.block
        (rows_in (parts_at t x.lists.entries)) (node_blocks t new ++ leaf_blocks t x.lists.entries)
    stands_end z =
        let fan = fan_some t.pool.shape r.session.sound.shape in
        let j = are_end z in
        let some = (list_is z).some in
        raised_tree map_key_of t fan new x.lists.entries (rows_in (parts_at t x.lists.entries))
        (leaf_blocks t x.lists.entries) r.level_some (raised z)
        (leaves_forest map_key_of t x.lists.entries fan some (stay_end z).leads j.ranges j.first)

    same_end : IsTrue s.device.told
        → SameTally (node_blocks t new ++ leaf_blocks m x.lists.entries) (tree_blocks new.level t new.block)
    same_end z j =
        let a = tally_append j (node_blocks t new) (leaf_blocks m x.lists.entries) in
        let c = tally_append j (node_blocks t new) (leaf_blocks t x.lists.entries) in
        let e = ap (tally j) (stay_end z).blocks in
        let d = (stands_end z).blocks j in
        omega (arith, a, c, e, d)

    session_end : Session (builder_blocks s b) s t (tree_blocks new.level t new.block)
    session_end = session_same (tree_blocks new.level t new.block)
        (session_then (chain_blocks m list) (node_blocks t new) (leaf_blocks m x.lists.entries) x.lists.session r.session)
        same_end

    loses_end : LosesNone (builder_blocks s b) (tree_blocks new.level t new.block) s t
    loses_end = loses_same (builder_blocks s b) (node_blocks t new ++ leaf_blocks m x.lists.entries)
        (tree_blocks new.level t new.block) s t
        (loses_then (builder_blocks s b) (chain_blocks m list ++ leaf_blocks m x.lists.entries)
        (node_blocks t new ++ leaf_blocks m x.lists.entries) s m t x.lists.session.touches.told x.lists.loses
        (loses_beside [] (chain_blocks m list) (node_blocks t new) (leaf_blocks m x.lists.entries) m t r.loses)) same_end

    built_of : IsTrue s.device.told → IsBuiltOf t new (pairs_in s b)
    built_of z =
        let v = stands_end z in
        let y = raised z in
        let j = are_end z in
        let n = v.count in
        let few = y.few in
        let ps = parts_at t x.lists.entries in
        let E : ShapeNumbers → Type 0 = λ p. (length (rows_in ps) ≡ 1) ⊎ EachFrom (load_of p) (rows_in ps) in
        let l = rows_length ps in
        let pl = parts_length t x.lists.entries in
        let below = raised_count map_key_of t (fan_some t.pool.shape r.session.sound.shape) new x.lists.entries y in
        let least : (length (rows_in ps) ≡ 1) ⊎ EachFrom (load_of s.pool.shape) (rows_in ps) =
        ⊎_elim (λ (one : length ps ≡ 1). inl (l ∙ one))
        (λ (each : EachFrom (load_of s.pool.shape) (rows_in ps)). inr each) j.least in
        record {
          can = record { formed = v.formed; none = v.none; holds = session_end.holds z };
          stored = stored_rows (tree_of t new) ∙ (ap records_in v.rows_are ∙ j.records);
          is = v.is;
          lows = v.lows;
          trim = trim_by v y.some y.several (omega (arith, below, l, pl)) (subst E (sym shape_end) least);
          few = omega (arith, n, few);
          nodes = v.under;
        }

    built_tree : BuiltTree s t b new
    built_tree =
        let few = x.lists.few in
        let moves = x.lists.moves in
        let used = x.lists.peaks.used in
        let most = x.lists.peaks.most in
        record {
          session = session_end;
          frames = given_same x.frames r.frames;
          pays = pays_then x.lists.pays r.pays r.session.touches.moves;
          loses = loses_end;
          leads = record {
            in_use = r.in_use;
            told = λ y. (stands_end (mid_back (sym r.session.touches.told ∙ y))).stands;
          };
          level_some = r.level_some;
          level_most = r.level_most;
          told = built_of;
          moves = λ z. let n = r.moves (told_mid z) in omega (arith, n, moves);
          most = λ z. let n = r.most (told_mid z) in omega (arith, n, most, used, few);
        }

  -- They couldn't be.
  unraised : {t : RigState} {e : EmFault} → StopsRaising m t list e → StopsBuilding s t b e
  unraised {t} {e} r =
      let few = x.lists.few in
      let moves = x.lists.moves in
      let used = x.lists.peaks.used in
      let most = x.lists.peaks.most in
      let blocks = x.lists.session.touches.blocks in
      record {
        sound = r.goes.sound;
        touches = touches_part (chain_blocks m list) (leaf_blocks m x.lists.entries) x.lists.session r.goes.touches;
        frames = given_same x.frames r.goes.frames;
        pays = pays_more (pays_then x.lists.pays r.pays r.goes.touches.moves) (omega arith);
        cause = cause_after (builder_blocks s b) s m t e x.lists.session.touches r.cause;
        moves = λ z. let n = r.moves (told_mid z) in omega (arith, n, moves);
        most = λ z. let n = r.most (told_mid z) in omega (arith, n, most, used, few);
        full = λ z. full_by e (m.blocks < m.used + list.count) (s.blocks < s.used + finish_room b)
            (λ h. omega (arith, h, used, few, blocks)) (r.full (told_mid z));
      }

  pub builds : (t : RigState) (result : Result Root EmFault) → Raises m t list result → BuildsTree s t b result
  builds t (Ok new) r = built_tree r
  builds t (Err e) r = unraised r
