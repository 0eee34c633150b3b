-- A full entry over a node was emptied, and the full buffers below it after that.
use Rattle.std.proofs.Common.{◌≡◌, false, Bool, ℕ, suc, ◌+◌, ◌-◌, ◌<◌, ◌≤◌, List, [], ◌∷◌, sym, ap, ◌∙◌, subst, arith, IsTrue}
use Rattle.std.specs.Prelude.{Option, Some, None}
use Rattle.em_record.specs.Order.{is_below}
use Rattle.em_record.specs.declared.record.Record.{Record}
use Rattle.em_space.specs.Rig.{RigState}
use Rattle.em_chain.specs.Chain.{chain_items}
use Rattle.em_tree_model.specs.Places.{Place, put_at}
use Rattle.em_tree_model.specs.Pouring.{pour}
use Rattle.em_tree_model.specs.Ranges.{IsTree, least_record, next_low}
use Rattle.em_tree_model.specs.Tree.{Tree}
use Rattle.em_tree_model.specs.Tree.Tree.{entry}
use Rattle.em_tree_model.proofs.Events.{placed}
use Rattle.em_tree_blocks.specs.Effects.{entry_at_place, entry_on, row_from}
use Rattle.em_tree_blocks.specs.Node.{buffer_of, linked_block}
use Rattle.em_tree_blocks.specs.Paths.{node_on}
use Rattle.em_tree_blocks.specs.Reading.{tree_at}
use Rattle.em_tree_blocks.proofs.Whole.{entry_reads}
use Rattle.em_tree_walk.specs.Ways.{range_end}
use Rattle.em_tree_walk.specs.declared.searching.Range.{Range}
use Rattle.em_trunk.specs.Buffers.{AllOver, ClearOver, Due, IsDue, OnlyFull, OrDue}
use Rattle.em_tree_buffers.specs.Emptying.{CanClear, LowersEntry}
use Rattle.em_trunk.specs.Entries.{EachEntry, place_level}
use Rattle.em_tree_buffers.specs.Findings.{FoundSpot}
use Rattle.em_tree_buffers.specs.Loops.{ClearsUpTo}
use Rattle.em_trunk.specs.Starts.{starts_of}
use Rattle.em_trunk.specs.Trunk.{IsStanding, root_of}
use Rattle.em_trunk.specs.declared.trunk.Trunk.{Trunk}
use Rattle.em_trunk.proofs.Buffers.{full_emptied_at}
use Rattle.em_trunk.proofs.Clear.{clear_emptied}
use Rattle.em_tree_buffers.proofs.ClearSteps.{grows_then}
use Rattle.em_tree_buffers.proofs.Found.{due_over_at, found_due, found_full, keys_of, later_due}
use Rattle.em_tree_buffers.proofs.Sits.{clear_below, clear_spot, lowered_sits, sides_spot}
use Rattle.em_trunk.proofs.Spots.{placed_high, placed_low, spot_end, spot_level, spot_start, start_at}
use Rattle.em_trunk.proofs.Starts.{starts_lowered}
use Rattle.em_trunk.specs.Spots.{EachRead, HasSpot, IsSpot, spot_high, spot_low}

-- an entry over a node was emptied into it, at a place of a tree
pub record Lowers (key : Record → Record) (n : ℕ) (low : Record) (high : Option Record) (level : ℕ)
    (t u : Tree) : Type 0 where
  pub place : Place
  pub first : Record
  pub ops : List Record
  pub child : Tree
  pub rest : Tree
  pub old : t ≡ put_at place (entry first ops child rest)
  pub new : u ≡ put_at place (entry first [] (pour key child ops) rest)
  pub start : start_at least_record place (entry first ops child rest) ≡ low
  pub stop : next_low (range_end None place) rest ≡ high
  pub level_is : place_level place level ≡ n

-- the entry of a spot
pub spot_lowers : (key : Record → Record) {l node at : ℕ} {s t : RigState} {v w : Trunk}
    (path : List ℕ) → IsSpot l node at s v path → LowersEntry key l at s t v w path
    → Lowers key (suc l) (spot_low at s v path) (spot_high at s v path) v.level (root_of s v)
    (root_of t w)
spot_lowers key {l = l} {at = at} {s = s} {v = v} path sp h =
    let e = entry_on v.level s v.root path at in
    let b = chain_items s (buffer_of e) in
    let c = tree_at l s (linked_block e.child) in
    let r = row_from l s (node_on path v.level s v.root) (suc at) in
    record {
      place = entry_at_place v.level s v.root path l at;
      first = e.low;
      ops = b;
      child = c;
      rest = r;
      old = entry_reads v.level s v.root path l at sp.on;
      new = h.new;
      start = spot_start v.level s v.root path l at least_record b c r sp.on;
      stop = spot_end v.level s v.root path l at None;
      level_is = spot_level v.level s v.root path l at sp.on;
    }

module _ (key : Record → Record) {n : ℕ} {low : Record} {high : Option Record} {level : ℕ}
    {t u : Tree} (h : Lowers key n low high level t u) (i : IsTree key t least_record None) where
  pub old_tree : IsTree key (put_at h.place (entry h.first h.ops h.child h.rest)) least_record None
  old_tree = let T : Tree → Type 0 = λ x. IsTree key x least_record None in subst T h.old i

  -- Its child's buffers may be full then.
  pub full_lowered : (limit : ℕ) (Q : ℕ → Record → Type 0) (m : ℕ) → m + 1 ≡ n → 2 ≤ n → 0 < limit
      → EachEntry (OnlyFull limit Q) level least_record None t
      → EachEntry (OnlyFull limit (OrDue Q m low high)) level least_record None u
  full_lowered limit Q m down two some full =
      let X = entry h.first h.ops h.child h.rest in
      let x = placed key h.place X least_record None old_tree in
      let y = put_at h.place (entry h.first [] (pour key h.child h.ops) h.rest) in
      let O : Tree → Type 0 = EachEntry (OnlyFull limit Q) level least_record None in
      let N : Tree → Type 0 = EachEntry (OnlyFull limit (OrDue Q (n - 1) low high)) level least_record None in
      let L : ℕ → Type 0 = λ m. EachEntry (OnlyFull limit (OrDue Q (m - 1) x.low (next_low x.high h.rest)))
      level least_record None y in
      let K : Record → Type 0 = λ k. EachEntry (OnlyFull limit (OrDue Q (n - 1) k (next_low x.high h.rest)))
      level least_record None y in
      let H : Option Record → Type 0 = λ z. EachEntry (OnlyFull limit (OrDue Q (n - 1) low z)) level
      least_record None y in
      let e = h.level_is in
      let D : ℕ → Type 0 = λ z. EachEntry (OnlyFull limit (OrDue Q z low high)) level least_record None u in
      let same : n - 1 ≡ m = omega (arith, down) in
      let low_is : x.low ≡ low = placed_low key h.place X least_record None old_tree ∙ h.start in
      let high_is : next_low x.high h.rest ≡ high =
      ap (λ (z : Option Record). next_low z h.rest) (placed_high key h.place X least_record None old_tree)
      ∙ h.stop in
      subst D same (subst N (sym h.new) (subst H high_is (subst K low_is (subst L h.level_is
      (full_emptied_at key limit Q h.place h.first h.ops h.child h.rest level least_record None
      (omega (arith, e, two)) some old_tree tt (subst O h.old full))))))

  -- What is empty over its level stays so,
  pub clear_lowered : (above : ℕ) (from : Record) (until : Option Record) → n ≤ above
      → EachEntry (ClearOver above from until) level least_record None t
      → EachEntry (ClearOver above from until) level least_record None u
  clear_lowered above from until over clear =
      let C : Tree → Type 0 = EachEntry (ClearOver above from until) level least_record None in
      let e = h.level_is in
      subst C (sym h.new) (clear_emptied key above from until h.place h.first h.ops h.child h.rest level
      least_record None (omega (arith, e, over)) old_tree (subst C h.old clear))

  -- and nodes begin where they did.
  pub starts_stay : (test : Record → Bool) (l : ℕ)
      → starts_of test l level least_record u ≡ starts_of test l level least_record t
  starts_stay test l = ap (starts_of test l level least_record) h.new
      ∙ (starts_lowered test l key h.place h.first h.ops h.child h.rest level least_record
      ∙ sym (ap (starts_of test l level least_record) h.old))

pub some_is : {x y : Record} → Some x ≡ Some y → x ≡ y
some_is e = cc

-- fewer levels are below those that are due
over_less : (at m : ℕ) (ds : List Due) → m ≤ at → AllOver at ds → AllOver m ds
over_less at m [] h o = tt
over_less at m (d ∷ ds) h o = let a = o.0 in (omega (arith, h, a), over_less at m ds h o.1)

module _ (key : Record → Record) (IsOp IsKept : Record → Type 0) (limit m node at : ℕ)
    (from : Record) (until : Option Record) (inner : Range) (s t : RigState) (v w : Trunk)
    (some : 0 < limit) (st : IsStanding key IsOp IsKept s v) (after : IsStanding key IsOp IsKept t w)
    (spot : HasSpot (suc m) node at s v) (told : IsTrue s.device.told)
    (found : FoundSpot limit (suc m) at (keys_of from until) inner s v spot.path)
    (can : CanClear limit (due_over_at (suc m) from until) s v)
    (low_is : LowersEntry key (suc m) at s t v w spot.path) where
  here : Lowers key (suc (suc m)) (spot_low at s v spot.path) (spot_high at s v spot.path) v.level
      (root_of s v) (root_of t w)
  here = spot_lowers key spot.path (spot.told told) low_is

  -- the same read at the level that the root has now
  now : (P : ℕ → Record → Option Record → List Record → Type 0)
      → EachEntry P v.level least_record None (root_of t w) → EachRead P t w
  now P h =
      let E : ℕ → Type 0 = λ n. EachEntry P n least_record None (root_of t w) in
      subst E (sym low_is.level) h

  -- which may be full after that
  pub full_after : (others : List Due)
      → EachRead (OnlyFull limit (IsDue (due_over_at (suc m) (spot_low at s v spot.path) until ∷ others))) s v
      → EachRead (OnlyFull limit (IsDue (due_over_at m (spot_low at s v spot.path)
      (spot_high at s v spot.path) ∷ due_over_at (suc m) (spot_low at s v spot.path) until ∷ others))) t w
  full_after others h = now (OnlyFull limit (IsDue (due_over_at m (spot_low at s v spot.path)
      (spot_high at s v spot.path) ∷ due_over_at (suc m) (spot_low at s v spot.path) until ∷ others)))
      (full_lowered key here st.is.2 limit
      (IsDue (due_over_at (suc m) (spot_low at s v spot.path) until ∷ others)) (suc m) (omega arith)
      (omega arith) some h)

  pub clear_after : (above : ℕ) (a : Record) (z : Option Record) → suc (suc m) ≤ above
      → EachRead (ClearOver above a z) s v → EachRead (ClearOver above a z) t w
  clear_after above a z over h =
      now (ClearOver above a z) (clear_lowered key here st.is.2 above a z over h)

  -- The child's full buffers can be emptied.
  pub inner_can : CanClear limit (due_over_at m (spot_low at s v spot.path) (spot_high at s v spot.path)) t w
  inner_can =
      let sits = lowered_sits key spot.path (spot.told told) low_is in
      let d = due_over_at (suc m) (spot_low at s v spot.path) until in
      record {
        others = d ∷ can.others;
        over = (omega arith, over_less (suc (suc m)) (suc m) can.others (omega arith) can.over);
        full = full_after can.others (found_full key IsOp IsKept limit (suc m) node at from until inner s v
            spot.path st spot told found can);
        clear = clear_below key (suc m) sits after.is.2 (clear_spot key sits after.is.2 from until
            (omega arith) (found_due key IsOp IsKept limit (suc m) node at from until inner s v spot.path
            st spot told found can) (clear_after (suc (suc m)) from until (omega arith) can.clear));
        sides = λ one. sides_spot key sits after.is.2 limit 1 (omega (arith, one));
      }

  -- After them, this loop goes on at the entry.
  pub lowered_clears : {u : RigState} {x : Trunk}
      → ClearsUpTo limit (due_over_at m (spot_low at s v spot.path) (spot_high at s v spot.path)) None t u w x
      → ClearsUpTo limit (due_over_at (suc m) from until) (Some (spot_low at s v spot.path)) s u v x
  lowered_clears {u = u} {x = x} c = record {
    full = λ others over h. c.full (due_over_at (suc m) (spot_low at s v spot.path) until ∷ others)
        (omega arith, over_less (suc (suc m)) (suc m) others (omega arith) over)
        (full_after others (later_due key IsOp IsKept limit (suc m) node at from until inner s v spot.path st
        (spot_low at s v spot.path) others found.thin h));
    clear = λ above a z over h. c.clear above a z (omega (arith, over)) (clear_after above a z over h);
    sides = λ one h. absurd (omega (arith, one));
    later = λ k e.
        let L : Record → Type 0 = λ z. is_below z from ≡ false in
        subst L (some_is e) (found_due key IsOp IsKept limit (suc m) node at from until inner s v spot.path st
        spot told found can).low;
    grows = grows_then (record {
      leaves = let e = low_is.leaves in omega (arith, e);
      starts = λ test n off two.
          let N : ℕ → Type 0 = λ z. starts_of test n z least_record (root_of t w)
          ≡ starts_of test n v.level least_record (root_of s v) in
          let e = low_is.leaves in
          let f = subst N (sym low_is.level) (starts_stay key here st.is.2 test n) in
          omega (arith, e, f);
    }) c.grows;
  }
