-- The buffers of a level are empty up to a key: after one more was emptied.
use Rattle.std.proofs.Common.{◌≡◌, true, false, ℕ, suc, ◌<◌, ◌≤◌, List, [], ◌∷◌, refl, sym, ◌∙◌, subst, arith, inr, ⊎_elim, IsTrue}
use Rattle.std.specs.Prelude.{Option, Some, None}
use Rattle.std.proofs.lemmas.Bool.{cases_Bool, false≢true}
use Rattle.em_record.specs.Order.{is_below}
use Rattle.em_record.specs.declared.record.Record.{Record}
use Rattle.em_space.specs.Rig.{RigState}
use Rattle.em_tree_model.specs.Ranges.{InRange, IsTree, least_record, next_low}
use Rattle.em_tree_model.specs.Tree.{Tree}
use Rattle.em_tree_model.specs.Tree.Tree.{entry}
use Rattle.em_tree_model.specs.Places.{put_at}
use Rattle.em_tree_model.proofs.Events.{placed}
use Rattle.em_tree_blocks.proofs.Entries.{tree_level}
use Rattle.em_tree_walk.specs.declared.searching.Range.{Range}
use Rattle.em_trunk.specs.Buffers.{Due, IsDue, OnlyFull, OrDue}
use Rattle.em_tree_buffers.specs.Emptying.{LoadsEntry, LowersEntry}
use Rattle.em_trunk.specs.Entries.{EachEntry}
use Rattle.em_tree_buffers.specs.Findings.{FoundSpot}
use Rattle.em_tree.specs.Levels.{EmptyUpTo, FullBefore, WaitsFrom}
use Rattle.em_tree_buffers.specs.Loops.{Grows}
use Rattle.em_trunk.specs.Starts.{starts_of}
use Rattle.em_trunk.specs.Trunk.{IsStanding, root_of}
use Rattle.em_trunk.specs.declared.trunk.Trunk.{Trunk}
use Rattle.em_trunk.proofs.Clear.{ClearAt, clear_own}
use Rattle.em_tree_buffers.proofs.DrainedTrees.{each_node}
use Rattle.em_tree.proofs.EmptyLevels.{not_below, some_waits, spot_late, spot_later, spot_waits, under_from}
use Rattle.em_trunk.proofs.Entries.{each_both, each_map}
use Rattle.em_trunk.proofs.Faces.{under_less}
use Rattle.em_tree_buffers.proofs.FoundLowered.{Lowers, full_lowered, spot_lowers, starts_stay}
use Rattle.em_tree_buffers.proofs.Sits.{Sits, lowered_sits, sits_high, sits_is, sits_low, sits_own, spot_sits}
use Rattle.em_trunk.proofs.StartCounts.{each_own}
use Rattle.em_trunk.specs.Spots.{EachRead, HasSpot, spot_high, spot_low}

-- An entry with nothing in its buffer is the only one of its level with a key of its own.
sits_clear : (key : Record → Record) (n : ℕ) {low : Record} {high : Option Record} {level : ℕ} {t : Tree}
    → 1 ≤ n → (h : Sits n low high [] level t) → IsTree key t least_record None
    → EachEntry (ClearAt n low high) level least_record None t
sits_clear key n {low = low} {high = high} {level = level} {t = t} some h i =
    let is = sits_is key h i in
    let x = placed key h.place (entry h.first [] h.child h.rest) least_record None is in
    let w = put_at h.place (entry h.first [] h.child h.rest) in
    let E : Tree → Type 0 = EachEntry (ClearAt n low high) level least_record None in
    let L : ℕ → Type 0 =
    λ m. EachEntry (ClearAt m x.low (next_low x.high h.rest)) level least_record None w in
    let K : Record → Type 0 =
    λ z. EachEntry (ClearAt n z (next_low x.high h.rest)) level least_record None w in
    let H : Option Record → Type 0 = λ z. EachEntry (ClearAt n low z) level least_record None w in
    let e = h.level_is in
    subst E (sym h.is) (subst H (sits_high key h i) (subst K (sits_low key h i)
    (subst L h.level_is (clear_own key h.place h.first h.child h.rest level least_record None
    (omega (arith, e, some)) is))))

-- An entry over a node was emptied.
module _ (key : Record → Record) (IsOp IsKept : Record → Type 0) (limit m node at : ℕ)
    (upto : Option Record) (from : Record) (until : Option Record) (inner : Range) (s t : RigState)
    (v w : Trunk) (some_limit : 0 < limit) (st : IsStanding key IsOp IsKept s v)
    (after : IsStanding key IsOp IsKept t w) (so_far : EmptyUpTo limit (suc (suc m)) upto from s v)
    (spot : HasSpot (suc m) node at s v) (told : IsTrue s.device.told)
    (found : FoundSpot 1 (suc m) at (record { from = from; until = until }) inner s v spot.path)
    (low_is : LowersEntry key (suc m) at s t v w spot.path) where
  abbrev low : Record
  low = spot_low at s v spot.path

  abbrev high : Option Record
  high = spot_high at s v spot.path

  here : Lowers key (suc (suc m)) low high v.level (root_of s v) (root_of t w)
  here = spot_lowers key spot.path (spot.told told) low_is

  -- its child's buffers may have operations, and be full
  waits_both : (n : ℕ) (Q : ℕ → Record → Type 0) → 0 < n → EachRead (OnlyFull n Q) s v
      → EachRead (OnlyFull n (OrDue Q (suc m) low high)) t w
  waits_both n Q some h =
      let E : ℕ → Type 0 =
      λ z. EachEntry (OnlyFull n (OrDue Q (suc m) low high)) z least_record None (root_of t w) in
      subst E (sym low_is.level)
      (full_lowered key here st.is.2 n Q (suc m) (omega arith) (omega arith) some h)

  cleared : EachRead (ClearAt (suc (suc m)) low high) t w
  cleared = sits_clear key (suc (suc m)) (omega arith)
      (lowered_sits key spot.path (spot.told told) low_is) after.is.2

  own_low : InRange low high low
  own_low = sits_own key (spot_sits spot.path (spot.told told)) st.is.2

  waits_after : EachRead (OnlyFull 1 (WaitsFrom (suc (suc m)) high)) t w
  waits_after =
      let n2 = suc (suc m) in
      let Q : ℕ → Record → Type 0 = WaitsFrom n2 (Some low) in
      let Own : ℕ → Record → Option Record → List Record → Type 0 = λ n k top b. InRange k top k in
      let C : ℕ → Record → Option Record → List Record → Type 0 = ClearAt n2 low high in
      let W : ℕ → Record → Option Record → List Record → Type 0 = OnlyFull 1 (OrDue Q (suc m) low high) in
      each_map (λ n k top b. (Own n k top b × C n k top b) × W n k top b)
      (OnlyFull 1 (WaitsFrom n2 high))
      (λ n k top b g some. ⊎_elim
      (λ (q : WaitsFrom n2 (Some low) n k). (
        q.0,
        λ e u. some_waits b some (g.0.1 e k
            (record { low = not_below k low (q.1 e); high = u }) g.0.0),
      ))
      (λ (d : (n ≡ suc m) × InRange low high k). (
        (let e = d.0 in omega (arith, e)),
        (λ e u. (let o = d.0 in absurd (omega (arith, e, o)))),
      ))
      (g.1 some))
      w.level least_record None (root_of t w)
      (each_both (λ n k top b. Own n k top b × C n k top b) W w.level least_record None (root_of t w)
      (each_both Own C w.level least_record None (root_of t w)
      (each_own key w.level least_record None (root_of t w) after.is.2 tt) cleared)
      (waits_both 1 Q (omega arith) (spot_waits key IsOp IsKept limit (suc m) upto from s v st so_far node
      at until inner spot told found)))

  full_after : EachRead (OnlyFull limit (FullBefore (suc (suc m)) high)) t w
  full_after =
      let n2 = suc (suc m) in
      let Q : ℕ → Record → Type 0 = FullBefore n2 upto in
      each_map (OnlyFull limit (OrDue Q (suc m) low high)) (OnlyFull limit (FullBefore n2 high))
      (λ n k top b h full less. ⊎_elim
      (λ (q : FullBefore n2 upto n k). (let x = q less in (
        x.0,
        ⊎_elim
            (λ (t : is_below k low ≡ true). under_less high low k own_low.high t)
            (λ (f : is_below k low ≡ false). absurd (spot_late key IsOp IsKept limit (suc m) upto from s v st
            so_far node at until inner spot told found (under_from upto k low x.1 f)))
            (cases_Bool (is_below k low)),
      )))
      (λ (d : (n ≡ suc m) × InRange low high k).
      ((let e = d.0 in omega (arith, e)), d.1.high))
      (h full))
      w.level least_record None (root_of t w) (waits_both limit Q some_limit so_far.full)

  -- No leaf came, and nodes begin where they did.
  pub lowered_grows : Grows s t v w
  lowered_grows = record {
    leaves = let e = low_is.leaves in omega (arith, e);
    starts = λ test n off two.
        let N : ℕ → Type 0 = λ z. starts_of test n z least_record (root_of t w)
        ≡ starts_of test n v.level least_record (root_of s v) in
        let e = low_is.leaves in
        let f = subst N (sym low_is.level) (starts_stay key here st.is.2 test n) in
        omega (arith, e, f);
  }

  -- The level is empty up to the entry's end.
  pub lowered_up_to : EmptyUpTo limit (suc (suc m)) high inner.from t w
  lowered_up_to = record {
    waits = waits_after;
    full = full_after;
    later = λ q h. not_below q inner.from (λ t. h (under_less high inner.from q found.from_in.high t));
  }

-- A load of an entry over a leaf was taken.
module _ (key : Record → Record) (IsOp IsKept : Record → Type 0) (limit node at : ℕ)
    (upto : Option Record) (from : Record) (until : Option Record) (inner : Range) (s t : RigState)
    (v w : Trunk) (st : IsStanding key IsOp IsKept s v) (so_far : EmptyUpTo limit 1 upto from s v)
    (spot : HasSpot 0 node at s v) (told : IsTrue s.device.told)
    (found : FoundSpot 1 0 at (record { from = from; until = until }) inner s v spot.path)
    (loads : LoadsEntry (spot_low at s v spot.path) (spot_high at s v spot.path) s t v w) where
  -- the entries over leaves from this one on
  abbrev from_spot : List Due
  from_spot = (record { level = 1; from = spot_low at s v spot.path; until = None }) ∷ []

  nodes_before : EachRead (λ n k top b. 1 ≤ n) s v
  nodes_before = each_node v.level least_record None (root_of s v) (tree_level v.level s v.root)

  nodes_then : EachRead (λ n k top b. 1 ≤ n) t w
  nodes_then = each_node w.level least_record None (root_of t w) (tree_level w.level t w.root)

  waits_due : EachRead (OnlyFull 1 (IsDue from_spot)) s v
  waits_due =
      let k0 = spot_low at s v spot.path in
      let W : ℕ → Record → Option Record → List Record → Type 0 = OnlyFull 1 (WaitsFrom 1 (Some k0)) in
      let N : ℕ → Record → Option Record → List Record → Type 0 = λ n k top b. 1 ≤ n in
      each_map (λ n k top b. W n k top b × N n k top b) (OnlyFull 1 (IsDue from_spot))
      (λ n k top b g some. (let q = g.0 some in
      let e : n ≡ 1 = (let a = q.0 in let c = g.1 in omega (arith, a, c)) in
      inr (e, record { low = not_below k k0 (q.1 e); high = tt })))
      v.level least_record None (root_of s v)
      (each_both W N v.level least_record None (root_of s v)
      (spot_waits key IsOp IsKept limit 0 upto from s v st so_far node at until inner spot told found)
      nodes_before)

  -- The level is empty up to the entry.
  pub loaded_up_to : EmptyUpTo limit 1 (Some (spot_low at s v spot.path)) inner.from t w
  loaded_up_to =
      let k0 = spot_low at s v spot.path in
      record {
        waits = each_map (OnlyFull 1 (IsDue from_spot)) (OnlyFull 1 (WaitsFrom 1 (Some k0)))
            (λ n k top b h some. ⊎_elim
            (λ (none : ⊥). absurd none)
            (λ (d : (n ≡ 1) × InRange k0 None k). (
              (let e = d.0 in omega (arith, e)),
              (λ e u. false≢true (sym d.1.low ∙ u)),
            ))
            (h some))
            w.level least_record None (root_of t w)
            (loads.full 1 from_spot (omega arith)
            (λ q x. inr (refl, record { low = x.low; high = tt })) waits_due);
        full = each_map (λ n k top b. 1 ≤ n) (OnlyFull limit (FullBefore 1 (Some k0)))
            (λ n k top b h full less. absurd (omega (arith, h, less))) w.level least_record None (root_of t w)
            nodes_then;
        later = spot_later key IsOp IsKept limit 0 upto from s v st so_far node at until inner spot told found;
      }
