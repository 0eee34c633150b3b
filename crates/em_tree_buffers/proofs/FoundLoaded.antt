-- A full entry over a leaf was loaded; and a search that found no full buffer.
use Rattle.std.proofs.Common.{◌≡◌, false, ℕ, suc, ◌<◌, List, [], ◌∷◌, refl, sym, ap, subst, arith, inr, IsTrue}
use Rattle.std.specs.Prelude.{Option, Some, None}
use Rattle.em_record.specs.Order.{is_below}
use Rattle.em_record.specs.declared.record.Record.{Record}
use Rattle.em_space.specs.Rig.{RigState}
use Rattle.em_settle.proofs.Keys.{below_itself}
use Rattle.em_tree_model.specs.Ranges.{InRange, Under, least_record}
use Rattle.em_tree_model.specs.Tree.{Tree}
use Rattle.em_tree_model.proofs.Ranges.{below_not, low_less}
use Rattle.em_tree_walk.specs.declared.searching.Range.{Range}
use Rattle.em_trunk.specs.Buffers.{ClearOver, Due, IsDue, OnOneSide, OnlyFull}
use Rattle.em_tree_buffers.specs.Emptying.{CanClear, LoadsEntry}
use Rattle.em_trunk.specs.Entries.{EachEntry}
use Rattle.em_tree_buffers.specs.Findings.{FoundNext, FoundSpot, ThinBetween}
use Rattle.em_tree_buffers.specs.Loops.{ClearsUpTo}
use Rattle.em_trunk.specs.Starts.{starts_of}
use Rattle.em_trunk.specs.Trunk.{IsStanding, root_of, sums_in}
use Rattle.em_trunk.specs.declared.trunk.Trunk.{Trunk}
use Rattle.em_tree_buffers.proofs.ClearSteps.{grows_same}
use Rattle.em_trunk.proofs.Entries.{each_map}
use Rattle.em_tree_buffers.proofs.Found.{due_over_at, found_due, keys_of, later_due, none_found}
use Rattle.em_tree_buffers.proofs.FoundLowered.{some_is}
use Rattle.em_tree_buffers.proofs.Sits.{Sits, sits_each, sits_own, spot_sits}
use Rattle.em_trunk.specs.Spots.{EachRead, HasSpot, spot_high, spot_low, spot_ops}

module _ (key : Record → Record) (IsOp IsKept : Record → Type 0) (limit node at : ℕ)
    (from : Record) (until : Option Record) (inner : Range) (s t : RigState) (v w : Trunk)
    (some : 0 < limit) (st : IsStanding key IsOp IsKept s v) (spot : HasSpot 0 node at s v)
    (told : IsTrue s.device.told)
    (found : FoundSpot limit 0 at (keys_of from until) inner s v spot.path)
    (can : CanClear limit (due_over_at 0 from until) s v)
    (loads : LoadsEntry (spot_low at s v spot.path) (spot_high at s v spot.path) s t v w) where
  loaded_sits : Sits 1 (spot_low at s v spot.path) (spot_high at s v spot.path)
      (spot_ops at s v spot.path) v.level (root_of s v)
  loaded_sits = spot_sits spot.path (spot.told told)

  -- The end of the loop's keys doesn't divide the entry's.
  one_side : EachRead (OnOneSide 1 limit until) s v → (q k : Record)
      → InRange (spot_low at s v spot.path) (spot_high at s v spot.path) q
      → InRange (spot_low at s v spot.path) (spot_high at s v spot.path) k → Under until q → Under until k
  one_side h = sits_each key loaded_sits st.is.2 (OnOneSide 1 limit until) h refl found.full

  begins : InRange from until (spot_low at s v spot.path)
  begins = found_due key IsOp IsKept limit 0 node at from until inner s v spot.path st spot told found can

  own : InRange (spot_low at s v spot.path) (spot_high at s v spot.path) (spot_low at s v spot.path)
  own = sits_own key loaded_sits st.is.2

  -- This loop goes on at the entry.
  pub loaded_clears : ClearsUpTo limit (due_over_at 0 from until) (Some (spot_low at s v spot.path)) s t v w
  loaded_clears = record {
    full = λ others over h.
        loads.full limit (due_over_at 0 (spot_low at s v spot.path) until ∷ others) some
        (λ q x. inr (
          refl,
          record {
            low = x.low;
            high = one_side (can.sides refl) (spot_low at s v spot.path) q own x begins.high;
          },
        ))
        (later_due key IsOp IsKept limit 0 node at from until inner s v spot.path st
        (spot_low at s v spot.path) others found.thin h);
    clear = λ above a z over h. loads.clear above a z over h;
    sides = λ one h. loads.sides limit until some (one_side h) h;
    later = λ k e.
        let L : Record → Type 0 = λ z. is_below z from ≡ false in
        subst L (some_is e) begins.low;
    grows = record { leaves = loads.leaves; starts = loads.starts };
  }

none_some : {x : Record} → None ≡ Some x → ⊥
none_some e = cc

module _ (key : Record → Record) (IsOp IsKept : Record → Type 0) (limit l : ℕ) (from : Record)
    (until : Option Record) (s : RigState) (v : Trunk) (st : IsStanding key IsOp IsKept s v) where
  -- The loop goes on at the next node,
  pub next_clears : (low : Record) → FoundNext limit l (keys_of from until) low s v
      → ClearsUpTo limit (due_over_at l from until) (Some low) s s v v
  next_clears low found = record {
    full = λ others over h.
        later_due key IsOp IsKept limit l 0 0 from until (keys_of from until) s v [] st low others found.thin h;
    clear = λ above a z over h. h;
    sides = λ one h. h;
    later = λ k e.
        let L : Record → Type 0 = λ z. is_below z from ≡ false in
        subst L (some_is e) (below_not from low found.above);
    grows = grows_same s v;
  }

  -- or is at its end.
  pub none_clears : EachRead (ThinBetween limit (suc l) from until) s v
      → ClearsUpTo limit (due_over_at l from until) None s s v v
  none_clears thin = record {
    full = λ others over h.
        none_found key IsOp IsKept limit l 0 0 from until (keys_of from until) s v [] st others thin h;
    clear = λ above a z over h. h;
    sides = λ one h. h;
    later = λ k e. absurd (none_some e);
    grows = grows_same s v;
  }

-- A call that changed nothing that is read: a search.
pub still_clears : (limit : ℕ) (d : Due) (s t : RigState) (v : Trunk) (k : ℕ)
    → root_of t v ≡ root_of s v → (sums_in t v).leaves ≡ (sums_in s v).leaves
    → ClearsUpTo limit d (Some d.from) s t v (record v { steps = k })
still_clears limit d s t v k same leaves =
    let R : (P : ℕ → Record → Option Record → List Record → Type 0)
    → EachRead P s v → EachEntry P v.level least_record None (root_of t v) = λ P h.
    (let E : Tree → Type 0 = EachEntry P v.level least_record None in subst E (sym same) h) in
    record {
      full = λ others over h. R (OnlyFull limit (IsDue (d ∷ others))) h;
      clear = λ above a z over h. R (ClearOver above a z) h;
      sides = λ one h. R (OnOneSide 1 limit d.until) h;
      later = λ f e.
          let L : Record → Type 0 = λ z. is_below z d.from ≡ false in
          subst L (some_is e) (below_itself d.from);
      grows = record {
        leaves = omega (arith, leaves);
        starts = λ test level off two.
            let e = ap (starts_of test level v.level least_record) same in
            omega (arith, e, leaves);
      };
    }

-- What could be emptied still can, up to the keys that are left.
pub can_go_on : (limit : ℕ) (d : Due) (from : Record) (s t : RigState) (v w : Trunk)
    → CanClear limit d s v → ClearsUpTo limit d (Some from) s t v w
    → CanClear limit (record { level = d.level; from = from; until = d.until }) t w
can_go_on limit d from s t v w can c = record {
  others = can.others;
  over = can.over;
  full = c.full can.others can.over can.full;
  clear = each_map (ClearOver d.level d.from d.until) (ClearOver d.level from d.until)
      (λ n k top b h above q x y. h above q (record {
        low = low_less q from d.from (c.later from refl) x.low;
        high = x.high;
      }) y) w.level least_record None (root_of t w) (c.clear d.level d.from d.until (omega arith) can.clear);
  sides = λ one. c.sides one (can.sides one);
}
