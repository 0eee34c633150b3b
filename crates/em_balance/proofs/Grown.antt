-- A root was loaded, and a new one over it stored in a new block.
use Rattle.std.proofs.Common.{◌≡◌, ℕ, suc, ◌+◌, List, [], ◌∷◌, get_or, sym, ◌∙◌, subst, arith, IsTrue, inr, Result, Ok, Err}
use Rattle.em_record.specs.declared.record.Record.{Record}
use Rattle.em_space.specs.Held.{Holds}
use Rattle.em_space.specs.Rig.{RigState, Sound, InUse}
use Rattle.em_space.specs.declared.fault.EmFault.{EmFault}
use Rattle.em_space.proofs.Held.{in_use_below, in_use_kept}
use Rattle.em_space.proofs.Runs.{runs_then, runs_wider, stops_after, stops_wider}
use Rattle.em_node.specs.declared.entry.Entry.{Entry}
use Rattle.em_node.specs.Node.{Is, entries_of, level_of, no_entry}
use Rattle.em_balance.specs.Node.{CanGrowUp, entry_to, level_at}
use Rattle.em_balance.specs.Loaded.{IsRootBelow, PassesTest}
use Rattle.em_balance.specs.Stored.{StoresFrame, StoresNew}
use Rattle.em_balance.specs.Effects.{GrowsInto, GrowsOver, root_entry}
use Rattle.em_balance.proofs.Moves.{damaged_by, read_runs}
use Rattle.em_balance.proofs.Nodes.{fresh_entry, fresh_links, is_at, node_at}

none_held : {s : RigState} → Holds s []
none_held = record { in_use = tt; distinct = λ y. tt }

-- What stands in the new block.
pub grows_over : {s t u : RigState} {root new : ℕ} {upper : Entry} {b d : List Record} → Sound s
    → IsTrue s.device.told → CanGrowUp s root upper
    → PassesTest (IsRootBelow s.pool.shape s.blocks upper.low) s t root b
    → Is d (suc (level_of b)) (entry_to (get_or (entries_of b) 0 no_entry).low root ∷ upper ∷ [])
    → StoresFrame t u d new → GrowsOver s u root upper new
grows_over {s} {t} {u} {root} {new} {upper} {b} {d} sound z i p h x =
    let l = level_at s root in
    let lower = root_entry s root in
    let e = p.loaded z in
    let is : Is d (suc l) (lower ∷ upper ∷ []) = subst (λ (y : List Record).
    Is d (suc (level_of y)) (entry_to (get_or (entries_of y) 0 no_entry).low root ∷ upper ∷ []))
    e h in
    let g = p.reads.goes.touches in
    let k = x.runs.session.touches in
    let y : IsTrue t.device.told = g.told ∙ z in
    let used : InUse u new = (x.runs.session.holds y).in_use.0 in
    let at_new = x.stored y in
    let blocks : u.blocks ≡ s.blocks = k.blocks ∙ g.blocks in
    let shape : u.pool.shape ≡ s.pool.shape = k.shape ∙ g.shape in
    let below = in_use_below s root sound i.in_use in
    let wide = sound.shape.frames_low in
    record {
      unused = λ q. x.unused y (in_use_kept [] s t new g (λ _. tt) q);
      is = is_at at_new is;
      node = λ links. node_at s u blocks shape used at_new is (omega arith)
          (fresh_links (fresh_entry lower.low root s.blocks below), (links, tt));
    }

-- By the result of storing the new root.
pub grows_into : {s t : RigState} {root : ℕ} {upper : Entry} {b d : List Record} (u : RigState)
    (result : Result ℕ EmFault) → Sound s → CanGrowUp s root upper
    → PassesTest (IsRootBelow s.pool.shape s.blocks upper.low) s t root b
    → Is d (suc (level_of b)) (entry_to (get_or (entries_of b) 0 no_entry).low root ∷ upper ∷ [])
    → StoresNew t u d result → GrowsInto s u root upper result
grows_into {s} {t} {root} {upper} u (Ok new) sound i p h x =
    let first = read_runs [] 0 2 p.reads (λ z. none_held) in
    record {
      grows = λ z. grows_over sound z i p h x;
      in_use = record {
        told = λ y. (x.runs.session.holds (sym x.runs.session.touches.told ∙ y)).in_use.0.told y;
        untold = λ n. rw (x.runs.session.touches.blocks) x.below;
      };
      runs = runs_wider (omega arith) (runs_then first x.runs);
    }
grows_into {s} {t} {root} {upper} u (Err e) sound i p h x =
    let first = read_runs [] 0 2 p.reads (λ z. none_held) in
    let head = p.reads.same.head in
    record {
      stops = stops_wider (omega arith) (omega arith) (omega arith) (stops_after first x.stops);
      damaged = damaged_by e (λ b. t.head ≡ b + 1) _ (λ b q. inr (sym head ∙ q)) x.damaged;
    }
