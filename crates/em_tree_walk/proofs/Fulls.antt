-- A node that may be full, after splits below it: it has room, or is split.
use Rattle.std.proofs.Common.{◌≡◌, ℕ, suc, ◌+◌, ◌*◌, ◌<◌, ◌≤◌, List, [], ◌∷◌, ◌++◌, drop, get_or, length, take, refl, sym, ap, ◌∙◌, subst, arith, IsTrue, Result, Ok, Err}
use Rattle.std.specs.Prelude.{None, Option, Some}
use Rattle.std.proofs.Math.Seq.{drop-cons}
use Rattle.std.proofs.lemmas.List.{length-drop, length-take, take-append-drop}
use Rattle.em_record.specs.Shape.{fan_of}
use Rattle.em_record.specs.declared.record.Record.{Record}
use Rattle.em_space.specs.Held.{Apart, Holds}
use Rattle.em_space.specs.Rig.{RigState, Sound}
use Rattle.em_space.specs.declared.fault.EmFault.{EmFault}
use Rattle.em_space.proofs.Lists.{apart_left, apart_right, apart_sym}
use Rattle.em_chain.specs.Chain.{chain_items}
use Rattle.em_node.specs.declared.entry.Entry.{Entry}
use Rattle.em_node.specs.Node.{no_entry}
use Rattle.em_tree_model.specs.Tree.{HasEntry, Tree, join_rows}
use Rattle.em_tree_model.specs.Tree.Tree.{entry}
use Rattle.em_tree_blocks.specs.Node.{buffer_of, linked_block}
use Rattle.em_tree_blocks.specs.Reading.{entries_at, row_blocks, row_of, tree_at, tree_blocks}
use Rattle.em_tree_blocks.proofs.Entries.{row_append, row_is}
use Rattle.em_balance.proofs.Trees.{IsSplitAt, reads_halves}
use Rattle.em_balance.proofs.Upwards.{lower_in_use, upper_in_use}
use Rattle.em_tree_walk.specs.PathSplit.{PathSplit, row_length}
use Rattle.em_tree_walk.specs.SplitPaths.{SplitFull, SplitTop, SplitsFull, SplitsPath, SplitsTop, TakesUpTo}
use Rattle.em_tree_walk.proofs.Children.{row_blocks_append}
use Rattle.em_tree_walk.proofs.Kept.{EachOf, EntryStands, NodeStands, each_drop, each_left, each_take, node_entries, node_formed, node_stands}
use Rattle.em_tree_walk.proofs.PathStages.{Stage}
use Rattle.em_tree_walk.proofs.Takes.{runs_take, stops_beside, stops_take, stops_then, stops_wider, takes_as, takes_beside, takes_moved, takes_then, takes_wider}
use Rattle.em_tree_walk.proofs.Toward.{row_count}
use Rattle.em_tree_walk.specs.Stands.{StandsAt}

-- A full node of a tree, of which no block is held twice, that is split.
pub split_is : {c t : RigState} {l node : ℕ} {upper : Entry} → IsTrue c.device.told → Sound c
    → StandsAt c (suc l) node → Holds c (tree_blocks (suc l) c node) → SplitFull c t node upper
    → IsSplitAt l c t node upper
split_is {c} {t} {l} {node} {upper} told sound o h x =
    let d = h.distinct told in
    record {
      told = told;
      sound = sound;
      tree = o.is;
      full = x.full told;
      apart = apart_sym (node ∷ []) (row_blocks (tree_blocks l c) c (entries_at c node)) (d.0, tt);
      touches = x.split.runs.session.touches;
      halves = x.split.halves told;
      fresh = x.split.entry;
    }

-- The parts of a node are apart from what all its entries are.
parts_apart : (child : ℕ → List ℕ) (s : RigState) (es : List Entry) (n : ℕ) (held : List ℕ)
    → Apart (row_blocks child s es) held
    → Apart (row_blocks child s (take n es) ++ row_blocks child s (drop n es)) held
parts_apart child s es n held a =
    let A : List ℕ → Type 0 = λ ks. Apart ks held in
    let R : List Entry → List ℕ = λ xs. row_blocks child s xs in
    subst A (ap R (sym (take-append-drop n es)) ∙ row_blocks_append child s (take n es) (drop n es)) a

-- Both parts are nodes of the level, entry by entry.
pub record PartsStand (l : ℕ) (t : RigState) (node : ℕ) (upper : Entry) : Type 0 where
  pub lower : NodeStands l t node
  pub upper_part : NodeStands l t (linked_block upper.child)

pub parts_stand : {c t : RigState} {l node : ℕ} {upper : Entry} → IsSplitAt l c t node upper
    → NodeStands l c node → PartsStand l t node upper
parts_stand {c} {t} {l} {node} {upper} i n =
    let f = fan_of c.pool.shape in
    let es = entries_at c node in
    let h = i.halves in
    let wide = i.sound.shape.frames_low in
    let full = i.full in
    let held = node ∷ [] in
    let a = parts_apart (tree_blocks l c) c es f held i.apart in
    let xs = row_blocks (tree_blocks l c) c (take f es) in
    let ys = row_blocks (tree_blocks l c) c (drop f es) in
    let E : List Entry → Type 0 = λ fs. EachOf (EntryStands l t) fs in
    let L : List Entry → Type 0 = λ fs. 0 < length fs in
    let taken = length-take f es in
    let dropped = length-drop f es in
    let level = i.tree.0.level in
    record {
      lower = record {
        node = record {
          in_use = h.lower_is.in_use;
          block = h.lower_is.block;
          level = h.lower_is.level ∙ level;
        };
        some = subst L (sym h.kept) (omega arith);
        each = subst E (sym h.kept) (each_left held c t i.touches i.told l (take f es)
            (apart_left xs ys held a) (each_take (EntryStands l c) f es n.each));
      };
      upper_part = record {
        node = record {
          in_use = h.upper_is.in_use;
          block = h.upper_is.block;
          level = h.upper_is.level ∙ level;
        };
        some = subst L (sym h.moved) (omega arith);
        each = subst E (sym h.moved) (each_left held c t i.touches i.told l (drop f es)
            (apart_right xs ys held a) (each_drop (EntryStands l c) f es n.each));
      };
    }

-- The blocks of both parts are those of the node and the new one.
parts_held : (c : RigState) {t : RigState} (l node : ℕ) {n m : ℕ} {held : List ℕ} {s : RigState}
    (new : ℕ)
    → TakesUpTo n m held (node ∷ new ∷ row_blocks (tree_blocks l c) c (entries_at c node)) s t
    → (IsTrue s.device.told → tree_blocks (suc l) t node
    ≡ node ∷ row_blocks (tree_blocks l c) c (take (fan_of c.pool.shape) (entries_at c node)))
    → (IsTrue s.device.told → tree_blocks (suc l) t new
    ≡ new ∷ row_blocks (tree_blocks l c) c (drop (fan_of c.pool.shape) (entries_at c node)))
    → TakesUpTo n m held (tree_blocks (suc l) t node ++ tree_blocks (suc l) t new) s t
parts_held c {t} l node {n} {m} {held} {s} new x a b =
    let f = fan_of c.pool.shape in
    let es = entries_at c node in
    let xs = row_blocks (tree_blocks l c) c (take f es) in
    let ys = row_blocks (tree_blocks l c) c (drop f es) in
    let R : List Entry → List ℕ = λ fs. row_blocks (tree_blocks l c) c fs in
    let parts : row_blocks (tree_blocks l c) c es ≡ xs ++ ys =
    ap R (sym (take-append-drop f es)) ∙ row_blocks_append (tree_blocks l c) c (take f es) (drop f es) in
    let first : TakesUpTo n m held (node ∷ (new ∷ []) ++ (xs ++ ys)) s t =
    takes_as (node ∷ new ∷ xs ++ ys) x (λ z. ap (λ ks. node ∷ new ∷ ks) (sym parts)) in
    let second : TakesUpTo n m held (new ∷ (node ∷ xs) ++ ys) s t =
    takes_moved node (new ∷ []) (xs ++ ys) first in
    let third : TakesUpTo n m held ((node ∷ xs) ++ (new ∷ ys)) s t =
    takes_moved new (node ∷ xs) ys second in
    takes_as (tree_blocks (suc l) t node ++ tree_blocks (suc l) t new) third
    (λ z. ap (λ ks. ks ++ tree_blocks (suc l) t new) (a z)
    ∙ ap (λ ks. (node ∷ xs) ++ ks) (b z))

has_row : (child : ℕ → Tree) (s : RigState) (es : List Entry) → 0 < length es
    → HasEntry (row_of child s es)
has_row child s [] h = absurd (omega arith)
has_row child s (e ∷ es) h = tt

-- What is read of both parts.
tops_read : {s c t : RigState} {l node : ℕ} {key : Record} {upper : Entry}
    → s.pool.shape ≡ c.pool.shape → IsSplitAt l c t node upper → PartsStand l t node upper
    → PathSplit (fan_of s.pool.shape) key (tree_at (suc l) s node) (tree_at (suc l) c node)
    → SplitsTop s t (suc l) node key upper
tops_read {s} {c} {t} {l} {node} {key} {upper} shape i p part =
    let f = fan_of c.pool.shape in
    let g = fan_of s.pool.shape in
    let es = entries_at c node in
    let wide = i.sound.shape.frames_low in
    let full = i.full in
    let r = reads_halves i in
    let h = i.halves in
    let same : g ≡ f = ap fan_of shape in
    let x = get_or es f no_entry in
    let bx = chain_items c (buffer_of x) in
    let dx = tree_at l c (linked_block x.child) in
    let rx = row_of (tree_at l c) c (drop (suc f) es) in
    let upper_row : row_of (tree_at l c) c (drop f es) ≡ entry upper.low bx dx rx =
    ap (row_of (tree_at l c) c) (drop-cons es f no_entry (omega arith))
    ∙ ap (λ (k : Record). entry k bx dx rx) (sym h.low_is) in
    let lower_len = ap (λ (fs : List Entry). length fs) h.kept in
    let upper_len = ap (λ (u : Tree). row_length u) (sym upper_row) in
    let taken = length-take f es in
    let dropped = length-drop f es in
    let counted = row_count (tree_at l t) t (entries_at t node) in
    let counted_upper = row_count (tree_at l c) c (drop f es) in
    let whole : tree_at (suc l) c node ≡ join_rows (tree_at (suc l) t node) (entry upper.low bx dx rx) =
    ap (row_of (tree_at l c) c) (sym (take-append-drop f es))
    ∙ (row_append (tree_at l c) c (take f es) (drop f es)
    ∙ (ap (λ (u : Tree). join_rows u (row_of (tree_at l c) c (drop f es))) (sym r.lower)
    ∙ ap (join_rows (tree_at (suc l) t node)) upper_row)) in
    let P : Tree → Type 0 = λ u. PathSplit g key (tree_at (suc l) s node) u in
    record {
      b = bx;
      d = dx;
      rest = rx;
      upper_is = r.upper_row ∙ upper_row;
      lower_row = row_is (tree_at l t) t (entries_at t node);
      lower_some = has_row (tree_at l t) t (entries_at t node) p.lower.some;
      lower_length = omega arith;
      upper_length = omega arith;
      split = subst P whole part;
      formed = node_formed l t node p.lower;
      upper_formed = node_formed l t (linked_block upper.child) p.upper_part;
    }

-- The node was split,
pub stage_split : {n m : ℕ} {s c t : RigState} {l node : ℕ} {key : Record} {upper : Entry}
    → Stage n m s c (suc l) node key → SplitFull c t node upper → n + 1 ≤ suc l
    → m + 4 ≤ 7 * suc l → SplitTop s t (suc l) node key upper
stage_split {n} {m} {s} {c} {t} {l} {node} {key} {upper} g x few fewer =
    let first = g.takes.session in
    let on = λ (z : IsTrue s.device.told). (let y : IsTrue c.device.told = first.touches.told ∙ z in y) in
    let es = entries_at c node in
    let rows = row_blocks (tree_blocks l c) c es in
    let new = linked_block upper.child in
    let is = λ (z : IsTrue s.device.told). split_is (on z) first.sound (g.leads.told (on z))
    (first.holds z) x in
    let parts = λ (z : IsTrue s.device.told). parts_stand (is z)
    (node_entries l c node (g.leads.told (on z)) (g.formed z)) in
    let runs = x.split.runs in
    let back = λ (y : IsTrue c.device.told). (let z : IsTrue s.device.told = sym first.touches.told ∙ y in z) in
    let second : TakesUpTo 1 4 (node ∷ rows) (node ∷ new ∷ rows) c t =
    takes_beside [] (node ∷ []) (node ∷ new ∷ []) rows (λ y. first.holds (back y))
    (runs_take {n = 1} runs refl refl) in
    let told_back = λ (y : IsTrue t.device.told). (let z : IsTrue s.device.told =
    back (sym runs.session.touches.told ∙ y) in z) in
    record {
      takes = parts_held c l node new (takes_wider (suc l) (7 * suc l) (omega (arith, few)) (omega (arith, fewer))
          (takes_then g.takes second)) (λ z. (reads_halves (is z)).lower_blocks)
          (λ z. (reads_halves (is z)).upper_blocks);
      fresh = rw (sym first.touches.blocks) x.split.entry;
      leads = record {
        in_use = lower_in_use x.can runs x.split.halves;
        told = λ y. node_stands l t node (parts (told_back y)).lower;
      };
      upper_leads = record {
        in_use = upper_in_use runs x.split.halves x.split.entry;
        told = λ y. node_stands l t new (parts (told_back y)).upper_part;
      };
      told = λ z. tops_read (sym first.touches.shape) (is z) (parts z) (g.split z);
    }

-- or has room.
pub stage_room : {n m : ℕ} {s c : RigState} {l node : ℕ} {key : Record}
    → Stage n m s c (suc l) node key
    → (IsTrue c.device.told → length (entries_at c node) < 2 * fan_of c.pool.shape) → n + 1 ≤ suc l
    → m + 4 ≤ 7 * suc l → SplitsPath s c (suc l) node key (Ok None)
stage_room {n} {m} {s} {c} {l} {node} {key} g room few fewer =
    let first = g.takes.session in
    record {
      takes = takes_wider (suc l) (7 * suc l) (omega (arith, few)) (omega (arith, fewer)) g.takes;
      leads = g.leads;
      told = λ z. record {
        split = g.split z;
        room =
            let counted = row_count (tree_at l c) c (entries_at c node) in
            let most = room (first.touches.told ∙ z) in
            let same : fan_of c.pool.shape ≡ fan_of s.pool.shape = ap fan_of first.touches.shape in
            omega arith;
        formed = g.formed z;
      };
    }

-- What the last step of a path did.
pub stage_ends : {n m : ℕ} {s c : RigState} (t : RigState) {l node : ℕ} {key : Record}
    (result : Result (Option Entry) EmFault) → Stage n m s c (suc l) node key
    → SplitsFull c t node result → n + 1 ≤ suc l → m + 4 ≤ 7 * suc l
    → SplitsPath s t (suc l) node key result
stage_ends {n} {m} {s} {c} t {l} {node} {key} (Ok None) g x few fewer =
    subst (λ (w : RigState). SplitsPath s w (suc l) node key (Ok None)) (sym x.same)
    (stage_room g x.room few fewer)
stage_ends t (Ok (Some upper)) g x few fewer = stage_split g x few fewer
stage_ends {n} {m} {s} {c} t {l} {node} {key} (Err fault) g x few fewer =
    let rows = row_blocks (tree_blocks l c) c (entries_at c node) in
    stops_wider (suc l) (7 * suc l) (omega (arith, few)) (omega (arith, fewer))
    (stops_then g.takes (stops_beside [] (node ∷ []) rows (stops_take {n = 1} x.stops)))
