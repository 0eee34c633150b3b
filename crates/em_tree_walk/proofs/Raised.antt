-- A root that was split, and a new one over both parts.
use Rattle.std.proofs.Common.{◌≡◌, true, ℕ, zero, suc, ◌+◌, ◌*◌, ◌<◌, ◌≤◌, List, [], ◌∷◌, ◌++◌, get_or, length, refl, sym, ap, ◌∙◌, subst, arith, inl, inr, IsTrue, Result, Ok, Err}
use Rattle.std.specs.Prelude.{Some}
use Rattle.std.proofs.lemmas.List.{append-nil}
use Rattle.em_record.specs.Order.{is_below}
use Rattle.em_record.specs.declared.record.Record.{Record}
use Rattle.em_frames.specs.Device.{block_at}
use Rattle.em_space.specs.Rig.{RigState, Sound}
use Rattle.em_space.specs.declared.fault.EmFault.{EmFault}
use Rattle.em_space.specs.declared.fault.EmFault.TheVariants.{Damaged}
use Rattle.em_space.proofs.Held.{apart_none, in_use_below}
use Rattle.em_space.proofs.Lists.{distinct_apart}
use Rattle.em_space.proofs.Paying.{pays_kept, pays_more}
use Rattle.em_space.proofs.Steps.{goes_nothing, untold_by}
use Rattle.em_chain.specs.Chain.{chain_items}
use Rattle.em_node.specs.declared.entry.Entry.{Entry}
use Rattle.em_node.specs.Node.{no_entry}
use Rattle.em_node.proofs.Seams.{entries_is}
use Rattle.em_tree_model.specs.Ranges.{low_of}
use Rattle.em_tree_model.specs.Tree.{Tree, join_rows}
use Rattle.em_tree_model.specs.Tree.Tree.{end, entry}
use Rattle.em_tree_model.proofs.Ranges.{to_below}
use Rattle.em_tree_blocks.specs.Node.{buffer_of, linked_block}
use Rattle.em_tree_blocks.specs.Reading.{entries_at, row_of, tree_at, tree_blocks}
use Rattle.em_tree_blocks.proofs.Frames.{tree_stays}
use Rattle.em_balance.specs.Effects.{GrownOver, root_entry}
use Rattle.em_balance.specs.Node.{IsFreshEntry, IsSplitRoot, LowsBelow, level_at}
use Rattle.em_balance.proofs.NewRoots.{fresh_chain, stands_over}
use Rattle.em_balance.proofs.Nodes.{fresh_entry, fresh_limits, linked_back}
use Rattle.em_balance.proofs.Trees.{none_waits}
use Rattle.em_tree_walk.specs.Forms.{AreFormed}
use Rattle.em_tree_walk.specs.SplitPaths.{CanGrowOver, CanSplitPath, CanSplitUp, GrowsRoot, LowsFit, SplitBelow, SplitTop, SplitUp, SplitsUp, StopsUpTo, TakesUpTo}
use Rattle.em_tree_walk.specs.declared.splitting.Root.{Root}
use Rattle.em_tree_walk.proofs.Kept.{EachOf, EntryStands, NodeStands, forms_left, node_formed, node_stands, stands_left}
use Rattle.em_tree_walk.proofs.LowKeys.{lows_join, lows_split}
use Rattle.em_tree_walk.proofs.PathSteps.{fresh_form}
use Rattle.em_tree_walk.proofs.Takes.{runs_take, stops_beside, stops_then, stops_wider, takes_as, takes_beside, takes_then, takes_wider}
use Rattle.em_tree_walk.specs.Stands.{LeadsToTree, StandsAt}

-- The low keys of a lower part are below the upper one's.
lows_under : (child : ℕ → Tree) (s : RigState) (es : List Entry) (lo k : Record)
    → LowsFit (row_of child s es) lo (Some k) → is_below lo k ≡ true → LowsBelow es k
lows_under child s [] lo k f over = tt
lows_under child s (e ∷ []) lo k f over = (to_below e.low lo k f.0 over, tt)
lows_under child s (e ∷ g ∷ es) lo k f over =
    (to_below e.low lo k f.0 over, lows_under child s (g ∷ es) g.low k f.3 f.2.1)

-- A root that was split can be grown over.
split_root : {s c : RigState} {l node : ℕ} {key : Record} {upper : Entry} → IsTrue s.device.told
    → CanSplitPath s (suc l) node key → suc l < 24 → SplitTop s c (suc l) node key upper
    → IsSplitRoot c node upper
split_root {s} {c} {l} {node} {key} {upper} z i few x =
    let h = x.takes.session.touches in
    let y : IsTrue c.device.told = h.told ∙ z in
    let o = i.told z in
    let d = x.told z in
    let lower = x.leads.told y in
    let part = x.upper_leads.told y in
    let up = linked_block upper.child in
    let whole = join_rows (tree_at (suc l) c node) (entry upper.low d.b d.d d.rest) in
    let fits = lows_split _ key (tree_at (suc l) s node) whole d.split o.lo o.hi o.lows in
    let j = lows_join (tree_at (suc l) c node) upper.low d.b d.d d.rest o.lo o.hi d.lower_row
    d.lower_some fits in
    let apart = distinct_apart (tree_blocks (suc l) c node) (tree_blocks (suc l) c up)
    ((x.takes.session.holds z).distinct y) in
    let level = lower.is.0.level in
    let other = apart.0.0 in
    record {
      node = record { in_use = lower.is.0.in_use; block = lower.is.0.block; level = refl };
      some = lower.rows.0;
      not_last = omega arith;
      below = lows_under (tree_at l c) c (entries_at c node) o.lo upper.low j.lower_fits j.over;
      linked = x.fresh.child_some;
      child = record {
        in_use = part.is.0.in_use;
        block = part.is.0.block;
        level = part.is.0.level ∙ sym level;
      };
      other = λ e. other (sym e);
    }

pub can_grow_over : {s c : RigState} {key : Record} {upper : Entry} (level node : ℕ) → 0 < level
    → level ≤ 24 → (IsTrue s.device.told → level < 24) → CanSplitPath s level node key
    → SplitTop s c level node key upper
    → CanGrowOver c (record { block = node; level = level }) upper
can_grow_over zero node some most last i x = absurd (omega arith)
can_grow_over {s} {c} {key} {upper} (suc l) node some most last i x =
    let h = x.takes.session.touches in
    let back = λ (y : IsTrue c.device.told). (let z : IsTrue s.device.told = sym h.told ∙ y in z) in
    record {
      can = record {
        in_use = x.leads.in_use;
        limited = fresh_limits x.fresh;
        told = λ y. split_root (back y) i (last (back y)) x;
      };
      most = most;
      last = λ y. last (back y);
    }

-- What stands from the new root on.
pub record NewRootStands (l : ℕ) (c t : RigState) (node new : ℕ) (upper : Entry) : Type 0 where
  pub stands : NodeStands (suc l) t new
  pub blocks : tree_blocks (suc (suc l)) t new ≡ new
      ∷ tree_blocks (suc l) c node ++ tree_blocks (suc l) c (linked_block upper.child)
  pub tree : tree_at (suc (suc l)) t new ≡ entry (get_or (entries_at c node) 0 no_entry).low []
      (tree_at (suc l) c node) (entry upper.low [] (tree_at (suc l) c (linked_block upper.child)) end)

new_root : {c t : RigState} {l node new : ℕ} {upper : Entry} → Sound c → IsTrue c.device.told
    → LeadsToTree c (suc l) node → LeadsToTree c (suc l) (linked_block upper.child)
    → AreFormed (suc l) c node → AreFormed (suc l) c (linked_block upper.child)
    → IsFreshEntry c.blocks upper → GrownOver c t node upper new
    → NewRootStands l c t node new upper
new_root {c} {t} {l} {node} {new} {upper} sound y i j f g fresh x =
    let up = linked_block upper.child in
    let h = x.runs.session.touches in
    let o = x.grows y in
    let lower = i.told y in
    let part = j.told y in
    let low = (get_or (entries_at c node) 0 no_entry).low in
    let old = fresh_entry low node c.blocks (in_use_below c node sound i.in_use) in
    let two : List Entry = root_entry c node ∷ upper ∷ [] in
    let es : entries_at t new ≡ two =
    entries_is (block_at t.device new) (suc (level_at c node)) two o.is in
    let over = stands_over y lower.is part.is fresh o h in
    let a = apart_none (tree_blocks (suc l) c node) in
    let b = apart_none (tree_blocks (suc l) c up) in
    let lower_left = stands_left [] c t h y (suc l) node a lower in
    let part_left = stands_left [] c t h y (suc l) up b part in
    let back = linked_back node in
    let P : ℕ → Type 0 = λ k. StandsAt t (suc l) k in
    let Q : ℕ → Type 0 = λ k. AreFormed (suc l) t k in
    let first = subst P (sym back) lower_left in
    let E : List Entry → Type 0 = λ fs. EachOf (EntryStands (suc l) t) fs in
    let L : List Entry → Type 0 = λ fs. 0 < length fs in
    let tree_lower = tree_stays [] c t h y (suc l) node a lower.is in
    let tree_part = tree_stays [] c t h y (suc l) up b part.is in
    let last : Tree = entry upper.low (chain_items t (buffer_of upper)) (tree_at (suc l) t up) end in
    record {
      stands = record {
        node = over.is.0;
        some = subst L (sym es) (omega arith);
        each = subst E (sym es) (
          record {
            chain = fresh_chain t old;
            child = first.is;
            rows = first.rows;
            form = fresh_form (suc l) t old;
            formed = subst Q (sym back) (forms_left [] c t h y (suc l) node a lower.is f);
          },
          (
            record {
              chain = fresh_chain t fresh;
              child = part_left.is;
              rows = part_left.rows;
              form = fresh_form (suc l) t fresh;
              formed = forms_left [] c t h y (suc l) up b part.is g;
            },
            tt,
          ),
        );
      };
      blocks = over.blocks
          ∙ ap (λ (ks : List ℕ). new ∷ tree_blocks (suc l) c node ++ ks)
          (append-nil (tree_blocks (suc l) c up));
      tree = ap (row_of (tree_at (suc l) t) t) es
          ∙ (ap (λ (v : Tree). entry low [] v last) (ap (tree_at (suc l) t) back ∙ tree_lower.tree)
          ∙ (ap (λ (zs : List Record). entry low [] (tree_at (suc l) c node)
          (entry upper.low zs (tree_at (suc l) t up) end)) (none_waits t fresh)
          ∙ ap (λ (v : Tree). entry low [] (tree_at (suc l) c node) (entry upper.low [] v end))
          tree_part.tree));
    }

first_start : (child : ℕ → Tree) (s : RigState) (es : List Entry)
    → low_of (get_or es 0 no_entry).low (row_of child s es) ≡ (get_or es 0 no_entry).low
first_start child s [] = refl
first_start child s (e ∷ es) = refl

-- the root of a block and a level
abbrev pub root_at : ℕ → ℕ → Root
root_at node level = record { block = node; level = level }

raised : {s c t : RigState} {l node new : ℕ} {key : Record} {upper : Entry}
    → CanSplitPath s (suc l) node key → suc (suc l) ≤ 24 → SplitTop s c (suc l) node key upper
    → GrownOver c t node upper new
    → SplitUp s t (root_at node (suc l)) (root_at new (suc (suc l))) key
raised {s} {c} {t} {l} {node} {new} {key} {upper} i most x g =
    let first = x.takes.session in
    let up = linked_block upper.child in
    let on = λ (z : IsTrue s.device.told). (let y : IsTrue c.device.told = first.touches.told ∙ z in y) in
    let back = λ (y : IsTrue c.device.told). (let z : IsTrue s.device.told = sym first.touches.told ∙ y in z) in
    let B : ℕ → Type 0 = λ n. IsFreshEntry n upper in
    let fresh = subst B (sym first.touches.blocks) x.fresh in
    let is = λ (z : IsTrue s.device.told). (let d = x.told z in
    new_root first.sound (on z) x.leads x.upper_leads d.formed d.upper_formed fresh g) in
    let blocks = tree_blocks (suc l) c node ++ tree_blocks (suc l) c up in
    let second : TakesUpTo 1 3 blocks (new ∷ blocks) c t =
    takes_beside [] [] (new ∷ []) blocks (λ y. first.holds (back y)) (runs_take {n = 0} g.runs refl refl) in
    record {
      takes = takes_as (tree_blocks (suc (suc l)) t new)
          (takes_wider (suc l + 1) (7 * suc l + 4) (omega arith) (omega arith)
          (takes_then x.takes second)) (λ z. (is z).blocks);
      leads = record {
        in_use = g.in_use;
        told = λ w. node_stands (suc l) t new
            (is (back (sym g.runs.session.touches.told ∙ w))).stands;
      };
      some = omega arith;
      rises = omega arith;
      most = most;
      told = λ z.
          let d = x.told z in
          let es = entries_at c node in
          inr (record {
            first = (get_or es 0 no_entry).low;
            lower = tree_at (suc l) c node;
            k = upper.low;
            b = d.b;
            d = d.d;
            rest = d.rest;
            up = omega arith;
            new_is = (is z).tree ∙ ap (λ (v : Tree). entry (get_or es 0 no_entry).low []
                (tree_at (suc l) c node) (entry upper.low [] v end)) d.upper_is;
            starts = first_start (tree_at l c) c es;
            lower_row = d.lower_row;
            lower_some = d.lower_some;
            lower_length = d.lower_length;
            upper_length = d.upper_length;
            split = d.split;
            formed = node_formed (suc l) t new (is z).stands;
          });
    }

raised_by : {s c t : RigState} {key : Record} {upper : Entry} (level node : ℕ) (new : Root)
    → 0 < level → CanSplitPath s level node key → SplitTop s c level node key upper
    → new.level ≡ level + 1 → new.level ≤ 24 → GrownOver c t node upper new.block
    → SplitUp s t (root_at node level) new key
raised_by zero node new some i x up most g = absurd (omega arith)
raised_by {s} {c} {t} {key} {upper} (suc l) node new some i x up most g =
    let above : suc (suc l) ≡ new.level = omega arith in
    let P : ℕ → Type 0 = λ n. SplitUp s t (root_at node (suc l)) (root_at new.block n) key in
    subst P above (raised i (omega arith) x g)

-- What the growth of a split root did.
pub up_grown : {s c : RigState} (t : RigState) {key : Record} {upper : Entry} (root : Root)
    (result : Result Root EmFault) → CanSplitUp s root key
    → SplitTop s c root.level root.block key upper → GrowsRoot c t root upper result
    → SplitsUp s t root key result
up_grown t root (Ok new) i x g =
    raised_by root.level root.block new i.some i.path x g.up g.most g.grown
up_grown {s} {c} t {key} {upper} root (Err fault) i x g =
    let blocks = tree_blocks root.level c root.block
    ++ tree_blocks root.level c (linked_block upper.child) in
    stops_wider (root.level + 1) (7 * root.level + 4) (omega arith) (omega arith)
    (stops_then x.takes (stops_beside [] [] blocks g))

-- The root wasn't split,
pub up_kept : {s t : RigState} {key : Record} (root : Root) → CanSplitUp s root key
    → SplitBelow s t root.level root.block key → SplitsUp s t root key (Ok root)
up_kept root i x = record {
  takes = takes_wider (root.level + 1) (7 * root.level + 4) (omega arith) (omega arith) x.takes;
  leads = x.leads;
  some = i.some;
  rises = omega arith;
  most = i.most;
  told = λ z. inl (record { same = refl; below = x.told z });
}

-- or a split gave up.
pub up_stopped : {s t : RigState} (root : Root) {e : EmFault}
    → StopsUpTo root.level (7 * root.level) (tree_blocks root.level s root.block) s t e
    → StopsUpTo (root.level + 1) (7 * root.level + 4) (tree_blocks root.level s root.block) s t e
up_stopped root x =
    stops_wider (root.level + 1) (7 * root.level + 4) (omega arith) (omega arith) x

-- A root on the last level isn't split, which only a device allows that doesn't tell.
pub last_stops : {s : RigState} {root : Root} {upper : Entry} → Sound s → CanGrowOver s root upper
    → root.level ≡ 24 → StopsUpTo 1 3 [] s s (Damaged root.block)
last_stops {s} {root} {upper} sound i full = record {
  goes = goes_nothing s sound;
  used = omega arith;
  most = omega arith;
  moves = omega arith;
  pays = pays_more (pays_kept 0 (omega arith) (omega arith)) (omega arith);
  full = tt;
  cause = (
    untold_by s.device.told (λ z. let below = i.last z in omega arith),
    in_use_below s root.block sound i.can.in_use,
  );
}
