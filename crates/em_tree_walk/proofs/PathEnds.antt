-- How splits from a node on end: by what its child, the new entry and its own split did.
use Rattle.std.proofs.Common.{◌≡◌, ℕ, zero, suc, ◌+◌, ◌-◌, ◌*◌, ◌<◌, ◌≤◌, List, [], ◌∷◌, ◌++◌, length, refl, sym, ap, ◌∙◌, subst, arith, IsTrue, Result, Ok, Err, IsErrAnd}
use Rattle.std.specs.Prelude.{None, Option, Some}
use Rattle.em_record.specs.Shape.{fan_of}
use Rattle.em_record.specs.declared.record.Record.{Record}
use Rattle.em_space.specs.Rig.{RigState}
use Rattle.em_space.specs.declared.fault.EmFault.{EmFault}
use Rattle.em_node.specs.declared.entry.Entry.{Entry}
use Rattle.em_node.specs.Node.{place_of}
use Rattle.em_empty.proofs.Dealt.{place_within}
use Rattle.em_tree_blocks.specs.Node.{linked_block}
use Rattle.em_tree_blocks.specs.Reading.{entries_at, tree_at, tree_blocks}
use Rattle.em_tree_walk.specs.SplitPaths.{CanSplitPath, HasCount, SplitBelow, SplitTop, SplitsFull, SplitsPath, StopsUpTo}
use Rattle.em_tree_walk.specs.Turns.{ReadTurn}
use Rattle.em_tree_walk.specs.declared.splitting.Turn.{Turn}
use Rattle.em_tree_walk.proofs.Children.{blocks_after, blocks_around, blocks_before}
use Rattle.em_tree_walk.proofs.Fulls.{stage_ends, stage_room}
use Rattle.em_tree_walk.proofs.PathStages.{Stage, child_path, child_toward_at, path_read, stage_read, stops_read}
use Rattle.em_tree_walk.proofs.PathSteps.{child_splits, child_takes, node_same, stage_added, stage_below, stage_first, turn_child, turn_count, upper_follows}
use Rattle.em_tree_walk.proofs.Takes.{reads_stop_take, stops_beside, stops_from, stops_then, stops_wider, store_stops}
use Rattle.em_tree_walk.proofs.Toward.{row_count}
use Rattle.em_tree_walk.specs.Inserted.{AddedEntry, CanAdd}
use Rattle.em_tree_walk.specs.Reads.{StopsReading}
use Rattle.em_tree_walk.specs.Stands.{LeadsToTree}
use Rattle.em_tree_walk.specs.Taken.{StopsTaking}
use Rattle.em_tree_walk.proofs.Insertions.{length_after}

-- A node above level 1 was read: its turn leads on.
pub record OnPath (s a : RigState) (l node : ℕ) (key : Record) (x : Turn) : Type 0 where
  pub can : CanSplitPath s (suc (suc l)) node key
  pub read : ReadTurn key s a (suc (suc l)) node x

one_less : (l : ℕ) → suc (suc l) - 1 ≡ suc l
one_less l = omega arith

on_path : {s a : RigState} {level node : ℕ} {key : Record} {x : Turn} (l : ℕ)
    → level ≡ suc (suc l) → CanSplitPath s level node key → ReadTurn key s a level node x
    → OnPath s a l node key x
on_path {s} {a} {level} {node} {key} {x} l e i r =
    let C : ℕ → Type 0 = λ n. CanSplitPath s n node key in
    let R : ℕ → Type 0 = λ n. ReadTurn key s a n node x in
    record { can = subst C e i; read = subst R e r }

module _ {s a : RigState} {l node : ℕ} {key : Record} {x : Turn} (p : OnPath s a l node key x) where
  here : CanSplitPath a (suc (suc l)) node key
  here = path_read p.read.reads p.can

  toward : IsTrue a.device.told → x.child ≡ child_toward_at a node key
  toward y = ap (λ (v : Turn). v.child) (turn_child p.read y)

  at_place : IsTrue a.device.told → x.at ≡ place_of key (entries_at a node)
  at_place y = ap (λ (v : Turn). v.at) (turn_child p.read y)

  -- the child can be split on the path
  pub child_can : CanSplitPath a (suc l) x.child key
  child_can =
      let L : ℕ → Type 0 = λ n. LeadsToTree a n x.child in
      child_path x.child (subst L (one_less l) p.read.leads) toward here

  -- A split below gave up.
  pub child_stopped : (b : RigState) (e : EmFault)
      → StopsUpTo (suc l) (7 * suc l) (tree_blocks (suc l) a x.child) a b e
      → StopsUpTo (suc (suc l)) (7 * suc (suc l)) (tree_blocks (suc (suc l)) s node) s b e
  child_stopped b e h =
      let es = entries_at a node in
      let k = place_of key es in
      let xs = node ∷ blocks_before (suc l) a node k in
      let ys = blocks_after (suc l) a node k in
      let whole = λ (y : IsTrue a.device.told). (
      let one = place_within key es (here.leads.told y).rows.0 in
      let w : tree_blocks (suc (suc l)) a node ≡ xs ++ (tree_blocks (suc l) a x.child ++ ys) =
      blocks_around (suc l) a node k one
      ∙ ap (λ (c : ℕ). xs ++ (tree_blocks (suc l) a c ++ ys)) (sym (toward y)) in w) in
      stops_wider (suc (suc l)) (7 * suc (suc l)) (omega arith) (omega arith)
      (stops_read p.read.reads p.can
      (stops_from (tree_blocks (suc (suc l)) a node)
      (stops_beside xs (tree_blocks (suc l) a x.child) ys h) whole))

  -- The child wasn't split.
  pub child_kept : (b : RigState) → SplitBelow a b (suc l) x.child key
      → SplitsPath s b (suc (suc l)) node key (Ok None)
  child_kept b h =
      let g = h.takes.session.touches in
      stage_room (stage_read p.read.reads p.can (stage_below x.child here toward h))
      (λ w.
      let y : IsTrue a.device.told = sym g.told ∙ w in
      let is = child_splits x.child y here (toward y) g h.leads (h.told y).formed in
      let room = (here.told y).clear.0 in
      let counted = row_count (tree_at (suc l) a) a (entries_at a node) in
      let len = ap (λ (es : List Entry). length es) (node_same is) in
      let same = ap fan_of g.shape in
      omega arith)
      (omega arith) (omega arith)

  -- The child was split: a new entry may be put in,
  pub upper_can : {b : RigState} {upper : Entry} → SplitTop a b (suc l) x.child key upper
      → CanAdd b (suc (suc l)) node x.at upper
  upper_can h = upper_follows x.child x.at here toward at_place h

  -- could not be,
  pub add_stopped : {b : RigState} {upper : Entry} (c : RigState) (e : EmFault)
      → SplitTop a b (suc l) x.child key upper → StopsTaking b c node e
      → StopsUpTo (suc (suc l)) (7 * suc (suc l)) (tree_blocks (suc (suc l)) s node) s c e
  add_stopped {b} {upper} c e h t =
      let k = place_of key (entries_at a node) in
      let js = tree_blocks (suc l) b x.child ++ tree_blocks (suc l) b (linked_block upper.child) in
      let rest = blocks_before (suc l) a node k ++ (js ++ blocks_after (suc l) a node k) in
      stops_wider (suc (suc l)) (7 * suc (suc l)) (omega arith) (omega arith)
      (stops_read p.read.reads p.can
      (stops_then (child_takes x.child js here toward h.takes)
      (stops_beside [] (node ∷ []) rest (store_stops t))))

  -- or was.
  pub added_stage : {b c : RigState} {upper : Entry} → SplitTop a b (suc l) x.child key upper
      → AddedEntry b c (suc (suc l)) node x.at upper
      → Stage (suc l) (1 + (7 * suc l + 2)) s c (suc (suc l)) node key
  added_stage h t =
      stage_read p.read.reads p.can (stage_added x.child x.at here toward at_place h t)

  pub added_count : {b c : RigState} {upper : Entry} → SplitTop a b (suc l) x.child key upper
      → AddedEntry b c (suc (suc l)) node x.at upper → HasCount c node (x.entries + 1)
  added_count {b} {c} {upper} h t =
      let g = h.takes.session.touches in
      let k = t.stores.goes.touches in
      let back = λ (w : IsTrue c.device.told). (let y : IsTrue b.device.told = sym k.told ∙ w in y) in
      record {
        block = λ w. (t.node_is (back w)).block;
        is = λ w.
            let v = back w in
            let y : IsTrue a.device.told = sym g.told ∙ v in
            let is = child_splits x.child y here (toward y) g h.leads (h.told y).formed in
            let len = ap (λ (es : List Entry). length es) (node_same is) in
            let count = (turn_count here p.read).is y in
            let one = is.one in
            let at = at_place y in
            let more = length_after (entries_at b node) x.at upper (omega arith) in
            let after = ap (λ (es : List Entry). length es) (t.after v) in
            omega arith;
      }

-- By the level of the node.
pub path_child : {s a : RigState} {level node : ℕ} {key : Record} {x : Turn} (l : ℕ)
    → level ≡ suc (suc l) → level - 1 ≡ suc l → CanSplitPath s level node key
    → ReadTurn key s a level node x → CanSplitPath a (level - 1) x.child key
path_child {s} {a} {level} {node} {key} {x} l e f i r =
    let C : ℕ → Type 0 = λ n. CanSplitPath a n x.child key in
    subst C (sym f) (child_can (on_path l e i r))

-- what a child's splits did, at its level
at_child : (a b : RigState) (level child : ℕ) (key : Record) (l : ℕ)
    (result : Result (Option Entry) EmFault) → level - 1 ≡ suc l
    → SplitsPath a b (level - 1) child key result → SplitsPath a b (suc l) child key result
at_child a b level child key l result f x =
    let P : ℕ → Type 0 = λ n. SplitsPath a b n child key result in subst P f x

pub path_kept : {s a : RigState} {level node : ℕ} {key : Record} {x : Turn} (b : RigState) (l : ℕ)
    → level ≡ suc (suc l) → level - 1 ≡ suc l → CanSplitPath s level node key
    → ReadTurn key s a level node x → SplitsPath a b (level - 1) x.child key (Ok None)
    → SplitsPath s b level node key (Ok None)
path_kept {s} {a} {level} {node} {key} {x} b l e f i r h =
    let P : ℕ → Type 0 = λ n. SplitsPath s b n node key (Ok None) in
    subst P (sym e) (child_kept (on_path l e i r) b (at_child a b level x.child key l (Ok None) f h))

pub path_stopped : {s a : RigState} {level node : ℕ} {key : Record} {x : Turn} (b : RigState)
    (l : ℕ) (e : EmFault) → level ≡ suc (suc l) → level - 1 ≡ suc l
    → CanSplitPath s level node key → ReadTurn key s a level node x
    → SplitsPath a b (level - 1) x.child key (Err e)
    → StopsUpTo level (7 * level) (tree_blocks level s node) s b e
path_stopped {s} {a} {level} {node} {key} {x} b l e up f i r h =
    let P : ℕ → Type 0 = λ n. StopsUpTo n (7 * n) (tree_blocks n s node) s b e in
    subst P (sym up) (child_stopped (on_path l up i r) b e (at_child a b level x.child key l (Err e) f h))

pub path_adds : {s a b : RigState} {level node : ℕ} {key : Record} {x : Turn} {upper : Entry}
    (l : ℕ) → level ≡ suc (suc l) → level - 1 ≡ suc l → CanSplitPath s level node key
    → ReadTurn key s a level node x → SplitsPath a b (level - 1) x.child key (Ok (Some upper))
    → CanAdd b level node x.at upper
path_adds {s} {a} {b} {level} {node} {key} {x} {upper} l e f i r h =
    let P : ℕ → Type 0 = λ n. CanAdd b n node x.at upper in
    subst P (sym e) (upper_can (on_path l e i r) (at_child a b level x.child key l (Ok (Some upper)) f h))

pub path_unadded : {s a b : RigState} {level node : ℕ} {key : Record} {x : Turn} {upper : Entry}
    (c : RigState) (l : ℕ) (e : EmFault) → level ≡ suc (suc l) → level - 1 ≡ suc l
    → CanSplitPath s level node key → ReadTurn key s a level node x
    → SplitsPath a b (level - 1) x.child key (Ok (Some upper)) → StopsTaking b c node e
    → StopsUpTo level (7 * level) (tree_blocks level s node) s c e
path_unadded {s} {a} {b} {level} {node} {key} {x} {upper} c l e up f i r h t =
    let P : ℕ → Type 0 = λ n. StopsUpTo n (7 * n) (tree_blocks n s node) s c e in
    subst P (sym up) (add_stopped (on_path l up i r) c e (at_child a b level x.child key l (Ok (Some upper)) f h) t)

-- the node after the new entry was put in
pub record HasUpper (s c : RigState) (l node entries : ℕ) (key : Record) : Type 0 where
  pub stage : Stage (suc l) (1 + (7 * suc l + 2)) s c (suc (suc l)) node key
  pub count : HasCount c node entries

pub path_added : {s a b c : RigState} {level node : ℕ} {key : Record} {x : Turn} {upper : Entry}
    (l : ℕ) → level ≡ suc (suc l) → level - 1 ≡ suc l → CanSplitPath s level node key
    → ReadTurn key s a level node x → SplitsPath a b (level - 1) x.child key (Ok (Some upper))
    → AddedEntry b c level node x.at upper → HasUpper s c l node (x.entries + 1) key
path_added {s} {a} {b} {c} {level} {node} {key} {x} {upper} l e f i r h t =
    let A : ℕ → Type 0 = λ n. AddedEntry b c n node x.at upper in
    let p = on_path l e i r in
    let d = at_child a b level x.child key l (Ok (Some upper)) f h in
    let add = subst A e t in
    record { stage = added_stage p d add; count = added_count p d add }

pub path_ends : {s c : RigState} {level node entries : ℕ} {key : Record} (t : RigState) (l : ℕ)
    (result : Result (Option Entry) EmFault) → level ≡ suc (suc l)
    → HasUpper s c l node entries key → SplitsFull c t node result
    → SplitsPath s t level node key result
path_ends {s} {c} {level} {node} {entries} {key} t l result e h x =
    let P : ℕ → Type 0 = λ n. SplitsPath s t n node key result in
    subst P (sym e) (stage_ends t result h.stage x (omega arith) (omega arith))

-- A node over leaves: what was read of it,
pub low_count : {s a : RigState} {level node : ℕ} {key : Record} {x : Turn} → level ≡ 1
    → CanSplitPath s level node key → ReadTurn key s a level node x → HasCount a node x.entries
low_count {s} {a} {level} {node} {key} {x} e i r =
    let C : ℕ → Type 0 = λ n. CanSplitPath s n node key in
    let R : ℕ → Type 0 = λ n. ReadTurn key s a n node x in
    let q = subst R e r in
    turn_count (path_read q.reads (subst C e i)) q

-- and what its split did.
pub low_ends : {s a : RigState} {level node : ℕ} {key : Record} {x : Turn} (t : RigState)
    (result : Result (Option Entry) EmFault) → level ≡ 1 → CanSplitPath s level node key
    → ReadTurn key s a level node x → SplitsFull a t node result
    → SplitsPath s t level node key result
low_ends {s} {a} {level} {node} {key} {x} t result e i r h =
    let C : ℕ → Type 0 = λ n. CanSplitPath s n node key in
    let R : ℕ → Type 0 = λ n. ReadTurn key s a n node x in
    let P : ℕ → Type 0 = λ n. SplitsPath s t n node key result in
    let j = subst C e i in
    let q = subst R e r in
    subst P (sym e) (stage_ends t result (stage_first j (path_read q.reads j) q) h (omega arith)
    (omega arith))

-- A node couldn't be read.
pub turn_stopped : {s t : RigState} {level : ℕ} (node : ℕ) {e : EmFault} → 0 < level
    → StopsReading 1 s t e → StopsUpTo level (7 * level) (tree_blocks level s node) s t e
turn_stopped {s} {t} {level} node {e} some x =
    stops_wider level (7 * level) (omega arith) (omega arith)
    (reads_stop_take (tree_blocks level s node) x)

-- a fault that is handed on
pub splits_of : {s t : RigState} {level : ℕ} (node : ℕ) (key : Record)
    (result : Result (Option Entry) EmFault) (e : EmFault) → IsErrAnd result (λ m. m ≡ e)
    → StopsUpTo level (7 * level) (tree_blocks level s node) s t e
    → SplitsPath s t level node key result
splits_of node key (Ok p) e h x = absurd h
splits_of {s} {t} {level} node key (Err m) e h x =
    let P : EmFault → Type 0 = λ f. StopsUpTo level (7 * level) (tree_blocks level s node) s t f in
    subst P (sym h) x

-- the levels of a node above level 1
pub above_one : (level : ℕ) → 0 < level → (level ≡ 1 → ⊥) → level ≡ suc (suc (level - 2))
above_one level some more = omega (arith, some, level_cases level some more)
  where
    level_cases : (n : ℕ) → 0 < n → (n ≡ 1 → ⊥) → 2 ≤ n
    level_cases zero some more = absurd (omega arith)
    level_cases (suc zero) some more = absurd (more refl)
    level_cases (suc (suc n)) some more = omega arith
