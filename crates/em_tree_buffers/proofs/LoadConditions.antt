-- What a load asks of a node's tree, and splits on a key's path of the whole tree: a call gives both.
use Rattle.std.proofs.Common.{◌≡◌, true, false, ℕ, zero, suc, ◌-◌, ◌<◌, ◌≤◌, List, [], ◌∷◌, length, refl, sym, ap, ◌∙◌, subst, arith, ⊎_elim}
use Rattle.std.specs.Prelude.{Option, Some, not}
use Rattle.std.proofs.lemmas.Bool.{cases_Bool, cond-false, cond-true, false≢true}
use Rattle.em_record.specs.Order.{is_below}
use Rattle.em_record.specs.declared.record.Record.{Record}
use Rattle.em_space.specs.Rig.{InUse, RigState}
use Rattle.em_node.specs.declared.entry.Entry.{Entry}
use Rattle.em_tree_model.specs.Places.{Place, put_at}
use Rattle.em_tree_model.specs.Places.Place.{here, past, under}
use Rattle.em_tree_model.specs.Ranges.{InRange, IsTree, low_of, next_low}
use Rattle.em_tree_model.specs.Tree.{HasEntry, IsChild, Tree, is_later}
use Rattle.em_tree_model.specs.Tree.Tree.{end, entry, leaf}
use Rattle.em_tree_model.proofs.Events.{placed}
use Rattle.em_tree_blocks.specs.Node.{linked_block}
use Rattle.em_tree_blocks.specs.Paths.{IsPath, child_at, level_on, node_on}
use Rattle.em_tree_blocks.specs.Reading.{IsTreeAt, entries_at, row_of, tree_at}
use Rattle.em_tree_cost.specs.Outline.{count_of}
use Rattle.em_tree_outline.specs.Outline.{outline_of}
use Rattle.em_tree_walk.specs.PathSplit.{row_length}
use Rattle.em_tree_walk.specs.SplitPaths.{IsPathClear, buffer_toward, child_toward}
use Rattle.em_tree_walk.specs.Lows.{LowsKeep}
use Rattle.em_tree_walk.specs.Stands.{EachChild, HasRows}
use Rattle.em_trunk.specs.Buffers.{ClearOver}
use Rattle.em_trunk.specs.Entries.{EachEntry}
use Rattle.em_trunk.specs.Sized.{NodesUnder}
use Rattle.em_trunk.proofs.PathNodes.{IsSmall, NodesBut}

-- what a place's node starts with
pub lows_placed : (key : Record → Record) (p : Place) (t : Tree) (lo : Record) (hi : Option Record)
    → (i : IsTree key (put_at p t) lo hi) → LowsKeep lo (put_at p t)
    → LowsKeep (placed key p t lo hi i).low t
lows_placed key here t lo hi i h = h
lows_placed key (under low b r p) t lo hi i h = lows_placed key p t lo (next_low hi r) i.2 h.1
lows_placed key (past low b c p) t lo hi i h = lows_placed key p t (low_of lo (put_at p t)) hi i.4 h.2

-- a node below a row has few entries
row_nodes_at : (n : ℕ) (child : ℕ → Tree) (s : RigState) (es : List Entry) (i : ℕ) → i < length es
    → NodesUnder n (outline_of (row_of child s es))
    → (count_of (outline_of (child (child_at i es))) < n)
    × NodesUnder n (outline_of (child (child_at i es)))
row_nodes_at n child s [] i h u = absurd (omega (arith, h))
row_nodes_at n child s (e ∷ es) zero h u = (u.0, u.1)
row_nodes_at n child s (e ∷ es) (suc i) h u = row_nodes_at n child s es i (omega (arith, h)) u.2

-- and so has each on a path
pub nodes_on : (n : ℕ) (path : List ℕ) (l : ℕ) (s : RigState) (k : ℕ) → IsPath path l s k
    → count_of (outline_of (tree_at l s k)) < n → NodesUnder n (outline_of (tree_at l s k))
    → count_of (outline_of (tree_at (level_on path l) s (node_on path l s k))) < n
nodes_on n [] l s k h few u = few
nodes_on n (i ∷ is) zero s k h few u = absurd h
nodes_on n (i ∷ is) (suc l) s k h few u =
    let a = row_nodes_at n (tree_at l s) s (entries_at s k) i h.0 u in
    nodes_on n is l s (child_at i (entries_at s k)) h.1 a.0 a.1

-- Each node of a tree has an entry, if the first has one and its keys are in their ranges.
rows_of_row : (key : Record → Record) (l : ℕ) (s : RigState) (es : List Entry) (lo : Record)
    (hi : Option Record)
    → ((k : ℕ) (a : Record) (b : Option Record) → IsTree key (tree_at l s k) a b → IsChild (tree_at l s k)
    → HasRows l s.device.contents k)
    → IsTree key (row_of (tree_at l s) s es) lo hi → EachChild (HasRows l s.device.contents) es
rows_of_row key l s [] lo hi f i = tt
rows_of_row key l s (e ∷ es) lo hi f i =
    let r = row_of (tree_at l s) s es in (
      f (linked_block e.child) lo (next_low hi r) i.2 i.0,
      rows_of_row key l s es (low_of lo r) hi f i.4,
    )

some_entries : (child : ℕ → Tree) (s : RigState) (es : List Entry) → IsChild (row_of child s es)
    → 0 < length es
some_entries child s [] h = absurd h
some_entries child s (e ∷ es) h = omega arith

pub rows_of : (key : Record → Record) (l : ℕ) (s : RigState) (k : ℕ) (lo : Record) (hi : Option Record)
    → IsTree key (tree_at l s k) lo hi → IsChild (tree_at l s k) → HasRows l s.device.contents k
rows_of key zero s k lo hi i c = tt
rows_of key (suc l) s k lo hi i c = (
  some_entries (tree_at l s) s (entries_at s k) c,
  rows_of_row key l s (entries_at s k) lo hi (λ j a b x y. rows_of key l s j a b x y) i,
)

-- the first block of a tree is in use
pub tree_in_use : (l : ℕ) (s : RigState) (k : ℕ) → IsTreeAt l s k → InUse s k
tree_in_use zero s k i = i.in_use
tree_in_use (suc l) s k i = i.0.in_use

-- by where the next entry begins
later_low : (q low : Record) → not (is_below q low) ≡ true → is_below q low ≡ false
later_low q low h = ⊎_elim
    (λ (t : is_below q low ≡ true). absurd (false≢true (sym (ap not t) ∙ h)))
    (λ (f : is_below q low ≡ false). f)
    (cases_Bool (is_below q low))

first_high : (q low : Record) → not (is_below q low) ≡ false → is_below q low ≡ true
first_high q low h = ⊎_elim
    (λ (t : is_below q low ≡ true). t)
    (λ (f : is_below q low ≡ false). absurd (false≢true (sym h ∙ ap not f)))
    (cases_Bool (is_below q low))

-- a leaf has no entries, and so no path goes on from it
leaf_clear : (n : ℕ) (q : Record) (l : ℕ) (xs : List Record) → 0 < n
    → IsPathClear n (suc (suc l)) q (leaf xs)
leaf_clear n q zero xs h = (h, refl, tt)
leaf_clear n q (suc l) xs h = (h, refl, leaf_clear n q l xs h)

-- What a row has on the way of a key: nothing waits there, and the child is in its range.
record Toward (key : Record → Record) (n : ℕ) (q : Record) (from : Record) (until : Option Record)
    (l : ℕ) (t : Tree) : Type 0 where
  lo : Record
  hi : Option Record
  empty : buffer_toward q t ≡ []
  is : IsTree key (child_toward q t) lo hi
  inside : InRange lo hi q
  clear : EachEntry (ClearOver 1 from until) (suc l) lo hi (child_toward q t)
  small : IsSmall n l (child_toward q t)
  but : NodesBut n q (child_toward q t) (suc l)
  some : IsChild (child_toward q t)

toward_from : {key : Record → Record} {n : ℕ} {q from : Record} {until : Option Record} {l : ℕ}
    (t u : Tree) → buffer_toward q u ≡ buffer_toward q t → child_toward q u ≡ child_toward q t
    → Toward key n q from until l t → Toward key n q from until l u
toward_from {key} {n} {q} {from} {until} {l} t u b c h = record {
  lo = h.lo;
  hi = h.hi;
  empty = b ∙ h.empty;
  is = rw c h.is;
  inside = h.inside;
  clear = rw c h.clear;
  small = rw c h.small;
  but = rw c h.but;
  some = rw c h.some;
}

toward : (key : Record → Record) (n : ℕ) (q from : Record) (until : Option Record) (l : ℕ) (t : Tree)
    (lo : Record) (hi : Option Record) → HasEntry t → InRange from until q → IsTree key t lo hi
    → InRange lo hi q → EachEntry (ClearOver 1 from until) (suc (suc l)) lo hi t
    → NodesBut n q t (suc (suc l)) → Toward key n q from until l t
toward key n q from until l (leaf xs) lo hi some among i h c k = absurd some
toward key n q from until l end lo hi some among i h c k = absurd some
toward key n q from until l (entry low b d (leaf xs)) lo hi some among i h c k = absurd i.3
toward key n q from until l (entry low b d end) lo hi some among i h c k =
    let down : suc (suc l) - 1 ≡ suc l = omega arith in
    let E : ℕ → Type 0 = λ m. EachEntry (ClearOver 1 from until) m lo hi d in
    let at = k.1 refl in
    record {
      lo = lo;
      hi = hi;
      empty = c.0 (omega arith) q among h;
      is = i.2;
      inside = h;
      clear = subst E down c.1;
      small = at.0.0;
      but = at.0.1;
      some = i.0;
    }
toward key n q from until l (entry low b d (entry low2 b2 d2 r2)) lo hi some among i h c k =
    let r = entry low2 b2 d2 r2 in
    let t = entry low b d r in
    let down : suc (suc l) - 1 ≡ suc l = omega arith in
    let E : ℕ → Type 0 = λ m. EachEntry (ClearOver 1 from until) m lo (Some low2) d in ⊎_elim
    (λ (later : is_later q r ≡ true).
    let in_rest : InRange low2 hi q = record { low = later_low q low2 later; high = h.high } in
    toward_from r t (cond-true _ _ _ later) (cond-true _ _ _ later)
    (toward key n q from until l (entry low2 b2 d2 r2) low2 hi tt among i.4 in_rest c.2 (k.0 later).1))
    (λ (first : is_later q r ≡ false).
    let inside : InRange lo (Some low2) q = record { low = h.low; high = first_high q low2 first } in
    let at = k.1 first in
    let e : child_toward q t ≡ d = cond-false _ _ _ first in
    let f : buffer_toward q t ≡ b = cond-false _ _ _ first in
    record {
      lo = lo;
      hi = Some low2;
      empty = f ∙ c.0 (omega arith) q among inside;
      is = rw e i.2;
      inside = inside;
      clear = rw e (subst E down c.1);
      small = rw e at.0.0;
      but = rw e at.0.1;
      some = rw e i.0;
    })
    (cases_Bool (is_later q r))

-- from a child on
path_down : (n : ℕ) (q : Record) (l : ℕ) (c : Tree) → IsChild c → IsSmall n l c
    → (HasEntry c → (2 ≤ suc l → row_length c < n) → IsPathClear n (suc l) q c)
    → IsPathClear n (suc l) q c
path_down n q zero c some small f = tt
path_down n q (suc l) (leaf xs) some small f = leaf_clear n q l xs small
path_down n q (suc l) end some small f = absurd some
path_down n q (suc l) (entry low b d r) some small f = f tt (λ z. small)

-- The path of a key among those of an entry over a leaf is clear.
pub path_clear : (key : Record → Record) (n : ℕ) (q from : Record) (until : Option Record) (level : ℕ)
    (t : Tree) (lo : Record) (hi : Option Record) → HasEntry t → InRange from until q
    → IsTree key t lo hi → InRange lo hi q → EachEntry (ClearOver 1 from until) level lo hi t
    → NodesBut n q t level → (2 ≤ level → row_length t < n) → IsPathClear n level q t
path_clear key n q from until zero t lo hi some among i h c k few = tt
path_clear key n q from until (suc zero) t lo hi some among i h c k few = tt
path_clear key n q from until (suc (suc l)) t lo hi some among i h c k few =
    let w = toward key n q from until l t lo hi some among i h c k in (
      few (omega arith),
      w.empty,
      path_down n q l (child_toward q t) w.some w.small
          (λ a m. path_clear key n q from until (suc l) (child_toward q t) w.lo w.hi a among w.is w.inside w.clear
          w.but m),
    )
