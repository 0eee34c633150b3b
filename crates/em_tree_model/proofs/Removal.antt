-- The leftmost leaf is removed, with nothing stored there or waiting over it, and so are the nodes that it
-- leaves empty.
use Rattle.std.specs.Prelude.{◌≡◌, ℕ, zero, suc, List, [], ◌∷◌, ◌++◌, Option}
use Rattle.std.proofs.Common.{sym, ap, subst, ◌∙◌, refl}
use Rattle.std.proofs.lemmas.List.{append-nil}
use Rattle.em_record.specs.declared.record.Record.{Record}
use Rattle.em_settle.specs.declared.step.Step.{Step}
use Rattle.em_settle.specs.Keys.{of_key}
use Rattle.em_settle.specs.Laws.{IsSettle}
use Rattle.em_settle.proofs.States.{cons_not_nil}
use Rattle.em_tree_model.specs.Places.Place.{here}
use Rattle.em_tree_model.specs.Ranges.{Follow, IsTree, next_low}
use Rattle.em_tree_model.specs.Taking.{IsAlone, TakesFirst, lowered_first, with_first_child, without_first}
use Rattle.em_tree_model.specs.Tree.{Tree, HasEntry, HasLevel, IsChild, first_leaf, over_first, stored_in, waiting_in, with_first_leaf}
use Rattle.em_tree_model.specs.Tree.Tree.{leaf, end, entry}
use Rattle.em_tree_model.proofs.Advances.{advances_keep}
use Rattle.em_tree_model.proofs.Events.{Keeps}
use Rattle.em_tree_model.proofs.Ranges.{below_not}
use Rattle.em_tree_model.proofs.Splits.{cleared, lower_end}
use Rattle.em_tree_model.proofs.Taking.{takes_leaf, takes_none, takes_then}
use Rattle.em_tree_model.proofs.Whole.{holds_keep}

-- both parts of an empty list are empty
first_nil : (xs ys : List Record) → xs ++ ys ≡ [] → xs ≡ []
first_nil [] ys e = refl
first_nil (x ∷ xs) ys e = absurd (cons_not_nil x (xs ++ ys) e)

last_nil : (xs ys : List Record) → xs ++ ys ≡ [] → ys ≡ []
last_nil [] ys e = e
last_nil (x ∷ xs) ys e = absurd (cons_not_nil x (xs ++ ys) e)

-- A tree of one leaf has what that leaf has,
pub alone_stored : (t : Tree) → IsAlone t → stored_in t ≡ first_leaf t
alone_stored (leaf xs) a = refl
alone_stored end a = absurd a
alone_stored (entry low b c r) a = ap (λ z. stored_in c ++ stored_in z) a.0
    ∙ (append-nil (stored_in c) ∙ alone_stored c a.1)

-- and what waits in it waits over that leaf.
pub alone_waiting : (t : Tree) → IsAlone t → waiting_in t ≡ over_first t
alone_waiting (leaf xs) a = refl
alone_waiting end a = absurd a
alone_waiting (entry low b c r) a = ap (λ z. (waiting_in c ++ b) ++ waiting_in z) a.0
    ∙ (append-nil (waiting_in c ++ b) ∙ ap (λ zs. zs ++ b) (alone_waiting c a.1))

-- other records in the leftmost leaf
pub alone_with : (t : Tree) (zs : List Record) → IsAlone t → IsAlone (with_first_leaf t zs)
alone_with (leaf xs) zs a = tt
alone_with end zs a = absurd a
alone_with (entry low b c r) zs a = (a.0, alone_with c zs a.1)

pub first_with : (t : Tree) (zs : List Record) → IsAlone t → first_leaf (with_first_leaf t zs) ≡ zs
first_with (leaf xs) zs a = refl
first_with end zs a = absurd a
first_with (entry low b c r) zs a = first_with c zs a.1

-- a leftmost leaf that has a record is there
pub put_first : (t : Tree) (y : Record) (ys zs : List Record) → first_leaf t ≡ y ∷ ys
    → first_leaf (with_first_leaf t zs) ≡ zs
put_first (leaf xs) y ys zs e = refl
put_first end y ys zs e = absurd (cons_not_nil y ys (sym e))
put_first (entry low b c r) y ys zs e = put_first c y ys zs e

none_first : (t : Tree) → first_leaf (with_first_leaf t []) ≡ []
none_first (leaf xs) = refl
none_first end = refl
none_first (entry low b c r) = none_first c

child_with : (t : Tree) (zs : List Record) → IsChild t → IsChild (with_first_leaf t zs)
child_with (leaf xs) zs n = tt
child_with end zs n = n
child_with (entry low b c r) zs n = tt

pub over_with : (t : Tree) (zs : List Record) → over_first (with_first_leaf t zs) ≡ over_first t
over_with (leaf xs) zs = refl
over_with end zs = refl
over_with (entry low b c r) zs = ap (λ ws. ws ++ b) (over_with c zs)

pub without_with : (t : Tree) (zs : List Record) → without_first (with_first_leaf t zs) ≡ without_first t
without_with (leaf xs) zs = refl
without_with end zs = refl
without_with (entry low b c r) zs = ap (λ x. with_first_child x low b r) (without_with c zs)

-- A tree of one leaf has nothing left without it.
pub alone_gone : (t : Tree) → IsAlone t → without_first t ≡ end
alone_gone (leaf xs) a = refl
alone_gone end a = absurd a
alone_gone (entry low b c r) a = ap (λ x. with_first_child x low b r) (alone_gone c a.1)
    ∙ ap lowered_first a.0

-- low keys don't matter to what a tree has
pub lowered_stored : (t : Tree) → stored_in (lowered_first t) ≡ stored_in t
lowered_stored (leaf xs) = refl
lowered_stored end = refl
lowered_stored (entry low b c r) = ap (λ xs. xs ++ stored_in r) (lowered_stored c)

pub lowered_waiting : (t : Tree) → waiting_in (lowered_first t) ≡ waiting_in t
lowered_waiting (leaf xs) = refl
lowered_waiting end = refl
lowered_waiting (entry low b c r) = ap (λ xs. (xs ++ b) ++ waiting_in r) (lowered_waiting c)

lowered_some : (t : Tree) → IsChild t → IsChild (lowered_first t)
lowered_some (leaf xs) n = tt
lowered_some end n = n
lowered_some (entry low b c r) n = tt

lowered_level : (t : Tree) (n : ℕ) → HasLevel t n → HasLevel (lowered_first t) n
lowered_level (leaf xs) n h = h
lowered_level end n h = h
lowered_level (entry low b c r) zero h = absurd h
lowered_level (entry low b c r) (suc n) h = (lowered_level c n h.0, h.1)

level_by : (low : Record) (b : List Record) (r x : Tree) (n : ℕ) → HasLevel r (suc n)
    → (HasEntry x → HasLevel x n) → HasLevel (with_first_child x low b r) (suc n)
level_by low b r (leaf xs) n h k = lowered_level r (suc n) h
level_by low b r end n h k = lowered_level r (suc n) h
level_by low b r (entry low2 b2 c2 r2) n h k = (k tt, h)

-- A node without its leftmost leaf is of the same level.
pub without_level : (t : Tree) (n : ℕ) → HasLevel t (suc n) → HasLevel (without_first t) (suc n)
without_level (leaf xs) n h = tt
without_level end n h = tt
without_level (entry low b (leaf xs) r) n h = lowered_level r (suc n) h.1
without_level (entry low b end r) n h = lowered_level r (suc n) h.1
without_level (entry low b (entry low2 b2 c2 r2) r) zero h = absurd h.0
without_level (entry low b (entry low2 b2 c2 r2) r) (suc n) h =
    let c = entry low2 b2 c2 r2 in
    level_by low b r (without_first c) (suc n) h.1 (λ k. without_level c n h.0)

module _ (key : Record → Record) where
  -- nor to its ranges, if they are those of first entries
  pub lowered_tree : (t : Tree) (lo : Record) (hi : Option Record) → IsTree key t lo hi
      → IsTree key (lowered_first t) lo hi
  lowered_tree (leaf xs) lo hi i = i
  lowered_tree end lo hi i = tt
  lowered_tree (entry low b c r) lo hi i =
      (lowered_some c i.0, i.1, lowered_tree c lo (next_low hi r) i.2, i.3, i.4)

  some_by : (low : Record) (b : List Record) (c r : Tree) (lo : Record) (hi : Option Record) (x : Tree)
      → Follow lo hi r → ((r ≡ end) → HasEntry x) → HasEntry (with_first_child x low b r)
  some_by low b c (leaf xs) lo hi x f h = absurd f
  some_by low b c end lo hi (leaf xs) f h = absurd (h refl)
  some_by low b c end lo hi end f h = absurd (h refl)
  some_by low b c end lo hi (entry low2 b2 c2 r2) f h = tt
  some_by low b c (entry low3 b3 c3 r3) lo hi (leaf xs) f h = tt
  some_by low b c (entry low3 b3 c3 r3) lo hi end f h = tt
  some_by low b c (entry low3 b3 c3 r3) lo hi (entry low2 b2 c2 r2) f h = tt

  -- A tree of more leaves has an entry left.
  pub some_left : (t : Tree) (lo : Record) (hi : Option Record) → IsChild t → IsTree key t lo hi
      → (IsAlone t → ⊥) → HasEntry (without_first t)
  some_left (leaf xs) lo hi n i a = absurd (a tt)
  some_left end lo hi n i a = absurd n
  some_left (entry low b c r) lo hi n i a = some_by low b c r lo hi (without_first c) i.3
      (λ e. some_left c lo (next_low hi r) i.0 i.2 (λ h. a (e, h)))

  -- What is left of a tree without its leftmost leaf: nothing, or a node with all that it had.
  abbrev Leaves : Tree → Tree → Record → Option Record → Type 0
  Leaves t (leaf xs) lo hi = ⊥
  Leaves t end lo hi = (stored_in t ≡ []) × (waiting_in t ≡ [])
  Leaves t (entry low b c r) lo hi = IsTree key (entry low b c r) lo hi
      × (stored_in (entry low b c r) ≡ stored_in t) × (waiting_in (entry low b c r) ≡ waiting_in t)

  -- the first child went
  child_gone : (low : Record) (b : List Record) (c r : Tree) (lo : Record) (hi : Option Record)
      → IsTree key (entry low b c r) lo hi → b ≡ [] → stored_in c ≡ [] → waiting_in c ≡ []
      → Leaves (entry low b c r) (lowered_first r) lo hi
  child_gone low b c (leaf xs) lo hi i e s w = absurd i.3
  child_gone low b c end lo hi i e s w = (
    ap (λ zs. zs ++ []) s,
    ap (λ zs. (zs ++ b) ++ []) w ∙ ap (λ zs. zs ++ []) e,
  )
  child_gone low b c (entry low2 b2 c2 r2) lo hi i e s w =
      let r = entry low2 b2 c2 r2 in (
        lowered_tree r lo hi (lower_end key r low2 lo hi (below_not lo low2 i.3.0) i.4),
        lowered_stored r ∙ sym (ap (λ zs. zs ++ stored_in r) s),
        lowered_waiting r ∙ sym (ap (λ zs. (zs ++ b) ++ waiting_in r) w ∙ ap (λ zs. zs ++ waiting_in r) e),
      )

  left_by : (low : Record) (b : List Record) (c r : Tree) (lo : Record) (hi : Option Record)
      → IsTree key (entry low b c r) lo hi → b ≡ [] → (x : Tree) → Leaves c x lo (next_low hi r)
      → Leaves (entry low b c r) (with_first_child x low b r) lo hi
  left_by low b c r lo hi i e (leaf xs) h = absurd h
  left_by low b c r lo hi i e end h = child_gone low b c r lo hi i e h.0 h.1
  left_by low b c r lo hi i e (entry low2 b2 c2 r2) h = (
    (tt, i.1, h.0, i.3, i.4),
    ap (λ zs. zs ++ stored_in r) h.1,
    ap (λ zs. (zs ++ b) ++ waiting_in r) h.2,
  )

  left_of : (t : Tree) (lo : Record) (hi : Option Record) → IsChild t → IsTree key t lo hi
      → first_leaf t ≡ [] → over_first t ≡ [] → Leaves t (without_first t) lo hi
  left_of (leaf xs) lo hi n i e o = (e, refl)
  left_of end lo hi n i e o = absurd n
  left_of (entry low b c r) lo hi n i e o = left_by low b c r lo hi i (last_nil (over_first c) b o)
      (without_first c)
      (left_of c lo (next_low hi r) i.0 i.2 e (first_nil (over_first c) b o))

  -- The tree without its leftmost leaf has what it had, in its range.
  pub record LeafGone (t u : Tree) (lo : Record) (hi : Option Record) : Type 0 where
    pub some : IsChild u
    pub is : IsTree key u lo hi
    pub stored : stored_in u ≡ stored_in t
    pub waiting : waiting_in u ≡ waiting_in t

  gone_by : (t u : Tree) (lo : Record) (hi : Option Record) → HasEntry u → Leaves t u lo hi
      → LeafGone t u lo hi
  gone_by t (leaf xs) lo hi n h = absurd n
  gone_by t end lo hi n h = absurd n
  gone_by t (entry low b c r) lo hi n h = record { some = tt; is = h.0; stored = h.1; waiting = h.2 }

  pub leaf_gone : (t : Tree) (lo : Record) (hi : Option Record) → IsChild t → IsTree key t lo hi
      → first_leaf t ≡ [] → over_first t ≡ [] → HasEntry (without_first t)
      → LeafGone t (without_first t) lo hi
  leaf_gone t lo hi n i e o s = gone_by t (without_first t) lo hi s (left_of t lo hi n i e o)

  -- The leftmost leaf under an entry is removed.
  pub leaf_removed : (low : Record) (b : List Record) (t r : Tree) → IsChild t → first_leaf t ≡ []
      → over_first t ≡ [] → HasEntry (without_first t)
      → Keeps key (entry low b t r) (entry low b (without_first t) r)
  leaf_removed low b t r n e o s = record {
    start = refl;
    is = λ lo hi i.
        let g = leaf_gone t lo (next_low hi r) n i.2 e o s in (g.some, i.1, g.is, i.3, i.4);
    means = λ lo hi i.
        let g = leaf_gone t lo (next_low hi r) n i.2 e o s in
        record {
          stored = ap (λ zs. zs ++ stored_in r) g.stored;
          waiting = λ q. ap (of_key key q) (ap (λ zs. (zs ++ b) ++ waiting_in r) (sym g.waiting));
        };
  }

  -- A tree of one leaf with nothing stored or waiting is a new one.
  pub alone_cleared : (low : Record) (b : List Record) (root : Tree) (first : Record) → IsAlone root
      → first_leaf root ≡ [] → over_first root ≡ [] → b ≡ []
      → Keeps key (entry low b root end) (entry low [] (entry first [] (leaf []) end) end)
  alone_cleared low b root first a e o empty =
      let u = entry low b root end in
      let alone : IsAlone u = (refl, a) in
      cleared key low b root first (alone_stored u alone ∙ e)
      (alone_waiting u alone ∙ (ap (λ zs. zs ++ b) o ∙ empty))

  module _ (step : Option Record → Record → Step) (IsOp IsKept : Record → Type 0)
      (laws : IsSettle key step IsOp IsKept) where
    -- A change that keeps meaning takes nothing.
    pub takes_keep : (given : List Record) (t u : Tree) → Keeps key t u
        → TakesFirst key step IsOp IsKept given t [] given u
    takes_keep given t u k = takes_none key step IsOp IsKept given t given u
        (λ contents answers r. holds_keep key step IsOp IsKept laws contents answers given here t u k r)
        (λ contents answers r q. advances_keep key step here t u q k r.is)

    takes_kept : (given : List Record) (t : Tree) (ys : List Record) (u v : Tree)
        → TakesFirst key step IsOp IsKept given t ys given u → Keeps key u v
        → TakesFirst key step IsOp IsKept given t ys given v
    takes_kept given t ys u v a k =
        let P : List Record → Type 0 = λ zs. TakesFirst key step IsOp IsKept given t zs given v in
        subst P (append-nil ys)
        (takes_then key step IsOp IsKept given t ys given u [] given v a (takes_keep given u v k))

    -- All records of the leftmost leaf are taken, and the leaf is removed, which isn't the last.
    pub takes_whole_leaf : (given ys : List Record) (low : Record) (b : List Record) (root : Tree)
        → IsChild root → first_leaf root ≡ ys → over_first root ≡ [] → b ≡ []
        → HasEntry (without_first root)
        → TakesFirst key step IsOp IsKept given (entry low b root end) ys given
        (entry low b (without_first root) end)
    takes_whole_leaf given ys low b root n e o empty some =
        let t = entry low b root end in
        let left = with_first_leaf root [] in
        let P : Tree → Type 0 = λ x. TakesFirst key step IsOp IsKept given t ys given (entry low b x end) in
        let Q : Tree → Type 0 = HasEntry in
        subst P (without_with root []) (takes_kept given t ys (entry low b left end)
        (entry low b (without_first left) end)
        (takes_leaf key step IsOp IsKept given t ys [] tt (e ∙ sym (append-nil ys))
        (ap (λ zs. zs ++ b) o ∙ empty))
        (leaf_removed low b left end (child_with root [] n) (none_first root) (over_with root [] ∙ o)
        (subst Q (sym (without_with root [])) some)))

    -- All records of a tree of one leaf are taken, in which nothing waits: a new tree is in its place.
    pub takes_last_leaf : (given ys : List Record) (low : Record) (b : List Record) (root : Tree)
        (first : Record) → IsAlone root → first_leaf root ≡ ys → over_first root ≡ [] → b ≡ []
        → TakesFirst key step IsOp IsKept given (entry low b root end) ys given
        (entry low [] (entry first [] (leaf []) end) end)
    takes_last_leaf given ys low b root first a e o empty =
        let t = entry low b root end in
        let left = with_first_leaf root [] in
        takes_kept given t ys (entry low b left end) (entry low [] (entry first [] (leaf []) end) end)
        (takes_leaf key step IsOp IsKept given t ys [] tt (e ∙ sym (append-nil ys))
        (ap (λ zs. zs ++ b) o ∙ empty))
        (alone_cleared low b left first (alone_with root [] a) (none_first root)
        (over_with root [] ∙ o) empty)
