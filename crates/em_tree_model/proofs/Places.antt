-- A change at a place in a tree.
use Rattle.std.specs.Prelude.{◌≡◌, true, List, [], ◌++◌, Option, Some}
use Rattle.std.proofs.Common.{sym, ap, subst, ◌∙◌, refl, append_assoc}
use Rattle.std.proofs.lemmas.List.{append-nil}
use Rattle.em_record.specs.declared.record.Record.{Record}
use Rattle.em_record.specs.Order.{is_below}
use Rattle.em_settle.specs.Keys.{of_key, SameByKey}
use Rattle.em_settle.proofs.Keys.{of_key_append}
use Rattle.em_tree_model.specs.Tree.{Tree, stored_in, waiting_in, IsChild, HasEntry}
use Rattle.em_tree_model.specs.Tree.Tree.{leaf, end, entry}
use Rattle.em_tree_model.specs.Ranges.{Under, AllIn, next_low, low_of, Follow, IsTree}
use Rattle.em_tree_model.specs.Places.{Place, put_at, SameStart}
use Rattle.em_tree_model.specs.Places.Place.{here, under, past}

-- the operations that wait before a place, and after it
abbrev pub waiting_before : Place → List Record
waiting_before here = []
waiting_before (under low b r p) = waiting_before p
waiting_before (past low b c p) = (waiting_in c ++ b) ++ waiting_before p

abbrev pub waiting_past : Place → List Record
waiting_past here = []
waiting_past (under low b r p) = (waiting_past p ++ b) ++ waiting_in r
waiting_past (past low b c p) = waiting_past p

-- the stored records before a place, and after it
abbrev pub stored_before : Place → List Record
stored_before here = []
stored_before (under low b r p) = stored_before p
stored_before (past low b c p) = stored_in c ++ stored_before p

abbrev pub stored_past : Place → List Record
stored_past here = []
stored_past (under low b r p) = stored_past p ++ stored_in r
stored_past (past low b c p) = stored_past p

pub has_put : (p : Place) (t : Tree) → HasEntry t → HasEntry (put_at p t)
has_put here t n = n
has_put (under low b r p) t n = tt
has_put (past low b c p) t n = tt

pub waiting_put : (p : Place) (t : Tree)
    → waiting_in (put_at p t) ≡ waiting_before p ++ (waiting_in t ++ waiting_past p)
waiting_put here t = sym (append-nil (waiting_in t))
waiting_put (under low b r p) t =
    let w = waiting_in t in
    ap (λ zs. (zs ++ b) ++ waiting_in r) (waiting_put p t)
    ∙ (append_assoc (waiting_before p ++ (w ++ waiting_past p)) b (waiting_in r)
    ∙ (append_assoc (waiting_before p) (w ++ waiting_past p) (b ++ waiting_in r)
    ∙ ap (λ zs. waiting_before p ++ zs) (append_assoc w (waiting_past p) (b ++ waiting_in r)
    ∙ ap (λ zs. w ++ zs) (sym (append_assoc (waiting_past p) b (waiting_in r))))))
waiting_put (past low b c p) t =
    ap (λ zs. (waiting_in c ++ b) ++ zs) (waiting_put p t)
    ∙ sym (append_assoc (waiting_in c ++ b) (waiting_before p) (waiting_in t ++ waiting_past p))

pub stored_put : (p : Place) (t : Tree)
    → stored_in (put_at p t) ≡ stored_before p ++ (stored_in t ++ stored_past p)
stored_put here t = sym (append-nil (stored_in t))
stored_put (under low b r p) t =
    let s = stored_in t in
    ap (λ zs. zs ++ stored_in r) (stored_put p t)
    ∙ (append_assoc (stored_before p) (s ++ stored_past p) (stored_in r)
    ∙ ap (λ zs. stored_before p ++ zs) (append_assoc s (stored_past p) (stored_in r)))
stored_put (past low b c p) t =
    ap (λ zs. stored_in c ++ zs) (stored_put p t)
    ∙ sym (append_assoc (stored_in c) (stored_before p) (stored_in t ++ stored_past p))

pub start_put : (p : Place) (t u : Tree) → SameStart t u → SameStart (put_at p t) (put_at p u)
start_put here t u s = s
start_put (under low b r p) t u s = refl
start_put (past low b c p) t u s = refl

pub next_same : (hi : Option Record) (t u : Tree) → SameStart t u → next_low hi t ≡ next_low hi u
next_same hi (leaf xs) (leaf ys) s = refl
next_same hi (leaf xs) end s = absurd s
next_same hi (leaf xs) (entry low b c r) s = absurd s
next_same hi end (leaf ys) s = absurd s
next_same hi end end s = refl
next_same hi end (entry low b c r) s = absurd s
next_same hi (entry low b c r) (leaf ys) s = absurd s
next_same hi (entry low b c r) end s = absurd s
next_same hi (entry low b c r) (entry low2 b2 c2 r2) s = ap Some s

pub low_same : (lo : Record) (t u : Tree) → SameStart t u → low_of lo t ≡ low_of lo u
low_same lo (leaf xs) (leaf ys) s = refl
low_same lo (leaf xs) end s = absurd s
low_same lo (leaf xs) (entry low b c r) s = absurd s
low_same lo end (leaf ys) s = absurd s
low_same lo end end s = refl
low_same lo end (entry low b c r) s = absurd s
low_same lo (entry low b c r) (leaf ys) s = absurd s
low_same lo (entry low b c r) end s = absurd s
low_same lo (entry low b c r) (entry low2 b2 c2 r2) s = s

pub some_same : (t u : Tree) → SameStart t u → IsChild t → IsChild u
some_same (leaf xs) (leaf ys) s i = tt
some_same (leaf xs) end s i = s
some_same (leaf xs) (entry low b c r) s i = tt
some_same end u s i = absurd i
some_same (entry low b c r) (leaf ys) s i = tt
some_same (entry low b c r) end s i = s
some_same (entry low b c r) (entry low2 b2 c2 r2) s i = tt

pub follow_same : (lo : Record) (hi : Option Record) (t u : Tree) → SameStart t u → Follow lo hi t
    → Follow lo hi u
follow_same lo hi (leaf xs) u s f = absurd f
follow_same lo hi end (leaf ys) s f = absurd s
follow_same lo hi end end s f = tt
follow_same lo hi end (entry low b c r) s f = absurd s
follow_same lo hi (entry low b c r) (leaf ys) s f = absurd s
follow_same lo hi (entry low b c r) end s f = absurd s
follow_same lo hi (entry low b c r) (entry low2 b2 c2 r2) s f =
    let P : Record → Type 0 = λ k. (is_below lo k ≡ true) × Under hi k in subst P s f

module _ (key : Record → Record) where
  -- another child, or other entries after one, with a start of the same low key
  pub child_put : (t u : Tree) → SameStart t u → (low : Record) (b : List Record) (r : Tree)
      → ((lo : Record) (hi : Option Record) → IsTree key t lo hi → IsTree key u lo hi)
      → (lo : Record) (hi : Option Record) → IsTree key (entry low b t r) lo hi
      → IsTree key (entry low b u r) lo hi
  child_put t u s low b r h lo hi i =
      (some_same t u s i.0, i.1, h lo (next_low hi r) i.2, i.3, i.4)

  rest_put : (t u : Tree) → SameStart t u → (low : Record) (b : List Record) (c : Tree)
      → ((lo : Record) (hi : Option Record) → IsTree key t lo hi → IsTree key u lo hi)
      → (lo : Record) (hi : Option Record) → IsTree key (entry low b c t) lo hi
      → IsTree key (entry low b c u) lo hi
  rest_put t u s low b c h lo hi i =
      let e = next_same hi t u s in
      let P : Option Record → Type 0 = λ top. AllIn key lo top b in
      let Q : Option Record → Type 0 = λ top. IsTree key c lo top in
      let R : Record → Type 0 = λ l. IsTree key u l hi in (
        i.0,
        subst P e i.1,
        subst Q e i.2,
        follow_same lo hi t u s i.3,
        subst R (low_same lo t u s) (h (low_of lo t) hi i.4),
      )

  -- A change at a place that is right in every range, and begins with the same low key.
  pub tree_put : (p : Place) (t u : Tree) → SameStart t u
      → ((lo : Record) (hi : Option Record) → IsTree key t lo hi → IsTree key u lo hi)
      → (lo : Record) (hi : Option Record) → IsTree key (put_at p t) lo hi
      → IsTree key (put_at p u) lo hi
  tree_put here t u s h lo hi i = h lo hi i
  tree_put (under low b r p) t u s h lo hi i = child_put (put_at p t) (put_at p u)
      (start_put p t u s) low b r (tree_put p t u s h) lo hi i
  tree_put (past low b c p) t u s h lo hi i = rest_put (put_at p t) (put_at p u)
      (start_put p t u s) low b c (tree_put p t u s h) lo hi i

  -- Operations of each key in the same order at a place are so in the whole.
  pub same_put : (p : Place) (t u : Tree) → SameByKey key (waiting_in t) (waiting_in u)
      → SameByKey key (waiting_in (put_at p t)) (waiting_in (put_at p u))
  same_put p t u s q =
      ap (of_key key q) (waiting_put p t)
      ∙ (of_key_append key q (waiting_before p) (waiting_in t ++ waiting_past p)
      ∙ (ap (λ zs. of_key key q (waiting_before p) ++ zs) (of_key_append key q (waiting_in t) (waiting_past p)
      ∙ (ap (λ zs. zs ++ of_key key q (waiting_past p)) (s q)
      ∙ sym (of_key_append key q (waiting_in u) (waiting_past p))))
      ∙ (sym (of_key_append key q (waiting_before p) (waiting_in u ++ waiting_past p))
      ∙ ap (of_key key q) (sym (waiting_put p u)))))

  pub stored_same : (p : Place) (t u : Tree) → stored_in t ≡ stored_in u
      → stored_in (put_at p t) ≡ stored_in (put_at p u)
  stored_same p t u s = stored_put p t
      ∙ (ap (λ zs. stored_before p ++ (zs ++ stored_past p)) s ∙ sym (stored_put p u))
