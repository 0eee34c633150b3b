-- The records of a tree of a bag are those of its contents, in order.
use Rattle.std.specs.Prelude.{◌≡◌, true, false, List, [], ◌∷◌, ◌++◌, Option, Some, None}
use Rattle.std.proofs.Common.{sym, ap, subst, ◌∙◌, refl, ⊎_elim}
use Rattle.std.proofs.lemmas.Bool.{cases_Bool, cond-true, cond-false}
use Rattle.em_record.specs.declared.record.Record.{Record}
use Rattle.em_record.specs.Order.{is_below, Lacks, with_record}
use Rattle.em_settle.specs.Bag.{bag_key_of, bag_step_of}
use Rattle.em_settle.specs.BagLaws as bag
use Rattle.em_settle.specs.Keys.{has_key, record_at}
use Rattle.em_settle.specs.Lists.{list_with_op}
use Rattle.em_settle.specs.Rising.{KeysAbove, RisesByKey}
use Rattle.em_settle.specs.States.{Stored, answers_to, stored_after, with_op, with_ops}
use Rattle.em_settle.proofs.Bags.{bag_with_op}
use Rattle.em_settle.proofs.Keys.{key_is, own_key}
use Rattle.em_settle.proofs.Lists.{list_after, list_at, list_rises, list_rises_after, none_above, rising_same}
use Rattle.em_settle.proofs.States.{with_same}
use Rattle.em_tree_model.specs.Meaning.{TakesOut, tree_contents, unless_taken, without}
use Rattle.em_tree_model.specs.Ranges.{AllIn, IsTree, least_record}
use Rattle.em_tree_model.specs.Tree.{Tree, stored_at, stored_in, waiting_at, waiting_in}
use Rattle.em_tree_model.proofs.Paths.{contents_by_path}
use Rattle.em_tree_model.proofs.Takes.{stored_rises}
use Rattle.em_trunk.proofs.Beginnings.{least_below}
use Rattle.em_pqueue.specs.Items.{tree_items}
use Rattle.em_pqueue.proofs.Rising.{EachBelow, at_first, at_second, lacks_at, rises_both}

-- all keys of a bag's tree are in their ranges
abbrev pub IsBag : Tree → Type 0
IsBag t = IsTree bag_key_of t least_record None

-- Their keys rise,
pub items_rise : (t : Tree) → IsBag t → RisesByKey bag_key_of (tree_items t)
items_rise t i = list_rises_after bag_key_of bag_step_of bag.keeps_key (stored_in t) (waiting_in t)
    (stored_rises bag_key_of t least_record None i)

-- and under each key stands the record of the contents.
pub items_at : (t : Tree) → IsBag t → (q : Record)
    → record_at bag_key_of (tree_items t) q ≡ tree_contents bag_key_of bag_step_of t q
items_at t i q =
    list_after bag_key_of bag_step_of bag.keeps_key (stored_in t) (waiting_in t) q
    (stored_rises bag_key_of t least_record None i)
    ∙ contents_by_path bag_key_of bag_step_of t least_record None q i
    (record { low = least_below q; high = tt })

-- A record was pushed whose words a and b none has.
pub items_pushed : (t u : Tree) (op : Record) → IsBag t → IsBag u → Lacks op (tree_items t)
    → ((q : Record) → tree_contents bag_key_of bag_step_of u q
    ≡ with_ops bag_key_of bag_step_of (tree_contents bag_key_of bag_step_of t) (op ∷ []) q)
    → tree_items u ≡ with_record op (tree_items t)
items_pushed t u op i j l h =
    rising_same bag_key_of (tree_items u) (list_with_op bag_key_of bag_step_of (tree_items t) op)
    (items_rise u j)
    (list_rises bag_key_of bag_step_of bag.keeps_key (tree_items t) op (items_rise t i))
    (λ q. items_at u j q ∙ (h q
    ∙ (sym (with_same bag_key_of bag_step_of (record_at bag_key_of (tree_items t))
    (tree_contents bag_key_of bag_step_of t) op (items_at t i) q)
    ∙ sym (list_at bag_key_of bag_step_of bag.keeps_key (tree_items t) op q (items_rise t i)))))
    ∙ bag_with_op (tree_items t) op l

-- the contents stay if nothing was pushed
pub items_same : (t u : Tree) → IsBag t → IsBag u
    → ((q : Record) → tree_contents bag_key_of bag_step_of u q
    ≡ tree_contents bag_key_of bag_step_of t q)
    → tree_items u ≡ tree_items t
items_same t u i j h = rising_same bag_key_of (tree_items u) (tree_items t) (items_rise u j)
    (items_rise t i) (λ q. items_at u j q ∙ (h q ∙ sym (items_at t i q)))

-- a key that is below all keys under which a record stands is below all of these
above_each : (k : Record) (zs : List Record) → RisesByKey bag_key_of zs
    → ((q z : Record) → record_at bag_key_of zs q ≡ Some z → is_below k q ≡ true)
    → KeysAbove bag_key_of k zs
above_each k [] r h = tt
above_each k (z ∷ zs) r h = (
  h (bag_key_of z) z (cond-true _ _ _ (own_key bag_key_of z)),
  above_each k zs r.1 (λ q w e. ⊎_elim
      (λ (t : has_key bag_key_of q z ≡ true).
      let P : Record → Type 0 = λ j. record_at bag_key_of zs j ≡ None in
      let none : record_at bag_key_of zs q ≡ None =
      subst P (key_is bag_key_of q z t) (none_above bag_key_of (bag_key_of z) zs r.0) in
      absurd (some_not_none w (sym e ∙ none)))
      (λ (f : has_key bag_key_of q z ≡ false). h q w (cond-false _ _ _ f ∙ e))
      (cases_Bool (has_key bag_key_of q z))),
)
  where
    some_not_none : (x : Record) → Some x ≡ None → ⊥
    some_not_none x e = cc

each_below : (ys zs : List Record) → RisesByKey bag_key_of zs
    → ((q z : Record) → record_at bag_key_of zs q ≡ Some z
    → AllIn bag_key_of least_record (Some q) ys)
    → EachBelow bag_key_of ys zs
each_below [] zs r h = tt
each_below (y ∷ ys) zs r h = (
  above_each (bag_key_of y) zs r (λ q z e. (h q z e).0.high),
  each_below ys zs r (λ q z e. (h q z e).1),
)

-- The least records were taken out.
pub items_taken : (t u : Tree) (ys : List Record) → IsBag t → IsBag u
    → TakesOut bag_key_of (tree_contents bag_key_of bag_step_of t) ys u
    → ((q : Record) → tree_contents bag_key_of bag_step_of u q
    ≡ without bag_key_of ys (tree_contents bag_key_of bag_step_of t) q)
    → tree_items t ≡ ys ++ tree_items u
items_taken t u ys i j k h =
    let zs = tree_items u in
    let left : (q z : Record) → record_at bag_key_of zs q ≡ Some z
    → AllIn bag_key_of least_record (Some q) ys =
    λ q z e. k.least q z (sym (h q) ∙ (sym (items_at u j q) ∙ e)) in
    rising_same bag_key_of (tree_items t) (ys ++ zs) (items_rise t i)
    (rises_both bag_key_of ys zs k.rises (items_rise u j) (each_below ys zs (items_rise u j) left))
    (λ q. pointwise q (record_at bag_key_of ys q) refl)
  where
    pointwise : (q : Record) (o : Option Record) → record_at bag_key_of ys q ≡ o
        → record_at bag_key_of (tree_items t) q ≡ record_at bag_key_of (ys ++ tree_items u) q
    pointwise q None e = items_at t i q
        ∙ (ap (λ o. unless_taken o (tree_contents bag_key_of bag_step_of t q)) (sym e)
        ∙ (sym (h q) ∙ (sym (items_at u j q) ∙ sym (at_second bag_key_of q ys (tree_items u) e))))
    pointwise q (Some y) e = items_at t i q
        ∙ (k.were q y e ∙ sym (at_first bag_key_of q y ys (tree_items u) e))

-- an operation leaves a record, so that none is stored and none waits if none is left
never_none : (x : Record) (ops : List Record) → stored_after bag_step_of (Some x) ops ≡ None → ⊥
never_none x [] e = cc
never_none x (op ∷ ops) e = never_none op ops e

none_left : (s : Option Record) (ops : List Record) → stored_after bag_step_of s ops ≡ None
    → (s ≡ None) × (ops ≡ [])
none_left None [] e = (refl, refl)
none_left (Some x) [] e = absurd (never_none x [] e)
none_left s (op ∷ ops) e = absurd (never_none op ops e)

-- Under the key of a record whose words a and b none has, nothing is stored, and nothing waits.
pub none_under : (t : Tree) (op : Record) → IsBag t → Lacks op (tree_items t)
    → (stored_at bag_key_of t (bag_key_of op) ≡ None)
    × (waiting_at bag_key_of t (bag_key_of op) ≡ [])
none_under t op i l =
    none_left (stored_at bag_key_of t (bag_key_of op)) (waiting_at bag_key_of t (bag_key_of op))
    (sym (items_at t i (bag_key_of op)) ∙ lacks_at op (tree_items t) l)

-- The operations of a bag answer nothing.
pub bag_answers_none : (m : Stored) (ops : List Record) → answers_to bag_key_of bag_step_of m ops ≡ []
bag_answers_none m [] = refl
bag_answers_none m (op ∷ ops) = bag_answers_none (with_op bag_key_of bag_step_of m op) ops

-- If nothing is in the contents there is no item,
pub items_none : (t : Tree) → IsBag t
    → ((q : Record) → tree_contents bag_key_of bag_step_of t q ≡ None) → tree_items t ≡ []
items_none t i h = rising_same bag_key_of (tree_items t) [] (items_rise t i) tt
    (λ q. items_at t i q ∙ h q)

-- and if something is, there is one.
pub items_some : (t : Tree) (q y : Record) → IsBag t
    → tree_contents bag_key_of bag_step_of t q ≡ Some y → tree_items t ≡ [] → ⊥
items_some t q y i h e =
    let P : List Record → Type 0 = λ l. record_at bag_key_of l q ≡ Some y in
    none_some y (subst P e (items_at t i q ∙ h))
  where
    none_some : (x : Record) → None ≡ Some x → ⊥
    none_some x z = cc
