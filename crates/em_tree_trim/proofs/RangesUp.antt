-- Keys of trees that stand beside each other, and of nodes over them.
use Rattle.std.proofs.Common.{◌≡◌, true, false, ℕ, suc, ◌<◌, ◌≤◌, List, [], ◌∷◌, ◌++◌, get_or, length, refl, sym, ap, ◌∙◌, subst, arith, Option, Some}
use Rattle.std.proofs.lemmas.List.{append-nil}
use Rattle.em_record.specs.Order.{is_below}
use Rattle.em_record.specs.Shape.{fan_of}
use Rattle.em_record.specs.declared.record.Record.{Record}
use Rattle.em_settle.specs.Orders.{below_trans}
use Rattle.em_space.specs.Rig.{RigState}
use Rattle.em_node.specs.declared.entry.Entry.{Entry}
use Rattle.em_node.specs.Node.{no_entry}
use Rattle.em_tree_model.specs.Ranges.{AllIn, IsTree, Under}
use Rattle.em_tree_model.specs.Tree.{IsChild}
use Rattle.em_tree_blocks.specs.Node.{linked_block}
use Rattle.em_tree_blocks.specs.Reading.{entries_at}
use Rattle.em_tree_walk.specs.Lows.{LowsKeep}
use Rattle.em_tree_raise.specs.Raising.{AreFreshEntries, LeadToNodes, entries_below}
use Rattle.em_tree_trim.proofs.RowsUp.{fresh_items, row_at}

-- A list with an entry: the first one, and the others.
record HasFirst (es : List Entry) : Type 0 where
  pub first : Entry
  pub others : List Entry
  pub is : es ≡ first ∷ others

has_first : (es : List Entry) → 0 < length es → HasFirst es
has_first [] h = absurd (omega (arith, h))
has_first (e ∷ es) h = record { first = e; others = es; is = refl }

module _ (key : Record → Record) (t : RigState) (l : ℕ) where
  -- A row in two parts, each in its range.
  record TwoParts (xs : List Entry) (e : Entry) (es : List Entry) (lo : Record) (hi : Option Record) : Type 0 where
    first : IsTree key (row_at l t xs) lo (Some e.low)
    above : is_below lo e.low ≡ true
    under : Under hi e.low
    last : IsTree key (row_at l t (e ∷ es)) e.low hi

  two_parts : (x : Entry) (xs : List Entry) (e : Entry) (es : List Entry) (lo : Record) (hi : Option Record)
      → IsTree key (row_at l t (x ∷ xs ++ e ∷ es)) lo hi → TwoParts (x ∷ xs) e es lo hi
  two_parts x [] e es lo hi i = record {
    first = (i.0, i.1, i.2, tt, tt);
    above = i.3.0;
    under = i.3.1;
    last = i.4;
  }
  two_parts x (y ∷ ys) e es lo hi i =
      let h = two_parts y ys e es y.low hi i.4 in
      record {
        first = (i.0, i.1, i.2, (i.3.0, h.above), h.first);
        above = below_trans lo y.low e.low i.3.0 h.above;
        under = h.under;
        last = h.last;
      }

  child_some : (es : List Entry) → 0 < length es → IsChild (row_at l t es)
  child_some [] h = absurd (omega (arith, h))
  child_some (e ∷ es) h = tt

  module _ (some : 1 ≤ fan_of t.pool.shape) where
    -- The keys of nodes over them are in their ranges.
    pub ranges_up : (ns : List Entry) (lo : Record) (hi : Option Record) → AreFreshEntries t.blocks ns
        → LeadToNodes t (suc l) ns → IsTree key (row_at l t (entries_below t ns)) lo hi
        → IsTree key (row_at (suc l) t ns) lo hi
    ranges_up [] lo hi f d i = tt
    ranges_up (n ∷ []) lo hi f d i =
        let es = entries_at t (linked_block n.child) in
        let many = d.0.many in
        let A : List Record → Type 0 = AllIn key lo hi in
        let P : List Entry → Type 0 = λ xs. IsTree key (row_at l t xs) lo hi in (
          child_some es (omega (arith, many, some)),
          subst A (sym (fresh_items t f.0)) tt,
          subst P (append-nil es) i,
          tt,
          tt,
        )
    ranges_up (n ∷ m ∷ ns) lo hi f d i =
        let es = entries_at t (linked_block n.child) in
        let fs = entries_at t (linked_block m.child) in
        let many = d.0.many in
        let more = d.1.0.many in
        let a = has_first es (omega (arith, many, some)) in
        let c = has_first fs (omega (arith, more, some)) in
        let rest = c.others ++ entries_below t ns in
        let low : m.low ≡ c.first.low =
        d.1.0.low_is ∙ ap (λ (xs : List Entry). (get_or xs 0 no_entry).low) c.is in
        let P : List Entry → Type 0 = λ xs. IsTree key (row_at l t xs) lo hi in
        let same = ap (λ (xs : List Entry). es ++ (xs ++ entries_below t ns)) c.is
        ∙ ap (λ (xs : List Entry). xs ++ c.first ∷ rest) a.is in
        let p = two_parts a.first a.others c.first rest lo hi (subst P same i) in
        let A : List Record → Type 0 = AllIn key lo (Some m.low) in
        let B : Record → Type 0 = λ k. IsTree key (row_at l t (a.first ∷ a.others)) lo (Some k) in
        let C : List Entry → Type 0 = λ xs. IsTree key (row_at l t xs) lo (Some m.low) in
        let E : Record → Type 0 = λ k. is_below lo k ≡ true in
        let U : Record → Type 0 = λ k. Under hi k in
        let L : Record → Type 0 = λ k. IsTree key (row_at l t (c.first ∷ rest)) k hi in
        let M : List Entry → Type 0 = λ xs. IsTree key (row_at l t (xs ++ entries_below t ns)) m.low hi in
        let back = sym low in (
          child_some es (omega (arith, many, some)),
          subst A (sym (fresh_items t f.0)) tt,
          subst C (sym a.is) (subst B back p.first),
          (subst E back p.above, subst U back p.under),
          ranges_up (m ∷ ns) m.low hi f.1 d.1 (subst M (sym c.is) (subst L back p.last)),
        )

    -- The first low key of each is at most the start of its range.
    lows_front : (lo : Record) (xs ys : List Entry) → LowsKeep lo (row_at l t (xs ++ ys))
        → LowsKeep lo (row_at l t xs)
    lows_front lo [] ys k = tt
    lows_front lo (x ∷ []) ys k = (k.0, k.1, tt)
    lows_front lo (x ∷ y ∷ xs) ys k = (k.0, k.1, lows_front y.low (y ∷ xs) ys k.2)

    lows_back : (lo : Record) (x : Entry) (xs : List Entry) (e : Entry) (es : List Entry)
        → LowsKeep lo (row_at l t (x ∷ xs ++ e ∷ es)) → LowsKeep e.low (row_at l t (e ∷ es))
    lows_back lo x [] e es k = k.2
    lows_back lo x (y ∷ ys) e es k = lows_back y.low y ys e es k.2

    lows_own : (lo : Record) (es : List Entry) (fs : List Entry) → 0 < length es
        → LowsKeep lo (row_at l t (es ++ fs)) → is_below lo (get_or es 0 no_entry).low ≡ false
    lows_own lo [] fs h k = absurd (omega (arith, h))
    lows_own lo (e ∷ es) fs h k = k.0

    pub lows_up : (ns : List Entry) (lo : Record) → LeadToNodes t (suc l) ns
        → LowsKeep lo (row_at l t (entries_below t ns)) → LowsKeep lo (row_at (suc l) t ns)
    lows_up [] lo d k = tt
    lows_up (n ∷ []) lo d k =
        let es = entries_at t (linked_block n.child) in
        let many = d.0.many in
        let P : Record → Type 0 = λ x. is_below lo x ≡ false in (
          subst P (sym d.0.low_is) (lows_own lo es [] (omega (arith, many, some)) k),
          lows_front lo es [] k,
          tt,
        )
    lows_up (n ∷ m ∷ ns) lo d k =
        let es = entries_at t (linked_block n.child) in
        let fs = entries_at t (linked_block m.child) in
        let many = d.0.many in
        let more = d.1.0.many in
        let a = has_first es (omega (arith, many, some)) in
        let c = has_first fs (omega (arith, more, some)) in
        let rest = c.others ++ entries_below t ns in
        let low : m.low ≡ c.first.low =
        d.1.0.low_is ∙ ap (λ (xs : List Entry). (get_or xs 0 no_entry).low) c.is in
        let K : List Entry → Type 0 = λ xs. LowsKeep lo (row_at l t xs) in
        let same = ap (λ (xs : List Entry). es ++ (xs ++ entries_below t ns)) c.is
        ∙ ap (λ (xs : List Entry). xs ++ c.first ∷ rest) a.is in
        let b = lows_back lo a.first a.others c.first rest (subst K same k) in
        let P : Record → Type 0 = λ x. is_below lo x ≡ false in
        let L : Record → Type 0 = λ x. LowsKeep x (row_at l t (c.first ∷ rest)) in
        let M : List Entry → Type 0 = λ xs. LowsKeep m.low (row_at l t (xs ++ entries_below t ns)) in (
          subst P (sym d.0.low_is)
              (lows_own lo es (fs ++ entries_below t ns) (omega (arith, many, some)) k),
          lows_front lo es (fs ++ entries_below t ns) k,
          lows_up (m ∷ ns) m.low d.1 (subst M (sym c.is) (subst L (sym low) b)),
        )
