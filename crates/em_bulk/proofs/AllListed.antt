-- All leaves are listed, with the last one.
use Rattle.std.proofs.Common.{◌≡◌, ℕ, ◌+◌, ◌≤◌, List, [], ◌∷◌, ◌++◌, sym, ap, ◌∙◌, subst, arith, append_assoc, IsTrue, Option, Some, None, Result, Ok, Err}
use Rattle.em_record.specs.declared.record.Record.{Record}
use Rattle.em_frames.specs.Pool.{load_of}
use Rattle.em_space.specs.Held.{Holds}
use Rattle.em_space.specs.Rig.{RigState, Sound}
use Rattle.em_space.specs.declared.fault.EmFault.{EmFault}
use Rattle.em_chain.specs.Chain.{chain_blocks, chain_items}
use Rattle.em_chain.specs.Writer.{writer_blocks}
use Rattle.em_chain.specs.declared.chain.Chain.{Chain}
use Rattle.em_chain.specs.declared.writer.Writer.{Writer}
use Rattle.em_leaf.specs.Fusing.{fusing_blocks, fusing_moves}
use Rattle.em_leaf.specs.Leaf.{high_blocks}
use Rattle.em_node.specs.declared.entry.Entry.{Entry}
use Rattle.em_tree_load.proofs.Payments.{paid_from}
use Rattle.em_tree_walk.proofs.Regions.{held_first, held_second, holds_same, tally, tally_append}
use Rattle.em_tree_raise.specs.Listing.{listed}
use Rattle.em_tree_trim.specs.Leaves.{leaf_blocks}
use Rattle.em_tree_trim.specs.Listed.{ListsLeaf}
use Rattle.em_tree_trim.specs.Rows.{parts_at}
use Rattle.em_tree_trim.proofs.LeavesStay.{listed_append, listed_length}
use Rattle.em_bulk.specs.Ended.{AreTwo, CanEnd, CanListTwo, EndedLeaves, EndsLeaves, ListsParts, ListsTwo, RisesAfter, StopsParts, ending_moves}
use Rattle.em_bulk.specs.Ended.AreTwo.{one, two}
use Rattle.em_bulk.specs.Full.{IsExactLeaf, IsHeld, full_blocks, full_parts, held_parts, listed_leaves}
use Rattle.em_bulk.specs.Pairs.{EndsParts, lot_of}
use Rattle.em_bulk.specs.Pairs.EndsParts.{alone, apart, joined}
use Rattle.em_bulk.specs.declared.keeping.Leaves.{Leaves}
use Rattle.em_bulk.proofs.Listed.{lists_beside, lists_one, lists_wider, parts_beside, parts_wider, stops_one}

module _ {s : RigState} {h : Leaves} {low : Record} {d : Chain} (sound : Sound s) (can : CanEnd s h low d) where
  abbrev es : List Entry
  es = listed_leaves s h

  abbrev W : List ℕ
  W = writer_blocks s h.list

  abbrev D : List ℕ
  D = chain_blocks s d

  abbrev H : List ℕ
  H = high_blocks s h.held

  abbrev E : List ℕ
  E = leaf_blocks s es

  whole_same : (k : ℕ) → tally k (full_blocks s h ++ D) ≡ tally k (E ++ ((H ++ D) ++ W))
  whole_same k =
      let a = tally_append k (E ++ (H ++ W)) D in
      let b = tally_append k E (H ++ W) in
      let e = tally_append k H W in
      let f = tally_append k E ((H ++ D) ++ W) in
      let g = tally_append k (H ++ D) W in
      let i = tally_append k H D in
      omega (arith, a, b, e, f, g, i)

  part_holds : IsTrue s.device.told → Holds s (E ++ ((H ++ D) ++ W))
  part_holds z = holds_same (full_blocks s h ++ D) (E ++ ((H ++ D) ++ W)) whole_same (can.holds z)

  rest_holds : IsTrue s.device.told → Holds s ((H ++ D) ++ W)
  rest_holds z = held_second E ((H ++ D) ++ W) (part_holds z)

  -- They were listed,
  ended : {t : RigState} {v : Writer} {ps : List (Record × List Record)} {k n : ℕ} (o : Option (Record × Chain)) → k ≤ 2
      → n ≤ ending_moves h.held d → ListsParts s t h.list v [] (H ++ D) ps k 5 n
      → (IsTrue s.device.told → EndsParts (load_of s.pool.shape) (full_parts s h) low (chain_items s d)
      (parts_at s es ++ ps)) → EndedLeaves s t h (record { held = o; list = v }) low d
  ended {t} {v} {ps} {k} {n} o few less l are =
      let x = lists_beside es sound (λ z. (can.is.told z).leads) part_holds l in
      let P : List (Record × List Record) → Type 0 =
      λ qs. EndsParts (load_of s.pool.shape) (full_parts s h) low (chain_items s d) qs in
      let ci = x.wrote.count_is in
      let fi = x.wrote.filled_is in
      let fs = can.is.filled_is in
      let len = listed_length x.entries in
      let num = x.number in
      let moves = x.moves in
      record {
        entries = es ++ x.entries;
        runs = paid_from (full_blocks s h ++ D) x.runs (λ z. whole_same);
        list = x.wrote.is;
        filled_is = omega (arith, ci, fi, fs);
        few = omega (arith, ci, len, num, few);
        items = λ z. x.wrote.items z
            ∙ (ap (λ (rs : List Record). rs ++ listed x.entries) (can.is.told z).items
            ∙ sym (listed_append es x.entries));
        leaves = x.leaves;
        parts = λ z. subst P (sym (x.parts z)) (are z);
        moves = omega (arith, moves, less);
        peaks = x.peaks;
      }

  -- or they weren't.
  unended : {t : RigState} {n : ℕ} {e : EmFault} → n ≤ ending_moves h.held d
      → StopsParts s t h.list ((H ++ D) ++ W) 5 n e
      → StopsParts s t h.list (full_blocks s h ++ D) 5 (ending_moves h.held d) e
  unended {t} {n} {e} less l = parts_wider 5 (ending_moves h.held d) (omega arith) less
      (parts_beside E sound can.holds (λ z k.
      let a = whole_same k in
      let b = tally_append k E ((H ++ D) ++ W) in
      let f = tally_append k ((H ++ D) ++ W) E in
      omega (arith, a, b, f)) l)

  -- No leaf was held.
  module _ (none : h.held ≡ None) where
    none_high : H ≡ []
    none_high = ap (high_blocks s) none

    none_count : h.list.count ≡ 0
    none_count =
        let P : Option (Record × Chain) → Type 0 = λ o. IsHeld s h.list.count o in
        subst P none can.is.held

    none_parts : IsTrue s.device.told → parts_at s es ≡ []
    none_parts z = ap (parts_at s) ((can.is.told z).none none_count)

    own_holds : IsTrue s.device.told → Holds s (D ++ W)
    own_holds z =
        let P : List ℕ → Type 0 = λ ks. Holds s ((ks ++ D) ++ W) in
        subst P none_high (rest_holds z)

    none_moves : ending_moves h.held d ≡ 4
    none_moves = ap (λ (o : Option (Record × Chain)). ending_moves o d) none

    pub ends_alone : (t : RigState) (v : Writer) (o : Option (Record × Chain)) (result : Result Unit EmFault)
        → ListsLeaf s t h.list v low d result → EndsLeaves s t h (record { held = o; list = v }) low d result
    ends_alone t v o (Ok x) l =
        let P : List ℕ → Type 0 = λ ks. ListsParts s t h.list v [] (ks ++ D) ((low, chain_items s d) ∷ []) 1 5 4 in
        let few = none_moves in
        ended o (omega arith) (omega (arith, few))
        (subst P (sym none_high) (lists_wider 5 4 (omega arith) (omega arith)
        (lists_one sound can.leaf.leaf own_holds l)))
        (λ z. alone
        (ap (λ (ps : List (Record × List Record)). ps ++ held_parts s h.held) (none_parts z) ∙ ap (held_parts s) none)
        (ap (λ (ps : List (Record × List Record)). ps ++ (low, chain_items s d) ∷ []) (none_parts z)))
    ends_alone t v o (Err e) l =
        let P : List ℕ → Type 0 = λ ks. StopsParts s t h.list ((ks ++ D) ++ W) 5 4 e in
        let few = none_moves in
        unended (omega (arith, few)) (subst P (sym none_high) (parts_wider 5 4 (omega arith) (omega arith)
        (stops_one sound can.leaf.leaf own_holds l)))

  -- One was.
  module _ {before : Record} {stored : Chain} (some : h.held ≡ Some (before, stored)) where
    some_high : H ≡ chain_blocks s stored
    some_high = ap (high_blocks s) some

    some_is : IsExactLeaf s stored × (stored.count ≡ lot_of s.pool.shape)
    some_is =
        let P : Option (Record × Chain) → Type 0 = λ o. IsHeld s h.list.count o in
        subst P some can.is.held

    both_holds : IsTrue s.device.told → Holds s (fusing_blocks s stored d ++ W)
    both_holds z =
        let P : List ℕ → Type 0 = λ ks. Holds s ((ks ++ D) ++ W) in
        subst P some_high (rest_holds z)

    pub can_two : CanListTwo s h.list stored d
    can_two = record {
      join = record {
        first = some_is.0;
        second = can.leaf;
        first_size = some_is.1;
        second_size = can.size;
        holds = λ z. held_first (fusing_blocks s stored d) W (both_holds z);
        rises = λ z.
            let P : Option (Record × Chain) → Type 0 = λ o. RisesAfter s o d in
            subst P some (can.rises z);
      };
      writer = can.is.list;
      holds = both_holds;
    }

    some_moves : ending_moves h.held d ≡ fusing_moves stored d + 4
    some_moves = ap (λ (o : Option (Record × Chain)). ending_moves o d) some

    some_parts : full_parts s h ≡ parts_at s es ++ (before, chain_items s stored) ∷ []
    some_parts = ap (λ (ps : List (Record × List Record)). parts_at s es ++ ps) (ap (held_parts s) some)

    ends_as : (ps : List (Record × List Record))
        → AreTwo (load_of s.pool.shape) before (chain_items s stored) low (chain_items s d) ps
        → EndsParts (load_of s.pool.shape) (full_parts s h) low (chain_items s d) (parts_at s es ++ ps)
    ends_as ps (two long e) = apart long
        (ap (λ (qs : List (Record × List Record)). parts_at s es ++ qs) e
        ∙ (sym (append_assoc (parts_at s es) ((before, chain_items s stored) ∷ []) ((low, chain_items s d) ∷ []))
        ∙ ap (λ (qs : List (Record × List Record)). qs ++ (low, chain_items s d) ∷ []) (sym some_parts)))
    ends_as ps (one e) = joined (parts_at s es) before (chain_items s stored) some_parts
        (ap (λ (qs : List (Record × List Record)). parts_at s es ++ qs) e)

    pub ends_two : (t : RigState) (v : Writer) (o : Option (Record × Chain)) (result : Result Unit EmFault)
        → ListsTwo s t h.list v before stored low d result
        → EndsLeaves s t h (record { held = o; list = v }) low d result
    ends_two t v o (Ok x) l =
        let P : List ℕ → Type 0 =
        λ ks. ListsParts s t h.list v [] (ks ++ D) l.parts l.number 5 (fusing_moves stored d + 4) in
        let same = some_moves in
        ended o l.few (omega (arith, same)) (subst P (sym some_high) l.lists) (λ z. ends_as l.parts (l.are z))
    ends_two t v o (Err e) l =
        let P : List ℕ → Type 0 = λ ks. StopsParts s t h.list ((ks ++ D) ++ W) 5 (fusing_moves stored d + 4) e in
        let same = some_moves in
        unended (omega (arith, same)) (subst P (sym some_high) l)
