-- Another full leaf is held, and the one that was is listed.
use Rattle.std.proofs.Common.{◌≡◌, ℕ, ◌+◌, min, List, [], ◌∷◌, ◌++◌, length, refl, sym, ap, ◌∙◌, subst, arith, IsTrue, Option, Some, None, Result, Ok, Err}
use Rattle.std.proofs.lemmas.List.{append-nil}
use Rattle.em_record.specs.Shape.{ShapeNumbers}
use Rattle.em_record.specs.declared.record.Record.{Record}
use Rattle.em_space.specs.Held.{Apart, Holds}
use Rattle.em_space.specs.Rig.{RigState, Sound}
use Rattle.em_space.specs.declared.fault.EmFault.{EmFault}
use Rattle.em_space.proofs.Lists.{apart_sym, distinct_apart}
use Rattle.em_chain.specs.Chain.{ChainStays, chain_blocks, chain_items}
use Rattle.em_chain.specs.Writer.{writer_blocks, writer_items}
use Rattle.em_chain.specs.declared.chain.Chain.{Chain}
use Rattle.em_chain.specs.declared.writer.Writer.{Writer}
use Rattle.em_chain.proofs.Laws.{chain_stays}
use Rattle.em_chain.proofs.Readers.{length_items}
use Rattle.em_leaf.specs.Leaf.{high_blocks}
use Rattle.em_node.specs.declared.entry.Entry.{Entry}
use Rattle.em_tree_load.proofs.Payments.{paid_none, paid_same}
use Rattle.em_tree_walk.specs.Paid.{RunsPaid}
use Rattle.em_tree_walk.proofs.Regions.{held_first, held_second, holds_same, tally, tally_append}
use Rattle.em_tree_raise.specs.Listing.{listed}
use Rattle.em_tree_trim.specs.Leaves.{LeadToLeaves, leaf_blocks}
use Rattle.em_tree_trim.specs.Listed.{ListedLeaf, ListsLeaf, StopsListing}
use Rattle.em_tree_trim.specs.Rows.{EachFrom, EachUpTo, parts_at, rows_in}
use Rattle.em_tree_trim.proofs.LeafForests.{leaves_fresh}
use Rattle.em_tree_trim.proofs.LeavesStay.{listed_append, listed_length}
use Rattle.em_tree_trim.proofs.RowLists.{from_append, rows_append, upto_append}
use Rattle.em_tree_trim.proofs.Runs.{paid_count}
use Rattle.em_bulk.specs.Ended.{ListsParts}
use Rattle.em_bulk.specs.Full.{AreListed, CanKeep, IsExactLeaf, IsHeld, KeepsLeaf, KeptLeaf, StopsKeeping, entries_in, full_blocks, held_count, held_parts, listed_leaves}
use Rattle.em_bulk.specs.Pairs.{lot_of}
use Rattle.em_bulk.specs.declared.keeping.Leaves.{Leaves}
use Rattle.em_bulk.proofs.Calls.{more_zero, runs_in}
use Rattle.em_bulk.proofs.Kept.{entries_listed, exact_stays}
use Rattle.em_bulk.proofs.Listed.{lists_beside, lists_one, parts_beside, stops_one}

module _ {s : RigState} {h : Leaves} {c : Chain} (low : Record) (sound : Sound s) (can : CanKeep s h c) where
  abbrev es : List Entry
  es = listed_leaves s h

  abbrev W : List ℕ
  W = writer_blocks s h.list

  abbrev C : List ℕ
  C = chain_blocks s c

  abbrev E : List ℕ
  E = leaf_blocks s es

  -- None was held.
  first_kept : h.held ≡ None → KeptLeaf s s h (record { held = Some (low, c); list = h.list }) low c
  first_kept none =
      let m = min h.list.blocks 1 in
      let hb = ap (high_blocks s) none in
      let hc = ap held_count none in
      let hp = ap (held_parts s) none in
      let same = λ (k : ℕ).
      (let a = tally_append k (E ++ (high_blocks s h.held ++ W)) C in
      let b = tally_append k E (high_blocks s h.held ++ W) in
      let d = tally_append k (high_blocks s h.held) W in
      let e = tally_append k E (C ++ W) in
      let f = tally_append k C W in
      let g = ap (tally k) hb in
      let r : tally k (full_blocks s h ++ C) ≡ tally k (E ++ (C ++ W)) = omega (arith, a, b, d, e, f, g) in r) in
      record {
        runs = paid_same (E ++ (C ++ W)) (paid_none s (full_blocks s h ++ C) m sound can.holds) (λ z. same);
        is = record {
          list = can.is.list;
          held = (can.leaf, can.size);
          filled_is = can.is.filled_is;
          even = can.is.even;
          told = λ z.
              let l = can.is.told z in
              record {
                items = l.items;
                none = l.none;
                leads = l.leads;
                least = l.least;
                most = l.most;
                holds = holds_same (full_blocks s h ++ C) (E ++ (C ++ W)) same (can.holds z);
              };
        };
        held = refl;
        count = omega (arith, hc);
        parts = λ z. ap (λ (ps : List (Record × List Record)). ps ++ (low, chain_items s c) ∷ [])
            (sym (ap (λ (ps : List (Record × List Record)). parts_at s es ++ ps) hp ∙ append-nil (parts_at s es)));
        moves = omega arith;
        peaks = record { used = omega arith; most = omega arith };
      }

  pub keeps_first : (next : Option (Record × Chain)) → next ≡ Some (low, c) → h.held ≡ None
      → KeptLeaf s s h (record { held = next; list = h.list }) low c
  keeps_first next new none =
      let P : Option (Record × Chain) → Type 0 = λ o. KeptLeaf s s h (record { held = o; list = h.list }) low c in
      subst P (sym new) (first_kept none)

  -- One was held.
  module _ {before : Record} {stored : Chain} (some : h.held ≡ Some (before, stored)) where
    abbrev S : List ℕ
    S = chain_blocks s stored

    stored_is : IsExactLeaf s stored × (stored.count ≡ lot_of s.pool.shape)
    stored_is =
        let P : Option (Record × Chain) → Type 0 = λ o. IsHeld s h.list.count o in
        subst P some can.is.held

    high_is : high_blocks s h.held ≡ S
    high_is = ap (high_blocks s) some

    part_holds : IsTrue s.device.told → Holds s (E ++ (S ++ W))
    part_holds z =
        let H : List ℕ → Type 0 = λ ks. Holds s (E ++ (ks ++ W)) in
        subst H high_is (held_first (full_blocks s h) C (can.holds z))

    one_holds : IsTrue s.device.told → Holds s (S ++ W)
    one_holds z = held_second E (S ++ W) (part_holds z)

    whole_same : (k : ℕ) → tally k (full_blocks s h ++ C) ≡ tally k ((E ++ (S ++ W)) ++ C)
    whole_same k = ap (λ (ks : List ℕ). tally k ((E ++ (ks ++ W)) ++ C)) high_is

    own_apart : IsTrue s.device.told → Apart C (E ++ (S ++ W))
    own_apart z =
        let P : List ℕ → Type 0 = λ ks. Apart C (E ++ (ks ++ W)) in
        subst P high_is (apart_sym (full_blocks s h) C
        (distinct_apart (full_blocks s h) C ((can.holds z).distinct z)))

    -- It was listed,
    module _ {t : RigState} {v : Writer} (l : ListedLeaf s t h.list v before stored) where
      abbrev x : ListsParts s t h.list v es S ((before, chain_items s stored) ∷ []) 1 2 4
      x = lists_beside es sound (λ z. (can.is.told z).leads) part_holds (lists_one sound stored_is.0.leaf one_holds l)

      abbrev g : Leaves
      g = record { held = Some (low, c); list = v }

      own_stays : ChainStays s t c
      own_stays = chain_stays (E ++ (S ++ W)) s t c x.runs.session.touches own_apart can.leaf.leaf.chain

      all_items : IsTrue s.device.told → writer_items t v ≡ listed (es ++ x.entries)
      all_items z = x.wrote.items z
          ∙ (ap (λ (rs : List Record). rs ++ listed x.entries) (can.is.told z).items
          ∙ sym (listed_append es x.entries))

      all_entries : IsTrue s.device.told → listed_leaves t g ≡ es ++ x.entries
      all_entries z = ap entries_in (all_items z)
          ∙ entries_listed t.blocks (es ++ x.entries) (leaves_fresh t (es ++ x.entries) (x.leaves z))

      all_parts : IsTrue s.device.told
          → parts_at t (listed_leaves t g) ≡ parts_at s es ++ (before, chain_items s stored) ∷ []
      all_parts z = ap (parts_at t) (all_entries z) ∙ x.parts z

      next_runs : RunsPaid (full_blocks s h ++ C) (full_blocks t g) (min h.list.blocks 1) (min v.blocks 1) s t
      next_runs =
          let V = writer_blocks t v in
          let N = leaf_blocks t (es ++ x.entries) in
          let m = min h.list.blocks 1 in
          let n = min v.blocks 1 in
          let r = runs_in C 0 sound can.holds (λ z. whole_same) x.runs in
          paid_same (full_blocks t g) (paid_count (m + 0) (n + 0) m n (more_zero m) (more_zero n) r)
          (λ z k.
          let a = tally_append k (N ++ V) C in
          let b = tally_append k N V in
          let d = tally_append k (leaf_blocks t (listed_leaves t g)) (chain_blocks t c ++ V) in
          let e = tally_append k (chain_blocks t c) V in
          let f = ap (λ (xs : List Entry). tally k (leaf_blocks t xs)) (all_entries z) in
          let i = ap (tally k) (own_stays.blocks z) in
          omega (arith, a, b, d, e, f, i))

      shape_same : t.pool.shape ≡ s.pool.shape
      shape_same = x.runs.session.touches.shape

      all_listed : IsTrue s.device.told → AreListed t g
      all_listed z =
          let a = can.is.told z in
          let ys = chain_items s stored in
          let lot = lot_of s.pool.shape in
          let n = length_items s stored stored_is.0.leaf.chain z in
          let m = stored_is.1 in
          let ci = x.wrote.count_is in
          let len = listed_length x.entries in
          let num = x.number in
          let L : List Entry → Type 0 = LeadToLeaves t in
          let R : List (List Record) = rows_in (parts_at s es) in
          let FR : List (List Record) → Type 0 = EachFrom lot in
          let UR : List (List Record) → Type 0 = EachUpTo lot in
          let F : List (Record × List Record) → Type 0 = λ ps. EachFrom (lot_of t.pool.shape) (rows_in ps) in
          let U : List (Record × List Record) → Type 0 = λ ps. EachUpTo (lot_of t.pool.shape) (rows_in ps) in
          let qs = parts_at s es ++ (before, ys) ∷ [] in
          let FS : ShapeNumbers → Type 0 = λ p. EachFrom (lot_of p) (rows_in qs) in
          let US : ShapeNumbers → Type 0 = λ p. EachUpTo (lot_of p) (rows_in qs) in
          record {
            items = all_items z ∙ ap listed (sym (all_entries z));
            none = λ e. absurd (omega (arith, e, ci, len, num));
            leads = subst L (sym (all_entries z)) (x.leaves z);
            least = subst F (sym (all_parts z)) (subst FS (sym shape_same)
                (subst FR (sym (rows_append (parts_at s es) ((before, ys) ∷ [])))
                (from_append lot R (ys ∷ []) a.least (omega (arith, n, m), tt))));
            most = subst U (sym (all_parts z)) (subst US (sym shape_same)
                (subst UR (sym (rows_append (parts_at s es) ((before, ys) ∷ [])))
                (upto_append lot R (ys ∷ []) a.most (omega (arith, n, m), tt))));
            holds = next_runs.session.holds z;
          }

      next_kept : KeptLeaf s t h g low c
      next_kept =
          let P : List Record → List (Record × List Record) = λ xs. (low, xs) ∷ [] in
          let hc = ap held_count some in
          let hp = ap (held_parts s) some in
          let ci = x.wrote.count_is in
          let fi = x.wrote.filled_is in
          let fs = can.is.filled_is in
          let ev = can.is.even in
          let moves = x.moves in
          let len = listed_length x.entries in
          let num = x.number in
          let two : length (listed x.entries) ≡ 2 = omega (arith, len, num) in
          record {
            runs = next_runs;
            is = record {
              list = x.wrote.is;
              held = (exact_stays x.runs.session.touches own_apart can.leaf, can.size ∙ ap lot_of (sym shape_same));
              filled_is = omega (arith, ci, fi, fs);
              even = omega (arith, ci, ev, two);
              told = λ y. all_listed (sym x.runs.session.touches.told ∙ y);
            };
            held = refl;
            count = omega (arith, ci, hc, two);
            parts = λ z. ap (λ (ps : List (Record × List Record)). ps ++ (low, chain_items t c) ∷ []) (all_parts z)
                ∙ (ap (λ (xs : List Record). (parts_at s es ++ (before, chain_items s stored) ∷ []) ++ P xs) (own_stays.items z)
                ∙ ap (λ (ps : List (Record × List Record)). (parts_at s es ++ ps) ++ P (chain_items s c)) (sym hp));
            moves = omega (arith, moves, hc);
            peaks = x.peaks;
          }

    -- or it wasn't.
    next_unkept : {t : RigState} {e : EmFault} → StopsListing s t h.list e → StopsKeeping s t h c e
    next_unkept {t} {e} l =
        let y0 = stops_one sound stored_is.0.leaf one_holds l in
        let y1 = parts_beside (E ++ C) sound can.holds (λ z k.
        let a = whole_same k in
        let b = tally_append k (E ++ (S ++ W)) C in
        let d = tally_append k E (S ++ W) in
        let f = tally_append k (S ++ W) (E ++ C) in
        let i = tally_append k E C in
        omega (arith, a, b, d, f, i)) y0 in
        let o = l.stops in
        record {
          stops = record { goes = y1.stops.goes; pays = o.pays; cause = o.cause };
          full = l.full;
          moves = l.moves;
          peaks = l.peaks;
        }

    pub keeps_next : (t : RigState) (v : Writer) (next : Option (Record × Chain)) (result : Result Unit EmFault)
        → next ≡ Some (low, c) → ListsLeaf s t h.list v before stored result
        → KeepsLeaf s t h (record { held = next; list = v }) low c result
    keeps_next t v next (Ok o) new l =
        let P : Option (Record × Chain) → Type 0 = λ o. KeptLeaf s t h (record { held = o; list = v }) low c in
        subst P (sym new) (next_kept l)
    keeps_next t v next (Err e) new l = next_unkept l
