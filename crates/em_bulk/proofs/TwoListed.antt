-- The last two leaves, listed.
use Rattle.std.proofs.Common.{◌≡◌, ◌↔◌, Bool, true, false, ℕ, ◌+◌, ◌-◌, ◌/◌, ◌<◌, ◌≤◌, min, inl, inr, List, [], ◌∷◌, ◌++◌, length, refl, sym, ap, ◌∙◌, subst, arith, IsTrue, Result, Ok, Err, IsErrAnd}
use Rattle.std.proofs.lemmas.Bool.{cases_lt, false≢true}
use Rattle.em_record.specs.Shape.{ShapeNumbers}
use Rattle.em_record.specs.declared.record.Record.{Record}
use Rattle.em_frames.specs.Pool.{load_of}
use Rattle.em_space.specs.Held.{Apart, Holds}
use Rattle.em_space.specs.Rig.{RigState, Sound}
use Rattle.em_space.specs.declared.fault.EmFault.{EmFault}
use Rattle.em_space.proofs.Ledgers.{full_by}
use Rattle.em_space.proofs.Lists.{apart_sym, distinct_apart}
use Rattle.em_chain.specs.Chain.{chain_blocks, chain_items, payload_in}
use Rattle.em_chain.specs.Writer.{IsWriter, WriterStays, filled, writer_blocks}
use Rattle.em_chain.specs.declared.chain.Chain.{Chain}
use Rattle.em_chain.specs.declared.writer.Writer.{Writer}
use Rattle.em_chain.proofs.Counts.{writer_blocks_are}
use Rattle.em_chain.proofs.Keeps.{has_kept, payload_kept}
use Rattle.em_chain.proofs.Laws.{chain_stays, writer_stays}
use Rattle.em_chain.proofs.Readers.{length_items}
use Rattle.em_chain.proofs.Sessions.{wrote_stays, wrote_then}
use Rattle.em_leaf.specs.Fusing.{fusing_blocks, fusing_moves}
use Rattle.em_leaf.specs.Leaf.{IsLeafChain}
use Rattle.em_leaf.proofs.Numbers.{ceiling_add, ceiling_few}
use Rattle.em_tree_load.proofs.Peaks.{peaks_then, peaks_wider}
use Rattle.em_tree_load.proofs.Payments.{paid_then, paid_then_stops, stops_paid_more}
use Rattle.em_tree_walk.specs.Paid.{RunsPaid, StopsPaid}
use Rattle.em_tree_walk.proofs.Regions.{held_first, held_second, holds_same, tally, tally_append}
use Rattle.em_tree_raise.specs.Listing.{listed}
use Rattle.em_tree_trim.specs.Leaves.{leaf_blocks}
use Rattle.em_tree_trim.specs.Listed.{ListedLeaf, ListsLeaf, StopsListing}
use Rattle.em_tree_trim.proofs.Runs.{leaf_stays, paid_as, paid_count}
use Rattle.em_bulk.specs.Ended.{CanListTwo, JoinedLast, ListsBoth, ListsJoined, ListsParts, ListsTwo, StopsJoiningLast, StopsParts}
use Rattle.em_bulk.specs.Ended.AreTwo.{one, two}
use Rattle.em_bulk.proofs.Calls.{runs_in, stops_in}
use Rattle.em_bulk.proofs.Listed.{lists_as, lists_beside, lists_one, lists_then, lists_wider, parts_beside, parts_wider, stops_one, stops_then, then_runs}

-- A list with a leaf more has at most two blocks more.
pub blocks_more : {s a : RigState} {w u : Writer} {low : Record} {c : Chain} → Sound s → IsWriter s w
    → ListedLeaf s a w u low c → u.blocks ≤ w.blocks + 2
blocks_more {s} {a} {w} {u} sound i l =
    let low = sound.shape.block_low in
    let low2 = l.runs.session.sound.shape.block_low in
    let p = payload_kept (writer_blocks s w) s a l.runs.session.touches in
    let f = l.wrote.filled_is in
    let b = writer_blocks_are s w low i in
    let d = writer_blocks_are a u low2 l.wrote.is in
    let e = ceiling_add (filled s w) 2 (payload_in s) (omega (arith, low)) in
    let k = ceiling_few 2 (payload_in s) (omega (arith, low)) in
    by_numbers u.blocks w.blocks (filled a u) (filled s w) (payload_in a) (payload_in s) d b f p e k
  where
    by_numbers : (u w f g p q : ℕ) → u ≡ (f + p - 1) / p → w ≡ (g + q - 1) / q → f ≡ g + 2 → p ≡ q
        → (g + 2 + q - 1) / q ≤ (g + q - 1) / q + (2 + q - 1) / q → (2 + q - 1) / q ≤ 2 → u ≤ w + 2
    by_numbers u w f g p q d b h e k l =
        let same : (f + p - 1) / p ≡ (g + 2 + q - 1) / q =
        ap (λ (n : ℕ). (n + p - 1) / p) h ∙ ap (λ (n : ℕ). (g + 2 + n - 1) / n) e in
        omega (arith, d, b, same, k, l)

module _ {s : RigState} {w : Writer} {c d : Chain} (sound : Sound s) (j : CanListTwo s w c d) (before low : Record) where
  abbrev C : List ℕ
  C = chain_blocks s c

  abbrev D : List ℕ
  D = chain_blocks s d

  first_same : (k : ℕ) → tally k ((C ++ D) ++ writer_blocks s w) ≡ tally k ((C ++ writer_blocks s w) ++ D)
  first_same k =
      let W = writer_blocks s w in
      let a = tally_append k (C ++ D) W in
      let b = tally_append k C D in
      let e = tally_append k (C ++ W) D in
      let f = tally_append k C W in
      omega (arith, a, b, e, f)

  first_holds : IsTrue s.device.told → Holds s (C ++ writer_blocks s w)
  first_holds z = held_first (C ++ writer_blocks s w) D
      (holds_same ((C ++ D) ++ writer_blocks s w) ((C ++ writer_blocks s w) ++ D) first_same (j.holds z))

  second_apart : IsTrue s.device.told → Apart D (C ++ writer_blocks s w)
  second_apart z =
      let W = writer_blocks s w in
      let h = holds_same ((C ++ D) ++ W) ((C ++ W) ++ D) first_same (j.holds z) in
      apart_sym (C ++ W) D (distinct_apart (C ++ W) D (h.distinct z))

  -- The first one couldn't be listed.
  pub first_stops : {a : RigState} {e : EmFault} → StopsListing s a w e
      → StopsParts s a w (fusing_blocks s c d ++ writer_blocks s w) 5 8 e
  first_stops l = parts_wider 5 8 (omega arith) (omega arith)
      (parts_beside D sound j.holds (λ z. first_same) (stops_one sound j.join.first.leaf first_holds l))

  -- It was,
  module _ {a : RigState} {u : Writer} (l : ListedLeaf s a w u before c) where
    abbrev x : ListsParts s a w u [] C ((before, chain_items s c) ∷ []) 1 2 4
    x = lists_one sound j.join.first.leaf first_holds l

    sound_first : Sound a
    sound_first = l.runs.session.sound

    back_first : IsTrue a.device.told → IsTrue s.device.told
    back_first y = sym x.runs.session.touches.told ∙ y

    second_leaf : IsLeafChain a d
    second_leaf = leaf_stays x.runs.session.touches second_apart j.join.second.leaf

    second_blocks : IsTrue s.device.told → chain_blocks a d ≡ D
    second_blocks z =
        (chain_stays (C ++ writer_blocks s w) s a d x.runs.session.touches second_apart j.join.second.leaf.chain).blocks z

    second_items : IsTrue s.device.told → chain_items a d ≡ chain_items s d
    second_items z =
        (chain_stays (C ++ writer_blocks s w) s a d x.runs.session.touches second_apart j.join.second.leaf.chain).items z

    all_held : IsTrue s.device.told → Holds a (leaf_blocks a x.entries ++ (D ++ writer_blocks a u))
    all_held z = (then_runs D sound j.holds x).session.holds z

    all_now : IsTrue a.device.told → Holds a (leaf_blocks a x.entries ++ (chain_blocks a d ++ writer_blocks a u))
    all_now y =
        let z = back_first y in
        let H : List ℕ → Type 0 = λ ks. Holds a (leaf_blocks a x.entries ++ (ks ++ writer_blocks a u)) in
        subst H (sym (second_blocks z)) (all_held z)

    second_holds : IsTrue a.device.told → Holds a (chain_blocks a d ++ writer_blocks a u)
    second_holds y = held_second (leaf_blocks a x.entries) (chain_blocks a d ++ writer_blocks a u) (all_now y)

    both_listed : {t : RigState} {v : Writer} → ListedLeaf a t u v low d → ListsParts s t w v [] (fusing_blocks s c d)
        ((before, chain_items s c) ∷ (low, chain_items s d) ∷ []) 2 5 8
    both_listed {t} {v} m =
        let y0 = lists_one sound_first second_leaf second_holds m in
        let y1 = lists_beside x.entries sound_first (λ y. x.leaves (back_first y)) all_now y0 in
        let P : List Record → List (Record × List Record) = λ xs. (low, xs) ∷ [] in
        let y2 = lists_as D ((low, chain_items s d) ∷ []) (λ y. sym (second_blocks (back_first y)))
        (λ y. ap P (second_items (back_first y))) y1 in
        lists_wider 5 8 (omega arith) (omega arith) (lists_then D sound j.holds x y2)

    both_stops : {t : RigState} {e : EmFault} → StopsListing a t u e
        → StopsParts s t w (fusing_blocks s c d ++ writer_blocks s w) 5 8 e
    both_stops {t} {e} m =
        let E = leaf_blocks a x.entries in
        let U = writer_blocks a u in
        let y0 = stops_one sound_first second_leaf second_holds m in
        let y1 = parts_beside E sound_first (λ y. all_held (back_first y)) (λ y k.
        let p = tally_append k E (D ++ U) in
        let q = tally_append k D U in
        let r = tally_append k (chain_blocks a d ++ U) E in
        let o = tally_append k (chain_blocks a d) U in
        let i = ap (tally k) (second_blocks (back_first y)) in
        omega (arith, p, q, r, o, i)) y0 in
        parts_wider 5 8 (omega arith) (omega arith) (stops_then D sound j.holds x y1)

    pub both_by : (t : RigState) (v : Writer) (result : Result Unit EmFault) → ListsLeaf a t u v low d result
        → ListsBoth s t w v before c low d result
    both_by t v (Ok o) m = both_listed m
    both_by t v (Err e) m = both_stops m

  -- Both became one,
  module _ {a : RigState} {both : Chain} (x : JoinedLast s a c d both) where
    join_apart : IsTrue s.device.told → Apart (writer_blocks s w) (fusing_blocks s c d)
    join_apart z = apart_sym (fusing_blocks s c d) (writer_blocks s w)
        (distinct_apart (fusing_blocks s c d) (writer_blocks s w) ((j.holds z).distinct z))

    join_writer : WriterStays s a w
    join_writer = writer_stays (fusing_blocks s c d) s a w x.runs.session.touches join_apart
        (has_kept 1 (length w.frame) s.pool a.pool x.runs.frames j.writer.frame) j.writer

    pub join_is : IsWriter a w
    join_is = join_writer.is

    join_runs : RunsPaid (fusing_blocks s c d ++ writer_blocks s w) (chain_blocks a both ++ writer_blocks a w)
        (min w.blocks 1) (min w.blocks 1) s a
    join_runs =
        let W = writer_blocks s w in
        let m = min w.blocks 1 in
        let zero_more : 0 + m ≡ m = omega arith in
        let r = runs_in W m sound j.holds (λ z k. refl) x.runs in
        paid_as (chain_blocks a both ++ writer_blocks a w) (paid_count (0 + m) (0 + m) m m zero_more zero_more r)
        (λ z. ap (λ (ks : List ℕ). chain_blocks a both ++ ks) (join_writer.blocks z))

    join_back : IsTrue a.device.told → IsTrue s.device.told
    join_back y = sym x.runs.session.touches.told ∙ y

    join_holds : IsTrue a.device.told → Holds a (chain_blocks a both ++ writer_blocks a w)
    join_holds y = join_runs.session.holds (join_back y)

    join_listed : {t : RigState} {v : Writer} → ListedLeaf a t w v before both
        → ListsParts s t w v [] (fusing_blocks s c d) ((before, chain_items s c ++ chain_items s d) ∷ []) 1 5
        (fusing_moves c d + 4)
    join_listed {t} {v} l =
        let y = lists_one x.runs.session.sound x.leaf join_holds l in
        let told : IsTrue s.device.told → IsTrue a.device.told = λ z. x.runs.session.touches.told ∙ z in
        let P : List Record → List (Record × List Record) = λ xs. (before, xs) ∷ [] in
        let am = x.moves in
        let bm = y.moves in
        record {
          entries = y.entries;
          runs = paid_then (chain_blocks a both ++ writer_blocks a w) join_runs (λ z i. refl) y.runs;
          wrote = wrote_then [] (listed y.entries) (wrote_stays x.runs.session.touches.told join_writer) y.wrote;
          number = y.number;
          leaves = λ z. y.leaves (told z);
          parts = λ z. y.parts (told z) ∙ ap P (x.items z);
          moves = omega (arith, am, bm);
          peaks = peaks_then 5 x.peaks y.peaks (omega arith);
        }

    join_stops : {t : RigState} {e : EmFault} → StopsListing a t w e
        → StopsParts s t w (fusing_blocks s c d ++ writer_blocks s w) 5 (fusing_moves c d + 4) e
    join_stops {t} {e} l =
        let y = stops_one x.runs.session.sound x.leaf join_holds l in
        let am = x.moves in
        let bm = y.moves in
        let used = x.peaks.used in
        let blocks = x.runs.session.touches.blocks in
        record {
          stops = paid_then_stops (chain_blocks a both ++ writer_blocks a w) join_runs (λ z i. refl) y.stops;
          full = full_by e (a.blocks < a.used + 2) (s.blocks < s.used + 5) (λ h. omega (arith, h, used, blocks)) y.full;
          moves = omega (arith, am, bm);
          peaks = peaks_then 5 x.peaks y.peaks (omega arith);
        }

    pub join_by : (t : RigState) (v : Writer) (result : Result Unit EmFault) → ListsLeaf a t w v before both result
        → ListsJoined s t w v before c d result
    join_by t v (Ok o) l = join_listed l
    join_by t v (Err e) l = join_stops l

  -- or couldn't.
  unjoined : {a : RigState} {e : EmFault} → StopsJoiningLast s a c d e
      → StopsParts s a w (fusing_blocks s c d ++ writer_blocks s w) 5 (fusing_moves c d + 4) e
  unjoined {a} {e} x =
      let m = min w.blocks 1 in
      let am = x.moves in
      let zero_more : 0 + m ≡ m = omega arith in
      let P : ℕ → Type 0 = λ k. StopsPaid (fusing_blocks s c d ++ writer_blocks s w) k 4 s a e in
      let r = stops_in (writer_blocks s w) m sound j.holds (λ z k. refl) x.stops in
      record {
        stops = subst P zero_more (stops_paid_more (fusing_blocks s c d ++ writer_blocks s w) 4 (omega arith) r
            (λ z k. refl));
        full = full_by e (s.blocks < s.used + 3) (s.blocks < s.used + 5) (λ h. omega (arith, h)) x.full;
        moves = omega (arith, am);
        peaks = peaks_wider 5 (omega arith) x.peaks;
      }

  pub joined_err : (a : RigState) (v : Writer) (result : Result Unit EmFault) (e : EmFault)
      → IsErrAnd result (λ m. m ≡ e) → StopsJoiningLast s a c d e → ListsJoined s a w v before c d result
  joined_err a v (Ok x) e h y = absurd h
  joined_err a v (Err m) e h y =
      let P : EmFault → Type 0 = λ f. StopsParts s a w (fusing_blocks s c d ++ writer_blocks s w) 5
      (fusing_moves c d + 4) f in
      subst P (sym h) (unjoined y)

  pub both_err : (a : RigState) (v : Writer) (result : Result Unit EmFault) (e : EmFault)
      → IsErrAnd result (λ m. m ≡ e) → StopsListing s a w e → ListsBoth s a w v before c low d result
  both_err a v (Ok x) e h y = absurd h
  both_err a v (Err m) e h y =
      let P : EmFault → Type 0 = λ f. StopsParts s a w (fusing_blocks s c d ++ writer_blocks s w) 5 8 f in
      subst P (sym h) (first_stops y)

  -- Either way.
  pub two_by_both : (t : RigState) (v : Writer) (result : Result Unit EmFault) → load_of s.pool.shape ≤ d.count
      → ListsBoth s t w v before c low d result → ListsTwo s t w v before c low d result
  two_by_both t v (Ok x) long l = record {
    parts = (before, chain_items s c) ∷ (low, chain_items s d) ∷ [];
    number = 2;
    few = omega arith;
    lists = lists_wider 5 (fusing_moves c d + 4) (omega arith) (omega arith) l;
    are = λ z. let n = length_items s d j.join.second.leaf.chain z in two (omega (arith, n, long)) refl;
  }
  two_by_both t v (Err e) long l = parts_wider 5 (fusing_moves c d + 4) (omega arith) (omega arith) l

  pub two_by_joined : (t : RigState) (v : Writer) (result : Result Unit EmFault)
      → ListsJoined s t w v before c d result → ListsTwo s t w v before c low d result
  two_by_joined t v (Ok x) l = record {
    parts = (before, chain_items s c ++ chain_items s d) ∷ [];
    number = 1;
    few = omega arith;
    lists = l;
    are = λ z. one refl;
  }
  two_by_joined t v (Err e) l = l

-- a test whether a leaf is long
pub is_short : (found : Bool) (shape other : ShapeNumbers) (n : ℕ) → shape ≡ other
    → IsTrue found ↔ (load_of shape ≤ n) → found ≡ false → n < load_of other
is_short found shape other n e test short =
    elim (cases_lt n (load_of other)) [
      | inl low ↦ low
      | inr high ↦
          let L : ShapeNumbers → Type 0 = λ p. load_of p ≤ n in
          absurd (false≢true (sym short ∙ test.1 (subst L (sym e) high)))
    ]

pub is_long_by : (found : Bool) (shape other : ShapeNumbers) (n : ℕ) → shape ≡ other
    → IsTrue found ↔ (load_of shape ≤ n) → found ≡ true → load_of other ≤ n
is_long_by found shape other n e test long =
    let L : ShapeNumbers → Type 0 = λ p. load_of p ≤ n in
    subst L e (test.0 long)
