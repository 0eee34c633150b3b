-- A subtree that is listed by two records, and lists of subtrees.
use Rattle.std.proofs.Common.{◌≡◌, ℕ, ◌+◌, ◌*◌, ◌≤◌, min, List, [], ◌∷◌, ◌++◌, length, refl, sym, ap, ◌∙◌, subst, arith, Result, Ok, Err, IsErrAnd, OnOk}
use Rattle.std.specs.Prelude.{IfErr}
use Rattle.em_record.specs.declared.record.Record.{Record}
use Rattle.em_space.specs.Ledger.{Costs, Halts, Spends}
use Rattle.em_space.specs.Rig.{Cause, Goes, RigState, Sound, Touches}
use Rattle.em_space.specs.declared.fault.EmFault.{EmFault}
use Rattle.em_space.proofs.Ledgers.{halts_after, halts_wider, spends_then, spends_wider}
use Rattle.em_space.proofs.Runs.{stops_wider}
use Rattle.em_chain.specs.Chain.{payload_in}
use Rattle.em_chain.specs.Counts.{ceiling}
use Rattle.em_chain.specs.Session.{StopsWriting, one_more, writer_account}
use Rattle.em_chain.specs.Writer.{filled, writer_blocks}
use Rattle.em_chain.specs.Writes.{AppendCosts, Appends}
use Rattle.em_chain.specs.declared.writer.Writer.{Writer}
use Rattle.em_chain.proofs.Keeps.{payload_kept}
use Rattle.em_chain.proofs.Sessions.{ceiling_rises}
use Rattle.em_chain.proofs.Writings.{stops_append, writes_one, writes_stops, writes_then}
use Rattle.em_node.specs.declared.entry.Entry.{Entry}
use Rattle.em_tree_blocks.specs.Node.{linked_block}
use Rattle.em_tree_raise.specs.Listing.{ListingCosts, ListsSubtree, block_record, listed, two_more}

-- What holds of a fault holds of the result that hands it on.
pub of_error : {T : Type 0} (P : Result T EmFault → Type 0) (r : Result T EmFault) (e : EmFault)
    → IsErrAnd r (λ f. f ≡ e) → P (Err e) → P r
of_error P (Ok x) e h p = absurd h
of_error P (Err f) e h p = subst (λ (d : EmFault). P (Err d)) (sym h) p

-- One record more takes no more blocks than two;
fewer_blocks : (s : RigState) (w : Writer) → 128 ≤ s.pool.shape.block → one_more s w ≤ two_more s w
fewer_blocks s w low =
    ceiling_rises (filled s w + 1) (filled s w + 2) (payload_in s) (omega arith) (omega arith)

-- one after another they take as many.
more_blocks : {s t : RigState} {w v : Writer} {x : Record} → Touches (writer_blocks s w) s t
    → Appends s t w v x → one_more t v ≡ two_more s w
more_blocks {s} {t} {w} {v} g a =
    let e : filled t v + 1 ≡ filled s w + 2 = omega (arith, a.filled_is) in
    ap (λ (n : ℕ). ceiling n (payload_in t)) e
    ∙ ap (λ (p : ℕ). ceiling (filled s w + 2) p) (payload_kept (writer_blocks s w) s t g)

-- The first record couldn't be written.
pub first_stops : {s t : RigState} {w : Writer} {e : EmFault} → Sound s → Goes (writer_blocks s w) s t
    → Halts (one_more s w) (2 * one_more s w) (min w.blocks 1) (writer_account w) s t e → Cause s t e
    → StopsWriting s t w 2 e
first_stops {s} {t} {w} {e} sound g h c =
    let k : StopsWriting s t w 1 e = stops_append g h c in
    record {
      extra = k.extra;
      stops = stops_wider (fewer_blocks s w sound.shape.block_low) (omega arith) (omega arith) k.stops;
    }

pub first_costs : {s t : RigState} {e : EmFault} (w : Writer) → Sound s
    → Halts (one_more s w) (2 * one_more s w) (min w.blocks 1) (writer_account w) s t e
    → Halts (two_more s w) (2 * two_more s w) 1 (writer_account w) s t e
first_costs {s} w sound h =
    let m = fewer_blocks s w sound.shape.block_low in
    halts_wider m (omega (arith, m)) (omega arith) h

-- The second one was written, or not.
pub lists_second : {s t u : RigState} {w v x : Writer} {low : Record} {T : Type 0} (k : ℕ) (y : T)
    (result : Result T EmFault) → Goes (writer_blocks s w) s t → Appends s t w v low
    → AppendCosts s t w v (Ok y) → Spends (one_more s w) (writer_account w) (writer_account v) s t
    → Goes (writer_blocks t v) t u → OnOk result (Appends t u v x (block_record k))
    → AppendCosts t u v x result
    → Costs (one_more t v) (2 * one_more t v) (min v.blocks 1) (writer_account v) (writer_account x) t u result
    → IfErr result (Cause t u) → ListsSubtree s u w x low k result
lists_second {low = low} k y (Ok o) g a c h g2 a2 c2 h2 e2 =
    writes_then (low ∷ []) (block_record k ∷ []) (writes_one y g a c h) (writes_one o g2 a2 c2 h2)
lists_second {low = low} k y (Err e) g a c h g2 a2 c2 h2 e2 =
    writes_stops 1 (low ∷ []) (writes_one y g a c h) (stops_append g2 h2 e2)

pub lists_costs : {s t : RigState} {low : Record} {T : Type 0} (u : RigState) (w v x : Writer)
    (result : Result T EmFault) → Sound s → Goes (writer_blocks s w) s t → Appends s t w v low
    → Spends (one_more s w) (writer_account w) (writer_account v) s t
    → Costs (one_more t v) (2 * one_more t v) (min v.blocks 1) (writer_account v) (writer_account x) t u result
    → ListingCosts s u w x result
lists_costs {s} u w v x (Ok o) sound g a h h2 =
    let m = fewer_blocks s w sound.shape.block_low in
    let n = more_blocks g.touches a in
    spends_wider (omega (arith, m, n)) (spends_then h h2)
lists_costs {s} u w v x (Err e) sound g a h h2 =
    let m = fewer_blocks s w sound.shape.block_low in
    let n = more_blocks g.touches a in
    halts_wider (omega (arith, m, n)) (omega (arith, n)) (omega arith) (halts_after h h2)

-- the records of two lists of subtrees
pub listed_append : (es fs : List Entry) → listed (es ++ fs) ≡ listed es ++ listed fs
listed_append [] fs = refl
listed_append (e ∷ es) fs =
    ap (λ (xs : List Record). e.low ∷ block_record (linked_block e.child) ∷ xs) (listed_append es fs)

pub listed_length : (es : List Entry) → length (listed es) ≡ 2 * length es
listed_length [] = refl
listed_length (e ∷ es) = let h = listed_length es in omega (arith, h)
