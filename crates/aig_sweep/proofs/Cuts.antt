-- Edges are cut before the first one that comes from a gate, and the resets are the state.
use Rattle.std.proofs.Common.{◌≡◌, ℕ, All, zero, suc, ◌+◌, ◌*◌, ◌<◌, ◌≤◌, List, [], ◌∷◌, ◌++◌, length, slice_index_or, add-one, refl, sym, ap, ◌∙◌, subst, arith, IsTrue, true, false, ⊎_elim, Ordering, Less, Equal, Greater, Result, Ok, Err}
use Rattle.std.proofs.lemmas.List.Elements.{All-weaker}
use Rattle.std.specs.Cmp.{nat_cmp_is}
use Rattle.std.specs.List.Sorted.{IsSorted}
use Rattle.std.specs.Ordering.{is_lt, nat_cmp, ordering_then}
use Rattle.std.specs.Result.{IsErrAnd}
use Rattle.em_record.specs.Order.{IsAscending, is_below, record_cmp}
use Rattle.em_record.specs.declared.record.Record.{Record}
use Rattle.em_record.proofs.Order.{order_ascends}
use Rattle.em_space.specs.Ledger.{Runs, Stops}
use Rattle.em_space.specs.Rig.{RigState, Goes, Cause, IfFull}
use Rattle.em_space.specs.declared.fault.EmFault.{EmFault}
use Rattle.em_space.specs.declared.fault.EmFault.TheVariants.{DeviceFault, Full, Damaged}
use Rattle.em_space.specs.Held.{Holds}
use Rattle.em_space.proofs.Apart.{off_append, off_right}
use Rattle.em_space.proofs.Lists.{distinct_apart, distinct_join, in_use_append}
use Rattle.em_space.proofs.Paying.{pays_more, pays_of_owes}
use Rattle.em_space.proofs.Runs.{runs_of, runs_second}
use Rattle.em_space.proofs.Sessions.{session_as}
use Rattle.em_space.proofs.Within.{goes_wider}
use Rattle.em_chain.specs.Chain.{ChainStays, chain_blocks, chain_items}
use Rattle.em_chain.specs.Effects.{OnFull}
use Rattle.em_chain.specs.Parts.{AllBelow, NoneBelow, PartCosts, Parts}
use Rattle.em_chain.specs.declared.chain.Chain.{Chain}
use Rattle.em_chain.proofs.Counts.{lt_or_le}
use Rattle.em_chain.proofs.Laws.{chain_stays}
use Rattle.em_chain.proofs.Withins.{within_ends}
use Rattle.aig_defs.specs.Ranks.{edges_by_rank}
use Rattle.aig_text.specs.Draft.{chains_blocks}
use Rattle.aig_edges.specs.Graph.{IsOrdered, ordered_blocks, ordered_size}
use Rattle.aig_edges.specs.declared.graph.Ordered.{Ordered}
use Rattle.aig_sweep.specs.Lists.{Makes, MakesTo, begin_moves, begin_room, gates_from, lists_account}

-- An ascending list is sorted, as the order of std says it.
sorted_at : (xs : List Record) → IsAscending xs → (k : ℕ) (d : Record) → k + 1 < length xs
    → is_below (slice_index_or xs (k + 1) d) (slice_index_or xs k d) ≡ false
sorted_at [] h k d lt = absurd (omega (arith, lt))
sorted_at (x ∷ []) h k d lt = absurd (omega (arith, lt))
sorted_at (x ∷ y ∷ xs) h zero d lt = h.0.0
sorted_at (x ∷ y ∷ xs) h (suc k) d lt =
    let e = sorted_at (y ∷ xs) h.1 k d (omega (arith, lt)) in
    rw (add-one (suc k)) (rw (add-one k) at e)

-- The edges between ranks are sorted.
pub edges_sorted : {s : RigState} {o : Ordered} → IsOrdered s o → IsTrue s.device.told
    → IsSorted record_cmp (chain_items s o.edges)
edges_sorted {s} {o} h z =
    let a = (h.stands z).is.edges in
    let b = order_ascends (edges_by_rank (h.stands z).circuit (h.stands z).order) in
    λ k d lo lt. sorted_at (chain_items s o.edges) (rw a b) k d lt

-- no record is below one of zeros
at_zero : (m : ℕ) (o : Ordering) → is_lt o ≡ false → is_lt (ordering_then (nat_cmp m 0) o) ≡ false
at_zero zero o h = h
at_zero (suc m) o h =
    ap (λ r. is_lt (ordering_then r o)) (sym (nat_cmp_is (suc m) 0 Greater (omega arith)))

last_zero : (m : ℕ) → is_lt (nat_cmp m 0) ≡ false
last_zero zero = refl
last_zero (suc m) = ap is_lt (sym (nat_cmp_is (suc m) 0 Greater (omega arith)))

-- a bound by the word a alone
abbrev from : ℕ → Record
from n = record { a = n; b = 0; c = 0; d = 0 }

not_below : (x : Record) (n : ℕ) → n ≤ x.a → is_below x (from n) ≡ false
not_below x n h = ⊎_elim
    (λ (l : n < x.a). ap (λ r. is_lt (ordering_then r (ordering_then (nat_cmp x.b 0)
    (ordering_then (nat_cmp x.c 0) (nat_cmp x.d 0))))) (sym (nat_cmp_is x.a n Greater l)))
    (λ (l : x.a ≤ n). ap (λ r. is_lt (ordering_then r (ordering_then (nat_cmp x.b 0)
    (ordering_then (nat_cmp x.c 0) (nat_cmp x.d 0)))))
    (sym (nat_cmp_is x.a n Equal (omega (arith, h, l))))
    ∙ at_zero x.b _ (at_zero x.c _ (last_zero x.d)))
    (lt_or_le n x.a)

is_low : (x : Record) (n : ℕ) → n < x.a + 1 → is_below x (from n) ≡ true → ⊥
is_low x n h e = let f = not_below x n (omega (arith, h)) in cc

pub low_of : (n : ℕ) (xs : List Record) → AllBelow (from (n + 1)) xs
    → All (λ (x : Record). x.a ≤ n) xs
low_of n xs h = All-weaker (λ (x : Record). is_below x (from (n + 1)) ≡ true)
    (λ (x : Record). x.a ≤ n)
    (λ x e. ⊎_elim (λ (l : n < x.a). absurd (is_low x (n + 1) (omega (arith, l)) e))
    (λ (l : x.a ≤ n). l) (lt_or_le n x.a)) xs h

below_is : (x : Record) (n : ℕ) → x.a < n → is_below x (from n) ≡ true
below_is x n l = ap (λ r. is_lt (ordering_then r (ordering_then (nat_cmp x.b 0)
    (ordering_then (nat_cmp x.c 0) (nat_cmp x.d 0))))) (sym (nat_cmp_is x.a n Less l))

is_high : (x : Record) (n : ℕ) → x.a < n → is_below x (from n) ≡ false → ⊥
is_high x n h e = let f = below_is x n h in cc

pub high_of : (n : ℕ) (xs : List Record) → NoneBelow (from (n + 1)) xs
    → All (λ (x : Record). n < x.a) xs
high_of n xs h = All-weaker (λ (x : Record). is_below x (from (n + 1)) ≡ false)
    (λ (x : Record). n < x.a)
    (λ x e. ⊎_elim (λ (l : n < x.a). l)
    (λ (l : x.a ≤ n). absurd (is_high x (n + 1) (omega (arith, l)) e)) (lt_or_le n x.a)) xs h

module _ {s u : RigState} {f g : Chain} (o : Ordered) (ordered : IsOrdered s o)
    (holds : IsTrue s.device.told → Holds s (ordered_blocks s o))
    (goes : Goes (chain_blocks s o.edges) s u)
    (parts : Parts s u o.edges (gates_from o.header) f g) (costs : PartCosts s u o.edges.blocks)
  where
    -- The edges were cut.
    cut_runs : Runs (o.edges.blocks + 1) (chain_blocks s o.edges)
        (chain_blocks u f ++ chain_blocks u g)
        (lists_account o.edges.blocks (4 * o.edges.blocks + 4))
        (lists_account (f.blocks + g.blocks) 0) s u
    cut_runs =
        let es = chain_blocks s o.edges in
        let fs = chain_blocks u f in
        let gs = chain_blocks u g in
        let ends = within_ends s es gs parts.second_blocks in
        runs_of es (fs ++ gs) goes
        (record {
          off = λ z j i n. off_append j fs gs (parts.first_blocks.off z j i n) (ends.off
              z j i n);
        })
        (λ z. record {
          in_use = in_use_append u fs gs (parts.first.told z).holds.in_use
              (parts.second.told z).holds.in_use;
          distinct = λ y. distinct_join fs gs ((parts.first.told z).holds.distinct y)
              ((parts.second.told z).holds.distinct y) (parts.apart (sym goes.touches.told ∙ z));
        })
        (record {
          held = omega (arith, parts.used, costs.used);
          used = omega (arith, parts.used);
          most = omega (arith, costs.most);
          moves = omega (arith, costs.moves);
          later = goes.touches.moves;
          pays = pays_of_owes 0 0 0 parts.stored (omega arith);
        })

    -- The resets are the state.
    pub made : Makes s u o o.resets f g
    made =
        let rs = chain_blocks s o.resets in
        let es = chain_blocks s o.edges in
        let stays : ChainStays s u o.resets = chain_stays es s u o.resets goes.touches
        (λ z. distinct_apart rs es ((holds z).distinct z)) ordered.resets.is in
        let beside = runs_second rs (lists_account o.resets.blocks 0) holds cut_runs in
        let x = beside.spends in
        let n = o.header.inputs + o.header.latches in
        record {
          state_is = stays.is;
          given_is = parts.first;
          gates_is = parts.second;
          latches = ordered.resets.count_is;
          state_blocks = refl;
          edges = parts.count;
          resets_are = stays.items;
          items = parts.items;
          low = λ y. low_of n (chain_items u f) (parts.below y);
          high = λ y. high_of n (chain_items u g) (parts.others y);
          runs = record {
            session = session_as (chains_blocks u o.resets f g) beside.session
                (λ z. rw (stays.blocks z) refl);
            frames = beside.frames;
            spends = record {
              held = omega (arith, x.held);
              used = omega (arith, x.used);
              most = omega (arith, x.most);
              moves = omega (arith, x.moves);
              later = x.later;
              pays = pays_more x.pays (omega arith);
            };
          };
        }

full_still : (e : EmFault) (P Q : Type 0) → (P → Q) → OnFull e P → IfFull e (λ _. Q)
full_still DeviceFault P Q f h = tt
full_still (Full n) P Q f h = f h
full_still (Damaged k) P Q f h = tt

-- The edges weren't cut.
pub uncut : {s t : RigState} {e : EmFault} (o : Ordered) → Goes (chain_blocks s o.edges) s t
    → PartCosts s t o.edges.blocks → OnFull e (s.used ≡ s.blocks) → Cause s t e
    → Stops (begin_room o) 0 1 (ordered_blocks s o)
    (lists_account (ordered_size o) (begin_moves o)) s t e
uncut {s} {t} {e} o g k f c =
    let n = g.sound.numbers.used_most in
    let m = g.sound.numbers.most_high in
    let b = g.touches.blocks in
    let rs = chain_blocks s o.resets in
    let es = chain_blocks s o.edges in
    record {
      goes = goes_wider (rs ++ es) es s t (record { off = λ z j i w. off_right j rs es w }) g;
      halts = record {
        used = omega (arith, k.used);
        full = full_still e (s.used ≡ s.blocks)
            (t.used + ordered_size o < s.used + begin_room o)
            (λ h. omega (arith, h, n, m, b)) f;
        most = omega (arith, k.most);
        moves = omega (arith, k.moves);
        later = g.touches.moves;
        pays = pays_of_owes 1 0 1 k.owes (omega arith);
      };
      cause = c;
    }

-- the same by the result
pub made_err : (s t : RigState) (o : Ordered) (r : Result (Chain × Chain × Chain) EmFault)
    (e : EmFault) → IsErrAnd r (λ f. f ≡ e)
    → Stops (begin_room o) 0 1 (ordered_blocks s o)
    (lists_account (ordered_size o) (begin_moves o)) s t e → MakesTo s t o r
made_err s t o (Ok x) e h k = absurd h
made_err s t o (Err f) e h k = subst (λ (x : EmFault). Stops (begin_room o) 0 1
    (ordered_blocks s o) (lists_account (ordered_size o) (begin_moves o)) s t x) (sym h) k
