-- The chains of several strips: the last strip and those before it, and calls that leave them alone.
use Rattle.std.proofs.Common.{◌≡◌, ℕ, ◌+◌, ◌*◌, ◌<◌, ◌≤◌, ◌^◌, List, [], ◌∷◌, ◌++◌, length, map, refl, sym, ap, ◌∙◌, arith, IsTrue, append_assoc}
use Rattle.std.proofs.lemmas.List.{append-nil, map-append}
use Rattle.em_record.specs.Order.{IsAscending}
use Rattle.em_record.specs.declared.record.Record.{Record}
use Rattle.em_model.specs.Ascending.{Ascend}
use Rattle.em_model.specs.Stab.{NumberedInterval}
use Rattle.em_space.specs.Held.{Apart}
use Rattle.em_space.specs.Rig.{RigState, Sound, Touches}
use Rattle.em_space.proofs.Lists.{apart_left, apart_right}
use Rattle.em_chain.specs.Chain.{ChainStays, chain_blocks, chain_items, payload_in}
use Rattle.em_chain.specs.declared.chain.Chain.{Chain}
use Rattle.em_chain.proofs.Laws.{chain_stays}
use Rattle.em_segment_model.specs.Points.{interval_in, pairs_below, pairs_due}
use Rattle.em_segment_model.specs.Spans.{ends_below, ends_of}
use Rattle.em_segment.specs.Answers.{call_blocks}
use Rattle.em_segment.specs.Belows.{AreCalls, AreSorted, strips_blocks, strips_held}
use Rattle.em_segment_parts.specs.Chains.{IsPackedChain, chains_blocks, chains_count, chains_held, chains_in, chains_lists}
use Rattle.em_segment_parts.specs.declared.list.Listed.{Listed}
use Rattle.em_segment.proofs.CallSizes.{chain_filled, weight_least}
use Rattle.em_segment_parts.proofs.Regrouping.{SameTally, tally_append}

pub chains_last : (ls : List Listed) (c : Chain)
    → chains_in (ls ++ record { chain = c } ∷ []) ≡ chains_in ls ++ c ∷ []
chains_last ls c = map-append (λ (l : Listed). l.chain) ls (record { chain = c } ∷ [])

pub lists_last : (s : RigState) (cs : List Chain) (c : Chain)
    → chains_lists s (cs ++ c ∷ []) ≡ chains_lists s cs ++ chain_items s c ∷ []
lists_last s cs c = map-append (chain_items s) cs (c ∷ [])

-- As many of both.
pub calls_length : (most : ℕ) (s : RigState) (ps qs : List Chain) → AreCalls most s ps qs
    → length ps ≡ length qs
calls_length most s [] [] h = refl
calls_length most s [] (q ∷ qs) h = absurd h
calls_length most s (p ∷ ps) [] h = absurd h
calls_length most s (p ∷ ps) (q ∷ qs) h = let n = calls_length most s ps qs h.1 in omega (arith, n)

-- One strip and its call.
pub record IsCallOf (most : ℕ) (s : RigState) (p q : Chain) : Type 0 where
  pub points : IsPackedChain s p
  pub pieces : IsPackedChain s q
  pub some : 0 < p.count
  pub few : p.count ≤ most

-- The last strip, and those before it,
pub calls_last : {most : ℕ} {s : RigState} (ps qs : List Chain) (p q : Chain) → length ps ≡ length qs
    → AreCalls most s (ps ++ p ∷ []) (qs ++ q ∷ []) → AreCalls most s ps qs × IsCallOf most s p q
calls_last [] [] p q e (one, rest) = (
  tt,
  record { points = one.0; pieces = one.1; some = one.2; few = one.3 },
)
calls_last [] (y ∷ qs) p q e h = absurd (omega (arith, e))
calls_last (x ∷ ps) [] p q e h = absurd (omega (arith, e))
calls_last (x ∷ ps) (y ∷ qs) p q e (one, rest) =
    let m = calls_last ps qs p q (omega (arith, e)) rest in ((one, m.0), m.1)

-- its records in their order,
pub sorted_last : (pss qss : List (List Record)) (ps qs : List Record) → length pss ≡ length qss
    → AreSorted (pss ++ ps ∷ []) (qss ++ qs ∷ []) → AreSorted pss qss × (IsAscending ps
    × Ascend (λ (i : NumberedInterval). i.number) 0 (map interval_in qs) (2 ^ 40))
sorted_last [] [] ps qs e (one, rest) = (tt, one)
sorted_last [] (y ∷ qss) ps qs e h = absurd (omega (arith, e))
sorted_last (x ∷ pss) [] ps qs e h = absurd (omega (arith, e))
sorted_last (x ∷ pss) (y ∷ qss) ps qs e (one, rest) =
    let m = sorted_last pss qss ps qs (omega (arith, e)) rest in ((one, m.0), m.1)

-- its blocks,
pub blocks_last : (s : RigState) (ps qs : List Chain) (p q : Chain) → length ps ≡ length qs
    → strips_blocks s (ps ++ p ∷ []) (qs ++ q ∷ []) ≡ strips_blocks s ps qs ++ call_blocks s p q
blocks_last s [] [] p q e = append-nil (call_blocks s p q)
blocks_last s [] (y ∷ qs) p q e = absurd (omega (arith, e))
blocks_last s (x ∷ ps) [] p q e = absurd (omega (arith, e))
blocks_last s (x ∷ ps) (y ∷ qs) p q e =
    ap (λ (ks : List ℕ). call_blocks s x y ++ ks) (blocks_last s ps qs p q (omega (arith, e)))
    ∙ sym (append_assoc (call_blocks s x y) (strips_blocks s ps qs) (call_blocks s p q))

pub held_last : (ps qs : List Chain) (p q : Chain) → length ps ≡ length qs
    → strips_held (ps ++ p ∷ []) (qs ++ q ∷ []) ≡ strips_held ps qs + (p.blocks + q.blocks)
held_last [] [] p q e = omega arith
held_last [] (y ∷ qs) p q e = absurd (omega (arith, e))
held_last (x ∷ ps) [] p q e = absurd (omega (arith, e))
held_last (x ∷ ps) (y ∷ qs) p q e =
    let h = held_last ps qs p q (omega (arith, e)) in omega (arith, h)

pub count_last : (ps : List Chain) (p : Chain) → chains_count (ps ++ p ∷ []) ≡ chains_count ps + p.count
count_last [] p = omega arith
count_last (x ∷ ps) p = let h = count_last ps p in omega (arith, h)

-- its pairs, and what its pieces weigh.
pub due_last : (pss qss : List (List Record)) (ps qs : List Record) → length pss ≡ length qss
    → pairs_below (pss ++ ps ∷ []) (qss ++ qs ∷ []) ≡ pairs_below pss qss ++ pairs_due ps qs
due_last [] [] ps qs e = append-nil (pairs_due ps qs)
due_last [] (y ∷ qss) ps qs e = absurd (omega (arith, e))
due_last (x ∷ pss) [] ps qs e = absurd (omega (arith, e))
due_last (x ∷ pss) (y ∷ qss) ps qs e =
    ap (λ (xs : List Record). pairs_due x y ++ xs) (due_last pss qss ps qs (omega (arith, e)))
    ∙ sym (append_assoc (pairs_due x y) (pairs_below pss qss) (pairs_due ps qs))

pub weight_last : (pss qss : List (List Record)) (ps qs : List Record) → length pss ≡ length qss
    → ends_below (pss ++ ps ∷ []) (qss ++ qs ∷ []) ≡ ends_below pss qss + ends_of ps qs
weight_last [] [] ps qs e = omega arith
weight_last [] (y ∷ qss) ps qs e = absurd (omega (arith, e))
weight_last (x ∷ pss) [] ps qs e = absurd (omega (arith, e))
weight_last (x ∷ pss) (y ∷ qss) ps qs e =
    let h = weight_last pss qss ps qs (omega (arith, e)) in omega (arith, h)

-- The points' chains and then the pieces', strip by strip,
pub strips_regrouped : (s : RigState) (ps qs : List Chain) → length ps ≡ length qs
    → SameTally (chains_blocks s ps ++ chains_blocks s qs) (strips_blocks s ps qs)
strips_regrouped s [] [] e j = refl
strips_regrouped s [] (q ∷ qs) e j = absurd (omega (arith, e))
strips_regrouped s (p ∷ ps) [] e j = absurd (omega (arith, e))
strips_regrouped s (p ∷ ps) (q ∷ qs) e j =
    let P = chain_blocks s p in
    let Q = chain_blocks s q in
    let more = strips_regrouped s ps qs (omega (arith, e)) j in
    let rest = tally_append j (chains_blocks s ps) (chains_blocks s qs) in
    let left = tally_append j (P ++ chains_blocks s ps) (Q ++ chains_blocks s qs) in
    let one = tally_append j P (chains_blocks s ps) in
    let two = tally_append j Q (chains_blocks s qs) in
    let right = tally_append j (P ++ Q) (strips_blocks s ps qs) in
    let both = tally_append j P Q in
    omega (arith, more, rest, left, one, two, right, both)

-- and how many they are.
pub strips_held_is : (ps qs : List Chain) → length ps ≡ length qs
    → strips_held ps qs ≡ chains_held ps + chains_held qs
strips_held_is [] [] e = refl
strips_held_is [] (q ∷ qs) e = absurd (omega (arith, e))
strips_held_is (p ∷ ps) [] e = absurd (omega (arith, e))
strips_held_is (p ∷ ps) (q ∷ qs) e =
    let h = strips_held_is ps qs (omega (arith, e)) in omega (arith, h)

-- Calls left the blocks of some strips alone.
pub record StripsStay (most : ℕ) (s t : RigState) (ps qs : List Chain) : Type 0 where
  pub calls : AreCalls most t ps qs
  pub points : IsTrue s.device.told → chains_lists t ps ≡ chains_lists s ps
  pub pieces : IsTrue s.device.told → chains_lists t qs ≡ chains_lists s qs
  pub blocks : IsTrue s.device.told → strips_blocks t ps qs ≡ strips_blocks s ps qs

pub packed_stays : {held : List ℕ} {s t : RigState} {c : Chain} → IsPackedChain s c → Touches held s t
    → ChainStays s t c → IsPackedChain t c
packed_stays {s = s} i h st = record {
  is = st.is;
  packed = λ y. let z : IsTrue s.device.told = sym h.told ∙ y in st.packed z (i.packed z);
  few = i.few;
}

pub strips_stay : {most : ℕ} (held : List ℕ) (s t : RigState) (ps qs : List Chain) → Touches held s t
    → (IsTrue s.device.told → Apart (strips_blocks s ps qs) held) → AreCalls most s ps qs
    → StripsStay most s t ps qs
strips_stay held s t [] [] h a i =
    record { calls = tt; points = λ z. refl; pieces = λ z. refl; blocks = λ z. refl }
strips_stay held s t [] (q ∷ qs) h a i = absurd i
strips_stay held s t (p ∷ ps) [] h a i = absurd i
strips_stay held s t (p ∷ ps) (q ∷ qs) h a (one, rest) =
    let P = chain_blocks s p in
    let Q = chain_blocks s q in
    let both = λ (z : IsTrue s.device.told). apart_left (P ++ Q) (strips_blocks s ps qs) held (a z) in
    let x = chain_stays held s t p h (λ z. apart_left P Q held (both z)) one.0.is in
    let y = chain_stays held s t q h (λ z. apart_right P Q held (both z)) one.1.is in
    let more = strips_stay held s t ps qs h
    (λ z. apart_right (P ++ Q) (strips_blocks s ps qs) held (a z)) rest in
    record {
      calls = (
        (
          packed_stays one.0 h x,
          packed_stays one.1 h y,
          one.2,
          one.3,
        ),
        more.calls,
      );
      points = λ z. rw (x.items z, more.points z) refl;
      pieces = λ z. rw (y.items z, more.pieces z) refl;
      blocks = λ z. rw (x.blocks z, y.blocks z, more.blocks z) refl;
    }

-- A strip's two chains have at most a block each more than their records fill.
pub strips_filled : (most : ℕ) (s : RigState) (ps qs : List Chain) → Sound s → AreCalls most s ps qs
    → IsTrue s.device.told
    → strips_held ps qs * payload_in s ≤ chains_count ps
    + ends_below (chains_lists s ps) (chains_lists s qs) + 2 * length ps * payload_in s
strips_filled most s [] [] h i z = omega arith
strips_filled most s [] (q ∷ qs) h i z = absurd i
strips_filled most s (p ∷ ps) [] h i z = absurd i
strips_filled most s (p ∷ ps) (q ∷ qs) h (one, rest) z =
    let x = chain_filled h one.0 z in
    let y = chain_filled h one.1 z in
    let w : q.count ≤ ends_of (chain_items s p) (chain_items s q) =
    weight_least p one.1 z in
    let more = strips_filled most s ps qs h rest z in
    omega (arith, x, y, w, more)
