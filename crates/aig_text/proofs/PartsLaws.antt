-- A circuit's parts: as they were read, and over a call that leaves their blocks alone.
use Rattle.std.proofs.Common.{◌≡◌, ℕ, List, ◌++◌, IsTrue, sym, refl, ap, subst, ◌∙◌}
use Rattle.em_record.specs.Shape.{ShapeNumbers, payload_of}
use Rattle.em_record.specs.declared.record.Record.{Record}
use Rattle.em_space.specs.Held.{Apart, Holds}
use Rattle.em_space.specs.Rig.{RigState, Touches}
use Rattle.em_space.proofs.Held.{holds_kept}
use Rattle.em_space.proofs.Lists.{apart_left, apart_right}
use Rattle.em_chain.specs.Chain.{ChainStays, chain_blocks, chain_items}
use Rattle.em_chain.specs.Counts.{ceiling}
use Rattle.em_chain.specs.declared.chain.Chain.{Chain}
use Rattle.em_chain.proofs.Laws.{chain_stays}
use Rattle.aig_defs.specs.Circuit.{Circuit}
use Rattle.aig_defs.specs.Sorted.{Climbs}
use Rattle.aig_defs.specs.Straight.{AreStraight}
use Rattle.aig_text.specs.Ascii.{ArePartsOf, GivesParts, IsPackedOf, OfSomeCircuit}
use Rattle.aig_text.specs.Draft.{four_blocks}
use Rattle.aig_text.specs.Parts.{IsChainOf, IsCompactOf, IsParts, PartsStay, parts_blocks}
use Rattle.aig_text.specs.declared.parts.Parts.{Parts}

chain_of : {s : RigState} {n : ℕ} {c : Chain} → IsPackedOf s n c → IsChainOf s n c
chain_of h = record { is = h.is; count_is = h.count_is }

compact_of : {s : RigState} {n : ℕ} {c : Chain} → IsPackedOf s n c → IsCompactOf s n c
compact_of h = record { is = h.is; count_is = h.count_is; blocks_is = h.blocks_is }

-- A chain with no spare block over a call that leaves its blocks alone.
pub compact_stays : {s t : RigState} {n : ℕ} {c : Chain} → IsCompactOf s n c
    → t.pool.shape ≡ s.pool.shape → ChainStays s t c → IsCompactOf t n c
compact_stays {n = n} i shape w = record {
  is = w.is;
  count_is = i.count_is;
  blocks_is = i.blocks_is
      ∙ ap (λ (x : ShapeNumbers). ceiling n (payload_of x)) (sym shape);
}

-- The parts that were read are those that a call may take.
pub parts_of : {old new : RigState} {p : Parts} → GivesParts old new p → IsParts new p
parts_of h = record {
  header = h.header;
  defs = chain_of h.defs;
  gates = chain_of h.gates;
  uses = chain_of h.uses;
  resets = compact_of h.resets;
  blocks = λ told. h.blocks.holds (sym h.blocks.touches.told ∙ told);
  stands = h.stands;
  climb = h.climb;
  straight = h.straight;
}

-- four chains over a call that leaves their blocks alone
record FourStay (s t : RigState) (f g k r : Chain) : Type 0 where
  first : ChainStays s t f
  second : ChainStays s t g
  third : ChainStays s t k
  fourth : ChainStays s t r

four_stay : (held : List ℕ) (s t : RigState) (p : Parts) → Touches held s t
    → (IsTrue s.device.told → Apart (parts_blocks s p) held) → IsParts s p
    → FourStay s t p.defs p.gates p.uses p.resets
four_stay held s t p h a i =
    let ds = chain_blocks s p.defs in
    let gs = chain_blocks s p.gates in
    let us = chain_blocks s p.uses in
    let rs = chain_blocks s p.resets in
    let lists = λ (told : IsTrue s.device.told).
    apart_right rs (ds ++ (gs ++ us)) held (a told) in
    let fourth = λ (told : IsTrue s.device.told).
    apart_left rs (ds ++ (gs ++ us)) held (a told) in
    let first = λ (told : IsTrue s.device.told). apart_left ds (gs ++ us) held (lists told) in
    let rest = λ (told : IsTrue s.device.told). apart_right ds (gs ++ us) held (lists told) in
    let second = λ (told : IsTrue s.device.told). apart_left gs us held (rest told) in
    let third = λ (told : IsTrue s.device.told). apart_right gs us held (rest told) in
    record {
      first = chain_stays held s t p.defs h first i.defs.is;
      second = chain_stays held s t p.gates h second i.gates.is;
      third = chain_stays held s t p.uses h third i.uses.is;
      fourth = chain_stays held s t p.resets h fourth i.resets.is;
    }

still_are : {s t : RigState} {p : Parts} → FourStay s t p.defs p.gates p.uses p.resets
    → IsTrue s.device.told → (c : Circuit) → ArePartsOf s p c → ArePartsOf t p c
still_are w told c k = record {
  header = k.header;
  is = k.is;
  defs = w.first.items told ∙ k.defs;
  gates = w.second.items told ∙ k.gates;
  uses = w.third.items told ∙ k.uses;
  resets = w.fourth.items told ∙ k.resets;
}

of_some : {s t : RigState} {p : Parts} → FourStay s t p.defs p.gates p.uses p.resets
    → IsTrue s.device.told → OfSomeCircuit s p → OfSomeCircuit t p
of_some w told o = record { circuit = o.circuit; are = still_are w told o.circuit o.are }

four_stayed : {s t : RigState} {f g k r : Chain} → FourStay s t f g k r → IsTrue s.device.told
    → four_blocks t f g k r ≡ four_blocks s f g k r
four_stayed {s} {t} {f} {g} {k} {r} w told =
    rw (w.first.blocks told, w.second.blocks told, w.third.blocks told, w.fourth.blocks told) refl

-- A circuit's parts over a call that leaves their blocks alone.
pub parts_stay : (held : List ℕ) (s t : RigState) (p : Parts) → Touches held s t
    → (IsTrue s.device.told → Apart (parts_blocks s p) held) → IsParts s p → PartsStay s t p
parts_stay held s t p h a i =
    let w = four_stay held s t p h a i in
    let back = λ (told : IsTrue t.device.told). sym h.told ∙ told in
    record {
      is = record {
        header = i.header;
        defs = record { is = w.first.is; count_is = i.defs.count_is };
        gates = record { is = w.second.is; count_is = i.gates.count_is };
        uses = record { is = w.third.is; count_is = i.uses.count_is };
        resets = compact_stays i.resets h.shape w.fourth;
        blocks = λ told. held_still t (four_stayed w (back told))
            (holds_kept held s t (parts_blocks s p) h a (i.blocks (back told)));
        stands = λ told. of_some w (back told) (i.stands (back told));
        climb = λ told said. subst Climbs (sym (w.first.items (back told)))
            (i.climb (back told) said);
        straight = λ told said.
            subst (λ (rs : List Record). AreStraight rs (chain_items t p.gates))
            (sym (w.first.items (back told)))
            (subst (λ (rs : List Record). AreStraight (chain_items s p.defs) rs)
            (sym (w.second.items (back told))) (i.straight (back told) said));
      };
      blocks = four_stayed w;
      are = still_are w;
    }
  where
    held_still : (t : RigState) {ks js : List ℕ} → js ≡ ks → Holds t ks → Holds t js
    held_still t e k = subst (Holds t) (sym e) k
