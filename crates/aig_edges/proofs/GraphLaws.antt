-- A graph over a call that leaves its blocks alone.
use Rattle.std.proofs.Common.{◌≡◌, ℕ, List, ◌++◌, IsTrue, refl, sym, subst, ◌∙◌}
use Rattle.em_record.specs.declared.record.Record.{Record}
use Rattle.em_space.specs.Held.{Apart, Holds}
use Rattle.em_space.specs.Rig.{RigState, Touches}
use Rattle.em_space.proofs.Held.{holds_kept}
use Rattle.em_space.proofs.Lists.{apart_left, apart_right}
use Rattle.em_chain.specs.Chain.{ChainStays, chain_blocks, chain_items}
use Rattle.em_chain.specs.declared.chain.Chain.{Chain}
use Rattle.em_chain.proofs.Laws.{chain_stays}
use Rattle.aig_defs.specs.Circuit.{Circuit}
use Rattle.aig_defs.specs.Straight.{IsStraightGraph}
use Rattle.aig_text.specs.Draft.{chains_blocks}
use Rattle.aig_text.proofs.PartsLaws.{compact_stays}
use Rattle.aig_edges.specs.Graph.{IsGraph, IsGraphOf, graph_blocks}
use Rattle.aig_edges.specs.declared.graph.Graph.{Graph}

-- It is one still, in the same blocks, of the same circuits.
pub record GraphStays (s t : RigState) (g : Graph) : Type 0 where
  pub is : IsGraph t g
  pub blocks : IsTrue s.device.told → graph_blocks t g ≡ graph_blocks s g
  pub of : IsTrue s.device.told → (c : Circuit) → IsGraphOf s g c → IsGraphOf t g c

-- its chains stay
record FourStay (s t : RigState) (f g k r : Chain) : Type 0 where
  first : ChainStays s t f
  second : ChainStays s t g
  third : ChainStays s t k
  fourth : ChainStays s t r

four_stay : (held : List ℕ) (s t : RigState) (g : Graph) → Touches held s t
    → (IsTrue s.device.told → Apart (graph_blocks s g) held) → IsGraph s g
    → FourStay s t g.gates g.edges g.sources g.resets
four_stay held s t g h a i =
    let gs = chain_blocks s g.gates in
    let es = chain_blocks s g.edges in
    let ss = chain_blocks s g.sources in
    let rs = chain_blocks s g.resets in
    let lists = λ (told : IsTrue s.device.told).
    apart_right rs (gs ++ (es ++ ss)) held (a told) in
    let fourth = λ (told : IsTrue s.device.told).
    apart_left rs (gs ++ (es ++ ss)) held (a told) in
    let first = λ (told : IsTrue s.device.told). apart_left gs (es ++ ss) held (lists told) in
    let rest = λ (told : IsTrue s.device.told). apart_right gs (es ++ ss) held (lists told) in
    let second = λ (told : IsTrue s.device.told). apart_left es ss held (rest told) in
    let third = λ (told : IsTrue s.device.told). apart_right es ss held (rest told) in
    record {
      first = chain_stays held s t g.gates h first i.gates.is;
      second = chain_stays held s t g.edges h second i.edges.is;
      third = chain_stays held s t g.sources h third i.sources.is;
      fourth = chain_stays held s t g.resets h fourth i.resets.is;
    }

still_of : {s t : RigState} {g : Graph} → FourStay s t g.gates g.edges g.sources g.resets
    → IsTrue s.device.told → (c : Circuit) → IsGraphOf s g c → IsGraphOf t g c
still_of w told c k = record {
  header = k.header;
  is = k.is;
  gates = w.first.items told ∙ k.gates;
  edges = w.second.items told ∙ k.edges;
  sources = w.third.items told ∙ k.sources;
  resets = w.fourth.items told ∙ k.resets;
}

four_stayed : {s t : RigState} {f g k r : Chain} → FourStay s t f g k r → IsTrue s.device.told
    → chain_blocks t r ++ chains_blocks t f g k ≡ chain_blocks s r ++ chains_blocks s f g k
four_stayed {s} {t} {f} {g} {k} {r} w told =
    rw (w.first.blocks told, w.second.blocks told, w.third.blocks told, w.fourth.blocks told) refl

pub graph_stays : (held : List ℕ) (s t : RigState) (g : Graph) → Touches held s t
    → (IsTrue s.device.told → Apart (graph_blocks s g) held) → IsGraph s g → GraphStays s t g
graph_stays held s t g h a i =
    let w = four_stay held s t g h a i in
    let back = λ (told : IsTrue t.device.told). sym h.told ∙ told in
    record {
      is = record {
        header = i.header;
        gates = record { is = w.first.is; count_is = i.gates.count_is };
        edges = record { is = w.second.is; count_is = i.edges.count_is };
        sources = record { is = w.third.is; count_is = i.sources.count_is };
        resets = compact_stays i.resets h.shape w.fourth;
        holds = λ told.
            subst (λ (ks : List ℕ). Holds t ks) (sym (four_stayed w (back told)))
            (holds_kept held s t (graph_blocks s g) h a (i.holds (back told)));
        stands = λ told.
            let k = i.stands (back told) in
            record { circuit = k.circuit; is = still_of w (back told) k.circuit k.is };
        straight = λ told said.
            subst (λ (rs : List Record). IsStraightGraph g.header rs (chain_items t g.gates))
            (sym (w.third.items (back told)))
            (subst (λ (rs : List Record). IsStraightGraph g.header (chain_items s g.sources) rs)
            (sym (w.first.items (back told))) (i.straight (back told) said));
      };
      blocks = four_stayed w;
      of = still_of w;
    }
