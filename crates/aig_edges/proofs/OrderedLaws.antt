-- Edges between ranks over a call that leaves their blocks alone.
use Rattle.std.proofs.Common.{◌≡◌, ℕ, List, ◌++◌, IsTrue, refl, sym, subst, ◌∙◌}
use Rattle.em_space.specs.Held.{Holds}
use Rattle.em_space.specs.Rig.{RigState, Touches}
use Rattle.em_space.proofs.Held.{holds_kept}
use Rattle.em_space.proofs.Lists.{apart_left, apart_right, apart_sym, distinct_apart}
use Rattle.em_chain.specs.Chain.{ChainStays, chain_blocks}
use Rattle.em_chain.proofs.Laws.{chain_stays}
use Rattle.aig_defs.specs.declared.circuit.Gate.{Gate}
use Rattle.aig_defs.specs.Circuit.{Circuit}
use Rattle.aig_text.proofs.PartsLaws.{compact_stays}
use Rattle.aig_edges.specs.Graph.{IsOrdered, IsOrderedOf, ordered_blocks}
use Rattle.aig_edges.specs.declared.graph.Ordered.{Ordered}

-- They are still edges between ranks, in the same blocks, of the same circuits and orders.
pub record OrderedStays (s t : RigState) (o : Ordered) : Type 0 where
  pub is : IsOrdered t o
  pub blocks : IsTrue s.device.told → ordered_blocks t o ≡ ordered_blocks s o
  pub of : IsTrue s.device.told → (c : Circuit) (order : List Gate) → IsOrderedOf s o c order
      → IsOrderedOf t o c order

still_ordered : {s t : RigState} (o : Ordered) (c : Circuit) (order : List Gate)
    → ChainStays s t o.edges → ChainStays s t o.resets → IsTrue s.device.told
    → IsOrderedOf s o c order → IsOrderedOf t o c order
still_ordered o c order w r z k = record {
  header = k.header;
  is = k.is;
  ordered = k.ordered;
  edges = w.items z ∙ k.edges;
  resets = r.items z ∙ k.resets;
}

pub ordered_stays : {s t : RigState} (ks : List ℕ) (o : Ordered) → Touches ks s t
    → (IsTrue s.device.told → Holds s (ks ++ ordered_blocks s o)) → IsOrdered s o
    → OrderedStays s t o
ordered_stays {s} {t} ks o h n i =
    let es = chain_blocks s o.edges in
    let rs = chain_blocks s o.resets in
    let apart = λ (z : IsTrue s.device.told).
    apart_sym ks (rs ++ es) (distinct_apart ks (rs ++ es) ((n z).distinct z)) in
    let w = chain_stays ks s t o.edges h (λ z. apart_right rs es ks (apart z)) i.edges.is in
    let r = chain_stays ks s t o.resets h (λ z. apart_left rs es ks (apart z)) i.resets.is in
    let same : IsTrue s.device.told → ordered_blocks t o ≡ ordered_blocks s o =
    λ z. rw (w.blocks z, r.blocks z) refl in
    record {
      is = record {
        header = i.header;
        edges = record { is = w.is; count_is = i.edges.count_is };
        resets = compact_stays i.resets h.shape r;
        holds = λ u.
            let z : IsTrue s.device.told = sym h.told ∙ u in
            subst (λ (js : List ℕ). Holds t js) (sym (same z))
            (holds_kept ks s t (rs ++ es) h apart (i.holds z));
        stands = λ u.
            let z : IsTrue s.device.told = sym h.told ∙ u in
            let k = i.stands z in
            record {
              circuit = k.circuit;
              order = k.order;
              is = still_ordered o k.circuit k.order w r z k.is;
            };
      };
      blocks = same;
      of = λ z c order k. still_ordered o c order w r z k;
    }
