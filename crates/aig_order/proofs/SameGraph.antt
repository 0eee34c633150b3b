-- The graph of a circuit tells whether anything is defined twice, or used and not defined.
use Rattle.std.proofs.Common.{◌≡◌, sym, ap, ◌∙◌, arith}
use Rattle.aig_defs.specs.Circuit.{Circuit}
use Rattle.aig_defs.specs.Faults.{IsTwice, IsUndefined, Nowhere, IsDefined}
use Rattle.aig_defs.specs.Founded.{has, sources, gate_variables}
use Rattle.aig_defs.specs.Graph.{graph_edges, graph_gates, graph_sources}
use Rattle.aig_defs.proofs.Beside.{used_edge, edge_used}
use Rattle.aig_defs.proofs.Single.{few_definitions, times_in, times_append}
use Rattle.aig_defs.proofs.Unlike.{words}
use Rattle.em_space.specs.Rig.{RigState}
use Rattle.aig_edges.specs.Graph.{IsGraphOf}
use Rattle.aig_edges.specs.declared.graph.Graph.{Graph}
use Rattle.aig_order.specs.Adjacent.{definitions_of}
use Rattle.aig_order.proofs.CircuitLists.{defined_has}
use Rattle.aig_order.proofs.Definitions.{definition_has, definition_times}

-- two circuits with the same lists
pub record SameLists (c d : Circuit) : Type 0 where
  pub header : c.header ≡ d.header
  pub sources : graph_sources c ≡ graph_sources d
  pub gates : graph_gates c ≡ graph_gates d
  pub edges : graph_edges c ≡ graph_edges d

pub same_lists : {s : RigState} {g : Graph} (c d : Circuit) → IsGraphOf s g c → IsGraphOf s g d
    → SameLists c d
same_lists c d i j = record {
  header = i.header ∙ sym j.header;
  sources = sym i.sources ∙ j.sources;
  gates = sym i.gates ∙ j.gates;
  edges = sym i.edges ∙ j.edges;
}

-- define the same variables,
same_definitions : (c d : Circuit) → SameLists c d
    → definitions_of c.header (graph_sources c) (graph_gates c)
    ≡ definitions_of d.header (graph_sources d) (graph_gates d)
same_definitions c d s =
    ap (λ h. definitions_of h (graph_sources c) (graph_gates c)) s.header
    ∙ ap (λ xs. definitions_of d.header xs (graph_gates c)) s.sources
    ∙ ap (λ xs. definitions_of d.header (graph_sources d) xs) s.gates

-- as often,
same_twice : (c d : Circuit) → SameLists c d → Nowhere (IsTwice c) → Nowhere (IsTwice d)
same_twice c d s n v twice =
    omega (
      arith,
      twice,
      few_definitions c v n,
      definition_times c v,
      definition_times d v,
      ap (λ rs. times_in v (words rs)) (same_definitions c d s),
      times_append v (sources d) (gate_variables d),
    )

-- and use the same ones.
same_undefined : (c d : Circuit) → SameLists c d → Nowhere (IsUndefined c) → Nowhere (IsUndefined d)
same_undefined c d s n v u = n v (record {
  used = edge_used c v (ap (λ es. has (words es) v) s.edges ∙ used_edge d v u.used);
  nonzero = u.nonzero;
  undefined = λ there.
      u.undefined (definition_has d v
      (sym (ap (λ rs. has (words rs) v) (same_definitions c d s)) ∙ defined_has c v there));
})

-- So all circuits of a graph are defined if one is.
pub same_defined : (c d : Circuit) → SameLists c d → IsDefined c → IsDefined d
same_defined c d s h =
    record { twice = same_twice c d s h.twice; undefined = same_undefined c d s h.undefined }
