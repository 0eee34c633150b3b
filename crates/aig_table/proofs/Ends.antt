-- The bits of a table at the ranks of next values and columns, for each circuit that its edges stand for.
use Rattle.std.proofs.Common.{◌≡◌, ℕ, ◌+◌, ◌-◌, ◌<◌, Bool, List, length, ap, subst, ◌∙◌, arith}
use Rattle.std.proofs.lemmas.List.{length-map}
use Rattle.em_record.specs.declared.record.Record.{Record}
use Rattle.em_bits.specs.Bits.{has_bit}
use Rattle.aig_defs.specs.Circuit.{Circuit, columns, nexts}
use Rattle.aig_defs.specs.Edges.{LeadOn}
use Rattle.aig_defs.specs.Ranks.{ends, first_end_rank, ordered_edges, rank_count, rank_value}
use Rattle.aig_defs.specs.Value.{literal_value, step_of}
use Rattle.aig_defs.specs.declared.circuit.Gate.{Gate}
use Rattle.aig_defs.specs.declared.circuit.Header.{Header}
use Rattle.aig_defs.specs.declared.circuit.Latch.{Latch}
use Rattle.aig_defs.proofs.RankEdges.{RankNumbers, edges_lead, rank_numbers}
use Rattle.aig_defs.proofs.RankValues.{end_rank, next_rank, output_rank}
use Rattle.aig_sweep.specs.Evaluates.{Represents}
use Rattle.aig_sweep.specs.Spreads.{HasValues, base_of, last_of}
use Rattle.aig_sweep.proofs.Circuits.{has_values}
use Rattle.aig_table.specs.Sweeps.{HasEdgesOf}
use Rattle.aig_table.specs.Tables.{IsTable, bits_at, ranks_of}
use Rattle.aig_table.proofs.Tables.{bits_are}

module _ {c : Circuit} {order : List Gate} {s i : List Bool} {h : Header} {given gates bits : List Record}
    (r : Represents c order s i h given gates bits) where
  numbers : RankNumbers c order
  numbers = rank_numbers c order r.order_is.is.lengths r.order_is.count

  end_is : first_end_rank c order ≡ 1 + h.inputs + h.latches + h.gates
  end_is = numbers.first_end ∙ ap (λ (z : Header). 1 + z.inputs + z.latches + z.gates) r.header_is

  ends_long : length (ends c) ≡ h.latches + columns h
  ends_long = numbers.ends ∙ ap (λ (z : Header). z.latches + columns z) r.header_is

  latches_is : c.header.latches ≡ h.latches
  latches_is = ap (λ (z : Header). z.latches) r.header_is

  columns_is : columns c.header ≡ columns h
  columns_is = ap columns r.header_is

  values : HasValues (rank_value c order s i) (ordered_edges c order) h given gates bits
  values = has_values r

  leads : LeadOn (last_of h + 1) (ranks_of h - 1 + 1) (ordered_edges c order)
  leads =
      let m : first_end_rank c order ≡ last_of h + 1 = omega (arith, end_is) in
      let n : rank_count c order ≡ ranks_of h - 1 + 1 = omega (arith, end_is, ends_long) in
      subst (λ (k : ℕ). LeadOn k (ranks_of h - 1 + 1) (ordered_edges c order)) m
      (subst (λ (k : ℕ). LeadOn (first_end_rank c order) k (ordered_edges c order)) n
      (edges_lead c order r.order_is))

  -- What following wants of a circuit's records.
  pub has_edges : HasEdgesOf (rank_value c order s i) (ordered_edges c order) h given gates bits
  has_edges = record {
    followable = record {
      solves = values.sendable.solves;
      climbs = values.sendable.climbs;
      leads = leads;
      low = omega arith;
      high = omega arith;
    };
    whole = values.whole;
    constant = values.constant;
    bits_are = values.bits_are;
  }

  module _ {table : List Record}
      (t : IsTable (rank_value c order s i) (base_of h) (ranks_of h - 1) (ordered_edges c order) table) where
    -- The bit of an end is its value.
    end_bit : (k j : ℕ) → k ≡ first_end_rank c order + j → j < h.latches + columns h
        → has_bit table k ≡ rank_value c order s i (first_end_rank c order + j)
    end_bit k j e l =
        let many = ends_long in
        ap (has_bit table) e
        ∙ t.later (first_end_rank c order + j) (omega (arith, end_is)) (omega (arith, end_is, l))
        ∙ (end_rank c order r.order_is s i j (omega (arith, l, many))).brings

    pub next_bits : bits_at table (1 + h.inputs + h.latches + h.gates) h.latches ≡ (step_of c s i).1
    next_bits =
        let f = literal_value c s i in
        let long : length (step_of c s i).1 ≡ h.latches =
        length-map (nexts c.latches) f ∙ length-map c.latches (λ (l : Latch). l.next)
        ∙ r.order_is.is.lengths.latches ∙ latches_is in
        bits_are table (1 + h.inputs + h.latches + h.gates) h.latches (step_of c s i).1 long (λ j l.
        end_bit (1 + h.inputs + h.latches + h.gates + j) j (omega (arith, end_is)) (omega (arith, l))
        ∙ next_rank c order r.order_is s i j (omega (arith, l, latches_is)))

    pub column_bits : bits_at table (1 + h.inputs + h.latches + h.gates + h.latches) (columns h)
        ≡ (step_of c s i).0
    column_bits =
        let f = literal_value c s i in
        let long : length (step_of c s i).0 ≡ columns h =
        length-map c.columns f ∙ r.order_is.is.lengths.columns ∙ columns_is in
        bits_are table (1 + h.inputs + h.latches + h.gates + h.latches) (columns h) (step_of c s i).0 long
        (λ j l.
        let m : first_end_rank c order + (h.latches + j) ≡ first_end_rank c order + (c.header.latches + j) =
        omega (arith, latches_is) in
        end_bit (1 + h.inputs + h.latches + h.gates + h.latches + j) (h.latches + j) (omega (arith, end_is))
        (omega (arith, l))
        ∙ ap (rank_value c order s i) m
        ∙ output_rank c order r.order_is s i j (omega (arith, l, columns_is)))
