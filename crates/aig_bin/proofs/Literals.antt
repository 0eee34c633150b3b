-- The literals of rows without them in the text, and of operands by their deltas.
use Rattle.std.proofs.Common.{◌≡◌, ◌+◌, ◌-◌, ◌*◌, ◌<◌, ◌≤◌, ℕ, Bool, None, arith}
use Rattle.aig_defs.specs.declared.circuit.Header.{Header}
use Rattle.aig_defs.specs.declared.form.Limit.TheVariants.{Used}
use Rattle.aig_defs.specs.Circuit.{IsDefining, IsGate, IsHeader, IsLatch}
use Rattle.aig_defs.specs.Items.{number_fault}
use Rattle.aig_text.proofs.SectionRows.{used_within}

numbered_defines : (h : Header) (v : ℕ) → 1 ≤ v → v ≤ h.max → IsDefining h (2 * v)
numbered_defines h v some most =
    record { low = omega arith; high = omega arith; even = omega arith }

pub latch_is : (h : Header) (j next : ℕ) (reset : Bool) → IsHeader h → j < h.latches
    → number_fault (Used h.max) next ≡ None
    → IsLatch h (record { current = 2 * (h.inputs + 1 + j); next = next; reset = reset })
latch_is h j next reset is low ok = record {
  current = numbered_defines h (h.inputs + 1 + j) (omega arith) (omega (arith, is.enough, low));
  next = used_within h next ok;
}

pub gate_is : (h : Header) (i delta0 delta1 : ℕ) → IsHeader h → i < h.gates
    → IsGate h (record {
      lhs = 2 * (h.inputs + h.latches + 1 + i);
      rhs0 = 2 * (h.inputs + h.latches + 1 + i) - delta0;
      rhs1 = 2 * (h.inputs + h.latches + 1 + i) - delta0 - delta1;
    })
gate_is h i delta0 delta1 is low =
    let most : h.inputs + h.latches + 1 + i ≤ h.max = omega (arith, is.enough, low) in
    record {
      lhs = numbered_defines h (h.inputs + h.latches + 1 + i) (omega arith) most;
      rhs0 = omega (arith, most);
      rhs1 = omega (arith, most);
    }
