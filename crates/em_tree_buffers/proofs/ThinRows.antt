-- Buffers of a node that is read, which are thin between two keys.
use Rattle.std.specs.Prelude.{◌≡◌, true, false, ℕ, zero, suc, ◌-◌, ◌<◌, ◌≤◌, List, [], ◌∷◌, get_or, length, IsTrue, Option, Some}
use Rattle.std.proofs.Common.{refl, arith}
use Rattle.em_record.specs.Order.{is_below}
use Rattle.em_record.specs.declared.record.Record.{Record}
use Rattle.em_record.proofs.OrderLaws.{below_itself}
use Rattle.em_space.specs.Rig.{RigState}
use Rattle.em_chain.proofs.Readers.{length_items}
use Rattle.em_node.specs.Node.{no_entry}
use Rattle.em_node.specs.declared.entry.Entry.{Entry}
use Rattle.em_tree_model.specs.Ranges.{IsTree, Under}
use Rattle.em_tree_model.specs.Tree.{Tree}
use Rattle.em_tree_model.proofs.Ranges.{below_not, from_above, low_less}
use Rattle.em_tree_blocks.specs.Node.{buffer_of, linked_block}
use Rattle.em_tree_blocks.specs.Reading.{AreStored, row_of}
use Rattle.em_empty.specs.FirstFull.{buffer_len}
use Rattle.em_tree_walk.specs.Descents.{end_at}
use Rattle.em_tree_walk.specs.Ways.{entry_start}
use Rattle.em_trunk.specs.Entries.{EachEntry}
use Rattle.em_tree_buffers.specs.Findings.{ThinBetween}
use Rattle.em_tree_buffers.proofs.Around.{ends_before, thin_below, thin_late}

-- where the keys of an entry begin that isn't the first
pub start_low : (lo : Record) (es : List Entry) (i : ℕ) → 0 < i → i < length es
    → entry_start lo es i ≡ (get_or es i no_entry).low
start_low lo [] i some one = absurd (omega (arith, one))
start_low lo (e ∷ es) zero some one = absurd (omega (arith, some))
start_low lo (e ∷ []) (suc i) some one = absurd (omega (arith, one))
start_low lo (e ∷ f ∷ fs) (suc zero) some one = refl
start_low lo (e ∷ f ∷ fs) (suc (suc i)) some one =
    start_low f.low (f ∷ fs) (suc i) (omega arith) (omega (arith, one))

module _ (key : Record → Record) (child : ℕ → Tree) (s : RigState) where
  -- entries begin within their node's keys,
  pub entry_up : (es : List Entry) (i : ℕ) (lo : Record) (hi : Option Record)
      → IsTree key (row_of child s es) lo hi → is_below (entry_start lo es i) lo ≡ false
  entry_up [] i lo hi is = below_itself lo
  entry_up (e ∷ es) zero lo hi is = below_itself lo
  entry_up (e ∷ []) (suc i) lo hi is = below_itself lo
  entry_up (e ∷ f ∷ fs) (suc i) lo hi is =
      low_less (entry_start f.low (f ∷ fs) i) f.low lo (below_not lo f.low is.3.0)
      (entry_up (f ∷ fs) i f.low hi is.4)

  pub entry_under : (es : List Entry) (i : ℕ) (lo : Record) (hi : Option Record)
      → IsTree key (row_of child s es) lo hi → Under hi lo → Under hi (entry_start lo es i)
  entry_under [] i lo hi is u = u
  entry_under (e ∷ es) zero lo hi is u = u
  entry_under (e ∷ []) (suc i) lo hi is u = u
  entry_under (e ∷ f ∷ fs) (suc i) lo hi is u = entry_under (f ∷ fs) i f.low hi is.4 is.3.1

  -- and have a key.
  pub entry_some : (es : List Entry) (i : ℕ) (lo : Record) (hi : Option Record)
      → IsTree key (row_of child s es) lo hi → Under hi lo → i < length es
      → Under (end_at es i hi) (entry_start lo es i)
  entry_some [] i lo hi is u one = absurd (omega (arith, one))
  entry_some (e ∷ []) zero lo hi is u one = u
  entry_some (e ∷ f ∷ fs) zero lo hi is u one = is.3.0
  entry_some (e ∷ []) (suc i) lo hi is u one = absurd (omega (arith, one))
  entry_some (e ∷ f ∷ fs) (suc i) lo hi is u one =
      entry_some (f ∷ fs) i f.low hi is.4 is.3.1 (omega (arith, one))

  -- A key of an entry is below where later ones begin.
  pub start_later : (es : List Entry) (i j : ℕ) (lo : Record) (hi : Option Record) (q : Record)
      → IsTree key (row_of child s es) lo hi → i < j → j < length es → Under (end_at es i hi) q
      → is_below q (entry_start lo es j) ≡ true
  start_later [] i j lo hi q is less one u = absurd (omega (arith, one))
  start_later (e ∷ es) i zero lo hi q is less one u = absurd (omega (arith, less))
  start_later (e ∷ []) i (suc j) lo hi q is less one u = absurd (omega (arith, one))
  start_later (e ∷ f ∷ fs) zero (suc j) lo hi q is less one u =
      from_above q f.low (entry_start f.low (f ∷ fs) j) u (entry_up (f ∷ fs) j f.low hi is.4)
  start_later (e ∷ f ∷ fs) (suc i) (suc j) lo hi q is less one u =
      start_later (f ∷ fs) i j f.low hi q is.4 (omega (arith, less)) (omega (arith, one)) u

  module _ (limit l : ℕ) (from : Record) (until : Option Record) (told : IsTrue s.device.told)
      (Child : ℕ → Type 0) where
    -- the entries up to the last one
    rows_on : (es : List Entry) (n : ℕ) (lo : Record) (hi : Option Record)
        → IsTree key (row_of child s es) lo hi → AreStored Child s es → 0 < length es
        → ((j : ℕ) → j < n → buffer_len es j < limit)
        → (n < length es → Under until (entry_start lo es n) → ⊥)
        → EachEntry (ThinBetween limit (suc l) from until) (suc l) lo hi (row_of child s es)
    rows_on [] n lo hi is a some thin late = tt
    rows_on (e ∷ es) zero lo hi is a some thin late =
        thin_late key limit (suc l) from until (omega arith) (suc l) lo hi (row_of child s (e ∷ es)) is
        (late (omega arith))
    rows_on (e ∷ []) (suc n) lo hi is a some thin late =
        let count = length_items s (buffer_of e) a.0 told in
        let few = thin zero (omega arith) in (
          λ x u w. omega (arith, count, few),
          thin_below key limit (suc l) from until (omega arith) (suc l - 1) lo hi
              (child (linked_block e.child)) (omega arith),
          tt,
        )
    rows_on (e ∷ f ∷ fs) (suc n) lo hi is a some thin late =
        let count = length_items s (buffer_of e) a.0 told in
        let few = thin zero (omega arith) in (
          λ x u w. omega (arith, count, few),
          thin_below key limit (suc l) from until (omega arith) (suc l - 1) lo (Some f.low)
              (child (linked_block e.child)) (omega arith),
          rows_on (f ∷ fs) n f.low hi is.4 a.2 (omega arith) (λ j y. thin (suc j) (omega (arith, y)))
              (λ x. late (omega (arith, x))),
        )

    -- Entries before the first one end at or below the first key, and those from the last one on begin at the
    -- end or after it.
    pub row_thin : (es : List Entry) (first n : ℕ) (lo : Record) (hi : Option Record)
        → IsTree key (row_of child s es) lo hi → AreStored Child s es → first < length es
        → is_below from (entry_start lo es first) ≡ false
        → ((j : ℕ) → first ≤ j → j < n → buffer_len es j < limit)
        → (n < length es → Under until (entry_start lo es n) → ⊥) → first ≤ n
        → EachEntry (ThinBetween limit (suc l) from until) (suc l) lo hi (row_of child s es)
    row_thin [] first n lo hi is a one begins thin late less = tt
    row_thin (e ∷ es) first zero lo hi is a one begins thin late less =
        thin_late key limit (suc l) from until (omega arith) (suc l) lo hi (row_of child s (e ∷ es)) is
        (late (omega arith))
    row_thin (e ∷ []) (suc first) (suc n) lo hi is a one begins thin late less =
        absurd (omega (arith, one))
    row_thin (e ∷ []) zero (suc n) lo hi is a one begins thin late less =
        let count = length_items s (buffer_of e) a.0 told in
        let few = thin zero (omega arith) (omega arith) in (
          λ x u w. omega (arith, count, few),
          thin_below key limit (suc l) from until (omega arith) (suc l - 1) lo hi
              (child (linked_block e.child)) (omega arith),
          tt,
        )
    row_thin (e ∷ f ∷ fs) (suc first) (suc n) lo hi is a one begins thin late less =
        let rest = row_of child s (f ∷ fs) in
        let up = low_less from (entry_start f.low (f ∷ fs) first) f.low (entry_up (f ∷ fs) first f.low hi is.4)
        begins in (
          λ x u w. absurd (ends_before lo hi rest from tt up u),
          thin_below key limit (suc l) from until (omega arith) (suc l - 1) lo (Some f.low)
              (child (linked_block e.child)) (omega arith),
          row_thin (f ∷ fs) first n f.low hi is.4 a.2 (omega (arith, one)) begins
              (λ j x y. thin (suc j) (omega (arith, x)) (omega (arith, y)))
              (λ x. late (omega (arith, x))) (omega (arith, less)),
        )
    row_thin (e ∷ f ∷ fs) zero (suc n) lo hi is a one begins thin late less =
        let count = length_items s (buffer_of e) a.0 told in
        let few = thin zero (omega arith) (omega arith) in (
          λ x u w. omega (arith, count, few),
          thin_below key limit (suc l) from until (omega arith) (suc l - 1) lo (Some f.low)
              (child (linked_block e.child)) (omega arith),
          rows_on (f ∷ fs) n f.low hi is.4 a.2 (omega arith)
              (λ j y. thin (suc j) (omega arith) (omega (arith, y)))
              (λ x. late (omega (arith, x))),
        )
