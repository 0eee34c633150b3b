-- What can be split, and what can be grown over, after calls that leave the blocks alone.
use Rattle.std.proofs.Common.{◌≡◌, ℕ, ◌<◌, List, length, refl, sym, ap, ◌∙◌, subst, IsTrue}
use Rattle.em_record.specs.declared.record.Record.{Record}
use Rattle.em_space.specs.Free.{Off}
use Rattle.em_space.specs.Rig.{RigState, Touches}
use Rattle.em_space.proofs.Held.{in_use_kept}
use Rattle.em_node.specs.declared.entry.Entry.{Entry}
use Rattle.em_node.specs.Node.{entries_of}
use Rattle.em_tree_blocks.specs.Node.{linked_block}
use Rattle.em_tree_blocks.specs.Reading.{IsNodeAt, entries_at}
use Rattle.em_tree_blocks.proofs.Frames.{node_stays}
use Rattle.em_balance.specs.Node.{CanGrowUp, CanSplit, LowsBelow, level_at}

pub split_stays : {s t : RigState} {node : ℕ} (held : List ℕ) → Touches held s t
    → (IsTrue s.device.told → Off node held) → CanSplit s node → CanSplit t node
split_stays {s} {t} {node} held h off i = record {
  in_use = in_use_kept held s t node h off i.in_use;
  told = λ y.
      let z : IsTrue s.device.told = sym h.told ∙ y in
      let same = (h.others z node i.in_use (off z)).contents in
      rw (same, h.shape, h.blocks) (i.told z);
}

-- a node with its level as it is read
node_again : {s : RigState} {l k : ℕ} → IsNodeAt s l k → IsNodeAt s (level_at s k) k
node_again i = record { in_use = i.in_use; block = i.block; level = refl }

pub grow_stays : {s t : RigState} {root : ℕ} {upper : Entry} (held : List ℕ) → Touches held s t
    → (IsTrue s.device.told → Off root held)
    → (IsTrue s.device.told → Off (linked_block upper.child) held) → CanGrowUp s root upper
    → CanGrowUp t root upper
grow_stays {s} {t} {root} {upper} held h off off_child i = record {
  in_use = in_use_kept held s t root h off i.in_use;
  limited = i.limited;
  told = λ y.
      let z : IsTrue s.device.told = sym h.told ∙ y in
      let o = i.told z in
      let l = level_at s root in
      let node = node_stays held s t h z l root (off z) o.node in
      let child = node_stays held s t h z l (linked_block upper.child) (off_child z) o.child in
      let same = (h.others z root i.in_use (off z)).contents in
      let level : level_at t root ≡ l = node.level in
      let entries : entries_at t root ≡ entries_at s root =
      ap (λ (b : List Record). entries_of b) same in
      let P : List Entry → Type 0 = λ es. LowsBelow es upper.low in
      let Q : List Entry → Type 0 = λ es. 0 < length es in
      let R : ℕ → Type 0 = λ n. n < 63 in
      record {
        node = node_again node;
        some = subst Q (sym entries) o.some;
        not_last = subst R (sym level) o.not_last;
        below = subst P (sym entries) o.below;
        linked = o.linked;
        child = record {
          in_use = child.in_use;
          block = child.block;
          level = child.level ∙ sym level;
        };
        other = o.other;
      };
}
