-- The entries of a node with nothing in their buffers.
use Rattle.std.proofs.Common.{◌≡◌, ℕ, zero, suc, ◌+◌, ◌-◌, ◌<◌, ◌≤◌, List, [], ◌∷◌, length, replicate, ap, refl, arith}
use Rattle.std.specs.Prelude.{insert}
use Rattle.em_record.specs.declared.record.Record.{Record}
use Rattle.em_space.specs.Rig.{RigState}
use Rattle.em_chain.specs.Chain.{IsChain, empty_chain}
use Rattle.em_node.specs.declared.entry.Entry.{Entry}
use Rattle.em_node.specs.Node.{AreLinked, Is, IsLimited, entries_of}
use Rattle.em_node.proofs.Seams.{entries_is}
use Rattle.em_tree_blocks.specs.Reading.{buffer_items}
use Rattle.em_empty.specs.Node.{AreBuffers, buffer_blocks}
use Rattle.empty_bench.specs.Places.{bare_entry, bare_entries}

pub bare_length : (child j n : ℕ) → length (bare_entries child j n) ≡ n
bare_length child j zero = refl
bare_length child j (suc n) = ap suc (bare_length child (j + 1) n)

-- a list with no record
empty_is : (s : RigState) → IsChain s empty_chain
empty_is s = record {
  count_most = omega arith;
  blocks_most = omega arith;
  told = λ z. record {
    holds = record { in_use = tt; distinct = λ y. tt };
    list = record {
      run = refl;
      blocks_is = refl;
      tail_is = refl;
      count_is = refl;
      skip_fits = refl;
    };
  };
}

-- The buffers have no record,
pub bare_items : (s : RigState) (child j n : ℕ)
    → buffer_items s (bare_entries child j n) ≡ replicate n []
bare_items s child j zero = refl
bare_items s child j (suc n) = ap (λ bs. [] ∷ bs) (bare_items s child (j + 1) n)

-- and no block,
pub bare_blocks : (s : RigState) (child j n : ℕ) → buffer_blocks s (bare_entries child j n) ≡ []
bare_blocks s child j zero = refl
bare_blocks s child j (suc n) = bare_blocks s child (j + 1) n

-- and are chains.
pub bare_buffers : (s : RigState) (child j n : ℕ) → AreBuffers s (bare_entries child j n)
bare_buffers s child j zero = tt
bare_buffers s child j (suc n) = (empty_is s, bare_buffers s child (j + 1) n)

-- The links are for a device that has the child's block.
pub bare_linked : (blocks child j n : ℕ) → 1 ≤ child → child ≤ blocks
    → AreLinked blocks (bare_entries child j n)
bare_linked blocks child j zero some most = tt
bare_linked blocks child j (suc n) some most = (
  record {
    child_some = some;
    child_most = most;
    head_most = omega arith;
    tail_most = omega arith;
  },
  bare_linked blocks child (j + 1) n some most,
)

-- No buffer is over the limits.
pub bare_limited : (child j : ℕ) → IsLimited (bare_entry child j)
bare_limited child j = record { words = refl; count = omega arith; blocks = omega arith }

-- One entry more comes before those of the last places.
pub bare_put : (b : List Record) (child done : ℕ) (e : Entry) → done < 64
    → Is b 1 (bare_entries child (64 - done) done) → e ≡ bare_entry child (63 - done)
    → insert (entries_of b) 0 e ≡ bare_entries child (64 - (done + 1)) (done + 1)
bare_put b child done e less is one =
    let same = entries_is b 1 _ is in
    let next : 64 - done ≡ (63 - done) + 1 = omega arith in
    let here : 64 - (done + 1) ≡ 63 - done = omega arith in
    let more : done + 1 ≡ suc done = omega arith in
    rw (same, one, here, more, next) refl
