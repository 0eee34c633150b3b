-- What a call that empties all buffers owes is within what it is charged, also with the release of the
-- tree's blocks after it.
use Rattle.std.proofs.Common.{◌≡◌, ℕ, ◌+◌, ◌-◌, ◌*◌, ◌≤◌, inl, inr, length, sym, ap, ◌∙◌, subst, arith, IsTrue}
use Rattle.std.specs.Prelude.{Option}
use Rattle.std.proofs.lemmas.Bool.{cases_lt}
use Rattle.em_record.specs.Cost.{blocks_of, lev}
use Rattle.em_record.specs.Shape.{IsShape, ShapeNumbers}
use Rattle.em_record.specs.declared.record.Record.{Record}
use Rattle.em_settle.specs.declared.step.Step.{Step}
use Rattle.em_space.specs.Rig.{RigState, Sound}
use Rattle.em_space.specs.declared.fault.EmFault.{EmFault}
use Rattle.em_tree_blocks.specs.Reading.{tree_blocks}
use Rattle.em_tree_cost.specs.Counters.{Counters, Sums}
use Rattle.em_tree_cost.specs.Paid.{FitsShape, settle_rest}
use Rattle.em_tree_cost.specs.Shares.{levels_of}
use Rattle.em_tree_cost.proofs.Ceilings.{blocks_ceil, blocks_most}
use Rattle.em_tree_cost.proofs.Heights.{parts_few}
use Rattle.em_tree_cost.proofs.Fusing.{fuse_settle_most}
use Rattle.em_trunk.specs.Counting.{counted_settling}
use Rattle.em_trunk.specs.Debts.{MayOwe, owing_all}
use Rattle.em_tree.specs.Settling.{SettledAll, StopsSettling}
use Rattle.em_trunk.specs.Trunk.{IsTrunk, sums_in}
use Rattle.em_trunk.specs.declared.trunk.Trunk.{Trunk}
use Rattle.em_trunk.proofs.Charges.{level_most}
use Rattle.em_trunk.proofs.Debts.{may_begin, may_most, may_then, may_toll}
use Rattle.em_trunk.proofs.HeldBlocks.{held_few}
use Rattle.em_tree.proofs.SettledTrees.{toll_same}

-- Before the first operation there is one level.
pub one_level : (shape : ShapeNumbers) (k : ℕ) → IsShape shape → k ≤ 0 → levels_of shape k ≡ 1
one_level shape k is none =
    let zero_of : k ≡ 0 = omega (arith, none) in
    let few = blocks_most shape 0 0 is (omega arith) in
    let q : blocks_of shape k ≡ 0 = ap (blocks_of shape) zero_of ∙ omega (arith, few) in
    let v : lev shape (blocks_of shape k) ≡ 0 = ap (lev shape) q in
    omega (arith, v)

-- The settling and the release, by numbers.
release_sum : (L q leaves debt r : ℕ) → 1 ≤ leaves → debt ≤ 10 * q + leaves * (63 * L)
    → r ≤ 2 * (1 + leaves * (L + 1) + 2 * q) + 1 → debt + r ≤ 16 * q + leaves * (66 * L + 6)
release_sum L q leaves debt r some owed most = omega (arith, some, owed, most)

small_release : (L q leaves r : ℕ) → L ≡ 1 → q ≤ 0 → leaves ≤ 1
    → r ≤ 2 * (1 + leaves * (L + 1) + 2 * q) + 1 → r ≤ 64
small_release L q leaves r one none few most =
    let P : ℕ → Type 0 = λ n. r ≤ 2 * (1 + leaves * (n + 1) + 2 * q) + 1 in
    let h = subst P one most in
    omega (arith, h, none, few)

-- A settling's debt with the moves of a release, but for 64, is within the toll.
released_fits : {shape : ShapeNumbers} {cs : Counters} {u : Sums} (debt r : ℕ) → IsShape shape
    → FitsShape shape cs u → debt ≤ settle_rest shape cs.k
    → debt ≤ 10 * blocks_of shape cs.k + u.leaves * (63 * levels_of shape cs.k)
    → r ≤ 2 * (1 + u.leaves * (levels_of shape cs.k + 1) + 2 * blocks_of shape cs.k) + 1
    → debt + (r - 64) ≤ settle_rest shape cs.k
released_fits {shape = shape} {cs = cs} {u = u} debt r is a toll owed most =
    let q = blocks_of shape cs.k in
    let L = levels_of shape cs.k in
    let some = a.sums.leaves_some in
    elim (cases_lt 0 cs.k) [
      | inl more ↦
          let sum = release_sum L q u.leaves debt r some owed most in
          let all = fuse_settle_most is a (debt + r) (inr (more, omega (arith, sum))) in
          omega (arith, all)
      | inr none ↦
          let c = blocks_ceil shape cs.k is in
          let z : q ≤ 0 = blocks_most shape cs.k 0 is (omega (arith, none)) in
          let parts = parts_few is a in
          let leaves = a.sums.leaves_are in
          let small = small_release L q u.leaves r (one_level shape cs.k is none) z
          (omega (arith, leaves, parts, z)) most in
          omega (arith, small, toll)
    ]

module _ (key : Record → Record) (step : Option Record → Record → Step)
    (IsOp IsKept : Record → Type 0) (s t : RigState) (v w : Trunk) (sound : Sound s)
    (is : IsTrunk key IsOp IsKept s v) where
  -- what may be owed when the settling begins, and at its end
  pub begun : IsTrue s.device.told
      → MayOwe 0 (owing_all s (counted_settling s.pool.shape v)) s (counted_settling s.pool.shape v)
  begun told = (may_begin sound is told).0

  module _ (x : SettledAll key step IsOp IsKept (owing_all s (counted_settling s.pool.shape v)) s t
      (counted_settling s.pool.shape v) w)
      (told : IsTrue s.device.told) where
    pub ended : (m : MayOwe 0 0 t w) × (x.debt ≤ m.debt)
    ended =
        let on = may_then 0 0 x.debt x.taken (owing_all s (counted_settling s.pool.shape v)) 0 told (begun told) x.works (x.owes told) in
        let e = on.1 in
        (on.0, omega (arith, e))

    -- the toll at the end is the same
    pub same_toll : settle_rest t.pool.shape w.longest ≡ settle_rest s.pool.shape v.longest
    same_toll = toll_same s.pool.shape t.pool.shape v.longest w.longest x.works.session.touches.shape
        x.works.numbers.longest

    -- The settling went well,
    pub settled_toll : x.debt ≤ settle_rest s.pool.shape v.longest
    settled_toll =
        let few = may_toll 0 0 0 x.works.session.sound ended.0 (omega arith) in
        let less = ended.1 in
        let same = same_toll in
        omega (arith, few, less, same)

    -- with the blocks' release, but for 64 moves of it,
    pub released_toll : (r : ℕ) → r ≤ 2 * length (tree_blocks w.level t w.root) + 1
        → x.debt + (r - 64) ≤ settle_rest s.pool.shape v.longest
    released_toll r most =
        let m = ended.0 in
        let less = ended.1 in
        let sound_t = x.works.session.sound in
        let shape = t.pool.shape in
        let told_t : IsTrue t.device.told = x.works.session.touches.told ∙ told in
        let b = m.books in
        let cs = b.counters in
        let f = b.paid.fits in
        let k : cs.k ≡ w.longest = b.k ∙ m.longest in
        let owed = may_most 0 0 0 sound_t m (omega arith) in
        let O : ℕ → Type 0 = λ n. m.debt + 0 ≤ 10 * blocks_of shape n + (sums_in t w).leaves * (63 * levels_of shape n) in
        let own = subst O (sym k) owed in
        let toll = may_toll 0 0 0 sound_t m (omega arith) in
        let T : ℕ → Type 0 = λ n. m.debt + 0 ≤ settle_rest shape n in
        let paid = subst T (sym k) toll in
        let full = (blocks_ceil shape cs.k sound_t.shape).holds in
        let since = f.sums.since_pushed in
        let since_k = f.sums.since_most in
        let stored : (sums_in t w).stored ≤ blocks_of shape cs.k * shape.block =
        omega (arith, full, since, since_k) in
        let L : ℕ → Type 0 = λ n. w.level ≤ levels_of shape n in
        let low : w.level ≤ levels_of shape cs.k = subst L (sym b.k) (level_most sound_t.shape b) in
        let held = held_few key IsOp IsKept t w x.works.running sound_t.shape told_t (x.none_waits told)
        (levels_of shape cs.k) (blocks_of shape cs.k) low stored in
        let all = released_fits {u = sums_in t w} x.debt r sound_t.shape f (omega (arith, paid, less))
        (omega (arith, own, less)) (omega (arith, most, held)) in
        let R : ℕ → Type 0 = λ n. x.debt + (r - 64) ≤ settle_rest shape n in
        let here = subst R k all in
        let E : ℕ → Type 0 = λ n. x.debt + (r - 64) ≤ n in
        subst E same_toll here

  -- or it gave up.
  pub stopped_toll : {fault : EmFault}
      → (x : StopsSettling (owing_all s (counted_settling s.pool.shape v)) s t
      (counted_settling s.pool.shape v) w fault)
      → IsTrue s.device.told → x.debt ≤ settle_rest s.pool.shape v.longest
  stopped_toll x told =
      let few = x.owes told (begun told) in
      omega (arith, few)
