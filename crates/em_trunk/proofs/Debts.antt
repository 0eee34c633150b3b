-- What a call that empties all buffers may owe, over its steps: its steps suffice, and its debt is within
-- the part that it pays for by itself.
use Rattle.std.proofs.Common.{◌≡◌, ℕ, zero, suc, ◌+◌, ◌-◌, ◌*◌, ◌^◌, ◌≤◌, refl, sym, ◌∙◌, subst, arith, IsTrue}
use Rattle.std.specs.Prelude.{Option}
use Rattle.std.proofs.Math.Nat.{le_of_mul-le-mul_right, mul-le-mul_left, mul-le-mul_right}
use Rattle.em_record.specs.Cost.{blocks_of}
use Rattle.em_record.specs.Shape.{ShapeNumbers}
use Rattle.em_record.specs.declared.record.Record.{Record}
use Rattle.em_space.specs.Rig.{RigState, Sound}
use Rattle.em_space.proofs.Paying.{pays_kept}
use Rattle.em_space.proofs.Steps.{goes_nothing}
use Rattle.em_settle.specs.declared.step.Step.{Step}
use Rattle.em_tree_cost.specs.Books.{KeepsBooks, count_moves}
use Rattle.em_tree_cost.specs.Paid.{settle_rest}
use Rattle.em_tree_cost.specs.Shares.{levels_of}
use Rattle.em_tree_cost.proofs.Ceilings.{blocks_ceil}
use Rattle.em_tree_cost.proofs.Paid.{levels_within}
use Rattle.em_tree_walk.proofs.Losses.{loses_still}
use Rattle.em_trunk.specs.Counting.{counted_settling}
use Rattle.em_trunk.specs.Debts.{KeepsOwing, MayOwe, owing_all, owing_to, settling_moves, settling_toll}
use Rattle.em_trunk.specs.Events.{Charges, step_allowance}
use Rattle.em_trunk.specs.Trunk.{IsTrunk, counts_of, sums_in, trunk_blocks, trunk_unstored}
use Rattle.em_trunk.specs.Works.{Works, CanWork, deepest}
use Rattle.em_trunk.specs.declared.trunk.Trunk.{Trunk}
use Rattle.em_trunk.proofs.Charges.{books_less, charges_books, charges_debt, charges_within, level_most}
use Rattle.em_trunk.proofs.PathSplits.{sums_same}
use Rattle.em_trunk.proofs.SettleDebt.{settling_most, settling_steps}
use Rattle.em_trunk.proofs.StepWorks.{still_continues, still_running, still_session}
use Rattle.em_trunk.proofs.Steps.{books_anew, since_call}
use Rattle.em_trunk.proofs.Rooms.{keeps_none}

-- A debt within what may be owed is within the moves of such a call,
pub may_most : {s : RigState} {v : Trunk} (p more d : ℕ) → Sound s → (m : MayOwe p more s v)
    → s.pool.shape.block * d ≤ more → m.debt + d ≤ settling_moves s v
may_most {s = s} {v = v} p more d sound m h =
    let B = s.pool.shape.block in
    let most = m.most in
    let all : (m.debt + d) * B ≤ settling_moves s v * B = omega (arith, most, h) in
    let low = sound.shape.block_low in
    le_of_mul-le-mul_right all (omega (arith, low))

-- and so within what it pays for.
pub may_toll : {s : RigState} {v : Trunk} (p more d : ℕ) → Sound s → (m : MayOwe p more s v)
    → s.pool.shape.block * d ≤ more → m.debt + d ≤ settling_toll s v
may_toll {s = s} {v = v} p more d sound m h =
    let shape = s.pool.shape in
    let few = may_most p more d sound m h in
    let e = m.books.k ∙ m.longest in
    let P : ℕ → Type 0 = λ k. m.debt + d
    ≤ 10 * blocks_of shape k + (sums_in s v).leaves * (63 * levels_of shape k) in
    let Q : ℕ → Type 0 = λ k. m.debt + d ≤ settle_rest shape k in
    subst Q e (settling_most (m.debt + d) sound.shape m.books.paid.fits (subst P (sym e) few))

-- So a step is left.
pub may_step : {s : RigState} {v : Trunk} (p more : ℕ) → Sound s → MayOwe p more s v → 1 ≤ v.steps
may_step {s = s} {v = v} p more sound m =
    let shape = s.pool.shape in
    let toll = may_toll p more 0 sound m (omega arith) in
    let T : ℕ → Type 0 = λ k. m.debt + 0 ≤ settle_rest shape k in
    let own = subst T (sym m.longest) toll in
    let few = m.few in
    let within = settling_steps {c = count_moves p m.counts} m.debt sound.shape (omega (arith, few))
    m.none_taken m.none_settled m.books (omega (arith, own)) in
    let left = m.left in
    omega (arith, within, left)

-- what may be owed, after a step that owes d
most_then : (B debt d more next Q L a b : ℕ) → 1 ≤ L → a ≤ b
    → B * debt + more ≤ B * (10 * Q + a * (63 * L))
    → B * d + next + B * (35 + 3 * L) * a ≤ more + B * (35 + 3 * L) * b
    → B * (debt + d) + next ≤ B * (10 * Q + b * (63 * L))
most_then B debt d more next Q L a b some rise most owes =
    let x = b - a in
    let e : b ≡ a + x = omega (arith, rise) in
    let one : B * (35 + 3 * L) ≤ B * (63 * L) = mul-le-mul_left B (omega (arith, some)) in
    let all : B * (35 + 3 * L) * x ≤ B * (63 * L) * x = mul-le-mul_right x one in
    let P : ℕ → Type 0 = λ y. B * d + next + B * (35 + 3 * L) * a ≤ more + B * (35 + 3 * L) * y in
    let Q2 : ℕ → Type 0 = λ y. B * (debt + d) + next ≤ B * (10 * Q + y * (63 * L)) in
    let here = subst P e owes in
    subst Q2 (sym e) (omega (arith, here, all, most))

levels_some : (shape : ShapeNumbers) (n : ℕ) → 1 ≤ levels_of shape n
levels_some shape n = omega arith

-- after a step of the call
pub may_then : {key : Record → Record} {step : Option Record → Record → Step}
    {IsOp IsKept : Record → Type 0} {s t : RigState} {v w : Trunk} (p q d n more next : ℕ)
    → IsTrue s.device.told → (m : MayOwe p more s v)
    → Works key step IsOp IsKept p q (s.pool.shape.block * d) n s t v w
    → KeepsOwing more next d s t v w → (x : MayOwe q next t w) × (x.debt ≡ m.debt + d)
may_then {s = s} {t = t} {v = v} {w = w} p q d n more next told m a k =
    let c = m.counts in
    let B = s.pool.shape.block in
    let shape = a.session.touches.shape in
    let longest = a.numbers.longest in
    let after = (charges_books (a.paces told) c (B * m.debt) m.longest m.books).call.books in
    let K : ShapeNumbers → Type 0 = λ x. KeepsBooks x (count_moves q (count_moves n c))
    (x.block * (m.debt + d)) (sums_in t w) in
    let S : ShapeNumbers → Type 0 = λ x. w.steps + (c.spent + n) ≡ step_allowance x (c.n + c.k) c.k in
    let M : ShapeNumbers → Type 0 = λ x. x.block * (m.debt + d) + next
    ≤ x.block * (10 * blocks_of x w.longest + (sums_in t w).leaves * (63 * levels_of x w.longest)) in
    let N : ℕ → Type 0 = λ y. B * (m.debt + d) + next
    ≤ B * (10 * blocks_of s.pool.shape y + (sums_in t w).leaves * (63 * levels_of s.pool.shape y)) in
    let taken = a.steps in
    let left = m.left in
    let x : MayOwe q next t w = record {
      counts = count_moves n c;
      debt = m.debt + d;
      longest = m.longest ∙ sym longest;
      few = m.few;
      none_taken = m.none_taken;
      none_settled = m.none_settled;
      books = subst K (sym shape) ((books_less (count_moves (n + q) c) (count_moves q (count_moves n c))
          (B * m.debt + B * d) (B * (m.debt + d)) refl refl refl refl refl refl (omega arith) (omega arith) after).0);
      left = subst S (sym shape) (omega (arith, taken, left));
      most = subst M (sym shape) (subst N (sym longest) (most_then B m.debt d more next
          (blocks_of s.pool.shape v.longest) (deepest s v) (sums_in s v).leaves (sums_in t w).leaves
          (levels_some s.pool.shape v.longest) k.leaves m.most k.owes));
    } in
    (x, refl)

nothing_moved : (n : ℕ) → n - n ≡ 0
nothing_moved n = omega arith

-- searches that are paid for in advance by a debt
pub owing_bought : {key : Record → Record} {step : Option Record → Record → Step}
    {IsOp IsKept : Record → Type 0} {s : RigState} {v : Trunk} (n : ℕ) → CanWork key IsOp IsKept s v
    → Works key step IsOp IsKept 0 (deepest s v * n) (s.pool.shape.block * (deepest s v * n)) 0 s s v v
owing_bought {step = step} {s = s} {v = v} n can =
    let i = can.running in
    let g = goes_nothing s can.sound in
    let q = deepest s v * n in
    let d = s.pool.shape.block * q in
    let C : (m : ℕ) → m ≡ 0 → Charges s.pool.shape v.longest 0 m q d (sums_in s v) (sums_in s v) =
    λ m none. charges_within 0 0 q d m q d (omega (arith, none)) (omega arith)
    (charges_debt 0 0 q q (sums_in s v) (sums_in s v) can.sound.shape (omega arith) d
    (sums_same (sums_in s v)) (record { root = refl; blocks = refl }) (omega arith)) in
    record {
      session = still_session i g;
      frames = g.frames;
      pays = pays_kept (trunk_unstored v) (omega arith) g.touches.moves;
      loses = loses_still (trunk_blocks s v) s s refl;
      numbers = record { pushed = refl; longest = refl; since = refl; settled = refl; resets = refl; spent = refl; adopted = refl; counted = refl };
      steps = omega arith;
      running = still_running i g;
      continues = still_continues i g step;
      still = λ told none. none;
      charges = λ told. C (s.moves - s.moves) (nothing_moved s.moves);
      paces = λ told. C 0 refl;
      gives = λ told. omega arith;
      room = λ told n h. keeps_none n s v;
    }

-- the levels that are below one, by number
levels_parts : (L a : ℕ) → a + 1 ≤ L → L ≤ 24 → 58 + 3 * L + a * (12 + 2 * L) ≤ 63 * L
levels_parts L a below most =
    let M = L - 1 in
    let e : L ≡ M + 1 = omega (arith, below) in
    let m : a * (12 + 2 * (M + 1)) ≤ M * (12 + 2 * (M + 1)) =
    mul-le-mul_right (12 + 2 * (M + 1)) (omega (arith, below, e)) in
    let square : M * M ≤ M * 23 = mul-le-mul_left M (omega (arith, most, e)) in
    let P : ℕ → Type 0 = λ n. 58 + 3 * n + a * (12 + 2 * n) ≤ 63 * n in
    subst P (sym e) (omega (arith, m, square))

begin_most : (B W leaves L Q a : ℕ) → a + 1 ≤ L → L ≤ 24 → W ≤ Q * B
    → 10 * W + B * (leaves * (35 + 3 * L + a * (12 + 2 * L))) + B * (23 * leaves)
    ≤ B * (10 * Q + leaves * (63 * L))
begin_most B W leaves L Q a below most few =
    let m = levels_parts L a below most in
    let all : leaves * (58 + 3 * L + a * (12 + 2 * L)) ≤ leaves * (63 * L) = mul-le-mul_left leaves m in
    let high : B * (leaves * (58 + 3 * L + a * (12 + 2 * L))) ≤ B * (leaves * (63 * L)) =
    mul-le-mul_left B all in
    omega (arith, high, few)

-- the levels of a whole tree
owing_most : (s : RigState) (v : Trunk) (level : ℕ) → 1 ≤ level → level ≤ deepest s v
    → deepest s v ≤ 24
    → (sums_in s v).stored + (sums_in s v).waiting
    ≤ blocks_of s.pool.shape v.longest * s.pool.shape.block
    → owing_to level s v + s.pool.shape.block * (23 * (sums_in s v).leaves)
    ≤ s.pool.shape.block * settling_moves s v
owing_most s v zero some low most few = absurd (omega (arith, some))
owing_most s v (suc at) some low most few = begin_most s.pool.shape.block
    ((sums_in s v).stored + (sums_in s v).waiting) (sums_in s v).leaves (deepest s v)
    (blocks_of s.pool.shape v.longest) at (omega (arith, low)) most few

-- A call that empties all buffers begins.
pub may_begin : {key : Record → Record} {IsOp IsKept : Record → Type 0} {s : RigState} {v : Trunk}
    → Sound s → IsTrunk key IsOp IsKept s v → IsTrue s.device.told → (let w = counted_settling
    s.pool.shape v in (m : MayOwe 0 (owing_all s w) s w) × (m.debt ≡ 0))
may_begin {s = s} {v = v} sound is told =
    let shape = s.pool.shape in
    let n = is.running.numbers in
    let b = (is.books told).books in
    let f = b.paid.fits in
    let w = counted_settling shape v in
    let few : v.longest ≤ 2 ^ 101 = (let x = n.longest_most in let y = n.pushed_most in omega (arith, x, y)) in
    let levels = levels_within shape v.longest sound.shape (omega (arith, few)) in
    let low : v.level ≤ deepest s v = level_most sound.shape b in
    let held : (sums_in s v).stored + (sums_in s v).waiting ≤ blocks_of shape v.longest * shape.block =
    (let c = blocks_ceil shape v.longest sound.shape in let h = c.holds in
    let x = f.sums.since_pushed in let y = f.sums.since_most in let z = b.k in omega (arith, h, x, y, z)) in
    let x : MayOwe 0 (owing_all s w) s w = record {
      counts = since_call (counts_of v);
      debt = 0;
      longest = refl;
      few = few;
      none_taken = refl;
      none_settled = refl;
      books = (books_less (since_call (counts_of v)) (count_moves 0 (since_call (counts_of v))) 0
          (shape.block * 0) refl refl refl refl refl refl (omega arith) (omega arith)
          (books_anew (omega arith) b)).0;
      left = omega arith;
      most =
          let all = owing_most s w v.level n.level_some low levels.most held in
          omega (arith, all);
    } in
    (x, refl)
