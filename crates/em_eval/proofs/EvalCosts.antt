-- The moves of an evaluation's parts add up to its transfer cost: reading and ordering a circuit in r
-- passes, and making its evaluator, is within r + 2 times the cost of 2E records, T steps are within T times
-- that, and n groups within 2n times that. None of these numbers falls if a size rises.
use Rattle.std.proofs.Common.{◌≡◌, ℕ, ◌+◌, ◌*◌, ◌<◌, ◌≤◌, zero, suc, Bool, true, false, subst, sym, arith}
use Rattle.std.proofs.Math.Nat.{mul-le-mul}
use Rattle.em_record.specs.Cost.{blocks_of, cost}
use Rattle.em_record.specs.Shape.{IsShape, ShapeNumbers, payload_of}
use Rattle.em_record.proofs.Blocks.{shares_add}
use Rattle.em_chain.specs.Counts.{ceiling}
use Rattle.em_chain.proofs.Sessions.{ceiling_rises}
use Rattle.em_tree_cost.specs.Shares.{cost_unit, floors_of, queue_share}
use Rattle.em_tree_cost.proofs.Circuits.{queue_units}
use Rattle.em_tree_cost.proofs.Rising.{cost_rises, queue_share_rises}
use Rattle.aig_wide.proofs.GroupCalls.{calls_blocks, calls_floors}
use Rattle.em_eval.specs.EvalMoves.{calling_moves, circuit_moves, groups_moves, making_moves, rounds_moves, steps_moves}
use Rattle.em_eval.specs.EvalSize.{eval_cost, rounds_of}
use Rattle.em_ready.proofs.RoomLaws.{ceiling_most, fits_payloads, times_rises}

-- half of both
halved : (size q p : ℕ) → 2 * size ≤ (2 * q) * p → size ≤ q * p
halved size q p h = omega (arith, h)

-- A list of E records and one block more are within a unit.
list_unit : (shape : ShapeNumbers) (E : ℕ) → IsShape shape
    → ceiling E (payload_of shape) + 1 ≤ cost_unit shape E
list_unit shape E is =
    let q = blocks_of shape (2 * E) in
    let fits = fits_payloads shape (2 * E) is in
    let list : ceiling E (payload_of shape) ≤ q =
    ceiling_most E (payload_of shape) q (omega (arith, is.block_low))
    (halved E q (payload_of shape) fits) in
    let unit : (q + 1) * 1 ≤ cost_unit shape E =
    mul-le-mul {n₁ = q + 1} {m₁ = 1} {n₂ = q + 1} {m₂ = floors_of shape (2 * E)} (omega arith)
    (omega arith) in
    omega (arith, list, unit)

-- the moves of some lists, by units
lists_units : (k c more u : ℕ) → c + 1 ≤ u → more ≤ k → k * c + more ≤ k * u
lists_units k c more u h few = let rises = times_rises k (c + 1) u h in omega (arith, rises, few)

-- the lists and queues of a circuit's parts, by units
circuit_sum : (r u first second lists : ℕ) → first ≤ 240 * 3 * u → second ≤ 240 * (r + 4) * u
    → lists ≤ (10 * r + 68) * u → lists + first + second ≤ (r + 2) * (2048 * u)
circuit_sum r u first second lists a b c = omega (arith, a, b, c)

-- those of rounds
rounds_sum : (t u queue lists : ℕ) → queue ≤ 1440 * t * u → lists ≤ 9 * t * u
    → lists + queue ≤ t * (2048 * u)
rounds_sum t u queue lists a b = omega (arith, a, b)

-- the moves of a circuit's lists, in one sum
circuit_lists : (r c x y : ℕ) → ((10 * r + 62) * c + r + 40 + x + y) + (6 * c + 10)
    ≡ ((10 * r + 68) * c + (r + 50)) + x + y
circuit_lists r c x y = omega arith

-- so many units cost as much
cost_units : (shape : ShapeNumbers) (E : ℕ) → 2048 * cost_unit shape E ≡ cost shape (2 * E)
cost_units shape E = omega arith

-- what is within some units is within so many costs
within : (a b v w k : ℕ) → a ≡ b → v ≡ w → b ≤ k * v → a ≤ k * w
within a b v w k e f h = rw (e, ← f) h

-- Reading a circuit, checking it, ordering it in r passes and making its evaluator move together at most
-- r + 2 times the cost of 2E records.
pub circuit_within : (shape : ShapeNumbers) (size passes : ℕ) → IsShape shape
    → circuit_moves shape size passes + making_moves shape size
    ≤ (passes + 2) * cost shape (2 * size)
circuit_within shape size passes is =
    let c = ceiling size (payload_of shape) in
    let u = cost_unit shape size in
    let x = queue_share shape (6 * size) (2 * size) in
    let y = queue_share shape (2 * (passes + 4) * size) (2 * size) in
    let first : x ≤ 240 * 3 * u =
    queue_units shape size 3 (6 * size) (2 * size) is (omega arith) (omega arith) (omega arith) in
    let second : y ≤ 240 * (passes + 4) * u =
    queue_units shape size (passes + 4) (2 * (passes + 4) * size) (2 * size) is (omega arith)
    (omega arith) (omega arith) in
    let lists = lists_units (10 * passes + 68) c (passes + 50) u (list_unit shape size is)
    (omega arith) in
    within (circuit_moves shape size passes + making_moves shape size)
    (((10 * passes + 68) * c + (passes + 50)) + x + y) (2048 * u) (cost shape (2 * size)) (passes + 2)
    (circuit_lists passes c x y) (cost_units shape size)
    (circuit_sum passes u x y ((10 * passes + 68) * c + (passes + 50)) first second lists)

-- The queue of n groups moves at most 1440 * n units.
groups_units : (shape : ShapeNumbers) (size n : ℕ) → IsShape shape → 1 ≤ n
    → queue_share shape ((4 * size + 252) * n) (4 * size + 252)
    ≤ 1440 * n * cost_unit shape size
groups_units shape size n is one =
    let q = blocks_of shape (2 * size) in
    let floors = floors_of shape (2 * size) in
    let calls = 4 * size + 252 in
    let each = times_rises n (blocks_of shape calls) (2 * q + 2) (calls_blocks shape size is) in
    let all : blocks_of shape (calls * n) ≤ n * blocks_of shape calls =
    turned shape calls n (shares_add shape n calls is) in
    let blocks : blocks_of shape (calls * n) + 1 ≤ 3 * n * (q + 1) =
    most n q (blocks_of shape (calls * n)) (n * blocks_of shape calls) one all each in
    let sum : 240 * (blocks_of shape (calls * n) + 1) * floors_of shape calls
    ≤ 240 * (3 * n * (q + 1)) * (2 * floors) =
    mul-le-mul {n₁ = 240 * (blocks_of shape (calls * n) + 1)} {m₁ = floors_of shape calls}
    {n₂ = 240 * (3 * n * (q + 1))} {m₂ = 2 * floors} (omega (arith, blocks))
    (calls_floors shape size is) in
    units (240 * (blocks_of shape (calls * n) + 1) * floors_of shape calls) n q floors sum
  where
    turned : (shape : ShapeNumbers) (calls n : ℕ)
        → blocks_of shape (n * calls) ≤ n * blocks_of shape calls
        → blocks_of shape (calls * n) ≤ n * blocks_of shape calls
    turned shape calls n h =
        let e : n * calls ≡ calls * n = omega arith in
        subst (λ (x : ℕ). blocks_of shape x ≤ n * blocks_of shape calls) e h

    most : (n q b x : ℕ) → 1 ≤ n → b ≤ x → x ≤ n * (2 * q + 2) → b + 1 ≤ 3 * n * (q + 1)
    most n q b x one h k = omega (arith, one, h, k)

    units : (x n q floors : ℕ) → x ≤ 240 * (3 * n * (q + 1)) * (2 * floors)
        → x ≤ 1440 * n * ((q + 1) * floors)
    units x n q floors h = omega (arith, h)

-- n rounds move at most this many times the cost of 2E records, by what their queue moves at most
calling_within : (shape : ShapeNumbers) (size calls n k : ℕ) → IsShape shape
    → (1 ≤ n → queue_share shape (calls * n) calls ≤ 1440 * k * cost_unit shape size) → n ≤ k
    → calling_moves shape size calls n ≤ k * cost shape (2 * size)
calling_within shape size calls zero k is queue few = omega arith
calling_within shape size calls (suc n) k is queue few =
    let c = ceiling size (payload_of shape) in
    let u = cost_unit shape size in
    let z = queue_share shape (calls * suc n) calls in
    let lists = lists_units (9 * suc n) c (7 * suc n) u (list_unit shape size is) (omega arith) in
    let more : 9 * suc n * u ≤ 9 * k * u =
    mul-le-mul {n₁ = 9 * suc n} {m₁ = u} {n₂ = 9 * k} {m₂ = u} (omega (arith, few)) (omega arith) in
    within (calling_moves shape size calls (suc n)) ((9 * suc n * c + 7 * suc n) + z) (2048 * u)
    (cost shape (2 * size)) k (round_lists (suc n) c z) (cost_units shape size)
    (rounds_sum k u z (9 * suc n * c + 7 * suc n) (queue (omega arith)) (omega (arith, lists, more)))
  where
    round_lists : (t c z : ℕ) → t * (9 * c + 7) + z ≡ (9 * t * c + 7 * t) + z
    round_lists t c z = omega arith

-- T steps move at most T times the cost of 2E records, and no step moves nothing.
pub steps_within : (shape : ShapeNumbers) (size steps : ℕ) → IsShape shape
    → steps_moves shape size steps ≤ steps * cost shape (2 * size)
steps_within shape size steps is = calling_within shape size (2 * size) steps steps is
    (λ one.
    let queue = queue_units shape size steps (2 * size * steps) (2 * size) is one (omega arith)
    (omega arith) in
    let u = cost_unit shape size in
    wider (queue_share shape (2 * size * steps) (2 * size)) steps u queue)
    (omega arith)
  where
    wider : (x t u : ℕ) → x ≤ 240 * t * u → x ≤ 1440 * t * u
    wider x t u h = omega (arith, h)

-- n groups move at most 2n times that.
pub groups_within : (shape : ShapeNumbers) (size groups : ℕ) → IsShape shape
    → groups_moves shape size groups ≤ (2 * groups) * cost shape (2 * size)
groups_within shape size groups is =
    calling_within shape size (4 * size + 252) groups (2 * groups) is
    (λ one.
    let queue = groups_units shape size groups is one in
    wider (queue_share shape ((4 * size + 252) * groups) (4 * size + 252)) groups
    (cost_unit shape size) queue)
    (omega arith)
  where
    wider : (x t u : ℕ) → x ≤ 1440 * t * u → x ≤ 1440 * (2 * t) * u
    wider x t u h = omega (arith, h)

-- a step is a round
pub one_each : (n : ℕ) → ceiling n 1 ≡ n
one_each n = omega arith

-- So the rounds of T lines, as steps or as groups, move at most as many times that as the papers' bound
pub rounds_within : (wide : Bool) (shape : ShapeNumbers) (size lines : ℕ) → IsShape shape
    → rounds_moves wide shape size lines ≤ rounds_of wide lines * cost shape (2 * size)
rounds_within false shape size lines is = subst (λ (n : ℕ).
    calling_moves shape size (2 * size) n ≤ lines * cost shape (2 * size)) (sym (one_each lines))
    (steps_within shape size lines is)
rounds_within true shape size lines is = groups_within shape size (ceiling lines 64) is

-- So all parts of an evaluation together are within its cost.
pub evaluation_within : (wide : Bool) (shape : ShapeNumbers) (size passes lines : ℕ) → IsShape shape
    → circuit_moves shape size passes + (making_moves shape size + rounds_moves wide shape size lines)
    ≤ eval_cost shape size (rounds_of wide lines) passes
evaluation_within wide shape size passes lines is =
    together (circuit_moves shape size passes) (making_moves shape size)
    (rounds_moves wide shape size lines) passes (rounds_of wide lines) (cost shape (2 * size))
    (circuit_within shape size passes is) (rounds_within wide shape size lines is)
  where
    together : (a b d r t w : ℕ) → a + b ≤ (r + 2) * w → d ≤ t * w
        → a + (b + d) ≤ (t + r + 2) * w
    together a b d r t w h k = omega (arith, h, k)

-- Making an evaluator for no fewer edges makes no fewer moves,
pub making_rises : (shape : ShapeNumbers) (small large : ℕ) → 0 < payload_of shape → small ≤ large
    → making_moves shape small ≤ making_moves shape large
making_rises shape small large some h =
    let lists = ceiling_rises small large (payload_of shape) some h in omega (arith, lists)

-- and no fewer rounds of no fewer calls along them make no fewer.
calling_rise : (shape : ShapeNumbers) (small large few many n : ℕ) → 0 < payload_of shape
    → small ≤ large → few ≤ many
    → calling_moves shape small few n ≤ calling_moves shape large many n
calling_rise shape small large few many zero some h k = omega arith
calling_rise shape small large few many (suc n) some h k =
    let p = payload_of shape in
    let lists = ceiling_rises small large p some h in
    let rises = times_rises (suc n) (9 * ceiling small p + 7) (9 * ceiling large p + 7)
    (omega (arith, lists)) in
    let more = times_rises (suc n) few many k in
    let queue = queue_share_rises shape (few * suc n) (many * suc n) few many
    (omega (arith, more)) k in
    omega (arith, rises, queue)

pub rounds_rise : (wide : Bool) (shape : ShapeNumbers) (small large lines : ℕ)
    → 0 < payload_of shape → small ≤ large
    → rounds_moves wide shape small lines ≤ rounds_moves wide shape large lines
rounds_rise false shape small large lines some h =
    calling_rise shape small large (2 * small) (2 * large) (ceiling lines 1) some h (omega (arith, h))
rounds_rise true shape small large lines some h =
    calling_rise shape small large (4 * small + 252) (4 * large + 252) (ceiling lines 64) some h
    (omega (arith, h))

-- A greater circuit with no fewer steps costs no less.
pub eval_cost_rises : (shape : ShapeNumbers) (small large few many passes : ℕ) → small ≤ large
    → few ≤ many → eval_cost shape small few passes ≤ eval_cost shape large many passes
eval_cost_rises shape small large few many passes h k =
    let rises = cost_rises shape (2 * small) (2 * large) (omega (arith, h)) in
    mul-le-mul {n₁ = few + passes + 2} {m₁ = cost shape (2 * small)} {n₂ = many + passes + 2}
    {m₂ = cost shape (2 * large)} (omega (arith, k)) rises
