-- How many blocks more are in use while a leaf is loaded, and how many answers its operations give.
use Rattle.std.proofs.Common.{◌≡◌, ℕ, ◌+◌, ◌-◌, ◌*◌, ◌<◌, ◌≤◌, List, [], ◌∷◌, ◌++◌, length, ap, subst, arith, length-append, Option, Some, None}
use Rattle.std.specs.Prelude.{option_to_list}
use Rattle.std.specs.List.Sorted.{IsPermutation}
use Rattle.em_record.specs.Shape.{IsShape, fan_of, payload_of, wide_of}
use Rattle.em_record.specs.declared.record.Record.{Record}
use Rattle.em_space.specs.Rig.{RigState}
use Rattle.em_chain.specs.Counts.{ceiling}
use Rattle.em_settle.specs.States.{Stored, answers_to, with_op}
use Rattle.em_settle.specs.declared.step.Step.{Step}
use Rattle.em_tree_cost.proofs.Ceilings.{ceil_most, ceiling_is}
use Rattle.em_tree_load.specs.LeafLoads.{load_peak, taken_of, waiting_over}
use Rattle.std.proofs.Math.Nat.{min-le_right}
use Rattle.std.proofs.lemmas.List.Sorted.{length_permutation}

-- an option is one record at most
option_few : (o : Option Record) → length (option_to_list o) ≤ 1
option_few None = omega arith
option_few (Some x) = omega arith

-- Each operation answers once at most.
answers_few : (key : Record → Record) (step : Option Record → Record → Step) (m : Stored)
    (ops : List Record) → length (answers_to key step m ops) ≤ length ops
answers_few key step m [] = omega arith
answers_few key step m (op ∷ ops) =
    let o = (step (m (key op)) op).answer in
    let rest = answers_to key step (with_op key step m op) ops in
    let one = option_few o in
    let more = answers_few key step (with_op key step m op) ops in
    let sum = length-append (option_to_list o) rest in
    omega (arith, one, more, sum)

pub given_few : (key : Record → Record) (step : Option Record → Record → Step) (m : Stored)
    (given load sorted : List Record) → IsPermutation load sorted
    → given ≡ answers_to key step m sorted → length given ≤ length load
given_few key step m given load sorted same is =
    let few = answers_few key step m sorted in
    let n = length_permutation load sorted same in
    let e = ap length is in
    omega (arith, few, n, e)

-- A load takes at most three blocks for each entry that a node begins with, and seven.
pub load_peak_few : (s : RigState) (node i : ℕ) → IsShape s.pool.shape
    → load_peak s node i ≤ 3 * fan_of s.pool.shape + 7
load_peak_few s node i is =
    let sh = s.pool.shape in
    let P = payload_of sh in
    let w = wide_of sh in
    let n = length (waiting_over s node i) in
    let a = taken_of s n in
    let low = is.block_low in
    let some : 0 < P = omega (arith, low) in
    let block : sh.block ≡ P + 1 = omega (arith, low) in
    let most : a ≤ w * sh.block = min-le_right n (w * sh.block) in
    let A : ℕ → Type 0 = λ y. a ≤ w * y in
    let part = subst A block most in
    let within = is.frames_within in
    let small : 4 * w ≤ P = omega (arith, within, low) in
    let fits : a ≤ (w + 1) * P = omega (arith, part, small) in
    let c = ceil_most (ceiling a P) P a (w + 1) (ceiling_is a P some) fits in
    let multiple = is.frames_multiple in
    let twice : fan_of sh ≡ 2 * w = omega (arith, multiple) in
    let m = min-le_right (n - a) (2 * fan_of sh) in
    omega (arith, c, twice, m)
