-- The weight of lists that were given records by their places.
use Rattle.std.proofs.Common.{◌≡◌, ℕ, zero, suc, ◌+◌, ◌*◌, ◌^◌, ◌<◌, ◌≤◌, List, [], ◌∷◌, ◌++◌, length, replicate, ap, refl, ◌∙◌, arith, IsTrue, Result, Ok, Err, IfOk}
use Rattle.std.proofs.Math.Nat.{mul-add}
use Rattle.std.proofs.lemmas.List.{length_push}
use Rattle.em_record.specs.declared.record.Record.{Record}
use Rattle.em_space.specs.Rig.{RigState}
use Rattle.em_space.specs.declared.fault.EmFault.{EmFault}
use Rattle.em_chain.proofs.Readers.{length_items}
use Rattle.em_node.specs.declared.entry.Entry.{Entry}
use Rattle.em_tree_model.specs.Pouring.{add_at, given_out}
use Rattle.em_tree_model.proofs.Buffers.{length_add}
use Rattle.em_tree_blocks.specs.Node.{buffer_of}
use Rattle.em_tree_blocks.specs.Reading.{buffer_items}
use Rattle.em_empty.specs.Node.{AreBuffers}
use Rattle.bench_runs.specs.Numbered.{numbered, records_below}
use Rattle.empty_bench.specs.Places.{place_in_node, place_sum, weight_from}

-- the records of lists, each counted as the number of its list, from n on
abbrev pub list_weight : ℕ → List (List Record) → ℕ
list_weight n [] = 0
list_weight n (xs ∷ xss) = n * length xs + list_weight (n + 1) xss

-- the places of records, each counted from n on
abbrev pub counted_from : ℕ → List Record → ℕ
counted_from n [] = 0
counted_from n (x ∷ xs) = n + place_in_node x + counted_from n xs

-- a node weighs what the records in its buffers do
pub weight_is : (s : RigState) (n : ℕ) (es : List Entry) → IsTrue s.device.told → AreBuffers s es
    → weight_from n es ≡ list_weight n (buffer_items s es)
weight_is s n [] z h = refl
weight_is s n (e ∷ es) z h =
    let one = length_items s (buffer_of e) h.0 z in
    let rest = weight_is s (n + 1) es z h.1 in
    rw (one, rest) refl

-- nothing weighs nothing
weight_none : (n k : ℕ) → list_weight n (replicate k []) ≡ 0
weight_none n zero = refl
weight_none n (suc k) = let h = weight_none (n + 1) k in omega arith

-- one record more
weight_add : (n : ℕ) (xss : List (List Record)) (i : ℕ) (x : Record) → i < length xss
    → list_weight n (add_at xss i x) ≡ list_weight n xss + (n + i)
weight_add n [] i x h = absurd (omega arith)
weight_add n (xs ∷ xss) zero x h =
    let e : n * length (xs ++ x ∷ []) ≡ n * length xs + n * 1 =
    ap (λ l. n * l) (length_push xs x) ∙ mul-add n (length xs) 1 in
    omega (arith, e)
weight_add n (xs ∷ xss) (suc i) x h =
    let r = weight_add (n + 1) xss i x (omega arith) in omega arith

-- all of some records
weight_given : (n : ℕ) (xss : List (List Record)) (xs : List Record) → 64 ≤ length xss
    → list_weight n (given_out place_in_node xss xs) ≡ list_weight n xss + counted_from n xs
weight_given n xss [] h = omega arith
weight_given n xss (x ∷ xs) h =
    let l = length_add xss (place_in_node x) x in
    let one = weight_add n xss (place_in_node x) x (omega arith) in
    let rest = weight_given n (add_at xss (place_in_node x) x) xs (omega arith) in
    omega (arith, one, rest)

counted_push : (n : ℕ) (xs : List Record) (x : Record)
    → counted_from n (xs ++ x ∷ []) ≡ counted_from n xs + (n + place_in_node x)
counted_push n [] x = omega arith
counted_push n (y ∷ ys) x = let h = counted_push n ys x in omega arith

-- the places of the records of the numbers below one
counted_below : (count : ℕ) → counted_from 1 (records_below count) ≡ place_sum count
counted_below zero = refl
counted_below (suc n) =
    let h = counted_below n in
    let e = counted_push 1 (records_below n) (numbered n) in
    omega (arith, h, e)

-- what the lists weigh in the end
pub weight_all : (count : ℕ)
    → list_weight 1 (given_out place_in_node (replicate 64 []) (records_below count))
    ≡ place_sum count
weight_all count =
    let all = weight_given 1 (replicate 64 []) (records_below count) (omega arith) in
    let none = weight_none 1 64 in
    let below = counted_below count in
    omega (arith, all, none, below)

sum_small : (count : ℕ) → place_sum count ≤ 64 * count
sum_small zero = omega arith
sum_small (suc n) = let h = sum_small n in omega arith

-- A weight that is modulo 2 ^ 64 is that of all records.
pub answer_is : (result : Result ℕ EmFault) (weight count : ℕ) → count ≤ 2 ^ 40
    → weight ≡ place_sum count → IfOk result (λ sum. weight < 2 ^ 64 → sum ≡ weight)
    → IfOk result (λ sum. sum ≡ place_sum count)
answer_is (Ok sum) weight count few is h =
    let small = sum_small count in
    h (omega (arith, small, is, few)) ∙ is
answer_is (Err fault) weight count few is h = tt
