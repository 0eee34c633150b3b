-- The item that goes before all others, and the queue after some commands.
use Rattle.std.proofs.Common.{◌≡◌, ◌≢◌, ◌<◌, ◌≤◌, ◌+◌, ℕ, Bool, true, false, List, [], ◌∷◌, ◌++◌, length, ap, refl, sym, ◌∙◌, Some, arith, suc, zero, append_assoc}
use Rattle.std.specs.Prelude.{if◌then◌else◌, ◌==◌, not}
use Rattle.std.specs.List.{All, Contains}
use Rattle.std.proofs.lemmas.Grind.{common_steps}
use Rattle.std.proofs.lemmas.Bool.Decides.{nat_tests}
use Rattle.em_model.specs.declared.command.Command.{Command}
use Rattle.em_model.specs.declared.command.Command.TheVariants.{Put, Add, Del, Get, Sync, Push, Pop, Interval, Stab}
use Rattle.em_model.specs.Queue.{Item, Queue, AreInOrder, no_items, number_of, queue_after, goes_before, least, least_of, without_number, without_least, queue_step, queue_answer_of, queue_answers_from}
use Rattle.em_model.specs.Ascending.{Ascend}
use Rattle.em_model.proofs.Ascending.{Ascend-filter, Ascend-push}

-- once the least is known, what is left is known too
pub without_least_some : (items : List Item) (x : Item) → least_of items ≡ Some x
    → without_number x.number items ≡ without_least items
without_least_some [] x e = absurd (cc)
without_least_some (y ∷ ys) x e =
    let same : x ≡ least y ys = cc in
    ap (λ (z : Item). without_number z.number (y ∷ ys)) same

not_before_itself : (x : Item) → goes_before x x ≡ false
not_before_itself x = grind (arith, nat_tests, common_steps)

after_lesser : (x y z : Item) → goes_before y x ≡ true → goes_before y z ≡ false
    → goes_before x z ≡ false
after_lesser x y z yx yz = grind (arith, nat_tests, common_steps)

after_greater : (x y z : Item) → goes_before y x ≡ false → goes_before x z ≡ false
    → goes_before y z ≡ false
after_greater x y z yx xz = grind (arith, nat_tests, common_steps)

one_more : (x y : Item) (ys : List Item) (z : Item) (b : Bool) → goes_before y x ≡ b
    → All (λ w. goes_before w z ≡ false) ((if b then y else x) ∷ ys)
    → All (λ w. goes_before w z ≡ false) (x ∷ y ∷ ys)
one_more x y ys z true e all zero d h = after_lesser x y z e (all zero d (omega arith))
one_more x y ys z true e all (suc k) d h = all k d (omega arith)
one_more x y ys z false e all zero d h = all zero d (omega arith)
one_more x y ys z false e all (suc zero) d h = after_greater x y z e (all zero d (omega arith))
one_more x y ys z false e all (suc (suc k)) d h = all (suc k) d (omega arith)

none_before_only : (x : Item) → All (λ y. goes_before y x ≡ false) (x ∷ [])
none_before_only x zero d h = not_before_itself x
none_before_only x (suc k) d h = absurd (omega arith)

-- no item goes before the least
pub none_before_least : (x : Item) (xs : List Item)
    → All (λ y. goes_before y (least x xs) ≡ false) (x ∷ xs)
none_before_least x [] = none_before_only x
none_before_least x (y ∷ ys) =
    one_more x y ys (least x (y ∷ ys)) (goes_before y x) refl
    (none_before_least (if goes_before y x then y else x) ys)

among_more : (x y : Item) (ys : List Item) (z : Item) (b : Bool)
    → Contains ((if b then y else x) ∷ ys) z → Contains (x ∷ y ∷ ys) z
among_more x y ys z true (k, h, e) = (suc k, omega arith, e)
among_more x y ys z false (zero, h, e) = (zero, omega arith, e)
among_more x y ys z false (suc k, h, e) = (suc (suc k), omega arith, e)

-- the least is one of the items
pub least_among : (x : Item) (xs : List Item) → Contains (x ∷ xs) (least x xs)
least_among x [] = (zero, omega arith, refl)
least_among x (y ∷ ys) =
    among_more x y ys (least x (y ∷ ys)) (goes_before y x)
    (least_among (if goes_before y x then y else x) ys)

pub queue_answers_from-append : (q : Queue) (xs ys : List Command)
    → queue_answers_from q (xs ++ ys)
    ≡ queue_answers_from q xs ++ queue_answers_from (queue_after q xs) ys
queue_answers_from-append q [] ys = refl
queue_answers_from-append q (x ∷ xs) ys =
    ap (λ t. queue_answer_of q x ++ t) (queue_answers_from-append (queue_step q x) xs ys)
    ∙ sym (append_assoc (queue_answer_of q x) _ _)

popped : (low : ℕ) (items : List Item) (high : ℕ) → Ascend number_of low items high
    → Ascend number_of low (without_least items) high
popped low [] high a = a
popped low (x ∷ xs) high a =
    Ascend-filter number_of (λ y. not (y.number == (least x xs).number)) low (x ∷ xs) high a

one_step : (q : Queue) (c : Command) → AreInOrder q → AreInOrder (queue_step q c)
one_step q (Put key value) a = a
one_step q (Add key value) a = a
one_step q (Del key) a = a
one_step q (Get key) a = a
one_step q Sync a = a
one_step q (Push key value) a =
    let new : Item = record { key = key; number = q.pushes + 1; value = value } in
    Ascend-push number_of 1 q.waiting new (q.pushes + 1) refl a
one_step q Pop a = popped 1 q.waiting (q.pushes + 1) a
one_step q (Interval low high) a = a
one_step q (Stab point) a = a

pub in_order_after : (q : Queue) (cs : List Command) → AreInOrder q → AreInOrder (queue_after q cs)
in_order_after q [] a = a
in_order_after q (c ∷ cs) a = in_order_after (queue_step q c) cs (one_step q c a)

pub kept_head : (n : ℕ) (x : Item) (xs : List Item) → n ≢ x.number
    → without_number n (x ∷ xs) ≡ x ∷ without_number n xs
kept_head n x xs h = grind (arith, nat_tests, common_steps)

pub lost_head : (n : ℕ) (x : Item) (xs : List Item) → n ≡ x.number
    → without_number n (x ∷ xs) ≡ without_number n xs
lost_head n x xs h = grind (arith, nat_tests, common_steps)

pub without_none : (n low : ℕ) (items : List Item) (high : ℕ) → n < low
    → Ascend number_of low items high → without_number n items ≡ items
without_none n low [] high h a = refl
without_none n low (x ∷ xs) high h (first, rest) =
    kept_head n x xs (omega arith)
    ∙ ap (λ t. x ∷ t) (without_none n (x.number + 1) xs high (omega arith) rest)

pub number_from : (low : ℕ) (items : List Item) (high : ℕ) (x : Item) → Contains items x
    → Ascend number_of low items high → low ≤ x.number
number_from low [] high x (k, h, e) a = absurd (omega arith)
number_from low (y ∷ ys) high x (zero, h, e) (first, rest) =
    let same : y.number ≡ x.number = ap number_of e in
    omega arith
number_from low (y ∷ ys) high x (suc k, h, e) (first, rest) =
    let among : Contains ys x = (k, omega arith, e) in
    let later : y.number + 1 ≤ x.number = number_from (y.number + 1) ys high x among rest in
    omega arith

-- of items in order one is taken out
pub without_number-one : (low : ℕ) (items : List Item) (high : ℕ) (x : Item) → Contains items x
    → Ascend number_of low items high
    → length (without_number x.number items) + 1 ≡ length items
without_number-one low [] high x (k, h, e) a = absurd (omega arith)
without_number-one low (y ∷ ys) high x (zero, h, e) (first, rest) =
    let same : x.number ≡ y.number = ap number_of (sym e) in
    let below : x.number < y.number + 1 = omega arith in
    let head = ap length (lost_head x.number y ys same) in
    let tail = ap length (without_none x.number (y.number + 1) ys high below rest) in
    omega (arith, head, tail)
without_number-one low (y ∷ ys) high x (suc k, h, e) (first, rest) =
    let among : Contains ys x = (k, omega arith, e) in
    let later : y.number + 1 ≤ x.number = number_from (y.number + 1) ys high x among rest in
    let head = ap length (kept_head x.number y ys (omega arith)) in
    omega (arith, head, without_number-one (y.number + 1) ys high x among rest)

one_of : (low : ℕ) (items : List Item) (high : ℕ) → Ascend number_of low items high
    → 0 < length items → length (without_least items) + 1 ≡ length items
one_of low [] high a h = absurd (omega arith)
one_of low (x ∷ xs) high a h =
    without_number-one low (x ∷ xs) high (least x xs) (least_among x xs) a

-- a pop takes exactly one item out of a queue that has any
pub pop_takes_one : (earlier : List Command) → 0 < length (queue_after no_items earlier).waiting
    → length (without_least (queue_after no_items earlier).waiting) + 1
    ≡ length (queue_after no_items earlier).waiting
pop_takes_one earlier h =
    let begin : AreInOrder no_items = omega arith in
    let q = queue_after no_items earlier in
    one_of 1 q.waiting (q.pushes + 1) (in_order_after no_items earlier begin) h
