-- The items of a queue beside the queue of the definition: the least item of the list in order is
-- the element that goes before all others.
use Rattle.std.proofs.Common.{◌≡◌, ◌≢◌, ◌<◌, ◌≤◌, ◌+◌, ℕ, zero, suc, true, false, List, [], ◌∷◌, ◌++◌, length, drop, map, refl, sym, ap, ◌∙◌, arith, Option, Some, None}
use Rattle.std.specs.Prelude.{IfNone, option_map, option_to_list}
use Rattle.std.specs.List.{All, Contains}
use Rattle.std.proofs.lemmas.Bool.Decides.{nat_tests}
use Rattle.std.proofs.lemmas.Grind.{common_steps}
use Rattle.std.proofs.lemmas.List.{append-nil, map-append}
use Rattle.em_record.proofs.Order.{at_least_with, below_ranks, order_push, with_later, with_least}
use Rattle.em_record.specs.Order.{AtLeast, in_order, is_below, with_record, with_records}
use Rattle.em_record.specs.declared.record.Record.{Record}
use Rattle.em_model.specs.Queue.{Item, Queue, goes_before, least, least_of, no_items, without_number, without_least, queue_answer_of, queue_step, number_of}
use Rattle.em_model.specs.declared.command.Command.TheVariants.{Push, Pop}
use Rattle.em_model.specs.Ascending.{Ascend}
use Rattle.em_model.proofs.QueueLaws.{in_order_after, kept_head, least_among, lost_head, none_before_least, number_from, without_none}
use Rattle.em_answers.specs.Answer.{popped_line, queue_text}
use Rattle.em_answers.specs.Print.{popped_in}
use Rattle.em_answers.specs.Serve.{Follows, item_record}

-- an element that doesn't go before another, and isn't it, is above it
above_by : (y w : Item) → goes_before y w ≡ false → y.number ≢ w.number
    → is_below (item_record w) (item_record y) ≡ true
above_by y w h n = grind (arith, nat_tests, common_steps)

-- the record of an element that is below all that follow stays the first
first_stays : (w : Item) (acc : List Record) (low : ℕ) (ys : List Item) (high : ℕ)
    → w.number < low → Ascend number_of low ys high → All (λ y. goes_before y w ≡ false) ys
    → with_records (item_record w ∷ acc) (map item_record ys)
    ≡ item_record w ∷ with_records acc (map item_record ys)
first_stays w acc low [] high l a h = refl
first_stays w acc low (y ∷ ys) high l (first, rest) h =
    let above = above_by y w (h 0 y (omega arith)) (λ e. omega (arith, e)) in
    ap (λ r. with_records r (map item_record ys)) (with_later (item_record y) (item_record w) acc above)
    ∙ first_stays w (with_record (item_record y) acc) (y.number + 1) ys high (omega arith) rest
    (λ k d lt. h (suc k) d (omega arith))

-- The element that goes before all others comes first, and the others are those without its number.
take_out : (low : ℕ) (ws : List Item) (high : ℕ) (w : Item) (acc : List Record)
    → Ascend number_of low ws high → Contains ws w → All (λ y. goes_before y w ≡ false) ws
    → AtLeast (item_record w) acc
    → with_records acc (map item_record ws)
    ≡ item_record w ∷ with_records acc (map item_record (without_number w.number ws))
take_out low [] high w acc a (k, h, e) all l = absurd (omega arith)
take_out low (y ∷ ys) high w acc (first, rest) (zero, h, e) all l =
    let head : without_number w.number (y ∷ ys) ≡ ys =
    lost_head w.number y ys (ap number_of (sym e))
    ∙ without_none w.number (y.number + 1) ys high
    (let n = ap number_of e in omega arith) rest in
    let start : with_record (item_record y) acc ≡ item_record w ∷ acc =
    ap (λ x. with_record (item_record x) acc) e ∙ with_least (item_record w) acc l in
    ap (λ r. with_records r (map item_record ys)) start
    ∙ first_stays w acc (y.number + 1) ys high (let n = ap number_of e in omega arith) rest
    (λ k d lt. all (suc k) d (omega arith))
    ∙ ap (λ t. item_record w ∷ with_records acc (map item_record t)) (sym head)
take_out low (y ∷ ys) high w acc (first, rest) (suc k, h, e) all l =
    let among : Contains ys w = (k, omega arith, e) in
    let later : y.number + 1 ≤ w.number = number_from (y.number + 1) ys high w among rest in
    let above = above_by y w (all 0 y (omega arith)) (λ n. omega (arith, n, later)) in
    let behind = below_ranks.one_way (item_record w) (item_record y) above in
    let acc2 = with_record (item_record y) acc in
    let head : without_number w.number (y ∷ ys) ≡ y ∷ without_number w.number ys =
    kept_head w.number y ys (λ n. omega (arith, n, later)) in
    take_out (y.number + 1) ys high w acc2 rest among (λ k d lt. all (suc k) d (omega arith))
    (at_least_with (item_record w) (item_record y) acc behind l)
    ∙ ap (λ t. item_record w ∷ with_records acc (map item_record t)) (sym head)

-- the items of a queue that isn't empty: the least, and those that a pop leaves
popped_items : (pushes : ℕ) (x : Item) (xs : List Item)
    → Ascend number_of 1 (x ∷ xs) (pushes + 1)
    → in_order (map item_record (x ∷ xs))
    ≡ item_record (least x xs) ∷ in_order (map item_record (without_least (x ∷ xs)))
popped_items pushes x xs a =
    take_out 1 (x ∷ xs) (pushes + 1) (least x xs) [] a (least_among x xs)
    (none_before_least x xs) tt

-- what a pop leaves, and the answer to it
pub record Popped (rest : List Record) (pushes : ℕ) (q : Queue) (item : Option Record) : Type 0
  where
    pub follows : Follows rest pushes (queue_step q Pop)
    pub answer : option_map (λ x. (x.key, x.value)) (least_of q.waiting) ≡ popped_in item

popped_from : (waiting : List Item) (pushes : ℕ) (rest : List Record) (item : Option Record)
    → Ascend number_of 1 waiting (pushes + 1)
    → in_order (map item_record waiting) ≡ option_to_list item ++ rest
    → IfNone item (length (in_order (map item_record waiting)) ≡ 0)
    → (rest ≡ in_order (map item_record (without_least waiting)))
    × (option_map (λ x. (x.key, x.value)) (least_of waiting) ≡ popped_in item)
popped_from [] pushes rest None a e n = (sym e, refl)
popped_from [] pushes rest (Some r) a e n = absurd (cc)
popped_from (x ∷ xs) pushes rest None a e n =
    absurd (let l = ap length (popped_items pushes x xs a) in omega arith)
popped_from (x ∷ xs) pushes rest (Some r) a e n =
    let both : item_record (least x xs) ∷ in_order (map item_record (without_least (x ∷ xs)))
    ≡ r ∷ rest = sym (popped_items pushes x xs a) ∙ e in
    let head : item_record (least x xs) ≡ r = cc in
    let tail : in_order (map item_record (without_least (x ∷ xs))) ≡ rest = ap (drop 1) both in
    (sym tail, ap (λ s. Some (s.a, s.c)) head)

follows_pop : (items rest : List Record) (pushes : ℕ) (q : Queue) (item : Option Record)
    → Follows items pushes q → items ≡ option_to_list item ++ rest
    → IfNone item (length items ≡ 0) → Popped rest pushes q item
follows_pop items rest pushes q item f e n =
    let two = popped_from q.waiting q.pushes rest item f.in_order (sym f.items_are ∙ e)
    (rw f.items_are at n) in
    record {
      follows = record {
        items_are = two.0;
        pushes_are = f.pushes_are;
        in_order = in_order_after q (Pop ∷ []) f.in_order;
      };
      answer = two.1;
    }

-- the same by the count of the elements
pub counted_pop : {items rest : List Record} {pushes len : ℕ} {q : Queue} {item : Option Record}
    → Follows items pushes q → items ≡ option_to_list item ++ rest → IfNone item (len ≡ 0)
    → len ≡ length items → Popped rest pushes q item
counted_pop {items} {rest} {pushes} {len} {q} {item} f e none count =
    follows_pop items rest pushes q item f e (rw count at none)

pub pop_text : (rest : List Record) (pushes : ℕ) (q : Queue) (item : Option Record)
    → Popped rest pushes q item
    → queue_text (queue_answer_of q Pop) ≡ popped_line (popped_in item)
pop_text rest pushes q item p =
    append-nil (popped_line (option_map (λ x. (x.key, x.value)) (least_of q.waiting)))
    ∙ ap popped_line p.answer

-- One element more waits.
pub follows_push : (items : List Record) (pushes key value : ℕ) (q : Queue) → Follows items pushes q
    → Follows (with_record (record { a = key; b = pushes + 1; c = value; d = 0 }) items)
    (pushes + 1) (queue_step q (Push key value))
follows_push items pushes key value q f = record {
  items_are =
      let x : Item = record { key = key; number = q.pushes + 1; value = value } in
      ap (λ n. with_record (record { a = key; b = n + 1; c = value; d = 0 }) items) f.pushes_are
      ∙ ap (with_record (item_record x)) f.items_are
      ∙ sym (order_push (map item_record q.waiting) (item_record x))
      ∙ ap in_order (sym (map-append item_record q.waiting (x ∷ [])));
  pushes_are = ap (λ n. n + 1) f.pushes_are;
  in_order = in_order_after q (Push key value ∷ []) f.in_order;
}

-- before the first push
pub follows_first : (items : List Record) → length items ≡ 0 → Follows items 0 no_items
follows_first [] e = record { items_are = refl; pushes_are = refl; in_order = omega arith }
follows_first (x ∷ xs) e = absurd (omega arith)
