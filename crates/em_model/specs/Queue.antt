-- What the queue answers: docs/ARCHITECTURE.md, "What the commands answer".
use Rattle.std.specs.Prelude.{ℕ, ◌+◌, Bool, List, [], ◌∷◌, ◌++◌, ◌==◌, ◌&&◌, ◌||◌, not, nat_lt, filter, if◌then◌else◌, Option, Some, None, option_map}
use Rattle.em_model.specs.declared.command.Command.{Command}
use Rattle.em_model.specs.declared.command.Command.TheVariants.{Push, Pop}
use Rattle.em_model.specs.declared.queue.Item as declared
use Rattle.em_model.specs.Ascending.{Ascend}

-- a pushed element: its key, the number of its push, counted from 1, and its value
abbrev pub Item : Type 0
Item = declared.Item

-- how many pushes there were, and the elements that wait, in the order of their pushes
pub record Queue : Type 0 where
  pub pushes : ℕ
  pub waiting : List Item

-- the queue before the first push
abbrev pub no_items : Queue
no_items = record { pushes = 0; waiting = [] }

-- x goes before y: its key is less, or the keys are equal and x was pushed first
abbrev pub goes_before : Item → Item → Bool
goes_before x y = nat_lt x.key y.key || (x.key == y.key && nat_lt x.number y.number)

-- the one of x and some more that goes before all others
abbrev pub least : Item → List Item → Item
least x [] = x
least x (y ∷ ys) = least (if goes_before y x then y else x) ys

-- the item that goes before all others, or none of an empty list
abbrev pub least_of : List Item → Option Item
least_of [] = None
least_of (x ∷ xs) = Some (least x xs)

-- the items but that with this number
abbrev pub without_number : ℕ → List Item → List Item
without_number number items = filter (λ x. not (x.number == number)) items

-- the items but the one that goes before all others
abbrev pub without_least : List Item → List Item
without_least [] = []
without_least (x ∷ xs) = without_number (least x xs).number (x ∷ xs)

-- the queue after one command: a push adds an item with the next number, a pop removes the least,
-- any other command changes nothing
abbrev pub queue_step : Queue → Command → Queue
queue_step q (Push key value) = record {
  pushes = q.pushes + 1;
  waiting = q.waiting ++ record { key = key; number = q.pushes + 1; value = value } ∷ [];
}
queue_step q Pop = record { pushes = q.pushes; waiting = without_least q.waiting }
queue_step q c = q

-- the answers to one command: a pop answers the key and value of the least item, or none where no
-- item waits, any other command answers nothing
abbrev pub queue_answer_of : Queue → Command → List (Option (ℕ × ℕ))
queue_answer_of q Pop = option_map (λ x. (x.key, x.value)) (least_of q.waiting) ∷ []
queue_answer_of q c = []

-- the answers to some commands, each from the queue as the earlier ones left it
abbrev pub queue_answers_from : Queue → List Command → List (Option (ℕ × ℕ))
queue_answers_from q [] = []
queue_answers_from q (c ∷ cs) = queue_answer_of q c ++ queue_answers_from (queue_step q c) cs

-- the queue after some commands, one after another
abbrev pub queue_after : Queue → List Command → Queue
queue_after q [] = q
queue_after q (c ∷ cs) = queue_after (queue_step q c) cs

-- the number of an item's push
abbrev pub number_of : Item → ℕ
number_of x = x.number

-- The items are in the order of their pushes, each numbered from 1 to the count of pushes.
abbrev pub AreInOrder : Queue → Type 0
AreInOrder q = Ascend number_of 1 q.waiting (q.pushes + 1)

-- the answers to some commands, from the queue before the first push
abbrev pub queue_answers : List Command → List (Option (ℕ × ℕ))
queue_answers commands = queue_answers_from no_items commands
