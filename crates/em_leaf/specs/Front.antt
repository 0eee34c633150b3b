-- Where a pass over a leaf's records and the operations of a load stands.
use Rattle.std.specs.Prelude.{◌≡◌, false, ℕ, ◌+◌, ◌-◌, ◌*◌, ◌≤◌, List, [], ◌∷◌, ◌++◌, length, drop, Option, Some, None, IfSome, option_to_list}
use Rattle.em_record.specs.declared.record.Record.{Record}
use Rattle.em_record.specs.Order.{is_below}
use Rattle.em_settle.specs.Keys.{record_at}
use Rattle.em_settle.specs.Lists.{list_with_ops}
use Rattle.em_settle.specs.Rising.{KeysAbove, RisesByKey}
use Rattle.em_settle.specs.States.{answers_to}
use Rattle.em_settle.specs.declared.step.Step.{Step}
use Rattle.em_leaf.specs.declared.front.Finding.{Finding}
use Rattle.em_leaf.specs.declared.front.Finding.TheVariants.{End, Item, Answer}
use Rattle.em_leaf.specs.declared.front.Front.{Front}

-- the stored records that are left: the one in hand, the one that was read ahead, and the rest
abbrev pub items_left : Front → List Record → List Record
items_left f rest = option_to_list f.hand ++ (option_to_list f.ahead ++ rest)

-- the operations that are left
abbrev pub ops_left : Front → List Record → List Record
ops_left f ops = drop f.settled ops

-- 1 if there is a record
abbrev pub some_count : Option Record → ℕ
some_count None = 0
some_count (Some x) = 1

-- how many records are in hand or read ahead
abbrev pub in_hand : Front → ℕ
in_hand f = some_count f.hand + some_count f.ahead

-- the first of these
abbrev pub first_hand : Front → Option Record → Option Record
first_hand f None = f.ahead
first_hand f (Some x) = Some x

-- no operation's key is below this one
abbrev pub KeysFrom : (Record → Record) → Record → List Record → Type 0
KeysFrom key k [] = Unit {0}
KeysFrom key k (op ∷ ops) = (is_below (key op) k ≡ false) × KeysFrom key k ops

-- The keys of the records that are left rise, and no operation that is left has a key below that
-- of the record in hand.
pub record IsFront (key : Record → Record) (ops : List Record) (f : Front) (rest : List Record)
    : Type 0 where
  pub rises : RisesByKey key (items_left f rest)
  pub upto : IfSome f.hand (λ r. KeysFrom key (key r) (ops_left f ops))

-- The first operations over the first records leave these items and these answers, before what the
-- second ones leave.
pub record SettlesOn (key : Record → Record) (step : Option Record → Record → Step)
    (xs ops ys more : List Record) (items answers : List Record) : Type 0 where
  pub list : list_with_ops key step xs ops ≡ items ++ list_with_ops key step ys more
  pub answered : answers_to key step (record_at key xs) ops
      ≡ answers ++ answers_to key step (record_at key ys) more

-- From one front to another, these items result and these answers are given.
pub record MovesOn (key : Record → Record) (step : Option Record → Record → Step)
    (ops : List Record)
    (f g : Front) (rest left : List Record) (items answers : List Record) : Type 0 where
  pub front : IsFront key ops g left
  pub settles : SettlesOn key step (items_left f rest) (ops_left f ops) (items_left g left)
      (ops_left g ops) items answers

-- the record that results by a finding
abbrev pub finding_items : Finding → List Record
finding_items End = []
finding_items (Item x) = x ∷ []
finding_items (Answer o) = []

-- the answer that it gives
abbrev pub finding_answers : Finding → List Record
finding_answers End = []
finding_answers (Item x) = []
finding_answers (Answer o) = option_to_list o

-- how many records may still result of n operations if this many weren't read
abbrev pub most_left : Front → ℕ → ℕ → ℕ
most_left f left n = in_hand f + left + (n - f.settled)

-- how many steps a pass may still take
abbrev pub pass_steps : Front → ℕ → ℕ → ℕ
pass_steps f left n = some_count f.hand + 2 * (some_count f.ahead + left) + 2 * (n - f.settled)

-- a front that has nothing, with no operation settled
abbrev pub fresh_front : Front
fresh_front = record { hand = None; ahead = None; settled = 0 }

-- The first record in hand was passed on, if there is one.
abbrev pub PassesFirst : Front → Front → Option Record → Finding → Type 0
PassesFirst f g None End = (g ≡ f) × (in_hand f ≡ 0)
PassesFirst f g None (Item x) = ⊥
PassesFirst f g None (Answer o) = ⊥
PassesFirst f g (Some x) End = ⊥
PassesFirst f g (Some x) (Item y) = (y ≡ x) × (g.hand ≡ None) × (g.settled ≡ f.settled)
    × (in_hand g + 1 ≡ in_hand f) × (some_count g.ahead ≤ some_count f.ahead)
    × (option_to_list f.hand ++ option_to_list f.ahead ≡ x ∷ option_to_list g.ahead)
PassesFirst f g (Some x) (Answer o) = ⊥

-- What a step does to the numbers of a front, by its finding.
abbrev pub CountsFinding : Front → Front → ℕ → Finding → Type 0
CountsFinding f g n End = (g ≡ f) × (in_hand f + (n - f.settled) ≡ 0)
CountsFinding f g n (Item x) = (in_hand g + 1 ≡ in_hand f)
    × (some_count g.ahead ≤ some_count f.ahead) × (g.settled ≡ f.settled)
CountsFinding f g n (Answer o) = (in_hand g ≤ in_hand f + 1) ×
    (some_count g.ahead ≤ some_count f.ahead)
    × (g.settled ≡ f.settled + 1)

-- The record of a key can be picked: none in hand is below it, and the one in hand isn't above it.
pub record CanPick (key : Record → Record) (f : Front) (k : Record) (rest : List Record)
    : Type 0 where
  pub rises : RisesByKey key (items_left f rest)
  pub least : IfSome (first_hand f f.hand) (λ r. is_below (key r) k ≡ false)
  pub upto : IfSome f.hand (λ r. is_below k (key r) ≡ false)
  pub none : in_hand f ≡ 0 → rest ≡ []

-- The record of a key, if there is one, was picked from those in hand. What is left is above it.
pub record Picks (key : Record → Record) (f : Front) (k : Record) (stored ahead : Option Record)
    (rest : List Record) : Type 0 where
  pub all : items_left f rest ≡ option_to_list stored ++ (option_to_list ahead ++ rest)
  pub same : IfSome stored (λ r. key r ≡ k)
  pub above : KeysAbove key k (option_to_list ahead ++ rest)

-- The first record in hand, if there is one, is below all operations that are left.
pub record ComesFirst (key : Record → Record) (ops : List Record) (f : Front) : Type 0 where
  pub below : IfSome (first_hand f f.hand) (λ r. KeysAbove key (key r) (ops_left f ops))
  pub none : in_hand f ≡ 0 → f.settled ≡ length ops
