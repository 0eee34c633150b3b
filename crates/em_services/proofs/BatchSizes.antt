-- The size of a batch over its calls, and how many answers and blocks it allows.
use Rattle.std.proofs.Common.{◌≡◌, ℕ, ◌+◌, ◌<◌, ◌≤◌, Bool, true, false, List, [], ◌∷◌, ◌++◌, length, length-append, append_assoc, append-nil, ap, refl, subst, arith, IsTrue, Option, Some, None}
use Rattle.em_record.specs.Cost.{room}
use Rattle.em_record.specs.Order.{in_order}
use Rattle.em_record.specs.Shape.{IsShape, ShapeNumbers, payload_of}
use Rattle.em_record.specs.declared.record.Record.{Record}
use Rattle.em_record.proofs.Order.{length_order}
use Rattle.em_frames.specs.Pool.{load_of}
use Rattle.em_model.specs.MapAnswers.{answers_after}
use Rattle.em_model.specs.declared.command.Command.{Command}
use Rattle.em_space.specs.Rig.{RigState}
use Rattle.em_chain.specs.Counts.{ceiling}
use Rattle.em_chain.proofs.Sessions.{ceiling_rises}
use Rattle.em_combine.specs.Gather.{GatherState}
use Rattle.em_tree_cost.specs.Shares.{tree_room}
use Rattle.em_map.specs.Batch.{HasCommands, answers_room, areas_in, areas_of, if_early, ops_in, rule_of, trunk_of}
use Rattle.em_map.specs.Early.{gathered_after, joined_size, left_of}
use Rattle.em_map.specs.declared.batch.Batch.{Batch}
use Rattle.em_map.proofs.Early.{early_append, held_append, joined_answers, joined_rises}
use Rattle.em_map.proofs.Rooms.{due_most, given_packed}
use Rattle.em_ready.proofs.RoomLaws.{commands_room}
use Rattle.em_services.specs.BatchService.{IsGivenBatch, entered_size, map_size}

-- What a command adds to the size it adds to what entered the tree, or to what is held.
joined_grows : (early : Bool) (load : ℕ) (xs : List Command) (c : Command)
    → joined_size early load xs + left_of (gathered_after early load (xs ++ c ∷ []))
    ≤ joined_size early load (xs ++ c ∷ []) + left_of (gathered_after early load xs)
joined_grows true load xs c =
    let all = early_append load 0 [] xs c in
    let held = ap left_of (held_append load 0 [] xs c) in
    omega (arith, all, held)
joined_grows false load xs c = let all = length-append xs (c ∷ []) in omega (arith, all)

-- no area, so nothing gathered
none_left : (load : Option GatherState) → areas_in load ≡ 0 → left_of (ops_in load) ≡ 0
none_left None none = omega arith
none_left (Some x) none = absurd (omega (arith, none))

-- What entered the tree of a batch is within the size of its commands, also of more of them,
module _ {F : Type 0} (s : RigState) (b : Batch F) (before cs : List Command) (h : HasCommands s b before cs) where
  pub entered_within : entered_size b ≤ map_size b.early s.pool.shape (before ++ cs)
  entered_within = let size = h.size in omega (arith, size)

  pub entered_later : (more : List Command) → entered_size b ≤ map_size b.early s.pool.shape (before ++ cs ++ more)
  entered_later more =
      let own = entered_within in
      let rises = joined_rises b.early (load_of s.pool.shape) (before ++ cs) more in
      omega (arith, own, rises)

  -- as are the answers that are due.
  pub answers_within : (xs : List Record) → in_order xs ≡ answers_after (rule_of b) before cs
      → length xs ≤ map_size b.early s.pool.shape (before ++ cs)
  answers_within xs e =
      let n = length_order xs in
      let m = ap (λ (ys : List Record). length ys) e in
      let l = joined_answers b.early (load_of s.pool.shape) (rule_of b) before cs in
      omega (arith, n, m, l)

  pub answers_later : (xs : List Record) (more : List Command) → in_order xs ≡ answers_after (rule_of b) before cs
      → length xs ≤ map_size b.early s.pool.shape (before ++ cs ++ more)
  answers_later xs more e =
      let own = answers_within xs e in
      let rises = joined_rises b.early (load_of s.pool.shape) (before ++ cs) more in
      omega (arith, own, rises)

-- Over a call that keeps shape and rule,
module _ {F : Type 0} (s t : RigState) (b d : Batch F) (shape : t.pool.shape ≡ s.pool.shape) (early : d.early ≡ b.early) where
  same_joined : (cs : List Command) → map_size d.early t.pool.shape cs ≡ map_size b.early s.pool.shape cs
  same_joined cs =
      let P : Bool → Type 0 = λ e. map_size d.early t.pool.shape cs ≡ map_size e t.pool.shape cs in
      let Q : ShapeNumbers → Type 0 = λ p. map_size d.early t.pool.shape cs ≡ map_size b.early p cs in
      subst Q shape (subst P early refl)

  same_held : (cs : List Command) → left_of (gathered_after d.early (load_of t.pool.shape) cs)
      ≡ left_of (gathered_after b.early (load_of s.pool.shape) cs)
  same_held cs =
      let now = left_of (gathered_after d.early (load_of t.pool.shape) cs) in
      let P : Bool → Type 0 = λ e. now ≡ left_of (gathered_after e (load_of t.pool.shape) cs) in
      let Q : ShapeNumbers → Type 0 = λ p. now ≡ left_of (gathered_after b.early (load_of p) cs) in
      subst Q shape (subst P early refl)

  -- a command takes none of it away,
  pub entered_grows : (before cs : List Command) (c : Command) → HasCommands s b before cs
      → HasCommands t d before (cs ++ c ∷ []) → entered_size b ≤ entered_size d
  entered_grows before cs c h k =
      let all = before ++ cs ++ c ∷ [] in
      let first = h.size in
      let now = ap left_of h.loads in
      let grows = joined_grows b.early (load_of s.pool.shape) (before ++ cs) c in
      let same = same_joined all in
      let kept = same_held all in
      let joined = ap (λ (xs : List Command). map_size d.early t.pool.shape xs) (append_assoc before cs (c ∷ [])) in
      let held = ap (λ (xs : List Command). left_of (gathered_after d.early (load_of t.pool.shape) xs))
      (append_assoc before cs (c ∷ [])) in
      let last = k.size in
      let then = ap left_of k.loads in
      omega (arith, first, now, grows, same, kept, joined, held, last, then)

  -- and after a sync it is all.
  pub entered_all : (cs : List Command) → areas_of d ≡ 0 → HasCommands t d cs []
      → entered_size d ≡ map_size b.early s.pool.shape cs
  entered_all cs none k =
      let left = none_left d.load none in
      let same = same_joined cs in
      let joined = ap (λ (xs : List Command). map_size d.early t.pool.shape xs) (append-nil cs) in
      let size = k.size in
      omega (arith, left, same, joined, size)

-- What is counted of its answers, or if it joins adds early of those that are due, is no more than for n records,
answers_fit : (early : Bool) (given due most : ℕ) → given ≤ most → due ≤ most → if_early early given due ≤ most
answers_fit false given due most few some = few
answers_fit true given due most few some = some

-- so that they and its tree are within its room.
pub batch_room : {F : Type 0} (s : RigState) (b : Batch F) (n : ℕ) → IsGivenBatch s b → IsShape s.pool.shape
    → IsTrue s.device.told → b.calls ≤ n → tree_room s.pool.shape n + answers_room s b n ≤ room s.pool.shape n
batch_room s b n i is told few =
    let p = payload_of s.pool.shape in
    let some : 0 < p = let low = is.block_low in omega (arith, low) in
    let given = given_packed s b i.is told n few is in
    let all = i.is.answers told in
    let due = ceiling_rises (due_most s b n) n p some (omega (arith, all, few)) in
    let fit = answers_fit b.early (trunk_of b).answers.blocks (ceiling (due_most s b n) p) (ceiling n p) given due in
    commands_room s.pool.shape n n (answers_room s b n) is (omega arith) fit
