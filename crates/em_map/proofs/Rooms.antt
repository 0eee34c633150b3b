-- The room of a batch is that of its tree, and of the answers that it has given.
use Rattle.std.specs.Prelude.{◌≡◌, Bool, true, false, ℕ, zero, suc, ◌+◌, ◌-◌, ◌<◌, ◌≤◌, List, [], length, IsTrue, IfErr, Result, Ok, Err}
use Rattle.std.proofs.Common.{ap, refl, ◌∙◌, arith}
use Rattle.std.proofs.lemmas.List.{length-append}
use Rattle.std.proofs.lemmas.List.Sorted.{length_permutation}
use Rattle.em_record.specs.Shape.{IsShape, payload_of}
use Rattle.em_record.specs.declared.record.Record.{Record}
use Rattle.em_model.specs.Map.{no_keys, state_after}
use Rattle.em_model.specs.declared.command.Command.{Command}
use Rattle.em_model.proofs.AnswerLaws.{answers_few}
use Rattle.em_settle.specs.Add.{add_step_of}
use Rattle.em_settle.specs.Map.{map_key_of}
use Rattle.em_space.specs.Rig.{IfFull, RigState, Sound}
use Rattle.em_space.specs.declared.fault.EmFault.{EmFault}
use Rattle.em_space.proofs.Ledgers.{full_by}
use Rattle.em_chain.specs.Counts.{ceiling}
use Rattle.em_chain.proofs.Sessions.{ceiling_rises}
use Rattle.em_tree_model.specs.Meaning.{tree_answers}
use Rattle.em_tree_model.specs.Owed.{owed}
use Rattle.em_tree_cost.specs.Shares.{tree_room}
use Rattle.em_tree_cost.proofs.Ceilings.{ceil_mono, ceil_none, ceiling_is}
use Rattle.em_tree_cost.proofs.Rising.{tree_room_rises}
use Rattle.em_tree.proofs.RoomCalls.{rest_room}
use Rattle.em_tree.specs.Finishing.{FullIfUsed}
use Rattle.em_trunk.specs.Room.{FullOverRoom, WithinRoom}
use Rattle.em_trunk.specs.Trunk.{given_by, model_of, trunk_blocks}
use Rattle.em_trunk.specs.declared.trunk.Trunk.{Trunk}
use Rattle.em_trunk.proofs.Rooms.{answers_blocks}
use Rattle.em_map.specs.Batch.{BatchOver, BatchWithin, HasCommands, IsBatch, answers_room, batch_blocks, entered_of, gathered_in, if_early, rule_of, trunk_of}
use Rattle.em_map.specs.Loading.{LoadOver, LoadWithin, answers_in}
use Rattle.em_map.specs.declared.batch.Batch.{Batch}
use Rattle.em_map.proofs.Contents.{answers_follow}
use Rattle.em_map.proofs.Lent.{MovesPool, blocks_lent, most_lent, used_lent}
use Rattle.em_map.proofs.Pushing.{given_count}
use Rattle.em_trunk.specs.Trunk.{IsTrunk}
use Rattle.em_settle.specs.Add.{IsAddOp}
use Rattle.em_settle.specs.Map.{IsMapKept}

-- a number that isn't less than one that isn't 0
some_called : (longest calls : ℕ) → longest ≤ calls → (longest ≡ 0 → ⊥) → 0 < calls
some_called longest zero h some = absurd (some (omega (arith, h)))
some_called longest (suc calls) h some = omega arith

-- A tree that counts an operation is that of a batch with a command.
pub full_given : {F : Type 0} {T : Type 0} {s : RigState} (b : Batch F) (r : Result T EmFault) → IsBatch s b
    → FullIfUsed (trunk_of b) r
    → IfErr r (λ fault. IfFull fault (λ _. 0 < b.calls))
full_given b (Ok x) i h = tt
full_given b (Err fault) i h =
    full_by fault ((trunk_of b).longest ≡ 0 → ⊥) (0 < b.calls)
    (some_called (trunk_of b).longest b.calls (omega (arith, i.longest, i.entries))) h

-- How many blocks of answers a call counts, by whether adds are joined early.
answers_plain : (early : Bool) (given most : ℕ) → early ≡ false → if_early early given most ≡ given
answers_plain early given most e = rw e refl

answers_early : (early : Bool) (given most : ℕ) → early ≡ true → if_early early given most ≡ most
answers_early early given most e = rw e refl

-- A call on the tree alone.
pub plain_within : {F : Type 0} (s t : RigState) (b : Batch F) (k n : ℕ) → b.early ≡ false → k ≤ n
    → WithinRoom k s t (trunk_of b) → BatchWithin n s t b
plain_within s t b k n e few r =
    let m = r.most in
    let rises = tree_room_rises s.pool.shape k n few in
    let same = answers_plain b.early (trunk_of b).answers.blocks (ceiling (answers_in (rule_of b) s (trunk_of b) + (n - entered_of b)) (payload_of s.pool.shape)) e in
    record { most = omega (arith, m, rises, same) }

pub plain_over : {F : Type 0} {T : Type 0} (s : RigState) (b : Batch F) (r : Result T EmFault) (k n : ℕ)
    → b.early ≡ false → k ≤ n
    → IfErr r (λ fault. IsTrue s.device.told → FullOverRoom k s (trunk_of b) fault)
    → IfErr r (λ fault. IsTrue s.device.told → BatchOver n s b fault)
plain_over s b (Ok x) k n e few r = tt
plain_over s b (Err fault) k n e few r = λ told.
    let rises = tree_room_rises s.pool.shape k n few in
    let same = answers_plain b.early (trunk_of b).answers.blocks (ceiling (answers_in (rule_of b) s (trunk_of b) + (n - entered_of b)) (payload_of s.pool.shape)) e in
    let held = length (batch_blocks s b) in
    record {
      full = full_by fault (s.blocks + held < s.used + (tree_room s.pool.shape k + (trunk_of b).answers.blocks))
          (s.blocks + held < s.used + (tree_room s.pool.shape n + answers_room s b n))
          (λ f. omega (arith, f, rises, same)) (r told).full;
    }

-- A load entered the tree, after an area was lent.
module _ {F : Type 0} (s m : RigState) (b : Batch F) (v : Trunk) (same : v ≡ trunk_of b)
    (lent : MovesPool s m) (is : IsTrunk map_key_of IsAddOp IsMapKept s v) (sound : Sound s) (k g n : ℕ)
    (early : b.early ≡ true) (few : k ≤ n)
    (given : g ≤ answers_in (rule_of b) s (trunk_of b) + (n - entered_of b)) where
  abbrev all : ℕ
  all = tree_room s.pool.shape n + answers_room s b n

  room_rises : tree_room m.pool.shape k + ceiling g (payload_of m.pool.shape) ≤ all
  room_rises =
      let shape = lent.touches.shape in
      let a : tree_room m.pool.shape k ≡ tree_room s.pool.shape k = ap (λ p. tree_room p k) shape in
      let c : ceiling g (payload_of m.pool.shape) ≡ ceiling g (payload_of s.pool.shape) =
      ap (λ p. ceiling g (payload_of p)) shape in
      let rises = tree_room_rises s.pool.shape k n few in
      let low = sound.shape.block_low in
      let more = ceiling_rises g (answers_in (rule_of b) s (trunk_of b) + (n - entered_of b)) (payload_of s.pool.shape)
      (omega (arith, low)) given in
      let by = answers_early b.early (trunk_of b).answers.blocks (ceiling (answers_in (rule_of b) s (trunk_of b) + (n - entered_of b)) (payload_of s.pool.shape)) early in
      omega (arith, a, c, rises, more, by)

  held_same : IsTrue s.device.told → length (trunk_blocks m v) ≡ length (batch_blocks s b)
  held_same told = blocks_lent s m v lent is told ∙ ap (λ x. length (trunk_blocks s x)) same

  pub load_within : (t : RigState) → IsTrue s.device.told → LoadWithin k g m t v → BatchWithin n s t b
  load_within t told r =
      let most = r.most in
      record { most = omega (arith, most, room_rises, held_same told, used_lent s m v lent is, most_lent s m v lent is) }

  pub load_over : {T : Type 0} (r : Result T EmFault)
      → IfErr r (λ fault. IsTrue m.device.told → LoadOver k g m v fault)
      → IfErr r (λ fault. IsTrue s.device.told → BatchOver n s b fault)
  load_over (Ok x) r = tt
  load_over (Err fault) r = λ told.
      let rises = room_rises in
      let held = held_same told in
      let used = used_lent s m v lent is in
      let blocks = lent.touches.blocks in
      record {
        full = full_by fault (m.blocks + length (trunk_blocks m v)
            < m.used + (tree_room m.pool.shape k + ceiling g (payload_of m.pool.shape)))
            (s.blocks + length (batch_blocks s b) < s.used + all)
            (λ f. omega (arith, f, rises, held, used, blocks)) (r (lent.touches.told ∙ told)).full;
      }

-- Of the answers that are due some were given,
module _ {F : Type 0} (s : RigState) (b : Batch F) (i : IsBatch s b) (told : IsTrue s.device.told) where
  pub given_most : (trunk_of b).answers.count ≤ answers_in (rule_of b) s (trunk_of b)
  given_most =
      let parts = length-append (given_by s (trunk_of b))
      (owed map_key_of (add_step_of (rule_of b)) (model_of s (trunk_of b))) in
      let count = given_count s (trunk_of b) i.is told in
      omega (arith, parts, count)

  -- in packed blocks, one of each call that entered the tree at most.
  pub given_packed : (n : ℕ) → b.calls ≤ n → IsShape s.pool.shape
      → (trunk_of b).answers.blocks ≤ ceiling n (payload_of s.pool.shape)
  given_packed n few is =
      let blocks = answers_blocks i.is.running is told in
      let low = is.block_low in
      let most = given_most in
      let all = i.answers told in
      let rises = ceiling_rises (trunk_of b).answers.count n (payload_of s.pool.shape)
      (omega (arith, low)) (omega (arith, most, all, few)) in
      omega (arith, blocks, rises)

module _ {F : Type 0} (s : RigState) (b : Batch F) (before cs : List Command) (i : IsBatch s b) (h : HasCommands s b before cs)
    (told : IsTrue s.device.told) where
  pub given_few : (trunk_of b).answers.count ≤ length cs
  given_few =
      let given = given_by s (trunk_of b) in
      let model = model_of s (trunk_of b) in
      let all = length_permutation _ (tree_answers map_key_of (add_step_of (rule_of b)) given model) (h.tree.answers told) in
      let due = ap (λ (rs : List Record). length rs) (answers_follow (rule_of b) before h.closed) in
      let few = answers_few (rule_of b) (1 + length before) (state_after (rule_of b) no_keys before) h.closed in
      let parts = length-append given (owed map_key_of (add_step_of (rule_of b)) model) in
      let lots = ap (λ (xs : List Command). length xs) h.parts in
      let both = length-append h.closed h.unclosed in
      let count = given_count s (trunk_of b) i.is told in
      omega (arith, all, due, few, parts, lots, both, count)

-- The blocks of a batch between two calls are those of its tree and of the answers that it has given.
pub held_blocks : {F : Type 0} (s : RigState) (b : Batch F) → Sound s → IsBatch s b → IsTrue s.device.told
    → length (batch_blocks s b) ≤ tree_room s.pool.shape b.calls + (trunk_of b).answers.blocks
held_blocks s b sound is told =
    let own = rest_room sound is.is told in
    let rises = tree_room_rises s.pool.shape (trunk_of b).longest b.calls (omega (arith, is.longest, is.entries)) in
    omega (arith, own, rises)

-- After a sync it has given none.
pub none_given : {F : Type 0} (s : RigState) (b : Batch F) (before : List Command) → Sound s → IsBatch s b
    → HasCommands s b before [] → IsTrue s.device.told → (trunk_of b).answers.blocks ≡ 0
none_given s b before sound is h told =
    let few = given_few s b before [] is h told in
    let blocks = answers_blocks is.is.running sound.shape told in
    let p = payload_of s.pool.shape in
    let low = sound.shape.block_low in
    let some : 0 < p = omega (arith, low) in
    let none = ceil_mono (ceiling (trunk_of b).answers.count p) 0 p (trunk_of b).answers.count 0
    (ceiling_is (trunk_of b).answers.count p some) (ceil_none p some) few in
    omega (arith, blocks, none)

-- A batch's load entered its tree, and then its tree was settled.
module _ {F : Type 0} (s m : RigState) (b d : Batch F) (n k : ℕ) (first : BatchWithin n s m b)
    (loses : m.used + length (batch_blocks s b) ≡ s.used + length (batch_blocks m d)) (shape : m.pool.shape ≡ s.pool.shape)
    (few : k ≤ n) (given : (trunk_of d).answers.blocks ≤ answers_room s b n) where
  more_room : tree_room m.pool.shape k ≤ tree_room s.pool.shape n
  more_room =
      let same = ap (λ p. tree_room p k) shape in
      let rises = tree_room_rises s.pool.shape k n few in omega (arith, same, rises)

  pub then_within : (t : RigState) → WithinRoom k m t (trunk_of d) → BatchWithin n s t b
  then_within t r =
      let most = r.most in
      let before = first.most in
      record { most = omega (arith, most, before, loses, more_room, given) }

  pub then_over : {T : Type 0} (r : Result T EmFault) → m.blocks ≡ s.blocks → IsTrue m.device.told
      → IfErr r (λ fault. IsTrue m.device.told → FullOverRoom k m (trunk_of d) fault)
      → IfErr r (BatchOver n s b)
  then_over (Ok x) blocks told r = tt
  then_over (Err fault) blocks told r =
      let rises = more_room in
      record {
        full = full_by fault (m.blocks + length (batch_blocks m d)
            < m.used + (tree_room m.pool.shape k + (trunk_of d).answers.blocks))
            (s.blocks + length (batch_blocks s b) < s.used + (tree_room s.pool.shape n + answers_room s b n))
            (λ f. omega (arith, f, rises, loses, blocks, given)) (r told).full;
      }

-- the answers that its tree gave or owes, and one for each call since
abbrev pub due_most : {F : Type 0} → RigState → Batch F → ℕ → ℕ
due_most s b n = answers_in (rule_of b) s (trunk_of b) + (n - entered_of b)

-- The answers that a batch has given, after its load entered its tree, are those that were given or owed before, and one for
-- each call since.
pub given_counted : {F : Type 0} (s m : RigState) (b d : Batch F) (n : ℕ) → IsBatch s b → IsBatch m d → IsTrue m.device.told
    → IsShape m.pool.shape → m.pool.shape ≡ s.pool.shape → b.calls ≤ n
    → answers_in (rule_of d) m (trunk_of d) ≤ answers_in (rule_of b) s (trunk_of b) + length (gathered_in b)
    → (b.early ≡ false → trunk_of d ≡ trunk_of b) → (trunk_of d).answers.blocks ≤ answers_room s b n
given_counted s m b d n old i told is shape few due plain = by_early b.early refl
  where
    by_early : (early : Bool) → b.early ≡ early → (trunk_of d).answers.blocks ≤ answers_room s b n
    by_early false e =
        let same = answers_plain b.early (trunk_of b).answers.blocks (ceiling (due_most s b n) (payload_of s.pool.shape)) e in
        let trunk = ap (λ (v : Trunk). v.answers.blocks) (plain e) in
        omega (arith, same, trunk)
    by_early true e =
        let same = answers_early b.early (trunk_of b).answers.blocks (ceiling (due_most s b n) (payload_of s.pool.shape)) e in
        let blocks = answers_blocks i.is.running is told in
        let count = given_most m d i told in
        let low = is.block_low in
        let rises = ceiling_rises (trunk_of d).answers.count (due_most s b n) (payload_of m.pool.shape) (omega (arith, low))
        (omega (arith, count, due, few, old.entries)) in
        let payload = ap (λ p. ceiling (due_most s b n) (payload_of p)) shape in
        omega (arith, same, blocks, rises, payload)
