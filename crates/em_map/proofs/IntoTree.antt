-- A batch whose tree is handed out: only its pairs were left in it.
use Rattle.std.specs.Prelude.{◌≡◌, Bool, false, ℕ, ◌+◌, ◌-◌, ◌*◌, ◌≤◌, List, [], ◌++◌, length, IsTrue, Err}
use Rattle.std.proofs.Common.{sym, ap, subst, ◌∙◌, refl, arith}
use Rattle.std.proofs.Math.Nat.{mul-le-mul, mul-le-mul_left}
use Rattle.std.proofs.lemmas.List.{length-append}
use Rattle.em_record.specs.Cost.{blocks_of}
use Rattle.em_record.specs.Shape.{IsShape, ShapeNumbers, payload_of}
use Rattle.em_record.specs.declared.record.Record.{Record}
use Rattle.em_model.specs.Live.{live_pairs}
use Rattle.em_model.specs.declared.command.Command.{Command}
use Rattle.em_settle.specs.Add.{add_step_of}
use Rattle.em_settle.specs.Map.{map_key_of}
use Rattle.em_frames.specs.Pool.{load_of}
use Rattle.em_space.specs.Rig.{Cause, RigState, Sound}
use Rattle.em_space.specs.declared.fault.EmFault.{EmFault}
use Rattle.em_space.proofs.Paying.{pays_kept, pays_then}
use Rattle.em_space.proofs.Steps.{touches_then}
use Rattle.em_chain.specs.Counts.{ceiling}
use Rattle.em_tree_cost.specs.Books.{TreeCounts}
use Rattle.em_tree_cost.specs.Fusing.{synced_share}
use Rattle.em_tree_cost.specs.Shares.{floors_of}
use Rattle.em_tree_cost.proofs.Ceilings.{blocks_ceil, ceil_most, ceiling_is}
use Rattle.em_tree_cost.proofs.Rising.{div_ceil_rises}
use Rattle.em_tree_model.specs.Meaning.{tree_contents}
use Rattle.em_tree_model.specs.Tree.{stored_in}
use Rattle.em_tree.specs.Calls.{StopsTrunk}
use Rattle.em_trunk.specs.Lists.{LeavesTrunk}
use Rattle.em_trunk.specs.Room.{FullOverRoom, WithinRoom}
use Rattle.em_trunk.specs.Trunk.{model_of}
use Rattle.em_trunk.specs.declared.trunk.Trunk.{Trunk}
use Rattle.em_map.specs.Areas.{GivenWithAreas}
use Rattle.em_map.specs.Batch.{BatchCosts, BatchOver, BatchWithin, HasCommands, IsBatch, TreeHas, UnfinishedBatch, areas_in, areas_of, batch_spent, calls_share, contents_after, gathered_in, ops_in, rule_of, trunk_of}
use Rattle.em_map.specs.Contents.{key_record}
use Rattle.em_map.specs.Early.{joined_size}
use Rattle.em_map.specs.Handing.{CountsKeeping, HandedTree, KeptPairs}
use Rattle.em_map.specs.Loading.{answers_in}
use Rattle.em_map.specs.declared.batch.Batch.{Batch}
use Rattle.em_map.proofs.Areas.{given_after, given_singles, shares_same}
use Rattle.em_map.proofs.Closes.{cause_past}
use Rattle.em_map.proofs.Contents.{keeps_after}
use Rattle.em_map.proofs.Live.{room_rises, stored_live}
use Rattle.em_map.proofs.Rooms.{plain_over, plain_within}
use Rattle.em_map.proofs.Shares.{calls_within, within_beside}
use Rattle.em_map.proofs.Trees.{tree_closed}

-- The answers of n calls at most fill two blocks at most for each that n records fill.
answers_few : (shape : ShapeNumbers) (a n : ℕ) → IsShape shape → a ≤ n
    → ceiling a (payload_of shape) ≤ 2 * blocks_of shape n
answers_few shape a n is h =
    let P = payload_of shape in
    let q = blocks_of shape n in
    let c = blocks_ceil shape n is in
    let p : q * shape.block ≤ q * (2 * P) = mul-le-mul_left q (omega (arith, is.block_low)) in
    ceil_most (ceiling a P) P a (2 * q) (ceiling_is a P (omega (arith, is.block_low))) (omega (arith, h, c.holds, p))

-- What a batch of n calls with y syncs moves beside its tree: one move for each chain of answers, and two for each block of the last.
beside_few : (q y blocks : ℕ) → blocks ≤ 2 * q → 1 + 2 * blocks + y ≤ 16 * (y + 1) * (q + 1)
beside_few q y blocks h =
    let a : 1 * (q + 1) ≤ (y + 1) * (q + 1) = mul-le-mul {n₁ = 1} {m₁ = q + 1} {n₂ = y + 1} {m₂ = q + 1} (omega arith) (omega arith) in
    let b : (y + 1) * 1 ≤ (y + 1) * (q + 1) = mul-le-mul_left (y + 1) (omega arith) in
    let all : 16 * (y + 1) * (q + 1) ≡ 16 * ((y + 1) * (q + 1)) = omega arith in
    omega (arith, h, a, b, all)

-- if adds aren't joined early, the size of commands is their number
plain_size : (early : Bool) (load : ℕ) (cs : List Command) → early ≡ false → joined_size early load cs ≡ length cs
plain_size early load cs e = rw e refl

-- a tree that is abandoned moves nothing, and takes no block
moves_left : (t u : RigState) → LeavesTrunk t u → u.moves ≡ t.moves
moves_left t u leaves = ap (λ (z : RigState). z.moves) leaves.same

pub most_left : (t u : RigState) → LeavesTrunk t u → u.most ≡ t.most
most_left t u leaves = ap (λ (z : RigState). z.most) leaves.same

-- A batch that doesn't join adds early, whose tree was left with its pairs.
module _ {F : Type 0} (s t : RigState) (b : Batch F) (sound : Sound s) (i : IsBatch s b) (plain : b.early ≡ false) where
  none_gathered : gathered_in b ≡ []
  none_gathered = ap ops_in (i.plain plain)

  no_area : areas_of b ≡ 0
  no_area = ap areas_in (i.plain plain)

  longest_few : (trunk_of b).longest ≤ b.calls
  longest_few = let most = i.longest in let calls = i.entries in omega (arith, most, calls)

  pub room_handed : (u : RigState) → u.most ≡ t.most
      → (IsTrue s.device.told → WithinRoom (trunk_of b).longest s t (trunk_of b))
      → IsTrue s.device.told → BatchWithin b.calls s u b
  room_handed u same h z = plain_within s u b (trunk_of b).longest b.calls plain longest_few
      (let room = (h z).most in record { most = omega (arith, room, same) })

  pub over_handed : (fault : EmFault)
      → (IsTrue s.device.told → FullOverRoom (trunk_of b).longest s (trunk_of b) fault)
      → IsTrue s.device.told → BatchOver b.calls s b fault
  over_handed fault h = plain_over {T = Unit {0}} s b (Err fault) (trunk_of b).longest b.calls plain longest_few h

  module _ (w : Trunk) (n : CountsKeeping (rule_of b) s t (trunk_of b) w) where
    abbrev a : ℕ
    a = (trunk_of b).adopted

    -- the blocks of the calls that are no adopted record
    abbrev q : ℕ
    q = blocks_of s.pool.shape (b.calls - a)

    -- the moves that came beside those of the tree
    beside : IsTrue s.device.told → t.moves + batch_spent b ≤ s.moves + w.spent + 16 * (b.syncs + 1) * (q + 1)
    beside z =
        let made = n.moves z in
        let due = i.answers z in
        let given = answers_in (rule_of b) s (trunk_of b) in
        let blocks = answers_few s.pool.shape given (b.calls - a) sound.shape (omega (arith, due)) in
        let few = beside_few q b.syncs (ceiling given (payload_of s.pool.shape)) blocks in
        omega (arith, made, few)

    pub costs_handed : BatchCosts s t b
    costs_handed =
        let counts = n.counts in
        let pushed : w.pushed ≡ (trunk_of b).pushed = ap (λ (c : TreeCounts). c.n) counts in
        let longest : w.longest ≡ (trunk_of b).longest = ap (λ (c : TreeCounts). c.k) counts in
        let resets : w.resets ≡ 0 = ap (λ (c : TreeCounts). c.z) counts ∙ i.unreset in
        let settled : w.settled ≡ (trunk_of b).settled + 1 = ap (λ (c : TreeCounts). c.y) counts in
        let counted : w.counted ≡ 0 = ap (λ (c : TreeCounts). c.counted) counts ∙ i.uncounted in
        let most = i.longest in
        let calls = i.entries in
        let few = i.settled in
        let share : IsTrue s.device.told → batch_spent b + (t.moves - s.moves) ≤ calls_share s.pool.shape b = λ z.
        let all = within_beside s.pool.shape a (w.pushed + w.counted) b.calls w.longest w.resets w.settled b.syncs w.spent
        (16 * (b.syncs + 1) * (q + 1)) (omega (arith, pushed, calls, counted)) (omega (arith, longest, most, calls)) resets
        (omega (arith, settled, few)) (n.share z).within (omega arith) in
        let made = beside z in
        omega (arith, all, made, n.later) in
        record {
          later = n.later;
          share = share;
          joined = λ z before cs h.
              let size : joined_size b.early (load_of s.pool.shape) (before ++ cs) ≡ b.calls =
              plain_size b.early (load_of s.pool.shape) (before ++ cs) plain ∙ length-append before cs ∙ sym h.calls in
              let all = share z in
              let rest = calls_within s.pool.shape a b.calls b.syncs (omega (arith, calls)) in
              subst (λ (N : ℕ). batch_spent b + (t.moves - s.moves) ≤ synced_share s.pool.shape N b.syncs) (sym size)
              (omega (arith, all, rest));
        }

    -- it was handed out
    pub handed_tree : KeptPairs (rule_of b) s t (trunk_of b) w → HandedTree s t b w
    handed_tree k =
        let counts = n.counts in
        let settled : w.settled ≡ (trunk_of b).settled + 1 = ap (λ (c : TreeCounts). c.y) counts in
        let few = i.settled in
        let told_t : IsTrue s.device.told → IsTrue t.device.told = λ z. k.session.touches.told ∙ z in
        let has : (before cs : List Command) → HasCommands s b before cs → TreeHas (rule_of b) s (trunk_of b) before cs =
        λ before cs h. subst (λ (xs : List Command). TreeHas (rule_of b) s (trunk_of b) before xs) (sym h.parts)
        (tree_closed (rule_of b) s (trunk_of b) before h.closed h.unclosed (sym none_gathered ∙ h.gathered) h.tree) in
        let contents : IsTrue s.device.told → (before cs : List Command) → HasCommands s b before cs → (r : Record)
        → tree_contents map_key_of (add_step_of (rule_of b)) (model_of t w) r ≡ contents_after (rule_of b) (before ++ cs) r =
        λ z before cs h r. k.contents z r ∙ (has before cs h).contents z r in
        record {
          is = k.is;
          session = k.session;
          frames = k.frames;
          pays = k.pays;
          loses = k.loses;
          pushed = ap (λ (c : TreeCounts). c.n) counts;
          longest = ap (λ (c : TreeCounts). c.k) counts;
          since = ap (λ (c : TreeCounts). c.since) counts;
          settled = omega (arith, settled, few);
          resets = ap (λ (c : TreeCounts). c.z) counts ∙ i.unreset;
          adopted = ap (λ (c : TreeCounts). c.adopted) counts;
          counted = ap (λ (c : TreeCounts). c.counted) counts ∙ i.uncounted;
          waiting = k.waiting;
          given = k.given;
          no_block = k.no_block;
          trim = k.trim;
          contents = contents;
          pairs = λ z before cs h key. contents z before cs h (key_record key) ∙ keeps_after (rule_of b) (before ++ cs) key;
          held = λ z before cs h.
              let most = k.held z in
              let live = stored_live (rule_of b) (model_of t w) (k.is.running.stands (told_t z)).is (k.waiting z) (before ++ cs)
              (contents z before cs h) in
              let rises = room_rises t.pool.shape (length (stored_in (model_of t w))) (live_pairs (before ++ cs)) live in
              omega (arith, most, rises);
          beside = λ z.
              let made = beside z in
              let Q = blocks_of s.pool.shape b.calls in
              let rise : q ≤ Q = div_ceil_rises s.pool.shape.block (b.calls - a) b.calls (omega arith) in
              let more : 16 * (b.syncs + 1) * (q + 1) ≤ 24 * (b.syncs + 1) * (Q + 1) =
              mul-le-mul {n₁ = 16 * (b.syncs + 1)} {m₁ = q + 1} {n₂ = 24 * (b.syncs + 1)} {m₂ = Q + 1} (omega arith)
              (omega (arith, rise)) in
              let floors : 24 * (b.syncs + 1) * (Q + 1) * 1 ≤ 24 * (b.syncs + 1) * (Q + 1) * floors_of s.pool.shape b.calls =
              mul-le-mul_left (24 * (b.syncs + 1) * (Q + 1)) (omega arith) in
              omega (arith, made, more, floors, n.later);
        }

    -- abandoning moves nothing
    pub counts_left : (u : RigState) → LeavesTrunk t u → CountsKeeping (rule_of b) s u (trunk_of b) w
    counts_left u leaves =
        let same = moves_left t u leaves in
        record {
          counts = n.counts;
          later = omega (arith, n.later, same);
          share = n.share;
          moves = λ z. omega (arith, n.moves z, same);
        }

  -- The tree gave up, and was abandoned.
  module _ (w : Trunk) (fault : EmFault) (stops : StopsTrunk s t (trunk_of b) w fault) (u : RigState)
      (leaves : LeavesTrunk t u) where
    pub unhanded_tree : UnfinishedBatch s u b fault
    unhanded_tree = record {
      sound = leaves.sound;
      touches = touches_then _ s t u stops.goes.touches leaves.touches;
      frames = subst (λ (n : ℕ). GivenWithAreas 2 n s.pool u.pool) (sym no_area)
          (given_after 2 0 0 s.pool t.pool u.pool (shares_same 0 s.pool t.pool stops.goes.frames)
          (given_singles 2 t.pool u.pool leaves.frames));
      pays = pays_then stops.pays (pays_kept s.pool.shape.frames
          (let used = ap (λ (z : RigState). z.used) leaves.same in omega (arith, used))
          (let moves = moves_left t u leaves in omega (arith, moves))) leaves.touches.moves;
      cause = subst (λ (z : RigState). Cause s z fault) (sym leaves.same) (cause_past s t u.pool fault stops.cause);
    }
