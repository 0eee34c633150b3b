-- A tree whose moves were counted, or a settling, and where nothing waits.
use Rattle.std.proofs.Common.{◌≡◌, ℕ, ◌+◌, ◌<◌, ◌≤◌, length, ap, ◌∙◌, arith}
use Rattle.std.specs.Prelude.{None}
use Rattle.em_record.specs.Shape.{ShapeNumbers}
use Rattle.em_record.specs.declared.record.Record.{Record}
use Rattle.em_space.specs.Rig.{RigState}
use Rattle.em_tree_cost.specs.Books.{TreeCounts, count_settle}
use Rattle.em_tree_model.specs.Ranges.{least_record}
use Rattle.em_trunk.specs.Buffers.{IsThin, NoneFrom}
use Rattle.em_trunk.specs.Counting.{counted_moves, counted_settling}
use Rattle.em_trunk.specs.Works.{SameNumbers}
use Rattle.em_trunk.specs.Spots.{EachRead}
use Rattle.em_trunk.specs.Trunk.{IsRunning, counts_of, root_of}
use Rattle.em_trunk.specs.declared.trunk.Trunk.{Trunk}
use Rattle.em_trunk.proofs.Entries.{each_map}

-- a tree whose moves were counted stands as it did
pub running_moved : {key : Record → Record} {IsOp IsKept : Record → Type 0} {t : RigState} {w : Trunk}
    (m : ℕ) → w.spent + m ≤ t.moves → IsRunning key IsOp IsKept t w
    → IsRunning key IsOp IsKept t (counted_moves m w)
running_moved m most r =
    let n = r.numbers in
    record {
      frames = record { buffer = r.frames.buffer; answers = r.frames.answers; out = r.frames.out };
      numbers = record {
        level_some = n.level_some;
        level_most = n.level_most;
        since_most = n.since_most;
        longest_most = n.longest_most;
        pushed_most = n.pushed_most;
        settled_most = n.settled_most;
        resets_most = n.resets_most;
        adopted_most = n.adopted_most;
        counted_most = n.counted_most;
        spent_most = most;
        root_below = n.root_below;
      };
      buffer = r.buffer;
      answers = r.answers;
      stands = λ told. (let st = r.stands told in record {
        holds = st.holds;
        stored = st.stored;
        formed = st.formed;
        is = st.is;
        turn = st.turn;
        lows = st.lows;
        sized = st.sized;
        bounded = st.bounded;
        packed = st.packed;
        answers_packed = st.answers_packed;
      });
    }

-- where nothing waits, no buffer is full
pub none_thin : (limit : ℕ) → 0 < limit → (s : RigState) (v : Trunk) → EachRead (NoneFrom 0) s v
    → EachRead (IsThin limit) s v
none_thin limit some s v h = each_map (NoneFrom 0) (IsThin limit)
    (λ l k top b x. (let none = ap length (x (omega arith)) in omega (arith, none, some))) v.level
    least_record None (root_of s v) h

-- numbers of which each is the same
pub same_counts : (a b : TreeCounts) → a.n ≡ b.n → a.k ≡ b.k → a.since ≡ b.since → a.spent ≡ b.spent
    → a.z ≡ b.z → a.y ≡ b.y → a.adopted ≡ b.adopted → a.counted ≡ b.counted → a ≡ b
same_counts a b n k since spent z y adopted counted =
    let N : ℕ → TreeCounts = λ x. record a { n = x } in
    let K : ℕ → TreeCounts = λ x. record a { n = b.n; k = x } in
    let S : ℕ → TreeCounts = λ x. record a { n = b.n; k = b.k; since = x } in
    let M : ℕ → TreeCounts = λ x. record a { n = b.n; k = b.k; since = b.since; spent = x } in
    let Z : ℕ → TreeCounts = λ x. record a { n = b.n; k = b.k; since = b.since; spent = b.spent; z = x } in
    let Y : ℕ → TreeCounts = λ x. record b { y = x; adopted = a.adopted; counted = a.counted } in
    let A : ℕ → TreeCounts = λ x. record b { adopted = x; counted = a.counted } in
    let C : ℕ → TreeCounts = λ x. record b { counted = x } in
    ap N n ∙ (ap K k ∙ (ap S since ∙ (ap M spent ∙ (ap Z z ∙ (ap Y y ∙ (ap A adopted ∙ ap C counted))))))

-- a settling was counted, and its moves
pub counts_settled : (shape : ShapeNumbers) (m : ℕ) (v w : Trunk) → SameNumbers (counted_settling shape v) w
    → counts_of (counted_moves m w) ≡ count_settle 0 (record (counts_of v) { spent = w.spent + m })
counts_settled shape m v w n = same_counts (counts_of (counted_moves m w))
    (count_settle 0 (record (counts_of v) { spent = w.spent + m })) n.pushed n.longest n.since (omega arith) n.resets
    n.settled n.adopted n.counted
