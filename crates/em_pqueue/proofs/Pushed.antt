-- Pushes into the tree of a queue, one after another.
use Rattle.std.specs.Prelude.{IsTrue, List, Option, ℕ, [], length, max, option_to_list, ◌++◌, ◌+◌, ◌∷◌, ◌≡◌, ◌≤◌}
use Rattle.std.specs.List.Sorted.{IsPermutation}
use Rattle.std.proofs.Common.{arith, sym, ap, subst, ◌∙◌, refl}
use Rattle.std.proofs.lemmas.List.{length-append}
use Rattle.std.proofs.lemmas.List.Sorted.{length_permutation}
use Rattle.em_record.specs.Order.{Lacks, with_record}
use Rattle.em_record.specs.declared.record.Record.{Record}
use Rattle.em_record.proofs.Order.{records_append}
use Rattle.em_settle.specs.Bag.{bag_key_of, bag_step_of}
use Rattle.em_settle.specs.Keys.{record_at}
use Rattle.em_settle.specs.Rising.{AllUnder}
use Rattle.em_settle.specs.States.{answers_to}
use Rattle.em_space.specs.Rig.{RigState, Sound}
use Rattle.em_space.specs.declared.fault.EmFault.{EmFault}
use Rattle.em_tree_cost.specs.Books.{TreeCounts, count_push}
use Rattle.em_tree_model.specs.Meaning.{tree_answers, tree_contents}
use Rattle.em_tree_model.specs.Tree.{Tree, stored_in, waiting_in}
use Rattle.em_tree.specs.Calls.{ChangesTrunk, CountsCall, StopsTrunk}
use Rattle.em_trunk.specs.Meaning.{IsLater}
use Rattle.em_trunk.specs.Trunk.{given_by, model_of}
use Rattle.em_trunk.specs.Trunk as trunks
use Rattle.em_pqueue.specs.ExtQueue.{AnyItem, IsBagTree, items_in_tree, trunk_of}
use Rattle.em_pqueue.specs.Steps.{PushedDown, PushesMore, SameCalls, StopsPushing}
use Rattle.em_pqueue.specs.declared.queue.ExtQueue.{ExtQueue}
use Rattle.em_pqueue.proofs.Items.{bag_answers_none, items_pushed, none_under}
use Rattle.em_pqueue.proofs.Rising.{none_in}
use Rattle.em_pqueue.proofs.Working.{stops_after, works_none, works_then}
use Rattle.em_pqueue.proofs.Rooms.{holds_none, holds_then, holds_within, over_then, over_within}
use Rattle.em_trunk.specs.Room.{FullOverRoom, WithinRoom}

-- A record whose words a and b the tree doesn't have may be pushed.
pub later_of : (s : RigState) (q : ExtQueue) (item : Record) → IsBagTree s (trunk_of q)
    → IsTrue s.device.told → Lacks item (items_in_tree s q)
    → IsLater bag_key_of (model_of s (trunk_of q)) item
later_of s q item i told l =
    let n = none_under (model_of s (trunk_of q)) item (i.running.stands told).is l in
    let P : List Record → Type 0 = λ xs. AllUnder xs item in
    let Q : Option Record → Type 0 = λ o. AllUnder (option_to_list o) item in
    record { waiting = subst P (sym n.1) tt; stored = subst Q (sym n.0) tt }

-- no answer came, since a bag's operations answer nothing
pub given_none : (gives told owes : List Record) → IsPermutation ([] ++ []) (told ++ owes) → told ≡ []
given_none gives told owes p =
    let e = length_permutation ([] ++ []) (told ++ owes) p in
    let l = length-append told owes in
    none_in told (omega (arith, e, l))

-- A tree that gave no answer gives none, if it owes what it owed.
pub given_still : (gave : List Record) (m : Tree) (gives : List Record) (n : Tree) → gave ≡ []
    → IsPermutation (tree_answers bag_key_of bag_step_of gave m)
    (tree_answers bag_key_of bag_step_of gives n) → gives ≡ []
given_still gave m gives n none p =
    let a : tree_answers bag_key_of bag_step_of gave m ≡ [] ++ [] =
    ap (λ g. tree_answers bag_key_of bag_step_of g m) none
    ∙ bag_answers_none (record_at bag_key_of (stored_in m)) (waiting_in m) in
    let P : List Record → Type 0 = λ l. IsPermutation l (tree_answers bag_key_of bag_step_of gives n) in
    given_none gave gives _ (subst P a p)

-- the same calls, if only tree and bound changed
rest_same : (q w : ExtQueue) (n : ℕ) → w ≡ record q { tree = w.tree; in_tree = n } → SameCalls q w
rest_same q w n e = record {
  calls = ap (λ (x : ExtQueue). x.calls) e;
  longest = ap (λ (x : ExtQueue). x.longest) e;
  since = ap (λ (x : ExtQueue). x.since) e;
  blocks = ap (λ (x : ExtQueue). x.blocks) e;
  most = ap (λ (x : ExtQueue). x.most) e;
}

-- the numbers after one push
one_more : {s t : RigState} (q w : ExtQueue) → CountsCall (count_push 0) s t (trunk_of q) (trunk_of w)
    → PushesMore 1 (trunks.counts_of (trunk_of q)) (trunks.counts_of (trunk_of w))
one_more q w c = record {
  pushed = ap (λ (x : TreeCounts). x.n) c.counts;
  longest = ap (λ (x : TreeCounts). x.k) c.counts;
  since = ap (λ (x : TreeCounts). x.since) c.counts;
  resets = ap (λ (x : TreeCounts). x.z) c.counts;
  unsettled = ap (λ (x : TreeCounts). x.y) c.counts;
  adopted = ap (λ (x : TreeCounts). x.adopted) c.counts;
  counted = ap (λ (x : TreeCounts). x.counted) c.counts;
}

-- One record was pushed.
pub pushed_one : (s t : RigState) (q w : ExtQueue) (item : Record) → IsBagTree s (trunk_of q)
    → (IsTrue s.device.told → Lacks item (items_in_tree s q))
    → ChangesTrunk bag_key_of bag_step_of AnyItem AnyItem (item ∷ []) s t (trunk_of q) (trunk_of w)
    → CountsCall (count_push 0) s t (trunk_of q) (trunk_of w)
    → w ≡ record q { tree = w.tree; in_tree = q.in_tree + 1 } → Sound s
    → (IsTrue s.device.told → WithinRoom (max q.tree.trunk.longest (q.tree.trunk.since + 1)) s t
    (trunk_of q)) → PushedDown (item ∷ []) s t q w
pushed_one s t q w item i lacks h c e sound room = record {
  tree = h.is;
  works = record {
    session = h.session;
    frames = h.frames;
    pays = h.pays;
    loses = h.loses;
    spent = c.spent;
    same = rest_same q w (q.in_tree + 1) e;
  };
  counts = one_more q w c;
  items = λ told. items_pushed (model_of s (trunk_of q)) (model_of t (trunk_of w)) item
      (i.running.stands told).is (h.is.running.stands (h.session.touches.told ∙ told)).is
      (lacks told) (h.meaning told).contents;
  given = λ told none. given_after (given_by s (trunk_of q)) (model_of s (trunk_of q))
      (given_by t (trunk_of w)) (model_of t (trunk_of w)) none (h.meaning told).answers;
  room = λ told none k m. holds_within i sound.shape told none
      (let l : w.tree.trunk.longest ≡ max q.tree.trunk.longest (q.tree.trunk.since + 1) = (one_more q w c).longest in
      omega (arith, l, m)) (room told);
  rest = e;
}
  where
    given_after : (gave : List Record) (m : Tree) (gives : List Record) (n : Tree) → gave ≡ []
        → IsPermutation (tree_answers bag_key_of bag_step_of gave m
        ++ answers_to bag_key_of bag_step_of (tree_contents bag_key_of bag_step_of m) (item ∷ []))
        (tree_answers bag_key_of bag_step_of gives n) → gives ≡ []
    given_after gave m gives n none p =
        let a : tree_answers bag_key_of bag_step_of gave m
        ++ answers_to bag_key_of bag_step_of (tree_contents bag_key_of bag_step_of m) (item ∷ []) ≡ [] ++ [] =
        ap (λ l. l ++ []) (ap (λ g. tree_answers bag_key_of bag_step_of g m) none
        ∙ bag_answers_none (record_at bag_key_of (stored_in m)) (waiting_in m)) in
        let P : List Record → Type 0 = λ l. IsPermutation l
        (tree_answers bag_key_of bag_step_of gives n) in
        given_none gave gives _ (subst P a p)

-- None was pushed yet.
pub pushed_none : (s : RigState) (q : ExtQueue) → Sound s → IsBagTree s (trunk_of q)
    → PushedDown [] s s q q
pushed_none s q sound i = record {
  tree = i;
  works = works_none s q sound (λ told. (i.running.stands told).holds);
  counts = record {
    pushed = omega arith;
    longest = omega (arith, i.running.numbers.since_most);
    since = omega arith;
    resets = refl;
    unsettled = refl;
    adopted = refl;
    counted = refl;
  };
  items = λ told. refl;
  given = λ told none. none;
  room = λ told none k m. holds_none refl;
  rest = (let e : q.in_tree + length {A = Record} [] ≡ q.in_tree = omega arith in
      ap (λ (n : ℕ). record q { in_tree = n }) (sym e));
}

counts_then : {a b c : TreeCounts} (m n k : ℕ) → m + n ≡ k → PushesMore m a b → PushesMore n b c
    → PushesMore k a c
counts_then m n k e h g = record {
  pushed = omega (arith, e, h.pushed, g.pushed);
  longest = omega (arith, e, h.longest, g.longest, h.since);
  since = omega (arith, e, h.since, g.since);
  resets = g.resets ∙ h.resets;
  unsettled = g.unsettled ∙ h.unsettled;
  adopted = g.adopted ∙ h.adopted;
  counted = g.counted ∙ h.counted;
}

length_push : (xs : List Record) (x : Record) → length xs + 1 ≡ length (xs ++ x ∷ [])
length_push xs x = let l = length-append xs (x ∷ []) in omega (arith, l)

-- the rest of a queue after two steps
rest_then : (q w z : ExtQueue) (m n k : ℕ) → m + n ≡ k
    → w ≡ record q { tree = w.tree; in_tree = q.in_tree + m }
    → z ≡ record w { tree = z.tree; in_tree = w.in_tree + n }
    → z ≡ record q { tree = z.tree; in_tree = q.in_tree + k }
rest_then q w z m n k e a b =
    let i = ap (λ (x : ExtQueue). x.in_tree) a in
    let j : w.in_tree + n ≡ q.in_tree + k = omega (arith, e, i) in
    b ∙ (ap (λ (x : ExtQueue). record x { tree = z.tree; in_tree = w.in_tree + n }) a
    ∙ ap (λ (p : ℕ). record q { tree = z.tree; in_tree = p }) j)

-- a bound of a later k
later_most : (q w z : ExtQueue) {n : ℕ}
    → PushesMore n (trunks.counts_of (trunk_of w)) (trunks.counts_of (trunk_of z))
    → (k : ℕ) → z.tree.trunk.longest ≤ k → w.tree.trunk.longest ≤ k
later_most q w z {n} c k m =
    let l : z.tree.trunk.longest ≡ max w.tree.trunk.longest (w.tree.trunk.since + n) = c.longest in
    omega (arith, l, m)

-- One more.
pub pushed_then : {s t u : RigState} (q w z : ExtQueue) (xs : List Record) (x : Record)
    → PushedDown xs s t q w → PushedDown (x ∷ []) t u w z → PushedDown (xs ++ x ∷ []) s u q z
pushed_then {s} {t} {u} q w z xs x h g = record {
  tree = g.tree;
  works = works_then q w z h.works g.works;
  counts = counts_then (length xs) 1 (length (xs ++ x ∷ [])) (length_push xs x) h.counts g.counts;
  items = λ told. g.items (h.works.session.touches.told ∙ told)
      ∙ (ap (with_record x) (h.items told)
      ∙ sym (records_append (items_in_tree s q) xs (x ∷ [])));
  given = λ told none. g.given (h.works.session.touches.told ∙ told) (h.given told none);
  room = λ told none k m.
      let goes = h.works.session.touches in
      let few : w.tree.trunk.longest ≤ k = later_most q w z g.counts k m in
      holds_then goes.shape (h.works.loses told) (h.room told none k few)
      (g.room (goes.told ∙ told) (h.given told none) k m);
  rest = rest_then q w z (length xs) 1 (length (xs ++ x ∷ [])) (length_push xs x) h.rest g.rest;
}

-- A push was refused.
pub push_refused : (s t : RigState) (q w : ExtQueue) (f : EmFault)
    → StopsTrunk s t (trunk_of q) (trunk_of w) f
    → CountsCall (count_push 0) s t (trunk_of q) (trunk_of w)
    → w ≡ record q { tree = w.tree } → Sound s → IsBagTree s (trunk_of q)
    → (IsTrue s.device.told → WithinRoom (max q.tree.trunk.longest (q.tree.trunk.since + 1)) s t
    (trunk_of q)) → (IsTrue s.device.told → FullOverRoom (max q.tree.trunk.longest (q.tree.trunk.since + 1)) s
    (trunk_of q) f) → StopsPushing [] s t q w f
push_refused s t q w f h c e sound i room over = record {
  goes = h.goes;
  frames = h.frames;
  pays = h.pays;
  spent = c.spent;
  cause = h.cause;
  counts = one_more q w c;
  share = c.share;
  room = λ told none k m. holds_within i sound.shape told none
      (let l : w.tree.trunk.longest ≡ max q.tree.trunk.longest (q.tree.trunk.since + 1) = (one_more q w c).longest in
      omega (arith, l, m)) (room told);
  over = λ told none k m. over_within i sound.shape told none
      (let l : w.tree.trunk.longest ≡ max q.tree.trunk.longest (q.tree.trunk.since + 1) = (one_more q w c).longest in
      omega (arith, l, m)) (over told);
  rest = (let z : q.in_tree + length {A = Record} [] ≡ q.in_tree = omega arith in
      e ∙ ap (λ (n : ℕ). record q { tree = w.tree; in_tree = n }) (sym z));
}

-- after some that went well
pub refused_after : {s t u : RigState} {f : EmFault} (q w z : ExtQueue) (xs : List Record)
    → PushedDown xs s t q w → StopsPushing [] t u w z f → StopsPushing xs s u q z f
refused_after {s} {t} {u} {f} q w z xs h g =
    let a = stops_after q w h.works g.goes g.pays g.cause in
    let m = h.counts in
    let n = g.counts in
    record {
      goes = a.goes;
      frames = g.frames;
      pays = a.pays;
      spent = omega (arith, h.works.spent, g.spent);
      cause = a.cause;
      counts = counts_then (length xs) 1 (length xs + 1) refl m n;
      share = λ told. rw (← h.works.session.touches.shape) (g.share (h.works.session.touches.told ∙ told));
      room = λ told none k m.
          let goes = h.works.session.touches in
          holds_then goes.shape (h.works.loses told) (h.room told none k (later_most q w z n k m))
          (g.room (goes.told ∙ told) (h.given told none) k m);
      over = λ told none k m.
          let goes = h.works.session.touches in
          over_then goes.shape (h.works.loses told) goes.blocks
          (g.over (goes.told ∙ told) (h.given told none) k m);
      rest = rest_then q w z (length xs) 0 (length xs) (omega arith) h.rest g.rest;
    }
