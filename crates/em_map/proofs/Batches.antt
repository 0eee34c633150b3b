-- The calls of a batch that doesn't join adds early, from those of its tree; and a new batch.
use Rattle.std.specs.Prelude.{◌≡◌, Bool, true, false, ℕ, ◌+◌, ◌-◌, ◌<◌, ◌≤◌, ◌^◌, max, List, [], ◌∷◌, ◌++◌, length, IsTrue, Option, None, IfErr, IfSome, Result, Ok, Err, option_to_list}
use Rattle.std.proofs.Common.{sym, ap, subst, ◌∙◌, refl, arith}
use Rattle.std.proofs.lemmas.Bool.{true≢false}
use Rattle.std.specs.List.Sorted.{IsPermutation}
use Rattle.std.proofs.lemmas.List.Sorted.{IsPermutation-refl}
use Rattle.em_record.specs.declared.record.Record.{Record}
use Rattle.em_model.specs.Map.{Combiner}
use Rattle.em_model.specs.declared.command.Command.{Command}
use Rattle.em_settle.specs.Add.{IsAddOp, add_step_of}
use Rattle.em_settle.specs.Keys.{of_key, record_at}
use Rattle.em_settle.specs.Map.{IsMapKept, map_key_of}
use Rattle.em_settle.specs.States.{stored_after}
use Rattle.em_frames.specs.Pool.{SameFrames, load_of}
use Rattle.em_space.specs.Rig.{IfFull, RigState, Sound, Touches}
use Rattle.em_space.specs.declared.fault.EmFault.{EmFault}
use Rattle.em_tree_cost.specs.Books.{TreeCounts, count_push}
use Rattle.em_tree_model.specs.Meaning.{tree_answers}
use Rattle.em_tree_model.specs.Owed.{owed}
use Rattle.em_tree_model.specs.Ranges.{IsTree, least_record}
use Rattle.em_tree_model.specs.Tree.{Tree, stored_at, stored_in, waiting_at, waiting_in}
use Rattle.em_tree_model.proofs.Paths.{in_leaf, on_path}
use Rattle.em_tree_model.proofs.RowPlaces.{all_keys}
use Rattle.em_tree_model.proofs.Takes.{nothing_owed}
use Rattle.em_tree.specs.Calls.{ChangesTrunk, CountsCall, IsNewTrunk, PushesOp}
use Rattle.em_tree.specs.Pushing.{NeedsMore}
use Rattle.em_trunk.specs.Meaning.{IsLater}
use Rattle.em_trunk.specs.Trunk.{given_by, model_of}
use Rattle.em_trunk.specs.declared.trunk.Trunk.{Trunk}
use Rattle.em_combine.specs.Gather.{GatherState}
use Rattle.em_map.specs.Areas.{SharesAreas}
use Rattle.em_map.specs.Batch.{CommandNeedsMore, CountsCommand, HasArea, IsBatch, IsLoad, IsNewBatch, TakesCommand, TakesTo, areas_in, areas_of, entered_of, gathered_in, ops_in, rule_of, trunk_of}
use Rattle.em_map.specs.Commands.{map_op}
use Rattle.em_map.specs.Contents.{UpTo, WaitsUpTo, key_record}
use Rattle.em_map.specs.Early.{gathered_after, joined_size, left_of}
use Rattle.em_map.specs.Loading.{CountsPushes, EntersTree}
use Rattle.em_map.specs.declared.batch.Batch.{Batch}
use Rattle.em_map.proofs.Areas.{shares_same}
use Rattle.em_map.proofs.Early.{left_one}
use Rattle.em_map.proofs.Numbers.{waits_below, waits_next}
use Rattle.em_map.proofs.Pushing.{counts_none, counts_then}
use Rattle.em_map.proofs.Stands.{Stands, batch_is, stands_entered, stands_is, stands_next}
use Rattle.em_map.proofs.Taken.{counts_command, has_entered}

-- The next operation is above all that waits for its key, and above the stored record.
pub next_later : {F : Type 0} {s : RigState} (b : Batch F) (op : Record) → IsBatch s b → b.load ≡ None → op.b ≡ b.calls + 1
    → IsTrue s.device.told → IsLater map_key_of (model_of s (trunk_of b)) op
next_later {s = s} b op is none e told =
    let zero : length (gathered_in b) ≡ 0 = ap (λ (l : Option GatherState). length (ops_in l)) none in
    let n : entered_of b ≡ b.calls = omega (arith, zero) in
    let below = waits_below b.calls op e (model_of s (trunk_of b))
    (subst (λ k. WaitsUpTo k (model_of s (trunk_of b))) n (is.waits told)) in
    record { waiting = below.0; stored = below.1 }

-- A tree in which nothing is stored or waits.
module _ (apply : Combiner) (t : Tree) (is : IsTree map_key_of t least_record None) (stored : stored_in t ≡ [])
    (waiting : waiting_in t ≡ []) where
  none_waits : (q : Record) → waiting_at map_key_of t q ≡ []
  none_waits q = sym (on_path map_key_of t least_record None q is (all_keys q))
      ∙ ap (of_key map_key_of q) waiting

  none_stored : (q : Record) → stored_at map_key_of t q ≡ None
  none_stored q = sym (in_leaf map_key_of t least_record None q is (all_keys q))
      ∙ ap (λ xs. record_at map_key_of xs q) stored

  pub no_numbers : WaitsUpTo 0 t
  no_numbers = record {
    waiting = λ k. subst (UpTo k 0) (sym (none_waits (key_record k))) tt;
    stored = λ k. subst (λ r. UpTo k 0 (option_to_list r)) (sym (none_stored (key_record k))) tt;
  }

  pub no_contents : (q : Record)
      → stored_after (add_step_of apply) (stored_at map_key_of t q) (waiting_at map_key_of t q) ≡ None
  no_contents q = ap (stored_after (add_step_of apply) (stored_at map_key_of t q)) (none_waits q)
      ∙ none_stored q

  pub no_answers : (given : List Record) → given ≡ []
      → IsPermutation [] (tree_answers map_key_of (add_step_of apply) given t)
  no_answers given e = subst (λ (zs : List Record). IsPermutation [] zs)
      (sym (ap (λ zs. zs ++ owed map_key_of (add_step_of apply) t) e ∙ nothing_owed map_key_of (add_step_of apply) t waiting))
      (IsPermutation-refl [])

-- what a device tells after a session it told before
told_before : {held : List ℕ} {s t : RigState} → Touches held s t → IsTrue t.device.told
    → IsTrue s.device.told
told_before touches told = subst (λ (z : Bool). IsTrue z) touches.told told

-- no area came or went, of a batch that holds none
shares_unloaded : {F : Type 0} (s t : RigState) (b d : Batch F) → b.load ≡ None → d.load ≡ None → SameFrames s.pool t.pool
    → SharesAreas (areas_of b) (areas_of d) s.pool t.pool
shares_unloaded s t b d none load f = subst (λ (l : Option GatherState). SharesAreas (areas_of b) (areas_in l) s.pool t.pool)
    (none ∙ sym load) (shares_same (areas_of b) s.pool t.pool f)

-- A new tree is that of a batch with no command.
pub is_new : {F : Type 0} {s t : RigState} (b : Batch F) → b.calls ≡ 0 → b.syncs ≡ 0 → b.load ≡ None
    → IsNewTrunk map_key_of IsAddOp IsMapKept s t (trunk_of b) → IsNewBatch s t b
is_new {s = s} {t = t} b e f none n =
    let model = model_of t (trunk_of b) in
    let back : IsTrue t.device.told → IsTrue s.device.told = told_before n.session.touches in
    let is : IsTrue t.device.told → IsTree map_key_of model least_record None =
    λ told. (n.is.running.stands told).is in
    let none_pushed : (trunk_of b).pushed ≡ 0 = ap (λ (c : TreeCounts). c.n) n.counts in
    let none_adopted : (trunk_of b).adopted ≡ 0 = ap (λ (c : TreeCounts). c.adopted) n.counts in
    let no_ops : gathered_in b ≡ [] = ap ops_in none in
    let zero : length (gathered_in b) ≡ 0 = ap (λ (xs : List Record). length xs) no_ops in
    let due : IsTrue t.device.told → tree_answers map_key_of (add_step_of (rule_of b)) (given_by t (trunk_of b)) model ≡ [] =
    λ told. ap (λ zs. zs ++ owed map_key_of (add_step_of (rule_of b)) model) (n.given (back told))
    ∙ nothing_owed map_key_of (add_step_of (rule_of b)) model (n.waiting (back told)) in
    record {
      is = batch_is t b (record {
        is = n.is;
        entries = omega (arith, none_pushed, none_adopted, zero, e, f);
        longest = let k = ap (λ (c : TreeCounts). c.k) n.counts in omega (arith, k);
        few = omega (arith, e);
        few_adopted = omega (arith, none_adopted);
        settled = ap (λ (c : TreeCounts). c.y) n.counts ∙ sym f;
        unreset = ap (λ (c : TreeCounts). c.z) n.counts;
        uncounted = ap (λ (c : TreeCounts). c.counted) n.counts;
        waits = λ told. subst (λ k. WaitsUpTo k model) (let k : 0 ≡ b.calls - length (gathered_in b) = omega (arith, e) in k)
            (no_numbers (rule_of b) model (is told) (n.stored (back told)) (n.waiting (back told)));
        answers = λ told. let none_due = ap (λ (rs : List Record). length rs) (due told) in omega (arith, none_due, none_adopted);
      }) (λ plain. none) (λ plain. omega (arith, none_pushed, none_adopted, e, f)) (subst (λ (l : Option GatherState). IfSome l (HasArea t)) (sym none) tt)
          (subst (λ (l : Option GatherState). IfSome l (IsLoad t (entered_of b))) (sym none) tt);
      tree = n;
      none = record {
        calls = omega (arith, e);
        syncs = omega (arith, f);
        base = omega (arith, none_adopted);
        closed = [];
        unclosed = [];
        parts = refl;
        gathered = no_ops;
        tree = record {
          contents = λ told. no_contents (rule_of b) model (is told) (n.stored (back told)) (n.waiting (back told));
          answers = λ told. no_answers (rule_of b) model (is told) (n.stored (back told)) (n.waiting (back told))
              (given_by t (trunk_of b)) (n.given (back told));
        };
        loads = no_ops ∙ none_held b.early (load_of t.pool.shape);
        size = let left = ap left_of no_ops in let size = none_sized b.early (load_of t.pool.shape) in
            omega (arith, none_pushed, none_adopted, f, left, size);
      };
      areas = ap areas_in none;
    }
  where
    none_held : (early : Bool) (load : ℕ) → [] ≡ gathered_after early load []
    none_held true load = refl
    none_held false load = refl

    none_sized : (early : Bool) (load : ℕ) → joined_size early load [] ≡ 0
    none_sized true load = refl
    none_sized false load = refl

-- The next operation entered the tree alone.
pub one_enters : (apply : Combiner) (n : ℕ) (op : Record) (s t : RigState) (v w : Trunk) → op.b ≡ n + 1
    → (IsTrue s.device.told → WaitsUpTo n (model_of s v))
    → ChangesTrunk map_key_of (add_step_of apply) IsAddOp IsMapKept (op ∷ []) s t v w
    → EntersTree apply (n + 1) (op ∷ []) s t v w
one_enters apply n op s t v w number waits p = record {
  is = p.is;
  session = p.session;
  frames = p.frames;
  pays = p.pays;
  loses = p.loses;
  contents = λ told. (p.meaning told).contents;
  answers = λ told. (p.meaning told).answers;
  waits = λ told. waits_next apply n op number (model_of s v) (model_of t w) (p.meaning told).advances (waits told);
}

-- What a push of a batch that doesn't join adds early did.
module _ {F : Type 0} (s t : RigState) (b d : Batch F) (i : IsBatch s b) (plain : b.early ≡ false) (few : b.calls < 2 ^ 40 + (trunk_of b).adopted)
    (c : CountsCall (count_push 0) s t (trunk_of b) (trunk_of d)) (rule : d.tree.settle ≡ b.tree.settle)
    (calls : d.calls ≡ b.calls + 1) (syncs : d.syncs ≡ b.syncs) (early : d.early ≡ b.early) (load : d.load ≡ None)
    (sound : Sound s) (op : Record) (number : op.b ≡ b.calls + 1) where
  none : b.load ≡ None
  none = i.plain plain

  no_ops : gathered_in b ≡ []
  no_ops = ap ops_in none

  alone : gathered_in b ++ op ∷ [] ≡ op ∷ []
  alone = ap (λ xs. xs ++ op ∷ []) no_ops

  left : left_of (gathered_in b ++ op ∷ []) ≡ 1
  left = ap left_of alone ∙ left_one op

  one_more : (trunk_of d).pushed ≡ (trunk_of b).pushed + 1
  one_more = ap (λ (z : TreeCounts). z.n) c.counts

  same_adopted : (trunk_of d).adopted ≡ (trunk_of b).adopted
  same_adopted = ap (λ (z : TreeCounts). z.adopted) c.counts

  -- a push is the load of one operation
  pushes : CountsPushes 1 s t (trunk_of b) (trunk_of d)
  pushes = counts_then 0 s s t (trunk_of b) (trunk_of b) (trunk_of d) (omega arith) refl refl
      (counts_none s (trunk_of b) sound i.is) c

  pub counts_alone : (command : Command) → map_op (b.calls + 1) command ≡ op ∷ [] → CountsCommand command s t b d
  counts_alone command ops = counts_command command op 1 s s t b d i ops pushes
      refl refl refl (omega (arith, left)) (omega (arith, i.entries)) calls syncs early (λ e. c)

  module _ (p : ChangesTrunk map_key_of (add_step_of (rule_of b)) IsAddOp IsMapKept (op ∷ []) s t (trunk_of b) (trunk_of d))
    where
      zero : length (gathered_in b) ≡ 0
      zero = ap (λ (xs : List Record). length xs) no_ops

      waits_all : IsTrue s.device.told → WaitsUpTo b.calls (model_of s (trunk_of b))
      waits_all told = subst (λ k. WaitsUpTo k (model_of s (trunk_of b)))
          (let n : entered_of b ≡ b.calls = omega (arith, zero) in n) (i.waits told)

      enters : EntersTree (rule_of b) (b.calls + 1) (op ∷ []) s t (trunk_of b) (trunk_of d)
      enters = one_enters (rule_of b) b.calls op s t (trunk_of b) (trunk_of d) number waits_all p

      -- the batch with the number counted
      abbrev counted : Batch F
      counted = record b { calls = b.calls + 1 }

      alone_is : IsBatch t d
      alone_is =
          let next : Stands s counted ((gathered_in b) ++ op ∷ []) =
          stands_next s b counted (gathered_in b) op refl refl refl few (stands_is s b i) in
          let one : Stands s counted (op ∷ []) = subst (λ (xs : List Record). Stands s counted xs) alone next in
          let is : Stands t d [] = stands_entered s t counted d (op ∷ []) 1 one enters pushes
          one_more (omega arith) rule calls syncs in
          let no_load : gathered_in d ≡ [] = ap ops_in load in
          batch_is t d (subst (λ (xs : List Record). Stands t d xs) (sym no_load) is) (λ e. load)
          (λ e. omega (arith, one_more, same_adopted, calls, syncs, i.alone plain))
          (subst (λ (l : Option GatherState). IfSome l (HasArea t)) (sym load) tt)
          (subst (λ (l : Option GatherState). IfSome l (IsLoad t (entered_of d))) (sym load) tt)

      pub takes_alone : (command : Command) → map_op (b.calls + 1) command ≡ op ∷ [] → TakesCommand command s t b d
      takes_alone command ops = record {
        is = alone_is;
        session = p.session;
        frames = shares_unloaded s t b d none load p.frames;
        areas = λ e. absurd (true≢false (sym e ∙ plain));
        tree = λ e. subst (λ (zs : List Record). ChangesTrunk map_key_of (add_step_of (rule_of b)) IsAddOp IsMapKept zs s t
            (trunk_of b) (trunk_of d)) (sym ops) p;
        pays = p.pays;
        loses = p.loses;
        commands = λ before cs h. has_entered s t b d rule early p.session.touches.shape command op ops calls syncs before cs h
            s (trunk_of b) (b.calls + 1) h.tree
            (subst (λ (xs : List Record). EntersTree (rule_of b) (b.calls + 1) xs s t (trunk_of b) (trunk_of d)) (sym alone)
            enters)
            (omega (arith, one_more, same_adopted, left)) same_adopted (ap ops_in load) (λ e. absurd (true≢false (sym e ∙ plain)));
      }

-- the same by the result
pub takes_plain : {F : Type 0} (s t : RigState) (b d : Batch F) (i : IsBatch s b) (plain : b.early ≡ false)
    (few : b.calls < 2 ^ 40 + (trunk_of b).adopted) (c : CountsCall (count_push 0) s t (trunk_of b) (trunk_of d)) (rule : d.tree.settle ≡ b.tree.settle)
    (calls : d.calls ≡ b.calls + 1) (syncs : d.syncs ≡ b.syncs) (early : d.early ≡ b.early) (load : d.load ≡ None)
    (sound : Sound s) (op : Record) (number : op.b ≡ b.calls + 1) (r : Result (Unit {0}) EmFault)
    → PushesOp map_key_of (add_step_of (rule_of b)) IsAddOp IsMapKept op s t (trunk_of b) (trunk_of d) r
    → (command : Command) → map_op (b.calls + 1) command ≡ op ∷ [] → TakesTo command s t b d r
takes_plain s t b d i plain few c rule calls syncs early load sound op number (Ok x) p command ops =
    takes_alone s t b d i plain few c rule calls syncs early load sound op number p command ops
takes_plain s t b d i plain few c rule calls syncs early load sound op number (Err fault) p command ops = record {
  goes = record {
    sound = p.goes.sound;
    touches = p.goes.touches;
    frames = shares_unloaded s t b d (i.plain plain) load p.goes.frames;
  };
  frames = record {
    tree = p.frames;
    area = subst (λ (l : Option GatherState). IfSome l (HasArea t)) (sym load) tt;
  };
  pays = p.pays;
  cause = p.cause;
}

-- The tree's number after a push is at most that of the commands.
pub push_few : {F : Type 0} (s : RigState) (b : Batch F) → IsBatch s b
    → max (trunk_of b).longest ((trunk_of b).since + 1) ≤ b.calls + 1
push_few s b i =
    let n = i.longest in
    let p = i.entries in
    let k = i.is.running.numbers.since_most in
    omega (arith, n, p, k)

-- What is said of a push that was full.
pub alone_needs : {F : Type 0} (s : RigState) (b : Batch F) → b.early ≡ false → (r : Result (Unit {0}) EmFault)
    → IfErr r (λ fault. IfFull fault (λ _. NeedsMore s (trunk_of b)))
    → IfErr r (λ fault. IfFull fault (λ _. CommandNeedsMore b.early s (trunk_of b) (length (gathered_in b))))
alone_needs s b plain r h =
    subst (λ (x : Bool). IfErr r (λ fault. IfFull fault (λ _. CommandNeedsMore x s (trunk_of b) (length (gathered_in b)))))
    (sym plain) h
