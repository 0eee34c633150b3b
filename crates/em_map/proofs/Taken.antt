-- A command that was given to a batch: its operation entered the tree with those that were gathered, or is gathered.
use Rattle.std.specs.Prelude.{◌≡◌, Bool, false, true, ℕ, ◌+◌, ◌-◌, ◌<◌, ◌≤◌, List, [], ◌∷◌, ◌++◌, length, IsTrue}
use Rattle.std.proofs.Common.{sym, ap, subst, refl, ◌∙◌, arith}
use Rattle.std.proofs.lemmas.List.{append-nil, append_assoc, length-append}
use Rattle.em_record.specs.declared.record.Record.{Record}
use Rattle.em_record.specs.Shape.{ShapeNumbers}
use Rattle.em_model.specs.Sync.{syncs_of}
use Rattle.em_model.specs.declared.command.Command.{Command}
use Rattle.em_model.specs.declared.command.Command.TheVariants.{Put, Add, Del, Get, Sync, Push, Pop, Interval, Stab}
use Rattle.em_model.proofs.SyncLaws.{syncs-append}
use Rattle.em_frames.specs.Pool.{load_of}
use Rattle.em_space.specs.Rig.{RigState}
use Rattle.em_adopt_cost.specs.Shares.{over_share}
use Rattle.em_tree_cost.specs.Books.{count_push}
use Rattle.em_tree_cost.specs.Fusing.{synced_share}
use Rattle.em_tree.specs.Calls.{CountsCall}
use Rattle.em_trunk.specs.declared.trunk.Trunk.{Trunk}
use Rattle.em_map.specs.Batch.{CountsCommand, HasCommands, IsBatch, TreeHas, batch_spent, entries_of, gathered_in, rule_of, trunk_of}
use Rattle.em_map.specs.Commands.{map_op, ops_after}
use Rattle.em_map.specs.Early.{gathered_after, joined_size, left_of}
use Rattle.em_map.specs.Loading.{CountsPushes, EntersTree}
use Rattle.em_map.specs.declared.batch.Batch.{Batch}
use Rattle.em_map.proofs.Gets.{gets-append, one_get}
use Rattle.em_map.proofs.Pushed.{ops_append}
use Rattle.em_map.proofs.Rules.{same_rule, tree_by}
use Rattle.em_map.proofs.Shares.{pushes_joined, pushes_within}
use Rattle.em_map.proofs.Sizes.{held_plus_full, held_plus_more, lots, size_plus}
use Rattle.em_map.proofs.Trees.{tree_takes}

-- a command with an operation is no sync
pub op_no_sync : (n : ℕ) (c : Command) (op : Record) → map_op n c ≡ op ∷ [] → syncs_of (c ∷ []) ≡ 0
op_no_sync n (Put k v) op e = refl
op_no_sync n (Add k v) op e = refl
op_no_sync n (Del k) op e = refl
op_no_sync n (Get k) op e = refl
op_no_sync n Sync op e = absurd (cc)
op_no_sync n (Push k v) op e = refl
op_no_sync n Pop op e = refl
op_no_sync n (Interval low high) op e = refl
op_no_sync n (Stab point) op e = refl

-- A batch of some commands, which gets one more.
module _ {F : Type 0} (s : RigState) (b : Batch F) (before cs : List Command) (h : HasCommands s b before cs)
    (c : Command) (op : Record) (is : map_op (b.calls + 1) c ≡ op ∷ []) where
  all_calls : length (before ++ cs) + 1 ≡ b.calls + 1
  all_calls = omega (arith, h.calls, length-append before cs)

  op_is : map_op (length (before ++ cs) + 1) c ≡ op ∷ []
  op_is = ap (λ n. map_op n c) all_calls ∙ is

  -- its operations with the next one
  pub ops_plus : gathered_in b ++ op ∷ [] ≡ ops_after (before ++ h.closed) (h.unclosed ++ c ∷ [])
  ops_plus =
      let n : 1 + length (before ++ h.closed) + length h.unclosed ≡ b.calls + 1 =
      let lots = ap (λ (xs : List Command). length xs) h.parts in
      omega (arith, lots, length-append h.closed h.unclosed, length-append before h.closed, h.calls) in
      sym (ops_append (1 + length (before ++ h.closed)) h.unclosed (c ∷ [])
      ∙ ap (λ zs. ops_after (before ++ h.closed) h.unclosed ++ zs)
      (append-nil (map_op (1 + length (before ++ h.closed) + length h.unclosed) c) ∙ ap (λ k. map_op k c) n ∙ is)
      ∙ ap (λ zs. zs ++ op ∷ []) (sym h.gathered))

  pub parts_plus : cs ++ c ∷ [] ≡ h.closed ++ (h.unclosed ++ c ∷ [])
  parts_plus = ap (λ xs. xs ++ c ∷ []) h.parts ∙ append_assoc h.closed h.unclosed (c ∷ [])

  pub calls_plus : (d : Batch F) → d.calls ≡ b.calls + 1 → d.calls ≡ length before + length (cs ++ c ∷ [])
  calls_plus d e = omega (arith, e, h.calls, length-append cs (c ∷ []))

  pub syncs_plus : (d : Batch F) → d.syncs ≡ b.syncs → d.syncs ≡ syncs_of before + syncs_of (cs ++ c ∷ [])
  syncs_plus d e = omega (arith, e, h.syncs, syncs-append cs (c ∷ []), op_no_sync (b.calls + 1) c op is)

  -- the size of the commands with it
  pub size_next : joined_size b.early (load_of s.pool.shape) (before ++ (cs ++ c ∷ []))
      ≡ entries_of b + b.syncs + left_of (gathered_in b ++ op ∷ [])
  size_next = ap (joined_size b.early (load_of s.pool.shape)) (lots before cs c)
      ∙ size_plus b.early (load_of s.pool.shape) (before ++ cs) c op (gathered_in b)
      (entries_of b + b.syncs) op_is h.loads h.size

-- What a batch has after a call, by its rule, its shape and whether it joins adds early.
module _ {F : Type 0} (s t : RigState) (b d : Batch F) (rule : d.tree.settle ≡ b.tree.settle) (early : d.early ≡ b.early)
    (shape : t.pool.shape ≡ s.pool.shape) where
  held_by : (cs : List Command) (g : List Record) → g ≡ gathered_after b.early (load_of s.pool.shape) cs
      → g ≡ gathered_after d.early (load_of t.pool.shape) cs
  held_by cs g e = e ∙ ap (λ (x : Bool). gathered_after x (load_of s.pool.shape) cs) (sym early)
      ∙ ap (λ (p : ShapeNumbers). gathered_after d.early (load_of p) cs) (sym shape)

  size_by : (cs : List Command) (n : ℕ) → n ≡ joined_size b.early (load_of s.pool.shape) cs
      → n ≡ joined_size d.early (load_of t.pool.shape) cs
  size_by cs n e = e ∙ ap (λ (x : Bool). joined_size x (load_of s.pool.shape) cs) (sym early)
      ∙ ap (λ (p : ShapeNumbers). joined_size d.early (load_of p) cs) (sym shape)

  module _ (c : Command) (op : Record) (is : map_op (b.calls + 1) c ≡ op ∷ []) (calls : d.calls ≡ b.calls + 1)
      (syncs : d.syncs ≡ b.syncs) (before cs : List Command) (h : HasCommands s b before cs) where
    -- It entered the tree with all that were gathered.
    pub has_entered : (m : RigState) (v : Trunk) (n : ℕ) → TreeHas (rule_of b) m v before h.closed
        → EntersTree (rule_of b) n (gathered_in b ++ op ∷ []) m t v (trunk_of d)
        → entries_of d ≡ entries_of b + left_of (gathered_in b ++ op ∷ []) → (trunk_of d).adopted ≡ (trunk_of b).adopted
        → gathered_in d ≡ [] → (b.early ≡ true → load_of s.pool.shape ≤ length (gathered_in b) + 1)
        → HasCommands t d before (cs ++ c ∷ [])
    has_entered m v n tree e pushed adopted none full =
        let takes = tree_takes (rule_of b) m t v (trunk_of d) before h.closed (h.unclosed ++ c ∷ [])
        (gathered_in b ++ op ∷ []) n e (ops_plus s b before cs h c op is) tree in
        let held = held_plus_full b.early (load_of s.pool.shape) (before ++ cs) c op (gathered_in b)
        (op_is s b before cs h c op is) h.loads full in
        let size = size_next s b before cs h c op is in
        let left : left_of (gathered_in d) ≡ 0 = ap left_of none in
        record {
          calls = calls_plus s b before cs h c op is d calls;
          syncs = syncs_plus s b before cs h c op is d syncs;
          base = omega (arith, adopted, h.base, calls, gets-append cs (c ∷ []), one_get c);
          closed = cs ++ c ∷ [];
          unclosed = [];
          parts = sym (append-nil (cs ++ c ∷ []));
          gathered = none;
          tree = tree_by (rule_of b) (rule_of d) t (trunk_of d) before (cs ++ c ∷ []) (same_rule b d rule)
              (subst (λ (xs : List Command). TreeHas (rule_of b) t (trunk_of d) before xs)
              (sym (parts_plus s b before cs h c op is)) takes);
          loads = none ∙ held_by (before ++ (cs ++ c ∷ [])) []
              (held ∙ ap (gathered_after b.early (load_of s.pool.shape)) (sym (lots before cs c)));
          size = size_by (before ++ (cs ++ c ∷ [])) (entries_of d + d.syncs + left_of (gathered_in d))
              (let e : entries_of d + d.syncs + left_of (gathered_in d)
              ≡ entries_of b + b.syncs + left_of (gathered_in b ++ op ∷ []) =
              omega (arith, pushed, syncs, left) in e ∙ sym size);
        }

    -- It is gathered.
    pub has_gathered : TreeHas (rule_of b) t (trunk_of d) before h.closed
        → entries_of d ≡ entries_of b → (trunk_of d).adopted ≡ (trunk_of b).adopted → gathered_in d ≡ gathered_in b ++ op ∷ []
        → b.early ≡ true → length (gathered_in b) + 1 < load_of s.pool.shape
        → HasCommands t d before (cs ++ c ∷ [])
    has_gathered tree pushed adopted more joins few =
        let held = held_plus_more b.early (load_of s.pool.shape) (before ++ cs) c op (gathered_in b)
        (op_is s b before cs h c op is) h.loads joins few in
        let size = size_next s b before cs h c op is in
        let left : left_of (gathered_in d) ≡ left_of (gathered_in b ++ op ∷ []) = ap left_of more in
        record {
          calls = calls_plus s b before cs h c op is d calls;
          syncs = syncs_plus s b before cs h c op is d syncs;
          base = omega (arith, adopted, h.base, calls, gets-append cs (c ∷ []), one_get c);
          closed = h.closed;
          unclosed = h.unclosed ++ c ∷ [];
          parts = parts_plus s b before cs h c op is;
          gathered = more ∙ ops_plus s b before cs h c op is;
          tree = tree_by (rule_of b) (rule_of d) t (trunk_of d) before h.closed (same_rule b d rule) tree;
          loads = more ∙ held_by (before ++ (cs ++ c ∷ [])) (gathered_in b ++ op ∷ [])
              (held ∙ ap (gathered_after b.early (load_of s.pool.shape)) (sym (lots before cs c)));
          size = size_by (before ++ (cs ++ c ∷ [])) (entries_of d + d.syncs + left_of (gathered_in d))
              (let e : entries_of d + d.syncs + left_of (gathered_in d)
              ≡ entries_of b + b.syncs + left_of (gathered_in b ++ op ∷ []) =
              omega (arith, pushed, syncs, left) in e ∙ sym size);
        }

-- The numbers after a call that gave a command, if at most n operations entered the tree, which joining left of all that
-- were gathered.
pub counts_command : {F : Type 0} (c : Command) (op : Record) (n : ℕ) (s m t : RigState) (b d : Batch F)
    → IsBatch s b → map_op (b.calls + 1) c ≡ op ∷ [] → CountsPushes n m t (trunk_of b) (trunk_of d)
    → m.moves ≡ s.moves → m.device.told ≡ s.device.told → m.pool.shape ≡ s.pool.shape
    → n ≤ left_of (gathered_in b ++ op ∷ []) → entries_of b + n + b.syncs ≤ b.calls + 1
    → d.calls ≡ b.calls + 1 → d.syncs ≡ b.syncs → d.early ≡ b.early
    → (b.early ≡ false → CountsCall (count_push 0) s t (trunk_of b) (trunk_of d)) → CountsCommand c s t b d
counts_command c op n s m t b d i is p moves told shape few few_calls calls syncs early tree =
    let since = i.is.running.numbers.since_most in
    let v = trunk_of b in
    let adopted : (trunk_of d).adopted ≡ v.adopted = p.adopted in
    let within : IsTrue s.device.told
    → (trunk_of d).spent + b.syncs ≤ over_share s.pool.shape v.adopted (b.calls + 1 - v.adopted) b.syncs =
    λ z. subst (λ (q : ShapeNumbers). (trunk_of d).spent + b.syncs ≤ over_share q v.adopted (b.calls + 1 - v.adopted) b.syncs) shape
    (pushes_within n (b.calls + 1) b.syncs m t v (trunk_of d) p since i.longest i.unreset i.settled i.uncounted
    (omega (arith, few_calls)) (told ∙ z)) in
    let joined : (N : ℕ) → entries_of b + n ≤ N → IsTrue s.device.told
    → (trunk_of d).spent + b.syncs ≤ synced_share s.pool.shape N b.syncs =
    λ N most z. subst (λ (q : ShapeNumbers). (trunk_of d).spent + b.syncs ≤ synced_share q N b.syncs) shape
    (pushes_joined n N b.syncs m t v (trunk_of d) p since i.longest i.unreset i.settled i.uncounted most (told ∙ z)) in
    let C : ℕ → ℕ → Type 0 = λ a N. batch_spent d ≤ over_share s.pool.shape a (N - a) d.syncs in
    let S : ℕ → ℕ → Type 0 = λ N y. batch_spent d ≤ synced_share s.pool.shape N y in
    record {
      calls = calls;
      syncs = syncs;
      early = early;
      adopted = adopted;
      tree = tree;
      moves = let e = p.spent in omega (arith, e, moves, syncs);
      share = λ z. subst (λ (a : ℕ). C a d.calls) (sym adopted) (subst (C v.adopted) (sym calls)
          (subst (λ (y : ℕ). batch_spent d ≤ over_share s.pool.shape v.adopted (b.calls + 1 - v.adopted) y) (sym syncs)
          (let w = within z in omega (arith, w, syncs))));
      joined = λ z before cs h.
          let size = sym (ap (joined_size b.early (load_of s.pool.shape)) (lots before cs c))
          ∙ size_next s b before cs h c op is in
          subst (S (joined_size b.early (load_of s.pool.shape) (before ++ cs ++ c ∷ []))) (sym syncs)
          (let w = joined (joined_size b.early (load_of s.pool.shape) (before ++ cs ++ c ∷ []))
          (omega (arith, size, few)) z in omega (arith, w, syncs));
    }
