-- A sync of a batch that holds no load: its tree is settled, and then its answers are handed out.
use Rattle.std.specs.Prelude.{◌≡◌, ℕ, Bool, ◌+◌, ◌-◌, ◌<◌, ◌≤◌, ◌^◌, List, [], ◌∷◌, ◌++◌, length, IsTrue, Option, None, Result, Ok, Err, IfErr, IfSome}
use Rattle.std.proofs.Common.{sym, ap, subst, ◌∙◌, arith}
use Rattle.std.specs.List.Sorted.{IsPermutation}
use Rattle.std.specs.Result.{IsErrAnd}
use Rattle.std.proofs.lemmas.List.{append-nil, length-append}
use Rattle.std.proofs.lemmas.List.Sorted.{IsPermutation-refl, IsPermutation-trans}
use Rattle.em_record.specs.Cost.{room}
use Rattle.em_record.specs.Shape.{ShapeNumbers}
use Rattle.em_record.specs.declared.record.Record.{Record}
use Rattle.em_model.specs.Live.{live_pairs}
use Rattle.em_model.specs.Map.{Combiner}
use Rattle.em_model.specs.MapAnswers.{answers_after}
use Rattle.em_model.specs.declared.command.Command.{Command}
use Rattle.em_model.specs.declared.command.Command.TheVariants.{Sync}
use Rattle.em_settle.specs.Add.{IsAddOp, add_step_of}
use Rattle.em_settle.specs.Map.{IsMapKept, map_key_of}
use Rattle.em_settle.specs.States.{answers_to, with_ops}
use Rattle.em_space.specs.Rig.{RigState, Sound}
use Rattle.em_space.specs.declared.fault.EmFault.{EmFault}
use Rattle.em_space.proofs.Ledgers.{full_never}
use Rattle.em_space.proofs.Paying.{pays_then}
use Rattle.em_space.proofs.Sessions.{session_trans}
use Rattle.em_space.proofs.Steps.{same_frames_then}
use Rattle.em_chain.specs.Chain.{chain_blocks, chain_items}
use Rattle.em_chain.specs.declared.chain.Chain.{Chain}
use Rattle.em_adopt_cost.specs.Shares.{over_share}
use Rattle.em_tree_cost.specs.Books.{TreeCounts, count_settle}
use Rattle.em_tree_model.specs.Meaning.{nothing, tree_answers, tree_contents}
use Rattle.em_tree_model.specs.Owed.{owed}
use Rattle.em_tree_model.specs.Tree.{Tree, stored_in, waiting_in}
use Rattle.em_tree_model.proofs.Takes.{nothing_owed}
use Rattle.em_tree.specs.Calls.{CountsCall, FullIfUntrim, SettledTrunk, StopsTrunk}
use Rattle.em_tree.specs.Handing.{HandedAnswers, HandsAnswers, StopsHanding}
use Rattle.em_trunk.specs.Room.{FullOverRoom, WithinRoom}
use Rattle.em_trunk.specs.Trunk.{counts_of, given_by, model_of, trunk_blocks}
use Rattle.em_trunk.specs.declared.trunk.Trunk.{Trunk}
use Rattle.em_combine.specs.Gather.{GatherState}
use Rattle.em_map.specs.Batch.{HasArea, IsBatch, IsLoad, TreeHas, batch_blocks, batch_spent, contents_after, entered_of, entries_of, gathered_in, ops_in, rule_of, trunk_of}
use Rattle.em_map.specs.Commands.{map_ops, ops_after}
use Rattle.em_map.specs.Contents.{WaitsUpTo}
use Rattle.em_map.specs.Gathering.{CountsTree, SyncedTree, SyncsTree}
use Rattle.em_map.specs.Loading.{answers_in}
use Rattle.em_map.specs.declared.batch.Batch.{Batch}
use Rattle.em_map.proofs.Contents.{answers_follow}
use Rattle.em_map.proofs.Live.{room_rises, stored_live}
use Rattle.em_map.proofs.Numbers.{waits_still}
use Rattle.em_map.proofs.Ordered.{in_order_of}
use Rattle.em_map.proofs.Pushed.{ops_append}
use Rattle.em_map.proofs.Pushing.{stops_after}
use Rattle.em_map.proofs.Rules.{same_rule}
use Rattle.em_map.proofs.Shares.{calls_within, within_calls}

-- what the fault of a callee says of the result
pub syncs_err : {F : Type 0} (s t : RigState) (b d : Batch F) (result : Result Chain EmFault) (e : EmFault)
    → IsErrAnd result (λ f. f ≡ e) → StopsTrunk s t (trunk_of b) (trunk_of d) e → SyncsTree s t b d result
syncs_err s t b d (Ok c) e h k = absurd h
syncs_err s t b d (Err f) e h k =
    subst (λ (g : EmFault). StopsTrunk s t (trunk_of b) (trunk_of d) g) (sym h) k

-- a sync is no operation
ops_synced : (before cs : List Command) → map_ops (before ++ cs ++ Sync ∷ []) ≡ map_ops (before ++ cs)
ops_synced before cs = ops_append 1 (before ++ cs) (Sync ∷ []) ∙ append-nil (map_ops (before ++ cs))

-- The numbers, once the tree was settled, or gave up: `d` has counts that are those of that tree, and at most one move more
-- was made.
module _ {F : Type 0} {s m : RigState} (b d : Batch F) {x : Trunk} (sound : Sound s) (is : IsBatch s b) (few : b.calls < 2 ^ 40 + (trunk_of b).adopted)
    (c : CountsCall (count_settle 0) s m (trunk_of b) x) (calls : d.calls ≡ b.calls + 1) (syncs : d.syncs ≡ b.syncs + 1)
    (early : d.early ≡ b.early) (closed : b.load ≡ None) (none : d.load ≡ None)
    (same : counts_of (trunk_of d) ≡ counts_of x) where
  pushed_same : (trunk_of d).pushed ≡ (trunk_of b).pushed
  pushed_same = ap (λ (z : TreeCounts). z.n) (same ∙ c.counts)

  longest_same : (trunk_of d).longest ≡ (trunk_of b).longest
  longest_same = ap (λ (z : TreeCounts). z.k) (same ∙ c.counts)

  settled_more : (trunk_of d).settled ≡ (trunk_of b).settled + 1
  settled_more = ap (λ (z : TreeCounts). z.y) (same ∙ c.counts)

  adopted_same : (trunk_of d).adopted ≡ (trunk_of b).adopted
  adopted_same = ap (λ (z : TreeCounts). z.adopted) (same ∙ c.counts)

  resets_same : (trunk_of d).resets ≡ 0
  resets_same = ap (λ (z : TreeCounts). z.z) (same ∙ c.counts) ∙ is.unreset

  spent_same : (trunk_of d).spent ≡ x.spent
  spent_same = ap (λ (z : TreeCounts). z.spent) same

  settled_within : IsTrue s.device.told → (n : ℕ) → entries_of b ≤ n
      → batch_spent d ≤ over_share s.pool.shape (trunk_of b).adopted (n - (trunk_of b).adopted) d.syncs
  settled_within told n size =
      let k : x.longest ≡ (trunk_of b).longest = ap (λ (z : TreeCounts). z.k) c.counts in
      let p : x.pushed ≡ (trunk_of b).pushed = ap (λ (z : TreeCounts). z.n) c.counts in
      let y : x.settled ≡ (trunk_of b).settled + 1 = ap (λ (z : TreeCounts). z.y) c.counts in
      let z : x.resets ≡ 0 = ap (λ (z : TreeCounts). z.z) c.counts ∙ is.unreset in
      let u : x.counted ≡ (trunk_of b).counted = ap (λ (z : TreeCounts). z.counted) c.counts in
      let all = within_calls s.pool.shape (trunk_of b).adopted (x.pushed + x.counted) n x.longest x.resets x.settled d.syncs
      x.spent d.syncs (omega (arith, p, size, u, is.uncounted)) (omega (arith, k, is.longest, size)) z
      (omega (arith, y, is.settled, syncs)) (c.share told).within (omega arith) in
      omega (arith, all, spent_same)

  pub counts_sync : (t : RigState) → t.moves ≤ m.moves + 1 → CountsTree s t b d
  counts_sync t more = record {
    calls = calls;
    syncs = syncs;
    early = early;
    adopted = adopted_same;
    none = none;
    counts = same ∙ c.counts
        ∙ ap (λ n. count_settle 0 (record (counts_of (trunk_of b)) { spent = n })) (sym spent_same);
    moves = omega (arith, more, c.spent, spent_same, syncs);
    share = λ told. subst (λ (a : ℕ). batch_spent d ≤ over_share s.pool.shape a (d.calls - a) d.syncs) (sym adopted_same)
        (settled_within told d.calls (omega (arith, is.entries, calls)));
    joined = λ told n size.
        let all = settled_within told n (omega (arith, size)) in
        let rest = calls_within s.pool.shape (trunk_of b).adopted n d.syncs (omega (arith, size)) in
        omega (arith, all, rest);
  }

  -- The tree was settled, and its answers were handed out.
  module _ {t : RigState} {h : Chain}
      (f : SettledTrunk map_key_of (add_step_of (rule_of b)) IsAddOp IsMapKept s m (trunk_of b) x)
      (g : HandedAnswers map_key_of IsAddOp IsMapKept m t x (trunk_of d) h)
      (rule : d.tree.settle ≡ b.tree.settle) where
    abbrev v : Trunk
    v = trunk_of b

    abbrev w : Trunk
    w = trunk_of d

    told_m : IsTrue s.device.told → IsTrue m.device.told
    told_m z = f.changes.session.touches.told ∙ z

    back : IsTrue t.device.told → IsTrue s.device.told
    back z =
        let e : t.device.told ≡ s.device.told = g.session.touches.told ∙ f.changes.session.touches.told in
        subst (λ (b : Bool). IsTrue b) e z

    -- no operation waits
    none_waits : IsTrue s.device.told → waiting_in (model_of t w) ≡ []
    none_waits z = ap waiting_in (g.model (told_m z)) ∙ (f.settled z).waiting

    contents_same : IsTrue s.device.told → (q : Record) → tree_contents map_key_of (add_step_of (rule_of b)) (model_of t w) q
        ≡ tree_contents map_key_of (add_step_of (rule_of b)) (model_of s v) q
    contents_same z q = ap (λ (u : Tree). tree_contents map_key_of (add_step_of (rule_of b)) u q) (g.model (told_m z))
        ∙ (f.changes.meaning z).contents q

    -- no answer is given or owed
    no_answers : IsTrue s.device.told → tree_answers map_key_of (add_step_of (rule_of b)) (given_by t w) (model_of t w) ≡ []
    no_answers z = ap (λ (rs : List Record). rs ++ owed map_key_of (add_step_of (rule_of b)) (model_of t w)) (g.none (told_m z))
        ∙ nothing_owed map_key_of (add_step_of (rule_of b)) (model_of t w) (none_waits z)

    batch_synced : IsBatch t d
    batch_synced =
        let zero : length (gathered_in b) ≡ 0 = ap (λ (l : Option GatherState). length (ops_in l)) closed in
        let no_ops : length (gathered_in d) ≡ 0 = ap (λ (l : Option GatherState). length (ops_in l)) none in
        let old : entered_of b ≡ b.calls = omega (arith, zero) in
        let new : entered_of d ≡ b.calls + 1 = omega (arith, no_ops, calls) in
        record {
          is = g.is;
          plain = λ e. none;
          alone = λ e. omega (arith, pushed_same, adopted_same, calls, syncs, is.alone (sym early ∙ e));
          area = subst (λ (l : Option GatherState). IfSome l (HasArea t)) (sym none) tt;
          load = subst (λ (l : Option GatherState). IfSome l (IsLoad t (entered_of d))) (sym none) tt;
          entries = omega (arith, pushed_same, adopted_same, is.entries, zero, no_ops, calls, syncs);
          longest = omega (arith, longest_same, pushed_same, adopted_same, is.longest);
          few = omega (arith, few, adopted_same, calls);
          few_adopted = omega (arith, adopted_same, is.few_adopted);
          settled = omega (arith, settled_more, is.settled, syncs);
          unreset = resets_same;
          uncounted = ap (λ (z : TreeCounts). z.counted) (same ∙ c.counts) ∙ is.uncounted;
          waits = λ told. let z = back told in
              subst (λ n. WaitsUpTo n (model_of t w)) (sym new)
              (subst (λ (u : Tree). WaitsUpTo (b.calls + 1) u) (sym (g.model (told_m z)))
              (waits_still (rule_of b) b.calls (model_of s v) (model_of m x) (f.changes.meaning z).advances
              (subst (λ n. WaitsUpTo n (model_of s v)) old (is.waits z))));
          answers = λ told.
              let by_rule : answers_in (rule_of d) t w ≡ answers_in (rule_of b) t w =
              ap (λ (apply : Combiner). answers_in apply t w) (same_rule b d rule) in
              let zero_answers = ap (λ (rs : List Record). length rs) (no_answers (back told)) in
              omega (arith, by_rule, zero_answers, adopted_same, no_ops, calls, is.entries);
        }

    has_synced : (before cs : List Command) → TreeHas (rule_of b) s v before cs
        → TreeHas (rule_of b) t w (before ++ cs ++ Sync ∷ []) []
    has_synced before cs k = record {
      contents = λ told q. let z = back told in
          contents_same z q ∙ k.contents z q
          ∙ sym (ap (λ ops. with_ops map_key_of (add_step_of (rule_of b)) nothing ops q)
          (ap map_ops (append-nil (before ++ cs ++ Sync ∷ [])) ∙ ops_synced before cs));
      answers = λ told.
          subst (λ rs. IsPermutation [] rs) (sym (no_answers (back told))) (IsPermutation-refl []);
    }

    answers_synced : IsTrue s.device.told → (before cs : List Command) → TreeHas (rule_of b) s v before cs
        → IsPermutation (answers_after (rule_of b) before cs) (chain_items t h)
    answers_synced z before cs k =
        subst (λ rs. IsPermutation rs (chain_items t h)) (answers_follow (rule_of b) before cs)
        (subst (λ rs. IsPermutation (answers_to map_key_of (add_step_of (rule_of b)) (contents_after (rule_of b) before)
        (ops_after before cs)) rs)
        (sym (g.items (told_m z)))
        (IsPermutation-trans _ _ _ (k.answers z) (f.settled z).answers))

    held_synced : IsTrue s.device.told → (before cs : List Command) → TreeHas (rule_of b) s v before cs
        → length (batch_blocks t d) ≤ room t.pool.shape (live_pairs (before ++ cs))
    held_synced z before cs k =
        let model = model_of m x in
        let live : length (stored_in model) ≤ live_pairs (before ++ cs) =
        stored_live (rule_of b) model (f.changes.is.running.stands (told_m z)).is (f.settled z).waiting (before ++ cs)
        (λ q. (f.changes.meaning z).contents q ∙ k.contents z q) in
        let most = f.held z in
        let rises = room_rises m.pool.shape (length (stored_in model)) (live_pairs (before ++ cs)) live in
        let lost = g.loses (told_m z) in
        let parts = length-append (chain_blocks t h) (trunk_blocks t w) in
        let blocks = (g.chain.told (back_t z)).list.blocks_is in
        subst (λ (p : ShapeNumbers). length (batch_blocks t d) ≤ room p (live_pairs (before ++ cs)))
        (sym g.session.touches.shape) (omega (arith, most, rises, lost, parts, blocks, g.blocks, g.same.used))
      where
        back_t : IsTrue s.device.told → IsTrue t.device.told
        back_t z = g.session.touches.told ∙ told_m z

    pub synced_tree : SyncedTree s t b d h
    synced_tree = record {
      is = batch_synced;
      none = none;
      chain = g.chain;
      packed = λ z. g.packed (told_m z);
      session = session_trans f.changes.session g.session;
      frames = same_frames_then s.pool m.pool t.pool f.changes.frames g.frames;
      pays = pays_then f.changes.pays g.pays g.session.touches.moves;
      loses = λ z. let a = f.changes.loses z in let e = g.loses (told_m z) in omega (arith, a, e);
      entries = omega (arith, pushed_same, adopted_same);
      tree = has_synced;
      answers = answers_synced;
      ordered = λ z before cs k. in_order_of (rule_of b) before cs (chain_items t h) (answers_synced z before cs k);
      held = held_synced;
    }

  -- The last block of the answers couldn't be stored.
  pub unhanded : {t : RigState} {e : EmFault}
      → SettledTrunk map_key_of (add_step_of (rule_of b)) IsAddOp IsMapKept s m (trunk_of b) x
      → StopsHanding m t x (trunk_of d) e → StopsTrunk s t (trunk_of b) (trunk_of d) e
  unhanded {t} {e} f g = stops_after map_key_of (add_step_of (rule_of b)) IsAddOp IsMapKept [] s m t (trunk_of b) x (trunk_of d) e
      f.changes g.stops

-- What it did, by the result of handing out.
module _ {F : Type 0} (s m t : RigState) (b d : Batch F) (x : Trunk) (sound : Sound s) (is : IsBatch s b) (few : b.calls < 2 ^ 40 + (trunk_of b).adopted)
    (c : CountsCall (count_settle 0) s m (trunk_of b) x) (calls : d.calls ≡ b.calls + 1) (syncs : d.syncs ≡ b.syncs + 1)
    (early : d.early ≡ b.early) (closed : b.load ≡ None) (none : d.load ≡ None) where
  pub synced_to : d.tree.settle ≡ b.tree.settle
      → SettledTrunk map_key_of (add_step_of (rule_of b)) IsAddOp IsMapKept s m (trunk_of b) x
      → (result : Result Chain EmFault) → HandsAnswers map_key_of IsAddOp IsMapKept m t x (trunk_of d) result
      → SyncsTree s t b d result
  synced_to rule f (Ok h) g = synced_tree b d sound is few c calls syncs early closed none g.counts f g rule
  synced_to rule f (Err e) g = unhanded b d sound is few c calls syncs early closed none g.counts f g

  pub counts_to : (result : Result Chain EmFault)
      → HandsAnswers map_key_of IsAddOp IsMapKept m t x (trunk_of d) result → CountsTree s t b d
  counts_to (Ok h) g = counts_sync b d sound is few c calls syncs early closed none g.counts t (omega (arith, g.moves))
  counts_to (Err e) g = counts_sync b d sound is few c calls syncs early closed none g.counts t (omega (arith, g.moves))

module _ {F : Type 0} (s m t : RigState) (b : Batch F) (x w : Trunk) where
  -- Handing answers out takes no block,
  pub room_to : (result : Result Chain EmFault) → HandsAnswers map_key_of IsAddOp IsMapKept m t x w result
      → WithinRoom (trunk_of b).longest s m (trunk_of b) → WithinRoom (trunk_of b).longest s t (trunk_of b)
  room_to (Ok h) g r = record { most = omega (arith, r.most, g.same.most) }
  room_to (Err e) g r = record { most = omega (arith, r.most, g.same.most) }

  -- so that it is never refused as full.
  pub over_to : (result : Result Chain EmFault) → HandsAnswers map_key_of IsAddOp IsMapKept m t x w result
      → IfErr result (λ fault. IsTrue s.device.told → FullOverRoom (trunk_of b).longest s (trunk_of b) fault)
  over_to (Ok h) g = tt
  over_to (Err e) g = λ z. record { full = full_never m t e _ g.cause }

  pub needs_to : (result : Result Chain EmFault) → HandsAnswers map_key_of IsAddOp IsMapKept m t x w result
      → IfErr result (FullIfUntrim s (trunk_of b))
  needs_to (Ok h) g = tt
  needs_to (Err e) g = full_never m t e _ g.cause
