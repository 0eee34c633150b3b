-- A sync and the end of a batch, whose load entered its tree first.
use Rattle.std.specs.Prelude.{◌≡◌, Bool, false, ℕ, ◌+◌, ◌-◌, ◌<◌, ◌≤◌, List, [], ◌∷◌, ◌++◌, length, IsTrue, Option, IfSome, IfErr, Result, Ok, Err}
use Rattle.std.proofs.Common.{sym, ap, subst, refl, ◌∙◌, arith}
use Rattle.std.specs.List.Sorted.{IsPermutation}
use Rattle.std.proofs.lemmas.List.{append-nil, length-append}
use Rattle.std.proofs.lemmas.List.Sorted.{IsPermutation-trans}
use Rattle.em_record.specs.Order.{in_order}
use Rattle.em_record.specs.Shape.{IsShape, ShapeNumbers}
use Rattle.em_record.specs.declared.record.Record.{Record}
use Rattle.em_model.specs.Map.{Combiner}
use Rattle.em_model.specs.MapAnswers.{answers_after}
use Rattle.em_model.specs.declared.command.Command.{Command}
use Rattle.em_model.specs.declared.command.Command.TheVariants.{Sync}
use Rattle.em_model.proofs.SyncLaws.{syncs-append}
use Rattle.em_settle.specs.Add.{add_step_of}
use Rattle.em_settle.specs.Map.{map_key_of}
use Rattle.em_frames.specs.Pool.{load_of}
use Rattle.em_space.specs.Queue.{Pays}
use Rattle.em_space.specs.Rig.{Cause, IfFull, RigState, Sound, Touches}
use Rattle.em_space.specs.declared.fault.EmFault.{EmFault}
use Rattle.em_space.proofs.Ledgers.{full_by}
use Rattle.em_space.proofs.Paying.{pays_kept, pays_then}
use Rattle.em_space.proofs.Sessions.{session_trans}
use Rattle.em_space.proofs.Steps.{cause_after, touches_pool, touches_then}
use Rattle.em_space.proofs.Within.{touches_within}
use Rattle.em_chain.specs.Chain.{chain_items}
use Rattle.em_chain.specs.declared.chain.Chain.{Chain}
use Rattle.em_adopt_cost.specs.Shares.{over_share}
use Rattle.em_tree_cost.specs.Books.{count_settle}
use Rattle.em_tree_cost.specs.Fusing.{synced_share}
use Rattle.em_tree_model.specs.Tree.{Tree, waiting_in}
use Rattle.em_tree_outline.specs.Outline.{outline_of}
use Rattle.em_tree_trim.specs.Trim.{IsTrim}
use Rattle.em_tree.specs.Calls.{FinishCosts, FinishesTrunk, FullIfUntrim, StopsTrunk}
use Rattle.em_tree.specs.Finishing.{FullIfUsed}
use Rattle.em_trunk.specs.Room.{FullOverRoom, WithinRoom}
use Rattle.em_trunk.specs.Trunk.{counts_of, root_of}
use Rattle.em_trunk.specs.declared.trunk.Trunk.{Trunk}
use Rattle.em_combine.specs.Gather.{GatherState}
use Rattle.em_map.specs.Areas.{KeepsAreas, SharesAreas}
use Rattle.em_map.specs.Batch.{BatchCosts, BatchOver, BatchWithin, CountsSync, FinishesBatch, HasArea, HasCommands, IsBatch, LeavesBatch, StopsBatch, SyncNeedsMore, SyncedBatch, SyncsBatch, TreeHas, UnfinishedBatch, areas_in, areas_of, batch_blocks, batch_spent, batch_unstored, calls_share, entries_of, gathered_in, ops_in, rule_of, trunk_of}
use Rattle.em_map.specs.Early.{gathered_after, joined_size, left_of}
use Rattle.em_map.specs.Gathering.{ClosedBatch, CountsClose, CountsTree, SyncedTree, SyncsTree}
use Rattle.em_map.specs.Loading.{answers_in}
use Rattle.em_map.specs.declared.batch.Batch.{Batch}
use Rattle.em_map.proofs.Areas.{given_after, given_singles, goes_on_within, shares_same, shares_then}
use Rattle.em_map.proofs.Closes.{cause_past}
use Rattle.em_map.proofs.Contents.{answers_follow}
use Rattle.em_map.proofs.Early.{joined_sync}
use Rattle.em_map.proofs.GatherCall.{if_full}
use Rattle.em_map.proofs.Lent.{MovesPool, trunk_lent}
use Rattle.em_map.proofs.Ordered.{in_order_of}
use Rattle.em_map.proofs.Rooms.{full_given, given_counted, then_over, then_within}
use Rattle.em_map.proofs.Rules.{same_rule, tree_by}
use Rattle.em_map.proofs.Shares.{calls_more, calls_rise, calls_within, sync_more, synced_share_rises, within_calls}
use Rattle.em_map.proofs.Sizes.{held_after_sync}

-- The load of a batch entered its tree.
module _ {F : Type 0} (s m : RigState) (b x : Batch F) (sound : Sound s) (i : IsBatch s b) (closed : ClosedBatch s m b x)
    (n : CountsClose s m b x) (rule : x.tree.settle ≡ b.tree.settle) where
  told_m : IsTrue s.device.told → IsTrue m.device.told
  told_m z = closed.session.touches.told ∙ z

  shape : m.pool.shape ≡ s.pool.shape
  shape = closed.session.touches.shape

  no_ops : gathered_in x ≡ []
  no_ops = ap ops_in closed.none

  -- a batch that doesn't join adds early is as it was
  plain_same : b.early ≡ false → trunk_of x ≡ trunk_of b
  plain_same e = (closed.idle (ap ops_in (i.plain e))).1

  due_x : IsTrue s.device.told → answers_in (rule_of x) m (trunk_of x)
      ≤ answers_in (rule_of b) s (trunk_of b) + length (gathered_in b)
  due_x told =
      let same = ap (λ (f : Combiner). answers_in f m (trunk_of x)) (same_rule b x rule) in
      let due = closed.answers told in
      omega (arith, same, due)

  tree_x : (before cs : List Command) → HasCommands s b before cs → TreeHas (rule_of x) m (trunk_of x) before cs
  tree_x before cs h = tree_by (rule_of b) (rule_of x) m (trunk_of x) before cs (same_rule b x rule) (closed.tree before cs h)

  -- Its tree was settled, and its answers were handed out.
  module _ (t : RigState) (d : Batch F) (rule_d : d.tree.settle ≡ x.tree.settle) (k : CountsTree m t x d) where
    rule_all : rule_of d ≡ rule_of b
    rule_all = same_rule x d rule_d ∙ same_rule b x rule

    pub counts_synced : CountsSync s t b d
    counts_synced =
        let S : ShapeNumbers → ℕ → Type 0 = λ q N. batch_spent d ≤ synced_share q N d.syncs in
        let entries = closed.entries in
        record {
          calls = omega (arith, k.calls, n.calls);
          syncs = omega (arith, k.syncs, n.syncs);
          early = k.early ∙ n.early;
          adopted = k.adopted ∙ n.adopted;
          counts = λ e. k.counts
              ∙ ap (λ (v : Trunk). count_settle 0 (record (counts_of v) { spent = (trunk_of d).spent })) (plain_same e);
          moves = omega (arith, k.moves, n.moves);
          share = λ told. subst (λ (q : ShapeNumbers). batch_spent d ≤ calls_share q d) shape (k.share (told_m told));
          joined = λ told before cs h.
              let one = joined_sync b.early (load_of s.pool.shape) (before ++ cs) in
              let size = h.size in
              subst (λ (q : ShapeNumbers). S q (joined_size b.early (load_of s.pool.shape) (before ++ cs ++ Sync ∷ []))) shape
              (k.joined (told_m told) (joined_size b.early (load_of s.pool.shape) (before ++ cs ++ Sync ∷ []))
              (omega (arith, one, size, entries, n.syncs)));
        }

    none_d : areas_of d ≡ 0
    none_d = ap areas_in k.none

    has_synced : (before cs : List Command) → HasCommands s b before cs
        → SharesAreas (areas_of b) 0 s.pool t.pool
        → TreeHas (rule_of x) t (trunk_of d) (before ++ cs ++ Sync ∷ []) []
        → entries_of d ≡ entries_of x → HasCommands t d (before ++ cs ++ Sync ∷ []) []
    has_synced before cs h frames tree entries =
        let all = before ++ cs ++ Sync ∷ [] in
        let nil = append-nil all in
        let one = joined_sync b.early (load_of s.pool.shape) (before ++ cs) in
        let size = h.size in
        let before_entries = closed.entries in
        let empty : gathered_in d ≡ [] = ap ops_in k.none in
        let zero : left_of (gathered_in d) ≡ 0 = ap left_of empty in
        let held : [] ≡ gathered_after d.early (load_of t.pool.shape) (all ++ []) =
        held_after_sync d.early (load_of t.pool.shape) (before ++ cs)
        ∙ ap (gathered_after d.early (load_of t.pool.shape)) (sym nil) in
        let sized : joined_size b.early (load_of s.pool.shape) all ≡ joined_size d.early (load_of t.pool.shape) (all ++ []) =
        ap (λ (e : Bool). joined_size e (load_of s.pool.shape) all) (sym (k.early ∙ n.early))
        ∙ ap (λ (q : ShapeNumbers). joined_size d.early (load_of q) all) (sym frames.shape)
        ∙ ap (joined_size d.early (load_of t.pool.shape)) (sym nil) in
        let total : entries_of d + d.syncs + left_of (gathered_in d) ≡ joined_size b.early (load_of s.pool.shape) all =
        omega (arith, entries, before_entries, k.syncs, n.syncs, zero, one, size) in
        record {
          calls = omega (arith, k.calls, n.calls, h.calls, length-append before cs, length-append (before ++ cs) (Sync ∷ []));
          syncs = omega (arith, k.syncs, n.syncs, h.syncs, syncs-append before cs, syncs-append (before ++ cs) (Sync ∷ []));
          base = let adopted : (trunk_of d).adopted ≡ (trunk_of b).adopted = k.adopted ∙ n.adopted in
              omega (arith, adopted, h.base, k.calls, n.calls);
          closed = [];
          unclosed = [];
          parts = refl;
          gathered = empty;
          tree = tree_by (rule_of x) (rule_of d) t (trunk_of d) all [] (same_rule x d rule_d) tree;
          loads = empty ∙ held;
          size = total ∙ sized;
        }

    synced_batch : (c : Chain) → SyncedTree m t x d c → SyncedBatch s t b d c
    synced_batch c p =
        let frames : SharesAreas (areas_of b) 0 s.pool t.pool =
        shares_then (areas_of b) 0 0 s.pool m.pool t.pool closed.frames (shares_same 0 m.pool t.pool p.frames) in
        let R : Combiner → Combiner → Type 0 = λ f g. f ≡ g in
        record {
          is = p.is;
          chain = p.chain;
          packed = λ z. p.packed (told_m z);
          session = session_trans closed.session p.session;
          frames = frames;
          areas = none_d;
          pays = pays_then closed.pays p.pays p.session.touches.moves;
          loses = λ z. let a = closed.loses z in let e = p.loses (told_m z) in omega (arith, a, e);
          commands = λ before cs h. has_synced before cs h frames (p.tree before cs (tree_x before cs h)) p.entries;
          answers = λ z before cs h. subst (λ (f : Combiner). IsPermutation (answers_after f before cs) (chain_items t c))
              (same_rule b x rule) (p.answers (told_m z) before cs (tree_x before cs h));
          ordered = λ z before cs h. subst (λ (f : Combiner). in_order (chain_items t c) ≡ answers_after f before cs)
              (same_rule b x rule) (p.ordered (told_m z) before cs (tree_x before cs h));
          held = λ z before cs h. p.held (told_m z) before cs (tree_x before cs h);
        }

    stops_synced : (fault : EmFault) → StopsTrunk m t (trunk_of x) (trunk_of d) fault → StopsBatch s t b d fault
    stops_synced fault p = record {
      goes = subst (λ (a : ℕ). KeepsAreas (areas_of b) a (batch_blocks s b) s t) (sym none_d)
          (goes_on_within (areas_of b) 0 0 (batch_blocks s b) (batch_blocks m x) s m t
          (record { sound = closed.session.sound; touches = closed.session.touches; frames = closed.frames })
          closed.session.within
          (record { sound = p.goes.sound; touches = p.goes.touches; frames = shares_same 0 m.pool t.pool p.goes.frames }));
      frames = record {
        tree = p.frames;
        area = subst (λ (l : Option GatherState). IfSome l (HasArea t)) (sym k.none) tt;
      };
      pays = pays_then closed.pays (subst (λ (a : ℕ). Pays (batch_unstored x) a m t)
          (ap (λ (q : ShapeNumbers). q.frames) shape) p.pays) p.goes.touches.moves;
      cause = cause_after (batch_blocks s b) s m t fault closed.session.touches p.cause;
    }

    pub synced_by : (r : Result Chain EmFault) → SyncsTree m t x d r → SyncsBatch s t b d r
    synced_by (Ok c) p = synced_batch c p
    synced_by (Err fault) p = stops_synced fault p

  -- What a settling that was full says of the tree before.
  pub needs_synced : {T : Type 0} (r : Result T EmFault) → IfErr r (FullIfUntrim m (trunk_of x)) → IfErr r (SyncNeedsMore s b)
  needs_synced (Ok c) h = tt
  needs_synced (Err fault) h = λ none.
      let same = closed.idle none in
      let lent : MovesPool s m = record {
        sound = closed.session.sound;
        touches = subst (λ (z : RigState). Touches [] s z) (sym same.0) (touches_pool s m.pool shape);
        free = closed.frames.free;
        same = same.0;
      } in
      needs_lent lent (subst (λ (v : Trunk). FullIfUntrim m v fault) same.1 h)
    where
      needs_lent : MovesPool s m → FullIfUntrim m (trunk_of b) fault → FullIfUntrim s (trunk_of b) fault
      needs_lent lent f = full_by fault _ _ (λ p told waits trim.
          let r = (trunk_lent s m (trunk_of b) lent i.is).reads told in
          p (told_m told) (ap waiting_in r.model ∙ waits)
          (subst (λ (q : ShapeNumbers). IsTrim q (trunk_of b).level (outline_of (root_of m (trunk_of b)))) (sym shape)
          (subst (λ (x : Tree). IsTrim s.pool.shape (trunk_of b).level (outline_of x)) (sym r.root) trim))) f

  module _ (t : RigState) where
    k_most : (trunk_of x).longest ≤ b.calls
    k_most = omega (arith, closed.is.longest, closed.is.entries, n.calls)

    pub room_then : (IsTrue s.device.told → BatchWithin b.calls s m b)
        → (IsTrue m.device.told → WithinRoom (trunk_of x).longest m t (trunk_of x))
        → IsTrue s.device.told → BatchWithin b.calls s t b
    room_then first h told = then_within s m b x b.calls (trunk_of x).longest (first told) (closed.loses told) shape k_most
        (given_counted s m b x b.calls i closed.is (told_m told) (shape_is) shape (omega arith) (due_x told) plain_same) t
        (h (told_m told))
      where
        shape_is : IsShape m.pool.shape
        shape_is = closed.session.sound.shape

    pub over_then : {T : Type 0} (r : Result T EmFault) → (IsTrue s.device.told → BatchWithin b.calls s m b)
        → IfErr r (λ fault. IsTrue m.device.told → FullOverRoom (trunk_of x).longest m (trunk_of x) fault)
        → IfErr r (λ fault. IsTrue s.device.told → BatchOver b.calls s b fault)
    over_then (Ok c) first h = tt
    over_then (Err fault) first h = λ told.
        then_over s m b x b.calls (trunk_of x).longest (first told) (closed.loses told) shape k_most
        (given_counted s m b x b.calls i closed.is (told_m told) closed.session.sound.shape shape (omega arith) (due_x told)
        plain_same) {T = Chain} (Err fault) closed.session.touches.blocks (told_m told) h

  -- The tree was finished.
  pub finished_by : (t : RigState) (r : Result Chain EmFault)
      → FinishesTrunk map_key_of (add_step_of (rule_of x)) m t (trunk_of x) r → FinishesBatch s t b r
  finished_by t (Ok c) f =
      let by_x : IsTrue s.device.told → (before cs : List Command) → HasCommands s b before cs
      → IsPermutation (answers_after (rule_of x) before cs) (chain_items t c) = λ told before cs h.
      subst (λ (zs : List Record). IsPermutation zs (chain_items t c)) (answers_follow (rule_of x) before cs)
      (IsPermutation-trans _ _ _ ((tree_x before cs h).answers (told_m told)) (f.answers (told_m told))) in
      let all : IsTrue s.device.told → (before cs : List Command) → HasCommands s b before cs
      → IsPermutation (answers_after (rule_of b) before cs) (chain_items t c) = λ told before cs h.
      subst (λ (g : Combiner). IsPermutation (answers_after g before cs) (chain_items t c)) (same_rule b x rule)
      (by_x told before cs h) in
      record {
        chain = f.chain;
        packed = λ z. f.packed (told_m z);
        session = session_trans closed.session f.session;
        frames = given_after 2 (areas_of b) 0 s.pool m.pool t.pool closed.frames (given_singles 2 m.pool t.pool f.frames);
        pays = pays_then closed.pays f.pays f.session.touches.moves;
        loses = λ z. let a = closed.loses z in let e = f.loses (told_m z) in omega (arith, a, e);
        answers = all;
        ordered = λ told before cs h. in_order_of (rule_of b) before cs (chain_items t c) (all told before cs h);
      }
  finished_by t (Err fault) f = record {
    sound = f.sound;
    touches = touches_within s m t (batch_blocks s b) (batch_blocks m x) closed.session.touches closed.session.within f.touches;
    frames = given_after 2 (areas_of b) 0 s.pool m.pool t.pool closed.frames (given_singles 2 m.pool t.pool f.frames);
    pays = pays_then closed.pays (subst (λ (a : ℕ). Pays (batch_unstored x) a m t)
        (ap (λ (q : ShapeNumbers). q.frames) shape) f.pays) f.touches.moves;
    cause = cause_after (batch_blocks s b) s m t fault closed.session.touches f.cause;
  }

  pub full_finished : {T : Type 0} (r : Result T EmFault) → FullIfUsed (trunk_of x) r
      → IfErr r (λ fault. IfFull fault (λ _. 0 < b.calls))
  full_finished r h = subst (λ (k : ℕ). IfErr r (λ fault. IfFull fault (λ _. 0 < k))) n.calls (full_given x r closed.is h)

  pub costs_finished : (t : RigState) → FinishCosts m t (trunk_of x) → BatchCosts s t b
  costs_finished t f =
      let first = closed.session.touches.moves in
      let a = (trunk_of x).adopted in
      let spent = (trunk_of x).spent + (t.moves - m.moves) in
      let C : ℕ → ℕ → ℕ → Type 0 = λ p N y. batch_spent b + (t.moves - s.moves) ≤ over_share s.pool.shape p (N - p) y in
      let within : (N : ℕ) → entries_of x ≤ N → IsTrue s.device.told → C a N b.syncs = λ N few told.
      let all : spent + x.syncs ≤ over_share s.pool.shape a (N - a) x.syncs =
      subst (λ (q : ShapeNumbers). spent + x.syncs ≤ over_share q a (N - a) x.syncs) shape
      (within_calls m.pool.shape a ((trunk_of x).pushed + (trunk_of x).counted) N (trunk_of x).longest (trunk_of x).resets
      ((trunk_of x).settled + 1) x.syncs spent x.syncs (omega (arith, few, closed.is.uncounted))
      (omega (arith, closed.is.longest, few)) closed.is.unreset (omega (arith, closed.is.settled)) (f.share (told_m told)).within
      (omega arith)) in
      subst (C a N) n.syncs (omega (arith, all, first, f.later, n.moves)) in
      record {
        later = omega (arith, first, f.later);
        share = λ told. subst (λ (p : ℕ). C p b.calls b.syncs) n.adopted
            (within b.calls (omega (arith, closed.is.entries, n.calls)) told);
        joined = λ told before cs h.
            let N = joined_size b.early (load_of s.pool.shape) (before ++ cs) in
            let size = h.size in
            let entries = closed.entries in
            let few : entries_of x ≤ N = omega (arith, size, entries) in
            let all = within N few told in
            let rest = calls_within s.pool.shape a N b.syncs (omega (arith, few)) in
            omega (arith, all, rest);
      }

-- The load couldn't enter the tree.
module _ {F : Type 0} (s m : RigState) (b x : Batch F) (i : IsBatch s b) (n : CountsClose s m b x) (fault : EmFault)
    (stops : StopsBatch s m b x fault) where
  -- the sync was counted
  pub counts_unclosed : 0 < length (gathered_in b) → (d : Batch F) → (trunk_of d).spent ≡ (trunk_of x).spent
      → (trunk_of d).adopted ≡ (trunk_of x).adopted → d.calls ≡ x.calls + 1
      → d.syncs ≡ x.syncs + 1 → d.early ≡ x.early → CountsSync s m b d
  counts_unclosed some d spent adopted calls syncs early = record {
    calls = omega (arith, calls, n.calls);
    syncs = omega (arith, syncs, n.syncs);
    early = early ∙ n.early;
    adopted = adopted ∙ n.adopted;
    counts = λ e.
        let zero = ap (λ (l : Option GatherState). length (ops_in l)) (i.plain e) in
        absurd (omega (arith, some, zero));
    moves = omega (arith, n.moves, spent, syncs);
    share = λ told.
        let a = (trunk_of x).adopted in
        let w = n.share told in
        let one = calls_more s.pool.shape a (x.calls - a) x.syncs in
        let rises = calls_rise s.pool.shape a x.calls d.calls (x.syncs + 1) d.syncs (omega (arith, calls)) (omega (arith, syncs)) in
        subst (λ (p : ℕ). batch_spent d ≤ over_share s.pool.shape p (d.calls - p) d.syncs) (sym adopted)
        (omega (arith, w, one, rises, spent, syncs));
    joined = λ told before cs h.
        let N = joined_size b.early (load_of s.pool.shape) (before ++ cs) in
        let M = joined_size b.early (load_of s.pool.shape) (before ++ cs ++ Sync ∷ []) in
        let size = joined_sync b.early (load_of s.pool.shape) (before ++ cs) in
        let w = n.joined told before cs h in
        let one = sync_more s.pool.shape N x.syncs in
        let rises = synced_share_rises s.pool.shape N M (x.syncs + 1) d.syncs (omega (arith, size)) (omega (arith, syncs)) in
        omega (arith, w, one, rises, spent, syncs);
  }

  module _ (t : RigState) (leaves : LeavesBatch m t x) where
    pub unfinished : UnfinishedBatch s t b fault
    unfinished = record {
      sound = leaves.sound;
      touches = touches_then (batch_blocks s b) s m t stops.goes.touches leaves.touches;
      frames = given_after 2 (areas_of b) (areas_of x) s.pool m.pool t.pool stops.goes.frames leaves.frames;
      pays = pays_then stops.pays (pays_kept s.pool.shape.frames
          (let used = ap (λ (z : RigState). z.used) leaves.same in omega (arith, used))
          (let moves = ap (λ (z : RigState). z.moves) leaves.same in omega (arith, moves))) leaves.touches.moves;
      cause = subst (λ (z : RigState). Cause s z fault) (sym leaves.same) (cause_past s m t.pool fault stops.cause);
    }

    pub full_unclosed : 0 < length (gathered_in b) → IfFull fault (λ _. 0 < b.calls)
    full_unclosed some = if_full (0 < b.calls) fault (omega (arith, some, i.entries))

    pub costs_unclosed : BatchCosts s t b
    costs_unclosed =
        let same : t.moves ≡ m.moves = ap (λ (z : RigState). z.moves) leaves.same in
        let first = stops.goes.touches.moves in
        let P : ℕ → Type 0 = λ N. batch_spent b + (t.moves - s.moves) ≤ N in
        let moved : (N : ℕ) → batch_spent x ≤ N → P N = λ N w. omega (arith, w, same, first, n.moves) in
        record {
          later = omega (arith, same, first);
          share = λ told. subst (λ (a : ℕ). P (over_share s.pool.shape a (b.calls - a) b.syncs)) n.adopted
              (subst (λ (N : ℕ). P (over_share s.pool.shape (trunk_of x).adopted (N - (trunk_of x).adopted) b.syncs)) n.calls
              (subst (λ (y : ℕ). P (over_share s.pool.shape (trunk_of x).adopted (x.calls - (trunk_of x).adopted) y)) n.syncs
              (moved (calls_share s.pool.shape x) (n.share told))));
          joined = λ told before cs h.
              let N = joined_size b.early (load_of s.pool.shape) (before ++ cs) in
              subst (λ (y : ℕ). P (synced_share s.pool.shape N y)) n.syncs
              (moved (synced_share s.pool.shape N x.syncs) (n.joined told before cs h));
        }

    pub room_unclosed : (IsTrue s.device.told → BatchWithin b.calls s m b) → IsTrue s.device.told
        → BatchWithin b.calls s t b
    room_unclosed h told =
        let w = (h told).most in
        let same : t.most ≡ m.most = ap (λ (z : RigState). z.most) leaves.same in
        record { most = omega (arith, w, same) }
