-- A batch whose load enters its tree, and whose area is given back.
use Rattle.std.specs.Prelude.{◌≡◌, false, ℕ, ◌+◌, ◌-◌, ◌≤◌, List, [], ◌++◌, length, IsTrue, Option, None, Some, IfSome}
use Rattle.std.proofs.Common.{sym, ap, subst, refl, ◌∙◌, arith}
use Rattle.em_record.specs.declared.record.Record.{Record}
use Rattle.em_model.specs.declared.command.Command.{Command}
use Rattle.em_frames.specs.Pool.{PoolCounts, SameFrames, load_of}
use Rattle.em_space.specs.Rig.{Cause, RigState, Sound}
use Rattle.em_space.specs.declared.fault.EmFault.{EmFault}
use Rattle.em_space.specs.declared.fault.EmFault.TheVariants.{DeviceFault, Full, Damaged}
use Rattle.em_space.proofs.Paying.{pays_kept, pays_then}
use Rattle.em_space.proofs.Sessions.{session_none, session_trans}
use Rattle.em_space.proofs.Steps.{touches_then}
use Rattle.em_adopt_cost.specs.Shares.{over_share}
use Rattle.em_tree_cost.specs.Fusing.{synced_share}
use Rattle.em_tree.specs.Calls.{StopsTrunk}
use Rattle.em_trunk.specs.Trunk.{TrunkHasFrames}
use Rattle.em_combine.specs.Gather.{GatherState}
use Rattle.em_map.specs.Areas.{KeepsAreas, SharesAreas}
use Rattle.em_map.specs.Batch.{HasArea, IsBatch, IsLoad, StopsBatch, TreeHas, areas_in, areas_of, batch_blocks, batch_spent, entered_of, entries_of, gathered_in, ops_in, rule_of, trunk_of}
use Rattle.em_map.specs.Early.{joined_size, left_of}
use Rattle.em_map.specs.Gathering.{ClosedBatch, CountsClose}
use Rattle.em_map.specs.Loading.{CountsPushes, EntersTree}
use Rattle.em_map.specs.declared.batch.Batch.{Batch}
use Rattle.em_map.proofs.Lent.{MovesPool, blocks_lent, pays_lent, session_lent, stands_lent, tree_lent, used_lent, trunk_lent}
use Rattle.em_map.proofs.Shares.{pushes_joined, pushes_within}
use Rattle.em_map.proofs.Stands.{Stands, answers_alike, answers_entered, batch_is, stands_entered, stands_is}
use Rattle.em_map.proofs.Trees.{tree_closed, tree_takes}

-- a batch that holds no load is one, if its tree and its numbers are
closed_is : {F : Type 0} (t : RigState) (d : Batch F) → Stands t d [] → d.load ≡ None
    → (d.early ≡ false → entries_of d + d.syncs ≡ d.calls) → IsBatch t d
closed_is t d is none alone =
    let no_ops : gathered_in d ≡ [] = ap ops_in none in
    batch_is t d (subst (λ (xs : List Record). Stands t d xs) (sym no_ops) is) (λ e. none) alone
    (subst (λ (l : Option GatherState). IfSome l (HasArea t)) (sym none) tt)
    (subst (λ (l : Option GatherState). IfSome l (IsLoad t (entered_of d))) (sym none) tt)

-- There was no load.
pub closed_none : {F : Type 0} (s : RigState) (b : Batch F) (dest : Option GatherState) → Sound s → IsBatch s b
    → None ≡ b.load → dest ≡ None → ClosedBatch s s b (record b { load = dest })
closed_none s b dest sound i e none =
    let no_ops : gathered_in b ≡ [] = ap ops_in (sym e) in
    let left : left_of (gathered_in b) ≡ 0 = ap left_of no_ops in
    let n : areas_of b ≡ 0 = ap areas_in (sym e) in
    let is : Stands s b [] = subst (λ (xs : List Record). Stands s b xs) no_ops (stands_is s b i) in
    record {
      is = closed_is s (record b { load = dest }) (record {
        is = is.is;
        entries = is.entries;
        longest = is.longest;
        few = is.few;
        few_adopted = is.few_adopted;
        settled = is.settled;
        unreset = is.unreset;
        uncounted = is.uncounted;
        waits = is.waits;
        answers = is.answers;
      }) none i.alone;
      none = none;
      session = session_none s (batch_blocks s b) sound (λ told. (i.is.running.stands told).holds);
      frames = record { shape = refl; free = refl; areas = omega (arith, n); rack = refl; peak = omega arith };
      pays = pays_kept _ (omega arith) (omega arith);
      loses = λ told. refl;
      entries = omega (arith, left);
      answers = λ told. omega arith;
      tree = λ before cs h. subst (λ (xs : List Command). TreeHas (rule_of b) s (trunk_of b) before xs) (sym h.parts)
          (tree_closed (rule_of b) s (trunk_of b) before h.closed h.unclosed (sym no_ops ∙ h.gathered) h.tree);
      idle = λ z. (refl, refl);
    }

-- The numbers, if at most n operations entered the tree, which joining left of those that were gathered.
pub counts_close : {F : Type 0} (n : ℕ) (s m t : RigState) (b d : Batch F) → IsBatch s b
    → CountsPushes n s m (trunk_of b) (trunk_of d) → t.moves ≡ m.moves → n ≤ left_of (gathered_in b)
    → n ≤ length (gathered_in b) → d.calls ≡ b.calls → d.syncs ≡ b.syncs → d.early ≡ b.early → CountsClose s t b d
counts_close n s m t b d i p moves few short calls syncs early =
    let since = i.is.running.numbers.since_most in
    let v = trunk_of b in
    let C : ℕ → ℕ → ℕ → Type 0 = λ a N y. batch_spent d ≤ over_share s.pool.shape a (N - a) y in
    let S : ℕ → ℕ → Type 0 = λ N y. batch_spent d ≤ synced_share s.pool.shape N y in
    let within = pushes_within n b.calls b.syncs s m v (trunk_of d) p since i.longest i.unreset i.settled i.uncounted
    (omega (arith, short, i.entries)) in
    let joined : (N : ℕ) → entries_of b + n ≤ N → IsTrue s.device.told → S N d.syncs =
    λ N most z. subst (S N) (sym syncs) (let w = pushes_joined n N b.syncs s m v (trunk_of d) p since
    i.longest i.unreset i.settled i.uncounted most z in omega (arith, w, syncs)) in
    record {
      calls = calls;
      syncs = syncs;
      early = early;
      adopted = p.adopted;
      moves = let e = p.spent in omega (arith, e, moves, syncs);
      share = λ z. subst (λ (a : ℕ). C a d.calls d.syncs) (sym p.adopted)
          (subst (λ (N : ℕ). C v.adopted N d.syncs) (sym calls) (subst (C v.adopted b.calls) (sym syncs)
          (let w = within z in omega (arith, w, syncs))));
      joined = λ z before cs h. joined (joined_size b.early (load_of s.pool.shape) (before ++ cs))
          (let size = h.size in omega (arith, size, few)) z;
    }

-- a load isn't none
some_none : (load : GatherState) → Some load ≡ None → ⊥
some_none load e = cc

-- why a call gave up, if the pool alone is another
pub cause_past : (s m : RigState) (p : PoolCounts) (fault : EmFault) → Cause s m fault → Cause s (record m { pool = p }) fault
cause_past s m p DeviceFault c = c
cause_past s m p (Full used) c = c
cause_past s m p (Damaged block) c = c

-- A load was there, and its area came back after its operations entered the tree.
module _ {F : Type 0} (s m t : RigState) (b d : Batch F) (load : GatherState) (sound : Sound s) (i : IsBatch s b)
    (was : Some load ≡ b.load) (back : MovesPool m t) (given : t.pool.free_areas ≡ m.pool.free_areas + 1)
    (rack : t.pool.rack_out ≡ m.pool.rack_out) (peak : m.pool.peak ≤ t.pool.peak) (none : d.load ≡ None)
    (calls : d.calls ≡ b.calls) (syncs : d.syncs ≡ b.syncs) (early : d.early ≡ b.early) (rule : d.tree.settle ≡ b.tree.settle)
  where
    items : gathered_in b ≡ load.items
    items = ap ops_in (sym was)

    one_area : areas_of b ≡ 1
    one_area = ap areas_in (sym was)

    shares_back : SameFrames s.pool m.pool → SharesAreas (areas_of b) 0 s.pool t.pool
    shares_back f = record {
      shape = back.touches.shape ∙ f.shape;
      free = back.free ∙ f.free;
      areas = omega (arith, f.free_areas, given, one_area);
      rack = rack ∙ f.rack;
      peak = omega (arith, f.peak, peak);
    }

    pub closed_some : EntersTree (rule_of b) b.calls load.items s m (trunk_of b) (trunk_of d)
        → CountsPushes (left_of load.items) s m (trunk_of b) (trunk_of d)
        → (trunk_of d).pushed ≡ (trunk_of b).pushed + left_of load.items → left_of load.items ≤ length load.items
        → (load.items ≡ [] → (m ≡ s) × (trunk_of d ≡ trunk_of b)) → ClosedBatch s t b d
    closed_some e counts pushed few idle =
        let left : left_of (gathered_in b) ≡ left_of load.items = ap left_of items in
        let before : Stands s b load.items = subst (λ (xs : List Record). Stands s b xs) items (stands_is s b i) in
        let mid : Stands m d [] = stands_entered s m b d load.items (left_of load.items) before e counts pushed few rule calls
        syncs in
        record {
          is = closed_is t d (stands_lent m t d [] back mid) none
              (λ e. absurd (some_none load (was ∙ i.plain (sym early ∙ e))));
          none = none;
          session = session_trans e.session (session_lent m t (trunk_of d) back e.is);
          frames = shares_back e.frames;
          pays = pays_then e.pays (pays_lent m t (trunk_of d) back e.is _) back.touches.moves;
          loses = λ told.
              let lost = e.loses told in
              let held = blocks_lent m t (trunk_of d) back e.is (e.session.touches.told ∙ told) in
              let used = used_lent m t (trunk_of d) back e.is in
              omega (arith, lost, held, used);
          entries = omega (arith, pushed, counts.adopted, left);
          answers = λ told.
              let r = (trunk_lent m t (trunk_of d) back e.is).reads (e.session.touches.told ∙ told) in
              let same = answers_alike (rule_of b) m t (trunk_of d) r.model r.given in
              let most = answers_entered (rule_of b) b.calls load.items s m (trunk_of b) (trunk_of d) e told in
              let long = ap (λ (xs : List Record). length xs) items in
              omega (arith, same, most, long);
          tree = λ before cs h. subst (λ (xs : List Command). TreeHas (rule_of b) t (trunk_of d) before xs) (sym h.parts)
              (tree_lent m t (trunk_of d) back e.is (rule_of b) before (h.closed ++ h.unclosed)
              (tree_takes (rule_of b) s m (trunk_of b) (trunk_of d) before h.closed h.unclosed load.items b.calls e
              (sym items ∙ h.gathered) h.tree));
          idle = λ z. let same = idle (sym items ∙ z) in
              (back.same ∙ ap (λ (x : RigState). record x { pool = t.pool }) same.0, same.1);
        }

    -- The tree gave up.
    pub stops_closing : (fault : EmFault) → StopsTrunk s m (trunk_of b) (trunk_of d) fault → TrunkHasFrames t (trunk_of d)
        → StopsBatch s t b d fault
    stops_closing fault p frames =
        let zero : areas_of d ≡ 0 = ap areas_in none in
        record {
          goes = subst (λ (n : ℕ). KeepsAreas (areas_of b) n (batch_blocks s b) s t) (sym zero) (record {
            sound = back.sound;
            touches = touches_then (batch_blocks s b) s m t p.goes.touches back.touches;
            frames = shares_back p.goes.frames;
          });
          frames = record {
            tree = frames;
            area = subst (λ (l : Option GatherState). IfSome l (HasArea t)) (sym none) tt;
          };
          pays = pays_then p.pays (pays_kept s.pool.shape.frames
              (let used = ap (λ (x : RigState). x.used) back.same in omega (arith, used))
              (let moves = ap (λ (x : RigState). x.moves) back.same in omega (arith, moves))) back.touches.moves;
          cause = subst (λ (x : RigState). Cause s x fault) (sym back.same) (cause_past s m t.pool fault p.cause);
        }
