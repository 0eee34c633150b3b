-- What a command leaves of a batch that joins adds early: its operation is gathered, or enters the tree with the load.
use Rattle.std.specs.Prelude.{◌≡◌, true, ℕ, ◌+◌, ◌<◌, ◌≤◌, ◌^◌, List, [], ◌∷◌, ◌++◌, length, Option, None, Some, IfSome}
use Rattle.std.proofs.Common.{sym, ap, subst, refl, ◌∙◌, arith}
use Rattle.std.proofs.lemmas.Bool.{true≢false}
use Rattle.std.proofs.lemmas.List.{length-append}
use Rattle.em_record.specs.Shape.{ShapeNumbers}
use Rattle.em_record.specs.declared.record.Record.{Record}
use Rattle.em_model.specs.declared.command.Command.{Command}
use Rattle.em_settle.specs.Add.{IsAddOp}
use Rattle.em_frames.specs.Pool.{load_of}
use Rattle.em_space.specs.Ledger.{Session}
use Rattle.em_space.specs.Queue.{Pays}
use Rattle.em_space.specs.Rig.{RigState, Sound}
use Rattle.em_space.specs.declared.fault.EmFault.{EmFault}
use Rattle.em_space.proofs.Paying.{pays_then}
use Rattle.em_space.proofs.Sessions.{session_trans}
use Rattle.em_space.proofs.Steps.{cause_after}
use Rattle.em_tree.specs.Calls.{StopsTrunk}
use Rattle.em_trunk.specs.Trunk.{trunk_blocks, trunk_unstored}
use Rattle.em_trunk.specs.declared.trunk.Trunk.{Trunk}
use Rattle.em_combine.specs.Gather.{GatherState}
use Rattle.em_map.specs.Areas.{KeepsAreas, SharesAreas}
use Rattle.em_map.specs.Batch.{CountsCommand, HasArea, IsBatch, IsLoad, StopsBatch, TakesCommand, TreeHas, areas_in, areas_of, batch_blocks, batch_unstored, entered_of, gathered_in, ops_in, rule_of, trunk_of}
use Rattle.em_map.specs.Commands.{map_op}
use Rattle.em_map.specs.Early.{left_of}
use Rattle.em_map.specs.Loading.{CountsPushes, EntersTree}
use Rattle.em_map.specs.declared.batch.Batch.{Batch}
use Rattle.em_map.proofs.Areas.{goes_on_within, shares_same, shares_then}
use Rattle.em_map.proofs.Gathers.{AreOps, load_ops, ops_next}
use Rattle.em_map.proofs.Lent.{MovesPool, blocks_lent, moves_lent, pays_lent, session_lent, stands_lent, tree_lent, used_lent}
use Rattle.em_map.proofs.Pushing.{counts_none}
use Rattle.em_map.proofs.Stands.{Stands, batch_is, stands_entered, stands_is, stands_next}
use Rattle.em_map.proofs.Taken.{counts_command, has_entered, has_gathered}

-- The state after an area was lent, if none was held, and a batch with one call more, whose load has the next operation.
module _ {F : Type 0} (s m : RigState) (b d : Batch F) (load : GatherState) (op : Record) (sound : Sound s) (i : IsBatch s b)
    (early : b.early ≡ true) (few : b.calls < 2 ^ 40 + (trunk_of b).adopted) (lent : MovesPool s m)
    (frames : SharesAreas (areas_of b) 1 s.pool m.pool) (area : HasArea m load) (is_op : IsAddOp op)
    (number : op.b ≡ b.calls + 1) (calls : d.calls ≡ b.calls + 1) (syncs : d.syncs ≡ b.syncs) (joins : d.early ≡ b.early)
    (rule : d.tree.settle ≡ b.tree.settle) (is_load : d.load ≡ Some load) where
  abbrev v : Trunk
  v = trunk_of b

  entered_length : entered_of b + length (gathered_in b) ≡ b.calls
  entered_length = omega (arith, i.entries)

  pub all_ops : AreOps (entered_of b) (gathered_in b ++ op ∷ [])
  all_ops = ops_next (entered_of b) (gathered_in b) op (load_ops s (entered_of b) b.load i.load) is_op
      (let n = entered_length in omega (arith, n, number))

  one_area : areas_of d ≡ 1
  one_area = ap areas_in is_load

  area_is : IfSome d.load (HasArea m)
  area_is = subst (λ (l : Option GatherState). IfSome l (HasArea m)) (sym is_load) area

  -- It is gathered.
  module _ (tree : d.tree ≡ b.tree) (items : load.items ≡ gathered_in b ++ op ∷ [])
      (less : length load.items < load.capacity) where
    trunk : trunk_of d ≡ trunk_of b
    trunk = ap (λ (x : _). x.trunk) tree

    gathered : gathered_in d ≡ gathered_in b ++ op ∷ []
    gathered = ap ops_in is_load ∙ items

    one_longer : length (gathered_in d) ≡ length (gathered_in b) + 1
    one_longer = ap (λ (xs : List Record). length xs) gathered ∙ length-append (gathered_in b) (op ∷ [])

    same_entered : entered_of b ≡ entered_of d
    same_entered = let n = one_longer in omega (arith, n, calls, i.entries)

    gathered_is : IsBatch m d
    gathered_is =
        let ops : AreOps (entered_of d) load.items = subst (λ (n : ℕ). AreOps n load.items) same_entered
        (subst (λ (xs : List Record). AreOps (entered_of b) xs) (sym items) all_ops) in
        let is : IsLoad m (entered_of d) load = record { few = less; ops = ops.are; follow = ops.follow } in
        batch_is m d (subst (λ (xs : List Record). Stands m d xs) (sym gathered)
        (stands_next m b d (gathered_in b) op tree calls syncs few (stands_lent s m b (gathered_in b) lent (stands_is s b i))))
        (λ e. absurd (true≢false (sym (joins ∙ early) ∙ e))) (λ e. absurd (true≢false (sym (joins ∙ early) ∙ e))) area_is
        (subst (λ (l : Option GatherState). IfSome l (IsLoad m (entered_of d))) (sym is_load) is)

    pub takes_gathered : (c : Command) → map_op (b.calls + 1) c ≡ op ∷ [] → TakesCommand c s m b d
    takes_gathered c ops =
        let block : load_of m.pool.shape ≡ load_of s.pool.shape = ap load_of lent.touches.shape in
        let long = ap (λ (xs : List Record). length xs) items in
        let one = length-append (gathered_in b) (op ∷ []) in
        record {
          is = gathered_is;
          session = subst (λ (x : Trunk). Session (batch_blocks s b) s m (trunk_blocks m x)) (sym trunk)
              (session_lent s m v lent i.is);
          frames = subst (λ (n : ℕ). SharesAreas (areas_of b) n s.pool m.pool) (sym one_area) frames;
          areas = λ e. one_area;
          tree = λ e. absurd (true≢false (sym early ∙ e));
          pays = subst (λ (x : Trunk). Pays (batch_unstored b) (trunk_unstored x) s m) (sym trunk)
              (pays_lent s m v lent i.is (batch_unstored b));
          loses = λ told.
              let same : length (batch_blocks m d) ≡ length (batch_blocks s b) =
              ap (λ (x : Trunk). length (trunk_blocks m x)) trunk ∙ blocks_lent s m v lent i.is told in
              let used = used_lent s m v lent i.is in
              omega (arith, same, used);
          commands = λ before cs h. has_gathered s m b d rule joins lent.touches.shape c op ops calls syncs before cs h
              (subst (λ (x : Trunk). TreeHas (rule_of b) m x before h.closed) (sym trunk)
              (tree_lent s m v lent i.is (rule_of b) before h.closed h.tree))
              (ap (λ (x : Trunk). x.pushed + x.adopted) trunk) (ap (λ (x : Trunk). x.adopted) trunk) gathered
              early (omega (arith, long, one, less, area.capacity, block));
        }

    pub counts_gathered : (c : Command) → map_op (b.calls + 1) c ≡ op ∷ [] → CountsCommand c s m b d
    counts_gathered c ops =
        let stays = stands_lent s m b (gathered_in b) lent (stands_is s b i) in
        let none : CountsPushes 0 m m v (trunk_of d) = subst (λ (x : Trunk). CountsPushes 0 m m v x) (sym trunk)
        (counts_none m v lent.sound stays.is) in
        counts_command c op 0 s m m b d i ops none (moves_lent s m v lent i.is) lent.touches.told lent.touches.shape
        (omega arith) (omega (arith, i.entries)) calls syncs joins (λ e. absurd (true≢false (sym early ∙ e)))

  -- It enters the tree with the load.
  module _ (t : RigState) (left : ℕ) (left_is : left ≡ left_of (gathered_in b ++ op ∷ [])) (some : left ≤ length (gathered_in b) + 1)
      (counts : CountsPushes left m t (trunk_of b) (trunk_of d)) where
    pub counts_entered : (c : Command) → map_op (b.calls + 1) c ≡ op ∷ [] → CountsCommand c s t b d
    counts_entered c ops = counts_command c op left s m t b d i ops counts (moves_lent s m v lent i.is)
        lent.touches.told lent.touches.shape (omega (arith, left_is)) (omega (arith, some, i.entries)) calls syncs joins
        (λ e. absurd (true≢false (sym early ∙ e)))

    module _ (e : EntersTree (rule_of b) (b.calls + 1) (gathered_in b ++ op ∷ []) m t (trunk_of b) (trunk_of d))
        (pushed : (trunk_of d).pushed ≡ (trunk_of b).pushed + left) (none : load.items ≡ [])
        (capacity : load.capacity ≡ load_of s.pool.shape) (full : load_of s.pool.shape ≤ length (gathered_in b) + 1)
        (room : 0 < load_of s.pool.shape) where
      -- the batch with the number counted
      abbrev counted : Batch F
      counted = record b { calls = b.calls + 1 }

      no_ops : gathered_in d ≡ []
      no_ops = ap ops_in is_load ∙ none

      out : HasArea t load
      out = record {
        capacity = capacity ∙ sym (ap load_of (e.frames.shape ∙ lent.touches.shape));
        out = omega (arith, area.out, e.frames.free_areas);
      }

      entered_is : IsBatch t d
      entered_is =
          let one = length-append (gathered_in b) (op ∷ []) in
          let before : Stands m counted (gathered_in b ++ op ∷ []) =
          stands_next m b counted (gathered_in b) op refl refl refl few
          (stands_lent s m b (gathered_in b) lent (stands_is s b i)) in
          let is : Stands t d [] = stands_entered m t counted d (gathered_in b ++ op ∷ []) left before e counts pushed
          (omega (arith, one, some)) rule calls syncs in
          let nil : AreOps (entered_of d) [] = load_ops s (entered_of d) None tt in
          let zero : length load.items ≡ 0 = ap (λ (xs : List Record). length xs) none in
          let own : AreOps (entered_of d) load.items = subst (λ (xs : List Record). AreOps (entered_of d) xs) (sym none) nil in
          let load_is : IsLoad t (entered_of d) load =
          record { few = omega (arith, zero, capacity, room); ops = own.are; follow = own.follow } in
          batch_is t d (subst (λ (xs : List Record). Stands t d xs) (sym no_ops) is)
          (λ p. absurd (true≢false (sym (joins ∙ early) ∙ p))) (λ p. absurd (true≢false (sym (joins ∙ early) ∙ p)))
          (subst (λ (l : Option GatherState). IfSome l (HasArea t)) (sym is_load) out)
          (subst (λ (l : Option GatherState). IfSome l (IsLoad t (entered_of d))) (sym is_load) load_is)

      pub takes_entered : (c : Command) → map_op (b.calls + 1) c ≡ op ∷ [] → TakesCommand c s t b d
      takes_entered c ops = record {
        is = entered_is;
        session = session_trans (session_lent s m v lent i.is) e.session;
        frames = subst (λ (n : ℕ). SharesAreas (areas_of b) n s.pool t.pool) (sym one_area)
            (shares_then (areas_of b) 1 1 s.pool m.pool t.pool frames (shares_same 1 m.pool t.pool e.frames));
        areas = λ p. one_area;
        tree = λ p. absurd (true≢false (sym early ∙ p));
        pays = pays_then (pays_lent s m v lent i.is (batch_unstored b)) e.pays e.session.touches.moves;
        loses = λ told.
            let held = blocks_lent s m v lent i.is told in
            let used = used_lent s m v lent i.is in
            let lost = e.loses (lent.touches.told ∙ told) in
            omega (arith, held, used, lost);
        commands = λ before cs h. has_entered s t b d rule joins (e.session.touches.shape ∙ lent.touches.shape) c op ops calls
            syncs before cs h m v (b.calls + 1) (tree_lent s m v lent i.is (rule_of b) before h.closed h.tree) e
            (omega (arith, pushed, counts.adopted, left_is)) counts.adopted no_ops (λ p. full);
      }

    -- The tree gave up.
    pub stops_entered : (fault : EmFault) → StopsTrunk m t (trunk_of b) (trunk_of d) fault
        → load.capacity ≡ load_of s.pool.shape → StopsBatch s t b d fault
    stops_entered fault p capacity =
        let session = session_lent s m v lent i.is in
        let out : HasArea t load = record {
          capacity = capacity ∙ sym (ap load_of (p.goes.frames.shape ∙ lent.touches.shape));
          out = omega (arith, area.out, p.goes.frames.free_areas);
        } in
        record {
          goes = subst (λ (n : ℕ). KeepsAreas (areas_of b) n (batch_blocks s b) s t) (sym one_area)
              (goes_on_within (areas_of b) 1 1 (batch_blocks s b) (trunk_blocks m v) s m t
              (record { sound = session.sound; touches = session.touches; frames = frames }) session.within
              (record { sound = p.goes.sound; touches = p.goes.touches; frames = shares_same 1 m.pool t.pool p.goes.frames }));
          frames = record {
            tree = p.frames;
            area = subst (λ (l : Option GatherState). IfSome l (HasArea t)) (sym is_load) out;
          };
          pays = pays_then (pays_lent s m v lent i.is (batch_unstored b))
              (subst (λ (n : ℕ). Pays (trunk_unstored v) n m t) (ap (λ (q : ShapeNumbers). q.frames) lent.touches.shape)
              p.pays) p.goes.touches.moves;
          cause = cause_after (batch_blocks s b) s m t fault session.touches p.cause;
        }
