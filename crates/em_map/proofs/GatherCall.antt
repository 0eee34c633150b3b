-- The call that gathers an operation: the load is taken out, gets it, and is put back, after it entered the tree if it was full.
use Rattle.std.specs.Prelude.{◌≡◌, Bool, true, ℕ, ◌+◌, ◌-◌, ◌<◌, ◌≤◌, ◌^◌, List, [], ◌∷◌, ◌++◌, length, IsTrue, Some, IfErr, OnOk, Result, Ok, Err}
use Rattle.std.proofs.Common.{sym, ap, subst, refl, ◌∙◌, arith}
use Rattle.std.proofs.lemmas.List.{length-append}
use Rattle.em_record.specs.declared.record.Record.{Record}
use Rattle.em_model.specs.declared.command.Command.{Command}
use Rattle.em_settle.specs.Add.{IsAddOp, apply_of}
use Rattle.em_frames.specs.Pool.{load_of}
use Rattle.em_space.specs.Rig.{IfFull, RigState, Sound}
use Rattle.em_space.specs.declared.fault.EmFault.{EmFault}
use Rattle.em_space.specs.declared.fault.EmFault.TheVariants.{DeviceFault, Full, Damaged}
use Rattle.em_tree.specs.Calls.{StopsTrunk}
use Rattle.em_trunk.specs.declared.trunk.Trunk.{Trunk}
use Rattle.em_combine.specs.Gather.{GatherState}
use Rattle.em_combine.specs.Joining.{IsAfter}
use Rattle.em_map.specs.Batch.{BatchOver, BatchWithin, CommandNeedsMore, CountsCommand, FollowFrom, HasArea, IsBatch, TakesCommand, TakesTo, entered_of, entries_of, gathered_in, rule_of, trunk_of}
use Rattle.em_map.specs.Commands.{map_op}
use Rattle.em_map.specs.Early.{left_of}
use Rattle.em_map.specs.Gathering.{CanEnter, EntersBatch, TakesLoad}
use Rattle.em_map.specs.Loading.{CountsPushes, EntersTree, LoadOver, LoadWithin, answers_in}
use Rattle.em_map.specs.declared.batch.Batch.{Batch}
use Rattle.em_map.proofs.Early.{left_few}
use Rattle.em_map.proofs.Gathered.{all_ops, counts_entered, counts_gathered, stops_entered, takes_entered, takes_gathered}
use Rattle.em_map.proofs.Gathers.{AreOps, can_enter, load_ops, load_some, pool_moved}
use Rattle.em_map.proofs.Lent.{MovesPool, stands_lent, trunk_lent}
use Rattle.em_map.proofs.Rooms.{load_over, load_within}
use Rattle.em_map.proofs.Stands.{Stands, stands_is, stands_next, answers_alike}

-- numbers that follow up to one are below those after it
is_after : (n k : ℕ) (xs : List Record) → FollowFrom n xs → n + length xs < k → IsAfter xs k
is_after n k [] f h = tt
is_after n k (x ∷ xs) f h = (omega (arith, f.0, h), is_after (n + 1) k xs f.1 (omega (arith, h)))

-- a fact holds where a call was full
pub if_full : (P : Type 0) (fault : EmFault) → P → IfFull fault (λ _. P)
if_full P DeviceFault p = tt
if_full P (Full used) p = p
if_full P (Damaged block) p = tt

if_err : {T : Type 0} (P : Type 0) (r : Result T EmFault) → P → IfErr r (λ fault. IfFull fault (λ _. P))
if_err P (Ok x) p = tt
if_err P (Err fault) p = if_full P fault p

module _ {F : Type 0} (s m : RigState) (b x : Batch F) (first : GatherState) (sound : Sound s) (i : IsBatch s b)
    (takes : TakesLoad s m b x first) where
  -- the next operation's number is above those of the load
  pub later : IsAfter first.items (x.calls + 1)
  later =
      let ops = load_ops s (entered_of b) b.load i.load in
      let calls : x.calls ≡ b.calls = ap (λ (d : Batch F). d.calls) takes.is in
      subst (λ (xs : List Record). IsAfter xs (x.calls + 1)) (sym takes.items)
      (is_after (entered_of b) (x.calls + 1) (gathered_in b) ops.follow (omega (arith, calls, i.entries)))

  module _ (op : Record) (early : b.early ≡ true) (few : b.calls < 2 ^ 40 + (trunk_of b).adopted) (is_op : IsAddOp op)
      (number : op.b ≡ b.calls + 1) (load : GatherState)
      (pushed : load ≡ record first { items = first.items ++ op ∷ [] }) where
    -- the batch with the number counted
    abbrev counted : Batch F
    counted = record x { calls = x.calls + 1 }

    lent : MovesPool s m
    lent = pool_moved takes

    tree_is : x.tree ≡ b.tree
    tree_is = ap (λ (d : Batch F). d.tree) takes.is

    calls_are : x.calls + 1 ≡ b.calls + 1
    calls_are = ap (λ (d : Batch F). d.calls + 1) takes.is

    syncs_are : x.syncs ≡ b.syncs
    syncs_are = ap (λ (d : Batch F). d.syncs) takes.is

    early_is : x.early ≡ b.early
    early_is = ap (λ (d : Batch F). d.early) takes.is

    pub items_are : load.items ≡ gathered_in b ++ op ∷ []
    items_are = ap (λ (l : GatherState). l.items) pushed ∙ ap (λ (xs : List Record). xs ++ op ∷ []) takes.items

    longer : length load.items ≡ length (gathered_in b) + 1
    longer = ap (λ (xs : List Record). length xs) items_are ∙ length-append (gathered_in b) (op ∷ [])

    area_is : HasArea m load
    area_is = record {
      capacity = ap (λ (l : GatherState). l.capacity) pushed ∙ takes.area.capacity;
      out = takes.area.out;
    }

    -- It isn't full.
    module _ (t : RigState) (d : Batch F) (puts : d ≡ record counted { load = Some load }) (same : t ≡ m)
        (less : length load.items < load.capacity) (c : Command) (ops : map_op (b.calls + 1) c ≡ op ∷ []) where
      settle_is : d.tree.settle ≡ b.tree.settle
      settle_is = ap (λ (z : Batch F). z.tree.settle) puts ∙ ap (λ (z : _). z.settle) tree_is

      pub mid_takes : TakesCommand c s t b d
      mid_takes = subst (λ (z : RigState). TakesCommand c s z b d) (sym same)
          (takes_gathered s m b d load op sound i early few lent takes.frames area_is is_op number
          (ap (λ (z : Batch F). z.calls) puts ∙ calls_are) (ap (λ (z : Batch F). z.syncs) puts ∙ syncs_are)
          (ap (λ (z : Batch F). z.early) puts ∙ early_is) settle_is (ap (λ (z : Batch F). z.load) puts)
          (ap (λ (z : Batch F). z.tree) puts ∙ tree_is) items_are less c ops)

      pub mid_counts : CountsCommand c s t b d
      mid_counts = subst (λ (z : RigState). CountsCommand c s z b d) (sym same)
          (counts_gathered s m b d load op sound i early few lent takes.frames area_is is_op number
          (ap (λ (z : Batch F). z.calls) puts ∙ calls_are) (ap (λ (z : Batch F). z.syncs) puts ∙ syncs_are)
          (ap (λ (z : Batch F). z.early) puts ∙ early_is) settle_is (ap (λ (z : Batch F). z.load) puts)
          (ap (λ (z : Batch F). z.tree) puts ∙ tree_is) items_are less c ops)

    -- Its operations can enter the tree.
    pub can_gather : CanEnter m counted load.items
    can_gather =
        let stands : Stands m counted (gathered_in b ++ op ∷ []) =
        stands_next m b counted (gathered_in b) op tree_is calls_are syncs_are few
        (stands_lent s m b (gathered_in b) lent (stands_is s b i)) in
        let all = all_ops s m b (record counted { load = Some load }) load op sound i early few lent takes.frames area_is is_op
        number calls_are syncs_are early_is (ap (λ (z : _). z.settle) tree_is) refl in
        let n : entered_of b ≡ counted.calls - length load.items = omega (arith, calls_are, longer, i.entries) in
        can_enter m counted load.items (subst (λ (xs : List Record). Stands m counted xs) (sym items_are) stands)
        (subst (λ (k : ℕ). AreOps k load.items) n
        (subst (λ (xs : List Record). AreOps (entered_of b) xs) (sym items_are) all))

    -- It is full: they enter, and it is put back.
    module _ (t u : RigState) (y d : Batch F) (last : GatherState) {T : Type 0} (r : Result T EmFault)
        (enters : EntersBatch load.items m t counted y r) (rest : y ≡ record counted { tree = y.tree })
        (rule : y.tree.settle ≡ counted.tree.settle) (capacity : last.capacity ≡ load.capacity)
        (counts : CountsPushes (left_of load.items) m t (trunk_of counted) (trunk_of y))
        (puts : d ≡ record y { load = Some last }) (same : u ≡ t) (full : load.capacity ≤ length load.items) where
      trunk_is : trunk_of d ≡ trunk_of y
      trunk_is = ap (λ (z : Batch F). z.tree.trunk) puts

      d_calls : d.calls ≡ b.calls + 1
      d_calls = ap (λ (z : Batch F). z.calls) puts ∙ ap (λ (z : Batch F). z.calls) rest ∙ calls_are

      d_syncs : d.syncs ≡ b.syncs
      d_syncs = ap (λ (z : Batch F). z.syncs) puts ∙ ap (λ (z : Batch F). z.syncs) rest ∙ syncs_are

      d_early : d.early ≡ b.early
      d_early = ap (λ (z : Batch F). z.early) puts ∙ ap (λ (z : Batch F). z.early) rest ∙ early_is

      d_rule : d.tree.settle ≡ b.tree.settle
      d_rule = ap (λ (z : Batch F). z.tree.settle) puts ∙ rule ∙ ap (λ (z : _). z.settle) tree_is

      d_load : d.load ≡ Some last
      d_load = ap (λ (z : Batch F). z.load) puts

      last_area : HasArea m last
      last_area = record { capacity = capacity ∙ area_is.capacity; out = area_is.out }

      left : ℕ
      left = left_of load.items

      left_is : left_of load.items ≡ left_of (gathered_in b ++ op ∷ [])
      left_is = ap left_of items_are

      some : left_of load.items ≤ length (gathered_in b) + 1
      some = let l = left_few load.items in let n = longer in omega (arith, l, n)

      counts_b : CountsPushes (left_of load.items) m t (trunk_of b) (trunk_of d)
      counts_b = subst (λ (w : Trunk). CountsPushes (left_of load.items) m t (trunk_of b) w) (sym trunk_is)
          (subst (λ (z : _). CountsPushes (left_of load.items) m t z.trunk (trunk_of y)) tree_is counts)

      load_is : load.capacity ≡ load_of s.pool.shape
      load_is = area_is.capacity ∙ ap load_of lent.touches.shape

      last_is : last.capacity ≡ load_of s.pool.shape
      last_is = capacity ∙ load_is

      full_is : load_of s.pool.shape ≤ length (gathered_in b) + 1
      full_is = let n = longer in omega (arith, load_is, n, full)

      pub full_counts : (c : Command) → map_op (b.calls + 1) c ≡ op ∷ [] → CountsCommand c s u b d
      full_counts c ops = subst (λ (z : RigState). CountsCommand c s z b d) (sym same)
          (counts_entered s m b d last op sound i early few lent takes.frames last_area is_op number d_calls d_syncs d_early
          d_rule d_load t (left_of load.items) left_is some counts_b c ops)

      takes_by : (r : Result T EmFault) → EntersBatch load.items m t counted y r → OnOk r (last.items ≡ [])
          → (c : Command) → map_op (b.calls + 1) c ≡ op ∷ [] → TakesTo c s t b d r
      takes_by (Ok z) e empty c ops =
          let E : List Record → ℕ → Type 0 = λ xs n. EntersTree (rule_of b) n xs m t (trunk_of b) (trunk_of d) in
          let at_y : EntersTree (rule_of b) counted.calls load.items m t (trunk_of b) (trunk_of y) =
          subst (λ (q : _). EntersTree (apply_of q.settle.kind) counted.calls load.items m t q.trunk (trunk_of y)) tree_is
          e.enters in
          let at_d : EntersTree (rule_of b) counted.calls load.items m t (trunk_of b) (trunk_of d) =
          subst (λ (w : Trunk). EntersTree (rule_of b) counted.calls load.items m t (trunk_of b) w) (sym trunk_is) at_y in
          let whole : E (gathered_in b ++ op ∷ []) (b.calls + 1) =
          subst (λ (n : ℕ). E (gathered_in b ++ op ∷ []) n) calls_are
          (subst (λ (xs : List Record). E xs counted.calls) items_are at_d) in
          let more : (trunk_of d).pushed ≡ (trunk_of b).pushed + left_of load.items =
          ap (λ (w : Trunk). w.pushed) trunk_is ∙ e.pushed
          ∙ ap (λ (q : _). q.trunk.pushed + left_of load.items) tree_is in
          takes_entered s m b d last op sound i early few lent takes.frames last_area is_op number d_calls d_syncs d_early
          d_rule d_load t (left_of load.items) left_is some counts_b whole more empty last_is full_is
          (load_some s.pool.shape sound.shape) c ops
      takes_by (Err fault) p empty c ops =
          let at_y : StopsTrunk m t (trunk_of b) (trunk_of y) fault =
          subst (λ (q : _). StopsTrunk m t q.trunk (trunk_of y) fault) tree_is p in
          stops_entered s m b d last op sound i early few lent takes.frames last_area is_op number d_calls d_syncs d_early
          d_rule d_load t (left_of load.items) left_is some counts_b fault
          (subst (λ (w : Trunk). StopsTrunk m t (trunk_of b) w fault) (sym trunk_is) at_y) last_is

      pub full_takes : OnOk r (last.items ≡ []) → (c : Command) → map_op (b.calls + 1) c ≡ op ∷ [] → TakesTo c s u b d r
      full_takes empty c ops = subst (λ (z : RigState). TakesTo c s z b d r) (sym same) (takes_by r enters empty c ops)

      pub full_needs : IfErr r (λ fault. IfFull fault (λ _. CommandNeedsMore b.early s (trunk_of b) (length (gathered_in b))))
      full_needs =
          let n = longer in
          let before = takes.few in
          let items = ap (λ (xs : List Record). length xs) takes.items in
          let same_capacity = ap (λ (l : GatherState). l.capacity) pushed in
          let exact : length (gathered_in b) + 1 ≡ load_of s.pool.shape =
          omega (arith, n, load_is, full, before, items, same_capacity) in
          if_err (CommandNeedsMore b.early s (trunk_of b) (length (gathered_in b))) r
          (subst (λ (z : Bool). CommandNeedsMore z s (trunk_of b) (length (gathered_in b))) (sym early) exact)

      abbrev k : ℕ
      k = entries_of b + length load.items

      abbrev g : ℕ
      g = answers_in (rule_of b) m (trunk_of b) + length load.items

      k_few : k ≤ b.calls + 1
      k_few = let n = longer in omega (arith, n, i.entries)

      g_few : IsTrue s.device.told → g ≤ answers_in (rule_of b) s (trunk_of b) + (b.calls + 1 - entered_of b)
      g_few told =
          let n = longer in
          let r = (trunk_lent s m (trunk_of b) lent i.is).reads told in
          let same = answers_alike (rule_of b) s m (trunk_of b) r.model r.given in
          omega (arith, n, same, i.entries)

      pub full_room : (IsTrue m.device.told → LoadWithin (entries_of counted + length load.items)
          (answers_in (rule_of counted) m (trunk_of counted) + length load.items) m t (trunk_of counted))
          → IsTrue s.device.told → BatchWithin (b.calls + 1) s u b
      full_room h told =
          let told_m : IsTrue m.device.told = lent.touches.told ∙ told in
          let w : LoadWithin k g m t (trunk_of b) = subst (λ (q : _). LoadWithin (q.trunk.pushed + q.trunk.adopted + length load.items)
          (answers_in (apply_of q.settle.kind) m q.trunk + length load.items) m t q.trunk) tree_is (h told_m) in
          subst (λ (z : RigState). BatchWithin (b.calls + 1) s z b) (sym same)
          (load_within s m b (trunk_of b) refl lent i.is sound k g (b.calls + 1) early k_few (g_few told) t told w)

      over_by : (r : Result T EmFault) → IfErr r (λ fault. IsTrue m.device.told → LoadOver k g m (trunk_of b) fault)
          → IfErr r (λ fault. IsTrue s.device.told → BatchOver (b.calls + 1) s b fault)
      over_by (Ok z) h = tt
      over_by (Err fault) h = λ told. load_over s m b (trunk_of b) refl lent i.is sound k g (b.calls + 1) early k_few
          (g_few told) {T = T} (Err fault) h told

      pub full_over : IfErr r (λ fault. IsTrue m.device.told → LoadOver (entries_of counted + length load.items)
          (answers_in (rule_of counted) m (trunk_of counted) + length load.items) m (trunk_of counted) fault)
          → IfErr r (λ fault. IsTrue s.device.told → BatchOver (b.calls + 1) s b fault)
      full_over h = over_by r (subst (λ (q : _). IfErr r (λ fault. IsTrue m.device.told
          → LoadOver (q.trunk.pushed + q.trunk.adopted + length load.items)
          (answers_in (apply_of q.settle.kind) m q.trunk + length load.items) m q.trunk fault)) tree_is h)

-- the operation that was pushed, by an equal number
pub as_pushed : (first load : GatherState) (key what value n m : ℕ) → n ≡ m
    → load ≡ record first { items = first.items ++ record { a = key; b = n + 1; c = what; d = value } ∷ [] }
    → load ≡ record first { items = first.items ++ record { a = key; b = m + 1; c = what; d = value } ∷ [] }
as_pushed first load key what value n m e h = subst (λ (k : ℕ). load
    ≡ record first { items = first.items ++ record { a = key; b = k + 1; c = what; d = value } ∷ [] }) e h
