-- What closing the load of a batch did, by the result of its operations' entering.
use Rattle.std.specs.Prelude.{◌≡◌, true, false, ℕ, ◌+◌, ◌-◌, ◌<◌, ◌≤◌, List, [], length, IsTrue, Option, None, Some, IfSome, IfErr, Result, Ok, Err}
use Rattle.std.proofs.Common.{sym, ap, subst, refl, ◌∙◌, arith, ⊎_elim}
use Rattle.std.proofs.lemmas.Bool.{cases_Bool}
use Rattle.em_record.specs.Shape.{ShapeNumbers}
use Rattle.em_record.specs.declared.record.Record.{Record}
use Rattle.em_frames.specs.Pool.{given_area, load_of, singles_of}
use Rattle.em_space.specs.Rig.{Goes, RigState, Sound, Touches}
use Rattle.em_space.specs.declared.fault.EmFault.{EmFault}
use Rattle.em_space.proofs.Steps.{goes_nothing}
use Rattle.em_trunk.specs.Trunk.{TrunkHasFrames}
use Rattle.em_combine.specs.Gather.{GatherState}
use Rattle.em_map.specs.Batch.{BatchOver, BatchWithin, HasArea, IsBatch, batch_blocks, entered_of, entries_of, gathered_in, ops_in, rule_of, trunk_of}
use Rattle.em_map.specs.Early.{left_of}
use Rattle.em_map.specs.Gathering.{CanEnter, ClosesBatch, CountsClose, EntersBatch}
use Rattle.em_map.specs.Loading.{CountsPushes, LoadOver, LoadWithin, answers_in}
use Rattle.em_map.specs.declared.batch.Batch.{Batch}
use Rattle.em_map.proofs.Closes.{closed_some, counts_close, stops_closing}
use Rattle.em_map.proofs.Early.{left_few}
use Rattle.em_map.proofs.Gathers.{AreOps, can_enter, load_ops}
use Rattle.em_map.proofs.Lent.{MovesPool}
use Rattle.em_map.proofs.Rooms.{load_over, load_within}
use Rattle.em_map.proofs.Stands.{Stands, stands_is}

-- what entering changed, by the result
pub entered_goes : {F : Type 0} {T : Type 0} (ops : List Record) (s t : RigState) (b d : Batch F) (r : Result T EmFault)
    → EntersBatch ops s t b d r → Goes (batch_blocks s b) s t
entered_goes ops s t b d (Ok x) e = record {
  sound = e.enters.session.sound;
  touches = e.enters.session.touches;
  frames = e.enters.frames;
}
entered_goes ops s t b d (Err fault) p = p.goes

-- only a batch that joins adds early has a load
pub joins_early : {F : Type 0} (s : RigState) (b : Batch F) (load : GatherState) → IsBatch s b → Some load ≡ b.load
    → b.early ≡ true
joins_early s b load i e = ⊎_elim (λ (t : b.early ≡ true). t)
    (λ (f : b.early ≡ false). absurd (let none : Some load ≡ None = e ∙ i.plain f in cc)) (cases_Bool b.early)

-- the same state
pub pool_still : (s : RigState) → Sound s → MovesPool s s
pool_still s sound = record { sound = sound; touches = (goes_nothing s sound).touches; free = refl; same = refl }

-- A batch that holds a load.
module _ {F : Type 0} (s : RigState) (b : Batch F) (load : GatherState) (sound : Sound s) (i : IsBatch s b)
    (was : Some load ≡ b.load) where
  pub items : gathered_in b ≡ load.items
  items = ap ops_in (sym was)

  pub own_area : HasArea s load
  own_area = subst (λ (l : Option GatherState). IfSome l (HasArea s)) (sym was) i.area

  pub can_close : (dest : Option GatherState) → CanEnter s (record b { load = dest }) load.items
  can_close dest =
      let is : Stands s b load.items = subst (λ (xs : List Record). Stands s b xs) items (stands_is s b i) in
      let n : b.calls - length (gathered_in b) ≡ b.calls - length load.items =
      ap (λ (xs : List Record). b.calls - length xs) items in
      let old : AreOps (entered_of b) load.items = subst (λ (xs : List Record). AreOps (entered_of b) xs) items
      (load_ops s (entered_of b) b.load i.load) in
      let ops : AreOps (b.calls - length load.items) load.items = subst (λ (k : ℕ). AreOps k load.items) n old in
      can_enter s (record b { load = dest }) load.items (record {
        is = is.is;
        entries = is.entries;
        longest = is.longest;
        few = is.few;
        few_adopted = is.few_adopted;
        settled = is.settled;
        unreset = is.unreset;
        uncounted = is.uncounted;
        waits = is.waits;
        answers = is.answers;
      }) ops

  -- its area fits the pool, after a call that lends none
  pub area_len : (m : RigState) (n : ℕ) → Goes (batch_blocks s b) s m → n ≡ load.capacity → n ≡ load_of m.pool.shape
  area_len m n goes e = e ∙ own_area.capacity ∙ ap load_of (sym goes.frames.shape)

  pub area_out : (m : RigState) → Goes (batch_blocks s b) s m → m.pool.free_areas < 2
  area_out m goes = let out = own_area.out in let same = goes.frames.free_areas in omega (arith, out, same)

  -- its operations entered the tree, or it gave up
  module _ (m t : RigState) (d : Batch F) (dest : Option GatherState) {T : Type 0} (r : Result T EmFault)
      (enters : EntersBatch load.items s m (record b { load = dest }) d r)
      (sound_t : Sound t) (touches : Touches [] m t) (given : t ≡ record m { pool = given_area m.pool }) where
    pool : t.pool ≡ given_area m.pool
    pool = ap (λ (x : RigState). x.pool) given

    back : MovesPool m t
    back = record {
      sound = sound_t;
      touches = touches;
      free = ap (λ (p : _). p.free) pool;
      same = given ∙ ap (λ (p : _). record m { pool = p }) (sym pool);
    }

    frames_back : TrunkHasFrames m (trunk_of d) → TrunkHasFrames t (trunk_of d)
    frames_back f = record {
      buffer = f.buffer ∙ sym (ap (λ (p : ShapeNumbers). p.block) touches.shape);
      answers = f.answers ∙ sym (ap (λ (p : ShapeNumbers). p.block) touches.shape);
      out = let singles = ap singles_of touches.shape in let free = ap (λ (p : _). p.free) pool in
          omega (arith, f.out, singles, free);
    }

    module _ (rest : d ≡ record b { tree = d.tree; load = dest }) (after : dest ≡ None)
        (rule : d.tree.settle ≡ b.tree.settle)
        (counts : CountsPushes (left_of load.items) s m (trunk_of b) (trunk_of d)) where
      calls : d.calls ≡ b.calls
      calls = ap (λ (x : Batch F). x.calls) rest

      syncs : d.syncs ≡ b.syncs
      syncs = ap (λ (x : Batch F). x.syncs) rest

      no_load : d.load ≡ None
      no_load = ap (λ (x : Batch F). x.load) rest ∙ after

      pub counts_to : CountsClose s t b d
      counts_to =
          let left : left_of (gathered_in b) ≡ left_of load.items = ap left_of items in
          let long = ap (λ (xs : List Record). length xs) items in
          let few = left_few load.items in
          counts_close (left_of load.items) s m t b d i counts (ap (λ (x : RigState). x.moves) given)
          (omega (arith, left)) (omega (arith, few, long)) calls syncs (ap (λ (x : Batch F). x.early) rest)

      by : (r : Result T EmFault) → EntersBatch load.items s m (record b { load = dest }) d r → ClosesBatch s t b d r
      by (Ok x) e = closed_some s m t b d load sound i was back (ap (λ (p : _). p.free_areas) pool)
          (ap (λ (p : _). p.rack_out) pool) (let peak = ap (λ (p : _). p.peak) pool in omega (arith, peak)) no_load calls syncs
          (ap (λ (x : Batch F). x.early) rest)
          rule e.enters counts e.pushed (left_few load.items) e.idle
      by (Err fault) p = (
        no_load,
        stops_closing s m t b d load sound i was back (ap (λ (p : _). p.free_areas) pool)
            (ap (λ (p : _). p.rack_out) pool) (let peak = ap (λ (p : _). p.peak) pool in omega (arith, peak)) no_load calls syncs
            (ap (λ (x : Batch F). x.early) rest)
            rule fault p (frames_back p.frames),
      )

      pub closes_to : ClosesBatch s t b d r
      closes_to = by r enters

    pub some_to : IfErr r (λ fault. 0 < length load.items) → IfErr r (λ fault. 0 < length (gathered_in b))
    some_to h = subst (λ (xs : List Record). IfErr r (λ fault. 0 < length xs)) (sym items) h

    abbrev k : ℕ
    k = entries_of b + length load.items

    abbrev g : ℕ
    g = answers_in (rule_of b) s (trunk_of b) + length load.items

    k_few : k ≤ b.calls
    k_few = let long = ap (λ (xs : List Record). length xs) items in omega (arith, long, i.entries)

    g_few : g ≤ answers_in (rule_of b) s (trunk_of b) + (b.calls - entered_of b)
    g_few =
        let long = ap (λ (xs : List Record). length xs) items in
        omega (arith, long, i.entries)

    pub room_closed : (IsTrue s.device.told → LoadWithin k g s m (trunk_of b)) → IsTrue s.device.told
        → BatchWithin b.calls s t b
    room_closed h told =
        let w = load_within s s b (trunk_of b) refl (pool_still s sound) i.is sound k g b.calls (joins_early s b load i was)
        k_few g_few m told (h told) in
        let most : t.most ≡ m.most = ap (λ (x : RigState). x.most) given in
        record { most = let a = w.most in omega (arith, a, most) }

    over_by : (r : Result T EmFault) → IfErr r (λ fault. IsTrue s.device.told → LoadOver k g s (trunk_of b) fault)
        → IfErr r (λ fault. IsTrue s.device.told → BatchOver b.calls s b fault)
    over_by (Ok x) h = tt
    over_by (Err fault) h = λ told. load_over s s b (trunk_of b) refl (pool_still s sound) i.is sound k g b.calls
        (joins_early s b load i was) k_few g_few {T = T} (Err fault) h told

    pub over_closed : IfErr r (λ fault. IsTrue s.device.told → LoadOver k g s (trunk_of b) fault)
        → IfErr r (λ fault. IsTrue s.device.told → BatchOver b.calls s b fault)
    over_closed h = over_by r h
