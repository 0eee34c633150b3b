-- A map over a tree that a builder made: what the calls of its batch leave, with the builder's moves as its own.
use Rattle.std.proofs.Common.{◌≡◌, ℕ, ◌+◌, ◌*◌, ◌≤◌, List, [], ◌++◌, length, ap, sym, ◌∙◌, subst, refl, arith, Option, Some, Result, Ok, Err, IfOk, OnOk}
use Rattle.em_record.specs.Shape.{ShapeNumbers}
use Rattle.em_model.specs.Base.{puts_of}
use Rattle.em_model.specs.declared.command.Command.{Command}
use Rattle.em_settle.specs.declared.add.AddSettle.{AddSettle}
use Rattle.em_space.specs.Rig.{RigState}
use Rattle.em_space.specs.declared.fault.EmFault.{EmFault}
use Rattle.em_chain.specs.declared.chain.Chain.{Chain}
use Rattle.em_bulk_plan.specs.Moves.{builder_share}
use Rattle.em_tree_cost.specs.Books.{TreeCounts}
use Rattle.em_tree.specs.declared.tree.Tree.{Tree}
use Rattle.em_map.specs.Batch.{HasCommands, entries_of, trunk_of}
use Rattle.em_map.specs.Over.{BeginsOver, IsTreeOf, over_batch}
use Rattle.em_map.specs.declared.batch.Batch.{Batch}
use Rattle.em_services.specs.BatchLaws.{n_is}
use Rattle.em_services.specs.BatchService.{IsGivenBatch, answers_share, batch_counts, map_share, map_size}
use Rattle.em_services.specs.LoadLaws.{BeginsLoad, IsLoaded, builder_rises, load_counts, load_share, with_moves}
use Rattle.em_services.specs.Service.{GivesAtSync, LeavesAnswers, MakesService, ServiceCounts, TakesCommand, WithinAllowance}
use Rattle.em_services.specs.declared.load_service.Load.{Load}
use Rattle.em_services.proofs.Areas.{within_equal}
use Rattle.em_services.proofs.DumpAnswers.{plain_size}

-- Moves beside those of a call: as often as there were syncs and once more they are allowed twice.
beside_moves : (y a b built spent moves first : ℕ) → built ≤ b → spent + moves ≤ first + (y + 1) * a
    → built + spent + moves ≤ first + (y + 1) * (a + b)
beside_moves y a b built spent moves first few h = omega (arith, few, h)

beside_spent : (y a b built spent : ℕ) → built ≤ b → spent ≤ (y + 1) * a → built + spent ≤ (y + 1) * (a + b)
beside_spent y a b built spent few h = omega (arith, few, h)

less_moves : (y a b spent moves first : ℕ) → spent + moves ≤ first + (y + 1) * a → spent + moves ≤ first + (y + 1) * (a + b)
less_moves y a b spent moves first h = omega (arith, h)

-- What a map is allowed a load is allowed too.
pub within_load : (size syncs : ℕ) (spent : ShapeNumbers → ℕ) (s t : RigState)
    → WithinAllowance (Some map_share) size syncs spent s t → WithinAllowance (Some load_share) size syncs spent s t
within_load size syncs spent s t h = λ told.
    less_moves syncs (map_share s.pool.shape size) (builder_share s.pool.shape size) (spent s.pool.shape) t.moves s.moves
    (h told)

-- The builder's moves are within those of a builder of as many pairs as there are commands,
module _ {F : Type 0} (s : RigState) (v : Load F) (l : IsLoaded s v) (before cs all : List Command)
    (h : HasCommands s v.batch before cs) (few : length (before ++ cs) ≤ length all) where
  built_few : v.built ≤ builder_share s.pool.shape (length all)
  built_few =
      let calls = n_is v.batch s before cs h in
      let base = h.base in
      let built = l.built in
      let rises = builder_rises s.pool.shape (trunk_of v.batch).adopted (length all) (omega (arith, calls, base, few)) in
      omega (arith, built, rises)

  -- so that they are allowed beside the moves of a call,
  pub load_moves : (syncs : ℕ) (t : RigState)
      → WithinAllowance (Some map_share) (map_size v.batch.early s.pool.shape all) syncs (batch_counts v.batch).spent s t
      → WithinAllowance (Some load_share) (length all) syncs (load_counts v).spent s t
  load_moves syncs t within = λ told.
      beside_moves syncs (map_share s.pool.shape (length all)) (builder_share s.pool.shape (length all)) v.built
      ((batch_counts v.batch).spent s.pool.shape) t.moves s.moves built_few
      (within_equal (Some map_share) _ _ syncs (batch_counts v.batch).spent s t
      (plain_size v.batch s.pool.shape all l.plain) within told)

  -- and beside those of all calls after one.
  pub load_spent : (syncs spent : ℕ)
      → spent ≤ (syncs + 1) * map_share s.pool.shape (map_size v.batch.early s.pool.shape all)
      → v.built + spent ≤ (syncs + 1) * load_share s.pool.shape (length all)
  load_spent syncs spent within =
      beside_spent syncs (map_share s.pool.shape (length all)) (builder_share s.pool.shape (length all)) v.built spent
      built_few
      (subst (λ (n : ℕ). spent ≤ (syncs + 1) * map_share s.pool.shape n)
      (plain_size v.batch s.pool.shape all l.plain) within)

-- With the builder's moves a service was made,
module _ (room : Option (ShapeNumbers → ℕ → ℕ)) (built : ℕ) (held now : List ℕ) (c d : ServiceCounts) (s t : RigState) where
  pub load_made : (frames : ℕ) → built ≡ 0 → MakesService (Some map_share) room frames held c s t
      → MakesService (Some load_share) room frames held (with_moves built c) s t
  load_made frames none h = record {
    sound = h.sound;
    touches = h.touches;
    frames_are = h.frames_are;
    within = h.within;
    n = h.n;
    syncs = h.syncs;
    pays = h.pays;
    used = h.used;
    spent = let spent = h.spent in omega (arith, none, spent);
  }

  -- took a command,
  pub load_takes : {T : Type 0} (result : Result T EmFault) (one : ℕ)
      → OnOk result (TakesCommand (Some map_share) room one held now c d s t)
      → OnOk result (TakesCommand (Some load_share) room one held now (with_moves built c) (with_moves built d) s t)
  load_takes (Ok x) one h = record {
    within = h.within;
    n = h.n;
    syncs = h.syncs;
    pays = h.pays;
    used = h.used;
    spent = λ some. let spent = h.spent some in omega (arith, spent);
  }
  load_takes (Err fault) one h = tt

  -- gave its answers at a sync,
  pub load_gives : (result : Result Chain EmFault)
      → IfOk result (GivesAtSync (Some map_share) room held now c d s t)
      → IfOk result (GivesAtSync (Some load_share) room held now (with_moves built c) (with_moves built d) s t)
  load_gives (Ok x) h = record {
    is = h.is;
    packed = h.packed;
    session = h.session;
    n = h.n;
    syncs = h.syncs;
    pays = h.pays;
    used = h.used;
    spent = λ told. let spent = h.spent told in omega (arith, spent);
  }
  load_gives (Err fault) h = tt

  -- and at its end.
  pub load_leaves : (result : Result Chain EmFault) → IfOk result (LeavesAnswers room held c s t)
      → IfOk result (LeavesAnswers room held (with_moves built c) s t)
  load_leaves (Ok x) h = record { is = h.is; packed = h.packed; within = h.within; pays = h.pays; used = h.used }
  load_leaves (Err fault) h = tt

-- A batch that begins over a tree has made no moves yet.
none_spent : (built spent syncs x : ℕ) → spent ≡ 0 → syncs ≡ 0 → built + (spent + syncs + syncs * x) ≡ built
none_spent built spent syncs x one two = rw two (omega (arith, one))

-- So a load begins over it.
module _ {F : Type 0} (s : RigState) (tree : Tree (AddSettle F)) (n built : ℕ) (ps : List (ℕ × ℕ)) (h : IsTreeOf s tree.trunk ps) where
  adopted : tree.trunk.adopted ≡ length ps
  adopted = ap (λ (c : TreeCounts). c.adopted) h.counts

  begins_over : n ≡ tree.trunk.adopted → BeginsOver s (over_batch tree n) ps
      → BeginsLoad s tree built ps (record { batch = over_batch tree n; built = built })
  begins_over count b = record {
    has = b.has;
    n = omega (arith, count, adopted);
    syncs = refl;
    spent = λ shape.
        let none : tree.trunk.spent ≡ 0 = ap (λ (c : TreeCounts). c.spent) h.counts in
        none_spent built tree.trunk.spent 0 (answers_share shape (entries_of (over_batch tree n) + 0)) none refl;
    unstored = refl;
    none_out = refl;
    blocks = refl;
    joins = refl;
    bounds = omega (arith, adopted);
  }

  module _ (r : Batch F) (e : r ≡ over_batch tree n) (b : BeginsOver s r ps) where
    pub begins_given : IsGivenBatch s r
    begins_given = record { is = b.is; before = []; since = puts_of ps; has = b.has }

    pub begins_loaded : built ≤ builder_share s.pool.shape (length ps) → IsLoaded s (record { batch = r; built = built })
    begins_loaded few = record {
      plain = ap (λ (x : Batch F). x.early) e;
      built = subst (λ (k : ℕ). built ≤ builder_share s.pool.shape k)
          (sym (ap (λ (x : Batch F). (trunk_of x).adopted) e ∙ adopted)) few;
    }

    pub begins_load : n ≡ tree.trunk.adopted → BeginsLoad s tree built ps (record { batch = r; built = built })
    begins_load count =
        subst (λ (x : Batch F). BeginsLoad s tree built ps (record { batch = x; built = built })) (sym e)
        (begins_over count (subst (λ (x : Batch F). BeginsOver s x ps) e b))
