-- Steps of a call that takes records out, with what it owes: as moves, or by the records of one leaf alone.
use Rattle.std.proofs.Common.{◌≡◌, ℕ, ◌+◌, ◌-◌, ◌*◌, ◌≤◌, refl, sym, ap, ◌∙◌, subst, arith, IsTrue, inl}
use Rattle.std.specs.Prelude.{Option}
use Rattle.em_record.specs.Shape.{ShapeNumbers, fan_of}
use Rattle.em_record.specs.declared.record.Record.{Record}
use Rattle.em_space.specs.Queue.{Pays}
use Rattle.em_space.specs.Rig.{RigState, Sound}
use Rattle.em_space.specs.declared.fault.EmFault.{EmFault}
use Rattle.em_space.proofs.Paying.{pays_then}
use Rattle.em_space.proofs.Steps.{cause_after, goes_trans}
use Rattle.em_settle.specs.declared.step.Step.{Step}
use Rattle.em_tree_cost.specs.Books.{InCall, TreeCounts, count_moves}
use Rattle.em_tree_cost.specs.Shares.{levels_of, tree_share}
use Rattle.em_tree_cost.specs.Sizes.{IsLevels}
use Rattle.em_tree_cost.proofs.InCall.{call_refused}
use Rattle.em_tree_cost.proofs.Paid.{levels_within}
use Rattle.em_trunk.specs.Events.{MayRefuse, step_allowance}
use Rattle.em_tree_visits.specs.FirstVisits.{IsSingle, OwesAt}
use Rattle.em_trunk.specs.Trunk.{sums_in, trunk_blocks, trunk_unstored}
use Rattle.em_tree_visits.specs.Visits.{StopsVisit, TakesSteps}
use Rattle.em_trunk.specs.Works.{StopsWorking, Works, CanWork, deepest, unstored_most}
use Rattle.em_trunk.specs.declared.trunk.Trunk.{Trunk}
use Rattle.em_trunk.proofs.Charges.{call_fewer, level_most}
use Rattle.em_trunk.proofs.StepWorks.{refused_either}
use Rattle.em_trunk.proofs.Steps.{adopted_few, steps_most}
use Rattle.em_tree_visits.proofs.VisitBooks.{StandsOwing, share_more, stage}
use Rattle.em_trunk.proofs.Works.{moves_then, numbers_then, works_then}
use Rattle.em_trunk.proofs.Waits.{waits_after}
use Rattle.em_trunk.proofs.Rooms.{hold_works, stops_then}

-- The levels that so many operations make are few enough for what is owed.
pub levels_fit : {key : Record → Record} {IsOp IsKept : Record → Type 0} {s : RigState} {v : Trunk}
    → CanWork key IsOp IsKept s v → IsLevels (deepest s v)
levels_fit {s = s} {v = v} can =
    let n = can.running.numbers in
    levels_within s.pool.shape v.longest can.sound.shape (omega (arith, n.longest_most, n.pushed_most))

-- A step, and one that owes by the numbers after it.
pub works_next : {key : Record → Record} {step : Option Record → Record → Step}
    {IsOp IsKept : Record → Type 0} (d e : ℕ) {n k : ℕ} {s t u : RigState} {v w x : Trunk}
    → Works key step IsOp IsKept 0 0 (s.pool.shape.block * d) n s t v w
    → Works key step IsOp IsKept 0 0 (t.pool.shape.block * e) k t u w x
    → Works key step IsOp IsKept 0 0 (s.pool.shape.block * (d + e)) (n + k) s u v x
works_next {key} {step} {IsOp} {IsKept} d e {n} {k} {s} {t} {u} {v} {w} {x} a b =
    let same : t.pool.shape.block * e ≡ s.pool.shape.block * e =
    ap (λ (h : ShapeNumbers). h.block * e) a.session.touches.shape in
    let sum : s.pool.shape.block * d + s.pool.shape.block * e ≡ s.pool.shape.block * (d + e) = omega arith in
    let D : ℕ → Type 0 = λ z. Works key step IsOp IsKept 0 0 z (n + k) s u v x in
    subst D (ap (λ (z : ℕ). s.pool.shape.block * d + z) same ∙ sum) (works_then a b)

-- A part gave up, with books that it would have had.
pub stops_unknown : {key : Record → Record} {IsOp IsKept : Record → Type 0} {s t : RigState} {v w : Trunk}
    {fault : EmFault} → CanWork key IsOp IsKept s v → (owed r d : ℕ)
    → StopsWorking 0 d (unstored_most s) s t v w fault
    → (IsTrue s.device.told → MayRefuse s.pool.shape v.longest r (owed + d) 0)
    → StopsVisit owed r s t v w fault
stops_unknown {s = s} {t = t} {v = v} can owed r d h may = record {
  goes = h.goes;
  frames = h.frames;
  numbers = h.numbers;
  pays = h.pays;
  cause = h.cause;
  needs = h.needs;
  share = λ told c handed same b.
      let m = t.moves - s.moves in
      let up = h.charges told in
      let start = call_fewer c (count_moves 0 c) owed owed refl refl refl refl refl refl (omega arith)
      (omega arith) b in
      let e = (up.charges.books c owed handed r same start).call in
      let M : ℕ → Type 0 = λ k. MayRefuse s.pool.shape k r (owed + d) 0 in
      let all = call_refused e can.sound.shape
      (refused_either up.sums (omega arith) (subst M (sym same) (may told))) in
      omega (arith, all);
  room = h.room;
}

-- A part gave up after so many moves, and the tree's sums are known.
pub stops_known : {key : Record → Record} {IsOp IsKept : Record → Type 0} {s t : RigState} {v w : Trunk}
    {fault : EmFault} {d : ℕ} → CanWork key IsOp IsKept s v → (owed r pay held : ℕ)
    → StopsWorking 0 d (unstored_most s) s t v w fault
    → (IsTrue s.device.told → t.moves ≤ s.moves + pay)
    → (IsTrue s.device.told → held ≤ (sums_in s v).waiting + (sums_in s v).stored)
    → (IsTrue s.device.told → v.level ≤ deepest s v
    → MayRefuse s.pool.shape v.longest r (owed + s.pool.shape.block * pay) held)
    → StopsVisit owed r s t v w fault
stops_known {s = s} {t = t} {v = v} can owed r pay held h moved some may = record {
  goes = h.goes;
  frames = h.frames;
  numbers = h.numbers;
  pays = h.pays;
  cause = h.cause;
  needs = h.needs;
  share = λ told c handed same b.
      let P : ℕ → Type 0 = λ k. v.level ≤ levels_of s.pool.shape k in
      let low : v.level ≤ deepest s v = subst P same (level_most can.sound.shape b.books) in
      let M : ℕ → Type 0 = λ k. MayRefuse s.pool.shape k r (owed + s.pool.shape.block * pay) held in
      let all = share_more pay held can.sound.shape b (some told) (subst M (sym same) (may told low)) in
      let m = moved told in
      omega (arith, all, m);
  room = h.room;
}

-- While a call may owe one move more, a step is left.
pub step_there : {s : RigState} {v : Trunk} (held : ℕ) → Sound s → (x : TakesSteps s v)
    → held ≤ (sums_in s v).waiting + (sums_in s v).stored
    → MayRefuse s.pool.shape v.longest x.split (x.owed + s.pool.shape.block * 1) held → 1 ≤ v.steps
step_there {s} {v} held sound x some may =
    let c = x.counts in
    let M : ℕ → Type 0 = λ k. MayRefuse s.pool.shape k x.split (x.owed + s.pool.shape.block * 1) held in
    let within = share_more 1 held sound.shape x.books some (subst M (sym x.longest) may) in
    let y = x.none_settled in
    let S : ℕ → Type 0 = λ n. c.spent + 1 ≤ tree_share s.pool.shape (c.n + c.adopted) c.k n c.y in
    let share : c.spent + 1 ≤ tree_share s.pool.shape (c.n + c.adopted) c.k 0 c.y = subst S x.none_taken within in
    let most = steps_most s.pool.shape c.n c.adopted c.k c.y sound.shape (adopted_few x.books.books) (omega (arith, x.few))
    (omega (arith, y)) in
    let l = x.left in
    omega (arith, share, most, l)

-- A part of the way that went well.
module _ (key : Record → Record) (step : Option Record → Record → Step) (IsOp IsKept : Record → Type 0)
    {s t : RigState} {v w : Trunk} (most more few stored next d n : ℕ) (low : few ≤ most)
    (full : Works key step IsOp IsKept 0 0 (s.pool.shape.block * more) n s t v w)
    (one : (IsTrue s.device.told → IsSingle (sums_in t w)) → Works key step IsOp IsKept 0 0 d n s t v w)
    (fits : s.pool.shape.block * few + d ≤ 6 * stored + s.pool.shape.block * next) where
  -- Its books, over the moves that were made,
  pub moves_stage : IsTrue s.device.told → (owed r : ℕ)
      → OwesAt s.pool.shape most 0 few owed r (sums_in s v) → (c : TreeCounts) (h : ℕ) → c.k ≡ v.longest
      → InCall s.pool.shape c owed h r (sums_in s v)
      → StandsOwing s.pool.shape (count_moves (t.moves - s.moves) c) (most + more) stored next h (sums_in t w)
  moves_stage told owed r o c h same b = stage most more few stored next d low (full.charges told)
      (λ i. (one (λ z. i)).charges told) fits o c same b

  -- and over the call's steps.
  pub steps_stage : IsTrue s.device.told → (x : TakesSteps s v)
      → OwesAt s.pool.shape most 0 few x.owed x.split (sums_in s v)
      → (y : TakesSteps t w) × OwesAt t.pool.shape (most + more) stored next y.owed y.split (sums_in t w)
  steps_stage told x o =
      let c = x.counts in
      let q = stage most more few stored next d low (full.paces told) (λ i. (one (λ z. i)).paces told) fits o c
      x.longest x.books in
      let shape = full.session.touches.shape in
      let K : ShapeNumbers → Type 0 = λ z. InCall z (count_moves n c) q.owed x.handed q.split (sums_in t w) in
      let O : ShapeNumbers → Type 0 = λ z. OwesAt z (most + more) stored next q.owed q.split (sums_in t w) in
      let L : ShapeNumbers → Type 0 = λ z. w.steps + (c.spent + n) ≡ step_allowance z (c.n + c.k) c.k in
      let e = full.steps in
      let l = x.left in
      let left : w.steps + (c.spent + n) ≡ step_allowance s.pool.shape (c.n + c.k) c.k = omega (arith, e, l) in
      let y : TakesSteps t w = record {
        counts = count_moves n c;
        owed = q.owed;
        handed = x.handed;
        split = q.split;
        longest = x.longest ∙ sym full.numbers.longest;
        few = x.few;
        none_taken = x.none_taken;
        none_settled = x.none_settled;
        books = subst K (sym shape) q.books;
        left = subst L (sym shape) left;
      } in
      (y, subst O (sym shape) q.owes)

  -- A part after it gave up.
  pub stops_stage : {u : RigState} {x : Trunk} {fault : EmFault}
      → ((owed r : ℕ) → (IsTrue t.device.told
      → OwesAt t.pool.shape (most + more) stored next owed r (sums_in t w)) → StopsVisit owed r t u w x fault)
      → (owed r : ℕ) → (IsTrue s.device.told → OwesAt s.pool.shape most 0 few owed r (sums_in s v))
      → StopsVisit owed r s u v x fault
  stops_stage {u} {x} {fault} inner owed r o =
      let base = inner 0 1 (λ z. record { either = inl (omega arith, omega arith) }) in
      let first = full.session.touches in
      let later = base.goes.touches.moves in
      let N : ShapeNumbers → Type 0 = λ h. Pays (trunk_unstored v) (2 * fan_of h + 3) s u in
      record {
        goes = goes_trans (trunk_blocks s v) (trunk_blocks t w) s t u
            (record { sound = full.session.sound; touches = first; frames = full.frames }) base.goes
            (λ z j i k. full.session.within.off z j i k);
        frames = base.frames;
        numbers = numbers_then full.numbers base.numbers;
        pays = subst N first.shape (pays_then full.pays base.pays later);
        cause = cause_after (trunk_blocks s v) s t u fault first base.cause;
        needs = waits_after s t v w fault first.told full.still base.needs;
        share = λ told c h same b.
            let m = t.moves - s.moves in
            let q = moves_stage told owed r (o told) c h same b in
            let O : ShapeNumbers → Type 0 =
            λ z. OwesAt z (most + more) stored next q.owed q.split (sums_in t w) in
            let K : ShapeNumbers → Type 0 =
            λ z. InCall z (count_moves m c) q.owed h q.split (sums_in t w) in
            let e = (inner q.owed q.split (λ z. subst O (sym first.shape) q.owes)).share (first.told ∙ told)
            (count_moves m c) h (same ∙ sym full.numbers.longest) (subst K (sym first.shape) q.books) in
            let S : ShapeNumbers → Type 0 =
            λ z. c.spent + m + (u.moves - t.moves) ≤ tree_share z (c.n + c.adopted) c.k c.z c.y in
            let all = subst S first.shape e in
            let moves = moves_then s.moves t.moves u.moves first.moves later in
            omega (arith, all, moves);
        room = λ told g h. stops_then full.numbers.longest first.shape (full.loses told) (full.room told g h)
            first.blocks (base.room (first.told ∙ told) g (hold_works full told h));
      }
