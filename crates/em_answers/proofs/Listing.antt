-- A file whose commands are given to a service, one after another.
use Rattle.std.proofs.Common.{◌≡◌, ℕ, suc, ◌+◌, ◌*◌, ◌-◌, ◌≤◌, ◌^◌, ◌⊎◌, List, [], ◌∷◌, length, take, refl, ap, sym, ◌∙◌, arith, Bool, IsTrue, Option, Some, None, IfSome, inl, inr, ⊎_elim, ◌<◌}
use Rattle.std.proofs.Math.Nat.{mul-le-mul_left}
use Rattle.em_record.specs.Shape.{IsShape, ShapeNumbers}
use Rattle.em_model.specs.Stab.{NumberedInterval, stab_answer_of, stab_answers, stab_answers_from, stab_step}
use Rattle.em_model.specs.declared.command.Command.{Command}
use Rattle.em_model.specs.declared.command.Command.TheVariants.{Put, Add, Del, Get, Sync, Push, Pop, Interval, Stab}
use Rattle.em_space.specs.Queue.{Pays}
use Rattle.em_space.specs.Rig.{RigState, Cause, Touches}
use Rattle.em_space.specs.declared.fault.EmFault.{EmFault}
use Rattle.em_space.specs.declared.fault.EmFault.TheVariants as em
use Rattle.em_lines.specs.CommandLine.{good_commands}
use Rattle.em_services.specs.Service.{MakesService, RisesBySize, ServiceCounts, TakesCommand, WithinAllowance, WithinRoom, size_of, FullOverRoom}
use Rattle.em_ready.specs.Ready.{IsUnused}
use Rattle.em_lines.specs.RunSize.{commands_taken, pairs_reported, run_size}
use Rattle.em_answers.specs.Reading.{IsFilledAt, StandsAlone, service_limits}
use Rattle.em_ends.specs.Stop.{IfStopsFull}
use Rattle.em_ends.specs.declared.stop.Stop.TheVariants.{Em}
use Rattle.em_lines.specs.declared.text.FileKind.{FileKind}
use Rattle.em_lines.specs.declared.text.FileKind.TheVariants.{Map, Queue}
use Rattle.em_lines.specs.declared.text.FileKind.TheVariants as kind
use Rattle.std.proofs.lemmas.List.{take_all}
use Rattle.em_answers.proofs.Answered.{pairs_counted}

-- the commands that were taken are at most the size of the run
pub taken_most : (kind : FileKind) (text left : List ℕ)
    → commands_taken kind text left ≤ run_size kind text left
taken_most Map text left = omega arith
taken_most Queue text left = omega arith
taken_most kind.Stab text left = omega arith
taken_most kind.Dump text left = omega arith

-- how many stabs there are doesn't depend on the intervals
stabs_same : (xs ys : List NumberedInterval) (cs : List Command)
    → length (stab_answers_from xs cs) ≡ length (stab_answers_from ys cs)
stabs_same xs ys [] = refl
stabs_same xs ys (Put key value ∷ cs) = stabs_same xs ys cs
stabs_same xs ys (Add key value ∷ cs) = stabs_same xs ys cs
stabs_same xs ys (Del key ∷ cs) = stabs_same xs ys cs
stabs_same xs ys (Get key ∷ cs) = stabs_same xs ys cs
stabs_same xs ys (Sync ∷ cs) = stabs_same xs ys cs
stabs_same xs ys (Push key value ∷ cs) = stabs_same xs ys cs
stabs_same xs ys (Pop ∷ cs) = stabs_same xs ys cs
stabs_same xs ys (Interval low high ∷ cs) =
    stabs_same (stab_step xs (Interval low high)) (stab_step ys (Interval low high)) cs
stabs_same xs ys (Stab point ∷ cs) = ap suc (stabs_same xs ys cs)

-- the stabs of a command and of those after it
pub stabs_next : (c : Command) (cs : List Command)
    → length (stab_answers (c ∷ cs)) ≡ length (stab_answer_of [] c) + length (stab_answers cs)
stabs_next (Put key value) cs = omega arith
stabs_next (Add key value) cs = omega arith
stabs_next (Del key) cs = omega arith
stabs_next (Get key) cs = omega arith
stabs_next Sync cs = omega arith
stabs_next (Push key value) cs = omega arith
stabs_next Pop cs = omega arith
stabs_next (Interval low high) cs =
    let e = stabs_same (stab_step [] (Interval low high)) [] cs in omega (arith, e)
stabs_next (Stab point) cs = omega arith

-- A service was made over a rig of which no block is or was in use: it is alone there.
made_used : (room : Option (ShapeNumbers → ℕ → ℕ)) (s t : RigState) (held : List ℕ)
    → s.used ≡ 0 → IfSome room (λ f. t.used ≡ s.used + length held)
    → IfSome room (λ f. t.used ≡ length held)
made_used None s t held none used = tt
made_used (Some f) s t held none used = omega (arith, none, used)

made_most : (room : Option (ShapeNumbers → ℕ → ℕ)) (s t : RigState) (c : ServiceCounts)
    → IsUnused s → t.pool.shape ≡ s.pool.shape → c.n ≡ 0 → WithinRoom room 0 [] s t
    → IsTrue s.device.told → IfSome room (λ f. t.most ≤ f t.pool.shape c.n)
made_most None s t c u shape n w told = tt
made_most (Some f) s t c u shape n w told =
    let most = (w told).is in
    rw (shape, n) (omega (arith, most, u.used, u.none_ever))

made_moved : (allowance : Option (ShapeNumbers → ℕ → ℕ)) (s t : RigState) (c : ServiceCounts)
    → s.moves ≡ 0 → t.pool.shape ≡ s.pool.shape
    → IfSome allowance (λ f. t.moves ≤ s.moves + c.spent s.pool.shape)
    → IfSome allowance (λ f. t.moves ≤ c.spent t.pool.shape)
made_moved None s t c none shape spent = tt
made_moved (Some f) s t c none shape spent = rw shape (omega (arith, none, spent))

made_within : (allowance : Option (ShapeNumbers → ℕ → ℕ)) (s t : RigState) (c : ServiceCounts)
    → s.moves ≡ 0 → t.pool.shape ≡ s.pool.shape → c.syncs ≡ 0
    → WithinAllowance allowance 0 0 (λ shape. 0) s t
    → IsTrue s.device.told → IfSome allowance (λ f. t.moves ≤ (c.syncs + 1) * f t.pool.shape 0)
made_within None s t c none shape syncs w told = tt
made_within (Some f) s t c none shape syncs w told =
    let moves = w told in rw (shape, syncs) (omega (arith, none, moves))

pub alone_made : (allowance room : Option (ShapeNumbers → ℕ → ℕ)) (frames : ℕ) (held : List ℕ)
    (c : ServiceCounts) (s t : RigState) → IsUnused s → s.moves ≡ 0
    → MakesService allowance room frames held c s t → WithinRoom room 0 [] s t
    → WithinAllowance allowance 0 0 (λ shape. 0) s t → StandsAlone allowance room 0 held c t
alone_made allowance room frames held c s t u none m w a = record {
  paid = ⊎_elim
      (λ (h : 2 ^ 64 - 1 ≤ t.moves). inl h)
      (λ (h : t.used + s.moves + 0 ≤ s.used + t.moves + c.unstored).
      inr (omega (arith, h, u.used)))
      m.pays.is;
  used = λ told. made_used room s t held u.used (m.used (sym m.touches.told ∙ told));
  most = λ told. made_most room s t c u m.touches.shape m.n w (sym m.touches.told ∙ told);
  moved = λ told. made_moved allowance s t c none m.touches.shape m.spent;
  within = λ told.
      made_within allowance s t c none m.touches.shape m.syncs a (sym m.touches.told ∙ told);
}

-- before a service is made, none of its blocks is in use
abbrev pub no_counts : ServiceCounts
no_counts = record { n = 0; syncs = 0; spent = λ shape. 0; unstored = 0 }

unused_used : (room : Option (ShapeNumbers → ℕ → ℕ)) (s : RigState) → s.used ≡ 0
    → IfSome room (λ f. s.used ≡ 0)
unused_used None s e = tt
unused_used (Some f) s e = e

unused_most : (room : Option (ShapeNumbers → ℕ → ℕ)) (s : RigState) → s.most ≡ 0
    → IfSome room (λ f. s.most ≤ f s.pool.shape 0)
unused_most None s e = tt
unused_most (Some f) s e = omega (arith, e)

unused_moved : (allowance : Option (ShapeNumbers → ℕ → ℕ)) (s : RigState) (n : ℕ) → s.moves ≡ 0
    → IfSome allowance (λ f. s.moves ≤ n)
unused_moved None s n e = tt
unused_moved (Some f) s n e = omega (arith, e)

unused_within : (allowance : Option (ShapeNumbers → ℕ → ℕ)) (s : RigState) → s.moves ≡ 0
    → IfSome allowance (λ f. s.moves ≤ (0 + 1) * f s.pool.shape 0)
unused_within None s e = tt
unused_within (Some f) s e = omega (arith, e)

pub alone_unused : (allowance room : Option (ShapeNumbers → ℕ → ℕ)) (s : RigState) → IsUnused s
    → s.moves ≡ 0 → StandsAlone allowance room 0 [] no_counts s
alone_unused allowance room s u none = record {
  paid = inr (omega (arith, u.used));
  used = λ told. unused_used room s u.used;
  most = λ told. unused_most room s u.none_ever;
  moved = λ told. unused_moved allowance s 0 none;
  within = λ told. unused_within allowance s none;
}

-- It is alone by any size, if no command was taken.
size_larger : (allowance : Option (ShapeNumbers → ℕ → ℕ)) (n : ℕ) (c : ServiceCounts) (s : RigState)
    → IfSome allowance RisesBySize → IsShape s.pool.shape
    → IfSome allowance (λ f. s.moves ≤ (c.syncs + 1) * f s.pool.shape 0)
    → IfSome allowance (λ f. s.moves ≤ (c.syncs + 1) * f s.pool.shape n)
size_larger None n c s rises is h = tt
size_larger (Some f) n c s rises is h =
    let all = mul-le-mul_left (c.syncs + 1) (rises s.pool.shape 0 n is (omega arith)) in omega (arith, h, all)

pub alone_larger : (allowance room : Option (ShapeNumbers → ℕ → ℕ)) (n : ℕ) (held : List ℕ) (c : ServiceCounts)
    (s : RigState) → IfSome allowance RisesBySize → IsShape s.pool.shape → StandsAlone allowance room 0 held c s
    → StandsAlone allowance room n held c s
alone_larger allowance room n held c s rises is a = record {
  paid = a.paid;
  used = a.used;
  most = a.most;
  moved = a.moved;
  within = λ told. size_larger allowance n c s rises is (a.within told);
}

-- One command more was taken.
next_used : (room : Option (ShapeNumbers → ℕ → ℕ)) (s t : RigState) (held now : List ℕ)
    → IfSome room (λ f. s.used ≡ length held)
    → IfSome room (λ f. t.used + length held ≡ s.used + length now)
    → IfSome room (λ f. t.used ≡ length now)
next_used None s t held now before after = tt
next_used (Some f) s t held now before after = omega (arith, before, after)

next_most : (room : Option (ShapeNumbers → ℕ → ℕ)) (held : List ℕ) (s t : RigState)
    (c d : ServiceCounts) → IfSome room RisesBySize → IsShape s.pool.shape
    → IfSome room (λ f. s.used ≡ length held)
    → IfSome room (λ f. s.most ≤ f s.pool.shape c.n) → t.pool.shape ≡ s.pool.shape
    → d.n ≡ c.n + 1 → WithinRoom room (c.n + 1) held s t → IsTrue s.device.told
    → IfSome room (λ f. t.most ≤ f t.pool.shape d.n)
next_most None held s t c d rises is used before shape n w told = tt
next_most (Some f) held s t c d rises is used before shape n w told =
    let most = (w told).is in
    let more = rises s.pool.shape c.n (c.n + 1) is (omega arith) in
    rw (shape, n) (omega (arith, most, used, before, more))

next_moved : (allowance : Option (ShapeNumbers → ℕ → ℕ)) (one : ℕ) (s t : RigState)
    (c d : ServiceCounts) → t.pool.shape ≡ s.pool.shape → t.device.told ≡ s.device.told
    → IfSome allowance (λ f. d.syncs ≡ c.syncs + one)
    → ((0 < c.syncs → IsTrue s.device.told) → IfSome allowance (λ f. s.moves ≤ c.spent s.pool.shape))
    → ((0 < one → IsTrue s.device.told) → IfSome allowance
    (λ f. t.moves + c.spent s.pool.shape ≤ s.moves + d.spent s.pool.shape))
    → (0 < d.syncs → IsTrue t.device.told) → IfSome allowance (λ f. t.moves ≤ d.spent t.pool.shape)
next_moved None one s t c d shape told syncs before now tells = tt
next_moved (Some f) one s t c d shape told syncs before now tells =
    let first = before (λ p. sym told ∙ tells (omega (arith, syncs, p))) in
    let last = now (λ p. sym told ∙ tells (omega (arith, syncs, p))) in
    rw shape (omega (arith, first, last))

next_within : (allowance : Option (ShapeNumbers → ℕ → ℕ)) (size : ℕ) (s t : RigState) (c d : ServiceCounts)
    (one : ℕ) → IfSome allowance (λ f. s.moves ≤ c.spent s.pool.shape) → t.pool.shape ≡ s.pool.shape
    → IfSome allowance (λ f. d.syncs ≡ c.syncs + one)
    → WithinAllowance allowance size (c.syncs + one) c.spent s t → IsTrue s.device.told
    → IfSome allowance (λ f. t.moves ≤ (d.syncs + 1) * f t.pool.shape size)
next_within None size s t c d one before shape syncs w told = tt
next_within (Some f) size s t c d one before shape syncs w told =
    let moves = w told in rw (shape, syncs) (omega (arith, before, moves))

pub alone_next : (allowance room : Option (ShapeNumbers → ℕ → ℕ)) {few : ℕ} (one size : ℕ) (held now : List ℕ)
    (c d : ServiceCounts) (s t : RigState) → IfSome room RisesBySize → IsShape s.pool.shape
    → StandsAlone allowance room few held c s → Touches held s t
    → TakesCommand allowance room one held now c d s t → WithinRoom room (c.n + 1) held s t
    → WithinAllowance allowance size (c.syncs + one) c.spent s t → StandsAlone allowance room size now d t
alone_next allowance room one size held now c d s t rises is a touches k w m = record {
  paid = ⊎_elim
      (λ (h : 2 ^ 64 - 1 ≤ s.moves). inl (let later = touches.moves in omega (arith, h, later)))
      (λ (h : s.used ≤ s.moves + c.unstored).
      ⊎_elim
      (λ (y : 2 ^ 64 - 1 ≤ t.moves). inl y)
      (λ (y : t.used + s.moves + c.unstored ≤ s.used + t.moves + d.unstored).
      inr (omega (arith, h, y)))
      k.pays.is)
      a.paid;
  used = λ told.
      let z = sym touches.told ∙ told in next_used room s t held now (a.used z) (k.used z);
  most = λ told.
      let z = sym touches.told ∙ told in
      next_most room held s t c d rises is (a.used z) (a.most z) touches.shape k.n w z;
  moved = next_moved allowance one s t c d touches.shape touches.told k.syncs a.moved k.spent;
  within = λ told.
      let z = sym touches.told ∙ told in
      next_within allowance size s t c d one (a.moved (λ p. z)) touches.shape k.syncs m z;
}

-- The blocks of a full device are at most the moves and two for each frame.
pub full_paid : (owed : ShapeNumbers → ℕ) (held : List ℕ) (t u : RigState) (n used : ℕ)
    → Touches held t u
    → (2 ^ 64 - 1 ≤ t.moves) ⊎ (t.used ≤ t.moves + n) → Pays n (owed t.pool.shape) t u
    → (used ≡ u.blocks) × (u.used ≡ u.blocks)
    → (2 ^ 64 - 1 ≤ u.moves) ⊎ (used ≤ u.moves + owed u.pool.shape)
full_paid owed held t u n used touches paid p full =
    let f : owed u.pool.shape ≡ owed t.pool.shape = ap owed touches.shape in
    ⊎_elim
    (λ (h : 2 ^ 64 - 1 ≤ t.moves). inl (let later = touches.moves in omega (arith, h, later)))
    (λ (h : t.used ≤ t.moves + n).
    ⊎_elim
    (λ (y : 2 ^ 64 - 1 ≤ u.moves). inl y)
    (λ (y : u.used + t.moves + n ≤ t.used + u.moves + owed t.pool.shape).
    inr (omega (arith, h, y, full.0, full.1, f)))
    p.is)
    paid

-- A call on a service that is alone was full only over its room for this size, which is at most that of the
-- run.
pub record IsSized (room : Option (ShapeNumbers → ℕ → ℕ)) (run size : ℕ) (held : List ℕ)
    (s : RigState) (fault : EmFault) : Type 0 where
  pub full : FullOverRoom room size held s fault
  pub most : size ≤ run

-- So the blocks of a full device are fewer than are enough for the run.
filled_room : (room : Option (ShapeNumbers → ℕ → ℕ)) (run size used : ℕ) (held : List ℕ)
    (s : RigState) → IfSome room RisesBySize → IsShape s.pool.shape → IsTrue s.device.told
    → IfSome room (λ f. s.used ≡ length held) → IsSized room run size held s (em.Full used)
    → IfSome room (λ f. used < f s.pool.shape run)
filled_room None run size used held s rises is told alone sized = tt
filled_room (Some f) run size used held s rises is told alone sized =
    let over = sized.full told in
    let more = rises s.pool.shape size run is sized.most in
    omega (arith, over, alone, more)

-- What a full device says of a call on a service that is alone.
pub filled_call : (run : ℕ) (allowance room : Option (ShapeNumbers → ℕ → ℕ)) {few : ℕ} (size : ℕ) (tells : Bool)
    (held : List ℕ) (c : ServiceCounts) (s u : RigState)
    (fault : EmFault) → IfSome room RisesBySize → IsShape s.pool.shape → Touches held s u
    → StandsAlone allowance room few held c s → Pays c.unstored (2 * s.pool.shape.frames) s u
    → Cause s u fault
    → (IsTrue tells → IsSized room run size held s fault)
    → IfStopsFull (Em fault) (IsFilledAt (service_limits allowance room) tells run u)
filled_call run allowance room size tells held c s u em.DeviceFault rises is touches a p cause sized =
    tt
filled_call run allowance room size tells held c s u (em.Damaged block) rises is touches a p cause
    sized = tt
filled_call run allowance room size tells held c s u (em.Full used) rises is touches a p cause sized =
    record {
      paid = full_paid (λ shape. 2 * shape.frames) held s u c.unstored used touches a.paid p cause;
      room = λ told d.
          let here = sym touches.told ∙ d in
          rw (touches.shape) (filled_room room run size used held s rises is here
          (a.used here) (sized told));
    }

-- the size of the commands of a whole file is within that of the run
pub size_within : (kind : FileKind) (text left : List ℕ)
    → length (good_commands kind text) ≤ commands_taken kind text left
    → size_of kind (good_commands kind text) ≤ run_size kind text left
size_within Map text left taken = taken
size_within Queue text left taken = taken
size_within kind.Stab text left taken =
    let good = good_commands kind.Stab text in
    let all : take (commands_taken kind.Stab text left) good ≡ good =
    take_all (commands_taken kind.Stab text left) good (omega (arith, taken)) in
    let pairs = pairs_counted good in
    let reported = ap pairs_reported all in
    omega (arith, taken, pairs, reported)
size_within kind.Dump text left taken = taken
