-- The room of a tree over its calls.
use Rattle.std.proofs.Common.{◌≡◌, ℕ, ◌+◌, ◌^◌, ◌<◌, ◌≤◌, List, length, refl, sym, ap, ◌∙◌, subst, arith, IsTrue, Result, Ok, Err, IsErrAnd, inl, inr}
use Rattle.std.specs.Prelude.{IfErr, Option, max}
use Rattle.em_record.specs.Shape.{ShapeNumbers}
use Rattle.em_record.specs.declared.record.Record.{Record}
use Rattle.em_space.specs.Rig.{RigState, Sound}
use Rattle.em_space.specs.declared.fault.EmFault.{EmFault}
use Rattle.em_space.proofs.Ledgers.{full_by}
use Rattle.em_settle.specs.declared.step.Step.{Step}
use Rattle.em_tree_cost.specs.Books.{KeepsBooks, TreeCounts}
use Rattle.em_tree_cost.specs.Counters.{Sums}
use Rattle.em_tree_cost.specs.Outline.{waiting_of}
use Rattle.em_tree_cost.specs.Shares.{tree_room}
use Rattle.em_tree_cost.proofs.Books.{books_refused_push}
use Rattle.em_tree_model.specs.Tree.{Tree}
use Rattle.em_tree_outline.specs.Outline.{outline_of}
use Rattle.em_trunk.specs.Counting.{counted_push, counted_settling, counted_all}
use Rattle.em_tree_visits.specs.FirstVisits.{TakesAllFirst}
use Rattle.em_tree.specs.Pushing.{Appended, PushesTo}
use Rattle.em_trunk.specs.Room.{FullOverRoom, HasCounters, KeepsIn, MayHold, StopsIn, WithinRoom, most_held}
use Rattle.em_tree.specs.Settling.{SettledAll}
use Rattle.em_tree.specs.Trimmed.{SettlesTrim}
use Rattle.em_trunk.specs.Trunk.{IsTrunk, sums_in, trunk_blocks}
use Rattle.em_trunk.specs.declared.trunk.Trunk.{Trunk}
use Rattle.em_tree_visits.specs.declared.visiting.Taken.{Taken}
use Rattle.em_tree.proofs.PushBegins.{append_books, begun_runs}
use Rattle.em_trunk.proofs.Rooms.{answers_blocks, counters_as, hold_works, keeps_by, keeps_then, peak_fits, room_here, room_most, stops_then}
use Rattle.em_chain.specs.declared.chain.Chain.{Chain}
use Rattle.em_tree.specs.Finishing.{FinishedBlocks, FinishesBlocks}
use Rattle.em_trunk.specs.Lists.{GivesAnswers, LeavesTrunk}

-- Books have counters.
pub counters_kept : {shape : ShapeNumbers} {c : TreeCounts} {more : ℕ} {t : Sums} (k : ℕ) → c.k ≡ k
    → KeepsBooks shape c more t → HasCounters shape k 0 t
counters_kept k same x =
    record {
      counters = x.counters;
      k_is = x.k ∙ same;
      few = (let e = x.n in let f = x.few in omega (arith, e, f));
      few_adopted = (let e = x.adopted in let f = x.few_adopted in omega (arith, e, f));
      fits = x.paid.fits;
      root = x.paid.root;
      parts = omega arith;
    }

-- a clause on a fault, over a device that tells
pub err_told : {T : Type 0} (r : Result T EmFault) (Q : EmFault → Type 0) (A : Type 0)
    → (A → IfErr r Q) → IfErr r (λ f. A → Q f)
err_told (Ok x) Q A h = tt
err_told (Err f) Q A h = h

-- a fault that is handed on
pub full_as : {T : Type 0} (r : Result T EmFault) (fault : EmFault) (Q : EmFault → Type 0)
    → IsErrAnd r (λ f. f ≡ fault) → Q fault → IfErr r Q
full_as (Ok x) fault Q e h = absurd e
full_as (Err f) fault Q e h = subst Q (sym e) h

module _ {key : Record → Record} {IsOp IsKept : Record → Type 0} {s : RigState} {v : Trunk}
    (sound : Sound s) (i : IsTrunk key IsOp IsKept s v) (told : IsTrue s.device.told) where
  -- the operations that wait were pushed since the last reset
  waits_since : (sums_in s v).waiting ≤ v.since
  waits_since =
      let b = (i.books told).books in
      let a = b.paid.fits.sums.since_pushed in
      let e = b.since in
      omega (arith, a, e)

  -- A call that pushes nothing begins with this.
  pub rest_holds : MayHold (v.answers.count + (sums_in s v).waiting) 0 s v
  rest_holds = record {
    counters = counters_kept v.longest refl (i.books told).books;
    answers = omega arith;
  }

  rest_fits : most_held s.pool.shape v.longest (v.answers.count + (sums_in s v).waiting)
      ≤ tree_room s.pool.shape v.longest + v.answers.blocks
  rest_fits =
      let since = waits_since in
      let longest = i.running.numbers.since_most in
      let room = room_most s.pool.shape v.longest v.answers.count (sums_in s v).waiting sound.shape
      (omega (arith, since, longest)) in
      let e = answers_blocks i.running sound.shape told in
      omega (arith, room, e)

  -- Its own blocks are within the room,
  pub rest_room : length (trunk_blocks s v) ≤ tree_room s.pool.shape v.longest + v.answers.blocks
  rest_room =
      let a = room_here i.running sound.shape told rest_holds in
      let b = rest_fits in
      omega (arith, a, b)

  -- and what it keeps,
  pub rest_within : {t : RigState} → KeepsIn (v.answers.count + (sums_in s v).waiting) s t v
      → WithinRoom v.longest s t v
  rest_within h =
      let m = h.most in
      let fits = rest_fits in
      record { most = omega (arith, m, fits) }

  -- also if it gave up.
  pub rest_over : {t : RigState} {fault : EmFault}
      → StopsIn (v.answers.count + (sums_in s v).waiting) s t v fault
      → WithinRoom v.longest s t v × FullOverRoom v.longest s v fault
  rest_over {t} {fault} h =
      let fits = rest_fits in
      let held = length (trunk_blocks s v) in (
        rest_within (record { most = h.most }),
        record {
          full = full_by fault (s.blocks + held < s.used + most_held s.pool.shape v.longest
              (v.answers.count + (sums_in s v).waiting))
              (s.blocks + held < s.used + (tree_room s.pool.shape v.longest + v.answers.blocks))
              (λ k. omega (arith, k, fits)) h.full;
        },
      )

  -- A settling,
  pub settling_room : (step : Option Record → Record → Step) (before : ℕ) {t : RigState} (w : Trunk)
      (r : Result (Unit {0}) EmFault)
      → SettlesTrim key step IsOp IsKept before s t (counted_settling s.pool.shape v) w r
      → WithinRoom v.longest s t v × IfErr r (FullOverRoom v.longest s v)
  settling_room step before w (Ok x) h =
      let b = rest_holds in
      let n = v.answers.count + (sums_in s v).waiting in
      let i : MayHold n 0 s (counted_settling s.pool.shape v) =
      record { counters = b.counters; answers = b.answers } in
      let a = h.settled.works in
      let k = keeps_then a.numbers.longest a.session.touches.shape (a.loses told) (a.room told n i)
      (h.trimmed.made.room (a.session.touches.told ∙ told) n (hold_works a told i)) in
      (rest_within (record { most = k.most }), tt)
  settling_room step before w (Err fault) (inl h) =
      let b = rest_holds in
      let k = h.stops.room told (v.answers.count + (sums_in s v).waiting)
      (record { counters = b.counters; answers = b.answers }) in
      rest_over (record { most = k.most; full = k.full })
  settling_room step before w (Err fault) (inr h) =
      let b = rest_holds in
      let n = v.answers.count + (sums_in s v).waiting in
      let i : MayHold n 0 s (counted_settling s.pool.shape v) =
      record { counters = b.counters; answers = b.answers } in
      let a = h.settled.works in
      let k = stops_then a.numbers.longest a.session.touches.shape (a.loses told) (a.room told n i)
      a.session.touches.blocks (h.stops.stops.room (a.session.touches.told ∙ told) n (hold_works a told i)) in
      rest_over (record { most = k.most; full = k.full })

  -- and a call that takes records out.
  pub taking_room : (step : Option Record → Record → Step) (area : List Record) {t : RigState} (w : Trunk)
      (r : Result Taken EmFault)
      → TakesAllFirst key step IsOp IsKept area s t (counted_all s.pool.shape v) w r
      → WithinRoom v.longest s t v × IfErr r (FullOverRoom v.longest s v)
  taking_room step area w (Ok x) h =
      let b = rest_holds in
      let k = h.takes.room told (v.answers.count + (sums_in s v).waiting)
      (record { counters = b.counters; answers = b.answers }) in
      (rest_within (record { most = k.most }), tt)
  taking_room step area w (Err fault) h =
      let b = rest_holds in
      let k = h.room told (v.answers.count + (sums_in s v).waiting)
      (record { counters = b.counters; answers = b.answers }) in
      rest_over (record { most = k.most; full = k.full })

  -- A call that finishes: all is emptied, then released, and the answers are given.
  settled_room : {step : Option Record → Record → Step} {before : ℕ} {t : RigState} {w : Trunk}
      → SettledAll key step IsOp IsKept before s t (counted_settling s.pool.shape v) w
      → WithinRoom v.longest s t v
  settled_room h =
      let b = rest_holds in
      let k = h.works.room told (v.answers.count + (sums_in s v).waiting)
      (record { counters = b.counters; answers = b.answers }) in
      rest_within (record { most = k.most })

  room_on : (m : RigState) {t : RigState} → t.most ≡ m.most → WithinRoom v.longest s m v → WithinRoom v.longest s t v
  room_on m same h = (let a = h.most in record { most = omega (arith, a, same) })

  pub given_room : {step : Option Record → Record → Step} {t u : RigState} {w : Trunk}
      (r : Result Chain EmFault)
      → FinishedBlocks key step IsOp IsKept s t (counted_settling s.pool.shape v) w → GivesAnswers t u w r
      → WithinRoom v.longest s u v × IfErr r (FullOverRoom v.longest s v)
  given_room {t = t} (Ok c) x g =
      (room_on t g.most (room_on x.mid x.released.most (settled_room x.settled)), tt)
  given_room {t = t} (Err fault) x g =
      let held = length (trunk_blocks s v) in (
        room_on t g.most (room_on x.mid x.released.most (settled_room x.settled)),
        record {
          full = full_by fault ⊥ (s.blocks + held
              < s.used + (tree_room s.pool.shape v.longest + v.answers.blocks)) (λ z. absurd z) g.full;
        },
      )

  pub left_room : {step : Option Record → Record → Step} {t u : RigState} {w : Trunk} (fault : EmFault)
      → FinishesBlocks {T = Unit {0}} key step IsOp IsKept s t (counted_settling s.pool.shape v) w (Err fault)
      → LeavesTrunk t u → WithinRoom v.longest s u v × FullOverRoom v.longest s v fault
  left_room {t = t} fault (inl x) l =
      let same = ap (λ (z : RigState). z.most) l.same in
      let b = rest_holds in
      let k = x.stops.room told (v.answers.count + (sums_in s v).waiting)
      (record { counters = b.counters; answers = b.answers }) in
      let both : WithinRoom v.longest s t v × FullOverRoom v.longest s v fault =
      rest_over (record { most = k.most; full = k.full }) in
      (room_on t same both.0, both.1)
  left_room {t = t} fault (inr x) l =
      let same = ap (λ (z : RigState). z.most) l.same in
      let held = length (trunk_blocks s v) in (
        room_on t same (room_on x.mid x.stops.most (settled_room x.settled)),
        record {
          full = full_by fault ⊥ (s.blocks + held
              < s.used + (tree_room s.pool.shape v.longest + v.answers.blocks)) (λ z. absurd z) x.stops.full;
        },
      )

  module _ (few : v.pushed < 2 ^ 100) where
    abbrev pushed : Trunk
    pushed = counted_push s.pool.shape v

    abbrev push_k : ℕ
    push_k = max v.longest (v.since + 1)

    abbrev push_answers : ℕ
    push_answers = v.answers.count + ((sums_in s v).waiting + 1)

    -- A push begins with this,
    push_holds : MayHold push_answers 0 s pushed
    push_holds = record {
      counters = counters_kept push_k refl
          (books_refused_push (i.books told).books 0 sound.shape few (omega arith)).0;
      answers = omega arith;
    }

    -- and has it after the append.
    append_holds : (op : Record) (m : RigState) (x : Trunk) → Appended op s m pushed x
        → MayHold push_answers 0 m x
    append_holds op m x a =
        let longest = ap (λ (z : Trunk). z.longest) a.is in
        let answers = ap (λ (z : Trunk). z.answers.count) a.is in
        let root = ap (λ (z : Tree). waiting_of (outline_of z)) (a.root told) in
        let count = a.count in
        let sum : x.answers.count + (sums_in m x).waiting ≤ push_answers =
        omega (arith, answers, root, count) in
        record {
          counters = counters_as m.pool.shape x.longest a.session.touches.shape longest
              (counters_kept push_k refl (append_books sound few i told m x a).books);
          answers = sum;
        }

    push_fits : most_held s.pool.shape push_k push_answers
        ≤ tree_room s.pool.shape push_k + v.answers.blocks
    push_fits =
        let since = waits_since in
        let room = room_most s.pool.shape push_k v.answers.count ((sums_in s v).waiting + 1) sound.shape
        (omega (arith, since)) in
        let e = answers_blocks i.running sound.shape told in
        omega (arith, room, e)

    -- A push keeps within the room.
    pub pushing_room : (step : Option Record → Record → Step) (op : Record) {t : RigState} (w : Trunk)
        (r : Result (Unit {0}) EmFault) → PushesTo key step IsOp IsKept op s t pushed w r
        → WithinRoom push_k s t v × IfErr r (FullOverRoom push_k s v)
    pushing_room step op {t} w (Ok x) h =
        let a = h.appended in
        let first = keeps_by (begun_runs sound few i) sound.shape told a.peaks
        (let p = peak_fits sound.shape in omega (arith, p)) push_answers push_holds in
        let k = keeps_then (ap (λ (z : Trunk). z.longest) a.is) a.session.touches.shape (a.loses told) first
        (h.works.room (a.session.touches.told ∙ told) push_answers (append_holds op h.mid h.after a)) in
        let most : t.most + length (trunk_blocks s v) ≤ max (s.most + length (trunk_blocks s v))
        (s.used + most_held s.pool.shape push_k push_answers) = k.most in
        let fits = push_fits in
        (record { most = omega (arith, most, fits) }, tt)
    pushing_room step op {t} w (Err fault) h =
        let k = h.room told push_answers push_holds (λ m x a. append_holds op m x a) in
        let held = length (trunk_blocks s v) in
        let most : t.most + held ≤ max (s.most + held)
        (s.used + most_held s.pool.shape push_k push_answers) = k.most in
        let fits = push_fits in (
          record { most = omega (arith, most, fits) },
          record {
            full = full_by fault (s.blocks + held < s.used + most_held s.pool.shape push_k push_answers)
                (s.blocks + held < s.used + (tree_room s.pool.shape push_k + v.answers.blocks))
                (λ z. omega (arith, z, fits)) k.full;
          },
        )
