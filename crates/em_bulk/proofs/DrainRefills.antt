-- The area of a drain is filled from its tree, or nothing is to be done.
use Rattle.std.specs.Prelude.{◌≡◌, ◌⊎◌, Bool, ℕ, zero, suc, ◌+◌, ◌-◌, ◌^◌, ◌<◌, ◌≤◌, List, [], ◌∷◌, drop, length, take, Option, Some, None, IsFalse, IsTrue}
use Rattle.std.proofs.Common.{sym, ap, subst, ◌∙◌, refl, inl, ⊎_elim, arith}
use Rattle.std.proofs.lemmas.List.Sorted.{IsPermutation-refl}
use Rattle.em_record.specs.declared.record.Record.{Record}
use Rattle.em_frames.specs.Pool.{load_of}
use Rattle.em_settle.specs.Keys.{of_key, record_at}
use Rattle.em_settle.specs.Rising.{RisesByKey}
use Rattle.em_settle.specs.declared.step.Step.{Step}
use Rattle.em_settle.proofs.Keys.{first_of_key, own_key}
use Rattle.em_space.specs.Rig.{RigState, Sound}
use Rattle.em_space.proofs.Paying.{pays_kept}
use Rattle.em_space.proofs.Sessions.{session_none}
use Rattle.em_space.proofs.Steps.{both_told, same_frames}
use Rattle.em_tree_cost.specs.Books.{TreeCounts, count_all, count_drain}
use Rattle.em_tree_cost.proofs.Books.{books_share}
use Rattle.em_tree_model.specs.Meaning.{tree_contents}
use Rattle.em_tree_model.specs.Ranges.{AllIn, IsTree, least_record}
use Rattle.em_tree_model.specs.Taking.{LeavesTaken}
use Rattle.em_tree_model.specs.Tree.{Tree, waiting_in}
use Rattle.em_tree_model.proofs.Taking.{clear_still}
use Rattle.em_trunk.specs.Trunk.{model_of}
use Rattle.em_tree.specs.Calls.{CountsCall}
use Rattle.em_tree.specs.Taking.{LeavesNothing, LeavesSome, TookFirst}
use Rattle.em_bulk.specs.Draining.{CountsNext, DrainsTo, IsBelowTree, IsDrain, area_rest, drain_blocks, drain_unstored, left_in, or_else, trunk_of}
use Rattle.em_bulk.specs.Refilling.{Refilled}
use Rattle.em_bulk.specs.declared.drain.Drain.{Drain}
use Rattle.em_bulk.proofs.DrainFresh.{fresh_none}
use Rattle.em_bulk.proofs.DrainNumbers.{drains_none, drains_take}
use Rattle.em_bulk.proofs.DrainRests.{else_without, rest_none}

-- a list with no record of any key is empty
none_by : (key : Record → Record) (xs : List Record) → ((q : Record) → of_key key q xs ≡ []) → xs ≡ []
none_by key [] h = refl
none_by key (x ∷ xs) h =
    let n = ap length (first_of_key key (key x) x xs (own_key key x)) in
    let z = ap length (h (key x)) in
    absurd (omega (arith, n, z))

-- If nothing waited, nothing waits after records were taken out.
still_quiet : (key : Record → Record) (step : Option Record → Record → Step) (ys given told : List Record) (t u : Tree)
    → IsTree key t least_record None → IsTree key u least_record None → LeavesTaken key step ys given t told u
    → waiting_in t ≡ [] → waiting_in u ≡ []
still_quiet key step ys given told t u is then taken none =
    none_by key (waiting_in u) (λ q. by q (record_at key ys q) refl)
  where
    by : (q : Record) (o : Option Record) → record_at key ys q ≡ o → of_key key q (waiting_in u) ≡ []
    by q None e = clear_still key step t u q is then (ap (of_key key q) none) (taken.advances q e)
    by q (Some y) e = taken.out.clear q y e

-- A tree that isn't fresh had a push since its reset.
pub asked : (since : ℕ) {fresh : Bool} → (since ≡ 0 → IsTrue fresh) → IsFalse fresh → 0 < since
asked zero {fresh} h f = absurd (both_told fresh (h refl) f)
asked (suc n) h f = omega arith

module _ {S : Type 0} (key : Record → Record) (step : Option Record → Record → Step) (IsOp IsKept : Record → Type 0)
    (s : RigState) (d : Drain S) (sound : Sound s) (i : IsDrain key step IsOp IsKept s d) where
  -- The area has records, or nothing was pushed into the tree.
  pub refill_none : (d.at < d.end) ⊎ ((trunk_of d).since ≡ 0) → Refilled key step IsOp IsKept s s d d
  refill_none why = record {
    is = i;
    runs = record {
      session = session_none s (drain_blocks s d) sound (λ told. (i.is.running.stands told).holds);
      frames = same_frames s.pool;
      pays = pays_kept (drain_unstored d) (omega arith) (omega arith);
      loses = λ told. refl;
    };
    told = λ told. record {
      left = λ q. refl;
      none = λ e q. ⊎_elim
          (λ (h : d.at < d.end). absurd (omega (arith, h, e)))
          (λ (h : (trunk_of d).since ≡ 0).
          ap (λ (ys : List Record). or_else (record_at key ys q) (tree_contents key step (model_of s (trunk_of d)) q))
          (rest_none d.area d.at d.end e) ∙ fresh_none key step IsOp IsKept s (trunk_of d) i.is told h q)
          why;
      answers = IsPermutation-refl _;
      quiet = λ none. none;
      reset = λ more q. absurd (omega (arith, more));
    };
  }

  pub counts_none : CountsNext s s d d
  counts_none = record {
    numbers = drains_none (trunk_of d);
    counted = i.is.running.numbers.counted_most;
    spent = refl;
    share = λ told. record { within = books_share sound.shape (i.is.books told) };
  }

  -- The tree was asked.
  module _ (t : RigState) (e : Drain S) (some : 0 < (trunk_of d).since) where
    -- all records count then that it was adopted with
    counted_taken : CountsCall count_all s t (trunk_of d) (trunk_of e)
        ⊎ CountsCall (λ c. count_drain 0 (count_all c)) s t (trunk_of d) (trunk_of e)
        → (trunk_of e).counted ≤ (trunk_of e).adopted
    counted_taken counts = ⊎_elim
        (λ (c : CountsCall count_all s t (trunk_of d) (trunk_of e)).
        let a = ap (λ (x : TreeCounts). x.counted) c.counts in
        let b = ap (λ (x : TreeCounts). x.adopted) c.counts in omega (arith, a, b))
        (λ (c : CountsCall (λ c. count_drain 0 (count_all c)) s t (trunk_of d) (trunk_of e)).
        let a = ap (λ (x : TreeCounts). x.counted) c.counts in
        let b = ap (λ (x : TreeCounts). x.adopted) c.counts in omega (arith, a, b))
        counts

    pub counts_stopped : CountsCall count_all s t (trunk_of d) (trunk_of e) → CountsNext s t d e
    counts_stopped c = record {
      numbers = drains_take s t (trunk_of d) (trunk_of e) some (inl c);
      counted = counted_taken (inl c);
      spent = c.spent;
      share = c.share;
    }

    pub counts_taken : CountsCall count_all s t (trunk_of d) (trunk_of e)
        ⊎ CountsCall (λ c. count_drain 0 (count_all c)) s t (trunk_of d) (trunk_of e) → CountsNext s t d e
    counts_taken counts = record {
      numbers = drains_take s t (trunk_of d) (trunk_of e) some counts;
      counted = counted_taken counts;
      spent = ⊎_elim (λ (c : CountsCall count_all s t (trunk_of d) (trunk_of e)). c.spent)
          (λ (c : CountsCall (λ c. count_drain 0 (count_all c)) s t (trunk_of d) (trunk_of e)). c.spent) counts;
      share = ⊎_elim (λ (c : CountsCall count_all s t (trunk_of d) (trunk_of e)). c.share)
          (λ (c : CountsCall (λ c. count_drain 0 (count_all c)) s t (trunk_of d) (trunk_of e)). c.share) counts;
    }

    -- It gave records.
    module _ (given : d.end ≤ d.at) (at : e.at ≡ 0) (len : length e.area ≡ length d.area)
        (took : TookFirst key step IsOp IsKept e.area e.end s t (trunk_of d) (trunk_of e))
        (counts : CountsCall count_all s t (trunk_of d) (trunk_of e)
        ⊎ CountsCall (λ c. count_drain 0 (count_all c)) s t (trunk_of d) (trunk_of e)) where
      abbrev ys : List Record
      ys = take e.end e.area

      rest_is : area_rest e ≡ ys
      rest_is =
          let n : e.end - e.at ≡ e.end = omega (arith, at) in
          ap (λ (k : ℕ). take k (drop e.at e.area)) n ∙ ap (λ (k : ℕ). take e.end (drop k e.area)) at

      before_none : area_rest d ≡ []
      before_none =
          let r = i.rest in
          let same : d.at ≡ d.end = omega (arith, given, r) in
          rest_none d.area d.at d.end same

      numbers : DrainsTo (trunk_of d) (trunk_of e)
      numbers = drains_take s t (trunk_of d) (trunk_of e) some counts

      resets_few : 0 < (trunk_of e).since → (trunk_of e).resets < 2 ^ 100
      resets_few pushed = ⊎_elim
          (λ (k : ((trunk_of e).since ≡ (trunk_of d).since) × ((trunk_of e).resets ≡ (trunk_of d).resets)).
          let few = i.resets some in let same = k.1 in omega (arith, few, same))
          (λ (k : (0 < (trunk_of d).since) × ((trunk_of e).since ≡ 0) × ((trunk_of e).resets ≡ (trunk_of d).resets + 1)).
          let zero_of = k.1 in absurd (omega (arith, pushed, zero_of)))
          numbers.resets

      below : IsTrue s.device.told → IsBelowTree key step t e
      below told =
          let k = took.taken told in
          let R : List Record → Type 0 = RisesByKey key in
          let B : List Record → Type 0 = λ xs. (q y : Record)
          → tree_contents key step (model_of t (trunk_of e)) q ≡ Some y → AllIn key least_record (Some q) xs in
          record {
            rises = subst R (sym rest_is) k.out.rises;
            below = subst B (sym rest_is) (λ q y h. k.out.least q y (sym (k.contents q) ∙ h));
          }

      left_same : IsTrue s.device.told → (q : Record) → left_in key step t e q ≡ left_in key step s d q
      left_same told q =
          let k = took.taken told in
          let o = record_at key ys q in
          let old = tree_contents key step (model_of s (trunk_of d)) q in
          ap (λ (xs : List Record). or_else (record_at key xs q) (tree_contents key step (model_of t (trunk_of e)) q)) rest_is
          ∙ (ap (or_else o) (k.contents q)
          ∙ (else_without o old (λ y h. k.out.were q y h)
          ∙ sym (ap (λ (xs : List Record). or_else (record_at key xs q) old) before_none)))

      none_left_in : IsTrue s.device.told → e.at ≡ e.end → (q : Record) → left_in key step t e q ≡ None
      none_left_in told same q =
          let empty = rest_none e.area e.at e.end same in
          let all = ap (λ (xs : List Record). or_else (record_at key xs q)
          (tree_contents key step (model_of t (trunk_of e)) q)) empty in
          all ∙ ⊎_elim
          (λ (h : LeavesSome key step e.end t (trunk_of d) (trunk_of e)).
          let many = h.many in absurd (omega (arith, many, same, at)))
          (λ (h : LeavesNothing key step t (trunk_of d) (trunk_of e)). h.contents q)
          (took.ends told)

      pub refilled : Refilled key step IsOp IsKept s t d e
      refilled = record {
        is = record {
          is = took.is;
          area = len ∙ (i.area ∙ ap load_of (sym took.frames.shape));
          out = (let o = i.out in omega (arith, o, took.frames.free_areas));
          rest = omega (arith, at);
          within = took.few;
          resets = resets_few;
          settled = (let f = i.settled in omega (arith, f, numbers.settled));
          told = λ told. below (sym took.session.touches.told ∙ told);
        };
        runs = record {
          session = took.session;
          frames = took.frames;
          pays = took.pays;
          loses = took.loses;
        };
        told = λ told. record {
          left = left_same told;
          none = none_left_in told;
          answers = (took.taken told).answers;
          reset = λ more q. ⊎_elim
              (λ (k : ((trunk_of e).since ≡ (trunk_of d).since) × ((trunk_of e).resets ≡ (trunk_of d).resets)).
              let same = k.1 in absurd (omega (arith, more, same)))
              (λ (k : (0 < (trunk_of d).since) × ((trunk_of e).since ≡ 0) × ((trunk_of e).resets ≡ (trunk_of d).resets + 1)).
              fresh_none key step IsOp IsKept t (trunk_of e) took.is (took.session.touches.told ∙ told) k.1 q)
              numbers.resets;
          quiet = still_quiet key step ys _ _ _ _ (i.is.running.stands told).is
              (took.is.running.stands (took.session.touches.told ∙ told)).is (took.taken told);
        };
      }
