-- What a visit does with the first leaf, by its parts: records are taken, and the leaf is removed.
use Rattle.std.proofs.Common.{◌≡◌, true, false, nat_le, ℕ, ◌+◌, ◌-◌, ◌%◌, ◌<◌, ◌≤◌, List, [], ◌∷◌, ◌++◌, drop, length, take, refl, sym, ap, ◌∙◌, subst, arith, IsTrue, Some, None, ⊎_elim, mod-lt}
use Rattle.std.proofs.lemmas.Bool.{cases_Bool, cond-false, cond-true, leb-false, leb-true}
use Rattle.std.proofs.lemmas.List.{append-nil}
use Rattle.em_record.specs.declared.record.Record.{Record}
use Rattle.em_space.specs.Free.{Off}
use Rattle.em_space.specs.Held.{Holds}
use Rattle.em_space.specs.Ledger.{Session}
use Rattle.em_space.specs.Rig.{InUse, RigState, Touches}
use Rattle.em_space.specs.declared.fault.EmFault.{EmFault}
use Rattle.em_space.proofs.Paying.{pays_more, pays_then}
use Rattle.em_space.proofs.Sessions.{session_trans}
use Rattle.em_space.proofs.Steps.{block_cause, cause_after, goes_trans, same_frames_then, touches_wider}
use Rattle.em_chain.specs.Chain.{payload_in}
use Rattle.em_chain.specs.declared.chain.Chain.{Chain}
use Rattle.em_chain.proofs.Readers.{length_items}
use Rattle.em_tree_model.specs.Ranges.{least_record}
use Rattle.em_tree_model.specs.Taking.{IsAlone, without_first}
use Rattle.em_tree_model.specs.Tree.{Tree, HasEntry, first_leaf, over_first, with_first_leaf}
use Rattle.em_tree_model.proofs.Removal.{alone_with, over_with, without_with}
use Rattle.em_tree_blocks.specs.Paths.{first_path, level_on, node_on, place_on}
use Rattle.em_tree_blocks.specs.Reading.{IsTreeAt, stored_chain, tree_at, tree_blocks}
use Rattle.em_tree_blocks.proofs.Paths.{tree_on}
use Rattle.em_tree_load.specs.FirstLeaves.{IsFork, IsLastFork, IsLone, IsOnFirstWay}
use Rattle.em_tree_walk.specs.Forms.{AreFormed}
use Rattle.em_tree_load.specs.LeafTakes.{CanTakeLeaf, StopsTakingLeaf, TookLeaf, taken_count}
use Rattle.em_tree_load.specs.Removals.{CanRemoveFirst, RemovedFirst, StopsRemoving}
use Rattle.em_tree_load.specs.Releases.{CanRelease, IsUnbuffered}
use Rattle.em_tree_load.specs.declared.seeking.FirstLeaf.{FirstLeaf}
use Rattle.em_tree_walk.specs.declared.splitting.Root.{Root}
use Rattle.em_tree_load.proofs.FirstGone.{first_place, over_first_put, without_above, without_put}
use Rattle.em_tree_load.proofs.FirstWays.{first_items_are, records_at}
use Rattle.em_tree_walk.proofs.Losses.{loses_then}
use Rattle.em_tree_walk.specs.Stands.{LeadsToTree}
use Rattle.em_tree_visits.specs.Leavings.{CanLeave, ChangesTree, EmptiedLeaf, EmptiedTree, PartLeaf, RemovedLeaf, StopsEmptying, StopsLeaving}
use Rattle.em_trunk.specs.Sized.{leaf_limit}
use Rattle.em_tree_visits.proofs.FirstPaths.{fork_some, formed_on, holds_on, lone_alone, off_on, on_way_rest, some_at, stands_on, way_level}
use Rattle.em_tree_visits.proofs.LeafOut.{LeafOut, alone_lone, fork_stays, leads_by, leaf_out, session_by, touches_one, way_stays, way_worked}
use Rattle.em_tree_buffers.proofs.Lifted.{TreeWorked}
use Rattle.em_tree_visits.proofs.LoneTrees.{alone_few, alone_none, lone_length, none_there}
use Rattle.em_trunk.proofs.Unbuffered.{unbuffered}
use Rattle.em_trunk.proofs.TrunkLists.{touches_told}
use Rattle.em_space.proofs.Ledgers.{full_by, full_never}
use Rattle.em_tree_load.proofs.Peaks.{peaks_then, peaks_wider}

-- How many records are taken: all if they have room,
pub all_taken : (P most n : ℕ) → n ≤ most → taken_count P most n ≡ n
all_taken P most n h = ⊎_elim
    (λ (t : nat_le n most ≡ true). cond-true _ _ _ t)
    (λ (f : nat_le n most ≡ false). (let g = leb-false n most f in absurd (omega (arith, h, g))))
    (cases_Bool (nat_le n most))

-- and else as many as fill whole blocks, fewer than there are.
pub part_taken : (P most n : ℕ) → 0 < P → most < n
    → (taken_count P most n ≤ most) × (most < taken_count P most n + P)
part_taken P most n some h = ⊎_elim
    (λ (t : nat_le n most ≡ true). (let g = leb-true n most t in absurd (omega (arith, h, g))))
    (λ (f : nat_le n most ≡ false).
    let e : taken_count P most n ≡ most - most % P = cond-false _ _ _ f in
    let m : most % P < P = mod-lt most some in
    (omega (arith, e), omega (arith, e, m)))
    (cases_Bool (nat_le n most))

-- a list with no record
pub no_records : (xs : List Record) → length xs ≡ 0 → xs ≡ []
no_records [] e = refl
no_records (x ∷ xs) e = absurd (omega (arith, e))

module _ {s : RigState} {top root : ℕ} {x : FirstLeaf} (can : CanLeave s top root x) where
  -- Its records can be taken.
  pub leaf_can : CanTakeLeaf s x.leaf x.stored
  leaf_can = record {
    in_use = can.in_use;
    chain = can.chain;
    told = λ z.
        let f = can.told z in
        let on = f.found.leaf in
        let n = top - 0 in
        let stands = stands_on n top s root on.path ((can.leads.told z)) in
        let level : level_on (first_path n) top ≡ 0 = way_level 0 top on.below in
        let S : ℕ → ℕ → Type 0 = λ j k. IsTreeAt j s k in
        let H : ℕ → ℕ → Type 0 = λ j k. Holds s (tree_blocks j s k) in
        let here = node_on (first_path n) top s root in
        let e = sym on.node_is in
        record {
          stored_is = f.found.stored;
          at_leaf =
              let A : ℕ → Type 0 = λ j. S j here in
              let B : ℕ → Type 0 = λ k. S 0 k in
              subst B e (subst A level stands.is);
          holds =
              let A : ℕ → Type 0 = λ j. H j here in
              let B : ℕ → Type 0 = λ k. H 0 k in
              subst B e (subst A level (holds_on (first_path n) top s root on.path f.holds));
        };
  }

  -- The first leaf's blocks are among those of the tree.
  leaf_off : IsTrue s.device.told → (k : ℕ) → Off k (tree_blocks top s root)
      → Off k (tree_blocks 0 s x.leaf)
  leaf_off z k o =
      let on = (can.told z).found.leaf in
      let n = top - 0 in
      let level : level_on (first_path n) top ≡ 0 = way_level 0 top on.below in
      let here = node_on (first_path n) top s root in
      let A : ℕ → Type 0 = λ j. Off k (tree_blocks j s here) in
      let B : ℕ → Type 0 = λ j. Off k (tree_blocks 0 s j) in
      subst B (sym on.node_is) (subst A level (off_on (first_path n) top s root k on.path o))

  -- Taking them gave up.
  pub take_stopped : {t : RigState} {fault : EmFault} → StopsTakingLeaf s t x.leaf x.stored fault
      → StopsLeaving s t top root x fault
  take_stopped {t} {fault} h = record {
    goes = record {
      sound = h.goes.sound;
      touches = touches_wider (tree_blocks top s root) (tree_blocks 0 s x.leaf) s t h.goes.touches
          (λ z k u o. leaf_off z k o);
      frames = h.goes.frames;
    };
    pays = pays_more h.pays (omega arith);
    cause = block_cause s t fault h.cause;
    full = full_never s t fault (IsTrue s.device.told → ⊥) h.cause;
    peaks = peaks_wider 2 (omega arith) h.peaks;
    moves = λ z. (let m = h.moves in omega (arith, m));
  }

  -- what is stored there
  pub first_stored : IsTrue s.device.told → first_leaf (tree_at top s root) ≡ records_at s x.leaf
  first_stored z = first_items_are s top root x.leaf (can.told z).found.leaf

  -- its number
  pub first_count : IsTrue s.device.told → length (first_leaf (tree_at top s root)) ≡ x.stored.count
  first_count z =
      let f = can.told z in
      let h = leaf_can.told z in
      ap length (first_stored z) ∙ (length_items s (stored_chain s x.leaf) h.at_leaf.stored z
      ∙ ap (λ (c : Chain). c.count) (sym h.stored_is))

  module _ {t : RigState} {old new : List Record} {from most n : ℕ}
      (took : TookLeaf s t x.leaf x.stored old new from most n) where
    -- what stands then
    pub whole_out : IsTrue s.device.told → LeafOut s t top root x.leaf
    whole_out z =
        let f = can.told z in
        leaf_out z f.found.leaf ((can.leads.told z)) f.formed f.holds took.session took.loses (took.told z).at_leaf

    pub taken_touches : Touches (tree_blocks top s root) s t
    taken_touches = touches_one took.session.touches (λ z. (whole_out z).session.touches)

    pub taken_changes : ChangesTree s t top root top root
    taken_changes = record {
      session = session_by took.session.sound taken_touches (λ z. (whole_out z).session);
      frames = took.frames;
      pays = took.pays;
      loses = λ z. (whole_out z).loses z;
      peaks = peaks_wider 2 (omega arith) took.peaks;
    }

    -- the records that it has left
    pub left_count : (z : IsTrue s.device.told)
        → length (records_at t x.leaf) + n ≡ length (first_leaf (tree_at top s root))
    left_count z =
        let r = took.told z in
        let is = length_items t (stored_chain t x.leaf) r.at_leaf.stored (took.session.touches.told ∙ z) in
        let h = leaf_can.told z in
        let all = first_count z in
        let same : (stored_chain s x.leaf).count ≡ x.stored.count =
        ap (λ (c : Chain). c.count) (sym h.stored_is) in
        let e = r.count in
        omega (arith, is, all, same, e)

    -- A part of its records was taken.
    pub part_left : from ≤ length old → from + most ≡ length old → most < x.stored.count
        → 0 < payload_in s → PartLeaf s t top root old new from n
    part_left inside all more some =
        let c = part_taken (payload_in s) most x.stored.count some more in
        let count = took.count in
        record {
          changes = taken_changes;
          fills = record { kept = took.kept; few = (let a = c.0 in omega (arith, a, count, all)) };
          many = (let a = c.1 in omega (arith, a, count, all));
          told = λ z.
              let o = whole_out z in
              let r = took.told z in
              let left = left_count z in
              let stored = first_count z in
              record {
                rest = records_at t x.leaf;
                some = (let a = c.0 in omega (arith, left, stored, a, count, more));
                stored = first_stored z ∙ r.items;
                reads = o.reads;
                is = o.stands.is;
                formed = o.formed;
                moves = (let m = r.moves in omega (arith, m));
              };
        }

    module _ (all : n ≡ x.stored.count) where
      -- All were taken: none is left,
      pub none_left : IsTrue s.device.told → records_at t x.leaf ≡ []
      none_left z =
          let left = left_count z in
          let stored = first_count z in
          no_records (records_at t x.leaf) (omega (arith, left, stored, all))

      pub all_stored : (z : IsTrue s.device.told)
          → first_leaf (tree_at top s root) ≡ take n (drop from new)
      all_stored z =
          let r = took.told z in
          let xs = take n (drop from new) in
          first_stored z ∙ (r.items ∙ (ap (λ ys. xs ++ ys) (none_left z) ∙ append-nil xs))

      -- and the whole tree is read so.
      pub whole_reads : IsTrue s.device.told → tree_at top t root ≡ with_first_leaf (tree_at top s root) []
      whole_reads z = (whole_out z).reads
          ∙ ap (λ ys. with_first_leaf (tree_at top s root) ys) (none_left z)

      -- The fork and its tree.
      module _ (f : Root) (leads : (0 < f.level) × (f.level ≤ top) × LeadsToTree s f.level f.block)
          (last : IsTrue s.device.told → IsLastFork s top root (Some f)) where
        fork_on : IsTrue s.device.told → IsOnFirstWay s top root f.level f.block
        fork_on z = (last z).0

        rest_on : IsTrue s.device.told → IsOnFirstWay s f.level f.block 0 x.leaf
        rest_on z = on_way_rest s top root f.level f.block x.leaf (fork_on z) (can.told z).found.leaf

        -- what it has of the whole tree
        at_fork : (P : ℕ → ℕ → Type 0) → (z : IsTrue s.device.told)
            → P (level_on (first_path (top - f.level)) top) (node_on (first_path (top - f.level)) top s root)
            → P f.level f.block
        at_fork P z p =
            let on = fork_on z in
            let here = node_on (first_path (top - f.level)) top s root in
            let A : ℕ → Type 0 = λ j. P j here in
            let B : ℕ → Type 0 = λ k. P f.level k in
            subst B (sym on.node_is) (subst A (way_level f.level top on.below) p)

        fork_formed : IsTrue s.device.told → AreFormed f.level s f.block
        fork_formed z = at_fork (λ j k. AreFormed j s k) z
            (formed_on (top - f.level) top s root (fork_on z).path (can.told z).formed)

        fork_holds : IsTrue s.device.told → Holds s (tree_blocks f.level s f.block)
        fork_holds z = at_fork (λ j k. Holds s (tree_blocks j s k)) z
            (holds_on (first_path (top - f.level)) top s root (fork_on z).path (can.told z).holds)

        fork_out : IsTrue s.device.told → LeafOut s t f.level f.block x.leaf
        fork_out z = leaf_out z (rest_on z) (leads.2.told z) (fork_formed z) (fork_holds z) took.session
            took.loses (took.told z).at_leaf

        fork_reads : IsTrue s.device.told
            → tree_at f.level t f.block ≡ with_first_leaf (tree_at f.level s f.block) []
        fork_reads z = (fork_out z).reads
            ∙ ap (λ ys. with_first_leaf (tree_at f.level s f.block) ys) (none_left z)

        fork_first : IsTrue s.device.told → first_leaf (tree_at f.level t f.block) ≡ []
        fork_first z =
            let T : ℕ → Type 0 = λ m. m ≡ 0 in
            let on : IsOnFirstWay t f.level f.block 0 x.leaf =
            way_stays z (rest_on z) (leads.2.told z).is (fork_holds z) took.session.touches in
            first_items_are t f.level f.block x.leaf on ∙ none_left z

        fork_over : IsTrue s.device.told → over_first (tree_at f.level t f.block) ≡ []
        fork_over z =
            let n = top - f.level in
            let on = fork_on z in
            let p = place_on (first_path n) top s root in
            let there = tree_on (first_path n) top s root on.path in
            let E : ℕ → ℕ → Type 0 = λ j k. over_first (tree_at j s k) ≡ [] in
            let old : over_first (tree_at f.level s f.block) ≡ [] =
            at_fork E z (over_first_put p
            (tree_at (level_on (first_path n) top) s (node_on (first_path n) top s root))
            (first_place n top s root) (ap over_first (sym there) ∙ (can.told z).none_waits)) in
            ap over_first (fork_reads z) ∙ (over_with (tree_at f.level s f.block) [] ∙ old)

        fork_is : IsTrue s.device.told → IsFork t f.level f.block
        fork_is z = fork_stays s t f.level f.block [] leads.0 (fork_reads z) (last z).1

        -- The leaf can be removed.
        pub fork_can : CanRemoveFirst t f.level f.block
        fork_can = record {
          leads = leads_by took.session.touches leads.2.in_use (λ z. (fork_out z).stands);
          told = λ y.
              let z : IsTrue s.device.told = sym took.session.touches.told ∙ y in
              record {
                fork = fork_is z;
                formed = (fork_out z).formed;
                none_stored = fork_first z;
                none_waits = fork_over z;
                holds = (fork_out z).session.holds z;
              };
        }

        -- the way to the fork, then
        fork_still : IsTrue s.device.told → IsOnFirstWay t top root f.level f.block
        fork_still z = way_stays z (fork_on z) ((can.leads.told z)).is (can.told z).holds
            (fork_out z).session.touches

        next : IsTrue s.device.told → IsTrue t.device.told
        next z = took.session.touches.told ∙ z

        sub_off : (z : IsTrue s.device.told) → (k : ℕ) → InUse s k → Off k (tree_blocks top s root)
            → Off k (tree_blocks f.level t f.block)
        sub_off z k u o =
            let on = fork_still z in
            let n = top - f.level in
            let here = node_on (first_path n) top t root in
            let all : Off k (tree_blocks top t root) = (whole_out z).session.within.off z k u o in
            let A : ℕ → Type 0 = λ j. Off k (tree_blocks j t here) in
            let B : ℕ → Type 0 = λ j. Off k (tree_blocks f.level t j) in
            subst B (sym on.node_is) (subst A (way_level f.level top on.below)
            (off_on (first_path n) top t root k on.path all))

        -- Removing it gave up,
        pub remove_stopped : {u : RigState} {fault : EmFault} → StopsRemoving t u f.level f.block fault
            → StopsLeaving s u top root x fault
        remove_stopped {u} {fault} h = record {
          goes = goes_trans (tree_blocks top s root) (tree_blocks f.level t f.block) s t u
              (record { sound = took.session.sound; touches = taken_touches; frames = took.frames }) h.goes
              (λ z k i o. sub_off z k i o);
          pays = pays_then took.pays (pays_more h.pays (omega arith)) h.goes.touches.moves;
          cause = cause_after (tree_blocks 0 s x.leaf) s t u fault took.session.touches
              (block_cause t u fault h.cause);
          full = full_never t u fault (IsTrue s.device.told → ⊥) h.cause;
          peaks = peaks_then 2 took.peaks h.peaks (omega arith);
          moves = λ z.
              let a = took.moves in
              let b = h.moves in
              let below = leads.1 in
              omega (arith, a, b, below);
        }

        -- or was done.
        module _ {u : RigState} (gone : RemovedFirst t u f.level f.block) where
          abbrev fork_way : List ℕ
          fork_way = first_path (top - f.level)

          -- the removal, on the whole tree
          lifted : IsTrue s.device.told → TreeWorked t u fork_way top root
          lifted z =
              let y = next z in
              way_worked y (fork_still z) (whole_out z).stands.is ((whole_out z).session.holds z) gone.session
              gone.loses ((gone.leads.told (gone.session.touches.told ∙ y)).is)

          both_session : IsTrue s.device.told → Session (tree_blocks top s root) s u (tree_blocks top u root)
          both_session z = session_trans (whole_out z).session (lifted z).session

          -- of the fork's tree, by the end of the way to it
          from_fork : (P : ℕ → ℕ → Type 0) → (z : IsTrue s.device.told) → P f.level f.block
              → P (level_on fork_way top) (node_on fork_way top t root)
          from_fork P z p =
              let on = fork_still z in
              let here = node_on fork_way top t root in
              let A : ℕ → Type 0 = λ k. P f.level k in
              let B : ℕ → Type 0 = λ j. P j here in
              subst B (sym (way_level f.level top on.below)) (subst A on.node_is p)

          fork_left : IsTrue s.device.told → HasEntry (without_first (tree_at f.level t f.block))
          fork_left z = fork_some f.level t f.block leads.0 (fork_is z)

          gone_reads : IsTrue s.device.told → tree_at top u root ≡ without_first (tree_at top s root)
          gone_reads z =
              let y = next z in
              without_above t u (top - f.level) top root (fork_still z).path (lifted z).reads
              (from_fork (λ j k. tree_at j u k ≡ without_first (tree_at j t k)) z (gone.told y).tree)
              (from_fork (λ j k. HasEntry (without_first (tree_at j t k))) z (fork_left z))
              ∙ (ap without_first (whole_reads z) ∙ without_with (tree_at top s root) [])

          some_left : IsTrue s.device.told → HasEntry (without_first (tree_at top s root))
          some_left z =
              let on = fork_on z in
              let p = place_on fork_way top s root in
              let x = tree_at (level_on fork_way top) s (node_on fork_way top s root) in
              let first = first_place (top - f.level) top s root in
              let here = node_on fork_way top s root in
              let some : HasEntry (without_first x) =
              (let P : ℕ → ℕ → Type 0 = λ j k. HasEntry (without_first (tree_at j s k)) in
              let A : ℕ → Type 0 = λ k. P f.level k in
              let B : ℕ → Type 0 = λ j. P j here in
              subst B (sym (way_level f.level top on.below)) (subst A on.node_is
              (fork_some f.level s f.block leads.0 (last z).1))) in
              let E : Tree → Type 0 = HasEntry in
              let F : Tree → Type 0 = λ y. HasEntry (without_first y) in
              subst F (sym (tree_on fork_way top s root on.path))
              (subst E (sym (without_put p x first some)) (some_at p (without_first x) first some))

          pub leaf_removed : from + most ≤ length old → x.stored.count ≤ most
              → RemovedLeaf s u top root old new from n
          leaf_removed inside fits = record {
            changes = record {
              session = session_by gone.session.sound
                  (touches_told took.session.touches gone.session.touches (λ z. (both_session z).touches))
                  both_session;
              frames = same_frames_then s.pool t.pool u.pool took.frames gone.frames;
              pays = pays_then took.pays gone.pays gone.session.touches.moves;
              loses = λ z. loses_then (tree_blocks top s root) (tree_blocks top t root)
                  (tree_blocks top u root) s t u took.session.touches.told (whole_out z).loses
                  (lifted z).loses z;
              peaks = peaks_then 2 took.peaks gone.peaks (omega arith);
            };
            fills = record { kept = took.kept; few = omega (arith, inside, fits, all) };
            told = λ z.
                let r = took.told z in
                record {
                  stored = all_stored z;
                  reads = gone_reads z;
                  some = some_left z;
                  is = (lifted z).is;
                  formed = (lifted z).formed
                      (λ a. from_fork (λ j k. AreFormed j u k) z (gone.told (next z)).formed)
                      (whole_out z).formed;
                  moves =
                      let a = r.moves in
                      let b = gone.moves in
                      let below = leads.1 in
                      omega (arith, a, b, below);
                };
          }

      -- Of a leaf alone, the tree can be released.
      module _ (lone : IsTrue s.device.told → IsLone top s root) where
        lone_after : IsTrue s.device.told → IsAlone (tree_at top t root)
        lone_after z =
            let A : Tree → Type 0 = IsAlone in
            subst A (sym (whole_reads z)) (alone_with (tree_at top s root) [] (lone_alone top s root (lone z)))

        first_none : IsTrue s.device.told → first_leaf (tree_at top t root) ≡ []
        first_none z = ap first_leaf (whole_reads z) ∙ none_there (tree_at top s root)

        over_none : IsTrue s.device.told → over_first (tree_at top t root) ≡ []
        over_none z = ap over_first (whole_reads z)
            ∙ (over_with (tree_at top s root) [] ∙ (can.told z).none_waits)

        lone_unbuffered : IsTrue s.device.told → IsUnbuffered top t root
        lone_unbuffered z = unbuffered top t (took.session.touches.told ∙ z) root top least_record None
            (whole_out z).stands.is
            (alone_none (tree_at top t root) top least_record None (lone_after z) (over_none z))
            (alone_few (leaf_limit t.pool.shape) (tree_at top t root) (lone_after z) (first_none z))

        pub lone_can : CanRelease t top root
        lone_can = record {
          leads = leads_by took.session.touches can.leads.in_use (λ z. (whole_out z).stands);
          told = λ y.
              let z : IsTrue s.device.told = sym took.session.touches.told ∙ y in
              record { none = lone_unbuffered z; holds = (whole_out z).session.holds z };
        }

        -- It has a block for each level and one for the leaf.
        few_blocks : (z : IsTrue s.device.told) → length (tree_blocks top t root) ≡ top + 1
        few_blocks z = lone_length top t root (took.session.touches.told ∙ z)
            (alone_lone top t root (lone_after z)) (lone_unbuffered z) (whole_out z).stands.is (first_none z)

        module _ {u : RigState} where
          -- It was, and a new one planted,
          pub leaf_emptied : {block : ℕ} → from + most ≤ length old → x.stored.count ≤ most
              → EmptiedTree t u top root block → EmptiedLeaf s u top root block old new from n
          leaf_emptied {block} inside fits e =
              let c = e.changes in
              let both = λ (z : IsTrue s.device.told).
              (let w : Session (tree_blocks top s root) s u (tree_blocks 1 u block) =
              session_trans (whole_out z).session c.session in w) in
              record {
                changes = record {
                  session = session_by c.session.sound
                      (touches_told took.session.touches c.session.touches (λ z. (both z).touches)) both;
                  frames = same_frames_then s.pool t.pool u.pool took.frames c.frames;
                  pays = pays_then took.pays c.pays c.session.touches.moves;
                  loses = λ z. loses_then (tree_blocks top s root) (tree_blocks top t root)
                      (tree_blocks 1 u block) s t u took.session.touches.told (whole_out z).loses c.loses z;
                  peaks = peaks_then 2 took.peaks c.peaks (omega arith);
                };
                fills = record { kept = took.kept; few = omega (arith, inside, fits, all) };
                in_use = e.in_use;
                told = λ z.
                    let y : IsTrue t.device.told = took.session.touches.told ∙ z in
                    let r = took.told z in
                    record {
                      stored = all_stored z;
                      lone = lone_alone top s root (lone z);
                      reads = e.reads y;
                      is = e.is y;
                      formed = e.formed y;
                      moves =
                          let a = r.moves in
                          let b = e.moves y in
                          let n = few_blocks z in
                          omega (arith, a, b, n);
                    };
              }

          -- or not.
          pub empty_stopped : {fault : EmFault} → StopsEmptying t u top root fault
              → StopsLeaving s u top root x fault
          empty_stopped {fault} h = record {
            goes = goes_trans (tree_blocks top s root) (tree_blocks top t root) s t u
                (record { sound = took.session.sound; touches = taken_touches; frames = took.frames }) h.goes
                (λ z k i o. (whole_out z).session.within.off z k i o);
            pays = pays_then took.pays h.pays h.goes.touches.moves;
            cause = cause_after (tree_blocks 0 s x.leaf) s t u fault took.session.touches h.cause;
            full = full_by fault (IsTrue t.device.told → t.blocks + length (tree_blocks top t root) < t.used + 2)
                (IsTrue s.device.told → ⊥)
                (λ few z.
                (let n = few_blocks z in
                let some = can.above in
                let least = few (took.session.touches.told ∙ z) in
                let a = took.session.sound.numbers.used_most in
                let b = took.session.sound.numbers.most_high in
                omega (arith, n, some, least, a, b))) h.full;
            peaks = peaks_then 2 took.peaks h.peaks (omega arith);
            moves = λ z.
                let a = took.moves in
                let b = h.moves (took.session.touches.told ∙ z) in
                let n = few_blocks z in
                let some = can.above in
                omega (arith, a, b, n, some);
          }
