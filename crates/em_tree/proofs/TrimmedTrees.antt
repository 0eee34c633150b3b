-- A tree over the new root that trimming gave: it stands, with the same records and answers.
use Rattle.std.proofs.Common.{◌≡◌, ℕ, ◌+◌, ◌*◌, ◌≤◌, List, [], ◌++◌, length, refl, sym, ap, ◌∙◌, subst, arith, IsTrue}
use Rattle.std.specs.Prelude.{None, Option}
use Rattle.em_record.specs.Shape.{ShapeNumbers, wide_of}
use Rattle.em_record.specs.declared.record.Record.{Record}
use Rattle.em_settle.specs.declared.step.Step.{Step}
use Rattle.em_space.specs.Held.{Apart}
use Rattle.em_space.specs.Ledger.{Session}
use Rattle.em_space.specs.Rig.{RigState, Sound}
use Rattle.em_space.specs.declared.fault.EmFault.{EmFault}
use Rattle.em_space.proofs.Apart.{off_left}
use Rattle.em_space.proofs.Held.{in_use_below}
use Rattle.em_space.proofs.Lists.{apart_left, apart_right, apart_sym, distinct_apart}
use Rattle.em_space.proofs.Paying.{pays_more}
use Rattle.em_space.proofs.Sessions.{session_as, session_beside}
use Rattle.em_space.proofs.Steps.{touches_wider}
use Rattle.em_chain.specs.Writer.{WriterStays, writer_blocks, writer_items}
use Rattle.em_chain.proofs.Laws.{writer_stays}
use Rattle.em_tree_blocks.specs.Reading.{tree_blocks}
use Rattle.em_tree_blocks.proofs.Entries.{tree_level}
use Rattle.em_tree_cost.specs.Outline.{excess_of, stored_of, waiting_of}
use Rattle.em_tree_model.specs.Ranges.{AllIn, IsTree, least_record}
use Rattle.em_tree_model.specs.Tree.{stored_in, waiting_in}
use Rattle.em_tree_model.proofs.Takes.{stored_rises}
use Rattle.em_tree_outline.specs.Outline.{outline_of}
use Rattle.em_tree_outline.proofs.Outlines.{outline_level, outline_stored, outline_waiting}
use Rattle.em_tree_walk.specs.Paid.{LosesNone}
use Rattle.em_tree_walk.specs.declared.splitting.Root.{Root}
use Rattle.em_tree_walk.proofs.Losses.{loses_as, loses_beside}
use Rattle.em_tree_trim.specs.Trimming.{CanTrim, StopsTrimming, TrimmedTree}
use Rattle.em_trunk.specs.Buffers.{NoneFrom}
use Rattle.em_trunk.specs.Events.{Continues}
use Rattle.em_trunk.specs.Sized.{IsSized}
use Rattle.em_trunk.specs.Spots.{EachRead}
use Rattle.em_trunk.specs.Trunk.{AreTrunkNumbers, IsRunning, IsStanding, TrunkHasFrames, given_by, model_of, root_of, sums_in, trunk_blocks}
use Rattle.em_trunk.specs.declared.trunk.Trunk.{Trunk}
use Rattle.em_trunk.proofs.Bounded.{limit_some}
use Rattle.em_trunk.proofs.TrunkLists.{no_items}
use Rattle.em_trunk.proofs.Unbuffered.{can_release}
use Rattle.em_tree.specs.Trimmed.{CanTrimTrunk, IsMadeTrim, MadeTrim, StopsMaking, SumsJoin, leaves_gone, making_moves, root_at}
use Rattle.em_tree.proofs.SameLists.{continues_lists, turn_same}
use Rattle.em_tree.proofs.Settled.{none_waiting}
use Rattle.em_tree.proofs.TrimOutlines.{leaves_unbuffered, left_fat, none_bounded, none_unbuffered, root_child, weight_none}
use Rattle.em_tree.proofs.TrimRoom.{trim_keeps, trim_stops}

-- the tree with another root
abbrev pub with_root : Trunk → Root → Trunk
with_root v new = record v { root = new.block; level = new.level }

module _ {key : Record → Record} {IsOp IsKept : Record → Type 0} {s : RigState} {v : Trunk}
    (run : IsRunning key IsOp IsKept s v) (can : CanTrimTrunk s v) where
  -- What trimming asks.
  pub can_trim : CanTrim key s (root_at v)
  can_trim =
      let free = can_release key IsOp IsKept run can.none in
      let some = run.numbers.level_some in
      record {
        can = record {
          above = omega (arith, some);
          leads = free.leads;
          told = λ z. record {
            formed = (run.stands z).formed;
            none = (free.told z).none;
            holds = (free.told z).holds;
          };
        };
        rises = λ z. stored_rises key (root_of s v) least_record None (run.stands z).is.2;
      }

  -- no operation waits
  pub none_in_model : IsTrue s.device.told → waiting_in (model_of s v) ≡ []
  none_in_model told =
      let below = none_waiting (root_of s v) _ _ _ (can.none told) in
      let own = no_items s v.buffer run.buffer can.drained.unwritten in
      ap (λ (xs : List Record). (xs ++ writer_items s v.buffer) ++ []) below
      ∙ ap (λ (xs : List Record). xs ++ []) own

module _ (key : Record → Record) (step : Option Record → Record → Step) (IsOp IsKept : Record → Type 0)
    (s t : RigState) (v : Trunk) (new : Root) (run : IsRunning key IsOp IsKept s v) (can : CanTrimTrunk s v)
    (h : TrimmedTree key s t (root_at v) new) where
  abbrev after : Trunk
  after = with_root v new

  abbrev lists : List ℕ
  lists = writer_blocks s v.buffer ++ writer_blocks s v.answers

  abbrev tree : List ℕ
  tree = tree_blocks v.level s v.root

  abbrev made : List ℕ
  made = tree_blocks new.level t new.block

  told_on : IsTrue s.device.told → IsTrue t.device.told
  told_on z = h.session.touches.told ∙ z

  lists_apart : IsTrue s.device.told → Apart lists tree
  lists_apart z = apart_sym tree lists (distinct_apart tree lists ((run.stands z).holds.distinct z))

  frames : TrunkHasFrames t after
  frames = record {
    buffer = rw (h.frames.shape) run.frames.buffer;
    answers = rw (h.frames.shape) run.frames.answers;
    out = rw (h.frames.free, h.frames.shape) run.frames.out;
  }

  buffer_stays : WriterStays s t v.buffer
  buffer_stays =
      let f = frames in
      writer_stays tree s t v.buffer h.session.touches
      (λ z. apart_left (writer_blocks s v.buffer) (writer_blocks s v.answers) tree (lists_apart z))
      (record { len_is = f.buffer; out = omega (arith, f.out) }) run.buffer

  answers_stay : WriterStays s t v.answers
  answers_stay =
      let f = frames in
      writer_stays tree s t v.answers h.session.touches
      (λ z. apart_right (writer_blocks s v.buffer) (writer_blocks s v.answers) tree (lists_apart z))
      (record { len_is = f.answers; out = omega (arith, f.out) }) run.answers

  blocks_are : IsTrue s.device.told → trunk_blocks t after ≡ made ++ lists
  blocks_are z = ap (λ ks. made ++ (ks ++ writer_blocks t v.answers)) (buffer_stays.blocks z)
      ∙ ap (λ ks. made ++ (writer_blocks s v.buffer ++ ks)) (answers_stay.blocks z)

  session : Session (trunk_blocks s v) s t (trunk_blocks t after)
  session = session_as (trunk_blocks t after)
      (session_beside [] tree made lists (λ z. (run.stands z).holds) h.session) blocks_are

  loses : LosesNone (trunk_blocks s v) (trunk_blocks t after) s t
  loses = loses_as (trunk_blocks s v) (made ++ lists) (trunk_blocks t after) s t
      (loses_beside [] tree made lists s t h.loses) blocks_are

  numbers : AreTrunkNumbers t after
  numbers =
      let n = run.numbers in
      let later = h.session.touches.moves in
      record {
        level_some = h.level_some;
        level_most = h.level_most;
        since_most = n.since_most;
        longest_most = n.longest_most;
        pushed_most = n.pushed_most;
        settled_most = n.settled_most;
        resets_most = n.resets_most;
        adopted_most = n.adopted_most;
        counted_most = n.counted_most;
        spent_most = omega (arith, n.spent_most, later);
        root_below = in_use_below t new.block h.session.sound h.leads.in_use;
      }

  module _ (told : IsTrue s.device.told) where
    none_after : EachRead (NoneFrom 0) t after
    none_after = none_unbuffered new.level t new.block new.level least_record None (h.told told).can.none

    no_ops : writer_items t v.buffer ≡ []
    no_ops = no_items t v.buffer buffer_stays.is can.drained.unwritten

    none_then : waiting_in (model_of t after) ≡ []
    none_then = ap (λ (xs : List Record). (xs ++ writer_items t v.buffer) ++ [])
        (none_waiting (root_of t after) _ _ _ none_after)
        ∙ ap (λ (xs : List Record). xs ++ []) no_ops

    same_waiting : waiting_in (model_of t after) ≡ waiting_in (model_of s v)
    same_waiting = none_then ∙ sym (none_in_model run can told)

    same_stored : stored_in (model_of t after) ≡ stored_in (model_of s v)
    same_stored = ap (λ (xs : List Record). xs ++ []) (h.told told).stored

    is_tree : IsTree key (model_of t after) least_record None
    is_tree =
        let A : List Record → Type 0 = λ xs. AllIn key least_record None xs in (
          root_child new.level t new.block (h.leads.told (told_on told)).rows,
          subst A (sym no_ops) tt,
          (h.told told).is,
          tt,
          tt,
        )

    sized : IsSized t.pool.shape (outline_of (model_of t after))
    sized =
        let x = h.told told in
        let i = (h.leads.told (told_on told)).is in
        let even = outline_level key (root_of t after) new.level least_record None x.is
        (tree_level new.level t new.block) in
        record {
          leaves = (leaves_unbuffered new.level t (told_on told) new.block i x.can.none, tt);
          nodes = (x.few, x.nodes, tt);
          fat = (left_fat t.pool.shape (outline_of (root_of t after)) new.level even x.trim, tt);
        }

    standing : IsStanding key IsOp IsKept t after
    standing =
        let st = run.stands told in
        let x = h.told told in
        record {
          holds = session.holds told;
          stored = (h.leads.told (told_on told)).is;
          formed = x.can.formed;
          is = is_tree;
          turn = turn_same key step IsOp IsKept (model_of s v) (model_of t after) is_tree same_stored same_waiting
              st.turn;
          lows = x.lows;
          sized = sized;
          bounded = none_bounded new.level _ (limit_some h.session.sound.shape) least_record None
              (root_of t after) none_after;
          packed = buffer_stays.packed told st.packed;
          answers_packed = answers_stay.packed told st.answers_packed;
        }

    continues : Continues key step IsOp IsKept (given_by s v) (model_of s v) (given_by t after) (model_of t after)
    continues =
        let P : List Record → Type 0 = λ xs. Continues key step IsOp IsKept (given_by s v) (model_of s v) xs
        (model_of t after) in
        subst P (sym (answers_stay.items told)) (continues_lists key step IsOp IsKept (model_of s v)
        (model_of t after) is_tree same_stored same_waiting (given_by s v))

    -- the sums, by the shape before
    abbrev half : ℕ
    half = 2 * wide_of s.pool.shape * s.pool.shape.block

    joins : SumsJoin (wide_of s.pool.shape) s.pool.shape.block (leaves_gone s t v after) (sums_in s v)
        (sums_in t after)
    joins =
        let x = h.told told in
        let j = x.joins in
        let fewer = j.fewer in
        let u = outline_of (root_of t after) in
        let none : waiting_of u ≡ 0 = outline_waiting (root_of t after)
        ∙ ap length (none_waiting (root_of t after) _ _ _ none_after) in
        let no_weight = weight_none new.level u none in
        let empty = can.drained.empty in
        let lone : new.level * v.buffer.count ≡ new.level * 0 = ap (λ (n : ℕ). new.level * n) empty in
        let stored : stored_of u ≡ stored_of (outline_of (root_of s v)) =
        outline_stored (root_of t after) ∙ (ap length x.stored ∙ sym (outline_stored (root_of s v))) in
        let E : ShapeNumbers → Type 0 = λ g. excess_of (2 * wide_of g * g.block) u
        ≤ excess_of half (outline_of (root_of s v))
        + wide_of s.pool.shape * s.pool.shape.block * leaves_gone s t v after in
        record {
          leaves = omega (arith, fewer);
          some = j.some;
          waiting = omega (arith, none, empty);
          weight = omega (arith, no_weight, lone);
          stored = omega (arith, stored);
          excess = subst E (sym h.frames.shape) j.excess;
        }

    made_trim : IsMadeTrim key step IsOp IsKept s t v after
    made_trim = record {
      continues = continues;
      none = none_after;
      trim = (h.told told).trim;
      joins = joins;
    }

  pub trunk_made : Sound s → MadeTrim key step IsOp IsKept (making_moves s v) s t v after
  trunk_made sound = record {
    session = session;
    frames = h.frames;
    pays = pays_more h.pays (omega arith);
    loses = loses;
    numbers = record {
      pushed = refl;
      longest = refl;
      since = refl;
      settled = refl;
      resets = refl;
      spent = refl;
      adopted = refl;
      counted = refl;
    };
    drained = record { empty = can.drained.empty; unwritten = can.drained.unwritten };
    answers = refl;
    running = record {
      frames = frames;
      numbers = numbers;
      buffer = buffer_stays.is;
      answers = answers_stay.is;
      stands = λ z. standing (sym h.session.touches.told ∙ z);
    };
    told = λ z. made_trim z;
    moves = h.moves;
    room = λ z g k. trim_keeps run sound.shape z can (h.most z) g k;
  }

-- It gave up: the tree has its frames.
pub trunk_unmade : {key : Record → Record} {IsOp IsKept : Record → Type 0} {s t : RigState} {v : Trunk}
    {fault : EmFault} → IsRunning key IsOp IsKept s v → CanTrimTrunk s v → Sound s
    → StopsTrimming s t (root_at v) fault → StopsMaking (making_moves s v) s t v v fault
trunk_unmade {s = s} {t = t} {v = v} run can sound h =
    let tree = tree_blocks v.level s v.root in
    let lists = writer_blocks s v.buffer ++ writer_blocks s v.answers in
    record {
      goes = record {
        sound = h.goes.sound;
        touches = touches_wider (trunk_blocks s v) tree s t h.goes.touches (λ z k u o. off_left k tree lists o);
        frames = h.goes.frames;
      };
      frames = record {
        buffer = rw (h.goes.frames.shape) run.frames.buffer;
        answers = rw (h.goes.frames.shape) run.frames.answers;
        out = rw (h.goes.frames.free, h.goes.frames.shape) run.frames.out;
      };
      pays = pays_more h.pays (omega arith);
      numbers = record {
        pushed = refl;
        longest = refl;
        since = refl;
        settled = refl;
        resets = refl;
        spent = refl;
        adopted = refl;
        counted = refl;
      };
      cause = h.cause;
      moves = h.moves;
      room = λ z g k. trim_stops run sound.shape z can (h.most z) (h.full z) g k;
    }
