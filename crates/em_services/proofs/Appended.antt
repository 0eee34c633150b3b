-- A drain gives its records, and each is appended to a list.
use Rattle.std.proofs.Common.{◌≡◌, ℕ, ◌+◌, ◌*◌, ◌<◌, ◌≤◌, ◌^◌, max, min, List, [], ◌∷◌, ◌++◌, length, length-append, length-drop, append-nil, append_assoc, refl, ap, sym, subst, ◌∙◌, arith, IsTrue, Option, Some, None, option_to_list, Ok}
use Rattle.std.proofs.Math.Nat.{mul-le-mul_left}
use Rattle.em_record.specs.Shape.{ShapeNumbers, payload_of}
use Rattle.em_record.specs.declared.record.Record.{Record}
use Rattle.em_model.specs.Map.{Combiner}
use Rattle.em_settle.specs.Add.{IsAddOp, add_step_of}
use Rattle.em_settle.specs.Map.{IsMapKept, map_key_of}
use Rattle.em_frames.specs.Pool.{SameFrames, load_of, singles_of}
use Rattle.em_space.specs.Held.{Apart}
use Rattle.em_space.specs.Ledger.{Halts, Spends}
use Rattle.em_space.specs.Rig.{Cause, Goes, IfFull, RigState, Sound, Touches}
use Rattle.em_space.specs.declared.fault.EmFault.{EmFault}
use Rattle.em_space.specs.declared.fault.EmFault.TheVariants.{DeviceFault, Full, Damaged}
use Rattle.em_space.proofs.Lists.{apart_sym, distinct_apart}
use Rattle.em_space.proofs.Paying.{pays_more}
use Rattle.em_space.proofs.Steps.{untold_by}
use Rattle.em_chain.specs.Counts.{ceiling}
use Rattle.em_chain.specs.List.{items_in}
use Rattle.em_chain.specs.Session.{one_more, writer_account}
use Rattle.em_chain.specs.Writer.{CanGrow, IsWriter, WriterStays, filled, writer_blocks, writer_contents, writer_items}
use Rattle.em_chain.specs.Writes.{AppendCosts, Appends, Begins}
use Rattle.em_chain.specs.declared.writer.Writer.{Writer}
use Rattle.em_chain.proofs.Counts.{writer_blocks_are}
use Rattle.em_chain.proofs.Laws.{writer_stays}
use Rattle.em_chain.proofs.Sessions.{ceiling_rises}
use Rattle.em_chain.proofs.Writings.{writes_one}
use Rattle.em_tree_model.specs.Meaning.{tree_answers}
use Rattle.em_tree_model.specs.Tree.{Tree}
use Rattle.em_tree_cost.specs.Shares.{tree_room}
use Rattle.em_tree_cost.proofs.Books.{books_share}
use Rattle.em_tree_load.proofs.Payments.{paid_goes, paid_none, paid_part, paid_same, paid_stops}
use Rattle.em_tree_walk.specs.Paid.{RunsPaid, StopsPaid}
use Rattle.em_tree_walk.proofs.Losses.{loses_runs, writer_length}
use Rattle.em_tree_walk.proofs.Regions.{SameTally, tally, tally_append}
use Rattle.em_trunk.specs.Room.{FullOverRoom, WithinRoom}
use Rattle.em_trunk.specs.Trunk.{counts_of, given_by, model_of}
use Rattle.em_trunk.specs.declared.trunk.Trunk.{Trunk}
use Rattle.em_trunk.proofs.Stays.{TrunkReads}
use Rattle.em_tree.specs.Calls.{KeepsShare}
use Rattle.em_tree.proofs.RoomCalls.{rest_room}
use Rattle.em_bulk.specs.Draining.{CountsNext, DrainHasFrames, GaveNext, GivesFirst, StopsDrain, drain_blocks, drain_unstored, trunk_of}
use Rattle.em_bulk.proofs.DrainNumbers.{drained_within, drains_none, drains_then}
use Rattle.em_bulk.proofs.DrainStays.{DrainStays, answers_most, answers_same, drain_frames, drain_stays}
use Rattle.em_map.specs.Loading.{answers_in}
use Rattle.em_ready.proofs.RoomLaws.{ceiling_most, over_used, when_full}
use Rattle.em_services.specs.Listing.{GivesFew, GivesPairs, HasGiven, IsPairDrain, Lists, PairDrain, StopsListing, listing_room}

-- Two lists of blocks in the other order.
pub tally_swapped : (xs ys : List ℕ) → SameTally (xs ++ ys) (ys ++ xs)
tally_swapped xs ys j =
    let a = tally_append j xs ys in
    let b = tally_append j ys xs in
    omega (arith, a, b)

-- Equal lists beside others.
pub tally_equal : (xs ys zs : List ℕ) → zs ≡ ys → SameTally (xs ++ ys) (xs ++ zs)
tally_equal xs ys zs e j = rw e refl

-- The frames and the area of a drain are still out.
pub frames_still : {F : Type 0} (s t : RigState) (d : PairDrain F) → t.pool.shape ≡ s.pool.shape
    → t.pool.free + 2 ≤ singles_of t.pool.shape → t.pool.free_areas < 2 → DrainHasFrames s d → DrainHasFrames t d
frames_still s t d shape out area f =
    let block = sym (ap (λ (p : ShapeNumbers). p.block) shape) in
    record {
      tree = record { buffer = f.tree.buffer ∙ block; answers = f.tree.answers ∙ block; out = out };
      area = f.area ∙ sym (ap load_of shape);
      out = area;
    }

-- A drain stays over a call on other values that leaves as many frames free,
pub drain_beside : {F : Type 0} (apply : Combiner) (held : List ℕ) (s t : RigState) (d : PairDrain F) → Touches held s t
    → SameFrames s.pool t.pool → (IsTrue s.device.told → Apart (drain_blocks s d) held) → IsPairDrain apply s d
    → DrainStays map_key_of (add_step_of apply) IsAddOp IsMapKept s t d
drain_beside apply held s t d touches same apart i =
    drain_stays map_key_of (add_step_of apply) IsAddOp IsMapKept held s t d touches
    (frames_still s t d same.shape
    (let out = i.is.running.frames.out in
    let shape = ap singles_of same.shape in
    omega (arith, out, same.free, shape))
    (let out = i.out in omega (arith, out, same.free_areas)) (drain_frames i)) i apart

-- and so do its tree's answers.
pub answers_still : (apply : Combiner) (s t : RigState) (v : Trunk) → TrunkReads s t v
    → answers_in apply t v ≡ answers_in apply s v
answers_still apply s t v r =
    let step = add_step_of apply in
    ap (λ (m : Tree). length (tree_answers map_key_of step (given_by t v) m)) r.model
    ∙ ap (λ (xs : List Record). length (tree_answers map_key_of step xs (model_of s v))) r.given

-- A new list beside a drain: nothing was given yet.
pub lists_none : {F : Type 0} (apply : Combiner) (s : RigState) (d : PairDrain F) (w : Writer) → Sound s
    → IsPairDrain apply s d → Begins s w → Lists apply s s d d w []
lists_none apply s d w sound i b =
    let m = drain_unstored d in
    let ks = drain_blocks s d in
    let none : ks ++ writer_blocks s w ≡ ks = ap (λ (js : List ℕ). ks ++ js) b.held ∙ append-nil ks in
    let unstored : m + min w.blocks 1 ≡ m = let blocks = b.blocks in omega (arith, blocks) in
    let begun = paid_none s ks m sound (λ z. (i.is.running.stands z).holds) in
    let list : RunsPaid ks (ks ++ writer_blocks s w) m m s s =
    subst (λ (js : List ℕ). RunsPaid ks js m m s s) (sym none) begun in
    record {
      is = i;
      list = b.is;
      filled_is = b.filled_is ∙ sym b.count;
      runs = subst (λ (n : ℕ). RunsPaid ks (ks ++ writer_blocks s w) m n s s) (sym unstored) list;
      numbers = drains_none (trunk_of d);
      told = λ z. record {
        packed = b.packed;
        answers = refl;
        gives = λ xs g. record { rest = xs; is = sym (ap (λ (ys : List Record). ys ++ [] ++ xs) b.items); gives = g };
        most = omega arith;
        moves = omega arith;
      };
    }

-- as many records as a list counts
items_count : (s : RigState) (w : Writer) → IsWriter s w → IsTrue s.device.told → length (writer_items s w) ≡ w.count
items_count s w i z =
    let count = (i.told z).list.count_is in
    let left = length-drop w.skip (items_in (writer_contents s w)) in
    omega (arith, count, left)

-- What holds of drain and list at a moment:
module _ {F : Type 0} (apply : Combiner) (s t : RigState) (d e : PairDrain F) (w : Writer) (hand : List Record)
    (h : Lists apply s t d e w hand) where
  told_now : IsTrue s.device.told → IsTrue t.device.told
  told_now z = h.runs.session.touches.told ∙ z

  told_first : IsTrue t.device.told → IsTrue s.device.told
  told_first z = sym h.runs.session.touches.told ∙ z

  -- they have no block in common,
  pub list_apart : IsTrue t.device.told → Apart (drain_blocks t e) (writer_blocks t w)
  list_apart z = distinct_apart (drain_blocks t e) (writer_blocks t w)
      ((h.runs.session.holds (told_first z)).distinct z)

  -- the list has the blocks that its records fill,
  pub list_blocks : w.blocks ≡ ceiling w.count (payload_of s.pool.shape)
  list_blocks = writer_blocks_are t w h.runs.session.sound.shape.block_low h.list
      ∙ ap (λ (n : ℕ). ceiling n (payload_of t.pool.shape)) h.filled_is
      ∙ ap (λ (p : ShapeNumbers). ceiling w.count (payload_of p)) h.runs.session.touches.shape

  pub list_used : IsTrue s.device.told
      → t.used + length (drain_blocks s d) ≡ s.used + (length (drain_blocks t e) + w.blocks)
  list_used z =
      let used = h.runs.loses z in
      let both = length-append (drain_blocks t e) (writer_blocks t w) in
      let own = writer_length h.list (told_now z) in
      omega (arith, used, both, own)

  -- those of more records are no fewer,
  pub list_rises : (m n : ℕ) → m ≤ n → ceiling m (payload_of s.pool.shape) ≤ ceiling n (payload_of s.pool.shape)
  list_rises m n few =
      let low = h.runs.session.sound.shape.block_low in
      let same = ap (λ (p : ShapeNumbers). p.block) h.runs.session.touches.shape in
      ceiling_rises m n (payload_of s.pool.shape) (omega (arith, low, same)) few

  -- the tree has no more blocks of answers than those fill that it gave or owes,
  list_answers : IsTrue s.device.told
      → (trunk_of e).answers.blocks ≤ ceiling (answers_in apply s (trunk_of d)) (payload_of s.pool.shape)
  list_answers z =
      let most = answers_most h.runs.session.sound h.is (told_now z) in
      let same = (h.told z).answers in
      let P = payload_of t.pool.shape in
      let equal : ceiling (answers_in apply t (trunk_of e)) P ≡ ceiling (answers_in apply s (trunk_of d)) P =
      ap (λ (n : ℕ). ceiling n P) same in
      let shape = ap (λ (p : ShapeNumbers). ceiling (answers_in apply s (trunk_of d)) (payload_of p))
      h.runs.session.touches.shape in
      omega (arith, most, equal, shape)

  -- and is within its room.
  list_tree : IsTrue s.device.told → length (drain_blocks t e)
      ≤ tree_room s.pool.shape (trunk_of d).longest + ceiling (answers_in apply s (trunk_of d)) (payload_of s.pool.shape)
  list_tree z =
      let own = rest_room h.runs.session.sound h.is.is (told_now z) in
      let answers = list_answers z in
      let longest = h.numbers.longest in
      let same : tree_room t.pool.shape (trunk_of e).longest ≡ tree_room s.pool.shape (trunk_of d).longest =
      ap (λ (p : ShapeNumbers). tree_room p (trunk_of e).longest) h.runs.session.touches.shape
      ∙ ap (λ (n : ℕ). tree_room s.pool.shape n) longest in
      omega (arith, own, answers, same)

  -- Its moves are within its share.
  pub list_share : IsTrue s.device.told → KeepsShare s.pool.shape (counts_of (trunk_of e))
  list_share z = subst (λ (p : ShapeNumbers). KeepsShare p (counts_of (trunk_of e))) h.runs.session.touches.shape
      (record { within = books_share h.runs.session.sound.shape (h.is.is.books (told_now z)) })

  -- All that was written is among what the drain had to give.
  pub given_few : (xs : List Record) → IsTrue s.device.told → GivesPairs apply s d xs → w.count + length hand ≤ length xs
  given_few xs z gives =
      let given = (h.told z).gives xs gives in
      let all = ap (λ (ys : List Record). length ys) given.is in
      let parts = length-append (writer_items t w ++ hand) given.rest in
      let two = length-append (writer_items t w) hand in
      let count = items_count t w h.list (told_now z) in
      omega (arith, all, parts, two, count)

-- The next record was asked for.
module _ {F : Type 0} (apply : Combiner) (s t u : RigState) (d e f : PairDrain F) (w : Writer)
    (h : Lists apply s t d e w []) where
  -- the list stays over a call of the drain that leaves as many frames free
  asked_list : Goes (drain_blocks t e) t u → WriterStays t u w
  asked_list goes = writer_stays (drain_blocks t e) t u w goes.touches
      (λ z. apart_sym (drain_blocks t e) (writer_blocks t w) (list_apart apply s t d e w [] h z))
      (record {
        len_is = h.list.frame.len_is ∙ sym (ap (λ (p : ShapeNumbers). p.block) goes.touches.shape);
        out =
            let out = h.list.frame.out in
            let shape = ap singles_of goes.frames.shape in
            omega (arith, out, goes.frames.free, shape);
      })
      h.list

  -- what was given came off the front of what was left
  asked_given : (item : Option Record) (xs : List Record) → WriterStays t u w → IsTrue t.device.told
      → HasGiven apply t e (writer_items t w ++ []) xs
      → ((ys : List Record) → GivesPairs apply t e ys → GivesFirst map_key_of (add_step_of apply) u f item ys)
      → HasGiven apply u f (writer_items u w ++ option_to_list item) xs
  asked_given None xs st z given gives =
      let first = gives given.rest given.gives in
      record {
        rest = [];
        is = given.is ∙ ap (λ (ys : List Record). writer_items t w ++ [] ++ ys) first.0
            ∙ ap (λ (ys : List Record). ys ++ [] ++ []) (sym (st.items z));
        gives = subst (λ (ys : List Record). GivesPairs apply u f ys) first.0 first.1;
      }
  asked_given (Some x) xs st z given gives =
      let first = gives given.rest given.gives in
      record {
        rest = first.rest;
        is = given.is ∙ ap (λ (ys : List Record). writer_items t w ++ [] ++ ys) first.is
            ∙ ap (λ (ys : List Record). ys ++ (x ∷ first.rest)) (append-nil (writer_items t w))
            ∙ ap (λ (ys : List Record). ys ++ (x ∷ first.rest)) (sym (st.items z))
            ∙ sym (append_assoc (writer_items u w) (x ∷ []) first.rest);
        gives = first.gives;
      }

  -- at no moment did both hold more than their room
  asked_most : (n : ℕ) → IsTrue s.device.told → w.count ≤ n → WithinRoom (trunk_of e).longest t u (trunk_of e)
      → u.most + length (drain_blocks s d) ≤ max (s.most + length (drain_blocks s d))
      (s.used + listing_room s.pool.shape (trunk_of d) (answers_in apply s (trunk_of d)) n)
  asked_most n z few room =
      let first = (h.told z).most in
      let most = room.most in
      let used = list_used apply s t d e w [] h z in
      let answers = list_answers apply s t d e w [] h z in
      let blocks = list_blocks apply s t d e w [] h in
      let rises = list_rises apply s t d e w [] h w.count n few in
      let same : tree_room t.pool.shape (trunk_of e).longest ≡ tree_room s.pool.shape (trunk_of d).longest =
      ap (λ (p : ShapeNumbers). tree_room p (trunk_of e).longest) h.runs.session.touches.shape
      ∙ ap (λ (k : ℕ). tree_room s.pool.shape k) h.numbers.longest in
      omega (arith, first, most, used, answers, blocks, rises, same)

  given_by_rule : (rule : Combiner) (item : Option Record) → rule ≡ apply
      → GaveNext map_key_of (add_step_of rule) IsAddOp IsMapKept t u e f item
      → GaveNext map_key_of (add_step_of apply) IsAddOp IsMapKept t u e f item
  given_by_rule rule item same gave =
      subst (λ (r : Combiner). GaveNext map_key_of (add_step_of r) IsAddOp IsMapKept t u e f item) same gave

  pub lists_asked : (rule : Combiner) (item : Option Record) → rule ≡ apply
      → GaveNext map_key_of (add_step_of rule) IsAddOp IsMapKept t u e f item → CountsNext t u e f
      → (IsTrue t.device.told → WithinRoom (trunk_of e).longest t u (trunk_of e))
      → Lists apply s u d f w (option_to_list item)
  lists_asked rule item same gave counts room =
      let g = given_by_rule rule item same gave in
      let st = asked_list (paid_goes g.runs) in
      record {
        is = g.is;
        list = st.is;
        filled_is = st.filled_is ∙ h.filled_is;
        runs = paid_same (drain_blocks u f ++ writer_blocks u w)
            (paid_part (drain_blocks t e) (drain_blocks u f) (writer_blocks t w) (min w.blocks 1) refl h.runs
            (λ z j. refl) g.runs)
            (λ z. tally_equal (drain_blocks u f) (writer_blocks t w) (writer_blocks u w)
            (st.blocks (told_now apply s t d e w [] h z)));
        numbers = drains_then h.numbers counts.numbers;
        told = λ z.
            let here = told_now apply s t d e w [] h z in
            let now = h.told z in
            let next = g.told here in
            record {
              packed = st.packed here now.packed;
              answers = answers_same next ∙ now.answers;
              gives = λ xs gives. asked_given item xs st here (now.gives xs gives) next.gives;
              most = asked_most w.count z (omega arith) (room here);
              moves = let moves = now.moves in let spent = counts.spent in omega (arith, moves, spent);
            };
      }

  asked_share : CountsNext t u e f → IsTrue s.device.told → KeepsShare s.pool.shape (counts_of (trunk_of f))
  asked_share counts z = subst (λ (p : ShapeNumbers). KeepsShare p (counts_of (trunk_of f))) h.runs.session.touches.shape
      (counts.share (told_now apply s t d e w [] h z))

  -- If there was none, all was written.
  pub asked_all : (rule : Combiner) → rule ≡ apply
      → GaveNext map_key_of (add_step_of rule) IsAddOp IsMapKept t u e f None → IsTrue s.device.told
      → (xs : List Record) → GivesPairs apply s d xs → writer_items u w ≡ xs
  asked_all rule same gave z xs gives =
      let g = given_by_rule rule None same gave in
      let here = told_now apply s t d e w [] h z in
      let given = (h.told z).gives xs gives in
      let first = (g.told here).gives given.rest given.gives in
      let st = asked_list (paid_goes g.runs) in
      st.items here ∙ sym (append-nil (writer_items t w)) ∙ sym (append-nil (writer_items t w ++ []))
      ∙ ap (λ (ys : List Record). writer_items t w ++ [] ++ ys) (sym first.0) ∙ sym given.is

  -- The drain gave up.
  pub stops_asked : (fault : EmFault) → StopsDrain t u e f fault → CountsNext t u e f
      → (IsTrue t.device.told → WithinRoom (trunk_of e).longest t u (trunk_of e))
      → (IsTrue t.device.told → FullOverRoom (trunk_of e).longest t (trunk_of e) fault)
      → Sound s → StopsListing apply s u d f fault
  stops_asked fault x counts room over sound =
      let own : StopsPaid (drain_blocks t e) (drain_unstored e) t.pool.shape.frames t u fault = record {
        goes = x.stops.goes;
        pays = x.stops.pays;
        cause = x.stops.cause;
      } in
      let all = paid_stops (drain_blocks t e) (writer_blocks t w) (min w.blocks 1) refl h.runs (λ z j. refl) own in
      let frames = ap (λ (p : ShapeNumbers). p.frames) h.runs.session.touches.shape in
      record {
        goes = all.goes;
        drain = x.frames;
        pays = pays_more all.pays (omega (arith, frames));
        cause = all.cause;
        within = λ z xs gives.
            let here = told_now apply s t d e w [] h z in
            let now = h.told z in
            let few = asked_few xs z gives in
            let spent = counts.spent in
            let moves = now.moves in
            let share = drained_within s.pool.shape (answers_in apply s (trunk_of d)) (drains_then h.numbers counts.numbers)
            (asked_share counts z) counts.counted in
            let blocks = list_blocks apply s t d e w [] h in
            let rises = list_rises apply s t d e w [] h w.count (length xs) few in
            record {
              room = record { is = asked_most (length xs) z few (room here) };
              moves = omega (arith, moves, spent, share, blocks, rises);
            };
        full = λ z xs gives.
            let here = told_now apply s t d e w [] h z in
            let used = list_used apply s t d e w [] h z in
            let few = asked_few xs z gives in
            let answers = list_answers apply s t d e w [] h z in
            let blocks = list_blocks apply s t d e w [] h in
            let rises = list_rises apply s t d e w [] h w.count (length xs) few in
            let same : tree_room t.pool.shape (trunk_of e).longest ≡ tree_room s.pool.shape (trunk_of d).longest =
            ap (λ (p : ShapeNumbers). tree_room p (trunk_of e).longest) h.runs.session.touches.shape
            ∙ ap (λ (k : ℕ). tree_room s.pool.shape k) h.numbers.longest in
            let most = tree_room t.pool.shape (trunk_of e).longest + (trunk_of e).answers.blocks in
            when_full fault (λ n. n + length (drain_blocks t e) < t.used + most)
            (λ n. n + length (drain_blocks s d)
            < s.used + listing_room s.pool.shape (trunk_of d) (answers_in apply s (trunk_of d)) (length xs))
            (λ n less. omega (arith, less, used, answers, blocks, rises, same))
            (over_used fault (length (drain_blocks t e)) t.used most most t u (over here).full x.stops.cause
            x.stops.goes.touches.blocks (omega arith));
      }
    where
      asked_few : (xs : List Record) → IsTrue s.device.told → GivesPairs apply s d xs → w.count ≤ length xs
      asked_few xs z gives = let few = given_few apply s t d e w [] h xs z gives in omega (arith, few)

-- What a full device says of an append.
full_append : (fault : EmFault) (P : Type 0) (held most : ℕ) (t u : RigState) → Cause t u fault
    → (P → u.used + held < most) → IfFull fault (λ n. P) → IfFull fault (λ used. used + held < most)
full_append DeviceFault P held most t u cause less h = tt
full_append (Full used) P held most t u cause less h = let all = less h in omega (arith, all, cause.0, cause.1)
full_append (Damaged block) P held most t u cause less h = tt

-- A record was appended.
module _ {F : Type 0} (apply : Combiner) (s t u : RigState) (d e : PairDrain F) (w v : Writer) (x : Record)
    (h : Lists apply s t d e w (x ∷ [])) (goes : Goes (writer_blocks t w) t u) where
  -- the drain stays over it
  appended_drain : DrainStays map_key_of (add_step_of apply) IsAddOp IsMapKept t u e
  appended_drain = drain_beside apply (writer_blocks t w) t u e goes.touches goes.frames
      (list_apart apply s t d e w (x ∷ []) h) h.is

  swapped : IsTrue s.device.told → SameTally (drain_blocks t e ++ writer_blocks t w) (writer_blocks t w ++ drain_blocks t e)
  swapped z = tally_swapped (drain_blocks t e) (writer_blocks t w)

  pub lists_appended : {T : Type 0} (y : T) → Appends t u w v x → AppendCosts t u w v (Ok y)
      → Spends (one_more t w) (writer_account w) (writer_account v) t u → Lists apply s u d e v []
  lists_appended y a costs spends =
      let st = appended_drain in
      let one = writes_one y goes a costs spends in
      let list : RunsPaid (writer_blocks t w) (writer_blocks u v) (min w.blocks 1) (min v.blocks 1) t u = record {
        session = one.runs.session;
        frames = one.runs.frames;
        pays = spends.pays;
        loses = loses_runs one.runs (writer_length h.list) (λ z. writer_length a.is (goes.touches.told ∙ z));
      } in
      let both = paid_part (writer_blocks t w) (writer_blocks u v) (drain_blocks t e) (drain_unstored e) (omega arith) h.runs
      swapped list in
      let same = paid_same (drain_blocks u e ++ writer_blocks u v) both
      (λ z j. appended_tally (st.reads (told_now apply s t d e w (x ∷ []) h z)).blocks j) in
      record {
        is = st.is;
        list = a.is;
        filled_is = let places = a.filled_is in let count = a.count_is in let first = h.filled_is in
            omega (arith, places, count, first);
        runs = subst (λ (n : ℕ). RunsPaid (drain_blocks s d) (drain_blocks u e ++ writer_blocks u v) (drain_unstored d) n s u)
            (omega arith) same;
        numbers = h.numbers;
        told = λ z.
            let here = told_now apply s t d e w (x ∷ []) h z in
            let now = h.told z in
            record {
              packed = a.packed here now.packed;
              answers = answers_still apply t u (trunk_of e) (st.reads here) ∙ now.answers;
              gives = λ xs gives.
                  let given = now.gives xs gives in
                  record {
                    rest = given.rest;
                    is = given.is ∙ ap (λ (ys : List Record). ys ++ given.rest)
                        (sym (a.items here) ∙ sym (append-nil (writer_items u v)));
                    gives = st.gives here given.rest given.gives;
                  };
              most =
                  let first = now.most in
                  let used = list_used apply s t d e w (x ∷ []) h z in
                  let tree = list_tree apply s t d e w (x ∷ []) h z in
                  let before = list_blocks apply s t d e w (x ∷ []) h in
                  let count = a.count_is in
                  let rises = list_rises apply s t d e w (x ∷ []) h w.count v.count (omega (arith, count)) in
                  let blocks = appended_blocks a in
                  omega (arith, first, used, tree, before, rises, blocks, costs.used, costs.most);
              moves = let moves = now.moves in omega (arith, moves, costs.moves);
            };
      }
    where
      appended_tally : drain_blocks u e ≡ drain_blocks t e → (j : ℕ)
          → tally j (writer_blocks u v ++ drain_blocks t e) ≡ tally j (drain_blocks u e ++ writer_blocks u v)
      appended_tally same j = rw same (tally_swapped (writer_blocks u v) (drain_blocks t e) j)

      appended_blocks : Appends t u w v x → v.blocks ≡ ceiling v.count (payload_of s.pool.shape)
      appended_blocks k =
          let places = k.filled_is in let count = k.count_is in let first = h.filled_is in
          let same : filled u v ≡ v.count = omega (arith, places, count, first) in
          let low = h.runs.session.sound.shape.block_low in
          let shape = ap (λ (p : ShapeNumbers). p.block) goes.touches.shape in
          writer_blocks_are u v (omega (arith, low, shape)) k.is
          ∙ ap (λ (n : ℕ). ceiling n (payload_of u.pool.shape)) same
          ∙ ap (λ (p : ShapeNumbers). ceiling v.count (payload_of p)) goes.touches.shape
          ∙ ap (λ (p : ShapeNumbers). ceiling v.count (payload_of p)) h.runs.session.touches.shape

  -- It couldn't be.
  pub stops_appended : (fault : EmFault)
      → Halts (one_more t w) (2 * one_more t w) (min w.blocks 1) (writer_account w) t u fault → Cause t u fault
      → Sound s → StopsListing apply s u d e fault
  stops_appended fault halts cause sound =
      let st = appended_drain in
      let own : StopsPaid (writer_blocks t w) (min w.blocks 1) (min w.blocks 1) t u fault = record {
        goes = goes;
        pays = halts.pays;
        cause = cause;
      } in
      let all = paid_stops (writer_blocks t w) (drain_blocks t e) (drain_unstored e) (omega arith) h.runs swapped own in
      let low = sound.shape.frames_low in
      record {
        goes = all.goes;
        drain = drain_frames st.is;
        pays = pays_more all.pays (omega (arith, low));
        cause = all.cause;
        within = λ z xs gives.
            let now = h.told z in
            let first = now.most in
            let used = list_used apply s t d e w (x ∷ []) h z in
            let tree = list_tree apply s t d e w (x ∷ []) h z in
            let before = list_blocks apply s t d e w (x ∷ []) h in
            let few = given_few apply s t d e w (x ∷ []) h xs z gives in
            let rises = list_rises apply s t d e w (x ∷ []) h w.count (length xs) (omega (arith, few)) in
            let more = more_blocks xs (omega (arith, few)) in
            let spent = drained_within s.pool.shape (answers_in apply s (trunk_of d)) h.numbers
            (list_share apply s t d e w (x ∷ []) h z) h.is.is.running.numbers.counted_most in
            let moves = now.moves in
            record {
              room = record { is = omega (arith, first, used, tree, before, rises, more, halts.most) };
              moves = omega (arith, moves, spent, more, halts.moves);
            };
        full = λ z xs gives.
            let used = list_used apply s t d e w (x ∷ []) h z in
            let tree = list_tree apply s t d e w (x ∷ []) h z in
            let few = given_few apply s t d e w (x ∷ []) h xs z gives in
            let more = more_blocks xs (omega (arith, few)) in
            full_append fault (u.used + w.blocks < t.used + one_more t w) (length (drain_blocks s d))
            (s.used + listing_room s.pool.shape (trunk_of d) (answers_in apply s (trunk_of d)) (length xs)) t u cause
            (λ less. omega (arith, less, used, tree, more)) halts.full;
      }
    where
      more_blocks : (xs : List Record) → w.count + 1 ≤ length xs
          → one_more t w ≤ ceiling (length xs) (payload_of s.pool.shape)
      more_blocks xs few =
          let rises = list_rises apply s t d e w (x ∷ []) h (w.count + 1) (length xs) few in
          let same = ap (λ (n : ℕ). ceiling (n + 1) (payload_of t.pool.shape)) h.filled_is
          ∙ ap (λ (p : ShapeNumbers). ceiling (w.count + 1) (payload_of p)) h.runs.session.touches.shape in
          omega (arith, rises, same)

-- The list may grow, while it has no more records than a map may have pairs.
pub list_grows : {F : Type 0} (apply : Combiner) (s t : RigState) (d e : PairDrain F) (w : Writer) (hand : List Record)
    → Lists apply s t d e w hand → w.count ≤ 2 ^ 40 → CanGrow w
list_grows apply s t d e w hand h few =
    let blocks = list_blocks apply s t d e w hand h in
    let low = h.runs.session.sound.shape.block_low in
    let same = ap (λ (p : ShapeNumbers). p.block) h.runs.session.touches.shape in
    let some : 1 ≤ payload_of s.pool.shape = omega (arith, low, same) in
    let fits : w.count * 1 ≤ w.count * payload_of s.pool.shape = mul-le-mul_left w.count some in
    let most = ceiling_most w.count (payload_of s.pool.shape) w.count some (omega (arith, fits)) in
    record { count = omega (arith, few); blocks = omega (arith, few, blocks, most) }

-- As many records were given as a map may have pairs, and one more: the device doesn't tell.
pub too_many_pairs : {F : Type 0} (apply : Combiner) (s t : RigState) (d e : PairDrain F) (w : Writer)
    → Lists apply s t d e w [] → w.count ≡ 2 ^ 40 + 1 → (IsTrue s.device.told → GivesFew apply (2 ^ 40) s d)
    → Sound s → StopsListing apply s t d e (Damaged 0)
too_many_pairs apply s t d e w h count few sound =
    let never : IsTrue s.device.told → ⊥ = λ z.
    let list = few z in
    let most = given_few apply s t d e w [] h list.list z list.gives in
    let least = list.few in
    omega (arith, count, most, least) in
    let low = sound.shape.frames_low in
    record {
      goes = paid_goes h.runs;
      drain = drain_frames h.is;
      pays = pays_more h.runs.pays (omega (arith, low));
      cause = (
        untold_by t.device.told (λ z. never (sym h.runs.session.touches.told ∙ z)),
        h.runs.session.sound.numbers.blocks_low,
      );
      within = λ z. absurd (never z);
      full = λ z. absurd (never z);
    }
