-- What a visit did with the first leaf, as a step of a call on the whole tree.
use Rattle.std.proofs.Common.{◌≡◌, ℕ, zero, suc, ◌-◌, ◌*◌, ◌<◌, List, [], ◌∷◌, ◌++◌, drop, length, take, refl, sym, ap, ◌∙◌, subst, arith, IsTrue}
use Rattle.std.specs.Prelude.{Option, None}
use Rattle.std.proofs.lemmas.List.{append-nil, length-append}
use Rattle.em_record.specs.Shape.{IsShape, ShapeNumbers, fan_of, wide_of}
use Rattle.em_record.specs.declared.record.Record.{Record}
use Rattle.em_space.specs.Queue.{Pays}
use Rattle.em_space.specs.Rig.{RigState}
use Rattle.em_space.proofs.Paying.{pays_more}
use Rattle.em_chain.specs.Writer.{writer_items}
use Rattle.em_settle.specs.Laws.{IsSettle}
use Rattle.em_settle.specs.declared.step.Step.{Step}
use Rattle.em_tree_model.specs.Meaning.{InTurn, tree_answers, tree_contents}
use Rattle.em_tree_model.specs.Ranges.{IsTree, least_record}
use Rattle.em_tree_model.specs.Taking.{HasContents, TakesFirst, without_first}
use Rattle.em_tree_model.specs.Tree.{Tree, HasEntry, HasLevel, IsChild, first_leaf, over_first, with_first_leaf}
use Rattle.em_tree_model.specs.Tree.Tree.{leaf, end, entry}
use Rattle.em_tree_model.proofs.Removal.{over_with, takes_whole_leaf, without_with}
use Rattle.em_tree_model.proofs.Taking.{takes_leaf, tree_has}
use Rattle.em_tree_blocks.specs.Reading.{IsTreeAt}
use Rattle.em_tree_blocks.proofs.Entries.{tree_level}
use Rattle.em_tree_cost.specs.Counters.{Sums}
use Rattle.em_tree_cost.specs.Effects.{SumsRemove, SumsTake}
use Rattle.em_tree_cost.specs.Outline.{sums_of}
use Rattle.em_tree_walk.specs.Forms.{AreFormed}
use Rattle.em_tree_load.proofs.FirstGone.{gone_keeps}
use Rattle.em_tree_outline.specs.Outline.{outline_of}
use Rattle.em_tree_outline.proofs.FirstLeaves.{first_removed_fat, first_removed_sums, first_taken_fat, first_taken_sums}
use Rattle.em_tree_walk.specs.Lows.{LowsKeep}
use Rattle.em_trunk.specs.Buffers.{IsBounded, IsThin}
use Rattle.em_trunk.specs.Spots.{EachRead}
use Rattle.em_trunk.specs.Entries.{EachEntry}
use Rattle.em_tree_visits.specs.FirstVisits.{TakesOn}
use Rattle.em_tree_visits.specs.Leavings.{ChangesTree, TookFirstLeaf, TookPart}
use Rattle.em_trunk.specs.Works.{IsDrained}
use Rattle.em_trunk.specs.Sized.{IsSized, leaf_limit}
use Rattle.em_trunk.specs.Trunk.{IsRunning, IsStanding, full_limit, given_by, model_of, root_of, sums_in, trunk_unstored}
use Rattle.em_trunk.specs.declared.trunk.Trunk.{Trunk}
use Rattle.em_trunk.proofs.FirstSizes.{count_removed, each_removed, each_taken, leaves_removed, leaves_taken, nodes_removed, nodes_taken}
use Rattle.em_tree_visits.proofs.LoneTrees.{none_there}
use Rattle.em_trunk.proofs.Meaning.{represents_itself}
use Rattle.em_trunk.proofs.TrunkLists.{ListsStay, lists_stay_by, no_items}
use Rattle.em_trunk.proofs.Rooms.{keeps_by, peak_fits}

-- low keys are kept over other records in the first leaf
pub lows_with : (t : Tree) (lo : Record) (zs : List Record) → LowsKeep lo t
    → LowsKeep lo (with_first_leaf t zs)
lows_with (leaf xs) lo zs h = tt
lows_with end lo zs h = tt
lows_with (entry low b c r) lo zs h = (h.0, lows_with c lo zs h.1, h.2)

leaf_level : (xs : List Record) (n : ℕ) (zs : List Record) → HasLevel (leaf xs) n → HasLevel (leaf zs) n
leaf_level xs zero zs h = tt
leaf_level xs (suc n) zs h = h

level_with : (t : Tree) (n : ℕ) (zs : List Record) → HasLevel t n → HasLevel (with_first_leaf t zs) n
level_with (leaf xs) n zs h = leaf_level xs n zs h
level_with end n zs h = h
level_with (entry low b c r) zero zs h = h
level_with (entry low b c r) (suc n) zs h = (level_with c n zs h.0, h.1)

some_child : (t : Tree) (zs : List Record) → IsChild t → IsChild (with_first_leaf t zs)
some_child (leaf xs) zs h = tt
some_child end zs h = h
some_child (entry low b c r) zs h = tt

-- the first leaf, if it had a record
pub first_there : (t : Tree) (zs : List Record) → 0 < length (first_leaf t)
    → first_leaf (with_first_leaf t zs) ≡ zs
first_there (leaf xs) zs h = refl
first_there end zs h = absurd (omega (arith, h))
first_there (entry low b c r) zs h = first_there c zs h

-- a list that isn't empty
pub parts_of : (xs : List Record) → 0 < length xs → (x : Record) × (ys : List Record) × (xs ≡ x ∷ ys)
parts_of [] h = absurd (omega (arith, h))
parts_of (x ∷ xs) h = (x, xs, refl)

module _ (key : Record → Record) (step : Option Record → Record → Step) (IsOp IsKept : Record → Type 0)
    {s : RigState} {v : Trunk} (run : IsRunning key IsOp IsKept s v) (drained : IsDrained v)
    (over : IsTrue s.device.told → over_first (root_of s v) ≡ []) where
  -- Nothing waits in the root's buffer, and nothing over the first leaf of the whole tree.
  pub buffer_none : writer_items s v.buffer ≡ []
  buffer_none = no_items s v.buffer run.buffer drained.unwritten

  pub whole_over : IsTrue s.device.told → over_first (model_of s v) ≡ []
  whole_over z = ap (λ (xs : List Record). xs ++ writer_items s v.buffer) (over z) ∙ buffer_none

  -- A first leaf that has a record says that there are contents.
  pub leaf_has : (z : IsTrue s.device.told) → 0 < length (first_leaf (root_of s v))
      → HasContents (tree_contents key step (model_of s v))
  leaf_has z some =
      let st = run.stands z in
      let p = parts_of (first_leaf (root_of s v)) some in
      tree_has key step IsOp IsKept (model_of s v) p.0 p.1 tt p.2 (whole_over z) st.is st.turn

  -- the sums, once the first leaf's records are out
  abbrev pub sums_out : Sums
  sums_out = sums_of (2 * wide_of s.pool.shape * s.pool.shape.block) v.level
      (outline_of (with_first_leaf (root_of s v) [])) v.buffer.count v.buffer.blocks

  module _ {t : RigState} (c : ChangesTree s t v.level v.root v.level v.root) where
    pub kept_lists : ListsStay s t v
    kept_lists = lists_stay_by run c.session.sound c.frames c.session.touches (λ z. c.session) c.loses

    pub kept_pays : Pays (trunk_unstored v) (trunk_unstored v) s t
    kept_pays = pays_more c.pays (omega arith)

    -- how it stands, by its tree
    stands_after : (z : IsTrue s.device.told) → IsTreeAt v.level t v.root → AreFormed v.level t v.root
        → IsTree key (model_of t v) least_record None → InTurn key IsOp IsKept (model_of t v)
        → LowsKeep least_record (root_of t v) → IsSized s.pool.shape (outline_of (model_of t v))
        → EachEntry (IsBounded v.level (full_limit s.pool.shape)) v.level least_record None (root_of t v)
        → IsStanding key IsOp IsKept t v
    stands_after z is formed tree turn lows sized bounded =
        let st = run.stands z in
        let shape = c.session.touches.shape in
        let Z : ShapeNumbers → Type 0 = λ x. IsSized x (outline_of (model_of t v)) in
        let W : ShapeNumbers → Type 0 = λ x. EachEntry (IsBounded v.level (full_limit x)) v.level
        least_record None (root_of t v) in
        record {
          holds = kept_lists.session.holds z;
          stored = is;
          formed = formed;
          is = tree;
          turn = turn;
          lows = lows;
          sized = subst Z (sym shape) sized;
          bounded = subst W (sym shape) bounded;
          packed = kept_lists.buffer.packed z st.packed;
          answers_packed = kept_lists.answers.packed z st.answers_packed;
        }

    runs_after : (IsTrue s.device.told → IsStanding key IsOp IsKept t v) → IsRunning key IsOp IsKept t v
    runs_after f = record {
      frames = kept_lists.frames;
      numbers = kept_lists.numbers;
      buffer = kept_lists.buffer.is;
      answers = kept_lists.answers.is;
      stands = λ y. f (sym c.session.touches.told ∙ y);
    }

    -- the whole tree that is read
    model_after : (z : IsTrue s.device.told) (x : Tree) → root_of t v ≡ x
        → model_of t v ≡ entry least_record (writer_items s v.buffer) x end
    model_after z x e = ap (λ (xs : List Record). entry least_record xs (root_of t v) end)
        (kept_lists.buffer.items z)
        ∙ ap (λ (y : Tree). entry least_record (writer_items s v.buffer) y end) e

    -- what was taken, of what is read then
    takes_as : (z : IsTrue s.device.told) (ys : List Record) (x : Tree) → root_of t v ≡ x
        → TakesFirst key step IsOp IsKept (given_by s v) (model_of s v) ys (given_by s v)
        (entry least_record (writer_items s v.buffer) x end)
        → TakesFirst key step IsOp IsKept (given_by s v) (model_of s v) ys (given_by t v) (model_of t v)
    takes_as z ys x e a =
        let G : List Record → Type 0 = λ g. TakesFirst key step IsOp IsKept (given_by s v) (model_of s v) ys g
        (entry least_record (writer_items s v.buffer) x end) in
        let M : Tree → Type 0 = λ y. TakesFirst key step IsOp IsKept (given_by s v) (model_of s v) ys
        (given_by t v) y in
        subst M (sym (model_after z x e)) (subst G (sym (kept_lists.answers.items z)) a)

    -- its meaning
    means_after : (z : IsTrue s.device.told) (ys : List Record)
        → TakesFirst key step IsOp IsKept (given_by s v) (model_of s v) ys (given_by t v) (model_of t v)
        → IsTree key (model_of t v) least_record None × InTurn key IsOp IsKept (model_of t v)
    means_after z ys a =
        let st = run.stands z in
        let r = a.represents (tree_contents key step (model_of s v))
        (tree_answers key step (given_by s v) (model_of s v))
        (represents_itself key step IsOp IsKept (given_by s v) (model_of s v) st.is st.turn) in
        (r.is, r.turn)

    -- A part of the first leaf's records was taken.
    module _ {area : List Record} {from n : ℕ}
        (part : IsTrue s.device.told → TookPart s t v.level v.root area from n) where
      part_takes : IsTrue s.device.told → TakesFirst key step IsOp IsKept (given_by s v) (model_of s v)
          (take n (drop from area)) (given_by t v) (model_of t v)
      part_takes z =
          let p = part z in
          takes_as z (take n (drop from area)) (with_first_leaf (root_of s v) p.rest) p.reads
          (takes_leaf key step IsOp IsKept (given_by s v) (model_of s v) (take n (drop from area)) p.rest tt
          p.stored (whole_over z))

      part_stands : IsTrue s.device.told → IsStanding key IsOp IsKept t v
      part_stands z =
          let st = run.stands z in
          let p = part z in
          let ys = take n (drop from area) in
          let shape = s.pool.shape in
          let limit = full_limit shape in
          let m = means_after z ys (part_takes z) in
          let model = model_after z (with_first_leaf (root_of s v) p.rest) p.reads in
          let L : Tree → Type 0 = LowsKeep least_record in
          let Z : Tree → Type 0 = λ x. IsSized shape (outline_of x) in
          let E : Tree → Type 0 = EachEntry (IsBounded v.level limit) v.level least_record None in
          let sized : IsSized shape (outline_of (with_first_leaf (model_of s v) p.rest)) = record {
            leaves = leaves_taken (leaf_limit shape) (model_of s v) ys p.rest p.stored st.sized.leaves;
            nodes = nodes_taken (2 * fan_of shape) (model_of s v) p.rest st.sized.nodes;
            fat = first_taken_fat (fan_of shape) (model_of s v) p.rest st.sized.fat;
          } in
          stands_after z p.is p.formed m.0 m.1
          (subst L (sym p.reads) (lows_with (root_of s v) least_record p.rest st.lows))
          (subst Z (sym model) sized)
          (subst E (sym p.reads) (each_taken (IsBounded v.level limit) v.level least_record None (root_of s v)
          p.rest st.bounded))

      -- Something is left,
      pub part_has : IsTrue s.device.told → HasContents (tree_contents key step (model_of t v))
      part_has z =
          let p = part z in
          let st = part_stands z in
          let model = model_after z (with_first_leaf (root_of s v) p.rest) p.reads in
          let ys = take n (drop from area) in
          let size = ap length p.stored ∙ length-append ys p.rest in
          let some = p.some in
          let q = parts_of p.rest some in
          let e : first_leaf (model_of t v) ≡ q.0 ∷ q.1 = ap first_leaf model
          ∙ (first_there (root_of s v) p.rest (omega (arith, size, some)) ∙ q.2) in
          let o : over_first (model_of t v) ≡ [] = ap over_first model
          ∙ (over_with (model_of s v) p.rest ∙ whole_over z) in
          tree_has key step IsOp IsKept (model_of t v) q.0 q.1 tt e o st.is st.turn

      -- and the sums know what was taken.
      pub part_sums : IsTrue s.device.told
          → SumsTake (length (take n (drop from area))) (sums_in s v) (sums_in t v)
      part_sums z =
          let p = part z in
          let ys = take n (drop from area) in
          let half : ShapeNumbers → ℕ = λ x. 2 * wide_of x * x.block in
          let S : Tree → Type 0 = λ x. SumsTake (length ys) (sums_in s v)
          (sums_of (half s.pool.shape) v.level (outline_of x) v.buffer.count v.buffer.blocks) in
          let H : ShapeNumbers → Type 0 = λ x. SumsTake (length ys) (sums_in s v)
          (sums_of (half x) v.level (outline_of (root_of t v)) v.buffer.count v.buffer.blocks) in
          subst H (sym c.session.touches.shape) (subst S (sym p.reads)
          (first_taken_sums (half s.pool.shape) v.level v.buffer.count v.buffer.blocks (root_of s v) ys p.rest
          p.stored))

      pub part_on : (IsTrue s.device.told → EachRead (IsThin (full_limit s.pool.shape)) s v)
          → TakesOn key step IsOp IsKept (take n (drop from area)) s t v v
      part_on thin = record {
        session = kept_lists.session;
        frames = c.frames;
        pays = kept_pays;
        loses = kept_lists.loses;
        numbers = record { pushed = refl; longest = refl; since = refl; settled = refl; resets = refl; spent = refl; adopted = refl; counted = refl };
        running = runs_after part_stands;
        takes = part_takes;
        thin = λ z.
            let p = part z in
            let limit = full_limit s.pool.shape in
            let E : Tree → Type 0 = EachEntry (IsThin limit) v.level least_record None in
            subst E (sym p.reads) (each_taken (IsThin limit) v.level least_record None (root_of s v) p.rest
            (thin z));
        drained = drained;
        gives = λ z. (let e = (part_sums z).waiting in omega (arith, e));
        room = λ z n h.
            let I : ShapeNumbers → Type 0 = IsShape in
            let is = subst I c.session.touches.shape c.session.sound.shape in
            keeps_by run is z c.peaks (let p = peak_fits is in omega (arith, p)) n h;
      }

    -- All of them were taken, and the leaf was removed.
    module _ (laws : IsSettle key step IsOp IsKept) {area : List Record} {from n : ℕ}
        (gone : IsTrue s.device.told → TookFirstLeaf s t v.level v.root area from n) where
      gone_takes : IsTrue s.device.told → TakesFirst key step IsOp IsKept (given_by s v) (model_of s v)
          (take n (drop from area)) (given_by t v) (model_of t v)
      gone_takes z =
          let st = run.stands z in
          let p = gone z in
          takes_as z (take n (drop from area)) (without_first (root_of s v)) p.reads
          (takes_whole_leaf key step IsOp IsKept laws (given_by s v) (take n (drop from area)) least_record
          (writer_items s v.buffer) (root_of s v) st.is.0 p.stored (over z) buffer_none p.some)

      gone_stands : IsTrue s.device.told → IsStanding key IsOp IsKept t v
      gone_stands z =
          let st = run.stands z in
          let p = gone z in
          let ys = take n (drop from area) in
          let root = root_of s v in
          let shape = s.pool.shape in
          let limit = full_limit shape in
          let m = means_after z ys (gone_takes z) in
          let model = model_after z (without_first root) p.reads in
          let L : Tree → Type 0 = LowsKeep least_record in
          let Z : Tree → Type 0 = λ x. IsSized shape (outline_of x) in
          let E : Tree → Type 0 = EachEntry (IsBounded v.level limit) v.level least_record None in
          let count = count_removed root in
          let before = st.sized.nodes.0 in
          let sized : Z (entry least_record (writer_items s v.buffer) (without_first root) end) = record {
            leaves = (leaves_removed (leaf_limit shape) root st.sized.leaves.0, st.sized.leaves.1);
            nodes = (
              omega (arith, count, before),
              nodes_removed (2 * fan_of shape) root st.sized.nodes.1,
              st.sized.nodes.2,
            );
            fat = (first_removed_fat (fan_of shape) root st.sized.fat.0, st.sized.fat.1);
          } in
          stands_after z p.is p.formed m.0 m.1
          (subst L (sym p.reads) (gone_keeps root least_record st.lows))
          (subst Z (sym model) sized)
          (subst E (sym p.reads) (each_removed (IsBounded v.level limit) (λ l lo other hi b h. h) v.level
          least_record None root st.bounded))

      -- what the accounting sees: first the records go, and then the leaf
      pub gone_first : IsTrue s.device.told
          → SumsTake (length (take n (drop from area))) (sums_in s v) sums_out
      gone_first z =
          let ys = take n (drop from area) in
          first_taken_sums (2 * wide_of s.pool.shape * s.pool.shape.block) v.level v.buffer.count
          v.buffer.blocks (root_of s v) ys [] ((gone z).stored ∙ sym (append-nil ys))

      pub gone_sums : IsTrue s.device.told → SumsRemove sums_out (sums_in t v)
      gone_sums z =
          let st = run.stands z in
          let p = gone z in
          let root = root_of s v in
          let left = with_first_leaf root [] in
          let half : ShapeNumbers → ℕ = λ x. 2 * wide_of x * x.block in
          let h = half s.pool.shape in
          let l = v.level - 1 in
          let some = run.numbers.level_some in
          let up : v.level ≡ suc l = omega (arith, some) in
          let K : ℕ → Type 0 = λ k. HasLevel left k in
          let level = subst K up (level_with root v.level [] (tree_level v.level s v.root)) in
          let ys = take n (drop from area) in
          let part = takes_leaf key step IsOp IsKept (given_by s v) (model_of s v) ys [] tt
          (p.stored ∙ sym (append-nil ys)) (whole_over z) in
          let r = part.represents (tree_contents key step (model_of s v))
          (tree_answers key step (given_by s v) (model_of s v))
          (represents_itself key step IsOp IsKept (given_by s v) (model_of s v) st.is st.turn) in
          let Q : Tree → Type 0 = HasEntry in
          let base = first_removed_sums h l v.buffer.count v.buffer.blocks key left least_record None
          (some_child root [] st.is.0) r.is.2 level (none_there root) (over_with root [] ∙ over z)
          (subst Q (sym (without_with root [])) p.some) in
          let A : Tree → Type 0 = λ x. SumsRemove
          (sums_of h (suc l) (outline_of left) v.buffer.count v.buffer.blocks)
          (sums_of h (suc l) (outline_of x) v.buffer.count v.buffer.blocks) in
          let B : ℕ → Type 0 = λ k. SumsRemove
          (sums_of h k (outline_of left) v.buffer.count v.buffer.blocks)
          (sums_of h k (outline_of (root_of t v)) v.buffer.count v.buffer.blocks) in
          let C : ShapeNumbers → Type 0 = λ x. SumsRemove sums_out
          (sums_of (half x) v.level (outline_of (root_of t v)) v.buffer.count v.buffer.blocks) in
          subst C (sym c.session.touches.shape) (subst B (sym up)
          (subst A (without_with root [] ∙ sym p.reads) base))

      pub gone_on : (IsTrue s.device.told → EachRead (IsThin (full_limit s.pool.shape)) s v)
          → TakesOn key step IsOp IsKept (take n (drop from area)) s t v v
      gone_on thin = record {
        session = kept_lists.session;
        frames = c.frames;
        pays = kept_pays;
        loses = kept_lists.loses;
        numbers = record { pushed = refl; longest = refl; since = refl; settled = refl; resets = refl; spent = refl; adopted = refl; counted = refl };
        running = runs_after gone_stands;
        takes = gone_takes;
        thin = λ z.
            let p = gone z in
            let limit = full_limit s.pool.shape in
            let E : Tree → Type 0 = EachEntry (IsThin limit) v.level least_record None in
            subst E (sym p.reads) (each_removed (IsThin limit) (λ l lo other hi b h. h) v.level least_record
            None (root_of s v) (thin z));
        drained = drained;
        gives = λ z. (let e = (gone_first z).waiting in let f = (gone_sums z).waiting in omega (arith, e, f));
        room = λ z n h.
            let I : ShapeNumbers → Type 0 = IsShape in
            let is = subst I c.session.touches.shape c.session.sound.shape in
            keeps_by run is z c.peaks (let p = peak_fits is in omega (arith, p)) n h;
      }
