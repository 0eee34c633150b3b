-- A load enters the tree of a batch: its joined operations are pushed.
use Rattle.std.specs.Prelude.{ℕ, ◌≡◌, ◌+◌, ◌-◌, ◌≤◌, max, List, ◌++◌, length, IsTrue}
use Rattle.std.proofs.Common.{sym, ap, subst, ◌∙◌, arith}
use Rattle.std.specs.List.{All}
use Rattle.std.proofs.lemmas.List.Sorted.{IsPermutation-append_right, IsPermutation-trans}
use Rattle.em_record.specs.declared.record.Record.{Record}
use Rattle.em_model.specs.Map.{Combiner}
use Rattle.em_settle.specs.Add.{IsAddOp, IsAssociative, add_step_of}
use Rattle.em_settle.specs.Map.{IsMapKept, map_key_of}
use Rattle.em_settle.specs.States.{answers_to}
use Rattle.em_space.specs.Rig.{RigState, Sound}
use Rattle.em_space.specs.declared.fault.EmFault.{EmFault}
use Rattle.em_tree_model.specs.Meaning.{tree_answers, tree_contents}
use Rattle.em_trunk.specs.Trunk.{IsTrunk, given_by, model_of}
use Rattle.em_trunk.specs.declared.trunk.Trunk.{Trunk}
use Rattle.em_combine.specs.Joining.{JoinsLoad}
use Rattle.em_combine.proofs.Loads.{load_answers, load_left}
use Rattle.em_combine.proofs.Turns.{ops_of_load}
use Rattle.em_map.specs.Batch.{FollowFrom, rule_of, trunk_of}
use Rattle.em_map.specs.Contents.{WaitsUpTo}
use Rattle.em_map.specs.Early.{left_of}
use Rattle.em_map.specs.Gathering.{CanEnter, EnteredBatch}
use Rattle.em_map.specs.Loading.{ComeLater, EntersTree, LoadOver, LoadWithin, PushedAll, answers_in}
use Rattle.em_map.specs.declared.batch.Batch.{Batch}
use Rattle.em_map.proofs.Early.{left_few}
use Rattle.em_map.proofs.Later.{follow_turn, load_later, load_waits}
use Rattle.em_map.proofs.Pushing.{over_wider, room_wider}

-- A join by rules that join values alike, and of a list that is equal.
pub joins_by : (apply used : Combiner) (items mid left : List Record) → used ≡ apply → left ≡ mid
    → JoinsLoad used items mid → JoinsLoad apply items left
joins_by apply used items mid left alike same j =
    subst (λ (f : Combiner). JoinsLoad f items left) alike
    (subst (λ (zs : List Record). JoinsLoad used items zs) (sym same) j)

module _ (apply : Combiner) (items left : List Record) (j : JoinsLoad apply items left) where
  -- What is left of a load is no longer than it was,
  pub joined_few : length left ≤ length items
  joined_few =
      let few = left_few items in
      omega (arith, few, j.count)

  -- and are operations of a map.
  pub joined_ops : All IsAddOp items → All IsAddOp left
  joined_ops ops = subst (All IsAddOp) (sym j.is) (ops_of_load apply items ops)

-- A load whose numbers are the last ones up to n.
module _ (apply : Combiner) (n : ℕ) (items left : List Record) (few : length items ≤ n)
    (follow : FollowFrom (n - length items) items) (j : JoinsLoad apply items left) where
  -- What is left of it comes later than what waits.
  pub left_later : (s : RigState) (v : Trunk) → (IsTrue s.device.told → WaitsUpTo (n - length items) (model_of s v))
      → IsTrue s.device.told → ComeLater (model_of s v) left
  left_later s v waits told =
      load_later apply (n - length items) n items left (model_of s v) (omega (arith, few)) follow j (waits told)

  -- It was pushed: the whole load entered the tree.
  pub enters_tree : IsAssociative apply → (s t : RigState) (v w : Trunk)
      → (IsTrue s.device.told → WaitsUpTo (n - length items) (model_of s v)) → PushedAll apply left s t v w
      → EntersTree apply n items s t v w
  enters_tree assoc s t v w waits p =
      let step = add_step_of apply in
      let old = tree_contents map_key_of step (model_of s v) in
      let gave = tree_answers map_key_of step (given_by s v) (model_of s v) in
      record {
        is = p.changes.is;
        session = p.changes.session;
        frames = p.changes.frames;
        pays = p.changes.pays;
        loses = p.changes.loses;
        contents = λ told q. (p.changes.meaning told).contents q ∙ load_left apply assoc items left j old q;
        answers = λ told. IsPermutation-trans (gave ++ answers_to map_key_of step old items)
            (gave ++ answers_to map_key_of step old left)
            (tree_answers map_key_of step (given_by t w) (model_of t w))
            (IsPermutation-append_right gave (answers_to map_key_of step old items) (answers_to map_key_of step old left)
            (load_answers apply assoc items left (follow_turn (n - length items) items follow) j old))
            (p.changes.meaning told).answers;
        waits = λ told. load_waits apply (n - length items) n items left (model_of s v) (omega (arith, few)) follow j
            (waits told) (model_of t w) (p.changes.meaning told).advances;
      }

-- So it was with the tree of a batch.
pub entered_batch : {F : Type 0} (b d : Batch F) (items left : List Record) (s t : RigState) → IsAssociative (rule_of b)
    → CanEnter s b items → JoinsLoad (rule_of b) items left
    → PushedAll (rule_of b) left s t (trunk_of b) (trunk_of d) → EnteredBatch items s t b d
entered_batch b d items left s t assoc can j p = record {
  enters = enters_tree (rule_of b) b.calls items left can.few can.follow j assoc s t (trunk_of b) (trunk_of d) can.waits p;
  pushed = omega (arith, p.pushed, j.count);
  idle = λ e. p.idle (j.count ∙ ap left_of e);
}

-- The room of what is left of a load is within that of the load.
module _ (apply : Combiner) (items left : List Record) (s : RigState) (v : Trunk) (sound : Sound s)
    (is : IsTrunk map_key_of IsAddOp IsMapKept s v) (most : v.longest ≤ v.pushed + v.adopted) (j : JoinsLoad apply items left)
    (told : IsTrue s.device.told) where
  far : max v.longest (v.since + length left) ≤ v.pushed + v.adopted + length items
  far =
      let few = joined_few apply items left j in
      omega (arith, few, most, is.running.numbers.since_most)

  more : answers_in apply s v + length left ≤ answers_in apply s v + length items
  more =
      let few = joined_few apply items left j in
      omega (arith, few)

  pub room_entered : (t : RigState)
      → LoadWithin (max v.longest (v.since + length left)) (answers_in apply s v + length left) s t v
      → LoadWithin (v.pushed + v.adopted + length items) (answers_in apply s v + length items) s t v
  room_entered t r = room_wider (max v.longest (v.since + length left)) (v.pushed + v.adopted + length items)
      (answers_in apply s v + length left) (answers_in apply s v + length items) s t v sound.shape far more r

  pub over_entered : (fault : EmFault)
      → LoadOver (max v.longest (v.since + length left)) (answers_in apply s v + length left) s v fault
      → LoadOver (v.pushed + v.adopted + length items) (answers_in apply s v + length items) s v fault
  over_entered fault r = over_wider (max v.longest (v.since + length left)) (v.pushed + v.adopted + length items)
      (answers_in apply s v + length left) (answers_in apply s v + length items) s v fault sound.shape far more r
