-- A batch whose load was taken out: its tree, and operations that haven't entered it.
use Rattle.std.specs.Prelude.{◌≡◌, Bool, false, ℕ, ◌+◌, ◌-◌, ◌<◌, ◌≤◌, ◌^◌, List, [], ◌∷◌, ◌++◌, length, IsTrue, None, IfSome}
use Rattle.std.proofs.Common.{sym, ap, subst, ◌∙◌, arith}
use Rattle.std.proofs.lemmas.List.{length-append}
use Rattle.em_record.specs.declared.record.Record.{Record}
use Rattle.std.proofs.lemmas.List.Sorted.{length_permutation}
use Rattle.em_model.specs.Map.{Combiner}
use Rattle.em_settle.specs.Add.{IsAddOp, add_step_of}
use Rattle.em_settle.specs.Map.{IsMapKept, map_key_of}
use Rattle.em_settle.specs.States.{answers_to}
use Rattle.em_space.specs.Rig.{RigState}
use Rattle.em_tree_model.specs.Meaning.{tree_answers, tree_contents}
use Rattle.em_tree_model.specs.Tree.{Tree}
use Rattle.em_trunk.specs.Trunk.{IsTrunk, given_by, model_of}
use Rattle.em_trunk.specs.declared.trunk.Trunk.{Trunk}
use Rattle.em_map.specs.Batch.{HasArea, IsBatch, IsLoad, entered_of, entries_of, gathered_in, rule_of, trunk_of}
use Rattle.em_map.specs.Contents.{WaitsUpTo}
use Rattle.em_map.specs.Loading.{CountsPushes, EntersTree, answers_in}
use Rattle.em_map.specs.declared.batch.Batch.{Batch}
use Rattle.em_map.proofs.Pushing.{answers_most}
use Rattle.em_map.proofs.Rules.{same_rule}

-- What ties its tree to the rig, and its numbers, while these operations of its last calls haven't entered it.
pub record Stands {F : Type 0} (s : RigState) (b : Batch F) (ops : List Record) : Type 0 where
  pub is : IsTrunk map_key_of IsAddOp IsMapKept s (trunk_of b)
  pub entries : entries_of b + length ops + b.syncs ≤ b.calls
  pub longest : (trunk_of b).longest ≤ entries_of b
  pub few : b.calls ≤ 2 ^ 40 + (trunk_of b).adopted
  pub few_adopted : (trunk_of b).adopted ≤ 2 ^ 56
  pub settled : (trunk_of b).settled ≡ b.syncs
  pub unreset : (trunk_of b).resets ≡ 0
  pub uncounted : (trunk_of b).counted ≡ 0
  pub waits : IsTrue s.device.told → WaitsUpTo (b.calls - length ops) (model_of s (trunk_of b))
  pub answers : IsTrue s.device.told
      → answers_in (rule_of b) s (trunk_of b) + (trunk_of b).adopted ≤ b.calls - length ops

-- A batch stands so,
pub stands_is : {F : Type 0} (s : RigState) (b : Batch F) → IsBatch s b → Stands s b (gathered_in b)
stands_is s b i = record {
  is = i.is;
  entries = i.entries;
  longest = i.longest;
  few = i.few;
  few_adopted = i.few_adopted;
  settled = i.settled;
  unreset = i.unreset;
  uncounted = i.uncounted;
  waits = i.waits;
  answers = i.answers;
}

-- and is one again with its load.
pub batch_is : {F : Type 0} (s : RigState) (b : Batch F) → Stands s b (gathered_in b)
    → (b.early ≡ false → b.load ≡ None) → (b.early ≡ false → entries_of b + b.syncs ≡ b.calls)
    → IfSome b.load (HasArea s) → IfSome b.load (IsLoad s (entered_of b))
    → IsBatch s b
batch_is s b i plain alone area load = record {
  is = i.is;
  plain = plain;
  alone = alone;
  area = area;
  load = load;
  entries = i.entries;
  longest = i.longest;
  few = i.few;
  few_adopted = i.few_adopted;
  settled = i.settled;
  unreset = i.unreset;
  uncounted = i.uncounted;
  waits = i.waits;
  answers = i.answers;
}

-- An operation came.
pub stands_next : {F : Type 0} (s : RigState) (b d : Batch F) (ops : List Record) (op : Record) → d.tree ≡ b.tree
    → d.calls ≡ b.calls + 1 → d.syncs ≡ b.syncs → b.calls < 2 ^ 40 + (trunk_of b).adopted → Stands s b ops
    → Stands s d (ops ++ op ∷ [])
stands_next s b d ops op tree calls syncs few i =
    let one = length-append ops (op ∷ []) in
    let trunk : trunk_of d ≡ trunk_of b = ap (λ (x : _). x.trunk) tree in
    let pushed : (trunk_of d).pushed ≡ (trunk_of b).pushed = ap (λ (v : _). v.pushed) trunk in
    let longest : (trunk_of d).longest ≡ (trunk_of b).longest = ap (λ (v : _). v.longest) trunk in
    let adopted : (trunk_of d).adopted ≡ (trunk_of b).adopted = ap (λ (v : _). v.adopted) trunk in
    let settled : (trunk_of d).settled ≡ (trunk_of b).settled = ap (λ (v : _). v.settled) trunk in
    let resets : (trunk_of d).resets ≡ (trunk_of b).resets = ap (λ (v : _). v.resets) trunk in
    let n : d.calls - length (ops ++ op ∷ []) ≡ b.calls - length ops = omega (arith, one, calls, i.entries) in
    let rule : rule_of d ≡ rule_of b = same_rule b d (ap (λ (x : _). x.settle) tree) in
    record {
      is = subst (λ (v : _). IsTrunk map_key_of IsAddOp IsMapKept s v) (sym trunk) i.is;
      entries = omega (arith, one, calls, syncs, pushed, adopted, i.entries);
      longest = omega (arith, pushed, adopted, longest, i.longest);
      few = omega (arith, calls, adopted, few);
      few_adopted = omega (arith, adopted, i.few_adopted);
      settled = settled ∙ i.settled ∙ sym syncs;
      unreset = resets ∙ i.unreset;
      uncounted = ap (λ (v : _). v.counted) trunk ∙ i.uncounted;
      waits = λ told. subst (λ (v : _). WaitsUpTo (d.calls - length (ops ++ op ∷ [])) (model_of s v)) (sym trunk)
          (subst (λ (k : ℕ). WaitsUpTo k (model_of s (trunk_of b))) (sym n) (i.waits told));
      answers = λ told.
          let same : answers_in (rule_of d) s (trunk_of d) ≡ answers_in (rule_of b) s (trunk_of b) =
          ap (λ (v : _). answers_in (rule_of d) s v) trunk ∙ ap (λ (f : _). answers_in f s (trunk_of b)) rule in
          let a = i.answers told in omega (arith, same, adopted, a, n);
    }

-- After operations entered it, a tree has given or owes no more answers than it did and one of each.
pub answers_entered : (apply : _) (n : ℕ) (ops : List Record) (s t : RigState) (v w : _)
    → EntersTree apply n ops s t v w → IsTrue s.device.told
    → answers_in apply t w ≤ answers_in apply s v + length ops
answers_entered apply n ops s t v w e told =
    let step = add_step_of apply in
    let old = tree_answers map_key_of step (given_by s v) (model_of s v) in
    let more = answers_to map_key_of step (tree_contents map_key_of step (model_of s v)) ops in
    let all = length_permutation (old ++ more) (tree_answers map_key_of step (given_by t w) (model_of t w)) (e.answers told) in
    let both = length-append old more in
    let few = answers_most map_key_of step (tree_contents map_key_of step (model_of s v)) ops in
    omega (arith, all, both, few)

-- The same is given and read: as many answers are given or owed.
pub answers_alike : (apply : Combiner) (s t : RigState) (v : Trunk) → model_of t v ≡ model_of s v
    → given_by t v ≡ given_by s v → answers_in apply t v ≡ answers_in apply s v
answers_alike apply s t v model given =
    let step = add_step_of apply in
    ap (λ (rs : List Record). length (tree_answers map_key_of step rs (model_of t v))) given
    ∙ ap (λ (x : Tree). length (tree_answers map_key_of step (given_by s v) x)) model

-- They entered the tree.
pub stands_entered : {F : Type 0} (s t : RigState) (b d : Batch F) (ops : List Record) (n : ℕ) → Stands s b ops
    → EntersTree (rule_of b) b.calls ops s t (trunk_of b) (trunk_of d)
    → CountsPushes n s t (trunk_of b) (trunk_of d) → (trunk_of d).pushed ≡ (trunk_of b).pushed + n → n ≤ length ops
    → d.tree.settle ≡ b.tree.settle → d.calls ≡ b.calls → d.syncs ≡ b.syncs → Stands t d []
stands_entered s t b d ops n i e c pushed few rule calls syncs =
    let back : IsTrue t.device.told → IsTrue s.device.told = λ told.
    subst (λ (z : Bool). IsTrue z) e.session.touches.told told in
    let since = i.is.running.numbers.since_most in
    let most = c.longest in
    let adopted = c.adopted in
    let v = trunk_of b in
    record {
      is = e.is;
      entries = omega (arith, i.entries, pushed, adopted, few, calls, syncs);
      longest = omega (arith, most, since, i.longest, pushed, adopted);
      few = omega (arith, calls, adopted, i.few);
      few_adopted = omega (arith, adopted, i.few_adopted);
      settled = c.settled ∙ i.settled ∙ sym syncs;
      unreset = c.resets ∙ i.unreset;
      uncounted = c.counted ∙ i.uncounted;
      waits = λ told. subst (λ (k : ℕ). WaitsUpTo k (model_of t (trunk_of d))) (let k : b.calls ≡ d.calls - length {A = Record} [] = omega (arith, calls) in k)
          (e.waits (back told));
      answers = λ told.
          let same : answers_in (rule_of d) t (trunk_of d) ≡ answers_in (rule_of b) t (trunk_of d) =
          ap (λ (f : _). answers_in f t (trunk_of d)) (same_rule b d rule) in
          let more = answers_entered (rule_of b) b.calls ops s t (trunk_of b) (trunk_of d) e (back told) in
          let few_old = i.answers (back told) in
          omega (arith, same, more, few_old, adopted, i.entries, calls);
    }
