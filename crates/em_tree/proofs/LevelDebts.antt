-- What may be owed, over steps of the loop over a level's buffers.
use Rattle.std.proofs.Common.{◌≡◌, ℕ, zero, suc, ◌+◌, ◌-◌, ◌*◌, ◌≤◌, refl, sym, ap, ◌∙◌, subst, arith}
use Rattle.std.proofs.Math.Nat.{mul-add}
use Rattle.em_record.specs.Shape.{ShapeNumbers}
use Rattle.em_space.specs.Rig.{RigState}
use Rattle.em_tree_cost.specs.Counters.{Sums}
use Rattle.em_tree_model.specs.Tree.{Tree}
use Rattle.em_trunk.specs.Debts.{KeepsOwing, leaf_owing, owing_at, owing_now, owing_to}
use Rattle.em_trunk.specs.Works.{deepest}
use Rattle.em_trunk.specs.Owing.{loads_owing, lowers_owing}
use Rattle.em_trunk.specs.Trunk.{root_of, sums_in}
use Rattle.em_trunk.specs.declared.trunk.Trunk.{Trunk}

-- The same tree may owe as much.
owing_at_same : (at : ℕ) (s t : RigState) (v w : Trunk) → t.pool.shape ≡ s.pool.shape
    → deepest t w ≡ deepest s v → root_of t w ≡ root_of s v → w.level ≡ v.level
    → owing_at at t w ≡ owing_at at s v
owing_at_same zero s t v w shape deep root level = refl
owing_at_same (suc zero) s t v w shape deep root level =
    let block = ap (λ (h : ShapeNumbers). h.block) shape in
    ap (λ (b : ℕ). loads_owing b (deepest t w) (root_of t w)) block
    ∙ (ap (λ (d : ℕ). loads_owing s.pool.shape.block d (root_of t w)) deep
    ∙ ap (λ (x : Tree). loads_owing s.pool.shape.block (deepest s v) x) root)
owing_at_same (suc (suc l)) s t v w shape deep root level =
    let block = ap (λ (h : ShapeNumbers). h.block) shape in
    let n = suc (suc l) in
    ap (λ (b : ℕ). lowers_owing b (deepest t w) n w.level (root_of t w)) block
    ∙ (ap (λ (d : ℕ). lowers_owing s.pool.shape.block d n w.level (root_of t w)) deep
    ∙ (ap (λ (top : ℕ). lowers_owing s.pool.shape.block (deepest s v) n top (root_of t w)) level
    ∙ ap (λ (x : Tree). lowers_owing s.pool.shape.block (deepest s v) n v.level x) root))

owing_to_same : (at : ℕ) (s t : RigState) (v w : Trunk) → t.pool.shape ≡ s.pool.shape
    → deepest t w ≡ deepest s v → sums_in t w ≡ sums_in s v → owing_to at t w ≡ owing_to at s v
owing_to_same zero s t v w shape deep sums = refl
owing_to_same (suc at) s t v w shape deep sums =
    let block = ap (λ (h : ShapeNumbers). h.block) shape in
    let part : ℕ → ℕ → Sums → ℕ = λ b d z. 10 * (z.stored + z.waiting)
    + b * (z.leaves * (35 + 3 * d + at * (12 + 2 * d))) in
    ap (λ (b : ℕ). part b (deepest t w) (sums_in t w)) block
    ∙ (ap (λ (d : ℕ). part s.pool.shape.block d (sums_in t w)) deep
    ∙ ap (λ (z : Sums). part s.pool.shape.block (deepest s v) z) sums)

pub owing_same : (at : ℕ) (s t : RigState) (v w : Trunk) → t.pool.shape ≡ s.pool.shape
    → deepest t w ≡ deepest s v → root_of t w ≡ root_of s v → w.level ≡ v.level
    → sums_in t w ≡ sums_in s v → owing_now at t w ≡ owing_now at s v
owing_same zero s t v w shape deep root level sums = refl
owing_same (suc l) s t v w shape deep root level sums =
    let a = owing_at_same (suc l) s t v w shape deep root level in
    let b = owing_to_same l s t v w shape deep sums in
    omega (arith, a, b)

-- what a leaf that comes may owe, after a step
leaf_same : (s t : RigState) (v w : Trunk) → t.pool.shape ≡ s.pool.shape → deepest t w ≡ deepest s v
    → leaf_owing t w ≡ leaf_owing s v
leaf_same s t v w shape deep =
    ap (λ (h : ShapeNumbers). h.block * (35 + 3 * deepest t w)) shape
    ∙ ap (λ (d : ℕ). s.pool.shape.block * (35 + 3 * d)) deep

-- A step that owes nothing, and leaves the tree as it is.
pub keeps_same : (at : ℕ) (s t : RigState) (v w : Trunk) → t.pool.shape ≡ s.pool.shape
    → deepest t w ≡ deepest s v → root_of t w ≡ root_of s v → w.level ≡ v.level
    → sums_in t w ≡ sums_in s v
    → KeepsOwing (owing_now at s v) (owing_now at t w) 0 s t v w
keeps_same at s t v w shape deep root level sums =
    let e = owing_same at s t v w shape deep root level sums in
    let f = ap (λ (z : Sums). z.leaves) sums in
    let g = ap (λ (n : ℕ). leaf_owing s v * n) f in
    record { leaves = omega (arith, f); owes = omega (arith, e, g) }

-- by numbers alone
both_owe : (x y z a b c i j k : ℕ) → x + b + i ≤ a + j → y + c + j ≤ b + k → z ≡ x + y
    → z + c + i ≤ a + k
both_owe x y z a b c i j k h g e = omega (arith, h, g, e)

-- one step after another
pub keeps_then : {a b c : ℕ} {s t u : RigState} {v w x : Trunk} (d e : ℕ)
    → t.pool.shape ≡ s.pool.shape → deepest t w ≡ deepest s v → KeepsOwing a b d s t v w
    → KeepsOwing b c e t u w x → KeepsOwing a c (d + e) s u v x
keeps_then {a = a} {b = b} {c = c} {s = s} {t = t} {u = u} {v = v} {w = w} {x = x} d e shape deep first
    then =
    let B = s.pool.shape.block in
    let z = leaf_owing s v in
    let f = leaf_same s t v w shape deep in
    let P : ℕ → Type 0 = λ n. n * e + c + leaf_owing t w * (sums_in t w).leaves
    ≤ b + leaf_owing t w * (sums_in u x).leaves in
    let Q : ℕ → Type 0 = λ n. B * e + c + n * (sums_in t w).leaves ≤ b + n * (sums_in u x).leaves in
    let second = subst Q f (subst P (ap (λ (h : ShapeNumbers). h.block) shape) then.owes) in
    let l1 = first.leaves in
    let l2 = then.leaves in
    record {
      leaves = omega (arith, l1, l2);
      owes = both_owe (B * d) (B * e) (B * (d + e)) a b c (z * (sums_in s v).leaves)
          (z * (sums_in t w).leaves) (z * (sums_in u x).leaves) first.owes second (mul-add B d e);
    }

-- What a level's own buffers may owe is let go at its end.
pub owing_to_least : (at d : ℕ) {a : ℕ} {s t : RigState} {v w : Trunk}
    → KeepsOwing a (owing_now at t w) d s t v w → KeepsOwing a (owing_to (at - 1) t w) d s t v w
owing_to_least zero d h = h
owing_to_least (suc l) d {a = a} {s = s} {t = t} {v = v} {w = w} h =
    let K : ℕ → Type 0 = λ n. KeepsOwing a (owing_to n t w) d s t v w in
    let e : suc l - 1 ≡ l = omega arith in
    let f = h.owes in
    subst K (sym e) (record { leaves = h.leaves; owes = omega (arith, f) })
