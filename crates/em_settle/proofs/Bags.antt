-- A bag keeps its operations themselves, in the order of records.
use Rattle.std.specs.Prelude.{◌≡◌, true, false, List, [], ◌∷◌}
use Rattle.std.proofs.Common.{sym, ap, ◌∙◌, refl, ⊎_elim}
use Rattle.std.proofs.lemmas.Bool.{cases_Bool, cond-true, cond-false}
use Rattle.em_record.specs.declared.record.Record.{Record}
use Rattle.em_record.specs.Order.{is_below, Lacks, with_record, with_records}
use Rattle.em_record.proofs.Order.{below_ranks}
use Rattle.em_settle.specs.Bag.{bag_key_of, bag_step_of}
use Rattle.em_settle.specs.BagLaws.{in_order}
use Rattle.em_settle.specs.Lists.{list_with_op, list_with_ops}
use Rattle.em_settle.proofs.Keys.{between_is, other_key}

-- each operation has other words a and b than what is there when it comes
abbrev pub AllLack : List Record → List Record → Type 0
AllLack xs [] = Unit {0}
AllLack xs (op ∷ ops) = Lacks op xs × AllLack (with_record op xs) ops

-- records with other words a or b have other keys
keys_apart : (x y : Record) → (y.a ≡ x.a → y.b ≡ x.b → ⊥) → bag_key_of y ≡ bag_key_of x → ⊥
keys_apart x y n e = n (ap (λ (r : Record). r.a) e) (ap (λ (r : Record). r.b) e)

-- and compare as their keys do
below_by_key : (x y : Record) → (y.a ≡ x.a → y.b ≡ x.b → ⊥)
    → is_below (bag_key_of y) (bag_key_of x) ≡ is_below y x
below_by_key x y n = ⊎_elim
    (λ (t : is_below y x ≡ true). ⊎_elim
    (λ (u : is_below (bag_key_of y) (bag_key_of x) ≡ true). u ∙ sym t)
    (λ (v : is_below (bag_key_of y) (bag_key_of x) ≡ false).
    absurd (keys_apart x y n (between_is (bag_key_of y) (bag_key_of x) v
    (in_order y x (below_ranks.one_way y x t)))))
    (cases_Bool (is_below (bag_key_of y) (bag_key_of x))))
    (λ (f : is_below y x ≡ false). in_order x y f ∙ sym f)
    (cases_Bool (is_below y x))

-- One operation goes in as one record more.
pub bag_with_op : (xs : List Record) (op : Record) → Lacks op xs
    → list_with_op bag_key_of bag_step_of xs op ≡ with_record op xs
bag_with_op [] op l = refl
bag_with_op (x ∷ xs) op l =
    let same = below_by_key op x l.0 in ⊎_elim
    (λ (t : is_below x op ≡ true).
    cond-true _ _ _ (same ∙ t) ∙ (ap (λ zs. x ∷ zs) (bag_with_op xs op l.1)
    ∙ sym (cond-true _ _ _ t)))
    (λ (f : is_below x op ≡ false).
    cond-false _ _ _ (same ∙ f) ∙ (cond-false _ _ _ (other_key bag_key_of (bag_key_of op) x
    (keys_apart op x l.0)) ∙ sym (cond-false _ _ _ f)))
    (cases_Bool (is_below x op))

-- Several operations go in as records one after another.
pub bag_with_ops : (xs ops : List Record) → AllLack xs ops
    → list_with_ops bag_key_of bag_step_of xs ops ≡ with_records xs ops
bag_with_ops xs [] l = refl
bag_with_ops xs (op ∷ ops) l =
    ap (λ zs. list_with_ops bag_key_of bag_step_of zs ops) (bag_with_op xs op l.0)
    ∙ bag_with_ops (with_record op xs) ops l.1
