-- Records in order, each replaced by another: what order puts first makes no difference.
use Rattle.std.proofs.Common.{inl, inr, ◌≡◌, cond, List, [], ◌∷◌, sym, ap, ◌∙◌, refl, subst, map}
use Rattle.std.proofs.lemmas.Bool.{cases_Bool}
use Rattle.em_record.specs.declared.record.Record.{Record}
use Rattle.em_record.specs.Order.{is_below, with_record, in_order, Lacks}
use Rattle.em_record.proofs.Commutes.{with_commutes, order_cons}
use Rattle.aig_defs.proofs.Graphs.{AllApart}

-- records in order, each replaced by another, in order
map_with : (f : Record → Record) (x : Record) (ys : List Record)
    → in_order (map f (with_record x ys)) ≡ in_order (f x ∷ map f ys)
map_with f x [] = refl
map_with f x (y ∷ ys) = elim (cases_Bool (is_below y x)) [
  | inl below ↦
      let rest = in_order (map f ys) in
      ap (λ b. in_order (map f (cond b (y ∷ with_record x ys) (x ∷ y ∷ ys)))) below
      ∙ order_cons (f y) (map f (with_record x ys))
      ∙ ap (with_record (f y)) (map_with f x ys ∙ order_cons (f x) (map f ys))
      ∙ with_commutes (f y) (f x) rest
      ∙ ap (with_record (f x)) (sym (order_cons (f y) (map f ys)))
      ∙ sym (order_cons (f x) (f y ∷ map f ys))
  | inr past ↦ ap (λ b. in_order (map f (cond b (y ∷ with_record x ys) (x ∷ y ∷ ys)))) past
]

pub map_order : (f : Record → Record) (xs : List Record)
    → in_order (map f (in_order xs)) ≡ in_order (map f xs)
map_order f [] = refl
map_order f (x ∷ xs) =
    ap (λ ys. in_order (map f ys)) (order_cons x xs)
    ∙ map_with f x (in_order xs)
    ∙ order_cons (f x) (map f (in_order xs))
    ∙ ap (with_record (f x)) (map_order f xs)
    ∙ sym (order_cons (f x) (map f xs))

-- the same of records in order
lacks_map_with : (f : Record → Record) (z x : Record) (ys : List Record)
    → Lacks z (f x ∷ map f ys) → Lacks z (map f (with_record x ys))
lacks_map_with f z x [] h = h
lacks_map_with f z x (y ∷ ys) h = elim (cases_Bool (is_below y x)) [
  | inl below ↦
      subst (λ b. Lacks z (map f (cond b (y ∷ with_record x ys) (x ∷ y ∷ ys)))) (sym below)
      (h.1.0, lacks_map_with f z x ys (h.0, h.1.1))
  | inr past ↦
      subst (λ b. Lacks z (map f (cond b (y ∷ with_record x ys) (x ∷ y ∷ ys)))) (sym past) h
]

lacks_map_order : (f : Record → Record) (z : Record) (xs : List Record) → Lacks z (map f xs)
    → Lacks z (map f (in_order xs))
lacks_map_order f z [] h = h
lacks_map_order f z (x ∷ xs) h =
    subst (λ ys. Lacks z (map f ys)) (sym (order_cons x xs))
    (lacks_map_with f z x (in_order xs) (h.0, lacks_map_order f z xs h.1))

apart_map_with : (f : Record → Record) (x : Record) (ys : List Record)
    → AllApart (f x ∷ map f ys) → AllApart (map f (with_record x ys))
apart_map_with f x [] h = h
apart_map_with f x (y ∷ ys) h = elim (cases_Bool (is_below y x)) [
  | inl below ↦
      let differ = λ (p : (f x).a ≡ (f y).a) (q : (f x).b ≡ (f y).b). h.0.0 (sym p) (sym q) in
      subst (λ b. AllApart (map f (cond b (y ∷ with_record x ys) (x ∷ y ∷ ys)))) (sym below)
      (lacks_map_with f (f y) x ys (differ, h.1.0), apart_map_with f x ys (h.0.1, h.1.1))
  | inr past ↦
      subst (λ b. AllApart (map f (cond b (y ∷ with_record x ys) (x ∷ y ∷ ys)))) (sym past) h
]

pub apart_map_order : (f : Record → Record) (xs : List Record) → AllApart (map f xs)
    → AllApart (map f (in_order xs))
apart_map_order f [] h = h
apart_map_order f (x ∷ xs) h =
    subst (λ ys. AllApart (map f ys)) (sym (order_cons x xs))
    (apart_map_with f x (in_order xs) (lacks_map_order f (f x) xs h.0, apart_map_order f xs h.1))
