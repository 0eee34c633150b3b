-- Records whose words a and b no item has.
use Rattle.std.proofs.Common.{◌≡◌, ◌↔◌, List, [], ◌∷◌, ◌++◌, true, false, sym, subst, ⊎_elim}
use Rattle.std.proofs.lemmas.Bool.{cases_Bool}
use Rattle.em_record.specs.declared.record.Record.{Record}
use Rattle.em_record.specs.Order.{is_below, with_record, in_order, Lacks}
use Rattle.em_record.proofs.Commutes.{order_cons}

-- one record more, with another a or b
pub lacks_with : (x y : Record) (ys : List Record) → Lacks x ys → (y.a ≡ x.a → y.b ≡ x.b → ⊥)
    → Lacks x (with_record y ys)
lacks_with x y [] h n = (n, tt)
lacks_with x y (z ∷ zs) h n = ⊎_elim
    (λ (t : is_below z y ≡ true). rw t (h.0, lacks_with x y zs h.1 n))
    (λ (f : is_below z y ≡ false). rw f (n, h))
    (cases_Bool (is_below z y))

-- and back
pub lacks_without : (x y : Record) (ys : List Record) → Lacks x (with_record y ys)
    → Lacks x (y ∷ ys)
lacks_without x y [] h = h
lacks_without x y (z ∷ zs) h = ⊎_elim
    (λ (t : is_below z y ≡ true).
    let k = rw t at h in let r = lacks_without x y zs k.1 in (r.0, (k.0, r.1)))
    (λ (f : is_below z y ≡ false). rw f at h)
    (cases_Bool (is_below z y))

-- some records fewer
pub lacks_right : (x : Record) (xs ys : List Record) → Lacks x (xs ++ ys) → Lacks x ys
lacks_right x [] ys h = h
lacks_right x (z ∷ zs) ys h = lacks_right x zs ys h.1

-- Some records in order lack what they lack in any order.
pub lacks_order : (x : Record) (ys : List Record) → Lacks x (in_order ys) ↔ Lacks x ys
lacks_order x [] = (λ h. h, λ h. h)
lacks_order x (y ∷ ys) = (
  λ h.
      let r = lacks_without x y (in_order ys) (subst (Lacks x) (order_cons y ys) h) in
      (r.0, (lacks_order x ys).0 r.1),
  λ h. subst (Lacks x) (sym (order_cons y ys))
      (lacks_with x y (in_order ys) ((lacks_order x ys).1 h.1) h.0),
)
