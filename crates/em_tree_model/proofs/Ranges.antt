-- Keys in ranges.
use Rattle.std.specs.Prelude.{◌≡◌, true, false, cond, List, [], ◌∷◌, ◌++◌, Option, Some, None}
use Rattle.std.proofs.Common.{sym, ap, ◌∙◌, refl, ⊎_elim}
use Rattle.std.proofs.lemmas.Bool.{cases_Bool, false≢true, cond-true, cond-false}
use Rattle.em_record.specs.declared.record.Record.{Record}
use Rattle.em_record.specs.Order.{is_below}
use Rattle.em_record.proofs.Order.{below_ranks}
use Rattle.em_settle.specs.Keys.{has_key, of_key, record_at}
use Rattle.em_settle.proofs.Keys.{other_key, none_of_key, below_itself}
use Rattle.em_tree_model.specs.Tree.{Tree, stored_in, waiting_in}
use Rattle.em_tree_model.specs.Tree.Tree.{leaf, end, entry}
use Rattle.em_tree_model.specs.Ranges.{Under, AllIn, next_low, low_of, Follow, IsTree}

-- at least a bound that is above another
pub from_above : (x y z : Record) → is_below x y ≡ true → is_below z y ≡ false → is_below x z ≡ true
from_above x y z h k = ⊎_elim (λ (t : is_below x z ≡ true). t)
    (λ (f : is_below x z ≡ false). absurd (false≢true (sym (below_ranks.chain x z y f k) ∙ h)))
    (cases_Bool (is_below x z))

-- below a bound that is at most another
pub to_below : (x y z : Record) → is_below y x ≡ false → is_below y z ≡ true → is_below x z ≡ true
to_below x y z h k = ⊎_elim (λ (t : is_below x z ≡ true). t)
    (λ (f : is_below x z ≡ false). absurd (false≢true (sym (below_ranks.chain y x z h f) ∙ k)))
    (cases_Bool (is_below x z))

-- a lesser lower end
pub low_less : (k lo lower : Record) → is_below lo lower ≡ false → is_below k lo ≡ false
    → is_below k lower ≡ false
low_less k lo lower h e = below_ranks.chain k lo lower e h

pub below_not : (x y : Record) → is_below x y ≡ true → is_below y x ≡ false
below_not x y h = below_ranks.one_way x y h

-- a range within a greater one: its upper end is the other's, or a key below it
abbrev pub Upto : Option Record → Option Record → Type 0
Upto hi None = Unit {0}
Upto None (Some h) = ⊥
Upto (Some g) (Some h) = is_below h g ≡ false

pub under_wider : (hi top : Option Record) (k : Record) → Upto hi top → Under hi k → Under top k
under_wider hi None k u h = tt
under_wider None (Some t) k u h = absurd u
under_wider (Some g) (Some t) k u h = from_above k g t h u

pub upto_itself : (hi : Option Record) → Upto hi hi
upto_itself None = tt
upto_itself (Some h) = below_itself h

pub upto_next : (lo : Record) (hi : Option Record) (r : Tree) → Follow lo hi r → Upto (next_low hi r) hi
upto_next lo hi (leaf xs) f = absurd f
upto_next lo hi end f = upto_itself hi
upto_next lo None (entry low b c r) f = tt
upto_next lo (Some h) (entry low b c r) f = below_not low h f.1

pub low_next : (lo : Record) (hi : Option Record) (r : Tree) → Follow lo hi r → is_below (low_of lo r) lo ≡ false
low_next lo hi (leaf xs) f = absurd f
low_next lo hi end f = below_itself lo
low_next lo hi (entry low b c r) f = below_not lo low f.0

some_none : (x : Record) → Some x ≡ None → ⊥
some_none x e = cc

module _ (key : Record → Record) where
  pub all_wider : (lo lower : Record) (hi top : Option Record) (xs : List Record)
      → is_below lo lower ≡ false → Upto hi top → AllIn key lo hi xs → AllIn key lower top xs
  all_wider lo lower hi top [] l u a = tt
  all_wider lo lower hi top (x ∷ xs) l u a = (
    record {
      low = low_less (key x) lo lower l a.0.low;
      high = under_wider hi top (key x) u a.0.high;
    },
    all_wider lo lower hi top xs l u a.1,
  )

  pub all_append : (lo : Record) (hi : Option Record) (xs ys : List Record) → AllIn key lo hi xs
      → AllIn key lo hi ys → AllIn key lo hi (xs ++ ys)
  all_append lo hi [] ys a b = b
  all_append lo hi (x ∷ xs) ys a b = (a.0, all_append lo hi xs ys a.1 b)

  pub all_first : (lo : Record) (hi : Option Record) (xs ys : List Record) → AllIn key lo hi (xs ++ ys)
      → AllIn key lo hi xs
  all_first lo hi [] ys a = tt
  all_first lo hi (x ∷ xs) ys a = (a.0, all_first lo hi xs ys a.1)

  pub all_last : (lo : Record) (hi : Option Record) (xs ys : List Record) → AllIn key lo hi (xs ++ ys)
      → AllIn key lo hi ys
  all_last lo hi [] ys a = a
  all_last lo hi (x ∷ xs) ys a = all_last lo hi xs ys a.1

  -- no record below a range has a key from its upper end on
  pub none_under : (lo high : Record) (q : Record) (xs : List Record) → AllIn key lo (Some high) xs
      → is_below q high ≡ false → of_key key q xs ≡ []
  none_under lo high q [] a h = refl
  none_under lo high q (x ∷ xs) a h =
      none_of_key key q x xs (other_key key q x (λ e.
      false≢true (sym h ∙ (ap (λ k. is_below k high) (sym e) ∙ a.0.high))))
      ∙ none_under lo high q xs a.1 h

  pub none_over : (lo : Record) (hi : Option Record) (q : Record) (xs : List Record)
      → AllIn key lo hi xs → is_below q lo ≡ true → of_key key q xs ≡ []
  none_over lo hi q [] a h = refl
  none_over lo hi q (x ∷ xs) a h =
      none_of_key key q x xs (other_key key q x (λ e.
      false≢true (sym a.0.low ∙ (ap (λ k. is_below k lo) e ∙ h))))
      ∙ none_over lo hi q xs a.1 h

  pub no_record_under : (lo high : Record) (q : Record) (xs : List Record) → AllIn key lo (Some high) xs
      → is_below q high ≡ false → record_at key xs q ≡ None
  no_record_under lo high q [] a h = refl
  no_record_under lo high q (x ∷ xs) a h =
      cond-false _ _ _ (other_key key q x (λ e.
      false≢true (sym h ∙ (ap (λ k. is_below k high) (sym e) ∙ a.0.high))))
      ∙ no_record_under lo high q xs a.1 h

  pub no_record_over : (lo : Record) (hi : Option Record) (q : Record) (xs : List Record)
      → AllIn key lo hi xs → is_below q lo ≡ true → record_at key xs q ≡ None
  no_record_over lo hi q [] a h = refl
  no_record_over lo hi q (x ∷ xs) a h =
      cond-false _ _ _ (other_key key q x (λ e.
      false≢true (sym a.0.low ∙ (ap (λ k. is_below k lo) e ∙ h))))
      ∙ no_record_over lo hi q xs a.1 h

  pub record_append : (xs ys : List Record) (q : Record) → record_at key xs q ≡ None
      → record_at key (xs ++ ys) q ≡ record_at key ys q
  record_append [] ys q h = refl
  record_append (x ∷ xs) ys q h = ⊎_elim
      (λ (t : has_key key q x ≡ true). absurd (some_none x (sym (cond-true _ _ _ t) ∙ h)))
      (λ (f : has_key key q x ≡ false).
      cond-false _ _ _ f ∙ record_append xs ys q (sym (cond-false _ _ _ f) ∙ h))
      (cases_Bool (has_key key q x))

  pub record_first : (xs ys : List Record) (q : Record) → record_at key ys q ≡ None
      → record_at key (xs ++ ys) q ≡ record_at key xs q
  record_first [] ys q h = h
  record_first (x ∷ xs) ys q h = ap (cond (has_key key q x) (Some x)) (record_first xs ys q h)

  -- All keys of a tree are in its range.
  pub waiting_range : (t : Tree) (lo : Record) (hi : Option Record) → IsTree key t lo hi
      → AllIn key lo hi (waiting_in t)
  waiting_range (leaf xs) lo hi i = tt
  waiting_range end lo hi i = tt
  waiting_range (entry low b c r) lo hi i =
      let up = upto_next lo hi r i.3 in
      all_append lo hi (waiting_in c ++ b) (waiting_in r)
      (all_append lo hi (waiting_in c) b
      (all_wider lo lo (next_low hi r) hi (waiting_in c) (below_itself lo) up
      (waiting_range c lo (next_low hi r) i.2))
      (all_wider lo lo (next_low hi r) hi b (below_itself lo) up i.1))
      (all_wider (low_of lo r) lo hi hi (waiting_in r) (low_next lo hi r i.3) (upto_itself hi)
      (waiting_range r (low_of lo r) hi i.4))

  pub stored_range : (t : Tree) (lo : Record) (hi : Option Record) → IsTree key t lo hi
      → AllIn key lo hi (stored_in t)
  stored_range (leaf xs) lo hi i = i.0
  stored_range end lo hi i = tt
  stored_range (entry low b c r) lo hi i =
      let up = upto_next lo hi r i.3 in
      all_append lo hi (stored_in c) (stored_in r)
      (all_wider lo lo (next_low hi r) hi (stored_in c) (below_itself lo) up
      (stored_range c lo (next_low hi r) i.2))
      (all_wider (low_of lo r) lo hi hi (stored_in r) (low_next lo hi r i.3) (upto_itself hi)
      (stored_range r (low_of lo r) hi i.4))
