-- Operations given to the entries that hold their keys.
use Rattle.std.specs.Prelude.{◌≡◌, Bool, true, false, not, cond, List, [], ◌∷◌, ◌++◌, Option}
use Rattle.std.proofs.Common.{sym, ap, subst, ◌∙◌, refl, ⊎_elim, append_assoc}
use Rattle.std.proofs.lemmas.List.{append-nil}
use Rattle.std.proofs.lemmas.Bool.{cases_Bool, false≢true, cond-true, cond-false}
use Rattle.em_record.specs.declared.record.Record.{Record}
use Rattle.em_record.specs.Order.{is_below}
use Rattle.em_settle.specs.Keys.{has_key, of_key, SameByKey}
use Rattle.em_settle.proofs.Keys.{key_is, of_key_append, first_of_key, none_of_key}
use Rattle.em_tree_model.specs.Tree.{Tree, stored_in, waiting_in, is_later, HasEntry}
use Rattle.em_tree_model.specs.Tree.Tree.{leaf, end, entry}
use Rattle.em_tree_model.specs.Ranges.{InRange, AllIn, next_low, low_of, Follow, IsTree}
use Rattle.em_tree_model.specs.Places.{SameStart}
use Rattle.em_tree_model.specs.Pouring.{pour_one, pour}
use Rattle.em_tree_model.proofs.Places.{next_same, low_same, follow_same}
use Rattle.em_tree_model.proofs.Ranges.{all_append, none_over, waiting_range}

pub start_itself : (t : Tree) → SameStart t t
start_itself (leaf xs) = tt
start_itself end = tt
start_itself (entry low b c r) = refl

module _ (key : Record → Record) where
  -- by the entries after one: the key's path goes on to them, or takes this one
  record IsTurn (q : Record) (lo : Record) (hi : Option Record) (r : Tree) (b : Bool) : Type 0 where
    stops : b ≡ false → InRange lo (next_low hi r) q
    goes : b ≡ true → InRange (low_of lo r) hi q
    clear : b ≡ false → IsTree key r (low_of lo r) hi → of_key key q (waiting_in r) ≡ []
    some : b ≡ true → HasEntry r

  turn_by : (q low lo : Record) (hi : Option Record) (b2 : List Record) (c2 r2 : Tree)
      → InRange lo hi q → (a : Bool) → is_below q low ≡ a
      → IsTurn q lo hi (entry low b2 c2 r2) (not a)
  turn_by q low lo hi b2 c2 r2 h true e = record {
    stops = λ z. record { low = h.low; high = e };
    goes = λ z. absurd (false≢true z);
    clear = λ z i. none_over key low hi q (waiting_in (entry low b2 c2 r2)) (waiting_range key (entry low b2 c2 r2) low hi i) e;
    some = λ z. tt;
  }
  turn_by q low lo hi b2 c2 r2 h false e = record {
    stops = λ z. absurd (false≢true (sym z));
    goes = λ z. record { low = e; high = h.high };
    clear = λ z i. absurd (false≢true (sym z));
    some = λ z. tt;
  }

  turn : (q lo : Record) (hi : Option Record) (r : Tree) → Follow lo hi r → InRange lo hi q
      → IsTurn q lo hi r (is_later q r)
  turn q lo hi (leaf xs) f h = absurd f
  turn q lo hi end f h = record {
    stops = λ z. h;
    goes = λ z. absurd (false≢true z);
    clear = λ z i. refl;
    some = λ z. absurd (false≢true z);
  }
  turn q lo hi (entry low b2 c2 r2) f h = turn_by q low lo hi b2 c2 r2 h (is_below q low) refl

  -- an operation before others or after them, if none of these has its key
  pub moved_past : (op : Record) (xs : List Record) → of_key key (key op) xs ≡ []
      → SameByKey key (op ∷ xs) (xs ++ op ∷ [])
  moved_past op xs h q = ⊎_elim
      (λ (t : has_key key q op ≡ true).
      let none : of_key key q xs ≡ [] = ap (λ k. of_key key k xs) (sym (key_is key q op t)) ∙ h in
      first_of_key key q op xs t ∙ (ap (λ zs. op ∷ zs) none
      ∙ sym (of_key_append key q xs (op ∷ []) ∙ (ap (λ zs. zs ++ of_key key q (op ∷ [])) none
      ∙ first_of_key key q op [] t))))
      (λ (f : has_key key q op ≡ false).
      none_of_key key q op xs f ∙ sym (of_key_append key q xs (op ∷ [])
      ∙ (ap (λ zs. of_key key q xs ++ zs) (none_of_key key q op [] f)
      ∙ append-nil (of_key key q xs))))
      (cases_Bool (has_key key q op))

  pub pour_start : (t : Tree) (op : Record) → SameStart t (pour_one key t op)
  pour_start (leaf xs) op = tt
  pour_start end op = tt
  pour_start (entry low b c r) op =
      let P : Bool → Type 0 = λ z. SameStart (entry low b c r) (cond z
      (entry low b c (pour_one key r op)) (entry low (b ++ op ∷ []) c r)) in
      let both : (z : Bool) → P z = elim [ true ↦ refl | false ↦ refl ] in both (is_later (key op) r)

  pub pour_stored : (t : Tree) (op : Record) → stored_in (pour_one key t op) ≡ stored_in t
  pour_stored (leaf xs) op = refl
  pour_stored end op = refl
  pour_stored (entry low b c r) op =
      let P : Bool → Type 0 = λ z. stored_in (cond z
      (entry low b c (pour_one key r op)) (entry low (b ++ op ∷ []) c r)) ≡ stored_in c ++ stored_in r in
      let both : (z : Bool) → P z = elim [ true ↦ ap (λ zs. stored_in c ++ zs) (pour_stored r op) | false ↦ refl ] in
      both (is_later (key op) r)

  same_itself : (xs : List Record) → SameByKey key xs xs
  same_itself xs q = refl

  pub same_trans : (xs ys zs : List Record) → SameByKey key xs ys → SameByKey key ys zs
      → SameByKey key xs zs
  same_trans xs ys zs h k q = h q ∙ k q

  pub same_append : (xs ys us vs : List Record) → SameByKey key xs ys → SameByKey key us vs
      → SameByKey key (xs ++ us) (ys ++ vs)
  same_append xs ys us vs h k q = of_key_append key q xs us
      ∙ (ap (λ zs. zs ++ of_key key q us) (h q)
      ∙ (ap (λ zs. of_key key q ys ++ zs) (k q) ∙ sym (of_key_append key q ys vs)))

  -- An operation that was given to its entry waits after those of its key that waited.
  pub pour_same : (t : Tree) (op lo : Record) (hi : Option Record) → HasEntry t → IsTree key t lo hi
      → InRange lo hi (key op) → SameByKey key (waiting_in t ++ op ∷ []) (waiting_in (pour_one key t op))
  pour_same (leaf xs) op lo hi n i h = absurd n
  pour_same end op lo hi n i h = absurd n
  pour_same (entry low b c r) op lo hi n i h =
      let w = waiting_in c ++ b in
      let s = turn (key op) lo hi r i.3 h in
      let P : List Record → Type 0 = SameByKey key ((w ++ waiting_in r) ++ op ∷ []) in
      let Q : Tree → Type 0 = λ t. P (waiting_in t) in ⊎_elim
      (λ (t : is_later (key op) r ≡ true).
      let rest = pour_same r op (low_of lo r) hi (s.some t) i.4 (s.goes t) in
      let at : P (w ++ waiting_in (pour_one key r op)) = λ q.
      ap (of_key key q) (append_assoc w (waiting_in r) (op ∷ []))
      ∙ same_append w w (waiting_in r ++ op ∷ []) (waiting_in (pour_one key r op)) (same_itself w) rest q in
      subst Q (sym (cond-true _ _ _ t)) at)
      (λ (f : is_later (key op) r ≡ false).
      let at : P ((waiting_in c ++ (b ++ op ∷ [])) ++ waiting_in r) = λ q.
      ap (of_key key q) (append_assoc w (waiting_in r) (op ∷ []))
      ∙ (sym (same_append w w (op ∷ waiting_in r) (waiting_in r ++ op ∷ []) (same_itself w)
      (moved_past op (waiting_in r) (s.clear f i.4)) q)
      ∙ ap (of_key key q) (sym (append_assoc w (op ∷ []) (waiting_in r))
      ∙ ap (λ zs. zs ++ waiting_in r) (append_assoc (waiting_in c) b (op ∷ [])))) in
      subst Q (sym (cond-false _ _ _ f)) at)
      (cases_Bool (is_later (key op) r))

  pub pour_tree : (t : Tree) (op lo : Record) (hi : Option Record) → IsTree key t lo hi
      → InRange lo hi (key op) → IsTree key (pour_one key t op) lo hi
  pour_tree (leaf xs) op lo hi i h = i
  pour_tree end op lo hi i h = tt
  pour_tree (entry low b c r) op lo hi i h =
      let s = turn (key op) lo hi r i.3 h in
      let P : Tree → Type 0 = λ t. IsTree key t lo hi in ⊎_elim
      (λ (t : is_later (key op) r ≡ true).
      let e = next_same hi r (pour_one key r op) (pour_start r op) in
      let A : Option Record → Type 0 = λ top. AllIn key lo top b in
      let B : Option Record → Type 0 = λ top. IsTree key c lo top in
      let C : Record → Type 0 = λ l. IsTree key (pour_one key r op) l hi in
      let at : P (entry low b c (pour_one key r op)) = (
        i.0,
        subst A e i.1,
        subst B e i.2,
        follow_same lo hi r (pour_one key r op) (pour_start r op) i.3,
        subst C (low_same lo r (pour_one key r op) (pour_start r op))
            (pour_tree r op (low_of lo r) hi i.4 (s.goes t)),
      ) in
      subst P (sym (cond-true _ _ _ t)) at)
      (λ (f : is_later (key op) r ≡ false).
      let at : P (entry low (b ++ op ∷ []) c r) = (
        i.0,
        all_append key lo (next_low hi r) b (op ∷ []) i.1 (s.stops f, tt),
        i.2,
        i.3,
        i.4,
      ) in
      subst P (sym (cond-false _ _ _ f)) at)
      (cases_Bool (is_later (key op) r))

  pub pour_has : (t : Tree) (op : Record) → HasEntry t → HasEntry (pour_one key t op)
  pour_has (leaf xs) op n = absurd n
  pour_has end op n = absurd n
  pour_has (entry low b c r) op n =
      let P : Bool → Type 0 = λ z. HasEntry (cond z
      (entry low b c (pour_one key r op)) (entry low (b ++ op ∷ []) c r)) in
      let both : (z : Bool) → P z = elim [ true ↦ tt | false ↦ tt ] in both (is_later (key op) r)

  -- What operations do that were given to the entries of a node, one after another.
  pub record Poured (t u : Tree) (ops : List Record) (lo : Record) (hi : Option Record) : Type 0 where
    pub is : IsTree key u lo hi
    pub has : HasEntry u
    pub start : SameStart t u
    pub stored : stored_in u ≡ stored_in t
    pub waiting : SameByKey key (waiting_in t ++ ops) (waiting_in u)

  pub start_trans : (t u v : Tree) → SameStart t u → SameStart u v → HasEntry t → HasEntry u → HasEntry v
      → SameStart t v
  start_trans (leaf xs) u v s z n m o = absurd n
  start_trans end u v s z n m o = absurd n
  start_trans t (leaf xs) v s z n m o = absurd m
  start_trans t end v s z n m o = absurd m
  start_trans t u (leaf xs) s z n m o = absurd o
  start_trans t u end s z n m o = absurd o
  start_trans (entry low b c r) (entry low2 b2 c2 r2) (entry low3 b3 c3 r3) s z n m o = s ∙ z

  pub pours : (t : Tree) (ops : List Record) (lo : Record) (hi : Option Record) → HasEntry t
      → IsTree key t lo hi → AllIn key lo hi ops → Poured t (pour key t ops) ops lo hi
  pours t [] lo hi n i a = record {
    is = i;
    has = n;
    start = start_itself t;
    stored = refl;
    waiting = λ q. ap (of_key key q) (append-nil (waiting_in t));
  }
  pours t (op ∷ ops) lo hi n i a =
      let u = pour_one key t op in
      let first = pour_tree t op lo hi i a.0 in
      let has = pour_has t op n in
      let more = pours u ops lo hi has first a.1 in
      record {
        is = more.is;
        has = more.has;
        start = start_trans t u (pour key u ops) (pour_start t op) more.start n has more.has;
        stored = more.stored ∙ pour_stored t op;
        waiting = λ q. ap (of_key key q) (sym (append_assoc (waiting_in t) (op ∷ []) ops))
            ∙ (same_append (waiting_in t ++ op ∷ []) (waiting_in u) ops ops
            (pour_same t op lo hi n i a.0) (same_itself ops) q
            ∙ more.waiting q);
      }

  pub pour_list_start : (low : Record) (b : List Record) (c r : Tree) (ops : List Record)
      → SameStart (entry low b c r) (pour key (entry low b c r) ops)
  pour_list_start low b c r [] = refl
  pour_list_start low b c r (op ∷ ops) =
      let P : Bool → Type 0 = λ z. SameStart (entry low b c r) (pour key (cond z
      (entry low b c (pour_one key r op)) (entry low (b ++ op ∷ []) c r)) ops) in
      let both : (z : Bool) → P z = elim [
        | true ↦ pour_list_start low b c (pour_one key r op) ops
        | false ↦ pour_list_start low (b ++ op ∷ []) c r ops
      ] in both (is_later (key op) r)
