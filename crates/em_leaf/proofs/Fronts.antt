-- Steps of a pass over records and operations in order.
use Rattle.std.specs.Prelude.{◌≡◌, true, false, ℕ, zero, suc, ◌+◌, ◌<◌, ◌≤◌, List, [], ◌∷◌, ◌++◌, length, get_or, drop, Option, Some, None, IfSome, option_to_list}
use Rattle.std.proofs.Common.{sym, ap, subst, ◌∙◌, refl, ⊎_elim, append_assoc, arith}
use Rattle.std.proofs.Math.Seq.{drop-cons}
use Rattle.std.proofs.lemmas.Bool.{cases_Bool, false≢true}
use Rattle.em_record.specs.declared.record.Record.{Record}
use Rattle.em_record.specs.Order.{is_below, AtLeast, IsAscending}
use Rattle.em_record.proofs.Order.{below_ranks}
use Rattle.em_frames.specs.Device.{zero_record}
use Rattle.em_settle.specs.declared.step.Step.{Step}
use Rattle.em_settle.specs.Keys.{record_at}
use Rattle.em_settle.specs.Lists.{list_with_ops}
use Rattle.em_settle.specs.Rising.{KeysAbove, RisesByKey}
use Rattle.em_settle.specs.States.{answers_to}
use Rattle.em_settle.proofs.Keys.{below_itself, between_is}
use Rattle.em_settle.proofs.Lists.{above_trans, left_key, list_rises}
use Rattle.em_settle.proofs.Merges.{passed, folded, answers_passed, answers_folded}
use Rattle.em_leaf.specs.Front.{CanPick, ComesFirst, IsFront, KeysFrom, MovesOn, PassesFirst, Picks, finding_answers, finding_items, first_hand, in_hand, items_left, ops_left, some_count}
use Rattle.em_leaf.specs.declared.front.Finding.{Finding}
use Rattle.em_leaf.specs.declared.front.Finding.TheVariants.{End, Item, Answer}
use Rattle.em_leaf.specs.declared.front.Front.{Front}

-- nothing is left after all of a list
pub drop_all : (xs : List Record) (n : ℕ) → length xs ≤ n → drop n xs ≡ []
drop_all [] zero h = refl
drop_all [] (suc n) h = refl
drop_all (x ∷ xs) zero h = absurd (omega arith)
drop_all (x ∷ xs) (suc n) h = drop_all xs n (omega arith)

pub ascending_drop : (i : ℕ) (xs : List Record) → IsAscending xs → IsAscending (drop i xs)
ascending_drop zero xs a = a
ascending_drop (suc i) [] a = tt
ascending_drop (suc i) (x ∷ xs) a = ascending_drop i xs a.1

-- the operations from one on: the first, and the others
pub ops_from : (ops : List Record) (i : ℕ) → i < length ops
    → drop i ops ≡ get_or ops i zero_record ∷ drop (i + 1) ops
ops_from ops i h =
    let e : suc i ≡ i + 1 = omega arith in
    drop-cons ops i zero_record h ∙ ap (λ n. get_or ops i zero_record ∷ drop n ops) e

-- what is above a record is above what that isn't below
less : (x y z : Record) → is_below x y ≡ true → is_below z y ≡ false → is_below x z ≡ true
less x y z h e = ⊎_elim (λ (t : is_below x z ≡ true). t)
    (λ (f : is_below x z ≡ false). absurd (false≢true (sym (below_ranks.chain x z y f e) ∙ h)))
    (cases_Bool (is_below x z))

module _ (key : Record → Record) where
  above_of : (j k : Record) (ops : List Record) → is_below j k ≡ true → KeysFrom key k ops
      → KeysAbove key j ops
  above_of j k [] h f = tt
  above_of j k (op ∷ ops) h f = (less j k (key op) h f.0, above_of j k ops h f.1)

  from_sorted : (op : Record) (ops : List Record)
      → ((x y : Record) → is_below y x ≡ false → is_below (key y) (key x) ≡ false)
      → AtLeast op ops → KeysFrom key (key op) ops
  from_sorted op [] law a = tt
  from_sorted op (x ∷ ops) law a = (law op x a.0, from_sorted op ops law a.1)

  -- no operation that is left has a key below that of the next one
  pub next_from : (ops : List Record) (i : ℕ)
      → ((x y : Record) → is_below y x ≡ false → is_below (key y) (key x) ≡ false)
      → IsAscending ops → i < length ops
      → KeysFrom key (key (get_or ops i zero_record)) (drop (i + 1) ops)
  next_from ops i law a h =
      let P : List Record → Type 0 = IsAscending in
      from_sorted (get_or ops i zero_record) (drop (i + 1) ops) law
      (subst P (ops_from ops i h) (ascending_drop i ops a)).0

  -- A record below the next operation is below all that are left.
  pub below_all : (x : Record) (ops : List Record) (i : ℕ)
      → ((x y : Record) → is_below y x ≡ false → is_below (key y) (key x) ≡ false)
      → IsAscending ops → i < length ops
      → is_below (key x) (key (get_or ops i zero_record)) ≡ true
      → KeysAbove key (key x) (drop i ops)
  below_all x ops i law a h b =
      let op = get_or ops i zero_record in
      let P : List Record → Type 0 = KeysAbove key (key x) in
      subst P (sym (ops_from ops i h)) (above_of (key x) (key op) (op ∷ drop (i + 1) ops) b
      (below_itself (key op), next_from ops i law a h))

  -- and if none is left it is below them all
  pub above_none : (x : Record) (ops : List Record) (i : ℕ) → i ≡ length ops
      → KeysAbove key (key x) (drop i ops)
  above_none x ops i e =
      let P : List Record → Type 0 = KeysAbove key (key x) in
      subst P (sym (drop_all ops i (omega arith))) tt

  -- The record of a key is picked from those in hand: the one in hand has it,
  pub picks_hand : (f : Front) (k x : Record) (rest : List Record) → f.hand ≡ Some x
      → CanPick key f k rest → Picks key f k (Some x) f.ahead rest
  picks_hand f k x rest e c =
      let P : Option Record → Type 0 = λ o. IfSome (first_hand f o)
      (λ r. is_below (key r) k ≡ false) in
      let Q : Option Record → Type 0 = λ o. IfSome o (λ r. is_below k (key r) ≡ false) in
      let R : Option Record → Type 0 =
      λ o. RisesByKey key (option_to_list o ++ (option_to_list f.ahead ++ rest)) in
      let same : key x ≡ k = between_is (key x) k (subst P e c.least) (subst Q e c.upto) in
      let A : Record → Type 0 = λ j. KeysAbove key j (option_to_list f.ahead ++ rest) in
      record {
        all = ap (λ o. option_to_list o ++ (option_to_list f.ahead ++ rest)) e;
        same = same;
        above = subst A same (subst R e c.rises).0;
      }

  -- the one that was read ahead has it,
  pub picks_ahead : (f : Front) (k x : Record) (rest : List Record) → f.hand ≡ None
      → f.ahead ≡ Some x → is_below k (key x) ≡ false → CanPick key f k rest
      → Picks key f k f.ahead None rest
  picks_ahead f k x rest e a b c =
      let P : Option Record → Type 0 = λ o. IfSome (first_hand f o)
      (λ r. is_below (key r) k ≡ false) in
      let Q : Option Record → Type 0 = λ o. IfSome o (λ r. is_below (key r) k ≡ false) in
      let least : is_below (key x) k ≡ false = subst Q a (subst P e c.least) in
      let R : Option Record → Type 0 =
      λ o. RisesByKey key (option_to_list o ++ (option_to_list f.ahead ++ rest)) in
      let S : Option Record → Type 0 = λ o. RisesByKey key (option_to_list o ++ rest) in
      let up : RisesByKey key (x ∷ rest) = subst S a (subst R e c.rises) in
      let same : key x ≡ k = between_is (key x) k least b in
      let A : Record → Type 0 = λ j. KeysAbove key j rest in
      let T : Option Record → Type 0 = λ o. IfSome o (λ r. key r ≡ k) in
      record {
        all = ap (λ o. option_to_list o ++ (option_to_list f.ahead ++ rest)) e;
        same = subst T (sym a) same;
        above = subst A same up.0;
      }

  -- it is above the key,
  pub picks_none : (f : Front) (k x : Record) (rest : List Record) → f.hand ≡ None
      → f.ahead ≡ Some x → is_below k (key x) ≡ true → CanPick key f k rest
      → Picks key f k None f.ahead rest
  picks_none f k x rest e a b c =
      let R : Option Record → Type 0 =
      λ o. RisesByKey key (option_to_list o ++ (option_to_list f.ahead ++ rest)) in
      let S : Option Record → Type 0 = λ o. RisesByKey key (option_to_list o ++ rest) in
      let up : RisesByKey key (x ∷ rest) = subst S a (subst R e c.rises) in
      let A : Option Record → Type 0 = λ o. KeysAbove key k (option_to_list o ++ rest) in
      record {
        all = ap (λ o. option_to_list o ++ (option_to_list f.ahead ++ rest)) e;
        same = tt;
        above = subst A (sym a) (b, above_trans key k (key x) rest b up.0);
      }

  -- or no record is left.
  pub picks_nothing : (f : Front) (k : Record) (rest : List Record) → f.hand ≡ None → f.ahead ≡ None
      → CanPick key f k rest → Picks key f k None None rest
  picks_nothing f k rest e a c =
      let p = ap some_count e in
      let q = ap some_count a in
      let z : in_hand f ≡ 0 = omega (arith, p, q) in
      let A : List Record → Type 0 = KeysAbove key k in
      record {
        all = ap (λ o. option_to_list o ++ (option_to_list f.ahead ++ rest)) e
            ∙ ap (λ o. option_to_list o ++ rest) a;
        same = tt;
        above = subst A (sym (c.none z)) tt;
      }

-- what isn't said of a missing record
pub if_some : (o : Option Record) (P : Record → Type 0) → ((x : Record) → o ≡ Some x → P x)
    → IfSome o P
if_some None P h = tt
if_some (Some x) P h = h x refl

module _ (key : Record → Record) (step : Option Record → Record → Step) where
  -- A record that is due is passed on: it results, and nothing is answered.
  pub passes_on : (ops : List Record) (f g : Front) (x : Record) (rest : List Record)
      → items_left f rest ≡ x ∷ items_left g rest → g.hand ≡ None → g.settled ≡ f.settled
      → KeysAbove key (key x) (ops_left f ops) → IsFront key ops f rest
      → MovesOn key step ops f g rest rest (x ∷ []) []
  passes_on ops f g x rest e n l a i =
      let P : List Record → Type 0 = RisesByKey key in
      let U : Option Record → Type 0 = λ o. IfSome o (λ r. KeysFrom key (key r) (ops_left g ops)) in
      let ps = ops_left f ops in
      let m : ops_left g ops ≡ ps = ap (λ j. drop j ops) l in
      let more : list_with_ops key step (items_left g rest) ps
      ≡ list_with_ops key step (items_left g rest) (ops_left g ops) =
      ap (list_with_ops key step (items_left g rest)) (sym m) in
      let told : answers_to key step (record_at key (items_left g rest)) ps
      ≡ answers_to key step (record_at key (items_left g rest)) (ops_left g ops) =
      ap (answers_to key step (record_at key (items_left g rest))) (sym m) in
      record {
        front = record { rises = (subst P e i.rises).1; upto = subst U (sym n) tt };
        settles = record {
          list = ap (λ zs. list_with_ops key step zs ps) e
              ∙ (passed key step x (items_left g rest) ps a ∙ ap (λ zs. x ∷ zs) more);
          answered = ap (λ zs. answers_to key step (record_at key zs) ps) e
              ∙ (answers_passed key step (Some x) (key x) (items_left g rest) ps refl a ∙ told);
        };
      }

  -- Nothing is left.
  pub ends_on : (ops : List Record) (f g : Front) (rest : List Record) → g ≡ f
      → IsFront key ops f rest
      → MovesOn key step ops f g rest rest [] []
  ends_on ops f g rest e i =
      let P : Front → Type 0 = λ h. MovesOn key step ops f h rest rest [] [] in
      subst P (sym e) (record { front = i; settles = record { list = refl; answered = refl } })

  module _ (in_order : (x y : Record) → is_below y x ≡ false → is_below (key y) (key x) ≡ false)
      (keeps_key : (old : Option Record) (op new : Record) → IfSome old (λ r. key r ≡ key op)
      → (step old op).stored ≡ Some new → key new ≡ key op) where
    -- The next operation is settled: it changes the record that was picked, and is answered from
    -- it.
    pub settles_on : (ops : List Record) (f g : Front) (stored : Option Record) (rest : List Record)
        (o : Option Record) → IsAscending ops → f.settled < length ops
        → g.settled ≡ f.settled + 1
        → g.hand ≡ (step stored (get_or ops f.settled zero_record)).stored
        → o ≡ (step stored (get_or ops f.settled zero_record)).answer
        → Picks key f (key (get_or ops f.settled zero_record)) stored g.ahead rest
        → IsFront key ops f rest → MovesOn key step ops f g rest rest [] (option_to_list o)
    settles_on ops f g stored rest o a h l hand told p i =
        let op = get_or ops f.settled zero_record in
        let s = (step stored op).stored in
        let ys = option_to_list g.ahead ++ rest in
        let ps = drop (f.settled + 1) ops in
        let now : ops_left f ops ≡ op ∷ ps = ops_from ops f.settled h in
        let next : ps ≡ ops_left g ops = ap (λ j. drop j ops) (sym l) in
        let R : List Record → Type 0 = RisesByKey key in
        let up : RisesByKey key (option_to_list stored ++ ys) = subst R p.all i.rises in
        let one = folded key step stored ys op p.same p.above in
        let left : option_to_list s ++ ys ≡ items_left g rest =
        ap (λ z. option_to_list z ++ ys) (sym hand) in
        let kept : IfSome s (λ r. key r ≡ key op) =
        left_key key step keeps_key stored op p.same s refl in
        let from : KeysFrom key (key op) ps = next_from key ops f.settled in_order a h in
        let K : Record → Type 0 = λ k. KeysFrom key k ps in
        let U : Option Record → Type 0 = λ z. IfSome z
        (λ r. KeysFrom key (key r) (ops_left g ops)) in
        let V : List Record → Type 0 = λ zs. IfSome s (λ r. KeysFrom key (key r) zs) in
        let upto : IfSome s (λ r. KeysFrom key (key r) ps) =
        if_some s (λ r. KeysFrom key (key r) ps) (λ x e.
        let T : Option Record → Type 0 = λ z. IfSome z (λ r. key r ≡ key op) in
        subst K (sym (subst T e kept)) from) in
        record {
          front = record {
            rises = subst R (one ∙ left) (list_rises key step keeps_key
                (option_to_list stored ++ ys)
                op up);
            upto = subst U (sym hand) (subst V next upto);
          };
          settles = record {
            list = ap (λ zs. list_with_ops key step zs (ops_left f ops)) p.all
                ∙ (ap (list_with_ops key step (option_to_list stored ++ ys)) now
                ∙ (ap (λ zs. list_with_ops key step zs ps) (one ∙ left)
                ∙ ap (list_with_ops key step (items_left g rest)) next));
            answered = ap (λ zs. answers_to key step (record_at key zs) (ops_left f ops)) p.all
                ∙ (ap (answers_to key step (record_at key (option_to_list stored ++ ys))) now
                ∙ (answers_folded key step keeps_key stored ys ps op p.same p.above up
                ∙ (ap (λ z. option_to_list z
                ++ answers_to key step (record_at key (option_to_list s ++ ys)) ps) (sym told)
                ∙ (ap (λ zs. option_to_list o ++ answers_to key step (record_at key zs) ps) left
                ∙ ap (λ zs. option_to_list o
                ++ answers_to key step (record_at key (items_left g rest)) zs) next))));
          };
        }

  -- One move on after another.
  pub moves_then : (ops : List Record) (f g h : Front) (xs ys zs : List Record)
      (items more answers others : List Record) → MovesOn key step ops f g xs ys items answers
      → MovesOn key step ops g h ys zs more others
      → MovesOn key step ops f h xs zs (items ++ more) (answers ++ others)
  moves_then ops f g h xs ys zs items more answers others a b = record {
    front = b.front;
    settles = record {
      list = a.settles.list ∙ (ap (λ l. items ++ l) b.settles.list
          ∙ sym (append_assoc items more (list_with_ops key step (items_left h zs)
          (ops_left h ops))));
      answered = a.settles.answered ∙ (ap (λ l. answers ++ l) b.settles.answered
          ∙ sym (append_assoc answers others
          (answers_to key step (record_at key (items_left h zs)) (ops_left h ops))));
    };
  }

  -- No step yet.
  pub moves_none : (ops : List Record) (f : Front) (xs : List Record) → IsFront key ops f xs
      → MovesOn key step ops f f xs xs [] []
  moves_none ops f xs i = ends_on ops f f xs refl i

-- a first record in hand
pub first_some : (f : Front) (o : Option Record) (x : Record) → first_hand f o ≡ Some x
    → some_count o + some_count f.ahead ≡ 0 → ⊥
first_some f None x e z = let a = ap some_count e in absurd (omega arith)
first_some f (Some y) x e z = absurd (omega arith)

-- and none
pub first_none : (f : Front) (o : Option Record) → first_hand f o ≡ None
    → (o ≡ None) × (f.ahead ≡ None)
first_none f None e = (refl, e)
first_none f (Some y) e = cc

pub some_most : (o : Option Record) → some_count o ≤ 1
some_most None = omega arith
some_most (Some x) = omega arith

module _ (key : Record → Record) where
  -- The first record is due, if it is below the next operation.
  pub due_some : (ops : List Record) (f : Front) (x : Record)
      → ((x y : Record) → is_below y x ≡ false → is_below (key y) (key x) ≡ false)
      → IsAscending ops → f.settled < length ops → first_hand f f.hand ≡ Some x
      → is_below (key x) (key (get_or ops f.settled zero_record)) ≡ true → ComesFirst key ops f
  due_some ops f x law a h e b =
      let P : Option Record → Type 0 = λ o. IfSome o
      (λ r. KeysAbove key (key r) (ops_left f ops)) in
      record {
        below = subst P (sym e) (below_all key x ops f.settled law a h b);
        none = λ z. absurd (first_some f f.hand x e z);
      }

  -- The record of the next operation's key can be picked.
  pub can_pick : (ops : List Record) (f : Front) (rest : List Record) → f.settled < length ops
      → IfSome (first_hand f f.hand)
      (λ r. is_below (key r) (key (get_or ops f.settled zero_record)) ≡ false)
      → (in_hand f ≡ 0 → rest ≡ []) → IsFront key ops f rest
      → CanPick key f (key (get_or ops f.settled zero_record)) rest
  can_pick ops f rest h least none i =
      let op = get_or ops f.settled zero_record in
      let Q : List Record → Type 0 = λ zs. IfSome f.hand (λ r. KeysFrom key (key r) zs) in
      let up : IfSome f.hand (λ r. KeysFrom key (key r) (op ∷ drop (f.settled + 1) ops)) =
      subst Q (ops_from ops f.settled h) i.upto in
      record {
        rises = i.rises;
        least = least;
        upto = if_some f.hand (λ r. is_below (key op) (key r) ≡ false) (λ x e.
            let T : Option Record → Type 0 = λ o. IfSome o (λ r. KeysFrom key (key r)
            (op ∷ drop (f.settled + 1) ops)) in (subst T e up).0);
        none = none;
      }

  module _ (step : Option Record → Record → Step) where
    -- A record that is due is passed on, and if none is in hand nothing is left.
    pub due_on : (ops : List Record) (f g : Front) (rest : List Record) (o : Option Record)
        (e : Finding) → o ≡ first_hand f f.hand → PassesFirst f g o e → ComesFirst key ops f
        → IsFront key ops f rest
        → MovesOn key step ops f g rest rest (finding_items e) (finding_answers e)
    due_on ops f g rest None End w p d i = ends_on key step ops f g rest p.0 i
    due_on ops f g rest None (Item y) w p d i = absurd p
    due_on ops f g rest None (Answer a) w p d i = absurd p
    due_on ops f g rest (Some x) End w p d i = absurd p
    due_on ops f g rest (Some x) (Item y) w p d i =
        let P : Option Record → Type 0 = λ o. IfSome o
        (λ r. KeysAbove key (key r) (ops_left f ops)) in
        let Q : Record → Type 0 = λ z. MovesOn key step ops f g rest rest (z ∷ []) [] in
        let all : items_left f rest ≡ x ∷ items_left g rest =
        sym (append_assoc (option_to_list f.hand) (option_to_list f.ahead) rest)
        ∙ (ap (λ zs. zs ++ rest) p.5
        ∙ ap (λ z. x ∷ (option_to_list z ++ (option_to_list g.ahead ++ rest))) (sym p.1)) in
        subst Q (sym p.0) (passes_on key step ops f g x rest all p.1 p.2
        (subst P (sym w) d.below) i)
    due_on ops f g rest (Some x) (Answer a) w p d i = absurd p
