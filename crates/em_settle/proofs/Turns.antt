-- Operations of one key in the order of their arrival, over its stored record.
use Rattle.std.specs.Prelude.{◌≡◌, true, List, [], ◌∷◌, ◌++◌, Option, Some, None, IfSome, option_to_list}
use Rattle.std.proofs.Common.{sym, subst, refl}
use Rattle.em_record.specs.declared.record.Record.{Record}
use Rattle.em_record.specs.Order.{is_below}
use Rattle.em_settle.specs.declared.step.Step.{Step}
use Rattle.em_settle.specs.States.{stored_after}
use Rattle.em_settle.specs.Keys.{AllOf}
use Rattle.em_settle.specs.Rising.{AllAbove, AllUnder, Rises}
use Rattle.em_settle.specs.Laws.{IsSettle}
use Rattle.em_settle.proofs.Lists.{left_key}

-- what is below two lists is below both together
pub above_append : (x : Record) (ys zs : List Record) → AllAbove x ys → AllAbove x zs
    → AllAbove x (ys ++ zs)
above_append x [] zs a b = b
above_append x (y ∷ ys) zs a b = (a.0, above_append x ys zs a.1 b)

-- and below the first part of a list
pub above_first : (x : Record) (ys zs : List Record) → AllAbove x (ys ++ zs) → AllAbove x ys
above_first x [] zs a = tt
above_first x (y ∷ ys) zs a = (a.0, above_first x ys zs a.1)

-- and below the last part
pub above_last : (x : Record) (ys zs : List Record) → AllAbove x (ys ++ zs) → AllAbove x zs
above_last x [] zs a = a
above_last x (y ∷ ys) zs a = above_last x ys zs a.1

-- the first part of a rising list rises
pub rises_first : (ys zs : List Record) → Rises (ys ++ zs) → Rises ys
rises_first [] zs r = tt
rises_first (y ∷ ys) zs r = (above_first y ys zs r.0, rises_first ys zs r.1)

-- and so does the last part
pub rises_last : (ys zs : List Record) → Rises (ys ++ zs) → Rises zs
rises_last [] zs r = r
rises_last (y ∷ ys) zs r = rises_last ys zs r.1

-- a rising list with a greater record at its end rises
pub rises_push : (ys : List Record) (z : Record) → Rises ys → AllUnder ys z → Rises (ys ++ z ∷ [])
rises_push [] z r u = (tt, tt)
rises_push (y ∷ ys) z r u = (above_append y ys (z ∷ []) r.0 (u.0, tt), rises_push ys z r.1 u.1)

module _ (key : Record → Record) (IsOp : Record → Type 0) where
  -- operations of one key: the first part of a list
  pub of_first : (q : Record) (xs ys : List Record) → AllOf key IsOp q (xs ++ ys) → AllOf key IsOp q xs
  of_first q [] ys a = tt
  of_first q (x ∷ xs) ys a = (a.0, a.1, of_first q xs ys a.2)

  -- the last part
  pub of_last : (q : Record) (xs ys : List Record) → AllOf key IsOp q (xs ++ ys) → AllOf key IsOp q ys
  of_last q [] ys a = a
  of_last q (x ∷ xs) ys a = of_last q xs ys a.2

  -- two lists together
  pub of_append : (q : Record) (xs ys : List Record) → AllOf key IsOp q xs → AllOf key IsOp q ys
      → AllOf key IsOp q (xs ++ ys)
  of_append q [] ys a b = b
  of_append q (x ∷ xs) ys a b = (a.0, a.1, of_append q xs ys a.2 b)

module _ (key : Record → Record) (step : Option Record → Record → Step) (IsOp IsKept : Record → Type 0)
    (laws : IsSettle key step IsOp IsKept) where
  -- what an operation leaves is below the later ones
  below_later : (old : Option Record) (op : Record) (ops : List Record)
      → IfSome old (λ r. is_below r op ≡ true) → IsOp op → AllOf key IsOp (key op) ops → AllAbove op ops
      → (s : Option Record) → (step old op).stored ≡ s → IfSome s (λ r. AllAbove r ops)
  below_later old op ops b i h a None e = tt
  below_later old op [] b i h a (Some r) e = tt
  below_later old op (x ∷ xs) b i h a (Some r) e =
      (laws.stays_below old op r x b i h.1 h.0 a.0 e, below_later old op xs b i h.2 a.1 (Some r) e)

  -- a stored record below rising operations
  if_rises : (s : Option Record) (ops : List Record) → IfSome s (λ r. AllAbove r ops) → Rises ops
      → Rises (option_to_list s ++ ops)
  if_rises None ops h r = r
  if_rises (Some x) ops h r = (h, r)

  -- a stored record before rising operations is below the first
  stored_under : (old : Option Record) (op : Record) (ops : List Record)
      → Rises (option_to_list old ++ op ∷ ops) → IfSome old (λ r. is_below r op ≡ true)
  stored_under None op ops r = tt
  stored_under (Some x) op ops r = r.0.0

  -- What some operations of a key leave is below those that still wait.
  pub turns_after : (old : Option Record) (q : Record) (xs ys : List Record)
      → AllOf key IsOp q (xs ++ ys) → Rises (option_to_list old ++ (xs ++ ys))
      → Rises (option_to_list (stored_after step old xs) ++ ys)
  turns_after old q [] ys h r = r
  turns_after old q (x ∷ xs) ys h r =
      let P : Record → Type 0 = λ k. AllOf key IsOp k (xs ++ ys) in
      let rest = rises_last (option_to_list old) (x ∷ xs ++ ys) r in
      let under = stored_under old x (xs ++ ys) r in
      turns_after (step old x).stored q xs ys h.2
      (if_rises (step old x).stored (xs ++ ys)
      (below_later old x (xs ++ ys) under h.1 (subst P (sym h.0) h.2) rest.0 (step old x).stored refl)
      rest.1)

  -- what one operation leaves may be stored
  kept_by : (old : Option Record) (op : Record) → IsOp op → IfSome old IsKept → (s : Option Record)
      → (step old op).stored ≡ s → IfSome s IsKept
  kept_by old op i k None e = tt
  kept_by old op i k (Some r) e = laws.keeps old op r k i e

  -- What operations of a key leave may be stored.
  pub kept_after : (old : Option Record) (q : Record) (xs : List Record) → AllOf key IsOp q xs
      → IfSome old IsKept → IfSome (stored_after step old xs) IsKept
  kept_after old q [] h k = k
  kept_after old q (x ∷ xs) h k = kept_after (step old x).stored q xs h.2
      (kept_by old x h.1 k (step old x).stored refl)

  -- What operations of a key leave has that key.
  pub keyed_after : (old : Option Record) (q : Record) (xs : List Record) → AllOf key IsOp q xs
      → IfSome old (λ r. key r ≡ q) → IfSome (stored_after step old xs) (λ r. key r ≡ q)
  keyed_after old q [] h k = k
  keyed_after old q (x ∷ xs) h k =
      let P : Record → Type 0 = λ j. IfSome old (λ r. key r ≡ j) in
      let Q : Record → Type 0 = λ j. IfSome (step old x).stored (λ r. key r ≡ j) in
      keyed_after (step old x).stored q xs h.2 (subst Q h.0
      (left_key key step laws.keeps_key old x (subst P (sym h.0) k) (step old x).stored refl))
