-- The number item, by what a feed finds of digits.
use Rattle.std.proofs.Common.{◌≡◌, ◌+◌, ◌^◌, Bool, true, false, cond, eqb, ltb, List, [], ◌∷◌, ◌++◌, ℕ, length, drop, Some, None, slice_get, sym, ap, ◌∙◌, refl}
use Rattle.std.proofs.Math.Seq.{drop-append_seam}
use Rattle.std.specs.Str.Parse.{digits_value}
use Rattle.em_io.specs.declared.digits.Digits.{Digits}
use Rattle.em_io.specs.declared.digits.Digits.TheVariants.{Nothing, Value, TooMany, TooLong}
use Rattle.em_io.specs.Digits.{digits_at}
use Rattle.aig_defs.specs.declared.fault.AigKind.{AigKind}
use Rattle.aig_defs.specs.declared.fault.AigKind.TheVariants.{BadNumber, Short}
use Rattle.aig_defs.specs.declared.fault.AigKind.TheVariants as aig
use Rattle.aig_defs.specs.declared.form.Limit.{Limit}
use Rattle.aig_defs.specs.Items.{Reading, Reads, Fails, digits, number, number_by, number_fault, no_number, looks_too_far}

-- what was found, by three tests
found : Bool → Bool → Bool → Digits → Digits
found far none many value = cond far TooLong (cond none Nothing (cond many TooMany value))

-- what the item reads, by the same tests
reads : Bool → Bool → Bool → Reading ℕ → ℕ → List ℕ → Reading ℕ
reads far none many value p x =
    cond far (Fails aig.TooLong (2 ^ 50))
    (cond none (no_number p x) (cond many (Fails BadNumber p) value))

found_nothing : (far none many : Bool) (v c p : ℕ) (x : List ℕ) (r : Reading ℕ)
    → Nothing ≡ found far none many (Value v c) → reads far none many r p x ≡ no_number p x
unfolding found reads
found_nothing true none many v c p x r e = cc
found_nothing false true many v c p x r e = refl
found_nothing false false true v c p x r e = cc
found_nothing false false false v c p x r e = cc

found_many : (far none many : Bool) (v c p : ℕ) (x : List ℕ) (r : Reading ℕ)
    → TooMany ≡ found far none many (Value v c) → reads far none many r p x ≡ Fails BadNumber p
unfolding found reads
found_many true none many v c p x r e = cc
found_many false true many v c p x r e = cc
found_many false false true v c p x r e = refl
found_many false false false v c p x r e = cc

found_long : (far none many : Bool) (v c p : ℕ) (x : List ℕ) (r : Reading ℕ)
    → TooLong ≡ found far none many (Value v c) → reads far none many r p x ≡ Fails aig.TooLong
    (2 ^ 50)
unfolding found reads
found_long true none many v c p x r e = refl
found_long false true many v c p x r e = cc
found_long false false true v c p x r e = cc
found_long false false false v c p x r e = cc

-- a value was found: the item reads by it
record IsValue (w k v c : ℕ) (r s : Reading ℕ) : Type 0 where
  value : w ≡ v
  count : k ≡ c
  reading : r ≡ s

found_value : (far none many : Bool) (w k v c p : ℕ) (x : List ℕ) (r : Reading ℕ)
    → Value w k ≡ found far none many (Value v c) → IsValue w k v c (reads far none many r p x) r
unfolding found reads
found_value true none many w k v c p x r e = cc
found_value false true many w k v c p x r e = cc
found_value false false true w k v c p x r e = cc
found_value false false false w k v c p x r e = record { value = cc; count = cc; reading = refl }

-- From what the feed found to what the item reads.
module _ (limit : Limit) (p : ℕ) (x : List ℕ) where
  found_is : (d : Digits) → d ≡ digits_at p x
      → d ≡ found (looks_too_far (digits x) p x) (eqb (length (digits x)) 0)
      (ltb 20 (length (digits x))) (Value (digits_value 10 (digits x)) (length (digits x)))
  unfolding found
  found_is d e = e

  number_is : number limit p x ≡ reads (looks_too_far (digits x) p x) (eqb (length (digits x)) 0)
      (ltb 20 (length (digits x)))
      (number_by (number_fault limit (digits_value 10 (digits x))) (digits x) p x) p x
  unfolding reads
  number_is = refl

  pub number_nothing : Nothing ≡ digits_at p x → number limit p x ≡ no_number p x
  number_nothing e = number_is ∙ found_nothing _ _ _ _ _ p x _ (found_is Nothing e)

  pub number_many : TooMany ≡ digits_at p x → number limit p x ≡ Fails BadNumber p
  number_many e = number_is ∙ found_many _ _ _ _ _ p x _ (found_is TooMany e)

  pub number_long : TooLong ≡ digits_at p x → number limit p x ≡ Fails aig.TooLong (2 ^ 50)
  number_long e = number_is ∙ found_long _ _ _ _ _ p x _ (found_is TooLong e)

  -- a number is refused by its value
  pub number_refused : (v c : ℕ) (kind : AigKind) → Value v c ≡ digits_at p x
      → number_fault limit v ≡ Some kind → number limit p x ≡ Fails kind p
  number_refused v c kind e f =
      let i = found_value _ _ _ v c _ _ p x
      (number_by (number_fault limit (digits_value 10 (digits x))) (digits x) p x)
      (found_is (Value v c) e) in
      let g : number_fault limit (digits_value 10 (digits x)) ≡ Some kind = ap (number_fault limit)
      (sym i.value) ∙ f in
      number_is ∙ i.reading ∙ ap (λ o. number_by o (digits x) p x) g

  -- or it is read: these bytes were taken
  pub number_taken : (v c : ℕ) (bytes rest : List ℕ) → Value v c ≡ digits_at p x
      → number_fault limit v ≡ None → length bytes ≡ c → x ≡ bytes ++ rest
      → number limit p x ≡ Reads v (p + c) rest
  number_taken v c bytes rest e f size left =
      let i = found_value _ _ _ v c _ _ p x
      (number_by (number_fault limit (digits_value 10 (digits x))) (digits x) p x)
      (found_is (Value v c) e) in
      let g : number_fault limit (digits_value 10 (digits x)) ≡ None = ap (number_fault limit)
      (sym i.value) ∙ f in
      let d : drop (length (digits x)) x ≡ rest = ap (λ k. drop k x) (sym (size ∙ i.count))
      ∙ ap (drop (length bytes)) left ∙ drop-append_seam bytes rest in
      number_is ∙ i.reading ∙ ap (λ o. number_by o (digits x) p x) g
      ∙ ap (λ k. Reads k (p + length (digits x)) (drop (length (digits x)) x)) (sym i.value)
      ∙ ap (λ k. Reads v (p + k) (drop (length (digits x)) x)) (sym i.count)
      ∙ ap (Reads v (p + c)) d

-- no digit stands there, nor a byte;
pub no_number_end : (p : ℕ) (x : List ℕ) → None ≡ slice_get x 0 → no_number p x ≡ Fails Short p
no_number_end p [] e = refl
no_number_end p (byte ∷ x) e = cc

-- or another byte.
pub no_number_byte : (p byte : ℕ) (x : List ℕ) → Some byte ≡ slice_get x 0
    → no_number p x ≡ Fails BadNumber p
no_number_byte p byte [] e = cc
no_number_byte p byte (other ∷ x) e = refl

pub ruleset numbers = (
  number_nothing,
  number_many,
  number_long,
  number_refused,
  number_taken,
  no_number_end,
  no_number_byte,
)
