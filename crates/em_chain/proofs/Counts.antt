-- How many blocks records take, and how many moves.
use Rattle.std.proofs.Common.{◌≡◌, ℕ, zero, suc, ◌+◌, ◌-◌, ◌*◌, ◌/◌, ◌<◌, ◌≤◌, List, [], ◌∷◌, length, refl, sym, ap, ◌∙◌, arith, IsTrue, ◌⊎◌, inl, inr, ⊎_elim}
use Rattle.std.proofs.lemmas.List.{length-append}
use Rattle.std.proofs.lemmas.Nat.{div_below, le-div}
use Rattle.std.proofs.Math.Nat.{div-mul-le_self, mul-suc, mul-add, mul-add-div, mul_comm}
use Rattle.em_record.specs.declared.record.Record.{Record}
use Rattle.em_space.specs.Free.{header}
use Rattle.em_space.specs.Rig.{RigState}
use Rattle.em_chain.specs.List.{IsRunOpen, AllButLast, items_in, payload}
use Rattle.em_chain.specs.Chain.{payload_in, IsChain, IsPacked, IsTight, chain_blocks, chain_contents}
use Rattle.em_chain.specs.Writer.{IsWriter, filled}
use Rattle.em_chain.specs.View.{IsView}
use Rattle.em_chain.specs.Counts.{ceiling}
use Rattle.em_chain.specs.declared.chain.Chain.{Chain}
use Rattle.em_chain.specs.declared.writer.Writer.{Writer}
use Rattle.em_chain.proofs.Readers.{length_payload}
use Rattle.em_chain.proofs.Views.{view_of}

-- how many blocks n records take
pub blocks_by : (p b f n : ℕ) → 0 < p → p * (b - 1) + f ≡ n → (b ≡ 0 → f ≡ 0) → (0 < b → 1 ≤ f)
    → f ≤ p → b ≡ ceiling n p
blocks_by p zero f n pos e z o m =
    let f0 = z refl in
    let n0 : n ≡ 0 = sym e ∙ rw f0 (grind arith) in
    let lt : p - 1 < 1 * p = omega arith in
    let d = div_below (p - 1) p 1 pos lt in
    let q0 : 0 + p - 1 ≡ p - 1 = omega arith in
    rw (n0, q0) (omega (arith, d))
blocks_by p (suc c) f n pos e z o m =
    let f1 = o (omega arith) in
    let s = mul-suc p c in
    let c1 : suc c - 1 ≡ c = omega arith in
    let e2 : p * c + f ≡ n = rw c1 at e in
    let q : n + p - 1 ≡ p * suc c + (f - 1) = omega arith in
    let d = div_below (f - 1) p 1 pos (omega arith) in
    rw (q, mul-add-div pos (suc c) (f - 1)) (omega arith)

pub writer_blocks_are : (t : RigState) (w : Writer) → 128 ≤ t.pool.shape.block → IsWriter t w
    → w.blocks ≡ ceiling (filled t w) (payload_in t)
writer_blocks_are t w low i =
    blocks_by (payload_in t) w.blocks w.fill (filled t w) (omega arith) refl
    (λ e. i.last.fill_none (i.last.none e)) (λ e. i.last.fill_low (i.last.some e))
    i.last.fill_most

-- a list that was packed
pub record Fullness (p n len : ℕ) : Type 0 where
  pub last : ℕ
  pub is : p * (n - 1) + last ≡ len
  pub none : n ≡ 0 → last ≡ 0
  pub some : 0 < n → 1 ≤ last
  pub most : last ≤ p

full_length : (p link : ℕ) (ks : List ℕ) (cs : List (List Record)) → IsRunOpen p link ks cs
    → AllButLast p cs → Fullness p (length ks) (length (items_in cs))
full_length p link [] [] r f = record {
  last = 0;
  is = grind arith;
  none = λ _. refl;
  some =
      λ e. absurd (omega arith);
  most = omega arith;
}
full_length p link [] (c ∷ cs) r f = absurd r
full_length p link (k ∷ ks) [] r f = absurd r
full_length p link (k ∷ []) (c ∷ []) r f =
    let lp = length_payload p c r.1 in
    let la = length-append (payload c) [] in
    record {
      last = (header c).b;
      is = grind arith;
      none = λ e. absurd (omega arith);
      some =
          λ _. r.1.some;
      most = r.1.most;
    }
full_length p link (k ∷ []) (c ∷ d ∷ cs) r f = absurd r.2
full_length p link (k ∷ j ∷ ks) (c ∷ []) r f = absurd r.2
full_length p link (k ∷ j ∷ ks) (c ∷ d ∷ cs) r f =
    let h = full_length p (header c).a (j ∷ ks) (d ∷ cs) r.2 f.1 in
    let lp = length_payload p c r.1 in
    let la = length-append (payload c) (items_in (d ∷ cs)) in
    let fl = f.0 in
    let hi = h.is in
    let ms = mul-suc p (length ks) in
    let e1 : suc (suc (length ks)) - 1 ≡ suc (length ks) = omega arith in
    let e2 : suc (length ks) - 1 ≡ length ks = omega arith in
    let hi2 : p * length ks + h.last ≡ length (items_in (d ∷ cs)) = rw e2 at hi in
    record {
      last = h.last;
      is = rw e1 (omega arith);
      none = λ e. absurd (omega arith);
      some =
          λ _. h.some (omega arith);
      most = h.most;
    }

-- the blocks of a tight view follow from its places,
pub tight_blocks : (s : RigState) (c : Chain) → 128 ≤ s.pool.shape.block → IsView s c
    → IsTrue s.device.told → IsTight s c → c.blocks ≡ ceiling (c.skip + c.count) (payload_in s)
tight_blocks s c low i z q =
    let u = i.told z in
    let h = full_length (payload_in s) c.head (chain_blocks s c) (chain_contents s c) u.list.run
    q.full in
    sym u.list.blocks_is ∙ blocks_by (payload_in s) (length (chain_blocks s c)) h.last
    (c.skip + c.count) (omega arith) (h.is ∙ sym u.list.count_is) h.none h.some h.most

-- and those of a packed chain from its count
pub packed_blocks : (s : RigState) (c : Chain) → 128 ≤ s.pool.shape.block → IsChain s c
    → IsTrue s.device.told → IsPacked s c → c.blocks ≡ ceiling c.count (payload_in s)
packed_blocks s c low i z q =
    tight_blocks s c low (view_of s c i) z (record { full = q.is.full })
    ∙ (let e : c.skip + c.count ≡ c.count = omega (arith, q.is.skip_is) in
    ap (λ (n : ℕ). ceiling n (payload_in s)) e)

pub lt_or_le : (a b : ℕ) → (a < b) ⊎ (b ≤ a)
lt_or_le zero zero = inr (omega arith)
lt_or_le zero (suc b) = inl (omega arith)
lt_or_le (suc a) zero = inr (omega arith)
lt_or_le (suc a) (suc b) = ⊎_elim (λ (l : a < b). inl (omega arith))
    (λ (l : b ≤ a). inr (omega arith)) (lt_or_le a b)

-- x records more take at most this many blocks more
pub more_by : (p b c x : ℕ) → 0 < p → p * c < p * b + x → c < b + ceiling x p
more_by p b c x pos lt =
    ⊎_elim (λ (l : c < b). omega arith)
    (λ (l : b ≤ c).
    let d = c - b in
    let e : c ≡ b + d = omega arith in
    let m = mul-add p b d in
    let t : p * (b + d) < p * b + x = rw e at lt in
    let ms = mul-suc p d in
    let cm = mul_comm (suc d) p in
    let g : suc d * p ≤ x + p - 1 = omega arith in
    let k : suc d ≤ (x + p - 1) / p = le-div (suc d) (x + p - 1) p pos g in
    omega arith)
    (lt_or_le c b)

-- more records take no fewer blocks
pub ceiling_more : (m n p : ℕ) → 0 < p → m ≤ n → ceiling m p ≤ ceiling n p
ceiling_more m n p pos h =
    let q = div-mul-le_self (m + p - 1) p in
    le-div ((m + p - 1) / p) (n + p - 1) p pos (omega arith)

-- x records after those that b blocks hold take at most this many blocks more
pub ceiling_sum : (p b f x : ℕ) → 0 < p → f ≤ p * b → ceiling (f + x) p ≤ b + ceiling x p
ceiling_sum p b f x pos h =
    let m = ceiling_more (f + x) (p * b + x) p pos (omega arith) in
    let q : p * b + x + p - 1 ≡ p * b + (x + p - 1) = omega arith in
    let d = mul-add-div pos b (x + p - 1) in
    rw (q, d) at m

filled_by : (p b f : ℕ) → (b ≡ 0 → f ≡ 0) → f ≤ p → p * (b - 1) + f ≤ p * b
filled_by p zero f z m = rw (z refl) (grind arith)
filled_by p (suc c) f z m =
    let s = mul-suc p c in
    let e : suc c - 1 ≡ c = omega arith in
    rw e (omega arith)

-- the places that a writer went through are of its blocks
pub filled_most : (s : RigState) (w : Writer) → IsWriter s w → filled s w ≤ payload_in s * w.blocks
filled_most s w i = filled_by (payload_in s) w.blocks w.fill
    (λ e. i.last.fill_none (i.last.none e)) i.last.fill_most

sum_by : (x y a b p : ℕ) → 0 < p → x * p ≤ a + p - 1 → y * p ≤ b + p - 1
    → x + y ≤ (a + b + p - 1) / p + 1
sum_by zero y a b p pos h k = omega (arith, le-div y (a + b + p - 1) p pos (omega arith))
sum_by (suc x) y a b p pos h k =
    omega (arith, le-div (x + y) (a + b + p - 1) p pos (omega arith))

-- two lists take one block more at most than one list of their records,
pub ceiling_two : (a b p : ℕ) → 0 < p → ceiling a p + ceiling b p ≤ ceiling (a + b) p + 1
ceiling_two a b p pos = sum_by (ceiling a p) (ceiling b p) a b p pos
    (div-mul-le_self (a + p - 1) p) (div-mul-le_self (b + p - 1) p)

-- and three lists two more.
pub ceiling_three : (a b c p : ℕ) → 0 < p
    → ceiling a p + ceiling b p + ceiling c p ≤ ceiling (a + b + c) p + 2
ceiling_three a b c p pos = omega (arith, ceiling_two a b p pos, ceiling_two (a + b) c p pos)
