-- Links of free blocks, and how many there are.
use Rattle.std.proofs.Common.{◌≡◌, ◌≢◌, ℕ, zero, suc, ◌+◌, ◌-◌, ◌<◌, ◌≤◌, List, [], ◌∷◌, length, get_or, set, refl, sym, ap, ◌∙◌, subst, arith, ◌++◌, true, false, Bool, eqb, ◌||◌, ◌⊎◌, inl, inr, ⊎_elim}
use Rattle.std.proofs.lemmas.List.{get_or-set_other, get_or-set_same, length-set}
use Rattle.std.proofs.lemmas.Bool.{eqb-true, ne_eqb, false≢true, cases_eq}
use Rattle.std.specs.List.{IsDistinct, AllByRecursion, list_any}
use Rattle.em_record.specs.declared.record.Record.{Record}
use Rattle.em_space.specs.Free.{Off, AreDistinct, AreBelow, header, free_header, link_at, linked_from, AreLinked, free_blocks, IsFreeList, IsTaken, AreTaken}
use Rattle.em_space.specs.Rig.{IsLaidOut}

-- a write to another block leaves the link of this one
link-kept : (bs : List (List Record)) (k j : ℕ) (b : List Record) → (j ≢ k)
    → link_at (set bs k b) j ≡ link_at bs j
link-kept bs k j b ne = ap (λ (c : List Record). (header c).a) (get_or-set_other bs k j b [] ne)

-- a write to another block leaves the links
linked_from-set : (n : ℕ) (bs : List (List Record)) (link k : ℕ) (b : List Record)
    → Off k (linked_from n bs link) → linked_from n (set bs k b) link ≡ linked_from n bs link
linked_from-set zero bs link k b off = refl
linked_from-set (suc n) bs zero k b off = refl
linked_from-set (suc n) bs (suc j) k b off =
    let ne : j ≢ k = λ e. off.0 (sym e) in
    ap (λ (l : ℕ). j ∷ linked_from n (set bs k b) l) (link-kept bs k j b ne)
    ∙ ap (λ (t : List ℕ). j ∷ t) (linked_from-set n bs (link_at bs j) k b off.1)

free-kept : (bs : List (List Record)) (k j : ℕ) (b : List Record) → (j ≢ k)
    → header (get_or bs j []) ≡ free_header (link_at bs j)
    → header (get_or (set bs k b) j []) ≡ free_header (link_at (set bs k b) j)
free-kept bs k j b ne h =
    ap header (get_or-set_other bs k j b [] ne) ∙ h ∙ ap free_header (sym (link-kept bs k j b ne))

linked-set : (ks : List ℕ) (bs : List (List Record)) (link k : ℕ) (b : List Record)
    → Off k ks → AreLinked bs link ks → AreLinked (set bs k b) link ks
linked-set [] bs link k b off h = h
linked-set (j ∷ ks) bs link k b off h =
    let ne : j ≢ k = λ e. off.0 (sym e) in
    let e = link-kept bs k j b ne in (
      h.0,
      free-kept bs k j b ne h.1,
      subst (λ (l : ℕ). AreLinked (set bs k b) l ks) (sym e)
          (linked-set ks bs (link_at bs j) k b off.1 h.2),
    )

all_off : (k : ℕ) (ks : List ℕ) → Off k ks → AllByRecursion (λ y. eqb k y ≡ false) ks
all_off k [] h = tt
all_off k (x ∷ xs) h = (ne_eqb k x h.0, all_off k xs h.1)

pub distinct-std : (ks : List ℕ) → AreDistinct ks → IsDistinct eqb ks
unfolding IsDistinct
distinct-std [] h = tt
distinct-std (x ∷ xs) h = (all_off x xs h.0, distinct-std xs h.1)

or_cases : (a b : Bool) → (a || b) ≡ true → (a ≡ true) ⊎ (b ≡ true)
or_cases true b e = inl refl
or_cases false b e = inr e

pub below-any : (n : ℕ) (ks : List ℕ) (q : ℕ) → AreBelow n ks → list_any (eqb q) ks ≡ true → q < n
below-any n [] q h e = absurd (false≢true e)
below-any n (x ∷ xs) q h e =
    ⊎_elim (λ y. let s : q ≡ x = eqb-true q x y in let l = h.0 in omega arith)
    (λ y. below-any n xs q h.1 y) (or_cases (eqb q x) (list_any (eqb q) xs) e)

-- blocks keep their size after a write of that size
pub laid_out-set : (bs : List (List Record)) (blocks block k : ℕ) (b : List Record)
    → length b ≡ block → IsLaidOut bs blocks block → IsLaidOut (set bs k b) blocks block
laid_out-set bs blocks block k b l h = record {
  length_is = length-set bs k b ∙ h.length_is;
  lens = λ j lt.
      ⊎_elim
      (λ (s : j ≡ k). let in_range : k < length bs = omega (arith, h.length_is) in
      rw (s, get_or-set_same bs k b [] in_range) l)
      (λ (n : j ≢ k). rw (get_or-set_other bs k j b [] n) (h.lens j lt))
      (cases_eq j k);
}

-- a block that isn't free is written
pub free_list-set : (bs : List (List Record)) (most used head k : ℕ) (b : List Record)
    → Off k (free_blocks bs most used head) → IsFreeList bs most used head
    → IsFreeList (set bs k b) most used head
free_list-set bs most used head k b off h =
    let e : free_blocks (set bs k b) most used head ≡ free_blocks bs most used head =
    linked_from-set (most - used) bs head k b off in
    record {
      linked = rw e (linked-set (free_blocks bs most used head) bs head k b off h.linked);
      count = rw e h.count;
      below = rw e h.below;
      distinct = rw e h.distinct;
    }

pub taken-set : (bs : List (List Record)) (most used head k : ℕ) (b : List Record)
    → Off k (free_blocks bs most used head) → (j : ℕ) → IsTaken bs most used head j
    → IsTaken (set bs k b) most used head j
taken-set bs most used head k b off j h =
    let e : free_blocks (set bs k b) most used head ≡ free_blocks bs most used head =
    linked_from-set (most - used) bs head k b off in
    (h.0, rw e h.1)

-- and no other block came to be taken
pub taken-before : (bs : List (List Record)) (most used head k : ℕ) (b : List Record)
    → Off k (free_blocks bs most used head) → (j : ℕ) → IsTaken (set bs k b) most used head j
    → IsTaken bs most used head j
taken-before bs most used head k b off j h =
    let e : free_blocks (set bs k b) most used head ≡ free_blocks bs most used head =
    linked_from-set (most - used) bs head k b off in
    (h.0, rw e at h.1)

-- with no link there is no free block
none-linked : (n : ℕ) (bs : List (List Record)) → linked_from n bs 0 ≡ []
none-linked zero bs = refl
none-linked (suc n) bs = refl

-- one block more was ever in use
pub free_list-next : (bs : List (List Record)) (most used : ℕ) → used ≡ most
    → IsFreeList (bs) (most + 1) (used + 1) 0
free_list-next bs most used e =
    let c : most + 1 - (used + 1) ≡ 0 = omega arith in
    record {
      linked = rw (none-linked (most + 1 - (used + 1)) bs) refl;
      count = rw c refl;
      below = rw (none-linked (most + 1 - (used + 1)) bs) tt;
      distinct = rw (none-linked (most + 1 - (used + 1)) bs) tt;
    }

pub taken-next : (bs : List (List Record)) (most used j : ℕ) → j < most + 1
    → IsTaken bs (most + 1) (used + 1) 0 j
taken-next bs most used j lt = (lt, rw (none-linked (most + 1 - (used + 1)) bs) tt)

-- where nothing is freed, the blocks that were ever in use are in use
pub taken-none_freed : (bs : List (List Record)) (most used j : ℕ) → j < most
    → IsTaken bs most used 0 j
taken-none_freed bs most used j lt = (lt, rw (none-linked (most - used) bs) tt)

-- the first free block comes into use
first-free : (bs : List (List Record)) (most used k : ℕ) → used < most
    → free_blocks bs most used (suc k) ≡ k ∷ free_blocks bs most (used + 1) (link_at bs k)
first-free bs most used k lt =
    let e : most - used ≡ suc (most - (used + 1)) = omega arith in
    rw e refl

pub free_list-first : (bs : List (List Record)) (most used k : ℕ) → used < most
    → IsFreeList bs most used (suc k) → IsFreeList bs most (used + 1) (link_at bs k)
free_list-first bs most used k lt h =
    let rest = free_blocks bs most (used + 1) (link_at bs k) in
    let e : free_blocks bs most used (suc k) ≡ k ∷ rest = first-free bs most used k lt in
    let linked = rw e at h.linked in
    let below = rw e at h.below in
    let distinct = rw e at h.distinct in
    let count : suc (length rest) ≡ most - used = rw e at h.count in
    record {
      linked = linked.2;
      count = omega arith;
      below = below.1;
      distinct = distinct.1;
    }

-- What the first free block is like.
pub record IsFirst (bs : List (List Record)) (most used k : ℕ) : Type 0 where
  pub below : k < most
  pub off : Off k (free_blocks bs most (used + 1) (link_at bs k))
  pub is : header (get_or bs k []) ≡ free_header (link_at bs k)
  pub link : link_at bs k ≤ most
  pub last : link_at bs k ≡ 0 → used + 1 ≡ most
  pub more : 0 < link_at bs k → used + 1 < most

pub record LeadsTo (ks : List ℕ) (link n : ℕ) : Type 0 where
  pub within : link ≤ n
  pub none : link ≡ 0 → length ks ≡ 0
  pub some : 0 < link → 0 < length ks

leads_to : (ks : List ℕ) (bs : List (List Record)) (link n : ℕ)
    → AreLinked bs link ks → AreBelow n ks → LeadsTo ks link n
leads_to [] bs link n h b = record {
  within = omega (arith, h);
  none = λ e. refl;
  some = λ p. absurd (omega (arith, h));
}
leads_to (k ∷ ks) bs link n h b = record {
  within = omega (arith, h.0, b.0);
  none = λ e. absurd (omega (arith, h.0));
  some = λ p. omega arith;
}

pub first-is : (bs : List (List Record)) (most used k : ℕ) → used < most
    → IsFreeList bs most used (suc k) → IsFirst bs most used k
first-is bs most used k lt h =
    let rest = free_blocks bs most (used + 1) (link_at bs k) in
    let e : free_blocks bs most used (suc k) ≡ k ∷ rest = first-free bs most used k lt in
    let linked = rw e at h.linked in
    let below = rw e at h.below in
    let distinct = rw e at h.distinct in
    let count = (free_list-first bs most used k lt h).count in
    let l = leads_to rest bs (link_at bs k) most linked.2 below.1 in
    record {
      below = below.0;
      off = distinct.0;
      is = linked.1;
      link = l.within;
      last = λ z. let y = l.none z in omega arith;
      more = λ z. let y = l.some z in omega arith;
    }

pub taken-first : (bs : List (List Record)) (most used k : ℕ) → used < most → (j : ℕ)
    → IsTaken bs most used (suc k) j → IsTaken bs most (used + 1) (link_at bs k) j
taken-first bs most used k lt j h =
    let off = rw (first-free bs most used k lt) at h.1 in
    (h.0, off.1)

-- a block that is taken now was taken before, or is the first free one
pub taken-unless : (bs : List (List Record)) (most used k : ℕ) → used < most → (j : ℕ)
    → IsTaken bs most (used + 1) (link_at bs k) j → (j ≡ k) ⊎ IsTaken bs most used (suc k) j
taken-unless bs most used k lt j h =
    ⊎_elim (λ (e : j ≡ k). inl e)
    (λ (ne : j ≢ k). inr (h.0, rw (first-free bs most used k lt) (ne, h.1)))
    (cases_eq j k)

-- the first free block isn't in use
pub first-untaken : (bs : List (List Record)) (most used k : ℕ) → used < most
    → IsTaken bs most used (suc k) k → ⊥
first-untaken bs most used k lt h =
    let off = rw (first-free bs most used k lt) at h.1 in
    off.0 refl

-- A block that is freed becomes the first one.
pub record Frees (bs : List (List Record)) (most used head k : ℕ) (b : List Record) : Type 0 where
  pub some : 0 < used
  pub least : used ≤ most
  pub in_range : k < length bs
  pub header_is : header b ≡ free_header head
  pub taken : IsTaken bs most used head k

link-written : (bs : List (List Record)) (most used head k : ℕ) (b : List Record)
    → Frees bs most used head k b → link_at (set bs k b) k ≡ head
link-written bs most used head k b f =
    ap (λ (c : List Record). (header c).a) (get_or-set_same bs k b [] f.in_range)
    ∙ ap (λ (r : Record). r.a) f.header_is

freed-first : (bs : List (List Record)) (most used head k : ℕ) (b : List Record)
    → Frees bs most used head k b
    → free_blocks (set bs k b) most (used - 1) (suc k) ≡ k ∷ free_blocks bs most used head
freed-first bs most used head k b f =
    let e : most - (used - 1) ≡ suc (most - used) = omega (arith, f.some, f.least) in
    let at_k = link-written bs most used head k b f in
    rw e
    (ap (λ (l : ℕ). k ∷ linked_from (most - used) (set bs k b) l) at_k
    ∙ ap (λ (t : List ℕ). k ∷ t) (linked_from-set (most - used) bs head k b f.taken.1))

pub free_list-freed : (bs : List (List Record)) (most used head k : ℕ) (b : List Record)
    → Frees bs most used head k b → IsFreeList bs most used head
    → IsFreeList (set bs k b) most (used - 1) (suc k)
free_list-freed bs most used head k b f h =
    let e = freed-first bs most used head k b f in
    let at_k : get_or (set bs k b) k [] ≡ b = get_or-set_same bs k b [] f.in_range in
    let link = link-written bs most used head k b f in
    let count = h.count in
    record {
      linked = rw e (
        omega arith,
        ap header at_k ∙ f.header_is ∙ ap free_header (sym link),
        subst (λ (l : ℕ). AreLinked (set bs k b) l (free_blocks bs most used head)) (sym link)
            (linked-set (free_blocks bs most used head) bs head k b f.taken.1 h.linked),
      );
      count = rw e (omega (arith, f.some, f.least));
      below = rw e (f.taken.0, h.below);
      distinct = rw e (f.taken.1, h.distinct);
    }

pub taken-freed : (bs : List (List Record)) (most used head k : ℕ) (b : List Record)
    → Frees bs most used head k b → (j : ℕ) → j ≢ k → IsTaken bs most used head j
    → IsTaken (set bs k b) most (used - 1) (suc k) j
taken-freed bs most used head k b f j ne h =
    (h.0, rw (freed-first bs most used head k b f) (ne, h.1))

pub untaken-freed : (bs : List (List Record)) (most used head k : ℕ) (b : List Record)
    → Frees bs most used head k b → (j : ℕ) → IsTaken (set bs k b) most (used - 1) (suc k) j
    → IsTaken bs most used head j
untaken-freed bs most used head k b f j h =
    let off = rw (freed-first bs most used head k b f) at h.1 in
    (h.0, off.1)

pub freed-untaken : (bs : List (List Record)) (most used head k : ℕ) (b : List Record)
    → Frees bs most used head k b → IsTaken (set bs k b) most (used - 1) (suc k) k → ⊥
freed-untaken bs most used head k b f h =
    let off = rw (freed-first bs most used head k b f) at h.1 in
    off.0 refl

-- what is taken by one list is taken by another
pub spare-by : (bs cs : List (List Record)) (most now used then head link : ℕ) (ks : List ℕ)
    → ((j : ℕ) → IsTaken bs most used head j → IsTaken cs now then link j)
    → AreTaken bs most used head ks → AreTaken cs now then link ks
spare-by bs cs most now used then head link [] f h = tt
spare-by bs cs most now used then head link (k ∷ ks) f h =
    (f k h.0, spare-by bs cs most now used then head link ks f h.1)

-- and where one block isn't any more, those off it are still
pub spare-off : (bs cs : List (List Record)) (most now used then head link k : ℕ) (ks : List ℕ)
    → ((j : ℕ) → j ≢ k → IsTaken bs most used head j → IsTaken cs now then link j)
    → Off k ks → AreTaken bs most used head ks → AreTaken cs now then link ks
spare-off bs cs most now used then head link k [] f o h = tt
spare-off bs cs most now used then head link k (j ∷ js) f o h =
    (f j (λ e. o.0 (sym e)) h.0, spare-off bs cs most now used then head link k js f o.1 h.1)

pub taken-left : (bs : List (List Record)) (most used head : ℕ) (ks js : List ℕ)
    → AreTaken bs most used head (ks ++ js) → AreTaken bs most used head ks
taken-left bs most used head [] js h = tt
taken-left bs most used head (k ∷ ks) js h = (h.0, taken-left bs most used head ks js h.1)

pub taken-right : (bs : List (List Record)) (most used head : ℕ) (ks js : List ℕ)
    → AreTaken bs most used head (ks ++ js) → AreTaken bs most used head js
taken-right bs most used head [] js h = h
taken-right bs most used head (k ∷ ks) js h = taken-right bs most used head ks js h.1

pub taken-join : (bs : List (List Record)) (most used head : ℕ) (ks js : List ℕ)
    → AreTaken bs most used head ks → AreTaken bs most used head js
    → AreTaken bs most used head (ks ++ js)
taken-join bs most used head [] js a b = b
taken-join bs most used head (k ∷ ks) js a b = (a.0, taken-join bs most used head ks js a.1 b)

-- a block that isn't taken is off those that are
pub off-taken : (bs : List (List Record)) (most used head k : ℕ) (ks : List ℕ)
    → (IsTaken bs most used head k → ⊥) → AreTaken bs most used head ks → Off k ks
off-taken bs most used head k [] n h = tt
off-taken bs most used head k (j ∷ js) n h = (
  (λ e. n (subst (λ (i : ℕ). IsTaken bs most used head i) (sym e) h.0)),
  off-taken bs most used head k js n h.1,
)

pub off-none : (k : ℕ) (ks : List ℕ) → length ks ≡ 0 → Off k ks
off-none k [] e = tt
off-none k (j ∷ js) e = absurd (omega (arith, e))
