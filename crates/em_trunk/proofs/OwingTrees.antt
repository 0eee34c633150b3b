-- What entries may owe, over what happens at a place of a tree: a load, a leaf that is cut, and a buffer
-- that is emptied into a node.
use Rattle.std.proofs.Common.{◌≡◌, true, false, ℕ, ◌+◌, ◌-◌, ◌*◌, ◌<◌, ◌≤◌, ◌==◌, List, [], ◌∷◌, length, refl, sym, subst, arith, ⊎_elim}
use Rattle.std.specs.Prelude.{cond}
use Rattle.std.proofs.Math.Dec.{eqb}
use Rattle.std.proofs.lemmas.Bool.{cond-false, cond-true, ne_eqb}
use Rattle.std.proofs.lemmas.Bool.Decides.{eqb_tells}
use Rattle.em_record.specs.declared.record.Record.{Record}
use Rattle.em_tree_model.specs.Places.{Place, put_at}
use Rattle.em_tree_model.specs.Places.Place.{here, past, under}
use Rattle.em_tree_model.specs.Tree.{Tree}
use Rattle.em_tree_model.specs.Tree.Tree.{end, entry, leaf}
use Rattle.em_tree_cost.specs.Outline.{count_of}
use Rattle.em_tree_outline.specs.Outline.{outline_of}
use Rattle.em_trunk.specs.Entries.{place_level}
use Rattle.em_trunk.specs.Owing.{load_part, loads_owing, lower_part, lowers_owing}
use Rattle.em_trunk.proofs.Clear.{place_level_most}

-- a row, with entries or without
abbrev pub NoLeaf : Tree → Type 0
NoLeaf (leaf xs) = ⊥
NoLeaf end = Unit {0}
NoLeaf (entry low b c r) = Unit {0}

pub no_leaf_put : (p : Place) (x : Tree) → NoLeaf x → NoLeaf (put_at p x)
no_leaf_put here x h = h
no_leaf_put (under low b r p) x h = tt
no_leaf_put (past low b c p) x h = tt

module _ (B L : ℕ) where
  pub part_node : (b : List Record) (c : Tree) → NoLeaf c → load_part B L b c ≡ 0
  part_node [] c h = refl
  part_node (op ∷ ops) (leaf xs) h = absurd h
  part_node (op ∷ ops) end h = refl
  part_node (op ∷ ops) (entry low b c r) h = refl

  -- an entry over a leaf
  pub part_some : (b xs : List Record) → 1 ≤ length b
      → load_part B L b (leaf xs) ≡ 10 * (length b + length xs) + B * (35 + 2 * L)
  part_some [] xs h = absurd (omega (arith, h))
  part_some (op ∷ ops) xs h = refl

  pub part_most : (b xs : List Record)
      → load_part B L b (leaf xs) ≤ 10 * (length b + length xs) + B * (35 + 2 * L)
  part_most [] xs = omega arith
  part_most (op ∷ ops) xs = omega arith

  part_none : (b : List Record) (c : Tree) → length b ≡ 0 → load_part B L b c ≡ 0
  part_none [] c e = refl
  part_none (op ∷ ops) c e = absurd (omega (arith, e))

  -- at a place
  pub loads_put : (m k : ℕ) (p : Place) (x y : Tree) → NoLeaf x → NoLeaf y
      → loads_owing B L y + m ≤ loads_owing B L x + k
      → loads_owing B L (put_at p y) + m ≤ loads_owing B L (put_at p x) + k
  loads_put m k here x y nx ny h = h
  loads_put m k (under low b r p) x y nx ny h =
      let i = loads_put m k p x y nx ny h in
      let a = part_node b (put_at p x) (no_leaf_put p x nx) in
      let c = part_node b (put_at p y) (no_leaf_put p y ny) in
      omega (arith, i, a, c)
  loads_put m k (past low b c p) x y nx ny h =
      let i = loads_put m k p x y nx ny h in omega (arith, i)

  -- one load of n operations
  part_loaded : (n : ℕ) (ops rest xs ys : List Record) → length ops ≡ n + length rest
      → length ys ≤ length xs + n → load_part B L rest (leaf ys) ≤ load_part B L ops (leaf xs)
  part_loaded n ops [] xs ys e few = omega arith
  part_loaded n [] (y ∷ rest) xs ys e few = absurd (omega (arith, e))
  part_loaded n (x ∷ ops) (y ∷ rest) xs ys e few =
      let a = part_most (y ∷ rest) ys in
      let b = part_some (x ∷ ops) xs (omega arith) in
      omega (arith, a, b, e, few)

  -- and a leaf that is cut after it
  parts_cut : (n : ℕ) (ops rest first second xs ys zs : List Record) → length ops ≡ n + length rest
      → length first + length second ≡ length rest → length ys + length zs ≤ length xs + n
      → load_part B L first (leaf ys) + load_part B L second (leaf zs)
      ≤ load_part B L ops (leaf xs) + B * (35 + 2 * L)
  parts_cut n [] rest first second xs ys zs e sum few =
      let a = part_none first (leaf ys) (omega (arith, e, sum)) in
      let b = part_none second (leaf zs) (omega (arith, e, sum)) in
      omega (arith, a, b)
  parts_cut n (x ∷ ops) rest first second xs ys zs e sum few =
      let a = part_most first ys in
      let b = part_most second zs in
      let c = part_some (x ∷ ops) xs (omega arith) in
      omega (arith, a, b, c, e, sum, few)

  module _ (p : Place) (low : Record) (n : ℕ) (ops rest xs : List Record) (r : Tree)
      (taken : length ops ≡ n + length rest) where
    -- An entry over a leaf owes no more after a load,
    pub loaded_all : (ys : List Record) → length ys ≤ length xs + n
        → loads_owing B L (put_at p (entry low rest (leaf ys) r))
        ≤ loads_owing B L (put_at p (entry low ops (leaf xs) r))
    loaded_all ys few =
        let a = part_loaded n ops rest xs ys taken few in
        let b = loads_put 0 0 p (entry low ops (leaf xs) r) (entry low rest (leaf ys) r) tt tt
        (omega (arith, a)) in
        omega (arith, b)

    -- and nothing, if the load takes all.
    pub loaded_some : (ys : List Record) → length rest ≡ 0
        → loads_owing B L (put_at p (entry low rest (leaf ys) r)) + load_part B L ops (leaf xs)
        ≤ loads_owing B L (put_at p (entry low ops (leaf xs) r))
    loaded_some ys none =
        let m = load_part B L ops (leaf xs) in
        let z = part_none rest (leaf ys) none in
        let b = loads_put m 0 p (entry low ops (leaf xs) r) (entry low rest (leaf ys) r) tt tt
        (omega (arith, z)) in
        omega (arith, b)

    -- The same if the leaf is cut: one part more may be owed.
    pub cut_all : (k : Record) (first second ys zs : List Record)
        → length first + length second ≡ length rest → length ys + length zs ≤ length xs + n
        → loads_owing B L (put_at p (entry low first (leaf ys) (entry k second (leaf zs) r)))
        ≤ loads_owing B L (put_at p (entry low ops (leaf xs) r)) + B * (35 + 2 * L)
    cut_all k first second ys zs sum few =
        let m = B * (35 + 2 * L) in
        let a = parts_cut n ops rest first second xs ys zs taken sum few in
        let b = loads_put 0 m p (entry low ops (leaf xs) r)
        (entry low first (leaf ys) (entry k second (leaf zs) r)) tt tt (omega (arith, a)) in
        omega (arith, b)

    pub cut_some : (k : Record) (first second ys zs : List Record)
        → length first + length second ≡ length rest → length rest ≡ 0
        → loads_owing B L (put_at p (entry low first (leaf ys) (entry k second (leaf zs) r)))
        + load_part B L ops (leaf xs) ≤ loads_owing B L (put_at p (entry low ops (leaf xs) r))
    cut_some k first second ys zs sum none =
        let m = load_part B L ops (leaf xs) in
        let x = part_none first (leaf ys) (omega (arith, sum, none)) in
        let y = part_none second (leaf zs) (omega (arith, sum, none)) in
        let b = loads_put m 0 p (entry low ops (leaf xs) r)
        (entry low first (leaf ys) (entry k second (leaf zs) r)) tt tt (omega (arith, x, y)) in
        omega (arith, b)

  -- an entry over a node
  pub lower_some : (b : List Record) (c : Tree) → 1 ≤ length b
      → lower_part B L b c ≡ B * (4 * count_of (outline_of c) + 8 + L)
  lower_some [] c h = absurd (omega (arith, h))
  lower_some (op ∷ ops) c h = refl

  -- no entry is above the row's level
  pub lowers_none : (level top : ℕ) (t : Tree) → top < level → lowers_owing B L level top t ≡ 0
  lowers_none level top (leaf xs) h = refl
  lowers_none level top end h = refl
  lowers_none level top (entry low b c r) h =
      let i = lowers_none level (top - 1) c (omega (arith, h)) in
      let j = lowers_none level top r h in
      let e : eqb top level ≡ false = ne_eqb top level (λ (q : top ≡ level). omega (arith, q, h)) in
      let z : cond (top == level) (lower_part B L b c) 0 ≡ 0 = cond-false _ _ _ e in
      omega (arith, i, j, z)

  -- at a place of this level
  pub lowers_put : (m k level : ℕ) (p : Place) (x y : Tree) (top : ℕ) → 1 ≤ level
      → place_level p top ≡ level
      → lowers_owing B L level level y + m ≤ lowers_owing B L level level x + k
      → lowers_owing B L level top (put_at p y) + m ≤ lowers_owing B L level top (put_at p x) + k
  lowers_put m k level here x y top some at h =
      let P : ℕ → Type 0 = λ n. lowers_owing B L level n y + m ≤ lowers_owing B L level n x + k in
      subst P (sym at) h
  lowers_put m k level (under low b r p) x y top some at h =
      let i = lowers_put m k level p x y (top - 1) some at h in
      let most = place_level_most p (top - 1) in
      let e : eqb top level ≡ false =
      ne_eqb top level (λ (q : top ≡ level). omega (arith, q, most, at, some)) in
      let a : cond (top == level) (lower_part B L b (put_at p x)) 0 ≡ 0 = cond-false _ _ _ e in
      let c : cond (top == level) (lower_part B L b (put_at p y)) 0 ≡ 0 = cond-false _ _ _ e in
      omega (arith, i, a, c)
  lowers_put m k level (past low b c p) x y top some at h =
      let i = lowers_put m k level p x y top some at h in omega (arith, i)

  -- an entry of this level
  lowers_here : (level : ℕ) (low : Record) (b : List Record) (c r : Tree) → 1 ≤ level
      → lowers_owing B L level level (entry low b c r)
      ≡ lower_part B L b c + lowers_owing B L level level r
  lowers_here level low b c r some =
      let i = lowers_none level (level - 1) c (omega (arith, some)) in ⊎_elim
      (λ (t : (eqb level level ≡ true) × (level ≡ level)).
      let z : cond (level == level) (lower_part B L b c) 0 ≡ lower_part B L b c =
      cond-true _ _ _ t.0 in
      omega (arith, i, z))
      (λ (f : (eqb level level ≡ false) × ((level ≡ level) → ⊥)). absurd (f.1 refl))
      (eqb_tells level level)

  -- The buffer of an entry of this level was emptied into its child.
  pub lowered_owing : (level : ℕ) (p : Place) (low : Record) (b : List Record) (c d r : Tree) (top : ℕ)
      → 1 ≤ level → place_level p top ≡ level
      → lowers_owing B L level top (put_at p (entry low [] d r)) + lower_part B L b c
      ≤ lowers_owing B L level top (put_at p (entry low b c r))
  lowered_owing level p low b c d r top some at =
      let m = lower_part B L b c in
      let x = lowers_here level low b c r some in
      let y = lowers_here level low [] d r some in
      let h = lowers_put m 0 level p (entry low b c r) (entry low [] d r) top some at
      (omega (arith, x, y)) in
      omega (arith, h)

  -- its part is among what may be owed
  pub lower_among : (level : ℕ) (p : Place) (low : Record) (b : List Record) (c r : Tree) (top : ℕ)
      → 1 ≤ level → place_level p top ≡ level
      → lower_part B L b c ≤ lowers_owing B L level top (put_at p (entry low b c r))
  lower_among level p low b c r top some at =
      let h = lowered_owing level p low b c c r top some at in omega (arith, h)

  pub load_among : (p : Place) (low : Record) (ops xs : List Record) (r : Tree)
      → load_part B L ops (leaf xs) ≤ loads_owing B L (put_at p (entry low ops (leaf xs) r))
  load_among p low ops xs r =
      let h = loaded_some p low (length ops) ops [] xs r (omega arith) xs refl in omega (arith, h)
