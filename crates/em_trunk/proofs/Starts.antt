-- How many nodes begin among some keys, over the emptying of an entry: as many as before.
use Rattle.std.specs.Prelude.{◌≡◌, Bool, true, false, cond, ℕ, ◌+◌, ◌-◌, ◌==◌, List, [], ◌∷◌, ◌++◌}
use Rattle.std.proofs.Common.{refl, sym, ap, ◌∙◌}
use Rattle.em_record.specs.declared.record.Record.{Record}
use Rattle.em_tree_model.specs.Places.{Place, SameStart, put_at}
use Rattle.em_tree_model.specs.Places.Place.{here, past, under}
use Rattle.em_tree_model.specs.Pouring.{pour, pour_one}
use Rattle.em_tree_model.specs.Ranges.{low_of}
use Rattle.em_tree_model.specs.Tree.{Tree, is_later}
use Rattle.em_tree_model.specs.Tree.Tree.{end, entry, leaf}
use Rattle.em_tree_model.proofs.Places.{low_same, start_put}
use Rattle.em_tree_model.proofs.Pouring.{pour_start}
use Rattle.em_trunk.specs.Starts.{starts_of}

module _ (test : Record → Bool) (level : ℕ) where
  -- at a place
  pub starts_put : (p : Place) (t u : Tree) → SameStart t u
      → ((top : ℕ) (lo : Record) → starts_of test level top lo u ≡ starts_of test level top lo t)
      → (top : ℕ) (lo : Record)
      → starts_of test level top lo (put_at p u) ≡ starts_of test level top lo (put_at p t)
  starts_put here t u s f top lo = f top lo
  starts_put (under low b r p) t u s f top lo =
      ap (λ (n : ℕ). cond (top == level) (cond (test lo) 1 0) 0 + n + starts_of test level top (low_of lo r) r)
      (starts_put p t u s f (top - 1) lo)
  starts_put (past low b c p) t u s f top lo =
      let own = cond (top == level) (cond (test lo) 1 0) 0 + starts_of test level (top - 1) lo c in
      ap (λ (k : Record). own + starts_of test level top k (put_at p u))
      (sym (low_same lo (put_at p t) (put_at p u) (start_put p t u s)))
      ∙ ap (λ (n : ℕ). own + n) (starts_put p t u s f top (low_of lo (put_at p t)))

  starts_one_at : (z : Bool) (low : Record) (b : List Record) (c r s : Tree) (op : Record) (top : ℕ)
      (lo : Record) → SameStart r s
      → starts_of test level top (low_of lo r) s ≡ starts_of test level top (low_of lo r) r
      → starts_of test level top lo (cond z (entry low b c s) (entry low (b ++ op ∷ []) c r))
      ≡ starts_of test level top lo (entry low b c r)
  starts_one_at true low b c r s op top lo st later =
      let own = cond (top == level) (cond (test lo) 1 0) 0 + starts_of test level (top - 1) lo c in
      ap (λ (k : Record). own + starts_of test level top k s) (sym (low_same lo r s st))
      ∙ ap (λ (n : ℕ). own + n) later
  starts_one_at false low b c r s op top lo st later = refl

  starts_pour_one : (key : Record → Record) (c : Tree) (op : Record) (top : ℕ) (lo : Record)
      → starts_of test level top lo (pour_one key c op) ≡ starts_of test level top lo c
  starts_pour_one key (leaf xs) op top lo = refl
  starts_pour_one key end op top lo = refl
  starts_pour_one key (entry low b c r) op top lo = starts_one_at (is_later (key op) r) low b c r
      (pour_one key r op) op top lo (pour_start key r op) (starts_pour_one key r op top (low_of lo r))

  -- operations that are poured over a row
  pub starts_pour : (key : Record → Record) (c : Tree) (ops : List Record) (top : ℕ) (lo : Record)
      → starts_of test level top lo (pour key c ops) ≡ starts_of test level top lo c
  starts_pour key c [] top lo = refl
  starts_pour key c (op ∷ ops) top lo =
      starts_pour key (pour_one key c op) ops top lo ∙ starts_pour_one key c op top lo

  -- the buffer of an entry is emptied into its child
  pub starts_lowered : (key : Record → Record) (p : Place) (low : Record) (b : List Record) (c r : Tree)
      (top : ℕ) (lo : Record)
      → starts_of test level top lo (put_at p (entry low [] (pour key c b) r))
      ≡ starts_of test level top lo (put_at p (entry low b c r))
  starts_lowered key p low b c r top lo =
      starts_put p (entry low b c r) (entry low [] (pour key c b) r) refl
      (λ n k. ap (λ (m : ℕ). cond (n == level) (cond (test k) 1 0) 0 + m
      + starts_of test level n (low_of k r) r) (starts_pour key c b (n - 1) k)) top lo
