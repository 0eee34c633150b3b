-- The operations and the record of a key are on its path.
use Rattle.std.specs.Prelude.{◌≡◌, true, false, not, cond, List, ◌++◌, Option, Some}
use Rattle.std.proofs.Common.{sym, ap, ◌∙◌, refl, ⊎_elim}
use Rattle.std.proofs.lemmas.List.{append-nil}
use Rattle.std.proofs.lemmas.Bool.{cases_Bool}
use Rattle.em_record.specs.declared.record.Record.{Record}
use Rattle.em_record.specs.Order.{is_below}
use Rattle.em_settle.specs.declared.step.Step.{Step}
use Rattle.em_settle.specs.States.{stored_after}
use Rattle.em_settle.specs.Keys.{of_key, record_at}
use Rattle.em_settle.proofs.Keys.{of_key_append}
use Rattle.em_settle.proofs.States.{left_at}
use Rattle.em_tree_model.specs.Tree.{Tree, stored_in, waiting_in, stored_at, waiting_at, is_later}
use Rattle.em_tree_model.specs.Tree.Tree.{leaf, end, entry}
use Rattle.em_tree_model.specs.Ranges.{InRange, AllIn, next_low, low_of, Follow, IsTree}
use Rattle.em_tree_model.specs.Meaning.{tree_contents, settled_contents}
use Rattle.em_tree_model.proofs.Ranges.{none_under, none_over, no_record_under, no_record_over, record_append, record_first, waiting_range, stored_range}

module _ (key : Record → Record) where
  -- by the entries after this one
  waiting_by : (b : List Record) (c r : Tree) (lo : Record) (hi : Option Record) (q : Record)
      → Follow lo hi r → AllIn key lo (next_low hi r) b → IsTree key c lo (next_low hi r)
      → IsTree key r (low_of lo r) hi → InRange lo hi q
      → (InRange lo (next_low hi r) q → of_key key q (waiting_in c) ≡ waiting_at key c q)
      → (InRange (low_of lo r) hi q → of_key key q (waiting_in r) ≡ waiting_at key r q)
      → of_key key q ((waiting_in c ++ b) ++ waiting_in r)
      ≡ cond (is_later q r) (waiting_at key r q) (waiting_at key c q ++ of_key key q b)
  waiting_by b c (leaf xs) lo hi q f a ic ir h hc hr = absurd f
  waiting_by b c end lo hi q f a ic ir h hc hr =
      ap (of_key key q) (append-nil (waiting_in c ++ b)) ∙ (of_key_append key q (waiting_in c) b
      ∙ ap (λ zs. zs ++ of_key key q b) (hc h))
  waiting_by b c (entry low b2 c2 r) lo hi q f a ic ir h hc hr =
      let r2 = entry low b2 c2 r in
      let parts : of_key key q ((waiting_in c ++ b) ++ waiting_in r2)
      ≡ (of_key key q (waiting_in c) ++ of_key key q b) ++ of_key key q (waiting_in r2) =
      of_key_append key q (waiting_in c ++ b) (waiting_in r2)
      ∙ ap (λ zs. zs ++ of_key key q (waiting_in r2)) (of_key_append key q (waiting_in c) b) in
      parts ∙ ⊎_elim
      (λ (t : is_below q low ≡ true).
      ap (λ zs. (of_key key q (waiting_in c) ++ of_key key q b) ++ zs)
      (none_over key low hi q (waiting_in r2) (waiting_range key r2 low hi ir) t)
      ∙ (append-nil (of_key key q (waiting_in c) ++ of_key key q b)
      ∙ (ap (λ zs. zs ++ of_key key q b) (hc (record { low = h.low; high = t }))
      ∙ ap (λ z. cond (not z) (waiting_at key r2 q) (waiting_at key c q ++ of_key key q b)) (sym t))))
      (λ (g : is_below q low ≡ false).
      ap (λ zs. (zs ++ of_key key q b) ++ of_key key q (waiting_in r2))
      (none_under key lo low q (waiting_in c) (waiting_range key c lo (Some low) ic) g)
      ∙ (ap (λ zs. zs ++ of_key key q (waiting_in r2)) (none_under key lo low q b a g)
      ∙ (hr (record { low = g; high = h.high })
      ∙ ap (λ z. cond (not z) (waiting_at key r2 q) (waiting_at key c q ++ of_key key q b)) (sym g))))
      (cases_Bool (is_below q low))

  -- The operations of a key that wait anywhere are those of its path, nearer the leaf first.
  pub on_path : (t : Tree) (lo : Record) (hi : Option Record) (q : Record) → IsTree key t lo hi
      → InRange lo hi q → of_key key q (waiting_in t) ≡ waiting_at key t q
  on_path (leaf xs) lo hi q i h = refl
  on_path end lo hi q i h = refl
  on_path (entry low b c r) lo hi q i h = waiting_by b c r lo hi q i.3 i.1 i.2 i.4 h
      (λ k. on_path c lo (next_low hi r) q i.2 k) (λ k. on_path r (low_of lo r) hi q i.4 k)

  stored_by : (c r : Tree) (lo : Record) (hi : Option Record) (q : Record)
      → Follow lo hi r → IsTree key c lo (next_low hi r) → IsTree key r (low_of lo r) hi
      → InRange lo hi q
      → (InRange lo (next_low hi r) q → record_at key (stored_in c) q ≡ stored_at key c q)
      → (InRange (low_of lo r) hi q → record_at key (stored_in r) q ≡ stored_at key r q)
      → record_at key (stored_in c ++ stored_in r) q
      ≡ cond (is_later q r) (stored_at key r q) (stored_at key c q)
  stored_by c (leaf xs) lo hi q f ic ir h hc hr = absurd f
  stored_by c end lo hi q f ic ir h hc hr =
      ap (λ zs. record_at key zs q) (append-nil (stored_in c)) ∙ hc h
  stored_by c (entry low b2 c2 r) lo hi q f ic ir h hc hr =
      let r2 = entry low b2 c2 r in ⊎_elim
      (λ (t : is_below q low ≡ true).
      record_first key (stored_in c) (stored_in r2) q
      (no_record_over key low hi q (stored_in r2) (stored_range key r2 low hi ir) t)
      ∙ (hc (record { low = h.low; high = t })
      ∙ ap (λ z. cond (not z) (stored_at key r2 q) (stored_at key c q)) (sym t)))
      (λ (g : is_below q low ≡ false).
      record_append key (stored_in c) (stored_in r2) q
      (no_record_under key lo low q (stored_in c) (stored_range key c lo (Some low) ic) g)
      ∙ (hr (record { low = g; high = h.high })
      ∙ ap (λ z. cond (not z) (stored_at key r2 q) (stored_at key c q)) (sym g)))
      (cases_Bool (is_below q low))

  -- The stored record of a key is that in the leaf of its path.
  pub in_leaf : (t : Tree) (lo : Record) (hi : Option Record) (q : Record) → IsTree key t lo hi
      → InRange lo hi q → record_at key (stored_in t) q ≡ stored_at key t q
  in_leaf (leaf xs) lo hi q i h = refl
  in_leaf end lo hi q i h = refl
  in_leaf (entry low b c r) lo hi q i h = stored_by c r lo hi q i.3 i.2 i.4 h
      (λ k. in_leaf c lo (next_low hi r) q i.2 k) (λ k. in_leaf r (low_of lo r) hi q i.4 k)

  -- Contents by the path are those by the two lists.
  pub contents_by_path : (step : Option Record → Record → Step) (t : Tree) (lo : Record)
      (hi : Option Record) (q : Record) → IsTree key t lo hi → InRange lo hi q
      → settled_contents key step t q ≡ tree_contents key step t q
  contents_by_path step t lo hi q i h =
      left_at key step (record_at key (stored_in t)) (waiting_in t) q
      ∙ (ap (λ s. stored_after step s (of_key key q (waiting_in t))) (in_leaf t lo hi q i h)
      ∙ ap (stored_after step (stored_at key t q)) (on_path t lo hi q i h))
