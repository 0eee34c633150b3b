-- The entry that a key's path takes in a node, as the row that is read of the node has it.
use Rattle.std.proofs.Common.{◌≡◌, Bool, true, false, not, cond, ℕ, zero, suc, ◌+◌, ◌<◌, List, [], ◌∷◌, drop, get_or, length, refl, ap, ◌∙◌, arith}
use Rattle.std.specs.Prelude.{Option, None}
use Rattle.em_record.specs.Order.{is_below}
use Rattle.em_record.specs.declared.record.Record.{Record}
use Rattle.em_space.specs.Rig.{RigState}
use Rattle.em_chain.specs.Chain.{chain_items}
use Rattle.em_node.specs.declared.entry.Entry.{Entry}
use Rattle.em_node.specs.Node.{no_entry, place_of}
use Rattle.em_tree_model.specs.Ranges.{Under}
use Rattle.em_tree_model.specs.Tree.{Tree}
use Rattle.em_tree_model.proofs.Ranges.{to_below}
use Rattle.em_tree_blocks.specs.Node.{buffer_of}
use Rattle.em_tree_blocks.specs.Paths.{child_at}
use Rattle.em_tree_blocks.specs.Reading.{row_of}
use Rattle.em_tree_walk.specs.PathSplit.{row_length}
use Rattle.em_tree_walk.specs.SplitPaths.{LowsFit, buffer_toward, child_toward}
use Rattle.em_tree_walk.proofs.LowKeys.{JoinsAt}
use Rattle.em_tree_walk.specs.Descents.{end_at, end_before}
use Rattle.em_tree_walk.specs.Inserted.{CanFollow}
use Rattle.em_tree_walk.specs.Ways.{entry_start}

-- the entries of a row are those of the node
pub row_count : (child : ℕ → Tree) (s : RigState) (es : List Entry)
    → row_length (row_of child s es) ≡ length es
row_count child s [] = refl
row_count child s (e ∷ es) = ap suc (row_count child s es)

one_on : (n : ℕ) → suc n ≡ 1 + n
one_on n = omega arith

-- further on in the row, or here
turn_by : {A : Type 0} (b : Bool) (x c : A) (f : ℕ → A) (n : ℕ) → c ≡ f 0 → x ≡ f (suc n)
    → cond (not b) x c ≡ f (cond b 0 (1 + n))
turn_by true x c f n e h = e
turn_by false x c f n e h = h ∙ ap f (one_on n)

-- the child on a key's path
pub child_found : (child : ℕ → Tree) (s : RigState) (es : List Entry) (q : Record) → 0 < length es
    → child_toward q (row_of child s es) ≡ child (child_at (place_of q es) es)
child_found child s [] q some = absurd (omega arith)
child_found child s (e ∷ []) q some = refl
child_found child s (e ∷ f ∷ fs) q some =
    let es = e ∷ f ∷ fs in
    turn_by (is_below q f.low) (child_toward q (row_of child s (f ∷ fs))) (child (child_at 0 es))
    (λ i. child (child_at i es)) (place_of q (f ∷ fs)) refl
    (child_found child s (f ∷ fs) q (omega arith))

-- and the buffer over it
pub buffer_found : (child : ℕ → Tree) (s : RigState) (es : List Entry) (q : Record) → 0 < length es
    → buffer_toward q (row_of child s es) ≡ chain_items s (buffer_of (get_or es (place_of q es) no_entry))
buffer_found child s [] q some = absurd (omega arith)
buffer_found child s (e ∷ []) q some = refl
buffer_found child s (e ∷ f ∷ fs) q some =
    let es = e ∷ f ∷ fs in
    turn_by (is_below q f.low) (buffer_toward q (row_of child s (f ∷ fs)))
    (chain_items s (buffer_of (get_or es 0 no_entry)))
    (λ i. chain_items s (buffer_of (get_or es i no_entry))) (place_of q (f ∷ fs)) refl
    (buffer_found child s (f ∷ fs) q (omega arith))

-- The low keys of the child at a place, in the range of its entry.
pub record LowsAt (child : ℕ → Tree) (es : List Entry) (i : ℕ) (lo : Record) (hi : Option Record)
    : Type 0 where
  pub start : is_below (entry_start lo es i) (get_or es i no_entry).low ≡ false
  pub inner : LowsFit (child (child_at i es)) (entry_start lo es i) (end_at es i hi)

pub lows_at : (child : ℕ → Tree) (s : RigState) (es : List Entry) (i : ℕ) (lo : Record)
    (hi : Option Record) → i < length es → LowsFit (row_of child s es) lo hi
    → LowsAt child es i lo hi
lows_at child s [] i lo hi h f = absurd (omega arith)
lows_at child s (e ∷ []) zero lo hi h f = record { start = f.0; inner = f.1 }
lows_at child s (e ∷ []) (suc i) lo hi h f = absurd (omega arith)
lows_at child s (e ∷ g ∷ es) zero lo hi h f = record { start = f.0; inner = f.1 }
lows_at child s (e ∷ g ∷ es) (suc i) lo hi h f =
    let j = lows_at child s (g ∷ es) i g.low hi (omega arith) f.3 in
    record { start = j.start; inner = j.inner }

end_none : (es : List Entry) (hi : Option Record) (k : Record) → Under (end_before hi es) k
    → Under (end_before None es) k
end_none [] hi k u = tt
end_none (e ∷ es) hi k u = u

-- If that child is split, the entry for its upper part can follow.
pub part_follows : (child : ℕ → Tree) (es : List Entry) (i : ℕ) (lower upper : Tree)
    (k lo : Record) (hi : Option Record) → LowsAt child es i lo hi
    → JoinsAt lower upper k (entry_start lo es i) (end_at es i hi) → CanFollow i k es
part_follows child es i lower upper k lo hi a j = record {
  over = to_below (get_or es i no_entry).low (entry_start lo es i) k a.start j.over;
  before = end_none (drop (suc i) es) hi k j.within;
}
