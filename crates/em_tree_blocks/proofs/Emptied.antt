-- A node whose entries' buffers were given operations by their places: what `empty_node` does.
use Rattle.std.specs.Prelude.{◌≡◌, Bool, true, false, cond, not, ℕ, zero, suc, ◌+◌, List, [], ◌∷◌}
use Rattle.std.proofs.Common.{sym, ap, ◌∙◌, refl, arith}
use Rattle.em_record.specs.declared.record.Record.{Record}
use Rattle.em_record.specs.Order.{is_below}
use Rattle.em_space.specs.Rig.{RigState}
use Rattle.em_chain.specs.Chain.{chain_items}
use Rattle.em_node.specs.declared.entry.Entry.{Entry}
use Rattle.em_node.specs.Node.{place_of}
use Rattle.em_tree_model.specs.Tree.{Tree}
use Rattle.em_tree_model.specs.Tree.Tree.{entry}
use Rattle.em_tree_model.specs.Pouring.{pour, buffers, with_buffers, place_in_row, given_out}
use Rattle.em_tree_model.proofs.Buffers.{all_poured, given_same}
use Rattle.em_tree_blocks.specs.Node.{buffer_of, linked_block}
use Rattle.em_tree_blocks.specs.Reading.{row_of, buffer_items, SameChildren}

pub row_buffers : (child : ℕ → Tree) (s : RigState) (es : List Entry)
    → buffers (row_of child s es) ≡ buffer_items s es
row_buffers child s [] = refl
row_buffers child s (e ∷ es) = ap (λ bs. chain_items s (buffer_of e) ∷ bs) (row_buffers child s es)

place_by : (z : Bool) (n m : ℕ) → n ≡ m → cond (not z) (suc n) zero ≡ cond z 0 (1 + m)
place_by true n m e = refl
place_by false n m e = omega arith

find_by : (child : ℕ → Tree) (s : RigState) (e : Entry) (es : List Entry) (q : Record)
    → place_in_row (row_of child s es) q ≡ place_of q es
    → place_in_row (row_of child s (e ∷ es)) q ≡ place_of q (e ∷ es)
find_by child s e [] q h = refl
find_by child s e (f ∷ es) q h =
    place_by (is_below q f.low) (place_in_row (row_of child s (f ∷ es)) q) (place_of q (f ∷ es)) h

-- The place of a key in the row is what `find` gives of the node.
pub row_find : (child : ℕ → Tree) (s : RigState) (es : List Entry) (q : Record)
    → place_in_row (row_of child s es) q ≡ place_of q es
row_find child s [] q = refl
row_find child s (e ∷ es) q = find_by child s e es q (row_find child s es q)

row_changed : (old new : ℕ → Tree) (s t : RigState) (es fs : List Entry) → SameChildren old new es fs
    → row_of new t fs ≡ with_buffers (row_of old s es) (buffer_items t fs)
row_changed old new s t [] [] h = refl
row_changed old new s t [] (f ∷ fs) h = absurd h
row_changed old new s t (e ∷ es) [] h = absurd h
row_changed old new s t (e ∷ es) (f ∷ fs) h =
    let xs = chain_items t (buffer_of f) in
    ap (λ k. entry k xs (new (linked_block f.child)) (row_of new t fs)) h.0
    ∙ (ap (λ c. entry e.low xs c (row_of new t fs)) h.1
    ∙ ap (λ r. entry e.low xs (old (linked_block e.child)) r) (row_changed old new s t es fs h.2))

-- If each buffer has its own operations, and then those of its place in their order, the row is the
-- old one into which the operations were poured.
pub row_emptied : (key : Record → Record) (old new : ℕ → Tree) (s t : RigState) (es fs : List Entry)
    (ops : List Record) → SameChildren old new es fs
    → buffer_items t fs ≡ given_out (λ op. place_of (key op) es) (buffer_items s es) ops
    → row_of new t fs ≡ pour key (row_of old s es) ops
row_emptied key old new s t es fs ops h e =
    let r = row_of old s es in
    row_changed old new s t es fs h
    ∙ (ap (with_buffers r) (e ∙ (ap (λ bs. given_out (λ op. place_of (key op) es) bs ops)
    (sym (row_buffers old s es))
    ∙ given_same (λ op. place_of (key op) es) (λ op. place_in_row r (key op)) (buffers r) ops
    (λ op. sym (row_find old s es (key op)))))
    ∙ sym (all_poured key r ops))
