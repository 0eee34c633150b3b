-- Laws of the records of leaves.
use Rattle.std.proofs.Common.{◌≡◌, ℕ, suc, ◌+◌, List, [], ◌∷◌, ◌++◌, length, refl, sym, ap, ◌∙◌, arith, append_assoc}
use Rattle.std.proofs.lemmas.List.{append-nil, length-append}
use Rattle.em_record.specs.declared.record.Record.{Record}
use Rattle.em_space.specs.Rig.{RigState}
use Rattle.em_node.specs.declared.entry.Entry.{Entry}
use Rattle.em_tree_model.specs.Tree.{Tree, stored_in}
use Rattle.em_tree_model.specs.Tree.Tree.{leaf, end, entry}
use Rattle.em_tree_cost.specs.Fusing.{LeavesFrom}
use Rattle.em_tree_cost.specs.Outline.{excess_of, leaves_of}
use Rattle.em_tree_outline.specs.Outline.{outline_of}
use Rattle.em_tree_unload.specs.Unloading.{leaf_rows}
use Rattle.em_tree_trim.specs.Rows.{EachFrom, EachUpTo, chains_of, excess_in, parts_at, records_in, rows_in}

-- Two lists of leaves, one after the other.
pub records_append : (xs ys : List (List Record)) → records_in (xs ++ ys) ≡ records_in xs ++ records_in ys
records_append [] ys = refl
records_append (x ∷ xs) ys = ap (λ (zs : List Record). x ++ zs) (records_append xs ys)
    ∙ sym (append_assoc x (records_in xs) (records_in ys))

pub excess_append : (half : ℕ) (xs ys : List (List Record))
    → excess_in half (xs ++ ys) ≡ excess_in half xs + excess_in half ys
excess_append half [] ys = omega arith
excess_append half (x ∷ xs) ys = let h = excess_append half xs ys in omega (arith, h)

pub chains_append : (p : ℕ) (xs ys : List (List Record))
    → chains_of p (xs ++ ys) ≡ chains_of p xs + chains_of p ys
chains_append p [] ys = omega arith
chains_append p (x ∷ xs) ys = let h = chains_append p xs ys in omega (arith, h)

pub from_append : (n : ℕ) (xs ys : List (List Record)) → EachFrom n xs → EachFrom n ys → EachFrom n (xs ++ ys)
from_append n [] ys a b = b
from_append n (x ∷ xs) ys a b = (a.0, from_append n xs ys a.1 b)

pub from_first : (n : ℕ) (xs ys : List (List Record)) → EachFrom n (xs ++ ys) → EachFrom n xs
from_first n [] ys a = tt
from_first n (x ∷ xs) ys a = (a.0, from_first n xs ys a.1)

pub from_last : (n : ℕ) (xs ys : List (List Record)) → EachFrom n (xs ++ ys) → EachFrom n ys
from_last n [] ys a = a
from_last n (x ∷ xs) ys a = from_last n xs ys a.1

pub upto_append : (n : ℕ) (xs ys : List (List Record)) → EachUpTo n xs → EachUpTo n ys → EachUpTo n (xs ++ ys)
upto_append n [] ys a b = b
upto_append n (x ∷ xs) ys a b = (a.0, upto_append n xs ys a.1 b)

pub rows_append : (ps qs : List (Record × List Record)) → rows_in (ps ++ qs) ≡ rows_in ps ++ rows_in qs
rows_append [] qs = refl
rows_append (p ∷ ps) qs = ap (λ (rs : List (List Record)). p.1 ∷ rs) (rows_append ps qs)

pub parts_append : (s : RigState) (xs ys : List Entry) → parts_at s (xs ++ ys) ≡ parts_at s xs ++ parts_at s ys
parts_append s [] ys = refl
parts_append s (e ∷ xs) ys =
    ap (λ (ps : List (Record × List Record)). parts_at s (e ∷ []) ++ ps) (parts_append s xs ys)

pub parts_length : (s : RigState) (es : List Entry) → length (parts_at s es) ≡ length es
parts_length s [] = refl
parts_length s (e ∷ es) = ap suc (parts_length s es)

pub rows_length : (ps : List (Record × List Record)) → length (rows_in ps) ≡ length ps
rows_length [] = refl
rows_length (p ∷ ps) = ap suc (rows_length ps)

-- What a tree is by the records of its leaves: all that is stored,
pub stored_rows : (t : Tree) → stored_in t ≡ records_in (leaf_rows t)
stored_rows (leaf xs) = sym (append-nil xs)
stored_rows end = refl
stored_rows (entry low b c r) = ap (λ (zs : List Record). zs ++ stored_in r) (stored_rows c)
    ∙ (ap (λ (zs : List Record). records_in (leaf_rows c) ++ zs) (stored_rows r)
    ∙ sym (records_append (leaf_rows c) (leaf_rows r)))

-- the leaves,
pub leaves_rows : (t : Tree) → leaves_of (outline_of t) ≡ length (leaf_rows t)
leaves_rows (leaf xs) = refl
leaves_rows end = refl
leaves_rows (entry low b c r) =
    let h = leaves_rows c in
    let i = leaves_rows r in
    let n = length-append (leaf_rows c) (leaf_rows r) in
    omega (arith, h, i, n)

-- the excess,
pub excess_rows : (half : ℕ) (t : Tree) → excess_of half (outline_of t) ≡ excess_in half (leaf_rows t)
excess_rows half (leaf xs) = omega arith
excess_rows half end = refl
excess_rows half (entry low b c r) =
    let h = excess_rows half c in
    let i = excess_rows half r in
    let n = excess_append half (leaf_rows c) (leaf_rows r) in
    omega (arith, h, i, n)

-- and how many records each leaf has.
pub leaves_from : (n : ℕ) (t : Tree) → EachFrom n (leaf_rows t) → LeavesFrom n (outline_of t)
leaves_from n (leaf xs) a = a.0
leaves_from n end a = tt
leaves_from n (entry low b c r) a = (
  leaves_from n c (from_first n (leaf_rows c) (leaf_rows r) a),
  leaves_from n r (from_last n (leaf_rows c) (leaf_rows r) a),
)
