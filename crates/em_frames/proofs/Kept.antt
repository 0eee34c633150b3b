-- Blocks in memory.
use Rattle.std.proofs.Common.{◌≡◌, ℕ, zero, suc, ◌+◌, ◌-◌, ◌<◌, ◌≤◌, List, [], ◌∷◌, ◌++◌, length, get_or, set, map, replicate, refl, sym, ap, ◌∙◌, arith, vec_len}
use Rattle.std.proofs.lemmas.List.{length-map, map-set, length-set, map-append, append_assoc, length-append, get_or-replicate, length-replicate, set-get_or}
use Rattle.std.proofs.lemmas.List.Elements.{All-tail, All-head}
use Rattle.std.specs.List.{All}
use Rattle.std.specs.Global.{Vec}
use Rattle.em_record.specs.declared.record.Record.{Record}
use Rattle.em_frames.specs.Device.{DeviceState, ChangesOnly, zero_record, zero_blocks}
use Rattle.em_frames.specs.Memory.{all_blocks}

set-left : {A : Type 0} (xs ys : List A) (i : ℕ) (y : A) → i < length xs
    → set (xs ++ ys) i y ≡ set xs i y ++ ys
set-left [] ys i y h = absurd (omega arith)
set-left (x ∷ xs) ys zero y h = refl
set-left {A} (x ∷ xs) ys (suc i) y h = ap (λ (t : List A). x ∷ t) (set-left xs ys i y (omega arith))

-- a kept block is written
pub all_blocks_set : (block size : ℕ) (kept : List (Vec Record)) (at : ℕ) (v : Vec Record)
    → at < length kept
    → all_blocks block size (set kept at v) ≡ set (all_blocks block size kept) at v.items
all_blocks_set block size kept at v h =
    let items = λ (w : Vec Record). w.items in
    let l : at < length (map items kept) = rw (length-map kept items) h in
    rw (length-set kept at v, map-set items kept at v)
    (sym (set-left (map items kept) (zero_blocks block (size - length kept)) at v.items l))

-- one more block of zeros is kept
pub all_blocks_push : (block size : ℕ) (kept : List (Vec Record)) (v : Vec Record)
    → length kept < size → v.items ≡ replicate block zero_record
    → all_blocks block size (kept ++ v ∷ []) ≡ all_blocks block size kept
all_blocks_push block size kept v h e =
    let n : size - length kept ≡ suc (size - (length kept + 1)) = omega arith in
    let l : length (kept ++ v ∷ []) ≡ length kept + 1 = length-append kept (v ∷ []) in
    rw (l, map-append (λ (w : Vec Record). w.items) kept (v ∷ []), n, append_assoc, e) refl

pub all_blocks_len : (block : ℕ) (kept : List (Vec Record)) (size at : ℕ)
    → at < size → length kept ≤ size → All (λ v. vec_len v ≡ block) kept
    → length (get_or (all_blocks block size kept) at []) ≡ block
all_blocks_len block [] size at lt le h =
    let e : size - 0 ≡ size = omega arith in
    rw (e, get_or-replicate size at (replicate block zero_record) [] lt)
    (length-replicate block zero_record)
all_blocks_len block (v ∷ kept) size zero lt le h =
    let o = v.ok in
    let x : vec_len v ≡ block = All-head (λ (w : Vec Record). vec_len w ≡ block) v kept h in
    sym o.0 ∙ x
all_blocks_len block (v ∷ kept) size (suc at) lt le h =
    let e : size - suc (length kept) ≡ (size - 1) - length kept = omega arith in
    let rest = All-tail (λ (w : Vec Record). vec_len w ≡ block) v kept h in
    rw e (all_blocks_len block kept (size - 1) at (omega arith) (omega arith) rest)

-- nothing changed, so at most one block did
pub changes_none : (block : ℕ) (at : ℕ) (old new : DeviceState) → new.contents ≡ old.contents
    → length (get_or old.contents at []) ≡ block → ChangesOnly at block old new
changes_none block at old new e l = record {
  left = get_or old.contents at [];
  length_is = l;
  is = e ∙ sym (set-get_or old.contents at []);
}
