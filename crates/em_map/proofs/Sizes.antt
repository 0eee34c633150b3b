-- The size of a batch's commands with one command more, by what its load had.
use Rattle.std.specs.Prelude.{◌≡◌, Bool, true, false, ℕ, ◌+◌, ◌<◌, ◌≤◌, List, [], ◌∷◌, ◌++◌, length}
use Rattle.std.proofs.Common.{sym, ap, refl, ◌∙◌, arith}
use Rattle.std.proofs.lemmas.List.{append_assoc, length-append}
use Rattle.em_record.specs.declared.record.Record.{Record}
use Rattle.em_model.specs.declared.command.Command.{Command}
use Rattle.em_model.specs.declared.command.Command.TheVariants.{Sync}
use Rattle.em_map.specs.Commands.{map_op}
use Rattle.em_map.specs.Early.{gathered_after, joined_size, left_of}
use Rattle.em_map.proofs.Early.{after_full, after_more, early_next, held_sync, left_one}

-- Of all commands and one more, if these operations were held.
pub size_plus : (early : Bool) (load : ℕ) (cs : List Command) (c : Command) (op : Record) (g : List Record) (size : ℕ)
    → map_op (length cs + 1) c ≡ op ∷ [] → g ≡ gathered_after early load cs → size + left_of g ≡ joined_size early load cs
    → joined_size early load (cs ++ c ∷ []) ≡ size + left_of (g ++ op ∷ [])
size_plus false load cs c op g size is held e =
    let one = length-append cs (c ∷ []) in
    let none : left_of g ≡ 0 = ap left_of held in
    let left : left_of (g ++ op ∷ []) ≡ 1 = ap (λ (xs : List Record). left_of (xs ++ op ∷ [])) held ∙ left_one op in
    omega (arith, one, none, left, e)
size_plus true load cs c op g size is held e =
    let next = early_next load cs c op is in
    let old = ap left_of held in
    let new = ap (λ (xs : List Record). left_of (xs ++ op ∷ [])) held in
    omega (arith, next, old, new, e)

-- What is held then: none if the load is full,
pub held_plus_full : (early : Bool) (load : ℕ) (cs : List Command) (c : Command) (op : Record) (g : List Record)
    → map_op (length cs + 1) c ≡ op ∷ [] → g ≡ gathered_after early load cs → (early ≡ true → load ≤ length g + 1)
    → [] ≡ gathered_after early load (cs ++ c ∷ [])
held_plus_full false load cs c op g is held full = refl
held_plus_full true load cs c op g is held full =
    let long = ap (λ (xs : List Record). length xs) held in
    sym (after_full load cs c op is (let f = full refl in omega (arith, f, long)))

-- and one more if it isn't.
pub held_plus_more : (early : Bool) (load : ℕ) (cs : List Command) (c : Command) (op : Record) (g : List Record)
    → map_op (length cs + 1) c ≡ op ∷ [] → g ≡ gathered_after early load cs → early ≡ true → length g + 1 < load
    → g ++ op ∷ [] ≡ gathered_after early load (cs ++ c ∷ [])
held_plus_more false load cs c op g is held early few = absurd (cc)
held_plus_more true load cs c op g is held early few =
    let long = ap (λ (xs : List Record). length xs) held in
    ap (λ (xs : List Record). xs ++ op ∷ []) held ∙ sym (after_more load cs c op is (omega (arith, few, long)))

-- After a sync none is held.
pub held_after_sync : (early : Bool) (load : ℕ) (cs : List Command) → [] ≡ gathered_after early load (cs ++ Sync ∷ [])
held_after_sync false load cs = refl
held_after_sync true load cs = sym (held_sync load cs)

-- the commands before the last one, in two lots
pub lots : (before cs : List Command) (c : Command) → before ++ (cs ++ c ∷ []) ≡ (before ++ cs) ++ c ∷ []
lots before cs c = sym (append_assoc before cs (c ∷ []))
