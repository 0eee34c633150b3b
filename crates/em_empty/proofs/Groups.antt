-- Lists of a group's members.
use Rattle.std.proofs.Common.{◌≡◌, ℕ, zero, suc, ◌+◌, ◌*◌, ◌<◌, ◌≤◌, List, [], ◌∷◌, ◌++◌, length, map, get_or, refl, ap, ◌∙◌, arith, inl, inr}
use Rattle.std.specs.Prelude.{◌≢◌}
use Rattle.em_record.specs.declared.record.Record.{Record}
use Rattle.em_space.specs.Rig.{RigState}
use Rattle.em_space.proofs.Lists.{flat}
use Rattle.em_chain.specs.Chain.{chain_blocks, payload_in}
use Rattle.em_chain.specs.Writers.{Member, account_of, blocks_of, filled_of, no_member, touched_of}
use Rattle.em_chain.proofs.WritersMembers.{filled_same}
use Rattle.em_tree_model.specs.Pouring.{add_at}
use Rattle.em_node.specs.declared.entry.Entry.{Entry}
use Rattle.em_tree_blocks.specs.Node.{buffer_of}
use Rattle.em_empty.specs.Dealt.{chain_members}
use Rattle.em_empty.specs.Node.{buffer_blocks, buffer_count}

-- What each member is seen as, if it is seen the same.
pub seen_same : {T : Type 0} (f k : Member → T) (xs ys : List Member) → length ys ≡ length xs
    → ((j : ℕ) → j < length xs → k (get_or ys j no_member) ≡ f (get_or xs j no_member))
    → map k ys ≡ map f xs
seen_same f k [] [] n h = refl
seen_same f k [] (y ∷ ys) n h = absurd (omega arith)
seen_same f k (x ∷ xs) [] n h = absurd (omega arith)
seen_same {T} f k (x ∷ xs) (y ∷ ys) n h =
    ap (λ (l : List T). k y ∷ l)
    (seen_same f k xs ys (omega arith) (λ j l. h (suc j) (omega arith)))
    ∙ ap (λ (z : T). z ∷ map f xs) (h zero (omega arith))

-- One record more at the end of one member's list.
pub lists_add : (f k : Member → List Record) (xs ys : List Member) (i : ℕ) (x : Record)
    → length ys ≡ length xs → i < length xs
    → k (get_or ys i no_member) ≡ f (get_or xs i no_member) ++ x ∷ []
    → ((j : ℕ) → j ≢ i → j < length xs → k (get_or ys j no_member) ≡ f (get_or xs j no_member))
    → map k ys ≡ add_at (map f xs) i x
lists_add f k [] ys i x n lt e h = absurd (omega arith)
lists_add f k (y ∷ xs) [] i x n lt e h = absurd (omega arith)
lists_add f k (y ∷ xs) (z ∷ ys) zero x n lt e h =
    ap (λ (l : List Record). l ∷ map k ys) e
    ∙ ap (λ (l : List (List Record)). (f y ++ x ∷ []) ∷ l)
    (seen_same f k xs ys (omega arith) (λ j l. h (suc j) (λ q. absurd (omega arith)) (omega arith)))
lists_add f k (y ∷ xs) (z ∷ ys) (suc i) x n lt e h =
    ap (λ (l : List Record). l ∷ map k ys) (h zero (λ q. absurd (omega arith)) (omega arith))
    ∙ ap (λ (l : List (List Record)). f y ∷ l)
    (lists_add f k xs ys i x (omega arith) (omega arith) e
    (λ j q l. h (suc j) (λ p. q (omega arith)) (omega arith)))

-- The same members in another state of the same shape went through as many places.
pub filled_all : (s t : RigState) (xs : List Member) → payload_in t ≡ payload_in s
    → filled_of t xs ≡ filled_of s xs
filled_all s t [] e = refl
filled_all s t (x ∷ xs) e =
    let a = filled_same s t x e in
    let b = filled_all s t xs e in
    omega arith

-- A list that has one more than another.
pub list_push : (xs ys : List Member) (x : Member) → length ys ≡ length xs + 1
    → ((j : ℕ) → j < length xs → get_or ys j no_member ≡ get_or xs j no_member)
    → get_or ys (length xs) no_member ≡ x → ys ≡ xs ++ x ∷ []
list_push [] [] x n h e = absurd (omega arith)
list_push [] (y ∷ []) x n h e = ap (λ (z : Member). z ∷ []) e
list_push [] (y ∷ z ∷ ys) x n h e = absurd (omega arith)
list_push (w ∷ xs) [] x n h e = absurd (omega arith)
list_push (w ∷ xs) (y ∷ ys) x n h e =
    ap (λ (z : Member). z ∷ ys) (h zero (omega arith))
    ∙ ap (λ (l : List Member). w ∷ l)
    (list_push xs ys x (omega arith) (λ j l. h (suc j) (omega arith)) e)

-- How much of their accounts is paid, stored and owed.
pub account_is : (xs : List Member) → (account_of xs).paid ≡ 2 * (account_of xs).blocks +
    (account_of xs).unstored
account_is [] = refl
account_is (inl c ∷ xs) = let h = account_is xs in omega arith
account_is (inr w ∷ xs) = let h = account_is xs in omega arith

pub owed_none : (xs : List Member) → (account_of xs).owed ≡ 0
owed_none [] = refl
owed_none (inl c ∷ xs) = let h = owed_none xs in omega arith
owed_none (inr w ∷ xs) = let h = owed_none xs in omega arith

pub unstored_few : (xs : List Member) → (account_of xs).unstored ≤ touched_of xs
unstored_few [] = omega arith
unstored_few (inl c ∷ xs) = let h = unstored_few xs in omega arith
unstored_few (inr w ∷ xs) = let h = unstored_few xs in omega arith

pub touched_few : (xs : List Member) → touched_of xs ≤ length xs
touched_few [] = omega arith
touched_few (inl c ∷ xs) = let h = touched_few xs in omega arith
touched_few (inr w ∷ xs) = let h = touched_few xs in omega arith

-- The same of buffers to which nothing was appended.
pub chains_len : (es : List Entry) → length (chain_members es) ≡ length es
chains_len [] = refl
chains_len (e ∷ es) = ap suc (chains_len es)

pub chains_untouched : (es : List Entry) → touched_of (chain_members es) ≡ 0
chains_untouched [] = refl
chains_untouched (e ∷ es) = let h = chains_untouched es in omega arith

pub chains_count : (es : List Entry) → (account_of (chain_members es)).blocks ≡ buffer_count es
chains_count [] = refl
chains_count (e ∷ es) = let h = chains_count es in omega arith

pub chains_unstored : (es : List Entry) → (account_of (chain_members es)).unstored ≡ 0
chains_unstored [] = refl
chains_unstored (e ∷ es) = let h = chains_unstored es in omega arith

pub chains_flat : (s : RigState) (es : List Entry)
    → flat (blocks_of s (chain_members es)) ≡ buffer_blocks s es
chains_flat s [] = refl
chains_flat s (e ∷ es) =
    ap (λ (l : List ℕ). chain_blocks s (buffer_of e) ++ l) (chains_flat s es)

pub chains_push : (es : List Entry) (e : Entry)
    → chain_members (es ++ e ∷ []) ≡ chain_members es ++ inl (buffer_of e) ∷ []
chains_push [] e = refl
chains_push (f ∷ es) e = ap (λ (l : List Member). inl (buffer_of f) ∷ l) (chains_push es e)
