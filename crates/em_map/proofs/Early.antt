-- The size of a batch whose adds are joined early: how it changes with each command, and what bounds it.
use Rattle.std.specs.Prelude.{ℕ, ◌≡◌, ◌+◌, ◌<◌, ◌≤◌, Bool, true, false, cond, nat_lt, not, ◌&&◌, List, [], ◌∷◌, ◌++◌, length}
use Rattle.std.proofs.Common.{◌⊎◌, sym, ap, ◌∙◌, refl, ⊎_elim, inl, inr, arith}
use Rattle.std.proofs.lemmas.Bool.{cases_Bool, true≢false, cond-true, cond-false, ltb-true, lt-ltb, le-ltb}
use Rattle.std.proofs.lemmas.List.{append-nil, length-append}
use Rattle.em_record.specs.declared.record.Record.{Record}
use Rattle.em_model.specs.Map.{Combiner, Map, map_step, no_keys, state_after}
use Rattle.em_model.specs.MapAnswers.{answers_after, answers_of}
use Rattle.em_model.specs.declared.command.Command.{Command}
use Rattle.em_model.specs.declared.command.Command.TheVariants.{Put, Add, Del, Get, Sync}
use Rattle.em_model.proofs.AnswerLaws.{answers_few, answers_of-cons}
use Rattle.em_settle.specs.Keys.{has_key, of_key}
use Rattle.em_settle.specs.Map.{map_key_of}
use Rattle.em_settle.proofs.Keys.{first_of_key, key_at, key_is, none_of_key, of_key_append, other_key, own_key}
use Rattle.em_combine.specs.Joining.{begins_with_add, is_add, others}
use Rattle.em_map.specs.Commands.{map_op}
use Rattle.em_map.specs.Early.{closed_next, early_from, early_size, gathered_after, gathered_from, gathered_next, joined_size, left_of, with_next}

-- 1 if an operation stays when adds are joined, else 0, by whether it is an add, and the next of its key is one
abbrev stays : (is next : Bool) → ℕ
stays is next = cond (is && not next) 1 0 + cond is 0 1

-- the next operation of its key is an add
abbrev meets_add : Record → List Record → Bool
meets_add x later = begins_with_add (of_key map_key_of (map_key_of x) later)

-- the last of a list is an add
abbrev pub ends_with_add : List Record → Bool
ends_with_add [] = false
ends_with_add (x ∷ []) = is_add x
ends_with_add (x ∷ y ∷ ys) = ends_with_add (y ∷ ys)

-- an operation that follows a load goes on with a run there: it is an add, and the last of its key is one
abbrev pub goes_on : List Record → Record → Bool
goes_on xs z = is_add z && ends_with_add (of_key map_key_of (map_key_of z) xs)

one_most : (b : Bool) → cond b 1 0 ≤ 1
one_most true = omega arith
one_most false = omega arith

none_left : (b : Bool) → ◌≡◌ {A = ℕ} (cond (b && false) 1 0) 0
none_left true = refl
none_left false = refl

stays_few : (a f : Bool) → stays a f ≤ 1
stays_few true true = omega arith
stays_few true false = omega arith
stays_few false f = omega arith

-- with no add after it, it stays
stays_last : (a : Bool) → stays a false ≡ 1
stays_last true = refl
stays_last false = refl

-- Joining leaves no more operations than there are.
pub left_few : (xs : List Record) → left_of xs ≤ length xs
left_few [] = omega arith
left_few (x ∷ xs) =
    let own = stays_few (is_add x) (meets_add x xs) in
    let rest = left_few xs in
    omega arith

-- It leaves one of one.
pub left_one : (z : Record) → left_of (z ∷ []) ≡ 1
left_one z = let own = stays_last (is_add z) in omega arith

-- of two operations of one key, the first goes if both are adds
two_ends : (a b : Bool) → stays a b + cond (b && a) 1 0 ≡ stays a false + cond (b && false) 1 0
two_ends true true = refl
two_ends true false = refl
two_ends false true = refl
two_ends false false = refl

-- the same if some of their key stand between them: then nothing changes
end_moves : (x z : Record) (ws : List Record)
    → stays (is_add x) (begins_with_add (ws ++ z ∷ [])) + cond (is_add z && ends_with_add (x ∷ ws)) 1 0
    ≡ stays (is_add x) (begins_with_add ws) + cond (is_add z && ends_with_add ws) 1 0
end_moves x z [] = two_ends (is_add x) (is_add z)
end_moves x z (w ∷ ws) = refl

-- One operation more at the end leaves one more, but for an add that goes on with a run: that leaves as many.
pub left_change : (xs : List Record) (z : Record)
    → left_of (xs ++ z ∷ []) + cond (goes_on xs z) 1 0 ≡ left_of xs + 1
left_change [] z =
    let own = left_one z in
    let none = none_left (is_add z) in
    omega arith
left_change (x ∷ xs) z =
    let q = map_key_of z in
    let ws = of_key map_key_of q xs in
    let rest = left_change xs z in
    ⊎_elim
    (λ (t : has_key map_key_of q x ≡ true).
    let key : map_key_of x ≡ q = key_is map_key_of q x t in
    let now : meets_add x xs ≡ begins_with_add ws =
    ap (λ (k : Record). begins_with_add (of_key map_key_of k xs)) key in
    let longer : of_key map_key_of q (xs ++ z ∷ []) ≡ ws ++ z ∷ [] =
    of_key_append map_key_of q xs (z ∷ [])
    ∙ ap (λ (zs : List Record). ws ++ zs) (first_of_key map_key_of q z [] (own_key map_key_of z)) in
    let then : meets_add x (xs ++ z ∷ []) ≡ begins_with_add (ws ++ z ∷ []) =
    ap (λ (k : Record). begins_with_add (of_key map_key_of k (xs ++ z ∷ []))) key
    ∙ ap begins_with_add longer in
    let before = ap (stays (is_add x)) now in
    let after = ap (stays (is_add x)) then in
    let ends : ◌≡◌ {A = ℕ} (cond (goes_on (x ∷ xs) z) 1 0) (cond (is_add z && ends_with_add (x ∷ ws)) 1 0) =
    ap (λ (zs : List Record). cond {A = ℕ} (is_add z && ends_with_add zs) 1 0) (first_of_key map_key_of q x xs t) in
    let moves = end_moves x z ws in
    omega arith)
    (λ (f : has_key map_key_of q x ≡ false).
    let apart : map_key_of z ≡ map_key_of x → ⊥ = λ e.
    true≢false (sym (key_at map_key_of q x (sym e)) ∙ f) in
    let longer : of_key map_key_of (map_key_of x) (xs ++ z ∷ []) ≡ of_key map_key_of (map_key_of x) xs ++ [] =
    of_key_append map_key_of (map_key_of x) xs (z ∷ [])
    ∙ ap (λ (zs : List Record). of_key map_key_of (map_key_of x) xs ++ zs)
    (none_of_key map_key_of (map_key_of x) z [] (other_key map_key_of (map_key_of x) z apart)) in
    let after = ap (λ (zs : List Record). stays (is_add x) (begins_with_add zs))
    (longer ∙ append-nil (of_key map_key_of (map_key_of x) xs)) in
    let ends : ◌≡◌ {A = ℕ} (cond (goes_on (x ∷ xs) z) 1 0) (cond (goes_on xs z) 1 0) =
    ap (λ (zs : List Record). cond {A = ℕ} (is_add z && ends_with_add zs) 1 0) (none_of_key map_key_of q x xs f) in
    omega arith)
    (cases_Bool (has_key map_key_of q x))

-- One operation more leaves as many, or one more.
pub left_next : (xs : List Record) (z : Record)
    → (left_of xs ≤ left_of (xs ++ z ∷ [])) × (left_of (xs ++ z ∷ []) ≤ left_of xs + 1)
left_next xs z =
    let change = left_change xs z in
    let most = one_most (goes_on xs z) in
    (omega arith, omega arith)

-- It leaves some.
pub left_some : (xs : List Record) (z : Record) → left_of (xs ++ z ∷ []) ≡ 0 → ⊥
left_some [] z e = let own = left_one z in absurd (omega arith)
left_some (x ∷ xs) z e =
    let rest : left_of (xs ++ z ∷ []) ≡ 0 = omega arith in
    left_some xs z rest

-- the others of two lists together
others_append : (xs ys : List Record) → others (xs ++ ys) ≡ others xs + others ys
others_append [] ys = omega arith
others_append (x ∷ xs) ys = let rest = others_append xs ys in omega arith

-- What a command that is no sync does: its operation is held, or fills the load, which is closed.
pub record Gathers (load n : ℕ) (held : List Record) (c : Command) : Type 0 where
  pub next : gathered_next load n held c ≡ cond (nat_lt (length (with_next n held c)) load) (with_next n held c) []
  pub closed : closed_next load n held c
      ≡ cond (nat_lt (length (with_next n held c)) load) 0 (left_of (with_next n held c))

-- A command is a sync, or does that.
pub gathers : (load n : ℕ) (held : List Record) (c : Command) → (c ≡ Sync) ⊎ Gathers load n held c
gathers load n held Sync = inl refl
gathers load n held c = inr (record { next = refl; closed = refl })

-- what is left of the closed load and of what is held
left_both : (b : Bool) (ops : List Record) → cond b 0 (left_of ops) + left_of (cond b ops []) ≡ left_of ops
left_both true ops = omega arith
left_both false ops = omega arith

length_both : (b : Bool) (ops : List Record) → cond b 0 (left_of ops) + length (cond b ops []) ≤ length ops
length_both true ops = omega arith
length_both false ops = let few = left_few ops in omega arith

others_both : (b : Bool) (ops : List Record) → others ops ≤ cond b 0 (left_of ops) + others (cond b ops [])
others_both true ops = omega arith
others_both false ops = omega arith

less_both : (load : ℕ) (ops : List Record) → 0 < load → length (cond (nat_lt (length ops) load) ops []) < load
less_both load ops some = ⊎_elim
    (λ (t : nat_lt (length ops) load ≡ true).
    let e = ap (λ (zs : List Record). length zs) (cond-true _ ops [] t) in
    let few = ltb-true (length ops) load t in
    omega arith)
    (λ (f : nat_lt (length ops) load ≡ false).
    let e = ap (λ (zs : List Record). length zs) (cond-false _ ops [] f) in
    omega arith)
    (cases_Bool (nat_lt (length ops) load))

-- What a command does whose operation is this one. It is no sync.
pub record TakesOp (load n : ℕ) (held : List Record) (c : Command) (op : Record) : Type 0 where
  pub other : c ≡ Sync → ⊥
  pub all : with_next n held c ≡ held ++ op ∷ []
  pub next : gathered_next load n held c ≡ cond (nat_lt (length (held ++ op ∷ [])) load) (held ++ op ∷ []) []
  pub closed : closed_next load n held c
      ≡ cond (nat_lt (length (held ++ op ∷ [])) load) 0 (left_of (held ++ op ∷ []))

pub one_op : (load n : ℕ) (held : List Record) (c : Command) (op : Record) → map_op n c ≡ op ∷ []
    → TakesOp load n held c op
one_op load n held c op e =
    let all : with_next n held c ≡ held ++ op ∷ [] = ap (λ (ops : List Record). held ++ ops) e in
    let other : c ≡ Sync → ⊥ = λ s.
    let none : [] ≡ op ∷ [] = sym (ap (map_op n) s) ∙ e in
    absurd (cc) in
    ⊎_elim
    (λ (s : c ≡ Sync). absurd (other s))
    (λ (g : Gathers load n held c). record {
      other = other;
      all = all;
      next = g.next ∙ ap (λ (ops : List Record). cond (nat_lt (length ops) load) ops []) all;
      closed = g.closed ∙ ap (λ (ops : List Record). cond (nat_lt (length ops) load) 0 (left_of ops)) all;
    })
    (gathers load n held c)

-- If the load has room for more after it, it is held.
pub held_more : (load n : ℕ) (held : List Record) (c : Command) (op : Record) → map_op n c ≡ op ∷ []
    → length held + 1 < load
    → (gathered_next load n held c ≡ held ++ op ∷ []) × (closed_next load n held c ≡ 0)
held_more load n held c op e less =
    let takes = one_op load n held c op e in
    let all = length-append held (op ∷ []) in
    let t = lt-ltb (length (held ++ op ∷ [])) load (omega arith) in
    (takes.next ∙ cond-true _ _ _ t, takes.closed ∙ cond-true _ _ _ t)

-- Else it fills the load, which is closed.
pub held_full : (load n : ℕ) (held : List Record) (c : Command) (op : Record) → map_op n c ≡ op ∷ []
    → load ≤ length held + 1
    → (gathered_next load n held c ≡ []) × (closed_next load n held c ≡ left_of (held ++ op ∷ []))
held_full load n held c op e full =
    let takes = one_op load n held c op e in
    let all = length-append held (op ∷ []) in
    let f = le-ltb (length (held ++ op ∷ [])) load (omega arith) in
    (takes.next ∙ cond-false _ _ _ f, takes.closed ∙ cond-false _ _ _ f)

-- In both cases the same is left.
pub left_kept : (load n : ℕ) (held : List Record) (c : Command) (op : Record) → map_op n c ≡ op ∷ []
    → closed_next load n held c + left_of (gathered_next load n held c) ≡ left_of (held ++ op ∷ [])
left_kept load n held c op e =
    let takes = one_op load n held c op e in
    let next = ap left_of takes.next in
    let closed = takes.closed in
    let both = left_both (nat_lt (length (held ++ op ∷ [])) load) (held ++ op ∷ []) in
    omega arith

-- What is held after one command more.
pub held_append : (load n : ℕ) (held : List Record) (xs : List Command) (c : Command)
    → gathered_from load n held (xs ++ c ∷ []) ≡ gathered_next load (n + length xs + 1) (gathered_from load n held xs) c
held_append load n held [] c =
    let e : n + 1 ≡ n + 0 + 1 = omega arith in
    ap (λ (k : ℕ). gathered_next load k held c) e
held_append load n held (x ∷ xs) c =
    let next = gathered_next load (n + 1) held x in
    let e : n + 1 + length xs + 1 ≡ n + length (x ∷ xs) + 1 = omega arith in
    held_append load (n + 1) next xs c ∙ ap (λ (k : ℕ). gathered_next load k (gathered_from load (n + 1) next xs) c) e

-- The size after it: what was held is counted with what is held then, or with the load that is closed.
pub early_append : (load n : ℕ) (held : List Record) (xs : List Command) (c : Command)
    → early_from load n held (xs ++ c ∷ []) + left_of (gathered_from load n held xs)
    ≡ early_from load n held xs + closed_next load (n + length xs + 1) (gathered_from load n held xs) c
    + left_of (gathered_next load (n + length xs + 1) (gathered_from load n held xs) c)
early_append load n held [] c =
    let e : n + 1 ≡ n + 0 + 1 = omega arith in
    let closed = ap (λ (k : ℕ). closed_next load k held c) e in
    let next = ap (λ (k : ℕ). left_of (gathered_next load k held c)) e in
    omega arith
early_append load n held (x ∷ xs) c =
    let first = gathered_next load (n + 1) held x in
    let last = gathered_from load (n + 1) first xs in
    let rest = early_append load (n + 1) first xs c in
    let e : n + 1 + length xs + 1 ≡ n + length (x ∷ xs) + 1 = omega arith in
    let closed = ap (λ (k : ℕ). closed_next load k last c) e in
    let next = ap (λ (k : ℕ). left_of (gathered_next load k last c)) e in
    omega arith

-- the commands of a batch have numbers from 1 on
from_first : (cs : List Command) (c : Command) (op : Record) → map_op (length cs + 1) c ≡ op ∷ []
    → map_op (0 + length cs + 1) c ≡ op ∷ []
from_first cs c op e =
    let number : 0 + length cs + 1 ≡ length cs + 1 = omega arith in
    ap (λ (k : ℕ). map_op k c) number ∙ e

-- After one operation more, what was held is counted with it.
pub early_next : (load : ℕ) (cs : List Command) (c : Command) (op : Record) → map_op (length cs + 1) c ≡ op ∷ []
    → early_size load (cs ++ c ∷ []) + left_of (gathered_from load 0 [] cs)
    ≡ early_size load cs + left_of (gathered_from load 0 [] cs ++ op ∷ [])
early_next load cs c op e =
    let is = from_first cs c op e in
    let all = early_append load 0 [] cs c in
    let kept = left_kept load (0 + length cs + 1) (gathered_from load 0 [] cs) c op is in
    omega arith

-- A sync counts as one more, and nothing is held after it.
pub early_sync : (load : ℕ) (cs : List Command) → early_size load (cs ++ Sync ∷ []) ≡ early_size load cs + 1
early_sync load cs = let all = early_append load 0 [] cs Sync in omega arith

pub held_sync : (load : ℕ) (cs : List Command) → gathered_from load 0 [] (cs ++ Sync ∷ []) ≡ []
held_sync load cs = held_append load 0 [] cs Sync

-- After one operation more, what is held of a batch that joins adds early: it too, or if it fills the load, none.
pub after_more : (load : ℕ) (cs : List Command) (c : Command) (op : Record) → map_op (length cs + 1) c ≡ op ∷ []
    → length (gathered_after true load cs) + 1 < load
    → gathered_after true load (cs ++ c ∷ []) ≡ gathered_after true load cs ++ op ∷ []
after_more load cs c op e less =
    let is = from_first cs c op e in
    held_append load 0 [] cs c ∙ (held_more load (0 + length cs + 1) (gathered_from load 0 [] cs) c op is less).0

pub after_full : (load : ℕ) (cs : List Command) (c : Command) (op : Record) → map_op (length cs + 1) c ≡ op ∷ []
    → load ≤ length (gathered_after true load cs) + 1 → gathered_after true load (cs ++ c ∷ []) ≡ []
after_full load cs c op e full =
    let is = from_first cs c op e in
    held_append load 0 [] cs c ∙ (held_full load (0 + length cs + 1) (gathered_from load 0 [] cs) c op is full).0

-- The same of the size by which a batch counts its moves.
pub size_next : (early : Bool) (load : ℕ) (cs : List Command) (c : Command) (op : Record)
    → map_op (length cs + 1) c ≡ op ∷ []
    → joined_size early load (cs ++ c ∷ []) + left_of (gathered_after early load cs)
    ≡ joined_size early load cs + left_of (gathered_after early load cs ++ op ∷ [])
size_next true load cs c op e = early_next load cs c op e
size_next false load cs c op e =
    let all = length-append cs (c ∷ []) in
    let own = left_one op in
    omega arith

pub joined_sync : (early : Bool) (load : ℕ) (cs : List Command)
    → joined_size early load (cs ++ Sync ∷ []) ≡ joined_size early load cs + 1
joined_sync true load cs = early_sync load cs
joined_sync false load cs = let all = length-append cs (Sync ∷ []) in omega arith

pub after_sync : (early : Bool) (load : ℕ) (cs : List Command) → gathered_after early load (cs ++ Sync ∷ []) ≡ []
after_sync true load cs = held_sync load cs
after_sync false load cs = refl

-- a command has one operation at most
one_most_op : (n : ℕ) (c : Command) → length (map_op n c) ≤ 1
one_most_op n Sync = omega arith
one_most_op n c = omega arith

-- a command adds one at most
step_most : (load n : ℕ) (held : List Record) (c : Command)
    → closed_next load n held c + length (gathered_next load n held c) ≤ length held + 1
step_most load n held c = ⊎_elim
    (λ (s : c ≡ Sync).
    let closed = ap (closed_next load n held) s in
    let next = ap (λ (k : Command). length (gathered_next load n held k)) s in
    let few = left_few held in
    omega arith)
    (λ (g : Gathers load n held c).
    let closed = g.closed in
    let next = ap (λ (zs : List Record). length zs) g.next in
    let both = length_both (nat_lt (length (with_next n held c)) load) (with_next n held c) in
    let all = length-append held (map_op n c) in
    let one = one_most_op n c in
    omega arith)
    (gathers load n held c)

early_most : (load n : ℕ) (held : List Record) (cs : List Command)
    → early_from load n held cs ≤ length held + length cs
early_most load n held [] = let few = left_few held in omega arith
early_most load n held (c ∷ cs) =
    let step = step_most load (n + 1) held c in
    let rest = early_most load (n + 1) (gathered_next load (n + 1) held c) cs in
    omega arith

-- The size is no more than the number of commands.
pub joined_most : (early : Bool) (load : ℕ) (cs : List Command) → joined_size early load cs ≤ length cs
joined_most true load cs = let most = early_most load 0 [] cs in omega arith
joined_most false load cs = omega arith

-- the operation of a command leaves as many of a load, or one more
left_with : (n : ℕ) (held : List Record) (c : Command) → left_of held ≤ left_of (with_next n held c)
left_with n held (Put k v) = (left_next held (record { a = k; b = n; c = 0; d = v })).0
left_with n held (Add k v) = (left_next held (record { a = k; b = n; c = 3; d = v })).0
left_with n held (Del k) = (left_next held (record { a = k; b = n; c = 1; d = 0 })).0
left_with n held (Get k) = (left_next held (record { a = k; b = n; c = 2; d = 0 })).0
left_with n held c = let e = ap left_of (append-nil held) in omega arith

-- a command takes none away
step_rises : (load n : ℕ) (held : List Record) (c : Command)
    → left_of held ≤ closed_next load n held c + left_of (gathered_next load n held c)
step_rises load n held c = ⊎_elim
    (λ (s : c ≡ Sync).
    let closed = ap (closed_next load n held) s in
    omega arith)
    (λ (g : Gathers load n held c).
    let closed = g.closed in
    let next = ap left_of g.next in
    let both = left_both (nat_lt (length (with_next n held c)) load) (with_next n held c) in
    let more = left_with n held c in
    omega arith)
    (gathers load n held c)

held_least : (load n : ℕ) (held : List Record) (cs : List Command) → left_of held ≤ early_from load n held cs
held_least load n held [] = omega arith
held_least load n held (c ∷ cs) =
    let step = step_rises load (n + 1) held c in
    let rest = held_least load (n + 1) (gathered_next load (n + 1) held c) cs in
    omega arith

early_rises : (load n : ℕ) (held : List Record) (cs more : List Command)
    → early_from load n held cs ≤ early_from load n held (cs ++ more)
early_rises load n held [] more = held_least load n held more
early_rises load n held (c ∷ cs) more =
    let rest = early_rises load (n + 1) (gathered_next load (n + 1) held c) cs more in
    omega arith

-- It doesn't fall with more commands.
pub joined_rises : (early : Bool) (load : ℕ) (cs more : List Command)
    → joined_size early load cs ≤ joined_size early load (cs ++ more)
joined_rises true load cs more = early_rises load 0 [] cs more
joined_rises false load cs more = let all = length-append cs more in omega arith

-- a command has no more answers than operations that are no adds
answer_other : (apply : Combiner) (k n : ℕ) (m : Map) (c : Command)
    → length (answers_of apply k m (c ∷ [])) ≤ others (map_op n c)
answer_other apply k n m Sync = omega arith
answer_other apply k n m c = omega arith

-- joining keeps each get
step_others : (load n : ℕ) (held : List Record) (c : Command)
    → others held + others (map_op n c) ≤ closed_next load n held c + others (gathered_next load n held c)
step_others load n held c = ⊎_elim
    (λ (s : c ≡ Sync).
    let closed = ap (closed_next load n held) s in
    let none = ap (λ (k : Command). others (map_op n k)) s in
    omega arith)
    (λ (g : Gathers load n held c).
    let closed = g.closed in
    let next = ap others g.next in
    let both = others_both (nat_lt (length (with_next n held c)) load) (with_next n held c) in
    let all = others_append held (map_op n c) in
    omega arith)
    (gathers load n held c)

early_answers : (apply : Combiner) (load n k : ℕ) (m : Map) (held : List Record) (cs : List Command)
    → others held + length (answers_of apply k m cs) ≤ early_from load n held cs
early_answers apply load n k m held [] = omega arith
early_answers apply load n k m held (c ∷ cs) =
    let both = ap (λ (zs : List Record). length zs) (answers_of-cons apply k m c cs) in
    let all = length-append (answers_of apply k m (c ∷ [])) (answers_of apply (k + 1) (map_step apply m c) cs) in
    let own = answer_other apply k (n + 1) m c in
    let step = step_others load (n + 1) held c in
    let rest = early_answers apply load (n + 1) (k + 1) (map_step apply m c) (gathered_next load (n + 1) held c) cs in
    omega arith

later_answers : (apply : Combiner) (load n k : ℕ) (m : Map) (held : List Record) (before cs : List Command)
    → length (answers_of apply k m cs) ≤ early_from load n held (before ++ cs)
later_answers apply load n k m held [] cs = let all = early_answers apply load n k m held cs in omega arith
later_answers apply load n k m held (b ∷ before) cs =
    let rest = later_answers apply load (n + 1) k m (gathered_next load (n + 1) held b) before cs in
    omega arith

-- There are no more answers than it.
pub joined_answers : (early : Bool) (load : ℕ) (apply : Combiner) (before cs : List Command)
    → length (answers_after apply before cs) ≤ joined_size early load (before ++ cs)
joined_answers true load apply before cs =
    later_answers apply load 0 (1 + length before) (state_after apply no_keys before) [] before cs
joined_answers false load apply before cs =
    let few = answers_few apply (1 + length before) (state_after apply no_keys before) cs in
    let all = length-append before cs in
    omega arith

step_few : (load n : ℕ) (held : List Record) (c : Command) → 0 < load → length (gathered_next load n held c) < load
step_few load n held c some = ⊎_elim
    (λ (s : c ≡ Sync).
    let next = ap (λ (k : Command). length (gathered_next load n held k)) s in
    omega arith)
    (λ (g : Gathers load n held c).
    let next = ap (λ (zs : List Record). length zs) g.next in
    let less = less_both load (with_next n held c) some in
    omega arith)
    (gathers load n held c)

-- What is held doesn't fill a load.
pub held_few : (load n : ℕ) (held : List Record) (cs : List Command) → 0 < load → length held < load
    → length (gathered_from load n held cs) < load
held_few load n held [] some less = less
held_few load n held (c ∷ cs) some less =
    held_few load (n + 1) (gathered_next load (n + 1) held c) cs some (step_few load (n + 1) held c some)

pub after_few : (early : Bool) (load : ℕ) (cs : List Command) → 0 < load → length (gathered_after early load cs) < load
after_few true load cs some = held_few load 0 [] cs some some
after_few false load cs some = some

-- A put, an add, a get, two adds and a get of one key, in one load.
one_load : early_size 1024 (Put 1 5 ∷ Add 1 1 ∷ Get 1 ∷ Add 1 1 ∷ Add 1 1 ∷ Get 1 ∷ []) ≡ 5
unfolding has_key
one_load = refl

-- Three adds in loads of two, a sync, and an add.
with_sync : early_size 2 (Add 1 1 ∷ Add 1 1 ∷ Add 1 1 ∷ Sync ∷ Add 1 1 ∷ []) ≡ 4
unfolding has_key
with_sync = refl

-- A get of another key ends no run.
other_get : early_size 4 (Add 1 1 ∷ Get 2 ∷ Add 1 1 ∷ []) ≡ 2
unfolding has_key
other_get = refl

-- Adds of two keys fill a load of three, and one more follows.
two_loads : early_size 3 (Add 1 1 ∷ Add 2 1 ∷ Add 1 1 ∷ Add 1 1 ∷ []) ≡ 3
unfolding has_key
two_loads = refl
