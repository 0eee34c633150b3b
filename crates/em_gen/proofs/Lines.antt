-- Lines as they are made and taken.
use Rattle.std.proofs.Common.{◌≡◌, ℕ, zero, suc, ◌+◌, ◌-◌, ◌%◌, ◌<◌, ◌≤◌, min, List, [], ◌∷◌, ◌++◌, length, take, drop, refl, sym, ap, ◌∙◌, arith, ⊎_elim, add-one, length-drop}
use Rattle.std.proofs.lemmas.Bool.{cases_lt}
use Rattle.std.proofs.lemmas.List.{take-append-drop, drop_all, drop-drop, take-append-le, length-take}
use Rattle.em_gen.specs.Draws.{after_draws, drawn, next_state}
use Rattle.em_gen.specs.Texts.{bits_of, line_at, lines_from, stimulus_line}
use Rattle.em_gen.specs.Steps.{IsRefilled, MakesLine}
use Rattle.em_gen.specs.declared.kind.GenKind.{GenKind}
use Rattle.em_gen.specs.declared.made.Made.{Made}
use Rattle.em_io.specs.declared.shelf.Slot.{Slot}

-- one draw more, and its bit
after_suc : (n x : ℕ) → after_draws (suc n) x ≡ next_state (after_draws n x)
after_suc zero x = refl
after_suc (suc n) x = after_suc n (next_state x)

bits_suc : (n x : ℕ) → bits_of (suc n) x ≡ bits_of n x ++ (48 + drawn (after_draws n x) % 2) ∷ []
bits_suc zero x = refl
bits_suc (suc n) x = ap (λ (bs : List ℕ). (48 + drawn x % 2) ∷ bs) (bits_suc n (next_state x))

pub after_more : (n x : ℕ) → after_draws (n + 1) x ≡ next_state (after_draws n x)
after_more n x = ap (λ (k : ℕ). after_draws k x) (add-one n) ∙ after_suc n x

pub bits_more : (n x : ℕ)
    → bits_of (n + 1) x ≡ bits_of n x ++ (48 + drawn (after_draws n x) % 2) ∷ []
bits_more n x = ap (λ (k : ℕ). bits_of k x) (add-one n) ∙ bits_suc n x

pub bits_len : (n x : ℕ) → length (bits_of n x) ≡ n
bits_len zero x = refl
bits_len (suc n) x = ap suc (bits_len n (next_state x))

pub bits_next : (n x y : ℕ) {l m : List ℕ} {z : ℕ} → l ≡ bits_of n x → y ≡ after_draws n x
    → m ≡ l ++ (48 + drawn y % 2) ∷ [] → z ≡ next_state y
    → (m ≡ bits_of (n + 1) x) × (z ≡ after_draws (n + 1) x)
bits_next n x y {l} {m} {z} a b c d = (
  c ∙ (ap (λ (bs : List ℕ). bs ++ (48 + drawn y % 2) ∷ []) a
      ∙ (ap (λ (k : ℕ). bits_of n x ++ (48 + drawn k % 2) ∷ []) b ∙ sym (bits_more n x))),
  d ∙ (ap next_state b ∙ sym (after_more n x)),
)

-- all bits, and the end of their line
pub stimulus_is : (n x : ℕ) {l m : List ℕ} → n ≡ 16 → l ≡ bits_of n x → m ≡ l ++ 10 ∷ []
    → m ≡ stimulus_line x
stimulus_is n x {l} {m} e a b =
    b ∙ ap (λ (bs : List ℕ). bs ++ 10 ∷ []) (a ∙ ap (λ (k : ℕ). bits_of k x) e)

pub sixteen_after : (n x : ℕ) {y : ℕ} → n ≡ 16 → y ≡ after_draws n x → y ≡ after_draws 16 x
sixteen_after n x e a = a ∙ ap (λ (k : ℕ). after_draws k x) e

-- what is left of a list from a place on, which may be past its end
drop_least : (taken from : ℕ) (xs : List ℕ) → from ≡ min taken (length xs)
    → drop taken xs ≡ drop from xs
drop_least taken from xs e = ⊎_elim
    (λ (a : taken < length xs).
    let same : taken ≡ from = omega arith in ap (λ (n : ℕ). drop n xs) same)
    (λ (b : length xs ≤ taken).
    drop_all taken xs b ∙ sym (drop_all from xs (omega arith)))
    (cases_lt taken (length xs))

-- all of a list
take_whole : (n : ℕ) (xs : List ℕ) → length xs ≡ n → take n xs ≡ xs
take_whole n [] e = ap (λ (k : ℕ). take k []) (sym e)
take_whole zero (x ∷ xs) e = absurd (omega arith)
take_whole (suc n) (x ∷ xs) e = ap (λ (bs : List ℕ). x ∷ bs) (take_whole n xs (omega arith))

-- The first bytes that are left were copied to the front of others.
pub front_of : (line others : List ℕ) {copied : List ℕ} (taken from n : ℕ) → from ≡ min taken (length line)
    → n ≤ length line - from → copied ≡ take n (take (length line - from) (drop from line))
    → drop taken line ≡ take n (copied ++ others) ++ drop (from + n) line
front_of line others {copied} taken from n e few copy =
    let rest = drop from line in
    let left = length-drop from line in
    let same : copied ≡ take n rest =
    copy ∙ ap (λ (bs : List ℕ). take n bs) (take_whole (length line - from) rest left) in
    let size = length-take n rest in
    let equal = ap (λ (bs : List ℕ). length bs) same in
    let front : take n (copied ++ others) ≡ take n rest =
    take-append-le n copied others (omega arith)
    ∙ (ap (λ (bs : List ℕ). take n bs) same ∙ take_twice n rest) in
    drop_least taken from line e
    ∙ (sym (take-append-drop n rest)
    ∙ (ap (λ (bs : List ℕ). take n rest ++ bs) (drop-drop n from line)
    ∙ ap (λ (bs : List ℕ). bs ++ drop (from + n) line) (sym front)))
  where
    take_twice : (k : ℕ) (xs : List ℕ) → take k (take k xs) ≡ take k xs
    take_twice zero xs = refl
    take_twice (suc k) [] = refl
    take_twice (suc k) (x ∷ xs) = ap (λ (bs : List ℕ). x ∷ bs) (take_twice k xs)

-- The next line was made, after all of the last one was taken.
pub refilled : (kind : GenKind) (slot : Slot) (count : ℕ) (m n : Made) → MakesLine kind slot count m n
    → length m.line ≤ m.taken → IsRefilled kind slot count m n
refilled kind slot count m n h gone =
    let left = h.left in
    let some = h.some in
    let taken = h.taken in
    let one : m.left ≡ suc n.left = omega arith in
    let next : n.number ≡ suc m.number = h.number ∙ add-one m.number in
    let line = line_at kind slot count m.number m.draws in
    let Rest : ℕ → ℕ → ℕ → List ℕ = lines_from kind slot count in
    record {
      same = ap (λ (t : ℕ). drop t n.line ++ Rest n.left n.number n.draws) h.taken
          ∙ (ap (λ (bs : List ℕ). bs ++ Rest n.left n.number n.draws) h.line
          ∙ (ap (λ (j : ℕ). line ++ Rest n.left j n.draws) next
          ∙ (ap (λ (x : ℕ). line ++ Rest n.left (suc m.number) x) h.draws
          ∙ sym (ap (λ (k : ℕ). drop m.taken m.line ++ Rest k m.number m.draws) one
          ∙ ap (λ (bs : List ℕ). bs ++ Rest (suc n.left) m.number m.draws)
          (drop_all m.taken m.line gone)))));
      some = λ few. absurd (omega arith);
    }
