-- What is left of a stimulus, by its steps.
use Rattle.std.proofs.Common.{◌≡◌, ℕ, ◌<◌, ◌≤◌, Bool, List, [], ◌∷◌, ◌++◌, length, take, take_all, Some, None, refl, sym, ap, ◌∙◌, arith}
use Rattle.std.proofs.lemmas.List.{append-nil, length-append, take-append-le}
use Rattle.aig_defs.specs.Items.{Reading, Reads, Fails}
use Rattle.aig_defs.specs.Stimulus.{Stimulus, line_then, no_steps, stimulus_from, stimulus_line, stimulus_within}
use Rattle.aig_defs.specs.declared.fault.AigKind.{AigKind}
use Rattle.aig_text.specs.Source.{Source, left}
use Rattle.aig_wide.specs.Group.{after_steps, stimulus_at}
use Rattle.aig_wide.specs.GroupLines.{CountsBy, EndsBy}
use Rattle.aig_wide.specs.declared.reading.Ending.{Ending}
use Rattle.aig_wide.specs.declared.reading.Ending.TheVariants as ending

some_not : {A : Type 0} {x : A} → Some x ≡ None → ⊥
some_not e = cc

-- Nothing is left exactly if there is no step and no fault.
pub none_at : (inputs : ℕ) (s : Source) → left s ≡ [] → stimulus_at inputs s ≡ no_steps
none_at inputs s e = ap (λ (x : List ℕ). stimulus_from inputs s.feed.place x) e

line_some : (r : Reading (List Bool)) (after : ℕ → List ℕ → Stimulus) → line_then r after ≡ no_steps → ⊥
line_some (Reads bits p x) after e =
    let n = ap (λ (z : Stimulus). length z.steps) e in
    absurd (omega (arith, n))
line_some (Fails kind place) after e = some_not (ap (λ (z : Stimulus). z.fault) e)

steps_none : (inputs p : ℕ) (x : List ℕ) → stimulus_from inputs p x ≡ no_steps → x ≡ []
steps_none inputs p [] e = refl
steps_none inputs p (byte ∷ x) e =
    absurd (line_some (stimulus_line inputs p (byte ∷ x)) (stimulus_within (length x) inputs) e)

pub none_in : {A : Type 0} (xs : List A) → length xs ≡ 0 → xs ≡ []
none_in [] e = refl
none_in (x ∷ xs) e = absurd (omega (arith, e))

pub nothing_left : (inputs : ℕ) (s t : Source) (bits : List (List Bool)) → length bits ≡ 0
    → stimulus_at inputs s ≡ after_steps bits (stimulus_at inputs t) → left t ≡ [] → left s ≡ []
nothing_left inputs s t bits none steps e =
    steps_none inputs s.feed.place (left s)
    (steps ∙ ap (λ (bs : List (List Bool)). after_steps bs (stimulus_at inputs t)) (none_in bits none)
    ∙ ap (after_steps []) (none_at inputs t e))

-- Something is left if there is a step, or a fault.
pub lines_left : (inputs : ℕ) (s : Source) (bits : List (List Bool)) (rest : Stimulus) → 0 < length bits
    → stimulus_at inputs s ≡ after_steps bits rest → left s ≡ [] → ⊥
lines_left inputs s bits rest some steps e =
    let n = ap (λ (z : Stimulus). length z.steps) (sym steps ∙ none_at inputs s e) in
    let m = length-append bits rest.steps in
    absurd (omega (arith, n, m, some))

pub fault_left : (inputs : ℕ) (s : Source) (bits : List (List Bool)) (f : AigKind × ℕ)
    → stimulus_at inputs s ≡ record { steps = bits; fault = Some f } → left s ≡ [] → ⊥
fault_left inputs s bits f steps e = some_not (ap (λ (z : Stimulus). z.fault) (sym steps ∙ none_at inputs s e))

-- The steps of a group are the first 64 from its start on.
pub first_steps : (inputs : ℕ) (s t : Source) (bits : List (List Bool)) (lines part : ℕ) (e : Ending)
    → EndsBy inputs s t bits e → CountsBy lines part e → length bits ≡ lines → lines ≤ 64
    → take 64 (stimulus_at inputs s).steps ≡ bits
first_steps inputs s t bits lines part ending.Full steps counts long few =
    let n = counts.0 in
    ap (λ (z : Stimulus). take 64 z.steps) steps
    ∙ take-append-le 64 bits (stimulus_at inputs t).steps (omega (arith, n, long))
    ∙ take_all 64 bits (omega (arith, few, long))
first_steps inputs s t bits lines part ending.Ended steps counts long few =
    ap (λ (z : Stimulus). take 64 z.steps) steps.0
    ∙ ap (λ (z : Stimulus). take 64 (bits ++ z.steps)) (none_at inputs t steps.1)
    ∙ ap (λ (bs : List (List Bool)). take 64 bs) (append-nil bits) ∙ take_all 64 bits (omega (arith, few, long))
first_steps inputs s t bits lines part (ending.Faulty kind place) steps counts long few =
    ap (λ (z : Stimulus). take 64 z.steps) steps ∙ take_all 64 bits (omega (arith, few, long))
