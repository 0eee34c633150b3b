-- The lines of some steps of a circuit, and of those that are left.
use Rattle.std.proofs.Common.{◌≡◌, ℕ, Bool, List, [], ◌∷◌, ◌++◌, take, drop, ap, sym, ◌∙◌, refl}
use Rattle.std.proofs.lemmas.List.{take-append-drop}
use Rattle.aig_defs.specs.Circuit.{Circuit}
use Rattle.aig_defs.specs.Stimulus.{Stimulus, output_lines, stimulus_from}
use Rattle.aig_defs.specs.Value.{run_from, step_of}
use Rattle.aig_defs.proofs.Stimulus.{output_lines_append}
use Rattle.aig_text.specs.Source.{Source, left}
use Rattle.aig_wide.specs.Group.{after_steps, stimulus_at}

-- the state after some steps
abbrev pub state_after : Circuit → List Bool → List (List Bool) → List Bool
state_after c state [] = state
state_after c state (bits ∷ steps) = state_after c (step_of c state bits).1 steps

-- the lines of some steps, from this state
abbrev pub lines_from : Circuit → List Bool → List (List Bool) → List ℕ
lines_from c state steps = output_lines (run_from c state steps)

-- the lines that are still to be printed, from this state and from this place of the stimulus on
abbrev pub lines_left : Circuit → List Bool → ℕ → List ℕ → List ℕ
lines_left c state p x = lines_from c state (stimulus_from c.header.inputs p x).steps

-- the lines of the next round, if it reads at most so many
abbrev pub lines_next : ℕ → Circuit → List Bool → Source → List ℕ
lines_next lines c state s = lines_from c state (take lines (stimulus_at c.header.inputs s).steps)

run_append : (c : Circuit) (state : List Bool) (xs ys : List (List Bool))
    → run_from c state (xs ++ ys) ≡ run_from c state xs ++ run_from c (state_after c state xs) ys
run_append c state [] ys = refl
run_append c state (bits ∷ xs) ys =
    ap (λ (r : List (List Bool)). (step_of c state bits).0 ∷ r)
    (run_append c (step_of c state bits).1 xs ys)

-- The lines of steps one after the other stand so, too.
pub lines_append : (c : Circuit) (state : List Bool) (xs ys : List (List Bool))
    → lines_from c state (xs ++ ys)
    ≡ lines_from c state xs ++ lines_from c (state_after c state xs) ys
lines_append c state xs ys =
    ap output_lines (run_append c state xs ys)
    ∙ output_lines_append (run_from c state xs) (run_from c (state_after c state xs) ys)

-- Lines of the stimulus were read: their lines are the first ones that are to be printed.
pub lines_taken : (c : Circuit) (state : List Bool) (bits : List (List Bool)) (old new : Source)
    → stimulus_at c.header.inputs old ≡ after_steps bits (stimulus_at c.header.inputs new)
    → lines_left c state old.feed.place (left old) ≡ lines_from c state bits
    ++ lines_left c (state_after c state bits) new.feed.place (left new)
lines_taken c state bits old new e =
    ap (λ (s : Stimulus). lines_from c state s.steps) e
    ∙ lines_append c state bits (stimulus_at c.header.inputs new).steps

-- The lines of the next round are the first ones.
pub lines_parted : (n : ℕ) (c : Circuit) (state : List Bool) (s : Source)
    → lines_left c state s.feed.place (left s) ≡ lines_next n c state s
    ++ lines_from c (state_after c state (take n (stimulus_at c.header.inputs s).steps))
    (drop n (stimulus_at c.header.inputs s).steps)
lines_parted n c state s =
    let steps = (stimulus_at c.header.inputs s).steps in
    ap (λ (x : List (List Bool)). lines_from c state x) (sym (take-append-drop n steps))
    ∙ lines_append c state (take n steps) (drop n steps)
