-- How many bits a step has, and how many steps a run.
use Rattle.std.proofs.Common.{◌≡◌, Bool, List, [], ◌∷◌, suc, ap, ◌∙◌, refl, length, All}
use Rattle.std.proofs.lemmas.List.{length-map}
use Rattle.std.proofs.lemmas.List.Elements.{All-nil, All-cons}
use Rattle.aig_defs.specs.declared.circuit.Latch.{Latch}
use Rattle.aig_defs.specs.Circuit.{Circuit, nexts, HasLengths, columns, resets}
use Rattle.aig_defs.specs.Value.{literal_value, step_of, run_from, run_of}

-- A step has a bit for each output,
pub outputs_count : (c : Circuit) → HasLengths c → (s i : List Bool)
    → length (step_of c s i).0 ≡ columns c.header
outputs_count c l s i = length-map c.columns (literal_value c s i) ∙ l.columns

-- and its next state has one for each latch.
pub state_count : (c : Circuit) → HasLengths c → (s i : List Bool)
    → length (step_of c s i).1 ≡ c.header.latches
state_count c l s i =
    length-map (nexts c.latches) (literal_value c s i)
    ∙ length-map c.latches (λ (l : Latch). l.next) ∙ l.latches

from_count : (c : Circuit) (s : List Bool) (inputs : List (List Bool))
    → length (run_from c s inputs) ≡ length inputs
from_count c s [] = refl
from_count c s (i ∷ inputs) = ap suc (from_count c (step_of c s i).1 inputs)

-- A run has the outputs of as many steps as there are lines of inputs,
pub steps_count : (c : Circuit) (inputs : List (List Bool))
    → length (run_of c inputs) ≡ length inputs
steps_count c inputs = from_count c (resets c.latches) inputs

from_widths : (c : Circuit) → HasLengths c → (s : List Bool) (inputs : List (List Bool))
    → All (λ bits. length bits ≡ columns c.header) (run_from c s inputs)
from_widths c l s [] = All-nil (λ bits. length bits ≡ columns c.header)
from_widths c l s (i ∷ inputs) =
    All-cons (λ bits. length bits ≡ columns c.header) (step_of c s i).0
    (run_from c (step_of c s i).1 inputs) (outputs_count c l s i)
    (from_widths c l (step_of c s i).1 inputs)

-- and each has a bit for each output.
pub steps_widths : (c : Circuit) → HasLengths c → (inputs : List (List Bool))
    → All (λ bits. length bits ≡ columns c.header) (run_of c inputs)
steps_widths c l inputs = from_widths c l (resets c.latches) inputs
