-- How many records stand for a circuit in each chain, and the variables of its definitions.
use Rattle.std.proofs.Common.{◌≡◌, ◌+◌, ◌/◌, List, [], ◌∷◌, ◌++◌, ℕ, sym, ap, ◌∙◌, refl, arith, length, map, append_assoc}
use Rattle.std.proofs.lemmas.List.{length-append, map-append, map-id}
use Rattle.em_record.specs.declared.record.Record.{Record}
use Rattle.aig_defs.specs.declared.circuit.Latch.{Latch}
use Rattle.aig_defs.specs.declared.circuit.Gate.{Gate}
use Rattle.aig_defs.specs.Circuit.{Circuit, variables, currents, HasLengths, columns}
use Rattle.aig_defs.specs.Chains.{numbered, input_def, latch_def, gate_def, gate_record, latch_use, output_use, defs_of, gates_of, uses_of}
use Rattle.aig_defs.specs.Founded.{gate_variables}
use Rattle.aig_defs.specs.Faults.{definitions}

-- one record for each element
pub length_numbered : {A : Type 0} (record_of : ℕ → A → Record) (j : ℕ) (section : List A)
    → length (numbered record_of j section) ≡ length section
length_numbered record_of j [] = refl
length_numbered record_of j (a ∷ section) = omega (arith, length_numbered record_of (j + 1) section)

-- a list with one more element at its end
pub numbered_push : {A : Type 0} (record_of : ℕ → A → Record) (j : ℕ) (section : List A) (a : A)
    → numbered record_of j (section ++ a ∷ [])
    ≡ numbered record_of j section ++ record_of (j + length section) a ∷ []
numbered_push record_of j [] a = ap (λ k. record_of k a ∷ []) (omega arith)
numbered_push record_of j (b ∷ section) a =
    let place : j + 1 + length section ≡ j + length (b ∷ section) = omega arith in
    ap (λ t. record_of j b ∷ t) (numbered_push record_of (j + 1) section a
    ∙ ap (λ k. numbered record_of (j + 1) section ++ record_of k a ∷ []) place)

pub defs_count : (c : Circuit) → HasLengths c
    → length (defs_of c) ≡ c.header.inputs + c.header.latches + c.header.gates
defs_count c l =
    let is = numbered input_def 0 c.inputs in
    let ls = numbered latch_def 0 c.latches in
    let gs = numbered gate_def 0 c.gates in
    let a = length_numbered input_def 0 c.inputs in
    let b = length_numbered latch_def 0 c.latches in
    let d = length_numbered gate_def 0 c.gates in
    omega (
      arith,
      length-append is (ls ++ gs),
      length-append ls gs,
      a,
      b,
      d,
      l.inputs,
      l.latches,
      l.gates,
    )

pub gates_count : (c : Circuit) → HasLengths c → length (gates_of c) ≡ c.header.gates
gates_count c l = length_numbered gate_record 0 c.gates ∙ l.gates

pub uses_count : (c : Circuit) → HasLengths c
    → length (uses_of c) ≡ c.header.latches + columns c.header
uses_count c l =
    let both = length-append (numbered latch_use 0 c.latches) (numbered output_use 0 c.columns) in
    let a = length_numbered latch_use 0 c.latches in
    let b = length_numbered output_use 0 c.columns in
    omega (arith, both, a, b, l.latches, l.columns)

-- the word a of a definition is its variable
pub defs_words : {A : Type 0} (record_of : ℕ → A → Record) (literal : A → ℕ) (j : ℕ) (section : List A)
    → ((j : ℕ) (a : A) → (record_of j a).a ≡ literal a / 2)
    → map (λ (r : Record). r.a) (numbered record_of j section) ≡ variables (map literal section)
defs_words record_of literal j [] f = refl
defs_words record_of literal j (a ∷ section) f =
    ap (λ v. v ∷ map (λ (r : Record). r.a) (numbered record_of (j + 1) section)) (f j a)
    ∙ ap (λ vs. literal a / 2 ∷ vs) (defs_words record_of literal (j + 1) section f)

-- The gates' variables are those of the circuit, in the same order; so are the definitions'.
pub gates_variables : (c : Circuit) → map (λ (r : Record). r.a) (gates_of c) ≡ gate_variables c
gates_variables c = defs_words gate_record (λ (g : Gate). g.lhs) 0 c.gates (λ j g. refl)

pub defs_variables : (c : Circuit) → map (λ (r : Record). r.a) (defs_of c) ≡ definitions c
defs_variables c =
    let first = λ (r : Record). r.a in
    let is = numbered input_def 0 c.inputs in
    let ls = numbered latch_def 0 c.latches in
    let gs = numbered gate_def 0 c.gates in
    let vs = variables c.inputs in
    let ws = variables (currents c.latches) in
    let own = defs_words input_def (λ l. l) 0 c.inputs (λ j l. refl) in
    let inputs = own ∙ ap variables (map-id c.inputs) in
    let latches = defs_words latch_def (λ (l : Latch). l.current) 0 c.latches (λ j l. refl) in
    let gates = defs_words gate_def (λ (g : Gate). g.lhs) 0 c.gates (λ j g. refl) in
    map-append first is (ls ++ gs)
    ∙ ap (λ t. map first is ++ t) (map-append first ls gs)
    ∙ ap (λ t. t ++ (map first ls ++ map first gs)) inputs
    ∙ ap (λ t. vs ++ (t ++ map first gs)) latches
    ∙ ap (λ t. vs ++ (ws ++ t)) gates
    ∙ sym (append_assoc vs ws (gate_variables c))
