-- Calls that only look, one after another, and readers of chains of commands.
use Rattle.std.proofs.Common.{◌≡◌, ℕ, suc, ◌+◌, List, [], ◌∷◌, take, ap, sym, ◌∙◌, arith, Option, false, Result}
use Rattle.em_record.specs.declared.record.Record.{Record}
use Rattle.em_model.specs.Map.{Combiner, value_from}
use Rattle.em_model.proofs.MapLaws.{value_from-append}
use Rattle.em_space.specs.Rig.{RigState, Goes}
use Rattle.em_space.specs.declared.fault.EmFault.{EmFault}
use Rattle.em_chain.specs.Reader.{reader_blocks}
use Rattle.em_chain.specs.Reads.{ReadCosts}
use Rattle.em_chain.specs.declared.reader.Reader.{Reader}
use Rattle.em_chain.proofs.Beside.{goes_over}
use Rattle.em_plain.specs.Looks.{Looks}
use Rattle.em_plain.specs.Command.{command_in, commands_in}

-- a reader that leaves its blocks to a chain looked on
pub looks_next : {T : Type 0} (a b c : RigState) (r q : Reader) (result : Result T EmFault)
    → Looks a b → r.taking ≡ false → Goes (reader_blocks b r) b c → ReadCosts b c r q result
    → Looks a c
looks_next a b c r q result x over g k = record {
  goes = goes_over a b c r over x.goes g;
  used = k.used_over over ∙ x.used;
  most = k.most ∙ x.most;
}

-- one command more was gone through
pub value_next : (apply : Combiner) (key : ℕ) (before after : Option ℕ) (left next : ℕ) (items rest : List Record)
    (x : Record) → left ≡ next + 1 → items ≡ x ∷ rest
    → after ≡ value_from apply key before (command_in x ∷ [])
    → value_from apply key before (commands_in (take left items))
    ≡ value_from apply key after (commands_in (take next rest))
value_next apply key before after left next items rest x e is step =
    ap (λ n. value_from apply key before (commands_in (take n items))) e
    ∙ ap (λ (t : List Record). value_from apply key before (commands_in (take (next + 1) t))) is
    ∙ value_first key before next rest x
    ∙ ap (λ v. value_from apply key v (commands_in (take next rest))) (sym step)
  where
    value_first : (key : ℕ) (before : Option ℕ) (next : ℕ) (rest : List Record) (x : Record)
        → value_from apply key before (commands_in (take (next + 1) (x ∷ rest)))
        ≡ value_from apply key (value_from apply key before (command_in x ∷ [])) (commands_in (take next rest))
    value_first key before next rest x =
        let n : next + 1 ≡ suc next = omega arith in
        rw n (value_from-append apply key before (command_in x ∷ []) (commands_in (take next rest)))
