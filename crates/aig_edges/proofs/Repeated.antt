-- The first variable that two sorted definitions one after the other have is the least that is defined
-- twice.
use Rattle.std.proofs.Common.{◌≡◌, ◌==◌, ℕ, Bool, true, false, if◌then◌else◌, List, [], ◌∷◌, ◌++◌, Option, None, Some, refl, sym, ◌∙◌, subst, append_assoc}
use Rattle.std.proofs.lemmas.Bool.{eqb-true, eqb-false}
use Rattle.em_record.specs.declared.record.Record.{Record}
use Rattle.em_space.specs.Rig.{RigState}
use Rattle.em_chain.specs.Chain.{chain_items}
use Rattle.em_chain.specs.declared.chain.Chain.{Chain}
use Rattle.aig_defs.specs.Circuit.{Circuit}
use Rattle.aig_defs.specs.Faults.{IsLeast, IsTwice, Nowhere}
use Rattle.aig_defs.specs.Sorted.{Climbs, sorted_defs}
use Rattle.aig_defs.proofs.Sorted.{climbs_more, twice_found, twice_none}
use Rattle.aig_edges.specs.Repeats.{TellsTwice, first_repeat}

-- the least variable that is defined twice, or none
abbrev TellsOf : Circuit → Option ℕ → Type 0
TellsOf c None = Nowhere (IsTwice c)
TellsOf c (Some v) = IsLeast (IsTwice c) v

-- of sorted definitions that climb up to one, by those after it
repeat_after : (c : Circuit) (front : List Record) (x : Record) (rest : List Record)
    → sorted_defs c ≡ front ++ x ∷ rest → Climbs (front ++ x ∷ [])
    → TellsOf c (first_repeat (Some x.a) rest)
repeat_after c front x [] e h = twice_none c (subst Climbs (sym e) h)
repeat_after c front x (y ∷ rest) e h = by_test (x.a == y.a) refl
    (λ t. repeat_after c (front ++ x ∷ []) y rest
    (e ∙ sym (append_assoc front (x ∷ []) (y ∷ rest)))
    (climbs_more c front x y rest e h (eqb-false _ _ t)))
  where
    by_test : (b : Bool) → (x.a == y.a) ≡ b
        → ((x.a == y.a) ≡ false → TellsOf c (first_repeat (Some y.a) rest))
        → TellsOf c (if b then Some x.a else first_repeat (Some y.a) rest)
    by_test true t later = twice_found c front x y rest e h (eqb-true _ _ t)
    by_test false t later = later t

first_of : (c : Circuit) (ds : List Record) → ds ≡ sorted_defs c → TellsOf c (first_repeat None ds)
first_of c [] e = twice_none c (subst Climbs e tt)
first_of c (x ∷ rest) e = repeat_after c [] x rest (sym e) (tt, tt)

pub tells_twice : (s : RigState) (defs : Chain) (answer : Option ℕ)
    → answer ≡ first_repeat None (chain_items s defs) → TellsTwice s defs answer
tells_twice s defs None e = λ c is. subst (TellsOf c) (sym e)
    (first_of c (chain_items s defs) is)
tells_twice s defs (Some v) e = λ c is. subst (TellsOf c) (sym e)
    (first_of c (chain_items s defs) is)
