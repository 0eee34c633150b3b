-- Commands as records, one after another.
use Rattle.std.proofs.Common.{◌≡◌, List, [], ◌∷◌, ◌++◌, refl, ap, ◌∙◌}
use Rattle.std.proofs.lemmas.List.{map-append}
use Rattle.em_record.specs.declared.record.Record.{Record}
use Rattle.em_model.specs.declared.command.Command.{Command}
use Rattle.em_model.specs.declared.command.Command.TheVariants.{Put, Add, Del, Get, Sync, Push, Pop, Interval, Stab}
use Rattle.em_plain.specs.Command.{record_of, command_in, commands_in}

-- a record stands for the command that it was made of
command_in-record_of : (c : Command) → command_in (record_of c) ≡ c
command_in-record_of (Put key value) = refl
command_in-record_of (Add key value) = refl
command_in-record_of (Del key) = refl
command_in-record_of (Get key) = refl
command_in-record_of (Push key value) = refl
command_in-record_of Pop = refl
command_in-record_of (Interval low high) = refl
command_in-record_of (Stab point) = refl
command_in-record_of Sync = refl

-- one command more
pub commands_in-more : (items : List Record) (c : Command)
    → commands_in (items ++ record_of c ∷ []) ≡ commands_in items ++ c ∷ []
commands_in-more items c =
    map-append command_in items (record_of c ∷ [])
    ∙ ap (λ x. commands_in items ++ x ∷ []) (command_in-record_of c)
