-- What is printed for the commands of a command file: docs/FORMATS.md, "Output".
use Rattle.std.specs.Prelude.{ℕ, List, [], ◌∷◌, ◌++◌, Option, Some, None, decimal, codes}
use Rattle.std.specs.List.{flat_map}
use Rattle.em_model.specs.Map.{Combiner, map_answers, map_answers_from, no_keys, state_after}
use Rattle.em_model.specs.Pairs.{pairs_after}
use Rattle.em_model.specs.Queue.{queue_answers}
use Rattle.em_model.specs.Stab.{stab_answers}
use Rattle.em_model.specs.Sync.{since_sync, synced_answers, up_to_sync}
use Rattle.em_model.specs.declared.command.Command.{Command}
use Rattle.em_model.specs.declared.command.Command.TheVariants.{Sync}
use Rattle.em_lines.specs.BaseLine.{pair_word, pairs_text}
use Rattle.em_lines.specs.declared.text.FileKind.{FileKind}
use Rattle.em_lines.specs.declared.text.FileKind.TheVariants.{Map, Queue, Stab, Dump}

-- an answer of a map in words: the value, or a dash
abbrev pub answer_word : Option ℕ → List ℕ
answer_word None = codes "-"
answer_word (Some value) = decimal value

-- one line for each answer
abbrev pub answer_line : Option ℕ → List ℕ
answer_line answer = answer_word answer ++ 10 ∷ []

-- the lines of some answers of a map
abbrev pub map_text : List (Option ℕ) → List ℕ
map_text answers = flat_map answer_line answers

-- an answer of a queue in words: the key and the value, or a dash
abbrev pub popped_word : Option (ℕ × ℕ) → List ℕ
popped_word None = codes "-"
popped_word (Some item) = pair_word item

abbrev pub popped_line : Option (ℕ × ℕ) → List ℕ
popped_line answer = popped_word answer ++ 10 ∷ []

-- the lines of some answers of a queue
abbrev pub queue_text : List (Option (ℕ × ℕ)) → List ℕ
queue_text answers = flat_map popped_line answers

-- numbers, each after a space
abbrev pub further_words : List ℕ → List ℕ
further_words numbers = flat_map (λ n. 32 ∷ decimal n) numbers

-- an answer of an interval list in words: the numbers with a space between, or a dash
abbrev pub numbers_word : List ℕ → List ℕ
numbers_word [] = codes "-"
numbers_word (n ∷ ns) = decimal n ++ further_words ns

abbrev pub numbers_line : List ℕ → List ℕ
numbers_line numbers = numbers_word numbers ++ 10 ∷ []

-- the lines of some answers of an interval list
abbrev pub stab_text : List (List ℕ) → List ℕ
stab_text answers = flat_map numbers_line answers

-- the text of the answers to some commands of a file of this kind; of a dump that of the pairs that they leave
abbrev pub text_for : Combiner → FileKind → List Command → List ℕ
text_for apply Map commands = map_text (map_answers apply commands)
text_for apply Queue commands = queue_text (queue_answers commands)
text_for apply Stab commands = stab_text (stab_answers commands)
text_for apply Dump commands = pairs_text (pairs_after apply commands)

-- The text that was printed before the end of some commands of a file that is read into a service: of a map the answers
-- at its syncs, of an interval list or a dump nothing.
abbrev pub synced_text : Combiner → FileKind → List Command → List ℕ
synced_text apply Map commands = map_text (synced_answers apply commands)
synced_text apply Queue commands = []
synced_text apply Stab commands = []
synced_text apply Dump commands = []

-- the text that one command more prints, after these: at a map's sync that of the answers to the gets since the last one
abbrev pub text_at : Combiner → FileKind → List Command → Command → List ℕ
text_at apply Map given Sync =
    map_text (map_answers_from apply (state_after apply no_keys (up_to_sync given)) (since_sync given))
text_at apply kind given command = []
