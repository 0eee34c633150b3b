-- The size of the commands of a service, beside that of all that were taken of a text.
use Rattle.std.proofs.Common.{◌≡◌, ℕ, ◌+◌, ◌-◌, ◌≤◌, Bool, false, List, ◌++◌, length, take, drop, refl, ap, sym, ◌∙◌, arith}
use Rattle.std.proofs.Math.Seq.{take-append-add}
use Rattle.std.proofs.lemmas.List.{length-take, take-append-drop, take_all}
use Rattle.em_record.specs.Shape.{ShapeNumbers}
use Rattle.em_frames.specs.Pool.{load_of}
use Rattle.em_model.specs.Sync.{since_sync, up_to_sync}
use Rattle.em_model.specs.declared.command.Command.{Command}
use Rattle.em_model.proofs.SyncLaws.{sync_parts}
use Rattle.em_map.proofs.Early.{joined_most, joined_rises}
use Rattle.em_lines.specs.CommandLine.{good_commands}
use Rattle.em_lines.specs.RunSize.{commands_taken, run_size}
use Rattle.em_lines.specs.declared.text.FileKind.{FileKind}
use Rattle.em_lines.specs.declared.text.FileKind.TheVariants.{Map, Queue, Stab, Dump}
use Rattle.em_services.specs.BatchService.{map_size}
use Rattle.em_services.specs.Service.{size_of}
use Rattle.em_answers.specs.Limits.{moves_size, taken_commands}
use Rattle.em_answers.proofs.Answered.{pairs_counted}

-- equal sizes of equal commands
pub equal_size : (size now : ShapeNumbers → List Command → ℕ) (p q : ShapeNumbers) (xs ys : List Command)
    → now ≡ size → p ≡ q → xs ≡ ys → now p xs ≡ size q ys
equal_size size now p q xs ys e f g =
    ap (λ (h : ShapeNumbers → List Command → ℕ). h p xs) e ∙ ap (λ (r : ShapeNumbers). size r xs) f
    ∙ ap (λ (zs : List Command). size q zs) g

-- a size that isn't less where commands are added
abbrev pub RisesByCommands : (ShapeNumbers → List Command → ℕ) → Type 0
RisesByCommands size = (shape : ShapeNumbers) (cs more : List Command) → size shape cs ≤ size shape (cs ++ more)

cut_sum : (m n : ℕ) → m ≤ n → m + (n - m) ≡ n
cut_sum m n h = omega (arith, h)

-- The commands that were given are the first of those that were taken, and their size is no greater.
taken_front : (kind : FileKind) (text left : List ℕ) (given rest : List Command) (n : ℕ)
    → good_commands kind text ≡ given ++ rest → n ≡ commands_taken kind text left → length given ≤ n
    → taken_commands kind text left ≡ given ++ take (n - length given) rest
taken_front kind text left given rest n good e h =
    ap (λ (k : ℕ). take k (good_commands kind text)) (sym e)
    ∙ ap (λ (cs : List Command). take n cs) good
    ∙ ap (λ (k : ℕ). take k (given ++ rest)) (sym (cut_sum (length given) n h))
    ∙ take-append-add given rest (n - length given)

pub size_of_front : (size : ShapeNumbers → List Command → ℕ) (shape : ShapeNumbers) (kind : FileKind) (text left : List ℕ)
    (given rest : List Command) → RisesByCommands size → good_commands kind text ≡ given ++ rest
    → length given ≤ commands_taken kind text left → size shape given ≤ size shape (taken_commands kind text left)
size_of_front size shape kind text left given rest rises good h =
    let more = rises shape given (take (commands_taken kind text left - length given) rest) in
    let e = ap (λ (cs : List Command). size shape cs)
    (taken_front kind text left given rest (commands_taken kind text left) good refl h) in
    omega (arith, more, e)

-- All commands of a text were taken: the size of those that a service has is that of those.
pub size_of_all : (size now : ShapeNumbers → List Command → ℕ) (p q : ShapeNumbers) (kind : FileKind) (text left : List ℕ)
    → now ≡ size → p ≡ q → length (good_commands kind text) ≤ commands_taken kind text left
    → now p (up_to_sync (good_commands kind text) ++ since_sync (good_commands kind text))
    ≡ size q (taken_commands kind text left)
size_of_all size now p q kind text left e f h =
    let good = good_commands kind text in
    equal_size size now p q (up_to_sync good ++ since_sync good) (taken_commands kind text left) e f
    (sync_parts good ∙ sym (take_all (commands_taken kind text left) good h))

-- as many were taken as are counted
length_taken : (kind : FileKind) (text left : List ℕ) → length (taken_commands kind text left) ≡ commands_taken kind text left
length_taken kind text left =
    let n = length-take (commands_taken kind text left) (good_commands kind text) in omega (arith, n)

-- The size of the plain services is that of the run.
pub plain_size : (kind : FileKind) (text left : List ℕ)
    → size_of kind (taken_commands kind text left) ≡ run_size kind text left
plain_size Map text left = length_taken Map text left
plain_size Queue text left = length_taken Queue text left
plain_size Stab text left =
    let n = length_taken Stab text left in
    let pairs = pairs_counted (taken_commands Stab text left) in
    omega (arith, n, pairs)
plain_size Dump text left = length_taken Dump text left

-- If adds aren't joined early, the moves of a run go by the size of the run,
pub plain_moves : (kind : FileKind) (shape : ShapeNumbers) (text left : List ℕ)
    → moves_size kind false shape text left ≡ run_size kind text left
plain_moves Map shape text left = length_taken Map text left
plain_moves Queue shape text left = refl
plain_moves Stab shape text left = refl
plain_moves Dump shape text left = refl

-- else by no greater one.
pub moves_few : (kind : FileKind) (early : Bool) (shape : ShapeNumbers) (text left : List ℕ)
    → moves_size kind early shape text left ≤ run_size kind text left
moves_few Map early shape text left =
    let few = joined_most early (load_of shape) (taken_commands Map text left) in
    let n = length_taken Map text left in
    omega (arith, few, n)
moves_few Queue early shape text left = omega arith
moves_few Stab early shape text left = omega arith
moves_few Dump early shape text left = omega arith

-- Those of a map go by no lesser size if more commands were taken.
pub map_rises : (early : Bool) (shape : ShapeNumbers) (text left less : List ℕ)
    → commands_taken Map text left ≤ commands_taken Map text less
    → moves_size Map early shape text left ≤ moves_size Map early shape text less
map_rises early shape text left less h =
    let n = length_taken Map text left in
    size_of_front (map_size early) shape Map text less (taken_commands Map text left)
    (drop (commands_taken Map text left) (good_commands Map text))
    (λ p cs more. joined_rises early (load_of p) cs more)
    (sym (take-append-drop (commands_taken Map text left) (good_commands Map text))) (omega (arith, n, h))
