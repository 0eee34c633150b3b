-- The moves of a run over a service that states an allowance.
use Rattle.std.proofs.Common.{◌≡◌, ℕ, ◌+◌, ◌*◌, ◌≤◌, List, [], ◌∷◌, ◌++◌, length, refl, ap, sym, subst, ◌∙◌, arith, append_assoc, Bool, IsTrue, Option, Some, None, IfSome}
use Rattle.std.proofs.Math.Nat.{mul-le-mul}
use Rattle.std.proofs.lemmas.List.{append-nil, length-append}
use Rattle.em_record.specs.Shape.{IsShape, ShapeNumbers}
use Rattle.em_io.specs.Shelf.{SlotState}
use Rattle.em_io.specs.declared.shelf.Slot.{Slot}
use Rattle.em_io.specs.declared.shelf.Slot.TheVariants.{First}
use Rattle.em_model.specs.Sync.{since_sync, up_to_sync}
use Rattle.em_model.specs.declared.command.Command.{Command}
use Rattle.em_model.proofs.SyncLaws.{sync_parts}
use Rattle.em_space.specs.Rig.{RigState}
use Rattle.em_chain.specs.Chain.{payload_in}
use Rattle.em_chain.specs.Counts.{ceiling}
use Rattle.em_lines.specs.CommandLine.{good_commands}
use Rattle.em_lines.specs.RunSize.{commands_taken}
use Rattle.em_lines.specs.declared.text.FileKind.{FileKind}
use Rattle.em_map.specs.Areas.{KeepsAreas}
use Rattle.em_services.specs.Service.{RisesBySize, ServiceCounts, WithinAllowance, syncs_for}
use Rattle.em_answers.specs.Limits.{for_each, syncs_in, taken_commands, taken_size}
use Rattle.em_answers.specs.Reading.{KeepsAllowance, StandsAlone, moves_within}
use Rattle.em_answers.proofs.Sizes.{RisesByCommands, equal_size, size_of_all, size_of_front}
use Rattle.em_answers.proofs.Synced.{syncs_so_far, syncs_with}

-- more syncs, and more for each
pub times_both : (x y m n : ℕ) → x ≤ y → m ≤ n → (x + 1) * m ≤ (y + 1) * n
times_both x y m n h k = mul-le-mul {n₁ = x + 1} {m₁ = m} {n₂ = y + 1} {m₂ = n} (omega (arith, h)) k

times_within : (f : ShapeNumbers → ℕ → ℕ) (p q : ShapeNumbers) (x y m n last : ℕ) → RisesBySize f → IsShape p → p ≡ q
    → x ≤ y → m ≤ n → last ≤ (x + 1) * f p m → last ≤ (y + 1) * f q n
times_within f p q x y m n last rises is same h k now =
    let all = times_both x y (f p m) (f p n) h (rises p m n is k) in
    let wide : last ≤ (y + 1) * f p n = omega (arith, now, all) in
    subst (λ (r : ShapeNumbers). last ≤ (y + 1) * f r n) same wide

-- A service that is alone was given commands of a text: all moves up to now,
pub alone_reads : (allowance room : Option (ShapeNumbers → ℕ → ℕ)) (size : ShapeNumbers → List Command → ℕ)
    (kind : FileKind) (text left held : List ℕ) (few : ℕ) (c : ServiceCounts) (s t : RigState)
    → IfSome allowance RisesBySize → IsShape t.pool.shape → t.device.told ≡ s.device.told
    → t.pool.shape ≡ s.pool.shape → StandsAlone allowance room few held c t
    → few ≤ size s.pool.shape (taken_commands kind text left) → c.syncs ≤ syncs_in kind text left
    → KeepsAllowance allowance size kind text left s t
alone_reads None room size kind text left held few c s t rises is told shape a most syncs = tt
alone_reads (Some f) room size kind text left held few c s t rises is told shape a most syncs = λ z.
    times_within f t.pool.shape s.pool.shape c.syncs (syncs_in kind text left) few
    (size s.pool.shape (taken_commands kind text left)) t.moves rises is shape syncs most (a.within (told ∙ z))

-- those up to the end of a call on it,
pub call_reads : (allowance room : Option (ShapeNumbers → ℕ → ℕ)) {few : ℕ} (size : ShapeNumbers → List Command → ℕ)
    (kind : FileKind) (text left held : List ℕ) (called syncs : ℕ) (c : ServiceCounts) (s t u : RigState)
    → IfSome allowance RisesBySize → IsShape t.pool.shape → t.device.told ≡ s.device.told
    → t.pool.shape ≡ s.pool.shape → StandsAlone allowance room few held c t
    → WithinAllowance allowance called syncs c.spent t u → called ≤ size s.pool.shape (taken_commands kind text left)
    → syncs ≤ syncs_in kind text left → KeepsAllowance allowance size kind text left s u
call_reads None room size kind text left held called syncs c s t u rises is told shape a w most fewer = tt
call_reads (Some f) room size kind text left held called syncs c s t u rises is told shape a w most fewer = λ z.
    let now = w (told ∙ z) in
    let before = a.moved (λ p. told ∙ z) in
    let all : u.moves ≤ (syncs + 1) * f t.pool.shape called = omega (arith, now, before) in
    times_within f t.pool.shape s.pool.shape syncs (syncs_in kind text left) called
    (size s.pool.shape (taken_commands kind text left)) u.moves rises is shape fewer most all

-- The same of a service that was given these commands: up to now,
pub given_reads : (allowance room : Option (ShapeNumbers → ℕ → ℕ)) {own after : ℕ}
    (size : ShapeNumbers → List Command → ℕ) (kind : FileKind) (text left first held : List ℕ) (c : ServiceCounts)
    (s t : RigState) (given rest : List Command) → IfSome allowance RisesBySize → RisesByCommands size
    → KeepsAreas own after first s t → StandsAlone allowance room (size s.pool.shape given) held c t
    → good_commands kind text ≡ given ++ rest
    → c.n ≡ length (up_to_sync given ++ since_sync given)
    → c.syncs ≤ syncs_for kind (up_to_sync given ++ since_sync given) → c.n ≤ commands_taken kind text left
    → KeepsAllowance allowance size kind text left s t
given_reads allowance room size kind text left first held c s t given rest rises grows goes a good len few taken =
    let long = ap (λ (cs : List Command). length cs) (sync_parts given) in
    alone_reads allowance room size kind text left held (size s.pool.shape given) c s t rises goes.sound.shape
    goes.touches.told goes.touches.shape a
    (size_of_front size s.pool.shape kind text left given rest grows good (omega (arith, long, len, taken)))
    (syncs_so_far kind text left given c.n c.syncs len few rest good taken)

-- up to the end of the next command,
pub command_reads : (allowance room : Option (ShapeNumbers → ℕ → ℕ)) {own after sized : ℕ}
    (size now : ShapeNumbers → List Command → ℕ) (kind : FileKind) (text left first held : List ℕ) (c : ServiceCounts)
    (s t u : RigState) (given : List Command) (d : Command) (rest : List Command) → IfSome allowance RisesBySize
    → RisesByCommands size → now ≡ size → KeepsAreas own after first s t → StandsAlone allowance room sized held c t
    → good_commands kind text ≡ given ++ d ∷ rest
    → c.n ≡ length (up_to_sync given ++ since_sync given)
    → c.syncs ≤ syncs_for kind (up_to_sync given ++ since_sync given) → c.n + 1 ≤ commands_taken kind text left
    → WithinAllowance allowance (now t.pool.shape (given ++ d ∷ [])) (c.syncs + syncs_for kind (d ∷ [])) c.spent t u
    → KeepsAllowance allowance size kind text left s u
command_reads allowance room size now kind text left first held c s t u given d rest rises grows same goes a good len
    few taken w =
    let long = ap (λ (cs : List Command). length cs) (sync_parts given) in
    let one = length-append given (d ∷ []) in
    let e = equal_size size now t.pool.shape s.pool.shape (given ++ d ∷ []) (given ++ d ∷ []) same goes.touches.shape
    refl in
    let front = size_of_front size s.pool.shape kind text left (given ++ d ∷ []) rest grows
    (good ∙ sym (append_assoc given (d ∷ []) rest)) (omega (arith, long, one, len, taken)) in
    call_reads allowance room size kind text left held (now t.pool.shape (given ++ d ∷ []))
    (c.syncs + syncs_for kind (d ∷ [])) c s t u rises goes.sound.shape goes.touches.told goes.touches.shape a w
    (omega (arith, e, front)) (syncs_with kind text left given c.n c.syncs len few d rest good taken)

-- and, where they are all, up to the end of the call that gives the answers.
pub all_reads : (allowance room : Option (ShapeNumbers → ℕ → ℕ)) {sized : ℕ}
    (size now : ShapeNumbers → List Command → ℕ) (kind : FileKind) (text left held : List ℕ) (c : ServiceCounts)
    (s t u : RigState) → IfSome allowance RisesBySize → now ≡ size → IsShape t.pool.shape
    → t.device.told ≡ s.device.told → t.pool.shape ≡ s.pool.shape → StandsAlone allowance room sized held c t
    → WithinAllowance allowance (now t.pool.shape (up_to_sync (good_commands kind text)
    ++ since_sync (good_commands kind text))) c.syncs c.spent t u
    → c.n ≤ commands_taken kind text left
    → c.n ≡ length (up_to_sync (good_commands kind text) ++ since_sync (good_commands kind text))
    → c.syncs ≤ syncs_for kind (up_to_sync (good_commands kind text) ++ since_sync (good_commands kind text))
    → KeepsAllowance allowance size kind text left s u
all_reads allowance room size now kind text left held c s t u rises same is told shape a w taken len few =
    let good = good_commands kind text in
    let long = ap (λ (cs : List Command). length cs) (sync_parts good) in
    let e = size_of_all size now t.pool.shape s.pool.shape kind text left same shape (omega (arith, taken, len, long)) in
    call_reads allowance room size kind text left held (now t.pool.shape (up_to_sync good ++ since_sync good)) c.syncs
    c s t u rises is told shape a w (omega (arith, e))
    (syncs_so_far kind text left good c.n c.syncs len few [] (sym (append-nil good)) taken)

-- None was made.
pub new_reads : (allowance : Option (ShapeNumbers → ℕ → ℕ)) (size : ShapeNumbers → List Command → ℕ) (kind : FileKind)
    (text left : List ℕ) (s t : RigState) → IfSome allowance RisesBySize → IsShape s.pool.shape → s.moves ≡ 0
    → WithinAllowance allowance 0 0 (λ shape. 0) s t → KeepsAllowance allowance size kind text left s t
new_reads None size kind text left s t rises is none w = tt
new_reads (Some f) size kind text left s t rises is none w = λ z.
    let now = w z in
    let all : t.moves ≤ (0 + 1) * f s.pool.shape 0 = omega (arith, now, none) in
    times_within f s.pool.shape s.pool.shape 0 (syncs_in kind text left) 0
    (size s.pool.shape (taken_commands kind text left)) t.moves rises is refl (omega arith) (omega arith) all

-- It was made before, and given up after.
pub reads_around : (allowance : Option (ShapeNumbers → ℕ → ℕ)) (size : ShapeNumbers → List Command → ℕ)
    (kind : FileKind) (text left : List ℕ) (s t u v : RigState) → t.device.told ≡ s.device.told
    → t.pool.shape ≡ s.pool.shape → v.moves ≡ u.moves → KeepsAllowance allowance size kind text left t u
    → KeepsAllowance allowance size kind text left s v
reads_around None size kind text left s t u v told shape same r = tt
reads_around (Some f) size kind text left s t u v told shape same r = λ z.
    let now = r (told ∙ z) in rw (← shape, same) now

-- With the printing of its answers these are the moves of the run,
pub printed_reads : (allowance : Option (ShapeNumbers → ℕ → ℕ)) (size : ShapeNumbers → List Command → ℕ)
    (kind : FileKind) (text left : List ℕ) (s m t : RigState) → KeepsAllowance allowance size kind text left s m
    → (IsTrue s.device.told
    → t.moves ≤ m.moves + ceiling (size s.pool.shape (taken_commands kind text left)) (payload_in s))
    → KeepsAllowance (moves_within allowance) size kind text left s t
printed_reads None size kind text left s m t r more = tt
printed_reads (Some f) size kind text left s m t r more = λ z.
    let now = r z in
    let printed = more z in
    omega (arith, now, printed)

-- by how far each slot was read.
pub run_moves : (moves : Option (ShapeNumbers → ℕ → ℕ)) (size : ShapeNumbers → List Command → ℕ) (tells : Bool)
    (kind : FileKind) (text : List ℕ) (slots : Slot → SlotState) (s t : RigState) → t.device.moves ≡ t.moves
    → (IsTrue tells → KeepsAllowance moves size kind text (slots First).left s t)
    → IsTrue tells → IsTrue s.device.told
    → IfSome (for_each moves (λ slots. syncs_in kind text (slots First).left)
    (λ shape slots. taken_size size kind shape text (slots First).left))
    (λ f. t.device.moves ≤ s.device.moves + f s.pool.shape slots)
run_moves None size tells kind text slots s t same r = λ z d. tt
run_moves (Some f) size tells kind text slots s t same r = λ z d.
    let now = r z d in
    omega (arith, now, same)
