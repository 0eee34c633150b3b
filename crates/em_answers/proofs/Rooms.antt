-- The most blocks that were in use at once in a run.
use Rattle.std.proofs.Common.{◌≡◌, ℕ, ◌+◌, ◌≤◌, ◌++◌, List, length, length-append, ap, sym, subst, ◌∙◌, arith, Bool, IsTrue, Option, Some, None, IfSome}
use Rattle.em_record.specs.Shape.{IsShape, ShapeNumbers}
use Rattle.em_model.specs.Sync.{since_sync, up_to_sync}
use Rattle.em_model.specs.declared.command.Command.{Command}
use Rattle.em_model.proofs.SyncLaws.{sync_parts}
use Rattle.em_space.specs.Queue.{IsRisingRoom, Leaves, QueueCounts}
use Rattle.em_space.specs.Rig.{RigState, Touches}
use Rattle.em_lines.specs.CommandLine.{good_commands}
use Rattle.em_lines.specs.RunSize.{commands_taken, run_size}
use Rattle.em_lines.specs.declared.text.FileKind.{FileKind}
use Rattle.em_lines.specs.declared.text.FileKind.TheVariants as kind
use Rattle.em_services.specs.Service.{RisesBySize, ServiceCounts, WithinRoom, size_of}
use Rattle.em_answers.specs.Reading.{ArePuts, KeepsRoom, KeepsRoomAt, KeepsRoomOver, StandsAlone}
use Rattle.em_answers.proofs.Base.{size_over}
use Rattle.em_answers.proofs.Listing.{taken_most}

-- a number of blocks within a room is within that for a greater size
room_wider : (room : Option (ShapeNumbers → ℕ → ℕ)) (shape : ShapeNumbers) (m n most : ℕ)
    → IfSome room RisesBySize → IsShape shape → m ≤ n → IfSome room (λ f. most ≤ f shape m)
    → IfSome room (λ f. most ≤ f shape n)
room_wider None shape m n most rises is few h = tt
room_wider (Some f) shape m n most rises is few h =
    let more = rises shape m n is few in omega (arith, h, more)

-- A service that is alone was given commands of a text: no more blocks were in use up to now,
pub alone_keeps : (base : ℕ) (allowance room : Option (ShapeNumbers → ℕ → ℕ)) {sized : ℕ} (tells : Bool) (kind : FileKind)
    (text left held : List ℕ) (c : ServiceCounts) (s : RigState) → IfSome room RisesBySize
    → IsShape s.pool.shape → StandsAlone allowance room sized held c s
    → (IsTrue tells → c.n ≤ commands_taken kind text left + base) → KeepsRoomOver base room tells kind text left s
alone_keeps base allowance room tells kind text left held c s rises is a taken = λ told d.
    let few = taken told in
    let most = taken_most kind text left in
    room_wider room s.pool.shape c.n (run_size kind text left + base) s.most rises is (omega (arith, few, most))
    (a.most d)

call_most : (room : Option (ShapeNumbers → ℕ → ℕ)) (n size run : ℕ) (held : List ℕ) (s t : RigState)
    → IfSome room RisesBySize → IsShape s.pool.shape → IfSome room (λ f. s.used ≡ length held)
    → IfSome room (λ f. s.most ≤ f s.pool.shape n) → t.pool.shape ≡ s.pool.shape
    → WithinRoom room size held s t → IsTrue s.device.told → n ≤ run → size ≤ run
    → IfSome room (λ f. t.most ≤ f t.pool.shape run)
call_most None n size run held s t rises is used before shape w told few small = tt
call_most (Some f) n size run held s t rises is used before shape w told few small =
    let most = (w told).is in
    let first = rises s.pool.shape n run is few in
    let more = rises s.pool.shape size run is small in
    rw shape (omega (arith, most, used, before, first, more))

-- up to the end of a call on it for this size,
pub call_keeps : (base : ℕ) (allowance room : Option (ShapeNumbers → ℕ → ℕ)) {sized : ℕ} (tells : Bool) (kind : FileKind)
    (text left changed held : List ℕ) (size : ℕ) (c : ServiceCounts) (s t : RigState) → IfSome room RisesBySize
    → IsShape s.pool.shape → Touches changed s t → StandsAlone allowance room sized held c s
    → (IsTrue tells → WithinRoom room size held s t) → (IsTrue tells → c.n ≤ run_size kind text left + base)
    → (IsTrue tells → size ≤ run_size kind text left + base) → KeepsRoomOver base room tells kind text left t
call_keeps base allowance room tells kind text left changed held size c s t rises is touches a w few small = λ told d.
    let here = sym touches.told ∙ d in
    call_most room c.n size (run_size kind text left + base) held s t rises is (a.used here) (a.most here) touches.shape
    (w told) here (few told) (small told)

-- up to the end of the call that gives the answers, where they are all,
pub answers_keep : (base : List Command) (allowance room : Option (ShapeNumbers → ℕ → ℕ)) {sized : ℕ} (tells : Bool)
    (kind : FileKind) (text left changed held : List ℕ) (c : ServiceCounts) (s t : RigState) → IfSome room RisesBySize
    → IsShape s.pool.shape → Touches changed s t → StandsAlone allowance room sized held c s → ArePuts base
    → (IsTrue tells → WithinRoom room (size_of kind (up_to_sync (base ++ good_commands kind text)
    ++ since_sync (base ++ good_commands kind text))) held s t)
    → (IsTrue tells → c.n ≤ commands_taken kind text left + length base)
    → (IsTrue tells
    → c.n ≡ length (up_to_sync (base ++ good_commands kind text) ++ since_sync (base ++ good_commands kind text)))
    → KeepsRoomOver (length base) room tells kind text left t
answers_keep base allowance room tells kind text left changed held c s t rises is touches a puts w taken len =
    let good = good_commands kind text in
    let parts = sync_parts (base ++ good) in
    let size = ap (λ (cs : List Command). length cs) parts in
    let both = length-append base good in
    let all = taken_most kind text left in
    call_keeps (length base) allowance room tells kind text left changed held (size_of kind (base ++ good)) c s t rises is
    touches a
    (λ told. subst (λ (cs : List Command). WithinRoom room (size_of kind cs) held s t) parts (w told))
    (λ told. let few = taken told in omega (arith, few, all))
    (λ told. let few = taken told in let n = len told in
    size_over kind text left base puts (omega (arith, few, n, size, both)))

-- and after calls that took no block.
pub same_keeps : (room : Option (ShapeNumbers → ℕ → ℕ)) (tells : Bool) (size : ℕ) (s t : RigState)
    → t.pool.shape ≡ s.pool.shape → t.device.told ≡ s.device.told
    → t.most ≡ s.most → KeepsRoomAt room tells size s → KeepsRoomAt room tells size t
same_keeps room tells size s t shape same most k = λ told d.
    rw (shape, most) (k told (sym same ∙ d))

-- Over no base the size is that of what was read.
pub keeps_none : (room : Option (ShapeNumbers → ℕ → ℕ)) (tells : Bool) (kind : FileKind) (text left : List ℕ) (t : RigState)
    → KeepsRoomOver 0 room tells kind text left t → KeepsRoom room tells kind text left t
keeps_none room tells kind text left t k = subst (λ (size : ℕ). KeepsRoomAt room tells size t)
    (let e : run_size kind text left + 0 ≡ run_size kind text left = omega arith in e) k

queue_most : (room : Option (ShapeNumbers → ℕ → ℕ)) (shape : ShapeNumbers) (k run held most : ℕ)
    → IfSome room IsRisingRoom → k ≤ run → most ≤ held → IfSome room (λ f. held ≤ f shape k)
    → IfSome room (λ f. most ≤ f shape run)
queue_most None shape k run held most rises few within h = tt
queue_most (Some f) shape k run held most rises few within h =
    let more = rises shape k run few in omega (arith, h, more, within)

-- The same of a queue that was alone, and was given up.
pub queue_keeps : (room : Option (ShapeNumbers → ℕ → ℕ)) (tells : Bool) (text left : List ℕ)
    (c : QueueCounts) (s t : RigState) → IfSome room IsRisingRoom → c.k ≤ c.n
    → (IsTrue tells → c.n ≤ commands_taken kind.Queue text left)
    → (IsTrue s.device.told → IfSome room (λ f. c.most ≤ f s.pool.shape c.k)) → s.most ≤ c.most
    → Leaves c s t → KeepsRoom room tells kind.Queue text left t
queue_keeps room tells text left c s t rises k calls fits within l = λ told d.
    let n = calls told in
    let most : t.most ≡ s.most = ap (λ (r : RigState). r.most) l.same in
    rw (l.touches.shape, most) (queue_most room s.pool.shape c.k (commands_taken kind.Queue text left) c.most s.most
    rises (omega (arith, k, n)) within (fits (sym l.touches.told ∙ d)))
