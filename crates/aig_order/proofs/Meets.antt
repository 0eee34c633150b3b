-- A record is met beside a queue and a list: notes are passed, and then records are written.
use Rattle.std.proofs.Common.{◌≡◌, ℕ, ◌+◌, ◌*◌, ◌≤◌, List, ◌++◌, length, IsTrue, option_to_list, ap, ap₂, sym, ◌∙◌, arith}
use Rattle.em_record.specs.declared.record.Record.{Record}
use Rattle.em_space.specs.Ledger.{Stops}
use Rattle.em_space.specs.Rig.{RigState}
use Rattle.em_space.specs.declared.fault.EmFault.{EmFault}
use Rattle.em_space.specs.declared.queue.Queue.{Ghosts as QueueGhosts}
use Rattle.em_space.proofs.Lists.{apart_sym}
use Rattle.em_chain.specs.Chain.{payload_in}
use Rattle.em_chain.specs.Counts.{ceiling}
use Rattle.em_chain.specs.Session.{writer_account}
use Rattle.em_chain.specs.Writer.{WriterStays, filled, writer_blocks}
use Rattle.em_chain.specs.declared.writer.Writer.{Writer}
use Rattle.em_chain.proofs.Keeps.{has_kept, payload_kept}
use Rattle.em_chain.proofs.Laws.{writer_stays}
use Rattle.em_queued.specs.Popped.{grown_blocks}
use Rattle.em_queued.specs.Queued.{RunsBeside, StopsBeside, no_account}
use Rattle.em_queued.proofs.Popped.{grown_low}
use Rattle.em_queued.proofs.Queued.{beside_apart, beside_as, beside_holds, beside_then, beside_wider, others_beside, others_stop, stops_then, stops_wider}
use Rattle.em_queued.specs.Room.{FitsRoom}
use Rattle.aig_defs.specs.declared.circuit.Header.{Header}
use Rattle.aig_edges.proofs.Pushes.{beside_value, both_none, stops_value}
use Rattle.aig_order.specs.declared.standing.Standing.{Standing}
use Rattle.aig_order.specs.declared.standing.Sweep.{Sweep}
use Rattle.aig_order.specs.SweepCalls.{CanMeet, MeetsOne, PassesNotes, Puts, calls_at, moment_of, standing_after, written_after, written_at}
use Rattle.aig_order.proofs.Meeting.{meet_is, written_len}

-- what is written for a record that took these notes, as one list
abbrev pub sent : Header → Sweep → Standing → Record → Record × Record → List Record
sent h sweep p r notes =
    option_to_list (written_after h sweep p r notes.0 notes.1).0
    ++ option_to_list (written_after h sweep p r notes.0 notes.1).1

-- The list stays while notes are passed.
pub list_stays : {Q : Type 0} (q : QueueGhosts Q) (x y : Q) {s t : RigState} {w : Writer}
    {sweep : Sweep} {p : Standing} {n : ℕ} {r : Record} {notes : Record × Record}
    → CanMeet q 1 x w s → PassesNotes q sweep p n r x y notes s t → WriterStays s t w
list_stays q x y {s} {t} {w} can h =
    let qs = q.blocks x s in
    let ws = writer_blocks s w in
    writer_stays qs s t w h.runs.runs.session.touches
    (λ z. apart_sym qs ws (beside_apart qs ws can.holds z))
    (has_kept 1 (length w.frame) s.pool t.pool h.runs.runs.frames can.writer.frame) can.writer

-- Notes were passed beside it.
pub passed_beside : {Q : Type 0} (q : QueueGhosts Q) (x y : Q) {s t : RigState} {w : Writer}
    {sweep : Sweep} {p : Standing} {n : ℕ} {r : Record} {notes : Record × Record}
    → CanMeet q 1 x w s → PassesNotes q sweep p n r x y notes s t
    → RunsBeside (calls_at sweep r) w.blocks (q.blocks x s ++ writer_blocks s w)
    (q.blocks y t ++ writer_blocks t w) (writer_account w) (writer_account w) (q.counts x)
    (q.counts y) s t
passed_beside q x y {s} {t} {w} can h =
    let st = list_stays q x y can h in
    beside_wider (omega arith) (omega arith)
    (beside_as (q.blocks y t ++ writer_blocks t w)
    (beside_value (writer_blocks s w) (writer_account w) (both_none (writer_account w))
    (both_none (writer_account w)) can.holds h.runs)
    (λ z. ap (λ (ks : List ℕ). q.blocks y t ++ ks) (st.blocks z)))

-- The record was met,
pub meet_one : {Q : Type 0} (q : QueueGhosts Q) (h : Header) (sweep : Sweep) (n : ℕ) (r : Record)
    (x y : Q) (p : Standing) {s t u : RigState} {w v : Writer} (notes : Record × Record)
    → CanMeet q 1 x w s → PassesNotes q sweep p n r x y notes s t
    → (q.counts y).blocks ≤ (q.counts y).most → Puts (sent h sweep p r notes) w v t u
    → (IsTrue t.device.told → q.items y u ≡ q.items y t)
    → (IsTrue t.device.told → q.blocks y u ≡ q.blocks y t)
    → MeetsOne q h sweep n r x y p (standing_after sweep p r notes.0 notes.1) w v s u
meet_one q h sweep n r x y p {s} {t} {u} {w} {v} notes can g most b items blocks =
    let st = list_stays q x y can g in
    let one = passed_beside q x y can g in
    let two = others_beside (q.blocks y t) (q.counts y) b.runs most (beside_holds one) in
    let told = one.runs.session.touches.told in
    let len = written_len h sweep p r notes.0 notes.1 in
    let wider : RunsBeside (calls_at sweep r) v.blocks (q.blocks x s ++ writer_blocks s w)
    (q.blocks y t ++ writer_blocks u v) (writer_account w) (writer_account v) (q.counts x)
    (q.counts y) s u =
    beside_wider (omega arith) (omega (arith, b.grows)) (beside_then one two) in
    let runs = beside_as (q.blocks y u ++ writer_blocks u v) wider
    (λ z. ap (λ (ks : List ℕ). ks ++ writer_blocks u v) (blocks (told ∙ z))) in
    record {
      runs = runs;
      meets = record {
        told = runs.runs.session.touches.told;
        is = b.wrote.is;
        moment = λ z.
            ap₂ (λ (is : List Record) (ws : List Record). record {
              items = is;
              standing = standing_after sweep p r notes.0 notes.1;
              written = ws;
            }) (items (told ∙ z) ∙ g.items z)
            (b.wrote.items (told ∙ z)
            ∙ ap (λ (ws : List Record). ws ++ sent h sweep p r notes) (st.items z))
            ∙ sym (meet_is h sweep n r (moment_of q x p w s) notes.0 notes.1 (g.first z) (g.second z));
        packed = λ z k. b.wrote.packed (told ∙ z) (st.packed z k);
        filled_is = omega (arith, b.wrote.filled_is, st.filled_is, len);
        count_is = omega (arith, b.wrote.count_is, len);
        grows = b.grows;
        more = omega (arith, b.more, len);
        len = omega (arith, g.len);
      };
    }

-- or notes weren't passed,
pub meet_stops : {Q : Type 0} (q : QueueGhosts Q) (sweep : Sweep) (r : Record) (x y : Q)
    {s t : RigState} (w : Writer) {fault : EmFault} → CanMeet q 1 x w s
    → StopsBeside q.room (calls_at sweep r) 0 0 0 (q.blocks x s) no_account (q.counts x) (q.counts y) s t
    fault
    → StopsBeside q.room (calls_at sweep r) (grown_blocks (written_at sweep r) s w)
    (2 * grown_blocks (written_at sweep r) s w) 1 (q.blocks x s ++ writer_blocks s w)
    (writer_account w) (q.counts x) (q.counts y) s t fault
meet_stops q sweep r x y {s} w can g =
    let low = grown_low (written_at sweep r) can.notes.sound can.writer in
    stops_wider (omega arith) (omega (arith, low)) (omega (arith, low)) (omega arith)
    (stops_value (writer_blocks s w) (writer_account w) (both_none (writer_account w)) g)

-- or records weren't written.
pub meet_refused : {Q : Type 0} (q : QueueGhosts Q) (h : Header) (sweep : Sweep) (n : ℕ) (r : Record)
    (x y : Q) (p : Standing) {s t u : RigState} (w : Writer) (notes : Record × Record)
    {fault : EmFault} → CanMeet q 1 x w s → PassesNotes q sweep p n r x y notes s t
    → (q.counts y).blocks ≤ (q.counts y).most → (q.counts y).unstored ≤ t.pool.shape.frames
    → FitsRoom q.room (q.counts y) t
    → Stops (grown_blocks (length (sent h sweep p r notes)) t w)
    (2 * grown_blocks (length (sent h sweep p r notes)) t w) 1 (writer_blocks t w)
    (writer_account w) t u fault
    → StopsBeside q.room (calls_at sweep r) (grown_blocks (written_at sweep r) s w)
    (2 * grown_blocks (written_at sweep r) s w) 1 (q.blocks x s ++ writer_blocks s w)
    (writer_account w) (q.counts x) (q.counts y) s u fault
meet_refused q h sweep n r x y p {s} {t} w notes can g most few fits b =
    let low = grown_low (written_at sweep r) can.notes.sound can.writer in
    let st = list_stays q x y can g in
    let one = passed_beside q x y can g in
    let pay : payload_in t ≡ payload_in s = payload_kept (q.blocks x s) s t
    g.runs.runs.session.touches in
    let len = written_len h sweep p r notes.0 notes.1 in
    let same : grown_blocks (length (sent h sweep p r notes)) t w
    ≡ grown_blocks (written_at sweep r) s w =
    ap₂ (λ (f : ℕ) (k : ℕ). ceiling (f + k) (payload_in t)) st.filled_is len
    ∙ ap (λ (k : ℕ). ceiling (filled s w + written_at sweep r) k) pay in
    stops_wider (omega arith) (omega (arith, low, same)) (omega (arith, same)) (omega arith)
    (stops_then one (others_stop (q.blocks y t) (q.counts y) b most few fits))
