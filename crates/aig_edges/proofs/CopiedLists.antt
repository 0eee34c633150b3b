-- A list is opened to be written anew; the copy is finished, or both are let go.
use Rattle.std.proofs.Common.{◌≡◌, ℕ, ◌+◌, ◌*◌, ◌<◌, ◌≤◌, ◌^◌, min, List, [], ◌∷◌, ◌++◌, length, IsTrue, true, Result, Ok, Err, IfOk, IfErr, refl, ap, ap₂, sym, ◌∙◌, subst, arith}
use Rattle.std.proofs.lemmas.List.{append-nil}
use Rattle.em_record.specs.declared.record.Record.{Record}
use Rattle.em_frames.specs.Pool.{GivenFrames, LentFrames, PoolCounts, SameFrames, singles_of}
use Rattle.em_space.specs.Held.{Holds}
use Rattle.em_space.specs.Ledger.{Account, both, Spends}
use Rattle.em_space.specs.Rig.{RigState, Goes, BlockCause, DeviceCause}
use Rattle.em_space.specs.declared.fault.EmFault.{EmFault}
use Rattle.em_space.proofs.Held.{apart_none}
use Rattle.em_space.proofs.Ledgers.{full_never, spends_wider}
use Rattle.em_space.proofs.Lists.{distinct_apart}
use Rattle.em_space.proofs.Paying.{pays_kept, pays_more}
use Rattle.em_space.proofs.Sessions.{session_as, session_still}
use Rattle.em_space.proofs.Steps.{block_cause, touches_then}
use Rattle.em_space.proofs.Within.{within_none}
use Rattle.em_chain.specs.Chain.{ChainStays, IsChain, chain_blocks, chain_items, payload_in}
use Rattle.em_chain.specs.Counts.{ceiling}
use Rattle.em_chain.specs.Effects.{GivesFrame, LendsFrame, Unmoved}
use Rattle.em_chain.specs.Reader.{owed, reader_items, rest_of}
use Rattle.em_chain.specs.Reads.{Opens}
use Rattle.em_chain.specs.Row.{Frees}
use Rattle.em_chain.specs.Session.{FinishSpends, chain_account, pair_account, pair_blocks, writer_account}
use Rattle.em_chain.specs.Writer.{IsPackedSoFar, IsWriter, writer_blocks, writer_items}
use Rattle.em_chain.specs.Writes.{Begins, Finishes}
use Rattle.em_chain.specs.declared.chain.Chain.{Chain}
use Rattle.em_chain.specs.declared.reader.Reader.{Reader}
use Rattle.em_chain.specs.declared.writer.Writer.{Writer}
use Rattle.em_chain.proofs.Counts.{writer_blocks_are}
use Rattle.em_chain.proofs.Keeps.{has_kept, payload_kept}
use Rattle.em_chain.proofs.Laws.{writer_stays}
use Rattle.em_chain.proofs.Pairs.{pair_holds}
use Rattle.em_chain.proofs.Parts.{begins_part}
use Rattle.em_chain.proofs.Readers.{length_left, reader_stays}
use Rattle.aig_edges.specs.Accounts.{stored_account}
use Rattle.aig_edges.specs.Copies.{AreCopied, CanWriteAnew, CopiesList, CopiesOn, WritesAnew, StopsWritingAnew, copied_from}
use Rattle.aig_edges.specs.Sorts.{sorting_moves}
use Rattle.aig_edges.specs.declared.copying.Copied.{Copied}
use Rattle.aig_edges.proofs.Besides.{stops_by}
use Rattle.aig_edges.proofs.CopySteps.{copies_count, still_copied}
use Rattle.aig_edges.proofs.Finishes.{Part, PartStops, StillWritten, finish_part, finish_stops, part_as, part_second, part_stops_after, part_stops_second, part_stops_still, part_stops_wider, part_then}
use Rattle.aig_edges.proofs.Opened.{has_out, unmoved_then}
use Rattle.aig_edges.proofs.Pushed.{unloaded_by}

-- what a list has that is to be read and released
abbrev list_account : Chain → Account
list_account c = stored_account c.blocks (2 * c.blocks)

-- the blocks of its records in a packed list
abbrev list_room_of : RigState → Chain → ℕ
list_room_of s c = ceiling c.count (payload_in s)

-- A list was opened, and one was begun: two frames were lent.
pub record OpensCopy (s t : RigState) (c : Chain) (r : Reader) (w : Writer) : Type 0 where
  pub are : AreCopied t r w
  pub frames : LentFrames 2 s.pool t.pool
  pub out : t.pool.free + 2 ≤ singles_of t.pool.shape
  pub payload_is : payload_in t ≡ payload_in s
  pub told : t.device.told ≡ s.device.told
  pub items : IsTrue s.device.told → reader_items t r ≡ chain_items s c
  pub none : writer_items t w ≡ []
  pub packed : IsPackedSoFar t w
  pub begun : w.count ≡ 0
  pub count_is : r.count ≡ c.count
  pub held_is : r.blocks ≡ c.blocks
  pub part : Part c.blocks (chain_blocks s c) (pair_blocks t r w) (list_account c) (pair_account r w) s
      t

front_blocks : {ws ks : List ℕ} → ws ≡ [] → ws ++ ks ≡ ks
front_blocks {ws} {ks} e = rw e refl

pub opens_copy : {s a t : RigState} {c : Chain} {r : Reader} {w : Writer} → CanWriteAnew s c
    → LendsFrame s a → Unmoved s a → Opens s a c true r → LendsFrame a t → Unmoved a t → Begins t w
    → OpensCopy s t c r w
opens_copy {s} {a} {t} {c} {r} {w} can l u o m n b =
    let shape = m.frames.shape in
    let now = ap singles_of shape in
    let first = ap singles_of l.frames.shape in
    let within = l.within in
    let one = l.frames.free in
    let two = m.frames.free in
    let many = can.free in
    let few = can.few in
    let st = reader_stays [] a t r m.touches (λ z. apart_none (chain_blocks a (rest_of r)))
    (has_out o.is.frame shape (omega (arith, now, first, within, one, two))) o.is in
    let touches = touches_then [] s a t l.touches m.touches in
    let all = unmoved_then u n in
    let used = all.same.used in
    let most = all.same.most in
    let moves = all.moves in
    let count : r.count ≡ c.count = ap (λ (z : Chain). z.count) o.words in
    let held : r.blocks ≡ c.blocks = ap (λ (z : Chain). z.blocks) o.words in
    let owed_is = o.owed_is in
    let blocks = b.blocks in
    let begun = b.count in
    let filled_is = b.filled_is in
    let told = l.touches.told in
    record {
      are = record {
        sound = m.sound;
        free = omega (arith, many, one, two);
        pair = (begins_part s a t c r w o m b).pair;
        filled_is = omega (arith, filled_is, begun);
        few = omega (arith, begun, count, few);
      };
      frames = record {
        shape = shape ∙ l.frames.shape;
        free = omega (arith, one, two);
        rack = m.frames.rack ∙ l.frames.rack;
        free_areas = m.frames.free_areas ∙ l.frames.free_areas;
        peak = let p = l.frames.peak in let q = m.frames.peak in omega (arith, p, q);
      };
      out = omega (arith, now, first, within, one, two);
      payload_is = payload_kept [] s t touches;
      told = touches.told;
      items = λ z. st.items (told ∙ z) ∙ o.items z;
      none = b.items;
      packed = b.packed;
      begun = begun;
      count_is = count;
      held_is = held;
      part = record {
        session = session_as (pair_blocks t r w)
            (session_still (chain_blocks s c) m.sound touches can.holds)
            (λ z. front_blocks b.held ∙ st.blocks (told ∙ z) ∙ o.blocks z);
        spends = record {
          held = omega (arith, held, blocks);
          used = omega (arith, held, blocks, used);
          most = omega (arith, most);
          moves = omega (arith, owed_is, blocks, moves);
          later = omega (arith, moves);
          pays = pays_more (pays_kept 0 (omega (arith, used)) (omega (arith, moves)))
              (omega (arith, blocks));
        };
      };
    }

-- frames that were lent came back
frames_back : {p q r o : PoolCounts} → LentFrames 2 p q → GivenFrames 1 q r → GivenFrames 1 r o
    → SameFrames p o
frames_back l g h = record {
  shape = h.shape ∙ g.shape ∙ l.shape;
  free = let a = l.free in let b = g.free in let c = h.free in omega (arith, a, b, c);
  rack = h.rack ∙ g.rack ∙ l.rack;
  free_areas = h.free_areas ∙ g.free_areas ∙ l.free_areas;
  peak = let a = l.peak in let b = g.peak in let c = h.peak in omega (arith, a, b, c);
}

still_lent : {p q r : PoolCounts} → LentFrames 2 p q → SameFrames q r → LentFrames 2 p r
still_lent l g = record {
  shape = g.shape ∙ l.shape;
  free = let a = l.free in let b = g.free in omega (arith, a, b);
  rack = g.rack ∙ l.rack;
  free_areas = g.free_areas ∙ l.free_areas;
  peak = let a = l.peak in let b = g.peak in omega (arith, a, b);
}

one_lent : {p q r o : PoolCounts} → LentFrames 2 p q → GivenFrames 1 q r → SameFrames r o
    → LentFrames 1 p o
one_lent l g h = record {
  shape = h.shape ∙ g.shape ∙ l.shape;
  free = let a = l.free in let b = g.free in let c = h.free in omega (arith, a, b, c);
  rack = h.rack ∙ g.rack ∙ l.rack;
  free_areas = h.free_areas ∙ g.free_areas ∙ l.free_areas;
  peak = let a = l.peak in let b = g.peak in let c = h.peak in omega (arith, a, b, c);
}

last_back : {p q r : PoolCounts} → LentFrames 1 p q → GivenFrames 1 q r → SameFrames p r
last_back l g = record {
  shape = g.shape ∙ l.shape;
  free = let a = l.free in let b = g.free in omega (arith, a, b);
  rack = g.rack ∙ l.rack;
  free_areas = g.free_areas ∙ l.free_areas;
  peak = let a = l.peak in let b = g.peak in omega (arith, a, b);
}

-- Calls gave up, within what writing a list anew may take.
stops_copy : (kind : Copied) {s t : RigState} (c : Chain) {e : EmFault} {p m f : ℕ}
    → PartStops p m f (chain_blocks s c) (list_account c) s t e → p ≤ c.blocks + list_room_of s c
    → m ≤ 2 * list_room_of s c + 1 → f ≤ 1 → SameFrames s.pool t.pool → WritesAnew kind s t c (Err e)
stops_copy kind {s} {t} c {e} x high most low frames =
    let y = part_stops_wider high most low x in
    stops_by (stored_account c.blocks (sorting_moves s c)) (omega arith) refl refl (omega arith)
    (record {
      goes = record { sound = y.sound; touches = y.touches; frames = frames };
      halts = y.halts;
      cause = y.cause;
    })

-- A record wasn't read or not written, and both were let go.
pub copy_stops : (kind : Copied) {s b c d t : RigState} {l : Chain} {r : Reader} {w : Writer}
    {e : EmFault} → OpensCopy s b l r w → StopsWritingAnew (w.count + r.count) b c r w e
    → GivesFrame [] c d → Unmoved c d → GivesFrame [] d t → Unmoved d t
    → WritesAnew kind s t l (Err e)
copy_stops kind {s} {b} {l = l} {r} {w} o x g u f n =
    let count = o.count_is in
    let begun = o.begun in
    let held = o.held_is in
    let room : ceiling (w.count + r.count) (payload_in b) ≡ list_room_of s l =
    ap₂ ceiling (omega (arith, count, begun)) o.payload_is in
    let y = part_stops_after o.part (record {
      sound = x.goes.sound;
      touches = x.goes.touches;
      halts = x.halts;
      cause = x.cause;
    }) in
    stops_copy kind l
    (part_stops_still f.sound f.touches n (part_stops_still g.sound g.touches u y))
    (omega (arith, held, room)) (omega (arith, room)) (omega arith)
    (frames_back (still_lent o.frames x.goes.frames) g.frames f.frames)

-- All records were written.
pub record CopiesWhole (kind : Copied) (s c : RigState) (l : Chain) (k : Reader) (j : Writer) : Type 0
  where
    pub are : AreCopied c k j
    pub frames : LentFrames 2 s.pool c.pool
    pub out : c.pool.free + 2 ≤ singles_of c.pool.shape
    pub told : c.device.told ≡ s.device.told
    pub items : IsTrue s.device.told → writer_items c j ≡ copied_from kind 0 (chain_items s l)
    pub packed : IsTrue s.device.told → IsPackedSoFar c j
    pub count_is : j.count ≡ l.count
    pub blocks_is : j.blocks ≡ list_room_of s l
    pub none : k.count ≡ 0
    pub fewer : k.blocks ≤ l.blocks
    pub part : Part (l.blocks + list_room_of s l) (chain_blocks s l) (pair_blocks c k j)
        (list_account l) (pair_account k j) s c

none_by : {T : Type 0} (xs : List T) → length xs ≡ 0 → xs ≡ []
none_by [] e = refl
none_by (x ∷ xs) e = absurd (omega arith)

pub copies_whole : {kind : Copied} {s b c : RigState} {l : Chain} {r k : Reader} {w j : Writer}
    → OpensCopy s b l r w → CopiesOn kind 0 l.count b c r k w j → CopiesWhole kind s c l k j
copies_whole {kind} {s} {b} {c} {l} {r} {k} {w} {j} o m =
    let i = still_copied o.are m in
    let runs = m.pairs.runs in
    let now = m.pairs.took.told in
    let left = m.pairs.took.left_is in
    let read = m.count_is in
    let total = o.count_is in
    let begun = o.begun in
    let both_is = copies_count m in
    let none : k.count ≡ 0 = omega (arith, left, read, total) in
    let count : j.count ≡ l.count = omega (arith, both_is, none, begun, total) in
    let payload : payload_in c ≡ payload_in s = m.pairs.took.payload_is ∙ o.payload_is in
    let blocks : j.blocks ≡ list_room_of s l =
    writer_blocks_are c j i.sound.shape.block_low i.pair.writer ∙ ap₂ ceiling (i.filled_is ∙ count)
    payload in
    let held = o.held_is in
    let fewer = m.pairs.took.fewer in
    let p = part_then o.part (record { session = runs.session; spends = runs.spends }) in
    record {
      are = i;
      frames = still_lent o.frames runs.frames;
      out =
          let singles = ap singles_of runs.frames.shape in
          let free = runs.frames.free in
          let was = o.out in
          omega (arith, singles, free, was);
      told = now ∙ o.told;
      items = λ z.
          let y : IsTrue b.device.told = o.told ∙ z in
          let rest : reader_items c k ≡ [] = none_by (reader_items c k)
          (length_left c k i.pair.reader (now ∙ y) ∙ none) in
          let all : m.items ≡ chain_items s l =
          sym (append-nil m.items) ∙ ap (λ (rs : List Record). m.items ++ rs) (sym rest)
          ∙ sym (m.pairs.took.items y) ∙ o.items z in
          m.pairs.wrote.items y
          ∙ ap (λ (rs : List Record). rs ++ copied_from kind 0 m.items) o.none
          ∙ ap (λ (rs : List Record). copied_from kind 0 rs) all;
      packed = λ z. m.pairs.wrote.packed (o.told ∙ z) o.packed;
      count_is = count;
      blocks_is = blocks;
      none = none;
      fewer = omega (arith, fewer, held);
      part = record {
        session = p.session;
        spends = spends_wider (omega (arith, held, blocks)) p.spends;
      };
    }

-- the same calls, of which the values have an account with these numbers
part_like : {p : ℕ} {held ks : List ℕ} {a b : Account} {s t : RigState} (c : Account)
    → c.blocks ≡ b.blocks → c.unstored ≡ b.unstored → c.paid ≡ b.paid → c.owed ≡ b.owed
    → Part p held ks a b s t → Part p held ks a c s t
part_like c blocks unstored paid owed h =
    let z = h.spends in
    record {
      session = h.session;
      spends = record {
        held = omega (arith, z.held, blocks);
        used = omega (arith, z.used, blocks);
        most = z.most;
        moves = omega (arith, z.moves, paid, owed);
        later = z.later;
        pays = pays_more z.pays (omega (arith, unstored));
      };
    }

-- All was read, and the reader was ended; what is left is a list of no record.
pub record EndsCopy (s a : RigState) (k : Reader) (j : Writer) : Type 0 where
  pub chain : IsChain a (rest_of k)
  pub writer : StillWritten s a j
  pub holds : IsTrue a.device.told → Holds a (writer_blocks a j ++ chain_blocks a (rest_of k))
  pub part : Part (j.blocks + k.blocks) (pair_blocks s k j)
      (writer_blocks a j ++ chain_blocks a (rest_of k)) (pair_account k j)
      (both (writer_account j) (list_account (rest_of k))) s a

pub ends_copy : {s a : RigState} {k : Reader} {j : Writer} → AreCopied s k j → k.count ≡ 0
    → s.pool.free + 2 ≤ singles_of s.pool.shape → GivesFrame [] s a → Unmoved s a
    → (IsChain s (rest_of k) → ChainStays s a (rest_of k)) → EndsCopy s a k j
ends_copy {s} {a} {k} {j} i none out g n stays =
    let shape = g.frames.shape in
    let singles = ap singles_of shape in
    let free = g.frames.free in
    let st = stays (i.pair.reader.closed i.pair.taking) in
    let sv = writer_stays [] s a j g.touches (λ z. apart_none (writer_blocks s j))
    (has_out i.pair.writer.frame shape (omega (arith, singles, free, out))) i.pair.writer in
    let owed_is : owed k ≡ 2 * k.blocks = unloaded_by k.loaded refl i.pair.taking i.pair.reader none in
    let used = n.same.used in
    let most = n.same.most in
    let moves = n.moves in
    let session = session_as (writer_blocks a j ++ chain_blocks a (rest_of k))
    (session_still (pair_blocks s k j) g.sound g.touches (λ z. pair_holds i.pair z))
    (λ z. rw (sv.blocks z, st.blocks z) refl) in
    record {
      chain = st.is;
      writer = record { is = sv.is; items = sv.items; packed = sv.packed };
      holds = λ z. session.holds (sym g.touches.told ∙ z);
      part = record {
        session = session;
        spends = record {
          held = omega arith;
          used = omega (arith, used);
          most = omega (arith, most);
          moves = omega (arith, moves, owed_is);
          later = omega (arith, moves);
          pays = pays_kept _ (omega (arith, used)) (omega (arith, moves));
        };
      };
    }

-- What was left was released,
pub record CopyStands (kind : Copied) (s b : RigState) (l : Chain) (j : Writer) : Type 0 where
  pub is : IsWriter b j
  pub frames : LentFrames 1 s.pool b.pool
  pub told : b.device.told ≡ s.device.told
  pub items : IsTrue s.device.told → writer_items b j ≡ copied_from kind 0 (chain_items s l)
  pub packed : IsTrue s.device.told → IsPackedSoFar b j
  pub count_is : j.count ≡ l.count
  pub blocks_is : j.blocks ≡ list_room_of s l
  pub part : Part (l.blocks + list_room_of s l) (chain_blocks s l) (writer_blocks b j) (list_account l)
      (writer_account j) s b

pub copy_stands : {kind : Copied} {s c a b : RigState} {l : Chain} {k : Reader} {j : Writer}
    (d : Chain) (u : Unit {0}) → CopiesWhole kind s c l k j → GivesFrame [] c a → EndsCopy c a k j
    → d ≡ rest_of k → Goes (chain_blocks a d) a b → Frees {T = Unit {0}} d.blocks a b (Ok u)
    → CopyStands kind s b l j
copy_stands {kind} {s} {c} {a} {b} {l} {k} {j} d u o f e same at_d free_d =
    let g : Goes (chain_blocks a (rest_of k)) a b =
    subst (λ (z : Chain). Goes (chain_blocks a z) a b) same at_d in
    let h : Frees {T = Unit {0}} k.blocks a b (Ok u) =
    subst (λ (z : Chain). Frees {T = Unit {0}} z.blocks a b (Ok u)) same free_d in
    let ks = chain_blocks a (rest_of k) in
    let vs = writer_blocks a j in
    let used = h.used in
    let most = h.most in
    let moves = h.moves in
    let low = h.used_most in
    let gone : Part k.blocks ks [] (list_account (rest_of k)) (stored_account 0 0) a b = record {
      session = record {
        sound = g.sound;
        touches = g.touches;
        within = within_none a ks [] (λ z. refl);
        holds = λ z. record { in_use = tt; distinct = λ y. tt };
      };
      spends = record {
        held = omega arith;
        used = omega (arith, used);
        most = omega (arith, most);
        moves = omega (arith, moves);
        later = g.touches.moves;
        pays = pays_kept 0 low g.touches.moves;
      };
    } in
    let first = f.touches.told in
    let sv = writer_stays ks a b j g.touches (λ z. distinct_apart vs ks ((e.holds z).distinct z))
    (has_kept 1 (length j.frame) a.pool b.pool g.frames e.writer.is.frame) e.writer.is in
    let rest = part_as (writer_blocks b j)
    (part_second vs (writer_account j) e.holds gone)
    (λ z. sv.blocks z ∙ sym (append-nil vs)) in
    let all = part_then (part_then o.part e.part)
    (part_like (writer_account j) (omega arith) (omega arith) (omega arith) (omega arith) rest) in
    let blocks = o.blocks_is in
    let fewer = o.fewer in
    record {
      is = sv.is;
      frames = one_lent o.frames f.frames g.frames;
      told = g.touches.told ∙ first ∙ o.told;
      items = λ z.
          let y : IsTrue c.device.told = o.told ∙ z in
          sv.items (first ∙ y) ∙ e.writer.items y ∙ o.items z;
      packed = λ z.
          let y : IsTrue c.device.told = o.told ∙ z in
          sv.packed (first ∙ y) (e.writer.packed y (o.packed z));
      count_is = o.count_is;
      blocks_is = blocks;
      part = record {
        session = all.session;
        spends = spends_wider (omega (arith, blocks, fewer)) all.spends;
      };
    }

-- or it wasn't, and the copy was let go;
pub copy_unended : {kind : Copied} {s c a b t : RigState} {l : Chain} {k : Reader} {j : Writer}
    {fault : EmFault} (d : Chain) → CopiesWhole kind s c l k j → GivesFrame [] c a
    → EndsCopy c a k j → d ≡ rest_of k → Goes (chain_blocks a d) a b
    → Frees {T = Unit {0}} d.blocks a b (Err fault) → BlockCause a b fault → GivesFrame [] b t
    → Unmoved b t → WritesAnew kind s t l (Err fault)
copy_unended {kind} {s} {c} {a} {b} {t} {l} {k} {j} {fault} d o f e same at_d free_d cause x n =
    let g : Goes (chain_blocks a (rest_of k)) a b =
    subst (λ (z : Chain). Goes (chain_blocks a z) a b) same at_d in
    let h : Frees {T = Unit {0}} k.blocks a b (Err fault) =
    subst (λ (z : Chain). Frees {T = Unit {0}} z.blocks a b (Err fault)) same free_d in
    let most = h.most in
    let moves = h.moves in
    let low = h.used_most in
    let blocks = o.blocks_is in
    let fewer = o.fewer in
    let stop : PartStops k.blocks 0 0 (chain_blocks a (rest_of k)) (list_account (rest_of k)) a b fault
    = record {
      sound = g.sound;
      touches = g.touches;
      halts = record {
        used = omega (arith, low);
        full = full_never a b fault _ cause;
        most = omega (arith, most);
        moves = omega (arith, moves);
        later = g.touches.moves;
        pays = pays_kept 0 low g.touches.moves;
      };
      cause = block_cause a b fault cause;
    } in
    stops_copy kind l (part_stops_still x.sound x.touches n
    (part_stops_after (part_then o.part e.part)
    (part_stops_second (writer_blocks a j) (writer_account j) stop)))
    (omega (arith, blocks, fewer)) (omega (arith, blocks)) (omega arith)
    (last_back (one_lent o.frames f.frames g.frames) x.frames)

-- and the copy was finished,
pub copy_finished : {kind : Copied} {s b t : RigState} {l d : Chain} {j : Writer}
    → CopyStands kind s b l j → GivesFrame (writer_blocks b j) b t → Finishes b t j d
    → Spends j.blocks (writer_account j) (chain_account (min j.blocks 1) d) b t
    → CopiesList kind s t l d
copy_finished {kind} {s} {b} {t} {l} {d} {j} o g f y =
    let all = part_then o.part (finish_part g f y) in
    let z = all.spends in
    let blocks = o.blocks_is in
    let same = f.blocks_is in
    record {
      is = f.is;
      packed = λ u. f.packed (o.told ∙ u) (o.packed u);
      count_is = f.count_is ∙ o.count_is;
      blocks_is = same ∙ blocks;
      items = λ u. f.items (o.told ∙ u) ∙ o.items u;
      runs = record {
        session = all.session;
        frames = last_back o.frames g.frames;
        spends = record {
          held = omega (arith, same, blocks);
          used = omega (arith, z.used);
          most = omega (arith, z.most, same, blocks);
          moves = omega (arith, z.moves, same, blocks);
          later = z.later;
          pays = pays_more z.pays (omega arith);
        };
      };
    }

-- or it wasn't.
pub copy_ends : {kind : Copied} {s b : RigState} (t : RigState) {l : Chain} {j : Writer}
    (result : Result Chain EmFault) → CopyStands kind s b l j → GivesFrame (writer_blocks b j) b t
    → IfOk result (λ d. Finishes b t j d) → FinishSpends b t j result
    → IfErr result (DeviceCause b t) → WritesAnew kind s t l result
copy_ends t (Ok d) o g f y c = copy_finished o g f y
copy_ends {kind} t {l} {j} (Err e) o g f y c =
    let blocks = o.blocks_is in
    stops_copy kind l (part_stops_after o.part (finish_stops j g y c)) (omega (arith, blocks))
    (omega (arith, blocks)) (omega arith) (last_back o.frames g.frames)
