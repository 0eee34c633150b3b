-- A list is opened to be written anew as it is after a pass; what is written is finished, or both are let go.
use Rattle.std.proofs.Common.{◌≡◌, ℕ, ◌+◌, ◌*◌, ◌≤◌, min, List, [], ◌++◌, length, IsTrue, Result, Ok, Err, IfOk, IfErr, refl, ap, ap₂, sym, ◌∙◌, subst, arith}
use Rattle.std.proofs.lemmas.List.{append-nil}
use Rattle.em_record.specs.declared.record.Record.{Record}
use Rattle.em_frames.specs.Pool.{GivenFrames, LentFrames, PoolCounts, SameFrames, singles_of}
use Rattle.em_space.specs.Ledger.{Account, Spends}
use Rattle.em_space.specs.Rig.{RigState, Goes, BlockCause, DeviceCause}
use Rattle.em_space.specs.declared.fault.EmFault.{EmFault}
use Rattle.em_space.proofs.Ledgers.{full_never, spends_wider}
use Rattle.em_space.proofs.Lists.{distinct_apart}
use Rattle.em_space.proofs.Paying.{pays_kept, pays_more}
use Rattle.em_space.proofs.Steps.{block_cause}
use Rattle.em_space.proofs.Within.{within_none}
use Rattle.em_chain.specs.Chain.{chain_blocks, chain_items, payload_in}
use Rattle.em_chain.specs.Counts.{ceiling}
use Rattle.em_chain.specs.Effects.{GivesFrame, Unmoved}
use Rattle.em_chain.specs.Reader.{reader_items, rest_of}
use Rattle.em_chain.specs.Row.{Frees}
use Rattle.em_chain.specs.Session.{FinishSpends, chain_account, pair_account, pair_blocks, writer_account}
use Rattle.em_chain.specs.Writer.{IsWriter, writer_blocks, writer_items}
use Rattle.em_chain.specs.Writes.{Finishes}
use Rattle.em_chain.specs.declared.chain.Chain.{Chain}
use Rattle.em_chain.specs.declared.reader.Reader.{Reader}
use Rattle.em_chain.specs.declared.writer.Writer.{Writer}
use Rattle.em_chain.proofs.Counts.{writer_blocks_are}
use Rattle.em_chain.proofs.Keeps.{has_kept}
use Rattle.em_chain.proofs.Laws.{writer_stays}
use Rattle.em_chain.proofs.Readers.{length_left}
use Rattle.aig_edges.specs.Accounts.{releasing, stored_account}
use Rattle.aig_edges.specs.Copies.{AreCopied, StopsWritingAnew}
use Rattle.aig_edges.specs.Sorts.{sorting_moves}
use Rattle.aig_edges.specs.declared.copying.Copied.TheVariants.{Same}
use Rattle.aig_edges.proofs.CopiedLists.{EndsCopy, OpensCopy, copy_stops}
use Rattle.aig_edges.proofs.Besides.{stops_by}
use Rattle.aig_edges.proofs.Finishes.{Part, PartStops, finish_part, finish_stops, part_as, part_second, part_stops_after, part_stops_second, part_stops_still, part_stops_wider, part_then}
use Rattle.aig_edges.proofs.Looks.{nil_of}
use Rattle.aig_order.specs.declared.standing.Standing.{Standing}
use Rattle.aig_order.specs.declared.standing.Sweep.TheVariants.{Find}
use Rattle.aig_order.specs.Marks.{Leads}
use Rattle.aig_order.specs.Rewrites.{Becomes, RewritesList, RewritesOn, RewritesTo, StopsRewriting}
use Rattle.aig_order.proofs.Rewritten.{rewrites_count, still_rewritten}

-- What records led to is what they become.
pub leads_become : {last : ℕ} {rs ws : List Record} {p j : Standing} {old new : List Record}
    → Leads last Find rs ws p j old new → Becomes last rs ws p j old
leads_become l n m i = ((l.on n m i).standing, l.writes n m i)

-- Records were read until none is left, and these were written.
pub record IsRewritten (s c : RigState) (l : Chain) (k : Reader) (j : Writer) (xs ws : List Record)
    : Type 0 where
  pub are : AreCopied c k j
  pub frames : LentFrames 2 s.pool c.pool
  pub out : c.pool.free + 2 ≤ singles_of c.pool.shape
  pub told : c.device.told ≡ s.device.told
  pub read : IsTrue s.device.told → xs ≡ chain_items s l
  pub wrote : IsTrue s.device.told → writer_items c j ≡ ws
  pub count_is : j.count ≡ l.count
  pub blocks_is : j.blocks ≡ ceiling l.count (payload_in s)
  pub none : k.count ≡ 0
  pub fewer : k.blocks ≤ l.blocks
  pub part : Part (l.blocks + ceiling l.count (payload_in s)) (chain_blocks s l) (pair_blocks c k j)
      (releasing l.blocks) (pair_account k j) s c

pub is_rewritten : {last n : ℕ} {s b c : RigState} {l : Chain} {r k : Reader} {w j : Writer}
    {p e : Standing} {old new : List Record} → OpensCopy s b l r w
    → (m : RewritesOn last n b c r k w j p e old new) → n ≡ l.count
    → IsRewritten s c l k j m.items m.written
is_rewritten {n = n} {s} {b} {c} {l} {r} {k} {w} {j} o m all =
    let i = still_rewritten o.are m in
    let runs = m.pairs.runs in
    let now = m.pairs.took.told in
    let left = m.pairs.took.left_is in
    let read = m.count_is in
    let total = o.count_is in
    let begun = o.begun in
    let both_is = rewrites_count m in
    let none : k.count ≡ 0 = omega (arith, left, read, total, all) in
    let count : j.count ≡ l.count = omega (arith, both_is, none, begun, total) in
    let payload : payload_in c ≡ payload_in s = m.pairs.took.payload_is ∙ o.payload_is in
    let blocks : j.blocks ≡ ceiling l.count (payload_in s) =
    writer_blocks_are c j i.sound.shape.block_low i.pair.writer ∙ ap₂ ceiling (i.filled_is ∙ count)
    payload in
    let held = o.held_is in
    let fewer = m.pairs.took.fewer in
    let p = part_then o.part (record { session = runs.session; spends = runs.spends }) in
    record {
      are = i;
      frames =
          let shape = runs.frames.shape in
          let free = runs.frames.free in
          let first = o.frames in
          let lent = first.free in
          let peak = first.peak in
          let more = runs.frames.peak in
          record {
            shape = shape ∙ first.shape;
            free = omega (arith, free, lent);
            rack = runs.frames.rack ∙ first.rack;
            free_areas = runs.frames.free_areas ∙ first.free_areas;
            peak = omega (arith, peak, more);
          };
      out =
          let singles = ap singles_of runs.frames.shape in
          let free = runs.frames.free in
          let was = o.out in
          omega (arith, singles, free, was);
      told = now ∙ o.told;
      read = λ z.
          let y : IsTrue b.device.told = o.told ∙ z in
          let rest : reader_items c k ≡ [] = nil_of (reader_items c k)
          (length_left c k i.pair.reader (now ∙ y) ∙ none) in
          sym (append-nil m.items) ∙ ap (λ (rs : List Record). m.items ++ rs) (sym rest)
          ∙ sym (m.pairs.took.items y) ∙ o.items z;
      wrote = λ z. m.pairs.wrote.items (o.told ∙ z)
          ∙ ap (λ (rs : List Record). rs ++ m.written) o.none;
      count_is = count;
      blocks_is = blocks;
      none = none;
      fewer = omega (arith, fewer, held);
      part = record {
        session = p.session;
        spends = spends_wider (omega (arith, held, blocks)) p.spends;
      };
    }

-- frames that were lent came back
one_lent : {p q r o : PoolCounts} → LentFrames 2 p q → GivenFrames 1 q r → SameFrames r o
    → LentFrames 1 p o
one_lent l g h = record {
  shape = h.shape ∙ g.shape ∙ l.shape;
  free = let a = l.free in let b = g.free in let c = h.free in omega (arith, a, b, c);
  rack = h.rack ∙ g.rack ∙ l.rack;
  free_areas = h.free_areas ∙ g.free_areas ∙ l.free_areas;
  peak = let a = l.peak in let b = g.peak in let c = h.peak in omega (arith, a, b, c);
}

last_back : {p q r : PoolCounts} → LentFrames 1 p q → GivenFrames 1 q r → SameFrames p r
last_back l g = record {
  shape = g.shape ∙ l.shape;
  free = let a = l.free in let b = g.free in omega (arith, a, b);
  rack = g.rack ∙ l.rack;
  free_areas = g.free_areas ∙ l.free_areas;
  peak = let a = l.peak in let b = g.peak in omega (arith, a, b);
}

-- Calls gave up, within what writing the list anew may take.
stops_rewrite : {s t : RigState} (c : Chain) {e : EmFault} {k m f : ℕ}
    → PartStops k m f (chain_blocks s c) (releasing c.blocks) s t e
    → k ≤ c.blocks + ceiling c.count (payload_in s) → m ≤ 2 * ceiling c.count (payload_in s) + 1
    → f ≤ 1 → SameFrames s.pool t.pool → StopsRewriting s t c e
stops_rewrite {s} {t} c x high most low frames =
    let y = part_stops_wider high most low x in
    stops_by (stored_account c.blocks (sorting_moves s c)) (omega arith) refl refl (omega arith)
    (record {
      goes = record { sound = y.sound; touches = y.touches; frames = frames };
      halts = y.halts;
      cause = y.cause;
    })

-- A record wasn't read or not written, and both were let go.
pub rewrite_stops : {s b c d t : RigState} {l : Chain} {r : Reader} {w : Writer} {e : EmFault}
    → OpensCopy s b l r w → StopsWritingAnew (w.count + r.count) b c r w e → GivesFrame [] c d
    → Unmoved c d → GivesFrame [] d t → Unmoved d t → StopsRewriting s t l e
rewrite_stops o x g u f n = copy_stops Same o x g u f n

-- what is left of the list was released
gone_part : {a b : RigState} (c : Chain) → Goes (chain_blocks a c) a b
    → b.used + c.blocks ≡ a.used → b.most ≡ a.most → b.moves ≤ a.moves + 2 * c.blocks
    → Part c.blocks (chain_blocks a c) [] (releasing c.blocks) (stored_account 0 0) a b
gone_part {a} {b} c g used most moves = record {
  session = record {
    sound = g.sound;
    touches = g.touches;
    within = within_none a (chain_blocks a c) [] (λ z. refl);
    holds = λ z. record { in_use = tt; distinct = λ y. tt };
  };
  spends = record {
    held = omega arith;
    used = omega (arith, used);
    most = omega (arith, most);
    moves = omega (arith, moves);
    later = g.touches.moves;
    pays = pays_kept 0 (omega (arith, used)) g.touches.moves;
  };
}

-- the same calls, of which the values have an account with these numbers
part_like : {p : ℕ} {held ks : List ℕ} {a b : Account} {s t : RigState} (c : Account)
    → c.blocks ≡ b.blocks → c.unstored ≡ b.unstored → c.paid ≡ b.paid → c.owed ≡ b.owed
    → Part p held ks a b s t → Part p held ks a c s t
part_like c blocks unstored paid owed h =
    let z = h.spends in
    record {
      session = h.session;
      spends = record {
        held = omega (arith, z.held, blocks);
        used = omega (arith, z.used, blocks);
        most = z.most;
        moves = omega (arith, z.moves, paid, owed);
        later = z.later;
        pays = pays_more z.pays (omega (arith, unstored));
      };
    }

-- What was left was released,
pub record RewriteStands (s b : RigState) (l : Chain) (j : Writer) (xs ws : List Record) : Type 0
  where
    pub is : IsWriter b j
    pub frames : LentFrames 1 s.pool b.pool
    pub told : b.device.told ≡ s.device.told
    pub read : IsTrue s.device.told → xs ≡ chain_items s l
    pub wrote : IsTrue s.device.told → writer_items b j ≡ ws
    pub count_is : j.count ≡ l.count
    pub blocks_is : j.blocks ≡ ceiling l.count (payload_in s)
    pub part : Part (l.blocks + ceiling l.count (payload_in s)) (chain_blocks s l) (writer_blocks b j)
        (releasing l.blocks) (writer_account j) s b

pub rewrite_stands : {s c a b : RigState} {l : Chain} {k : Reader} {j : Writer} {xs ws : List Record}
    (d : Chain) (u : Unit {0}) → IsRewritten s c l k j xs ws → GivesFrame [] c a → EndsCopy c a k j
    → d ≡ rest_of k → Goes (chain_blocks a d) a b → Frees {T = Unit {0}} d.blocks a b (Ok u)
    → RewriteStands s b l j xs ws
rewrite_stands {s} {c} {a} {b} {l} {k} {j} d u o f e same at_d free_d =
    let g : Goes (chain_blocks a (rest_of k)) a b =
    subst (λ (z : Chain). Goes (chain_blocks a z) a b) same at_d in
    let h : Frees {T = Unit {0}} k.blocks a b (Ok u) =
    subst (λ (z : Chain). Frees {T = Unit {0}} z.blocks a b (Ok u)) same free_d in
    let ks = chain_blocks a (rest_of k) in
    let vs = writer_blocks a j in
    let used = h.used in
    let most = h.most in
    let moves = h.moves in
    let gone = gone_part (rest_of k) g (omega (arith, used)) most (omega (arith, moves)) in
    let first = f.touches.told in
    let sv = writer_stays ks a b j g.touches (λ z. distinct_apart vs ks ((e.holds z).distinct z))
    (has_kept 1 (length j.frame) a.pool b.pool g.frames e.writer.is.frame) e.writer.is in
    let rest = part_as (writer_blocks b j) (part_second vs (writer_account j) e.holds gone)
    (λ z. sv.blocks z ∙ sym (append-nil vs)) in
    let all = part_then (part_then o.part e.part)
    (part_like (writer_account j) (omega arith) (omega arith) (omega arith) (omega arith) rest) in
    let blocks = o.blocks_is in
    let fewer = o.fewer in
    record {
      is = sv.is;
      frames = one_lent o.frames f.frames g.frames;
      told = g.touches.told ∙ first ∙ o.told;
      read = o.read;
      wrote = λ z.
          let y : IsTrue c.device.told = o.told ∙ z in
          sv.items (first ∙ y) ∙ e.writer.items y ∙ o.wrote z;
      count_is = o.count_is;
      blocks_is = blocks;
      part = record {
        session = all.session;
        spends = spends_wider (omega (arith, blocks, fewer)) all.spends;
      };
    }

-- or it wasn't, and what was written was let go;
pub rewrite_unended : {s c a b t : RigState} {l : Chain} {k : Reader} {j : Writer}
    {xs ws : List Record} {fault : EmFault} (d : Chain) → IsRewritten s c l k j xs ws → GivesFrame [] c a → EndsCopy c a k j → d ≡ rest_of k
    → Goes (chain_blocks a d) a b → Frees {T = Unit {0}} d.blocks a b (Err fault)
    → BlockCause a b fault → GivesFrame [] b t → Unmoved b t → StopsRewriting s t l fault
rewrite_unended {s} {c} {a} {b} {t} {l} {k} {j} {fault = fault} d o f e same at_d free_d cause x n =
    let g : Goes (chain_blocks a (rest_of k)) a b =
    subst (λ (z : Chain). Goes (chain_blocks a z) a b) same at_d in
    let h : Frees {T = Unit {0}} k.blocks a b (Err fault) =
    subst (λ (z : Chain). Frees {T = Unit {0}} z.blocks a b (Err fault)) same free_d in
    let most = h.most in
    let moves = h.moves in
    let low = h.used_most in
    let blocks = o.blocks_is in
    let fewer = o.fewer in
    let stop : PartStops k.blocks 0 0 (chain_blocks a (rest_of k)) (releasing k.blocks) a b fault
    = record {
      sound = g.sound;
      touches = g.touches;
      halts = record {
        used = omega (arith, low);
        full = full_never a b fault _ cause;
        most = omega (arith, most);
        moves = omega (arith, moves);
        later = g.touches.moves;
        pays = pays_kept 0 low g.touches.moves;
      };
      cause = block_cause a b fault cause;
    } in
    stops_rewrite l (part_stops_still x.sound x.touches n
    (part_stops_after (part_then o.part e.part)
    (part_stops_second (writer_blocks a j) (writer_account j) stop)))
    (omega (arith, blocks, fewer)) (omega (arith, blocks)) (omega arith)
    (last_back (one_lent o.frames f.frames g.frames) x.frames)

-- and what was written was finished,
rewrite_finished : (last : ℕ) {s b t : RigState} {l d : Chain} {j : Writer} {xs ws : List Record}
    {p q : Standing} {old : List Record} → RewriteStands s b l j xs ws → Becomes last xs ws p q old
    → GivesFrame (writer_blocks b j) b t → Finishes b t j d
    → Spends j.blocks (writer_account j) (chain_account (min j.blocks 1) d) b t
    → RewritesList last s t l d p q old
rewrite_finished last {s} {b} {t} {l} {d} {j} {xs} {ws} {p} {q} {old} o m g f y =
    let all = part_then o.part (finish_part g f y) in
    let z = all.spends in
    let blocks = o.blocks_is in
    let same = f.blocks_is in
    record {
      is = f.is;
      count_is = f.count_is ∙ o.count_is;
      blocks_is = same ∙ blocks;
      items = λ u.
          let wrote = f.items (o.told ∙ u) ∙ o.wrote u in
          subst (λ (rs : List Record). Becomes last rs (chain_items t d) p q old) (o.read u)
          (subst (λ (rs : List Record). Becomes last xs rs p q old) (sym wrote) m);
      runs = record {
        session = all.session;
        frames = last_back o.frames g.frames;
        spends = record {
          held = omega (arith, same, blocks);
          used = omega (arith, z.used);
          most = omega (arith, z.most, same, blocks);
          moves = omega (arith, z.moves, same, blocks);
          later = z.later;
          pays = pays_more z.pays (omega arith);
        };
      };
    }

-- or it wasn't.
pub rewrite_ends : (last : ℕ) {s b : RigState} (t : RigState) {l : Chain} {j : Writer}
    {xs ws : List Record} {p q : Standing} {old : List Record} (result : Result Chain EmFault)
    → RewriteStands s b l j xs ws → Becomes last xs ws p q old → GivesFrame (writer_blocks b j) b t
    → IfOk result (λ d. Finishes b t j d) → FinishSpends b t j result
    → IfErr result (DeviceCause b t) → RewritesTo last s t l p q old result
rewrite_ends last t (Ok d) o m g f y c = rewrite_finished last o m g f y
rewrite_ends last t {l} {j} (Err e) o m g f y c =
    let blocks = o.blocks_is in
    stops_rewrite l (part_stops_after o.part (finish_stops j g y c)) (omega (arith, blocks))
    (omega (arith, blocks)) (omega arith) (last_back o.frames g.frames)
