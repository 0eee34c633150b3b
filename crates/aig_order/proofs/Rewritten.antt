-- A list is read and written as it is after a pass, record by record.
use Rattle.std.proofs.Common.{◌≡◌, ℕ, ◌+◌, ◌*◌, min, List, [], ◌∷◌, ◌++◌, Result, Ok, Err, OnOk, IfErr, ap₂, refl, ◌∙◌, arith}
use Rattle.std.proofs.lemmas.List.{length-append}
use Rattle.em_record.specs.declared.record.Record.{Record}
use Rattle.em_space.specs.Ledger.{Costs, Spends}
use Rattle.em_space.specs.Rig.{RigState, Sound, Goes, Cause}
use Rattle.em_space.specs.declared.fault.EmFault.{EmFault}
use Rattle.em_chain.specs.Chain.{payload_in}
use Rattle.em_chain.specs.Counts.{ceiling}
use Rattle.em_chain.specs.Session.{Pairs, one_more, writer_account}
use Rattle.em_chain.specs.Writer.{writer_blocks}
use Rattle.em_chain.specs.Writes.{Appends}
use Rattle.em_chain.specs.declared.reader.Reader.{Reader}
use Rattle.em_chain.specs.declared.writer.Writer.{Writer}
use Rattle.em_chain.proofs.Counts.{writer_blocks_are}
use Rattle.em_chain.proofs.Pairs.{pairs_appends, pairs_is, pairs_none, pairs_stops, pairs_then, pairs_wider}
use Rattle.em_chain.proofs.Sessions.{more_low}
use Rattle.aig_edges.specs.Copies.{AreCopied, StopsWritingAnew}
use Rattle.aig_edges.proofs.Advances.{list_room}
use Rattle.aig_edges.proofs.CopySteps.{stops_writing}
use Rattle.aig_order.specs.declared.standing.Standing.{Standing}
use Rattle.aig_order.specs.declared.standing.Sweep.TheVariants.{Find}
use Rattle.aig_order.specs.Marks.{Leads}
use Rattle.aig_order.specs.Rewrites.{RewritesNext, RewritesOn}
use Rattle.aig_order.proofs.Marked.{leads_none, leads_then}

-- No record,
pub rewrites_none : {s : RigState} {r : Reader} {w : Writer} (last : ℕ) (p : Standing)
    (row : List Record) → AreCopied s r w → RewritesOn last 0 s s r r w w p p row row
rewrites_none last p row i = record {
  items = [];
  written = [];
  count_is = refl;
  same = refl;
  pairs = pairs_wider (omega arith) (pairs_none i.sound i.pair);
  grows = omega arith;
  leads = leads_none last Find p row;
}

-- what a writer has that has one record more
grown : {s t : RigState} {w v : Writer} {x : Record} → Sound t → payload_in t ≡ payload_in s
    → Appends s t w v x → v.blocks ≡ one_more s w
grown {s} {t} {w} {v} h same a = writer_blocks_are t v h.shape.block_low a.is
    ∙ ap₂ ceiling a.filled_is same

-- one,
rewrites_one : {s m t : RigState} {r q : Reader} {w v : Writer} {x y : Record} {p j : Standing}
    {old new : List Record} (last : ℕ) → AreCopied s r w
    → Pairs (w.blocks + r.blocks) s m r q w w (x ∷ []) []
    → Leads last Find (x ∷ []) (y ∷ []) p j old new → Goes (writer_blocks m w) m t
    → Appends m t w v y → Spends (one_more m w) (writer_account w) (writer_account v) m t
    → RewritesOn last 1 s t r q w v p j old new
rewrites_one {s} {m} {t} {r} {q} {w} {v} {x} {y} last i h l g a k =
    let o = pairs_is i.pair.taking h in
    let b = pairs_appends o g a k in
    let size : v.blocks ≡ one_more m w = grown g.sound b.took.payload_is a in
    let low = more_low m w h.runs.session.sound.shape.block_low o.writer in
    let fewer = h.took.fewer in
    record {
      items = x ∷ [];
      written = y ∷ [];
      count_is = refl;
      same = refl;
      pairs = pairs_wider (omega (arith, size, low, fewer)) (pairs_then (x ∷ []) [] [] (y ∷ []) h b);
      grows = omega (arith, size, low);
      leads = l;
    }

-- and more after them.
pub rewrites_then : {last a b : ℕ} {s t u : RigState} {r q e : Reader} {w v k : Writer}
    {p j i : Standing} {old mid new : List Record} → RewritesOn last a s t r q w v p j old mid
    → RewritesOn last b t u q e v k j i mid new
    → RewritesOn last (a + b) s u r e w k p i old new
rewrites_then {last} {a} {b} h g =
    let fewer = h.pairs.took.fewer in
    let grows = g.grows in
    let read = length-append h.items g.items in
    let wrote = length-append h.written g.written in
    record {
      items = h.items ++ g.items;
      written = h.written ++ g.written;
      count_is = let m = h.count_is in let n = g.count_is in omega (arith, read, m, n);
      same = let m = h.same in let n = g.same in omega (arith, wrote, m, n);
      pairs = pairs_wider (omega (arith, fewer, grows))
          (pairs_then h.items h.written g.items g.written h.pairs g.pairs);
      grows = let l = h.grows in omega (arith, l, grows);
      leads = leads_then h.items h.written g.items g.written h.leads g.leads;
    }

-- As many records are left or written.
pub rewrites_count : {last n : ℕ} {s t : RigState} {r q : Reader} {w v : Writer} {p j : Standing}
    {old new : List Record} → RewritesOn last n s t r q w v p j old new
    → v.count + q.count ≡ w.count + r.count
rewrites_count h =
    let left = h.pairs.took.left_is in
    let wrote = h.pairs.wrote.count_is in
    let read = h.count_is in
    let same = h.same in
    omega (arith, left, wrote, read, same)

pub still_rewritten : {last n : ℕ} {s t : RigState} {r q : Reader} {w v : Writer} {p j : Standing}
    {old new : List Record} → AreCopied s r w → RewritesOn last n s t r q w v p j old new
    → AreCopied t q v
still_rewritten i h = record {
  sound = h.pairs.runs.session.sound;
  free = rw (h.pairs.runs.frames.free) (i.free);
  pair = pairs_is i.pair.taking h.pairs;
  filled_is =
      let e = i.filled_is in
      let f = h.pairs.wrote.filled_is in
      let c = h.pairs.wrote.count_is in
      omega (arith, e, f, c);
  few = let e = rewrites_count h in let l = i.few in omega (arith, e, l);
}

-- A call gave up after others.
pub stops_rewriting : {last n : ℕ} {s t u : RigState} {r q : Reader} {w v : Writer} {p j : Standing}
    {old new : List Record} {e : EmFault} → AreCopied s r w
    → RewritesOn last n s t r q w v p j old new → StopsWritingAnew (v.count + q.count) t u q v e
    → StopsWritingAnew (w.count + r.count) s u r w e
stops_rewriting {s = s} {t} {r = r} {q} {w} {v} i h x =
    let n = w.count + r.count in
    let o = still_rewritten i h in
    let same : ceiling (v.count + q.count) (payload_in t) ≡ ceiling n (payload_in s) =
    ap₂ ceiling (rewrites_count h) h.pairs.took.payload_is in
    let room = list_room (v.count + q.count) v o.sound o.pair.writer o.filled_is (omega arith) in
    let fewer = h.pairs.took.fewer in
    pairs_stops (r.blocks + ceiling n (payload_in s)) (2 * ceiling n (payload_in s)) 1
    (omega (arith, same, room)) (omega (arith, same, fewer)) (omega (arith, same)) (omega arith)
    h.pairs x

-- What the next record did, by the result of writing it.
pub next_rewritten : {s m : RigState} (t : RigState) {r q : Reader} {w : Writer} (v : Writer)
    {x y : Record} {p j : Standing} {old new : List Record} (last : ℕ)
    (result : Result (Unit {0}) EmFault) → AreCopied s r w
    → Pairs (w.blocks + r.blocks) s m r q w w (x ∷ []) []
    → Leads last Find (x ∷ []) (y ∷ []) p j old new → Goes (writer_blocks m w) m t
    → OnOk result (Appends m t w v y)
    → Costs (one_more m w) (2 * one_more m w) (min w.blocks 1) (writer_account w) (writer_account v) m
    t result
    → IfErr result (Cause m t) → RewritesNext last 1 s t r q w v p j old new result
next_rewritten t v last (Ok done) i h l g a k c = rewrites_one last i h l g a k
next_rewritten t v last (Err fault) i h l g a k c = stops_writing i h g k c
