-- Leaves that are stored and listed, one after another.
use Rattle.std.proofs.Common.{◌≡◌, ℕ, ◌+◌, ◌<◌, ◌≤◌, min, List, [], ◌∷◌, ◌++◌, refl, sym, ap, ◌∙◌, subst, arith, IsTrue}
use Rattle.std.proofs.lemmas.List.{length-append}
use Rattle.em_record.specs.declared.record.Record.{Record}
use Rattle.em_space.specs.Held.{Apart, Holds}
use Rattle.em_space.specs.Rig.{RigState, Sound}
use Rattle.em_space.specs.declared.fault.EmFault.{EmFault}
use Rattle.em_space.proofs.Ledgers.{full_by}
use Rattle.em_space.proofs.Lists.{distinct_apart}
use Rattle.em_chain.specs.Chain.{chain_blocks, chain_items}
use Rattle.em_chain.specs.Session.{Wrote}
use Rattle.em_chain.specs.Writer.{writer_blocks}
use Rattle.em_chain.specs.declared.chain.Chain.{Chain}
use Rattle.em_chain.specs.declared.writer.Writer.{Writer}
use Rattle.em_chain.proofs.Sessions.{wrote_then}
use Rattle.em_leaf.specs.Leaf.{IsLeafChain}
use Rattle.em_node.specs.declared.entry.Entry.{Entry}
use Rattle.em_tree_load.proofs.Peaks.{peaks_then, peaks_wider}
use Rattle.em_tree_load.proofs.Payments.{paid_from, paid_same, paid_then, paid_then_stops, stops_paid_more}
use Rattle.em_tree_walk.specs.Paid.{RunsPaid, StopsPaid}
use Rattle.em_tree_walk.proofs.Regions.{SameTally, tally, tally_append}
use Rattle.em_tree_raise.specs.Listing.{listed}
use Rattle.em_tree_trim.specs.Leaves.{LeadToLeaves, leaf_blocks}
use Rattle.em_tree_trim.specs.Listed.{ListedLeaf, StopsListing}
use Rattle.em_tree_trim.specs.Rows.{parts_at}
use Rattle.em_tree_trim.proofs.LeavesStay.{LeavesStay, leads_append, leaf_blocks_append, leaves_stay, listed_append}
use Rattle.em_tree_trim.proofs.ListedEntries.{entry_blocks, entry_leads, entry_parts, entry_wrote, listed_entry}
use Rattle.em_tree_trim.proofs.RowLists.{parts_append}
use Rattle.em_tree_trim.proofs.Runs.{paid_count}
use Rattle.em_bulk.specs.Ended.{ListsParts, StopsParts}
use Rattle.em_bulk.proofs.Calls.{more_zero, runs_in, stops_in, swapped}

-- no block is in both lists
apart_of : (s : RigState) (xs ys : List ℕ) → (IsTrue s.device.told → Holds s (xs ++ ys)) → IsTrue s.device.told → Apart xs ys
apart_of s xs ys holds z = distinct_apart xs ys ((holds z).distinct z)

-- One leaf was listed.
module _ {s : RigState} {c : Chain} (sound : Sound s) (i : IsLeafChain s c) where
  pub lists_one : {t : RigState} {w v : Writer} {low : Record}
      → (IsTrue s.device.told → Holds s (chain_blocks s c ++ writer_blocks s w)) → ListedLeaf s t w v low c
      → ListsParts s t w v [] (chain_blocks s c) ((low, chain_items s c) ∷ []) 1 2 4
  lists_one {t} {w} {v} {low} holds l =
      let one_apart = apart_of s (chain_blocks s c) (writer_blocks s w) holds in
      let C = chain_blocks s c in
      let W = writer_blocks s w in
      let V = writer_blocks t v in
      let m = min w.blocks 1 in
      let n = min v.blocks 1 in
      let e = listed_entry sound i one_apart l in
      let r = runs_in C 0 sound holds (λ z. swapped C W) l.runs in
      record {
        entries = e ∷ [];
        runs = paid_same (leaf_blocks t (e ∷ []) ++ V) (paid_count (m + 0) (n + 0) m n (more_zero m) (more_zero n) r)
            (λ z j.
            let a = tally_append j (l.block ∷ V) C in
            let b = tally_append j (leaf_blocks t (e ∷ [])) V in
            let d = ap (tally j) (entry_blocks sound i one_apart l z) in
            omega (arith, a, b, d));
        wrote = entry_wrote sound i one_apart l;
        number = refl;
        leaves = λ z. entry_leads sound i one_apart l z;
        parts = λ z. entry_parts sound i one_apart l z;
        moves = l.moves;
        peaks = l.peaks;
      }

  -- It wasn't.
  pub stops_one : {t : RigState} {w : Writer} {fault : EmFault}
      → (IsTrue s.device.told → Holds s (chain_blocks s c ++ writer_blocks s w)) → StopsListing s t w fault
      → StopsParts s t w (chain_blocks s c ++ writer_blocks s w) 2 4 fault
  stops_one {t} {w} {fault} holds l =
      let C = chain_blocks s c in
      let W = writer_blocks s w in
      let m = min w.blocks 1 in
      let P : ℕ → Type 0 = λ k. StopsPaid (C ++ W) k (2 + 0) s t fault in
      let r = subst P (more_zero m) (stops_in C 0 sound holds (λ z. swapped C W) l.stops) in
      record {
        stops = stops_paid_more (C ++ W) 4 (omega arith) r (λ z j. refl);
        full = l.full;
        moves = l.moves;
        peaks = l.peaks;
      }

-- Others had been listed before.
module _ {s t : RigState} {w v : Writer} {held : List ℕ} {ps : List (Record × List Record)} {k room n : ℕ}
    (before : List Entry) (sound : Sound s) (leads : IsTrue s.device.told → LeadToLeaves s before)
    (holds : IsTrue s.device.told → Holds s (leaf_blocks s before ++ (held ++ writer_blocks s w))) where
  pub lists_beside : ListsParts s t w v [] held ps k room n → ListsParts s t w v before held ps k room n
  lists_beside l =
      let X = leaf_blocks s before in
      let H = held ++ writer_blocks s w in
      let V = writer_blocks t v in
      let E = leaf_blocks t l.entries in
      let m = min w.blocks 1 in
      let p = min v.blocks 1 in
      let before_apart = apart_of s X H holds in
      let stay : IsTrue s.device.told → LeavesStay s t before =
      λ z. leaves_stay before l.runs.session.touches z (before_apart z) (leads z) in
      let r = runs_in X 0 sound holds (λ z. swapped X H) l.runs in
      record {
        entries = l.entries;
        runs = paid_same (leaf_blocks t (before ++ l.entries) ++ V)
            (paid_count (m + 0) (p + 0) m p (more_zero m) (more_zero p) r)
            (λ z j.
            let a = tally_append j (E ++ V) X in
            let b = tally_append j E V in
            let c = tally_append j (leaf_blocks t (before ++ l.entries)) V in
            let d = ap (tally j) (leaf_blocks_append t before l.entries) in
            let e = tally_append j (leaf_blocks t before) E in
            let f = ap (tally j) (stay z).blocks in
            omega (arith, a, b, c, d, e, f));
        wrote = l.wrote;
        number = l.number;
        leaves = λ z. leads_append t before l.entries (stay z).leads (l.leaves z);
        parts = λ z. parts_append t before l.entries
            ∙ (ap (λ (qs : List (Record × List Record)). qs ++ parts_at t l.entries) (stay z).parts
            ∙ ap (λ (qs : List (Record × List Record)). parts_at s before ++ qs) (l.parts z));
        moves = l.moves;
        peaks = l.peaks;
      }

-- A call that gave up, beside others.
pub parts_beside : {s t : RigState} {w : Writer} {whole held : List ℕ} {room n : ℕ} {fault : EmFault} (rest : List ℕ)
    → Sound s → (IsTrue s.device.told → Holds s whole) → (IsTrue s.device.told → SameTally whole (held ++ rest))
    → StopsParts s t w held room n fault → StopsParts s t w whole room n fault
parts_beside {s} {t} {w} {whole} {held} {room} {n} {fault} rest sound holds same l =
    let m = min w.blocks 1 in
    let P : ℕ → Type 0 = λ k. StopsPaid whole k (4 + 0) s t fault in
    let r = subst P (more_zero m) (stops_in rest 0 sound holds same l.stops) in
    record {
      stops = stops_paid_more whole 4 (omega arith) r (λ z j. refl);
      full = l.full;
      moves = l.moves;
      peaks = l.peaks;
    }

-- with more room and moves
pub parts_wider : {s t : RigState} {w : Writer} {held : List ℕ} {room n : ℕ} {fault : EmFault} (more m : ℕ) → room ≤ more
    → n ≤ m → StopsParts s t w held room n fault → StopsParts s t w held more m fault
parts_wider {s} {t} {w} {held} {room} {n} {fault} more m a b l =
    let moves = l.moves in
    record {
      stops = l.stops;
      full = full_by fault (s.blocks < s.used + room) (s.blocks < s.used + more) (λ h. omega (arith, h, a)) l.full;
      moves = omega (arith, moves, b);
      peaks = peaks_wider more a l.peaks;
    }

pub lists_wider : {s t : RigState} {w v : Writer} {before : List Entry} {held : List ℕ} {ps : List (Record × List Record)}
    {k room n : ℕ} (more m : ℕ) → room ≤ more → n ≤ m → ListsParts s t w v before held ps k room n
    → ListsParts s t w v before held ps k more m
lists_wider more m a b l =
    let moves = l.moves in
    record {
      entries = l.entries;
      runs = l.runs;
      wrote = l.wrote;
      number = l.number;
      leaves = l.leaves;
      parts = l.parts;
      moves = omega (arith, moves, b);
      peaks = peaks_wider more a l.peaks;
    }

-- One after another: the blocks of the second chains stay while the first ones are listed.
module _ {s a : RigState} {w u : Writer} {first : List ℕ} (second : List ℕ) {ps : List (Record × List Record)} {k room n : ℕ}
    (sound : Sound s) (holds : IsTrue s.device.told → Holds s ((first ++ second) ++ writer_blocks s w))
    (x : ListsParts s a w u [] first ps k room n) where
  pub then_runs : RunsPaid ((first ++ second) ++ writer_blocks s w)
      (leaf_blocks a x.entries ++ (second ++ writer_blocks a u)) (min w.blocks 1) (min u.blocks 1) s a
  then_runs =
      let W = writer_blocks s w in
      let U = writer_blocks a u in
      let E = leaf_blocks a x.entries in
      let m = min w.blocks 1 in
      let p = min u.blocks 1 in
      let r = runs_in second 0 sound holds (λ z j.
      let b = tally_append j (first ++ second) W in
      let c = tally_append j first second in
      let d = tally_append j (first ++ W) second in
      let e = tally_append j first W in
      omega (arith, b, c, d, e)) x.runs in
      paid_same (E ++ (second ++ U)) (paid_count (m + 0) (p + 0) m p (more_zero m) (more_zero p) r)
      (λ z j.
      let b = tally_append j (E ++ U) second in
      let c = tally_append j E U in
      let d = tally_append j E (second ++ U) in
      let e = tally_append j second U in
      omega (arith, b, c, d, e))

  pub lists_then : {t : RigState} {v : Writer} {qs : List (Record × List Record)} {j more m : ℕ}
      → ListsParts a t u v x.entries second qs j more m
      → ListsParts s t w v [] (first ++ second) (ps ++ qs) (k + j) (room + more) (n + m)
  lists_then {t} {v} {qs} {j} {more} {m} y =
      let E = leaf_blocks a x.entries in
      let xm = x.moves in
      let ym = y.moves in
      let xn = x.number in
      let yn = y.number in
      let len = length-append x.entries y.entries in
      let W : List Record → Type 0 = λ rs. Wrote s t w v rs in
      let told : IsTrue s.device.told → IsTrue a.device.told = λ z. x.runs.session.touches.told ∙ z in
      record {
        entries = x.entries ++ y.entries;
        runs = paid_then (E ++ (second ++ writer_blocks a u)) then_runs (λ z i. refl) y.runs;
        wrote = subst W (sym (listed_append x.entries y.entries))
            (wrote_then (listed x.entries) (listed y.entries) x.wrote y.wrote);
        number = omega (arith, xn, yn, len);
        leaves = λ z. y.leaves (told z);
        parts = λ z. y.parts (told z) ∙ ap (λ (os : List (Record × List Record)). os ++ qs) (x.parts z);
        moves = omega (arith, xm, ym);
        peaks = peaks_then (room + more) x.peaks y.peaks (omega arith);
      }

  -- The second one gave up.
  pub stops_then : {t : RigState} {fault : EmFault} {more m : ℕ}
      → StopsParts a t u (leaf_blocks a x.entries ++ (second ++ writer_blocks a u)) more m fault
      → StopsParts s t w ((first ++ second) ++ writer_blocks s w) (room + more) (n + m) fault
  stops_then {t} {fault} {more} {m} y =
      let xm = x.moves in
      let ym = y.moves in
      let used = x.peaks.used in
      let blocks = x.runs.session.touches.blocks in
      record {
        stops = paid_then_stops (leaf_blocks a x.entries ++ (second ++ writer_blocks a u)) then_runs (λ z i. refl) y.stops;
        full = full_by fault (a.blocks < a.used + more) (s.blocks < s.used + (room + more))
            (λ h. omega (arith, h, used, blocks)) y.full;
        moves = omega (arith, xm, ym);
        peaks = peaks_then (room + more) x.peaks y.peaks (omega arith);
      }

-- the same chains and parts, said otherwise
pub lists_as : {s t : RigState} {w v : Writer} {before : List Entry} {held : List ℕ} {ps : List (Record × List Record)}
    {k room n : ℕ} (hs : List ℕ) (qs : List (Record × List Record)) → (IsTrue s.device.told → hs ≡ held)
    → (IsTrue s.device.told → ps ≡ qs) → ListsParts s t w v before held ps k room n
    → ListsParts s t w v before hs qs k room n
lists_as {s} {t} {w} {v} {before} {held} {ps} {k} {room} {n} hs qs e f l = record {
  entries = l.entries;
  runs = paid_from (leaf_blocks s before ++ (hs ++ writer_blocks s w)) l.runs
      (λ z j. ap (λ (ks : List ℕ). tally j (leaf_blocks s before ++ (ks ++ writer_blocks s w))) (e z));
  wrote = l.wrote;
  number = l.number;
  leaves = l.leaves;
  parts = λ z. l.parts z ∙ ap (λ (os : List (Record × List Record)). parts_at s before ++ os) (f z);
  moves = l.moves;
  peaks = l.peaks;
}
