-- A leaf's block, stored and listed.
use Rattle.std.proofs.Common.{◌≡◌, ℕ, ◌+◌, ◌*◌, ◌<◌, min, List, [], ◌∷◌, length, sym, ap, ◌∙◌, subst, arith, IsTrue, Result, Ok, Err, IsErrAnd}
use Rattle.em_record.specs.declared.record.Record.{Record}
use Rattle.em_frames.specs.Device.{block_at}
use Rattle.em_space.specs.Free.{Off, header}
use Rattle.em_space.specs.Ledger.{Halts, Session, Spends}
use Rattle.em_space.specs.Rig.{RigState, Sound, Touches}
use Rattle.em_space.specs.declared.fault.EmFault.{EmFault}
use Rattle.em_space.proofs.Held.{apart_none, in_use_kept}
use Rattle.em_space.proofs.Ledgers.{full_by}
use Rattle.em_space.proofs.Paying.{pays_more, pays_then}
use Rattle.em_space.proofs.Sessions.{session_as, session_beside, session_last}
use Rattle.em_space.proofs.Steps.{cause_after, goes_trans, same_frames_then}
use Rattle.em_space.proofs.Within.{goes_wider}
use Rattle.em_chain.specs.Chain.{payload_in}
use Rattle.em_chain.specs.Session.{StopsWriting, Writes, writer_account}
use Rattle.em_chain.specs.Writer.{IsWriter, WriterStays, writer_blocks}
use Rattle.em_chain.specs.declared.chain.Chain.{Chain}
use Rattle.em_chain.specs.declared.writer.Writer.{Writer}
use Rattle.em_chain.proofs.Keeps.{has_kept, payload_kept}
use Rattle.em_chain.proofs.Laws.{writer_stays}
use Rattle.em_chain.proofs.Sessions.{wrote_stays, wrote_then}
use Rattle.em_tree_blocks.specs.Node.{leaf_chain}
use Rattle.em_tree_walk.proofs.Losses.{writer_length}
use Rattle.em_tree_load.specs.LeafChanges.{IsLeafOf, StopsNewLeaf, StoredNewLeaf}
use Rattle.em_tree_load.proofs.Peaks.{peaks_wider}
use Rattle.em_tree_raise.specs.Listing.{ListingCosts, ListsSubtree, block_record, two_more}
use Rattle.em_tree_trim.specs.Listed.{ListedLeaf, ListsLeaf, StopsListing}
use Rattle.em_tree_trim.proofs.Runs.{full_all}
use Rattle.em_tree_trim.proofs.Sizes.{two_most}

-- A writer beside a leaf's new block.
pub writer_beside : {s a : RigState} {w : Writer} {c : Chain} {k : ℕ} → IsWriter s w → StoredNewLeaf s a c k
    → WriterStays s a w
writer_beside {s} {a} {w} i x = writer_stays [] s a w x.runs.session.touches (λ z. apart_none (writer_blocks s w))
    (has_kept 1 (length w.frame) s.pool a.pool x.runs.frames i.frame) i

-- A block that was stored stays over calls on a list,
leaf_kept : {a t : RigState} {c : Chain} {k : ℕ} (held : List ℕ) → IsTrue a.device.told → Touches held a t → Off k held
    → IsLeafOf a k c → IsLeafOf t k c
leaf_kept {a} {t} {c} {k} held z h o i =
    let same = (h.others z k i.in_use o).contents in
    record {
      in_use = in_use_kept held a t k h (λ y. o) i.in_use;
      head = ap header same ∙ i.head;
      chain = ap (λ (p : ℕ). leaf_chain p (block_at t.device k)) (payload_kept held a t h)
          ∙ (ap (leaf_chain (payload_in a)) same ∙ i.chain);
    }

-- and was listed.
leaf_listed : {s a t : RigState} {w v : Writer} {c : Chain} {k : ℕ} (low : Record) → Sound s → IsWriter s w
    → StoredNewLeaf s a c k → Writes a t w v (low ∷ block_record k ∷ [])
    → Spends (two_more a w) (writer_account w) (writer_account v) a t → ListedLeaf s t w v low c
leaf_listed {s} {a} {t} {w} {v} {c} {k} low sound i x y m =
    let st = writer_beside i x in
    let first = x.runs.session in
    let told : IsTrue s.device.told → IsTrue a.device.told = λ z. first.touches.told ∙ z in
    let both : Session (writer_blocks s w) s a (k ∷ writer_blocks s w) =
    session_beside [] [] (k ∷ []) (writer_blocks s w) (λ z. (i.told z).holds) first in
    let whole : Session (writer_blocks s w) s a (k ∷ writer_blocks a w) =
    session_as (k ∷ writer_blocks a w) both (λ z. ap (λ (ks : List ℕ). k ∷ ks) (st.blocks z)) in
    let most = two_most a w first.sound st.is in
    let held = m.held in
    let used = m.used in
    let taken = x.used in
    let moved = m.moves in
    let before = x.moves in
    let peak = m.most in
    let peaks = x.peaks.most in
    record {
      block = k;
      runs = record {
        session = session_last (k ∷ []) (writer_blocks a w) (writer_blocks t v) whole y.runs.session;
        frames = same_frames_then s.pool a.pool t.pool x.runs.frames y.runs.frames;
        pays = pays_then (pays_more {p = min w.blocks 1} {q = min w.blocks 1} x.runs.pays (omega arith)) m.pays m.later;
        loses = λ z.
            let n = writer_length i z in
            let o = writer_length y.wrote.is (y.wrote.told ∙ told z) in
            omega (arith, n, o, used, taken);
      };
      wrote = wrote_then [] (low ∷ block_record k ∷ []) (wrote_stays first.touches.told st) y.wrote;
      below = x.below;
      leaf = λ z e. leaf_kept (writer_blocks a w) (told z) y.runs.session.touches
          ((whole.holds z).distinct (told z)).0 (x.is z e);
      moves = omega (arith, most, held, moved, before);
      peaks = record {
        used = omega (arith, most, held, used, taken);
        most = omega (arith, most, held, used, taken, peak, peaks);
      };
    }

-- It couldn't be stored,
leaf_unstored : {s a : RigState} {w : Writer} {e : EmFault} → StopsNewLeaf s a e → StopsListing s a w e
leaf_unstored {s} {a} {w} {e} x = record {
  stops = record {
    goes = goes_wider (writer_blocks s w) [] s a (record { off = λ z j u o. tt }) x.stops.goes;
    pays = pays_more x.stops.pays (omega arith);
    cause = x.stops.cause;
  };
  full = full_by e (s.blocks ≡ s.used) (s.blocks < s.used + 2) (λ h. omega (arith, h)) x.full;
  moves = let m = x.moves in omega (arith, m);
  peaks = peaks_wider 2 (omega arith) x.peaks;
}

-- or listed.
leaf_unlisted : {s a t : RigState} {w : Writer} {c : Chain} {k : ℕ} {e : EmFault} → IsWriter s w
    → StoredNewLeaf s a c k → StopsWriting a t w 2 e
    → Halts (two_more a w) (2 * two_more a w) 1 (writer_account w) a t e → StopsListing s t w e
leaf_unlisted {s} {a} {t} {w} {c} {k} {e} i x y m =
    let st = writer_beside i x in
    let first = x.runs.session in
    let most = two_most a w first.sound st.is in
    let used = m.used in
    let taken = x.used in
    let moved = m.moves in
    let before = x.moves in
    let peak = m.most in
    let peaks = x.peaks.most in
    let blocks = first.touches.blocks in
    let full = full_all a t e w.blocks (a.used + two_more a w) y.stops.cause y.stops.goes.touches.blocks m.full in
    record {
      stops = record {
        goes = goes_trans (writer_blocks s w) (writer_blocks a w) s a t
            (goes_wider (writer_blocks s w) [] s a (record { off = λ z j u o. tt })
            (record { sound = first.sound; touches = first.touches; frames = x.runs.frames }))
            y.stops.goes (λ z j u o. subst (λ (ks : List ℕ). Off j ks) (sym (st.blocks z)) o);
        pays = pays_more (pays_then (pays_more {p = min w.blocks 1} {q = min w.blocks 1} x.runs.pays (omega arith))
            m.pays m.later) (omega arith);
        cause = cause_after [] s a t e first.touches y.stops.cause;
      };
      full = full_by e (a.blocks + w.blocks < a.used + two_more a w) (s.blocks < s.used + 2)
          (λ h. omega (arith, h, most, taken, blocks)) full;
      moves = omega (arith, most, moved, before);
      peaks = record {
        used = omega (arith, most, used, taken);
        most = omega (arith, most, used, taken, peak, peaks);
      };
    }

-- By the result.
pub lists_leaf : (s a t : RigState) (w v : Writer) (low : Record) (c : Chain) (k : ℕ) (result : Result Unit EmFault)
    → Sound s → IsWriter s w → StoredNewLeaf s a c k → ListsSubtree a t w v low k result
    → ListingCosts a t w v result → ListsLeaf s t w v low c result
lists_leaf s a t w v low c k (Ok x) sound i n y m = leaf_listed low sound i n y m
lists_leaf s a t w v low c k (Err e) sound i n y m = leaf_unlisted i n y m

pub unlists_leaf : (s a : RigState) (w v : Writer) (low : Record) (c : Chain) (result : Result Unit EmFault)
    (e : EmFault) → IsErrAnd result (λ m. m ≡ e) → StopsNewLeaf s a e → ListsLeaf s a w v low c result
unlists_leaf s a w v low c (Ok x) e h y = absurd h
unlists_leaf s a w v low c (Err m) e h y =
    subst (λ (f : EmFault). StopsListing s a w f) (sym h) (leaf_unstored y)
