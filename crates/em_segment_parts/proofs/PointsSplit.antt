-- The points of a chain, cut into strips by a reader that takes it.
use Rattle.std.proofs.Common.{◌≡◌, ℕ, ◌+◌, ◌*◌, ◌<◌, List, [], ◌∷◌, ◌++◌, length, map, refl, sym, ap, ◌∙◌, arith, IsTrue, true, Result, Ok, Err}
use Rattle.std.proofs.lemmas.List.{append-nil}
use Rattle.em_record.specs.declared.record.Record.{Record}
use Rattle.em_space.specs.Rig.{RigState}
use Rattle.em_space.specs.declared.fault.EmFault.{EmFault}
use Rattle.em_space.proofs.Held.{apart_none}
use Rattle.em_space.proofs.Ledgers.{full_by}
use Rattle.em_space.proofs.Paying.{pays_kept, pays_more, pays_then}
use Rattle.em_space.proofs.Sessions.{session_as, session_still, session_trans}
use Rattle.em_space.proofs.Steps.{cause_after, touches_then, touches_trans}
use Rattle.em_chain.specs.Chain.{chain_blocks}
use Rattle.em_chain.specs.Effects.{GivesFrame, LendsFrame, Unmoved}
use Rattle.em_chain.specs.Reader.{reader_items, rest_of}
use Rattle.em_chain.specs.Reads.{Opens}
use Rattle.em_chain.specs.declared.chain.Chain.{Chain}
use Rattle.em_chain.specs.declared.reader.Reader.{Reader}
use Rattle.em_chain.proofs.Keeps.{lent_given, lent_same, touches_none}
use Rattle.em_chain.proofs.Readers.{length_left}
use Rattle.em_chain.proofs.Writings.{cause_still, halts_between}
use Rattle.em_segment_model.specs.Points.{joined}
use Rattle.em_segment_model.specs.Sizes.{fan_root}
use Rattle.em_segment_model.specs.Spans.{value_span}
use Rattle.em_segment_parts.specs.Chains.{IsPackedChain, chains_blocks}
use Rattle.em_segment_parts.specs.Reports.{StopsShifting}
use Rattle.em_segment_parts.specs.Splits.{Splits, SplitsAll, SplitsSomeTo, SplitsTo, StopsSome, strips_in}
use Rattle.em_segment_parts.specs.declared.splitting.Strips.{Strips}
use Rattle.em_segment_parts.proofs.Chains.{chains_length, chains_stay}

none_of : (xs : List Record) → length xs ≡ 0 → xs ≡ []
none_of [] e = refl
none_of (x ∷ xs) e = absurd (omega (arith, e))

-- All points were cut, while the reader had a frame,
all_split : {most : ℕ} {s a b t : RigState} {c : Chain} {r q : Reader} {z : Strips} → IsPackedChain s c
    → 0 < c.count → LendsFrame s a → Unmoved s a → Opens s a c true r → SplitsAll most a b r q z
    → GivesFrame [] b t → Unmoved b t → Splits most s t c z
all_split {most} {s} {a} {b} {t} {c} {r} {q} {z} is some l m o f g v =
    let h = f.splits in
    let zs = strips_in z in
    let count = ap (λ (d : Chain). d.count) o.words in
    let blocks = ap (λ (d : Chain). d.blocks) o.words in
    let left = h.took.left_is in
    let none = f.none in
    let gone = h.took.none_left (λ e. absurd (omega (arith, e, some, count))) none in
    let told = h.took.told in
    let st = chains_stay [] b t zs g.touches (λ y. apart_none (chains_blocks b zs)) h.are in
    let rest = chain_blocks b (rest_of q) in
    let empty : rest ≡ [] = rw gone refl in
    let e = h.runs.spends in
    let lent = m.same in
    let given = v.same in
    let n = chains_length z.points.items in
    let owed_is = o.owed_is in
    record {
      are = st.are;
      cut = h.cut;
      len = h.len;
      count_is = omega (arith, h.count_is, left, none, count);
      few = omega (arith, h.few, left, none, count);
      lists = λ y.
          let d : IsTrue a.device.told = l.touches.told ∙ y in
          let no : reader_items b q ≡ [] = none_of (reader_items b q)
          (length_left b q h.took.is (told ∙ d) ∙ none) in
          ap joined (st.lists (told ∙ d)) ∙ h.lists d ∙ sym (append-nil h.points)
          ∙ ap (λ (xs : List Record). h.points ++ xs) (sym no) ∙ sym (h.took.items d) ∙ o.items y;
      spans = λ y.
          let d : IsTrue a.device.told = l.touches.told ∙ y in
          h.spans d ∙ ap (map value_span) (sym (st.lists (told ∙ d)));
      shifts = record {
        session = session_trans (session_as (chain_blocks a (rest_of r))
            (session_still (chain_blocks s c) l.sound l.touches (λ y. (is.is.told y).holds)) o.blocks)
            (session_trans h.runs.session
            (session_as (chains_blocks t zs) (session_still (rest ++ chains_blocks b zs) g.sound g.touches
            (λ y. h.runs.session.holds (sym told ∙ y)))
            (λ y. st.blocks y ∙ ap (λ (ks : List ℕ). ks ++ chains_blocks b zs) (sym empty))));
        frames = lent_given s.pool b.pool t.pool
            (lent_same 1 s.pool a.pool b.pool l.frames h.runs.frames) g.frames;
        spends = record {
          held = omega arith;
          used = omega (arith, e.used, lent.used, given.used, blocks, gone);
          most = omega (arith, e.most, lent.used, lent.most, given.most, blocks, h.some);
          moves = omega (arith, e.moves, m.moves, v.moves, owed_is, n);
          later = omega (arith, e.later, m.moves, v.moves);
          pays = pays_then (pays_kept 0 (omega (arith, lent.used)) (omega (arith, m.moves)))
              (pays_then e.pays (pays_kept 0 (omega (arith, given.used)) (omega (arith, v.moves)))
              (omega (arith, v.moves))) (omega (arith, e.later, v.moves));
        };
      };
    }

-- or a call gave up.
split_stopped : {s a b t : RigState} {c : Chain} {r : Reader} {e : EmFault} → LendsFrame s a
    → Unmoved s a → Opens s a c true r → StopsSome (fan_root a.pool.shape) a b r e → GivesFrame [] b t
    → Unmoved b t
    → StopsShifting (c.blocks + fan_root s.pool.shape + 1) (4 * c.blocks + 3 * fan_root s.pool.shape + 3)
    (chain_blocks s c) c.blocks s t e
split_stopped {s} {a} {b} {t} {c} {r} {e} l m o k g v =
    let h = k.stops in
    let d = halts_between m h.halts v in
    let blocks = ap (λ (d : Chain). d.blocks) o.words in
    let root = ap fan_root l.frames.shape in
    let owed_is = o.owed_is in
    let ks = chain_blocks s c in
    record {
      stops = record {
        goes = record {
          sound = g.sound;
          touches = touches_then ks s b t (touches_trans ks (chain_blocks a (rest_of r)) s a b
              (touches_none ks s a l.touches) h.goes.touches (λ z j p u. rw (o.blocks z) u)) g.touches;
          frames = lent_given s.pool b.pool t.pool
              (lent_same 1 s.pool a.pool b.pool l.frames h.goes.frames) g.frames;
        };
        halts = record {
          used = omega (arith, d.used, blocks, root);
          full = full_by e (t.used + r.blocks < s.used + (r.blocks + fan_root a.pool.shape + 1))
              (t.used + c.blocks < s.used + (c.blocks + fan_root s.pool.shape + 1))
              (λ p. omega (arith, p, blocks, root)) d.full;
          most = omega (arith, d.most, blocks, root);
          moves = omega (arith, d.moves, blocks, root, owed_is);
          later = d.later;
          pays = pays_more d.pays (omega arith);
        };
        cause = cause_still s b t e v g.touches (cause_after [] s a b e l.touches h.cause);
      };
    }

-- by the result
pub splits_all : {s a b t : RigState} {c : Chain} {r : Reader} (most : ℕ) (q : Reader)
    (result : Result Strips EmFault) → IsPackedChain s c → 0 < c.count → LendsFrame s a → Unmoved s a
    → Opens s a c true r → SplitsSomeTo most a b r q result → GivesFrame [] b t → Unmoved b t
    → SplitsTo most s t c result
splits_all most q (Ok z) is some l m o h g v = all_split is some l m o h g v
splits_all most q (Err e) is some l m o h g v = split_stopped l m o h g v
