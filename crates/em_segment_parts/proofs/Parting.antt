-- Parts that write pairs, with their blocks in another order, and beside others.
use Rattle.std.proofs.Common.{◌≡◌, ℕ, ◌+◌, ◌*◌, ◌≤◌, List, [], ◌++◌, subst, arith, IsTrue}
use Rattle.em_record.specs.declared.record.Record.{Record}
use Rattle.em_space.specs.Held.{Holds}
use Rattle.em_space.specs.Ledger.{Stops}
use Rattle.em_space.specs.Rig.{RigState, Sound}
use Rattle.em_space.specs.declared.fault.EmFault.{EmFault}
use Rattle.em_space.proofs.Ledgers.{full_by}
use Rattle.em_space.proofs.Paying.{pays_more}
use Rattle.em_space.proofs.Runs.{runs_none, stops_first, stops_wider}
use Rattle.em_space.proofs.Sessions.{session_beside}
use Rattle.em_chain.specs.Chain.{payload_in}
use Rattle.em_chain.specs.Counts.{ceiling}
use Rattle.em_chain.specs.Writer.{filled, writer_blocks}
use Rattle.em_chain.specs.declared.writer.Writer.{Writer}
use Rattle.em_chain.proofs.Sessions.{wrote_none}
use Rattle.em_segment_parts.specs.Accounts.{beside_pairs, stored}
use Rattle.em_segment_parts.specs.Pairs.{IsPairs}
use Rattle.em_segment_parts.specs.Reports.{Reports, StopsReporting, unstored_most}
use Rattle.em_segment_parts.proofs.Regrouping.{SameTally, goes_same, holds_same, session_from, session_same, tally_beside, tally_last}
use Rattle.em_segment_parts.proofs.Writing.{grown_rises}

-- No part yet,
pub reports_none : {n : ℕ} {held : List ℕ} {s : RigState} {w : Writer} → Sound s → IsPairs s w
    → (IsTrue s.device.told → Holds s (held ++ writer_blocks s w))
    → Reports n 0 held held n n s s w w []
reports_none {n} {held} {s} {w} h i k =
    let all = runs_none s (held ++ writer_blocks s w) (beside_pairs n w) h k in
    let e = all.spends in
    record {
      runs = record {
        session = all.session;
        frames = all.frames;
        spends = record {
          held = omega arith;
          used = e.used;
          most = omega (arith, e.most);
          moves = omega (arith, e.moves);
          later = e.later;
          pays = e.pays;
        };
      };
      wrote = wrote_none i.writer;
      grows = omega arith;
      few = i.few;
    }

-- parts with numbers that aren't less than said, and blocks in another order,
pub reports_as : {p q a b n c m d : ℕ} {held ks : List ℕ} {s t : RigState} {w v : Writer}
    {xs : List Record} (gs js : List ℕ) → p ≤ q → a ≤ b → n ≡ c → m ≡ d
    → (IsTrue s.device.told → SameTally gs held) → (IsTrue s.device.told → SameTally ks js)
    → Reports p a held ks n m s t w v xs → Reports q b gs js c d s t w v xs
reports_as {p} {q} {a} {b} {n} {c} {m} {d} {held} {ks} {s} {t} {w} {v} {xs} gs js lp la en em x y h =
    let e = h.runs.spends in
    let W = writer_blocks s w in
    let V = writer_blocks t v in
    record {
      runs = record {
        session = session_from (gs ++ W) (session_same (js ++ V) h.runs.session
            (λ z. tally_beside ks js V (y z))) (λ z. tally_beside gs held W (x z));
        frames = h.runs.frames;
        spends = record {
          held = omega (arith, e.held, em, lp);
          used = omega (arith, e.used, en, em);
          most = omega (arith, e.most, en, lp);
          moves = omega (arith, e.moves, la);
          later = e.later;
          pays = e.pays;
        };
      };
      wrote = h.wrote;
      grows = h.grows;
      few = h.few;
    }

-- and beside blocks that they leave alone.
pub reports_beside : {p a n m : ℕ} {held ks : List ℕ} {s t : RigState} {w v : Writer} {xs : List Record}
    (ys : List ℕ) (x : ℕ) → (IsTrue s.device.told → Holds s ((held ++ ys) ++ writer_blocks s w))
    → Reports p a held ks n m s t w v xs
    → Reports (p + x) a (held ++ ys) (ks ++ ys) (n + x) (m + x) s t w v xs
reports_beside {p} {a} {n} {m} {held} {ks} {s} {t} {w} {v} {xs} ys x k h =
    let e = h.runs.spends in
    let W = writer_blocks s w in
    let V = writer_blocks t v in
    let all = session_beside [] (held ++ W) (ks ++ V) ys
    (λ z. holds_same ((held ++ ys) ++ W) ((held ++ W) ++ ys) (tally_last held ys W) (k z))
    h.runs.session in
    record {
      runs = record {
        session = session_from ((held ++ ys) ++ W) (session_same ((ks ++ ys) ++ V) all
            (λ z. tally_last ks V ys)) (λ z. tally_last held ys W);
        frames = h.runs.frames;
        spends = record {
          held = omega (arith, e.held);
          used = omega (arith, e.used);
          most = omega (arith, e.most);
          moves = omega (arith, e.moves);
          later = e.later;
          pays = e.pays;
        };
      };
      wrote = h.wrote;
      grows = h.grows;
      few = h.few;
    }

-- A part that gave up, with numbers that aren't less than said, and blocks in another order,
pub stops_as : {p q a b m more n c : ℕ} {held : List ℕ} {s t : RigState} {w : Writer} {e : EmFault}
    (gs : List ℕ) → Sound s → p ≤ q → a ≤ b → m ≤ more → n ≡ c
    → (IsTrue s.device.told → SameTally gs held) → StopsReporting p a m held n s t w e
    → StopsReporting q b more gs c s t w e
stops_as {p} {q} {a} {b} {m} {more} {n} {c} {held} {s} {t} {w} {e} gs so lp la lm en x k =
    let W = writer_blocks s w in
    let r = grown_rises s w m more so lm in
    let d = k.stops in
    let wide = stops_wider (omega (arith, r, lp)) (omega (arith, r, la)) (omega arith) d in
    let g = subst (λ (y : ℕ). Stops (q + ceiling (filled s w + more) (payload_in s))
    (2 * ceiling (filled s w + more) (payload_in s) + b) (unstored_most s) (held ++ W) (beside_pairs y w)
    s t e) en wide in
    record {
      stops = record {
        goes = goes_same (gs ++ W) g.goes (λ z. tally_beside gs held W (x z));
        halts = g.halts;
        cause = g.cause;
      };
    }

-- and beside blocks that it leaves alone.
pub stops_beside : {p a tried n : ℕ} {held : List ℕ} {s t : RigState} {w : Writer} {e : EmFault}
    (ys : List ℕ) (x : ℕ) → StopsReporting p a tried held n s t w e
    → StopsReporting (p + x) a tried (held ++ ys) (n + x) s t w e
stops_beside {p} {a} {tried} {n} {held} {s} {t} {w} {e} ys x k =
    let W = writer_blocks s w in
    let g = stops_first ys (stored x) k.stops in
    let d = g.halts in
    record {
      stops = record {
        goes = goes_same ((held ++ ys) ++ W) g.goes (λ z. tally_last held ys W);
        halts = record {
          used = omega (arith, d.used);
          full = full_by e _ _ (λ y. omega (arith, y)) d.full;
          most = omega (arith, d.most);
          moves = omega (arith, d.moves);
          later = d.later;
          pays = pays_more d.pays (omega arith);
        };
        cause = g.cause;
      };
    }
