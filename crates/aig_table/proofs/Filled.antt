-- A table is filled: words are taken, and the edges of both lists are read and followed.
use Rattle.std.proofs.Common.{◌≡◌, ℕ, ◌+◌, ◌-◌, ◌*◌, ◌<◌, ◌≤◌, Bool, List, [], length, sym, subst, arith, IsTrue, Result, Ok, Err, OnOk}
use Rattle.em_record.specs.declared.record.Record.{Record}
use Rattle.em_space.specs.Ledger.{Account, Runs, Stops}
use Rattle.em_space.specs.Rig.{RigState, Touches}
use Rattle.em_space.specs.declared.fault.EmFault.{EmFault}
use Rattle.em_space.proofs.Held.{apart_none}
use Rattle.em_space.proofs.Ledgers.{full_never}
use Rattle.em_space.proofs.Lists.{apart_left, apart_right}
use Rattle.em_space.proofs.Paying.{pays_kept, pays_then}
use Rattle.em_space.proofs.Runs.{runs_goes}
use Rattle.em_space.proofs.Sessions.{session_still, session_trans}
use Rattle.em_space.proofs.Steps.{block_cause, cause_after, same_frames_then}
use Rattle.em_space.proofs.Within.{goes_within}
use Rattle.em_chain.specs.Chain.{ChainStays, chain_blocks}
use Rattle.em_chain.specs.declared.chain.Chain.{Chain}
use Rattle.em_chain.proofs.Laws.{chain_stays}
use Rattle.aig_defs.specs.declared.circuit.Header.{Header}
use Rattle.aig_edges.specs.Looks.{Looks, LooksAll, StopsLooking}
use Rattle.aig_sweep.specs.Evaluates.{bits_account}
use Rattle.aig_sweep.specs.Lists.{lists_account}
use Rattle.aig_sweep.specs.Spreads.{base_of, last_of}
use Rattle.aig_table.specs.Follows.{FollowsTo}
use Rattle.aig_table.specs.Loads.{LoadsFor, LoadsList}
use Rattle.aig_table.specs.Sweeps.{CanFill, FillsTo, HasEdgesOf}
use Rattle.aig_table.specs.Tables.{BeginsTable, Followable, IsTable, ranks_of}
use Rattle.aig_table.proofs.Tables.{follows_all, follows_first, follows_none, table_begun}

-- this many moves more may come
abbrev more_owed : ℕ → Account → Account
more_owed n a = record a { owed = a.owed + n }

-- Calls that took all blocks of a list, and then a look,
looks_after : {p n : ℕ} {held : List ℕ} {a : Account} {s t u : RigState}
    → Runs p held [] a (lists_account 0 0) s t → Looks n t u
    → Runs p held [] (more_owed n a) (lists_account 0 0) s u
looks_after {p} {n} {held} {a} {s} {t} {u} h g =
    let k = h.spends in
    let used = g.used in
    let most = g.most_is in
    let moves = g.moves in
    record {
      session = session_trans h.session (session_still [] g.goes.sound g.goes.touches
          (λ z. record { in_use = tt; distinct = λ y. tt }));
      frames = same_frames_then s.pool t.pool u.pool h.frames g.goes.frames;
      spends = record {
        held = k.held;
        used = omega (arith, k.used, used);
        most = omega (arith, k.most, most);
        moves = omega (arith, k.moves, moves);
        later = omega (arith, k.later, g.goes.touches.moves);
        pays = pays_then k.pays (pays_kept 0 (omega (arith, used)) g.goes.touches.moves) g.goes.touches.moves;
      };
    }

-- which gave up.
looks_stop : {p n : ℕ} {held : List ℕ} {a : Account} {s t u : RigState} {e : EmFault}
    → Runs p held [] a (lists_account 0 0) s t → StopsLooking n t u e
    → Stops p 0 0 held (more_owed n a) s u e
looks_stop {p} {n} {held} {a} {s} {t} {u} {e} h g =
    let k = h.spends in
    let l = g.looks in
    let used = l.used in
    let most = l.most_is in
    let moves = l.moves in
    record {
      goes = goes_within held [] s t u (runs_goes h) h.session.within l.goes;
      halts = record {
        used = omega (arith, k.used, used);
        full = full_never t u e _ g.cause;
        most = omega (arith, k.most, most);
        moves = omega (arith, k.moves, moves);
        later = omega (arith, k.later, l.goes.touches.moves);
        pays = pays_then k.pays (pays_kept 0 (omega (arith, used)) l.goes.touches.moves) l.goes.touches.moves;
      };
      cause = cause_after held s t u e h.session.touches (block_cause t u e g.cause);
    }

stops_owed : {p l u : ℕ} {held : List ℕ} {a : Account} {s t : RigState} {e : EmFault} (n : ℕ)
    → Stops p l u held a s t e → Stops p l u held (more_owed n a) s t e
stops_owed {a = a} n h =
    let k = h.halts in
    record {
      goes = h.goes;
      halts = record {
        used = k.used;
        full = k.full;
        most = k.most;
        moves = let m = k.moves in omega (arith, m);
        later = k.later;
        pays = k.pays;
      };
      cause = h.cause;
    }

module _ {h : Header} {given gates words : Chain} {bits : ℕ} {s : RigState}
    (can : CanFill h given gates words bits s) where
  -- The edges stay while the words are taken,
  pub given_stays : {t : RigState} → Touches (chain_blocks s words) s t → ChainStays s t given
  given_stays {t} g = chain_stays (chain_blocks s words) s t given g
      (λ z. apart_left (chain_blocks s given) (chain_blocks s gates) (chain_blocks s words) (can.apart z))
      can.given_is

  pub gates_stay : {t : RigState} → Touches (chain_blocks s words) s t → ChainStays s t gates
  gates_stay {t} g = chain_stays (chain_blocks s words) s t gates g
      (λ z. apart_right (chain_blocks s given) (chain_blocks s gates) (chain_blocks s words) (can.apart z))
      can.gates_is

  -- and while they are read.
  pub gates_still : {t u : RigState} → Touches (chain_blocks s words) s t → Touches [] t u
      → ChainStays t u gates
  gates_still {t} {u} g k = chain_stays [] t u gates k (λ z. apart_none (chain_blocks t gates))
      (gates_stay g).is

  -- The words weren't taken,
  pub fill_unloaded : {t : RigState} {e : EmFault}
      → Stops words.blocks 0 0 (chain_blocks s words) (lists_account words.blocks (2 * words.blocks)) s t e
      → Stops words.blocks 0 0 (chain_blocks s words) (bits_account given gates words) s t e
  fill_unloaded x = stops_owed gates.blocks (stops_owed given.blocks x)

  -- or the first edges weren't read,
  pub fill_first : {t u : RigState} {old new : List Record} {e : EmFault} → LoadsList s t words old new
      → StopsLooking given.blocks t u e
      → Stops words.blocks 0 0 (chain_blocks s words) (bits_account given gates words) s u e
  fill_first l x = stops_owed gates.blocks (looks_stop l.runs x)

  -- or all were but the last ones, of which the result tells.
  pub fill_last : {T : Type 0} {t u : RigState} {old new : List Record} (v : RigState) (P : T → Type 0)
      (result : Result T EmFault) → LoadsList s t words old new → Looks given.blocks t u
      → LooksAll gates.blocks u v P result → FillsTo given gates words s v result
  fill_last v P (Ok x) l k j = looks_after (looks_after l.runs k) j.0
  fill_last v P (Err e) l k j = looks_stop (looks_after l.runs k) j

-- What follows from an answer of the last ones.
pub fill_values : {T P B : Type 0} {told : Bool} (n : ℕ) (u v : RigState) (result : Result T EmFault)
    → LooksAll n u v (λ done. P) result → (IsTrue told → (IsTrue u.device.told → P) → B)
    → OnOk result (IsTrue told → B)
fill_values n u v (Ok x) j f = λ z. f z j.1
fill_values n u v (Err e) j f = tt

-- The table has the bits of all ranks.
pub filled : {value : ℕ → Bool} {all G H W : List Record} {h : Header} (zero one two three four : List Record)
    (last n i j : ℕ) → last ≡ ranks_of h - 1 → last < 256 * length zero → length one ≡ length zero
    → length two ≡ length one → length three ≡ length two → n ≡ base_of h → BeginsTable last zero one
    → LoadsFor 0 n W [] one two → FollowsTo G [] i last two three → FollowsTo H [] j last three four
    → HasEdgesOf value all h G H W → IsTable value (base_of h) (ranks_of h - 1) all four
filled {value} {all} {G} {H} {W} {h} zero one two three four last n i j is fits a b c count begun load first
    second x =
    let low = x.followable.low in
    let high = x.followable.high in
    let f = subst (λ (m : ℕ). Followable value all (base_of h) (last_of h) m) (sym is) x.followable in
    let start : IsTable value 0 last [] one = table_begun last x.constant begun in
    let few : 0 + n ≤ last = omega (arith, count, is, low, high) in
    let loaded = (load value last (omega (arith, fits, a)) few start x.bits_are).0 in
    let given : IsTable value (base_of h) last [] two =
    subst (λ (m : ℕ). IsTable value m last [] two) (omega (arith, count)) loaded in
    let mid = first value all H (base_of h) (last_of h) 0 f (omega (arith, fits, a, b))
    (follows_none x.whole given) in
    let end = second value all [] (base_of h) (last_of h) (0 + i) f (omega (arith, fits, a, b, c))
    (follows_first mid) in
    subst (λ (m : ℕ). IsTable value (base_of h) m all four) is (follows_all end)
