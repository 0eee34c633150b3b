-- The lists of a graph: gates and sources are released, and the edges are written anew.
use Rattle.std.proofs.Common.{◌≡◌, ℕ, ◌+◌, ◌*◌, ◌^◌, ◌<◌, ◌≤◌, List, [], ◌∷◌, ◌++◌, map, IsTrue, Result, Ok, Err, refl, ap, ap₂, sym, ◌∙◌, arith}
use Rattle.std.proofs.lemmas.List.{append-nil}
use Rattle.em_record.specs.declared.record.Record.{Record}
use Rattle.em_space.specs.Held.{Holds}
use Rattle.em_space.specs.Ledger.{Account, both, Runs, Spends, Stops}
use Rattle.em_space.specs.Rig.{RigState, Goes, BlockCause}
use Rattle.em_space.specs.declared.fault.EmFault.{EmFault}
use Rattle.em_space.proofs.Ledgers.{full_never}
use Rattle.em_space.proofs.Lists.{apart_left, apart_right, apart_sym, distinct_apart}
use Rattle.em_space.proofs.Paying.{pays_kept, pays_more}
use Rattle.em_space.proofs.Runs.{runs_as, runs_first, runs_of, runs_second, runs_then, runs_wider, stops_after, stops_first, stops_second, stops_wider}
use Rattle.em_space.proofs.Steps.{block_cause}
use Rattle.em_space.proofs.Within.{within_none}
use Rattle.em_chain.specs.Chain.{ChainStays, chain_blocks, chain_items, payload_in}
use Rattle.em_chain.specs.Counts.{ceiling}
use Rattle.em_chain.specs.Row.{Frees}
use Rattle.em_chain.specs.declared.chain.Chain.{Chain}
use Rattle.em_chain.proofs.Keeps.{payload_kept}
use Rattle.em_chain.proofs.Laws.{chain_stays}
use Rattle.aig_defs.specs.declared.circuit.Header.{Header}
use Rattle.aig_defs.specs.VariableRanks.{ranked_edge}
use Rattle.aig_edges.specs.Accounts.{stored_account}
use Rattle.aig_edges.specs.Copies.{CanWriteAnew, WritesAnew, copied_from}
use Rattle.aig_edges.specs.Graph.{IsGraph, graph_lists, graph_size, ranked_room}
use Rattle.aig_edges.specs.Sorts.{sorting_moves}
use Rattle.aig_edges.specs.declared.copying.Copied.TheVariants.{Ranked}
use Rattle.aig_edges.specs.declared.graph.Graph.{Graph}
use Rattle.aig_edges.proofs.Besides.{holds_last, stops_by}
use Rattle.aig_straight.specs.Straight.{MakesStraight, MakesStraightTo, straight_moves, straight_peak}

-- what a list has that is to be released
abbrev list_account : Chain → Account
list_account c = stored_account c.blocks (2 * c.blocks)

-- A list was released,
released : {s t : RigState} (c : Chain) (u : Unit {0}) → Goes (chain_blocks s c) s t
    → Frees {T = Unit {0}} c.blocks s t (Ok u)
    → Runs c.blocks (chain_blocks s c) [] (list_account c) (stored_account 0 0) s t
released {s} {t} c u g f =
    let ks = chain_blocks s c in
    let used = f.used in
    let most = f.most in
    let moves = f.moves in
    let k : Spends c.blocks (list_account c) (stored_account 0 0) s t = record {
      held = omega arith;
      used = omega (arith, used);
      most = omega (arith, most);
      moves = omega (arith, moves);
      later = g.touches.moves;
      pays = pays_kept 0 f.used_most g.touches.moves;
    } in
    runs_of ks [] g (within_none s ks [] (λ z. refl)) (λ z. record { in_use = tt; distinct = λ y. tt })
    k

-- or it wasn't.
unreleased : {s t : RigState} (c : Chain) {fault : EmFault} → Goes (chain_blocks s c) s t
    → Frees {T = Unit {0}} c.blocks s t (Err fault) → BlockCause s t fault
    → Stops c.blocks 0 0 (chain_blocks s c) (list_account c) s t fault
unreleased {s} {t} c {fault} g f cause =
    let used = f.used_most in
    let most = f.most in
    let moves = f.moves in
    record {
      goes = g;
      halts = record {
        used = omega (arith, used);
        full = full_never s t fault _ cause;
        most = omega (arith, most);
        moves = omega (arith, moves);
        later = g.touches.moves;
        pays = pays_kept 0 f.used_most g.touches.moves;
      };
      cause = block_cause s t fault cause;
    }

-- what the lists of a graph have: gates, then edges and sources
abbrev edges_account : RigState → Graph → Account
edges_account s g = stored_account g.edges.blocks (2 * g.edges.blocks + 2 * ranked_room s g + 1)

abbrev rest_account : RigState → Graph → Account
rest_account s g = both (edges_account s g) (list_account g.sources)

-- other accounts of as many blocks, with as many moves to come
runs_like : {p : ℕ} {ks js : List ℕ} {a b : Account} {s t : RigState} (x y : Account)
    → x.blocks ≡ a.blocks → y.blocks ≡ b.blocks → x.unstored ≡ a.unstored → y.unstored ≡ b.unstored
    → a.owed + b.paid + x.paid + y.owed ≤ x.owed + y.paid + a.paid + b.owed
    → Runs p ks js a b s t → Runs p ks js x y s t
runs_like x y xb yb xu yu m h =
    let e = h.spends in
    record {
      session = h.session;
      frames = h.frames;
      spends = record {
        held = omega (arith, e.held, yb);
        used = omega (arith, e.used, xb, yb);
        most = omega (arith, e.most, xb);
        moves = omega (arith, e.moves, m);
        later = e.later;
        pays = pays_more e.pays (omega (arith, xu, yu));
      };
    }

-- what is written for the edges of a graph
ranked_all : (h : Header) (j : ℕ) (rs : List Record)
    → copied_from (Ranked h) j rs ≡ map (ranked_edge (λ v. v) h) rs
ranked_all h j [] = refl
ranked_all h j (r ∷ rs) =
    ap (λ (es : List Record). ranked_edge (λ v. v) h r ∷ es) (ranked_all h (j + 1) rs)

-- what making the edges did, by the result
abbrev pub EdgesMade : RigState → RigState → Graph → Result Chain EmFault → Type 0
EdgesMade s t g (Ok c) = MakesStraight s t g c
EdgesMade s t g (Err fault) = Stops (straight_peak s g) 0 1 (graph_lists s g)
    (stored_account (graph_size g) (straight_moves s g)) s t fault

-- Gates were released; edges and sources stay.
pub record GatesGone (s t : RigState) (g : Graph) : Type 0 where
  pub edges : ChainStays s t g.edges
  pub sources : ChainStays s t g.sources
  pub runs : Runs (graph_size g) (graph_lists s g) (chain_blocks t g.edges ++ chain_blocks t g.sources)
      (stored_account (graph_size g) (straight_moves s g)) (rest_account s g) s t

-- So were sources; edges stay.
pub record OnlyEdges (s t : RigState) (g : Graph) : Type 0 where
  pub edges : ChainStays s t g.edges
  pub runs : Runs (graph_size g) (graph_lists s g) (chain_blocks t g.edges)
      (stored_account (graph_size g) (straight_moves s g)) (edges_account s g) s t

both_stay : {a b d : RigState} {c : Chain} → ChainStays a b c → b.device.told ≡ a.device.told
    → ChainStays b d c → ChainStays a d c
both_stay x told y = record {
  is = y.is;
  items = λ z. y.items (told ∙ z) ∙ x.items z;
  blocks = λ z. y.blocks (told ∙ z) ∙ x.blocks z;
  packed = λ z p. y.packed (told ∙ z) (x.packed z p);
  tight = λ z p. y.tight (told ∙ z) (x.tight z p);
}

module _ {s : RigState} {g : Graph} (i : IsGraph s g) where
  lists_held : IsTrue s.device.told → Holds s (graph_lists s g)
  lists_held z = holds_last (chain_blocks s g.resets) (graph_lists s g) (i.holds z)

  pub gates_gone : {t : RigState} (u : Unit {0}) → Goes (chain_blocks s g.gates) s t
      → Frees {T = Unit {0}} g.gates.blocks s t (Ok u) → GatesGone s t g
  gates_gone {t} u h f =
      let gs = chain_blocks s g.gates in
      let es = chain_blocks s g.edges in
      let ss = chain_blocks s g.sources in
      let apart = λ (z : IsTrue s.device.told).
      apart_sym gs (es ++ ss) (distinct_apart gs (es ++ ss) ((lists_held z).distinct z)) in
      let edges = chain_stays gs s t g.edges h.touches (λ z. apart_left es ss gs (apart z)) i.edges.is in
      let sources = chain_stays gs s t g.sources h.touches (λ z. apart_right es ss gs (apart z))
      i.sources.is in
      let one = runs_first (es ++ ss) (rest_account s g) lists_held (released g.gates u h f) in
      record {
        edges = edges;
        sources = sources;
        runs = runs_wider (omega arith)
            (runs_like (stored_account (graph_size g) (straight_moves s g)) (rest_account s g)
            (omega arith) (omega arith) (omega arith) (omega arith) (omega arith)
            (runs_as (chain_blocks t g.edges ++ chain_blocks t g.sources) one
            (λ z. rw (edges.blocks z, sources.blocks z) refl)));
      }

  pub gates_left : {t : RigState} {fault : EmFault} → Goes (chain_blocks s g.gates) s t
      → Frees {T = Unit {0}} g.gates.blocks s t (Err fault) → BlockCause s t fault
      → MakesStraightTo s t g (Err fault)
  gates_left h f c =
      stops_wider (omega arith) (omega arith) (omega arith)
      (stops_by {q = straight_peak s g} {m = 0} (stored_account (graph_size g) (straight_moves s g))
      (omega arith) (omega arith) (omega arith) (omega arith)
      (stops_first (chain_blocks s g.edges ++ chain_blocks s g.sources) (rest_account s g) (unreleased g.gates h f c)))

  pub sources_gone : {t r : RigState} (u : Unit {0}) → GatesGone s t g
      → Goes (chain_blocks t g.sources) t r
      → Frees {T = Unit {0}} g.sources.blocks t r (Ok u) → OnlyEdges s r g
  sources_gone {t} {r} u k h f =
      let ks = chain_blocks t g.edges in
      let js = chain_blocks t g.sources in
      let told = k.runs.session.touches.told in
      let held = λ (z : IsTrue t.device.told). k.runs.session.holds (sym told ∙ z) in
      let stay = chain_stays js t r g.edges h.touches
      (λ z. distinct_apart ks js ((held z).distinct z)) k.edges.is in
      let two = runs_second ks (edges_account s g) held (released g.sources u h f) in
      record {
        edges = both_stay k.edges told stay;
        runs = runs_wider (omega arith)
            (runs_like (stored_account (graph_size g) (straight_moves s g)) (edges_account s g)
            (omega arith) (omega arith) (omega arith) (omega arith) (omega arith)
            (runs_as (chain_blocks r g.edges) (runs_then k.runs two)
            (λ z. stay.blocks (told ∙ z) ∙ sym (append-nil ks))));
      }

  pub sources_left : {t r : RigState} {fault : EmFault} → GatesGone s t g
      → Goes (chain_blocks t g.sources) t r
      → Frees {T = Unit {0}} g.sources.blocks t r (Err fault) → BlockCause t r fault
      → MakesStraightTo s r g (Err fault)
  sources_left {t} k h f c =
      stops_wider (omega arith) (omega arith) (omega arith)
      (stops_after k.runs
      (stops_second (chain_blocks t g.edges) (edges_account s g) (unreleased g.sources h f c)))

  -- They can be written anew,
  pub edges_can : {r : RigState} → 3 ≤ s.pool.free → OnlyEdges s r g → CanWriteAnew r g.edges
  edges_can {r} free k =
      let told = k.runs.session.touches.told in
      let h = i.header in
      record {
        sound = k.runs.session.sound;
        free = rw (k.runs.frames.free) free;
        chain = k.edges.is;
        few =
            (let n = i.edges.count_is in
            let a = h.gates in
            let b = h.latches in
            let c = h.outputs in
            let d = h.bads in
            let e = h.constraints in
            omega (arith, n, a, b, c, d, e));
        holds = λ z. k.runs.session.holds (sym told ∙ z);
      }

  room_at : {r : RigState} → OnlyEdges s r g
      → ceiling g.edges.count (payload_in r) ≡ ranked_room s g
  room_at {r} k =
      ap₂ ceiling i.edges.count_is (payload_kept (graph_lists s g) s r k.runs.session.touches)

  -- and then these are the edges between ranks.
  pub edges_made : {r : RigState} (t : RigState) (result : Result Chain EmFault) → OnlyEdges s r g
      → WritesAnew (Ranked g.header) r t g.edges result → EdgesMade s t g result
  edges_made {r} t (Ok c) k m =
      let room = room_at k in
      record {
        is = m.is;
        packed = λ z. m.packed (k.runs.session.touches.told ∙ z);
        count_is = m.count_is ∙ i.edges.count_is;
        blocks_is = m.blocks_is ∙ room;
        items = λ z.
            m.items (k.runs.session.touches.told ∙ z)
            ∙ ap (copied_from (Ranked g.header) 0) (k.edges.items z)
            ∙ ranked_all g.header 0 (chain_items s g.edges);
        runs = runs_wider (omega (arith, room))
            (runs_then (runs_like (stored_account (graph_size g) (straight_moves s g))
            (stored_account g.edges.blocks (sorting_moves r g.edges)) (omega arith) (omega arith)
            (omega arith) (omega arith) (omega (arith, room)) k.runs) m.runs);
      }
  edges_made {r} t (Err fault) k m =
      let room = room_at k in
      stops_wider (omega (arith, room)) (omega arith) (omega arith)
      (stops_after (runs_like (stored_account (graph_size g) (straight_moves s g))
      (stored_account g.edges.blocks (sorting_moves r g.edges)) (omega arith) (omega arith)
      (omega arith) (omega arith) (omega (arith, room)) k.runs) m)
