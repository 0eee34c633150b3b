-- Three chains stand beside a queue while a graph is made: one of them is sorted, or looked at, and the
-- others stay.
use Rattle.std.proofs.Common.{◌≡◌, ℕ, ◌+◌, ◌≤◌, List, [], ◌++◌, IsTrue, ap, sym, ◌∙◌, arith, append_assoc}
use Rattle.em_record.specs.declared.record.Record.{Record}
use Rattle.em_space.specs.Held.{Holds}
use Rattle.em_space.specs.Queue.{QueueCounts}
use Rattle.em_space.specs.Rig.{RigState, Sound}
use Rattle.em_space.specs.declared.queue.Queue.{Ghosts as QueueGhosts}
use Rattle.em_space.proofs.Lists.{apart_left, apart_right}
use Rattle.em_space.proofs.Held.{apart_none}
use Rattle.em_space.proofs.Paying.{pays_kept}
use Rattle.em_space.proofs.Sessions.{session_as, session_still}
use Rattle.em_chain.specs.Chain.{IsChain, chain_blocks, chain_items}
use Rattle.em_chain.specs.declared.chain.Chain.{Chain}
use Rattle.em_chain.proofs.Laws.{chain_stays}
use Rattle.em_queued.specs.Queued.{Called, RunsBeside}
use Rattle.em_queued.proofs.Queued.{beside_as, beside_holds, beside_none, beside_then, beside_wider, calls_none}
use Rattle.aig_defs.specs.Circuit.{Circuit}
use Rattle.aig_defs.specs.Chains.{defs_of, gates_of, uses_of}
use Rattle.aig_text.specs.Ascii.{ArePartsOf}
use Rattle.aig_text.specs.Draft.{chains_blocks}
use Rattle.aig_text.specs.Parts.{IsParts, lists_blocks}
use Rattle.aig_text.specs.declared.parts.Parts.{Parts}
use Rattle.aig_edges.specs.Build.{parts_size}
use Rattle.aig_edges.specs.BuildGraph.{CalledInRuns, sort_moves, sort_peak, sort_run}
use Rattle.aig_edges.specs.Looks.{Looks}
use Rattle.aig_edges.specs.Accounts.{stored_account}
use Rattle.aig_edges.proofs.Besides.{beside_by, beside_crossed, beside_front, beside_turned, stays_beside}
use Rattle.aig_edges.proofs.Pushes.{IsBoth, beside_value}
use Rattle.aig_edges.proofs.Sorts.{runs_then}

-- what three chains have, of one circuit
pub record HaveItems (t : RigState) (a b c : Chain) (f g h : List Record) : Type 0 where
  pub first : chain_items t a ≡ f
  pub second : chain_items t b ≡ g
  pub third : chain_items t c ≡ h

-- Three chains stand beside the queue, after so many calls; `owed` moves may still be made.
pub record StandsBeside {Q : Type 0} (q : QueueGhosts Q) (x y : Q) (s t : RigState) (p : Parts)
    (calls owed : ℕ) (a b c : Chain) (f g h : Circuit → List Record) : Type 0 where
  pub runs : RunsBeside calls (sort_peak s p) (q.blocks x s ++ lists_blocks s p)
      (q.blocks y t ++ chains_blocks t a b c) (stored_account (parts_size p) (sort_moves s p))
      (stored_account (a.blocks + (b.blocks + c.blocks)) owed) (q.counts x) (q.counts y) s t
  pub in_runs : CalledInRuns calls (sort_run p.header) (q.counts x) (q.counts y)
  pub rests : (q.counts y).since ≤ (q.counts x).since
  pub empty : (q.counts y).len ≡ 0
  pub queue : q.IsQueue y t
  pub first : IsChain t a
  pub second : IsChain t b
  pub third : IsChain t c
  pub items : IsTrue s.device.told → (k : Circuit) → ArePartsOf s p k
      → HaveItems t a b c (f k) (g k) (h k)

-- At first these are the circuit's parts.
pub stands_first : {Q : Type 0} (q : QueueGhosts Q) (x : Q) {s : RigState} (p : Parts) → Sound s
    → IsParts s p → q.IsQueue x s → (q.counts x).len ≡ 0 → (q.counts x).blocks ≤ (q.counts x).most
    → (IsTrue s.device.told → Holds s (q.blocks x s ++ lists_blocks s p))
    → StandsBeside q x x s s p 0 (sort_moves s p) p.defs p.gates p.uses defs_of gates_of uses_of
stands_first q x {s} p sound i is none l n = record {
  runs = beside_wider (omega arith) (omega arith)
      (beside_none s (q.blocks x s ++ lists_blocks s p)
      (stored_account (parts_size p) (sort_moves s p)) (q.counts x) sound l n);
  in_runs = record { n = omega arith; k = omega arith; more = omega arith };
  rests = omega arith;
  empty = none;
  queue = is;
  first = i.defs.is;
  second = i.gates.is;
  third = i.uses.is;
  items = λ z k a. record { first = a.defs; second = a.gates; third = a.uses };
}

-- The first chain is the last one then,
pub stands_turned : {Q : Type 0} (q : QueueGhosts Q) (x y : Q) {s t : RigState} (p : Parts)
    {n owed : ℕ} {a b c : Chain} {f g h : Circuit → List Record}
    → StandsBeside q x y s t p n owed a b c f g h → StandsBeside q x y s t p n owed b c a g h f
stands_turned q x y {s} {t} p {n} {owed} {a} {b} {c} w = record {
  runs = beside_by (stored_account (parts_size p) (sort_moves s p))
      (stored_account (b.blocks + (c.blocks + a.blocks)) owed) (omega arith) (omega arith)
      (omega arith) (omega arith) (omega arith)
      (beside_turned (q.blocks y t) (chain_blocks t a) (chain_blocks t b) (chain_blocks t c) w.runs);
  in_runs = w.in_runs;
  rests = w.rests;
  empty = w.empty;
  queue = w.queue;
  first = w.second;
  second = w.third;
  third = w.first;
  items = λ z k o.
      let i = w.items z k o in
      record { first = i.second; second = i.third; third = i.first };
}

-- or the last two change places.
pub stands_crossed : {Q : Type 0} (q : QueueGhosts Q) (x y : Q) {s t : RigState} (p : Parts)
    {n owed : ℕ} {a b c : Chain} {f g h : Circuit → List Record}
    → StandsBeside q x y s t p n owed a b c f g h → StandsBeside q x y s t p n owed a c b f h g
stands_crossed q x y {s} {t} p {n} {owed} {a} {b} {c} w = record {
  runs = beside_by (stored_account (parts_size p) (sort_moves s p))
      (stored_account (a.blocks + (c.blocks + b.blocks)) owed) (omega arith) (omega arith)
      (omega arith) (omega arith) (omega arith)
      (beside_crossed (q.blocks y t) (chain_blocks t a) (chain_blocks t b) (chain_blocks t c) w.runs);
  in_runs = w.in_runs;
  rests = w.rests;
  empty = w.empty;
  queue = w.queue;
  first = w.first;
  second = w.third;
  third = w.second;
  items = λ z k o.
      let i = w.items z k o in
      record { first = i.first; second = i.third; third = i.second };
}

-- a run of calls within the longest one
pub runs_within : (calls run more : ℕ) (c d e : QueueCounts) → more ≤ run
    → CalledInRuns calls run c d → d.since ≤ c.since → Called more d e
    → CalledInRuns (calls + more) run c e
runs_within calls run more c d e l h rests k =
    let w = runs_then calls run more c d e h rests k in
    record { n = w.n; k = let z = w.k in omega (arith, z, l); more = w.more }

pub runs_wider : {n m run : ℕ} {c d : QueueCounts} → n ≤ m → CalledInRuns n run c d
    → CalledInRuns m run c d
runs_wider {c = c} {d = d} l h = record {
  n = let z = h.n in omega (arith, z, l);
  k = h.k;
  more = h.more;
}

-- accounts of one chain and of the others
pub one_and_others : (m rest i j k : ℕ) {owed : ℕ} → owed ≡ m + rest
    → IsBoth (stored_account (i + (j + k)) owed) (stored_account i m) (stored_account (j + k) rest)
one_and_others m rest i j k e = record {
  blocks = omega arith;
  unstored = omega arith;
  paid = omega arith;
  owed = e;
}

-- The first chain was sorted into another one; the others stay.
pub stands_sorted : {Q : Type 0} (q : QueueGhosts Q) (x y w : Q) {s t u : RigState} (p : Parts)
    {n owed more peak : ℕ} (m rest : ℕ) {a b c : Chain} (d : Chain)
    {f g h : Circuit → List Record} (r : Circuit → List Record)
    → StandsBeside q x y s t p n owed a b c f g h → owed ≡ m + rest → more ≤ sort_run p.header
    → peak + (b.blocks + c.blocks) ≤ sort_peak s p
    → RunsBeside more peak (q.blocks y t ++ chain_blocks t a) (q.blocks w u ++ chain_blocks u d)
    (stored_account a.blocks m) (stored_account d.blocks 0) (q.counts y) (q.counts w) t u
    → (q.counts w).since ≤ (q.counts y).since → (q.counts w).len ≡ 0 → q.IsQueue w u → IsChain u d
    → (IsTrue s.device.told → (k : Circuit) → ArePartsOf s p k
    → HaveItems t a b c (f k) (g k) (h k) → chain_items u d ≡ r k)
    → StandsBeside q x w s u p (n + more) rest d b c r g h
stands_sorted q x y w {s} {t} {u} p {n} {owed} {more} {peak} m rest {a} {b} {c} d r o e l fits one
    since none is chain items =
    let qs = q.blocks y t in
    let xs = chain_blocks t a in
    let bs = chain_blocks t b in
    let cs = chain_blocks t c in
    let zs = q.blocks w u in
    let ds = chain_blocks u d in
    let front = beside_front qs xs (bs ++ cs) o.runs in
    let held = beside_holds front in
    let touches = one.runs.session.touches in
    let i = stays_beside (qs ++ xs) (bs ++ cs) b touches held (λ z v. apart_left bs cs (qs ++ xs) v)
    o.second in
    let j = stays_beside (qs ++ xs) (bs ++ cs) c touches held (λ z v. apart_right bs cs (qs ++ xs) v)
    o.third in
    let others = stored_account (b.blocks + c.blocks) rest in
    let all = beside_value (bs ++ cs) others (one_and_others m rest a.blocks b.blocks c.blocks e)
    (one_and_others 0 rest d.blocks b.blocks c.blocks {owed = rest} (omega arith)) held one in
    let same : IsTrue t.device.told → zs ++ chains_blocks u d b c ≡ (zs ++ ds) ++ (bs ++ cs) =
    λ z. ap (λ (v : List ℕ). zs ++ (ds ++ (v ++ chain_blocks u c))) (i.blocks z)
    ∙ ap (λ (v : List ℕ). zs ++ (ds ++ (bs ++ v))) (j.blocks z)
    ∙ sym (append_assoc zs ds (bs ++ cs)) in
    let told = o.runs.runs.session.touches.told in
    record {
      runs = beside_wider (omega arith) (omega (arith, fits))
          (beside_then front (beside_as (zs ++ chains_blocks u d b c) all same));
      in_runs = runs_within n (sort_run p.header) more (q.counts x) (q.counts y) (q.counts w) l
          o.in_runs o.rests one.calls_on.called;
      rests = let v = o.rests in omega (arith, v, since);
      empty = none;
      queue = is;
      first = chain;
      second = i.is;
      third = j.is;
      items = λ z k v.
          let old = o.items z k v in
          record {
            first = items z k v old;
            second = i.items (told ∙ z) ∙ old.second;
            third = j.items (told ∙ z) ∙ old.third;
          };
    }

-- The lists were looked at, and all stays.
pub stands_looked : {Q : Type 0} (q : QueueGhosts Q) (x y : Q) {s t u : RigState} (p : Parts)
    {n owed : ℕ} (m rest : ℕ) {a b c : Chain} {f g h : Circuit → List Record}
    → StandsBeside q x y s t p n owed a b c f g h → owed ≡ m + rest → Looks m t u
    → q.IsQueue y u → (IsTrue t.device.told → q.blocks y u ≡ q.blocks y t)
    → StandsBeside q x y s u p n rest a b c f g h
stands_looked q x y {s} {t} {u} p {n} {owed} m rest {a} {b} {c} o e looks is blocks =
    let touches = looks.goes.touches in
    let qs = q.blocks y t in
    let xs = chain_blocks t a in
    let bs = chain_blocks t b in
    let cs = chain_blocks t c in
    let i = chain_stays [] t u a touches (λ z. apart_none xs) o.first in
    let j = chain_stays [] t u b touches (λ z. apart_none bs) o.second in
    let k = chain_stays [] t u c touches (λ z. apart_none cs) o.third in
    let size = a.blocks + (b.blocks + c.blocks) in
    let told = o.runs.runs.session.touches.told in
    let held = o.runs.runs.spends.held in
    let look : RunsBeside 0 (sort_peak s p) (qs ++ chains_blocks t a b c)
    (q.blocks y u ++ chains_blocks u a b c) (stored_account size owed)
    (stored_account size rest) (q.counts y) (q.counts y) t u = record {
      runs = record {
        session = session_as (q.blocks y u ++ chains_blocks u a b c)
            (session_still (qs ++ chains_blocks t a b c) looks.goes.sound touches
            (λ z. beside_holds o.runs z))
            (λ z. ap (λ (v : List ℕ). v ++ chains_blocks u a b c) (blocks z)
            ∙ ap (λ (v : List ℕ). qs ++ (v ++ (chain_blocks u b ++ chain_blocks u c))) (i.blocks z)
            ∙ ap (λ (v : List ℕ). qs ++ (xs ++ (v ++ chain_blocks u c))) (j.blocks z)
            ∙ ap (λ (v : List ℕ). qs ++ (xs ++ (bs ++ v))) (k.blocks z));
        frames = looks.goes.frames;
        spends = record {
          held = omega (arith, held);
          used = omega (arith, looks.used);
          most = omega (arith, looks.most_is);
          moves = omega (arith, looks.moves, e);
          later = touches.moves;
          pays = pays_kept ((q.counts y).unstored + 0) (omega (arith, looks.used)) touches.moves;
        };
      };
      calls_on = calls_none (q.counts y);
    } in
    record {
      runs = beside_wider (omega arith) (omega arith) (beside_then o.runs look);
      in_runs = o.in_runs;
      rests = o.rests;
      empty = o.empty;
      queue = is;
      first = i.is;
      second = j.is;
      third = k.is;
      items = λ z l v.
          let old = o.items z l v in
          record {
            first = i.items (told ∙ z) ∙ old.first;
            second = j.items (told ∙ z) ∙ old.second;
            third = k.items (told ∙ z) ∙ old.third;
          };
    }
