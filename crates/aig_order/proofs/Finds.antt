-- Passes over the list of a circuit, one after another.
use Rattle.std.proofs.Common.{inl, inr, ◌≡◌, ◌≢◌, ℕ, suc, ◌+◌, ◌*◌, ◌<◌, ◌≤◌, ◌^◌, List, ◌++◌, length, IsTrue, ap, ap₂, refl, sym, ◌∙◌, arith, Err}
use Rattle.std.proofs.Math.Nat.{mul-le-mul_right}
use Rattle.std.proofs.lemmas.List.{length-append, length-map}
use Rattle.em_record.specs.Shape.{fan_of}
use Rattle.em_record.specs.declared.record.Record.{Record}
use Rattle.em_space.specs.Queue.{QueueCounts}
use Rattle.em_space.specs.Rig.{RigState}
use Rattle.em_space.specs.declared.fault.EmFault.{EmFault}
use Rattle.em_space.specs.declared.queue.Queue.{Ghosts as QueueGhosts}
use Rattle.em_chain.specs.Chain.{IsChain, chain_blocks, chain_items, payload_in}
use Rattle.em_chain.specs.Counts.{ceiling}
use Rattle.em_chain.specs.declared.chain.Chain.{Chain}
use Rattle.em_chain.proofs.Keeps.{payload_kept}
use Rattle.em_chain.proofs.Readers.{length_items}
use Rattle.em_queued.specs.Queued.{Called, RunsBeside}
use Rattle.em_queued.proofs.Queued.{beside_holds, beside_none, beside_then, beside_wider, stops_then, stops_wider}
use Rattle.aig_defs.specs.declared.circuit.Header.{Header}
use Rattle.aig_defs.specs.declared.circuit.Latch.{Latch}
use Rattle.aig_defs.specs.Circuit.{Circuit, IsCircuit, IsHeader, currents}
use Rattle.aig_defs.specs.Founded.{passed, upwards}
use Rattle.aig_defs.specs.Ranks.{first_gate_rank}
use Rattle.aig_edges.specs.BuildGraph.{CalledInRuns}
use Rattle.aig_edges.specs.Accounts.{stored_account}
use Rattle.aig_edges.proofs.Besides.{beside_by}
use Rattle.aig_edges.proofs.Sorts.{runs_then}
use Rattle.aig_order.specs.ByPass.{added, found}
use Rattle.aig_order.specs.declared.passing.Swept.{Swept}
use Rattle.aig_order.specs.declared.standing.Sweep.TheVariants.{Recall, Find}
use Rattle.aig_order.specs.Findings.{CanFind, FindsAll, IsListOf, StopsFinding, finding_calls, finding_limits, finding_moves}
use Rattle.aig_order.specs.OnePass.{CanPass, MakesPass, PassTo}
use Rattle.aig_order.specs.OrderGraph.{adjacency_count}
use Rattle.aig_order.specs.PassLists.{list_after}
use Rattle.aig_order.specs.Passes.{BothFit, after_both, both_calls, sweeping_moves}
use Rattle.aig_order.specs.Sweeps.{Moment}
use Rattle.aig_order.proofs.FirstRanks.{first_is}
use Rattle.aig_order.proofs.ByPass.{found_in, found_unlike}
use Rattle.aig_order.proofs.OnePass.{find_each, pass_is, recall_none}
use Rattle.aig_order.proofs.Orders.{AllAdd, no_more, passes_fewer}
use Rattle.aig_order.proofs.PassEnds.{adds_more, list_still, passes_end}
use Rattle.aig_order.proofs.PassLists.{gives_none, gives_some, next_after}
use Rattle.aig_order.proofs.SweepCalls.{pass_calls}

-- What n passes made of a circuit's list.
pub record PassesOf (n next : ℕ) (d : Chain) (t : RigState) (c : Circuit) : Type 0 where
  pub items : chain_items t d ≡ list_after c n
  pub next_is : next ≡ next_after c n
  pub adds : AllAdd c n

-- n passes were made, and no call was refused. The queue has no item.
pub record Passed {Q : Type 0} (q : QueueGhosts Q) (h : Header) (list : Chain) (n next : ℕ) (x y : Q)
    (d : Chain) (s t : RigState) : Type 0 where
  pub few : (q.counts y).n ≤ (q.counts x).n + n * (4 * adjacency_count h)
  pub of : IsTrue s.device.told → (c : Circuit) → IsListOf s h list c → PassesOf n next d t c
  pub is : IsChain t d
  pub count_is : d.count ≡ list.count
  pub blocks_is : d.blocks ≡ list.blocks
  pub empty : (q.counts y).len ≡ 0
  pub rests : (q.counts y).since ≤ (q.counts x).since
  pub in_runs : CalledInRuns (finding_calls h n) (4 * h.gates) (q.counts x) (q.counts y)
  pub runs : RunsBeside (finding_calls h n) (2 * list.blocks) (q.blocks x s ++ chain_blocks s list)
      (q.blocks y t ++ chain_blocks t d) (stored_account list.blocks (finding_moves list n))
      (stored_account d.blocks 0) (q.counts x) (q.counts y) s t

-- No pass yet,
pub passed_none : {Q : Type 0} (q : QueueGhosts Q) (h : Header) (list : Chain) (x : Q)
    {s : RigState} → (q.counts x).blocks ≤ (q.counts x).most → CanFind q h x s list
    → Passed q h list 0 (1 + h.inputs + h.latches) x x list s s
passed_none q h list x {s} most can = record {
  few = omega arith;
  of = λ z c k. record {
    items = k.items ∙ sym (first_is c k.is k.defined.twice);
    next_is =
        let given = length-append c.inputs (currents c.latches) in
        let latches = length-map c.latches (λ (l : Latch). l.current) in
        let first = k.is.lengths.inputs in
        let second = k.is.lengths.latches in
        let one = ap (λ (d : Header). d.inputs) k.header in
        let two = ap (λ (d : Header). d.latches) k.header in
        omega (arith, given, latches, first, second, one, two);
    adds = λ j l. absurd (omega (arith, l));
  };
  is = can.chain;
  count_is = refl;
  blocks_is = refl;
  empty = can.empty;
  rests = omega arith;
  in_runs = record { n = omega arith; k = omega arith; more = omega arith };
  runs = beside_wider (omega arith) (omega arith)
      (beside_by (stored_account list.blocks (finding_moves list 0)) (stored_account list.blocks 0) refl
      refl refl refl (omega arith) (beside_none s (q.blocks x s ++ chain_blocks s list)
      (stored_account list.blocks 0) (q.counts x) can.sound most can.holds));
}

-- what the next one wants,
few_left : (x y k n g : ℕ) → n < g → y ≤ x + n * (4 * k) → x + 4 * (g + 3) * k < 2 ^ 100
    → y + 4 * k < 2 ^ 100
few_left x y k n g l e f =
    let m : (n + 1) * (4 * k) ≤ g * (4 * k) = mul-le-mul_right (4 * k) (omega (arith, l)) in
    omega (arith, m, e, f)

list_small : (h : Header) → IsHeader h → adjacency_count h < 2 ^ 44
list_small h i = omega (arith, i.inputs, i.latches, i.gates, i.outputs, i.bads, i.constraints)

pub passed_can : {Q : Type 0} (q : QueueGhosts Q) (h : Header) (list : Chain) (n next : ℕ) (x y : Q)
    (d : Chain) {s t : RigState} → IsHeader h → n < h.gates → CanFind q h x s list
    → Passed q h list n next x y d s t → CanPass q h next y t d
passed_can q h list n next x y d {s} {t} i l can f =
    let fan = ap fan_of f.runs.runs.frames.shape in
    let small = list_small h i in
    let few = few_left (q.counts x).n (q.counts y).n (adjacency_count h) n h.gates l f.few can.few in
    let size : d.count ≡ adjacency_count h = f.count_is ∙ can.count_is in
    record {
      sweeps = record {
        sound = f.runs.runs.session.sound;
        empty = f.empty;
        free = record {
          singles = omega (arith, can.free.singles, fan, f.runs.runs.frames.free);
          areas = omega (arith, can.free.areas, f.runs.runs.frames.free_areas);
          rack = f.runs.runs.frames.rack ∙ can.free.rack;
        };
        most = omega (arith, size, small);
        few = rw size few;
        chain = f.is;
        holds = beside_holds f.runs;
        empties = λ z.
            let old = sym f.runs.runs.session.touches.told ∙ z in
            let some = can.stands old in
            let k = f.of old some.circuit some.is in
            ap₂ (λ (m : ℕ) (rs : List Record). (after_both h Recall Find m rs).items) k.next_is k.items
            ∙ ap (λ (m : Moment). m.items)
            (pass_is h some.circuit n some.is.header some.is.is some.is.defined);
      };
      few = omega (arith, size, small);
    }

-- which fits,
pub passed_fits : {Q : Type 0} (q : QueueGhosts Q) (h : Header) (list : Chain) (n next : ℕ) (x y : Q)
    (d : Chain) {s t : RigState} → Passed q h list n next x y d s t → CanFind q h x s list
    → IsTrue t.device.told → BothFit Recall Find (chain_items t d) (finding_limits h d)
passed_fits q h list n next x y d {s} {t} f can z =
    let old = sym f.runs.runs.session.touches.told ∙ z in
    let some = can.stands old in
    let c = some.circuit in
    let k = some.is in
    let same = ap (both_calls Recall Find) (f.of old c k).items in
    let pass = pass_calls c n k.is k.defined.twice in
    let gates = ap (λ (i : Header). i.gates) k.header in
    let none = recall_none (chain_items t d) in
    let each = find_each (chain_items t d) in
    let len = length_items t d f.is z in
    record { calls = omega (arith, same, pass, gates); records = omega (arith, none, each, len) }

few_next : (x y z k n m : ℕ) → y ≤ x + n * (4 * k) → z ≤ y + m → m ≤ 4 * k
    → z ≤ x + suc n * (4 * k)
few_next x y z k n m e f l = omega (arith, e, f, l)

few_end : (x z k n g : ℕ) → n ≤ g → z ≤ x + n * (4 * k) → z + 12 * k ≤ x + 4 * (g + 3) * k
few_end x z k n g l e =
    let m : n * (4 * k) ≤ g * (4 * k) = mul-le-mul_right (4 * k) l in omega (arith, m, e)

-- one pass more has 4 A calls and so many moves more,
calls_next : (n g : ℕ) → 4 * n * g + 4 * g ≤ 4 * (n + 1) * g
calls_next n g = omega arith

moves_next : (n r m : ℕ) → m ≤ 5 * r + 1 → n * (5 * r + 1) + m ≤ (n + 1) * (5 * r + 1)
moves_next n r m e = omega (arith, e)

runs_next : (n g : ℕ) (c d e : QueueCounts) → CalledInRuns (4 * n * g) (4 * g) c d
    → d.since ≤ c.since → Called (4 * g) d e → CalledInRuns (4 * (n + 1) * g) (4 * g) c e
runs_next n g c d e h rests k =
    let all = runs_then (4 * n * g) (4 * g) (4 * g) c d e h rests k in
    record {
      n = let a = all.n in let m = calls_next n g in omega (arith, a, m);
      k = let a = all.k in omega (arith, a);
      more = all.more;
    }

-- and the account of the passes before has those moves too.
more_owed : {Q : Type 0} (q : QueueGhosts Q) (h : Header) (list : Chain) (n next : ℕ) (x y : Q)
    (d : Chain) {s t : RigState} (m : ℕ) → m ≤ 5 * list.blocks + 1
    → Passed q h list n next x y d s t
    → RunsBeside (finding_calls h n) (2 * list.blocks) (q.blocks x s ++ chain_blocks s list)
    (q.blocks y t ++ chain_blocks t d) (stored_account list.blocks (finding_moves list (n + 1)))
    (stored_account d.blocks m) (q.counts x) (q.counts y) s t
more_owed q h list n next x y d m few f =
    let more = moves_next n list.blocks m few in
    beside_by (stored_account list.blocks (finding_moves list (n + 1))) (stored_account d.blocks m)
    refl refl refl refl (omega (arith, more)) f.runs

-- One pass more was made.
pub record MadePass {Q : Type 0} (q : QueueGhosts Q) (h : Header) (list : Chain) (n : ℕ) (x z : Q)
    (e : Swept) (s u : RigState) : Type 0 where
  pub few : (q.counts z).n ≤ (q.counts x).n + suc n * (4 * adjacency_count h)
  pub count_is : e.list.count ≡ list.count
  pub blocks_is : e.list.blocks ≡ list.blocks
  pub rests : (q.counts z).since ≤ (q.counts x).since
  pub of : IsTrue s.device.told → (c : Circuit) → IsListOf s h list c
      → (chain_items u e.list ≡ list_after c (suc n)) × (e.next ≡ next_after c (suc n))
  pub in_runs : CalledInRuns (finding_calls h (n + 1)) (4 * h.gates) (q.counts x) (q.counts z)
  pub runs : RunsBeside (finding_calls h (n + 1)) (2 * list.blocks)
      (q.blocks x s ++ chain_blocks s list) (q.blocks z u ++ chain_blocks u e.list)
      (stored_account list.blocks (finding_moves list (n + 1))) (stored_account e.list.blocks 0)
      (q.counts x) (q.counts z) s u

pub made_pass : {Q : Type 0} (q : QueueGhosts Q) (h : Header) (list : Chain) (n next : ℕ) (x y z : Q)
    (d : Chain) (e : Swept) {s t u : RigState} → CanFind q h x s list
    → Passed q h list n next x y d s t → MakesPass q h next y z d e t u
    → MadePass q h list n x z e s u
made_pass q h list n next x y z d e {s} {t} {u} can f g =
    let told = f.runs.runs.session.touches.told in
    let pay : payload_in t ≡ payload_in s =
    payload_kept (q.blocks x s ++ chain_blocks s list) s t f.runs.runs.session.touches in
    let size : e.list.blocks ≡ list.blocks =
    g.blocks_is ∙ ap₂ (λ (i : ℕ) (p : ℕ). ceiling i p) f.count_is pay ∙ sym can.blocks_is in
    let all : 4 * h.gates ≤ 4 * adjacency_count h = omega arith in
    let more = calls_next n h.gates in
    let moves : sweeping_moves d.blocks e.list.blocks ≤ 5 * list.blocks + 1 =
    omega (arith, f.blocks_is, size) in
    record {
      few = few_next (q.counts x).n (q.counts y).n (q.counts z).n (adjacency_count h) n (4 * h.gates)
          f.few g.runs.calls_on.called.n all;
      count_is = g.count_is ∙ f.count_is;
      blocks_is = size;
      rests = omega (arith, f.rests, g.rests);
      of = λ o c k.
          let b = f.of o c k in
          let after = g.finds (told ∙ o) n c (record {
            is = k.is;
            defined = k.defined;
            header = k.header;
            items = b.items;
            next_is = b.next_is;
          }) in (after.items, after.next_is);
      in_runs = runs_next n h.gates (q.counts x) (q.counts y) (q.counts z) f.in_runs f.rests
          g.runs.calls_on.called;
      runs = beside_wider (omega (arith, more)) (omega (arith, f.blocks_is, size))
          (beside_then (more_owed q h list n next x y d (sweeping_moves d.blocks e.list.blocks) moves
          f) g.runs);
    }

-- It found a gate,
pub passed_next : {Q : Type 0} (q : QueueGhosts Q) (h : Header) (list : Chain) (n next : ℕ)
    (x y z : Q) (d : Chain) (e : Swept) {s t u : RigState} → CanFind q h x s list
    → Passed q h list n next x y d s t
    → MakesPass q h next y z d e t u → e.next ≢ next → Passed q h list (n + 1) e.next x z e.list s u
passed_next q h list n next x y z d e {s} {t} {u} can f g other =
    let p = made_pass q h list n next x y z d e can f g in
    let more : suc n ≡ n + 1 = omega arith in
    record {
      few = let few = p.few in omega (arith, few);
      of = λ o c k.
          let b = f.of o c k in
          let a = p.of o c k in
          record {
            items = a.0 ∙ ap (list_after c) more;
            next_is = a.1 ∙ ap (next_after c) more;
            adds = adds_more c n b.adds
                (gives_some c n (λ same. other (a.1 ∙ same ∙ sym b.next_is)));
          };
      is = g.is;
      count_is = p.count_is;
      blocks_is = p.blocks_is;
      empty = g.empty;
      rests = p.rests;
      in_runs = p.in_runs;
      runs = p.runs;
    }

-- or none, and all passes were made.
pub finds_end : {Q : Type 0} (q : QueueGhosts Q) (h : Header) (list : Chain) (n next : ℕ)
    (x y z : Q) (d : Chain) (e : Swept) {s t u : RigState} → n < h.gates → CanFind q h x s list
    → Passed q h list n next x y d s t
    → MakesPass q h next y z d e t u → e.next ≡ next
    → FindsAll q h x z list (record { list = e.list; passes = n; next = next }) s u
finds_end q h list n next x y z d e {s} {t} {u} l can f g still =
    let p = made_pass q h list n next x y z d e can f g in
    let same : (o : IsTrue s.device.told) → (c : Circuit) → IsListOf s h list c
    → next_after c (suc n) ≡ next_after c n =
    λ o c k. sym (p.of o c k).1 ∙ still ∙ (f.of o c k).next_is in
    record {
      few = few_end (q.counts x).n (q.counts z).n (adjacency_count h) (suc n) h.gates
          (omega (arith, l)) p.few;
      in_runs = p.in_runs;
      finds = λ o c k.
          let r = passes_end c n (f.of o c k).adds (inl (gives_none c n (same o c k))) in
          record {
            passes_is = r;
            items = (p.of o c k).0 ∙ list_still c n (same o c k)
                ∙ ap (λ (i : ℕ). list_after c i) r;
            next_is = (f.of o c k).next_is
                ∙ ap (λ (i : ℕ). first_gate_rank c + length (found c i)) r;
          };
      is = g.is;
      count_is = p.count_is;
      blocks_is = p.blocks_is;
      passes_most = omega (arith, l);
      empty = g.empty;
      rests = p.rests;
      runs = p.runs;
    }

-- As many passes were made as there are gates.
pub finds_all : {Q : Type 0} (q : QueueGhosts Q) (h : Header) (list : Chain) (n next : ℕ) (x y : Q)
    (d : Chain) {s t : RigState} → n ≡ h.gates → Passed q h list n next x y d s t
    → FindsAll q h x y list (record { list = d; passes = n; next = next }) s t
finds_all q h list n next x y d {s} {t} e f =
    let more = calls_next n h.gates in
    let moves = moves_next n list.blocks 0 (omega arith) in
    record {
      few = few_end (q.counts x).n (q.counts y).n (adjacency_count h) n h.gates (omega (arith, e))
          f.few;
      in_runs = record {
        n = let few = f.in_runs.n in omega (arith, more, few);
        k = f.in_runs.k;
        more = f.in_runs.more;
      };
      finds = λ o c k.
          let gates = ap (λ (i : Header). i.gates) k.header in
          let len = k.is.lengths.gates in
          let r = passes_end c n (f.of o c k).adds (inr (omega (arith, gates, len, e))) in
          let b = f.of o c k in
          record {
            passes_is = r;
            items = b.items ∙ ap (λ (i : ℕ). list_after c i) r;
            next_is = b.next_is ∙ ap (λ (i : ℕ). first_gate_rank c + length (found c i)) r;
          };
      is = f.is;
      count_is = f.count_is;
      blocks_is = f.blocks_is;
      passes_most = omega (arith, e);
      empty = f.empty;
      rests = f.rests;
      runs = beside_wider (omega (arith, more)) (omega arith)
          (beside_by (stored_account list.blocks (finding_moves list (n + 1)))
          (stored_account d.blocks 0) refl refl refl refl (omega (arith, moves)) f.runs);
    }

-- the next rank is one past that of the last gate: another pass finds none
pub nothing_left : (c : Circuit) (n : ℕ) → IsCircuit c → next_after c n ≡ first_gate_rank c + length c.gates
    → next_after c (suc n) ≡ next_after c n
nothing_left c n is e =
    let few = no_more (found c (suc n)) c.gates (found_unlike c (suc n))
    (λ g i. (found_in c (suc n) g i).is) in
    let more = length-append (found c n) (added (upwards c.gates) (passed c n)) in
    omega (arith, few, more, e)

-- All gates were found.
pub finds_whole : {Q : Type 0} (q : QueueGhosts Q) (h : Header) (list : Chain) (n next : ℕ) (x y : Q)
    (d : Chain) {s t : RigState} → n ≤ h.gates → next ≡ 1 + h.inputs + h.latches + h.gates
    → Passed q h list n next x y d s t
    → FindsAll q h x y list (record { list = d; passes = n; next = next }) s t
finds_whole q h list n next x y d {s} {t} l e f =
    let more = calls_next n h.gates in
    let moves = moves_next n list.blocks 0 (omega arith) in
    record {
      few = few_end (q.counts x).n (q.counts y).n (adjacency_count h) n h.gates l f.few;
      in_runs = record {
        n = let few = f.in_runs.n in omega (arith, more, few);
        k = f.in_runs.k;
        more = f.in_runs.more;
      };
      finds = λ o c k.
          let b = f.of o c k in
          let given = length-append c.inputs (currents c.latches) in
          let latches = length-map c.latches (λ (i : Latch). i.current) in
          let first = k.is.lengths.inputs in
          let second = k.is.lengths.latches in
          let third = k.is.lengths.gates in
          let one = ap (λ (i : Header). i.inputs) k.header in
          let two = ap (λ (i : Header). i.latches) k.header in
          let three = ap (λ (i : Header). i.gates) k.header in
          let all : next_after c n ≡ first_gate_rank c + length c.gates =
          sym b.next_is ∙ e
          ∙ omega (arith, given, latches, first, second, third, one, two, three) in
          let r = passes_end c n b.adds (inl (gives_none c n (nothing_left c n k.is all))) in
          record {
            passes_is = r;
            items = b.items ∙ ap (λ (i : ℕ). list_after c i) r;
            next_is = b.next_is ∙ ap (λ (i : ℕ). first_gate_rank c + length (found c i)) r;
          };
      is = f.is;
      count_is = f.count_is;
      blocks_is = f.blocks_is;
      passes_most = l;
      empty = f.empty;
      rests = f.rests;
      runs = beside_wider (omega (arith, more)) (omega arith)
          (beside_by (stored_account list.blocks (finding_moves list (n + 1)))
          (stored_account d.blocks 0) refl refl refl refl (omega (arith, moves)) f.runs);
    }

-- A call was refused in a pass.
pub finds_stop : {Q : Type 0} (q : QueueGhosts Q) (h : Header) (list : Chain) (n next : ℕ)
    (x y z : Q) (d : Chain) {s t u : RigState} {fault : EmFault} → n < h.gates → CanFind q h x s list
    → Passed q h list n next x y d s t
    → PassTo q h next y z d t u (Err fault)
    → StopsFinding q h x z list s u fault
finds_stop q h list n next x y z d {s} {t} {u} l can f g =
    let pay : payload_in t ≡ payload_in s =
    payload_kept (q.blocks x s ++ chain_blocks s list) s t f.runs.runs.session.touches in
    let room : ceiling d.count (payload_in t) ≡ list.blocks =
    ap₂ (λ (i : ℕ) (p : ℕ). ceiling i p) f.count_is pay ∙ sym can.blocks_is in
    let more = calls_next n h.gates in
    let moves : sweeping_moves d.blocks (ceiling d.count (payload_in t)) ≤ 5 * list.blocks + 1 =
    omega (arith, room, f.blocks_is) in
    record {
      passes = n;
      passes_most = omega (arith, l);
      fewer = λ o c k. passes_fewer c n (f.of o c k).adds;
      in_runs = runs_next n h.gates (q.counts x) (q.counts y) (q.counts z) f.in_runs f.rests g.called;
      stops = stops_wider (omega (arith, more)) (omega (arith, room, f.blocks_is)) (omega arith)
          (omega arith)
          (stops_then (more_owed q h list n next x y d
          (sweeping_moves d.blocks (ceiling d.count (payload_in t))) moves f) g);
    }
