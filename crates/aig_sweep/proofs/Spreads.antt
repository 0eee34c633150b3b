-- The edges of both chains, one after the other.
use Rattle.std.proofs.Common.{◌≡◌, ℕ, ◌+◌, ◌*◌, ◌<◌, ◌≤◌, ◌^◌, Bool, false, List, [], ◌∷◌, ◌++◌, length, drop, IsTrue, ap, refl, subst, sym, ◌∙◌, arith}
use Rattle.std.proofs.lemmas.List.{append-nil}
use Rattle.em_record.specs.Shape.{fan_of}
use Rattle.em_record.specs.declared.record.Record.{Record}
use Rattle.em_space.specs.Held.{Apart}
use Rattle.em_space.specs.Ledger.{Account, both}
use Rattle.em_space.specs.Numbered.{NumberedTo}
use Rattle.em_space.specs.declared.fault.EmFault.{EmFault}
use Rattle.em_space.proofs.Numbered.{numbered_none}
use Rattle.em_space.proofs.Within.{within_apart}
use Rattle.em_chain.specs.Chain.{ChainStays, IsChain, chain_blocks}
use Rattle.em_chain.specs.Session.{taking_account}
use Rattle.em_chain.specs.declared.chain.Chain.{Chain}
use Rattle.em_chain.specs.declared.reader.Reader.{Reader}
use Rattle.em_chain.proofs.Laws.{chain_stays}
use Rattle.em_queued.specs.Queued.{RunsBeside}
use Rattle.aig_defs.specs.declared.circuit.Header.{Header}
use Rattle.aig_edges.specs.Graph.{edge_count}
use Rattle.aig_sweep.specs.Messages.{ComeFrom, Reaches, Sendable, Sending, Solves}
use Rattle.aig_sweep.specs.Passes.{CanSendChain, Passes, SendsChain, StopsPassing, held_blocks, reading_account}
use Rattle.aig_sweep.specs.QueueState.{QueueState}
use Rattle.aig_sweep.specs.Evaluates.{CanEvaluate}
use Rattle.aig_sweep.specs.Nexts.{CanCollect}
use Rattle.aig_sweep.specs.Spreads.{CanSendBoth, HasValues, Spreads, base_of, last_of}
use Rattle.aig_sweep.proofs.Passes.{passes_more, passes_stop, passes_then, stops_account}
use Rattle.aig_sweep.proofs.Sends.{passes_account}

-- the moves that a list may still take, beside calls that were refused
pub passing_reading : {i : ℕ} {a : Account} {q p : QueueState} {bits rest : Reader} {fault :
    EmFault}
    (n : ℕ) → StopsPassing i a q p bits rest fault
    → StopsPassing i (both a (reading_account n)) q p bits rest fault
passing_reading n h = record {
  stops = stops_account (reading_account n) refl h.stops;
  frame = h.frame;
}

-- A list that others read stays over calls, and holds none of their blocks.
pub list_stays : {i p : ℕ} {a b : Account} (q r : QueueState) (bits rest : Reader) (c : Chain)
    → RunsBeside i p (held_blocks q bits) (held_blocks r rest) a b q.counts r.counts q.rig r.rig
    → IsChain q.rig c → (IsTrue q.rig.device.told → Apart (chain_blocks q.rig c) (held_blocks q
    bits))
    → ChainStays q.rig r.rig c
    × (IsTrue r.rig.device.told → Apart (chain_blocks r.rig c) (held_blocks r rest))
list_stays q r bits rest c h is apart =
    let ks = chain_blocks q.rig c in
    let st = chain_stays (held_blocks q bits) q.rig r.rig c h.runs.session.touches apart is in (
      st,
      λ z.
          let y = sym h.runs.session.touches.told ∙ z in
          rw (st.blocks y) (within_apart q.rig (held_blocks q bits) (held_blocks r rest) ks y
          h.runs.session.within (is.told y).holds.in_use (apart y)),
    )

-- The first chain may be sent,
pub can_first : {h : Header} {given gates : Chain} {bits : Reader} {q : QueueState}
    → CanSendBoth h given gates bits q → (IsTrue q.rig.device.told → 0 ≡ length q.items)
    → CanSendChain (base_of h) (base_of h) 0 0 q given bits
can_first {h} {given} {gates} {bits} {q} can none =
    let edges = can.edges in
    let few = can.few in
    let empty = can.empty in
    let a = can.header.latches in
    let b = can.header.outputs in
    let bb = can.header.bads in
    let bc = can.header.constraints in
    let g = can.header.gates in
    record {
      sound = can.sound;
      free = can.free;
      few = omega (arith, few, empty, edges);
      limit = omega (arith, empty, edges, a, b, g);
      chain_is = can.given_is;
      apart = can.given_apart;
      has_bits = can.has_bits;
      up = omega arith;
      number = omega (arith, edges, a, b, g);
      numbered = λ z. numbered_none 0 q.items (none z);
    }

-- and then the second one.
pub can_second : {h : Header} {given gates : Chain} {bits rest : Reader} {q p : QueueState}
    → CanSendBoth h given gates bits q
    → SendsChain (base_of h) (base_of h) 0 0 q p given bits rest
    → CanSendChain (base_of h) (last_of h) given.count (base_of h) p gates rest
can_second {h} {given} {gates} {bits} {rest} {q} {p} can s =
    let k = s.passes in
    let st = list_stays q p bits rest gates k.runs can.gates_is
    can.gates_apart in
    let edges = can.edges in
    let few = can.few in
    let empty = can.empty in
    let a = can.header.latches in
    let b = can.header.outputs in
    let bb = can.header.bads in
    let bc = can.header.constraints in
    let g = can.header.gates in
    let n = k.runs.calls_on.called.n in
    let more = k.more in
    let fan = ap fan_of k.runs.runs.frames.shape in
    let free = k.runs.runs.frames.free in
    let areas = k.runs.runs.frames.free_areas in
    record {
      sound = k.runs.runs.session.sound;
      free = record {
        singles = let z = can.free.singles in omega (arith, z, fan, free);
        areas = let z = can.free.areas in omega (arith, z, areas);
        rack = k.runs.runs.frames.rack ∙ can.free.rack;
      };
      few = omega (arith, few, empty, edges, n, more);
      limit = omega (arith, empty, edges, a, b, g, more);
      chain_is = st.0.is;
      apart = st.1;
      has_bits = k.left;
      up = omega arith;
      number = omega (arith, edges, a, b, g);
      numbered = λ z.
          let e : 0 + given.count ≡ given.count = omega arith in
          subst (λ (i : ℕ). NumberedTo i p.items) e
          (s.numbered (sym k.runs.runs.session.touches.told ∙ z));
    }

-- Both were sent,
pub both_sent : {h : Header} {given gates : Chain} {bits mid rest : Reader} {q p r : QueueState}
    → CanSendBoth h given gates bits q → SendsChain (base_of h) (base_of h) 0 0 q p given bits mid
    → SendsChain (base_of h) (last_of h) given.count (base_of h) p r gates mid rest
    → Passes (edge_count h) (base_of h) 0 (last_of h)
    (both (both (taking_account bits) (reading_account given.blocks)) (reading_account
    gates.blocks))
    (taking_account rest) q r bits rest
both_sent {h} {given} {gates} {bits} {mid} {rest} {q} {p} {r} can x y =
    subst (λ (n : ℕ). Passes n (base_of h) 0 (last_of h)
    (both (both (taking_account bits) (reading_account given.blocks)) (reading_account
    gates.blocks))
    (taking_account rest) q r bits rest) can.edges
    (passes_then (passes_account (reading_account gates.blocks) refl x.passes) y.passes)

-- or a call of the first one was refused,
pub first_stops : {h : Header} {given gates : Chain} {bits rest : Reader} {q : QueueState}
    {fault : EmFault} (r : QueueState) → CanSendBoth h given gates bits q
    → StopsPassing given.count (both (taking_account bits) (reading_account given.blocks)) q r bits
    rest
    fault → StopsPassing (edge_count h)
    (both (both (taking_account bits) (reading_account given.blocks)) (reading_account
    gates.blocks))
    q r bits rest fault
first_stops {h} {given} {gates} {bits} {rest} {q} {fault} r can x =
    subst (λ (n : ℕ). StopsPassing n
    (both (both (taking_account bits) (reading_account given.blocks)) (reading_account
    gates.blocks))
    q r bits rest fault) can.edges (passes_more gates.count (passing_reading gates.blocks x))

-- or one of the second one.
pub second_stops : {h : Header} {given gates : Chain} {bits mid rest : Reader} {q p : QueueState}
    {fault : EmFault} (r : QueueState) → CanSendBoth h given gates bits q
    → SendsChain (base_of h) (base_of h) 0 0 q p given bits mid
    → StopsPassing gates.count (both (taking_account mid) (reading_account gates.blocks)) p r mid
    rest
    fault → StopsPassing (edge_count h)
    (both (both (taking_account bits) (reading_account given.blocks)) (reading_account
    gates.blocks))
    q r bits rest fault
second_stops {h} {given} {gates} {bits} {mid} {rest} {q} {p} {fault} r can x y =
    subst (λ (n : ℕ). StopsPassing n
    (both (both (taking_account bits) (reading_account given.blocks)) (reading_account
    gates.blocks))
    q r bits rest fault) can.edges
    (passes_stop r (passes_account (reading_account gates.blocks) refl x.passes) y)

-- fewer ranks
solves_less : {value : ℕ → Bool} {all : List Record} {base last : ℕ} (to : ℕ) → to ≤ last
    → Solves value all base last → Solves value all base to
solves_less to l s = record {
  forward = s.forward;
  none = s.none;
  two = λ t lo hi. s.two t lo (omega (arith, hi, l));
  is = λ t lo hi. s.is t lo (omega (arith, hi, l));
}

come_zero : (edges : List Record) → ComeFrom 0 edges
come_zero [] = tt
come_zero (e ∷ edges) = (omega arith, come_zero edges)

-- What the first chain is sent by, from rank 0,
module _ {value : ℕ → Bool} {all given gates bits : List Record} {h : Header}
    (v : HasValues value all h given gates bits) where
  pub first_sendable : Sendable value all gates (base_of h) (base_of h)
  first_sendable = record {
    solves = solves_less (base_of h) (omega arith) v.sendable.solves;
    climbs = v.sendable.climbs;
    from = v.high;
  }

  pub first_sending : (is : Bool) (items : List Record) → is ≡ false → items ≡ []
      → Sending value all gates (base_of h) (base_of h) 0 0 is given bits items
  first_sending is items off none = record {
    reaches = record {
      awaits = record { items_are = none; bits_are = λ _. v.bits_are };
      same = off ∙ v.constant;
      from = come_zero all;
    };
    rest = sym v.whole;
    most = v.low;
  }

  -- and the second one, once it was.
  pub second_sending : {is : Bool} {left items : List Record} (count : ℕ) → drop count all ≡ gates
      → Reaches value all (base_of h) (base_of h) count is left items
      → Sending value all [] (base_of h) (last_of h) (base_of h) count is gates left items
  second_sending count e r = record {
    reaches = r;
    rest = e ∙ sym (append-nil gates);
    most = v.most;
  }

pub drop_given : (given gates : List Record) (n : ℕ) → length given ≡ n
    → drop n (given ++ gates) ≡ gates
drop_given [] gates n e = ap (λ (k : ℕ). drop k gates) (sym e)
drop_given (x ∷ given) gates n e =
    ap (λ (k : ℕ). drop k (x ∷ (given ++ gates))) (sym e) ∙ drop_given given gates (length given)
    refl

-- the same lists, in other words
pub values_as : {value : ℕ → Bool} {all given gates bits x y z : List Record} {h : Header}
    → x ≡ given → y ≡ gates → z ≡ bits → HasValues value all h given gates bits
    → HasValues value all h x y z
values_as {value} {all} {given} {gates} {bits} {x} {y} {z} {h} a b c v =
    subst (λ (l : List Record). HasValues value all h l y z) (sym a)
    (subst (λ (l : List Record). HasValues value all h given l z) (sym b)
    (subst (λ (l : List Record). HasValues value all h given gates l) (sym c) v))

-- Of the messages that are left this many may be kept, and the others taken.
pub spread_collects : {h : Header} {given gates bits : Chain} {q p : QueueState} (keep : ℕ)
    → CanEvaluate q.rig.pool → q.counts.n + 2 * edge_count h < 2 ^ 100
    → keep + 2 * h.gates ≤ edge_count h → Spreads h given gates bits q p → CanCollect keep p
spread_collects keep free few least k =
    let f = k.runs.runs.frames in
    let fan = ap fan_of f.shape in
    let singles = free.singles in
    let areas = free.areas in
    let n = k.runs.calls_on.called.n in
    let more = k.more in
    let fewer = k.fewer in
    record {
      sound = k.runs.runs.session.sound;
      free = record {
        singles = omega (arith, singles, fan, f.free);
        areas = omega (arith, areas, f.free_areas);
        rack = f.rack ∙ free.rack;
      };
      few = omega (arith, n, few, more);
      least = omega (arith, fewer, least);
    }
