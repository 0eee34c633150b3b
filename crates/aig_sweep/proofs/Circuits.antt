-- The chains of a step of a circuit, as sending wants them, and what the messages that are left
-- say.
use Rattle.std.proofs.Common.{◌⊎◌, inl, inr, ◌≡◌, ℕ, zero, suc, ◌+◌, ◌-◌, ◌<◌, ◌≤◌, ◌==◌, Bool, false, List, [], ◌∷◌, ◌++◌, length, take, drop, map, get_or, ap, refl, subst, sym, ◌∙◌, arith}
use Rattle.std.proofs.lemmas.List.{append-nil, length-append, length-map, take-append-drop}
use Rattle.em_record.specs.Order.{AtLeast, IsAscending, is_below}
use Rattle.em_record.specs.declared.record.Record.{Record}
use Rattle.aig_defs.specs.Circuit.{Circuit, nexts, columns}
use Rattle.aig_defs.specs.Edges.{LeadOn, arity, conjunction}
use Rattle.aig_defs.specs.Ranks.{ends, first_end_rank, first_gate_rank, ordered_edges, rank_count, rank_value}
use Rattle.aig_defs.specs.Value.{literal_value, step_of}
use Rattle.aig_defs.specs.declared.circuit.Gate.{Gate}
use Rattle.aig_defs.specs.declared.circuit.Latch.{Latch}
use Rattle.aig_defs.specs.declared.circuit.Header.{Header}
use Rattle.aig_defs.proofs.RankEdges.{RankNumbers, edges_lead, given_arity, ordered_ascend, rank_numbers}
use Rattle.aig_defs.proofs.RankValues.{end_rank, end_rank_literal, ends_values, gate_rank, given_rank}
use Rattle.aig_sweep.specs.Bits.{bits_of}
use Rattle.aig_sweep.specs.Evaluates.{Represents}
use Rattle.aig_edges.specs.Graph.{edge_count}
use Rattle.aig_sweep.specs.Messages.{ComeFrom, ComeUpTo, HaveBits, IsClimbing, IsForward, LeadBelow, Solves, due, messages, waiting}
use Rattle.aig_sweep.specs.Spreads.{HasValues, base_of, last_of}
use Rattle.aig_sweep.proofs.Waiting.{below_rank, compare, due_all, takes_one, waiting_split, waits_none}

-- edges that lead on go forward, from ranks below m to ranks below n
lead_forward : (m n : ℕ) (es : List Record) → LeadOn m n es → IsForward es
lead_forward m n [] h = tt
lead_forward m n (e ∷ es) h = (h.0.1, lead_forward m n es h.1)

lead_below : (m n : ℕ) (es : List Record) → LeadOn m n es → LeadBelow n es
lead_below m n [] h = tt
lead_below m n (e ∷ es) h = (h.0.2, lead_below m n es h.1)

lead_right : (m n : ℕ) (xs ys : List Record) → LeadOn m n (xs ++ ys) → LeadOn m n ys
lead_right m n [] ys h = h
lead_right m n (x ∷ xs) ys h = lead_right m n xs ys h.1

lead_most : (m n last : ℕ) (es : List Record) → m ≡ last + 1 → LeadOn m n es → ComeUpTo last es
lead_most m n last [] e h = tt
lead_most m n last (x ∷ xs) e h = (
  let l = h.0.0 in omega (arith, l, e),
  lead_most m n last xs e
      h.1,
)

all_most : (t : ℕ) (es : List Record) → ((j : ℕ) (d : Record) → j < length es
    → (get_or es j d).a ≤ t)
    → ComeUpTo t es
all_most t [] h = tt
all_most t (e ∷ es) h = (
  h 0 e (omega arith),
  all_most t es (λ j d l. h (suc j) d (omega (
    arith,
    l,
  ))),
)

all_from : (t : ℕ) (es : List Record) → ((j : ℕ) (d : Record) → j < length es
    → t < (get_or es j d).a)
    → ComeFrom t es
all_from t [] h = tt
all_from t (e ∷ es) h = (
  let l = h 0 e (omega arith) in omega (arith, l),
  all_from t es (λ j d l. h (suc j) d (omega
      (arith, l))),
)

-- ascending edges climb
climb_case : (x y : Record) → (y.a < x.a) ⊎ ((y.a ≡ x.a) ⊎ (x.a < y.a)) → is_below y x ≡ false
    → x.a ≤ y.a
climb_case x y (inl l) e = absurd (let b = below_rank y x l in cc)
climb_case x y (inr (inl s)) e = omega (arith, s)
climb_case x y (inr (inr l)) e = omega (arith, l)

least_from : (x : Record) (ys : List Record) → AtLeast x ys → ComeFrom x.a ys
least_from x [] h = tt
least_from x (y ∷ ys) h = (climb_case x y (compare y.a x.a) h.0, least_from x ys h.1)

ascending_climbs : (es : List Record) → IsAscending es → IsClimbing es
ascending_climbs [] h = tt
ascending_climbs (e ∷ es) h = (least_from e es h.0, ascending_climbs es h.1)

come_end : (t k : ℕ) (edges : List Record) → length edges ≤ k → ComeFrom t (drop k edges)
come_end t zero [] l = tt
come_end t zero (e ∷ edges) l = absurd (omega (arith, l))
come_end t (suc k) [] l = tt
come_end t (suc k) (e ∷ edges) l = come_end t k edges (omega (arith, l))

-- bits of a list that are the values of ranks
bits_from : (value : ℕ → Bool) (t : ℕ) (xs : List Record) (bs : List Bool) → bits_of xs ≡ bs
    → ((j : ℕ) → j < length bs → value (t + j) ≡ get_or bs j false) → HaveBits value t xs
bits_from value t [] bs e f = tt
bits_from value t (x ∷ xs) [] e f = cc
bits_from value t (x ∷ xs) (b ∷ bs) e f =
    let first : (x.c == 1) ≡ b = cc in
    let rest : bits_of xs ≡ bs = cc in
    let z : t + 0 ≡ t = omega arith in (
      first ∙ sym (f 0 (omega arith)) ∙ ap value z,
      bits_from value (t + 1) xs bs rest (λ j l.
          let y : t + 1 + j ≡ t + suc j = omega arith in
          ap value y ∙ f (suc j) (omega (arith, l))),
    )

bits_to : (value : ℕ → Bool) (f : ℕ → Bool) (t : ℕ) (xs : List Record) (ls : List ℕ)
    → length xs ≡ length ls → HaveBits value t xs
    → ((j : ℕ) → j < length ls → value (t + j) ≡ f (get_or ls j 0)) → bits_of xs ≡ map f ls
bits_to value f t [] [] n h g = refl
bits_to value f t [] (l ∷ ls) n h g = absurd (omega (arith, n))
bits_to value f t (x ∷ xs) [] n h g = absurd (omega (arith, n))
bits_to value f t (x ∷ xs) (l ∷ ls) n h g =
    let z : t ≡ t + 0 = omega arith in
    let first : (x.c == 1) ≡ f l = h.0 ∙ ap value z ∙ g 0 (omega arith) in
    let rest = bits_to value f (t + 1) xs ls (omega (arith, n)) h.1 (λ j y.
    let e : t + 1 + j ≡ t + suc j = omega arith in ap value e ∙ g (suc j) (omega (arith, y))) in
    ap (λ (b : Bool). b ∷ bits_of xs) first ∙ ap (λ (bs : List Bool). f l ∷ bs) rest

bits_take : (n : ℕ) (xs : List Record) → bits_of (take n xs) ≡ take n (bits_of xs)
bits_take zero xs = refl
bits_take (suc n) [] = refl
bits_take (suc n) (x ∷ xs) = ap (λ (bs : List Bool). (x.c == 1) ∷ bs) (bits_take n xs)

bits_drop : (n : ℕ) (xs : List Record) → bits_of (drop n xs) ≡ drop n (bits_of xs)
bits_drop zero xs = refl
bits_drop (suc n) [] = refl
bits_drop (suc n) (x ∷ xs) = bits_drop n xs

take_front : (n : ℕ) (xs ys : List Bool) → length xs ≡ n → take n (xs ++ ys) ≡ xs
take_front zero [] ys e = refl
take_front zero (x ∷ xs) ys e = absurd (omega (arith, e))
take_front (suc n) [] ys e = absurd (omega (arith, e))
take_front (suc n) (x ∷ xs) ys e = ap (λ (bs : List Bool). x ∷ bs) (take_front n xs ys (omega
    (arith, e)))

drop_front : (n : ℕ) (xs ys : List Bool) → length xs ≡ n → drop n (xs ++ ys) ≡ ys
drop_front zero [] ys e = refl
drop_front zero (x ∷ xs) ys e = absurd (omega (arith, e))
drop_front (suc n) [] ys e = absurd (omega (arith, e))
drop_front (suc n) (x ∷ xs) ys e = drop_front n xs ys (omega (arith, e))

-- Ranks with one edge each take one message each.
record Ends (value : ℕ → Bool) (t n k : ℕ) (edges items : List Record) : Type 0 where
  pub bits : HaveBits value t (take n items)
  pub long : length (take n items) ≡ n
  pub left : drop n items ≡ waiting value (t + n) k edges

module _ (value : ℕ → Bool) (k : ℕ) (edges : List Record) (forward : IsForward edges)
    (from : (t : ℕ) → ComeFrom t (drop k edges)) where
  ends_more : (n t : ℕ) (x : Record) (xs : List Record) → (x.c == 1) ≡ value t
      → Ends value (t + 1) n k edges xs → Ends value t (suc n) k edges (x ∷ xs)
  ends_more n t x xs b e =
      let z : t + 1 + n ≡ t + suc n = omega arith in
      let long = e.long in
      record {
        bits = (b, e.bits);
        long = ap suc long;
        left = e.left ∙ ap (λ u. waiting value u k edges) z;
      }

  ends_taken : (n t : ℕ) (items : List Record)
      → ((j : ℕ) → t ≤ j → j < t + n → (arity j edges ≡ 1) × (value j ≡ conjunction value j edges))
      → items ≡ waiting value t k edges → Ends value t n k edges items
  ends_taken zero t items one w =
      let z : t ≡ t + 0 = omega arith in
      record { bits = tt; long = refl; left = w ∙ ap (λ u. waiting value u k edges) z }
  ends_taken (suc n) t [] one w =
      let is = one t (omega arith) (omega arith) in
      let all = (due_all value t k edges (record { forward = forward; from = from t })).1 in
      let m = length-append (due t (messages value 1 (take k edges))) (waiting value (t + 1) k
      edges) in
      let first = is.0 in
      let none = ap length w in
      let split = ap length (waiting_split value t k edges) in
      absurd (omega (arith, all, m, first, none, split))
  ends_taken (suc n) t (x ∷ xs) one w =
      let is = one t (omega arith) (omega arith) in
      let p = takes_one value t k edges x xs (record { forward = forward; from = from t }) is.0
      (sym w) in
      ends_more n t x xs (p.1 ∙ sym is.1)
      (ends_taken n (t + 1) xs (λ j lo hi. one j (omega (arith, lo)) (omega (arith, hi))) p.0)

module _ {c : Circuit} {order : List Gate} {s i : List Bool} {h : Header}
    {given gates bits : List Record} (r : Represents c order s i h given gates bits) where
  numbers : RankNumbers c order
  numbers = rank_numbers c order r.order_is.is.lengths r.order_is.count

  first_is : first_gate_rank c ≡ 1 + h.inputs + h.latches
  first_is = numbers.first_gate ∙ ap (λ (z : Header). 1 + z.inputs + z.latches) r.header_is

  end_is : first_end_rank c order ≡ 1 + h.inputs + h.latches + h.gates
  end_is = numbers.first_end ∙ ap (λ (z : Header). 1 + z.inputs + z.latches + z.gates) r.header_is

  gates_is : length order ≡ h.gates
  gates_is = numbers.gates ∙ ap (λ (z : Header). z.gates) r.header_is

  ends_is : length (ends c) ≡ h.latches + columns h
  ends_is = numbers.ends ∙ ap (λ (z : Header). z.latches + columns z) r.header_is

  leads : LeadOn (first_end_rank c order) (rank_count c order) (ordered_edges c order)
  leads = edges_lead c order r.order_is

  solves : Solves (rank_value c order s i) (ordered_edges c order) (base_of h) (last_of h)
  solves = record {
    forward = lead_forward _ _ _ leads;
    none = λ t l. given_arity c order t (omega (arith, l, first_is));
    two = λ t lo hi.
        let z : first_gate_rank c + (t - first_gate_rank c) ≡ t = omega (arith, lo, first_is) in
        subst (λ u. arity u (ordered_edges c order) ≡ 2) z
        (gate_rank c order r.order_is s i (t - first_gate_rank c)
        (omega (arith, lo, hi, first_is, gates_is))).many;
    is = λ t lo hi.
        let z : first_gate_rank c + (t - first_gate_rank c) ≡ t = omega (arith, lo, first_is) in
        subst (λ u. rank_value c order s i u
        ≡ conjunction (rank_value c order s i) u (ordered_edges c order)) z
        (sym (gate_rank c order r.order_is s i (t - first_gate_rank c)
        (omega (arith, lo, hi, first_is, gates_is))).brings);
  }

  latches_long : length s ≡ length c.latches
  latches_long = r.state_long ∙ sym (ap (λ (z : Header). z.latches) r.header_is)
      ∙ sym r.order_is.is.lengths.latches

  inputs_long : length i ≡ length c.inputs
  inputs_long = r.input_long ∙ sym (ap (λ (z : Header). z.inputs) r.header_is)
      ∙ sym r.order_is.is.lengths.inputs

  -- What sending wants of a circuit's records.
  pub has_values : HasValues (rank_value c order s i) (ordered_edges c order) h given gates bits
  has_values = record {
    sendable = record {
      solves = solves;
      climbs = ascending_climbs (ordered_edges c order) (ordered_ascend c order);
      from = tt;
    };
    whole = r.edges_are;
    low = all_most (base_of h) given r.low;
    high = all_from (base_of h) gates r.high;
    most = lead_most (first_end_rank c order) (rank_count c order) (last_of h) gates
        (omega (arith, end_is))
        (lead_right _ _ given gates (subst (LeadOn _ _) (sym r.edges_are) leads));
    constant = sym (given_rank c order r.order_is s i 0 latches_long inputs_long
        (omega (arith, first_is)));
    bits_are = bits_from (rank_value c order s i) 1 bits (i ++ s) r.bits_are (λ j l.
        let y : 1 + j ≡ suc j = omega arith in
        let n = length-append i s in
        let a = r.input_long in
        let b = r.state_long in
        ap (rank_value c order s i) y
        ∙ given_rank c order r.order_is s i (suc j) latches_long inputs_long
        (omega (arith, l, n, a, b, first_is)));
  }

  -- What waits after the last gate are the next bits, and then the outputs.
  pub waits_ends : {items : List Record} → length given + length gates ≡ edge_count h
      → items ≡ waiting (rank_value c order s i) (last_of h + 1) (edge_count h) (ordered_edges c
      order)
      → (bits_of (take h.latches items) ≡ (step_of c s i).1)
      × (bits_of (drop h.latches items) ≡ (step_of c s i).0)
      × (length items ≡ h.latches + columns h)
  waits_ends {items} count w =
      let value = rank_value c order s i in
      let edges = ordered_edges c order in
      let k = edge_count h in
      let n = h.latches + columns h in
      let t = last_of h + 1 in
      let long : length edges ≡ k = ap length (sym r.edges_are) ∙ length-append given gates ∙ count
      in
      let e = ends_taken value k edges (lead_forward _ _ _ leads)
      (λ u. come_end u k edges (omega (arith, long))) n t items
      (λ j lo hi.
      let z : first_end_rank c order + (j - first_end_rank c order) ≡ j =
      omega (arith, lo, end_is) in
      let p = end_rank c order r.order_is s i (j - first_end_rank c order)
      (omega (arith, lo, hi, end_is, ends_is)) in
      subst (λ u. (arity u edges ≡ 1) × (value u ≡ conjunction value u edges)) z
      (p.many, sym p.brings)) w in
      let top : t + n ≡ rank_count c order = omega (arith, end_is, ends_is) in
      let none : drop n items ≡ [] = e.left ∙ ap (λ u. waiting value u k edges) top
      ∙ waits_none value (rank_count c order) k edges (lead_below _ _ _ leads) in
      let whole : take n items ≡ items = sym (append-nil (take n items))
      ∙ ap (λ (l : List Record). take n items ++ l) (sym none) ∙ take-append-drop n items in
      let size : length items ≡ n = ap length (sym whole) ∙ e.long in
      let f = literal_value c s i in
      let all : bits_of items ≡ (step_of c s i).1 ++ (step_of c s i).0 =
      bits_to value f t items (ends c) (size ∙ sym ends_is) (subst (HaveBits value t) whole e.bits)
      (λ j l.
      let z : t + j ≡ first_end_rank c order + j = omega (arith, end_is) in
      ap value z ∙ end_rank_literal c order r.order_is s i j)
      ∙ ends_values c order r.order_is s i in
      let next_long : length (step_of c s i).1 ≡ h.latches =
      length-map (nexts c.latches) f ∙ length-map c.latches (λ (l : Latch). l.next)
      ∙ r.order_is.is.lengths.latches ∙ ap (λ (z : Header). z.latches) r.header_is in (
        bits_take h.latches items ∙ ap (take h.latches) all
            ∙ take_front h.latches (step_of c s i).1 (step_of c s i).0 next_long,
        bits_drop h.latches items ∙ ap (drop h.latches) all
            ∙ drop_front h.latches (step_of c s i).1 (step_of c s i).0 next_long,
        size,
      )
