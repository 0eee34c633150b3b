-- The graph of a circuit from the records of its chains: the edges in the order of the text, and
-- which records can be pushed one after another.
use Rattle.std.proofs.Common.{inl, inr, ◌≡◌, ◌+◌, ◌*◌, ◌<◌, ◌≤◌, ◌%◌, true, false, cond, List, [], ◌∷◌, ◌++◌, ℕ, sym, ap, ◌∙◌, refl, subst, arith, length, map, flat_map}
use Rattle.std.specs.Ordering.{nat_cmp, ordering_then, is_lt, MatchOrdering}
use Rattle.std.specs.declared.cmp.Ordering.{Ordering}
use Rattle.std.specs.declared.cmp.Ordering.TheVariants.{Less, Equal, Greater}
use Rattle.std.proofs.lemmas.Bool.{cases_Bool}
use Rattle.std.proofs.lemmas.Cmp.{ranked}
use Rattle.std.proofs.lemmas.List.{length-append, map-append}
use Rattle.em_record.specs.declared.record.Record.{Record}
use Rattle.em_record.specs.Order.{is_below, with_record, with_records, in_order, Lacks}
use Rattle.em_record.proofs.Commutes.{order_cons}
use Rattle.em_record.proofs.Lacking.{lacks_order, lacks_without, lacks_with}
use Rattle.em_record.proofs.Order.{length_order}
use Rattle.aig_defs.specs.declared.circuit.Latch.{Latch}
use Rattle.aig_defs.specs.declared.circuit.Gate.{Gate}
use Rattle.aig_defs.specs.Circuit.{Circuit, HasLengths, columns}
use Rattle.aig_defs.specs.Chains.{numbered, gate_record, latch_use, output_use, gates_of, uses_of}
use Rattle.aig_defs.specs.Graph.{graph_edge, operand_edges, next_edge, output_edge, edges_in_text, gate_edge0, gate_edge1, use_edge, graph_edges, AllLack}
use Rattle.aig_defs.proofs.Chains.{length_numbered}

-- the edges by the records of gates and uses
pub gates_by_records : (j : ℕ) (gs : List Gate)
    → flat_map operand_edges gs
    ≡ flat_map (λ (r : Record). gate_edge0 r ∷ gate_edge1 r ∷ []) (numbered gate_record j gs)
gates_by_records j [] = refl
gates_by_records j (g ∷ gs) =
    ap (λ t. operand_edges g ++ t) (gates_by_records (j + 1) gs)

nexts_by_records : (j : ℕ) (ls : List Latch)
    → numbered next_edge j ls ≡ map use_edge (numbered latch_use j ls)
nexts_by_records j [] = refl
nexts_by_records j (l ∷ ls) = ap (λ t. next_edge j l ∷ t) (nexts_by_records (j + 1) ls)

outputs_by_records : (j : ℕ) (ls : List ℕ)
    → numbered output_edge j ls ≡ map use_edge (numbered output_use j ls)
outputs_by_records j [] = refl
outputs_by_records j (l ∷ ls) = ap (λ t. output_edge j l ∷ t) (outputs_by_records (j + 1) ls)

-- The edges in the order of the text are two of each gate's record, then one of each use's.
pub edges_by_records : (c : Circuit)
    → edges_in_text c
    ≡ flat_map (λ (r : Record). gate_edge0 r ∷ gate_edge1 r ∷ []) (gates_of c)
    ++ map use_edge (uses_of c)
edges_by_records c =
    let ns = numbered latch_use 0 c.latches in
    let os = numbered output_use 0 c.columns in
    let gs = flat_map operand_edges c.gates in
    ap (λ t. gs ++ (t ++ numbered output_edge 0 c.columns)) (nexts_by_records 0 c.latches)
    ∙ ap (λ t. gs ++ (map use_edge ns ++ t)) (outputs_by_records 0 c.columns)
    ∙ ap (λ t. gs ++ t) (sym (map-append use_edge ns os))
    ∙ ap (λ t. t ++ map use_edge (ns ++ os)) (gates_by_records 0 c.gates)

-- how many edges there are
operands_count : (gs : List Gate) → length (flat_map operand_edges gs) ≡ 2 * length gs
operands_count [] = refl
operands_count (g ∷ gs) = omega (arith, operands_count gs)

pub edges_count : (c : Circuit) → HasLengths c
    → length (edges_in_text c) ≡ 2 * c.header.gates + c.header.latches + columns c.header
edges_count c l =
    let gs = flat_map operand_edges c.gates in
    let ns = numbered next_edge 0 c.latches in
    let os = numbered output_edge 0 c.columns in
    let latches = length_numbered next_edge 0 c.latches in
    let outputs = length_numbered output_edge 0 c.columns in
    omega (
      arith,
      length-append gs (ns ++ os),
      length-append ns os,
      operands_count c.gates,
      latches,
      outputs,
      l.latches,
      l.columns,
      l.gates,
    )

pub graph_edges_count : (c : Circuit) → HasLengths c
    → length (graph_edges c) ≡ 2 * c.header.gates + c.header.latches + columns c.header
graph_edges_count c l = length_order (edges_in_text c) ∙ edges_count c l

-- no two of some records have the same words a and b
abbrev pub AllApart : List Record → Type 0
AllApart [] = Unit {0}
AllApart (x ∷ xs) = Lacks x xs × AllApart xs

-- no record of the second list has the words a and b of one of the first
abbrev pub EachLacks : List Record → List Record → Type 0
EachLacks [] ys = Unit {0}
EachLacks (x ∷ xs) ys = Lacks x ys × EachLacks xs ys

each_with : (x : Record) (xs ys : List Record) → Lacks x xs → EachLacks xs ys
    → EachLacks xs (with_record x ys)
each_with x [] ys l e = tt
each_with x (z ∷ xs) ys l e =
    (lacks_with z x ys e.0 (λ a b. l.0 (sym a) (sym b)), each_with x xs ys l.1 e.1)

all_lack_by : (ys xs : List Record) → AllApart xs → EachLacks xs ys → AllLack ys xs
all_lack_by ys [] a e = tt
all_lack_by ys (x ∷ xs) a e =
    (e.0, all_lack_by (with_record x ys) xs a.1 (each_with x xs ys a.0 e.1))

lack_none : (xs : List Record) → EachLacks xs []
lack_none [] = tt
lack_none (x ∷ xs) = (tt, lack_none xs)

-- records with no two of the same words may be pushed one after another
pub apart_lack : (xs : List Record) → AllApart xs → AllLack [] xs
apart_lack xs a = all_lack_by [] xs a (lack_none xs)

-- after some records were pushed the others may be
pub all_lack_after : (ys xs zs : List Record) → AllLack ys (xs ++ zs)
    → AllLack (with_records ys xs) zs
all_lack_after ys [] zs a = a
all_lack_after ys (x ∷ xs) zs a = all_lack_after (with_record x ys) xs zs a.1

-- Words b of edges: from 4·low on, with a class from `first` on and below `last`.
pub record IsClass (low first last b : ℕ) : Type 0 where
  pub from : 4 * low ≤ b
  pub least : first ≤ b % 4
  pub most : b % 4 < last

abbrev pub AllClass : ℕ → ℕ → ℕ → List Record → Type 0
AllClass low first last [] = Unit {0}
AllClass low first last (e ∷ edges) = IsClass low first last e.b × AllClass low first last edges

pub all_class_append : (low first last : ℕ) (xs ys : List Record) → AllClass low first last xs
    → AllClass low first last ys → AllClass low first last (xs ++ ys)
all_class_append low first last [] ys h k = k
all_class_append low first last (x ∷ xs) ys h k = (h.0, all_class_append low first last xs ys h.1 k)

pub all_class_lower : (low less first last : ℕ) (xs : List Record) → less ≤ low
    → AllClass low first last xs → AllClass less first last xs
all_class_lower low less first last [] l h = tt
all_class_lower low less first last (x ∷ xs) l h =
    let from = h.0.from in (
      record { from = omega (arith, l, from); least = h.0.least; most = h.0.most },
      all_class_lower low less first last xs l h.1,
    )

pub wider_class : (first last wide_last : ℕ) (xs : List Record) → last ≤ wide_last
    → AllClass 0 first last xs → AllClass 0 first wide_last xs
wider_class first last wide_last [] l h = tt
wider_class first last wide_last (x ∷ xs) l h =
    let most = h.0.most in (
      record { from = h.0.from; least = h.0.least; most = omega (arith, most, l) },
      wider_class first last wide_last xs l h.1,
    )

pub later_class : (first other last : ℕ) (xs : List Record) → other ≤ first
    → AllClass 0 first last xs → AllClass 0 other last xs
later_class first other last [] l h = tt
later_class first other last (x ∷ xs) l h =
    let least = h.0.least in (
      record { from = h.0.from; least = omega (arith, least, l); most = h.0.most },
      later_class first other last xs l h.1,
    )

-- edges further on have other words
lacks_later : (x : Record) (low first last : ℕ) (ys : List Record) → x.b < 4 * low
    → AllClass low first last ys → Lacks x ys
lacks_later x low first last [] l h = tt
lacks_later x low first last (y ∷ ys) l h =
    let from = h.0.from in
    ((λ a b. omega (arith, b, from, l)), lacks_later x low first last ys l h.1)

-- edges of other classes have other words
lacks_other : (x : Record) (first last : ℕ) (ys : List Record) → x.b % 4 < first
    → AllClass 0 first last ys → Lacks x ys
lacks_other x first last [] l h = tt
lacks_other x first last (y ∷ ys) l h =
    let least = h.0.least in
    let other : y.b ≡ x.b → ⊥ = λ b. omega (arith, ap (λ (k : ℕ). k % 4) b, least, l) in
    ((λ a b. other b), lacks_other x first last ys l h.1)

pub each_other : (first mid last : ℕ) (xs ys : List Record) → AllClass 0 first mid xs
    → AllClass 0 mid last ys → EachLacks xs ys
each_other first mid last [] ys h k = tt
each_other first mid last (x ∷ xs) ys h k =
    (lacks_other x mid last ys h.0.most k, each_other first mid last xs ys h.1 k)

lacks_append : (x : Record) (ys zs : List Record) → Lacks x ys → Lacks x zs → Lacks x (ys ++ zs)
lacks_append x [] zs h k = k
lacks_append x (y ∷ ys) zs h k = (h.0, lacks_append x ys zs h.1 k)

pub apart_append : (xs ys : List Record) → AllApart xs → AllApart ys → EachLacks xs ys
    → AllApart (xs ++ ys)
apart_append [] ys h k e = k
apart_append (x ∷ xs) ys h k e =
    (lacks_append x xs ys h.0 e.0, apart_append xs ys h.1 k e.1)

-- the word b of an edge
pub class_of : (low first last literal t class : ℕ) → low ≤ t → first ≤ class → class < last → class < 4
    → IsClass low first last (graph_edge literal t class).b
class_of low first last literal t class a b d e =
    let same : (4 * t + class) % 4 ≡ class = omega (arith, e) in
    record {
      from = omega (arith, a);
      least = omega (arith, same, b);
      most = omega (arith, same, d);
    }

-- the edges of a section whose elements have one each, to places from n on
pub section_class : {A : Type 0} (literal : A → ℕ) (n class j : ℕ) (section : List A) → class < 4
    → AllClass (n + j) class (class + 1)
    (numbered (λ k (a : A). graph_edge (literal a) (n + k) class) j section)
section_class literal n class j [] l = tt
section_class literal n class j (a ∷ section) l = (
  class_of (n + j) class (class + 1) (literal a) (n + j) class (omega arith) (omega arith)
      (omega arith) l,
  all_class_lower (n + (j + 1)) (n + j) class (class + 1) _ (omega arith)
      (section_class literal n class (j + 1) section l),
)

pub section_apart : {A : Type 0} (literal : A → ℕ) (n class j : ℕ) (section : List A) → class < 4
    → AllApart (numbered (λ k (a : A). graph_edge (literal a) (n + k) class) j section)
section_apart literal n class j [] l = tt
section_apart literal n class j (a ∷ section) l =
    let low : 4 * (n + j) + class < 4 * (n + (j + 1)) = omega (arith, l) in (
      lacks_later (graph_edge (literal a) (n + j) class) (n + (j + 1)) class (class + 1) _ low
          (section_class literal n class (j + 1) section l),
      section_apart literal n class (j + 1) section l,
    )

-- a record of a greater word a isn't below
lt_then : (r o : Ordering) (m n : ℕ) → MatchOrdering r (m < n) (m ≡ n) (n < m) → n < m
    → is_lt (ordering_then r o) ≡ false
lt_then Less o m n h l = absurd (omega (arith, h, l))
lt_then Equal o m n h l = absurd (omega (arith, h, l))
lt_then Greater o m n h l = refl

pub greater_not_below : (y x : Record) → x.a < y.a → is_below y x ≡ false
greater_not_below y x l = lt_then (nat_cmp y.a x.a) _ y.a x.a (ranked y.a x.a _ refl) l

-- a record of a lesser word a is below
lt_first : (r o : Ordering) (m n : ℕ) → MatchOrdering r (m < n) (m ≡ n) (n < m) → m < n
    → is_lt (ordering_then r o) ≡ true
lt_first Less o m n h l = refl
lt_first Equal o m n h l = absurd (omega (arith, h, l))
lt_first Greater o m n h l = absurd (omega (arith, h, l))

pub lesser_below : (y x : Record) → y.a < x.a → is_below y x ≡ true
lesser_below y x l = lt_first (nat_cmp y.a x.a) _ y.a x.a (ranked y.a x.a _ refl) l

-- records of which no two have the same words a and b, in order and back
apart_with : (x : Record) (ys : List Record) → AllApart (x ∷ ys) → AllApart (with_record x ys)
apart_with x [] h = h
apart_with x (y ∷ ys) h = elim (cases_Bool (is_below y x)) [
  | inl below ↦
      let differ = λ (p : x.a ≡ y.a) (q : x.b ≡ y.b). h.0.0 (sym p) (sym q) in
      subst (λ b. AllApart (cond b (y ∷ with_record x ys) (x ∷ y ∷ ys))) (sym below)
      (lacks_with y x ys h.1.0 differ, apart_with x ys (h.0.1, h.1.1))
  | inr past ↦
      subst (λ b. AllApart (cond b (y ∷ with_record x ys) (x ∷ y ∷ ys))) (sym past) h
]

pub apart_order : (xs : List Record) → AllApart xs → AllApart (in_order xs)
apart_order [] h = h
apart_order (x ∷ xs) h =
    subst AllApart (sym (order_cons x xs))
    (apart_with x (in_order xs) ((lacks_order x xs).1 h.0, apart_order xs h.1))

apart_without : (x : Record) (ys : List Record) → AllApart (with_record x ys) → AllApart (x ∷ ys)
apart_without x [] h = h
apart_without x (y ∷ ys) h = elim (cases_Bool (is_below y x)) [
  | inl below ↦
      let split = subst (λ b. AllApart (cond b (y ∷ with_record x ys) (x ∷ y ∷ ys))) below h in
      let lacks = lacks_without y x ys split.0 in
      let rest = apart_without x ys split.1 in
      ((λ p q. lacks.0 (sym p) (sym q), rest.0), (lacks.1, rest.1))
  | inr past ↦ subst (λ b. AllApart (cond b (y ∷ with_record x ys) (x ∷ y ∷ ys))) past h
]

pub order_apart : (xs : List Record) → AllApart (in_order xs) → AllApart xs
order_apart [] h = h
order_apart (x ∷ xs) h =
    let split = apart_without x (in_order xs) (subst AllApart (order_cons x xs) h) in
    ((lacks_order x xs).0 split.0, order_apart xs split.1)
