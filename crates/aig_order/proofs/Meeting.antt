-- What meeting a record does to the items of the queue and to what is written, by what it takes.
use Rattle.std.proofs.Common.{◌≡◌, ◌+◌, ◌*◌, ◌≤◌, Bool, true, false, ◌&&◌, if◌then◌else◌, List, [], ◌∷◌, ◌++◌, ℕ, length, drop, get_or, Option, Some, None, option_to_list, refl, sym, ap, ◌∙◌, arith}
use Rattle.std.proofs.lemmas.List.{append-nil}
use Rattle.em_record.specs.declared.record.Record.{Record}
use Rattle.em_record.specs.Order.{with_record}
use Rattle.em_frames.specs.Device.{zero_record}
use Rattle.aig_defs.specs.declared.circuit.Header.{Header}
use Rattle.aig_order.specs.declared.standing.Standing.{Standing}
use Rattle.aig_order.specs.declared.standing.Sweep.{Sweep}
use Rattle.aig_order.specs.declared.standing.Sweep.TheVariants.{Recall, Find, Send, Rank}
use Rattle.aig_order.specs.Sweeps.{Moment, at_rank, end_edge, found_rank, is_edge, is_gate, is_told, leads_to_gate, meet, meet_all, meet_definition, meet_edge, meet_gate, note, operand_edge, past_gate, receives, takes_notes, with_rank, written_edge}
use Rattle.aig_order.specs.SweepCalls.{AllBelow, calls_at, items_after, standing_after, sweep_calls, sweep_written, written_after, written_at}
use Rattle.aig_order.proofs.Numbers.{below_drop, below_lacks, below_more, below_with}
use Rattle.em_record.specs.Order.{Lacks}

-- by whether the record is an edge or a gate
abbrev standing_by : Sweep → Bool → Bool → Standing → Record → Record → Record → Standing
standing_by Find e g p r a b =
    if e then p
    else (if g then past_gate p r (found_rank p.next r a b) else at_rank r.c p.next)
standing_by sweep e g p r a b = if e then p else at_rank r.c p.next

abbrev written_by : Header → Sweep → Bool → Bool → Standing → Record → Record → Record
    → Option Record × Option Record
written_by h Recall e g p r a b = (None, None)
written_by h Find e g p r a b =
    (Some (if e then r else (if g then with_rank r (found_rank p.next r a b) else r)), None)
written_by h Send e g p r a b = (if e then written_edge h Send p.rank r else None, None)
written_by h Rank e g p r a b =
    if e then (None, None)
    else (if g then (Some (operand_edge a r.c), Some (operand_edge b r.c)) else (None, None))

abbrev moment_by : Header → Sweep → Bool → Bool → ℕ → Record → Moment → Record → Record → Moment
moment_by h sweep e g n r m a b = record {
  items = if e
      then (if is_told sweep r
      then with_record (note sweep m.standing.found m.standing.rank r n) m.items else m.items)
      else (if receives sweep && g then drop 2 m.items else m.items);
  standing = standing_by sweep e g m.standing r a b;
  written = m.written ++ (option_to_list (written_by h sweep e g m.standing r a b).0
      ++ option_to_list (written_by h sweep e g m.standing r a b).1);
}

abbrev meet_by : Header → Sweep → Bool → Bool → ℕ → Record → Moment → Moment
meet_by h sweep e g n r m =
    if e then meet_edge h sweep n r m
    else (if receives sweep && g
    then meet_gate sweep r (get_or m.items 0 zero_record) (get_or m.items 1 zero_record) m
    else meet_definition sweep r m)

by : (h : Header) (sweep : Sweep) (e g : Bool) (n : ℕ) (r : Record) (m : Moment) (a b : Record)
    → (receives sweep && g ≡ true → a ≡ get_or m.items 0 zero_record)
    → (receives sweep && g ≡ true → b ≡ get_or m.items 1 zero_record)
    → meet_by h sweep e g n r m ≡ moment_by h sweep e g n r m a b
by h Recall true g n r m a b f s = refl
by h Recall false g n r m a b f s = refl
by h Find true g n r m a b f s = refl
by h Find false true n r m a b f s = rw (f refl, s refl) refl
by h Find false false n r m a b f s = refl
by h Send true g n r m a b f s =
    ap (λ ws. record {
      items = if is_told Send r
          then with_record (note Send m.standing.found m.standing.rank r n) m.items else m.items;
      standing = m.standing;
      written = m.written ++ ws;
    }) (sym (append-nil (option_to_list (written_edge h Send m.standing.rank r))))
by h Send false g n r m a b f s = refl
by h Rank true g n r m a b f s = refl
by h Rank false true n r m a b f s = rw (f refl, s refl) refl
by h Rank false false n r m a b f s = refl

-- The moment after a record that took these notes, or none.
pub meet_is : (h : Header) (sweep : Sweep) (n : ℕ) (r : Record) (m : Moment) (a b : Record)
    → (takes_notes sweep r ≡ true → a ≡ get_or m.items 0 zero_record)
    → (takes_notes sweep r ≡ true → b ≡ get_or m.items 1 zero_record)
    → meet h sweep n r m ≡ record {
      items = items_after sweep m.standing n r m.items;
      standing = standing_after sweep m.standing r a b;
      written = m.written ++ (option_to_list (written_after h sweep m.standing r a b).0
          ++ option_to_list (written_after h sweep m.standing r a b).1);
    }
meet_is h Recall n r m a b f s = by h Recall (is_edge r) (is_gate r) n r m a b f s
meet_is h Find n r m a b f s = by h Find (is_edge r) (is_gate r) n r m a b f s
meet_is h Send n r m a b f s = by h Send (is_edge r) (is_gate r) n r m a b f s
meet_is h Rank n r m a b f s = by h Rank (is_edge r) (is_gate r) n r m a b f s

-- How many records are written for it.
abbrev written_as : Sweep → Bool → Bool → Bool → Record → Record → Record → Record
    → Option Record × Option Record
written_as Recall e g l r x a b = (None, None)
written_as Find e g l r x a b = (Some r, None)
written_as Send e g l r x a b = (if e then (if l then None else Some x) else None, None)
written_as Rank e g l r x a b =
    if e then (None, None) else (if g then (Some a, Some b) else (None, None))

abbrev count_as : Sweep → Bool → Bool → Bool → ℕ
count_as Recall e g l = 0
count_as Find e g l = 1
count_as Send e g l = if e then (if l then 0 else 1) else 0
count_as Rank e g l = if e then 0 else (if g then 2 else 0)

len_by : (sweep : Sweep) (e g l : Bool) (r x a b : Record)
    → length (option_to_list (written_as sweep e g l r x a b).0
    ++ option_to_list (written_as sweep e g l r x a b).1) ≡ count_as sweep e g l
len_by Recall e g l r x a b = refl
len_by Find e g l r x a b = refl
len_by Send true g true r x a b = refl
len_by Send true g false r x a b = refl
len_by Send false g l r x a b = refl
len_by Rank true g l r x a b = refl
len_by Rank false true l r x a b = refl
len_by Rank false false l r x a b = refl

pub written_len : (h : Header) (sweep : Sweep) (p : Standing) (r a b : Record)
    → length (option_to_list (written_after h sweep p r a b).0
    ++ option_to_list (written_after h sweep p r a b).1) ≡ written_at sweep r
written_len h Recall p r a b = refl
written_len h Find p r a b = refl
written_len h Send p r a b =
    len_by Send (is_edge r) (is_gate r) (leads_to_gate r) r (end_edge h p.rank r) r r
written_len h Rank p r a b =
    len_by Rank (is_edge r) (is_gate r) true r r (operand_edge a r.c) (operand_edge b r.c)

count_most : (sweep : Sweep) (e g l : Bool) → count_as sweep e g l ≤ 2
count_most Recall e g l = omega arith
count_most Find e g l = omega arith
count_most Send true g true = omega arith
count_most Send true g false = omega arith
count_most Send false g l = omega arith
count_most Rank true g l = omega arith
count_most Rank false true l = omega arith
count_most Rank false false l = omega arith

pub written_most_at : (sweep : Sweep) (r : Record) → written_at sweep r ≤ 2
written_most_at Recall r = omega arith
written_most_at Find r = omega arith
written_most_at Send r = count_most Send (is_edge r) (is_gate r) (leads_to_gate r)
written_most_at Rank r = count_most Rank (is_edge r) (is_gate r) true

calls_by : (e l k : Bool) → (if e then (if l then 1 else 0) else (if k then 2 else 0)) ≤ 2
calls_by true true k = omega arith
calls_by true false k = omega arith
calls_by false l true = omega arith
calls_by false l false = omega arith

pub calls_most_at : (sweep : Sweep) (r : Record) → calls_at sweep r ≤ 2
calls_most_at sweep r = calls_by (is_edge r) (is_told sweep r) (takes_notes sweep r)

-- Records that are met one after another.
pub calls_most : (sweep : Sweep) (rs : List Record) → sweep_calls sweep rs ≤ 2 * length rs
calls_most sweep [] = omega arith
calls_most sweep (r ∷ rs) =
    let one = calls_most_at sweep r in let rest = calls_most sweep rs in omega (arith, one, rest)

pub written_most : (sweep : Sweep) (rs : List Record) → sweep_written sweep rs ≤ 2 * length rs
written_most sweep [] = omega arith
written_most sweep (r ∷ rs) =
    let one = written_most_at sweep r in
    let rest = written_most sweep rs in omega (arith, one, rest)

pub calls_then : (sweep : Sweep) (rs qs : List Record)
    → sweep_calls sweep (rs ++ qs) ≡ sweep_calls sweep rs + sweep_calls sweep qs
calls_then sweep [] qs = omega arith
calls_then sweep (r ∷ rs) qs = let rest = calls_then sweep rs qs in omega (arith, rest)

pub written_then : (sweep : Sweep) (rs qs : List Record)
    → sweep_written sweep (rs ++ qs) ≡ sweep_written sweep rs + sweep_written sweep qs
written_then sweep [] qs = omega arith
written_then sweep (r ∷ rs) qs = let rest = written_then sweep rs qs in omega (arith, rest)

pub meet_then : (h : Header) (sweep : Sweep) (n : ℕ) (rs qs : List Record) (m : Moment)
    → meet_all h sweep n (rs ++ qs) m
    ≡ meet_all h sweep (n + length rs) qs (meet_all h sweep n rs m)
meet_then h sweep n [] qs m =
    ap (λ k. meet_all h sweep k qs m) {x = n} {y = n + 0} (omega arith)
meet_then h sweep n (r ∷ rs) qs m =
    let e : n + 1 + length rs ≡ n + length (r ∷ rs) = omega arith in
    meet_then h sweep (n + 1) rs qs (meet h sweep n r m)
    ∙ ap (λ k. meet_all h sweep k qs (meet_all h sweep (n + 1) rs (meet h sweep n r m))) e

-- The numbers in the queue are below that of the next record.
number_is : (sweep : Sweep) (p : Standing) (r : Record) (n : ℕ)
    → (note sweep p.found p.rank r n).b ≡ n
number_is Recall p r n = refl
number_is Find p r n = refl
number_is Send p r n = refl
number_is Rank p r n = refl

pub note_lacks : (sweep : Sweep) (p : Standing) (r : Record) (n : ℕ) (ms : List Record)
    → AllBelow n ms → Lacks (note sweep p.found p.rank r n) ms
note_lacks sweep p r n ms a =
    below_lacks (note sweep p.found p.rank r n) ms (rw (number_is sweep p r n) a)

items_below_by : (e l k : Bool) (n : ℕ) (x : Record) (ms : List Record) → x.b ≡ n → AllBelow n ms
    → AllBelow (n + 1) (if e then (if l then with_record x ms else ms)
    else (if k then drop 2 ms else ms))
items_below_by true true k n x ms b a =
    below_with (n + 1) x ms (omega (arith, b)) (below_more n (n + 1) ms (omega arith) a)
items_below_by true false k n x ms b a = below_more n (n + 1) ms (omega arith) a
items_below_by false l true n x ms b a =
    below_drop (n + 1) 2 ms (below_more n (n + 1) ms (omega arith) a)
items_below_by false l false n x ms b a = below_more n (n + 1) ms (omega arith) a

pub meet_below : (h : Header) (sweep : Sweep) (n : ℕ) (r : Record) (m : Moment)
    → AllBelow n m.items → AllBelow (n + 1) (meet h sweep n r m).items
meet_below h sweep n r m a =
    rw (meet_is h sweep n r m (get_or m.items 0 zero_record) (get_or m.items 1 zero_record)
    (λ t. refl) (λ t. refl))
    (items_below_by (is_edge r) (is_told sweep r) (takes_notes sweep r) n
    (note sweep m.standing.found m.standing.rank r n) m.items (number_is sweep m.standing r n) a)

pub meet_all_below : (h : Header) (sweep : Sweep) (n : ℕ) (rs : List Record) (m : Moment)
    → AllBelow n m.items → AllBelow (n + length rs) (meet_all h sweep n rs m).items
meet_all_below h sweep n [] m a = below_more n (n + 0) m.items (omega arith) a
meet_all_below h sweep n (r ∷ rs) m a =
    let after = meet h sweep n r m in
    below_more (n + 1 + length rs) (n + length (r ∷ rs))
    (meet_all h sweep (n + 1) rs after).items (omega arith)
    (meet_all_below h sweep (n + 1) rs after (meet_below h sweep n r m a))
