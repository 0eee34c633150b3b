-- Nodes that stand over entries: beside other blocks, one after another, and one level over another.
use Rattle.std.proofs.Common.{◌≡◌, true, ℕ, zero, suc, ◌+◌, ◌*◌, ◌<◌, ◌≤◌, List, [], ◌∷◌, ◌++◌, get_or, length, refl, sym, ap, ◌∙◌, subst, arith, append_assoc, IsTrue}
use Rattle.std.proofs.lemmas.List.{append-nil, length-append}
use Rattle.em_record.specs.Order.{is_below}
use Rattle.em_record.specs.Shape.{fan_of}
use Rattle.em_record.specs.declared.record.Record.{Record}
use Rattle.em_space.specs.Free.{Off}
use Rattle.em_space.specs.Held.{Apart}
use Rattle.em_space.specs.Rig.{RigState, Touches}
use Rattle.em_chain.specs.Reader.{ReaderStays}
use Rattle.em_chain.specs.declared.reader.Reader.{Reader}
use Rattle.em_node.specs.declared.entry.Entry.{Entry}
use Rattle.em_node.specs.Node.{LowsAbove, LowsRise, entries_of, no_entry}
use Rattle.em_tree_blocks.specs.Node.{linked_block}
use Rattle.em_tree_blocks.specs.Reading.{entries_at}
use Rattle.em_tree_blocks.proofs.Frames.{block_same, node_stays}
use Rattle.em_tree_raise.specs.Levels.{StandAbove}
use Rattle.em_tree_raise.specs.Nodes.{StandOverNext}
use Rattle.em_tree_raise.specs.Raising.{AreFreshEntries, LeadToNodes, LeadsToNode, StandOver, blocks_under, entries_below, nodes_under}
use Rattle.em_tree_raise.proofs.BuiltNodes.{leaves_stay}
use Rattle.em_tree_raise.proofs.FilledNodes.{rises_after}
use Rattle.em_tree_raise.proofs.ReadSubtrees.{first_then}

-- Nodes stay, over calls on other blocks:
module _ (held : List ℕ) (s t : RigState) (h : Touches held s t) (told : IsTrue s.device.told) where
  node_same : (l : ℕ) (n : Entry) → Off (linked_block n.child) held → LeadsToNode s l n
      → entries_at t (linked_block n.child) ≡ entries_at s (linked_block n.child)
  node_same l n o x =
      ap (λ (b : List Record). entries_of b) (block_same held s t h told (linked_block n.child) x.node_is.in_use o)

  node_leads : (l : ℕ) (n : Entry) → Off (linked_block n.child) held → LeadsToNode s l n → LeadsToNode t l n
  node_leads l n o x =
      let k = linked_block n.child in
      let e = node_same l n o x in
      let size = ap (λ (es : List Entry). length es) e in
      let shape = ap fan_of h.shape in
      let many = x.many in
      let few = x.few in
      record {
        node_is = node_stays held s t h told l k o x.node_is;
        fresh = subst (λ (es : List Entry). AreFreshEntries t.blocks es) (sym e)
            (subst (λ (m : ℕ). AreFreshEntries m (entries_at s k)) (sym h.blocks) x.fresh);
        low_is = x.low_is ∙ ap (λ (es : List Entry). (get_or es 0 no_entry).low) (sym e);
        many = omega (arith, many, size, shape);
        few = omega (arith, few, size, shape);
      }

  pub nodes_lead : (l : ℕ) (ns : List Entry) → Apart (blocks_under ns) held → LeadToNodes s l ns
      → LeadToNodes t l ns
  nodes_lead l [] a x = tt
  nodes_lead l (n ∷ ns) a x = (node_leads l n a.0 x.0, nodes_lead l ns a.1 x.1)

  -- and so do their entries.
  pub below_stays : (l : ℕ) (ns : List Entry) → Apart (blocks_under ns) held → LeadToNodes s l ns
      → entries_below t ns ≡ entries_below s ns
  below_stays l [] a x = refl
  below_stays l (n ∷ ns) a x =
      let k = linked_block n.child in
      ap (λ (es : List Entry). entries_at t k ++ es) (below_stays l ns a.1 x.1)
      ∙ ap (λ (es : List Entry). es ++ entries_below s ns) (node_same l n a.0 x.0)

-- One list of nodes after another: their blocks,
pub under_append : (ns ms : List Entry) → blocks_under (ns ++ ms) ≡ blocks_under ns ++ blocks_under ms
under_append [] ms = refl
under_append (n ∷ ns) ms = ap (λ (ks : List ℕ). linked_block n.child ∷ ks) (under_append ns ms)

pub under_length : (ns : List Entry) → length (blocks_under ns) ≡ length ns
under_length [] = refl
under_length (n ∷ ns) = ap suc (under_length ns)

-- their entries,
pub below_append : (s : RigState) (ns ms : List Entry)
    → entries_below s (ns ++ ms) ≡ entries_below s ns ++ entries_below s ms
below_append s [] ms = refl
below_append s (n ∷ ns) ms =
    ap (λ (es : List Entry). entries_at s (linked_block n.child) ++ es) (below_append s ns ms)
    ∙ sym (append_assoc (entries_at s (linked_block n.child)) (entries_below s ns) (entries_below s ms))

-- and that they are nodes.
pub lead_append : (s : RigState) (l : ℕ) (ns ms : List Entry) → LeadToNodes s l ns → LeadToNodes s l ms
    → LeadToNodes s l (ns ++ ms)
lead_append s l [] ms a b = b
lead_append s l (n ∷ ns) ms a b = (a.0, lead_append s l ns ms a.1 b)

-- Nodes over the next subtrees: none,
pub over_none : (s : RigState) (r : Reader) (level : ℕ) → StandOverNext s s r r level 0 []
over_none s r level = record {
  leads = tt;
  size = refl;
  takes = λ fs l. record { rest = fs; is = refl; leaves = l };
}

-- calls on other blocks,
pub over_stays : {s t u : RigState} {r q : Reader} {level n : ℕ} {ns : List Entry} (held : List ℕ)
    → StandOverNext s t r q level n ns → Touches held t u → IsTrue t.device.told
    → Apart (blocks_under ns) held → ReaderStays t u q → StandOverNext s u r q level n ns
over_stays {t = t} {u = u} {level = level} {ns = ns} held h g z a st =
    let e = below_stays held t u g z level ns a h.leads in
    record {
      leads = nodes_lead held t u g z level ns a h.leads;
      size = ap (λ (es : List Entry). length es) e ∙ h.size;
      takes = λ fs l.
          let o = h.takes fs l in
          record {
            rest = o.rest;
            is = subst (λ (es : List Entry). fs ≡ es ++ o.rest) (sym e) o.is;
            leaves = leaves_stay st g.blocks z o.leaves;
          };
    }

-- and more of them.
pub over_then : {s t u : RigState} {r q p : Reader} {level m n : ℕ} {ns ms : List Entry} (held : List ℕ)
    → StandOverNext s t r q level m ns → StandOverNext t u q p level n ms → Touches held t u
    → IsTrue t.device.told → Apart (blocks_under ns) held → StandOverNext s u r p level (m + n) (ns ++ ms)
over_then {t = t} {u = u} {p = p} {level = level} {ns = ns} {ms = ms} held h g x z a =
    let e = below_stays held t u x z level ns a h.leads in
    let all = below_append u ns ms in
    let c = ap (λ (es : List Entry). length es) all in
    let d = length-append (entries_below u ns) (entries_below u ms) in
    let f = ap (λ (es : List Entry). length es) e in
    let hs = h.size in
    let gs = g.size in
    record {
      leads = lead_append u level ns ms (nodes_lead held t u x z level ns a h.leads) g.leads;
      size = omega (arith, c, d, f, hs, gs);
      takes = λ fs l.
          let o = h.takes fs l in
          let i = first_then o (g.takes o.rest o.leaves) in
          record {
            rest = i.rest;
            is = subst (λ (es : List Entry). fs ≡ es ++ i.rest)
                (sym (all ∙ ap (λ (es : List Entry). es ++ entries_below u ms) e)) i.is;
            leaves = i.leaves;
          };
    }

above_right : (low : Record) (xs ys : List Entry) → LowsAbove low (xs ++ ys) → LowsAbove low ys
above_right low [] ys a = a
above_right low (x ∷ xs) ys a = above_right low xs ys a.1

first_above : (low : Record) (xs ys : List Entry) (n : Entry) → 0 < length xs
    → n.low ≡ (get_or xs 0 no_entry).low → LowsAbove low (xs ++ ys) → is_below low n.low ≡ true
first_above low [] ys n some e a = absurd (omega arith)
first_above low (x ∷ xs) ys n some e a = ap (λ (k : Record). is_below low k) e ∙ a.0

first_rises : (xs ys : List Entry) (n : Entry) → 0 < length xs → n.low ≡ (get_or xs 0 no_entry).low
    → LowsRise (xs ++ ys) → LowsAbove n.low ys × LowsRise ys
first_rises [] ys n some e r = absurd (omega arith)
first_rises (x ∷ xs) ys n some e r = (
  subst (λ (k : Record). LowsAbove k ys) (sym e) (above_right x.low xs ys r.0),
  rises_after xs ys r.1,
)

-- If the entries of nodes rise, so do the entries that lead to these nodes.
nodes_above : (s : RigState) (l : ℕ) (low : Record) (ns : List Entry) → 0 < fan_of s.pool.shape
    → LeadToNodes s l ns → LowsAbove low (entries_below s ns) → LowsAbove low ns
nodes_above s l low [] f x a = tt
nodes_above s l low (n ∷ ns) f x a =
    let es = entries_at s (linked_block n.child) in
    let many = x.0.many in (
      first_above low es (entries_below s ns) n (omega (arith, f, many)) x.0.low_is a,
      nodes_above s l low ns f x.1 (above_right low es (entries_below s ns) a),
    )

pub nodes_rise : (s : RigState) (l : ℕ) (ns : List Entry) → 0 < fan_of s.pool.shape → LeadToNodes s l ns
    → LowsRise (entries_below s ns) → LowsRise ns
nodes_rise s l [] f x r = tt
nodes_rise s l (n ∷ ns) f x r =
    let es = entries_at s (linked_block n.child) in
    let many = x.0.many in
    let d = first_rises es (entries_below s ns) n (omega (arith, f, many)) x.0.low_is r in
    (nodes_above s l n.low ns f x.1 d.0, nodes_rise s l ns f x.1 d.1)

-- Over 2f entries or more there are two nodes or more.
pub several_nodes : (s : RigState) (l : ℕ) (ns : List Entry) → 0 < fan_of s.pool.shape → LeadToNodes s l ns
    → 2 * fan_of s.pool.shape ≤ length (entries_below s ns) → 1 < length ns
several_nodes s l [] f x many = absurd (omega (arith, f, many))
several_nodes s l (n ∷ []) f x many =
    let few = x.0.few in
    let e = length-append (entries_at s (linked_block n.child)) [] in
    absurd (omega (arith, few, many, e))
several_nodes s l (n ∷ m ∷ ns) f x many = omega arith

-- The nodes of all levels, and those of the lowest one.
pub under_split : (l d : ℕ) (s : RigState) (ns es : List Entry) → StandAbove l d s ns es
    → nodes_under (suc d) s ns ≡ nodes_under d s ns ++ blocks_under es
under_split l zero s ns es e = append-nil (blocks_under ns) ∙ ap blocks_under e
under_split l (suc d) s ns es x =
    ap (λ (ks : List ℕ). blocks_under ns ++ ks) (under_split l d s (entries_below s ns) es x.1)
    ∙ sym (append_assoc (blocks_under ns) (nodes_under d s (entries_below s ns)) (blocks_under es))

-- A level more below.
pub stands_down : (l d : ℕ) (s : RigState) (ns ms es : List Entry) → StandAbove (l + 1) d s ns ms
    → LeadToNodes s l ms → entries_below s ms ≡ es → StandAbove l (suc d) s ns es
stands_down l zero s ns ms es e x b =
    let leads : LeadToNodes s l ns = subst (λ (xs : List Entry). LeadToNodes s l xs) (sym e) x in
    let same : l ≡ l + 0 = omega arith in (
      subst (λ (m : ℕ). LeadToNodes s m ns) same leads,
      ap (λ (xs : List Entry). entries_below s xs) e ∙ b,
    )
stands_down l (suc d) s ns ms es h x b =
    let same : l + 1 + d ≡ l + suc d = omega arith in (
      subst (λ (m : ℕ). LeadToNodes s m ns) same h.0,
      stands_down l d s (entries_below s ns) ms es h.1 x b,
    )

-- From level 1 on they are all.
pub stands_over : (d : ℕ) (s : RigState) (ns es : List Entry) → StandAbove 1 d s ns es → StandOver d s ns es
stands_over zero s ns es e = e
stands_over (suc d) s ns es h =
    let same : 1 + d ≡ suc d = omega arith in (
      subst (λ (m : ℕ). LeadToNodes s m ns) same h.0,
      stands_over d s (entries_below s ns) es h.1,
    )
