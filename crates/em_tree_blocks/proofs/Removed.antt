-- The first entry of a node is removed, read from the device.
use Rattle.std.proofs.Common.{◌≡◌, ℕ, zero, suc, ◌<◌, List, [], ◌∷◌, length, get_or, drop, refl, sym, ap, ◌∙◌, subst, IsTrue, arith}
use Rattle.std.specs.Prelude.{Option}
use Rattle.std.proofs.Math.Seq.{drop-cons}
use Rattle.em_record.specs.declared.record.Record.{Record}
use Rattle.em_space.specs.Rig.{RigState, Touches}
use Rattle.em_chain.specs.Chain.{chain_items}
use Rattle.em_node.specs.declared.entry.Entry.{Entry}
use Rattle.em_node.specs.Node.{no_entry}
use Rattle.em_settle.specs.declared.step.Step.{Step}
use Rattle.em_settle.specs.States.{Stored}
use Rattle.em_settle.specs.Laws.{IsSettle}
use Rattle.em_tree_model.specs.Tree.{Tree}
use Rattle.em_tree_model.specs.Tree.Tree.{end, entry}
use Rattle.em_tree_model.specs.Places.{Place, put_at, place_in}
use Rattle.em_tree_model.specs.Places.Place.{here, under, past}
use Rattle.em_tree_model.specs.Meaning.{Represents}
use Rattle.em_tree_model.proofs.RowPlaces.{put_in}
use Rattle.em_tree_model.proofs.Splits.{first_removed}
use Rattle.em_tree_model.proofs.Whole.{holds_keep}
use Rattle.em_tree_blocks.specs.Node.{buffer_of, linked_block}
use Rattle.em_tree_blocks.specs.Reading.{entries_at, row_of, tree_at, IsTreeAt}
use Rattle.em_tree_blocks.specs.Paths.{IsPath, node_on, row_place, place_on, child_at}
use Rattle.em_tree_blocks.specs.Effects.{IsEntryAt, entry_on, row_from, Changes, IsClear}
use Rattle.em_tree_blocks.proofs.Whole.{entry_reads, changed_reads}

-- a place that ends in the child of an entry
pub record EndsUnder (p : Place) : Type 0 where
  pub above : Place
  pub low : Record
  pub buffer : List Record
  pub rest : Tree
  pub is : p ≡ place_in above (under low buffer rest here)

under_here : (low : Record) (b : List Record) (r : Tree) → EndsUnder (under low b r here)
under_here low b r = record { above = here; low = low; buffer = b; rest = r; is = refl }

under_more : (low : Record) (b : List Record) (r : Tree) (p : Place) → EndsUnder p
    → EndsUnder (under low b r p)
under_more low b r p e = record {
  above = under low b r e.above;
  low = e.low;
  buffer = e.buffer;
  rest = e.rest;
  is = ap (under low b r) e.is;
}

past_more : (low : Record) (b : List Record) (c : Tree) (p : Place) → EndsUnder p
    → EndsUnder (past low b c p)
past_more low b c p e = record {
  above = past low b c e.above;
  low = e.low;
  buffer = e.buffer;
  rest = e.rest;
  is = ap (past low b c) e.is;
}

row_ends : (child : ℕ → Tree) (s : RigState) (es : List Entry) (i : ℕ) (p : Place) → i < length es
    → ((low : Record) (b : List Record) (r : Tree) → EndsUnder (under low b r p))
    → EndsUnder (row_place child s es i p)
row_ends child s [] i p n h = absurd (omega arith)
row_ends child s (e ∷ es) zero p n h = h e.low (chain_items s (buffer_of e)) (row_of child s es)
row_ends child s (e ∷ es) (suc i) p n h =
    past_more e.low (chain_items s (buffer_of e)) (child (linked_block e.child)) (row_place child s es i p)
    (row_ends child s es i p (omega arith) h)

-- The place of a path, under an entry, ends in the child of an entry.
pub path_ends : (path : List ℕ) (l : ℕ) (s : RigState) (k : ℕ) → IsPath path l s k
    → (low : Record) (b : List Record) (r : Tree) → EndsUnder (under low b r (place_on path l s k))
path_ends [] l s k n low b r = under_here low b r
path_ends (i ∷ is) zero s k n low b r = absurd n
path_ends (i ∷ is) (suc l) s k n low b r =
    let c = child_at i (entries_at s k) in
    under_more low b r (row_place (tree_at l s) s (entries_at s k) i (place_on is l s c))
    (row_ends (tree_at l s) s (entries_at s k) i (place_on is l s c) n.0 (path_ends is l s c n.1))

-- If a call removed the first entry of a node, which was clear and not the last, the tree holds what
-- it held.
pub holds_removed : (key : Record → Record) (step : Option Record → Record → Step)
    (IsOp IsKept : Record → Type 0) (laws : IsSettle key step IsOp IsKept) (contents : Stored)
    (answers given : List Record) (held : List ℕ) (s t : RigState) (top root : ℕ) (path : List ℕ) (l : ℕ)
    (low : Record) (b : List Record) → Touches held s t → IsTrue s.device.told → IsTreeAt top s root
    → IsEntryAt top s root path l 0 → 1 < length (entries_at s (node_on path top s root))
    → Changes held s t top root path l 0 [] → IsClear l s (entry_on top s root path 0)
    → Represents key step IsOp IsKept contents answers given (entry low b (tree_at top s root) end)
    → Represents key step IsOp IsKept contents answers given (entry low b (tree_at top t root) end)
holds_removed key step IsOp IsKept laws contents answers given held s t top root path l low b h told is a more m clear w =
    let j = node_on path top s root in
    let es = entries_at s j in
    let e = entry_on top s root path 0 in
    let x = get_or es 1 no_entry in
    let c = tree_at l s (linked_block e.child) in
    let bx = chain_items s (buffer_of x) in
    let cx = tree_at l s (linked_block x.child) in
    let rx = row_of (tree_at l s) s (drop 2 es) in
    let o = place_on path top s root in
    let q = path_ends path top s root a.on_path low b end in
    let both = entry e.low [] c (entry x.low bx cx rx) in
    let one = entry x.low bx cx rx in
    let P : Tree → Type 0 = λ z. Represents key step IsOp IsKept contents answers given z in
    let second : row_from l s j 1 ≡ one = ap (row_of (tree_at l s) s) (drop-cons es 1 no_entry more) in
    let at : (z : Tree) → entry low b (put_at o z) end ≡ put_at q.above (entry q.low q.buffer z q.rest) =
    λ z. ap (λ p. put_at p z) q.is ∙ put_in q.above (under q.low q.buffer q.rest here) z in
    let old : tree_at top s root ≡ put_at o both = entry_reads top s root path l 0 a
    ∙ (put_in o here (entry e.low (chain_items s (buffer_of e)) c (row_from l s j 1))
    ∙ ap (put_at o) (ap (λ ys. entry e.low ys c (row_from l s j 1)) clear.buffer ∙ ap (entry e.low [] c) second)) in
    let new : tree_at top t root ≡ put_at o one = changed_reads held s t top root path l 0 [] h told is a m
    ∙ (put_in o here (row_from l s j 1) ∙ ap (put_at o) second) in
    let before : P (put_at q.above (entry q.low q.buffer both q.rest)) =
    subst P (ap (λ z. entry low b z end) old ∙ at both) w in
    subst P (sym (ap (λ z. entry low b z end) new ∙ at one))
    (holds_keep key step IsOp IsKept laws contents answers given q.above (entry q.low q.buffer both q.rest)
    (entry q.low q.buffer one q.rest)
    (first_removed key q.low q.buffer e.low c x.low bx cx rx q.rest clear.stored clear.waiting) before)
