-- Records and subtrees that are read from a list.
use Rattle.std.proofs.Common.{◌≡◌, true, ℕ, ◌+◌, ◌<◌, List, [], ◌∷◌, ◌++◌, length, refl, sym, ap, ◌∙◌, subst, arith, append_assoc, IsTrue}
use Rattle.em_record.specs.declared.record.Record.{Record}
use Rattle.em_space.specs.Rig.{RigState, Sound}
use Rattle.em_space.specs.declared.fault.EmFault.{EmFault}
use Rattle.em_space.specs.declared.fault.EmFault.TheVariants.{Damaged}
use Rattle.em_space.proofs.Runs.{runs_goes, stops_after, stops_wider}
use Rattle.em_space.proofs.Steps.{untold_by}
use Rattle.em_chain.specs.Reader.{IsReader, reader_items}
use Rattle.em_chain.specs.declared.reader.Reader.{Reader}
use Rattle.em_chain.proofs.Readers.{length_left}
use Rattle.em_node.specs.declared.entry.Entry.{Entry}
use Rattle.em_tree_blocks.specs.Node.{linked_block}
use Rattle.em_balance.specs.Node.{IsFreshEntry, entry_to}
use Rattle.em_balance.proofs.Nodes.{fresh_entry}
use Rattle.em_tree_load.specs.AreaFills.{StopsTaken, TakesRead}
use Rattle.em_tree_load.proofs.AreaReads.{read_none, read_then}
use Rattle.em_tree_raise.specs.Listing.{block_record, listed}
use Rattle.em_tree_raise.specs.Raising.{AreFreshEntries}
use Rattle.em_tree_raise.specs.Subtrees.{HasLeft, TakesFirstOf, TakesSubtrees}
use Rattle.em_tree_raise.proofs.Listings.{listed_length}

-- What was read isn't what a device that tells would have held.
pub damaged_after : {s t : RigState} {r q : Reader} {xs : List Record} → TakesRead s t r q xs
    → (IsTrue s.device.told → ⊥) → StopsTaken s t r (Damaged 0)
damaged_after {s} {t} {r} {q} h never =
    let c = h.runs.spends in
    let told = h.runs.session.touches.told in
    record {
      goes = runs_goes h.runs;
      halts = record {
        used = omega (arith, c.used, c.held);
        full = tt;
        most = c.most;
        moves = omega (arith, c.moves);
        later = c.later;
        pays = c.pays;
      };
      cause = (
        untold_by t.device.told (λ y. never (sym told ∙ y)),
        h.runs.session.sound.numbers.blocks_low,
      );
    }

-- A later read gave up.
pub take_stops : {s t u : RigState} {r q : Reader} {xs : List Record} {e : EmFault} → TakesRead s t r q xs
    → StopsTaken t u q e → StopsTaken s u r e
take_stops h g =
    let few = h.took.fewer in
    stops_wider (omega (arith, few)) (omega arith) (omega arith) (stops_after h.runs g)

-- The first subtree of a list, by its two records.
record FirstListed (low words : Record) (xs : List Record) (fs : List Entry) : Type 0 where
  pub first : Entry
  pub rest : List Entry
  pub is : fs ≡ first ∷ rest
  pub low_is : first.low ≡ low
  pub words_is : words ≡ block_record (linked_block first.child)
  pub items : xs ≡ listed rest

first_listed : (fs : List Entry) (low words : Record) (xs : List Record)
    → listed fs ≡ low ∷ words ∷ xs → FirstListed low words xs fs
first_listed [] low words xs e = absurd cc
first_listed (f ∷ fs) low words xs e = record {
  first = f;
  rest = fs;
  is = refl;
  low_is = cc;
  words_is = cc;
  items = cc;
}

second_listed : (fs : List Entry) (x : Record) (xs : List Record) → listed fs ≡ x ∷ xs → 0 < length xs
second_listed [] x xs e = absurd cc
second_listed (f ∷ fs) x xs e =
    let d : xs ≡ block_record (linked_block f.child) ∷ listed fs = cc in
    let n = ap (λ (ys : List Record). length ys) d in omega (arith, n)

-- an entry with nothing in its buffer, by its low key and its block
pub entry_is : {blocks : ℕ} (e : Entry) (low : Record) (k : ℕ) → IsFreshEntry blocks e → e.low ≡ low
    → k ≡ linked_block e.child → e ≡ entry_to low k
entry_is e low k h a b =
    let some = h.child_some in
    let d : e.child ≡ k + 1 = omega (arith, some, b) in
    let c = h.empty in
    λ i. record { low = a i; child = d i; buffer = c i }

-- Two records were read: those of the next subtree, if it is on a block of the device.
pub subtree_read : {s t : RigState} {r q : Reader} {low words : Record} → TakesRead s t r q (low ∷ words ∷ [])
    → words.a < s.blocks → TakesSubtrees s t r q (entry_to low words.a ∷ [])
subtree_read {s} {t} {r} {q} {low} {words} h fits = record {
  records = low ∷ words ∷ [];
  read = h;
  fresh = (fresh_entry low words.a s.blocks fits, tt);
  takes = λ z fs l.
      let x = first_listed fs low words (reader_items t q) (sym l.items ∙ h.took.items z) in
      let are : AreFreshEntries s.blocks (x.first ∷ x.rest) =
      subst (λ (es : List Entry). AreFreshEntries s.blocks es) x.is l.fresh in
      let k : words.a ≡ linked_block x.first.child = ap (λ (y : Record). y.a) x.words_is in
      let e : x.first ≡ entry_to low words.a = entry_is x.first low words.a are.0 x.low_is k in
      record {
        rest = x.rest;
        is = x.is ∙ ap (λ (f : Entry). f ∷ x.rest) e;
        leaves = record {
          items = x.items;
          fresh = subst (λ (n : ℕ). AreFreshEntries n x.rest) (sym h.runs.session.touches.blocks) are.1;
        };
      };
}

-- With a subtree left to it, a reader has a record left,
pub has_record : {s : RigState} {r : Reader} {before : List Entry} → IsReader s r → HasLeft s r before 1
    → IsTrue s.device.told → 0 < r.count
has_record {s} {r} i h z =
    let n = length_left s r i z in
    let m = ap (λ (xs : List Record). length xs) h.leaves.items in
    let l = listed_length h.entries in
    let many = h.many in
    omega (arith, n, m, l, many)

-- and a second one after it,
pub has_second : {s t : RigState} {r q : Reader} {before : List Entry} {low : Record}
    → TakesRead s t r q (low ∷ []) → HasLeft s r before 1 → IsTrue s.device.told → 0 < q.count
has_second {s} {t} {r} {q} {low = low} h l z =
    let some = second_listed l.entries low (reader_items t q) (sym l.leaves.items ∙ h.took.items z) in
    let n = length_left t q h.took.is (h.took.told ∙ z) in
    omega (arith, some, n)

-- which is a block of the device.
pub has_block : {s t : RigState} {r q : Reader} {before : List Entry} {low words : Record}
    → TakesRead s t r q (low ∷ words ∷ []) → HasLeft s r before 1 → IsTrue s.device.told → words.a < s.blocks
has_block {s} {t} {r} {q} {low = low} {words = words} h l z =
    let x = first_listed l.entries low words (reader_items t q) (sym l.leaves.items ∙ h.took.items z) in
    let are : AreFreshEntries s.blocks (x.first ∷ x.rest) =
    subst (λ (es : List Entry). AreFreshEntries s.blocks es) x.is l.leaves.fresh in
    let k : words.a ≡ linked_block x.first.child = ap (λ (y : Record). y.a) x.words_is in
    let some = are.0.child_some in
    let most = are.0.child_most in
    omega (arith, k, some, most)

pub fresh_append : (blocks : ℕ) (es fs : List Entry) → AreFreshEntries blocks es
    → AreFreshEntries blocks fs → AreFreshEntries blocks (es ++ fs)
fresh_append blocks [] fs a b = b
fresh_append blocks (e ∷ es) fs a b = (a.0, fresh_append blocks es fs a.1 b)

-- Some subtrees were taken, and then others.
pub first_then : {t u : RigState} {q p : Reader} {es fs gs : List Entry} → (h : TakesFirstOf t q es gs)
    → TakesFirstOf u p fs h.rest → TakesFirstOf u p (es ++ fs) gs
first_then {es = es} {fs = fs} h g = record {
  rest = g.rest;
  is = h.is ∙ ap (λ (xs : List Entry). es ++ xs) g.is ∙ sym (append_assoc es fs g.rest);
  leaves = g.leaves;
}

pub takes_then : {s t u : RigState} {r q p : Reader} {es fs : List Entry} → TakesSubtrees s t r q es
    → TakesSubtrees t u q p fs → TakesSubtrees s u r p (es ++ fs)
takes_then {s} {es = es} {fs = fs} h g =
    let told = h.read.runs.session.touches.told in
    let blocks = h.read.runs.session.touches.blocks in
    record {
      records = h.records ++ g.records;
      read = read_then h.records g.records h.read g.read;
      fresh = fresh_append s.blocks es fs h.fresh
          (subst (λ (n : ℕ). AreFreshEntries n fs) blocks g.fresh);
      takes = λ z gs l.
          let a = h.takes z gs l in first_then a (g.takes (told ∙ z) a.rest a.leaves);
    }

pub takes_none : {s : RigState} {r : Reader} → Sound s → IsReader s r → r.taking ≡ true
    → TakesSubtrees s s r r []
takes_none h i e = record {
  records = [];
  read = read_none e h i;
  fresh = tt;
  takes = λ z fs l. record { rest = fs; is = refl; leaves = l };
}
