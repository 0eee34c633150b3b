-- A node that is filled with the subtrees of a list, one after another.
use Rattle.std.proofs.Common.{◌≡◌, true, ℕ, zero, suc, ◌+◌, ◌-◌, ◌<◌, ◌≤◌, List, [], ◌∷◌, ◌++◌, get_or, length, refl, sym, ap, ◌∙◌, subst, arith, IsTrue}
use Rattle.std.specs.Prelude.{insert}
use Rattle.std.proofs.lemmas.List.{length-append}
use Rattle.em_record.specs.Order.{is_below}
use Rattle.em_record.specs.declared.record.Record.{Record}
use Rattle.em_space.specs.Rig.{RigState, Sound}
use Rattle.em_space.specs.declared.fault.EmFault.{EmFault}
use Rattle.em_space.specs.declared.fault.EmFault.TheVariants.{Damaged}
use Rattle.em_chain.specs.Reader.{IsReader}
use Rattle.em_chain.specs.declared.reader.Reader.{Reader}
use Rattle.em_node.specs.declared.entry.Entry.{Entry}
use Rattle.em_node.specs.Node.{Is, LowsRise, entries_of, level_of, no_entry}
use Rattle.em_node.proofs.Orders.{rises_append}
use Rattle.em_node.proofs.Seams.{entries_is, level_is}
use Rattle.em_tree_load.specs.AreaFills.{StopsTaken}
use Rattle.em_tree_raise.specs.Subtrees.{AddedSubtree, FilledNode, HasLeft, TakesFirstOf, TakesSubtrees}
use Rattle.em_tree_raise.proofs.ReadSubtrees.{damaged_after, take_stops, takes_none, takes_then}

-- an entry that is put in after all
pub insert_last : (es : List Entry) (n : ℕ) (e : Entry) → length es ≡ n → insert es n e ≡ es ++ (e ∷ [])
insert_last [] zero e l = refl
insert_last [] (suc n) e l = absurd (omega arith)
insert_last (f ∷ fs) zero e l = absurd (omega arith)
insert_last (f ∷ fs) (suc n) e l =
    ap (λ (xs : List Entry). f ∷ xs) (insert_last fs n e (omega arith))

-- low keys after others rise,
pub rises_after : (es fs : List Entry) → LowsRise (es ++ fs) → LowsRise fs
rises_after [] fs r = r
rises_after (e ∷ es) fs r = rises_after es fs r.1

-- and the first of them is above the last one before.
pub last_below : (es : List Entry) (n : ℕ) (f : Entry) (fs : List Entry) → n + 1 ≡ length es
    → LowsRise (es ++ f ∷ fs) → is_below (get_or es n no_entry).low f.low ≡ true
last_below [] n f fs e r = absurd (omega arith)
last_below (x ∷ []) zero f fs e r = r.0.0
last_below (x ∷ []) (suc n) f fs e r = absurd (omega arith)
last_below (x ∷ y ∷ es) zero f fs e r = absurd (omega arith)
last_below (x ∷ y ∷ es) (suc n) f fs e r = last_below (y ∷ es) n f fs (omega arith) r.1

-- An entry may be put in after those whose last low key is below its own.
pub rises_last : (es : List Entry) (n : ℕ) (e : Entry) → length es ≡ n → LowsRise es
    → (0 < n → is_below (get_or es (n - 1) no_entry).low e.low ≡ true) → LowsRise (insert es n e)
rises_last es n e l r below =
    subst (λ (xs : List Entry). LowsRise xs) (sym (insert_last es n e l))
    (rises_append es e [] r (tt, tt) (λ some.
    subst (λ (m : ℕ). is_below (get_or es (m - 1) no_entry).low e.low ≡ true) (sym l)
    (below (omega (arith, l, some)))))

-- What is left to a reader after some subtrees were taken, of m and n more;
pub left_after : {s t : RigState} {r q : Reader} {es before : List Entry} (m n : ℕ)
    → (h : HasLeft s r before (m + n)) → TakesFirstOf t q es h.entries → length es ≡ m → HasLeft t q es n
left_after {es = es} {before = before} m n h x l =
    let many = h.many in
    let e = ap (λ (xs : List Entry). length xs) x.is in
    let k = length-append es x.rest in
    record {
      entries = x.rest;
      leaves = x.leaves;
      rises = subst (λ (xs : List Entry). LowsRise xs) x.is (rises_after before h.entries h.rises);
      many = omega (arith, many, e, k, l);
    }

-- the same, whatever came before,
pub left_alone : {s : RigState} {r : Reader} {before : List Entry} {n : ℕ} → HasLeft s r before n
    → HasLeft s r [] n
left_alone {before = before} h = record {
  entries = h.entries;
  leaves = h.leaves;
  rises = rises_after before h.entries h.rises;
  many = h.many;
}

-- and if fewer are asked.
pub left_fewer : {s : RigState} {r : Reader} {before : List Entry} {n : ℕ} (m : ℕ) → m ≤ n
    → HasLeft s r before n → HasLeft s r before m
left_fewer m l h = record {
  entries = h.entries;
  leaves = h.leaves;
  rises = h.rises;
  many = let many = h.many in omega (arith, many, l);
}

-- The next subtree of a list that rises is above those before it.
pub next_above : {s t : RigState} {r q : Reader} {before : List Entry} {e : Entry} (n : ℕ)
    → HasLeft s r before 1 → TakesSubtrees s t r q (e ∷ []) → length before ≡ n → IsTrue s.device.told → 0 < n
    → is_below (get_or before (n - 1) no_entry).low e.low ≡ true
next_above {before = before} {e = e} n h x l z some =
    let o = x.takes z h.entries h.leaves in
    last_below before (n - 1) e o.rest (omega (arith, l, some))
    (subst (λ (xs : List Entry). LowsRise (before ++ xs)) o.is h.rises)

-- Its entry is the last of a node.
pub added : {s t : RigState} {r q : Reader} {e : Entry} (old new : List Record) (n : ℕ)
    → TakesSubtrees s t r q (e ∷ []) → length (entries_of old) ≡ n
    → Is new (level_of old) (insert (entries_of old) n e) → AddedSubtree s t r q old new
added {e = e} old new n x l is = record {
  entry = e;
  read = x;
  is = subst (λ (xs : List Entry). Is new (level_of old) xs) (insert_last (entries_of old) n e l) is;
}

-- A node of no subtree,
pub filled_none : {s : RigState} {r : Reader} {level : ℕ} {frame : List Record} → Sound s → IsReader s r
    → r.taking ≡ true → Is frame level [] → FilledNode s s r r level 0 frame
filled_none {s} {r} {level} {frame} h i e is =
    let es : entries_of frame ≡ [] = entries_is frame level [] is in
    record {
      is = subst (λ (xs : List Entry). Is frame level xs) (sym es) is;
      size = ap (λ (xs : List Entry). length xs) es;
      read = subst (λ (xs : List Entry). TakesSubtrees s s r r xs) (sym es) (takes_none h i e);
    }

-- and of one more.
pub filled_next : {s t u : RigState} {r q p : Reader} {level : ℕ} {old new : List Record} (n : ℕ)
    → FilledNode s t r q level n old → AddedSubtree t u q p old new → FilledNode s u r p level (n + 1) new
filled_next {s} {t} {u} {r} {q} {p} {level} {old} {new} n h g =
    let es : entries_of new ≡ entries_of old ++ g.entry ∷ [] =
    entries_is new (level_of old) (entries_of old ++ g.entry ∷ []) g.is in
    let l : level_of old ≡ level = level_is old level (entries_of old) h.is in
    let a = ap (λ (xs : List Entry). length xs) es in
    let b = length-append (entries_of old) (g.entry ∷ []) in
    let k = h.size in
    record {
      is = subst (λ (xs : List Entry). Is new level xs) (sym es)
          (subst (λ (m : ℕ). Is new m (entries_of old ++ g.entry ∷ [])) l g.is);
      size = omega (arith, a, b, k);
      read = subst (λ (xs : List Entry). TakesSubtrees s u r p xs) (sym es) (takes_then h.read g.read);
    }

-- What is left after n of more subtrees.
pub filled_left : {s t : RigState} {r q : Reader} {level : ℕ} {frame : List Record} (n count : ℕ)
    → n < count → FilledNode s t r q level n frame
    → (IsTrue s.device.told → HasLeft s r [] count) → IsTrue t.device.told → HasLeft t q (entries_of frame) 1
filled_left n count l x h y =
    let z = sym x.read.read.runs.session.touches.told ∙ y in
    let before = left_fewer (n + 1) (omega (arith, l)) (h z) in
    left_after n 1 before (x.read.takes z before.entries before.leaves) x.size

-- A subtree whose low key isn't above can't be put in.
pub unrisen : {s t : RigState} {r q : Reader} {before : List Entry} {e : Entry} (n : ℕ)
    → (IsTrue s.device.told → HasLeft s r before 1) → TakesSubtrees s t r q (e ∷ []) → length before ≡ n
    → ((0 < n → is_below (get_or before (n - 1) no_entry).low e.low ≡ true) → ⊥) → StopsTaken s t r (Damaged 0)
unrisen n h x l never = damaged_after x.read (λ z. never (λ some. next_above n (h z) x l z some))

-- A later read gave up.
pub filled_stops : {s t u : RigState} {r q : Reader} {level n : ℕ} {frame : List Record} {e : EmFault}
    → FilledNode s t r q level n frame → StopsTaken t u q e → StopsTaken s u r e
filled_stops h g = take_stops h.read.read g
