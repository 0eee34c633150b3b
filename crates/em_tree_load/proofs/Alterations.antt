-- A node over a leaf that was loaded, and the block of a new leaf: what is stored.
use Rattle.std.proofs.Common.{◌≡◌, ◌⊎◌, ℕ, zero, suc, ◌+◌, ◌-◌, ◌*◌, ◌^◌, ◌<◌, ◌≤◌, List, [], ◌∷◌, drop, get_or, length, set, refl, sym, ap, ◌∙◌, subst, arith, IsTrue, None, Result, Ok, Err, IsErrAnd, inl, inr, ⊎_elim, true}
use Rattle.std.specs.Prelude.{IfErr, OnOk, max}
use Rattle.std.proofs.lemmas.Bool.{cases_lt}
use Rattle.std.proofs.lemmas.List.{length-set}
use Rattle.em_record.specs.Count.{next_count}
use Rattle.em_record.specs.Order.{is_below}
use Rattle.em_record.specs.Shape.{IsShape, ShapeNumbers, fan_of}
use Rattle.em_record.specs.declared.record.Record.{Record}
use Rattle.em_space.specs.Queue.{Pays}
use Rattle.em_space.specs.Rig.{RigState, Sound, Allocates, Cause, DeviceCause, Goes, IfFull, InUse, MovesToAlloc, Owes, SameBlocks, Transfers}
use Rattle.em_space.specs.declared.fault.EmFault.{EmFault}
use Rattle.em_space.specs.declared.fault.EmFault.TheVariants.{DeviceFault, Full, Damaged}
use Rattle.em_space.proofs.Ledgers.{full_never}
use Rattle.em_space.proofs.Paying.{pays_kept, pays_of_owes, pays_then}
use Rattle.em_space.proofs.Sessions.{session_allocates, session_trans}
use Rattle.em_space.proofs.Steps.{block_cause, cause_after, device_block_cause, same_frames_then}
use Rattle.em_space.proofs.Within.{goes_within, within_same}
use Rattle.em_chain.specs.Chain.{IsChain, chain_blocks, chain_contents, empty_chain, payload_in, word_list}
use Rattle.em_chain.specs.Counts.{ceiling}
use Rattle.em_chain.specs.List.{last_link}
use Rattle.em_chain.specs.declared.chain.Chain.{Chain}
use Rattle.em_chain.proofs.Keeps.{payload_kept}
use Rattle.em_chain.proofs.Laws.{link_within, tail_within}
use Rattle.em_node.specs.declared.entry.Entry.{Entry}
use Rattle.em_node.specs.Node.{AreLinked, Is, IsLimited, IsNodeBlock, entries_of, level_of, no_entry}
use Rattle.em_node.proofs.Seams.{entries_is, level_is}
use Rattle.em_balance.specs.Node.{entry_to}
use Rattle.em_balance.proofs.Moves.{alloc_moves}
use Rattle.em_balance.proofs.Nodes.{entries_read, fresh_entry, fresh_links, node_at}
use Rattle.em_balance.proofs.Stored.{stored_at}
use Rattle.em_empty.specs.Node.{with_buffer}
use Rattle.em_tree_model.specs.Ranges.{Under}
use Rattle.em_tree_walk.specs.Descents.{end_before}
use Rattle.em_tree_walk.specs.Inserted.{CanFollow, with_entry_after}
use Rattle.em_tree_walk.proofs.Insertions.{length_after, linked_after}
use Rattle.em_tree_load.specs.LeafChanges.{StopsNewLeaf, StoredNewLeaf, StoresEntries, StoresNewLeaf, divided_at, rebuffered_at}
use Rattle.em_tree_load.specs.Leaves.{StoredLeaf, StopsLeaf}
use Rattle.em_tree_load.specs.Peaks.{Peaks}
use Rattle.em_tree_load.proofs.Peaks.{peaks_same}

-- The links of a chain lead to blocks of the device.
tail_low : (s : RigState) (c : Chain) (n : ℕ) → c.blocks ≡ n → Sound s → IsTrue s.device.told
    → IsChain s c → c.tail ≤ s.blocks
tail_low s c zero e h z i =
    let t : last_link (chain_blocks s c) ≡ c.tail = (i.told z).list.tail_is in
    let none : chain_blocks s c ≡ [] = rw e refl in
    let t2 : 0 ≡ c.tail = sym (ap last_link none) ∙ t in
    omega (arith, t2)
tail_low s c (suc n) e h z i = (tail_within s c h i z (omega (arith, e))).1

head_low : (s : RigState) (c : Chain) → Sound s → IsTrue s.device.told → IsChain s c
    → c.head ≤ s.blocks
head_low s c h z i =
    link_within s (payload_in s) c.head (chain_blocks s c) (chain_contents s c) h
    (i.told z).list.run (i.told z).holds.in_use

-- Entries of which one has another buffer
linked_buffer : (s : RigState) (c : Chain) (es : List Entry) (i : ℕ) → c.head ≤ s.blocks
    → c.tail ≤ s.blocks → AreLinked s.blocks es → AreLinked s.blocks (rebuffered_at i c es)
linked_buffer s c [] i h t a = tt
linked_buffer s c (e ∷ es) zero h t a = (
  record {
    child_some = a.0.child_some;
    child_most = a.0.child_most;
    head_most = h;
    tail_most = t;
  },
  a.1,
)
linked_buffer s c (e ∷ es) (suc i) h t a = (a.0, linked_buffer s c es i h t a.1)

-- lead on to the same low keys.
drop_set : (i : ℕ) (es : List Entry) (f : Entry) → drop (suc i) (set es i f) ≡ drop (suc i) es
drop_set i [] f = refl
drop_set zero (e ∷ es) f = refl
drop_set (suc i) (e ∷ es) f = drop_set i es f

low_set : (i : ℕ) (es : List Entry) (c : Chain) → (get_or (rebuffered_at i c es) i no_entry).low
    ≡ (get_or es i no_entry).low
low_set i [] c = refl
low_set zero (e ∷ es) c = refl
low_set (suc i) (e ∷ es) c = low_set i es c

pub follow_set : (i : ℕ) (low : Record) (es : List Entry) (c : Chain) → CanFollow i low es
    → CanFollow i low (rebuffered_at i c es)
follow_set i low es c f =
    let P : Record → Type 0 = λ k. is_below k low ≡ true in
    let Q : List Entry → Type 0 = λ us. Under (end_before None us) low in
    record {
      over = subst P (sym (low_set i es c)) f.over;
      before = subst Q (sym (drop_set i es (with_buffer (get_or es i no_entry) c))) f.before;
    }

-- The same of a node's block.
pub follow_block : {d : List Record} {l : ℕ} (b : List Record) (i : ℕ) (low : Record) (c : Chain)
    → Is d l (rebuffered_at i c (entries_of b)) → CanFollow i low (entries_of b)
    → CanFollow i low (entries_of d)
follow_block {d} {l} b i low c h f =
    let P : List Entry → Type 0 = λ es. CanFollow i low es in
    subst P (sym (entries_is d l (rebuffered_at i c (entries_of b)) h))
    (follow_set i low (entries_of b) c f)

pub count_block : {d : List Record} {l : ℕ} (b : List Record) (i : ℕ) (c : Chain)
    → Is d l (rebuffered_at i c (entries_of b)) → length (entries_of d) ≡ length (entries_of b)
count_block {d} {l} b i c h =
    ap length (entries_is d l (rebuffered_at i c (entries_of b)) h)
    ∙ length-set (entries_of b) i (with_buffer (get_or (entries_of b) i no_entry) c)

-- the node with an entry more
pub divided_is : {d x : List Record} (b : List Record) (i : ℕ) (low : Record) (new : ℕ) (n : Chain)
    (ws : List ℕ) → n ≡ empty_chain → ws ≡ word_list n
    → Is d (level_of b) (rebuffered_at i n (entries_of b))
    → Is x (level_of d) (with_entry_after i (record { low = low; child = new + 1; buffer = ws })
    (entries_of d))
    → Is x (level_of b) (divided_at i low new (entries_of b))
divided_is {d} {x} b i low new n ws none words h g =
    let es = rebuffered_at i empty_chain (entries_of b) in
    let C : Chain → Type 0 = λ c. Is d (level_of b) (rebuffered_at i c (entries_of b)) in
    let k = subst C none h in
    let L : ℕ → Type 0 = λ l. Is x l (divided_at i low new (entries_of b)) in
    let E : List Entry → Type 0 = λ fs. Is x (level_of d) (with_entry_after i (entry_to low new) fs) in
    let N : List ℕ → Type 0 = λ us. Is x (level_of d)
    (with_entry_after i (record { low = low; child = new + 1; buffer = us }) (entries_of d)) in
    subst L (level_is d (level_of b) es k)
    (subst E (entries_is d (level_of b) es k) (subst N (words ∙ ap word_list none) g))

-- an entry with nothing in its buffer has words within their limits
pub limited_by : (low : Record) (child : ℕ) (n : Chain) (ws : List ℕ) → n ≡ empty_chain
    → ws ≡ word_list n → IsLimited (record { low = low; child = child; buffer = ws })
limited_by low child n ws none words =
    let P : List ℕ → Type 0 =
    λ us. IsLimited (record { low = low; child = child; buffer = us }) in
    subst P (sym (words ∙ ap word_list none)) (record {
      words = refl;
      count = omega arith;
      blocks = omega arith;
    })

-- A node that isn't full has room for an entry more.
pub room_for : (shape : ShapeNumbers) (n len : ℕ) → IsShape shape → n < 2 * fan_of shape
    → len ≡ shape.block → 2 + 3 * (n + 1) ≤ len
room_for shape n len h l e =
    let within = h.frames_within in
    let low = h.frames_low in
    omega arith

-- A node's block was stored, or couldn't be.
pub entries_stored : {T : Type 0} {s : RigState} {node level : ℕ} {d : List Record}
    {es : List Entry} (t : RigState) (result : Result T EmFault) → Sound s → InUse s node
    → Is d level es → length es ≤ 2 * fan_of s.pool.shape
    → (IsTrue s.device.told → AreLinked s.blocks es) → Goes (node ∷ []) s t → Transfers s t
    → OnOk result (t.device.contents ≡ set s.device.contents node d) → InUse t node
    → IfErr result (DeviceCause s t) → StoresEntries s t node level es result
entries_stored {T} {s} {node} {level} {d} {es} t (Ok x) sound u h few linked g m kept v c =
    let moves = m.moves in
    let block = λ (z : IsTrue s.device.told). stored_at t sound z u kept in
    record {
      moves = record {
        goes = g;
        same = m.blocks;
        moves = omega (arith, moves);
        moved = moves;
      };
      in_use = v;
      node_is = λ z. node_at s t g.touches.blocks g.touches.shape v (block z) h few (linked z);
      entries = λ z. entries_read t node (block z) h;
    }
entries_stored {T} {s} {node} t (Err fault) sound u h few linked g m kept v c =
    let moves = m.moves in
    record {
      moves = record {
        goes = g;
        same = m.blocks;
        moves = omega (arith, moves);
        moved = moves;
      };
      cause = device_block_cause s t fault c;
    }

-- With the rest of a buffer,
pub rest_stored : {T : Type 0} {s : RigState} {node : ℕ} {b d : List Record} (i : ℕ) (c : Chain)
    (t : RigState) (result : Result T EmFault) → Sound s → InUse s node
    → IsNodeBlock (2 * fan_of s.pool.shape) s.blocks b → IsChain s c
    → Is d (level_of b) (rebuffered_at i c (entries_of b)) → Goes (node ∷ []) s t → Transfers s t
    → OnOk result (t.device.contents ≡ set s.device.contents node d) → InUse t node
    → IfErr result (DeviceCause s t)
    → StoresEntries s t node (level_of b) (rebuffered_at i c (entries_of b)) result
rest_stored {T} {s} {node} {b} {d} i c t result sound u n is h g m kept v cause =
    let es = entries_of b in
    let len = length-set es i (with_buffer (get_or es i no_entry) c) in
    let few = n.few in
    entries_stored t result sound u h (omega (arith, len, few))
    (λ z. linked_buffer s c es i (head_low s c sound z is) (tail_low s c c.blocks refl sound z is)
    n.linked) g m kept v cause

-- or with an entry more.
pub two_stored : {T : Type 0} {s : RigState} {node : ℕ} {b d : List Record} (i : ℕ) (low : Record)
    (new : ℕ) (t : RigState) (result : Result T EmFault) → Sound s → InUse s node
    → IsNodeBlock (2 * fan_of s.pool.shape) s.blocks b → i < length (entries_of b)
    → length (entries_of b) < 2 * fan_of s.pool.shape → new < s.blocks
    → Is d (level_of b) (divided_at i low new (entries_of b)) → Goes (node ∷ []) s t → Transfers s t
    → OnOk result (t.device.contents ≡ set s.device.contents node d) → InUse t node
    → IfErr result (DeviceCause s t)
    → StoresEntries s t node (level_of b) (divided_at i low new (entries_of b)) result
two_stored {T} {s} {node} {b} {d} i low new t result sound u n one room below h g m kept v cause =
    let es = entries_of b in
    let fs = rebuffered_at i empty_chain es in
    let len = length-set es i (with_buffer (get_or es i no_entry) empty_chain) in
    let more = length_after fs i (entry_to low new) (omega (arith, len, one)) in
    entries_stored t result sound u h (omega (arith, len, more, room))
    (λ z. linked_after s.blocks fs i (entry_to low new)
    (linked_buffer s empty_chain es i (omega arith) (omega arith) n.linked)
    (fresh_links (fresh_entry low new s.blocks below))) g m kept v cause

-- one move, or the count stands at its end
one_move : (m n : ℕ) → n ≡ next_count m → (2 ^ 64 - 1 ≤ n) ⊎ (n ≡ m + 1)
one_move m n e = ⊎_elim (λ (l : n < 2 ^ 64 - 1). inr (omega (arith, e, l)))
    (λ (l : 2 ^ 64 - 1 ≤ n). inl l) (cases_lt n (2 ^ 64 - 1))

module _ {s a : RigState} {new : ℕ} (g : Goes [] s a) (given : Allocates s a new)
    (moves : MovesToAlloc s a) (owes : Owes 1 s a) (most : a.most ≡ max s.most a.used) where
  -- A block more is in use.
  new_peaks : {t : RigState} → SameBlocks a t → Peaks 1 s t
  new_peaks same =
      let taken = given.used in
      let used = same.used in
      let after = same.most in
      record { used = omega (arith, taken, used); most = omega (arith, taken, most, after) }

  -- A new block was stored as that of a leaf.
  pub new_stored : {t : RigState} (c : Chain) → StoredLeaf a t new c → StoredNewLeaf s t c new
  new_stored {t} c x =
      let first = alloc_moves s a moves in
      let later = x.moves.goes.touches.moves in
      let second = x.moves.moves in
      let same = x.moves.same.used in
      let payload : payload_in a ≡ payload_in s = payload_kept [] s a g.touches in
      let W : ℕ → Type 0 = λ p. c.blocks ≡ ceiling c.count p in
      let before : Pays 0 1 s a = pays_of_owes 1 0 1 owes (omega arith) in
      let after : Pays 1 0 a t = record {
        is = ⊎_elim (λ (l : 2 ^ 64 - 1 ≤ t.moves). inl l)
            (λ (l : t.moves ≡ a.moves + 1). inr (omega (arith, l, same)))
            (one_move a.moves t.moves x.moves.moved);
      } in
      record {
        runs = record {
          session = session_trans (session_allocates new g given) (record {
            sound = x.moves.goes.sound;
            touches = x.moves.goes.touches;
            within = within_same a (new ∷ []);
            holds = λ z. record { in_use = (x.in_use, tt); distinct = λ y. (tt, tt) };
          });
          frames = same_frames_then s.pool a.pool t.pool g.frames x.moves.goes.frames;
          pays = pays_then before after later;
          loses = λ z. let taken = given.used in omega (arith, taken, same);
        };
        below = (let b = given.below in let e = g.touches.blocks in omega (arith, b, e));
        used = same ∙ given.used;
        is = λ z w. record {
          in_use = x.in_use;
          head = x.head (g.touches.told ∙ z);
          chain = x.is (g.touches.told ∙ z) (subst W (sym payload) w);
        };
        moves = omega (arith, first, second);
        peaks = new_peaks x.moves.same;
      }

  -- It couldn't be stored.
  pub new_stops : {t : RigState} {fault : EmFault} → StopsLeaf a t new fault → StopsNewLeaf s t fault
  new_stops {t} {fault} x =
      let first = alloc_moves s a moves in
      let later = x.moves.goes.touches.moves in
      let second = x.moves.moves in
      let same = x.moves.same.used in
      let before : Pays 0 1 s a = pays_of_owes 1 0 1 owes (omega arith) in
      let after : Pays 1 1 a t = pays_kept 1 (omega (arith, same)) later in
      let w = session_allocates new g given in
      record {
        stops = record {
          goes = goes_within [] (new ∷ []) s a t g w.within x.moves.goes;
          pays = pays_then before after later;
          cause = cause_after [] s a t fault g.touches (block_cause a t fault x.cause);
        };
        full = full_never a t fault (s.blocks ≡ s.used) x.cause;
        moves = omega (arith, first, second);
        peaks = new_peaks x.moves.same;
      }

-- All blocks were in use.
full_before : (s a : RigState) (e : EmFault) → Cause s a e → a.used ≡ s.used → a.blocks ≡ s.blocks
    → IfFull e (λ _. s.blocks ≡ s.used)
full_before s a DeviceFault c u b = tt
full_before s a (Full used) c u b = sym b ∙ (sym c.1 ∙ u)
full_before s a (Damaged block) c u b = tt

-- No block could be taken.
pub unallotted : {s a : RigState} {fault : EmFault} → Goes [] s a → MovesToAlloc s a → Owes 1 s a
    → Cause s a fault → SameBlocks s a → StopsNewLeaf s a fault
unallotted {s} {a} {fault} g moves owes cause still =
    let first = alloc_moves s a moves in
    record {
      stops = record {
        goes = g;
        pays = pays_of_owes 1 0 1 owes (omega arith);
        cause = cause;
      };
      full = full_before s a fault cause still.used g.touches.blocks;
      moves = omega (arith, first);
      peaks = peaks_same 1 still;
    }

pub new_of : (s t : RigState) (c : Chain) (result : Result ℕ EmFault) (e : EmFault)
    → IsErrAnd result (λ m. m ≡ e) → StopsNewLeaf s t e → StoresNewLeaf s t c result
new_of s t c (Ok k) e h x = absurd h
new_of s t c (Err m) e h x = subst (λ (f : EmFault). StopsNewLeaf s t f) (sym h) x

-- the same room in another state
pub room_later : (n : ℕ) (a b : ShapeNumbers) → a ≡ b → n < 2 * fan_of a → n < 2 * fan_of b
room_later n a b e h = subst (λ (sh : ShapeNumbers). n < 2 * fan_of sh) e h
