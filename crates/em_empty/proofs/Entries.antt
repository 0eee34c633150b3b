-- The buffers of a node's entries, one after another.
use Rattle.std.proofs.Common.{◌≡◌, ℕ, zero, suc, ◌+◌, ◌<◌, ◌≤◌, ◌^◌, List, [], ◌∷◌, ◌++◌, length, get_or, take, drop, refl, sym, ap, ◌∙◌, arith, append_assoc, IsTrue, inl}
use Rattle.std.specs.List.{slice_index}
use Rattle.std.proofs.lemmas.List.{append-nil, length_push, length-take-le, take_more, take-append-drop}
use Rattle.em_record.specs.declared.record.Record.{Record}
use Rattle.em_space.specs.Free.{linked_from}
use Rattle.em_node.proofs.Nodes.{limited_one}
use Rattle.em_tree_blocks.proofs.Entries.{of_its_words}
use Rattle.em_space.specs.Held.{Apart, Holds}
use Rattle.em_space.specs.Rig.{RigState}
use Rattle.em_space.proofs.Held.{apart_none}
use Rattle.em_space.proofs.Lists.{apart_sym, distinct_apart, distinct_left, flat}
use Rattle.em_space.proofs.Steps.{touches_then}
use Rattle.em_record.specs.Shape.{ShapeNumbers}
use Rattle.em_frames.specs.Pool.{places_in}
use Rattle.em_frames.specs.Device.{DeviceState}
use Rattle.em_chain.specs.Chain.{IsChain, chain_blocks, word_list}
use Rattle.em_chain.specs.Effects.{LendsFrame, Unmoved}
use Rattle.em_chain.specs.Writers.{Adds, Member, blocks_of, group_blocks, members_in, no_member}
use Rattle.em_chain.specs.declared.chain.Chain.{Chain}
use Rattle.em_chain.specs.declared.writers.Writers.{Writers}
use Rattle.em_chain.proofs.Laws.{chain_stays}
use Rattle.em_chain.proofs.WritersMembers.{members_len}
use Rattle.em_node.specs.declared.entry.Entry.{Entry}
use Rattle.em_node.specs.Node.{IsNode, entries_of, no_entry}
use Rattle.em_tree_blocks.specs.Node.{buffer_of}
use Rattle.em_empty.specs.Node.{AreBuffers, HasPlaces, HavePlaces, buffer_blocks}
use Rattle.em_empty.specs.Dealt.{Gathers, chain_members}
use Rattle.em_empty.proofs.Groups.{chains_flat, chains_len, chains_push, list_push}

pub places_push : (n : ℕ) (es : List Entry) (e : Entry) → HavePlaces n es → HasPlaces n
    (buffer_of e)
    → HavePlaces n (es ++ e ∷ [])
places_push n [] e h k = (k, tt)
places_push n (f ∷ es) e h k = (h.0, places_push n es e h.1 k)

pub places_more : (n : ℕ) (es : List Entry) (i : ℕ) → i < length es → HavePlaces n (take i es)
    → HasPlaces n (buffer_of (get_or es i no_entry)) → HavePlaces n (take (i + 1) es)
places_more n es i l h k = rw (take_more es i no_entry l) (places_push n (take i es)
    (get_or es i no_entry) h k)

pub buffer_get : (s : RigState) (es : List Entry) (i : ℕ) → i < length es → AreBuffers s es
    → IsChain s (buffer_of (get_or es i no_entry))
buffer_get s [] i l h = absurd (omega arith)
buffer_get s (e ∷ es) zero l h = h.0
buffer_get s (e ∷ es) (suc i) l h = buffer_get s es i (omega arith) h.1

blocks_append : (s : RigState) (xs ys : List Entry)
    → buffer_blocks s (xs ++ ys) ≡ buffer_blocks s xs ++ buffer_blocks s ys
blocks_append s [] ys = refl
blocks_append s (x ∷ xs) ys =
    ap (λ (l : List ℕ). chain_blocks s (buffer_of x) ++ l) (blocks_append s xs ys)
    ∙ sym (append_assoc (chain_blocks s (buffer_of x)) (buffer_blocks s xs) (buffer_blocks s ys))

-- The blocks of a buffer are none of those of the buffers before it.
buffer_apart : (s : RigState) (es : List Entry) (i : ℕ) → i < length es
    → IsTrue s.device.told → Holds s (buffer_blocks s es)
    → Apart (buffer_blocks s (take i es)) (chain_blocks s (buffer_of (get_or es i no_entry)))
buffer_apart s es i l z h =
    let e = get_or es i no_entry in
    let xs = take i es in
    let a : buffer_blocks s es ≡ buffer_blocks s (take (i + 1) es) ++ buffer_blocks s (drop
    (i + 1) es) =
    ap (buffer_blocks s) (sym (take-append-drop (i + 1) es))
    ∙ blocks_append s (take (i + 1) es) (drop (i + 1) es) in
    let b : buffer_blocks s (take (i + 1) es) ≡ buffer_blocks s xs ++ (chain_blocks s
    (buffer_of e) ++ []) =
    ap (buffer_blocks s) (take_more es i no_entry l) ∙ blocks_append s xs (e ∷ []) in
    let d = distinct_left (buffer_blocks s (take (i + 1) es)) (buffer_blocks s (drop (i + 1) es))
    (rw a at (h.distinct z)) in
    let f = distinct_apart (buffer_blocks s xs) (chain_blocks s (buffer_of e) ++ []) (rw b at d) in
    rw (append-nil (chain_blocks s (buffer_of e))) at f

-- What a group of the first buffers holds.
pub gathered_blocks : {s t : RigState} {g : Writers} {es : List Entry} → Gathers s t g es
    → group_blocks t g ≡ buffer_blocks s es
gathered_blocks {s} {t} {g} {es} a =
    ap (λ (xs : List Member). flat (blocks_of t xs)) a.members
    ∙ (chains_flat t es ∙ blocks_same es)
  where
    blocks_same : (fs : List Entry) → buffer_blocks t fs ≡ buffer_blocks s fs
    blocks_same [] = refl
    blocks_same (f ∷ fs) = let c = buffer_of f in
        ap (λ (d : DeviceState). linked_from c.blocks d.contents c.head ++ buffer_blocks t fs) a.unmoved.device
        ∙ ap (λ (l : List ℕ). chain_blocks s c ++ l) (blocks_same fs)

pub gathered_len : {s t : RigState} {g : Writers} {es : List Entry} → Gathers s t g es
    → length g.words.items ≡ length es
gathered_len {s} {t} {g} {es} a = sym (members_len g.words.items g.rack)
    ∙ (ap (λ (xs : List Member). length xs) a.members ∙ chains_len es)

-- The next buffer is a chain, and has none of their blocks.
pub gathered_chain : {s t : RigState} {g : Writers} {xs : List Entry} (es : List Entry) (i : ℕ)
    → i < length es → AreBuffers s es → Gathers s t g xs → (c : Chain)
    → c ≡ buffer_of (get_or es i no_entry) → IsChain t c
gathered_chain {s} {t} {g} {xs} es i l b a c e =
    rw e (chain_stays [] s t (buffer_of (get_or es i no_entry)) a.touches
    (λ z. apart_none (chain_blocks s (buffer_of (get_or es i no_entry))))
    (buffer_get s es i l b)).is

pub gathered_apart : {s t : RigState} {g : Writers} (es : List Entry) (i : ℕ) → i < length es
    → AreBuffers s es → (IsTrue s.device.told → Holds s (buffer_blocks s es))
    → Gathers s t g (take i es) → (c : Chain) → c ≡ buffer_of (get_or es i no_entry)
    → IsTrue t.device.told → Apart (chain_blocks t c) (group_blocks t g)
gathered_apart {s} {t} {g} es i l b h a c e y =
    let d = buffer_of (get_or es i no_entry) in
    let z : IsTrue s.device.told = sym a.touches.told ∙ y in
    let st = chain_stays [] s t d a.touches (λ z. apart_none (chain_blocks s d))
    (buffer_get s es i l b) in
    rw (e, st.blocks z, gathered_blocks a)
    (apart_sym (buffer_blocks s (take i es)) (chain_blocks s d) (buffer_apart s es i l z (h z)))

-- One more was added.
pub gathers_then : {s t u : RigState} {g h : Writers} (es : List Entry) (i : ℕ) (c : Chain)
    → i < length es → c ≡ buffer_of (get_or es i no_entry) → Gathers s t g (take i es)
    → LendsFrame t u → Unmoved t u → Adds t u g h c → Gathers s u h (take (i + 1) es)
gathers_then {s} {t} {u} {g} {h} es i c lt e a l m b =
    let xs = take i es in
    let f = get_or es i no_entry in
    let n = members_len g.words.items g.rack in
    let k = members_len h.words.items h.rack in
    let len = b.len in
    let more = take_more es i no_entry lt in
    let long : length (take (i + 1) es) ≡ length xs + 1 =
    ap (λ (fs : List Entry). length fs) more ∙ length_push xs f in
    let free = l.frames.free in
    let free2 = a.free in
    let peak = l.frames.peak in
    let peak2 = a.peak in
    let last : get_or (members_in h) (length (members_in g)) no_member ≡ inl (buffer_of f) =
    ap (λ (j : ℕ). get_or (members_in h) j no_member) n ∙ (b.last ∙ ap (λ (d : Chain). inl d) e) in
    record {
      sound = l.sound;
      touches = touches_then [] s t u a.touches l.touches;
      unmoved = record {
        device = m.device ∙ a.unmoved.device;
        spare = m.spare ∙ a.unmoved.spare;
        same = record {
          head = m.same.head ∙ a.unmoved.same.head;
          used = m.same.used ∙ a.unmoved.same.used;
          most = m.same.most ∙ a.unmoved.same.most;
        };
        moves = m.moves ∙ a.unmoved.moves;
      };
      free = omega arith;
      free_areas = l.frames.free_areas ∙ a.free_areas;
      peak = omega arith;
      is = b.is;
      members = list_push (members_in g) (members_in h) (inl (buffer_of f)) (omega arith)
          (λ j q. b.others j (omega arith)) last
          ∙ (ap (λ (ys : List Member). ys ++ inl (buffer_of f) ∷ []) a.members
          ∙ (sym (chains_push xs f) ∙ ap chain_members (sym more)));
    }

-- The words of a buffer are five.
five_words : (ws : List ℕ) → length ws ≡ 5
    → ws ≡ get_or ws 0 0 ∷ get_or ws 1 0 ∷ get_or ws 2 0 ∷ get_or ws 3 0 ∷ get_or ws 4 0 ∷ []
five_words [] h = absurd (omega arith)
five_words (a ∷ []) h = absurd (omega arith)
five_words (a ∷ b ∷ []) h = absurd (omega arith)
five_words (a ∷ b ∷ c ∷ []) h = absurd (omega arith)
five_words (a ∷ b ∷ c ∷ d ∷ []) h = absurd (omega arith)
five_words (a ∷ b ∷ c ∷ d ∷ e ∷ []) h = refl
five_words (a ∷ b ∷ c ∷ d ∷ e ∷ f ∷ ws) h = absurd (omega arith)

word_most : (ws : List ℕ) → length ws ≡ 5 → get_or ws 3 0 ≤ 2 ^ 56 → get_or ws 4 0 ≤ 2 ^ 56
    → (slice_index ws 3 ≤ 2 ^ 56) × (slice_index ws 4 ≤ 2 ^ 56)
word_most ws n c b = rw (five_words ws n) (c, b)

pub words_most : (b : List Record) (i : ℕ) (e : Entry) → IsNode b → i < length (entries_of b)
    → e ≡ get_or (entries_of b) i no_entry
    → (slice_index e.buffer 3 ≤ 2 ^ 56) × (slice_index e.buffer 4 ≤ 2 ^ 56)
words_most b i e n l q =
    let h = limited_one b i n l in rw q (word_most (get_or
    (entries_of b) i no_entry).buffer h.words h.count h.blocks)

-- A chain of an entry's words is its buffer.
pub words_buffer : (e f : Entry) (c : Chain) → e ≡ f → e.buffer ≡ word_list c → c ≡ buffer_of f
words_buffer e f c same is = of_its_words c e.buffer is ∙ ap (λ (x : Entry). buffer_of x) same

-- There is a place for one more.
pub gathered_room : {s t : RigState} {g : Writers} (es : List Entry) (i : ℕ) → i < length es
    → length es ≤ places_in s.pool.shape → Gathers s t g (take i es)
    → length g.words.items < places_in t.pool.shape
gathered_room {s} {t} {g} es i l few a =
    let n = gathered_len a in
    let k = length-take-le i es (omega arith) in
    let p = ap (λ (x : ShapeNumbers). places_in x) a.touches.shape in
    omega arith
