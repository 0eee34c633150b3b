-- What the test of a block finds.
use Rattle.std.specs.Prelude.{◌≡◌, true, ℕ, zero, suc, ◌+◌, ◌*◌, ◌-◌, ◌<◌, ◌≤◌, List, [], ◌∷◌, ◌++◌, length, get_or, drop}
use Rattle.std.proofs.Common.{sym, ap, subst, ◌∙◌, refl, arith}
use Rattle.std.proofs.Math.Seq.{drop-cons}
use Rattle.std.proofs.lemmas.List.{length-append}
use Rattle.em_record.specs.declared.record.Record.{Record}
use Rattle.em_record.specs.Order.{is_below}
use Rattle.em_record.specs.Shape.{ShapeNumbers, IsShape, fan_of}
use Rattle.em_frames.specs.Device.{zero_record}
use Rattle.em_node.specs.declared.entry.Entry.{Entry}
use Rattle.em_node.specs.Node.{node_header, third_of, records_of, entry_of, entries_from, entries_of, AreLimited, LowsAbove, LowsRise, AreLinked, IsNodeBlock, HasLinks, no_entry}
use Rattle.em_node.specs.Records.{Precedes, LaidOut, HasHead, IsAt}
use Rattle.em_node.proofs.Orders.{lows_trans}
use Rattle.em_node.proofs.Seams.{length_records}

-- what the records of n entries read as
record Reads (blocks n : ℕ) (rs : List Record) : Type 0 where
  rest : List Record
  all : rs ≡ records_of (entries_from n rs) ++ rest
  count : length (entries_from n rs) ≡ n
  limited : AreLimited (entries_from n rs)
  linked : AreLinked blocks (entries_from n rs)
  rises : LowsRise (entries_from n rs)

-- a third record with two zeros is as it was
third_is : (x y z : Record) → z.c ≡ 0 → z.d ≡ 0 → third_of (entry_of x y z) ≡ z
third_is x y z c d =
    let p = z.a in let q = z.b in
    ap (λ (n : ℕ). record { a = p; b = q; c = n; d = 0 }) (sym c)
    ∙ ap (λ (n : ℕ). record { a = p; b = q; c = z.c; d = n }) (sym d)

-- a low key below the next is below all after it
above_next : (x : Record) (n : ℕ) (rs : List Record) (blocks : ℕ) → Precedes x n rs → LaidOut blocks n rs
    → LowsRise (entries_from n rs) → LowsAbove x (entries_from n rs)
above_next x zero rs blocks p l r = tt
above_next x (suc n) [] blocks p l r = absurd p
above_next x (suc n) (u ∷ []) blocks p l r = absurd l
above_next x (suc n) (u ∷ y ∷ []) blocks p l r = absurd l
above_next x (suc n) (u ∷ y ∷ z ∷ rs) blocks p l r = (p, lows_trans x u (entries_from n rs) p r.0)

-- what the records of n entries read as, if they are laid out
reads : (blocks n : ℕ) (rs : List Record) → LaidOut blocks n rs → Reads blocks n rs
reads blocks zero rs l = record { rest = rs; all = refl; count = refl; limited = tt; linked = tt; rises = tt }
reads blocks (suc n) [] l = absurd l
reads blocks (suc n) (x ∷ []) l = absurd l
reads blocks (suc n) (x ∷ y ∷ []) l = absurd l
reads blocks (suc n) (x ∷ y ∷ z ∷ rs) l =
    let m = reads blocks n rs l.2 in
    let e = l.0 in
    let c = m.count in
    record {
      rest = m.rest;
      all = ap (λ w. x ∷ y ∷ w ∷ rs) (sym (third_is x y z e.third e.fourth))
          ∙ ap (λ ws. x ∷ y ∷ third_of (entry_of x y z) ∷ ws) m.all;
      count = omega arith;
      limited = (record { words = refl; count = e.count_most; blocks = e.blocks_most }, m.limited);
      linked = (
        record {
          child_some = e.child_some;
          child_most = e.child_most;
          head_most = e.head_most;
          tail_most = e.tail_most;
        },
        m.linked,
      );
      rises = (above_next x n rs blocks l.1 l.2 m.rises, m.rises);
    }

-- a low key below the others, as of records
precedes : (e : Entry) (es : List Entry) (rest : List Record) → LowsAbove e.low es
    → Precedes e.low (length es) (records_of es ++ rest)
precedes e [] rest a = tt
precedes e (f ∷ es) rest a = a.0

-- the records of entries are laid out
laid_out : (blocks : ℕ) (es : List Entry) (rest : List Record) → AreLimited es → AreLinked blocks es
    → LowsRise es → LaidOut blocks (length es) (records_of es ++ rest)
laid_out blocks [] rest m k r = tt
laid_out blocks (e ∷ es) rest m k r = (
  record {
    child_some = k.0.child_some;
    child_most = k.0.child_most;
    head_most = k.0.head_most;
    tail_most = k.0.tail_most;
    count_most = m.0.count;
    blocks_most = m.0.blocks;
    third = refl;
    fourth = refl;
  },
  precedes e es rest r.0,
  laid_out blocks es rest m.1 k.1 r.1,
)

-- A block whose head and entries pass the tests is a node block,
pub block_passes : (most blocks : ℕ) (b : List Record) → HasHead most b
    → LaidOut blocks (get_or b 0 zero_record).b (drop 2 b) → IsNodeBlock most blocks b
block_passes most blocks [] t l = let s = t.two in absurd (omega arith)
block_passes most blocks (x ∷ []) t l = let s = t.two in absurd (omega arith)
block_passes most blocks (x ∷ y ∷ rs) t l =
    let h = t.head in
    let m = reads blocks x.b rs l in
    let es = entries_from x.b rs in
    let few = h.few in
    let count = m.count in
    record {
      node = record {
        is = record {
          rest = m.rest;
          block_is = ap (λ z. z ∷ y ∷ rs) h.first_is
              ∙ (ap (λ z. node_header x.a x.b ∷ z ∷ rs) h.second_is
              ∙ (ap (λ n. node_header x.a n ∷ zero_record ∷ rs) (sym m.count)
              ∙ ap (λ ws. node_header x.a (length es) ∷ zero_record ∷ ws) m.all));
          level_most = h.level_most;
          limited = m.limited;
          rises = m.rises;
        };
      };
      few = omega arith;
      linked = m.linked;
    }

-- and a node block passes them.
pub block_head : (most blocks : ℕ) (b : List Record) → IsNodeBlock most blocks b → HasHead most b
block_head most blocks b n =
    let i = n.node.is in
    let es = entries_of b in
    let f = n.few in
    let all = length-append (records_of es) i.rest in
    let threes = length_records es in
    let P : List Record → Type 0 = λ rs. HasHead most rs in
    subst P (sym i.block_is) (record {
      two = omega arith;
      head = record { first_is = refl; level_most = i.level_most; few = f; second_is = refl };
      room = omega arith;
    })

-- Its entries are laid out.
pub block_entries : (most blocks : ℕ) (b : List Record) → IsNodeBlock most blocks b
    → LaidOut blocks (get_or b 0 zero_record).b (drop 2 b)
block_entries most blocks b n =
    let i = n.node.is in
    let P : List Record → Type 0 = λ rs. LaidOut blocks (get_or rs 0 zero_record).b (drop 2 rs) in
    subst P (sym i.block_is) (laid_out blocks (entries_of b) i.rest i.limited n.linked i.rises)

-- three records from a place on
three_from : (b : List Record) (i : ℕ) → i + 3 ≤ length b
    → drop i b ≡ get_or b i zero_record ∷ get_or b (i + 1) zero_record ∷ get_or b (i + 2) zero_record
    ∷ drop (i + 3) b
three_from b i h =
    let x = get_or b i zero_record in
    let y = get_or b (i + 1) zero_record in
    let one : drop (suc i) b ≡ y ∷ drop (suc (i + 1)) b =
    (let e : suc i ≡ i + 1 = omega arith in ap (λ n. drop n b) e) ∙ drop-cons b (i + 1) zero_record (omega arith) in
    let two : drop (suc (i + 1)) b ≡ get_or b (i + 2) zero_record ∷ drop (i + 3) b =
    (let e : suc (i + 1) ≡ i + 2 = omega arith in ap (λ n. drop n b) e)
    ∙ (drop-cons b (i + 2) zero_record (omega arith)
    ∙ (let e : suc (i + 2) ≡ i + 3 = omega arith in ap (λ n. get_or b (i + 2) zero_record ∷ drop n b) e)) in
    drop-cons b i zero_record (omega arith)
    ∙ (ap (λ rs. x ∷ rs) one ∙ ap (λ rs. x ∷ y ∷ rs) two)

-- a low key precedes the one of a place,
next_from : (x : Record) (b : List Record) (i n : ℕ) → i + 3 * n ≤ length b
    → (0 < n → is_below x (get_or b i zero_record) ≡ true) → Precedes x n (drop i b)
next_from x b i zero s h = tt
next_from x b i (suc n) s h =
    let P : List Record → Type 0 = λ rs. Precedes x (suc n) rs in
    subst P (sym (drop-cons b i zero_record (omega arith))) (h (omega arith))

-- and the other way round
next_of : (x : Record) (b : List Record) (i n : ℕ) → i + 3 * n ≤ length b → 0 < n
    → Precedes x n (drop i b) → is_below x (get_or b i zero_record) ≡ true
next_of x b i zero s o h = absurd (omega arith)
next_of x b i (suc n) s o h =
    let P : List Record → Type 0 = λ rs. Precedes x (suc n) rs in
    subst P (drop-cons b i zero_record (omega arith)) h

-- One entry more is laid out.
pub laid_more : (blocks count : ℕ) (b : List Record) (at : ℕ) → at < count → 2 + 3 * count ≤ length b
    → IsAt blocks count b at → LaidOut blocks (count - (at + 1)) (drop (2 + 3 * (at + 1)) b)
    → LaidOut blocks (count - at) (drop (2 + 3 * at) b)
laid_more blocks count b at h s i l =
    let k = 2 + 3 * at in
    let n = count - (at + 1) in
    let P : ℕ → Type 0 = λ m. LaidOut blocks m (drop k b) in
    let Q : List Record → Type 0 = λ rs. LaidOut blocks (suc n) rs in
    let e : 2 + 3 * (at + 1) ≡ k + 3 = omega arith in
    let R : ℕ → Type 0 = λ j. LaidOut blocks n (drop j b) in
    let f : suc n ≡ count - at = omega arith in
    subst P f (subst Q (sym (three_from b k (omega arith)))
    (i.entry, next_from (get_or b k zero_record) b (k + 3) n (omega arith) (λ o. i.next (omega arith)), subst R e l))

-- One entry of those that are laid out, and the rest.
pub laid_at : (blocks count : ℕ) (b : List Record) (at : ℕ) → at < count → 2 + 3 * count ≤ length b
    → LaidOut blocks (count - at) (drop (2 + 3 * at) b)
    → IsAt blocks count b at × LaidOut blocks (count - (at + 1)) (drop (2 + 3 * (at + 1)) b)
laid_at blocks count b at h s l =
    let k = 2 + 3 * at in
    let n = count - (at + 1) in
    let P : ℕ → Type 0 = λ m. LaidOut blocks m (drop k b) in
    let Q : List Record → Type 0 = λ rs. LaidOut blocks (suc n) rs in
    let e : k + 3 ≡ 2 + 3 * (at + 1) = omega arith in
    let R : ℕ → Type 0 = λ j. LaidOut blocks n (drop j b) in
    let f : count - at ≡ suc n = omega arith in
    let m : LaidOut blocks (suc n) (get_or b k zero_record ∷ get_or b (k + 1) zero_record
    ∷ get_or b (k + 2) zero_record ∷ drop (k + 3) b) = subst Q (three_from b k (omega arith)) (subst P f l) in (
      record {
        entry = m.0;
        next = λ o. next_of (get_or b k zero_record) b (k + 3) n (omega arith) (omega arith) m.1;
      },
      subst R e m.2,
    )

-- An entry of a node block has links for the device.
pub linked_at : (blocks : ℕ) (es : List Entry) (at : ℕ) → at < length es → AreLinked blocks es
    → HasLinks blocks (get_or es at no_entry)
linked_at blocks [] at h l = absurd (omega arith)
linked_at blocks (e ∷ es) zero h l = l.0
linked_at blocks (e ∷ es) (suc at) h l = linked_at blocks es at (omega arith) l.1

-- A block has room for 2f entries.
pub entries_fit : (shape : ShapeNumbers) → IsShape shape → 2 + 6 * fan_of shape ≤ shape.block
entries_fit shape s = let most = s.frames_within in let least = s.frames_low in omega arith
