-- A member is its stored part, and the records that are pending.
use Rattle.std.proofs.Common.{◌≡◌, ℕ, zero, suc, ◌+◌, ◌-◌, ◌<◌, min, Bool, true, false, ◌⊎◌, inl, inr, ⊎_elim, List, [], ◌∷◌, ◌++◌, Option, Some, None, length, get_or, take, drop, refl, sym, ap, ◌∙◌, subst, arith, IsTrue}
use Rattle.std.specs.List.{slice_range}
use Rattle.std.proofs.Math.Seq.{drop-nil}
use Rattle.std.proofs.lemmas.List.{append-nil, drop-take}
use Rattle.em_record.specs.declared.record.Record.{Record}
use Rattle.em_space.specs.Free.{header, linked_from}
use Rattle.em_space.specs.Held.{contents_of}
use Rattle.em_space.specs.Rig.{RigState}
use Rattle.em_chain.specs.Chain.{chain_blocks, chain_items, empty_chain}
use Rattle.em_chain.specs.List.{SkipFits, items_in}
use Rattle.em_chain.specs.View.{IsView, stored_part}
use Rattle.em_chain.specs.Writer.{IsWriter, front, linked, pending, writer_blocks, writer_contents, writer_items}
use Rattle.em_chain.specs.Writers.{Member, IsMember, member_at, member_by, members_of, no_member, writer_in}
use Rattle.em_chain.specs.WritersStored.{HasParts, InSomeRig, IsPendingPart, IsStoredPart}
use Rattle.em_chain.specs.declared.chain.Chain.{Chain}
use Rattle.em_chain.specs.declared.member.MemberWords.{MemberWords}
use Rattle.em_chain.specs.declared.writer.Writer.{Writer}
use Rattle.em_chain.specs.declared.writers.Writers.{Writers}
use Rattle.em_chain.proofs.Lists.{items_push}
use Rattle.em_chain.proofs.Tight.{stored_items, stored_view}
use Rattle.em_chain.proofs.Views.{view_of}
use Rattle.em_chain.proofs.WritersOpening.{Reads, member_read, member_touched, member_within}

-- The records of a block without the first ones, as a part of it.
drop_one : (n : ℕ) (xs : List Record) → drop (n + 1) xs ≡ drop n (drop 1 xs)
drop_one n [] = drop-nil (n + 1) ∙ sym (drop-nil n)
drop_one n (x ∷ xs) =
    let e : n + 1 ≡ suc n = omega arith in
    ap (λ (k : ℕ). drop k (x ∷ xs)) e

part_of : (skip fill : ℕ) (b : List Record) → skip < fill
    → drop skip (take fill (drop 1 b)) ≡ slice_range b (min skip fill + 1) (fill + 1)
part_of skip fill b lt =
    let f : fill ≡ skip + (fill - skip) = omega arith in
    let m : min skip fill ≡ skip = omega arith in
    let n : fill + 1 - (skip + 1) ≡ fill - skip = omega arith in
    ap (λ (k : ℕ). drop skip (take k (drop 1 b))) f
    ∙ drop-take skip (fill - skip) (drop 1 b)
    ∙ ap (λ (l : List Record). take (fill - skip) l) (sym (drop_one skip b))
    ∙ ap (λ (k : ℕ). take k (drop (skip + 1) b)) (sym n)
    ∙ ap (λ (k : ℕ). slice_range b (k + 1) (fill + 1)) (sym m)

whole_of : (fill : ℕ) (b : List Record) → take fill (drop 1 b) ≡ slice_range b 1 (fill + 1)
whole_of fill b =
    let n : fill ≡ fill + 1 - 1 = omega arith in
    ap (λ (k : ℕ). take k (drop 1 b)) n

none_of : (skip fill : ℕ) (b : List Record) → fill ≡ 0
    → [] ≡ slice_range b (min skip fill + 1) (fill + 1)
none_of skip fill b e =
    let n : fill + 1 - (min skip fill + 1) ≡ 0 = omega arith in
    sym (ap (λ (k : ℕ). take k (drop (min skip fill + 1) b)) n)

-- the blocks before the last one, of a writer that has none before it
no_front : (s : RigState) (w : Writer) → w.blocks < 2 → front s w ≡ []
no_front s w few =
    let e : w.blocks - 1 ≡ 0 = omega arith in
    ap (λ (n : ℕ). linked_from n s.device.contents w.head) e

-- The list of a writer with no block,
no_items : (s : RigState) (w : Writer) → IsWriter s w → w.blocks ≡ 0 → writer_items s w ≡ []
no_items s w i e =
    let c : writer_contents s w ≡ [] =
    ap (λ (ks : List ℕ). contents_of s ks ++ pending w.tail w.frame) (no_front s w (omega arith))
    ∙ ap (λ (n : ℕ). pending n w.frame) (i.last.none e) in
    ap (λ (ds : List (List Record)). drop w.skip (items_in ds)) c ∙ drop-nil w.skip

-- and with one.
one_items : (s : RigState) (w : Writer) → IsWriter s w → IsTrue s.device.told → w.blocks ≡ 1
    → writer_items s w ≡ slice_range w.frame (min w.skip w.fill + 1) (w.fill + 1)
one_items s w i z e =
    let pos = i.last.some (omega arith) in
    let t : w.tail ≡ suc (w.tail - 1) = omega arith in
    let c : writer_contents s w ≡ w.frame ∷ [] =
    ap (λ (ks : List ℕ). contents_of s ks ++ pending w.tail w.frame) (no_front s w (omega arith))
    ∙ ap (λ (n : ℕ). pending n w.frame) t in
    let fits : SkipFits w.skip (w.frame ∷ []) =
    subst (λ (ds : List (List Record)). SkipFits w.skip ds) c (i.told z).list.skip_fits in
    let f : (header w.frame).b ≡ w.fill = i.last.fill_is pos in
    let lt : w.skip < w.fill = subst (λ (n : ℕ). w.skip < n) f fits in
    ap (λ (ds : List (List Record)). drop w.skip (items_in ds)) c
    ∙ ap (λ (l : List Record). drop w.skip l) (items_push [] w.frame)
    ∙ ap (λ (n : ℕ). drop w.skip (take n (drop 1 w.frame))) f
    ∙ part_of w.skip w.fill w.frame lt

empty_view : (s : RigState) → IsView s empty_chain
empty_view s = record {
  count_most = omega arith;
  blocks_most = omega arith;
  told = λ z. record {
    holds = record { in_use = tt; distinct = λ y. tt };
    list = record { run = tt; blocks_is = refl; count_is = refl; skip_fits = refl };
  };
}

few_items : (s : RigState) (w : Writer) → IsWriter s w → IsTrue s.device.told → w.blocks < 2
    → writer_items s w ≡ slice_range w.frame (min w.skip w.fill + 1) (w.fill + 1)
few_items s w i z few =
    ⊎_elim (λ (e : w.blocks ≡ 0). no_items s w i e
    ∙ none_of w.skip w.fill w.frame (i.last.fill_none (i.last.none e)))
    (λ (e : w.blocks ≡ 1). one_items s w i z e) (none_or_one w.blocks few)
  where
    none_or_one : (n : ℕ) → n < 2 → (n ≡ 0) ⊎ (n ≡ 1)
    none_or_one zero h = inl refl
    none_or_one (suc n) h = inr (omega arith)

writer_parts : (s : RigState) (w : Writer) (c : Chain) (xs : List Record) → IsWriter s w
    → IsStoredPart (inr w) c → IsPendingPart (inr w) xs → (w.blocks < 2) ⊎ (1 < w.blocks)
    → HasParts s (inr w) c xs
writer_parts s w c xs i p q (inl few) =
    let e : c ≡ empty_chain = p.0 few in
    let f = q.0 few in
    record {
      view = subst (λ (d : Chain). IsView s d) (sym e) (empty_view s);
      items = λ z. few_items s w i z few ∙ sym f
          ∙ ap (λ (d : Chain). chain_items s d ++ xs) (sym e);
      last = writer_blocks s w;
      blocks = λ z. ap (λ (d : Chain). chain_blocks s d ++ writer_blocks s w) (sym e);
    }
writer_parts s w c xs i p q (inr more) =
    let e : c ≡ stored_part w = p.1 more in
    let f : (header w.frame).b ≡ w.fill = i.last.fill_is (i.last.some (omega arith)) in
    record {
      view = subst (λ (d : Chain). IsView s d) (sym e) (stored_view s w i more);
      items = λ z. stored_items s w i more z
          ∙ ap (λ (n : ℕ). chain_items s (stored_part w) ++ take n (drop 1 w.frame)) f
          ∙ ap (λ (l : List Record). chain_items s (stored_part w) ++ l)
          (whole_of w.fill w.frame ∙ sym (q.1 more))
          ∙ ap (λ (d : Chain). chain_items s d ++ xs) (sym e);
      last = linked w.tail;
      blocks = λ z. ap (λ (d : Chain). chain_blocks s d ++ linked w.tail) (sym e);
    }

-- What a member consists of.
pub member_parts : (s : RigState) (x : Member) (c : Chain) (xs : List Record) → IsMember s x
    → IsStoredPart x c → IsPendingPart x xs → HasParts s x c xs
member_parts s (inl d) c xs i p q = record {
  view = subst (λ (y : Chain). IsView s y) (sym p) (view_of s d i);
  items = λ z. sym (append-nil (chain_items s d))
      ∙ ap (λ (l : List Record). chain_items s d ++ l) (sym q)
      ∙ ap (λ (y : Chain). chain_items s y ++ xs) (sym p);
  last = [];
  blocks = λ z. sym (append-nil (chain_blocks s d))
      ∙ ap (λ (y : Chain). chain_blocks s y ++ []) (sym p);
}
member_parts s (inr w) c xs i p q = writer_parts s w c xs i p q (few_or_more w.blocks)
  where
    few_or_more : (n : ℕ) → (n < 2) ⊎ (1 < n)
    few_or_more zero = inl (omega arith)
    few_or_more (suc zero) = inl (omega arith)
    few_or_more (suc (suc n)) = inr (omega arith)

-- What is stored doesn't depend on the frame.
pub stored_any : (touched : Bool) (m : MemberWords) (f b : List Record) (c : Chain)
    → IsStoredPart (member_by touched m f) c → IsStoredPart (member_by touched m b) c
stored_any true m f b c h = h
stored_any false m f b c h = h

-- A member has some frame, which may be empty.
pub record HasSome (ms : List MemberWords) (ps : List (Option (List Record))) (i : ℕ) (d : MemberWords)
    : Type 0 where
  pub frame : List Record
  pub is : get_or (members_of ms ps) i no_member
      ≡ member_by (get_or ms i d).touched (get_or ms i d) frame

pub has_some : (ms : List MemberWords) (ps : List (Option (List Record))) (i : ℕ) (d : MemberWords)
    → i < length ms → HasSome ms ps i d
has_some [] ps i d l = absurd (omega arith)
has_some (m ∷ ms) [] zero d l = record { frame = []; is = refl }
has_some (m ∷ ms) (None ∷ ps) zero d l = record { frame = []; is = refl }
has_some (m ∷ ms) (Some b ∷ ps) zero d l = record { frame = b; is = refl }
has_some (m ∷ ms) [] (suc i) d l =
    let h = has_some ms [] i d (omega arith) in
    record { frame = h.frame; is = h.is }
has_some (m ∷ ms) (p ∷ ps) (suc i) d l =
    let h = has_some ms ps i d (omega arith) in
    record { frame = h.frame; is = h.is }

pub stored_at : {items : List MemberWords} (g : Writers) (i : ℕ) (d : MemberWords) (f : List Record)
    (c : Chain) → i < length g.words.items → items ≡ g.words.items
    → IsStoredPart (member_by (get_or items i d).touched (get_or items i d) f) c
    → IsStoredPart (member_at g i) c
stored_at {items} g i d f c l e h =
    let m = get_or g.words.items i d in
    let k = has_some g.words.items g.rack i d l in
    let n : IsStoredPart (member_by m.touched m f) c =
    subst (λ (ms : List MemberWords).
    IsStoredPart (member_by (get_or ms i d).touched (get_or ms i d) f) c) e h in
    subst (λ (x : Member). IsStoredPart x c) (sym k.is) (stored_any m.touched m f k.frame c n)

-- What is pending stands in the frame.
pub pending_fits : {g : Writers} {i : ℕ} {d : MemberWords} {items : List MemberWords} {f : List Record}
    → Reads g i d items f → InSomeRig g → (get_or items i d).touched ≡ true
    → (get_or items i d).fill < length f
pending_fits {g} {i} {d} {items} {f} r h t =
    let m = get_or items i d in
    let k : IsMember h.state (inr (writer_in m f)) =
    subst (λ (x : Member). IsMember h.state x) (member_touched r t)
    (h.is.members_are.each i (member_within g i r.within)) in
    let most = k.last.fill_most in
    let len = k.frame.len_is in
    let low = h.sound.shape.block_low in
    omega arith

pub pending_at : {g : Writers} {i : ℕ} {d : MemberWords} {items : List MemberWords} {f : List Record}
    (xs : List Record) → Reads g i d items f
    → IsPendingPart (member_by (get_or items i d).touched (get_or items i d) f) xs
    → IsPendingPart (member_at g i) xs
pending_at {g} {i} {d} {items} {f} xs r h =
    subst (λ (x : Member). IsPendingPart x xs) (sym (member_read r)) h
