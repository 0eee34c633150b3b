-- A circuit's text in the first slot, and how much of it was read.
use Rattle.std.proofs.Common.{◌≡◌, ℕ, ◌-◌, ◌≤◌, Bool, true, cond, List, [], ◌∷◌, ◌++◌, length, ap, subst, ◌∙◌, arith, IsTrue, Option}
use Rattle.std.proofs.lemmas.List.{length-append}
use Rattle.em_io.specs.Feed.{Fed, rest}
use Rattle.em_io.specs.Shelf.{Leaves}
use Rattle.em_io.specs.declared.shelf.Slot.{Slot}
use Rattle.em_io.specs.declared.shelf.Slot.TheVariants.{First}
use Rattle.aig_text.specs.Reads.{Advances}
use Rattle.aig_text.specs.Source.{Source, left}
use Rattle.em_eval.specs.EvalSize.{circuit_read, given_of}
use Rattle.em_ends.specs.Opens.{IsAllRead, ReadsFirst}

-- a feed of the first slot that took nothing yet
abbrev pub first_feed : Fed
first_feed = record { slot = First; ahead = []; place = 0 }

-- the text in the first slot
abbrev pub text_of : Source → List ℕ
text_of a = (a.stand.slot First).left

-- the size of what was read of that text
abbrev pub read_of : Option ℕ → Source → Source → ℕ
read_of start a d = circuit_read start (d.stand.slot First) (text_of a)

-- The open first slot was read, from its first byte on.
pub record ReadsFrom (tells : Bool) (a d : Source) : Type 0 where
  pub feed : a.feed ≡ first_feed
  pub ready : (a.stand.slot First).ready ≡ true
  pub advances : Advances tells a d

pub reads_from : {tells : Bool} {a d : Source} → a.feed ≡ first_feed
    → (a.stand.slot First).ready ≡ true → Advances tells a d → ReadsFrom tells a d
reads_from feed ready advances = record { feed = feed; ready = ready; advances = advances }

module _ {tells : Bool} {a d : Source} (r : ReadsFrom tells a d) where
  -- the feed has the first slot, at first and at the end
  slot_first : a.feed.slot ≡ First
  slot_first = ap (λ (f : Fed). f.slot) r.feed

  slot_after : d.feed.slot ≡ First
  slot_after = r.advances.steady.slot ∙ slot_first

  -- at first the whole text is left
  pub left_first : left a ≡ text_of a
  left_first = ap (λ (f : Fed). rest f a.stand) r.feed

  -- the slot stays open
  ready_after : (d.stand.slot First).ready ≡ true
  ready_after = subst (λ (k : Slot). (d.stand.slot k).ready ≡ (a.stand.slot k).ready) slot_first
      r.advances.steady.ready
      ∙ r.ready

  -- nothing but the first slot was read
  pub reads_first : ReadsFirst tells a.stand d.stand
  reads_first = record {
    leaves = subst (λ (k : Slot). Leaves k a.stand d.stand) slot_first r.advances.steady.leaves;
    lost = λ t. subst (λ (k : Slot). (d.stand.slot k).lost ≡ (a.stand.slot k).lost) slot_first
        (r.advances.steady.lost t);
  }

  -- all of it was read, if nothing is left of the text
  pub reads_all : (IsTrue tells → left d ≡ []) → IsAllRead tells (d.stand.slot First)
  reads_all end = record {
    opened = ready_after;
    nothing_left = λ t. none_left d.feed.ahead (d.stand.slot First).left
        (subst (λ (k : Slot). d.feed.ahead ++ (d.stand.slot k).left ≡ []) slot_after (end t));
  }
    where
      none_left : (ahead behind : List ℕ) → ahead ++ behind ≡ [] → behind ≡ []
      none_left [] behind e = e
      none_left (x ∷ xs) behind e = cc

  -- no fewer bytes were given than were taken
  pub given_least : IsTrue tells → d.feed.place ≤ given_of (d.stand.slot First) (text_of a)
  given_least t =
      let slot = d.stand.slot First in
      let begun : given_of slot (text_of a) ≡ length (text_of a) - length slot.left =
      ap (λ (b : Bool). cond b (length (text_of a) - length slot.left) 0) ready_after in
      let place : a.feed.place ≡ 0 = ap (λ (f : Fed). f.place) r.feed in
      let whole = r.advances.steady.whole t in
      let before : length (left a) ≡ length (text_of a) = ap (λ (x : List ℕ). length x) left_first in
      let after : length (left d) ≡ length (d.feed.ahead ++ slot.left) =
      ap (λ (k : Slot). length (d.feed.ahead ++ (d.stand.slot k).left)) slot_after in
      let sum = length-append d.feed.ahead slot.left in
      omega (arith, begun, place, whole, before, after, sum)
