-- Clients that are generic over the queue.
use Rattle.std.proofs.Common.{add-one, ◌≡◌, ℕ, zero, suc, ◌+◌, List, [], ◌∷◌, ◌++◌, ap, sym, ◌∙◌, ◌≤◌, arith, take, drop}
use Rattle.std.proofs.lemmas.List.{drop-drop}
use Rattle.em_record.specs.declared.record.Record.{Record}
use Rattle.em_space.specs.Rig.{RigState, Sound, Touches}
use Rattle.em_chain.specs.Chain.{payload_in}
use Rattle.em_chain.specs.Counts.{ceiling}
use Rattle.em_chain.specs.Session.{one_more}
use Rattle.em_chain.specs.Writer.{IsWriter, filled}
use Rattle.em_chain.specs.declared.writer.Writer.{Writer}
use Rattle.em_chain.proofs.Counts.{writer_blocks_are}
use Rattle.em_chain.proofs.Keeps.{payload_kept}
use Rattle.em_chain.proofs.Sessions.{ceiling_rises}

-- the items that are left after the next one
pub left_next : (all now rest : List Record) (x : Record) (n : ℕ) → now ≡ drop n all
    → now ≡ x ∷ rest → rest ≡ drop (n + 1) all
left_next all now rest x n a b = ap (λ l. drop 1 l) (sym b ∙ a) ∙ drop-drop 1 n all

take_suc : (all rest : List Record) (x : Record) (n : ℕ) → x ∷ rest ≡ drop n all
    → take (suc n) all ≡ take n all ++ x ∷ []
take_suc [] rest x zero e = cc
take_suc [] rest x (suc n) e = cc
take_suc (y ∷ ys) rest x zero e = cc
take_suc (y ∷ ys) rest x (suc n) e = ap (λ l. y ∷ l) (take_suc ys rest x n e)

-- the items up to the next one
pub take_next : (all rest : List Record) (x : Record) (n : ℕ) → x ∷ rest ≡ drop n all
    → take (n + 1) all ≡ take n all ++ x ∷ []
take_next all rest x n e = rw (add-one) (take_suc all rest x n e)

-- A list with this many records more, and one with one more, take no more blocks than this many need.
pub list_more : {s t : RigState} {held : List ℕ} (w v : Writer) (k n : ℕ) → Sound t → Touches held s t → filled t v ≡ filled s w + k → k + 1 ≤ n
    → one_more t v ≤ ceiling (filled s w + n) (payload_in s)
list_more {s} {t} {held} w v k n h g e l =
    let low = h.shape.block_low in
    let p : payload_in t ≡ payload_in s = payload_kept held s t g in
    let m = ceiling_rises (filled t v + 1) (filled s w + n) (payload_in t) (omega arith) (omega arith) in
    let q = ap (λ (c : ℕ). ceiling (filled s w + n) c) p in
    omega (arith, m, q)

pub list_most : {s t : RigState} {v : Writer} {held : List ℕ} (w : Writer) (k n : ℕ) → Sound t
    → Touches held s t → IsWriter t v → filled t v ≡ filled s w + k → k ≤ n
    → v.blocks ≤ ceiling (filled s w + n) (payload_in s)
list_most {s} {t} {v} {held} w k n h g i e l =
    let low = h.shape.block_low in
    let p : payload_in t ≡ payload_in s = payload_kept held s t g in
    let b = writer_blocks_are t v low i in
    let m = ceiling_rises (filled t v) (filled s w + n) (payload_in t) (omega arith) (omega arith) in
    let d : v.blocks ≤ ceiling (filled s w + n) (payload_in t) = omega (arith, b, m) in
    rw p at d
