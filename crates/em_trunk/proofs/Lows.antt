-- First low keys, which no path reads, over the events of a call.
use Rattle.std.specs.Prelude.{List, [], ◌∷◌, ◌++◌, Bool, true, false, cond}
use Rattle.std.proofs.Common.{subst}
use Rattle.em_record.specs.declared.record.Record.{Record}
use Rattle.em_tree_model.specs.Places.{Place, SameStart, put_at}
use Rattle.em_tree_model.specs.Places.Place.{here, past, under}
use Rattle.em_tree_model.specs.Pouring.{pour, pour_one}
use Rattle.em_tree_model.specs.Ranges.{low_of}
use Rattle.em_tree_model.specs.Tree.{HasEntry, IsRow, Tree, is_later, join_rows}
use Rattle.em_tree_model.specs.Tree.Tree.{end, entry, leaf}
use Rattle.em_tree_model.proofs.Places.{low_same, start_put}
use Rattle.em_tree_model.proofs.Pouring.{pour_start}
use Rattle.em_tree_walk.specs.Lows.{LowsKeep}

-- at a place
pub lows_put : (p : Place) (t u : Tree) → SameStart t u → ((lo : Record) → LowsKeep lo t → LowsKeep lo u)
    → (lo : Record) → LowsKeep lo (put_at p t) → LowsKeep lo (put_at p u)
lows_put here t u s f lo h = f lo h
lows_put (under low b r p) t u s f lo h = (h.0, lows_put p t u s f lo h.1, h.2)
lows_put (past low b c p) t u s f lo h =
    let P : Record → Type 0 = λ k. LowsKeep k (put_at p u) in (
      h.0,
      h.1,
      subst P (low_same lo (put_at p t) (put_at p u) (start_put p t u s))
          (lows_put p t u s f (low_of lo (put_at p t)) h.2),
    )

lows_one_at : (z : Bool) (low : Record) (b : List Record) (c r s : Tree) (op lo : Record)
    → SameStart r s → LowsKeep lo (entry low b c r) → LowsKeep (low_of lo r) s
    → LowsKeep lo (cond z (entry low b c s) (entry low (b ++ op ∷ []) c r))
lows_one_at true low b c r s op lo st h later =
    let P : Record → Type 0 = λ k. LowsKeep k s in
    (h.0, h.1, subst P (low_same lo r s st) later)
lows_one_at false low b c r s op lo st h later = h

lows_pour_one : (key : Record → Record) (c : Tree) (op lo : Record) → LowsKeep lo c
    → LowsKeep lo (pour_one key c op)
lows_pour_one key (leaf xs) op lo h = tt
lows_pour_one key end op lo h = tt
lows_pour_one key (entry low b c r) op lo h = lows_one_at (is_later (key op) r) low b c r
    (pour_one key r op) op lo (pour_start key r op) h (lows_pour_one key r op (low_of lo r) h.2)

-- operations that are poured over a row
pub lows_pour : (key : Record → Record) (c : Tree) (ops : List Record) (lo : Record) → LowsKeep lo c
    → LowsKeep lo (pour key c ops)
lows_pour key c [] lo h = h
lows_pour key c (op ∷ ops) lo h = lows_pour key (pour_one key c op) ops lo (lows_pour_one key c op lo h)

-- two rows that were one
pub lows_join : (lo : Record) (t : Tree) (k : Record) (bk : List Record) (ck rk : Tree) → IsRow t
    → HasEntry t → LowsKeep lo (join_rows t (entry k bk ck rk))
    → LowsKeep lo t × LowsKeep k (entry k bk ck rk)
lows_join lo (leaf xs) k bk ck rk n m h = absurd m
lows_join lo end k bk ck rk n m h = absurd m
lows_join lo (entry low b c (leaf xs)) k bk ck rk n m h = absurd n
lows_join lo (entry low b c end) k bk ck rk n m h = ((h.0, h.1, tt), h.2)
lows_join lo (entry low b c (entry low2 b2 c2 r2)) k bk ck rk n m h =
    let i = lows_join low2 (entry low2 b2 c2 r2) k bk ck rk n tt h.2 in
    ((h.0, h.1, i.0), i.1)

-- where the entries after one begin isn't read if there are none
pub lows_low : (lo other : Record) (r : Tree) → LowsKeep (low_of lo r) r → LowsKeep (low_of other r) r
lows_low lo other (leaf xs) h = tt
lows_low lo other end h = tt
lows_low lo other (entry low b c r) h = h
