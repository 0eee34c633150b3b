-- How often the emptying of full buffers goes down from the root.
use Rattle.std.specs.Prelude.{◌≡◌, ℕ, suc, ◌+◌}

-- Full buffers of the nodes of one level are emptied, over the keys of one node, and then those
-- below: by the level, the buffers emptied, the loads, the splits of nodes, and the descents.
pub data Emptyings : ℕ → ℕ → ℕ → ℕ → ℕ → Type 0 where
  -- no buffer is full, and no node of the level follows
  stop : {level : ℕ} → Emptyings level 0 0 0 1
  -- on to the next node, which a split made
  next : {level i d s v n r : ℕ} → r ≡ s + 1 → n ≡ v + 1 → Emptyings level i d s v
      → Emptyings level i d r n
  -- a load, at the lowest level
  load : {i d s v n o : ℕ} → o ≡ d + 1 → n ≡ v + 1 → Emptyings 1 i d s v → Emptyings 1 i o s n
  -- a buffer is emptied, after which no child's buffer is full
  pass : {level i d s v n j : ℕ} → j ≡ i + 1 → n ≡ v + 1 → Emptyings (suc level) i d s v
      → Emptyings (suc level) j d s n
  -- a buffer is emptied, and then those of its child
  deep : {level j o r n : ℕ} (i1 d1 s1 v1 i d s v : ℕ) → j ≡ i1 + i + 1 → o ≡ d1 + d → r ≡ s1 + s
      → n ≡ v1 + v + 1 → Emptyings level i1 d1 s1 v1 → Emptyings (suc level) i d s v
      → Emptyings (suc level) j o r n
