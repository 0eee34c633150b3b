-- All leaves of a tree, taken out one after another, joined and listed.
use Rattle.std.proofs.Common.{◌≡◌, ℕ, zero, suc, ◌+◌, ◌-◌, ◌*◌, ◌^◌, ◌<◌, ◌≤◌, min, List, [], ◌∷◌, ◌++◌, length, refl, sym, ap, ◌∙◌, subst, arith, Bool, true, false, IsTrue, Result, Ok, Err, IsErrAnd}
use Rattle.std.proofs.Math.Nat.{mul-le-mul_right}
use Rattle.std.proofs.lemmas.List.{length-append}
use Rattle.em_record.specs.Shape.{IsShape, ShapeNumbers, wide_of}
use Rattle.em_record.specs.declared.record.Record.{Record}
use Rattle.em_frames.specs.Pool.{load_of}
use Rattle.em_settle.specs.Rising.{RisesByKey}
use Rattle.em_space.specs.Held.{Apart, Holds}
use Rattle.em_space.specs.Rig.{RigState, Sound}
use Rattle.em_space.specs.declared.fault.EmFault.{EmFault}
use Rattle.em_space.specs.declared.fault.EmFault.TheVariants.{Damaged}
use Rattle.em_space.proofs.Ledgers.{full_by, full_never}
use Rattle.em_space.proofs.Lists.{apart_left, apart_right, apart_sym, distinct_apart}
use Rattle.em_space.proofs.Most.{held_most}
use Rattle.em_space.proofs.Paying.{pays_more}
use Rattle.em_space.proofs.Steps.{block_cause, untold_by}
use Rattle.em_chain.specs.Chain.{chain_blocks, chain_items, payload_in}
use Rattle.em_chain.specs.Session.{Wrote}
use Rattle.em_chain.specs.Writer.{WriterStays, filled, writer_blocks}
use Rattle.em_chain.specs.declared.writer.Writer.{Writer}
use Rattle.em_chain.proofs.Counts.{writer_blocks_are}
use Rattle.em_chain.proofs.Keeps.{has_kept, payload_kept}
use Rattle.em_chain.proofs.Laws.{writer_stays}
use Rattle.em_chain.proofs.Sessions.{wrote_stays, wrote_then}
use Rattle.em_leaf.proofs.Numbers.{ceiling_few}
use Rattle.em_node.specs.declared.entry.Entry.{Entry}
use Rattle.em_tree_model.proofs.Splits.{rises_last}
use Rattle.em_tree_model.specs.Ranges.{least_record}
use Rattle.em_tree_blocks.specs.Node.{linked_block}
use Rattle.em_tree_blocks.specs.Reading.{entries_at, row_of, tree_at}
use Rattle.em_tree_walk.specs.Paid.{RunsPaid}
use Rattle.em_tree_walk.specs.Stands.{EachChild, HasRows}
use Rattle.em_tree_walk.specs.declared.splitting.Root.{Root}
use Rattle.em_tree_walk.proofs.Losses.{writer_length}
use Rattle.em_tree_walk.proofs.Regions.{held_first, holds_same, tally, tally_append}
use Rattle.em_tree_load.proofs.Payments.{paid_goes, paid_part, paid_same, paid_stops, stops_paid_more}
use Rattle.em_tree_load.proofs.Peaks.{peaks_then, peaks_wider}
use Rattle.em_tree_unload.specs.Unloading.{StopsUnloading, UnloadedLeaf, leaf_rows, left_blocks, left_rows}
use Rattle.em_tree_unload.specs.declared.unloading.Unloaded.{Unloaded}
use Rattle.em_tree_raise.specs.Listing.{listed}
use Rattle.em_tree_trim.specs.Joins.{Joined, Joining}
use Rattle.em_tree_trim.specs.Leaves.{leaf_blocks}
use Rattle.em_tree_trim.specs.Listed.{JoinsInto, ListedLeaf, ListsLeaf, StopsListing}
use Rattle.em_tree_trim.specs.Listings.{CanList, CanTakeNext, JoinsOn, ListedAll, ListsAll, StopsListingAll, StopsTaking, TookNext, blocks_of, rows_of}
use Rattle.em_tree_trim.specs.Rows.{parts_at, records_in, rows_in}
use Rattle.em_tree_trim.specs.declared.joining.Held.{Held}
use Rattle.em_tree_trim.proofs.JoinMoves.{moves_first, moves_next, moves_rise}
use Rattle.em_tree_trim.proofs.JoinSteps.{join_end, join_first, join_into}
use Rattle.em_tree_trim.proofs.LeafForests.{tree_least}
use Rattle.em_tree_trim.proofs.LeavesStay.{LeavesStay, leads_append, leaf_blocks_append, leaves_stay, listed_append, listed_length}
use Rattle.em_tree_trim.proofs.ListedEntries.{entry_blocks, entry_leads, entry_parts, entry_wrote, listed_entry}
use Rattle.em_tree_trim.proofs.RowLists.{parts_append}
use Rattle.em_tree_trim.proofs.Runs.{paid_count}
use Rattle.em_tree_trim.proofs.Sizes.{leaf_items_most}

more_zero : (n : ℕ) → n + 0 ≡ n
more_zero n = omega arith

none_of : (ks : List ℕ) → length ks ≡ 0 → ks ≡ []
none_of [] e = refl
none_of (k ∷ ks) e = absurd (omega (arith, e))

-- a shape's records of a short leaf, and of a block
pub load_some : (shape : ShapeNumbers) → IsShape shape → 1 ≤ load_of shape
load_some shape i =
    let low = i.block_low in
    let frames = i.frames_low in
    let wide : 1 ≤ wide_of shape = omega (arith, frames) in
    let m : 1 * shape.block ≤ wide_of shape * shape.block = mul-le-mul_right shape.block wide in
    omega (arith, low, m)

-- a tree of which each node has an entry has a leaf
pub rows_some : (l : ℕ) (s : RigState) (k : ℕ) → HasRows l s.device.contents k → 1 ≤ length (leaf_rows (tree_at l s k))
rows_some zero s k r = omega arith
rows_some (suc l) s k r = by_entries (λ j q. rows_some l s j q) (entries_at s k) r.0 r.1
  where
    by_entries : ((j : ℕ) → HasRows l s.device.contents j → 1 ≤ length (leaf_rows (tree_at l s j)))
        → (es : List Entry) → 0 < length es → EachChild (HasRows l s.device.contents) es
        → 1 ≤ length (leaf_rows (row_of (tree_at l s) s es))
    by_entries child [] h e = absurd (omega (arith, h))
    by_entries child (x ∷ es) h e =
        let one = child (linked_block x.child) e.0 in
        let n = length-append (leaf_rows (tree_at l s (linked_block x.child))) (leaf_rows (row_of (tree_at l s) s es)) in
        omega (arith, one, n)

-- as many blocks as before
pub same_device : {s a : RigState} {root : Root} {next : Unloaded} → UnloadedLeaf s a root next → a.blocks ≡ s.blocks
same_device x = x.session.touches.blocks

module _ {key : Record → Record} {s : RigState} {root : Root} {w : Writer} (sound : Sound s)
    (can : CanList key s root w) where
  -- the records of a leaf that isn't short
  abbrev least_len : ℕ
  least_len = load_of s.pool.shape

  -- The list holds no block at first.
  none_first : IsTrue s.device.told → writer_blocks s w ≡ []
  none_first z = none_of (writer_blocks s w) (writer_length can.writer z ∙ can.no_block)

  none_filled : filled s w ≡ 0
  none_filled =
      let none = can.no_block in
      let fill = can.writer.last.fill_none (can.writer.last.none none) in
      let e : w.blocks - 1 ≡ 0 = omega (arith, none) in
      let f : payload_in s * (w.blocks - 1) ≡ 0 = rw e (grind arith) in
      omega (arith, f, fill)

  -- there are no more leaves than blocks
  rows_few : IsTrue s.device.told → length (rows_of s root) ≤ s.blocks
  rows_few z =
      let u = can.can.told z in
      let a = tree_least root.level s z root.block (can.can.leads.told z).is in
      let b = held_most s (blocks_of s root) sound z u.holds in
      let c = sound.numbers.used_most in
      let d = sound.numbers.most_high in
      omega (arith, a, b, c, d)

  -- The first leaf was taken out.
  pub joins_begin : {a : RigState} {next : Unloaded} (low : Record) → low ≡ least_record → UnloadedLeaf s a root next
      → JoinsOn key s a root 1 w w (record { low = low; stored = next.stored; more = next.more })
  joins_begin {a} {next} low e x =
      let none = can.no_block in
      let h = x.session.touches in
      let st : WriterStays s a w = writer_stays (blocks_of s root) s a w h
      (λ z. subst (λ (ks : List ℕ). Apart ks (blocks_of s root)) (sym (none_first z)) tt)
      (has_kept 1 (length w.frame) s.pool a.pool x.frames can.writer.frame) can.writer in
      let tree : RunsPaid (blocks_of s root) (chain_blocks a next.stored ++ left_blocks next.more a root) 0 0 s a =
      record { session = x.session; frames = x.frames; pays = x.pays; loses = x.loses } in
      let left = left_blocks next.more a root in
      let own = chain_blocks a next.stored in
      let unstored : 0 ≡ min w.blocks 1 = omega (arith, none) in
      let first = moves_first (wide_of s.pool.shape) root.level in
      let J : Record → Type 0 = λ r. Joining key least_len (payload_in s) (rows_of s root) 1 [] r
      (chain_items a next.stored) (left_rows next.more a root) in
      record {
        entries = [];
        runs = paid_same (left ++ (own ++ ([] ++ writer_blocks a w)))
            (paid_count 0 0 0 (min w.blocks 1) refl unstored tree)
            (λ z i.
            let p = tally_append i own left in
            let q = tally_append i left (own ++ writer_blocks a w) in
            let r = tally_append i own (writer_blocks a w) in
            let n = ap (tally i) (st.blocks z ∙ none_first z) in
            omega (arith, p, q, r, n));
        wrote = wrote_stays h.told st;
        chain = x.chain;
        fewer = omega arith;
        leads = x.leads;
        left = λ z. (x.told z).left;
        leaves = λ z. tt;
        joining = λ z. subst J (sym e) (join_first key least_len (payload_in s) (rows_of s root)
            (chain_items a next.stored) (left_rows next.more a root) (x.told z).rows);
        peaks = λ z. peaks_wider (3 * 1) (omega arith) x.peaks;
        moves = λ z. let m = (x.told z).moves in omega (arith, m, first);
      }

  -- It couldn't be.
  pub unbegun : {a : RigState} {fault : EmFault} → StopsUnloading s a root fault → StopsListingAll s a root fault
  unbegun {a} {fault} x =
      let first = moves_first (wide_of s.pool.shape) root.level in
      record {
        stops = record {
          goes = x.goes;
          pays = pays_more x.pays (omega arith);
          cause = block_cause s a fault x.cause;
        };
        full = λ z. full_never s a fault (s.blocks < s.used + (3 * length (rows_of s root) + 3)) x.cause;
        peaks = λ z. peaks_wider (3 * length (rows_of s root) + 3) (omega arith) x.peaks;
        moves = λ z.
            let m = x.moves z in
            let some = rows_some root.level s root.block (can.can.leads.told z).rows in
            let r = moves_rise (wide_of s.pool.shape) root.level 1 (length (rows_of s root)) some in
            omega (arith, m, first, r);
      }

  -- After i leaves.
  module _ {t : RigState} {i : ℕ} {v : Writer} {held : Held} (j : JoinsOn key s t root i w v held) where
    on_told : IsTrue s.device.told → IsTrue t.device.told
    on_told z = j.runs.session.touches.told ∙ z

    on_back : IsTrue t.device.told → IsTrue s.device.told
    on_back y = sym j.runs.session.touches.told ∙ y

    -- the list has room
    pub on_count : i ≤ s.blocks → v.count + 2 ≤ 2 ^ 56
    on_count few =
        let n = j.wrote.count_is in
        let m = listed_length j.entries in
        let o = can.none in
        let f = j.fewer in
        let high = sound.numbers.blocks_high in
        omega (arith, n, m, o, f, few, high)

    pub on_blocks : i ≤ s.blocks → v.blocks + 2 ≤ 2 ^ 56
    on_blocks few =
        let n = j.wrote.filled_is in
        let m = listed_length j.entries in
        let o = none_filled in
        let f = j.fewer in
        let high = sound.numbers.blocks_high in
        let low = j.runs.session.sound.shape.block_low in
        let b = writer_blocks_are t v low j.wrote.is in
        let c = ceiling_few (filled t v) (payload_in t) (omega (arith, low)) in
        omega (arith, n, m, o, f, few, high, b, c)

    taken_most : IsTrue s.device.told → i ≤ length (rows_of s root)
    taken_most z = let a = (j.joining z).taken in omega (arith, a)

    -- More leaves than blocks are those of a device that doesn't tell.
    pub joins_over : s.blocks < i → StopsListingAll s t root (Damaged 0)
    joins_over many =
        let never : IsTrue s.device.told → ⊥ = λ z.
        let a = taken_most z in
        let b = rows_few z in
        omega (arith, a, b, many) in
        let blocks = j.runs.session.touches.blocks in
        let low = sound.numbers.blocks_low in
        record {
          stops = record {
            goes = paid_goes j.runs;
            pays = pays_more j.runs.pays (omega arith);
            cause = (untold_by t.device.told (λ y. never (on_back y)), omega (arith, blocks, low));
          };
          full = λ z. tt;
          peaks = λ z. absurd (never z);
          moves = λ z. absurd (never z);
        }

    -- Another one is left.
    module _ (more : held.more ≡ true) where
      tree_left : left_blocks held.more t root ≡ blocks_of t root
      tree_left = ap (λ (b : Bool). left_blocks b t root) more

      rows_left : left_rows held.more t root ≡ rows_of t root
      rows_left = ap (λ (b : Bool). left_rows b t root) more

      -- what the next step is about
      abbrev parts_on : List ℕ
      parts_on = blocks_of t root ++ (chain_blocks t held.stored ++ writer_blocks t v)

      on_same : (k : ℕ) → tally k (left_blocks held.more t root ++ (chain_blocks t held.stored
          ++ (leaf_blocks t j.entries ++ writer_blocks t v))) ≡ tally k (parts_on ++ leaf_blocks t j.entries)
      on_same k =
          let own = chain_blocks t held.stored in
          let ws = writer_blocks t v in
          let ls = leaf_blocks t j.entries in
          let a = tally_append k (left_blocks held.more t root) (own ++ (ls ++ ws)) in
          let b = tally_append k own (ls ++ ws) in
          let c = tally_append k ls ws in
          let d = tally_append k parts_on ls in
          let e = tally_append k (blocks_of t root) (own ++ ws) in
          let f = tally_append k own ws in
          let g = ap (tally k) tree_left in
          omega (arith, a, b, c, d, e, f, g)

      on_holds : IsTrue s.device.told → Holds t (parts_on ++ leaf_blocks t j.entries)
      on_holds z = holds_same _ (parts_on ++ leaf_blocks t j.entries) on_same (j.runs.session.holds z)

      left_some : IsTrue s.device.told → i + 1 ≤ length (rows_of s root)
      left_some z =
          let a = (j.joining z).taken in
          let b = ap length rows_left in
          let c = rows_some root.level t root.block ((j.leads more).told (on_told z)).rows in
          omega (arith, a, b, c)

      pub joins_can : CanTakeNext key t root held v
      joins_can = record {
        can = record {
          above = can.can.above;
          leads = j.leads more;
          told = λ y. j.left (on_back y) more;
        };
        leaf = j.chain;
        writer = j.wrote.is;
        holds = λ y. held_first parts_on (leaf_blocks t j.entries) (on_holds (on_back y));
        rises = λ y.
            let z = on_back y in
            let ps = records_in (rows_in (parts_at t j.entries)) in
            let R : List Record → Type 0 = RisesByKey key in
            let same : ps ++ (chain_items t held.stored ++ records_in (rows_of t root)) ≡ records_in (rows_of s root) =
            ap (λ (rs : List (List Record)). ps ++ (chain_items t held.stored ++ records_in rs)) (sym rows_left)
            ∙ (j.joining z).records in
            rises_last key ps (chain_items t held.stored ++ records_in (rows_of t root))
            (subst R (sym same) (can.rises z));
      }

      -- It was taken out and joined,
      module _ {u : RigState} {x : Writer} {new : Held} (k : TookNext key t u root held v x new) where
        next_apart : IsTrue t.device.told → Apart (leaf_blocks t j.entries) parts_on
        next_apart y = apart_sym parts_on (leaf_blocks t j.entries)
            (distinct_apart parts_on (leaf_blocks t j.entries) ((on_holds (on_back y)).distinct y))

        next_stay : IsTrue s.device.told → LeavesStay t u j.entries
        next_stay z = leaves_stay j.entries k.runs.session.touches (on_told z) (next_apart (on_told z)) (j.leaves z)

        next_runs : RunsPaid (blocks_of s root) (left_blocks new.more u root ++ (chain_blocks u new.stored
            ++ (leaf_blocks u (j.entries ++ k.entries) ++ writer_blocks u x))) 0 (min x.blocks 1) s u
        next_runs =
            let m = min v.blocks 1 in
            let n = min x.blocks 1 in
            let left = left_blocks new.more u root in
            let own = chain_blocks u new.stored in
            let ws = writer_blocks u x in
            let js = left ++ (own ++ (leaf_blocks u k.entries ++ ws)) in
            let ls = leaf_blocks t j.entries in
            let all = leaf_blocks u (j.entries ++ k.entries) in
            let both = paid_part parts_on js ls 0 (sym (more_zero m)) j.runs (λ z. on_same) k.runs in
            paid_same (left ++ (own ++ (all ++ ws))) (paid_count 0 (n + 0) 0 n refl (more_zero n) both)
            (λ z i.
            let a = tally_append i js ls in
            let b = tally_append i left (own ++ (leaf_blocks u k.entries ++ ws)) in
            let c = tally_append i own (leaf_blocks u k.entries ++ ws) in
            let d = tally_append i (leaf_blocks u k.entries) ws in
            let e = tally_append i left (own ++ (all ++ ws)) in
            let f = tally_append i own (all ++ ws) in
            let g = tally_append i all ws in
            let o = ap (tally i) (leaf_blocks_append u j.entries k.entries) in
            let p = tally_append i (leaf_blocks u j.entries) (leaf_blocks u k.entries) in
            let q = ap (tally i) (next_stay z).blocks in
            omega (arith, a, b, c, d, e, f, g, o, p, q))

        next_joining : IsTrue s.device.told → Joining key least_len (payload_in s) (rows_of s root) (i + 1)
            (parts_at u (j.entries ++ k.entries)) new.low (chain_items u new.stored) (left_rows new.more u root)
        next_joining z =
            let p = payload_in s in
            let xs = chain_items t held.stored in
            let ps = parts_at t j.entries in
            let qs = parts_at u k.entries in
            let zs = chain_items u new.stored in
            let rest = left_rows new.more u root in
            let low_block = sound.shape.block_low in
            let N : ℕ → Type 0 = λ n. JoinsInto key n p held.low xs k.next qs new.low zs in
            let P : ℕ → Type 0 = λ q. JoinsInto key (load_of t.pool.shape) q held.low xs k.next qs new.low zs in
            let L : List (List Record) → Type 0 = λ rs. Joining key least_len p (rows_of s root) i ps held.low xs rs in
            let Q : List (Record × List Record) → Type 0 =
            λ os. Joining key least_len p (rows_of s root) (i + 1) os new.low zs rest in
            let into = subst N (ap load_of j.runs.session.touches.shape)
            (subst P (payload_kept (blocks_of s root) s t j.runs.session.touches) (k.joins (on_told z))) in
            let before = subst L (rows_left ∙ k.rows (on_told z)) (j.joining z) in
            let after = join_into key least_len p (rows_of s root) i ps held.low xs k.next qs new.low zs rest
            (omega (arith, low_block)) (load_some s.pool.shape sound.shape) (can.rises z) before into in
            let same : parts_at u (j.entries ++ k.entries) ≡ ps ++ qs =
            parts_append u j.entries k.entries
            ∙ ap (λ (os : List (Record × List Record)). os ++ qs) (next_stay z).parts in
            subst Q (sym same) after

        pub joins_next : JoinsOn key s u root (i + 1) w x new
        joins_next =
            let few = k.few in
            let less = j.fewer in
            let len = length-append j.entries k.entries in
            let W : List Record → Type 0 = λ rs. Wrote s u w x rs in
            let wide = ap wide_of j.runs.session.touches.shape in
            let more_moves = moves_next (wide_of s.pool.shape) root.level i (omega (arith, less)) in
            record {
              entries = j.entries ++ k.entries;
              runs = next_runs;
              wrote = subst W (sym (listed_append j.entries k.entries))
                  (wrote_then (listed j.entries) (listed k.entries) j.wrote k.wrote);
              chain = k.chain;
              fewer = omega (arith, few, less, len);
              leads = k.leads;
              left = λ z. k.left (on_told z);
              leaves = λ z. leads_append u j.entries k.entries (next_stay z).leads (k.leaves (on_told z));
              joining = next_joining;
              peaks = λ z. peaks_then (3 * (i + 1)) (j.peaks z) (k.peaks (on_told z)) (omega arith);
              moves = λ z.
                  let a = j.moves z in
                  let b = k.moves (on_told z) in
                  omega (arith, a, b, wide, more_moves);
            }

      -- or it wasn't.
      pub joins_stop : {u : RigState} {fault : EmFault} → StopsTaking t u root held v fault
          → StopsListingAll s u root fault
      joins_stop {u} {fault} k =
          let m = min v.blocks 1 in
          let less = j.fewer in
          let y = paid_stops parts_on (leaf_blocks t j.entries) 0 (sym (more_zero m)) j.runs (λ z. on_same) k.stops in
          let wide = ap wide_of j.runs.session.touches.shape in
          let blocks = j.runs.session.touches.blocks in
          let n = length (rows_of s root) in
          let more_moves = moves_next (wide_of s.pool.shape) root.level i (omega (arith, less)) in
          record {
            stops = stops_paid_more (blocks_of s root) 3 (omega arith) y (λ z k. refl);
            full = λ z.
                let a = (j.peaks z).used in
                let b = left_some z in
                full_by fault (t.blocks < t.used + 3) (s.blocks < s.used + (3 * n + 3))
                (λ h. omega (arith, h, a, b, blocks)) (k.full (on_told z));
            peaks = λ z.
                let b = left_some z in
                peaks_then (3 * n + 3) (j.peaks z) (k.peaks (on_told z)) (omega (arith, b));
            moves = λ z.
                let a = j.moves z in
                let b = k.moves (on_told z) in
                let c = moves_rise (wide_of s.pool.shape) root.level (i + 1) n (left_some z) in
                omega (arith, a, b, c, wide, more_moves);
          }

    -- It was the last one.
    module _ (last : held.more ≡ false) where
      all_taken : IsTrue s.device.told → i ≡ length (rows_of s root)
      all_taken z =
          let a = (j.joining z).taken in
          let b : left_rows held.more t root ≡ [] = ap (λ (b : Bool). left_rows b t root) last in
          let c = ap length b in
          omega (arith, a, c)

      end_none : left_blocks held.more t root ≡ []
      end_none = ap (λ (b : Bool). left_blocks b t root) last

      abbrev end_rest : List ℕ
      end_rest = chain_blocks t held.stored ++ leaf_blocks t j.entries

      end_same : (k : ℕ) → tally k (left_blocks held.more t root ++ (chain_blocks t held.stored
          ++ (leaf_blocks t j.entries ++ writer_blocks t v))) ≡ tally k (writer_blocks t v ++ end_rest)
      end_same k =
          let own = chain_blocks t held.stored in
          let ws = writer_blocks t v in
          let ls = leaf_blocks t j.entries in
          let a = tally_append k (left_blocks held.more t root) (own ++ (ls ++ ws)) in
          let b = tally_append k own (ls ++ ws) in
          let c = tally_append k ls ws in
          let d = tally_append k ws end_rest in
          let e = tally_append k own ls in
          let g = ap (tally k) end_none in
          omega (arith, a, b, c, d, e, g)

      end_holds : IsTrue s.device.told → Holds t (writer_blocks t v ++ end_rest)
      end_holds z = holds_same _ (writer_blocks t v ++ end_rest) end_same (j.runs.session.holds z)

      rest_apart : IsTrue t.device.told → Apart end_rest (writer_blocks t v)
      rest_apart y = apart_sym (writer_blocks t v) end_rest
          (distinct_apart (writer_blocks t v) end_rest ((end_holds (on_back y)).distinct y))

      own_apart : IsTrue t.device.told → Apart (chain_blocks t held.stored) (writer_blocks t v)
      own_apart y = apart_left (chain_blocks t held.stored) (leaf_blocks t j.entries) (writer_blocks t v) (rest_apart y)

      leaves_apart : IsTrue t.device.told → Apart (leaf_blocks t j.entries) (writer_blocks t v)
      leaves_apart y =
          apart_right (chain_blocks t held.stored) (leaf_blocks t j.entries) (writer_blocks t v) (rest_apart y)

      -- It was listed,
      module _ {u : RigState} {x : Writer} (l : ListedLeaf t u v x held.low held.stored) where
        sound_on : Sound t
        sound_on = j.runs.session.sound

        abbrev last_entry : Entry
        last_entry = listed_entry sound_on j.chain own_apart l

        last_stay : IsTrue s.device.told → LeavesStay t u j.entries
        last_stay z =
            leaves_stay j.entries l.runs.session.touches (on_told z) (leaves_apart (on_told z)) (j.leaves z)

        last_runs : RunsPaid (blocks_of s root) (leaf_blocks u (j.entries ++ last_entry ∷ []) ++ writer_blocks u x) 0
            (min x.blocks 1) s u
        last_runs =
            let m = min v.blocks 1 in
            let n = min x.blocks 1 in
            let ws = writer_blocks u x in
            let js = l.block ∷ ws in
            let all = leaf_blocks u (j.entries ++ last_entry ∷ []) in
            let both = paid_part (writer_blocks t v) js end_rest 0 (sym (more_zero m)) j.runs (λ z. end_same) l.runs in
            paid_same (all ++ ws) (paid_count 0 (n + 0) 0 n refl (more_zero n) both)
            (λ z i.
            let a = tally_append i js end_rest in
            let b = tally_append i (chain_blocks t held.stored) (leaf_blocks t j.entries) in
            let c = tally_append i all ws in
            let d = ap (tally i) (leaf_blocks_append u j.entries (last_entry ∷ [])) in
            let e = tally_append i (leaf_blocks u j.entries) (leaf_blocks u (last_entry ∷ [])) in
            let f = ap (tally i) (last_stay z).blocks in
            let g = ap (tally i) (entry_blocks sound_on j.chain own_apart l (on_told z)) in
            omega (arith, a, b, c, d, e, f, g))

        joins_last : ListedAll key s u root w x
        joins_last =
            let W : List Record → Type 0 = λ rs. Wrote s u w x rs in
            let n = length (rows_of s root) in
            let lm = l.moves in
            record {
              entries = j.entries ++ last_entry ∷ [];
              runs = last_runs;
              wrote = subst W (sym (listed_append j.entries (last_entry ∷ [])))
                  (wrote_then (listed j.entries) (listed (last_entry ∷ [])) j.wrote
                  (entry_wrote sound_on j.chain own_apart l));
              leaves = λ z. leads_append u j.entries (last_entry ∷ []) (last_stay z).leads
                  (entry_leads sound_on j.chain own_apart l (on_told z));
              joined = λ z.
                  let xs = chain_items t held.stored in
                  let ps = parts_at t j.entries in
                  let L : List (List Record) → Type 0 =
                  λ rs. Joining key least_len (payload_in s) (rows_of s root) i ps held.low xs rs in
                  let before = subst L (ap (λ (b : Bool). left_rows b t root) last) (j.joining z) in
                  let most = leaf_items_most (on_told z) j.chain in
                  let shape : load_of t.pool.shape ≡ least_len = ap load_of j.runs.session.touches.shape in
                  let done = join_end key least_len (payload_in s) (rows_of s root) i ps held.low xs (can.rises z)
                  (omega (arith, most, shape)) before in
                  let same : parts_at u (j.entries ++ last_entry ∷ []) ≡ ps ++ (held.low, xs) ∷ [] =
                  parts_append u j.entries (last_entry ∷ [])
                  ∙ (ap (λ (os : List (Record × List Record)). os ++ parts_at u (last_entry ∷ [])) (last_stay z).parts
                  ∙ ap (λ (os : List (Record × List Record)). ps ++ os)
                  (entry_parts sound_on j.chain own_apart l (on_told z))) in
                  subst (λ (os : List (Record × List Record)). Joined key least_len (payload_in s) (rows_of s root) os)
                  (sym same) done;
              peaks = λ z.
                  let a = all_taken z in
                  peaks_then (3 * n + 3) (j.peaks z) l.peaks (omega (arith, a));
              moves = λ z.
                  let a = j.moves z in
                  let b = all_taken z in
                  let c = moves_rise (wide_of s.pool.shape) root.level i n (omega (arith, b)) in
                  omega (arith, a, lm, c);
            }

      -- or it wasn't.
      joins_unlisted : {u : RigState} {fault : EmFault} → StopsListing t u v fault → StopsListingAll s u root fault
      joins_unlisted {u} {fault} l =
          let m = min v.blocks 1 in
          let n = length (rows_of s root) in
          let lm = l.moves in
          let y = paid_stops (writer_blocks t v) end_rest 0 (sym (more_zero m)) j.runs (λ z. end_same) l.stops in
          let blocks = j.runs.session.touches.blocks in
          record {
            stops = stops_paid_more (blocks_of s root) 3 (omega arith) y (λ z k. refl);
            full = λ z.
                let a = (j.peaks z).used in
                let b = all_taken z in
                full_by fault (t.blocks < t.used + 2) (s.blocks < s.used + (3 * n + 3))
                (λ h. omega (arith, h, a, b, blocks)) l.full;
            peaks = λ z.
                let a = all_taken z in
                peaks_then (3 * n + 3) (j.peaks z) l.peaks (omega (arith, a));
            moves = λ z.
                let a = j.moves z in
                let b = all_taken z in
                let c = moves_rise (wide_of s.pool.shape) root.level i n (omega (arith, b)) in
                omega (arith, a, lm, c);
          }

      pub joins_end : (u : RigState) (x : Writer) (result : Result Unit EmFault)
          → ListsLeaf t u v x held.low held.stored result → ListsAll key s u root w x result
      joins_end u x (Ok y) l = joins_last l
      joins_end u x (Err e) l = joins_unlisted l

-- A fault that is handed on.
pub lists_of : (key : Record → Record) (s t : RigState) (root : Root) (w v : Writer) (result : Result Unit EmFault)
    (e : EmFault) → IsErrAnd result (λ m. m ≡ e) → StopsListingAll s t root e → ListsAll key s t root w v result
lists_of key s t root w v (Ok x) e h y = absurd h
lists_of key s t root w v (Err m) e h y = subst (λ (f : EmFault). StopsListingAll s t root f) (sym h) y
