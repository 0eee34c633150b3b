-- Pairs that are written into a list, one after another.
use Rattle.std.proofs.Common.{◌≡◌, ℕ, ◌+◌, ◌*◌, ◌<◌, ◌≤◌, Bool, IsTrue, List, [], ◌∷◌, ◌++◌, length, min, Result, Ok, Err, sym, subst, ap, ◌∙◌, arith}
use Rattle.std.specs.Prelude.{IsErrAnd, IfErr}
use Rattle.std.proofs.lemmas.List.{length-append}
use Rattle.em_record.specs.Shape.{ShapeNumbers}
use Rattle.em_record.specs.declared.record.Record.{Record}
use Rattle.em_model.specs.declared.command.Command.{Command}
use Rattle.em_model.specs.declared.command.Command.TheVariants.{Put, Add, Del, Get, Sync, Push, Pop, Interval, Stab}
use Rattle.em_space.specs.Held.{Within}
use Rattle.em_space.specs.Rig.{Cause, Goes, RigState, Touches}
use Rattle.em_space.specs.declared.fault.EmFault.{EmFault}
use Rattle.em_space.proofs.Steps.{cause_after, touches_then}
use Rattle.em_space.proofs.Within.{goes_within, touches_within, within_kept, within_same, within_then}
use Rattle.em_chain.specs.Chain.{chain_blocks, payload_in}
use Rattle.em_chain.specs.Counts.{ceiling}
use Rattle.em_chain.specs.Effects.{GivesFrame, LendsFrame, OnlyMoves, Unmoved}
use Rattle.em_chain.specs.Session.{one_more, writer_account}
use Rattle.em_chain.specs.Writer.{writer_blocks}
use Rattle.em_chain.specs.Writes.{AppendCosts, Appends, Begins, Finishes}
use Rattle.em_chain.specs.declared.chain.Chain.{Chain}
use Rattle.em_chain.specs.declared.writer.Writer.{Writer}
use Rattle.em_chain.proofs.Counts.{ceiling_more, writer_blocks_are}
use Rattle.em_chain.proofs.Keeps.{lent_given, lent_same, payload_kept}
use Rattle.em_chain.proofs.Withins.{within_grows}
use Rattle.em_ends.specs.declared.stop.Stop.{Stop}
use Rattle.em_ends.specs.declared.stop.Stop.TheVariants.{Em}
use Rattle.em_rows.specs.Lists.{ListsRows, numbered_pairs}
use Rattle.em_rows.specs.Taken.{AreRows, IsRow, RowsCause}
use Rattle.em_rows.specs.Writing.{WritesRows, WroteRows}
use Rattle.em_rows.specs.declared.kinds.RowKind.{RowKind}
use Rattle.em_rows.specs.declared.kinds.RowKind.TheVariants.{Pair}
use Rattle.em_rows.proofs.RowLaws.{are_more}

-- the records of some pairs and one more
pairs_more : (n m : ℕ) (rows : List Command) (row : Command) → m ≡ n + length rows
    → AreRows Pair rows
    → numbered_pairs n (rows ++ row ∷ []) ≡ numbered_pairs n rows ++ numbered_pairs m (row ∷ [])
pairs_more n m [] row e are =
    let same : n ≡ m = omega (arith, e) in ap (λ (k : ℕ). numbered_pairs k (row ∷ [])) same
pairs_more n m (Push key value ∷ rows) row e are =
    ap (λ (xs : List Record). record { a = key; b = n; c = value; d = 0 } ∷ xs)
    (pairs_more (n + 1) m rows row (omega (arith, e)) are.1)
pairs_more n m (Put key value ∷ rows) row e are = absurd are.0
pairs_more n m (Add key value ∷ rows) row e are = absurd are.0
pairs_more n m (Del key ∷ rows) row e are = absurd are.0
pairs_more n m (Get key ∷ rows) row e are = absurd are.0
pairs_more n m (Sync ∷ rows) row e are = absurd are.0
pairs_more n m (Pop ∷ rows) row e are = absurd are.0
pairs_more n m (Interval low high ∷ rows) row e are = absurd are.0
pairs_more n m (Stab point ∷ rows) row e are = absurd are.0

-- No pair yet,
pub wrote_none : {s : RigState} {w : Writer} → Begins s w → WroteRows [] s s w
wrote_none {s} {w} b = record {
  are = tt;
  is = b.is;
  within = within_kept s [] [] (writer_blocks s w) (within_same s []) (λ z. b.held);
  items = λ z. b.items;
  packed = λ z. b.packed;
  count = b.count;
  blocks = omega (arith, b.blocks);
  filled_is = b.filled_is;
  moves = omega arith;
}

module _ {rows : List Command} {s t : RigState} {w : Writer} (goes : Goes [] s t)
    (wrote : WroteRows rows s t w) where
  -- one more,
  pub wrote_more : {T : Type 0} {u : RigState} {v : Writer} {x : Record} (row : Command) (y : T)
      → IsRow Pair row → numbered_pairs (length rows) (row ∷ []) ≡ x ∷ [] → Appends t u w v x
      → AppendCosts {T = T} t u w v (Ok y) → WroteRows (rows ++ row ∷ []) s u v
  wrote_more {T} {u} {v} {x} row y is e a k =
      let long = length-append rows (row ∷ []) in
      record {
        are = are_more Pair rows row wrote.are is;
        is = a.is;
        within = within_then s t [] (writer_blocks t w) (writer_blocks u v) goes.touches wrote.within
            (within_grows t (writer_blocks t w) (writer_blocks u v) a.grown);
        items = λ z.
            a.items (goes.touches.told ∙ z)
            ∙ ap (λ (xs : List Record). xs ++ x ∷ []) (wrote.items z)
            ∙ ap (λ (xs : List Record). numbered_pairs 0 rows ++ xs) (sym e)
            ∙ sym (pairs_more 0 (length rows) rows row (omega arith) wrote.are);
        packed = λ z. a.packed (goes.touches.told ∙ z) (wrote.packed z);
        count = omega (arith, a.count_is, wrote.count, long);
        blocks = omega (arith, k.more, wrote.blocks, long);
        filled_is = omega (arith, a.filled_is, wrote.filled_is, long);
        moves = let m = k.moves in omega (arith, m, wrote.moves);
      }

  pub goes_more : {u : RigState} → Goes (writer_blocks t w) t u → Goes [] s u
  goes_more {u} g = goes_within [] (writer_blocks t w) s t u goes wrote.within g

  payload_same : payload_in t ≡ payload_in s
  payload_same = payload_kept [] s t goes.touches

  payload_some : 0 < payload_in s
  payload_some =
      let low = goes.sound.shape.block_low in
      let same = ap (λ (p : ShapeNumbers). p.block) goes.touches.shape in omega (arith, low, same)

  blocks_are : w.blocks ≡ ceiling (length rows) (payload_in s)
  blocks_are =
      writer_blocks_are t w goes.sound.shape.block_low wrote.is
      ∙ ap (λ (n : ℕ). ceiling n (payload_in t)) wrote.filled_is
      ∙ ap (λ (p : ℕ). ceiling (length rows) p) payload_same

  -- within the moves of a list of them and some more,
  pub wrote_within : (n : ℕ) → length rows ≤ n
      → t.moves ≤ s.moves + 2 * ceiling n (payload_in s)
  wrote_within n few =
      let more = ceiling_more (length rows) n (payload_in s) payload_some few in
      omega (arith, wrote.moves, blocks_are, more)

  -- also if the call for one more was refused.
  pub refused_within : (u : RigState) (n : ℕ)
      → u.moves + (writer_account w).paid ≤ t.moves + (writer_account w).owed + 2 * one_more t w
      → length rows + 1 ≤ n → u.moves ≤ s.moves + 2 * ceiling n (payload_in s)
  refused_within u n h few =
      let more = ceiling_more (length rows + 1) n (payload_in s) payload_some few in
      let last : one_more t w ≡ ceiling (length rows + 1) (payload_in s) =
      ap (λ (k : ℕ). ceiling (k + 1) (payload_in t)) wrote.filled_is
      ∙ ap (λ (q : ℕ). ceiling (length rows + 1) q) payload_same in
      omega (arith, wrote.moves, more, last, h)

-- A call on the rig that was refused is a stop.
pub stops_em : {T : Type 0} (tells : Bool) (kind : RowKind) (text : List ℕ) (faults after : ℕ)
    (s t u : RigState) (fault : EmFault) (result : Result T Stop) → IsErrAnd result (λ e. e ≡ Em fault)
    → Touches [] s t → Cause t u fault
    → IfErr result (RowsCause tells kind text faults after s u)
stops_em tells kind text faults after s t u fault (Ok x) is touches cause = absurd is
stops_em tells kind text faults after s t u fault (Err e) is touches cause =
    subst (λ (f : Stop). RowsCause tells kind text faults after s u f) (sym is)
    (cause_after [] s t u fault touches cause)

-- A writer was made, pairs were written, and the frame is back.
pub list_goes : {s a t u : RigState} (ks : List ℕ) → LendsFrame s a → Goes [] a t → Within a [] ks
    → GivesFrame ks t u → Goes [] s u
list_goes {s} {a} {t} {u} ks lends goes within gives = record {
  sound = gives.sound;
  touches = touches_within s t u [] ks (touches_then [] s a t lends.touches goes.touches)
      (within_then s a [] [] ks lends.touches (within_same s []) within) gives.touches;
  frames = lent_given s.pool t.pool u.pool (lent_same 1 s.pool a.pool t.pool lends.frames goes.frames)
      gives.frames;
}

-- So a list of all pairs of a text was made.
pub list_made : {tells : Bool} {text : List ℕ} {s a t u : RigState} {w : Writer} {c : Chain}
    → LendsFrame s a → Unmoved s a → Goes [] a t → WritesRows tells text a t w
    → GivesFrame (writer_blocks t w) t u → Finishes t u w c → OnlyMoves (min w.blocks 1) t u
    → ListsRows tells text s u c
list_made {tells} {text} {s} {a} {t} {u} {w} {c} lends still goes writes gives finishes only =
    let wrote = writes.wrote in
    let all = list_goes (writer_blocks t w) lends goes wrote.within gives in
    let told_made : IsTrue s.device.told → IsTrue a.device.told = λ z. lends.touches.told ∙ z in
    let told_then : IsTrue s.device.told → IsTrue t.device.told =
    λ z. goes.touches.told ∙ told_made z in
    record {
      pairs = writes.pairs;
      told = writes.told;
      items = λ z. finishes.items (told_then z) ∙ wrote.items (told_made z);
      is = finishes.is;
      packed = λ z. finishes.packed (told_then z) (wrote.packed (told_made z));
      count = finishes.count_is ∙ wrote.count;
      few = omega (arith, finishes.count_is, wrote.count, writes.few);
      session = record {
        sound = gives.sound;
        touches = all.touches;
        within = within_kept s [] (writer_blocks t w) (chain_blocks u c)
            (within_then s a [] [] (writer_blocks t w) lends.touches (within_same s []) wrote.within)
            (λ z. finishes.blocks (told_then z));
        holds = λ z. (finishes.is.told (all.touches.told ∙ z)).holds;
      };
      moves = omega (arith, only.moves, wrote.moves, still.moves, finishes.blocks_is);
    }
