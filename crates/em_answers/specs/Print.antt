-- The text of answers that are records: docs/FORMATS.md, "Records of answers".
use Rattle.std.specs.Prelude.{◌≡◌, ℕ, zero, suc, ◌+◌, ◌<◌, ◌≤◌, ◌==◌, if◌then◌else◌, false, List, [], ◌∷◌, ◌++◌, map, Option, Some, None, option_map, option_to_list, IfErr, IfNone, IsTrue, OnOk, Result}
use Rattle.em_record.specs.declared.record.Record.{Record}
use Rattle.em_io.specs.Sink.{Sent, SentPart}
use Rattle.em_io.specs.declared.sink.Sink.{Ghosts as SinkGhosts}
use Rattle.em_space.specs.Rig.{RigState, Goes, Sound, BlockCause}
use Rattle.em_chain.specs.Reader.{IsReader, ReaderHasFrame, owed, reader_items}
use Rattle.em_chain.specs.declared.reader.Reader.{Reader}
use Rattle.em_lines.specs.BaseLine.{pairs_text}
use Rattle.em_answers.specs.Answer.{map_text, stab_text}
use Rattle.em_ends.specs.declared.stop.Stop.{Stop}
use Rattle.em_lines.specs.declared.text.FileKind.{FileKind}
use Rattle.em_lines.specs.declared.text.FileKind.TheVariants.{Map, Queue, Stab, Dump}
use Rattle.em_record.specs.Count.{Rose}
use Rattle.em_ends.specs.declared.stop.Stop.TheVariants.{Fault, Read, Write, Em}
use Rattle.em_ends.specs.Stop.{UnlessWrite}

-- the answer to a get
abbrev pub answer_in : Record → Option ℕ
answer_in r = if r.b == 0 then None else Some r.c

-- the answers to gets
abbrev pub answers_in : List Record → List (Option ℕ)
answers_in items = map answer_in items

-- the intervals of the first pairs, which are those of this stab
abbrev pub intervals_at : ℕ → List Record → List ℕ
intervals_at stab [] = []
intervals_at stab (x ∷ xs) = if x.a == stab then x.b ∷ intervals_at stab xs else []

-- the pairs after them
abbrev pub pairs_behind : ℕ → List Record → List Record
pairs_behind stab [] = []
pairs_behind stab (x ∷ xs) = if x.a == stab then pairs_behind stab xs else x ∷ xs

-- the answers to this many stabs, of which the first has this number
abbrev pub groups_from : ℕ → ℕ → List Record → List (List ℕ)
groups_from stab zero items = []
groups_from stab (suc n) items =
    intervals_at stab items ∷ groups_from (stab + 1) n (pairs_behind stab items)

-- the key and the value of each pair's record
abbrev pub pairs_in : List Record → List (ℕ × ℕ)
pairs_in items = map (λ r. (r.a, r.d)) items

-- the text of the records of answers of a file of this kind, and of this many stabs
abbrev pub records_text : FileKind → ℕ → List Record → List ℕ
records_text Map stabs items = map_text (answers_in items)
records_text Queue stabs items = []
records_text Stab stabs items = stab_text (groups_from 0 stabs items)
records_text Dump stabs items = pairs_text (pairs_in items)

-- the answer to a pop: the key and the value of the record that was popped
abbrev pub popped_in : Option Record → Option (ℕ × ℕ)
popped_in item = option_map (λ r. (r.a, r.c)) item

-- A reader that leaves its blocks to a chain.
pub record LooksAt (s : RigState) (r : Reader) : Type 0 where
  pub is : IsReader s r
  pub over : r.taking ≡ false

-- Such a reader may be read: a frame is free for it.
pub record Looks (s : RigState) (r : Reader) : Type 0 where
  pub sound : Sound s
  pub reader : LooksAt s r
  pub free : 0 < s.pool.free

-- No block was changed, taken or released.
pub record KeepsBlocks (s t : RigState) : Type 0 where
  pub goes : Goes [] s t
  pub used : t.used ≡ s.used
  pub most : t.most ≡ s.most

-- Records were read, which changed no block, and the reader's frame is the pool's.
pub record ReadsOn (s t : RigState) (r : Reader) : Type 0 where
  pub keeps : KeepsBlocks s t
  pub frame : ReaderHasFrame t r

-- A stop of a call that only prints: the output's count of faults rose, or a call on the rig
-- failed. Printing takes no block, so it is never full.
abbrev pub PrintCause : ℕ → ℕ → RigState → RigState → Stop → Type 0
PrintCause faults after old new (Fault kind place) = ⊥
PrintCause faults after old new Read = ⊥
PrintCause faults after old new Write = Rose faults after
PrintCause faults after old new (Em fault) = BlockCause old new fault

-- No count of faults of the output fell, and a stop has its cause.
pub record PrintStops {T W : Type 0} (w : SinkGhosts W) (out out_after : W) (s t : RigState)
    (result : Result T Stop) : Type 0 where
  pub later : w.faults out ≤ w.faults out_after
  pub cause : IfErr result (PrintCause (w.faults out) (w.faults out_after) s t)

-- The moves are within what a reader owed; and at Ok also with what it owes still.
pub record ReadsWithin {T : Type 0} (s t : RigState) (r q : Reader) (result : Result T Stop)
    : Type 0 where
  pub moves : t.moves ≤ s.moves + owed r
  pub left : OnOk result (t.moves + owed q ≤ s.moves + owed r)

-- From a first pair, if any, and a reader of those after it, all pairs of a stab were read: another
-- one is the next, if any, and a reader has those after it.
pub record IsBehind (stab : ℕ) (s t : RigState) (first : Option Record) (r : Reader)
    (next : Option Record) (q : Reader) : Type 0 where
  pub reader : LooksAt t q
  pub none : IfNone next (q.count ≡ 0)
  pub items : IsTrue s.device.told → option_to_list next ++ reader_items t q
      ≡ pairs_behind stab (option_to_list first ++ reader_items s r)

-- Of this text a front went out or is pending; the others of its bytes weren't made.
pub record PrintedPart (took : List ℕ → List ℕ → List ℕ) (old text new pending : List ℕ)
    : Type 0 where
  pub left : List ℕ
  pub front : Sent took old text new (pending ++ left)

-- What a call printed: the whole text went out or is pending; or, unless the output failed, a front of
-- it; and even then a front went out.
pub record PrintsInto {T : Type 0} (took : List ℕ → List ℕ → List ℕ)
    (text old new pending : List ℕ) (result : Result T Stop) : Type 0 where
  pub all : OnOk result (Sent took old text new pending)
  pub front : UnlessWrite result (PrintedPart took old text new pending)
  pub part : SentPart took old text new
