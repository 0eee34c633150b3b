-- The texts of two files, and why their reading or what comes after it stopped.
use Rattle.std.proofs.Common.{◌≡◌, ℕ, ◌≤◌, List, [], ap, sym, subst, ◌∙◌, arith, Bool, IsTrue, inl, inr, Option, Result, Ok, Err, IfErr, IsSome, Some, None}
use Rattle.std.specs.Prelude.{OnOk, unwrap_or, false}
use Rattle.em_io.specs.Feed.{Fed, rest}
use Rattle.em_io.specs.Shelf.{IsFresh, Leaves, Stand}
use Rattle.em_io.specs.declared.shelf.Slot.{Slot}
use Rattle.em_io.specs.declared.shelf.Slot.TheVariants.{First, Second}
use Rattle.em_space.specs.Rig.{RigState, Touches}
use Rattle.em_space.proofs.Steps.{block_cause, cause_after}
use Rattle.em_chain.specs.Effects.{Unmoved}
use Rattle.em_ends.specs.Opens.{text_in}
use Rattle.em_ends.specs.Stop.{fault_counts, reading}
use Rattle.em_ends.specs.declared.status.Malform.TheVariants.{Text, Base, Aig}
use Rattle.em_ends.specs.declared.stop.Stop.{Stop}
use Rattle.em_ends.specs.declared.stop.Stop.TheVariants.{Fault, Read, Write, Em}
use Rattle.em_answers.specs.Print.{PrintCause}
use Rattle.em_answers.proofs.ReadingStops.{cause_unmoved}
use Rattle.em_rows.specs.Answered.{AreThere, AreWhole, TextsCause}
use Rattle.em_rows.specs.Rows.{row_fault}
use Rattle.em_rows.specs.Taken.{OnUnread, ReadsRows, RowsCause}
use Rattle.em_rows.specs.declared.answering.Plan.{Plan}
use Rattle.em_rows.specs.declared.kinds.RowKind.{RowKind}

-- What a new feed of an opened slot gives is the text of the slot's file.
pub text_fed : (before after : Stand) (slot : Slot) (name : List ℕ) (feed : Fed)
    → feed ≡ record { slot = slot; ahead = []; place = 0 } → before.text slot name ≡ Some (after.slot slot).left
    → rest feed after ≡ text_in before slot (Some name)
text_fed before after slot name feed e whole =
    subst (λ (x : Fed). rest x after ≡ text_in before slot (Some name)) (sym e)
    (sym (ap (λ text. unwrap_or text []) whole))

-- So the rows that a feed gave are those of the file: its reading ended so,
pub fed_whole : {T E : Type 0} (kind : RowKind) (a b left : List ℕ) (result : Result T E) → a ≡ b
    → OnOk result (ReadsRows kind a left) → OnOk result (row_fault kind b ≡ None)
fed_whole kind a b left (Ok x) e reads = ap (row_fault kind) (sym e) ∙ reads.fault
fed_whole kind a b left (Err stop) e reads = tt

-- or it stopped, after the slot was opened.
fed_stop : (tells : Bool) (kind : RowKind) (a b : List ℕ) (faults mid after : ℕ) (s t : RigState) (stop : Stop)
    → (IsTrue tells → a ≡ b) → faults ≤ mid → RowsCause tells kind a mid after s t stop
    → RowsCause tells kind b faults after s t stop
fed_stop tells kind a b faults mid after s t (Fault (Text fault) line) e later cause = λ told.
    ap (row_fault kind) (sym (e told)) ∙ cause told
fed_stop tells kind a b faults mid after s t (Fault (Base fault) place) e later cause = cause
fed_stop tells kind a b faults mid after s t (Fault (Aig fault) place) e later cause = cause
fed_stop tells kind a b faults mid after s t Read e later cause = omega (arith, later, cause)
fed_stop tells kind a b faults mid after s t Write e later cause = cause
fed_stop tells kind a b faults mid after s t (Em fault) e later cause = cause

pub fed_stops : {T : Type 0} (tells : Bool) (kind : RowKind) (a b : List ℕ) (faults mid after : ℕ) (s t : RigState)
    (result : Result T Stop) → (IsTrue tells → a ≡ b) → faults ≤ mid
    → IfErr result (RowsCause tells kind a mid after s t) → IfErr result (RowsCause tells kind b faults after s t)
fed_stops tells kind a b faults mid after s t (Ok x) e later cause = tt
fed_stops tells kind a b faults mid after s t (Err stop) e later cause =
    fed_stop tells kind a b faults mid after s t stop e later cause

-- The second slot is as it was after the first one was read,
pub second_unopened : (a b : Stand) → IsFresh a → Leaves First a b → (b.slot Second).opened ≡ false
second_unopened a b fresh leaves = ap (λ s. s.opened) (leaves.others Second (λ e. cc)) ∙ fresh.second.opened

-- and so is the text of its file.
pub second_same : (a b : Stand) (name : List ℕ) → Leaves First a b
    → text_in b Second (Some name) ≡ text_in a Second (Some name)
second_same a b name leaves = ap (λ (text : Slot → List ℕ → _). unwrap_or (text Second name) []) leaves.text

-- The first text stopped it,
pub first_stop : (tells : Bool) (plan : Plan) (a b : List ℕ) (faults after : ℕ) (s t : RigState) (stop : Stop)
    → RowsCause tells plan.first a faults after s t stop
    → TextsCause tells plan a b (reading faults) (reading after) s t stop
first_stop tells plan a b faults after s t (Fault (Text fault) line) cause = λ told. inl (cause told)
first_stop tells plan a b faults after s t (Fault (Base fault) place) cause = cause
first_stop tells plan a b faults after s t (Fault (Aig fault) place) cause = cause
first_stop tells plan a b faults after s t Read cause = cause
first_stop tells plan a b faults after s t Write cause = absurd cause
first_stop tells plan a b faults after s t (Em fault) cause = cause

-- or, after the whole first one, the second.
second_stop : (tells : Bool) (plan : Plan) (a b : List ℕ) (faults mid after : ℕ) (held : List ℕ)
    (s t u : RigState) (stop : Stop) → (IsTrue tells → row_fault plan.first a ≡ None) → faults ≤ mid
    → Touches held s t → RowsCause tells plan.second b mid after t u stop
    → TextsCause tells plan a b (reading faults) (reading after) s u stop
second_stop tells plan a b faults mid after held s t u (Fault (Text fault) line) none later touches cause =
    λ told. inr (none told, cause told)
second_stop tells plan a b faults mid after held s t u (Fault (Base fault) place) none later touches cause = cause
second_stop tells plan a b faults mid after held s t u (Fault (Aig fault) place) none later touches cause = cause
second_stop tells plan a b faults mid after held s t u Read none later touches cause = omega (arith, later, cause)
second_stop tells plan a b faults mid after held s t u Write none later touches cause = absurd cause
second_stop tells plan a b faults mid after held s t u (Em fault) none later touches cause =
    cause_after held s t u fault touches cause

pub second_stops : {T : Type 0} (tells : Bool) (plan : Plan) (a b : List ℕ) (faults mid after : ℕ) (held : List ℕ)
    (s t u : RigState) (result : Result T Stop) → (IsTrue tells → row_fault plan.first a ≡ None) → faults ≤ mid
    → Touches held s t → IfErr result (RowsCause tells plan.second b mid after t u)
    → IfErr result (TextsCause tells plan a b (reading faults) (reading after) s u)
second_stops tells plan a b faults mid after held s t u (Ok x) none later touches cause = tt
second_stops tells plan a b faults mid after held s t u (Err stop) none later touches cause =
    second_stop tells plan a b faults mid after held s t u stop none later touches cause

-- Both are whole.
pub both_whole : {T E : Type 0} (plan : Plan) (a b : List ℕ) (result : Result T E) → row_fault plan.first a ≡ None
    → OnOk result (row_fault plan.second b ≡ None) → OnOk result (AreWhole plan a b)
both_whole plan a b (Ok x) first second = record { first = first; second = second }
both_whole plan a b (Err e) first second = tt

-- Both are there.
pub both_there : {T E : Type 0} (a b : Stand) (first second : List ℕ) (result : Result T E) → Leaves First a b
    → IsSome (a.text First first) → OnOk result (IsSome (b.text Second second))
    → OnOk result (AreThere a first second)
both_there a b first second (Ok x) leaves one two = record {
  first = one;
  second = subst (λ (text : Slot → List ℕ → Option (List ℕ)). IsSome (text Second second)) leaves.text two;
}
both_there a b first second (Err e) leaves one two = tt

-- A stop of the reading stays one if calls came before, and one after that moved nothing.
pub texts_around : (tells : Bool) (plan : Plan) (a b : List ℕ) (faults after : ℕ) (held : List ℕ)
    (s t u v : RigState) (stop : Stop) → Touches held s t → Touches [] u v → Unmoved u v
    → TextsCause tells plan a b (reading faults) (reading after) t u stop
    → TextsCause tells plan a b (reading faults) (reading after) s v stop
texts_around tells plan a b faults after held s t u v (Fault (Text fault) line) before then still cause = cause
texts_around tells plan a b faults after held s t u v (Fault (Base fault) place) before then still cause = cause
texts_around tells plan a b faults after held s t u v (Fault (Aig fault) place) before then still cause = cause
texts_around tells plan a b faults after held s t u v Read before then still cause = cause
texts_around tells plan a b faults after held s t u v Write before then still cause = cause
texts_around tells plan a b faults after held s t u v (Em fault) before then still cause =
    cause_unmoved s u v fault then still (cause_after held s t u fault before cause)

-- The output is no part of it,
pub texts_read : (tells : Bool) (plan : Plan) (a b : List ℕ) (faults after write write_after : ℕ) (s t : RigState)
    (stop : Stop) → TextsCause tells plan a b (reading faults) (reading after) s t stop
    → TextsCause tells plan a b (fault_counts faults write) (fault_counts after write_after) s t stop
texts_read tells plan a b faults after write write_after s t (Fault (Text fault) line) cause = cause
texts_read tells plan a b faults after write write_after s t (Fault (Base fault) place) cause = cause
texts_read tells plan a b faults after write write_after s t (Fault (Aig fault) place) cause = cause
texts_read tells plan a b faults after write write_after s t Read cause = cause
texts_read tells plan a b faults after write write_after s t Write cause = absurd (omega (arith, cause))
texts_read tells plan a b faults after write write_after s t (Em fault) cause = cause

-- but of what is printed after it.
texts_printed : (tells : Bool) (plan : Plan) (a b : List ℕ) (faults after write write_after : ℕ) (s t u : RigState)
    (stop : Stop) → Touches [] s t → PrintCause write write_after t u stop
    → TextsCause tells plan a b (fault_counts faults write) (fault_counts after write_after) s u stop
texts_printed tells plan a b faults after write write_after s t u (Fault fault place) touches cause = absurd cause
texts_printed tells plan a b faults after write write_after s t u Read touches cause = absurd cause
texts_printed tells plan a b faults after write write_after s t u Write touches cause = cause
texts_printed tells plan a b faults after write write_after s t u (Em fault) touches cause =
    cause_after [] s t u fault touches (block_cause t u fault cause)

pub printed_stops : {T : Type 0} (tells : Bool) (plan : Plan) (a b : List ℕ) (faults after write write_after : ℕ)
    (s t u : RigState) (result : Result T Stop) → Touches [] s t
    → IfErr result (PrintCause write write_after t u)
    → IfErr result (TextsCause tells plan a b (fault_counts faults write) (fault_counts after write_after) s u)
printed_stops tells plan a b faults after write write_after s t u (Ok x) touches cause = tt
printed_stops tells plan a b faults after write write_after s t u (Err stop) touches cause =
    texts_printed tells plan a b faults after write write_after s t u stop touches cause

-- What holds at any stop holds if a text couldn't be read to its end;
pub unread_always : (P : Type 0) (stop : Stop) → P → OnUnread stop P
unread_always P (Fault fault place) p = p
unread_always P Read p = p
unread_always P Write p = tt
unread_always P (Em fault) p = tt

-- what only prints never stops at a text.
printed_unread : (P : Type 0) (faults after : ℕ) (s t : RigState) (stop : Stop) → PrintCause faults after s t stop
    → OnUnread stop P
printed_unread P faults after s t (Fault fault place) cause = absurd cause
printed_unread P faults after s t Read cause = absurd cause
printed_unread P faults after s t Write cause = tt
printed_unread P faults after s t (Em fault) cause = tt

pub printed_unreads : {T : Type 0} (P : Type 0) (faults after : ℕ) (s t : RigState) (result : Result T Stop)
    → IfErr result (PrintCause faults after s t) → IfErr result (λ stop. OnUnread stop P)
printed_unreads P faults after s t (Ok x) cause = tt
printed_unreads P faults after s t (Err stop) cause = printed_unread P faults after s t stop cause
