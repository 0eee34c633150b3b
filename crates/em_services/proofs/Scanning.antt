-- Services that keep their commands in a list: what their calls leave.
use Rattle.std.proofs.Common.{◌≡◌, ℕ, ◌+◌, ◌*◌, List, [], ◌∷◌, ◌++◌, length, ap, append_assoc, drop, refl, sym, ◌∙◌, subst, arith, IsTrue, Some, None, Result, Ok, Err, OnOk, OnErr, IfOk, inr, take, ◌<◌, ◌≤◌, IfErr}
use Rattle.std.proofs.lemmas.List.{length-append}
use Rattle.em_model.specs.declared.command.Command.{Command}
use Rattle.em_record.specs.declared.record.Record.{Record}
use Rattle.em_space.specs.Queue.{Pays}
use Rattle.em_space.specs.Rig.{RigState, Cause, Sound}
use Rattle.em_space.specs.declared.fault.EmFault.{EmFault}
use Rattle.em_space.proofs.Paying.{pays_more}
use Rattle.em_chain.specs.Chain.{chain_items}
use Rattle.em_chain.specs.Effects.{GivesFrame, LendsFrame, Unmoved, OnFull}
use Rattle.em_chain.specs.declared.chain.Chain.{Chain}
use Rattle.em_plain.specs.CommandList.{AnsweredBy, BeginsList, IsCommandList, Noted, held, list_blocks, list_commands, list_len}
use Rattle.em_plain.specs.Room.{StaysWithin, plain_room}
use Rattle.em_model.specs.StabAnswers.{stab_pairs}
use Rattle.em_plain.specs.declared.command_list.CommandList.{CommandList}
use Rattle.em_plain.specs.ScanMap.{IsScanMap, answered_of, due_of}
use Rattle.em_plain.specs.declared.scan_map.ScanMap.{ScanMap}
use Rattle.em_services.specs.ScanService.{HoldsCommands, HoldsParts, list_counts}
use Rattle.em_services.specs.Service.{GivesFrames, LeavesAnswers, MakesService, TakesCommand, FullOverRoom, WithinRoom}
use Rattle.em_space.specs.declared.fault.EmFault.TheVariants.{DeviceFault, Full, Damaged}
use Rattle.em_chain.specs.Counts.{ceiling}
use Rattle.em_chain.proofs.Counts.{writer_blocks_are}
use Rattle.em_record.specs.Shape.{payload_of}
use Rattle.em_chain.proofs.Sessions.{ceiling_rises}
use Rattle.em_tree_walk.proofs.Losses.{writer_length}
use Rattle.em_model.specs.MapAnswers.{answers_after}
use Rattle.std.proofs.Math.Seq.{drop-append_seam, take-append_seam}
use Rattle.em_services.proofs.AnswerOrder.{records_few}
use Rattle.em_map.proofs.Areas.{given_singles}
use Rattle.em_settle.specs.Add.{apply_of}

-- the blocks of a list are those that its commands fill
pub list_held : (s : RigState) (l : CommandList) → Sound s → IsCommandList s l
    → held l ≡ ceiling (list_len l) (payload_of s.pool.shape)
list_held s l sound i =
    writer_blocks_are s l.writer sound.shape.block_low i.writer
    ∙ ap (λ (n : ℕ). ceiling n (payload_of s.pool.shape)) i.filled_is

-- A list was begun.
pub list_made : (s t : RigState) (l : CommandList) → LendsFrame s t → Unmoved s t → BeginsList t l
    → MakesService None (Some plain_room) 1 (list_blocks t l) (list_counts l) s t
list_made s t l lends still b = record {
  sound = lends.sound;
  touches = lends.touches;
  frames_are = lends.frames;
  within = record { off = λ z j u o. rw b.blocks tt };
  n = b.len;
  syncs = refl;
  pays = record { is = inr (omega (arith, still.same.used, still.moves)) };
  used = λ z. let none = ap length b.blocks in omega (arith, none, still.same.used);
  spent = tt;
}

pub none_held : (t : RigState) (l : CommandList) → BeginsList t l → HoldsCommands t l []
none_held t l b = record { n = b.len; commands = λ told. b.commands }

pub parts_none : {F : Type 0} (t : RigState) (m : ScanMap F) → BeginsList t m.list → answered_of m ≡ 0 → HoldsParts t m [] []
parts_none t m b none = record { all = none_held t m.list b; answered = none }

pub room_still : (s t : RigState) → Unmoved s t → WithinRoom (Some plain_room) 0 [] s t
room_still s t still = λ z. record { is = omega (arith, still.same.most) }

-- It took a command.
pub list_takes : {T : Type 0} (s t : RigState) (l m : CommandList) (c : Command)
    (result : Result T EmFault) → IsCommandList s l → Noted s t l m c result
    → OnOk result (TakesCommand None (Some plain_room) 0 (list_blocks s l) (list_blocks t m)
    (list_counts l) (list_counts m) s t)
list_takes s t l m c (Ok x) i h =
    let n = h.notes in
    record {
      within = n.within;
      n = n.len;
      syncs = tt;
      pays = n.pays;
      used = λ z.
          let used = n.used in
          let before = writer_length i.writer z in
          let after = writer_length n.is.writer (h.goes.touches.told ∙ z) in
          omega (arith, used, before, after);
      spent = λ z. tt;
    }
list_takes s t l m c (Err fault) i h = tt

pub list_has : {T : Type 0} (s t : RigState) (l m : CommandList) (c : Command)
    (result : Result T EmFault) → Noted s t l m c result
    → OnOk result ((cs : List Command) → HoldsCommands s l cs → HoldsCommands t m (cs ++ c ∷ []))
list_has s t l m c (Ok x) h =
    let n = h.notes in
    λ cs k. record {
      n = let e = length-append cs (c ∷ []) in omega (arith, e, n.len, k.n);
      commands = λ told.
          let z : IsTrue s.device.told = sym h.goes.touches.told ∙ told in
          n.commands z ∙ ap (λ (x : List Command). x ++ c ∷ []) (k.commands z);
    }
list_has s t l m c (Err fault) h = tt

-- commands that are all but one
one_more : (before cs : List Command) (c : Command) → (before ++ cs) ++ c ∷ [] ≡ before ++ (cs ++ c ∷ [])
one_more before cs c = append_assoc before cs (c ∷ [])

pub list_has_more : {T : Type 0} (s t : RigState) (l m : CommandList) (c : Command)
    (result : Result T EmFault) → Noted s t l m c result
    → OnOk result ((before cs : List Command) → HoldsCommands s l (before ++ cs)
    → HoldsCommands t m (before ++ (cs ++ c ∷ [])))
list_has_more s t l m c (Ok x) h = λ before cs k.
    subst (λ (xs : List Command). HoldsCommands t m xs) (one_more before cs c)
    (list_has s t l m c (Ok x) h (before ++ cs) k)
list_has_more s t l m c (Err fault) h = tt

-- The same of a map, whose syncs answered none more.
pub parts_more : {F : Type 0} {T : Type 0} (s t : RigState) (m n : ScanMap F) (c : Command) (result : Result T EmFault)
    → Noted s t m.list n.list c result → answered_of n ≡ answered_of m
    → OnOk result ((before cs : List Command) → HoldsParts s m before cs → HoldsParts t n before (cs ++ c ∷ []))
parts_more s t m n c (Ok x) h e = λ before cs k. record {
  all = list_has_more s t m.list n.list c (Ok x) h before cs k.all;
  answered = e ∙ k.answered;
}
parts_more s t m n c (Err fault) h e = tt

pub list_is : {T : Type 0} (s t : RigState) (l m : CommandList) (c : Command)
    (result : Result T EmFault) → Noted s t l m c result → OnOk result (IsCommandList t m)
list_is s t l m c (Ok x) h = h.notes.is
list_is s t l m c (Err fault) h = tt

-- At no moment it held more than its room.
pub take_room : {T : Type 0} (s t : RigState) (l m : CommandList) (c : Command)
    (result : Result T EmFault) → IsCommandList s l → Noted s t l m c result
    → WithinRoom (Some plain_room) (list_len l + 1) (list_blocks s l) s t
take_room s t l m c result i h = λ z.
    let own = writer_length i.writer z in
    let most = h.costs.most.is in record { is = omega (arith, own, most) }

pub take_full : {T : Type 0} (s t : RigState) (l m : CommandList) (c : Command)
    (result : Result T EmFault) → Sound s → IsCommandList s l → Noted s t l m c result
    → IfErr result (FullOverRoom (Some plain_room) (list_len l + 1) (list_blocks s l) s)
take_full s t l m c (Ok x) sound i h = tt
take_full s t l m c (Err DeviceFault) sound i h = λ z. tt
take_full s t l m c (Err (Full used)) sound i h = λ z.
    let own = writer_length i.writer z in
    let held = list_held s l sound i in
    let low = sound.shape.block_low in
    let more = ceiling_rises (list_len l) (list_len l + 1) (payload_of s.pool.shape) (omega (arith, low))
    (omega arith) in
    let cause = h.cause in
    let same = h.costs.full in
    omega (arith, own, held, more, cause.0, cause.1, same)
take_full s t l m c (Err (Damaged block)) sound i h = λ z. tt

-- It was answered.
pub list_gives : (ks : List ℕ) (s t : RigState) → GivesFrame ks s t → GivesFrames 1 0 ks s t
list_gives ks s t g = record {
  sound = g.sound;
  touches = g.touches;
  frames_are = given_singles 1 s.pool t.pool g.frames;
}

pub list_leaves : (s t : RigState) (l : CommandList) (items : List Record)
    (result : Result Chain EmFault) → IsCommandList s l → IfOk result (AnsweredBy s t l items)
    → IfOk result (LeavesAnswers (Some plain_room) (list_blocks s l) (list_counts l) s t)
list_leaves s t l items (Ok c) i a = record {
  is = a.is;
  packed = a.packed;
  within = a.within;
  pays = a.pays;
  used = λ z. let used = a.used in let own = writer_length i.writer z in omega (arith, used, own);
}
list_leaves s t l items (Err fault) i a = tt

-- A call that gave up owes no more than two blocks for each frame.
pub list_owes : (n : ℕ) (s t : RigState) (result : Result Chain EmFault)
    → OnErr result (Pays n s.pool.shape.frames s t)
    → OnErr result (Pays n (2 * s.pool.shape.frames) s t)
list_owes n s t (Ok c) p = tt
list_owes n s t (Err fault) p = pays_more p (omega arith)

-- The pairs are those of the commands that it holds.
pub stab_items : (s t : RigState) (l : CommandList) (result : Result Chain EmFault)
    → IfOk result (AnsweredBy s t l (stab_pairs (list_commands s l)))
    → IfOk result (λ c. IsTrue s.device.told → (before cs : List Command) → HoldsCommands s l (before ++ cs)
    → chain_items t c ≡ stab_pairs (before ++ cs))
stab_items s t l (Ok c) a = λ told before cs h. a.items_are told ∙ ap stab_pairs (h.commands told)
stab_items s t l (Err fault) a = tt

-- A list that is answered takes no more than its commands and its records fill twice over.
module _ (s t : RigState) (l : CommandList) (sound : Sound s) (i : IsCommandList s l) (records size : ℕ)
    (given : list_len l ≤ size) (few : records ≤ size) where
  both_fit : held l + ceiling records (payload_of s.pool.shape) ≤ plain_room s.pool.shape size
  both_fit =
      let own = list_held s l sound i in
      let low = sound.shape.block_low in
      let one = ceiling_rises (list_len l) size (payload_of s.pool.shape) (omega (arith, low)) given in
      let two = ceiling_rises records size (payload_of s.pool.shape) (omega (arith, low)) few in
      omega (arith, own, one, two)

  pub answered_full : (result : Result Chain EmFault)
      → (IsTrue s.device.told → IfErr result (λ fault. OnFull fault
      (s.blocks < s.used + ceiling records (payload_of s.pool.shape))))
      → IfErr result (Cause s t) → t.blocks ≡ s.blocks
      → IfErr result (FullOverRoom (Some plain_room) size (list_blocks s l) s)
  answered_full (Ok c) full cause same = tt
  answered_full (Err DeviceFault) full cause same = λ z. tt
  answered_full (Err (Full used)) full cause same = λ z.
      let over = full z in
      let own = writer_length i.writer z in
      let fit = both_fit in
      omega (arith, over, cause.0, same, own, fit)
  answered_full (Err (Damaged block)) full cause same = λ z. tt

pub map_room : {F : Type 0} (s t : RigState) (m : ScanMap F) → IsScanMap s m → (before cs : List Command)
    → HoldsParts s m before cs → StaysWithin (held m.list) (plain_room s.pool.shape (list_len m.list)) s t
    → WithinRoom (Some plain_room) (length (before ++ cs)) (list_blocks s m.list) s t
map_room s t m i before cs h w = λ z.
    let own = writer_length i.list.writer z in
    rw (← h.all.n) (record { is = let most = w.is in omega (arith, own, most) })

-- what a map has still to answer is what its parts say
pub due_parts : {F : Type 0} (s : RigState) (m : ScanMap F) (before cs : List Command) → HoldsParts s m before cs
    → IsTrue s.device.told → due_of s m ≡ answers_after (apply_of m.settle.kind) before cs
due_parts s m before cs h told =
    ap (λ (n : ℕ). answers_after (apply_of m.settle.kind) (take n (list_commands s m.list)) (drop n (list_commands s m.list))) h.answered
    ∙ ap (λ (xs : List Command). answers_after (apply_of m.settle.kind) (take (length before) xs) (drop (length before) xs)) (h.all.commands told)
    ∙ ap (λ (xs : List Command). answers_after (apply_of m.settle.kind) xs (drop (length before) (before ++ cs))) (take-append_seam before cs)
    ∙ ap (λ (xs : List Command). answers_after (apply_of m.settle.kind) before xs) (drop-append_seam before cs)

pub map_items : {F : Type 0} (s t : RigState) (m : ScanMap F) (result : Result Chain EmFault)
    → IfOk result (AnsweredBy s t m.list (due_of s m))
    → IfOk result (λ c. IsTrue s.device.told → (before cs : List Command) → HoldsParts s m before cs
    → chain_items t c ≡ answers_after (apply_of m.settle.kind) before cs)
map_items s t m (Ok c) a = λ told before cs h. a.items_are told ∙ due_parts s m before cs h told
map_items s t m (Err fault) a = tt

pub stab_room : (s t : RigState) (l : CommandList) → IsCommandList s l → (cs : List Command)
    → HoldsCommands s l cs
    → (IsTrue s.device.told → StaysWithin (held l)
    (plain_room s.pool.shape (list_len l + length (stab_pairs (list_commands s l)))) s t)
    → WithinRoom (Some plain_room) (length cs + length (stab_pairs cs)) (list_blocks s l) s t
stab_room s t l i cs h w = λ z.
    let own = writer_length i.writer z in
    let most = (rw (h.n, h.commands z) at (w z)).is in
    record { is = omega (arith, own, most) }

pub map_full : {F : Type 0} (s t : RigState) (m : ScanMap F) → Sound s → IsScanMap s m → (before cs : List Command)
    → HoldsParts s m before cs → (result : Result Chain EmFault)
    → (IsTrue s.device.told → IfErr result (λ fault. OnFull fault (s.blocks < s.used
    + ceiling (length (due_of s m)) (payload_of s.pool.shape))))
    → IfErr result (Cause s t) → t.blocks ≡ s.blocks
    → IfErr result (FullOverRoom (Some plain_room) (length (before ++ cs)) (list_blocks s m.list) s)
map_full s t m sound i before cs h result full cause same =
    let R : List Record → Type 0 = λ rs. IfErr result (λ fault. OnFull fault (s.blocks < s.used
    + ceiling (length rs) (payload_of s.pool.shape))) in
    answered_full s t m.list sound i.list (length (answers_after (apply_of m.settle.kind) before cs)) (length (before ++ cs))
    (omega (arith, h.all.n))
    (let few = records_few (apply_of m.settle.kind) before cs in let both = length-append before cs in omega (arith, few, both)) result
    (λ z. subst R (due_parts s m before cs h z) (full z)) cause same

pub stab_full : (s t : RigState) (l : CommandList) → Sound s → IsCommandList s l → (cs : List Command)
    → HoldsCommands s l cs → (result : Result Chain EmFault)
    → (IsTrue s.device.told → IfErr result (λ fault. OnFull fault (s.blocks < s.used
    + ceiling (length (stab_pairs (list_commands s l))) (payload_of s.pool.shape))))
    → IfErr result (Cause s t) → t.blocks ≡ s.blocks
    → IfErr result (FullOverRoom (Some plain_room) (length cs + length (stab_pairs cs)) (list_blocks s l) s)
stab_full s t l sound i cs h result full cause same =
    answered_full s t l sound i (length (stab_pairs cs)) (length cs + length (stab_pairs cs))
    (omega (arith, h.n)) (omega arith) result (λ z. rw (h.commands z) at (full z)) cause same
