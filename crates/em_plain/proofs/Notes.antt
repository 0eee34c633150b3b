-- Commands that are noted in a list.
use Rattle.std.proofs.Common.{◌≡◌, ℕ, ◌+◌, ◌<◌, ◌≤◌, ◌^◌, ◌*◌, ◌-◌, max, ap, sym, ◌∙◌, arith, Result, Ok, Err, OnOk}
use Rattle.em_record.specs.Shape.{payload_of}
use Rattle.em_model.specs.declared.command.Command.{Command}
use Rattle.em_space.specs.Rig.{RigState, Sound, Goes}
use Rattle.em_space.specs.declared.fault.EmFault.{EmFault}
use Rattle.em_space.proofs.Paying.{pays_first, pays_of_owes}
use Rattle.std.proofs.lemmas.Nat.{mul-le}
use Rattle.em_chain.specs.Chain.{payload_in}
use Rattle.em_chain.specs.Counts.{ceiling}
use Rattle.em_chain.specs.Writer.{CanGrow}
use Rattle.em_chain.proofs.Appending.{pos_of}
use Rattle.em_chain.specs.Writes.{Appends, AppendCosts}
use Rattle.em_chain.proofs.Counts.{writer_blocks_are}
use Rattle.em_chain.proofs.Withins.{within_grows}
use Rattle.em_plain.specs.Command.{record_of, commands_in}
use Rattle.em_plain.specs.CommandList.{IsCommandList, Notes, NoteCosts, list_blocks, list_len, held, unstored}
use Rattle.em_plain.specs.Room.{StaysWithin, plain_room}
use Rattle.em_plain.specs.declared.command_list.CommandList.{CommandList}
use Rattle.em_plain.proofs.Commands.{commands_in-more}
use Rattle.em_chain.proofs.Sessions.{ceiling_rises}

-- how many blocks a list holds
pub list_blocks_are : (s : RigState) (l : CommandList) → Sound s → IsCommandList s l
    → held l ≡ ceiling (list_len l) (payload_of s.pool.shape)
list_blocks_are s l h i =
    let e = writer_blocks_are s l.writer h.shape.block_low i.writer in
    rw i.filled_is at e

-- this many records take no more blocks than this
few_blocks : (p b f n : ℕ) → 0 < p → p * (b - 1) + f ≡ n → b ≤ n + 1
few_blocks p b f n pos e = let k = mul-le 1 (b - 1) p (b - 1) pos (omega arith) in omega arith

-- a list with few commands can have one more
pub list_can_grow : (s : RigState) (l : CommandList) → Sound s → IsCommandList s l
    → list_len l < 2 ^ 40 → CanGrow l.writer
list_can_grow s l h i few =
    let low = h.shape.block_low in
    let b = few_blocks (payload_in s) l.writer.blocks l.writer.fill l.writer.count (omega arith)
    i.filled_is in
    record { count = omega arith; blocks = omega arith }

-- A command was noted.
notes_by : {T : Type 0} (s t : RigState) (l m : CommandList) (c : Command) (y : T)
    → IsCommandList s l → list_len l < 2 ^ 40 → Goes (list_blocks s l) s t
    → Appends s t l.writer m.writer (record_of c) → AppendCosts s t l.writer m.writer (Ok y)
    → Notes s t l m c
notes_by s t l m c y i few g a k =
    let f = i.filled_is in
    let af = a.filled_is in
    let ac = a.count_is in
    let some = pos_of m.writer.blocks
    (λ q. let n = a.is.last.none_count q in absurd (omega arith)) in
    record {
      is = record {
        writer = a.is;
        packed = λ y. let z = sym g.touches.told ∙ y in a.packed z (i.packed z);
        filled_is = omega arith;
        few = omega arith;
      };
      commands = λ z. ap commands_in (a.items z) ∙ commands_in-more _ c;
      within = within_grows s (list_blocks s l) (list_blocks t m) a.grown;
      len = ac;
      used = k.used;
      more = k.more;
      pays = pays_first l.writer.blocks m.writer.blocks k.owes_first k.owes some;
    }

pub notes_of : {T : Type 0} (s t : RigState) (l m : CommandList) (c : Command)
    (result : Result T EmFault) → IsCommandList s l → list_len l < 2 ^ 40
    → Goes (list_blocks s l) s t → OnOk result (Appends s t l.writer m.writer (record_of c))
    → AppendCosts s t l.writer m.writer result → OnOk result (Notes s t l m c)
notes_of s t l m c (Ok y) i few g a k = notes_by s t l m c y i few g a k
notes_of s t l m c (Err e) i few g a k = tt

-- one block more at most
note_most : (s t : RigState) (l : CommandList) → Sound s → IsCommandList s l
    → t.most ≡ max s.most t.used → t.used ≤ s.used + 1
    → StaysWithin (held l) (plain_room s.pool.shape (list_len l + 1)) s t
note_most s t l h i most used =
    let low = h.shape.block_low in
    let e = list_blocks_are s l h i in
    let r = ceiling_rises (list_len l) (list_len l + 1) (payload_in s) (omega arith)
    (omega arith) in
    record { is = omega arith }

-- What it costs.
pub note_costs : {T : Type 0} (s t : RigState) (l m : CommandList) (result : Result T EmFault)
    → Sound s → IsCommandList s l → AppendCosts s t l.writer m.writer result
    → NoteCosts s t l result
note_costs s t l m (Ok y) h i k =
    let u = k.used in
    let b = k.more in
    record { most = note_most s t l h i k.most (omega arith); pays = tt; full = tt }
note_costs s t l m (Err e) h i k =
    let low = h.shape.frames_low in
    record {
      most = note_most s t l h i k.most k.used_err;
      pays = pays_of_owes 0 (unstored l) s.pool.shape.frames k.owes_err (omega arith);
      full = k.full;
    }
