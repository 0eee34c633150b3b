-- What a device that tells nothing of its contents owes its trait.
use Rattle.std.proofs.Common.{◌≡◌, ℕ, ◌≤◌, List, refl, ap, arith, Result, Ok, Err, OnOk, OnErr, IsErrOf}
use Rattle.em_record.specs.Count.{Rose}
use Rattle.em_frames.specs.Device.{IsBegun, IsMove}
use Rattle.em_frames.specs.declared.device.BeginFault.{BeginFault}
use Rattle.em_frames.specs.declared.device.BeginFault.TheVariants.{Failed, NoMemory}
use Rattle.em_file.specs.File.{FileState, after_begin, after_move, untold_device}

-- what holds in any case holds at Ok
pub on_ok : {T E P : Type 0} (result : Result T E) → P → OnOk result P
on_ok (Ok x) p = p
on_ok (Err e) p = tt

module _ {T : Type 0} (block blocks : ℕ) (old new : FileState) where
  pub begun : (result : Result T BeginFault) → new ≡ after_begin result block blocks old
      → OnOk result (IsBegun (untold_device old) (untold_device new) block blocks)
  begun (Ok x) is = rw is (record { block_is = refl; blocks_is = refl; contents = refl })
  begun (Err fault) is = tt

  pub unmoved : (result : Result T BeginFault) → new ≡ after_begin result block blocks old
      → new.moves ≡ old.moves
  unmoved (Ok x) is = rw is refl
  unmoved (Err fault) is = rw is refl

  pub begin_cause : (result : Result T BeginFault) → new ≡ after_begin result block blocks old
      → IsErrOf result Failed → Rose old.faults new.faults
  begin_cause (Ok x) is failed = cc
  begin_cause (Err Failed) is failed = rw is (omega arith)
  begin_cause (Err NoMemory) is failed = cc

pub moved : {T E : Type 0} (old new : FileState) (bytes : List ℕ) (result : Result T E)
    → new ≡ after_move result bytes old
    → old.faults ≤ new.faults → IsMove (untold_device old) (untold_device new) result
moved {T} {E} old new bytes result is later = record {
  told = refl;
  blocks = ap (λ (s : FileState). s.blocks) is;
  block = ap (λ (s : FileState). s.block) is;
  moves = ap (λ (s : FileState). s.moves) is;
  faults = later;
  cause = cause result is;
}
  where
    cause : (result : Result T E) → new ≡ after_move result bytes old
        → OnErr result (Rose old.faults new.faults)
    cause (Ok x) is = tt
    cause (Err e) is = rw is (omega arith)
