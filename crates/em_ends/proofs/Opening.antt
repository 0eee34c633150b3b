-- The files that a run opens.
use Rattle.std.proofs.Common.{◌≡◌, ℕ, ◌||◌, List, [], Bool, true, false, ap, sym, ◌∙◌, refl, IsSome, Option, Some, is_none, unwrap_or}
use Rattle.em_io.specs.Shelf.{SlotState}
use Rattle.em_space.specs.declared.fault.EmFault.TheVariants as em
use Rattle.em_ends.specs.Stop.{stop_status}
use Rattle.em_ends.specs.Status.{OnDone, OnEnd}
use Rattle.em_ends.specs.declared.status.Status.{Status}
use Rattle.em_ends.specs.declared.status.Status.TheVariants.{Done, Malformed, ReadFault, WriteFault, DeviceFault, Full, NoMemory, Damaged}
use Rattle.em_ends.specs.declared.status.Status.TheVariants as status
use Rattle.em_ends.specs.declared.stop.Stop.{Stop}
use Rattle.em_ends.specs.declared.stop.Stop.TheVariants.{Fault, Read, Write, Em}

-- what holds holds at any end
pub on_end : (s : Status) (P : Type 0) → P → OnEnd s P
on_end Done P p = p
on_end (status.Usage kind word) P p = tt
on_end (Malformed kind place) P p = p
on_end ReadFault P p = tt
on_end WriteFault P p = tt
on_end DeviceFault P p = tt
on_end (Full used) P p = tt
on_end NoMemory P p = tt
on_end (Damaged block) P p = tt

pub on_done : (s : Status) (P : Type 0) → P → OnDone s P
on_done Done P p = p
on_done (status.Usage kind word) P p = tt
on_done (Malformed kind place) P p = tt
on_done ReadFault P p = tt
on_done WriteFault P p = tt
on_done DeviceFault P p = tt
on_done (Full used) P p = tt
on_done NoMemory P p = tt
on_done (Damaged block) P p = tt

-- what holds at an end holds at Done
pub done_end : (s : Status) (P : Type 0) → OnEnd s P → OnDone s P
done_end Done P p = p
done_end (status.Usage kind word) P p = tt
done_end (Malformed kind place) P p = tt
done_end ReadFault P p = tt
done_end WriteFault P p = tt
done_end DeviceFault P p = tt
done_end (Full used) P p = tt
done_end NoMemory P p = tt
done_end (Damaged block) P p = tt

-- A slot that wasn't opened before is lost after an opening only if its file isn't there, also after it
-- was read.
pub lost_opened : (before after later : SlotState) (text : Option (List ℕ)) → before.lost ≡ false
    → after.lost ≡ (before.lost || is_none text) → later.lost ≡ after.lost → later.lost ≡ true
    → is_none text ≡ true
lost_opened before after later text none e same lost =
    sym (ap (λ (x : Bool). x || is_none text) none) ∙ sym e ∙ sym same ∙ lost

-- a text that was opened with Ok is there, and is what was left
pub text_some : (text : Option (List ℕ)) (left : List ℕ) → text ≡ Some left → IsSome text
text_some text left e = rw e refl

pub text_left : (text : Option (List ℕ)) (left : List ℕ) → text ≡ Some left
    → left ≡ unwrap_or text []
text_left text left e = sym (ap (λ (x : Option (List ℕ)). unwrap_or x []) e)

-- a run that stopped isn't done
pub not_done : (stop : Stop) (P : Type 0) → OnDone (stop_status stop) P
not_done (Fault kind place) P = tt
not_done Read P = tt
not_done Write P = tt
not_done (Em em.DeviceFault) P = tt
not_done (Em (em.Full used)) P = tt
not_done (Em (em.Damaged block)) P = tt
