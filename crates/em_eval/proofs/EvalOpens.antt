-- The files that an evaluation opens.
use Rattle.std.proofs.Common.{◌≡◌, ℕ, List, Bool, true, IsTrue, IsNone, IsSome, IfSome, Option, Some, None, is_none}
use Rattle.em_io.specs.Shelf.{by_slot, Stand}
use Rattle.em_io.specs.declared.shelf.Slot.{Slot}
use Rattle.em_io.specs.declared.shelf.Slot.TheVariants.{First, Second}
use Rattle.em_ends.specs.Opens.{IsAllRead, OpensSlots, ReadsNamed, text_in}
use Rattle.em_eval.specs.EvalDue.{job_fault}
use Rattle.em_ends.specs.Status.{OnDone, OnEnd}
use Rattle.em_ends.specs.declared.status.Status.{Status}
use Rattle.em_eval.specs.EvalRun.{start_of}
use Rattle.em_ends.proofs.Opening.{done_end}

-- What an evaluation does to a shelf, from what it does to each slot.
pub opens_eval : (uninit : Option Bool) (wide tells told : Bool) (circuit stimulus : List ℕ) (a e : Stand) (s : Status)
    → e.text ≡ a.text
    → (IsTrue tells → (e.slot First).lost ≡ true → is_none (a.text First circuit) ≡ true)
    → (IsTrue tells → (e.slot Second).lost ≡ true → is_none (a.text Second stimulus) ≡ true)
    → (IsTrue tells → OnEnd s (IsSome (a.text First circuit)))
    → (IsTrue tells → OnDone s (IsSome (a.text Second stimulus)))
    → (IsTrue tells → IsTrue told → (e.slot Second).opened ≡ true
    → job_fault wide (start_of uninit) (text_in a First (Some circuit)) ≡ None)
    → OpensSlots (job_fault wide (start_of uninit) (text_in a First (Some circuit)) ≡ None) tells told
    (by_slot (Some circuit) (Some stimulus)) a e s
opens_eval uninit wide tells told circuit stimulus a e s text first second end done faultless = record {
  texts = text;
  others = others;
  lost = lost_of;
  there = there;
  first = end;
  second = faultless;
}
  where
    others : (slot : Slot) → IsNone (by_slot (Some circuit) (Some stimulus) slot)
        → e.slot slot ≡ a.slot slot
    others First n = cc
    others Second n = cc

    lost_of : (slot : Slot) → IsTrue tells → (e.slot slot).lost ≡ true
        → IfSome (by_slot (Some circuit) (Some stimulus) slot) (λ n. is_none (a.text slot n) ≡ true)
    lost_of First t l = first t l
    lost_of Second t l = second t l

    there : (slot : Slot) → IsTrue tells
        → IfSome (by_slot (Some circuit) (Some stimulus) slot) (λ n. OnDone s (IsSome (a.text slot n)))
    there First t = done_end s (IsSome (a.text First circuit)) (end t)
    there Second t = done t

-- Both slots were read to their ends, if all was done.
pub reads_both : (tells : Bool) (circuit stimulus : List ℕ) (e : Stand) (s : Status)
    → OnDone s (IsAllRead tells (e.slot First)) → OnDone s (IsAllRead tells (e.slot Second))
    → ReadsNamed tells (by_slot (Some circuit) (Some stimulus)) e s
reads_both tells circuit stimulus e s first second First = first
reads_both tells circuit stimulus e s first second Second = second
