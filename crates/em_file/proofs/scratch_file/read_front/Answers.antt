use Rattle.std.proofs.Common.{◌≡◌, ◌-◌, ◌≤◌, length, arith, ◌∙◌, length-drop}
use Rattle.std.proofs.lemmas.List.{take_rest}
use Rattle.em_file.proofs.Padding.{consumes_kept, consumes_more, put_length}
use Rattle.em_file.proofs.scratch_file.read_front.Goals as goal
use Rattle.em_file.proofs.scratch_file.read_front.Goals.{in-Ok, in-Err}

pub loop-preserved : goal.loop-preserved
loop-preserved g c =
    let inv = c.loop.invariant in
    let into = c.loop.into in
    let k = c.loop.filled in
    let part = c.read.new.buf in
    let len : length part ≡ length into - k =
    c.read.auto.buf ∙ rw (take_rest into k) (length-drop k into) in
    let all = put_length k into part inv.within len in
    elim c.match-read.branch [
      | in-Ok w ↦
          let r = w.in-Ok.ensures in
          let n : w.in-Ok.count ≤ length part = r.bound.0 in
          rw w.filled-is (record {
            within = omega (arith, all, n, len, inv.within);
            read = consumes_more _ _ _ k w.in-Ok.count into part inv.within n inv.read r.bytes.0;
          })
      | in-Err w ↦
          rw w.filled-is (record {
            within = omega (arith, all, inv.within);
            read = consumes_kept _ _ _ k into part inv.within inv.read w.in-Err.ensures.bytes;
          })
    ]
