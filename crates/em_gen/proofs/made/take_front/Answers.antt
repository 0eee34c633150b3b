use Rattle.std.proofs.Common.{◌≡◌, ◌+◌, ◌++◌, ℕ, List, drop, take, refl, subst, arith, length-drop}
use Rattle.em_gen.proofs.Lines.{front_of}
use Rattle.em_gen.proofs.made.take_front.Goals as goal

pub returns-clause-takes : goal.returns-clause-takes
returns-clause-takes c =
    let all = c.bytes-line.result.now in
    let from = c.min-from.result in
    let n = c.min-count.result in
    let left = length-drop from all in
    record {
      line = subst
          (λ (bs : List ℕ). drop c.args.made.now.taken bs
          ≡ take n (c.copy_from_slice.new.self ++ drop n c.args.into.now) ++ drop (from + n) bs)
          c.bytes-line.ensures
          (front_of all _ c.args.made.now.taken from n c.min-from.ensures
          (omega (arith, c.min-count.ensures)) c.copy_from_slice.ensures.after);
      left = refl;
      number = refl;
      draws = refl;
    }
