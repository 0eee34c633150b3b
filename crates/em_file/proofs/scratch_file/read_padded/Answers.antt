use Rattle.std.proofs.Common.{◌≡◌, ◌-◌, ◌∙◌, length, take, drop, replicate, refl, length-drop}
use Rattle.std.proofs.lemmas.List.{take_rest}
use Rattle.em_file.proofs.Padding.{padded_read}
use Rattle.em_file.proofs.scratch_file.read_padded.Goals as goal

pub returns : goal.returns
returns g c =
    let into = c.read_front.new.into in
    let n = c.in_ok-count.count in
    let r = c.in_ok-count.ensures in
    let rest : length (take (length into - n) (drop n into)) ≡ length into - n =
    rw (take_rest into n) (length-drop n into) in
    let zeros : c.fill.new.self ≡ replicate (length into - n) 0 =
    c.fill.ensures.after (λ y e. e) ∙ rw rest refl in
    rw (zeros, ← c.read_front.auto.into) (padded_read _ _ n into r.within r.read r.end)
