use Rattle.std.proofs.Common.{◌≡◌, ◌∙◌, true, arith}
use Rattle.std.specs.Prelude.{bytes_eq}
use Rattle.std.proofs.lemmas.Grind.{common_steps}
use Rattle.em_io.proofs.Texts.{text_under-hit}
use Rattle.em_io.proofs.mem_texts.find.Goals as goal

pub returns-then-eq : goal.returns-then-eq
returns-then-eq c =
    let text = c.index-texts-at.result in
    let same : bytes_eq text.name c.args.name.now ≡ true = grind (arith, common_steps) in
    let hit = text_under-hit c.args.texts.now c.args.name.now c.loop-at.at text in
    c.loop-at.invariant ∙ hit (omega arith) c.index-texts-at.is same
