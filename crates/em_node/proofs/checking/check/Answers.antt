use Rattle.std.proofs.Common.{ℕ, ◌*◌, drop, sym, ◌∙◌, subst}
use Rattle.std.proofs.lemmas.Bool.{false≢true}
use Rattle.em_record.specs.declared.record.Record.{Record}
use Rattle.em_record.specs.Shape.{fan_of}
use Rattle.em_node.specs.Records.{HasHead, LaidOut}
use Rattle.em_node.proofs.Checks.{block_passes, block_head, block_entries}
use Rattle.em_node.proofs.checking.check.Goals as goal

pub returns-then-not-has_head : goal.returns-then-not-has_head
returns-then-not-has_head c =
    let b = c.args.frame.now in
    let most = 2 * fan_of c.args.shape.now in
    let P : ℕ → Type 0 = λ f. HasHead (2 * f) b in (
      λ t. absurd (false≢true t),
      λ n. sym c.if-not-has_head.true
          ∙ c.has_head.ensures.1 (subst P (sym c.fan.ensures.value) (block_head most c.args.blocks b n)),
    )

pub returns : goal.returns
returns c =
    let b = c.args.frame.now in
    let blocks = c.args.blocks in
    let most = 2 * fan_of c.args.shape.now in
    let P : ℕ → Type 0 = λ f. HasHead (2 * f) b in
    let L : Record → Type 0 = λ r. LaidOut blocks r.b (drop 2 b) in
    let first = c.record_at-first.ensures in
    let head : HasHead most b = subst P c.fan.ensures.value (c.has_head.ensures.0 c.if-not-has_head.false) in (
      λ t. block_passes most blocks b head (subst L first (c.are_entries.ensures.0 t)),
      λ n. c.are_entries.ensures.1 (subst L (sym first) (block_entries most blocks b n)),
    )
