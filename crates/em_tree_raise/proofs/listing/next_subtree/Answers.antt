use Rattle.std.proofs.Common.{◌∙◌, [], ◌∷◌, arith, subst, sym, Result}
use Rattle.em_space.specs.Seen.{seen}
use Rattle.em_space.specs.declared.fault.EmFault.{EmFault}
use Rattle.em_node.specs.declared.entry.Entry.{Entry}
use Rattle.em_tree_load.proofs.AreaReads.{read_then}
use Rattle.em_tree_raise.specs.Subtrees.{ReadsSubtree, TakesSubtrees}
use Rattle.em_tree_raise.proofs.Listings.{of_error}
use Rattle.em_tree_raise.proofs.ReadSubtrees.{damaged_after, has_block, has_record, has_second, subtree_read, take_stops}
use Rattle.em_tree_raise.proofs.listing.next_subtree.Goals as goal

pub next_record-requires-clause-some : goal.next_record-requires-clause-some
next_record-requires-clause-some g c = λ z. has_record c.requires.is (c.requires.left z) z

pub next_record-requires-2-clause-some : goal.next_record-requires-2-clause-some
next_record-requires-2-clause-some g c = λ y.
    let r = c.in_ok-low.ensures.reads in
    let z = sym r.took.told ∙ y in has_second r (c.requires.left z) z

pub returns-in_err-words-clause-reads : goal.returns-in_err-words-clause-reads
returns-in_err-words-clause-reads g c =
    let s = seen g.D.Device.state c.args.rig.now in
    let t = seen g.D.Device.state c.next_record-2.new.rig in
    let P : Result Entry EmFault → Type 0 =
    λ x. ReadsSubtree s t c.args.list.now c.next_record-2.new.list x in
    of_error P c.from_residual-in_err-words.result _ c.from_residual-in_err-words.ensures.1
    (take_stops c.in_ok-low.ensures.reads c.in_err-words.ensures.reads)

pub returns-then-words-blocks-clause-reads : goal.returns-then-words-blocks-clause-reads
returns-then-words-blocks-clause-reads g c =
    let low = c.in_ok-low.low in
    let words = c.in_ok-words.words in
    let r = read_then (low ∷ []) (words ∷ []) c.in_ok-low.ensures.reads c.in_ok-words.ensures.reads in
    damaged_after r (λ z.
    let k = has_block r (c.requires.left z) z in
    let past = c.if-words-blocks.true in
    let blocks = c.blocks-2.ensures in
    let same = r.runs.session.touches.blocks in
    omega (arith, k, past, blocks, same))

pub returns-clause-reads : goal.returns-clause-reads
returns-clause-reads g c =
    let low = c.in_ok-low.low in
    let words = c.in_ok-words.words in
    let s = seen g.D.Device.state c.args.rig.now in
    let t = seen g.D.Device.state c.next_record-2.new.rig in
    let r = read_then (low ∷ []) (words ∷ []) c.in_ok-low.ensures.reads c.in_ok-words.ensures.reads in
    let within = c.if-words-blocks.false in
    let blocks = c.blocks-2.ensures in
    let same = r.runs.session.touches.blocks in
    let P : Entry → Type 0 = λ e. TakesSubtrees s t c.args.list.now c.next_record-2.new.list (e ∷ []) in
    subst P (sym c.subtree_at.ensures) (subtree_read r (omega (arith, within, blocks, same)))
