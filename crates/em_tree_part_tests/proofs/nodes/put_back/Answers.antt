use Rattle.std.proofs.Common.{◌≡◌, ℕ, zero, suc, ◌<◌, List, [], ◌∷◌, length, get_or, refl, sym, ap, ◌∙◌, subst, arith}
use Rattle.std.specs.Prelude.{insert, remove}
use Rattle.std.proofs.lemmas.List.Edits.{length-remove}
use Rattle.em_node.specs.declared.entry.Entry.{Entry}
use Rattle.em_node.specs.Node.{Is, IsLimited, LowsRise, entries_of, level_of, no_entry}
use Rattle.em_node.proofs.Nodes.{limited_one, room_in}
use Rattle.em_node.proofs.Seams.{entries_is, level_is, node_is}
use Rattle.em_tree_part_tests.proofs.nodes.put_back.Goals as goal

-- an entry that was taken out goes in again at its place
back_in : (es : List Entry) (at : ℕ) → at < length es → insert (remove es at) at (get_or es at no_entry) ≡ es
back_in [] at h = absurd (omega arith)
back_in (e ∷ es) zero h = refl
back_in (e ∷ es) (suc at) h = ap (λ fs. e ∷ fs) (back_in es at (omega arith))

pub insert-requires-clause-node : goal.insert-requires-clause-node
insert-requires-clause-node c = node_is c.remove-entry.new.frame _ _ c.remove-entry.ensures.is

pub insert-requires-clause-at : goal.insert-requires-clause-at
insert-requires-clause-at c =
    let es = entries_of c.args.frame.now in
    let e = ap length (entries_is c.remove-entry.new.frame _ _ c.remove-entry.ensures.is) in
    let l = length-remove es c.args.at c.requires.at in
    let h = c.requires.at in omega arith

pub insert-requires-clause-room : goal.insert-requires-clause-room
insert-requires-clause-room c =
    let es = entries_of c.args.frame.now in
    let e = ap length (entries_is c.remove-entry.new.frame _ _ c.remove-entry.ensures.is) in
    let l = length-remove es c.args.at c.requires.at in
    let h = c.requires.at in
    let r = room_in c.args.frame.now c.requires.node in
    let n = c.remove-entry.ensures.len in omega arith

pub insert-requires-clause-limited : goal.insert-requires-clause-limited
insert-requires-clause-limited c =
    let P : Entry → Type 0 = IsLimited in
    subst P (sym c.remove-entry.ensures.entry) (limited_one c.args.frame.now c.args.at c.requires.node c.requires.at)

pub insert-requires-clause-order : goal.insert-requires-clause-order
insert-requires-clause-order c =
    let es = entries_of c.args.frame.now in
    let at = c.args.at in
    let all : insert (entries_of c.remove-entry.new.frame) at c.remove-entry.result ≡ es =
    ap (λ fs. insert fs at c.remove-entry.result) (entries_is c.remove-entry.new.frame _ _ c.remove-entry.ensures.is)
    ∙ (ap (λ e. insert (remove es at) at e) c.remove-entry.ensures.entry ∙ back_in es at c.requires.at) in
    let P : List Entry → Type 0 = LowsRise in subst P (sym all) c.requires.node.is.rises

pub returns-clause-is : goal.returns-clause-is
returns-clause-is c =
    let es = entries_of c.args.frame.now in
    let at = c.args.at in
    let all : insert (entries_of c.remove-entry.new.frame) at c.remove-entry.result ≡ es =
    ap (λ fs. insert fs at c.remove-entry.result) (entries_is c.remove-entry.new.frame _ _ c.remove-entry.ensures.is)
    ∙ (ap (λ e. insert (remove es at) at e) c.remove-entry.ensures.entry ∙ back_in es at c.requires.at) in
    let P : List Entry → Type 0 = λ fs. Is c.insert.new.frame (level_of c.remove-entry.new.frame) fs in
    let Q : ℕ → Type 0 = λ l. Is c.insert.new.frame l es in
    subst Q (level_is c.remove-entry.new.frame _ _ c.remove-entry.ensures.is) (subst P all c.insert.ensures.is)
