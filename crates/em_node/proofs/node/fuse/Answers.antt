use Rattle.std.proofs.Common.{◌≡◌, ◌+◌, length, ap, sym, ◌∙◌, arith, subst, List, ℕ, take, ◌++◌, refl}
use Rattle.std.specs.Prelude.{insert}
use Rattle.std.proofs.lemmas.List.{append-nil}
use Rattle.em_node.specs.declared.entry.Entry.{Entry}
use Rattle.em_node.specs.Node.{Is, entries_of, level_of, IsLimited, LowsRise}
use Rattle.em_node.proofs.Seams.{node_is, entries_is, level_is}
use Rattle.em_node.proofs.Nodes.{fuse_one, fuse_rises, fuse_length, limited_one}
use Rattle.em_node.proofs.node.fuse.Goals as goal

pub loop-at-init : goal.loop-at-init
loop-at-init c =
    let b = c.args.frame.now in
    let P : List Entry → Type 0 = λ fs. Is b (level_of b) fs in
    record { len = refl; is = subst P (sym (append-nil (entries_of b))) c.requires.node.is }

pub insert-requires-clause-node : goal.insert-requires-clause-node
insert-requires-clause-node c = node_is c.loop-at.frame _ _ c.loop-at.invariant.is

pub insert-requires-clause-at : goal.insert-requires-clause-at
insert-requires-clause-at c = let e = c.count-end.ensures in omega arith

pub insert-requires-clause-room : goal.insert-requires-clause-room
insert-requires-clause-room c =
    let n = c.count-more.ensures in
    let t = c.loop-at-test.true in
    let e = ap length (entries_is c.loop-at.frame _ _ c.loop-at.invariant.is) in
    let l = fuse_length (entries_of c.args.frame.now) (entries_of c.args.upper.now) c.loop-at.at (omega arith) in
    let r = c.requires.room in
    let len = c.loop-at.invariant.len in omega arith

pub insert-requires-clause-limited : goal.insert-requires-clause-limited
insert-requires-clause-limited c =
    let n = c.count-more.ensures in
    let t = c.loop-at-test.true in
    let P : Entry → Type 0 = IsLimited in
    subst P (sym c.entry_at-entry.ensures)
    (limited_one c.args.upper.now c.loop-at.at c.requires.upper (omega arith))

pub insert-requires-clause-order : goal.insert-requires-clause-order
insert-requires-clause-order c =
    let es = entries_of c.args.frame.now in
    let us = entries_of c.args.upper.now in
    let at = c.loop-at.at in
    let n = c.count-more.ensures in
    let t = c.loop-at-test.true in
    let same = entries_is c.loop-at.frame _ _ c.loop-at.invariant.is in
    let P : List Entry → Type 0 = LowsRise in
    let all : insert (entries_of c.loop-at.frame) c.count-end.result c.entry_at-entry.result ≡ es ++ take (at + 1) us =
    ap (λ fs. insert fs c.count-end.result c.entry_at-entry.result) same
    ∙ (ap (λ e. insert (es ++ take at us) c.count-end.result e) c.entry_at-entry.ensures
    ∙ fuse_one es us at c.count-end.result (omega arith) (c.count-end.ensures ∙ ap length same)) in
    subst P (sym all) (fuse_rises es us (at + 1) c.requires.order)

pub loop-at-preserved : goal.loop-at-preserved
loop-at-preserved c =
    let es = entries_of c.args.frame.now in
    let us = entries_of c.args.upper.now in
    let at = c.loop-at.at in
    let n = c.count-more.ensures in
    let t = c.loop-at-test.true in
    let same = entries_is c.loop-at.frame _ _ c.loop-at.invariant.is in
    let all : insert (entries_of c.loop-at.frame) c.count-end.result c.entry_at-entry.result ≡ es ++ take (at + 1) us =
    ap (λ fs. insert fs c.count-end.result c.entry_at-entry.result) same
    ∙ (ap (λ e. insert (es ++ take at us) c.count-end.result e) c.entry_at-entry.ensures
    ∙ fuse_one es us at c.count-end.result (omega arith) (c.count-end.ensures ∙ ap length same)) in
    let P : List Entry → Type 0 = λ fs. Is c.insert.new.frame (level_of c.loop-at.frame) fs in
    let Q : ℕ → Type 0 = λ l. Is c.insert.new.frame l (es ++ take (at + 1) us) in
    record {
      len = c.insert.ensures.len ∙ c.loop-at.invariant.len;
      is = subst Q (level_is c.loop-at.frame _ _ c.loop-at.invariant.is) (subst P all c.insert.ensures.is);
    }

pub count-end-requires : goal.count-end-requires
count-end-requires c = node_is c.loop-at.frame _ _ c.loop-at.invariant.is
