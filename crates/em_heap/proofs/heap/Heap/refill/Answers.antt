use Rattle.std.proofs.Common.{◌≡◌, List, ◌++◌, length, take, drop, ap, sym, subst, ◌∙◌}
use Rattle.em_record.specs.declared.record.Record.{Record}
use Rattle.em_heap.specs.Stock.{IsStock}
use Rattle.em_heap.proofs.Stocks.{seen_as, stock_refills, written}
use Rattle.em_heap.proofs.heap.Heap.refill.Goals as goal

pub invariant_of-self : goal.invariant_of-self
invariant_of-self c =
    let xs = c.self.inside.area in
    let ws = c.rotate_left.new.self in
    let same = c.records_mut.ensures.value in
    let long : length ws ≡ length xs =
    c.rotate_left.ensures.len ∙ ap (λ (l : List Record). length l) same in
    subst (λ (l : List Record). IsStock l c.self.inside.top c.args.len) (sym (written xs ws long))
    (stock_refills xs ws c.self.inside.top c.self.inside.run c.args.len c.args.self.now
    c.self.view_is c.requires.empty c.requires.within c.requires.ascending
    (c.rotate_left.ensures.after
    ∙ ap (λ (l : List Record). drop c.args.len l ++ take c.args.len l) same)).0

pub returns : goal.returns
returns c =
    let xs = c.self.inside.area in
    let ws = c.rotate_left.new.self in
    let same = c.records_mut.ensures.value in
    let long : length ws ≡ length xs =
    c.rotate_left.ensures.len ∙ ap (λ (l : List Record). length l) same in
    ap (λ (l : List Record). seen_as l c.self.inside.top c.args.len) (written xs ws long)
    ∙ (stock_refills xs ws c.self.inside.top c.self.inside.run c.args.len c.args.self.now
    c.self.view_is c.requires.empty c.requires.within c.requires.ascending
    (c.rotate_left.ensures.after
    ∙ ap (λ (l : List Record). drop c.args.len l ++ take c.args.len l) same)).1
