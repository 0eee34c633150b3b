use Rattle.std.proofs.Common.{◌≡◌, ℕ, List, ◌+◌, ◌*◌, ◌/◌, ◌<◌, ◌≤◌, ◌++◌, get_or, length, length-append, take, true, ap, sym, ◌∙◌, arith, subst, ⊎_elim}
use Rattle.std.proofs.Math.Seq.{take-length}
use Rattle.em_record.specs.Order.{is_below}
use Rattle.em_record.specs.declared.record.Record.{Record}
use Rattle.em_node.specs.declared.entry.Entry.{Entry}
use Rattle.em_node.specs.Node.{Is, LowsRise, entries_of, level_of, no_entry}
use Rattle.em_node.proofs.Seams.{entries_is, level_is, node_is}
use Rattle.em_balance.specs.Fusing.{from_low}
use Rattle.em_balance.proofs.Together.{both_rise, from_length, middle_lower, middle_upper, shared_frames}
use Rattle.em_balance.proofs.sharing.fuse_frames.Goals as goal

pub count-requires-2 : goal.count-requires-2
count-requires-2 c = node_is _ _ _ c.begin_from.ensures.is

pub overflow_add-total : goal.overflow_add-total
overflow_add-total c =
    let ps = entries_of c.args.parent.now in
    let xs = entries_of c.args.low.now in
    let ys = entries_of c.args.high.now in
    let begun = entries_is c.begin_from.new.frame _ _ c.begin_from.ensures.is in
    let ln : length (entries_of c.begin_from.new.frame) ≡ length ys =
    ap length begun ∙ from_length ys c.entry_at-sep.result.low in
    let n1 = c.count.ensures in
    let n2 = c.count-2.ensures in
    let lm = c.requires.low_most in
    let hm = c.requires.high_most in
    let lr = c.requires.low_room in
    let hr = c.requires.high_room in
    let bl = c.begin_from.ensures.len in
    let fan = c.requires.fan in
    omega arith

pub deal-requires-clause-high_node : goal.deal-requires-clause-high_node
deal-requires-clause-high_node c = node_is _ _ _ c.begin_from.ensures.is

pub deal-requires-clause-order : goal.deal-requires-clause-order
deal-requires-clause-order c =
    let ps = entries_of c.args.parent.now in
    let xs = entries_of c.args.low.now in
    let ys = entries_of c.args.high.now in
    let begun = entries_is c.begin_from.new.frame _ _ c.begin_from.ensures.is in
    let ln : length (entries_of c.begin_from.new.frame) ≡ length ys =
    ap length begun ∙ from_length ys c.entry_at-sep.result.low in
    let n1 = c.count.ensures in
    let n2 = c.count-2.ensures in
    let lm = c.requires.low_most in
    let hm = c.requires.high_most in
    let lr = c.requires.low_room in
    let hr = c.requires.high_room in
    let bl = c.begin_from.ensures.len in
    let fan = c.requires.fan in
    let P : List Entry → Type 0 = LowsRise in
    subst P (sym (ap (λ (zs : List Entry). xs ++ zs) begun)) (both_rise xs ys c.entry_at-sep.result.low
    c.requires.low_node.is.rises c.requires.high_node.is.rises
    (c.is_last_below.ensures.below (let t = c.if-not-is_last_below.false in
    let f : c.is_last_below.result ≡ true = cc in f))
    (c.is_second_above.ensures.above (let t = c.if-not-is_second_above.false in
    let f : c.is_second_above.result ≡ true = cc in f)))

pub returns-then-total-fan-clause-deals : goal.returns-then-total-fan-clause-deals
returns-then-total-fan-clause-deals c =
    let ps = entries_of c.args.parent.now in
    let xs = entries_of c.args.low.now in
    let ys = entries_of c.args.high.now in
    let begun = entries_is c.begin_from.new.frame _ _ c.begin_from.ensures.is in
    let ln : length (entries_of c.begin_from.new.frame) ≡ length ys =
    ap length begun ∙ from_length ys c.entry_at-sep.result.low in
    let n1 = c.count.ensures in
    let n2 = c.count-2.ensures in
    let lm = c.requires.low_most in
    let hm = c.requires.high_most in
    let lr = c.requires.low_room in
    let hr = c.requires.high_room in
    let bl = c.begin_from.ensures.len in
    let fan = c.requires.fan in
    let k : c.entry_at-sep.result.low ≡ (get_or ps (c.args.at + 1) no_entry).low =
    ap (λ (x : Entry). x.low) c.entry_at-sep.ensures in
    let e : entries_of c.begin_from.new.frame ≡ from_low (get_or ps (c.args.at + 1) no_entry).low ys =
    begun ∙ ap (λ (q : Record). from_low q ys) k in
    let t = c.if-total-fan.true in
    let d = c.deal.ensures.deals in
    let all = xs ++ entries_of c.begin_from.new.frame in
    let la = length-append xs (entries_of c.begin_from.new.frame) in
    let whole : c.count.result + c.count-2.result ≡ length all = omega arith in
    let P : List Entry → Type 0 = λ zs. Is c.deal.new.low (level_of c.args.low.now) zs in
    let Q : ℕ → Type 0 = λ z. Is c.deal.new.low (level_of c.args.low.now) (take z all) in
    let low : Is c.deal.new.low (level_of c.args.low.now) all =
    subst P (take-length all) (subst Q whole d.low_is) in
    let lf = from_length ys (get_or ps (c.args.at + 1) no_entry).low in
    let lb = length-append xs (from_low (get_or ps (c.args.at + 1) no_entry).low ys) in
    record {
      few = omega arith;
      parent_is = c.remove.ensures.is;
      low_is = subst P (ap (λ (zs : List Entry). xs ++ zs) e) low;
    }

pub share-requires-clause-high_node : goal.share-requires-clause-high_node
share-requires-clause-high_node c = node_is _ _ _ c.begin_from.ensures.is

pub share-requires-clause-order : goal.share-requires-clause-order
share-requires-clause-order c =
    let ps = entries_of c.args.parent.now in
    let xs = entries_of c.args.low.now in
    let ys = entries_of c.args.high.now in
    let begun = entries_is c.begin_from.new.frame _ _ c.begin_from.ensures.is in
    let ln : length (entries_of c.begin_from.new.frame) ≡ length ys =
    ap length begun ∙ from_length ys c.entry_at-sep.result.low in
    let n1 = c.count.ensures in
    let n2 = c.count-2.ensures in
    let lm = c.requires.low_most in
    let hm = c.requires.high_most in
    let lr = c.requires.low_room in
    let hr = c.requires.high_room in
    let bl = c.begin_from.ensures.len in
    let fan = c.requires.fan in
    let P : List Entry → Type 0 = LowsRise in
    subst P (sym (ap (λ (zs : List Entry). xs ++ zs) begun)) (both_rise xs ys c.entry_at-sep.result.low
    c.requires.low_node.is.rises c.requires.high_node.is.rises
    (c.is_last_below.ensures.below (let t = c.if-not-is_last_below.false in
    let f : c.is_last_below.result ≡ true = cc in f))
    (c.is_second_above.ensures.above (let t = c.if-not-is_second_above.false in
    let f : c.is_second_above.result ≡ true = cc in f)))

pub share-requires-clause-low_room : goal.share-requires-clause-low_room
share-requires-clause-low_room c =
    let ps = entries_of c.args.parent.now in
    let xs = entries_of c.args.low.now in
    let ys = entries_of c.args.high.now in
    let begun = entries_is c.begin_from.new.frame _ _ c.begin_from.ensures.is in
    let ln : length (entries_of c.begin_from.new.frame) ≡ length ys =
    ap length begun ∙ from_length ys c.entry_at-sep.result.low in
    let n1 = c.count.ensures in
    let n2 = c.count-2.ensures in
    let lm = c.requires.low_most in
    let hm = c.requires.high_most in
    let lr = c.requires.low_room in
    let hr = c.requires.high_room in
    let bl = c.begin_from.ensures.len in
    let fan = c.requires.fan in
    let s = c.is_short.ensures.short (let t = c.if-not-is_short.false in let f : c.is_short.result ≡ true = cc in f) in
    let few : length xs + length ys < 3 * c.args.fan = ⊎_elim (λ (m : length xs < c.args.fan). omega arith)
    (λ (m : length ys < c.args.fan). omega arith) s in
    omega arith

pub share-requires-clause-high_room : goal.share-requires-clause-high_room
share-requires-clause-high_room c =
    let ps = entries_of c.args.parent.now in
    let xs = entries_of c.args.low.now in
    let ys = entries_of c.args.high.now in
    let begun = entries_is c.begin_from.new.frame _ _ c.begin_from.ensures.is in
    let ln : length (entries_of c.begin_from.new.frame) ≡ length ys =
    ap length begun ∙ from_length ys c.entry_at-sep.result.low in
    let n1 = c.count.ensures in
    let n2 = c.count-2.ensures in
    let lm = c.requires.low_most in
    let hm = c.requires.high_most in
    let lr = c.requires.low_room in
    let hr = c.requires.high_room in
    let bl = c.begin_from.ensures.len in
    let fan = c.requires.fan in
    let s = c.is_short.ensures.short (let t = c.if-not-is_short.false in let f : c.is_short.result ≡ true = cc in f) in
    let few : length xs + length ys < 3 * c.args.fan = ⊎_elim (λ (m : length xs < c.args.fan). omega arith)
    (λ (m : length ys < c.args.fan). omega arith) s in
    omega arith

pub returns-clause-deals : goal.returns-clause-deals
returns-clause-deals c =
    let ps = entries_of c.args.parent.now in
    let xs = entries_of c.args.low.now in
    let ys = entries_of c.args.high.now in
    let begun = entries_is c.begin_from.new.frame _ _ c.begin_from.ensures.is in
    let ln : length (entries_of c.begin_from.new.frame) ≡ length ys =
    ap length begun ∙ from_length ys c.entry_at-sep.result.low in
    let n1 = c.count.ensures in
    let n2 = c.count-2.ensures in
    let lm = c.requires.low_most in
    let hm = c.requires.high_most in
    let lr = c.requires.low_room in
    let hr = c.requires.high_room in
    let bl = c.begin_from.ensures.len in
    let fan = c.requires.fan in
    let k : c.entry_at-sep.result.low ≡ (get_or ps (c.args.at + 1) no_entry).low =
    ap (λ (x : Entry). x.low) c.entry_at-sep.ensures in
    let e : entries_of c.begin_from.new.frame ≡ from_low (get_or ps (c.args.at + 1) no_entry).low ys =
    begun ∙ ap (λ (q : Record). from_low q ys) k in
    let s = c.is_short.ensures.short (let t = c.if-not-is_short.false in let f : c.is_short.result ≡ true = cc in f) in
    let few : length xs + length ys < 3 * c.args.fan = ⊎_elim (λ (m : length xs < c.args.fan). omega arith)
    (λ (m : length ys < c.args.fan). omega arith) s in
    let t = c.if-total-fan.false in
    shared_frames c.args.fan c.args.at c.args.parent.now c.args.low.now c.args.high.now c.share.new.parent
    c.share.new.low c.share.new.high c.begin_from.new.frame c.share.result e
    (level_is c.begin_from.new.frame _ _ c.begin_from.ensures.is) (omega arith) few
    ((c.count.result + c.count-2.result) / 2) (omega arith) c.share.ensures.shares

pub returns-clause-passes : goal.returns-clause-passes
returns-clause-passes c = λ together.
    let ps = entries_of c.args.parent.now in
    let xs = entries_of c.args.low.now in
    let ys = entries_of c.args.high.now in
    let begun = entries_is c.begin_from.new.frame _ _ c.begin_from.ensures.is in
    let ln : length (entries_of c.begin_from.new.frame) ≡ length ys =
    ap length begun ∙ from_length ys c.entry_at-sep.result.low in
    let n1 = c.count.ensures in
    let n2 = c.count-2.ensures in
    let lm = c.requires.low_most in
    let hm = c.requires.high_most in
    let lr = c.requires.low_room in
    let hr = c.requires.high_room in
    let bl = c.begin_from.ensures.len in
    let fan = c.requires.fan in
    let k : c.entry_at-sep.result.low ≡ (get_or ps (c.args.at + 1) no_entry).low =
    ap (λ (x : Entry). x.low) c.entry_at-sep.ensures in
    let e : entries_of c.begin_from.new.frame ≡ from_low (get_or ps (c.args.at + 1) no_entry).low ys =
    begun ∙ ap (λ (q : Record). from_low q ys) k in
    let t = c.if-total-fan.false in
    let keep = (c.count.result + c.count-2.result) / 2 in
    let some : 1 ≤ c.args.fan = ⊎_elim (λ (m : length xs < c.args.fan). omega arith)
    (λ (m : length ys < c.args.fan). omega arith) together.short in
    let rises = c.requires.parent_node.is.rises in
    let Z : List Entry → Record = λ zs. (get_or (xs ++ zs) keep no_entry).low in
    let P : List Entry → Type 0 = λ zs. is_below (get_or ps c.args.at no_entry).low (Z zs) ≡ true in
    let Q : List Entry → Type 0 = λ zs. is_below (Z zs) (get_or ps (c.args.at + 2) no_entry).low ≡ true in
    c.share.ensures.passes
    (subst P (sym e) (middle_lower keep together c.requires.two rises (omega arith) (omega arith)))
    (λ o. subst Q (sym e) (middle_upper keep together rises (omega arith) o))
